use Rattle.std.proofs.Common.{◌-◌, take}
use Rattle.local_log.specs.Stored.{size_of}
use Rattle.local_log.specs.Parsing.{IsParsing}
use Rattle.local_log.proofs.parsing.parse.Given as goal

abbrev pub invariant-loop-front : goal.invariant-loop-front
invariant-loop-front l = IsParsing l.line l.interval l.extent.base (take l.extent.len l.bytes) l.segment

abbrev pub decreases-loop-front : goal.decreases-loop-front
decreases-loop-front l = l.extent.len - size_of l.segment
