use Rattle.std.proofs.Common.{◌≡◌}
use Rattle.script_lang.specs.Script.{empty_parts}
use Rattle.script_lang.proofs.partitions.Partitions.new.Given as goal

abbrev pub invariant-loop-partition : goal.invariant-loop-partition
invariant-loop-partition l = l.parts.items ≡ empty_parts 0 l.partition
