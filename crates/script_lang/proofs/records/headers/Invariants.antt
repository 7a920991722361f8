use Rattle.std.proofs.Common.{◌≡◌, [], length}
use Rattle.script_lang.specs.Records.{headers_in}
use Rattle.script_lang.proofs.records.headers.Given as goal

abbrev pub invariant-loop-part : goal.invariant-loop-part
invariant-loop-part l = headers_in l.headers l.parts ≡ headers_in [] l.fn.parts

abbrev pub decreases-loop-part : goal.decreases-loop-part
decreases-loop-part l = length l.parts
