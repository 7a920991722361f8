use Rattle.std.proofs.Common.{◌≡◌, drop}
use Rattle.plain_log.specs.State.{is_in}
use Rattle.plain_executor.proofs.elections.is_among.Given as goal

abbrev pub invariant-loop-m : goal.invariant-loop-m
invariant-loop-m l = is_in l.n l.ms ≡ is_in l.n (drop l.m-index l.ms)
