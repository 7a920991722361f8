use Rattle.std.proofs.Common.{◌≡◌, drop}
use Rattle.segment_file.specs.Growing.{latest_from, latest_ts}
use Rattle.segment_file.proofs.growing.latest_of.Given as goal

abbrev pub invariant-loop-batch : goal.invariant-loop-batch
invariant-loop-batch l = latest_from l.latest (drop l.batch-index l.others) ≡ latest_ts l.batches
