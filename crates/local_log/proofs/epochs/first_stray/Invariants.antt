use Rattle.std.proofs.Common.{◌-◌, ◌≤◌, length}
use Rattle.local_log.specs.Epochs.{HasEpoch, ArePassed}
use Rattle.local_log.proofs.epochs.first_stray.Given as goal

abbrev pub invariant-loop-at : goal.invariant-loop-at
invariant-loop-at l = record {
  passed : ArePassed l.line l.bytes l.at;
  known : HasEpoch l.line l.stretch;
  inside : l.at ≤ length l.bytes;
}

abbrev pub decreases-loop-at : goal.decreases-loop-at
decreases-loop-at l = length l.bytes - l.at
