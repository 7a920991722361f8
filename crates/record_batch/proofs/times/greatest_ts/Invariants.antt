use Rattle.std.proofs.Common.{◌≡◌, drop, FitsSigned, w64}
use Rattle.std.specs.List.{AllWithin}
use Rattle.record_batch.specs.declared.rec.Rec.{Rec}
use Rattle.record_batch.specs.Build.{greatest_from, greatest_ts as greatest_ts_of}
use Rattle.record_batch.proofs.times.greatest_ts.Given as goal

-- the greatest so far, and what was read so far fits
abbrev pub invariant-loop-rec : goal.invariant-loop-rec
invariant-loop-rec l =
    (greatest_from l.ts (drop l.rec-index l.recs) ≡ greatest_ts_of l.recs)
    × AllWithin (λ (r : Rec). FitsSigned w64 r.ts) l.recs 0 l.rec-index
