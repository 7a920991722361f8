use Rattle.std.proofs.Common.{◌≡◌, refl, rules, w64, to_z, of_z}
use Rattle.record_batch.specs.Check.{ts_in}
use Rattle.record_batch.proofs.reading.owned.Goals as goal

pub returns : goal.returns
returns c =
    let ts : to_z w64 (of_z w64 c.ts_of.result) ≡ ts_in c.args.head c.args.front.ts_delta = search rules in
    rw (ts, c.in_ok-key.ensures, c.in_ok-value.ensures) refl
