use Rattle.std.proofs.Common.{◌+◌, ◌*◌, refl}
use Rattle.log_manifest.specs.Reading.{manifest_in}
use Rattle.log_manifest.proofs.Inverting.{whole_more}
use Rattle.log_manifest.proofs.reading.manifest.Goals as goal

pub returns-in_default : goal.returns-in_default
unfolding manifest_in
returns-in_default c =
    rw (
      c.bad.ensures,
      ← c.in_ok-front.ensures.exact,
      c.in_ok-segments.ensures,
      ← c.in_ok-count.ensures,
      c.in_ok-line.ensures,
      whole_more (24 + 12 * c.in_ok-front.front.count + 12 * c.in_ok-count.count) _ c.in_ok-line.rest.now c.in_default.len_at_least,
    ) refl
