use Rattle.std.proofs.Common.{◌≡◌, ◌∙◌, refl, subst, arith}
use Rattle.epoch_line.specs.Line.{IsLine}
use Rattle.copy_task.proofs.Mapping.{ordered, bounded, is_map}
use Rattle.copy_task.proofs.copying.Copying.start_note.Goals as goal

pub returns-clause-rules : goal.returns-clause-rules
returns-clause-rules c =
    let m : c.in_ok-map.map ≡ c.self.inside.segment.epochs = c.in_ok-map.ensures ∙ c.epochs.ensures in
    let line : IsLine c.self.inside.segment.epochs = subst IsLine m c.entries-line.ensures.line in
    let up = ordered _ c.self.invariant.0 in
    let low = bounded _ c.self.invariant.0 in
    record {
      started = refl;
      ordered = omega (arith, up, c.base.ensures, c.last.ensures);
      bounded = omega (arith, low, c.last.ensures);
      map = rw (c.base.ensures, c.last.ensures, m) (is_map _ c.self.invariant.0 line);
      bare = refl;
    }
