use Rattle.std.proofs.Common.{◌≡◌, ap, arith, length, refl, subst, sym, true}
use Rattle.segment_bundle.specs.Parts.{can_pack}
use Rattle.copy_task.specs.Copying.{Copied, copied_of}
use Rattle.copy_task.proofs.Short.{copy_packs}
use Rattle.copy_task.proofs.copying.Copying.packs.Goals as goal

pub returns-then-entries-le-SHORT_LINE : goal.returns-then-entries-le-SHORT_LINE
returns-then-entries-le-SHORT_LINE c =
    let copy = copied_of c.self.inside.id c.self.inside.partition c.self.inside.packed c.self.inside.segment c.self.inside.line c.self.inside.interval in
    let few = ap length c.entries.ensures.entries in
    let packs : can_pack copy.parts ≡ true = copy_packs copy c.self.invariant.0 c.entries.ensures.line (omega (arith, few, c.if-entries-le-SHORT_LINE.true)) in
    record { packs = sym (subst (λ (k : Copied). can_pack k.parts ≡ true) c.self.view_is packs); same = refl }
