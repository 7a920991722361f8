use Rattle.std.proofs.Common.{List, ◌-◌, refl, arith, ap, ◌∙◌}
use Rattle.disk_model.specs.declared.history.Op.TheVariants as op
use Rattle.tier_base.specs.Told.{removed}
use Rattle.disk_model.specs.Steps.{Step, Remove, reads, safe}
use Rattle.disk_model.specs.Kept.{does}
use Rattle.disk_model.proofs.Past.{pushed, stored}
use Rattle.disk_model.proofs.history.History.remove.Goals as goal

pub invariant_of-self : goal.invariant_of-self
invariant_of-self c =
    let is = pushed _ _ _ _ (op.Remove c.args.name) c.note.ensures.items c.note.ensures.crashed in
    record {
      files = stored reads (Remove c.args.name) _ _ _ _ c.args.name (removed) is c.remove.ensures.files c.self.invariant.files (λ n. refl);
      safe_files = stored safe (Remove c.args.name) _ _ _ _ c.args.name (removed) is c.remove.ensures.safe c.self.invariant.safe_files (λ n. refl);
      room = omega (arith, c.self.invariant.room, c.note.ensures.len, c.note.ensures.capacity);
    }

pub returns : goal.returns
returns c =
    ap (λ (past : List Step). record { past = past; spare = c.self.inside.spare - 1 }) (pushed _ _ _ _ (op.Remove c.args.name) c.note.ensures.items c.note.ensures.crashed) ∙ ap (does (Remove c.args.name)) c.self.view_is
