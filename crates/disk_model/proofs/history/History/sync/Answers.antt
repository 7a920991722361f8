use Rattle.std.proofs.Common.{List, ◌-◌, arith, ap, ◌∙◌}
use Rattle.disk_model.specs.declared.history.Op.TheVariants as op
use Rattle.disk_model.specs.Shelf.{files_on, safe_on}
use Rattle.disk_model.specs.Steps.{Step, Sync, reads, safe}
use Rattle.disk_model.specs.Kept.{does}
use Rattle.disk_model.proofs.Past.{pushed, stored_as, synced_as}
use Rattle.disk_model.proofs.history.History.sync.Goals as goal

pub invariant_of-self : goal.invariant_of-self
invariant_of-self c =
    let is = pushed _ _ _ _ (op.Sync c.args.name) c.note.ensures.items c.note.ensures.crashed in
    record {
      files = stored_as reads (Sync c.args.name) _ _ _ is (λ n. c.sync.ensures.files n ∙ c.self.invariant.files n);
      safe_files = stored_as safe (Sync c.args.name) _ _ _ is (synced_as c.args.name (files_on c.self.inside.shelf) (safe_on c.sync.new.self) _ _ c.sync.ensures.there (λ n ne. c.sync.ensures.others n ne ∙ c.self.invariant.safe_files n) c.self.invariant.files);
      room = omega (arith, c.self.invariant.room, c.note.ensures.len, c.note.ensures.capacity);
    }

pub returns : goal.returns
returns c =
    ap (λ (past : List Step). record { past = past; spare = c.self.inside.spare - 1 }) (pushed _ _ _ _ (op.Sync c.args.name) c.note.ensures.items c.note.ensures.crashed) ∙ ap (does (Sync c.args.name)) c.self.view_is
