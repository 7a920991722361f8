use Rattle.std.proofs.Common.{◌≡◌, ℕ, List, [], ◌∷◌, ◌++◌, Option, arith, ap, sym, ◌∙◌}
use Rattle.disk_model.specs.declared.history.Event.{Event}
use Rattle.disk_model.specs.declared.history.Op.TheVariants as op
use Rattle.tier_base.specs.Told.{replaced, bytes_in}
use Rattle.disk_model.specs.Patch.{patched}
use Rattle.disk_model.specs.Steps.{Step, Replace, reads, safe, changed}
use Rattle.disk_model.specs.History.{past_of}
use Rattle.disk_model.specs.Kept.{does}
use Rattle.disk_model.proofs.Past.{pushed, stored}
use Rattle.disk_model.proofs.history.History.replace.Goals as goal

pub invariant_of-self-2 : goal.invariant_of-self-2
invariant_of-self-2 c =
    let past = past_of c.self.inside.events.items c.self.inside.crashed in
    let events = c.note.ensures.items ∙ ap (λ (l : List Event). l ++ (record { op = op.Replace c.args.name c.in_ok-patch.patch c.args.sure; crashed = c.self.inside.crashed }) ∷ []) c.in_ok-make_room.ensures.items in
    let makes : patched c.in_ok-patch.patch (bytes_in (reads past c.args.name)) ≡ c.args.bytes.now =
    ap (λ (file : Option (List ℕ)). patched c.in_ok-patch.patch (bytes_in file)) (sym (c.self.invariant.files c.args.name))
    ∙ ap (patched c.in_ok-patch.patch) c.front.ensures.1
    ∙ c.in_ok-patch.ensures c.front.ensures.0 in
    let is = pushed _ _ c.self.inside.crashed _ (op.Replace c.args.name c.in_ok-patch.patch c.args.sure) events c.note.ensures.crashed ∙ ap (λ (b : List ℕ). Replace c.args.name b c.args.sure ∷ past) makes in
    record {
      files = stored reads (Replace c.args.name c.args.bytes.now c.args.sure) _ _ _ _ c.args.name (replaced c.in_ok-file.file) is c.in_ok-put.ensures.ok c.self.invariant.files (λ n. ap (λ (b : List ℕ). changed c.args.name (replaced b) (reads past) n) (sym c.in_ok-file.ensures));
      safe_files = stored safe (Replace c.args.name c.args.bytes.now c.args.sure) _ _ _ _ c.args.name (replaced c.in_ok-file.file) is c.in_ok-put.ensures.safe c.self.invariant.safe_files (λ n. ap (λ (b : List ℕ). changed c.args.name (replaced b) (safe past) n) (sym c.in_ok-file.ensures));
      room = omega (arith, c.in_ok-make_room.ensures.ok, c.note.ensures.len, c.note.ensures.capacity);
    }

pub returns-clause-ok : goal.returns-clause-ok
returns-clause-ok c =
    let past = past_of c.self.inside.events.items c.self.inside.crashed in
    let events = c.note.ensures.items ∙ ap (λ (l : List Event). l ++ (record { op = op.Replace c.args.name c.in_ok-patch.patch c.args.sure; crashed = c.self.inside.crashed }) ∷ []) c.in_ok-make_room.ensures.items in
    let makes : patched c.in_ok-patch.patch (bytes_in (reads past c.args.name)) ≡ c.args.bytes.now =
    ap (λ (file : Option (List ℕ)). patched c.in_ok-patch.patch (bytes_in file)) (sym (c.self.invariant.files c.args.name))
    ∙ ap (patched c.in_ok-patch.patch) c.front.ensures.1
    ∙ c.in_ok-patch.ensures c.front.ensures.0 in
    let is = pushed _ _ c.self.inside.crashed _ (op.Replace c.args.name c.in_ok-patch.patch c.args.sure) events c.note.ensures.crashed ∙ ap (λ (b : List ℕ). Replace c.args.name b c.args.sure ∷ past) makes in
    ap (λ (past : List Step). record { past = past; spare = c.self.inside.spare }) is
    ∙ ap (does (Replace c.args.name c.args.bytes.now c.args.sure)) c.self.view_is
