use Rattle.std.proofs.Common.{◌≡◌, ℕ, List, [], ◌∷◌, ◌++◌, refl, arith, ap, ◌∙◌, rules}
use Rattle.disk_model.specs.declared.history.Event.{Event}
use Rattle.disk_model.specs.declared.history.Op.TheVariants as op
use Rattle.disk_model.specs.Content.{appended}
use Rattle.disk_model.specs.Shelf.{made}
use Rattle.disk_model.specs.Steps.{Step, Append, reads, safe, changed}
use Rattle.disk_model.specs.History.{past_of}
use Rattle.disk_model.specs.Kept.{does}
use Rattle.disk_model.proofs.Past.{pushed, stored}
use Rattle.disk_model.proofs.history.History.append.Goals as goal

pub invariant_of-self-2 : goal.invariant_of-self-2
invariant_of-self-2 c =
    let events = c.note.ensures.items ∙ ap (λ (l : List Event). l ++ (record { op = op.Append c.args.name c.in_ok-kept.kept; crashed = c.self.inside.crashed }) ∷ []) c.in_ok-make_room.ensures.items in
    let is = pushed _ _ c.self.inside.crashed _ (op.Append c.args.name c.in_ok-kept.kept) events c.note.ensures.crashed in
    let past = past_of c.self.inside.events.items c.self.inside.crashed in
    let same : c.in_ok-kept.kept ≡ c.in_ok-shared.shared = search rules in
    record {
      files = stored reads (Append c.args.name c.in_ok-kept.kept) _ _ _ _ c.args.name (appended c.in_ok-shared.shared) is c.in_ok-append.ensures.ok c.self.invariant.files (λ n. ap (λ (b : List ℕ). changed c.args.name (appended b) (reads past) n) same);
      safe_files = stored safe (Append c.args.name c.in_ok-kept.kept) _ _ _ _ c.args.name made is c.in_ok-append.ensures.safe c.self.invariant.safe_files (λ n. refl);
      room = omega (arith, c.in_ok-make_room.ensures.ok, c.note.ensures.len, c.note.ensures.capacity);
    }

pub returns-clause-ok : goal.returns-clause-ok
returns-clause-ok c =
    let events = c.note.ensures.items ∙ ap (λ (l : List Event). l ++ (record { op = op.Append c.args.name c.in_ok-kept.kept; crashed = c.self.inside.crashed }) ∷ []) c.in_ok-make_room.ensures.items in
    let is = pushed _ _ c.self.inside.crashed _ (op.Append c.args.name c.in_ok-kept.kept) events c.note.ensures.crashed in
    ap (λ (past : List Step). record { past = past; spare = c.self.inside.spare }) is
    ∙ ap (λ (b : List ℕ). does (Append c.args.name b) (record { past = past_of c.self.inside.events.items c.self.inside.crashed; spare = c.self.inside.spare })) c.in_ok-kept.ensures
    ∙ ap (does (Append c.args.name c.args.bytes.now)) c.self.view_is
