use Rattle.std.proofs.Common.{subst, List, [], ◌∷◌, ◌++◌}
use Rattle.std.specs.Prelude.{All}
use Rattle.std.proofs.lemmas.List.Elements.{All-head, All-tail}
use Rattle.plain_log.specs.Orders.{AreListsFor}
use Rattle.script_lang.specs.declared.script.PartScript.{PartScript}
use Rattle.run_tests.proofs.ready_tests.only_world.Goals as goal

-- what holds of each holds of the last
last_of : {X : Type 0} (P : X → Type 0) (xs : List X) (x : X) → All P (xs ++ x ∷ []) → P x
last_of P [] x all = All-head P x [] all
last_of P (y ∷ xs) x all = last_of P xs x (All-tail P y (xs ++ x ∷ []) all)

pub fresh_world-requires-clause-fit : goal.fresh_world-requires-clause-fit
fresh_world-requires-clause-fit c =
    let P : PartScript → Type 0 = λ part. AreListsFor c.args.config part.lists in
    last_of P c.pop.new.self c.in-Some.part (subst (All P) c.in-Some.ensures.items c.requires.fit)
