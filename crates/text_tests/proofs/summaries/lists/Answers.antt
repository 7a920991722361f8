use Rattle.std.proofs.Common.{◌≡◌, ◌∙◌, ap, sym, subst, List, [], ◌∷◌, ◌++◌}
use Rattle.std.proofs.lemmas.List.Elements.{All-nil, All-cons}
use Rattle.plain_log.specs.declared.command.ActorList.{ActorList}
use Rattle.plain_executor.specs.Fits.{AreFor}
use Rattle.plain_executor.proofs.Fitting.{IsListFor, lists_for}
use Rattle.text_tests.proofs.summaries.lists.Goals as goal

pub returns : goal.returns
returns c =
    let l = c.in_ok-list.field-0 in
    let all = c.in_ok-push.ensures in
    let are : c.push.new.self ≡ l ∷ [] = all.ok ∙ ap (λ (k : List ActorList). k ++ l ∷ []) c.new-lists.ensures in
    subst AreFor (sym are) (lists_for (l ∷ []) (All-cons IsListFor l [] c.in_ok-list.ensures (All-nil IsListFor)))
