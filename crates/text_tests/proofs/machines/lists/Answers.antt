use Rattle.std.proofs.Common.{◌≡◌, ◌∙◌, ap, sym, subst, List, [], ◌∷◌, ◌++◌}
use Rattle.std.proofs.lemmas.List.Elements.{All-nil, All-cons}
use Rattle.plain_log.specs.declared.command.ActorList.{ActorList}
use Rattle.plain_executor.specs.Fits.{AreFor}
use Rattle.plain_executor.proofs.Fitting.{IsListFor, lists_for}
use Rattle.text_tests.proofs.machines.lists.Goals as goal

pub returns : goal.returns
returns c =
    let l = c.in_ok-flushes.field-0 in
    let m = c.in_ok-flushes-2.field-0 in
    let all = c.in_ok-push-2.ensures in
    let front = c.in_ok-push.ensures in
    let are : c.push-2.new.self ≡ l ∷ m ∷ [] =
    all.ok ∙ ap (λ (k : List ActorList). k ++ m ∷ []) (front.ok ∙ ap (λ (k : List ActorList). k ++ l ∷ []) c.new-lists.ensures) in
    subst AreFor (sym are)
    (lists_for (l ∷ m ∷ []) (All-cons IsListFor l (m ∷ []) c.in_ok-flushes.ensures (All-cons IsListFor m [] c.in_ok-flushes-2.ensures (All-nil IsListFor))))
