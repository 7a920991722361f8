use Rattle.std.proofs.Common.{◌≡◌, ◌∙◌, sym, subst, List, ℕ, Some, true, false}
use Rattle.std.proofs.lemmas.Bool.{false≢true}
use Rattle.memory_yard.specs.First.{IsFirstWith}
use Rattle.memory_yard.proofs.Firsts.{offer_kept, offer_taken}
use Rattle.memory_yard.proofs.first.offer.Goals as goal

pub returns-in_ok-from_slice : goal.returns-in_ok-from_slice
returns-in_ok-from_slice c =
    let name : List ℕ = c.args.name.now in
    let no : c.is_behind.result ≡ false = cc in
    subst (λ x. IsFirstWith (λ text. text ≡ name) c.args.first.now (Some x)) (sym c.in_ok-from_slice.ensures)
    (offer_taken c.args.first.now name (λ up. false≢true (sym no ∙ c.is_behind.ensures.1 up)))

pub returns-else-not-is_behind : goal.returns-else-not-is_behind
returns-else-not-is_behind c =
    let yes : c.is_behind.result ≡ true = cc in
    offer_kept c.args.first.now c.args.name.now (c.is_behind.ensures.0 yes)
