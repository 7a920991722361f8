-- Each entry of a run of the plain log is about an order of its lists, so its size counts.
use Rattle.std.proofs.Common.{◌≡◌, ◌∙◌, refl, sym, ap, ℕ, ◌+◌, Option, Some, None, List, [], ◌∷◌}
use Rattle.std.specs.Option.{option_and_then}
use Rattle.std.proofs.lemmas.List.Sums.{sum_by-cons}
use Rattle.plain_log.specs.declared.command.ActorList.{ActorList}
use Rattle.plain_log.specs.declared.command.Order.{Order}
use Rattle.plain_log.specs.declared.journal.JournalEntry.{JournalEntry}
use Rattle.plain_log.specs.declared.state.State.{State}
use Rattle.plain_log.specs.Runs.{order_of, replay}
use Rattle.plain_log.specs.Step.{step}
use Rattle.run_summary.specs.Told.{bytes_of, ordered_bytes, ordered_size, size_in}

module _ (lists : List ActorList) (entry : JournalEntry) (journal : List JournalEntry) (q : State) where
  abbrev Rest : Type 0
  Rest = (r : State) → replay lists r journal ≡ Some q → ordered_bytes lists journal ≡ bytes_of journal

  after : Rest → (s : Option State) → option_and_then (λ (r : State). replay lists r journal) s ≡ Some q
      → size_in entry.event + ordered_bytes lists journal ≡ size_in entry.event + bytes_of journal
  after rest None e = absurd (let no : ◌≡◌ {A = Option State} None (Some q) = e in cc)
  after rest (Some r) e = ap (λ (n : ℕ). size_in entry.event + n) (rest r e)

  one_more : Rest → (p : State) (o : Option Order) → option_and_then (λ (r : State). replay lists r journal) (option_and_then (λ (order : Order). step p order entry) o) ≡ Some q
      → ordered_size o entry.event + ordered_bytes lists journal ≡ size_in entry.event + bytes_of journal
  one_more rest p None e = absurd (let no : ◌≡◌ {A = Option State} None (Some q) = e in cc)
  one_more rest p (Some order) e = after rest (step p order entry) e

pub ordered : (lists : List ActorList) (p : State) (journal : List JournalEntry) (q : State) → replay lists p journal ≡ Some q
    → ordered_bytes lists journal ≡ bytes_of journal
ordered lists p [] q is = refl
ordered lists p (entry ∷ journal) q is =
    sum_by-cons (λ (e : JournalEntry). ordered_size (order_of lists e) e.event) entry journal
    ∙ (one_more lists entry journal q (λ r e. ordered lists r journal q e) p (order_of lists entry) is
    ∙ sym (sum_by-cons (λ (e : JournalEntry). size_in e.event) entry journal))
