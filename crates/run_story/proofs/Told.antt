-- The moments of a journal, one entry after another.
use Rattle.std.proofs.Common.{◌≡◌, refl, subst, sym, ap, ◌∙◌, ◌+◌, ◌<◌, ◌≤◌, List, [], ◌∷◌, ◌++◌, Some, None, Option, map, ℕ, take, length, get_or}
use Rattle.std.proofs.lemmas.List.{take_more, take_all}
use Rattle.std.proofs.lemmas.List.Elements.{All-weaker}
use Rattle.std.proofs.lemmas.Option.{slice_get-get_or}
use Rattle.plain_log.specs.declared.command.Command.{Command}
use Rattle.plain_log.specs.declared.command.Command.TheVariants.{Append}
use Rattle.plain_log.specs.declared.command.Config.{Config}
use Rattle.plain_log.specs.declared.command.Order.{Order}
use Rattle.plain_log.specs.Orders.{IsInRange, IsOrderFor, IsListFor, AreListsFor}
use Rattle.plain_executor.specs.Fits.{IsBuildableAppend, AreFor}
use Rattle.plain_executor.specs.Traces.{IsRefusedAt}
use Rattle.plain_executor.proofs.Fitting.{IsListFor as IsMachinesList, lists_for}
use Rattle.plain_log.specs.declared.command.ActorList.{ActorList}
use Rattle.plain_log.specs.declared.journal.JournalEntry.{JournalEntry}
use Rattle.plain_log.specs.declared.state.State.{State}
use Rattle.plain_log.specs.Runs.{entry_step, replay}
use Rattle.run_story.specs.declared.moment.Moment.{Moment}
use Rattle.run_story.specs.Moments.{IsMoment, Advances, AreMoments, IsStory, moment_key, entry_key}

-- one more entry
pub one_more : (lists : List ActorList) (p : State) (journal : List JournalEntry) (q : State) (moments : List Moment) (entry : JournalEntry) (r : State) (m : Moment)
    → AreMoments lists p journal q moments → entry_step lists q entry ≡ Some r → IsMoment lists entry r m
    → AreMoments lists p (journal ++ entry ∷ []) r (moments ++ m ∷ [])
one_more lists p [] q [] entry r m are step is = (r, subst (λ (z : State). entry_step lists z entry ≡ Some r) are step, is, refl)
one_more lists p (e ∷ journal) q (n ∷ moments) entry r m are step is =
    (are.0, are.1, are.2, one_more lists are.0 journal q moments entry r m are.3 step is)
one_more lists p [] q (n ∷ moments) entry r m are step is = absurd are
one_more lists p (e ∷ journal) q [] entry r m are step is = absurd are

-- they lead from the first state to the last
pub led : (lists : List ActorList) (p : State) (journal : List JournalEntry) (q : State) (moments : List Moment)
    → AreMoments lists p journal q moments → replay lists p journal ≡ Some q
led lists p [] q [] are = rw are refl
led lists p (e ∷ journal) q (n ∷ moments) are = rw are.1 (led lists are.0 journal q moments are.3)
led lists p [] q (n ∷ moments) are = absurd are
led lists p (e ∷ journal) q [] are = absurd are

-- each is of its entry's command
pub keyed : (lists : List ActorList) (p : State) (journal : List JournalEntry) (q : State) (moments : List Moment)
    → AreMoments lists p journal q moments → map moment_key moments ≡ map entry_key journal
keyed lists p [] q [] are = refl
keyed lists p (e ∷ journal) q (n ∷ moments) are =
    let rest = keyed lists are.0 journal q moments are.3 in
    let actor = are.2.actor in
    let number = are.2.number in
    cc (rest, actor, number)
keyed lists p [] q (n ∷ moments) are = absurd are
keyed lists p (e ∷ journal) q [] are = absurd are

-- all of them
pub story : (lists : List ActorList) (p : State) (journal : List JournalEntry) (q : State) (moments : List Moment)
    → AreMoments lists p journal q moments → IsStory lists p journal q moments
story lists p journal q moments are = record {
  replays = led lists p journal q moments are;
  once = keyed lists p journal q moments are;
  each = are;
}

-- the plain log takes what a world takes
is_for : (command : Command) → IsInRange command → IsBuildableAppend command
is_for (Append recs) h = h
is_for other h = tt

pub fits : (config : Config) (lists : List ActorList) → AreListsFor config lists → AreFor lists
fits config lists h =
    lists_for lists (All-weaker (IsListFor config) IsMachinesList
    (λ l own. All-weaker (IsOrderFor config) (λ (order : Order). IsBuildableAppend order.command) (λ order is. is_for order.command is.command) l.orders own.orders) lists h.each)

-- an entry that is a step has the next moment
pub goes_on : (lists : List ActorList) (p q r : State) (journal : List JournalEntry) (place : ℕ) (entry : JournalEntry) (moments more : List Moment) (m : Moment) (o : Option Moment)
    → place < length journal → entry ≡ get_or journal place entry → AreMoments lists p (take place journal) q moments → o ≡ Some m
    → Advances lists q entry r o → more ≡ moments ++ m ∷ [] → AreMoments lists p (take (place + 1) journal) r more
goes_on lists p q r journal place entry moments more m o below is are some advances pushed =
    let got = subst (λ (k : Option Moment). Advances lists q entry r k) some advances in
    let here : take (place + 1) journal ≡ take place journal ++ entry ∷ [] =
    take_more journal place entry below ∙ ap (λ (e : JournalEntry). take place journal ++ e ∷ []) (sym is) in
    subst (λ (j : List JournalEntry). AreMoments lists p j r more) (sym here)
    (subst (λ (l : List Moment). AreMoments lists p (take place journal ++ entry ∷ []) r l) (sym pushed)
    (one_more lists p (take place journal) q moments entry r m are got.0 got.1))

-- one that is none is the first of the journal that is none
pub refused_there : (lists : List ActorList) (p q r : State) (journal : List JournalEntry) (place : ℕ) (entry : JournalEntry) (moments : List Moment) (o : Option Moment)
    → place < length journal → entry ≡ get_or journal place entry → AreMoments lists p (take place journal) q moments → o ≡ None
    → Advances lists q entry r o → IsRefusedAt lists p journal r place
refused_there lists p q r journal place entry moments o below is are none advances =
    let got = subst (λ (k : Option Moment). Advances lists q entry r k) none advances in
    record {
      entry = entry;
      run = led lists p (take place journal) q moments are ∙ ap Some (sym got.1);
      entry_is = slice_get-get_or journal place entry below ∙ ap Some (sym is);
      refused = subst (λ (z : State). entry_step lists z entry ≡ None) (sym got.1) got.0;
    }

-- the whole journal
pub told_all : (lists : List ActorList) (p q : State) (journal : List JournalEntry) (place : ℕ) (moments : List Moment) → length journal ≤ place
    → AreMoments lists p (take place journal) q moments → IsStory lists p journal q moments
told_all lists p q journal place moments end are =
    story lists p journal q moments (subst (λ (j : List JournalEntry). AreMoments lists p j q moments) (take_all place journal end) are)
