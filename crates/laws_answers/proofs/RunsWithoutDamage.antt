-- What a schedule reaches from a fresh world says of no damage.
use Rattle.std.proofs.Common.{◌≡◌, inl, inr, sym, subst, ℕ, zero, suc, List, [], ◌∷◌, ◌++◌}
use Rattle.std.specs.List.{AllByRecursion}
use Rattle.disk_model.specs.declared.disk.Disk.{Ghosts as DiskGhosts}
use Rattle.object_store.specs.declared.store.Store.{Ghosts as StoreGhosts}
use Rattle.meta_log.specs.declared.log.MetaLog.{Ghosts as MetaGhosts}
use Rattle.plain_log.specs.declared.answer.Answer.{Answer}
use Rattle.plain_log.specs.declared.answer.Answer.TheVariants.{Damaged}
use Rattle.plain_log.specs.declared.command.ActorList.{ActorList}
use Rattle.plain_log.specs.declared.command.Command.{Command}
use Rattle.plain_log.specs.declared.command.Command.TheVariants.{Join}
use Rattle.plain_log.specs.declared.command.Pace.{Pace}
use Rattle.plain_log.specs.declared.command.Pace.TheVariants.{Until, Times}
use Rattle.plain_log.specs.declared.journal.Event.TheVariants as event
use Rattle.plain_log.specs.declared.journal.JournalEntry.{JournalEntry}
use Rattle.plain_log.specs.declared.state.State.{State}
use Rattle.laws_partition.specs.declared.start_snapshot.StartSnapshot.{StartSnapshot}
use Rattle.laws_partition.specs.declared.start_snapshot.Turned.TheVariants as turned
use Rattle.laws_partition.specs.Turn.{event_of}
use Rattle.partition_world.specs.declared.actor_state.Outcome.{Outcome}
use Rattle.partition_world.specs.declared.actor_state.Outcome.TheVariants.{Answers, Begins}
use Rattle.partition_world.specs.Central.{IsCentral}
use Rattle.partition_world.specs.Fresh.{IsNewWorld}
use Rattle.partition_world.specs.Reaches.{TakesTurn, GoesTimes, GoesUntil, Paces, Reaches}
use Rattle.partition_world.specs.ActorStates.{told_of}
use Rattle.partition_world.specs.Turn.{IsTurn}
use Rattle.partition_world.specs.Whole.{Whole}
use Rattle.partition_world.proofs.CentralLaw.{turn_central}
use Rattle.laws_answers.specs.DeletionsKnown.{DeletionsKnown}
use Rattle.laws_answers.proofs.KnownOfCopies.{keep_known, new_known}
use Rattle.laws_answers.specs.Found.{SpansKnown}
use Rattle.laws_answers.proofs.KnownOfFetches.{keep_spans, new_spans}
use Rattle.laws_answers.specs.FoundByTime.{SearchesKnown}
use Rattle.laws_answers.proofs.KnownOfSearches.{keep_searches, new_searches}
use Rattle.laws_answers.specs.Damage.{TellsNoDamage, MeetsNoDamage}
use Rattle.laws_answers.proofs.RowsWithoutDamage.{none_damaged}

both : (P : JournalEntry → Type 0) (xs ys : List JournalEntry) → AllByRecursion P xs → AllByRecursion P ys → AllByRecursion P (xs ++ ys)
both P [] ys h k = k
both P (x ∷ xs) ys h k = (h.0, both P xs ys h.1 k)

-- a command that begins isn't answered
begins_never : (g : StartSnapshot) (command : Command) (answer : Answer) → event_of (turned.Begins g) command ≡ event.Answers answer → ⊥
begins_never g Join answer is = cc (is)
begins_never g other answer is = cc (is)

module _ {D S M : Type 0} (disk : DiskGhosts D) (store : StoreGhosts S) (meta : MetaGhosts M) where
  module _ (opening : State) where
    -- what turns keep
    record Well (w : Whole D S M) : Type 0 where
      central : IsCentral disk store meta opening w
      known : DeletionsKnown meta w
      spans : SpansKnown meta opening w
      searches : SearchesKnown meta opening w
      meets : MeetsNoDamage w.journal.items

    answers_well : (w : Whole D S M) (a : ℕ) (answer : Answer) (w' : Whole D S M) → Well w → (t : IsTurn disk store meta w a (Answers answer) w')
        → TellsNoDamage (record { actor = t.list.actor; number = t.actor_state.number; event = event.Answers answer })
    answers_well w a (Damaged here from) w' h t place at is = none_damaged disk store meta opening w a here from w' h.central h.known h.spans h.searches t
    answers_well w a other w' h t place at is = cc (is)

    turn_tells : (w : Whole D S M) (a : ℕ) (outcome : Outcome) (w' : Whole D S M) → Well w → (t : IsTurn disk store meta w a outcome w')
        → MeetsNoDamage (told_of t.list.actor t.actor_state.number t.order.command outcome)
    turn_tells w a (Answers answer) w' h t = (answers_well w a answer w' h t, tt)
    turn_tells w a (Begins g) w' h t = (λ place at is. begins_never g t.order.command (Damaged place at) is, tt)
    turn_tells w a other w' h t = tt

    turn_well : (w : Whole D S M) (a : ℕ) (outcome : Outcome) (w' : Whole D S M) → IsTurn disk store meta w a outcome w' → Well w → Well w'
    turn_well w a outcome w' t h = record {
      central = turn_central disk store meta opening w a outcome w' t h.central;
      known = keep_known disk store meta opening w a outcome w' h.central h.known t;
      spans = keep_spans disk store meta opening w a outcome w' h.central h.spans t;
      searches = keep_searches disk store meta opening w a outcome w' h.central h.searches t;
      meets = subst MeetsNoDamage (sym t.entered)
          (both TellsNoDamage w.journal.items (told_of t.list.actor t.actor_state.number t.order.command outcome) h.meets (turn_tells w a outcome w' h t));
    }

    goes_well : (w : Whole D S M) (a : ℕ) (w' : Whole D S M) → TakesTurn disk store meta w a w' → Well w → Well w'
    goes_well w a w' (inl (outcome, t)) h = turn_well w a outcome w' t h
    goes_well w a w' (inr (end, same)) h = subst Well (sym same) h

    times_well : (w : Whole D S M) (a turns : ℕ) (w' : Whole D S M) → GoesTimes disk store meta w a turns w' → Well w → Well w'
    times_well w a zero w' g h = subst Well (sym g) h
    times_well w a (suc turns) w' g h = times_well g.0 a turns w' g.2 (goes_well w a g.0 g.1 h)

    until_well : (w : Whole D S M) (a number turns : ℕ) (w' : Whole D S M) → GoesUntil disk store meta w a number turns w' → Well w → Well w'
    until_well w a number zero w' g h = subst Well (sym g.1) h
    until_well w a number (suc turns) w' g h = until_well g.1.0 a number turns w' g.1.2 (goes_well w a g.1.0 g.1.1 h)

    paces_well : (w : Whole D S M) (pace : Pace) (w' : Whole D S M) → Paces disk store meta w pace w' → Well w → Well w'
    paces_well w (Until actor number) w' g h = until_well w actor.0 number g.0 w' g.1 h
    paces_well w (Times actor turns) w' g h = times_well w actor.0 turns w' g h

    reaches_well : (w : Whole D S M) (schedule : List Pace) (w' : Whole D S M) → Reaches disk store meta w schedule w' → Well w → Well w'
    reaches_well w [] w' r h = subst Well (sym r) h
    reaches_well w (pace ∷ schedule) w' r h = reaches_well r.0 schedule w' r.2 (paces_well w pace r.0 r.1 h)

  pub runs_meet_none : (opening : State) (lists : List ActorList) (w : Whole D S M) (schedule : List Pace) (w' : Whole D S M) → IsNewWorld lists w → IsCentral disk store meta opening w
      → Reaches disk store meta w schedule w' → MeetsNoDamage w'.journal.items
  runs_meet_none opening lists w schedule w' f c r =
      (reaches_well opening w schedule w' r
      (record {
        central = c;
        known = new_known disk store meta lists w f;
        spans = new_spans disk store meta opening lists w f;
        searches = new_searches disk store meta opening lists w f;
        meets = subst MeetsNoDamage (sym f.journal) tt;
      })).meets
