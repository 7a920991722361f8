-- What worlds that were run to their ends say of their journals.
use Rattle.std.proofs.Common.{◌≡◌, inl, inr, ◌∙◌, sym, ap, subst, refl, ℕ, zero, suc, List, [], ◌∷◌, ◌++◌, length, slice_get, Some, arith}
use Rattle.std.specs.Prelude.{All}
use Rattle.std.proofs.lemmas.Option.{get_or_from_slice_get, slice_get_within}
use Rattle.disk_model.specs.declared.disk.Disk.{Ghosts as DiskGhosts}
use Rattle.object_store.specs.declared.store.Store.{Ghosts as StoreGhosts}
use Rattle.meta_log.specs.declared.log.MetaLog.{Ghosts as MetaGhosts}
use Rattle.plain_log.specs.declared.command.ActorList.{ActorList}
use Rattle.plain_log.specs.declared.command.Config.{Config}
use Rattle.plain_log.specs.declared.command.Pace.{Pace}
use Rattle.plain_log.specs.declared.command.Pace.TheVariants.{Until}
use Rattle.plain_log.specs.Fresh.{fresh}
use Rattle.plain_log.specs.Orders.{AreListsFor, AreRising, IsConfig}
use Rattle.plain_log.specs.Runs.{IsPlainRun, IsComplete}
use Rattle.plain_log.specs.Laws.{FreshIsSafe, ReplaysKeepSafe}
use Rattle.plain_log.specs.Safe.{PlainSafe}
use Rattle.plain_log.proofs.Grows.{replay_led, replay_runs}
use Rattle.laws_answers.specs.LawsOfDamage.{RunsMeetNoDamage}
use Rattle.laws_answers.specs.Counted.{FaultsAreCounted}
use Rattle.laws_answers.specs.ByPlan.{HaveFailedByPlan}
use Rattle.laws_answers.proofs.FaultsOfJournals.{reaches_counted}
use Rattle.laws_answers.proofs.ToldOfJournals.{reaches_told}
use Rattle.laws_answers.specs.LawsOfFaults.{ReachesByPlan}
use Rattle.partition_world.specs.Whole.{Whole}
use Rattle.partition_world.specs.Turn.{IsAtEnd}
use Rattle.partition_world.specs.Central.{IsCentral}
use Rattle.partition_world.specs.InTurn.{IsInTurn}
use Rattle.partition_world.specs.Laws.{EndsAreComplete, ReachesLater, ReachesInTurn}
use Rattle.partition_world.specs.Reaches.{GoesUntil, HasAnswered, Reaches}
use Rattle.laws_partition.proofs.Lists.{one_list}
use Rattle.partition_world.proofs.LaterLaw.{all_ended}
use Rattle.partition_world.proofs.LastingRuns.{fresh_new}
use Rattle.script_lang.specs.Fit.{StepsTo, StepsToEnds}
use Rattle.script_lang.specs.declared.script.PartScript.{PartScript}
use Rattle.run_memory.specs.Run.{StartsWith, IsJournalOf}
use Rattle.run_memory.proofs.Faulting.{faults_planned}
use Rattle.run_memory.proofs.Scripted.{starts_scripted}

-- what holds of all holds of the one that is at a place
all_at : {A : Type 0} (P : A → Type 0) (xs : List A) (i : ℕ) (x : A) → All P xs → slice_get xs i ≡ Some x → P x
all_at P xs i x h at = subst P (get_or_from_slice_get xs i x x at) (h i x (slice_get_within xs i x at))

module _ {D S M : Type 0} (disk : DiskGhosts D) (store : StoreGhosts S) (meta : MetaGhosts M) where
  -- a schedule in two parts
  reaches_split : (w : Whole D S M) (before after : List Pace) (w' : Whole D S M) → Reaches disk store meta w (before ++ after) w' → (v : Whole D S M) × Reaches disk store meta w before v × Reaches disk store meta v after w'
  reaches_split w [] after w' r = (w, refl, r)
  reaches_split w (pace ∷ before) after w' r =
      let rest = reaches_split r.0 before after w' r.2 in
      (rest.0, (r.0, r.1, rest.1), rest.2)

  -- who was stepped until it had answered so many of its commands has
  until_answered : (w : Whole D S M) (a number turns : ℕ) (w' : Whole D S M) → GoesUntil disk store meta w a number turns w' → HasAnswered w' a number
  until_answered w a number zero w' g = subst (λ (k : Whole D S M). HasAnswered k a number) (sym g.1) g.0
  until_answered w a number (suc turns) w' g = until_answered g.1.0 a number turns w' g.1.2

  -- where the schedule steps the actor of a list to its end, it comes there
  stepped_to_end : (w : Whole D S M) (schedule : List Pace) (w' : Whole D S M) (place : ℕ) (l : ActorList) → ReachesLater disk store meta → AreRising w.lists → slice_get w.lists place ≡ Some l
      → Reaches disk store meta w schedule w' → StepsTo schedule l.actor (length l.orders) → IsAtEnd w' l.actor.0
  stepped_to_end w schedule w' place l law rising at r s =
      let parts = reaches_split w s.before (Until l.actor (length l.orders) ∷ s.after) w' (subst (λ (k : List Pace). Reaches disk store meta w k w') s.parts r) in
      let v : Whole D S M = parts.0 in
      let u : Whole D S M = parts.2.0 in
      let lists : u.lists ≡ w.lists =
      (law v (Until l.actor (length l.orders) ∷ []) u (u, parts.2.1, refl)).lists ∙ (law w s.before v parts.1).lists in
      let answered = until_answered v l.actor.0 (length l.orders) parts.2.1.0 u parts.2.1.1 in
      (law u s.after w' parts.2.2).ends l.actor.0 (λ i m actor_state is.
      let old : slice_get w.lists i ≡ Some m = ap (λ (k : List ActorList). slice_get k i) (sym lists) ∙ is.list in
      let one : i ≡ place = one_list w.lists i place m l rising old at is.actor in
      let same : m ≡ l = cc (old, at, ap (λ (k : ℕ). slice_get w.lists k) one) in
      elim (answered i m actor_state is) [
        | inl many ↦ let long : length m.orders ≡ length l.orders = ap (λ (k : ActorList). length k.orders) same in omega (arith, many, long)
        | inr many ↦ many
      ])

  -- the journal of a world that a schedule reaches, with each actor at its end, is a run of its partition by that schedule
  pub ended_is_run_of : (config : Config) (part : PartScript) (w w' : Whole D S M) → EndsAreComplete disk store meta → ReachesLater disk store meta → ReachesInTurn disk store meta → FreshIsSafe → ReplaysKeepSafe → RunsMeetNoDamage disk store meta → ReachesByPlan disk store meta → IsConfig config → AreListsFor config part.lists
      → StartsWith disk store meta part.partition config part.lists part.faults w → IsCentral disk store meta (fresh config) w → Reaches disk store meta w part.schedule w' → ((a : ℕ) → IsAtEnd w' a) → IsJournalOf disk store meta config part (part.partition.0, w'.journal.items)
  ended_is_run_of config part w w' law goes turns opens keeps undamaged by_plan fits fit starts c reaches ended =
      let f = starts.fresh in
      let lists = part.lists in
      let new = fresh_new disk store meta part.partition config lists starts.disks starts.objects starts.notes w f in
      let later = goes w part.schedule w' reaches in
      let same : w'.config ≡ config = later.config ∙ f.config_is in
      let its : w'.lists ≡ lists = later.lists ∙ f.lists_are in
      let central : IsCentral disk store meta (fresh (w'.config)) w' = subst (λ (k : Config). IsCentral disk store meta (fresh k) w') (sym same) (later.central (fresh config) c) in
      let whole = law w' central ended in
      let run : IsPlainRun config lists w'.journal.items =
      subst (λ (k : Config). IsPlainRun k lists w'.journal.items) same (subst (λ (k : List ActorList). IsPlainRun w'.config k w'.journal.items) its whole.run) in
      let counted : FaultsAreCounted disk store meta w w' =
      reaches_counted disk store meta config lists w part.schedule w' fit new reaches in
      let as_planned : HaveFailedByPlan disk store meta w w' = by_plan w part.schedule w' (starts_scripted disk store meta part config w starts) reaches in
      let safe : PlainSafe run.last = keeps lists (fresh config) w'.journal.items run.last run.replays (opens config) in
      record {
        partition = refl;
        plain = run;
        safe = safe;
        complete = subst (λ (k : List ActorList). IsComplete k w'.journal.items) its whole.complete;
        in_turn = subst (λ (k : List ActorList). IsInTurn k w'.journal.items) its (turns config lists w part.schedule w' fit new reaches);
        led = replay_led lists (fresh config) w'.journal.items run.last run.replays (opens config);
        committed = λ clean. replay_runs lists (fresh config) w'.journal.items run.last run.replays (opens config) clean;
        undamaged = undamaged (fresh config) lists w part.schedule w' new c reaches;
        reached = record {
          first = w;
          last = w';
          starts = starts;
          reaches = reaches;
          central = later.central (fresh config) c;
          counted = counted;
          told = reaches_told disk store meta config lists w part.schedule w' fit new reaches;
          by_plan = as_planned;
          planned = faults_planned disk store meta part.partition config lists part.faults w w' starts as_planned counted;
          its = refl;
        };
      }

  -- a schedule that steps each actor to its end comes there
  schedule_ends : (config : Config) (part : PartScript) (w w' : Whole D S M) → ReachesLater disk store meta → AreListsFor config part.lists → StepsToEnds part
      → StartsWith disk store meta part.partition config part.lists part.faults w → Reaches disk store meta w part.schedule w' → (a : ℕ) → IsAtEnd w' a
  schedule_ends config part w w' goes fit ends starts reaches =
      let f = starts.fresh in
      let lists = part.lists in
      let later = goes w part.schedule w' reaches in
      all_ended disk store meta w' (λ place l at.
      let old : slice_get w.lists place ≡ Some l = ap (λ (k : List ActorList). slice_get k place) (sym later.lists) ∙ at in
      let here : slice_get lists place ≡ Some l = ap (λ (k : List ActorList). slice_get k place) (sym f.lists_are) ∙ old in
      stepped_to_end w part.schedule w' place l goes (subst AreRising (sym f.lists_are) fit.rising) old reaches
      (all_at (λ (m : ActorList). StepsTo part.schedule m.actor (length m.orders)) lists place l ends here))

  -- and so is that of a world that was run by its schedule
  pub is_run_of : (config : Config) (part : PartScript) (w w' : Whole D S M) → EndsAreComplete disk store meta → ReachesLater disk store meta → ReachesInTurn disk store meta → FreshIsSafe → ReplaysKeepSafe → RunsMeetNoDamage disk store meta → ReachesByPlan disk store meta → IsConfig config → AreListsFor config part.lists → StepsToEnds part
      → StartsWith disk store meta part.partition config part.lists part.faults w → IsCentral disk store meta (fresh config) w → Reaches disk store meta w part.schedule w' → IsJournalOf disk store meta config part (part.partition.0, w'.journal.items)
  is_run_of config part w w' law goes turns opens keeps undamaged by_plan fits fit ends starts c reaches =
      ended_is_run_of config part w w' law goes turns opens keeps undamaged by_plan fits fit starts c reaches (schedule_ends config part w w' goes fit ends starts reaches)
