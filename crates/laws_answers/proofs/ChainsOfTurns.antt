-- A command is answered within so many turns of its actor, and as its last turn has it.
use Rattle.std.proofs.Common.{◌≡◌, ◌≢◌, ◌∙◌, ◌⊎◌, inl, inr, sym, ap, subst, refl, ℕ, ◌+◌, ◌<◌, ◌≤◌, ◌==◌, Bool, true, false, List, [], ◌∷◌, ◌++◌, Some, slice_get, slice_set, arith, append_assoc, append-nil}
use Rattle.std.proofs.lemmas.Bool.Decides.{nat_tests}
use Rattle.tier_base.specs.declared.names.ActorId.{ActorId}
use Rattle.disk_model.specs.declared.disk.Disk.{Ghosts as DiskGhosts}
use Rattle.object_store.specs.declared.store.Store.{Ghosts as StoreGhosts}
use Rattle.meta_log.specs.declared.log.MetaLog.{Ghosts as MetaGhosts}
use Rattle.log_terms.proofs.Lists.{within}
use Rattle.copy_task.specs.declared.turn.CopyStep.{CopyStep as Copying}
use Rattle.copy_task.specs.declared.turn.CopyStep.TheVariants as copying
use Rattle.expiry_task.specs.declared.turn.DeletionStep.{DeletionStep as Deletion}
use Rattle.expiry_task.specs.declared.turn.DeletionStep.TheVariants as deletion
use Rattle.rebuild_task.specs.declared.turn.RebuildStep.{RebuildStep as Rebuild}
use Rattle.rebuild_task.specs.declared.turn.RebuildStep.TheVariants.{Epochs, Restart}
use Rattle.tier_fetch.specs.declared.turn.FetchStep.{FetchStep as Search}
use Rattle.tier_fetch.specs.declared.turn.FetchStep.TheVariants.{Refresh, Index, Log}
use Rattle.time_find.specs.declared.turn.SearchStep.{SearchStep as Dating}
use Rattle.plain_log.specs.declared.answer.Answer.{Answer}
use Rattle.plain_log.specs.declared.command.ActorList.{ActorList}
use Rattle.plain_log.specs.declared.command.Command.{Command}
use Rattle.plain_log.specs.declared.command.Command.TheVariants.{Copy, Expire, Fetch, Join, Trim, Follow, Offset}
use Rattle.plain_log.specs.declared.command.Which.TheVariants.{LatestTiered, At}
use Rattle.plain_log.specs.declared.command.Order.{Order}
use Rattle.plain_log.specs.declared.journal.Event.TheVariants as event
use Rattle.plain_log.specs.declared.journal.JournalEntry.{JournalEntry}
use Rattle.plain_log.specs.Orders.{AreRising}
use Rattle.laws_partition.proofs.BoolTests.{eq_same}
use Rattle.laws_partition.proofs.Lists.{one_list}
use Rattle.laws_partition.proofs.Standing.{get_put}
use Rattle.tier_safe.proofs.Basics.{nat_cases, one_some}
use Rattle.partition_world.specs.declared.actor_state.Outcome.{Outcome}
use Rattle.partition_world.specs.declared.actor_state.Outcome.TheVariants.{Answers}
use Rattle.partition_world.specs.declared.actor_state.ActorState.{ActorState}
use Rattle.partition_world.specs.declared.actor_state.InProgress.{InProgress}
use Rattle.partition_world.specs.declared.actor_state.InProgress.TheVariants.{Idle, Noted, Copies, Seeks, Dates, Expires, Rebuilds}
use Rattle.partition_world.specs.Reaches.{TakesTurn as GoesOnce}
use Rattle.partition_world.specs.ActorStates.{actor_state_after, told_of, IsUnanswered}
use Rattle.partition_world.specs.Turn.{IsNextOrder, IsTurn}
use Rattle.partition_world.specs.Whole.{Whole}
use Rattle.laws_answers.specs.Turns.{copying_left, deleting_left, seeking_left, dating_left, rebuilding_left, turns_of, second_left, turns_left}
use Rattle.laws_answers.specs.Chains.{times, IsCommandAnswered, RunsTurns}
use Rattle.laws_answers.proofs.Progress.{go_on, others_stay}

-- a command takes one turn more at least
some_copying : (next : Copying) → 1 ≤ copying_left next
some_copying copying.Start = omega arith
some_copying (copying.Put n) = omega arith
some_copying copying.Finish = omega arith
some_copying copying.Check = omega arith
some_copying (copying.Delete n) = omega arith

some_deleting : (next : Deletion) → 1 ≤ deleting_left next
some_deleting deletion.Start = omega arith
some_deleting (deletion.Delete n) = omega arith
some_deleting deletion.Finish = omega arith

some_seeking : (next : Search) → 1 ≤ seeking_left next
some_seeking Refresh = omega arith
some_seeking (Index piece) = omega arith
some_seeking (Log piece span) = omega arith

some_dating : (cursor : ℕ) (next : Dating) → 1 ≤ dating_left cursor next
some_dating cursor next = omega arith

some_rebuilding : (next : Rebuild) → 1 ≤ rebuilding_left next
some_rebuilding Epochs = omega arith
some_rebuilding (Restart line) = omega arith

some_first : (command : Command) → 1 ≤ turns_of command
some_first Copy = omega arith
some_first Expire = omega arith
some_first (Fetch offset limit) = omega arith
some_first Join = omega arith
some_first Trim = omega arith
some_first (Follow limit) = omega arith
some_first (Offset LatestTiered) = omega arith
some_first (Offset (At ts)) = omega arith
some_first other = omega arith

some_second : (command : Command) → 1 ≤ second_left command
some_second Copy = omega arith
some_second Expire = omega arith
some_second (Fetch offset limit) = omega arith
some_second Join = omega arith
some_second (Offset (At ts)) = omega arith
some_second other = omega arith

pub some_left : (command : Command) (in_progress : InProgress) → 1 ≤ turns_left command in_progress
some_left command Idle = some_first command
some_left command (Noted g) = some_second command
some_left command (Copies g copy next) = some_copying next
some_left command (Seeks g next) = some_seeking next
some_left command (Dates g cursor next) = some_dating cursor next
some_left command (Expires g expired_segment next) = some_deleting next
some_left command (Rebuilds g next) = some_rebuilding next

-- the actor's own turns are counted
times_own : (a b : ℕ) (actors : List ℕ) → b ≡ a → times a (b ∷ actors) ≡ 1 + times a actors
times_own a b actors is = rw (eq_same b a is) refl

times_other : (a b : ℕ) (actors : List ℕ) → b ≢ a → times a (b ∷ actors) ≡ times a actors
times_other a b actors ne = by (b == a) refl
  where
    by : (t : Bool) → (b == a) ≡ t → times a (b ∷ actors) ≡ times a actors
    by true is = absurd (ne (grind (arith, nat_tests, is)))
    by false is = rw is refl

number_stays : (actor_state : ActorState) (outcome : Outcome) → IsUnanswered outcome → (actor_state_after actor_state outcome).number ≡ actor_state.number
number_stays actor_state (Answers answer) un = absurd un
number_stays actor_state other un = refl

answered_or : (outcome : Outcome) → ((k : Answer) × (outcome ≡ Answers k)) ⊎ IsUnanswered outcome
answered_or (Answers k) = inl (k, refl)
answered_or other = inr tt

-- the entry of an answer
abbrev pub entry : ActorId → ℕ → Answer → JournalEntry
entry actor number answer = record { actor = actor; number = number; event = event.Answers answer }

module _ {D S M : Type 0} (disk : DiskGhosts D) (store : StoreGhosts S) (meta : MetaGhosts M) where
  -- what is answered stays so
  answered_more : (v u : Whole D S M) (actor : ActorId) (number : ℕ) (answer : Answer) (more : List JournalEntry) → u.journal.items ≡ v.journal.items ++ more
      → IsCommandAnswered v actor number answer → IsCommandAnswered u actor number answer
  answered_more v u actor number answer more is h = record {
    before = h.before;
    after = h.after ++ more;
    is = is ∙ (ap (λ (items : List JournalEntry). items ++ more) h.is ∙ append_assoc h.before (entry actor number answer ∷ h.after) more);
  }

  goes_more : (v : Whole D S M) (b : ℕ) (u : Whole D S M) → GoesOnce disk store meta v b u → (more : List JournalEntry) × (u.journal.items ≡ v.journal.items ++ more)
  goes_more v b u (inl (outcome, t)) = (told_of t.list.actor t.actor_state.number t.order.command outcome, t.entered)
  goes_more v b u (inr (end, same)) = ([], ap (λ (k : Whole D S M). k.journal.items) same ∙ sym (append-nil v.journal.items))

  -- the turn is the command's own
  pub own_turn : (place : ℕ) (v : Whole D S M) (b : ℕ) (outcome : Outcome) (u : Whole D S M) (t : IsTurn disk store meta v b outcome u) → t.place ≡ place → IsNextOrder v b place t.list t.actor_state t.order
  own_turn place v b outcome u t same = record {
    at = record {
      list = ap (λ (n : ℕ). slice_get v.lists n) (sym same) ∙ t.at.list;
      actor = t.at.actor;
      actor_state_is = ap (λ (n : ℕ). slice_get v.desk n) (sym same) ∙ t.at.actor_state_is;
    };
    next = t.next;
  }

  -- by what falls from each of its turns to the next
  module _ (I : Whole D S M → Type 0) (P : Whole D S M → ℕ → Whole D S M → Type 0) (W : InProgress → Type 0) (Q : Answer → Type 0) (kind : Command) (a place number : ℕ) (l : ActorList) (left : InProgress → ℕ)
      (some : (in_progress : InProgress) → 1 ≤ left in_progress)
      (falls : (v : Whole D S M) (b : ℕ) (outcome : Outcome) (u : Whole D S M) (t : IsTurn disk store meta v b outcome u) → IsUnanswered outcome → P v b u → t.place ≡ place → t.actor_state.number ≡ number
      → t.order.command ≡ kind → left (actor_state_after t.actor_state outcome).in_progress < left t.actor_state.in_progress)
      (keeps : (v : Whole D S M) (b : ℕ) (outcome : Outcome) (u : Whole D S M) → IsTurn disk store meta v b outcome u → I v → I u)
      (ends : (v : Whole D S M) (b : ℕ) (outcome : Outcome) (answer : Answer) (u : Whole D S M) (t : IsTurn disk store meta v b outcome u) → outcome ≡ Answers answer → I v → P v b u → t.place ≡ place
      → t.actor_state.number ≡ number → t.order.command ≡ kind → W t.actor_state.in_progress → Q answer)
      (further : (v : Whole D S M) (b : ℕ) (outcome : Outcome) (u : Whole D S M) (t : IsTurn disk store meta v b outcome u) → IsUnanswered outcome → W t.actor_state.in_progress → W (actor_state_after t.actor_state outcome).in_progress) where
    abbrev pub Result : Whole D S M → Type 0
    Result u = (answer : Answer) × Q answer × IsCommandAnswered u l.actor number answer

    -- the command is still to be answered
    pub record Waits (v : Whole D S M) : Type 0 where
      pub rising : AreRising v.lists
      pub actor_state : ActorState
      pub order : Order
      pub next : IsNextOrder v a place l actor_state order
      pub number_is : actor_state.number ≡ number
      pub kind_is : order.command ≡ kind
      pub works : W actor_state.in_progress

    stays : (actors : List ℕ) (v u : Whole D S M) → RunsTurns disk store meta P v actors u → Result v → Result u
    stays [] v u r h = subst Result (sym r) h
    stays (b ∷ actors) v u (x, goes, p, rest) h =
        let more = goes_more v b x goes in
        stays actors x u rest (h.0, h.1, answered_more v x l.actor number h.0 more.0 more.1 h.2)

    -- a turn of the command itself
    module _ (v : Whole D S M) (b : ℕ) (outcome : Outcome) (u : Whole D S M) (t : IsTurn disk store meta v b outcome u) (s : Waits v) (same : t.place ≡ place) where
      list_is : t.list ≡ l
      list_is = one_some (slice_get v.lists t.place) t.list l t.at.list (ap (λ (n : ℕ). slice_get v.lists n) same ∙ s.next.at.list)

      actor_state_is : t.actor_state ≡ s.actor_state
      actor_state_is = one_some (slice_get v.desk t.place) t.actor_state s.actor_state t.at.actor_state_is (ap (λ (n : ℕ). slice_get v.desk n) same ∙ s.next.at.actor_state_is)

      order_is : t.order ≡ s.order
      order_is = one_some (slice_get t.list.orders t.actor_state.number) t.order s.order t.next
          (ap (λ (k : ActorList). slice_get k.orders t.actor_state.number) list_is ∙ (ap (λ (q : ActorState). slice_get l.orders q.number) actor_state_is ∙ s.next.next))

      actor_is : b ≡ a
      actor_is = sym t.at.actor ∙ (ap (λ (k : ActorList). k.actor.0) list_is ∙ s.next.at.actor)

      told_number : t.actor_state.number ≡ number
      told_number = ap (λ (q : ActorState). q.number) actor_state_is ∙ s.number_is

      is_kind : t.order.command ≡ kind
      is_kind = ap (λ (o : Order). o.command) order_is ∙ s.kind_is

      keeps_in_progress : W t.actor_state.in_progress
      keeps_in_progress = subst (λ (q : ActorState). W q.in_progress) (sym actor_state_is) s.works

      answered : (k : Answer) → outcome ≡ Answers k → I v → P v b u → Result u
      answered k is i p = (
        k,
        ends v b outcome k u t is i p same told_number is_kind keeps_in_progress,
        record {
          before = v.journal.items;
          after = [];
          is = t.entered
              ∙ (ap (λ (o : Outcome). v.journal.items ++ told_of t.list.actor t.actor_state.number t.order.command o) is
              ∙ (ap (λ (x : ActorList). v.journal.items ++ entry x.actor t.actor_state.number k ∷ []) list_is ∙ ap (λ (n : ℕ). v.journal.items ++ entry l.actor n k ∷ []) told_number));
        },
      )

      goes_on : IsUnanswered outcome → P v b u → (r : Waits u) × (left r.actor_state.in_progress < left s.actor_state.in_progress)
      goes_on un p =
          let after = actor_state_after t.actor_state outcome in
          let there : slice_get u.desk place ≡ Some after =
          ap (λ (d : List ActorState). slice_get d place) t.desk ∙ (ap (λ (n : ℕ). slice_get (slice_set v.desk t.place after) n) (sym same) ∙ get_put v.desk t.place t.actor_state after t.at.actor_state_is) in
          let still : after.number ≡ s.actor_state.number = number_stays t.actor_state outcome un ∙ ap (λ (q : ActorState). q.number) actor_state_is in (
            record {
              rising = subst AreRising (sym t.lists) s.rising;
              actor_state = after;
              order = s.order;
              next = record {
                at = record { list = ap (λ (k : List ActorList). slice_get k place) t.lists ∙ s.next.at.list; actor = s.next.at.actor; actor_state_is = there };
                next = ap (λ (n : ℕ). slice_get l.orders n) still ∙ s.next.next;
              };
              number_is = still ∙ s.number_is;
              kind_is = s.kind_is;
              works = further v b outcome u t un keeps_in_progress;
            },
            subst (λ (q : ActorState). left after.in_progress < left q.in_progress) actor_state_is (falls v b outcome u t un p same told_number is_kind),
          )

    -- a turn of another command
    module _ (v : Whole D S M) (b : ℕ) (outcome : Outcome) (u : Whole D S M) (t : IsTurn disk store meta v b outcome u) (s : Waits v) (other : t.place ≢ place) where
      beside : (r : Waits u) × (r.actor_state ≡ s.actor_state)
      beside = (
        record {
          rising = subst AreRising (sym t.lists) s.rising;
          actor_state = s.actor_state;
          order = s.order;
          next = record {
            at = record {
              list = ap (λ (k : List ActorList). slice_get k place) t.lists ∙ s.next.at.list;
              actor = s.next.at.actor;
              actor_state_is = others_stay disk store meta v b outcome u t place (λ e. other (sym e)) ∙ s.next.at.actor_state_is;
            };
            next = s.next.next;
          };
          number_is = s.number_is;
          kind_is = s.kind_is;
          works = s.works;
        },
        refl,
      )

      not_own : b ≢ a
      not_own e = other (one_list v.lists t.place place t.list l s.rising t.at.list s.next.at.list (t.at.actor ∙ (e ∙ sym s.next.at.actor)))

    pub run_by : (actors : List ℕ) (v u : Whole D S M) (s : Waits v) → I v → RunsTurns disk store meta P v actors u → left s.actor_state.in_progress ≤ times a actors → Result u
    run_by [] v u s i r le = absurd (let one = some s.actor_state.in_progress in omega (arith, one, le))
    run_by (b ∷ actors) v u s i (x, inl (outcome, t), p, rest) le = elim (nat_cases t.place place) [
      | inr other ↦
          let k = beside v b outcome x t s other in
          let count = times_other a b actors (not_own v b outcome x t s other) in
          let same = ap (λ (q : ActorState). left q.in_progress) k.1 in
          run_by actors x u k.0 (keeps v b outcome x t i) rest (omega (arith, le, count, same))
      | inl same ↦ elim (answered_or outcome) [
        | inl done ↦ stays actors x u rest (answered v b outcome x t s same done.0 done.1 i p)
        | inr un ↦
            let k = goes_on v b outcome x t s same un p in
            let count = times_own a b actors (actor_is v b outcome x t s same) in
            let less = k.1 in
            run_by actors x u k.0 (keeps v b outcome x t i) rest (omega (arith, le, count, less))
      ]
    ]
    run_by (b ∷ actors) v u s i (x, inr (end, same), p, rest) le =
        let ne : b ≢ a = λ e.
        (let low = end place l s.actor_state (record { list = s.next.at.list; actor = s.next.at.actor ∙ sym e; actor_state_is = s.next.at.actor_state_is }) in
        let high = within l.orders s.actor_state.number s.order s.next.next in
        omega (arith, low, high)) in
        let count = times_other a b actors ne in
        run_by actors v u s i (subst (λ (k : Whole D S M). RunsTurns disk store meta P k actors u) same rest) (omega (arith, le, count))

  -- by the turns that are left
  pub falls_left : (kind : Command) (v : Whole D S M) (b : ℕ) (outcome : Outcome) (u : Whole D S M) (t : IsTurn disk store meta v b outcome u) → IsUnanswered outcome → t.order.command ≡ kind
      → turns_left kind (actor_state_after t.actor_state outcome).in_progress < turns_left kind t.actor_state.in_progress
  falls_left kind v b outcome u t un is = subst (λ (c : Command). turns_left c (actor_state_after t.actor_state outcome).in_progress < turns_left c t.actor_state.in_progress) is (go_on disk store meta v b outcome u t un)

  module _ (I : Whole D S M → Type 0) (P : Whole D S M → ℕ → Whole D S M → Type 0) (W : InProgress → Type 0) (Q : Answer → Type 0) (kind : Command) (a place number : ℕ) (l : ActorList)
      (keeps : (v : Whole D S M) (b : ℕ) (outcome : Outcome) (u : Whole D S M) → IsTurn disk store meta v b outcome u → I v → I u)
      (ends : (v : Whole D S M) (b : ℕ) (outcome : Outcome) (answer : Answer) (u : Whole D S M) (t : IsTurn disk store meta v b outcome u) → outcome ≡ Answers answer → I v → P v b u → t.place ≡ place
      → t.actor_state.number ≡ number → t.order.command ≡ kind → W t.actor_state.in_progress → Q answer)
      (further : (v : Whole D S M) (b : ℕ) (outcome : Outcome) (u : Whole D S M) (t : IsTurn disk store meta v b outcome u) → IsUnanswered outcome → W t.actor_state.in_progress → W (actor_state_after t.actor_state outcome).in_progress) where
    abbrev pub Left : InProgress → ℕ
    Left in_progress = turns_left kind in_progress

    abbrev pub Falls : (v : Whole D S M) (b : ℕ) (outcome : Outcome) (u : Whole D S M) (t : IsTurn disk store meta v b outcome u) → IsUnanswered outcome → P v b u → t.place ≡ place → t.actor_state.number ≡ number
        → t.order.command ≡ kind → Left (actor_state_after t.actor_state outcome).in_progress < Left t.actor_state.in_progress
    Falls v b outcome u t un p same number_is is = falls_left kind v b outcome u t un is

    pub run : (actors : List ℕ) (v u : Whole D S M) (s : Waits I P W Q kind a place number l Left (some_left kind) Falls keeps ends further v) → I v → RunsTurns disk store meta P v actors u
        → turns_left kind s.actor_state.in_progress ≤ times a actors → (answer : Answer) × Q answer × IsCommandAnswered u l.actor number answer
    run actors v u s i r le = run_by I P W Q kind a place number l Left (some_left kind) Falls keeps ends further actors v u s i r le

  pub are_answered : (w : Whole D S M) (a place : ℕ) (l : ActorList) (actor_state : ActorState) (order : Order) (actors : List ℕ) (w' : Whole D S M) → AreRising w.lists → IsNextOrder w a place l actor_state order
      → RunsTurns disk store meta (λ v b u. Unit {0}) w actors w' → turns_left order.command actor_state.in_progress ≤ times a actors → (answer : Answer) × IsCommandAnswered w' l.actor actor_state.number answer
  are_answered w a place l actor_state order actors w' rising next r le =
      let k = run (λ v. Unit {0}) (λ v b u. Unit {0}) (λ in_progress. Unit {0}) (λ answer. Unit {0}) order.command a place actor_state.number l (λ v b outcome u t i. tt)
      (λ v b outcome answer u t is i p same number kind works. tt) (λ v b outcome u t un works. tt) actors w w'
      (record { rising = rising; actor_state = actor_state; order = order; next = next; number_is = refl; kind_is = refl; works = tt }) tt r le in
      (k.0, k.2)
