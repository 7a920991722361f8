-- A fetch with which nothing interferes returns a run.
use Rattle.std.proofs.Common.{◌≡◌, ◌⊎◌, inl, inr, ap, subst, refl, ℕ, ◌+◌, ◌<◌, ◌≤◌, nat_lt, Bool, true, false, cond, List, [], ◌∷◌, ◌++◌, Some, slice_get, arith}
use Rattle.std.proofs.lemmas.Bool.{ltb-true}
use Rattle.tier_base.specs.declared.plain.Stop.{Stop}
use Rattle.disk_model.specs.declared.disk.Disk.{Ghosts as DiskGhosts}
use Rattle.object_store.specs.declared.store.Store.{Ghosts as StoreGhosts}
use Rattle.meta_log.specs.declared.log.MetaLog.{Ghosts as MetaGhosts}
use Rattle.log_terms.specs.Batch.{base_of, last_of}
use Rattle.log_terms.specs.Log.{IsConsecutive, joined, from_offset, EndsAt}
use Rattle.log_terms.proofs.Logs.{ends_below}
use Rattle.tier_fetch.specs.declared.turn.FetchStep.{FetchStep}
use Rattle.tier_fetch.specs.declared.turn.FetchStep.TheVariants.{Refresh, Index, Log}
use Rattle.plain_log.specs.declared.answer.Answer.{Answer}
use Rattle.plain_log.specs.declared.answer.Answer.TheVariants.{Down, NotLeader, OutOfRange, Empty, DiskFault, MetaFault, StoreFault, Stopped, Run}
use Rattle.plain_log.specs.declared.answer.Tier.{Tier}
use Rattle.plain_log.specs.declared.command.ActorList.{ActorList}
use Rattle.plain_log.specs.declared.command.Command.TheVariants.{Fetch}
use Rattle.plain_log.specs.declared.command.Order.{Order}
use Rattle.plain_log.specs.declared.state.State.{State}
use Rattle.plain_log.specs.Fetch.{is_within}
use Rattle.laws_partition.specs.declared.start_snapshot.StartSnapshot.{StartSnapshot}
use Rattle.broker_log.specs.Seen.{LogState, Up as Open, ShowsSeen, is_up as is_open}
use Rattle.broker_log.specs.Seen as log
use Rattle.laws_partition.proofs.BoolTests.{some_of}
use Rattle.partition_commands.specs.declared.partition_state.Node.{Node}
use Rattle.partition_commands.specs.Partition.{is_up, end_of}
use Rattle.partition_commands.proofs.Shown.{end_shown, sees_at}
use Rattle.tier_safe.proofs.Basics.{one_some}
use Rattle.laws_tier_fetch.proofs.Cutting.{past_first}
use Rattle.partition_world.specs.declared.actor_state.Outcome.{Outcome}
use Rattle.partition_world.specs.declared.actor_state.Outcome.TheVariants.{Answers}
use Rattle.partition_world.specs.declared.actor_state.ActorState.{ActorState}
use Rattle.partition_world.specs.declared.actor_state.InProgress.{InProgress}
use Rattle.partition_world.specs.declared.actor_state.InProgress.TheVariants.{Idle, Noted, Seeks}
use Rattle.partition_world.specs.Infallible.{IsUnfailing}
use Rattle.partition_world.specs.Central.{IsCentral}
use Rattle.partition_world.specs.Turn.{IsNextOrder, IsTurn}
use Rattle.partition_world.specs.TurnsOfCopy.{KeepsLead}
use Rattle.partition_world.specs.TurnsOfFetch.{AnswersAtOnce, HasStopped}
use Rattle.partition_world.specs.Whole.{Whole}
use Rattle.partition_world.proofs.CentralLaw.{turn_central}
use Rattle.laws_answers.specs.CausesOfFetches.{IsLogsRun, FetchHasCause, FetchLaterCause, IsOffsetCommitted, MayServe}
use Rattle.laws_answers.specs.Found.{SpansKnown}
use Rattle.laws_answers.specs.Turns.{turns_left}
use Rattle.laws_answers.specs.Chains.{times, IsCommandAnswered, RunsTurns}
use Rattle.laws_answers.proofs.ChainsOfTurns.{run, own_turn}
use Rattle.laws_answers.specs.UnhinderedFetches.{IsFetchServed, IsFree, IsUnhindered}
use Rattle.laws_answers.proofs.Clear.{Clear, well_clear, turn_infallible, infallible_clear}
use Rattle.laws_answers.proofs.FetchesHaveCauses.{have_causes}
use Rattle.laws_answers.proofs.KnownOfFetches.{keep_spans}

-- the first batch from an offset on begins at it or below
begins_low : (n offset : ℕ) (bs : List (List ℕ)) (first : List ℕ) (rest : List (List ℕ)) → IsConsecutive n bs → n ≤ offset → from_offset offset bs ≡ first ∷ rest → base_of first ≤ offset
begins_low n offset [] first rest c low is = absurd (cc (is))
begins_low n offset (b ∷ bs) first rest c low is = by (nat_lt (last_of b) offset) refl is (begins_low (last_of b + 1) offset bs first rest c.1)
  where
    by : (t : Bool) → nat_lt (last_of b) offset ≡ t → cond t (from_offset offset bs) (b ∷ bs) ≡ first ∷ rest
        → (last_of b + 1 ≤ offset → from_offset offset bs ≡ first ∷ rest → base_of first ≤ offset) → base_of first ≤ offset
    by true t is more = let past : last_of b < offset = ltb-true (last_of b) offset t in more (omega (arith, past)) is
    by false t is more =
        let same : b ≡ first = cc (is) in
        let start = c.0 in
        subst (λ (x : List ℕ). base_of x ≤ offset) same (omega (arith, start, low))

module _ {D S M : Type 0} (disk : DiskGhosts D) (store : StoreGhosts S) (meta : MetaGhosts M) where
  -- a log that is open is consecutive
  open_consecutive : (kept : LogState D) (seen : log.LogSeen) → is_open kept ≡ true → ShowsSeen disk.content kept seen → IsConsecutive 0 seen.batches
  open_consecutive (Open l) seen up shows = shows.consecutive
  open_consecutive other seen up shows = absurd (cc (up))

  -- a run of a log is such an answer
  served : (x : Node D) (offset limit : ℕ) (tier : Tier) (size : ℕ) (stop : Stop) (bytes : List ℕ) → is_up x ≡ true → IsLogsRun disk x offset limit size stop bytes
      → IsFetchServed offset limit (Run tier size stop bytes)
  served x offset limit tier size stop bytes up r = by r.gives.run r.gives.is.parts r.gives.is.within r.gives.spelled
    where
      by : (run : List (List ℕ)) → from_offset offset r.seen.batches ≡ run ++ r.gives.is.rest → is_within limit run ≡ true → bytes ≡ joined run → IsFetchServed offset limit (Run tier size stop bytes)
      by [] parts fit spelled = absurd (cc (fit))
      by (first ∷ others) parts fit spelled = record {
        tier = tier;
        size = size;
        stop = stop;
        first = first;
        others = others;
        holds = (
          begins_low 0 offset r.seen.batches first (others ++ r.gives.is.rest) (open_consecutive x.log r.seen up r.shows) (omega arith) parts,
          past_first offset r.seen.batches first (others ++ r.gives.is.rest) parts,
        );
        fit = fit;
        is = ap (λ (bs : List ℕ). Run tier size stop bs) spelled;
      }

  -- a committed offset is in the log
  never_outside : (w : Whole D S M) (x : Node D) (offset start end : ℕ) → x.known_high_watermark ≤ end_of x → IsOffsetCommitted w x offset → (offset < start) ⊎ (end < offset) → start ≡ w.partition_state.registry.start → end ≡ end_of x → ⊥
  never_outside w x offset start end high may (inl below) start_is end_is = let from = may.from in omega (arith, below, start_is, from)
  never_outside w x offset start end high may (inr past) start_is end_is = let low = may.below in omega (arith, past, end_is, low, high)

  first_served : (w : Whole D S M) (b : ℕ) (x : Node D) (offset limit : ℕ) (answer : Answer) (w' : Whole D S M) → (is_up x ≡ true → x.known_high_watermark ≤ end_of x) → FetchHasCause disk store meta w b x Idle offset limit answer w'
      → MayServe w x offset Idle → Clear disk store meta b answer w w' → IsFetchServed offset limit answer
  first_served w b x offset limit Down w' high cause may clear = let up = may.0 in absurd (cc (cause, up))
  first_served w b x offset limit NotLeader w' high cause may clear = let leads = may.1 in absurd (cc (cause, leads))
  first_served w b x offset limit (OutOfRange start end) w' high cause may clear = absurd (never_outside w x offset start end (high may.0) may.2 cause.outside cause.start_is cause.end_is)
  first_served w b x offset limit Empty w' high cause may clear = let low = may.2.below in absurd (omega (arith, low, cause))
  first_served w b x offset limit DiskFault w' high cause may clear = absurd (clear.disk_clear refl cause)
  first_served w b x offset limit (Run tier size stop bytes) w' high cause may clear = served x offset limit tier size stop bytes may.0 cause.1
  first_served w b x offset limit other w' high cause may clear = elim cause [ ]

  pub stopped_never : (x : Node D) (g : StartSnapshot) → HasStopped x g → KeepsLead x g → ⊥
  stopped_never x g (inl differs) keeps = differs keeps.stops
  stopped_never x g (inr down) keeps = let up = keeps.up in cc (down, up)

  -- it isn't answered before it reads
  at_once_never : (w : Whole D S M) (x : Node D) (g : StartSnapshot) (offset : ℕ) (answer : Answer) → x.known_high_watermark ≤ end_of x → AnswersAtOnce w.partition_state x g offset answer → KeepsLead x g → IsOffsetCommitted w x offset → ⊥
  at_once_never w x g offset Stopped high is keeps may = stopped_never x g is keeps
  at_once_never w x g offset NotLeader high is keeps may = is.2 keeps.role
  at_once_never w x g offset (OutOfRange start end) high is keeps may = never_outside w x offset start end high may is.1 is.2 is.3
  at_once_never w x g offset Empty high is keeps may = let low = may.below in let le = is.2 in omega (arith, low, le)
  at_once_never w x g offset other high is keeps may = elim is [ ]

  refresh_served : (w : Whole D S M) (b : ℕ) (x : Node D) (g : StartSnapshot) (offset limit : ℕ) (answer : Answer) (w' : Whole D S M) → x.known_high_watermark ≤ end_of x → FetchLaterCause disk store meta w x g offset limit Refresh answer w'
      → KeepsLead x g → IsOffsetCommitted w x offset → Clear disk store meta b answer w w' → IsFetchServed offset limit answer
  refresh_served w b x g offset limit MetaFault w' high cause keeps may clear = absurd (clear.meta_clear refl cause)
  refresh_served w b x g offset limit other w' high cause keeps may clear = absurd (at_once_never w x g offset other high cause keeps may)

  index_served : (w : Whole D S M) (b : ℕ) (x : Node D) (g : StartSnapshot) (offset limit : ℕ) (piece : _) (answer : Answer) (w' : Whole D S M) → x.known_high_watermark ≤ end_of x
      → FetchLaterCause disk store meta w x g offset limit (Index piece) answer w' → KeepsLead x g → IsOffsetCommitted w x offset → Clear disk store meta b answer w w' → IsFetchServed offset limit answer
  index_served w b x g offset limit piece StoreFault w' high cause keeps may clear = absurd (clear.store_clear refl cause)
  index_served w b x g offset limit piece other w' high cause keeps may clear = absurd (at_once_never w x g offset other high cause keeps may)

  log_served : (w : Whole D S M) (b : ℕ) (x : Node D) (g : StartSnapshot) (offset limit : ℕ) (piece : _) (span : _) (answer : Answer) (w' : Whole D S M) → x.known_high_watermark ≤ end_of x
      → FetchLaterCause disk store meta w x g offset limit (Log piece span) answer w' → KeepsLead x g → IsOffsetCommitted w x offset → Clear disk store meta b answer w w' → IsFetchServed offset limit answer
  log_served w b x g offset limit piece span StoreFault w' high cause keeps may clear = absurd (clear.store_clear refl cause)
  log_served w b x g offset limit piece span (Run tier size stop bytes) w' high cause keeps may clear = served x offset limit tier size stop bytes keeps.up cause.1
  log_served w b x g offset limit piece span other w' high cause keeps may clear = absurd (at_once_never w x g offset other high cause keeps may)

  later_served : (w : Whole D S M) (b : ℕ) (x : Node D) (g : StartSnapshot) (offset limit : ℕ) (next : FetchStep) (answer : Answer) (w' : Whole D S M) → x.known_high_watermark ≤ end_of x
      → FetchLaterCause disk store meta w x g offset limit next answer w' → KeepsLead x g → IsOffsetCommitted w x offset → Clear disk store meta b answer w w' → IsFetchServed offset limit answer
  later_served w b x g offset limit Refresh answer w' high cause keeps may clear = refresh_served w b x g offset limit answer w' high cause keeps may clear
  later_served w b x g offset limit (Index piece) answer w' high cause keeps may clear = index_served w b x g offset limit piece answer w' high cause keeps may clear
  later_served w b x g offset limit (Log piece span) answer w' high cause keeps may clear = log_served w b x g offset limit piece span answer w' high cause keeps may clear

  any_served : (w : Whole D S M) (b : ℕ) (x : Node D) (offset limit : ℕ) (in_progress : InProgress) (answer : Answer) (w' : Whole D S M) → (is_up x ≡ true → x.known_high_watermark ≤ end_of x)
      → FetchHasCause disk store meta w b x in_progress offset limit answer w' → MayServe w x offset in_progress → Clear disk store meta b answer w w' → IsFetchServed offset limit answer
  any_served w b x offset limit Idle answer w' high cause may clear = first_served w b x offset limit answer w' high cause may clear
  any_served w b x offset limit (Noted g) answer w' high cause may clear = later_served w b x g offset limit Refresh answer w' (high may.0.up) cause may.0 may.1 clear
  any_served w b x offset limit (Seeks g next) answer w' high cause may clear = later_served w b x g offset limit next answer w' (high may.0.up) cause may.0 may.1 clear
  any_served w b x offset limit other answer w' high cause may clear = absurd cause

  -- the known high watermark is within the log
  mark_within : (opening : State) (w : Whole D S M) → IsCentral disk store meta opening w → (b : ℕ) (x : Node D) → slice_get w.partition_state.nodes b ≡ Some x → is_up x ≡ true → x.known_high_watermark ≤ end_of x
  mark_within opening w c b x at up =
      let v = sees_at disk.content disk.control w.partition_state c.partition b x c.shows at in
      let s = v.0 in
      let sound = (c.central.stands.lines.each b _ v.1.there).sound in
      let ends : EndsAt x.known_high_watermark s.batches = sound.known_high_watermark in
      let low = ends_below x.known_high_watermark s.batches sound.log.consecutive ends in
      let end = end_shown disk.content x s up v.1.shows in
      omega (arith, low, end)

  -- what is known all along
  abbrev AllKnown : State → Whole D S M → Type 0
  AllKnown opening w = IsCentral disk store meta opening w × SpansKnown meta opening w

  turn_known : (opening : State) (v : Whole D S M) (b : ℕ) (outcome : Outcome) (u : Whole D S M) → IsTurn disk store meta v b outcome u → AllKnown opening v → AllKnown opening u
  turn_known opening v b outcome u t i = (turn_central disk store meta opening v b outcome u t i.0, keep_spans disk store meta opening v b outcome u i.0 i.1 t)

  ends_served : (opening : State) (place number offset limit : ℕ) (v : Whole D S M) (b : ℕ) (answer : Answer) (u : Whole D S M) (t : IsTurn disk store meta v b (Answers answer) u) → AllKnown opening v
      → IsFree disk store meta place number offset v b u → t.place ≡ place → t.actor_state.number ≡ number → t.order.command ≡ Fetch offset limit → Clear disk store meta t.order.broker.0 answer v u → IsFetchServed offset limit answer
  ends_served opening place number offset limit v b answer u t known free same number_is fetches clear =
      let c = t.order.broker.0 in
      let h = free t.list t.actor_state t.order (own_turn disk store meta place v b (Answers answer) u t same) number_is in
      let x = some_of (λ x. FetchHasCause disk store meta v c x t.actor_state.in_progress offset limit answer u) (slice_get v.partition_state.nodes c) (have_causes disk store meta opening v b answer u offset limit known.0 known.1 t fetches) in
      let y = some_of (λ x. MayServe v x offset t.actor_state.in_progress) (slice_get v.partition_state.nodes c) h in
      let may : MayServe v x.0 offset t.actor_state.in_progress = subst (λ (k : Node D). MayServe v k offset t.actor_state.in_progress) (one_some (slice_get v.partition_state.nodes c) y.0 x.0 y.1 x.1) y.2 in
      any_served v c x.0 offset limit t.actor_state.in_progress answer u (mark_within opening v known.0 c x.0 x.1) x.2 may clear

  free_served : (opening : State) (place number offset limit : ℕ) (v : Whole D S M) (b : ℕ) (outcome : Outcome) (answer : Answer) (u : Whole D S M) (t : IsTurn disk store meta v b outcome u)
      → outcome ≡ Answers answer → AllKnown opening v → IsUnhindered disk store meta place number offset v b u → t.place ≡ place → t.actor_state.number ≡ number → t.order.command ≡ Fetch offset limit → IsFetchServed offset limit answer
  free_served opening place number offset limit v b (Answers k) answer u t is known free same number_is fetches =
      let one : k ≡ answer = cc (is) in
      let well = free.1 t.list t.actor_state t.order (own_turn disk store meta place v b (Answers k) u t same) number_is in
      subst (IsFetchServed offset limit) one (ends_served opening place number offset limit v b k u t known free.0 same number_is fetches (well_clear disk store meta t.order.broker.0 k v u well))
  free_served opening place number offset limit v b other answer u t is known free same number_is fetches = absurd (cc (is))

  pub are_served : (opening : State) (w : Whole D S M) (a place : ℕ) (l : ActorList) (actor_state : ActorState) (order : Order) (offset limit : ℕ) (actors : List ℕ) (w' : Whole D S M)
      → IsCentral disk store meta opening w → SpansKnown meta opening w → IsNextOrder w a place l actor_state order → order.command ≡ Fetch offset limit
      → RunsTurns disk store meta (IsUnhindered disk store meta place actor_state.number offset) w actors w' → turns_left (Fetch offset limit) actor_state.in_progress ≤ times a actors
      → (answer : Answer) × IsFetchServed offset limit answer × IsCommandAnswered w' l.actor actor_state.number answer
  are_served opening w a place l actor_state order offset limit actors w' c known next fetches r le =
      run disk store meta (AllKnown opening) (IsUnhindered disk store meta place actor_state.number offset) (λ in_progress. Unit {0}) (IsFetchServed offset limit) (Fetch offset limit) a place actor_state.number l (turn_known opening)
      (λ v b outcome answer u t is i p same number fetch works. free_served opening place actor_state.number offset limit v b outcome answer u t is i p same number fetch) (λ v b outcome u t un works. tt) actors w w'
      (record { rising = c.central.stands.rising; actor_state = actor_state; order = order; next = next; number_is = refl; kind_is = fetches; works = tt }) (c, known) r le

  -- over devices of which no call can fail

  ends_infallible : (opening : State) (place number offset limit : ℕ) (v : Whole D S M) (b : ℕ) (outcome : Outcome) (answer : Answer) (u : Whole D S M) (t : IsTurn disk store meta v b outcome u)
      → outcome ≡ Answers answer → AllKnown opening v × IsUnfailing disk store meta v → IsFree disk store meta place number offset v b u → t.place ≡ place → t.actor_state.number ≡ number
      → t.order.command ≡ Fetch offset limit → IsFetchServed offset limit answer
  ends_infallible opening place number offset limit v b (Answers k) answer u t is known free same number_is fetches =
      let one : k ≡ answer = cc (is) in
      subst (IsFetchServed offset limit) one (ends_served opening place number offset limit v b k u t known.0 free same number_is fetches (infallible_clear disk store meta v b k u t known.1))
  ends_infallible opening place number offset limit v b other answer u t is known free same number_is fetches = absurd (cc (is))

  pub infallible_served : (opening : State) (w : Whole D S M) (a place : ℕ) (l : ActorList) (actor_state : ActorState) (order : Order) (offset limit : ℕ) (actors : List ℕ) (w' : Whole D S M)
      → IsCentral disk store meta opening w → SpansKnown meta opening w → IsUnfailing disk store meta w → IsNextOrder w a place l actor_state order → order.command ≡ Fetch offset limit
      → RunsTurns disk store meta (IsFree disk store meta place actor_state.number offset) w actors w' → turns_left (Fetch offset limit) actor_state.in_progress ≤ times a actors
      → (answer : Answer) × IsFetchServed offset limit answer × IsCommandAnswered w' l.actor actor_state.number answer
  infallible_served opening w a place l actor_state order offset limit actors w' c known infallible next fetches r le =
      run disk store meta (λ v. AllKnown opening v × IsUnfailing disk store meta v) (IsFree disk store meta place actor_state.number offset) (λ in_progress. Unit {0}) (IsFetchServed offset limit) (Fetch offset limit) a place actor_state.number l
      (λ v b outcome u t i. (turn_known opening v b outcome u t i.0, turn_infallible disk store meta v b outcome u t i.1))
      (λ v b outcome answer u t is i p same number fetch works. ends_infallible opening place actor_state.number offset limit v b outcome answer u t is i p same number fetch) (λ v b outcome u t un works. tt) actors w w'
      (record { rising = c.central.stands.rising; actor_state = actor_state; order = order; next = next; number_is = refl; kind_is = fetches; works = tt }) ((c, known), infallible) r le
