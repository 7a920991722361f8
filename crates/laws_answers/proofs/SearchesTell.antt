-- What a timestamp lookup returns: the log's offset, or that there is none, and no damage.
use Rattle.std.proofs.Common.{◌≡◌, ◌∙◌, inl, inr, sym, ap, subst, refl, ℕ, ◌<◌, Bool, true, false, List, Some, None, Option, nat_lt, slice_get}
use Rattle.std.specs.Prelude.{ℤ, unwrap_or, if◌then◌else◌}
use Rattle.disk_model.specs.declared.disk.Disk.{Ghosts as DiskGhosts}
use Rattle.object_store.specs.declared.store.Store.{Ghosts as StoreGhosts}
use Rattle.meta_log.specs.declared.log.MetaLog.{Ghosts as MetaGhosts}
use Rattle.log_terms.specs.Log.{up_to, from_offset}
use Rattle.registry.specs.declared.registry.Registry.{Registry}
use Rattle.segment_meta.specs.declared.note.Note.{Note}
use Rattle.time_find.specs.declared.turn.SearchStep.{SearchStep}
use Rattle.time_find.specs.declared.turn.SearchStep.TheVariants.{Seek}
use Rattle.plain_log.specs.declared.turn.Turn.TheVariants.{Ends}
use Rattle.plain_log.specs.declared.answer.Answer.{Answer}
use Rattle.plain_log.specs.declared.answer.Answer.TheVariants.{Damaged, Offset as OffsetAnswer, NoOffset}
use Rattle.plain_log.specs.declared.answer.Place.{Place as Spoiled}
use Rattle.plain_log.specs.declared.command.Command.{Command}
use Rattle.plain_log.specs.declared.command.Command.TheVariants.{Offset}
use Rattle.plain_log.specs.declared.command.Which.TheVariants.{At}
use Rattle.plain_log.specs.declared.state.Path.{Path}
use Rattle.plain_log.specs.declared.state.State.{State}
use Rattle.plain_log.specs.RowsOfReads.{first_at}
use Rattle.plain_log.specs.State.{leading}
use Rattle.laws_partition.specs.declared.start_snapshot.StartSnapshot.{StartSnapshot}
use Rattle.laws_partition.specs.Partition.{broker_of}
use Rattle.laws_partition.specs.RowsOfOffsets.{dated_offset}
use Rattle.partition_commands.specs.declared.partition_state.Node.{Node}
use Rattle.partition_commands.specs.Partition.{AtNode, line_of, local_of, node_of}
use Rattle.partition_commands.proofs.Shown.{some_at}
use Rattle.laws_time_find.proofs.Dates.{passed_has_none}
use Rattle.laws_time_find.proofs.GoingOn.{searches_are_right}
use Rattle.partition_world.specs.declared.actor_state.Outcome.TheVariants.{Answers}
use Rattle.partition_world.specs.declared.actor_state.InProgress.{InProgress}
use Rattle.partition_world.specs.declared.actor_state.InProgress.TheVariants.{Idle, Noted, Dates}
use Rattle.partition_world.specs.Central.{IsCentral}
use Rattle.partition_world.specs.Turn.{IsTurn}
use Rattle.partition_world.specs.TurnsOfCopy.{KeepsLead}
use Rattle.partition_world.specs.TurnsOfDate.{is_own, resumed_with, SearchRow, SearchesOn, DateOnRow}
use Rattle.partition_world.specs.TurnsOfFetch.{fetch_tiers}
use Rattle.partition_world.specs.Turns.{Row}
use Rattle.partition_world.specs.Whole.{Whole}
use Rattle.partition_world.proofs.Begins.{row_of}
use Rattle.partition_world.proofs.DateCentral.{below_local, resumed_set}
use Rattle.partition_world.proofs.Scenes.{Place, place_of, tier_view}
use Rattle.laws_answers.specs.FoundByTime.{IsFoundByTime, SearchesKnown}
use Rattle.laws_answers.specs.LawsOfSearches.{TellsDate}
use Rattle.laws_answers.proofs.PlacesOfFetches.{start_plain}
use Rattle.laws_answers.proofs.PlacesOfSearches.{Keeps, epoch, at as at_of, on as on_of, asked as asked_for, keeps_recorded, keeps_dates, gone_at, own_at, search_at}
use Rattle.laws_answers.proofs.ReadingOfSearches.{time_undamaged}

-- what was found for a cursor that the log start offset has passed is dropped
pub resumed_found : (paths : List Path) (notes : List Note) (led start cursor : ℕ) (next : SearchStep) → IsFoundByTime paths notes led next
    → IsFoundByTime paths notes led (resumed_with start cursor next)
resumed_found paths notes led start cursor next f = by (nat_lt cursor start)
  where
    by : (t : Bool) → IsFoundByTime paths notes led (if t then Seek else next)
    by true = tt
    by false = f

module _ {D S M : Type 0} (disk : DiskGhosts D) (store : StoreGhosts S) (meta : MetaGhosts M) where
  module _ (opening : State) (w : Whole D S M) (a : ℕ) (answer : Answer) (w' : Whole D S M)
      (t : IsTurn disk store meta w a (Answers answer) w')
      (c : IsCentral disk store meta opening w) (z : Place disk store meta opening w c t.place t.list t.actor_state t.order) (ts : ℤ)
      (asks : t.order.command ≡ Offset (At ts)) where
    abbrev b : ℕ
    b = t.order.broker.0

    -- what the actor's state has
    abbrev Kept : StartSnapshot → ℕ → SearchStep → Type 0
    Kept g cursor next = Keeps disk store meta opening w c t.place t.list t.actor_state t.order z ts asks g cursor next

    -- the offset of the timestamp, as the log is seen
    abbrev IsFirst : Option ℕ → Type 0
    IsFirst found = first_at ts w.partition_state.registry.start (from_offset w.partition_state.registry.start (up_to z.x.known_high_watermark z.s.batches)) ≡ found

    start_seen : c.partition.registry.start ≡ w.partition_state.registry.start
    start_seen = ap (λ (r : Registry). r.start) z.sees.partition_state.registry

    seen_first : (found : Option ℕ) → IsFirst found → dated_offset c.partition (node_of z.x z.s) ts ≡ found
    seen_first found is = subst (λ (n : ℕ). first_at ts n (from_offset n (up_to z.x.known_high_watermark z.s.batches)) ≡ found) (sym start_seen) is

    module _ (g : StartSnapshot) (cursor : ℕ) (next : SearchStep) (k : Kept g cursor next) where
      abbrev led : ℕ
      led = epoch disk store meta opening w c t.place t.list t.actor_state t.order z ts asks g cursor next k

      abbrev at : ℕ
      at = at_of disk store meta opening w c t.place t.list t.actor_state t.order z ts asks g cursor next k

      abbrev on : SearchStep
      on = on_of disk store meta opening w c t.place t.list t.actor_state t.order z ts asks g cursor next k

      abbrev Ended : Answer → Type 0
      Ended told = SearchesOn disk store meta w.partition w.partition_state w.tier b z.x z.broker_tier g ts cursor next (Ends told) w'.partition_state w'.tier

      abbrev Turns : Bool → Answer → Type 0
      Turns own told =
          SearchRow disk store meta w.partition_state w.tier b z.x z.broker_tier (asked_for disk store meta opening w c t.place t.list t.actor_state t.order z ts
          asks g cursor next k) at on own (Ends told) w'.partition_state w'.tier

      -- the log has that offset
      right : (n : ℕ) → KeepsLead z.x g → at < z.x.known_high_watermark → (own : Bool) → is_own (local_of z.x) at on ≡ own → Turns own (OffsetAnswer n)
          → IsFirst (Some n)
      right n keeps below true own row =
          elim ((own_at disk store meta opening w c t.place t.list t.actor_state t.order z ts asks g cursor next k (Ends (OffsetAnswer n)) w'.partition_state
          keeps row.0).ends (OffsetAnswer n) refl) [
            | inl fault ↦ absurd (cc (fault))
            | inr (m, is, first) ↦ let same : m ≡ n = cc (is) in subst (λ (o : ℕ). IsFirst (Some o)) same first
          ]
      right n keeps below false own row =
          let r = row.0 in
          let d = search_at disk store meta opening w c t.place t.list t.actor_state t.order z ts asks g cursor next k keeps below in
          let asked = asked_for disk store meta opening w c t.place t.list t.actor_state t.order z ts asks g cursor next k in
          let is = searches_are_right store.content store.control meta.content meta.control asked (line_of z.x) at n on
          (fetch_tiers z.broker_tier.view z.broker_tier.cache w.tier) (fetch_tiers r.view r.cache w'.tier)
          d.0 c.central.plain t.place b (tier_view disk store meta opening w c t.place t.list t.actor_state t.order z) (broker_of (node_of z.x z.s))
          g.stops led r.row (below_local asked at on own)
          (resumed_set w.partition_state.registry.start cursor next k.set) d.2 in
          subst (λ (m : ℕ). first_at ts m (from_offset m (up_to z.x.known_high_watermark z.s.batches)) ≡ Some n)
          (start_plain disk store meta opening w c t.place t.list t.actor_state t.order z) is

      -- it met no damage
      undamaged : (place : Spoiled) (n : ℕ) → KeepsLead z.x g → at < z.x.known_high_watermark
          → IsFoundByTime c.central.plain.paths (meta.content w.tier.meta).notes (unwrap_or (leading g.role) 0) next
          → (own : Bool) → is_own (local_of z.x) at on ≡ own → Turns own (Damaged place n) → ⊥
      undamaged place n keeps below f true own row =
          elim ((own_at disk store meta opening w c t.place t.list t.actor_state t.order z ts asks g cursor next k (Ends (Damaged place n))
          w'.partition_state keeps row.0).ends (Damaged place n) refl) [
            | inl fault ↦ cc (fault)
            | inr (m, is, first) ↦ cc (is)
          ]
      undamaged place n keeps below f false own row =
          let r = row.0 in
          let d = search_at disk store meta opening w c t.place t.list t.actor_state t.order z ts asks g cursor next k keeps below in
          let asked = asked_for disk store meta opening w c t.place t.list t.actor_state t.order z ts asks g cursor next k in
          let found = subst (λ (notes : List Note). IsFoundByTime c.central.plain.paths notes led on) (sym (d.1 ∙ c.shows_tier.notes))
          (resumed_found c.central.plain.paths (meta.content w.tier.meta).notes led w.partition_state.registry.start cursor next f) in
          time_undamaged d.0 c.central.plain t.place b (tier_view disk store meta opening w c t.place t.list t.actor_state t.order z)
          (broker_of (node_of z.x z.s)) g.stops led asked (line_of z.x) at
          store.content store.control meta.content meta.control on place n (fetch_tiers z.broker_tier.view z.broker_tier.cache w.tier)
          (fetch_tiers r.view r.cache w'.tier) d.2 (below_local asked at on own)
          (resumed_set w.partition_state.registry.start cursor next k.set) r.row found

      dates : (told : Answer) → DateOnRow disk store meta w.partition w.partition_state w.tier b z.x z.broker_tier g ts cursor next (Answers told) w'.partition_state
          w'.tier → TellsDate disk w z.x ts told
      dates (OffsetAnswer n) row =
          let first = right n row.keeps row.below (is_own (local_of z.x) at on) refl row.row in
          record { partition_state = c.partition; shown = c.shows; seen = z.s; shows = z.sees.shows; is = seen_first (Some n) first }
      dates NoOffset row =
          let passed = (gone_at disk store meta opening w c t.place t.list t.actor_state t.order z ts asks g cursor next k row.0).cursor in
          let first = passed_has_none ts w.partition_state.registry.start z.x.known_high_watermark at z.s.batches passed row.1 in
          record { partition_state = c.partition; shown = c.shows; seen = z.s; shows = z.sees.shows; is = seen_first None first }
      dates other row = tt

    first : (told : Answer) → Row disk store meta w.partition w.config w.partition_state w.tier b z.x z.broker_tier Idle (Offset (At ts)) (Answers told)
        w'.partition_state w'.tier → TellsDate disk w z.x ts told
    first (OffsetAnswer n) row = elim row.0 [ ]
    first NoOffset row = elim row.0 [ ]
    first other row = tt

    is_observable : (in_progress : InProgress) → t.actor_state.in_progress ≡ in_progress → Row disk store meta w.partition w.config w.partition_state w.tier b z.x z.broker_tier in_progress (Offset (At ts))
        (Answers answer) w'.partition_state w'.tier → TellsDate disk w z.x ts answer
    is_observable Idle is row = first answer row
    is_observable (Noted g) is row = dates g 0 Seek (keeps_recorded disk store meta opening w c t.place t.list t.actor_state t.order z ts asks g is) answer
        row
    is_observable (Dates g cursor next) is row = dates g cursor next (keeps_dates disk store meta opening w c t.place t.list t.actor_state t.order z ts
        asks g cursor next is) answer row
    is_observable other is row = elim row [ ]

  pub tell_dates : (opening : State) (w : Whole D S M) (a : ℕ) (answer : Answer) (w' : Whole D S M) (ts : ℤ)
      → IsCentral disk store meta opening w → (t : IsTurn disk store meta w a (Answers answer) w')
      → t.order.command ≡ Offset (At ts) → AtNode w.partition_state t.order.broker.0 (λ x. TellsDate disk w x ts answer)
  tell_dates opening w a answer w' ts c t asks =
      let b = t.order.broker.0 in
      let r = row_of disk store meta w.partition w.config w.partition_state w.tier b t.actor_state.in_progress t.order.command (Answers answer) w'.partition_state w'.tier
      t.row in
      let z = place_of disk store meta opening w c t.place t.list t.actor_state t.order t.at.list t.at.actor_state_is t.next r.x r.at r.broker_tier r.broker_tier_at in
      let row = subst (λ (k : Command). Row disk store meta w.partition w.config w.partition_state w.tier b r.x r.broker_tier t.actor_state.in_progress k (Answers answer)
      w'.partition_state w'.tier) asks r.row in
      some_at (λ (x : Node D). TellsDate disk w x ts answer) (slice_get w.partition_state.nodes b) r.x r.at
      (is_observable opening w a answer w' t c z ts asks t.actor_state.in_progress refl row)

  module _ (opening : State) (w : Whole D S M) (a : ℕ) (place : Spoiled) (at : ℕ) (w' : Whole D S M)
      (t : IsTurn disk store meta w a (Answers (Damaged place at)) w')
      (c : IsCentral disk store meta opening w) (known : SearchesKnown meta opening w)
      (z : Place disk store meta opening w c t.place t.list t.actor_state t.order) (ts : ℤ)
      (asks : t.order.command ≡ Offset (At ts)) where
    later_never : (g : StartSnapshot) (cursor : ℕ) (next : SearchStep) (k : Keeps disk store meta opening w c t.place t.list t.actor_state t.order z ts asks g
        cursor next)
        → IsFoundByTime c.central.plain.paths (meta.content w.tier.meta).notes (unwrap_or (leading g.role) 0) next
        → DateOnRow disk store meta w.partition w.partition_state w.tier t.order.broker.0 z.x z.broker_tier g ts cursor next (Answers (Damaged place at))
        w'.partition_state w'.tier → ⊥
    later_never g cursor next k f row =
        undamaged opening w a (Damaged place at) w' t c z ts asks g cursor next k place at row.keeps row.below f
        (is_own (local_of z.x) (at_of disk store meta opening w c t.place t.list t.actor_state t.order z ts asks g cursor next k)
        (on_of disk store meta opening w c t.place t.list t.actor_state t.order z ts asks g cursor next k)) refl row.row

    never : (in_progress : InProgress) → t.actor_state.in_progress ≡ in_progress
        → Row disk store meta w.partition w.config w.partition_state w.tier t.order.broker.0 z.x z.broker_tier in_progress (Offset (At ts))
        (Answers (Damaged place at)) w'.partition_state w'.tier → ⊥
    never Idle is row = row.0
    never (Noted g) is row = later_never g 0 Seek (keeps_recorded disk store meta opening w c t.place t.list t.actor_state t.order z ts asks g is) tt
        row
    never (Dates g cursor next) is row =
        later_never g cursor next (keeps_dates disk store meta opening w c t.place t.list t.actor_state t.order z ts asks g cursor next is)
        (known c.central.plain c.central.replays t.list.actor.0 t.place t.list t.actor_state t.order ts g cursor next
        (record { at = record { list = t.at.list; actor = refl; actor_state_is = t.at.actor_state_is }; next = t.next }) asks is) row
    never other is row = elim row [ ]

  pub none_damaged : (opening : State) (w : Whole D S M) (a : ℕ) (place : Spoiled) (at : ℕ) (w' : Whole D S M) (ts : ℤ)
      → IsCentral disk store meta opening w → SearchesKnown meta opening w
      → (t : IsTurn disk store meta w a (Answers (Damaged place at)) w') → t.order.command ≡ Offset (At ts) → ⊥
  none_damaged opening w a place at w' ts c known t asks =
      let b = t.order.broker.0 in
      let r = row_of disk store meta w.partition w.config w.partition_state w.tier b t.actor_state.in_progress t.order.command (Answers (Damaged place at)) w'.partition_state
      w'.tier t.row in
      let z = place_of disk store meta opening w c t.place t.list t.actor_state t.order t.at.list t.at.actor_state_is t.next r.x r.at r.broker_tier r.broker_tier_at in
      never opening w a place at w' t c known z ts asks t.actor_state.in_progress refl
      (subst (λ (k : Command). Row disk store meta w.partition w.config w.partition_state w.tier b r.x r.broker_tier t.actor_state.in_progress k
      (Answers (Damaged place at)) w'.partition_state w'.tier) asks r.row)
