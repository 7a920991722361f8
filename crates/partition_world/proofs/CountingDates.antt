-- What a turn of a timestamp lookup counts.
use Rattle.std.proofs.Common.{◌≡◌, inl, inr, sym, ap, subst, refl, ℕ, List, length, Some, None, Option, Ok, Err, true, false}
use Rattle.std.specs.declared.result.Result.{Result}
use Rattle.std.specs.declared.alloc.AllocError.{AllocError}
use Rattle.tier_base.specs.Device.{Ran, fate_of}
use Rattle.tier_base.specs.declared.fault.Trouble.{Trouble}
use Rattle.tier_base.specs.declared.fault.Trouble.TheVariants.{Failed, NoMemory}
use Rattle.tier_base.specs.declared.plain.Part.TheVariants as part
use Rattle.object_store.specs.declared.store.Store.{Ghosts as StoreGhosts}
use Rattle.object_store.specs.declared.call.StoreCall.TheVariants.{Get}
use Rattle.object_store.specs.declared.placing.Spot.{Spot}
use Rattle.object_store.specs.Place.{short_of}
use Rattle.meta_log.specs.declared.log.MetaLog.{Ghosts as MetaGhosts}
use Rattle.remote_view.specs.Fold.{EntriesSeen as View, entry_of}
use Rattle.remote_find.specs.declared.piece.Piece.{Piece}
use Rattle.plain_log.specs.declared.turn.Turn.{Turn}
use Rattle.plain_log.specs.declared.turn.Turn.TheVariants.{Goes, Ends}
use Rattle.tier_fetch.specs.declared.turn.FetchStep.TheVariants as fetching
use Rattle.tier_fetch.specs.declared.turn.Span.{Span}
use Rattle.tier_fetch.specs.declared.refusal.RemoteRefusal.{RemoteRefusal}
use Rattle.tier_fetch.specs.declared.refusal.RemoteRefusal.TheVariants as refusal
use Rattle.tier_fetch.specs.declared.reading.RemoteRun.{RemoteRun}
use Rattle.tier_fetch.specs.Turns.{Tiers, RemoteFetchRow, spot_in, goes_with, ends_with}
use Rattle.time_find.specs.declared.turn.Asked.{Asked}
use Rattle.time_find.specs.declared.turn.SearchStep.{SearchStep}
use Rattle.time_find.specs.declared.turn.SearchStep.TheVariants.{Seek, Times as ReadsTimes, Index, Log}
use Rattle.time_find.specs.Passing.{Seeks}
use Rattle.time_find.specs.Turns.{IsSearched, TimesBytes, Times, Indexes, SearchTakes, SeekRow, TimesRow, TimeRow, wanted_at}
use Rattle.time_find.proofs.Outcomes.{store_left, cache_left}
use Rattle.plain_log.specs.declared.answer.Answer.{Answer}
use Rattle.plain_log.specs.declared.answer.Answer.TheVariants.{MetaFault, StoreFault, Damaged, Run, Offset}
use Rattle.plain_log.specs.declared.answer.Place.TheVariants.{Meta}
use Rattle.plain_log.specs.declared.answer.Tier.TheVariants.{Remote}
use Rattle.partition_world.specs.ActorStates.{date_outcome}
use Rattle.partition_world.specs.declared.actor_state.Outcome.TheVariants.{Answers}
use Rattle.partition_world.proofs.CountingCalls.{Clear, Counted, clear, still, store_went, meta_went, store_failed, meta_failed}
use Rattle.partition_world.proofs.CountingSearches.{fetch_counts}

date_clear : (turn after : Turn (ℕ × SearchStep)) → ◌≡◌ {A = Result (Turn (ℕ × SearchStep)) AllocError} (Ok turn) (Ok after) → Clear (date_outcome after) → Clear (date_outcome turn)
date_clear turn after is none = let same : turn ≡ after = cc (is) in subst (λ (t : Turn (ℕ × SearchStep)). Clear (date_outcome t)) (sym same) none

seeks_clear : (asked : Asked) (line : List (ℕ × ℕ)) (view : View) (cursor : ℕ) (turn : Turn (ℕ × SearchStep)) → Seeks asked line view cursor turn → Clear (date_outcome turn)
seeks_clear asked line view cursor (Goes (at, next)) w = (refl, refl, refl)
seeks_clear asked line view cursor (Ends (Damaged Meta n)) w = (refl, refl, refl)
seeks_clear asked line view cursor (Ends answer) w = elim w [ ]

-- a run that was searched
pub searched_clear : (asked : Asked) (offset : ℕ) (run : List ℕ) (turn : Turn (ℕ × SearchStep)) → IsSearched asked offset run turn → Clear (date_outcome turn)
searched_clear asked offset run (Goes (at, next)) w = (refl, refl, refl)
searched_clear asked offset run (Ends (Offset n)) w = (refl, refl, refl)
searched_clear asked offset run (Ends answer) w = elim w [ ]

module _ {S M : Type 0} (store : StoreGhosts S) (meta : MetaGhosts M) where
  date_as : (turn after : Turn (ℕ × SearchStep)) (s s' : S) (m m' : M) → ◌≡◌ {A = Result (Turn (ℕ × SearchStep)) AllocError} (Ok turn) (Ok after) → Counted store meta (date_outcome after) s s' m m'
      → Counted store meta (date_outcome turn) s s' m m'
  date_as turn after s s' m m' is k = let same : turn ≡ after = cc (is) in subst (λ (t : Turn (ℕ × SearchStep)). Counted store meta (date_outcome t) s s' m m') (sym same) k

  seek_counts : (asked : Asked) (line : List (ℕ × ℕ)) (cursor : ℕ) (turn : Turn (ℕ × SearchStep)) (before after : View) (s s' : S) (m m' : M) → s' ≡ s
      → SeekRow meta.content meta.control asked line cursor (Ok turn) before after m m' → Counted store meta (date_outcome turn) s s' m m'
  seek_counts asked line cursor (Ends MetaFault) before after s s' m m' one w = meta_failed store meta s s' m m' _ w.control.ran one
  seek_counts asked line cursor turn before after s s' m m' one w =
      meta_went store meta (date_outcome turn) s s' m m' _ (seeks_clear asked line after cursor turn w.0) w.1.control.ran one

  read_counts : (asked : Asked) (cursor : ℕ) (piece : Piece) (base : ℕ) (spot : Spot) (answer : Result (Option (List ℕ)) Trouble) (turn : Turn (ℕ × SearchStep)) (s s' : S) (m m' : M) → m' ≡ m
      → Ran Get (fate_of answer) (store.control s) (store.control s') → Times asked cursor piece base spot answer (Ok turn) → Counted store meta (date_outcome turn) s s' m m'
  read_counts asked cursor piece base spot (Err Failed) turn s s' m m' two r w =
      date_as turn (Ends StoreFault) s s' m m' w (store_failed store meta s s' m m' Get r two)
  read_counts asked cursor piece base spot (Err NoMemory) turn s s' m m' two r w = absurd (let no : false ≡ true = w in cc)
  read_counts asked cursor piece base spot (Ok None) turn s s' m m' two r w =
      store_went store meta (date_outcome turn) s s' m m' Get (date_clear turn _ w (refl, refl, refl)) r two
  read_counts asked cursor piece base spot (Ok (Some bytes)) turn s s' m m' two r w =
      store_went store meta (date_outcome turn) s s' m m' Get (by (short_of spot bytes) turn w) r two
    where
      by : (end : Option ℕ) (turn : Turn (ℕ × SearchStep)) → TimesBytes end asked cursor piece base spot bytes (Ok turn) → Clear (date_outcome turn)
      by (Some end) turn w = date_clear turn _ w (refl, refl, refl)
      by None (Goes (at, next)) w = (refl, refl, refl)
      by None (Ends answer) w = subst (λ (a : Answer). Clear (Answers a)) (sym w.0) (refl, refl, refl)

  times_counts : (asked : Asked) (cursor : ℕ) (piece : Piece) (view : View) (place : Option (ℕ × Spot)) (turn : Turn (ℕ × SearchStep)) (s s' : S) (m m' : M) → m' ≡ m
      → TimesRow store.content store.control asked cursor piece view place (Ok turn) s s' → Counted store meta (date_outcome turn) s s' m m'
  times_counts asked cursor piece view None turn s s' m m' two w =
      still store meta (date_outcome turn) s s' m m' (date_clear turn _ w.0 (refl, refl, refl)) w.1 two
  times_counts asked cursor piece view (Some place) turn s s' m m' two w =
      read_counts asked cursor piece place.0 place.1 w.answer turn s s' m m' two w.gets.control w.times

  -- what a turn among the remote segments counts
  abbrev Counts : Tiers S M → Tiers S M → Turn (ℕ × SearchStep) → Type 0
  Counts old new turn = Counted store meta (date_outcome turn) old.store new.store old.meta new.meta

  -- no call was made
  goes_counts : (old new : Tiers S M) (turn : Turn (ℕ × SearchStep)) (at : ℕ) (next : SearchStep) → ◌≡◌ {A = Result (Turn (ℕ × SearchStep)) AllocError} (Ok turn) (Ok (Goes (at, next))) → new ≡ old → Counts old new turn
  goes_counts old new turn at next is same =
      still store meta (date_outcome turn) old.store new.store old.meta new.meta (date_clear turn (Goes (at, next)) is (refl, refl, refl))
      (ap (λ (t : Tiers S M). t.store) same) (ap (λ (t : Tiers S M). t.meta) same)

  -- a fetch that reads the same counts the same

  index_counts : (asked : Asked) (line : List (ℕ × ℕ)) (cursor from : ℕ) (piece : Piece) (read : Result Span RemoteRefusal) (turn : Turn (ℕ × SearchStep)) (old new : Tiers S M)
      → RemoteFetchRow store.content store.control meta.content meta.control (wanted_at asked from) line (fetching.Index piece) (goes_with piece read) old new
      → Indexes cursor piece from read (Ok turn) → Counts old new turn
  index_counts asked line cursor from piece (Ok span) turn old new row w =
      date_as turn (Goes (cursor, Log piece from span)) old.store new.store old.meta new.meta w
      (fetch_counts store meta (wanted_at asked from) line (fetching.Index piece) (Goes (fetching.Log piece span)) old new row)
  index_counts asked line cursor from piece (Err (refusal.Damaged place at)) turn old new row w =
      date_as turn (Ends (Damaged place at)) old.store new.store old.meta new.meta w
      (fetch_counts store meta (wanted_at asked from) line (fetching.Index piece) (Ends (Damaged place at)) old new row)
  index_counts asked line cursor from piece (Err refusal.StoreFault) turn old new row w =
      date_as turn (Ends StoreFault) old.store new.store old.meta new.meta w
      (fetch_counts store meta (wanted_at asked from) line (fetching.Index piece) (Ends StoreFault) old new row)
  index_counts asked line cursor from piece (Err refusal.NoMemory) turn old new row w = absurd (cc (w))

  log_counts : (asked : Asked) (line : List (ℕ × ℕ)) (from : ℕ) (piece : Piece) (span : Span) (read : Result RemoteRun RemoteRefusal) (turn : Turn (ℕ × SearchStep)) (old new : Tiers S M)
      → RemoteFetchRow store.content store.control meta.content meta.control (wanted_at asked from) line (fetching.Log piece span) (ends_with piece read) old new
      → SearchTakes asked from read (Ok turn) → Counts old new turn
  log_counts asked line from piece span (Ok run) turn old new row w =
      let k = fetch_counts store meta (wanted_at asked from) line (fetching.Log piece span) (Ends (Run (Remote piece.id) (length run.bytes) run.stop run.bytes)) old new row in
      clear store meta (date_outcome turn) old.store new.store old.meta new.meta (searched_clear asked from run.bytes turn w) k.1 k.2
  log_counts asked line from piece span (Err (refusal.Damaged place at)) turn old new row w =
      date_as turn (Ends (Damaged place at)) old.store new.store old.meta new.meta w
      (fetch_counts store meta (wanted_at asked from) line (fetching.Log piece span) (Ends (Damaged place at)) old new row)
  log_counts asked line from piece span (Err refusal.StoreFault) turn old new row w =
      date_as turn (Ends StoreFault) old.store new.store old.meta new.meta w
      (fetch_counts store meta (wanted_at asked from) line (fetching.Log piece span) (Ends StoreFault) old new row)
  log_counts asked line from piece span (Err refusal.NoMemory) turn old new row w = absurd (cc (w))

  -- among the remote segments
  pub time_counts : (asked : Asked) (line : List (ℕ × ℕ)) (cursor : ℕ) (next : SearchStep) (turn : Turn (ℕ × SearchStep)) (old new : Tiers S M)
      → TimeRow store.content store.control meta.content meta.control asked line cursor next (Ok turn) old new → Counted store meta (date_outcome turn) old.store new.store old.meta new.meta
  time_counts asked line cursor Seek turn old new w =
      seek_counts asked line cursor turn old.view new.view old.store new.store old.meta new.meta (ap (λ (t : Tiers S M). t.store) w.0) w.1
  time_counts asked line cursor (ReadsTimes piece) turn old new w =
      times_counts asked cursor piece old.view (spot_in asked.partition piece.id part.TimeIndex (entry_of piece.id old.view.entries)) turn old.store new.store old.meta new.meta
      (ap (λ (t : Tiers S M). t.meta) w.0) w.1
  time_counts asked line cursor (Index piece from) turn old new (same, inl w) = goes_counts old new turn _ Seek w.1 (cache_left old new same w.2 w.3)
  time_counts asked line cursor (Index piece from) turn old new (same, inr w) = index_counts asked line cursor from piece w.1.0 turn old new (same, w.1.1) w.1.2
  time_counts asked line cursor (Log piece from span) turn old new (same, inl w) = goes_counts old new turn _ Seek w.1 (store_left old new same w.2)
  time_counts asked line cursor (Log piece from span) turn old new (same, inr w) = log_counts asked line from piece span w.1.0 turn old new (same, w.1.1) w.1.2
