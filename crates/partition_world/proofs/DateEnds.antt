-- What a turn of a timestamp lookup returns, and what it leaves of the devices.
use Rattle.std.proofs.Common.{◌≡◌, inl, inr, ap, sym, subst, ℕ, List, Option, Some, None, Ok, Err}
use Rattle.std.specs.declared.result.Result.{Result}
use Rattle.std.specs.declared.alloc.AllocError.{AllocError}
use mathlib.Core.Path.{fun_ext}
use Rattle.tier_base.specs.declared.fault.Trouble.{Trouble}
use Rattle.tier_base.specs.declared.fault.Trouble.TheVariants.{Failed, NoMemory}
use Rattle.tier_base.specs.declared.plain.Part.TheVariants as part
use Rattle.object_store.specs.declared.store.Store.{Ghosts as StoreGhosts}
use Rattle.object_store.specs.declared.placing.Spot.{Spot}
use Rattle.object_store.specs.Place.{short_of}
use Rattle.meta_log.specs.declared.log.MetaLog.{Ghosts as MetaGhosts}
use Rattle.disk_model.specs.declared.disk.Disk.{Ghosts as DiskGhosts}
use Rattle.index_cache.specs.Cache.{Cache}
use Rattle.broker_log.specs.Seen.{LogState, closed_in}
use Rattle.remote_view.specs.Fold.{EntriesSeen as View, entry_of}
use Rattle.remote_find.specs.declared.piece.Piece.{Piece}
use Rattle.plain_log.specs.declared.answer.Answer.{Answer}
use Rattle.plain_log.specs.declared.answer.Place.TheVariants.{Key, Meta, File}
use Rattle.plain_log.specs.declared.answer.Answer.TheVariants.{MetaFault, StoreFault, DiskFault, Damaged, Offset}
use Rattle.plain_log.specs.declared.turn.Turn.{Turn}
use Rattle.plain_log.specs.declared.turn.Turn.TheVariants.{Ends}
use Rattle.tier_fetch.specs.declared.turn.FetchStep.TheVariants as fetching
use Rattle.tier_fetch.specs.declared.turn.Span.{Span}
use Rattle.tier_fetch.specs.declared.refusal.RemoteRefusal.{RemoteRefusal}
use Rattle.tier_fetch.specs.declared.refusal.RemoteRefusal.TheVariants as refusal
use Rattle.tier_fetch.specs.declared.reading.RemoteRun.{RemoteRun}
use Rattle.tier_fetch.specs.Turns.{spot_in, RemoteFetchRow, Tiers, refused, goes_with, ends_with}
use Rattle.time_find.specs.declared.turn.Asked.{Asked}
use Rattle.time_find.specs.declared.turn.SearchStep.{SearchStep}
use Rattle.time_find.specs.declared.turn.SearchStep.TheVariants.{Seek, Times as ReadsTimes, Index, Log}
use Rattle.time_find.specs.Passing.{Seeks, passed_over}
use Rattle.time_find.specs.Turns.{
  IsSearched,
  TimesBytes,
  Times,
  Indexes,
  SearchTakes,
  SeekRow,
  TimesRow,
  SearchIndexRow,
  SearchLogRow,
  TimeRow,
  wanted_at,
  ReadLocalRow,
  LocalSearchRow,
}
use Rattle.time_find.proofs.Outcomes.{store_left, cache_left}
use Rattle.partition_world.proofs.CopyEnds.{TellsOn}
use Rattle.partition_world.proofs.FetchEnds.{StoreStays, Dries, fetch_tells, fetch_dry}

-- what one among the remote segments may be answered
abbrev pub MayEnd : Answer → Type 0
MayEnd MetaFault = Unit {0}
MayEnd StoreFault = Unit {0}
MayEnd (Damaged place at) = Unit {0}
MayEnd (Offset n) = Unit {0}
MayEnd other = ⊥

-- what one in the local log may be answered
abbrev pub MayEndOwn : Answer → Type 0
MayEndOwn DiskFault = Unit {0}
MayEndOwn (Damaged (File name) at) = Unit {0}
MayEndOwn (Offset n) = Unit {0}
MayEndOwn other = ⊥

seeks_ends : (asked : Asked) (line : List (ℕ × ℕ)) (view : View) (cursor : ℕ) (answer : Answer)
    → Seeks asked line view cursor (Ends answer) → MayEnd answer
seeks_ends asked line view cursor (Damaged Meta n) w = tt
seeks_ends asked line view cursor answer w = elim w [ ]

searched_ends : (asked : Asked) (from : ℕ) (run : List ℕ) (answer : Answer) → IsSearched asked from run (Ends answer) → MayEnd answer
searched_ends asked from run (Offset n) w = tt
searched_ends asked from run answer w = elim w [ ]

times_ends : (asked : Asked) (cursor : ℕ) (piece : Piece) (base : ℕ) (spot : Spot) (given : Result (Option (List ℕ)) Trouble)
    (answer : Answer) → Times asked cursor piece base spot given (Ok (Ends answer)) → MayEnd answer
times_ends asked cursor piece base spot (Err Failed) answer w = let e : answer ≡ StoreFault = cc (w) in subst MayEnd (sym e) tt
times_ends asked cursor piece base spot (Err NoMemory) answer w = absurd (cc (w))
times_ends asked cursor piece base spot (Ok None) answer w = let e : answer ≡ Damaged (Key spot.key) 0 = cc (w) in subst MayEnd (sym e) tt
times_ends asked cursor piece base spot (Ok (Some bytes)) answer w = by (short_of spot bytes) w
  where
    by : (end : Option ℕ) → TimesBytes end asked cursor piece base spot bytes (Ok (Ends answer)) → MayEnd answer
    by (Some end) w = let e : answer ≡ Damaged (Key spot.key) end = cc (w) in subst MayEnd (sym e) tt
    by None w = subst MayEnd (sym w.0) tt

-- by why a segment wasn't read
refused_ends : (why : RemoteRefusal) (answer : Answer) → ◌≡◌ {A = Result (Turn (ℕ × SearchStep)) AllocError} (Ok (Ends answer)) (refused why)
    → MayEnd answer
refused_ends (refusal.Damaged place at) answer w = let e : answer ≡ Damaged place at = cc (w) in subst MayEnd (sym e) tt
refused_ends refusal.StoreFault answer w = let e : answer ≡ StoreFault = cc (w) in subst MayEnd (sym e) tt
refused_ends refusal.NoMemory answer w = absurd (cc (w))

module _ {S M : Type 0} (store : StoreGhosts S) (meta : MetaGhosts M) (asked : Asked) (line : List (ℕ × ℕ)) where
  seek_ends : (cursor : ℕ) (answer : Answer) (before after : View) (old new : M)
      → SeekRow meta.content meta.control asked line cursor (Ok (Ends answer)) before after old new → MayEnd answer
  seek_ends cursor MetaFault before after old new w = tt
  seek_ends cursor answer before after old new w = seeks_ends asked line after cursor answer w.0

  timed_ends : (cursor : ℕ) (piece : Piece) (view : View) (place : Option (ℕ × Spot)) (answer : Answer) (old new : S)
      → TimesRow store.content store.control asked cursor piece view place (Ok (Ends answer)) old new → MayEnd answer
  timed_ends cursor piece view None answer old new w = let e : answer ≡ Damaged Meta view.notes = cc (w.0) in subst MayEnd (sym e) tt
  timed_ends cursor piece view (Some place) answer old new w = times_ends asked cursor piece place.0 place.1 w.answer answer w.times

  indexes_ends : (cursor from : ℕ) (piece : Piece) (answer : Answer) (read : Result Span RemoteRefusal)
      → Indexes cursor piece from read (Ok (Ends answer)) → MayEnd answer
  indexes_ends cursor from piece answer (Ok span) k = absurd (cc (k))
  indexes_ends cursor from piece answer (Err why) k = refused_ends why answer k

  logs_ends : (from : ℕ) (answer : Answer) (read : Result RemoteRun RemoteRefusal) → SearchTakes asked from read (Ok (Ends answer)) → MayEnd answer
  logs_ends from answer (Ok run) k = searched_ends asked from run.bytes answer k
  logs_ends from answer (Err why) k = refused_ends why answer k

  index_ends : (cursor from : ℕ) (piece : Piece) (view : View) (answer : Answer) (cache cache' : Cache) (old new : S)
      → SearchIndexRow store.content store.control asked cursor piece from view (Ok (Ends answer)) cache cache' old new → MayEnd answer
  index_ends cursor from piece view answer cache cache' old new (inl (low, is, kept, same)) = absurd (cc (is))
  index_ends cursor from piece view answer cache cache' old new (inr (high, (read, row, k))) = indexes_ends cursor from piece answer read k

  log_ends : (from : ℕ) (piece : Piece) (span : Span) (view : View) (answer : Answer) (old new : S)
      → SearchLogRow store.content store.control asked piece from span view (Ok (Ends answer)) old new → MayEnd answer
  log_ends from piece span view answer old new (inl (low, is, same)) = absurd (cc (is))
  log_ends from piece span view answer old new (inr (high, (read, row, k))) = logs_ends from answer read k

  -- what a turn among the remote segments returns
  pub date_ends : (cursor : ℕ) (next : SearchStep) (answer : Answer) (old new : Tiers S M)
      → TimeRow store.content store.control meta.content meta.control asked line cursor next (Ok (Ends answer)) old new → MayEnd answer
  date_ends cursor Seek answer old new w = seek_ends cursor answer old.view new.view old.meta new.meta w.1
  date_ends cursor (ReadsTimes piece) answer old new w =
      timed_ends cursor piece old.view (spot_in asked.partition piece.id part.TimeIndex (entry_of piece.id old.view.entries)) answer
      old.store new.store w.1
  date_ends cursor (Index piece from) answer old new w =
      index_ends cursor from piece old.view answer old.cache new.cache old.store new.store w.1
  date_ends cursor (Log piece from span) answer old new w = log_ends from piece span old.view answer old.store new.store w.1

  same_store : (old new : S) → new ≡ old → StoreStays store meta old new
  same_store old new is = record {
    is_observable = ap (λ (s : S). (store.content s).is_observable) is;
    objects = ap (λ (s : S). (store.content s).objects) is;
  }

  times_stays : (cursor : ℕ) (piece : Piece) (view : View) (place : Option (ℕ × Spot)) (result : Result (Turn (ℕ × SearchStep)) AllocError) (old new : S)
      → TimesRow store.content store.control asked cursor piece view place result old new → StoreStays store meta old new
  times_stays cursor piece view None result old new w = same_store old new w.1
  times_stays cursor piece view (Some place) result old new w = record {
    is_observable = w.gets.content.is_observable;
    objects = fun_ext (λ k. w.gets.content.objects k);
  }

  seek_tells : (cursor : ℕ) (turn : Turn (ℕ × SearchStep)) (before after : View) (old new : M)
      → SeekRow meta.content meta.control asked line cursor (Ok turn) before after old new
      → (meta.content new).is_observable ≡ (meta.content old).is_observable
  seek_tells cursor (Ends MetaFault) before after old new w = w.content.is_observable
  seek_tells cursor turn before after old new w = w.1.content.is_observable

  same_tells : (old new : Tiers S M) → new ≡ old → TellsOn store meta old.store old.meta new.store new.meta
  same_tells old new is = (ap (λ (t : Tiers S M). (store.content t.store).is_observable) is, ap (λ (t : Tiers S M). (meta.content t.meta).is_observable) is)

  indexes_tell : (cursor from : ℕ) (piece : Piece) (turn : Turn (ℕ × SearchStep)) (read : Result Span RemoteRefusal) (old new : Tiers S M)
      → RemoteFetchRow store.content store.control meta.content meta.control (wanted_at asked from) line (fetching.Index piece) (goes_with piece read) old new
      → Indexes cursor piece from read (Ok turn) → TellsOn store meta old.store old.meta new.store new.meta
  indexes_tell cursor from piece turn (Ok span) old new row k =
      fetch_tells store meta (wanted_at asked from) line (fetching.Index piece) _ old new row
  indexes_tell cursor from piece turn (Err (refusal.Damaged place at)) old new row k =
      fetch_tells store meta (wanted_at asked from) line (fetching.Index piece) _ old new row
  indexes_tell cursor from piece turn (Err refusal.StoreFault) old new row k =
      fetch_tells store meta (wanted_at asked from) line (fetching.Index piece) _ old new row
  indexes_tell cursor from piece turn (Err refusal.NoMemory) old new row k = absurd (cc (k))

  logs_tell : (from : ℕ) (piece : Piece) (span : Span) (turn : Turn (ℕ × SearchStep)) (read : Result RemoteRun RemoteRefusal) (old new : Tiers S M)
      → RemoteFetchRow store.content store.control meta.content meta.control (wanted_at asked from) line (fetching.Log piece span) (ends_with piece read) old new
      → SearchTakes asked from read (Ok turn) → TellsOn store meta old.store old.meta new.store new.meta
  logs_tell from piece span turn (Ok run) old new row k =
      fetch_tells store meta (wanted_at asked from) line (fetching.Log piece span) _ old new row
  logs_tell from piece span turn (Err (refusal.Damaged place at)) old new row k =
      fetch_tells store meta (wanted_at asked from) line (fetching.Log piece span) _ old new row
  logs_tell from piece span turn (Err refusal.StoreFault) old new row k =
      fetch_tells store meta (wanted_at asked from) line (fetching.Log piece span) _ old new row
  logs_tell from piece span turn (Err refusal.NoMemory) old new row k = absurd (cc (k))

  index_tells : (cursor from : ℕ) (piece : Piece) (turn : Turn (ℕ × SearchStep)) (old new : Tiers S M)
      → new ≡ record old { cache = new.cache; store = new.store }
      → SearchIndexRow store.content store.control asked cursor piece from old.view (Ok turn) old.cache new.cache old.store new.store
      → TellsOn store meta old.store old.meta new.store new.meta
  index_tells cursor from piece turn old new same (inl (low, is, kept, stays)) = same_tells old new (cache_left old new same kept stays)
  index_tells cursor from piece turn old new same (inr (high, (read, row, k))) = indexes_tell cursor from piece turn read old new (same, row) k

  log_tells : (from : ℕ) (piece : Piece) (span : Span) (turn : Turn (ℕ × SearchStep)) (old new : Tiers S M)
      → new ≡ record old { store = new.store }
      → SearchLogRow store.content store.control asked piece from span old.view (Ok turn) old.store new.store
      → TellsOn store meta old.store old.meta new.store new.meta
  log_tells from piece span turn old new same (inl (low, is, stays)) = same_tells old new (store_left old new same stays)
  log_tells from piece span turn old new same (inr (high, (read, row, k))) = logs_tell from piece span turn read old new (same, row) k

  -- the devices report as they did
  pub date_tells : (cursor : ℕ) (next : SearchStep) (turn : Turn (ℕ × SearchStep)) (old new : Tiers S M)
      → TimeRow store.content store.control meta.content meta.control asked line cursor next (Ok turn) old new
      → TellsOn store meta old.store old.meta new.store new.meta
  date_tells cursor Seek turn old new w =
      (ap (λ (t : Tiers S M). (store.content t.store).is_observable) w.0, seek_tells cursor turn old.view new.view old.meta new.meta w.1)
  date_tells cursor (ReadsTimes piece) turn old new w =
      let stays = times_stays cursor piece old.view (spot_in asked.partition piece.id part.TimeIndex (entry_of piece.id old.view.entries))
      (Ok turn) old.store new.store w.1 in
      (stays.is_observable, ap (λ (t : Tiers S M). (meta.content t.meta).is_observable) w.0)
  date_tells cursor (Index piece from) turn old new w = index_tells cursor from piece turn old new w.0 w.1
  date_tells cursor (Log piece from span) turn old new w = log_tells from piece span turn old new w.0 w.1

  indexes_dry : (cursor from : ℕ) (piece : Piece) (e : AllocError) (read : Result Span RemoteRefusal) (old new : Tiers S M)
      → RemoteFetchRow store.content store.control meta.content meta.control (wanted_at asked from) line (fetching.Index piece) (goes_with piece read) old new
      → Indexes cursor piece from read (Err e) → Dries store meta old new
  indexes_dry cursor from piece e (Ok span) old new row k = absurd (cc (k))
  indexes_dry cursor from piece e (Err (refusal.Damaged place at)) old new row k = absurd (cc (k))
  indexes_dry cursor from piece e (Err refusal.StoreFault) old new row k = absurd (cc (k))
  indexes_dry cursor from piece e (Err refusal.NoMemory) old new row k =
      fetch_dry store meta (wanted_at asked from) line (fetching.Index piece) _ old new row

  logs_dry : (from : ℕ) (piece : Piece) (span : Span) (e : AllocError) (read : Result RemoteRun RemoteRefusal) (old new : Tiers S M)
      → RemoteFetchRow store.content store.control meta.content meta.control (wanted_at asked from) line (fetching.Log piece span) (ends_with piece read) old new
      → SearchTakes asked from read (Err e) → Dries store meta old new
  logs_dry from piece span e (Ok run) old new row k = absurd k
  logs_dry from piece span e (Err (refusal.Damaged place at)) old new row k = absurd (cc (k))
  logs_dry from piece span e (Err refusal.StoreFault) old new row k = absurd (cc (k))
  logs_dry from piece span e (Err refusal.NoMemory) old new row k =
      fetch_dry store meta (wanted_at asked from) line (fetching.Log piece span) _ old new row

  index_dry : (cursor from : ℕ) (piece : Piece) (e : AllocError) (old new : Tiers S M)
      → new ≡ record old { cache = new.cache; store = new.store }
      → SearchIndexRow store.content store.control asked cursor piece from old.view (Err e) old.cache new.cache old.store new.store
      → Dries store meta old new
  index_dry cursor from piece e old new same (inl (low, is, kept, stays)) = absurd (cc (is))
  index_dry cursor from piece e old new same (inr (high, (read, row, k))) = indexes_dry cursor from piece e read old new (same, row) k

  log_dry : (from : ℕ) (piece : Piece) (span : Span) (e : AllocError) (old new : Tiers S M) → new ≡ record old { store = new.store }
      → SearchLogRow store.content store.control asked piece from span old.view (Err e) old.store new.store → Dries store meta old new
  log_dry from piece span e old new same (inl (low, is, stays)) = absurd (cc (is))
  log_dry from piece span e old new same (inr (high, (read, row, k))) = logs_dry from piece span e read old new (same, row) k

  -- what one leaves that ran out of memory
  pub date_dry : (cursor : ℕ) (next : SearchStep) (e : AllocError) (old new : Tiers S M)
      → TimeRow store.content store.control meta.content meta.control asked line cursor next (Err e) old new → Dries store meta old new
  date_dry cursor Seek e old new w = record {
    store_stays = same_store old.store new.store (ap (λ (t : Tiers S M). t.store) w.0);
    cache = ap (λ (t : Tiers S M). t.cache) w.0;
    why = inl w.1;
  }
  date_dry cursor (ReadsTimes piece) e old new w = record {
    store_stays = times_stays cursor piece old.view (spot_in asked.partition piece.id part.TimeIndex (entry_of piece.id old.view.entries))
        (Err e) old.store new.store w.1;
    cache = ap (λ (t : Tiers S M). t.cache) w.0;
    why = inr (ap (λ (t : Tiers S M). t.view) w.0, ap (λ (t : Tiers S M). t.meta) w.0);
  }
  date_dry cursor (Index piece from) e old new w = index_dry cursor from piece e old new w.0 w.1
  date_dry cursor (Log piece from span) e old new w = log_dry from piece span e old new w.0 w.1

module _ {D : Type 0} (disk : DiskGhosts D) where
  read_ends : (old : LogState D) (asked : Asked) (at : ℕ) (answer : Answer) (new : LogState D)
      → ReadLocalRow disk.content disk.control old asked at (Ends answer) new → MayEndOwn answer
  read_ends old asked at DiskFault new w = tt
  read_ends old asked at (Damaged (File name) place) new w = tt
  read_ends old asked at answer new w = own_searched asked at w.out.bytes answer w.searched
    where
      own_searched : (asked : Asked) (from : ℕ) (run : List ℕ) (answer : Answer) → IsSearched asked from run (Ends answer)
          → MayEndOwn answer
      own_searched asked from run (Offset n) w = tt
      own_searched asked from run answer w = elim w [ ]

  -- what a turn in the local log returns
  pub own_ends : (old : LogState D) (asked : Asked) (cursor : ℕ) (answer : Answer) (new : LogState D)
      → LocalSearchRow disk.content disk.control old asked cursor (Ends answer) new → MayEndOwn answer
  own_ends old asked cursor answer new (inl (low, is, same)) = absurd (cc (is))
  own_ends old asked cursor answer new (inr (high, row)) = read_ends old asked (passed_over asked.ts cursor (closed_in old)) answer new row
