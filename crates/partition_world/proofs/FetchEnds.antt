-- What a turn of a fetch from the remote tier returns, and what it leaves of the devices.
use Rattle.std.proofs.Common.{◌≡◌, ◌⊎◌, inl, inr, ap, sym, subst, ℕ, List, Option, Some, None, Ok, Err}
use Rattle.std.specs.declared.alloc.AllocError.{AllocError}
use mathlib.Core.Path.{fun_ext}
use Rattle.tier_base.specs.declared.fault.Trouble.TheVariants.{Failed, NoMemory}
use Rattle.tier_base.specs.declared.plain.Part.TheVariants as part
use Rattle.object_store.specs.declared.store.Store.{Ghosts as StoreGhosts}
use Rattle.object_store.specs.declared.placing.Spot.{Spot}
use Rattle.object_store.specs.Place.{short_of, short_in}
use Rattle.meta_log.specs.declared.log.MetaLog.{Ghosts as MetaGhosts}
use Rattle.sparse_index.specs.Offsets.{OffsetTable}
use Rattle.index_cache.specs.Cache.{Cache, found}
use Rattle.remote_view.specs.Fold.{EntriesSeen as View, entry_of}
use Rattle.remote_find.specs.declared.piece.Piece.{Piece}
use Rattle.remote_find.specs.Pieces.{piece_at}
use Rattle.view_refresh.specs.Refreshing.{Halted}
use Rattle.plain_log.specs.declared.answer.Answer.{Answer}
use Rattle.plain_log.specs.declared.answer.Place.TheVariants.{Key, Meta}
use Rattle.plain_log.specs.declared.answer.Answer.TheVariants.{MetaFault, StoreFault, Damaged, Run}
use Rattle.plain_log.specs.declared.turn.Turn.{Turn}
use Rattle.plain_log.specs.declared.turn.Turn.TheVariants.{Ends}
use Rattle.tier_fetch.specs.declared.turn.FetchStep.{FetchStep}
use Rattle.tier_fetch.specs.declared.turn.FetchStep.TheVariants.{Refresh, Index, Log}
use Rattle.tier_fetch.specs.declared.turn.Span.{Span}
use Rattle.tier_fetch.specs.declared.turn.FetchRequest.{FetchRequest}
use Rattle.tier_fetch.specs.Turns.{chosen, spot_in, LoadsBytes, Loads, CutsBytes, CutsRunOut, RefreshRow, IndexRow, LoadRow, LogRow, RemoteFetchRow, Tiers}
use Rattle.partition_world.proofs.CopyEnds.{TellsOn}

-- what it may be answered
abbrev pub MayEnd : Answer → Type 0
MayEnd MetaFault = Unit {0}
MayEnd StoreFault = Unit {0}
MayEnd (Damaged place at) = Unit {0}
MayEnd (Run tier size stop bytes) = Unit {0}
MayEnd other = ⊥

chosen_ends : (notes : ℕ) (piece : Option Piece) (answer : Answer) → Ends answer ≡ chosen notes piece → MayEnd answer
chosen_ends notes None answer is = let e : answer ≡ Damaged Meta notes = cc (is) in subst MayEnd (sym e) tt
chosen_ends notes (Some piece) answer is = absurd (cc (is))

module _ {S M : Type 0} (store : StoreGhosts S) (meta : MetaGhosts M) where
  refresh_ends : (wanted : FetchRequest) (line : List (ℕ × ℕ)) (answer : Answer) (before after : View) (old new : M) → RefreshRow meta.content meta.control wanted line (Ok (Ends answer)) before after old new → MayEnd answer
  refresh_ends wanted line MetaFault before after old new w = tt
  refresh_ends wanted line answer before after old new w = chosen_ends after.notes (piece_at after.entries line wanted.log_end wanted.offset) _ w.0

  loads_ends : (wanted : FetchRequest) (piece : Piece) (base : ℕ) (spot : Spot) (given : _) (answer : Answer) (old new : Cache) → Loads wanted piece base spot given (Ok (Ends answer)) old new → MayEnd answer
  loads_ends wanted piece base spot (Err Failed) answer old new w = let e : answer ≡ StoreFault = cc (w.0) in subst MayEnd (sym e) tt
  loads_ends wanted piece base spot (Err NoMemory) answer old new w = let no = w.0 in absurd (cc (no))
  loads_ends wanted piece base spot (Ok None) answer old new w = let e : answer ≡ Damaged (Key spot.key) 0 = cc (w.0) in subst MayEnd (sym e) tt
  loads_ends wanted piece base spot (Ok (Some bytes)) answer old new w = by (short_of spot bytes) w
    where
      by : (end : Option ℕ) → LoadsBytes end wanted piece base spot bytes (Ok (Ends answer)) old new → MayEnd answer
      by (Some end) w = let e : answer ≡ Damaged (Key spot.key) end = cc (w.0) in subst MayEnd (sym e) tt
      by None w = subst MayEnd (sym w.0) tt

  load_ends : (wanted : FetchRequest) (piece : Piece) (view : View) (place : Option (ℕ × Spot)) (answer : Answer) (cache cache' : Cache) (old new : S)
      → LoadRow store.content store.control wanted piece view place (Ok (Ends answer)) cache cache' old new → MayEnd answer
  load_ends wanted piece view None answer cache cache' old new w = let e : answer ≡ Damaged Meta view.notes = cc (w.0) in subst MayEnd (sym e) tt
  load_ends wanted piece view (Some place) answer cache cache' old new w = loads_ends wanted piece place.0 place.1 w.answer answer cache cache' w.loads

  index_ends : (wanted : FetchRequest) (piece : Piece) (view : View) (answer : Answer) (held : Option OffsetTable) (cache cache' : Cache) (old new : S)
      → IndexRow store.content store.control wanted piece view (Ok (Ends answer)) held cache cache' old new → MayEnd answer
  index_ends wanted piece view answer (Some index) cache cache' old new w = let e = w.0 in absurd (cc (e))
  index_ends wanted piece view answer None cache cache' old new w =
      load_ends wanted piece view (spot_in wanted.partition piece.id part.Index (entry_of piece.id view.entries)) answer cache cache' old new w

  cuts_ends : (wanted : FetchRequest) (piece : Piece) (spot : Spot) (span : Span) (given : _) (answer : Answer) → CutsRunOut wanted piece spot span given (Ok (Ends answer)) → MayEnd answer
  cuts_ends wanted piece spot span (Err Failed) answer w = let e : answer ≡ StoreFault = cc (w) in subst MayEnd (sym e) tt
  cuts_ends wanted piece spot span (Err NoMemory) answer w = absurd (cc (w))
  cuts_ends wanted piece spot span (Ok None) answer w = let e : answer ≡ Damaged (Key spot.key) 0 = cc (w) in subst MayEnd (sym e) tt
  cuts_ends wanted piece spot span (Ok (Some bytes)) answer w = by (short_in spot span.from span.most bytes) answer w
    where
      by : (end : Option ℕ) (answer : Answer) → CutsBytes end wanted piece spot span bytes (Ok (Ends answer)) → MayEnd answer
      by (Some end) answer w = let e : answer ≡ Damaged (Key spot.key) end = cc (w) in subst MayEnd (sym e) tt
      by None (Run tier size stop run) w = tt
      by None (Damaged place at) w = tt
      by None answer w = elim w [ ]

  log_ends : (wanted : FetchRequest) (piece : Piece) (span : Span) (view : View) (place : Option (ℕ × Spot)) (answer : Answer) (old new : S)
      → LogRow store.content store.control wanted piece span view place (Ok (Ends answer)) old new → MayEnd answer
  log_ends wanted piece span view None answer old new w = let e : answer ≡ Damaged Meta view.notes = cc (w.0) in subst MayEnd (sym e) tt
  log_ends wanted piece span view (Some place) answer old new w = cuts_ends wanted piece place.1 span w.answer answer w.cuts

  -- what a turn of a fetch returns
  pub fetch_ends : (wanted : FetchRequest) (line : List (ℕ × ℕ)) (next : FetchStep) (answer : Answer) (old new : Tiers S M)
      → RemoteFetchRow store.content store.control meta.content meta.control wanted line next (Ok (Ends answer)) old new → MayEnd answer
  fetch_ends wanted line Refresh answer old new w = refresh_ends wanted line answer old.view new.view old.meta new.meta w.1
  fetch_ends wanted line (Index piece) answer old new w =
      index_ends wanted piece old.view answer (found piece.id.0 old.cache.pairs) old.cache new.cache old.store new.store w.1
  fetch_ends wanted line (Log piece span) answer old new w =
      log_ends wanted piece span old.view (spot_in wanted.partition piece.id part.Log (entry_of piece.id old.view.entries)) answer old.store new.store w.1

  -- the store reports what it did, and holds what it did
  pub record StoreStays (old new : S) : Type 0 where
    pub is_observable : (store.content new).is_observable ≡ (store.content old).is_observable
    pub objects : (store.content new).objects ≡ (store.content old).objects

  same_store : (old new : S) → new ≡ old → StoreStays old new
  same_store old new is = record { is_observable = ap (λ (s : S). (store.content s).is_observable) is; objects = ap (λ (s : S). (store.content s).objects) is }

  load_stays : (wanted : FetchRequest) (piece : Piece) (view : View) (place : Option (ℕ × Spot)) (result : _) (cache cache' : Cache) (old new : S)
      → LoadRow store.content store.control wanted piece view place result cache cache' old new → StoreStays old new
  load_stays wanted piece view None result cache cache' old new w = same_store old new w.2
  load_stays wanted piece view (Some place) result cache cache' old new w = record { is_observable = w.gets.content.is_observable; objects = fun_ext (λ k. w.gets.content.objects k) }

  index_stays : (wanted : FetchRequest) (piece : Piece) (view : View) (result : _) (held : Option OffsetTable) (cache cache' : Cache) (old new : S)
      → IndexRow store.content store.control wanted piece view result held cache cache' old new → StoreStays old new
  index_stays wanted piece view result (Some index) cache cache' old new w = same_store old new w.2
  index_stays wanted piece view result None cache cache' old new w =
      load_stays wanted piece view (spot_in wanted.partition piece.id part.Index (entry_of piece.id view.entries)) result cache cache' old new w

  log_stays : (wanted : FetchRequest) (piece : Piece) (span : Span) (view : View) (place : Option (ℕ × Spot)) (result : _) (old new : S)
      → LogRow store.content store.control wanted piece span view place result old new → StoreStays old new
  log_stays wanted piece span view None result old new w = same_store old new w.1
  log_stays wanted piece span view (Some place) result old new w = record { is_observable = w.gets.content.is_observable; objects = fun_ext (λ k. w.gets.content.objects k) }

  refresh_tells : (wanted : FetchRequest) (line : List (ℕ × ℕ)) (turn : Turn FetchStep) (before after : View) (old new : M) → RefreshRow meta.content meta.control wanted line (Ok turn) before after old new
      → (meta.content new).is_observable ≡ (meta.content old).is_observable
  refresh_tells wanted line (Ends MetaFault) before after old new w = w.content.is_observable
  refresh_tells wanted line turn before after old new w = w.1.content.is_observable

  -- the devices report as they did
  pub fetch_tells : (wanted : FetchRequest) (line : List (ℕ × ℕ)) (next : FetchStep) (turn : Turn FetchStep) (old new : Tiers S M)
      → RemoteFetchRow store.content store.control meta.content meta.control wanted line next (Ok turn) old new → TellsOn store meta old.store old.meta new.store new.meta
  fetch_tells wanted line Refresh turn old new w =
      (ap (λ (t : Tiers S M). (store.content t.store).is_observable) w.0, refresh_tells wanted line turn old.view new.view old.meta new.meta w.1)
  fetch_tells wanted line (Index piece) turn old new w =
      ((index_stays wanted piece old.view (Ok turn) (found piece.id.0 old.cache.pairs) old.cache new.cache old.store new.store w.1).is_observable, ap (λ (t : Tiers S M). (meta.content t.meta).is_observable) w.0)
  fetch_tells wanted line (Log piece span) turn old new w =
      ((log_stays wanted piece span old.view (spot_in wanted.partition piece.id part.Log (entry_of piece.id old.view.entries)) (Ok turn) old.store new.store w.1).is_observable, ap (λ (t : Tiers S M). (meta.content t.meta).is_observable) w.0)

  loads_dry : (wanted : FetchRequest) (piece : Piece) (base : ℕ) (spot : Spot) (given : _) (e : AllocError) (old new : Cache) → Loads wanted piece base spot given (Err e) old new → new ≡ old
  loads_dry wanted piece base spot (Err Failed) e old new w = w.1
  loads_dry wanted piece base spot (Err NoMemory) e old new w = w.1
  loads_dry wanted piece base spot (Ok None) e old new w = w.1
  loads_dry wanted piece base spot (Ok (Some bytes)) e old new w = by (short_of spot bytes) w
    where
      by : (end : Option ℕ) → LoadsBytes end wanted piece base spot bytes (Err e) old new → new ≡ old
      by (Some end) w = w.1
      by None w = w

  load_dry : (wanted : FetchRequest) (piece : Piece) (view : View) (place : Option (ℕ × Spot)) (e : AllocError) (cache cache' : Cache) (old new : S)
      → LoadRow store.content store.control wanted piece view place (Err e) cache cache' old new → cache' ≡ cache
  load_dry wanted piece view None e cache cache' old new w = w.1
  load_dry wanted piece view (Some place) e cache cache' old new w = loads_dry wanted piece place.0 place.1 w.answer e cache cache' w.loads

  index_dry : (wanted : FetchRequest) (piece : Piece) (view : View) (e : AllocError) (held : Option OffsetTable) (cache cache' : Cache) (old new : S)
      → IndexRow store.content store.control wanted piece view (Err e) held cache cache' old new → cache' ≡ cache
  index_dry wanted piece view e (Some index) cache cache' old new w = let is = w.0 in absurd (cc (is))
  index_dry wanted piece view e None cache cache' old new w =
      load_dry wanted piece view (spot_in wanted.partition piece.id part.Index (entry_of piece.id view.entries)) e cache cache' old new w

  -- what one leaves that ran out of memory: a view may have taken in some metadata events; else nothing has changed
  pub record Dries (old new : Tiers S M) : Type 0 where
    pub store_stays : StoreStays old.store new.store
    pub cache : new.cache ≡ old.cache
    pub why : Halted meta.content meta.control old.view new.view old.meta new.meta ⊎ ((new.view ≡ old.view) × (new.meta ≡ old.meta))

  pub fetch_dry : (wanted : FetchRequest) (line : List (ℕ × ℕ)) (next : FetchStep) (e : AllocError) (old new : Tiers S M)
      → RemoteFetchRow store.content store.control meta.content meta.control wanted line next (Err e) old new → Dries old new
  fetch_dry wanted line Refresh e old new w = record {
    store_stays = same_store old.store new.store (ap (λ (t : Tiers S M). t.store) w.0);
    cache = ap (λ (t : Tiers S M). t.cache) w.0;
    why = inl w.1;
  }
  fetch_dry wanted line (Index piece) e old new w = record {
    store_stays = index_stays wanted piece old.view (Err e) (found piece.id.0 old.cache.pairs) old.cache new.cache old.store new.store w.1;
    cache = index_dry wanted piece old.view e (found piece.id.0 old.cache.pairs) old.cache new.cache old.store new.store w.1;
    why = inr (ap (λ (t : Tiers S M). t.view) w.0, ap (λ (t : Tiers S M). t.meta) w.0);
  }
  fetch_dry wanted line (Log piece span) e old new w = record {
    store_stays = log_stays wanted piece span old.view (spot_in wanted.partition piece.id part.Log (entry_of piece.id old.view.entries)) (Err e) old.store new.store w.1;
    cache = ap (λ (t : Tiers S M). t.cache) w.0;
    why = inr (ap (λ (t : Tiers S M). t.view) w.0, ap (λ (t : Tiers S M). t.meta) w.0);
  }
