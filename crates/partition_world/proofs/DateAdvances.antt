-- A timestamp lookup that continues does a later turn of the piece that it has, or has come further.
use Rattle.std.proofs.Common.{◌≡◌, inl, inr, sym, subst, refl, ℕ, ◌+◌, ◌*◌, ◌<◌, ◌≤◌, List, Some, None, Option, Ok, Err, Bool, true, false, arith}
use Rattle.std.specs.Prelude.{◌^◌, min, max, nat_lt, if◌then◌else◌}
use Rattle.std.specs.declared.result.Result.{Result}
use Rattle.std.specs.declared.alloc.AllocError.{AllocError}
use Rattle.std.proofs.lemmas.Bool.Decides.{nat_tests}
use Rattle.tier_base.specs.declared.fault.Trouble.{Trouble}
use Rattle.tier_base.specs.declared.fault.Trouble.TheVariants.{Failed, NoMemory}
use Rattle.tier_base.specs.declared.plain.Part.TheVariants as part
use Rattle.disk_model.specs.declared.disk.Disk.{Ghosts as DiskGhosts}
use Rattle.object_store.specs.declared.placing.Spot.{Spot}
use Rattle.object_store.specs.Place.{short_of}
use Rattle.object_store.specs.declared.store.Store.{Ghosts as StoreGhosts}
use Rattle.meta_log.specs.declared.log.MetaLog.{Ghosts as MetaGhosts}
use Rattle.broker_log.specs.Seen.{LogState}
use Rattle.remote_view.specs.Fold.{EntriesSeen as View, entry_of}
use Rattle.remote_find.specs.declared.piece.Piece.{Piece}
use Rattle.tier_fetch.specs.Turns.{Tiers as Fetched, spot_in}
use Rattle.tier_fetch.specs.declared.turn.Span.{Span}
use Rattle.tier_fetch.specs.declared.refusal.RemoteRefusal.{RemoteRefusal}
use Rattle.tier_fetch.specs.declared.reading.RemoteRun.{RemoteRun}
use Rattle.plain_log.specs.declared.turn.Turn.{Turn}
use Rattle.plain_log.specs.declared.turn.Turn.TheVariants.{Goes}
use Rattle.time_find.specs.Passing.{Seeks, top_of}
use Rattle.time_find.specs.Turns.{SearchContinues, IsSearched, TimesBytes, Times, Indexes, SearchTakes, TimesRow, TimeRow, LocalSearchRow}
use Rattle.time_find.proofs.Outcomes.{never_goes}
use Rattle.time_find.specs.declared.turn.Asked.{Asked}
use Rattle.time_find.specs.declared.turn.SearchStep.{SearchStep}
use Rattle.time_find.specs.declared.turn.SearchStep.TheVariants as search
use Rattle.partition_world.proofs.GoingOn.{same_step}

-- how many turns a search has taken at most for the piece that it has
abbrev pub dated_before : SearchStep → ℕ
dated_before search.Seek = 0
dated_before (search.Times piece) = 1
dated_before (search.Index piece from) = 2
dated_before (search.Log piece from span) = 3

pub few_dated : (next : SearchStep) → dated_before next ≤ 3
few_dated search.Seek = omega arith
few_dated (search.Times piece) = omega arith
few_dated (search.Index piece from) = omega arith
few_dated (search.Log piece from span) = omega arith

-- it has let its piece go, or does a later turn of it
abbrev pub Rises : SearchStep → SearchStep → Type 0
Rises before search.Seek = Unit {0}
Rises before next = dated_before before < dated_before next

rises_to : (before next after : SearchStep) (at to : ℕ) → ◌≡◌ {A = Result (Turn (ℕ × SearchStep)) AllocError} (Ok (Goes (at, next))) (Ok (Goes (to, after)))
    → Rises before after → Rises before next
rises_to before next after at to is up =
    let turn : ◌≡◌ {A = Turn (ℕ × SearchStep)} (Goes (at, next)) (Goes (to, after)) = cc (is) in subst (Rises before) (sym (same_step at to next after turn)) up

seeks_rises : (asked : Asked) (line : List (ℕ × ℕ)) (view : View) (cursor at : ℕ) (next : SearchStep)
    → Seeks asked line view cursor (Goes (at, next)) → Rises search.Seek next
seeks_rises asked line view cursor at search.Seek w = tt
seeks_rises asked line view cursor at (search.Times piece) w = omega arith
seeks_rises asked line view cursor at (search.Index piece from) w = elim w [ ]
seeks_rises asked line view cursor at (search.Log piece from span) w = elim w [ ]

-- after a run that was searched there is no piece
searched_rises : (before next : SearchStep) (asked : Asked) (offset : ℕ) (run : List ℕ) (at : ℕ)
    → IsSearched asked offset run (Goes (at, next)) → Rises before next
searched_rises before search.Seek asked offset run at w = tt
searched_rises before (search.Times piece) asked offset run at w = elim w [ ]
searched_rises before (search.Index piece from) asked offset run at w = elim w [ ]
searched_rises before (search.Log piece from span) asked offset run at w = elim w [ ]

shown_rises : (more : Bool) (piece : Piece) (from cursor top at : ℕ) (next : SearchStep)
    → ◌≡◌ {A = Turn (ℕ × SearchStep)} (Goes (at, next)) (if more then Goes (cursor, search.Index piece from) else Goes (top, search.Seek)) → Rises (search.Times piece) next
shown_rises true piece from cursor top at next is =
    subst (Rises (search.Times piece)) (sym (same_step at cursor next (search.Index piece from) is)) (omega arith)
shown_rises false piece from cursor top at next is = subst (Rises (search.Times piece)) (sym (same_step at top next search.Seek is)) tt

times_rises : (asked : Asked) (cursor : ℕ) (piece : Piece) (base : ℕ) (spot : Spot) (answer : Result (Option (List ℕ)) Trouble)
    (at : ℕ) (next : SearchStep) → Times asked cursor piece base spot answer (Ok (Goes (at, next))) → Rises (search.Times piece) next
times_rises asked cursor piece base spot (Err Failed) at next w = absurd (cc (w))
times_rises asked cursor piece base spot (Err NoMemory) at next w = absurd (let no : false ≡ true = w in cc)
times_rises asked cursor piece base spot (Ok None) at next w = absurd (cc (w))
times_rises asked cursor piece base spot (Ok (Some bytes)) at next w = by (short_of spot bytes) w
  where
    by : (end : Option ℕ) → TimesBytes end asked cursor piece base spot bytes (Ok (Goes (at, next))) → Rises (search.Times piece) next
    by (Some end) w = absurd (cc (w))
    by None w = shown_rises (nat_lt _ (top_of asked piece)) piece _ cursor (top_of asked piece) at next w.turn_is

indexes_rises : (cursor : ℕ) (piece : Piece) (from : ℕ) (read : Result Span RemoteRefusal) (at : ℕ) (next : SearchStep)
    → Indexes cursor piece from read (Ok (Goes (at, next))) → Rises (search.Index piece from) next
indexes_rises cursor piece from (Ok span) at next w = rises_to (search.Index piece from) next (search.Log piece from span) at cursor w (omega arith)
indexes_rises cursor piece from (Err why) at next w = absurd (never_goes why at next w)

searches_rises : (before next : SearchStep) (asked : Asked) (from : ℕ) (read : Result RemoteRun RemoteRefusal) (at : ℕ)
    → SearchTakes asked from read (Ok (Goes (at, next))) → Rises before next
searches_rises before next asked from (Ok run) at w = searched_rises before next asked from run.bytes at w
searches_rises before next asked from (Err why) at w = absurd (never_goes why at next w)

module _ {D : Type 0} (disk : DiskGhosts D) where
  -- a turn in the local log
  pub own_rises : (old : LogState D) (asked : Asked) (cursor : ℕ) (before next : SearchStep) (at : ℕ) (new : LogState D)
      → LocalSearchRow disk.content disk.control old asked cursor (Goes (at, next)) new → Rises before next
  own_rises old asked cursor before next at new (inl (past, is, same)) =
      subst (Rises before) (sym (same_step at _ next search.Seek is)) tt
  own_rises old asked cursor before next at new (inr (below, row)) = searched_rises before next asked _ row.out.bytes at row.searched

module _ {S M : Type 0} (store : StoreGhosts S) (meta : MetaGhosts M) where
  times_row_rises : (asked : Asked) (cursor : ℕ) (piece : Piece) (view : View) (place : Option (ℕ × Spot)) (at : ℕ) (next : SearchStep)
      (old new : S) → TimesRow store.content store.control asked cursor piece view place (Ok (Goes (at, next))) old new
      → Rises (search.Times piece) next
  times_row_rises asked cursor piece view None at next old new w = let e = w.0 in absurd (cc (e))
  times_row_rises asked cursor piece view (Some place) at next old new w =
      times_rises asked cursor piece place.0 place.1 w.answer at next w.times

  -- a turn among the remote segments
  pub time_rises : (asked : Asked) (line : List (ℕ × ℕ)) (cursor : ℕ) (before next : SearchStep) (at : ℕ) (old new : Fetched S M)
      → TimeRow store.content store.control meta.content meta.control asked line cursor before (Ok (Goes (at, next))) old new
      → Rises before next
  time_rises asked line cursor search.Seek next at old new w = seeks_rises asked line new.view cursor at next w.1.0
  time_rises asked line cursor (search.Times piece) next at old new w =
      let place = spot_in asked.partition piece.id part.TimeIndex (entry_of piece.id old.view.entries) in
      times_row_rises asked cursor piece old.view place at next old.store new.store w.1
  time_rises asked line cursor (search.Index piece from) next at old new (same, inl w) =
      rises_to (search.Index piece from) next search.Seek at (top_of asked piece) w.1 tt
  time_rises asked line cursor (search.Index piece from) next at old new (same, inr w) = indexes_rises cursor piece from w.1.0 at next w.1.2
  time_rises asked line cursor (search.Log piece from span) next at old new (same, inl w) =
      rises_to (search.Log piece from span) next search.Seek at (top_of asked piece) w.1 tt
  time_rises asked line cursor (search.Log piece from span) next at old new (same, inr w) =
      searches_rises (search.Log piece from span) next asked from w.1.0 at w.1.2

-- how many turns a search has taken at most that has come to a cursor with this: four for each offset that it has passed
abbrev pub taken_to : ℕ → SearchStep → ℕ
taken_to cursor next = 2 + 4 * min cursor (2 ^ 64) + dated_before next

pub few_taken_to : (cursor : ℕ) (next : SearchStep) → taken_to cursor next ≤ 4 * 2 ^ 64 + 5
few_taken_to cursor next = let few = few_dated next in omega (arith, few)

-- one that is resumed and continues has taken more
further : (start cursor at : ℕ) (before : SearchStep) (turn : ℕ) → max start cursor < 2 ^ 64 → max start cursor ≤ at
    → dated_before (if nat_lt cursor start then search.Seek else before) < turn → taken_to cursor before < 2 + 4 * min at (2 ^ 64) + turn
further start cursor at before turn fits from up = go (nat_lt cursor start) refl up
  where
    go : (t : Bool) → nat_lt cursor start ≡ t → dated_before (if t then search.Seek else before) < turn
        → taken_to cursor before < 2 + 4 * min at (2 ^ 64) + turn
    go true t more =
        let low : cursor < start = grind (arith, nat_tests, t) in
        let few = few_dated before in
        omega (arith, fits, from, low, few)
    go false t more = omega (arith, fits, from, more)

pub goes_further : (start cursor at : ℕ) (before next : SearchStep) → max start cursor < 2 ^ 64 → SearchContinues (max start cursor) (Goes (at, next))
    → Rises (if nat_lt cursor start then search.Seek else before) next → taken_to cursor before < taken_to at next
goes_further start cursor at before search.Seek fits goes up = let few = few_dated before in omega (arith, fits, goes, few)
goes_further start cursor at before (search.Times piece) fits goes up = further start cursor at before 1 fits goes.0 up
goes_further start cursor at before (search.Index piece from) fits goes up = further start cursor at before 2 fits goes.0 up
goes_further start cursor at before (search.Log piece from span) fits goes up = further start cursor at before 3 fits goes.0 up
