-- A timestamp lookup in a broker's local log: what it passes over is too early, and what it reads is the log's.
use Rattle.std.proofs.Common.{◌≡◌, ◌∙◌, inl, inr, sym, ap, subst, refl, ℕ, ◌+◌, ◌<◌, ◌≤◌, ◌^◌, ◌-◌, ◌&&◌, ◌⊎◌, Bool, true, false, nat_lt, nat_le, List, [], ◌∷◌, ◌++◌, Some, arith, append_assoc}
use Rattle.std.specs.Prelude.{ℤ, ◌<ℤ◌, ◌≤ℤ◌, int_lt, IsOk}
use Rattle.std.specs.Int.{int_max}
use Rattle.std.proofs.lemmas.Bool.Decides.{nat_tests}
use Rattle.std.proofs.lemmas.Int.{ints}
use Rattle.tier_base.specs.Told.{In}
use Rattle.tier_base.specs.Device.{Control}
use Rattle.disk_model.specs.Call.{call_code}
use Rattle.disk_model.specs.Content.{Content}
use Rattle.log_terms.specs.Batch.{last_of, max_ts_of}
use Rattle.log_terms.specs.Log.{IsConsecutive, EndsAt, joined, up_to, from_offset, end_from, end_of}
use Rattle.log_terms.proofs.Logs.{end_append}
use Rattle.log_steps.specs.Fronts.{Each}
use Rattle.record_batch.specs.Check.{checked}
use Rattle.segment_file.specs.declared.placed.Placed.{Placed}
use Rattle.segment_file.specs.Index.{placed_from}
use Rattle.segment_file.specs.Growing.{Grown, end_after, latest_from, latest_ts}
use Rattle.local_log.specs.Coheres.{SegmentsHold}
use Rattle.local_log.specs.Stored.{end_of as segment_end}
use Rattle.broker_log.specs.Seen.{LogState, Up, Down, Away, LogSeen, ShowsSeen, LogStays, closed_in, is_up}
use Rattle.broker_log.specs.Read.{IsRunInLog}
use Rattle.plain_log.specs.declared.answer.Answer.{Answer}
use Rattle.plain_log.specs.declared.answer.Answer.TheVariants.{DiskFault, Damaged, Offset}
use Rattle.plain_log.specs.declared.answer.Place.TheVariants.{File}
use Rattle.plain_log.specs.RowsOfReads.{first_at}
use Rattle.laws_partition.specs.Log.{IsLineFor, IsRunOf}
use Rattle.partition_commands.proofs.RunsShown.{run_shown}
use Rattle.time_find.specs.declared.turn.Asked.{Asked}
use Rattle.time_find.specs.declared.turn.SearchStep.{SearchStep}
use Rattle.time_find.specs.declared.turn.SearchStep.TheVariants.{Seek}
use Rattle.plain_log.specs.declared.turn.Turn.{Turn}
use Rattle.plain_log.specs.declared.turn.Turn.TheVariants.{Goes, Ends}
use Rattle.time_find.specs.Dates.{AreAllChecked}
use Rattle.time_find.specs.Passing.{is_passed, passed_over}
use Rattle.time_find.specs.Turns.{IsSearched, SearchesRun, ReadLocalRow, LocalSearchRow}
use Rattle.laws_time_find.specs.Passed.{HasPassed}
use Rattle.laws_time_find.proofs.Dates.{in_rest, in_beginning, consecutive_back}
use Rattle.laws_time_find.proofs.Early.{passed_more}
use Rattle.laws_time_find.proofs.Searched.{runs_are_searched}
use Rattle.partition_world.proofs.GoingOn.{same_cursor, same_step}

-- batches that a segment holds

-- it ends where they do
placed_end : (first at : ℕ) (own : List (List ℕ)) → end_after first (placed_from at own) ≡ end_from first own
placed_end first at [] = refl
placed_end first at (batch ∷ own) = placed_end (last_of batch + 1) _ own

-- none has a later timestamp than the greatest
above_first : (a b c : ℤ) → a ≤ℤ b → a ≤ℤ int_max b c
above_first a b c h = grind (arith, ints)

above_second : (b c : ℤ) → c ≤ℤ int_max b c
above_second b c = grind (arith, ints)

latest_above : (ts low : ℤ) (placed : List Placed) → low ≤ℤ ts → low ≤ℤ latest_from ts placed
latest_above ts low [] h = h
latest_above ts low (p ∷ placed) h = latest_above (int_max ts p.max_ts) low placed (above_first low ts p.max_ts h)

latest_each : (ts : ℤ) (at : ℕ) (own : List (List ℕ)) (b : List ℕ) → In b own → max_ts_of b ≤ℤ latest_from ts (placed_from at own)
latest_each ts at [] b there = absurd there
latest_each ts at (x ∷ own) b (inl same) =
    latest_above (int_max ts (max_ts_of x)) (max_ts_of b) (placed_from _ own)
    (subst (λ (y : List ℕ). max_ts_of y ≤ℤ int_max ts (max_ts_of x)) (sym same) (above_second ts (max_ts_of x)))
latest_each ts at (x ∷ own) b (inr there) = latest_each (int_max ts (max_ts_of x)) _ own b there

latest_all : (at : ℕ) (own : List (List ℕ)) (b : List ℕ) → In b own → max_ts_of b ≤ℤ latest_ts (placed_from at own)
latest_all at [] b there = absurd there
latest_all at (x ∷ own) b (inl same) =
    latest_above (max_ts_of x) (max_ts_of b) (placed_from _ own) (subst (λ (y : List ℕ). max_ts_of y ≤ℤ max_ts_of x) (sym same) (self (max_ts_of x)))
  where
    self : (a : ℤ) → a ≤ℤ a
    self a = grind (arith, ints)
latest_all at (x ∷ own) b (inr there) = latest_each (max_ts_of x) _ own b there

-- closed segments that are passed over

record Passed (ts : ℤ) (at : ℕ) (segment : Grown) : Type 0 where
  pub above : segment.base ≤ at
  pub below : at < segment_end segment
  pub early : int_lt (latest_ts segment.batches) ts ≡ true

passed_is : (ts : ℤ) (at : ℕ) (segment : Grown) → is_passed ts at segment ≡ true → Passed ts at segment
passed_is ts at segment is = by (nat_le segment.base at) (nat_lt at (segment_end segment)) (int_lt (latest_ts segment.batches) ts) refl refl refl is
  where
    by : (t u v : Bool) → nat_le segment.base at ≡ t → nat_lt at (segment_end segment) ≡ u → int_lt (latest_ts segment.batches) ts ≡ v → (t && u && v) ≡ true → Passed ts at segment
    by true true true a b c k = record { above = grind (arith, nat_tests, a); below = grind (arith, nat_tests, b); early = c }
    by false u v a b c k = absurd (cc (k))
    by true false v a b c k = absurd (cc (k))
    by true true false a b c k = absurd (cc (k))

below_early : (a b ts : ℤ) → a ≤ℤ b → int_lt b ts ≡ true → a <ℤ ts
below_early a b ts h k = grind (arith, ints)

-- the cursor doesn't fall
over_up : (ts : ℤ) (cursor : ℕ) (closed : List Grown) → cursor ≤ passed_over ts cursor closed
over_up ts cursor [] = omega arith
over_up ts cursor (segment ∷ closed) = by (is_passed ts cursor segment) refl (over_up ts (segment_end segment) closed) (over_up ts cursor closed)
  where
    by : (t : Bool) → is_passed ts cursor segment ≡ t → segment_end segment ≤ passed_over ts (segment_end segment) closed → cursor ≤ passed_over ts cursor closed
        → cursor ≤ passed_over ts cursor (segment ∷ closed)
    by true is behind here = (let p = passed_is ts cursor segment is in let low = p.below in rw is (omega (arith, low, behind)))
    by false is behind here = rw is here

-- all before it is too early
pub over_closed : (ts : ℤ) (start : ℕ) (log front batches : List (List ℕ)) (first : ℕ) (closed more : List Grown) (cursor : ℕ) → IsConsecutive 0 log → log ≡ front ++ batches → end_of front ≡ first
    → SegmentsHold first (closed ++ more) batches → HasPassed ts start log cursor → HasPassed ts start log (passed_over ts cursor closed)
over_closed ts start log front batches first [] more cursor c is ends hold h = h
over_closed ts start log front batches first (segment ∷ closed) more cursor c is ends hold h =
    by (is_passed ts cursor segment) refl (λ at k. over_closed ts start log (front ++ hold.0) hold.1 (segment_end segment) closed more at c parts there_end hold.5 k)
  where
    own : List (List ℕ)
    own = hold.0

    parts : log ≡ (front ++ own) ++ hold.1
    parts = is ∙ (ap (λ (l : List (List ℕ)). front ++ l) hold.2 ∙ sym (append_assoc front own hold.1))

    own_end : segment_end segment ≡ end_from first own
    own_end = ap (λ (b : ℕ). end_after b segment.batches) hold.3 ∙ (ap (end_after first) hold.4 ∙ placed_end first 0 own)

    there_end : end_of (front ++ own) ≡ segment_end segment
    there_end = end_append 0 front own ∙ (ap (λ (n : ℕ). end_from n own) ends ∙ sym own_end)

    whole : IsConsecutive 0 (front ++ (own ++ hold.1))
    whole = subst (IsConsecutive 0) (is ∙ ap (λ (l : List (List ℕ)). front ++ l) hold.2) c

    behind : IsConsecutive first (own ++ hold.1)
    behind = subst (λ (n : ℕ). IsConsecutive n (own ++ hold.1)) ends (consecutive_back 0 front (own ++ hold.1) whole)

    high : end_of (front ++ own) ≤ end_of log
    high = subst (λ (l : List (List ℕ)). end_of (front ++ own) ≤ end_of l) (sym parts) (far 0 (front ++ own) hold.1 (subst (IsConsecutive 0) parts c))
      where
        far : (n : ℕ) (xs ys : List (List ℕ)) → IsConsecutive n (xs ++ ys) → end_from n xs ≤ end_from n (xs ++ ys)
        far n [] [] k = omega arith
        far n [] (y ∷ ys) k = (let e = far (last_of y + 1) [] ys k.1 in let low = k.0 in omega (arith, low, e))
        far n (x ∷ xs) ys k = far (last_of x + 1) xs ys k.1

    its : Passed ts cursor segment → (b : List ℕ) → In b log → cursor ≤ last_of b → last_of b < segment_end segment → max_ts_of b <ℤ ts
    its p b there low below =
        let above = p.above in
        let base = hold.3 in
        let in_log : In b (front ++ (own ++ hold.1)) = subst (In b) (is ∙ ap (λ (l : List (List ℕ)). front ++ l) hold.2) there in
        let fronts : IsConsecutive 0 front = front_consecutive 0 front (own ++ hold.1) whole in
        let in_back = in_rest 0 front (own ++ hold.1) b fronts in_log (omega (arith, above, low, ends, base)) in
        let mine = in_beginning first own hold.1 b behind in_back (omega (arith, below, own_end)) in
        let early = p.early in
        below_early (max_ts_of b) (latest_ts segment.batches) ts
        (subst (λ (placed : List Placed). max_ts_of b ≤ℤ latest_ts placed) (sym hold.4) (latest_all 0 own b mine)) early
      where
        front_consecutive : (n : ℕ) (xs ys : List (List ℕ)) → IsConsecutive n (xs ++ ys) → IsConsecutive n xs
        front_consecutive n [] ys k = tt
        front_consecutive n (x ∷ xs) ys k = (k.0, front_consecutive (last_of x + 1) xs ys k.1)

    by : (t : Bool) → is_passed ts cursor segment ≡ t → ((at : ℕ) → HasPassed ts start log at → HasPassed ts start log (passed_over ts at closed))
        → HasPassed ts start log (passed_over ts cursor (segment ∷ closed))
    by true is next = rw is (next (segment_end segment)
        (passed_more ts start cursor (segment_end segment) log c h (omega (arith, high, there_end)) (its (passed_is ts cursor segment is))))
    by false is next = rw is (next cursor h)

-- a search in an open log

closed_passed : {D : Type 0} (content : D → Content) (kept : LogState D) (s : LogSeen) (ts : ℤ) (start cursor : ℕ) → is_up kept ≡ true → ShowsSeen content kept s → HasPassed ts start s.batches cursor
    → HasPassed ts start s.batches (passed_over ts cursor (closed_in kept))
closed_passed content (Up log) s ts start cursor up shows h =
    over_closed ts start s.batches shows.below log.batches log.local_start log.closed (log.active ∷ []) cursor shows.consecutive shows.batches_are shows.begins shows.segments h
closed_passed content (Down settings disk) s ts start cursor up shows h = absurd (cc (up))
closed_passed content Away s ts start cursor up shows h = absurd shows

are_checked : (run : List (List ℕ)) → Each (λ (batch : List ℕ). IsOk (checked batch)) run → AreAllChecked run
are_checked [] each = tt
are_checked (batch ∷ run) each = (each.0, are_checked run each.1)

-- what a turn came to, of a log that is seen so: where it continues, all before it is too early; an offset that it
-- answers is that of the timestamp
pub record OwnComes (asked : Asked) (log : List (List ℕ)) (turn : Turn (ℕ × SearchStep)) : Type 0 where
  pub goes : (at : ℕ) (later : SearchStep) → turn ≡ Goes (at, later) → (later ≡ Seek) × HasPassed asked.ts asked.start log at
  pub ends : (answer : Answer) → turn ≡ Ends answer → (answer ≡ DiskFault)
      ⊎ ((n : ℕ) × (answer ≡ Offset n) × (first_at asked.ts asked.start (from_offset asked.start (up_to asked.mark log)) ≡ Some n))

goes_to : (asked : Asked) (log : List (List ℕ)) (n : ℕ) → HasPassed asked.ts asked.start log n → OwnComes asked log (Goes (n, Seek))
goes_to asked log n h = record {
  goes = λ at later e.
      (sym (same_step n at Seek later e), subst (HasPassed asked.ts asked.start log) (same_cursor n at Seek later e) h);
  ends = λ answer e. absurd (cc (e));
}

module _ {D : Type 0} (content : D → Content) (control : D → Control call_code) where
  module _ (asked : Asked) (old new : LogState D) (s : LogSeen) (up : is_up old ≡ true) (shows : ShowsSeen content old s) (c : IsConsecutive 0 s.batches) (line : IsLineFor s.line s.batches)
      (known : EndsAt asked.mark s.batches) where
    -- a run that is searched at an offset
    searched : (at : ℕ) (turn : Turn (ℕ × SearchStep)) → asked.start ≤ at → HasPassed asked.ts asked.start s.batches at → SearchesRun content control old asked at turn new → OwnComes asked s.batches turn
    searched at turn low h r = comes turn (subst (λ (bytes : List ℕ). IsSearched asked at bytes turn) run.bytes r.searched)
      where
        run : IsRunInLog old s at (2 ^ 64 - 1) asked.mark r.out
        run = r.reads.run s shows known

        read : IsRunOf s.batches at (2 ^ 64 - 1) asked.mark r.out.stop run.run
        read = run_shown old s at (2 ^ 64 - 1) asked.mark r.out c line run

        comes : (u : Turn (ℕ × SearchStep)) → IsSearched asked at (joined run.run) u → OwnComes asked s.batches u
        comes (Goes (n, Seek)) k =
            goes_to asked s.batches n
            ((runs_are_searched asked at n (2 ^ 64 - 1) s.batches run.run r.out.stop c h low read (are_checked run.run run.are)).1 k).0
        comes (Goes (n, other)) k = absurd k
        comes (Ends (Offset n)) k = record {
          goes = λ to later e. absurd (cc (e));
          ends = λ answer e.
              (let is : Offset n ≡ answer = cc (e) in
              inr (n, sym is, (runs_are_searched asked at n (2 ^ 64 - 1) s.batches run.run r.out.stop c h low read (are_checked run.run run.are)).0 k));
        }
        comes (Ends other) k = absurd k

    read_comes : (at : ℕ) (turn : Turn (ℕ × SearchStep)) → asked.start ≤ at → HasPassed asked.ts asked.start s.batches at → ReadLocalRow content control old asked at turn new → OwnComes asked s.batches turn
    read_comes at (Ends DiskFault) low h row = record {
      goes = λ to later e. absurd (cc (e));
      ends = λ answer e. (let is : DiskFault ≡ answer = cc (e) in inl (sym is));
    }
    read_comes at (Ends (Damaged (File name) place)) low h row = absurd (row.misreads.unmarked s shows known)
    read_comes at turn low h row = searched at turn low h row

    pub own_comes : (cursor : ℕ) (turn : Turn (ℕ × SearchStep)) → asked.start ≤ cursor → HasPassed asked.ts asked.start s.batches cursor → LocalSearchRow content control old asked cursor turn new
        → OwnComes asked s.batches turn
    own_comes cursor turn low h (inl (far, is, same)) =
        subst (OwnComes asked s.batches) (sym is)
        (goes_to asked s.batches (passed_over asked.ts cursor (closed_in old)) (closed_passed content old s asked.ts asked.start cursor up shows h))
    own_comes cursor turn low h (inr (near, row)) =
        let up_to = over_up asked.ts cursor (closed_in old) in
        read_comes (passed_over asked.ts cursor (closed_in old)) turn (omega (arith, low, up_to))
        (closed_passed content old s asked.ts asked.start cursor up shows h) row

  -- a turn leaves the log as it was
  run_rests : (old new : LogState D) (asked : Asked) (at : ℕ) (turn : Turn (ℕ × SearchStep)) → SearchesRun content control old asked at turn new → LogStays content old new
  run_rests old new asked at turn r = r.reads.stays

  read_rests : (old new : LogState D) (asked : Asked) (at : ℕ) (turn : Turn (ℕ × SearchStep)) → ReadLocalRow content control old asked at turn new → LogStays content old new
  read_rests old new asked at (Ends DiskFault) row = row.0
  read_rests old new asked at (Ends (Damaged (File name) place)) row = row.misreads.stays
  read_rests old new asked at turn row = run_rests old new asked at turn row

  pub own_rests : (old new : LogState D) (asked : Asked) (cursor : ℕ) (turn : Turn (ℕ × SearchStep)) → LocalSearchRow content control old asked cursor turn new
      → (new ≡ old) ⊎ LogStays content old new
  own_rests old new asked cursor turn (inl (far, is, same)) = inl same
  own_rests old new asked cursor turn (inr (near, row)) = inr (read_rests old new asked (passed_over asked.ts cursor (closed_in old)) turn row)
