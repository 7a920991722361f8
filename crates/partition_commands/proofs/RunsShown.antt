-- A run that was read of a log is a run of what is seen: of one epoch, since no epoch of the log's leader epochs starts
-- within it.
use Rattle.std.proofs.Common.{◌≡◌, ◌≢◌, inl, inr, ◌∙◌, sym, ap, subst, refl, ℕ, ◌+◌, ◌<◌, ◌≤◌, List, [], ◌∷◌, ◌++◌, length, Some, Bool, true, false, nat_lt, arith, append_assoc}
use Rattle.std.specs.List.{AllByRecursion}
use Rattle.std.proofs.lemmas.Bool.Decides.{nat_tests}
use Rattle.std.proofs.lemmas.List.Elements.{All-from_recursion}
use Rattle.tier_base.specs.declared.plain.Stop.{Stop}
use Rattle.tier_base.specs.declared.plain.Stop.TheVariants.{Mark, Piece, Limit}
use Rattle.log_terms.specs.Batch.{field_at, base_of, epoch_of, last_of}
use Rattle.log_terms.specs.Line.{line_of, line_after}
use Rattle.log_terms.specs.Log.{IsConsecutive, EndsAt, joined, from_offset, end_from, end_of}
use Rattle.log_terms.proofs.Logs.{end_append}
use Rattle.log_steps.specs.Fronts.{Each}
use Rattle.segment_file.specs.Run.{Fits}
use Rattle.plain_log.specs.Fetch.{is_within}
use Rattle.local_log.specs.declared.reading.RunOut.{RunOut}
use Rattle.broker_log.specs.Seen.{LogState, LogSeen}
use Rattle.broker_log.specs.Read.{IsRunInLog}
use Rattle.broker_log.specs.Read as reads
use Rattle.laws_partition.specs.Log.{IsLineFor, HasBytes, epoch_in, IsRunOf}
use Rattle.laws_partition.specs.Log as seen
use Rattle.laws_partition.proofs.BoolTests.{le_true}
use Rattle.laws_partition.proofs.Lines.{cases_eq, consecutive_back, after_same, after_other}

-- one batch, or several that fit the limit
within_of : (limit : ℕ) (run : List (List ℕ)) → run ≢ [] → Fits limit run → is_within limit run ≡ true
within_of limit [] some fits = absurd (some refl)
within_of limit (batch ∷ []) some fits = refl
within_of limit (batch ∷ next ∷ run) some fits = le_true (length (joined (batch ∷ next ∷ run))) limit fits

-- what precedes the batch that holds an offset
from_front : (offset : ℕ) (log : List (List ℕ)) → (front : List (List ℕ)) × (log ≡ front ++ from_offset offset log)
from_front offset [] = ([], refl)
from_front offset (batch ∷ log) = go (nat_lt (last_of batch) offset) refl (from_front offset log)
  where
    go : (t : Bool) → nat_lt (last_of batch) offset ≡ t → ((front : List (List ℕ)) × (log ≡ front ++ from_offset offset log))
        → (front : List (List ℕ)) × (batch ∷ log ≡ front ++ from_offset offset (batch ∷ log))
    go true t h = (batch ∷ h.0, rw t (ap (λ (l : List (List ℕ)). batch ∷ l) h.1))
    go false t h = ([], rw t refl)

-- that batch ends past it
from_past : (offset : ℕ) (log : List (List ℕ)) (first : List ℕ) (rest : List (List ℕ)) → from_offset offset log ≡ first ∷ rest → offset ≤ last_of first
from_past offset [] first rest is = absurd cc
from_past offset (batch ∷ log) first rest is = go (nat_lt (last_of batch) offset) refl (λ k. from_past offset log first rest k)
  where
    go : (t : Bool) → nat_lt (last_of batch) offset ≡ t → (from_offset offset log ≡ first ∷ rest → offset ≤ last_of first) → offset ≤ last_of first
    go true t more = more (rw t at is)
    go false t more =
        let here : batch ∷ log ≡ first ∷ rest = (rw t at is) in
        let same : batch ≡ first = cc in
        let le : offset ≤ last_of batch = grind (arith, nat_tests, t) in
        subst (λ (b : List ℕ). offset ≤ last_of b) same le

each_front : {A : Type 0} (P : A → Type 0) (xs ys : List A) → Each P (xs ++ ys) → Each P xs
each_front P [] ys h = tt
each_front P (x ∷ xs) ys h = (h.0, each_front P xs ys h.1)

-- the entries after a batch
after_back : (P : ℕ × ℕ → Type 0) (e : ℕ) (front : List (List ℕ)) (first : List ℕ) (ys : List (List ℕ)) → Each P (line_after e (front ++ first ∷ ys)) → Each P (line_after (epoch_of first) ys)
after_back P e [] first ys h = elim (cases_eq (epoch_of first) e) [
  | inl same ↦ subst (λ (k : ℕ). Each P (line_after k ys)) (sym same) (subst (Each P) (after_same e first ys same) h)
  | inr differs ↦ let k : Each P ((epoch_of first, base_of first) ∷ line_after (epoch_of first) ys) = subst (Each P) (after_other e first ys differs) h in k.1
]
after_back P e (f ∷ front) first ys h = elim (cases_eq (epoch_of f) e) [
  | inl same ↦ after_back P e front first ys (subst (Each P) (after_same e f (front ++ first ∷ ys) same) h)
  | inr differs ↦
      let k : Each P ((epoch_of f, base_of f) ∷ line_after (epoch_of f) (front ++ first ∷ ys)) = subst (Each P) (after_other e f (front ++ first ∷ ys) differs) h in
      after_back P (epoch_of f) front first ys k.1
]

line_back : (P : ℕ × ℕ → Type 0) (front : List (List ℕ)) (first : List ℕ) (ys : List (List ℕ)) → Each P (line_of (front ++ first ∷ ys)) → Each P (line_after (epoch_of first) ys)
line_back P [] first ys h = h.1
line_back P (f ∷ front) first ys h = after_back P (epoch_of f) front first ys h.1

-- what holds of each entry of a log's leader epochs holds of each of its batches' entries
own_entries : (P : ℕ × ℕ → Type 0) (line : List (ℕ × ℕ)) (log : List (List ℕ)) → IsLineFor line log → Each P line → Each P (line_of log)
own_entries P line log (inl is) h = subst (Each P) is h
own_entries P line log (inr k) h = each_front P (line_of log) _ (subst (Each P) k.1 h)

-- where the next epoch starts a run has ended
abbrev Before : ℕ → ℕ → List (List ℕ) → ℕ × ℕ → Type 0
Before offset next log entry = offset < entry.1 → EndsAt entry.1 log → next ≤ entry.1

one_epoch : (offset next n e : ℕ) (log front run rest : List (List ℕ)) → front ++ (run ++ rest) ≡ log → IsConsecutive n (run ++ rest) → end_of front ≡ n → offset < n → next ≡ end_from n run
    → Each (Before offset next log) (line_after e (run ++ rest)) → AllByRecursion (λ batch. epoch_of batch ≡ e) run
one_epoch offset next n e log front [] rest is c end under to h = tt
one_epoch offset next n e log front (x ∷ run) rest is c end under to h = elim (cases_eq (epoch_of x) e) [
  | inl same ↦ (
    same,
    one_epoch offset next (last_of x + 1) e log (front ++ x ∷ []) run rest (append_assoc front (x ∷ []) (run ++ rest) ∙ is) c.1 (end_append 0 front (x ∷ [])) (omega (arith, c.0, under)) to
        (subst (Each (Before offset next log)) (after_same e x (run ++ rest) same) h),
  )
  | inr differs ↦
      let k : Each (Before offset next log) ((epoch_of x, base_of x) ∷ line_after (epoch_of x) (run ++ rest)) = subst (Each (Before offset next log)) (after_other e x (run ++ rest) differs) h in
      let le : next ≤ base_of x = k.0 (omega (arith, c.0, under)) (front, (x ∷ run ++ rest, is), end ∙ sym c.0) in
      let high : last_of x + 1 ≤ end_from (last_of x + 1) run = run_end (last_of x + 1) run rest c.1 in
      absurd (omega (arith, le, high, to))
]
  where
    run_end : (m : ℕ) (run rest : List (List ℕ)) → IsConsecutive m (run ++ rest) → m ≤ end_from m run
    run_end m [] rest c = omega arith
    run_end m (y ∷ run) rest c = let h = run_end (last_of y + 1) run rest c.1 in omega (arith, c.0, h)

-- no bytes have no base offset
none_base : base_of [] ≡ 0
unfolding base_of field_at
none_base = refl

bytes_next : (n : ℕ) (rest : List (List ℕ)) → IsConsecutive n rest → 0 < n → HasBytes rest
bytes_next n [] c some = tt
bytes_next n ([] ∷ rest) c some = absurd (let zero_is = none_base in omega (arith, c.0, zero_is, some))
bytes_next n ((byte ∷ batch) ∷ rest) c some = omega arith

stop_seen : (stop : Stop) (run rest : List (List ℕ)) (next limit mark : ℕ) → next ≡ end_of run → reads.StopIs stop run rest next limit mark → seen.StopIs stop run rest limit mark
stop_seen Mark run rest next limit mark is h = sym is ∙ h
stop_seen Piece run rest next limit mark is h = λ e. h (is ∙ e)
stop_seen Limit run [] next limit mark is h = absurd h
stop_seen Limit run (batch ∷ rest) next limit mark is h = (λ e. h.0 (is ∙ e), h.1)

-- the batches of a run have the epoch of the first
same_epochs : (e : ℕ) (run : List (List ℕ)) → AllByRecursion (λ batch. epoch_of batch ≡ e) run → AllByRecursion (λ batch. Some (epoch_of batch) ≡ Some e) run
same_epochs e [] all = tt
same_epochs e (batch ∷ run) all = (ap (λ (k : ℕ). Some k) all.0, same_epochs e run all.1)

-- a run that was read is one of what is seen
pub run_shown : {D : Type 0} (kept : LogState D) (s : LogSeen) (offset limit mark : ℕ) (out : RunOut) → IsConsecutive 0 s.batches → IsLineFor s.line s.batches → (r : IsRunInLog kept s offset limit mark out) → IsRunOf s.batches offset limit mark out.stop r.run
run_shown kept s offset limit mark out c line r = go r.run r.rest r.some r.parts r.next_is r.fits r.stop_is
  where
    go : (run rest : List (List ℕ)) → run ≢ [] → from_offset offset s.batches ≡ run ++ rest → out.next ≡ end_from offset run → Fits limit run → reads.StopIs out.stop run rest out.next limit mark
        → IsRunOf s.batches offset limit mark out.stop run
    go [] rest some parts next fits stop = absurd (some refl)
    go (first ∷ run) rest some parts next fits stop =
        let front = from_front offset s.batches in
        let whole : s.batches ≡ front.0 ++ first ∷ (run ++ rest) = front.1 ∙ ap (λ (l : List (List ℕ)). front.0 ++ l) parts in
        let back = consecutive_back 0 front.0 (first ∷ (run ++ rest)) (subst (IsConsecutive 0) whole c) in
        let past = from_past offset s.batches first (run ++ rest) parts in
        let entries = line_back (Before offset out.next s.batches) front.0 first (run ++ rest)
        (subst (λ (l : List (List ℕ)). Each (Before offset out.next s.batches) (line_of l)) whole (own_entries (Before offset out.next s.batches) s.line s.batches line r.before)) in
        let epochs = one_epoch offset out.next (last_of first + 1) (epoch_of first) s.batches (front.0 ++ first ∷ []) run rest (append_assoc front.0 (first ∷ []) (run ++ rest) ∙ sym whole) back.1
        (end_append 0 front.0 (first ∷ [])) (omega (arith, past)) next entries in
        let after = consecutive_back (last_of first + 1) run rest back.1 in
        let high = high_end (last_of first + 1) run rest back.1 in
        record {
          rest = rest;
          parts = parts;
          next = bytes_next (end_from (last_of first + 1) run) rest after (omega (arith, high));
          within = within_of limit (first ∷ run) some fits;
          epochs = All-from_recursion (λ (batch : List ℕ). Some (epoch_of batch) ≡ Some (epoch_of first)) (first ∷ run) (refl, same_epochs (epoch_of first) run epochs);
          below = omega (arith, r.below, next);
          stop_is = stop_seen out.stop (first ∷ run) rest out.next limit mark next stop;
        }
      where
        high_end : (m : ℕ) (run rest : List (List ℕ)) → IsConsecutive m (run ++ rest) → m ≤ end_from m run
        high_end m [] rest c = omega arith
        high_end m (y ∷ run) rest c = let h = high_end (last_of y + 1) run rest c.1 in omega (arith, c.0, h)
