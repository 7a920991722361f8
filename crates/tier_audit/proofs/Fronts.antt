-- A copy's log on its way: the batch that comes next, and where none does.
use Rattle.std.proofs.Common.{◌≡◌, ◌≢◌, ◌∙◌, ap, sym, refl, subst, ℕ, zero, suc, ◌+◌, ◌^◌, ◌<◌, ◌≤◌, ℤ, List, [], ◌∷◌, ◌++◌, length, take, drop, Option, Some, None, IsOk, arith, append_assoc, append-nil, length-append}
use Rattle.std.specs.Prelude.{◌≤ℤ◌}
use Rattle.std.specs.Int.{w32, cast_unsigned, int_max}
use Rattle.std.specs.Int.Signed.{≤ℤ_refl}
use Rattle.std.specs.List.{AllByRecursion}
use Rattle.std.proofs.lemmas.Int.{ints}
use Rattle.std.proofs.lemmas.List.{length-take-le}
use mathlib.Core.List.{IsPrefix}
use Rattle.log_terms.specs.Batch.{base_of, epoch_of, last_of, max_ts_of}
use Rattle.log_terms.specs.Line.{line_of, epoch_at}
use Rattle.log_terms.specs.Log.{joined, end_from}
use Rattle.record_batch.specs.declared.head.Head.{Head}
use Rattle.record_batch.specs.Check.{checked}
use Rattle.record_batch.proofs.Passing.{checked_long}
use Rattle.segment_file.specs.declared.placed.Placed.{Placed}
use Rattle.segment_file.specs.declared.walking.Found.TheVariants as found
use Rattle.segment_file.specs.Walk.{size_in, found_at}
use Rattle.segment_file.specs.Segment.{greatest_from, greatest_ts}
use Rattle.segment_file.specs.Gathering.{HeadDescribes, with_epoch, later_ts}
use Rattle.segment_file.specs.Index.{placed, placed_in, placed_from}
use Rattle.segment_file.proofs.Finding.{not_empty}
use Rattle.segment_file.proofs.Standing.{AreBytes, bytes_drop, front_bytes, standing}
use Rattle.segment_file.proofs.Telling.{is_observable, placed_same}
use Rattle.segment_file.proofs.Runs.{joined_append, joined_push}
use Rattle.segment_file.proofs.Joining.{all_parts, end_push, end_append, consecutive_parts, consecutive_up, segment_push, segment_last, segment_front, parts_same}
use Rattle.segment_file.proofs.Placing.{placed_push}
use Rattle.segment_meta.specs.declared.note.Entry.{Entry}
use Rattle.remote_view.specs.Fold.{IsEntryValid}
use Rattle.tier_audit.specs.declared.log_part.Front.{Front}
use Rattle.tier_audit.specs.Whole.{Describes}
use Rattle.tier_audit.specs.Flaws.{IsFirstBad, MayBeginLog}
use Rattle.tier_audit.specs.Logs.{AreBegun, BeginsMore, IsLogFront, IsNextHead, MayCome, ComesNext, NoBatchComes, FrontGains, IsFrontStopped, IsAll, HasBatches}
use Rattle.tier_audit.proofs.Lines.{line_push, line_front, epochs_up, own_epochs}

-- a batch that may come has a head that says so
pub near_by : (entry : Entry) (front : Front) (batch : List ℕ) (head : Head) → HeadDescribes batch head → MayCome entry front batch → IsNextHead entry front head
near_by entry front batch head t m = record {
  begins = t.base ∙ m.begins;
  within = (let b = m.begins in let d = t.delta in let w = m.within in omega (arith, b, d, w));
  near = (let b = m.begins in let d = t.delta in let n = m.near in omega (arith, b, d, n));
  small = (let s = t.size in let f = m.small in omega (arith, s, f));
  times = subst (λ (z : ℤ). z ≤ℤ entry.max_ts) (sym t.max_ts) m.times;
}

-- the batch that was found may come, where its head says so
pub comes_next : (entry : Entry) (bytes : List ℕ) (front : Front) (head : Head) (next : Placed) (more : Option ℕ) → AreBytes bytes → front.at ≤ length bytes
    → found_at front.at (drop front.at bytes) ≡ found.Batch head → IsNextHead entry front head → next ≡ placed_in front.at head → epoch_at entry.map front.end ≡ Some (cast_unsigned w32 head.leader_epoch)
    → BeginsMore entry.map front.snapshot (cast_unsigned w32 head.leader_epoch) front.end more → ComesNext entry bytes front (next, more)
comes_next entry bytes front head next more clean inside e near place has snapshot =
    let s = standing front.at bytes head clean inside e in
    let clean' : AreBytes s.batch = front_bytes s.batch _ (subst AreBytes s.parts (bytes_drop front.at bytes clean)) in
    let t : HeadDescribes s.batch head = subst (HeadDescribes s.batch) (sym s.head_is) (is_observable s.batch clean' s.is) in
    let start : front.end ≡ base_of s.batch = sym near.begins ∙ t.base in
    let size : size_in head ≡ length s.batch = s.size in
    let own : epoch_at entry.map (base_of s.batch) ≡ Some (epoch_of s.batch) = ap (epoch_at entry.map) (sym start) ∙ has ∙ ap (λ (n : ℕ). Some n) t.epoch in
    let map : BeginsMore entry.map front.snapshot (epoch_of s.batch) (base_of s.batch) more =
    subst (λ (n : ℕ). BeginsMore entry.map front.snapshot (epoch_of s.batch) n more) start (subst (λ (n : ℕ). BeginsMore entry.map front.snapshot n front.end more) t.epoch snapshot) in
    let d = t.delta in
    let w = near.within in
    let n = near.near in
    let f = near.small in
    let i = s.inside in record {
      batch = s.batch;
      is = s.is;
      parts = s.parts ∙ ap (λ k. s.batch ++ drop (front.at + k) bytes) size;
      inside = omega (arith, i, size);
      may = record {
        begins = sym start;
        within = omega (arith, start, d, w);
        near = omega (arith, start, d, n);
        small = omega (arith, size, f);
        times = subst (λ (z : ℤ). z ≤ℤ entry.max_ts) t.max_ts near.times;
        epochs = own;
      };
      placed_is = place ∙ placed_same front.at s.batch head t;
      begun_is = map;
    }

-- what holds of each in a list and of one more
all_push : {X : Type 0} (P : X → Type 0) (xs : List X) (x : X) → AllByRecursion P xs → P x → AllByRecursion P (xs ++ x ∷ [])
all_push P [] x all one = (one, tt)
all_push P (y ∷ xs) x all one = (all.0, all_push P xs x all.1 one)

-- the entries of a map that have begun with a batch more
begun_more : (map : List (ℕ × ℕ)) (xs : List (List ℕ)) (batch : List ℕ) (snapshot more : Option ℕ) → AreBegun map xs snapshot → BeginsMore map snapshot (epoch_of batch) (base_of batch) more → AreBegun map (xs ++ batch ∷ []) more
begun_more map xs batch None more are is =
    subst (AreBegun map (xs ++ batch ∷ [])) (sym is) (λ (p : IsPrefix (line_of (xs ++ batch ∷ [])) map). are (let front = line_front xs (batch ∷ []) in (front.0 ++ p.0, sym (append_assoc (line_of xs) front.0 p.0) ∙ (ap (λ (line : List (ℕ × ℕ)). line ++ p.0) front.1 ∙ p.1))))
begun_more map xs batch (Some n) None are is =
    let same : line_of (xs ++ batch ∷ []) ≡ with_epoch (take n map) (epoch_of batch) (base_of batch) = line_push xs batch ∙ ap (λ (line : List (ℕ × ℕ)). with_epoch line (epoch_of batch) (base_of batch)) are.0 in
    λ p. is (subst (λ (line : List (ℕ × ℕ)). IsPrefix line map) same p)
begun_more map xs batch (Some n) (Some m) are is =
    (line_push xs batch ∙ (ap (λ (line : List (ℕ × ℕ)). with_epoch line (epoch_of batch) (base_of batch)) are.0 ∙ is.0), is.1)

-- a front may begin the log with a batch more that may come
begins_more : (entry : Entry) (bytes : List ℕ) (front : Front) (batch : List ℕ) → IsEntryValid entry → (f : IsLogFront entry bytes front) → IsOk (checked batch) → MayCome entry front batch
    → MayBeginLog entry (f.batches ++ batch ∷ [])
begins_more entry bytes front batch kept f ok m =
    let end = end_push entry.start f.batches batch in
    let b = f.begins in
    let start = f.end_is in
    let at = f.at_is in
    let from = m.begins in
    let near = m.near in
    let within = m.within in
    let small = m.small in
    let up = epochs_up entry.map entry.start f.batches (epoch_of batch) (base_of batch) kept.map.line b.is.consecutive b.epochs (omega (arith, start, from)) m.epochs in
    let bounded = kept.bounded in
    let low : last_of batch + 1 ≤ 2 ^ 62 = omega (arith, within, bounded) in record {
      is = segment_push entry.start f.batches batch b.is (record {
        is = ok;
        begins = from ∙ start;
        near = omega (arith, near);
        low = low;
        epoch_rises = up.0;
        epoch_fits = up.1;
        small = omega (arith, at, small);
      });
      within = omega (arith, end, within);
      epochs = all_push (λ (x : List ℕ). epoch_at entry.map (base_of x) ≡ Some (epoch_of x)) f.batches batch b.epochs m.epochs;
      times = all_push (λ (x : List ℕ). max_ts_of x ≤ℤ entry.max_ts) f.batches batch b.times m.times;
    }

-- the greatest timestamp with a batch more
greatest_from_push : (ts : ℤ) (xs : List (List ℕ)) (batch : List ℕ) → greatest_from ts (xs ++ batch ∷ []) ≡ int_max (greatest_from ts xs) (max_ts_of batch)
greatest_from_push ts [] batch = refl
greatest_from_push ts (x ∷ xs) batch = greatest_from_push (int_max ts (max_ts_of x)) xs batch

greatest_push : (at : ℕ) (xs : List (List ℕ)) (batch : List ℕ) → AllByRecursion (λ (b : List ℕ). IsOk (checked b)) xs → at ≡ length (joined xs)
    → greatest_ts (xs ++ batch ∷ []) ≡ later_ts at (greatest_ts xs) (max_ts_of batch)
greatest_push at [] batch all e = rw e refl
greatest_push at (x ∷ xs) batch all e =
    let long = checked_long x all.0 in
    let size = length-append x (joined xs) in
    rw (not_empty at (omega (arith, e, long, size))) (greatest_from_push (max_ts_of x) xs batch)

-- the front with the batch that comes next
pub front_more : (entry : Entry) (bytes : List ℕ) (old new : Front) (next : Placed × Option ℕ) → IsEntryValid entry → IsLogFront entry bytes old → ComesNext entry bytes old next → FrontGains old next new → IsLogFront entry bytes new
front_more entry bytes old new next kept f n g =
    let batch = n.batch in
    let more = joined_push f.batches batch in
    let size : length (joined (f.batches ++ batch ∷ [])) ≡ length (joined f.batches) + length batch = ap length more ∙ length-append (joined f.batches) batch in
    let was = f.at_is in
    let place : next.0 ≡ placed old.at batch = n.placed_is in
    let to : new.at ≡ old.at + length batch = g.at_is ∙ ap (λ (p : Placed). p.to) place in
    let inside = n.inside in
    let m : MayCome entry old batch = n.may in record {
      batches = f.batches ++ batch ∷ [];
      parts = f.parts ∙ (ap (λ (z : List ℕ). joined f.batches ++ z) (n.parts ∙ ap (λ k. batch ++ drop k bytes) (sym to))
          ∙ (sym (append_assoc (joined f.batches) batch (drop new.at bytes)) ∙ ap (λ (z : List ℕ). z ++ drop new.at bytes) (sym more)));
      inside = omega (arith, to, inside);
      begins = begins_more entry bytes old batch kept f n.is m;
      at_is = omega (arith, to, was, size);
      end_is = g.end_is ∙ (ap (λ (p : Placed). p.last + 1) place ∙ sym (end_push entry.start f.batches batch));
      max_ts_is = g.max_ts_is ∙ (ap (λ z. later_ts old.at z next.0.max_ts) f.max_ts_is ∙ (ap (λ (p : Placed). later_ts old.at (greatest_ts f.batches) p.max_ts) place ∙ sym (greatest_push old.at f.batches batch f.begins.is.checked was)));
      placed_are = g.batches_are ∙ (ap (λ ps. ps ++ next.0 ∷ []) f.placed_are ∙ (ap (λ (p : Placed). placed_from 0 f.batches ++ p ∷ []) (place ∙ ap (λ k. placed k batch) (let zero_at : old.at ≡ 0 + length (joined f.batches) = omega (arith, was) in zero_at)) ∙ sym (placed_push 0 f.batches batch)));
      begun_are = subst (AreBegun entry.map (f.batches ++ batch ∷ [])) (sym g.begun_is) (begun_more entry.map f.batches batch old.snapshot next.1 f.begun_are n.begun_is);
    }

drop_front : (xs ys : List ℕ) → drop (length xs) (xs ++ ys) ≡ ys
drop_front [] ys = refl
drop_front (x ∷ xs) ys = drop_front xs ys

-- a batch that makes a longer front may come
may_come : (entry : Entry) (bytes : List ℕ) (front : Front) (batch : List ℕ) → (f : IsLogFront entry bytes front) → MayBeginLog entry (f.batches ++ batch ∷ []) → MayCome entry front batch
may_come entry bytes front batch f b =
    let on = segment_last entry.start f.batches batch b.is in
    let end = end_push entry.start f.batches batch in
    let was = f.end_is in
    let at = f.at_is in
    let within = b.within in
    let begins = on.begins in
    let near = on.near in
    let small = on.small in record {
      begins = begins ∙ sym was;
      within = omega (arith, end, within);
      near = omega (arith, near);
      small = omega (arith, at, small);
      times = (all_parts (λ (x : List ℕ). max_ts_of x ≤ℤ entry.max_ts) f.batches (batch ∷ []) b.times).1.0;
      epochs = (all_parts (λ (x : List ℕ). epoch_at entry.map (base_of x) ≡ Some (epoch_of x)) f.batches (batch ∷ []) b.epochs).1.0;
    }

-- where none comes next the front goes no further
pub stopped_here : (entry : Entry) (bytes : List ℕ) (front : Front) → IsLogFront entry bytes front → NoBatchComes entry bytes front → IsFrontStopped entry bytes front
stopped_here entry bytes front f none = record {
  is = f;
  stops = λ batch more parts b.
      let there : drop front.at bytes ≡ batch ++ more =
      ap (λ n. drop n bytes) f.at_is ∙ (ap (drop (length (joined f.batches))) (parts ∙ (ap (λ z. z ++ more) (joined_push f.batches batch) ∙ append_assoc (joined f.batches) batch more)) ∙ drop_front (joined f.batches) (batch ++ more)) in
      none batch more there (segment_last entry.start f.batches batch b.is).is (may_come entry bytes front batch f b);
}

-- so it is at the bytes' end
pub stopped_end : (entry : Entry) (bytes : List ℕ) (front : Front) → IsLogFront entry bytes front → length bytes ≤ front.at → IsFrontStopped entry bytes front
stopped_end entry bytes front f all = record {
  is = f;
  stops = λ batch more parts b.
      let long = checked_long batch (segment_last entry.start f.batches batch b.is).is in
      let size = ap length parts ∙ length-append (joined (f.batches ++ batch ∷ [])) more in
      let with_one = ap length (joined_push f.batches batch) ∙ length-append (joined f.batches) batch in
      let at = f.at_is in
      omega (arith, long, size, with_one, at, all);
}

left_max : (a b : ℤ) → a ≤ℤ int_max a b
left_max a b = grind (arith, ints)

right_max : (a b : ℤ) → b ≤ℤ int_max a b
right_max a b = grind (arith, ints)

along : (a b c : ℤ) → a ≤ℤ b → b ≤ℤ c → a ≤ℤ c
along a b c h k = grind (arith, ints)

-- no batch is later than the greatest timestamp
greatest_above : (ts : ℤ) (xs : List (List ℕ)) → ts ≤ℤ greatest_from ts xs
greatest_above ts [] = ≤ℤ_refl ts
greatest_above ts (x ∷ xs) = along ts (int_max ts (max_ts_of x)) (greatest_from ts (x ∷ xs)) (left_max ts (max_ts_of x)) (greatest_above (int_max ts (max_ts_of x)) xs)

from_each : (ts : ℤ) (xs : List (List ℕ)) (top : ℤ) → greatest_from ts xs ≡ top → AllByRecursion (λ (x : List ℕ). max_ts_of x ≤ℤ top) xs
from_each ts [] top e = tt
from_each ts (x ∷ xs) top e =
    let next = int_max ts (max_ts_of x) in
    (subst (λ z. max_ts_of x ≤ℤ z) e (along (max_ts_of x) next (greatest_from next xs) (right_max ts (max_ts_of x)) (greatest_above next xs)), from_each next xs top e)

pub each_up : (xs : List (List ℕ)) → AllByRecursion (λ (x : List ℕ). max_ts_of x ≤ℤ greatest_ts xs) xs
each_up [] = tt
each_up (x ∷ xs) = (greatest_above (max_ts_of x) xs, from_each (max_ts_of x) xs (greatest_ts (x ∷ xs)) refl)

-- the front of a right log may begin it
pub describes_begins : (entry : Entry) (xs ys : List (List ℕ)) → Describes entry (xs ++ ys) → MayBeginLog entry xs
describes_begins entry xs ys d =
    let row = consecutive_parts entry.start xs ys d.is.consecutive in
    let up = consecutive_up (end_from entry.start xs) ys row.1 in
    let end = end_append entry.start xs ys in
    let last = d.last_is in record {
      is = segment_front entry.start xs ys d.is;
      within = omega (arith, end, up, last);
      epochs = (all_parts (λ (x : List ℕ). epoch_at entry.map (base_of x) ≡ Some (epoch_of x)) xs ys (subst (λ (line : List (ℕ × ℕ)). AllByRecursion (λ (x : List ℕ). epoch_at line (base_of x) ≡ Some (epoch_of x)) (xs ++ ys)) (sym d.map_is) (own_epochs entry.start (xs ++ ys) d.is.consecutive))).0;
      times = (all_parts (λ (x : List ℕ). max_ts_of x ≤ℤ entry.max_ts) xs ys (subst (λ z. AllByRecursion (λ (x : List ℕ). max_ts_of x ≤ℤ z) (xs ++ ys)) (sym d.max_ts_is) (each_up (xs ++ ys)))).0;
    }

drop_all : (n : ℕ) (bytes : List ℕ) → n ≡ length bytes → drop n bytes ≡ []
drop_all zero [] e = refl
drop_all zero (b ∷ bytes) e = absurd (omega (arith, e))
drop_all (suc n) [] e = refl
drop_all (suc n) (b ∷ bytes) e = drop_all n bytes (omega (arith, e))

take_all : (n : ℕ) (xs : List (ℕ × ℕ)) → n ≡ length xs → take n xs ≡ xs
take_all zero [] e = refl
take_all zero (x ∷ xs) e = absurd (omega (arith, e))
take_all (suc n) [] e = refl
take_all (suc n) (x ∷ xs) e = ap (λ ys. x ∷ ys) (take_all n xs (omega (arith, e)))

-- batches that come to all are the log
pub has_batches : (entry : Entry) (bytes : List ℕ) (front : Front) (found : List Placed) → IsLogFront entry bytes front → IsAll entry (length bytes) front → found ≡ front.batches.items → HasBatches entry bytes found
has_batches entry bytes front found f a same =
    let at = f.at_is in
    let some = a.some in
    let whole = a.whole in
    let size = a.size_is in
    let none : drop front.at bytes ≡ [] = drop_all front.at bytes whole in record {
      batches = f.batches;
      describes = record {
        some = λ e. (let zero_at : front.at ≡ 0 = at ∙ ap (λ bs. length (joined bs)) e in omega (arith, zero_at, some));
        is = f.begins.is;
        last_is = sym a.end_is ∙ f.end_is;
        map_is = (let all : AreBegun entry.map f.batches (Some (length entry.map)) = subst (AreBegun entry.map f.batches) a.begun_is f.begun_are in sym (take_all (length entry.map) entry.map refl) ∙ sym all.0);
        max_ts_is = sym a.max_ts_is ∙ f.max_ts_is;
        size_is = sym size ∙ at;
      };
      bytes_are = f.parts ∙ (ap (λ (z : List ℕ). joined f.batches ++ z) none ∙ append-nil (joined f.batches));
      found_are = same ∙ f.placed_are;
    }

prefix_short : (xs line : List (ℕ × ℕ)) (n : ℕ) → xs ≡ take n line → n ≤ length line → line ≡ xs → n ≡ length line
prefix_short xs line n e few same = (let long = ap length e ∙ length-take-le n line few in let other = ap length same in omega (arith, long, other))

-- batches whose epochs are the map begin each of its entries
all_begun : (map : List (ℕ × ℕ)) (xs : List (List ℕ)) (snapshot : Option ℕ) → AreBegun map xs snapshot → map ≡ line_of xs → snapshot ≡ Some (length map)
all_begun map xs None are same = absurd (are ([], append-nil (line_of xs) ∙ sym same))
all_begun map xs (Some n) are same = ap (λ (k : ℕ). Some k) (prefix_short (line_of xs) map n are.0 are.1 same)

-- batches that are right come to all
comes_to_all : (entry : Entry) (bytes : List ℕ) (front : Front) → (f : IsLogFront entry bytes front) → Describes entry f.batches → length (drop front.at bytes) ≡ 0 → IsAll entry (length bytes) front
comes_to_all entry bytes front f d none =
    let at = f.at_is in
    let size = d.size_is in
    let parts = ap length f.parts ∙ length-append (joined f.batches) (drop front.at bytes) in record {
      some = filled f.batches d.some f.begins.is.checked at;
      whole = omega (arith, at, parts, none);
      size_is = at ∙ sym size;
      end_is = f.end_is ∙ sym d.last_is;
      begun_is = all_begun entry.map f.batches front.snapshot f.begun_are d.map_is;
      max_ts_is = f.max_ts_is ∙ sym d.max_ts_is;
    }
  where
    filled : (xs : List (List ℕ)) → xs ≢ [] → AllByRecursion (λ (b : List ℕ). IsOk (checked b)) xs → front.at ≡ length (joined xs) → 0 < front.at
    filled [] full all e = absurd (full refl)
    filled (x ∷ xs) full all e = (let long = checked_long x all.0 in let size = length-append x (joined xs) in omega (arith, long, size, e))

-- a log whose front goes no further and doesn't come to all is wrong
pub not_right : (entry : Entry) (bytes : List ℕ) (front : Front) → IsFrontStopped entry bytes front → (IsAll entry (length bytes) front → ⊥) → (batches : List (List ℕ)) → Describes entry batches → bytes ≢ joined batches
not_right entry bytes front s none batches d e =
    let f = s.is in
    let same = parts_same f.batches batches (drop front.at bytes) f.begins.is.checked d.is.checked (sym e ∙ f.parts) in
    go same.0 same.1 same.2
  where
    go : (more : List (List ℕ)) → batches ≡ s.is.batches ++ more → drop front.at bytes ≡ joined more → ⊥
    go [] is rest = none (comes_to_all entry bytes front s.is (subst (Describes entry) (is ∙ append-nil s.is.batches) d) (ap length rest))
    go (m ∷ more) is rest =
        let whole : batches ≡ (s.is.batches ++ m ∷ []) ++ more = is ∙ sym (append_assoc s.is.batches (m ∷ []) more) in
        s.stops m (joined more) (e ∙ (ap joined whole ∙ joined_append (s.is.batches ++ m ∷ []) more)) (describes_begins entry (s.is.batches ++ m ∷ []) more (subst (Describes entry) whole d))

-- and this place is reported of it
pub first_bad : (entry : Entry) (bytes : List ℕ) (front : Front) → IsFrontStopped entry bytes front → IsFirstBad joined (MayBeginLog entry) bytes front.at
first_bad entry bytes front s = record {
  before = s.is.batches;
  rest = drop front.at bytes;
  parts = s.is.parts;
  place = s.is.at_is;
  begins = s.is.begins;
  stops = s.stops;
}
