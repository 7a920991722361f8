-- The leader epochs of batches that grow, and those of their front.
use Rattle.std.proofs.Common.{◌≡◌, ◌∙◌, ap, sym, refl, subst, ℕ, ◌+◌, ◌^◌, ◌==◌, ◌<◌, ◌≤◌, Bool, true, false, cond, List, [], ◌∷◌, ◌++◌, Some, arith, append-nil}
use Rattle.std.specs.Prelude.{nat_le, nat_lt}
use Rattle.std.specs.List.{AllByRecursion}
use Rattle.std.specs.Option.{option_map}
use Rattle.std.proofs.lemmas.Bool.{eqb-true, le-leb, ltb-false}
use Rattle.std.proofs.lemmas.Option.{same_Some}
use mathlib.Core.List.{IsPrefix}
use Rattle.log_terms.specs.Batch.{base_of, epoch_of, last_of}
use Rattle.log_terms.specs.Line.{line_of, line_after, epoch_at}
use Rattle.log_terms.specs.Log.{IsConsecutive, end_from}
use Rattle.log_terms.proofs.Logs.{lt_true, lt_false}
use Rattle.epoch_line.specs.Line.{IsLine, last_entry, last_epoch}
use Rattle.segment_file.specs.Gathering.{epoch_after, with_epoch}
use Rattle.segment_file.proofs.Joining.{consecutive_up}

-- the entry that a batch of this epoch begins after one of another
abbrev snapshot : ℕ → ℕ → ℕ → List (ℕ × ℕ)
snapshot epoch last base = cond (epoch == last) [] ((epoch, base) ∷ [])

after_push : (epoch : ℕ) (xs : List (List ℕ)) (batch : List ℕ) → line_after epoch (xs ++ batch ∷ []) ≡ line_after epoch xs ++ snapshot (epoch_of batch) (epoch_after epoch xs) (base_of batch)
after_push epoch [] batch = go (epoch_of batch == epoch) refl
  where
    go : (t : Bool) → (epoch_of batch == epoch) ≡ t → line_after epoch (batch ∷ []) ≡ snapshot (epoch_of batch) epoch (base_of batch)
    go true e = rw e refl
    go false e = rw e refl
after_push epoch (x ∷ xs) batch = go (epoch_of x == epoch) refl (after_push epoch xs batch) (after_push (epoch_of x) xs batch)
  where
    tail : ℕ → List (ℕ × ℕ)
    tail last = snapshot (epoch_of batch) (epoch_after last xs) (base_of batch)

    go : (t : Bool) → (epoch_of x == epoch) ≡ t → line_after epoch (xs ++ batch ∷ []) ≡ line_after epoch xs ++ tail epoch → line_after (epoch_of x) (xs ++ batch ∷ []) ≡ line_after (epoch_of x) xs ++ tail (epoch_of x)
        → line_after epoch (x ∷ xs ++ batch ∷ []) ≡ line_after epoch (x ∷ xs) ++ tail (epoch_of x)
    go true e same other = let is : epoch_of x ≡ epoch = eqb-true (epoch_of x) epoch e in rw e (same ∙ ap (λ n. line_after epoch xs ++ tail n) (sym is))
    go false e same other = rw e (ap (λ es. (epoch_of x, base_of x) ∷ es) other)

-- the last entry's epoch is the last batch's
last_after : (epoch start : ℕ) (xs : List (List ℕ)) → (s : ℕ) × (last_entry ((epoch, start) ∷ line_after epoch xs) ≡ Some (epoch_after epoch xs, s))
last_after epoch start [] = (start, refl)
last_after epoch start (x ∷ xs) = go (epoch_of x == epoch) refl (last_after epoch start xs) (last_after (epoch_of x) (base_of x) xs)
  where
    Last : ℕ → ℕ → Type 0
    Last e at = (s : ℕ) × (last_entry ((e, at) ∷ line_after e xs) ≡ Some (epoch_after e xs, s))

    go : (t : Bool) → (epoch_of x == epoch) ≡ t → Last epoch start → Last (epoch_of x) (base_of x)
        → (s : ℕ) × (last_entry ((epoch, start) ∷ line_after epoch (x ∷ xs)) ≡ Some (epoch_after epoch (x ∷ xs), s))
    go true e same other =
        let is : epoch_of x ≡ epoch = eqb-true (epoch_of x) epoch e in
        (same.0, rw e (same.1 ∙ ap (λ m. Some (epoch_after m xs, same.0)) (sym is)))
    go false e same other = (other.0, rw e other.1)

with_by : (line : List (ℕ × ℕ)) (last s epoch start : ℕ) → last_entry line ≡ Some (last, s) → with_epoch line epoch start ≡ line ++ snapshot epoch last start
with_by line last s epoch start e = go (epoch == last) refl
  where
    is : last_epoch line ≡ Some last
    is = ap (option_map (λ (p : ℕ × ℕ). p.0)) e

    go : (t : Bool) → (epoch == last) ≡ t → with_epoch line epoch start ≡ line ++ snapshot epoch last start
    go true t = rw (is, t) (sym (append-nil line))
    go false t = rw (is, t) refl

-- the line with a batch more
pub line_push : (xs : List (List ℕ)) (batch : List ℕ) → line_of (xs ++ batch ∷ []) ≡ with_epoch (line_of xs) (epoch_of batch) (base_of batch)
line_push [] batch = refl
line_push (x ∷ xs) batch =
    let last = last_after (epoch_of x) (base_of x) xs in
    ap (λ es. (epoch_of x, base_of x) ∷ es) (after_push (epoch_of x) xs batch)
    ∙ sym (with_by (line_of (x ∷ xs)) (epoch_after (epoch_of x) xs) last.0 (epoch_of batch) (base_of batch) last.1)

-- an epoch of a line isn't below that of the first entry, and fits
epoch_low : (e st : ℕ) (line : List (ℕ × ℕ)) (o x : ℕ) → IsLine ((e, st) ∷ line) → epoch_at ((e, st) ∷ line) o ≡ Some x → (e ≤ x) × (x < 2 ^ 31)
epoch_low e st [] o x is found = go (nat_le st o) refl
  where
    go : (t : Bool) → nat_le st o ≡ t → (e ≤ x) × (x < 2 ^ 31)
    go true t = let same = same_Some e x (rw t at found) in (omega (arith, same), omega (arith, same, is.0))
    go false t = let none = rw t at found in absurd (cc (none))
epoch_low e st ((next, after) ∷ line) o x is found = go (nat_lt o st) refl (epoch_low next after line o x is.3)
  where
    second : (t : Bool) → nat_lt o st ≡ false → nat_lt o after ≡ t → (epoch_at ((next, after) ∷ line) o ≡ Some x → (next ≤ x) × (x < 2 ^ 31)) → (e ≤ x) × (x < 2 ^ 31)
    second true f t more = let same = same_Some e x (rw t at (rw f at found)) in (omega (arith, same), omega (arith, same, is.0))
    second false f t more = let h = more (rw t at (rw f at found)) in (omega (arith, h.0, is.2.0), h.1)

    go : (t : Bool) → nat_lt o st ≡ t → (epoch_at ((next, after) ∷ line) o ≡ Some x → (next ≤ x) × (x < 2 ^ 31)) → (e ≤ x) × (x < 2 ^ 31)
    go true t more = let none = rw t at found in absurd (cc (none))
    go false t more = second (nat_lt o after) t refl more

-- the epochs of a line rise with the offsets
up_after : (e st : ℕ) (line : List (ℕ × ℕ)) (a b x y : ℕ) → IsLine ((e, st) ∷ line) → epoch_at ((e, st) ∷ line) a ≡ Some x → epoch_at ((e, st) ∷ line) b ≡ Some y → a ≤ b → x ≤ y
up_after e st [] a b x y is one two le = go (nat_le st a) refl
  where
    low : (e ≤ y) × (y < 2 ^ 31)
    low = epoch_low e st [] b y is two

    go : (t : Bool) → nat_le st a ≡ t → x ≤ y
    go true t = let same = same_Some e x (rw t at one) in omega (arith, same, low.0)
    go false t = let none = rw t at one in absurd (cc (none))
up_after e st ((next, after) ∷ line) a b x y is one two le = go (nat_lt a st) refl (up_after next after line a b x y is.3)
  where
    low : (e ≤ y) × (y < 2 ^ 31)
    low = epoch_low e st ((next, after) ∷ line) b y is two

    second : (t : Bool) → nat_lt a st ≡ false → nat_lt a after ≡ t
        → (epoch_at ((next, after) ∷ line) a ≡ Some x → epoch_at ((next, after) ∷ line) b ≡ Some y → a ≤ b → x ≤ y) → x ≤ y
    second true f t more = let same = same_Some e x (rw t at (rw f at one)) in omega (arith, same, low.0)
    second false f t more =
        let from : st ≤ a = ltb-false a st f in
        let past : after ≤ a = ltb-false a after t in
        let f' : nat_lt b st ≡ false = lt_false b st (omega (arith, from, le)) in
        let t' : nat_lt b after ≡ false = lt_false b after (omega (arith, past, le)) in
        more (rw t at (rw f at one)) (rw t' at (rw f' at two)) le

    go : (t : Bool) → nat_lt a st ≡ t → (epoch_at ((next, after) ∷ line) a ≡ Some x → epoch_at ((next, after) ∷ line) b ≡ Some y → a ≤ b → x ≤ y) → x ≤ y
    go true t more = let none = rw t at one in absurd (cc (none))
    go false t more = second (nat_lt a after) t refl more

-- a batch has the epoch that a line has at its base
abbrev pub Has : List (ℕ × ℕ) → List ℕ → Type 0
Has line batch = epoch_at line (base_of batch) ≡ Some (epoch_of batch)

rises_to : (line : List (ℕ × ℕ)) (last n : ℕ) (xs : List (List ℕ)) (epoch start : ℕ) → IsLine line → IsConsecutive n xs → AllByRecursion (Has line) xs → end_from n xs ≤ start → epoch_at line start ≡ Some epoch → last ≤ epoch
    → epoch_after last xs ≤ epoch
rises_to line last n [] epoch start is row all below at low = low
rises_to [] last n (x ∷ xs) epoch start is row all below at low = absurd (cc (at))
rises_to ((e, st) ∷ line) last n (x ∷ xs) epoch start is row all below at low =
    let up = consecutive_up (last_of x + 1) xs row.1 in
    rises_to ((e, st) ∷ line) (epoch_of x) (last_of x + 1) xs epoch start is row.1 all.1 below at
    (up_after e st line (base_of x) start (epoch_of x) epoch is all.0 at (omega (arith, up, below)))

fits_in : (line : List (ℕ × ℕ)) (epoch start : ℕ) → IsLine line → epoch_at line start ≡ Some epoch → epoch < 2 ^ 31
fits_in [] epoch start is at = absurd (cc (at))
fits_in ((e, st) ∷ line) epoch start is at = (epoch_low e st line start epoch is at).1

-- batches whose epochs a line has rise, with one more that it has
pub epochs_up : (line : List (ℕ × ℕ)) (n : ℕ) (xs : List (List ℕ)) (epoch start : ℕ) → IsLine line → IsConsecutive n xs → AllByRecursion (Has line) xs → end_from n xs ≤ start → epoch_at line start ≡ Some epoch
    → (epoch_after 0 xs ≤ epoch) × (epoch < 2 ^ 31)
epochs_up line n xs epoch start is row all below at = (rises_to line 0 n xs epoch start is row all below at (omega arith), fits_in line epoch start is at)

-- the line of batches after one of an epoch has that epoch at offsets before them
before_them : (e s n o : ℕ) (xs : List (List ℕ)) → IsConsecutive n xs → s ≤ o → o < n → epoch_at ((e, s) ∷ line_after e xs) o ≡ Some e
before_them e s n o [] row from below = rw (le-leb s o from) refl
before_them e s n o (x ∷ xs) row from below = go (epoch_of x == e) refl (before_them e s (last_of x + 1) o xs row.1 from (omega (arith, row.0, below)))
  where
    go : (t : Bool) → (epoch_of x == e) ≡ t → epoch_at ((e, s) ∷ line_after e xs) o ≡ Some e → epoch_at ((e, s) ∷ line_after e (x ∷ xs)) o ≡ Some e
    go true t rest = rw t rest
    go false t rest = rw t (rw (lt_false o s from, lt_true o (base_of x) (omega (arith, row.0, below))) refl)

-- an entry more in front, which starts below the next one, changes nothing of the batches after both
behind_entry : (e s x b m : ℕ) (ys : List (List ℕ)) (line : List (ℕ × ℕ)) → IsConsecutive m ys → s ≤ b → b ≤ m → AllByRecursion (Has ((x, b) ∷ line)) ys → AllByRecursion (Has ((e, s) ∷ (x, b) ∷ line)) ys
behind_entry e s x b m [] line row from low all = tt
behind_entry e s x b m (y ∷ ys) line row from low all = (
  rw (lt_false (base_of y) s (omega (arith, row.0, from, low)), lt_false (base_of y) b (omega (arith, row.0, low))) all.0,
  behind_entry e s x b (last_of y + 1) ys line row.1 from (omega (arith, row.0, low)) all.1,
)

-- and each of them its own
own_after : (e s n : ℕ) (xs : List (List ℕ)) → IsConsecutive n xs → s < n → AllByRecursion (Has ((e, s) ∷ line_after e xs)) xs
own_after e s n [] row from = tt
own_after e s n (x ∷ xs) row from =
    go (epoch_of x == e) refl (own_after e s (last_of x + 1) xs row.1 (omega (arith, row.0, from))) (own_after (epoch_of x) (base_of x) (last_of x + 1) xs row.1 (omega arith))
  where
    go : (t : Bool) → (epoch_of x == e) ≡ t → AllByRecursion (Has ((e, s) ∷ line_after e xs)) xs → AllByRecursion (Has ((epoch_of x, base_of x) ∷ line_after (epoch_of x) xs)) xs
        → AllByRecursion (Has ((e, s) ∷ line_after e (x ∷ xs))) (x ∷ xs)
    go true t own other =
        let same : epoch_of x ≡ e = eqb-true (epoch_of x) e t in
        let line_is : line_after e (x ∷ xs) ≡ line_after e xs = rw t refl in
        let here : Has ((e, s) ∷ line_after e xs) x = before_them e s (last_of x + 1) (base_of x) xs row.1 (omega (arith, row.0, from)) (omega arith) ∙ ap (λ (k : ℕ). Some k) (sym same) in
        subst (λ (l : List (ℕ × ℕ)). AllByRecursion (Has ((e, s) ∷ l)) (x ∷ xs)) (sym line_is) (here, own)
    go false t own other =
        let line_is : line_after e (x ∷ xs) ≡ (epoch_of x, base_of x) ∷ line_after (epoch_of x) xs = rw t refl in
        let first : Has ((epoch_of x, base_of x) ∷ line_after (epoch_of x) xs) x = before_them (epoch_of x) (base_of x) (last_of x + 1) (base_of x) xs row.1 (omega arith) (omega arith) in
        let here : Has ((e, s) ∷ (epoch_of x, base_of x) ∷ line_after (epoch_of x) xs) x = rw (lt_false (base_of x) s (omega (arith, row.0, from)), lt_false (base_of x) (base_of x) (omega arith)) first in
        subst (λ (l : List (ℕ × ℕ)). AllByRecursion (Has ((e, s) ∷ l)) (x ∷ xs)) (sym line_is)
        (here, behind_entry e s (epoch_of x) (base_of x) (last_of x + 1) xs (line_after (epoch_of x) xs) row.1 (omega (arith, row.0, from)) (omega arith) other)

-- each batch has the epoch that the line of all has at its base
pub own_epochs : (n : ℕ) (xs : List (List ℕ)) → IsConsecutive n xs → AllByRecursion (Has (line_of xs)) xs
own_epochs n [] row = tt
own_epochs n (x ∷ xs) row =
    (before_them (epoch_of x) (base_of x) (last_of x + 1) (base_of x) xs row.1 (omega arith) (omega arith), own_after (epoch_of x) (base_of x) (last_of x + 1) xs row.1 (omega arith))

after_front : (epoch : ℕ) (xs ys : List (List ℕ)) → IsPrefix (line_after epoch xs) (line_after epoch (xs ++ ys))
after_front epoch [] ys = (line_after epoch ys, refl)
after_front epoch (x ∷ xs) ys = go (epoch_of x == epoch) refl (after_front epoch xs ys) (after_front (epoch_of x) xs ys)
  where
    go : (t : Bool) → (epoch_of x == epoch) ≡ t → IsPrefix (line_after epoch xs) (line_after epoch (xs ++ ys)) → IsPrefix (line_after (epoch_of x) xs) (line_after (epoch_of x) (xs ++ ys))
        → IsPrefix (line_after epoch (x ∷ xs)) (line_after epoch (x ∷ xs ++ ys))
    go true e same other = rw e same
    go false e same other = rw e (other.0, ap (λ es. (epoch_of x, base_of x) ∷ es) other.1)

-- a front's line begins the line
pub line_front : (xs ys : List (List ℕ)) → IsPrefix (line_of xs) (line_of (xs ++ ys))
line_front [] ys = (line_of ys, refl)
line_front (x ∷ xs) ys = let more = after_front (epoch_of x) xs ys in (more.0, ap (λ es. (epoch_of x, base_of x) ∷ es) more.1)
