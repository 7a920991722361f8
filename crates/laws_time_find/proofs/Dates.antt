-- Which batches of a log a search has gone through, and the first of a list that isn't too early.
use Rattle.std.proofs.Common.{◌≡◌, ◌⊎◌, inl, inr, ◌∙◌, sym, ap, subst, refl, ℕ, ◌+◌, ◌<◌, ◌≤◌, Bool, true, false, cond, max, List, [], ◌∷◌, ◌++◌, Some, None, arith, append_assoc}
use Rattle.std.specs.Prelude.{ℤ, ◌<ℤ◌, int_lt, nat_lt}
use Rattle.std.specs.List.{AllByRecursion}
use Rattle.std.proofs.lemmas.Bool.{lt-ltb, le-ltb, cases_lt}
use Rattle.std.proofs.lemmas.Int.{ints}
use mathlib.Core.List.{IsPrefix}
use Rattle.tier_base.specs.Told.{In}
use Rattle.tier_base.specs.declared.plain.Stop.{Stop}
use Rattle.log_terms.specs.Batch.{base_of, last_of, max_ts_of}
use Rattle.log_terms.specs.Log.{IsConsecutive, end_from, end_of, up_to, from_offset}
use Rattle.log_terms.proofs.Logs.{end_above, end_append, prefix_end, consecutive_prefix}
use Rattle.plain_log.specs.RowsOfReads.{first_at}
use Rattle.laws_partition.specs.Log.{IsRunOf}
use Rattle.laws_time_find.specs.Passed.{AreEarly, HasPassed, StartHasPassed, PassedHasNone, PassedIsKept}

-- what is in lists

pub in_front : {A : Type 0} (x : A) (xs ys : List A) → In x xs → In x (xs ++ ys)
in_front x [] ys h = absurd h
in_front x (y ∷ xs) ys (inl e) = inl e
in_front x (y ∷ xs) ys (inr h) = inr (in_front x xs ys h)

pub in_back : {A : Type 0} (x : A) (xs ys : List A) → In x ys → In x (xs ++ ys)
in_back x [] ys h = h
in_back x (y ∷ xs) ys h = inr (in_back x xs ys h)

pub in_either : {A : Type 0} (x : A) (xs ys : List A) → In x (xs ++ ys) → In x xs ⊎ In x ys
in_either x [] ys h = inr h
in_either x (y ∷ xs) ys (inl e) = inl (inl e)
in_either x (y ∷ xs) ys (inr h) = elim (in_either x xs ys h) [
  | inl a ↦ inl (inr a)
  | inr b ↦ inr b
]

pub all_in : {A : Type 0} (P : A → Type 0) (xs : List A) (x : A) → AllByRecursion P xs → In x xs → P x
all_in P [] x all there = absurd there
all_in P (y ∷ xs) x all (inl here) = subst P (sym here) all.0
all_in P (y ∷ xs) x all (inr there) = all_in P xs x all.1 there

pub all_of : {A : Type 0} (P : A → Type 0) (xs : List A) → ((x : A) → In x xs → P x) → AllByRecursion P xs
all_of P [] h = tt
all_of P (x ∷ xs) h = (h x (inl refl), all_of P xs (λ y there. h y (inr there)))

-- batches that are consecutive rise

-- each ends below the end of them all, and at or past where they begin
pub in_below : (n : ℕ) (xs : List (List ℕ)) (b : List ℕ) → IsConsecutive n xs → In b xs → (n ≤ last_of b) × (last_of b < end_from n xs)
in_below n [] b c there = absurd there
in_below n (x ∷ xs) b c (inl here) =
    let up = end_above (last_of x + 1) xs c.1 in
    let same = ap last_of here in
    let base = c.0 in (omega (arith, same, base), omega (arith, same, up))
in_below n (x ∷ xs) b c (inr there) =
    let h = in_below (last_of x + 1) xs b c.1 there in
    let base = c.0 in (omega (arith, base, h.0), h.1)

pub consecutive_back : (n : ℕ) (xs ys : List (List ℕ)) → IsConsecutive n (xs ++ ys) → IsConsecutive (end_from n xs) ys
consecutive_back n [] ys c = c
consecutive_back n (x ∷ xs) ys c = consecutive_back (last_of x + 1) xs ys c.1

-- one that ends below the end of a beginning is in it
pub in_beginning : (n : ℕ) (xs ys : List (List ℕ)) (b : List ℕ) → IsConsecutive n (xs ++ ys) → In b (xs ++ ys) → last_of b < end_from n xs → In b xs
in_beginning n xs ys b c there low = elim (in_either b xs ys there) [
  | inl h ↦ h
  | inr h ↦ absurd (let k = in_below (end_from n xs) ys b (consecutive_back n xs ys c) h in omega (arith, k.0, low))
]

-- one that ends at or past it is after
pub in_rest : (n : ℕ) (xs ys : List (List ℕ)) (b : List ℕ) → IsConsecutive n xs → In b (xs ++ ys) → end_from n xs ≤ last_of b → In b ys
in_rest n xs ys b c there high = elim (in_either b xs ys there) [
  | inl h ↦ absurd (let k = in_below n xs b c h in omega (arith, k.1, high))
  | inr h ↦ h
]

-- the batches up to an offset and from one on

pub in_up_to : (m n : ℕ) (xs : List (List ℕ)) (b : List ℕ) → IsConsecutive n xs → In b xs → last_of b < m → In b (up_to m xs)
in_up_to m n [] b c there low = absurd there
in_up_to m n (x ∷ xs) b c (inl here) low =
    let same = ap last_of here in
    rw (lt-ltb (last_of x) m (omega (arith, same, low))) (inl here)
in_up_to m n (x ∷ xs) b c (inr there) low =
    let k = in_below (last_of x + 1) xs b c.1 there in
    rw (lt-ltb (last_of x) m (omega (arith, k.0, low))) (inr (in_up_to m (last_of x + 1) xs b c.1 there low))

pub up_to_in : (m : ℕ) (xs : List (List ℕ)) (b : List ℕ) → In b (up_to m xs) → In b xs × (last_of b < m)
up_to_in m [] b there = absurd there
up_to_in m (x ∷ xs) b there = elim (cases_lt (last_of x) m) [
  | inl low ↦ by low (subst (λ (t : Bool). In b (cond t (x ∷ up_to m xs) [])) (lt-ltb (last_of x) m low) there) (up_to_in m xs b)
  | inr high ↦ absurd (subst (λ (t : Bool). In b (cond t (x ∷ up_to m xs) [])) (le-ltb (last_of x) m high) there)
]
  where
    by : last_of x < m → In b (x ∷ up_to m xs) → (In b (up_to m xs) → In b xs × (last_of b < m)) → In b (x ∷ xs) × (last_of b < m)
    by low (inl here) next = (let same = ap last_of here in (inl here, omega (arith, same, low)))
    by low (inr more) next = (let k = next more in (inr k.0, k.1))

pub in_from : (s : ℕ) (xs : List (List ℕ)) (b : List ℕ) → In b xs → s ≤ last_of b → In b (from_offset s xs)
in_from s [] b there high = absurd there
in_from s (x ∷ xs) b there high = elim (cases_lt (last_of x) s) [
  | inl low ↦ rw (lt-ltb (last_of x) s low) (by low there (λ more. in_from s xs b more high))
  | inr up ↦ rw (le-ltb (last_of x) s up) there
]
  where
    by : last_of x < s → In b (x ∷ xs) → (In b xs → In b (from_offset s xs)) → In b (from_offset s xs)
    by low (inl here) next = absurd (let same = ap last_of here in omega (arith, same, low, high))
    by low (inr more) next = next more

pub from_in : (s n : ℕ) (xs : List (List ℕ)) (b : List ℕ) → IsConsecutive n xs → In b (from_offset s xs) → In b xs × (s ≤ last_of b)
from_in s n [] b c there = absurd there
from_in s n (x ∷ xs) b c there = elim (cases_lt (last_of x) s) [
  | inl low ↦ (let k = from_in s (last_of x + 1) xs b c.1 (subst (λ (t : Bool). In b (cond t (from_offset s xs) (x ∷ xs))) (lt-ltb (last_of x) s low) there) in (inr k.0, k.1))
  | inr up ↦ by up (subst (λ (t : Bool). In b (cond t (from_offset s xs) (x ∷ xs))) (le-ltb (last_of x) s up) there)
]
  where
    by : s ≤ last_of x → In b (x ∷ xs) → In b (x ∷ xs) × (s ≤ last_of b)
    by up (inl here) = (let same = ap last_of here in (inl here, omega (arith, same, up)))
    by up (inr more) = (let k = in_below (last_of x + 1) xs b c.1 more in (inr more, omega (arith, k.0, up)))

-- the first batches of consecutive ones are
up_to_consecutive : (m n : ℕ) (xs : List (List ℕ)) → IsConsecutive n xs → IsConsecutive n (up_to m xs)
up_to_consecutive m n [] c = tt
up_to_consecutive m n (x ∷ xs) c = elim (cases_lt (last_of x) m) [
  | inl low ↦ rw (lt-ltb (last_of x) m low) (c.0, up_to_consecutive m (last_of x + 1) xs c.1)
  | inr high ↦ rw (le-ltb (last_of x) m high) tt
]

-- what a search has gone through, batch by batch

-- each batch of the log that ends past its start and at or below an offset is too early
abbrev pub EachEarly : ℤ → ℕ → List (List ℕ) → ℕ → Type 0
EachEarly ts start log offset = (b : List ℕ) → In b log → start ≤ last_of b → last_of b < offset → max_ts_of b <ℤ ts

pub each_early : (ts : ℤ) (start offset : ℕ) (log : List (List ℕ)) → IsConsecutive 0 log → AreEarly ts (from_offset start (up_to offset log)) → EachEarly ts start log offset
each_early ts start offset log c all b there high low =
    all_in (λ (b : List ℕ). max_ts_of b <ℤ ts) (from_offset start (up_to offset log)) b all (in_from start (up_to offset log) b (in_up_to offset 0 log b c there low) high)

pub early_each : (ts : ℤ) (start offset : ℕ) (log : List (List ℕ)) → IsConsecutive 0 log → EachEarly ts start log offset → AreEarly ts (from_offset start (up_to offset log))
early_each ts start offset log c each =
    all_of (λ (b : List ℕ). max_ts_of b <ℤ ts) (from_offset start (up_to offset log)) (λ b there.
    (let k = from_in start 0 (up_to offset log) b (up_to_consecutive offset 0 log c) there in
    let j = up_to_in offset log b k.0 in each b j.0 k.1 j.1))

-- the batches of a log that ends there

pub all_below : (n : ℕ) (xs ys : List (List ℕ)) → IsConsecutive n xs → up_to (end_from n xs) (xs ++ ys) ≡ xs ++ up_to (end_from n xs) ys
all_below n [] ys c = refl
all_below n (x ∷ xs) ys c =
    let up = end_above (last_of x + 1) xs c.1 in
    rw (lt-ltb (last_of x) (end_from (last_of x + 1) xs) (omega (arith, up))) (ap (λ (l : List (List ℕ)). x ∷ l) (all_below (last_of x + 1) xs ys c.1))

-- batches that end at or below a mark are up to it
pub up_to_front : (n m : ℕ) (xs ys : List (List ℕ)) → IsConsecutive n xs → end_from n xs ≤ m → up_to m (xs ++ ys) ≡ xs ++ up_to m ys
up_to_front n m [] ys c le = refl
up_to_front n m (x ∷ xs) ys c le =
    let up = end_above (last_of x + 1) xs c.1 in
    rw (lt-ltb (last_of x) m (omega (arith, up, le))) (ap (λ (l : List (List ℕ)). x ∷ l) (up_to_front (last_of x + 1) m xs ys c.1 le))

-- batches of which the last ends past an offset: what is after the front of them stays
pub from_front : (s : ℕ) (xs ys : List (List ℕ)) (y : List ℕ) → s ≤ last_of y → from_offset s (xs ++ y ∷ ys) ≡ from_offset s xs ++ y ∷ ys
from_front s [] ys y high = rw (le-ltb (last_of y) s high) refl
from_front s (x ∷ xs) ys y high = elim (cases_lt (last_of x) s) [
  | inl low ↦ rw (lt-ltb (last_of x) s low) (from_front s xs ys y high)
  | inr up ↦ rw (le-ltb (last_of x) s up) refl
]

-- the first that isn't too early

pub early_none : (ts : ℤ) (start : ℕ) (xs : List (List ℕ)) → AreEarly ts xs → first_at ts start xs ≡ None
early_none ts start [] all = refl
early_none ts start (x ∷ xs) all =
    let t = is_true (max_ts_of x) ts all.0 in
    rw t (early_none ts start xs all.1)
  where
    is_true : (a b : ℤ) → a <ℤ b → int_lt a b ≡ true
    is_true a b h = grind (arith, ints)

pub none_early : (ts : ℤ) (start : ℕ) (xs : List (List ℕ)) → first_at ts start xs ≡ None → AreEarly ts xs
none_early ts start [] none = tt
none_early ts start (x ∷ xs) none = by (int_lt (max_ts_of x) ts) refl none (none_early ts start xs)
  where
    is_lower : (a b : ℤ) → int_lt a b ≡ true → a <ℤ b
    is_lower a b h = grind (arith, ints)

    by : (t : Bool) → int_lt (max_ts_of x) ts ≡ t → cond t (first_at ts start xs) (Some (max (base_of x) start)) ≡ None → (first_at ts start xs ≡ None → AreEarly ts xs) → AreEarly ts (x ∷ xs)
    by true is rest more = (is_lower (max_ts_of x) ts is, more rest)
    by false is rest more = absurd (cc (rest))

-- after early ones it is that of what comes after
pub first_behind : (ts : ℤ) (start : ℕ) (xs ys : List (List ℕ)) → AreEarly ts xs → first_at ts start (xs ++ ys) ≡ first_at ts start ys
first_behind ts start [] ys all = refl
first_behind ts start (x ∷ xs) ys all = rw (is_true (max_ts_of x) ts all.0) (first_behind ts start xs ys all.1)
  where
    is_true : (a b : ℤ) → a <ℤ b → int_lt a b ≡ true
    is_true a b h = grind (arith, ints)

-- and that of the front, where it is there
pub first_in : (ts : ℤ) (start at : ℕ) (xs ys : List (List ℕ)) → first_at ts start xs ≡ Some at → first_at ts start (xs ++ ys) ≡ Some at
first_in ts start at [] ys is = absurd (cc (is))
first_in ts start at (x ∷ xs) ys is = by (int_lt (max_ts_of x) ts) is (first_in ts start at xs ys)
  where
    by : (t : Bool) → cond t (first_at ts start xs) (Some (max (base_of x) start)) ≡ Some at → (first_at ts start xs ≡ Some at → first_at ts start (xs ++ ys) ≡ Some at)
        → cond t (first_at ts start (xs ++ ys)) (Some (max (base_of x) start)) ≡ Some at
    by true is more = more is
    by false is more = is

early_append : (ts : ℤ) (xs ys : List (List ℕ)) → AreEarly ts xs → AreEarly ts ys → AreEarly ts (xs ++ ys)
early_append ts [] ys all more = more
early_append ts (x ∷ xs) ys all more = (all.0, early_append ts xs ys all.1 more)

-- the laws

-- a search has gone through nothing at the log start offset
none_between : (start : ℕ) (log : List (List ℕ)) → from_offset start (up_to start log) ≡ []
none_between start [] = refl
none_between start (x ∷ log) = elim (cases_lt (last_of x) start) [
  | inl low ↦ (let t = lt-ltb (last_of x) start low in rw (t, t) (none_between start log))
  | inr up ↦ rw (le-ltb (last_of x) start up) refl
]

pub start_has_passed : StartHasPassed
start_has_passed ts start log = record {
  within = left start (end_of log);
  early = subst (AreEarly ts) (sym (none_between start log)) tt;
}
  where
    left : (a b : ℕ) → a ≤ max a b
    left a b = omega arith

-- an earlier mark has fewer batches
up_to_less : (m n : ℕ) (xs : List (List ℕ)) → m ≤ n → IsPrefix (up_to m xs) (up_to n xs)
up_to_less m n [] le = ([], refl)
up_to_less m n (x ∷ xs) le = elim (cases_lt (last_of x) m) [
  | inl low ↦ (let r = up_to_less m n xs le in rw (lt-ltb (last_of x) m low, lt-ltb (last_of x) n (omega (arith, low, le))) (r.0, ap (λ (l : List (List ℕ)). x ∷ l) r.1))
  | inr up ↦ rw (le-ltb (last_of x) m up) (cond (nat_lt (last_of x) n) (x ∷ up_to n xs) [], refl)
]

from_less : (ts : ℤ) (s : ℕ) (xs ys : List (List ℕ)) → AreEarly ts (from_offset s (xs ++ ys)) → AreEarly ts (from_offset s xs)
from_less ts s [] ys all = tt
from_less ts s (x ∷ xs) ys all = elim (cases_lt (last_of x) s) [
  | inl low ↦ (let t = lt-ltb (last_of x) s low in rw t (from_less ts s xs ys (subst (λ (t : Bool). AreEarly ts (cond t (from_offset s (xs ++ ys)) (x ∷ xs ++ ys))) t all)))
  | inr up ↦ (let t = le-ltb (last_of x) s up in rw t (parts (x ∷ xs) (subst (λ (t : Bool). AreEarly ts (cond t (from_offset s (xs ++ ys)) (x ∷ xs ++ ys))) t all)))
]
  where
    parts : (zs : List (List ℕ)) → AreEarly ts (zs ++ ys) → AreEarly ts zs
    parts [] all = tt
    parts (z ∷ zs) all = (all.0, parts zs all.1)

pub passed_has_none : PassedHasNone
passed_has_none ts start mark cursor log h le =
    let p = up_to_less mark cursor log le in
    let all : AreEarly ts (from_offset start (up_to mark log ++ p.0)) = subst (λ (l : List (List ℕ)). AreEarly ts (from_offset start l)) (sym p.1) h.early in
    early_none ts start (from_offset start (up_to mark log)) (from_less ts start (up_to mark log) p.0 all)

-- what a search has gone through stays so
pub passed_is_kept : PassedIsKept
passed_is_kept ts start later offset log more h p c le =
    let own = consecutive_prefix 0 log more p c in
    let each = each_early ts start offset log own h.early in
    let ends = prefix_end log more c p in
    record {
      within = wider offset start later (end_of log) (end_of more) h.within le ends;
      early = early_each ts later offset more c (λ b there high low.
          each b (in_beginning 0 log p.0 b (subst (IsConsecutive 0) (sym p.1) c) (subst (λ (l : List (List ℕ)). In b l) (sym p.1) there) (inside offset start later (end_of log) (last_of b) h.within le high low)) (omega (arith, le, high)) low);
    }
  where
    wider : (o s l e f : ℕ) → o ≤ max s e → s ≤ l → e ≤ f → o ≤ max l f
    wider o s l e f h k j = omega (arith, h, k, j)

    inside : (o s l e b : ℕ) → o ≤ max s e → s ≤ l → l ≤ b → b < o → b < e
    inside o s l e b h k j i = omega (arith, h, k, j, i)

-- a run of a log, read at an offset

-- the batches in front of it
before : (offset n : ℕ) (log : List (List ℕ)) → IsConsecutive n log → (front : List (List ℕ)) × (log ≡ front ++ from_offset offset log) × (end_from n front ≤ max n offset)
before offset n [] c = ([], refl, omega arith)
before offset n (x ∷ log) c = elim (cases_lt (last_of x) offset) [
  | inl low ↦
      let r = before offset (last_of x + 1) log c.1 in
      rw (lt-ltb (last_of x) offset low) (x ∷ r.0, ap (λ (l : List (List ℕ)). x ∷ l) r.1, higher n offset (last_of x) (end_from (last_of x + 1) r.0) r.2 low)
  | inr up ↦ rw (le-ltb (last_of x) offset up) ([], refl, omega arith)
]
  where
    higher : (n o l e : ℕ) → e ≤ max (l + 1) o → l < o → e ≤ max n o
    higher n o l e h k = omega (arith, h, k)

-- its first batch ends past the offset
past : (offset : ℕ) (log : List (List ℕ)) (first : List ℕ) (others : List (List ℕ)) → from_offset offset log ≡ first ∷ others → offset ≤ last_of first
past offset [] first others is = absurd (cc (is))
past offset (x ∷ log) first others is = elim (cases_lt (last_of x) offset) [
  | inl low ↦ past offset log first others (subst (λ (t : Bool). cond t (from_offset offset log) (x ∷ log) ≡ first ∷ others) (lt-ltb (last_of x) offset low) is)
  | inr up ↦ (let whole = subst (λ (t : Bool). cond t (from_offset offset log) (x ∷ log) ≡ first ∷ others) (le-ltb (last_of x) offset up) is in
      let same : x ≡ first = cc (whole) in let last = ap last_of same in omega (arith, last, up))
]

-- the batches of a log on both sides of a run, where all in front of it from the log start offset on are too early
record Around (ts : ℤ) (start offset mark : ℕ) (log run : List (List ℕ)) : Type 0 where
  pub front : List (List ℕ)
  pub rest : List (List ℕ)
  pub parts : log ≡ (front ++ run) ++ rest
  pub own : IsConsecutive 0 (front ++ run)
  pub high : offset < end_from 0 run
  pub end : end_from 0 (front ++ run) ≡ end_from 0 run
  pub early : (b : List ℕ) → In b front → start ≤ last_of b → max_ts_of b <ℤ ts
  pub marked : from_offset start (up_to mark log) ≡ from_offset start front ++ (run ++ up_to mark rest)

around : (ts : ℤ) (start offset limit mark : ℕ) (stop : Stop) (log run : List (List ℕ)) → IsConsecutive 0 log → HasPassed ts start log offset → start ≤ offset → IsRunOf log offset limit mark stop run
    → Around ts start offset mark log run
around ts start offset limit mark stop log [] c h low m = absurd (cc (m.within))
around ts start offset limit mark stop log (first ∷ others) c h low m =
    let r = before offset 0 log c in
    let front = r.0 in
    let parts : log ≡ (front ++ first ∷ others) ++ m.rest = r.1 ∙ ap (λ (l : List (List ℕ)). front ++ l) m.parts ∙ sym (append_assoc front (first ∷ others) m.rest) in
    let own = consecutive_prefix 0 (front ++ first ∷ others) log (m.rest, sym parts) c in
    let row = consecutive_back 0 front (first ∷ others) own in
    let high = past offset log first (others ++ m.rest) m.parts in
    let up = end_above (last_of first + 1) others row.1 in
    let end : end_from 0 (front ++ first ∷ others) ≡ end_from 0 (first ∷ others) = end_append 0 front (first ∷ others) in
    let ends = r.2 in
    let each = each_early ts start offset log c h.early in
    let below = m.below in
    record {
      front = front;
      rest = m.rest;
      parts = parts;
      own = own;
      high = omega (arith, high, up);
      end = end;
      early = λ b there from.
          (let k = in_below 0 front b (consecutive_prefix 0 front (front ++ first ∷ others) (first ∷ others, refl) own) there in
          each b (subst (λ (l : List (List ℕ)). In b l) (sym r.1) (in_front b front (from_offset offset log) there)) from (lower (last_of b) (end_from 0 front) offset k.1 ends));
      marked =
          ap (λ (l : List (List ℕ)). from_offset start (up_to mark l)) parts
          ∙ ap (from_offset start) (up_to_front 0 mark (front ++ first ∷ others) m.rest own (omega (arith, end, below)) ∙ append_assoc front (first ∷ others) (up_to mark m.rest))
          ∙ from_front start front (others ++ up_to mark m.rest) first (omega (arith, low, high));
    }
  where
    lower : (b e o : ℕ) → b < e → e ≤ max 0 o → b < o
    lower b e o h k = omega (arith, h, k)

-- what is in front of it from the log start offset on
front_early : (ts : ℤ) (start n : ℕ) (front : List (List ℕ)) → IsConsecutive n front → ((b : List ℕ) → In b front → start ≤ last_of b → max_ts_of b <ℤ ts) → AreEarly ts (from_offset start front)
front_early ts start n front c each =
    all_of (λ (b : List ℕ). max_ts_of b <ℤ ts) (from_offset start front) (λ b there. (let k = from_in start n front b c there in each b k.0 k.1))

-- its first batch that isn't too early is the log's
pub run_found : (ts : ℤ) (start offset limit mark at : ℕ) (stop : Stop) (log run : List (List ℕ)) → IsConsecutive 0 log → HasPassed ts start log offset → start ≤ offset → IsRunOf log offset limit mark stop run
    → first_at ts start run ≡ Some at → first_at ts start (from_offset start (up_to mark log)) ≡ Some at
run_found ts start offset limit mark at stop log run c h low m is =
    let a = around ts start offset limit mark stop log run c h low m in
    let early = front_early ts start 0 a.front (consecutive_prefix 0 a.front (a.front ++ run) (run, refl) a.own) a.early in
    ap (first_at ts start) a.marked ∙ first_behind ts start (from_offset start a.front) (run ++ up_to mark a.rest) early ∙ first_in ts start at run (up_to mark a.rest) is

-- where it has none, the search has come to its end
pub run_passed : (ts : ℤ) (start offset limit mark : ℕ) (stop : Stop) (log run : List (List ℕ)) → IsConsecutive 0 log → HasPassed ts start log offset → start ≤ offset → IsRunOf log offset limit mark stop run
    → first_at ts start run ≡ None → HasPassed ts start log (end_of run) × (offset < end_of run)
run_passed ts start offset limit mark stop log run c h low m none =
    let a = around ts start offset limit mark stop log run c h low m in
    let all = none_early ts start run none in
    let ends = prefix_end (a.front ++ run) log c (a.rest, sym a.parts) in
    let same = a.end in (
      record {
        within = wider (end_from 0 (a.front ++ run)) (end_of run) start (end_of log) ends same;
        early = early_each ts start (end_of run) log c (λ b there from below.
            (let k = in_beginning 0 (a.front ++ run) a.rest b (subst (IsConsecutive 0) a.parts c) (subst (λ (l : List (List ℕ)). In b l) a.parts there) (omega (arith, below, same)) in
            elim (in_either b a.front run k) [
              | inl i ↦ a.early b i from
              | inr i ↦ all_in (λ (b : List ℕ). max_ts_of b <ℤ ts) run b all i
            ]));
      },
      a.high,
    )
  where
    wider : (f e s l : ℕ) → f ≤ l → f ≡ e → e ≤ max s l
    wider f e s l h k = omega (arith, h, k)
