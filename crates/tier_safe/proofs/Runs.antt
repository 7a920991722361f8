-- Batches of a log from an offset on, and those of another that begins alike.
use Rattle.std.proofs.Common.{◌≡◌, inl, inr, ◌∙◌, sym, ap, subst, refl, ℕ, ◌+◌, ◌<◌, ◌≤◌, List, [], ◌∷◌, ◌++◌, arith, append_assoc, append-nil}
use Rattle.std.proofs.lemmas.Bool.{lt-ltb, le-ltb, cases_lt}
use mathlib.Core.List.{IsPrefix}
use Rattle.log_terms.specs.Batch.{last_of}
use Rattle.log_terms.specs.Log.{IsConsecutive, end_from, end_of, from_offset}
use Rattle.log_terms.proofs.Logs.{end_above, nested, consecutive_prefix}
use Rattle.tier_safe.specs.Kept.{Shares}

-- from an offset that a beginning goes past on, a list is the beginning from there on, and what comes after it
from_front : (n offset : ℕ) (ws rest : List (List ℕ)) → IsConsecutive n ws → offset < end_from n ws → n ≤ offset → from_offset offset (ws ++ rest) ≡ from_offset offset ws ++ rest
from_front n offset [] rest c past low = absurd (omega (arith, past, low))
from_front n offset (w ∷ ws) rest c past low = elim (cases_lt (last_of w) offset) [
  | inl gone ↦
      let t = lt-ltb (last_of w) offset gone in
      rw t (from_front (last_of w + 1) offset ws rest c.1 past (omega (arith, gone)))
  | inr here ↦ let t = le-ltb (last_of w) offset here in rw t refl
]

-- the batches of a beginning from an offset on end where it does
from_end : (n offset : ℕ) (ws : List (List ℕ)) → offset < end_from n ws → n ≤ offset → end_from offset (from_offset offset ws) ≡ end_from n ws
from_end n offset [] past low = absurd (omega (arith, past, low))
from_end n offset (w ∷ ws) past low = elim (cases_lt (last_of w) offset) [
  | inl gone ↦ let t = lt-ltb (last_of w) offset gone in rw t (from_end (last_of w + 1) offset ws past (omega (arith, gone)))
  | inr here ↦ let t = le-ltb (last_of w) offset here in rw t refl
]

-- what is left of consecutive batches is consecutive from somewhere
from_consecutive : (n offset : ℕ) (xs : List (List ℕ)) → IsConsecutive n xs → (m : ℕ) × IsConsecutive m (from_offset offset xs)
from_consecutive n offset [] c = (n, tt)
from_consecutive n offset (x ∷ xs) c = elim (cases_lt (last_of x) offset) [
  | inl gone ↦ let t = lt-ltb (last_of x) offset gone in rw t (from_consecutive (last_of x + 1) offset xs c.1)
  | inr here ↦ let t = le-ltb (last_of x) offset here in rw t (n, c)
]

-- batches of one log, from an offset on, that end where both logs are one are batches of the other
pub runs_same : (xs ys run : List (List ℕ)) (offset n : ℕ) → Shares xs ys n → IsConsecutive 0 xs → offset ≤ n → IsPrefix run (from_offset offset xs)
    → end_of run ≤ n + 1 → IsPrefix run (from_offset offset ys)
runs_same xs ys [] offset n s c low p below = (from_offset offset ys, refl)
runs_same xs ys (r ∷ rs) offset n s c low p below =
    let cf = consecutive_prefix 0 s.front xs s.one c in
    let past = s.past in
    let front = from_offset offset s.front in
    let fx : from_offset offset xs ≡ front ++ s.one.0 = ap (from_offset offset) (sym s.one.1) ∙ from_front 0 offset s.front s.one.0 cf (omega (arith, low, past)) (omega arith) in
    let fy : from_offset offset ys ≡ front ++ s.two.0 = ap (from_offset offset) (sym s.two.1) ∙ from_front 0 offset s.front s.two.0 cf (omega (arith, low, past)) (omega arith) in
    let k = from_consecutive 0 offset xs c in
    let ends = from_end 0 offset s.front (omega (arith, low, past)) (omega arith) in
    let end : end_from k.0 front ≡ end_of s.front = any front k.0 offset (end_of s.front) ends (omega (arith, low, past)) in
    let pre = nested k.0 (r ∷ rs) front (from_offset offset xs) k.1 p (s.one.0, sym fx) (omega (arith, below, past, end)) in
    subst (λ (l : List (List ℕ)). IsPrefix (r ∷ rs) l) (sym fy) (pre.0 ++ s.two.0, sym (append_assoc (r ∷ rs) pre.0 s.two.0) ∙ ap (λ (l : List (List ℕ)). l ++ s.two.0) pre.1)
  where
    any : (fs : List (List ℕ)) (m o e : ℕ) → end_from o fs ≡ e → o < e → end_from m fs ≡ e
    any [] m o e is lt = absurd (omega (arith, is, lt))
    any (f ∷ fs) m o e is lt = is

-- what comes after a beginning
behind : (xs ys zs : List (List ℕ)) → xs ++ ys ≡ xs ++ zs → ys ≡ zs
behind [] ys zs is = is
behind (x ∷ xs) ys zs is = behind xs ys zs (cc (is))

-- the batch after such batches is the other log's too, where they end before what both share does
pub next_same : (xs ys run : List (List ℕ)) (first batch : List ℕ) (rest : List (List ℕ)) (offset n : ℕ) → Shares xs ys n → IsConsecutive 0 xs → offset ≤ n
    → from_offset offset xs ≡ (first ∷ run) ++ batch ∷ rest → end_of (first ∷ run) ≤ n
    → (more : List (List ℕ)) × (from_offset offset ys ≡ (first ∷ run) ++ batch ∷ more)
next_same xs ys run first batch rest offset n s c low is below =
    let past = s.past in
    let cf = consecutive_prefix 0 s.front xs s.one c in
    let fx : from_offset offset xs ≡ from_offset offset s.front ++ s.one.0 = ap (from_offset offset) (sym s.one.1) ∙ from_front 0 offset s.front s.one.0 cf (omega (arith, low, past)) (omega arith) in
    let k = from_consecutive 0 offset xs c in
    let ends = from_end 0 offset s.front (omega (arith, low, past)) (omega arith) in
    let end : end_from k.0 (from_offset offset s.front) ≡ end_of s.front = any (from_offset offset s.front) k.0 offset (end_of s.front) ends (omega (arith, low, past)) in
    let pre = runs_same xs s.front (first ∷ run) offset n (record { front = s.front; one = s.one; two = ([], append-nil s.front); past = past }) c low
    (batch ∷ rest, sym is) (omega (arith, below)) in
    go pre.0 pre.1 fx end
  where
    any : (fs : List (List ℕ)) (m o e : ℕ) → end_from o fs ≡ e → o < e → end_from m fs ≡ e
    any [] m o e is lt = absurd (omega (arith, is, lt))
    any (f ∷ fs) m o e is lt = is

    go : (more : List (List ℕ)) → (first ∷ run) ++ more ≡ from_offset offset s.front → from_offset offset xs ≡ from_offset offset s.front ++ s.one.0
        → end_from (from_consecutive 0 offset xs c).0 (from_offset offset s.front) ≡ end_of s.front
        → (more : List (List ℕ)) × (from_offset offset ys ≡ (first ∷ run) ++ batch ∷ more)
    go [] front fx end =
        let past = s.past in
        let same : first ∷ run ≡ from_offset offset s.front = sym (append-nil (first ∷ run)) ∙ front in
        absurd (omega (arith, ap (end_from (from_consecutive 0 offset xs c).0) same, end, below, past))
    go (d ∷ more) front fx end =
        let past = s.past in
        let cf = consecutive_prefix 0 s.front xs s.one c in
        let fy : from_offset offset ys ≡ from_offset offset s.front ++ s.two.0 = ap (from_offset offset) (sym s.two.1) ∙ from_front 0 offset s.front s.two.0 cf (omega (arith, low, past)) (omega arith) in
        let whole : (first ∷ run) ++ batch ∷ rest ≡ (first ∷ run) ++ (d ∷ more ++ s.one.0) =
        sym is ∙ fx ∙ ap (λ (l : List (List ℕ)). l ++ s.one.0) (sym front) ∙ append_assoc (first ∷ run) (d ∷ more) s.one.0 in
        let one : batch ≡ d = (let rests = behind (first ∷ run) (batch ∷ rest) (d ∷ more ++ s.one.0) whole in cc (rests)) in (
          more ++ s.two.0,
          fy ∙ ap (λ (l : List (List ℕ)). l ++ s.two.0) (sym front) ∙ append_assoc (first ∷ run) (d ∷ more) s.two.0
              ∙ ap (λ (b : List ℕ). (first ∷ run) ++ b ∷ (more ++ s.two.0)) (sym one),
        )

-- batches after others
pub from_back : (n offset : ℕ) (front xs : List (List ℕ)) → IsConsecutive n front → end_from n front ≤ offset → from_offset offset (front ++ xs) ≡ from_offset offset xs
from_back n offset [] xs c le = refl
from_back n offset (f ∷ front) xs c le =
    let up = end_above (last_of f + 1) front c.1 in
    let t = lt-ltb (last_of f) offset (omega (arith, up, le)) in
    rw t (from_back (last_of f + 1) offset front xs c.1 le)
