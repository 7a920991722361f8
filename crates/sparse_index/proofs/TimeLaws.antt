-- Lookups in a time index, by its columns, and its bytes.
use Rattle.std.proofs.Common.{◌≡◌, ◌∙◌, sym, ap, refl, ℕ, ◌+◌, ◌^◌, ◌<◌, ◌≤◌, ◌%◌, List, [], ◌∷◌, ◌++◌, Some, None, Ok, Err, Bool, true, false, Result, OnOk, OnErr, length, take, get_or, arith, subst}
use Rattle.std.specs.Prelude.{count_by, ℤ, pos, ◌+ℤ◌, ◌<ℤ◌, ◌≤ℤ◌, int_le, int_lt, FitsSigned}
use Rattle.std.specs.List.{zip}
use Rattle.std.specs.List.Sorted.{IsPartitionedBy}
use Rattle.std.specs.Option.{ForSome, option_map}
use Rattle.std.specs.Int.{w32, w64, to_be_bytes, from_be_bytes, cast_unsigned}
use Rattle.std.specs.declared.option.Option.{Option}
use Rattle.std.proofs.lemmas.List.{length_push, take_more, take_all}
use Rattle.std.proofs.lemmas.List.Sums.{count_by-le-length}
use Rattle.std.proofs.lemmas.Bool.{ltb-true, lt-ltb, leb-true, le-leb, and_parts, and_from}
use Rattle.std.proofs.lemmas.Int.{ints, to_z-of_z}
use Rattle.std.proofs.lemmas.Nat.{from_be_bytes-to_be_bytes_4, from_be_bytes-to_be_bytes_8}
use Rattle.std.proofs.lemmas.Option.{slice_get-get_or, same_Some}
use Rattle.std.proofs.lemmas.Slice.Zip.{length-zip, get_or-zip}
use mir.Val.{to_z, of_z}
use Rattle.sparse_index.specs.Bytes.{bytes_of, IsNoIndex}
use Rattle.sparse_index.specs.Entries.{last_of, last_passing}
use Rattle.sparse_index.specs.Times.{TimeTable, FitsMoment, RisesInTime, AreMoments, AreTimeColumns, time_table, with_moment, moment_of, moment_bytes, moment_follows}
use Rattle.sparse_index.proofs.Parted.{count-all, count-agree}
use Rattle.sparse_index.proofs.Chains.{count-firsts, parted-firsts, chain-fits, chain-parted, chain-push, chain-last, last-index, zip-push, last-counted, last-none}
use Rattle.sparse_index.proofs.BytesLaws.{pieces-same, bytes-push, bytes-length, falls-unread}

-- as many entries as timestamps
pub long : (times : List ℤ) (offsets : List ℕ) → length times ≡ length offsets → length (zip times offsets) ≡ length times
long times offsets even = omega (arith, length-zip times offsets, even)

-- what is up to a timestamp comes first
pub up-to-parted : (ts : ℤ) (entries : List (ℤ × ℕ)) → AreMoments entries → IsPartitionedBy (λ e. int_le e.0 ts) entries
up-to-parted ts entries h = chain-parted FitsMoment RisesInTime (λ e. int_le e.0 ts) (λ x y r t. falls-le x.0 y.0 ts r.0 t) entries h
  where
    falls-le : (a b t : ℤ) → a <ℤ b → int_le b t ≡ true → int_le a t ≡ true
    falls-le a b t l h = grind (arith, ints)

-- so does what precedes it
pub before-parted : (ts : ℤ) (entries : List (ℤ × ℕ)) → AreMoments entries → IsPartitionedBy (λ e. int_lt e.0 ts) entries
before-parted ts entries h = chain-parted FitsMoment RisesInTime (λ e. int_lt e.0 ts) (λ x y r t. falls-lt x.0 y.0 ts r.0 t) entries h
  where
    falls-lt : (a b t : ℤ) → a <ℤ b → int_lt b t ≡ true → int_lt a t ≡ true
    falls-lt a b t l h = grind (arith, ints)

-- and so in the column
pub column-before : (ts : ℤ) (times : List ℤ) (offsets : List ℕ) → length times ≡ length offsets → AreMoments (zip times offsets) → IsPartitionedBy (λ time. int_lt time ts) times
column-before ts times offsets even h = parted-firsts (λ time. int_lt time ts) times offsets 0 even (before-parted ts (zip times offsets) h)

-- at or below is below the next
pub next-counted : (ts : ℤ) (times : List ℤ) → count_by (λ time. int_lt time (ts +ℤ pos 1)) times ≡ count_by (λ time. int_le time ts) times
next-counted ts times = count-agree (λ time. int_lt time (ts +ℤ pos 1)) (λ time. int_le time ts) (λ time. same time ts) times
  where
    same : (a t : ℤ) → int_lt a (t +ℤ pos 1) ≡ int_le a t
    same a t = grind (arith, ints)

-- none is above the greatest timestamp
pub all-counted : (ts : ℤ) (times : List ℤ) (offsets : List ℕ) → length times ≡ length offsets → AreMoments (zip times offsets) → ts ≡ pos 9223372036854775807 → count_by (λ time. int_le time ts) times ≡ length times
all-counted ts times offsets even h top =
    sym (count-firsts (λ time. int_le time ts) times offsets even)
    ∙ (count-all (λ e. int_le e.0 ts) (zip times offsets) (λ k d within. greatest (get_or (zip times offsets) k d).0 ts (chain-fits FitsMoment RisesInTime (zip times offsets) h k d within).0 top) ∙ long times offsets even)
  where
    greatest : (a t : ℤ) → FitsSigned w64 a → t ≡ pos 9223372036854775807 → int_le a t ≡ true
    greatest a t fits e = grind (arith, ints)

-- the last entry that passes a test of its timestamp
pub moment-none : (p : ℤ → Bool) (base : ℕ) (times : List ℤ) (offsets : List ℕ) → length times ≡ length offsets → IsPartitionedBy (λ e. p e.0) (zip times offsets) → count_by p times ≡ 0 → option_map (moment_of base) (last_passing (λ e. p e.0) (zip times offsets)) ≡ None
moment-none p base times offsets even h none = ap (option_map (moment_of base)) (last-none (λ e. p e.0) (zip times offsets) h (count-firsts p times offsets even ∙ none))

pub moment-at : (p : ℤ → Bool) (base k : ℕ) (times : List ℤ) (offsets : List ℕ) → length times ≡ length offsets → IsPartitionedBy (λ e. p e.0) (zip times offsets) → k + 1 ≡ count_by p times
    → option_map (moment_of base) (last_passing (λ e. p e.0) (zip times offsets)) ≡ Some (get_or times k (pos 0), base + get_or offsets k 0)
moment-at p base k times offsets even h count =
    let within = count_by-le-length p times in
    let inside : k < length times = omega (arith, within, count) in
    ap (option_map (moment_of base)) (last-counted (λ e. p e.0) (zip times offsets) k (pos 0, 0) h (count ∙ sym (count-firsts p times offsets even))
    ∙ ap (λ e. Some e) (get_or-zip times offsets k (pos 0, 0) inside (omega (arith, inside, even))))

-- whether an entry was added or not, the columns are an index
pub columns-pushed : {A E : Type 0} (r : Result A E) (base : ℕ) (times more-times : List ℤ) (offsets more-offsets : List ℕ) (ts : ℤ) (offset : ℕ) → AreTimeColumns base times offsets → AreMoments (zip times offsets ++ (ts, offset) ∷ [])
    → OnOk r (more-times ≡ times ++ ts ∷ []) → OnOk r (more-offsets ≡ offsets ++ offset ∷ []) → OnErr r (more-times ≡ times) → OnErr r (more-offsets ≡ offsets) → AreTimeColumns base more-times more-offsets
columns-pushed (Ok x) base times more-times offsets more-offsets ts offset h more first second kept kept' =
    rw (first, second) (record {
      base_fits = h.base_fits;
      even = length_push times ts ∙ (ap (λ n. n + 1) h.even ∙ sym (length_push offsets offset));
      entries = rw (zip-push times offsets ts offset h.even) more;
    })
columns-pushed (Err x) base times more-times offsets more-offsets ts offset h more first second kept kept' = rw (kept, kept') h

-- an index of these entries
abbrev from_entries : ℕ → List (ℤ × ℕ) → TimeTable
from_entries base entries = record { base = base; entries = entries }

-- what the index gains
pub table-pushed : {A E : Type 0} (r : Result A E) (base : ℕ) (times more-times : List ℤ) (offsets more-offsets : List ℕ) (ts : ℤ) (offset : ℕ) → length times ≡ length offsets → OnOk r (more-times ≡ times ++ ts ∷ []) → OnOk r (more-offsets ≡ offsets ++ offset ∷ [])
    → OnOk r (time_table base more-times more-offsets ≡ with_moment (time_table base times offsets) (ts, offset))
table-pushed (Ok x) base times more-times offsets more-offsets ts offset even first second = rw (first, second) (ap (from_entries base) (zip-push times offsets ts offset even))
table-pushed (Err x) base times more-times offsets more-offsets ts offset even first second = tt

-- an entry above the last one follows
pub moments-push : (entries : List (ℤ × ℕ)) (entry : ℤ × ℕ) → AreMoments entries → FitsMoment entry → ForSome (last_of entries) (λ last. RisesInTime last entry) → AreMoments (entries ++ entry ∷ [])
moments-push entries entry h fits above = chain-push FitsMoment RisesInTime entries entry h fits above

-- the last of columns
pub last-columns : (times : List ℤ) (offsets : List ℕ) (k : ℕ) → length times ≡ length offsets → k + 1 ≡ length times → last_of (zip times offsets) ≡ Some (get_or times k (pos 0), get_or offsets k 0)
last-columns times offsets k even h =
    let inside : k < length times = omega (arith, h) in
    last-index (zip times offsets) k (h ∙ sym (long times offsets even))
    ∙ (slice_get-get_or (zip times offsets) k (pos 0, 0) (omega (arith, inside, long times offsets even)) ∙ ap (λ e. Some e) (get_or-zip times offsets k (pos 0, 0) inside (omega (arith, inside, even))))

int-lt-true : (a b : ℤ) → int_lt a b ≡ true → a <ℤ b
int-lt-true a b t = grind (arith, ints)

int-le-true : (a b : ℤ) → int_le a b ≡ true → a ≤ℤ b
int-le-true a b t = grind (arith, ints)

true-int-lt : (a b : ℤ) → a <ℤ b → int_lt a b ≡ true
true-int-lt a b l = grind (arith, ints)

true-int-le : (a b : ℤ) → a ≤ℤ b → int_le a b ≡ true
true-int-le a b l = grind (arith, ints)

test-parts : (last : Option (ℤ × ℕ)) (entry : ℤ × ℕ) → FitsSigned w64 entry.0 → moment_follows last entry ≡ true → FitsMoment entry × ForSome last (λ l. RisesInTime l entry)
test-parts None entry wide t = let both = and_parts _ _ t in ((wide, int-le-true _ _ both.0, ltb-true _ _ both.1), λ l e. absurd (cc))
test-parts (Some last) entry wide t =
    let a = and_parts _ _ t in
    let b = and_parts _ _ a.0 in
    let c = and_parts _ _ b.0 in
    ((wide, int-le-true _ _ c.0, ltb-true _ _ c.1), λ l e. (let same : last ≡ l = same_Some last l e in subst (λ m. RisesInTime m entry) same (int-lt-true _ _ b.1, leb-true _ _ a.1)))

test-from : (last : Option (ℤ × ℕ)) (entry : ℤ × ℕ) → FitsMoment entry → ForSome last (λ l. RisesInTime l entry) → moment_follows last entry ≡ true
test-from None entry fits above = and_from _ _ (true-int-le _ _ fits.1) (lt-ltb _ _ fits.2)
test-from (Some last) entry fits above = let rises = above last refl in and_from _ _ (and_from _ _ (and_from _ _ (true-int-le _ _ fits.1) (lt-ltb _ _ fits.2)) (true-int-lt _ _ rises.0)) (le-leb _ _ rises.1)

-- the test says whether the entries stay an index
pub follows : (entries : List (ℤ × ℕ)) (entry : ℤ × ℕ) → AreMoments entries → FitsSigned w64 entry.0 → moment_follows (last_of entries) entry ≡ true → AreMoments (entries ++ entry ∷ [])
follows entries entry h wide t = let parts = test-parts (last_of entries) entry wide t in chain-push FitsMoment RisesInTime entries entry h parts.0 parts.1

pub falls : (entries : List (ℤ × ℕ)) (entry : ℤ × ℕ) → moment_follows (last_of entries) entry ≡ false → AreMoments (entries ++ entry ∷ []) → ⊥
falls entries entry t h = let parts = chain-last FitsMoment RisesInTime entries entry h in let yes = test-from (last_of entries) entry parts.0 parts.1 in cc

-- an entry's bytes are twelve, and report it
pub moment-long : (entry : ℤ × ℕ) → length (moment_bytes entry) ≡ 12
moment-long entry = refl

-- numbers of 64 and 32 bits
abbrev pub IsWide : ℤ × ℕ → Type 0
IsWide entry = FitsSigned w64 entry.0 × (entry.1 < 2 ^ 32)

number-same : (m n : ℕ) → m < 2 ^ 32 → n < 2 ^ 32 → to_be_bytes w32 m ≡ to_be_bytes w32 n → m ≡ n
number-same m n h h' e = sym (from_be_bytes-to_be_bytes_4 m h) ∙ (ap (from_be_bytes w32) e ∙ from_be_bytes-to_be_bytes_4 n h')

bits-below : (a : ℤ) → FitsSigned w64 a → cast_unsigned w64 a < 2 ^ 64
bits-below a fits = grind (arith, ints)

signed-same : (a b : ℤ) → FitsSigned w64 a → FitsSigned w64 b → to_be_bytes w64 (cast_unsigned w64 a) ≡ to_be_bytes w64 (cast_unsigned w64 b) → a ≡ b
signed-same a b h h' e =
    let bits : cast_unsigned w64 a ≡ cast_unsigned w64 b = sym (from_be_bytes-to_be_bytes_8 (cast_unsigned w64 a) (bits-below a h)) ∙ (ap (from_be_bytes w64) e ∙ from_be_bytes-to_be_bytes_8 (cast_unsigned w64 b) (bits-below b h')) in
    sym (to_z-of_z w64 a h) ∙ (ap (to_z w64) bits ∙ to_z-of_z w64 b h')

pub moment-same : (x y : ℤ × ℕ) → IsWide x → IsWide y → moment_bytes x ≡ moment_bytes y → x ≡ y
moment-same x y h h' e =
    let pieces = pieces-same (to_be_bytes w64 (cast_unsigned w64 x.0)) (to_be_bytes w64 (cast_unsigned w64 y.0)) (to_be_bytes w32 x.1) (to_be_bytes w32 y.1) refl e in
    let first = signed-same x.0 y.0 h.0 h'.0 pieces.0 in
    let second = number-same x.1 y.1 h.1 h'.1 pieces.1 in
    ap (λ n. (n, x.1)) first ∙ ap (λ n. (y.0, n)) second

-- no index has bytes of another length
pub whole-entries : (bytes : List ℕ) (entries : List (ℤ × ℕ)) → bytes ≡ bytes_of moment_bytes entries → length bytes % 12 ≡ 0
whole-entries bytes entries e = let size = ap length e ∙ bytes-length moment_bytes 12 (omega arith) moment-long entries in omega (arith, size)

-- no index has bytes that begin with an entry that falls
pub moments-unread : (bytes more : List ℕ) (before : List (ℤ × ℕ)) (entry : ℤ × ℕ) → IsWide entry → AreMoments before → (AreMoments (before ++ entry ∷ []) → ⊥) → bytes ≡ bytes_of moment_bytes before ++ (moment_bytes entry ++ more) → IsNoIndex AreMoments moment_bytes bytes
moments-unread bytes more before entry wide stands fall parts =
    falls-unread moment_bytes 12 (omega arith) moment-long IsWide moment-same FitsMoment RisesInTime (λ x fits. (fits.0, omega (arith, fits.2))) bytes more before entry wide stands fall parts

-- one entry more of columns
pub bytes-more : (times : List ℤ) (offsets : List ℕ) (i : ℕ) → length times ≡ length offsets → i < length times → bytes_of moment_bytes (take (i + 1) (zip times offsets)) ≡ bytes_of moment_bytes (take i (zip times offsets)) ++ moment_bytes (get_or times i (pos 0), get_or offsets i 0)
bytes-more times offsets i even l =
    ap (bytes_of moment_bytes) (take_more (zip times offsets) i (pos 0, 0) (omega (arith, l, long times offsets even)))
    ∙ (bytes-push moment_bytes (take i (zip times offsets)) (get_or (zip times offsets) i (pos 0, 0))
    ∙ ap (λ e. bytes_of moment_bytes (take i (zip times offsets)) ++ moment_bytes e) (get_or-zip times offsets i (pos 0, 0) l (omega (arith, l, even))))

pub bytes-all : (times : List ℤ) (offsets : List ℕ) (i : ℕ) → length times ≡ length offsets → length times ≤ i → bytes_of moment_bytes (take i (zip times offsets)) ≡ bytes_of moment_bytes (zip times offsets)
bytes-all times offsets i even l = ap (bytes_of moment_bytes) (take_all i (zip times offsets) (omega (arith, l, long times offsets even)))
