-- Lookups in an offset index, by its columns.
use Rattle.std.proofs.Common.{◌≡◌, ◌∙◌, sym, ap, refl, ℕ, ◌+◌, ◌-◌, ◌^◌, ◌<◌, ◌≤◌, List, Some, None, true, false, length, get_or, take, ◌%◌, arith, subst, Result, Ok, Err, ◌++◌, ◌∷◌, [], OnOk, OnErr}
use Rattle.std.specs.Prelude.{◌≢◌, Bool, drop, count_by, nat_le, nat_lt}
use Rattle.std.specs.List.{zip}
use Rattle.std.specs.Option.{ForSome}
use Rattle.std.proofs.lemmas.List.{length_push, take_more, take_all, length-take-le, take-append-drop}
use Rattle.std.proofs.lemmas.Nat.{from_be_bytes-to_be_bytes_4}
use Rattle.std.specs.Int.{w32, to_be_bytes, from_be_bytes}
use Rattle.sparse_index.specs.Bytes.{bytes_of, IsNoIndex}
use Rattle.sparse_index.proofs.BytesLaws.{pieces-same, bytes-push, bytes-length, falls-unread, chain-front}
use Rattle.std.specs.List.Sorted.{IsPartitionedBy}
use Rattle.std.proofs.lemmas.Bool.{leb-true, le-leb, lt-leb, ltb-true, lt-ltb, and_parts, and_from}
use Rattle.std.proofs.lemmas.Option.{slice_get-get_or, same_Some}
use Rattle.std.specs.declared.option.Option.{Option}
use Rattle.std.proofs.lemmas.Bool.Decides.{nat_tests}
use Rattle.std.proofs.lemmas.List.Sums.{count_by-le-length}
use Rattle.std.proofs.lemmas.Slice.Zip.{length-zip, get_or-zip}
use Rattle.sparse_index.specs.Entries.{last_of}
use Rattle.sparse_index.specs.Offsets.{OffsetTable, with_entry, FitsEntry, Rises, AreOffsets, is_up_to, may_follow, entry_bytes, place_of, find, cut_to}
use Rattle.sparse_index.specs.Columns.{AreColumns, table}
use Rattle.sparse_index.proofs.Parted.{count-all, count-none, count-agree, filter-take}
use Rattle.sparse_index.proofs.Chains.{count-firsts, parted-firsts, chain-fits, chain-parted, chain-push, chain-last, last-index, zip-push, last-counted, last-none, count-seconds, parted-seconds, zip-take}

-- as many entries as offsets
pub long : (offsets positions : List ℕ) → length offsets ≡ length positions → length (zip offsets positions) ≡ length offsets
long offsets positions even = omega (arith, length-zip offsets positions, even)

-- what is up to an offset comes first
pub up-to-parted : (base offset : ℕ) (entries : List (ℕ × ℕ)) → AreOffsets entries → IsPartitionedBy (is_up_to base offset) entries
up-to-parted base offset entries h = chain-parted FitsEntry Rises (is_up_to base offset) (λ x y r t. (let le = leb-true _ _ t in le-leb _ _ (omega (arith, le, r.0)))) entries h

-- so it does in the column
pub column-parted : (top : ℕ) (offsets positions : List ℕ) → length offsets ≡ length positions → AreOffsets (zip offsets positions) → IsPartitionedBy (λ item. nat_le item top) offsets
column-parted top offsets positions even h =
    parted-firsts (λ item. nat_le item top) offsets positions 0 even
    (chain-parted FitsEntry Rises (λ e. nat_le e.0 top) (λ x y r t. (let le = leb-true _ _ t in le-leb _ _ (omega (arith, le, r.0)))) (zip offsets positions) h)

-- none is below the base
pub none-below : (base offset : ℕ) (entries : List (ℕ × ℕ)) → offset < base → count_by (is_up_to base offset) entries ≡ 0
none-below base offset entries l = count-none (is_up_to base offset) entries (λ k d within. lt-leb _ _ (omega (arith, l)))

-- all are below what is too far for a relative offset
pub all-far : (base offset : ℕ) (offsets positions : List ℕ) → AreColumns base offsets positions → base ≤ offset → 2 ^ 31 - 1 < offset - base → count_by (is_up_to base offset) (zip offsets positions) ≡ length offsets
all-far base offset offsets positions h low far =
    count-all (is_up_to base offset) (zip offsets positions) (λ k d within. (let fits = chain-fits FitsEntry Rises (zip offsets positions) h.entries k d within in le-leb _ _ (omega (arith, fits.0, low, far))))
    ∙ long offsets positions h.even

-- the column is counted by relative offsets
pub column-counted : (base offset : ℕ) (offsets positions : List ℕ) → length offsets ≡ length positions → base ≤ offset → count_by (λ item. nat_le item (offset - base)) offsets ≡ count_by (is_up_to base offset) (zip offsets positions)
column-counted base offset offsets positions even low =
    sym (count-firsts (λ item. nat_le item (offset - base)) offsets positions even)
    ∙ count-agree (λ e. nat_le e.0 (offset - base)) (is_up_to base offset) (λ e. grind (arith, nat_tests)) (zip offsets positions)

-- no entry is found
pub found-none : (base offset : ℕ) (offsets positions : List ℕ) → AreColumns base offsets positions → count_by (is_up_to base offset) (zip offsets positions) ≡ 0 → find (table base offsets positions) offset ≡ (base, 0)
found-none base offset offsets positions h none = ap (place_of base) (last-none (is_up_to base offset) (zip offsets positions) (up-to-parted base offset (zip offsets positions) h.entries) none)

-- an entry is found
pub found-at : (base offset k : ℕ) (offsets positions : List ℕ) → AreColumns base offsets positions → k + 1 ≡ count_by (is_up_to base offset) (zip offsets positions)
    → find (table base offsets positions) offset ≡ (base + get_or offsets k 0, get_or positions k 0)
found-at base offset k offsets positions h count =
    let within = count_by-le-length (is_up_to base offset) (zip offsets positions) in
    let inside : k < length offsets = omega (arith, within, count, long offsets positions h.even) in
    ap (place_of base) (last-counted (is_up_to base offset) (zip offsets positions) k (0, 0) (up-to-parted base offset (zip offsets positions) h.entries) count
    ∙ ap (λ e. Some e) (get_or-zip offsets positions k (0, 0) inside (omega (arith, inside, h.even))))

-- whether an entry was added or not, the columns are an index
pub columns-pushed : {A E : Type 0} (r : Result A E) (base : ℕ) (offsets positions more-offsets more-positions : List ℕ) (offset position : ℕ) → AreColumns base offsets positions → AreOffsets (zip offsets positions ++ (offset, position) ∷ [])
    → OnOk r (more-offsets ≡ offsets ++ offset ∷ []) → OnOk r (more-positions ≡ positions ++ position ∷ []) → OnErr r (more-offsets ≡ offsets) → OnErr r (more-positions ≡ positions) → AreColumns base more-offsets more-positions
columns-pushed (Ok x) base offsets positions more-offsets more-positions offset position h more first second kept kept' =
    rw (first, second) (record {
      base_fits = h.base_fits;
      even = length_push offsets offset ∙ (ap (λ n. n + 1) h.even ∙ sym (length_push positions position));
      entries = rw (zip-push offsets positions offset position h.even) more;
    })
columns-pushed (Err x) base offsets positions more-offsets more-positions offset position h more first second kept kept' = rw (kept, kept') h

-- an index of these entries
abbrev from_entries : ℕ → List (ℕ × ℕ) → OffsetTable
from_entries base entries = record { base = base; entries = entries }

-- what the index gains
pub table-pushed : {A E : Type 0} (r : Result A E) (base : ℕ) (offsets positions more-offsets more-positions : List ℕ) (offset position : ℕ) → length offsets ≡ length positions → OnOk r (more-offsets ≡ offsets ++ offset ∷ []) → OnOk r (more-positions ≡ positions ++ position ∷ [])
    → OnOk r (table base more-offsets more-positions ≡ with_entry (table base offsets positions) (offset, position))
table-pushed (Ok x) base offsets positions more-offsets more-positions offset position even first second = rw (first, second) (ap (from_entries base) (zip-push offsets positions offset position even))
table-pushed (Err x) base offsets positions more-offsets more-positions offset position even first second = tt

-- an entry above the last one follows
pub offsets-push : (entries : List (ℕ × ℕ)) (entry : ℕ × ℕ) → AreOffsets entries → FitsEntry entry → ForSome (last_of entries) (λ last. Rises last entry) → AreOffsets (entries ++ entry ∷ [])
offsets-push entries entry h fits above = chain-push FitsEntry Rises entries entry h fits above

-- the last of columns
pub last-columns : (offsets positions : List ℕ) (k : ℕ) → length offsets ≡ length positions → k + 1 ≡ length offsets → last_of (zip offsets positions) ≡ Some (get_or offsets k 0, get_or positions k 0)
last-columns offsets positions k even h =
    let inside : k < length offsets = omega (arith, h) in
    last-index (zip offsets positions) k (h ∙ sym (long offsets positions even))
    ∙ (slice_get-get_or (zip offsets positions) k (0, 0) (omega (arith, inside, long offsets positions even)) ∙ ap (λ e. Some e) (get_or-zip offsets positions k (0, 0) inside (omega (arith, inside, even))))

pub last-empty : (offsets positions : List ℕ) → length offsets ≡ 0 → last_of (zip offsets positions) ≡ None
last-empty [] positions h = refl
last-empty (x ∷ offsets) positions h = absurd (omega (arith, h))

test-parts : (last : Option (ℕ × ℕ)) (entry : ℕ × ℕ) → may_follow last entry ≡ true → FitsEntry entry × ForSome last (λ l. Rises l entry)
test-parts None entry t = let both = and_parts _ _ t in ((ltb-true _ _ both.0, ltb-true _ _ both.1), λ l e. absurd (cc))
test-parts (Some last) entry t =
    let a = and_parts _ _ t in
    let b = and_parts _ _ a.0 in
    let c = and_parts _ _ b.0 in
    ((ltb-true _ _ c.0, ltb-true _ _ c.1), λ l e. (let same : last ≡ l = same_Some last l e in subst (λ m. Rises m entry) same (ltb-true _ _ b.1, ltb-true _ _ a.1)))

test-from : (last : Option (ℕ × ℕ)) (entry : ℕ × ℕ) → FitsEntry entry → ForSome last (λ l. Rises l entry) → may_follow last entry ≡ true
test-from None entry fits above = and_from _ _ (lt-ltb _ _ fits.0) (lt-ltb _ _ fits.1)
test-from (Some last) entry fits above = let rises = above last refl in and_from _ _ (and_from _ _ (and_from _ _ (lt-ltb _ _ fits.0) (lt-ltb _ _ fits.1)) (lt-ltb _ _ rises.0)) (lt-ltb _ _ rises.1)

-- the test says whether the entries stay an index
pub follows : (entries : List (ℕ × ℕ)) (entry : ℕ × ℕ) → AreOffsets entries → may_follow (last_of entries) entry ≡ true → AreOffsets (entries ++ entry ∷ [])
follows entries entry h t = let parts = test-parts (last_of entries) entry t in chain-push FitsEntry Rises entries entry h parts.0 parts.1

pub falls : (entries : List (ℕ × ℕ)) (entry : ℕ × ℕ) → may_follow (last_of entries) entry ≡ false → AreOffsets (entries ++ entry ∷ []) → ⊥
falls entries entry t h = let parts = chain-last FitsEntry Rises entries entry h in let yes = test-from (last_of entries) entry parts.0 parts.1 in cc

-- an entry's bytes are eight, and report it
pub entry-long : (entry : ℕ × ℕ) → length (entry_bytes entry) ≡ 8
entry-long entry = refl

-- numbers of 32 bits
abbrev pub IsWide : ℕ × ℕ → Type 0
IsWide entry = (entry.0 < 2 ^ 32) × (entry.1 < 2 ^ 32)

number-same : (m n : ℕ) → m < 2 ^ 32 → n < 2 ^ 32 → to_be_bytes w32 m ≡ to_be_bytes w32 n → m ≡ n
number-same m n h h' e = sym (from_be_bytes-to_be_bytes_4 m h) ∙ (ap (from_be_bytes w32) e ∙ from_be_bytes-to_be_bytes_4 n h')

pub entry-same : (x y : ℕ × ℕ) → IsWide x → IsWide y → entry_bytes x ≡ entry_bytes y → x ≡ y
entry-same x y h h' e =
    let pieces = pieces-same (to_be_bytes w32 x.0) (to_be_bytes w32 y.0) (to_be_bytes w32 x.1) (to_be_bytes w32 y.1) refl e in
    let first = number-same x.0 y.0 h.0 h'.0 pieces.0 in
    let second = number-same x.1 y.1 h.1 h'.1 pieces.1 in
    ap (λ n. (n, x.1)) first ∙ ap (λ n. (y.0, n)) second

-- no index has bytes of another length
pub whole-entries : (bytes : List ℕ) (entries : List (ℕ × ℕ)) → bytes ≡ bytes_of entry_bytes entries → length bytes % 8 ≡ 0
whole-entries bytes entries e = let size = ap length e ∙ bytes-length entry_bytes 8 (omega arith) entry-long entries in omega (arith, size)

-- no index has bytes that begin with an entry that falls
pub offsets-unread : (bytes more : List ℕ) (before : List (ℕ × ℕ)) (entry : ℕ × ℕ) → IsWide entry → AreOffsets before → (AreOffsets (before ++ entry ∷ []) → ⊥) → bytes ≡ bytes_of entry_bytes before ++ (entry_bytes entry ++ more) → IsNoIndex AreOffsets entry_bytes bytes
offsets-unread bytes more before entry wide stands fall parts =
    falls-unread entry_bytes 8 (omega arith) entry-long IsWide entry-same FitsEntry Rises (λ x fits. (omega (arith, fits.0), omega (arith, fits.1))) bytes more before entry wide stands fall parts

-- one entry more of columns
pub bytes-more : (offsets positions : List ℕ) (i : ℕ) → length offsets ≡ length positions → i < length offsets → bytes_of entry_bytes (take (i + 1) (zip offsets positions)) ≡ bytes_of entry_bytes (take i (zip offsets positions)) ++ entry_bytes (get_or offsets i 0, get_or positions i 0)
bytes-more offsets positions i even l =
    ap (bytes_of entry_bytes) (take_more (zip offsets positions) i (0, 0) (omega (arith, l, long offsets positions even)))
    ∙ (bytes-push entry_bytes (take i (zip offsets positions)) (get_or (zip offsets positions) i (0, 0))
    ∙ ap (λ e. bytes_of entry_bytes (take i (zip offsets positions)) ++ entry_bytes e) (get_or-zip offsets positions i (0, 0) l (omega (arith, l, even))))

pub bytes-all : (offsets positions : List ℕ) (i : ℕ) → length offsets ≡ length positions → length offsets ≤ i → bytes_of entry_bytes (take i (zip offsets positions)) ≡ bytes_of entry_bytes (zip offsets positions)
bytes-all offsets positions i even l = ap (bytes_of entry_bytes) (take_all i (zip offsets positions) (omega (arith, l, long offsets positions even)))

-- what begins before a position comes first
before-parted : (position : ℕ) (entries : List (ℕ × ℕ)) → AreOffsets entries → IsPartitionedBy (λ e. nat_lt e.1 position) entries
before-parted position entries h = chain-parted FitsEntry Rises (λ e. nat_lt e.1 position) (λ x y r t. (let l = ltb-true _ _ t in lt-ltb _ _ (omega (arith, l, r.1)))) entries h

-- so it does in the column
pub positions-parted : (position : ℕ) (offsets positions : List ℕ) → length offsets ≡ length positions → AreOffsets (zip offsets positions) → IsPartitionedBy (λ item. nat_lt item position) positions
positions-parted position offsets positions even h = parted-seconds (λ item. nat_lt item position) offsets positions 0 even (before-parted position (zip offsets positions) h)

-- below a position is at or below the one before it
pub up-to-agrees : (position : ℕ) → position ≢ 0 → (item : ℕ) → nat_le item (position - 1) ≡ nat_lt item position
up-to-agrees position some item = grind (arith, nat_tests, some)

pub parted-agrees : (p q : ℕ → Bool) → ((x : ℕ) → p x ≡ q x) → (xs : List ℕ) → IsPartitionedBy q xs → IsPartitionedBy p xs
parted-agrees p q same xs h i j d up within t = same (get_or xs i d) ∙ h i j d up within (sym (same (get_or xs j d)) ∙ t)

pub none-before : (xs : List ℕ) → count_by (λ item. nat_lt item 0) xs ≡ 0
none-before xs = count-none (λ item. nat_lt item 0) xs (λ k d l. none (get_or xs k d))
  where
    none : (n : ℕ) → nat_lt n 0 ≡ false
    none n = grind (arith, nat_tests)

-- the front of an index is an index
pub columns-cut : (base k : ℕ) (offsets positions : List ℕ) → k ≤ length positions → AreColumns base offsets positions → AreColumns base (take k offsets) (take k positions)
columns-cut base k offsets positions within h =
    let few : k ≤ length offsets = omega (arith, within, h.even) in
    let entries = zip offsets positions in
    let front : AreOffsets (take k entries) = chain-front FitsEntry Rises (take k entries) (drop k entries) (subst AreOffsets (sym (take-append-drop k entries)) h.entries) in record {
      base_fits = h.base_fits;
      even = length-take-le k offsets few ∙ sym (length-take-le k positions within);
      entries = subst AreOffsets (sym (zip-take k offsets positions)) front;
    }

-- what it keeps
pub table-cut : (base k position : ℕ) (offsets positions : List ℕ) → k ≡ count_by (λ item. nat_lt item position) positions → AreColumns base offsets positions
    → table base (take k offsets) (take k positions) ≡ cut_to (table base offsets positions) position
table-cut base k position offsets positions count h =
    let entries = zip offsets positions in
    let many : k ≡ count_by (λ e. nat_lt e.1 position) entries = count ∙ sym (count-seconds (λ item. nat_lt item position) offsets positions h.even) in
    ap (from_entries base) (zip-take k offsets positions ∙ (ap (λ n. take n entries) many ∙ sym (filter-take (λ e. nat_lt e.1 position) entries (before-parted position entries h.entries))))
