-- Where a search begins, and what a cut leaves of the index.
use Rattle.std.proofs.Common.{◌≡◌, ◌∙◌, ap, sym, refl, subst, ℕ, ◌+◌, ◌-◌, ◌<◌, ◌≤◌, nat_lt, Bool, true, false, List, [], ◌∷◌, ◌++◌, filter, Some, None, arith, append_assoc, append-nil, le-ltb, inl, inr}
use Rattle.std.specs.Prelude.{◌⊎◌}
use Rattle.std.specs.declared.option.Option.{Option}
use Rattle.std.specs.List.{AllByRecursion}
use Rattle.std.proofs.lemmas.Bool.{lt-ltb, leb-true}
use Rattle.std.proofs.lemmas.Option.{same_Some}
use Rattle.sparse_index.specs.Entries.{last_of}
use Rattle.sparse_index.specs.Offsets.{OffsetTable, is_up_to, floor_of, place_of, find, cut_to}
use Rattle.segment_file.specs.declared.placed.Placed.{Placed}
use Rattle.segment_file.specs.Index.{Marks, is_due, with_offset, unmarked, marked, marked_by, index_of}
use Rattle.segment_file.specs.Growing.{end_after, size_after, ending_by, AreBatchesLaid, BeginsSearch}
use Rattle.segment_file.proofs.Laying.{end_up, size_up, laid_parts, end_append, size_append, marked_append, marked_size}

-- an entry is a batch's
pub record IsPlaced (base : ℕ) (batches : List Placed) (entry : ℕ × ℕ) : Type 0 where
  pub front : List Placed
  pub one : Placed
  pub rest : List Placed
  pub parts : batches ≡ front ++ one ∷ rest
  pub offset : entry.0 ≡ one.last - base
  pub position : entry.1 ≡ size_after 0 front

all_push : {X : Type 0} (P : X → Type 0) (xs : List X) (x : X) → AllByRecursion P xs → P x → AllByRecursion P (xs ++ x ∷ [])
all_push P [] x all one = (one, tt)
all_push P (y ∷ xs) x all one = (all.0, all_push P xs x all.1 one)

all_offsets : (P : ℕ × ℕ → Type 0) (base interval : ℕ) (entries : List (ℕ × ℕ)) (size last : ℕ) (t : Bool) → is_due interval entries size ≡ t → AllByRecursion P entries → P (last - base, size)
    → AllByRecursion P (with_offset base interval entries size last)
all_offsets P base interval entries size last true is all one = rw is (all_push P entries (last - base, size) all one)
all_offsets P base interval entries size last false is all one = rw is all

all_placed : (base interval : ℕ) (whole front rest : List Placed) (marks : Marks) → whole ≡ front ++ rest → marks.size ≡ size_after 0 front → AllByRecursion (IsPlaced base whole) marks.entries
    → AllByRecursion (IsPlaced base whole) (marked_by base interval marks rest).entries
all_placed base interval whole front [] marks parts size all = all
all_placed base interval whole front (one ∷ rest) marks parts size all =
    let this : IsPlaced base whole (one.last - base, marks.size) = record { front = front; one = one; rest = rest; parts = parts; offset = refl; position = size } in
    all_placed base interval whole (front ++ one ∷ []) rest (marked base interval marks one)
    (parts ∙ sym (append_assoc front (one ∷ []) rest))
    (sym (size_append 0 front (one ∷ [])))
    (all_offsets (IsPlaced base whole) base interval marks.entries marks.size one.last (is_due interval marks.entries marks.size) refl all this)

last_cons : {X : Type 0} (x : X) (ys : List X) (e : X) → last_of (x ∷ ys) ≡ Some e → (x ≡ e) ⊎ (last_of ys ≡ Some e)
last_cons x [] e is = inl (same_Some x e is)
last_cons x (y ∷ ys) e is = inr is

-- the last entry that passes a test is an entry, and passes it
last_passes : {X : Type 0} (P : X → Type 0) (p : X → Bool) (xs : List X) (e : X) → AllByRecursion P xs → last_of (filter p xs) ≡ Some e → P e × (p e ≡ true)
last_passes P p [] e all is = absurd (cc)
last_passes P p (x ∷ xs) e all is = go (p x) refl (λ more. last_passes P p xs e all.1 more)
  where
    there : p x ≡ true → (last_of (filter p xs) ≡ Some e → P e × (p e ≡ true)) → (x ≡ e) ⊎ (last_of (filter p xs) ≡ Some e) → P e × (p e ≡ true)
    there t others (inl same) = (subst P same all.0, ap p (sym same) ∙ t)
    there t others (inr more) = others more

    go : (t : Bool) → p x ≡ t → (last_of (filter p xs) ≡ Some e → P e × (p e ≡ true)) → P e × (p e ≡ true)
    go true t others = there t others (last_cons x (filter p xs) e (rw t at is))
    go false t others = others (rw t at is)

-- a search misses no batch from the offset on
search_from : (base interval offset : ℕ) (batches : List Placed) (floor : Option (ℕ × ℕ)) → AreBatchesLaid base 0 batches → floor_of (index_of base interval batches) offset ≡ floor
    → BeginsSearch base batches offset (place_of base floor).1
search_from base interval offset batches None laid is = record { front = []; rest = batches; parts = refl; place = refl; before = λ up. up }
search_from base interval offset batches (Some entry) laid is =
    let found = last_passes (IsPlaced base batches) (is_up_to base offset) (index_of base interval batches).entries entry
    (all_placed base interval batches [] batches (unmarked base) refl refl tt) is in
    let placed = found.0 in
    let at : base + entry.0 ≤ offset = leb-true _ _ found.1 in
    let both = laid_parts base 0 placed.front (placed.one ∷ placed.rest) (subst (AreBatchesLaid base 0) placed.parts laid) in
    let up : base ≤ end_after base placed.front = end_up base 0 placed.front both.0 in
    let next : end_after base placed.front ≤ placed.one.last = both.1.0 in
    let offset : entry.0 ≡ placed.one.last - base = placed.offset in record {
      front = placed.front;
      rest = placed.one ∷ placed.rest;
      parts = placed.parts;
      place = sym placed.position;
      before = λ from. omega (arith, at, up, next, offset);
    }

pub search_begins : (base interval offset : ℕ) (batches : List Placed) → AreBatchesLaid base 0 batches → BeginsSearch base batches offset (find (index_of base interval batches) offset).1
search_begins base interval offset batches laid = search_from base interval offset batches (floor_of (index_of base interval batches) offset) laid refl

-- entries of batches that come later are later
pub record Later (entries more : List (ℕ × ℕ)) (size : ℕ) : Type 0 where
  pub added : List (ℕ × ℕ)
  pub parts : more ≡ entries ++ added
  pub late : AllByRecursion (λ entry. size ≤ entry.1) added

later_by : (base interval size : ℕ) (entries more : List (ℕ × ℕ)) (at last : ℕ) (t : Bool) → is_due interval entries at ≡ t → size ≤ at → Later (with_offset base interval entries at last) more size → Later entries more size
later_by base interval size entries more at last true is up later = record {
  added = (last - base, at) ∷ later.added;
  parts = later.parts ∙ rw is (append_assoc entries ((last - base, at) ∷ []) later.added);
  late = (up, later.late);
}
later_by base interval size entries more at last false is up later = record {
  added = later.added;
  parts = later.parts ∙ rw is refl;
  late = later.late;
}

later : (base interval size first : ℕ) (marks : Marks) (rest : List Placed) → size ≤ marks.size → AreBatchesLaid first marks.size rest → Later marks.entries (marked_by base interval marks rest).entries size
later base interval size first marks [] up laid = record { added = []; parts = sym (append-nil marks.entries); late = tt }
later base interval size first marks (one ∷ rest) up laid =
    later_by base interval size marks.entries (marked_by base interval marks (one ∷ rest)).entries marks.size one.last (is_due interval marks.entries marks.size) refl up
    (later base interval size (one.last + 1) (marked base interval marks one) rest (omega (arith, up, laid.1)) laid.2)

-- entries of batches that come earlier are earlier
weaker : (m n : ℕ) (entries : List (ℕ × ℕ)) → m ≤ n → AllByRecursion (λ entry. entry.1 < m) entries → AllByRecursion (λ entry. entry.1 < n) entries
weaker m n [] up all = tt
weaker m n (entry ∷ entries) up all = (omega (arith, up, all.0), weaker m n entries up all.1)

earlier : (base interval first : ℕ) (marks : Marks) (batches : List Placed) → AreBatchesLaid first marks.size batches → AllByRecursion (λ entry. entry.1 < marks.size) marks.entries
    → AllByRecursion (λ entry. entry.1 < size_after marks.size batches) (marked_by base interval marks batches).entries
earlier base interval first marks [] laid all = all
earlier base interval first marks (one ∷ batches) laid all =
    earlier base interval (one.last + 1) (marked base interval marks one) batches laid.2
    (all_offsets (λ entry. entry.1 < one.to) base interval marks.entries marks.size one.last (is_due interval marks.entries marks.size) refl
    (weaker marks.size one.to marks.entries (omega (arith, laid.1)) all) laid.1)

filter_none : (n : ℕ) (ys : List (ℕ × ℕ)) → AllByRecursion (λ entry. n ≤ entry.1) ys → filter (λ entry. nat_lt entry.1 n) ys ≡ []
filter_none n [] all = refl
filter_none n (y ∷ ys) all = rw (le-ltb y.1 n all.0) (filter_none n ys all.1)

filter_front : (n : ℕ) (xs ys : List (ℕ × ℕ)) → AllByRecursion (λ entry. entry.1 < n) xs → AllByRecursion (λ entry. n ≤ entry.1) ys → filter (λ entry. nat_lt entry.1 n) (xs ++ ys) ≡ xs
filter_front n [] ys low high = filter_none n ys high
filter_front n (x ∷ xs) ys low high = rw (lt-ltb x.1 n low.0) (ap (λ zs. x ∷ zs) (filter_front n xs ys low.1 high))

-- those that end by an offset come first
pub ending_front : (end : ℕ) (batches : List Placed) → (rest : List Placed) × (batches ≡ ending_by end batches ++ rest)
ending_front end [] = ([], refl)
ending_front end (one ∷ batches) = go (nat_lt one.last end) refl (ending_front end batches)
  where
    go : (t : Bool) → nat_lt one.last end ≡ t → (rest : List Placed) × (batches ≡ ending_by end batches ++ rest) → (rest : List Placed) × (one ∷ batches ≡ ending_by end (one ∷ batches) ++ rest)
    go true t more = (more.0, rw t (ap (λ bs. one ∷ bs) more.1))
    go false t more = (one ∷ batches, rw t refl)

-- the index of a front
index_front : (base interval : ℕ) (front rest : List Placed) → AreBatchesLaid base 0 (front ++ rest) → cut_to (index_of base interval (front ++ rest)) (size_after 0 front) ≡ index_of base interval front
index_front base interval front rest laid =
    let both = laid_parts base 0 front rest laid in
    let marks = marked_by base interval (unmarked base) front in
    let size = marked_size base interval (unmarked base) front in
    let laid-rest : AreBatchesLaid (end_after base front) marks.size rest = subst (λ n. AreBatchesLaid (end_after base front) n rest) (sym size) both.1 in
    let more = later base interval (size_after 0 front) (end_after base front) marks rest (omega (arith, size)) laid-rest in
    let low = earlier base interval base (unmarked base) front both.0 tt in
    ap (λ (m : Marks). cut_to (table_in base m.entries) (size_after 0 front)) (marked_append base interval (unmarked base) front rest)
    ∙ ap (table_in base) (ap (filter (λ entry. nat_lt entry.1 (size_after 0 front))) more.parts ∙ filter_front (size_after 0 front) marks.entries more.added low more.late)
  where
    table_in : ℕ → List (ℕ × ℕ) → OffsetTable
    table_in base entries = record { base = base; entries = entries }

pub index_cut : (base interval end : ℕ) (batches : List Placed) → AreBatchesLaid base 0 batches
    → cut_to (index_of base interval batches) (size_after 0 (ending_by end batches)) ≡ index_of base interval (ending_by end batches)
index_cut base interval end batches laid =
    let more = ending_front end batches in
    ap (λ bs. cut_to (index_of base interval bs) (size_after 0 (ending_by end batches))) more.1
    ∙ index_front base interval (ending_by end batches) more.0 (subst (AreBatchesLaid base 0) more.1 laid)

-- what a front keeps of the whole
pub record KeptFront (base : ℕ) (front whole : List Placed) : Type 0 where
  pub laid : AreBatchesLaid base 0 front
  pub end : end_after base front ≤ end_after base whole
  pub size : size_after 0 front ≤ size_after 0 whole

pub ending_kept : (base end : ℕ) (batches : List Placed) → AreBatchesLaid base 0 batches → KeptFront base (ending_by end batches) batches
ending_kept base end batches laid =
    let front = ending_by end batches in
    let more = ending_front end batches in
    let both = laid_parts base 0 front more.0 (subst (AreBatchesLaid base 0) more.1 laid) in
    let end-is : end_after base batches ≡ end_after (end_after base front) more.0 = ap (end_after base) more.1 ∙ end_append base front more.0 in
    let size-is : size_after 0 batches ≡ size_after (size_after 0 front) more.0 = ap (size_after 0) more.1 ∙ size_append 0 front more.0 in
    let end-up = end_up (end_after base front) (size_after 0 front) more.0 both.1 in
    let size-up = size_up (end_after base front) (size_after 0 front) more.0 both.1 in
    record { laid = both.0; end = omega (arith, end-is, end-up); size = omega (arith, size-is, size-up) }
