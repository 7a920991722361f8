-- Where an epoch lies in a line, and that this is where the line gives it.
use Rattle.std.proofs.Common.{zero, suc, ◌≡◌, ◌≢◌, ◌∙◌, refl, sym, ap, ℕ, ◌+◌, ◌<◌, ◌≤◌, Bool, true, false, cond, List, [], ◌∷◌, Option, Some, None, length, get_or, drop, arith, add-one, inl, inr}
use Rattle.std.specs.Prelude.{nat_le, nat_lt, ◌&&◌, ◌==◌, IfSome}
use Rattle.std.specs.List.{AllByRecursion}
use Rattle.std.specs.List.Sorted.{IsNonDecreasingBy, IsPartitionPoint}
use Rattle.std.specs.Ordering.{nat_cmp, ordering_index}
use Rattle.std.specs.declared.cmp.Ordering.TheVariants.{Less, Equal, Greater}
use Rattle.std.proofs.lemmas.Bool.{eq-eqb, ne_eqb, cases_lt, cases_eq, lt-ltb, le-ltb, le-leb, lt-leb}
use Rattle.std.proofs.lemmas.Cmp.{ranked}
use Rattle.log_terms.specs.Line.{epoch_at}
use Rattle.epoch_line.specs.Line.{IsLine, start_or}
use Rattle.epoch_line.proofs.Rising.{epochs-rise}
use Rattle.epoch_line.proofs.Ending.{comparisons-rise}
use Rattle.segment_meta.specs.Rules.{IsMap}
use Rattle.remote_view.specs.declared.spans.Span.{Span}
use Rattle.remote_view.specs.Lookup.{is_epoch}
use Rattle.remote_view.specs.Stairs.{span_of, is_within}

-- an offset is in a range that there may be
abbrev pub in_span : Option Span → ℕ → Bool
in_span None o = false
in_span (Some span) o = is_within span.from span.to o

pub within_true : (from to o : ℕ) → from ≤ o → o < to → is_within from to o ≡ true
within_true from to o low high = rw (le-leb from o low) (lt-ltb o to high)

pub within_below : (from to o : ℕ) → o < from → is_within from to o ≡ false
within_below from to o low = rw (lt-leb from o low) refl

pub within_past : (from to o : ℕ) → to ≤ o → is_within from to o ≡ false
within_past from to o high = by (nat_le from o)
  where
    by : (t : Bool) → (t && nat_lt o to) ≡ false
    by true = le-ltb o to high
    by false = refl

-- what a test of a range says
pub within_says : (from to o : ℕ) → is_within from to o ≡ true → (from ≤ o) × (o < to)
within_says from to o h = elim (cases_lt o from) [
  | inl low ↦ absurd (let out = within_below from to o low in cc)
  | inr above ↦ elim (cases_lt o to) [ inl high ↦ (above, high) | inr past ↦ absurd (let out = within_past from to o past in cc) ]
]

rest-line : (entry : ℕ × ℕ) (line : List (ℕ × ℕ)) → IsLine (entry ∷ line) → IsLine line
rest-line entry line h = h.3

-- an epoch below the first one lies nowhere
span_below : (entry : ℕ × ℕ) (line : List (ℕ × ℕ)) (epoch end : ℕ) → IsLine (entry ∷ line) → epoch < entry.0 → span_of (entry ∷ line) epoch end ≡ None
span_below entry [] epoch end h low = rw (ne_eqb entry.0 epoch (λ e. omega (arith, e, low))) refl
span_below entry (next ∷ line) epoch end h low =
    rw (ne_eqb entry.0 epoch (λ e. omega (arith, e, low))) (span_below next line epoch end h.3 (omega (arith, low, h.2.0)))

-- no epoch lies below the first start
span_under : (entry : ℕ × ℕ) (line : List (ℕ × ℕ)) (epoch end o : ℕ) → IsLine (entry ∷ line) → o < entry.1 → in_span (span_of (entry ∷ line) epoch end) o ≡ false
span_under entry [] epoch end o h low = elim (cases_eq entry.0 epoch) [
  | inl same ↦ rw (eq-eqb entry.0 epoch same) (within_below entry.1 end o low)
  | inr other ↦ rw (ne_eqb entry.0 epoch other) refl
]
span_under entry (next ∷ line) epoch end o h low =
    let more = span_under next line epoch end o h.3 (omega (arith, low, h.2.1)) in
    elim (cases_eq entry.0 epoch) [
      | inl same ↦ rw (eq-eqb entry.0 epoch same) (within_below entry.1 next.1 o low)
      | inr other ↦ rw (ne_eqb entry.0 epoch other) more
    ]

one : (e s epoch end o : ℕ) → o < end → is_epoch epoch (cond (nat_le s o) (Some e) None) ≡ in_span (cond (e == epoch) (Some (record { from = s; to = end })) None) o
one e s epoch end o below = elim (cases_lt o s) [
  | inl low ↦ elim (cases_eq e epoch) [
    | inl same ↦ rw (eq-eqb e epoch same, lt-leb s o low) refl
    | inr other ↦ rw (ne_eqb e epoch other, lt-leb s o low) refl
  ]
  | inr high ↦ elim (cases_eq e epoch) [
    | inl same ↦ rw (le-leb s o high, eq-eqb e epoch same, le-leb s o high, lt-ltb o end below) refl
    | inr other ↦ rw (le-leb s o high, ne_eqb e epoch other) refl
  ]
]

more : (e s a epoch o : ℕ) (rest : Option ℕ) (span : Option Span) → s < a → (o < a → in_span span o ≡ false) → (e ≡ epoch → in_span span o ≡ false)
    → (a ≤ o → is_epoch epoch rest ≡ in_span span o)
    → is_epoch epoch (cond (nat_lt o s) None (cond (nat_lt o a) (Some e) rest)) ≡ in_span (cond (e == epoch) (Some (record { from = s; to = a })) span) o
more e s a epoch o rest span up under same past = elim (cases_lt o s) [
  | inl low ↦ elim (cases_eq e epoch) [
    | inl is ↦ rw (lt-ltb o s low, eq-eqb e epoch is) (sym (within_below s a o low))
    | inr other ↦ rw (lt-ltb o s low, ne_eqb e epoch other) (sym (under (omega arith)))
  ]
  | inr high ↦ elim (cases_lt o a) [
    | inl mid ↦ elim (cases_eq e epoch) [
      | inl is ↦ rw (le-ltb o s high, lt-ltb o a mid, eq-eqb e epoch is, le-leb s o high, lt-ltb o a mid) refl
      | inr other ↦ rw (le-ltb o s high, lt-ltb o a mid, ne_eqb e epoch other) (sym (under mid))
    ]
    | inr far ↦ elim (cases_eq e epoch) [
      | inl is ↦ rw (le-ltb o s high, le-ltb o a far, eq-eqb e epoch is, le-leb s o high, le-ltb o a far) (past far ∙ same is)
      | inr other ↦ rw (le-ltb o s high, le-ltb o a far, ne_eqb e epoch other) (past far)
    ]
  ]
]

-- the line gives an epoch exactly where it lies
pub lies : (line : List (ℕ × ℕ)) (epoch end o : ℕ) → IsLine line → o < end → is_epoch epoch (epoch_at line o) ≡ in_span (span_of line epoch end) o
lies [] epoch end o h below = refl
lies (entry ∷ []) epoch end o h below = one entry.0 entry.1 epoch end o below
lies (entry ∷ next ∷ line) epoch end o h below =
    let rest = lies (next ∷ line) epoch end o h.3 below in
    more entry.0 entry.1 next.1 epoch o (epoch_at (next ∷ line) o) (span_of (next ∷ line) epoch end) h.2.1
    (λ low. span_under next line epoch end o h.3 low)
    (λ same. ap (λ span. in_span span o) (span_below next line epoch end h.3 (omega (arith, same, h.2.0))))
    (λ high. rest)

-- where a span that was found lies
pub record IsSpanIn (first end : ℕ) (span : Span) : Type 0 where
  pub from : first ≤ span.from
  pub some : span.from < span.to
  pub to : span.to ≤ end + 1

pub span_bounds : (entry : ℕ × ℕ) (line : List (ℕ × ℕ)) (epoch end : ℕ) → IsLine (entry ∷ line) → AllByRecursion (λ pair. pair.1 ≤ end) (entry ∷ line) → IfSome (span_of (entry ∷ line) epoch (end + 1)) (IsSpanIn entry.1 end)
span_bounds entry [] epoch end h within = elim (cases_eq entry.0 epoch) [
  | inl same ↦ rw (eq-eqb entry.0 epoch same) (record { from = omega arith; some = omega (arith, within.0); to = omega arith })
  | inr other ↦ rw (ne_eqb entry.0 epoch other) tt
]
span_bounds entry (next ∷ line) epoch end h within =
    let rest = span_bounds next line epoch end h.3 within.1 in
    elim (cases_eq entry.0 epoch) [
      | inl same ↦ rw (eq-eqb entry.0 epoch same) (record { from = omega arith; some = h.2.1; to = omega (arith, within.1.0) })
      | inr other ↦ rw (ne_eqb entry.0 epoch other) (further (span_of (next ∷ line) epoch (end + 1)) h.2.1 rest)
    ]
  where
    further : (found : Option Span) → entry.1 < next.1 → IfSome found (IsSpanIn next.1 end) → IfSome found (IsSpanIn entry.1 end)
    further None up is = tt
    further (Some span) up is = record { from = omega (arith, up, is.from); some = is.some; to = is.to }

-- the segment's map gives an epoch exactly where it lies
pub map_lies : (start end : ℕ) (map : List (ℕ × ℕ)) (epoch o : ℕ) → IsMap start end map
    → (nat_le start o && nat_le o end && is_epoch epoch (epoch_at map o)) ≡ in_span (span_of map epoch (end + 1)) o
map_lies start end [] epoch o h = absurd h.first
map_lies start end (entry ∷ line) epoch o h =
    let bounds = span_bounds entry line epoch end h.line h.within in
    let low : start ≡ entry.1 = sym h.first in
    elim (cases_lt o start) [
      | inl below ↦ rw (lt-leb start o below) (sym (outside (span_of (entry ∷ line) epoch (end + 1)) bounds (λ s l. within_below s.from s.to o (omega (arith, below, low, l.from)))))
      | inr from ↦ elim (cases_lt end o) [
        | inl past ↦ rw (le-leb start o from, lt-leb o end past) (sym (outside (span_of (entry ∷ line) epoch (end + 1)) bounds (λ s l. within_past s.from s.to o (omega (arith, past, l.to)))))
        | inr to ↦ rw (le-leb start o from, le-leb o end to) (lies (entry ∷ line) epoch (end + 1) o h.line (omega (arith, to)))
      ]
    ]
  where
    outside : (found : Option Span) → IfSome found (IsSpanIn entry.1 end) → ((s : Span) → IsSpanIn entry.1 end s → is_within s.from s.to o ≡ false) → in_span found o ≡ false
    outside None is out = refl
    outside (Some span) is out = out span is

-- an epoch after the first entry is above it
above-first : (one : ℕ × ℕ) (line : List (ℕ × ℕ)) (i : ℕ) (d : ℕ × ℕ) → IsLine (one ∷ line) → i < length line → one.0 < (get_or line i d).0
above-first one [] i d h l = absurd (omega (arith, l))
above-first one (two ∷ line) i d h l = let up = epochs-rise (two ∷ line) h.3 0 i d (omega arith) l in omega (arith, up, h.2.0)

-- the epoch that is at a place
pub span_at : (line : List (ℕ × ℕ)) (i : ℕ) (d : ℕ × ℕ) (end : ℕ) → IsLine line → i < length line
    → span_of line (get_or line i d).0 end ≡ Some (record { from = (get_or line i d).1; to = start_or end (drop (suc i) line) })
span_at [] i d end h l = absurd (omega (arith, l))
span_at (one ∷ line) zero d end h l = rw (eq-eqb one.0 one.0 refl) refl
span_at (one ∷ line) (suc i) d end h l =
    let above = above-first one line i d h (omega (arith, l)) in
    rw (ne_eqb one.0 (get_or line i d).0 (λ e. omega (arith, above, e))) (span_at line i d end (rest-line one line h) (omega (arith, l)))

-- an epoch that is nowhere
span_nowhere : (line : List (ℕ × ℕ)) (epoch end : ℕ) → ((k : ℕ) (d : ℕ × ℕ) → k < length line → (get_or line k d).0 ≢ epoch) → span_of line epoch end ≡ None
span_nowhere [] epoch end none = refl
span_nowhere (one ∷ line) epoch end none =
    rw (ne_eqb one.0 epoch (none 0 one (omega arith))) (span_nowhere line epoch end (λ k d l. none (suc k) d (omega (arith, l))))

-- what a search for the epoch found
pub span_found : (line : List (ℕ × ℕ)) (epoch end at : ℕ) → IsLine line → at < length line → ((d : ℕ × ℕ) → nat_cmp (get_or line at d).0 epoch ≡ Equal)
    → ◌≡◌ {A = Option Span} (Some (record { from = (get_or line at (0, 0)).1; to = start_or end (drop (at + 1) line) })) (span_of line epoch end)
span_found line epoch end at h l found =
    let same : (get_or line at (0, 0)).0 ≡ epoch = ranked _ epoch Equal (sym (found (0, 0))) in
    rw (add-one, ← same) (sym (span_at line at (0, 0) end h l))

-- the search found no entry
pub span_missed : (line : List (ℕ × ℕ)) (epoch end at : ℕ) → IsLine line
    → (IsNonDecreasingBy (λ e. ordering_index (nat_cmp e.0 epoch)) line → IsPartitionPoint (λ e. nat_cmp e.0 epoch ≡ Less) (λ e. nat_cmp e.0 epoch ≡ Greater) line at)
    → ◌≡◌ {A = Option Span} None (span_of line epoch end)
span_missed line epoch end at h parted =
    let point = parted (comparisons-rise line epoch h) in
    sym (span_nowhere line epoch end (λ k d l same. elim (cases_lt k at) [
      | inl low ↦ (let less : (get_or line k d).0 < epoch = ranked _ epoch Less (sym (point.0 k d (omega arith) low)) in omega (arith, less, same))
      | inr high ↦ (let more : epoch < (get_or line k d).0 = ranked _ epoch Greater (sym (point.1 k d high l)) in omega (arith, more, same))
    ]))
