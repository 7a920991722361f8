-- What a manifest lists of the segments of a log.
use Rattle.std.proofs.Common.{◌≡◌, ◌≢◌, ◌∙◌, ap, sym, refl, inl, inr, ℕ, ◌+◌, ◌≤◌, ◌<◌, List, [], ◌∷◌, ◌++◌, map, arith, lt-ltb, le-ltb}
use Rattle.std.proofs.lemmas.Bool.{cases_lt}
use Rattle.log_manifest.specs.declared.manifest.Extent.{Extent}
use Rattle.segment_file.specs.declared.placed.Placed.{Placed}
use Rattle.segment_file.specs.Growing.{Grown, end_after, ending_by, AreBatchesLaid}
use Rattle.segment_file.proofs.Laying.{end_up}
use Rattle.log_steps.specs.Fronts.{Each}
use Rattle.log_steps.proofs.Lists.{each_join, each_map}
use Rattle.local_log.specs.Stored.{size_of, end_of, extent_of}
use Rattle.local_log.specs.Listing.{IsLaidOut, AreSegmentsOf, front_to, AreListed}
use Rattle.local_log.proofs.Listed.{base_below, bases_below}

-- no batch of these ends at or below where they begin
pub ending_none : (base at n : ℕ) (bs : List Placed) → AreBatchesLaid base at bs → n ≤ base → ending_by n bs ≡ []
ending_none base at n [] laid le = refl
ending_none base at n (x ∷ bs) laid le = rw (le-ltb x.last n (omega (arith, laid.0, le))) refl

-- all of them end at or below where they end
pub ending_all : (base at n : ℕ) (bs : List Placed) → AreBatchesLaid base at bs → end_after base bs ≤ n → ending_by n bs ≡ bs
ending_all base at n [] laid le = refl
ending_all base at n (x ∷ bs) laid le =
    let up = end_up (x.last + 1) x.to bs laid.2 in
    rw (lt-ltb x.last n (omega (arith, up, le))) (ap (λ (l : List Placed). x ∷ l) (ending_all (x.last + 1) x.to n bs laid.2 le))

-- what is added at their end isn't below it
pub ending_more : (base at n : ℕ) (bs more : List Placed) → AreBatchesLaid base at (bs ++ more) → n ≤ end_after base bs → ending_by n (bs ++ more) ≡ ending_by n bs
ending_more base at n [] more laid le = ending_none base at n more laid le
ending_more base at n (x ∷ bs) more laid le = elim (cases_lt x.last n) [
  | inl lt ↦ rw (lt-ltb x.last n lt) (ap (λ (l : List Placed). x ∷ l) (ending_more (x.last + 1) x.to n bs more laid.2 le))
  | inr ge ↦ rw (le-ltb x.last n ge) refl
]

-- a segment more, which begins at or past the offset
pub listed_more : (end : ℕ) (es : List Extent) (gs : List Grown) (g : Grown) → end ≤ g.base → AreListed end es gs → AreListed end es (gs ++ g ∷ [])
listed_more end [] gs g le h = each_join (λ (x : Grown). end ≤ x.base) gs (g ∷ []) h (le, tt)
listed_more end (e ∷ es) [] g le h = absurd h
listed_more end (e ∷ es) (x ∷ gs) g le h = (h.0, h.1, listed_more end es gs g le h.2)

-- another last segment, which is the same up to the offset
pub listed_last : (end : ℕ) (es : List Extent) (gs : List Grown) (g h : Grown) → h.base ≡ g.base → extent_of (front_to end h) ≡ extent_of (front_to end g) → AreListed end es (gs ++ g ∷ []) → AreListed end es (gs ++ h ∷ [])
listed_last end [] [] g h base same l = (omega (arith, l.0, base), tt)
listed_last end [] (x ∷ gs) g h base same l = (l.0, listed_last end [] gs g h base same l.1)
listed_last end (e ∷ es) [] g h base same l = (omega (arith, l.0, base), l.1 ∙ sym same, rest es l.2)
  where
    rest : (es : List Extent) → AreListed end es [] → AreListed end es []
    rest es k = k
listed_last end (e ∷ es) (x ∷ gs) g h base same l = (l.0, l.1, listed_last end es gs g h base same l.2)

-- all segments, up to an offset at or past their ends
pub listed_all : (end : ℕ) (gs : List Grown) → Each IsLaidOut gs → Each (λ g. end_of g ≤ end) gs → AreListed end (map extent_of gs) gs
listed_all end [] laid le = tt
listed_all end (g ∷ gs) laid le =
    let up = end_up g.base 0 g.batches laid.0.laid in (
      omega (arith, up, le.0),
      ap (λ (l : List Placed). extent_of (record g { batches = l })) (sym (ending_all g.base 0 end g.batches laid.0.laid le.0)),
      listed_all end gs laid.1 le.1,
    )

-- no segment begins at the end of a log whose open segment holds a batch
pub end_unlisted : (local_start : ℕ) (closed : List Grown) (active : Grown) → AreSegmentsOf local_start closed active → 0 < size_of active → Each (λ (g : Grown). end_of active ≢ g.base) (closed ++ active ∷ [])
end_unlisted local_start closed active are some =
    let below = base_below active.base active.batches are.active_laid.laid some in
    each_join (λ (g : Grown). end_of active ≢ g.base) closed (active ∷ [])
    (each_map (λ g lt e. omega (arith, lt, e, below)) closed (bases_below local_start closed active are.chained are.laid are.some))
    (λ e. omega (arith, e, below), tt)
