-- A log's files are read in one way.
use Rattle.std.proofs.Common.{◌≡◌, ◌∙◌, ap, sym, subst, ℕ, ◌+◌, ◌≤◌, List, [], ◌∷◌, ◌++◌, length, take, map, IsOk, arith}
use Rattle.std.specs.List.{AllByRecursion}
use Rattle.std.proofs.lemmas.List.{append-nil, length-take-le}
use Rattle.log_terms.specs.Log.{joined, IsConsecutive, end_from}
use Rattle.log_terms.proofs.Logs.{consecutive_snoc}
use Rattle.record_batch.specs.Check.{checked}
use Rattle.disk_model.specs.Content.{Files}
use Rattle.log_manifest.specs.declared.manifest.Extent.{Extent}
use Rattle.log_manifest.specs.declared.manifest.Manifest.{Manifest}
use Rattle.segment_file.specs.Growing.{Grown}
use Rattle.segment_file.proofs.Joining.{parts_same, joined_same, consecutive_parts}
use Rattle.epoch_line.specs.Line.{cut_end}
use Rattle.log_steps.specs.Fronts.{Each, log_at}
use Rattle.log_steps.specs.Opens.{Opened, IsPlaced, Segment, Segments, IsOpenedBy}
use Rattle.log_steps.proofs.Lists.{each_right}
use Rattle.local_log.specs.Stored.{end_of, extent_of, AreChained, chain_end, IsStored}
use Rattle.local_log.specs.Parsing.{HasNoBatchAt}
use Rattle.local_log.proofs.Pieces.{stored_end}

checked_of : (line : List (ℕ × ℕ)) (base : ℕ) (bs : List (List ℕ)) → Each (IsPlaced line base) bs → AllByRecursion (λ (b : List ℕ). IsOk (checked b)) bs
checked_of line base [] h = tt
checked_of line base (b ∷ bs) h = (h.0.is, checked_of line base bs h.1)

segment_one : (f : Files) (line : List (ℕ × ℕ)) (e : Extent) (xs ys : List (List ℕ)) → Segment f line e xs → Segment f line e ys → xs ≡ ys
segment_one f line e xs ys s t = joined_same xs ys (checked_of line e.base xs s.placed) (checked_of line e.base ys t.placed) (sym s.bytes ∙ t.bytes)

-- the same batches of the same segments
pub segments_one : (f : Files) (line : List (ℕ × ℕ)) (n : ℕ) (es : List Extent) (xs ys : List (List ℕ)) → Segments f line n es xs → Segments f line n es ys → xs ≡ ys
segments_one f line n [] xs ys s t = s ∙ sym t
segments_one f line n (e ∷ es) xs ys s t =
    let here : s.0 ≡ t.0 = segment_one f line e s.0 t.0 s.4 t.4 in
    let rest = segments_one f line (end_from n s.0) es s.1 t.1 s.5 (subst (λ (l : List (List ℕ)). Segments f line (end_from n l) es t.1) (sym here) t.5) in
    s.2 ∙ ap (λ (l : List (List ℕ)). l ++ s.1) here ∙ ap (λ (l : List (List ℕ)). t.0 ++ l) rest ∙ sym t.2

pub read_one : (f : Files) (m : Manifest) (a b : Opened) → IsOpenedBy m f a → IsOpenedBy m f b → a ≡ b
read_one f m a b r s =
    let incarnation : a.incarnation ≡ b.incarnation = r.incarnation ∙ sym s.incarnation in
    let start : a.local_start ≡ b.local_start = r.local_start ∙ sym s.local_start in
    let batches : a.batches ≡ b.batches = segments_one f m.line m.local_start m.segments a.batches b.batches r.batches s.batches in
    let line : a.line ≡ b.line = r.line ∙ ap (λ (n : ℕ). cut_end m.line (end_from n a.batches + 1)) start ∙ ap (λ (l : List (List ℕ)). cut_end m.line (end_from b.local_start l + 1)) batches ∙ sym s.line in
    ap (λ (n : ℕ). opened n a.local_start a.batches a.line) incarnation
    ∙ ap (λ (n : ℕ). opened b.incarnation n a.batches a.line) start
    ∙ ap (λ (l : List (List ℕ)). opened b.incarnation b.local_start l a.line) batches
    ∙ ap (λ (l : List (ℕ × ℕ)). opened b.incarnation b.local_start b.batches l) line
  where
    opened : ℕ → ℕ → List (List ℕ) → List (ℕ × ℕ) → Opened
    opened incarnation local_start batches line = record { incarnation = incarnation; local_start = local_start; batches = batches; line = line }

-- a segment whose front is batches lacks none
pub no_miss : (f : Files) (line : List (ℕ × ℕ)) (e : Extent) (batches : List (List ℕ)) (bytes : List ℕ) (at : ℕ) → Segment f line e batches → bytes ≡ log_at f e → HasNoBatchAt line e bytes at → ⊥
no_miss f line e batches bytes at s is miss =
    let front_is : take e.len bytes ≡ joined batches = ap (take e.len) is ∙ s.bytes in
    let more = parts_same miss.batches batches miss.rest (checked_of line e.base miss.batches miss.fronts.placed) (checked_of line e.base batches s.placed) (sym front_is ∙ miss.fronts.parts) in
    go more.0 more.1 more.2
  where
    go : (more : List (List ℕ)) → batches ≡ miss.batches ++ more → miss.rest ≡ joined more → ⊥
    go [] parts rest =
        let size : length (take e.len bytes) ≡ e.len = length-take-le e.len bytes (subst (λ (l : List ℕ). e.len ≤ length l) (sym is) s.long) in
        let all = ap length (miss.fronts.parts ∙ ap (λ (l : List ℕ). joined miss.batches ++ l) rest ∙ append-nil (joined miss.batches)) in
        omega (arith, size, all, miss.place, miss.short)
    go (b ∷ more) parts rest =
        let placed = each_right (IsPlaced line e.base) miss.batches (b ∷ more) (subst (Each (IsPlaced line e.base)) parts s.placed) in
        let both = consecutive_parts e.base miss.batches (b ∷ more) (subst (IsConsecutive e.base) parts s.consecutive) in
        miss.nothing b (joined more) rest placed.0 (consecutive_snoc e.base miss.batches b both.0 both.1.0)

-- what comes next, after segments that are stored
pub segments_next : (f : Files) (line : List (ℕ × ℕ)) (n : ℕ) (gs : List Grown) (e : Extent) (es : List Extent) (batches : List (List ℕ)) → AreChained n gs → Each (IsStored f line) gs
    → Segments f line n (map extent_of gs ++ e ∷ es) batches → (e.base ≡ chain_end n gs) × ((here : List (List ℕ)) × Segment f line e here)
segments_next f line n [] e es batches c st s = (s.3, (s.0, s.4))
segments_next f line n (g ∷ gs) e es batches c st s =
    let same : s.0 ≡ st.0.batches = segment_one f line (extent_of g) s.0 st.0.batches s.4 st.0.stands in
    let end : end_from n s.0 ≡ end_of g = ap (end_from n) same ∙ ap (λ (k : ℕ). end_from k st.0.batches) (sym c.0) ∙ sym (stored_end f line g st.0) in
    segments_next f line (end_of g) gs e es s.1 c.1 st.1 (subst (λ (k : ℕ). Segments f line k (map extent_of gs ++ e ∷ es) s.1) end s.5)
