-- An image opens in one way.
use Rattle.std.proofs.Common.{◌≡◌, ◌∙◌, ap, sym, subst, refl, ℕ, ◌+◌, List, [], ◌∷◌, ◌++◌, Option, Some, None, Result, Ok, Err, IsOk}
use Rattle.std.specs.List.{AllByRecursion}
use Rattle.tier_base.specs.declared.plain.FileName.TheVariants as file
use Rattle.disk_model.specs.Content.{Files}
use Rattle.log_terms.specs.Log.{end_from}
use Rattle.record_batch.specs.Check.{checked}
use Rattle.epoch_line.specs.Line.{cut_end}
use Rattle.log_manifest.specs.declared.manifest.Extent.{Extent}
use Rattle.log_manifest.specs.declared.manifest.Manifest.{Manifest}
use Rattle.log_manifest.specs.declared.refusal.ManifestRefusal.{ManifestRefusal}
use Rattle.log_manifest.specs.Reading.{manifest_in}
use Rattle.segment_file.proofs.Joining.{joined_same}
use Rattle.log_steps.specs.Fronts.{Each}
use Rattle.log_steps.specs.Opens.{Opened, IsPlaced, Segment, Segments, IsOpenedBy, OpensBy, OpensFrom, Opens}

all_checked : (line : List (ℕ × ℕ)) (base : ℕ) (bs : List (List ℕ)) → Each (IsPlaced line base) bs → AllByRecursion (λ (b : List ℕ). IsOk (checked b)) bs
all_checked line base [] h = tt
all_checked line base (b ∷ bs) h = (h.0.is, all_checked line base bs h.1)

-- the front of a file is one list of batches
segment_once : (c : Files) (line : List (ℕ × ℕ)) (e : Extent) (xs ys : List (List ℕ)) → Segment c line e xs → Segment c line e ys → xs ≡ ys
segment_once c line e xs ys s t = joined_same xs ys (all_checked line e.base xs s.placed) (all_checked line e.base ys t.placed) (sym s.bytes ∙ t.bytes)

segments_once : (c : Files) (line : List (ℕ × ℕ)) (n : ℕ) (es : List Extent) (xs ys : List (List ℕ)) → Segments c line n es xs → Segments c line n es ys → xs ≡ ys
segments_once c line n [] xs ys s t = s ∙ sym t
segments_once c line n (e ∷ es) xs ys s t =
    let here : s.0 ≡ t.0 = segment_once c line e s.0 t.0 s.4 t.4 in
    let rest : s.1 ≡ t.1 = segments_once c line (end_from n t.0) es s.1 t.1 (subst (λ (l : List (List ℕ)). Segments c line (end_from n l) es s.1) here s.5) t.5 in
    s.2 ∙ ap (λ (l : List (List ℕ)). l ++ s.1) here ∙ ap (λ (l : List (List ℕ)). t.0 ++ l) rest ∙ sym t.2

read_once : (m : Manifest) (c : Files) (o p : Opened) → IsOpenedBy m c o → IsOpenedBy m c p → o ≡ p
read_once m c o p r q =
    let inc : o.incarnation ≡ p.incarnation = r.incarnation ∙ sym q.incarnation in
    let start : o.local_start ≡ p.local_start = r.local_start ∙ sym q.local_start in
    let same : o.batches ≡ p.batches = segments_once c m.line m.local_start m.segments o.batches p.batches r.batches q.batches in
    let ends : end_from o.local_start o.batches ≡ end_from p.local_start p.batches = ap (λ (n : ℕ). end_from n o.batches) start ∙ ap (end_from p.local_start) same in
    let line : o.line ≡ p.line = r.line ∙ ap (λ (n : ℕ). cut_end m.line (n + 1)) ends ∙ sym q.line in
    by_fields o p inc start same line
  where
    by_fields : (o p : Opened) → o.incarnation ≡ p.incarnation → o.local_start ≡ p.local_start → o.batches ≡ p.batches → o.line ≡ p.line → o ≡ p
    by_fields o p i s b l = let z : o ≡ record { incarnation = p.incarnation; local_start = p.local_start; batches = p.batches; line = p.line } = rw (← i, ← s, ← b, ← l) refl in z

pub opens_once : (c : Files) (o p : Opened) → Opens c o → Opens c p → o ≡ p
opens_once c o p h k = by_file (c file.Manifest) h k
  where
    by_reading : (r : Result Manifest ManifestRefusal) → OpensBy r c o → OpensBy r c p → o ≡ p
    by_reading (Ok m) h k = read_once m c o p h k
    by_reading (Err why) h k = absurd h

    by_file : (x : Option (List ℕ)) → OpensFrom x c o → OpensFrom x c p → o ≡ p
    by_file None h k = h ∙ sym k
    by_file (Some bytes) h k = by_reading (manifest_in bytes) h k
