-- A segment's bytes are split into its batches, so what is made of them is what is made of the batches.
use Rattle.std.proofs.Common.{◌≡◌, ◌∙◌, refl, sym, ap, subst, ℕ, zero, suc, ◌+◌, ◌*◌, ◌≤◌, ◌==◌, ◌&&◌, Bool, true, List, [], ◌∷◌, ◌++◌, length, arith}
use Rattle.std.specs.Prelude.{IsOk, IfSome, Option, Some, None, take, drop}
use Rattle.std.specs.List.{AllByRecursion}
use Rattle.std.proofs.lemmas.Bool.{eqb-true, eq-eqb, and_parts, and_from}
use Rattle.std.proofs.Math.Seq.{take-append_seam, drop-append_seam}
use Rattle.log_terms.specs.Log.{joined}
use Rattle.record_batch.specs.Check.{checked}
use Rattle.record_batch.specs.Head.{head_of}
use Rattle.segment_file.specs.declared.walking.Found.TheVariants as found
use Rattle.segment_file.specs.Walk.{size_in, found_at}
use Rattle.segment_file.specs.Segment.{IsSegment}
use Rattle.segment_file.specs.Closed.{ClosedSegment, IsWholeSegment}
use Rattle.segment_file.proofs.Finding.{batch_found, head_sized}
use Rattle.segment_bundle.specs.Parts.{Bundled, IsBundle, parts_of, can_pack}
use Rattle.copy_task.specs.Source.{first_of, split, batches_in}
use Rattle.copy_task.specs.Copying.{Copied, IsCopied, IsBundleOf}
use Rattle.copy_task.proofs.Mapping.{many_bytes}

nothing_split : (n : ℕ) → split n [] ≡ []
unfolding found_at
nothing_split zero = refl
nothing_split (suc n) = refl

split_joined : (n : ℕ) (bs : List (List ℕ)) → AllByRecursion (λ (b : List ℕ). IsOk (checked b)) bs → length bs ≤ n → split n (joined bs) ≡ bs
split_joined n [] ok few = nothing_split n
split_joined zero (b ∷ bs) ok few = absurd (omega (arith, few))
split_joined (suc n) (b ∷ bs) ok few =
    let size = head_sized b ok.0 in
    let front : take (size_in (head_of b)) (b ++ joined bs) ≡ b = ap (λ k. take k (b ++ joined bs)) size ∙ take-append_seam b (joined bs) in
    let rest : drop (size_in (head_of b)) (b ++ joined bs) ≡ joined bs = ap (λ k. drop k (b ++ joined bs)) size ∙ drop-append_seam b (joined bs) in
    ap (first_of (split n) (b ++ joined bs)) (batch_found 0 b (joined bs) ok.0)
    ∙ (ap (λ z. z ∷ split n (drop (size_in (head_of b)) (b ++ joined bs))) front
    ∙ ap (λ zs. b ∷ zs) (ap (split n) rest ∙ split_joined n bs ok.1 (omega (arith, few))))

-- the batches of bytes are those that they were joined of
pub batches_joined : (base : ℕ) (bs : List (List ℕ)) (bytes : List ℕ) → IsSegment base bs → bytes ≡ joined bs → batches_in bytes ≡ bs
batches_joined base bs bytes s e =
    let many = many_bytes bs s.checked in
    ap batches_in e ∙ split_joined (length (joined bs)) bs s.checked (omega (arith, many))

-- a closed segment under an id is a copy, unless it is packed and can't be
pub is_copied : (copy : Copied) → copy.parts ≡ parts_of (batches_in copy.segment.bytes) copy.line copy.interval → IsWholeSegment copy.segment
    → (copy.packed ≡ true → can_pack copy.parts ≡ true) → IsCopied copy
is_copied copy parts w packs = record {
  batches = w.batches;
  some = w.some;
  is = w.is;
  bytes_are = w.bytes_are;
  last_is = w.last_is;
  max_ts_is = w.max_ts_is;
  epochs_are = w.epochs_are;
  parts_are = parts ∙ ap (λ bs. parts_of bs copy.line copy.interval) (batches_joined copy.segment.base w.batches copy.segment.bytes w.is w.bytes_are);
  packs = packs;
}

-- a bundle of the same source, line and interval has the same parts
pub is_bundle_of : (copy : Copied) (bundle : Bundled) → copy.parts ≡ parts_of (batches_in copy.segment.bytes) copy.line copy.interval
    → IsBundle bundle → bundle.source ≡ copy.segment.bytes → bundle.line ≡ copy.line → bundle.interval ≡ copy.interval → IsBundleOf copy bundle
is_bundle_of copy bundle parts b source line interval = record {
  source_is = source;
  line_is = line;
  interval_is = interval;
  parts_are =
      b.parts_are
      ∙ (ap (λ bs. parts_of bs bundle.line bundle.interval) (sym (batches_joined b.base b.batches bundle.source b.is b.source_is))
      ∙ (ap (λ bytes. parts_of (batches_in bytes) bundle.line bundle.interval) source
      ∙ (ap (λ l. parts_of (batches_in copy.segment.bytes) l bundle.interval) line
      ∙ (ap (λ i. parts_of (batches_in copy.segment.bytes) copy.line i) interval ∙ sym parts))));
}

-- a copy that can be packed may be packed
pub packed_copied : (copy : Copied) (packed : Bool) → IsCopied copy → (packed ≡ true → can_pack copy.parts ≡ true) → IsCopied (record copy { packed = packed })
packed_copied copy packed is packs = record {
  batches = is.batches;
  some = is.some;
  is = is.is;
  bytes_are = is.bytes_are;
  last_is = is.last_is;
  max_ts_is = is.max_ts_is;
  epochs_are = is.epochs_are;
  parts_are = is.parts_are;
  packs = packs;
}

-- it has the same bundle
pub packed_bundle : (copy : Copied) (packed : Bool) (bundle : Option Bundled) → IfSome bundle (IsBundleOf copy) → IfSome bundle (IsBundleOf (record copy { packed = packed }))
packed_bundle copy packed None is = is
packed_bundle copy packed (Some bundle) is =
    record { source_is = is.source_is; line_is = is.line_is; interval_is = is.interval_is; parts_are = is.parts_are }

-- what a test of two pairs reports
pub pair_decides : (x y : ℕ × ℕ) → ((x.0 == y.0) && (x.1 == y.1) ≡ true → x ≡ y) × (x ≡ y → (x.0 == y.0) && (x.1 == y.1) ≡ true)
pair_decides x y = (
  λ t. (let both = and_parts (x.0 == y.0) (x.1 == y.1) t in ap (λ n. (n, x.1)) (eqb-true x.0 y.0 both.0) ∙ ap (λ n. (y.0, n)) (eqb-true x.1 y.1 both.1)),
  λ e. and_from (x.0 == y.0) (x.1 == y.1) (eq-eqb x.0 y.0 (ap (λ (p : ℕ × ℕ). p.0) e)) (eq-eqb x.1 y.1 (ap (λ (p : ℕ × ℕ). p.1) e)),
)
