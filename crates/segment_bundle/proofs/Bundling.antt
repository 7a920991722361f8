-- The parts of a segment's batches.
use Rattle.std.proofs.Common.{◌≡◌, ◌≢◌, ◌∙◌, ap, sym, refl, ℕ, ◌+◌, List, [], ◌∷◌}
use Rattle.log_terms.specs.Log.{joined, IsConsecutive}
use Rattle.sparse_index.specs.Bytes.{bytes_of}
use Rattle.sparse_index.specs.Offsets.{OffsetTable, entry_bytes}
use Rattle.sparse_index.specs.Times.{TimeTable, moment_bytes}
use Rattle.epoch_line.specs.Line.{cut_end}
use Rattle.epoch_line.specs.Text.{text_of}
use Rattle.segment_file.specs.Closed.{ClosedSegment, IsWholeSegment, AreIndexes}
use Rattle.segment_file.specs.Segment.{IsSegment}
use Rattle.segment_file.proofs.Joining.{segment_same}
use Rattle.segment_bundle.specs.Parts.{Parts, first_offset, parts_from, parts_of, Bundled, IsBundle}

-- batches begin at their first offset
first_is : (base : ℕ) (batches : List (List ℕ)) → batches ≢ [] → IsConsecutive base batches → base ≡ first_offset batches
first_is base [] some row = absurd (some refl)
first_is base (batch ∷ batches) some row = sym row.0

abbrev made : List ℕ → List ℕ → List ℕ → List ℕ → Parts
made log index times epochs = record { log = log; index = index; times = times; epochs = epochs }

made_same : {a b c d a' b' c' d' : List ℕ} → a ≡ a' → b ≡ b' → c ≡ c' → d ≡ d' → made a b c d ≡ made a' b' c' d'
made_same e f g h = rw (e, f, g, h) refl

-- the parts that were made are the definition's
pub parts_made : (segment : ClosedSegment) (line : List (ℕ × ℕ)) (interval : ℕ) (offsets : OffsetTable) (moments : TimeTable) (log index times epochs : List ℕ)
    → (w : IsWholeSegment segment) → AreIndexes segment.base segment.bytes interval offsets moments
    → log ≡ segment.bytes → index ≡ bytes_of entry_bytes offsets.entries → times ≡ bytes_of moment_bytes moments.entries → epochs ≡ text_of (cut_end line (segment.last + 1))
    → made log index times epochs ≡ parts_of w.batches line interval
parts_made segment line interval offsets moments log index times epochs w indexes log-is index-is times-is epochs-is =
    let both = indexes w.batches w.is w.bytes_are in
    let first = first_is segment.base w.batches w.some w.is.consecutive in
    let index' = index-is ∙ ap (λ (t : OffsetTable). bytes_of entry_bytes t.entries) both.0 in
    let times' = times-is ∙ ap (λ (t : TimeTable). bytes_of moment_bytes t.entries) both.1 in
    let epochs' = epochs-is ∙ ap (λ n. text_of (cut_end line n)) w.last_is in
    let all : made log index times epochs ≡ parts_from segment.base w.batches line interval = made_same (log-is ∙ w.bytes_are) index' times' epochs' in
    all ∙ ap (λ n. parts_from n w.batches line interval) first

-- in whatever way the segment's bytes are read
pub parts_read : (segment : ClosedSegment) (line : List (ℕ × ℕ)) (interval : ℕ) (parts : Parts) (w : IsWholeSegment segment) → parts ≡ parts_of w.batches line interval
    → (batches : List (List ℕ)) → IsSegment segment.base batches → segment.bytes ≡ joined batches → parts ≡ parts_of batches line interval
parts_read segment line interval parts w is batches s bytes-are =
    is ∙ ap (λ bs. parts_of bs line interval) (segment_same segment.base segment.base w.batches batches w.is s (sym w.bytes_are ∙ bytes-are))

-- a bundle of them
pub is_bundle : (segment : ClosedSegment) (bundle : Bundled) (w : IsWholeSegment segment) → bundle.source ≡ segment.bytes → bundle.parts ≡ parts_of w.batches bundle.line bundle.interval → IsBundle bundle
is_bundle segment bundle w source parts = record {
  batches = w.batches;
  some = w.some;
  base = segment.base;
  is = w.is;
  source_is = source ∙ w.bytes_are;
  parts_are = parts;
}
