-- How long texts are.
use Rattle.std.proofs.Common.{◌≡◌, ℕ, ◌+◌, List, [], ◌∷◌, ◌++◌, length, arith, length-append}
use Rattle.std.proofs.lemmas.List.{length-replicate}
use Rattle.hex.proofs.HexLemmas.{length-encode_with}
use Rattle.uuid.proofs.TextLemmas.{by_index_length}
use Rattle.tier_base.specs.declared.names.SegmentId.{SegmentId}
use Rattle.tier_base.specs.Key.{id_text}
use Rattle.trace_text.specs.Trace.{spaced}

-- an id has 36 characters
pub length-id_text : (id : SegmentId) → length (id_text id) ≡ 36
unfolding id_text
length-id_text id = by_index_length 36 _

-- words in two lists
pub length-spaced : (a b : List (List ℕ)) → length (spaced (a ++ b)) ≡ length (spaced a) + length (spaced b)
length-spaced [] b = omega arith
length-spaced (w ∷ a) b = omega (arith, length-spaced a b, length-append w (spaced (a ++ b)), length-append w (spaced a))

-- the length of what is side by side, of bytes as digits, of zeros and of ids
pub ruleset lengths = (length-append, length-encode_with, length-replicate, length-id_text, length-spaced)
