-- The words of an answer's fields, by the fields' shape.
use Rattle.std.specs.Prelude.{List, [], ◌∷◌, ◌++◌, ℕ, decimal}
use Rattle.hex.specs.Hex.{encode_lower}
use Rattle.tier_base.specs.Key.{id_text}
use Rattle.trace_text.specs.declared.shapes.Shape.{Shape}
use Rattle.trace_text.specs.declared.shapes.Shape.TheVariants as shape
use Rattle.trace_text.specs.Names.{cause_name, cause_numbers, state_text, stop_text}
use Rattle.trace_text.specs.Trace.{place_text, tier_words}

-- the words that are written for fields of this shape
abbrev pub words_of : Shape → List (List ℕ)
words_of shape.Bare = []
words_of (shape.Counted n) = decimal n ∷ []
words_of (shape.Paired a b) = decimal a ∷ decimal b ∷ []
words_of (shape.Span base last epoch) = decimal base ∷ decimal last ∷ decimal epoch ∷ []
words_of (shape.Cause cause) = cause_name cause ∷ cause_numbers cause
words_of (shape.Damage place at) = place_text place ∷ decimal at ∷ []
words_of (shape.Segment id start last) = id_text id ∷ decimal start ∷ decimal last ∷ []
words_of (shape.State state) = state_text state ∷ []
words_of (shape.Id id) = id_text id ∷ []
words_of (shape.Run tier size stop bytes) =
    tier_words tier ++ decimal size ∷ stop_text stop ∷ encode_lower bytes.now ∷ []
