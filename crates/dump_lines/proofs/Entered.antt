-- The bytes of entries, one more at the end.
use Rattle.std.proofs.Common.{◌≡◌, ◌∙◌, ap, sym, ℕ, List, [], ◌∷◌, ◌++◌, append_assoc, append-nil}
use Rattle.sparse_index.specs.Bytes.{bytes_of}

one_behind : {E : Type 0} (spelled : E → List ℕ) (es : List E) (e : E) → bytes_of spelled (es ++ e ∷ []) ≡ bytes_of spelled es ++ spelled e
one_behind spelled [] e = append-nil (spelled e)
one_behind spelled (x ∷ xs) e = ap (λ (ys : List ℕ). spelled x ++ ys) (one_behind spelled xs e) ∙ sym (append_assoc (spelled x) (bytes_of spelled xs) (spelled e))

-- bytes that begin with entries, the next one, and what follows it
pub entered : {E : Type 0} (spelled : E → List ℕ) (es : List E) (e : E) (bytes rest front behind : List ℕ) → bytes ≡ bytes_of spelled es ++ rest
    → rest ≡ front ++ behind → spelled e ≡ front → bytes ≡ bytes_of spelled (es ++ e ∷ []) ++ behind
entered spelled es e bytes rest front behind parts split is =
    parts ∙ ap (λ (xs : List ℕ). bytes_of spelled es ++ xs) (split ∙ ap (λ (xs : List ℕ). xs ++ behind) (sym is))
    ∙ sym (append_assoc (bytes_of spelled es) (spelled e) behind)
    ∙ ap (λ (xs : List ℕ). xs ++ behind) (sym (one_behind spelled es e))
