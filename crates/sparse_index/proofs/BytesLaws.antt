-- The bytes of entries give the entries.
use Rattle.std.proofs.Common.{suc, ◌≡◌, ◌≢◌, ◌∙◌, sym, ap, refl, subst, ℕ, ◌+◌, ◌*◌, ◌<◌, List, [], ◌∷◌, ◌++◌, length, arith, append_assoc, append-nil, length-append, take, drop, Result, Ok, Err, OnOk}
use Rattle.std.proofs.lemmas.List.{take-append-drop}
use Rattle.std.specs.List.{AllByRecursion}
use Rattle.sparse_index.specs.Entries.{IsChain}
use Rattle.sparse_index.specs.Bytes.{bytes_of}

-- equal lists are equal piece by piece
pub pieces-same : (a b r s : List ℕ) → length a ≡ length b → a ++ r ≡ b ++ s → (a ≡ b) × (r ≡ s)
pieces-same [] [] r s l e = (refl, e)
pieces-same [] (y ∷ b) r s l e = absurd (omega (arith, l))
pieces-same (x ∷ a) [] r s l e = absurd (omega (arith, l))
pieces-same (x ∷ a) (y ∷ b) r s l e =
    let first : x ≡ y = cc in
    let rest : a ++ r ≡ b ++ s = cc in
    let more = pieces-same a b r s (omega (arith, l)) rest in
    (ap (λ n. n ∷ a) first ∙ ap (λ ns. y ∷ ns) more.0, more.1)

-- one entry more
pub bytes-push : {X : Type 0} (spelling : X → List ℕ) (xs : List X) (x : X) → bytes_of spelling (xs ++ x ∷ []) ≡ bytes_of spelling xs ++ spelling x
bytes-push spelling [] x = append-nil (spelling x)
bytes-push spelling (y ∷ xs) x = ap (λ bs. spelling y ++ bs) (bytes-push spelling xs x) ∙ sym (append_assoc (spelling y) (bytes_of spelling xs) (spelling x))

-- the front of a chain is a chain
pub chain-front : {X : Type 0} (Fits : X → Type 0) (R : X → X → Type 0) (xs ys : List X) → IsChain Fits R (xs ++ ys) → IsChain Fits R xs
chain-front Fits R [] ys h = tt
chain-front Fits R (x ∷ []) ys h = (h.0, tt, tt)
chain-front Fits R (x ∷ y ∷ xs) ys h = (h.0, h.1, chain-front Fits R (y ∷ xs) ys h.2)

pub chain-all : {X : Type 0} (Fits Raw : X → Type 0) (R : X → X → Type 0) → ((x : X) → Fits x → Raw x) → (xs : List X) → IsChain Fits R xs → AllByRecursion Raw xs
chain-all Fits Raw R weak [] h = tt
chain-all Fits Raw R weak (x ∷ xs) h = (weak x h.0, chain-all Fits Raw R weak xs h.2)

all-push : {X : Type 0} (Raw : X → Type 0) (xs : List X) (x : X) → AllByRecursion Raw xs → Raw x → AllByRecursion Raw (xs ++ x ∷ [])
all-push Raw [] x h one = (one, tt)
all-push Raw (y ∷ xs) x h one = (h.0, all-push Raw xs x h.1 one)

module _ {X : Type 0} (spelling : X → List ℕ) (n : ℕ) (some : 0 < n) (long : (x : X) → length (spelling x) ≡ n) where
  -- each entry has so many bytes
  pub bytes-length : (xs : List X) → length (bytes_of spelling xs) ≡ length xs * n
  bytes-length [] = omega arith
  bytes-length (x ∷ xs) = length-append (spelling x) (bytes_of spelling xs) ∙ (rw (long x, bytes-length xs) (product (length xs)))
    where
      product : (m : ℕ) → n + m * n ≡ suc m * n
      product m = grind arith

  module _ (Raw : X → Type 0) (same : (x y : X) → Raw x → Raw y → spelling x ≡ spelling y → x ≡ y) where
    -- entries whose bytes begin so begin so
    pub longer : (xs ys : List X) (more : List ℕ) → AllByRecursion Raw xs → AllByRecursion Raw ys → bytes_of spelling xs ++ more ≡ bytes_of spelling ys → (zs : List X) × (ys ≡ xs ++ zs)
    longer [] ys more h h' e = (ys, refl)
    longer (x ∷ xs) [] more h h' e = absurd (let none = ap length (sym (append_assoc (spelling x) (bytes_of spelling xs) more) ∙ e) in omega (arith, none, length-append (spelling x) (bytes_of spelling xs ++ more), long x, some))
    longer (x ∷ xs) (y ∷ ys) more h h' e =
        let pieces = pieces-same (spelling x) (spelling y) (bytes_of spelling xs ++ more) (bytes_of spelling ys) (long x ∙ sym (long y)) (sym (append_assoc (spelling x) (bytes_of spelling xs) more) ∙ e) in
        let rest = longer xs ys more h.1 h'.1 pieces.1 in
        (rest.0, ap (λ z. z ∷ ys) (sym (same x y h.0 h'.0 pieces.0)) ∙ ap (λ zs. x ∷ zs) rest.1)

    -- no chain has bytes that begin with what is no chain
    pub falls-unread : (Fits : X → Type 0) (R : X → X → Type 0) → ((x : X) → Fits x → Raw x) → (bytes more : List ℕ) (before : List X) (entry : X) → Raw entry → IsChain Fits R before → (IsChain Fits R (before ++ entry ∷ []) → ⊥)
        → bytes ≡ bytes_of spelling before ++ (spelling entry ++ more) → (entries : List X) → IsChain Fits R entries → bytes ≢ bytes_of spelling entries
    falls-unread Fits R weak bytes more before entry raw stands falls parts entries h e =
        let front = ap (λ bs. bs ++ more) (bytes-push spelling before entry) ∙ (append_assoc (bytes_of spelling before) (spelling entry) more ∙ (sym parts ∙ e)) in
        let found = longer (before ++ entry ∷ []) entries more (all-push Raw before entry (chain-all Fits Raw R weak before stands) raw) (chain-all Fits Raw R weak entries h) front in
        falls (chain-front Fits R (before ++ entry ∷ []) found.0 (subst (IsChain Fits R) found.1 h))

-- an entry that was cut off
pub cut-front : (k : ℕ) (rest front behind one : List ℕ) → front ≡ take k rest → behind ≡ drop k rest → one ≡ front → rest ≡ one ++ behind
cut-front k rest front behind one f b e = sym (take-append-drop k rest) ∙ (ap (λ x. x ++ drop k rest) (sym f ∙ sym e) ∙ ap (λ y. one ++ y) (sym b))

-- two pieces, one after the other
pub ok-join : {A E : Type 0} (r : Result A E) (new mid old a b : List ℕ) → OnOk r (new ≡ mid ++ b) → mid ≡ old ++ a → OnOk r (new ≡ old ++ (a ++ b))
ok-join (Ok x) new mid old a b h e = h ∙ (ap (λ m. m ++ b) e ∙ append_assoc old a b)
ok-join (Err x) new mid old a b h e = tt
