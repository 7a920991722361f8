-- Entries that are found one after the other in a chain.
use Rattle.std.proofs.Common.{◌≡◌, ◌≢◌, ◌⊎◌, ◌∙◌, ap, sym, refl, subst, inl, inr, ℕ, ◌-◌, ◌%◌, ◌<◌, List, [], ◌∷◌, ◌++◌, length, Option, Some, None, arith, append_assoc, append-nil, length-append}
use Rattle.std.specs.List.{AllByRecursion}
use Rattle.std.proofs.lemmas.Option.{same_Some}
use Rattle.tier_base.specs.Told.{In}
use Rattle.sparse_index.specs.Bytes.{bytes_of}
use Rattle.sparse_index.specs.Entries.{IsChain, last_of}
use Rattle.sparse_index.proofs.BytesLaws.{pieces-same, bytes-push, chain-front, longer}
use Rattle.sparse_index.proofs.Chains.{chain-push, chain-last}
use Rattle.segment_file.proofs.Laying.{last_push}
use Rattle.segment_file.proofs.Joining.{all_parts}
use Rattle.tier_audit.specs.Flaws.{IsFirstBad}
use Rattle.tier_audit.specs.Entries.{IsBehind, IsLeftOf, ArePartlyRead}

all_push : {X : Type 0} (P : X → Type 0) (xs : List X) (x : X) → AllByRecursion P xs → P x → AllByRecursion P (xs ++ x ∷ [])
all_push P [] x all one = (one, tt)
all_push P (y ∷ xs) x all one = (all.0, all_push P xs x all.1 one)

in_back : {X : Type 0} (item : X) (xs ys : List X) → In item ys → In item (xs ++ ys)
in_back item [] ys h = h
in_back item (x ∷ xs) ys h = inr (in_back item xs ys h)

pub in_front : {X : Type 0} (item : X) (xs ys : List X) → In item xs → In item (xs ++ ys)
in_front item [] ys h = absurd h
in_front item (x ∷ xs) ys (inl e) = inl e
in_front item (x ∷ xs) ys (inr h) = inr (in_front item xs ys h)

pub in_parts : {X : Type 0} (item : X) (xs ys : List X) → In item (xs ++ ys) → In item xs ⊎ In item ys
in_parts item [] ys h = inr h
in_parts item (x ∷ xs) ys (inl e) = inl (inl e)
in_parts item (x ∷ xs) ys (inr h) = elim (in_parts item xs ys h) [ inl a ↦ inl (inr a) | inr b ↦ inr b ]

last_in : {X : Type 0} (xs : List X) (last : X) → last_of xs ≡ Some last → In last xs
last_in [] last e = absurd (cc)
last_in (x ∷ []) last e = inl (sym (same_Some x last e))
last_in (x ∷ y ∷ xs) last e = inr (last_in (y ∷ xs) last e)

module _ {X : Type 0} (Fits : X → Type 0) (R : X → X → Type 0) (along : (x y z : X) → R x y → R y z → R x z) (never : (x : X) → R x x → ⊥) where
  -- the first of a chain precedes each after it
  first_before : (x : X) (xs : List X) → IsChain Fits R (x ∷ xs) → (item : X) → In item xs → R x item
  first_before x [] h item there = absurd there
  first_before x (y ∷ xs) h item (inl e) = subst (R x) (sym e) h.1
  first_before x (y ∷ xs) h item (inr there) = along x y item h.1 (first_before y xs h.2 item there)

  -- each of a front precedes each of the rest
  parts_before : (xs ys : List X) → IsChain Fits R (xs ++ ys) → (x y : X) → In x xs → In y ys → R x y
  parts_before [] ys h x y here there = absurd here
  parts_before (z ∷ xs) ys h x y (inl e) there = subst (λ w. R w y) (sym e) (first_before z (xs ++ ys) h y (in_back y xs ys there))
  parts_before (z ∷ xs) ys h x y (inr here) there = parts_before xs ys h.2 x y here there

  -- each of a chain is the last one or precedes it
  last_reached : (xs : List X) (item last : X) → IsChain Fits R xs → In item xs → last_of xs ≡ Some last → (item ≡ last) ⊎ R item last
  last_reached [] item last h there e = absurd there
  last_reached (x ∷ []) item last h (inl is) e = inl (is ∙ same_Some x last e)
  last_reached (x ∷ []) item last h (inr there) e = absurd there
  last_reached (x ∷ y ∷ xs) item last h (inl is) e = inr (subst (λ w. R w last) (sym is) (first_before x (y ∷ xs) h last (last_in (y ∷ xs) last e)))
  last_reached (x ∷ y ∷ xs) item last h (inr there) e = last_reached (y ∷ xs) item last h.2 there e

  chain_fits : (xs : List X) (item : X) → IsChain Fits R xs → In item xs → Fits item
  chain_fits [] item h there = absurd there
  chain_fits (x ∷ xs) item h (inl e) = subst Fits (sym e) h.0
  chain_fits (x ∷ xs) item h (inr there) = chain_fits xs item h.2 there

  -- items that rise, each one of these
  abbrev Are : List X → List X → Type 0
  Are items entries = IsChain Fits R entries × AllByRecursion (λ entry. In entry items) entries

  -- an entry continues where it is one of those that are left
  goes_on : (items left before : List X) (item : X) → IsChain Fits R items → IsLeftOf items left before → Are items before → In item left → Are items (before ++ item ∷ [])
  goes_on items left before item chain l are there =
      let row : IsChain Fits R (l.passed ++ left) = subst (IsChain Fits R) l.parts chain in
      let in-all : In item (l.passed ++ left) = in_back item l.passed left there in (
        chain-push Fits R before item are.0 (chain_fits (l.passed ++ left) item row in-all)
            (λ last e. parts_before l.passed left row last item (last_in l.passed last (sym l.last ∙ e)) there),
        all_push (λ entry. In entry items) before item are.1 (subst (In item) (sym l.parts) in-all),
      )

  -- and only there
  only_left : (items left before : List X) (item : X) → IsChain Fits R items → IsLeftOf items left before → Are items (before ++ item ∷ []) → In item left
  only_left items left before item chain l are =
      let row : IsChain Fits R (l.passed ++ left) = subst (IsChain Fits R) l.parts chain in
      let above = (chain-last Fits R before item are.0).1 in
      let there : In item items = (all_parts (λ entry. In entry items) before (item ∷ []) are.1).1.0 in
      elim (in_parts item l.passed left (subst (In item) l.parts there)) [
        | inl old ↦ absurd (past l.passed old (chain-front Fits R l.passed left row) (λ last e. above last (l.last ∙ e)))
        | inr new ↦ new
      ]
    where
      past : (passed : List X) → In item passed → IsChain Fits R passed → ((last : X) → last_of passed ≡ Some last → R last item) → ⊥
      past passed old h over = by (last_of passed) refl
        where
          some_last : (xs : List X) → In item xs → last_of xs ≡ None → ⊥
          some_last [] there e = there
          some_last (x ∷ []) there e = cc
          some_last (x ∷ y ∷ xs) (inl is) e = some_tail y xs e
            where
              some_tail : (z : X) (zs : List X) → last_of (z ∷ zs) ≡ None → ⊥
              some_tail z [] e = cc
              some_tail z (w ∷ zs) e = some_tail w zs e
          some_last (x ∷ y ∷ xs) (inr there) e = some_last (y ∷ xs) there e

          by : (o : Option X) → last_of passed ≡ o → ⊥
          by None e = some_last passed old e
          by (Some last) e =
              elim (last_reached passed item last h old e) [
                | inl same ↦ never item (subst (λ w. R w item) (sym same) (over last e))
                | inr under ↦ never item (along item last item under (over last e))
              ]

  -- those that are left behind it
  left_more : (items left before more : List X) (item : X) → IsLeftOf items left before → IsBehind item left more → IsLeftOf items more (before ++ item ∷ [])
  left_more items left before more item l b = record {
    passed = (l.passed ++ b.front) ++ item ∷ [];
    parts = l.parts ∙ (ap (λ ys. l.passed ++ ys) b.parts ∙ (sym (append_assoc l.passed b.front (item ∷ more)) ∙ sym (append_assoc (l.passed ++ b.front) (item ∷ []) more)));
    last = last_push before item ∙ sym (last_push (l.passed ++ b.front) item);
  }

  behind_in : (item : X) (left more : List X) → IsBehind item left more → In item left
  behind_in item left more b = subst (In item) (sym b.parts) (in_back item b.front (item ∷ more) (inl refl))

  none_left : (items : List X) → IsLeftOf items items []
  none_left items = record { passed = []; parts = refl; last = refl }

  front_are : (items xs ys : List X) → Are items (xs ++ ys) → Are items xs
  front_are items xs ys are = (chain-front Fits R xs ys are.0, (all_parts (λ entry. In entry items) xs ys are.1).0)

  module _ (spelling : X → List ℕ) (n : ℕ) (some : 0 < n) (long : (x : X) → length (spelling x) ≡ n) (Raw : X → Type 0) (same : (x y : X) → Raw x → Raw y → spelling x ≡ spelling y → x ≡ y) (weak : (x : X) → Fits x → Raw x) where
    abbrev Reads : List X → List ℕ → List ℕ → List X → Type 0
    Reads items bytes rest left = ArePartlyRead n (bytes_of spelling) (Are items) items bytes rest left

    raws : (items entries : List X) → Are items entries → AllByRecursion Raw entries
    raws items entries are = go entries are.0
      where
        go : (xs : List X) → IsChain Fits R xs → AllByRecursion Raw xs
        go [] h = tt
        go (x ∷ xs) h = (weak x h.0, go xs h.2)

    -- one entry more is read
    pub read_more : (items : List X) (bytes rest behind : List ℕ) (left more : List X) (item : X) → IsChain Fits R items → Reads items bytes rest left → rest ≡ spelling item ++ behind → IsBehind item left more → length behind % n ≡ 0
        → Reads items bytes behind more
    read_more items bytes rest behind left more item chain r parts b even = record {
      before = r.before ++ item ∷ [];
      parts = r.parts ∙ (ap (λ bs. bytes_of spelling r.before ++ bs) parts ∙ (sym (append_assoc (bytes_of spelling r.before) (spelling item) behind) ∙ ap (λ bs. bs ++ behind) (sym (bytes-push spelling r.before item))));
      are = goes_on items left r.before item chain r.left_is r.are (behind_in item left more b);
      left_is = left_more items left r.before more item r.left_is b;
      even = even;
    }

    -- no entries are these bytes, where the next one isn't left
    pub none_are : (items : List X) (bytes rest behind : List ℕ) (left : List X) (item : X) → IsChain Fits R items → (r : Reads items bytes rest left) → rest ≡ spelling item ++ behind → Raw item → (In item left → ⊥)
        → (entries : List X) → Are items entries → bytes ≢ bytes_of spelling entries
    none_are items bytes rest behind left item chain r parts raw none entries are e =
        let front : bytes_of spelling (r.before ++ item ∷ []) ++ behind ≡ bytes_of spelling entries =
        ap (λ bs. bs ++ behind) (bytes-push spelling r.before item) ∙ (append_assoc (bytes_of spelling r.before) (spelling item) behind ∙ (ap (λ bs. bytes_of spelling r.before ++ bs) (sym parts) ∙ (sym r.parts ∙ e))) in
        let found = longer spelling n some long Raw same (r.before ++ item ∷ []) entries behind (all_push Raw r.before item (raws items r.before r.are) raw) (raws items entries are) front in
        none (only_left items left r.before item chain r.left_is (front_are items (r.before ++ item ∷ []) found.0 (subst (Are items) found.1 are)))

    -- and the place is reported
    pub first_bad : (items : List X) (bytes rest behind : List ℕ) (left : List X) (item : X) (at : ℕ) → IsChain Fits R items → (r : Reads items bytes rest left) → rest ≡ spelling item ++ behind → Raw item → (In item left → ⊥)
        → at ≡ length bytes - length rest → IsFirstBad (bytes_of spelling) (Are items) bytes at
    first_bad items bytes rest behind left item at chain r parts raw none is = record {
      before = r.before;
      rest = rest;
      parts = r.parts;
      place = (let size = ap length r.parts ∙ length-append (bytes_of spelling r.before) rest in omega (arith, is, size));
      begins = r.are;
      stops = λ other more e are.
          let last : Raw other = (all_parts Raw r.before (other ∷ []) (raws items (r.before ++ other ∷ []) are)).1.0 in
          let whole : bytes_of spelling r.before ++ rest ≡ bytes_of spelling r.before ++ (spelling other ++ more) =
          sym r.parts ∙ (e ∙ (ap (λ bs. bs ++ more) (bytes-push spelling r.before other) ∙ append_assoc (bytes_of spelling r.before) (spelling other) more)) in
          let behind-same = (pieces-same (bytes_of spelling r.before) (bytes_of spelling r.before) rest (spelling other ++ more) refl whole).1 in
          let pieces = pieces-same (spelling item) (spelling other) behind more (long item ∙ sym (long other)) (sym parts ∙ behind-same) in
          let is-item : item ≡ other = same item other raw last pieces.0 in
          none (only_left items left r.before item chain r.left_is (subst (λ (x : X). Are items (r.before ++ x ∷ [])) (sym is-item) are));
    }

    -- all entries are read
    pub all_read : (items : List X) (bytes rest : List ℕ) (left : List X) → Reads items bytes rest left → length rest ≡ 0 → (entries : List X) × Are items entries × (bytes ≡ bytes_of spelling entries)
    all_read items bytes rest left r none = (r.before, r.are, r.parts ∙ (ap (λ bs. bytes_of spelling r.before ++ bs) (empty rest none) ∙ append-nil (bytes_of spelling r.before)))
      where
        empty : (xs : List ℕ) → length xs ≡ 0 → xs ≡ []
        empty [] e = refl
        empty (x ∷ xs) e = absurd (omega (arith, e))

    -- none is read yet
    pub none_read : (items : List X) (bytes : List ℕ) → length bytes % n ≡ 0 → Reads items bytes bytes items
    none_read items bytes even = record { before = []; parts = refl; are = (tt, tt); left_is = none_left items; even = even }

-- an item that a search passes
pub passed_on : {X : Type 0} (item mark : X) (items rest others front : List X) → items ≡ front ++ rest → rest ≡ mark ∷ others → (In item front → ⊥) → (item ≡ mark → ⊥)
    → (x : List X) × (items ≡ x ++ others) × (In item x → ⊥)
passed_on {X} item mark items rest others front parts is none other = (
  front ++ mark ∷ [],
  parts ∙ (ap (λ ys. front ++ ys) is ∙ sym (append_assoc front (mark ∷ []) others)),
  λ there. elim (in_parts item front (mark ∷ []) there) [ inl old ↦ none old | inr new ↦ only new ],
)
  where
    only : In item (mark ∷ []) → ⊥
    only (inl e) = other e
    only (inr h) = h

-- what such a search comes to
pub found_none : {X : Type 0} (item : X) (items rest front : List X) → items ≡ front ++ rest → length rest ≡ 0 → (In item front → ⊥) → In item items → ⊥
found_none item items [] front parts e none there = none (subst (In item) (parts ∙ append-nil front) there)
found_none item items (x ∷ rest) front parts e none there = absurd (omega (arith, e))
