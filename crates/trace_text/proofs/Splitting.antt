-- A text's words, from its front, and its first line.
use Rattle.std.proofs.Common.{◌≡◌, ◌∙◌, sym, ap, refl, ℕ, ◌+◌, ◌-◌, ◌<◌, List, [], ◌∷◌, ◌++◌, length-drop, Bool, true, false, cond, take, drop, length, get_or, add-one, arith}
use Rattle.std.specs.Prelude.{◌==◌, All}
use Rattle.std.proofs.lemmas.Bool.{eqb-true}
use Rattle.std.proofs.lemmas.List.{take-append-drop, take_all, drop_more}
use Rattle.std.specs.List.{slice_split, onto_first}
use Rattle.std.proofs.lemmas.List.Elements.{All-cons, All-nil}
use Rattle.trace_text.specs.Steps.{front_len, words_behind, is_done}

front-cases : (t : Bool) (b k : ℕ) (bs : List ℕ) → slice_split (λ c. c == 32) bs ≡ take k bs ∷ words_behind (drop k bs)
    → cond t ([] ∷ slice_split (λ c. c == 32) bs) (onto_first b (slice_split (λ c. c == 32) bs)) ≡ take (cond t 0 (k + 1)) (b ∷ bs) ∷ words_behind (drop (cond t 0 (k + 1)) (b ∷ bs))
front-cases true b k bs h = refl
front-cases false b k bs h = rw (h, add-one k) refl

-- the first word, and those after it
pub split-front : (bs : List ℕ) → slice_split (λ c. c == 32) bs ≡ take (front_len (λ c. c == 32) bs) bs ∷ words_behind (drop (front_len (λ c. c == 32) bs) bs)
split-front [] = refl
split-front (b ∷ bs) = front-cases (b == 32) b (front_len (λ c. c == 32) bs) bs (split-front bs)

-- the words left of a text, from their front
pub first-word : (words : List (List ℕ)) (bs : List ℕ) → words ≡ slice_split (λ c. c == 32) bs
    → words ≡ take (front_len (λ c. c == 32) bs) bs ∷ words_behind (drop (front_len (λ c. c == 32) bs) bs)
first-word words bs is = is ∙ split-front bs

-- a text has a word
pub not-done : (words : List (List ℕ)) (bs : List ℕ) → words ≡ slice_split (λ c. c == 32) bs → is_done words ≡ false
not-done words bs is = ap is_done (is ∙ split-front bs)

clean-cases : (is : ℕ → Bool) (t : Bool) (b k : ℕ) (bs : List ℕ) → is b ≡ t → All (λ c. is c ≡ false) (take k bs) → All (λ c. is c ≡ false) (take (cond t 0 (k + 1)) (b ∷ bs))
clean-cases is true b k bs e h = All-nil (λ c. is c ≡ false)
clean-cases is false b k bs e h = rw (add-one k) (All-cons (λ c. is c ≡ false) b (take k bs) e h)

-- none of the kind precedes the first
pub front-clean : (is : ℕ → Bool) (bs : List ℕ) → All (λ c. is c ≡ false) (take (front_len is bs) bs)
front-clean is [] = All-nil (λ c. is c ≡ false)
front-clean is (b ∷ bs) = clean-cases is (is b) b (front_len is bs) bs refl (front-clean is bs)

stop-cases : (is : ℕ → Bool) (t : Bool) (b k : ℕ) (bs : List ℕ) → is b ≡ t → (k < length bs → is (get_or bs k 0) ≡ true) → cond t 0 (k + 1) < length (b ∷ bs) → is (get_or (b ∷ bs) (cond t 0 (k + 1)) 0) ≡ true
stop-cases is true b k bs e h within = e
stop-cases is false b k bs e h within = rw (add-one k) (h (omega arith))

-- and there the first exists
pub front-stop : (is : ℕ → Bool) (bs : List ℕ) → front_len is bs < length bs → is (get_or bs (front_len is bs) 0) ≡ true
front-stop is [] within = absurd (omega arith)
front-stop is (b ∷ bs) within = stop-cases is (is b) b (front_len is bs) bs refl (front-stop is bs) within

whole-cases : (is : ℕ → Bool) (t : Bool) (b k : ℕ) (bs : List ℕ) → is b ≡ t → (k ≡ length bs → All (λ c. is c ≡ false) bs) → cond t 0 (k + 1) ≡ length (b ∷ bs) → All (λ c. is c ≡ false) (b ∷ bs)
whole-cases is true b k bs e h size = absurd (omega (arith, size))
whole-cases is false b k bs e h size = All-cons (λ c. is c ≡ false) b bs e (h (omega (arith, size)))

-- or there is none of the kind
pub whole-clean : (is : ℕ → Bool) (bs : List ℕ) → front_len is bs ≡ length bs → All (λ c. is c ≡ false) bs
whole-clean is [] size = All-nil (λ c. is c ≡ false)
whole-clean is (b ∷ bs) size = whole-cases is (is b) b (front_len is bs) bs refl (whole-clean is bs) size

-- the text is its first line, the LF and what follows
pub line-parts : (bs : List ℕ) (n : ℕ) → n ≡ front_len (λ c. c == 10) bs → n < length bs → bs ≡ take n bs ++ 10 ∷ take (length bs - (n + 1)) (drop (n + 1) bs)
line-parts bs n is within =
    let stop = front-stop (λ c. c == 10) bs (omega (arith, is, within)) in
    let here : get_or bs n 0 ≡ 10 = rw is (eqb-true (get_or bs (front_len (λ c. c == 10) bs) 0) 10 stop) in
    let long : length (drop (n + 1) bs) ≡ length bs - (n + 1) = length-drop (n + 1) bs in
    let rest : take (length bs - (n + 1)) (drop (n + 1) bs) ≡ drop (n + 1) bs = take_all (length bs - (n + 1)) (drop (n + 1) bs) (omega (arith, long)) in
    sym (take-append-drop n bs) ∙ ap (λ (t : List ℕ). take n bs ++ t) (drop_more bs n 0 within ∙ rw (here, rest) refl)

-- none of the kind is in it
pub line-clean : (bs : List ℕ) (n : ℕ) → n ≡ front_len (λ c. c == 10) bs → All (λ c. (c == 10) ≡ false) (take n bs)
line-clean bs n is = rw is (front-clean (λ c. c == 10) bs)
