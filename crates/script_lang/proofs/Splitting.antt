-- Words and parts from their front.
use Rattle.std.proofs.Common.{zero, suc, ◌≡◌, ◌∙◌, sym, ap, refl, ℕ, ◌+◌, ◌<◌, ◌≤◌, List, [], ◌∷◌, Bool, true, false, cond, length, arith, take, drop, add-one, get_or}
use Rattle.std.specs.Prelude.{◌==◌, Ok, Err, filter}
use Rattle.std.specs.List.{slice_split, onto_first}
use Rattle.std.proofs.lemmas.List.{drop_more}
use Rattle.std.proofs.lemmas.Bool.{eqb-true}
use Rattle.std.specs.declared.result.Result.{Result}
use Rattle.script_lang.specs.declared.refusal.Why.{Why}
use Rattle.script_lang.specs.Words.{is_blank, is_some_text, words_of, parts_of, first_of, end_of}
use Rattle.script_lang.specs.Reading.{front_len, behind}

front-cases : (is : ℕ → Bool) (t : Bool) (b k : ℕ) (bs : List ℕ) → slice_split is bs ≡ take k bs ∷ behind is (drop k bs)
    → cond t ([] ∷ slice_split is bs) (onto_first b (slice_split is bs)) ≡ take (cond t 0 (k + 1)) (b ∷ bs) ∷ behind is (drop (cond t 0 (k + 1)) (b ∷ bs))
front-cases is true b k bs h = refl
front-cases is false b k bs h = rw (h, add-one k) refl

-- the first part, and those after it
pub split-front : (is : ℕ → Bool) (bs : List ℕ) → slice_split is bs ≡ take (front_len is bs) bs ∷ behind is (drop (front_len is bs) bs)
split-front is [] = refl
split-front is (b ∷ bs) = front-cases is (is b) b (front_len is bs) bs (split-front is bs)

pub words_of-blank : (b : ℕ) (bs : List ℕ) → is_blank b ≡ true → words_of (b ∷ bs) ≡ words_of bs
unfolding words_of
words_of-blank b bs h = ap (λ t. filter is_some_text (cond t ([] ∷ slice_split is_blank bs) (onto_first b (slice_split is_blank bs)))) h

rest-cases : (t : Bool) (b k : ℕ) (bs : List ℕ) → is_blank b ≡ t → filter is_some_text (behind is_blank (drop k bs)) ≡ words_of (drop k bs)
    → filter is_some_text (behind is_blank (drop (cond t 0 (k + 1)) (b ∷ bs))) ≡ words_of (drop (cond t 0 (k + 1)) (b ∷ bs))
unfolding words_of
rest-cases true b k bs is h = sym (words_of-blank b bs is)
rest-cases false b k bs is h = rw (add-one k) h

pub rest-words : (bs : List ℕ) → filter is_some_text (behind is_blank (drop (front_len is_blank bs) bs)) ≡ words_of (drop (front_len is_blank bs) bs)
unfolding words_of
rest-words [] = refl
rest-words (b ∷ bs) = rest-cases (is_blank b) b (front_len is_blank bs) bs refl (rest-words bs)

some-front : (k : ℕ) (bs : List ℕ) → 0 < k → k ≤ length bs → (parts : List (List ℕ)) → filter is_some_text (take k bs ∷ parts) ≡ take k bs ∷ filter is_some_text parts
some-front k [] h l parts = absurd (omega (arith, h, l))
some-front k (b ∷ bs) h l parts = take-cases k b bs h parts
  where
    take-cases : (k b : ℕ) (bs : List ℕ) → 0 < k → (parts : List (List ℕ)) → filter is_some_text (take k (b ∷ bs) ∷ parts) ≡ take k (b ∷ bs) ∷ filter is_some_text parts
    take-cases zero b bs h parts = absurd (omega (arith, h))
    take-cases (suc k) b bs h parts = refl

len-cases : (t : Bool) (m n : ℕ) → m ≤ n → cond t 0 (m + 1) ≤ n + 1
len-cases true m n h = omega arith
len-cases false m n h = omega (arith, h)

pub front_len-le : (is : ℕ → Bool) (bs : List ℕ) → front_len is bs ≤ length bs
front_len-le is [] = omega arith
front_len-le is (b ∷ bs) = omega (arith, len-cases (is b) (front_len is bs) (length bs) (front_len-le is bs))

-- the first word, and those after it
pub words_of-front : (bs : List ℕ) → 0 < front_len is_blank bs → words_of bs ≡ take (front_len is_blank bs) bs ∷ words_of (drop (front_len is_blank bs) bs)
unfolding words_of
words_of-front bs h =
    ap (filter is_some_text) (split-front is_blank bs)
    ∙ (some-front (front_len is_blank bs) bs h (front_len-le is_blank bs) (behind is_blank (drop (front_len is_blank bs) bs))
    ∙ ap (λ (ws : List (List ℕ)). take (front_len is_blank bs) bs ∷ ws) (rest-words bs))

pub empty : (bs : List ℕ) → (length bs == 0) ≡ true → words_of bs ≡ []
unfolding words_of
empty [] h = refl
empty (b ∷ bs) h = absurd (omega (arith, eqb-true (length (b ∷ bs)) 0 h))

nonempty : (bs : List ℕ) → (length bs == 0) ≡ false → 0 < length bs
nonempty [] h = cc
nonempty (b ∷ bs) h = omega arith

-- the words left, from what follows the blanks
pub first_word : (self : List (List ℕ)) (old rest : List ℕ) (why : Why) → self ≡ words_of old → words_of rest ≡ words_of old → (length rest == 0) ≡ false → (0 < length rest → 0 < front_len is_blank rest)
    → first_of self why ≡ Ok (take (front_len is_blank rest) rest, words_of (drop (front_len is_blank rest) rest))
first_word self old rest why is same some h = ap (λ ws. first_of ws why) (is ∙ (sym same ∙ words_of-front rest (h (nonempty rest some))))

pub end-word : (self : List (List ℕ)) (old rest : List ℕ) (why : Why) → self ≡ words_of old → words_of rest ≡ words_of old → (length rest == 0) ≡ false → (0 < length rest → 0 < front_len is_blank rest) → end_of self why ≡ Err why
end-word self old rest why is same some h = ap (λ ws. end_of ws why) (is ∙ (sym same ∙ words_of-front rest (h (nonempty rest some))))

pub first-none : (self : List (List ℕ)) (old rest : List ℕ) (why : Why) → self ≡ words_of old → words_of rest ≡ words_of old → (length rest == 0) ≡ true → first_of self why ≡ Err why
first-none self old rest why is same h = ap (λ ws. first_of ws why) (is ∙ (sym same ∙ empty rest h))

pub end-none : (self : List (List ℕ)) (old rest : List ℕ) (why : Why) → self ≡ words_of old → words_of rest ≡ words_of old → (length rest == 0) ≡ true → end_of self why ≡ Ok tt
end-none self old rest why is same h = ap (λ ws. end_of ws why) (is ∙ (sym same ∙ empty rest h))

-- one blank more
pub words_of-skip : (bs : List ℕ) (i : ℕ) → i < length bs → is_blank (get_or bs i 0) ≡ true → words_of (drop (i + 1) bs) ≡ words_of (drop i bs)
words_of-skip bs i l h = sym (ap words_of (drop_more bs i 0 l) ∙ words_of-blank (get_or bs i 0) (drop (i + 1) bs) h)

cons-front : (b : ℕ) (bs : List ℕ) → is_blank b ≡ false → 0 < front_len is_blank (b ∷ bs)
cons-front b bs h = rw h (omega arith)

-- a word begins here
pub front_len-some : (bs : List ℕ) (i : ℕ) → i < length bs → is_blank (get_or bs i 0) ≡ false → 0 < front_len is_blank (drop i bs)
front_len-some bs i l h = rw (drop_more bs i 0 l) (cons-front (get_or bs i 0) (drop (i + 1) bs) h)

-- the parts left, from their front
pub first_part : (self : List (List ℕ)) (s : ℕ) (bs : List ℕ) (why : Why) → self ≡ parts_of s bs
    → first_of self why ≡ Ok (take (front_len (λ b. b == s) bs) bs, behind (λ b. b == s) (drop (front_len (λ b. b == s) bs) bs))
unfolding parts_of
first_part self s bs why is = ap (λ ws. first_of ws why) (is ∙ split-front (λ b. b == s) bs)

pub end-part : (self : List (List ℕ)) (s : ℕ) (bs : List ℕ) (why : Why) → self ≡ parts_of s bs → end_of self why ≡ Err why
unfolding parts_of
end-part self s bs why is = ap (λ ws. end_of ws why) (is ∙ split-front (λ b. b == s) bs)

abbrev rest_or_none : Result (List ℕ × List (List ℕ)) Why → List (List ℕ)
rest_or_none (Ok found) = found.1
rest_or_none (Err why) = []

shorter-cases : (words rest : List (List ℕ)) (word : List ℕ) (why : Why) → first_of words why ≡ Ok (word, rest) → length rest < length words
shorter-cases [] rest word why h = absurd (cc)
shorter-cases (w ∷ ws) rest word why h = let e : ws ≡ rest = ap rest_or_none h in rw (← e) (omega arith)

pub first-shorter : (words rest : List (List ℕ)) (word : List ℕ) (why : Why) → first_of words why ≡ Ok (word, rest) → length rest < length words
first-shorter = shorter-cases
