-- The lines of a text, and the text of each.
use Rattle.std.proofs.Common.{◌≡◌, ◌∙◌, sym, ap, subst, refl, ℕ, suc, ◌-◌, Bool, true, false, List, [], ◌∷◌, ◌++◌, length, drop, arith, length-append}
use Rattle.std.specs.Prelude.{◌==◌, nat_le, Ok}
use Rattle.std.specs.List.{list_all}
use Rattle.std.proofs.Math.Seq.{take-append_seam}
use Rattle.std.proofs.lemmas.Bool.{eqb-true, and_parts, le-leb}
use Rattle.script_lang.specs.Lines.{lines_of, text_in, text_of, is_text_byte}

-- what a byte of a text isn't
no_byte : (b c : ℕ) → is_text_byte c ≡ false → is_text_byte b ≡ true → (b == c) ≡ false
no_byte b c bad good = by (b == c) refl
  where
    by : (t : Bool) → (b == c) ≡ t → t ≡ false
    by true is = absurd (let same : is_text_byte c ≡ true = subst (λ (n : ℕ). is_text_byte n ≡ true) (eqb-true b c is) good in let clash : true ≡ false = sym same ∙ bad in cc)
    by false is = refl

-- a text and a line feed are a line, and what follows are the others
pub lines_front : (text rest : List ℕ) → list_all is_text_byte text ≡ true → lines_of (text ++ 10 ∷ rest) ≡ (text ++ 10 ∷ []) ∷ lines_of rest
lines_front [] rest h = refl
lines_front (b ∷ text) rest h =
    let parts = and_parts (is_text_byte b) (list_all is_text_byte text) h in
    rw (no_byte b 10 refl parts.0, lines_front text rest parts.1) refl

-- its last two bytes
last_two : (b : ℕ) (text : List ℕ) → list_all is_text_byte (b ∷ text) ≡ true
    → (c : ℕ) × (is_text_byte c ≡ true) × (drop (length (b ∷ text ++ 10 ∷ []) - 2) (b ∷ text ++ 10 ∷ []) ≡ c ∷ 10 ∷ [])
last_two b [] h = (b, (and_parts (is_text_byte b) true h).0, refl)
last_two b (d ∷ text) h =
    let rest = last_two d text (and_parts (is_text_byte b) (list_all is_text_byte (d ∷ text)) h).1 in
    let more : length (b ∷ d ∷ text ++ 10 ∷ []) - 2 ≡ suc (length (d ∷ text ++ 10 ∷ []) - 2) = (let l = length-append text (10 ∷ []) in omega (arith, l)) in
    (rest.0, rest.1, ap (λ (n : ℕ). drop n (b ∷ d ∷ text ++ 10 ∷ [])) more ∙ rest.2)

drop_seam : (xs ys : List ℕ) → drop (length xs) (xs ++ ys) ≡ ys
drop_seam [] ys = refl
drop_seam (x ∷ xs) ys = drop_seam xs ys

-- the text of the line
text_kept : (text : List ℕ) → list_all is_text_byte text ≡ true → text_of (text ++ 10 ∷ []) ≡ text
unfolding text_of
text_kept [] h = refl
text_kept (b ∷ text) h =
    let l = length-append (b ∷ text) (10 ∷ []) in
    let two = last_two b text h in
    let long : nat_le 2 (length (b ∷ text ++ 10 ∷ [])) ≡ true = le-leb 2 (length (b ∷ text ++ 10 ∷ [])) (omega (arith, l)) in
    let some : nat_le 1 (length (b ∷ text ++ 10 ∷ [])) ≡ true = le-leb 1 (length (b ∷ text ++ 10 ∷ [])) (omega (arith, l)) in
    let less : length (b ∷ text ++ 10 ∷ []) - 1 ≡ length (b ∷ text) = omega (arith, l) in
    rw (long, two.2, no_byte two.0 13 refl two.1, some, less, drop_seam (b ∷ text) (10 ∷ [])) (take-append_seam (b ∷ text) (10 ∷ []))

pub text_read : (text : List ℕ) → list_all is_text_byte text ≡ true → text_in (text ++ 10 ∷ []) ≡ Ok text
text_read text h = rw (text_kept text h, h) refl
