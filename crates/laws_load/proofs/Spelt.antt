-- The lines of a load are the shortest spellings of its commands.
use Rattle.std.proofs.Common.{◌≡◌, ◌∙◌, sym, ap, refl, ℕ, zero, suc, ◌/◌, ◌%◌, ◌^◌, ◌<◌, true, List, [], ◌∷◌, ◌++◌, arith, append_assoc}
use Rattle.std.specs.Prelude.{◌==◌, replicate, slice_index}
use Rattle.std.specs.List.{list_all}
use Rattle.std.specs.Fmt.{decimal}
use Rattle.std.proofs.Math.Nat.{mod-lt, mul-div-le}
use Rattle.std.proofs.lemmas.Bool.{eqb-true, and_from, agree_below_at}
use Rattle.std.proofs.lemmas.List.Folds.{list_all-append}
use Rattle.hex.specs.Hex.{encode_lower, encode_with, lower_digits, IsBytes}
use Rattle.script_lang.specs.Lines.{is_text_byte}
use Rattle.script_lang.proofs.Spelled.{decimal-passes}
use Rattle.load_gen.specs.Script.{hex_digit, hex_run}

-- a hexadecimal digit, by a table
digit_same : (k : ℕ) → k < 16 → slice_index lower_digits k ≡ hex_digit k
unfolding hex_digit
digit_same k low = eqb-true (slice_index lower_digits k) (hex_digit k) (agree_below_at (λ n. slice_index lower_digits n == hex_digit n) (λ n. true) 16 k refl low)

digit_text : (k : ℕ) → k < 16 → is_text_byte (hex_digit k) ≡ true
unfolding hex_digit
digit_text k low = agree_below_at (λ n. is_text_byte (hex_digit n)) (λ n. true) 16 k refl low

high_low : (b : ℕ) → b < 256 → b / 16 < 16
high_low b low = let le = mul-div-le b 16 in omega (arith, le, low)

low_low : (b : ℕ) → b % 16 < 16
low_low b = mod-lt b (omega arith)

-- a byte's digits, so many times
pub run_is : (n b : ℕ) → b < 256 → encode_lower (replicate n b) ≡ hex_run n b
unfolding encode_with
run_is zero b low = refl
run_is (suc n) b low = rw (digit_same (b / 16) (high_low b low), digit_same (b % 16) (low_low b), run_is n b low) refl

pub run_text : (n b : ℕ) → b < 256 → list_all is_text_byte (hex_run n b) ≡ true
run_text zero b low = refl
run_text (suc n) b low = rw (digit_text (b / 16) (high_low b low), digit_text (b % 16) (low_low b), run_text n b low) refl

pub run_bytes : (n b : ℕ) → b < 256 → IsBytes (replicate n b)
run_bytes zero b low i = omega arith
run_bytes (suc n) b low zero = low
run_bytes (suc n) b low (suc i) = run_bytes n b low i

-- texts one after another
pub text_then : (xs ys : List ℕ) → list_all is_text_byte xs ≡ true → list_all is_text_byte ys ≡ true → list_all is_text_byte (xs ++ ys) ≡ true
text_then xs ys h k = list_all-append is_text_byte xs ys ∙ and_from (list_all is_text_byte xs) (list_all is_text_byte ys) h k

pub number_text : (n : ℕ) → n < 2 ^ 64 → list_all is_text_byte (decimal n) ≡ true
number_text n low = decimal-passes is_text_byte refl n low

-- four words of a line
pub four_text : (a p b command : List ℕ) → list_all is_text_byte a ≡ true → list_all is_text_byte p ≡ true → list_all is_text_byte b ≡ true → list_all is_text_byte command ≡ true
    → list_all is_text_byte (a ++ 32 ∷ (p ++ 32 ∷ (b ++ 32 ∷ command))) ≡ true
four_text a p b command ha hp hb hc =
    text_then a (32 ∷ (p ++ 32 ∷ (b ++ 32 ∷ command))) ha (text_then p (32 ∷ (b ++ 32 ∷ command)) hp (text_then b (32 ∷ command) hb hc))

-- and what follows them
pub four_then : (a p b command rest : List ℕ) → ((((a ++ 32 ∷ p) ++ 32 ∷ b) ++ 32 ∷ []) ++ command ++ 10 ∷ []) ++ rest ≡ (a ++ 32 ∷ (p ++ 32 ∷ (b ++ 32 ∷ command))) ++ 10 ∷ rest
four_then a p b command rest = left ∙ sym right
  where
    tail : List ℕ
    tail = command ++ 10 ∷ rest

    all : List ℕ
    all = a ++ 32 ∷ (p ++ 32 ∷ (b ++ 32 ∷ tail))

    left : ((((a ++ 32 ∷ p) ++ 32 ∷ b) ++ 32 ∷ []) ++ command ++ 10 ∷ []) ++ rest ≡ all
    left =
        append_assoc ((((a ++ 32 ∷ p) ++ 32 ∷ b) ++ 32 ∷ []) ++ command) (10 ∷ []) rest
        ∙ append_assoc (((a ++ 32 ∷ p) ++ 32 ∷ b) ++ 32 ∷ []) command (10 ∷ rest)
        ∙ append_assoc ((a ++ 32 ∷ p) ++ 32 ∷ b) (32 ∷ []) tail
        ∙ append_assoc (a ++ 32 ∷ p) (32 ∷ b) (32 ∷ tail)
        ∙ append_assoc a (32 ∷ p) (32 ∷ (b ++ 32 ∷ tail))

    right : (a ++ 32 ∷ (p ++ 32 ∷ (b ++ 32 ∷ command))) ++ 10 ∷ rest ≡ all
    right =
        append_assoc a (32 ∷ (p ++ 32 ∷ (b ++ 32 ∷ command))) (10 ∷ rest)
        ∙ ap (λ (l : List ℕ). a ++ 32 ∷ l) (append_assoc p (32 ∷ (b ++ 32 ∷ command)) (10 ∷ rest))
        ∙ ap (λ (l : List ℕ). a ++ 32 ∷ (p ++ 32 ∷ l)) (append_assoc b (32 ∷ command) (10 ∷ rest))
