-- A field that was read is at the front of the bytes as it is spelled.
use Rattle.std.proofs.Common.{◌≡◌, ◌∙◌, ap, sym, refl, ℕ, zero, suc, ◌<◌, ◌≤◌, nat_lt, true, false, Bool, cond, List, [], ◌∷◌, ◌++◌, length, take, drop, get_or, Ok, Err, arith, append_assoc, length-take}
use Rattle.std.specs.List.{All}
use Rattle.std.specs.Int.{Width, w16, w32, w64, byte_len, to_be_bytes, from_be_bytes}
use Rattle.std.proofs.lemmas.Bool.{ltb-false}
use Rattle.std.proofs.lemmas.List.{take-append-drop}
use Rattle.std.proofs.lemmas.List.Elements.{All-take, All-drop}
use Rattle.std.proofs.lemmas.Nat.{be_bytes_2, be_bytes_4, be_bytes_8}
use Rattle.registry_file.specs.Reading.{Read, cut_at, number_at, byte_at}
use Rattle.registry_file.specs.declared.refusal.RegFileRefusal.TheVariants.{Bad}
use Rattle.registry_file.proofs.Inverting.{peeled, ok_same}

-- numbers that bytes can be
abbrev pub AreBytes : List ℕ → Type 0
AreBytes bytes = All (λ b. b < 256) bytes

-- a spelling is at the front of bytes, and these bytes after it
pub record Stands (spelling bytes rest : List ℕ) : Type 0 where
  pub parts : bytes ≡ spelling ++ rest
  pub left : AreBytes rest

-- two that are one after another are one
pub both : {a b bytes mid rest : List ℕ} → Stands a bytes mid → Stands b mid rest → Stands (a ++ b) bytes rest
both {a} {b} {bytes} {mid} {rest} first then = record {
  parts = first.parts ∙ (ap (λ (t : List ℕ). a ++ t) then.parts ∙ sym (append_assoc a b rest));
  left = then.left;
}

-- each byte is below 256
pub each_byte : (bytes : List ℕ) → AreBytes bytes → (i : ℕ) → get_or bytes i 0 < 256
each_byte [] h i = omega arith
each_byte (b ∷ bytes) h zero = h 0 0 (omega arith)
each_byte (b ∷ bytes) h (suc i) = each_byte bytes (λ k d l. h (suc k) d (omega (arith, l))) i

-- so many bytes
pub record Cut (size : ℕ) (field bytes rest : List ℕ) : Type 0 where
  pub stands : Stands field bytes rest
  pub long : length field ≡ size
  pub clean : AreBytes field

cut-by : (size at : ℕ) (bytes field rest : List ℕ) (t : Bool) → nat_lt (length bytes) size ≡ t → AreBytes bytes
    → cond {A = Read (List ℕ)} t (Err (Bad at)) (Ok (take size bytes, drop size bytes)) ≡ Ok (field, rest) → Cut size field bytes rest
cut-by size at bytes field rest true short h e = absurd (cc)
cut-by size at bytes field rest false short h e =
    let same : (take size bytes, drop size bytes) ≡ (field, rest) = ok_same _ _ _ refl e in
    let front : take size bytes ≡ field = ap (λ (x : List ℕ × List ℕ). x.0) same in
    let back : drop size bytes ≡ rest = ap (λ (x : List ℕ × List ℕ). x.1) same in
    let fits : size ≤ length bytes = ltb-false (length bytes) size short in
    let size-is : length (take size bytes) ≡ size = grind (arith, length-take, fits) in record {
      stands = record {
        parts = rw (← front, ← back) (sym (take-append-drop size bytes));
        left = rw (← back) (All-drop (λ b. b < 256) size bytes h);
      };
      long = rw (← front) size-is;
      clean = rw (← front) (All-take (λ b. b < 256) size bytes h);
    }

pub cut_stands : (size at : ℕ) (bytes field rest : List ℕ) → AreBytes bytes → cut_at size at bytes ≡ Ok (field, rest) → Cut size field bytes rest
cut_stands size at bytes field rest h e = cut-by size at bytes field rest (nat_lt (length bytes) size) refl h e

-- a width's numbers go back to their bytes
abbrev GoesBack : Width → Type 0
GoesBack w = (bs : List ℕ) (n : ℕ) → length bs ≡ byte_len w → AreBytes bs → n ≡ from_be_bytes w bs → to_be_bytes w n ≡ bs

number-by : (w : Width) → GoesBack w → (at : ℕ) (bytes : List ℕ) (n : ℕ) (rest : List ℕ) → AreBytes bytes
    → number_at w at bytes ≡ Ok (n, rest) → Stands (to_be_bytes w n) bytes rest
unfolding number_at
number-by w goes at bytes n rest h e =
    peeled (Stands (to_be_bytes w n) bytes rest) (cut_at (byte_len w) at bytes) _ (n, rest) e
    (λ x is then.
    let same = ok_same _ (from_be_bytes w x.0, x.1) (n, rest) refl then in
    let value : from_be_bytes w x.0 ≡ n = ap (λ (y : ℕ × List ℕ). y.0) same in
    let back : x.1 ≡ rest = ap (λ (y : ℕ × List ℕ). y.1) same in
    let field = cut_stands (byte_len w) at bytes x.0 x.1 h is in
    let spelled : to_be_bytes w n ≡ x.0 = goes x.0 n field.long field.clean (sym value) in
    rw (spelled, ← back) field.stands)

-- a number that was read
pub u16_stands : (at : ℕ) (bytes : List ℕ) (n : ℕ) (rest : List ℕ) → AreBytes bytes → number_at w16 at bytes ≡ Ok (n, rest)
    → Stands (to_be_bytes w16 n) bytes rest
u16_stands = number-by w16 (λ bs n size h e. be_bytes_2 bs n size (each_byte bs h) e)

pub u32_stands : (at : ℕ) (bytes : List ℕ) (n : ℕ) (rest : List ℕ) → AreBytes bytes → number_at w32 at bytes ≡ Ok (n, rest)
    → Stands (to_be_bytes w32 n) bytes rest
u32_stands = number-by w32 (λ bs n size h e. be_bytes_4 bs n size (each_byte bs h) e)

pub u64_stands : (at : ℕ) (bytes : List ℕ) (n : ℕ) (rest : List ℕ) → AreBytes bytes → number_at w64 at bytes ≡ Ok (n, rest)
    → Stands (to_be_bytes w64 n) bytes rest
u64_stands = number-by w64 (λ bs n size h e. be_bytes_8 bs n size (each_byte bs h) e)

-- a byte that was read
pub byte_stands : (at : ℕ) (bytes : List ℕ) (b : ℕ) (rest : List ℕ) → AreBytes bytes → byte_at at bytes ≡ Ok (b, rest)
    → Stands (b ∷ []) bytes rest
byte_stands at [] b rest h e = absurd (cc)
byte_stands at (a ∷ bytes) b rest h e =
    let same = ok_same _ (a, bytes) (b, rest) refl e in
    let value : a ≡ b = ap (λ (y : ℕ × List ℕ). y.0) same in
    let back : bytes ≡ rest = ap (λ (y : ℕ × List ℕ). y.1) same in record {
      parts = rw (value, back) refl;
      left = rw (← back) (λ k d l. h (suc k) d (omega (arith, l)));
    }
