-- A field that was read is at the front of the bytes as it is spelled.
use Rattle.std.proofs.Common.{◌≡◌, ◌∙◌, ap, sym, refl, ℕ, zero, suc, ◌^◌, ◌<◌, ◌≤◌, nat_lt, true, false, Bool, cond, ℤ, List, [], ◌∷◌, ◌++◌, length, take, drop, get_or, Ok, Err, arith, append_assoc, length-take}
use Rattle.std.specs.List.{All}
use Rattle.std.specs.Int.{Width, w16, w32, w64, byte_len, to_be_bytes, from_be_bytes, cast_signed, cast_unsigned}
use Rattle.std.proofs.lemmas.List.{take-append-drop}
use Rattle.std.proofs.lemmas.List.Elements.{All-take, All-drop}
use Rattle.std.proofs.lemmas.Nat.{be_bytes_2, be_bytes_4, be_bytes_8}
use Rattle.std.proofs.lemmas.Int.{of_z-to_z}
use Rattle.tier_base.specs.declared.names.SegmentId.{SegmentId}
use Rattle.segment_meta.specs.declared.refusal.NoteRefusal.TheVariants.{Short}
use Rattle.segment_meta.specs.Spelling.{ts_bytes}
use Rattle.segment_meta.specs.Reading.{Read, cut_at, number_at, ts_at, id_at, byte_at}
use Rattle.segment_meta.proofs.Inverting.{peeled, ok_same}

-- numbers that bytes can be
abbrev pub AreBytes : List ℕ → Type 0
AreBytes bytes = All (λ b. b < 256) bytes

-- a spelling is at the front of bytes, and these bytes after it
pub record Stands (spelling bytes rest : List ℕ) : Type 0 where
  pub parts : bytes ≡ spelling ++ rest
  pub left : AreBytes rest

-- two that are one after another are one
pub both : {a b bytes mid rest : List ℕ} → Stands a bytes mid → Stands b mid rest → Stands (a ++ b) bytes rest
both {a} {b} {bytes} {mid} {rest} first then = record {
  parts = first.parts ∙ (ap (λ (t : List ℕ). a ++ t) then.parts ∙ sym (append_assoc a b rest));
  left = then.left;
}

-- each byte is below 256
pub each_byte : (bytes : List ℕ) → AreBytes bytes → (i : ℕ) → get_or bytes i 0 < 256
each_byte [] h i = omega arith
each_byte (b ∷ bytes) h zero = h 0 0 (omega arith)
each_byte (b ∷ bytes) h (suc i) = each_byte bytes (λ k d l. h (suc k) d (omega (arith, l))) i

-- so many bytes
pub record Cut (size : ℕ) (field bytes rest : List ℕ) : Type 0 where
  pub stands : Stands field bytes rest
  pub long : length field ≡ size
  pub clean : AreBytes field

cut-by : (size : ℕ) (bytes field rest : List ℕ) (t : Bool) → nat_lt (length bytes) size ≡ t → AreBytes bytes
    → cond {A = Read (List ℕ)} t (Err Short) (Ok (take size bytes, drop size bytes)) ≡ Ok (field, rest) → Cut size field bytes rest
cut-by size bytes field rest true short h e = absurd (cc)
cut-by size bytes field rest false long h e =
    let same : (take size bytes, drop size bytes) ≡ (field, rest) = ok_same _ _ _ refl e in
    let front : take size bytes ≡ field = ap (λ (x : List ℕ × List ℕ). x.0) same in
    let back : drop size bytes ≡ rest = ap (λ (x : List ℕ × List ℕ). x.1) same in
    let fits : size ≤ length bytes = grind arith in record {
      stands = record {
        parts = rw (← front, ← back) (sym (take-append-drop size bytes));
        left = rw (← back) (All-drop (λ b. b < 256) size bytes h);
      };
      long = rw (← front) (grind (arith, length-take));
      clean = rw (← front) (All-take (λ b. b < 256) size bytes h);
    }

-- as long as they are to be
pub cut_long : (size : ℕ) (bytes field rest : List ℕ) → cut_at size bytes ≡ Ok (field, rest) → length field ≡ size
cut_long size bytes field rest e = by (nat_lt (length bytes) size) refl e
  where
    by : (t : Bool) → nat_lt (length bytes) size ≡ t
        → cond {A = Read (List ℕ)} t (Err Short) (Ok (take size bytes, drop size bytes)) ≡ Ok (field, rest) → length field ≡ size
    by true short e = absurd (cc)
    by false long e =
        let same : (take size bytes, drop size bytes) ≡ (field, rest) = ok_same _ _ _ refl e in
        let front : take size bytes ≡ field = ap (λ (x : List ℕ × List ℕ). x.0) same in
        rw (← front) (grind (arith, length-take))

pub cut_stands : (size : ℕ) (bytes field rest : List ℕ) → AreBytes bytes → cut_at size bytes ≡ Ok (field, rest) → Cut size field bytes rest
cut_stands size bytes field rest h e = cut-by size bytes field rest (nat_lt (length bytes) size) refl h e

-- a number that was read
pub record Number (bound n : ℕ) (spelling bytes rest : List ℕ) : Type 0 where
  pub stands : Stands spelling bytes rest
  pub fits : n < bound

below_16 : (bs : List ℕ) → AreBytes bs → from_be_bytes w16 bs < 2 ^ 16
below_16 bs h = omega (arith, each_byte bs h 0, each_byte bs h 1)

below_32 : (bs : List ℕ) → AreBytes bs → from_be_bytes w32 bs < 2 ^ 32
below_32 bs h = omega (arith, each_byte bs h 0, each_byte bs h 1, each_byte bs h 2, each_byte bs h 3)

below_64 : (bs : List ℕ) → AreBytes bs → from_be_bytes w64 bs < 2 ^ 64
below_64 bs h =
    omega (
      arith,
      each_byte bs h 0,
      each_byte bs h 1,
      each_byte bs h 2,
      each_byte bs h 3,
      each_byte bs h 4,
      each_byte bs h 5,
      each_byte bs h 6,
      each_byte bs h 7,
    )

-- what a width's numbers keep
record Laws (w : Width) (bound : ℕ) : Type 0 where
  back : (bs : List ℕ) (n : ℕ) → length bs ≡ byte_len w → AreBytes bs → n ≡ from_be_bytes w bs → to_be_bytes w n ≡ bs
  below : (bs : List ℕ) → AreBytes bs → from_be_bytes w bs < bound

number-by : (w : Width) (most : ℕ) → Laws w most → (bytes : List ℕ) (n : ℕ) (rest : List ℕ) → AreBytes bytes
    → number_at w bytes ≡ Ok (n, rest) → Number most n (to_be_bytes w n) bytes rest
unfolding number_at
number-by w most laws bytes n rest h e =
    peeled (Number most n (to_be_bytes w n) bytes rest) (cut_at (byte_len w) bytes) _ (n, rest) e
    (λ x is then.
    let same = ok_same _ (from_be_bytes w x.0, x.1) (n, rest) refl then in
    let value : from_be_bytes w x.0 ≡ n = ap (λ (y : ℕ × List ℕ). y.0) same in
    let back : x.1 ≡ rest = ap (λ (y : ℕ × List ℕ). y.1) same in
    let field = cut_stands (byte_len w) bytes x.0 x.1 h is in
    let spelled : to_be_bytes w n ≡ x.0 = laws.back x.0 n field.long field.clean (sym value) in record {
      stands = rw (spelled, ← back) field.stands;
      fits = rw (← value) (laws.below x.0 field.clean);
    })

pub u16_stands : (bytes : List ℕ) (n : ℕ) (rest : List ℕ) → AreBytes bytes
    → number_at w16 bytes ≡ Ok (n, rest) → Number (2 ^ 16) n (to_be_bytes w16 n) bytes rest
u16_stands =
    number-by w16 (2 ^ 16)
    (record { back = λ bs n size h e. be_bytes_2 bs n size (each_byte bs h) e; below = below_16 })

pub u32_stands : (bytes : List ℕ) (n : ℕ) (rest : List ℕ) → AreBytes bytes
    → number_at w32 bytes ≡ Ok (n, rest) → Number (2 ^ 32) n (to_be_bytes w32 n) bytes rest
u32_stands =
    number-by w32 (2 ^ 32)
    (record { back = λ bs n size h e. be_bytes_4 bs n size (each_byte bs h) e; below = below_32 })

pub u64_stands : (bytes : List ℕ) (n : ℕ) (rest : List ℕ) → AreBytes bytes
    → number_at w64 bytes ≡ Ok (n, rest) → Number (2 ^ 64) n (to_be_bytes w64 n) bytes rest
u64_stands =
    number-by w64 (2 ^ 64)
    (record { back = λ bs n size h e. be_bytes_8 bs n size (each_byte bs h) e; below = below_64 })

-- a timestamp
pub ts_stands : (bytes : List ℕ) (ts : ℤ) (rest : List ℕ) → AreBytes bytes → ts_at bytes ≡ Ok (ts, rest) → Stands (ts_bytes ts) bytes rest
unfolding ts_at ts_bytes
ts_stands bytes ts rest h e =
    peeled (Stands (to_be_bytes w64 (cast_unsigned w64 ts)) bytes rest) (number_at w64 bytes) _ (ts, rest) e
    (λ x is then.
    let same = ok_same _ (cast_signed w64 x.0, x.1) (ts, rest) refl then in
    let value : cast_signed w64 x.0 ≡ ts = ap (λ (y : ℤ × List ℕ). y.0) same in
    let back : x.1 ≡ rest = ap (λ (y : ℤ × List ℕ). y.1) same in
    let number = u64_stands bytes x.0 x.1 h is in
    let spelled : cast_unsigned w64 ts ≡ x.0 = rw (← value) (of_z-to_z w64 x.0 number.fits) in
    rw (spelled, ← back) number.stands)

-- an id
pub id_stands : (bytes : List ℕ) (id : SegmentId) (rest : List ℕ) → AreBytes bytes → id_at bytes ≡ Ok (id, rest) → Cut 16 id.0 bytes rest
unfolding id_at
id_stands bytes id rest h e =
    peeled (Cut 16 id.0 bytes rest) (cut_at 16 bytes) _ (id, rest) e
    (λ x is then.
    let same = ok_same _ (record { 0 = x.0 }, x.1) (id, rest) refl then in
    let value : x.0 ≡ id.0 = ap (λ (y : SegmentId × List ℕ). y.0.0) same in
    let back : x.1 ≡ rest = ap (λ (y : SegmentId × List ℕ). y.1) same in
    rw (← value, ← back) (cut_stands 16 bytes x.0 x.1 h is))

-- a byte
pub byte_stands : (bytes : List ℕ) (b : ℕ) (rest : List ℕ) → AreBytes bytes → byte_at bytes ≡ Ok (b, rest) → Stands (b ∷ []) bytes rest
byte_stands [] b rest h e = absurd (cc)
byte_stands (a ∷ bytes) b rest h e =
    let same = ok_same _ (a, bytes) (b, rest) refl e in
    let value : a ≡ b = ap (λ (y : ℕ × List ℕ). y.0) same in
    let back : bytes ≡ rest = ap (λ (y : ℕ × List ℕ). y.1) same in record {
      parts = rw (value, back) refl;
      left = rw (← back) (λ k d l. h (suc k) d (omega (arith, l)));
    }
