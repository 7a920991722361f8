-- Fields that are read and refused one by one.
use Rattle.std.proofs.Common.{◌≡◌, ap, refl, ℕ, zero, suc, ◌+◌, ◌-◌, ◌*◌, ◌/◌, ◌^◌, ◌<◌, ◌≤◌, nat_lt, Bool, true, false, cond, List, [], ◌∷◌, ◌++◌, length, take, drop, Ok, Err, arith, append_assoc, length-take, length-drop}
use Rattle.std.proofs.lemmas.Nat.{pow_below, shl-shr}
use Rattle.std.specs.Int.{Width, byte_len, to_be_bytes, from_be_bytes}
use Rattle.std.proofs.lemmas.Bool.{lt-ltb, ltb-true, ltb-false}
use Rattle.registry_file.specs.declared.refusal.RegFileRefusal.{RegFileRefusal}
use Rattle.registry_file.specs.declared.refusal.RegFileRefusal.TheVariants.{Bad}
use Rattle.registry_file.specs.Reading.{Read, passing, cut_at, number_at, byte_at, sync_may}
use Rattle.registry_file.specs.Faults.{field_end, IsEndPlace}
use Rattle.registry_file.proofs.Inverting.{peeled, ok_same, passed}
use Rattle.registry_file.proofs.Again.{cut_again}
use Rattle.registry_file.proofs.Faults.{Fills, Fault, Took, Reads, split}

-- what a cut of so many bytes came to
record Whole (size : ℕ) (bytes field rest : List ℕ) : Type 0 where
  long : length bytes ≡ size + length rest
  near : (at j : ℕ) (t : List ℕ) → cut_at size at (take (size + j) bytes ++ t) ≡ Ok (field, take j rest ++ t)

nothing : (j : ℕ) → let none : List ℕ = [] in none ≡ take j none
nothing zero = refl
nothing (suc j) = refl

take-parts : (size j : ℕ) (bytes : List ℕ) → take (size + j) bytes ≡ take size bytes ++ take j (drop size bytes)
take-parts zero j bytes = let none : 0 + j ≡ j = omega arith in rw none refl
take-parts (suc size) j [] = let next : suc size + j ≡ suc (size + j) = omega arith in rw next (nothing j)
take-parts (suc size) j (b ∷ bytes) =
    let next : suc size + j ≡ suc (size + j) = omega arith in
    rw next (ap (λ (l : List ℕ). b ∷ l) (take-parts size j bytes))

whole-cut : (size at : ℕ) (bytes field rest : List ℕ) (short : Bool) → nat_lt (length bytes) size ≡ short
    → cond {A = Read (List ℕ)} short (Err (Bad at)) (Ok (take size bytes, drop size bytes)) ≡ Ok (field, rest) → Whole size bytes field rest
whole-cut size at bytes field rest true is e = absurd (cc)
whole-cut size at bytes field rest false is e =
    let same = ok_same _ (take size bytes, drop size bytes) (field, rest) refl e in
    let value : take size bytes ≡ field = ap (λ (z : List ℕ × List ℕ). z.0) same in
    let back : drop size bytes ≡ rest = ap (λ (z : List ℕ × List ℕ). z.1) same in
    let fits : size ≤ length bytes = ltb-false (length bytes) size is in
    let size-is : length (take size bytes) ≡ size = grind (arith, length-take, fits) in
    rw (← value, ← back)
    (record {
      long = grind (arith, length-drop, fits);
      near = λ at' j t.
          rw (take-parts size j bytes, append_assoc (take size bytes) (take j (drop size bytes)) t)
          (cut_again size at' (take size bytes) (take j (drop size bytes) ++ t) size-is);
    })

cut-short : (size at : ℕ) (bytes : List ℕ) (why : RegFileRefusal) (short : Bool) → nat_lt (length bytes) size ≡ short
    → cond {A = Read (List ℕ)} short (Err (Bad at)) (Ok (take size bytes, drop size bytes)) ≡ Err why → (Bad at ≡ why) × (length bytes < size)
cut-short size at bytes why true is e = (cc, ltb-true (length bytes) size is)
cut-short size at bytes why false is e = absurd (cc)

-- a number that was read
record NumberTook (w : Width) (bytes : List ℕ) (n : ℕ) (rest : List ℕ) : Type 0 where
  long : length bytes ≡ byte_len w + length rest
  near : (at j : ℕ) (t : List ℕ) → number_at w at (take (byte_len w + j) bytes ++ t) ≡ Ok (n, take j rest ++ t)

number-took : (w : Width) (at : ℕ) (bytes : List ℕ) (n : ℕ) (rest : List ℕ) → number_at w at bytes ≡ Ok (n, rest) → NumberTook w bytes n rest
unfolding number_at
number-took w at bytes n rest e =
    peeled (NumberTook w bytes n rest) (cut_at (byte_len w) at bytes) _ (n, rest) e
    (λ x e1 m1.
    let same = ok_same _ (from_be_bytes w x.0, x.1) (n, rest) refl m1 in
    let value : from_be_bytes w x.0 ≡ n = ap (λ (z : ℕ × List ℕ). z.0) same in
    let back : x.1 ≡ rest = ap (λ (z : ℕ × List ℕ). z.1) same in
    let is = whole-cut (byte_len w) at bytes x.0 x.1 (nat_lt (length bytes) (byte_len w)) refl e1 in
    record {
      long = rw (← back) is.long;
      near = λ at' j t. rw (is.near at' j t, value, back) refl;
    })

number-short : (w : Width) (at : ℕ) (bytes : List ℕ) (why : RegFileRefusal) → number_at w at bytes ≡ Err why → (Bad at ≡ why) × (length bytes < byte_len w)
unfolding number_at
number-short w at bytes why e =
    split ((Bad at ≡ why) × (length bytes < byte_len w)) (cut_at (byte_len w) at bytes) _ why e
    (λ e1. cut-short (byte_len w) at bytes why (nat_lt (length bytes) (byte_len w)) refl e1)
    (λ y e1 m1. absurd (cc))

-- a place is reported
pub told : (p at : ℕ) → Bad p ≡ Bad at → p ≡ at
told p at e = cc

-- a place before the ends
pub low_place : (p : ℕ) → p ≤ 28 → IsEndPlace p
low_place p low h = absurd (omega (arith, low, h))

-- a field that is refused
field-fault : {A : Type 0} (R : List ℕ → Read A) (P : A → Type 0) (p s : ℕ) (bytes : List ℕ) (at : ℕ)
    → p ≡ at → IsEndPlace p → field_end p ≡ p + s → Fills R P []
    → (s ≤ length bytes → (t : List ℕ) → R (take s bytes ++ t) ≡ Err (Bad p)) → Fault R P p bytes at
field-fault R P p s bytes at same place end fills broken =
    let none : p - p ≡ 0 = omega arith in
    let size : p + s - p ≡ s = omega arith in
    let past : p ≤ p + s = omega arith in
    rw (← same)
    (record {
      above = omega arith;
      place = place;
      past = rw end past;
      there = omega arith;
      before = rw none fills;
      field = λ fits t. rw (end, size) (broken (omega (arith, end, fits)) t);
    })

-- a number that was read, and its test
tested : (test : ℕ → Bool) (why : RegFileRefusal) (n : ℕ) (rest : List ℕ) → test n ≡ true → passing test why (Ok (n, rest)) ≡ Ok (n, rest)
tested test why n rest e = rw e refl

-- what a test said
by-test : {A : Type 0} (G : Type 0) (p : ℕ) (y : A × List ℕ) (why : RegFileRefusal) (t : Bool) → cond {A = Read A} t (Ok y) (Err (Bad p)) ≡ Err why
    → (t ≡ false → Bad p ≡ why → G) → G
by-test G p y why true e next = absurd (cc)
by-test G p y why false e next = next refl (cc)

refusal-of : {A : Type 0} (G : Type 0) (test : A → Bool) (p : ℕ) (r : Read A) (why : RegFileRefusal) → passing test (Bad p) r ≡ Err why
    → (r ≡ Err why → G) → ((y : A × List ℕ) → r ≡ Ok y → test y.0 ≡ false → Bad p ≡ why → G) → G
refusal-of G test p (Ok y) why e first next = by-test G p y why (test y.0) e (λ f same. next y refl f same)
refusal-of G test p (Err other) why e first next = let same : other ≡ why = cc in first (rw same refl)

-- a number in a field
pub number_reads : (w : Width) (p : ℕ) (test : ℕ → Bool) (good : ℕ) → ((t : List ℕ) → number_at w p (to_be_bytes w good ++ t) ≡ Ok (good, t)) → test good ≡ true
    → IsEndPlace p → field_end p ≡ p + byte_len w → Reads (λ bytes. passing test (Bad p) (number_at w p bytes)) (λ n. test n ≡ true) p (byte_len w)
number_reads w p test good again may place end =
    let R : List ℕ → Read ℕ = λ bytes. passing test (Bad p) (number_at w p bytes) in
    let P : ℕ → Type 0 = λ n. test n ≡ true in
    let fills : Fills R P [] = (to_be_bytes w good, good, may, λ t. rw (again t, may) refl) in record {
      took = λ bytes n rest e.
          let is = passed test (Bad p) (number_at w p bytes) (n, rest) e in
          let read = number-took w p bytes n rest is.0 in record {
            kept = is.1;
            long = read.long;
            near = λ j t. rw (read.near p j t, is.1) refl;
          };
      fault = λ bytes at e.
          refusal-of (Fault R P p bytes at) test p (number_at w p bytes) (Bad at) e
          (λ e1.
          let short = number-short w p bytes (Bad at) e1 in
          field-fault R P p (byte_len w) bytes at (told p at short.0) place end fills (λ fits t. absurd (omega (arith, fits, short.1))))
          (λ y e1 broken same.
          let read = number-took w p bytes y.0 y.1 e1 in
          let none : byte_len w + 0 ≡ byte_len w = omega arith in
          let near : (t : List ℕ) → number_at w p (take (byte_len w) bytes ++ t) ≡ Ok (y.0, t) = λ t. rw none at (read.near p 0 t) in
          field-fault R P p (byte_len w) bytes at (told p at same) place end fills (λ fits t. rw (near t, broken) refl));
      fills = fills;
    }

-- the byte of those in sync
abbrev pub sync : ℕ → ℕ → List ℕ → Read ℕ
sync brokers leader bytes = passing (sync_may brokers leader) (Bad 28) (byte_at 28 bytes)

-- the leader alone may be in sync
alone : (brokers leader : ℕ) → leader < brokers → sync_may brokers leader (2 ^ leader) ≡ true
alone brokers leader one =
    let below : 2 ^ leader < 2 ^ brokers = pow_below leader brokers one in
    let whole-bit : 1 * 2 ^ leader / 2 ^ leader ≡ 1 = shl-shr 1 leader in
    let same : 1 * 2 ^ leader ≡ 2 ^ leader = omega arith in
    let bit : 2 ^ leader / 2 ^ leader ≡ 1 = rw same at whole-bit in
    rw (lt-ltb (2 ^ leader) (2 ^ brokers) below, bit) refl

sync-took : (brokers leader : ℕ) (bytes : List ℕ) (n : ℕ) (rest : List ℕ) → sync brokers leader bytes ≡ Ok (n, rest)
    → Took (sync brokers leader) (λ n. sync_may brokers leader n ≡ true) 1 bytes n rest
sync-took brokers leader [] n rest e = absurd (cc)
sync-took brokers leader (b ∷ bytes) n rest e =
    let is = passed (sync_may brokers leader) (Bad 28) (Ok (b, bytes)) (n, rest) e in
    let same = ok_same _ (b, bytes) (n, rest) refl is.0 in
    let value : b ≡ n = ap (λ (z : ℕ × List ℕ). z.0) same in
    let back : bytes ≡ rest = ap (λ (z : ℕ × List ℕ). z.1) same in
    let may : sync_may brokers leader b ≡ true = rw value is.1 in
    rw (← value, ← back)
    (record {
      kept = may;
      long = omega arith;
      near = λ j t. let next : 1 + j ≡ suc j = omega arith in rw (next, may) refl;
    })

sync-fault : (brokers leader : ℕ) (bytes : List ℕ) (at : ℕ) → leader < brokers → sync brokers leader bytes ≡ Err (Bad at)
    → Fault (sync brokers leader) (λ n. sync_may brokers leader n ≡ true) 28 bytes at
sync-fault brokers leader [] at one e =
    let P : ℕ → Type 0 = λ n. sync_may brokers leader n ≡ true in
    let may = alone brokers leader one in
    let fills : Fills (sync brokers leader) P [] = (2 ^ leader ∷ [], 2 ^ leader, may, λ t. rw may refl) in
    field-fault (sync brokers leader) P 28 1 [] at (told 28 at (cc)) (low_place 28 (omega arith)) refl fills (λ fits t. absurd (omega (arith, fits)))
sync-fault brokers leader (b ∷ bytes) at one e =
    let P : ℕ → Type 0 = λ n. sync_may brokers leader n ≡ true in
    let may = alone brokers leader one in
    let fills : Fills (sync brokers leader) P [] = (2 ^ leader ∷ [], 2 ^ leader, may, λ t. rw may refl) in
    refusal-of (Fault (sync brokers leader) P 28 (b ∷ bytes) at) (sync_may brokers leader) 28 (Ok (b, bytes)) (Bad at) e
    (λ e1. absurd (cc))
    (λ y e1 broken same.
    let pair = ok_same _ (b, bytes) y refl e1 in
    let value : b ≡ y.0 = ap (λ (z : ℕ × List ℕ). z.0) pair in
    let not : sync_may brokers leader b ≡ false = rw value broken in
    field-fault (sync brokers leader) P 28 1 (b ∷ bytes) at (told 28 at same) (low_place 28 (omega arith)) refl fills (λ fits t. rw not refl))

pub sync_reads : (brokers leader : ℕ) → leader < brokers → Reads (sync brokers leader) (λ n. sync_may brokers leader n ≡ true) 28 1
sync_reads brokers leader one =
    let may = alone brokers leader one in record {
      took = sync-took brokers leader;
      fault = λ bytes at e. sync-fault brokers leader bytes at one e;
      fills = (2 ^ leader ∷ [], 2 ^ leader, may, λ t. rw may refl);
    }
