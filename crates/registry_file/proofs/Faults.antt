-- Where a reading is refused, and that it is refused by the bytes up to the end of that field alone.
use Rattle.std.proofs.Common.{◌≡◌, ap, refl, ℕ, ◌+◌, ◌-◌, ◌≤◌, List, [], ◌++◌, length, take, Result, Ok, Err, arith, append_assoc}
use Rattle.registry_file.specs.declared.refusal.RegFileRefusal.{RegFileRefusal}
use Rattle.registry_file.specs.declared.refusal.RegFileRefusal.TheVariants.{Bad}
use Rattle.registry_file.specs.Reading.{Read, ◌>>=◌}
use Rattle.registry_file.specs.Faults.{field_end, IsEndPlace}
use Rattle.registry_file.proofs.Inverting.{peeled, ok_same}

-- these bytes can continue as what the reader takes
abbrev pub Fills : {A : Type 0} → (List ℕ → Read A) → (A → Type 0) → List ℕ → Type 0
Fills {A} R P front = (more : List ℕ) × (x : A) × P x × ((t : List ℕ) → R (front ++ (more ++ t)) ≡ Ok (x, t))

-- a reader from the place p on refuses at a place
pub record Fault {A : Type 0} (R : List ℕ → Read A) (P : A → Type 0) (p : ℕ) (bytes : List ℕ) (at : ℕ) : Type 0 where
  pub above : p ≤ at
  pub place : IsEndPlace at
  pub past : at ≤ field_end at
  pub there : at ≤ p + length bytes
  pub before : Fills R P (take (at - p) bytes)
  pub field : field_end at ≤ p + length bytes → (t : List ℕ) → R (take (field_end at - p) bytes ++ t) ≡ Err (Bad at)

-- what a reader took
pub record Took {A : Type 0} (R : List ℕ → Read A) (P : A → Type 0) (s : ℕ) (bytes : List ℕ) (x : A) (rest : List ℕ) : Type 0 where
  pub kept : P x
  pub long : length bytes ≡ s + length rest
  pub near : (j : ℕ) (t : List ℕ) → R (take (s + j) bytes ++ t) ≡ Ok (x, take j rest ++ t)

-- a reader of s bytes from the place p on, whose values keep P
pub record Reads {A : Type 0} (R : List ℕ → Read A) (P : A → Type 0) (p s : ℕ) : Type 0 where
  pub took : (bytes : List ℕ) (x : A) (rest : List ℕ) → R bytes ≡ Ok (x, rest) → Took R P s bytes x rest
  pub fault : (bytes : List ℕ) (at : ℕ) → R bytes ≡ Err (Bad at) → Fault R P p bytes at
  pub fills : Fills R P []

-- either part of a reading was refused
pub split : {A B : Type 0} (G : Type 0) (r : Result A RegFileRefusal) (f : A → Result B RegFileRefusal) (why : RegFileRefusal) → r >>= f ≡ Err why
    → (r ≡ Err why → G) → ((y : A) → r ≡ Ok y → f y ≡ Err why → G) → G
split G (Ok y) f why e first then = then y refl e
split {A} {B} G (Err other) f why e first then = let same : other ≡ why = cc in first (rw same refl)

-- nothing more is read
pub pure_reads : {A : Type 0} (x : A) (P : A → Type 0) (p : ℕ) → P x → Reads (λ bytes. Ok (x, bytes)) P p 0
pure_reads {A} x P p kept = record {
  took = λ bytes y rest e.
      let same = ok_same _ (x, bytes) (y, rest) refl e in
      let value : x ≡ y = ap (λ (z : A × List ℕ). z.0) same in
      let back : bytes ≡ rest = ap (λ (z : A × List ℕ). z.1) same in
      rw (← value, ← back) (record { kept = kept; long = omega arith; near = λ j t. let none : 0 + j ≡ j = omega arith in rw none refl });
  fault = λ bytes at e. absurd (cc);
  fills = ([], x, kept, λ t. refl);
}

-- one reader after another
abbrev pub then : {A B : Type 0} → (List ℕ → Read A) → (A → List ℕ → Read B) → List ℕ → Read B
then R Q bytes = R bytes >>= λ y. Q y.0 y.1

pub seq_reads : {A B : Type 0} (R : List ℕ → Read A) (P : A → Type 0) (Q : A → List ℕ → Read B) (P2 : B → Type 0) (p s s2 : ℕ)
    → Reads R P p s → ((x : A) → P x → Reads (Q x) P2 (p + s) s2) → Reads (then R Q) P2 p (s + s2)
seq_reads {A} {B} R P Q P2 p s s2 first second = record {
  took = λ bytes x2 rest2 e.
      peeled (Took (then R Q) P2 (s + s2) bytes x2 rest2) (R bytes) _ (x2, rest2) e (λ y e1 m1.
      let a = first.took bytes y.0 y.1 e1 in
      let b = (second y.0 a.kept).took y.1 x2 rest2 m1 in
      record {
        kept = b.kept;
        long = omega (arith, a.long, b.long);
        near = λ j t.
            let sum : s + s2 + j ≡ s + (s2 + j) = omega arith in
            rw (sum, a.near (s2 + j) t) (b.near j t);
      });
  fault = λ bytes at e.
      split (Fault (then R Q) P2 p bytes at) (R bytes) _ (Bad at) e
      (λ e1.
      let a = first.fault bytes at e1 in
      let m = a.before.0 in
      let b = (second a.before.1 a.before.2).fills in
      record {
        above = a.above;
        place = a.place;
        past = a.past;
        there = a.there;
        before = (m ++ b.0, b.1, b.2, λ t. rw (append_assoc m b.0 t, a.before.3 (b.0 ++ t)) (b.3 t));
        field = λ fits t. rw (a.field fits t) refl;
      })
      (λ y e1 m1.
      let a = first.took bytes y.0 y.1 e1 in
      let b = (second y.0 a.kept).fault y.1 at m1 in
      let to-at : at - p ≡ s + (at - (p + s)) = omega (arith, b.above) in
      let to-end : field_end at - p ≡ s + (field_end at - (p + s)) = omega (arith, b.above, b.past) in
      record {
        above = omega (arith, b.above);
        place = b.place;
        past = b.past;
        there = omega (arith, b.there, a.long);
        before = (b.before.0, b.before.1, b.before.2, λ t. rw (to-at, a.near (at - (p + s)) (b.before.0 ++ t)) (b.before.3 t));
        field = λ fits t. rw (to-end, a.near (field_end at - (p + s)) t) (b.field (omega (arith, fits, a.long)) t);
      });
  fills =
      let a = first.fills in
      let b = (second a.1 a.2).fills in
      (a.0 ++ b.0, b.1, b.2, λ t. rw (append_assoc a.0 b.0 t, a.3 (b.0 ++ t)) (b.3 t));
}
