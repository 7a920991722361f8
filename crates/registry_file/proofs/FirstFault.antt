-- The place of a refusal is that of the first fault.
use Rattle.std.proofs.Common.{◌≡◌, refl, ℕ, zero, suc, ◌+◌, ◌-◌, ◌*◌, ◌%◌, ◌^◌, ◌<◌, ◌≤◌, ◌==◌, nat_lt, nat_le, true, List, [], ◌∷◌, ◌++◌, length, take, Result, Ok, Err, arith}
use Rattle.std.specs.Int.{w16, w32, w64}
use Rattle.std.proofs.lemmas.Bool.{lt-ltb, le-leb, ltb-true, and_parts}
use Rattle.registry.specs.declared.view.RegView.{RegView}
use Rattle.registry.specs.View.{eight}
use Rattle.registry_file.specs.declared.parts.Front.{Front}
use Rattle.registry_file.specs.declared.parts.Marks.{Marks}
use Rattle.registry_file.specs.declared.refusal.RegFileRefusal.{RegFileRefusal}
use Rattle.registry_file.specs.declared.refusal.RegFileRefusal.TheVariants.{Bad}
use Rattle.registry_file.specs.Spelling.{magic}
use Rattle.registry_file.specs.Reading.{Read, ◌>>=◌, passing, number_at, count_may, sync_may, front_at, marks_at, end_at, ends_at, eight_at, whole, joined, view_in}
use Rattle.registry_file.specs.Faults.{field_end, IsEndPlace, IsFirstFault}
use Rattle.registry_file.proofs.Again.{u16_again, u32_again, u64_again}
use Rattle.registry_file.proofs.Faults.{Reads, pure_reads, seq_reads, then, split}
use Rattle.registry_file.proofs.FieldFaults.{sync, told, low_place, number_reads, sync_reads}

-- what the front's values keep
abbrev FrontKept : Front → Type 0
FrontKept front = front.leader.0 < front.brokers

abbrev tag_in : List ℕ → Read ℕ
tag_in bytes = passing (λ n. n == magic) (Bad 0) (number_at w32 0 bytes)

abbrev brokers_in : List ℕ → Read ℕ
brokers_in bytes = passing count_may (Bad 4) (number_at w16 4 bytes)

abbrev epoch_in : List ℕ → Read ℕ
epoch_in bytes = passing (λ n. nat_lt n (2 ^ 31)) (Bad 6) (number_at w32 6 bytes)

abbrev leader_in : ℕ → List ℕ → Read ℕ
leader_in brokers bytes = passing (λ n. nat_lt n brokers) (Bad 10) (number_at w16 10 bytes)

abbrev after_leader : ℕ → ℕ → ℕ → List ℕ → Read Front
after_leader brokers epoch leader bytes = Ok (record { brokers = brokers; epoch = epoch; leader = record { 0 = leader } }, bytes)

abbrev after_epoch : ℕ → ℕ → List ℕ → Read Front
after_epoch brokers epoch = then (leader_in brokers) (after_leader brokers epoch)

abbrev after_brokers : ℕ → List ℕ → Read Front
after_brokers brokers = then epoch_in (after_epoch brokers)

abbrev after_tag : ℕ → List ℕ → Read Front
after_tag tag = then brokers_in after_brokers

front-reads : Reads front_at FrontKept 0 12
unfolding front_at
front-reads =
    seq_reads tag_in (λ n. (n == magic) ≡ true) after_tag FrontKept 0 4 8
    (number_reads w32 0 (λ n. n == magic) magic (λ t. u32_again 0 magic t (omega arith)) refl (low_place 0 (omega arith)) refl)
    (λ tag is1.
    seq_reads brokers_in (λ n. count_may n ≡ true) after_brokers FrontKept 4 2 6
    (number_reads w16 4 count_may 1 (λ t. u16_again 4 1 t (omega arith)) refl (low_place 4 (omega arith)) refl)
    (λ brokers is2.
    let some : 0 < brokers = ltb-true 0 brokers (and_parts (nat_lt 0 brokers) (nat_le brokers 8) is2).0 in
    seq_reads epoch_in (λ n. nat_lt n (2 ^ 31) ≡ true) (after_epoch brokers) FrontKept 6 4 2
    (number_reads w32 6 (λ n. nat_lt n (2 ^ 31)) 0 (λ t. u32_again 6 0 t (omega arith)) refl (low_place 6 (omega arith)) refl)
    (λ epoch is3.
    seq_reads (leader_in brokers) (λ n. nat_lt n brokers ≡ true) (after_leader brokers epoch) FrontKept 10 2 0
    (number_reads w16 10 (λ n. nat_lt n brokers) 0 (λ t. u16_again 10 0 t (omega arith)) (lt-ltb 0 brokers some) (low_place 10 (omega arith)) refl)
    (λ leader is4.
    pure_reads (record { brokers = brokers; epoch = epoch; leader = record { 0 = leader } }) FrontKept 12 (ltb-true leader brokers is4)))))

abbrev mark_in : List ℕ → Read ℕ
mark_in bytes = passing (λ n. nat_le n (2 ^ 62)) (Bad 12) (number_at w64 12 bytes)

abbrev start_in : ℕ → List ℕ → Read ℕ
start_in mark bytes = passing (λ n. nat_le n mark) (Bad 20) (number_at w64 20 bytes)

abbrev after_sync : ℕ → ℕ → ℕ → List ℕ → Read Marks
after_sync mark start bits bytes = Ok (record { mark = mark; start = start; in_sync = bits }, bytes)

abbrev after_start : ℕ → ℕ → ℕ → ℕ → List ℕ → Read Marks
after_start brokers leader mark start = then (sync brokers leader) (after_sync mark start)

abbrev after_mark : ℕ → ℕ → ℕ → List ℕ → Read Marks
after_mark brokers leader mark = then (start_in mark) (after_start brokers leader mark)

-- nothing is asked of a value
abbrev Any : {A : Type 0} → A → Type 0
Any x = Unit {0}

marks-reads : (brokers leader : ℕ) → leader < brokers → Reads (marks_at brokers leader) Any 12 17
unfolding marks_at
marks-reads brokers leader one =
    seq_reads mark_in (λ n. nat_le n (2 ^ 62) ≡ true) (after_mark brokers leader) Any 12 8 9
    (number_reads w64 12 (λ n. nat_le n (2 ^ 62)) 0 (λ t. u64_again 12 0 t (omega arith)) refl (low_place 12 (omega arith)) refl)
    (λ mark is1.
    seq_reads (start_in mark) (λ n. nat_le n mark ≡ true) (after_start brokers leader mark) Any 20 8 1
    (number_reads w64 20 (λ n. nat_le n mark) 0 (λ t. u64_again 20 0 t (omega arith)) (le-leb 0 mark (omega arith)) (low_place 20 (omega arith)) refl)
    (λ start is2.
    seq_reads (sync brokers leader) (λ n. sync_may brokers leader n ≡ true) (after_sync mark start) Any 28 1 0
    (sync_reads brokers leader one)
    (λ bits is3. pure_reads (record { mark = mark; start = start; in_sync = bits }) Any 29 tt)))

-- the bytes of so many ends
abbrev size_of : ℕ → ℕ
size_of zero = 0
size_of (suc more) = 8 + (size_of more + 0)

size-is : (count : ℕ) → size_of count ≡ 8 * count
size-is zero = refl
size-is (suc more) = let is : size_of more ≡ 8 * more = size-is more in omega (arith, is)

abbrev behind_ends : ℕ → List ℕ → List ℕ → Read (List ℕ)
behind_ends end ends bytes = Ok (end ∷ ends, bytes)

abbrev after_end : ℕ → ℕ → ℕ → List ℕ → Read (List ℕ)
after_end more p end = then (ends_at more (p + 8)) (behind_ends end)

-- where an end ends
end-end : (p : ℕ) → 28 < p → field_end p ≡ p + 8
end-end p high = rw (lt-ltb 28 p high) refl

ends-reads : (count p : ℕ) → 28 < p → IsEndPlace p → Reads (ends_at count p) Any p (size_of count)
ends-reads zero p high place = pure_reads [] Any p tt
ends-reads (suc more) p high place =
    let next : IsEndPlace (p + 8) = λ h. let is : (p - 29) % 8 ≡ 0 = place high in omega (arith, high, is) in
    seq_reads (end_at p) (λ n. nat_le n (2 ^ 62) ≡ true) (after_end more p) Any p 8 (size_of more + 0)
    (number_reads w64 p (λ n. nat_le n (2 ^ 62)) 0 (λ t. u64_again p 0 t (omega arith)) refl place (end-end p high))
    (λ end is1.
    seq_reads (ends_at more (p + 8)) Any (behind_ends end) Any (p + 8) (size_of more) 0
    (ends-reads more (p + 8) (omega (arith, high)) next)
    (λ ends is2. pure_reads (end ∷ ends) Any (p + 8 + size_of more) tt))

abbrev in_eight : List ℕ → List ℕ → Read (List ℕ)
in_eight ends bytes = Ok (eight ends, bytes)

eight-reads : (count : ℕ) → Reads (eight_at count) Any 29 (size_of count + 0)
eight-reads count =
    seq_reads (ends_at count 29) Any in_eight Any 29 (size_of count) 0 (ends-reads count 29 (omega arith) (λ h. refl))
    (λ ends is. pure_reads (eight ends) Any (29 + size_of count) tt)

-- a last reading refuses at a place
record Stop {B : Type 0} (C : List ℕ → Result B RegFileRefusal) (p : ℕ) (bytes : List ℕ) (at : ℕ) : Type 0 where
  above : p ≤ at
  place : IsEndPlace at
  past : at ≤ field_end at
  there : at ≤ p + length bytes
  before : (more : List ℕ) × (y : B) × (C (take (at - p) bytes ++ more) ≡ Ok y)
  field : field_end at ≤ p + length bytes → (t : List ℕ) → C (take (field_end at - p) bytes ++ t) ≡ Err (Bad at)

record Stops {B : Type 0} (C : List ℕ → Result B RegFileRefusal) (p : ℕ) : Type 0 where
  stop : (bytes : List ℕ) (at : ℕ) → C bytes ≡ Err (Bad at) → Stop C p bytes at
  fills : (more : List ℕ) × (y : B) × (C more ≡ Ok y)

abbrev last : {A B : Type 0} → (List ℕ → Read A) → (A → List ℕ → Result B RegFileRefusal) → List ℕ → Result B RegFileRefusal
last R C bytes = R bytes >>= λ y. C y.0 y.1

stops-behind : {A B : Type 0} (R : List ℕ → Read A) (P : A → Type 0) (C : A → List ℕ → Result B RegFileRefusal) (p s : ℕ)
    → Reads R P p s → ((x : A) → P x → Stops (C x) (p + s)) → Stops (last R C) p
stops-behind {A} {B} R P C p s first second = record {
  stop = λ bytes at e.
      split (Stop (last R C) p bytes at) (R bytes) _ (Bad at) e
      (λ e1.
      let a = first.fault bytes at e1 in
      let b = (second a.before.1 a.before.2).fills in
      record {
        above = a.above;
        place = a.place;
        past = a.past;
        there = a.there;
        before = (a.before.0 ++ b.0, b.1, rw (a.before.3 b.0) b.2);
        field = λ fits t. rw (a.field fits t) refl;
      })
      (λ y e1 m1.
      let a = first.took bytes y.0 y.1 e1 in
      let b = (second y.0 a.kept).stop y.1 at m1 in
      let to-at : at - p ≡ s + (at - (p + s)) = omega (arith, b.above) in
      let to-end : field_end at - p ≡ s + (field_end at - (p + s)) = omega (arith, b.above, b.past) in
      record {
        above = omega (arith, b.above);
        place = b.place;
        past = b.past;
        there = omega (arith, b.there, a.long);
        before = (b.before.0, b.before.1, rw (to-at, a.near (at - (p + s)) b.before.0) b.before.2);
        field = λ fits t. rw (to-end, a.near (field_end at - (p + s)) t) (b.field (omega (arith, fits, a.long)) t);
      });
  fills =
      let a = first.fills in
      let b = (second a.1 a.2).fills in
      (a.0 ++ b.0, b.1, rw (a.3 b.0) b.2);
}

-- a byte that follows
whole-stop : {B : Type 0} (p : ℕ) (x : B) (bytes : List ℕ) (at : ℕ) → 28 < p → IsEndPlace p → whole p x bytes ≡ Err (Bad at) → Stop (whole p x) p bytes at
whole-stop p x [] at high place e = absurd (cc)
whole-stop {B} p x (b ∷ bytes) at high place e =
    let same : p ≡ at = told p at (cc) in
    let end = end-end p high in
    let none : p - p ≡ 0 = omega arith in
    let size : p + 8 - p ≡ 8 = omega arith in
    rw (← same)
    (record {
      above = omega arith;
      place = place;
      past = omega (arith, end);
      there = omega arith;
      before = ([], x, rw none refl);
      field = λ fits t. rw (end, size) refl;
    })

whole-stops : {B : Type 0} (p : ℕ) (x : B) → 28 < p → IsEndPlace p → Stops (whole p x) p
whole-stops p x high place = record { stop = λ bytes at e. whole-stop p x bytes at high place e; fills = ([], x, refl) }

abbrev after_ends : Front → Marks → List ℕ → List ℕ → Result RegView RegFileRefusal
after_ends front marks acked = whole (29 + 8 * front.brokers) (joined front marks acked)

abbrev after_marks : Front → Marks → List ℕ → Result RegView RegFileRefusal
after_marks front marks = last (eight_at front.brokers) (after_ends front marks)

abbrev after_front : Front → List ℕ → Result RegView RegFileRefusal
after_front front = last (marks_at front.brokers front.leader.0) (after_marks front)

view-stops : Stops view_in 0
unfolding view_in
view-stops =
    stops-behind front_at FrontKept after_front 0 12 front-reads (λ front one.
    stops-behind (marks_at front.brokers front.leader.0) Any (after_marks front) 12 17 (marks-reads front.brokers front.leader.0 one) (λ marks is.
    stops-behind (eight_at front.brokers) Any (after_ends front marks) 29 (size_of front.brokers + 0) (eight-reads front.brokers) (λ acked is'.
    let size : size_of front.brokers ≡ 8 * front.brokers = size-is front.brokers in
    let place : 29 + (size_of front.brokers + 0) ≡ 29 + 8 * front.brokers = omega (arith, size) in
    rw place (whole-stops (29 + 8 * front.brokers) (joined front marks acked) (omega arith) (λ h. omega arith)))))

-- no value is a refusal
no-both : (r : Result RegView RegFileRefusal) (view : RegView) (at : ℕ) → r ≡ Ok view → r ≡ Err (Bad at) → ⊥
no-both r view at e e' = absurd (cc)

-- a refusal reports the first fault
pub first_fault : (bytes : List ℕ) (at : ℕ) → view_in bytes ≡ Err (Bad at) → IsFirstFault bytes at
first_fault bytes at e =
    let is = view-stops.stop bytes at e in
    let to-at : at - 0 ≡ at = omega arith in
    let to-end : field_end at - 0 ≡ field_end at = omega arith in record {
      place = is.place;
      there = omega (arith, is.there);
      before = rw to-at at is.before;
      field = λ fits goes.
          let broken = is.field (omega (arith, fits)) goes.0 in
          no-both (view_in (take (field_end at) bytes ++ goes.0)) goes.1 at goes.2 (rw to-end at broken);
    }
