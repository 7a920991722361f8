-- Where a log is after a call, by how the call ended.
use Rattle.std.proofs.Common.{◌≡◌, ◌⊎◌, ◌↔◌, sym, subst, refl, inl, inr, Bool, true, false, Result, Ok, Err, IfOk, IfErr, OnOk, OnErr, IsErrOf, IsOk, IsTrue, ⊎_elim, ℕ, ◌≤◌, ◌<◌, arith}
use Rattle.std.proofs.lemmas.Bool.{cases_lt}
use Rattle.tier_base.specs.declared.plain.Settings.{Settings}
use Rattle.local_log.specs.Log.{Log, AreSettings}
use Rattle.tier_base.specs.declared.fault.Trouble.{Trouble}
use Rattle.tier_base.specs.declared.fault.Trouble.TheVariants.{Failed, NoMemory}
use Rattle.local_log.specs.declared.refusal.RollRefusal.{RollRefusal}
use Rattle.local_log.specs.declared.refusal.RollRefusal.TheVariants.{TooManySegments, EmptySegment, DiskFault}
use Rattle.broker_log.specs.declared.place.LogOrDisk.{LogOrDisk}
use Rattle.broker_log.specs.declared.place.LogOrDisk.TheVariants as place
use Rattle.broker_log.specs.Seen.{Up}
use Rattle.broker_log.specs.Inside.{kept_of, IsWell}

-- it ended otherwise than by a fault
pub ok_open : {T E : Type 0} {fault : E} (P : T → Type 0) (r : Result T E) (b : Bool) → (IsTrue b ↔ IsErrOf r fault) → (b ≡ false → IfOk r P) → IfOk r P
ok_open P (Ok x) true is f = absurd (cc (is.0 refl))
ok_open P (Ok x) false is f = f refl
ok_open P (Err e) b is f = tt

pub dry_open : {T E : Type 0} {fault dry : E} (r : Result T E) (b : Bool) → (IsTrue b ↔ IsErrOf r fault) → IsErrOf r dry → (dry ≡ fault → ⊥) → b ≡ false
dry_open (Ok x) true is dry apart = absurd (cc dry)
dry_open (Ok x) false is dry apart = refl
dry_open (Err e) true is dry apart = absurd (apart (cc (dry, is.0 refl)))
dry_open (Err e) false is dry apart = refl

pub ok_both : {T E : Type 0} (P Q R : T → Type 0) (r : Result T E) → ((x : T) → P x → Q x → R x) → IfOk r P → IfOk r Q → IfOk r R
ok_both P Q R (Ok x) f p q = f x p q
ok_both P Q R (Err e) f p q = tt

pub on_open : {T E : Type 0} {fault : E} (P : Type 0) (r : Result T E) (b : Bool) → (IsTrue b ↔ IsErrOf r fault) → (b ≡ false → OnOk r P) → OnOk r P
on_open P (Ok x) true is f = absurd (cc (is.0 refl))
on_open P (Ok x) false is f = f refl
on_open P (Err e) b is f = tt

pub on_told : {T E : Type 0} (P Q : Type 0) (r : Result T E) → (P → Q) → OnOk r P → OnOk r Q
on_told P Q (Ok x) f p = f p
on_told P Q (Err e) f p = tt

pub on_both : {T E : Type 0} (P Q R : Type 0) (r : Result T E) → (P → Q → R) → OnOk r P → OnOk r Q → OnOk r R
on_both P Q R (Ok x) f p q = f p q
on_both P Q R (Err e) f p q = tt

-- an answer, and what else holds where there is one
pub ok_told : {T E : Type 0} (P Q : T → Type 0) {A B : Type 0} (r : Result T E) → ((x : T) → P x → A → B → Q x) → IfOk r P → OnOk r A → OnOk r B → IfOk r Q
ok_told P Q (Ok x) f p a b = f x p a b
ok_told P Q (Err e) f p a b = tt

-- what a call leaves that didn't end by a fault
pub whole_by : {T E : Type 0} {fault : E} (P : T → Type 0) (Q : Type 0) (A B : Type 0) (r : Result T E) → IfOk r P → OnErr r (A ⊎ (B ⊎ IsErrOf r fault)) → ((x : T) → P x → Q) → (A → Q) → (B → Q) → (IsErrOf r fault → ⊥) → Q
whole_by P Q A B (Ok x) ok others f a b not = f x ok
whole_by P Q A B (Err e) ok (inl h) f a b not = a h
whole_by P Q A B (Err e) ok (inr (inl h)) f a b not = b h
whole_by P Q A B (Err e) ok (inr (inr h)) f a b not = absurd (not h)

module _ {D : Type 0} where
  -- an open log was taken out
  pub well_up : (p : LogOrDisk D) (log : Log D) → kept_of p ≡ Up log → IsWell p → log.broken ≡ false
  well_up (place.Up l) log is well = let same : l ≡ log = cc is in subst (λ (x : Log D). x.broken ≡ false) same well
  well_up (place.Down settings disk) log is well = absurd (cc is)
  well_up place.Away log is well = absurd well

  pub place_well : (p : LogOrDisk D) (settings : Settings) (n : Log D) (b : Bool) → AreSettings settings → (b ≡ false → p ≡ place.Up n) → (b ≡ true → p ≡ place.Down settings n.disk)
      → (b ≡ false → n.broken ≡ false) → IsWell p
  place_well p settings n true are up down whole = subst IsWell (sym (down refl)) are
  place_well p settings n false are up down whole = subst IsWell (sym (up refl)) (whole refl)

-- what a call of no answer leaves that didn't end by a fault
pub whole_on : {T E : Type 0} {fault : E} (P P2 : Type 0) (Q : Type 0) (B : Type 0) (r : Result T E) → OnOk r P → OnOk r P2 → OnErr r (B ⊎ IsErrOf r fault) → (P → P2 → Q) → (B → Q) → (IsErrOf r fault → ⊥) → Q
whole_on P P2 Q B (Ok x) ok ok2 others f b not = f ok ok2
whole_on P P2 Q B (Err e) ok ok2 (inl h) f b not = b h
whole_on P P2 Q B (Err e) ok ok2 (inr h) f b not = absurd (not h)

-- the answer that has the end in place of nothing
pub ended_ok : {T A B : Type 0} (P : ℕ → Type 0) (r : Result T Trouble) (r' : Result ℕ Trouble) (end : ℕ) (b : Bool) → (IsTrue b ↔ IsErrOf r Failed) → (IsOk r → r' ≡ Ok end) → IfErr r (λ e. r' ≡ Err e) → OnOk r A → OnOk r B → (b ≡ false → A → B → P end) → IfOk r' P
ended_ok P (Ok x) r' end true is ok err a b f = absurd (cc (is.0 refl))
ended_ok P (Ok x) r' end false is ok err a b f = subst (λ (q : Result ℕ Trouble). IfOk q P) (sym (ok refl)) (f refl a b)
ended_ok P (Err e) r' end b is ok err a b2 f = subst (λ (q : Result ℕ Trouble). IfOk q P) (sym err) tt

pub ended_err : {T : Type 0} (r : Result T Trouble) (r' : Result ℕ Trouble) (end : ℕ) → (IsOk r → r' ≡ Ok end) → IfErr r (λ e. r' ≡ Err e) → OnErr r (IsErrOf r NoMemory ⊎ IsErrOf r Failed) → OnErr r' (IsErrOf r' NoMemory ⊎ IsErrOf r' Failed)
ended_err (Ok x) r' end ok err others = subst (λ (q : Result ℕ Trouble). OnErr q (IsErrOf q NoMemory ⊎ IsErrOf q Failed)) (sym (ok refl)) tt
ended_err (Err e) r' end ok err others = subst (λ (q : Result ℕ Trouble). OnErr q (IsErrOf q NoMemory ⊎ IsErrOf q Failed)) (sym err) (⊎_elim (λ h. inl (cc h)) (λ h. inr (cc h)) others)

pub ended_dry : {T : Type 0} (r : Result T Trouble) (r' : Result ℕ Trouble) (end : ℕ) → (IsOk r → r' ≡ Ok end) → IfErr r (λ e. r' ≡ Err e) → IsErrOf r' NoMemory → IsErrOf r NoMemory
ended_dry (Ok x) r' end ok err dry = absurd (cc (ok refl, dry))
ended_dry (Err e) r' end ok err dry = cc (err, dry)

pub ended_fault : {T : Type 0} (r : Result T Trouble) (r' : Result ℕ Trouble) (end : ℕ) → (IsOk r → r' ≡ Ok end) → IfErr r (λ e. r' ≡ Err e) → IsErrOf r' Failed → IsErrOf r Failed
ended_fault (Ok x) r' end ok err fault = absurd (cc (ok refl, fault))
ended_fault (Err e) r' end ok err fault = cc (err, fault)

-- a log that rolled, or broke as it did, had what to roll, and room
may_roll : (size closed : ℕ) → (size ≡ 0 → ⊥) → ((0 < size) × (4095 ≤ closed) → ⊥) → (0 < size) × (closed < 4095)
may_roll size closed some few = elim (cases_lt 0 size) [
  | inl more ↦ elim (cases_lt closed 4095) [ inl less ↦ (more, less) | inr full ↦ absurd (few (more, full)) ]
  | inr none ↦ absurd (some (omega (arith, none)))
]

pub rolls_where : (r : Result ℕ RollRefusal) (size closed : ℕ) → (IsErrOf r EmptySegment ↔ (size ≡ 0)) → (IsErrOf r TooManySegments ↔ ((0 < size) × (4095 ≤ closed)))
    → (IsOk r ⊎ IsErrOf r DiskFault) → (0 < size) × (closed < 4095)
rolls_where (Ok x) size closed empty many ended = may_roll size closed (λ none. absurd (cc (empty.1 none))) (λ full. absurd (cc (many.1 full)))
rolls_where (Err e) size closed empty many (inl ok) = absurd (cc ok)
rolls_where (Err e) size closed empty many (inr fault) = may_roll size closed (λ none. absurd (cc (fault, empty.1 none))) (λ full. absurd (cc (fault, many.1 full)))
