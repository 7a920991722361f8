-- How a call ended, and what its clauses then say.
use Rattle.std.proofs.Common.{◌≡◌, ◌≢◌, refl, Result, Ok, Err, OnOk, IfOk, IfErr, IsErr, true, ℕ}
use Rattle.std.proofs.lemmas.Bool.{true≢false}
use Rattle.tier_base.specs.declared.fault.Trouble.{Trouble}
use Rattle.tier_base.specs.declared.fault.Trouble.TheVariants as trouble
use Rattle.tier_base.specs.Device.{Control, Fate, Went, Fault, Dry, Ran, MayBeDone, fate_of, fate_of_trouble}

pub ok_from_went : {T : Type 0} (r : Result T Trouble) (P : Type 0) → fate_of r ≡ Went → OnOk r P → P
ok_from_went (Ok x) P went h = h
ok_from_went (Err trouble.Failed) P went h = cc
ok_from_went (Err trouble.NoMemory) P went h = cc

pub err_not_went : {T : Type 0} (r : Result T Trouble) → IsErr r → fate_of r ≡ Went → ⊥
err_not_went (Ok x) err went = cc
err_not_went (Err trouble.Failed) err went = cc
err_not_went (Err trouble.NoMemory) err went = cc

-- a call that found no memory wasn't done
pub dry_undone : {K : Type 0} {code : K → ℕ} (call : K) (fate : Fate) (old : Control code) → fate ≡ Dry → MayBeDone call fate old true → ⊥
dry_undone call fate old dry may = true≢false (may.dry dry)

pub trouble_not_went : (trouble : Trouble) → fate_of_trouble trouble ≡ Went → ⊥
trouble_not_went trouble.Failed went = cc
trouble_not_went trouble.NoMemory went = cc

-- what holds of a result
pub if_ok : {T E : Type 0} (r : Result T E) (P Q : T → Type 0) → ((x : T) → P x → Q x) → IfOk r P → IfOk r Q
if_ok (Ok x) P Q f p = f x p
if_ok (Err e) P Q f p = tt

pub if_err : {T E : Type 0} (r : Result T E) (P Q : E → Type 0) → ((e : E) → P e → Q e) → IfErr r P → IfErr r Q
if_err (Ok x) P Q f p = tt
if_err (Err e) P Q f p = f e p

pub on_ok : {T E : Type 0} (r : Result T E) (P Q : Type 0) → (P → Q) → OnOk r P → OnOk r Q
on_ok (Ok x) P Q f p = f p
on_ok (Err e) P Q f p = tt

-- a call that wasn't answered a fault left the count
pub ran_quiet : {K : Type 0} {code : K → ℕ} (call : K) (fate : Fate) (old new : Control code) → Ran call fate old new → fate ≢ Fault → new.faults ≡ old.faults
ran_quiet call Went old new ran quiet = ran.went refl
ran_quiet call Fault old new ran quiet = absurd (quiet refl)
ran_quiet call Dry old new ran quiet = (ran.dry refl).faults
