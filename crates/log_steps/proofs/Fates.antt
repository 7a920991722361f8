-- How a call ended, and what its clauses then say.
use Rattle.std.proofs.Common.{◌≡◌, refl, Result, Ok, Err, OnOk, IsErr}
use Rattle.tier_base.specs.declared.fault.Failed.{Failed}
use Rattle.tier_base.specs.declared.fault.Trouble.{Trouble}
use Rattle.tier_base.specs.declared.fault.Trouble.TheVariants as trouble
use Rattle.tier_base.specs.Device.{Went, fate_of, failing}

pub ok_from_went : {T : Type 0} (r : Result T Trouble) (P : Type 0) → fate_of r ≡ Went → OnOk r P → P
ok_from_went (Ok x) P went h = h
ok_from_went (Err trouble.Failed) P went h = cc
ok_from_went (Err trouble.NoMemory) P went h = cc

pub err_not_went : {T : Type 0} (r : Result T Trouble) → IsErr r → fate_of r ≡ Went → ⊥
err_not_went (Ok x) err went = cc
err_not_went (Err trouble.Failed) err went = cc
err_not_went (Err trouble.NoMemory) err went = cc

pub ok_from_done : {T : Type 0} (r : Result T Failed) (P : Type 0) → failing r ≡ Went → OnOk r P → P
ok_from_done (Ok x) P went h = h
ok_from_done (Err e) P went h = cc

pub err_not_done : {T : Type 0} (r : Result T Failed) → IsErr r → failing r ≡ Went → ⊥
err_not_done (Ok x) err went = cc
err_not_done (Err e) err went = cc

-- what holds where a call went well
pub ok_if_went : {T : Type 0} (r : Result T Failed) (P : Type 0) → (failing r ≡ Went → P) → OnOk r P
ok_if_went (Ok x) P h = h refl
ok_if_went (Err e) P h = tt
