-- What the disk's refusal makes of a log.
use Rattle.std.proofs.Common.{◌≡◌, Bool, true, false, refl}
use Rattle.tier_base.specs.declared.fault.Trouble.{Trouble}
use Rattle.tier_base.specs.declared.fault.Trouble.TheVariants as fault

-- a log that isn't broken found no memory
pub not_broken : (t : Trouble) (r : Trouble) (new : Bool) → (t ≡ fault.Failed → (r ≡ fault.Failed) × (new ≡ true)) → new ≡ false → t ≡ fault.NoMemory
not_broken fault.Failed r new f e = absurd (cc ((f refl).1, e))
not_broken fault.NoMemory r new f e = refl

-- a fault breaks it
pub breaks : (t : Trouble) (r : Trouble) (new old : Bool) → (t ≡ fault.Failed → (r ≡ fault.Failed) × (new ≡ true)) → (t ≡ fault.NoMemory → (r ≡ fault.NoMemory) × (new ≡ old)) → r ≡ fault.Failed → new ≡ true
breaks fault.Failed r new old f m e = (f refl).1
breaks fault.NoMemory r new old f m e = absurd (cc ((m refl).0, e))

-- running out of memory leaves it
pub stays : (t : Trouble) (r : Trouble) (new old : Bool) → (t ≡ fault.Failed → (r ≡ fault.Failed) × (new ≡ true)) → (t ≡ fault.NoMemory → (r ≡ fault.NoMemory) × (new ≡ old)) → r ≡ fault.NoMemory → new ≡ old
stays fault.Failed r new old f m e = absurd (cc ((f refl).0, e))
stays fault.NoMemory r new old f m e = (m refl).1
