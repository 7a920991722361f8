-- Calls that went well, one after the other.
use Rattle.std.proofs.Common.{◌≡◌, refl, subst, inl, inr, ℕ, Result, Ok, Err}
use Rattle.tier_base.specs.Device.{Control, RanQuietly, Went}
use Rattle.object_store.specs.Call.{call_code}
use Rattle.tier_base.proofs.Lasting.{ran_lasts}
use Rattle.tier_sweep.specs.declared.refusal.SweepRefusal.{SweepRefusal}
use Rattle.tier_sweep.specs.declared.refusal.SweepRefusal.TheVariants.{StoreFault, MetaFault, NoMemory}
use Rattle.tier_sweep.specs.Parts.{AllWent, NoCall, OneMore, MetaRuns, StoreRuns, MetaQuiet, StoreQuiet, Deleted, FailsToDelete, Deletes, DeletesOne, SomeDeleted}

module _ {K : Type 0} {code : K → ℕ} where
  -- one call
  one_went : (call : K) (old new : Control code) → RanQuietly call Went old new → AllWent old new
  one_went call old new ran = OneMore call old new NoCall ran

  -- some calls, and then others
  pub went_then : (old mid new : Control code) → AllWent old mid → AllWent mid new → AllWent old new
  went_then old mid new first NoCall = first
  went_then old mid new first (OneMore call between last second ran) = OneMore call between last (went_then old mid between first second) ran

  -- one call of the metadata log
  pub meta_ran : {T : Type 0} (x : T) (call : K) (old new : Control code) → RanQuietly call Went old new → MetaRuns (Ok x) old new
  meta_ran x call old new ran = record { lasts = ran_lasts call Went old new ran.ran; cause = tt; quiet = ran.ran.went refl; went = λ is. one_went call old new ran }

  -- one call of the store
  pub store_ran : {T : Type 0} (x : T) (call : K) (old new : Control code) → RanQuietly call Went old new → StoreRuns (Ok x) old new
  store_ran x call old new ran = record { lasts = ran_lasts call Went old new ran.ran; cause = tt; quiet = ran.ran.went refl; went = λ is. one_went call old new ran }

-- calls that left the count, and then others
pub meta_quiet : {T : Type 0} (r : Result T SweepRefusal) (before mid now : ℕ) → mid ≡ before → MetaQuiet r mid now → MetaQuiet r before now
meta_quiet r before mid now same quiet = subst (λ (n : ℕ). MetaQuiet r n now) same quiet

pub store_quiet : {T : Type 0} (r : Result T SweepRefusal) (before mid now : ℕ) → mid ≡ before → StoreQuiet r mid now → StoreQuiet r before now
store_quiet r before mid now same quiet = subst (λ (n : ℕ). StoreQuiet r n now) same quiet

-- deletions that went, and one more
pub deletes_more : {T : Type 0} (old mid new : Control call_code) (count : ℕ) (r : Result T SweepRefusal) (e : SweepRefusal) → r ≡ Err e → Deleted old count mid → DeletesOne r mid new → Deletes (Err e) old new
deletes_more old mid new count r StoreFault is before last = record { count = count; mid = mid; before = before; last = subst (λ x. DeletesOne x mid new) is last }
deletes_more old mid new count r MetaFault is before last = absurd (subst (λ x. DeletesOne x mid new) is last)
deletes_more old mid new count r NoMemory is before last = absurd (subst (λ x. DeletesOne x mid new) is last)

-- deletions of a refused sweep
pub some_deleted : (r : Result ℕ SweepRefusal) (old new : Control call_code) → Deletes r old new → SomeDeleted old new
some_deleted (Ok count) old new deleted = inl (count, deleted)
some_deleted (Err StoreFault) old new fails = inr fails
some_deleted (Err MetaFault) old new none = absurd none
some_deleted (Err NoMemory) old new none = absurd none
