-- A call of the disk in memory that was done or not.
use Rattle.std.proofs.Common.{◌≡◌, ℕ, Bool, true, false, List, ◌∷◌, length, Option, Some, Result, Ok, Err, OnOk, ◌∙◌, sym, ap, subst, refl, inl, inr}
use Rattle.tier_base.specs.declared.plain.FileName.{FileName}
use Rattle.tier_base.specs.declared.ending.Ending.{Ending}
use Rattle.tier_base.specs.declared.ending.Ending.TheVariants.{Done}
use Rattle.tier_base.specs.Device.{Fate, Ran, RanQuietly}
use Rattle.tier_base.specs.Faults.{Faults, control_of, is_done}
use Rattle.tier_base.specs.Told.{replaced, removed}
use Rattle.disk_model.specs.Content.{Files, Changes, Keeps, appended, HasGrown, cut_to, CutBack, Swapped, Gone, BeginsWith}
use Rattle.disk_model.specs.Steps.{Step, Append, Sync, Cut, Replace, Remove, reads, changed, After, LeftOf, LeftAfter, LeftSince, content_of}
use Rattle.disk_model.specs.Kept.{KeptSteps, attempts}
use Rattle.disk_model.proofs.Steps.{attempted, sync_attempted, after_only, synced_begins, left_now}

-- a call that returns nothing
pub quiet : {K : Type 0} {code : K → ℕ} (call : K) (fate : Fate) (f g : Faults K) (last_read : List ℕ) → ((before after : List ℕ) → Ran call fate (control_of code f before) (control_of code g after)) → RanQuietly call fate (control_of code f last_read) (control_of code g last_read)
quiet call fate f g last_read ran = record { ran = ran last_read last_read; last_read = refl }

attempt : (old new : KeptSteps) (s : Step) (done d : Bool) (name : FileName) (make : Option (List ℕ) → Option (List ℕ)) (R : Option (List ℕ) → Option (List ℕ) → Type 0) (M : Bool → Type 0) → new ≡ attempts done s old → done ≡ d → M d
    → ((n : FileName) → reads (s ∷ old.past) n ≡ changed name make (reads old.past) n) → ((c : Files) → LeftAfter (s ∷ old.past) c → After (LeftAfter old.past) name R c) → ((file : Option (List ℕ)) → R file file)
    → Changes name make R M (content_of old.past) (content_of new.past)
attempt old new s done d name make R M is same m read left stays =
    subst (λ (k : KeptSteps). Changes name make R M (content_of old.past) (content_of k.past)) (sym is) (attempted old.past s done name make R M (subst M (sym same) m) read left stays)

pub append_attempt : (old new : KeptSteps) (done d : Bool) (name : FileName) (bytes : List ℕ) (M : Bool → Type 0) → new ≡ attempts done (Append name bytes) old → done ≡ d → M d → Changes name (appended bytes) HasGrown M (content_of old.past) (content_of new.past)
append_attempt old new done d name bytes M is same m = attempt old new (Append name bytes) done d name (appended bytes) HasGrown M is same m (λ n. refl) (λ c left. after_only (LeftOf old.past) name HasGrown c left) (λ f. inl refl)

pub cut_attempt : (old new : KeptSteps) (done d : Bool) (name : FileName) (len : ℕ) (M : Bool → Type 0) → new ≡ attempts done (Cut name len) old → done ≡ d → M d → Changes name (cut_to len) (CutBack len) M (content_of old.past) (content_of new.past)
cut_attempt old new done d name len M is same m = attempt old new (Cut name len) done d name (cut_to len) (CutBack len) M is same m (λ n. refl) (λ c left. after_only (LeftOf old.past) name (CutBack len) c left) (λ f. inl refl)

pub remove_attempt : (old new : KeptSteps) (done d : Bool) (name : FileName) (M : Bool → Type 0) → new ≡ attempts done (Remove name) old → done ≡ d → M d → Changes name removed Gone M (content_of old.past) (content_of new.past)
remove_attempt old new done d name M is same m = attempt old new (Remove name) done d name removed Gone M is same m (λ n. refl) (λ c left. after_only (LeftOf old.past) name Gone c left) (λ f. inl refl)

swapped : (name : FileName) (bytes : List ℕ) (sure : Bool) (past : List Step) (c : Files) → LeftAfter (Replace name bytes sure ∷ past) c → After (LeftAfter past) name (Swapped bytes) c
swapped name bytes true past c left = (let x = after_only (LeftOf past) name (λ before after. after ≡ Some bytes) c left in (x.0, x.1, record { there = inr x.2.there; others = x.2.others }))
swapped name bytes false past c left = after_only (LeftOf past) name (Swapped bytes) c left

pub replace_attempt : (old new : KeptSteps) (done d : Bool) (name : FileName) (bytes : List ℕ) (sure : Bool) (M : Bool → Type 0) → new ≡ attempts done (Replace name bytes sure) old → done ≡ d → M d → Changes name (replaced bytes) (Swapped bytes) M (content_of old.past) (content_of new.past)
replace_attempt old new done d name bytes sure M is same m =
    attempt old new (Replace name bytes sure) done d name (replaced bytes) (Swapped bytes) M is same m (λ n. refl) (swapped name bytes sure old.past) (λ f. inl refl)

pub sync_attempt : (old new : KeptSteps) (done : Bool) (name : FileName) → new ≡ attempts done (Sync name) old → Keeps (content_of old.past) (content_of new.past)
sync_attempt old new done name is = subst (λ (k : KeptSteps). Keeps (content_of old.past) (content_of k.past)) (sym is) (sync_attempted old.past done name)

sync_left : (old new : KeptSteps) (done : Bool) (name : FileName) → done ≡ true → new ≡ attempts done (Sync name) old → (c : Files) → LeftSince new.past (length new.past) c → BeginsWith (reads old.past name) (c name)
sync_left old new done name was_done is =
    let past : new.past ≡ Sync name ∷ old.past = ap (λ (k : KeptSteps). k.past) is ∙ ap (λ (b : Bool). (attempts b (Sync name) old).past) was_done in
    subst (λ (p : List Step). (c : Files) → LeftSince p (length p) c → BeginsWith (reads old.past name) (c name)) (sym past)
    (λ c left. synced_begins old.past name c (left_now (Sync name ∷ old.past) c left))

pub sync_durable : {T E : Type 0} (r : Result T E) (ending : Ending) (old new : KeptSteps) (done : Bool) (name : FileName) → OnOk r (ending ≡ Done) → done ≡ is_done ending → new ≡ attempts done (Sync name) old
    → OnOk r ((c : Files) → LeftSince new.past (length new.past) c → BeginsWith (reads old.past name) (c name))
sync_durable (Ok x) ending old new done name ok same is = sync_left old new done name (same ∙ ap is_done ok) is
sync_durable (Err e) ending old new done name ok same is = tt
