-- A call that returns nothing, and one of a log in memory that was done or not.
use Rattle.std.proofs.Common.{◌≡◌, ◌⊎◌, ◌∙◌, inl, inr, ℕ, Bool, true, false, List, [], ◌∷◌, ◌++◌, refl, sym, subst}
use Rattle.tier_base.specs.Device.{Fate, Ran, RanQuietly}
use Rattle.tier_base.specs.Faults.{Faults, control_of}
use Rattle.segment_meta.specs.declared.note.Note.{Note}
use Rattle.meta_log.specs.Content.{Left, AppendsNote, appended_if}
use Rattle.meta_log.specs.Memory.{content_of}

-- a call that returns nothing
pub quiet : {K : Type 0} {code : K → ℕ} (call : K) (fate : Fate) (f g : Faults K) (last_read : List ℕ) → ((before after : List ℕ) → Ran call fate (control_of code f before) (control_of code g after)) → RanQuietly call fate (control_of code f last_read) (control_of code g last_read)
quiet call fate f g last_read ran = record { ran = ran last_read last_read; last_read = refl }

-- a call that puts an event at the end
pub grows : (old new : List Note) (done d : Bool) (note : Note) (M : Bool → Type 0) → new ≡ appended_if done note old → done ≡ d → M d → AppendsNote note M (content_of old) (content_of new)
grows old new done d note M is same m = record { is_observable = refl; notes = λ told. (done, may, is); left = λ told l left. leaves done is may l left }
  where
    may : M done
    may = subst M (sym same) m

    leaves : (b : Bool) → new ≡ appended_if b note old → M b → (l : List Note) → Left (content_of new) l
        → (M false × Left (content_of old) l) ⊎ (M true × (l ≡ old ++ note ∷ []))
    leaves true e m l (inl at) = inr (m, at ∙ e)
    leaves false e m l (inl at) = inl (m, inl (at ∙ e))
    leaves b e m l (inr none) = absurd none
