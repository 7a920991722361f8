-- What a power cut may leave of the events after a sweep, or after the first part of one.
use Rattle.std.proofs.Common.{◌≡◌, ◌∙◌, inl, refl, sym, subst, ℕ, List, [], append-nil}
use Rattle.segment_meta.specs.declared.note.Note.{Note}
use Rattle.object_store.specs.Content as store
use Rattle.meta_log.specs.Content as meta
use Rattle.remote_view.specs.Fold.{fold}
use Rattle.tier_sweep.specs.Sweeping.{starts_of, ends_of, SweptTier, tier_with, tier_of, IsSwept, IsUnderSweep, Starting, Ending, LeavesUnder}

-- where all that is left is one list, and that is reported, it alone is left
pub told_alone : (new : meta.Content) (notes : List Note) → new.notes ≡ notes → ((l : List Note) → meta.Left new l → l ≡ notes) → meta.LeavesTold new
told_alone new notes now all l left = all l left ∙ sym now

-- a sweep that reported nothing
pub none_under : (s : store.Content) (old new : meta.Content) → meta.Keeps old new → LeavesUnder s old s new
none_under s old new k l left =
    (l, k.left l left, Starting (record { notes = record { told = []; rest = starts_of (fold l); are = refl; now = sym (append-nil l) }; objects = λ key. refl }))

-- one that was done has come as far as one may that was refused
pub swept_under : (old new : SweptTier) (n : ℕ) → IsSwept old new n → IsUnderSweep old new
swept_under old new n h = Ending (record { notes = record { told = ends_of (fold old.notes); rest = []; are = append-nil (ends_of (fold old.notes)); now = h.notes }; objects = h.objects })

-- and nothing else is left then
pub whole_under : (s s' : store.Content) (old new : meta.Content) (n : ℕ) → IsSwept (tier_of s old) (tier_of s' new) n → meta.LeavesTold new → LeavesUnder s old s' new
whole_under s s' old new n h only l left =
    (old.notes, inl refl, subst (λ (notes : List Note). IsUnderSweep (tier_of s old) (tier_with s' notes)) (sym (only l left)) (swept_under (tier_of s old) (tier_of s' new) n h))
