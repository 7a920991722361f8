-- Each change leaves each object an entry.
use Rattle.std.proofs.Common.{◌≡◌, inl, inr, ◌∙◌, sym, ap, subst, ℕ, List, [], ◌∷◌, ◌++◌, Some}
use Rattle.tier_base.specs.declared.names.SegmentId.{SegmentId}
use Rattle.tier_base.specs.declared.object_key.ObjectKey.{ObjectKey}
use Rattle.segment_meta.specs.declared.note.Note.{Note}
use Rattle.object_store.specs.Content.{Objects}
use Rattle.plain_log.specs.declared.state.State.{State as Plain}
use Rattle.remote_view.specs.Fold.{entry_of, fold}
use Rattle.tier_safe.specs.Scene.{Scene}
use Rattle.tier_safe.specs.Changes.{Storing, Puts, Undoes, Deletes, key_for, made_by, Change, Steps, Moves, Chooses, Tells, Stores, Sees, Caches, Drops, note_for, effect}
use Rattle.tier_safe.specs.Views.{IsNamed}
use Rattle.tier_safe.specs.Copies.{ObjectsNamed}
use Rattle.tier_safe.specs.Safe.{TierSafe}
use Rattle.tier_safe.specs.May.{MayAlter, MayStore}
use Rattle.tier_safe.proofs.Entries.{entry_goes, fold_push}
use Rattle.tier_safe.proofs.Basics.{key_is, object_at}

-- an id with an entry keeps one
pub named_more : (notes : List Note) (note : Note) (id : SegmentId) → IsNamed (fold notes) id → IsNamed (fold (notes ++ note ∷ [])) id
named_more notes note id h =
    let more = entry_goes (fold notes) note id h.0 h.1 in
    (more.0, ap (entry_of id) (fold_push notes note) ∙ more.1)

-- the object of a command's turn has an entry, where it is afterwards
stored_named : (storing : Storing) (a : ℕ) (objects : Objects) (c : Scene) (p : Plain) (bytes : List ℕ) → MayStore a storing objects c → TierSafe c p
    → made_by storing (c.objects (key_for storing)) ≡ Some bytes → IsNamed (fold c.notes) (key_for storing).id
stored_named (Puts copy n key) a objects c p bytes m h is =
    let e = (h.copies.each a copy _ m.actor_state).at in
    let own = ap (λ (k : ObjectKey). k.id) (key_is copy.partition copy.id copy.packed n key m.key) in
    (e.entry, ap (λ (i : SegmentId). entry_of i (fold c.notes)) own ∙ e.there)
stored_named (Undoes copy n key) a objects c p bytes m h is = absurd (cc)
stored_named (Deletes expired_segment n key) a objects c p bytes m h is = absurd (cc)

pub named_kept : (change : Change) (c : Scene) (p : Plain) → MayAlter change c p → TierSafe c p
    → ObjectsNamed (effect change c).objects (fold (effect change c).notes)
named_kept (Steps tier_views) c p m h = absurd m
named_kept (Moves a move) c p m h = h.named
named_kept (Chooses a b tier_view copy) c p m h = h.named
named_kept (Tells a telling origin) c p m h = λ key bytes is. named_more c.notes (note_for telling origin) key.id (h.named key bytes is)
named_kept (Stores a storing objects) c p m h = λ key bytes is.
    elim (object_at (key_for storing) (made_by storing) c.objects objects key m.made) [
      | inl own ↦ subst (λ (k : ObjectKey). IsNamed (fold c.notes) k.id) (sym own.0) (stored_named storing a objects c p bytes m h (sym own.1 ∙ is))
      | inr other ↦ h.named key bytes (sym other.1 ∙ is)
    ]
named_kept (Sees b tier_view view) c p m h = h.named
named_kept (Caches b tier_view cache) c p m h = h.named
named_kept (Drops b tier_view start dropping) c p m h = h.named
