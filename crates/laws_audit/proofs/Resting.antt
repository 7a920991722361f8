-- What a run leaves of the tier, and a sweep of that.
use Rattle.std.proofs.Common.{◌≡◌, ◌∙◌, refl, ap, sym, subst, ℕ, Bool, true, false, cond, List, [], ◌∷◌, map, Option, Some, None, IsSome}
use Rattle.std.specs.Prelude.{option_map}
use Rattle.std.specs.List.{AllByRecursion}
use Rattle.std.proofs.lemmas.List.Elements.{All-from_recursion}
use Rattle.tier_base.specs.declared.names.SegmentId.{SegmentId}
use Rattle.tier_base.specs.declared.object_key.ObjectKey.{ObjectKey}
use Rattle.tier_base.specs.declared.plain.State.TheVariants.{CopyFinished, DeleteFinished}
use Rattle.log_terms.proofs.Lists.{prefix_self}
use Rattle.segment_meta.specs.declared.note.Entry.{Entry}
use Rattle.segment_meta.specs.declared.note.Note.{Note}
use Rattle.segment_meta.specs.Rules.{IsNote}
use Rattle.meta_log.specs.Content.{AreNotes}
use Rattle.plain_log.specs.declared.state.State.{State as Plain}
use Rattle.remote_view.specs.Fold.{entry_of, state_of, fold, AreDistinct}
use Rattle.remote_view.proofs.Changes.{found_id}
use Rattle.tier_safe.specs.Scene.{Scene}
use Rattle.tier_safe.specs.Safe.{BothSafe}
use Rattle.tier_safe.specs.Views.{IsNoteRight}
use Rattle.tier_safe.proofs.Rules.{seen_kept}
use Rattle.tier_sweep.specs.Rest.{AreNamed, NoneIsLeft, is_under_way}
use Rattle.tier_sweep.specs.Sweeping.{SweptTier, IsSwept, rested}
use Rattle.tier_sweep.proofs.Sweeps.{swept_entries, swept_rests, swept_keeps}
use Rattle.tier_audit.specs.declared.verdict.Flaw.TheVariants.{NoEntry, Left, Custom, Missing, Wrong}
use Rattle.tier_audit.specs.Whole.{IsReadable, AreReadable, IsWholeTier}
use Rattle.tier_audit.proofs.Saying.{one_thing}
use Rattle.laws_audit.specs.Laws.{tier_in, SafeIsReadable, SafeHasLeftAtMost, SweptIsWhole}
use Rattle.laws_audit.proofs.Stored.{stored_whole_readable, each_has}

-- metadata events and entries

pub notes_right : (notes : List Note) → AllByRecursion IsNoteRight notes → AllByRecursion IsNote notes
notes_right [] h = tt
notes_right (note ∷ notes) h = (h.0.is, notes_right notes h.1)

are_notes : (c : Scene) (p : Plain) → BothSafe c p → AreNotes c.notes
are_notes c p s = All-from_recursion IsNote c.notes (notes_right c.notes s.tier.notes.right)

apart : (c : Scene) (p : Plain) → BothSafe c p → AreDistinct (fold c.notes)
apart c p s = (seen_kept c.notes c.notes c.desk s.tier.notes (prefix_self c.notes)).1

-- what is safe is readable

named : (c : Scene) (p : Plain) → BothSafe c p → AreNamed c.objects (fold c.notes)
named c p s key there = by (c.objects key) refl there
  where
    by : (o : Option (List ℕ)) → c.objects key ≡ o → IsSome o → IsSome (entry_of key.id (fold c.notes))
    by None is there = absurd (cc (there))
    by (Some bytes) is there = subst IsSome (sym (s.tier.named key bytes is).1) refl

pub safe_readable : SafeIsReadable
safe_readable c p s = (
  named c p s,
  each_has (IsReadable c.objects) (fold c.notes) (apart c p s)
      (λ id entry there finished. stored_whole_readable c.objects c.objects p entry s.plain (s.tier.finished id entry there finished) (λ key is. refl) finished),
)

-- its first flaw

-- where none is left, the tier is whole
whole_but : (c : Scene) (p : Plain) → BothSafe c p → NoneIsLeft c.objects (fold c.notes) → IsWholeTier c.objects (fold c.notes)
whole_but c p s none = record { named = named c p s; none_left = none; readable = (safe_readable c p s).1 }

pub safe_left : SafeHasLeftAtMost
safe_left c p (Left key) s f = (key, refl)
safe_left c p (NoEntry key) s f = absurd (nothing (entry_of key.id (fold c.notes)) (named c p s key f.0.there) f.1)
  where
    nothing : (o : Option Entry) → IsSome o → o ≡ None → ⊥
    nothing None some is = cc (some)
    nothing (Some entry) some is = cc (is)
safe_left c p (Custom id) s f = absurd (one_thing c.objects (fold c.notes) (Custom id) (whole_but c p s f.none_left) f)
safe_left c p (Missing key) s f = absurd (one_thing c.objects (fold c.notes) (Missing key) (whole_but c p s f.none_left) f)
safe_left c p (Wrong key at) s f = absurd (one_thing c.objects (fold c.notes) (Wrong key at) (whole_but c p s f.none_left) f)

-- what is swept

-- what holds of all as they were made holds of what was made
all_made : (P : Entry → Type 0) (make : Entry → Entry) (entries : List Entry) → AllByRecursion (λ (entry : Entry). P (make entry)) entries → AllByRecursion P (map make entries)
all_made P make [] h = tt
all_made P make (e ∷ es) h = (h.0, all_made P make es h.1)

module _ (c : Scene) (p : Plain) (new : SweptTier) (n : ℕ) (s : BothSafe c p) (swept : IsSwept (tier_in c) new n) where
  -- the objects of a finished copy are those that they were
  kept_at : (id : SegmentId) (entry : Entry) → entry_of id (fold c.notes) ≡ Some entry → entry.state ≡ CopyFinished
      → (key : ObjectKey) → key.id ≡ entry.id → new.objects key ≡ c.objects key
  kept_at id entry there finished key is =
      let state : state_of id (fold c.notes) ≡ Some CopyFinished = ap (option_map (λ (e : Entry). e.state)) there ∙ ap (λ k. Some k) finished in
      (swept_keeps (tier_in c) new n id (are_notes c p s) swept state).1 key (is ∙ found_id id (fold c.notes) entry there)

  -- an entry as the sweep leaves it is of a readable copy
  rested_readable : (id : SegmentId) (entry : Entry) → entry_of id (fold c.notes) ≡ Some entry → IsReadable new.objects (rested entry)
  rested_readable id entry there = by (is_under_way entry.state)
    where
      by : (t : Bool) → IsReadable new.objects (cond t (record entry { state = DeleteFinished }) entry)
      by true = λ finished. absurd (cc (finished))
      by false = λ finished. stored_whole_readable new.objects c.objects p entry s.plain (s.tier.finished id entry there finished) (kept_at id entry there finished) finished

  all_readable : AreReadable new.objects (fold new.notes)
  all_readable =
      subst (AreReadable new.objects) (sym (swept_entries (tier_in c) new n (are_notes c p s) swept))
      (all_made (IsReadable new.objects) rested (fold c.notes) (each_has (λ (e : Entry). IsReadable new.objects (rested e)) (fold c.notes) (apart c p s) rested_readable))

  whole : IsWholeTier new.objects (fold new.notes)
  whole = (
      let rests = swept_rests (tier_in c) new n (are_notes c p s) swept in
      record { named = rests.0; none_left = rests.1; readable = all_readable })

pub swept_whole : SweptIsWhole
swept_whole c p new n s swept = whole c p new n s swept
