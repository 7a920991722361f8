-- A sweep, done, in progress or refused, of a tier where no command is in progress: the rules of the tier hold
-- afterwards as before.
use Rattle.std.proofs.Common.{◌≡◌, ◌⊎◌, inl, inr, ◌∙◌, refl, ap, sym, subst, ℕ, false, List, [], ◌∷◌, ◌++◌, map, Option, Some, None, IsSome, is_some}
use Rattle.std.specs.Prelude.{option_map}
use Rattle.std.specs.List.{AllByRecursion}
use Rattle.std.proofs.lemmas.List.Elements.{All-from_recursion}
use mathlib.Core.List.{IsPrefix}
use Rattle.tier_base.specs.declared.names.SegmentId.{SegmentId}
use Rattle.tier_base.specs.declared.object_key.ObjectKey.{ObjectKey}
use Rattle.tier_base.specs.declared.plain.State.TheVariants.{CopyFinished}
use Rattle.log_terms.proofs.Lists.{prefix_trans}
use Rattle.segment_meta.specs.declared.note.Entry.{Entry}
use Rattle.segment_meta.specs.declared.note.Note.{Note}
use Rattle.segment_meta.specs.Rules.{IsNote}
use Rattle.meta_log.specs.Content.{AreNotes}
use Rattle.plain_log.specs.declared.state.State.{State as Plain}
use Rattle.remote_view.specs.Fold.{entry_of, state_of, fold}
use Rattle.remote_view.proofs.Changes.{found_id}
use Rattle.tier_safe.specs.Scene.{Copies, Expires, Rebuilds, Seeks, Scene}
use Rattle.tier_safe.specs.Safe.{TierSafe}
use Rattle.tier_safe.specs.Views.{HasId, IsNoteRight, IsNamed, IsIdUsed}
use Rattle.tier_safe.specs.Copies.{FinishedStand}
use Rattle.tier_safe.specs.Lineage.{CoversLog}
use Rattle.tier_safe.specs.Starts.{DeletedEnd}
use Rattle.tier_safe.proofs.Entries.{Follows, prefix_goes}
use Rattle.tier_safe.proofs.Basics.{one_some, key_is}
use Rattle.tier_safe.proofs.Covering.{covers_is}
use Rattle.tier_safe.proofs.Deletions.{finished_or}
use Rattle.tier_safe.proofs.Lineage.{stored_whole_same}
use Rattle.tier_sweep.specs.Sweeping.{SweptTier, IsUnderSweep, rested}
use Rattle.tier_sweep.proofs.Rested.{notes_distinct}
use Rattle.tier_sweep.proofs.Midway.{IsOf, IsTold, is_told, are_notes, front, both, told_rests, under_rests, under_may_take}
use Rattle.tier_sweep.proofs.Sweeps.{same_finished, same_named, under_keeps}
use Rattle.tier_sweep.proofs.Leaving.{swept_under}
use Rattle.laws_audit.specs.Laws.{tier_in, IsIdle, scene_with, SweepKeepsCold, WholeSweepKeepsCold}
use Rattle.laws_audit.proofs.Resting.{notes_right}

-- lists of metadata events

-- what begins two lists, one after the other, begins the first, or is it with the first of the second
split : (before a b : List Note) → IsPrefix before (a ++ b) → IsPrefix before a ⊎ ((some : List Note) × IsPrefix some b × (before ≡ a ++ some))
split [] a b p = inl (a, refl)
split (x ∷ xs) [] b p = inr (x ∷ xs, p, refl)
split (x ∷ xs) (y ∷ ys) b p = elim (split xs ys b (p.0, cc (p.1))) [
  | inl q ↦ inl (q.0, cc (p.1, q.1))
  | inr q ↦ inr (q.0, q.1, cc (p.1, q.2))
]

-- a sweep's metadata events keep the rules of metadata events: none adds an entry
are_right : (es : List Entry) (notes : List Note) → AllByRecursion (IsOf es) notes → AllByRecursion IsNote notes → AllByRecursion IsNoteRight notes
are_right es [] h k = tt
are_right es (note ∷ notes) h k = (record { is = k.0; id = subst HasId (sym h.0.is) tt }, are_right es notes h.1 k.1)

module _ (c : Scene) (p : Plain) (new : SweptTier) (idle : IsIdle c) (t : TierSafe c p) (h : IsUnderSweep (tier_in c) new) where
  are : AreNotes c.notes
  are = All-from_recursion IsNote c.notes (notes_right c.notes t.notes.right)

  -- what it has reported
  told : IsTold (tier_in c) new
  told = is_told (tier_in c) new (notes_distinct c.notes are) h

  begins : IsPrefix c.notes new.notes
  begins = (told.notes, sym told.now)

  right : AllByRecursion IsNoteRight new.notes
  right =
      subst (AllByRecursion IsNoteRight) (sym told.now)
      (both IsNoteRight c.notes told.notes t.notes.right (are_right (fold c.notes) told.notes told.are (are_notes (fold c.notes) told.notes told.are)))

  -- the entries come to rest as before
  same : map rested (fold new.notes) ≡ map rested (fold c.notes)
  same = under_rests (tier_in c) new are h

  -- an entry was there before, and has gone on
  was : (id : SegmentId) (y : Entry) → entry_of id (fold new.notes) ≡ Some y → (x : Entry) × (entry_of id (fold c.notes) ≡ Some x) × Follows x y
  was id y at = by (entry_of id (fold c.notes)) refl (same_named (fold new.notes) (fold c.notes) same id (ap is_some at))
    where
      by : (o : Option Entry) → entry_of id (fold c.notes) ≡ o → IsSome (entry_of id (fold c.notes)) → (x : Entry) × (entry_of id (fold c.notes) ≡ Some x) × Follows x y
      by None is some = absurd (let none : is_some (entry_of id (fold c.notes)) ≡ false = ap is_some is in cc (none, some))
      by (Some x) is some =
          let go = prefix_goes c.notes new.notes id x begins is in
          (x, is, subst (λ (z : Entry). Follows x z) (one_some (entry_of id (fold new.notes)) go.0 y go.1 at) go.2)

  still_named : (id : SegmentId) → IsNamed (fold c.notes) id → IsNamed (fold new.notes) id
  still_named id named = (let go = prefix_goes c.notes new.notes id named.0 begins named.1 in (go.0, go.1))

  was_used : (id : SegmentId) → IsIdUsed (fold new.notes) c.desk id → IsIdUsed (fold c.notes) c.desk id
  was_used id (inl named) = inl (let x = was id named.0 named.1 in (x.0, x.1))
  was_used id (inr used) = inr used

  -- an object was there before
  object_was : (key : ObjectKey) (bytes : List ℕ) → new.objects key ≡ Some bytes → c.objects key ≡ Some bytes
  object_was key bytes is = elim (under_may_take (tier_in c) new h key) [
    | inl stays ↦ sym stays ∙ is
    | inr gone ↦ absurd (let none = gone.1 in cc (none, is))
  ]

  -- finished copies
  was_finished : (id : SegmentId) (x : Entry) → entry_of id (fold new.notes) ≡ Some x → x.state ≡ CopyFinished → entry_of id (fold c.notes) ≡ Some x
  was_finished = same_finished (fold new.notes) (fold c.notes) same

  still_finished : (id : SegmentId) (x : Entry) → entry_of id (fold c.notes) ≡ Some x → x.state ≡ CopyFinished → entry_of id (fold new.notes) ≡ Some x
  still_finished = same_finished (fold c.notes) (fold new.notes) (sym same)

  kept_at : (id : SegmentId) (entry : Entry) → entry_of id (fold c.notes) ≡ Some entry → entry.state ≡ CopyFinished
      → (key : ObjectKey) → key.id ≡ entry.id → new.objects key ≡ c.objects key
  kept_at id entry there finished key is =
      let state : state_of id (fold c.notes) ≡ Some CopyFinished = ap (option_map (λ (e : Entry). e.state)) there ∙ ap (λ k. Some k) finished in
      (under_keeps (tier_in c) new id are h state).1 key (is ∙ found_id id (fold c.notes) entry there)

  finished : FinishedStand new.objects p.paths (fold new.notes)
  finished id entry there done =
      let old = was_finished id entry there done in
      stored_whole_same c.objects new.objects p.paths entry
      (λ n key at. kept_at id entry old done key (ap (λ (k : ObjectKey). k.id) (key_is entry.partition entry.id entry.packed n key at)))
      (t.finished id entry old done)

  -- no copy was finished by the sweep, and none of those that were is deleted
  ended : DeletedEnd new.notes p.registry.start
  ended id before then now pre is done found ne =
      let x = was id now found in
      elim (finished_or x.0.state) [
        | inl still ↦ absurd (ne (ap (λ (e : Entry). e.state) (one_some (entry_of id (fold new.notes)) now x.0 found (still_finished id x.0 x.1 still)) ∙ still))
        | inr other ↦ elim (split before c.notes told.notes (subst (IsPrefix before) told.now pre)) [
          | inl old ↦ rw x.2.end (t.deletions.ended id before then x.0 old is done x.1 other)
          | inr some ↦
              let notes_are = front (IsOf (fold c.notes)) some.0 some.1.0 (subst (AllByRecursion (IsOf (fold c.notes))) (sym some.1.1) told.are) in
              let rests : map rested (fold before) ≡ map rested (fold c.notes) = ap (λ (ns : List Note). map rested (fold ns)) some.2 ∙ told_rests c.notes some.0 notes_are in
              let there = same_finished (fold before) (fold c.notes) rests id then is done in
              absurd (other (ap (λ (e : Entry). e.state) (one_some (entry_of id (fold c.notes)) x.0 then x.1 there) ∙ done))
        ]
      ]

  still_covered : (log : List (List ℕ)) (o : ℕ) → CoversLog (fold c.notes) log o → CoversLog (fold new.notes) log o
  still_covered log o k = record {
    epoch = k.epoch;
    holds = k.holds;
    covers = record {
      id = k.covers.id;
      entry = k.covers.entry;
      there = still_finished k.covers.id k.covers.entry k.covers.there (covers_is k.epoch o k.covers.entry k.covers.gives).finished;
      gives = k.covers.gives;
    };
  }

  safe : TierSafe (scene_with c new) p
  safe = record {
    notes = record { right = right; ids = t.notes.ids };
    views = λ b tier_view at. (let v = t.views b tier_view at in record { before = v.before; begins = prefix_trans v.before c.notes new.notes v.begins begins; is = v.is });
    partition = record {
      told = λ id entry there. (let x = was id entry there in x.2.partition ∙ t.partition.told id x.0 x.1);
      stored = λ key bytes is. t.partition.stored key bytes (object_was key bytes is);
      copied = t.partition.copied;
      deleted = t.partition.deleted;
    };
    ids = λ id partition b i attempt tier_view used is at. t.ids id partition b i attempt tier_view (was_used id used) is at;
    finished = finished;
    named = λ key bytes is. still_named key.id (t.named key bytes (object_was key bytes is));
    copies = record {
      each = λ a copy next at. absurd (let none = idle a (Copies copy next) at in cc (none));
      apart = t.copies.apart;
    };
    tier_views = t.tier_views;
    deletions = record { ended = ended; each = λ a expired_segment next at. absurd (let none = idle a (Expires expired_segment next) at in cc (none)) };
    covered = λ b tier_view x at to o low high. still_covered x.log o (t.covered b tier_view x at to o low high);
    rebuilds = λ a rebuild at. absurd (let none = idle a (Rebuilds rebuild) at in cc (none));
    fetches = λ a sought tier_view x at there to. absurd (let none = idle a (Seeks sought) at in cc (none));
    caches = λ b tier_view at id index in_. (let k = t.caches b tier_view at id index in_ in record {
      before = k.before;
      begins = prefix_trans k.before c.notes new.notes k.begins begins;
      entry = k.entry;
      there = k.there;
      finished = k.finished;
      is = λ entry there done. k.is entry (was_finished id entry there done) done;
    });
  }

pub sweep_keeps : SweepKeepsCold
sweep_keeps = safe

pub whole_keeps : WholeSweepKeepsCold
whole_keeps c p new n idle t h = safe c p new idle t (swept_under (tier_in c) new n h)
