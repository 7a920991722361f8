-- The turns of copies and expiries as changes.
use Rattle.std.proofs.Common.{◌≡◌, ◌⊎◌, inl, inr, ◌∙◌, sym, ap, subst, refl, ℕ, zero, suc, ◌+◌, ◌<◌, ◌≤◌, Bool, true, false, List, [], ◌∷◌, ◌++◌, length, take, drop, Option, Some, None, Ok, Err, slice_get, slice_set, arith, append_assoc, append-nil}
use Rattle.std.specs.Prelude.{◌^◌, IsTrue}
use mathlib.Core.Path.{fun_ext}
use mathlib.Core.List.{IsPrefix}
use Rattle.tier_base.specs.Device.{Control, Went, Fault, Dry}
use Rattle.tier_base.specs.declared.names.PartitionId.{PartitionId}
use Rattle.tier_base.specs.declared.object_key.ObjectKey.{ObjectKey}
use Rattle.tier_base.specs.declared.plain.Part.{Part}
use Rattle.tier_base.specs.declared.plain.State.{State}
use Rattle.tier_base.specs.declared.plain.State.TheVariants.{CopyStarted, CopyFinished, DeleteStarted, DeleteFinished}
use Rattle.tier_base.specs.Told.{replaced}
use Rattle.segment_meta.specs.declared.note.Note.{Note}
use Rattle.segment_bundle.specs.Parts.{part_in}
use Rattle.object_store.specs.Call as store_call
use Rattle.object_store.specs.Content.{Objects, MadeAt, made_if, Changes}
use Rattle.object_store.specs.Content as store
use Rattle.object_store.specs.Calls.{PutsObject as StorePuts}
use Rattle.object_store.specs.Place.{whole, spot_of}
use Rattle.object_store.specs.declared.placing.Spot.{Spot}
use Rattle.meta_log.specs.Call as meta_call
use Rattle.meta_log.specs.Calls.{AppendsToMetaLog}
use Rattle.meta_log.specs.Content as meta
use Rattle.meta_log.specs.declared.event_origin.EventOrigin.{EventOrigin}
use Rattle.log_terms.proofs.Lists.{set-same, prefix_self, prefix_length, look}
use Rattle.plain_log.specs.declared.state.State.{State as Plain}
use Rattle.plain_log.specs.declared.answer.Answer.TheVariants.{MetaFault, StoreFault}
use Rattle.remote_view.specs.Fold.{EntriesSeen, state_of, view_of}
use Rattle.view_refresh.specs.Refreshing.{Refreshes, Advances, fed_all}
use Rattle.view_refresh.proofs.Feeding.{refreshed}
use Rattle.remote_view.proofs.Folding.{fed_again}
use Rattle.std.proofs.lemmas.List.{take-append-drop}
use Rattle.std.specs.declared.alloc.AllocError.{AllocError}
use Rattle.copy_task.specs.Copying.{Copied, keys as copy_keys, start_note, finish_note}
use Rattle.copy_task.specs.Turns.{StartRow, FinishRow, CheckRow, PutObjectRow, DeleteRow, CopyTurnRow, checked, delete_at, Tiers as CopyTiers}
use Rattle.copy_task.specs.declared.turn.CopyStep.{CopyStep as CopyNext}
use Rattle.copy_task.specs.declared.turn.CopyStep.TheVariants as copying
use Rattle.plain_log.specs.declared.turn.Turn.{Turn}
use Rattle.plain_log.specs.declared.turn.Turn.TheVariants.{Ends}
use Rattle.expiry_task.specs.Turns.{keys as expiry_keys, ExpiryRow, Tiers as ExpiryTiers}
use Rattle.expiry_task.specs.Turns as expiry
use Rattle.expiry_task.specs.declared.turn.ExpiredSegment.{ExpiredSegment}
use Rattle.expiry_task.specs.declared.turn.DeletionStep.{DeletionStep as ExpiryNext}
use Rattle.expiry_task.specs.declared.turn.DeletionStep.TheVariants as expiring
use Rattle.tier_safe.specs.Scene.{BrokerTierView, TierTask, Free, Copies, Expires, Scene}
use Rattle.tier_safe.specs.Changes.{Leaves, Overtakes, Telling, CopyStarts, CopyEnds, ExpiryStarts, ExpiryEnds, note_for, before_telling, after_telling, Storing, Puts, Undoes, Deletes, key_for, KeyStands, made_by, before_storing, after_storing, undone, Change, Moves, Tells, Stores, Sees, effect, effects}
use Rattle.tier_safe.specs.Views.{IsViewOf}
use Rattle.tier_safe.specs.Copies.{is_deleted}
use Rattle.tier_safe.specs.Safe.{TierSafe}
use Rattle.tier_safe.specs.May.{May, Mays, IsChanged}
use Rattle.tier_safe.specs.Turns.{ShowsScene, after_turn, copy_tier_task, expiry_tier_task, CopyTurnsChange, ExpiryTurnsChange, RefreshesChange, HaltsChange}
use Rattle.tier_safe.proofs.Basics.{key_cases}

-- lists of works and tier views

pub set_set : {A : Type 0} (xs : List A) (i : ℕ) (x y : A) → slice_set (slice_set xs i x) i y ≡ slice_set xs i y
set_set [] i x y = refl
set_set (z ∷ xs) zero x y = refl
set_set (z ∷ xs) (suc i) x y = ap (λ w. z ∷ w) (set_set xs i x y)

pub set_get : {A : Type 0} (xs : List A) (i : ℕ) (x y : A) → slice_get xs i ≡ Some x → slice_get (slice_set xs i y) i ≡ Some y
set_get [] i x y at = absurd cc
set_get (z ∷ xs) zero x y at = refl
set_get (z ∷ xs) (suc i) x y at = set_get xs i x y at

-- scenes with the same fields
pub scene_same : (c d : Scene) → c.partition ≡ d.partition → c.objects ≡ d.objects → c.notes ≡ d.notes → c.tier_views ≡ d.tier_views → c.desk ≡ d.desk → c ≡ d
scene_same c d k o n s w =
    ap (λ (x : PartitionId). (let e : Scene = record { partition = x; objects = c.objects; notes = c.notes; tier_views = c.tier_views; desk = c.desk } in e)) k
    ∙ ap (λ (x : Objects). (let e : Scene = record { partition = d.partition; objects = x; notes = c.notes; tier_views = c.tier_views; desk = c.desk } in e)) o
    ∙ ap (λ (x : List Note). (let e : Scene = record { partition = d.partition; objects = d.objects; notes = x; tier_views = c.tier_views; desk = c.desk } in e)) n
    ∙ ap (λ (x : List BrokerTierView). (let e : Scene = record { partition = d.partition; objects = d.objects; notes = d.notes; tier_views = x; desk = c.desk } in e)) s
    ∙ ap (λ (x : List TierTask). (let e : Scene = record { partition = d.partition; objects = d.objects; notes = d.notes; tier_views = d.tier_views; desk = x } in e)) w

-- a beginning is the first items
prefix_taken : {A : Type 0} (xs ys : List A) → IsPrefix xs ys → xs ≡ take (length xs) ys
prefix_taken [] ys p = refl
prefix_taken (x ∷ xs) [] p = absurd (cc (p.1))
prefix_taken (x ∷ xs) (y ∷ ys) p = (let more = prefix_taken xs ys (p.0, cc (p.1)) in let same : x ≡ y = cc (p.1) in cc (same, more))

-- changes that continue

mays_push : (ks : List Change) (c : Scene) (k : Change) (p q r : Plain) → Mays ks c p q → May k (effects ks c) q r → Mays (ks ++ k ∷ []) c p r
mays_push [] c k p q r m h = (r, subst (λ (z : Plain). May k c z r) m h, refl)
mays_push (j ∷ ks) c k p q r m h = (m.0, m.1, mays_push ks (effect j c) k m.0 q r m.2 h)

effects_push : (ks : List Change) (c : Scene) (k : Change) → effects (ks ++ k ∷ []) c ≡ effect k (effects ks c)
effects_push [] c k = refl
effects_push (j ∷ ks) c k = effects_push ks (effect j c) k

pub goes_on : (c d : Scene) (p : Plain) (k : Change) → IsChanged c p d → May k d p p → IsChanged c p (effect k d)
goes_on c d p k h m = record {
  changes = h.changes ++ k ∷ [];
  may = mays_push h.changes c k p p p h.may (subst (λ (e : Scene). May k e p p) (sym h.is) m);
  is = effects_push h.changes c k ∙ ap (effect k) h.is;
}

pub one_change : (c : Scene) (p : Plain) (k : Change) → May k c p p → IsChanged c p (effect k c)
one_change c p k m = record { changes = k ∷ []; may = (p, m, refl); is = refl }

pub as_scene : (c d e : Scene) (p : Plain) → d ≡ e → IsChanged c p d → IsChanged c p e
as_scene c d e p same h = record { changes = h.changes; may = h.may; is = h.is ∙ same }

-- the command leaves the desk
pub leaves : (c : Scene) (p : Plain) (a b : ℕ) (tier_view : BrokerTierView) (tier_task : TierTask) (o : Objects) (n : List Note) (v : EntriesSeen)
    → IsChanged c p (after_turn c a b tier_view tier_task o n v) → IsChanged c p (after_turn c a b tier_view Free o n v)
leaves c p a b tier_view tier_task o n v h =
    as_scene c (effect (Moves a Leaves) (after_turn c a b tier_view tier_task o n v)) (after_turn c a b tier_view Free o n v) p
    (scene_same _ _ refl refl refl refl (set_set c.desk a tier_task Free)) (goes_on c (after_turn c a b tier_view tier_task o n v) p (Moves a Leaves) h (refl, tt))

-- nothing but that
pub left : (c : Scene) (p : Plain) (a b : ℕ) (tier_view : BrokerTierView) → slice_get c.tier_views b ≡ Some tier_view → IsChanged c p (after_turn c a b tier_view Free c.objects c.notes tier_view.view)
left c p a b tier_view at =
    as_scene c (effect (Moves a Leaves) c) (after_turn c a b tier_view Free c.objects c.notes tier_view.view) p
    (scene_same _ _ refl refl refl (sym (set-same c.tier_views b tier_view at)) refl) (one_change c p (Moves a Leaves) (refl, tt))

-- a metadata event
is_observable : (c : Scene) (p : Plain) (a b : ℕ) (tier_view : BrokerTierView) (telling : Telling) (origin : EventOrigin) → slice_get c.tier_views b ≡ Some tier_view → slice_get c.desk a ≡ Some (before_telling telling)
    → IsChanged c p (after_turn c a b tier_view (after_telling telling) c.objects (c.notes ++ note_for telling origin ∷ []) tier_view.view)
is_observable c p a b tier_view telling origin at actor_state =
    as_scene c (effect (Tells a telling origin) c) (after_turn c a b tier_view (after_telling telling) c.objects (c.notes ++ note_for telling origin ∷ []) tier_view.view) p
    (scene_same _ _ refl refl refl (sym (set-same c.tier_views b tier_view at)) refl) (one_change c p (Tells a telling origin) (refl, record { actor_state = actor_state }))

-- an object
stores : (c : Scene) (p : Plain) (a b : ℕ) (tier_view : BrokerTierView) (storing : Storing) (objects : Objects) → slice_get c.tier_views b ≡ Some tier_view → slice_get c.desk a ≡ Some (before_storing storing) → KeyStands storing
    → MadeAt (key_for storing) (made_by storing) c.objects objects → IsChanged c p (after_turn c a b tier_view (after_storing storing) objects c.notes tier_view.view)
stores c p a b tier_view storing objects at actor_state key made =
    as_scene c (effect (Stores a storing objects) c) (after_turn c a b tier_view (after_storing storing) objects c.notes tier_view.view) p
    (scene_same _ _ refl refl refl (sym (set-same c.tier_views b tier_view at)) refl) (one_change c p (Stores a storing objects) (refl, record { actor_state = actor_state; key = key; made = made }))

-- what a turn leaves is said of other names
pub renamed : (c : Scene) (p : Plain) (a b : ℕ) (tier_view : BrokerTierView) (tier_task other : TierTask) (o o2 : Objects) (n n2 : List Note) (v v2 : EntriesSeen) → tier_task ≡ other → o ≡ o2 → n ≡ n2 → v ≡ v2
    → IsChanged c p (after_turn c a b tier_view tier_task o n v) → IsChanged c p (after_turn c a b tier_view other o2 n2 v2)
renamed c p a b tier_view tier_task other o o2 n n2 v v2 ew eo en ev h =
    as_scene c (after_turn c a b tier_view tier_task o n v) (after_turn c a b tier_view other o2 n2 v2) p
    (scene_same _ _ refl eo en (ap (λ (x : EntriesSeen). slice_set c.tier_views b (record tier_view { view = x })) ev) (ap (slice_set c.desk a) ew)) h

-- an object that was or wasn't changed
not_made : (key : ObjectKey) (made : Option (List ℕ) → Option (List ℕ)) (old new : Objects) → MadeAt key (made_if false made) old new → new ≡ old
not_made key made old new m = fun_ext (λ k. elim (key_cases k key) [
  | inl same ↦ ap new same ∙ m.there ∙ ap old (sym same)
  | inr other ↦ m.others k other
])

module _ {S M : Type 0} (objects : S → store.Content) (calls : S → Control store_call.call_code)
    (notes : M → meta.Content) (notings : M → Control meta_call.call_code) where
  -- a metadata event that was appended, whether the command continues or not
  told_went : (c : Scene) (p : Plain) (a b : ℕ) (tier_view : BrokerTierView) (telling : Telling) (origin : EventOrigin) (s : store.Content) (old new : M)
      → ShowsScene c a b tier_view (before_telling telling) s (notes old) tier_view.view → AppendsToMetaLog notes notings (note_for telling origin) Went old new
      → IsChanged c p (after_turn c a b tier_view (after_telling telling) s.objects (notes new).notes tier_view.view)
  told_went c p a b tier_view telling origin s old new h k =
      by (k.content.notes h.meta_tells).0 ((k.content.notes h.meta_tells).1.went refl) (k.content.notes h.meta_tells).2
    where
      by : (done : Bool) → IsTrue done → (notes new).notes ≡ meta.appended_if done (note_for telling origin) (notes old).notes
          → IsChanged c p (after_turn c a b tier_view (after_telling telling) s.objects (notes new).notes tier_view.view)
      by true t is = renamed c p a b tier_view _ _ c.objects s.objects _ _ tier_view.view tier_view.view refl h.objects_are (ap (λ (ns : List Note). ns ++ note_for telling origin ∷ []) h.notes_are ∙ sym is) refl
          (is_observable c p a b tier_view telling origin h.tier_view_is h.actor_state)
      by false t is = absurd (cc (t))

  told_failed : (c : Scene) (p : Plain) (a b : ℕ) (tier_view : BrokerTierView) (telling : Telling) (origin : EventOrigin) (s : store.Content) (old new : M)
      → ShowsScene c a b tier_view (before_telling telling) s (notes old) tier_view.view → AppendsToMetaLog notes notings (note_for telling origin) Fault old new
      → IsChanged c p (after_turn c a b tier_view Free s.objects (notes new).notes tier_view.view)
  told_failed c p a b tier_view telling origin s old new h k = by (k.content.notes h.meta_tells).0 (k.content.notes h.meta_tells).2
    where
      by : (done : Bool) → (notes new).notes ≡ meta.appended_if done (note_for telling origin) (notes old).notes
          → IsChanged c p (after_turn c a b tier_view Free s.objects (notes new).notes tier_view.view)
      by true is = renamed c p a b tier_view _ _ c.objects s.objects _ _ tier_view.view tier_view.view refl h.objects_are (ap (λ (ns : List Note). ns ++ note_for telling origin ∷ []) h.notes_are ∙ sym is) refl
          (leaves c p a b tier_view (after_telling telling) c.objects (c.notes ++ note_for telling origin ∷ []) tier_view.view (is_observable c p a b tier_view telling origin h.tier_view_is h.actor_state))
      by false is = renamed c p a b tier_view _ _ c.objects s.objects c.notes _ tier_view.view tier_view.view refl h.objects_are (h.notes_are ∙ sym is) refl (left c p a b tier_view h.tier_view_is)

  -- an object that was changed, whether the command continues or not
  stored_went : (c : Scene) (p : Plain) (a b : ℕ) (tier_view : BrokerTierView) (storing : Storing) (may : Bool → Type 0) (old new : S) (n : meta.Content)
      → ShowsScene c a b tier_view (before_storing storing) (objects old) n tier_view.view → KeyStands storing → Changes (key_for storing) (made_by storing) may (objects old) (objects new)
      → ((done : Bool) → may done → IsTrue done) → IsChanged c p (after_turn c a b tier_view (after_storing storing) (objects new).objects n.notes tier_view.view)
  stored_went c p a b tier_view storing may old new n h key k went = by (k.objects h.store_tells).0 (went (k.objects h.store_tells).0 (k.objects h.store_tells).1) (k.objects h.store_tells).2
    where
      by : (done : Bool) → IsTrue done → MadeAt (key_for storing) (made_if done (made_by storing)) (objects old).objects (objects new).objects
          → IsChanged c p (after_turn c a b tier_view (after_storing storing) (objects new).objects n.notes tier_view.view)
      by true t made = renamed c p a b tier_view _ _ (objects new).objects (objects new).objects c.notes n.notes tier_view.view tier_view.view refl refl h.notes_are refl
          (stores c p a b tier_view storing (objects new).objects h.tier_view_is h.actor_state key
          (subst (λ (o : Objects). MadeAt (key_for storing) (made_by storing) o (objects new).objects) (sym h.objects_are) (record { there = made.there; others = made.others })))
      by false t made = absurd (cc (t))

  stored_failed : (c : Scene) (p : Plain) (a b : ℕ) (tier_view : BrokerTierView) (storing : Storing) (may : Bool → Type 0) (old new : S) (n : meta.Content)
      → ShowsScene c a b tier_view (before_storing storing) (objects old) n tier_view.view → KeyStands storing → Changes (key_for storing) (made_by storing) may (objects old) (objects new)
      → IsChanged c p (after_turn c a b tier_view Free (objects new).objects n.notes tier_view.view)
  stored_failed c p a b tier_view storing may old new n h key k = by (k.objects h.store_tells).0 (k.objects h.store_tells).2
    where
      by : (done : Bool) → MadeAt (key_for storing) (made_if done (made_by storing)) (objects old).objects (objects new).objects
          → IsChanged c p (after_turn c a b tier_view Free (objects new).objects n.notes tier_view.view)
      by true made = renamed c p a b tier_view _ _ (objects new).objects (objects new).objects c.notes n.notes tier_view.view tier_view.view refl refl h.notes_are refl
          (leaves c p a b tier_view (after_storing storing) (objects new).objects c.notes tier_view.view (stores c p a b tier_view storing (objects new).objects h.tier_view_is h.actor_state key
          (subst (λ (o : Objects). MadeAt (key_for storing) (made_by storing) o (objects new).objects) (sym h.objects_are) (record { there = made.there; others = made.others }))))
      by false made = renamed c p a b tier_view _ _ c.objects (objects new).objects c.notes n.notes tier_view.view tier_view.view refl
          (h.objects_are ∙ sym (not_made (key_for storing) (made_by storing) (objects old).objects (objects new).objects made)) h.notes_are refl (left c p a b tier_view h.tier_view_is)

  -- what is under a key is the part of the key
  part_under : (copied : Copied) (key : ObjectKey) (part : Part) → spot_of copied.partition copied.id false None part ≡ Some (whole key)
      → (may : Bool → Type 0) (old new : store.Content) → Changes key (replaced (part_in copied.parts part)) may old new → Changes key (replaced (part_in copied.parts key.part)) may old new
  part_under copied key part place may old new k =
      let same : part ≡ key.part = ap part_of place in
      subst (λ (q : Part). Changes key (replaced (part_in copied.parts q)) may old new) same k
    where
      part_of : Option Spot → Part
      part_of None = part
      part_of (Some spot) = spot.key.part

  -- the turns of a copy

  start_turn : (c : Scene) (p : Plain) (a b : ℕ) (tier_view : BrokerTierView) (copied : Copied) (origin : EventOrigin) (turn : Turn CopyNext) (s : store.Content) (old new : M)
      → ShowsScene c a b tier_view (Copies copied copying.Start) s (notes old) tier_view.view → StartRow notes notings copied origin (Ok turn) old new
      → IsChanged c p (after_turn c a b tier_view (copy_tier_task copied turn) s.objects (notes new).notes tier_view.view)
  start_turn c p a b tier_view copied origin (Ends MetaFault) s old new h row = told_failed c p a b tier_view (CopyStarts copied) origin s old new h row
  start_turn c p a b tier_view copied origin turn s old new h row =
      renamed c p a b tier_view _ _ s.objects s.objects (notes new).notes (notes new).notes tier_view.view tier_view.view (ap (copy_tier_task copied) (sym row.0)) refl refl refl
      (told_went c p a b tier_view (CopyStarts copied) origin s old new h row.1)

  finish_turn : (c : Scene) (p : Plain) (a b : ℕ) (tier_view : BrokerTierView) (copied : Copied) (origin : EventOrigin) (turn : Turn CopyNext) (s : store.Content) (old new : M)
      → ShowsScene c a b tier_view (Copies copied copying.Finish) s (notes old) tier_view.view → FinishRow notes notings copied origin (Ok turn) old new
      → IsChanged c p (after_turn c a b tier_view (copy_tier_task copied turn) s.objects (notes new).notes tier_view.view)
  finish_turn c p a b tier_view copied origin (Ends MetaFault) s old new h row = told_failed c p a b tier_view (CopyEnds copied) origin s old new h row
  finish_turn c p a b tier_view copied origin turn s old new h row =
      renamed c p a b tier_view _ _ s.objects s.objects (notes new).notes (notes new).notes tier_view.view tier_view.view (ap (copy_tier_task copied) (sym row.0)) refl refl refl
      (told_went c p a b tier_view (CopyEnds copied) origin s old new h row.1)

  put_turn : (c : Scene) (p : Plain) (a b : ℕ) (tier_view : BrokerTierView) (copied : Copied) (n : ℕ) (o : Option ObjectKey) (turn : Turn CopyNext) (ns : meta.Content) (old new : S)
      → slice_get (copy_keys copied) n ≡ o → n < length (copy_keys copied)
      → ShowsScene c a b tier_view (Copies copied (copying.Put n)) (objects old) ns tier_view.view → PutObjectRow objects calls copied n o (Ok turn) old new
      → IsChanged c p (after_turn c a b tier_view (copy_tier_task copied turn) (objects new).objects ns.notes tier_view.view)
  put_turn c p a b tier_view copied n None turn ns old new at low h row = absurd (let there = look (copy_keys copied) n low in cc (there.1, at))
  put_turn c p a b tier_view copied n (Some key) (Ends StoreFault) ns old new at low h row =
      stored_failed c p a b tier_view (Puts copied n key) _ old new ns h at (part_under copied key row.part row.place _ _ _ row.puts.content)
  put_turn c p a b tier_view copied n (Some key) turn ns old new at low h row =
      renamed c p a b tier_view _ _ (objects new).objects (objects new).objects ns.notes ns.notes tier_view.view tier_view.view (ap (copy_tier_task copied) (sym row.0)) refl refl refl
      (stored_went c p a b tier_view (Puts copied n key) _ old new ns h at (part_under copied key row.1.part row.1.place _ _ _ row.1.puts.content) (λ done k. k.went refl))

  after_undone : (copied : Copied) (view : EntriesSeen) (n : ℕ) (next : Option ObjectKey) → undone copied n next ≡ copy_tier_task copied (delete_at copied view n next)
  after_undone copied view n None = refl
  after_undone copied view n (Some key) = refl

  delete_turn : (c : Scene) (p : Plain) (a b : ℕ) (tier_view : BrokerTierView) (copied : Copied) (view : EntriesSeen) (n : ℕ) (o : Option ObjectKey) (turn : Turn CopyNext) (ns : meta.Content) (old new : S)
      → slice_get (copy_keys copied) n ≡ o → n < length (copy_keys copied)
      → ShowsScene c a b tier_view (Copies copied (copying.Delete n)) (objects old) ns tier_view.view → DeleteRow objects calls copied view n o turn old new
      → IsChanged c p (after_turn c a b tier_view (copy_tier_task copied turn) (objects new).objects ns.notes tier_view.view)
  delete_turn c p a b tier_view copied view n None turn ns old new at low h row = absurd (let there = look (copy_keys copied) n low in cc (there.1, at))
  delete_turn c p a b tier_view copied view n (Some key) (Ends StoreFault) ns old new at low h row =
      stored_failed c p a b tier_view (Undoes copied n key) _ old new ns h at row.content
  delete_turn c p a b tier_view copied view n (Some key) turn ns old new at low h row =
      renamed c p a b tier_view _ _ (objects new).objects (objects new).objects ns.notes ns.notes tier_view.view tier_view.view
      (after_undone copied view (n + 1) (slice_get (copy_keys copied) (n + 1)) ∙ ap (copy_tier_task copied) (sym row.0)) refl refl refl
      (stored_went c p a b tier_view (Undoes copied n key) _ old new ns h at row.1.content (λ done k. k.went refl))

  -- a view takes all metadata events
  pub sees_all : (c : Scene) (p : Plain) (a b : ℕ) (tier_view : BrokerTierView) (tier_task : TierTask) (s : store.Content) (old : M) (view : EntriesSeen) → ShowsScene c a b tier_view tier_task s (notes old) tier_view.view → length c.notes < 2 ^ 64
      → IsViewOf c.notes tier_view.view → Refreshes (notes old) tier_view.view view
      → (view ≡ view_of c.notes) × IsChanged c p (after_turn c a b tier_view tier_task c.objects c.notes view)
  sees_all c p a b tier_view tier_task s old view h few v r =
      let first = prefix_taken v.before c.notes v.begins in
      let is : tier_view.view ≡ view_of (take (length v.before) (notes old).notes) =
      v.is ∙ ap view_of first ∙ ap (λ (ns : List Note). view_of (take (length v.before) ns)) h.notes_are in
      let same : length c.notes ≡ length (notes old).notes = ap length h.notes_are in
      let within : length v.before ≤ length c.notes = prefix_length v.before c.notes v.begins in
      let all : view ≡ view_of c.notes =
      refreshed (notes old) tier_view.view view (length v.before) h.meta_tells (omega (arith, few, same)) (omega (arith, within, same)) is r ∙ ap view_of (sym h.notes_are) in (
        all,
        as_scene c (effect (Sees b tier_view view) c) (after_turn c a b tier_view tier_task c.objects c.notes view) p
            (scene_same _ _ refl refl refl refl (sym (set-same c.desk a tier_task h.actor_state)))
            (one_change c p (Sees b tier_view view) (refl, record { tier_view_is = h.tier_view_is; before = v.before; old = v.is; more = c.notes; new = all; grows = v.begins; begins = prefix_self c.notes })),
      )

  overtakes : (c : Scene) (p : Plain) (a b : ℕ) (tier_view : BrokerTierView) (copied : Copied) (state : State) (view : EntriesSeen) → slice_get c.tier_views b ≡ Some tier_view
      → slice_get c.desk a ≡ Some (Copies copied copying.Check) → state_of copied.id view.entries ≡ Some state → is_deleted state ≡ true
      → IsChanged c p (after_turn c a b tier_view (Copies copied copying.Check) c.objects c.notes view)
      → IsChanged c p (after_turn c a b tier_view (Copies copied (copying.Delete 0)) c.objects c.notes view)
  overtakes c p a b tier_view copied state view at actor_state shows gone h =
      as_scene c (effect (Moves a (Overtakes copied)) (after_turn c a b tier_view (Copies copied copying.Check) c.objects c.notes view))
      (after_turn c a b tier_view (Copies copied (copying.Delete 0)) c.objects c.notes view) p
      (scene_same _ _ refl refl refl refl (set_set c.desk a (Copies copied copying.Check) (Copies copied (copying.Delete 0))))
      (goes_on c (after_turn c a b tier_view (Copies copied copying.Check) c.objects c.notes view) p (Moves a (Overtakes copied)) h (
        refl,
        record {
          actor_state = set_get c.desk a (Copies copied copying.Check) (Copies copied copying.Check) actor_state;
          b = b;
          tier_view = record tier_view { view = view };
          tier_view_is = set_get c.tier_views b tier_view (record tier_view { view = view }) at;
          state = state;
          shows = shows;
          deleted = gone;
        },
      ))

  by_state : (c : Scene) (p : Plain) (a b : ℕ) (tier_view : BrokerTierView) (copied : Copied) (view : EntriesSeen) (n : ℕ) (o : Option State) → slice_get c.tier_views b ≡ Some tier_view
      → slice_get c.desk a ≡ Some (Copies copied copying.Check) → state_of copied.id view.entries ≡ o
      → IsChanged c p (after_turn c a b tier_view (Copies copied copying.Check) c.objects c.notes view)
      → IsChanged c p (after_turn c a b tier_view (copy_tier_task copied (checked copied n o)) c.objects c.notes view)
  by_state c p a b tier_view copied view n None at actor_state is h = leaves c p a b tier_view _ c.objects c.notes view h
  by_state c p a b tier_view copied view n (Some CopyStarted) at actor_state is h = leaves c p a b tier_view _ c.objects c.notes view h
  by_state c p a b tier_view copied view n (Some CopyFinished) at actor_state is h = leaves c p a b tier_view _ c.objects c.notes view h
  by_state c p a b tier_view copied view n (Some DeleteStarted) at actor_state is h = overtakes c p a b tier_view copied DeleteStarted view at actor_state is refl h
  by_state c p a b tier_view copied view n (Some DeleteFinished) at actor_state is h = overtakes c p a b tier_view copied DeleteFinished view at actor_state is refl h

  check_turn : (c : Scene) (p : Plain) (a b : ℕ) (tier_view : BrokerTierView) (copied : Copied) (turn : Turn CopyNext) (s : store.Content) (old new : M) (view : EntriesSeen)
      → ShowsScene c a b tier_view (Copies copied copying.Check) s (notes old) tier_view.view → length c.notes < 2 ^ 64 → IsViewOf c.notes tier_view.view
      → CheckRow notes notings copied (Ok turn) tier_view.view view old new
      → IsChanged c p (after_turn c a b tier_view (copy_tier_task copied turn) s.objects (notes new).notes view)
  check_turn c p a b tier_view copied (Ends MetaFault) s old new view h few v row =
      renamed c p a b tier_view _ _ c.objects s.objects c.notes (notes new).notes tier_view.view view refl h.objects_are (h.notes_are ∙ sym row.content.notes) (sym row.view) (left c p a b tier_view h.tier_view_is)
  check_turn c p a b tier_view copied turn s old new view h few v row =
      let all = sees_all c p a b tier_view (Copies copied copying.Check) s old view h few v row.1.view in
      renamed c p a b tier_view _ _ c.objects s.objects c.notes (notes new).notes view view (ap (copy_tier_task copied) (sym row.0)) h.objects_are (h.notes_are ∙ sym row.1.content.notes) refl
      (by_state c p a b tier_view copied view view.notes (state_of copied.id view.entries) h.tier_view_is h.actor_state refl all.1)

  shown : (c : Scene) (a b : ℕ) (tier_view : BrokerTierView) (tier_task : TierTask) (s : store.Content) (n : meta.Content) (view : EntriesSeen) → ShowsScene c a b tier_view tier_task s n view → ShowsScene c a b tier_view tier_task s n tier_view.view
  shown c a b tier_view tier_task s n view h = record {
    objects_are = h.objects_are;
    notes_are = h.notes_are;
    store_tells = h.store_tells;
    meta_tells = h.meta_tells;
    tier_view_is = h.tier_view_is;
    view_is = refl;
    actor_state = h.actor_state;
  }

  -- what a copy's turn leaves of the rest
  copied_rest : (c : Scene) (p : Plain) (a b : ℕ) (tier_view : BrokerTierView) (tier_task : TierTask) (o : Objects) (n : List Note) (v : EntriesSeen) (new : CopyTiers S M)
      → o ≡ (objects new.store).objects → n ≡ (notes new.meta).notes → v ≡ new.view
      → IsChanged c p (after_turn c a b tier_view tier_task o n v) → IsChanged c p (after_turn c a b tier_view tier_task (objects new.store).objects (notes new.meta).notes new.view)
  copied_rest c p a b tier_view tier_task o n v new eo en ev h = renamed c p a b tier_view tier_task tier_task o _ n _ v _ refl eo en ev h

  copy_went : (copied : Copied) (origin : EventOrigin) (next : CopyNext) (turn : Turn CopyNext) (old new : CopyTiers S M) (c : Scene) (p : Plain) (a b : ℕ) (tier_view : BrokerTierView)
      → CopyTurnRow objects calls notes notings copied origin next (Ok turn) old new → ShowsScene c a b tier_view (Copies copied next) (objects old.store) (notes old.meta) old.view
      → length c.notes < 2 ^ 64 → TierSafe c p
      → IsChanged c p (after_turn c a b tier_view (copy_tier_task copied turn) (objects new.store).objects (notes new.meta).notes new.view)
  copy_went copied origin copying.Start turn old new c p a b tier_view row h few safe =
      copied_rest c p a b tier_view (copy_tier_task copied turn) (objects old.store).objects (notes new.meta).notes tier_view.view new
      (ap (λ (t : CopyTiers S M). (objects t.store).objects) (sym row.0)) refl (h.view_is ∙ ap (λ (t : CopyTiers S M). t.view) (sym row.0))
      (start_turn c p a b tier_view copied origin turn (objects old.store) old.meta new.meta (shown c a b tier_view _ _ _ old.view h) row.1)
  copy_went copied origin (copying.Put n) turn old new c p a b tier_view row h few safe =
      copied_rest c p a b tier_view (copy_tier_task copied turn) (objects new.store).objects (notes old.meta).notes tier_view.view new
      refl (ap (λ (t : CopyTiers S M). (notes t.meta).notes) (sym row.0)) (h.view_is ∙ ap (λ (t : CopyTiers S M). t.view) (sym row.0))
      (put_turn c p a b tier_view copied n _ turn (notes old.meta) old.store new.store refl (safe.copies.each a copied (copying.Put n) h.actor_state).key (shown c a b tier_view _ _ _ old.view h) row.1)
  copy_went copied origin copying.Finish turn old new c p a b tier_view row h few safe =
      copied_rest c p a b tier_view (copy_tier_task copied turn) (objects old.store).objects (notes new.meta).notes tier_view.view new
      (ap (λ (t : CopyTiers S M). (objects t.store).objects) (sym row.0)) refl (h.view_is ∙ ap (λ (t : CopyTiers S M). t.view) (sym row.0))
      (finish_turn c p a b tier_view copied origin turn (objects old.store) old.meta new.meta (shown c a b tier_view _ _ _ old.view h) row.1)
  copy_went copied origin copying.Check turn old new c p a b tier_view row h few safe =
      copied_rest c p a b tier_view (copy_tier_task copied turn) (objects old.store).objects (notes new.meta).notes new.view new
      (ap (λ (t : S). (objects t).objects) (sym row.0)) refl refl
      (check_turn c p a b tier_view copied turn (objects old.store) old.meta new.meta new.view (shown c a b tier_view _ _ _ old.view h) few (safe.views b tier_view h.tier_view_is)
      (subst (λ (v : EntriesSeen). CheckRow notes notings copied (Ok turn) v new.view old.meta new.meta) (sym h.view_is) row.1))
  copy_went copied origin (copying.Delete n) turn old new c p a b tier_view row h few safe =
      copied_rest c p a b tier_view (copy_tier_task copied turn) (objects new.store).objects (notes old.meta).notes tier_view.view new
      refl (ap (λ (t : CopyTiers S M). (notes t.meta).notes) (sym row.0)) (h.view_is ∙ ap (λ (t : CopyTiers S M). t.view) (sym row.0))
      (delete_turn c p a b tier_view copied old.view n _ turn (notes old.meta) old.store new.store refl (safe.copies.each a copied (copying.Delete n) h.actor_state).key (shown c a b tier_view _ _ _ old.view h) row.1)

  -- the turns of an expiry

  expiry_start : (c : Scene) (p : Plain) (a b : ℕ) (tier_view : BrokerTierView) (expired_segment : ExpiredSegment) (origin : EventOrigin) (turn : Turn ExpiryNext) (s : store.Content) (old new : M)
      → ShowsScene c a b tier_view (Expires expired_segment expiring.Start) s (notes old) tier_view.view → expiry.StartRow notes notings expired_segment origin (Ok turn) old new
      → IsChanged c p (after_turn c a b tier_view (expiry_tier_task expired_segment turn) s.objects (notes new).notes tier_view.view)
  expiry_start c p a b tier_view expired_segment origin (Ends MetaFault) s old new h row = told_failed c p a b tier_view (ExpiryStarts expired_segment) origin s old new h row
  expiry_start c p a b tier_view expired_segment origin turn s old new h row =
      renamed c p a b tier_view _ _ s.objects s.objects (notes new).notes (notes new).notes tier_view.view tier_view.view (ap (expiry_tier_task expired_segment) (sym row.0)) refl refl refl
      (told_went c p a b tier_view (ExpiryStarts expired_segment) origin s old new h row.1)

  expiry_finish : (c : Scene) (p : Plain) (a b : ℕ) (tier_view : BrokerTierView) (expired_segment : ExpiredSegment) (origin : EventOrigin) (turn : Turn ExpiryNext) (s : store.Content) (old new : M)
      → ShowsScene c a b tier_view (Expires expired_segment expiring.Finish) s (notes old) tier_view.view → expiry.FinishRow notes notings expired_segment origin (Ok turn) old new
      → IsChanged c p (after_turn c a b tier_view (expiry_tier_task expired_segment turn) s.objects (notes new).notes tier_view.view)
  expiry_finish c p a b tier_view expired_segment origin (Ends MetaFault) s old new h row = told_failed c p a b tier_view (ExpiryEnds expired_segment) origin s old new h row
  expiry_finish c p a b tier_view expired_segment origin turn s old new h row =
      renamed c p a b tier_view _ _ s.objects s.objects (notes new).notes (notes new).notes tier_view.view tier_view.view (ap (expiry_tier_task expired_segment) (sym row.0)) refl refl refl
      (told_went c p a b tier_view (ExpiryEnds expired_segment) origin s old new h row.1)

  expiry_delete : (c : Scene) (p : Plain) (a b : ℕ) (tier_view : BrokerTierView) (expired_segment : ExpiredSegment) (n : ℕ) (o : Option ObjectKey) (turn : Turn ExpiryNext) (ns : meta.Content) (old new : S)
      → slice_get (expiry_keys expired_segment) n ≡ o → n < length (expiry_keys expired_segment)
      → ShowsScene c a b tier_view (Expires expired_segment (expiring.Delete n)) (objects old) ns tier_view.view → expiry.DeleteRow objects calls expired_segment n o turn old new
      → IsChanged c p (after_turn c a b tier_view (expiry_tier_task expired_segment turn) (objects new).objects ns.notes tier_view.view)
  expiry_delete c p a b tier_view expired_segment n None turn ns old new at low h row = absurd (let there = look (expiry_keys expired_segment) n low in cc (there.1, at))
  expiry_delete c p a b tier_view expired_segment n (Some key) (Ends StoreFault) ns old new at low h row =
      stored_failed c p a b tier_view (Deletes expired_segment n key) _ old new ns h at row.content
  expiry_delete c p a b tier_view expired_segment n (Some key) turn ns old new at low h row =
      renamed c p a b tier_view _ _ (objects new).objects (objects new).objects ns.notes ns.notes tier_view.view tier_view.view (ap (expiry_tier_task expired_segment) (sym row.0)) refl refl refl
      (stored_went c p a b tier_view (Deletes expired_segment n key) _ old new ns h at row.1.content (λ done k. k.went refl))

  expiry_went : (expired_segment : ExpiredSegment) (origin : EventOrigin) (next : ExpiryNext) (turn : Turn ExpiryNext) (old new : ExpiryTiers S M) (c : Scene) (p : Plain) (a b : ℕ) (tier_view : BrokerTierView)
      → ExpiryRow objects calls notes notings expired_segment origin next (Ok turn) old new → ShowsScene c a b tier_view (Expires expired_segment next) (objects old.store) (notes old.meta) tier_view.view
      → TierSafe c p
      → IsChanged c p (after_turn c a b tier_view (expiry_tier_task expired_segment turn) (objects new.store).objects (notes new.meta).notes tier_view.view)
  expiry_went expired_segment origin expiring.Start turn old new c p a b tier_view row h safe =
      renamed c p a b tier_view _ _ (objects old.store).objects _ (notes new.meta).notes _ tier_view.view tier_view.view refl (ap (λ (t : ExpiryTiers S M). (objects t.store).objects) (sym row.0)) refl refl
      (expiry_start c p a b tier_view expired_segment origin turn (objects old.store) old.meta new.meta h row.1)
  expiry_went expired_segment origin (expiring.Delete n) turn old new c p a b tier_view row h safe =
      renamed c p a b tier_view _ _ (objects new.store).objects _ (notes old.meta).notes _ tier_view.view tier_view.view refl refl (ap (λ (t : ExpiryTiers S M). (notes t.meta).notes) (sym row.0)) refl
      (expiry_delete c p a b tier_view expired_segment n _ turn (notes old.meta) old.store new.store refl (safe.deletions.each a expired_segment (expiring.Delete n) h.actor_state).key h row.1)
  expiry_went expired_segment origin expiring.Finish turn old new c p a b tier_view row h safe =
      renamed c p a b tier_view _ _ (objects old.store).objects _ (notes new.meta).notes _ tier_view.view tier_view.view refl (ap (λ (t : ExpiryTiers S M). (objects t.store).objects) (sym row.0)) refl refl
      (expiry_finish c p a b tier_view expired_segment origin turn (objects old.store) old.meta new.meta h row.1)

  -- turns that need memory

  stays : (c : Scene) (p : Plain) (a b : ℕ) (tier_view : BrokerTierView) (tier_task : TierTask) (s : store.Content) (n : meta.Content) (o : Objects) (ns : List Note) → ShowsScene c a b tier_view tier_task s n tier_view.view
      → o ≡ s.objects → ns ≡ n.notes → IsChanged c p (after_turn c a b tier_view tier_task o ns tier_view.view)
  stays c p a b tier_view tier_task s n o ns h eo en =
      as_scene c c (after_turn c a b tier_view tier_task o ns tier_view.view) p
      (scene_same _ _ refl (h.objects_are ∙ sym eo) (h.notes_are ∙ sym en) (sym (set-same c.tier_views b tier_view h.tier_view_is)) (sym (set-same c.desk a tier_task h.actor_state)))
      (record { changes = []; may = refl; is = refl })

  dry_notes : (note : Note) (old new : M) → IsTrue (notes old).is_observable → AppendsToMetaLog notes notings note Dry old new → (notes new).notes ≡ (notes old).notes
  dry_notes note old new t k = by (k.content.notes t).0 ((k.content.notes t).1.dry refl) (k.content.notes t).2
    where
      by : (done : Bool) → done ≡ false → (notes new).notes ≡ meta.appended_if done note (notes old).notes → (notes new).notes ≡ (notes old).notes
      by false f is = is
      by true f is = absurd (cc (f))

  dry_objects : (key : ObjectKey) (bytes : List ℕ) (old new : S) → IsTrue (objects old).is_observable → StorePuts objects calls key bytes Dry old new → (objects new).objects ≡ (objects old).objects
  dry_objects key bytes old new t k = by (k.content.objects t).0 ((k.content.objects t).1.dry refl) (k.content.objects t).2
    where
      by : (done : Bool) → done ≡ false → MadeAt key (made_if done (replaced bytes)) (objects old).objects (objects new).objects → (objects new).objects ≡ (objects old).objects
      by false f made = not_made key (replaced bytes) (objects old).objects (objects new).objects made
      by true f made = absurd (cc (f))

  put_dry : (copied : Copied) (n : ℕ) (o : Option ObjectKey) (e : AllocError) (old new : S) → IsTrue (objects old).is_observable → PutObjectRow objects calls copied n o (Err e) old new
      → (objects new).objects ≡ (objects old).objects
  put_dry copied n None e old new t row = ap (λ (s : S). (objects s).objects) row.1
  put_dry copied n (Some key) e old new t (inl same) = ap (λ (s : S). (objects s).objects) same
  put_dry copied n (Some key) e old new t (inr row) = dry_objects key (part_in copied.parts row.part) old new t row.puts

  -- a view that is fed is that of more metadata events
  fed_view : (before more : List Note) → fed_all (view_of before) more ≡ view_of (before ++ more)
  fed_view before [] = ap view_of (sym (append-nil before))
  fed_view before (note ∷ more) =
      ap (λ (v : EntriesSeen). fed_all v more) (fed_again before note) ∙ (fed_view (before ++ note ∷ []) more ∙ ap view_of (append_assoc before (note ∷ []) more))

  pub sees_some : (c : Scene) (p : Plain) (a b : ℕ) (tier_view : BrokerTierView) (tier_task : TierTask) (s : store.Content) (old : M) (view : EntriesSeen) → ShowsScene c a b tier_view tier_task s (notes old) tier_view.view → length c.notes < 2 ^ 64
      → IsViewOf c.notes tier_view.view → Advances (notes old) tier_view.view view → IsChanged c p (after_turn c a b tier_view tier_task c.objects c.notes view)
  sees_some c p a b tier_view tier_task s old view h few v r =
      let within : length v.before ≤ length c.notes = prefix_length v.before c.notes v.begins in
      let count : tier_view.view.notes ≡ length v.before = ap (λ (w : EntriesSeen). w.notes) v.is ∙ omega (arith, few, within) in
      let rest : r.notes ++ r.rest ≡ drop (length v.before) c.notes =
      r.further h.meta_tells ∙ ap (λ (n : ℕ). drop n (notes old).notes) count ∙ ap (drop (length v.before)) (sym h.notes_are) in
      let whole : (v.before ++ r.notes) ++ r.rest ≡ c.notes =
      append_assoc v.before r.notes r.rest ∙ ap (λ (ns : List Note). v.before ++ ns) rest
      ∙ ap (λ (ns : List Note). ns ++ drop (length v.before) c.notes) (prefix_taken v.before c.notes v.begins) ∙ take-append-drop (length v.before) c.notes in
      let new : view ≡ view_of (v.before ++ r.notes) = r.view ∙ ap (λ (w : EntriesSeen). fed_all w r.notes) v.is ∙ fed_view v.before r.notes in
      as_scene c (effect (Sees b tier_view view) c) (after_turn c a b tier_view tier_task c.objects c.notes view) p
      (scene_same _ _ refl refl refl refl (sym (set-same c.desk a tier_task h.actor_state)))
      (one_change c p (Sees b tier_view view) (refl, record { tier_view_is = h.tier_view_is; before = v.before; old = v.is; more = v.before ++ r.notes; new = new; grows = (r.notes, refl); begins = (r.rest, whole) }))

  note_dry : (note : Note) (c : Scene) (p : Plain) (a b : ℕ) (tier_view : BrokerTierView) (tier_task : TierTask) (s : store.Content) (old new : M) → ShowsScene c a b tier_view tier_task s (notes old) tier_view.view
      → (new ≡ old) ⊎ AppendsToMetaLog notes notings note Dry old new → IsChanged c p (after_turn c a b tier_view tier_task s.objects (notes new).notes tier_view.view)
  note_dry note c p a b tier_view tier_task s old new h (inl same) = stays c p a b tier_view tier_task s (notes old) s.objects (notes new).notes h refl (ap (λ (m : M). (notes m).notes) same)
  note_dry note c p a b tier_view tier_task s old new h (inr k) = stays c p a b tier_view tier_task s (notes old) s.objects (notes new).notes h refl (dry_notes note old new h.meta_tells k)

  -- whatever an actor's state has
  pub copy_dry : (copied : Copied) (origin : EventOrigin) (next : CopyNext) (e : AllocError) (old new : CopyTiers S M) (c : Scene) (p : Plain) (a b : ℕ) (tier_view : BrokerTierView) (tier_task : TierTask)
      → CopyTurnRow objects calls notes notings copied origin next (Err e) old new → ShowsScene c a b tier_view tier_task (objects old.store) (notes old.meta) old.view
      → length c.notes < 2 ^ 64 → TierSafe c p
      → IsChanged c p (after_turn c a b tier_view tier_task (objects new.store).objects (notes new.meta).notes new.view)
  copy_dry copied origin copying.Start e old new c p a b tier_view tier_task row h few safe =
      copied_rest c p a b tier_view tier_task (objects old.store).objects (notes new.meta).notes tier_view.view new
      (ap (λ (t : CopyTiers S M). (objects t.store).objects) (sym row.0)) refl (h.view_is ∙ ap (λ (t : CopyTiers S M). t.view) (sym row.0))
      (note_dry (start_note copied origin) c p a b tier_view tier_task (objects old.store) old.meta new.meta (shown c a b tier_view _ _ _ old.view h) row.1)
  copy_dry copied origin (copying.Put n) e old new c p a b tier_view tier_task row h few safe =
      copied_rest c p a b tier_view tier_task (objects new.store).objects (notes old.meta).notes tier_view.view new
      refl (ap (λ (t : CopyTiers S M). (notes t.meta).notes) (sym row.0)) (h.view_is ∙ ap (λ (t : CopyTiers S M). t.view) (sym row.0))
      (stays c p a b tier_view _ (objects old.store) (notes old.meta) (objects new.store).objects (notes old.meta).notes (shown c a b tier_view _ _ _ old.view h)
      (put_dry copied n (slice_get (copy_keys copied) n) e old.store new.store h.store_tells row.1) refl)
  copy_dry copied origin copying.Finish e old new c p a b tier_view tier_task row h few safe =
      copied_rest c p a b tier_view tier_task (objects old.store).objects (notes new.meta).notes tier_view.view new
      (ap (λ (t : CopyTiers S M). (objects t.store).objects) (sym row.0)) refl (h.view_is ∙ ap (λ (t : CopyTiers S M). t.view) (sym row.0))
      (note_dry (finish_note copied origin) c p a b tier_view tier_task (objects old.store) old.meta new.meta (shown c a b tier_view _ _ _ old.view h) row.1)
  copy_dry copied origin copying.Check e old new c p a b tier_view tier_task row h few safe =
      renamed c p a b tier_view _ _ c.objects _ c.notes _ new.view new.view refl (h.objects_are ∙ ap (λ (t : S). (objects t).objects) (sym row.0)) (h.notes_are ∙ sym row.1.content.notes) refl
      (sees_some c p a b tier_view tier_task (objects old.store) old.meta new.view (shown c a b tier_view _ _ _ old.view h) few (safe.views b tier_view h.tier_view_is)
      (subst (λ (v : EntriesSeen). Advances (notes old.meta) v new.view) (sym h.view_is) row.1.view))
  copy_dry copied origin (copying.Delete n) e old new c p a b tier_view tier_task row h few safe = absurd row

  pub copy_turns : CopyTurnsChange objects calls notes notings
  copy_turns copied origin next (Ok turn) old new c p a b tier_view row h few safe = copy_went copied origin next turn old new c p a b tier_view row h few safe
  copy_turns copied origin next (Err e) old new c p a b tier_view row h few safe = copy_dry copied origin next e old new c p a b tier_view (Copies copied next) row h few safe

  expiry_dry : (expired_segment : ExpiredSegment) (origin : EventOrigin) (next : ExpiryNext) (e : AllocError) (old new : ExpiryTiers S M) (c : Scene) (p : Plain) (a b : ℕ) (tier_view : BrokerTierView)
      → ExpiryRow objects calls notes notings expired_segment origin next (Err e) old new → ShowsScene c a b tier_view (Expires expired_segment next) (objects old.store) (notes old.meta) tier_view.view
      → IsChanged c p (after_turn c a b tier_view (Expires expired_segment next) (objects new.store).objects (notes new.meta).notes tier_view.view)
  expiry_dry expired_segment origin expiring.Start e old new c p a b tier_view row h =
      stays c p a b tier_view _ (objects old.store) (notes old.meta) (objects new.store).objects (notes new.meta).notes h (ap (λ (t : ExpiryTiers S M). (objects t.store).objects) row.0)
      (dry_notes (expiry.note_of expired_segment origin DeleteStarted) old.meta new.meta h.meta_tells row.1)
  expiry_dry expired_segment origin (expiring.Delete n) e old new c p a b tier_view row h = absurd row
  expiry_dry expired_segment origin expiring.Finish e old new c p a b tier_view row h =
      stays c p a b tier_view _ (objects old.store) (notes old.meta) (objects new.store).objects (notes new.meta).notes h (ap (λ (t : ExpiryTiers S M). (objects t.store).objects) row.0)
      (dry_notes (expiry.note_of expired_segment origin DeleteFinished) old.meta new.meta h.meta_tells row.1)

  pub expiry_turns : ExpiryTurnsChange objects calls notes notings
  expiry_turns expired_segment origin next (Ok turn) old new c p a b tier_view row h safe = expiry_went expired_segment origin next turn old new c p a b tier_view row h safe
  expiry_turns expired_segment origin next (Err e) old new c p a b tier_view row h safe = expiry_dry expired_segment origin next e old new c p a b tier_view row h

  pub refreshes : RefreshesChange notes
  refreshes old view c p a b tier_view tier_task s h few safe r = sees_all c p a b tier_view tier_task s old view h few (safe.views b tier_view h.tier_view_is) r

  pub halts : HaltsChange notes
  halts old view c p a b tier_view tier_task s h few safe r = sees_some c p a b tier_view tier_task s old view h few (safe.views b tier_view h.tier_view_is) r
