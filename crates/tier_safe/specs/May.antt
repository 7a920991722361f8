-- When a change may happen.
--
-- The plain log moves in `Steps` alone; any other change leaves it. A turn that is answered is some changes, and then
-- a step of the plain log.
use Rattle.std.specs.Prelude.{◌≡◌, ◌⊎◌, ℕ, ◌<◌, ◌≤◌, true, List, [], ◌∷◌, Some, slice_get}
use mathlib.Core.List.{IsPrefix}
use Rattle.tier_base.specs.Key.{IsId}
use Rattle.tier_base.specs.declared.names.SegmentId.{SegmentId}
use Rattle.tier_base.specs.Told.{In}
use Rattle.log_terms.specs.Log.{end_of}
use Rattle.sparse_index.specs.Offsets.{OffsetTable}
use Rattle.segment_meta.specs.declared.note.Note.{Note}
use Rattle.object_store.specs.Content.{Objects, MadeAt}
use Rattle.plain_log.specs.declared.state.State.{State as Plain}
use Rattle.plain_log.specs.declared.state.Broker.{Broker}
use Rattle.plain_log.specs.Safe.{HasOnPath}
use Rattle.remote_view.specs.Fold.{EntriesSeen, view_of}
use Rattle.copy_task.specs.Copying.{Copied}
use Rattle.tier_safe.specs.Scene.{BrokerTierView, Free, Rebuilds, Scene}
use Rattle.tier_safe.specs.Changes.{Telling, before_telling, Storing, before_storing, key_for, KeyStands}
use Rattle.tier_safe.specs.Changes.{made_by, Dropping, Trims, Restarts, Change, Steps, Moves, Chooses, Tells}
use Rattle.tier_safe.specs.Changes.{Stores, Sees, Caches, Drops, effect, effects}
use Rattle.tier_safe.specs.Lineage.{IsSource, CoversLog}
use Rattle.tier_safe.specs.Views.{IsIdOf}
use Rattle.tier_safe.specs.Fetches.{CachedStands}
use Rattle.tier_safe.specs.Follow.{MayStep}
use Rattle.tier_safe.specs.Moves.{MayMove}

-- a copy of a broker that is up takes a segment of a path, in this partition, under the broker's next id
pub record MayChoose (a b : ℕ) (tier_view : BrokerTierView) (copy : Copied) (c : Scene) (p : Plain) : Type 0 where
  pub actor_state : slice_get c.desk a ≡ Some Free
  pub tier_view_is : slice_get c.tier_views b ≡ Some tier_view
  pub up : tier_view.up ≡ true
  pub partition : copy.partition ≡ c.partition
  pub id : IsIdOf copy.id copy.partition.0 b tier_view.incarnation tier_view.next
  pub fits : IsId copy.id
  pub source : IsSource p.paths copy

-- the metadata event is the one that the command reports next
pub record MayTell (a : ℕ) (telling : Telling) (c : Scene) : Type 0 where
  pub actor_state : slice_get c.desk a ≡ Some (before_telling telling)

-- the object is the one that the command puts or takes away next, under its key
pub record MayStore (a : ℕ) (storing : Storing) (objects : Objects) (c : Scene) : Type 0 where
  pub actor_state : slice_get c.desk a ≡ Some (before_storing storing)
  pub key : KeyStands storing
  pub made : MadeAt (key_for storing) (made_by storing) c.objects objects

-- the view of the first metadata events becomes that of more of them
pub record MaySee (b : ℕ) (tier_view : BrokerTierView) (view : EntriesSeen) (c : Scene) : Type 0 where
  pub tier_view_is : slice_get c.tier_views b ≡ Some tier_view
  pub before : List Note
  pub old : tier_view.view ≡ view_of before
  pub more : List Note
  pub new : view ≡ view_of more
  pub grows : IsPrefix before more
  pub begins : IsPrefix more c.notes

-- each index in the cache was there, or is that of a finished copy
pub record MayCache (b : ℕ) (tier_view : BrokerTierView) (cache : List (SegmentId × OffsetTable)) (c : Scene)
    (p : Plain) : Type 0 where
  pub tier_view_is : slice_get c.tier_views b ≡ Some tier_view
  pub are : (id : SegmentId) (index : OffsetTable) → In (id, index) cache
      → In (id, index) tier_view.cache ⊎ CachedStands p.paths c.notes id index

-- each dropped offset is covered in the broker's view; or a rebuild's broker has the path up to the wanted offset
abbrev pub DropsWhy : Dropping → BrokerTierView → ℕ → Scene → Plain → Broker → Type 0
DropsWhy Trims tier_view start c p x =
    (o : ℕ) → p.registry.start ≤ o → tier_view.start ≤ o → o < start → CoversLog tier_view.view.entries x.log o
DropsWhy (Restarts a rebuild) tier_view start c p x =
    (slice_get c.desk a ≡ Some (Rebuilds rebuild)) × (rebuild.wanted ≡ start) × (end_of x.log ≡ start)
    × HasOnPath p.paths rebuild.epoch x.log

-- a local log starts later, at or below its end
pub record MayDropLocal (b : ℕ) (tier_view : BrokerTierView) (start : ℕ) (dropping : Dropping) (c : Scene)
    (p : Plain) : Type 0 where
  pub tier_view_is : slice_get c.tier_views b ≡ Some tier_view
  pub x : Broker
  pub broker_is : slice_get p.brokers b ≡ Some x
  pub rises : tier_view.start ≤ start
  pub within : start ≤ end_of x.log
  pub why : DropsWhy dropping tier_view start c p x

-- the condition of a change that leaves the plain log as it is
abbrev pub MayAlter : Change → Scene → Plain → Type 0
MayAlter (Steps tier_views) c p = ⊥
MayAlter (Moves a move) c p = MayMove a move c p
MayAlter (Chooses a b tier_view copy) c p = MayChoose a b tier_view copy c p
MayAlter (Tells a telling origin) c p = MayTell a telling c
MayAlter (Stores a storing objects) c p = MayStore a storing objects c
MayAlter (Sees b tier_view view) c p = MaySee b tier_view view c
MayAlter (Caches b tier_view cache) c p = MayCache b tier_view cache c p
MayAlter (Drops b tier_view start dropping) c p = MayDropLocal b tier_view start dropping c p

-- the condition of a change
abbrev pub May : Change → Scene → Plain → Plain → Type 0
May (Steps tier_views) c p q = MayStep tier_views c p q
May change c p q = (q ≡ p) × MayAlter change c p

-- of several, one after another
abbrev pub Mays : List Change → Scene → Plain → Plain → Type 0
Mays [] c p q = q ≡ p
Mays (change ∷ changes) c p q = (m : Plain) × May change c p m × Mays changes (effect change c) m q

-- changes lead from one tier to another, beside a state of the plain log that stays
pub record IsChanged (c : Scene) (p : Plain) (new : Scene) : Type 0 where
  pub changes : List Change
  pub may : Mays changes c p p
  pub is : effects changes c ≡ new
