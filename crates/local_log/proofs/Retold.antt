-- An image opens as it did: a call has changed nothing that its manifest lists.
use Rattle.std.proofs.Common.{ℕ, ◌<◌, ◌≤◌, Bool, List, [], ◌∷◌, ◌++◌, map, inl, inr, ⊎_elim}
use Rattle.tier_base.specs.declared.plain.FileName.TheVariants as file
use Rattle.disk_model.specs.Content.{Content, Lawful, Files, Image, Keeps, LeavesOnly, Changes, BeginsWith, appended, HasGrown as MayGrow}
use Rattle.segment_file.specs.Growing.{Grown}
use Rattle.log_steps.specs.Opens.{Opened}
use Rattle.log_manifest.specs.Spelling.{manifest_bytes}
use Rattle.log_steps.proofs.Moments.{started, goes_on, leaves_weaker, leaves_then}
use Rattle.log_steps.proofs.Restored.{manifest_other}
use Rattle.log_steps.proofs.Standing.{append_since}
use Rattle.local_log.specs.Stored.{size_of, end_of, extent_of}
use Rattle.local_log.specs.Listing.{AreSegmentsOf}
use Rattle.local_log.specs.Inside.{DiskHasLog}
use Rattle.local_log.specs.Cutting.{OpensAs, OpensAsOr}
use Rattle.local_log.proofs.Having.{held_as}
use Rattle.local_log.proofs.Behind.{rolled_has}

-- before a call
pub start_opens : (d : Content) → LeavesOnly d d (OpensAs d)
start_opens d = started d (OpensAs d) (λ c now. (c, now, λ o opens. opens))

-- a call that makes no image
pub kept_moments : (d m : Content) (P : Files → Type 0) → Keeps d m → ((c : Files) → Image d c → P c) → LeavesOnly d m P
kept_moments d m P k here = goes_on d d m P (started d P here) k.time (λ c now. here c (k.images c now))

pub kept_opens : (d m : Content) → Keeps d m → LeavesOnly d m (OpensAs d)
kept_opens d m k = kept_moments d m (OpensAs d) k (λ c now. (c, now, λ o opens. opens))

-- two runs of calls
pub opens_then : (d m new : Content) → Lawful m → LeavesOnly d m (OpensAs d) → LeavesOnly m new (OpensAs m) → LeavesOnly d new (OpensAs d)
opens_then d m new laws-m h k =
    leaves_then d m new (OpensAs d) h (leaves_weaker m new (OpensAs m) (OpensAs d) (λ c i. (
    let was = h.each i.0 (laws-m.earlier d.moment m.moment i.0 h.later i.1) in
    (was.0, was.1, λ o opens. i.2 o (was.2 o opens))
    )) k)

pub twice_opens : (d m m2 : Content) → Lawful m → Keeps d m → Keeps m m2 → LeavesOnly d m2 (OpensAs d)
twice_opens d m m2 laws-m k k2 = opens_then d m m2 laws-m (kept_opens d m k) (kept_opens m m2 k2)

-- before a call that may make another log of an image
pub start_or : (d : Content) (o : Opened) → LeavesOnly d d (OpensAsOr d o)
start_or d o = started d (OpensAsOr d o) (λ c now. inl (c, now, λ p opens. opens))

pub kept_or : (d m : Content) (o : Opened) → Keeps d m → LeavesOnly d m (OpensAsOr d o)
kept_or d m o k = leaves_weaker d m (OpensAs d) (OpensAsOr d o) (λ c i. inl i) (kept_opens d m k)

-- such a call after others, and before others
pub or_last : (d m new : Content) (o : Opened) → Lawful m → LeavesOnly d m (OpensAs d) → LeavesOnly m new (OpensAsOr m o) → LeavesOnly d new (OpensAsOr d o)
or_last d m new o laws-m h k =
    leaves_then d m new (OpensAsOr d o)
    (leaves_weaker d m (OpensAs d) (OpensAsOr d o) (λ c i. inl i) h)
    (leaves_weaker m new (OpensAsOr m o) (OpensAsOr d o) (λ c i. ⊎_elim
    (λ like. (let was = h.each like.0 (laws-m.earlier d.moment m.moment like.0 h.later like.1) in inl (was.0, was.1, λ p opens. like.2 p (was.2 p opens))))
    (λ made. inr made)
    i) k)

pub or_first : (d m new : Content) (o : Opened) → Lawful m → LeavesOnly d m (OpensAsOr d o) → LeavesOnly m new (OpensAs m) → LeavesOnly d new (OpensAsOr d o)
or_first d m new o laws-m h k =
    leaves_then d m new (OpensAsOr d o) h
    (leaves_weaker m new (OpensAs m) (OpensAsOr d o) (λ c like. ⊎_elim
    (λ was. inl (was.0, was.1, λ p opens. like.2 p (was.2 p opens)))
    (λ made. inr (like.2 o made))
    (h.each like.0 (laws-m.earlier d.moment m.moment like.0 h.later like.1))) k)

module _ (d : Content) (laws : Lawful d) (incarnation local_start : ℕ) (closed : List Grown) (active : Grown) (line : List (ℕ × ℕ)) (flushed_end : ℕ) (has : DiskHasLog d incarnation local_start closed active line flushed_end) where
  pub appended_opens : (d' : Content) → Lawful d' → (more : List ℕ) (M : Bool → Type 0) → Changes (file.Log active.base) (appended more) MayGrow M d d' → LeavesOnly d d' (OpensAs d)
  appended_opens d' laws' more M change =
      leaves_weaker d d' _ (OpensAs d) (held_as d laws incarnation local_start closed active line flushed_end has)
      (append_since d d' laws laws' (manifest_bytes has.listed) has.listed.segments (map extent_of closed) has.images (file.Log active.base) (manifest_other active.base) more M change)

module _ (d m m2 : Content) (laws : Lawful d) (laws-m : Lawful m) (laws2 : Lawful m2) (incarnation local_start : ℕ) (closed : List Grown) (active : Grown) (line : List (ℕ × ℕ)) (flushed_end : ℕ) (has : DiskHasLog d incarnation local_start closed active line flushed_end) (k : Keeps d m) (k2 : Keeps m m2)
    (interval : ℕ) (are : AreSegmentsOf local_start closed active) (some : 0 < size_of active) (low : flushed_end ≤ end_of active) (synced : (c : Files) → Image m2 c → BeginsWith (m.files (file.Log active.base)) (c (file.Log active.base))) where
  pub behind_opens : (d' : Content) → Lawful d' → (more : List ℕ) (M : Bool → Type 0) → Changes (file.Log (end_of active)) (appended more) MayGrow M m2 d' → LeavesOnly d d' (OpensAs d)
  behind_opens d' laws' more M change =
      opens_then d m2 d' laws2 (twice_opens d m m2 laws-m k k2)
      (appended_opens m2 laws2 incarnation local_start (closed ++ active ∷ []) (record { base = end_of active; interval = interval; batches = [] }) line flushed_end
      (rolled_has d m m2 laws laws-m laws2 incarnation local_start closed active line flushed_end has k k2 interval are some low synced) d' laws' more M change)
