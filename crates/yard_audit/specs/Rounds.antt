-- What a round over the partitions of an environment finds, and what it leaves.
use Rattle.std.specs.Prelude.{◌≡◌, ℕ, Some, List, map, IsTrue}
use Rattle.std.specs.List.{AllByRecursion}
use Rattle.tier_base.specs.declared.names.PartitionId.{PartitionId}
use Rattle.disk_model.specs.Content as disk
use Rattle.segment_meta.specs.declared.note.Note.{Note}
use Rattle.object_store.specs.Content as store
use Rattle.meta_log.specs.Content as log
use Rattle.remote_view.specs.Fold.{fold}
use Rattle.device_yard.specs.YardContent.{YardContent, AreUsed, Rise, HandsStore, HandsLog}
use Rattle.tier_audit.specs.declared.verdict.Verdict.{Verdict}
use Rattle.tier_audit.specs.Flaws.{IsAuditVerdict}
use Rattle.tier_sweep.specs.Sweeping.{SweptTier, IsSwept, IsUnderSweep, LeavesUnder}
use Rattle.yard_audit.specs.Tiers.{HoldsTier, MayLeave, left_on, DisksRest}

-- the partitions of what was found
abbrev pub partitions_of : {A : Type 0} → List (PartitionId × A) → List PartitionId
partitions_of found = map (λ one. one.0) found

module _ {D S M : Type 0} (objects : S → store.Content) (notes : M → log.Content) where
  -- the verdict is right of the partition's tier
  pub record IsAudited (held : YardContent D S M) (found : PartitionId × Verdict) : Type 0 where
    pub tier : SweptTier
    pub held_so : HoldsTier objects notes held found.0 tier
    pub is : IsAuditVerdict tier.objects (fold tier.notes) found.1

  -- a sweep of the partition's tier took so many objects away
  pub record IsSweptIn (old new : YardContent D S M) (found : PartitionId × ℕ) : Type 0 where
    pub before : SweptTier
    pub after : SweptTier
    pub held_so : HoldsTier objects notes old found.0 before
    pub left_so : HoldsTier objects notes new found.0 after
    pub is : IsSwept before after found.1

  -- a sweep of the partition's tier has come so far, or hasn't begun
  pub record IsUnderSweepIn (old new : YardContent D S M) (p : PartitionId) : Type 0 where
    pub before : SweptTier
    pub after : SweptTier
    pub held_so : HoldsTier objects notes old p before
    pub left_so : HoldsTier objects notes new p after
    pub is : IsUnderSweep before after

  -- these metadata events, which a power cut may leave of the partition, have come so far in its sweep from some that
  -- it might have left before, or it hasn't begun
  pub record IsLeftIn (old new : YardContent D S M) (p : PartitionId) (left : List Note) : Type 0 where
    pub before : SweptTier
    pub after : SweptTier
    pub held_so : MayLeave objects notes old p before
    pub left_so : MayLeave objects notes new p after
    pub notes_are : after.notes ≡ left
    pub is : IsUnderSweep before after

  -- and so have all that it may leave
  abbrev pub LeavesUnderIn : YardContent D S M → YardContent D S M → PartitionId → Type 0
  LeavesUnderIn old new p = (left : List Note) → left_on notes (new.logs p) left → IsLeftIn old new p left

module _ {D S M : Type 0} (files : D → disk.Content) (objects : S → store.Content) (notes : M → log.Content) where
  -- these are the partitions in use, in rising order
  pub record AreAll (held : YardContent D S M) (list : List PartitionId) : Type 0 where
    pub rise : Rise list
    pub used : IsTrue held.is_observable → AreUsed files objects notes held list

  -- each partition has its verdict, and each verdict is right
  pub record AreAudited (held : YardContent D S M) (found : List (PartitionId × Verdict)) : Type 0 where
    pub all : AreAll held (partitions_of found)
    pub right : IsTrue held.is_observable → AllByRecursion (IsAudited objects notes held) found

  -- the tier of each partition was swept, and each disk is as it was
  pub record AreSwept (old new : YardContent D S M) (found : List (PartitionId × ℕ)) : Type 0 where
    pub all : AreAll old (partitions_of found)
    pub swept : IsTrue old.is_observable → AllByRecursion (IsSweptIn objects notes old new) found
    pub disks : IsTrue old.is_observable → DisksRest files old new

  -- what a power cut may leave of the store and the metadata log that are provided then is under a sweep from what it
  -- might have left of those that were held
  abbrev pub HandedLeavesUnder : Type 0
  HandedLeavesUnder = (old new : YardContent D S M) (p : PartitionId) (s s' : S) (m m' : M) → old.stores p ≡ Some s
      → old.logs p ≡ Some m
      → HandsStore objects (new.stores p) (objects s') → HandsLog notes (new.logs p) (notes m')
      → LeavesUnderIn objects notes old new p
      → LeavesUnder (objects s) (notes m) (objects s') (notes m')
