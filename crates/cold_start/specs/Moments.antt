-- What a power cut leaves that comes at any moment since a step began.
--
--   form                       says
--   IsCutSince old now new     a disk after it: it has the files that one moment since old left, and no others
--   LeaveSince xs ys disks     so has each broker's
--   IsLeftSince v r0 w r ..    a power cut of everything may leave these devices in the course of the step
--   LeavesDuring opening ..    they represent what is left of the plain state before the step, or of that after it
--   GoesSafely t t'            a step of an actor, in the course of which that holds
--   GoesThrough us t t'        such steps lead from t to t' through these
--   RunsThrough t t'           so through some
--   StepsWorkOnOne             a step works on one device at most
--
-- Several devices have no common clock, so whatever moments their files are of may come together. A step works on one
-- device at most: that alone decides whether it's the state before or after it.
use Rattle.std.specs.Prelude.{◌≡◌, ◌⊎◌, ℕ, List, [], ◌∷◌, Some, slice_get, slice_set, IsTrue}
use Rattle.tier_base.specs.declared.plain.FileName.{FileName}
use Rattle.disk_model.specs.Content.{Content, Files, Image}
use Rattle.disk_model.specs.declared.disk.Disk.{Ghosts as DiskGhosts}
use Rattle.object_store.specs.declared.store.Store.{Ghosts as StoreGhosts}
use Rattle.meta_log.specs.declared.log.MetaLog.{Ghosts as MetaGhosts}
use Rattle.broker_log.specs.Seen.{LogState, OnDisk, LeavesBetween}
use Rattle.plain_log.specs.declared.state.State.{State}
use Rattle.laws_partition.specs.declared.actor_progress.Stepped.{Stepped}
use Rattle.partition_commands.specs.declared.partition_state.Node.{Node}
use Rattle.partition_world.specs.Later.{IsLater}
use Rattle.partition_world.specs.Left.{IsCentralLeft}
use Rattle.partition_world.specs.Turn.{Steps}
use Rattle.partition_world.specs.Whole.{Whole}
use Rattle.cold_state.specs.Cold.{cold_of}
use Rattle.cold_start.specs.ColdWorld.{IsCutStore, IsCutLog, plain_in}
use Rattle.cold_start.specs.Running.{Running}
use Rattle.cold_start.specs.Stands.{StandsFor}
use Rattle.cold_start.specs.Stepping.{Ends, logs_of}
use Rattle.cold_start.specs.declared.refusal.ColdRefusal.{ColdRefusal}

-- a disk after a power cut at some moment since: it has the files that were left then, and a further cut leaves no
-- others
pub record IsCutSince (old now new : Content) : Type 0 where
  pub is_observable : IsTrue old.is_observable → IsTrue new.is_observable
  pub files : Files
  pub left : now.left old.moment files
  pub images : (c : Files) → Image new c → (n : FileName) → c n ≡ files n

module _ {D : Type 0} (content : D → Content) where
  -- each broker's
  abbrev pub LeaveSince : List (Node D) → List (Node D) → List D → Type 0
  LeaveSince [] [] [] = Unit {0}
  LeaveSince (x ∷ xs) (y ∷ ys) (d ∷ disks) =
      OnDisk x.log (λ old. OnDisk y.log (λ now. IsCutSince (content old) (content now) (content d)))
      × LeaveSince xs ys disks
  LeaveSince [] [] (d ∷ disks) = ⊥
  LeaveSince [] (y ∷ ys) disks = ⊥
  LeaveSince (x ∷ xs) [] disks = ⊥
  LeaveSince (x ∷ xs) (y ∷ ys) [] = ⊥

  -- one broker's log became another, and a crash in between left that of before or that of after
  pub record ChangesLog (xs ys : List (Node D)) : Type 0 where
    pub at : ℕ
    pub old : Node D
    pub was : slice_get xs at ≡ Some old
    pub kept : LogState D
    pub logs : logs_of ys ≡ slice_set (logs_of xs) at kept
    pub between : LeavesBetween content old.log kept

module _ {D S M : Type 0} (disk : DiskGhosts D) (store : StoreGhosts S) (meta : MetaGhosts M) where
  -- One broker's log changes at most. Where one does, nothing else is called; where none does, the store or the
  -- metadata log is as it was.
  abbrev pub WorksOnOne : Whole D S M → Whole D S M → Type 0
  WorksOnOne w w' =
      (ChangesLog disk.content w.partition_state.nodes w'.partition_state.nodes
      × (w'.partition_state.registry ≡ w.partition_state.registry) × (w'.tier.store ≡ w.tier.store)
      × (w'.tier.meta ≡ w.tier.meta))
      ⊎ ((logs_of w'.partition_state.nodes ≡ logs_of w.partition_state.nodes)
      × ((w'.tier.store ≡ w.tier.store) ⊎ (w'.tier.meta ≡ w.tier.meta)))

  abbrev pub StepsWorkOnOne : Type 0
  StepsWorkOnOne = (w : Whole D S M) (a : ℕ) (stepped : Stepped) (w' : Whole D S M)
      → Steps disk store meta w a stepped w' → WorksOnOne w w'

  -- a power cut of everything may leave these of an open partition's devices in the course of a step from this world
  -- to that
  pub record IsLeftSince (v : Whole D S M) (reg : D) (w : Whole D S M) (now : D) (disks : List D) (s : S) (m : M)
      (r : D) : Type 0 where
    pub logs : LeaveSince disk.content v.partition_state.nodes w.partition_state.nodes disks
    pub objects : IsCutStore (store.content v.tier.store) (store.content s)
        ⊎ IsCutStore (store.content w.tier.store) (store.content s)
    pub notes : IsCutLog (meta.content v.tier.meta) (meta.content m)
        ⊎ IsCutLog (meta.content w.tier.meta) (meta.content m)
    pub file : IsCutSince (disk.content reg) (disk.content now) (disk.content r)

  -- they represent what is left of the plain state before the step, or of that after it
  abbrev pub LeavesDuring : State → Whole D S M → D → Whole D S M → D → Type 0
  LeavesDuring opening v reg w now = (b : IsCentralLeft disk store meta opening v)
      (c : IsCentralLeft disk store meta opening w)
      (disks : List D) (s : S) (m : M) (r : D) → IsLeftSince v reg w now disks s m r
      → StandsFor disk store meta w.partition disks s m r (cold_of (plain_in disk store meta opening v b))
      ⊎ StandsFor disk store meta w.partition disks s m r (cold_of (plain_in disk store meta opening w c))

  -- a turn of an actor was taken, or one whose registry couldn't be kept
  abbrev pub TakesTurn : Running D S M → Running D S M → Type 0
  TakesTurn t t' =
      ((a : ℕ) × (stepped : Stepped) × Steps disk store meta t.world a stepped t'.world)
      ⊎ ((why : ColdRefusal) × Ends disk t.reg t.world t' why)

  -- such a step, in the course of which that holds, where the registry's disk is observable
  pub record GoesSafely (t t' : Running D S M) : Type 0 where
    pub turn : TakesTurn t t'
    pub later : IsLater disk store meta t.world t'.world
    pub during : IsTrue (disk.content t.reg).is_observable → (opening : State)
        → LeavesDuring opening t.world t.reg t'.world t'.reg

  -- such steps, one after the other
  abbrev pub GoesThrough : List (Running D S M) → Running D S M → Running D S M → Type 0
  GoesThrough [] t t' = t' ≡ t
  GoesThrough (u ∷ us) t t' = GoesSafely t u × GoesThrough us u t'

  abbrev pub RunsThrough : Running D S M → Running D S M → Type 0
  RunsThrough t t' = (us : List (Running D S M)) × GoesThrough us t t'
