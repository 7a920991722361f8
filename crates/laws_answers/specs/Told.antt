-- How many faults of each device a journal reports: as many as its count of them has risen by.
--
-- A fault of a disk is one of the broker's that the command is for. A follow also reads the log of its leader, so of it
-- the journal doesn't report whose disk it was.
use Rattle.std.specs.Prelude.{◌≡◌, ℕ, zero, suc, ◌+◌, ◌<◌, ◌==◌, Bool, true, false, List}
use Rattle.std.specs.Prelude.{[], ◌∷◌, length, Option, Some, None, IsSomeAnd}
use Rattle.tier_base.specs.Counts.{counted}
use Rattle.tier_base.specs.Device.{Control}
use Rattle.disk_model.specs.Call.{call_code}
use Rattle.disk_model.specs.declared.disk.Disk.{Ghosts as DiskGhosts}
use Rattle.object_store.specs.declared.store.Store.{Ghosts as StoreGhosts}
use Rattle.meta_log.specs.declared.log.MetaLog.{Ghosts as MetaGhosts}
use Rattle.plain_log.specs.declared.answer.Answer.{Answer}
use Rattle.plain_log.specs.declared.command.ActorList.{ActorList}
use Rattle.plain_log.specs.declared.command.Command.{Command}
use Rattle.plain_log.specs.declared.command.Command.TheVariants.{Follow}
use Rattle.plain_log.specs.declared.journal.Event.{Event}
use Rattle.plain_log.specs.declared.journal.Event.TheVariants.{Begins, Answers}
use Rattle.plain_log.specs.declared.journal.JournalEntry.{JournalEntry}
use Rattle.plain_log.specs.Runs.{order_of}
use Rattle.broker_log.specs.Seen.{OnDisk}
use Rattle.partition_commands.specs.declared.partition_state.Node.{Node}
use Rattle.partition_commands.specs.Faults.{is_of_disk, is_of_store, is_of_meta}
use Rattle.partition_world.specs.Whole.{Whole}

-- a count after so many faults more
abbrev pub after_faults : ℕ → ℕ → ℕ
after_faults zero n = n
after_faults (suc k) n = counted (after_faults k n) 1

-- one where it is so
abbrev pub one_if : Bool → ℕ
one_if true = 1
one_if false = 0

-- a command gets this answer
abbrev pub is_told : (Answer → Bool) → Event → Bool
is_told is (Answers answer) = is answer
is_told is (Begins cut) = false

-- how many are
abbrev pub count_told : (Answer → Bool) → List JournalEntry → ℕ
count_told is [] = 0
count_told is (entry ∷ journal) = one_if (is_told is entry.event) + count_told is journal

-- it is this broker
abbrev pub is_broker : ℕ → Option ℕ → Bool
is_broker b None = false
is_broker b (Some d) = d == b

-- how often this broker is among these
abbrev pub count_of : ℕ → List (Option ℕ) → ℕ
count_of b [] = 0
count_of b (o ∷ failed) = one_if (is_broker b o) + count_of b failed

-- of so many brokers, a command of the one works on the other's disk
abbrev pub WorksOn : ℕ → Command → ℕ → ℕ → Type 0
WorksOn brokers (Follow limit) b d = d < brokers
WorksOn brokers command b d = d ≡ b

-- where the entry describes a fault of a disk, it is of that broker's
abbrev pub NamesDisk : ℕ → List ActorList → JournalEntry → Option ℕ → Type 0
NamesDisk brokers lists entry None = is_told is_of_disk entry.event ≡ false
NamesDisk brokers lists entry (Some d) =
    (is_told is_of_disk entry.event ≡ true) × IsSomeAnd (order_of lists entry)
    (λ order. WorksOn brokers order.command order.broker.0 d)

-- so for each entry
abbrev pub NameDisks : ℕ → List ActorList → List JournalEntry → List (Option ℕ) → Type 0
NameDisks brokers lists [] [] = Unit {0}
NameDisks brokers lists (entry ∷ journal) (o ∷ failed) = NamesDisk brokers lists entry o
    × NameDisks brokers lists journal failed
NameDisks brokers lists [] (o ∷ failed) = ⊥
NameDisks brokers lists (entry ∷ journal) [] = ⊥

module _ {D : Type 0} (control : D → Control call_code) where
  -- the counts of the disks of the brokers from this one on have risen by as many faults as are theirs
  abbrev pub DisksTold : ℕ → List (Option ℕ) → List (Node D) → List (Node D) → Type 0
  DisksTold b failed [] [] = Unit {0}
  DisksTold b failed (x ∷ xs) (y ∷ ys) =
      OnDisk x.log (λ d. OnDisk y.log (λ e. (control e).faults ≡ after_faults (count_of b failed) (control d).faults))
      × DisksTold (b + 1) failed xs ys
  DisksTold b failed [] (y ∷ ys) = ⊥
  DisksTold b failed (x ∷ xs) [] = ⊥

module _ {D S M : Type 0} (disk : DiskGhosts D) (store : StoreGhosts S) (meta : MetaGhosts M) where
  -- since the one world each device has counted as many faults as the journal of the other reports
  pub record FaultsAreTold (w w' : Whole D S M) : Type 0 where
    -- of each entry the broker whose disk failed
    pub failed : List (Option ℕ)
    pub are : NameDisks (length w.partition_state.nodes) w'.lists w'.journal.items failed
    pub disks : DisksTold disk.control 0 failed w.partition_state.nodes w'.partition_state.nodes
    pub store_told : (store.control w'.tier.store).faults
        ≡ after_faults (count_told is_of_store w'.journal.items) (store.control w.tier.store).faults
    pub meta_told : (meta.control w'.tier.meta).faults
        ≡ after_faults (count_told is_of_meta w'.journal.items) (meta.control w.tier.meta).faults
