-- What a turn of a command comes to that works on the remote tier: copy, expire, and a fetch below the local log.
-- Whether segments are copied at all isn't seen.
--
-- Of the remote tier nothing is seen here: how its calls end, and what is there, is answered as it comes. Each of these
-- commands records where it begins, and continues as long as its broker leads as it did. The turns between the first
-- and the last change nothing that is seen.
use Rattle.std.specs.Prelude.{◌≡◌, ◌⊎◌, ℕ, ◌<◌, ◌≤◌, true, false, Ok as Done}
use Rattle.log_terms.specs.Log.{end_of}
use Rattle.registry.specs.Calls.{after_raise}
use Rattle.plain_log.specs.declared.answer.Answer.{Answer}
use Rattle.plain_log.specs.declared.answer.Answer.TheVariants.{Down, NotLeader, MetaFault, StoreFault, DiskFault}
use Rattle.plain_log.specs.declared.answer.Answer.TheVariants.{Damaged, LostLead, Level, Overtaken, CopiedSegment}
use Rattle.plain_log.specs.declared.answer.Answer.TheVariants.{CopyOff, Kept, StaleEpoch, Raised, Deleted, Stopped}
use Rattle.plain_log.specs.declared.answer.Answer.TheVariants.{OutOfRange, Empty, Run}
use Rattle.plain_log.specs.declared.state.Role.TheVariants.{Leads}
use Rattle.plain_log.specs.State.{leads, epoch_in}
use Rattle.laws_partition.specs.declared.start_snapshot.StartSnapshot.{StartSnapshot}
use Rattle.laws_partition.specs.declared.start_snapshot.Turned.{Turned}
use Rattle.laws_partition.specs.declared.start_snapshot.Turned.TheVariants.{Answers, Begins}
use Rattle.laws_partition.specs.Seen.{Node, SeenPartition}
use Rattle.laws_partition.specs.RowsOfLog.{Notes, IsInLog, GivesRun}
use Rattle.laws_partition.specs.RowsOfElections.{Leaves}
use Rattle.laws_partition.specs.RowsOfFollowers.{IsStale}

-- the broker is up, hasn't stopped since the command began, and has the role that it had
pub record KeepsLead (x : Node) (g : StartSnapshot) : Type 0 where
  pub stops : g.stops ≡ x.stops
  pub up : x.up ≡ true
  pub role : g.role ≡ x.role

-- it leads as it did, and nothing changes
abbrev pub GoesLeading : SeenPartition → Node → StartSnapshot → SeenPartition → Type 0
GoesLeading h x g h' = KeepsLead x g × (h' ≡ h)

-- copy, expire, and the offsets up to which the remote tier has the log and of a timestamp, first turn: the leader's
-- view of that tier is refreshed
abbrev pub LeadersRow : SeenPartition → Node → Turned → SeenPartition → Type 0
LeadersRow h x (Answers Down) h' = (x.up ≡ false) × (h' ≡ h)
LeadersRow h x (Answers NotLeader) h' = (x.up ≡ true) × (leads x.role ≡ false) × (h' ≡ h)
LeadersRow h x (Answers MetaFault) h' = (x.up ≡ true) × (leads x.role ≡ true) × (h' ≡ h)
LeadersRow h x (Begins g) h' = (x.up ≡ true) × (leads x.role ≡ true) × Notes h x g × (h' ≡ h)
LeadersRow h x other h' = ⊥

-- copy, first turn
abbrev pub CopyRow : SeenPartition → Node → Turned → SeenPartition → Type 0
CopyRow h x (Answers CopyOff) h' = (x.up ≡ true) × (leads x.role ≡ true) × (h' ≡ h)
CopyRow h x turned h' = LeadersRow h x turned h'

-- copy, later turns
abbrev pub CopyOnRow : SeenPartition → Node → StartSnapshot → Answer → SeenPartition → Type 0
CopyOnRow h x g LostLead h' = (KeepsLead x g → ⊥) × (h' ≡ h)
CopyOnRow h x g Level h' = GoesLeading h x g h'
CopyOnRow h x g DiskFault h' = GoesLeading h x g h'
CopyOnRow h x g (Damaged place at) h' = GoesLeading h x g h'
CopyOnRow h x g MetaFault h' = GoesLeading h x g h'
CopyOnRow h x g StoreFault h' = GoesLeading h x g h'
CopyOnRow h x g (Overtaken state) h' = GoesLeading h x g h'
CopyOnRow h x g (CopiedSegment id start last) h' = GoesLeading h x g h'
CopyOnRow h x g other h' = ⊥

-- the registry raises the log start offset for the broker
pub record Raises (h : SeenPartition) (x : Node) (start : ℕ) (h' : SeenPartition) : Type 0 where
  pub epoch : ℕ
  pub role : x.role ≡ Leads epoch
  pub after : Leaves h (after_raise h.registry epoch start (Done start)) h'

-- expire, later turns
abbrev pub ExpireOnRow : SeenPartition → Node → StartSnapshot → Answer → SeenPartition → Type 0
ExpireOnRow h x g LostLead h' = (KeepsLead x g → ⊥) × (h' ≡ h)
ExpireOnRow h x g Kept h' = GoesLeading h x g h'
ExpireOnRow h x g (StaleEpoch n) h' = IsStale h (epoch_in g.role) × (n ≡ h.registry.epoch) × GoesLeading h x g h'
ExpireOnRow h x g (Raised start) h' = KeepsLead x g × Raises h x start h'
ExpireOnRow h x g MetaFault h' = GoesLeading h x g h'
ExpireOnRow h x g StoreFault h' = GoesLeading h x g h'
ExpireOnRow h x g (Deleted id) h' = GoesLeading h x g h'
ExpireOnRow h x g other h' = ⊥

-- fetch, first turn, of an offset below the local log: it is looked for in the remote tier
abbrev pub FetchBegins : SeenPartition → Node → ℕ → StartSnapshot → SeenPartition → Type 0
FetchBegins h x offset g h' =
    (x.up ≡ true) × (leads x.role ≡ true) × IsInLog h x offset × (offset < x.known_high_watermark) × (offset < x.local)
    × Notes h x g × (h' ≡ h)

-- the broker leads as it did, and knows that the offset is committed
pub record ServesCommitted (h : SeenPartition) (x : Node) (g : StartSnapshot) (offset : ℕ) : Type 0 where
  pub keeps : KeepsLead x g
  pub within : IsInLog h x offset
  pub below : offset < x.known_high_watermark

-- fetch, later turns
abbrev pub FetchOnRow : SeenPartition → Node → ℕ → ℕ → StartSnapshot → Answer → SeenPartition → Type 0
FetchOnRow h x offset limit g Stopped h' = ((g.stops ≡ x.stops) × (x.up ≡ true) → ⊥) × (h' ≡ h)
FetchOnRow h x offset limit g NotLeader h' = (g.stops ≡ x.stops) × (x.up ≡ true) × (g.role ≡ x.role → ⊥) × (h' ≡ h)
FetchOnRow h x offset limit g (OutOfRange start end) h' =
    KeepsLead x g × ((offset < start) ⊎ (end < offset)) × (start ≡ h.registry.start) × (end ≡ end_of x.log.batches)
    × (h' ≡ h)
FetchOnRow h x offset limit g Empty h' =
    KeepsLead x g × IsInLog h x offset × (x.known_high_watermark ≤ offset) × (h' ≡ h)
FetchOnRow h x offset limit g (Run tier size stop bytes) h' =
    ServesCommitted h x g offset × GivesRun x offset limit size stop bytes × (h' ≡ h)
FetchOnRow h x offset limit g MetaFault h' = ServesCommitted h x g offset × (h' ≡ h)
FetchOnRow h x offset limit g StoreFault h' = ServesCommitted h x g offset × (h' ≡ h)
FetchOnRow h x offset limit g (Damaged place at) h' = ServesCommitted h x g offset × (h' ≡ h)
FetchOnRow h x offset limit g other h' = ⊥
