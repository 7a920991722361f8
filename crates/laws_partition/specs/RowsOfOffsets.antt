-- What a turn of a question for an offset comes to, to which nothing changes.
--
-- The log start offset, the high watermark that the leader knows, and where its local log begins are answered at once.
-- Up to where the remote tier has the log takes a second turn, after a refresh of the leader's view; it is answered as
-- it comes. The offset of a timestamp takes as many turns as the search of both tiers does; the turns between the first
-- and the last change nothing that is seen.
use Rattle.std.specs.Prelude.{◌≡◌, ℕ, ℤ, max, true, false, Option, Some, None}
use Rattle.log_terms.specs.Log.{up_to, from_offset}
use Rattle.plain_log.specs.declared.answer.Answer.{Answer}
use Rattle.plain_log.specs.declared.answer.Answer.TheVariants.{Down, NotLeader, Stopped, MetaFault, StoreFault}
use Rattle.plain_log.specs.declared.answer.Answer.TheVariants.{DiskFault, Damaged, Offset, NoOffset}
use Rattle.plain_log.specs.declared.command.Which.{Which}
use Rattle.plain_log.specs.declared.command.Which.TheVariants.{Earliest, Latest, EarliestLocal}
use Rattle.plain_log.specs.RowsOfReads.{first_at}
use Rattle.plain_log.specs.State.{leads}
use Rattle.laws_partition.specs.declared.start_snapshot.StartSnapshot.{StartSnapshot}
use Rattle.laws_partition.specs.Seen.{Node, SeenPartition}
use Rattle.laws_partition.specs.RowsOfTiers.{GoesLeading}

-- the offset that is known at once; nothing of the log that is below the log start offset is in the local log
abbrev pub known_offset : SeenPartition → Node → Which → Option ℕ
known_offset h x Earliest = Some h.registry.start
known_offset h x Latest = Some x.known_high_watermark
known_offset h x EarliestLocal = Some (max x.local h.registry.start)
known_offset h x other = None

-- offset, of what is known at once
abbrev pub OffsetRow : SeenPartition → Node → Which → Answer → SeenPartition → Type 0
OffsetRow h x which Down h' = (x.up ≡ false) × (h' ≡ h)
OffsetRow h x which NotLeader h' = (x.up ≡ true) × (leads x.role ≡ false) × (h' ≡ h)
OffsetRow h x which (Offset n) h' = (x.up ≡ true) × (leads x.role ≡ true) × (known_offset h x which ≡ Some n) × (h' ≡ h)
OffsetRow h x which other h' = ⊥

-- offset, second turn
abbrev pub OffsetOnRow : SeenPartition → Node → StartSnapshot → Answer → SeenPartition → Type 0
OffsetOnRow h x g Stopped h' = ((g.stops ≡ x.stops) × (x.up ≡ true) → ⊥) × (h' ≡ h)
OffsetOnRow h x g NotLeader h' = (g.stops ≡ x.stops) × (x.up ≡ true) × (g.role ≡ x.role → ⊥) × (h' ≡ h)
OffsetOnRow h x g (Offset n) h' = GoesLeading h x g h'
OffsetOnRow h x g NoOffset h' = GoesLeading h x g h'
OffsetOnRow h x g other h' = ⊥

-- the offset of a timestamp: among the batches from the log start offset to the high watermark that the leader knows
abbrev pub dated_offset : SeenPartition → Node → ℤ → Option ℕ
dated_offset h x ts =
    first_at ts h.registry.start (from_offset h.registry.start (up_to x.known_high_watermark x.log.batches))

-- offset of a timestamp, the turn that is answered
abbrev pub OffsetAtRow : SeenPartition → Node → ℤ → StartSnapshot → Answer → SeenPartition → Type 0
OffsetAtRow h x ts g Stopped h' = ((g.stops ≡ x.stops) × (x.up ≡ true) → ⊥) × (h' ≡ h)
OffsetAtRow h x ts g NotLeader h' = (g.stops ≡ x.stops) × (x.up ≡ true) × (g.role ≡ x.role → ⊥) × (h' ≡ h)
OffsetAtRow h x ts g MetaFault h' = GoesLeading h x g h'
OffsetAtRow h x ts g StoreFault h' = GoesLeading h x g h'
OffsetAtRow h x ts g DiskFault h' = GoesLeading h x g h'
OffsetAtRow h x ts g (Damaged place at) h' = GoesLeading h x g h'
OffsetAtRow h x ts g (Offset n) h' = (dated_offset h x ts ≡ Some n) × GoesLeading h x g h'
OffsetAtRow h x ts g NoOffset h' = (dated_offset h x ts ≡ None) × GoesLeading h x g h'
OffsetAtRow h x ts g other h' = ⊥
