-- The fields of a remote segment's line, and of an update of its state.
use Rattle.std.specs.Prelude.{ℤ, List, [], ◌∷◌}
use Rattle.tier_base.specs.declared.names.SegmentId.{SegmentId}
use Rattle.tier_base.specs.declared.names.BrokerId.{BrokerId}
use Rattle.tier_base.specs.declared.plain.State.{State}
use Rattle.segment_meta.specs.declared.note.Entry.{Entry}
use Rattle.dump_lines.specs.declared.field.Name.TheVariants as name
use Rattle.dump_lines.specs.declared.field.Value.TheVariants as value
use Rattle.dump_lines.specs.declared.field.Field.{Field}
use Rattle.dump_lines.specs.Fields.{field}

-- a remote segment, without its leader epochs and custom metadata
abbrev pub entry_fields : Entry → List Field
entry_fields entry =
    field name.RemoteLogSegmentId (value.Id entry.id)
    ∷ field name.State (value.State entry.state)
    ∷ field name.Partition (value.Unsigned entry.partition.0)
    ∷ field name.StartOffset (value.Unsigned entry.start)
    ∷ field name.EndOffset (value.Unsigned entry.end)
    ∷ field name.MaxTimestamp (value.Time entry.max_ts)
    ∷ field name.Broker (value.Unsigned entry.broker.0)
    ∷ field name.EventTimestamp (value.Time entry.event_ts)
    ∷ field name.SegmentSize (value.Bytes entry.size)
    ∷ field name.Packed (value.Flag entry.packed)
    ∷ []

-- an update, without its custom metadata
abbrev pub update_fields : SegmentId → BrokerId → ℤ → State → List Field
update_fields id broker event_ts state =
    field name.RemoteLogSegmentId (value.Id id)
    ∷ field name.State (value.State state)
    ∷ field name.Broker (value.Unsigned broker.0)
    ∷ field name.EventTimestamp (value.Time event_ts)
    ∷ []
