-- The fields of the lines of small files: a leader-epoch checkpoint, a manifest, a registry.
use Rattle.std.specs.Prelude.{ℕ, List, [], ◌∷◌, length, slice_index}
use Rattle.log_manifest.specs.declared.manifest.Extent.{Extent}
use Rattle.log_manifest.specs.declared.manifest.Manifest.{Manifest}
use Rattle.registry.specs.declared.view.RegView.{RegView}
use Rattle.registry.specs.View as view
use Rattle.dump_lines.specs.declared.field.Name.TheVariants as name
use Rattle.dump_lines.specs.declared.field.Value.TheVariants as value
use Rattle.dump_lines.specs.declared.field.Field.{Field}
use Rattle.dump_lines.specs.Fields.{field}

-- an epoch, and the offset where it starts
abbrev pub epoch_fields : ℕ × ℕ → List Field
epoch_fields entry = field name.Epoch (value.Unsigned entry.0) ∷ field name.StartOffset (value.Unsigned entry.1) ∷ []

-- the log of a manifest
abbrev pub manifest_fields : Manifest → List Field
manifest_fields manifest =
    field name.Incarnation (value.Unsigned manifest.incarnation)
    ∷ field name.LocalLogStartOffset (value.Unsigned manifest.local_start)
    ∷ field name.Segments (value.Unsigned (length manifest.segments))
    ∷ field name.Epochs (value.Unsigned (length manifest.line))
    ∷ []

-- a log segment
abbrev pub extent_fields : Extent → List Field
extent_fields extent =
    field name.BaseOffset (value.Unsigned extent.base) ∷ field name.FlushedSize (value.Bytes extent.len) ∷ []

-- a partition
abbrev pub partition_fields : RegView → List Field
partition_fields v =
    field name.Brokers (value.Unsigned v.brokers)
    ∷ field name.LeaderEpoch (value.Unsigned v.epoch)
    ∷ field name.Leader (value.Unsigned v.leader.0)
    ∷ field name.LogStartOffset (value.Unsigned v.start)
    ∷ field name.HighWatermark (value.Unsigned v.mark)
    ∷ []

-- a broker
abbrev pub replica_fields : RegView → ℕ → List Field
replica_fields v broker =
    field name.Broker (value.Unsigned broker)
    ∷ field name.InSync (value.Flag (view.has_bit v.in_sync broker))
    ∷ field name.AckedOffset (value.Unsigned (slice_index v.acked broker))
    ∷ []
