-- The names of the language: the first words of lines, the commands, and the words of offset and fault.
use Rattle.std.specs.Prelude.{ℕ, ◌==◌, Bool, false, if◌then◌else◌, List, [], ◌∷◌, codes, bytes_eq, Option, Some, None}
use Rattle.script_lang.specs.declared.fault.FaultCall.{FaultCall}
use Rattle.script_lang.specs.declared.fault.FaultCall.TheVariants as call
use Rattle.script_lang.specs.declared.names.DeviceName.{DeviceName}
use Rattle.script_lang.specs.declared.names.DeviceName.TheVariants as device
use Rattle.script_lang.specs.declared.names.Lead.{Lead}
use Rattle.script_lang.specs.declared.names.Lead.TheVariants as lead
use Rattle.script_lang.specs.declared.names.OffsetName.{OffsetName}
use Rattle.script_lang.specs.declared.names.OffsetName.TheVariants as offset
use Rattle.script_lang.specs.declared.names.Verb.{Verb}
use Rattle.script_lang.specs.declared.names.Verb.TheVariants as verb
use Rattle.script_lang.specs.Words.{is_digit}

-- the word begins with such a byte
abbrev pub begins_with : (ℕ → Bool) → List ℕ → Bool
begins_with is [] = false
begins_with is (b ∷ bytes) = is b

-- the kind of a line, by its first word: a comment, an option, another name, or the number of an actor
unfoldable pub lead_of : List ℕ → Lead
lead_of word =
    if begins_with (λ b. b == 35) word then lead.Comment
    else if bytes_eq word (codes "brokers") then lead.Brokers
    else if bytes_eq word (codes "partitions") then lead.Partitions
    else if bytes_eq word (codes "segment_bytes") then lead.SegmentBytes
    else if bytes_eq word (codes "index_interval_bytes") then lead.IndexIntervalBytes
    else if bytes_eq word (codes "retention_ms") then lead.RetentionMs
    else if bytes_eq word (codes "retention_bytes") then lead.RetentionBytes
    else if bytes_eq word (codes "local_retention_ms") then lead.LocalRetentionMs
    else if bytes_eq word (codes "local_retention_bytes") then lead.LocalRetentionBytes
    else if bytes_eq word (codes "later") then lead.Later
    else if bytes_eq word (codes "turn") then lead.Turn
    else if bytes_eq word (codes "fault") then lead.Fault
    else if begins_with is_digit word then lead.Actor
    else lead.Unknown

-- the command of this name
unfoldable pub verb_of : List ℕ → Verb
verb_of word =
    if bytes_eq word (codes "append") then verb.Append
    else if bytes_eq word (codes "raw") then verb.Raw
    else if bytes_eq word (codes "flush") then verb.Flush
    else if bytes_eq word (codes "roll") then verb.Roll
    else if bytes_eq word (codes "elect") then verb.Elect
    else if bytes_eq word (codes "unclean") then verb.Unclean
    else if bytes_eq word (codes "learn") then verb.Learn
    else if bytes_eq word (codes "join") then verb.Join
    else if bytes_eq word (codes "follow") then verb.Follow
    else if bytes_eq word (codes "ack") then verb.Ack
    else if bytes_eq word (codes "shrink") then verb.Shrink
    else if bytes_eq word (codes "expand") then verb.Expand
    else if bytes_eq word (codes "copy") then verb.Copy
    else if bytes_eq word (codes "trim") then verb.Trim
    else if bytes_eq word (codes "expire") then verb.Expire
    else if bytes_eq word (codes "raise") then verb.Raise
    else if bytes_eq word (codes "clock") then verb.Clock
    else if bytes_eq word (codes "stop") then verb.Stop
    else if bytes_eq word (codes "up") then verb.Up
    else if bytes_eq word (codes "fetch") then verb.Fetch
    else if bytes_eq word (codes "pack") then verb.Pack
    else if bytes_eq word (codes "copying") then verb.Copying
    else if bytes_eq word (codes "offset") then verb.Offset
    else verb.Unknown

-- which offset this word asks for
unfoldable pub offset_of : List ℕ → OffsetName
offset_of word =
    if bytes_eq word (codes "earliest") then offset.Earliest
    else if bytes_eq word (codes "latest") then offset.Latest
    else if bytes_eq word (codes "earliest_local") then offset.EarliestLocal
    else if bytes_eq word (codes "latest_tiered") then offset.LatestTiered
    else if bytes_eq word (codes "at") then offset.At
    else offset.Unknown

-- the kind of device of this name
unfoldable pub device_of : List ℕ → DeviceName
device_of word =
    if bytes_eq word (codes "disk") then device.Disk
    else if bytes_eq word (codes "store") then device.Store
    else if bytes_eq word (codes "meta") then device.Meta
    else device.Unknown

-- the device call of this name
unfoldable pub call_of : List ℕ → Option FaultCall
call_of word =
    if bytes_eq word (codes "append") then Some call.Append
    else if bytes_eq word (codes "sync") then Some call.Sync
    else if bytes_eq word (codes "read") then Some call.Read
    else if bytes_eq word (codes "cut") then Some call.Cut
    else if bytes_eq word (codes "replace") then Some call.Replace
    else if bytes_eq word (codes "remove") then Some call.Remove
    else if bytes_eq word (codes "list") then Some call.List
    else if bytes_eq word (codes "put") then Some call.Put
    else if bytes_eq word (codes "get") then Some call.Get
    else if bytes_eq word (codes "delete") then Some call.Delete
    else None
