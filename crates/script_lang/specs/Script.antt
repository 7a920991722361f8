-- A script: what its lines mean together, or the first invalid line, and why it is invalid.
--
-- Of several causes in a line the first in this order is reported:
--
--   1. NotText                            the line's bytes (Lines)
--   2. Word, Number, Field, Hex           its words, from left to right (Words, Records, Commands, Forms)
--   3. TooLate, Twice                     an option after a command, later, turn or fault line; an option given again
--   4. ActorPartition, NoActor            an actor with commands of another partition; turns of one without commands
--   5. TooMany, BatchTooLarge, FetchSum, CopySum, TurnSum     the limits (Limits)
--
-- After the last line each partition's schedule steps its actors in ascending order, each to the end of its list.
use Rattle.std.specs.Prelude.{◌≡◌, ℕ, zero, suc, ◌+◌, ◌==◌, Bool, true, false, if◌then◌else◌, is_some, ℤ, pos, negsuc}
use Rattle.std.specs.Prelude.{List, [], ◌∷◌, ◌++◌, length, replicate, take, Option, Some, None, Result, Ok, Err}
use Rattle.std.specs.List.{slice_set, slice_index_or}
use Rattle.std.specs.Option.{unwrap_or}
use Rattle.std.specs.Ordering.{int_eq}
use Rattle.tier_base.specs.declared.names.ActorId.{ActorId}
use Rattle.tier_base.specs.declared.names.PartitionId.{PartitionId}
use Rattle.tier_base.specs.declared.plain.Keep.{Keep}
use Rattle.plain_log.specs.declared.command.Config.{Config}
use Rattle.plain_log.specs.declared.command.Order.{Order}
use Rattle.plain_log.specs.declared.command.Pace.{Pace}
use Rattle.plain_log.specs.declared.command.Pace.TheVariants.{Until, Times}
use Rattle.script_lang.specs.declared.actors.Slot.{Slot}
use Rattle.script_lang.specs.declared.counting.Counts.{Counts}
use Rattle.script_lang.specs.declared.fault.Fault.{Fault}
use Rattle.script_lang.specs.declared.form.Form.{Form}
use Rattle.script_lang.specs.declared.form.Form.TheVariants.{Blank, Given, Placed, Turn, Faulty}
use Rattle.script_lang.specs.declared.options.Options.{Options}
use Rattle.script_lang.specs.declared.options.OptionLine.{OptionLine}
use Rattle.script_lang.specs.declared.options.OptionLine.TheVariants.{Brokers, Partitions, SegmentBytes}
use Rattle.script_lang.specs.declared.options.OptionLine.TheVariants.{IndexIntervalBytes, RetentionMs, RetentionBytes}
use Rattle.script_lang.specs.declared.options.OptionLine.TheVariants.{LocalRetentionMs, LocalRetentionBytes}
use Rattle.script_lang.specs.declared.refusal.Why.{Why}
use Rattle.script_lang.specs.declared.refusal.Why.TheVariants.{TooLate, Twice, ActorPartition, NoActor}
use Rattle.script_lang.specs.declared.refusal.ScriptRefusal.{ScriptRefusal}
use Rattle.script_lang.specs.declared.refusal.ScriptRefusal.TheVariants.{Bad, NoMemory}
use Rattle.script_lang.specs.declared.script.PartScript.{PartScript}
use Rattle.script_lang.specs.declared.script.Script.{Script}
use Rattle.script_lang.specs.Words.{◌>>=◌, words_of}
use Rattle.script_lang.specs.Lines.{lines_of, text_in}
use Rattle.script_lang.specs.Forms.{form_in, brokers_of, partitions_of}
use Rattle.script_lang.specs.Limits.{none_so_far, with_command, with_turns, within, turns_within, size_of}

-- the script so far. Actors and partitions are at their numbers, 64 of each
pub record Told : Type 0 where
  pub options : Options
  -- a command, later, turn or fault line was read
  pub begun : Bool
  pub sums : Counts
  pub actors : List Slot
  -- the schedule and the faults of each partition; its lists are empty yet
  pub parts : List PartScript

-- an actor without commands
abbrev pub idle : Slot
idle = record { partition = None; orders = [] }

-- an actor
abbrev pub slot_at : List Slot → ℕ → Slot
slot_at actors actor = slice_index_or actors actor idle

-- a partition without lists, schedule and faults
abbrev pub empty_part : ℕ → PartScript
empty_part partition = record { partition = record { 0 = partition }; lists = []; schedule = []; faults = [] }

-- so many partitions, from this number on
abbrev pub empty_parts : ℕ → ℕ → List PartScript
empty_parts partition zero = []
empty_parts partition (suc count) = empty_part partition ∷ empty_parts (partition + 1) count

-- a partition
abbrev pub part_at : List PartScript → ℕ → PartScript
part_at parts partition = slice_index_or parts partition (empty_part partition)

-- one order more on an actor's list
abbrev pub with_order : List Slot → ℕ → PartitionId → Order → List Slot
with_order actors actor partition order =
    slice_set actors actor (record { partition = Some partition; orders = (slot_at actors actor).orders ++ order ∷ [] })

-- one pace more in a partition's schedule
abbrev pub with_pace : List PartScript → ℕ → Pace → List PartScript
with_pace parts partition pace =
    slice_set
    parts
    partition
    (record (part_at parts partition) { schedule = (part_at parts partition).schedule ++ pace ∷ [] })

-- one fault more of a partition's devices
abbrev pub with_fault : List PartScript → ℕ → Fault → List PartScript
with_fault parts partition fault =
    slice_set
    parts
    partition
    (record (part_at parts partition) { faults = (part_at parts partition).faults ++ fault ∷ [] })

-- the option was given
abbrev pub is_given : Options → OptionLine → Bool
is_given options (Brokers n) = is_some options.brokers
is_given options (Partitions n) = is_some options.partitions
is_given options (SegmentBytes n) = is_some options.segment_bytes
is_given options (IndexIntervalBytes n) = is_some options.index_interval_bytes
is_given options (RetentionMs n) = is_some options.retention_ms
is_given options (RetentionBytes n) = is_some options.retention_bytes
is_given options (LocalRetentionMs n) = is_some options.local_retention_ms
is_given options (LocalRetentionBytes n) = is_some options.local_retention_bytes

-- an option precedes all commands, and is given once
abbrev pub option_place : Bool → Bool → Result (Unit {0}) Why
option_place true given = Err TooLate
option_place false true = Err Twice
option_place false false = Ok tt

-- an actor has commands of one partition
abbrev pub same_partition : Option PartitionId → PartitionId → Result (Unit {0}) Why
same_partition None partition = Ok tt
same_partition (Some other) partition = if other.0 == partition.0 then Ok tt else Err ActorPartition

-- turns are an actor's that has commands
abbrev pub known_actor : Option PartitionId → Result (Unit {0}) Why
known_actor None = Err NoActor
known_actor (Some partition) = Ok tt

-- a form may follow the lines so far
abbrev pub may_stand : Told → Form → Result (Unit {0}) Why
may_stand t Blank = Ok tt
may_stand t (Given option) = option_place t.begun (is_given t.options option)
may_stand t (Placed actor partition order at_once) = same_partition (slot_at t.actors actor.0).partition partition
may_stand t (Turn actor turns) = known_actor (slot_at t.actors actor.0).partition
may_stand t (Faulty partition fault) = Ok tt

-- the size of a segment, as far as it was given
abbrev pub segment_bytes_of : Options → ℕ
segment_bytes_of options = unwrap_or options.segment_bytes 1048576

-- the bytes between two index entries, as far as they were given
abbrev pub index_interval_of : Options → ℕ
index_interval_of options = unwrap_or options.index_interval_bytes 4096

-- the counts with a form
abbrev pub sums_with : ℕ → Counts → Form → Result Counts Why
sums_with segment_bytes s Blank = Ok s
sums_with segment_bytes s (Given option) = Ok s
sums_with segment_bytes s (Placed actor partition order at_once) =
    within segment_bytes (with_command s order.command) (size_of order.command)
sums_with segment_bytes s (Turn actor turns) = turns_within (with_turns s turns)
sums_with segment_bytes s (Faulty partition fault) = Ok s

-- the options with this one
abbrev pub options_with : Options → OptionLine → Options
options_with options (Brokers n) = record options { brokers = Some n }
options_with options (Partitions n) = record options { partitions = Some n }
options_with options (SegmentBytes n) = record options { segment_bytes = Some n }
options_with options (IndexIntervalBytes n) = record options { index_interval_bytes = Some n }
options_with options (RetentionMs n) = record options { retention_ms = Some n }
options_with options (RetentionBytes n) = record options { retention_bytes = Some n }
options_with options (LocalRetentionMs n) = record options { local_retention_ms = Some n }
options_with options (LocalRetentionBytes n) = record options { local_retention_bytes = Some n }

-- the schedule of an order that is put at once steps its actor until it has answered so many; that of a later one
-- doesn't
abbrev pub parts_stepped : List PartScript → Bool → ActorId → ℕ → ℕ → List PartScript
parts_stepped parts false actor number partition = parts
parts_stepped parts true actor number partition = with_pace parts partition (Until actor number)

-- the partition of an actor that has one
abbrev pub partition_or_first : Option PartitionId → ℕ
partition_or_first None = 0
partition_or_first (Some partition) = partition.0

-- the script so far, with this form added
abbrev pub told_with : Told → Counts → Form → Told
told_with t sums Blank = t
told_with t sums (Given option) = record t { options = options_with t.options option }
told_with t sums (Placed actor partition order at_once) = record t {
  begun = true;
  sums = sums;
  actors = with_order t.actors actor.0 partition order;
  parts = parts_stepped t.parts at_once actor (length (slot_at t.actors actor.0).orders + 1) partition.0;
}
told_with t sums (Turn actor turns) = record t {
  begun = true;
  sums = sums;
  parts = with_pace t.parts (partition_or_first (slot_at t.actors actor.0).partition) (Times actor turns);
}
told_with t sums (Faulty partition fault) = record t { begun = true; parts = with_fault t.parts partition.0 fault }

-- a form after the lines so far
unfoldable pub form_behind : Told → Form → Result Told Why
form_behind t form = do
  stands ← may_stand t form
  sums ← sums_with (segment_bytes_of t.options) t.sums form
  Ok (told_with t sums form)

-- a line after the lines so far
unfoldable pub line_behind : Told → List ℕ → Result Told Why
line_behind t line = do
  text ← text_in line
  form ← form_in t.options (words_of text)
  form_behind t form

-- the lines after one that was read, or its number and why it is invalid
abbrev pub go_on : Result Told Why → ℕ → (Told → Result Told (ℕ × Why)) → Result Told (ℕ × Why)
go_on (Ok t) number rest = rest t
go_on (Err why) number rest = Err (number, why)

-- lines that are numbered from this number on, after the lines so far
abbrev pub lines_behind : Told → ℕ → List (List ℕ) → Result Told (ℕ × Why)
lines_behind t number [] = Ok t
lines_behind t number (line ∷ lines) = go_on (line_behind t line) number (λ next. lines_behind next (number + 1) lines)

-- no line so far
abbrev pub nothing_told : Told
nothing_told = record {
  options = record {
    brokers = None;
    partitions = None;
    segment_bytes = None;
    index_interval_bytes = None;
    retention_ms = None;
    retention_bytes = None;
    local_retention_ms = None;
    local_retention_bytes = None;
  };
  begun = false;
  sums = none_so_far;
  actors = replicate 64 idle;
  parts = empty_parts 0 64;
}

-- a bound of the local log: -2 represents the whole log's
abbrev pub local_or_whole : ℤ → ℤ → ℤ
local_or_whole local whole = if int_eq local (negsuc 1) then whole else local

-- how long and how much of the whole log is kept
abbrev pub keep_of : Options → Keep
keep_of options = record {
  ms = unwrap_or options.retention_ms (pos 604800000);
  bytes = unwrap_or options.retention_bytes (negsuc 0);
}

-- how long and how much of the local log is kept
abbrev pub local_keep_of : Options → Keep
local_keep_of options = record {
  ms = local_or_whole (unwrap_or options.local_retention_ms (negsuc 1)) (keep_of options).ms;
  bytes = local_or_whole (unwrap_or options.local_retention_bytes (negsuc 1)) (keep_of options).bytes;
}

-- the options, each given or by default
abbrev pub config_of : Options → Config
config_of options = record {
  brokers = brokers_of options;
  settings = record { segment_bytes = segment_bytes_of options; index_interval = index_interval_of options };
  keep = keep_of options;
  local_keep = local_keep_of options;
}

-- a partition with an actor's list, which its schedule steps to its end
abbrev pub part_with : PartScript → ℕ → List Order → PartScript
part_with part actor orders = record part {
  lists = part.lists ++ (record { actor = record { 0 = actor }; orders = orders }) ∷ [];
  schedule = part.schedule ++ (Until (record { 0 = actor }) (length orders)) ∷ [];
}

-- an actor's list is added to its partition
abbrev pub parts_with_list : List PartScript → ℕ → Option PartitionId → List Order → List PartScript
parts_with_list parts actor None orders = parts
parts_with_list parts actor (Some partition) orders =
    slice_set parts partition.0 (part_with (part_at parts partition.0) actor orders)

-- the lists of the actors from this one on, each in its partition
abbrev pub parts_with_lists : List PartScript → ℕ → List Slot → List PartScript
parts_with_lists parts actor [] = parts
parts_with_lists parts actor (slot ∷ slots) =
    parts_with_lists (parts_with_list parts actor slot.partition slot.orders) (actor + 1) slots

-- the script of what its lines say
abbrev pub script_of : Told → Script
script_of t = record {
  config = config_of t.options;
  parts = take (partitions_of t.options) (parts_with_lists t.parts 0 t.actors);
}

-- the script of lines that were read
abbrev pub script_told : Result Told (ℕ × Why) → Result Script (ℕ × Why)
script_told (Ok t) = Ok (script_of t)
script_told (Err bad) = Err bad

-- the script of these bytes, or the number of its first invalid line, counted from 1, and why it is invalid
unfoldable pub script_in : List ℕ → Result Script (ℕ × Why)
script_in bytes = script_told (lines_behind nothing_told 1 (lines_of bytes))

-- what is returned for this result. Only being out of memory is unspecified
abbrev pub ReadsScript : {A : Type 0} → Result A ScriptRefusal → Result A (ℕ × Why) → Type 0
ReadsScript (Ok x) reading = reading ≡ Ok x
ReadsScript (Err (Bad line why)) reading = reading ≡ Err (line, why)
ReadsScript (Err NoMemory) reading = Unit {0}
