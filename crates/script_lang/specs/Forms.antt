-- The forms of a line, by its words.
--
--   option number                             see below
--   actor partition broker command            the command is put on the actor's list, and the schedule steps the actor
--                                             until it has answered its list so far
--   later actor partition broker command      the command is put on the list alone
--   turn actor turns                          the schedule steps the actor so often; turns: 1 to 2^20
--   fault partition device call number side   that call on that device fails
--   nothing, or a first word that begins with #
--
--   actor: 0 to 63; partition and broker: below their counts; - for the broker where the command is the partition's
--   device: store, meta, or disk broker       store has put, get, delete; meta has append, read;
--                                             disk has append, sync, read, cut, replace, remove, list
--   number: 1 to 2^32 - 1; side: before or after
--
--   option                   range                default
--   brokers                  1 to 8               1
--   partitions               1 to 64              1
--   segment_bytes            100 to 16777216      1048576
--   index_interval_bytes     0 to 16777216        4096
--   retention_ms             -1 to 2^63 - 1       604800000
--   retention_bytes          -1 to 2^63 - 1       -1
--   local_retention_ms       -2 to 2^63 - 1       -2
--   local_retention_bytes    -2 to 2^63 - 1       -2
--
-- A first word that begins with a digit is an actor's number; one that begins no form is Word.
use Rattle.std.specs.Prelude.{ℕ, ◌-◌, ◌^◌, Bool, true, false, if◌then◌else◌, List, [], ◌∷◌, codes, bytes_eq, Option}
use Rattle.std.specs.Prelude.{Some, None, Result, Ok, Err}
use Rattle.std.specs.Option.{unwrap_or}
use Rattle.plain_log.specs.declared.command.Command.{Command}
use Rattle.plain_log.specs.declared.command.Order.{Order}
use Rattle.script_lang.specs.declared.refusal.Why.{Why}
use Rattle.script_lang.specs.declared.refusal.Why.TheVariants.{Word, Number}
use Rattle.script_lang.specs.declared.fault.FaultCall.{FaultCall}
use Rattle.script_lang.specs.declared.fault.FaultCall.TheVariants as call
use Rattle.script_lang.specs.declared.fault.FaultDevice.{FaultDevice}
use Rattle.script_lang.specs.declared.fault.FaultDevice.TheVariants.{Disk, Store, Meta}
use Rattle.script_lang.specs.declared.form.Form.{Form}
use Rattle.script_lang.specs.declared.form.Form.TheVariants.{Blank, Given, Placed, Turn, Faulty}
use Rattle.script_lang.specs.declared.names.DeviceName.{DeviceName}
use Rattle.script_lang.specs.declared.names.DeviceName.TheVariants as device
use Rattle.script_lang.specs.declared.names.Lead.{Lead}
use Rattle.script_lang.specs.declared.names.Lead.TheVariants as lead
use Rattle.script_lang.specs.declared.options.Options.{Options}
use Rattle.script_lang.specs.declared.options.OptionLine.{OptionLine}
use Rattle.script_lang.specs.declared.options.OptionLine.TheVariants.{Brokers, Partitions, SegmentBytes}
use Rattle.script_lang.specs.declared.options.OptionLine.TheVariants.{IndexIntervalBytes, RetentionMs, RetentionBytes}
use Rattle.script_lang.specs.declared.options.OptionLine.TheVariants.{LocalRetentionMs, LocalRetentionBytes}
use Rattle.script_lang.specs.Words.{◌>>=◌, number_in, number_first, only_number, only_signed, first_of, end_of}
use Rattle.script_lang.specs.Names.{lead_of, verb_of, device_of, call_of}
use Rattle.script_lang.specs.Commands.{command_led, common_led}

-- the count of brokers, as far as it was given
abbrev pub brokers_of : Options → ℕ
brokers_of options = unwrap_or options.brokers 1

-- the count of partitions, as far as it was given
abbrev pub partitions_of : Options → ℕ
partitions_of options = unwrap_or options.partitions 1

-- the command to this broker
abbrev pub order_of : ℕ → Command → Order
order_of broker command = record { broker = record { 0 = broker }; command = command }

-- a command of the whole partition, which is kept as one to broker 0
unfoldable pub common_in : List (List ℕ) → Result Order Why
common_in words = do
  name ← first_of words Word
  command ← common_led (verb_of name.0) name.1
  Ok (order_of 0 command)

-- a broker and a command that goes to it
unfoldable pub addressed_in : ℕ → List ℕ → List (List ℕ) → Result Order Why
addressed_in brokers word words = do
  broker ← number_in 0 (brokers - 1) word Number
  name ← first_of words Word
  command ← command_led (verb_of name.0) name.1
  Ok (order_of broker command)

-- broker command
unfoldable pub order_in : ℕ → List (List ℕ) → Result Order Why
order_in brokers words =
    first_of words Word >>= λ word.
    if bytes_eq word.0 (codes "-") then common_in word.1 else addressed_in brokers word.0 word.1

-- partition broker command
unfoldable pub placed_in : Options → Bool → ℕ → List (List ℕ) → Result Form Why
placed_in options at_once actor words = do
  partition ← number_first 0 (partitions_of options - 1) words
  order ← order_in (brokers_of options) partition.1
  Ok (Placed (record { 0 = actor }) (record { 0 = partition.0 }) order at_once)

-- actor partition broker command
unfoldable pub later_in : Options → List (List ℕ) → Result Form Why
later_in options words = number_first 0 63 words >>= λ actor. placed_in options false actor.0 actor.1

-- actor turns
unfoldable pub turn_in : List (List ℕ) → Result Form Why
turn_in words = do
  actor ← number_first 0 63 words
  turns ← only_number 1 (2 ^ 20) actor.1
  Ok (Turn (record { 0 = actor.0 }) turns)

-- the device of this kind, and the words after it
abbrev pub device_behind : ℕ → DeviceName → List (List ℕ) → Result (FaultDevice × List (List ℕ)) Why
device_behind brokers device.Store words = Ok (Store, words)
device_behind brokers device.Meta words = Ok (Meta, words)
device_behind brokers device.Disk words =
    number_first 0 (brokers - 1) words >>= λ broker. Ok (Disk (record { 0 = broker.0 }), broker.1)
device_behind brokers device.Unknown words = Err Word

-- store, meta or disk broker
unfoldable pub device_first : ℕ → List (List ℕ) → Result (FaultDevice × List (List ℕ)) Why
device_first brokers words = first_of words Word >>= λ name. device_behind brokers (device_of name.0) name.1

-- the calls that a device has
abbrev pub has_call : FaultDevice → FaultCall → Bool
has_call Store call.Put = true
has_call Store call.Get = true
has_call Store call.Delete = true
has_call Store other = false
has_call Meta call.Append = true
has_call Meta call.Read = true
has_call Meta other = false
has_call (Disk broker) call.Put = false
has_call (Disk broker) call.Get = false
has_call (Disk broker) call.Delete = false
has_call (Disk broker) other = true

-- the call, where the device has it
abbrev pub call_for : FaultDevice → Option FaultCall → Result FaultCall Why
call_for device None = Err Word
call_for device (Some call) = if has_call device call then Ok call else Err Word

-- call
unfoldable pub call_first : FaultDevice → List (List ℕ) → Result (FaultCall × List (List ℕ)) Why
call_first device words = do
  name ← first_of words Word
  call ← call_for device (call_of name.0)
  Ok (call, name.1)

-- before or after, which is true
abbrev pub side_named : List ℕ → Result Bool Why
side_named word =
    if bytes_eq word (codes "after") then Ok true else if bytes_eq word (codes "before") then Ok false else Err Word

-- side
unfoldable pub side_in : List (List ℕ) → Result Bool Why
side_in words = do
  word ← first_of words Word
  after ← side_named word.0
  end ← end_of word.1 Word
  Ok after

-- partition device call number side
unfoldable pub fault_in : Options → List (List ℕ) → Result Form Why
fault_in options words = do
  partition ← number_first 0 (partitions_of options - 1) words
  device ← device_first (brokers_of options) partition.1
  call ← call_first device.0 device.1
  number ← number_first 1 (2 ^ 32 - 1) call.1
  after ← side_in number.1
  Ok (
      Faulty
      (record { 0 = partition.0 })
      (record { device = device.0; call = call.0; number = number.0; after = after }))

-- an option that was read
abbrev pub given_in : {T : Type 0} → (T → OptionLine) → Result T Why → Result Form Why
given_in name reading = reading >>= λ value. Ok (Given (name value))

-- the words after the first one
abbrev pub form_led : Options → Lead → List ℕ → List (List ℕ) → Result Form Why
form_led options lead.Comment word words = Ok Blank
form_led options lead.Brokers word words = given_in Brokers (only_number 1 8 words)
form_led options lead.Partitions word words = given_in Partitions (only_number 1 64 words)
form_led options lead.SegmentBytes word words = given_in SegmentBytes (only_number 100 16777216 words)
form_led options lead.IndexIntervalBytes word words = given_in IndexIntervalBytes (only_number 0 16777216 words)
form_led options lead.RetentionMs word words = given_in RetentionMs (only_signed 1 (2 ^ 63 - 1) words)
form_led options lead.RetentionBytes word words = given_in RetentionBytes (only_signed 1 (2 ^ 63 - 1) words)
form_led options lead.LocalRetentionMs word words = given_in LocalRetentionMs (only_signed 2 (2 ^ 63 - 1) words)
form_led options lead.LocalRetentionBytes word words = given_in LocalRetentionBytes (only_signed 2 (2 ^ 63 - 1) words)
form_led options lead.Later word words = later_in options words
form_led options lead.Turn word words = turn_in words
form_led options lead.Fault word words = fault_in options words
form_led options lead.Actor word words = number_in 0 63 word Number >>= λ actor. placed_in options true actor words
form_led options lead.Unknown word words = Err Word

-- the words of a line
abbrev pub form_in : Options → List (List ℕ) → Result Form Why
form_in options [] = Ok Blank
form_in options (word ∷ words) = form_led options (lead_of word) word words
