-- The shortest spelling of a line that gives a command, which a program may write and this language reads back.
--
-- One space separates two words, numbers have no leading zeros, and bytes are x and digits in lower case.
use Rattle.std.specs.Prelude.{◌≡◌, ℕ, ◌-◌, ◌<◌, ◌≤◌, ◌++◌, Bool, true, false, if◌then◌else◌, ℤ, pos, negsuc, nat_abs}
use Rattle.std.specs.Prelude.{List, [], ◌∷◌, length, map, codes, All, Option, Some, None, Ok}
use Rattle.std.specs.Fmt.{decimal}
use Rattle.hex.specs.Hex.{encode_lower, IsBytes}
use Rattle.record_batch.specs.declared.rec.Header.{Header}
use Rattle.record_batch.specs.declared.rec.Rec.{Rec}
use Rattle.plain_log.specs.declared.command.Command.{Command}
use Rattle.plain_log.specs.declared.command.Command.TheVariants.{Append, Raw, Flush, Roll, Elect, Unclean, Learn}
use Rattle.plain_log.specs.declared.command.Command.TheVariants.{Join, Follow, Ack, Shrink, Expand, Copy, Trim}
use Rattle.plain_log.specs.declared.command.Command.TheVariants.{Expire, Raise, Clock, Stop, Up, Fetch, Pack, Copying}
use Rattle.plain_log.specs.declared.command.Command.TheVariants.{Offset}
use Rattle.plain_log.specs.declared.command.Order.{Order}
use Rattle.plain_log.specs.declared.command.Which.{Which}
use Rattle.plain_log.specs.declared.command.Which.TheVariants.{Earliest, Latest, EarliestLocal, LatestTiered, At}
use Rattle.script_lang.specs.declared.form.Form.TheVariants.{Placed}
use Rattle.script_lang.specs.declared.options.Options.{Options}
use Rattle.script_lang.specs.Words.{words_of}
use Rattle.script_lang.specs.Forms.{brokers_of, partitions_of, form_in}

-- parts with a separator between two
abbrev pub joined : ℕ → List (List ℕ) → List ℕ
joined separator [] = []
joined separator (part ∷ []) = part
joined separator (part ∷ next ∷ parts) = part ++ separator ∷ joined separator (next ∷ parts)

-- x and digits
abbrev pub value_word : List ℕ → List ℕ
value_word bytes = 120 ∷ encode_lower bytes

-- a value, or -
abbrev pub field_word : Option (List ℕ) → List ℕ
field_word None = codes "-"
field_word (Some bytes) = value_word bytes

-- key = value
abbrev pub header_word : Header → List ℕ
header_word header = joined 61 (value_word header.key ∷ field_word header.value ∷ [])

-- time , key , value {, header}
abbrev pub record_word : Rec → List ℕ
record_word rec =
    joined 44 (decimal (nat_abs rec.ts) ∷ field_word rec.key ∷ field_word rec.value ∷ map header_word rec.headers)

-- the words after offset
abbrev pub which_words : Which → List (List ℕ)
which_words Earliest = codes "earliest" ∷ []
which_words Latest = codes "latest" ∷ []
which_words EarliestLocal = codes "earliest_local" ∷ []
which_words LatestTiered = codes "latest_tiered" ∷ []
which_words (At ms) = codes "at" ∷ decimal (nat_abs ms) ∷ []

-- 0 or 1
abbrev pub flag_word : Bool → List ℕ
flag_word on = if on then codes "1" else codes "0"

-- a command's name and the words after it
abbrev pub command_words : Command → List (List ℕ)
command_words (Append recs) = codes "append" ∷ map record_word recs
command_words (Raw bytes) = codes "raw" ∷ encode_lower bytes ∷ []
command_words Flush = codes "flush" ∷ []
command_words Roll = codes "roll" ∷ []
command_words Elect = codes "elect" ∷ []
command_words Unclean = codes "unclean" ∷ []
command_words Learn = codes "learn" ∷ []
command_words Join = codes "join" ∷ []
command_words (Follow limit) = codes "follow" ∷ decimal limit ∷ []
command_words Ack = codes "ack" ∷ []
command_words Shrink = codes "shrink" ∷ []
command_words Expand = codes "expand" ∷ []
command_words Copy = codes "copy" ∷ []
command_words Trim = codes "trim" ∷ []
command_words Expire = codes "expire" ∷ []
command_words (Raise start) = codes "raise" ∷ decimal start ∷ []
command_words (Clock ms) = codes "clock" ∷ decimal (nat_abs ms) ∷ []
command_words Stop = codes "stop" ∷ []
command_words Up = codes "up" ∷ []
command_words (Fetch offset limit) = codes "fetch" ∷ decimal offset ∷ decimal limit ∷ []
command_words (Pack on) = codes "pack" ∷ flag_word on ∷ []
command_words (Copying on) = codes "copying" ∷ flag_word on ∷ []
command_words (Offset which) = codes "offset" ∷ which_words which

-- the command is the whole partition's
abbrev pub is_common : Command → Bool
is_common (Clock ms) = true
is_common (Pack on) = true
is_common (Copying on) = true
is_common other = false

-- the broker, or - for the whole partition
abbrev pub broker_word : Order → List ℕ
broker_word order = if is_common order.command then codes "-" else decimal order.broker.0

-- actor partition broker command
abbrev pub line_of : ℕ → ℕ → Order → List ℕ
line_of actor partition order =
    joined 32 (decimal actor ∷ decimal partition ∷ broker_word order ∷ command_words order.command)

-- a time from 0 on
abbrev pub IsTime : ℤ → Type 0
IsTime (pos n) = n ≤ 9223372036854775807
IsTime (negsuc n) = ⊥

-- bytes, or none
abbrev pub AreBytes : Option (List ℕ) → Type 0
AreBytes None = Unit {0}
AreBytes (Some bytes) = IsBytes bytes

-- a header that has a spelling
pub record IsHeader (header : Header) : Type 0 where
  pub key : IsBytes header.key
  pub value : AreBytes header.value

-- a record that has a spelling: its time isn't below 0
pub record IsRecord (rec : Rec) : Type 0 where
  pub ts : IsTime rec.ts
  pub key : AreBytes rec.key
  pub value : AreBytes rec.value
  pub headers : All IsHeader rec.headers

-- which offset has a spelling
abbrev pub IsWhich : Which → Type 0
IsWhich (At ms) = IsTime ms
IsWhich other = Unit {0}

-- a command that has a spelling: its numbers are in range
abbrev pub IsSpellable : Command → Type 0
IsSpellable (Append recs) = (0 < length recs) × All IsRecord recs
IsSpellable (Raw bytes) = (0 < length bytes) × IsBytes bytes
IsSpellable (Follow limit) = limit ≤ 2147483647
IsSpellable (Raise start) = start ≤ 4611686018427387904
IsSpellable (Clock ms) = IsTime ms
IsSpellable (Fetch offset limit) = (offset ≤ 4611686018427387904) × (limit ≤ 2147483647)
IsSpellable (Offset which) = IsWhich which
IsSpellable other = Unit {0}

-- the broker is 0 where the command is the whole partition's, and else there is one of this number
abbrev pub IsBroker : ℕ → Bool → ℕ → Type 0
IsBroker brokers true broker = broker ≡ 0
IsBroker brokers false broker = (broker ≤ brokers - 1) × (broker < 65536)

-- the shortest spelling of each command is read back
abbrev pub LinesAreReadBack : Type 0
LinesAreReadBack = (options : Options) (actor partition : ℕ) (order : Order)
    → actor ≤ 63 → partition ≤ partitions_of options - 1 → partition < 65536
    → IsBroker (brokers_of options) (is_common order.command) order.broker.0 → IsSpellable order.command
    → form_in options (words_of (line_of actor partition order))
    ≡ Ok (Placed (record { 0 = actor }) (record { 0 = partition }) order true)
