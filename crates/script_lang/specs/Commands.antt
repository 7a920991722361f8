-- The commands, which follow actor, partition and broker.
--
--   append record {record}                    records in the module Records
--   raw hex                                   an even number of hexadecimal digits; else Hex
--   follow limit                              limit: 0 to 2^31 - 1
--   raise offset                              offset: 0 to 2^62
--   fetch offset limit
--   offset which                              which: earliest, latest, earliest_local, latest_tiered, or at time
--   flush, roll, elect, unclean, learn, join, ack, shrink, expand, copy, trim, expire, stop, up    without arguments
--
-- With - for the broker:
--
--   clock time                                time: 0 to 2^63 - 1
--   pack flag, copying flag                   flag: 0 or 1
use Rattle.std.specs.Prelude.{ℕ, ◌-◌, ◌^◌, ◌==◌, Bool, List, [], ◌∷◌, Result, Ok, Err, pos}
use Rattle.record_batch.specs.declared.rec.Rec.{Rec}
use Rattle.plain_log.specs.declared.command.Command.{Command}
use Rattle.plain_log.specs.declared.command.Command.TheVariants.{Append, Raw, Flush, Roll, Elect, Unclean, Learn}
use Rattle.plain_log.specs.declared.command.Command.TheVariants.{Join, Follow, Ack, Shrink, Expand, Copy, Trim}
use Rattle.plain_log.specs.declared.command.Command.TheVariants.{Expire, Raise, Clock, Stop, Up, Fetch, Pack, Copying}
use Rattle.plain_log.specs.declared.command.Command.TheVariants.{Offset}
use Rattle.plain_log.specs.declared.command.Which.{Which}
use Rattle.plain_log.specs.declared.command.Which.TheVariants.{Earliest, Latest, EarliestLocal, LatestTiered, At}
use Rattle.script_lang.specs.declared.refusal.Why.{Why}
use Rattle.script_lang.specs.declared.refusal.Why.TheVariants.{Word, Hex}
use Rattle.script_lang.specs.declared.names.OffsetName.{OffsetName}
use Rattle.script_lang.specs.declared.names.OffsetName.TheVariants as offset
use Rattle.script_lang.specs.declared.names.Verb.{Verb}
use Rattle.script_lang.specs.declared.names.Verb.TheVariants as verb
use Rattle.script_lang.specs.Words.{◌>>=◌, number_first, only_number, first_of, end_of}
use Rattle.script_lang.specs.Names.{offset_of}
use Rattle.script_lang.specs.Records.{records_in, hex_in}

-- no word follows
abbrev pub alone : {A : Type 0} → A → List (List ℕ) → Result A Why
alone x words = end_of words Word >>= λ end. Ok x

-- there is a record
abbrev pub some_records : List Rec → Result (Unit {0}) Why
some_records [] = Err Word
some_records (rec ∷ recs) = Ok tt

-- record {record}
unfoldable pub append_in : List (List ℕ) → Result Command Why
append_in words = do
  recs ← records_in [] words
  some ← some_records recs
  Ok (Append recs)

-- hex
unfoldable pub raw_in : List (List ℕ) → Result Command Why
raw_in words = do
  word ← first_of words Word
  bytes ← hex_in word.0 Hex
  end ← end_of word.1 Word
  Ok (Raw bytes)

-- offset limit
unfoldable pub fetch_in : List (List ℕ) → Result Command Why
fetch_in words = do
  offset ← number_first 0 (2 ^ 62) words
  limit ← only_number 0 (2 ^ 31 - 1) offset.1
  Ok (Fetch offset.0 limit)

-- limit
unfoldable pub follow_in : List (List ℕ) → Result Command Why
follow_in words = only_number 0 (2 ^ 31 - 1) words >>= λ limit. Ok (Follow limit)

-- offset
unfoldable pub raise_in : List (List ℕ) → Result Command Why
raise_in words = only_number 0 (2 ^ 62) words >>= λ start. Ok (Raise start)

-- which offset: its name alone, or at and a time
abbrev pub which_behind : OffsetName → List (List ℕ) → Result Which Why
which_behind offset.Earliest words = alone Earliest words
which_behind offset.Latest words = alone Latest words
which_behind offset.EarliestLocal words = alone EarliestLocal words
which_behind offset.LatestTiered words = alone LatestTiered words
which_behind offset.At words = only_number 0 (2 ^ 63 - 1) words >>= λ ms. Ok (At (pos ms))
which_behind offset.Unknown words = Err Word

-- which
unfoldable pub offset_in : List (List ℕ) → Result Command Why
offset_in words = do
  name ← first_of words Word
  which ← which_behind (offset_of name.0) name.1
  Ok (Offset which)

-- time
unfoldable pub clock_in : List (List ℕ) → Result Command Why
clock_in words = only_number 0 (2 ^ 63 - 1) words >>= λ ms. Ok (Clock (pos ms))

-- flag
unfoldable pub flag_in : List (List ℕ) → Result Bool Why
flag_in words = only_number 0 1 words >>= λ flag. Ok (flag == 1)

-- a command that goes to a broker, by its name
abbrev pub command_led : Verb → List (List ℕ) → Result Command Why
command_led verb.Append words = append_in words
command_led verb.Raw words = raw_in words
command_led verb.Flush words = alone Flush words
command_led verb.Roll words = alone Roll words
command_led verb.Elect words = alone Elect words
command_led verb.Unclean words = alone Unclean words
command_led verb.Learn words = alone Learn words
command_led verb.Join words = alone Join words
command_led verb.Follow words = follow_in words
command_led verb.Ack words = alone Ack words
command_led verb.Shrink words = alone Shrink words
command_led verb.Expand words = alone Expand words
command_led verb.Copy words = alone Copy words
command_led verb.Trim words = alone Trim words
command_led verb.Expire words = alone Expire words
command_led verb.Raise words = raise_in words
command_led verb.Clock words = Err Word
command_led verb.Stop words = alone Stop words
command_led verb.Up words = alone Up words
command_led verb.Fetch words = fetch_in words
command_led verb.Pack words = Err Word
command_led verb.Copying words = Err Word
command_led verb.Offset words = offset_in words
command_led verb.Unknown words = Err Word

-- a command of the whole partition, by its name
abbrev pub common_led : Verb → List (List ℕ) → Result Command Why
common_led verb.Clock words = clock_in words
common_led verb.Pack words = flag_in words >>= λ on. Ok (Pack on)
common_led verb.Copying words = flag_in words >>= λ on. Ok (Copying on)
common_led other words = Err Word
