-- The words of a trace, one by one: the value of each. A word has at most one value, and a value has one spelling.
use Rattle.std.specs.Prelude.{ℕ, ◌-◌, ◌^◌, ◌==◌, ◌&&◌, ◌||◌, nat_le, nat_lt, Bool, if◌then◌else◌, List, [], ◌∷◌}
use Rattle.std.specs.Prelude.{length, take, drop, codes, bytes_eq, Option, Some, None, option_map, Result, Ok, Err}
use Rattle.std.specs.List.{list_all, slice_split}
use Rattle.std.specs.Str.{all_ascii_digits}
use Rattle.hex.specs.declared.error.FromHexError.{FromHexError}
use Rattle.hex.specs.Hex.{decode_of}
use Rattle.uuid.specs.Text.{parsed}
use Rattle.record_batch.specs.declared.refusal.BatchRefusal.{BatchRefusal}
use Rattle.record_batch.specs.declared.refusal.BatchRefusal.TheVariants as cause
use Rattle.tier_base.specs.declared.names.SegmentId.{SegmentId}
use Rattle.tier_base.specs.declared.object_key.ObjectKey.{ObjectKey}
use Rattle.tier_base.specs.declared.plain.FileName.{FileName}
use Rattle.tier_base.specs.declared.plain.FileName.TheVariants as file
use Rattle.tier_base.specs.declared.plain.Part.{Part}
use Rattle.tier_base.specs.declared.plain.Part.TheVariants as part
use Rattle.tier_base.specs.declared.plain.State.{State}
use Rattle.tier_base.specs.declared.plain.State.TheVariants as state
use Rattle.tier_base.specs.declared.plain.Stop.{Stop}
use Rattle.tier_base.specs.declared.plain.Stop.TheVariants as stop
use Rattle.tier_base.specs.Key.{id_text, part_text}
use Rattle.tier_base.specs.Number.{is_shortest, value_of}
use Rattle.plain_log.specs.declared.answer.Place.{Place}
use Rattle.plain_log.specs.declared.answer.Place.TheVariants as place
use Rattle.plain_log.specs.declared.answer.Tier.{Tier}
use Rattle.plain_log.specs.declared.answer.Tier.TheVariants as tier
use Rattle.trace_text.specs.Names.{file_name_text, state_text, stop_text, cause_name}

infixl 10 ◌>>=◌
-- the rest is read only if the first part is valid
abbrev pub ◌>>=◌ : {A B : Type 0} → Option A → (A → Option B) → Option B
(Some x) >>= f = f x
None >>= f = None

-- the first of these that has this text
abbrev pub named : {A : Type 0} → (A → List ℕ) → List ℕ → List A → Option A
named text word [] = None
named text word (x ∷ xs) = if bytes_eq word (text x) then Some x else named text word xs

-- the number, where it is no greater than this
abbrev pub up_to : ℕ → ℕ → Option ℕ
up_to high n = if nat_le n high then Some n else None

-- digits without a leading zero, of a number that is no greater than this
unfoldable pub number_in : ℕ → List ℕ → Option ℕ
number_in high word = if all_ascii_digits word && is_shortest word then up_to high (value_of 0 word) else None

-- a number of 64 bits
abbrev pub count_in : List ℕ → Option ℕ
count_in word = number_in (2 ^ 64 - 1) word

-- these are sixteen bytes, and the word is their text
abbrev pub is_id_of : List ℕ → List ℕ → Bool
is_id_of word bytes =
    (length bytes == 16) && list_all (λ b. nat_lt b 256) bytes && bytes_eq (id_text (record { 0 = bytes })) word

-- an id with hyphens, in lower case
unfoldable pub id_in : List ℕ → Option SegmentId
id_in word = parsed word >>= λ bytes. if is_id_of word bytes then Some (record { 0 = bytes }) else None

-- how keys end
abbrev pub all_parts : List Part
all_parts = part.Log ∷ part.Index ∷ part.TimeIndex ∷ part.Epochs ∷ part.Pack ∷ []

-- the words before and after a key's slash
abbrev pub key_parts_in : List (List ℕ) → Option ObjectKey
key_parts_in (partition ∷ rest ∷ []) =
    number_in 65535 partition >>= λ n.
    id_in (take 36 rest) >>= λ id.
    named part_text (drop 36 rest) all_parts >>= λ part.
    Some (record { partition = record { 0 = n }; id = id; part = part })
key_parts_in other = None

-- an object's key
unfoldable pub key_in : List ℕ → Option ObjectKey
key_in word = key_parts_in (slice_split (λ b. b == 47) word)

-- the name of a log segment's file
unfoldable pub log_name_in : List ℕ → List ℕ → Option FileName
log_name_in digits ending =
    if bytes_eq ending (codes ".log") && all_ascii_digits digits
    then option_map file.Log (up_to (2 ^ 64 - 1) (value_of 0 digits)) else None

-- the files of one name
abbrev pub bare_files : List FileName
bare_files = file.Manifest ∷ file.Notes ∷ file.Gate ∷ file.Registry ∷ []

-- the name of a file
unfoldable pub file_in : List ℕ → Option FileName
file_in word =
    if length word == 24 then log_name_in (take 20 word) (drop 20 word)
    else named file_name_text word bare_files

-- the first value, or else the second
abbrev pub or_else : {A : Type 0} → Option A → Option A → Option A
or_else (Some x) other = Some x
or_else None other = other

-- the place of damage
unfoldable pub place_in : List ℕ → Option Place
place_in word =
    if bytes_eq word (codes "meta") then Some place.Meta
    else or_else (option_map place.Key (key_in word)) (option_map place.File (file_in word))

-- the states
abbrev pub all_states : List State
all_states = state.CopyStarted ∷ state.CopyFinished ∷ state.DeleteStarted ∷ state.DeleteFinished ∷ []

-- a remote segment's state
unfoldable pub state_in : List ℕ → Option State
state_in word = named state_text word all_states

-- the ends of a run
abbrev pub all_stops : List Stop
all_stops = stop.Mark ∷ stop.Piece ∷ stop.Limit ∷ []

-- why a run ends
unfoldable pub stop_in : List ℕ → Option Stop
stop_in word = named stop_text word all_stops

-- the causes that have no numbers
abbrev pub bare_causes : List BatchRefusal
bare_causes =
    cause.Short ∷ cause.BadMagic ∷ cause.BadLength ∷ cause.Compressed ∷ cause.Transactional ∷ cause.Control ∷ []

-- a cause that has no numbers
unfoldable pub cause_in : List ℕ → Option BatchRefusal
cause_in word = named cause_name word bare_causes

-- the tier, and the segment there
unfoldable pub tier_in : List ℕ → List ℕ → Option Tier
tier_in name segment =
    if bytes_eq name (codes "local") then option_map tier.Local (count_in segment)
    else if bytes_eq name (codes "remote") then option_map tier.Remote (id_in segment)
    else None

-- the byte is a hex digit, and no upper case letter
abbrev pub is_lower_digit : ℕ → Bool
is_lower_digit b = (nat_le 48 b && nat_le b 57) || (nat_le 97 b && nat_le b 102)

-- the bytes that were decoded
abbrev pub decoded : Result (List ℕ) FromHexError → Option (List ℕ)
decoded (Ok bytes) = Some bytes
decoded (Err refusal) = None

-- a run's bytes, one at least
unfoldable pub bytes_in : List ℕ → Option (List ℕ)
bytes_in word = if nat_le 1 (length word) && list_all is_lower_digit word then decoded (decode_of word) else None
