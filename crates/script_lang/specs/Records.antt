-- A record of an append: one word, whose parts are separated by commas.
--
--   record  = time , field , field {, header}     time: 0 to 2^63 - 1; then key and value
--   header  = value = field                       the header's key, which isn't none, and its value
--   field   = - | value                           - is none
--   value   = :name | xhex
--   name    = any number of letters, digits, _ and .
--   hex     = an even number of hexadecimal digits of either case
--
-- Any other word is Field.
use Rattle.std.specs.Prelude.{ℕ, ◌-◌, ◌^◌, ◌==◌, ◌||◌, ◌&&◌, nat_le, Bool, if◌then◌else◌, List, [], ◌∷◌, ◌++◌, codes}
use Rattle.std.specs.Prelude.{bytes_eq, Option, Some, None, Result, Ok, Err, pos}
use Rattle.std.specs.List.{list_all}
use Rattle.hex.specs.Hex.{decode_of}
use Rattle.hex.specs.declared.error.FromHexError.{FromHexError}
use Rattle.record_batch.specs.declared.rec.Rec.{Rec}
use Rattle.record_batch.specs.declared.rec.Header.{Header}
use Rattle.script_lang.specs.declared.refusal.Why.{Why}
use Rattle.script_lang.specs.declared.refusal.Why.TheVariants.{Field}
use Rattle.script_lang.specs.Words.{◌>>=◌, is_digit, number_in, parts_of, first_of, end_of}

-- an ASCII letter
abbrev pub is_letter : ℕ → Bool
is_letter b = (nat_le 65 b && nat_le b 90) || (nat_le 97 b && nat_le b 122)

-- a letter, a digit, an underscore or a point
abbrev pub is_name_byte : ℕ → Bool
is_name_byte b = is_digit b || is_letter b || b == 95 || b == 46

-- the bytes that were decoded, or this cause
abbrev pub or_why : Result (List ℕ) FromHexError → Why → Result (List ℕ) Why
or_why (Ok bytes) why = Ok bytes
or_why (Err e) why = Err why

-- the bytes of an even number of hexadecimal digits
unfoldable pub hex_in : List ℕ → Why → Result (List ℕ) Why
hex_in digits why = or_why (decode_of digits) why

-- the bytes of a name
abbrev pub name_in : List ℕ → Result (List ℕ) Why
name_in bytes = if list_all is_name_byte bytes then Ok bytes else Err Field

-- value = :name | xhex
unfoldable pub value_in : List ℕ → Result (List ℕ) Why
value_in [] = Err Field
value_in (b ∷ bytes) = if b == 58 then name_in bytes else if b == 120 then hex_in bytes Field else Err Field

-- field = - | value
unfoldable pub field_in : List ℕ → Result (Option (List ℕ)) Why
field_in word = if bytes_eq word (codes "-") then Ok None else value_in word >>= λ bytes. Ok (Some bytes)

-- header = value = field
unfoldable pub header_in : List ℕ → Result Header Why
header_in word = do
  first ← first_of (parts_of 61 word) Field
  key ← value_in first.0
  second ← first_of first.1 Field
  value ← field_in second.0
  end ← end_of second.1 Field
  Ok (record { key = key; value = value })

-- the headers after those that were read
abbrev pub headers_in : List Header → List (List ℕ) → Result (List Header) Why
headers_in headers [] = Ok headers
headers_in headers (part ∷ parts) = header_in part >>= λ header. headers_in (headers ++ header ∷ []) parts

-- record = time , field , field {, header}
unfoldable pub record_in : List ℕ → Result Rec Why
record_in word = do
  first ← first_of (parts_of 44 word) Field
  ts ← number_in 0 (2 ^ 63 - 1) first.0 Field
  second ← first_of first.1 Field
  key ← field_in second.0
  third ← first_of second.1 Field
  value ← field_in third.0
  headers ← headers_in [] third.1
  Ok (record { ts = pos ts; key = key; value = value; headers = headers })

-- the records after those that were read
abbrev pub records_in : List Rec → List (List ℕ) → Result (List Rec) Why
records_in recs [] = Ok recs
records_in recs (word ∷ words) = record_in word >>= λ rec. records_in (recs ++ rec ∷ []) words
