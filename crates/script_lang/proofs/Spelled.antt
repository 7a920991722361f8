-- What is spelled in the shortest way is read back.
use Rattle.std.proofs.Common.{rules, ◌≡◌, ◌∙◌, sym, ap, refl, ℕ, zero, suc, ◌-◌, ◌^◌, ◌<◌, ◌≤◌, List, [], ◌∷◌, ◌++◌, Bool, true, false, cond, length, arith, append_assoc, append-nil}
use Rattle.std.specs.Prelude.{◌==◌, ◌&&◌, ◌||◌, not, nat_le, nat_lt, ℤ, pos, negsuc, nat_abs, Option, Some, None, Ok, filter, map, codes, bytes_eq, All, slice_index_or, slice_index, if◌then◌else◌}
use Rattle.std.specs.List.{list_all, slice_split, onto_first}
use Rattle.std.specs.Fmt.{decimal}
use Rattle.std.proofs.lemmas.Fmt.{digits_value-decimal, digits_decimal, decimal_nonempty}
use Rattle.std.proofs.lemmas.Bool.{le-leb, leb-true, ltb-true, and_parts, and_from, agree_below, agree_below_at, eq-eqb}
use Rattle.std.proofs.lemmas.List.{get_or_default}
use Rattle.std.proofs.lemmas.List.Elements.{All-head, All-tail}
use Rattle.std.proofs.lemmas.List.Sums.{list_all-from_AllPass}
use Rattle.std.proofs.lemmas.List.Folds.{list_all-append}
use Rattle.std.proofs.lemmas.Str.Parse.{IsNumeralModel, numerals_by_fold}
use Rattle.hex.specs.Hex.{encode_lower, is_hex_digit, IsBytes, lower_digits}
use Rattle.hex.proofs.HexLemmas.{decode_of-encode_lower, decode_of-ok, length-encode_with, IsAscii-encode_with}
use Rattle.record_batch.specs.declared.rec.Header.{Header}
use Rattle.record_batch.specs.declared.rec.Rec.{Rec}
use Rattle.plain_log.specs.declared.command.Command.{Command}
use Rattle.plain_log.specs.declared.command.Command.TheVariants.{Append, Raw, Flush, Roll, Elect, Unclean, Learn, Join, Follow, Ack, Shrink, Expand, Copy, Trim, Expire, Raise, Clock, Stop, Up, Fetch, Pack, Copying, Offset}
use Rattle.plain_log.specs.declared.command.Order.{Order}
use Rattle.plain_log.specs.declared.command.Which.{Which}
use Rattle.plain_log.specs.declared.command.Which.TheVariants.{Earliest, Latest, EarliestLocal, LatestTiered, At}
use Rattle.script_lang.specs.declared.form.Form.TheVariants.{Placed}
use Rattle.script_lang.specs.declared.options.Options.{Options}
use Rattle.script_lang.specs.declared.refusal.Why.{Why}
use Rattle.script_lang.specs.declared.names.Lead.TheVariants as lead
use Rattle.script_lang.specs.Words.{is_blank, is_digit, is_some_text, is_number, value_of, words_of, parts_of, number_in, number_first, only_number}
use Rattle.script_lang.specs.Names.{lead_of, verb_of, offset_of}
use Rattle.script_lang.specs.Records.{hex_in, value_in, field_in, header_in, headers_in, record_in, records_in}
use Rattle.script_lang.specs.Commands.{append_in, raw_in, fetch_in, follow_in, raise_in, offset_in, clock_in, flag_in, command_led, common_led}
use Rattle.script_lang.specs.Forms.{brokers_of, partitions_of, order_of, common_in, addressed_in, order_in, placed_in, form_in}
use Rattle.script_lang.specs.Spelling.{joined, value_word, field_word, header_word, record_word, which_words, flag_word, command_words, is_common, broker_word, IsTime, AreBytes, IsHeader, IsRecord, IsWhich, IsSpellable, IsBroker, LinesAreReadBack}

own : IsNumeralModel (λ ds. list_all is_digit ds ≡ true) (value_of 0)
own = numerals_by_fold _ (search rules) value_of (search rules)

some-text : (bs : List ℕ) → 0 < length bs → is_some_text bs ≡ true
some-text [] h = absurd (omega (arith, h))
some-text (b ∷ bs) h = refl

-- a number in range
pub number_in-decimal : (low high n : ℕ) (why : Why) → low ≤ n → n ≤ high → n < 2 ^ 64 → number_in low high (decimal n) why ≡ Ok n
unfolding number_in is_number
number_in-decimal low high n why l h s =
    rw (some-text (decimal n) (decimal_nonempty n s), digits_decimal own n s, digits_value-decimal own n s, le-leb low n l, le-leb n high h) refl

pub number_first-decimal : (low high n : ℕ) (words : List (List ℕ)) → low ≤ n → n ≤ high → n < 2 ^ 64 → number_first low high (decimal n ∷ words) ≡ Ok (n, words)
unfolding number_first
number_first-decimal low high n words l h s = rw (number_in-decimal low high n _ l h s) refl

pub only_number-decimal : (low high n : ℕ) → low ≤ n → n ≤ high → n < 2 ^ 64 → only_number low high (decimal n ∷ []) ≡ Ok n
unfolding only_number
only_number-decimal low high n l h s = rw (number_first-decimal low high n [] l h s) refl

all-weaker : (p q : ℕ → Bool) → ((b : ℕ) → p b ≡ true → q b ≡ true) → (bs : List ℕ) → list_all p bs ≡ true → list_all q bs ≡ true
all-weaker p q h [] e = refl
all-weaker p q h (b ∷ bs) e = let parts = and_parts (p b) (list_all p bs) e in and_from (q b) (list_all q bs) (h b parts.0) (all-weaker p q h bs parts.1)

-- a test that each digit passes, by a table
abbrev pub digits_pass : (ℕ → Bool) → ℕ → Bool
digits_pass f b = not (is_digit b) || f b

digit-passes : (f : ℕ → Bool) → agree_below (digits_pass f) (λ b. true) 128 ≡ true → (b : ℕ) → is_digit b ≡ true → f b ≡ true
digit-passes f table b h =
    let below : b < 128 = omega (arith, leb-true b 57 (and_parts (nat_le 48 b) (nat_le b 57) h).1) in
    let test : digits_pass f b ≡ true = agree_below_at (digits_pass f) (λ b. true) 128 b table below in
    rw h at test

pub decimal-passes : (f : ℕ → Bool) → agree_below (digits_pass f) (λ b. true) 128 ≡ true → (n : ℕ) → n < 2 ^ 64 → list_all f (decimal n) ≡ true
decimal-passes f table n s = all-weaker is_digit f (digit-passes f table) (decimal n) (digits_decimal own n s)

lead-digit : (d : ℕ) (ds : List ℕ) → is_digit d ≡ true → lead_of (d ∷ ds) ≡ lead.Actor
unfolding lead_of
lead-digit d ds h =
    let no : (c : ℕ) → agree_below (digits_pass (λ b. not (b == c))) (λ b. true) 128 ≡ true → (d == c) ≡ false = λ c table. not-true (d == c) (digit-passes (λ b. not (b == c)) table d h) in
    rw (no 35 refl, no 98 refl, no 112 refl, no 115 refl, no 105 refl, no 114 refl, no 108 refl, no 116 refl, no 102 refl, h) refl
  where
    not-true : (t : Bool) → not t ≡ true → t ≡ false
    not-true true e = absurd (cc)
    not-true false e = refl

lead-digits : (word : List ℕ) → 0 < length word → list_all is_digit word ≡ true → lead_of word ≡ lead.Actor
lead-digits [] some h = absurd (omega (arith, some))
lead-digits (d ∷ ds) some h = lead-digit d ds (and_parts (is_digit d) (list_all is_digit ds) h).0

-- a number is no name
pub lead-decimal : (n : ℕ) → n < 2 ^ 64 → lead_of (decimal n) ≡ lead.Actor
lead-decimal n s = lead-digits (decimal n) (decimal_nonempty n s) (digits_decimal own n s)

dash-digit : (d : ℕ) (ds : List ℕ) → is_digit d ≡ true → bytes_eq (d ∷ ds) (codes "-") ≡ false
dash-digit d ds h = rw (not-true (d == 45) (digit-passes (λ b. not (b == 45)) refl d h)) refl
  where
    not-true : (t : Bool) → not t ≡ true → t ≡ false
    not-true true e = absurd (cc)
    not-true false e = refl

dash-digits : (word : List ℕ) → 0 < length word → list_all is_digit word ≡ true → bytes_eq word (codes "-") ≡ false
dash-digits [] some h = absurd (omega (arith, some))
dash-digits (d ∷ ds) some h = dash-digit d ds (and_parts (is_digit d) (list_all is_digit ds) h).0

-- a number is no dash
pub dash-decimal : (n : ℕ) → n < 2 ^ 64 → bytes_eq (decimal n) (codes "-") ≡ false
dash-decimal n s = dash-digits (decimal n) (decimal_nonempty n s) (digits_decimal own n s)

-- a test that each byte of each part passes
abbrev pub PartsPass : (ℕ → Bool) → List (List ℕ) → Type 0
PartsPass f [] = Unit {0}
PartsPass f (part ∷ parts) = (list_all f part ≡ true) × PartsPass f parts

split-step : (is : ℕ → Bool) (t : Bool) (b : ℕ) (rest part : List ℕ) (parts : List (List ℕ)) → (not t && list_all (λ b. not (is b)) part) ≡ true → (list_all (λ b. not (is b)) part ≡ true → slice_split is rest ≡ part ∷ parts)
    → cond t ([] ∷ slice_split is rest) (onto_first b (slice_split is rest)) ≡ (b ∷ part) ∷ parts
split-step is true b rest part parts h ih = absurd (cc)
split-step is false b rest part parts h ih = rw (ih h) refl

split-part : (is : ℕ → Bool) (s : ℕ) → is s ≡ true → (part rest : List ℕ) → list_all (λ b. not (is b)) part ≡ true → slice_split is (part ++ s ∷ rest) ≡ part ∷ slice_split is rest
split-part is s at [] rest h = rw at refl
split-part is s at (b ∷ part) rest h = split-step is (is b) b (part ++ s ∷ rest) part (slice_split is rest) h (split-part is s at part rest)

split-last : (is : ℕ → Bool) (part : List ℕ) → list_all (λ b. not (is b)) part ≡ true → slice_split is part ≡ part ∷ []
split-last is [] h = refl
split-last is (b ∷ part) h = split-step is (is b) b part part [] h (split-last is part)

split-joined : (is : ℕ → Bool) (s : ℕ) → is s ≡ true → (part : List ℕ) (parts : List (List ℕ)) → PartsPass (λ b. not (is b)) (part ∷ parts) → slice_split is (joined s (part ∷ parts)) ≡ part ∷ parts
split-joined is s at part [] h = split-last is part h.0
split-joined is s at part (next ∷ parts) h = split-part is s at part (joined s (next ∷ parts)) h.0 ∙ ap (λ (ps : List (List ℕ)). part ∷ ps) (split-joined is s at next parts h.1)

eqb-self : (s : ℕ) → (s == s) ≡ true
eqb-self s = eq-eqb s s refl

-- parts are found again
pub parts_of-joined : (s : ℕ) (part : List ℕ) (parts : List (List ℕ)) → PartsPass (λ b. not (b == s)) (part ∷ parts) → parts_of s (joined s (part ∷ parts)) ≡ part ∷ parts
unfolding parts_of
parts_of-joined s part parts h = split-joined (λ b. b == s) s (eqb-self s) part parts h

-- words of a line: bytes without blanks
abbrev pub AreWords : List (List ℕ) → Type 0
AreWords [] = Unit {0}
AreWords (word ∷ words) = (is_some_text word ≡ true) × (list_all (λ b. not (is_blank b)) word ≡ true) × AreWords words

words-apart : (words : List (List ℕ)) → AreWords words → PartsPass (λ b. not (is_blank b)) words
words-apart [] h = tt
words-apart (word ∷ words) h = (h.1, words-apart words h.2)

filter-words : (words : List (List ℕ)) → AreWords words → filter is_some_text words ≡ words
filter-words [] h = refl
filter-words (word ∷ words) h = rw (h.0, filter-words words h.2) refl

-- words are found again
pub words_of-joined : (word : List ℕ) (words : List (List ℕ)) → AreWords (word ∷ words) → words_of (joined 32 (word ∷ words)) ≡ word ∷ words
unfolding words_of
words_of-joined word words h = ap (filter is_some_text) (split-joined is_blank 32 refl word words (words-apart (word ∷ words) h)) ∙ filter-words (word ∷ words) h

-- a test that each hexadecimal digit passes, by a table
abbrev pub hex_pass : (ℕ → Bool) → ℕ → Bool
hex_pass f b = not (is_hex_digit b) || f b

hex-byte : (f : ℕ → Bool) → agree_below (hex_pass f) (λ b. true) 128 ≡ true → (b : ℕ) → b < 128 → is_hex_digit b ≡ true → f b ≡ true
hex-byte f table b below h =
    let test : hex_pass f b ≡ true = agree_below_at (hex_pass f) (λ b. true) 128 b table below in
    rw h at test

below-index : (bs : List ℕ) → list_all (λ b. nat_lt b 128) bs ≡ true → (i : ℕ) → slice_index bs i < 128
below-index [] h i = omega arith
below-index (b ∷ bs) h zero = ltb-true b 128 (and_parts (nat_lt b 128) (list_all (λ b. nat_lt b 128) bs) h).0
below-index (b ∷ bs) h (suc i) = below-index bs (and_parts (nat_lt b 128) (list_all (λ b. nat_lt b 128) bs) h).1 i

-- the digits of bytes pass a test that each digit passes
hex-passes : (f : ℕ → Bool) → agree_below (hex_pass f) (λ b. true) 128 ≡ true → (bytes : List ℕ) → IsBytes bytes → list_all f (encode_lower bytes) ≡ true
hex-passes f table bytes are =
    let digits = (decode_of-ok (encode_lower bytes) bytes (decode_of-encode_lower bytes are)).1 in
    list_all-from_AllPass f (encode_lower bytes) (λ k d lt.
    hex-byte f table (slice_index_or (encode_lower bytes) k d) (rw (get_or_default (encode_lower bytes) k d 0 lt) (IsAscii-encode_with lower_digits bytes (below-index lower_digits refl) k)) (digits k d lt))

-- what a separator, a dash, an x and digits pass
record Passes (f : ℕ → Bool) : Type 0 where
  digits : agree_below (digits_pass f) (λ b. true) 128 ≡ true
  hex : agree_below (hex_pass f) (λ b. true) 128 ≡ true
  dash : f 45 ≡ true
  cross : f 120 ≡ true

value-passes : (f : ℕ → Bool) → Passes f → (bytes : List ℕ) → IsBytes bytes → list_all f (value_word bytes) ≡ true
value-passes f p bytes are = and_from (f 120) (list_all f (encode_lower bytes)) p.cross (hex-passes f p.hex bytes are)

field-passes : (f : ℕ → Bool) → Passes f → (field : Option (List ℕ)) → AreBytes field → list_all f (field_word field) ≡ true
field-passes f p None are = and_from (f 45) true p.dash refl
field-passes f p (Some bytes) are = value-passes f p bytes are

joined-passes : (f : ℕ → Bool) (s : ℕ) → f s ≡ true → (parts : List (List ℕ)) → PartsPass f parts → list_all f (joined s parts) ≡ true
joined-passes f s at [] h = refl
joined-passes f s at (part ∷ []) h = h.0
joined-passes f s at (part ∷ next ∷ parts) h =
    list_all-append f part (s ∷ joined s (next ∷ parts))
    ∙ and_from (list_all f part) (f s && list_all f (joined s (next ∷ parts))) h.0 (and_from (f s) (list_all f (joined s (next ∷ parts))) at (joined-passes f s at (next ∷ parts) h.1))

header-passes : (f : ℕ → Bool) → Passes f → f 61 ≡ true → (header : Header) → IsHeader header → list_all f (header_word header) ≡ true
header-passes f p at header h = joined-passes f 61 at (value_word header.key ∷ field_word header.value ∷ []) (value-passes f p header.key h.key, (field-passes f p header.value h.value, tt))

headers-pass : (f : ℕ → Bool) → Passes f → f 61 ≡ true → (headers : List Header) → All IsHeader headers → PartsPass f (map header_word headers)
headers-pass f p at [] h = tt
headers-pass f p at (header ∷ headers) h = (header-passes f p at header (All-head IsHeader header headers h), headers-pass f p at headers (All-tail IsHeader header headers h))

time-pos : (z : ℤ) → IsTime z → pos (nat_abs z) ≡ z
time-pos (pos n) h = refl
time-pos (negsuc n) h = absurd h

time-small : (z : ℤ) → IsTime z → nat_abs z ≤ 9223372036854775807
time-small (pos n) h = h
time-small (negsuc n) h = absurd h

record-parts : (f : ℕ → Bool) → Passes f → f 61 ≡ true → (rec : Rec) → IsRecord rec → PartsPass f (decimal (nat_abs rec.ts) ∷ field_word rec.key ∷ field_word rec.value ∷ map header_word rec.headers)
record-parts f p at rec h = (decimal-passes f p.digits (nat_abs rec.ts) (omega (arith, time-small rec.ts h.ts)), (field-passes f p rec.key h.key, (field-passes f p rec.value h.value, headers-pass f p at rec.headers h.headers)))

-- digits are read back
hex_in-encoded : (bytes : List ℕ) (why : Why) → IsBytes bytes → hex_in (encode_lower bytes) why ≡ Ok bytes
unfolding hex_in
hex_in-encoded bytes why are = rw (decode_of-encode_lower bytes are) refl

value-read : (bytes : List ℕ) → IsBytes bytes → value_in (value_word bytes) ≡ Ok bytes
unfolding value_in
value-read bytes are = hex_in-encoded bytes _ are

field-read : (field : Option (List ℕ)) → AreBytes field → field_in (field_word field) ≡ Ok field
unfolding field_in
field-read None are = refl
field-read (Some bytes) are = rw (value-read bytes are) refl

header-read : (header : Header) → IsHeader header → header_in (header_word header) ≡ Ok header
unfolding header_in
header-read header h =
    let p : Passes (λ b. not (b == 61)) = record { digits = refl; hex = refl; dash = refl; cross = refl } in
    rw (parts_of-joined 61 (value_word header.key) (field_word header.value ∷ []) (value-passes (λ b. not (b == 61)) p header.key h.key, (field-passes (λ b. not (b == 61)) p header.value h.value, tt)), value-read header.key h.key, field-read header.value h.value) refl

headers-read : (front headers : List Header) → All IsHeader headers → headers_in front (map header_word headers) ≡ Ok (front ++ headers)
headers-read front [] h = ap (λ (hs : List Header). Ok hs) (sym (append-nil front))
headers-read front (header ∷ headers) h =
    rw (header-read header (All-head IsHeader header headers h))
    (headers-read (front ++ header ∷ []) headers (All-tail IsHeader header headers h) ∙ ap (λ (hs : List Header). Ok hs) (append_assoc front (header ∷ []) headers))

no-comma : Passes (λ b. not (b == 44))
no-comma = record { digits = refl; hex = refl; dash = refl; cross = refl }

no-blank : Passes (λ b. not (is_blank b))
no-blank = record { digits = refl; hex = refl; dash = refl; cross = refl }

record-read : (rec : Rec) → IsRecord rec → record_in (record_word rec) ≡ Ok rec
unfolding record_in
record-read rec h =
    rw (
      parts_of-joined 44 (decimal (nat_abs rec.ts)) (field_word rec.key ∷ field_word rec.value ∷ map header_word rec.headers) (record-parts (λ b. not (b == 44)) no-comma refl rec h),
      number_in-decimal 0 (2 ^ 63 - 1) (nat_abs rec.ts) _ (omega arith) (time-small rec.ts h.ts) (omega (arith, time-small rec.ts h.ts)),
      field-read rec.key h.key,
      field-read rec.value h.value,
      headers-read [] rec.headers h.headers,
      time-pos rec.ts h.ts,
    )
    refl

records-read : (front recs : List Rec) → All IsRecord recs → records_in front (map record_word recs) ≡ Ok (front ++ recs)
records-read front [] h = ap (λ (rs : List Rec). Ok rs) (sym (append-nil front))
records-read front (rec ∷ recs) h =
    rw (record-read rec (All-head IsRecord rec recs h))
    (records-read (front ++ rec ∷ []) recs (All-tail IsRecord rec recs h) ∙ ap (λ (rs : List Rec). Ok rs) (append_assoc front (rec ∷ []) recs))

append-read : (recs : List Rec) → 0 < length recs → All IsRecord recs → append_in (map record_word recs) ≡ Ok (Append recs)
unfolding append_in
append-read [] some h = absurd (omega (arith, some))
append-read (rec ∷ recs) some h = rw (records-read [] (rec ∷ recs) h) refl

raw-read : (bytes : List ℕ) → IsBytes bytes → raw_in (encode_lower bytes ∷ []) ≡ Ok (Raw bytes)
unfolding raw_in
raw-read bytes are = rw (hex_in-encoded bytes _ are) refl

fetch-read : (offset limit : ℕ) → offset ≤ 4611686018427387904 → limit ≤ 2147483647 → fetch_in (decimal offset ∷ decimal limit ∷ []) ≡ Ok (Fetch offset limit)
unfolding fetch_in
fetch-read offset limit o l = rw (number_first-decimal 0 (2 ^ 62) offset (decimal limit ∷ []) (omega arith) o (omega (arith, o)), only_number-decimal 0 (2 ^ 31 - 1) limit (omega arith) l (omega (arith, l))) refl

follow-read : (limit : ℕ) → limit ≤ 2147483647 → follow_in (decimal limit ∷ []) ≡ Ok (Follow limit)
unfolding follow_in
follow-read limit l = rw (only_number-decimal 0 (2 ^ 31 - 1) limit (omega arith) l (omega (arith, l))) refl

raise-read : (start : ℕ) → start ≤ 4611686018427387904 → raise_in (decimal start ∷ []) ≡ Ok (Raise start)
unfolding raise_in
raise-read start l = rw (only_number-decimal 0 (2 ^ 62) start (omega arith) l (omega (arith, l))) refl

clock-read : (ms : ℤ) → IsTime ms → clock_in (decimal (nat_abs ms) ∷ []) ≡ Ok (Clock ms)
unfolding clock_in
clock-read ms h = rw (only_number-decimal 0 (2 ^ 63 - 1) (nat_abs ms) (omega arith) (time-small ms h) (omega (arith, time-small ms h)), time-pos ms h) refl

flag-read : (on : Bool) → flag_in (flag_word on ∷ []) ≡ Ok on
unfolding flag_in only_number number_first number_in is_number
flag-read true = refl
flag-read false = refl

offset-read : (which : Which) → IsWhich which → offset_in (which_words which) ≡ Ok (Offset which)
unfolding offset_in offset_of
offset-read Earliest h = refl
offset-read Latest h = refl
offset-read EarliestLocal h = refl
offset-read LatestTiered h = refl
offset-read (At ms) h = rw (only_number-decimal 0 (2 ^ 63 - 1) (nat_abs ms) (omega arith) (time-small ms h) (omega (arith, time-small ms h)), time-pos ms h) refl

addressed : (brokers broker : ℕ) (name : List ℕ) (words : List (List ℕ)) (command : Command) → command_led (verb_of name) words ≡ Ok command → broker ≤ brokers - 1 → broker < 65536 → order_in brokers (decimal broker ∷ name ∷ words) ≡ Ok (order_of broker command)
unfolding order_in addressed_in
addressed brokers broker name words command read at small = rw (dash-decimal broker (omega (arith, small)), number_in-decimal 0 (brokers - 1) broker _ (omega arith) at (omega (arith, small)), read) refl

common : (brokers broker : ℕ) (name : List ℕ) (words : List (List ℕ)) (command : Command) → common_led (verb_of name) words ≡ Ok command → broker ≡ 0 → order_in brokers (codes "-" ∷ name ∷ words) ≡ Ok (order_of broker command)
unfolding order_in common_in
common brokers broker name words command read is = rw (read, is) refl

order-read : (brokers broker : ℕ) (command : Command) → IsBroker brokers (is_common command) broker → IsSpellable command → order_in brokers (broker_word (order_of broker command) ∷ command_words command) ≡ Ok (order_of broker command)
unfolding verb_of
order-read brokers broker (Append recs) b s = addressed brokers broker (codes "append") (map record_word recs) (Append recs) (append-read recs s.0 s.1) b.0 b.1
order-read brokers broker (Raw bytes) b s = addressed brokers broker (codes "raw") (encode_lower bytes ∷ []) (Raw bytes) (raw-read bytes s.1) b.0 b.1
order-read brokers broker Flush b s = addressed brokers broker (codes "flush") [] Flush refl b.0 b.1
order-read brokers broker Roll b s = addressed brokers broker (codes "roll") [] Roll refl b.0 b.1
order-read brokers broker Elect b s = addressed brokers broker (codes "elect") [] Elect refl b.0 b.1
order-read brokers broker Unclean b s = addressed brokers broker (codes "unclean") [] Unclean refl b.0 b.1
order-read brokers broker Learn b s = addressed brokers broker (codes "learn") [] Learn refl b.0 b.1
order-read brokers broker Join b s = addressed brokers broker (codes "join") [] Join refl b.0 b.1
order-read brokers broker Ack b s = addressed brokers broker (codes "ack") [] Ack refl b.0 b.1
order-read brokers broker Shrink b s = addressed brokers broker (codes "shrink") [] Shrink refl b.0 b.1
order-read brokers broker Expand b s = addressed brokers broker (codes "expand") [] Expand refl b.0 b.1
order-read brokers broker Copy b s = addressed brokers broker (codes "copy") [] Copy refl b.0 b.1
order-read brokers broker Trim b s = addressed brokers broker (codes "trim") [] Trim refl b.0 b.1
order-read brokers broker Expire b s = addressed brokers broker (codes "expire") [] Expire refl b.0 b.1
order-read brokers broker Stop b s = addressed brokers broker (codes "stop") [] Stop refl b.0 b.1
order-read brokers broker Up b s = addressed brokers broker (codes "up") [] Up refl b.0 b.1
order-read brokers broker (Follow limit) b s = addressed brokers broker (codes "follow") (decimal limit ∷ []) (Follow limit) (follow-read limit s) b.0 b.1
order-read brokers broker (Raise start) b s = addressed brokers broker (codes "raise") (decimal start ∷ []) (Raise start) (raise-read start s) b.0 b.1
order-read brokers broker (Clock ms) b s = common brokers broker (codes "clock") (decimal (nat_abs ms) ∷ []) (Clock ms) (clock-read ms s) b
order-read brokers broker (Fetch offset limit) b s = addressed brokers broker (codes "fetch") (decimal offset ∷ decimal limit ∷ []) (Fetch offset limit) (fetch-read offset limit s.0 s.1) b.0 b.1
order-read brokers broker (Pack on) b s = common brokers broker (codes "pack") (flag_word on ∷ []) (Pack on) (rw (flag-read on) refl) b
order-read brokers broker (Copying on) b s = common brokers broker (codes "copying") (flag_word on ∷ []) (Copying on) (rw (flag-read on) refl) b
order-read brokers broker (Offset which) b s = addressed brokers broker (codes "offset") (which_words which) (Offset which) (offset-read which s) b.0 b.1

decimal-words : (n : ℕ) (words : List (List ℕ)) → n < 2 ^ 64 → AreWords words → AreWords (decimal n ∷ words)
decimal-words n words s h = (some-text (decimal n) (decimal_nonempty n s), decimal-passes (λ b. not (is_blank b)) refl n s, h)

some-append : (xs ys : List ℕ) (y : ℕ) → is_some_text (xs ++ y ∷ ys) ≡ true
some-append [] ys y = refl
some-append (x ∷ xs) ys y = refl

records-words : (recs : List Rec) → All IsRecord recs → AreWords (map record_word recs)
records-words [] h = tt
records-words (rec ∷ recs) h =
    let one = All-head IsRecord rec recs h in (
      some-append (decimal (nat_abs rec.ts)) _ 44,
      joined-passes (λ b. not (is_blank b)) 44 refl (decimal (nat_abs rec.ts) ∷ field_word rec.key ∷ field_word rec.value ∷ map header_word rec.headers) (record-parts (λ b. not (is_blank b)) no-blank refl rec one),
      records-words recs (All-tail IsRecord rec recs h),
    )

flag-words : (on : Bool) → AreWords (flag_word on ∷ [])
flag-words true = (refl, refl, tt)
flag-words false = (refl, refl, tt)

which-are-words : (which : Which) → IsWhich which → AreWords (which_words which)
which-are-words Earliest h = (refl, refl, tt)
which-are-words Latest h = (refl, refl, tt)
which-are-words EarliestLocal h = (refl, refl, tt)
which-are-words LatestTiered h = (refl, refl, tt)
which-are-words (At ms) h = (refl, refl, decimal-words (nat_abs ms) [] (omega (arith, time-small ms h)) tt)

are-words : (command : Command) → IsSpellable command → AreWords (command_words command)
are-words (Append recs) s = (refl, refl, records-words recs s.1)
are-words (Raw bytes) s = (refl, refl, (some-text (encode_lower bytes) (omega (arith, length-encode_with lower_digits bytes, s.0)), hex-passes (λ b. not (is_blank b)) refl bytes s.1, tt))
are-words Flush s = (refl, refl, tt)
are-words Roll s = (refl, refl, tt)
are-words Elect s = (refl, refl, tt)
are-words Unclean s = (refl, refl, tt)
are-words Learn s = (refl, refl, tt)
are-words Join s = (refl, refl, tt)
are-words Ack s = (refl, refl, tt)
are-words Shrink s = (refl, refl, tt)
are-words Expand s = (refl, refl, tt)
are-words Copy s = (refl, refl, tt)
are-words Trim s = (refl, refl, tt)
are-words Expire s = (refl, refl, tt)
are-words Stop s = (refl, refl, tt)
are-words Up s = (refl, refl, tt)
are-words (Follow limit) s = (refl, refl, decimal-words limit [] (omega (arith, s)) tt)
are-words (Raise start) s = (refl, refl, decimal-words start [] (omega (arith, s)) tt)
are-words (Clock ms) s = (refl, refl, decimal-words (nat_abs ms) [] (omega (arith, time-small ms s)) tt)
are-words (Fetch offset limit) s = (refl, refl, decimal-words offset (decimal limit ∷ []) (omega (arith, s.0)) (decimal-words limit [] (omega (arith, s.1)) tt))
are-words (Pack on) s = (refl, refl, flag-words on)
are-words (Copying on) s = (refl, refl, flag-words on)
are-words (Offset which) s = (refl, refl, which-are-words which s)

broker-words : (t : Bool) (brokers broker : ℕ) (words : List (List ℕ)) → IsBroker brokers t broker → AreWords words → AreWords ((if t then codes "-" else decimal broker) ∷ words)
broker-words true brokers broker words b h = (refl, refl, h)
broker-words false brokers broker words b h = decimal-words broker words (omega (arith, b.1)) h

placed-read : (options : Options) (actor partition : ℕ) (order : Order) (words : List (List ℕ)) → partition ≤ partitions_of options - 1 → partition < 65536 → order_in (brokers_of options) words ≡ Ok order
    → placed_in options true actor (decimal partition ∷ words) ≡ Ok (Placed (record { 0 = actor }) (record { 0 = partition }) order true)
unfolding placed_in
placed-read options actor partition order words p small read = rw (number_first-decimal 0 (partitions_of options - 1) partition words (omega arith) p (omega (arith, small)), read) refl

-- a line is read back
pub line-read : LinesAreReadBack
line-read options actor partition order a p small b s =
    let words = broker_word order ∷ command_words order.command in
    let are = decimal-words actor (decimal partition ∷ words) (omega (arith, a)) (decimal-words partition words (omega (arith, small)) (broker-words (is_common order.command) (brokers_of options) order.broker.0 (command_words order.command) b (are-words order.command s))) in
    ap (form_in options) (words_of-joined (decimal actor) (decimal partition ∷ words) are)
    ∙ (rw (lead-decimal actor (omega (arith, a)), number_in-decimal 0 63 actor _ (omega arith) a (omega (arith, a)))
    (placed-read options actor partition order words p small (order-read (brokers_of options) order.broker.0 order.command b s)))
