-- Files' names, keys and places have one text, and it is read back.
use Rattle.std.proofs.Common.{◌≡◌, ◌≢◌, ◌∙◌, sym, ap, refl, inl, inr, ℕ, ◌-◌, ◌<◌, ◌≤◌, ◌^◌, List, [], ◌∷◌, ◌++◌, Bool, true, false, cond, Option, Some, None, length, take, drop, get_or, All, arith, length-append}
use Rattle.std.specs.Prelude.{option_map, bytes_eq, codes, decimal, not, ◌&&◌, ◌==◌}
use Rattle.std.specs.List.{list_all, slice_split, join_with_byte}
use Rattle.std.specs.Char.{is_ascii_digit}
use Rattle.std.specs.Str.{all_ascii_digits}
use Rattle.std.proofs.lemmas.Bool.{and_parts, eqb-true, ne_eqb}
use Rattle.std.proofs.lemmas.Bool.Decides.{nat_tests}
use Rattle.std.proofs.lemmas.List.{take_at, drop_at, take-append-drop, length-take-le}
use Rattle.std.proofs.lemmas.List.Elements.{All-cons, All-nil, All-append}
use Rattle.std.proofs.lemmas.List.Splits.{slice_split_at, slice_split_none, join_with_byte-slice_split}
use Rattle.std.proofs.lemmas.Fmt.{digits_decimal}
use Rattle.uuid.specs.Text.{lower, hyphenated_text, hex_digit, nibble, digit_place, is_hyphen_place}
use Rattle.uuid.proofs.TextLemmas.{by_index_at, by_index_length, nibble_small}
use Rattle.tier_base.specs.declared.names.SegmentId.{SegmentId}
use Rattle.tier_base.specs.declared.object_key.ObjectKey.{ObjectKey}
use Rattle.tier_base.specs.declared.plain.FileName.{FileName}
use Rattle.tier_base.specs.declared.plain.FileName.TheVariants as file
use Rattle.tier_base.specs.declared.plain.Part.{Part}
use Rattle.tier_base.specs.declared.plain.Part.TheVariants as part
use Rattle.tier_base.specs.Key.{IsId, IsKey, id_text, key_text, part_text, ReadsKey}
use Rattle.tier_base.specs.Number.{value_of}
use Rattle.tier_base.proofs.Digits.{own}
use Rattle.plain_log.specs.declared.answer.Place.{Place}
use Rattle.plain_log.specs.declared.answer.Place.TheVariants as place
use Rattle.plain_log.specs.declared.answer.Tier.{Tier}
use Rattle.plain_log.specs.declared.answer.Tier.TheVariants as tier
use Rattle.trace_text.specs.Names.{padded, file_name_text}
use Rattle.trace_text.specs.Trace.{place_text, tier_words}
use Rattle.trace_text.specs.Entries.{Fits64, IsFileName, IsPlace, IsTier}
use Rattle.trace_text.specs.Fields.{named, or_else, up_to, number_in, count_in, id_in, all_parts, key_parts_in, key_in, log_name_in, bare_files, file_in, place_in, tier_in}
use Rattle.trace_text.proofs.Growing.{up_to-some}
use Rattle.trace_text.proofs.Lengths.{length-id_text}
use Rattle.trace_text.proofs.Padded.{padded-length, padded-digits, padded-number, padded-value}
use Rattle.trace_text.proofs.Readings.{bind-some, if-some, either-some, or-some, map-some, named-some, text-is, up_to-read}
use Rattle.trace_text.proofs.Spelled.{Spells, numbers, ids}

-- digits are from 48 to 57
pub digit-range : (ds : List ℕ) → all_ascii_digits ds ≡ true → All (λ b. (48 ≤ b) × (b ≤ 57)) ds
digit-range [] h = All-nil (λ b. (48 ≤ b) × (b ≤ 57))
digit-range (d ∷ ds) h =
    let parts = and_parts (is_ascii_digit d) (all_ascii_digits ds) h in
    let test : is_ascii_digit d ≡ true = parts.0 in
    let low : 48 ≤ d = grind (arith, nat_tests) in
    let high : d ≤ 57 = grind (arith, nat_tests) in
    All-cons (λ b. (48 ≤ b) × (b ≤ 57)) d ds (low, high) (digit-range ds parts.1)

-- a character of an id: a hyphen, a digit or a small letter
abbrev pub IsIdChar : ℕ → Type 0
IsIdChar b = (45 ≤ b) × (b ≢ 47)

hex-char : (d : ℕ) → d < 16 → IsIdChar (hex_digit lower d)
hex-char d small = (grind (arith, nat_tests), grind (arith, nat_tests))

place-char : (t : Bool) (d : ℕ) → d < 16 → IsIdChar (cond t 45 (hex_digit lower d))
place-char true d small = (omega arith, omega arith)
place-char false d small = hex-char d small

pub id-chars : (id : SegmentId) → All IsIdChar (id_text id)
unfolding id_text
id-chars id k d within =
    let long : length (hyphenated_text lower id.0) ≡ 36 = by_index_length 36 _ in
    rw (by_index_at 36 (λ j. cond (is_hyphen_place j) 45 (hex_digit lower (nibble id.0 (digit_place j)))) k d (omega (arith, long, within)))
    (place-char (is_hyphen_place k) (nibble id.0 (digit_place k)) (nibble_small id.0 (digit_place k)))

not-true : (t : Bool) → not t ≡ true → t ≡ false
not-true true h = sym h
not-true false h = refl

-- no byte is c
abbrev pub Lacks : ℕ → List ℕ → Type 0
Lacks c bytes = All (λ b. (b == c) ≡ false) bytes

pub lacks-test : (c : ℕ) (bytes : List ℕ) → list_all (λ b. not (b == c)) bytes ≡ true → Lacks c bytes
lacks-test c [] h = All-nil (λ b. (b == c) ≡ false)
lacks-test c (b ∷ bytes) h =
    let parts = and_parts (not (b == c)) (list_all (λ d. not (d == c)) bytes) h in
    All-cons (λ d. (d == c) ≡ false) b bytes (not-true (b == c) parts.0) (lacks-test c bytes parts.1)

pub digits-lack : (c : ℕ) (ds : List ℕ) → all_ascii_digits ds ≡ true → c < 48 → Lacks c ds
digits-lack c ds h below k d within =
    let range = digit-range ds h k d within in
    ne_eqb (get_or ds k d) c (λ e. omega (arith, range.0, e))

pub id-lacks : (c : ℕ) (id : SegmentId) → (c < 45) → Lacks c (id_text id)
id-lacks c id below k d within =
    let char = id-chars id k d within in
    ne_eqb (get_or (id_text id) k d) c (λ e. omega (arith, char.0, e))

id-lacks-slash : (id : SegmentId) → Lacks 47 (id_text id)
id-lacks-slash id k d within =
    let char = id-chars id k d within in
    ne_eqb (get_or (id_text id) k d) 47 char.1

-- parts
part-in : (p : Part) → named part_text (part_text p) all_parts ≡ Some p
part-in part.Log = refl
part-in part.Index = refl
part-in part.TimeIndex = refl
part-in part.Epochs = refl
part-in part.Pack = refl

part-lacks : (p : Part) → Lacks 47 (part_text p)
part-lacks part.Log = lacks-test 47 (codes ".log") refl
part-lacks part.Index = lacks-test 47 (codes ".index") refl
part-lacks part.TimeIndex = lacks-test 47 (codes ".timeindex") refl
part-lacks part.Epochs = lacks-test 47 (codes ".epochs") refl
part-lacks part.Pack = lacks-test 47 (codes ".pack") refl

-- keys
key-rest-lacks : (key : ObjectKey) → Lacks 47 (id_text key.id ++ part_text key.part)
key-rest-lacks key = All-append (λ b. (b == 47) ≡ false) (id_text key.id) (part_text key.part) (id-lacks-slash key.id) (part-lacks key.part)

key-split : (key : ObjectKey) → IsKey key → slice_split (λ b. b == 47) (key_text key) ≡ decimal key.partition.0 ∷ (id_text key.id ++ part_text key.part) ∷ []
unfolding key_text
key-split key is =
    slice_split_at (λ b. b == 47) (decimal key.partition.0) 47 (id_text key.id ++ part_text key.part)
    (digits-lack 47 (decimal key.partition.0) (digits_decimal own key.partition.0 (omega (arith, is.partition))) (omega arith)) refl
    ∙ ap (λ (t : List (List ℕ)). decimal key.partition.0 ∷ t) (slice_split_none (λ b. b == 47) (id_text key.id ++ part_text key.part) (key-rest-lacks key))

key-complete : (key : ObjectKey) → IsKey key → key_in (key_text key) ≡ Some key
unfolding key_in
key-complete key is =
    let partition = (numbers 65535 (omega arith)).complete key.partition.0 (omega (arith, is.partition)) in
    let id = ids.complete key.id is.id in
    let front = take_at (id_text key.id) (part_text key.part) 36 (length-id_text key.id) in
    let back = drop_at (id_text key.id) (part_text key.part) 36 (length-id_text key.id) in
    rw (key-split key is, partition, front, id, back, part-in key.part) refl

-- what is read of a key's parts
key-parts-sound : (parts : List (List ℕ)) (word : List ℕ) (key : ObjectKey) → join_with_byte 47 parts ≡ word → key_parts_in parts ≡ Some key → IsKey key × (key_text key ≡ word)
unfolding key_text
key-parts-sound [] word key joined h = cc h
key-parts-sound (p ∷ []) word key joined h = cc h
key-parts-sound (p ∷ rest ∷ []) word key joined h =
    let partition = bind-some (number_in 65535 p) _ key h in
    let id = bind-some (id_in (take 36 rest)) _ key partition.2 in
    let ending = bind-some (named part_text (drop 36 rest) all_parts) _ key id.2 in
    let number = (numbers 65535 (omega arith)).sound p partition.0 partition.1 in
    let is = ids.sound (take 36 rest) id.0 id.1 in
    let found = named-some (λ x. Unit {0}) part_text (drop 36 rest) all_parts ending.0 (tt, (tt, (tt, (tt, (tt, tt))))) ending.1 in
    let same : ◌≡◌ {A = ObjectKey} (record { partition = record { 0 = partition.0 }; id = id.0; part = ending.0 }) key = cc ending.2 in
    let small : partition.0 < 2 ^ 16 = omega (arith, number.0) in
    let text : decimal partition.0 ++ (codes "/" ++ (id_text id.0 ++ part_text ending.0)) ≡ word
    = rw (number.1, is.1, found.0, take-append-drop 36 rest) joined in
    rw (← same) (record { partition = small; id = is.0 }, text)
key-parts-sound (p ∷ rest ∷ more ∷ parts) word key joined h = cc h

key-sound : (word : List ℕ) (key : ObjectKey) → key_in word ≡ Some key → IsKey key × (key_text key ≡ word)
unfolding key_in
key-sound word key h = key-parts-sound (slice_split (λ b. b == 47) word) word key (join_with_byte-slice_split 47 word) h

pub keys : Spells key_text IsKey key_in
keys = record { complete = key-complete; sound = key-sound }

none-key : (word : List ℕ) (r : Option ObjectKey) → key_in word ≡ r → ReadsKey word None → None ≡ r
none-key word None e h = refl
none-key word (Some key) e h = let sound = key-sound word key e in absurd (h key sound.0 sound.1)

-- a reader that answers by its relation answers the reading
pub key-reads : (word : List ℕ) (r : Option ObjectKey) → ReadsKey word r → r ≡ key_in word
key-reads word (Some key) h = sym (ap key_in (sym h.1) ∙ key-complete key h.0)
key-reads word None h = none-key word (key_in word) refl h

-- files
file-complete : (name : FileName) → IsFileName name → file_in (file_name_text name) ≡ Some name
unfolding file_in log_name_in
file-complete file.Manifest is = refl
file-complete file.Notes is = refl
file-complete file.Gate is = refl
file-complete file.Registry is = refl
file-complete (file.Log base) is =
    let long = padded-length base is in
    let size : length (padded base ++ codes ".log") ≡ 24 = omega (arith, length-append (padded base) (codes ".log"), long) in
    let front : take 20 (padded base ++ codes ".log") ≡ padded base = take_at (padded base) (codes ".log") 20 long in
    let back : drop 20 (padded base ++ codes ".log") ≡ codes ".log" = drop_at (padded base) (codes ".log") 20 long in
    let digits = padded-digits base is in
    let value = padded-number base is in
    let fits : up_to (2 ^ 64 - 1) base ≡ Some base = up_to-some (2 ^ 64 - 1) base (omega (arith, is)) in
    rw (size, front, back, digits, value, fits) refl

file-sound : (word : List ℕ) (name : FileName) → file_in word ≡ Some name → IsFileName name × (file_name_text name ≡ word)
unfolding file_in log_name_in
file-sound word name h =
    elim (either-some (length word == 24) _ (named file_name_text word bare_files) name h) [
      | inl log ↦
          let long : length word ≡ 24 = eqb-true (length word) 24 log.0 in
          let tested = if-some (bytes_eq (drop 20 word) (codes ".log") && all_ascii_digits (take 20 word)) _ name log.1 in
          let form = and_parts (bytes_eq (drop 20 word) (codes ".log")) (all_ascii_digits (take 20 word)) tested.0 in
          let base = map-some file.Log (up_to (2 ^ 64 - 1) (value_of 0 (take 20 word))) name tested.1 in
          let read = up_to-read (2 ^ 64 - 1) (value_of 0 (take 20 word)) base.0 base.1 in
          let small : value_of 0 (take 20 word) < 2 ^ 64 = omega (arith, read.0) in
          let fits : base.0 < 2 ^ 64 = omega (arith, small, read.1) in
          let digits : length (take 20 word) ≡ 20 = length-take-le 20 word (omega (arith, long)) in
          let text : padded base.0 ++ codes ".log" ≡ word
          = rw (← read.1, padded-value (take 20 word) form.1 digits small, ← text-is (drop 20 word) (codes ".log") form.0) (take-append-drop 20 word) in
          rw (← base.2) (fits, text)
      | inr bare ↦
          let found = named-some IsFileName file_name_text word bare_files name (tt, (tt, (tt, (tt, tt)))) bare in
          (found.1, found.0)
    ]

pub files : Spells file_name_text IsFileName file_in
files = record { complete = file-complete; sound = file-sound }

-- places
file-no-key : (name : FileName) → IsFileName name → key_in (file_name_text name) ≡ None
unfolding key_in
file-no-key file.Manifest is = refl
file-no-key file.Notes is = refl
file-no-key file.Gate is = refl
file-no-key file.Registry is = refl
file-no-key (file.Log base) is =
    let lacks : Lacks 47 (padded base ++ codes ".log")
    = All-append (λ b. (b == 47) ≡ false) (padded base) (codes ".log") (digits-lack 47 (padded base) (padded-digits base is) (omega arith)) (lacks-test 47 (codes ".log") refl) in
    rw (slice_split_none (λ b. b == 47) (padded base ++ codes ".log") lacks) refl

no-key-meta : key_in (codes "meta") ≡ None
unfolding key_in
no-key-meta = refl

no-file-meta : file_in (codes "meta") ≡ None
unfolding file_in
no-file-meta = refl

pub no-match : {A : Type 0} (o : Option A) (x : A) → o ≡ None → o ≡ Some x → ⊥
no-match {A = A} o x e f = let same : ◌≡◌ {A = Option A} None (Some x) = sym e ∙ f in cc same

false-if : (t : Bool) → (t ≡ true → ⊥) → t ≡ false
false-if true h = absurd (h refl)
false-if false h = refl

key-no-meta : (key : ObjectKey) → IsKey key → bytes_eq (key_text key) (codes "meta") ≡ false
key-no-meta key is =
    false-if (bytes_eq (key_text key) (codes "meta"))
    (λ t. no-match (key_in (codes "meta")) key no-key-meta (ap key_in (sym (text-is (key_text key) (codes "meta") t)) ∙ key-complete key is))

file-no-meta : (name : FileName) → IsFileName name → bytes_eq (file_name_text name) (codes "meta") ≡ false
file-no-meta name is =
    false-if (bytes_eq (file_name_text name) (codes "meta"))
    (λ t. no-match (file_in (codes "meta")) name no-file-meta (ap file_in (sym (text-is (file_name_text name) (codes "meta") t)) ∙ file-complete name is))

place-complete : (p : Place) → IsPlace p → place_in (place_text p) ≡ Some p
unfolding place_in
place-complete place.Meta is = refl
place-complete (place.Key key) is = rw (key-no-meta key is, key-complete key is) refl
place-complete (place.File name) is = rw (file-no-meta name is, file-no-key name is, file-complete name is) refl

place-sound : (word : List ℕ) (p : Place) → place_in word ≡ Some p → IsPlace p × (place_text p ≡ word)
unfolding place_in
place-sound word p h =
    elim (either-some (bytes_eq word (codes "meta")) (Some place.Meta) (or_else (option_map place.Key (key_in word)) (option_map place.File (file_in word))) p h) [
      | inl meta ↦
          let same : place.Meta ≡ p = cc meta.1 in
          rw (← same) (tt, sym (text-is word (codes "meta") meta.0))
      | inr other ↦
          elim (or-some (option_map place.Key (key_in word)) (option_map place.File (file_in word)) p other) [
            | inl one ↦
                let key = map-some place.Key (key_in word) p one in
                let sound = key-sound word key.0 key.1 in
                rw (← key.2) (sound.0, sound.1)
            | inr one ↦
                let name = map-some place.File (file_in word) p one in
                let sound = file-sound word name.0 name.1 in
                rw (← name.2) (sound.0, sound.1)
          ]
    ]

pub places : Spells place_text IsPlace place_in
places = record { complete = place-complete; sound = place-sound }

-- numbers of 64 bits
pub counts : Spells decimal Fits64 count_in
counts = record {
  complete = λ n fits. (numbers (2 ^ 64 - 1) (omega arith)).complete n (omega (arith, fits));
  sound = λ word n h. let read = (numbers (2 ^ 64 - 1) (omega arith)).sound word n h in (omega (arith, read.0), read.1);
}

-- tiers
pub tier-complete-local : (base : ℕ) → Fits64 base → tier_in (codes "local") (decimal base) ≡ Some (tier.Local base)
unfolding tier_in
tier-complete-local base fits = rw (counts.complete base fits) refl

pub tier-complete-remote : (id : SegmentId) → IsId id → tier_in (codes "remote") (id_text id) ≡ Some (tier.Remote id)
unfolding tier_in
tier-complete-remote id is = rw (ids.complete id is) refl

pub tier-sound : (name segment : List ℕ) (t : Tier) → tier_in name segment ≡ Some t → IsTier t × (tier_words t ≡ name ∷ segment ∷ [])
unfolding tier_in
tier-sound name segment t h =
    elim (either-some (bytes_eq name (codes "local")) (option_map tier.Local (count_in segment)) _ t h) [
      | inl local ↦
          let base = map-some tier.Local (count_in segment) t local.1 in
          let sound = counts.sound segment base.0 base.1 in
          rw (← base.2) (sound.0, rw (sound.1, text-is name (codes "local") local.0) refl)
      | inr other ↦
          let remote = if-some (bytes_eq name (codes "remote")) (option_map tier.Remote (id_in segment)) t other in
          let id = map-some tier.Remote (id_in segment) t remote.1 in
          let sound = ids.sound segment id.0 id.1 in
          rw (← id.2) (sound.0, rw (sound.1, text-is name (codes "remote") remote.0) refl)
    ]
