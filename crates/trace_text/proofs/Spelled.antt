-- A word has one reading, and what is read one spelling.
use Rattle.std.proofs.Common.{◌≡◌, ◌∙◌, sym, ap, refl, inl, ℕ, ◌<◌, ◌≤◌, ◌^◌, List, [], ◌∷◌, true, cond, Option, Some, None, length, All, arith}
use Rattle.std.specs.Prelude.{bytes_eq, decimal, nat_lt, ◌&&◌}
use Rattle.std.specs.List.{list_all}
use Rattle.std.specs.Str.{all_ascii_digits}
use Rattle.std.proofs.lemmas.Bool.{and_parts, eqb-true, ltb-true}
use Rattle.std.proofs.lemmas.Bool.Decides.{nat_tests}
use Rattle.std.proofs.lemmas.List.Elements.{All-cons, All-nil, All-head, All-tail}
use Rattle.std.proofs.lemmas.Fmt.{digits_decimal, digits_value-decimal}
use Rattle.uuid.specs.Text.{lower, parsed}
use Rattle.uuid.proofs.RoundTrips.{parses_hyphenated}
use Rattle.record_batch.specs.declared.refusal.BatchRefusal.{BatchRefusal}
use Rattle.tier_base.specs.declared.names.SegmentId.{SegmentId}
use Rattle.tier_base.specs.declared.plain.State.TheVariants as state
use Rattle.tier_base.specs.declared.plain.Stop.TheVariants as stop
use Rattle.tier_base.specs.Key.{IsId, id_text, ReadsId}
use Rattle.tier_base.specs.Number.{is_shortest, value_of}
use Rattle.tier_base.proofs.Digits.{own, shortest-decimal, decimal-value}
use Rattle.trace_text.specs.Names.{state_text, stop_text, cause_name, cause_numbers}
use Rattle.trace_text.specs.Fields.{up_to, number_in, is_id_of, id_in, all_states, state_in, all_stops, stop_in, cause_in, bare_causes}
use Rattle.trace_text.specs.Entries.{IsCause}
use Rattle.trace_text.proofs.Growing.{up_to-some}
use Rattle.trace_text.proofs.Readings.{bind-some, if-some, named-some, text-is, same-text, up_to-read}

-- the words that the reading takes are the texts of such values, one each
pub record Spells {A : Type 0} (text : A → List ℕ) (May : A → Type 0) (reading : List ℕ → Option A) : Type 0 where
  pub complete : (x : A) → May x → reading (text x) ≡ Some x
  pub sound : (word : List ℕ) (x : A) → reading word ≡ Some x → May x × (text x ≡ word)

-- numbers
number-complete : (high n : ℕ) → high < 2 ^ 64 → n ≤ high → number_in high (decimal n) ≡ Some n
unfolding number_in
number-complete high n word fits =
    let small : n < 2 ^ 64 = omega arith in
    let digits : all_ascii_digits (decimal n) ≡ true = digits_decimal own n small in
    let short : is_shortest (decimal n) ≡ true = shortest-decimal n small in
    let value : value_of 0 (decimal n) ≡ n = digits_value-decimal own n small in
    rw (digits, short, value) (up_to-some high n fits)

number-sound : (high : ℕ) (word : List ℕ) (n : ℕ) → high < 2 ^ 64 → number_in high word ≡ Some n → (n ≤ high) × (decimal n ≡ word)
unfolding number_in
number-sound high word n small h =
    let tested = if-some (all_ascii_digits word && is_shortest word) (up_to high (value_of 0 word)) n h in
    let form = and_parts (all_ascii_digits word) (is_shortest word) tested.0 in
    let read = up_to-read high (value_of 0 word) n tested.1 in
    let fits : value_of 0 word ≤ high = read.0 in
    rw (← read.1) (fits, decimal-value word form.0 form.1 (omega arith))

pub numbers : (high : ℕ) → high < 2 ^ 64 → Spells decimal (λ n. n ≤ high) (number_in high)
numbers high small = record { complete = λ n fits. number-complete high n small fits; sound = λ word n h. number-sound high word n small h }

-- ids
each-small : (bytes : List ℕ) → list_all (λ b. nat_lt b 256) bytes ≡ true → All (λ b. b < 256) bytes
each-small [] h = All-nil (λ b. b < 256)
each-small (b ∷ bytes) h =
    let parts = and_parts (nat_lt b 256) (list_all (λ c. nat_lt c 256) bytes) h in
    All-cons (λ c. c < 256) b bytes (ltb-true b 256 parts.0) (each-small bytes parts.1)

pub small-each : (bytes : List ℕ) → All (λ b. b < 256) bytes → list_all (λ b. nat_lt b 256) bytes ≡ true
small-each [] h = refl
small-each (b ∷ bytes) h =
    let head : b < 256 = All-head (λ c. c < 256) b bytes h in
    let test : nat_lt b 256 ≡ true = grind (arith, nat_tests) in
    rw (test, small-each bytes (All-tail (λ c. c < 256) b bytes h)) refl

id-parsed : (id : SegmentId) → IsId id → parsed (id_text id) ≡ Some id.0
unfolding id_text
id-parsed id is = sym (parses_hyphenated lower id.0 (inl refl) is.size is.bytes)

id-complete : (id : SegmentId) → IsId id → id_in (id_text id) ≡ Some id
unfolding id_in
id-complete id is =
    let read : parsed (id_text id) ≡ Some id.0 = id-parsed id is in
    let size : length id.0 ≡ 16 = is.size in
    rw (read, size, small-each id.0 is.bytes, same-text (id_text id)) refl

id-sound : (word : List ℕ) (id : SegmentId) → id_in word ≡ Some id → IsId id × (id_text id ≡ word)
unfolding id_in
id-sound word id h =
    let step = bind-some (parsed word) (λ bytes. cond (is_id_of word bytes) (Some (record { 0 = bytes })) None) id h in
    let tested = if-some (is_id_of word step.0) (Some (record { 0 = step.0 })) id step.2 in
    let same : ◌≡◌ {A = SegmentId} (record { 0 = step.0 }) id = cc tested.1 in
    let form = and_parts _ (bytes_eq (id_text (record { 0 = step.0 })) word) tested.0 in
    let size = and_parts _ (list_all (λ b. nat_lt b 256) step.0) form.0 in
    rw (← same)
    (record { size = eqb-true (length step.0) 16 size.0; bytes = each-small step.0 size.1 }, text-is (id_text (record { 0 = step.0 })) word form.1)

pub ids : Spells id_text IsId id_in
ids = record { complete = id-complete; sound = id-sound }

none-read : (word : List ℕ) (r : Option SegmentId) → id_in word ≡ r → ReadsId word None → None ≡ r
none-read word None e h = refl
none-read word (Some id) e h = let sound = id-sound word id e in absurd (h id sound.0 sound.1)

-- a reader that answers by its relation answers the reading
pub id-reads : (word : List ℕ) (r : Option SegmentId) → ReadsId word r → r ≡ id_in word
id-reads word (Some id) h = sym (ap id_in (sym h.1) ∙ id-complete id h.0)
id-reads word None h = none-read word (id_in word) refl h

-- names
pub states : Spells state_text (λ s. Unit {0}) state_in
unfolding state_in
states = record {
  complete = λ s _. elim s as (λ x. state_in (state_text x) ≡ Some x) [ state.CopyStarted ↦ refl | state.CopyFinished ↦ refl | state.DeleteStarted ↦ refl | state.DeleteFinished ↦ refl ];
  sound = λ word s h. (tt, (named-some (λ x. Unit {0}) state_text word all_states s (tt, (tt, (tt, (tt, tt)))) h).0);
}

pub stops : Spells stop_text (λ s. Unit {0}) stop_in
unfolding stop_in
stops = record {
  complete = λ s _. elim s as (λ x. stop_in (stop_text x) ≡ Some x) [ stop.Mark ↦ refl | stop.Piece ↦ refl | stop.Limit ↦ refl ];
  sound = λ word s h. (tt, (named-some (λ x. Unit {0}) stop_text word all_stops s (tt, (tt, (tt, tt))) h).0);
}

-- a cause without numbers is reported by its name
pub cause-sound : (word : List ℕ) (c : BatchRefusal) → cause_in word ≡ Some c → (cause_name c ≡ word) × ((cause_numbers c ≡ []) × IsCause c)
unfolding cause_in
cause-sound word c h =
    named-some (λ x. (cause_numbers x ≡ []) × IsCause x) cause_name word bare_causes c
    ((refl, tt), ((refl, tt), ((refl, tt), ((refl, tt), ((refl, tt), ((refl, tt), tt)))))) h
