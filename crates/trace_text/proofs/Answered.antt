-- An answer has one list of words, and these have its reading.
use Rattle.std.proofs.Common.{◌≡◌, refl, inl, inr, ℕ, ◌-◌, ◌^◌, List, [], ◌∷◌, ◌++◌, false, Some, arith}
use Rattle.std.specs.Prelude.{option_map, bytes_eq, codes, decimal}
use Rattle.hex.specs.Hex.{encode_lower}
use Rattle.record_batch.specs.declared.refusal.BatchRefusal.{BatchRefusal}
use Rattle.record_batch.specs.declared.refusal.BatchRefusal.TheVariants as cause
use Rattle.plain_log.specs.declared.answer.Answer.{Answer}
use Rattle.plain_log.specs.declared.answer.Answer.TheVariants as answer
use Rattle.plain_log.specs.declared.answer.Tier.{Tier}
use Rattle.plain_log.specs.declared.answer.Tier.TheVariants as tier
use Rattle.trace_text.specs.Names.{stop_text, cause_name, cause_numbers}
use Rattle.trace_text.specs.Trace.{tier_words, name_of, fields_of}
use Rattle.trace_text.specs.Entries.{Fits64, Fits32, IsCause, IsTier, AreRunBytes, IsAnswer}
use Rattle.trace_text.specs.Fields.{◌>>=◌, number_in, count_in, id_in, place_in, state_in, stop_in, cause_in, tier_in, bytes_in}
use Rattle.trace_text.specs.Reading.{bare_answers, counted_answers, paired_answers, bare_in, counted_in, paired_in, one_in, bad_records_in, damaged_in, two_in, bad_crc_in, copied_in, span_in, three_in, plain_in, run_of, run_in, answer_in}
use Rattle.trace_text.proofs.Readings.{bind-some, if-some, either-some, map-some, named-some, text-is}
use Rattle.trace_text.proofs.Spelled.{Spells, numbers, ids, states, stops, cause-sound}
use Rattle.trace_text.proofs.Hex.{hex_runs}
use Rattle.trace_text.proofs.Places.{places, counts, tier-sound, tier-complete-local, tier-complete-remote}

-- these words are those of the answer, whose fields fit
pub record HasWords (words : List (List ℕ)) (a : Answer) : Type 0 where
  pub is : IsAnswer a
  pub same : name_of a ∷ fields_of a ≡ words

-- 32 bits
pub small_counts : Spells decimal Fits32 (number_in (2 ^ 32 - 1))
small_counts = record {
  complete = λ n fits. (numbers (2 ^ 32 - 1) (omega arith)).complete n (omega (arith, fits));
  sound = λ word n h. let read = (numbers (2 ^ 32 - 1) (omega arith)).sound word n h in (omega (arith, read.0), read.1);
}

-- the answers without fields
bare-sound : (name : List ℕ) (a : Answer) → bare_in name ≡ Some a → HasWords (name ∷ []) a
unfolding bare_in
bare-sound name a h =
    let found = named-some (λ x. (fields_of x ≡ []) × IsAnswer x) name_of name bare_answers a
    ((refl, tt), ((refl, tt), ((refl, tt), ((refl, tt), ((refl, tt), ((refl, tt), ((refl, tt), ((refl, tt), ((refl, tt), ((refl, tt), ((refl, tt), ((refl, tt), ((refl, tt), ((refl, tt), ((refl, tt), ((refl, tt), ((refl, tt), ((refl, tt), ((refl, tt), ((refl, tt), ((refl, tt), ((refl, tt), ((refl, tt), ((refl, tt), ((refl, tt), ((refl, tt), tt))))))))))))))))))))))))))
    h in
    record { is = found.1.1; same = rw (found.0, found.1.0) refl }

-- the answers of one number
counted-sound : (name word : List ℕ) (n : ℕ) (a : Answer) → Fits64 n → decimal n ≡ word → counted_in name n ≡ Some a → HasWords (name ∷ word ∷ []) a
unfolding counted_in
counted-sound name word n a fits text h =
    let found = named-some (λ x. (fields_of x ≡ decimal n ∷ []) × IsAnswer x) name_of name (counted_answers n) a
    ((refl, fits), ((refl, fits), ((refl, fits), ((refl, fits), ((refl, fits), ((refl, fits), ((refl, fits), ((refl, fits), ((refl, fits), ((refl, fits), ((refl, fits), ((refl, fits), ((refl, fits), ((refl, fits), ((refl, fits), ((refl, fits), ((refl, fits), tt))))))))))))))))) h in
    record { is = found.1.1; same = rw (found.0, found.1.0, text) refl }

-- the answers of two numbers
paired-sound : (name a b : List ℕ) (m n : ℕ) (x : Answer) → Fits64 m → Fits64 n → decimal m ≡ a → decimal n ≡ b → paired_in name m n ≡ Some x → HasWords (name ∷ a ∷ b ∷ []) x
unfolding paired_in
paired-sound name a b m n x mfits nfits atext btext h =
    let found = named-some (λ y. (fields_of y ≡ decimal m ∷ decimal n ∷ []) × IsAnswer y) name_of name (paired_answers m n) x
    ((refl, (mfits, nfits)), ((refl, (mfits, nfits)), ((refl, (mfits, nfits)), ((refl, (mfits, nfits)), tt)))) h in
    record { is = found.1.1; same = rw (found.0, found.1.0, atext, btext) refl }

one-sound : (name word : List ℕ) (a : Answer) → one_in name word ≡ Some a → HasWords (name ∷ word ∷ []) a
unfolding one_in
one-sound name word a h =
    elim (either-some (bytes_eq name (codes "Refused")) (option_map answer.Refused (cause_in word)) _ a h) [
      | inl refused ↦
          let c = map-some answer.Refused (cause_in word) a refused.1 in
          let sound = cause-sound word c.0 c.1 in
          rw (← c.2) (record { is = sound.1.1; same = rw (sound.0, sound.1.0, text-is name (codes "Refused") refused.0) refl })
      | inr other ↦ elim (either-some (bytes_eq name (codes "Overtaken")) (option_map answer.Overtaken (state_in word)) _ a other) [
        | inl overtaken ↦
            let s = map-some answer.Overtaken (state_in word) a overtaken.1 in
            let sound = states.sound word s.0 s.1 in
            rw (← s.2) (record { is = tt; same = rw (sound.1, text-is name (codes "Overtaken") overtaken.0) refl })
        | inr more ↦ elim (either-some (bytes_eq name (codes "Deleted")) (option_map answer.Deleted (id_in word)) _ a more) [
          | inl deleted ↦
              let i = map-some answer.Deleted (id_in word) a deleted.1 in
              let sound = ids.sound word i.0 i.1 in
              rw (← i.2) (record { is = sound.0; same = rw (sound.1, text-is name (codes "Deleted") deleted.0) refl })
          | inr number ↦
              let n = bind-some (count_in word) (λ m. counted_in name m) a number in
              let sound = counts.sound word n.0 n.1 in
              counted-sound name word n.0 a sound.0 sound.1 n.2
        ]
      ]
    ]

bad-records-sound : (name at : List ℕ) (a : Answer) → bad_records_in name at ≡ Some a → HasWords (codes "Refused" ∷ name ∷ at ∷ []) a
unfolding bad_records_in
bad-records-sound name at a h =
    let tested = if-some (bytes_eq name (codes "BadRecords")) (number_in (2 ^ 32 - 1) at >>= λ n. Some (answer.Refused (cause.BadRecords n))) a h in
    let n = bind-some (number_in (2 ^ 32 - 1) at) (λ m. Some (answer.Refused (cause.BadRecords m))) a tested.1 in
    let sound = small_counts.sound at n.0 n.1 in
    let same : answer.Refused (cause.BadRecords n.0) ≡ a = cc n.2 in
    rw (← same) (record { is = sound.0; same = rw (sound.1, text-is name (codes "BadRecords") tested.0) refl })

damaged-sound : (word at : List ℕ) (a : Answer) → damaged_in word at ≡ Some a → HasWords (codes "Damaged" ∷ word ∷ at ∷ []) a
unfolding damaged_in
damaged-sound word at a h =
    let p = bind-some (place_in word) (λ q. count_in at >>= λ n. Some (answer.Damaged q n)) a h in
    let n = bind-some (count_in at) (λ m. Some (answer.Damaged p.0 m)) a p.2 in
    let place = places.sound word p.0 p.1 in
    let number = counts.sound at n.0 n.1 in
    let same : answer.Damaged p.0 n.0 ≡ a = cc n.2 in
    rw (← same) (record { is = (place.0, number.0); same = rw (place.1, number.1) refl })

two-sound : (name a b : List ℕ) (x : Answer) → two_in name a b ≡ Some x → HasWords (name ∷ a ∷ b ∷ []) x
unfolding two_in
two-sound name a b x h =
    elim (either-some (bytes_eq name (codes "Refused")) (bad_records_in a b) _ x h) [
      | inl refused ↦ rw (text-is name (codes "Refused") refused.0) (bad-records-sound a b x refused.1)
      | inr other ↦ elim (either-some (bytes_eq name (codes "Damaged")) (damaged_in a b) _ x other) [
        | inl damaged ↦ rw (text-is name (codes "Damaged") damaged.0) (damaged-sound a b x damaged.1)
        | inr number ↦
            let m = bind-some (count_in a) (λ k. count_in b >>= λ n. paired_in name k n) x number in
            let n = bind-some (count_in b) (λ k. paired_in name m.0 k) x m.2 in
            let first = counts.sound a m.0 m.1 in
            let second = counts.sound b n.0 n.1 in
            paired-sound name a b m.0 n.0 x first.0 second.0 first.1 second.1 n.2
      ]
    ]

bad-crc-sound : (name kept computed : List ℕ) (a : Answer) → bad_crc_in name kept computed ≡ Some a → HasWords (codes "Refused" ∷ name ∷ kept ∷ computed ∷ []) a
unfolding bad_crc_in
bad-crc-sound name kept computed a h =
    let tested = if-some (bytes_eq name (codes "BadCrc")) _ a h in
    let k = bind-some (number_in (2 ^ 32 - 1) kept) (λ m. number_in (2 ^ 32 - 1) computed >>= λ c. Some (answer.Refused (cause.BadCrc m c))) a tested.1 in
    let c = bind-some (number_in (2 ^ 32 - 1) computed) (λ m. Some (answer.Refused (cause.BadCrc k.0 m))) a k.2 in
    let first = small_counts.sound kept k.0 k.1 in
    let second = small_counts.sound computed c.0 c.1 in
    let same : answer.Refused (cause.BadCrc k.0 c.0) ≡ a = cc c.2 in
    rw (← same) (record { is = (first.0, second.0); same = rw (first.1, second.1, text-is name (codes "BadCrc") tested.0) refl })

copied-sound : (word start last : List ℕ) (a : Answer) → copied_in word start last ≡ Some a → HasWords (codes "Copied" ∷ word ∷ start ∷ last ∷ []) a
unfolding copied_in
copied-sound word start last a h =
    let i = bind-some (id_in word) (λ k. count_in start >>= λ s. count_in last >>= λ l. Some (answer.CopiedSegment k s l)) a h in
    let s = bind-some (count_in start) (λ k. count_in last >>= λ l. Some (answer.CopiedSegment i.0 k l)) a i.2 in
    let l = bind-some (count_in last) (λ k. Some (answer.CopiedSegment i.0 s.0 k)) a s.2 in
    let id = ids.sound word i.0 i.1 in
    let first = counts.sound start s.0 s.1 in
    let second = counts.sound last l.0 l.1 in
    let same : answer.CopiedSegment i.0 s.0 l.0 ≡ a = cc l.2 in
    rw (← same) (record { is = (id.0, first.0, second.0); same = rw (id.1, first.1, second.1) refl })

span-sound : (base last epoch : List ℕ) (a : Answer) → span_in base last epoch ≡ Some a → HasWords (codes "Ok" ∷ base ∷ last ∷ epoch ∷ []) a
unfolding span_in
span-sound base last epoch a h =
    let b = bind-some (count_in base) (λ k. count_in last >>= λ l. count_in epoch >>= λ e. Some (answer.OkSpan k l e)) a h in
    let l = bind-some (count_in last) (λ k. count_in epoch >>= λ e. Some (answer.OkSpan b.0 k e)) a b.2 in
    let e = bind-some (count_in epoch) (λ k. Some (answer.OkSpan b.0 l.0 k)) a l.2 in
    let first = counts.sound base b.0 b.1 in
    let second = counts.sound last l.0 l.1 in
    let third = counts.sound epoch e.0 e.1 in
    let same : answer.OkSpan b.0 l.0 e.0 ≡ a = cc e.2 in
    rw (← same) (record { is = (first.0, second.0, third.0); same = rw (first.1, second.1, third.1) refl })

three-sound : (name a b c : List ℕ) (x : Answer) → three_in name a b c ≡ Some x → HasWords (name ∷ a ∷ b ∷ c ∷ []) x
unfolding three_in
three-sound name a b c x h =
    elim (either-some (bytes_eq name (codes "Refused")) (bad_crc_in a b c) _ x h) [
      | inl refused ↦ rw (text-is name (codes "Refused") refused.0) (bad-crc-sound a b c x refused.1)
      | inr other ↦ elim (either-some (bytes_eq name (codes "Copied")) (copied_in a b c) _ x other) [
        | inl copied ↦ rw (text-is name (codes "Copied") copied.0) (copied-sound a b c x copied.1)
        | inr more ↦
            let span = if-some (bytes_eq name (codes "Ok")) (span_in a b c) x more in
            rw (text-is name (codes "Ok") span.0) (span-sound a b c x span.1)
      ]
    ]

plain-sound : (name : List ℕ) (words : List (List ℕ)) (a : Answer) → plain_in name words ≡ Some a → HasWords (name ∷ words) a
plain-sound name [] x h = bare-sound name x h
plain-sound name (a ∷ []) x h = one-sound name a x h
plain-sound name (a ∷ b ∷ []) x h = two-sound name a b x h
plain-sound name (a ∷ b ∷ c ∷ []) x h = three-sound name a b c x h
plain-sound name (a ∷ b ∷ c ∷ d ∷ words) x h = cc h

run-of-sound : (t segment size stop hex : List ℕ) (a : Answer) → run_of t segment size stop hex ≡ Some a → HasWords (codes "Run" ∷ t ∷ segment ∷ size ∷ stop ∷ hex ∷ []) a
unfolding run_of
run-of-sound t segment size stop hex a h =
    let f = bind-some (tier_in t segment) (λ k. count_in size >>= λ n. stop_in stop >>= λ s. bytes_in hex >>= λ bytes. Some (answer.Run k n s bytes)) a h in
    let n = bind-some (count_in size) (λ k. stop_in stop >>= λ s. bytes_in hex >>= λ bytes. Some (answer.Run f.0 k s bytes)) a f.2 in
    let s = bind-some (stop_in stop) (λ k. bytes_in hex >>= λ bytes. Some (answer.Run f.0 n.0 k bytes)) a n.2 in
    let b = bind-some (bytes_in hex) (λ k. Some (answer.Run f.0 n.0 s.0 k)) a s.2 in
    let from = tier-sound t segment f.0 f.1 in
    let number = counts.sound size n.0 n.1 in
    let ends = stops.sound stop s.0 s.1 in
    let run = hex_runs.sound hex b.0 b.1 in
    let same : answer.Run f.0 n.0 s.0 b.0 ≡ a = cc b.2 in
    rw (← same) (record { is = (from.0, number.0, run.0); same = rw (from.1, number.1, ends.1, run.1) refl })

run-sound : (words : List (List ℕ)) (a : Answer) → run_in words ≡ Some a → HasWords (codes "Run" ∷ words) a
run-sound [] x h = cc h
run-sound (t ∷ []) x h = cc h
run-sound (t ∷ a ∷ []) x h = cc h
run-sound (t ∷ a ∷ b ∷ []) x h = cc h
run-sound (t ∷ a ∷ b ∷ c ∷ []) x h = cc h
run-sound (t ∷ a ∷ b ∷ c ∷ d ∷ []) x h = run-of-sound t a b c d x h
run-sound (t ∷ a ∷ b ∷ c ∷ d ∷ e ∷ words) x h = cc h

pub answer-sound : (words : List (List ℕ)) (a : Answer) → answer_in words ≡ Some a → HasWords words a
answer-sound [] a h = cc h
answer-sound (name ∷ words) a h =
    elim (either-some (bytes_eq name (codes "Run")) (run_in words) (plain_in name words) a h) [
      | inl run ↦ rw (text-is name (codes "Run") run.0) (run-sound words a run.1)
      | inr plain ↦ plain-sound name words a plain
    ]

-- the words of an answer have its reading
counted-complete : (name : List ℕ) (n : ℕ) (a : Answer) → Fits64 n → bytes_eq name (codes "Run") ≡ false → bytes_eq name (codes "Refused") ≡ false → bytes_eq name (codes "Overtaken") ≡ false → bytes_eq name (codes "Deleted") ≡ false
    → counted_in name n ≡ Some a → answer_in (name ∷ decimal n ∷ []) ≡ Some a
unfolding one_in
counted-complete name n a fits run refused overtaken deleted read = rw (run, refused, overtaken, deleted, counts.complete n fits) read

paired-complete : (name : List ℕ) (m n : ℕ) (a : Answer) → Fits64 m → Fits64 n → bytes_eq name (codes "Run") ≡ false → bytes_eq name (codes "Refused") ≡ false → bytes_eq name (codes "Damaged") ≡ false
    → paired_in name m n ≡ Some a → answer_in (name ∷ decimal m ∷ decimal n ∷ []) ≡ Some a
unfolding two_in
paired-complete name m n a mfits nfits run refused damaged read = rw (run, refused, damaged, counts.complete m mfits, counts.complete n nfits) read

cause-complete : (c : BatchRefusal) → IsCause c → answer_in (codes "Refused" ∷ cause_name c ∷ cause_numbers c) ≡ Some (answer.Refused c)
unfolding one_in two_in three_in bad_records_in bad_crc_in cause_in
cause-complete (cause.BadCrc kept computed) is = rw (small_counts.complete kept is.0, small_counts.complete computed is.1) refl
cause-complete (cause.BadRecords at) is = rw (small_counts.complete at is) refl
cause-complete other is = refl

run-complete : (t : Tier) (size : ℕ) (s : _) (bytes : List ℕ) → IsTier t → Fits64 size → AreRunBytes bytes
    → answer_in (codes "Run" ∷ (tier_words t ++ decimal size ∷ stop_text s ∷ encode_lower bytes ∷ [])) ≡ Some (answer.Run t size s bytes)
unfolding run_of
run-complete (tier.Local base) size s bytes is fits are =
    rw (tier-complete-local base is, counts.complete size fits, stops.complete s tt, hex_runs.complete bytes are) refl
run-complete (tier.Remote id) size s bytes is fits are =
    rw (tier-complete-remote id is, counts.complete size fits, stops.complete s tt, hex_runs.complete bytes are) refl

pub answer-complete : (a : Answer) → IsAnswer a → answer_in (name_of a ∷ fields_of a) ≡ Some a
unfolding bare_in counted_in paired_in one_in two_in three_in damaged_in copied_in span_in
answer-complete (answer.OkAt n) is = counted-complete (codes "Ok") n (answer.OkAt n) is refl refl refl refl refl
answer-complete (answer.DiskFaultAt n) is = counted-complete (codes "DiskFault") n (answer.DiskFaultAt n) is refl refl refl refl refl
answer-complete (answer.Follows n) is = counted-complete (codes "Follows") n (answer.Follows n) is refl refl refl refl refl
answer-complete (answer.NeedsElection n) is = counted-complete (codes "NeedsElection") n (answer.NeedsElection n) is refl refl refl refl refl
answer-complete (answer.Leads n) is = counted-complete (codes "Leads") n (answer.Leads n) is refl refl refl refl refl
answer-complete (answer.StaleEpoch n) is = counted-complete (codes "StaleEpoch") n (answer.StaleEpoch n) is refl refl refl refl refl
answer-complete (answer.Cut n) is = counted-complete (codes "Cut") n (answer.Cut n) is refl refl refl refl refl
answer-complete (answer.Passed n) is = counted-complete (codes "Passed") n (answer.Passed n) is refl refl refl refl refl
answer-complete (answer.BelowStart n) is = counted-complete (codes "BelowStart") n (answer.BelowStart n) is refl refl refl refl refl
answer-complete (answer.Rebuilt n) is = counted-complete (codes "Rebuilt") n (answer.Rebuilt n) is refl refl refl refl refl
answer-complete (answer.Moved n) is = counted-complete (codes "Moved") n (answer.Moved n) is refl refl refl refl refl
answer-complete (answer.Copied n) is = counted-complete (codes "Copied") n (answer.Copied n) is refl refl refl refl refl
answer-complete (answer.Raised n) is = counted-complete (codes "Raised") n (answer.Raised n) is refl refl refl refl refl
answer-complete (answer.NotAbove n) is = counted-complete (codes "NotAbove") n (answer.NotAbove n) is refl refl refl refl refl
answer-complete (answer.AboveMark n) is = counted-complete (codes "AboveMark") n (answer.AboveMark n) is refl refl refl refl refl
answer-complete (answer.Up n) is = counted-complete (codes "Up") n (answer.Up n) is refl refl refl refl refl
answer-complete (answer.Offset n) is = counted-complete (codes "Offset") n (answer.Offset n) is refl refl refl refl refl
answer-complete (answer.BehindStart m n) is = paired-complete (codes "BehindStart") m n (answer.BehindStart m n) is.0 is.1 refl refl refl refl
answer-complete (answer.Behind m n) is = paired-complete (codes "Behind") m n (answer.Behind m n) is.0 is.1 refl refl refl refl
answer-complete (answer.Dropped m n) is = paired-complete (codes "Dropped") m n (answer.Dropped m n) is.0 is.1 refl refl refl refl
answer-complete (answer.OutOfRange m n) is = paired-complete (codes "OutOfRange") m n (answer.OutOfRange m n) is.0 is.1 refl refl refl refl
answer-complete (answer.OkSpan base last epoch) is = rw (counts.complete base is.0, counts.complete last is.1, counts.complete epoch is.2) refl
answer-complete (answer.Refused c) is = cause-complete c is
answer-complete (answer.Damaged place at) is = rw (places.complete place is.0, counts.complete at is.1) refl
answer-complete (answer.CopiedSegment id start last) is = rw (ids.complete id is.0, counts.complete start is.1, counts.complete last is.2) refl
answer-complete (answer.Overtaken state) is = rw (states.complete state tt) refl
answer-complete (answer.Deleted id) is = rw (ids.complete id is) refl
answer-complete (answer.Run t size s bytes) is = run-complete t size s bytes is.0 is.1 is.2
answer-complete other is = refl
