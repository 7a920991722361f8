-- A line has one entry, and an entry one line.
use Rattle.std.proofs.Common.{◌≡◌, ◌∙◌, sym, ap, refl, inl, inr, ℕ, ◌-◌, ◌<◌, ◌≤◌, ◌^◌, List, [], ◌∷◌, ◌++◌, true, false, Some, None, All, get_or, append_assoc, append-nil, arith}
use Rattle.std.specs.Prelude.{option_map, bytes_eq, codes, decimal, nat_le, ◌==◌}
use Rattle.std.specs.List.{list_all, slice_split, join_with_byte}
use Rattle.std.specs.Str.{all_ascii_digits}
use Rattle.std.proofs.lemmas.Bool.{and_parts, leb-true, ne_eqb}
use Rattle.std.proofs.lemmas.List.Elements.{All-cons, All-nil, All-append}
use Rattle.std.proofs.lemmas.List.Splits.{slice_split_at, slice_split_none, join_with_byte-slice_split}
use Rattle.std.proofs.lemmas.Fmt.{digits_decimal}
use Rattle.hex.specs.Hex.{encode_lower}
use Rattle.record_batch.specs.declared.refusal.BatchRefusal.{BatchRefusal}
use Rattle.record_batch.specs.declared.refusal.BatchRefusal.TheVariants as cause
use Rattle.tier_base.specs.declared.names.SegmentId.{SegmentId}
use Rattle.tier_base.specs.declared.object_key.ObjectKey.{ObjectKey}
use Rattle.tier_base.specs.declared.plain.FileName.{FileName}
use Rattle.tier_base.specs.declared.plain.FileName.TheVariants as file
use Rattle.tier_base.specs.declared.plain.Part.{Part}
use Rattle.tier_base.specs.declared.plain.Part.TheVariants as part
use Rattle.tier_base.specs.declared.plain.State.{State}
use Rattle.tier_base.specs.declared.plain.State.TheVariants as state
use Rattle.tier_base.specs.declared.plain.Stop.{Stop}
use Rattle.tier_base.specs.declared.plain.Stop.TheVariants as stop
use Rattle.tier_base.specs.Key.{IsKey, id_text, key_text, part_text}
use Rattle.tier_base.proofs.Digits.{own}
use Rattle.plain_log.specs.declared.answer.Answer.{Answer}
use Rattle.plain_log.specs.declared.answer.Answer.TheVariants as answer
use Rattle.plain_log.specs.declared.answer.Place.{Place}
use Rattle.plain_log.specs.declared.answer.Place.TheVariants as place
use Rattle.plain_log.specs.declared.answer.Tier.{Tier}
use Rattle.plain_log.specs.declared.answer.Tier.TheVariants as tier
use Rattle.plain_log.specs.declared.journal.Event.{Event}
use Rattle.plain_log.specs.declared.journal.Event.TheVariants.{Begins, Answers}
use Rattle.plain_log.specs.declared.journal.JournalEntry.{JournalEntry}
use Rattle.trace_text.specs.declared.line.Line.{Line}
use Rattle.trace_text.specs.Names.{padded, file_name_text, state_text, stop_text, cause_name, cause_numbers}
use Rattle.trace_text.specs.Trace.{place_text, tier_words, name_of, fields_of, event_words, spaced, entry_line}
use Rattle.trace_text.specs.Entries.{Fits64, IsCause, IsFileName, IsPlace, IsTier, AreRunBytes, IsAnswer, IsEvent, IsEntry}
use Rattle.trace_text.specs.Fields.{◌>>=◌, number_in, count_in}
use Rattle.trace_text.specs.Reading.{answer_in, begun_in, event_in, headed_in, words_in, line_in}
use Rattle.trace_text.proofs.Readings.{bind-some, if-some, either-some, map-some, text-is, Each}
use Rattle.trace_text.proofs.Spelled.{numbers}
use Rattle.trace_text.proofs.Hex.{hex-low}
use Rattle.trace_text.proofs.Padded.{padded-digits}
use Rattle.trace_text.proofs.Places.{counts, digit-range, id-chars, Lacks}
use Rattle.trace_text.proofs.Answered.{answer-sound, answer-complete, small_counts}

-- each byte is above the space
abbrev pub IsWord : List ℕ → Type 0
IsWord word = All (λ b. 33 ≤ b) word

word-test : (word : List ℕ) → list_all (λ b. nat_le 33 b) word ≡ true → IsWord word
word-test [] h = All-nil (λ b. 33 ≤ b)
word-test (b ∷ word) h =
    let parts = and_parts (nat_le 33 b) (list_all (λ c. nat_le 33 c) word) h in
    All-cons (λ c. 33 ≤ c) b word (leb-true 33 b parts.0) (word-test word parts.1)

word-lacks : (c : ℕ) (word : List ℕ) → c < 33 → IsWord word → Lacks c word
word-lacks c word below h k d within =
    let above = h k d within in
    ne_eqb (get_or word k d) c (λ e. omega (arith, above, e))

digits-word : (ds : List ℕ) → all_ascii_digits ds ≡ true → IsWord ds
digits-word ds h k d within = let range = digit-range ds h k d within in omega (arith, range.0)

decimal-word : (n : ℕ) → n < 2 ^ 64 → IsWord (decimal n)
decimal-word n small = digits-word (decimal n) (digits_decimal own n small)

id-word : (id : SegmentId) → IsWord (id_text id)
id-word id k d within = let char = id-chars id k d within in omega (arith, char.0)

part-test : (p : Part) → list_all (λ b. nat_le 33 b) (part_text p) ≡ true
part-test part.Log = refl
part-test other = refl

key-word : (key : ObjectKey) → IsKey key → IsWord (key_text key)
unfolding key_text
key-word key is =
    All-append (λ b. 33 ≤ b) (decimal key.partition.0) (codes "/" ++ (id_text key.id ++ part_text key.part))
    (decimal-word key.partition.0 (omega (arith, is.partition)))
    (All-cons (λ b. 33 ≤ b) 47 (id_text key.id ++ part_text key.part) (omega arith)
    (All-append (λ b. 33 ≤ b) (id_text key.id) (part_text key.part) (id-word key.id) (word-test (part_text key.part) (part-test key.part))))

file-word : (name : FileName) → IsFileName name → IsWord (file_name_text name)
file-word (file.Log base) is =
    All-append (λ b. 33 ≤ b) (padded base) (codes ".log") (digits-word (padded base) (padded-digits base is)) (word-test (codes ".log") refl)
file-word file.Manifest is = word-test (codes "manifest") refl
file-word file.Notes is = word-test (codes "notes") refl
file-word file.Gate is = word-test (codes "gate") refl
file-word file.Registry is = word-test (codes "registry") refl

place-word : (p : Place) → IsPlace p → IsWord (place_text p)
place-word (place.Key key) is = key-word key is
place-word (place.File name) is = file-word name is
place-word place.Meta is = word-test (codes "meta") refl

state-test : (s : State) → list_all (λ b. nat_le 33 b) (state_text s) ≡ true
state-test state.CopyStarted = refl
state-test other = refl

stop-test : (s : Stop) → list_all (λ b. nat_le 33 b) (stop_text s) ≡ true
stop-test stop.Mark = refl
stop-test other = refl

cause-test : (c : BatchRefusal) → list_all (λ b. nat_le 33 b) (cause_name c) ≡ true
cause-test cause.Short = refl
cause-test other = refl

cause-words : (c : BatchRefusal) → IsCause c → Each IsWord (cause_numbers c)
cause-words (cause.BadCrc kept computed) is = (decimal-word kept (omega (arith, is.0)), (decimal-word computed (omega (arith, is.1)), tt))
cause-words (cause.BadRecords at) is = (decimal-word at (omega (arith, is)), tt)
cause-words other is = tt

name-test : (a : Answer) → list_all (λ b. nat_le 33 b) (name_of a) ≡ true
name-test answer.Ok = refl
name-test other = refl

run-words : (t : Tier) (size : ℕ) (s : Stop) (bytes : List ℕ) → IsTier t → Fits64 size → AreRunBytes bytes
    → Each IsWord (tier_words t ++ decimal size ∷ stop_text s ∷ encode_lower bytes ∷ [])
run-words (tier.Local base) size s bytes is fits are =
    (word-test (codes "local") refl, (decimal-word base is, (decimal-word size fits, (word-test (stop_text s) (stop-test s), (hex-low bytes are, tt)))))
run-words (tier.Remote id) size s bytes is fits are =
    (word-test (codes "remote") refl, (id-word id, (decimal-word size fits, (word-test (stop_text s) (stop-test s), (hex-low bytes are, tt)))))

fields-words : (a : Answer) → IsAnswer a → Each IsWord (fields_of a)
fields-words (answer.OkAt n) is = (decimal-word n is, tt)
fields-words (answer.DiskFaultAt n) is = (decimal-word n is, tt)
fields-words (answer.Follows n) is = (decimal-word n is, tt)
fields-words (answer.NeedsElection n) is = (decimal-word n is, tt)
fields-words (answer.Leads n) is = (decimal-word n is, tt)
fields-words (answer.StaleEpoch n) is = (decimal-word n is, tt)
fields-words (answer.Cut n) is = (decimal-word n is, tt)
fields-words (answer.Passed n) is = (decimal-word n is, tt)
fields-words (answer.BelowStart n) is = (decimal-word n is, tt)
fields-words (answer.Rebuilt n) is = (decimal-word n is, tt)
fields-words (answer.Moved n) is = (decimal-word n is, tt)
fields-words (answer.Copied n) is = (decimal-word n is, tt)
fields-words (answer.Raised n) is = (decimal-word n is, tt)
fields-words (answer.NotAbove n) is = (decimal-word n is, tt)
fields-words (answer.AboveMark n) is = (decimal-word n is, tt)
fields-words (answer.Up n) is = (decimal-word n is, tt)
fields-words (answer.Offset n) is = (decimal-word n is, tt)
fields-words (answer.BehindStart m n) is = (decimal-word m is.0, (decimal-word n is.1, tt))
fields-words (answer.Behind m n) is = (decimal-word m is.0, (decimal-word n is.1, tt))
fields-words (answer.Dropped m n) is = (decimal-word m is.0, (decimal-word n is.1, tt))
fields-words (answer.OutOfRange m n) is = (decimal-word m is.0, (decimal-word n is.1, tt))
fields-words (answer.OkSpan base last epoch) is = (decimal-word base is.0, (decimal-word last is.1, (decimal-word epoch is.2, tt)))
fields-words (answer.Refused c) is = (word-test (cause_name c) (cause-test c), cause-words c is)
fields-words (answer.Damaged p at) is = (place-word p is.0, (decimal-word at is.1, tt))
fields-words (answer.CopiedSegment id start last) is = (id-word id, (decimal-word start is.1, (decimal-word last is.2, tt)))
fields-words (answer.Overtaken s) is = (word-test (state_text s) (state-test s), tt)
fields-words (answer.Deleted id) is = (id-word id, tt)
fields-words (answer.Run t size s bytes) is = run-words t size s bytes is.0 is.1 is.2
fields-words other is = tt

events-words : (event : Event) → IsEvent event → Each IsWord (event_words event)
events-words (Begins None) is = (word-test (codes "begin") refl, tt)
events-words (Begins (Some end)) is = (word-test (codes "begin") refl, (word-test (codes "cut") refl, (decimal-word end is, tt)))
events-words (Answers a) is = (word-test (codes "=") refl, (word-test (name_of a) (name-test a), fields-words a is))

-- words, and the text that they make
join-spaced : (word : List ℕ) (words : List (List ℕ)) → join_with_byte 32 (word ∷ words) ≡ word ++ spaced words
join-spaced word [] = sym (append-nil word)
join-spaced word (next ∷ words) = ap (λ (t : List ℕ). word ++ 32 ∷ t) (join-spaced next words)

split-spaced : (word : List ℕ) (words : List (List ℕ)) → IsWord word → Each IsWord words → slice_split (λ b. b == 32) (word ++ spaced words) ≡ word ∷ words
split-spaced word [] is each = ap (slice_split (λ b. b == 32)) (append-nil word) ∙ slice_split_none (λ b. b == 32) word (word-lacks 32 word (omega arith) is)
split-spaced word (next ∷ words) is each =
    slice_split_at (λ b. b == 32) word 32 (next ++ spaced words) (word-lacks 32 word (omega arith) is) refl
    ∙ ap (λ (t : List (List ℕ)). word ∷ t) (split-spaced next words each.0 each.1)

spaced-lacks : (words : List (List ℕ)) → Each IsWord words → Lacks 10 (spaced words)
spaced-lacks [] each = All-nil (λ b. (b == 10) ≡ false)
spaced-lacks (word ∷ words) each =
    All-cons (λ b. (b == 10) ≡ false) 32 (word ++ spaced words) refl
    (All-append (λ b. (b == 10) ≡ false) word (spaced words) (word-lacks 10 word (omega arith) each.0) (spaced-lacks words each.1))

-- a line without its LF
abbrev pub body : ℕ → JournalEntry → List ℕ
body partition entry = decimal partition ++ spaced (decimal entry.actor.0 ∷ decimal entry.number ∷ event_words entry.event)

tail-words : (entry : JournalEntry) → IsEntry entry → Each IsWord (decimal entry.actor.0 ∷ decimal entry.number ∷ event_words entry.event)
tail-words entry is = (decimal-word entry.actor.0 (omega (arith, is.actor)), (decimal-word entry.number (omega (arith, is.number)), events-words entry.event is.event))

pub body-lacks : (partition : ℕ) (entry : JournalEntry) → partition < 2 ^ 16 → IsEntry entry → Lacks 10 (body partition entry)
body-lacks partition entry small is =
    let tail = decimal entry.actor.0 ∷ decimal entry.number ∷ event_words entry.event in
    All-append (λ b. (b == 10) ≡ false) (decimal partition) (spaced tail)
    (word-lacks 10 (decimal partition) (omega arith) (decimal-word partition (omega (arith, small)))) (spaced-lacks tail (tail-words entry is))

event-complete : (event : Event) → IsEvent event → event_in (event_words event) ≡ Some event
event-complete (Begins None) is = refl
event-complete (Begins (Some end)) is = rw (counts.complete end is) refl
event-complete (Answers a) is = rw (answer-complete a is) refl

-- an entry's line is read back
pub line-complete : (partition : ℕ) (entry : JournalEntry) → partition < 2 ^ 16 → IsEntry entry
    → line_in (body partition entry) ≡ Some (record { partition = record { 0 = partition }; entry = entry })
unfolding line_in headed_in
line-complete partition entry small is =
    let tail = decimal entry.actor.0 ∷ decimal entry.number ∷ event_words entry.event in
    let split = split-spaced (decimal partition) tail (decimal-word partition (omega (arith, small))) (tail-words entry is) in
    let p = (numbers 65535 (omega arith)).complete partition (omega (arith, small)) in
    let a = (numbers 65535 (omega arith)).complete entry.actor.0 (omega (arith, is.actor)) in
    let n = small_counts.complete entry.number is.number in
    rw (split, p, a, n, event-complete entry.event is.event) refl

-- what is read of an event
record IsEventOf (words : List (List ℕ)) (event : Event) : Type 0 where
  is : IsEvent event
  same : event_words event ≡ words

begun-sound : (words : List (List ℕ)) (event : Event) → begun_in words ≡ Some event → IsEventOf (codes "begin" ∷ words) event
begun-sound [] event h = let same : Begins None ≡ event = cc h in rw (← same) (record { is = tt; same = refl })
begun-sound (a ∷ []) event h = cc h
begun-sound (a ∷ b ∷ []) event h =
    let tested = if-some (bytes_eq a (codes "cut")) (count_in b >>= λ n. Some (Begins (Some n))) event h in
    let n = bind-some (count_in b) (λ m. Some (Begins (Some m))) event tested.1 in
    let sound = counts.sound b n.0 n.1 in
    let same : Begins (Some n.0) ≡ event = cc n.2 in
    rw (← same) (record { is = sound.0; same = rw (sound.1, text-is a (codes "cut") tested.0) refl })
begun-sound (a ∷ b ∷ c ∷ words) event h = cc h

event-sound : (words : List (List ℕ)) (event : Event) → event_in words ≡ Some event → IsEventOf words event
event-sound [] event h = cc h
event-sound (first ∷ words) event h =
    elim (either-some (bytes_eq first (codes "=")) (option_map Answers (answer_in words)) _ event h) [
      | inl answered ↦
          let a = map-some Answers (answer_in words) event answered.1 in
          let sound = answer-sound words a.0 a.1 in
          rw (← a.2) (record { is = sound.is; same = rw (sound.same, text-is first (codes "=") answered.0) refl })
      | inr other ↦
          let begins = if-some (bytes_eq first (codes "begin")) (begun_in words) event other in
          rw (text-is first (codes "begin") begins.0) (begun-sound words event begins.1)
    ]

-- the text is the line of this entry
pub record IsLineOf (text : List ℕ) (line : Line) : Type 0 where
  pub partition : line.partition.0 < 2 ^ 16
  pub entry : IsEntry line.entry
  pub same : body line.partition.0 line.entry ≡ text

words-sound : (words : List (List ℕ)) (text : List ℕ) (line : Line) → join_with_byte 32 words ≡ text → words_in words ≡ Some line → IsLineOf text line
unfolding headed_in
words-sound [] text line joined h = cc h
words-sound (a ∷ []) text line joined h = cc h
words-sound (a ∷ b ∷ []) text line joined h = cc h
words-sound (a ∷ b ∷ c ∷ words) text line joined h =
    let p = bind-some (number_in 65535 a) _ line h in
    let q = bind-some (number_in 65535 b) _ line p.2 in
    let n = bind-some (number_in (2 ^ 32 - 1) c) _ line q.2 in
    let e = bind-some (event_in words) _ line n.2 in
    let partition = (numbers 65535 (omega arith)).sound a p.0 p.1 in
    let actor = (numbers 65535 (omega arith)).sound b q.0 q.1 in
    let number = small_counts.sound c n.0 n.1 in
    let event = event-sound words e.0 e.1 in
    let same : ◌≡◌ {A = Line} (record { partition = record { 0 = p.0 }; entry = record { actor = record { 0 = q.0 }; number = n.0; event = e.0 } }) line = cc e.2 in
    let small : p.0 < 2 ^ 16 = omega (arith, partition.0) in
    let low : q.0 < 2 ^ 16 = omega (arith, actor.0) in
    let text_is : decimal p.0 ++ spaced (decimal q.0 ∷ decimal n.0 ∷ event_words e.0) ≡ text
    = rw (partition.1, actor.1, number.1, event.same) (sym (join-spaced a (b ∷ c ∷ words)) ∙ joined) in
    rw (← same) (record { partition = small; entry = record { actor = low; number = number.0; event = event.is }; same = text_is })

-- what is read of a line is the entry whose line it is
pub line-sound : (text : List ℕ) (line : Line) → line_in text ≡ Some line → IsLineOf text line
unfolding line_in
line-sound text line h = words-sound (slice_split (λ b. b == 32) text) text line (join_with_byte-slice_split 32 text) h

-- a line, and what follows it
pub line-behind : (partition : ℕ) (entry : JournalEntry) (rest : List ℕ) → entry_line partition entry ++ rest ≡ body partition entry ++ 10 ∷ rest
unfolding entry_line
line-behind partition entry rest =
    let tail = spaced (decimal entry.actor.0 ∷ decimal entry.number ∷ event_words entry.event) in
    simp append_assoc

cons-parts : {A : Type 0} (a b : A) (xs ys : List A) → a ∷ xs ≡ b ∷ ys → (a ≡ b) × (xs ≡ ys)
cons-parts a b xs ys h = (cc h, cc h)

-- a text begins with one line
pub front-same : (text behind : List ℕ) (partition : ℕ) (entry : JournalEntry) (rest : List ℕ) → Lacks 10 text → partition < 2 ^ 16 → IsEntry entry
    → text ++ 10 ∷ behind ≡ entry_line partition entry ++ rest → (text ≡ body partition entry) × (behind ≡ rest)
front-same text behind partition entry rest lacks small is e =
    let one = slice_split_at (λ b. b == 10) text 10 behind lacks refl in
    let two = slice_split_at (λ b. b == 10) (body partition entry) 10 rest (body-lacks partition entry small is) refl in
    let both : text ∷ slice_split (λ b. b == 10) behind ≡ body partition entry ∷ slice_split (λ b. b == 10) rest
    = sym one ∙ ap (slice_split (λ b. b == 10)) (e ∙ line-behind partition entry rest) ∙ two in
    let parts = cons-parts text (body partition entry) (slice_split (λ b. b == 10) behind) (slice_split (λ b. b == 10) rest) both in
    (parts.0, sym (join_with_byte-slice_split 10 behind) ∙ ap (join_with_byte 10) parts.1 ∙ join_with_byte-slice_split 10 rest)
