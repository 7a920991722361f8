-- A trace is the text of one list of journals, and what is the text of journals has their reading.
use Rattle.std.proofs.Common.{◌≡◌, ◌∙◌, sym, ap, refl, ℕ, ◌<◌, ◌≤◌, ◌^◌, List, [], ◌∷◌, ◌++◌, cond, Option, Some, Result, Ok, Err, length, All, map, append_assoc, append-nil, length-append, arith}
use Rattle.std.specs.Prelude.{◌==◌}
use Rattle.std.proofs.lemmas.Bool.{ne_eqb}
use Rattle.std.proofs.lemmas.Bool.Decides.{Decides-eqb}
use Rattle.std.proofs.lemmas.List.Elements.{All-head, All-tail}
use Rattle.plain_log.specs.declared.journal.JournalEntry.{JournalEntry}
use Rattle.trace_text.specs.declared.line.Line.{Line}
use Rattle.trace_text.specs.declared.line.PartJournal.{PartJournal}
use Rattle.trace_text.specs.declared.refusal.TraceRefusal.{TraceRefusal}
use Rattle.trace_text.specs.declared.refusal.TraceRefusal.TheVariants.{Bad, NoMemory}
use Rattle.trace_text.specs.Trace.{entry_line, journal_text, trace_of}
use Rattle.trace_text.specs.Entries.{IsEntry}
use Rattle.trace_text.specs.Read.{told, IsJournalPart, MayFollow, ArePartitionsRising, AreParts, IsBadLine, ReadsTrace}
use Rattle.trace_text.specs.Laws.{ReadsAs}
use Rattle.trace_text.specs.Reading.{line_in}
use Rattle.trace_text.proofs.Readings.{Each}
use Rattle.trace_text.proofs.Lined.{body, body-lacks, line-complete, line-behind, front-same}

-- an entry, marked with its partition, and those of later lines
abbrev marked : ℕ → List JournalEntry → List (ℕ × JournalEntry) → List (ℕ × JournalEntry)
marked p [] later = later
marked p (e ∷ es) later = (p, e) ∷ marked p es later

-- the lines of parts
abbrev flat : List (ℕ × List JournalEntry) → List (ℕ × JournalEntry)
flat [] = []
flat (part ∷ parts) = marked part.0 part.1 (flat parts)

-- their text
abbrev text_of : List (ℕ × JournalEntry) → List ℕ
text_of [] = []
text_of (l ∷ ls) = entry_line l.0 l.1 ++ text_of ls

-- the line can be written and read back
abbrev IsLine : ℕ × JournalEntry → Type 0
IsLine l = (l.0 < 2 ^ 16) × IsEntry l.1

marked-text : (p : ℕ) (es : List JournalEntry) (later : List (ℕ × JournalEntry)) → text_of (marked p es later) ≡ journal_text p es ++ text_of later
marked-text p [] later = refl
marked-text p (e ∷ es) later = ap (λ (t : List ℕ). entry_line p e ++ t) (marked-text p es later) ∙ sym (append_assoc (entry_line p e) (journal_text p es) (text_of later))

flat-text : (parts : List (ℕ × List JournalEntry)) → text_of (flat parts) ≡ trace_of parts
flat-text [] = refl
flat-text (part ∷ parts) = marked-text part.0 part.1 (flat parts) ∙ ap (λ (t : List ℕ). journal_text part.0 part.1 ++ t) (flat-text parts)

marked-each : (p : ℕ) (es : List JournalEntry) (later : List (ℕ × JournalEntry)) → p < 2 ^ 16 → All IsEntry es → Each IsLine later → Each IsLine (marked p es later)
marked-each p [] later small all each = each
marked-each p (e ∷ es) later small all each = ((small, All-head IsEntry e es all), marked-each p es later small (All-tail IsEntry e es all) each)

flat-each : (parts : List (ℕ × List JournalEntry)) → All IsJournalPart parts → Each IsLine (flat parts)
flat-each [] all = tt
flat-each (part ∷ parts) all =
    let is = All-head IsJournalPart part parts all in
    marked-each part.0 part.1 (flat parts) is.partition is.each (flat-each parts (All-tail IsJournalPart part parts all))

-- no line is empty
some-line : (p : ℕ) (e : JournalEntry) (rest : List ℕ) → entry_line p e ++ rest ≡ [] → ⊥
some-line p e rest h =
    let size = ap (λ (t : List ℕ). length t) (sym (line-behind p e rest) ∙ h) in
    omega (arith, size, length-append (body p e) (10 ∷ rest))

same-some : (a b : Line) → ◌≡◌ {A = Option Line} (Some a) (Some b) → a ≡ b
same-some a b h = cc h

-- an entry has one line
same-entry : (x y : ℕ × JournalEntry) → IsLine x → IsLine y → body x.0 x.1 ≡ body y.0 y.1 → x ≡ y
same-entry x y isx isy same =
    let a : Line = record { partition = record { 0 = x.0 }; entry = x.1 } in
    let b : Line = record { partition = record { 0 = y.0 }; entry = y.1 } in
    let both = same-some a b (sym (line-complete x.0 x.1 isx.0 isx.1) ∙ (ap line_in same ∙ line-complete y.0 y.1 isy.0 isy.1)) in
    ap (λ (l : Line). (l.partition.0, l.entry)) both

-- lines whose text begins with that of others begin with them
record BeginsWith (xs ys : List (ℕ × JournalEntry)) (rest : List ℕ) : Type 0 where
  more : List (ℕ × JournalEntry)
  lines : xs ≡ ys ++ more
  text : text_of more ≡ rest

begins : (xs ys : List (ℕ × JournalEntry)) (rest : List ℕ) → Each IsLine xs → Each IsLine ys → text_of xs ≡ text_of ys ++ rest → BeginsWith xs ys rest
begins xs [] rest eachx eachy h = record { more = xs; lines = refl; text = h }
begins [] (y ∷ ys) rest eachx eachy h =
    absurd (some-line y.0 y.1 (text_of ys ++ rest) (sym (append_assoc (entry_line y.0 y.1) (text_of ys) rest) ∙ sym h))
begins (x ∷ xs) (y ∷ ys) rest eachx eachy h =
    let isx = eachx.0 in
    let isy = eachy.0 in
    let front = front-same (body x.0 x.1) (text_of xs) y.0 y.1 (text_of ys ++ rest) (body-lacks x.0 x.1 isx.0 isx.1) isy.0 isy.1
    (sym (line-behind x.0 x.1 (text_of xs)) ∙ (h ∙ append_assoc (entry_line y.0 y.1) (text_of ys) rest)) in
    let later = begins xs ys rest eachx.1 eachy.1 front.1 in
    let first = same-entry x y isx isy front.0 in
    record { more = later.more; lines = ap (λ (l : ℕ × JournalEntry). l ∷ xs) first ∙ ap (λ (t : List (ℕ × JournalEntry)). y ∷ t) later.lines; text = later.text }

-- the parts of lines
abbrev put_front : ℕ → JournalEntry → List (ℕ × List JournalEntry) → List (ℕ × List JournalEntry)
put_front p e [] = (p, e ∷ []) ∷ []
put_front p e (q ∷ qs) = cond (q.0 == p) ((p, e ∷ q.1) ∷ qs) ((p, e ∷ []) ∷ q ∷ qs)

abbrev grouped : List (ℕ × JournalEntry) → List (ℕ × List JournalEntry)
grouped [] = []
grouped (l ∷ ls) = put_front l.0 l.1 (grouped ls)

-- the first partition is above p
abbrev IsAbove : ℕ → List (ℕ × List JournalEntry) → Type 0
IsAbove p [] = Unit {0}
IsAbove p (q ∷ qs) = p < q.0

above : (part : ℕ × List JournalEntry) (parts : List (ℕ × List JournalEntry)) → ArePartitionsRising (part ∷ parts) → IsAbove part.0 parts
above part [] rising = tt
above part (next ∷ parts) rising = rising.0

rising-tail : (part : ℕ × List JournalEntry) (parts : List (ℕ × List JournalEntry)) → ArePartitionsRising (part ∷ parts) → ArePartitionsRising parts
rising-tail part [] rising = tt
rising-tail part (next ∷ parts) rising = rising.1

put-new-front : (p : ℕ) (e : JournalEntry) (parts : List (ℕ × List JournalEntry)) → IsAbove p parts → put_front p e parts ≡ (p, e ∷ []) ∷ parts
put-new-front p e [] is = refl
put-new-front p e (q ∷ qs) is = rw (ne_eqb q.0 p (λ h. omega (arith, h, is))) refl

put-same-front : (p : ℕ) (e : JournalEntry) (es : List JournalEntry) (parts : List (ℕ × List JournalEntry)) → put_front p e ((p, es) ∷ parts) ≡ (p, e ∷ es) ∷ parts
put-same-front p e es parts = rw ((Decides-eqb p p).1 refl) refl

grouped-marked : (p : ℕ) (es : List JournalEntry) (later : List (ℕ × JournalEntry)) (parts : List (ℕ × List JournalEntry)) → 1 ≤ length es → IsAbove p parts → grouped later ≡ parts → grouped (marked p es later) ≡ (p, es) ∷ parts
grouped-marked p [] later parts some is h = absurd (omega (arith, some))
grouped-marked p (e ∷ []) later parts some is h = ap (put_front p e) h ∙ put-new-front p e parts is
grouped-marked p (e ∷ f ∷ es) later parts some is h =
    ap (put_front p e) (grouped-marked p (f ∷ es) later parts (omega arith) is h) ∙ put-same-front p e (f ∷ es) parts

grouped-flat : (parts : List (ℕ × List JournalEntry)) → AreParts parts → grouped (flat parts) ≡ parts
grouped-flat [] are = refl
grouped-flat (part ∷ parts) are =
    let is = All-head IsJournalPart part parts are.each in
    grouped-marked part.0 part.1 (flat parts) parts is.some (above part parts are.rising)
    (grouped-flat parts (record { rising = rising-tail part parts are.rising; each = All-tail IsJournalPart part parts are.each }))

no-text : (ls : List (ℕ × JournalEntry)) → text_of ls ≡ [] → ls ≡ []
no-text [] h = refl
no-text (l ∷ ls) h = absurd (some-line l.0 l.1 (text_of ls) h)

-- a trace is the text of one list of journals
pub one-text : (a b : List (ℕ × List JournalEntry)) → AreParts a → AreParts b → trace_of a ≡ trace_of b → a ≡ b
one-text a b area areb same =
    let begin = begins (flat a) (flat b) [] (flat-each a area.each) (flat-each b areb.each) (flat-text a ∙ (same ∙ (sym (flat-text b) ∙ sym (append-nil (text_of (flat b)))))) in
    let lines : flat a ≡ flat b = begin.lines ∙ (ap (λ (t : List (ℕ × JournalEntry)). flat b ++ t) (no-text begin.more begin.text) ∙ append-nil (flat b)) in
    sym (grouped-flat a area) ∙ (ap grouped lines ∙ grouped-flat b areb)

-- no line is of a lower partition than the one before
abbrev AreSorted : List (ℕ × JournalEntry) → Type 0
AreSorted [] = Unit {0}
AreSorted (x ∷ []) = Unit {0}
AreSorted (x ∷ y ∷ ls) = (x.0 ≤ y.0) × AreSorted (y ∷ ls)

-- nor is the first
abbrev FrontIs : ℕ → List (ℕ × JournalEntry) → Type 0
FrontIs p [] = Unit {0}
FrontIs p (l ∷ ls) = p ≤ l.0

front-marked : (p q : ℕ) (es : List JournalEntry) (later : List (ℕ × JournalEntry)) → p < q → 1 ≤ length es → FrontIs p (marked q es later)
front-marked p q [] later h some = absurd (omega (arith, some))
front-marked p q (e ∷ es) later h some = omega (arith, h)

front-flat : (p : ℕ) (parts : List (ℕ × List JournalEntry)) → All IsJournalPart parts → IsAbove p parts → FrontIs p (flat parts)
front-flat p [] all is = tt
front-flat p (q ∷ qs) all is = front-marked p q.0 q.1 (flat qs) is (All-head IsJournalPart q qs all).some

marked-sorted : (p : ℕ) (es : List JournalEntry) (later : List (ℕ × JournalEntry)) → FrontIs p later → AreSorted later → AreSorted (marked p es later)
marked-sorted p [] later front sorted = sorted
marked-sorted p (e ∷ []) [] front sorted = tt
marked-sorted p (e ∷ []) (l ∷ ls) front sorted = (front, sorted)
marked-sorted p (e ∷ f ∷ es) later front sorted = (omega arith, marked-sorted p (f ∷ es) later front sorted)

flat-sorted : (parts : List (ℕ × List JournalEntry)) → AreParts parts → AreSorted (flat parts)
flat-sorted [] are = tt
flat-sorted (part ∷ parts) are =
    let later = All-tail IsJournalPart part parts are.each in
    marked-sorted part.0 part.1 (flat parts) (front-flat part.0 parts later (above part parts are.rising))
    (flat-sorted parts (record { rising = rising-tail part parts are.rising; each = later }))

sorted-tail : (x : ℕ × JournalEntry) (ls : List (ℕ × JournalEntry)) → AreSorted (x ∷ ls) → AreSorted ls
sorted-tail x [] sorted = tt
sorted-tail x (y ∷ ls) sorted = sorted.1

sorted-behind : (p : ℕ) (es : List JournalEntry) (later more : List (ℕ × JournalEntry)) → AreSorted (marked p es later ++ more) → AreSorted (later ++ more)
sorted-behind p [] later more sorted = sorted
sorted-behind p (e ∷ es) later more sorted = sorted-behind p es later more (sorted-tail (p, e) (marked p es later ++ more) sorted)

marked-may : (p : ℕ) (es : List JournalEntry) (z : ℕ × JournalEntry) (zs : List (ℕ × JournalEntry)) → 1 ≤ length es → AreSorted (marked p es [] ++ z ∷ zs) → p ≤ z.0
marked-may p [] z zs some sorted = absurd (omega (arith, some))
marked-may p (e ∷ []) z zs some sorted = sorted.0
marked-may p (e ∷ f ∷ es) z zs some sorted = marked-may p (f ∷ es) z zs (omega arith) sorted.1

flat-may : (parts : List (ℕ × List JournalEntry)) (z : ℕ × JournalEntry) (zs : List (ℕ × JournalEntry)) → All IsJournalPart parts → AreSorted (flat parts ++ z ∷ zs) → MayFollow parts z.0
flat-may [] z zs all sorted = tt
flat-may (part ∷ []) z zs all sorted = marked-may part.0 part.1 z zs (All-head IsJournalPart part [] all).some sorted
flat-may (part ∷ next ∷ parts) z zs all sorted =
    flat-may (next ∷ parts) z zs (All-tail IsJournalPart part (next ∷ parts) all) (sorted-behind part.0 part.1 (flat (next ∷ parts)) (z ∷ zs) sorted)

each-behind : (xs ys : List (ℕ × JournalEntry)) → Each IsLine (xs ++ ys) → Each IsLine ys
each-behind [] ys each = each
each-behind (x ∷ xs) ys each = each-behind xs ys each.1

not-bad-more : (parts : List (ℕ × List JournalEntry)) (bytes : List ℕ) (line : ℕ) (bad : IsBadLine bytes line) (more : List (ℕ × JournalEntry)) → Each IsLine (flat bad.parts ++ more) → AreSorted (flat bad.parts ++ more) → text_of more ≡ bad.rest → ⊥
not-bad-more parts bytes line bad [] each sorted text = let size = ap (λ (t : List ℕ). length t) text in omega (arith, size, bad.some)
not-bad-more parts bytes line bad (z ∷ zs) each sorted text =
    let is = (each-behind (flat bad.parts) (z ∷ zs) each).0 in
    bad.none z.0 z.1 (text_of zs) is.0 is.1 (flat-may bad.parts z zs bad.are.each sorted) (sym text)

not-bad : (parts : List (ℕ × List JournalEntry)) (line : ℕ) → AreParts parts → IsBadLine (trace_of parts) line → ⊥
not-bad parts line are bad =
    let begin = begins (flat parts) (flat bad.parts) bad.rest (flat-each parts are.each) (flat-each bad.parts bad.are.each)
    (flat-text parts ∙ (bad.text ∙ ap (λ (t : List ℕ). t ++ bad.rest) (sym (flat-text bad.parts)))) in
    not-bad-more parts (trace_of parts) line bad begin.more (rw begin.lines at (flat-each parts are.each)) (rw begin.lines at (flat-sorted parts are)) begin.text

-- what is read of the text of journals
pub reads-as : (parts : List (ℕ × List JournalEntry)) (result : Result (List PartJournal) TraceRefusal) → AreParts parts → ReadsTrace (trace_of parts) result → ReadsAs parts result
reads-as parts (Ok read) are reads = one-text (map told read) parts reads.are are (sym reads.text)
reads-as parts (Err (Bad line)) are reads = not-bad parts line are reads
reads-as parts (Err NoMemory) are reads = tt
