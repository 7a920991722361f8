-- Parts that grow by an entry.
use Rattle.std.proofs.Common.{◌≡◌, ◌∙◌, sym, ap, refl, ℕ, ◌+◌, ◌<◌, ◌≤◌, ◌^◌, List, [], ◌∷◌, ◌++◌, Bool, true, false, cond, Option, Some, None, map, append_assoc, append-nil, length-append, arith}
use Rattle.std.specs.Prelude.{◌==◌}
use Rattle.std.proofs.lemmas.Bool.{eqb-true, ne_eqb}
use Rattle.std.proofs.lemmas.Bool.Decides.{nat_tests, Decides-eqb}
use Rattle.std.proofs.lemmas.List.{map-append}
use Rattle.std.proofs.lemmas.List.Concat.{flat_map-append}
use Rattle.std.proofs.lemmas.List.Elements.{All-cons, All-nil, All-append, All-head, All-tail}
use Rattle.tier_base.specs.declared.names.PartitionId.{PartitionId}
use Rattle.plain_log.specs.declared.journal.JournalEntry.{JournalEntry}
use Rattle.trace_text.specs.declared.line.Line.{Line}
use Rattle.trace_text.specs.declared.line.PartJournal.{PartJournal}
use Rattle.trace_text.specs.declared.parts.Parts.{Parts}
use Rattle.trace_text.specs.Trace.{entry_line, journal_text, trace_of}
use Rattle.trace_text.specs.Entries.{IsEntry}
use Rattle.trace_text.specs.Read.{told, IsJournalPart, MayFollow, ArePartitionsRising, AreParts, lines_of}
use Rattle.trace_text.specs.Steps.{parts_of, HasParts, HasPutEntry, added}

-- a journal of one entry more
journal-more : (p : ℕ) (entries : List JournalEntry) (entry : JournalEntry) → journal_text p (entries ++ entry ∷ []) ≡ journal_text p entries ++ entry_line p entry
journal-more p entries entry =
    flat_map-append (entry_line p) entries (entry ∷ []) ∙ ap (λ (t : List ℕ). journal_text p entries ++ t) (append-nil (entry_line p entry))

last-text : (t : Bool) (part : ℕ × List JournalEntry) (p : ℕ) (entry : JournalEntry) → (part.0 == p) ≡ t
    → trace_of (cond t ((part.0, part.1 ++ entry ∷ []) ∷ []) (part ∷ (p, entry ∷ []) ∷ [])) ≡ trace_of (part ∷ []) ++ entry_line p entry
last-text true part p entry is =
    let same = eqb-true part.0 p is in
    append-nil (journal_text part.0 (part.1 ++ entry ∷ []))
    ∙ (journal-more part.0 part.1 entry
    ∙ (ap (λ (q : ℕ). journal_text part.0 part.1 ++ entry_line q entry) same
    ∙ ap (λ (t : List ℕ). t ++ entry_line p entry) (sym (append-nil (journal_text part.0 part.1)))))
last-text false part p entry is = simp append-nil

-- the text grows by the entry's line
pub added-text : (parts : List (ℕ × List JournalEntry)) (p : ℕ) (entry : JournalEntry) → trace_of (added parts p entry) ≡ trace_of parts ++ entry_line p entry
added-text [] p entry = simp append-nil
added-text (part ∷ []) p entry = last-text (part.0 == p) part p entry refl
added-text (part ∷ next ∷ parts) p entry =
    ap (λ (t : List ℕ). journal_text part.0 part.1 ++ t) (added-text (next ∷ parts) p entry)
    ∙ sym (append_assoc (journal_text part.0 part.1) (trace_of (next ∷ parts)) (entry_line p entry))

last-lines : (t : Bool) (part : ℕ × List JournalEntry) (p : ℕ) (entry : JournalEntry)
    → lines_of (cond t ((part.0, part.1 ++ entry ∷ []) ∷ []) (part ∷ (p, entry ∷ []) ∷ [])) ≡ lines_of (part ∷ []) + 1
last-lines true part p entry = omega (arith, length-append part.1 (entry ∷ []))
last-lines false part p entry = omega arith

-- and by one line
pub added-lines : (parts : List (ℕ × List JournalEntry)) (p : ℕ) (entry : JournalEntry) → lines_of (added parts p entry) ≡ lines_of parts + 1
added-lines [] p entry = refl
added-lines (part ∷ []) p entry = last-lines (part.0 == p) part p entry
added-lines (part ∷ next ∷ parts) p entry = omega (arith, added-lines (next ∷ parts) p entry)

entry-part : (p : ℕ) (entry : JournalEntry) → p < 2 ^ 16 → IsEntry entry → IsJournalPart (p, entry ∷ [])
entry-part p entry small is = record { partition = small; some = omega arith; each = All-cons IsEntry entry [] is (All-nil IsEntry) }

part-more : (part : ℕ × List JournalEntry) (entry : JournalEntry) → IsJournalPart part → IsEntry entry → IsJournalPart (part.0, part.1 ++ entry ∷ [])
part-more part entry of_part is = record {
  partition = of_part.partition;
  some = omega (arith, length-append part.1 (entry ∷ []));
  each = All-append IsEntry part.1 (entry ∷ []) of_part.each (All-cons IsEntry entry [] is (All-nil IsEntry));
}

last-are : (t : Bool) (part : ℕ × List JournalEntry) (p : ℕ) (entry : JournalEntry) → (part.0 == p) ≡ t → IsJournalPart part → part.0 ≤ p → p < 2 ^ 16 → IsEntry entry
    → AreParts (cond t ((part.0, part.1 ++ entry ∷ []) ∷ []) (part ∷ (p, entry ∷ []) ∷ []))
last-are true part p entry is of_part may small of_entry = record {
  rising = tt;
  each = All-cons IsJournalPart (part.0, part.1 ++ entry ∷ []) [] (part-more part entry of_part of_entry) (All-nil IsJournalPart);
}
last-are false part p entry is of_part may small of_entry =
    let below : part.0 < p = grind (arith, nat_tests) in
    record {
      rising = (below, tt);
      each = All-cons IsJournalPart part ((p, entry ∷ []) ∷ []) of_part (All-cons IsJournalPart (p, entry ∷ []) [] (entry-part p entry small of_entry) (All-nil IsJournalPart));
    }

-- what is below the first stays below it
last-under : (t : Bool) (part next : ℕ × List JournalEntry) (p : ℕ) (entry : JournalEntry) → part.0 < next.0
    → ArePartitionsRising (cond t ((next.0, next.1 ++ entry ∷ []) ∷ []) (next ∷ (p, entry ∷ []) ∷ [])) → ArePartitionsRising (part ∷ cond t ((next.0, next.1 ++ entry ∷ []) ∷ []) (next ∷ (p, entry ∷ []) ∷ []))
last-under true part next p entry below rising = (below, rising)
last-under false part next p entry below rising = (below, rising)

rising-under : (part next : ℕ × List JournalEntry) (parts : List (ℕ × List JournalEntry)) (p : ℕ) (entry : JournalEntry) → part.0 < next.0 → ArePartitionsRising (added (next ∷ parts) p entry)
    → ArePartitionsRising (part ∷ added (next ∷ parts) p entry)
rising-under part next [] p entry below rising = last-under (next.0 == p) part next p entry below rising
rising-under part next (more ∷ parts) p entry below rising = (below, rising)

-- and they are parts
pub added-are : (parts : List (ℕ × List JournalEntry)) (p : ℕ) (entry : JournalEntry) → AreParts parts → MayFollow parts p → p < 2 ^ 16 → IsEntry entry → AreParts (added parts p entry)
added-are [] p entry are may small is = record { rising = tt; each = All-cons IsJournalPart (p, entry ∷ []) [] (entry-part p entry small is) (All-nil IsJournalPart) }
added-are (part ∷ []) p entry are may small is = last-are (part.0 == p) part p entry refl (All-head IsJournalPart part [] are.each) may small is
added-are (part ∷ next ∷ parts) p entry are may small is =
    let later = added-are (next ∷ parts) p entry (record { rising = are.rising.1; each = All-tail IsJournalPart part (next ∷ parts) are.each }) may small is in
    record {
      rising = rising-under part next parts p entry are.rising.0 later.rising;
      each = All-cons IsJournalPart part (added (next ∷ parts) p entry) (All-head IsJournalPart part (next ∷ parts) are.each) later.each;
    }

-- the last part decides what may follow
may-last : (front : List (ℕ × List JournalEntry)) (part : ℕ × List JournalEntry) (p : ℕ) → part.0 ≤ p → MayFollow (front ++ part ∷ []) p
may-last [] part p h = h
may-last (a ∷ []) part p h = h
may-last (a ∷ b ∷ front) part p h = may-last (b ∷ front) part p h

last-may : (front : List (ℕ × List JournalEntry)) (part : ℕ × List JournalEntry) (p : ℕ) → MayFollow (front ++ part ∷ []) p → part.0 ≤ p
last-may [] part p h = h
last-may (a ∷ []) part p h = h
last-may (a ∷ b ∷ front) part p h = last-may (b ∷ front) part p h

added-same : (front : List (ℕ × List JournalEntry)) (part : ℕ × List JournalEntry) (p : ℕ) (entry : JournalEntry) → (part.0 == p) ≡ true
    → added (front ++ part ∷ []) p entry ≡ front ++ (part.0, part.1 ++ entry ∷ []) ∷ []
added-same [] part p entry h = rw h refl
added-same (a ∷ []) part p entry h = ap (λ (t : List (ℕ × List JournalEntry)). a ∷ t) (added-same [] part p entry h)
added-same (a ∷ b ∷ front) part p entry h = ap (λ (t : List (ℕ × List JournalEntry)). a ∷ t) (added-same (b ∷ front) part p entry h)

added-new : (front : List (ℕ × List JournalEntry)) (part : ℕ × List JournalEntry) (p : ℕ) (entry : JournalEntry) → (part.0 == p) ≡ false
    → added (front ++ part ∷ []) p entry ≡ (front ++ part ∷ []) ++ (p, entry ∷ []) ∷ []
added-new [] part p entry h = rw h refl
added-new (a ∷ []) part p entry h = ap (λ (t : List (ℕ × List JournalEntry)). a ∷ t) (added-new [] part p entry h)
added-new (a ∷ b ∷ front) part p entry h = ap (λ (t : List (ℕ × List JournalEntry)). a ∷ t) (added-new (b ∷ front) part p entry h)

-- parts with a last one
with-last : (parts : Parts) (last : PartitionId) → parts.last ≡ Some last → parts_of parts ≡ map told parts.done ++ (last.0, parts.journal.items) ∷ []
with-last parts last is = rw is refl

some-begun : (parts : Parts) (last : PartitionId) → parts.last ≡ Some last → HasParts parts
some-begun parts last is none = let no : ◌≡◌ {A = Option PartitionId} None (Some last) = sym none ∙ is in cc no

-- an entry of the last partition
pub put-same : (old new : Parts) (line : Line) (last : PartitionId) → old.last ≡ Some last → line.partition.0 ≡ last.0 → new.done ≡ old.done → new.last ≡ old.last
    → new.journal.items ≡ old.journal.items ++ line.entry ∷ [] → HasPutEntry old new line
put-same old new line last is equal done kept items =
    let same : (last.0 == line.partition.0) ≡ true = (Decides-eqb last.0 line.partition.0).1 (sym equal) in
    record {
      begun = some-begun new last (kept ∙ is);
      may = rw (with-last old last is) (may-last (map told old.done) (last.0, old.journal.items) line.partition.0 (omega (arith, equal)));
      parts = with-last new last (kept ∙ is) ∙ (rw (done, items) refl ∙ sym (ap (λ (t : List (ℕ × List JournalEntry)). added t line.partition.0 line.entry) (with-last old last is) ∙ added-same (map told old.done) (last.0, old.journal.items) line.partition.0 line.entry same));
    }

-- an entry of a later one
pub put-new : (old new : Parts) (line : Line) (last : PartitionId) (moved : PartJournal) → old.last ≡ Some last → last.0 < line.partition.0 → told moved ≡ (last.0, old.journal.items)
    → new.done ≡ old.done ++ moved ∷ [] → new.last ≡ Some line.partition → new.journal.items ≡ line.entry ∷ [] → HasPutEntry old new line
put-new old new line last moved is above was done begun items =
    let other : (last.0 == line.partition.0) ≡ false = ne_eqb last.0 line.partition.0 (λ e. omega (arith, e, above)) in
    let front : map told new.done ≡ map told old.done ++ (last.0, old.journal.items) ∷ []
    = ap (map told) done ∙ (map-append told old.done (moved ∷ []) ∙ ap (λ (q : ℕ × List JournalEntry). map told old.done ++ q ∷ []) was) in
    record {
      begun = some-begun new line.partition begun;
      may = rw (with-last old last is) (may-last (map told old.done) (last.0, old.journal.items) line.partition.0 (omega (arith, above)));
      parts = with-last new line.partition begun ∙ (rw (front, items) refl ∙ sym (ap (λ (t : List (ℕ × List JournalEntry)). added t line.partition.0 line.entry) (with-last old last is) ∙ added-new (map told old.done) (last.0, old.journal.items) line.partition.0 line.entry other));
    }

-- an entry of an earlier one
pub put-not : (old : Parts) (line : Line) (last : PartitionId) → old.last ≡ Some last → line.partition.0 < last.0 → MayFollow (parts_of old) line.partition.0 → ⊥
put-not old line last is below may =
    let least = last-may (map told old.done) (last.0, old.journal.items) line.partition.0 (rw (with-last old last is) at may) in
    omega (arith, least, below)
