-- A trace, line by line: what is read so far, and what a line does to it.
use Rattle.std.proofs.Common.{◌≡◌, ◌≢◌, ◌∙◌, sym, ap, refl, ℕ, ◌+◌, ◌-◌, ◌<◌, ◌≤◌, ◌^◌, min, List, [], ◌∷◌, ◌++◌, Bool, true, false, Option, Some, None, length, append_assoc, length-append, arith}
use Rattle.std.specs.Prelude.{◌==◌, Ok}
use Rattle.std.specs.List.{slice_split}
use Rattle.std.proofs.lemmas.List.Splits.{slice_split_at, slice_split_none, length-slice_split}
use Rattle.plain_log.specs.declared.journal.JournalEntry.{JournalEntry}
use Rattle.trace_text.specs.declared.line.Line.{Line}
use Rattle.trace_text.specs.declared.parts.Parts.{Parts}
use Rattle.trace_text.specs.Trace.{entry_line, trace_of}
use Rattle.trace_text.specs.Entries.{IsEntry}
use Rattle.trace_text.specs.Read.{MayFollow, AreParts, lines_of, IsBadLine}
use Rattle.trace_text.specs.Steps.{parts_of, HasPutEntry, PutsEntry}
use Rattle.trace_text.specs.Reading.{line_in}
use Rattle.trace_text.proofs.Places.{Lacks, no-match}
use Rattle.trace_text.proofs.Lined.{body, body-lacks, line-complete, line-sound, line-behind, front-same}
use Rattle.trace_text.proofs.Grown.{added-text, added-lines, added-are}

-- what was read so far, and what is left
pub record IsReadTo (bytes rest : List ℕ) (number : ℕ) (parts : List (ℕ × List JournalEntry)) : Type 0 where
  pub are : AreParts parts
  pub text : bytes ≡ trace_of parts ++ rest
  pub count : number ≡ min (lines_of parts + 1) (2 ^ 32 - 1)

no-end : (rest : List ℕ) (partition : ℕ) (entry : JournalEntry) (behind : List ℕ) → Lacks 10 rest → partition < 2 ^ 16 → IsEntry entry → rest ≢ entry_line partition entry ++ behind
no-end rest partition entry behind lacks small is e =
    let alone = slice_split_none (λ b. b == 10) rest lacks in
    let parted = slice_split_at (λ b. b == 10) (body partition entry) 10 behind (body-lacks partition entry small is) refl in
    let both : rest ∷ [] ≡ body partition entry ∷ slice_split (λ b. b == 10) behind
    = sym alone ∙ ap (slice_split (λ b. b == 10)) (e ∙ line-behind partition entry behind) ∙ parted in
    let size = ap (λ (t : List (List ℕ)). length t) both in
    omega (arith, size, length-slice_split (λ b. b == 10) behind)

-- a line without an LF
pub bad-unended : (bytes rest : List ℕ) (number : ℕ) (parts : List (ℕ × List JournalEntry)) → IsReadTo bytes rest number parts → 1 ≤ length rest → Lacks 10 rest → IsBadLine bytes number
bad-unended bytes rest number parts to some lacks = record {
  parts = parts;
  rest = rest;
  are = to.are;
  text = to.text;
  some = some;
  none = λ partition entry behind small is may. no-end rest partition entry behind lacks small is;
  number = to.count;
}

-- the same entry is read of a line whose it is
whose : (text behind rest : List ℕ) (partition : ℕ) (entry : JournalEntry) (after : List ℕ) → Lacks 10 text → rest ≡ text ++ 10 ∷ behind → partition < 2 ^ 16 → IsEntry entry → rest ≡ entry_line partition entry ++ after
    → line_in text ≡ Some (record { partition = record { 0 = partition }; entry = entry })
whose text behind rest partition entry after lacks is small of_entry e =
    let front = front-same text behind partition entry after lacks small of_entry (sym is ∙ e) in
    ap line_in front.0 ∙ line-complete partition entry small of_entry

long-rest : (text behind rest : List ℕ) → rest ≡ text ++ 10 ∷ behind → 1 ≤ length rest
long-rest text behind rest is = let size = ap (λ (t : List ℕ). length t) is in omega (arith, size, length-append text (10 ∷ behind))

-- an invalid line
pub bad-unread : (bytes rest : List ℕ) (number : ℕ) (parts : List (ℕ × List JournalEntry)) (text behind : List ℕ) → IsReadTo bytes rest number parts → Lacks 10 text → rest ≡ text ++ 10 ∷ behind → line_in text ≡ None
    → IsBadLine bytes number
bad-unread bytes rest number parts text behind to lacks is unread = record {
  parts = parts;
  rest = rest;
  are = to.are;
  text = to.text;
  some = long-rest text behind rest is;
  none = λ partition entry after small of_entry may e. no-match (line_in text) _ unread (whose text behind rest partition entry after lacks is small of_entry e);
  number = to.count;
}

same-line : (a b : Line) (o : Option Line) → o ≡ Some a → o ≡ Some b → a ≡ b
same-line a b o ea eb = let both : ◌≡◌ {A = Option Line} (Some a) (Some b) = sym ea ∙ eb in cc both

-- a line that can't be there
pub bad-early : (bytes rest : List ℕ) (number : ℕ) (parts : List (ℕ × List JournalEntry)) (text behind : List ℕ) (line : Line) → IsReadTo bytes rest number parts → Lacks 10 text → rest ≡ text ++ 10 ∷ behind
    → line_in text ≡ Some line → (MayFollow parts line.partition.0 → ⊥) → IsBadLine bytes number
bad-early bytes rest number parts text behind line to lacks is read early = record {
  parts = parts;
  rest = rest;
  are = to.are;
  text = to.text;
  some = long-rest text behind rest is;
  none = λ partition entry after small of_entry may e.
      let same = same-line line (record { partition = record { 0 = partition }; entry = entry }) (line_in text) read (whose text behind rest partition entry after lacks is small of_entry e) in
      early (rw same may);
  number = to.count;
}

-- a line that goes to the others
pub one-more : (bytes rest : List ℕ) (number next : ℕ) (old new : Parts) (text behind : List ℕ) (line : Line) → IsReadTo bytes rest number (parts_of old) → rest ≡ text ++ 10 ∷ behind
    → line_in text ≡ Some line → HasPutEntry old new line → next ≡ min (number + 1) (2 ^ 32 - 1) → IsReadTo bytes behind next (parts_of new)
one-more bytes rest number next old new text behind line to is read put grows =
    let sound = line-sound text line read in
    let p = line.partition.0 in
    let entry = line.entry in
    let ends : entry_line p entry ++ behind ≡ rest = line-behind p entry behind ∙ (ap (λ (t : List ℕ). t ++ 10 ∷ behind) sound.same ∙ sym is) in
    rw put.parts
    (record {
      are = added-are (parts_of old) p entry to.are put.may sound.partition sound.entry;
      text = to.text ∙ (ap (λ (t : List ℕ). trace_of (parts_of old) ++ t) (sym ends)
          ∙ (sym (append_assoc (trace_of (parts_of old)) (entry_line p entry) behind) ∙ ap (λ (t : List ℕ). t ++ behind) (sym (added-text (parts_of old) p entry))));
      count = omega (arith, grows, to.count, added-lines (parts_of old) p entry);
    })

-- what is left isn't empty
pub some-rest : (rest : List ℕ) → (length rest == 0) ≡ false → 1 ≤ length rest
some-rest [] h = cc h
some-rest (b ∷ rest) h = omega arith

-- what putting answered
pub was-put : (old new : Parts) (line : Line) (t : Bool) → t ≡ true → PutsEntry old new line (Ok t) → HasPutEntry old new line
was-put old new line true is h = h
was-put old new line false is h = cc is

pub was-not-put : (old new : Parts) (line : Line) (t : Bool) → t ≡ false → PutsEntry old new line (Ok t) → MayFollow (parts_of old) line.partition.0 → ⊥
was-not-put old new line false is h = h
was-not-put old new line true is h = cc is
