-- The parts of a segment can be packed where the leader epochs of its log is short.
use Rattle.std.proofs.Common.{◌≡◌, ◌∙◌, refl, ap, subst, ℕ, zero, suc, ◌+◌, ◌-◌, ◌*◌, ◌<◌, ◌≤◌, ◌^◌, Bool, true, false, cond, List, [], ◌∷◌, ◌++◌, length, map, arith}
use Rattle.std.specs.Prelude.{◌&&◌, nat_lt, codes, decimal, ℤ, int_lt}
use Rattle.std.specs.List.{AllByRecursion, concat}
use Rattle.std.proofs.lemmas.Bool.Decides.{nat_tests}
use Rattle.std.proofs.lemmas.Fmt.{length-decimal-le}
use Rattle.std.proofs.lemmas.List.{length-append}
use Rattle.log_terms.specs.Log.{joined, end_from}
use Rattle.epoch_line.specs.Line.{IsLine, cut_end}
use Rattle.epoch_line.specs.Text.{version_line, count_line, entry_line, text_of}
use Rattle.sparse_index.specs.Bytes.{bytes_of}
use Rattle.sparse_index.specs.Entries as index
use Rattle.sparse_index.specs.Offsets.{entry_bytes}
use Rattle.sparse_index.specs.Times.{moment_bytes}
use Rattle.sparse_index.proofs.BytesLaws.{bytes-length}
use Rattle.sparse_index.proofs.OffsetLaws.{entry-long}
use Rattle.sparse_index.proofs.TimeLaws.{moment-long}
use Rattle.segment_file.specs.declared.placed.Placed.{Placed}
use Rattle.segment_file.specs.Index.{Marks, placed_from, is_due, with_offset, with_time, time_of, raised, unmarked, marked, marked_by, index_of, time_index_of}
use Rattle.segment_file.specs.Segment.{IsSegment}
use Rattle.segment_bundle.specs.Parts.{Parts, has_room, can_pack, first_offset, parts_of}
use Rattle.copy_task.specs.Copying.{Copied, IsCopied}
use Rattle.copy_task.proofs.Mapping.{many_bytes}

-- an entry's line has 10 digits, 19 digits, a blank and a line feed at most
entry_short : (entry : ℕ × ℕ) → entry.0 < 2 ^ 31 → entry.1 ≤ 2 ^ 62 → length (entry_line entry) ≤ 32
entry_short entry low high =
    let epoch = length-decimal-le 10 entry.0 (omega arith) (omega (arith, low)) (omega (arith, low)) in
    let start = length-decimal-le 19 entry.1 (omega arith) (omega (arith, high)) (omega (arith, high)) in
    let one : length (entry_line entry) ≡ length (decimal entry.0 ++ codes " " ++ decimal entry.1) + length (codes "\n")
    = length-append (decimal entry.0 ++ codes " " ++ decimal entry.1) (codes "\n") in
    let two = length-append (decimal entry.0 ++ codes " ") (decimal entry.1) in
    let three = length-append (decimal entry.0) (codes " ") in
    let blank : length (codes " ") ≡ 1 = refl in
    let feed : length (codes "\n") ≡ 1 = refl in
    omega (arith, epoch, start, one, two, three, blank, feed)

-- the entries of a line that start below an offset
entries_short : (line : List (ℕ × ℕ)) (end : ℕ) → IsLine line → length (concat (map entry_line (cut_end line end))) ≤ 32 * length line
entries_short [] end is = omega arith
entries_short (entry ∷ line) end is = by (nat_lt entry.1 end) (entry_short entry is.0 is.1) (entries_short line end is.3)
  where
    by : (t : Bool) → length (entry_line entry) ≤ 32 → length (concat (map entry_line (cut_end line end))) ≤ 32 * length line
        → length (concat (map entry_line (cond t (entry ∷ cut_end line end) (cut_end line end)))) ≤ 32 * length (entry ∷ line)
    by true one more = let sum = length-append (entry_line entry) (concat (map entry_line (cut_end line end))) in omega (arith, one, more, sum)
    by false one more = omega (arith, more)

fewer : (line : List (ℕ × ℕ)) (end : ℕ) → length (cut_end line end) ≤ length line
fewer [] end = omega arith
fewer (entry ∷ line) end = by (nat_lt entry.1 end) (fewer line end)
  where
    by : (t : Bool) → length (cut_end line end) ≤ length line → length (cond t (entry ∷ cut_end line end) (cut_end line end)) ≤ length (entry ∷ line)
    by true more = omega (arith, more)
    by false more = omega (arith, more)

-- their text
text_short : (line : List (ℕ × ℕ)) (end : ℕ) → IsLine line → length line ≤ 2 ^ 26 → length (text_of (cut_end line end)) < 2 ^ 32
text_short line end is few =
    let cut = cut_end line end in
    let entries = entries_short line end is in
    let less = fewer line end in
    let count = length-decimal-le 10 (length cut) (omega arith) (omega (arith, less, few)) (omega (arith, less, few)) in
    let one : length (text_of cut) ≡ length (version_line ++ count_line (length cut)) + length (concat (map entry_line cut))
    = length-append (version_line ++ count_line (length cut)) (concat (map entry_line cut)) in
    let two = length-append version_line (count_line (length cut)) in
    let three : length (count_line (length cut)) ≡ length (decimal (length cut)) + length (codes "\n")
    = length-append (decimal (length cut)) (codes "\n") in
    let version : length version_line ≡ 2 = refl in
    let feed : length (codes "\n") ≡ 1 = refl in
    omega (arith, entries, few, count, one, two, three, version, feed)

-- an entry more at most
pushed : {X : Type 0} (xs : List X) (x : X) (t : Bool) → length (cond t (xs ++ x ∷ []) xs) ≤ length xs + 1
pushed xs x true = let sum = length-append xs (x ∷ []) in omega (arith, sum)
pushed xs x false = omega arith

-- a batch adds an entry to each index at most
marks_few : (base interval : ℕ) (marks : Marks) (batches : List Placed)
    → (length (marked_by base interval marks batches).entries ≤ length marks.entries + length batches)
    × (length (marked_by base interval marks batches).moments ≤ length marks.moments + length batches)
marks_few base interval marks [] = (omega arith, omega arith)
marks_few base interval marks (batch ∷ batches) =
    let rest = marks_few base interval (marked base interval marks batch) batches in
    let offset : length (with_offset base interval marks.entries marks.size batch.last) ≤ length marks.entries + 1
    = pushed marks.entries (batch.last - base, marks.size) (is_due interval marks.entries marks.size) in
    let time = timed (is_due interval marks.entries marks.size) (raised marks.top batch) in
    (omega (arith, rest.0, offset), omega (arith, rest.1, time))
  where
    timed : (t : Bool) (top : ℤ × ℕ) → length (cond t (with_time base marks.moments top) marks.moments) ≤ length marks.moments + 1
    timed true top = pushed marks.moments (top.0, top.1 - base) (int_lt (time_of (index.last_of marks.moments)) top.0)
    timed false top = omega arith

placed_long : (at : ℕ) (batches : List (List ℕ)) → length (placed_from at batches) ≡ length batches
placed_long at [] = refl
placed_long at (batch ∷ batches) = ap suc (placed_long (at + length batch) batches)

-- the parts of a segment's batches, of a line that is short
pub packs_short : (base : ℕ) (batches : List (List ℕ)) (line : List (ℕ × ℕ)) (interval : ℕ) → IsSegment base batches → IsLine line
    → length line ≤ 2 ^ 26 → can_pack (parts_of batches line interval) ≡ true
packs_short base batches line interval s is few =
    let first = first_offset batches in
    let marks = marked_by first interval (unmarked first) (placed_from 0 batches) in
    let long = placed_long 0 batches in
    let many = many_bytes batches s.checked in
    let counts = marks_few first interval (unmarked first) (placed_from 0 batches) in
    let offsets = bytes-length entry_bytes 8 (omega arith) entry-long marks.entries in
    let last = pushed marks.moments (marks.top.0, marks.top.1 - first) (int_lt (time_of (index.last_of marks.moments)) marks.top.0) in
    let moments = bytes-length moment_bytes 12 (omega arith) moment-long (with_time first marks.moments marks.top) in
    let text = text_short line (end_from first batches) is few in
    all (parts_of batches line interval)
    (omega (arith, s.small))
    (omega (arith, s.small, long, many, counts.0, offsets))
    (omega (arith, s.small, long, many, counts.1, last, moments))
    text
  where
    all : (parts : Parts) → length parts.log < 2 ^ 32 → length parts.index < 2 ^ 32 → length parts.times < 2 ^ 32 → length parts.epochs < 2 ^ 32
        → can_pack parts ≡ true
    all parts log index times epochs = grind (arith, nat_tests, log, index, times, epochs)

-- so can those of a copy
pub copy_packs : (copy : Copied) → IsCopied copy → IsLine copy.line → length copy.line ≤ 2 ^ 26 → can_pack copy.parts ≡ true
copy_packs copy is line few = ap can_pack is.parts_are ∙ packs_short copy.segment.base is.batches copy.line copy.interval is.is line few
