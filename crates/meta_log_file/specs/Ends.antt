-- Where the events of a file end.
use Rattle.std.specs.Prelude.{ℕ, zero, suc, ◌+◌, List, [], ◌∷◌, length}
use Rattle.std.proofs.Math.ListN.{get_or}
use Rattle.segment_meta.specs.declared.note.Note.{Note}
use Rattle.meta_log_file.specs.Notes.{framed}

-- where each event ends, the first of which begins at a place
abbrev pub ends_from : ℕ → List Note → List ℕ
ends_from start [] = []
ends_from start (note ∷ notes) =
    (start + length (framed note)) ∷ ends_from (start + length (framed note)) notes

-- where the event of a number begins, or the last one ends
abbrev pub start_of : List ℕ → ℕ → ℕ
start_of ends zero = 0
start_of ends (suc before) = get_or ends before 0
