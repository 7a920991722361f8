-- The text of a copy's leader epochs, read beside its entry.
use Rattle.std.specs.Prelude.{◌≡◌, ℕ, zero, suc, ◌+◌, ◌==◌, if◌then◌else◌, List, [], ◌∷◌, Option, Some, None}
use Rattle.std.specs.List.{concat}
use Rattle.epoch_line.specs.Line.{IsLine, within}
use Rattle.epoch_line.specs.Text.{text_of, CanBegin}
use Rattle.segment_meta.specs.declared.note.Entry.{Entry}
use Rattle.tier_audit.specs.Flaws.{IsFirstBad}

-- the text is that of a line which has the entry's map within the segment
pub record HasMap (entry : Entry) (bytes : List ℕ) (line : List (ℕ × ℕ)) : Type 0 where
  pub is : IsLine line
  pub bytes_are : bytes ≡ text_of line
  pub map_is : within line entry.start entry.end ≡ entry.map

-- what is found of the text: that it is right, or the place that is reported
abbrev pub AuditsEpochs : Entry → List ℕ → Option ℕ → Type 0
AuditsEpochs entry bytes None = (line : List (ℕ × ℕ)) × HasMap entry bytes line
AuditsEpochs entry bytes (Some at) =
    ((line : List (ℕ × ℕ)) → HasMap entry bytes line → ⊥) × IsFirstBad concat CanBegin bytes at

-- the place after so many line feeds
abbrev pub place_behind : ℕ → List ℕ → ℕ
place_behind zero bytes = 0
place_behind (suc lines) [] = 0
place_behind (suc lines) (b ∷ bytes) =
    if b == 10 then 1 + place_behind lines bytes else 1 + place_behind (suc lines) bytes
