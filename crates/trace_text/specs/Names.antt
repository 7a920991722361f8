-- The names that a trace gives to what an answer carries: files, segments' states, causes, why a run ends.
--
--   file  = manifest | base ".log" | metadata events | gate | registry
--           base: the segment's base offset in 20 digits, zeros before it
--   state = CopyStarted | CopyFinished | DeleteStarted | DeleteFinished
--   stop  = Mark | Piece | Limit
--   cause = Short | BadMagic | BadLength | BadCrc SP kept SP computed | Compressed | Transactional | Control
--         | BadRecords SP at
use Rattle.std.specs.Prelude.{ℕ, ◌-◌, List, [], ◌∷◌, ◌++◌, length, replicate, codes, decimal}
use Rattle.record_batch.specs.declared.refusal.BatchRefusal.{BatchRefusal}
use Rattle.record_batch.specs.declared.refusal.BatchRefusal.TheVariants as cause
use Rattle.tier_base.specs.declared.plain.FileName.{FileName}
use Rattle.tier_base.specs.declared.plain.FileName.TheVariants as file
use Rattle.tier_base.specs.declared.plain.State.{State}
use Rattle.tier_base.specs.declared.plain.State.TheVariants as state
use Rattle.tier_base.specs.declared.plain.Stop.{Stop}
use Rattle.tier_base.specs.declared.plain.Stop.TheVariants as stop

-- a number in 20 digits: 48 is the digit 0
unfoldable pub padded : ℕ → List ℕ
padded n = replicate (20 - length (decimal n)) 48 ++ decimal n

-- the name of a broker's file
abbrev pub file_name_text : FileName → List ℕ
file_name_text file.Manifest = codes "manifest"
file_name_text (file.Log base) = padded base ++ codes ".log"
file_name_text file.Notes = codes "notes"
file_name_text file.Gate = codes "gate"
file_name_text file.Registry = codes "registry"

-- the name of a remote segment's state
abbrev pub state_text : State → List ℕ
state_text state.CopyStarted = codes "CopyStarted"
state_text state.CopyFinished = codes "CopyFinished"
state_text state.DeleteStarted = codes "DeleteStarted"
state_text state.DeleteFinished = codes "DeleteFinished"

-- why a run ends
abbrev pub stop_text : Stop → List ℕ
stop_text stop.Mark = codes "Mark"
stop_text stop.Piece = codes "Piece"
stop_text stop.Limit = codes "Limit"

-- the name of the cause for which bytes are no batch
abbrev pub cause_name : BatchRefusal → List ℕ
cause_name cause.Short = codes "Short"
cause_name cause.BadMagic = codes "BadMagic"
cause_name cause.BadLength = codes "BadLength"
cause_name (cause.BadCrc kept computed) = codes "BadCrc"
cause_name cause.Compressed = codes "Compressed"
cause_name cause.Transactional = codes "Transactional"
cause_name cause.Control = codes "Control"
cause_name (cause.BadRecords at) = codes "BadRecords"

-- its numbers
abbrev pub cause_numbers : BatchRefusal → List (List ℕ)
cause_numbers (cause.BadCrc kept computed) = decimal kept ∷ decimal computed ∷ []
cause_numbers (cause.BadRecords at) = decimal at ∷ []
cause_numbers other = []
