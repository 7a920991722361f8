use Rattle.std.proofs.Common.{◌≡◌, ◌++◌, drop, map, string_bytes}
use Rattle.std.specs.List.{concat}
use Rattle.epoch_line.specs.Text.{entry_line, text_of}
use Rattle.epoch_line.proofs.line.Line.to_text.Given as goal

abbrev pub invariant-loop-entry : goal.invariant-loop-entry
invariant-loop-entry l = string_bytes l.text ++ concat (map entry_line (drop l.entry-index l.entries)) ≡ text_of l.entries
