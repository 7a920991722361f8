use Rattle.std.proofs.Common.{◌≡◌, ◌++◌, drop, map, string_bytes}
use Rattle.script_help.specs.Shown.{shown_byte}
use Rattle.script_help.proofs.shown.write_bytes.Given as goal

abbrev pub invariant-loop-byte : goal.invariant-loop-byte
invariant-loop-byte l = string_bytes l.out ++ map shown_byte (drop l.byte-index l.bytes) ≡ string_bytes l.initial.out ++ map shown_byte l.bytes
