use Rattle.std.proofs.Common.{◌≡◌, take}
use Rattle.run_summary.specs.Told.{answers_of, ordered_bytes}
use Rattle.run_summary.proofs.told.told_in.Given as goal

abbrev pub invariant-loop-entry : goal.invariant-loop-entry
invariant-loop-entry l = record {
  answers : l.told.answers ≡ answers_of l.lists (take l.entry-index l.journal);
  bytes : l.told.bytes ≡ ordered_bytes l.lists (take l.entry-index l.journal);
  end : l.told.end ≡ l.fn.end;
}
