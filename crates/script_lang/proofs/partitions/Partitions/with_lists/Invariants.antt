use Rattle.std.proofs.Common.{◌≡◌, ◌+◌, ◌≤◌, ℕ, length}
use Rattle.script_lang.specs.Script.{slot_at, parts_with_lists}
use Rattle.script_lang.proofs.partitions.Partitions.with_lists.Given as goal

abbrev pub invariant-loop-slot : goal.invariant-loop-slot
invariant-loop-slot l = record {
  count : l.actor + length l.slot-iterator.rest.items ≡ 64;
  few : (a : ℕ) → length (slot_at l.slot-iterator.rest.items a).orders ≤ 65536;
  put : parts_with_lists l.partitions l.actor l.slot-iterator.rest.items ≡ parts_with_lists l.fn.self 0 l.fn.actors;
}
