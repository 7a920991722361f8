use Rattle.std.proofs.Common.{◌≡◌, ◌≤◌, ◌^◌, ◌-◌, drop}
use Rattle.tier_base.specs.Counts.{counted}
use Rattle.expiry_task.specs.Rule.{bytes_past}
use Rattle.expiry_task.proofs.rule.bytes_past.Given as goal

-- the bytes so far and those of the segments that are left come to all of them
abbrev pub invariant-loop-segment : goal.invariant-loop-segment
invariant-loop-segment l = record {
  fits : l.bytes ≤ 2 ^ 64 - 1;
  same :
      counted l.bytes (bytes_past l.fn.offset (drop l.segment-index l.segments))
      ≡ counted l.fn.more (bytes_past l.fn.offset l.segments);
}
