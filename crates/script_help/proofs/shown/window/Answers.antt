use Rattle.std.proofs.Common.{arith}
use Rattle.script_help.proofs.Fronts.{cut_twice}
use Rattle.script_help.proofs.shown.window.Goals as goal

pub returns : goal.returns
returns c = record {
  left = c.split_at.result.0.now;
  right = c.split_at-2.result.1.now;
  parts = cut_twice _ _ _ _ _ _ _ c.split_at.ensures.front c.split_at.ensures.back c.split_at-2.ensures.front c.split_at-2.ensures.back;
  under = omega (arith, c.split_at.ensures.front_len, c.min-from.ensures, c.saturating_sub.ensures);
}
