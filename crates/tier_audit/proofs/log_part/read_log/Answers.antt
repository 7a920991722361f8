use Rattle.std.proofs.Common.{◌≡◌, true}
use Rattle.tier_audit.proofs.Fronts.{not_right, first_bad}
use Rattle.tier_audit.proofs.log_part.read_log.Goals as goal

pub returns-else-is_all : goal.returns-else-is_all
returns-else-is_all c = (
  not_right c.args.entry.now c.args.bytes.now c.in_ok-front.front c.in_ok-front.ensures
      (λ all. let yes : c.is_all.result ≡ true = c.is_all.ensures.1 all in cc (yes, c.if-is_all.false)),
  first_bad c.args.entry.now c.args.bytes.now c.in_ok-front.front c.in_ok-front.ensures,
)
