use Rattle.std.proofs.Common.{sym, arith}
use Rattle.std.proofs.lemmas.Bool.{ltb-true, lt-ltb}
use Rattle.epoch_line.proofs.Rising.{line-follows, follows-above}
use Rattle.epoch_line.proofs.entries.may_follow.Goals as goal

pub returns-then-last-entry : goal.returns-then-last-entry
returns-then-last-entry c = (
  λ t. line-follows c.args.entries.now c.in-Some.last.now c.args.entry c.requires.line (sym c.in-Some.ensures.value) c.requires.epoch_fits c.requires.start_fits c.if-last-entry.true (ltb-true _ _ t),
  λ h. lt-ltb _ _ (follows-above c.args.entries.now c.in-Some.last.now c.args.entry (sym c.in-Some.ensures.value) h).1,
)

pub returns-else-last-entry : goal.returns-else-last-entry
returns-else-last-entry c = (
  λ t. absurd (let low = ltb-true _ _ t in omega (arith, low, c.if-last-entry.false)),
  λ h. lt-ltb _ _ (follows-above c.args.entries.now c.in-Some.last.now c.args.entry (sym c.in-Some.ensures.value) h).0,
)
