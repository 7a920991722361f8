use Rattle.std.proofs.Common.{◌∙◌, sym, ◌+◌, drop, arith}
use Rattle.remote_view.proofs.Lifted.{taken_first, lifted_run}
use Rattle.remote_view.proofs.epoch_ranges.EpochRanges.take_first.Goals as goal

pub invariant_of-self : goal.invariant_of-self
invariant_of-self c =
    let treads = c.self.inside.treads in
    let gone = c.self.inside.gone in
    let lifted = taken_first c.args.id.now c.args.end gone treads (omega (arith, c.if-self-len.false, c.len.ensures)) (rw c.self.view_is c.requires.rises)
    (sym (rw (c.treads.ensures, ← c.self.view_is) at c.begins_with.ensures) ∙ c.if-not-begins_with.false) (rw c.self.view_is c.requires.ends) in
    record {
      within = omega (arith, c.if-self-len.false, c.len.ensures);
      all = lifted_run c.args.id.now (drop gone treads) (drop (gone + 1) treads) c.self.inside.run.from c.self.inside.run.to c.max-from.result c.args.end lifted c.max-from.ensures (rw c.self.view_is c.requires.ends) c.self.invariant.all;
    }

pub returns : goal.returns
returns c =
    let treads = c.self.inside.treads in
    let gone = c.self.inside.gone in
    rw (← c.self.view_is) (taken_first c.args.id.now c.args.end gone treads (omega (arith, c.if-self-len.false, c.len.ensures)) (rw c.self.view_is c.requires.rises)
    (sym (rw (c.treads.ensures, ← c.self.view_is) at c.begins_with.ensures) ∙ c.if-not-begins_with.false) (rw c.self.view_is c.requires.ends))
