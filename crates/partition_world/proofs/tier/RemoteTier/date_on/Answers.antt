use Rattle.std.proofs.Common.{refl}
use Rattle.std.specs.Int.{w64}
use Rattle.std.proofs.lemmas.Int.{to_z-of_z}
use Rattle.partition_world.proofs.DateTurns.{date_row}
use Rattle.partition_world.proofs.tier.RemoteTier.date_on.Goals as goal

pub returns-clause-row : goal.returns-clause-row
returns-clause-row g c =
    rw c.date_outcome.ensures (date_row g.D.Disk g.S.Store g.M.MetaLog c.args.partition c.args.partition_state.now c.args.self.now c.args.broker.0
    c.get-node.result.now c.args.recorded.now c.args.ts c.args.cursor c.args.next c.search.new.partition_state c.search.new.self
    c.asked_of-asked.result c.resumed_at-at.result c.resumed_with-later.result c.in_ok-turn.turn c.get-node.ensures
    (c.in_default.ensures.keeps refl) c.resumed_at-at.ensures.is c.resumed_with-later.ensures.is
    (rw (to_z-of_z w64 c.args.ts c.ranges.ts) at c.asked_of-asked.ensures)
    (c.in_default.ensures.below refl) c.resumed_at-at.ensures.fits c.in_ok-turn.ensures.goes c.in_ok-turn.ensures.row)
