use Rattle.partition_world.proofs.Dispatch.{err_two, read_stays}
use Rattle.partition_world.proofs.tier.RemoteTier.choose.Goals as goal

pub returns-clause-err : goal.returns-clause-err
returns-clause-err g c =
    err_two c.read_segment.result (λ reads same. read_stays g.D.Disk g.S.Store g.M.MetaLog c.args.partition_state.now c.args.self.now c.args.broker.0 c.read_segment.new.partition_state c.read_segment.new.self reads same) c.read_segment.ensures.err
    c.read_segment.ensures.tier
