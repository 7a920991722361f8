use Rattle.partition_world.proofs.Dispatch.{err_two}
use Rattle.partition_world.proofs.DateRows.{log_stays}
use Rattle.partition_world.proofs.dates.search_own.Goals as goal

pub returns-clause-err : goal.returns-clause-err
returns-clause-err g c =
    err_two c.own_turn.result
    (λ stays quiet. log_stays g.D.Disk c.args.partition_state.now c.args.b c.at_mut.result.now c.own_turn.new.log c.at_mut.ensures.value stays quiet)
    c.own_turn.ensures.stays c.own_turn.ensures.quiet
