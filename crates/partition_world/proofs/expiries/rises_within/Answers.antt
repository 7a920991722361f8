use Rattle.std.proofs.Common.{subst, ℕ, ◌<◌, ◌≤◌, List, Option}
use Rattle.std.specs.Prelude.{unwrap_or, [], ◌∷◌}
use Rattle.epoch_line.specs.Line.{IsLine}
use Rattle.broker_log.specs.Seen.{closed_in}
use Rattle.partition_commands.specs.Partition.{end_of, line_of, local_of}
use Rattle.partition_world.specs.TurnsOfExpiry.{rises_to, pieces_of, own_of, rest_of}
use Rattle.partition_world.proofs.Rising.{found_within}
use Rattle.partition_world.proofs.expiries.rises_within.Goals as goal

pub returns-clause-within : goal.returns-clause-within
returns-clause-within g c =
    let h = c.args.partition_state.now in
    let x = c.args.node.now in
    let broker_tier = c.args.broker_tier.now in
    let pieces = pieces_of h x broker_tier in
    let line : IsLine (line_of x) = subst (λ (o : Option (List (ℕ × ℕ))). IsLine (unwrap_or o [])) c.line.ensures c.entries-begins.ensures.line in
    found_within (λ n. (h.registry.start < n) × (n ≤ x.known_high_watermark)) c.rises_to.result (rises_to h x broker_tier c.args.keep) c.rises_to.ensures
    (λ n is. c.a_log_start_rises_up_to_the_known_mark.ensures broker_tier.view.entries (line_of x) (end_of x) h.registry.start x.known_high_watermark h.copying (local_of x)
    (closed_in x.log) (rest_of h x pieces (own_of h x pieces)) h.clock c.args.keep n c.entries-entries.ensures.kept c.entries-entries.ensures.distinct line is)
