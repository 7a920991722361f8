use Rattle.std.proofs.Common.{subst, ℕ, ◌<◌, ◌≤◌, Option, arith}
use Rattle.std.specs.Prelude.{IfSome}
use Rattle.partition_world.proofs.tier.RemoteTier.expire_on.Goals as goal

-- the log start offset comes to the high watermark that the broker knows at most, and that is at most the registry's
-- where the broker leads its epoch
pub raise-requires-clause-within : goal.raise-requires-clause-within
raise-requires-clause-within g c = λ e is le.
    let h = c.args.partition_state.now in
    let x = c.get-node.result.now in
    let within = subst (λ (o : Option ℕ). IfSome o (λ n. (h.registry.start < n) × (n ≤ x.known_high_watermark))) c.in-Some-2.is c.in_ok-start.ensures.within in
    let low = within.1 in
    let known = (c.requires.sound.nodes c.args.b x c.get-node.ensures).known_high_watermark e is le in
    omega (arith, low, known)
