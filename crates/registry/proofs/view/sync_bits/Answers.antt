use Rattle.registry.proofs.Viewing.{bits_fit}
use Rattle.registry.proofs.view.sync_bits.Goals as goal

pub with_bit-bits-requires : goal.with_bit-bits-requires
with_bit-bits-requires c =
    rw (c.loop-at.invariant.bits) (bits_fit c.args.replicas.now c.loop-at.at c.requires c.loop-at-test.true)
