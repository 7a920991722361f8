use Rattle.std.proofs.Common.{◌∙◌, ap, ◌++◌, take, drop, List, ℕ}
use Rattle.batch_prims.specs.Crc.{crc32c}
use Rattle.record_batch.specs.Build.{u32_bytes, covered}
use Rattle.record_batch.proofs.BuildLaws.{sealed_lem, drop_unsealed, unsealed_long, built_long}
use Rattle.record_batch.proofs.building.sealed.Goals as goal

pub seal-requires : goal.seal-requires
seal-requires c = rw c.in_ok-batch.ensures.bytes (unsealed_long c.args.size (covered c.args.recs.now))

pub returns-clause-bytes : goal.returns-clause-bytes
returns-clause-bytes c =
    c.seal.ensures.bytes
    ∙ (ap (λ (t : List ℕ). take 17 t ++ (u32_bytes (crc32c (drop 21 t)) ++ drop 21 t)) c.in_ok-batch.ensures.bytes
    ∙ sealed_lem c.args.size c.args.recs.now c.requires.size)

pub returns-clause-long : goal.returns-clause-long
returns-clause-long c = rw (returns-clause-bytes c) (built_long c.args.recs.now)

pub returns-clause-widths : goal.returns-clause-widths
returns-clause-widths c = record {
  times = c.in_ok-batch.ensures.times;
  sum = rw (c.in_ok-batch.ensures.bytes, drop_unsealed c.args.size (covered c.args.recs.now)) at c.seal.ensures.sum;
}
