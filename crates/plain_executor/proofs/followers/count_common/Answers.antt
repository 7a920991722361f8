use Rattle.std.proofs.Common.{◌≡◌, ◌∙◌, ap, ℕ, min, length, arith}
use Rattle.plain_executor.proofs.Commons.{common_within}
use Rattle.plain_executor.proofs.followers.count_common.Goals as goal

pub loop-count-init : goal.loop-count-init
loop-count-init c =
    let least : c.min-count.result ≡ min (length c.args.log.now) (length c.args.other.now) =
    c.min-count.ensures ∙ (ap (λ (k : ℕ). min k c.len-2.result) c.len.ensures
    ∙ ap (λ (k : ℕ). min (length c.args.log.now) k) c.len-2.ensures) in
    record {
      in_log = omega (arith, least);
      in_other = omega (arith, least);
      same = common_within c.args.log.now c.args.other.now c.min-count.result least;
    }
