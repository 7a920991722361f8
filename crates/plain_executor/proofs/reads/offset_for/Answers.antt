use Rattle.std.proofs.Common.{sym, subst, List, ℕ}
use Rattle.log_terms.specs.Log.{IsConsecutive}
use Rattle.log_terms.proofs.Lists.{prefix_take}
use Rattle.log_terms.proofs.Logs.{consecutive_prefix}
use Rattle.plain_executor.proofs.reads.offset_for.Goals as goal

pub count_up_to-requires-2 : goal.count_up_to-requires-2
count_up_to-requires-2 c =
    let h = subst (λ (z : List (List ℕ)). IsConsecutive 0 z) (sym c.of-log.ensures) c.requires in
    let k = consecutive_prefix 0 _ c.of-log.result (prefix_take c.count_up_to.result c.of-log.result) h in
    subst (λ (z : List (List ℕ)). IsConsecutive 0 z) (sym c.first-known.ensures) k
