use Rattle.std.proofs.Common.{◌∙◌, sym, arith}
use Rattle.std.specs.Int.{w32, cast_unsigned}
use Rattle.std.proofs.lemmas.Int.{of_z-to_z}
use Rattle.laws_partition.proofs.Counted.{counted}
use Rattle.partition_commands.proofs.own_log.count_checked.Goals as goal

pub overflow_add-result : goal.overflow_add-result
overflow_add-result c =
    let w = counted c.args.bytes.now c.in_ok-head.head (sym c.in_ok-head.was ∙ c.check_known.ensures) c.checked_is_batch.ensures in
    let same = of_z-to_z w32 (cast_unsigned w32 c.in_ok-head.head.last_offset_delta) (omega (arith, w.is, w.few)) in
    omega (arith, c.cast_unsigned.ensures, same, w.is, w.few)

pub returns-clause-ok : goal.returns-clause-ok
returns-clause-ok c =
    let w = counted c.args.bytes.now c.in_ok-head.head (sym c.in_ok-head.was ∙ c.check_known.ensures) c.checked_is_batch.ensures in
    let same = of_z-to_z w32 (cast_unsigned w32 c.in_ok-head.head.last_offset_delta) (omega (arith, w.is, w.few)) in
    (w.ok, omega (arith, c.cast_unsigned.ensures, same, w.is), w.long)
