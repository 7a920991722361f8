use Rattle.std.proofs.Common.{◌≡◌, ◌∙◌, ap, sym, refl, false, Some, Err}
use Rattle.partition_commands.proofs.Staying.{at_node, stays_at}
use Rattle.partition_commands.proofs.Writes.{never}
use Rattle.partition_commands.specs.Partition.{is_up}
use Rattle.partition_commands.proofs.partition_state.PartitionState.up.Goals as goal

-- what is there is one
one : {A : Type 0} {x y : A} → Some x ≡ Some y → x ≡ y
one is = cc is

pub returns-in-Err-NoMemory-clause-err : goal.returns-in-Err-NoMemory-clause-err
returns-in-Err-NoMemory-clause-err g c =
    stays_at g.D.Disk.content g.D.Disk.control c.args.self.now c.args.b c.at_mut.result.now c.up.new.self _ c.at_mut.ensures.value c.in-Err-NoMemory.ensures.stays
    (c.up.ensures.control, c.up.ensures.quiet (never (c.in-Err-NoMemory.is ∙ ap Err c.in-Err-NoMemory.field-0-is) (λ no. cc))) refl

pub returns-in-Err-Damaged-clause-row : goal.returns-in-Err-Damaged-clause-row
returns-in-Err-Damaged-clause-row g c =
    let e = c.in-Err-Damaged in
    let same : c.get.result.now ≡ c.at_mut.result.now = one (sym c.get.ensures ∙ c.at_mut.ensures.value) in
    let down : is_up c.at_mut.result.now ≡ false = ap is_up (sym same) ∙ (sym c.is_up.ensures ∙ c.if-is_up.false) in
    at_node c.args.self.now c.args.b c.at_mut.result.now _ c.at_mut.ensures.value
    (down, (c.up.new.self, c.up.ensures.damaged e.file e.at (e.is ∙ ap Err e.field-0-is), (c.up.ensures.control, c.up.ensures.quiet (never (e.is ∙ ap Err e.field-0-is) (λ no. cc))), refl))
