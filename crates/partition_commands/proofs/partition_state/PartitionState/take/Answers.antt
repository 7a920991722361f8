use Rattle.std.proofs.Common.{◌∙◌, ap, refl, subst, ℕ, Err}
use Rattle.broker_log.specs.Read.{Misreads}
use Rattle.broker_log.proofs.ReadBefore.{reads_checked}
use Rattle.partition_commands.specs.TurnsOfFollowers.{MayTake}
use Rattle.partition_commands.proofs.Putting.{of_node}
use Rattle.partition_commands.specs.Partition.{end_of}
use Rattle.partition_commands.proofs.Staying.{at_node, stays_at, has_read}
use Rattle.partition_commands.proofs.Writes.{never}
use Rattle.partition_commands.proofs.partition_state.PartitionState.take.Goals as goal

pub returns-clause-err : goal.returns-clause-err
returns-clause-err g c =
    stays_at g.D.Disk.content g.D.Disk.control c.args.self.now c.args.leader c.at_mut-node.result.now c.read_run.new.self _ c.at_mut-node.ensures.value c.read_run.ensures.stays
    (c.read_run.ensures.control, c.read_run.ensures.quiet (never (c.in-Err-NoMemory.is ∙ ap Err c.in-Err-NoMemory.field-0-is) (λ no. cc))) refl

pub returns-in-Err-Damaged-clause-row : goal.returns-in-Err-Damaged-clause-row
returns-in-Err-Damaged-clause-row g c =
    let node = c.at_mut-node.result.now in
    let e = c.in-Err-Damaged in
    let end = c.args.recorded.end in
    let may : MayTake node end c.args.bound = of_node c.args.self.now c.args.leader node (λ y. MayTake y end c.args.bound) c.at_mut-node.ensures.value c.requires.node in
    at_node c.args.self.now c.args.leader node _ c.at_mut-node.ensures.value (record {
      kept = c.read_run.new.self;
      misreads = subst (λ (bound : ℕ). Misreads g.D.Disk.content g.D.Disk.control node.log c.read_run.new.self end c.args.limit bound e.file e.at) may.1
          (c.read_run.ensures.damaged e.file e.at (e.is ∙ ap Err e.field-0-is));
      ran = has_read g.D.Disk.control node.log c.read_run.new.self c.args.bound (end_of node) c.read_run.result e.file e.at may.1 (e.is ∙ ap Err e.field-0-is) c.read_run.ensures.ran;
      quiet = (c.read_run.ensures.control, c.read_run.ensures.quiet (never (e.is ∙ ap Err e.field-0-is) (λ no. cc)));
      after = refl;
    })

pub new-requires : goal.new-requires
new-requires g c =
    reads_checked g.D.Disk.content g.D.Disk.control c.args.recorded.end c.args.limit c.args.bound c.in-Ok.run' c.at_mut-node.result.now.log c.read_run.new.self c.in-Ok.ensures.ok
