use Rattle.std.proofs.Common.{◌∙◌, ap, refl, subst, ℕ, Err}
use Rattle.broker_log.specs.Read.{ReadsRun, Misreads}
use Rattle.partition_commands.specs.TurnsOfFetch.{MayGive}
use Rattle.partition_commands.proofs.Staying.{at_node, stays_at, has_read}
use Rattle.partition_commands.proofs.Writes.{never}
use Rattle.partition_commands.proofs.Putting.{of_node}
use Rattle.partition_commands.proofs.partition_state.PartitionState.give.Goals as goal

pub returns-in-Ok-clause-row : goal.returns-in-Ok-clause-row
returns-in-Ok-clause-row g c =
    let node = c.at_mut-node.result.now in
    let may : MayGive node c.args.offset c.args.known = of_node c.args.self.now c.args.b node (λ x. MayGive x c.args.offset c.args.known) c.at_mut-node.ensures.value c.requires.node in
    at_node c.args.self.now c.args.b node _ c.at_mut-node.ensures.value (record {
      kept = c.read_run.new.self;
      out = c.in-Ok.run';
      reads = subst (λ (known : ℕ). ReadsRun g.D.Disk.content g.D.Disk.control node.log c.read_run.new.self c.args.offset c.args.limit known c.in-Ok.run') may.1 c.in-Ok.ensures.ok;
      quiet = (c.read_run.ensures.control, c.read_run.ensures.quiet (never c.in-Ok.is (λ no. cc)));
      after = refl;
      tier_is = refl;
      bytes_are = refl;
      size_is = c.len.ensures.value;
      stop_is = refl;
    })

pub returns-in-Err-NoMemory-clause-err : goal.returns-in-Err-NoMemory-clause-err
returns-in-Err-NoMemory-clause-err g c =
    stays_at g.D.Disk.content g.D.Disk.control c.args.self.now c.args.b c.at_mut-node.result.now c.read_run.new.self _ c.at_mut-node.ensures.value c.read_run.ensures.stays
    (c.read_run.ensures.control, c.read_run.ensures.quiet (never (c.in-Err-NoMemory.is ∙ ap Err c.in-Err-NoMemory.field-0-is) (λ no. cc))) refl

pub returns-in-Err-Damaged-clause-row : goal.returns-in-Err-Damaged-clause-row
returns-in-Err-Damaged-clause-row g c =
    let node = c.at_mut-node.result.now in
    let e = c.in-Err-Damaged in
    let may : MayGive node c.args.offset c.args.known = of_node c.args.self.now c.args.b node (λ x. MayGive x c.args.offset c.args.known) c.at_mut-node.ensures.value c.requires.node in
    at_node c.args.self.now c.args.b node _ c.at_mut-node.ensures.value (record {
      kept = c.read_run.new.self;
      misreads = subst (λ (known : ℕ). Misreads g.D.Disk.content g.D.Disk.control node.log c.read_run.new.self c.args.offset c.args.limit known e.file e.at) may.1
          (c.read_run.ensures.damaged e.file e.at (e.is ∙ ap Err e.field-0-is));
      ran = has_read g.D.Disk.control node.log c.read_run.new.self c.args.known node.known_high_watermark c.read_run.result e.file e.at may.1 (e.is ∙ ap Err e.field-0-is) c.read_run.ensures.ran;
      quiet = (c.read_run.ensures.control, c.read_run.ensures.quiet (never (e.is ∙ ap Err e.field-0-is) (λ no. cc)));
      after = refl;
    })
