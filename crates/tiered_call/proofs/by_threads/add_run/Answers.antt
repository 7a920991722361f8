use Rattle.std.proofs.Common.{◌∙◌, ap, List, ℕ, ◌++◌}
use Rattle.std.proofs.lemmas.Result.{IfOk-weaker}
use Rattle.tier_base.specs.declared.names.PartitionId.{PartitionId}
use Rattle.trace_text.specs.Trace.{journal_text}
use Rattle.tiered_call.proofs.by_threads.add_run.Goals as goal

pub returns : goal.returns
returns c =
    let journal = c.in_ok-finish.field-0.now in
    IfOk-weaker c.joined.result _ _
    (λ text is. record {
      run = (c.args.run.partition.0, journal.items);
      is = c.in_ok-finish.ensures;
      added = is ∙ ap (λ (t : List ℕ). c.args.text.items ++ t) (c.in_ok-printed.ensures ∙ ap (λ (p : PartitionId). journal_text p.0 journal.items) c.partition-partition.ensures);
    })
    c.joined.ensures
