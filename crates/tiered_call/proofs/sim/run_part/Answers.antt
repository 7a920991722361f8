use Rattle.std.proofs.Common.{◌∙◌, ap, List, ℕ, ◌++◌}
use Rattle.std.proofs.lemmas.Result.{IfOk-weaker}
use Rattle.plain_log.specs.declared.journal.JournalEntry.{JournalEntry}
use Rattle.tier_base.specs.Reserved.{ReservedItems}
use Rattle.trace_text.specs.Trace.{journal_text}
use Rattle.tiered_call.proofs.sim.run_part.Goals as goal

pub returns : goal.returns
returns c =
    IfOk-weaker c.joined.result _ _
    (λ text is. record {
      run = (c.args.part.partition.0, c.in_ok-world.world.journal.items);
      is = c.in_ok-world.ensures.run;
      added = is ∙ ap (λ (t : List ℕ). c.args.text.items ++ t) (c.in_ok-printed.ensures ∙ ap (λ (k : ReservedItems JournalEntry). journal_text c.args.part.partition.0 k.items) c.journal.ensures);
    })
    c.joined.ensures
