use Rattle.std.proofs.Common.{◌∙◌, sym, ap, subst}
use Rattle.plain_log.specs.declared.journal.JournalEntry.{JournalEntry}
use Rattle.plain_executor.specs.Fits.{AreFor}
use Rattle.tier_base.specs.Reserved.{ReservedItems}
use Rattle.tiered_call.proofs.Telling.{fits, told_at, run_is_told}
use Rattle.tiered_call.proofs.load.tell_part.Goals as goal

pub tell-requires : goal.tell-requires
tell-requires c = record {
  some = c.requires.config.some;
  few = c.requires.config.few;
  fit = subst AreFor (sym (c.lists.ensures ∙ c.in_ok-world.ensures.lists)) (fits c.args.config c.args.part.lists c.requires.fit);
}

pub unreachable-requires : goal.unreachable-requires
unreachable-requires c =
    let part = c.args.part in
    let journal = c.in_ok-world.world.journal.items in
    run_is_told c.args.config part.partition.0 part.lists journal c.in_ok-world.ensures.run.plain
    (told_at c.args.config part.partition.0 part.lists c.lists.result.now journal c.items.result.now c.in_ok-told.field-0
    (c.lists.ensures ∙ c.in_ok-world.ensures.lists)
    (c.items.ensures ∙ ap (λ (k : ReservedItems JournalEntry). k.items) c.journal.ensures)
    c.in_ok-told.ensures ∙ c.in-None.is)

pub returns : goal.returns
returns c =
    let part = c.args.part in
    let journal = c.in_ok-world.world.journal.items in
    record {
      run = (part.partition.0, journal);
      is = c.in_ok-world.ensures.run;
      is_observable = told_at c.args.config part.partition.0 part.lists c.lists.result.now journal c.items.result.now c.in_ok-told.field-0
          (c.lists.ensures ∙ c.in_ok-world.ensures.lists)
          (c.items.ensures ∙ ap (λ (k : ReservedItems JournalEntry). k.items) c.journal.ensures)
          c.in_ok-told.ensures ∙ c.in-Some.is;
    }
