use Rattle.std.proofs.Common.{◌≡◌, ◌∙◌, sym, ap, take, subst, Bool, Some, None}
use Rattle.std.proofs.lemmas.List.{take_more}
use Rattle.std.proofs.lemmas.Option.{slice_get-get_or}
use Rattle.plain_log.proofs.Replays.{replay_more}
use Rattle.plain_log.specs.declared.state.State.{State}
use Rattle.plain_log.specs.Runs.{entry_step}
use Rattle.plain_executor.specs.Stepped.{Stepped}
use Rattle.plain_executor.proofs.trace.take_all.Goals as goal

pub loop-i-preserved : goal.loop-i-preserved
loop-i-preserved c =
    let r = c.index-journal-i.result in
    let e = take_more c.args.journal.now c.loop-i.i r c.loop-i-test.true in
    let step = subst (λ (t : Bool). Stepped c.loop-i.plain c.take.new.plain (entry_step c.args.lists.now c.loop-i.plain r) t) c.if-not-branch.false c.in_ok-take.ensures in
    rw e (rw (← c.index-journal-i.is) (replay_more c.args.lists.now c.args.plain.now (take c.loop-i.i c.args.journal.now) c.loop-i.plain r c.take.new.plain c.loop-i.invariant step))

pub returns-then-not-branch : goal.returns-then-not-branch
returns-then-not-branch c =
    let r = c.index-journal-i.result in
    let none = subst (λ (t : Bool). Stepped c.loop-i.plain c.take.new.plain (entry_step c.args.lists.now c.loop-i.plain r) t) c.if-not-branch.true c.in_ok-take.ensures in
    record {
      entry = r;
      run = c.loop-i.invariant ∙ ap Some (sym none.1);
      entry_is = slice_get-get_or c.args.journal.now c.loop-i.i r c.loop-i-test.true ∙ ap Some (sym c.index-journal-i.is);
      refused = subst (λ (z : State). entry_step c.args.lists.now z r ≡ None) (sym none.1) none.0;
    }
