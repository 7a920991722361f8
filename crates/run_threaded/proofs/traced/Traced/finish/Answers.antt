use Rattle.std.proofs.Common.{◌≡◌, ◌∙◌, sym, ap, subst, ℕ, List}
use Rattle.tier_base.specs.Reserved.{ReservedItems}
use Rattle.tier_base.specs.declared.names.PartitionId.{PartitionId}
use Rattle.plain_log.specs.declared.journal.JournalEntry.{JournalEntry}
use Rattle.partition_world.specs.Whole.{Whole}
use Rattle.run_threaded.specs.Traced.{IsThreadedRun}
use Rattle.run_threaded.proofs.Leading.{ends_run}
use Rattle.run_threaded.proofs.traced.Traced.finish.Goals as goal

pub returns : goal.returns
returns g c =
    let t = c.run_to_end.new.self in
    let same = c.in_ok-run_to_end.ensures.goes_on.same in
    let run = ends_run g.D.Disk g.S.Store g.M.MetaLog t.script t.place t.partition t.turns t.world c.ends_are_complete.ensures c.reaches_later.ensures c.reaches_in_turn.ensures c.fresh_is_safe.ensures c.replays_keep_safe.ensures c.runs_meet_no_damage.ensures c.reaches_by_plan.ensures
    (c.world.ensures.leads c.in_ok-run_to_end.ensures.goes_on.goes) c.in_ok-run_to_end.ensures.ended in
    let last : c.journal.result.now ≡ t.world.journal = c.journal.ensures ∙ ap (λ (k : Whole g.row.D.Denot g.row.S.Denot g.row.M.Denot). k.journal) c.world.ensures.world in
    subst (λ (k : List ℕ). IsThreadedRun g.D.Disk g.S.Store g.M.MetaLog k c.args.self.now.place (c.args.self.now.partition.0, c.journal.result.now.items)) same.script
    (subst (λ (n : ℕ). IsThreadedRun g.D.Disk g.S.Store g.M.MetaLog t.script n (c.args.self.now.partition.0, c.journal.result.now.items)) same.place
    (subst (λ (k : PartitionId). IsThreadedRun g.D.Disk g.S.Store g.M.MetaLog t.script t.place (k.0, c.journal.result.now.items)) same.partition
    (subst (λ (j : ReservedItems JournalEntry). IsThreadedRun g.D.Disk g.S.Store g.M.MetaLog t.script t.place (t.partition.0, j.items)) (sym last) run)))
