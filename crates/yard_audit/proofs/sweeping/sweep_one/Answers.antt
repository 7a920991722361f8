use Rattle.std.proofs.Common.{◌∙◌}
use Rattle.yard_audit.specs.Rounds.{IsUnderSweepIn}
use Rattle.yard_audit.proofs.Tiers.{on_err}
use Rattle.yard_audit.proofs.Sweeps.{all_unbegun, all_left, swept_left}
use Rattle.yard_audit.proofs.sweeping.sweep_one.Goals as goal

pub returns-in_err-tools-clause-under : goal.returns-in_err-tools-clause-under
returns-in_err-tools-clause-under g c = λ t.
    on_err c.from_residual.result (IsUnderSweepIn g.Y.S.Store.content g.Y.M.MetaLog.content (g.Y.Yard.held c.args.yard.now) (g.Y.Yard.held c.hand_out.new.yard) c.args.partition)
    (all_unbegun g.Y.D.Disk.content g.Y.S.Store.content g.Y.M.MetaLog.content (g.Y.Yard.held c.args.yard.now) (g.Y.Yard.held c.hand_out.new.yard) (c.in_err-tools.ensures.rest t) c.args.partition)

pub returns-in_err-tools-clause-left : goal.returns-in_err-tools-clause-left
returns-in_err-tools-clause-left g c = λ t.
    all_left g.Y.D.Disk.content g.Y.S.Store.content g.Y.M.MetaLog.content (g.Y.Yard.held c.args.yard.now) (g.Y.Yard.held c.hand_out.new.yard) (c.in_err-tools.ensures.rest t) c.args.partition

pub returns-in-Ok-clause-left : goal.returns-in-Ok-clause-left
returns-in-Ok-clause-left g c = λ t.
    let told = c.in_ok-tools.ensures in
    swept_left g.Y.D.Disk.content g.Y.S.Store.content g.Y.M.MetaLog.content (g.Y.Yard.held c.args.yard.now) (g.Y.Yard.held c.hand_out.new.yard) (g.Y.Yard.held c.give_back.new.yard) c.args.partition
    c.in_ok-tools.tools.store c.sweep-swept.new.store c.in_ok-tools.tools.meta c.sweep-swept.new.meta (told.objects t) (told.notes t) (c.give_back.ensures.held (told.is_observable ∙ t))
    (c.sweep-swept.ensures.left (told.objects_told ∙ t) (told.notes_told ∙ t))

pub returns-in-Err-clause-left : goal.returns-in-Err-clause-left
returns-in-Err-clause-left g c = λ t.
    let told = c.in_ok-tools.ensures in
    swept_left g.Y.D.Disk.content g.Y.S.Store.content g.Y.M.MetaLog.content (g.Y.Yard.held c.args.yard.now) (g.Y.Yard.held c.hand_out.new.yard) (g.Y.Yard.held c.give_back.new.yard) c.args.partition
    c.in_ok-tools.tools.store c.sweep-swept.new.store c.in_ok-tools.tools.meta c.sweep-swept.new.meta (told.objects t) (told.notes t) (c.give_back.ensures.held (told.is_observable ∙ t))
    (c.sweep-swept.ensures.left (told.objects_told ∙ t) (told.notes_told ∙ t))
