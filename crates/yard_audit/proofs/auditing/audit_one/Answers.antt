use Rattle.std.proofs.Common.{◌∙◌}
use Rattle.std.proofs.Common.{sym, subst, IsTrue}
use Rattle.tier_sweep.specs.Sweeping.{tier_of}
use Rattle.yard_audit.proofs.Tiers.{handed_back, handed_tier}
use Rattle.yard_audit.proofs.auditing.audit_one.Goals as goal

pub returns-in-Ok-clause-right : goal.returns-in-Ok-clause-right
returns-in-Ok-clause-right g c = λ t.
    let tools = c.in_ok-tools.tools in
    let told = c.in_ok-tools.ensures in record {
      tier = tier_of (g.Y.S.Store.content tools.store) (g.Y.M.MetaLog.content tools.meta);
      held_so = handed_tier g.Y.D.Disk.content g.Y.S.Store.content g.Y.M.MetaLog.content (g.Y.Yard.held c.args.yard.now) c.args.partition tools.store tools.meta (told.objects t) (told.notes t);
      is = c.in-Ok.ensures.verdict (subst IsTrue (sym told.objects_told) t) (subst IsTrue (sym told.notes_told) t);
    }

pub returns-in-Ok-clause-rest : goal.returns-in-Ok-clause-rest
returns-in-Ok-clause-rest g c = λ t.
    let told = c.in_ok-tools.ensures in
    handed_back g.Y.D.Disk.content g.Y.S.Store.content g.Y.M.MetaLog.content (g.Y.Yard.held c.args.yard.now) (g.Y.Yard.held c.hand_out.new.yard) (g.Y.Yard.held c.give_back.new.yard) c.args.partition
    c.in_ok-tools.tools.store c.audit-verdict.new.store c.in_ok-tools.tools.meta c.audit-verdict.new.meta (told.objects t) (told.notes t)
    c.audit-verdict.ensures.store_kept c.audit-verdict.ensures.meta_kept (told.out t) (c.give_back.ensures.held (told.is_observable ∙ t))

pub returns-in-Err-clause-rest : goal.returns-in-Err-clause-rest
returns-in-Err-clause-rest g c = λ t.
    let told = c.in_ok-tools.ensures in
    handed_back g.Y.D.Disk.content g.Y.S.Store.content g.Y.M.MetaLog.content (g.Y.Yard.held c.args.yard.now) (g.Y.Yard.held c.hand_out.new.yard) (g.Y.Yard.held c.give_back.new.yard) c.args.partition
    c.in_ok-tools.tools.store c.audit-verdict.new.store c.in_ok-tools.tools.meta c.audit-verdict.new.meta (told.objects t) (told.notes t)
    c.audit-verdict.ensures.store_kept c.audit-verdict.ensures.meta_kept (told.out t) (c.give_back.ensures.held (told.is_observable ∙ t))
