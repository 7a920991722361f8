use Rattle.std.proofs.Common.{ap, subst, ◌∙◌}
use Rattle.disk_model.specs.Content.{LeavesOnly}
use Rattle.segment_file.specs.Growing.{Grown}
use Rattle.log_steps.specs.Opens.{Opened}
use Rattle.local_log.specs.Log.{Log}
use Rattle.local_log.specs.Cutting.{OpensAsOr, all_of, restarted}
use Rattle.local_log.proofs.Retold.{kept_opens, or_last}
use Rattle.local_log.proofs.Sides.{either_kept}
use Rattle.local_log.proofs.log.LocalLog.restart_at.Goals as goal

pub returns-clause-opens : goal.returns-clause-opens
returns-clause-opens g c =
    let content = g.D.Disk.content in
    let o = c.args.self.now in
    let m = c.make_room.new.self in
    let n = c.begin_at.new.self in
    let base = c.new-active.result.base in
    let same =
    ap (λ (l : Log g.row.D.Denot). all_of (restarted l base c.args.line)) c.make_room.ensures.same
    ∙ ap (λ (x : Grown). all_of (restarted o x.base c.args.line)) c.new-active.ensures in
    subst (λ (p : Opened). LeavesOnly (content o.disk) (content n.disk) (OpensAsOr (content o.disk) p)) same
    (or_last (content o.disk) (content m.disk) (content n.disk) (all_of (restarted m base c.args.line)) (g.met.D.Disk.lawful m.disk) (kept_opens (content o.disk) (content m.disk) c.make_room.ensures.keeps) c.begin_at.ensures.opens)

pub returns-clause-either : goal.returns-clause-either
returns-clause-either g c =
    let content = g.D.Disk.content in
    let m = c.make_room.new.self in
    either_kept (content c.args.self.now.disk) (content m.disk) (content c.begin_at.new.self.disk) (g.met.D.Disk.lawful m.disk) c.make_room.ensures.keeps c.begin_at.ensures.either
