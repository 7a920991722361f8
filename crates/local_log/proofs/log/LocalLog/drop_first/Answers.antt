use Rattle.std.proofs.Common.{ap, subst, inl}
use Rattle.disk_model.specs.Content.{LeavesOnly}
use Rattle.log_steps.specs.Opens.{Opened}
use Rattle.local_log.specs.Log.{Log, flushed_log}
use Rattle.local_log.specs.Cutting.{OpensAsOr}
use Rattle.local_log.specs.Dropping.{dropped, OpensDropped}
use Rattle.log_steps.proofs.Moments.{leaves_then}
use Rattle.local_log.proofs.Retold.{kept_moments, kept_opens, or_last}
use Rattle.local_log.proofs.Sides.{either_kept}
use Rattle.local_log.proofs.log.LocalLog.drop_first.Goals as goal

pub returns-clause-opens : goal.returns-clause-opens
returns-clause-opens g c =
    let content = g.D.Disk.content in
    let o = c.args.self.now in
    let m = c.make_room.new.self in
    let n = c.drop_listed.new.self in
    let same = ap (λ (l : Log g.row.D.Denot). flushed_log (dropped l)) c.make_room.ensures.same in
    subst (λ (p : Opened). LeavesOnly (content o.disk) (content n.disk) (OpensAsOr (content o.disk) p)) same
    (or_last (content o.disk) (content m.disk) (content n.disk) (flushed_log (dropped m)) (g.met.D.Disk.lawful m.disk) (kept_opens (content o.disk) (content m.disk) c.make_room.ensures.keeps) c.drop_listed.ensures.opens)

pub returns-clause-either : goal.returns-clause-either
returns-clause-either g c =
    let content = g.D.Disk.content in
    let m = c.make_room.new.self in
    either_kept (content c.args.self.now.disk) (content m.disk) (content c.drop_listed.new.self.disk) (g.met.D.Disk.lawful m.disk) c.make_room.ensures.keeps c.drop_listed.ensures.either

pub returns-clause-any_moment : goal.returns-clause-any_moment
returns-clause-any_moment g c =
    let content = g.D.Disk.content in
    let o = c.args.self.now in
    let m = c.make_room.new.self in
    let n = c.drop_listed.new.self in
    let P = OpensDropped o in
    leaves_then (content o.disk) (content m.disk) (content n.disk) P
    (kept_moments (content o.disk) (content m.disk) P c.make_room.ensures.keeps (λ f now. inl (c.stands.ensures c.requires.unbroken f now)))
    (subst (λ (l : Log g.row.D.Denot). LeavesOnly (content m.disk) (content n.disk) (OpensDropped l)) c.make_room.ensures.same c.drop_listed.ensures.any_moment)
