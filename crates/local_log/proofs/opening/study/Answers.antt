use Rattle.disk_model.specs.Content.{Lawful}
use Rattle.local_log.proofs.Keeping.{keeps_then}
use Rattle.local_log.proofs.opening.study.Goals as goal

pub returns-in_err-make_room-clause-content : goal.returns-in_err-make_room-clause-content
returns-in_err-make_room-clause-content g c =
    let content = g.D.Disk.content in
    let laws : Lawful (content c.args.disk.now) = g.met.D.Disk.lawful c.args.disk.now in
    let laws' : Lawful (content c.plan_on.new.disk) = g.met.D.Disk.lawful c.plan_on.new.disk in
    keeps_then (content c.args.disk.now) (content c.plan_on.new.disk) (content c.make_room.new.disk) laws c.plan_on.ensures.content
    (keeps_then (content c.plan_on.new.disk) (content c.list.new.self) (content c.make_room.new.disk) laws' c.list.ensures.content c.make_room.ensures.content)

pub returns-clause-content : goal.returns-clause-content
returns-clause-content g c =
    let content = g.D.Disk.content in
    let laws : Lawful (content c.args.disk.now) = g.met.D.Disk.lawful c.args.disk.now in
    let laws' : Lawful (content c.plan_on.new.disk) = g.met.D.Disk.lawful c.plan_on.new.disk in
    keeps_then (content c.args.disk.now) (content c.plan_on.new.disk) (content c.make_room.new.disk) laws c.plan_on.ensures.content
    (keeps_then (content c.plan_on.new.disk) (content c.list.new.self) (content c.make_room.new.disk) laws' c.list.ensures.content c.make_room.ensures.content)
