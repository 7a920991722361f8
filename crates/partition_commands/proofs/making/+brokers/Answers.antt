use Rattle.std.proofs.Common.{true, sym, ap, subst, List, length, arith}
use Rattle.partition_commands.specs.declared.partition_state.Node.{Node}
use Rattle.partition_commands.specs.Fresh.{AreFreshDisks, AreMadeFrom, RefusesOver, is_first}
use Rattle.partition_commands.proofs.FreshDisks.{fresh_split, refuses_more, refuses_last, adds_made, adds_seen, as_many_made, as_many_disks, as_many_of}
use Rattle.partition_commands.proofs.making.+brokers.Goals as goal

pub brokers-requires : goal.brokers-requires
brokers-requires g t c κs within =
    let fresh = subst (AreFreshDisks g.D.Disk.content g.D.Disk.control) c.in-Some.ensures.items c.requires.disks in
    (omega (arith, c.in-Some.ensures.len), (within, (c.requires.settings, (fresh_split g.D.Disk.content g.D.Disk.control c.pop.new.self.items c.in-Some.disk fresh).0)))

pub push_reserved-requires : goal.push_reserved-requires
push_reserved-requires g t c =
    let count = ap (λ (l : List g.row.D.Denot). length l) c.in-Some.ensures.items in
    let back = as_many_disks g.D.Disk.control c.pop.new.self.items c.brokers.new.disks.items c.in-Err.ensures.err.back in
    let room = c.args.disks.now.ok.1 in
    omega (arith, back, c.in-Some.ensures.len, c.brokers.ensures.room, c.pop.ensures.capacity, room, c.brokers.new.disks.ok.0, c.pop.new.self.ok.0)

pub returns-in-Err-clause-err : goal.returns-in-Err-clause-err
returns-in-Err-clause-err g t c =
    let fresh = subst (AreFreshDisks g.D.Disk.content g.D.Disk.control) c.in-Some.ensures.items c.requires.disks in
    rw (c.in-Some.ensures.items, c.push_reserved.ensures.items) (
    refuses_more g.D.Disk.content g.D.Disk.control c.pop.new.self.items c.brokers.new.disks.items c.in-Some.disk c.in-Err.why c.in-Err.ensures.err
    (fresh_split g.D.Disk.content g.D.Disk.control c.pop.new.self.items c.in-Some.disk fresh).1
    )

pub add-requires-clause-disk : goal.add-requires-clause-disk
add-requires-clause-disk g t c =
    let fresh = subst (AreFreshDisks g.D.Disk.content g.D.Disk.control) c.in-Some.ensures.items c.requires.disks in
    (fresh_split g.D.Disk.content g.D.Disk.control c.pop.new.self.items c.in-Some.disk fresh).1

pub give_back-requires-clause-room : goal.give_back-requires-clause-room
give_back-requires-clause-room g t c =
    let made = as_many_made g.D.Disk.content g.D.Disk.control true c.pop.new.self.items c.in-Ok.nodes.items c.in-Ok.ensures.nodes in
    let same = ap (λ (l : List (Node g.row.D.Denot)). length l) c.in-Err-add.ensures.same in
    let room = c.args.disks.now.ok.1 in
    omega (arith, made, same, c.in-Some.ensures.len, c.brokers.ensures.room, c.pop.ensures.capacity, room, c.pop.new.self.ok.0)

pub push_reserved-requires-in-Err-add : goal.push_reserved-requires-in-Err-add
push_reserved-requires-in-Err-add g t c =
    let made = as_many_made g.D.Disk.content g.D.Disk.control true c.pop.new.self.items c.in-Ok.nodes.items c.in-Ok.ensures.nodes in
    let same = ap (λ (l : List (Node g.row.D.Denot)). length l) c.in-Err-add.ensures.same in
    let back = as_many_of c.add.new.nodes.items c.give_back.new.disks.items c.give_back.ensures.disks in
    let room = c.args.disks.now.ok.1 in
    omega (arith, made, same, back, c.in-Some.ensures.len, c.brokers.ensures.room, c.give_back.ensures.room, c.pop.ensures.capacity, room, c.pop.new.self.ok.0, c.give_back.new.disks.ok.0)

pub returns-in-Ok-add-clause-nodes : goal.returns-in-Ok-add-clause-nodes
returns-in-Ok-add-clause-nodes g t c =
    rw c.in-Some.ensures.items (adds_made g.D.Disk.content g.D.Disk.control c.pop.new.self.items c.in-Ok.nodes.items c.add.new.nodes.items c.in-Some.disk c.in-Ok.ensures.nodes c.in-Ok-add.ensures.ok)

pub returns-in-Ok-add-clause-seen : goal.returns-in-Ok-add-clause-seen
returns-in-Ok-add-clause-seen g t c =
    rw c.in-Some.ensures.items (adds_seen g.D.Disk.content g.D.Disk.control c.pop.new.self.items c.in-Ok.nodes.items c.add.new.nodes.items c.in-Some.disk c.in-Ok.ensures.seen c.in-Ok-add.ensures.ok)

pub returns-in-Err-add-clause-err : goal.returns-in-Err-add-clause-err
returns-in-Err-add-clause-err g t c =
    let fresh = subst (AreFreshDisks g.D.Disk.content g.D.Disk.control) c.in-Some.ensures.items c.requires.disks in
    let parts = fresh_split g.D.Disk.content g.D.Disk.control c.pop.new.self.items c.in-Some.disk fresh in
    let made : AreMadeFrom g.D.Disk.control g.D.Disk.content true c.pop.new.self.items c.add.new.nodes.items = rw c.in-Err-add.ensures.same c.in-Ok.ensures.nodes in
    rw (c.in-Some.ensures.items, c.push_reserved-in-Err-add.ensures.items) (
    refuses_last g.D.Disk.content g.D.Disk.control c.pop.new.self.items c.add.new.nodes.items c.give_back.new.disks.items c.in-Some.disk c.in-Err-add.disk c.in-Err-add.why made c.give_back.ensures.disks
    parts.0 parts.1 (subst (λ (l : List (Node g.row.D.Denot)). RefusesOver g.D.Disk.control g.D.Disk.content (is_first l) c.in-Some.disk c.in-Err-add.disk c.in-Err-add.why) (sym c.in-Err-add.ensures.same) c.in-Err-add.ensures.err)
    )

pub returns-in-Ok-add-clause-laid : goal.returns-in-Ok-add-clause-laid
returns-in-Ok-add-clause-laid g t c = c.in-Ok-add.ensures.laid c.in-Ok.ensures.laid
