use Rattle.std.proofs.Common.{sym, ap, subst, List, map, length, arith}
use Rattle.tier_base.specs.Device.{fate_of_trouble}
use Rattle.run_yard.specs.Yard.{came_of}
use Rattle.run_yard.proofs.Back.{length_snoc}
use Rattle.run_yard.proofs.Out.{SoFar, so_far_more, back_again, back_risen, as_many, gone_wrong, as_fault}
use Rattle.run_yard.proofs.Stopped.{disks_again}
use Rattle.run_yard.proofs.handing.hand_disks.Goals as goal

pub returns-in-Err-clause-err : goal.returns-in-Err-clause-err
returns-in-Err-clause-err g c =
    let came = map (came_of g.Y.D.Disk.control) c.loop-broker.disks.items in (
      came,
      back_again came (g.Y.Yard.control c.args.yard.now) (g.Y.Yard.control c.loop-broker.yard) (g.Y.Yard.control c.disk.new.self) (g.Y.Yard.control c.keep_disks.new.yard)
          (fate_of_trouble c.in-Err.trouble) (as_many (came_of g.Y.D.Disk.control) c.loop-broker.disks.items _ _ c.loop-broker.invariant.so_far.control) (gone_wrong c.in-Err.trouble)
          c.in-Err.ensures.control c.keep_disks.ensures.control,
    )

pub returns-in-Err-clause-cause : goal.returns-in-Err-clause-cause
returns-in-Err-clause-cause g c = λ failed.
    let came = map (came_of g.Y.D.Disk.control) c.loop-broker.disks.items in
    back_risen came (g.Y.Yard.control c.args.yard.now) (g.Y.Yard.control c.loop-broker.yard) (g.Y.Yard.control c.disk.new.self) (g.Y.Yard.control c.keep_disks.new.yard)
    (as_many (came_of g.Y.D.Disk.control) c.loop-broker.disks.items _ _ c.loop-broker.invariant.so_far.control)
    (as_fault c.in-Err.trouble (g.Y.Yard.control c.loop-broker.yard) (g.Y.Yard.control c.disk.new.self) failed c.in-Err.ensures.control) c.keep_disks.ensures.control

pub loop-broker-preserved : goal.loop-broker-preserved
loop-broker-preserved g c =
    let at = c.loop-broker.invariant in
    let d = c.in-Ok.disk in
    let said = c.in-Ok.ensures in
    let same = c.push_reserved.ensures.items in
    record {
      at = (let long = ap (λ (l : List g.row.Y-D.Denot). length l) same in let one = length_snoc c.loop-broker.disks.items d in let was = at.at in omega (arith, long, one, was));
      most = (let less = c.loop-broker-test.true in omega (arith, less));
      room = (let kept = c.push_reserved.ensures.capacity in let was = at.room in omega (arith, kept, was));
      so_far = subst (λ (l : List g.row.Y-D.Denot). SoFar g.Y.D.Disk g.Y.S.Store g.Y.M.MetaLog c.args.partition (g.Y.Yard.held c.args.yard.now) (g.Y.Yard.held c.disk.new.self) (g.Y.Yard.control c.args.yard.now) (g.Y.Yard.control c.disk.new.self) l) (sym same)
          (so_far_more g.Y.D.Disk g.Y.S.Store g.Y.M.MetaLog c.args.partition (record { 0 = c.loop-broker.broker }) (g.Y.Yard.held c.args.yard.now) (g.Y.Yard.held c.loop-broker.yard) (g.Y.Yard.held c.disk.new.self)
          (g.Y.Yard.control c.args.yard.now) (g.Y.Yard.control c.loop-broker.yard) (g.Y.Yard.control c.disk.new.self) c.loop-broker.disks.items d at.at at.so_far
          said.control said.is_observable said.fresh said.told said.content said.out);
    }

pub returns-in-Err-clause-same : goal.returns-in-Err-clause-same
returns-in-Err-clause-same g c = λ t.
    let so = c.loop-broker.invariant.so_far in
    disks_again g.Y.D.Disk g.Y.S.Store g.Y.M.MetaLog c.args.partition c.loop-broker.disks.items (g.Y.Yard.held c.args.yard.now) (g.Y.Yard.held c.loop-broker.yard) (g.Y.Yard.held c.disk.new.self) (g.Y.Yard.held c.keep_disks.new.yard)
    (so.hands t) so.only (so.rest t) (record { store = so.stores t; log = so.logs t; registry = so.registries t }) c.in-Err.ensures.err c.keep_disks.ensures.held t
