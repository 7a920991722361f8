use Rattle.std.proofs.Common.{◌≡◌, ◌∙◌, sym, ap, refl, [], ◌∷◌, ◌++◌, List, length, arith, append_assoc}
use Rattle.std.specs.Vec.Iter.{into_iter_items}
use Rattle.run_yard.specs.Yard.{came_of}
use Rattle.run_yard.proofs.Back.{came_none, control_more, keeps_none, keeps_more, left_of, places_left, length_snoc, nothing_left, control_all, keeps_all}
use Rattle.run_yard.proofs.keeping.keep_disks.Goals as goal

pub loop-disk-init : goal.loop-disk-init
loop-disk-init g c =
    let gives = c.into_iter-disk-iterator.ensures.into_iter_gives in
    let same = ap (λ (l : List g.row.Y-D.Denot). length l) gives.0 in
    record {
      done = [];
      over = gives.0;
      many = (let long = gives.1 in omega (arith, same, long));
      at = refl;
      control = came_none _;
      unread = refl;
      held = keeps_none c.args.partition _;
    }

pub keep_disk-requires : goal.keep_disk-requires
keep_disk-requires g c =
    let at = c.loop-disk.invariant in
    left_of (came_of g.Y.D.Disk.control) at.done (into_iter_items c.loop-disk.disk-iterator) c.args.disks.items c.in-Some.disk (into_iter_items c.next.new.self) _ _
    at.over c.in-Some.ensures.steps.0 at.control c.requires.out

pub overflow_add-broker : goal.overflow_add-broker
overflow_add-broker g c =
    let at = c.loop-disk.invariant in
    let count = at.at in
    let long = places_left at.done (into_iter_items c.loop-disk.disk-iterator) c.args.disks.items at.over in
    let few = c.requires.few in
    omega (arith, count, long, few)

pub loop-disk-preserved : goal.loop-disk-preserved
loop-disk-preserved g c =
    let at = c.loop-disk.invariant in
    let steps : into_iter_items c.loop-disk.disk-iterator ≡ c.in-Some.disk ∷ into_iter_items c.next.new.self = c.in-Some.ensures.steps.0 in
    let short = ap (λ (l : List g.row.Y-D.Denot). length l) steps in
    record {
      done = at.done ++ c.in-Some.disk ∷ [];
      over = append_assoc at.done (c.in-Some.disk ∷ []) (into_iter_items c.next.new.self) ∙ (ap (λ (l : List g.row.Y-D.Denot). at.done ++ l) (sym steps) ∙ at.over);
      many = (let was = at.many in let gone = c.in-Some.ensures.steps.1 in omega (arith, was, gone, short));
      at = (let one = length_snoc at.done c.in-Some.disk in let was = at.at in omega (arith, one, was));
      control = control_more (came_of g.Y.D.Disk.control) at.done c.in-Some.disk (g.Y.Yard.control c.args.yard.now) (g.Y.Yard.control c.loop-disk.yard) (g.Y.Yard.control c.keep_disk.new.self)
          at.control c.keep_disk.ensures.control;
      unread = c.keep_disk.ensures.control.registries ∙ at.unread;
      held = keeps_more c.args.partition at.done c.in-Some.disk (record { 0 = c.loop-disk.broker }) (g.Y.Yard.held c.args.yard.now) (g.Y.Yard.held c.loop-disk.yard) (g.Y.Yard.held c.keep_disk.new.self) at.at at.held c.keep_disk.ensures.is_observable c.keep_disk.ensures.held;
    }

pub returns : goal.returns
returns g c =
    let at = c.loop-disk.invariant in
    let all : at.done ≡ c.args.disks.items = nothing_left at.done (into_iter_items c.loop-disk.disk-iterator) c.args.disks.items at.over (omega (arith, at.many, c.in-None.ensures.steps.0)) in
    record {
      control = control_all (came_of g.Y.D.Disk.control) at.done c.args.disks.items _ _ all at.control;
      unread = at.unread;
      held = keeps_all c.args.partition at.done c.args.disks.items _ _ all at.held;
    }
