use Rattle.std.proofs.Common.{◌≡◌, ◌∙◌, sym, ap, subst, [], ◌∷◌, ◌++◌, List, length, arith, append_assoc, append-nil}
use Rattle.std.specs.Vec.Iter.{into_iter_items}
use Rattle.partition_commands.specs.declared.partition_state.Node.{Node}
use Rattle.partition_commands.specs.Fresh.{AreDisksOf}
use Rattle.partition_commands.proofs.FreshDisks.{disks_more}
use Rattle.partition_commands.proofs.making.give_back.Goals as goal

pub loop-node-init : goal.loop-node-init
loop-node-init g c =
    let gives = c.into_iter-node-iterator.ensures.into_iter_gives in
    let same = ap (λ (l : List (Node g.row.D.Denot)). length l) gives.0 in
    record {
      over = ([], gives.0, rw c.requires.none tt);
      many = (let long = gives.1 in omega (arith, same, long));
      room = (let none = c.args.disks.now.ok.0 ∙ ap (λ (l : List g.row.D.Denot). length l) c.requires.none in omega (arith, same, none, c.requires.room));
      same = omega arith;
    }

pub push_reserved-requires : goal.push_reserved-requires
push_reserved-requires g c =
    let steps = ap (λ (l : List (Node g.row.D.Denot)). length l) c.in-Some.ensures.steps.0 in
    omega (arith, steps, c.loop-node.invariant.room)

pub loop-node-preserved : goal.loop-node-preserved
loop-node-preserved g c =
    let at = c.loop-node in
    let steps : into_iter_items at.node-iterator ≡ c.in-Some.node ∷ into_iter_items c.next.new.self = c.in-Some.ensures.steps.0 in
    let short = ap (λ (l : List (Node g.row.D.Denot)). length l) steps in
    let over = at.invariant.over in
    record {
      over = (
        over.0 ++ c.in-Some.node ∷ [],
        append_assoc over.0 (c.in-Some.node ∷ []) (into_iter_items c.next.new.self) ∙ (ap (λ (l : List (Node g.row.D.Denot)). over.0 ++ l) (sym steps) ∙ over.1),
        rw c.push_reserved.ensures.items (disks_more over.0 at.disks.items c.in-Some.node c.close.result over.2 c.close.ensures.disk),
      );
      many = (let was = at.invariant.many in let gone = c.in-Some.ensures.steps.1 in omega (arith, was, gone, short));
      room = (let was = at.invariant.room in let long = c.push_reserved.ensures.len in let same = c.push_reserved.ensures.capacity in omega (arith, was, long, same, short));
      same = c.push_reserved.ensures.capacity ∙ at.invariant.same;
    }

pub returns-clause-disks : goal.returns-clause-disks
returns-clause-disks g c =
    let at = c.loop-node in
    none at.invariant.over.0 _ _ at.invariant.over.1 (omega (arith, at.invariant.many, c.in-None.ensures.steps.0)) at.invariant.over.2
  where
    none : (done left all : List (Node g.row.D.Denot)) → done ++ left ≡ all → length left ≡ 0 → AreDisksOf done c.loop-node.disks.items → AreDisksOf all c.loop-node.disks.items
    none done [] all is short f = subst (λ (l : List (Node g.row.D.Denot)). AreDisksOf l c.loop-node.disks.items) (sym (append-nil done) ∙ is) f
    none done (d ∷ left) all is short f = absurd (omega (arith, short))

pub returns-clause-room : goal.returns-clause-room
returns-clause-room g c = c.loop-node.invariant.same
