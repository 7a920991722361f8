use Rattle.std.proofs.Common.{arith}
use Rattle.remote_view.proofs.Gone.{gone_push}
use Rattle.remote_view.proofs.Placing.{places_push}
use Rattle.remote_view.proofs.known.Known.add.Goals as goal

pub invariant_of-self-2 : goal.invariant_of-self-2
invariant_of-self-2 c = rw (c.push_reserved.ensures.items, c.in_ok-reserve.ensures.items) (record {
  right = places_push c.self.inside.places c.insert.new.self c.self.inside.entries.items c.args.entry c.len.result (omega (arith, c.len.ensures, c.in_ok-reserve.ensures.len)) c.number_of.ensures.kept (rw c.self.view_is c.requires)
      c.self.invariant.right (rw c.number_of.ensures.value at c.in_ok-insert.ensures.updates);
  begins = gone_push c.self.inside.gone c.self.inside.entries.items c.args.entry c.self.invariant.begins;
})
