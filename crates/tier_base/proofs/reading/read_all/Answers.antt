use Rattle.std.proofs.Common.{◌≤◌, ◌+◌, ◌∙◌, length, arith}
use Rattle.tier_base.proofs.Known.{Consumes-piece, Gave-piece, GaveUpTo-piece}
use Rattle.tier_base.proofs.reading.read_all.Goals as goal

pub pieces-preserved : goal.pieces-preserved
pieces-preserved g c = record {
  taken = Consumes-piece _ _ _ _ _ _ _ c.pieces.invariant.taken (c.read_at.ensures.front ∙ c.make_room.ensures.front)
      c.in-Ok-read_at.ensures.bytes.0;
  is_observable = c.in-Ok-read_at.ensures.is_observable ∙ c.pieces.invariant.is_observable;
  count = omega (arith, c.in-Ok-read_at.ensures.count, c.pieces.invariant.count);
  within = omega (arith, c.in-Ok-read_at.ensures.fits, c.read_at.ensures.len);
  bound = omega (arith, c.make_room.ensures.bound, c.read_at.ensures.len);
  below = omega (arith, c.if-read-limit.false);
  later = omega (arith, c.pieces.invariant.later, c.in-Ok-read_at.ensures.cause.later);
}

pub returns-then-read-limit-clause-err : goal.returns-then-read-limit-clause-err
returns-then-read-limit-clause-err g c =
    let held : c.pieces.read + c.in-Ok-read_at.count ≤ length c.read_at.new.bytes.items
    = omega (arith, c.in-Ok-read_at.ensures.fits, c.read_at.ensures.len, c.read_at.new.bytes.ok.0) in
    GaveUpTo-piece _ _ _ _ (c.pieces.read + c.in-Ok-read_at.count) _ c.read_at.new.bytes.items
    (Consumes-piece _ _ _ _ _ _ _ c.pieces.invariant.taken (c.read_at.ensures.front ∙ c.make_room.ensures.front)
    c.in-Ok-read_at.ensures.bytes.0)
    held
    (omega (arith, held, c.make_room.ensures.bound, c.read_at.ensures.len, c.read_at.new.bytes.ok.0))
    (omega (arith, c.in-Ok-read_at.ensures.count, c.pieces.invariant.count))

pub returns-then-read-limit-clause-long : goal.returns-then-read-limit-clause-long
returns-then-read-limit-clause-long g c = λ _.
    let held : c.pieces.read + c.in-Ok-read_at.count ≤ length c.read_at.new.bytes.items
    = omega (arith, c.in-Ok-read_at.ensures.fits, c.read_at.ensures.len, c.read_at.new.bytes.ok.0) in
    Gave-piece _ _ (c.pieces.read + c.in-Ok-read_at.count) _ c.read_at.new.bytes.items
    (Consumes-piece _ _ _ _ _ _ _ c.pieces.invariant.taken (c.read_at.ensures.front ∙ c.make_room.ensures.front)
    c.in-Ok-read_at.ensures.bytes.0)
    held
    (omega (arith, held, c.if-read-limit.true, c.make_room.ensures.bound, c.read_at.ensures.len, c.read_at.new.bytes.ok.0))
