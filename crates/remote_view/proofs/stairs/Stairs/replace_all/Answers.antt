use Rattle.std.proofs.Common.{◌∙◌}
use Rattle.remote_view.proofs.Renewing.{replaced_one, room_front, room_kept}
use Rattle.remote_view.proofs.stairs.Stairs.replace_all.Goals as goal

pub loop-stair-preserved : goal.loop-stair-preserved
loop-stair-preserved c = record {
  all = λ e. replaced_one c.loop-stair.stairs c.pop.new.self c.in-Some.stair e _ _ c.in-Some.ensures.items (c.replace.ensures.stairs e) ∙ c.loop-stair.invariant.all e;
  room = room_kept c.loop-stair.self c.replace.new.self c.pop.new.self c.replace.ensures.room (room_front c.loop-stair.self c.pop.new.self c.in-Some.stair (rw c.in-Some.ensures.items at c.loop-stair.invariant.room)).0;
}
