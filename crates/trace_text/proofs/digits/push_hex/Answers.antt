use Rattle.std.proofs.lemmas.List.{take-append-drop}
use Rattle.trace_text.proofs.Weaving.{more}
use Rattle.trace_text.proofs.digits.push_hex.Goals as goal

pub loop-rest-preserved : goal.loop-rest-preserved
loop-rest-preserved c =
    more c.loop-rest.text.items _ _ _ c.loop-rest.rest.now _ c.in_ok-push_lanes.ensures
    (rw (c.split_at.ensures.front, c.split_at.ensures.back) (take-append-drop 64 c.loop-rest.rest.now))
    c.loop-rest.invariant
