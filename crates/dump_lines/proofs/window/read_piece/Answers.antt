use Rattle.std.proofs.Common.{arith, ◌∙◌}
use Rattle.dump_lines.proofs.Reading.{piece}
use Rattle.dump_lines.proofs.window.read_piece.Goals as goal

pub returns : goal.returns
returns g c =
    rw (c.truncate.ensures.items)
    (piece _ _ _ c.read_at.new.bytes.items c.len-held.result c.in_ok-count.count (c.read_at.ensures.front ∙ c.in_ok-make_room.ensures.front)
    (omega (arith, c.read_at.ensures.len, c.in_ok-make_room.ensures.len, c.read_at.new.bytes.ok.0))
    (omega (arith, c.in_ok-count.ensures.fits, c.read_at.new.bytes.ok.0))
    c.in_ok-count.ensures.bytes.0 c.in_ok-count.ensures.bytes.1)
