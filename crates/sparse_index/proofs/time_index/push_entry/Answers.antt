use Rattle.std.proofs.Common.{rules}
use Rattle.std.specs.Int.{w32, to_be_bytes, cast_unsigned}
use Rattle.std.proofs.lemmas.Int.{to_z-of_z}
use mir.Syntax.{w64}
use mir.Val.{SFits}
use Rattle.sparse_index.proofs.BytesLaws.{ok-join}
use Rattle.sparse_index.proofs.time_index.push_entry.Goals as goal

pub returns : goal.returns
returns c =
    let fits : SFits w64 c.args.entry.0 = search rules in
    ok-join c.push_u32.result c.push_u32.new.bytes.items c.push_i64.new.bytes.items c.args.bytes.now.items (to_be_bytes w64 (cast_unsigned w64 c.args.entry.0)) (to_be_bytes w32 c.args.entry.1) c.push_u32.ensures (rw (to_z-of_z w64 c.args.entry.0 fits) at c.in_ok-push_i64.ensures)
