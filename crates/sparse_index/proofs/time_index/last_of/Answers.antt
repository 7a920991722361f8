use Rattle.std.proofs.Common.{rules, sym, ◌-◌, arith, length, get_or, pos}
use Rattle.std.proofs.lemmas.Int.{to_z-of_z}
use mir.Syntax.{w64}
use mir.Val.{SFits}
use Rattle.sparse_index.proofs.TimeLaws.{last-columns}
use Rattle.sparse_index.proofs.time_index.last_of.Goals as goal

pub returns : goal.returns
returns c =
    let fits : SFits w64 (get_or c.args.times.now (length c.args.times.now - 1) (pos 0)) = search rules in
    rw (to_z-of_z w64 (get_or c.args.times.now (length c.args.times.now - 1) (pos 0)) fits)
    (sym (last-columns c.args.times.now c.args.offsets.now (length c.args.times.now - 1) c.requires (omega (arith, c.if-count-eq0.false))))
