use Rattle.std.proofs.Common.{rules, sym, ap, ◌∙◌, pos}
use Rattle.std.specs.Prelude.{◌+ℤ◌}
use Rattle.std.proofs.lemmas.Int.{to_z-of_z}
use mir.Syntax.{w64}
use mir.Val.{SFits, to_z}
use Rattle.sparse_index.proofs.TimeLaws.{all-counted, column-before}
use Rattle.sparse_index.proofs.time_index.count_up_to.Goals as goal

pub returns-then-ts-eq9223372036854775807-clause-count : goal.returns-then-ts-eq9223372036854775807-clause-count
returns-then-ts-eq9223372036854775807-clause-count c = sym (all-counted c.args.ts c.args.times.now c.args.offsets.now c.requires.even c.requires.entries (sym (to_z-of_z w64 c.args.ts c.ranges.ts) ∙ ap (to_z w64) c.if-ts-eq9223372036854775807.true))

pub count_before-requires : goal.count_before-requires
count_before-requires c =
    let next : SFits w64 (c.args.ts +ℤ pos 1) = search rules in
    rw (to_z-of_z w64 c.args.ts c.ranges.ts, to_z-of_z w64 (c.args.ts +ℤ pos 1) next) (column-before (c.args.ts +ℤ pos 1) c.args.times.now c.args.offsets.now c.requires.even c.requires.entries)
