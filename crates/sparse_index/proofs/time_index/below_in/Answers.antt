use Rattle.std.proofs.Common.{rules, ◌≡◌, ◌∙◌, sym, arith, get_or, pos, ◌-◌, ◌+◌}
use Rattle.std.specs.Prelude.{int_lt}
use Rattle.std.specs.List.{zip}
use Rattle.std.proofs.lemmas.Int.{to_z-of_z}
use Rattle.lane_scan.specs.Count.{count_lt}
use mir.Syntax.{w64}
use mir.Val.{SFits}
use Rattle.sparse_index.proofs.TimeLaws.{column-before, before-parted, moment-none, moment-at}
use Rattle.sparse_index.proofs.time_index.below_in.Goals as goal

pub count_before-count-requires : goal.count_before-count-requires
count_before-count-requires c = rw (to_z-of_z w64 c.args.ts c.ranges.ts) (column-before c.args.ts c.args.times.now c.args.offsets.now c.requires.even c.requires.entries)

pub returns-then-count-eq0 : goal.returns-then-count-eq0
returns-then-count-eq0 c =
    let count : c.count_before-count.result ≡ count_lt c.args.times.now c.args.ts = (rw (to_z-of_z w64 c.args.ts c.ranges.ts) at c.count_before-count.ensures.count) in
    sym (moment-none (λ t. int_lt t c.args.ts) c.args.base c.args.times.now c.args.offsets.now c.requires.even (before-parted c.args.ts (zip c.args.times.now c.args.offsets.now) c.requires.entries) (sym count ∙ c.if-count-eq0.true))

pub returns : goal.returns
returns c =
    let count : c.count_before-count.result ≡ count_lt c.args.times.now c.args.ts = (rw (to_z-of_z w64 c.args.ts c.ranges.ts) at c.count_before-count.ensures.count) in
    let one : c.count_before-count.result - 1 + 1 ≡ c.count_before-count.result = omega (arith, c.if-count-eq0.false) in
    let fits : SFits w64 (get_or c.args.times.now (c.count_before-count.result - 1) (pos 0)) = search rules in
    rw (to_z-of_z w64 (get_or c.args.times.now (c.count_before-count.result - 1) (pos 0)) fits)
    (sym (moment-at (λ t. int_lt t c.args.ts) c.args.base (c.count_before-count.result - 1) c.args.times.now c.args.offsets.now c.requires.even (before-parted c.args.ts (zip c.args.times.now c.args.offsets.now) c.requires.entries) (one ∙ count)))
