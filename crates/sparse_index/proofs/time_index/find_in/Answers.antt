use Rattle.std.proofs.Common.{rules, ◌≡◌, ◌∙◌, sym, arith, get_or, pos, ◌-◌, ◌+◌}
use Rattle.std.specs.Prelude.{int_le, count_by}
use Rattle.std.specs.List.{zip}
use Rattle.std.proofs.lemmas.Int.{to_z-of_z}
use mir.Syntax.{w64}
use mir.Val.{SFits}
use Rattle.sparse_index.proofs.TimeLaws.{up-to-parted, moment-none, moment-at}
use Rattle.sparse_index.proofs.time_index.find_in.Goals as goal

pub returns-then-count-eq0 : goal.returns-then-count-eq0
returns-then-count-eq0 c =
    let count : c.count_up_to-count.result ≡ count_by (λ t. int_le t c.args.ts) c.args.times.now = (rw (to_z-of_z w64 c.args.ts c.ranges.ts) at c.count_up_to-count.ensures.count) in
    sym (moment-none (λ t. int_le t c.args.ts) c.args.base c.args.times.now c.args.offsets.now c.requires.even (up-to-parted c.args.ts (zip c.args.times.now c.args.offsets.now) c.requires.entries) (sym count ∙ c.if-count-eq0.true))

pub returns : goal.returns
returns c =
    let count : c.count_up_to-count.result ≡ count_by (λ t. int_le t c.args.ts) c.args.times.now = (rw (to_z-of_z w64 c.args.ts c.ranges.ts) at c.count_up_to-count.ensures.count) in
    let one : c.count_up_to-count.result - 1 + 1 ≡ c.count_up_to-count.result = omega (arith, c.if-count-eq0.false) in
    let fits : SFits w64 (get_or c.args.times.now (c.count_up_to-count.result - 1) (pos 0)) = search rules in
    rw (to_z-of_z w64 (get_or c.args.times.now (c.count_up_to-count.result - 1) (pos 0)) fits)
    (sym (moment-at (λ t. int_le t c.args.ts) c.args.base (c.count_up_to-count.result - 1) c.args.times.now c.args.offsets.now c.requires.even (up-to-parted c.args.ts (zip c.args.times.now c.args.offsets.now) c.requires.entries) (one ∙ count)))
