use Rattle.std.proofs.Common.{sym, ◌∙◌, ap, ◌-◌, nat_lt, nat_le}
use Rattle.std.specs.Prelude.{count_by}
use Rattle.sparse_index.proofs.Parted.{count-agree}
use Rattle.sparse_index.proofs.OffsetLaws.{up-to-agrees, parted-agrees, none-before}
use Rattle.sparse_index.proofs.offset_index.positions_before.Goals as goal

pub returns-then-position-eq0-clause-count : goal.returns-then-position-eq0-clause-count
returns-then-position-eq0-clause-count c =
    sym (ap (λ n. count_by (λ item. nat_lt item n) c.args.positions.now) c.if-position-eq0.true ∙ none-before c.args.positions.now)

pub count_up_to-requires : goal.count_up_to-requires
count_up_to-requires c =
    parted-agrees (λ item. nat_le item (c.args.position - 1)) (λ item. nat_lt item c.args.position)
    (up-to-agrees c.args.position c.if-position-eq0.false) c.args.positions.now c.requires

pub returns-clause-count : goal.returns-clause-count
returns-clause-count c =
    c.count_up_to.ensures.count
    ∙ count-agree (λ item. nat_le item (c.args.position - 1)) (λ item. nat_lt item c.args.position)
    (up-to-agrees c.args.position c.if-position-eq0.false) c.args.positions.now
