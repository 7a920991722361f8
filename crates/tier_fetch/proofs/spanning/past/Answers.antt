use Rattle.std.proofs.Common.{rules, ◌≡◌, ◌∙◌, ◌<◌, ◌≤◌, ◌+◌, ◌-◌, ℕ, sym, ap, subst}
use Rattle.std.specs.Prelude.{nat_le, nat_lt, not, filter}
use Rattle.std.specs.List.Sorted.{IsPartitionedBy}
use Rattle.std.proofs.lemmas.List.Sorted.{IsPartitionPoint-from_clause}
use Rattle.epoch_line.proofs.Halving.{drop-parted}
use Rattle.tier_fetch.proofs.Past.{base_found, firsts, firsts-parted, all-past, past-not}
use Rattle.tier_fetch.proofs.spanning.past.Goals as goal

pub returns-then-offset-base : goal.returns-then-offset-base
returns-then-offset-base c =
    let index = c.args.index.now in
    let base : c.find-base.result.0 ≡ index.base = ap (λ (found : ℕ × ℕ). found.0) c.find-base.ensures ∙ base_found index in
    let low : c.args.offset < index.base = subst (λ n. c.args.offset < n) base c.if-offset-base.true in
    c.offsets-offsets.ensures.offsets ∙ sym (all-past index.base c.args.offset (firsts index.entries) low)

pub returns : goal.returns
returns c =
    let index = c.args.index.now in
    let base : c.find-base.result.0 ≡ index.base = ap (λ (found : ℕ × ℕ). found.0) c.find-base.ensures ∙ base_found index in
    let low : index.base ≤ c.args.offset = subst (λ n. n ≤ c.args.offset) base c.if-offset-base.false in
    let far = c.args.offset - c.find-base.result.0 in
    let parted : IsPartitionedBy (λ last. nat_le last far) c.offsets-offsets.result.now = rw c.offsets-offsets.ensures.offsets (firsts-parted far index.entries c.offsets-offsets.ensures.rise) in
    let point = IsPartitionPoint-from_clause (λ last. nat_le last far) c.offsets-offsets.result.now _ c.partition_point-passed.ensures.partitioned parted (λ a r q k. search rules) in
    let behind = drop-parted (λ last. nat_le last far) (λ last. nat_lt c.args.offset (index.base + last)) c.offsets-offsets.result.now c.partition_point-passed.result
    (λ last. past-not index.base c.args.offset low last ∙ ap (λ n. not (nat_le last (c.args.offset - n))) (sym base)) c.partition_point-passed.ensures.bound point in
    c.split_at.ensures.back ∙ (behind ∙ ap (λ xs. filter (λ last. nat_lt c.args.offset (index.base + last)) xs) c.offsets-offsets.ensures.offsets)
