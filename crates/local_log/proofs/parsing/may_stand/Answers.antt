use Rattle.std.proofs.Common.{◌≡◌, ◌∙◌, ℕ, sym, ap, rules, arith, Some}
use Rattle.std.specs.Int.{w32, w64, cast_unsigned}
use Rattle.local_log.proofs.Parsed.{same_some, some_same}
use Rattle.local_log.proofs.parsing.may_stand.Goals as goal

pub returns : goal.returns
returns c =
    let head = c.args.head.now in
    let base : c.cast_unsigned.result ≡ cast_unsigned w64 head.base_offset = search rules in
    let delta : c.cast_unsigned-delta.result ≡ cast_unsigned w32 head.last_offset_delta = search rules in
    let epoch : c.cast_unsigned-epoch.result ≡ cast_unsigned w32 head.leader_epoch = search rules in (
      λ t. record {
        begins = sym base ∙ c.if-cast_unsigned-end.false;
        near = omega (arith, c.if-last-base-ge-REACH.false, delta);
        low = omega (arith, c.if-last-ge-OFFSET_LIMIT.false, delta);
        epoch = sym c.epoch_at.ensures ∙ same_some c.epoch_at.result c.cast_unsigned-epoch.result (sym c.eq.ensures ∙ t) ∙ ap (λ (n : ℕ). Some n) epoch;
      },
      λ m. c.eq.ensures ∙ some_same c.epoch_at.result c.cast_unsigned-epoch.result (c.epoch_at.ensures ∙ m.epoch ∙ ap (λ (n : ℕ). Some n) (sym epoch)),
    )

pub returns-then-last-ge-OFFSET_LIMIT : goal.returns-then-last-ge-OFFSET_LIMIT
returns-then-last-ge-OFFSET_LIMIT c =
    let delta : c.cast_unsigned-delta.result ≡ cast_unsigned w32 c.args.head.now.last_offset_delta = search rules in (
      λ t. absurd (cc (t)),
      λ m. absurd (let low = m.low in omega (arith, c.if-last-ge-OFFSET_LIMIT.true, delta, low)),
    )

pub returns-then-cast_unsigned-end : goal.returns-then-cast_unsigned-end
returns-then-cast_unsigned-end c =
    let base : c.cast_unsigned.result ≡ cast_unsigned w64 c.args.head.now.base_offset = search rules in (
      λ t. absurd (cc (t)),
      λ m. absurd (c.if-cast_unsigned-end.true (base ∙ m.begins)),
    )

pub returns-then-last-base-ge-REACH : goal.returns-then-last-base-ge-REACH
returns-then-last-base-ge-REACH c =
    let delta : c.cast_unsigned-delta.result ≡ cast_unsigned w32 c.args.head.now.last_offset_delta = search rules in (
      λ t. absurd (cc (t)),
      λ m. absurd (let near = m.near in omega (arith, c.if-last-base-ge-REACH.true, delta, near)),
    )
