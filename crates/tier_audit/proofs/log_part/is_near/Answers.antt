use Rattle.std.proofs.Common.{◌≡◌, ◌∙◌, sym, rules, subst, arith, ℤ, to_z, of_z, w32, w64, IsTrue}
use Rattle.std.specs.Prelude.{◌≤ℤ◌, int_le}
use Rattle.std.specs.Int.{cast_unsigned}
use Rattle.std.proofs.lemmas.Int.{ints}
use Rattle.tier_audit.proofs.log_part.is_near.Goals as goal
use Rattle.tier_audit.proofs.log_part.is_near.Goals.{then-last-entry-via-then-last-entry, then-last-entry-via-else-last-entry+then-last-entry-2}

pub returns-then-last-entry : goal.returns-then-last-entry
returns-then-last-entry c =
    let delta : c.cast_unsigned.result ≡ cast_unsigned w32 c.args.head.now.last_offset_delta = search rules in (
      λ t. absurd (cc),
      λ n.
          let w = n.within in
          let r = n.near in
          absurd (elim c.then-last-entry.branch [
            | then-last-entry-via-then-last-entry x ↦ omega (arith, w, r, delta)
            | then-last-entry-via-else-last-entry+then-last-entry-2 x ↦ omega (arith, w, r, delta)
          ]),
    )

pub returns : goal.returns
returns c =
    let head = c.args.head.now in
    let entry = c.args.entry.now in
    let base : c.cast_unsigned-2.result ≡ cast_unsigned w64 head.base_offset = search rules in
    let delta : c.cast_unsigned.result ≡ cast_unsigned w32 head.last_offset_delta = search rules in
    let ts : to_z w64 (of_z w64 head.max_ts) ≡ head.max_ts = search rules in
    let top : to_z w64 (of_z w64 entry.max_ts) ≡ entry.max_ts = search rules in
    let size = c.size_in.ensures in (
      λ t. record {
        begins = sym base ∙ c.if-cast_unsigned-front.false;
        within = omega (arith, c.if-last-entry.false, delta);
        near = omega (arith, c.if-last-entry-2.false, delta);
        small = omega (arith, c.if-front-size_in-ge-REACH.false, size);
        times = subst (λ (z : ℤ). z ≤ℤ entry.max_ts) ts (subst (λ (z : ℤ). to_z w64 (of_z w64 head.max_ts) ≤ℤ z) top (up _ _ t));
      },
      λ n. (let both : to_z w64 (of_z w64 head.max_ts) ≤ℤ to_z w64 (of_z w64 entry.max_ts) = subst (λ (z : ℤ). z ≤ℤ to_z w64 (of_z w64 entry.max_ts)) (sym ts) (subst (λ (z : ℤ). head.max_ts ≤ℤ z) (sym top) n.times) in down _ _ both),
    )
  where
    up : (a b : ℤ) → IsTrue (int_le a b) → a ≤ℤ b
    up a b t = grind (arith, ints)

    down : (a b : ℤ) → a ≤ℤ b → IsTrue (int_le a b)
    down a b h = grind (arith, ints)
