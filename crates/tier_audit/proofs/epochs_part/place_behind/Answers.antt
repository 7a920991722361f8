use Rattle.std.proofs.Common.{◌≡◌, sym, subst, ℕ, List, ◌+◌, ◌<◌, drop, get_or, arith}
use Rattle.std.proofs.lemmas.List.{drop_more}
use Rattle.tier_audit.specs.Texts.{place_behind}
use Rattle.tier_audit.proofs.Texts.{step_on, none_on}
use Rattle.tier_audit.proofs.epochs_part.place_behind.Goals as goal
use Rattle.tier_audit.proofs.epochs_part.place_behind.Goals.{then-byte-eq10, else-byte-eq10}

pub loop-at-preserved : goal.loop-at-preserved
loop-at-preserved c =
    let bytes = c.args.bytes.now in
    let at = c.loop-at.at in
    let total = place_behind c.args.lines bytes in
    let some : 0 < c.loop-at.left = (let full = c.if-left-eq0.false in omega (arith, full)) in
    let step = step_on c.loop-at.left c.args.lines at (get_or bytes at 0) (drop (at + 1) bytes) total some
    (subst (λ (xs : List ℕ). at + place_behind c.loop-at.left xs ≡ total) (drop_more bytes at 0 c.loop-at-test.true) c.loop-at.invariant) in
    elim c.if-byte-eq10.branch [
      | then-byte-eq10 w ↦ subst (λ (n : ℕ). at + 1 + place_behind n (drop (at + 1) bytes) ≡ total) (sym w.left-is) (step.0 w.if-byte-eq10.true)
      | else-byte-eq10 w ↦ subst (λ (n : ℕ). at + 1 + place_behind n (drop (at + 1) bytes) ≡ total) (sym w.left-is) (step.1 w.if-byte-eq10.false)
    ]

pub returns : goal.returns
returns c =
    let end = c.loop-at.auto.at-end in
    let there = none_on c.loop-at.left c.loop-at.at (place_behind c.args.lines c.args.bytes.now) c.args.bytes.now c.loop-at-test.false c.loop-at.invariant in
    omega (arith, end, c.loop-at-test.false, there)
