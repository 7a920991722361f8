use Rattle.std.proofs.Common.{◌≡◌, ◌∙◌, ◌<◌, ap, sym, length, get_or, take, arith}
use Rattle.std.proofs.lemmas.List.{take_all}
use Rattle.remote_view.specs.Storing.{stair_on}
use Rattle.remote_view.proofs.Keeping.{kept_found}
use Rattle.remote_view.proofs.Baring.{ends_own, under_parts, bared_first, bared_more, bared_same, all_bared}
use Rattle.remote_view.proofs.stepping.bared.Goals as goal
use Rattle.remote_view.proofs.stepping.bared.Goals.{then-lies_under+in_ok-stair-2, else-lies_under}

pub lifted-requires-clause-ends : goal.lifted-requires-clause-ends
lifted-requires-clause-ends c =
    ends_own c.args.known.now c.args.entry.now c.args.epoch (stair_on c.args.stairs.now c.args.epoch) c.requires.distinct c.requires.kept c.requires.here c.requires.stair

pub loop-other-init : goal.loop-other-init
loop-other-init c = bared_first c.args.entry.now.id c.args.known.now c.args.epoch (stair_on c.args.stairs.now c.args.epoch) c.in_ok-stair.stair c.in_ok-stair.ensures

pub overflow_add-entry : goal.overflow_add-entry
overflow_add-entry c = (let kept = kept_found c.args.entry.now.id c.args.known.now c.args.entry.now c.requires.kept c.requires.here in omega (arith, kept.bounded))

pub loop-other-preserved : goal.loop-other-preserved
loop-other-preserved c =
    let es = c.args.known.now in
    let x = c.args.entry.now in
    let old = stair_on c.args.stairs.now c.args.epoch in
    let i = c.loop-other.other-index in
    let e = c.other-item.result in
    let below : i < length es = omega (arith, c.loop-other-test.true, ap length c.entries-other-items.ensures) in
    let is : e ≡ get_or es i e = rw c.entries-other-items.ensures at c.other-item.is in
    elim c.if-lies_under.branch [
      | then-lies_under+in_ok-stair-2 w ↦
          let under = under_parts x e (sym c.lies_under.ensures ∙ w.if-lies_under.true) in
          rw w.stair-is (bared_more es x e i c.args.epoch old c.loop-other.stair c.requires.distinct c.requires.kept c.requires.here below is c.requires.stair c.loop-other.invariant _ under.0 under.1 w.in_ok-stair-2.ensures)
      | else-lies_under w ↦
          rw w.stair-is (bared_same es x e i c.args.epoch old c.loop-other.stair c.requires.distinct c.requires.kept c.requires.here below is c.requires.stair c.loop-other.invariant (sym c.lies_under.ensures ∙ w.if-lies_under.false))
    ]

pub returns : goal.returns
returns c =
    let es = c.args.known.now in
    let all : take c.loop-other.other-index es ≡ es = take_all c.loop-other.other-index es (omega (arith, c.loop-other-test.false, ap length c.entries-other-items.ensures)) in
    all_bared es c.args.entry.now c.args.epoch (stair_on c.args.stairs.now c.args.epoch) c.loop-other.stair c.requires.distinct c.requires.kept c.requires.here c.requires.stair (rw all at c.loop-other.invariant)
