use Rattle.std.proofs.Common.{◌≡◌, ◌∙◌, ap, sym, true, Some, w64, to_z, of_z, rules}
use Rattle.std.specs.Prelude.{is_some}
use Rattle.tier_base.specs.declared.names.SegmentId.{SegmentId}
use Rattle.segment_meta.specs.Steps.{next_state}
use Rattle.remote_view.specs.Fold.{entry_of}
use Rattle.remote_view.proofs.Gone.{found_stands}
use Rattle.remote_view.proofs.Changes.{found_id, viewed_update, viewed_laid, viewed_taken, viewed_same}
use Rattle.remote_view.proofs.Baring.{ends_own}
use Rattle.remote_view.specs.Stairs.{IsStair}
use Rattle.remote_view.specs.Storing.{stair_on}
use Rattle.remote_view.proofs.Keeping.{kept_found}
use Rattle.remote_view.proofs.Spreading.{spread_changed}
use Rattle.remote_view.proofs.view.View.update.Goals as goal

pub fresh-requires-clause-here : goal.fresh-requires-clause-here
fresh-requires-clause-here c =
    ap (λ (id : SegmentId). entry_of id c.self.inside.known) (found_id c.args.id.now c.self.inside.known c.in-Some.entry.now (sym c.in-Some.ensures)) ∙ sym c.in-Some.ensures

pub change-requires-2 : goal.change-requires-2
change-requires-2 c =
    let step : is_some (next_state (Some c.in-Some.entry.now.state) c.args.state) ≡ true = search rules in
    found_stands (entry_of c.args.id.now c.self.inside.known) c.in-Some.entry.now c.args.state (sym c.in-Some.ensures) step

pub replace_all-requires : goal.replace_all-requires
replace_all-requires c = (c.in_ok-fresh.ensures.ok c.args.broker c.args.event_ts c.args.custom).room

pub invariant_of-self-2 : goal.invariant_of-self-2
invariant_of-self-2 c =
    let ts : to_z w64 (of_z w64 c.args.event_ts) ≡ c.args.event_ts = search rules in
    let es = c.self.inside.known in
    let x = c.in-Some.entry.now in
    let one = found_id c.args.id.now es x (sym c.in-Some.ensures) in
    let kept = kept_found c.args.id.now es x c.self.invariant.0.kept (sym c.in-Some.ensures) in
    let new = rw ts at c.change-2.ensures in (
      viewed_update es c.change-2.new.self c.self.inside.stairs c.fresh.new.stairs c.replace_all.new.self c.in_ok-fresh.fresh c.args.id.now x c.args.broker c.args.event_ts c.args.state c.args.custom
          c.self.invariant.0 one new (c.in_ok-fresh.ensures.ok c.args.broker c.args.event_ts c.args.custom) c.replace_all.ensures,
      rw (new, c.after-spread.ensures) (spread_changed c.self.inside.spread es c.args.id.now x c.args.broker c.args.event_ts c.args.state c.args.custom (sym c.in-Some.ensures) c.self.invariant.0.kept c.self.invariant.1 kept.ordered),
    )

pub lay_behind-requires-clause-kept : goal.lay_behind-requires-clause-kept
lay_behind-requires-clause-kept c = kept_found c.args.id.now c.self.inside.known c.in-Some.entry.now c.self.invariant.0.kept (sym c.in-Some.ensures)

pub take_first-requires-clause-kept : goal.take_first-requires-clause-kept
take_first-requires-clause-kept c = kept_found c.args.id.now c.self.inside.known c.in-Some.entry.now c.self.invariant.0.kept (sym c.in-Some.ensures)

pub after-spread-requires : goal.after-spread-requires
after-spread-requires c = (kept_found c.args.id.now c.self.inside.known c.in-Some.entry.now c.self.invariant.0.kept (sym c.in-Some.ensures)).bounded

pub invariant_of-self-then-branch : goal.invariant_of-self-then-branch
invariant_of-self-then-branch c =
    let ts : to_z w64 (of_z w64 c.args.event_ts) ≡ c.args.event_ts = search rules in
    let es = c.self.inside.known in
    let x = c.in-Some.entry.now in
    let one = found_id c.args.id.now es x (sym c.in-Some.ensures) in
    let kept = kept_found c.args.id.now es x c.self.invariant.0.kept (sym c.in-Some.ensures) in
    let step : is_some (next_state (Some x.state) c.args.state) ≡ true = search rules in
    let new = rw ts at c.change.ensures in (
      viewed_laid es c.change.new.self c.self.inside.stairs c.lay_behind.new.stairs c.args.id.now x c.args.broker c.args.event_ts c.args.state c.args.custom
          c.self.invariant.0 (sym c.in-Some.ensures) one new step (rw c.if-branch.true at c.in_ok-lay_behind.ensures.ok),
      rw (new, c.after-spread.ensures) (spread_changed c.self.inside.spread es c.args.id.now x c.args.broker c.args.event_ts c.args.state c.args.custom (sym c.in-Some.ensures) c.self.invariant.0.kept c.self.invariant.1 kept.ordered),
    )

pub take_first-requires-clause-ends : goal.take_first-requires-clause-ends
take_first-requires-clause-ends c epoch o past =
    let es = c.self.inside.known in
    let here = ap (λ (id : SegmentId). entry_of id es) (found_id c.args.id.now es c.in-Some.entry.now (sym c.in-Some.ensures)) ∙ sym c.in-Some.ensures in
    let same = rw c.if-branch.false at c.in_ok-lay_behind.ensures.ok in
    let right : IsStair es epoch (stair_on c.lay_behind.new.stairs epoch) = rw (same epoch) (c.self.invariant.0.right epoch) in
    ends_own es c.in-Some.entry.now epoch (stair_on c.lay_behind.new.stairs epoch) c.self.invariant.0.distinct c.self.invariant.0.kept here right o past

pub invariant_of-self-then-take_first : goal.invariant_of-self-then-take_first
invariant_of-self-then-take_first c =
    let ts : to_z w64 (of_z w64 c.args.event_ts) ≡ c.args.event_ts = search rules in
    let es = c.self.inside.known in
    let x = c.in-Some.entry.now in
    let one = found_id c.args.id.now es x (sym c.in-Some.ensures) in
    let kept = kept_found c.args.id.now es x c.self.invariant.0.kept (sym c.in-Some.ensures) in
    let new = rw ts at c.change-then-take_first.ensures in
    let same = rw c.if-branch.false at c.in_ok-lay_behind.ensures.ok in (
      viewed_taken es c.change-then-take_first.new.self c.lay_behind.new.stairs c.take_first.new.stairs c.self.inside.spread c.args.id.now x c.args.broker c.args.event_ts c.args.state c.args.custom
          (viewed_same es c.self.inside.stairs c.lay_behind.new.stairs c.self.invariant.0 same) c.self.invariant.1 (sym c.in-Some.ensures) one new (rw c.if-take_first.true at c.take_first.ensures),
      rw (new, c.after-spread.ensures) (spread_changed c.self.inside.spread es c.args.id.now x c.args.broker c.args.event_ts c.args.state c.args.custom (sym c.in-Some.ensures) c.self.invariant.0.kept c.self.invariant.1 kept.ordered),
    )
