use Rattle.std.proofs.Common.{◌∙◌, ap, sym, ℕ, List, arith, length, get_or, map}
use Rattle.std.proofs.lemmas.List.{take_all}
use Rattle.remote_view.specs.Fold.{changed, updated}
use Rattle.remote_view.specs.Stairs.{IsStair}
use Rattle.remote_view.proofs.Keeping.{kept_found}
use Rattle.remote_view.proofs.Renewing.{made_fresh, none_fresh, each_push, epochs_push, room_kept}
use Rattle.remote_view.proofs.stepping.fresh.Goals as goal

pub returns-then-not-is_readable-2-clause-ok : goal.returns-then-not-is_readable-2-clause-ok
returns-then-not-is_readable-2-clause-ok c broker event_ts custom =
    none_fresh broker event_ts c.args.state custom c.args.known.now c.args.entry.now c.args.stairs.now c.new-fresh.result c.new-fresh.ensures c.requires.here
    (sym c.is_readable.ensures ∙ c.if-not-is_readable.true) (sym c.is_readable-then-not-is_readable.ensures ∙ c.if-not-is_readable-2.true) c.requires.stairs

pub loop-pair-preserved : goal.loop-pair-preserved
loop-pair-preserved c = record {
  same = λ e. c.in_ok-reserve.ensures.same e ∙ c.loop-pair.invariant.same e;
  room = rw c.in_ok-push.ensures.ok (each_push _ c.loop-pair.fresh _ (room_kept c.loop-pair.stairs c.reserve.new.self c.loop-pair.fresh c.in_ok-reserve.ensures.kept c.loop-pair.invariant.room) c.in_ok-reserve.ensures.ok);
  epochs = rw c.in_ok-push.ensures.ok (epochs_push c.loop-pair.fresh _ c.args.entry.now.map c.loop-pair.pair-index (0, 0) (omega (arith, c.loop-pair-test.true, ap length c.entries-pair-items.ensures.entries)) c.loop-pair.invariant.epochs
      (ap (λ (pairs : List (ℕ × ℕ)). (get_or pairs c.loop-pair.pair-index (0, 0)).0) c.entries-pair-items.ensures.entries));
  each = λ broker event_ts custom. rw c.in_ok-push.ensures.ok (each_push (λ s. IsStair (changed c.args.entry.now.id (updated broker event_ts c.args.state custom) c.args.known.now) s.epoch s.treads) c.loop-pair.fresh _ (c.loop-pair.invariant.each broker event_ts custom) (c.in_ok-treads.ensures broker event_ts custom));
}

pub returns-clause-ok : goal.returns-clause-ok
returns-clause-ok c broker event_ts custom =
    made_fresh broker event_ts c.args.state custom c.args.known.now c.args.entry.now c.args.stairs.now c.loop-pair.stairs c.loop-pair.fresh c.requires.here
    (kept_found c.args.entry.now.id c.args.known.now c.args.entry.now c.requires.kept c.requires.here) c.requires.stairs c.loop-pair.invariant.same c.loop-pair.invariant.room
    (c.loop-pair.invariant.epochs ∙ ap (map (λ p. p.0)) (take_all c.loop-pair.pair-index c.args.entry.now.map (omega (arith, c.loop-pair-test.false, ap length c.entries-pair-items.ensures.entries)))) (c.loop-pair.invariant.each broker event_ts custom)
