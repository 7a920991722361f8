use Rattle.std.proofs.Common.{ℕ, ◌-◌, sym}
use Rattle.epoch_line.specs.Line.{last_entry}
use Rattle.log_manifest.specs.Reading.{entry_at}
use Rattle.log_manifest.proofs.Items.{item_taken, last_push}
use Rattle.log_manifest.proofs.OneSpelling.{entry_follows}
use Rattle.log_manifest.proofs.reading.line.Goals as goal

pub push-requires-clause-epoch_fits : goal.push-requires-clause-epoch_fits
push-requires-clause-epoch_fits c =
    (entry_follows 0 _ _ _ (c.in_ok-epoch.epoch, c.in_ok-epoch.start) _ (sym (c.in_ok-epoch.ensures 0))).epoch

pub push-requires-clause-start_fits : goal.push-requires-clause-start_fits
push-requires-clause-start_fits c =
    (entry_follows 0 _ _ _ (c.in_ok-epoch.epoch, c.in_ok-epoch.start) _ (sym (c.in_ok-epoch.ensures 0))).start

pub push-requires-clause-above : goal.push-requires-clause-above
push-requires-clause-above c =
    rw (← c.last.ensures)
    (entry_follows 0 _ _ _ (c.in_ok-epoch.epoch, c.in_ok-epoch.start) _ (sym (c.in_ok-epoch.ensures 0))).above

pub loop-i-preserved : goal.loop-i-preserved
loop-i-preserved c =
    let p : ℕ × ℕ = (c.in_ok-epoch.epoch, c.in_ok-epoch.start) in
    let taken = item_taken entry_at c.args.count c.loop-i.i c.args.at c.loop-i.line (last_entry c.loop-i.line) p
    c.loop-i.rest.now c.in_ok-epoch.behind.now _ c.loop-i-test.true
    (rw (c.last.ensures) at (sym (c.in_ok-epoch.ensures (c.args.count - c.loop-i.i - 1)))) c.loop-i.invariant in
    rw (c.in_ok-push.ensures.ok, last_push c.loop-i.line p) taken
