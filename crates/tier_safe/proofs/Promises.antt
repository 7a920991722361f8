-- What a local log lacks is in the remote tier, and what was finished exists until the log start offset is past it.
use Rattle.std.proofs.Common.{arith}
use Rattle.log_terms.proofs.Lists.{prefix_self}
use Rattle.tier_safe.specs.Laws.{DroppedIsKept, FinishedIsKept}
use Rattle.tier_safe.proofs.Covering.{covers_is, finished_stays}
use Rattle.tier_safe.proofs.Entries.{prefix_goes}
use Rattle.tier_safe.proofs.Agreeing.{entry_agrees}

-- what is dropped

pub dropped_kept : DroppedIsKept
dropped_kept b tier_view x o c p both tier_view_is x_is low high =
    let s = both.plain in
    let h = both.tier in
    let k = h.covered b tier_view x tier_view_is x_is o low high in
    let t = covers_is k.epoch o k.covers.entry k.covers.gives in
    let stored_whole = h.finished k.covers.id k.covers.entry k.covers.there t.finished in
    record {
      id = k.covers.id;
      entry = k.covers.entry;
      there = k.covers.there;
      partition = h.partition.told k.covers.id k.covers.entry k.covers.there;
      finished = t.finished;
      holds = (t.from, t.to);
      stored_whole = stored_whole;
      shares = entry_agrees p k.covers.entry stored_whole.batches stored_whole.line x.log o k.epoch s stored_whole.describes (s.brokers b x x_is).log t.from t.to
          t.gives k.holds;
    }

-- what was finished

pub finished_kept : FinishedIsKept
finished_kept c p before id then both pre there done past =
    let h = both.tier in
    let y = prefix_goes before c.notes id then pre there in
    let now = finished_stays c.notes c.notes before p.registry.start then.end id then y.0 h.deletions.ended pre (prefix_self c.notes) there done past (omega arith) y.1 y.2 in
    (y.0, y.1, now, h.finished id y.0 y.1 now)
