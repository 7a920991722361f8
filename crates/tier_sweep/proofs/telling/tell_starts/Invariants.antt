use Rattle.std.proofs.Common.{◌≡◌, ◌++◌, take, IsTrue}
use Rattle.tier_base.specs.Device.{Lasts}
use Rattle.meta_log.specs.Content.{LeavesTold}
use Rattle.tier_sweep.specs.Sweeping.{starts_of}
use Rattle.tier_sweep.specs.Parts.{AllWent}
use Rattle.tier_sweep.proofs.telling.tell_starts.Given as goal

-- those of the entries so far are reported
abbrev pub invariant-loop-entry : goal.invariant-loop-entry
invariant-loop-entry g l =
    let content = g.M.MetaLog.content in
    record {
      is_observable : (content l.meta).is_observable ≡ (content l.fn.meta).is_observable;
      notes : IsTrue (content l.fn.meta).is_observable
          → (content l.meta).notes ≡ (content l.fn.meta).notes ++ starts_of (take l.entry-index l.entries);
      left : IsTrue (content l.fn.meta).is_observable → LeavesTold (content l.fn.meta) → LeavesTold (content l.meta);
      calls : Lasts (g.M.MetaLog.control l.fn.meta) (g.M.MetaLog.control l.meta);
      went : AllWent (g.M.MetaLog.control l.fn.meta) (g.M.MetaLog.control l.meta);
      quiet : (g.M.MetaLog.control l.meta).faults ≡ (g.M.MetaLog.control l.fn.meta).faults;
    }
