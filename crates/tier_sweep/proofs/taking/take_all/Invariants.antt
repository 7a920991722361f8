use Rattle.std.proofs.Common.{◌≡◌, take, IsTrue}
use Rattle.tier_base.specs.Device.{Lasts}
use Rattle.tier_sweep.specs.Sweeping.{count_swept}
use Rattle.tier_sweep.specs.Parts.{AllWent, Deleted, TakesAll}
use Rattle.tier_sweep.proofs.taking.take_all.Given as goal

-- those of the keys so far are taken away and counted
abbrev pub invariant-loop-key : goal.invariant-loop-key
invariant-loop-key g l =
    let content = g.S.Store.content in
    record {
      is_observable : (content l.store).is_observable ≡ (content l.fn.store).is_observable;
      objects : IsTrue (content l.fn.store).is_observable
          → TakesAll l.view.entries (take l.key-index l.keys) (content l.fn.store).objects (content l.store).objects;
      count : l.swept ≡ count_swept l.view.entries (take l.key-index l.keys);
      calls : Lasts (g.S.Store.control l.fn.store) (g.S.Store.control l.store);
      went : AllWent (g.S.Store.control l.fn.store) (g.S.Store.control l.store);
      quiet : (g.S.Store.control l.store).faults ≡ (g.S.Store.control l.fn.store).faults;
      deleted : Deleted (g.S.Store.control l.fn.store) l.swept (g.S.Store.control l.store);
    }
