use Rattle.std.proofs.Common.{IsTrue, take}
use Rattle.tier_base.specs.Device.{Went}
use Rattle.tier_audit.specs.Asking.{OnlyAsks, ReadsObjects}
use Rattle.tier_audit.specs.Whole.{AreReadable}
use Rattle.tier_audit.proofs.copies.find_unreadable.Given as goal

-- the store was asked, and the copies so far are readable
abbrev pub invariant-loop-entry : goal.invariant-loop-entry
invariant-loop-entry g l = record {
  reads : ReadsObjects Went (g.S.Store.control l.fn.store) (g.S.Store.control l.store);
  asks : OnlyAsks g.S.Store.content g.S.Store.control Went l.fn.store l.store;
  readable : IsTrue (g.S.Store.content l.fn.store).is_observable → AreReadable (g.S.Store.content l.fn.store).objects (take l.entry-index l.entries);
}
