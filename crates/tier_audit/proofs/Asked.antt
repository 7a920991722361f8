-- Calls of a store that is asked, one after the other.
use Rattle.std.proofs.Common.{◌≡◌, ◌≢◌, refl, sym, subst, inl, inr, ⊎_elim}
use Rattle.tier_base.specs.Device.{Control, Ran, RanQuietly, Fate, Went, Fault, Dry}
use Rattle.object_store.specs.declared.call.StoreCall.TheVariants.{Get, Keys}
use Rattle.object_store.specs.Call.{call_code}
use Rattle.tier_audit.specs.Asking.{AllRead, NoRead, OneRead, ReadsObjects, ListsAndReads, Audits}

-- some reads, and then others
all_then : (old mid new : Control call_code) → AllRead old mid → AllRead mid new → AllRead old new
all_then old mid new first NoRead = first
all_then old mid new first (OneRead between last second ran) = OneRead between last (all_then old mid between first second) ran

-- one read
pub reads_one : (fate : Fate) (old new : Control call_code) → Ran Get fate old new → ReadsObjects fate old new
reads_one fate old new ran = record { mid = old; before = NoRead; last = inl ran }

-- none
pub reads_none : (fate : Fate) (c : Control call_code) → fate ≢ Fault → ReadsObjects fate c c
reads_none fate c not = record { mid = c; before = NoRead; last = inr (not, refl) }

-- reads that went
pub reads_all : (old new : Control call_code) → ReadsObjects Went old new → AllRead old new
reads_all old new r = ⊎_elim (λ ran. OneRead r.mid new r.before ran) (λ none. subst (AllRead old) (sym none.1) r.before) r.last

-- reads that went, and others
pub reads_then : (fate : Fate) (old mid new : Control call_code) → ReadsObjects Went old mid → ReadsObjects fate mid new → ReadsObjects fate old new
reads_then fate old mid new first second = record { mid = second.mid; before = all_then old mid second.mid (reads_all old mid first) second.before; last = second.last }

-- reads that went, after which there is no fault
pub reads_ended : (fate : Fate) (old new : Control call_code) → fate ≢ Fault → ReadsObjects Went old new → ReadsObjects fate old new
reads_ended fate old new not first = record { mid = new; before = reads_all old new first; last = inr (not, refl) }

-- one listing, and reads
pub lists_then : (fate : Fate) (old mid new : Control call_code) → RanQuietly Keys Went old mid → ReadsObjects fate mid new → Audits fate old new
lists_then fate old mid new lists reads = inr (record { mid = mid; lists = lists; reads = reads })

pub went_no_fault : Went ≢ Fault
went_no_fault e = cc

pub dry_no_fault : Dry ≢ Fault
dry_no_fault e = cc
