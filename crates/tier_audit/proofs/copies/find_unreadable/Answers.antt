use Rattle.std.proofs.Common.{subst, rules, Some}
use Rattle.tier_base.specs.Device.{Went, fate_of}
use Rattle.tier_audit.specs.Asking.{ReadsObjects}
use Rattle.object_store.specs.Content.{Objects}
use Rattle.tier_audit.specs.Whole.{IsReadable}
use Rattle.tier_audit.specs.Copies.{FindsCopy}
use Rattle.tier_audit.proofs.Copying.{objects_same, tells_on, asks_none, asks_then, readable_more, first_unreadable}
use Rattle.tier_audit.proofs.Asked.{reads_then, reads_none, went_no_fault}
use Rattle.tier_audit.proofs.copies.find_unreadable.Goals as goal

pub returns-in-Some-clause-found : goal.returns-in-Some-clause-found
returns-in-Some-clause-found g c =
    λ is_observable.
    let entry = c.entry-item.result in
    let objects = (g.S.Store.content c.args.store.now).objects in
    let keeps = c.loop-entry.invariant.asks.content in
    let same = objects_same (g.S.Store.content c.args.store.now) (g.S.Store.content c.loop-entry.store) keeps in
    let on = tells_on (g.S.Store.content c.args.store.now) (g.S.Store.content c.loop-entry.store) keeps is_observable in
    let found : FindsCopy objects entry (Some c.in-Some.flaw) =
    subst (FindsCopy objects entry) c.in-Some.is (subst (λ (o : Objects). FindsCopy o entry c.in_ok-flaw.field-0) same (c.in_ok-flaw.ensures.found on)) in
    first_unreadable objects c.args.entries.now c.loop-entry.entry-index entry entry c.in-Some.flaw c.loop-entry-test.true c.entry-item.is (c.loop-entry.invariant.readable is_observable) found

pub loop-entry-preserved : goal.loop-entry-preserved
loop-entry-preserved g c = record {
  reads = reads_then Went _ _ _ c.loop-entry.invariant.reads c.in_ok-flaw.ensures.reads;
  asks = asks_then g.S.Store.content g.S.Store.control Went c.args.store.now c.loop-entry.store c.check_entry.new.store c.loop-entry.invariant.asks c.in_ok-flaw.ensures.asks;
  readable = λ is_observable.
      let entry = c.entry-item.result in
      let objects = (g.S.Store.content c.args.store.now).objects in
      let keeps = c.loop-entry.invariant.asks.content in
      let same = objects_same (g.S.Store.content c.args.store.now) (g.S.Store.content c.loop-entry.store) keeps in
      let on = tells_on (g.S.Store.content c.args.store.now) (g.S.Store.content c.loop-entry.store) keeps is_observable in
      let one : IsReadable objects entry = subst (FindsCopy objects entry) c.in_default.is (subst (λ (o : Objects). FindsCopy o entry c.in_ok-flaw.field-0) same (c.in_ok-flaw.ensures.found on)) in
      readable_more objects c.args.entries.now c.loop-entry.entry-index entry c.loop-entry-test.true (c.loop-entry.invariant.readable is_observable) (subst (IsReadable objects) c.entry-item.is one);
}

pub loop-entry-init : goal.loop-entry-init
loop-entry-init g c = record {
  reads = reads_none Went (g.S.Store.control c.args.store.now) went_no_fault;
  asks = asks_none g.S.Store.content g.S.Store.control c.args.store.now;
  readable = λ is_observable. tt;
}

pub returns-in_err-flaw-clause-reads : goal.returns-in_err-flaw-clause-reads
returns-in_err-flaw-clause-reads g c =
    let reads : ReadsObjects (fate_of c.from_residual.result) (g.S.Store.control c.loop-entry.store) (g.S.Store.control c.check_entry.new.store) = search rules in
    reads_then _ _ _ _ c.loop-entry.invariant.reads reads

pub returns-in-Some-clause-reads : goal.returns-in-Some-clause-reads
returns-in-Some-clause-reads g c = reads_then _ _ _ _ c.loop-entry.invariant.reads c.in_ok-flaw.ensures.reads
