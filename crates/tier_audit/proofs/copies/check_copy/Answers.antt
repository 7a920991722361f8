use Rattle.std.proofs.Common.{sym, subst, List, IfOk}
use Rattle.object_store.specs.Content.{Objects}
use Rattle.tier_audit.specs.declared.copies.LogFound.{LogFound}
use Rattle.segment_file.specs.declared.placed.Placed.{Placed}
use Rattle.tier_audit.specs.Copies.{HasPlaced, FindsLog, FindsParts}
use Rattle.tier_audit.proofs.Copying.{objects_same, tells_on}
use Rattle.tier_audit.proofs.Asked.{reads_then}
use Rattle.tier_audit.proofs.copies.check_copy.Goals as goal

pub returns-in-Right-clause-found : goal.returns-in-Right-clause-found
returns-in-Right-clause-found g c =
    λ is_observable.
    let objects = (g.S.Store.content c.args.store.now).objects in
    let keeps = c.in_ok-batches.ensures.asks.content in
    let same = objects_same (g.S.Store.content c.args.store.now) (g.S.Store.content c.check_log.new.store) keeps in
    let on = tells_on (g.S.Store.content c.args.store.now) (g.S.Store.content c.check_log.new.store) keeps is_observable in
    let log : HasPlaced objects c.args.entry.now c.in-Right.batches.items = subst (λ (f : LogFound). FindsLog objects c.args.entry.now f) c.in-Right.is (c.in_ok-batches.ensures.found is_observable) in
    let placed : HasPlaced objects c.args.entry.now c.as_slice.result.now = subst (λ (xs : List Placed). HasPlaced objects c.args.entry.now xs) (sym c.as_slice.ensures.value) log in
    subst (λ (o : Objects). IfOk c.check_parts.result (λ found. FindsParts o c.args.entry.now found)) same
    (c.check_parts.ensures.found on (subst (λ (o : Objects). HasPlaced o c.args.entry.now c.as_slice.result.now) (sym same) placed))

pub returns-in-Right-clause-reads : goal.returns-in-Right-clause-reads
returns-in-Right-clause-reads g c = reads_then _ _ _ _ c.in_ok-batches.ensures.reads c.check_parts.ensures.reads
