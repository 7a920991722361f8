use Rattle.std.proofs.Common.{◌∙◌, subst, rules, IfOk}
use Rattle.tier_base.specs.Device.{fate_of}
use Rattle.tier_audit.specs.Asking.{ReadsObjects}
use Rattle.tier_base.specs.declared.plain.Part.TheVariants.{Index, TimeIndex, Epochs}
use Rattle.object_store.specs.Content.{Objects}
use Rattle.tier_audit.specs.Whole.{IsPartStored}
use Rattle.tier_audit.specs.Copies.{FindsPart}
use Rattle.tier_audit.proofs.Copying.{objects_same, tells_on, index_flaw, times_flaw, last_found}
use Rattle.tier_audit.proofs.Asked.{reads_then}
use Rattle.tier_audit.proofs.copies.check_parts.Goals as goal

pub returns-in-Some-clause-found : goal.returns-in-Some-clause-found
returns-in-Some-clause-found g c =
    λ is_observable p.
    let objects = (g.S.Store.content c.args.store.now).objects in
    let found : FindsPart objects c.args.entry.now p.batches Index c.in_ok-flaw.field-0 = c.in_ok-flaw.ensures.found is_observable p.batches p.found_are in
    index_flaw objects c.args.entry.now p.batches p.log c.in-Some.flaw (subst (FindsPart objects c.args.entry.now p.batches Index) c.in-Some.is found)

pub returns-in-Some-2-clause-found : goal.returns-in-Some-2-clause-found
returns-in-Some-2-clause-found g c =
    λ is_observable p.
    let objects = (g.S.Store.content c.args.store.now).objects in
    let keeps = c.in_ok-flaw.ensures.asks.content in
    let index : IsPartStored objects c.args.entry.now p.batches Index = subst (FindsPart objects c.args.entry.now p.batches Index) c.in_default.is (c.in_ok-flaw.ensures.found is_observable p.batches p.found_are) in
    let same = objects_same (g.S.Store.content c.args.store.now) (g.S.Store.content c.check_part.new.store) keeps in
    let found : FindsPart objects c.args.entry.now p.batches TimeIndex c.in_ok-flaw-2.field-0 =
    subst (λ (o : Objects). FindsPart o c.args.entry.now p.batches TimeIndex c.in_ok-flaw-2.field-0) same
    (c.in_ok-flaw-2.ensures.found (tells_on (g.S.Store.content c.args.store.now) (g.S.Store.content c.check_part.new.store) keeps is_observable) p.batches p.found_are) in
    times_flaw objects c.args.entry.now p.batches p.log index c.in-Some-2.flaw (subst (FindsPart objects c.args.entry.now p.batches TimeIndex) c.in-Some-2.is found)

pub returns-clause-found : goal.returns-clause-found
returns-clause-found g c =
    λ is_observable p.
    let objects = (g.S.Store.content c.args.store.now).objects in
    let keeps = c.in_ok-flaw.ensures.asks.content in
    let keeps' = c.in_ok-flaw-2.ensures.asks.content in
    let index : IsPartStored objects c.args.entry.now p.batches Index = subst (FindsPart objects c.args.entry.now p.batches Index) c.in_default.is (c.in_ok-flaw.ensures.found is_observable p.batches p.found_are) in
    let same = objects_same (g.S.Store.content c.args.store.now) (g.S.Store.content c.check_part.new.store) keeps in
    let on = tells_on (g.S.Store.content c.args.store.now) (g.S.Store.content c.check_part.new.store) keeps is_observable in
    let times : IsPartStored objects c.args.entry.now p.batches TimeIndex =
    subst (FindsPart objects c.args.entry.now p.batches TimeIndex) c.in_default-2.is
    (subst (λ (o : Objects). FindsPart o c.args.entry.now p.batches TimeIndex c.in_ok-flaw-2.field-0) same (c.in_ok-flaw-2.ensures.found on p.batches p.found_are)) in
    let same' = objects_same (g.S.Store.content c.check_part.new.store) (g.S.Store.content c.check_part-2.new.store) keeps' ∙ same in
    let on' = tells_on (g.S.Store.content c.check_part.new.store) (g.S.Store.content c.check_part-2.new.store) keeps' on in
    last_found objects c.args.entry.now p.batches p.log index times c.check_part-3.result
    (subst (λ (o : Objects). IfOk c.check_part-3.result (λ found. FindsPart o c.args.entry.now p.batches Epochs found)) same' (c.check_part-3.ensures.found on' p.batches p.found_are))

pub returns-in_err-flaw-2-clause-reads : goal.returns-in_err-flaw-2-clause-reads
returns-in_err-flaw-2-clause-reads g c =
    let reads : ReadsObjects (fate_of c.from_residual-in_err-flaw-2.result) (g.S.Store.control c.check_part.new.store) (g.S.Store.control c.check_part-2.new.store) = search rules in
    reads_then _ _ _ _ c.in_ok-flaw.ensures.reads reads

pub returns-in-Some-2-clause-reads : goal.returns-in-Some-2-clause-reads
returns-in-Some-2-clause-reads g c = reads_then _ _ _ _ c.in_ok-flaw.ensures.reads c.in_ok-flaw-2.ensures.reads

pub returns-clause-reads : goal.returns-clause-reads
returns-clause-reads g c = reads_then _ _ _ _ (reads_then _ _ _ _ c.in_ok-flaw.ensures.reads c.in_ok-flaw-2.ensures.reads) c.check_part-3.ensures.reads
