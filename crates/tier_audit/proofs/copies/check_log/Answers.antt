use Rattle.std.proofs.Common.{◌≡◌, subst, sym, rules, Some, drop}
use Rattle.std.specs.Prelude.{option_map}
use Rattle.tier_base.specs.declared.plain.Part.TheVariants.{Log}
use Rattle.object_store.specs.Place.{capped, short_of}
use Rattle.tier_audit.specs.declared.verdict.Flaw.{Flaw}
use Rattle.tier_audit.specs.declared.verdict.Flaw.TheVariants.{Wrong}
use Rattle.tier_audit.specs.declared.log_part.LogPart.TheVariants as log_part
use Rattle.tier_audit.specs.Whole.{place_of}
use Rattle.tier_audit.specs.Flaws.{IsCopyFlaw}
use Rattle.tier_audit.specs.Copies.{ReadsLogSpot, from_rest}
use Rattle.tier_audit.proofs.Copying.{log_told}
use Rattle.tier_base.specs.Device.{Fate, Ran, Went, Dry, fate_of}
use Rattle.object_store.specs.declared.call.StoreCall.TheVariants.{Get}
use Rattle.tier_audit.specs.Asking.{ReadsObjects}
use Rattle.tier_audit.proofs.Asked.{reads_one, reads_none, reads_ended, went_no_fault, dry_no_fault}
use Rattle.tier_audit.proofs.copies.check_log.Goals as goal

pub returns-clause-found : goal.returns-clause-found
returns-clause-found g c =
    λ is_observable.
    let objects = (g.S.Store.content c.args.store.now).objects in
    let entry = c.args.entry.now in
    let spot = c.in-Some.spot in
    let rest = c.as_slice.result.now in
    let bytes = c.in_ok-rest.ensures.bytes is_observable in
    let place : place_of entry Log ≡ Some spot = cc in
    let given : Some rest ≡ option_map (drop spot.at) (objects spot.key) = cc (bytes) in
    let reads : ReadsLogSpot entry (short_of spot (capped spot.len rest)) (capped spot.len rest) (log_part.Wrong c.in-Wrong.at) =
    subst (ReadsLogSpot entry (short_of spot (capped spot.len rest)) (capped spot.len rest)) c.in-Wrong.is c.in_ok-batches.ensures.reads in
    let is : c.wrong.result ≡ Wrong spot.key (from_rest spot rest c.in-Wrong.at) = cc in
    subst (IsCopyFlaw objects entry) (sym is) (log_told objects entry spot rest c.in-Wrong.at place given reads)

pub returns-in_default-clause-reads : goal.returns-in_default-clause-reads
returns-in_default-clause-reads g c = reads_none Went (g.S.Store.control c.args.store.now) went_no_fault

pub returns-in_err-rest-clause-reads : goal.returns-in_err-rest-clause-reads
returns-in_err-rest-clause-reads g c =
    let ran : Ran Get (fate_of c.from_residual.result) (g.S.Store.control c.args.store.now) (g.S.Store.control c.get.new.self) = search rules in
    reads_one _ _ _ ran

pub returns-in_default-2-clause-reads : goal.returns-in_default-2-clause-reads
returns-in_default-2-clause-reads g c = reads_one Went _ _ c.in_ok-rest.ensures.control

pub returns-in_err-batches-clause-reads : goal.returns-in_err-batches-clause-reads
returns-in_err-batches-clause-reads g c =
    let read = reads_one Went (g.S.Store.control c.args.store.now) (g.S.Store.control c.get.new.self) c.in_ok-rest.ensures.control in
    let dry : fate_of c.from_residual-in_err-batches.result ≡ Dry = search rules in
    subst (λ (f : Fate). ReadsObjects f (g.S.Store.control c.args.store.now) (g.S.Store.control c.get.new.self)) (sym dry) (reads_ended Dry _ _ dry_no_fault read)

pub returns-in-Right-clause-reads : goal.returns-in-Right-clause-reads
returns-in-Right-clause-reads g c = reads_one Went _ _ c.in_ok-rest.ensures.control

pub returns-clause-reads : goal.returns-clause-reads
returns-clause-reads g c = reads_one Went _ _ c.in_ok-rest.ensures.control
