use Rattle.std.proofs.Common.{◌≡◌, sym, subst, rules, List, None}
use Rattle.tier_base.specs.Told.{NamesAllHeld}
use Rattle.object_store.specs.Content.{Objects}
use Rattle.segment_meta.specs.declared.note.Entry.{Entry}
use Rattle.tier_audit.specs.Strays.{FindsStray}
use Rattle.tier_audit.specs.Copies.{FindsCopies, IsFirstUnreadable}
use Rattle.tier_audit.proofs.Copying.{objects_same, tells_on}
use Rattle.tier_audit.proofs.Deciding.{copy_is_first}
use Rattle.tier_base.specs.Device.{Fate, Went, Dry, fate_of}
use Rattle.tier_audit.specs.Asking.{ReadsObjects, Audits}
use Rattle.tier_audit.proofs.Asked.{lists_then, reads_none, went_no_fault, dry_no_fault}
use Rattle.tier_audit.proofs.auditing.audit_store.Goals as goal

pub returns-in-Some-2-clause-verdict : goal.returns-in-Some-2-clause-verdict
returns-in-Some-2-clause-verdict g c =
    λ is_observable.
    let entries = c.args.view.now.entries in
    let objects = (g.S.Store.content c.args.store.now).objects in
    let keys = c.as_slice.result.now in
    let names : NamesAllHeld objects keys = subst (NamesAllHeld objects) (sym c.as_slice.ensures) (c.in_ok-keys.ensures.keys is_observable) in
    let none : FindsStray entries keys None = subst (FindsStray entries keys) c.in_default.is c.in_ok-flaw.ensures in
    let keeps = c.in_ok-keys.ensures.content in
    let same = objects_same (g.S.Store.content c.args.store.now) (g.S.Store.content c.keys.new.self) keeps in
    let on = tells_on (g.S.Store.content c.args.store.now) (g.S.Store.content c.keys.new.self) keeps is_observable in
    let found : FindsCopies objects c.entries.result.now c.in_ok-flaw-2.field-0 = subst (λ (o : Objects). FindsCopies o c.entries.result.now c.in_ok-flaw-2.field-0) same (c.in_ok-flaw-2.ensures.found on) in
    let first : IsFirstUnreadable objects entries c.in-Some-2.flaw = subst (λ (es : List Entry). IsFirstUnreadable objects es c.in-Some-2.flaw) c.entries.ensures.entries (subst (FindsCopies objects c.entries.result.now) c.in-Some-2.is found) in
    copy_is_first objects entries keys names none c.in-Some-2.flaw first

pub returns-in_err-flaw-clause-calls : goal.returns-in_err-flaw-clause-calls
returns-in_err-flaw-clause-calls g c =
    let dry : fate_of c.from_residual-in_err-flaw.result ≡ Dry = search rules in
    subst (λ (f : Fate). Audits f (g.S.Store.control c.args.store.now) (g.S.Store.control c.keys.new.self)) (sym dry)
    (lists_then Dry _ _ _ c.in_ok-keys.ensures.control (reads_none Dry _ dry_no_fault))

pub returns-in-Some-clause-calls : goal.returns-in-Some-clause-calls
returns-in-Some-clause-calls g c = lists_then Went _ _ _ c.in_ok-keys.ensures.control (reads_none Went _ went_no_fault)

pub returns-in_err-flaw-2-clause-calls : goal.returns-in_err-flaw-2-clause-calls
returns-in_err-flaw-2-clause-calls g c =
    let reads : ReadsObjects (fate_of c.from_residual-in_err-flaw-2.result) (g.S.Store.control c.keys.new.self) (g.S.Store.control c.find_unreadable.new.store) = search rules in
    lists_then _ _ _ _ c.in_ok-keys.ensures.control reads

pub returns-in-Some-2-clause-calls : goal.returns-in-Some-2-clause-calls
returns-in-Some-2-clause-calls g c = lists_then _ _ _ _ c.in_ok-keys.ensures.control c.in_ok-flaw-2.ensures.reads

pub returns-clause-calls : goal.returns-clause-calls
returns-clause-calls g c = lists_then _ _ _ _ c.in_ok-keys.ensures.control c.in_ok-flaw-2.ensures.reads
