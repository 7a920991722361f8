use Rattle.std.proofs.Common.{◌≡◌, ◌∙◌, ap, subst, refl, List, drop, [], ◌∷◌}
use Rattle.segment_meta.specs.declared.note.Note.{Note}
use Rattle.segment_meta.specs.declared.note.Entry.{Entry}
use Rattle.remote_view.specs.Fold.{EntriesSeen, fed, fold, folded_from}
use Rattle.view_refresh.specs.Refreshing.{fed_all, Refreshes}
use Rattle.tier_audit.specs.Flaws.{IsAuditVerdict}
use Rattle.tier_audit.proofs.auditing.audit.Goals as goal

fed_entries : (view : EntriesSeen) (notes : List Note) → (fed_all view notes).entries ≡ folded_from view.entries notes
fed_entries view [] = refl
fed_entries view (note ∷ notes) = fed_entries (fed view note) notes

pub returns-in-Ok-audit_store-clause-verdict : goal.returns-in-Ok-audit_store-clause-verdict
returns-in-Ok-audit_store-clause-verdict g c =
    λ is_observable told.
    let log = g.M.MetaLog.content c.args.meta.now in
    let old = c.new-view.result in
    let new = c.refresh.new.view in
    let r : Refreshes log old new = c.in-Ok.ensures.view in
    let snapshot : old.notes ≡ 0 = ap (λ (v : EntriesSeen). v.notes) c.new-view.ensures in
    let all : r.notes ≡ log.notes = r.further told ∙ ap (λ n. drop n log.notes) snapshot in
    let entries : new.entries ≡ fold log.notes =
    ap (λ (v : EntriesSeen). v.entries) r.view ∙ (fed_entries old r.notes ∙ (ap (λ (v : EntriesSeen). folded_from v.entries r.notes) c.new-view.ensures ∙ ap fold all)) in
    subst (λ (es : List Entry). IsAuditVerdict (g.S.Store.content c.args.store.now).objects es c.in-Ok-audit_store.verdict) entries (c.in-Ok-audit_store.ensures.verdict is_observable)
