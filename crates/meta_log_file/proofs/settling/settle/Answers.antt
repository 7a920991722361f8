use Rattle.std.proofs.Common.{◌≡◌, ◌∙◌, sym, ap, subst, ⊎_elim, ℕ, List, ◌++◌, ◌∷◌, [], rules}
use Rattle.tier_base.specs.declared.plain.FileName.TheVariants as file
use Rattle.tier_base.specs.Device.{Fault, fate_of}
use Rattle.tier_base.specs.Told.{bytes_in}
use Rattle.disk_model.specs.Content.{Lawful}
use Rattle.meta_log_file.specs.declared.marks.Tail.TheVariants.{Unsure}
use Rattle.meta_log_file.specs.Reading.{IsGateOf, IsNoGateOf}
use Rattle.meta_log_file.specs.Stands.{HasNotes}
use Rattle.meta_log_file.proofs.Gating.{has_started, keeps_since}
use Rattle.meta_log_file.proofs.Settled.{unsure_still, settle_since, settle_told, no_strange_gate, sure_after}
use Rattle.meta_log_file.proofs.settling.settle.Goals as goal

pub returns-in_err-reserve-clause-since : goal.returns-in_err-reserve-clause-since
returns-in_err-reserve-clause-since g c = has_started (g.D.Disk.content c.args.disk.now) c.args.marks.now.ends.items c.args.marks.now.tail c.requires

pub returns-in_err-end-clause-since : goal.returns-in_err-end-clause-since
returns-in_err-end-clause-since g c = keeps_since (g.D.Disk.content c.args.disk.now) (g.D.Disk.content c.find_end.new.disk) c.args.marks.now.ends.items c.args.marks.now.tail c.find_end.ensures.content c.requires

pub returns-in_err-end-clause-told_cause : goal.returns-in_err-end-clause-told_cause
returns-in_err-end-clause-told_cause g c = λ fault is_observable.
    let d = g.D.Disk.content c.args.disk.now in
    let laws : Lawful d = g.met.D.Disk.lawful c.args.disk.now in
    let next = c.in-Unsure.next in
    let ends = c.args.marks.now.ends.items in
    let h : HasNotes d ends (Unsure next) = subst (HasNotes d ends) c.in-Unsure.is c.requires in
    let same : fate_of c.find_end.result ≡ Fault = search rules in
    let gate = bytes_in (d.files file.Gate) in
    ⊎_elim (λ rose. rose)
    (λ (strange : IsNoGateOf c.end-here.result next gate). absurd (no_strange_gate d laws ends next h is_observable (subst (λ (n : ℕ). IsNoGateOf n next gate) c.end-here.ensures strange)))
    (c.find_end.ensures.told_cause same is_observable)

pub returns-in_err-put_gate-clause-has : goal.returns-in_err-put_gate-clause-has
returns-in_err-put_gate-clause-has g c =
    let d = g.D.Disk.content c.args.disk.now in
    let m = g.D.Disk.content c.find_end.new.disk in
    let n = g.D.Disk.content c.put_gate.new.disk in
    let next = c.in-Unsure.next in
    let ends = c.args.marks.now.ends.items in
    let h : HasNotes d ends (Unsure next) = subst (HasNotes d ends) c.in-Unsure.is c.requires in
    let of = subst (λ (p : ℕ). IsGateOf p next c.in_ok-end.end) c.end-here.ensures c.in_ok-end.ensures.end in
    subst (λ (l : List ℕ). HasNotes n l c.args.marks.now.tail) (sym c.reserve.ensures.items)
    (subst (HasNotes n ends) (sym c.in-Unsure.is) (unsure_still d m n ends next c.in_ok-end.end _ h of c.find_end.ensures.content c.put_gate.ensures.content))

pub returns-in_err-put_gate-clause-notes : goal.returns-in_err-put_gate-clause-notes
returns-in_err-put_gate-clause-notes g c =
    let d = g.D.Disk.content c.args.disk.now in
    let laws : Lawful d = g.met.D.Disk.lawful c.args.disk.now in
    let next = c.in-Unsure.next in
    let ends = c.args.marks.now.ends.items in
    let h : HasNotes d ends (Unsure next) = subst (HasNotes d ends) c.in-Unsure.is c.requires in
    settle_told d (g.D.Disk.content c.find_end.new.disk) (g.D.Disk.content c.put_gate.new.disk) laws ends next c.in_ok-end.end _ h c.in_ok-end.ensures.reads c.find_end.ensures.content c.put_gate.ensures.content

pub returns-in_err-put_gate-clause-since : goal.returns-in_err-put_gate-clause-since
returns-in_err-put_gate-clause-since g c =
    let d = g.D.Disk.content c.args.disk.now in
    let laws : Lawful d = g.met.D.Disk.lawful c.args.disk.now in
    let next = c.in-Unsure.next in
    let ends = c.args.marks.now.ends.items in
    let h : HasNotes d ends (Unsure next) = subst (HasNotes d ends) c.in-Unsure.is c.requires in
    let of = subst (λ (p : ℕ). IsGateOf p next c.in_ok-end.end) c.end-here.ensures c.in_ok-end.ensures.end in
    settle_since d (g.D.Disk.content c.find_end.new.disk) (g.D.Disk.content c.put_gate.new.disk) laws (g.met.D.Disk.lawful c.put_gate.new.disk) ends next c.in_ok-end.end _ h of c.in_ok-end.ensures.reads c.find_end.ensures.content c.put_gate.ensures.content

pub returns-clause-has : goal.returns-clause-has
returns-clause-has g c =
    let d = g.D.Disk.content c.args.disk.now in
    let m = g.D.Disk.content c.find_end.new.disk in
    let n = g.D.Disk.content c.put_gate.new.disk in
    let next = c.in-Unsure.next in
    let ends = c.args.marks.now.ends.items in
    let end = c.in_ok-end.end in
    let h : HasNotes d ends (Unsure next) = subst (HasNotes d ends) c.in-Unsure.is c.requires in
    let of = subst (λ (p : ℕ). IsGateOf p next end) c.end-here.ensures c.in_ok-end.ensures.end in
    let now = c.move_to.new.marks in
    subst (HasNotes n now.ends.items) (sym c.move_to.ensures.tail)
    (sure_after d m n ends next end _ c.end-here.result now.ends.items h of c.end-here.ensures c.find_end.ensures.content c.put_gate.ensures.content c.in_ok-put_gate.ensures.durable
    (λ is. c.move_to.ensures.here is ∙ c.reserve.ensures.items)
    (λ not. c.move_to.ensures.next not ∙ ap (λ (l : List ℕ). l ++ end ∷ []) c.reserve.ensures.items))

pub returns-clause-notes : goal.returns-clause-notes
returns-clause-notes g c =
    let d = g.D.Disk.content c.args.disk.now in
    let laws : Lawful d = g.met.D.Disk.lawful c.args.disk.now in
    let next = c.in-Unsure.next in
    let ends = c.args.marks.now.ends.items in
    let h : HasNotes d ends (Unsure next) = subst (HasNotes d ends) c.in-Unsure.is c.requires in
    settle_told d (g.D.Disk.content c.find_end.new.disk) (g.D.Disk.content c.put_gate.new.disk) laws ends next c.in_ok-end.end _ h c.in_ok-end.ensures.reads c.find_end.ensures.content c.put_gate.ensures.content

pub returns-clause-since : goal.returns-clause-since
returns-clause-since g c =
    let d = g.D.Disk.content c.args.disk.now in
    let laws : Lawful d = g.met.D.Disk.lawful c.args.disk.now in
    let next = c.in-Unsure.next in
    let ends = c.args.marks.now.ends.items in
    let h : HasNotes d ends (Unsure next) = subst (HasNotes d ends) c.in-Unsure.is c.requires in
    let of = subst (λ (p : ℕ). IsGateOf p next c.in_ok-end.end) c.end-here.ensures c.in_ok-end.ensures.end in
    settle_since d (g.D.Disk.content c.find_end.new.disk) (g.D.Disk.content c.put_gate.new.disk) laws (g.met.D.Disk.lawful c.put_gate.new.disk) ends next c.in_ok-end.end _ h of c.in_ok-end.ensures.reads c.find_end.ensures.content c.put_gate.ensures.content
