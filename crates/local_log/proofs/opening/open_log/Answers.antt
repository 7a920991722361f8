use Rattle.std.proofs.Common.{◌≡◌, ℕ, List, Some, sym, ap, subst, IsTrue}
use Rattle.tier_base.specs.declared.plain.FileName.TheVariants as file
use Rattle.tier_base.specs.Device.{MayBeDone, Went, fate_of}
use Rattle.tier_base.specs.Told.{replaced}
use Rattle.disk_model.specs.declared.call.DiskCall.TheVariants as call
use Rattle.disk_model.specs.Content.{Lawful, Files, Image, Changes, Swapped}
use Rattle.log_steps.specs.Fronts.{Rising}
use Rattle.log_steps.proofs.Opening.{reopens_kept, leaves_all}
use Rattle.log_steps.proofs.Reading.{opens_like}
use Rattle.local_log.specs.Refusing.{IsSoundCause}
use Rattle.local_log.specs.Opening.{ReadFailsIn}
use Rattle.local_log.specs.Planning.{AreSegmentsRead}
use Rattle.local_log.proofs.RunsTold.{err_on}
use Rattle.local_log.proofs.SegmentsRead.{segments_rise}
use Rattle.local_log.proofs.Planned.{plan_kept, names_kept, rewrites_same, plan_rewritten, plan_reopens, plan_reads, plan_misses, fails_like, plan_read, plan_reopens_read, plan_written, plan_reopens_written}
use Rattle.local_log.proofs.OpenedLog.{opened_log, opened_again, opened_kept}
use Rattle.local_log.proofs.opening.open_log.Goals as goal

pub rewrite-requires-clause-rising : goal.rewrite-requires-clause-rising
rewrite-requires-clause-rising g c =
    subst Rising (sym c.as_slice-extents.ensures) (segments_rise c.in_ok-plan.plan.manifest.segments c.in_ok-plan.ensures.plan.is.rules.segments)

pub returns-in_err-rewrite-clause-leaves : goal.returns-in_err-rewrite-clause-leaves
returns-in_err-rewrite-clause-leaves g c before =
    let content = g.D.Disk.content in
    let d0 = content c.args.disk.now in
    let d = content c.study.new.disk in
    let laws : Lawful d = g.met.D.Disk.lawful c.study.new.disk in
    let k0 = c.study.ensures.content in
    let reopens = reopens_kept d0 d k0 before in
    let plan = c.in_ok-plan.plan in
    let p = plan_kept d0 d plan k0 c.in_ok-plan.ensures.plan in
    let d1 = content c.rewrite.new.disk in
    let laws1 : Lawful d1 = g.met.D.Disk.lawful c.rewrite.new.disk in
    let fate = fate_of c.rewrite.result in
    let names = c.in_ok-plan.names in
    let rewrites = rewrites_same _ plan.present _ plan.manifest.segments _ names fate d d1 c.as_slice-present.ensures c.as_slice-extents.ensures c.as_slice-files.ensures c.rewrite.ensures.content in
    leaves_all d0 d d1 before k0 (plan_rewritten d laws reopens plan p names fate d1 laws1 rewrites)

pub returns-in_err-rewrite-clause-again : goal.returns-in_err-rewrite-clause-again
returns-in_err-rewrite-clause-again g c before =
    let content = g.D.Disk.content in
    let d0 = content c.args.disk.now in
    let d = content c.study.new.disk in
    let laws : Lawful d = g.met.D.Disk.lawful c.study.new.disk in
    let k0 = c.study.ensures.content in
    let reopens = reopens_kept d0 d k0 before in
    let plan = c.in_ok-plan.plan in
    let p = plan_kept d0 d plan k0 c.in_ok-plan.ensures.plan in
    let d1 = content c.rewrite.new.disk in
    let laws1 : Lawful d1 = g.met.D.Disk.lawful c.rewrite.new.disk in
    let fate = fate_of c.rewrite.result in
    let names = c.in_ok-plan.names in
    let rewrites = rewrites_same _ plan.present _ plan.manifest.segments _ names fate d d1 c.as_slice-present.ensures c.as_slice-extents.ensures c.as_slice-files.ensures c.rewrite.ensures.content in
    plan_reopens d laws reopens plan p names fate d1 laws1 rewrites

pub returns-in_err-segments-clause-leaves : goal.returns-in_err-segments-clause-leaves
returns-in_err-segments-clause-leaves g c before =
    let content = g.D.Disk.content in
    let d0 = content c.args.disk.now in
    let d = content c.study.new.disk in
    let laws : Lawful d = g.met.D.Disk.lawful c.study.new.disk in
    let k0 = c.study.ensures.content in
    let reopens = reopens_kept d0 d k0 before in
    let plan = c.in_ok-plan.plan in
    let p = plan_kept d0 d plan k0 c.in_ok-plan.ensures.plan in
    let d1 = content c.rewrite.new.disk in
    let laws1 : Lawful d1 = g.met.D.Disk.lawful c.rewrite.new.disk in
    let fate = fate_of c.rewrite.result in
    let names = c.in_ok-plan.names in
    let rewrites = rewrites_same _ plan.present _ plan.manifest.segments _ names fate d d1 c.as_slice-present.ensures c.as_slice-extents.ensures c.as_slice-files.ensures c.rewrite.ensures.content in
    let went : fate ≡ Went = ap fate_of c.in_ok-rewrite.was in
    let d2 = content c.read_segments.new.disk in
    let k = c.read_segments.ensures.content in
    leaves_all d0 d d2 before k0 (plan_read d laws reopens plan p names fate d1 laws1 rewrites went d2 k)

pub returns-in_err-segments-clause-again : goal.returns-in_err-segments-clause-again
returns-in_err-segments-clause-again g c before =
    let content = g.D.Disk.content in
    let d0 = content c.args.disk.now in
    let d = content c.study.new.disk in
    let laws : Lawful d = g.met.D.Disk.lawful c.study.new.disk in
    let k0 = c.study.ensures.content in
    let reopens = reopens_kept d0 d k0 before in
    let plan = c.in_ok-plan.plan in
    let p = plan_kept d0 d plan k0 c.in_ok-plan.ensures.plan in
    let d1 = content c.rewrite.new.disk in
    let laws1 : Lawful d1 = g.met.D.Disk.lawful c.rewrite.new.disk in
    let fate = fate_of c.rewrite.result in
    let names = c.in_ok-plan.names in
    let rewrites = rewrites_same _ plan.present _ plan.manifest.segments _ names fate d d1 c.as_slice-present.ensures c.as_slice-extents.ensures c.as_slice-files.ensures c.rewrite.ensures.content in
    let went : fate ≡ Went = ap fate_of c.in_ok-rewrite.was in
    let d2 = content c.read_segments.new.disk in
    let k = c.read_segments.ensures.content in
    plan_reopens_read d laws reopens plan p names fate d1 laws1 rewrites went d2 k

pub returns-in_err-segments-clause-sound : goal.returns-in_err-segments-clause-sound
returns-in_err-segments-clause-sound g c =
    let content = g.D.Disk.content in
    let d0 = content c.args.disk.now in
    let d = content c.study.new.disk in
    let k0 = c.study.ensures.content in
    let plan = c.in_ok-plan.plan in
    let p = plan_kept d0 d plan k0 c.in_ok-plan.ensures.plan in
    let d1 = content c.rewrite.new.disk in
    let fate = fate_of c.rewrite.result in
    let names = c.in_ok-plan.names in
    let rewrites = rewrites_same _ plan.present _ plan.manifest.segments _ names fate d d1 c.as_slice-present.ensures c.as_slice-extents.ensures c.as_slice-files.ensures c.rewrite.ensures.content in
    let went : fate ≡ Went = ap fate_of c.in_ok-rewrite.was in
    err_on _ _ c.from_residual-in_err-segments.result
    (λ e is t o opens. (
    let told : IsTrue d.is_observable = subst IsTrue (sym k0.is_observable) t in
    let s = plan_reads d plan p told names fate went d1 rewrites o (opens_like d.files d0.files o k0.files opens) in
    subst IsSoundCause (sym is) (c.in_err-segments.ensures.sound (subst IsTrue (sym rewrites.is_observable) told) s.0 s.1)
    )) c.from_residual-in_err-segments.ensures.1

pub returns-in_err-segments-clause-place : goal.returns-in_err-segments-clause-place
returns-in_err-segments-clause-place g c =
    let content = g.D.Disk.content in
    let d0 = content c.args.disk.now in
    let d = content c.study.new.disk in
    let k0 = c.study.ensures.content in
    let plan = c.in_ok-plan.plan in
    let p = plan_kept d0 d plan k0 c.in_ok-plan.ensures.plan in
    let d1 = content c.rewrite.new.disk in
    let fate = fate_of c.rewrite.result in
    let names = c.in_ok-plan.names in
    let rewrites = rewrites_same _ plan.present _ plan.manifest.segments _ names fate d d1 c.as_slice-present.ensures c.as_slice-extents.ensures c.as_slice-files.ensures c.rewrite.ensures.content in
    let went : fate ≡ Went = ap fate_of c.in_ok-rewrite.was in
    err_on _ _ c.from_residual-in_err-segments.result
    (λ e is t. (
    let told : IsTrue d.is_observable = subst IsTrue (sym k0.is_observable) t in
    let told1 : IsTrue d1.is_observable = subst IsTrue (sym rewrites.is_observable) told in
    fails_like d.files d0.files e k0.files
    (plan_misses d plan p told names fate went d1 rewrites e (subst (ReadFailsIn d1.files plan.manifest) (sym is) (c.in_err-segments.ensures.place told1))
    (λ batches s. subst IsSoundCause (sym is) (c.in_err-segments.ensures.sound told1 batches s)))
    )) c.from_residual-in_err-segments.ensures.1

pub returns-in_err-replace-clause-leaves : goal.returns-in_err-replace-clause-leaves
returns-in_err-replace-clause-leaves g c before =
    let content = g.D.Disk.content in
    let d0 = content c.args.disk.now in
    let d = content c.study.new.disk in
    let laws : Lawful d = g.met.D.Disk.lawful c.study.new.disk in
    let k0 = c.study.ensures.content in
    let reopens = reopens_kept d0 d k0 before in
    let plan = c.in_ok-plan.plan in
    let p = plan_kept d0 d plan k0 c.in_ok-plan.ensures.plan in
    let d1 = content c.rewrite.new.disk in
    let laws1 : Lawful d1 = g.met.D.Disk.lawful c.rewrite.new.disk in
    let fate = fate_of c.rewrite.result in
    let names = c.in_ok-plan.names in
    let rewrites = rewrites_same _ plan.present _ plan.manifest.segments _ names fate d d1 c.as_slice-present.ensures c.as_slice-extents.ensures c.as_slice-files.ensures c.rewrite.ensures.content in
    let went : fate ≡ Went = ap fate_of c.in_ok-rewrite.was in
    let d2 = content c.read_segments.new.disk in
    let k = c.read_segments.ensures.content in
    let d3 = content c.replace.new.self in
    let laws3 : Lawful d3 = g.met.D.Disk.lawful c.replace.new.self in
    let change = subst (λ (b : List ℕ). Changes file.Manifest (replaced b) (Swapped b) (MayBeDone call.Replace (fate_of c.replace.result) (g.D.Disk.control c.read_segments.new.disk)) d2 d3) c.as_slice-next.ensures.value c.replace.ensures.content in
    leaves_all d0 d d3 before k0 (plan_written d laws reopens plan p names fate d1 laws1 rewrites went d2 k _ d3 laws3 change)

pub returns-in_err-replace-clause-again : goal.returns-in_err-replace-clause-again
returns-in_err-replace-clause-again g c before =
    let content = g.D.Disk.content in
    let d0 = content c.args.disk.now in
    let d = content c.study.new.disk in
    let laws : Lawful d = g.met.D.Disk.lawful c.study.new.disk in
    let k0 = c.study.ensures.content in
    let reopens = reopens_kept d0 d k0 before in
    let plan = c.in_ok-plan.plan in
    let p = plan_kept d0 d plan k0 c.in_ok-plan.ensures.plan in
    let d1 = content c.rewrite.new.disk in
    let laws1 : Lawful d1 = g.met.D.Disk.lawful c.rewrite.new.disk in
    let fate = fate_of c.rewrite.result in
    let names = c.in_ok-plan.names in
    let rewrites = rewrites_same _ plan.present _ plan.manifest.segments _ names fate d d1 c.as_slice-present.ensures c.as_slice-extents.ensures c.as_slice-files.ensures c.rewrite.ensures.content in
    let went : fate ≡ Went = ap fate_of c.in_ok-rewrite.was in
    let d2 = content c.read_segments.new.disk in
    let k = c.read_segments.ensures.content in
    let d3 = content c.replace.new.self in
    let laws3 : Lawful d3 = g.met.D.Disk.lawful c.replace.new.self in
    let change = subst (λ (b : List ℕ). Changes file.Manifest (replaced b) (Swapped b) (MayBeDone call.Replace (fate_of c.replace.result) (g.D.Disk.control c.read_segments.new.disk)) d2 d3) c.as_slice-next.ensures.value c.replace.ensures.content in
    plan_reopens_written d laws reopens plan p names fate d1 laws1 rewrites went d2 k _ d3 laws3 change

pub returns-clause-leaves : goal.returns-clause-leaves
returns-clause-leaves g c before =
    let content = g.D.Disk.content in
    let d0 = content c.args.disk.now in
    let d = content c.study.new.disk in
    let laws : Lawful d = g.met.D.Disk.lawful c.study.new.disk in
    let k0 = c.study.ensures.content in
    let reopens = reopens_kept d0 d k0 before in
    let plan = c.in_ok-plan.plan in
    let p = plan_kept d0 d plan k0 c.in_ok-plan.ensures.plan in
    let d1 = content c.rewrite.new.disk in
    let laws1 : Lawful d1 = g.met.D.Disk.lawful c.rewrite.new.disk in
    let fate = fate_of c.rewrite.result in
    let names = c.in_ok-plan.names in
    let rewrites = rewrites_same _ plan.present _ plan.manifest.segments _ names fate d d1 c.as_slice-present.ensures c.as_slice-extents.ensures c.as_slice-files.ensures c.rewrite.ensures.content in
    let went : fate ≡ Went = ap fate_of c.in_ok-rewrite.was in
    let d2 = content c.read_segments.new.disk in
    let k = c.read_segments.ensures.content in
    let d3 = content c.replace.new.self in
    let laws3 : Lawful d3 = g.met.D.Disk.lawful c.replace.new.self in
    let change = subst (λ (b : List ℕ). Changes file.Manifest (replaced b) (Swapped b) (MayBeDone call.Replace (fate_of c.replace.result) (g.D.Disk.control c.read_segments.new.disk)) d2 d3) c.as_slice-next.ensures.value c.replace.ensures.content in
    leaves_all d0 d d3 before k0 (plan_written d laws reopens plan p names fate d1 laws1 rewrites went d2 k _ d3 laws3 change)

pub returns-clause-again : goal.returns-clause-again
returns-clause-again g c before =
    let content = g.D.Disk.content in
    let d0 = content c.args.disk.now in
    let d = content c.study.new.disk in
    let laws : Lawful d = g.met.D.Disk.lawful c.study.new.disk in
    let k0 = c.study.ensures.content in
    let reopens = reopens_kept d0 d k0 before in
    let plan = c.in_ok-plan.plan in
    let p = plan_kept d0 d plan k0 c.in_ok-plan.ensures.plan in
    let d1 = content c.rewrite.new.disk in
    let laws1 : Lawful d1 = g.met.D.Disk.lawful c.rewrite.new.disk in
    let fate = fate_of c.rewrite.result in
    let names = c.in_ok-plan.names in
    let rewrites = rewrites_same _ plan.present _ plan.manifest.segments _ names fate d d1 c.as_slice-present.ensures c.as_slice-extents.ensures c.as_slice-files.ensures c.rewrite.ensures.content in
    let went : fate ≡ Went = ap fate_of c.in_ok-rewrite.was in
    let d2 = content c.read_segments.new.disk in
    let k = c.read_segments.ensures.content in
    let d3 = content c.replace.new.self in
    let laws3 : Lawful d3 = g.met.D.Disk.lawful c.replace.new.self in
    let change = subst (λ (b : List ℕ). Changes file.Manifest (replaced b) (Swapped b) (MayBeDone call.Replace (fate_of c.replace.result) (g.D.Disk.control c.read_segments.new.disk)) d2 d3) c.as_slice-next.ensures.value c.replace.ensures.content in
    plan_reopens_written d laws reopens plan p names fate d1 laws1 rewrites went d2 k _ d3 laws3 change

pub returns-clause-reopens : goal.returns-clause-reopens
returns-clause-reopens g c =
    let content = g.D.Disk.content in
    let d0 = content c.args.disk.now in
    let d = content c.study.new.disk in
    let k0 = c.study.ensures.content in
    let plan = c.in_ok-plan.plan in
    let p = plan_kept d0 d plan k0 c.in_ok-plan.ensures.plan in
    let d1 = content c.rewrite.new.disk in
    let fate = fate_of c.rewrite.result in
    let names = c.in_ok-plan.names in
    let rewrites = rewrites_same _ plan.present _ plan.manifest.segments _ names fate d d1 c.as_slice-present.ensures c.as_slice-extents.ensures c.as_slice-files.ensures c.rewrite.ensures.content in
    let went : fate ≡ Went = ap fate_of c.in_ok-rewrite.was in
    let d2 = content c.read_segments.new.disk in
    let k = c.read_segments.ensures.content in
    let d3 = content c.replace.new.self in
    let laws3 : Lawful d3 = g.met.D.Disk.lawful c.replace.new.self in
    let change = subst (λ (b : List ℕ). Changes file.Manifest (replaced b) (Swapped b) (MayBeDone call.Replace (fate_of c.replace.result) (g.D.Disk.control c.read_segments.new.disk)) d2 d3) c.as_slice-next.ensures.value c.replace.ensures.content in
    let named = names_kept d0 d names k0 c.in_ok-plan.ensures.names in
    let sure = subst (λ (b : List ℕ). (f : Files) → Image d3 f → f file.Manifest ≡ Some b) c.as_slice-next.ensures.value c.in_ok-replace.ensures.durable in
    let parts = c.parts_of.result in
    let read = subst (AreSegmentsRead d1 plan.manifest.line c.args.interval plan.manifest.local_start plan.manifest.segments) (sym c.parts_of.ensures.segments) c.in_ok-segments.ensures.read in
    opened_again d plan p names named fate went d1 rewrites d2 k _ d3 laws3 change sure c.args.interval parts read c.parts_of.ensures.incarnation c.parts_of.ensures.start c.parts_of.ensures.line

pub returns-clause-opened : goal.returns-clause-opened
returns-clause-opened g c =
    let content = g.D.Disk.content in
    let d0 = content c.args.disk.now in
    let d = content c.study.new.disk in
    let k0 = c.study.ensures.content in
    let plan = c.in_ok-plan.plan in
    let p = plan_kept d0 d plan k0 c.in_ok-plan.ensures.plan in
    let d1 = content c.rewrite.new.disk in
    let fate = fate_of c.rewrite.result in
    let names = c.in_ok-plan.names in
    let rewrites = rewrites_same _ plan.present _ plan.manifest.segments _ names fate d d1 c.as_slice-present.ensures c.as_slice-extents.ensures c.as_slice-files.ensures c.rewrite.ensures.content in
    let went : fate ≡ Went = ap fate_of c.in_ok-rewrite.was in
    let d2 = content c.read_segments.new.disk in
    let k = c.read_segments.ensures.content in
    let d3 = content c.replace.new.self in
    let laws3 : Lawful d3 = g.met.D.Disk.lawful c.replace.new.self in
    let change = subst (λ (b : List ℕ). Changes file.Manifest (replaced b) (Swapped b) (MayBeDone call.Replace (fate_of c.replace.result) (g.D.Disk.control c.read_segments.new.disk)) d2 d3) c.as_slice-next.ensures.value c.replace.ensures.content in
    let named = names_kept d0 d names k0 c.in_ok-plan.ensures.names in
    let sure = subst (λ (b : List ℕ). (f : Files) → Image d3 f → f file.Manifest ≡ Some b) c.as_slice-next.ensures.value c.in_ok-replace.ensures.durable in
    let parts = c.parts_of.result in
    let read = subst (AreSegmentsRead d1 plan.manifest.line c.args.interval plan.manifest.local_start plan.manifest.segments) (sym c.parts_of.ensures.segments) c.in_ok-segments.ensures.read in
    opened_kept d0 d d3 c.args.interval parts k0
    (opened_log d plan p names named fate went d1 rewrites d2 k _ d3 laws3 change sure c.args.interval parts read c.parts_of.ensures.incarnation c.parts_of.ensures.start c.parts_of.ensures.line)
