use Rattle.std.proofs.Common.{◌≡◌, ◌+◌, ◌<◌, ℕ, List, ◌∷◌, ◌++◌, length, take, drop, get_or, sym, ap, ◌∙◌, refl, subst, arith, take-append-drop}
use Rattle.std.proofs.lemmas.List.{take_more, drop_more}
use Rattle.disk_model.specs.Content.{Lawful}
use Rattle.log_manifest.specs.declared.manifest.Extent.{Extent}
use Rattle.log_steps.specs.Rewrites.{RestoresAll}
use Rattle.log_steps.proofs.Lasting.{lasts_then, went_on, failed_so, runs_fault}
use Rattle.log_steps.proofs.Restored.{step_leaves, step_done}
use Rattle.log_steps.proofs.rewriting.restore_all.Goals as goal

abbrev none : Extent
none = record { base = 0; len = 0 }

split_at : (es : List Extent) (i : ℕ) → i < length es → es ≡ take i es ++ get_or es i none ∷ drop (i + 1) es
split_at es i lt = sym (take-append-drop i es) ∙ ap (λ (l : List Extent). take i es ++ l) (drop_more es i none lt)

pub returns-in_err-restore-clause-since : goal.returns-in_err-restore-clause-since
returns-in_err-restore-clause-since g c =
    let content = g.D.Disk.content in
    let es = c.args.extents.now in
    let i = c.loop-extent.extent-index in
    let lt : i < length es = omega arith in
    let m = content c.loop-extent.disk in
    let laws : Lawful m = g.met.D.Disk.lawful c.loop-extent.disk in
    let so_far = subst (λ (l : List Extent). RestoresAll es (take i es) l (content c.args.disk.now) m) (drop_more es i none lt) c.loop-extent.invariant.content in
    step_leaves es (take i es) (get_or es i none) (drop (i + 1) es) (split_at es i lt) c.requires.rising (content c.args.disk.now) m (content c.restore.new.disk) laws _ so_far c.restore.ensures.content

pub loop-extent-preserved : goal.loop-extent-preserved
loop-extent-preserved g c =
    let content = g.D.Disk.content in
    let es = c.args.extents.now in
    let i = c.loop-extent.extent-index in
    let lt : i < length es = omega arith in
    let m = content c.loop-extent.disk in
    let laws : Lawful m = g.met.D.Disk.lawful c.loop-extent.disk in
    let laws' : Lawful (content c.restore.new.disk) = g.met.D.Disk.lawful c.restore.new.disk in
    let so_far = subst (λ (l : List Extent). RestoresAll es (take i es) l (content c.args.disk.now) m) (drop_more es i none lt) c.loop-extent.invariant.content in
    record {
      content = subst (λ (l : List Extent). RestoresAll es l (drop (i + 1) es) (content c.args.disk.now) (content c.restore.new.disk)) (sym (take_more es i none lt))
          (step_done es (take i es) (get_or es i none) (drop (i + 1) es) (split_at es i lt) c.requires.rising (content c.args.disk.now) m (content c.restore.new.disk) laws _ so_far c.in_ok-restore.ensures.content laws' refl);
      room = omega (arith, c.loop-extent.invariant.room, c.in_ok-restore.ensures.room);
      control = lasts_then _ _ _ c.loop-extent.invariant.control c.in_ok-restore.ensures.control.lasts;
      quiet = went_on _ _ _ _ c.in_ok-restore.was c.restore.ensures.control ∙ c.loop-extent.invariant.quiet;
    }

pub returns-in_err-restore-clause-control : goal.returns-in_err-restore-clause-control
returns-in_err-restore-clause-control g c =
    runs_fault c.from_residual.result _ _ _ c.from_residual.ensures.0 c.loop-extent.invariant.control c.loop-extent.invariant.quiet (failed_so _ _ _ _ c.in_err-restore.was c.restore.ensures.control)
