use Rattle.std.proofs.Common.{◌∙◌, ◌++◌, ◌∷◌, [], sym, ap}
use Rattle.std.proofs.lemmas.Bool.{true≢false}
use Rattle.tier_base.specs.declared.fault.Trouble.TheVariants as fault
use Rattle.tier_base.specs.Device.{fate_of, failing, Went}
use Rattle.disk_model.specs.Content.{Lawful}
use Rattle.log_steps.proofs.Fates.{err_not_went}
use Rattle.local_log.proofs.Renewed.{renews_none, renews, err_fate, not_dry}
use Rattle.local_log.proofs.restarting.renew.Goals as goal

pub returns-in_err-replace-clause-content : goal.returns-in_err-replace-clause-content
returns-in_err-replace-clause-content g c =
    let content = g.D.Disk.content in
    let r = c.from_residual.result in
    renews_none c.args.bytes.now (c.args.closed.now ++ c.args.active.now ∷ []) (content c.args.disk.now) (content c.replace.new.self) _ c.replace.ensures.content (fate_of r)
    (err_not_went r c.from_residual.ensures.0)
    (λ dry m. true≢false (m.dry (ap fate_of c.in_err-replace.was ∙ sym (err_fate r c.in_err-replace.field-0.0 c.from_residual.ensures.1) ∙ dry)))

pub returns-in_err-remove_segments-clause-content : goal.returns-in_err-remove_segments-clause-content
returns-in_err-remove_segments-clause-content g c =
    let content = g.D.Disk.content in
    let r = c.from_residual-in_err-remove_segments.result in
    let laws : Lawful (content c.remove_segments.new.disk) = g.met.D.Disk.lawful c.remove_segments.new.disk in
    renews c.args.bytes.now (c.args.closed.now ++ c.args.active.now ∷ []) (content c.args.disk.now) (content c.replace.new.self) _ c.replace.ensures.content (content c.remove_segments.new.disk) laws (failing c.remove_segments.result) c.in_ok-replace.ensures.durable c.remove_segments.ensures.content (fate_of r)
    (not_dry (fate_of r) (err_fate r fault.Failed c.from_residual-in_err-remove_segments.ensures.1))
    (λ went. absurd (err_not_went r c.from_residual-in_err-remove_segments.ensures.0 went))

pub returns-clause-content : goal.returns-clause-content
returns-clause-content g c =
    let content = g.D.Disk.content in
    let laws : Lawful (content c.remove_segments.new.disk) = g.met.D.Disk.lawful c.remove_segments.new.disk in
    renews c.args.bytes.now (c.args.closed.now ++ c.args.active.now ∷ []) (content c.args.disk.now) (content c.replace.new.self) _ c.replace.ensures.content (content c.remove_segments.new.disk) laws (failing c.remove_segments.result) c.in_ok-replace.ensures.durable c.remove_segments.ensures.content Went
    (λ dry. cc)
    (λ went. ap failing c.in_ok-remove_segments.was)
