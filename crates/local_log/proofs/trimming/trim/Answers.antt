use Rattle.std.proofs.Common.{◌≡◌, ap, sym, subst}
use Rattle.tier_base.specs.declared.plain.FileName.TheVariants as file
use Rattle.tier_base.specs.Device.{failing, Went, Fate}
use Rattle.tier_base.specs.Told.{In}
use Rattle.disk_model.specs.Content.{Lawful}
use Rattle.log_manifest.specs.declared.manifest.Extent.{Extent}
use Rattle.local_log.specs.Stored.{extent_of}
use Rattle.local_log.specs.Listing.{front_to}
use Rattle.local_log.specs.Cutting.{open_by, behind, names_of, RemovesAll, Trims}
use Rattle.local_log.proofs.Trimmed.{trims, trims_none, failed_not_went}
use Rattle.local_log.proofs.trimming.trim.Goals as goal

pub returns-in_err-remove_behind-clause-content : goal.returns-in_err-remove_behind-clause-content
returns-in_err-remove_behind-clause-content g c =
    let content = g.D.Disk.content in
    let names = names_of (behind c.args.end c.args.closed.now c.args.active.now) in
    let e = extent_of (front_to c.args.end (open_by c.args.end c.args.closed.now c.args.active.now)) in
    let not = failed_not_went c.from_residual.result c.from_residual.ensures.0 in
    let d = content c.args.disk.now in
    let m = content c.remove_behind.new.disk in
    trims_none names e.base e.len c.requires.apart (failing c.remove_behind.result) (failing c.from_residual.result) d m not c.remove_behind.ensures.content

pub returns-clause-content : goal.returns-clause-content
returns-clause-content g c =
    let content = g.D.Disk.content in
    let names = names_of (behind c.args.end c.args.closed.now c.args.active.now) in
    let e = extent_of (front_to c.args.end (open_by c.args.end c.args.closed.now c.args.active.now)) in
    let d = content c.args.disk.now in
    let m = content c.remove_behind.new.disk in
    let d' = content c.cut.new.self in
    let laws : Lawful m = g.met.D.Disk.lawful c.remove_behind.new.disk in
    let went : failing c.remove_behind.result ≡ Went = ap failing c.in_ok-remove_behind.was in
    let so_far = subst (λ (f : Fate). RemovesAll names f d m) went c.remove_behind.ensures.content in
    subst (λ (x : Extent). Trims names x.base x.len (failing c.cut.result) d d') c.open_front-last.ensures
    (trims names c.open_front-last.result.base c.open_front-last.result.len (subst (λ (x : Extent). In (file.Log x.base) names → ⊥) (sym c.open_front-last.ensures) c.requires.apart) (failing c.cut.result) d m d' laws so_far _ c.cut.ensures.content (λ went b may. may.went went))
