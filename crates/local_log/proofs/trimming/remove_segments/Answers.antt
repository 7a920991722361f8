use Rattle.std.proofs.Common.{◌≡◌, ◌∷◌, List, [], sym, ap, subst}
use Rattle.std.proofs.lemmas.List.{map-append}
use Rattle.tier_base.specs.declared.plain.FileName.{FileName}
use Rattle.tier_base.specs.declared.plain.FileName.TheVariants as file
use Rattle.tier_base.specs.Device.{failing, Went, Fate}
use Rattle.disk_model.specs.Content.{Lawful}
use Rattle.segment_file.specs.Growing.{Grown}
use Rattle.local_log.specs.Cutting.{names_of, RemovesAll}
use Rattle.local_log.proofs.Trimmed.{removes_then, one_removed, removes_wider, failed_not_went}
use Rattle.local_log.proofs.trimming.remove_segments.Goals as goal

pub returns-in_err-remove-clause-content : goal.returns-in_err-remove-clause-content
returns-in_err-remove-clause-content g c =
    let content = g.D.Disk.content in
    let d = content c.args.disk.now in
    let m = content c.remove.new.self in
    let one = one_removed (file.Log c.base.result) (failing c.remove.result) d m _ c.remove.ensures.content (λ went b may. may.went went) in
    let step = subst (λ (n : FileName). RemovesAll (n ∷ []) (failing c.remove.result) d m) (ap file.Log c.base.ensures) one in
    subst (λ (l : List FileName). RemovesAll l (failing c.from_residual.result) d m) (sym (map-append (λ (s : Grown). file.Log s.base) c.args.closed.now (c.args.active.now ∷ [])))
    (removes_wider (names_of c.args.closed.now) (file.Log c.args.active.now.base ∷ []) (failing c.remove.result) (failing c.from_residual.result) d m (failed_not_went c.from_residual.result c.from_residual.ensures.0) step)

pub returns-clause-content : goal.returns-clause-content
returns-clause-content g c =
    let content = g.D.Disk.content in
    let d = content c.args.disk.now in
    let m = content c.remove.new.self in
    let laws : Lawful m = g.met.D.Disk.lawful c.remove.new.self in
    let one = one_removed (file.Log c.base.result) (failing c.remove.result) d m _ c.remove.ensures.content (λ went b may. may.went went) in
    let went : failing c.remove.result ≡ Went = ap failing c.in_ok-remove.was in
    let step = subst (λ (f : Fate). RemovesAll (file.Log c.args.active.now.base ∷ []) f d m) went (subst (λ (n : FileName). RemovesAll (n ∷ []) (failing c.remove.result) d m) (ap file.Log c.base.ensures) one) in
    subst (λ (l : List FileName). RemovesAll l (failing c.remove_all.result) d (content c.remove_all.new.disk)) (sym (map-append (λ (s : Grown). file.Log s.base) c.args.closed.now (c.args.active.now ∷ [])))
    (removes_then (file.Log c.args.active.now.base ∷ []) (names_of c.args.closed.now) (failing c.remove_all.result) d m (content c.remove_all.new.disk) laws step c.remove_all.ensures.content)
