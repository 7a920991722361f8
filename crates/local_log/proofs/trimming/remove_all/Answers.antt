use Rattle.std.proofs.Common.{◌≡◌, ◌∙◌, ◌+◌, ◌-◌, ◌<◌, ◌++◌, ◌∷◌, ℕ, List, [], length, take, drop, sym, ap, subst, arith}
use Rattle.std.proofs.lemmas.List.{drop_more, take-append-drop, map-append}
use Rattle.tier_base.specs.declared.plain.FileName.{FileName}
use Rattle.tier_base.specs.declared.plain.FileName.TheVariants as file
use Rattle.tier_base.specs.Device.{failing, Went, Fate}
use Rattle.disk_model.specs.Content.{Lawful}
use Rattle.segment_file.specs.Growing.{Grown}
use Rattle.tier_base.proofs.Lasting.{ran_lasts}
use Rattle.log_steps.proofs.Lasting.{lasts_then}
use Rattle.local_log.specs.Cutting.{names_of, RemovesAll}
use Rattle.local_log.proofs.Trimmed.{removes_then, one_removed, removes_wider, failed_not_went}
use Rattle.local_log.proofs.trimming.remove_all.Goals as goal

pub loop-left-preserved : goal.loop-left-preserved
loop-left-preserved g c =
    let content = g.D.Disk.content in
    let segments = c.args.segments.now in
    let i = c.loop-left.left - 1 in
    let x = c.index-segments-left.result in
    let d = content c.args.disk.now in
    let m = content c.loop-left.disk in
    let laws : Lawful m = g.met.D.Disk.lawful c.loop-left.disk in
    let inside = c.loop-left.invariant.inside in
    let lt : i < length segments = omega (arith, inside, c.loop-left-test.true) in
    let one = one_removed (file.Log c.base.result) (failing c.remove.result) m (content c.remove.new.self) _ c.remove.ensures.content (λ went b may. may.went went) in
    let went : failing c.remove.result ≡ Went = ap failing c.in_ok-remove.was in
    let named : file.Log c.base.result ≡ file.Log x.base = ap file.Log c.base.ensures in
    let step = subst (λ (n : FileName). RemovesAll (n ∷ []) Went m (content c.remove.new.self)) named (subst (λ (f : Fate). RemovesAll (file.Log c.base.result ∷ []) f m (content c.remove.new.self)) went one) in
    let back : c.loop-left.left ≡ i + 1 = omega (arith, c.loop-left-test.true) in
    let rest : drop i segments ≡ x ∷ drop c.loop-left.left segments =
    drop_more segments i x lt ∙ ap (λ (y : Grown). y ∷ drop (i + 1) segments) (sym c.index-segments-left.is) ∙ ap (λ (n : ℕ). x ∷ drop n segments) (sym back) in
    record {
      content = subst (λ (l : List Grown). RemovesAll (names_of l) Went d (content c.remove.new.self)) (sym rest)
          (removes_then (names_of (drop c.loop-left.left segments)) (file.Log x.base ∷ []) Went d m (content c.remove.new.self) laws c.loop-left.invariant.content step);
      room = omega (arith, c.loop-left.invariant.room, c.remove.ensures.room, c.loop-left-test.true);
      inside = omega (arith, inside);
      control = lasts_then _ _ _ c.loop-left.invariant.control (ran_lasts _ _ _ _ c.remove.ensures.control.ran);
      quiet = c.remove.ensures.control.ran.went went ∙ c.loop-left.invariant.quiet;
    }

pub returns-in_err-remove-clause-content : goal.returns-in_err-remove-clause-content
returns-in_err-remove-clause-content g c =
    let content = g.D.Disk.content in
    let segments = c.args.segments.now in
    let i = c.loop-left.left - 1 in
    let x = c.index-segments-left.result in
    let d = content c.args.disk.now in
    let m = content c.loop-left.disk in
    let laws : Lawful m = g.met.D.Disk.lawful c.loop-left.disk in
    let inside = c.loop-left.invariant.inside in
    let lt : i < length segments = omega (arith, inside, c.loop-left-test.true) in
    let one = one_removed (file.Log c.base.result) (failing c.remove.result) m (content c.remove.new.self) _ c.remove.ensures.content (λ went b may. may.went went) in
    let named : file.Log c.base.result ≡ file.Log x.base = ap file.Log c.base.ensures in
    let step = subst (λ (n : FileName). RemovesAll (n ∷ []) (failing c.remove.result) m (content c.remove.new.self)) named one in
    let back : c.loop-left.left ≡ i + 1 = omega (arith, c.loop-left-test.true) in
    let rest : drop i segments ≡ x ∷ drop c.loop-left.left segments =
    drop_more segments i x lt ∙ ap (λ (y : Grown). y ∷ drop (i + 1) segments) (sym c.index-segments-left.is) ∙ ap (λ (n : ℕ). x ∷ drop n segments) (sym back) in
    let both = removes_then (names_of (drop c.loop-left.left segments)) (file.Log x.base ∷ []) (failing c.remove.result) d m (content c.remove.new.self) laws c.loop-left.invariant.content step in
    let all : names_of segments ≡ names_of (take i segments) ++ names_of (x ∷ drop c.loop-left.left segments) =
    ap names_of (sym (take-append-drop i segments) ∙ ap (λ (l : List Grown). take i segments ++ l) rest)
    ∙ map-append (λ (s : Grown). file.Log s.base) (take i segments) (x ∷ drop c.loop-left.left segments) in
    subst (λ (l : List FileName). RemovesAll l (failing c.from_residual.result) d (content c.remove.new.self)) (sym all)
    (removes_wider (names_of (take i segments)) (names_of (x ∷ drop c.loop-left.left segments)) (failing c.remove.result) (failing c.from_residual.result) d (content c.remove.new.self)
    (failed_not_went c.from_residual.result c.from_residual.ensures.0) both)
