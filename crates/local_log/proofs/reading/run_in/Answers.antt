use Rattle.std.proofs.Common.{◌≡◌, ◌∙◌, ◌+◌, ℕ, List, ◌∷◌, ap, subst, sym, refl, arith, inl, inr, length}
use Rattle.std.specs.Prelude.{slice_range}
use Rattle.tier_base.specs.Told.{bytes_in}
use Rattle.local_log.specs.Reading.{IsCutOut, HasNoLocalRun}
use Rattle.local_log.proofs.CutOut.{no_run_in_nothing, run_row, run_within}
use Rattle.local_log.proofs.Strays.{stray_inside}
use Rattle.local_log.proofs.reading.run_in.Goals as goal

pub returns-in_default-clause-err : goal.returns-in_default-clause-err
returns-in_default-clause-err c = (refl, rw c.in_default.is (no_run_in_nothing c.args.line.now c.args.offset c.args.limit c.args.mark c.args.piece.end c.args.piece.from))

pub first_stray-requires : goal.first_stray-requires
first_stray-requires c =
    let bytes = c.as_slice.result.now in
    let cut = c.in-Ok.cut in
    let r = c.in-Ok.ensures in
    let part : c.as_slice-2.result.now ≡ slice_range bytes cut.from cut.to = c.as_slice-2.ensures ∙ c.in_ok-run.ensures.ok ∙ ap (λ (l : List ℕ). slice_range l cut.from cut.to) (sym c.as_slice.ensures) in
    run_row bytes c.args.offset c.args.limit c.args.mark c.args.piece.end cut r c.as_slice-2.result.now part

pub overflow_add-result-in-Some-first_stray : goal.overflow_add-result-in-Some-first_stray
overflow_add-result-in-Some-first_stray c =
    let bytes = c.as_slice.result.now in
    let cut = c.in-Ok.cut in
    let r = c.in-Ok.ensures in
    let part : c.as_slice-2.result.now ≡ slice_range bytes cut.from cut.to = c.as_slice-2.ensures ∙ c.in_ok-run.ensures.ok ∙ ap (λ (l : List ℕ). slice_range l cut.from cut.to) (sym c.as_slice.ensures) in
    let row = run_row bytes c.args.offset c.args.limit c.args.mark c.args.piece.end cut r c.as_slice-2.result.now part in
    let inside = stray_inside c.args.line.now (r.first ∷ r.others) c.in-Some-first_stray.at (c.in-Some-first_stray.ensures.some row) in
    let within = run_within bytes c.args.offset c.args.limit c.args.mark c.args.piece.end cut r in
    let to = r.from in
    let long = ap length c.as_slice.ensures in
    omega (arith, inside, within, to, long, c.len-len.ensures.value, c.len-len.ensures.bound)

pub overflow_add-result-in-Some-first_stray-2 : goal.overflow_add-result-in-Some-first_stray-2
overflow_add-result-in-Some-first_stray-2 c =
    let bytes = c.as_slice.result.now in
    let cut = c.in-Ok.cut in
    let r = c.in-Ok.ensures in
    let part : c.as_slice-2.result.now ≡ slice_range bytes cut.from cut.to = c.as_slice-2.ensures ∙ c.in_ok-run.ensures.ok ∙ ap (λ (l : List ℕ). slice_range l cut.from cut.to) (sym c.as_slice.ensures) in
    let row = run_row bytes c.args.offset c.args.limit c.args.mark c.args.piece.end cut r c.as_slice-2.result.now part in
    let inside = stray_inside c.args.line.now (r.first ∷ r.others) c.in-Some-first_stray.at (c.in-Some-first_stray.ensures.some row) in
    let within = run_within bytes c.args.offset c.args.limit c.args.mark c.args.piece.end cut r in
    let to = r.from in
    let long = ap length c.as_slice.ensures in
    search (arith, inside, within, to, long, c.len-len.ensures.value, c.len-len.ensures.bound)

pub returns-in-Some-first_stray-clause-err : goal.returns-in-Some-first_stray-clause-err
returns-in-Some-first_stray-clause-err c =
    let bytes = c.as_slice.result.now in
    let cut = c.in-Ok.cut in
    let r = c.in-Ok.ensures in
    let part : c.as_slice-2.result.now ≡ slice_range bytes cut.from cut.to = c.as_slice-2.ensures ∙ c.in_ok-run.ensures.ok ∙ ap (λ (l : List ℕ). slice_range l cut.from cut.to) (sym c.as_slice.ensures) in
    let row = run_row bytes c.args.offset c.args.limit c.args.mark c.args.piece.end cut r c.as_slice-2.result.now part in
    let at = c.in-Some-first_stray.at in
    let none : HasNoLocalRun c.args.line.now bytes c.args.offset c.args.limit c.args.mark c.args.piece.end c.args.piece.from (c.args.piece.from + (cut.from + at)) = record {
      found = cut.from + at;
      bad = inr (record { cut = cut; is = r; behind = at; strays = c.in-Some-first_stray.ensures.some row; place = refl });
      place = inl refl;
    } in
    (refl, subst (λ (b : List ℕ). HasNoLocalRun c.args.line.now b c.args.offset c.args.limit c.args.mark c.args.piece.end c.args.piece.from (c.args.piece.from + (cut.from + at))) (c.as_slice.ensures ∙ sym (ap bytes_in c.in-Some.is)) none)

pub returns-clause-ok : goal.returns-clause-ok
returns-clause-ok c =
    let bytes = c.as_slice.result.now in
    let cut = c.in-Ok.cut in
    let r = c.in-Ok.ensures in
    let part : c.as_slice-2.result.now ≡ slice_range bytes cut.from cut.to = c.as_slice-2.ensures ∙ c.in_ok-run.ensures.ok ∙ ap (λ (l : List ℕ). slice_range l cut.from cut.to) (sym c.as_slice.ensures) in
    let row = run_row bytes c.args.offset c.args.limit c.args.mark c.args.piece.end cut r c.as_slice-2.result.now part in
    subst (λ (b : List ℕ). IsCutOut c.args.line.now b c.args.offset c.args.limit c.args.mark c.args.piece.end (record { base = c.args.piece.base; bytes = c.in_ok-run.run'; next = cut.next; stop = cut.stop })) (c.as_slice.ensures ∙ sym (ap bytes_in c.in-Some.is))
    (record {
      cut = cut;
      is = r;
      epochs = c.in-None.ensures.none refl row;
      part = sym c.as_slice-2.ensures ∙ part;
      next_is = refl;
      stop_is = refl;
    })
