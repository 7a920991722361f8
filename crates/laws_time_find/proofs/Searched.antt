-- A run that is searched gives the log's first batch that isn't too early, or has none.
use Rattle.std.proofs.Common.{◌≡◌, sym, subst, refl, ℕ, ◌+◌, ◌<◌, ◌≤◌, true, max, List, [], ◌∷◌, arith}
use Rattle.log_terms.specs.Log.{end_from, end_of}
use Rattle.plain_log.specs.Fetch.{is_within}
use Rattle.laws_time_find.specs.Passed.{HasPassed}
use Rattle.laws_time_find.specs.Answers.{RunsAreSearched}
use Rattle.laws_time_find.proofs.Dates.{run_found, run_passed}

-- a run ends past the offset that it is read at
run_ends : (offset at limit : ℕ) (run : List (List ℕ)) → is_within limit run ≡ true → at ≡ max (offset + 1) (end_from offset run) → offset < end_of run → at ≡ end_of run
run_ends offset at limit [] some is high = absurd (cc (some))
run_ends offset at limit (first ∷ others) some is high = omega (arith, is, high)

-- nor past the bound of its log
run_low : (offset limit bound : ℕ) (run : List (List ℕ)) → is_within limit run ≡ true → end_of run ≤ bound → end_from offset run ≤ bound
run_low offset limit bound [] some low = absurd (cc (some))
run_low offset limit bound (first ∷ others) some low = low

pub runs_are_searched : RunsAreSearched
runs_are_searched asked offset at limit log run stop c h low m checked =
    let ends = run_low offset limit asked.mark run m.within m.below in (
      λ s. run_found asked.ts asked.start offset limit asked.mark at stop log run c h low m (s run checked ends refl),
      λ s.
          (let k = s run checked ends refl in
          let r = run_passed asked.ts asked.start offset limit asked.mark stop log run c h low m k.0 in
          let end = run_ends offset at limit run m.within k.1 r.1 in
          let high = r.1 in
          (subst (HasPassed asked.ts asked.start log) (sym end) r.0, omega (arith, end, high))),
    )
