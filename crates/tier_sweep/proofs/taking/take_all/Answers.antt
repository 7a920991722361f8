use Rattle.std.proofs.Common.{◌≡◌, ◌∙◌, ◌<◌, ◌≤◌, true, false, ℕ, Result, Err, length, take, refl, sym, subst, ap, is_ok, arith, rules}
use Rattle.std.proofs.lemmas.List.{length-take-le}
use Rattle.tier_base.proofs.Lasting.{lasts_same, lasts_then}
use Rattle.tier_sweep.specs.Rest.{stays}
use Rattle.tier_sweep.specs.declared.refusal.SweepRefusal.{SweepRefusal}
use Rattle.tier_sweep.specs.Parts.{NoCall, NoDeletion, OneDeletion, Deletes}
use Rattle.tier_sweep.proofs.Taken.{takes_none, takes_next, takes_over, takes_some, counts_next, counts_over, counts_within}
use Rattle.tier_sweep.proofs.Went.{went_then, deletes_more}
use Rattle.tier_sweep.proofs.taking.take_all.Goals as goal
use Rattle.tier_sweep.proofs.taking.take_all.Goals.{then-not-stays+in_ok-take, else-not-stays}

pub returns-in_err-take-clause-objects : goal.returns-in_err-take-clause-objects
returns-in_err-take-clause-objects g c =
    let goes : stays c.args.view.now.entries c.key-item.result.id ≡ false = cc in
    λ told. takes_some _ _ _ c.key-item.result c.take.result c.from_residual.result _ _ _ goes
    (c.loop-key.invariant.objects told) (c.take.ensures.objects (c.loop-key.invariant.is_observable ∙ told)) c.from_residual.ensures.0

pub returns-in_err-take-clause-deletes : goal.returns-in_err-take-clause-deletes
returns-in_err-take-clause-deletes g c =
    let old = g.S.Store.control c.args.store.now in
    let new = g.S.Store.control c.take.new.store in
    let is : c.from_residual.result ≡ Err c.in_err-take.field-0.0 = search rules in
    subst (λ (r : Result ℕ SweepRefusal). Deletes r old new) (sym is) (deletes_more old (g.S.Store.control c.loop-key.store) new c.loop-key.swept c.take.result c.in_err-take.field-0.0 c.in_err-take.was c.loop-key.invariant.deleted c.take.ensures.deletes)

pub overflow_add-swept : goal.overflow_add-swept
overflow_add-swept g c =
    let keys = c.args.keys.now in
    let i = c.loop-key.key-index in
    let low : i ≤ length keys = omega arith in
    omega (arith, c.loop-key.invariant.count, counts_within c.args.view.now.entries (take i keys), length-take-le i keys low)

pub loop-key-init : goal.loop-key-init
loop-key-init g c = record {
  is_observable = refl;
  objects = λ told. takes_none c.args.view.now.entries (g.S.Store.content c.args.store.now).objects;
  count = refl;
  calls = lasts_same (g.S.Store.control c.args.store.now);
  went = NoCall;
  quiet = refl;
  deleted = NoDeletion;
}

pub loop-key-preserved : goal.loop-key-preserved
loop-key-preserved g c =
    let entries = c.args.view.now.entries in
    let keys = c.args.keys.now in
    let i = c.loop-key.key-index in
    let key = c.key-item.result in
    let so_far = c.loop-key.invariant in
    let low : i < length keys = omega arith in
    elim c.if-not-stays.branch [
      | then-not-stays+in_ok-take w ↦
          (let goes : stays entries key.id ≡ false = cc in
          let went : is_ok w.take.result ≡ true = ap is_ok w.in_ok-take.was in
          rw (w.store-is, w.swept-is) (record {
            is_observable = w.take.ensures.is_observable ∙ so_far.is_observable;
            objects = λ told. takes_next entries keys i key w.take.result _ _ _ low c.key-item.is goes (so_far.objects told) (w.take.ensures.objects (so_far.is_observable ∙ told)) went;
            count = omega (arith, so_far.count, counts_next entries keys i key low c.key-item.is goes);
            calls = lasts_then _ _ _ so_far.calls w.take.ensures.calls.lasts;
            went = went_then _ _ _ so_far.went (w.take.ensures.calls.went went);
            quiet = w.in_ok-take.ensures.calls.quiet ∙ so_far.quiet;
            deleted = OneDeletion _ _ _ so_far.deleted w.in_ok-take.ensures.deletes;
          }))
      | else-not-stays w ↦
          (let remains : stays entries key.id ≡ true = cc in
          rw (w.store-is, w.swept-is) (record {
            is_observable = so_far.is_observable;
            objects = λ told. takes_over entries keys i key _ _ low c.key-item.is remains (so_far.objects told);
            count = so_far.count ∙ counts_over entries keys i key low c.key-item.is remains;
            calls = so_far.calls;
            went = so_far.went;
            quiet = so_far.quiet;
            deleted = so_far.deleted;
          }))
    ]
