use Rattle.std.proofs.Common.{◌≡◌, ◌∙◌, ◌<◌, ◌++◌, ◌∷◌, [], true, false, length, refl, sym, ap, is_ok, append-nil, arith}
use Rattle.tier_base.specs.declared.plain.State.TheVariants.{DeleteFinished}
use Rattle.tier_base.proofs.Lasting.{lasts_same, lasts_then}
use Rattle.tier_sweep.specs.Rest.{is_under_way}
use Rattle.tier_sweep.specs.Sweeping.{note_of}
use Rattle.tier_sweep.specs.Parts.{NoCall}
use Rattle.tier_sweep.proofs.Told.{tells_next, passed_over, tells_some, tells_err}
use Rattle.tier_sweep.proofs.Leaving.{told_alone}
use Rattle.tier_sweep.proofs.Went.{went_then}
use Rattle.tier_sweep.proofs.telling.tell_ends.Goals as goal
use Rattle.tier_sweep.proofs.telling.tell_ends.Goals.{then-is_under_way+in_ok-tell, else-is_under_way}

pub returns-in_err-tell-clause-notes : goal.returns-in_err-tell-clause-notes
returns-in_err-tell-clause-notes g c =
    let i = c.loop-entry.entry-index in
    let low : i < length c.args.entries.now = omega arith in
    λ told. tells_err _ _ _ c.from_residual.result c.from_residual.ensures.0
    (tells_some is_under_way DeleteFinished c.args.entries.now i c.entry-item.result _ _ _ low c.entry-item.is (sym c.is_under_way.ensures ∙ c.if-is_under_way.true)
    (c.loop-entry.invariant.notes told) (c.in_err-tell.ensures.notes (c.loop-entry.invariant.is_observable ∙ told)))

pub returns-in_err-tell-clause-left : goal.returns-in_err-tell-clause-left
returns-in_err-tell-clause-left g c =
    let i = c.loop-entry.entry-index in
    let low : i < length c.args.entries.now = omega arith in
    λ told only l left. tells_err _ _ _ c.from_residual.result c.from_residual.ensures.0
    (tells_some is_under_way DeleteFinished c.args.entries.now i c.entry-item.result _ _ _ low c.entry-item.is (sym c.is_under_way.ensures ∙ c.if-is_under_way.true)
    (c.loop-entry.invariant.notes told) (c.in_err-tell.ensures.left (c.loop-entry.invariant.is_observable ∙ told) (c.loop-entry.invariant.left told only) l left))

pub loop-entry-init : goal.loop-entry-init
loop-entry-init g c = record {
  is_observable = refl;
  notes = λ told. sym (append-nil (g.M.MetaLog.content c.args.meta.now).notes);
  left = λ told only. only;
  calls = lasts_same (g.M.MetaLog.control c.args.meta.now);
  went = NoCall;
  quiet = refl;
}

pub loop-entry-preserved : goal.loop-entry-preserved
loop-entry-preserved g c =
    let entries = c.args.entries.now in
    let i = c.loop-entry.entry-index in
    let entry = c.entry-item.result in
    let so_far = c.loop-entry.invariant in
    let low : i < length entries = omega arith in
    elim c.if-is_under_way.branch [
      | then-is_under_way+in_ok-tell w ↦
          (let passes : is_under_way entry.state ≡ true = cc in
          let went : is_ok w.tell.result ≡ true = ap is_ok w.in_ok-tell.was in
          rw w.meta-is (record {
            is_observable = w.tell.ensures.is_observable ∙ so_far.is_observable;
            notes = λ told. tells_next is_under_way DeleteFinished entries i entry _ _ _ low c.entry-item.is passes (so_far.notes told) (w.in_ok-tell.ensures.notes (so_far.is_observable ∙ told));
            left = λ told only. (let t = so_far.is_observable ∙ told in told_alone (g.M.MetaLog.content w.tell.new.meta) ((g.M.MetaLog.content c.loop-entry.meta).notes ++ note_of DeleteFinished entry ∷ []) (w.in_ok-tell.ensures.notes t) (w.in_ok-tell.ensures.left t (so_far.left told only)));
            calls = lasts_then _ _ _ so_far.calls w.tell.ensures.calls.lasts;
            went = went_then _ _ _ so_far.went (w.tell.ensures.calls.went went);
            quiet = w.in_ok-tell.ensures.calls.quiet ∙ so_far.quiet;
          }))
      | else-is_under_way w ↦
          (let fails : is_under_way entry.state ≡ false = cc in
          rw w.meta-is (record {
            is_observable = so_far.is_observable;
            notes = λ told. so_far.notes told ∙ ap (λ ns. (g.M.MetaLog.content c.args.meta.now).notes ++ ns) (passed_over is_under_way DeleteFinished entries i entry low c.entry-item.is fails);
            left = so_far.left;
            calls = so_far.calls;
            went = so_far.went;
            quiet = so_far.quiet;
          }))
    ]
