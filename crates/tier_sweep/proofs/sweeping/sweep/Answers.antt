use Rattle.std.proofs.Common.{refl, rules, inl, IsTrue}
use Rattle.meta_log.specs.Content.{LeavesTold}
use Rattle.tier_sweep.specs.Sweeping.{IsSwept, tier_of}
use Rattle.tier_sweep.proofs.Leaving.{none_under, whole_under}
use Rattle.tier_sweep.specs.Parts.{NoDeletion}
use Rattle.tier_sweep.proofs.Went.{went_then, some_deleted}
use Rattle.tier_sweep.proofs.sweeping.sweep.Goals as goal

pub returns-clause-store_went : goal.returns-clause-store_went
returns-clause-store_went g c = record { mid = _; lists = c.in_ok-keys.ensures.once; behind = c.in_ok-swept.ensures.deletes }

pub returns-clause-listed : goal.returns-clause-listed
returns-clause-listed g c = inl (record { mid = _; lists = c.in_ok-keys.ensures.once; behind = inl (_, c.in_ok-swept.ensures.deletes) })

pub returns-in_err-tell_ends-clause-listed : goal.returns-in_err-tell_ends-clause-listed
returns-in_err-tell_ends-clause-listed g c = inl (record { mid = _; lists = c.in_ok-keys.ensures.once; behind = inl (_, c.in_ok-swept.ensures.deletes) })

pub returns-in_err-swept-clause-listed : goal.returns-in_err-swept-clause-listed
returns-in_err-swept-clause-listed g c = inl (record { mid = _; lists = c.in_ok-keys.ensures.once; behind = some_deleted c.take_all.result _ _ c.take_all.ensures.deletes })

pub returns-in_err-tell_starts-clause-listed : goal.returns-in_err-tell_starts-clause-listed
returns-in_err-tell_starts-clause-listed g c = inl (record { mid = _; lists = c.in_ok-keys.ensures.once; behind = inl (0, NoDeletion) })

pub returns-clause-meta_went : goal.returns-clause-meta_went
returns-clause-meta_went g c =
    went_then _ _ _ (went_then _ _ _ (c.in_ok-view.ensures.calls.went refl) (c.in_ok-tell_starts.ensures.calls.went refl)) (c.in_ok-tell_ends.ensures.calls.went refl)

pub returns-in_err-view-clause-left : goal.returns-in_err-view-clause-left
returns-in_err-view-clause-left g c = λ st mt. none_under (g.S.Store.content c.args.store.now) (g.M.MetaLog.content c.args.meta.now) (g.M.MetaLog.content c.read_view.new.meta) c.in_err-view.ensures.content

pub returns-clause-left : goal.returns-clause-left
returns-clause-left g c = λ st mt.
    let s = g.S.Store.content c.args.store.now in
    let n = g.S.Store.content c.take_all.new.store in
    let old = g.M.MetaLog.content c.args.meta.now in
    let new = g.M.MetaLog.content c.tell_ends.new.meta in
    let swept : IsTrue s.is_observable → IsTrue old.is_observable → IsSwept (tier_of s old) (tier_of n new) c.in_ok-swept.swept = search rules in
    let only : IsTrue old.is_observable → LeavesTold new = search rules in
    whole_under s n old new c.in_ok-swept.swept (swept st mt) (only mt)
