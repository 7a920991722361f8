use Rattle.std.proofs.Common.{◌≡◌, ◌∙◌, ap, sym, subst, ◌+◌, ◌++◌, ◌∷◌, [], take}
use Rattle.tier_base.specs.declared.object_key.ObjectKey.{ObjectKey}
use Rattle.tier_audit.specs.Flaws.{is_stray}
use Rattle.tier_audit.specs.Strays.{goes, IsFirstIn}
use Rattle.tier_audit.proofs.Straying.{first_passed, first_offered, first_more}
use Rattle.tier_audit.proofs.keys.find_stray.Goals as goal
use Rattle.tier_audit.proofs.keys.find_stray.Goals.{then-is_stray+in_ok-offer, else-is_stray}

pub loop-key-preserved : goal.loop-key-preserved
loop-key-preserved c =
    let entries = c.args.view.now.entries in
    let keys = c.args.keys.now in
    let i = c.loop-key.key-index in
    let key = c.key-item.result in
    let told : c.is_stray.result ≡ goes entries key = c.is_stray.ensures ∙ ap is_stray c.state.ensures in
    elim c.if-is_stray.branch [
      | then-is_stray+in_ok-offer w ↦
          subst (IsFirstIn entries (take (i + 1) keys)) (sym w.first-is)
          (first_more entries keys i key w.offer.new.first c.loop-key-test.true (subst (λ (k : ObjectKey). IsFirstIn entries (take i keys ++ k ∷ []) w.offer.new.first) c.key-item.is
          (first_offered entries (take i keys) key c.loop-key.first w.offer.new.first (sym told ∙ w.if-is_stray.true) c.loop-key.invariant w.in_ok-offer.ensures)))
      | else-is_stray w ↦
          subst (IsFirstIn entries (take (i + 1) keys)) (sym w.first-is)
          (first_more entries keys i key c.loop-key.first c.loop-key-test.true (subst (λ (k : ObjectKey). IsFirstIn entries (take i keys ++ k ∷ []) c.loop-key.first) c.key-item.is
          (first_passed entries (take i keys) key c.loop-key.first (sym told ∙ w.if-is_stray.false) c.loop-key.invariant)))
    ]
