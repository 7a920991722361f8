use Rattle.std.proofs.Common.{◌≤◌, ◌∙◌, sym, subst, ℕ, IsTrue, [], ◌∷◌, ◌++◌, map, None}
use Rattle.tier_base.specs.Device.{fate_of_trouble}
use Rattle.run_yard.specs.Yard.{came_of}
use Rattle.run_yard.proofs.Back.{came_then, came_one, only_then, store_only, log_only}
use Rattle.run_yard.proofs.Out.{all_out, all_so_many, back_again, back_risen, gone_wrong, as_fault, came_more_out}
use Rattle.run_yard.proofs.Stopped.{disks_again, store_again}
use Rattle.run_yard.proofs.handing.hand_devices.Goals as goal

pub returns-in-Err-clause-err : goal.returns-in-Err-clause-err
returns-in-Err-clause-err g c =
    let came = map (came_of g.Y.D.Disk.control) c.in_ok-disks.disks.items in (
      came,
      back_again came (g.Y.Yard.control c.args.yard.now) (g.Y.Yard.control c.hand_disks.new.yard) (g.Y.Yard.control c.store.new.self) (g.Y.Yard.control c.keep_disks.new.yard)
          (fate_of_trouble c.in-Err.trouble) (all_so_many (came_of g.Y.D.Disk.control) c.in_ok-disks.disks.items c.args.count (g.Y.Yard.control c.args.yard.now) (g.Y.Yard.control c.hand_disks.new.yard) c.in_ok-disks.ensures.disks.count_is c.in_ok-disks.ensures.control) (gone_wrong c.in-Err.trouble)
          c.in-Err.ensures.control c.keep_disks.ensures.control,
    )

pub returns-in-Err-clause-cause : goal.returns-in-Err-clause-cause
returns-in-Err-clause-cause g c = λ failed.
    let came = map (came_of g.Y.D.Disk.control) c.in_ok-disks.disks.items in
    back_risen came (g.Y.Yard.control c.args.yard.now) (g.Y.Yard.control c.hand_disks.new.yard) (g.Y.Yard.control c.store.new.self) (g.Y.Yard.control c.keep_disks.new.yard)
    (all_so_many (came_of g.Y.D.Disk.control) c.in_ok-disks.disks.items c.args.count (g.Y.Yard.control c.args.yard.now) (g.Y.Yard.control c.hand_disks.new.yard) c.in_ok-disks.ensures.disks.count_is c.in_ok-disks.ensures.control)
    (as_fault c.in-Err.trouble (g.Y.Yard.control c.hand_disks.new.yard) (g.Y.Yard.control c.store.new.self) failed c.in-Err.ensures.control) c.keep_disks.ensures.control

pub returns-in-Ok-meta-clause-devices : goal.returns-in-Ok-meta-clause-devices
returns-in-Ok-meta-clause-devices g c =
    let disks = c.in_ok-disks.ensures in
    let s = c.in-Ok.ensures in
    let m = c.in-Ok-meta.ensures in
    all_out g.Y.D.Disk g.Y.S.Store g.Y.M.MetaLog c.args.partition c.args.count (record { disks = c.in_ok-disks.disks; store = c.in-Ok.store; meta = c.in-Ok-meta.meta })
    (g.Y.Yard.held c.args.yard.now) (g.Y.Yard.held c.hand_disks.new.yard) (g.Y.Yard.held c.store.new.self)
    disks.disks disks.is_observable s.is_observable disks.rest s.out s.told s.content m.fresh m.told m.content

pub returns-in-Ok-meta-clause-only : goal.returns-in-Ok-meta-clause-only
returns-in-Ok-meta-clause-only g c =
    let p = c.args.partition in
    let h0 = g.Y.Yard.held c.args.yard.now in
    let h1 = g.Y.Yard.held c.hand_disks.new.yard in
    let h2 = g.Y.Yard.held c.store.new.self in
    let h3 = g.Y.Yard.held c.meta.new.self in
    only_then p h0 h2 h3 (only_then p h0 h1 h2 c.in_ok-disks.ensures.only (store_only p None h1 h2 c.in-Ok.ensures.is_observable c.in-Ok.ensures.out)) (log_only p None h2 h3 c.in-Ok-meta.ensures.is_observable c.in-Ok-meta.ensures.out)

pub returns-in-Err-meta-clause-err : goal.returns-in-Err-meta-clause-err
returns-in-Err-meta-clause-err g c =
    let disks = map (came_of g.Y.D.Disk.control) c.in_ok-disks.disks.items in
    let one = came_of g.Y.S.Store.control c.in-Ok.store in
    let out = all_so_many (came_of g.Y.D.Disk.control) c.in_ok-disks.disks.items c.args.count (g.Y.Yard.control c.args.yard.now) (g.Y.Yard.control c.hand_disks.new.yard) c.in_ok-disks.ensures.disks.count_is c.in_ok-disks.ensures.control in (
      disks ++ one ∷ [],
      back_again (disks ++ one ∷ []) (g.Y.Yard.control c.args.yard.now) (g.Y.Yard.control c.store.new.self) (g.Y.Yard.control c.meta.new.self) (g.Y.Yard.control c.keep_store.new.self)
          (fate_of_trouble c.in-Err-meta.trouble) (came_more_out disks one (g.Y.Yard.control c.args.yard.now) (g.Y.Yard.control c.hand_disks.new.yard) (g.Y.Yard.control c.store.new.self) out c.in-Ok.ensures.control) (gone_wrong c.in-Err-meta.trouble)
          c.in-Err-meta.ensures.control (came_then disks (one ∷ []) (g.Y.Yard.control c.meta.new.self) (g.Y.Yard.control c.keep_disks-in-Err-meta.new.yard) (g.Y.Yard.control c.keep_store.new.self) c.keep_disks-in-Err-meta.ensures.control (came_one one (g.Y.Yard.control c.keep_disks-in-Err-meta.new.yard) (g.Y.Yard.control c.keep_store.new.self) c.keep_store.ensures.control)),
    )

pub returns-in-Err-meta-clause-cause : goal.returns-in-Err-meta-clause-cause
returns-in-Err-meta-clause-cause g c = λ failed.
    let disks = map (came_of g.Y.D.Disk.control) c.in_ok-disks.disks.items in
    let one = came_of g.Y.S.Store.control c.in-Ok.store in
    let out = all_so_many (came_of g.Y.D.Disk.control) c.in_ok-disks.disks.items c.args.count (g.Y.Yard.control c.args.yard.now) (g.Y.Yard.control c.hand_disks.new.yard) c.in_ok-disks.ensures.disks.count_is c.in_ok-disks.ensures.control in
    back_risen (disks ++ one ∷ []) (g.Y.Yard.control c.args.yard.now) (g.Y.Yard.control c.store.new.self) (g.Y.Yard.control c.meta.new.self) (g.Y.Yard.control c.keep_store.new.self)
    (came_more_out disks one (g.Y.Yard.control c.args.yard.now) (g.Y.Yard.control c.hand_disks.new.yard) (g.Y.Yard.control c.store.new.self) out c.in-Ok.ensures.control)
    (as_fault c.in-Err-meta.trouble (g.Y.Yard.control c.store.new.self) (g.Y.Yard.control c.meta.new.self) failed c.in-Err-meta.ensures.control) (came_then disks (one ∷ []) (g.Y.Yard.control c.meta.new.self) (g.Y.Yard.control c.keep_disks-in-Err-meta.new.yard) (g.Y.Yard.control c.keep_store.new.self) c.keep_disks-in-Err-meta.ensures.control (came_one one (g.Y.Yard.control c.keep_disks-in-Err-meta.new.yard) (g.Y.Yard.control c.keep_store.new.self) c.keep_store.ensures.control))

pub returns-in-Ok-meta-clause-registry : goal.returns-in-Ok-meta-clause-registry
returns-in-Ok-meta-clause-registry g c = λ t.
    let t1 : IsTrue (g.Y.Yard.held c.hand_disks.new.yard).is_observable = subst IsTrue (sym c.in_ok-disks.ensures.only.is_observable) t in
    let t2 : IsTrue (g.Y.Yard.held c.store.new.self).is_observable = subst IsTrue (sym c.in-Ok.ensures.is_observable) t1 in
    (c.in-Ok-meta.ensures.out t2).registries c.args.partition ∙ ((c.in-Ok.ensures.out t1).registries c.args.partition ∙ (c.in_ok-disks.ensures.rest t).registry)

pub returns-in-Err-clause-same : goal.returns-in-Err-clause-same
returns-in-Err-clause-same g c = λ t.
    let disks = c.in_ok-disks.ensures in
    disks_again g.Y.D.Disk g.Y.S.Store g.Y.M.MetaLog c.args.partition c.in_ok-disks.disks.items (g.Y.Yard.held c.args.yard.now) (g.Y.Yard.held c.hand_disks.new.yard) (g.Y.Yard.held c.store.new.self) (g.Y.Yard.held c.keep_disks.new.yard)
    (disks.disks.hands t) disks.only (λ b far. disks.past t b (subst (λ (n : ℕ). n ≤ b.0) disks.disks.count_is far)) (disks.rest t) c.in-Err.ensures.err c.keep_disks.ensures.held t

pub returns-in-Err-meta-clause-same : goal.returns-in-Err-meta-clause-same
returns-in-Err-meta-clause-same g c = λ t.
    let disks = c.in_ok-disks.ensures in
    store_again g.Y.D.Disk g.Y.S.Store g.Y.M.MetaLog c.args.partition c.in_ok-disks.disks.items c.in-Ok.store (g.Y.Yard.held c.args.yard.now) (g.Y.Yard.held c.hand_disks.new.yard) (g.Y.Yard.held c.store.new.self)
    (g.Y.Yard.held c.meta.new.self) (g.Y.Yard.held c.keep_disks-in-Err-meta.new.yard) (g.Y.Yard.held c.keep_store.new.self)
    (disks.disks.hands t) disks.only (λ b far. disks.past t b (subst (λ (n : ℕ). n ≤ b.0) disks.disks.count_is far)) (disks.rest t) c.in-Ok.ensures.is_observable c.in-Ok.ensures.out c.in-Ok.ensures.content
    c.in-Err-meta.ensures.err c.keep_disks-in-Err-meta.ensures.held c.keep_store.ensures.is_observable c.keep_store.ensures.held t

pub returns-in-Ok-meta-clause-past : goal.returns-in-Ok-meta-clause-past
returns-in-Ok-meta-clause-past g c = λ t b far.
    let t1 : IsTrue (g.Y.Yard.held c.hand_disks.new.yard).is_observable = subst IsTrue (sym c.in_ok-disks.ensures.only.is_observable) t in
    let t2 : IsTrue (g.Y.Yard.held c.store.new.self).is_observable = subst IsTrue (sym c.in-Ok.ensures.is_observable) t1 in
    (c.in-Ok-meta.ensures.out t2).disks c.args.partition b ∙ ((c.in-Ok.ensures.out t1).disks c.args.partition b ∙ c.in_ok-disks.ensures.past t b far)
