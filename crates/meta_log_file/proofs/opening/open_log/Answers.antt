use Rattle.std.proofs.Common.{◌∙◌, sym, subst, refl, IsTrue}
use Rattle.meta_log_file.proofs.Confirmed.{read_kept, kept_opens, opened_has, open_since, opened_both}
use Rattle.meta_log_file.proofs.opening.open_log.Goals as goal

pub returns-in_err-confirm-clause-is_observable : goal.returns-in_err-confirm-clause-is_observable
returns-in_err-confirm-clause-is_observable g c =
    let d = g.D.Disk.content c.args.disk.now in
    let m = g.D.Disk.content c.study.new.disk in
    let n = g.D.Disk.content c.confirm.new.disk in
    let gate = c.in_ok-gate.gate in
    let ends = c.in_ok-gate.ends.items in
    let keeps = c.study.ensures.content in
    let read = c.in_ok-gate.ensures.read in
    let x = c.confirm.ensures.content ends (read_kept d m gate ends keeps read) in
    x.is_observable ∙ keeps.is_observable

pub returns-in_err-confirm-clause-since : goal.returns-in_err-confirm-clause-since
returns-in_err-confirm-clause-since g c =
    let d = g.D.Disk.content c.args.disk.now in
    let m = g.D.Disk.content c.study.new.disk in
    let n = g.D.Disk.content c.confirm.new.disk in
    let gate = c.in_ok-gate.gate in
    let ends = c.in_ok-gate.ends.items in
    let keeps = c.study.ensures.content in
    let read = c.in_ok-gate.ensures.read in
    let x = c.confirm.ensures.content ends (read_kept d m gate ends keeps read) in
    open_since d m n (g.met.D.Disk.lawful c.study.new.disk) keeps x.since

pub returns-clause-has : goal.returns-clause-has
returns-clause-has g c =
    let d = g.D.Disk.content c.args.disk.now in
    let m = g.D.Disk.content c.study.new.disk in
    let n = g.D.Disk.content c.confirm.new.disk in
    let gate = c.in_ok-gate.gate in
    let ends = c.in_ok-gate.ends.items in
    let keeps = c.study.ensures.content in
    let read = c.in_ok-gate.ensures.read in
    let x = c.in_ok-confirm.ensures.content ends (read_kept d m gate ends keeps read) in
    opened_has d n gate ends read (x.done refl)

pub returns-clause-is_observable : goal.returns-clause-is_observable
returns-clause-is_observable g c =
    let d = g.D.Disk.content c.args.disk.now in
    let m = g.D.Disk.content c.study.new.disk in
    let n = g.D.Disk.content c.confirm.new.disk in
    let gate = c.in_ok-gate.gate in
    let ends = c.in_ok-gate.ends.items in
    let keeps = c.study.ensures.content in
    let read = c.in_ok-gate.ensures.read in
    let x = c.in_ok-confirm.ensures.content ends (read_kept d m gate ends keeps read) in
    x.is_observable ∙ keeps.is_observable

pub returns-clause-since : goal.returns-clause-since
returns-clause-since g c =
    let d = g.D.Disk.content c.args.disk.now in
    let m = g.D.Disk.content c.study.new.disk in
    let n = g.D.Disk.content c.confirm.new.disk in
    let gate = c.in_ok-gate.gate in
    let ends = c.in_ok-gate.ends.items in
    let keeps = c.study.ensures.content in
    let read = c.in_ok-gate.ensures.read in
    let x = c.in_ok-confirm.ensures.content ends (read_kept d m gate ends keeps read) in
    open_since d m n (g.met.D.Disk.lawful c.study.new.disk) keeps x.since

pub returns-clause-opened : goal.returns-clause-opened
returns-clause-opened g c =
    let d = g.D.Disk.content c.args.disk.now in
    let m = g.D.Disk.content c.study.new.disk in
    let n = g.D.Disk.content c.confirm.new.disk in
    let gate = c.in_ok-gate.gate in
    let ends = c.in_ok-gate.ends.items in
    let keeps = c.study.ensures.content in
    let read = c.in_ok-gate.ensures.read in
    let x = c.in_ok-confirm.ensures.content ends (read_kept d m gate ends keeps read) in
    opened_both d n (g.met.D.Disk.lawful c.confirm.new.disk) gate ends read (x.is_observable ∙ keeps.is_observable) (x.done refl)

pub returns-in_err-gate-clause-same : goal.returns-in_err-gate-clause-same
returns-in_err-gate-clause-same g c = λ is_observable. kept_opens (g.D.Disk.content c.args.disk.now) (g.D.Disk.content c.study.new.disk) c.study.ensures.content

pub returns-in_err-confirm-clause-same : goal.returns-in_err-confirm-clause-same
returns-in_err-confirm-clause-same g c = λ is_observable notes o.
    let d = g.D.Disk.content c.args.disk.now in
    let m = g.D.Disk.content c.study.new.disk in
    let keeps = c.study.ensures.content in
    let x = c.confirm.ensures.content c.in_ok-gate.ends.items (read_kept d m c.in_ok-gate.gate c.in_ok-gate.ends.items keeps c.in_ok-gate.ensures.read) in
    x.same (subst IsTrue (sym keeps.is_observable) is_observable) notes (kept_opens d m keeps notes o)

pub returns-clause-same : goal.returns-clause-same
returns-clause-same g c = λ is_observable notes o.
    let d = g.D.Disk.content c.args.disk.now in
    let m = g.D.Disk.content c.study.new.disk in
    let keeps = c.study.ensures.content in
    let x = c.in_ok-confirm.ensures.content c.in_ok-gate.ends.items (read_kept d m c.in_ok-gate.gate c.in_ok-gate.ends.items keeps c.in_ok-gate.ensures.read) in
    x.same (subst IsTrue (sym keeps.is_observable) is_observable) notes (kept_opens d m keeps notes o)
