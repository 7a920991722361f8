use Rattle.std.proofs.Common.{◌≡◌, sym, subst, ℕ, List}
use Rattle.std.specs.Io.KnownBytes.{Appends}
use Rattle.tier_base.specs.Stream.{AppendsFront}
use Rattle.tiered_call.specs.Rounds.{AuditsYard}
use Rattle.tiered_call.proofs.Audited.{written, cut_off}
use Rattle.tiered_call.proofs.rounds.audit.Goals as goal

pub returns-in-Ok-write_all : goal.returns-in-Ok-write_all
returns-in-Ok-write_all g c =
    let told = c.in-Ok.ensures in
    let text : c.as_slice.result.now ≡ c.in-Ok.told.text.items = cc in
    subst (λ status. AuditsYard g.Y.D.Disk g.Y.S.Store g.Y.M.MetaLog g.W.Sink (g.Y.Yard.held c.args.yard.now) (g.Y.Yard.held c.audit_all.new.yard)
    (g.Y.Yard.control c.args.yard.now) (g.Y.Yard.control c.audit_all.new.yard) c.args.out.now c.write_all.new.sink status) (sym c.status_of.ensures)
    (written g.Y.D.Disk g.Y.S.Store g.Y.M.MetaLog g.W.Sink (g.Y.Yard.held c.args.yard.now) (g.Y.Yard.held c.audit_all.new.yard)
    (g.Y.Yard.control c.args.yard.now) (g.Y.Yard.control c.audit_all.new.yard) c.args.out.now c.write_all.new.sink c.in-Ok.told told.told told.rest told.is_observable told.back
    (subst (λ (bytes : List ℕ). Appends (g.W.Sink.written c.args.out.now) (g.W.Sink.written c.write_all.new.sink) bytes) text c.in-Ok-write_all.ensures.ok))

pub returns : goal.returns
returns g c =
    let told = c.in-Ok.ensures in
    let text : c.as_slice.result.now ≡ c.in-Ok.told.text.items = cc in
    cut_off g.Y.D.Disk g.Y.S.Store g.Y.M.MetaLog g.W.Sink (g.Y.Yard.held c.args.yard.now) (g.Y.Yard.held c.audit_all.new.yard)
    (g.Y.Yard.control c.args.yard.now) (g.Y.Yard.control c.audit_all.new.yard) c.args.out.now c.write_all.new.sink c.in-Ok.told told.told told.rest told.is_observable told.back
    (subst (λ (bytes : List ℕ). AppendsFront (g.W.Sink.written c.args.out.now) (g.W.Sink.written c.write_all.new.sink) bytes) text c.in-Err-write_all.ensures.err)
    c.in-Err-write_all.ensures.cause.failed
