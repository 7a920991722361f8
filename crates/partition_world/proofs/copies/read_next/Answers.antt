use Rattle.std.proofs.Common.{◌≡◌, ◌∙◌, sym, refl, ap, subst, arith, Option, List, ℕ, ◌<◌, Some, []}
use Rattle.std.specs.Prelude.{unwrap_or, IfSome, IsSomeAnd, ◌^◌, ◌-◌}
use Rattle.std.specs.declared.result.Result.TheVariants.{Ok, Err}
use Rattle.segment_file.specs.Closed.{ClosedSegment}
use Rattle.local_log.specs.Reading.{IsClosedFrom, ClosedFails, IsOfDevice}
use Rattle.local_log.specs.declared.refusal.ReadRefusal.{ReadRefusal}
use Rattle.local_log.specs.declared.refusal.ReadRefusal.TheVariants.{Damaged}
use Rattle.broker_log.specs.Seen.{LogSeen, ShowsSeen, WhileUp, OnDisk}
use Rattle.broker_log.specs.Read.{IsSegmentOf}
use Rattle.tier_safe.specs.Views.{IsIdOf}
use Rattle.partition_world.specs.Tier.{next_of, counted}
use Rattle.partition_commands.proofs.Writes.{never}
use Rattle.partition_world.proofs.Counts.{next_low}
use Rattle.partition_world.proofs.Dispatch.{interval_up, has_read, on_err}
use Rattle.partition_world.proofs.copies.read_next.Goals as goal

pub returns-in_ok-copying-in-Ok-Some-clause-row : goal.returns-in_ok-copying-in-Ok-Some-clause-row
returns-in_ok-copying-in-Ok-Some-clause-row g c =
    let x = c.args.node.now in
    let kept = c.closed_from.new.self in
    let copy = c.in_ok-copying-in-Ok-Some.ensures in
    let copied = c.in_ok-copying-in-Ok-Some.copying in
    let i = c.incarnation-incarnation.result in
    let read = subst (λ (o : Option ClosedSegment). WhileUp x.log (λ log. OnDisk kept (λ d. IsClosedFrom log c.args.offset (g.D.Disk.control d).last_read o))) c.in-Ok-Some.field-0-is c.in-Ok-Some.ensures.segment in
    let part = subst (λ (o : Option ClosedSegment). (s : LogSeen) → ShowsSeen g.D.Disk.content x.log s → IfSome o (λ w. IsSegmentOf s w)) c.in-Ok-Some.field-0-is c.in-Ok-Some.ensures.part in (
      record {
        reads = record { kept = kept; stays = c.closed_from.ensures.stays; lasts = c.closed_from.ensures.control; after = refl };
        ran = has_read g.D.Disk x.log kept c.args.offset c.closed_from.result (Ok c.in-Ok-Some.field-0) c.requires.next c.requires.up c.in-Ok-Some.is c.closed_from.ensures.ran;
        last_read = subst (λ (w : ClosedSegment). WhileUp x.log (λ log. OnDisk kept (λ d. IsClosedFrom log c.args.offset (g.D.Disk.control d).last_read (Some w)))) (sym copy.segment) read;
        part = λ s shows. subst (λ (w : ClosedSegment). IsSegmentOf s w) (sym copy.segment) (part s shows);
        quiet = c.closed_from.ensures.quiet (never c.in-Ok-Some.is (λ no. cc));
      },
      record {
        is = copy.is;
        segment_is = refl;
        partition_is = copy.partition;
        id = subst (λ (o : Option ℕ). IsSomeAnd o (λ i. IsIdOf copied.id c.args.partition.0 c.args.broker.0 i (next_of c.args.broker_tier.now i))) c.incarnation-incarnation.ensures
            (rw copy.id (subst (λ (n : ℕ). IsIdOf c.id_of-id.result c.args.partition.0 c.args.broker.0 i n) c.next-next.ensures c.id_of-id.ensures));
        few = subst (λ (o : Option ℕ). IsSomeAnd o (λ i. next_of c.args.broker_tier.now i < 2 ^ 64 - 1)) c.incarnation-incarnation.ensures (let low = next_low c.args.broker_tier.now i in omega (arith, c.next-next.ensures, low, c.requires.tries));
        line_is = copy.line ∙ ap (λ (o : Option (List (ℕ × ℕ))). unwrap_or o []) c.closed_from.ensures.stays.line;
        interval_is = interval_up x.log copied.interval c.settings-settings.result c.requires.up c.settings-settings.ensures copy.interval;
      },
      subst (λ (o : Option ℕ). IsSomeAnd o (λ i. c.count.new.self ≡ counted c.args.broker_tier.now i)) c.incarnation-incarnation.ensures c.count.ensures,
    )

pub returns-in-Err-DiskFault-clause-row : goal.returns-in-Err-DiskFault-clause-row
returns-in-Err-DiskFault-clause-row g c = (
  record {
    reads = record { kept = c.closed_from.new.self; stays = c.closed_from.ensures.stays; lasts = c.closed_from.ensures.control; after = refl };
    cause = c.closed_from.ensures.once (c.in-Err-DiskFault.is ∙ ap (λ (e : ReadRefusal). Err e) c.in-Err-DiskFault.field-0-is);
  },
  refl,
)

pub returns-in-Err-Damaged-clause-row : goal.returns-in-Err-Damaged-clause-row
returns-in-Err-Damaged-clause-row g c =
    let x = c.args.node.now in
    let e = c.in-Err-Damaged in
    let kept = c.closed_from.new.self in
    let bad = subst (λ (e : ReadRefusal). WhileUp x.log (λ log. OnDisk kept (λ d. ClosedFails log c.args.offset (g.D.Disk.control d).last_read e))) e.field-0-is e.ensures.err in
    let whole = subst (λ (e : ReadRefusal). (s : LogSeen) → ShowsSeen g.D.Disk.content x.log s → IsOfDevice e) e.field-0-is e.ensures.whole in
    let ran = has_read g.D.Disk x.log kept c.args.offset c.closed_from.result (Err (Damaged e.file e.at)) c.requires.next c.requires.up (e.is ∙ ap (λ (k : ReadRefusal). Err k) e.field-0-is) c.closed_from.ensures.ran in
    rw e.field-0-is (
      record { reads = record { kept = kept; stays = c.closed_from.ensures.stays; lasts = c.closed_from.ensures.control; after = refl }; ran = ran; bad = bad; unseen = whole; quiet = c.closed_from.ensures.quiet (never (e.is ∙ ap (λ (k : ReadRefusal). Err k) e.field-0-is) (λ no. cc)) },
      refl,
    )

pub returns-in_err-copying-in-Ok-Some-clause-err : goal.returns-in_err-copying-in-Ok-Some-clause-err
returns-in_err-copying-in-Ok-Some-clause-err g c =
    on_err c.from_residual.result (record {
      reads = record { kept = c.closed_from.new.self; stays = c.closed_from.ensures.stays; lasts = c.closed_from.ensures.control; after = refl };
      quiet = c.closed_from.ensures.quiet (never c.in-Ok-Some.is (λ no. cc));
    })

pub returns-in-Err-NoMemory-clause-err : goal.returns-in-Err-NoMemory-clause-err
returns-in-Err-NoMemory-clause-err g c = record {
  reads = record { kept = c.closed_from.new.self; stays = c.closed_from.ensures.stays; lasts = c.closed_from.ensures.control; after = refl };
  quiet = c.closed_from.ensures.quiet (never (c.in-Err-NoMemory.is ∙ ap (λ (e : ReadRefusal). Err e) c.in-Err-NoMemory.field-0-is) (λ no. cc));
}
