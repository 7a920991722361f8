-- How an audit of an environment ends that was made, by what became of the write.
use Rattle.std.proofs.Common.{◌≡◌, sym, ap, refl, Option, Some, None, IsTrue}
use Rattle.std.specs.Io.KnownBytes.{Appends}
use Rattle.tier_base.specs.Counts.{Rose}
use Rattle.tier_base.specs.Stream.{AppendsFront}
use Rattle.tier_base.specs.declared.names.PartitionId.{PartitionId}
use Rattle.tier_base.specs.declared.stream.Sink.{Ghosts as SinkGhosts}
use Rattle.disk_model.specs.declared.disk.Disk.{Ghosts as DiskGhosts}
use Rattle.object_store.specs.declared.store.Store.{Ghosts as StoreGhosts}
use Rattle.meta_log.specs.declared.log.MetaLog.{Ghosts as MetaGhosts}
use Rattle.device_yard.specs.Control.{Control}
use Rattle.device_yard.specs.YardContent.{YardContent}
use Rattle.yard_audit.specs.declared.auditing.Audited.{Audited}
use Rattle.yard_audit.specs.Reports.{TellsAudit}
use Rattle.yard_audit.specs.Tiers.{YardRests, StaysOut}
use Rattle.tiered_call.specs.declared.status.Status.TheVariants.{WriteFault}
use Rattle.tiered_call.specs.Rounds.{AuditsYard, status_of}

module _ {D S M W : Type 0} (disk : DiskGhosts D) (store : StoreGhosts S) (meta : MetaGhosts M) (sink : SinkGhosts W)
    (held held' : YardContent D S M) (control control' : Control) (out out' : W) (told : Audited)
    (tells_so : TellsAudit disk.content store.content meta.content held told) (rests : IsTrue held.is_observable → YardRests disk.content store.content meta.content held held')
    (same : held'.is_observable ≡ held.is_observable) (back : StaysOut control control') where
  -- it was written
  pub written : Appends (sink.written out) (sink.written out') told.text.items
      → AuditsYard disk store meta sink held held' control control' out out' (status_of told.unsound)
  written appends = by_case told.unsound refl
    where
      by_case : (first : Option PartitionId) → told.unsound ≡ first → AuditsYard disk store meta sink held held' control control' out out' (status_of first)
      by_case None is = record {
        audit = λ w. record { told = told; is_observable = tells_so; written = appends; ends = sym (ap status_of is) };
        rest = rests;
        is_observable = same;
        back = back.out;
        own = record {};
        yard_fault = λ e. absurd (cc e);
        write_fault = λ e. absurd (cc e);
        front = λ e. absurd (cc e);
        complete = λ infallible quiet. record {};
        unwritten = λ e. absurd e;
      }
      by_case (Some p) is = record {
        audit = λ w. record { told = told; is_observable = tells_so; written = appends; ends = sym (ap status_of is) };
        rest = rests;
        is_observable = same;
        back = back.out;
        own = record {};
        yard_fault = λ e. absurd (cc e);
        write_fault = λ e. absurd (cc e);
        front = λ e. absurd (cc e);
        complete = λ infallible quiet. record {};
        unwritten = λ e. absurd e;
      }

  -- a front of it was written
  pub cut_off : AppendsFront (sink.written out) (sink.written out') told.text.items → Rose (sink.faults out) (sink.faults out')
      → AuditsYard disk store meta sink held held' control control' out out' WriteFault
  cut_off front rose = record {
    audit = λ w. absurd w;
    rest = rests;
    is_observable = same;
    back = back.out;
    own = record {};
    yard_fault = λ e. absurd (cc e);
    write_fault = λ e. rose;
    front = λ e. record { told = told; is_observable = tells_so; written = front };
    complete = λ infallible quiet. absurd (quiet rose);
    unwritten = λ e. absurd e;
  }
