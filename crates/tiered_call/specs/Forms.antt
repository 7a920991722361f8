-- What the program's call does, by the form of its words.
use Rattle.std.specs.Prelude.{◌≡◌, Option, Some}
use Rattle.tier_base.specs.declared.stream.Source.{Ghosts as SourceGhosts}
use Rattle.tier_base.specs.declared.stream.Sink.{Ghosts as SinkGhosts}
use Rattle.disk_model.specs.declared.disk.Disk.{Ghosts as DiskGhosts}
use Rattle.object_store.specs.declared.store.Store.{Ghosts as StoreGhosts}
use Rattle.meta_log.specs.declared.log.MetaLog.{Ghosts as MetaGhosts}
use Rattle.device_yard.specs.Control.{Control}
use Rattle.device_yard.specs.YardContent.{YardContent}
use Rattle.tiered_call.specs.declared.status.Status.{Status}
use Rattle.tiered_call.specs.declared.status.Status.TheVariants.{Usage}
use Rattle.tiered_call.specs.declared.words.Form.{Form}
use Rattle.tiered_call.specs.declared.words.Form.TheVariants.{Sim, Threads, Run, Gen, Audit, Sweep}
use Rattle.tiered_call.specs.Headline.{IsTraceOfScript, IsTraceByThreads}
use Rattle.tiered_call.specs.Endings.{Simulates, Generates}
use Rattle.tiered_call.specs.Yards.{RunsInYard, IsOfScript}
use Rattle.tiered_call.specs.Rounds.{AuditsYard, SweepsYard}

-- the devices in memory, those of the environment, what it holds, its control, and both streams are given
module _ {A B C D S M Y R W : Type 0} (disk : DiskGhosts A) (store : StoreGhosts B) (meta : MetaGhosts C)
    (yard_disk : DiskGhosts D) (yard_store : StoreGhosts S) (yard_meta : MetaGhosts M)
    (held : Y → YardContent D S M) (control : Y → Control) (source : SourceGhosts R) (sink : SinkGhosts W) where
  -- without threads: other words have no form, and neither has `sim --threads`
  abbrev pub DoesInOrder : Option Form → R → R → Y → Y → W → W → Status → Type 0
  DoesInOrder (Some Sim) script script' yard yard' out out' status =
      Simulates (IsTraceOfScript disk store meta) source sink script script' out out' status × (yard' ≡ yard)
  DoesInOrder (Some Run) script script' yard yard' out out' status =
      RunsInYard yard_disk yard_store yard_meta source sink script script' (held yard) (held yard') (control yard)
      (control yard')
      out out' status
      × (IsOfScript status → yard' ≡ yard)
  DoesInOrder (Some (Gen number)) script script' yard yard' out out' status =
      Generates disk store meta sink number out out' status × (yard' ≡ yard) × (script' ≡ script)
  DoesInOrder (Some Audit) script script' yard yard' out out' status =
      AuditsYard yard_disk yard_store yard_meta sink (held yard) (held yard') (control yard)
      (control yard') out out' status
      × (script' ≡ script)
  DoesInOrder (Some Sweep) script script' yard yard' out out' status =
      SweepsYard yard_disk yard_store yard_meta sink (held yard) (held yard') (control yard)
      (control yard') out out' status
      × (script' ≡ script)
  DoesInOrder other script script' yard yard' out out' status =
      (status ≡ Usage) × (yard' ≡ yard) × (script' ≡ script) × (out' ≡ out)

  -- with them: the same for all other forms
  abbrev pub Does : Option Form → R → R → Y → Y → W → W → Status → Type 0
  Does (Some Threads) script script' yard yard' out out' status =
      Simulates (IsTraceByThreads disk store meta) source sink script script' out out' status × (yard' ≡ yard)
  Does other script script' yard yard' out out' status = DoesInOrder other script script' yard yard' out out' status
