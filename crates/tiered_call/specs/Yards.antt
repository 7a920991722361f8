-- What a run over an environment writes, and how it may end.
--
-- The environment is asked for its first name before the first device is provided: a run begins only where there is
-- none.
use Rattle.std.specs.Prelude.{◌≡◌, ◌≢◌, ℕ, ◌+◌, ◌<◌, ◌≤◌, List, length, Option, Some, None, Ok, Err, IsOk, IsTrue}
use Rattle.std.specs.declared.result.Result.{Result}
use Rattle.std.specs.Io.KnownBytes.{Appends}
use Rattle.tier_base.specs.Counts.{counted, Rose}
use Rattle.tier_base.specs.Stream.{Gave, ReadsWhole, AppendsFront}
use Rattle.tier_base.specs.declared.stream.Source.{Ghosts as SourceGhosts}
use Rattle.tier_base.specs.declared.stream.Sink.{Ghosts as SinkGhosts}
use Rattle.tier_base.specs.declared.names.PartitionId.{PartitionId}
use Rattle.disk_model.specs.declared.disk.Disk.{Ghosts as DiskGhosts}
use Rattle.object_store.specs.declared.store.Store.{Ghosts as StoreGhosts}
use Rattle.meta_log.specs.declared.log.MetaLog.{Ghosts as MetaGhosts}
use Rattle.device_yard.specs.Control.{Control, NamesFirst}
use Rattle.device_yard.specs.YardContent.{YardContent, IsFirstName, IsNameInYard, Same}
use Rattle.script_lang.specs.declared.refusal.Why.{Why}
use Rattle.script_lang.specs.declared.script.Script.{Script}
use Rattle.script_lang.specs.Script.{script_in}
use Rattle.run_yard.specs.Reading.{IsRefusedSo}
use Rattle.run_yard.specs.Runs.{IsReadAndRun}
use Rattle.run_yard.specs.declared.refusal.YardRefusal.{YardRefusal}
use Rattle.run_yard.specs.declared.refusal.YardRefusal.TheVariants as refusal
use Rattle.tiered_call.specs.declared.status.Status.{Status}
use Rattle.tiered_call.specs.declared.status.Status.TheVariants as ending
use Rattle.tiered_call.specs.Headline.{ReadsGood, ReadsBad}
use Rattle.tiered_call.specs.Endings.{script_limit, IsOfSim, IsRefusedOrNoMemory, IsTooLongOrNoMemory}

-- a status whose cause is the environment, or a registry in it
abbrev pub IsOfYard : Status → Type 0
IsOfYard ending.YardFault = Unit {0}
IsOfYard (ending.NotEmpty name) = Unit {0}
IsOfYard (ending.Mismatch partition kept asked) = Unit {0}
IsOfYard (ending.BadRegistry partition at) = Unit {0}
IsOfYard other = ⊥

-- a status of `run`: the environment's, or one of `sim`
abbrev pub IsOfRun : Status → Type 0
IsOfRun ending.YardFault = Unit {0}
IsOfRun (ending.NotEmpty name) = Unit {0}
IsOfRun (ending.Mismatch partition kept asked) = Unit {0}
IsOfRun (ending.BadRegistry partition at) = Unit {0}
IsOfRun other = IsOfSim other

-- all was done, or the environment has this name, or a registry refuses the run, or there was no memory
abbrev pub IsDoneOrNamed : Option (List ℕ) → Status → Type 0
IsDoneOrNamed named ending.Ok = Unit {0}
IsDoneOrNamed named ending.NoMemory = Unit {0}
IsDoneOrNamed named (ending.NotEmpty name) = named ≡ Some name
IsDoneOrNamed named (ending.Mismatch partition kept asked) = Unit {0}
IsDoneOrNamed named (ending.BadRegistry partition at) = Unit {0}
IsDoneOrNamed named other = ⊥

-- the status of a run over an environment that was refused so
abbrev pub ended : YardRefusal → Status
ended refusal.Fault = ending.YardFault
ended (refusal.Mismatch partition kept asked) = ending.Mismatch partition kept asked
ended (refusal.BadRegistry partition at) = ending.BadRegistry partition at
ended refusal.NoMemory = ending.NoMemory

-- the script wasn't read to its end, or is invalid
abbrev pub IsOfScript : Status → Type 0
IsOfScript ending.ReadFault = Unit {0}
IsOfScript ending.TooLong = Unit {0}
IsOfScript (ending.BadScript line why) = Unit {0}
IsOfScript other = ⊥

module _ {D S M : Type 0} (disk : DiskGhosts D) (store : StoreGhosts S) (meta : MetaGhosts M) where
  -- the environment answered this name and provided nothing, what it holds is the same, and over one that reports the
  -- name is its first
  pub record AnswersName (name : List ℕ) (held held' : YardContent D S M) (control control' : Control) : Type 0 where
    pub names : NamesFirst (Ok (Some name)) control control'
    pub same : Same disk.content store.content meta.content held held'
    pub first : IsTrue held.is_observable
        → IsFirstName (IsNameInYard disk.content store.content meta.content held) (Some name)

  -- the environment answered no name and holds what it held, and then a partition's registry refused a run with so many
  -- brokers
  pub record RegistryRefuses (brokers : ℕ) (why : YardRefusal) (held held' : YardContent D S M)
      (control control' : Control) : Type 0 where
    pub asked : Control
    pub names : NamesFirst (Ok None) control asked
    pub found : YardContent D S M
    pub same : Same disk.content store.content meta.content held found
    pub refused : IsRefusedSo disk.content store.content meta.content brokers found held' asked control' why

  -- why a script for so many brokers isn't run to its end: the environment has a name, or it failed, or a registry
  -- refuses it, or there was no memory
  abbrev pub StopsOver : ℕ → YardContent D S M → YardContent D S M → Control → Control → Status → Type 0
  StopsOver brokers held held' control control' (ending.NotEmpty name) = AnswersName name held held' control control'
  StopsOver brokers held held' control control' ending.YardFault = Rose control.faults control'.faults
  StopsOver brokers held held' control control' ending.NoMemory = Unit {0}
  StopsOver brokers held held' control control' (ending.Mismatch partition kept asked) =
      RegistryRefuses brokers (refusal.Mismatch partition kept asked) held held' control control'
  StopsOver brokers held held' control control' (ending.BadRegistry partition at) =
      RegistryRefuses brokers (refusal.BadRegistry partition at) held held' control control'
  StopsOver brokers held held' control control' other = ⊥

  -- the script has this reading, and isn't run to its end
  pub record ReadsAndStops (reading : Result Script (ℕ × Why)) (held held' : YardContent D S M)
      (control control' : Control) (status : Status)
      : Type 0 where
    pub script : Script
    pub read : reading ≡ Ok script
    pub stops : StopsOver script.config.brokers held held' control control' status

  -- why there is no trace of a script with this reading: it has none, or it isn't run to its end
  abbrev pub HasNoTrace : Result Script (ℕ × Why) → YardContent D S M → YardContent D S M → Control → Control → Status
      → Type 0
  HasNoTrace reading held held' control control' (ending.BadScript line why) = reading ≡ Err (line, why)
  HasNoTrace reading held held' control control' ending.NoMemory = Unit {0}
  HasNoTrace reading held held' control control' other = ReadsAndStops reading held held' control control' other

  -- the environment names nothing and holds what it held, and then the text is the trace of a run of each partition of
  -- the script over the environment's devices, which are all back
  pub record RunsOver (script : Script) (text : List ℕ) (held held' : YardContent D S M)
      (control control' : Control) : Type 0 where
    pub asked : Control
    pub names : NamesFirst (Ok None) control asked
    pub nameless : IsTrue held.is_observable
        → IsFirstName (IsNameInYard disk.content store.content meta.content held) None
    pub found : YardContent D S M
    pub same : Same disk.content store.content meta.content held found
    pub text_is : IsReadAndRun disk store meta script.config script.parts found held' text asked control'

  -- so it is with the script that these bytes are
  pub record IsTraceOver (bytes text : List ℕ) (held held' : YardContent D S M)
      (control control' : Control) : Type 0 where
    pub script : Script
    pub read : script_in bytes ≡ Ok script
    pub runs : RunsOver script text held held' control control'

  -- the source was read to its end, and such a trace of what it gave was written
  pub record WritesTraceOver (left left' : Option (List ℕ)) (held held' : YardContent D S M)
      (control control' : Control)
      (sunk sunk' : Option (List ℕ)) : Type 0 where
    pub script : List ℕ
    pub read : ReadsWhole left left' script
    pub text : List ℕ
    pub trace : IsTraceOver script text held held' control control'
    pub written : Appends sunk sunk' text

  -- the same, but that a front of the trace was written, and not all of it
  pub record WritesFrontOver (left left' : Option (List ℕ)) (held held' : YardContent D S M)
      (control control' : Control)
      (sunk sunk' : Option (List ℕ)) : Type 0 where
    pub script : List ℕ
    pub read : ReadsWhole left left' script
    pub text : List ℕ
    pub trace : IsTraceOver script text held held' control control'
    pub written : AppendsFront sunk sunk' text

  -- the source was read to its end, and a partition's registry refused the run of what it gave
  pub record RefusedByRegistry (left left' : Option (List ℕ)) (why : YardRefusal) (held held' : YardContent D S M)
      (control control' : Control)
      : Type 0 where
    pub bytes : List ℕ
    pub read : ReadsWhole left left' bytes
    pub script : Script
    pub reading : script_in bytes ≡ Ok script
    pub refuses : RegistryRefuses script.config.brokers why held held' control control'

module _ {D S M R W : Type 0} (disk : DiskGhosts D) (store : StoreGhosts S) (meta : MetaGhosts M)
    (source : SourceGhosts R)
    (sink : SinkGhosts W) where
  -- `run`, from a source to a sink
  pub record RunsInYard (script script' : R) (held held' : YardContent D S M) (control control' : Control)
      (out out' : W)
      (status : Status) : Type 0 where
    -- every command of the script is answered once and in order, over an observable environment as the plain log
    -- allows, and all of that is written
    pub trace : status ≡ ending.Ok
        → WritesTraceOver disk store meta (source.left script) (source.left script') held held' control control'
        (sink.written out) (sink.written out')
    -- each device that was provided is back
    pub back : control'.out ≡ control.out
    pub is_observable : held'.is_observable ≡ held.is_observable
    -- no other form's status comes, and each has its cause; out of memory alone is free
    pub own : IsOfRun status
    pub read_fault : status ≡ ending.ReadFault → Rose (source.faults script) (source.faults script')
    pub long : status ≡ ending.TooLong → source.given script' ≡ counted (source.given script) (script_limit + 1)
    pub long_bytes : status ≡ ending.TooLong → Gave (source.left script) (source.left script') (script_limit + 1)
    pub not_long : status ≢ ending.TooLong → source.given script' ≤ source.given script + script_limit
    pub bad : (line : ℕ) (why : Why) → status ≡ ending.BadScript line why
        → ReadsBad (source.left script) (source.left script') line why
    pub not_empty : (name : List ℕ) → status ≡ ending.NotEmpty name
        → AnswersName disk store meta name held held' control control'
    pub yard_fault : status ≡ ending.YardFault → Rose control.faults control'.faults
    pub mismatch : (partition : PartitionId) (kept asked : ℕ) → status ≡ ending.Mismatch partition kept asked
        → RefusedByRegistry disk store meta (source.left script) (source.left script')
        (refusal.Mismatch partition kept asked)
        held held' control control'
    pub bad_registry : (partition : PartitionId) (at : ℕ) → status ≡ ending.BadRegistry partition at
        → RefusedByRegistry disk store meta (source.left script) (source.left script')
        (refusal.BadRegistry partition at)
        held held' control control'
    pub write_fault : status ≡ ending.WriteFault → Rose (sink.faults out) (sink.faults out')
    pub front : status ≡ ending.WriteFault
        → WritesFrontOver disk store meta (source.left script) (source.left script') held held' control control'
        (sink.written out) (sink.written out')
    -- where nothing fails, a valid script is run, unless the environment has a name, a registry refuses it or memory
    -- runs out
    pub complete : ¬ Rose (source.faults script) (source.faults script') → ¬ Rose control.faults control'.faults
        → ¬ Rose (sink.faults out) (sink.faults out') → (bytes : List ℕ) → source.left script ≡ Some bytes
        → length bytes ≤ script_limit → IsOk (script_in bytes) → IsDoneOrNamed control'.named status
    -- and one without is refused, at its first line that has none and for that line's first cause
    pub refused : ¬ Rose (source.faults script) (source.faults script')
        → (bytes : List ℕ) (number : ℕ) (why : Why) → source.left script ≡ Some bytes → length bytes ≤ script_limit
        → script_in bytes ≡ Err (number, why) → IsRefusedOrNoMemory number why status
    -- and one of more bytes is too long
    pub over : ¬ Rose (source.faults script) (source.faults script')
        → (bytes : List ℕ) → source.left script ≡ Some bytes → script_limit < length bytes → IsTooLongOrNoMemory status
    -- the environment's statuses come only after a script that is valid
    pub asked : IsOfYard status → ReadsGood (source.left script) (source.left script')
    -- nothing else touches the sink
    pub unwritten : status ≢ ending.Ok → status ≢ ending.WriteFault → out' ≡ out
