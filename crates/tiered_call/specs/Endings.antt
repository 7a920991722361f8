-- How the program's calls may end, form by form.
use Rattle.std.specs.Prelude.{◌≡◌, ◌≢◌, ℕ, ◌+◌, ◌<◌, ◌≤◌, List, length, Err, IsOk, Some}
use Rattle.tier_base.specs.Counts.{counted, Rose}
use Rattle.tier_base.specs.Stream.{Gave}
use Rattle.tier_base.specs.declared.stream.Source.{Ghosts as SourceGhosts}
use Rattle.tier_base.specs.declared.stream.Sink.{Ghosts as SinkGhosts}
use Rattle.disk_model.specs.declared.disk.Disk.{Ghosts as DiskGhosts}
use Rattle.object_store.specs.declared.store.Store.{Ghosts as StoreGhosts}
use Rattle.meta_log.specs.declared.log.MetaLog.{Ghosts as MetaGhosts}
use Rattle.load_gen.specs.Script.{script_of}
use Rattle.script_lang.specs.declared.refusal.Why.{Why}
use Rattle.script_lang.specs.Script.{script_in}
use Rattle.tiered_call.specs.declared.status.Status.{Status}
use Rattle.tiered_call.specs.declared.status.Status.TheVariants.{Ok, BadScript, ReadFault}
use Rattle.tiered_call.specs.declared.status.Status.TheVariants.{WriteFault, NoMemory, TooLong}
use Rattle.tiered_call.specs.Headline.{WritesTrace, WritesFront, ReadsBad, WritesSummary, WritesSummaryFront}

-- the most bytes that a script may have
abbrev pub script_limit : ℕ
script_limit = 16777216

-- a status of `sim`, with threads or without
abbrev pub IsOfSim : Status → Type 0
IsOfSim Ok = Unit {0}
IsOfSim (BadScript line why) = Unit {0}
IsOfSim ReadFault = Unit {0}
IsOfSim WriteFault = Unit {0}
IsOfSim NoMemory = Unit {0}
IsOfSim TooLong = Unit {0}
IsOfSim other = ⊥

-- a status of `gen`
abbrev pub IsOfGen : Status → Type 0
IsOfGen Ok = Unit {0}
IsOfGen (BadScript line why) = Unit {0}
IsOfGen WriteFault = Unit {0}
IsOfGen NoMemory = Unit {0}
IsOfGen other = ⊥

-- all was done, or there was no memory
abbrev pub IsDoneOrNoMemory : Status → Type 0
IsDoneOrNoMemory Ok = Unit {0}
IsDoneOrNoMemory NoMemory = Unit {0}
IsDoneOrNoMemory other = ⊥

-- the script was too long, or there was no memory
abbrev pub IsTooLongOrNoMemory : Status → Type 0
IsTooLongOrNoMemory TooLong = Unit {0}
IsTooLongOrNoMemory NoMemory = Unit {0}
IsTooLongOrNoMemory other = ⊥

-- this line was refused for this cause, or there was no memory
abbrev pub IsRefusedOrNoMemory : ℕ → Why → Status → Type 0
IsRefusedOrNoMemory number cause (BadScript line why) = (line ≡ number) × (why ≡ cause)
IsRefusedOrNoMemory number cause NoMemory = Unit {0}
IsRefusedOrNoMemory number cause other = ⊥

module _ {R W : Type 0} (Traces : List ℕ → List ℕ → Type 0) (source : SourceGhosts R) (sink : SinkGhosts W) where
  -- `sim`, from a source to a sink, which writes such traces
  pub record Simulates (script script' : R) (out out' : W) (status : Status) : Type 0 where
    -- every command of the script is answered once and in order, as the plain log allows, and all of that is written
    pub trace : status ≡ Ok
        → WritesTrace Traces (source.left script) (source.left script') (sink.written out) (sink.written out')
    -- no other form's status comes, and each has its cause; out of memory alone is free
    pub own : IsOfSim status
    pub read_fault : status ≡ ReadFault → Rose (source.faults script) (source.faults script')
    pub long : status ≡ TooLong → source.given script' ≡ counted (source.given script) (script_limit + 1)
    pub long_bytes : status ≡ TooLong → Gave (source.left script) (source.left script') (script_limit + 1)
    pub not_long : status ≢ TooLong → source.given script' ≤ source.given script + script_limit
    pub bad : (line : ℕ) (why : Why) → status ≡ BadScript line why
        → ReadsBad (source.left script) (source.left script') line why
    pub write_fault : status ≡ WriteFault → Rose (sink.faults out) (sink.faults out')
    pub front : status ≡ WriteFault
        → WritesFront Traces (source.left script) (source.left script') (sink.written out) (sink.written out')
    -- where nothing fails, a valid script is run, unless memory runs out
    pub complete : ¬ Rose (source.faults script) (source.faults script') → ¬ Rose (sink.faults out) (sink.faults out')
        → (bytes : List ℕ) → source.left script ≡ Some bytes → length bytes ≤ script_limit → IsOk (script_in bytes)
        → IsDoneOrNoMemory status
    -- and one without is refused, at its first line that has none and for that line's first cause
    pub refused : ¬ Rose (source.faults script) (source.faults script')
        → (bytes : List ℕ) (number : ℕ) (why : Why) → source.left script ≡ Some bytes → length bytes ≤ script_limit
        → script_in bytes ≡ Err (number, why) → IsRefusedOrNoMemory number why status
    -- and one of more bytes is too long
    pub over : ¬ Rose (source.faults script) (source.faults script')
        → (bytes : List ℕ) → source.left script ≡ Some bytes → script_limit < length bytes → IsTooLongOrNoMemory status
    -- nothing else touches the sink
    pub unwritten : status ≢ Ok → status ≢ WriteFault → out' ≡ out

module _ {D S M W : Type 0} (disk : DiskGhosts D) (store : StoreGhosts S) (meta : MetaGhosts M)
    (sink : SinkGhosts W) where
  -- `gen` of a number, to a sink
  pub record Generates (number : ℕ) (out out' : W) (status : Status) : Type 0 where
    -- what is written says of runs of the plain log, one for each partition of the number's script
    pub summary : status ≡ Ok → WritesSummary disk store meta (script_of number) (sink.written out) (sink.written out')
    -- no other form's status comes, and each has its cause; out of memory alone is free
    pub own : IsOfGen status
    pub bad : (line : ℕ) (why : Why) → status ≡ BadScript line why → script_in (script_of number) ≡ Err (line, why)
    pub write_fault : status ≡ WriteFault → Rose (sink.faults out) (sink.faults out')
    pub front : status ≡ WriteFault → WritesSummaryFront disk store meta (script_of number) (sink.written out)
        (sink.written out')
    -- where nothing fails, a valid script is run, unless memory runs out
    pub complete : ¬ Rose (sink.faults out) (sink.faults out') → IsOk (script_in (script_of number))
        → IsDoneOrNoMemory status
    -- and one without is refused, at its first line that has none and for that line's first cause
    pub refused : (line : ℕ) (why : Why) → script_in (script_of number) ≡ Err (line, why)
        → IsRefusedOrNoMemory line why status
    -- nothing else touches the sink
    pub unwritten : status ≢ Ok → status ≢ WriteFault → out' ≡ out
