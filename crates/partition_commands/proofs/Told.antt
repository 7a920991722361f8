-- What is said of devices where an answer is a fault of one.
use Rattle.laws_partition.specs.declared.start_snapshot.Turned.{Turned}
use Rattle.laws_partition.specs.declared.start_snapshot.Turned.TheVariants.{Answers, Begins}
use Rattle.plain_log.specs.declared.answer.Answer.{Answer}
use Rattle.plain_log.specs.declared.answer.Answer.TheVariants.{DiskFault, DiskFaultAt, StoreFault, MetaFault}
use Rattle.partition_commands.specs.Infallible.{IsFaultless}

-- this holds where the answer is a fault of a disk, one at an offset, one of the store, one of the metadata log
abbrev pub Told : Type 0 → Type 0 → Type 0 → Type 0 → Answer → Type 0
Told A B C E DiskFault = A
Told A B C E (DiskFaultAt n) = B
Told A B C E StoreFault = C
Told A B C E MetaFault = E
Told A B C E other = Unit {0}

-- so where a turn that the remote tier has no part in is answered one
abbrev pub OwnTold : Type 0 → Type 0 → Turned → Type 0
OwnTold A B (Answers answer) = Told A B ⊥ ⊥ answer
OwnTold A B (Begins g) = Unit {0}

pub told_map : (A B C E A' B' C' E' : Type 0) (answer : Answer) → (A → A') → (B → B') → (C → C') → (E → E') → Told A B C E answer → Told A' B' C' E' answer
told_map A B C E A' B' C' E' DiskFault f g h k t = f t
told_map A B C E A' B' C' E' (DiskFaultAt n) f g h k t = g t
told_map A B C E A' B' C' E' StoreFault f g h k t = h t
told_map A B C E A' B' C' E' MetaFault f g h k t = k t
told_map A B C E A' B' C' E' other f g h k t = tt

-- where no device failed none is reported
pub told_none : (A B C E : Type 0) (answer : Answer) → (A → ⊥) → (B → ⊥) → (C → ⊥) → (E → ⊥) → Told A B C E answer → IsFaultless answer
told_none A B C E DiskFault f g h k t = f t
told_none A B C E (DiskFaultAt n) f g h k t = g t
told_none A B C E StoreFault f g h k t = h t
told_none A B C E MetaFault f g h k t = k t
told_none A B C E other f g h k t = tt
