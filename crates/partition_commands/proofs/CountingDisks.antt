-- How many calls of the brokers' disks failed over a turn: none, or one.
use Rattle.std.proofs.Common.{◌≡◌, sym, subst, refl, ℕ, zero, suc, Bool, true, false, List, [], ◌∷◌, slice_get, slice_set, Some, Option}
use Rattle.tier_base.specs.Device.{Control}
use Rattle.disk_model.specs.Call.{call_code}
use Rattle.registry.specs.declared.registry.Registry.{Registry}
use Rattle.plain_log.specs.declared.command.Command.{Command}
use Rattle.broker_log.specs.Seen.{LogState, Up, Down, Away, OnDisk, NoFault, OneFault}
use Rattle.laws_partition.proofs.BoolTests.{some_of}
use Rattle.partition_commands.specs.declared.partition_state.Node.{Node}
use Rattle.partition_commands.specs.declared.partition_state.PartitionState.{PartitionState}
use Rattle.partition_commands.specs.Disks.{HaveDisks, NoneFails, OneFails, FailsOnce, DisksCount}
use Rattle.partition_commands.specs.Partition.{put_node}
use Rattle.partition_commands.specs.TurnsOfElections.{Leaves}
use Rattle.partition_commands.proofs.LastingDisks.{disk_at}

-- this holds where a fault is reported, and that where none is
abbrev pub ByFault : Type 0 → Type 0 → Bool → Type 0
ByFault A Z true = A
ByFault A Z false = Z

pub by_map : (A B Z : Type 0) (fault : Bool) → (A → B) → ByFault A Z fault → ByFault B Z fault
by_map A B Z true f k = f k
by_map A B Z false f k = k

module _ {D : Type 0} (control : D → Control call_code) where
  quiet_same_log : (k : LogState D) → OnDisk k (λ d. Unit {0}) → NoFault control k k
  quiet_same_log (Up l) on = refl
  quiet_same_log (Down i d) on = refl
  quiet_same_log Away on = absurd on

  pub none_same : (xs : List (Node D)) → HaveDisks xs → NoneFails control xs xs
  none_same [] have = tt
  none_same (x ∷ xs) have = (quiet_same_log x.log have.0, none_same xs have.1)

  none_set : (xs : List (Node D)) (b : ℕ) (x y : Node D) → slice_get xs b ≡ Some x → HaveDisks xs → NoFault control x.log y.log → NoneFails control xs (slice_set xs b y)
  none_set [] b x y at have quiet = tt
  none_set (z ∷ xs) zero x y at have quiet = let same : z ≡ x = cc in (subst (λ (k : Node D). NoFault control k.log y.log) (sym same) quiet, none_same xs have.1)
  none_set (z ∷ xs) (suc b) x y at have quiet = (quiet_same_log z.log have.0, none_set xs b x y at have.1 quiet)

  one_set : (xs : List (Node D)) (b : ℕ) (x y : Node D) → slice_get xs b ≡ Some x → HaveDisks xs → OneFault control x.log y.log → OneFails control b xs (slice_set xs b y)
  one_set [] b x y at have one = absurd cc
  one_set (z ∷ xs) zero x y at have one = let same : z ≡ x = cc in (subst (λ (k : Node D). OneFault control k.log y.log) (sym same) one, none_same xs have.1)
  one_set (z ∷ xs) (suc b) x y at have one = (quiet_same_log z.log have.0, one_set xs b x y at have.1 one)

  -- no call of any of them failed
  abbrev pub Quietly : PartitionState D → PartitionState D → Type 0
  Quietly h h' = HaveDisks h.nodes → NoneFails control h.nodes h'.nodes

  -- one call of this broker's failed
  abbrev pub Once : PartitionState D → ℕ → PartitionState D → Type 0
  Once h b h' = HaveDisks h.nodes → OneFails control b h.nodes h'.nodes

  -- one call failed that a command of the broker makes
  abbrev pub OnceFor : Command → PartitionState D → ℕ → PartitionState D → Type 0
  OnceFor command h b h' = HaveDisks h.nodes → FailsOnce control command b h.nodes h'.nodes

  pub quiet_same : (h h' : PartitionState D) → h' ≡ h → Quietly h h'
  quiet_same h h' is = λ have. subst (λ (k : PartitionState D). NoneFails control h.nodes k.nodes) (sym is) (none_same h.nodes have)

  -- a node in its place, whose disk was asked
  pub quiet_put : (h : PartitionState D) (b : ℕ) (x y : Node D) (h' : PartitionState D) → slice_get h.nodes b ≡ Some x → NoFault control x.log y.log → h' ≡ put_node h b y → Quietly h h'
  quiet_put h b x y h' at quiet is = λ have. subst (λ (k : PartitionState D). NoneFails control h.nodes k.nodes) (sym is) (none_set h.nodes b x y at have quiet)

  -- one whose disk wasn't
  pub quiet_log : (h : PartitionState D) (b : ℕ) (x y : Node D) (h' : PartitionState D) → slice_get h.nodes b ≡ Some x → y.log ≡ x.log → h' ≡ put_node h b y → Quietly h h'
  quiet_log h b x y h' at same is = λ have.
      quiet_put h b x y h' at (subst (λ (l : LogState D). NoFault control x.log l) (sym same) (quiet_same_log x.log (disk_at h.nodes b x at have))) is have

  pub quiet_leaves : (h : PartitionState D) (after : Option Registry) (h' : PartitionState D) → Leaves h after h' → Quietly h h'
  quiet_leaves h after h' w = let r = some_of _ after w in quiet_same (record h { registry = r.0 }) h' r.2

  -- one whose disk failed
  pub once_put : (h : PartitionState D) (b : ℕ) (x y : Node D) (h' : PartitionState D) → slice_get h.nodes b ≡ Some x → OneFault control x.log y.log → h' ≡ put_node h b y → Once h b h'
  once_put h b x y h' at one is = λ have. subst (λ (k : PartitionState D). OneFails control b h.nodes k.nodes) (sym is) (one_set h.nodes b x y at have one)

  -- what the count of the disks says
  pub counts_by : (command : Command) (h : PartitionState D) (b : ℕ) (h' : PartitionState D) (fault : Bool) → HaveDisks h.nodes → ByFault (OnceFor command h b h') (Quietly h h') fault → DisksCount control command b fault h.nodes h'.nodes
  counts_by command h b h' true have k = k have
  counts_by command h b h' false have k = k have
