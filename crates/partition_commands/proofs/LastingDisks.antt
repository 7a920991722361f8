-- The brokers' disks last, over no call and over many, and a fault of one of them continues to be counted.
use Rattle.std.proofs.Common.{◌≡◌, sym, subst, ℕ, zero, suc, ◌+◌, ◌≤◌, List, [], ◌∷◌, slice_get, slice_set, Some, Option, IsSomeAnd, arith}
use Rattle.std.specs.Prelude.{◌-◌, ◌^◌, min}
use Rattle.tier_base.specs.Counts.{counted, Rose}
use Rattle.tier_base.specs.Device.{Control, Lasts}
use Rattle.tier_base.proofs.Lasting.{lasts_same, lasts_then}
use Rattle.disk_model.specs.Call.{call_code}
use Rattle.registry.specs.declared.registry.Registry.{Registry}
use Rattle.plain_log.specs.declared.command.Command.{Command}
use Rattle.plain_log.specs.declared.command.Command.TheVariants.{Follow}
use Rattle.broker_log.specs.Seen.{LogState, Up, Down, Away, OnDisk, Lasting, Faulted, OneFault}
use Rattle.laws_partition.proofs.BoolTests.{some_of}
use Rattle.partition_commands.specs.declared.partition_state.Node.{Node}
use Rattle.partition_commands.specs.declared.partition_state.PartitionState.{PartitionState}
use Rattle.partition_commands.specs.Disks.{HaveDisks, DisksLast, DiskFails}
use Rattle.partition_commands.specs.Partition.{put_node}
use Rattle.partition_commands.specs.TurnsOfElections.{Leaves}

-- a count that has risen, from so much on
pub rose_from : (n before now : ℕ) → n ≤ before → Rose before now → Rose n now
rose_from n before now low rose = go low rose
  where
    go : n ≤ before → min (before + 1) (2 ^ 64 - 1) ≤ now → min (n + 1) (2 ^ 64 - 1) ≤ now
    go low up = omega (arith, low, up)

-- one that has risen continues
pub rose_on : (before now later : ℕ) → Rose before now → now ≤ later → Rose before later
rose_on before now later rose up = go rose up
  where
    go : min (before + 1) (2 ^ 64 - 1) ≤ now → now ≤ later → min (before + 1) (2 ^ 64 - 1) ≤ later
    go rose up = omega (arith, rose, up)

-- one more than before
rose_once : (before now : ℕ) → now ≡ counted before 1 → Rose before now
rose_once before now is = go is
  where
    go : now ≡ min (before + 1) (2 ^ 64 - 1) → min (before + 1) (2 ^ 64 - 1) ≤ now
    go is = omega (arith, is)

module _ {D : Type 0} where
  pub disk_map : (P Q : D → Type 0) (k : LogState D) → ((d : D) → P d → Q d) → OnDisk k P → OnDisk k Q
  disk_map P Q (Up l) to on = to l.disk on
  disk_map P Q (Down i d) to on = to d on
  disk_map P Q Away to on = absurd on

  disk_both : (P Q : D → Type 0) (X : Type 0) (k : LogState D) → ((d : D) → P d → Q d → X) → OnDisk k P → OnDisk k Q → X
  disk_both P Q X (Up l) to p q = to l.disk p q
  disk_both P Q X (Down i d) to p q = to d p q
  disk_both P Q X Away to p q = absurd p

  -- two facts of one disk and the next
  pub disk_pair : (R S T : D → D → Type 0) (a b : LogState D) → ((d e : D) → R d e → S d e → T d e) → OnDisk a (λ d. OnDisk b (R d)) → OnDisk a (λ d. OnDisk b (S d)) → OnDisk a (λ d. OnDisk b (T d))
  disk_pair R S T (Up l) (Up m) to r s = to l.disk m.disk r s
  disk_pair R S T (Up l) (Down j e) to r s = to l.disk e r s
  disk_pair R S T (Up l) Away to r s = absurd r
  disk_pair R S T (Down i d) (Up m) to r s = to d m.disk r s
  disk_pair R S T (Down i d) (Down j e) to r s = to d e r s
  disk_pair R S T (Down i d) Away to r s = absurd r
  disk_pair R S T Away b to r s = absurd r

  -- from one disk to the next, and to the one after it
  pub disk_then : (R S T : D → D → Type 0) (a b c : LogState D) → ((d e f : D) → R d e → S e f → T d f) → OnDisk a (λ d. OnDisk b (R d)) → OnDisk b (λ e. OnDisk c (S e)) → OnDisk a (λ d. OnDisk c (T d))
  disk_then R S T a b c to one two =
      disk_map (λ d. OnDisk b (R d)) (λ d. OnDisk c (T d)) a
      (λ d r. disk_both (R d) (λ e. OnDisk c (S e)) (OnDisk c (T d)) b (λ e p on. disk_map (S e) (T d) c (λ f q. to d e f p q) on) r two) one

  -- a broker's disk, of those that all have one
  pub disk_at : (xs : List (Node D)) (b : ℕ) (x : Node D) → slice_get xs b ≡ Some x → HaveDisks xs → OnDisk x.log (λ d. Unit {0})
  disk_at [] b x at have = absurd cc
  disk_at (z ∷ xs) zero x at have = let same : z ≡ x = cc in subst (λ (k : Node D). OnDisk k.log (λ d. Unit {0})) same have.0
  disk_at (z ∷ xs) (suc b) x at have = disk_at xs b x at have.1

module _ {D : Type 0} (control : D → Control call_code) where
  -- one that wasn't asked
  lasting_same : (k : LogState D) → OnDisk k (λ d. Unit {0}) → Lasting control k k
  lasting_same (Up l) on = lasts_same (control l.disk)
  lasting_same (Down i d) on = lasts_same (control d)
  lasting_same Away on = absurd on

  lasting_then : (a b c : LogState D) → Lasting control a b → Lasting control b c → Lasting control a c
  lasting_then a b c one two =
      disk_then (λ d e. Lasts (control d) (control e)) (λ d e. Lasts (control d) (control e)) (λ d e. Lasts (control d) (control e)) a b c
      (λ d e f p q. lasts_then (control d) (control e) (control f) p q) one two

  lasting_has : (a b : LogState D) → Lasting control a b → OnDisk b (λ d. Unit {0})
  lasting_has (Up l) b on = disk_map (λ e. Lasts (control l.disk) (control e)) (λ e. Unit {0}) b (λ e p. tt) on
  lasting_has (Down i d) b on = disk_map (λ e. Lasts (control d) (control e)) (λ e. Unit {0}) b (λ e p. tt) on
  lasting_has Away b on = absurd on

  -- a fault after other calls, and before others
  faulted_after : (a b c : LogState D) → Lasting control a b → Faulted control b c → Faulted control a c
  faulted_after a b c one two =
      disk_then (λ d e. Lasts (control d) (control e)) (λ d e. Rose (control d).faults (control e).faults) (λ d e. Rose (control d).faults (control e).faults) a b c
      (λ d e f p q. rose_from (control d).faults (control e).faults (control f).faults p.never_falls q) one two

  -- one call that failed has raised the count
  pub one_faulted : (a b : LogState D) → Lasting control a b → OneFault control a b → Faulted control a b
  one_faulted a b lasts one =
      disk_pair (λ d e. Lasts (control d) (control e)) (λ d e. (control e).faults ≡ counted (control d).faults 1) (λ d e. Rose (control d).faults (control e).faults) a b
      (λ d e l is. rose_once (control d).faults (control e).faults is) lasts one

  faulted_before : (a b c : LogState D) → Faulted control a b → Lasting control b c → Faulted control a c
  faulted_before a b c one two =
      disk_then (λ d e. Rose (control d).faults (control e).faults) (λ d e. Lasts (control d) (control e)) (λ d e. Rose (control d).faults (control e).faults) a b c
      (λ d e f p q. rose_on (control d).faults (control e).faults (control f).faults p q.never_falls) one two

  -- all brokers' disks

  pub last_same : (xs : List (Node D)) → HaveDisks xs → DisksLast control xs xs
  last_same [] have = tt
  last_same (x ∷ xs) have = (lasting_same x.log have.0, last_same xs have.1)

  last_set : (xs : List (Node D)) (b : ℕ) (x y : Node D) → slice_get xs b ≡ Some x → HaveDisks xs → Lasting control x.log y.log → DisksLast control xs (slice_set xs b y)
  last_set [] b x y at have lasts = tt
  last_set (z ∷ xs) zero x y at have lasts = let same : z ≡ x = cc in (subst (λ (k : Node D). Lasting control k.log y.log) (sym same) lasts, last_same xs have.1)
  last_set (z ∷ xs) (suc b) x y at have lasts = (lasting_same z.log have.0, last_set xs b x y at have.1 lasts)

  pub last_then : (xs ys zs : List (Node D)) → DisksLast control xs ys → DisksLast control ys zs → DisksLast control xs zs
  last_then [] [] zs one two = two
  last_then (x ∷ xs) (y ∷ ys) (z ∷ zs) one two = (lasting_then x.log y.log z.log one.0 two.0, last_then xs ys zs one.1 two.1)
  last_then (x ∷ xs) (y ∷ ys) [] one two = absurd two
  last_then [] (y ∷ ys) zs one two = absurd one
  last_then (x ∷ xs) [] zs one two = absurd one

  pub last_have : (xs ys : List (Node D)) → DisksLast control xs ys → HaveDisks ys
  last_have [] [] lasts = tt
  last_have (x ∷ xs) (y ∷ ys) lasts = (lasting_has x.log y.log lasts.0, last_have xs ys lasts.1)
  last_have [] (y ∷ ys) lasts = absurd lasts
  last_have (x ∷ xs) [] lasts = absurd lasts

  -- a fault of one of them

  abbrev FailsAt : ℕ → List (Node D) → List (Node D) → Type 0
  FailsAt b xs ys = IsSomeAnd (slice_get xs b) (λ x. IsSomeAnd (slice_get ys b) (λ y. Faulted control x.log y.log))

  fails_set : (xs : List (Node D)) (b : ℕ) (x y : Node D) → slice_get xs b ≡ Some x → Faulted control x.log y.log → FailsAt b xs (slice_set xs b y)
  fails_set [] b x y at rose = absurd cc
  fails_set (z ∷ xs) zero x y at rose = let same : z ≡ x = cc in subst (λ (k : Node D). Faulted control k.log y.log) (sym same) rose
  fails_set (z ∷ xs) (suc b) x y at rose = fails_set xs b x y at rose

  pub fails_after : (b : ℕ) (xs ys zs : List (Node D)) → DisksLast control xs ys → FailsAt b ys zs → FailsAt b xs zs
  fails_after b [] [] zs lasts fails = fails
  fails_after zero (x ∷ xs) (y ∷ ys) (z ∷ zs) lasts fails = faulted_after x.log y.log z.log lasts.0 fails
  fails_after (suc b) (x ∷ xs) (y ∷ ys) (z ∷ zs) lasts fails = fails_after b xs ys zs lasts.1 fails
  fails_after zero (x ∷ xs) (y ∷ ys) [] lasts fails = fails
  fails_after (suc b) (x ∷ xs) (y ∷ ys) [] lasts fails = fails_after b xs ys [] lasts.1 fails
  fails_after b [] (y ∷ ys) zs lasts fails = absurd lasts
  fails_after b (x ∷ xs) [] zs lasts fails = absurd lasts

  pub fails_before : (b : ℕ) (xs ys zs : List (Node D)) → FailsAt b xs ys → DisksLast control ys zs → FailsAt b xs zs
  fails_before b [] ys zs fails lasts = fails
  fails_before zero (x ∷ xs) (y ∷ ys) (z ∷ zs) fails lasts = faulted_before x.log y.log z.log fails lasts.0
  fails_before (suc b) (x ∷ xs) (y ∷ ys) (z ∷ zs) fails lasts = fails_before b xs ys zs fails lasts.1
  fails_before zero (x ∷ xs) [] [] fails lasts = fails
  fails_before (suc b) (x ∷ xs) [] [] fails lasts = fails_before b xs [] [] fails lasts
  fails_before b (x ∷ xs) (y ∷ ys) [] fails lasts = absurd lasts
  fails_before b (x ∷ xs) [] (z ∷ zs) fails lasts = absurd lasts

  -- what a turn leaves of them

  abbrev pub Keeps : PartitionState D → PartitionState D → Type 0
  Keeps h h' = HaveDisks h.nodes → DisksLast control h.nodes h'.nodes

  -- a call failed of a disk that a command of the broker works on: a follow also reads its leader's
  abbrev pub FailsFor : Command → PartitionState D → ℕ → PartitionState D → Type 0
  FailsFor (Follow limit) h b h' = (leader : ℕ) × DiskFails control leader h h'
  FailsFor command h b h' = DiskFails control b h h'

  abbrev pub FailsAlone : PartitionState D → ℕ → PartitionState D → Type 0
  FailsAlone h b h' = Keeps h h' × DiskFails control b h h'

  -- no disk was asked
  pub keeps_same : (h h' : PartitionState D) → h' ≡ h → Keeps h h'
  keeps_same h h' is = λ have. subst (λ (k : PartitionState D). DisksLast control h.nodes k.nodes) (sym is) (last_same h.nodes have)

  -- a node in its place, whose disk was asked
  pub keeps_put : (h : PartitionState D) (b : ℕ) (x y : Node D) (h' : PartitionState D) → slice_get h.nodes b ≡ Some x → Lasting control x.log y.log → h' ≡ put_node h b y → Keeps h h'
  keeps_put h b x y h' at lasts is = λ have. subst (λ (k : PartitionState D). DisksLast control h.nodes k.nodes) (sym is) (last_set h.nodes b x y at have lasts)

  -- one whose disk wasn't
  pub keeps_log : (h : PartitionState D) (b : ℕ) (x y : Node D) (h' : PartitionState D) → slice_get h.nodes b ≡ Some x → y.log ≡ x.log → h' ≡ put_node h b y → Keeps h h'
  keeps_log h b x y h' at same is = λ have.
      keeps_put h b x y h' at (subst (λ (l : LogState D). Lasting control x.log l) (sym same) (lasting_same x.log (disk_at h.nodes b x at have))) is have

  pub keeps_leaves : (h : PartitionState D) (after : Option Registry) (h' : PartitionState D) → Leaves h after h' → Keeps h h'
  keeps_leaves h after h' w = let r = some_of _ after w in keeps_same (record h { registry = r.0 }) h' r.2

  -- one whose disk failed
  pub fails_put : (h : PartitionState D) (b : ℕ) (x y : Node D) (h' : PartitionState D) → slice_get h.nodes b ≡ Some x → Lasting control x.log y.log → Faulted control x.log y.log → h' ≡ put_node h b y → FailsAlone h b h'
  fails_put h b x y h' at lasts rose is = (
    keeps_put h b x y h' at lasts is,
    subst (λ (k : PartitionState D). DiskFails control b h k) (sym is) (fails_set h.nodes b x y at rose),
  )
