-- Brokers over fresh disks, whose plans are in force, and what is left where they can't be made.
use Rattle.std.specs.Prelude.{◌≡◌, ◌≤◌, ◌⊎◌, ℕ, Bool, List, [], ◌∷◌, ◌++◌, None, Some, true, false, pos, length, IsTrue}
use Rattle.tier_base.specs.declared.plain.FileName.{FileName}
use Rattle.tier_base.specs.declared.plain.Settings.{Settings}
use Rattle.tier_base.specs.Counts.{counted, Rose}
use Rattle.tier_base.specs.Device.{Control, Lasts}
use Rattle.disk_model.specs.Call.{call_code}
use Rattle.disk_model.specs.declared.call.DiskCall.{DiskCall}
use Rattle.disk_model.specs.Content.{Content, Files, LeavesOnly}
use Rattle.log_steps.specs.Opens.{Opened, Opens}
use Rattle.log_steps.specs.Publishes.{IsLike}
use Rattle.log_steps.specs.Reopens.{Reopens}
use Rattle.registry.specs.Registry.{fresh_registry}
use Rattle.plain_log.specs.declared.state.Role.{Role}
use Rattle.plain_log.specs.declared.state.Role.TheVariants.{Leads, Joined}
use Rattle.broker_log.specs.Seen.{LogSeen, ShowsSeen, OnDisk, end_in, flushed_end_in, line_in, layout_in}
use Rattle.broker_log.specs.Write.{first_layout}
use Rattle.partition_commands.specs.declared.partition_state.Node.{Node}
use Rattle.partition_commands.specs.declared.partition_state.PartitionState.{PartitionState}
use Rattle.partition_commands.specs.declared.refusal.WorldRefusal.{WorldRefusal}
use Rattle.partition_commands.specs.declared.refusal.WorldRefusal.TheVariants.{DiskFault, NoMemory}
use Rattle.partition_commands.specs.Partition.{is_up, line_of, IsInfallible}

-- the disks are observable
abbrev pub DisksTell : {D : Type 0} → (D → Content) → List D → Type 0
DisksTell content [] = Unit {0}
DisksTell content (disk ∷ disks) = IsTrue (content disk).is_observable × DisksTell content disks

-- an empty log with these leader epochs, as it is seen
abbrev pub empty_seen : List (ℕ × ℕ) → LogSeen
empty_seen line =
    record { batches = []; line = line; flushed_end = 0; saved = line; local = 0; loose = None; incarnation = 1 }

-- the brokers' logs are seen, and empty
abbrev pub AllSeen : {D : Type 0} → (D → Content) → List (Node D) → Type 0
AllSeen content [] = Unit {0}
AllSeen content (x ∷ xs) = ShowsSeen content x.log (empty_seen (line_of x)) × AllSeen content xs

module _ {D : Type 0} (content : D → Content) (control : D → Control call_code) where
  -- a disk without files, whose plan isn't in force yet, and whose calls aren't counted
  pub record IsFreshDisk (disk : D) : Type 0 where
    pub empty : IsTrue (content disk).is_observable → (n : FileName) → (content disk).files n ≡ None
    pub unarmed : (control disk).armed ≡ false
    pub unmade : (kind : DiskCall) → (control disk).made kind ≡ 0

  abbrev pub AreFreshDisks : List D → Type 0
  AreFreshDisks [] = Unit {0}
  AreFreshDisks (disk ∷ disks) = IsFreshDisk disk × AreFreshDisks disks

-- the given disk's plan is in force, no call is counted yet, and none has failed; none fails of one of which none
-- could, where its plan rules it and is empty
pub record IsArmed (given now : Control call_code) : Type 0 where
  pub plan : now.plan ≡ given.plan
  pub armed : IsTrue now.armed
  pub scripted : now.scripted ≡ given.scripted
  pub unmade : (kind : DiskCall) → now.made kind ≡ 0
  pub no_fault : now.faults ≡ given.faults
  pub still_infallible : IsTrue given.infallible → IsTrue given.scripted → given.plan ≡ [] → IsTrue now.infallible

-- the leader's role and line, and a follower's
abbrev pub fresh_role : Bool → Role
fresh_role true = Leads 0
fresh_role false = Joined 0

abbrev pub fresh_line : Bool → List (ℕ × ℕ)
fresh_line true = (0, 0) ∷ []
fresh_line false = []

-- a log without batches, opened so many times, with the leader's line or a follower's
abbrev pub empty_log : ℕ → Bool → Opened
empty_log i leads = record { incarnation = i; local_start = 0; batches = []; line = fresh_line leads }

-- it opens so; the leader may have entered epoch 0
abbrev pub OpensEmpty : Bool → Files → Type 0
OpensEmpty leads c = (i : ℕ) × (1 ≤ i) × (Opens c (empty_log i false) ⊎ (IsTrue leads × Opens c (empty_log i true)))

module _ {D : Type 0} (content : D → Content) where
  -- a crash at any moment of a broker's making leaves what it might have left before, or the broker's empty log; and
  -- a log can be opened from the disk then, if it could be before
  pub record LeavesBeginning (leads : Bool) (disk now : D) : Type 0 where
    pub moments : LeavesOnly (content disk) (content now) (λ c. IsLike (content disk) c ⊎ OpensEmpty leads c)
    pub again : Reopens (content disk) → Reopens (content now)

  -- a crash at any moment of its entering epoch 0 leaves the empty log, and it can be opened then
  pub record LeavesEntering (disk now : D) : Type 0 where
    pub moments : LeavesOnly (content disk) (content now) (OpensEmpty true)
    pub again : Reopens (content now)

  -- so it is of each of these disks that is observable; the first is a leader's or not, and no other is
  abbrev pub AllLeaveBeginning : Bool → List D → List D → Type 0
  AllLeaveBeginning leads [] [] = Unit {0}
  AllLeaveBeginning leads (disk ∷ disks) (now ∷ nows) =
      (IsTrue (content disk).is_observable → LeavesBeginning leads disk now) × AllLeaveBeginning false disks nows
  AllLeaveBeginning leads [] (now ∷ nows) = ⊥
  AllLeaveBeginning leads (disk ∷ disks) [] = ⊥

module _ {D : Type 0} where
  -- a node that is up, with an empty log, and leads epoch 0 or has joined it
  pub record IsFreshNode (leads : Bool) (x : Node D) : Type 0 where
    pub stops : x.stops ≡ 0
    pub role_is : x.role ≡ fresh_role leads
    pub known_high_watermark : x.known_high_watermark ≡ 0
    pub up : is_up x ≡ true
    pub end : end_in x.log ≡ Some 0
    pub flushed_end : flushed_end_in x.log ≡ Some 0
    pub line_is : line_in x.log ≡ Some (fresh_line leads)

  -- a node's log has these settings, and one segment, which is open and empty
  abbrev pub IsNodeLaid : Settings → Node D → Type 0
  IsNodeLaid settings x = layout_in x.log ≡ Some (first_layout settings)

  abbrev pub AreNodesLaid : Settings → List (Node D) → Type 0
  AreNodesLaid settings [] = Unit {0}
  AreNodesLaid settings (x ∷ xs) = IsNodeLaid settings x × AreNodesLaid settings xs

  -- no node comes before
  abbrev pub is_first : List (Node D) → Bool
  is_first [] = true
  is_first (x ∷ xs) = false

  -- the disks of these nodes' logs
  abbrev pub AreDisksOf : List (Node D) → List D → Type 0
  AreDisksOf [] [] = Unit {0}
  AreDisksOf (x ∷ xs) (disk ∷ disks) = OnDisk x.log (λ d. disk ≡ d) × AreDisksOf xs disks
  AreDisksOf [] (disk ∷ disks) = ⊥
  AreDisksOf (x ∷ xs) [] = ⊥

module _ {D : Type 0} (control : D → Control call_code) where
  -- one over this disk
  pub record IsFreshOver (leads : Bool) (disk : D) (x : Node D) : Type 0 where
    pub node : IsFreshNode leads x
    pub armed : OnDisk x.log (λ d. IsArmed (control disk) (control d))

  -- nodes over these disks, of which the first one leads or not, and no other does
  abbrev pub AreFreshFrom : Bool → List D → List (Node D) → Type 0
  AreFreshFrom leads [] [] = Unit {0}
  AreFreshFrom leads (disk ∷ disks) (x ∷ xs) = IsFreshOver leads disk x × AreFreshFrom false disks xs
  AreFreshFrom leads [] (x ∷ xs) = ⊥
  AreFreshFrom leads (disk ∷ disks) [] = ⊥

  -- one over this disk, no call of which has failed, and whose plan isn't in force yet
  pub record IsMadeOver (content : D → Content) (leads : Bool) (disk : D) (x : Node D) : Type 0 where
    pub node : IsFreshNode leads x
    pub lasts : OnDisk x.log (λ d. Lasts (control disk) (control d))
    pub no_fault : OnDisk x.log (λ d. (control d).faults ≡ (control disk).faults)
    pub leaves : IsTrue (content disk).is_observable → OnDisk x.log (LeavesBeginning content leads disk)

  abbrev pub AreMadeFrom : (D → Content) → Bool → List D → List (Node D) → Type 0
  AreMadeFrom content leads [] [] = Unit {0}
  AreMadeFrom content leads (disk ∷ disks) (x ∷ xs) =
      IsMadeOver content leads disk x × AreMadeFrom content false disks xs
  AreMadeFrom content leads [] (x ∷ xs) = ⊥
  AreMadeFrom content leads (disk ∷ disks) [] = ⊥

  -- a node over a fresh disk follows these nodes; the first one leads
  pub record AddsNode (content : D → Content) (xs : List (Node D)) (disk : D) (new : List (Node D)) : Type 0 where
    pub node : Node D
    pub after : new ≡ xs ++ node ∷ []
    pub made : IsMadeOver content (is_first xs) disk node
    pub seen : IsTrue (content disk).is_observable → ShowsSeen content node.log (empty_seen (line_of node))

  -- a refusal over this disk, which is back: one call of it has failed where that is reported, and none else
  pub record RefusesOver (content : D → Content) (leads : Bool) (disk now : D) (why : WorldRefusal) : Type 0 where
    pub lasts : Lasts (control disk) (control now)
    pub once : why ≡ DiskFault → (control now).faults ≡ counted (control disk).faults 1
    pub no_fault : why ≡ NoMemory → (control now).faults ≡ (control disk).faults
    pub leaves : IsTrue (content disk).is_observable → LeavesBeginning content leads disk now

  -- the disks are back, in their order, and no plan is in force
  abbrev pub ComeBack : List D → List D → Type 0
  ComeBack [] [] = Unit {0}
  ComeBack (disk ∷ disks) (now ∷ nows) =
      Lasts (control disk) (control now) × ((control now).armed ≡ false) × ComeBack disks nows
  ComeBack [] (now ∷ nows) = ⊥
  ComeBack (disk ∷ disks) [] = ⊥

  -- a call of one of the disks has failed
  abbrev pub OneFailed : List D → List D → Type 0
  OneFailed (disk ∷ disks) (now ∷ nows) = Rose (control disk).faults (control now).faults ⊎ OneFailed disks nows
  OneFailed disks nows = ⊥

  -- no call of the disks has failed
  abbrev pub NoneFailed : List D → List D → Type 0
  NoneFailed [] [] = Unit {0}
  NoneFailed (disk ∷ disks) (now ∷ nows) = ((control now).faults ≡ (control disk).faults) × NoneFailed disks nows
  NoneFailed [] (now ∷ nows) = ⊥
  NoneFailed (disk ∷ disks) [] = ⊥

  -- one call of one of the disks has failed, and no other call
  abbrev pub FailedOnce : List D → List D → Type 0
  FailedOnce (disk ∷ disks) (now ∷ nows) =
      (((control now).faults ≡ counted (control disk).faults 1) × NoneFailed disks nows)
      ⊎ (((control now).faults ≡ (control disk).faults) × FailedOnce disks nows)
  FailedOnce disks nows = ⊥

  -- a refusal: the disks are back as the making of brokers leaves them; one call of one of them has failed where that
  -- is reported, and none else
  pub record RefusesDisks (content : D → Content) (disks nows : List D) (why : WorldRefusal) : Type 0 where
    pub back : ComeBack disks nows
    pub leaves : AllLeaveBeginning content true disks nows
    pub once : why ≡ DiskFault → FailedOnce disks nows
    pub no_fault : why ≡ NoMemory → NoneFailed disks nows

  -- no call of these disks can fail
  abbrev pub AreInfallibleDisks : List D → Type 0
  AreInfallibleDisks [] = Unit {0}
  AreInfallibleDisks (disk ∷ disks) = IsInfallible (control disk) × AreInfallibleDisks disks

  -- brokers over these disks: broker 0 leads epoch 0, the others have joined it, and all are in sync; segments are
  -- copied, none packed
  pub record IsFreshPartition (disks : List D) (h : PartitionState D) : Type 0 where
    pub registry : h.registry ≡ fresh_registry (length disks)
    pub nodes : AreFreshFrom true disks h.nodes
    pub clock : h.clock ≡ pos 0
    pub copying : h.copying ≡ true
    pub packed : h.packed ≡ false
