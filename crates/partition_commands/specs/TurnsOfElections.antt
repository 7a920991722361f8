-- What a turn of a command to the registry comes to over disks, and of one that learns of it: elect, unclean, learn,
-- ack, shrink, expand, raise.
--
-- The registry's own calls say what it answers and what it is afterwards.
use Rattle.std.specs.Prelude.{◌≡◌, ◌≢◌, ℕ, ◌<◌, true, false, Option, Some, None, Ok as Done, Err, IsSomeAnd, min}
use Rattle.std.specs.Option.{ForSome}
use Rattle.tier_base.specs.Device.{Control}
use Rattle.disk_model.specs.Call.{call_code}
use Rattle.disk_model.specs.Content.{Content}
use Rattle.log_terms.specs.Log.{end_of as end_of_log}
use Rattle.epoch_line.specs.Line.{last_epoch, assign}
use Rattle.registry.specs.declared.registry.Registry.{Registry}
use Rattle.registry.specs.declared.refusal.RegRefusal.TheVariants as Reg
use Rattle.registry.specs.Replicas.{AtReplica}
use Rattle.registry.specs.Calls.{after_elect, after_unclean, after_ack, after_shrink, after_expand, after_raise}
use Rattle.plain_log.specs.declared.answer.Answer.{Answer}
use Rattle.plain_log.specs.declared.answer.Answer.TheVariants.{Ok, OkAt, Down, NotLeader, DiskFault, LastEpoch}
use Rattle.plain_log.specs.declared.answer.Answer.TheVariants.{NotInSync, DownBroker, BehindStart, Known, Follows}
use Rattle.plain_log.specs.declared.answer.Answer.TheVariants.{NeedsElection, Leads, NotJoined, StaleEpoch, IsLeader}
use Rattle.plain_log.specs.declared.answer.Answer.TheVariants.{Behind, NotAbove, AboveMark}
use Rattle.plain_log.specs.declared.state.Role.TheVariants.{Leads as LeadsIn, Follows as FollowsIn}
use Rattle.plain_log.specs.State.{leads, acking, epoch_in}
use Rattle.broker_log.specs.Seen.{LogState, WhileUp, Quiet}
use Rattle.broker_log.specs.Effects.{loosened}
use Rattle.broker_log.specs.Write.{Settles}
use Rattle.partition_commands.specs.declared.partition_state.Node.{Node}
use Rattle.partition_commands.specs.declared.partition_state.PartitionState.{PartitionState}
use Rattle.partition_commands.specs.Partition.{is_up, end_of, flushed_end_of, line_of, put_node, BreaksNode}

module _ {D : Type 0} where
  -- the registry is left so, and nothing else changes
  abbrev pub Leaves : PartitionState D → Option Registry → PartitionState D → Type 0
  Leaves h after h' = IsSomeAnd after (λ r. h' ≡ record h { registry = r })

  -- elect
  abbrev pub ElectRow : PartitionState D → ℕ → Node D → Answer → PartitionState D → Type 0
  ElectRow h b x LastEpoch h' =
      AtReplica h.registry b (λ s. Leaves h (after_elect h.registry b s (is_up x) (Err Reg.LastEpoch)) h')
  ElectRow h b x NotInSync h' =
      AtReplica h.registry b (λ s. Leaves h (after_elect h.registry b s (is_up x) (Err Reg.NotInSync)) h')
  ElectRow h b x DownBroker h' =
      AtReplica h.registry b (λ s. Leaves h (after_elect h.registry b s (is_up x) (Err Reg.DownBroker)) h')
  ElectRow h b x (OkAt n) h' = AtReplica h.registry b (λ s. Leaves h (after_elect h.registry b s (is_up x) (Done n)) h')
  ElectRow h b x other h' = ⊥

  -- unclean: what the broker has flushed is committed from then on
  abbrev pub UncleanRow : PartitionState D → ℕ → Node D → Answer → PartitionState D → Type 0
  UncleanRow h b x LastEpoch h' =
      Leaves h (after_unclean h.registry b (is_up x) (flushed_end_of x) (Err Reg.LastEpoch)) h'
  UncleanRow h b x DownBroker h' =
      Leaves h (after_unclean h.registry b (is_up x) (flushed_end_of x) (Err Reg.DownBroker)) h'
  UncleanRow h b x (BehindStart end start) h' =
      Leaves h (after_unclean h.registry b (is_up x) (flushed_end_of x) (Err (Reg.BehindStart end start))) h'
  UncleanRow h b x (OkAt n) h' = Leaves h (after_unclean h.registry b (is_up x) (flushed_end_of x) (Done n)) h'
  UncleanRow h b x other h' = ⊥

  -- the role is of the registry's epoch
  abbrev pub IsKnown : PartitionState D → Node D → Type 0
  IsKnown h x = epoch_in x.role ≡ Some h.registry.epoch

  -- the leader epochs have no epoch from this one on
  abbrev pub IsNew : Node D → ℕ → Type 0
  IsNew x n = ForSome (last_epoch (line_of x)) (λ last. last < n)

  -- the broker is up, and its leader epochs have no epoch from this one on
  abbrev pub MayLead : Node D → ℕ → Type 0
  MayLead x n = WhileUp x.log (λ log. ForSome (last_epoch log.line) (λ last. last < n))

  -- shrink
  abbrev pub ShrinkRow : PartitionState D → ℕ → Answer → PartitionState D → Type 0
  ShrinkRow h b NotInSync h' =
      AtReplica h.registry b (λ s. Leaves h (after_shrink h.registry b s (Err Reg.NotInSync)) h')
  ShrinkRow h b IsLeader h' = AtReplica h.registry b (λ s. Leaves h (after_shrink h.registry b s (Err Reg.IsLeader)) h')
  ShrinkRow h b Ok h' = AtReplica h.registry b (λ s. Leaves h (after_shrink h.registry b s (Done tt)) h')
  ShrinkRow h b other h' = ⊥

  -- expand
  abbrev pub ExpandRow : PartitionState D → ℕ → Node D → Answer → PartitionState D → Type 0
  ExpandRow h b x DownBroker h' =
      AtReplica h.registry b (λ s. Leaves h (after_expand h.registry b s (is_up x) (Err Reg.DownBroker)) h')
  ExpandRow h b x (Behind ack mark) h' =
      AtReplica h.registry b (λ s. Leaves h (after_expand h.registry b s (is_up x) (Err (Reg.Behind ack mark))) h')
  ExpandRow h b x Ok h' = AtReplica h.registry b (λ s. Leaves h (after_expand h.registry b s (is_up x) (Done tt)) h')
  ExpandRow h b x other h' = ⊥

  -- raise: the leader alone raises the log start offset
  abbrev pub RaiseRow : PartitionState D → ℕ → Node D → ℕ → Answer → PartitionState D → Type 0
  RaiseRow h b x wanted Down h' = (is_up x ≡ false) × (h' ≡ h)
  RaiseRow h b x wanted NotLeader h' = (is_up x ≡ true) × (leads x.role ≡ false) × (h' ≡ h)
  RaiseRow h b x wanted (StaleEpoch n) h' =
      (is_up x ≡ true) × ((e : ℕ) × (x.role ≡ LeadsIn e)
      × Leaves h (after_raise h.registry e wanted (Err (Reg.StaleEpoch n))) h')
  RaiseRow h b x wanted (NotAbove start) h' =
      (is_up x ≡ true) × ((e : ℕ) × (x.role ≡ LeadsIn e)
      × Leaves h (after_raise h.registry e wanted (Err (Reg.NotAbove start))) h')
  RaiseRow h b x wanted (AboveMark mark) h' =
      (is_up x ≡ true) × ((e : ℕ) × (x.role ≡ LeadsIn e)
      × Leaves h (after_raise h.registry e wanted (Err (Reg.AboveMark mark))) h')
  RaiseRow h b x wanted (OkAt start) h' =
      (is_up x ≡ true) × ((e : ℕ) × (x.role ≡ LeadsIn e) × Leaves h (after_raise h.registry e wanted (Done start)) h')
  RaiseRow h b x wanted other h' = ⊥

  -- an acknowledgement leaves this registry: the broker knows the high watermark, as far as its log goes
  abbrev pub Acks : PartitionState D → ℕ → Node D → Registry → PartitionState D → Type 0
  Acks h b x r h' =
      h' ≡ record (put_node h b (record x { known_high_watermark = min r.mark (end_of x) })) { registry = r }

  -- ack: the registry takes the broker's flushed end
  abbrev pub AckRow : PartitionState D → ℕ → Node D → Answer → PartitionState D → Type 0
  AckRow h b x Down h' = (is_up x ≡ false) × (h' ≡ h)
  AckRow h b x NotJoined h' = (is_up x ≡ true) × (acking x.role ≡ None) × (h' ≡ h)
  AckRow h b x (StaleEpoch n) h' = (is_up x ≡ true) × IsSomeAnd (acking x.role) (λ e.
      AtReplica h.registry b (λ s. Leaves h
      (after_ack h.registry b s e (flushed_end_of x) (Err (Reg.StaleEpoch n))) h'))
  AckRow h b x (OkAt mark) h' = (is_up x ≡ true) × IsSomeAnd (acking x.role) (λ e.
      AtReplica h.registry b (λ s. IsSomeAnd (after_ack h.registry b s e (flushed_end_of x) (Done mark))
      (λ r. Acks h b x r h')))
  AckRow h b x other h' = ⊥

module _ {D : Type 0} (content : D → Content) (control : D → Control call_code) where
  -- the node leads this epoch: its leader epochs have it from the log's end on, and all of its log is flushed; it knows
  -- the high watermark, as far as its log goes
  pub record Leading (h : PartitionState D) (b : ℕ) (x : Node D) (epoch : ℕ) (h' : PartitionState D) : Type 0 where
    pub kept : LogState D
    pub end : ℕ
    pub settles : Settles content x.log kept (λ line end. assign line epoch end) end
    pub quiet : Quiet control x.log kept
    pub after : h' ≡ put_node h b (record x {
      role =
          LeadsIn epoch;
      log = kept;
      known_high_watermark = min h.registry.mark end;
    })

  -- an epoch that the node's line doesn't have
  abbrev pub LeadRow : PartitionState D → ℕ → Node D → ℕ → Answer → PartitionState D → Type 0
  LeadRow h b x epoch (Leads n) h' = (n ≡ epoch) × Leading h b x epoch h'
  LeadRow h b x epoch DiskFault h' = BreaksNode content control h b x
      (λ s. loosened s (end_of_log s.batches, assign s.line epoch (end_of_log s.batches), s.local)) h'
  LeadRow h b x epoch other h' = ⊥

  -- learn
  abbrev pub LearnRow : PartitionState D → ℕ → Node D → Answer → PartitionState D → Type 0
  LearnRow h b x Down h' = (is_up x ≡ false) × (h' ≡ h)
  LearnRow h b x Known h' = (is_up x ≡ true) × IsKnown h x × (h' ≡ h)
  LearnRow h b x (Follows n) h' =
      (is_up x ≡ true) × ¬ IsKnown h x × (h.registry.leader.0 ≢ b) × (n ≡ h.registry.epoch)
      × (h' ≡ put_node h b (record x { role = FollowsIn n }))
  LearnRow h b x (NeedsElection n) h' =
      (is_up x ≡ true) × ¬ IsKnown h x × (h.registry.leader.0 ≡ b) × (n ≡ h.registry.epoch) × ¬ IsNew x n × (h' ≡ h)
  LearnRow h b x (Leads n) h' =
      (is_up x ≡ true) × ¬ IsKnown h x × (h.registry.leader.0 ≡ b) × IsNew x h.registry.epoch
      × LeadRow h b x h.registry.epoch (Leads n) h'
  LearnRow h b x DiskFault h' =
      (is_up x ≡ true) × ¬ IsKnown h x × (h.registry.leader.0 ≡ b) × IsNew x h.registry.epoch
      × LeadRow h b x h.registry.epoch DiskFault h'
  LearnRow h b x other h' = ⊥
