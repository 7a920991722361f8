-- What a turn of a command to the registry comes to, and of one that learns of it: elect, unclean, learn, ack, shrink,
-- expand, raise.
--
-- The registry's own calls say what it answers and what it is afterwards.
use Rattle.std.specs.Prelude.{◌≡◌, ◌≢◌, ℕ, ◌<◌, true, false, Option, Some, None, Ok as Done, Err, IsSomeAnd, min}
use Rattle.std.specs.Option.{ForSome}
use Rattle.log_terms.specs.Log.{end_of}
use Rattle.epoch_line.specs.Line.{last_epoch, assign}
use Rattle.registry.specs.declared.registry.Registry.{Registry}
use Rattle.registry.specs.declared.refusal.RegRefusal.{RegRefusal}
use Rattle.registry.specs.declared.refusal.RegRefusal.TheVariants as Reg
use Rattle.registry.specs.Replicas.{AtReplica}
use Rattle.registry.specs.Calls.{after_elect, after_unclean, after_ack, after_shrink, after_expand, after_raise}
use Rattle.plain_log.specs.declared.answer.Answer.{Answer}
use Rattle.plain_log.specs.declared.answer.Answer.TheVariants.{Ok, OkAt, Down, NotLeader, LastEpoch, NotInSync}
use Rattle.plain_log.specs.declared.answer.Answer.TheVariants.{DownBroker, BehindStart, Known, Follows, NeedsElection}
use Rattle.plain_log.specs.declared.answer.Answer.TheVariants.{DiskFault, Leads, NotJoined, StaleEpoch, IsLeader}
use Rattle.plain_log.specs.declared.answer.Answer.TheVariants.{Behind, NotAbove, AboveMark}
use Rattle.plain_log.specs.declared.state.Role.TheVariants.{Leads as LeadsIn, Follows as FollowsIn}
use Rattle.plain_log.specs.State.{leads, acking, epoch_in}
use Rattle.laws_partition.specs.Seen.{Node, SeenPartition}
use Rattle.laws_partition.specs.Partition.{put_node, broken}

-- the registry is left so, and nothing else changes
abbrev pub Leaves : SeenPartition → Option Registry → SeenPartition → Type 0
Leaves h after h' = IsSomeAnd after (λ r. h' ≡ record h { registry = r })

-- what is answered where the registry refuses
abbrev pub answer_of : RegRefusal → Answer
answer_of Reg.LastEpoch = LastEpoch
answer_of Reg.NotInSync = NotInSync
answer_of Reg.DownBroker = DownBroker
answer_of (Reg.BehindStart end start) = BehindStart end start
answer_of (Reg.StaleEpoch current) = StaleEpoch current
answer_of Reg.IsLeader = IsLeader
answer_of (Reg.Behind ack mark) = Behind ack mark
answer_of (Reg.NotAbove start) = NotAbove start
answer_of (Reg.AboveMark mark) = AboveMark mark

-- elect
abbrev pub ElectRow : SeenPartition → ℕ → Node → Answer → SeenPartition → Type 0
ElectRow h b x LastEpoch h' =
    AtReplica h.registry b (λ s. Leaves h (after_elect h.registry b s x.up (Err Reg.LastEpoch)) h')
ElectRow h b x NotInSync h' =
    AtReplica h.registry b (λ s. Leaves h (after_elect h.registry b s x.up (Err Reg.NotInSync)) h')
ElectRow h b x DownBroker h' =
    AtReplica h.registry b (λ s. Leaves h (after_elect h.registry b s x.up (Err Reg.DownBroker)) h')
ElectRow h b x (OkAt n) h' = AtReplica h.registry b (λ s. Leaves h (after_elect h.registry b s x.up (Done n)) h')
ElectRow h b x other h' = ⊥

-- unclean: what the broker has flushed is committed from then on
abbrev pub UncleanRow : SeenPartition → ℕ → Node → Answer → SeenPartition → Type 0
UncleanRow h b x LastEpoch h' = Leaves h (after_unclean h.registry b x.up x.flushed_end (Err Reg.LastEpoch)) h'
UncleanRow h b x DownBroker h' = Leaves h (after_unclean h.registry b x.up x.flushed_end (Err Reg.DownBroker)) h'
UncleanRow h b x (BehindStart end start) h' =
    Leaves h (after_unclean h.registry b x.up x.flushed_end (Err (Reg.BehindStart end start))) h'
UncleanRow h b x (OkAt n) h' = Leaves h (after_unclean h.registry b x.up x.flushed_end (Done n)) h'
UncleanRow h b x other h' = ⊥

-- the role is of the registry's epoch
abbrev pub IsKnown : SeenPartition → Node → Type 0
IsKnown h x = epoch_in x.role ≡ Some h.registry.epoch

-- the leader epochs have no epoch from this one on
abbrev pub IsNew : Node → ℕ → Type 0
IsNew x n = ForSome (last_epoch x.log.line) (λ last. last < n)

-- the node leads this epoch: its leader epochs have it from the log's end on, and all of both is flushed
abbrev pub led : SeenPartition → Node → ℕ → Node
led h x n = record x {
  role = LeadsIn n;
  log = record x.log { line = assign x.log.line n (end_of x.log.batches) };
  flushed_end = end_of x.log.batches;
  known_high_watermark = min h.registry.mark (end_of x.log.batches);
  saved = assign x.log.line n (end_of x.log.batches);
}

-- learn
abbrev pub LearnRow : SeenPartition → ℕ → Node → Answer → SeenPartition → Type 0
LearnRow h b x Down h' = (x.up ≡ false) × (h' ≡ h)
LearnRow h b x Known h' = (x.up ≡ true) × IsKnown h x × (h' ≡ h)
LearnRow h b x (Follows n) h' =
    (x.up ≡ true) × ¬ IsKnown h x × (h.registry.leader.0 ≢ b) × (n ≡ h.registry.epoch)
    × (h' ≡ put_node h b (record x { role = FollowsIn n }))
LearnRow h b x (NeedsElection n) h' =
    (x.up ≡ true) × ¬ IsKnown h x × (h.registry.leader.0 ≡ b) × (n ≡ h.registry.epoch) × ¬ IsNew x n × (h' ≡ h)
LearnRow h b x (Leads n) h' =
    (x.up ≡ true) × ¬ IsKnown h x × (h.registry.leader.0 ≡ b) × (n ≡ h.registry.epoch) × IsNew x n
    × (h' ≡ put_node h b (led h x n))
LearnRow h b x DiskFault h' =
    (x.up ≡ true) × ¬ IsKnown h x × (h.registry.leader.0 ≡ b) × IsNew x h.registry.epoch
    × (h' ≡ put_node h b (broken x (
      end_of x.log.batches,
      assign x.log.line h.registry.epoch (end_of x.log.batches),
      x.local,
    )))
LearnRow h b x other h' = ⊥

-- the partition after an acknowledgement, which leaves this registry: the broker knows the high watermark, as far as
-- its log goes
abbrev pub acked : SeenPartition → ℕ → Node → Registry → SeenPartition
acked h b x r =
    record (put_node h b (record x { known_high_watermark = min r.mark (end_of x.log.batches) })) { registry = r }

-- ack: the registry takes the broker's flushed end
abbrev pub AckRow : SeenPartition → ℕ → Node → Answer → SeenPartition → Type 0
AckRow h b x Down h' = (x.up ≡ false) × (h' ≡ h)
AckRow h b x NotJoined h' = (x.up ≡ true) × (acking x.role ≡ None) × (h' ≡ h)
AckRow h b x (StaleEpoch n) h' = (x.up ≡ true) × IsSomeAnd (acking x.role) (λ e.
    AtReplica h.registry b (λ s. Leaves h (after_ack h.registry b s e x.flushed_end (Err (Reg.StaleEpoch n))) h'))
AckRow h b x (OkAt mark) h' = (x.up ≡ true) × IsSomeAnd (acking x.role) (λ e.
    AtReplica h.registry b (λ s. IsSomeAnd (after_ack h.registry b s e x.flushed_end (Done mark))
    (λ r. h' ≡ acked h b x r)))
AckRow h b x other h' = ⊥

-- shrink
abbrev pub ShrinkRow : SeenPartition → ℕ → Answer → SeenPartition → Type 0
ShrinkRow h b NotInSync h' = AtReplica h.registry b (λ s. Leaves h (after_shrink h.registry b s (Err Reg.NotInSync)) h')
ShrinkRow h b IsLeader h' = AtReplica h.registry b (λ s. Leaves h (after_shrink h.registry b s (Err Reg.IsLeader)) h')
ShrinkRow h b Ok h' = AtReplica h.registry b (λ s. Leaves h (after_shrink h.registry b s (Done tt)) h')
ShrinkRow h b other h' = ⊥

-- expand
abbrev pub ExpandRow : SeenPartition → ℕ → Node → Answer → SeenPartition → Type 0
ExpandRow h b x DownBroker h' =
    AtReplica h.registry b (λ s. Leaves h (after_expand h.registry b s x.up (Err Reg.DownBroker)) h')
ExpandRow h b x (Behind ack mark) h' =
    AtReplica h.registry b (λ s. Leaves h (after_expand h.registry b s x.up (Err (Reg.Behind ack mark))) h')
ExpandRow h b x Ok h' = AtReplica h.registry b (λ s. Leaves h (after_expand h.registry b s x.up (Done tt)) h')
ExpandRow h b x other h' = ⊥

-- raise: the leader alone raises the log start offset
abbrev pub RaiseRow : SeenPartition → ℕ → Node → ℕ → Answer → SeenPartition → Type 0
RaiseRow h b x wanted Down h' = (x.up ≡ false) × (h' ≡ h)
RaiseRow h b x wanted NotLeader h' = (x.up ≡ true) × (leads x.role ≡ false) × (h' ≡ h)
RaiseRow h b x wanted (StaleEpoch n) h' =
    (x.up ≡ true) × ((e : ℕ) × (x.role ≡ LeadsIn e)
    × Leaves h (after_raise h.registry e wanted (Err (Reg.StaleEpoch n))) h')
RaiseRow h b x wanted (NotAbove start) h' =
    (x.up ≡ true) × ((e : ℕ) × (x.role ≡ LeadsIn e)
    × Leaves h (after_raise h.registry e wanted (Err (Reg.NotAbove start))) h')
RaiseRow h b x wanted (AboveMark mark) h' =
    (x.up ≡ true) × ((e : ℕ) × (x.role ≡ LeadsIn e)
    × Leaves h (after_raise h.registry e wanted (Err (Reg.AboveMark mark))) h')
RaiseRow h b x wanted (OkAt start) h' =
    (x.up ≡ true) × ((e : ℕ) × (x.role ≡ LeadsIn e) × Leaves h (after_raise h.registry e wanted (Done start)) h')
RaiseRow h b x wanted other h' = ⊥
