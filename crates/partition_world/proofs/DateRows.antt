-- What a timestamp lookup continues with, and its row in the local log and among the remote segments.
use Rattle.std.proofs.Common.{◌≡◌, inr, sym, refl, subst, ℕ, ◌<◌, ◌≤◌, max, List, [], length, Option, Some, Bool, true, false, slice_get}
use Rattle.std.specs.Prelude.{nat_lt, if◌then◌else◌, unwrap_or, IsSomeAnd}
use Rattle.std.proofs.lemmas.Bool.{ltb-false}
use Rattle.std.proofs.Math.Nat.{max-eq_right}
use Rattle.disk_model.specs.declared.disk.Disk.{Ghosts as DiskGhosts}
use Rattle.object_store.specs.declared.store.Store.{Ghosts as StoreGhosts}
use Rattle.meta_log.specs.declared.log.MetaLog.{Ghosts as MetaGhosts}
use Rattle.broker_log.specs.Seen.{LogState, line_in, LogStays, Quiet}
use Rattle.time_find.specs.declared.turn.Asked.{Asked}
use Rattle.time_find.specs.declared.turn.SearchStep.{SearchStep}
use Rattle.time_find.specs.declared.turn.SearchStep.TheVariants.{Seek}
use Rattle.time_find.specs.Turns.{IsSet}
use Rattle.partition_commands.specs.declared.partition_state.Node.{Node}
use Rattle.partition_commands.specs.declared.partition_state.PartitionState.{PartitionState}
use Rattle.partition_commands.specs.Partition.{AtNode, LogRests, KeepsPartition, line_of, put_node}
use Rattle.partition_world.specs.declared.tier.RemoteTier.{RemoteTier}
use Rattle.partition_world.specs.Tier.{AtBrokerTier}
use Rattle.partition_world.specs.TurnsOfDate.{resumed_at, resumed_with, SearchesOwn, SearchesRemote, WantsForDate, SearchRow}
use Rattle.partition_world.specs.Turns.{StaysOr}
use Rattle.partition_world.proofs.Dispatch.{some_more, there}
use Rattle.plain_log.specs.declared.turn.Turn.{Turn}

-- where a search is resumed, its piece still ends past the cursor
pub set_at : (start cursor : ℕ) (next : SearchStep) → IsSet cursor next → IsSet (resumed_at start cursor) (resumed_with start cursor next)
set_at start cursor next set = by (nat_lt cursor start) refl
  where
    by : (passed : Bool) → nat_lt cursor start ≡ passed → IsSet (max start cursor) (if passed then Seek else next)
    by true is = tt
    by false is =
        let low : start ≤ cursor = ltb-false cursor start is in
        let same : max start cursor ≡ cursor = max-eq_right low in
        subst (λ (n : ℕ). IsSet n next) (sym same) set

-- a broker's log that was read is as it was, where no call failed
pub log_stays : {D : Type 0} (disk : DiskGhosts D) (h : PartitionState D) (b : ℕ) (x : Node D) (kept : LogState D) → slice_get h.nodes b ≡ Some x
    → LogStays disk.content x.log kept → Quiet disk.control x.log kept
    → KeepsPartition disk.content disk.control h (put_node h b (record x { log = kept }))
log_stays {D} disk h b x kept at stays quiet =
    let after = put_node h b (record x { log = kept }) in
    inr (
      b,
      subst (λ (o : Option (Node D)). IsSomeAnd o (λ y. LogRests disk.content disk.control h b y after)) (sym at)
          (kept, stays, quiet, refl),
    )

module _ {D S M : Type 0} (disk : DiskGhosts D) (store : StoreGhosts S) (meta : MetaGhosts M) (h : PartitionState D) (t : RemoteTier S M) (b : ℕ)
    (asked : Asked) (cursor : ℕ) (next : SearchStep) where
  -- the row of a turn in the local log
  pub own_row : (own : Bool) (turn : Turn (ℕ × SearchStep)) (h' : PartitionState D) → own ≡ true → b < length t.broker_tiers
      → AtNode h b (λ x. SearchesOwn disk h b x asked cursor turn h')
      → AtNode h b (λ x. AtBrokerTier t b (λ broker_tier. SearchRow disk store meta h t b x broker_tier asked cursor next own turn h' t))
  own_row own turn h' is lt row =
      subst (λ (o : Bool). AtNode h b (λ x. AtBrokerTier t b (λ broker_tier. SearchRow disk store meta h t b x broker_tier asked cursor next o turn h' t)))
      (sym is) (some_more (λ x. SearchesOwn disk h b x asked cursor turn h')
      (λ x. AtBrokerTier t b (λ broker_tier. SearchRow disk store meta h t b x broker_tier asked cursor next true turn h' t)) (slice_get h.nodes b)
      (λ x w. there (λ broker_tier. SearchRow disk store meta h t b x broker_tier asked cursor next true turn h' t) t.broker_tiers b lt (λ broker_tier. (w, refl))) row)

  -- and of one among the remote segments, with the line of the broker's log
  pub remote_row : (x : Node D) (line : List (ℕ × ℕ)) (own : Bool) (turn : Turn (ℕ × SearchStep)) (t' : RemoteTier S M) → own ≡ false
      → slice_get h.nodes b ≡ Some x → Some line ≡ line_in x.log
      → AtBrokerTier t b (λ broker_tier. SearchesRemote store meta t b broker_tier line asked cursor next turn t')
      → AtNode h b (λ y. AtBrokerTier t b (λ broker_tier. SearchRow disk store meta h t b y broker_tier asked cursor next own turn h t'))
  remote_row x line own turn t' is at same row =
      let told : AtBrokerTier t b (λ broker_tier. SearchesRemote store meta t b broker_tier (unwrap_or (line_in x.log) []) asked cursor next turn t') =
      subst (λ (o : Option (List (ℕ × ℕ))). AtBrokerTier t b (λ broker_tier.
      SearchesRemote store meta t b broker_tier (unwrap_or o []) asked cursor next turn t')) same row in
      subst (λ (o : Bool). AtNode h b (λ y. AtBrokerTier t b (λ broker_tier. SearchRow disk store meta h t b y broker_tier asked cursor next o turn h t')))
      (sym is) (subst (λ (o : Option (Node D)). IsSomeAnd o (λ y. AtBrokerTier t b (λ broker_tier.
      SearchRow disk store meta h t b y broker_tier asked cursor next false turn h t'))) (sym at)
      (some_more (λ broker_tier. SearchesRemote store meta t b broker_tier (unwrap_or (line_in x.log) []) asked cursor next turn t')
      (λ broker_tier. SearchRow disk store meta h t b x broker_tier asked cursor next false turn h t') (slice_get t.broker_tiers b) (λ broker_tier w. (w, refl)) told))

  -- there was no memory among the remote segments
  pub remote_stays : (x : Node D) (line : List (ℕ × ℕ)) (t' : RemoteTier S M) → slice_get h.nodes b ≡ Some x → Some line ≡ line_in x.log
      → AtBrokerTier t b (λ broker_tier. WantsForDate store meta t b broker_tier line asked cursor next t')
      → StaysOr disk h t b (λ y broker_tier. WantsForDate store meta t b broker_tier (line_of y) asked cursor next t') h t'
  remote_stays x line t' at same wants =
      inr (
        refl,
        subst (λ (o : Option (Node D)). IsSomeAnd o (λ y. AtBrokerTier t b (λ broker_tier.
            WantsForDate store meta t b broker_tier (line_of y) asked cursor next t'))) (sym at)
            (subst (λ (o : Option (List (ℕ × ℕ))). AtBrokerTier t b (λ broker_tier.
            WantsForDate store meta t b broker_tier (unwrap_or o []) asked cursor next t')) same wants),
      )
