-- A fresh world's desk.
use Rattle.std.proofs.Common.{◌≡◌, ◌∙◌, sym, ap, subst, refl, ℕ, zero, suc, ◌≤◌, List, [], ◌∷◌, length, Some, slice_get, arith}
use Rattle.std.specs.Prelude.{replicate}
use Rattle.plain_log.specs.declared.command.ActorList.{ActorList}
use Rattle.laws_partition.specs.Fresh.{fresh_actor_state as seen_fresh}
use Rattle.laws_partition.specs.Sound.{turns_left}
use Rattle.laws_partition.proofs.FreshSound.{length_replicate}
use Rattle.laws_partition.proofs.Lists.{turns_all}
use Rattle.partition_world.specs.declared.actor_state.ActorState.{ActorState}
use Rattle.partition_world.specs.Fresh.{fresh_actor_state, fresh_broker_tier}
use Rattle.partition_world.specs.ActorStates.{desk_seen}
use Rattle.partition_world.specs.Sound.{AreInProgress, IsProgressOf, AreCounted, waiting}
use Rattle.plain_log.specs.declared.command.Config.{Config}
use Rattle.plain_log.specs.Orders.{AreListsFor}
use Rattle.partition_commands.specs.declared.partition_state.PartitionState.{PartitionState}
use Rattle.partition_commands.specs.Stopping.{HaveStopped}
use Rattle.partition_world.specs.declared.tier.BrokerTierState.{BrokerTierState}
use Rattle.partition_world.proofs.Rooms.{most_entries}
use Rattle.partition_world.proofs.WorksInProgress.{idle_for}

pub all_fresh : (n : ℕ) → desk_seen (replicate n fresh_actor_state) ≡ replicate n seen_fresh
all_fresh zero = refl
all_fresh (suc n) = ap (λ l. seen_fresh ∷ l) (all_fresh n)

pub fresh_actor_states : (lists : List ActorList) (n : ℕ) (desk : List ActorState) → n ≡ length lists → desk ≡ replicate n fresh_actor_state → length desk ≡ length lists
fresh_actor_states lists n desk many is = ap (λ (k : List ActorState). length k) is ∙ (length_replicate n fresh_actor_state ∙ many)

pub fresh_left : (lists : List ActorList) (n : ℕ) (desk : List ActorState) → desk ≡ replicate n fresh_actor_state → turns_left lists (desk_seen desk) ≡ turns_left lists []
fresh_left lists n desk is = ap (λ (k : List ActorState). turns_left lists (desk_seen k)) is ∙ (ap (λ k. turns_left lists k) (all_fresh n) ∙ turns_all lists n)

-- what is in a list of one thing alone is that
replicated : {A : Type 0} (n : ℕ) (x : A) (i : ℕ) (y : A) → slice_get (replicate n x) i ≡ Some y → x ≡ y
replicated zero x i y e = absurd cc
replicated (suc n) x zero y e = cc
replicated (suc n) x (suc i) y e = replicated n x i y e

pub fresh_in_progress : (lists : List ActorList) (n : ℕ) (desk : List ActorState) → desk ≡ replicate n fresh_actor_state → AreInProgress lists desk
fresh_in_progress lists n desk is = λ i l actor_state order at to next.
    let same : fresh_actor_state ≡ actor_state = replicated n fresh_actor_state i actor_state (ap (λ (k : List ActorState). slice_get k i) (sym is) ∙ to) in
    subst (λ (s : ActorState). IsProgressOf order.command s.in_progress) same (idle_for order.command)

-- no actor's state waits, and no broker has tried a copy
none_wait : (n : ℕ) → waiting (replicate n fresh_actor_state) ≡ 0
none_wait zero = refl
none_wait (suc n) = let h = none_wait n in omega (arith, h)

pub fresh_counted : {D : Type 0} (config : Config) (lists : List ActorList) (h : PartitionState D) (broker_tiers : List BrokerTierState) (desk : List ActorState) (entered n brokers : ℕ) → AreListsFor config lists → HaveStopped 0 h.nodes
    → broker_tiers ≡ replicate brokers fresh_broker_tier → desk ≡ replicate n fresh_actor_state → entered ≡ 0 → AreCounted lists h broker_tiers desk entered
fresh_counted config lists h broker_tiers desk entered n brokers fit stops broker_tiers_are is none =
    let most = most_entries config lists fit in
    let left = fresh_left lists n desk is in
    let wait = ap waiting is ∙ none_wait n in
    record {
      few = omega (arith, most, left, none);
      stopped = λ b x at. (let le = stops b x at in omega (arith, le));
      tried = (0, λ b broker_tier at. (let same : fresh_broker_tier ≡ broker_tier = replicated brokers fresh_broker_tier b broker_tier (ap (λ (k : List BrokerTierState). slice_get k b) (sym broker_tiers_are) ∙ at) in omega (arith, ap (λ (k : BrokerTierState). k.attempt) same)), omega (arith, wait, none));
    }
