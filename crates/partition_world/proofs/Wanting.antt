-- What an actor's next turn wants.
use Rattle.std.proofs.Common.{◌≡◌, ◌∙◌, sym, ap, subst, refl, ℕ, ◌≤◌, length, slice_get, Some, arith}
use Rattle.log_terms.proofs.Lists.{within}
use Rattle.plain_log.specs.declared.command.ActorList.{ActorList}
use Rattle.plain_log.specs.declared.command.Order.{Order}
use Rattle.plain_log.specs.Orders.{AreRising}
use Rattle.laws_partition.proofs.Lists.{one_list}
use Rattle.partition_world.specs.declared.ready.Want.{Want}
use Rattle.partition_world.specs.declared.ready.Want.TheVariants as want
use Rattle.partition_world.specs.declared.actor_state.ActorState.{ActorState}
use Rattle.partition_world.specs.Ready.{IsWantOf, IsWanted}
use Rattle.partition_world.specs.Turn.{IsActorAt}
use Rattle.partition_world.specs.Whole.{Whole}

module _ {D S M : Type 0} (w : Whole D S M) (a place : ℕ) (l : ActorList) (actor_state : ActorState) (r : AreRising w.lists) (s : IsActorAt w a place l actor_state) where
  -- nothing, at the end of its list
  pub wanted_none : length l.orders ≤ actor_state.number → IsWanted w a want.Nothing
  wanted_none le = record {
    next = λ place2 l2 actor_state2 order2 n.
        let same : place2 ≡ place = one_list w.lists place2 place l2 l r n.at.list s.list (n.at.actor ∙ sym s.actor) in
        let one : l2 ≡ l = cc (n.at.list, s.list, ap (λ (k : ℕ). slice_get w.lists k) same) in
        let two : actor_state2 ≡ actor_state = cc (n.at.actor_state_is, s.actor_state_is, ap (λ (k : ℕ). slice_get w.desk k) same) in
        let up = within l2.orders actor_state2.number order2 n.next in
        absurd (omega (arith, le, up, ap (λ (k : ActorList). length k.orders) one, ap (λ (k : ActorState). k.number) two));
    none = λ e. refl;
  }

  -- what its order wants
  pub wanted_next : (order : Order) (wanted : Want) → slice_get l.orders actor_state.number ≡ Some order → IsWantOf order.command actor_state.in_progress wanted → IsWanted w a wanted
  wanted_next order wanted at is = record {
    next = λ place2 l2 actor_state2 order2 n.
        let same : place2 ≡ place = one_list w.lists place2 place l2 l r n.at.list s.list (n.at.actor ∙ sym s.actor) in
        let one : l ≡ l2 = cc (n.at.list, s.list, ap (λ (k : ℕ). slice_get w.lists k) same) in
        let two : actor_state ≡ actor_state2 = cc (n.at.actor_state_is, s.actor_state_is, ap (λ (k : ℕ). slice_get w.desk k) same) in
        let three : order ≡ order2 = cc (at, n.next, ap (λ (k : ActorList). k.orders) one, ap (λ (k : ActorState). k.number) two) in
        subst (λ (o : Order). IsWantOf o.command actor_state2.in_progress wanted) three (subst (λ (k : ActorState). IsWantOf order.command k.in_progress wanted) two is);
    none = λ e. (let up = within l.orders actor_state.number order at in absurd (omega (arith, up, e place l actor_state s)));
  }
