-- What the rows keep, and rows that change nothing, one broker or the registry.
use Rattle.std.proofs.Common.{◌≡◌, ◌∙◌, sym, subst, refl, ℕ, List, Some, Option, slice_get, Bool, true, false}
use Rattle.std.specs.Prelude.{option_map}
use mathlib.Core.List.{IsPrefix}
use Rattle.log_terms.proofs.Lists.{prefix_self}
use Rattle.registry.specs.Calls.{when}
use Rattle.plain_log.specs.declared.state.State.{State}
use Rattle.plain_log.specs.declared.state.Path.{Path}
use Rattle.plain_log.specs.declared.state.Broker.{Broker}
use Rattle.plain_log.specs.State.{put_broker, stopped, breaks}
use Rattle.plain_log.specs.Safe.{PlainSafe}
use Rattle.plain_log.proofs.Options.{when_some, map_some}
use Rattle.plain_log.proofs.Wider.{Wider, wider_self}
use Rattle.plain_log.proofs.Swaps.{Swap, put_safe, swap_stop}

-- what all rows keep but that of an unclean election: the safety rules, the actors, whether an election was unclean, and
-- but for their growth the paths and what is committed
pub record Keeps (p q : State) : Type 0 where
  pub safe : PlainSafe q
  pub actors : q.actors ≡ p.actors
  pub wider : Wider p.paths q.paths
  pub grows : IsPrefix p.committed q.committed
  pub clean : q.unclean ≡ p.unclean

-- what any row keeps, where `anew` reports whether it starts again what is committed
pub record RowGoes (anew : Bool) (p q : State) : Type 0 where
  pub safe : PlainSafe q
  pub actors : q.actors ≡ p.actors
  pub wider : Wider p.paths q.paths
  pub grows : anew ≡ false → IsPrefix p.committed q.committed
  pub clean : q.unclean ≡ false → (p.unclean ≡ false) × (anew ≡ false)

-- a row that keeps what is committed doesn't begin it again
pub row_goes : (p q : State) → Keeps p q → RowGoes false p q
row_goes p q k = record { safe = k.safe; actors = k.actors; wider = k.wider; grows = λ _. k.grows; clean = λ u. (sym k.clean ∙ u, refl) }

-- an effect that leaves what is committed
pub grown : (p q : State) → q.actors ≡ p.actors → q.committed ≡ p.committed → q.unclean ≡ p.unclean → Wider p.paths q.paths → PlainSafe q → Keeps p q
grown p q a c u w s = record {
  safe = s;
  actors = a;
  wider = w;
  grows = subst (λ (k : List (List ℕ)). IsPrefix p.committed k) (sym c) (prefix_self p.committed);
  clean = u;
}

-- and the paths
pub kept : (p q : State) → q.actors ≡ p.actors → q.committed ≡ p.committed → q.unclean ≡ p.unclean → q.paths ≡ p.paths → PlainSafe q → Keeps p q
kept p q a c u w s = grown p q a c u (subst (λ (k : List Path). Wider p.paths k) (sym w) (wider_self p.paths)) s

-- nothing changes
pub same : (p : State) → PlainSafe p → Keeps p p
same p s = kept p p refl refl refl refl s

-- a row that changes nothing
pub silent : (p q : State) (b : Bool) → when b p ≡ Some q → PlainSafe p → Keeps p q
silent p q b e s = subst (λ (k : State). Keeps p k) (when_some b p q e).1 (same p s)

-- a row that a test allows
pub by_when : (p r q : State) (b : Bool) → when b r ≡ Some q → (b ≡ true → Keeps p r) → Keeps p q
by_when p r q b e f = let w = when_some b r q e in subst (λ (k : State). Keeps p k) w.1 (f w.0)

-- a row that gives a broker
pub by_broker : (p q : State) (f : Broker → State) (o : Option Broker) → option_map f o ≡ Some q → ((y : Broker) → o ≡ Some y → Keeps p (f y)) → Keeps p q
by_broker p q f o e h = let w = map_some f o q e in subst (λ (k : State). Keeps p k) w.2 (h w.0 w.1)

-- one broker changes
pub broker_kept : (p : State) (b : ℕ) (x y : Broker) → slice_get p.brokers b ≡ Some x → Swap p x y → PlainSafe p → Keeps p (put_broker p b y)
broker_kept p b x y at w s = kept p (put_broker p b y) refl refl refl refl (put_safe p b x y at w s)

-- a broker breaks
pub breaks_kept : (p : State) (b : ℕ) (x : Broker) → slice_get p.brokers b ≡ Some x → PlainSafe p → Keeps p (breaks p b x)
breaks_kept p b x at s = broker_kept p b x (record (stopped x) { loose = true }) at (swap_stop p x true (s.brokers b x at)) s
