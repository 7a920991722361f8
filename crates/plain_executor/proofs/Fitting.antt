-- Lists whose commands a machine takes.
use Rattle.std.proofs.Common.{◌≡◌, refl, subst, suc, ◌==◌, List, [], ◌∷◌, Bool, true, false, Some, arith}
use Rattle.std.specs.Prelude.{All, slice_get, if◌then◌else◌}
use Rattle.plain_log.specs.declared.command.ActorList.{ActorList}
use Rattle.plain_log.specs.declared.command.Order.{Order}
use Rattle.plain_log.specs.Runs.{orders_of}
use Rattle.std.proofs.lemmas.Option.{slice_get_within, get_or_from_slice_get}
use Rattle.plain_executor.specs.Fits.{IsBuildableAppend, AreFor}

-- the machine takes each order of a list
abbrev pub IsListFor : ActorList → Type 0
IsListFor l = All (λ (order : Order). IsBuildableAppend order.command) l.orders

-- so does it those of lists
pub lists_for : (lists : List ActorList) → All IsListFor lists → AreFor lists
lists_for [] h a n order get = absurd cc
lists_for (l ∷ lists) h a n order get =
    go (λ g. lists_for lists (λ k d below. h (suc k) d (omega (arith, below))) a n order g) (l.actor.0 == a) refl
  where
    go : (slice_get (orders_of lists a) n ≡ Some order → IsBuildableAppend order.command) → (t : Bool) → (l.actor.0 == a) ≡ t → IsBuildableAppend order.command
    go rest true t =
        let own = subst (λ (k : Bool). slice_get (if k then l.orders else orders_of lists a) n ≡ Some order) t get in
        let each : IsListFor l = h 0 l (omega arith) in
        subst (λ (o : Order). IsBuildableAppend o.command) (get_or_from_slice_get l.orders n order order own) (each n order (slice_get_within l.orders n order own))
    go rest false t = rest (subst (λ (k : Bool). slice_get (if k then l.orders else orders_of lists a) n ≡ Some order) t get)
