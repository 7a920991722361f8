-- What a row of the plain log does to brokers and to the log start offset.
use Rattle.log_terms.proofs.Lists.{and_then_some, get-set, length-slice_set, prefix_self}
use Rattle.log_terms.proofs.Logs.{in_up_to}
use Rattle.log_terms.specs.Log.{end_of, IsConsecutive}
use Rattle.plain_log.proofs.Ends.{is_end_ends, common_left}
use Rattle.plain_log.proofs.Options.{both, when_some, map_some}
use Rattle.plain_log.specs.Ends.{is_end}
use Rattle.plain_log.specs.RowsOfFollowers.{cut_to, extended, rebuilt}
use Rattle.plain_log.specs.Safe.{PlainSafe, HasOnPath, RoleSafe}
use Rattle.plain_log.specs.State.{breaks, put_broker, stopped, path_of, followed}
use Rattle.plain_log.specs.declared.state.Broker.{Broker}
use Rattle.plain_log.specs.declared.state.PlainSnapshot.{PlainSnapshot}
use Rattle.plain_log.specs.declared.state.Path.{Path}
use Rattle.plain_log.specs.declared.state.Role.{Role}
use Rattle.plain_log.specs.declared.state.Role.TheVariants.{Joined}
use Rattle.plain_log.specs.declared.state.State.{State}
use Rattle.registry.specs.Calls.{when}
use Rattle.std.proofs.Common.{◌≡◌, subst, refl, ℕ, ◌≤◌, Some, Option, slice_get, Bool, true, arith, inl, inr, ◌<◌, ◌+◌, List, length, ap, sym, ◌∙◌, slice_set}
use Rattle.std.proofs.lemmas.Bool.Decides.{nat_tests}
use Rattle.std.specs.Prelude.{nat_lt, option_map}
use mathlib.Core.List.{IsPrefix}
use Rattle.plain_log.specs.Grows.{BrokerGrows}

-- what a row does to brokers and to the log start offset
pub record RowGrows (p q : State) : Type 0 where
  pub start : p.registry.start ≤ q.registry.start
  pub count : length q.brokers ≡ length p.brokers
  pub brokers : (b : ℕ) (x y : Broker) → slice_get p.brokers b ≡ Some x → slice_get q.brokers b ≡ Some y → BrokerGrows p.paths x y

-- a broker with the same log, stops and role
pub like : (paths : List Path) (x y : Broker) → y.log ≡ x.log → y.stops ≡ x.stops → y.role ≡ x.role → BrokerGrows paths x y
like paths x y log stops role = record {
  stops = omega (arith, stops);
  log = inl (subst (λ (l : List (List ℕ)). IsPrefix x.log l) (sym log) (prefix_self x.log));
  leads = λ e _ is. inl (sym role ∙ is, subst (λ (l : List (List ℕ)). IsPrefix x.log l) (sym log) (prefix_self x.log));
}

-- one that has stopped
pub stopping : (paths : List Path) (x y : Broker) → y.log ≡ x.log → y.stops ≡ x.stops + 1 → BrokerGrows paths x y
stopping paths x y log stops = record {
  stops = omega (arith, stops);
  log = inl (subst (λ (l : List (List ℕ)). IsPrefix x.log l) (sym log) (prefix_self x.log));
  leads = λ e same is. absurd (omega (arith, stops, same));
}

pub none_grows : (p r : State) → r.brokers ≡ p.brokers → p.registry.start ≤ r.registry.start → RowGrows p r
none_grows p r same start = record {
  start = start;
  count = ap length same;
  brokers = λ b x y bx by. (let is : y ≡ x = cc (bx, by, same) in like p.paths x y (ap (λ (z : Broker). z.log) is) (ap (λ (z : Broker). z.stops) is) (ap (λ (z : Broker). z.role) is));
}

pub one_grows : (p r : State) (b : ℕ) (x y : Broker) → slice_get p.brokers b ≡ Some x → r.brokers ≡ slice_set p.brokers b y → p.registry.start ≤ r.registry.start
    → BrokerGrows p.paths x y → RowGrows p r
one_grows p r b x y at is start g = record {
  start = start;
  count = ap length is ∙ length-slice_set p.brokers b y;
  brokers = λ c v w cv cw. elim (get-set p.brokers b y c w (ap (λ (l : List Broker). slice_get l c) (sym is) ∙ cw)) [
    | inl here ↦
        let old : x ≡ v = cc (at, cv, here.0) in
        subst (λ (z : Broker). BrokerGrows p.paths v z) (sym here.1) (subst (λ (z : Broker). BrokerGrows p.paths z y) old g)
    | inr there ↦
        let same : w ≡ v = cc (cv, there.1) in
        like p.paths v w (ap (λ (z : Broker). z.log) same) (ap (λ (z : Broker). z.stops) same) (ap (λ (z : Broker). z.role) same)
  ];
}

pub put_grows : (p : State) (b : ℕ) (x y : Broker) → slice_get p.brokers b ≡ Some x → BrokerGrows p.paths x y → RowGrows p (put_broker p b y)
put_grows p b x y at g = one_grows p (put_broker p b y) b x y at refl (omega arith) g

pub broke : (p : State) (b : ℕ) (x : Broker) → slice_get p.brokers b ≡ Some x → RowGrows p (breaks p b x)
broke p b x at = put_grows p b x (record (stopped x) { loose = true }) at (stopping p.paths x (record (stopped x) { loose = true }) refl refl)

pub same : (p : State) → RowGrows p p
same p = none_grows p p refl (omega arith)

pub silent : (p q : State) (b : Bool) → when b p ≡ Some q → PlainSafe p → RowGrows p q
silent p q b e s = subst (λ (k : State). RowGrows p k) (when_some b p q e).1 (same p)

pub by_when : (p r q : State) (b : Bool) → when b r ≡ Some q → (b ≡ true → RowGrows p r) → RowGrows p q
by_when p r q b e f = let w = when_some b r q e in subst (λ (k : State). RowGrows p k) w.1 (f w.0)

pub by_broker : (p q : State) (f : Broker → State) (o : Option Broker) → option_map f o ≡ Some q → ((y : Broker) → o ≡ Some y → RowGrows p (f y)) → RowGrows p q
by_broker p q f o e h = let w = map_some f o q e in subst (λ (k : State). RowGrows p k) w.2 (h w.0 w.1)

-- a cut leaves a beginning, and a follower
pub cut_grows : (p : State) (x : Broker) (n : ℕ) (y : Broker) → cut_to p x n ≡ Some y → BrokerGrows p.paths x y
cut_grows p x n y is =
    let f = and_then_some _ (followed x.role) y is in
    let g = and_then_some _ (path_of p.paths f.0) y f.2 in
    let w = when_some _ _ y g.2 in
    subst (λ (z : Broker). BrokerGrows p.paths x z) w.1
    (record { stops = omega arith; log = inr (common_left x.log g.0); leads = λ e _ role. absurd (cc (role)) })

-- a follower's log that continues is the path up to n
pub record IsLonger (x y : Broker) (e : ℕ) : Type 0 where
  pub stops : y.stops ≡ x.stops
  pub role : y.role ≡ Joined e
  pub log : IsPrefix x.log y.log

as_longer : (p : State) (x : Broker) (n e : ℕ) (y : Broker) → extended p x n ≡ Some y → x.role ≡ Joined e → HasOnPath p.paths e x.log
    → ((f : ℕ) (l : List (List ℕ)) → path_of p.paths f ≡ Some l → IsConsecutive 0 l) → IsLonger x y e
as_longer p x n e y is role has paths =
    let f = and_then_some _ (followed x.role) y is in
    let g = and_then_some _ (path_of p.paths f.0) y f.2 in
    let w = when_some _ _ y g.2 in
    let t = both (is_end n g.0) (nat_lt (end_of x.log) n) w.0 in
    let one : f.0 ≡ e = cc (f.1, role) in
    let path : has.0 ≡ g.0 = cc (has.1, g.1, one) in
    let pre : IsPrefix x.log g.0 = subst (λ (l : List (List ℕ)). IsPrefix x.log l) path has.2 in
    let low : end_of x.log < n = grind (arith, nat_tests, t.1) in
    subst (λ (z : Broker). IsLonger x z e) w.1 (record {
      stops = refl;
      role = role;
      log = in_up_to n x.log g.0 (paths f.0 g.0 g.1) pre (is_end_ends n g.0 t.0) (omega (arith, low));
    })

joined_has : (paths : List Path) (epoch : ℕ) (r : Role) (e : ℕ) (log : List (List ℕ)) → r ≡ Joined e → RoleSafe paths epoch r log → HasOnPath paths e log
joined_has paths epoch r e log is h = (subst (λ (k : Role). RoleSafe paths epoch k log) is h).1

pub extended_is : (p : State) (b : ℕ) (x : Broker) (e n : ℕ) (y : Broker) → slice_get p.brokers b ≡ Some x → x.role ≡ Joined e → extended p x n ≡ Some y → PlainSafe p → IsLonger x y e
extended_is p b x e n y at role is s =
    as_longer p x n e y is role (joined_has p.paths p.registry.epoch x.role e x.log role (s.brokers b x at).role) (λ f l h. (s.paths f l h).log_safe.consecutive)

-- a log restarted
pub rebuilt_is : (p : State) (b : ℕ) (x : Broker) (recorded : PlainSnapshot) (e n : ℕ) (y : Broker) → slice_get p.brokers b ≡ Some x → x.role ≡ Joined e
    → rebuilt p x recorded n ≡ Some y → PlainSafe p → IsLonger x y e
rebuilt_is p b x recorded e n y at role is s =
    let f = and_then_some _ (extended p x n) y is in
    let w = when_some _ _ y f.2 in
    extended_is p b x e n y at role (f.1 ∙ ap Some w.1) s
