-- Lists of orders whose actors rise, and the desk beside them.
use Rattle.std.proofs.Common.{◌≡◌, ◌≢◌, ◌⊎◌, inl, inr, ◌∙◌, sym, ap, subst, refl, ℕ, zero, suc, ◌+◌, ◌<◌, ◌≤◌, ◌==◌, List, [], ◌∷◌, length, get_or, slice_get, slice_set, Some, Option, IsSomeAnd, Bool, true, false, arith}
use Rattle.std.proofs.lemmas.Bool.Decides.{nat_tests}
use Rattle.std.proofs.lemmas.Option.{slice_get-get_or}
use Rattle.std.specs.Prelude.{is_some, ◌*◌, ◌-◌, if◌then◌else◌, replicate, None}
use Rattle.plain_log.specs.declared.command.ActorList.{ActorList}
use Rattle.plain_log.specs.declared.command.Order.{Order}
use Rattle.plain_log.specs.Orders.{AreRising}
use Rattle.plain_log.specs.Runs.{orders_of}
use Rattle.laws_partition.specs.declared.actor_progress.ActorProgress.{ActorProgress}
use Rattle.laws_partition.specs.declared.start_snapshot.StartSnapshot.{StartSnapshot}
use Rattle.laws_partition.specs.declared.start_snapshot.Turned.{Turned}
use Rattle.laws_partition.specs.declared.start_snapshot.Turned.TheVariants.{Answers, Begins}
use Rattle.laws_partition.specs.Fresh.{fresh_actor_state}
use Rattle.laws_partition.specs.Sound.{turns_of, turns_left}
use Rattle.laws_partition.specs.Turn.{actor_state_after}

rising_rest : (l : ActorList) (lists : List ActorList) → AreRising (l ∷ lists) → AreRising lists
rising_rest l [] r = tt
rising_rest l (m ∷ lists) r = r.1

-- a later list is of a later actor
rising_above : (l : ActorList) (lists : List ActorList) (i : ℕ) (m : ActorList) → AreRising (l ∷ lists) → slice_get lists i ≡ Some m → l.actor.0 < m.actor.0
rising_above l [] i m r at = absurd cc
rising_above l (k ∷ lists) zero m r at = let same : k ≡ m = cc in omega (arith, r.0, ap (λ (t : ActorList). t.actor.0) same)
rising_above l (k ∷ lists) (suc i) m r at = let h = rising_above k lists i m r.1 at in omega (arith, r.0, h)

-- one actor has one list
pub one_list : (lists : List ActorList) (i j : ℕ) (l m : ActorList) → AreRising lists → slice_get lists i ≡ Some l → slice_get lists j ≡ Some m → l.actor.0 ≡ m.actor.0 → i ≡ j
one_list [] i j l m r at to same = absurd cc
one_list (k ∷ lists) zero zero l m r at to same = refl
one_list (k ∷ lists) zero (suc j) l m r at to same =
    let first : k ≡ l = cc in
    let h = rising_above k lists j m r to in
    absurd (omega (arith, h, same, ap (λ (t : ActorList). t.actor.0) first))
one_list (k ∷ lists) (suc i) zero l m r at to same =
    let first : k ≡ m = cc in
    let h = rising_above k lists i l r at in
    absurd (omega (arith, h, same, ap (λ (t : ActorList). t.actor.0) first))
one_list (k ∷ lists) (suc i) (suc j) l m r at to same = ap suc (one_list lists i j l m (rising_rest k lists r) at to same)

-- the orders of an actor are those of its list
pub orders_at : (lists : List ActorList) (i : ℕ) (l : ActorList) → AreRising lists → slice_get lists i ≡ Some l → orders_of lists l.actor.0 ≡ l.orders
orders_at [] i l r at = absurd cc
orders_at (k ∷ lists) zero l r at = let first : k ≡ l = cc in go (k.actor.0 == l.actor.0) refl first
  where
    go : (t : Bool) → (k.actor.0 == l.actor.0) ≡ t → k ≡ l → orders_of (k ∷ lists) l.actor.0 ≡ l.orders
    go true t first = rw t (ap (λ (m : ActorList). m.orders) first)
    go false t first = absurd (let ne : k.actor.0 ≢ l.actor.0 = grind (arith, nat_tests, t) in ne (ap (λ (m : ActorList). m.actor.0) first))
orders_at (k ∷ lists) (suc i) l r at = go (k.actor.0 == l.actor.0) refl (orders_at lists i l (rising_rest k lists r) at) (rising_above k lists i l r at)
  where
    go : (t : Bool) → (k.actor.0 == l.actor.0) ≡ t → orders_of lists l.actor.0 ≡ l.orders → k.actor.0 < l.actor.0 → orders_of (k ∷ lists) l.actor.0 ≡ l.orders
    go true t h lt = absurd (let is : k.actor.0 ≡ l.actor.0 = grind (arith, nat_tests, t) in omega (arith, is, lt))
    go false t h lt = rw t h

-- an actor has a list or no orders
pub list_or_none : (lists : List ActorList) (a : ℕ) → ((i : ℕ) × (l : ActorList) × (slice_get lists i ≡ Some l) × (l.actor.0 ≡ a)) ⊎ (orders_of lists a ≡ [])
list_or_none [] a = inr refl
list_or_none (k ∷ lists) a = go (k.actor.0 == a) refl (list_or_none lists a)
  where
    go : (t : Bool) → (k.actor.0 == a) ≡ t → ((i : ℕ) × (l : ActorList) × (slice_get lists i ≡ Some l) × (l.actor.0 ≡ a)) ⊎ (orders_of lists a ≡ [])
        → ((i : ℕ) × (l : ActorList) × (slice_get (k ∷ lists) i ≡ Some l) × (l.actor.0 ≡ a)) ⊎ (orders_of (k ∷ lists) a ≡ [])
    go true t h = inl (0, k, refl, grind (arith, nat_tests, t))
    go false t (inl h) = inl (suc h.0, h.1, h.2, h.3)
    go false t (inr h) = inr (rw t h)

-- the actor's state may take such a turn: none begins that has begun
abbrev pub MayTurn : ActorProgress → Turned → Type 0
MayTurn actor_state (Answers answer) = Unit {0}
MayTurn actor_state (Begins g) = actor_state.snapshot ≡ None

-- the turns that are left

of_some : (orders : List Order) (actor_state : ActorProgress) → actor_state.number < length orders → 0 < turns_of orders actor_state
of_some orders actor_state lt = go (is_some actor_state.snapshot)
  where
    go : (t : Bool) → 0 < 2 * (length orders - actor_state.number) - (if t then 1 else 0)
    go true = omega (arith, lt)
    go false = omega (arith, lt)

of_begun : (orders : List Order) (number : ℕ) (o : Option StartSnapshot) (g : StartSnapshot) → number < length orders → o ≡ None
    → turns_of orders (record { number = number; snapshot = Some g }) + 1 ≤ turns_of orders (record { number = number; snapshot = o })
of_begun orders number None g lt none = omega (arith, lt)
of_begun orders number (Some k) g lt none = absurd cc

of_less : (orders : List Order) (actor_state : ActorProgress) (turned : Turned) → actor_state.number < length orders → MayTurn actor_state turned → turns_of orders (actor_state_after actor_state turned) + 1 ≤ turns_of orders actor_state
of_less orders actor_state (Answers answer) lt may = go (is_some actor_state.snapshot)
  where
    go : (t : Bool) → (2 * (length orders - (actor_state.number + 1)) - 0) + 1 ≤ 2 * (length orders - actor_state.number) - (if t then 1 else 0)
    go true = omega (arith, lt)
    go false = omega (arith, lt)
of_less orders actor_state (Begins g) lt may = of_begun orders actor_state.number actor_state.snapshot g lt may

-- a turn that is left is counted
pub turns_some : (lists : List ActorList) (desk : List ActorProgress) (i : ℕ) (l : ActorList) (actor_state : ActorProgress) → slice_get lists i ≡ Some l → slice_get desk i ≡ Some actor_state
    → actor_state.number < length l.orders → 0 < turns_left lists desk
turns_some [] desk i l actor_state at to lt = absurd cc
turns_some (k ∷ lists) [] i l actor_state at to lt = absurd cc
turns_some (k ∷ lists) (s ∷ desk) zero l actor_state at to lt =
    let one : k ≡ l = cc in
    let two : s ≡ actor_state = cc in
    let h = of_some k.orders s (omega (arith, lt, ap (λ (t : ActorList). length t.orders) one, ap (λ (t : ActorProgress). t.number) two)) in
    omega (arith, h)
turns_some (k ∷ lists) (s ∷ desk) (suc i) l actor_state at to lt = let h = turns_some lists desk i l actor_state at to lt in omega (arith, h)

-- an actor's state after a turn leaves a turn less
pub turns_less : (lists : List ActorList) (desk : List ActorProgress) (i : ℕ) (l : ActorList) (actor_state : ActorProgress) (turned : Turned) → slice_get lists i ≡ Some l → slice_get desk i ≡ Some actor_state
    → actor_state.number < length l.orders → MayTurn actor_state turned → turns_left lists (slice_set desk i (actor_state_after actor_state turned)) + 1 ≤ turns_left lists desk
turns_less [] desk i l actor_state turned at to lt may = absurd cc
turns_less (k ∷ lists) [] i l actor_state turned at to lt may = absurd cc
turns_less (k ∷ lists) (s ∷ desk) zero l actor_state turned at to lt may =
    let one : l ≡ k = cc in
    let two : s ≡ actor_state = cc in
    let less = of_less k.orders actor_state turned (omega (arith, lt, ap (λ (t : ActorList). length t.orders) one)) may in
    omega (arith, less, ap (λ (t : ActorProgress). turns_of k.orders t) two)
turns_less (k ∷ lists) (s ∷ desk) (suc i) l actor_state turned at to lt may = let h = turns_less lists desk i l actor_state turned at to lt may in omega (arith, h)

-- where no list has begun, all turns are left
pub turns_all : (lists : List ActorList) (n : ℕ) → turns_left lists (replicate n fresh_actor_state) ≡ turns_left lists []
turns_all [] n = refl
turns_all (k ∷ lists) zero = refl
turns_all (k ∷ lists) (suc n) = let rest = turns_all lists n in omega (arith, rest)

-- what holds of what is at a place holds of what is read there
pub some_at : {A : Type 0} (P : A → Type 0) (xs : List A) (i : ℕ) (x : A) → IsSomeAnd (slice_get xs i) P → slice_get xs i ≡ Some x → P x
some_at {A} P xs i x w at = subst (λ (o : Option A). IsSomeAnd o P) at w

-- what an index gives is at its place
pub got : {A : Type 0} (xs : List A) (i : ℕ) (x : A) → i < length xs → x ≡ get_or xs i x → slice_get xs i ≡ Some x
got xs i x lt is = slice_get-get_or xs i x lt ∙ ap Some (sym is)
