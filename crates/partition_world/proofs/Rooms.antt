-- The lists that a world runs have fewer entries than a machine's word counts: at most 64 actors, each with fewer than 2^32 orders.
use Rattle.std.proofs.Common.{◌≡◌, subst, refl, ℕ, suc, ◌+◌, ◌*◌, ◌<◌, ◌≤◌, ◌^◌, List, [], ◌∷◌, length, slice_get, Some, arith}
use Rattle.std.specs.Prelude.{All}
use Rattle.std.proofs.lemmas.Option.{slice_get_within, get_or_from_slice_get}
use Rattle.plain_log.specs.declared.command.ActorList.{ActorList}
use Rattle.plain_log.specs.declared.command.Config.{Config}
use Rattle.plain_log.specs.Orders.{AreRising, AreListsFor, IsListFor}
use Rattle.laws_partition.specs.Sound.{turns_left}

-- what holds of all holds of the one at a place
all_at : {A : Type 0} (P : A → Type 0) (xs : List A) (i : ℕ) (x : A) → All P xs → slice_get xs i ≡ Some x → P x
all_at P xs i x h at = subst P (get_or_from_slice_get xs i x x at) (h i x (slice_get_within xs i x at))

-- the first list is of such an actor or a later one
abbrev Begins : ℕ → List ActorList → Type 0
Begins low [] = Unit {0}
Begins low (l ∷ lists) = low ≤ l.actor.0

-- each list is of one of 64 actors, and has fewer than 2^32 orders
abbrev AreFew : List ActorList → Type 0
AreFew lists = (i : ℕ) (l : ActorList) → slice_get lists i ≡ Some l → (l.actor.0 < 64) × (length l.orders < 4294967296)

-- lists from an actor on have two entries an order at most
left_from : (lists : List ActorList) (low : ℕ) → low ≤ 64 → AreRising lists → Begins low lists → AreFew lists → turns_left lists [] + low * 8589934592 ≤ 549755813888
left_from [] low le rising begins few = omega (arith, le)
left_from (l ∷ []) low le rising begins few =
    let one = few 0 l refl in
    let lt = one.0 in
    let less = one.1 in
    omega (arith, begins, lt, less)
left_from (l ∷ m ∷ lists) low le rising begins few =
    let one = few 0 l refl in
    let lt = one.0 in
    let less = one.1 in
    let next = rising.0 in
    let h = left_from (m ∷ lists) (l.actor.0 + 1) (omega (arith, lt)) rising.1 (omega (arith, next)) (λ i k at. few (suc i) k at) in
    omega (arith, begins, less, h)

begins_low : (lists : List ActorList) → Begins 0 lists
begins_low [] = tt
begins_low (l ∷ lists) = omega arith

are_few : (config : Config) (lists : List ActorList) → AreListsFor config lists → AreFew lists
are_few config lists fit i l at =
    let one = all_at (IsListFor config) lists i l fit.each at in
    let lt = one.actor in
    let less = one.few in
    (lt, omega (arith, less))

pub most_entries : (config : Config) (lists : List ActorList) → AreListsFor config lists → turns_left lists [] ≤ 549755813888
most_entries config lists fit =
    let most = left_from lists 0 (omega arith) fit.rising (begins_low lists) (are_few config lists fit) in
    omega (arith, most)

pub few_entries : (config : Config) (lists : List ActorList) → AreListsFor config lists → turns_left lists [] < 2 ^ 64
few_entries config lists fit = let most = most_entries config lists fit in omega (arith, most)
