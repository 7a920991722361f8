-- Places in lists: of nodes, tier states and tier views that are one beside another.
use Rattle.std.proofs.Common.{◌≡◌, ◌≢◌, ◌≤◌, ap, refl, ℕ, zero, suc, List, [], ◌∷◌, length, Some, slice_get, slice_set, arith}
use Rattle.std.specs.Prelude.{map}
use Rattle.laws_partition.specs.Seen.{Node}
use Rattle.tier_safe.specs.Scene.{BrokerTierView}
use Rattle.laws_tier_turns.specs.BrokerTiers.{BrokerTierModel, tier_view_of, tier_views_of}

-- what is at a place is one
pub one_at : {A : Type 0} (xs : List A) (i : ℕ) (x y : A) → slice_get xs i ≡ Some x → slice_get xs i ≡ Some y → x ≡ y
one_at xs i x y at to = cc (at, to)

-- what was written is there
pub set_get : {A : Type 0} (xs : List A) (i : ℕ) (x y : A) → slice_get xs i ≡ Some x → slice_get (slice_set xs i y) i ≡ Some y
set_get [] i x y at = absurd cc
set_get (z ∷ xs) zero x y at = refl
set_get (z ∷ xs) (suc i) x y at = set_get xs i x y at

-- the other places keep what they have
pub set_other : {A : Type 0} (xs : List A) (i j : ℕ) (y : A) → i ≢ j → slice_get (slice_set xs i y) j ≡ slice_get xs j
set_other [] i j y ne = refl
set_other (z ∷ xs) zero zero y ne = absurd (ne refl)
set_other (z ∷ xs) zero (suc j) y ne = refl
set_other (z ∷ xs) (suc i) zero y ne = refl
set_other (z ∷ xs) (suc i) (suc j) y ne = set_other xs i j y (λ e. ne (ap suc e))

-- the later of two writes stays
pub set_set : {A : Type 0} (xs : List A) (i : ℕ) (x y : A) → slice_set (slice_set xs i x) i y ≡ slice_set xs i y
set_set [] i x y = refl
set_set (z ∷ xs) zero x y = refl
set_set (z ∷ xs) (suc i) x y = ap (λ ws. z ∷ ws) (set_set xs i x y)

-- what a map makes of a list's items
pub map_at : {A B : Type 0} (f : A → B) (xs : List A) (i : ℕ) (y : B) → slice_get (map f xs) i ≡ Some y → (x : A) × (slice_get xs i ≡ Some x) × (y ≡ f x)
map_at f [] i y at = absurd cc
map_at f (x ∷ xs) zero y at = (x, refl, cc (at))
map_at f (x ∷ xs) (suc i) y at = map_at f xs i y at

pub map_has : {A B : Type 0} (f : A → B) (xs : List A) (i : ℕ) (x : A) → slice_get xs i ≡ Some x → slice_get (map f xs) i ≡ Some (f x)
map_has f [] i x at = absurd cc
map_has f (z ∷ xs) zero x at = ap (λ o. Some (f o)) (cc (at))
map_has f (z ∷ xs) (suc i) x at = map_has f xs i x at

pub map_set : {A B : Type 0} (f : A → B) (xs : List A) (i : ℕ) (x : A) → map f (slice_set xs i x) ≡ slice_set (map f xs) i (f x)
map_set f [] i x = refl
map_set f (y ∷ xs) zero x = refl
map_set f (y ∷ xs) (suc i) x = ap (λ t. f y ∷ t) (map_set f xs i x)

-- a list that is as long, or longer, has something at each place of the other
pub beside : {A B : Type 0} (xs : List A) (ys : List B) (i : ℕ) (x : A) → length xs ≤ length ys → slice_get xs i ≡ Some x → (y : B) × (slice_get ys i ≡ Some y)
beside [] ys i x count at = absurd cc
beside (z ∷ xs) [] i x count at = absurd (omega (arith, count))
beside (z ∷ xs) (y ∷ ys) zero x count at = (y, refl)
beside (z ∷ xs) (y ∷ ys) (suc i) x count at = beside xs ys i x (omega (arith, count)) at

-- each tier view is that of a node and of a tier state
pub record IsBrokerTierAt (nodes : List Node) (broker_tiers : List BrokerTierModel) (b : ℕ) (tier_view : BrokerTierView) : Type 0 where
  pub node : Node
  pub node_at : slice_get nodes b ≡ Some node
  pub broker_tier : BrokerTierModel
  pub broker_tier_at : slice_get broker_tiers b ≡ Some broker_tier
  pub is : tier_view ≡ tier_view_of node broker_tier

pub tier_view_at : (nodes : List Node) (broker_tiers : List BrokerTierModel) (b : ℕ) (tier_view : BrokerTierView) → slice_get (tier_views_of nodes broker_tiers) b ≡ Some tier_view → IsBrokerTierAt nodes broker_tiers b tier_view
tier_view_at [] broker_tiers b tier_view at = absurd cc
tier_view_at (x ∷ nodes) [] b tier_view at = absurd cc
tier_view_at (x ∷ nodes) (broker_tier ∷ broker_tiers) zero tier_view at = record { node = x; node_at = refl; broker_tier = broker_tier; broker_tier_at = refl; is = cc (at) }
tier_view_at (x ∷ nodes) (broker_tier ∷ broker_tiers) (suc b) tier_view at =
    let k = tier_view_at nodes broker_tiers b tier_view at in
    record { node = k.node; node_at = k.node_at; broker_tier = k.broker_tier; broker_tier_at = k.broker_tier_at; is = k.is }

pub tier_view_has : (nodes : List Node) (broker_tiers : List BrokerTierModel) (b : ℕ) (x : Node) (broker_tier : BrokerTierModel) → slice_get nodes b ≡ Some x → slice_get broker_tiers b ≡ Some broker_tier
    → slice_get (tier_views_of nodes broker_tiers) b ≡ Some (tier_view_of x broker_tier)
tier_view_has [] broker_tiers b x broker_tier at beside = absurd cc
tier_view_has (z ∷ nodes) [] b x broker_tier at beside = absurd cc
tier_view_has (z ∷ nodes) (w ∷ broker_tiers) zero x broker_tier at beside =
    let one : z ≡ x = cc (at) in
    let two : w ≡ broker_tier = cc (beside) in
    rw (one, two) refl
tier_view_has (z ∷ nodes) (w ∷ broker_tiers) (suc b) x broker_tier at beside = tier_view_has nodes broker_tiers b x broker_tier at beside

-- a node's tier view is written with it
pub tier_views_set : (nodes : List Node) (broker_tiers : List BrokerTierModel) (b : ℕ) (y : Node) (broker_tier : BrokerTierModel) → slice_get broker_tiers b ≡ Some broker_tier
    → tier_views_of (slice_set nodes b y) broker_tiers ≡ slice_set (tier_views_of nodes broker_tiers) b (tier_view_of y broker_tier)
tier_views_set [] broker_tiers b y broker_tier at = refl
tier_views_set (z ∷ nodes) [] b y broker_tier at = absurd cc
tier_views_set (z ∷ nodes) (w ∷ broker_tiers) zero y broker_tier at =
    let one : w ≡ broker_tier = cc (at) in
    ap (λ (s : BrokerTierModel). tier_view_of y s ∷ tier_views_of nodes broker_tiers) one
tier_views_set (z ∷ nodes) (w ∷ broker_tiers) (suc b) y broker_tier at = ap (λ (ss : List BrokerTierView). tier_view_of z w ∷ ss) (tier_views_set nodes broker_tiers b y broker_tier at)

-- there are as many tier views as nodes
pub tier_views_count : (nodes : List Node) (broker_tiers : List BrokerTierModel) → length nodes ≤ length broker_tiers → length (tier_views_of nodes broker_tiers) ≡ length nodes
tier_views_count [] broker_tiers count = refl
tier_views_count (x ∷ nodes) [] count = absurd (omega (arith, count))
tier_views_count (x ∷ nodes) (broker_tier ∷ broker_tiers) count = ap suc (tier_views_count nodes broker_tiers (omega (arith, count)))
