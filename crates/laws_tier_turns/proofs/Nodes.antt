-- What a turn that raises no local start makes of a node.
use Rattle.std.proofs.Common.{◌≡◌, ◌∙◌, inl, inr, sym, ap, subst, refl, ℕ, ◌<◌, ◌≤◌, ◌⊎◌, nat_lt, Option, None, Some, Bool, true, false, min, max, slice_get, slice_set, arith}
use Rattle.std.specs.Prelude.{IsSome}
use Rattle.std.proofs.lemmas.Bool.{cases_lt, lt-ltb, le-ltb}
use mathlib.Core.List.{IsPrefix}
use Rattle.log_terms.specs.Log.{IsConsecutive, end_of, up_to}
use Rattle.log_terms.proofs.Lists.{prefix_self, set-same}
use Rattle.log_terms.proofs.Logs.{ends_below, prefix_end, up_to_end}
use Rattle.plain_log.specs.declared.state.Role.{Role}
use Rattle.plain_log.specs.declared.state.Role.TheVariants.{Idle, Leads, Follows, Joined}
use Rattle.plain_log.specs.State.{joined}
use Rattle.laws_partition.specs.Seen.{Back, Node, SeenPartition}
use Rattle.laws_partition.specs.Partition.{back_of, stopped, broken, torn, put_node}
use Rattle.laws_partition.specs.RowsOfFollowers.{cut_node, cut_back}
use Rattle.laws_partition.specs.Rows.{MayComeBack, opened}
use Rattle.laws_partition.specs.Sound.{NodeSound}
use Rattle.laws_tier_turns.specs.BrokerTiers.{greatest, start_of}

-- a local start lies within the log
pub start_within : (x : Node) → NodeSound x → start_of x ≤ end_of x.log.batches
start_within x s = go x.loose refl
  where
    low : x.local ≤ end_of x.log.batches
    low = (let high = ends_below x.flushed_end x.log.batches s.log.consecutive s.flushed_end in omega (arith, s.within, high))

    go : (o : Option Back) → x.loose ≡ o → greatest x.local o ≤ end_of x.log.batches
    go None is = low
    go (Some back) is =
        let k = s.back back is in
        let high = ends_below back.0 x.log.batches s.log.consecutive k.ends in
        omega (arith, low, k.within, high)

-- that of a node that is up is its local start
pub start_up : (x : Node) → NodeSound x → x.up ≡ true → start_of x ≡ x.local
start_up x s up = ap (greatest x.local) (s.tight up)

-- and of any node at least that
pub start_above : (x : Node) → x.local ≤ start_of x
start_above x = go x.loose
  where
    go : (o : Option Back) → x.local ≤ greatest x.local o
    go None = omega arith
    go (Some back) = omega arith

-- a node follows a turn: its local start doesn't rise, and lies within the log, where that is one; it stays where the
-- node still leads; and the log was opened as often, while the node is no more up than before, or more often
pub record NodeGoes (x y : Node) : Type 0 where
  pub start : start_of y ≤ start_of x
  pub within : IsConsecutive 0 y.log.batches → start_of y ≤ end_of y.log.batches
  pub leads : (e : ℕ) → y.stops ≡ x.stops → x.role ≡ Leads e → y.role ≡ Leads e → start_of y ≡ start_of x
  pub ids : ((y.incarnation ≡ x.incarnation) × (y.up ≡ true → x.up ≡ true)) ⊎ (x.incarnation < y.incarnation)

-- a node of the same local start, whose log hasn't lost a batch
pub goes_on : (x y : Node) → NodeSound x → start_of y ≡ start_of x → IsPrefix x.log.batches y.log.batches → y.incarnation ≡ x.incarnation → (y.up ≡ true → x.up ≡ true)
    → NodeGoes x y
goes_on x y s same more opened up = record {
  start = omega (arith, same);
  within = λ c. (let low = start_within x s in let high = prefix_end x.log.batches y.log.batches c more in omega (arith, same, low, high));
  leads = λ e _ _ _. same;
  ids = inl (opened, up);
}

pub node_same : (x : Node) → NodeSound x → NodeGoes x x
node_same x s = goes_on x x s refl (prefix_self x.log.batches) refl (λ u. u)

-- a stop
pub node_stops : (x : Node) → NodeSound x → NodeGoes x (stopped x)
node_stops x s = goes_on x (stopped x) s refl (prefix_self x.log.batches) refl (λ u. absurd cc)

-- a write that failed, after which the local start that comes back isn't greater
pub node_breaks : (x : Node) (back : Back) → NodeSound x → x.up ≡ true → back.2 ≤ x.local → NodeGoes x (broken x back)
node_breaks x back s up low =
    goes_on x (broken x back) s (omega (arith, start_up x s up, low)) (prefix_self x.log.batches) refl (λ u. absurd cc)

-- a cut that failed
pub node_tears : (x : Node) (m : ℕ) → NodeSound x → x.up ≡ true → NodeGoes x (torn x (cut_back x m))
node_tears x m s up = elim (cases_lt n x.flushed_end) [
  | inl less ↦ subst (NodeGoes x) (sym (below (lt-ltb n x.flushed_end less)))
      (goes_on x low s (omega (arith, start_up x s up)) (prefix_self x.log.batches) refl (λ u. absurd cc))
  | inr more ↦ subst (NodeGoes x) (sym (above (le-ltb n x.flushed_end more))) (node_breaks x back s up (omega arith))
]
  where
    n : ℕ
    n = end_of (up_to m x.log.batches)

    back : Back
    back = cut_back x m

    low : Node
    low = record (stopped x) { flushed_end = back.0; saved = back.1; local = back.2; loose = Some (back_of x) }

    below : nat_lt back.0 x.flushed_end ≡ true → torn x back ≡ low
    below t = rw t refl

    above : nat_lt back.0 x.flushed_end ≡ false → torn x back ≡ broken x back
    above t = rw t refl

-- a cut
pub node_cuts : (x : Node) (e m : ℕ) → NodeSound x → x.up ≡ true → NodeGoes x (cut_node x e m)
node_cuts x e m s up = record {
  start = omega (arith, start_up x s up, cut);
  within = λ c. omega (arith, cut);
  leads = λ f _ _ is. absurd cc;
  ids = inl (refl, λ u. u);
}
  where
    cut : start_of (cut_node x e m) ≡ min x.local (end_of (up_to m x.log.batches))
    cut = ap (greatest (min x.local (end_of (up_to m x.log.batches)))) (s.tight up)

-- a node that starts
pub node_opens : (x : Node) (back : Back) (i : ℕ) → NodeSound x → x.up ≡ false → MayComeBack x back → x.incarnation < i → NodeGoes x (opened x back i)
node_opens x back i s off may more = record {
  start = low may;
  within = λ c. inside may;
  leads = λ e _ is _. (let idle = (s.down off).0 in let no : Idle ≡ Leads e = sym idle ∙ is in absurd cc);
  ids = inr more;
}
  where
    low : MayComeBack x back → back.2 ≤ start_of x
    low (inl is) = let same : back.2 ≡ x.local = ap (λ (b : Back). b.2) is in let at = start_above x in omega (arith, same, at)
    low (inr is) = let same : start_of x ≡ max x.local back.2 = ap (greatest x.local) is in omega (arith, same)

    inside : MayComeBack x back → back.2 ≤ end_of (up_to back.0 x.log.batches)
    inside (inl is) =
        let one : back.2 ≡ x.local = ap (λ (b : Back). b.2) is in
        let two : end_of (up_to back.0 x.log.batches) ≡ x.flushed_end = ap (λ (b : Back). end_of (up_to b.0 x.log.batches)) is ∙ up_to_end x.flushed_end x.log.batches s.log.consecutive s.flushed_end in
        omega (arith, one, two, s.within)
    inside (inr is) = let k = s.back back is in let at = up_to_end back.0 x.log.batches s.log.consecutive k.ends in omega (arith, at, k.within)

-- a partition after such a turn of broker b
pub record Goes (h : SeenPartition) (b : ℕ) (x : Node) (h' : SeenPartition) : Type 0 where
  pub node : Node
  pub are : h'.nodes ≡ slice_set h.nodes b node
  pub goes : NodeGoes x node

pub nodes_stay : (h : SeenPartition) (b : ℕ) (x : Node) (h' : SeenPartition) → slice_get h.nodes b ≡ Some x → NodeSound x → h'.nodes ≡ h.nodes → Goes h b x h'
nodes_stay h b x h' at s same = record { node = x; are = same ∙ sym (set-same h.nodes b x at); goes = node_same x s }

-- nothing changes
pub stays : (h : SeenPartition) (b : ℕ) (x : Node) (h' : SeenPartition) → slice_get h.nodes b ≡ Some x → NodeSound x → h' ≡ h → Goes h b x h'
stays h b x h' at s same = nodes_stay h b x h' at s (ap (λ (k : SeenPartition). k.nodes) same)

-- the node changes
pub puts : (h : SeenPartition) (b : ℕ) (x y : Node) (h' : SeenPartition) → NodeGoes x y → h' ≡ put_node h b y → Goes h b x h'
puts h b x y h' g same = record { node = y; are = ap (λ (k : SeenPartition). k.nodes) same; goes = g }

-- a node that has joined is up
pub joined_up : (x : Node) → NodeSound x → IsSome (joined x.role) → x.up ≡ true
joined_up x s has = go x.up refl
  where
    none : (r : Role) → r ≡ Idle → IsSome (joined r) → ⊥
    none Idle is j = absurd cc
    none (Leads e) is j = absurd cc
    none (Follows e) is j = absurd cc
    none (Joined e) is j = absurd cc

    go : (t : Bool) → x.up ≡ t → x.up ≡ true
    go true is = is
    go false is = absurd (none x.role (s.down is).0 has)
