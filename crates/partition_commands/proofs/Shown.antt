-- How a partition over disks is seen, node by node, and how it is seen after a turn.
use Rattle.std.proofs.Common.{◌≡◌, inl, inr, ◌∙◌, sym, ap, subst, refl, ℕ, zero, suc, List, [], ◌∷◌, length, slice_get, slice_set, Some, None, Option, IsSomeAnd, Bool, true, false, ◌&&◌}
use Rattle.std.specs.Prelude.{unwrap_or, nat_lt}
use Rattle.std.specs.Option.{option_and_then}
use Rattle.tier_base.specs.Device.{Control}
use Rattle.disk_model.specs.Call.{call_code}
use Rattle.disk_model.specs.Content.{Content}
use Rattle.log_terms.specs.Log.{end_of as end_of_log}
use Rattle.log_terms.proofs.Lists.{set-same}
use Rattle.registry.specs.Calls.{when}
use Rattle.registry.specs.declared.registry.Registry.{Registry}
use Rattle.plain_log.specs.State.{leads_in}
use Rattle.broker_log.specs.Seen.{LogState, Up, Down, Away, ShowsSeen, LogStays, is_up as is_open, end_in, flushed_end_in, line_in, local_in}
use Rattle.broker_log.specs.Seen as log
use Rattle.broker_log.specs.Effects.{loosened, torn}
use Rattle.laws_partition.specs.Seen as seen
use Rattle.laws_partition.specs.Partition as seen_partition
use Rattle.laws_partition.proofs.BoolTests.{some_of}
use Rattle.partition_commands.specs.declared.partition_state.Node.{Node}
use Rattle.partition_commands.specs.declared.partition_state.PartitionState.{PartitionState}
use Rattle.partition_commands.specs.Shown.{Sees, Refines}
use Rattle.partition_commands.specs.Partition.{is_up, end_of, flushed_end_of, line_of, local_of, put_node, the_leader, stopped, node_of, ShowsNode, ShowNodes, ShowsPartition, LogRests, KeepsPartition, BreaksNode, BreaksBy, NodeReadFails}

-- what is there is had
pub some_at : {A : Type 0} (P : A → Type 0) (o : Option A) (x : A) → o ≡ Some x → P x → IsSomeAnd o P
some_at P o x is p = subst (λ (k : Option _). IsSomeAnd k P) (sym is) p

-- what is put of a record's field leaves a node
pub node_as : {D : Type 0} (x : Node D) (kept : LogState D) (s : log.LogSeen) → is_open kept ≡ is_up x → node_of (record x { log = kept }) s ≡ record (node_of x s) { up = is_up x }
node_as x kept s up = ap (λ (t : Bool). record (node_of x s) { up = t }) up

-- a node whose disk failed in a write
pub broken_node : {D : Type 0} (x : Node D) (kept : LogState D) (s : log.LogSeen) (back : log.Back) → is_open kept ≡ false
    → seen_partition.broken (node_of x s) back ≡ node_of (record (stopped x) { log = kept }) (loosened s back)
broken_node x kept s back down = rw down refl

-- and in a cut
pub torn_node : {D : Type 0} (x : Node D) (kept : LogState D) (s : log.LogSeen) (back : log.Back) → is_open kept ≡ false
    → seen_partition.torn (node_of x s) back ≡ node_of (record (stopped x) { log = kept }) (torn s back)
torn_node x kept s back down = go (nat_lt back.0 s.flushed_end) refl
  where
    go : (t : Bool) → nat_lt back.0 s.flushed_end ≡ t → seen_partition.torn (node_of x s) back ≡ node_of (record (stopped x) { log = kept }) (torn s back)
    go true t = rw (t, down) refl
    go false t = rw (t, down) refl

module _ {D : Type 0} (content : D → Content) where
  -- an option of a node is seen so
  abbrev pub ShowsOption : Option (Node D) → Option seen.Node → Type 0
  ShowsOption None None = Unit {0}
  ShowsOption (Some x) (Some y) = ShowsNode content x y
  ShowsOption None (Some y) = ⊥
  ShowsOption (Some x) None = ⊥

  -- the node at a place
  pub shown_get : (xs : List (Node D)) (ys : List seen.Node) (i : ℕ) → ShowNodes content xs ys → ShowsOption (slice_get xs i) (slice_get ys i)
  shown_get [] [] i s = tt
  shown_get [] (y ∷ ys) i s = absurd s
  shown_get (x ∷ xs) [] i s = absurd s
  shown_get (x ∷ xs) (y ∷ ys) zero s = s.0
  shown_get (x ∷ xs) (y ∷ ys) (suc i) s = shown_get xs ys i s.1

  -- one that is there is seen
  pub shown_some : (o : Option (Node D)) (p : Option seen.Node) (x : Node D) → ShowsOption o p → o ≡ Some x → (y : seen.Node) × (p ≡ Some y) × ShowsNode content x y
  shown_some None None x s is = absurd cc
  shown_some None (Some y) x s is = absurd s
  shown_some (Some z) None x s is = absurd s
  shown_some (Some z) (Some y) x s is = let same : z ≡ x = cc in (y, refl, subst (λ (k : Node D). ShowsNode content k y) same s)

  pub shown_none : (o : Option (Node D)) (p : Option seen.Node) → ShowsOption o p → o ≡ None → p ≡ None
  shown_none None None s is = refl
  shown_none None (Some y) s is = absurd s
  shown_none (Some z) None s is = absurd s
  shown_none (Some z) (Some y) s is = absurd cc

  pub shown_length : (xs : List (Node D)) (ys : List seen.Node) → ShowNodes content xs ys → length xs ≡ length ys
  shown_length [] [] s = refl
  shown_length [] (y ∷ ys) s = absurd s
  shown_length (x ∷ xs) [] s = absurd s
  shown_length (x ∷ xs) (y ∷ ys) s = ap suc (shown_length xs ys s.1)

  -- a node in its place
  pub shown_set : (xs : List (Node D)) (ys : List seen.Node) (i : ℕ) (x : Node D) (y : seen.Node) → ShowNodes content xs ys → ShowsNode content x y
      → ShowNodes content (slice_set xs i x) (slice_set ys i y)
  shown_set [] [] i x y s n = tt
  shown_set [] (z ∷ ys) i x y s n = absurd s
  shown_set (z ∷ xs) [] i x y s n = absurd s
  shown_set (z ∷ xs) (w ∷ ys) zero x y s n = (n, s.1)
  shown_set (z ∷ xs) (w ∷ ys) (suc i) x y s n = (s.0, shown_set xs ys i x y s.1 n)

  leading : (epoch : ℕ) (o : Option (Node D)) (p : Option seen.Node) → ShowsOption o p
      → ShowsOption (option_and_then (λ y. when (is_up y && leads_in epoch y.role) y) o) (option_and_then (λ (y : seen.Node). when (y.up && leads_in epoch y.role) y) p)
  leading epoch None None s = tt
  leading epoch None (Some y) s = absurd s
  leading epoch (Some x) None s = absurd s
  leading epoch (Some x) (Some y) s = subst (λ (z : seen.Node). ShowsOption (when (is_up x && leads_in epoch x.role) x) (when (z.up && leads_in epoch z.role) z)) (sym s.2) (go (is_up x && leads_in epoch x.role))
    where
      go : (t : Bool) → ShowsOption (when t x) (when t (node_of x s.0))
      go true = (s.0, s.1, refl)
      go false = tt

  -- the leader
  pub shown_leader : (h : PartitionState D) (a : seen.SeenPartition) → ShowsPartition content h a → ShowsOption (the_leader h) (seen_partition.the_leader a)
  shown_leader h a s =
      subst (λ (r : Registry). ShowsOption (the_leader h) (option_and_then (λ (y : seen.Node). when (y.up && leads_in r.epoch y.role) y) (slice_get a.nodes r.leader.0))) (sym s.registry)
      (leading h.registry.epoch (slice_get h.nodes h.registry.leader.0) (slice_get a.nodes h.registry.leader.0) (shown_get h.nodes a.nodes h.registry.leader.0 s.nodes))

  -- a log that is up has its end, its flushed end and its leader epochs
  pub end_shown : (x : Node D) (s : log.LogSeen) → is_up x ≡ true → ShowsSeen content x.log s → end_of x ≡ end_of_log s.batches
  end_shown x s up h = go x.log up h
    where
      go : (k : LogState D) → is_open k ≡ true → ShowsSeen content k s → unwrap_or (end_in k) 0 ≡ end_of_log s.batches
      go (Up l) up h = sym h.ends
      go (Down i d) up h = absurd cc
      go Away up h = absurd h

  pub flushed_end_shown : (x : Node D) (s : log.LogSeen) → is_up x ≡ true → ShowsSeen content x.log s → flushed_end_of x ≡ s.flushed_end
  flushed_end_shown x s up h = go x.log up h
    where
      go : (k : LogState D) → is_open k ≡ true → ShowsSeen content k s → unwrap_or (flushed_end_in k) 0 ≡ s.flushed_end
      go (Up l) up h = sym h.flushed_end_is
      go (Down i d) up h = absurd cc
      go Away up h = absurd h

  pub line_shown : (x : Node D) (s : log.LogSeen) → is_up x ≡ true → ShowsSeen content x.log s → line_of x ≡ s.line
  line_shown x s up h = go x.log up h
    where
      go : (k : LogState D) → is_open k ≡ true → ShowsSeen content k s → unwrap_or (line_in k) [] ≡ s.line
      go (Up l) up h = sym h.line_is
      go (Down i d) up h = absurd cc
      go Away up h = absurd h

  pub local_shown : (x : Node D) (s : log.LogSeen) → is_up x ≡ true → ShowsSeen content x.log s → local_of x ≡ s.local
  local_shown x s up h = go x.log up h
    where
      go : (k : LogState D) → is_open k ≡ true → ShowsSeen content k s → unwrap_or (local_in k) 0 ≡ s.local
      go (Up l) up h = sym h.local_is
      go (Down i d) up h = absurd cc
      go Away up h = absurd h

  -- a log with an end is up
  pub up_of_end : (k : LogState D) (n : ℕ) → end_in k ≡ Some n → is_open k ≡ true
  up_of_end (Up l) n is = refl
  up_of_end (Down i d) n is = absurd cc
  up_of_end Away n is = absurd cc

  -- its end, where that is known
  pub end_told : (x : Node D) (n : ℕ) → end_in x.log ≡ Some n → end_of x ≡ n
  end_told x n is = ap (λ (o : Option ℕ). unwrap_or o 0) is

module _ {D : Type 0} (content : D → Content) (control : D → Control call_code) where
  -- how a node is seen
  pub sees_at : (h : PartitionState D) (a : seen.SeenPartition) (b : ℕ) (x : Node D) → ShowsPartition content h a → slice_get h.nodes b ≡ Some x → (s : log.LogSeen) × Sees content h a b x s
  sees_at h a b x partition_state at =
      let k = shown_some content (slice_get h.nodes b) (slice_get a.nodes b) x (shown_get content h.nodes a.nodes b partition_state.nodes) at in
      (k.2.0, record { partition_state = partition_state; at = at; there = k.1 ∙ ap (λ (y : seen.Node). Some y) k.2.2; shows = k.2.1 })

  -- what follows from what holds of it
  pub refines_more : (h' : PartitionState D) (R Q : seen.SeenPartition → Type 0) → ((a : seen.SeenPartition) → R a → Q a) → Refines content h' R → Refines content h' Q
  refines_more h' R Q f r = record { after = r.after; partition_state = r.partition_state; row = f r.after r.row }

  -- nothing has changed
  pub stays : (h : PartitionState D) (a : seen.SeenPartition) (h' : PartitionState D) (R : seen.SeenPartition → Type 0) → ShowsPartition content h a → h' ≡ h → R a → Refines content h' R
  stays h a h' R partition_state is row = subst (λ (k : PartitionState D). Refines content k R) (sym is) (record { after = a; partition_state = partition_state; row = row })

  -- a node has
  pub puts : (h : PartitionState D) (a : seen.SeenPartition) (b : ℕ) (x : Node D) (s : log.LogSeen) (h' : PartitionState D) (R : seen.SeenPartition → Type 0) (x' : Node D) (s' : log.LogSeen) (y : seen.Node) → Sees content h a b x s
      → ShowsSeen content x'.log s' → y ≡ node_of x' s' → h' ≡ put_node h b x' → R (seen_partition.put_node a b y) → Refines content h' R
  puts h a b x s h' R x' s' y v shows same is row =
      subst (λ (k : PartitionState D). Refines content k R) (sym is) (record {
        after = seen_partition.put_node a b y;
        partition_state = record { registry = v.partition_state.registry; nodes = shown_set content h.nodes a.nodes b x' y v.partition_state.nodes (s', shows, same); clock = v.partition_state.clock };
        row = row;
      })

  -- a log's segments have changed perhaps, and nothing that is seen
  pub looks : (h : PartitionState D) (a : seen.SeenPartition) (b : ℕ) (x : Node D) (s : log.LogSeen) (h' : PartitionState D) (R : seen.SeenPartition → Type 0) → Sees content h a b x s → (kept : LogState D) → is_open kept ≡ is_open x.log
      → (t : log.LogSeen) × ShowsSeen content kept t × (t ≡ s) → h' ≡ put_node h b (record x { log = kept }) → R a → Refines content h' R
  looks h a b x s h' R v kept up t after row =
      let same : node_of x s ≡ node_of (record x { log = kept }) t.0 = rw (up, t.2) refl in
      let put : a ≡ seen_partition.put_node a b (node_of x s) = ap (λ (ys : List seen.Node). record a { nodes = ys }) (sym (set-same a.nodes b (node_of x s) v.there)) in
      puts h a b x s h' R (record x { log = kept }) t.0 (node_of x s) v t.1 same after (subst R put row)

  -- a log was asked, and nothing that is seen has changed
  pub rests : (h : PartitionState D) (a : seen.SeenPartition) (b : ℕ) (x : Node D) (s : log.LogSeen) (h' : PartitionState D) (R : seen.SeenPartition → Type 0) → Sees content h a b x s → LogRests content control h b x h' → R a → Refines content h' R
  rests h a b x s h' R v r row = looks h a b x s h' R v r.0 r.1.up (r.1.seen s v.shows) r.3 row

  -- the registry has
  pub leaves : (h : PartitionState D) (a : seen.SeenPartition) (h' : PartitionState D) (R : seen.SeenPartition → Type 0) (r : Registry) → ShowsPartition content h a → h' ≡ record h { registry = r }
      → R (record a { registry = r }) → Refines content h' R
  leaves h a h' R r partition_state is row =
      subst (λ (k : PartitionState D). Refines content k R) (sym is) (record {
        after = record a { registry = r };
        partition_state = record { registry = refl; nodes = partition_state.nodes; clock = partition_state.clock };
        row = row;
      })

  -- a read failed, and nothing that is seen has changed
  pub fails : (h : PartitionState D) (a : seen.SeenPartition) (b : ℕ) (x : Node D) (s : log.LogSeen) (h' : PartitionState D) (R : seen.SeenPartition → Type 0) → Sees content h a b x s → NodeReadFails content control h b x h' → R a → Refines content h' R
  fails h a b x s h' R v r row = looks h a b x s h' R v r.0 r.1.up (r.1.seen s v.shows) r.4 row

  -- a write failed, and the broker has stopped
  pub breaks : (h : PartitionState D) (a : seen.SeenPartition) (b : ℕ) (x : Node D) (s : log.LogSeen) (makes : log.LogSeen → log.LogSeen) (h' : PartitionState D) (R : seen.SeenPartition → Type 0) (y : seen.Node) → Sees content h a b x s → BreaksNode content control h b x makes h'
      → ((kept : LogState D) → is_open kept ≡ false → y ≡ node_of (record (stopped x) { log = kept }) (makes s)) → R (seen_partition.put_node a b y) → Refines content h' R
  breaks h a b x s makes h' R y v k same row =
      let t = k.breaks.seen s v.shows in
      puts h a b x s h' R (record (stopped x) { log = k.kept }) t.0 y v t.1 (same k.kept k.breaks.down ∙ ap (node_of (record (stopped x) { log = k.kept })) (sym t.2)) k.after row

  -- a write failed, and the broker has stopped, whatever that makes of its log
  pub breaks_to : (h : PartitionState D) (a : seen.SeenPartition) (b : ℕ) (x : Node D) (s s' : log.LogSeen) (B : LogState D → LogState D → Type 0) (h' : PartitionState D) (R : seen.SeenPartition → Type 0) (y : seen.Node) → Sees content h a b x s
      → (k : BreaksBy content control h b x B h') → ShowsSeen content k.kept s' → y ≡ node_of (record (stopped x) { log = k.kept }) s' → R (seen_partition.put_node a b y) → Refines content h' R
  breaks_to h a b x s s' B h' R y v k shows same row = puts h a b x s h' R (record (stopped x) { log = k.kept }) s' y v shows same k.after row

  -- a log was read, and is as it was
  pub partition_state_looks : (h : PartitionState D) (a : seen.SeenPartition) (b : ℕ) (x : Node D) (kept : LogState D) (h' : PartitionState D) → ShowsPartition content h a → slice_get h.nodes b ≡ Some x → LogStays content x.log kept
      → h' ≡ put_node h b (record x { log = kept }) → ShowsPartition content h' a
  partition_state_looks h a b x kept h' partition_state at stays is =
      let v = sees_at h a b x partition_state at in
      let r = looks h a b x v.0 h' (λ b. b ≡ a) v.1 kept stays.up (stays.seen v.0 v.1.shows) is refl in
      subst (ShowsPartition content h') r.row r.partition_state

  -- nothing that is seen has changed
  pub partition_state_stays : (h : PartitionState D) (a : seen.SeenPartition) (h' : PartitionState D) → ShowsPartition content h a → KeepsPartition content control h h' → ShowsPartition content h' a
  partition_state_stays h a h' partition_state (inl is) = subst (λ (k : PartitionState D). ShowsPartition content k a) (sym is) partition_state
  partition_state_stays h a h' partition_state (inr k) =
      let x = some_of (λ x. LogRests content control h k.0 x h') (slice_get h.nodes k.0) k.1 in
      partition_state_looks h a k.0 x.0 x.2.0 h' partition_state x.1 x.2.1 x.2.3
