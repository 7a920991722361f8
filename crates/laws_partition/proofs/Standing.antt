-- A turn against the plain log: what it starts from, what is to be shown, and how the leader epochs of the nodes are
-- after it.
use Rattle.std.proofs.Common.{◌≡◌, ◌≢◌, ◌⊎◌, inl, inr, ◌∙◌, sym, ap, subst, refl, ℕ, zero, suc, ◌<◌, ◌≤◌, ◌==◌, List, [], ◌∷◌, ◌++◌, slice_get, slice_set, Some, None, Option, Bool, true, false, arith, append_assoc}
use Rattle.std.specs.Prelude.{map, is_some, ◌||◌}
use Rattle.std.specs.List.{AllByRecursion}
use Rattle.std.proofs.lemmas.List.Elements.{All-from_recursion}
use Rattle.log_terms.specs.Batch.{epoch_of}
use Rattle.log_terms.specs.Line.{line_of, line_after}
use Rattle.log_terms.proofs.Lists.{get-set, prefix_self, prefix_trans}
use Rattle.registry.specs.declared.registry.Replica.{Replica}
use Rattle.registry.specs.declared.registry.Registry.{Registry}
use Rattle.plain_log.specs.declared.answer.Answer.{Answer}
use Rattle.plain_log.specs.declared.command.Command.{Command}
use Rattle.plain_log.specs.declared.state.Broker.{Broker}
use Rattle.plain_log.specs.declared.state.PlainSnapshot.{PlainSnapshot}
use Rattle.plain_log.specs.declared.state.Path.{Path}
use Rattle.plain_log.specs.declared.state.Role.{Role}
use Rattle.plain_log.specs.declared.state.Role.TheVariants.{Idle, Leads, Follows, Joined}
use Rattle.plain_log.specs.declared.state.State.{State}
use Rattle.plain_log.specs.State.{path_of, followed, is_in}
use Rattle.plain_log.specs.Rows.{row}
use Rattle.plain_log.specs.Safe.{HasOnPath, LogSafe, RoleSafe, PlainSafe}
use Rattle.plain_log.proofs.Wider.{Wider}
use Rattle.laws_partition.specs.Seen.{Back, Node, SeenPartition}
use Rattle.laws_partition.specs.Partition.{broker_of, put_node}
use Rattle.laws_partition.specs.Central.{PartitionMatches, was_taken, WereElected, LineStands, LeaderStands, LinesStand}
use Rattle.laws_partition.specs.Sound.{NodeSound}
use Rattle.laws_partition.proofs.RegistryLaw.{IsNext, IsSameEpoch, Moves}

-- a turn of broker b starts here
pub record Standing (h : SeenPartition) (p : State) (b : ℕ) (x : Node) (s : Replica) : Type 0 where
  pub safe : PlainSafe p
  pub partition_state : PartitionMatches h p
  pub lines : LinesStand h p.paths p.broken
  pub at : slice_get h.nodes b ≡ Some x
  pub replica : slice_get p.registry.replicas b ≡ Some s

-- the brokers' logs match
abbrev pub LogsSafe : State → Type 0
LogsSafe q = (b : ℕ) (x : Broker) → slice_get q.brokers b ≡ Some x → LogSafe q.paths x.log

-- while an epoch with a path stays the registry's, its leader has no less flushed
abbrev pub Steady : State → State → Type 0
Steady p q = (e : ℕ) → is_some (path_of p.paths e) ≡ true → q.registry.epoch ≡ e
    → (p.registry.epoch ≡ e) × ((z : Broker) → slice_get q.brokers q.registry.leader.0 ≡ Some z
    → (y : Broker) × (slice_get p.brokers p.registry.leader.0 ≡ Some y) × (y.flushed_end ≤ z.flushed_end))

pub steady_self : (p : State) → Steady p p
steady_self p = λ e has is. (is, λ z at. (z, at, omega arith))

-- a broker has changed
pub steady_set : (p q : State) (b : ℕ) (x z : Broker) → slice_get p.brokers b ≡ Some x → q.brokers ≡ slice_set p.brokers b z → q.registry.epoch ≡ p.registry.epoch → q.registry.leader.0 ≡ p.registry.leader.0
    → (p.registry.leader.0 ≡ b → x.flushed_end ≤ z.flushed_end) → Steady p q
steady_set p q b x z at brokers epoch leader up = λ e has is. (
  sym epoch ∙ is,
  λ y there.
      let now : slice_get (slice_set p.brokers b z) p.registry.leader.0 ≡ Some y = ap (λ (n : ℕ). slice_get (slice_set p.brokers b z) n) (sym leader) ∙ (ap (λ (k : List Broker). slice_get k q.registry.leader.0) (sym brokers) ∙ there) in
      elim (get-set p.brokers b z p.registry.leader.0 y now) [
        | inl one ↦
            let le = up one.0 in
            let same : y ≡ z = one.1 in
            (x, ap (λ (n : ℕ). slice_get p.brokers n) one.0 ∙ at, subst (λ (k : Broker). x.flushed_end ≤ k.flushed_end) (sym same) le)
        | inr other ↦ (y, other.1, omega arith)
      ],
)

-- the plain log allows the answer, and is related to the partition afterwards
pub record Allowed (p : State) (b : ℕ) (x : Node) (s : Replica) (recorded : Option PlainSnapshot) (command : Command) (answer : Answer) (h' : SeenPartition) : Type 0 where
  pub state : State
  pub is : row p b (broker_of x) s recorded command answer ≡ Some state
  pub registry : state.registry ≡ h'.registry
  pub brokers : state.brokers ≡ map broker_of h'.nodes
  pub actors : state.actors ≡ p.actors
  pub paths : Wider p.paths state.paths
  pub lines : LogsSafe state → LinesStand h' state.paths state.broken
  pub steady : Steady p state

-- the nodes as brokers

pub map_get : {A B : Type 0} (f : A → B) (xs : List A) (i : ℕ) (x : A) → slice_get xs i ≡ Some x → slice_get (map f xs) i ≡ Some (f x)
map_get f [] i x e = absurd cc
map_get f (y ∷ xs) zero x e = let same : y ≡ x = cc in ap (λ t. Some (f t)) same
map_get f (y ∷ xs) (suc i) x e = map_get f xs i x e

pub map_set : {A B : Type 0} (f : A → B) (xs : List A) (i : ℕ) (x : A) → map f (slice_set xs i x) ≡ slice_set (map f xs) i (f x)
map_set f [] i x = refl
map_set f (y ∷ xs) zero x = refl
map_set f (y ∷ xs) (suc i) x = ap (λ t. f y ∷ t) (map_set f xs i x)

pub broker_at : (h : SeenPartition) (p : State) (b : ℕ) (x : Node) → PartitionMatches h p → slice_get h.nodes b ≡ Some x → slice_get p.brokers b ≡ Some (broker_of x)
broker_at h p b x st at = ap (λ (k : List Broker). slice_get k b) st.brokers ∙ map_get broker_of h.nodes b x at

-- what is at a place after a write of it
pub get_put : {A : Type 0} (xs : List A) (i : ℕ) (x y : A) → slice_get xs i ≡ Some x → slice_get (slice_set xs i y) i ≡ Some y
get_put [] i x y e = absurd cc
get_put (z ∷ xs) zero x y e = refl
get_put (z ∷ xs) (suc i) x y e = get_put xs i x y e

-- paths

pub wider_self : (ps : List Path) → Wider ps ps
wider_self ps = λ e log is. (log, is, prefix_self log)

pub has_wide : (ps qs : List Path) (e : ℕ) → Wider ps qs → is_some (path_of ps e) ≡ true → is_some (path_of qs e) ≡ true
has_wide ps qs e w h = go (path_of ps e) refl h
  where
    go : (o : Option (List (List ℕ))) → path_of ps e ≡ o → is_some o ≡ true → is_some (path_of qs e) ≡ true
    go None is t = absurd cc
    go (Some log) is t = let k = w e log is in rw k.1 refl

-- the epochs whose taking broke off stay so
abbrev pub Keeps : List ℕ → List ℕ → Type 0
Keeps bs cs = (e : ℕ) → is_in e bs ≡ true → is_in e cs ≡ true

pub keeps_self : (bs : List ℕ) → Keeps bs bs
keeps_self bs = λ e is. is

-- the lead of an epoch was taken
pub path_taken : (paths : List Path) (broken : List ℕ) (e : ℕ) → is_some (path_of paths e) ≡ true → was_taken paths broken e ≡ true
path_taken paths broken e is = rw is refl

pub broken_taken : (paths : List Path) (broken : List ℕ) (e : ℕ) → is_in e broken ≡ true → was_taken paths broken e ≡ true
broken_taken paths broken e is = go (is_some (path_of paths e))
  where
    go : (t : Bool) → t || is_in e broken ≡ true
    go true = refl
    go false = is

-- a path, or one of those that broke off
pub by_taken : (paths : List Path) (broken : List ℕ) (e : ℕ) → was_taken paths broken e ≡ true → (is_some (path_of paths e) ≡ true) ⊎ (is_in e broken ≡ true)
by_taken paths broken e h = go (is_some (path_of paths e)) refl h
  where
    go : (t : Bool) → is_some (path_of paths e) ≡ t → t || is_in e broken ≡ true → (is_some (path_of paths e) ≡ true) ⊎ (is_in e broken ≡ true)
    go true is t = inl is
    go false is t = inr t

taken_wide : (ps qs : List Path) (bs cs : List ℕ) (e : ℕ) → Wider ps qs → Keeps bs cs → was_taken ps bs e ≡ true → was_taken qs cs e ≡ true
taken_wide ps qs bs cs e w k h = elim (by_taken ps bs e h) [
  | inl path ↦ path_taken qs cs e (has_wide ps qs e w path)
  | inr off ↦ broken_taken qs cs e (k e off)
]

pub line_wide : (ps qs : List Path) (bs cs : List ℕ) (line : List (ℕ × ℕ)) → Wider ps qs → Keeps bs cs → WereElected ps bs line → WereElected qs cs line
line_wide ps qs bs cs line w k h = λ i d lt. taken_wide ps qs bs cs _ w k (h i d lt)

after_taken : (paths : List Path) (broken : List ℕ) (front : List (List ℕ)) (e : ℕ) (log whole : List (List ℕ)) → front ++ log ≡ whole → LogSafe paths whole
    → AllByRecursion (λ entry. was_taken paths broken entry.0 ≡ true) (line_after e log)
after_taken paths broken front e [] whole is s = tt
after_taken paths broken front e (batch ∷ log) whole is s =
    let is2 : (front ++ batch ∷ []) ++ log ≡ whole = append_assoc front (batch ∷ []) log ∙ is in
    let has = s.matching front batch (log, is2) in
    let one : was_taken paths broken (epoch_of batch) ≡ true = path_taken paths broken (epoch_of batch) (rw has.1 refl) in
    go (epoch_of batch == e) refl one (after_taken paths broken (front ++ batch ∷ []) e log whole is2 s) (after_taken paths broken (front ++ batch ∷ []) (epoch_of batch) log whole is2 s)
  where
    go : (t : Bool) → (epoch_of batch == e) ≡ t → was_taken paths broken (epoch_of batch) ≡ true
        → AllByRecursion (λ entry. was_taken paths broken entry.0 ≡ true) (line_after e log)
        → AllByRecursion (λ entry. was_taken paths broken entry.0 ≡ true) (line_after (epoch_of batch) log)
        → AllByRecursion (λ entry. was_taken paths broken entry.0 ≡ true) (line_after e (batch ∷ log))
    go true t one same other = rw t same
    go false t one same other = rw t (one, other)

-- the lead of each epoch of a log was taken
own_taken : (paths : List Path) (broken : List ℕ) (log : List (List ℕ)) → LogSafe paths log → AllByRecursion (λ entry. was_taken paths broken entry.0 ≡ true) (line_of log)
own_taken paths broken [] s = tt
own_taken paths broken (batch ∷ log) s =
    let has = s.matching [] batch (log, refl) in
    (path_taken paths broken (epoch_of batch) (rw has.1 refl), after_taken paths broken (batch ∷ []) (epoch_of batch) log (batch ∷ log) refl s)

pub log_taken : (paths : List Path) (broken : List ℕ) (log : List (List ℕ)) → LogSafe paths log → WereElected paths broken (line_of log)
log_taken paths broken log s = All-from_recursion _ (line_of log) (own_taken paths broken log s)

pub line_taken : (paths : List Path) (broken : List ℕ) (line : List (ℕ × ℕ)) (log : List (List ℕ)) → line ≡ line_of log → LogSafe paths log → WereElected paths broken line
line_taken paths broken line log is s = subst (WereElected paths broken) (sym is) (log_taken paths broken log s)

-- the leader epochs of the nodes, after a node has changed
pub record Puts (h : SeenPartition) (p q : State) (b : ℕ) (x y : Node) : Type 0 where
  pub registry : q.registry ≡ p.registry
  pub brokers : q.brokers ≡ slice_set p.brokers b (broker_of y)
  pub actors : q.actors ≡ p.actors
  pub paths : Wider p.paths q.paths
  pub broken : Keeps p.broken q.broken
  pub keys : h.registry.leader.0 ≢ b → is_some (path_of q.paths h.registry.epoch) ≡ true → is_some (path_of p.paths h.registry.epoch) ≡ true
  pub sound : NodeSound y
  pub paths_are : LogsSafe q → WereElected q.paths q.broken y.log.line
  pub saved_are : LogsSafe q → WereElected q.paths q.broken y.saved
  pub back_are : LogsSafe q → (back : Back) → y.loose ≡ Some back → WereElected q.paths q.broken back.1
  pub joined : (e : ℕ) → y.role ≡ Joined e → y.log.line ≡ line_of y.log.batches
  pub leader : h.registry.leader.0 ≡ b → LeaderStands q.paths h.registry.epoch y
  pub followers : followed y.role ≡ Some h.registry.epoch → h.registry.leader.0 ≢ b
  pub steady : h.registry.leader.0 ≡ b → x.flushed_end ≤ y.flushed_end

-- what begins a path begins a longer one
begins_wide : (ps qs : List Path) (e : ℕ) (log : List (List ℕ)) → Wider ps qs → HasOnPath ps e log → HasOnPath qs e log
begins_wide ps qs e log w k = let m = w e k.0 k.1 in (m.0, m.1, prefix_trans log k.0 m.0 k.2 m.2)

pub lines_put : (h : SeenPartition) (ps qs : List Path) (bs cs : List ℕ) (b : ℕ) (y : Node) → LinesStand h ps bs → Wider ps qs → Keeps bs cs
    → (h.registry.leader.0 ≢ b → is_some (path_of qs h.registry.epoch) ≡ true → is_some (path_of ps h.registry.epoch) ≡ true) → LineStands qs cs y
    → (h.registry.leader.0 ≡ b → LeaderStands qs h.registry.epoch y) → (followed y.role ≡ Some h.registry.epoch → h.registry.leader.0 ≢ b) → LinesStand (put_node h b y) qs cs
lines_put h ps qs bs cs b y s wide keeps keys line leader followers = record {
  each = λ c z at. elim (get-set h.nodes b y c z at) [
    | inl one ↦ subst (LineStands qs cs) (sym one.1) line
    | inr other ↦
        let k = s.each c z other.1 in
        record {
          sound = k.sound;
          paths_are = line_wide ps qs bs cs z.log.line wide keeps k.paths_are;
          saved_are = line_wide ps qs bs cs z.saved wide keeps k.saved_are;
          back_are = λ back is. line_wide ps qs bs cs back.1 wide keeps (k.back_are back is);
          joined = k.joined;
        }
  ];
  leader = λ z at. elim (get-set h.nodes b y h.registry.leader.0 z at) [
    | inl one ↦ subst (LeaderStands qs h.registry.epoch) (sym one.1) (leader one.0)
    | inr other ↦ λ has. (let k = s.leader z other.1 (keys other.0 has) in (k.0, k.1, k.2, k.3, k.4, begins_wide ps qs h.registry.epoch z.log.batches wide k.5))
  ];
  followers = λ c z at f. elim (get-set h.nodes b y c z at) [
    | inl one ↦ λ e. followers (ap (λ (k : Node). followed k.role) (sym one.1) ∙ f) (e ∙ one.0)
    | inr other ↦ s.followers c z other.1 f
  ];
}

pub put_lines : (h : SeenPartition) (p q : State) (b : ℕ) (x y : Node) → LinesStand h p.paths p.broken → Puts h p q b x y → LogsSafe q → LinesStand (put_node h b y) q.paths q.broken
put_lines h p q b x y s w safe =
    lines_put h p.paths q.paths p.broken q.broken b y s w.paths w.broken w.keys
    (record { sound = w.sound; paths_are = w.paths_are safe; saved_are = w.saved_are safe; back_are = w.back_are safe; joined = w.joined }) w.leader w.followers

-- after the registry has changed
pub lines_same : (h : SeenPartition) (ps : List Path) (bs : List ℕ) (r : Registry) → LinesStand h ps bs → IsSameEpoch h.registry r → LinesStand (record h { registry = r }) ps bs
lines_same h ps bs r s e = record {
  each = s.each;
  leader = λ z at. subst (λ (n : ℕ). LeaderStands ps n z) (sym e.epoch) (s.leader z (ap (λ (k : ℕ). slice_get h.nodes k) (ap (λ l. l.0) (sym e.leader)) ∙ at));
  followers = λ c z at f same. s.followers c z at (f ∙ ap (λ (n : ℕ). Some n) e.epoch) (ap (λ l. l.0) (sym e.leader) ∙ same);
}

-- a role's epoch isn't above the registry's
pub followed_below : (paths : List Path) (epoch : ℕ) (r : Role) (log : List (List ℕ)) (e : ℕ) → RoleSafe paths epoch r log → followed r ≡ Some e → e ≤ epoch
followed_below paths epoch Idle log e s is = absurd cc
followed_below paths epoch (Leads f) log e s is = absurd cc
followed_below paths epoch (Follows f) log e s is = let one : f ≡ e = cc in omega (arith, one, s)
followed_below paths epoch (Joined f) log e s is = let one : f ≡ e = cc in omega (arith, one, s.0)

pub no_path : (p : State) (e : ℕ) → PlainSafe p → p.registry.epoch < e → is_some (path_of p.paths e) ≡ true → ⊥
no_path p e s lt h = go (path_of p.paths e) refl h
  where
    go : (o : Option (List (List ℕ))) → path_of p.paths e ≡ o → is_some o ≡ true → ⊥
    go None is t = absurd cc
    go (Some log) is t = let k = s.paths e log is in omega (arith, k.below, lt)

lines_next : (h : SeenPartition) (p : State) (r : Registry) → PlainSafe p → PartitionMatches h p → LinesStand h p.paths p.broken → IsNext h.registry r → LinesStand (record h { registry = r }) p.paths p.broken
lines_next h p r safe st s n =
    let above : p.registry.epoch < r.epoch = omega (arith, n.epoch, ap (λ (k : Registry). k.epoch) st.registry) in
    record {
      each = s.each;
      leader = λ z at has. absurd (no_path p r.epoch safe above has);
      followers = λ c z at f same.
          let k = safe.brokers c (broker_of z) (broker_at h p c z st at) in
          let low = followed_below p.paths p.registry.epoch z.role z.log.batches r.epoch k.role f in
          omega (arith, low, above);
    }

pub lines_moved : (h : SeenPartition) (p : State) (r : Registry) → PlainSafe p → PartitionMatches h p → LinesStand h p.paths p.broken → Moves h.registry r → LinesStand (record h { registry = r }) p.paths p.broken
lines_moved h p r safe st s m = elim m.epoch [
  | inl k ↦ lines_same h p.paths p.broken r s k
  | inr k ↦ lines_next h p r safe st s k
]

-- a row that changes nothing
pub silent : (h : SeenPartition) (p : State) (b : ℕ) (x : Node) (s : Replica) (recorded : Option PlainSnapshot) (command : Command) (answer : Answer) (h' : SeenPartition) → Standing h p b x s
    → row p b (broker_of x) s recorded command answer ≡ Some p → h' ≡ h → Allowed p b x s recorded command answer h'
silent h p b x s recorded command answer h' st is same = record {
  state = p;
  is = is;
  registry = st.partition_state.registry ∙ ap (λ (k : SeenPartition). k.registry) (sym same);
  brokers = st.partition_state.brokers ∙ ap (λ (k : SeenPartition). map broker_of k.nodes) (sym same);
  actors = refl;
  paths = wider_self p.paths;
  lines = λ safe. subst (λ (k : SeenPartition). LinesStand k p.paths p.broken) (sym same) st.lines;
  steady = steady_self p;
}

pub put_steady : (h : SeenPartition) (p q : State) (b : ℕ) (x y : Node) (s : Replica) → Standing h p b x s → Puts h p q b x y → Steady p q
put_steady h p q b x y s st w =
    steady_set p q b (broker_of x) (broker_of y) (broker_at h p b x st.partition_state st.at) w.brokers
    (ap (λ (r : Registry). r.epoch) w.registry) (ap (λ (r : Registry). r.leader.0) w.registry)
    (λ it. w.steady (ap (λ (r : Registry). r.leader.0) (sym st.partition_state.registry) ∙ it))

-- a row that changes the broker
pub put : (h : SeenPartition) (p q : State) (b : ℕ) (x y : Node) (s : Replica) (recorded : Option PlainSnapshot) (command : Command) (answer : Answer) (h' : SeenPartition) → Standing h p b x s
    → row p b (broker_of x) s recorded command answer ≡ Some q → Puts h p q b x y → h' ≡ put_node h b y → Allowed p b x s recorded command answer h'
put h p q b x y s recorded command answer h' st is w same = record {
  state = q;
  is = is;
  registry = w.registry ∙ (st.partition_state.registry ∙ ap (λ (k : SeenPartition). k.registry) (sym same));
  brokers = w.brokers ∙ (ap (λ (k : List Broker). slice_set k b (broker_of y)) st.partition_state.brokers
      ∙ (sym (map_set broker_of h.nodes b y) ∙ ap (λ (k : SeenPartition). map broker_of k.nodes) (sym same)));
  actors = w.actors;
  paths = w.paths;
  lines = λ safe. subst (λ (k : SeenPartition). LinesStand k q.paths q.broken) (sym same) (put_lines h p q b x y st.lines w safe);
  steady = put_steady h p q b x y s st w;
}

moved_steady : (h : SeenPartition) (p q : State) (r : Registry) → PlainSafe p → PartitionMatches h p → q.registry ≡ r → q.brokers ≡ p.brokers → Moves h.registry r → Steady p q
moved_steady h p q r safe st registry brokers m = elim m.epoch [
  | inl k ↦
      let epoch : q.registry.epoch ≡ p.registry.epoch = ap (λ (n : Registry). n.epoch) registry ∙ (k.epoch ∙ ap (λ (n : Registry). n.epoch) (sym st.registry)) in
      let leader : q.registry.leader.0 ≡ p.registry.leader.0 = ap (λ (n : Registry). n.leader.0) registry ∙ (ap (λ l. l.0) k.leader ∙ ap (λ (n : Registry). n.leader.0) (sym st.registry)) in
      λ e has is. (sym epoch ∙ is, λ z at. (z, ap (λ (n : ℕ). slice_get p.brokers n) (sym leader) ∙ (ap (λ (ys : List Broker). slice_get ys q.registry.leader.0) (sym brokers) ∙ at), omega arith))
  | inr k ↦
      λ e has is.
      let above : p.registry.epoch < e = omega (arith, k.epoch, is, ap (λ (n : Registry). n.epoch) registry, ap (λ (n : Registry). n.epoch) st.registry) in
      absurd (no_path p e safe above has)
]

-- a row that changes the registry
pub leaves : (h : SeenPartition) (p q : State) (b : ℕ) (x : Node) (s : Replica) (r : Registry) (recorded : Option PlainSnapshot) (command : Command) (answer : Answer) (h' : SeenPartition) → Standing h p b x s
    → row p b (broker_of x) s recorded command answer ≡ Some q → q.registry ≡ r → q.brokers ≡ p.brokers → q.actors ≡ p.actors → q.paths ≡ p.paths → q.broken ≡ p.broken → Moves h.registry r
    → h' ≡ record h { registry = r } → Allowed p b x s recorded command answer h'
leaves h p q b x s r recorded command answer h' st is registry brokers actors paths broken moves same = record {
  state = q;
  is = is;
  registry = registry ∙ ap (λ (k : SeenPartition). k.registry) (sym same);
  brokers = brokers ∙ (st.partition_state.brokers ∙ ap (λ (k : SeenPartition). map broker_of k.nodes) (sym same));
  actors = actors;
  paths = subst (λ (k : List Path). Wider p.paths k) (sym paths) (wider_self p.paths);
  lines = λ safe.
      let moved = lines_moved h p r st.safe st.partition_state st.lines moves in
      subst (λ (k : SeenPartition). LinesStand k q.paths q.broken) (sym same)
      (subst (λ (k : List Path). LinesStand (record h { registry = r }) k q.broken) (sym paths)
      (subst (λ (k : List ℕ). LinesStand (record h { registry = r }) p.paths k) (sym broken) moved));
  steady = moved_steady h p q r st.safe st.partition_state registry brokers moves;
}
