-- Brokers that start again over disks that were used before.
use Rattle.std.proofs.Common.{◌≡◌, ◌∙◌, ◌⊎◌, inl, inr, sym, ap, subst, refl, ℕ, zero, suc, ◌^◌, ◌<◌, List, [], ◌∷◌, ◌++◌, length, slice_get, Some}
use Rattle.std.specs.Prelude.{map, IsTrue}
use Rattle.std.proofs.lemmas.List.{map-append}
use Rattle.tier_base.specs.declared.plain.Settings.{Settings}
use Rattle.tier_base.specs.Device.{Control, Arms}
use Rattle.disk_model.specs.Call.{call_code}
use Rattle.disk_model.specs.Content.{Content}
use Rattle.log_steps.specs.Reopens.{Reopens}
use Rattle.registry.specs.declared.registry.Registry.{Registry}
use Rattle.broker_log.specs.Seen.{LogState, Up, Down, Away, LogSeen, ShowsSeen, ShowsClosed, LogStays, OnDisk, is_up}
use Rattle.partition_commands.specs.declared.partition_state.Node.{Node}
use Rattle.partition_commands.specs.declared.partition_state.PartitionState.{PartitionState}
use Rattle.partition_commands.specs.Cold.{cold_node, node_back, partition_back, ShowDisks, DisksReopen, IsColdOver, AreColdOver, IsColdPartition}
use Rattle.partition_commands.specs.Disks.{AllReopen}
use Rattle.partition_commands.specs.Fresh.{AreDisksOf}
use Rattle.partition_commands.specs.Partition.{node_of, ShowNodes, ShowsPartition}
use Rattle.partition_commands.specs.Sound.{LeaderSound, SoundPartition}
use Rattle.partition_commands.proofs.FreshDisks.{Armed, AreArmed}

module _ {D : Type 0} where
  -- one broker more
  pub cold_more : (settings : Settings) (disks : List D) (disk : D) (before nodes : List (Node D)) → nodes ≡ before ++ map (cold_node settings) disks
      → nodes ++ cold_node settings disk ∷ [] ≡ before ++ map (cold_node settings) (disks ++ disk ∷ [])
  cold_more settings disks disk before nodes is = more nodes is
    where
      assoc : (xs ys zs : List (Node D)) → (xs ++ ys) ++ zs ≡ xs ++ (ys ++ zs)
      assoc [] ys zs = refl
      assoc (x ∷ xs) ys zs = ap (λ (l : List (Node D)). x ∷ l) (assoc xs ys zs)

      more : (nodes : List (Node D)) → nodes ≡ before ++ map (cold_node settings) disks → nodes ++ cold_node settings disk ∷ [] ≡ before ++ map (cold_node settings) (disks ++ disk ∷ [])
      more nodes is =
          ap (λ (l : List (Node D)). l ++ cold_node settings disk ∷ []) is
          ∙ assoc before (map (cold_node settings) disks) (cold_node settings disk ∷ [])
          ∙ ap (λ (l : List (Node D)). before ++ l) (sym (map-append (cold_node settings) disks (disk ∷ [])))

  -- such a broker has what its turns need
  cold_node_sound : (r : Registry) (settings : Settings) (disk : D) → LeaderSound r (cold_node settings disk)
  cold_node_sound r settings disk = record {
    up = λ e is. absurd cc;
    leads = λ e is. absurd cc;
    fits = λ e is. absurd cc;
    past = λ e is. absurd cc;
    known_high_watermark = λ e is le. absurd cc;
    down = λ down. (refl, refl);
  }

module _ {D : Type 0} (content : D → Content) (control : D → Control call_code) where
  -- its disk's plan is put in force
  armed_over : (settings : Settings) (disk : D) (kept : LogState D) → LogStays content (Down settings disk) kept → OnDisk kept (λ d. Arms (control disk) (control d)) → IsColdOver content control settings disk (record (cold_node settings disk) { log = kept })
  armed_over settings disk (Up l) stays arms = absurd (let up = stays.up in cc)
  armed_over settings disk Away stays arms = absurd arms
  armed_over settings disk (Down was now) stays arms =
      let same : was ≡ settings = let is : Some was ≡ Some settings = stays.settings in cc (is) in
      record {
        now = now;
        node = ap (λ (k : Settings). cold_node k now) same;
        arms = arms;
        seen = λ s shows. (let t = stays.seen s shows in subst (ShowsClosed content now) t.2 t.1);
      }

  pub armed_cold : (settings : Settings) (disks : List D) (xs ys : List (Node D)) → xs ≡ map (cold_node settings) disks → AreArmed content control (length xs) xs ys → AreColdOver content control settings disks ys
  armed_cold settings [] [] ys is a = rw a tt
  armed_cold settings [] (x ∷ xs) ys is a = absurd cc
  armed_cold settings (d ∷ disks) [] ys is a = absurd cc
  armed_cold settings (d ∷ disks) (x ∷ xs) [] is a = absurd a
  armed_cold settings (d ∷ disks) (x ∷ xs) (y ∷ ys) is a =
      let one : x ≡ cold_node settings d = cc (is) in
      let rest : xs ≡ map (cold_node settings) disks = cc (is) in
      let armed : Armed content control (cold_node settings d) y = subst (λ (k : Node D). Armed content control k y) one a.0 in (
        subst (IsColdOver content control settings d) (sym armed.is) (armed_over settings d armed.kept armed.stays armed.arms),
        armed_cold settings disks xs ys rest a.1,
      )

  -- they are seen as the logs on the disks were
  pub cold_nodes_shown : (settings : Settings) (disks : List D) (xs : List (Node D)) (ss : List LogSeen) → AreColdOver content control settings disks xs → ShowDisks content disks ss → ShowNodes content xs (map node_back ss)
  cold_nodes_shown settings [] [] [] c s = tt
  cold_nodes_shown settings [] [] (k ∷ ss) c s = absurd s
  cold_nodes_shown settings [] (x ∷ xs) ss c s = absurd c
  cold_nodes_shown settings (d ∷ disks) [] ss c s = absurd c
  cold_nodes_shown settings (d ∷ disks) (x ∷ xs) [] c s = absurd s
  cold_nodes_shown settings (d ∷ disks) (x ∷ xs) (k ∷ ss) c s = (
    subst (λ (y : Node D). (t : LogSeen) × ShowsSeen content y.log t × (node_back k ≡ node_of y t)) (sym c.0.node) (k, c.0.seen k s.0, refl),
    cold_nodes_shown settings disks xs ss c.1 s.1,
  )

  pub cold_shown : (settings : Settings) (registry : Registry) (disks : List D) (h : PartitionState D) (ss : List LogSeen) → IsColdPartition content control settings registry disks h → ShowDisks content disks ss → ShowsPartition content h (partition_back registry ss)
  cold_shown settings registry disks h ss c s = record {
    registry = sym c.registry_is;
    nodes = cold_nodes_shown settings disks h.nodes ss c.nodes s;
    clock = sym c.clock;
  }

  -- they have what their turns need
  pub cold_count : (settings : Settings) (disks : List D) (xs : List (Node D)) → AreColdOver content control settings disks xs → length xs ≡ length disks
  cold_count settings [] [] c = refl
  cold_count settings [] (x ∷ xs) c = absurd c
  cold_count settings (d ∷ disks) [] c = absurd c
  cold_count settings (d ∷ disks) (x ∷ xs) c = ap suc (cold_count settings disks xs c.1)

  nodes_sound : (r : Registry) (settings : Settings) (disks : List D) (xs : List (Node D)) (b : ℕ) (x : Node D) → AreColdOver content control settings disks xs → slice_get xs b ≡ Some x → LeaderSound r x
  nodes_sound r settings [] [] b x c at = absurd cc
  nodes_sound r settings [] (y ∷ xs) b x c at = absurd c
  nodes_sound r settings (d ∷ disks) [] b x c at = absurd c
  nodes_sound r settings (d ∷ disks) (y ∷ xs) zero x c at =
      let same : cold_node settings c.0.now ≡ x = let is : y ≡ x = cc (at) in sym c.0.node ∙ is in
      subst (LeaderSound r) same (cold_node_sound r settings c.0.now)
  nodes_sound r settings (d ∷ disks) (y ∷ xs) (suc b) x c at = nodes_sound r settings disks xs b x c.1 at

  pub cold_sound : (n : ℕ) (settings : Settings) (registry : Registry) (disks : List D) (h : PartitionState D) → length disks ≡ n → length registry.replicas ≡ n → registry.epoch < 2 ^ 31
      → IsColdPartition content control settings registry disks h → SoundPartition n h
  cold_sound n settings registry disks h count same low c = record {
    count = cold_count settings disks h.nodes c.nodes ∙ count;
    same = ap (λ (r : Registry). length r.replicas) c.registry_is ∙ same;
    epoch = subst (λ (r : Registry). r.epoch < 2 ^ 31) (sym c.registry_is) low;
    nodes = λ b x at. nodes_sound h.registry settings disks h.nodes b x c.nodes at;
  }

module _ {D : Type 0} (content : D → Content) where
  disk_reopens : (k : LogState D) (disk : D) → OnDisk k (λ d. disk ≡ d) → (IsTrue (is_up k) → OnDisk k (λ d. Reopens (content d))) → IsTrue (is_up k) ⊎ ((s : LogSeen) × ShowsSeen content k s) → Reopens (content disk)
  disk_reopens (Up l) disk is all either = subst (λ (d : D). Reopens (content d)) (sym is) (all refl)
  disk_reopens (Down settings d) disk is all (inl up) = absurd cc
  disk_reopens (Down settings d) disk is all (inr shows) = subst (λ (e : D). Reopens (content e)) (sym is) shows.1.again
  disk_reopens Away disk is all either = absurd is

  -- the disks that come back can be opened again
  pub disks_reopen : (nodes : List (Node D)) (disks : List D) → AllReopen content nodes → AreDisksOf nodes disks → DisksReopen content nodes disks
  disks_reopen [] disks all are b x disk at to either = absurd cc
  disks_reopen (y ∷ nodes) [] all are b x disk at to either = absurd are
  disks_reopen (y ∷ nodes) (d ∷ disks) all are zero x disk at to either =
      let one : y ≡ x = cc (at) in
      let same : d ≡ disk = cc (to) in
      disk_reopens x.log disk (subst (λ (k : Node D). OnDisk k.log (λ e. disk ≡ e)) one (subst (λ (k : D). OnDisk y.log (λ e. k ≡ e)) same are.0)) (all zero x at) either
  disks_reopen (y ∷ nodes) (d ∷ disks) all are (suc b) x disk at to either =
      disks_reopen nodes disks (λ n z there. all (suc n) z there) are.1 b x disk at to either
