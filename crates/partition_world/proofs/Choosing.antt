-- The second turn of a copy takes a closed segment of its leader's log, under the broker's next id: a change of the tier's scene.
use Rattle.std.proofs.Common.{◌≡◌, ◌∙◌, sym, ap, subst, refl, ℕ, zero, suc, ◌+◌, ◌==◌, ◌<◌, List, [], ◌∷◌, ◌++◌, length, slice_set, Some, Option, IsOk, arith, append_assoc}
use Rattle.std.specs.Prelude.{IsTrue, IsSomeAnd, if◌then◌else◌}
use Rattle.std.specs.Int.{Width, w16, w32, w64, byte_at, byte_len, bytes_high_first, to_be_bytes}
use Rattle.std.specs.List.{All, AllByRecursion}
use Rattle.std.proofs.lemmas.List.Elements.{All-append, All-from_recursion}
use Rattle.std.proofs.Math.Nat.{mod-lt}
use Rattle.tier_base.specs.declared.names.PartitionId.{PartitionId}
use Rattle.tier_base.specs.declared.names.SegmentId.{SegmentId}
use Rattle.tier_base.specs.Key.{id_bytes, IsId}
use Rattle.disk_model.specs.declared.disk.Disk.{Ghosts as DiskGhosts}
use Rattle.disk_model.specs.Content.{Content}
use Rattle.object_store.specs.declared.store.Store.{Ghosts as StoreGhosts}
use Rattle.meta_log.specs.declared.log.MetaLog.{Ghosts as MetaGhosts}
use Rattle.log_terms.specs.Line.{line_of as epochs_of}
use Rattle.log_terms.specs.Log.{end_of}
use Rattle.record_batch.specs.Check.{checked}
use Rattle.epoch_line.specs.Line.{cut_end}
use Rattle.copy_task.specs.Copying.{Copied}
use Rattle.copy_task.specs.declared.turn.CopyStep.TheVariants.{Start}
use Rattle.plain_log.specs.declared.command.ActorList.{ActorList}
use Rattle.plain_log.specs.declared.command.Command.{Command}
use Rattle.plain_log.specs.declared.command.Command.TheVariants.{Copy}
use Rattle.plain_log.specs.declared.command.Order.{Order}
use Rattle.plain_log.specs.declared.state.State.{State}
use Rattle.plain_log.specs.Safe.{is_leaders}
use Rattle.broker_log.specs.Seen.{LogState, Up, Down, Away, ShowsSeen, incarnation_in}
use Rattle.broker_log.specs.Seen as log
use Rattle.broker_log.specs.Read.{IsSegmentOf}
use Rattle.laws_partition.specs.declared.start_snapshot.StartSnapshot.{StartSnapshot}
use Rattle.laws_partition.specs.Partition.{broker_of}
use Rattle.laws_partition.specs.Seen as seen
use Rattle.laws_partition.proofs.BoolTests.{eq_same}
use Rattle.laws_partition.proofs.Lines.{cut_line}
use Rattle.laws_partition.proofs.ProgressLaw.{going}
use Rattle.laws_partition.proofs.Standing.{broker_at, map_get}
use Rattle.laws_tier_turns.specs.BrokerTiers.{tier_view_of, tier_views_of, next_of}
use Rattle.partition_commands.specs.declared.partition_state.Node.{Node}
use Rattle.partition_commands.specs.Partition.{node_of}
use Rattle.partition_commands.proofs.Fronts.{come_apart}
use Rattle.partition_commands.proofs.Shown.{line_shown}
use Rattle.tier_safe.specs.Changes.{Chooses, effect}
use Rattle.tier_safe.specs.Lineage.{IsSource}
use Rattle.tier_safe.specs.May.{MayChoose, IsChanged}
use Rattle.tier_safe.specs.Scene.{Scene, BrokerTierView, TierTask, Free, Copies as CopiesSeen}
use Rattle.tier_safe.specs.Views.{IsIdOf}
use Rattle.tier_safe.proofs.Sources.{segments_are_sources}
use Rattle.partition_world.specs.declared.actor_state.Outcome.TheVariants.{Chose}
use Rattle.partition_world.specs.declared.actor_state.ActorState.{ActorState}
use Rattle.partition_world.specs.declared.actor_state.InProgress.{InProgress}
use Rattle.partition_world.specs.declared.actor_state.InProgress.TheVariants.{Noted}
use Rattle.partition_world.specs.declared.tier.BrokerTierState.{BrokerTierState}
use Rattle.partition_world.specs.declared.tier.RemoteTier.{RemoteTier}
use Rattle.partition_world.specs.Tier.{counted, put_broker_tier}
use Rattle.partition_world.specs.ActorStates.{recorded_in, chosen, actor_state_seen, actor_state_after}
use Rattle.partition_world.specs.Central.{broker_tier_seen, broker_tiers_seen, begun_of, tier_task_of, desk_of, ShowsTier, IsCentral}
use Rattle.partition_world.specs.TurnsOfCopy.{KeepsLead, IsNextCopy, ReadsSegment}
use Rattle.partition_world.specs.Whole.{Whole}
use Rattle.partition_world.proofs.SceneParts.{tier_view_set, actor_state_set}
use Rattle.partition_world.proofs.Scenes.{Place, tier_view, tier_view_is, on_desk}

-- ids

byte_small : (i n : ℕ) → byte_at i n < 256
byte_small zero n = mod-lt n (omega arith)
byte_small (suc i) n = mod-lt _ (omega arith)

bytes_small : (k n : ℕ) → AllByRecursion (λ (b : ℕ). b < 256) (bytes_high_first k n)
bytes_small zero n = tt
bytes_small (suc k) n = (byte_small k n, bytes_small k n)

field_small : (w : Width) (n : ℕ) → All (λ (b : ℕ). b < 256) (to_be_bytes w n)
field_small w n = All-from_recursion (λ (b : ℕ). b < 256) (to_be_bytes w n) (bytes_small (byte_len w) n)

id_small : (p b i n : ℕ) → All (λ (k : ℕ). k < 256) (id_bytes p b i n)
unfolding id_bytes
id_small p b i n =
    All-append (λ (k : ℕ). k < 256) (to_be_bytes w16 p) (to_be_bytes w16 b ++ (to_be_bytes w32 i ++ to_be_bytes w64 n)) (field_small w16 p)
    (All-append (λ (k : ℕ). k < 256) (to_be_bytes w16 b) (to_be_bytes w32 i ++ to_be_bytes w64 n) (field_small w16 b)
    (All-append (λ (k : ℕ). k < 256) (to_be_bytes w32 i) (to_be_bytes w64 n) (field_small w32 i) (field_small w64 n)))

id_size : (p b i n : ℕ) → length (id_bytes p b i n) ≡ 16
unfolding id_bytes
id_size p b i n = refl

-- an id that is made of fields is one
id_fits : (id : SegmentId) (p b i n : ℕ) → IsIdOf id p b i n → IsId id
id_fits id p b i n k = record {
  size = ap (λ (t : List ℕ). length t) k.is ∙ id_size p b i n;
  bytes = subst (λ (t : List ℕ). All (λ (b : ℕ). b < 256) t) (sym k.is) (id_small p b i n);
}

-- what holds of how often a log was opened holds of how often it is seen to have been
opened_so : {D : Type 0} (content : D → Content) (k : LogState D) (s : log.LogSeen) (P : ℕ → Type 0) → ShowsSeen content k s → IsSomeAnd (incarnation_in k) P → P s.incarnation
opened_so content (Up l) s P h p = subst P (sym h.incarnation_is) p
opened_so content (Down settings d) s P h p = elim p [ ]
opened_so content Away s P h p = elim p [ ]

-- the number of a broker's next copy is one more
next_number : (i n : ℕ) → (if i == i then n else 0) ≡ n
next_number i n = rw (eq_same i i refl) refl

next_tier_view : (y : seen.Node) (broker_tier : BrokerTierState) → record (tier_view_of y (broker_tier_seen broker_tier)) { next = next_of (broker_tier_seen broker_tier) y.incarnation + 1 } ≡ tier_view_of y (broker_tier_seen (counted broker_tier y.incarnation))
next_tier_view y broker_tier = ap (λ (n : ℕ). record (tier_view_of y (broker_tier_seen broker_tier)) { next = n }) (sym (next_number y.incarnation (next_of (broker_tier_seen broker_tier) y.incarnation + 1)))

-- an actor's state that has recorded something, and chooses a copy
recorded_free : (order : Order) (in_progress : InProgress) (g : StartSnapshot) → in_progress ≡ Noted g → order.command ≡ Copy → tier_task_of (Some order) in_progress ≡ Free
recorded_free order in_progress g recorded is = ap (λ (k : InProgress). tier_task_of (Some order) k) recorded ∙ ap (λ (k : Command). begun_of order.broker.0 g k) is

chosen_copies : (o : Option Order) (order : Order) (in_progress : InProgress) (g : StartSnapshot) (copy : Copied) → o ≡ Some order → in_progress ≡ Noted g → tier_task_of o (chosen in_progress copy) ≡ CopiesSeen copy Start
chosen_copies o order in_progress g copy next recorded =
    ap (λ (k : Option Order). tier_task_of k (chosen in_progress copy)) next ∙ ap (λ (k : InProgress). tier_task_of (Some order) (chosen k copy)) recorded

module _ {D S M : Type 0} (disk : DiskGhosts D) (store : StoreGhosts S) (meta : MetaGhosts M) where
  module _ (opening : State) (w : Whole D S M) (c : IsCentral disk store meta opening w) (place : ℕ) (l : ActorList) (actor_state : ActorState) (order : Order) (z : Place disk store meta opening w c place l actor_state order) where
    -- the scene once the copy is chosen
    abbrev pub chosen_scene : Copied → Scene
    chosen_scene copy = effect (Chooses place order.broker.0 (tier_view disk store meta opening w c place l actor_state order z) copy) c.scene

    -- what is copied is a closed segment of the leader's path
    chosen_source : (g : StartSnapshot) (copy : Copied) → actor_state.in_progress ≡ Noted g → order.command ≡ Copy → KeepsLead z.x g → IsSegmentOf z.s copy.segment
        → IsNextCopy w.partition order.broker.0 z.x z.broker_tier copy.segment copy → IsSource c.central.plain.paths copy
    chosen_source g copy recorded is lead part k =
        let y = node_of z.x z.s in
        let P = λ (batch : List ℕ). IsOk (checked batch) in
        let stands = c.central.stands in
        let at = broker_at c.partition c.central.plain order.broker.0 y stands.partition_state z.sees.there in
        let actor_states = stands.desk place l (actor_state_seen actor_state) z.list (map_get actor_state_seen w.desk place actor_state z.actor_state_is) in
        let on = going c.central.plain y order l (actor_state_seen actor_state) g c.central.safe actor_states z.next (ap recorded_in recorded) at in
        let leads = on.leads (ap is_leaders is) in
        let same : part.batches ≡ k.is.batches = come_apart part.batches k.is.batches part.are (All-from_recursion P k.is.batches k.is.is.checked) (sym part.bytes_are ∙ k.is.bytes_are) in
        let front = part.before ++ k.is.batches in
        let parts : front ++ part.after ≡ z.s.batches =
        append_assoc part.before k.is.batches part.after ∙ (ap (λ (t : List (List ℕ)). part.before ++ (t ++ part.after)) (sym same) ∙ sym part.parts) in
        let line : copy.line ≡ z.s.line = k.line_is ∙ line_shown disk.content z.x z.s lead.up z.sees.shows in
        let kept = (stands.lines.each order.broker.0 y z.sees.there).sound.log in
        let cut : cut_end copy.line (end_of front) ≡ epochs_of front =
        ap (λ (t : List (ℕ × ℕ)). cut_end t (end_of front)) line ∙ cut_line z.s.line front z.s.batches kept.consecutive kept.line_is (part.after, parts) in
        segments_are_sources c.central.plain order.broker.0 (broker_of y) leads.0 copy k.is part.before part.after c.central.safe at (sym lead.role ∙ leads.1) parts part.begins cut

    -- choosing it is a change of the tier
    pub chosen_changed : (g : StartSnapshot) (copy : Copied) (offset : ℕ) (x' : Node D) → actor_state.in_progress ≡ Noted g → order.command ≡ Copy → KeepsLead z.x g → ReadsSegment disk z.x offset copy.segment x'
        → IsNextCopy w.partition order.broker.0 z.x z.broker_tier copy.segment copy → IsChanged c.scene c.central.plain (chosen_scene copy)
    chosen_changed g copy offset x' recorded is lead reads k =
        let b = order.broker.0 in
        let at = tier_view disk store meta opening w c place l actor_state order z in
        let id : IsIdOf copy.id w.partition.0 b at.incarnation at.next =
        opened_so disk.content z.x.log z.s (λ (i : ℕ). IsIdOf copy.id w.partition.0 b i (next_of (broker_tier_seen z.broker_tier) i)) z.sees.shows k.id in
        let may : MayChoose place b at copy c.scene c.central.plain = record {
          actor_state = on_desk disk store meta opening w c place l actor_state order z ∙ ap (λ (t : TierTask). Some t) (recorded_free order actor_state.in_progress g recorded is);
          tier_view_is = tier_view_is disk store meta opening w c place l actor_state order z;
          up = lead.up;
          partition = k.partition_is ∙ sym c.shows_tier.partition;
          id = subst (λ (p : PartitionId). IsIdOf copy.id p.0 b at.incarnation at.next) (sym k.partition_is) id;
          fits = id_fits copy.id w.partition.0 b at.incarnation at.next id;
          source = chosen_source g copy recorded is lead (reads.part z.s z.sees.shows) k;
        } in
        record { changes = Chooses place b at copy ∷ []; may = (c.central.plain, (refl, may), refl); is = refl }

    -- how the tier is seen then
    pub chosen_shown : (w' : Whole D S M) (g : StartSnapshot) (copy : Copied) → w'.partition ≡ w.partition → w'.lists ≡ w.lists → w'.desk ≡ slice_set w.desk place (actor_state_after actor_state (Chose copy))
        → IsSomeAnd (incarnation_in z.x.log) (λ i. w'.tier ≡ put_broker_tier w.tier order.broker.0 (counted z.broker_tier i)) → actor_state.in_progress ≡ Noted g → ShowsTier store meta w' c.partition (chosen_scene copy)
    chosen_shown w' g copy part lists desk counts recorded =
        let b = order.broker.0 in
        let y = node_of z.x z.s in
        let at = tier_view disk store meta opening w c place l actor_state order z in
        let after = actor_state_after actor_state (Chose copy) in
        let tier : w'.tier ≡ put_broker_tier w.tier b (counted z.broker_tier z.s.incarnation) =
        opened_so disk.content z.x.log z.s (λ (i : ℕ). w'.tier ≡ put_broker_tier w.tier b (counted z.broker_tier i)) z.sees.shows counts in
        let objects : w.tier.store ≡ w'.tier.store = ap (λ (t : RemoteTier S M). t.store) (sym tier) in
        let notes : w.tier.meta ≡ w'.tier.meta = ap (λ (t : RemoteTier S M). t.meta) (sym tier) in
        record {
          partition = c.shows_tier.partition ∙ sym part;
          store_tells = subst (λ (t : S). IsTrue (store.content t).is_observable) objects c.shows_tier.store_tells;
          objects = c.shows_tier.objects ∙ ap (λ (t : S). (store.content t).objects) objects;
          meta_tells = subst (λ (t : M). IsTrue (meta.content t).is_observable) notes c.shows_tier.meta_tells;
          notes = c.shows_tier.notes ∙ ap (λ (t : M). (meta.content t).notes) notes;
          tier_views = ap (λ (k : List BrokerTierView). slice_set k b (record at { next = at.next + 1 })) c.shows_tier.tier_views
              ∙ (ap (λ (k : BrokerTierView). slice_set (tier_views_of c.partition.nodes (broker_tiers_seen w.tier.broker_tiers)) b k) (next_tier_view y z.broker_tier)
              ∙ (sym (tier_view_set c.partition.nodes w.tier.broker_tiers b y (counted z.broker_tier z.s.incarnation) z.sees.there)
              ∙ ap (λ (t : RemoteTier S M). tier_views_of c.partition.nodes (broker_tiers_seen t.broker_tiers)) (sym tier)));
          desk = ap (λ (k : List TierTask). slice_set k place (CopiesSeen copy Start)) c.shows_tier.desk
              ∙ (ap (λ (k : TierTask). slice_set (desk_of w.lists w.desk) place k) (sym (chosen_copies _ order actor_state.in_progress g copy z.next recorded))
              ∙ (sym (actor_state_set w.lists w.desk place l after z.list)
              ∙ (ap (λ (k : List ActorList). desk_of k (slice_set w.desk place after)) (sym lists) ∙ ap (λ (k : List ActorState). desk_of w'.lists k) (sym desk))));
        }
