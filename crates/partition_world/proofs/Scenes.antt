-- The scene of the tier at a turn, and after it.
use Rattle.std.proofs.Common.{◌≡◌, ◌∙◌, sym, ap, refl, ℕ, ◌+◌, ◌^◌, ◌<◌, List, [], ◌∷◌, length, slice_get, slice_set, Some, Option, arith}
use Rattle.disk_model.specs.declared.disk.Disk.{Ghosts as DiskGhosts}
use Rattle.object_store.specs.declared.store.Store.{Ghosts as StoreGhosts}
use Rattle.object_store.specs.Content.{Objects}
use Rattle.meta_log.specs.declared.log.MetaLog.{Ghosts as MetaGhosts}
use Rattle.segment_meta.specs.declared.note.Note.{Note}
use Rattle.remote_view.specs.Fold.{EntriesSeen as View}
use Rattle.plain_log.specs.declared.answer.Answer.{Answer}
use Rattle.plain_log.specs.declared.command.ActorList.{ActorList}
use Rattle.plain_log.specs.declared.command.Order.{Order}
use Rattle.plain_log.specs.declared.state.State.{State}
use Rattle.broker_log.specs.Seen as log
use Rattle.laws_partition.specs.Seen as seen
use Rattle.laws_tier_turns.specs.BrokerTiers.{tier_view_of, tier_views_of}
use Rattle.partition_commands.specs.declared.partition_state.Node.{Node}
use Rattle.partition_commands.specs.Partition.{node_of}
use Rattle.partition_commands.specs.Shown.{Sees}
use Rattle.partition_commands.proofs.Shown.{sees_at}
use Rattle.tier_safe.specs.Scene.{Scene, BrokerTierView, TierTask, Free}
use Rattle.tier_safe.specs.Changes.{Moves, Leaves}
use Rattle.tier_safe.specs.May.{IsChanged}
use Rattle.tier_safe.specs.Turns.{ShowsScene, after_turn}
use Rattle.partition_world.specs.declared.actor_state.Outcome.{Outcome}
use Rattle.partition_world.specs.declared.actor_state.Outcome.TheVariants.{Answers}
use Rattle.partition_world.specs.declared.actor_state.ActorState.{ActorState}
use Rattle.partition_world.specs.declared.tier.BrokerTierState.{BrokerTierState}
use Rattle.partition_world.specs.ActorStates.{actor_state_after}
use Rattle.partition_world.specs.Central.{broker_tier_seen, broker_tiers_seen, tier_task_of, desk_of, notes_left, ShowsTier, IsCentral}
use Rattle.partition_world.specs.Turn.{IsTurn}
use Rattle.partition_world.specs.Whole.{Whole}
use Rattle.partition_world.proofs.CopyEnds.{TellsOn}
use Rattle.partition_world.proofs.NotesLeft.{notes_few}
use Rattle.partition_world.proofs.SceneParts.{tier_view_at, tier_view_set, actor_state_at, actor_state_set, idle_free}
use Rattle.partition_world.proofs.BrokerTierStates.{set_same}

module _ {D S M : Type 0} (disk : DiskGhosts D) (store : StoreGhosts S) (meta : MetaGhosts M) where
  -- where a turn takes place: its state and order, its broker, and how that is seen
  pub record Place (opening : State) (w : Whole D S M) (c : IsCentral disk store meta opening w) (place : ℕ) (l : ActorList) (actor_state : ActorState) (order : Order) : Type 0 where
    pub list : slice_get w.lists place ≡ Some l
    pub actor_state_is : slice_get w.desk place ≡ Some actor_state
    pub next : slice_get l.orders actor_state.number ≡ Some order
    pub x : Node D
    pub at : slice_get w.partition_state.nodes order.broker.0 ≡ Some x
    pub broker_tier : BrokerTierState
    pub broker_tier_at : slice_get w.tier.broker_tiers order.broker.0 ≡ Some broker_tier
    pub s : log.LogSeen
    pub sees : Sees disk.content w.partition_state c.partition order.broker.0 x s

  abbrev pub place_of : (opening : State) (w : Whole D S M) (c : IsCentral disk store meta opening w) (place : ℕ) (l : ActorList) (actor_state : ActorState) (order : Order) → slice_get w.lists place ≡ Some l
      → slice_get w.desk place ≡ Some actor_state → slice_get l.orders actor_state.number ≡ Some order → (x : Node D) → slice_get w.partition_state.nodes order.broker.0 ≡ Some x → (broker_tier : BrokerTierState)
      → slice_get w.tier.broker_tiers order.broker.0 ≡ Some broker_tier → Place opening w c place l actor_state order
  place_of opening w c place l actor_state order list actor_state_is next x at broker_tier broker_tier_at =
      let v = sees_at disk.content disk.control w.partition_state c.partition order.broker.0 x c.shows at in
      record { list = list; actor_state_is = actor_state_is; next = next; x = x; at = at; broker_tier = broker_tier; broker_tier_at = broker_tier_at; s = v.0; sees = v.1 }

  module _ (opening : State) (w : Whole D S M) (c : IsCentral disk store meta opening w) (place : ℕ) (l : ActorList) (actor_state : ActorState) (order : Order) (z : Place opening w c place l actor_state order) where
    -- the broker's tier state of the scene
    abbrev pub tier_view : BrokerTierView
    tier_view = tier_view_of (node_of z.x z.s) (broker_tier_seen z.broker_tier)

    pub tier_view_is : slice_get c.scene.tier_views order.broker.0 ≡ Some tier_view
    tier_view_is = ap (λ (k : List BrokerTierView). slice_get k order.broker.0) c.shows_tier.tier_views
        ∙ tier_view_at c.partition.nodes w.tier.broker_tiers order.broker.0 (node_of z.x z.s) z.broker_tier z.sees.there z.broker_tier_at

    -- the state of the scene
    pub on_desk : slice_get c.scene.desk place ≡ Some (tier_task_of (Some order) actor_state.in_progress)
    on_desk = ap (λ (k : List TierTask). slice_get k place) c.shows_tier.desk ∙ actor_state_at w.lists w.desk place l actor_state z.list z.actor_state_is
        ∙ ap (λ (o : Option Order). Some (tier_task_of o actor_state.in_progress)) z.next

    pub shows_at : ShowsScene c.scene place order.broker.0 tier_view (tier_task_of (Some order) actor_state.in_progress) (store.content w.tier.store) (meta.content w.tier.meta) z.broker_tier.view
    shows_at = record {
      objects_are = c.shows_tier.objects;
      notes_are = c.shows_tier.notes;
      store_tells = c.shows_tier.store_tells;
      meta_tells = c.shows_tier.meta_tells;
      tier_view_is = tier_view_is;
      view_is = refl;
      actor_state = on_desk;
    }

    -- the scene after a turn that changed the broker's view at most
    abbrev pub scene_after : TierTask → Objects → List Note → View → Scene
    scene_after in_progress objects notes view = after_turn c.scene place order.broker.0 tier_view in_progress objects notes view

    -- what an actor's state shows after a turn
    abbrev pub tier_task_after : Outcome → TierTask
    tier_task_after outcome = tier_task_of (slice_get l.orders (actor_state_after actor_state outcome).number) (actor_state_after actor_state outcome).in_progress

    -- the scene after a turn that left this tier state
    abbrev pub scene_with : TierTask → Objects → List Note → BrokerTierState → Scene
    scene_with in_progress objects notes broker_tier = record {
      partition = c.scene.partition;
      objects = objects;
      notes = notes;
      tier_views = slice_set c.scene.tier_views order.broker.0 (tier_view_of (node_of z.x z.s) (broker_tier_seen broker_tier));
      desk = slice_set c.scene.desk place in_progress;
    }

    pub shows_with : (w' : Whole D S M) (outcome : Outcome) (in_progress : TierTask) (objects : Objects) (notes : List Note) (broker_tier : BrokerTierState) → w'.partition ≡ w.partition → w'.lists ≡ w.lists
        → w'.desk ≡ slice_set w.desk place (actor_state_after actor_state outcome) → w'.tier.broker_tiers ≡ slice_set w.tier.broker_tiers order.broker.0 broker_tier
        → TellsOn store meta w.tier.store w.tier.meta w'.tier.store w'.tier.meta → objects ≡ (store.content w'.tier.store).objects → notes ≡ (meta.content w'.tier.meta).notes
        → tier_task_after outcome ≡ in_progress → ShowsTier store meta w' c.partition (scene_with in_progress objects notes broker_tier)
    shows_with w' outcome in_progress objects notes broker_tier part lists desk broker_tiers is_observable objects_are notes_are is = record {
      partition = c.shows_tier.partition ∙ sym part;
      store_tells = is_observable.0 ∙ c.shows_tier.store_tells;
      objects = objects_are;
      meta_tells = is_observable.1 ∙ c.shows_tier.meta_tells;
      notes = notes_are;
      tier_views = ap (λ (k : List BrokerTierView). slice_set k order.broker.0 (tier_view_of (node_of z.x z.s) (broker_tier_seen broker_tier))) c.shows_tier.tier_views
          ∙ (sym (tier_view_set c.partition.nodes w.tier.broker_tiers order.broker.0 (node_of z.x z.s) broker_tier z.sees.there)
          ∙ ap (λ (k : List BrokerTierState). tier_views_of c.partition.nodes (broker_tiers_seen k)) (sym broker_tiers));
      desk = ap (λ (k : List TierTask). slice_set k place in_progress) c.shows_tier.desk
          ∙ (ap (λ (k : TierTask). slice_set (desk_of w.lists w.desk) place k) (sym is)
          ∙ (sym (actor_state_set w.lists w.desk place l (actor_state_after actor_state outcome) z.list)
          ∙ (ap (λ (k : List ActorList). desk_of k (slice_set w.desk place (actor_state_after actor_state outcome))) (sym lists) ∙ ap (λ (k : List ActorState). desk_of w'.lists k) (sym desk))));
    }

    pub shows_after : (w' : Whole D S M) (outcome : Outcome) (in_progress : TierTask) (objects : Objects) (notes : List Note) (view : View) → w'.partition ≡ w.partition → w'.lists ≡ w.lists
        → w'.desk ≡ slice_set w.desk place (actor_state_after actor_state outcome) → w'.tier.broker_tiers ≡ slice_set w.tier.broker_tiers order.broker.0 (record z.broker_tier { view = view })
        → TellsOn store meta w.tier.store w.tier.meta w'.tier.store w'.tier.meta → objects ≡ (store.content w'.tier.store).objects → notes ≡ (meta.content w'.tier.meta).notes
        → tier_task_after outcome ≡ in_progress → ShowsTier store meta w' c.partition (scene_after in_progress objects notes view)
    shows_after w' outcome in_progress objects notes view = shows_with w' outcome in_progress objects notes (record z.broker_tier { view = view })

    -- after one that left the desk as it was
    pub shows_kept : (w' : Whole D S M) (objects : Objects) (notes : List Note) (view : View) → w'.partition ≡ w.partition → w'.lists ≡ w.lists → w'.desk ≡ w.desk
        → w'.tier.broker_tiers ≡ slice_set w.tier.broker_tiers order.broker.0 (record z.broker_tier { view = view }) → TellsOn store meta w.tier.store w.tier.meta w'.tier.store w'.tier.meta
        → objects ≡ (store.content w'.tier.store).objects → notes ≡ (meta.content w'.tier.meta).notes
        → ShowsTier store meta w' c.partition (scene_after (tier_task_of (Some order) actor_state.in_progress) objects notes view)
    shows_kept w' objects notes view part lists desk broker_tiers is_observable objects_are notes_are = record {
      partition = c.shows_tier.partition ∙ sym part;
      store_tells = is_observable.0 ∙ c.shows_tier.store_tells;
      objects = objects_are;
      meta_tells = is_observable.1 ∙ c.shows_tier.meta_tells;
      notes = notes_are;
      tier_views = ap (λ (k : List BrokerTierView). slice_set k order.broker.0 (record tier_view { view = view })) c.shows_tier.tier_views
          ∙ (sym (tier_view_set c.partition.nodes w.tier.broker_tiers order.broker.0 (node_of z.x z.s) (record z.broker_tier { view = view }) z.sees.there)
          ∙ ap (λ (k : List BrokerTierState). tier_views_of c.partition.nodes (broker_tiers_seen k)) (sym broker_tiers));
      desk = set_same c.scene.desk place (tier_task_of (Some order) actor_state.in_progress) on_desk
          ∙ (c.shows_tier.desk ∙ (ap (λ (k : List ActorList). desk_of k w.desk) (sym lists) ∙ ap (λ (k : List ActorState). desk_of w'.lists k) (sym desk)));
    }

    -- a tier state that is set to what it was
    pub same_broker_tiers : w.tier.broker_tiers ≡ slice_set w.tier.broker_tiers order.broker.0 (record z.broker_tier { view = z.broker_tier.view })
    same_broker_tiers = sym (set_same w.tier.broker_tiers order.broker.0 z.broker_tier z.broker_tier_at)

    -- a command that leaves the desk, and changes nothing else of the tier
    pub left_changed : IsChanged c.scene c.central.plain (scene_after Free c.scene.objects c.scene.notes z.broker_tier.view)
    left_changed = record {
      changes = Moves place Leaves ∷ [];
      may = (c.central.plain, (refl, tt), refl);
      is = ap (λ (k : List BrokerTierView). record c.scene { tier_views = k; desk = slice_set c.scene.desk place Free }) (sym (set_same c.scene.tier_views order.broker.0 tier_view tier_view_is));
    }

    -- a command that stays at its turn, and changes nothing of the tier
    pub stayed : IsChanged c.scene c.central.plain (scene_after (tier_task_of (Some order) actor_state.in_progress) c.scene.objects c.scene.notes z.broker_tier.view)
    stayed = record {
      changes = [];
      may = refl;
      is = ap (λ (k : List BrokerTierView). record c.scene { tier_views = k }) (sym (set_same c.scene.tier_views order.broker.0 tier_view tier_view_is))
          ∙ ap (λ (k : List TierTask). record c.scene { tier_views = slice_set c.scene.tier_views order.broker.0 tier_view; desk = k }) (sym (set_same c.scene.desk place (tier_task_of (Some order) actor_state.in_progress) on_desk));
    }

    -- an answer frees its state
    pub answered_free : (outcome : Outcome) (answer : Answer) → outcome ≡ Answers answer → tier_task_after outcome ≡ Free
    answered_free outcome answer is = rw is (idle_free (slice_get l.orders (actor_state.number + 1)))

  -- as many metadata events as a view can count
  pub few_now : (opening : State) (w : Whole D S M) → (c : IsCentral disk store meta opening w) → length c.scene.notes < 2 ^ 64
  few_now opening w c = let few = c.few in omega (arith, few)

  pub few_after : (opening : State) (w : Whole D S M) (a : ℕ) (outcome : Outcome) (w' : Whole D S M) → IsTurn disk store meta w a outcome w' → (c : IsCentral disk store meta opening w) → (p : seen.SeenPartition) (d : Scene)
      → ShowsTier store meta w' p d → length d.notes + notes_left w'.lists w'.desk < 2 ^ 64
  few_after opening w a outcome w' t c p d shows =
      let few = c.few in
      let left = notes_few disk store meta w a outcome w' t c.shows_tier.meta_tells in
      let before = ap (λ (k : List Note). length k) c.shows_tier.notes in
      let after = ap (λ (k : List Note). length k) shows.notes in
      omega (arith, few, left, before, after)
