-- Each turn of an expiry keeps the central fact. What it takes up is due, and its deletion makes changes of the tier;
-- of the partition only a raise of the log start offset is seen.
use Rattle.std.proofs.Common.{◌≡◌, ◌∙◌, inl, inr, sym, ap, subst, refl, ℕ, ◌<◌, ◌&&◌, ◌==◌, List, [], ◌∷◌, slice_get, slice_set, Some, Option, Ok, Err, Bool, true, false, arith}
use Rattle.std.specs.Prelude.{nat_lt, nat_le, not, if◌then◌else◌, IsSomeAnd}
use Rattle.std.proofs.lemmas.Bool.Decides.{nat_tests}
use Rattle.disk_model.specs.declared.disk.Disk.{Ghosts as DiskGhosts}
use Rattle.object_store.specs.declared.store.Store.{Ghosts as StoreGhosts}
use Rattle.object_store.specs.Content.{Objects}
use Rattle.meta_log.specs.declared.log.MetaLog.{Ghosts as MetaGhosts}
use Rattle.segment_meta.specs.declared.note.Note.{Note}
use Rattle.segment_meta.specs.declared.note.Entry.{Entry}
use Rattle.registry.specs.declared.registry.Registry.{Registry}
use Rattle.registry.specs.declared.refusal.RegRefusal.TheVariants as Reg
use Rattle.registry.specs.Calls.{when, is_stale, after_raise}
use Rattle.remote_view.specs.Fold.{EntriesSeen as View, entry_of, fold}
use Rattle.remote_view.specs.Lookup.{is_due, due}
use Rattle.remote_view.proofs.Best.{Among, entry_found}
use Rattle.expiry_task.specs.declared.turn.ExpiredSegment.{ExpiredSegment}
use Rattle.plain_log.specs.declared.turn.Turn.{Turn}
use Rattle.plain_log.specs.declared.turn.Turn.TheVariants.{Goes as GoesOn, Ends}
use Rattle.expiry_task.specs.declared.turn.DeletionStep.{DeletionStep}
use Rattle.expiry_task.specs.declared.turn.DeletionStep.TheVariants.{Start}
use Rattle.plain_log.specs.declared.answer.Answer.TheVariants.{LostLead, Kept, StaleEpoch, Raised}
use Rattle.plain_log.specs.declared.command.Command.{Command}
use Rattle.plain_log.specs.declared.command.Command.TheVariants.{Expire}
use Rattle.plain_log.specs.declared.command.Order.{Order}
use Rattle.plain_log.specs.declared.state.Role.TheVariants.{Leads}
use Rattle.plain_log.specs.declared.state.State.{State}
use Rattle.laws_partition.specs.declared.start_snapshot.StartSnapshot.{StartSnapshot}
use Rattle.laws_partition.specs.declared.start_snapshot.Turned.TheVariants as turned
use Rattle.plain_log.specs.State.{epoch_in}
use Rattle.laws_partition.specs.RowsOfTiers as seen_tiers
use Rattle.laws_partition.specs.Seen as seen
use Rattle.laws_partition.proofs.BoolTests.{some_of}
use Rattle.partition_commands.specs.Partition.{node_of, ShowsPartition}
use Rattle.partition_commands.specs.Shown.{Refines}
use Rattle.partition_commands.proofs.Shown.{leaves, some_at}
use Rattle.tier_safe.specs.Changes.{Moves, ChoosesExpired}
use Rattle.tier_safe.specs.May.{IsChanged}
use Rattle.tier_safe.specs.Moves.{MayChooseExpired}
use Rattle.tier_safe.specs.Scene.{Scene, BrokerTierView, TierTask, Free, Expires as ExpiresSeen}
use Rattle.tier_safe.specs.Turns.{ShowsScene, expiry_tier_task}
use Rattle.tier_safe.proofs.Entries.{prefix_goes}
use Rattle.tier_safe.proofs.Turning.{expiry_turns}
use Rattle.partition_world.specs.declared.actor_state.Outcome.{Outcome}
use Rattle.partition_world.specs.declared.actor_state.Outcome.TheVariants as outcomes
use Rattle.partition_world.specs.declared.actor_state.Outcome.TheVariants.{Answers, Deletes}
use Rattle.partition_world.specs.declared.actor_state.InProgress.{InProgress}
use Rattle.partition_world.specs.declared.actor_state.InProgress.TheVariants.{Idle, Noted, Expires}
use Rattle.partition_world.specs.declared.tier.RemoteTier.{RemoteTier}
use Rattle.partition_world.specs.ActorStates.{expired_segment, deleting, expiry_outcome, actor_state_after, actor_state_seen, told_of}
use Rattle.partition_world.specs.Central.{IsCentral, begun_of, tier_task_of}
use Rattle.partition_world.specs.Turn.{IsTurn}
use Rattle.partition_world.specs.TurnsOfCopy.{KeepsLead, origin_of}
use Rattle.partition_world.specs.TurnsOfExpiry.{ExpireFirstRow, ExpiryRaiseRow, TakesUp, GoesOnDeletion, DeleteOnRow, expiry_tiers}
use Rattle.partition_world.specs.Whole.{Whole}
use Rattle.partition_world.proofs.CopyEnds.{keeps_seen, keeps_back}
use Rattle.partition_world.proofs.ExpiryEnds.{expiry_ends, expiry_tells, end_row}
use Rattle.partition_world.proofs.LineTells.{right_view}
use Rattle.partition_world.proofs.Scenes.{Place, tier_view_is, on_desk, shows_at, tier_task_after, same_broker_tiers, answered_free}
use Rattle.partition_world.proofs.Recording.{GoesAsRecorded}
use Rattle.partition_world.proofs.Dating.{IsNoDate}
use Rattle.partition_world.proofs.BrokerTierStates.{set_same}
use Rattle.partition_world.proofs.TurnCentral.{here, after, shown, entered, stands, partition_state_same, leads_first, silent, untold, unseen}
use Rattle.partition_world.proofs.WorldSound.{expired_segment_seen, deleting_seen}

-- the first entry that is due is one of the entries, and is due
due_found : (start : ℕ) (es : List Entry) (e : Entry) → due start es ≡ Some e → Among e es × (is_due start e ≡ true)
due_found start [] e is = absurd cc
due_found start (x ∷ es) e is = by (is_due start x) refl is (due_found start es e)
  where
    by : (t : Bool) → is_due start x ≡ t → (if t then Some x else due start es) ≡ Some e → (due start es ≡ Some e → Among e es × (is_due start e ≡ true))
        → Among e (x ∷ es) × (is_due start e ≡ true)
    by true t one more = let same : x ≡ e = cc (one) in (inl (sym same), ap (is_due start) (sym same) ∙ t)
    by false t one more = let k = more one in (inr k.0, k.1)

-- a raise that the registry refuses since another leads leaves it as it is
stale_raise : (r : Registry) (e wanted n : ℕ) (P : Registry → Type 0) → IsSomeAnd (after_raise r e wanted (Err (Reg.StaleEpoch n))) P → (e < r.epoch) × (n ≡ r.epoch) × P r
stale_raise r e wanted n P w = by (is_stale r e) (n == r.epoch) refl refl w
  where
    by : (s t : Bool) → nat_lt e r.epoch ≡ s → (n == r.epoch) ≡ t → IsSomeAnd (when (s && t) r) P → (e < r.epoch) × (n ≡ r.epoch) × P r
    by true true s t k = (grind (arith, nat_tests, s), grind (arith, nat_tests, t), k)
    by true false s t k = absurd k
    by false t s u k = absurd k

-- one that the registry grants is to the start that was asked for
granted_raise : (r : Registry) (e wanted start : ℕ) (P : Registry → Type 0) → IsSomeAnd (after_raise r e wanted (Ok start)) P → start ≡ wanted
granted_raise r e wanted start P w = by (not (is_stale r e) && nat_lt r.start wanted && nat_le wanted r.mark) (start == wanted) refl _ w
  where
    by : (s t : Bool) → (start == wanted) ≡ t → (k : Registry) → IsSomeAnd (when (s && t) k) P → start ≡ wanted
    by true true t r k = grind (arith, nat_tests, t)
    by true false t r k = absurd k
    by false t u r k = absurd k

module _ {D S M : Type 0} (disk : DiskGhosts D) (store : StoreGhosts S) (meta : MetaGhosts M) where
  -- a turn of an expiry, in its place
  module _ (opening : State) (w : Whole D S M) (a : ℕ) (outcome : Outcome) (w' : Whole D S M) (t : IsTurn disk store meta w a outcome w') (c : IsCentral disk store meta opening w)
      (z : Place disk store meta opening w c t.place t.list t.actor_state t.order) (expires : t.order.command ≡ Expire) where
    abbrev y : seen.Node
    y = node_of z.x z.s

    abbrev its : BrokerTierView
    its = here disk store meta opening w a outcome w' t c z Expire expires

    abbrev next_scene : TierTask → Objects → List Note → View → Scene
    next_scene = after disk store meta opening w a outcome w' t c z Expire expires

    same_partition_state : w'.partition_state ≡ w.partition_state → ShowsPartition disk.content w'.partition_state c.partition
    same_partition_state = partition_state_same disk store meta opening w a outcome w' t c z Expire expires

    start_plain : c.central.plain.registry.start ≡ w.partition_state.registry.start
    start_plain = ap (λ (r : Registry). r.start) c.central.stands.partition_state.registry ∙ ap (λ (r : Registry). r.start) z.sees.partition_state.registry

    epoch_seen : c.partition.registry ≡ w.partition_state.registry
    epoch_seen = z.sees.partition_state.registry

    pub expire_first : t.actor_state.in_progress ≡ Idle → (o : Outcome) → outcome ≡ o → ExpireFirstRow meta w.partition_state w.tier t.order.broker.0 z.x z.broker_tier o w'.tier → w'.partition_state ≡ w.partition_state → IsCentral disk store meta opening w'
    expire_first idle o is row same = leads_first disk store meta opening w a outcome w' t c z Expire expires idle (λ turn. refl) (λ g. refl) (λ turn r. r) o is row same

    -- the second turn

    pub expire_lost : (g : StartSnapshot) → t.actor_state.in_progress ≡ Noted g → outcome ≡ Answers LostLead → (KeepsLead z.x g → ⊥) → w'.tier ≡ w.tier → w'.partition_state ≡ w.partition_state → IsCentral disk store meta opening w'
    expire_lost g recorded is lost tier partition_state =
        stands disk store meta opening w a outcome w' t c z Expire expires (Noted g) recorded LostLead is refl tier (same_partition_state partition_state) ((λ k. lost (keeps_back z.x z.s g k)), refl)

    pub expire_kept : (g : StartSnapshot) → t.actor_state.in_progress ≡ Noted g → outcome ≡ Answers Kept → KeepsLead z.x g → w'.tier ≡ w.tier → w'.partition_state ≡ w.partition_state → IsCentral disk store meta opening w'
    expire_kept g recorded is keeps tier partition_state =
        stands disk store meta opening w a outcome w' t c z Expire expires (Noted g) recorded Kept is refl tier (same_partition_state partition_state) (keeps_seen z.x z.s g keeps, refl)

    -- another leads by now
    pub expire_stale : (g : StartSnapshot) → t.actor_state.in_progress ≡ Noted g → (n : ℕ) → outcome ≡ Answers (StaleEpoch n) → KeepsLead z.x g → w'.tier ≡ w.tier → (start : ℕ)
        → ExpiryRaiseRow w.partition_state z.x.role start (StaleEpoch n) w'.partition_state → IsCentral disk store meta opening w'
    expire_stale g recorded n is keeps tier start row =
        let k = stale_raise w.partition_state.registry row.0 start n (λ (r : Registry). w'.partition_state ≡ record w.partition_state { registry = r }) row.2 in
        let epoch = ap (λ (r : Registry). r.epoch) epoch_seen in
        let old = k.0 in
        let role : g.role ≡ Leads row.0 = keeps.role ∙ row.1 in
        stands disk store meta opening w a outcome w' t c z Expire expires (Noted g) recorded (StaleEpoch n) is refl tier (same_partition_state k.2) (
          some_at (λ (e : ℕ). e < c.partition.registry.epoch) (epoch_in g.role) row.0 (ap epoch_in role) (subst (λ (e : ℕ). row.0 < e) (sym epoch) old),
          k.1 ∙ sym epoch,
          (keeps_seen z.x z.s g keeps, refl),
        )

    -- the log start offset rises
    pub raise_seen : (g : StartSnapshot) (start wanted : ℕ) → KeepsLead z.x g → ExpiryRaiseRow w.partition_state z.x.role wanted (Raised start) w'.partition_state
        → Refines disk.content w'.partition_state (λ h'. seen_tiers.ExpireOnRow c.partition y g (Raised start) h')
    raise_seen g start wanted keeps row =
        let P = λ (r : Registry). w'.partition_state ≡ record w.partition_state { registry = r } in
        let same : wanted ≡ start = sym (granted_raise w.partition_state.registry row.0 wanted start P row.2) in
        let r = some_of P (after_raise w.partition_state.registry row.0 wanted (Ok start)) row.2 in
        let at : after_raise c.partition.registry row.0 start (Ok start) ≡ Some r.0 =
        ap (λ (k : Registry). after_raise k row.0 start (Ok start)) epoch_seen ∙ (ap (λ (n : ℕ). after_raise w.partition_state.registry row.0 n (Ok start)) (sym same) ∙ r.1) in
        leaves disk.content disk.control w.partition_state c.partition w'.partition_state (λ h'. seen_tiers.ExpireOnRow c.partition y g (Raised start) h') r.0 c.shows r.2 (
          keeps_seen z.x z.s g keeps,
          record {
            epoch = row.0;
            role = row.1;
            after = some_at (λ (k : Registry). record c.partition { registry = r.0 } ≡ record c.partition { registry = k })
                (after_raise c.partition.registry row.0 start (Ok start)) r.0 at refl;
          },
        )

    -- a due segment is taken up
    doom_may : (g : StartSnapshot) (segment : ExpiredSegment) → t.actor_state.in_progress ≡ Noted g → TakesUp w.partition w.partition_state z.broker_tier segment w'.partition_state → MayChooseExpired t.place t.order.broker.0 segment c.scene c.central.plain
    doom_may g segment recorded k =
        let view = c.tier.views t.order.broker.0 its (tier_view_is disk store meta opening w c t.place t.list t.actor_state t.order z) in
        let right = right_view c.scene.notes c.scene.desk z.broker_tier.view c.tier.notes view in
        let found = due_found w.partition_state.registry.start z.broker_tier.view.entries k.entry k.first in
        let there : entry_of k.entry.id z.broker_tier.view.entries ≡ Some k.entry = entry_found z.broker_tier.view.entries k.entry right.distinct found.0 in
        let before : entry_of k.entry.id (fold view.before) ≡ Some k.entry = subst (λ (v : View). entry_of k.entry.id v.entries ≡ Some k.entry) view.is there in
        let now = prefix_goes view.before c.scene.notes k.entry.id k.entry view.begins before in
        let part = c.tier.partition.told k.entry.id now.0 now.1 in
        record {
          actor_state = on_desk disk store meta opening w c t.place t.list t.actor_state t.order z
              ∙ ap (λ (u : InProgress). Some (tier_task_of (Some t.order) u)) recorded ∙ ap (λ (u : Command). Some (begun_of t.order.broker.0 g u)) expires;
          tier_view = its;
          tier_view_is = tier_view_is disk store meta opening w c t.place t.list t.actor_state t.order z;
          entry = k.entry;
          there = ap (λ id. entry_of id z.broker_tier.view.entries) k.id_is ∙ there;
          due = ap (λ (n : ℕ). is_due n k.entry) start_plain ∙ found.1;
          partition = k.partition_is ∙ (sym c.shows_tier.partition ∙ (sym part ∙ now.2.partition));
        }

    doom_changed : (g : StartSnapshot) (segment : ExpiredSegment) → t.actor_state.in_progress ≡ Noted g → TakesUp w.partition w.partition_state z.broker_tier segment w'.partition_state
        → IsChanged c.scene c.central.plain (next_scene (ExpiresSeen segment Start) c.scene.objects c.scene.notes z.broker_tier.view)
    doom_changed g segment recorded k = record {
      changes = Moves t.place (ChoosesExpired t.order.broker.0 segment) ∷ [];
      may = (c.central.plain, (refl, doom_may g segment recorded k), refl);
      is = ap (λ (u : List BrokerTierView). record c.scene { tier_views = u; desk = slice_set c.scene.desk t.place (ExpiresSeen segment Start) })
          (sym (set_same c.scene.tier_views t.order.broker.0 its (tier_view_is disk store meta opening w c t.place t.list t.actor_state t.order z)));
    }

    pub chooses_expired : (g : StartSnapshot) (segment : ExpiredSegment) → t.actor_state.in_progress ≡ Noted g → outcome ≡ outcomes.ChoosesExpired segment → TakesUp w.partition w.partition_state z.broker_tier segment w'.partition_state → w'.tier ≡ w.tier
        → IsCentral disk store meta opening w'
    chooses_expired g segment recorded is k same =
        silent disk store meta opening w a outcome w' t c z Expire expires (subst (GoesAsRecorded t.actor_state.in_progress) (sym is) tt) (subst IsNoDate (sym is) tt)
        (unseen disk store meta opening w a outcome w' t c z Expire expires
        (ap (λ (o : Outcome). actor_state_seen (actor_state_after t.actor_state o)) is ∙ ap (λ (o : Option StartSnapshot). record { number = t.actor_state.number; snapshot = o }) (expired_segment_seen t.actor_state.in_progress segment)))
        (untold disk store meta opening w a outcome w' t c z Expire expires (ap (told_of t.list.actor t.actor_state.number t.order.command) is)) (same_partition_state k.stays) _ (doom_changed g segment recorded k)
        (shown disk store meta opening w a outcome w' t c z Expire expires (ExpiresSeen segment Start) c.scene.objects c.scene.notes z.broker_tier.view
        (ap (λ (u : RemoteTier S M). u.broker_tiers) same ∙ same_broker_tiers disk store meta opening w c t.place t.list t.actor_state t.order z)
        (ap (λ (u : RemoteTier S M). (store.content u.store).is_observable) same, ap (λ (u : RemoteTier S M). (meta.content u.meta).is_observable) same)
        (c.shows_tier.objects ∙ sym (ap (λ (u : RemoteTier S M). (store.content u.store).objects) same)) (c.shows_tier.notes ∙ sym (ap (λ (u : RemoteTier S M). (meta.content u.meta).notes) same))
        (ap (λ (o : Outcome). tier_task_after disk store meta opening w c t.place t.list t.actor_state t.order z o) is
        ∙ (ap (λ (u : InProgress). tier_task_of (slice_get t.list.orders t.actor_state.number) (expired_segment u segment)) recorded ∙ ap (λ (o : Option Order). tier_task_of o (Expires g segment Start)) z.next)))

    -- a later turn
    deletes_on : (g : StartSnapshot) (segment : ExpiredSegment) (next : DeletionStep) → t.actor_state.in_progress ≡ Expires g segment next → KeepsLead z.x g → (turn : Turn DeletionStep) → outcome ≡ expiry_outcome turn
        → GoesOnDeletion store meta w.partition_state w.tier t.order.broker.0 segment next turn w'.tier → w'.partition_state ≡ w.partition_state → IsCentral disk store meta opening w'
    deletes_on g segment next works keeps turn is goes same = by turn is goes changed
      where
        at : ShowsScene c.scene t.place t.order.broker.0 its (ExpiresSeen segment next) (store.content w.tier.store) (meta.content w.tier.meta) z.broker_tier.view
        at = subst (λ (k : TierTask). ShowsScene c.scene t.place t.order.broker.0 its k (store.content w.tier.store) (meta.content w.tier.meta) z.broker_tier.view) (ap (tier_task_of (Some t.order)) works)
            (shows_at disk store meta opening w c t.place t.list t.actor_state t.order z)

        broker_tiers : w'.tier.broker_tiers ≡ slice_set w.tier.broker_tiers t.order.broker.0 (record z.broker_tier { view = z.broker_tier.view })
        broker_tiers = ap (λ (u : RemoteTier S M). u.broker_tiers) goes.after ∙ same_broker_tiers disk store meta opening w c t.place t.list t.actor_state t.order z

        changed : IsChanged c.scene c.central.plain (next_scene (expiry_tier_task segment turn) (store.content w'.tier.store).objects (meta.content w'.tier.meta).notes z.broker_tier.view)
        changed = expiry_turns store.content store.control meta.content meta.control segment (origin_of w.partition_state t.order.broker.0) next (Ok turn) (expiry_tiers w.tier) (expiry_tiers w'.tier)
            c.scene c.central.plain t.place t.order.broker.0 its goes.row at c.tier

        by : (turn : Turn DeletionStep) → outcome ≡ expiry_outcome turn → (goes : GoesOnDeletion store meta w.partition_state w.tier t.order.broker.0 segment next turn w'.tier)
            → IsChanged c.scene c.central.plain (next_scene (expiry_tier_task segment turn) (store.content w'.tier.store).objects (meta.content w'.tier.meta).notes z.broker_tier.view) → IsCentral disk store meta opening w'
        by (Ends answer) is goes k =
            entered disk store meta opening w a outcome w' t c z Expire expires (Expires g segment next) works (turned.Answers answer) (next_scene Free (store.content w'.tier.store).objects (meta.content w'.tier.meta).notes z.broker_tier.view) is refl (same_partition_state same)
            (end_row c.partition y g answer (expiry_ends store meta segment (origin_of w.partition_state t.order.broker.0) next answer (expiry_tiers w.tier) (expiry_tiers w'.tier) goes.row) (keeps_seen z.x z.s g keeps))
            k
            (shown disk store meta opening w a outcome w' t c z Expire expires Free (store.content w'.tier.store).objects (meta.content w'.tier.meta).notes z.broker_tier.view broker_tiers
            (expiry_tells store meta segment (origin_of w.partition_state t.order.broker.0) next (Ends answer) (expiry_tiers w.tier) (expiry_tiers w'.tier) goes.row) refl refl
            (answered_free disk store meta opening w c t.place t.list t.actor_state t.order z outcome answer is))
        by (GoesOn further) is goes k =
            silent disk store meta opening w a outcome w' t c z Expire expires (subst (GoesAsRecorded t.actor_state.in_progress) (sym is) tt) (subst IsNoDate (sym is) tt)
            (unseen disk store meta opening w a outcome w' t c z Expire expires
            (ap (λ (o : Outcome). actor_state_seen (actor_state_after t.actor_state o)) is ∙ ap (λ (o : Option StartSnapshot). record { number = t.actor_state.number; snapshot = o }) (deleting_seen t.actor_state.in_progress further)))
            (untold disk store meta opening w a outcome w' t c z Expire expires (ap (told_of t.list.actor t.actor_state.number t.order.command) is)) (same_partition_state same)
            (next_scene (ExpiresSeen segment further) (store.content w'.tier.store).objects (meta.content w'.tier.meta).notes z.broker_tier.view) k
            (shown disk store meta opening w a outcome w' t c z Expire expires (ExpiresSeen segment further) (store.content w'.tier.store).objects (meta.content w'.tier.meta).notes z.broker_tier.view broker_tiers
            (expiry_tells store meta segment (origin_of w.partition_state t.order.broker.0) next (GoesOn further) (expiry_tiers w.tier) (expiry_tiers w'.tier) goes.row) refl refl
            (ap (λ (o : Outcome). tier_task_after disk store meta opening w c t.place t.list t.actor_state t.order z o) is
            ∙ (ap (λ (u : InProgress). tier_task_of (slice_get t.list.orders t.actor_state.number) (deleting u further)) works ∙ ap (λ (o : Option Order). tier_task_of o (Expires g segment further)) z.next)))

    pub deletes : (g : StartSnapshot) (segment : ExpiredSegment) (next : DeletionStep) → t.actor_state.in_progress ≡ Expires g segment next → DeleteOnRow store meta w.partition_state w.tier t.order.broker.0 z.x g segment next outcome w'.tier
        → w'.partition_state ≡ w.partition_state → IsCentral disk store meta opening w'
    deletes g segment next works (inl lost) same =
        stands disk store meta opening w a outcome w' t c z Expire expires (Expires g segment next) works LostLead lost.1 refl lost.2 (same_partition_state same) ((λ k. lost.0 (keeps_back z.x z.s g k)), refl)
    deletes g segment next works (inr (keeps, (turn, is, goes))) same = deletes_on g segment next works keeps turn is goes same
