-- Each change leaves what fetches keep of the logs that they read.
use Rattle.std.proofs.Common.{◌≡◌, inl, inr, ◌∙◌, sym, ap, subst, ℕ, ◌+◌, ◌<◌, ◌≤◌, Bool, true, false, cond, List, [], ◌∷◌, ◌++◌, Option, Some, None, slice_get, slice_set, arith}
use Rattle.std.specs.Prelude.{nat_lt, nat_le}
use mathlib.Core.List.{IsPrefix}
use Rattle.tier_base.specs.declared.names.SegmentId.{SegmentId}
use Rattle.tier_base.specs.declared.object_key.ObjectKey.{ObjectKey}
use Rattle.segment_meta.specs.declared.note.Entry.{Entry}
use Rattle.segment_meta.specs.declared.note.Note.{Note}
use Rattle.segment_file.specs.Index.{placed_from, index_of}
use Rattle.segment_file.specs.Segment.{IsSegment}
use Rattle.sparse_index.specs.Offsets.{OffsetTable}
use Rattle.log_terms.specs.Batch.{base_of, epoch_of, last_of}
use Rattle.log_terms.specs.Line.{epoch_holding}
use Rattle.log_terms.proofs.Lists.{get-set, prefix_self, prefix_more, prefix_trans}
use Rattle.plain_log.specs.declared.state.State.{State as Plain}
use Rattle.plain_log.specs.declared.state.Path.{Path}
use Rattle.plain_log.specs.declared.state.Broker.{Broker}
use Rattle.plain_log.specs.declared.state.Role.TheVariants.{Leads}
use Rattle.plain_log.specs.State.{path_of}
use Rattle.copy_task.specs.Copying.{Copied, keys as copy_keys}
use Rattle.copy_task.specs.declared.turn.CopyStep.TheVariants as copying
use Rattle.remote_find.specs.declared.piece.Piece.{Piece}
use Rattle.remote_view.specs.Fold.{EntriesSeen, entry_of, fold, view_of}
use Rattle.tier_safe.specs.Scene.{Scene, BrokerTierView, Sought, TierTask, Copies, Seeks}
use Rattle.tier_safe.specs.Changes.{Move, Leaves, Overtakes, ChoosesExpired, Wants, Refreshes, Lines, Asks, Finds, Skips, Reads, moved, Telling, CopyStarts, CopyEnds, ExpiryStarts, ExpiryEnds, note_for, after_telling, Storing, Puts, Undoes, Deletes, after_storing, undone, Change, Steps, Moves, Chooses, Tells, Stores, Sees, Caches, Drops, effect}
use Rattle.tier_safe.specs.Lineage.{IsPathPart, DescribesPath}
use Rattle.plain_log.specs.Grows.{BrokerGrows}
use Rattle.tier_safe.specs.Starts.{DeletedEnd}
use Rattle.tier_safe.specs.Fetches.{SeesCopy, StillLeads, PieceStands, IsIndexOf, PositionStands, FetchStands, FetchesStand}
use Rattle.tier_safe.specs.Safe.{TierSafe}
use Rattle.tier_safe.specs.Moves.{MayMove, MayAsk, MayFind, MaySkip, MayRead}
use Rattle.tier_safe.specs.May.{MayAlter}
use Rattle.tier_safe.proofs.Entries.{Follows, not_begun}
use Rattle.tier_safe.proofs.Steps.{StepGoes}
use Rattle.tier_safe.proofs.Entries.{prefix_goes}
use Rattle.tier_safe.proofs.Basics.{one_some}
use Rattle.tier_safe.proofs.Lineage.{index_grows}
use Rattle.tier_safe.proofs.IdsLaw.{followed}
use Rattle.tier_safe.proofs.Covering.{finished_stays}

-- an actor's state by its task

abbrev pub FetchTask : List Path → List Note → ℕ → List BrokerTierView → List Broker → TierTask → Type 0
FetchTask paths notes start tier_views brokers (Seeks sought) =
    (tier_view : BrokerTierView) (x : Broker) → slice_get tier_views sought.broker ≡ Some tier_view → slice_get brokers sought.broker ≡ Some x → FetchStands paths notes start tier_view x sought
FetchTask paths notes start tier_views brokers other = Unit {0}

fetches_set : (paths : List Path) (notes : List Note) (start : ℕ) (tier_views : List BrokerTierView) (brokers : List Broker) (desk : List TierTask) (a : ℕ) (w : TierTask)
    → FetchTask paths notes start tier_views brokers w → FetchesStand paths notes start tier_views brokers desk → FetchesStand paths notes start tier_views brokers (slice_set desk a w)
fetches_set paths notes start tier_views brokers desk a w own h = λ k sought tier_view x at is bx. elim (get-set desk a w k (Seeks sought) at) [
  | inl here ↦ subst (λ (v : TierTask). FetchTask paths notes start tier_views brokers v) (sym here.1) own tier_view x is bx
  | inr there ↦ h k sought tier_view x there.1 is bx
]

-- moves

asked : (a : ℕ) (sought : Sought) (c : Scene) (p : Plain) → MayAsk a sought c p → (tier_view : BrokerTierView) (x : Broker) → slice_get c.tier_views sought.broker ≡ Some tier_view
    → slice_get p.brokers sought.broker ≡ Some x → FetchStands p.paths c.notes p.registry.start tier_view x sought
asked a sought c p m tier_view x is bx =
    let same = one_some (slice_get p.brokers sought.broker) m.x x m.broker_is bx in
    let one = one_some (slice_get c.tier_views sought.broker) m.tier_view tier_view m.tier_view_is is in
    let stops : x.stops ≡ sought.stops = sym (ap (λ (y : Broker). y.stops) same) ∙ m.leads.stops in
    record {
      stops = omega (arith, stops);
      taken = (m.x.log, m.path);
      below = λ none leads. subst (λ (s : BrokerTierView). sought.offset < s.start) one m.below;
      seen = λ piece has. absurd (cc (has, m.unread.0));
      piece = λ piece has. absurd (cc (has, m.unread.0));
      from = λ piece from has. absurd (cc (has, m.unread.0));
    }

found : (a : ℕ) (sought : Sought) (piece : Piece) (c : Scene) (p : Plain) → MayFind a sought piece c p → TierSafe c p → (tier_view : BrokerTierView) (x : Broker) → slice_get c.tier_views sought.broker ≡ Some tier_view
    → slice_get p.brokers sought.broker ≡ Some x → FetchStands p.paths c.notes p.registry.start tier_view x (record sought { piece = Some piece })
found a sought piece c p m h tier_view x is bx =
    let f = h.fetches a sought tier_view x m.actor_state is bx in
    record {
      stops = f.stops;
      taken = f.taken;
      below = λ none leads. absurd (cc (none));
      seen = λ other has. (let same : other ≡ piece = cc (has) in
          subst (λ (q : Piece). SeesCopy tier_view.view.entries q.id) (sym same) (m.seen tier_view is));
      piece = λ other has leads low. (let same : other ≡ piece = cc (has) in
          subst (λ (q : Piece). PieceStands c.notes x.log sought.offset q) (sym same) (m.gives x bx (record { stops = leads.stops; role = leads.role }) low));
      from = λ other from has read. absurd (cc (read, m.unread));
    }

skipped : (a : ℕ) (sought : Sought) (offset : ℕ) (c : Scene) (p : Plain) → MaySkip a sought offset c p → TierSafe c p → (tier_view : BrokerTierView) (x : Broker) → slice_get c.tier_views sought.broker ≡ Some tier_view
    → slice_get p.brokers sought.broker ≡ Some x → FetchStands p.paths c.notes p.registry.start tier_view x (record sought { offset = offset })
skipped a sought offset c p m h tier_view x is bx =
    let f = h.fetches a sought tier_view x m.actor_state is bx in
    record {
      stops = f.stops;
      taken = f.taken;
      below = λ none leads. absurd (cc (none, m.found));
      seen = f.seen;
      piece = λ other has leads low. (let same : other ≡ m.piece = cc (has, m.found) in
          subst (λ (q : Piece). PieceStands c.notes x.log offset q) (sym same) (m.gives x bx (record { stops = leads.stops; role = leads.role }) low));
      from = λ other from has read. absurd (cc (read, m.unread));
    }

placed : (a : ℕ) (sought : Sought) (from : ℕ) (c : Scene) (p : Plain) → MayRead a sought from c p → TierSafe c p → (tier_view : BrokerTierView) (x : Broker) → slice_get c.tier_views sought.broker ≡ Some tier_view
    → slice_get p.brokers sought.broker ≡ Some x → FetchStands p.paths c.notes p.registry.start tier_view x (record sought { from = Some from })
placed a sought from c p m h tier_view x is bx =
    let f = h.fetches a sought tier_view x m.actor_state is bx in
    record {
      stops = f.stops;
      taken = f.taken;
      below = λ none leads. f.below none (record { stops = leads.stops; role = leads.role });
      seen = f.seen;
      piece = λ piece has leads low. f.piece piece has (record { stops = leads.stops; role = leads.role }) low;
      from = λ piece other has read leads low. (let same : other ≡ from = cc (read) in
          let one : piece ≡ m.piece = cc (has, m.found) in
          subst (λ (q : Piece). PositionStands p.paths (fold c.notes) q.id sought.offset other) (sym one)
          (subst (λ (n : ℕ). PositionStands p.paths (fold c.notes) m.piece.id sought.offset n) (sym same) m.is));
    }

moved_fetch : (a : ℕ) (move : Move) (c : Scene) (p : Plain) → MayMove a move c p → TierSafe c p → FetchTask p.paths c.notes p.registry.start c.tier_views p.brokers (moved move)
moved_fetch a Leaves c p m h = tt
moved_fetch a (Overtakes copy) c p m h = tt
moved_fetch a (ChoosesExpired b expired_segment) c p m h = tt
moved_fetch a (Wants rebuild) c p m h = tt
moved_fetch a (Refreshes rebuild) c p m h = tt
moved_fetch a (Lines rebuild line) c p m h = tt
moved_fetch a (Asks sought) c p m h = asked a sought c p m
moved_fetch a (Finds sought piece) c p m h = found a sought piece c p m h
moved_fetch a (Skips sought offset) c p m h = skipped a sought offset c p m h
moved_fetch a (Reads sought from) c p m h = placed a sought from c p m h

-- metadata events

describes_follows : (paths : List Path) (x y : Entry) (batches : List (List ℕ)) (line : List (ℕ × ℕ)) → Follows x y → DescribesPath paths x batches line → DescribesPath paths y batches line
describes_follows paths x y batches line f d = record {
  some = d.some;
  is = subst (λ (n : ℕ). IsSegment n batches) (sym f.start) d.is;
  part = subst (λ (n : ℕ). IsPathPart paths n batches line) (sym f.start) d.part;
  last_is = rw (f.end, f.start) d.last_is;
  map_is = f.map ∙ d.map_is;
  max_ts_is = f.max_ts ∙ d.max_ts_is;
  size_is = f.size ∙ d.size_is;
}

pub index_follows : (paths : List Path) (x y : Entry) (index : OffsetTable) → Follows x y → IsIndexOf paths x index → IsIndexOf paths y index
index_follows paths x y index f i = record {
  batches = i.batches;
  line = i.line;
  interval = i.interval;
  describes = describes_follows paths x y i.batches i.line f i.describes;
  is = i.is ∙ ap (λ (n : ℕ). index_of n i.interval (placed_from 0 i.batches)) (sym f.start);
}

-- a fetch after further metadata events
fetch_told : (paths : List Path) (notes more : List Note) (start : ℕ) (tier_view : BrokerTierView) (x : Broker) (sought : Sought) → DeletedEnd notes start → IsPrefix notes more
    → FetchStands paths notes start tier_view x sought → FetchStands paths more start tier_view x sought
fetch_told paths notes more start tier_view x sought ended pre f = record {
  stops = f.stops;
  taken = f.taken;
  below = f.below;
  seen = f.seen;
  piece = λ piece has leads low. (let q = f.piece piece has leads low in
      record {
        before = q.before;
        begins = prefix_trans q.before notes more q.begins pre;
        entry = q.entry;
        there = q.there;
        finished = q.finished;
        holds = q.holds;
        within = q.within;
        epoch = q.epoch;
        of_log = q.of_log;
        of_copy = q.of_copy;
      });
  from = λ piece from has read leads low. (let q = f.piece piece has leads low in
      λ entry is done.
      (let y = prefix_goes q.before notes piece.id q.entry q.begins q.there in
      let high : sought.offset ≤ q.entry.end = (let holds = q.holds.1 in let within = q.within.1 in omega (arith, holds, within)) in
      let now = finished_stays notes notes q.before start sought.offset piece.id q.entry y.0 ended q.begins (prefix_self notes) q.there q.finished low high y.1 y.2 in
      let z = prefix_goes notes more piece.id y.0 pre y.1 in
      let same : z.0 ≡ entry = one_some (entry_of piece.id (fold more)) z.0 entry z.1 is in
      let i = f.from piece from has read leads low y.0 y.1 now in
      (i.0, subst (λ (e : Entry). IsIndexOf paths e i.0) same (index_follows paths y.0 z.0 i.0 z.2 i.1), i.2)));
}

told_fetch : (paths : List Path) (notes : List Note) (start : ℕ) (tier_views : List BrokerTierView) (brokers : List Broker) (telling : Telling) → FetchTask paths notes start tier_views brokers (after_telling telling)
told_fetch paths notes start tier_views brokers (CopyStarts copy) = tt
told_fetch paths notes start tier_views brokers (CopyEnds copy) = tt
told_fetch paths notes start tier_views brokers (ExpiryStarts expired_segment) = tt
told_fetch paths notes start tier_views brokers (ExpiryEnds expired_segment) = tt

undone_fetch : (paths : List Path) (notes : List Note) (start : ℕ) (tier_views : List BrokerTierView) (brokers : List Broker) (copy : Copied) (n : ℕ) (next : Option ObjectKey)
    → FetchTask paths notes start tier_views brokers (undone copy n next)
undone_fetch paths notes start tier_views brokers copy n None = tt
undone_fetch paths notes start tier_views brokers copy n (Some key) = tt

stored_fetch : (paths : List Path) (notes : List Note) (start : ℕ) (tier_views : List BrokerTierView) (brokers : List Broker) (storing : Storing) → FetchTask paths notes start tier_views brokers (after_storing storing)
stored_fetch paths notes start tier_views brokers (Puts copy n key) = tt
stored_fetch paths notes start tier_views brokers (Undoes copy n key) = undone_fetch paths notes start tier_views brokers copy (n + 1) (slice_get (copy_keys copy) (n + 1))
stored_fetch paths notes start tier_views brokers (Deletes expired_segment n key) = tt

-- a copy that the one tier view's view sees the other's sees too
abbrev SeesOn : BrokerTierView → BrokerTierView → Type 0
SeesOn old new = (id : SegmentId) → SeesCopy old.view.entries id → SeesCopy new.view.entries id

-- a view of more metadata events
sees_more : (old new : BrokerTierView) (before more : List Note) → old.view ≡ view_of before → new.view ≡ view_of more → IsPrefix before more → SeesOn old new
sees_more old new before more was is pre id k =
    let y = prefix_goes before more id k.0 pre (subst (λ (v : EntriesSeen). entry_of id v.entries ≡ Some k.0) was k.1) in
    (y.0, subst (λ (v : EntriesSeen). entry_of id v.entries ≡ Some y.0) (sym is) y.1, not_begun k.0.state y.0.state y.2.state k.2)

-- a tier view whose local start doesn't fall, and whose view has the entries that it had
fetches_tier_view : (paths : List Path) (notes : List Note) (start : ℕ) (tier_views : List BrokerTierView) (brokers : List Broker) (desk : List TierTask) (b : ℕ) (old new : BrokerTierView) → slice_get tier_views b ≡ Some old
    → old.start ≤ new.start → SeesOn old new → FetchesStand paths notes start tier_views brokers desk → FetchesStand paths notes start (slice_set tier_views b new) brokers desk
fetches_tier_view paths notes start tier_views brokers desk b old new at rises on h = λ a sought tier_view x actor_state is bx. elim (get-set tier_views b new sought.broker tier_view is) [
  | inl here ↦
      let f = h a sought old x actor_state (ap (slice_get tier_views) here.0 ∙ at) bx in
      record {
        stops = f.stops;
        taken = f.taken;
        below = λ none leads. (let low = f.below none leads in subst (λ (s : BrokerTierView). sought.offset < s.start) (sym here.1) (omega (arith, low, rises)));
        seen = λ piece has. subst (λ (s : BrokerTierView). SeesCopy s.view.entries piece.id) (sym here.1) (on piece.id (f.seen piece has));
        piece = f.piece;
        from = f.from;
      }
  | inr there ↦ h a sought tier_view x actor_state there.1 bx
]

pub fetches_kept : (change : Change) (c : Scene) (p : Plain) → MayAlter change c p → TierSafe c p
    → FetchesStand p.paths (effect change c).notes p.registry.start (effect change c).tier_views p.brokers (effect change c).desk
fetches_kept (Steps tier_views) c p m h = absurd m
fetches_kept (Moves a move) c p m h = fetches_set p.paths c.notes p.registry.start c.tier_views p.brokers c.desk a (moved move) (moved_fetch a move c p m h) h.fetches
fetches_kept (Chooses a b tier_view copy) c p m h =
    fetches_set p.paths c.notes p.registry.start (slice_set c.tier_views b (record tier_view { next = tier_view.next + 1 })) p.brokers c.desk a (Copies copy copying.Start) tt
    (fetches_tier_view p.paths c.notes p.registry.start c.tier_views p.brokers c.desk b tier_view (record tier_view { next = tier_view.next + 1 }) m.tier_view_is (omega arith) (λ id k. k) h.fetches)
fetches_kept (Tells a telling origin) c p m h =
    let notes = c.notes ++ note_for telling origin ∷ [] in
    let first = prefix_more c.notes c.notes (note_for telling origin ∷ []) (prefix_self c.notes) in
    fetches_set p.paths notes p.registry.start c.tier_views p.brokers c.desk a (after_telling telling) (told_fetch p.paths notes p.registry.start c.tier_views p.brokers telling)
    (λ k sought tier_view x actor_state is bx. fetch_told p.paths c.notes notes p.registry.start tier_view x sought h.deletions.ended first (h.fetches k sought tier_view x actor_state is bx))
fetches_kept (Stores a storing objects) c p m h =
    fetches_set p.paths c.notes p.registry.start c.tier_views p.brokers c.desk a (after_storing storing) (stored_fetch p.paths c.notes p.registry.start c.tier_views p.brokers storing) h.fetches
fetches_kept (Sees b tier_view view) c p m h =
    fetches_tier_view p.paths c.notes p.registry.start c.tier_views p.brokers c.desk b tier_view (record tier_view { view = view }) m.tier_view_is (omega arith)
    (sees_more tier_view (record tier_view { view = view }) m.before m.more m.old m.new m.grows) h.fetches
fetches_kept (Caches b tier_view cache) c p m h =
    fetches_tier_view p.paths c.notes p.registry.start c.tier_views p.brokers c.desk b tier_view (record tier_view { cache = cache }) m.tier_view_is (omega arith) (λ id k. k) h.fetches
fetches_kept (Drops b tier_view start dropping) c p m h =
    fetches_tier_view p.paths c.notes p.registry.start c.tier_views p.brokers c.desk b tier_view (record tier_view { start = start }) m.tier_view_is m.rises (λ id k. k) h.fetches

-- a step

-- what holds an offset of a beginning holds it
holding_more : (xs ys : List (List ℕ)) (o e : ℕ) → IsPrefix xs ys → epoch_holding xs o ≡ Some e → epoch_holding ys o ≡ Some e
holding_more [] ys o e p h = absurd (cc (h))
holding_more (x ∷ xs) [] o e p h = absurd (cc (p.1))
holding_more (x ∷ xs) (y ∷ ys) o e p h =
    let same : y ≡ x = cc (p.1) in
    subst (λ (w : List ℕ). epoch_holding (w ∷ ys) o ≡ Some e) (sym same) (by (nat_lt o (base_of x)) (nat_le o (last_of x)) h (holding_more xs ys o e (p.0, cc (p.1))))
  where
    by : (t u : Bool) → cond t None (cond u (Some (epoch_of x)) (epoch_holding xs o)) ≡ Some e → (epoch_holding xs o ≡ Some e → epoch_holding ys o ≡ Some e)
        → cond t None (cond u (Some (epoch_of x)) (epoch_holding ys o)) ≡ Some e
    by true u h more = absurd (cc (h))
    by false true h more = h
    by false false h more = more h

-- who leads as it did when the fetch began did so before the step, and its log only grew
led_before : (paths : List Path) (sought : Sought) (x y : Broker) → BrokerGrows paths x y → sought.stops ≤ x.stops → ((log : List (List ℕ)) × (path_of paths sought.epoch ≡ Some log))
    → StillLeads sought y → (StillLeads sought x) × IsPrefix x.log y.log × (y.stops ≡ x.stops) × (x.role ≡ Leads sought.epoch)
led_before paths sought x y g low taken leads =
    let rises = g.stops in
    let stops : y.stops ≡ x.stops = omega (arith, rises, low, leads.stops) in
    elim (g.leads sought.epoch stops leads.role) [
      | inl before ↦ (record { stops = sym stops ∙ leads.stops; role = before.0 }, before.1, stops, before.0)
      | inr none ↦ absurd (cc (none, taken.1))
    ]

pub fetches_stepped : (tier_views : List BrokerTierView) (c : Scene) (p q : Plain) → StepGoes tier_views c p q → TierSafe c p → FetchesStand q.paths c.notes q.registry.start tier_views q.brokers c.desk
fetches_stepped tier_views c p q m h = λ a sought tier_view y actor_state is by.
    (let s = followed tier_views c p q sought.broker tier_view m h is in
    let same = one_some (slice_get q.brokers sought.broker) s.y y s.y_is by in
    let f = h.fetches a sought s.old s.x actor_state s.old_is s.x_is in
    let g = m.grows.brokers sought.broker s.x s.y s.x_is s.y_is in
    subst (λ (z : Broker). FetchStands q.paths c.notes q.registry.start tier_view z sought) same (record {
      stops = (let one = f.stops in let two = g.stops in omega (arith, one, two));
      taken = (let k = m.grows.paths sought.epoch f.taken.0 f.taken.1 in (k.0, k.1));
      below = λ none leads. (let b = led_before p.paths sought s.x s.y g f.stops f.taken leads in
          let low = f.below none b.0 in
          let start = s.goes.leads sought.epoch b.2 b.3 leads.role in
          omega (arith, low, start));
      seen = λ piece has. subst (λ (v : EntriesSeen). SeesCopy v.entries piece.id) (sym s.goes.view) (f.seen piece has);
      piece = λ piece has leads low. (let b = led_before p.paths sought s.x s.y g f.stops f.taken leads in
          let q = f.piece piece has b.0 (omega (arith, low, m.grows.start)) in
          record {
            before = q.before;
            begins = q.begins;
            entry = q.entry;
            there = q.there;
            finished = q.finished;
            holds = q.holds;
            within = q.within;
            epoch = q.epoch;
            of_log = λ o from to. holding_more s.x.log s.y.log o q.epoch b.1 (q.of_log o from to);
            of_copy = q.of_copy;
          });
      from = λ piece from has read leads low. (let b = led_before p.paths sought s.x s.y g f.stops f.taken leads in
          λ entry there done. (let i = f.from piece from has read b.0 (omega (arith, low, m.grows.start)) entry there done in
          (i.0, index_grows p.paths q.paths entry i.0 m.grows.paths i.1, i.2)));
    }))
