-- Each change leaves what local logs lack covered.
use Rattle.std.proofs.Common.{◌≡◌, ◌≢◌, ◌⊎◌, inl, inr, ◌∙◌, sym, ap, subst, refl, ℕ, ◌+◌, ◌<◌, ◌≤◌, Bool, true, false, cond, ◌&&◌, List, [], ◌∷◌, ◌++◌, Some, None, slice_get, slice_set, arith}
use Rattle.std.specs.Prelude.{nat_lt, nat_le}
use Rattle.std.proofs.lemmas.Bool.{le-leb, lt-leb, cases_lt}
use mathlib.Core.List.{IsPrefix}
use Rattle.tier_base.specs.declared.names.SegmentId.{SegmentId}
use Rattle.tier_base.specs.declared.plain.State.{State}
use Rattle.tier_base.specs.declared.plain.State.TheVariants.{CopyStarted, CopyFinished, DeleteStarted, DeleteFinished}
use Rattle.segment_meta.specs.declared.note.Entry.{Entry}
use Rattle.segment_meta.specs.declared.note.Note.{Note}
use Rattle.segment_meta.specs.Spelling.{state_code}
use Rattle.log_terms.specs.Batch.{base_of, epoch_of, last_of}
use Rattle.log_terms.specs.Line.{epoch_at, epoch_holding}
use Rattle.log_terms.specs.Log.{end_from, end_of}
use Rattle.log_terms.proofs.Lists.{get-set, prefix_self, prefix_more}
use Rattle.log_terms.proofs.Logs.{one_end}
use Rattle.plain_log.specs.declared.state.State.{State as Plain}
use Rattle.plain_log.specs.declared.state.Broker.{Broker}
use Rattle.plain_log.specs.Safe.{HasOnPath, PlainSafe}
use Rattle.plain_log.proofs.Options.{both, le_of}
use Rattle.remote_view.specs.Fold.{EntriesSeen, entry_of, fold}
use Rattle.remote_view.specs.Lookup.{is_readable, is_epoch, covers}
use Rattle.remote_find.proofs.Clipping.{given}
use Rattle.tier_safe.specs.Scene.{Scene, BrokerTierView}
use Rattle.tier_safe.specs.Changes.{note_for, Dropping, Trims, Restarts, Change, Steps, Moves, Chooses, Tells, Stores, Sees, Caches, Drops, effect}
use Rattle.tier_safe.specs.Lineage.{Covers, CoversLog}
use Rattle.tier_safe.specs.Starts.{DeletedEnd, CoveredStands}
use Rattle.tier_safe.specs.Safe.{TierSafe}
use Rattle.tier_safe.specs.May.{MayAlter, MayDropLocal}
use Rattle.tier_safe.proofs.Entries.{Follows}
use Rattle.tier_safe.proofs.Steps.{StepGoes}
use Rattle.tier_safe.proofs.Entries.{prefix_goes}
use Rattle.tier_safe.proofs.Basics.{one_some}
use Rattle.tier_safe.proofs.Deletions.{deletions_kept, finished_or}
use Rattle.tier_safe.proofs.IdsLaw.{followed}

-- what covering says
pub readable : (s : State) → is_readable s ≡ true → s ≡ CopyFinished
readable CopyFinished h = refl
readable s h = absurd (cc)

pub record CoversIs (epoch offset : ℕ) (entry : Entry) : Type 0 where
  pub finished : entry.state ≡ CopyFinished
  pub from : entry.start ≤ offset
  pub to : offset ≤ entry.end
  pub gives : epoch_at entry.map offset ≡ Some epoch

pub covers_is : (epoch offset : ℕ) (entry : Entry) → covers epoch offset entry ≡ true → CoversIs epoch offset entry
covers_is epoch offset entry h =
    let three = both (is_readable entry.state && nat_le entry.start offset && nat_le offset entry.end) (is_epoch epoch (epoch_at entry.map offset)) h in
    let two = both (is_readable entry.state && nat_le entry.start offset) (nat_le offset entry.end) three.0 in
    let one = both (is_readable entry.state) (nat_le entry.start offset) two.0 in
    record {
      finished = readable entry.state one.0;
      from = le_of entry.start offset one.1;
      to = le_of offset entry.end two.1;
      gives = given epoch (epoch_at entry.map offset) three.1;
    }

covers_follows : (epoch offset : ℕ) (x y : Entry) → Follows x y → y.state ≡ x.state → covers epoch offset x ≡ true → covers epoch offset y ≡ true
covers_follows epoch offset x y f s h = rw (s, f.start, f.end, f.map) h

-- what was finished once is deleted only below the log start offset
pub finished_stays : (notes more before : List Note) (start offset : ℕ) (id : SegmentId) (x y : Entry) → DeletedEnd notes start → IsPrefix before notes → IsPrefix more notes
    → entry_of id (fold before) ≡ Some x → x.state ≡ CopyFinished → start ≤ offset → offset ≤ x.end → entry_of id (fold more) ≡ Some y → Follows x y → y.state ≡ CopyFinished
finished_stays notes more before start offset id x y ended pre post is done low high found f = elim (finished_or y.state) [
  | inl still ↦ still
  | inr other ↦
      let z = prefix_goes more notes id y post found in
      let gone : z.0.state ≢ CopyFinished = past y.state z.0.state z.2.state other (subst (λ (s : State). state_code s ≤ state_code y.state) done f.state) in
      let below = ended id before x z.0 pre is done z.1 gone in
      let end : z.0.end ≡ x.end = z.2.end ∙ f.end in
      absurd (omega (arith, below, end, low, high))
]
  where
    past : (s t : State) → state_code s ≤ state_code t → s ≢ CopyFinished → state_code CopyFinished ≤ state_code s → t ≢ CopyFinished
    past CopyStarted t le ne low e = absurd (omega (arith, low))
    past CopyFinished t le ne low e = absurd (ne refl)
    past DeleteStarted t le ne low e = absurd (omega (arith, le, ap state_code e))
    past DeleteFinished t le ne low e = absurd (omega (arith, le, ap state_code e))

pub covers_goes : (notes before more : List Note) (start epoch offset : ℕ) → DeletedEnd notes start → IsPrefix before more → IsPrefix more notes → IsPrefix before notes → start ≤ offset
    → Covers (fold before) epoch offset → Covers (fold more) epoch offset
covers_goes notes before more start epoch offset ended first pre whole low h =
    let is = covers_is epoch offset h.entry h.gives in
    let y = prefix_goes before more h.id h.entry first h.there in
    let done = finished_stays notes more before start offset h.id h.entry y.0 ended whole pre h.there is.finished low is.to y.1 y.2 in
    record { id = h.id; entry = y.0; there = y.1; gives = covers_follows epoch offset h.entry y.0 y.2 (done ∙ sym is.finished) h.gives }

pub log_goes : (notes before more : List Note) (start : ℕ) (log : List (List ℕ)) (offset : ℕ) → DeletedEnd notes start → IsPrefix before more → IsPrefix more notes → IsPrefix before notes → start ≤ offset
    → CoversLog (fold before) log offset → CoversLog (fold more) log offset
log_goes notes before more start log offset ended first pre whole low h =
    record { epoch = h.epoch; holds = h.holds; covers = covers_goes notes before more start h.epoch offset ended first pre whole low h.covers }

-- the epoch that holds an offset of a beginning is the list's
pub holding_same : (n : ℕ) (xs ys : List (List ℕ)) (o : ℕ) → IsPrefix xs ys → n ≤ o → o < end_from n xs → epoch_holding ys o ≡ epoch_holding xs o
holding_same n [] ys o p low high = absurd (omega (arith, low, high))
holding_same n (x ∷ xs) [] o p low high = absurd (cc (p.1))
holding_same n (x ∷ xs) (y ∷ ys) o p low high =
    let same : y ≡ x = cc (p.1) in
    subst (λ (w : List ℕ). epoch_holding (w ∷ ys) o ≡ epoch_holding (x ∷ xs) o) (sym same)
    (by (nat_lt o (base_of x)) (cases_lt (last_of x) o) (λ past. holding_same (last_of x + 1) xs ys o (p.0, cc (p.1)) (omega (arith, past)) high))
  where
    by : (t : Bool) → (last_of x < o) ⊎ (o ≤ last_of x) → (last_of x < o → epoch_holding ys o ≡ epoch_holding xs o)
        → cond t None (cond (nat_le o (last_of x)) (Some (epoch_of x)) (epoch_holding ys o)) ≡ cond t None (cond (nat_le o (last_of x)) (Some (epoch_of x)) (epoch_holding xs o))
    by true h more = refl
    by false (inr in_it) more = rw (le-leb o (last_of x) in_it) refl
    by false (inl past) more = rw (lt-leb o (last_of x) past) (more past)

-- also where the list is the one of which an epoch is known
pub covers_same : (es : List Entry) (xs ys : List (List ℕ)) (o : ℕ) → epoch_holding ys o ≡ epoch_holding xs o → CoversLog es xs o → CoversLog es ys o
covers_same es xs ys o e h = record { epoch = h.epoch; holds = e ∙ h.holds; covers = h.covers }

-- an offset below both ends of logs of which one begins the other
pub comparable_same : (xs ys : List (List ℕ)) (o : ℕ) → IsPrefix xs ys ⊎ IsPrefix ys xs → o < end_of xs → o < end_of ys → epoch_holding ys o ≡ epoch_holding xs o
comparable_same xs ys o c below below2 = elim c [
  | inl p ↦ holding_same 0 xs ys o p (omega arith) below
  | inr p ↦ sym (holding_same 0 ys xs o p (omega arith) below2)
]

-- two beginnings of a path that end at one offset
pub one_front : (p : Plain) (e : ℕ) (xs ys : List (List ℕ)) → PlainSafe p → HasOnPath p.paths e xs → HasOnPath p.paths e ys → end_of xs ≡ end_of ys → xs ≡ ys
one_front p e xs ys s h k same =
    let log = one_some _ h.0 k.0 h.1 k.1 in
    one_end 0 xs ys h.0 (s.paths e h.0 h.1).log_safe.consecutive h.2 (subst (λ (l : List (List ℕ)). IsPrefix ys l) (sym log) k.2) same

-- a local log that starts later
dropped : (b : ℕ) (tier_view : BrokerTierView) (start : ℕ) (dropping : Dropping) (c : Scene) (p : Plain) → MayDropLocal b tier_view start dropping c p → PlainSafe p → TierSafe c p
    → (x : Broker) → slice_get p.brokers b ≡ Some x → (o : ℕ) → p.registry.start ≤ o → o < start → CoversLog (fold c.notes) x.log o
dropped b tier_view start Trims c p m safe h x bx o low high = elim (cases_lt o tier_view.start) [
  | inl old ↦ h.covered b tier_view x m.tier_view_is bx o low old
  | inr new ↦
      let v = h.views b tier_view m.tier_view_is in
      let same = one_some (slice_get p.brokers b) m.x x m.broker_is bx in
      let seen = subst (λ (y : Broker). CoversLog tier_view.view.entries y.log o) same (m.why o low new high) in
      log_goes c.notes v.before c.notes p.registry.start x.log o h.deletions.ended v.begins (prefix_self c.notes) v.begins low
      (subst (λ (s : EntriesSeen). CoversLog s.entries x.log o) v.is seen)
]
dropped b tier_view start (Restarts a rebuild) c p m safe h x bx o low high =
    let same = one_some (slice_get p.brokers b) m.x x m.broker_is bx in
    let r = h.rebuilds a rebuild m.why.0 in
    let front : r.front ≡ m.x.log = one_front p rebuild.epoch r.front m.x.log safe r.begins m.why.3 (r.ends ∙ m.why.1 ∙ sym m.why.2) in
    let below : o < rebuild.wanted = omega (arith, high, m.why.1) in
    subst (λ (y : Broker). CoversLog (fold c.notes) y.log o) same (subst (λ (l : List (List ℕ)). CoversLog (fold c.notes) l o) front (r.covered o low below))

-- a tier view with the same local start
covered_set : (es : List Entry) (start : ℕ) (tier_views : List BrokerTierView) (brokers : List Broker) (b : ℕ) (new : BrokerTierView)
    → ((x : Broker) → slice_get brokers b ≡ Some x → (o : ℕ) → start ≤ o → o < new.start → CoversLog es x.log o)
    → CoveredStands es start tier_views brokers → CoveredStands es start (slice_set tier_views b new) brokers
covered_set es start tier_views brokers b new own h = λ d tier_view x is bx o low high. elim (get-set tier_views b new d tier_view is) [
  | inl here ↦ own x (ap (slice_get brokers) (sym here.0) ∙ bx) o low (subst (λ (s : BrokerTierView). o < s.start) here.1 high)
  | inr there ↦ h d tier_view x there.1 bx o low high
]

pub covered_kept : (change : Change) (c : Scene) (p : Plain) → MayAlter change c p → PlainSafe p → TierSafe c p
    → CoveredStands (fold (effect change c).notes) p.registry.start (effect change c).tier_views p.brokers
covered_kept (Steps tier_views) c p m safe h = absurd m
covered_kept (Moves a move) c p m safe h = h.covered
covered_kept (Chooses a b tier_view copy) c p m safe h =
    covered_set (fold c.notes) p.registry.start c.tier_views p.brokers b (record tier_view { next = tier_view.next + 1 }) (λ x bx o low high. h.covered b tier_view x m.tier_view_is bx o low high) h.covered
covered_kept (Tells a telling origin) c p m safe h = λ b tier_view x is bx o low high.
    (let ended = (deletions_kept (Tells a telling origin) c p m h).ended in
    let first = prefix_more c.notes c.notes (note_for telling origin ∷ []) (prefix_self c.notes) in
    log_goes (c.notes ++ note_for telling origin ∷ []) c.notes (c.notes ++ note_for telling origin ∷ []) p.registry.start x.log o ended first (prefix_self _) first low
    (h.covered b tier_view x is bx o low high))
covered_kept (Stores a storing objects) c p m safe h = h.covered
covered_kept (Sees b tier_view view) c p m safe h =
    covered_set (fold c.notes) p.registry.start c.tier_views p.brokers b (record tier_view { view = view }) (λ x bx o low high. h.covered b tier_view x m.tier_view_is bx o low high) h.covered
covered_kept (Caches b tier_view cache) c p m safe h =
    covered_set (fold c.notes) p.registry.start c.tier_views p.brokers b (record tier_view { cache = cache }) (λ x bx o low high. h.covered b tier_view x m.tier_view_is bx o low high) h.covered
covered_kept (Drops b tier_view start dropping) c p m safe h =
    covered_set (fold c.notes) p.registry.start c.tier_views p.brokers b (record tier_view { start = start }) (dropped b tier_view start dropping c p m safe h) h.covered

-- so does a step
pub covered_stepped : (tier_views : List BrokerTierView) (c : Scene) (p q : Plain) → StepGoes tier_views c p q → TierSafe c p → CoveredStands (fold c.notes) q.registry.start tier_views q.brokers
covered_stepped tier_views c p q m h = λ b new y is by o low high.
    (let f = followed tier_views c p q b new m h is in
    let same = one_some (slice_get q.brokers b) f.y y f.y_is by in
    let start = f.goes.start in
    let within = f.goes.within in
    let old_within = (h.tier_views.each b f.old f.x f.old_is f.x_is).within in
    let old = h.covered b f.old f.x f.old_is f.x_is o (omega (arith, low, m.grows.start)) (omega (arith, high, start)) in
    subst (λ (z : Broker). CoversLog (fold c.notes) z.log o) same
    (covers_same (fold c.notes) f.x.log f.y.log o (comparable_same f.x.log f.y.log o (m.grows.brokers b f.x f.y f.x_is f.y_is).log
    (omega (arith, high, start, old_within)) (omega (arith, high, within))) old))
