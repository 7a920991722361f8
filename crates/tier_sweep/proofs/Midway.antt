-- A sweep that is refused: whatever of its events is reported, and of its objects taken, the same is left to a further
-- one.
use Rattle.std.proofs.Common.{◌≡◌, ◌≢◌, ◌⊎◌, inl, inr, ◌∙◌, refl, sym, ap, subst, ℕ, ℤ, Bool, true, false, cond, List, [], ◌∷◌, ◌++◌, map, Option, Some, None, is_some, append_assoc, arith}
use Rattle.std.specs.Prelude.{filter, option_map}
use Rattle.std.specs.List.{AllByRecursion}
use Rattle.std.specs.Str.{bytes_eq}
use Rattle.tier_base.specs.declared.names.SegmentId.{SegmentId}
use Rattle.tier_base.specs.declared.plain.State.{State}
use Rattle.tier_base.specs.declared.plain.State.TheVariants.{CopyStarted, CopyFinished, DeleteStarted, DeleteFinished}
use Rattle.segment_meta.specs.declared.note.Entry.{Entry}
use Rattle.segment_meta.specs.declared.note.Note.{Note}
use Rattle.segment_meta.specs.Steps.{next_state}
use Rattle.segment_meta.specs.Rules.{IsNote, MayHaveCustom, bare_custom}
use Rattle.remote_view.specs.Fold.{entry_of, state_of, changed, updated, recorded, folded_from, fold, AreDistinct}
use Rattle.remote_view.proofs.Ids.{same_id, bytes_self}
use Rattle.remote_view.proofs.Folding.{fold_distinct}
use Rattle.meta_log.specs.Content.{AreNotes}
use Rattle.tier_sweep.specs.Rest.{is_under_way, stays}
use Rattle.tier_sweep.specs.Sweeping.{is_copying, note_of, notes_of, starts_of, ends_of, rested, MayRemove, SweptTier, IsUnderSweep, Starting, Taking, Ending}
use Rattle.tier_sweep.proofs.Rested.{folded_append, by_recursion, notes_distinct, entry_rested}

-- a sweep reports this state
abbrev pub is_going : State → Bool
is_going DeleteStarted = true
is_going DeleteFinished = true
is_going state = false

-- an event that a sweep of these entries may report
pub record IsOf (es : List Entry) (note : Note) : Type 0 where
  pub entry : Entry
  pub state : State
  pub there : entry_of entry.id es ≡ Some entry
  pub under : is_under_way entry.state ≡ true
  pub going : is_going state ≡ true
  pub is : note ≡ note_of state entry

-- what is of these entries is of one more
of_more : (e : Entry) (es : List Entry) (note : Note) → entry_of e.id es ≡ None → IsOf es note → IsOf (e ∷ es) note
of_more e es note none h = record {
  entry = h.entry;
  state = h.state;
  there = by (bytes_eq e.id.0 h.entry.id.0) refl;
  under = h.under;
  going = h.going;
  is = h.is;
}
  where
    by : (t : Bool) → bytes_eq e.id.0 h.entry.id.0 ≡ t → cond t (Some e) (entry_of h.entry.id es) ≡ Some h.entry
    by true same = absurd (let found = h.there in let gone : entry_of h.entry.id es ≡ None = ap (λ (q : SegmentId). entry_of q es) (sym (same_id e.id h.entry.id same)) ∙ none in cc (gone, found))
    by false other = h.there

all_of_more : (e : Entry) (es : List Entry) (notes : List Note) → entry_of e.id es ≡ None → AllByRecursion (IsOf es) notes → AllByRecursion (IsOf (e ∷ es)) notes
all_of_more e es [] none h = tt
all_of_more e es (note ∷ notes) none h = (of_more e es note none h.0, all_of_more e es notes none h.1)

module _ (passes : State → Bool) (s : State) (going : is_going s ≡ true) (under : (t : State) → passes t ≡ true → is_under_way t ≡ true) where
  -- the events of the entries that pass are
  notes_are : (es : List Entry) → AreDistinct es → AllByRecursion (IsOf es) (notes_of passes s es)
  notes_are [] apart = tt
  notes_are (e ∷ es) apart = by (passes e.state) refl (all_of_more e es (notes_of passes s es) apart.0 (notes_are es apart.1))
    where
      by : (t : Bool) → passes e.state ≡ t → AllByRecursion (IsOf (e ∷ es)) (notes_of passes s es)
          → AllByRecursion (IsOf (e ∷ es)) (map (note_of s) (cond t (e ∷ filter (λ (r : Entry). passes r.state) es) (filter (λ (r : Entry). passes r.state) es)))
      by true is rest = (record { entry = e; state = s; there = found e es; under = under e.state is; going = going; is = refl }, rest)
        where
          found : (x : Entry) (xs : List Entry) → entry_of x.id (x ∷ xs) ≡ Some x
          found x xs = rw (bytes_self x.id.0) refl
      by false is rest = rest

copying_under : (t : State) → is_copying t ≡ true → is_under_way t ≡ true
copying_under CopyStarted is = refl
copying_under CopyFinished is = absurd (cc (is))
copying_under DeleteStarted is = absurd (cc (is))
copying_under DeleteFinished is = absurd (cc (is))

starts_are : (es : List Entry) → AreDistinct es → AllByRecursion (IsOf es) (starts_of es)
starts_are = notes_are is_copying DeleteStarted refl copying_under

ends_are : (es : List Entry) → AreDistinct es → AllByRecursion (IsOf es) (ends_of es)
ends_are = notes_are is_under_way DeleteFinished refl (λ t is. is)

pub front : (P : Note → Type 0) (xs ys : List Note) → AllByRecursion P (xs ++ ys) → AllByRecursion P xs
front P [] ys h = tt
front P (x ∷ xs) ys h = (h.0, front P xs ys h.1)

pub both : (P : Note → Type 0) (xs ys : List Note) → AllByRecursion P xs → AllByRecursion P ys → AllByRecursion P (xs ++ ys)
both P [] ys h h' = h'
both P (x ∷ xs) ys h h' = (h.0, both P xs ys h.1 h')

-- such an event keeps the rules of an event
going_starts_none : (t : State) → is_going t ≡ true → t ≢ CopyStarted
going_starts_none CopyStarted is = absurd (cc (is))
going_starts_none CopyFinished is = absurd (cc (is))
going_starts_none DeleteStarted is = λ e. absurd (cc (e))
going_starts_none DeleteFinished is = λ e. absurd (cc (e))

bare_told : (t : State) → is_going t ≡ true → (packed : Bool) → MayHaveCustom t (bare_custom packed)
bare_told t is false = tt
bare_told t is true = record { few = omega arith; bare = λ e. refl }

pub are_notes : (es : List Entry) (notes : List Note) → AllByRecursion (IsOf es) notes → AllByRecursion IsNote notes
are_notes es [] h = tt
are_notes es (note ∷ notes) h =
    (subst IsNote (sym h.0.is) (going_starts_none h.0.state h.0.going, bare_told h.0.state h.0.going h.0.entry.packed), are_notes es notes h.1)

-- the entry that it changes rests as before
broker_rested : (e : Entry) → (rested e).broker ≡ e.broker
broker_rested e = by (is_under_way e.state)
  where
    by : (t : Bool) → (let y : Entry = cond t (record e { state = DeleteFinished }) e in y.broker) ≡ e.broker
    by true = refl
    by false = refl

time_rested : (e : Entry) → (rested e).event_ts ≡ e.event_ts
time_rested e = by (is_under_way e.state)
  where
    by : (t : Bool) → (let y : Entry = cond t (record e { state = DeleteFinished }) e in y.event_ts) ≡ e.event_ts
    by true = refl
    by false = refl

-- what rests as finished is only reported so
as_finished : (x : Entry) → (rested x).state ≡ DeleteFinished → rested x ≡ record x { state = DeleteFinished }
as_finished x = by (is_under_way x.state)
  where
    by : (t : Bool) → (let y : Entry = cond t (record x { state = DeleteFinished }) x in y.state) ≡ DeleteFinished
        → cond t (record x { state = DeleteFinished }) x ≡ record x { state = DeleteFinished }
    by true is = refl
    by false is = ap (λ (t : State). (let y : Entry = record x { state = t } in y)) is

going_rests : (x : Entry) (t : State) → is_going t ≡ true → rested (record x { state = t }) ≡ record x { state = DeleteFinished }
going_rests x CopyStarted is = absurd (cc (is))
going_rests x CopyFinished is = absurd (cc (is))
going_rests x DeleteStarted is = refl
going_rests x DeleteFinished is = refl

-- its event keeps the custom metadata
going_kept : (x : Entry) (t : State) (told : Option (List ℕ)) → is_going t ≡ true → rested (updated x.broker x.event_ts t told x) ≡ rested (record x { state = t })
going_kept x CopyStarted told is = absurd (cc (is))
going_kept x CopyFinished told is = absurd (cc (is))
going_kept x DeleteStarted told is = refl
going_kept x DeleteFinished told is = refl

change_rests : (e x : Entry) (t : State) → is_under_way e.state ≡ true → is_going t ≡ true → rested x ≡ rested e → rested (updated e.broker e.event_ts t (bare_custom e.packed) x) ≡ rested x
change_rests e x t under going same =
    let broker : e.broker ≡ x.broker = sym (broker_rested e) ∙ (ap (λ (y : Entry). y.broker) (sym same) ∙ broker_rested x) in
    let time : e.event_ts ≡ x.event_ts = sym (time_rested e) ∙ (ap (λ (y : Entry). y.event_ts) (sym same) ∙ time_rested x) in
    let ended : (rested e).state ≡ DeleteFinished = rw under refl in
    let finished = as_finished x (ap (λ (y : Entry). y.state) same ∙ ended) in
    ap (λ b. rested (updated b e.event_ts t (bare_custom e.packed) x)) broker
    ∙ (ap (λ (at : ℤ). rested (updated x.broker at t (bare_custom e.packed) x)) time ∙ (going_kept x t (bare_custom e.packed) going ∙ (going_rests x t going ∙ sym finished)))

change_all : (q : SegmentId) (change : Entry → Entry) (xs : List Entry) → ((x : Entry) → entry_of q xs ≡ Some x → rested (change x) ≡ rested x)
    → map rested (changed q change xs) ≡ map rested xs
change_all q change [] same = refl
change_all q change (x ∷ xs) same = by (bytes_eq x.id.0 q.0) same (λ (s : (y : Entry) → entry_of q xs ≡ Some y → rested (change y) ≡ rested y). change_all q change xs s)
  where
    by : (t : Bool) → ((y : Entry) → cond t (Some x) (entry_of q xs) ≡ Some y → rested (change y) ≡ rested y)
        → (((y : Entry) → entry_of q xs ≡ Some y → rested (change y) ≡ rested y) → map rested (changed q change xs) ≡ map rested xs)
        → map rested (cond t (change x ∷ xs) (x ∷ changed q change xs)) ≡ rested x ∷ map rested xs
    by true same more = ap (λ (y : Entry). y ∷ map rested xs) (same x refl)
    by false same more = ap (λ (ys : List Entry). rested x ∷ ys) (more same)

some_same : {A : Type 0} (a b : A) → Some a ≡ Some b → a ≡ b
some_same a b e = cc (e)

-- one event
note_rests : (es xs : List Entry) (note : Note) → IsOf es note → map rested xs ≡ map rested es → map rested (recorded xs note) ≡ map rested es
note_rests es xs note h same = subst (λ (n : Note). map rested (recorded xs n) ≡ map rested es) (sym h.is) (by (is_some (next_state (state_of h.entry.id xs) h.state)))
  where
    found : (x : Entry) → entry_of h.entry.id xs ≡ Some x → rested x ≡ rested h.entry
    found x here = some_same (rested x) (rested h.entry)
        (ap (option_map rested) (sym here) ∙ (sym (entry_rested h.entry.id xs) ∙ (ap (entry_of h.entry.id) same ∙ (entry_rested h.entry.id es ∙ ap (option_map rested) h.there))))

    by : (t : Bool) → map rested (cond t (changed h.entry.id (updated h.entry.broker h.entry.event_ts h.state (bare_custom h.entry.packed)) xs) xs) ≡ map rested es
    by true = change_all h.entry.id (updated h.entry.broker h.entry.event_ts h.state (bare_custom h.entry.packed)) xs (λ x here. change_rests h.entry x h.state h.under h.going (found x here)) ∙ same
    by false = same

pub notes_rest : (es xs : List Entry) (notes : List Note) → AllByRecursion (IsOf es) notes → map rested xs ≡ map rested es → map rested (folded_from xs notes) ≡ map rested es
notes_rest es xs [] h same = same
notes_rest es xs (note ∷ notes) h same = notes_rest es (recorded xs note) notes h.1 (note_rests es xs note h.0 same)

-- what a refused sweep has reported
pub record IsTold (old new : SweptTier) : Type 0 where
  pub notes : List Note
  pub are : AllByRecursion (IsOf (fold old.notes)) notes
  pub now : new.notes ≡ old.notes ++ notes

pub is_told : (old new : SweptTier) → AreDistinct (fold old.notes) → IsUnderSweep old new → IsTold old new
is_told old new apart (Starting h) = record {
  notes = h.notes.told;
  are = front (IsOf (fold old.notes)) h.notes.told h.notes.rest (subst (AllByRecursion (IsOf (fold old.notes))) (sym h.notes.are) (starts_are (fold old.notes) apart));
  now = h.notes.now;
}
is_told old new apart (Taking h) = record { notes = starts_of (fold old.notes); are = starts_are (fold old.notes) apart; now = h.notes }
is_told old new apart (Ending h) = record {
  notes = starts_of (fold old.notes) ++ h.notes.told;
  are = both (IsOf (fold old.notes)) (starts_of (fold old.notes)) h.notes.told (starts_are (fold old.notes) apart)
      (front (IsOf (fold old.notes)) h.notes.told h.notes.rest (subst (AllByRecursion (IsOf (fold old.notes))) (sym h.notes.are) (ends_are (fold old.notes) apart)));
  now = h.notes.now ∙ regroup old.notes (starts_of (fold old.notes)) h.notes.told;
}
  where
    regroup : (a b c : List Note) → (a ++ b) ++ c ≡ a ++ (b ++ c)
    regroup a b c = simp append_assoc

-- the entries come to rest as before after any such events
pub told_rests : (old notes : List Note) → AllByRecursion (IsOf (fold old)) notes → map rested (fold (old ++ notes)) ≡ map rested (fold old)
told_rests old notes are = ap (λ (es : List Entry). map rested es) (folded_append [] old notes) ∙ notes_rest (fold old) (fold old) notes are refl

-- the entries come to rest as before
pub under_rests : (old new : SweptTier) → AreNotes old.notes → IsUnderSweep old new → map rested (fold new.notes) ≡ map rested (fold old.notes)
under_rests old new are h =
    let told = is_told old new (notes_distinct old.notes are) h in
    ap (λ (ns : List Note). map rested (fold ns)) told.now
    ∙ told_rests old.notes told.notes told.are

-- their ids are distinguished
pub under_distinct : (old new : SweptTier) → AreNotes old.notes → IsUnderSweep old new → AreDistinct (fold new.notes)
under_distinct old new are h =
    let told = is_told old new (notes_distinct old.notes are) h in
    fold_distinct new.notes (subst (AllByRecursion IsNote) (sym told.now) (both IsNote old.notes told.notes (by_recursion IsNote old.notes are) (are_notes (fold old.notes) told.notes told.are)))

-- no object has gone that stays
pub under_may_take : (old new : SweptTier) → IsUnderSweep old new → MayRemove (fold old.notes) old.objects new.objects
under_may_take old new (Starting h) key = inl (h.objects key)
under_may_take old new (Taking h) key = h.objects key
under_may_take old new (Ending h) key = by (stays (fold old.notes) key.id) refl (h.objects key)
  where
    by : (t : Bool) → stays (fold old.notes) key.id ≡ t → new.objects key ≡ cond t (old.objects key) None
        → (new.objects key ≡ old.objects key) ⊎ ((stays (fold old.notes) key.id ≡ false) × (new.objects key ≡ None))
    by true is same = inl same
    by false is none = inr (is, none)
