-- What the events of a sweep come to: each entry in progress is recorded as finished, and the others stay.
use Rattle.std.proofs.Common.{◌≡◌, ◌∙◌, refl, sym, ap, suc, Bool, true, false, cond, List, [], ◌∷◌, ◌++◌, map, Some, None, is_some, arith}
use Rattle.std.specs.Prelude.{filter, option_map, All}
use Rattle.std.specs.List.{AllByRecursion}
use Rattle.std.specs.Str.{bytes_eq}
use Rattle.tier_base.specs.declared.names.SegmentId.{SegmentId}
use Rattle.tier_base.specs.declared.plain.State.{State}
use Rattle.tier_base.specs.declared.plain.State.TheVariants.{CopyStarted, CopyFinished, DeleteStarted, DeleteFinished}
use Rattle.segment_meta.specs.declared.note.Entry.{Entry}
use Rattle.segment_meta.specs.declared.note.Note.{Note}
use Rattle.segment_meta.specs.Steps.{next_state}
use Rattle.segment_meta.specs.Rules.{IsNote, bare_custom}
use Rattle.meta_log.specs.Content.{AreNotes}
use Rattle.remote_view.specs.Fold.{entry_of, state_of, changed, updated, recorded, folded_from, fold, AreDistinct}
use Rattle.remote_view.proofs.Ids.{same_id, bytes_self}
use Rattle.remote_view.proofs.Folding.{fold_distinct}
use Rattle.tier_sweep.specs.Rest.{is_under_way, NoneUnderWay}
use Rattle.tier_sweep.specs.Sweeping.{is_copying, note_of, notes_of, starts_of, ends_of, rested}

-- the other way round
other_way : (a b : SegmentId) → bytes_eq a.0 b.0 ≡ false → bytes_eq b.0 a.0 ≡ false
other_way a b other = by (bytes_eq b.0 a.0) refl
  where
    by : (t : Bool) → bytes_eq b.0 a.0 ≡ t → t ≡ false
    by true same = absurd (let one : b ≡ a = same_id b a same in let here : bytes_eq a.0 b.0 ≡ true = rw one (bytes_self a.0) in cc)
    by false same = refl

-- an id that misses entries isn't the first one's, and misses the others
misses_first : (q : SegmentId) (e : Entry) (es : List Entry) → entry_of q (e ∷ es) ≡ None → (bytes_eq e.id.0 q.0 ≡ false) × (entry_of q es ≡ None)
misses_first q e es none = by (bytes_eq e.id.0 q.0) none
  where
    by : (t : Bool) → cond t (Some e) (entry_of q es) ≡ None → (t ≡ false) × (entry_of q es ≡ None)
    by true gone = absurd (cc (gone))
    by false gone = (refl, gone)

-- an event of another id leaves the first entry
recorded_behind : (x r : Entry) (xs : List Entry) (s : State) → bytes_eq x.id.0 r.id.0 ≡ false → recorded (x ∷ xs) (note_of s r) ≡ x ∷ recorded xs (note_of s r)
recorded_behind x r xs s other = rw other (by (is_some (next_state (state_of r.id xs) s)))
  where
    by : (t : Bool) → cond t (x ∷ changed r.id (updated r.broker r.event_ts s (bare_custom r.packed)) xs) (x ∷ xs) ≡ x ∷ cond t (changed r.id (updated r.broker r.event_ts s (bare_custom r.packed)) xs) xs
    by true = refl
    by false = refl

module _ (passes : State → Bool) (s : State) where
  -- and so do the events of entries of other ids
  all_behind : (x : Entry) (xs es : List Entry) → entry_of x.id es ≡ None → folded_from (x ∷ xs) (notes_of passes s es) ≡ x ∷ folded_from xs (notes_of passes s es)
  all_behind x xs [] none = refl
  all_behind x xs (r ∷ es) none =
      let apart = misses_first x.id r es none in
      by (passes r.state) (recorded_behind x r xs s (other_way r.id x.id apart.0)) (all_behind x (recorded xs (note_of s r)) es apart.1) (all_behind x xs es apart.1)
    where
      by : (t : Bool) → recorded (x ∷ xs) (note_of s r) ≡ x ∷ recorded xs (note_of s r)
          → folded_from (x ∷ recorded xs (note_of s r)) (notes_of passes s es) ≡ x ∷ folded_from (recorded xs (note_of s r)) (notes_of passes s es)
          → folded_from (x ∷ xs) (notes_of passes s es) ≡ x ∷ folded_from xs (notes_of passes s es)
          → folded_from (x ∷ xs) (map (note_of s) (cond t (r ∷ filter (λ (e : Entry). passes e.state) es) (filter (λ (e : Entry). passes e.state) es)))
          ≡ x ∷ folded_from xs (map (note_of s) (cond t (r ∷ filter (λ (e : Entry). passes e.state) es) (filter (λ (e : Entry). passes e.state) es)))
      by true one more over = ap (λ (ys : List Entry). folded_from ys (notes_of passes s es)) one ∙ more
      by false one more over = over

  module _ (before after : Entry → Entry) (ids : (e : Entry) → (before e).id ≡ e.id)
      (steps : (e : Entry) → passes e.state ≡ true → (is_some (next_state (Some (before e).state) s) ≡ true) × (updated e.broker e.event_ts s (bare_custom e.packed) (before e) ≡ after e))
      (rests : (e : Entry) → passes e.state ≡ false → before e ≡ after e) where
    -- the first entry's event
    first_step : (e : Entry) (xs : List Entry) → passes e.state ≡ true → recorded (before e ∷ xs) (note_of s e) ≡ after e ∷ xs
    first_step e xs is =
        let here : bytes_eq (before e).id.0 e.id.0 ≡ true = rw (ids e) (bytes_self e.id.0) in
        let step = (steps e is).0 in
        let same = (steps e is).1 in
        rw (here, step) (ap (λ (y : Entry). y ∷ xs) same)

    -- the events of all that pass
    all_steps : (es : List Entry) → AreDistinct es → folded_from (map before es) (notes_of passes s es) ≡ map after es
    all_steps [] apart = refl
    all_steps (e ∷ es) apart = by (passes e.state) refl (all_steps es apart.1)
      where
        by : (t : Bool) → passes e.state ≡ t → folded_from (map before es) (notes_of passes s es) ≡ map after es
            → folded_from (before e ∷ map before es) (map (note_of s) (cond t (e ∷ filter (λ (r : Entry). passes r.state) es) (filter (λ (r : Entry). passes r.state) es))) ≡ after e ∷ map after es
        by true is more =
            let same : e.id ≡ (after e).id = sym (ids e) ∙ ap (λ (y : Entry). y.id) (steps e is).1 in
            let none : entry_of (after e).id es ≡ None = ap (λ (q : SegmentId). entry_of q es) (sym same) ∙ apart.0 in
            ap (λ (ys : List Entry). folded_from ys (notes_of passes s es)) (first_step e (map before es) is)
            ∙ (all_behind (after e) (map before es) es none ∙ ap (λ (ys : List Entry). after e ∷ ys) more)
        by false is more =
            let none : entry_of (before e).id es ≡ None = ap (λ (q : SegmentId). entry_of q es) (ids e) ∙ apart.0 in
            all_behind (before e) (map before es) es none
            ∙ (ap (λ (ys : List Entry). before e ∷ ys) more ∙ ap (λ (y : Entry). y ∷ map after es) (rests e is))

-- an entry as the starts leave it
abbrev started : Entry → Entry
started e = cond (is_copying e.state) (record e { state = DeleteStarted }) e

started_id : (e : Entry) → (started e).id ≡ e.id
started_id e = by (is_copying e.state)
  where
    by : (t : Bool) → (let y : Entry = cond t (record e { state = DeleteStarted }) e in y.id) ≡ e.id
    by true = refl
    by false = refl

copying_steps : (t : State) → is_copying t ≡ true → is_some (next_state (Some t) DeleteStarted) ≡ true
copying_steps CopyStarted is = refl
copying_steps CopyFinished is = refl
copying_steps DeleteStarted is = absurd (cc (is))
copying_steps DeleteFinished is = absurd (cc (is))

not_copying : (t : State) → is_under_way t ≡ false → is_copying t ≡ false
not_copying CopyStarted is = absurd (cc (is))
not_copying CopyFinished is = refl
not_copying DeleteStarted is = refl
not_copying DeleteFinished is = refl

start_steps : (e : Entry) → is_copying e.state ≡ true → (is_some (next_state (Some e.state) DeleteStarted) ≡ true) × (updated e.broker e.event_ts DeleteStarted (bare_custom e.packed) e ≡ started e)
start_steps e is = (copying_steps e.state is, rw is refl)

end_steps : (e : Entry) → is_under_way e.state ≡ true → (is_some (next_state (Some (started e).state) DeleteFinished) ≡ true) × (updated e.broker e.event_ts DeleteFinished (bare_custom e.packed) (started e) ≡ rested e)
end_steps e is = by e.state refl is
  where
    by : (t : State) → e.state ≡ t → is_under_way t ≡ true → (is_some (next_state (Some (started e).state) DeleteFinished) ≡ true) × (updated e.broker e.event_ts DeleteFinished (bare_custom e.packed) (started e) ≡ rested e)
    by CopyStarted here under = let copying : is_copying e.state ≡ true = ap is_copying here in (rw copying refl, rw (copying, is) refl)
    by CopyFinished here under = absurd (cc (under))
    by DeleteStarted here under = let other : is_copying e.state ≡ false = ap is_copying here in (rw (other, here) refl, rw (other, is) refl)
    by DeleteFinished here under = absurd (cc (under))

end_rests : (e : Entry) → is_under_way e.state ≡ false → started e ≡ rested e
end_rests e is = let other = not_copying e.state is in rw (other, is) refl

same_all : (es : List Entry) → map (λ (e : Entry). e) es ≡ es
same_all [] = refl
same_all (e ∷ es) = ap (λ (ys : List Entry). e ∷ ys) (same_all es)

starts_come : (es : List Entry) → AreDistinct es → folded_from es (starts_of es) ≡ map started es
starts_come es apart =
    ap (λ (ys : List Entry). folded_from ys (starts_of es)) (sym (same_all es))
    ∙ all_steps is_copying DeleteStarted (λ (e : Entry). e) started (λ e. refl) start_steps (λ e is. rw is refl) es apart

ends_come : (es : List Entry) → AreDistinct es → folded_from (map started es) (ends_of es) ≡ map rested es
ends_come es apart = all_steps is_under_way DeleteFinished started rested started_id end_steps end_rests es apart

pub folded_append : (es : List Entry) (xs ys : List Note) → folded_from es (xs ++ ys) ≡ folded_from (folded_from es xs) ys
folded_append es [] ys = refl
folded_append es (x ∷ xs) ys = folded_append (recorded es x) xs ys

-- all starts, and then all ends
pub fold_swept : (notes : List Note) → AreDistinct (fold notes) → fold (notes ++ starts_of (fold notes) ++ ends_of (fold notes)) ≡ map rested (fold notes)
fold_swept notes apart =
    folded_append [] (notes ++ starts_of (fold notes)) (ends_of (fold notes))
    ∙ (ap (λ (es : List Entry). folded_from es (ends_of (fold notes))) (folded_append [] notes (starts_of (fold notes)) ∙ starts_come (fold notes) apart)
    ∙ ends_come (fold notes) apart)

-- each is, by recursion
pub by_recursion : (P : Note → Type 0) (notes : List Note) → All P notes → AllByRecursion P notes
by_recursion P [] h = tt
by_recursion P (note ∷ notes) h = (h 0 note (omega arith), by_recursion P notes (λ k d low. h (suc k) d (omega (arith, low))))

pub notes_distinct : (notes : List Note) → AreNotes notes → AreDistinct (fold notes)
notes_distinct notes are = fold_distinct notes (by_recursion IsNote notes are)

-- an id that is looked up among the entries at rest
rested_id : (e : Entry) → (rested e).id ≡ e.id
rested_id e = by (is_under_way e.state)
  where
    by : (t : Bool) → (let y : Entry = cond t (record e { state = DeleteFinished }) e in y.id) ≡ e.id
    by true = refl
    by false = refl

pub entry_rested : (q : SegmentId) (es : List Entry) → entry_of q (map rested es) ≡ option_map rested (entry_of q es)
entry_rested q [] = refl
entry_rested q (e ∷ es) =
    ap (λ (i : SegmentId). cond (bytes_eq i.0 q.0) (Some (rested e)) (entry_of q (map rested es))) (rested_id e) ∙ by (bytes_eq e.id.0 q.0) (entry_rested q es)
  where
    by : (t : Bool) → entry_of q (map rested es) ≡ option_map rested (entry_of q es)
        → cond t (Some (rested e)) (entry_of q (map rested es)) ≡ option_map rested (cond t (Some e) (entry_of q es))
    by true rest = refl
    by false rest = rest

-- they all rest
pub all_rest : (es : List Entry) → NoneUnderWay (map rested es)
all_rest [] = tt
all_rest (e ∷ es) = (by (is_under_way e.state) refl, all_rest es)
  where
    by : (t : Bool) → is_under_way e.state ≡ t → is_under_way (let y : Entry = cond t (record e { state = DeleteFinished }) e in y.state) ≡ false
    by true is = refl
    by false is = is
