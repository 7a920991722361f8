-- What a metadata event makes of the entry of an id.
use Rattle.std.proofs.Common.{◌≡◌, ◌≢◌, ◌∙◌, sym, ap, subst, refl, ◌≤◌, Bool, true, false, cond, List, [], ◌∷◌, ◌++◌, Option, Some, None, arith}
use Rattle.std.specs.Prelude.{ℤ, is_some, if◌then◌else◌}
use Rattle.std.specs.Str.{bytes_eq}
use mathlib.Core.List.{IsPrefix}
use Rattle.tier_base.specs.declared.names.BrokerId.{BrokerId}
use Rattle.tier_base.specs.declared.names.SegmentId.{SegmentId}
use Rattle.tier_base.specs.declared.blob.Blob.{Blob}
use Rattle.tier_base.specs.declared.plain.State.{State}
use Rattle.tier_base.specs.declared.plain.State.TheVariants.{CopyStarted, CopyFinished, DeleteStarted, DeleteFinished}
use Rattle.segment_meta.specs.declared.note.Entry.{Entry}
use Rattle.segment_meta.specs.declared.note.Note.{Note}
use Rattle.segment_meta.specs.declared.note.Note.TheVariants.{Add, Update}
use Rattle.segment_meta.specs.Spelling.{state_code}
use Rattle.segment_meta.specs.Steps.{next_state}
use Rattle.remote_view.specs.Fold.{entry_of, state_of, changed, updated, custom_after, recorded, folded_from, fold}
use Rattle.remote_view.proofs.Ids.{same_id, bytes_self, other_bytes}

-- an entry later: of the same segment, in no earlier state; once its copy isn't in progress, its custom metadata stays
pub record Follows (old new : Entry) : Type 0 where
  pub id : new.id ≡ old.id
  pub partition : new.partition ≡ old.partition
  pub start : new.start ≡ old.start
  pub end : new.end ≡ old.end
  pub max_ts : new.max_ts ≡ old.max_ts
  pub size : new.size ≡ old.size
  pub map : new.map ≡ old.map
  pub packed : new.packed ≡ old.packed
  pub custom : old.state ≢ CopyStarted → new.custom ≡ old.custom
  pub state : state_code old.state ≤ state_code new.state

-- the id that a metadata event speaks of
abbrev pub id_in : Note → SegmentId
id_in (Add entry) = entry.id
id_in (Update id broker event_ts state custom) = id

-- an entry after an update of its id
abbrev pub told : BrokerId → ℤ → State → Option Blob → Entry → Entry
told broker event_ts state custom entry =
    if is_some (next_state (Some entry.state) state) then updated broker event_ts state custom entry else entry

-- one entry more at the end
push_other : (es : List Entry) (e : Entry) (id : SegmentId) → bytes_eq e.id.0 id.0 ≡ false → entry_of id (es ++ e ∷ []) ≡ entry_of id es
push_other [] e id h = rw h refl
push_other (x ∷ es) e id h = by (bytes_eq x.id.0 id.0) (push_other es e id h)
  where
    by : (t : Bool) → entry_of id (es ++ e ∷ []) ≡ entry_of id es → cond t (Some x) (entry_of id (es ++ e ∷ [])) ≡ cond t (Some x) (entry_of id es)
    by true h = refl
    by false h = h

push_own : (es : List Entry) (e : Entry) → entry_of e.id es ≡ None → entry_of e.id (es ++ e ∷ []) ≡ Some e
push_own [] e h = rw (bytes_self e.id.0) refl
push_own (x ∷ es) e h = by (bytes_eq x.id.0 e.id.0) h (push_own es e)
  where
    by : (t : Bool) → cond t (Some x) (entry_of e.id es) ≡ None → (entry_of e.id es ≡ None → entry_of e.id (es ++ e ∷ []) ≡ Some e)
        → cond t (Some x) (entry_of e.id (es ++ e ∷ [])) ≡ Some e
    by true h more = absurd (cc)
    by false h more = more h

push_found : (es : List Entry) (e x : Entry) (id : SegmentId) → entry_of id es ≡ Some x → entry_of id (es ++ e ∷ []) ≡ Some x
push_found [] e x id h = absurd (cc)
push_found (y ∷ es) e x id h = by (bytes_eq y.id.0 id.0) h (push_found es e x id)
  where
    by : (t : Bool) → cond t (Some y) (entry_of id es) ≡ Some x → (entry_of id es ≡ Some x → entry_of id (es ++ e ∷ []) ≡ Some x)
        → cond t (Some y) (entry_of id (es ++ e ∷ [])) ≡ Some x
    by true h more = h
    by false h more = more h

-- an entry changed, whose id stays
change_other : (own id : SegmentId) (f : Entry → Entry) (es : List Entry) → ((e : Entry) → (f e).id ≡ e.id) → bytes_eq own.0 id.0 ≡ false
    → entry_of id (changed own f es) ≡ entry_of id es
change_other own id f [] k h = refl
change_other own id f (x ∷ es) k h = by (bytes_eq x.id.0 own.0) refl (change_other own id f es k h)
  where
    by : (t : Bool) → bytes_eq x.id.0 own.0 ≡ t → entry_of id (changed own f es) ≡ entry_of id es
        → entry_of id (cond t (f x ∷ es) (x ∷ changed own f es)) ≡ entry_of id (x ∷ es)
    by true is h' =
        let one : x.id ≡ own = same_id x.id own is in
        let old : bytes_eq x.id.0 id.0 ≡ false = rw one h in
        let new : bytes_eq (f x).id.0 id.0 ≡ false = rw (k x) old in
        rw (old, new) refl
    by false is h' = again (bytes_eq x.id.0 id.0) h'
      where
        again : (u : Bool) → entry_of id (changed own f es) ≡ entry_of id es → cond u (Some x) (entry_of id (changed own f es)) ≡ cond u (Some x) (entry_of id es)
        again true h = refl
        again false h = h

change_own : (id : SegmentId) (f : Entry → Entry) (es : List Entry) (x : Entry) → ((e : Entry) → (f e).id ≡ e.id) → entry_of id es ≡ Some x
    → entry_of id (changed id f es) ≡ Some (f x)
change_own id f [] x k h = absurd (cc)
change_own id f (y ∷ es) x k h = by (bytes_eq y.id.0 id.0) refl h (change_own id f es x k)
  where
    by : (t : Bool) → bytes_eq y.id.0 id.0 ≡ t → cond t (Some y) (entry_of id es) ≡ Some x
        → (entry_of id es ≡ Some x → entry_of id (changed id f es) ≡ Some (f x))
        → entry_of id (cond t (f y ∷ es) (y ∷ changed id f es)) ≡ Some (f x)
    by true is h more =
        let new : bytes_eq (f y).id.0 id.0 ≡ true = rw (k y) is in
        let same : y ≡ x = cc (h) in
        rw new (ap (λ (e : Entry). Some (f e)) same)
    by false is h more = rw is (more h)

-- a metadata event of another id
pub other_entry : (es : List Entry) (note : Note) (id : SegmentId) → id_in note ≢ id → entry_of id (recorded es note) ≡ entry_of id es
other_entry es (Add e) id ne = by (is_some (next_state (state_of e.id es) e.state))
  where
    by : (t : Bool) → entry_of id (cond t (es ++ e ∷ []) es) ≡ entry_of id es
    by true = push_other es e id (other_bytes e.id id ne)
    by false = refl
other_entry es (Update own broker event_ts state custom) id ne = by (is_some (next_state (state_of own es) state))
  where
    by : (t : Bool) → entry_of id (cond t (changed own (updated broker event_ts state custom) es) es) ≡ entry_of id es
    by true = change_other own id (updated broker event_ts state custom) es (λ e. refl) (other_bytes own id ne)
    by false = refl

-- a metadata event that adds an entry of an unknown id
pub add_entry : (es : List Entry) (e : Entry) → e.state ≡ CopyStarted → entry_of e.id es ≡ None → entry_of e.id (recorded es (Add e)) ≡ Some e
add_entry es e started none = by (is_some (next_state (state_of e.id es) e.state)) (rw (none, started) refl)
  where
    by : (t : Bool) → t ≡ true → entry_of e.id (cond t (es ++ e ∷ []) es) ≡ Some e
    by true is = push_own es e none
    by false is = absurd (cc)

-- an update of a known id
pub told_entry : (es : List Entry) (id : SegmentId) (broker : BrokerId) (event_ts : ℤ) (state : State) (custom : Option Blob) (x : Entry) → entry_of id es ≡ Some x
    → entry_of id (recorded es (Update id broker event_ts state custom)) ≡ Some (told broker event_ts state custom x)
told_entry es id broker event_ts state custom x h = rw h (by (is_some (next_state (Some x.state) state)))
  where
    by : (t : Bool) → entry_of id (cond t (changed id (updated broker event_ts state custom) es) es) ≡ Some (cond t (updated broker event_ts state custom x) x)
    by true = change_own id (updated broker event_ts state custom) es x (λ e. refl) h
    by false = h

pub follows_self : (x : Entry) → Follows x x
follows_self x = record { id = refl; partition = refl; start = refl; end = refl; max_ts = refl; size = refl; map = refl; packed = refl; custom = λ ne. refl; state = omega arith }

-- a copy that isn't in progress never is again
pub not_begun : (old new : State) → state_code old ≤ state_code new → old ≢ CopyStarted → new ≢ CopyStarted
not_begun CopyStarted new h ne e = ne refl
not_begun CopyFinished CopyStarted h ne e = absurd (omega (arith, h))
not_begun DeleteStarted CopyStarted h ne e = absurd (omega (arith, h))
not_begun DeleteFinished CopyStarted h ne e = absurd (omega (arith, h))
not_begun old CopyFinished h ne e = absurd (cc (e))
not_begun old DeleteStarted h ne e = absurd (cc (e))
not_begun old DeleteFinished h ne e = absurd (cc (e))

pub follows_trans : (x y z : Entry) → Follows x y → Follows y z → Follows x z
follows_trans x y z h k = record {
  id = k.id ∙ h.id;
  partition = k.partition ∙ h.partition;
  start = k.start ∙ h.start;
  end = k.end ∙ h.end;
  max_ts = k.max_ts ∙ h.max_ts;
  size = k.size ∙ h.size;
  map = k.map ∙ h.map;
  packed = k.packed ∙ h.packed;
  custom = λ ne. k.custom (not_begun x.state y.state h.state ne) ∙ h.custom ne;
  state = omega (arith, h.state, k.state);
}

step_rises : (old new : State) → is_some (next_state (Some old) new) ≡ true → state_code old ≤ state_code new
step_rises CopyStarted CopyFinished h = omega arith
step_rises CopyStarted DeleteStarted h = omega arith
step_rises CopyFinished DeleteStarted h = omega arith
step_rises DeleteStarted DeleteFinished h = omega arith
step_rises old new h = absurd (cc)

-- only a copy in progress is finished, so no other step changes custom metadata
step_keeps : (old new : State) (told custom : Option Blob) → is_some (next_state (Some old) new) ≡ true → old ≢ CopyStarted → custom_after new told custom ≡ custom
step_keeps CopyStarted new told custom h ne = absurd (ne refl)
step_keeps CopyFinished CopyFinished told custom h ne = absurd (cc (h))
step_keeps DeleteStarted CopyFinished told custom h ne = absurd (cc (h))
step_keeps DeleteFinished CopyFinished told custom h ne = absurd (cc (h))
step_keeps old CopyStarted told custom h ne = refl
step_keeps old DeleteStarted told custom h ne = refl
step_keeps old DeleteFinished told custom h ne = refl

pub told_follows : (broker : BrokerId) (event_ts : ℤ) (state : State) (custom : Option Blob) (x : Entry) → Follows x (told broker event_ts state custom x)
told_follows broker event_ts state custom x = by (is_some (next_state (Some x.state) state)) refl
  where
    by : (t : Bool) → is_some (next_state (Some x.state) state) ≡ t → Follows x (cond t (updated broker event_ts state custom x) x)
    by true is = record { id = refl; partition = refl; start = refl; end = refl; max_ts = refl; size = refl; map = refl; packed = refl; custom = λ ne. step_keeps x.state state custom x.custom is ne; state = step_rises x.state state is }
    by false is = follows_self x

both : {t : Bool} → t ≡ true → t ≡ false → ⊥
both h k = absurd (cc (h, k))

-- an entry continues after any metadata event
pub entry_goes : (es : List Entry) (note : Note) (id : SegmentId) (x : Entry) → entry_of id es ≡ Some x
    → (y : Entry) × (entry_of id (recorded es note) ≡ Some y) × Follows x y
entry_goes es (Add e) id x h = (x, by (is_some (next_state (state_of e.id es) e.state)), follows_self x)
  where
    by : (t : Bool) → entry_of id (cond t (es ++ e ∷ []) es) ≡ Some x
    by true = push_found es e x id h
    by false = h
entry_goes es (Update own broker event_ts state custom) id x h = by (bytes_eq own.0 id.0) refl
  where
    by : (t : Bool) → bytes_eq own.0 id.0 ≡ t → (y : Entry) × (entry_of id (recorded es (Update own broker event_ts state custom)) ≡ Some y) × Follows x y
    by true is =
        let one : own ≡ id = same_id own id is in (
          told broker event_ts state custom x,
          subst (λ (i : SegmentId). entry_of id (recorded es (Update i broker event_ts state custom)) ≡ Some (told broker event_ts state custom x)) (sym one)
              (told_entry es id broker event_ts state custom x h),
          told_follows broker event_ts state custom x,
        )
    by false is = (x, other_entry es (Update own broker event_ts state custom) id (λ same. both (ap (λ (i : SegmentId). bytes_eq i.0 id.0) same ∙ bytes_self id.0) is) ∙ h, follows_self x)

-- the fold of one metadata event more
folded_push : (entries : List Entry) (notes : List Note) (note : Note) → folded_from entries (notes ++ note ∷ []) ≡ recorded (folded_from entries notes) note
folded_push entries [] note = refl
folded_push entries (first ∷ notes) note = folded_push (recorded entries first) notes note

pub fold_push : (notes : List Note) (note : Note) → fold (notes ++ note ∷ []) ≡ recorded (fold notes) note
fold_push notes note = folded_push [] notes note

folded_goes : (es : List Entry) (notes : List Note) (id : SegmentId) (x : Entry) → entry_of id es ≡ Some x
    → (y : Entry) × (entry_of id (folded_from es notes) ≡ Some y) × Follows x y
folded_goes es [] id x h = (x, h, follows_self x)
folded_goes es (note ∷ notes) id x h =
    let one = entry_goes es note id x h in
    let more = folded_goes (recorded es note) notes id one.0 one.1 in
    (more.0, more.1, follows_trans x one.0 more.0 one.2 more.2)

folded_append : (es : List Entry) (notes more : List Note) → folded_from es (notes ++ more) ≡ folded_from (folded_from es notes) more
folded_append es [] more = refl
folded_append es (note ∷ notes) more = folded_append (recorded es note) notes more

-- and after all further metadata events
pub prefix_goes : (before notes : List Note) (id : SegmentId) (x : Entry) → IsPrefix before notes → entry_of id (fold before) ≡ Some x
    → (y : Entry) × (entry_of id (fold notes) ≡ Some y) × Follows x y
prefix_goes before notes id x p h =
    let more = folded_goes (fold before) p.0 id x h in
    let is : folded_from (fold before) p.0 ≡ fold notes = sym (folded_append [] before p.0) ∙ ap fold p.1 in
    (more.0, subst (λ (es : List Entry). entry_of id es ≡ Some more.0) is more.1, more.2)
