-- A metadata event of a copy deletes nothing, and one of an expiry what ends below the log start offset. A view that
-- takes more metadata events shows what it has shown.
use Rattle.std.proofs.Common.{◌≡◌, ◌∙◌, ◌⊎◌, inl, inr, sym, ap, subst, refl, ℕ, ◌<◌, Bool, true, false, cond, List, [], ◌∷◌, ◌++◌, Some, None, Option}
use Rattle.std.specs.Prelude.{IsSomeAnd, is_some, ℤ}
use Rattle.std.specs.Option.{option_map}
use Rattle.tier_base.specs.declared.names.BrokerId.{BrokerId}
use Rattle.tier_base.specs.declared.names.SegmentId.{SegmentId}
use Rattle.tier_base.specs.declared.plain.State.{State as CopyState}
use Rattle.tier_base.specs.declared.plain.State.TheVariants.{CopyStarted, CopyFinished, DeleteStarted, DeleteFinished}
use Rattle.segment_meta.specs.declared.note.Entry.{Entry}
use Rattle.segment_meta.specs.declared.note.Note.{Note}
use Rattle.segment_meta.specs.declared.note.Note.TheVariants.{Add, Update}
use Rattle.segment_meta.specs.Steps.{next_state}
use Rattle.remote_view.specs.Fold.{EntriesSeen as View, entry_of, state_of, recorded, updated, fold, fed}
use Rattle.view_refresh.specs.Refreshing.{fed_all}
use Rattle.laws_partition.proofs.BoolTests.{some_of}
use Rattle.tier_safe.specs.Copies.{is_deleted}
use Rattle.tier_safe.proofs.Basics.{id_cases, one_some, some_or_none, deleted_rises}
use Rattle.tier_safe.proofs.Entries.{told, told_entry, told_follows, add_entry, other_entry, fold_push, entry_goes, id_in}
use Rattle.laws_answers.specs.DeletionsKnown.{DeletedBelow, ShowsDeleted}

-- the entries have the id, and it ends below the log start offset
abbrev pub EndsBelow : List Entry → ℕ → SegmentId → Type 0
EndsBelow es start id = IsSomeAnd (entry_of id es) (λ entry. entry.end < start)

-- a metadata event that deletes none of these entries but one that ends below the log start offset
abbrev pub LeavesBe : List Entry → ℕ → Note → Type 0
LeavesBe es start (Add entry) = entry.state ≡ CopyStarted
LeavesBe es start (Update id broker event_ts state custom) = (state ≡ CopyFinished) ⊎ EndsBelow es start id

-- a known id isn't added again
none_again : (s : CopyState) → is_some (next_state (Some s) CopyStarted) ≡ false
none_again CopyStarted = refl
none_again CopyFinished = refl
none_again DeleteStarted = refl
none_again DeleteFinished = refl

add_known : (es : List Entry) (e y : Entry) → e.state ≡ CopyStarted → entry_of e.id es ≡ Some y → recorded es (Add e) ≡ es
add_known es e y started at = by (is_some (next_state (state_of e.id es) e.state)) (rw (at, started) (none_again y.state))
  where
    by : (t : Bool) → t ≡ false → cond t (es ++ e ∷ []) es ≡ es
    by false is = refl
    by true is = absurd cc

-- an unknown id isn't finished
update_unknown : (es : List Entry) (id : SegmentId) (broker : BrokerId) (event_ts : ℤ) (state : CopyState) (custom : _) → state ≡ CopyFinished → entry_of id es ≡ None
    → recorded es (Update id broker event_ts state custom) ≡ es
update_unknown es id broker event_ts state custom done at = rw (at, done) refl

-- what a finish leaves deleted was so before
finish_told : (broker : BrokerId) (event_ts : ℤ) (custom : _) (x : Entry) → is_deleted (told broker event_ts CopyFinished custom x).state ≡ true → is_deleted x.state ≡ true
finish_told broker event_ts custom x gone = by x.state gone
  where
    by : (s : CopyState) → is_deleted (cond (is_some (next_state (Some s) CopyFinished)) (updated broker event_ts CopyFinished custom x) (record x { state = s })).state ≡ true → is_deleted s ≡ true
    by CopyStarted gone = absurd cc
    by CopyFinished gone = absurd cc
    by DeleteStarted gone = refl
    by DeleteFinished gone = refl

-- the entry of the metadata event's own id
own_below : (es : List Entry) (note : Note) (start : ℕ) (x : Entry) → LeavesBe es start note → DeletedBelow es start (id_in note) → entry_of (id_in note) (recorded es note) ≡ Some x → is_deleted x.state ≡ true → x.end < start
own_below es (Add e) start x be h at gone = elim (some_or_none (entry_of e.id es)) [
  | inl none ↦
      let same : e ≡ x = one_some (entry_of e.id (recorded es (Add e))) e x (add_entry es e be none) at in
      let state : x.state ≡ CopyStarted = ap (λ (y : Entry). y.state) (sym same) ∙ be in
      absurd (cc (gone, ap is_deleted state))
  | inr (y, there) ↦ h x (ap (entry_of e.id) (sym (add_known es e y be there)) ∙ at) gone
]
own_below es (Update id broker event_ts state custom) start x (inl be) h at gone = elim (some_or_none (entry_of id es)) [
  | inl none ↦ let is = ap (entry_of id) (sym (update_unknown es id broker event_ts state custom be none)) ∙ at in absurd (cc (none, is))
  | inr (y, there) ↦
      let same : told broker event_ts state custom y ≡ x = one_some (entry_of id (recorded es (Update id broker event_ts state custom))) (told broker event_ts state custom y) x (told_entry es id broker event_ts state custom y there) at in
      let was : is_deleted y.state ≡ true =
      finish_told broker event_ts custom y (ap (λ (s : CopyState). is_deleted (told broker event_ts s custom y).state) (sym be) ∙ (ap (λ (e : Entry). is_deleted e.state) same ∙ gone)) in
      let end : x.end ≡ y.end = ap (λ (e : Entry). e.end) (sym same) ∙ (told_follows broker event_ts state custom y).end in
      rw end (h y there was)
]
own_below es (Update id broker event_ts state custom) start x (inr low) h at gone =
    let y = some_of (λ (e : Entry). e.end < start) (entry_of id es) low in
    let same : told broker event_ts state custom y.0 ≡ x = one_some (entry_of id (recorded es (Update id broker event_ts state custom))) (told broker event_ts state custom y.0) x (told_entry es id broker event_ts state custom y.0 y.1) at in
    let end : x.end ≡ y.0.end = ap (λ (e : Entry). e.end) (sym same) ∙ (told_follows broker event_ts state custom y.0).end in
    rw end y.2

one_below : (es : List Entry) (note : Note) (start : ℕ) (id : SegmentId) → LeavesBe es start note → DeletedBelow es start id → DeletedBelow (recorded es note) start id
one_below es note start id be h = λ x at gone. elim (id_cases (id_in note) id) [
  | inl own ↦ own_below es note start x be (subst (DeletedBelow es start) (sym own) h) (ap (λ (i : SegmentId). entry_of i (recorded es note)) own ∙ at) gone
  | inr other ↦ h x (sym (other_entry es note id other) ∙ at) gone
]

pub told_below : (notes : List Note) (note : Note) (start : ℕ) (id : SegmentId) → LeavesBe (fold notes) start note → DeletedBelow (fold notes) start id → DeletedBelow (fold (notes ++ note ∷ [])) start id
told_below notes note start id be h = subst (λ (es : List Entry). DeletedBelow es start id) (sym (fold_push notes note)) (one_below (fold notes) note start id be h)

-- a view that has taken in more shows what it has shown
abbrev Shown : Option Entry → Type 0
Shown o = IsSomeAnd (option_map (λ (e : Entry). e.state) o) (λ state. is_deleted state ≡ true)

pub shows_entry : (es : List Entry) (id : SegmentId) → ShowsDeleted es id → (x : Entry) × (entry_of id es ≡ Some x) × (is_deleted x.state ≡ true)
shows_entry es id h = elim (some_or_none (entry_of id es)) [
  | inl none ↦ absurd (subst Shown none h)
  | inr (x, there) ↦ (x, there, subst Shown there h)
]

pub entry_shows : (es : List Entry) (id : SegmentId) (x : Entry) → entry_of id es ≡ Some x → is_deleted x.state ≡ true → ShowsDeleted es id
entry_shows es id x there gone = subst Shown (sym there) gone

pub fed_shows : (view : View) (notes : List Note) (id : SegmentId) → ShowsDeleted view.entries id → ShowsDeleted (fed_all view notes).entries id
fed_shows view [] id h = h
fed_shows view (note ∷ notes) id h =
    let x = shows_entry view.entries id h in
    let y = entry_goes view.entries note id x.0 x.1 in
    fed_shows (fed view note) notes id (entry_shows (recorded view.entries note) id y.0 y.1 (deleted_rises x.0.state y.0.state y.2.state x.2))
