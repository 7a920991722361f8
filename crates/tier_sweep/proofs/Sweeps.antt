-- What holds of a tier that is swept, and of one whose sweep was refused.
use Rattle.std.proofs.Common.{◌≡◌, inl, inr, ◌∙◌, refl, sym, ap, subst, ℕ, Bool, true, false, cond, List, ◌++◌, map, Option, Some, None, is_some}
use Rattle.std.specs.Prelude.{option_map, IsSome}
use Rattle.tier_base.specs.declared.names.SegmentId.{SegmentId}
use Rattle.tier_base.specs.declared.object_key.ObjectKey.{ObjectKey}
use Rattle.tier_base.specs.declared.plain.State.{State}
use Rattle.tier_base.specs.declared.plain.State.TheVariants.{CopyStarted, CopyFinished, DeleteStarted, DeleteFinished}
use Rattle.segment_meta.specs.declared.note.Entry.{Entry}
use Rattle.meta_log.specs.Content.{AreNotes}
use Rattle.remote_view.specs.Fold.{entry_of, state_of, fold}
use Rattle.tier_sweep.specs.Rest.{is_under_way, is_finished, stays, AreNamed, NoneIsLeft, NoneUnderWay}
use Rattle.tier_sweep.specs.Sweeping.{starts_of, ends_of, rested, kept_of, SweptTier, IsSwept, IsUnderSweep}
use Rattle.tier_sweep.proofs.Rested.{fold_swept, notes_distinct, entry_rested, all_rest}
use Rattle.tier_sweep.proofs.Midway.{under_rests, under_distinct, under_may_take}

-- whose objects stay
finished_stays : (state : Option State) → is_finished state ≡ true → state ≡ Some CopyFinished
finished_stays None is = absurd (cc (is))
finished_stays (Some CopyStarted) is = absurd (cc (is))
finished_stays (Some CopyFinished) is = refl
finished_stays (Some DeleteStarted) is = absurd (cc (is))
finished_stays (Some DeleteFinished) is = absurd (cc (is))

-- a finished copy's entry rests as it is
finished_rests : (x : Entry) → x.state ≡ CopyFinished → rested x ≡ x
finished_rests x is = let other : is_under_way x.state ≡ false = ap is_under_way is in rw other refl

finished_entry : (q : SegmentId) (es : List Entry) → state_of q es ≡ Some CopyFinished → entry_of q (map rested es) ≡ entry_of q es
finished_entry q es is = entry_rested q es ∙ by (entry_of q es) is
  where
    by : (found : Option Entry) → option_map (λ (e : Entry). e.state) found ≡ Some CopyFinished → option_map rested found ≡ found
    by None is = refl
    by (Some x) is = ap Some (finished_rests x (cc (is)))

-- and no other entry rests as a finished copy's
rests_finished : (x : Entry) → (rested x).state ≡ CopyFinished → rested x ≡ x
rests_finished x = by (is_under_way x.state)
  where
    by : (t : Bool) → (let y : Entry = cond t (record x { state = DeleteFinished }) x in y.state) ≡ CopyFinished → cond t (record x { state = DeleteFinished }) x ≡ x
    by true is = absurd (cc (is))
    by false is = refl

finished_rested : (x : Entry) → is_finished (Some (rested x).state) ≡ is_finished (Some x.state)
finished_rested x = by x.state refl
  where
    by : (t : State) → x.state ≡ t → is_finished (Some (rested x).state) ≡ is_finished (Some x.state)
    by CopyStarted is = simp is
    by CopyFinished is = simp is
    by DeleteStarted is = simp is
    by DeleteFinished is = simp is

-- entries that come to rest as others do have the same finished copies
pub same_finished : (xs es : List Entry) → map rested xs ≡ map rested es → (q : SegmentId) (x : Entry) → entry_of q xs ≡ Some x → x.state ≡ CopyFinished → entry_of q es ≡ Some x
same_finished xs es same q x there done = by (entry_of q es)
    (sym (entry_rested q es) ∙ (ap (entry_of q) (sym same) ∙ (entry_rested q xs ∙ (ap (option_map rested) there ∙ ap Some (finished_rests x done)))))
  where
    by : (found : Option Entry) → option_map rested found ≡ Some x → found ≡ Some x
    by None is = absurd (cc (is))
    by (Some y) is =
        let at : rested y ≡ x = cc (is) in
        ap Some (sym (rests_finished y (ap (λ (e : Entry). e.state) at ∙ done)) ∙ at)

-- and the same ids
pub same_named : (xs es : List Entry) → map rested xs ≡ map rested es → (q : SegmentId) → IsSome (entry_of q xs) → IsSome (entry_of q es)
same_named xs es same q is = by (entry_of q es) (entry_of q xs) (sym (entry_rested q es) ∙ (ap (entry_of q) (sym same) ∙ entry_rested q xs)) is
  where
    by : (found before : Option Entry) → option_map rested found ≡ option_map rested before → is_some before ≡ true → is_some found ≡ true
    by found None same is = absurd (cc (is))
    by None (Some x) same is = absurd (cc (same))
    by (Some y) (Some x) same is = refl

-- the same objects stay
stays_rested : (es : List Entry) (q : SegmentId) → stays (map rested es) q ≡ stays es q
stays_rested es q = ap (λ (found : Option Entry). is_finished (option_map (λ (e : Entry). e.state) found)) (entry_rested q es) ∙ by (entry_of q es)
  where
    by : (found : Option Entry) → is_finished (option_map (λ (e : Entry). e.state) (option_map rested found)) ≡ is_finished (option_map (λ (e : Entry). e.state) found)
    by None = refl
    by (Some x) = finished_rested x

same_stay : (xs es : List Entry) (q : SegmentId) → map rested xs ≡ map rested es → stays xs q ≡ stays es q
same_stay xs es q same = sym (stays_rested xs q) ∙ (ap (λ (ys : List Entry). stays ys q) same ∙ stays_rested es q)

-- what a sweep makes of the entries
pub swept_entries : (old new : SweptTier) (n : ℕ) → AreNotes old.notes → IsSwept old new n → fold new.notes ≡ map rested (fold old.notes)
swept_entries old new n are h = ap fold h.notes ∙ fold_swept old.notes (notes_distinct old.notes are)

-- an object that is has a finished copy
swept_finished : (old new : SweptTier) (n : ℕ) → AreNotes old.notes → IsSwept old new n → (key : ObjectKey) → IsSome (new.objects key) → state_of key.id (fold new.notes) ≡ Some CopyFinished
swept_finished old new n are h key held =
    let es = fold old.notes in
    let is : state_of key.id es ≡ Some CopyFinished = finished_stays (state_of key.id es) (by (stays es key.id) refl (h.objects key) held) in
    ap (λ (ys : List Entry). state_of key.id ys) (swept_entries old new n are h) ∙ (ap (option_map (λ (e : Entry). e.state)) (finished_entry key.id es is) ∙ is)
  where
    by : (t : Bool) → stays (fold old.notes) key.id ≡ t → new.objects key ≡ cond t (old.objects key) None → IsSome (new.objects key) → stays (fold old.notes) key.id ≡ true
    by true is same some = is
    by false is none some = absurd (let gone : is_some (new.objects key) ≡ false = ap is_some none in cc (gone, some))

state_some : (q : SegmentId) (es : List Entry) (state : State) → state_of q es ≡ Some state → IsSome (entry_of q es)
state_some q es state = by (entry_of q es)
  where
    by : (found : Option Entry) → option_map (λ (e : Entry). e.state) found ≡ Some state → is_some found ≡ true
    by None is = absurd (cc (is))
    by (Some x) is = refl

pub swept_rests : (old new : SweptTier) (n : ℕ) → AreNotes old.notes → IsSwept old new n
    → AreNamed new.objects (fold new.notes) × NoneIsLeft new.objects (fold new.notes) × NoneUnderWay (fold new.notes)
swept_rests old new n are h = (
  λ key held. state_some key.id (fold new.notes) CopyFinished (swept_finished old new n are h key held),
  λ key held gone. (let is = swept_finished old new n are h key held in absurd (cc (gone, is))),
  subst NoneUnderWay (sym (swept_entries old new n are h)) (all_rest (fold old.notes)),
)

pub swept_keeps : (old new : SweptTier) (n : ℕ) (id : SegmentId) → AreNotes old.notes → IsSwept old new n → state_of id (fold old.notes) ≡ Some CopyFinished
    → (entry_of id (fold new.notes) ≡ entry_of id (fold old.notes)) × ((key : ObjectKey) → key.id ≡ id → new.objects key ≡ old.objects key)
swept_keeps old new n id are h is = (
  ap (entry_of id) (swept_entries old new n are h) ∙ finished_entry id (fold old.notes) is,
  λ key same. h.objects key ∙ (let kept : stays (fold old.notes) key.id ≡ true = ap (λ (q : SegmentId). stays (fold old.notes) q) same ∙ ap is_finished is in rw kept refl),
)

pub under_keeps : (old new : SweptTier) (id : SegmentId) → AreNotes old.notes → IsUnderSweep old new → state_of id (fold old.notes) ≡ Some CopyFinished
    → (entry_of id (fold new.notes) ≡ entry_of id (fold old.notes)) × ((key : ObjectKey) → key.id ≡ id → new.objects key ≡ old.objects key)
under_keeps old new id are h is = (
  by (entry_of id (fold new.notes)) (entry_of id (fold old.notes)) is
      (sym (entry_rested id (fold new.notes)) ∙ (ap (entry_of id) (under_rests old new are h) ∙ entry_rested id (fold old.notes))),
  λ key same. elim (under_may_take old new h key) [
    | inl kept ↦ kept
    | inr gone ↦ absurd (let kept : stays (fold old.notes) key.id ≡ true = ap (λ (q : SegmentId). stays (fold old.notes) q) same ∙ ap is_finished is in let other = gone.0 in cc (kept, other))
  ],
)
  where
    by : (found before : Option Entry) → option_map (λ (e : Entry). e.state) before ≡ Some CopyFinished → option_map rested found ≡ option_map rested before → found ≡ before
    by found None is same = absurd (cc (is))
    by None (Some x) is same = absurd (cc (same))
    by (Some y) (Some x) is same =
        let finished : x.state ≡ CopyFinished = cc (is) in
        let one : rested y ≡ rested x = cc (same) in
        let at : rested y ≡ x = one ∙ finished_rests x finished in
        ap Some (sym (rests_finished y (ap (λ (e : Entry). e.state) at ∙ finished)) ∙ at)

pub under_names : (old new : SweptTier) → AreNotes old.notes → AreNamed old.objects (fold old.notes) → IsUnderSweep old new → AreNamed new.objects (fold new.notes)
under_names old new are named h key held = elim (under_may_take old new h key) [
  | inl same ↦ by (entry_of key.id (fold new.notes)) (entry_of key.id (fold old.notes))
      (sym (entry_rested key.id (fold new.notes)) ∙ (ap (entry_of key.id) (under_rests old new are h) ∙ entry_rested key.id (fold old.notes)))
      (named key (sym (ap is_some same) ∙ held))
  | inr gone ↦ absurd (let none : is_some (new.objects key) ≡ false = ap is_some gone.1 in cc (none, held))
]
  where
    by : (found before : Option Entry) → option_map rested found ≡ option_map rested before → is_some before ≡ true → is_some found ≡ true
    by found None same is = absurd (cc (is))
    by None (Some x) same is = absurd (cc (same))
    by (Some y) (Some x) same is = refl

pub further_ends : (old mid new : SweptTier) (n : ℕ) → AreNotes old.notes → IsUnderSweep old mid → IsSwept mid new n
    → ((key : ObjectKey) → new.objects key ≡ kept_of (fold old.notes) old.objects key) × (fold new.notes ≡ fold (old.notes ++ starts_of (fold old.notes) ++ ends_of (fold old.notes)))
further_ends old mid new n are under h = (
  λ key. h.objects key ∙ (ap (λ (t : Bool). cond t (mid.objects key) None) (same_stay (fold mid.notes) (fold old.notes) key.id (under_rests old mid are under))
      ∙ by key (stays (fold old.notes) key.id) refl),
  ap fold h.notes ∙ (fold_swept mid.notes (under_distinct old mid are under)
      ∙ (under_rests old mid are under ∙ sym (fold_swept old.notes (notes_distinct old.notes are)))),
)
  where
    by : (key : ObjectKey) (t : Bool) → stays (fold old.notes) key.id ≡ t → cond t (mid.objects key) None ≡ cond t (old.objects key) None
    by key true is = elim (under_may_take old mid under key) [
      | inl same ↦ same
      | inr gone ↦ absurd (let other = gone.0 in cc (is, other))
    ]
    by key false is = refl
