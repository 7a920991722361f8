-- The stairs that an event changes, rebuilt and put in the place of the old ones.
use Rattle.std.proofs.Common.{◌≡◌, ◌∙◌, refl, sym, ap, ℕ, ◌+◌, ◌<◌, ℤ, Bool, true, false, cond, List, [], ◌∷◌, ◌++◌, Option, Some, None, length, take, get_or, map, inl, inr}
use Rattle.std.specs.Prelude.{◌==◌}
use Rattle.std.specs.List.{AllByRecursion}
use Rattle.std.proofs.lemmas.Bool.{cases_eq, eq-eqb, ne_eqb, or_parts}
use Rattle.std.proofs.lemmas.List.{map_push, map_more}
use Rattle.tier_base.specs.declared.names.BrokerId.{BrokerId}
use Rattle.tier_base.specs.declared.plain.State.{State}
use Rattle.segment_meta.specs.declared.note.Entry.{Entry}
use Rattle.remote_view.specs.declared.tread.Tread.{Tread}
use Rattle.remote_view.specs.declared.stairs.Stair.{Stair}
use Rattle.remote_view.specs.declared.stairs.Stairs.{Stairs}
use Rattle.remote_view.specs.Fold.{entry_of, changed, updated, IsEntryValid}
use Rattle.remote_view.specs.Lookup.{is_readable, covers}
use Rattle.remote_view.specs.Stairs.{span_of, IsStair}
use Rattle.remote_view.specs.Laying.{gives}
use Rattle.remote_view.specs.Storing.{stair_on, has_room, names, replaced, HaveRoom, AreFreshStairs}
use Rattle.remote_view.proofs.Best.{readable_covers}
use Rattle.remote_view.proofs.Keeping.{untouched, given_nowhere}

-- the last of the stairs counts where no other is of its epoch
replaced_push : (stairs : List Stair) (last : Stair) (e : ℕ) (old : List Tread) → replaced (stairs ++ last ∷ []) e old ≡ replaced stairs e (cond (last.epoch == e) last.treads old)
replaced_push [] last e old = refl
replaced_push (s ∷ stairs) last e old = ap (λ (rest : List Tread). cond (s.epoch == e) s.treads rest) (replaced_push stairs last e old)

-- one stair was replaced
pub replaced_one : (all left : List Stair) (last : Stair) (e : ℕ) (old new : List Tread) → all ≡ left ++ last ∷ [] → new ≡ cond (last.epoch == e) last.treads old → replaced left e new ≡ replaced all e old
replaced_one all left last e old new is there = rw (is, there) (sym (replaced_push left last e old))

pub room_front : (stairs : Stairs) (left : List Stair) (last : Stair) → HaveRoom stairs (left ++ last ∷ []) → HaveRoom stairs left × (has_room stairs last.epoch ≡ true)
room_front stairs [] last h = (tt, h.0)
room_front stairs (s ∷ left) last h = let rest = room_front stairs left last h.1 in ((h.0, rest.0), rest.1)

pub room_kept : (old new : Stairs) (fresh : List Stair) → ((e : ℕ) → has_room old e ≡ true → has_room new e ≡ true) → HaveRoom old fresh → HaveRoom new fresh
room_kept old new [] kept h = tt
room_kept old new (s ∷ fresh) kept h = (kept s.epoch h.0, room_kept old new fresh kept h.1)

-- with all of them replaced, each stair is right
renewed : (es : List Entry) (q : ℕ) (fresh : List Stair) (old : List Tread) → AllByRecursion (λ s. IsStair es s.epoch s.treads) fresh → (names q fresh ≡ false → IsStair es q old)
    → IsStair es q (replaced fresh q old)
renewed es q [] old each kept = kept refl
renewed es q (s ∷ fresh) old each kept = elim (cases_eq s.epoch q) [
  | inl same ↦ rw (eq-eqb s.epoch q same) (rw same at each.0)
  | inr other ↦ rw (ne_eqb s.epoch q other) (renewed es q fresh old each.1 (λ none. kept (rw (ne_eqb s.epoch q other) none)))
]

pub all_right : (es : List Entry) (stairs new : Stairs) (fresh : List Stair) → AreFreshStairs es stairs fresh → ((e : ℕ) → stair_on new e ≡ replaced fresh e (stair_on stairs e)) → (q : ℕ) → IsStair es q (stair_on new q)
all_right es stairs new fresh h is q = rw (is q) (renewed es q fresh (stair_on stairs q) h.each (h.kept q))

-- stairs of all epochs of a map leave out only epochs that the map hasn't
unnamed : (fresh : List Stair) (map' : List (ℕ × ℕ)) (q end : ℕ) → map (λ s. s.epoch) fresh ≡ map (λ p. p.0) map' → names q fresh ≡ false → span_of map' q end ≡ None
unnamed [] [] q end same none = refl
unnamed [] (p ∷ ps) q end same none = absurd (cc)
unnamed (s ∷ fresh) [] q end same none = absurd (cc)
unnamed (s ∷ fresh) (p ∷ ps) q end same none =
    let first : s.epoch ≡ p.0 = cc in
    let rest : map (λ s. s.epoch) fresh ≡ map (λ p. p.0) ps = cc in
    let parts = or_parts (s.epoch == q) (names q fresh) none in
    rw (← first, parts.0) (unnamed fresh ps q end rest parts.1)

-- what a step makes of an entry that gives an epoch nowhere
pub nowhere : (broker : BrokerId) (event_ts : ℤ) (state : State) (custom : Option (List ℕ)) (es : List Entry) (x : Entry) (q : ℕ) (stair : List Tread) → entry_of x.id es ≡ Some x → ((o : ℕ) → gives q o x ≡ false)
    → IsStair es q stair → IsStair (changed x.id (updated broker event_ts state custom) es) q stair
nowhere broker event_ts state custom es x q stair here none right =
    untouched broker event_ts state custom es x q stair here (λ o. out (is_readable x.state) x o refl (none o)) (λ o. out (is_readable state) (updated broker event_ts state custom x) o refl (none o)) right
  where
    out : (t : Bool) (e : Entry) (o : ℕ) → is_readable e.state ≡ t → gives q o e ≡ false → covers q o e ≡ false
    out true e o is none = readable_covers q o e true is ∙ none
    out false e o is none = readable_covers q o e false is

-- all epochs of the entry's map have a new stair
pub made_fresh : (broker : BrokerId) (event_ts : ℤ) (state : State) (custom : Option (List ℕ)) (es : List Entry) (x : Entry) (old stairs : Stairs) (fresh : List Stair) → entry_of x.id es ≡ Some x → IsEntryValid x
    → ((q : ℕ) → IsStair es q (stair_on old q)) → ((q : ℕ) → stair_on stairs q ≡ stair_on old q) → HaveRoom stairs fresh → map (λ s. s.epoch) fresh ≡ map (λ p. p.0) x.map
    → AllByRecursion (λ s. IsStair (changed x.id (updated broker event_ts state custom) es) s.epoch s.treads) fresh → AreFreshStairs (changed x.id (updated broker event_ts state custom) es) stairs fresh
made_fresh broker event_ts state custom es x old stairs fresh here kept right same room epochs each = record {
  each = each;
  room = room;
  kept = λ q none. rw (same q) (nowhere broker event_ts state custom es x q (stair_on old q) here (λ o. given_nowhere x q o kept (unnamed fresh x.map q (x.end + 1) epochs none)) (right q));
}

-- a step between states that can't be read changes no stair
pub none_fresh : (broker : BrokerId) (event_ts : ℤ) (state : State) (custom : Option (List ℕ)) (es : List Entry) (x : Entry) (stairs : Stairs) (fresh : List Stair) → fresh ≡ [] → entry_of x.id es ≡ Some x
    → is_readable x.state ≡ false → is_readable state ≡ false → ((q : ℕ) → IsStair es q (stair_on stairs q)) → AreFreshStairs (changed x.id (updated broker event_ts state custom) es) stairs fresh
none_fresh broker event_ts state custom es x stairs fresh none here out into right = rw none (record {
  each = tt;
  room = tt;
  kept = λ q left. untouched broker event_ts state custom es x q (stair_on stairs q) here (λ o. readable_covers q o x false out) (λ o. readable_covers q o (updated broker event_ts state custom x) false into) (right q);
})

pub each_push : (P : Stair → Type 0) (fresh : List Stair) (last : Stair) → AllByRecursion P fresh → P last → AllByRecursion P (fresh ++ last ∷ [])
each_push P [] last each h = (h, tt)
each_push P (s ∷ fresh) last each h = (each.0, each_push P fresh last each.1 h)

-- one epoch more
pub epochs_push : (fresh : List Stair) (last : Stair) (pairs : List (ℕ × ℕ)) (i : ℕ) (d : ℕ × ℕ) → i < length pairs → map (λ s. s.epoch) fresh ≡ map (λ p. p.0) (take i pairs) → last.epoch ≡ (get_or pairs i d).0
    → map (λ s. s.epoch) (fresh ++ last ∷ []) ≡ map (λ p. p.0) (take (i + 1) pairs)
epochs_push fresh last pairs i d below same is =
    map_push (λ s. s.epoch) fresh last
    ∙ (ap (λ (front : List ℕ). front ++ last.epoch ∷ []) same
    ∙ (ap (λ (e : ℕ). map (λ p. p.0) (take i pairs) ++ e ∷ []) is
    ∙ sym (map_more (λ p. p.0) pairs i d below)))
