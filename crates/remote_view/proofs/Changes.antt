-- The entries after one is changed, or one more is added.
use Rattle.std.proofs.Common.{◌≡◌, sym, refl, ap, ℕ, Bool, true, false, cond, List, [], ◌∷◌, ◌++◌, Option, Some, None, Result, Ok, Err, Bor, subst, inl, inr}
use Rattle.std.specs.Prelude.{ℤ, is_some, option_map, ◌≢◌, OnOk, OnErr}
use Rattle.std.specs.Str.{bytes_eq}
use Rattle.tier_base.specs.declared.names.BrokerId.{BrokerId}
use Rattle.tier_base.specs.declared.names.SegmentId.{SegmentId}
use Rattle.tier_base.specs.declared.plain.State.{State}
use Rattle.tier_base.specs.declared.plain.State.TheVariants.{CopyStarted, CopyFinished, DeleteStarted, DeleteFinished}
use Rattle.tier_base.specs.Key.{IsId}
use Rattle.segment_meta.specs.declared.note.Entry.{Entry}
use Rattle.segment_meta.specs.declared.note.Note.TheVariants.{Add, Update}
use Rattle.segment_meta.specs.Rules.{IsAdded}
use Rattle.segment_meta.specs.Steps.{next_state}
use Rattle.remote_view.specs.declared.stairs.Stair.{Stair}
use Rattle.remote_view.specs.declared.stairs.Stairs.{Stairs}
use Rattle.remote_view.specs.Fold.{entry_of, changed, updated, recorded, IsEntryValid, AreEntriesValid, AreDistinct}
use Rattle.remote_view.specs.Lookup.{is_readable}
use Rattle.remote_view.specs.Stairs.{IsStair}
use Rattle.remote_view.specs.Laying.{IsLaidIn}
use Rattle.remote_view.specs.Storing.{stair_on, replaced, AreFreshStairs, IsTakenFirst, IsViewed}
use Rattle.remote_view.specs.declared.spread.Spread.{Spread}
use Rattle.remote_view.specs.Spread.{AreSpread}
use Rattle.remote_view.proofs.Ids.{same_id, bytes_self}
use Rattle.remote_view.proofs.Keeping.{skip_right, finish_right, finishing, gone_right, given_nowhere, kept_found}
use Rattle.remote_view.proofs.Baring.{alone_right}
use Rattle.remote_view.proofs.Spreading.{found_in, among_in}
use Rattle.remote_view.proofs.Renewing.{all_right, nowhere}

-- an update leaves the id, the offsets and the map
pub change_keeps : (id : SegmentId) (broker : BrokerId) (event_ts : ℤ) (state : State) (custom : Option (List ℕ)) (es : List Entry) → AreEntriesValid es
    → AreEntriesValid (changed id (updated broker event_ts state custom) es)
change_keeps id broker event_ts state custom [] h = tt
change_keeps id broker event_ts state custom (e ∷ es) h =
    by (bytes_eq e.id.0 id.0) (record { id = h.0.id; ordered = h.0.ordered; bounded = h.0.bounded; map = h.0.map }) (change_keeps id broker event_ts state custom es h.1)
  where
    by : (t : Bool) → IsEntryValid (updated broker event_ts state custom e) → AreEntriesValid (changed id (updated broker event_ts state custom) es)
        → AreEntriesValid (cond t (updated broker event_ts state custom e ∷ es) (e ∷ changed id (updated broker event_ts state custom) es))
    by true first rest = (first, h.1)
    by false first rest = (h.0, rest)

-- an update finds and misses the same ids
change_misses : (q id : SegmentId) (broker : BrokerId) (event_ts : ℤ) (state : State) (custom : Option (List ℕ)) (es : List Entry) → entry_of q es ≡ None
    → entry_of q (changed id (updated broker event_ts state custom) es) ≡ None
change_misses q id broker event_ts state custom [] none = refl
change_misses q id broker event_ts state custom (e ∷ es) none = by (bytes_eq e.id.0 id.0) (bytes_eq e.id.0 q.0) refl none (λ rest. change_misses q id broker event_ts state custom es rest)
  where
    by : (t u : Bool) → bytes_eq e.id.0 q.0 ≡ u → cond u (Some e) (entry_of q es) ≡ None → (entry_of q es ≡ None → entry_of q (changed id (updated broker event_ts state custom) es) ≡ None)
        → entry_of q (cond t (updated broker event_ts state custom e ∷ es) (e ∷ changed id (updated broker event_ts state custom) es)) ≡ None
    by t true is none more = absurd (cc)
    by true false is none more = rw is none
    by false false is none more = rw is (more none)

pub change_distinct : (id : SegmentId) (broker : BrokerId) (event_ts : ℤ) (state : State) (custom : Option (List ℕ)) (es : List Entry) → AreDistinct es
    → AreDistinct (changed id (updated broker event_ts state custom) es)
change_distinct id broker event_ts state custom [] h = tt
change_distinct id broker event_ts state custom (e ∷ es) h = by (bytes_eq e.id.0 id.0) (change_distinct id broker event_ts state custom es h.1)
  where
    by : (t : Bool) → AreDistinct (changed id (updated broker event_ts state custom) es)
        → AreDistinct (cond t (updated broker event_ts state custom e ∷ es) (e ∷ changed id (updated broker event_ts state custom) es))
    by true rest = h
    by false rest = (change_misses e.id id broker event_ts state custom es h.0, rest)

-- one entry more
pub kept_push : (es : List Entry) (e : Entry) → AreEntriesValid es → IsEntryValid e → AreEntriesValid (es ++ e ∷ [])
kept_push [] e h h' = (h', tt)
kept_push (x ∷ es) e h h' = (h.0, kept_push es e h.1 h')

misses_push : (q : SegmentId) (es : List Entry) (e : Entry) → bytes_eq e.id.0 q.0 ≡ false → entry_of q es ≡ None → entry_of q (es ++ e ∷ []) ≡ None
misses_push q [] e other none = rw other refl
misses_push q (x ∷ es) e other none = by (bytes_eq x.id.0 q.0) none (λ rest. misses_push q es e other rest)
  where
    by : (t : Bool) → cond t (Some x) (entry_of q es) ≡ None → (entry_of q es ≡ None → entry_of q (es ++ e ∷ []) ≡ None) → cond t (Some x) (entry_of q (es ++ e ∷ [])) ≡ None
    by true none more = absurd (cc)
    by false none more = more none

id_back : (a b : SegmentId) → bytes_eq a.0 b.0 ≡ false → bytes_eq b.0 a.0 ≡ false
id_back a b other = by (bytes_eq b.0 a.0) refl
  where
    by : (u : Bool) → bytes_eq b.0 a.0 ≡ u → u ≡ false
    by true same = absurd (let one : b ≡ a = same_id b a same in let yes : bytes_eq a.0 b.0 ≡ true = rw one (bytes_self a.0) in cc)
    by false same = refl

pub distinct_push : (es : List Entry) (e : Entry) → AreDistinct es → entry_of e.id es ≡ None → AreDistinct (es ++ e ∷ [])
distinct_push [] e h none = (refl, tt)
distinct_push (x ∷ es) e h none = by (bytes_eq x.id.0 e.id.0) refl none (λ rest. distinct_push es e h.1 rest)
  where
    by : (t : Bool) → bytes_eq x.id.0 e.id.0 ≡ t → cond t (Some x) (entry_of e.id es) ≡ None → (entry_of e.id es ≡ None → AreDistinct (es ++ e ∷ [])) → AreDistinct (x ∷ (es ++ e ∷ []))
    by true is none more = absurd (cc)
    by false is none more = (misses_push x.id es e (id_back x.id e.id is) h.0, more none)

-- an entry that is found has the id
pub found_id : (id : SegmentId) (es : List Entry) (x : Entry) → entry_of id es ≡ Some x → x.id ≡ id
found_id id [] x here = absurd (cc)
found_id id (e ∷ es) x here = by (bytes_eq e.id.0 id.0) refl here (λ there. found_id id es x there)
  where
    by : (t : Bool) → bytes_eq e.id.0 id.0 ≡ t → cond t (Some e) (entry_of id es) ≡ Some x → (entry_of id es ≡ Some x → x.id ≡ id) → x.id ≡ id
    by true same is more = let one : e ≡ x = cc in rw (← one) (same_id e.id id same)
    by false same is more = more is

-- what events come to, by whether the id is known
pub adds_nothing : (es : List Entry) (e x : Entry) → e.state ≡ CopyStarted → entry_of e.id es ≡ Some x → es ≡ recorded es (Add e)
adds_nothing es e x started here = rw here (by x.state e.state started)
  where
    by : (old state : State) → state ≡ CopyStarted → es ≡ cond (is_some (next_state (Some old) state)) (es ++ e ∷ []) es
    by old state is = subst (λ (s : State). es ≡ cond (is_some (next_state (Some old) s)) (es ++ e ∷ []) es) (sym is) (never old)
      where
        never : (old : State) → es ≡ cond (is_some (next_state (Some old) CopyStarted)) (es ++ e ∷ []) es
        never CopyStarted = refl
        never CopyFinished = refl
        never DeleteStarted = refl
        never DeleteFinished = refl

pub adds_it : (es : List Entry) (e : Entry) → e.state ≡ CopyStarted → entry_of e.id es ≡ None → es ++ e ∷ [] ≡ recorded es (Add e)
adds_it es e started none = rw none (by e.state started)
  where
    by : (state : State) → state ≡ CopyStarted → es ++ e ∷ [] ≡ cond (is_some (next_state None state)) (es ++ e ∷ []) es
    by state is = rw is refl

pub misses_it : (es : List Entry) (id : SegmentId) (broker : BrokerId) (event_ts : ℤ) (state : State) (custom : Option (List ℕ)) → state ≢ CopyStarted → entry_of id es ≡ None
    → es ≡ recorded es (Update id broker event_ts state custom)
misses_it es id broker event_ts CopyStarted custom other none = absurd (other refl)
misses_it es id broker event_ts CopyFinished custom other none = rw none refl
misses_it es id broker event_ts DeleteStarted custom other none = rw none refl
misses_it es id broker event_ts DeleteFinished custom other none = rw none refl

pub no_step : (es : List Entry) (id : SegmentId) (x : Entry) (broker : BrokerId) (event_ts : ℤ) (state : State) (custom : Option (List ℕ)) → entry_of id es ≡ Some x → is_some (next_state (Some x.state) state) ≡ false
    → es ≡ recorded es (Update id broker event_ts state custom)
no_step es id x broker event_ts state custom here none = rw (here, none) refl

pub a_step : (es : List Entry) (id : SegmentId) (x : Entry) (broker : BrokerId) (event_ts : ℤ) (state : State) (custom : Option (List ℕ)) → entry_of id es ≡ Some x → is_some (next_state (Some x.state) state) ≡ true
    → changed id (updated broker event_ts state custom) es ≡ recorded es (Update id broker event_ts state custom)
a_step es id x broker event_ts state custom here some = rw (here, some) refl

-- no entries and empty stairs
pub viewed_none : (es : List Entry) (stairs : Stairs) → es ≡ [] → ((epoch : ℕ) → stair_on stairs epoch ≡ []) → IsViewed es stairs
viewed_none es stairs none empty = rw none (record { kept = tt; distinct = tt; right = λ epoch. rw (empty epoch) (record { rises = tt; best = λ o. refl }) })

-- an entry more, whose copy has started
pub viewed_add : (es : List Entry) (stairs : Stairs) (e : Entry) → IsViewed es stairs → IsAdded e → IsId e.id → entry_of e.id es ≡ None → IsViewed (es ++ e ∷ []) stairs
viewed_add es stairs e h added is none = record {
  kept = kept_push es e h.kept (record { id = is; ordered = added.ordered; bounded = added.bounded; map = added.map });
  distinct = distinct_push es e h.distinct none;
  right = λ epoch. skip_right es e epoch (stair_on stairs epoch) (ap is_readable added.started) (h.right epoch);
}

-- an entry changed, and the stairs with it
pub viewed_update : (es new : List Entry) (old stairs left : Stairs) (fresh : List Stair) (id : SegmentId) (x : Entry) (broker : BrokerId) (event_ts : ℤ) (state : State) (custom : Option (List ℕ))
    → IsViewed es old → x.id ≡ id → new ≡ changed id (updated broker event_ts state custom) es → AreFreshStairs (changed x.id (updated broker event_ts state custom) es) stairs fresh
    → ((e : ℕ) → stair_on left e ≡ replaced fresh e (stair_on stairs e)) → IsViewed new left
viewed_update es new old stairs left fresh id x broker event_ts state custom h one is made replaced' = rw is (record {
  kept = change_keeps id broker event_ts state custom es h.kept;
  distinct = change_distinct id broker event_ts state custom es h.distinct;
  right = λ epoch. rw one at (all_right (changed x.id (updated broker event_ts state custom) es) stairs left fresh made replaced' epoch);
})

-- an entry that can be read from now on was laid over all stairs
pub viewed_laid : (es new : List Entry) (old left : Stairs) (id : SegmentId) (x : Entry) (broker : BrokerId) (event_ts : ℤ) (state : State) (custom : Option (List ℕ))
    → IsViewed es old → entry_of id es ≡ Some x → x.id ≡ id → new ≡ changed id (updated broker event_ts state custom) es → is_some (next_state (Some x.state) state) ≡ true
    → (is_readable state ≡ true) × ((entries : List Entry) (epoch : ℕ) → IsLaidIn entries x epoch (stair_on old epoch) (stair_on left epoch)) → IsViewed new left
viewed_laid es new old left id x broker event_ts state custom h there one is step laid = rw is (record {
  kept = change_keeps id broker event_ts state custom es h.kept;
  distinct = change_distinct id broker event_ts state custom es h.distinct;
  right = λ epoch. rw one at (finish_right broker event_ts state custom es x epoch (stair_on old epoch) (stair_on left epoch) h.distinct h.kept (rw (← one) at there)
      (finishing x.state state step laid.0) laid.0 (h.right epoch) (laid.1 es epoch));
})

-- an entry that can't be read from now on, and shares no offset, was taken off all stairs
pub viewed_taken : (es new : List Entry) (old left : Stairs) (spread : Spread) (id : SegmentId) (x : Entry) (broker : BrokerId) (event_ts : ℤ) (state : State) (custom : Option (List ℕ))
    → IsViewed es old → AreSpread spread es → entry_of id es ≡ Some x → x.id ≡ id → new ≡ changed id (updated broker event_ts state custom) es
    → IsTakenFirst true spread.alone state x old left → IsViewed new left
viewed_taken es new old left spread id x broker event_ts state custom h spreads there one is taken = rw is (record {
  kept = change_keeps id broker event_ts state custom es h.kept;
  distinct = change_distinct id broker event_ts state custom es h.distinct;
  right = λ epoch. rw one at (right epoch);
})
  where
    here : entry_of x.id es ≡ Some x
    here = rw (← one) at there

    right : (q : ℕ) → IsStair (changed x.id (updated broker event_ts state custom) es) q (stair_on left q)
    right q = elim (taken.3 q) [
      | inl lifted ↦
          gone_right broker event_ts state custom es x.id q (stair_on left q) h.distinct taken.0
          (alone_right es x q (stair_on old q) (stair_on left q) h.distinct h.kept here (h.right q)
          (λ e among. spreads.alone x e (found_in es x.id x here) (among_in es e among) taken.1 taken.2) lifted)
      | inr none ↦ rw none.1 (nowhere broker event_ts state custom es x q (stair_on old q) here (λ o. given_nowhere x q o (kept_found x.id es x h.kept here) none.0) (h.right q))
    ]

-- the same stairs
pub viewed_same : (es : List Entry) (old new : Stairs) → IsViewed es old → ((e : ℕ) → stair_on new e ≡ stair_on old e) → IsViewed es new
viewed_same es old new h same = record { kept = h.kept; distinct = h.distinct; right = λ epoch. rw (same epoch) (h.right epoch) }

-- whether or not there was memory for one entry more
pub viewed_either : {A E : Type 0} (es new : List Entry) (stairs : Stairs) (e : Entry) (answer : Result A E) → OnOk answer (new ≡ es ++ e ∷ []) → OnErr answer (new ≡ es)
    → IsViewed es stairs → IsViewed (es ++ e ∷ []) stairs → IsViewed new stairs
viewed_either es new stairs e (Ok x) more same old added = rw more added
viewed_either es new stairs e (Err x) more same old added = rw same old

-- what isn't there
pub not_there : (found : Option (Bor Entry)) (e : Option Entry) → option_map (λ x. x.now) found ≡ e → is_some found ≡ false → e ≡ None
not_there None e is none = sym is
not_there (Some x) e is none = absurd (cc)
