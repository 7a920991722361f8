-- Where finished copies share offsets, as entries are added and changed.
use Rattle.std.proofs.Common.{◌≡◌, ◌∙◌, refl, ap, ℕ, ◌+◌, ◌<◌, ◌≤◌, ℤ, Bool, true, false, cond, List, [], ◌∷◌, ◌++◌, Option, Some, Result, Ok, Err, arith, inl, inr}
use Rattle.std.specs.Prelude.{◌⊎◌, ◌&&◌, not, nat_le, max, OnOk, OnErr}
use Rattle.std.specs.Str.{bytes_eq}
use Rattle.std.proofs.lemmas.Bool.{cases_lt, lt-leb, le-leb, both_ways}
use Rattle.tier_base.specs.declared.names.BrokerId.{BrokerId}
use Rattle.tier_base.specs.declared.names.SegmentId.{SegmentId}
use Rattle.tier_base.specs.declared.plain.State.{State}
use Rattle.segment_meta.specs.declared.note.Entry.{Entry}
use Rattle.segment_meta.specs.Rules.{IsAdded}
use Rattle.remote_view.specs.declared.spread.Spread.{Spread}
use Rattle.remote_view.specs.Fold.{entry_of, changed, updated, AreEntriesValid}
use Rattle.remote_view.specs.Lookup.{is_readable}
use Rattle.remote_view.specs.Laying.{lies_under}
use Rattle.remote_view.specs.Spread.{IsIn, AreSpread, spread_with, spread_after}
use Rattle.remote_view.proofs.Ids.{bytes_self}
use Rattle.remote_view.proofs.Best.{Among}

-- one of the entries, or the one that is added
in_push : (es : List Entry) (one last : Entry) → IsIn one (es ++ last ∷ []) → IsIn one es ⊎ (one ≡ last)
in_push [] one last (inl same) = inr same
in_push [] one last (inr none) = absurd none
in_push (e ∷ es) one last (inl same) = inl (inl same)
in_push (e ∷ es) one last (inr more) = elim (in_push es one last more) [ inl there ↦ inl (inr there) | inr same ↦ inr same ]

-- one of the entries, or the one that is changed
in_changed : (es : List Entry) (id : SegmentId) (x one : Entry) (change : Entry → Entry) → entry_of id es ≡ Some x → IsIn one (changed id change es) → IsIn one es ⊎ (one ≡ change x)
in_changed [] id x one change here h = absurd h
in_changed (e ∷ es) id x one change here h = by (bytes_eq e.id.0 id.0) here h (λ there more. in_changed es id x one change there more)
  where
    by : (t : Bool) → cond t (Some e) (entry_of id es) ≡ Some x → IsIn one (cond t (change e ∷ es) (e ∷ changed id change es))
        → (entry_of id es ≡ Some x → IsIn one (changed id change es) → IsIn one es ⊎ (one ≡ change x)) → IsIn one (e ∷ es) ⊎ (one ≡ change x)
    by true is (inl same) more = let it : e ≡ x = cc in inr (same ∙ ap change it)
    by true is (inr there) more = inl (inr there)
    by false is (inl same) more = inl (inl same)
    by false is (inr there) more = elim (more is there) [ inl rest ↦ inl (inr rest) | inr same ↦ inr same ]

kept_in : (es : List Entry) (one : Entry) → AreEntriesValid es → IsIn one es → one.start ≤ one.end
kept_in [] one kept h = absurd h
kept_in (e ∷ es) one kept (inl same) = rw same kept.0.ordered
kept_in (e ∷ es) one kept (inr more) = kept_in es one kept.1 more

no_second : (t : Bool) → (t && false) ≡ false
no_second true = refl
no_second false = refl

-- what can't be read lies under nothing, nor does a copy under itself, nor what lies apart
unread_apart : (one other : Entry) → is_readable other.state ≡ false → lies_under one other ≡ false
unread_apart one other out = rw out refl

self_apart : (one : Entry) → lies_under one one ≡ false
self_apart one = rw (bytes_self one.id.0, no_second (is_readable one.state)) refl

past_apart : (one other : Entry) → other.end < one.start → lies_under one other ≡ false
past_apart one other low = rw (lt-leb one.start other.end low) (no_second (is_readable other.state && not (bytes_eq other.id.0 one.id.0) && nat_le other.start one.end))

before_apart : (one other : Entry) → one.end < other.start → lies_under one other ≡ false
before_apart one other low = rw (lt-leb other.start one.end low, no_second (is_readable other.state && not (bytes_eq other.id.0 one.id.0))) refl

unread : (t : Bool) → t ≡ false → t ≡ true → ⊥
unread t out into = both_ways t out into

-- no entries
pub spread_none : (spread : Spread) (es : List Entry) → es ≡ [] → AreSpread spread es
spread_none spread es none = rw none (record { below = λ one h read. absurd h; alone = λ one other h h' read up. absurd h })

-- an entry more that can't be read
pub spread_push : (spread : Spread) (es : List Entry) (last : Entry) → is_readable last.state ≡ false → AreSpread spread es → AreSpread spread (es ++ last ∷ [])
spread_push spread es last out h = record {
  below = λ one there read. elim (in_push es one last there) [
    | inl old ↦ h.below one old read
    | inr same ↦ absurd (unread (is_readable one.state) (rw same out) read)
  ];
  alone = λ one other there there' read up. elim (in_push es one last there) [
    | inl old ↦ elim (in_push es other last there') [
      | inl old' ↦ h.alone one other old old' read up
      | inr same ↦ unread_apart one other (rw same out)
    ]
    | inr same ↦ absurd (unread (is_readable one.state) (rw same out) read)
  ];
}

module _ (spread : Spread) (es : List Entry) (id : SegmentId) (x : Entry) (broker : BrokerId) (event_ts : ℤ) (state : State) (custom : Option (List ℕ))
    (here : entry_of id es ≡ Some x) (kept : AreEntriesValid es) (h : AreSpread spread es) where
  abbrev new : Entry
  new = updated broker event_ts state custom x

  abbrev all : List Entry
  all = changed id (updated broker event_ts state custom) es

  cases : (one : Entry) → IsIn one all → IsIn one es ⊎ (one ≡ new)
  cases one there = in_changed es id x one (updated broker event_ts state custom) here there

  -- an entry that can't be read from now on
  gone : is_readable state ≡ false → AreSpread spread all
  gone out = record {
    below = λ one there read. elim (cases one there) [
      | inl old ↦ h.below one old read
      | inr same ↦ absurd (unread (is_readable one.state) (rw same out) read)
    ];
    alone = λ one other there there' read up. elim (cases one there) [
      | inl old ↦ elim (cases other there') [
        | inl old' ↦ h.alone one other old old' read up
        | inr same ↦ unread_apart one other (rw same out)
      ]
      | inr same ↦ absurd (unread (is_readable one.state) (rw same out) read)
    ];
  }

  -- whether another can be read or not, it ends before one that lies past all
  old_apart : (one other : Entry) → IsIn other es → spread.past ≤ one.start → lies_under one other ≡ false
  old_apart one other old up = by (is_readable other.state) refl
    where
      by : (t : Bool) → is_readable other.state ≡ t → lies_under one other ≡ false
      by true read = let low = h.below other old read in past_apart one other (omega (arith, low, up))
      by false out = unread_apart one other out

  -- a copy more, after all others
  behind : spread.past ≤ x.start → x.start ≤ x.end → AreSpread (record { past = x.end + 1; alone = spread.alone }) all
  behind up ordered = record {
    below = λ one there read. elim (cases one there) [
      | inl old ↦ (let low = h.below one old read in omega (arith, low, up, ordered))
      | inr same ↦ rw same (omega arith)
    ];
    alone = λ one other there there' read up'. elim (cases one there) [
      | inl old ↦ elim (cases other there') [
        | inl old' ↦ h.alone one other old old' read up'
        | inr same ↦ rw same (let low = h.below one old read in before_apart one new (omega (arith, low, up)))
      ]
      | inr same ↦ rw same (elim (cases other there') [
        | inl old' ↦ old_apart new other old' up
        | inr same' ↦ rw same' (self_apart new)
      ])
    ];
  }

  -- or anywhere: none starts after all of them
  anywhere : x.start ≤ x.end → AreSpread (record { past = max spread.past (x.end + 1); alone = max spread.past (x.end + 1) }) all
  anywhere ordered = record {
    below = λ one there read. elim (cases one there) [
      | inl old ↦ (let low = h.below one old read in omega (arith, low))
      | inr same ↦ rw same (omega arith)
    ];
    alone = λ one other there there' read up. elim (cases one there) [
      | inl old ↦ (let low = h.below one old read in let own = kept_in es one kept old in absurd (omega (arith, low, own, up)))
      | inr same ↦ (let high : max spread.past (x.end + 1) ≤ x.start = rw same at up in absurd (omega (arith, high, ordered)))
    ];
  }

  pub spread_changed : x.start ≤ x.end → AreSpread (spread_after spread x state) all
  spread_changed ordered = by (is_readable state) refl
    where
      with_it : AreSpread (spread_with spread x) all
      with_it = elim (cases_lt x.start spread.past) [
        | inl low ↦ rw (lt-leb spread.past x.start low) (anywhere ordered)
        | inr up ↦ rw (le-leb spread.past x.start up) (behind up ordered)
      ]

      by : (t : Bool) → is_readable state ≡ t → AreSpread (cond t (spread_with spread x) spread) all
      by true into = with_it
      by false out = gone out

-- what is found is one of the entries
pub found_in : (es : List Entry) (id : SegmentId) (x : Entry) → entry_of id es ≡ Some x → IsIn x es
found_in [] id x here = absurd (cc)
found_in (e ∷ es) id x here = by (bytes_eq e.id.0 id.0) here (λ there. found_in es id x there)
  where
    by : (t : Bool) → cond t (Some e) (entry_of id es) ≡ Some x → (entry_of id es ≡ Some x → IsIn x es) → IsIn x (e ∷ es)
    by true is more = inl (cc)
    by false is more = inr (more is)

pub among_in : (es : List Entry) (e : Entry) → Among e es → IsIn e es
among_in [] e h = h
among_in (x ∷ es) e (inl same) = inl same
among_in (x ∷ es) e (inr more) = inr (among_in es e more)

-- whether or not there was memory for one entry more, whose copy starts
pub spread_either : {A E : Type 0} (spread : Spread) (es new : List Entry) (last : Entry) (answer : Result A E) → OnOk answer (new ≡ es ++ last ∷ []) → OnErr answer (new ≡ es) → IsAdded last
    → AreSpread spread es → AreSpread spread new
spread_either spread es new last (Ok x) more same added h = rw more (spread_push spread es last (ap is_readable added.started) h)
spread_either spread es new last (Err x) more same added h = rw same h
