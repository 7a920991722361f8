-- The best of the entries that give an epoch at an offset, and how it changes with the entries.
use Rattle.std.proofs.Common.{◌≡◌, ◌≢◌, ◌∙◌, refl, sym, ap, ℕ, ℤ, Bool, true, false, cond, List, [], ◌∷◌, ◌++◌, Option, Some, None, arith, inl, inr}
use Rattle.std.specs.Prelude.{filter, option_map, not, nat_lt, ◌==◌, ◌&&◌, ◌||◌, ◌⊎◌, IsSome}
use Rattle.std.specs.Str.{bytes_eq}
use Rattle.std.specs.List.{AllByRecursion}
use Rattle.std.proofs.lemmas.Bool.{both_ways}
use Rattle.std.proofs.lemmas.Bool.Decides.{nat_tests}
use Rattle.std.proofs.lemmas.List.Elements.{filter-append}
use Rattle.tier_base.specs.Key.{IsId}
use Rattle.tier_base.specs.declared.names.BrokerId.{BrokerId}
use Rattle.tier_base.specs.declared.names.SegmentId.{SegmentId}
use Rattle.tier_base.specs.declared.plain.State.{State}
use Rattle.segment_meta.specs.declared.note.Entry.{Entry}
use Rattle.remote_view.specs.Fold.{entry_of, changed, updated, AreEntriesValid, AreDistinct, others}
use Rattle.remote_view.specs.Lookup.{is_readable, covers, id_number, is_better, better_of, best_from, finished}
use Rattle.remote_view.specs.Laying.{held, gives}
use Rattle.remote_view.proofs.Ids.{same_id, bytes_self, same_number}

-- an entry is one of these
abbrev pub Among : Entry → List Entry → Type 0
Among b [] = ⊥
Among b (e ∷ es) = (b ≡ e) ⊎ Among b es

pub best_among : (best : Option Entry) (es : List Entry) (b : Entry) → best_from best es ≡ Some b → (best ≡ Some b) ⊎ Among b es
best_among best [] b h = inl h
best_among best (e ∷ es) b h = by best (best_among (Some (better_of best e)) es b h)
  where
    chosen : (w : Entry) (t : Bool) → Some (cond t e w) ≡ Some b → (Some w ≡ Some b) ⊎ ((b ≡ e) ⊎ Among b es)
    chosen w true h = inr (inl (cc))
    chosen w false h = inl h

    by : (best : Option Entry) → (Some (better_of best e) ≡ Some b) ⊎ Among b es → (best ≡ Some b) ⊎ ((b ≡ e) ⊎ Among b es)
    by best (inr among) = inr (inr among)
    by None (inl first) = inr (inl (cc))
    by (Some w) (inl first) = chosen w (is_better e w) first

pub among_filter : (test : Entry → Bool) (es : List Entry) (b : Entry) → Among b (filter test es) → (test b ≡ true) × Among b es
among_filter test [] b h = absurd h
among_filter test (e ∷ es) b h = by (test e) refl h (λ more. among_filter test es b more)
  where
    by : (t : Bool) → test e ≡ t → Among b (cond t (e ∷ filter test es) (filter test es)) → (Among b (filter test es) → (test b ≡ true) × Among b es) → (test b ≡ true) × ((b ≡ e) ⊎ Among b es)
    by true is (inl same) more = (ap test same ∙ is, inl same)
    by true is (inr rest) more = let found = more rest in (found.0, inr found.1)
    by false is rest more = let found = more rest in (found.0, inr found.1)

-- what is found covers the offset, and is one of the entries
pub found_among : (epoch offset : ℕ) (es : List Entry) (b : Entry) → finished epoch offset es ≡ Some b → (covers epoch offset b ≡ true) × Among b es
found_among epoch offset es b h = by (best_among None (filter (covers epoch offset) es) b h)
  where
    by : (None ≡ Some b) ⊎ Among b (filter (covers epoch offset) es) → (covers epoch offset b ≡ true) × Among b es
    by (inl none) = absurd (cc)
    by (inr among) = among_filter (covers epoch offset) es b among

-- an entry is found by its id
pub entry_found : (es : List Entry) (b : Entry) → AreDistinct es → Among b es → entry_of b.id es ≡ Some b
entry_found [] b distinct h = absurd h
entry_found (e ∷ es) b distinct (inl same) = rw (same, bytes_self e.id.0) refl
entry_found (e ∷ es) b distinct (inr among) = by (bytes_eq e.id.0 b.id.0) refl (entry_found es b distinct.1 among)
  where
    by : (t : Bool) → bytes_eq e.id.0 b.id.0 ≡ t → entry_of b.id es ≡ Some b → cond t (Some e) (entry_of b.id es) ≡ Some b
    by true one there = absurd (
        let same : e.id ≡ b.id = same_id e.id b.id one in
        let none : entry_of b.id es ≡ None = ap (λ (id : SegmentId). entry_of id es) (sym same) ∙ distinct.0 in
        cc)
    by false one there = there

-- so the best of some of them is found by its id
pub held_found : (es sub : List Entry) (epoch offset : ℕ) → AreDistinct es → ((b : Entry) → Among b sub → Among b es)
    → held es (option_map (λ e. e.id) (finished epoch offset sub)) ≡ finished epoch offset sub
held_found es sub epoch offset distinct within = by (finished epoch offset sub) refl
  where
    by : (f : Option Entry) → finished epoch offset sub ≡ f → held es (option_map (λ e. e.id) f) ≡ f
    by None is = refl
    by (Some b) is = entry_found es b distinct (within b (found_among epoch offset sub b is).1)

-- a test of states and one of offsets make the test of what can be read there
pub readable_covers : (epoch offset : ℕ) (e : Entry) (t : Bool) → is_readable e.state ≡ t → covers epoch offset e ≡ (t && gives epoch offset e)
readable_covers epoch offset e true is = rw is refl
readable_covers epoch offset e false is = rw is refl

-- the best after one entry more
pub best_push : (best : Option Entry) (es : List Entry) (e : Entry) → best_from best (es ++ e ∷ []) ≡ Some (better_of (best_from best es) e)
best_push best [] e = refl
best_push best (x ∷ es) e = best_push (Some (better_of best x)) es e

pub append_nil : (es : List Entry) → es ++ [] ≡ es
append_nil [] = refl
append_nil (e ∷ es) = ap (λ (l : List Entry). e ∷ l) (append_nil es)

pub finished_push : (epoch offset : ℕ) (es : List Entry) (e : Entry)
    → finished epoch offset (es ++ e ∷ []) ≡ cond (covers epoch offset e) (Some (better_of (finished epoch offset es) e)) (finished epoch offset es)
finished_push epoch offset es e = ap (best_from None) (filter-append (covers epoch offset) es (e ∷ [])) ∙ by (covers epoch offset e)
  where
    by : (t : Bool) → best_from None (filter (covers epoch offset) es ++ cond t (e ∷ []) []) ≡ cond t (Some (better_of (finished epoch offset es) e)) (finished epoch offset es)
    by true = best_push None (filter (covers epoch offset) es) e
    by false = ap (best_from None) (append_nil (filter (covers epoch offset) es))

-- one ends later than another, or with it and has the lesser number
abbrev pub later : ℕ → ℕ → ℕ → ℕ → Bool
later end number end' number' = nat_lt end' end || (end == end' && nat_lt number number')

later_trans : (a k b m c n : ℕ) → later a k b m ≡ true → later b m c n ≡ true → later a k c n ≡ true
later_trans a k b m c n h h' = grind (arith, nat_tests)

later_flip : (a k b m : ℕ) → k ≢ m → later a k b m ≡ not (later b m a k)
later_flip a k b m other = grind (arith, nat_tests)

better_trans : (x y b : Entry) → is_better y x ≡ true → is_better x b ≡ true → is_better y b ≡ true
better_trans x y b h h' = later_trans y.end (id_number y.id) x.end (id_number x.id) b.end (id_number b.id) h h'

-- the better of two is the same, whichever is asked first
pair_swap : (x y : Entry) → id_number x.id ≢ id_number y.id → cond (is_better y x) y x ≡ cond (is_better x y) x y
pair_swap x y other =
    let flip : is_better x y ≡ not (is_better y x) = later_flip x.end (id_number x.id) y.end (id_number y.id) other in
    by (is_better y x) (is_better x y) flip
  where
    by : (t u : Bool) → u ≡ not t → cond t y x ≡ cond u x y
    by true u is = rw is refl
    by false u is = rw is refl

not_better : (x y b : Entry) → is_better x b ≡ true → is_better y b ≡ false → is_better y x ≡ false
not_better x y b up down = by (is_better y x) refl
  where
    by : (t : Bool) → is_better y x ≡ t → t ≡ false
    by true is = absurd (both_ways (is_better y b) down (better_trans x y b is up))
    by false is = refl

-- the order of two further entries doesn't matter
pub swap : (best : Option Entry) (x y : Entry) → id_number x.id ≢ id_number y.id → better_of (Some (better_of best x)) y ≡ better_of (Some (better_of best y)) x
swap None x y other = pair_swap x y other
swap (Some b) x y other = by (is_better x b) (is_better y b) refl refl
  where
    by : (p q : Bool) → is_better x b ≡ p → is_better y b ≡ q → cond (is_better y (cond p x b)) y (cond p x b) ≡ cond (is_better x (cond q y b)) x (cond q y b)
    by true true p_is q_is = pair_swap x y other
    by true false p_is q_is = rw (p_is, not_better x y b p_is q_is) refl
    by false true p_is q_is = rw (q_is, not_better y x b q_is p_is) refl
    by false false p_is q_is = rw (p_is, q_is) refl

-- none of the entries has this number
abbrev pub HaveOthers : ℕ → List Entry → Type 0
HaveOthers number es = AllByRecursion (λ e. number ≢ id_number e.id) es

-- so an entry may as well come after them
pub insert_late : (best : Option Entry) (x : Entry) (es : List Entry) → HaveOthers (id_number x.id) es
    → best_from (Some (better_of best x)) es ≡ Some (better_of (best_from best es) x)
insert_late best x [] h = refl
insert_late best x (y ∷ es) h =
    ap (λ (b : Entry). best_from (Some b) es) (swap best x y h.0) ∙ insert_late (Some (better_of best y)) x es h.1

pub others_filter : (test : Entry → Bool) (number : ℕ) (es : List Entry) → HaveOthers number es → HaveOthers number (filter test es)
others_filter test number [] h = tt
others_filter test number (e ∷ es) h = by (test e) (others_filter test number es h.1)
  where
    by : (t : Bool) → HaveOthers number (filter test es) → HaveOthers number (cond t (e ∷ filter test es) (filter test es))
    by true more = (h.0, more)
    by false more = more

-- an id that isn't found differs from those that are there
absent : (t : Bool) (e : Entry) (rest : Option Entry) → cond t (Some e) rest ≡ None → (t ≡ false) × (rest ≡ None)
absent true e rest h = absurd (cc)
absent false e rest h = (refl, h)

pub other_numbers : (id : SegmentId) (es : List Entry) → IsId id → AreEntriesValid es → entry_of id es ≡ None → HaveOthers (id_number id) es
other_numbers id [] is kept none = tt
other_numbers id (e ∷ es) is kept none =
    let parts = absent (bytes_eq e.id.0 id.0) e (entry_of id es) none in
    (λ same. both_ways (bytes_eq e.id.0 id.0) parts.0 (let one : id ≡ e.id = same_number id e.id is kept.0.id same in rw one (bytes_self e.id.0)), other_numbers id es is kept.1 parts.1)

-- a best entry that there is stays, or gives way to another
best_stays : (best : Option Entry) (es : List Entry) → IsSome best → IsSome (best_from best es)
best_stays best [] some = some
best_stays best (e ∷ es) some = best_stays (Some (better_of best e)) es refl

-- where an entry passes a test, there is a best one of those that do
pub best_passing : (test : Entry → Bool) (best : Option Entry) (es : List Entry) (b : Entry) → Among b es → test b ≡ true → IsSome (best_from best (filter test es))
best_passing test best [] b among is = absurd among
best_passing test best (e ∷ es) b among is = by (test e) refl among (λ more. best_passing test best es b more is)
  where
    by : (t : Bool) → test e ≡ t → (b ≡ e) ⊎ Among b es → (Among b es → IsSome (best_from best (filter test es))) → IsSome (best_from best (cond t (e ∷ filter test es) (filter test es)))
    by true here among more = best_stays (Some (better_of best e)) (filter test es) refl
    by false here (inl same) more = absurd (let no : test b ≡ false = ap test same ∙ here in cc)
    by false here (inr rest) more = more rest

-- nothing else has the id
pub no_others : (id : SegmentId) (es : List Entry) → entry_of id es ≡ None → others id es ≡ es
no_others id [] none = refl
no_others id (e ∷ es) none =
    let parts = absent (bytes_eq e.id.0 id.0) e (entry_of id es) none in
    rw parts.0 (ap (λ (l : List Entry). e ∷ l) (no_others id es parts.1))

module _ (broker : BrokerId) (event_ts : ℤ) (state : State) (custom : Option (List ℕ)) where
  -- an entry that counts only when it is changed
  pub finish_best : (test : Entry → Bool) (x : Entry) (best : Option Entry) (es : List Entry) → AreDistinct es → AreEntriesValid es → entry_of x.id es ≡ Some x → test x ≡ false
      → best_from best (filter test (changed x.id (updated broker event_ts state custom) es))
      ≡ cond (test (updated broker event_ts state custom x)) (Some (better_of (best_from best (filter test es)) (updated broker event_ts state custom x))) (best_from best (filter test es))
  finish_best test x best [] distinct kept here out = absurd (cc)
  finish_best test x best (e ∷ es) distinct kept here out =
      by (bytes_eq e.id.0 x.id.0) refl here (λ b there. finish_best test x b es distinct.1 kept.1 there out)
    where
      late : (u : Bool) → HaveOthers (id_number x.id) (filter test es)
          → best_from best (cond u (updated broker event_ts state custom x ∷ filter test es) (filter test es))
          ≡ cond u (Some (better_of (best_from best (filter test es)) (updated broker event_ts state custom x))) (best_from best (filter test es))
      late true h = insert_late best (updated broker event_ts state custom x) (filter test es) h
      late false h = refl

      early : (v u : Bool) (changed_es : List Entry)
          → ((b : Option Entry) → best_from b (filter test changed_es) ≡ cond u (Some (better_of (best_from b (filter test es)) (updated broker event_ts state custom x))) (best_from b (filter test es)))
          → best_from best (cond v (e ∷ filter test changed_es) (filter test changed_es))
          ≡ cond u (Some (better_of (best_from best (cond v (e ∷ filter test es) (filter test es))) (updated broker event_ts state custom x))) (best_from best (cond v (e ∷ filter test es) (filter test es)))
      early true u changed_es more = more (Some (better_of best e))
      early false u changed_es more = more best

      by : (t : Bool) → bytes_eq e.id.0 x.id.0 ≡ t → cond t (Some e) (entry_of x.id es) ≡ Some x
          → ((b : Option Entry) → entry_of x.id es ≡ Some x
          → best_from b (filter test (changed x.id (updated broker event_ts state custom) es))
          ≡ cond (test (updated broker event_ts state custom x)) (Some (better_of (best_from b (filter test es)) (updated broker event_ts state custom x))) (best_from b (filter test es)))
          → best_from best (filter test (cond t (updated broker event_ts state custom e ∷ es) (e ∷ changed x.id (updated broker event_ts state custom) es)))
          ≡ cond (test (updated broker event_ts state custom x)) (Some (better_of (best_from best (cond (test e) (e ∷ filter test es) (filter test es))) (updated broker event_ts state custom x)))
          (best_from best (cond (test e) (e ∷ filter test es) (filter test es)))
      by true one is more =
          let same : e ≡ x = cc in
          let none : entry_of x.id es ≡ None = ap (λ (y : Entry). entry_of y.id es) (sym same) ∙ distinct.0 in
          let apart = others_filter test (id_number x.id) es (other_numbers x.id es (rw same at kept.0.id) kept.1 none) in
          let not_e : test e ≡ false = ap test same ∙ out in
          rw (not_e, same) (late (test (updated broker event_ts state custom x)) apart)
      by false one is more = early (test e) (test (updated broker event_ts state custom x)) (changed x.id (updated broker event_ts state custom) es) (λ b. more b is)

  -- an entry that counts neither before nor after it is changed
  pub same_filter : (test : Entry → Bool) (x : Entry) (es : List Entry) → entry_of x.id es ≡ Some x → test x ≡ false → test (updated broker event_ts state custom x) ≡ false
      → filter test (changed x.id (updated broker event_ts state custom) es) ≡ filter test es
  same_filter test x [] here out out' = refl
  same_filter test x (e ∷ es) here out out' = by (bytes_eq e.id.0 x.id.0) here (λ there. same_filter test x es there out out')
    where
      by : (t : Bool) → cond t (Some e) (entry_of x.id es) ≡ Some x → (entry_of x.id es ≡ Some x → filter test (changed x.id (updated broker event_ts state custom) es) ≡ filter test es)
          → filter test (cond t (updated broker event_ts state custom e ∷ es) (e ∷ changed x.id (updated broker event_ts state custom) es)) ≡ cond (test e) (e ∷ filter test es) (filter test es)
      by true is more = let same : e ≡ x = cc in rw (same, out, out') refl
      by false is more = ap (λ (l : List Entry). cond (test e) (e ∷ l) l) (more is)

  -- an entry that no longer counts is as good as none
  pub gone_filter : (test : Entry → Bool) (id : SegmentId) (es : List Entry) → AreDistinct es → ((e : Entry) → test (updated broker event_ts state custom e) ≡ false)
      → filter test (changed id (updated broker event_ts state custom) es) ≡ filter test (others id es)
  gone_filter test id [] distinct out = refl
  gone_filter test id (e ∷ es) distinct out = by (bytes_eq e.id.0 id.0) refl (gone_filter test id es distinct.1 out)
    where
      by : (t : Bool) → bytes_eq e.id.0 id.0 ≡ t → filter test (changed id (updated broker event_ts state custom) es) ≡ filter test (others id es)
          → filter test (cond t (updated broker event_ts state custom e ∷ es) (e ∷ changed id (updated broker event_ts state custom) es)) ≡ filter test (cond (not t) (e ∷ others id es) (others id es))
      by true is more =
          let none : entry_of id es ≡ None = ap (λ (q : SegmentId). entry_of q es) (sym (same_id e.id id is)) ∙ distinct.0 in
          rw (out e, no_others id es none) refl
      by false is more = ap (λ (l : List Entry). cond (test e) (e ∷ l) l) more
