-- What is found by a stair is the best copy, and it was kept.
use Rattle.std.proofs.Common.{suc, ◌≡◌, ◌∙◌, refl, inl, inr, arith, ap, sym, subst, ℕ, Bool, true, false, cond, List, [], ◌∷◌, Option, Some, None, Bor}
use Rattle.std.specs.Prelude.{filter, IfSome, Contains}
use Rattle.std.specs.List.{AllByRecursion}
use Rattle.std.proofs.lemmas.Bool.{both_ways}
use Rattle.std.proofs.lemmas.Bool.Decides.{nat_tests}
use Rattle.std.proofs.lemmas.List.Elements.{All-from_recursion}
use Rattle.std.specs.Option.{option_map}
use Rattle.segment_meta.specs.declared.note.Entry.{Entry}
use Rattle.tier_base.specs.declared.names.SegmentId.{SegmentId}
use Rattle.remote_view.specs.declared.tread.Tread.{Tread}
use Rattle.remote_view.specs.Fold.{entry_of, IsEntryValid, AreEntriesValid, AreDistinct}
use Rattle.remote_view.specs.Stairs.{id_at, IsStair}
use Rattle.remote_view.specs.Laying.{held}
use Rattle.remote_view.proofs.Best.{Among, later, found_among, entry_found, held_found}
use Rattle.remote_view.specs.Lookup.{covers, id_number, is_better, better_of, best_from, finished, IsBest}

-- the better of two that were kept
better-kept : (best : Option Entry) (entry : Entry) → IfSome best IsEntryValid → IsEntryValid entry → IsEntryValid (better_of best entry)
better-kept None entry h h' = h'
better-kept (Some best) entry h h' = chosen (is_better entry best)
  where
    chosen : (t : Bool) → IsEntryValid (cond t entry best)
    chosen true = h'
    chosen false = h

-- the best of those that were kept
best-kept : (best : Option Entry) (entries : List Entry) → IfSome best IsEntryValid → AreEntriesValid entries → IfSome (best_from best entries) IsEntryValid
best-kept best [] h all = h
best-kept best (entry ∷ entries) h all =
    best-kept (Some (better_of best entry)) entries (better-kept best entry h all.0) all.1

-- those that pass a test were kept
passing-kept : (test : Entry → Bool) (entries : List Entry) → AreEntriesValid entries → AreEntriesValid (filter test entries)
passing-kept test [] all = tt
passing-kept test (entry ∷ entries) all = by (test entry) (passing-kept test entries all.1)
  where
    by : (t : Bool) → AreEntriesValid (filter test entries) → AreEntriesValid (cond t (entry ∷ filter test entries) (filter test entries))
    by true more = (all.0, more)
    by false more = more

-- so what is found was kept
pub finished_kept : (epoch offset : ℕ) (entries : List Entry) (found : Option (Bor Entry)) → AreEntriesValid entries
    → option_map (λ e. e.now) found ≡ finished epoch offset entries → IfSome found (λ e. IsEntryValid e.now)
finished_kept epoch offset entries None all e = tt
finished_kept epoch offset entries (Some entry) all e =
    let kept : IfSome (finished epoch offset entries) IsEntryValid = best-kept None (filter (covers epoch offset) entries) tt (passing-kept (covers epoch offset) entries all) in
    subst (λ (o : Option Entry). IfSome o IsEntryValid) (sym e) kept

-- the entry of the segment that a stair gives
pub by_stair : (epoch offset : ℕ) (es : List Entry) (stair : List Tread) (id : SegmentId) → AreDistinct es → IsStair es epoch stair → Some id ≡ id_at stair offset
    → entry_of id es ≡ finished epoch offset es
by_stair epoch offset es stair id distinct right is =
    ap (held es) (is ∙ right.best offset) ∙ held_found es es epoch offset distinct (λ b among. among)

-- what is no better than what is no better is no better
later_back : (a k b m c n : ℕ) → later a k b m ≡ false → later b m c n ≡ false → later a k c n ≡ false
later_back a k b m c n h h' = grind (arith, nat_tests)

-- none of the entries is better than what is found
none_better : (best : Option Entry) (es : List Entry) (b : Entry) → best_from best es ≡ Some b
    → IfSome best (λ w. is_better w b ≡ false) × AllByRecursion (λ e. is_better e b ≡ false) es
none_better None [] b h = absurd (cc)
none_better (Some w) [] b h = let same : w ≡ b = cc in (rw same (itself b.end (id_number b.id)), tt)
  where
    itself : (a k : ℕ) → later a k a k ≡ false
    itself a k = grind (arith, nat_tests)
none_better best (e ∷ es) b h = by best (none_better (Some (better_of best e)) es b h)
  where
    chosen : (w : Entry) (t : Bool) → is_better e w ≡ t → is_better (cond t e w) b ≡ false → (is_better w b ≡ false) × (is_better e b ≡ false)
    chosen w true is first = (not_less w e is first, first)
      where
        not_less : (w e : Entry) → is_better e w ≡ true → is_better e b ≡ false → is_better w b ≡ false
        not_less w e up down = go w.end (id_number w.id) e.end (id_number e.id) b.end (id_number b.id) up down
          where
            go : (a k c n d m : ℕ) → later c n a k ≡ true → later c n d m ≡ false → later a k d m ≡ false
            go a k c n d m up down = grind (arith, nat_tests)
    chosen w false is first = (first, later_back e.end (id_number e.id) w.end (id_number w.id) b.end (id_number b.id) is first)

    by : (best : Option Entry) → (is_better (better_of best e) b ≡ false) × AllByRecursion (λ e. is_better e b ≡ false) es
        → IfSome best (λ w. is_better w b ≡ false) × AllByRecursion (λ e. is_better e b ≡ false) (e ∷ es)
    by None rest = (tt, (rest.0, rest.1))
    by (Some w) rest = let both = chosen w (is_better e w) refl rest.0 in (both.0, (both.1, rest.1))

-- of those that pass a test
of_passing : (test : Entry → Bool) (P : Entry → Type 0) (es : List Entry) → AllByRecursion P (filter test es) → AllByRecursion (λ e. test e ≡ true → P e) es
of_passing test P [] h = tt
of_passing test P (e ∷ es) h = by (test e) refl h (λ rest. of_passing test P es rest)
  where
    by : (t : Bool) → test e ≡ t → AllByRecursion P (cond t (e ∷ filter test es) (filter test es)) → (AllByRecursion P (filter test es) → AllByRecursion (λ e. test e ≡ true → P e) es)
        → AllByRecursion (λ e. test e ≡ true → P e) (e ∷ es)
    by true is all more = ((λ passes. all.0), more all.1)
    by false is all more = ((λ passes. absurd (both_ways (test e) is passes)), more all)

contained : (es : List Entry) (b : Entry) → Among b es → Contains es b
contained [] b h = absurd h
contained (e ∷ es) b (inl same) = (0, omega arith, sym same)
contained (e ∷ es) b (inr more) = let rest = contained es b more in (suc rest.0, omega (arith, rest.1), rest.2)

pub found_best : (epoch offset : ℕ) (es : List Entry) (b : Entry) → AreDistinct es → finished epoch offset es ≡ Some b → IsBest epoch offset es b
found_best epoch offset es b distinct h =
    let found = found_among epoch offset es b h in
    record {
      there = contained es b found.1;
      holds = found.0;
      none_better = All-from_recursion (λ e. covers epoch offset e ≡ true → is_better e b ≡ false) es (of_passing (covers epoch offset) (λ e. is_better e b ≡ false) es (none_better None (filter (covers epoch offset) es) b h).1);
      of_id = entry_found es b distinct found.1;
    }
