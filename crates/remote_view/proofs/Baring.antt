-- A stair after a segment was lifted off it, and what lay under that laid in its place.
use Rattle.std.proofs.Common.{zero, suc, ◌≡◌, ◌∙◌, refl, sym, ap, ℕ, ◌+◌, ◌<◌, ◌≤◌, Bool, true, false, cond, List, [], ◌∷◌, ◌++◌, Option, Some, None, length, take, get_or, arith, add-one, inl, inr}
use Rattle.std.specs.Prelude.{filter, option_map, not, nat_le, IsSome, ◌&&◌}
use Rattle.std.specs.Str.{bytes_eq}
use Rattle.std.proofs.lemmas.List.{take_all}
use Rattle.std.proofs.lemmas.Bool.{both_ways, and_parts, leb-true, le-leb}
use Rattle.log_terms.specs.Line.{epoch_at}
use Rattle.tier_base.specs.declared.names.SegmentId.{SegmentId}
use Rattle.segment_meta.specs.declared.note.Entry.{Entry}
use Rattle.remote_view.specs.declared.tread.Tread.{Tread}
use Rattle.remote_view.specs.Fold.{entry_of, AreEntriesValid, AreDistinct, others}
use Rattle.remote_view.specs.Lookup.{is_readable, is_epoch, covers, id_number, is_better, better_of, best_from, finished}
use Rattle.remote_view.specs.Stairs.{id_at, RisesAlong, IsStair}
use Rattle.remote_view.specs.Laying.{held, gives, overlaid_in, in_place, IsLifted, IsLaidIn, lies_under}
use Rattle.remote_view.proofs.Ids.{same_id, bytes_self}
use Rattle.remote_view.proofs.Best.{Among, found_among, entry_found, held_found, readable_covers, finished_push, append_nil, HaveOthers, insert_late, others_filter, other_numbers, no_others, best_passing}
use Rattle.remote_view.proofs.Finding.{found_best}
use Rattle.remote_view.proofs.Keeping.{among_others, id_of, others_more}

-- the best of all is the better of an entry and the best of the others
with_it : (test : Entry → Bool) (x : Entry) (best : Option Entry) (es : List Entry) → AreDistinct es → AreEntriesValid es → entry_of x.id es ≡ Some x
    → best_from best (filter test es) ≡ cond (test x) (Some (better_of (best_from best (filter test (others x.id es))) x)) (best_from best (filter test (others x.id es)))
with_it test x best [] distinct kept here = absurd (cc)
with_it test x best (e ∷ es) distinct kept here = by (bytes_eq e.id.0 x.id.0) refl here (λ b there. with_it test x b es distinct.1 kept.1 there)
  where
    late : (u : Bool) → HaveOthers (id_number x.id) (filter test es)
        → best_from best (cond u (x ∷ filter test es) (filter test es)) ≡ cond u (Some (better_of (best_from best (filter test es)) x)) (best_from best (filter test es))
    late true h = insert_late best x (filter test es) h
    late false h = refl

    early : (v u : Bool) → ((b : Option Entry) → best_from b (filter test es) ≡ cond u (Some (better_of (best_from b (filter test (others x.id es))) x)) (best_from b (filter test (others x.id es))))
        → best_from best (cond v (e ∷ filter test es) (filter test es))
        ≡ cond u (Some (better_of (best_from best (cond v (e ∷ filter test (others x.id es)) (filter test (others x.id es)))) x)) (best_from best (cond v (e ∷ filter test (others x.id es)) (filter test (others x.id es))))
    early true u more = more (Some (better_of best e))
    early false u more = more best

    by : (t : Bool) → bytes_eq e.id.0 x.id.0 ≡ t → cond t (Some e) (entry_of x.id es) ≡ Some x
        → ((b : Option Entry) → entry_of x.id es ≡ Some x → best_from b (filter test es) ≡ cond (test x) (Some (better_of (best_from b (filter test (others x.id es))) x)) (best_from b (filter test (others x.id es))))
        → best_from best (cond (test e) (e ∷ filter test es) (filter test es))
        ≡ cond (test x) (Some (better_of (best_from best (filter test (cond (not t) (e ∷ others x.id es) (others x.id es)))) x)) (best_from best (filter test (cond (not t) (e ∷ others x.id es) (others x.id es))))
    by true one is more =
        let same : e ≡ x = cc in
        let none : entry_of x.id es ≡ None = ap (λ (y : Entry). entry_of y.id es) (sym same) ∙ distinct.0 in
        let apart = others_filter test (id_number x.id) es (other_numbers x.id es (rw same at kept.0.id) kept.1 none) in
        rw (no_others x.id es none, same) (late (test x) apart)
    by false one is more = early (test e) (test x) (λ b. more b is)

module _ (es : List Entry) (x : Entry) (q o : ℕ) (distinct : AreDistinct es) (kept : AreEntriesValid es) (here : entry_of x.id es ≡ Some x) where
  -- the best of all stays the best of the others, where it is one of them
  other_stays : (b : Entry) → finished q o es ≡ Some b → bytes_eq b.id.0 x.id.0 ≡ false → finished q o (others x.id es) ≡ Some b
  other_stays b is other = by (covers q o x) (finished q o (others x.id es)) (sym (with_it (covers q o) x None es distinct kept here) ∙ is)
    where
      chosen : (t : Bool) (f : Entry) → Some (cond t x f) ≡ Some b → Some f ≡ Some b
      chosen true f h = absurd (let same : x ≡ b = cc in both_ways (bytes_eq b.id.0 x.id.0) other (rw same (bytes_self b.id.0)))
      chosen false f h = h

      by : (t : Bool) (f : Option Entry) → cond t (Some (better_of f x)) f ≡ Some b → f ≡ Some b
      by true None h = absurd (let same : x ≡ b = cc in both_ways (bytes_eq b.id.0 x.id.0) other (rw same (bytes_self b.id.0)))
      by true (Some f) h = chosen (is_better x f) f h
      by false f h = h

  -- and where there is none, there is none of the others
  none_stays : finished q o es ≡ None → finished q o (others x.id es) ≡ None
  none_stays is = by (covers q o x) (finished q o (others x.id es)) (sym (with_it (covers q o) x None es distinct kept here) ∙ is)
    where
      by : (t : Bool) (f : Option Entry) → cond t (Some (better_of f x)) f ≡ None → f ≡ None
      by true f h = absurd (cc)
      by false f h = h

  -- the entry is found by its id
  own_found : (b : Entry) → finished q o es ≡ Some b → bytes_eq b.id.0 x.id.0 ≡ true → b ≡ x
  own_found b is same =
      let found = entry_found es b distinct (found_among q o es b is).1 in
      let one : b.id ≡ x.id = same_id b.id x.id same in
      let there : entry_of x.id es ≡ Some b = ap (λ (id : SegmentId). entry_of id es) (sym one) ∙ found in
      cc

-- what covers an offset can be read and holds it
cover_parts : (q o : ℕ) (e : Entry) → covers q o e ≡ true → (is_readable e.state ≡ true) × (e.start ≤ o) × (o ≤ e.end)
cover_parts q o e h =
    let all = and_parts (is_readable e.state && nat_le e.start o && nat_le o e.end) (is_epoch q (epoch_at e.map o)) h in
    let within = and_parts (is_readable e.state && nat_le e.start o) (nat_le o e.end) all.0 in
    let first = and_parts (is_readable e.state) (nat_le e.start o) within.0 in
    (first.0, leb-true e.start o first.1, leb-true o e.end within.1)

-- what lies under another can be read, and isn't that one
pub under_parts : (x e : Entry) → lies_under x e ≡ true → (is_readable e.state ≡ true) × (bytes_eq e.id.0 x.id.0 ≡ false)
under_parts x e h =
    let all = and_parts (is_readable e.state && not (bytes_eq e.id.0 x.id.0) && nat_le e.start x.end) (nat_le x.start e.end) h in
    let some = and_parts (is_readable e.state && not (bytes_eq e.id.0 x.id.0)) (nat_le e.start x.end) all.0 in
    let both = and_parts (is_readable e.state) (not (bytes_eq e.id.0 x.id.0)) some.0 in
    (both.0, negated (bytes_eq e.id.0 x.id.0) both.1)
  where
    negated : (t : Bool) → not t ≡ true → t ≡ false
    negated true h = absurd (cc)
    negated false h = refl

-- from a segment's end on a stair gives nothing of it
pub ends_own : (es : List Entry) (x : Entry) (q : ℕ) (old : List Tread) → AreDistinct es → AreEntriesValid es → entry_of x.id es ≡ Some x → IsStair es q old
    → (o : ℕ) → x.end + 1 ≤ o → in_place x.id None (id_at old o) ≡ id_at old o
ends_own es x q old distinct kept here right o past = by (finished q o es) refl
  where
    chosen : (b : Entry) (t : Bool) → finished q o es ≡ Some b → bytes_eq b.id.0 x.id.0 ≡ t → cond t None (Some b.id) ≡ Some b.id
    chosen b true found own =
        let one : b ≡ x = own_found es x q o distinct kept here b found own in
        let within = cover_parts q o b (found_among q o es b found).0 in
        let last : o ≤ x.end = rw one at within.2 in
        absurd (omega (arith, last, past))
    chosen b false found own = refl

    by : (f : Option Entry) → finished q o es ≡ f → in_place x.id None (id_at old o) ≡ id_at old o
    by None found = let was : id_at old o ≡ None = right.best o ∙ ap (option_map (λ e. e.id)) found in rw was refl
    by (Some b) found = let was : id_at old o ≡ Some b.id = right.best o ∙ ap (option_map (λ e. e.id)) found in rw was (chosen b (bytes_eq b.id.0 x.id.0) found refl)

-- in a segment's place a stair gives what is best of some entries, and else what it gave before
pub record IsBared (sub : List Entry) (id : SegmentId) (q : ℕ) (old new : List Tread) : Type 0 where
  pub rises : RisesAlong new
  pub says : (o : ℕ) → id_at new o ≡ in_place id (option_map (λ e. e.id) (finished q o sub)) (id_at old o)

-- it was lifted, and nothing is laid yet
pub bared_first : (id : SegmentId) (es : List Entry) (q : ℕ) (old new : List Tread) → IsLifted id old new → IsBared (others id (take 0 es)) id q old new
bared_first id es q old new h = record { rises = h.rises; says = h.says }

not_both : (f : Option Entry) → IsSome f → f ≡ None → ⊥
not_both None some none = absurd (cc)
not_both (Some e) some none = absurd (cc)

-- an entry that is at a place is among them
among_at : (es : List Entry) (i : ℕ) (d : Entry) → i < length es → Among (get_or es i d) es
among_at [] i d below = absurd (omega (arith, below))
among_at (e ∷ es) zero d below = inl refl
among_at (e ∷ es) (suc i) d below = inr (among_at es i d (omega (arith, below)))

module _ (es : List Entry) (x e : Entry) (i q : ℕ) (old mid : List Tread) (distinct : AreDistinct es) (kept : AreEntriesValid es) (here : entry_of x.id es ≡ Some x) (below : i < length es) (is : e ≡ get_or es i e)
    (right : IsStair es q old) (h : IsBared (others x.id (take i es)) x.id q old mid) where
  -- an entry is laid
  pub bared_more : (new : List Tread) → is_readable e.state ≡ true → bytes_eq e.id.0 x.id.0 ≡ false → IsLaidIn es e q mid new → IsBared (others x.id (take (i + 1) es)) x.id q old new
  bared_more new readable other laid = rw (others_more x.id es i e below is, other) (record {
    rises = laid.rises;
    says = λ o. laid.says o ∙ at_offset o;
  })
    where
      sub : List Entry
      sub = others x.id (take i es)

      at_offset : (o : ℕ) → overlaid_in es e q mid o ≡ in_place x.id (option_map (λ e. e.id) (finished q o (sub ++ e ∷ []))) (id_at old o)
      at_offset o = by (finished q o es) refl
        where
          among : Among e es
          among = rw (← is) at (among_at es i e below)

          covered : covers q o e ≡ gives q o e
          covered = readable_covers q o e true readable

          -- where nothing is found it gives nothing
          nothing : (t : Bool) (found : Option SegmentId) → gives q o e ≡ t → finished q o es ≡ None → cond t (Some (better_of (held es None) e).id) None ≡ None
          nothing true found there none = absurd (not_both (finished q o es) (best_passing (covers q o) None es e among (covered ∙ there)) none)
          nothing false found there none = refl

          -- and it is no better than what is best of all
          best_there : (b : Entry) (t : Bool) → finished q o es ≡ Some b → gives q o e ≡ t → cond t (Some (better_of (held es (Some b.id)) e).id) (Some b.id) ≡ Some b.id
          best_there b true found there =
              let best = found_best q o es b distinct found in
              let worse : is_better e b ≡ false = rw (← is) at (best.none_better i e below) (covered ∙ there) in
              let own : entry_of b.id es ≡ Some b = entry_found es b distinct (found_among q o es b found).1 in
              rw (own, worse) refl
          best_there b false found there = refl

          -- in the segment's place it is one entry more
          in_its_place : cond (gives q o e) (Some (better_of (held es (option_map (λ e. e.id) (finished q o sub))) e).id) (option_map (λ e. e.id) (finished q o sub)) ≡ option_map (λ e. e.id) (finished q o (sub ++ e ∷ []))
          in_its_place =
              ap (λ (b : Option Entry). cond (gives q o e) (Some (better_of b e).id) (option_map (λ e. e.id) (finished q o sub))) (held_found es sub q o distinct (among_others x.id i es))
              ∙ (sym (id_of (gives q o e) (better_of (finished q o sub) e) (finished q o sub))
              ∙ ap (option_map (λ e. e.id)) (sym (finished_push q o sub e ∙ ap (λ (t : Bool). cond t (Some (better_of (finished q o sub) e)) (finished q o sub)) covered)))

          chosen : (b : Entry) (t : Bool) → finished q o es ≡ Some b → bytes_eq b.id.0 x.id.0 ≡ t
              → cond (gives q o e) (Some (better_of (held es (cond t (option_map (λ e. e.id) (finished q o sub)) (Some b.id))) e).id) (cond t (option_map (λ e. e.id) (finished q o sub)) (Some b.id))
              ≡ cond t (option_map (λ e. e.id) (finished q o (sub ++ e ∷ []))) (Some b.id)
          chosen b true found own = in_its_place
          chosen b false found own = best_there b (gives q o e) found refl

          by : (f : Option Entry) → finished q o es ≡ f → overlaid_in es e q mid o ≡ in_place x.id (option_map (λ e. e.id) (finished q o (sub ++ e ∷ []))) (id_at old o)
          by None found = let was : id_at old o ≡ None = right.best o ∙ ap (option_map (λ e. e.id)) found in rw (h.says o, was) (nothing (gives q o e) None refl found)
          by (Some b) found = let was : id_at old o ≡ Some b.id = right.best o ∙ ap (option_map (λ e. e.id)) found in rw (h.says o, was) (chosen b (bytes_eq b.id.0 x.id.0) found refl)

  -- an entry is passed that can't be read, is the segment's own, or doesn't lie under it
  pub bared_same : lies_under x e ≡ false → IsBared (others x.id (take (i + 1) es)) x.id q old mid
  bared_same out = rw (others_more x.id es i e below is) (record { rises = h.rises; says = λ o. h.says o ∙ at_offset o })
    where
      sub : List Entry
      sub = others x.id (take i es)

      at_offset : (o : ℕ) → in_place x.id (option_map (λ e. e.id) (finished q o sub)) (id_at old o)
          ≡ in_place x.id (option_map (λ e. e.id) (finished q o (sub ++ cond (not (bytes_eq e.id.0 x.id.0)) (e ∷ []) []))) (id_at old o)
      at_offset o = by (finished q o es) refl
        where
          -- where the segment was found, what doesn't lie under it covers nothing
          uncovered : covers q o x ≡ true → bytes_eq e.id.0 x.id.0 ≡ false → covers q o e ≡ false
          uncovered mine other = no_cover (covers q o e) refl
            where
              no_cover : (t : Bool) → covers q o e ≡ t → t ≡ false
              no_cover true there =
                  let theirs = cover_parts q o e there in
                  let own = cover_parts q o x mine in
                  absurd (both_ways (lies_under x e) out (rw (theirs.0, other, le-leb e.start x.end (omega (arith, theirs.1, own.2)), le-leb x.start e.end (omega (arith, own.1, theirs.2))) refl))
              no_cover false there = refl

          same : covers q o x ≡ true → finished q o sub ≡ finished q o (sub ++ cond (not (bytes_eq e.id.0 x.id.0)) (e ∷ []) [])
          same mine = by_id (bytes_eq e.id.0 x.id.0) refl
            where
              by_id : (t : Bool) → bytes_eq e.id.0 x.id.0 ≡ t → finished q o sub ≡ finished q o (sub ++ cond (not t) (e ∷ []) [])
              by_id true own = rw (append_nil sub) refl
              by_id false own = sym (finished_push q o sub e ∙ ap (λ (t : Bool). cond t (Some (better_of (finished q o sub) e)) (finished q o sub)) (uncovered mine own))

          chosen : (b : Entry) (t : Bool) → finished q o es ≡ Some b → bytes_eq b.id.0 x.id.0 ≡ t
              → cond t (option_map (λ e. e.id) (finished q o sub)) (Some b.id) ≡ cond t (option_map (λ e. e.id) (finished q o (sub ++ cond (not (bytes_eq e.id.0 x.id.0)) (e ∷ []) []))) (Some b.id)
          chosen b true found own =
              let one : b ≡ x = own_found es x q o distinct kept here b found own in
              let mine : covers q o x ≡ true = rw one at (found_among q o es b found).0 in
              ap (option_map (λ e. e.id)) (same mine)
          chosen b false found own = refl

          by : (f : Option Entry) → finished q o es ≡ f → in_place x.id (option_map (λ e. e.id) (finished q o sub)) (id_at old o)
              ≡ in_place x.id (option_map (λ e. e.id) (finished q o (sub ++ cond (not (bytes_eq e.id.0 x.id.0)) (e ∷ []) []))) (id_at old o)
          by None found = let was : id_at old o ≡ None = right.best o ∙ ap (option_map (λ e. e.id)) found in rw was refl
          by (Some b) found = let was : id_at old o ≡ Some b.id = right.best o ∙ ap (option_map (λ e. e.id)) found in rw was (chosen b (bytes_eq b.id.0 x.id.0) found refl)

-- with all of them laid it is the stair over the others
pub all_bared : (es : List Entry) (x : Entry) (q : ℕ) (old new : List Tread) → AreDistinct es → AreEntriesValid es → entry_of x.id es ≡ Some x → IsStair es q old → IsBared (others x.id es) x.id q old new
    → IsStair (others x.id es) q new
all_bared es x q old new distinct kept here right h = record { rises = h.rises; best = λ o. h.says o ∙ at_offset o (finished q o es) refl }
  where
    at_offset : (o : ℕ) (f : Option Entry) → finished q o es ≡ f → in_place x.id (option_map (λ e. e.id) (finished q o (others x.id es))) (id_at old o) ≡ option_map (λ e. e.id) (finished q o (others x.id es))
    at_offset o None found =
        let was : id_at old o ≡ None = right.best o ∙ ap (option_map (λ e. e.id)) found in
        rw (was, none_stays es x q o distinct kept here found) refl
    at_offset o (Some b) found = let was : id_at old o ≡ Some b.id = right.best o ∙ ap (option_map (λ e. e.id)) found in rw was (chosen (bytes_eq b.id.0 x.id.0) refl)
      where
        chosen : (t : Bool) → bytes_eq b.id.0 x.id.0 ≡ t → cond t (option_map (λ e. e.id) (finished q o (others x.id es))) (Some b.id) ≡ option_map (λ e. e.id) (finished q o (others x.id es))
        chosen true own = refl
        chosen false own = rw (other_stays es x q o distinct kept here b found own) refl

-- which default follows a list's end doesn't matter within it
default_free : (es : List Entry) (i : ℕ) (d e : Entry) → i < length es → get_or es i d ≡ get_or es i e
default_free [] i d e low = absurd (omega (arith, low))
default_free (x ∷ es) zero d e low = refl
default_free (x ∷ es) (suc i) d e low = default_free es i d e (omega (arith, low))

-- where no other lies under a segment, its stair without it is the stair over the others
pub alone_right : (es : List Entry) (x : Entry) (q : ℕ) (old new : List Tread) → AreDistinct es → AreEntriesValid es → entry_of x.id es ≡ Some x → IsStair es q old
    → ((e : Entry) → Among e es → lies_under x e ≡ false) → IsLifted x.id old new → IsStair (others x.id es) q new
alone_right es x q old new distinct kept here right apart lifted =
    all_bared es x q old new distinct kept here right (rw (take_all (length es) es (omega arith)) at (walk (length es) (omega arith)))
  where
    walk : (n : ℕ) → n ≤ length es → IsBared (others x.id (take n es)) x.id q old new
    walk zero low = bared_first x.id es q old new lifted
    walk (suc n) low =
        let below : n < length es = omega (arith, low) in
        let next = bared_same es x (get_or es n x) n q old new distinct kept here below (default_free es n x (get_or es n x) below) right (walk n (omega (arith, low))) (apart (get_or es n x) (among_at es n x below)) in
        rw (add-one n) at next
