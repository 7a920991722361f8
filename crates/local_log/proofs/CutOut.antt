-- A run that is cut out of a segment's bytes, and bytes without one.
use Rattle.std.proofs.Common.{◌≡◌, ◌≢◌, ◌∙◌, ap, sym, refl, subst, inl, inr, ℕ, ◌+◌, ◌-◌, ◌<◌, ◌≤◌, min, nat_lt, Bool, true, false, List, [], ◌∷◌, ◌++◌, length, take, drop, Option, Some, None, Result, Ok, Err, IsOk, arith, append_assoc, length-append}
use Rattle.std.specs.Prelude.{slice_range}
use Rattle.std.specs.Option.{ForSome}
use Rattle.std.proofs.lemmas.List.{append-nil, take_at, take-append-drop}
use Rattle.std.proofs.lemmas.Option.{same_Some}
use Rattle.std.proofs.lemmas.Bool.{lt-ltb, ltb-true, ltb-false}
use mathlib.Core.List.{IsPrefix}
use Rattle.tier_base.specs.declared.plain.Stop.{Stop}
use Rattle.tier_base.specs.declared.plain.Stop.TheVariants.{Mark, Piece, Limit}
use Rattle.disk_model.specs.Content.{Files}
use Rattle.log_terms.specs.Batch.{base_of, last_of}
use Rattle.log_terms.specs.Log.{joined, IsConsecutive, end_from, from_offset}
use Rattle.log_terms.proofs.Logs.{end_append, end_above, consecutive_prefix, nested}
use Rattle.record_batch.specs.declared.head.Head.{Head}
use Rattle.record_batch.specs.declared.refusal.HeadRefusal.{HeadRefusal}
use Rattle.record_batch.specs.Head.{head_of}
use Rattle.record_batch.specs.Check.{checked, head_refusal, headed}
use Rattle.record_batch.proofs.Passing.{checked_long}
use Rattle.segment_file.specs.declared.walking.Found.TheVariants as found
use Rattle.segment_file.specs.declared.taking.Cutout.{Cutout}
use Rattle.segment_file.specs.Walk.{size_in, found_at}
use Rattle.segment_file.specs.Growing.{Grown, AreParted, BeginsSearch}
use Rattle.segment_file.specs.Run.{end_after, MayBeginAt, Follows, AreBatches, HasBatchesUpTo, would_pass, Fits, RunContinues, StopIs, IsRunCutAt, IsBadAt}
use Rattle.segment_file.proofs.Finding.{batch_found, head_kept, head_sized}
use Rattle.segment_file.proofs.Standing.{same_head}
use Rattle.segment_file.proofs.Joining.{consecutive_parts}
use Rattle.segment_file.proofs.Placing.{placed_parts}
use Rattle.log_steps.specs.Fronts.{Each}
use Rattle.log_steps.specs.Opens.{IsPlaced}
use Rattle.log_steps.proofs.Lists.{each_map, each_right}
use Rattle.local_log.specs.Stored.{bytes_of, size_of, end_of, IsStored}
use Rattle.local_log.specs.Epochs.{IsRow}
use Rattle.local_log.specs.Reading.{HasNoLocalRun, passes}
use Rattle.local_log.proofs.Pieces.{joined_append, stored_end}
use Rattle.local_log.proofs.Heads.{head_front, headed_batch}
use Rattle.local_log.proofs.Reached.{Enough, front_whole}
use Rattle.local_log.proofs.Edges.{Ends, from_skip}

-- there is no run in nothing
pub no_run_in_nothing : (line : List (ℕ × ℕ)) (offset limit mark piece position : ℕ) → HasNoLocalRun line [] offset limit mark piece position 0
no_run_in_nothing line offset limit mark piece position = record {
  found = 0;
  bad = inl (record {
    batches = [];
    rest = [];
    stand = record { parts = refl; follow = tt; place = refl };
    fits = tt;
    goes_on = tt;
    nothing = λ batch more e follows. (let long = checked_long batch follows.is in let n = ap length e ∙ length-append batch more in absurd (omega (arith, long, n)));
  });
  place = inr (refl, refl);
}

abbrev pub AreChecked : List (List ℕ) → Type 0
AreChecked batches = Each (λ (b : List ℕ). IsOk (checked b)) batches

drop_at : (xs ys : List ℕ) → drop (length xs) (xs ++ ys) ≡ ys
drop_at [] ys = refl
drop_at (x ∷ xs) ys = drop_at xs ys

-- two lists of one length that begin one list
front_same : (xs ys cs ds : List ℕ) → length xs ≡ length ys → xs ++ cs ≡ ys ++ ds → (xs ≡ ys) × (cs ≡ ds)
front_same [] [] cs ds l e = (refl, e)
front_same [] (y ∷ ys) cs ds l e = absurd (omega (arith, l))
front_same (x ∷ xs) [] cs ds l e = absurd (omega (arith, l))
front_same (x ∷ xs) (y ∷ ys) cs ds l e =
    let first : x ≡ y = cc in
    let others : xs ++ cs ≡ ys ++ ds = cc in
    let rest = front_same xs ys cs ds (omega (arith, l)) others in
    (ap (λ z. z ∷ xs) first ∙ ap (λ zs. y ∷ zs) rest.0, rest.1)

-- a head is identified by the bytes in front alone
headed_kept : (xs ys : List ℕ) → 61 ≤ length xs → headed (xs ++ ys) ≡ headed xs
unfolding headed
headed_kept xs ys long = rw (head_kept xs ys long, head_front xs ys long) refl

headed_long : (xs : List ℕ) (head : Head) → headed xs ≡ Ok head → 61 ≤ length xs
unfolding headed head_refusal
headed_long xs head e = go (nat_lt (length xs) 61) refl
  where
    go : (t : Bool) → nat_lt (length xs) 61 ≡ t → 61 ≤ length xs
    go true t = absurd (cc (rw t at e))
    go false t = ltb-false (length xs) 61 t

-- what would pass the limit does with more bytes after
passes_more : (limit size : ℕ) (xs ys : List ℕ) → would_pass limit size (headed xs) ≡ true → would_pass limit size (headed (xs ++ ys)) ≡ true
passes_more limit size xs ys pass = go (headed xs) refl
  where
    go : (r : Result Head HeadRefusal) → headed xs ≡ r → would_pass limit size (headed (xs ++ ys)) ≡ true
    go (Ok head) e = ap (would_pass limit size) (headed_kept xs ys (headed_long xs head e)) ∙ pass
    go (Err why) e = absurd (cc (rw e at pass))

-- bytes begin with one batch alone
batch_same : (x y cs ds : List ℕ) → IsOk (checked x) → IsOk (checked y) → x ++ cs ≡ y ++ ds → (x ≡ y) × (cs ≡ ds)
batch_same x y cs ds okx oky e =
    let one : found_at 0 (x ++ cs) ≡ found.Batch (head_of x) = batch_found 0 x cs okx in
    let two : found_at 0 (y ++ ds) ≡ found.Batch (head_of y) = batch_found 0 y ds oky in
    let same : head_of x ≡ head_of y = same_head (head_of x) (head_of y) (sym one ∙ (ap (found_at 0) e ∙ two)) in
    front_same x y cs ds (sym (head_sized x okx) ∙ (ap size_in same ∙ head_sized y oky)) e

-- others continue after these, and so do the bytes
abbrev Goes : List (List ℕ) → List (List ℕ) → List ℕ → List ℕ → Type 0
Goes xs ys rest tail = (more : List (List ℕ)) × (ys ≡ xs ++ more) × (rest ≡ joined more ++ tail)

-- batches that follow at the front of bytes are the first of those that are there
fronts : (last : Option ℕ) (n offset bound : ℕ) (xs ys : List (List ℕ)) (rest tail : List ℕ) → ((x : List ℕ) → Follows last offset bound x → n < bound)
    → AreBatches last offset bound xs → AreChecked ys → IsConsecutive n ys → bound ≤ end_from n ys → joined xs ++ rest ≡ joined ys ++ tail → Goes xs ys rest tail
fronts last n offset bound [] ys rest tail low are ok c up e = (ys, refl, e)
fronts last n offset bound (x ∷ xs) [] rest tail low are ok c up e = let lt = low x are.0 in absurd (omega (arith, lt, up))
fronts last n offset bound (x ∷ xs) (y ∷ ys) rest tail low are ok c up e =
    let bytes : y ++ (joined ys ++ tail) ≡ x ++ (joined xs ++ rest) = sym (append_assoc y (joined ys) tail) ∙ sym e ∙ append_assoc x (joined xs) rest in
    let both = batch_same y x (joined ys ++ tail) (joined xs ++ rest) ok.0 are.0.is bytes in
    let c' : IsConsecutive (last_of x + 1) ys = subst (λ (z : List ℕ). IsConsecutive (last_of z + 1) ys) both.0 c.1 in
    let up' : bound ≤ end_from (last_of x + 1) ys = subst (λ (z : List ℕ). bound ≤ end_from (last_of z + 1) ys) both.0 up in
    let others = fronts (Some (last_of x + 1)) (last_of x + 1) offset bound xs ys rest tail (λ z f. (let b = f.begins in let l = f.below in omega (arith, b, l))) are.1 ok.1 c' up' (sym both.1) in
    (others.0, ap (λ z. z ∷ ys) both.0 ∙ ap (λ zs. x ∷ zs) others.1, others.2)

-- the batch after a beginning ends at or below a later end
next_below : (n : ℕ) (xs : List (List ℕ)) (m : List ℕ) (more ls : List (List ℕ)) → IsConsecutive n (xs ++ m ∷ more) → IsPrefix ls (xs ++ m ∷ more) → end_from n xs < end_from n ls → last_of m + 1 ≤ end_from n ls
next_below n [] m more [] c p lt = absurd (omega (arith, lt))
next_below n [] m more (l ∷ ls) c p lt =
    let same : m ≡ l = cc (p.1) in
    let d = consecutive_prefix n (l ∷ ls) (m ∷ more) p c in
    let up = end_above (last_of l + 1) ls d.1 in
    subst (λ (z : List ℕ). last_of z + 1 ≤ end_from n (l ∷ ls)) (sym same) up
next_below n (x ∷ xs) m more [] c p lt =
    let d = consecutive_parts (last_of x + 1) xs (m ∷ more) c.1 in
    let up = end_above (last_of x + 1) xs d.0 in
    absurd (omega (arith, lt, up, c.0))
next_below n (x ∷ xs) m more (l ∷ ls) c p lt =
    let same : x ≡ l = cc (p.1) in
    let others : ls ++ p.0 ≡ xs ++ m ∷ more = cc (p.1) in
    let lt' : end_from (last_of x + 1) xs < end_from (last_of x + 1) ls = subst (λ (z : List ℕ). end_from (last_of x + 1) xs < end_from (last_of z + 1) ls) (sym same) lt in
    subst (λ (z : List ℕ). last_of m + 1 ≤ end_from (last_of z + 1) ls) same (next_below (last_of x + 1) xs m more ls c.1 (p.0, others) lt')

-- batches up to an offset, and those from it on
pub from_parts : (offset : ℕ) (xs : List (List ℕ)) → (skipped : List (List ℕ)) × (xs ≡ skipped ++ from_offset offset xs)
from_parts offset [] = ([], refl)
from_parts offset (x ∷ xs) = go (nat_lt (last_of x) offset) refl (from_parts offset xs)
  where
    go : (t : Bool) → nat_lt (last_of x) offset ≡ t → ((skipped : List (List ℕ)) × (xs ≡ skipped ++ from_offset offset xs)) → (skipped : List (List ℕ)) × (x ∷ xs ≡ skipped ++ from_offset offset (x ∷ xs))
    go true e r = rw e (x ∷ r.0, ap (λ (l : List (List ℕ)). x ∷ l) r.1)
    go false e r = rw e ([], refl)

from_more : (offset : ℕ) (xs ys : List (List ℕ)) (first : List ℕ) (others : List (List ℕ)) → from_offset offset xs ≡ first ∷ others → from_offset offset (xs ++ ys) ≡ first ∷ others ++ ys
from_more offset [] ys first others e = absurd (cc (e))
from_more offset (x ∷ xs) ys first others e = go (nat_lt (last_of x) offset) refl (from_more offset xs ys first others)
  where
    go : (t : Bool) → nat_lt (last_of x) offset ≡ t → (from_offset offset xs ≡ first ∷ others → from_offset offset (xs ++ ys) ≡ first ∷ others ++ ys) → from_offset offset (x ∷ xs ++ ys) ≡ first ∷ others ++ ys
    go true t more = rw t (more (rw t at e))
    go false t more = let l : x ∷ xs ≡ first ∷ others = rw t at e in rw t (ap (λ (zs : List (List ℕ)). zs ++ ys) l)

-- none of them is past the offset
none_from : (n offset : ℕ) (xs : List (List ℕ)) → n ≤ offset → from_offset offset xs ≡ [] → end_from n xs ≤ offset
none_from n offset [] le e = le
none_from n offset (x ∷ xs) le e = go (nat_lt (last_of x) offset) refl (none_from (last_of x + 1) offset xs)
  where
    go : (t : Bool) → nat_lt (last_of x) offset ≡ t → (last_of x + 1 ≤ offset → from_offset offset xs ≡ [] → end_from (last_of x + 1) xs ≤ offset) → end_from n (x ∷ xs) ≤ offset
    go true t more = (let h : last_of x < offset = ltb-true (last_of x) offset t in more (omega (arith, h)) (rw t at e))
    go false t more = let l : x ∷ xs ≡ [] = rw t at e in absurd (cc (l))

-- two ways to say where batches end
end_some : (n : ℕ) (xs : List (List ℕ)) → end_after (Some n) xs ≡ Some (end_from n xs)
end_some n [] = refl
end_some n (x ∷ xs) = end_some (last_of x + 1) xs

end_of_run : (last : Option ℕ) (n : ℕ) (skipped : List (List ℕ)) (first : List ℕ) (others : List (List ℕ)) → end_after last (skipped ++ first ∷ others) ≡ Some (end_from n (first ∷ others))
end_of_run last n [] first others = end_some (last_of first + 1) others
end_of_run last n (x ∷ skipped) first others = end_of_run (Some (last_of x + 1)) n skipped first others

ends_within : (last : Option ℕ) (offset bound : ℕ) (xs : List (List ℕ)) → ForSome last (λ e. e ≤ bound) → AreBatches last offset bound xs → ForSome (end_after last xs) (λ e. e ≤ bound)
ends_within last offset bound [] le are = le
ends_within last offset bound (x ∷ xs) le are = ends_within (Some (last_of x + 1)) offset bound xs (λ y e. subst (λ (k : ℕ). k ≤ bound) (same_Some (last_of x + 1) y e) are.0.below) are.1

pub cancel : (xs ys zs : List (List ℕ)) → xs ++ ys ≡ xs ++ zs → ys ≡ zs
cancel [] ys zs e = e
cancel (x ∷ xs) ys zs e = let others : xs ++ ys ≡ xs ++ zs = cc (e) in cancel xs ys zs others

follow_checked : (last : Option ℕ) (offset bound : ℕ) (xs : List (List ℕ)) → AreBatches last offset bound xs → AreChecked xs
follow_checked last offset bound [] are = tt
follow_checked last offset bound (x ∷ xs) are = (are.0.is, follow_checked (Some (last_of x + 1)) offset bound xs are.1)

-- the bytes of a run that is cut out are its batches
module _ (part : List ℕ) (offset limit mark piece : ℕ) (cut : Cutout) (r : IsRunCutAt part offset limit mark piece cut) where
  skipping : (skipped : List (List ℕ)) × (r.batches ≡ skipped ++ r.first ∷ r.others)
  skipping = let p = from_parts offset r.batches in (p.0, p.1 ∙ ap (λ (l : List (List ℕ)). p.0 ++ l) r.run)

  from_is : cut.from ≡ length (joined skipping.0)
  from_is =
      let sum : length (joined r.batches) ≡ length (joined skipping.0) + length (joined (r.first ∷ r.others)) =
      ap (λ (l : List (List ℕ)). length (joined l)) skipping.1 ∙ ap length (joined_append skipping.0 (r.first ∷ r.others)) ∙ length-append (joined skipping.0) (joined (r.first ∷ r.others)) in
      let place = r.stand.place in
      let to = r.from in
      omega (arith, sum, place, to)

  pub run_bytes : slice_range part cut.from cut.to ≡ joined (r.first ∷ r.others)
  run_bytes =
      let run = joined (r.first ∷ r.others) in
      let long : cut.to - cut.from ≡ length run = (let to = r.from in omega (arith, to)) in
      let there : part ≡ joined skipping.0 ++ (run ++ r.rest) =
      r.stand.parts ∙ ap (λ (l : List (List ℕ)). joined l ++ r.rest) skipping.1 ∙ ap (λ (l : List ℕ). l ++ r.rest) (joined_append skipping.0 (r.first ∷ r.others)) ∙ append_assoc (joined skipping.0) run r.rest in
      ap (λ (l : List ℕ). slice_range l cut.from cut.to) there
      ∙ ap (λ (k : ℕ). take k (drop cut.from (joined skipping.0 ++ (run ++ r.rest)))) long
      ∙ ap (λ (k : ℕ). take (length run) (drop k (joined skipping.0 ++ (run ++ r.rest)))) from_is
      ∙ ap (take (length run)) (drop_at (joined skipping.0) (run ++ r.rest))
      ∙ take_at run r.rest (length run) refl

  pub run_checked : AreChecked (r.first ∷ r.others)
  run_checked =
      each_right (λ (b : List ℕ). IsOk (checked b)) skipping.0 (r.first ∷ r.others)
      (subst AreChecked skipping.1 (follow_checked None offset (min mark piece) r.batches r.stand.follow))

  -- and these bytes are they
  abbrev pub run_row : (bytes : List ℕ) → bytes ≡ slice_range part cut.from cut.to → IsRow bytes
  run_row bytes is = record { batches = r.first ∷ r.others; bytes_are = is ∙ run_bytes; are = run_checked }

  pub run_within : cut.to ≤ length part
  run_within = let e = ap length r.stand.parts ∙ length-append (joined r.batches) r.rest in let place = r.stand.place in omega (arith, e, place)

-- what is read of a stored segment from a position on that an index gives
module _ (f : Files) (line : List (ℕ × ℕ)) (g : Grown) (s : IsStored f line g) (offset limit mark piece position : ℕ)
    (search : BeginsSearch g.base g.batches offset position) (start : g.base ≤ offset) (under : offset < mark) (inside : offset < piece)
    (edge : Ends g.base s.batches (min mark piece)) (low : piece ≤ end_of g) where
  abbrev pub parted : AreParted 0 s.batches search.front search.rest
  parted = placed_parts 0 s.batches search.front search.rest (sym s.placed ∙ search.parts)

  abbrev pub former : List (List ℕ)
  former = parted.former

  abbrev pub latter : List (List ℕ)
  latter = parted.latter

  abbrev pub n : ℕ
  n = end_from g.base former

  size : position ≡ length (joined former)
  size = let e = parted.size in let h = search.place in omega (arith, e, h)

  early : n ≤ offset
  early = let e = parted.ends g.base in let h = search.before start in omega (arith, e, h)

  abbrev pub tail : List ℕ
  tail = drop (size_of g) (bytes_of f g)

  all : bytes_of f g ≡ joined s.batches ++ tail
  all = sym (take-append-drop (size_of g) (bytes_of f g)) ∙ ap (λ (l : List ℕ). l ++ tail) s.stands.bytes

  pub bytes_are : drop position (bytes_of f g) ≡ joined latter ++ tail
  bytes_are =
      ap (drop position) (all ∙ ap (λ (l : List (List ℕ)). joined l ++ tail) parted.parts ∙ ap (λ (l : List ℕ). l ++ tail) (joined_append former latter) ∙ append_assoc (joined former) (joined latter) tail)
      ∙ ap (λ (k : ℕ). drop k (joined former ++ (joined latter ++ tail))) size
      ∙ drop_at (joined former) (joined latter ++ tail)

  whole : IsConsecutive g.base (former ++ latter)
  whole = subst (IsConsecutive g.base) parted.parts s.stands.consecutive

  pub row : IsConsecutive n latter
  row = (consecutive_parts g.base former latter whole).1

  pub oks : AreChecked latter
  oks = each_right (λ (b : List ℕ). IsOk (checked b)) former latter (subst AreChecked parted.parts (each_map (λ (b : List ℕ) (p : IsPlaced line g.base b). p.is) s.batches s.stands.placed))

  end_is : end_of g ≡ end_from n latter
  end_is = stored_end f line g s ∙ ap (end_from g.base) parted.parts ∙ end_append g.base former latter

  later : n < min mark piece
  later = omega (arith, early, under, inside)

  high : min mark piece ≤ end_from n latter
  high = omega (arith, low, end_is)

  -- the bound is an edge of what is read
  edge' : Ends n latter (min mark piece)
  edge' =
      let q : IsPrefix edge.0 (former ++ latter) = subst (IsPrefix edge.0) parted.parts edge.1 in
      let p = nested g.base former edge.0 (former ++ latter) whole (latter, refl) q (omega (arith, later, edge.2)) in
      let more : former ++ (p.0 ++ q.0) ≡ former ++ latter = sym (append_assoc former p.0 q.0) ∙ ap (λ (l : List (List ℕ)). l ++ q.0) p.1 ∙ q.1 in
      (p.0, (q.0, cancel former (p.0 ++ q.0) latter more), sym (end_append g.base former p.0) ∙ ap (end_from g.base) p.1 ∙ edge.2)

  -- a part of them is read
  module _ (part behind : List ℕ) (read : drop position (bytes_of f g) ≡ part ++ behind) where
    module _ (batches : List (List ℕ)) (rest : List ℕ) (at : ℕ) (stand : HasBatchesUpTo offset (min mark piece) part batches rest at) where
      all_of : joined batches ++ (rest ++ behind) ≡ joined latter ++ tail
      all_of = sym (append_assoc (joined batches) rest behind) ∙ ap (λ (l : List ℕ). l ++ behind) (sym stand.parts) ∙ sym read ∙ bytes_are

      pub goes : Goes batches latter (rest ++ behind) tail
      goes = fronts None n offset (min mark piece) batches latter (rest ++ behind) tail (λ x f. later) stand.follow oks row high all_of

    -- the run isn't missed where the part is enough
    pub never_bad : ((b : List ℕ) (more : List (List ℕ)) → latter ≡ b ∷ more → nat_lt (last_of b) offset ≡ false)
        → ((xs : List (List ℕ)) (m : List ℕ) (ms : List (List ℕ)) → latter ≡ xs ++ m ∷ ms → end_from n xs < min mark piece → last_of m + 1 ≤ min mark piece → Fits limit xs → Enough limit xs m (length part))
        → (at : ℕ) → IsBadAt part offset limit (min mark piece) at → ⊥
    never_bad holds enough at bad = none (goes bad.batches bad.rest at bad.stand)
      where
        going : (fs : List (List ℕ)) → from_offset offset bad.batches ≡ fs → RunContinues limit (min mark piece) (end_after None bad.batches) fs bad.rest → end_from n bad.batches < min mark piece
        going [] e on = let h = none_from n offset bad.batches early e in omega (arith, h, under, inside)
        going (first ∷ run) e on =
            let p = from_parts offset bad.batches in
            let is : bad.batches ≡ p.0 ++ first ∷ run = p.1 ∙ ap (λ (l : List (List ℕ)). p.0 ++ l) e in
            let one : end_after None bad.batches ≡ Some (end_from n (first ∷ run)) = ap (end_after None) is ∙ end_of_run None n p.0 first run in
            let two : end_from n bad.batches ≡ end_from n (first ∷ run) = ap (end_from n) is ∙ end_append n p.0 (first ∷ run) in
            let lt : end_from n (first ∷ run) < min mark piece = on.0 (end_from n (first ∷ run)) one in
            subst (λ (k : ℕ). k < min mark piece) (sym two) lt

        lt : end_from n bad.batches < min mark piece
        lt = going (from_offset offset bad.batches) refl bad.goes_on

        begins : (bs : List (List ℕ)) (m : List ℕ) (ms : List (List ℕ)) → IsConsecutive n (bs ++ m ∷ ms) → MayBeginAt (end_after None bs) offset (base_of m)
        begins [] m ms c = omega (arith, c.0, early)
        begins (x ∷ xs) m ms c = subst (λ (o : Option ℕ). MayBeginAt o offset (base_of m)) (sym (end_some (last_of x + 1) xs)) ((consecutive_parts n (x ∷ xs) (m ∷ ms) c).1.0)

        -- none of the batches is passed over
        all_from : (bs more : List (List ℕ)) → latter ≡ bs ++ more → from_offset offset bs ≡ bs
        all_from [] more e = refl
        all_from (b ∷ bs) more e = rw (holds b (bs ++ more) e) refl

        from_is : (more : List (List ℕ)) → latter ≡ bad.batches ++ more → from_offset offset bad.batches ≡ bad.batches
        from_is more e = all_from bad.batches more e

        missed : (m : List ℕ) (more : List ℕ) → IsOk (checked m) → Follows (end_after None bad.batches) offset (min mark piece) m → bad.rest ++ behind ≡ m ++ more → length (joined bad.batches) + length m ≤ length part → ⊥
        missed m more ok follows e long =
            let size = ap length bad.stand.parts ∙ length-append (joined bad.batches) bad.rest in
            let whole = front_whole bad.rest behind m more e (omega (arith, long, size)) in
            bad.nothing m whole.0 whole.1 follows

        stops : (bs : List (List ℕ)) → bs ≢ [] → RunContinues limit (min mark piece) (end_after None bad.batches) bs bad.rest → would_pass limit (length (joined bs)) (headed bad.rest) ≡ false
        stops [] some on = absurd (some refl)
        stops (b ∷ bs) some on = on.1

        passed : (m : List ℕ) (more : List ℕ) → IsOk (checked m) → bad.rest ++ behind ≡ m ++ more → limit < length (joined bad.batches) + length m → length (joined bad.batches) + 61 ≤ length part
            → would_pass limit (length (joined bad.batches)) (headed bad.rest) ≡ true
        passed m more ok e over long =
            let size = ap length bad.stand.parts ∙ length-append (joined bad.batches) bad.rest in
            let head : headed bad.rest ≡ Ok (head_of m) = sym (headed_kept bad.rest behind (omega (arith, long, size))) ∙ (ap headed e ∙ headed_batch m more ok) in
            ap (would_pass limit (length (joined bad.batches))) head
            ∙ ap (λ (k : ℕ). nat_lt limit (length (joined bad.batches) + k)) (head_sized m ok)
            ∙ lt-ltb limit (length (joined bad.batches) + length m) over

        next : (more : List (List ℕ)) → latter ≡ bad.batches ++ more → bad.rest ++ behind ≡ joined more ++ tail → ⊥
        next [] parts e =
            let same : end_from n latter ≡ end_from n bad.batches = ap (end_from n) (parts ∙ append-nil bad.batches) in
            absurd (omega (arith, same, lt, high))
        next (m ∷ ms) parts e =
            let row' = subst (IsConsecutive n) parts row in
            let ok = each_right (λ (b : List ℕ). IsOk (checked b)) bad.batches (m ∷ ms) (subst AreChecked parts oks) in
            let at_edge : end_from n edge'.0 ≡ min mark piece = edge'.2 in
            let lt' : end_from n bad.batches < end_from n edge'.0 = omega (arith, at_edge, lt) in
            let below = next_below n bad.batches m ms edge'.0 row' (subst (IsPrefix edge'.0) parts edge'.1) lt' in
            let bytes : bad.rest ++ behind ≡ m ++ (joined ms ++ tail) = e ∙ append_assoc m (joined ms) tail in
            let fits = subst (Fits limit) (from_is (m ∷ ms) parts) bad.fits in
            let on = subst (λ (l : List (List ℕ)). RunContinues limit (min mark piece) (end_after None bad.batches) l bad.rest) (from_is (m ∷ ms) parts) bad.goes_on in
            elim (enough bad.batches m ms parts lt (omega (arith, below, at_edge)) fits) [
              | inl fits' ↦ missed m (joined ms ++ tail) ok.0 (record {
                is = ok.0;
                begins = begins bad.batches m ms row';
                below = omega (arith, below, at_edge);
              }) bytes fits'
              | inr head ↦ (let yes = passed m (joined ms ++ tail) ok.0 bytes head.1 head.2 in let no = stops bad.batches head.0 on in absurd (cc (yes, no)))
            ]

        none : Goes bad.batches latter (bad.rest ++ behind) tail → ⊥
        none h = next h.0 h.1 h.2

    -- the run in terms of the segment's batches, and of others after them
    pub record Told (cut : Cutout) (r : IsRunCutAt part offset limit mark piece cut) (beyond : List (List ℕ)) : Type 0 where
      pub rest : List (List ℕ)
      pub parts : from_offset offset (s.batches ++ beyond) ≡ r.first ∷ r.others ++ rest
      pub bytes : slice_range part cut.from cut.to ≡ joined (r.first ∷ r.others)
      pub next : cut.next ≡ end_from offset (r.first ∷ r.others)
      pub below : cut.next ≤ min mark piece
      pub stop : StopIs cut.stop cut.next mark piece (passes limit (length (joined (r.first ∷ r.others))) rest)

    module _ (cut : Cutout) (r : IsRunCutAt part offset limit mark piece cut) (beyond : List (List ℕ)) where
      abbrev pub run : List (List ℕ)
      run = r.first ∷ r.others

      h : Goes r.batches latter (r.rest ++ behind) tail
      h = goes r.batches r.rest cut.to r.stand

      p : (skipped : List (List ℕ)) × (r.batches ≡ skipped ++ from_offset offset r.batches)
      p = from_parts offset r.batches

      is : r.batches ≡ p.0 ++ run
      is = p.1 ∙ ap (λ (l : List (List ℕ)). p.0 ++ l) r.run

      next_is : cut.next ≡ end_from offset run
      next_is = same_Some cut.next (end_from offset run) (sym r.ends ∙ ap (end_after None) is ∙ end_of_run None offset p.0 r.first r.others)

      below_is : cut.next ≤ min mark piece
      below_is = ends_within None offset (min mark piece) r.batches (λ y e. absurd (cc (e))) r.stand.follow cut.next r.ends

      parts_are : from_offset offset (s.batches ++ beyond) ≡ run ++ (h.0 ++ beyond)
      parts_are =
          ap (λ (l : List (List ℕ)). from_offset offset (l ++ beyond)) (parted.parts ∙ ap (λ (l : List (List ℕ)). former ++ l) h.1)
          ∙ ap (from_offset offset) (append_assoc former (r.batches ++ h.0) beyond)
          ∙ from_skip g.base offset former ((r.batches ++ h.0) ++ beyond) ((consecutive_parts g.base former latter whole).0) early
          ∙ ap (from_offset offset) (append_assoc r.batches h.0 beyond)
          ∙ from_more offset r.batches (h.0 ++ beyond) r.first r.others r.run

      passed : (more : List (List ℕ)) → latter ≡ r.batches ++ more → r.rest ++ behind ≡ joined more ++ tail → cut.next ≢ piece → would_pass limit (length (joined run)) (headed r.rest) ≡ true
          → passes limit (length (joined run)) (more ++ beyond) ≡ true
      passed [] parts e other pass =
          let last : end_from n latter ≡ end_from offset run = ap (end_from n) (parts ∙ append-nil r.batches ∙ is) ∙ end_append n p.0 run in
          absurd (other (omega (arith, last, next_is, below_is, low, end_is)))
      passed (m ∷ ms) parts e other pass =
          let ok = each_right (λ (b : List ℕ). IsOk (checked b)) r.batches (m ∷ ms) (subst AreChecked parts oks) in
          let head : headed (r.rest ++ behind) ≡ Ok (head_of m) = ap headed (e ∙ append_assoc m (joined ms) tail) ∙ headed_batch m (joined ms ++ tail) ok.0 in
          sym (ap (would_pass limit (length (joined run))) head ∙ ap (λ (k : ℕ). nat_lt limit (length (joined run) + k)) (head_sized m ok.0)) ∙ passes_more limit (length (joined run)) r.rest behind pass

      stops : (stop : Stop) → StopIs stop cut.next mark piece (would_pass limit (length (joined run)) (headed r.rest)) → StopIs stop cut.next mark piece (passes limit (length (joined run)) (h.0 ++ beyond))
      stops Mark why = why
      stops Piece why = why
      stops Limit why = (why.0, why.1, passed h.0 h.1 h.2 why.1 why.2)

      pub told : Told cut r beyond
      told = record { rest = h.0 ++ beyond; parts = parts_are; bytes = run_bytes part offset limit mark piece cut r; next = next_is; below = below_is; stop = stops cut.stop r.stop_is }
