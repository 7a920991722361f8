-- A log whose first closed segment is dropped.
use Rattle.std.proofs.Common.{◌≡◌, ◌≢◌, ◌⊎◌, ℕ, ◌+◌, ◌^◌, ◌≤◌, ◌<◌, nat_lt, List, [], ◌∷◌, ◌++◌, length, map, drop, get_or, Option, None, Ok, refl, sym, ◌∙◌, ap, subst, inr, ⊎_elim, arith, IsTrue}
use Rattle.std.proofs.lemmas.List.{map-append}
use Rattle.tier_base.specs.declared.plain.FileName.TheVariants as file
use Rattle.tier_base.specs.Device.{Fate, Went, Dry}
use Rattle.tier_base.specs.Told.{bytes_in}
use Rattle.disk_model.specs.Content.{Content, Lawful, Files, Image, LeavesOnly}
use Rattle.log_terms.specs.Batch.{last_of}
use Rattle.log_terms.specs.Log.{IsConsecutive, end_from, up_to, from_offset}
use Rattle.log_terms.proofs.Logs.{lt_false, end_append}
use Rattle.epoch_line.specs.Line.{IsLine, cut_end}
use Rattle.epoch_line.proofs.Parts.{IsLine-filter}
use Rattle.log_manifest.specs.declared.manifest.Extent.{Extent}
use Rattle.log_manifest.specs.declared.manifest.Manifest.{Manifest}
use Rattle.log_manifest.specs.Reading.{manifest_in}
use Rattle.log_manifest.specs.Spelling.{manifest_bytes}
use Rattle.log_manifest.proofs.Again.{manifest_again}
use Rattle.segment_file.specs.Growing.{Grown}
use Rattle.segment_file.proofs.Laying.{end_up}
use Rattle.log_steps.specs.Fronts.{Each, Agrees}
use Rattle.log_steps.specs.Opens.{Opened, IsOpenedBy, Opens, Segments}
use Rattle.log_steps.specs.Reopens.{Reopens}
use Rattle.log_steps.proofs.Lists.{each_map, each_both, each_join, each_left, each_right}
use Rattle.log_steps.proofs.Reading.{read_moved}
use Rattle.log_steps.proofs.Rewritten.{log_no_manifest}
use Rattle.log_steps.proofs.Standing.{both_agree}
use Rattle.local_log.specs.Stored.{bytes_of, batches_of, all_batches, end_of, extent_of, IsStored}
use Rattle.local_log.specs.Listing.{IsLaidOut, AreSegmentsOf, AreListed, front_to, manifest_of}
use Rattle.local_log.specs.Inside.{DiskHasLog}
use Rattle.local_log.specs.Cutting.{closed_by, open_by, behind, cut_point, names_of, OpensAsOr, LeavesBeforeOrNow}
use Rattle.local_log.specs.Renewing.{Renews}
use Rattle.local_log.specs.Dropping.{first_of, rest_of, start_behind, IsFirstFlushed, SpansFirst}
use Rattle.local_log.proofs.Pieces.{stored_batches, stored_segments, stored_end, stored_same, consecutive_segments, all_each}
use Rattle.local_log.proofs.Lines.{cut_cut}
use Rattle.local_log.proofs.Listed.{rules_of, base_below}
use Rattle.local_log.proofs.CutOut.{cancel}
use Rattle.local_log.proofs.CutPoints.{le_true, holder_open}
use Rattle.local_log.proofs.Edges.{from_skip, up_to_past, log_begin}
use Rattle.local_log.proofs.Parting.{parts, closed_front, closed_low, chain_from, front_end, all_laid, front_laid, last_low, later_high, cut_are}
use Rattle.local_log.proofs.Having.{OpensUpTo}
use Rattle.local_log.proofs.Shortened.{stored_below, short_stored, short_batches}
use Rattle.local_log.proofs.Settled.{listed_agrees, listed_cut}
use Rattle.local_log.proofs.Shedding.{in_or_out, each_mapped}
use Rattle.local_log.proofs.Renewed.{not_named, renew_since, renew_as, renew_either, renew_reopens, renew_dry, renew_kept, renew_read, renew_fronts, renew_files, renew_opens}

-- batches from where the first of them begins
from_all : (n : ℕ) (xs : List (List ℕ)) → IsConsecutive n xs → from_offset n xs ≡ xs
from_all n [] c = refl
from_all n (x ∷ xs) c = rw (lt_false (last_of x) n (omega (arith, c.0))) refl

-- what memory finds at the front
pub first_at : (flushed_end : ℕ) (closed : List Grown) (g : Grown) → IsFirstFlushed flushed_end closed → g ≡ get_or closed 0 g → g ∷ [] ≡ first_of closed
first_at flushed_end [] g some is = absurd some
first_at flushed_end (x ∷ xs) g some is = ap (λ (y : Grown). y ∷ []) is

pub first_end : (start flushed_end : ℕ) (closed : List Grown) (g : Grown) → IsFirstFlushed flushed_end closed → g ≡ get_or closed 0 g → end_of g ≡ start_behind start closed
first_end start flushed_end [] g some is = absurd some
first_end start flushed_end (x ∷ xs) g some is = ap (λ (y : Grown). end_of y) is

pub first_some : (flushed_end : ℕ) (closed : List Grown) → IsFirstFlushed flushed_end closed → 0 < length closed
first_some flushed_end [] some = absurd some
first_some flushed_end (x ∷ xs) some = omega arith

pub first_spans : (flushed_end : ℕ) (closed : List Grown) (g : Grown) (answer : ℕ × ℕ) → IsFirstFlushed flushed_end closed → g ≡ get_or closed 0 g → answer.0 ≡ g.base → answer.1 + 1 ≡ end_of g → SpansFirst closed answer
first_spans flushed_end [] g answer some is base end = absurd some
first_spans flushed_end (x ∷ xs) g answer some is base end = (base ∙ ap (λ (y : Grown). y.base) is, end ∙ ap (λ (y : Grown). end_of y) is)

pub first_pos : (start flushed_end : ℕ) (closed : List Grown) (active g : Grown) → IsFirstFlushed flushed_end closed → AreSegmentsOf start closed active → g ≡ get_or closed 0 g → 1 ≤ end_of g
first_pos start flushed_end [] active g some are is = absurd some
first_pos start flushed_end (x ∷ xs) active g some are is =
    let below = base_below x.base x.batches are.laid.0.laid are.some.0 in
    let end = ap (λ (y : Grown). end_of y) is in
    omega (arith, below, end)

pub drop_one : (closed : List Grown) → drop 1 closed ≡ rest_of closed
drop_one [] = refl
drop_one (x ∷ xs) = refl

-- the manifest of the rest, up to the flushed end
abbrev pub manifest_behind : ℕ → ℕ → List Grown → Grown → List (ℕ × ℕ) → ℕ → Manifest
manifest_behind incarnation start closed active line flushed_end =
    manifest_of incarnation (start_behind start closed) (closed_by flushed_end (rest_of closed)) (front_to flushed_end (open_by flushed_end (rest_of closed) active)) (cut_end line (flushed_end + 1))

-- what it is read as
abbrev pub opened_behind : Files → ℕ → ℕ → List Grown → Grown → List (ℕ × ℕ) → ℕ → Opened
opened_behind f incarnation start closed active line flushed_end = record {
  incarnation = incarnation;
  local_start = start_behind start closed;
  batches = up_to flushed_end (from_offset (start_behind start closed) (all_batches f (closed ++ active ∷ [])));
  line = cut_end line (flushed_end + 1);
}

-- the segments after the first one
pub rest_are : (start flushed_end : ℕ) (closed : List Grown) (active : Grown) → IsFirstFlushed flushed_end closed → AreSegmentsOf start closed active → AreSegmentsOf (start_behind start closed) (rest_of closed) active
rest_are start flushed_end [] active some are = absurd some
rest_are start flushed_end (x ∷ xs) active some are = record {
  chained = are.chained.1;
  laid = are.laid.1;
  some = are.some.1;
  active_laid = are.active_laid;
  low = are.low;
  few = (let few = are.few in omega (arith, few));
}

-- and their front up to the flushed end
pub front_are : (start flushed_end : ℕ) (closed : List Grown) (active : Grown) → IsFirstFlushed flushed_end closed → AreSegmentsOf start closed active → flushed_end ≤ end_of active
    → AreSegmentsOf (start_behind start closed) (closed_by flushed_end (rest_of closed)) (front_to flushed_end (open_by flushed_end (rest_of closed) active))
front_are start flushed_end [] active some are within = absurd some
front_are start flushed_end (x ∷ xs) active some are within =
    let rest = rest_are start flushed_end (x ∷ xs) active some are in
    let last = open_by flushed_end xs active in
    let low = front_end last.base 0 flushed_end last.batches (last_low (end_of x) flushed_end xs active rest some) in
    cut_are (end_of x) flushed_end xs active rest some (let high = are.low in omega (arith, low, within, high))

-- a log without its first segment
pub record Drops (d d' : Content) (incarnation start : ℕ) (closed : List Grown) (active : Grown) (line : List (ℕ × ℕ)) (flushed_end : ℕ) (fate : Fate) : Type 0 where
  pub since : LeavesOnly d d' (λ c. OpensUpTo incarnation start flushed_end (all_batches d.files (closed ++ active ∷ [])) line c ⊎ Opens c (opened_behind d.files incarnation start closed active line flushed_end))
  pub opens_as : LeavesOnly d d' (OpensAsOr d (opened_behind d.files incarnation start closed active line flushed_end))
  pub either : LeavesBeforeOrNow d d'
  pub reopens : Reopens d'
  pub dry : fate ≡ Dry → DiskHasLog d' incarnation start closed active line flushed_end
  pub has : fate ≡ Went → DiskHasLog d' incarnation (start_behind start closed) (rest_of closed) active line flushed_end
  pub opens : fate ≡ Went → (c : Files) → Image d' c → Opens c (opened_behind d.files incarnation start closed active line flushed_end)
  pub batches : fate ≡ Went → IsTrue d.is_observable → all_batches d'.files (rest_of closed ++ active ∷ []) ≡ from_offset (start_behind start closed) (all_batches d.files (closed ++ active ∷ []))

module _ (d : Content) (laws : Lawful d) (incarnation start : ℕ) (first : Grown) (rest : List Grown) (active : Grown) (line : List (ℕ × ℕ)) (flushed_end : ℕ) (has : DiskHasLog d incarnation start (first ∷ rest) active line flushed_end)
    (are : AreSegmentsOf start (first ∷ rest) active) (is : IsLine line) (low : end_of first ≤ flushed_end) (within : flushed_end ≤ end_of active) (one : 1 ≤ incarnation) (fits : incarnation < 2 ^ 32)
    (d' : Content) (laws' : Lawful d') (fate : Fate) (change : Renews (manifest_bytes (manifest_behind incarnation start (first ∷ rest) active line flushed_end)) (names_of (first ∷ [])) fate d d') where
  abbrev start' : ℕ
  start' = end_of first

  abbrev others : List Grown
  others = rest ++ active ∷ []

  abbrev front : List Grown
  front = closed_by flushed_end rest

  abbrev last : Grown
  last = open_by flushed_end rest active

  abbrev later : List Grown
  later = behind flushed_end rest active

  abbrev short : List Grown
  short = front ++ front_to flushed_end last ∷ []

  abbrev line' : List (ℕ × ℕ)
  line' = cut_end line (flushed_end + 1)

  abbrev next : Manifest
  next = manifest_behind incarnation start (first ∷ rest) active line flushed_end

  abbrev o : Opened
  o = opened_behind d.files incarnation start (first ∷ rest) active line flushed_end

  abbrev all : List (List ℕ)
  all = all_batches d.files (first ∷ others)

  are' : AreSegmentsOf start' rest active
  are' = rest_are start flushed_end (first ∷ rest) active low are

  next_are : AreSegmentsOf start' front (front_to flushed_end last)
  next_are = front_are start flushed_end (first ∷ rest) active low are within

  line_is : IsLine line'
  line_is = IsLine-filter (λ e. nat_lt e.1 (flushed_end + 1)) line is

  rules : manifest_in (manifest_bytes next) ≡ Ok next
  rules = manifest_again next (rules_of incarnation start' front (front_to flushed_end last) line' one next_are line_is) fits

  from : start ≤ flushed_end
  from = let up = end_up first.base 0 first.batches are.laid.0.laid in let base = are.chained.0 in omega (arith, up, base, low)

  -- what the disk reads
  module _ (t : IsTrue d.is_observable) where
    stored_first : IsStored d.files line first
    stored_first = (has.stored t).0

    first_ends : end_from first.base stored_first.batches ≡ start'
    first_ends = sym (stored_end d.files line first stored_first)

    rest_consecutive : IsConsecutive start' (all_batches d.files others)
    rest_consecutive = consecutive_segments d.files line start' (map extent_of others) (all_batches d.files others) (stored_segments d.files line start' others are.chained.1 (has.stored t).1)

    first_all : all ≡ stored_first.batches ++ all_batches d.files others
    first_all = ap (λ (l : List (List ℕ)). l ++ all_batches d.files others) (stored_batches d.files line first stored_first)

    from_rest : from_offset start' all ≡ all_batches d.files others
    from_rest =
        ap (from_offset start') first_all
        ∙ from_skip first.base start' stored_first.batches (all_batches d.files others) stored_first.stands.consecutive (omega (arith, first_ends))
        ∙ from_all start' (all_batches d.files others) rest_consecutive

    stable_end : end_from start (up_to flushed_end all) ≡ flushed_end
    stable_end =
        ap (λ (l : List (List ℕ)). end_from start l) (sym (has.batches_are t))
        ∙ ap (λ (n : ℕ). end_from n has.opened.batches) (sym has.start_is)
        ∙ has.end_is t

    exact : cut_point flushed_end (first ∷ rest) active ≡ flushed_end
    exact =
        ap (λ (g : Grown). end_of (front_to flushed_end g)) (sym (holder_open flushed_end (first ∷ rest) active))
        ∙ sym (log_begin d.files line start flushed_end (first ∷ rest) active are.chained (has.stored t) from)
        ∙ stable_end

    all_short : closed_by flushed_end (first ∷ rest) ++ front_to flushed_end (open_by flushed_end (first ∷ rest) active) ∷ [] ≡ first ∷ short
    all_short = rw (le_true (end_of first) flushed_end low) refl

    stored_cut : Each (IsStored d.files (cut_end line flushed_end)) (first ∷ short)
    stored_cut = subst (Each (IsStored d.files (cut_end line flushed_end))) all_short (short_stored d incarnation start (first ∷ rest) active line flushed_end has are is flushed_end from exact within t)

    short_ends : Each (λ g. end_of g ≤ flushed_end) short
    short_ends = each_join (λ (g : Grown). end_of g ≤ flushed_end) front (front_to flushed_end last ∷ []) (closed_low flushed_end rest) (front_end last.base 0 flushed_end last.batches (last_low start' flushed_end rest active are' low), tt)

    stored_short : Each (IsStored d.files line') short
    stored_short =
        each_both
        (λ g s le. stored_below d.files (cut_end line flushed_end) line' flushed_end g (IsLine-filter (λ e. nat_lt e.1 flushed_end) line is) line_is (cut_cut line (flushed_end + 1) flushed_end (omega arith) ∙ sym (cut_cut line flushed_end flushed_end (omega arith))) s le)
        short stored_cut.1 short_ends

    short_rest : all_batches d.files short ≡ up_to flushed_end (all_batches d.files others)
    short_rest =
        cancel (batches_of d.files first) (all_batches d.files short) (up_to flushed_end (all_batches d.files others))
        (ap (all_batches d.files) (sym all_short)
        ∙ short_batches d incarnation start (first ∷ rest) active line flushed_end has are is flushed_end from exact within t
        ∙ ap (up_to flushed_end) first_all
        ∙ up_to_past first.base flushed_end stored_first.batches (all_batches d.files others) stored_first.stands.consecutive (omega (arith, first_ends, low))
        ∙ ap (λ (l : List (List ℕ)). l ++ up_to flushed_end (all_batches d.files others)) (sym (stored_batches d.files line first stored_first)))

    short_is : all_batches d.files short ≡ o.batches
    short_is = short_rest ∙ ap (up_to flushed_end) (sym from_rest)

    rest_end : end_from start' o.batches ≡ flushed_end
    rest_end =
        ap (λ (l : List (List ℕ)). end_from start' (up_to flushed_end l)) from_rest
        ∙ ap (λ (n : ℕ). end_from n (up_to flushed_end (all_batches d.files others))) (sym first_ends)
        ∙ sym (end_append first.base stored_first.batches (up_to flushed_end (all_batches d.files others)))
        ∙ ap (end_from first.base) (sym (up_to_past first.base flushed_end stored_first.batches (all_batches d.files others) stored_first.stands.consecutive (omega (arith, first_ends, low))))
        ∙ ap (λ (l : List (List ℕ)). end_from first.base (up_to flushed_end l)) (sym first_all)
        ∙ ap (λ (n : ℕ). end_from n (up_to flushed_end all)) are.chained.0
        ∙ stable_end

    read : IsOpenedBy next d.files o
    read = record {
      incarnation = refl;
      local_start = refl;
      batches = subst (Segments d.files line' start' (map extent_of short)) short_is (stored_segments d.files line' start' short next_are.chained stored_short);
      line = sym (cut_cut line (flushed_end + 1) (flushed_end + 1) (omega arith)) ∙ ap (λ (n : ℕ). cut_end line' (n + 1)) (sym rest_end);
    }

  rest_parts : others ≡ front ++ last ∷ later
  rest_parts = parts start' flushed_end rest active are' low

  lists : (c : Files) → Each (Agrees c d.files) has.listed.segments → Each (Agrees c d.files) (map extent_of (first ∷ rest)) → Each (Agrees c d.files) next.segments
  lists c listed whole =
      let each = listed_agrees c d.files flushed_end flushed_end has.listed.segments (first ∷ others) (omega arith) (all_laid start flushed_end (first ∷ rest) active are from) has.lists listed in
      let there = each_right (λ g. Agrees c d.files (extent_of (front_to flushed_end g))) front (last ∷ later) (subst (Each (λ g. Agrees c d.files (extent_of (front_to flushed_end g)))) rest_parts each.1) in
      let f1 = closed_front flushed_end rest in
      let closed_is : map extent_of rest ≡ map extent_of front ++ map extent_of f1.0 = ap (λ (l : List Grown). map extent_of l) f1.1 ∙ map-append extent_of front f1.0 in
      subst (Each (Agrees c d.files)) (sym (map-append extent_of front (front_to flushed_end last ∷ [])))
      (each_join (Agrees c d.files) (map extent_of front) (extent_of (front_to flushed_end last) ∷ [])
      (each_left (Agrees c d.files) (map extent_of front) (map extent_of f1.0) (subst (Each (Agrees c d.files)) closed_is whole.1)) (there.0, tt))

  base_low : first.base < start'
  base_low = base_below first.base first.batches are.laid.0.laid are.some.0

  -- no other segment has the first one's file
  abbrev IsApart : Extent → Type 0
  IsApart e = (e.len ≡ 0) ⊎ Each (λ (g : Grown). e.base ≢ g.base) (first ∷ [])

  apart : (gs : List Grown) → Each (λ g. start' ≤ g.base) gs → Each IsApart (map extent_of gs)
  apart gs high = each_mapped IsApart extent_of gs (each_map (λ g le. inr (λ e. omega (arith, e, le, base_low), tt)) gs high)

  others_high : Each (λ g. start' ≤ g.base) others
  others_high = chain_from start' others are.chained.1 (all_laid start flushed_end (first ∷ rest) active are from).1

  short_high : Each (λ g. start' ≤ g.base) short
  short_high = chain_from start' short next_are.chained (each_join IsLaidOut front (front_to flushed_end last ∷ []) next_are.laid (next_are.active_laid, tt))

  closed_fronts : (c : Files) → Each (Agrees c d.files) has.listed.segments → Each (Agrees c d.files) (map extent_of (first ∷ rest)) → Each (Agrees c d.files) (map extent_of rest)
  closed_fronts c listed whole = whole.1

  rest_apart : Each IsApart (map extent_of rest)
  rest_apart = apart rest (each_left (λ (g : Grown). start' ≤ g.base) rest (active ∷ []) others_high)

  module _ (went : fate ≡ Went) where
    told : IsTrue d'.is_observable → IsTrue d.is_observable
    told t = subst IsTrue change.is_observable t

    -- the files of the others are as they were
    same_file : IsTrue d.is_observable → (g : Grown) → start' ≤ g.base → d'.files (file.Log g.base) ≡ d.files (file.Log g.base)
    same_file t g le = ⊎_elim (λ same. same) (λ gone. absurd (not_named g.base (first ∷ []) (λ e. omega (arith, e, le, base_low), tt) gone.0)) (change.files went t (file.Log g.base) (log_no_manifest g.base))

    same_bytes : IsTrue d.is_observable → Each (λ (g : Grown). bytes_of d'.files g ≡ bytes_of d.files g) others
    same_bytes t = each_map (λ g le. ap bytes_in (same_file t g le)) others others_high

    drop_batches : IsTrue d.is_observable → all_batches d'.files others ≡ from_offset start' all
    drop_batches t = all_each d.files d'.files others (same_bytes t) ∙ sym (from_rest t)

    drop_images : (c : Files) → Image d' c → IsTrue d.is_observable → Each (Agrees c d'.files) next.segments × Each (Agrees c d'.files) (map extent_of rest)
    drop_images c now t = (
      each_both (both_agree c d'.files d.files) next.segments
          (renew_fronts d laws incarnation start (first ∷ rest) active line flushed_end has next o rules read lists (first ∷ []) (apart short short_high) d' laws' fate change c now)
          (renew_files d laws incarnation start (first ∷ rest) active line flushed_end has next o rules read lists (first ∷ []) (apart short short_high) d' laws' fate change t),
      each_both (both_agree c d'.files d.files) (map extent_of rest)
          (renew_kept d laws incarnation start (first ∷ rest) active line flushed_end has next o rules read lists (first ∷ []) (apart short short_high) d' laws' fate change (map extent_of rest) rest_apart closed_fronts c now)
          (renew_read d laws incarnation start (first ∷ rest) active line flushed_end has next o rules read lists (first ∷ []) (apart short short_high) d' laws' fate change (map extent_of rest) rest_apart closed_fronts t),
    )

    drop_clear : IsTrue d.is_observable → (b : ℕ) → Each (λ (g : Grown). b ≢ g.base) others → d'.files (file.Log b) ≡ None
    drop_clear t b unlisted =
        ⊎_elim
        (λ named. change.gone went t (file.Log b) named)
        (λ out. ⊎_elim (λ same. same ∙ has.clear t b (out.0, unlisted)) (λ gone. gone.1) (change.files went t (file.Log b) (log_no_manifest b)))
        (in_or_out b (first ∷ []))

    front_bases : Each (λ g. g.base ≤ flushed_end) front
    front_bases = each_both (λ g l e. (let up = end_up g.base 0 g.batches l.laid in omega (arith, up, e))) front next_are.laid (closed_low flushed_end rest)

    drop_has : DiskHasLog d' incarnation start' rest active line flushed_end
    drop_has = record {
      listed = next;
      opened = o;
      rules = rules_of incarnation start' front (front_to flushed_end last) line' one next_are line_is;
      fits = fits;
      images = λ c now. (let i = drop_images c now (told (laws'.told c now)) in record { manifest = change.durable went c now; listed_fronts = i.0; closed_fronts = i.1 });
      read = λ t. read_moved d'.files d.files next o
          (renew_files d laws incarnation start (first ∷ rest) active line flushed_end has next o rules read lists (first ∷ []) (apart short short_high) d' laws' fate change (told t))
          (read (told t));
      incarnation_is = refl;
      start_is = refl;
      end_is = λ t. rest_end (told t);
      batches_are = λ t. ap (up_to flushed_end) (sym (drop_batches (told t)));
      line_is = cut_cut line (flushed_end + 1) flushed_end (omega arith);
      lists = subst (AreListed flushed_end next.segments) (sym rest_parts)
          (listed_cut flushed_end front last later (front_laid start' flushed_end rest active are' low) (closed_low flushed_end rest) front_bases (last_low start' flushed_end rest active are' low) (later_high start' flushed_end rest active are' low));
      stored = λ t. each_both (λ g s same. stored_same d.files d'.files line g same s) others (has.stored (told t)).1 (same_bytes (told t));
      exact = λ t. (
          let high = each_right (λ (g : Grown). start' ≤ g.base) rest (active ∷ []) others_high in
          ap (λ (f : Option (List ℕ)). length (bytes_in f)) (same_file (told t) active high.0) ∙ has.exact (told t)
          );
      clear = λ t b unlisted. drop_clear (told t) b unlisted;
    }

  drops_some : Drops d d' incarnation start (first ∷ rest) active line flushed_end fate
  drops_some = record {
    since = renew_since d laws incarnation start (first ∷ rest) active line flushed_end has next o rules read lists (first ∷ []) (apart short short_high) d' laws' fate change;
    opens_as = renew_as d laws incarnation start (first ∷ rest) active line flushed_end has next o rules read lists (first ∷ []) (apart short short_high) d' laws' fate change;
    either = renew_either d laws incarnation start (first ∷ rest) active line flushed_end has next o rules read lists (first ∷ []) (apart short short_high) d' laws' fate change;
    reopens = renew_reopens d laws incarnation start (first ∷ rest) active line flushed_end has next o rules read lists (first ∷ []) (apart short short_high) d' laws' fate change;
    dry = renew_dry d laws incarnation start (first ∷ rest) active line flushed_end has next o rules read lists (first ∷ []) (apart short short_high) d' laws' fate change;
    has = drop_has;
    opens = renew_opens d laws incarnation start (first ∷ rest) active line flushed_end has next o rules read lists (first ∷ []) (apart short short_high) d' laws' fate change;
    batches = drop_batches;
  }

pub drops : (d : Content) → Lawful d → (incarnation start : ℕ) (closed : List Grown) (active : Grown) (line : List (ℕ × ℕ)) (flushed_end : ℕ) → DiskHasLog d incarnation start closed active line flushed_end
    → AreSegmentsOf start closed active → IsLine line → IsFirstFlushed flushed_end closed → flushed_end ≤ end_of active → 1 ≤ incarnation → incarnation < 2 ^ 32
    → (d' : Content) → Lawful d' → (fate : Fate) → Renews (manifest_bytes (manifest_behind incarnation start closed active line flushed_end)) (names_of (first_of closed)) fate d d'
    → Drops d d' incarnation start closed active line flushed_end fate
drops d laws incarnation start [] active line flushed_end has are is some within one fits d' laws' fate change = absurd some
drops d laws incarnation start (first ∷ rest) active line flushed_end has are is some within one fits d' laws' fate change =
    drops_some d laws incarnation start first rest active line flushed_end has are is some within one fits d' laws' fate change
