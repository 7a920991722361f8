-- The segments of a log that is cut, and their batches on its disk.
use Rattle.std.proofs.Common.{◌≡◌, ℕ, ◌+◌, ◌^◌, ◌≤◌, ◌<◌, Bool, true, false, cond, List, [], ◌∷◌, ◌++◌, length, take, map, Ok, refl, sym, ◌∙◌, ap, subst, inl, inr, lt-ltb, le-ltb, arith, IsTrue, append_assoc}
use Rattle.std.specs.Prelude.{nat_lt}
use Rattle.std.proofs.lemmas.Bool.{cases_lt}
use Rattle.std.proofs.lemmas.List.{take_at, take-take, append-nil}
use Rattle.disk_model.specs.Content.{Content, Files}
use Rattle.log_terms.specs.Batch.{last_of}
use Rattle.log_terms.specs.Log.{joined, IsConsecutive, end_from, up_to}
use Rattle.log_terms.proofs.Logs.{up_to_is, up_to_prefix, consecutive_prefix}
use Rattle.epoch_line.specs.Line.{IsLine, cut_end}
use Rattle.epoch_line.proofs.Parts.{IsLine-filter}
use Rattle.log_manifest.specs.declared.manifest.Manifest.{Manifest}
use Rattle.log_manifest.specs.Reading.{manifest_in}
use Rattle.log_manifest.specs.Spelling.{manifest_bytes}
use Rattle.log_manifest.proofs.Again.{manifest_again}
use Rattle.segment_file.specs.declared.placed.Placed.{Placed}
use Rattle.segment_file.specs.Index.{placed, placed_from}
use Rattle.segment_file.specs.Growing.{Grown, end_after, size_after, ending_by, AreBatchesLaid}
use Rattle.segment_file.proofs.Searching.{ending_kept}
use Rattle.log_steps.specs.Fronts.{Each}
use Rattle.log_steps.specs.Opens.{Opened, IsPlaced, IsOpenedBy, Segments}
use Rattle.log_steps.proofs.Lists.{each_both, each_join, each_left, each_right}
use Rattle.local_log.specs.Stored.{bytes_of, batches_of, all_batches, size_of, end_of, extent_of, IsStored}
use Rattle.local_log.specs.Listing.{AreSegmentsOf, front_to, manifest_of}
use Rattle.local_log.specs.Inside.{DiskHasLog}
use Rattle.local_log.specs.Cutting.{closed_by, open_by, behind, cut_point}
use Rattle.local_log.proofs.Pieces.{joined_append, size_placed, end_placed, stored_batches, stored_segments, stored_end, consecutive_segments, all_append, all_end, chain_snoc}
use Rattle.local_log.proofs.Lines.{cut_cut, cut_within, below_cut, placed_same}
use Rattle.local_log.proofs.Listed.{rules_of}
use Rattle.local_log.proofs.Parting.{parts, cut_are, cut_chained, closed_low, last_laid}

-- the batches that end by an offset, as memory has them
ending_placed : (n at : ℕ) (bs : List (List ℕ)) → ending_by n (placed_from at bs) ≡ placed_from at (up_to n bs)
ending_placed n at [] = refl
ending_placed n at (b ∷ bs) = go (nat_lt (last_of b) n) (ending_placed n (at + length b) bs)
  where
    go : (t : Bool) → ending_by n (placed_from (at + length b) bs) ≡ placed_from (at + length b) (up_to n bs)
        → cond t (placed at b ∷ ending_by n (placed_from (at + length b) bs)) [] ≡ placed_from at (cond t (b ∷ up_to n bs) [])
    go true h = ap (λ (l : List Placed). placed at b ∷ l) h
    go false h = refl

-- a segment below the cut is stored by the leader epochs that are cut
pub stored_below : (f : Files) (line other : List (ℕ × ℕ)) (n : ℕ) (g : Grown) → IsLine line → IsLine other → cut_end other n ≡ cut_end line n → IsStored f line g → end_of g ≤ n → IsStored f other g
stored_below f line other n g is is' same s le = record {
  batches = s.batches;
  placed = s.placed;
  stands = record {
    long = s.stands.long;
    bytes = s.stands.bytes;
    placed = placed_same line other g.base n g.base s.batches is is' same s.stands.consecutive (omega (arith, stored_end f line g s, le)) s.stands.placed;
    consecutive = s.stands.consecutive;
  };
}

module _ (f : Files) (line other : List (ℕ × ℕ)) (n : ℕ) (g : Grown) (is : IsLine line) (is' : IsLine other) (same : cut_end other n ≡ cut_end line n) (s : IsStored f line g) (laid : AreBatchesLaid g.base 0 g.batches) (le : end_of (front_to n g) ≤ n) where
  abbrev pub kept : List (List ℕ)
  kept = up_to n s.batches

  kept_placed : ending_by n g.batches ≡ placed_from 0 kept
  kept_placed = ap (ending_by n) s.placed ∙ ending_placed n 0 s.batches

  kept_size : size_of (front_to n g) ≡ length (joined kept)
  kept_size = let h = ap (λ (l : List Placed). size_after 0 l) kept_placed in let k = size_placed 0 kept in omega (arith, h, k)

  kept_bytes : take (size_of (front_to n g)) (bytes_of f g) ≡ joined kept
  kept_bytes =
      let less = (ending_kept g.base n g.batches laid).size in
      let p = up_to_prefix n s.batches in
      sym (take-take (size_of (front_to n g)) (size_of g) (bytes_of f g) less)
      ∙ ap (λ (l : List ℕ). take (size_of (front_to n g)) l) (s.stands.bytes ∙ ap joined (sym p.1) ∙ joined_append kept p.0)
      ∙ take_at (joined kept) (joined p.0) (size_of (front_to n g)) (sym kept_size)

  kept_consecutive : IsConsecutive g.base kept
  kept_consecutive = consecutive_prefix g.base kept s.batches (up_to_prefix n s.batches) s.stands.consecutive

  kept_end : end_from g.base kept ≤ n
  kept_end = let h = ap (λ (l : List Placed). end_after g.base l) kept_placed in let k = end_placed g.base 0 kept in omega (arith, h, k, le)

  -- the front of a segment is stored
  pub stored_front : IsStored f other (front_to n g)
  stored_front =
      let less = (ending_kept g.base n g.batches laid).size in
      let p = up_to_prefix n s.batches in
      record {
        batches = kept;
        placed = kept_placed;
        stands = record {
          long = (let long = s.stands.long in omega (arith, less, long));
          bytes = kept_bytes;
          placed = placed_same line other g.base n g.base kept is is' same kept_consecutive kept_end
              (each_left (IsPlaced line g.base) kept p.0 (subst (Each (IsPlaced line g.base)) (sym p.1) s.stands.placed));
          consecutive = kept_consecutive;
        };
      }

  -- and its batches are a front of the segment's
  pub front_batches : batches_of f g ≡ batches_of f (front_to n g) ++ (up_to_prefix n s.batches).0
  unfolding stored_front
  front_batches =
      let p = up_to_prefix n s.batches in
      stored_batches f line g s ∙ sym p.1 ∙ ap (λ (l : List (List ℕ)). l ++ p.0) (sym (stored_batches f other (front_to n g) stored_front))

module _ (d : Content) (incarnation local_start : ℕ) (closed : List Grown) (active : Grown) (line : List (ℕ × ℕ)) (flushed_end : ℕ) (has : DiskHasLog d incarnation local_start closed active line flushed_end)
    (are : AreSegmentsOf local_start closed active) (is : IsLine line) (n : ℕ) (from : local_start ≤ n) (exact : cut_point n closed active ≡ n) (within : n ≤ end_of active) where
  abbrev pub segments : List Grown
  segments = closed ++ active ∷ []

  abbrev pub front : List Grown
  front = closed_by n closed

  abbrev pub last : Grown
  last = open_by n closed active

  abbrev pub later : List Grown
  later = behind n closed active

  abbrev pub short : List Grown
  short = front ++ front_to n last ∷ []

  abbrev pub line' : List (ℕ × ℕ)
  line' = cut_end line n

  abbrev pub whole : List (List ℕ)
  whole = all_batches d.files segments

  pub short_line : IsLine line'
  short_line = IsLine-filter (λ e. nat_lt e.1 n) line is

  pub same_line : cut_end line' n ≡ cut_end line n
  same_line = cut_cut line n n (omega arith)

  pub short_are : AreSegmentsOf local_start front (front_to n last)
  short_are = cut_are local_start n closed active are from (omega (arith, exact, within, are.low))

  parts_stored : IsTrue d.is_observable → Each (IsStored d.files line) (front ++ last ∷ later)
  parts_stored t = subst (Each (IsStored d.files line)) (parts local_start n closed active are from) (has.stored t)

  last_stored : IsTrue d.is_observable → IsStored d.files line last
  last_stored t = (each_right (IsStored d.files line) front (last ∷ later) (parts_stored t)).0

  last_ends : end_of (front_to n last) ≤ n
  last_ends = omega (arith, exact)

  pub short_stored : IsTrue d.is_observable → Each (IsStored d.files line') short
  short_stored t =
      each_join (IsStored d.files line') front (front_to n last ∷ [])
      (each_both (λ g s le. stored_below d.files line line' n g is short_line same_line s le) front (each_left (IsStored d.files line) front (last ∷ later) (parts_stored t)) (closed_low n closed))
      (stored_front d.files line line' n last is short_line same_line (last_stored t) (last_laid local_start n closed active are from).laid last_ends, tt)

  whole_consecutive : IsTrue d.is_observable → IsConsecutive local_start whole
  whole_consecutive t = consecutive_segments d.files line local_start (map extent_of segments) whole (stored_segments d.files line local_start segments are.chained (has.stored t))

  pub short_end : IsTrue d.is_observable → end_from local_start (all_batches d.files short) ≡ n
  short_end t =
      all_end d.files line' local_start short (cut_chained local_start n closed active are from) (short_stored t)
      ∙ chain_snoc local_start front (front_to n last) ∙ exact

  whole_parts : (t : IsTrue d.is_observable) → all_batches d.files short ++ ((up_to_prefix n (last_stored t).batches).0 ++ all_batches d.files later) ≡ whole
  whole_parts t =
      let fs = all_batches d.files front in
      let ks = batches_of d.files (front_to n last) in
      let rs = (up_to_prefix n (last_stored t).batches).0 in
      let ls = all_batches d.files later in
      let b : batches_of d.files last ≡ ks ++ rs = front_batches d.files line line' n last is short_line same_line (last_stored t) (last_laid local_start n closed active are from).laid last_ends in
      let w : whole ≡ fs ++ ((ks ++ rs) ++ ls) =
      ap (all_batches d.files) (parts local_start n closed active are from)
      ∙ all_append d.files front (last ∷ later)
      ∙ ap (λ (l : List (List ℕ)). fs ++ (l ++ ls)) b in
      let s : all_batches d.files short ≡ fs ++ ks = all_append d.files front (front_to n last ∷ []) ∙ ap (λ (l : List (List ℕ)). fs ++ l) (append-nil ks) in
      ap (λ (l : List (List ℕ)). l ++ (rs ++ ls)) s ∙ append_assoc fs ks (rs ++ ls) ∙ ap (λ (l : List (List ℕ)). fs ++ l) (sym (append_assoc ks rs ls)) ∙ sym w

  pub short_batches : IsTrue d.is_observable → all_batches d.files short ≡ up_to n whole
  short_batches t =
      sym (up_to_is local_start n (all_batches d.files short) whole (whole_consecutive t) ((up_to_prefix n (last_stored t).batches).0 ++ all_batches d.files later, whole_parts t) (short_end t))

  -- the manifest of the cut log, and how it is read
  abbrev pub manifest : Manifest
  manifest = manifest_of incarnation local_start front (front_to n last) line'

  abbrev pub opened : Opened
  opened = record { incarnation = incarnation; local_start = local_start; batches = up_to n whole; line = line' }

  pub short_reading : 1 ≤ incarnation → incarnation < 2 ^ 32 → manifest_in (manifest_bytes manifest) ≡ Ok manifest
  short_reading one fits = manifest_again manifest (rules_of incarnation local_start front (front_to n last) line' one short_are short_line) fits

  pub up_to_end : IsTrue d.is_observable → end_from local_start (up_to n whole) ≡ n
  up_to_end t = ap (λ (l : List (List ℕ)). end_from local_start l) (sym (short_batches t)) ∙ short_end t

  pub short_read : IsTrue d.is_observable → IsOpenedBy manifest d.files opened
  short_read t = record {
    incarnation = refl;
    local_start = refl;
    batches = subst (Segments d.files line' local_start (map extent_of short)) (short_batches t)
        (stored_segments d.files line' local_start short (cut_chained local_start n closed active are from) (short_stored t));
    line = sym (cut_within line' n (below_cut line n)) ∙ ap (λ (k : ℕ). cut_end line' (k + 1)) (sym (up_to_end t));
  }

-- what ends past a longer front is dropped by the shorter one too
pub up_to_up_to : (m n : ℕ) (bs : List (List ℕ)) → m ≤ n → up_to m (up_to n bs) ≡ up_to m bs
up_to_up_to m n [] le = refl
up_to_up_to m n (b ∷ bs) le = elim (cases_lt (last_of b) n) [
  | inl lt ↦ elim (cases_lt (last_of b) m) [
    | inl lt2 ↦ rw (lt-ltb (last_of b) n lt, lt-ltb (last_of b) m lt2) (ap (λ (l : List (List ℕ)). b ∷ l) (up_to_up_to m n bs le))
    | inr ge2 ↦ rw (lt-ltb (last_of b) n lt, le-ltb (last_of b) m ge2) refl
  ]
  | inr ge ↦ rw (le-ltb (last_of b) n ge, le-ltb (last_of b) m (omega (arith, ge, le))) refl
]
