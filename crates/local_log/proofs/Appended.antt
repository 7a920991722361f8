-- The disk of a log after an append to its open segment, done or not.
use Rattle.std.proofs.Common.{◌≡◌, ◌≢◌, ◌^◌, ◌∙◌, ap, sym, subst, refl, inl, inr, ℕ, ◌+◌, ◌≤◌, Bool, true, cond, List, [], ◌∷◌, ◌++◌, length, map, Some, IsOk, IsTrue, arith, append_assoc, lt-ltb, le-ltb}
use Rattle.std.proofs.lemmas.List.{take_all, append-nil}
use Rattle.std.proofs.lemmas.Bool.{cases_lt}
use Rattle.tier_base.specs.declared.plain.FileName.TheVariants as file
use Rattle.tier_base.specs.Told.{bytes_in}
use Rattle.disk_model.specs.Content.{Content, Lawful, Changes, LeavesOnly, appended, HasGrown as MayGrow}
use Rattle.log_terms.specs.Batch.{base_of, last_of, epoch_of}
use Rattle.log_terms.specs.Log.{joined, IsConsecutive, end_from, up_to}
use Rattle.log_terms.specs.Line.{epoch_at}
use Rattle.log_terms.proofs.Logs.{end_above}
use Rattle.record_batch.specs.Check.{checked}
use Rattle.epoch_line.specs.Line.{IsLine, cut_end}
use Rattle.log_manifest.specs.Spelling.{manifest_bytes}
use Rattle.segment_file.specs.declared.placed.Placed.{Placed}
use Rattle.segment_file.specs.Index.{placed_from}
use Rattle.segment_file.specs.Growing.{Grown, size_after}
use Rattle.segment_file.proofs.Laying.{end_append}
use Rattle.log_steps.specs.Fronts.{Each}
use Rattle.log_steps.specs.Opens.{IsPlaced, IsOpenedBy}
use Rattle.log_steps.specs.Reopens.{Reopens}
use Rattle.log_steps.specs.Stands.{ImagesHold}
use Rattle.log_steps.proofs.Lists.{each_map, each_both, each_join, each_left, each_right}
use Rattle.log_steps.proofs.Moments.{leaves_weaker}
use Rattle.log_steps.proofs.Restored.{manifest_other, log_differs}
use Rattle.log_steps.proofs.Published.{undone_files}
use Rattle.log_steps.proofs.Standing.{append_stands, append_since, files_grown, grown_kept}
use Rattle.log_steps.proofs.Reading.{read_moved, segments_whole, stands_reopens}
use Rattle.local_log.specs.Stored.{bytes_of, pieces, batches_of, all_batches, size_of, end_of, extent_of, IsStored}
use Rattle.local_log.specs.Listing.{IsLaidOut, AreSegmentsOf}
use Rattle.local_log.specs.Inside.{DiskHasLog}
use Rattle.local_log.specs.Run.{lined}
use Rattle.local_log.specs.Taking.{grown_by}
use Rattle.local_log.proofs.Pieces.{joined_append, placed_append, size_placed, end_placed, stored_batches, stored_end, stored_same, all_append, all_each, all_kept, all_end, pieces_placed, chain_snoc, consecutive_append, consecutive_segments, stored_segments}
use Rattle.local_log.proofs.Lines.{cut_cut, placed_same}
use Rattle.local_log.proofs.Listed.{chain_up, bases_below, chained_last}
use Rattle.local_log.proofs.Listings.{listed_last, ending_more}
use Rattle.local_log.proofs.Lined.{IsLined}
use Rattle.local_log.proofs.Having.{OpensUpTo, held_up, reading, has_same}

-- what ends at or past an offset adds nothing below it
pub up_to_more : (m n : ℕ) (xs ys : List (List ℕ)) → IsConsecutive m (xs ++ ys) → n ≤ end_from m xs → up_to n (xs ++ ys) ≡ up_to n xs
up_to_more m n [] [] c le = refl
up_to_more m n [] (y ∷ ys) c le = rw (le-ltb (last_of y) n (omega (arith, le, c.0))) refl
up_to_more m n (x ∷ xs) ys c le = elim (cases_lt (last_of x) n) [
  | inl lt ↦ rw (lt-ltb (last_of x) n lt) (ap (λ (l : List (List ℕ)). x ∷ l) (up_to_more (last_of x + 1) n xs ys c.1 le))
  | inr ge ↦ rw (le-ltb (last_of x) n ge) refl
]

-- batches in one segment are near its base
pub all_placed : (line : List (ℕ × ℕ)) (base n : ℕ) (bs : List (List ℕ)) → IsConsecutive n bs → end_from n bs ≤ base + 2 ^ 31 → end_from n bs ≤ 2 ^ 62 → Each (λ (b : List ℕ). IsOk (checked b)) bs → Each (λ (b : List ℕ). epoch_at line (base_of b) ≡ Some (epoch_of b)) bs
    → Each (IsPlaced line base) bs
all_placed line base n [] c near low oks epochs = tt
all_placed line base n (b ∷ bs) c near low oks epochs =
    let up = end_above (last_of b + 1) bs c.1 in
    (record { is = oks.0; near = omega (arith, up, near); low = omega (arith, up, low); epoch = epochs.0 }, all_placed line base (last_of b + 1) bs c.1 near low oks.1 epochs.1)

module _ (d d' : Content) (laws : Lawful d) (laws' : Lawful d') (incarnation local_start : ℕ) (closed : List Grown) (active : Grown) (line : List (ℕ × ℕ)) (flushed_end : ℕ) (has : DiskHasLog d incarnation local_start closed active line flushed_end)
    (more : List ℕ) (M : Bool → Type 0) (change : Changes (file.Log active.base) (appended more) MayGrow M d d') where
  abbrev pub segments : List Grown
  segments = closed ++ active ∷ []

  abbrev pub bytes : List ℕ
  bytes = manifest_bytes has.listed

  told : IsTrue d'.is_observable → IsTrue d.is_observable
  told t = subst IsTrue change.is_observable t

  pub appended_since : LeavesOnly d d' (OpensUpTo incarnation local_start flushed_end (all_batches d.files segments) line)
  appended_since =
      leaves_weaker d d' _ _ (held_up d laws incarnation local_start closed active line flushed_end has)
      (append_since d d' laws laws' bytes has.listed.segments (map extent_of closed) has.images (file.Log active.base) (manifest_other active.base) more M change)

  stands : ImagesHold d' bytes has.listed.segments (map extent_of closed)
  stands = append_stands d d' laws laws' bytes has.listed.segments (map extent_of closed) has.images (file.Log active.base) (manifest_other active.base) more M change

  read : IsTrue d.is_observable → IsOpenedBy has.listed d'.files has.opened
  read t =
      let grown = files_grown d d' laws laws' bytes has.listed.segments (map extent_of closed) has.images (file.Log active.base) (manifest_other active.base) more M change t in
      let r = has.read t in
      read_moved d'.files d.files has.listed has.opened
      (each_map (λ e w. grown_kept (file.Log active.base) d.files d'.files grown e w.long) has.listed.segments (segments_whole d.files has.listed.line has.listed.local_start has.listed.segments has.opened.batches r.batches)) r

  pub appended_reopens : Reopens d'
  appended_reopens = stands_reopens d' laws' bytes has.listed (map extent_of closed) has.opened (reading d laws incarnation local_start closed active line flushed_end has) stands (λ t. read (told t))

  -- what memory knows of reads as before
  pub appended_kept : IsTrue d.is_observable → all_batches d'.files segments ≡ all_batches d.files segments
  appended_kept t =
      let grown = files_grown d d' laws laws' bytes has.listed.segments (map extent_of closed) has.images (file.Log active.base) (manifest_other active.base) more M change t in
      all_kept d.files d'.files line segments (grown_kept (file.Log active.base) d.files d'.files grown) (has.stored t)

  -- it wasn't done
  pub appended_dry : (M true → ⊥) → DiskHasLog d' incarnation local_start closed active line flushed_end
  appended_dry not =
      has_same d laws incarnation local_start closed active line flushed_end has d' laws' change.is_observable (change.undone not)
      (λ t. undone_files (file.Log active.base) (appended more) M d.files d'.files not (change.files t))

  -- it was done, and what was appended are batches
  module _ (done : (b : Bool) → M b → IsTrue b) (taken : List (List ℕ)) (is : more ≡ joined taken) (oks : Each (λ (b : List ℕ). IsOk (checked b)) taken) (follow : IsConsecutive (end_of active) taken)
      (are : AreSegmentsOf local_start closed active) (flushed_end_low : flushed_end ≤ end_of active)
      (is_line : IsLine line) (lined_is : IsLined line (lined line taken) (end_of active) taken)
      (laid : IsLaidOut (grown_by active taken)) (low : end_of (grown_by active taken) ≤ 2 ^ 62) where
    abbrev pub active' : Grown
    active' = grown_by active taken

    abbrev pub line' : List (ℕ × ℕ)
    line' = lined line taken

    written : IsTrue d.is_observable → d'.files (file.Log active.base) ≡ appended more (d.files (file.Log active.base))
    written t = let w = change.files t in w.2.there ∙ ap (λ (b : Bool). cond b (appended more (d.files (file.Log active.base))) (d.files (file.Log active.base))) (done w.0 w.1)

    bytes_now : IsTrue d.is_observable → bytes_of d'.files active' ≡ bytes_of d.files active ++ joined taken
    bytes_now t = ap bytes_in (written t) ∙ ap (λ (l : List ℕ). bytes_of d.files active ++ l) is

    other : IsTrue d.is_observable → (b : ℕ) → b ≢ active.base → d'.files (file.Log b) ≡ d.files (file.Log b)
    other t b ne = (change.files t).2.others (file.Log b) (log_differs b active.base ne)

    end_now : end_of active' ≡ end_from (end_of active) taken
    end_now = end_append active.base active.batches (placed_from (size_of active) taken) ∙ end_placed (end_of active) (size_of active) taken

    old_stored : IsTrue d.is_observable → IsStored d.files line active
    old_stored t = (each_right (IsStored d.files line) closed (active ∷ []) (has.stored t)).0

    -- the open segment
    module _ (t : IsTrue d.is_observable) where
      old_batches : List (List ℕ)
      old_batches = (old_stored t).batches

      old_end : end_of active ≡ end_from active.base (old_stored t).batches
      old_end = stored_end d.files line active (old_stored t)

      all_bytes : bytes_of d'.files active' ≡ joined ((old_stored t).batches ++ taken)
      all_bytes =
          let s = old_stored t in
          let whole : bytes_of d.files active ≡ joined s.batches = sym (take_all (size_of active) (bytes_of d.files active) (omega (arith, has.exact t))) ∙ s.stands.bytes in
          bytes_now t ∙ ap (λ (l : List ℕ). l ++ joined taken) whole ∙ sym (joined_append s.batches taken)

      all_are : active'.batches ≡ placed_from 0 ((old_stored t).batches ++ taken)
      all_are =
          let s = old_stored t in
          let size : size_of active ≡ 0 + length (joined s.batches) = ap (λ (l : List Placed). size_after 0 l) s.placed ∙ size_placed 0 s.batches in
          ap (λ (l : List Placed). l ++ placed_from (size_of active) taken) s.placed
          ∙ ap (λ (n : ℕ). placed_from 0 s.batches ++ placed_from n taken) size
          ∙ sym (placed_append 0 s.batches taken)

      size_all : size_of active' ≡ length (bytes_of d'.files active')
      size_all =
          let e = ap (λ (l : List Placed). size_after 0 l) all_are ∙ size_placed 0 ((old_stored t).batches ++ taken) in
          let f = ap length all_bytes in
          omega (arith, e, f)

      stored_now : IsStored d'.files line' active'
      stored_now =
          let s = old_stored t in
          record {
            batches = s.batches ++ taken;
            placed = all_are;
            stands = record {
              long = omega (arith, size_all);
              bytes = take_all (size_of active') (bytes_of d'.files active') (omega (arith, size_all)) ∙ all_bytes;
              placed = each_join (IsPlaced line' active.base) s.batches taken
                  (placed_same line line' active.base (end_of active) active.base s.batches is_line lined_is.is lined_is.same s.stands.consecutive (omega (arith, old_end)) s.stands.placed)
                  (all_placed line' active.base (end_of active) taken follow (let n = laid.near in omega (arith, n, end_now)) (omega (arith, low, end_now)) oks lined_is.epochs);
              consecutive = consecutive_append active.base s.batches taken s.stands.consecutive (subst (λ (n : ℕ). IsConsecutive n taken) old_end follow);
            };
          }

      batches_now : batches_of d'.files active' ≡ batches_of d.files active ++ taken
      batches_now =
          let bs = (old_stored t).batches in
          ap (λ (l : List Placed). pieces 0 l (bytes_of d'.files active')) all_are
          ∙ ap (λ (l : List ℕ). pieces 0 (placed_from 0 (bs ++ taken)) l) (all_bytes ∙ sym (append-nil (joined (bs ++ taken))))
          ∙ pieces_placed 0 (bs ++ taken) []
          ∙ ap (λ (l : List (List ℕ)). l ++ taken) (sym (stored_batches d.files line active (old_stored t)))

    -- the closed ones are as before
    closed_bytes : IsTrue d.is_observable → Each (λ (g : Grown). bytes_of d'.files g ≡ bytes_of d.files g) closed
    closed_bytes t = each_map (λ g lt. ap bytes_in (other t g.base (λ e. omega (arith, lt, e)))) closed (bases_below local_start closed active are.chained are.laid are.some)

    closed_batches : IsTrue d.is_observable → all_batches d'.files closed ≡ all_batches d.files closed
    closed_batches t = all_each d.files d'.files closed (closed_bytes t)

    closed_ends : Each (λ (g : Grown). end_of g ≤ end_of active) closed
    closed_ends =
        each_left (λ (g : Grown). end_of g ≤ end_of active) closed (active ∷ [])
        (subst (λ (n : ℕ). Each (λ (g : Grown). end_of g ≤ n) segments) (chain_snoc local_start closed active) (chain_up local_start segments are.chained (each_join IsLaidOut closed (active ∷ []) are.laid (are.active_laid, tt))))

    store_by : (g : Grown) → IsStored d.files line g → end_of g ≤ end_of active → IsStored d.files line' g
    store_by g s le = record {
      batches = s.batches;
      placed = s.placed;
      stands = record {
        long = s.stands.long;
        bytes = s.stands.bytes;
        placed = placed_same line line' g.base (end_of active) g.base s.batches is_line lined_is.is lined_is.same s.stands.consecutive (omega (arith, stored_end d.files line g s, le)) s.stands.placed;
        consecutive = s.stands.consecutive;
      };
    }

    closed_stored : IsTrue d.is_observable → Each (IsStored d'.files line') closed
    closed_stored t =
        each_both (λ g same s. stored_same d.files d'.files line' g same s) closed (closed_bytes t)
        (each_both (λ g s le. store_by g s le) closed (each_left (IsStored d.files line) closed (active ∷ []) (has.stored t)) closed_ends)

    all_consecutive : IsTrue d.is_observable → IsConsecutive local_start (all_batches d.files segments)
    all_consecutive t = consecutive_segments d.files line local_start (map extent_of segments) (all_batches d.files segments) (stored_segments d.files line local_start segments are.chained (has.stored t))

    all_ends : IsTrue d.is_observable → end_from local_start (all_batches d.files segments) ≡ end_of active
    all_ends t = all_end d.files line local_start segments are.chained (has.stored t) ∙ chain_snoc local_start closed active

    pub appended_batches : IsTrue d.is_observable → all_batches d'.files (closed ++ active' ∷ []) ≡ all_batches d.files segments ++ taken
    appended_batches t =
        all_append d'.files closed (active' ∷ [])
        ∙ ap (λ (l : List (List ℕ)). l ++ (batches_of d'.files active' ++ [])) (closed_batches t)
        ∙ ap (λ (l : List (List ℕ)). all_batches d.files closed ++ (l ++ [])) (batches_now t)
        ∙ ap (λ (l : List (List ℕ)). all_batches d.files closed ++ l) (append-nil (batches_of d.files active ++ taken))
        ∙ sym (append_assoc (all_batches d.files closed) (batches_of d.files active) taken)
        ∙ ap (λ (l : List (List ℕ)). (all_batches d.files closed ++ l) ++ taken) (sym (append-nil (batches_of d.files active)))
        ∙ ap (λ (l : List (List ℕ)). l ++ taken) (sym (all_append d.files closed (active ∷ [])))

    pub appended_are : AreSegmentsOf local_start closed active'
    appended_are = record {
      chained = chained_last local_start closed active active' refl are.chained;
      laid = are.laid;
      some = are.some;
      active_laid = laid;
      low = low;
      few = are.few;
    }

    flushed_end_same : IsTrue d.is_observable → up_to flushed_end (all_batches d'.files (closed ++ active' ∷ [])) ≡ up_to flushed_end (all_batches d.files segments)
    flushed_end_same t =
        ap (up_to flushed_end) (appended_batches t)
        ∙ up_to_more local_start flushed_end (all_batches d.files segments) taken
        (consecutive_append local_start (all_batches d.files segments) taken (all_consecutive t) (subst (λ (n : ℕ). IsConsecutive n taken) (sym (all_ends t)) follow))
        (omega (arith, flushed_end_low, all_ends t))

    pub appended_has : DiskHasLog d' incarnation local_start closed active' line' flushed_end
    appended_has = record {
      listed = has.listed;
      opened = has.opened;
      rules = has.rules;
      fits = has.fits;
      images = stands;
      read = λ t. read (told t);
      incarnation_is = has.incarnation_is;
      start_is = has.start_is;
      end_is = λ t. has.end_is (told t);
      batches_are = λ t. has.batches_are (told t) ∙ sym (flushed_end_same (told t));
      line_is =
          has.line_is
          ∙ sym (cut_cut line (end_of active) flushed_end flushed_end_low)
          ∙ ap (λ (l : List (ℕ × ℕ)). cut_end l flushed_end) (sym lined_is.same)
          ∙ cut_cut line' (end_of active) flushed_end flushed_end_low;
      stored = λ t. each_join (IsStored d'.files line') closed (active' ∷ []) (closed_stored (told t)) (stored_now (told t), tt);
      exact = λ t. sym (size_all (told t));
      lists = listed_last flushed_end has.listed.segments closed active active' refl (ap (λ (l : List Placed). extent_of (record active { batches = l })) (ending_more active.base 0 flushed_end active.batches (placed_from (size_of active) taken) laid.laid flushed_end_low)) has.lists;
      clear = λ t b unlisted. (
          let last = (each_right (λ (g : Grown). b ≢ g.base) closed (active' ∷ []) unlisted).0 in
          other (told t) b last
          ∙ has.clear (told t) b (each_join (λ (g : Grown). b ≢ g.base) closed (active ∷ []) (each_left (λ (g : Grown). b ≢ g.base) closed (active' ∷ []) unlisted) (last, tt))
          );
    }
