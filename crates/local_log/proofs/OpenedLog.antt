-- The log that an opening makes.
use Rattle.std.proofs.Common.{◌≡◌, ◌≢◌, ◌∙◌, ap, sym, subst, refl, inl, inr, ℕ, ◌+◌, ◌<◌, ◌≤◌, Bool, List, [], ◌∷◌, ◌++◌, length, map, Option, Some, None, IsTrue, arith, length-append, lt-ltb, le-ltb}
use Rattle.std.proofs.lemmas.Bool.{cases_lt}
use Rattle.std.specs.Prelude.{nat_lt}
use Rattle.std.proofs.lemmas.List.{length-map, map-append}
use Rattle.tier_base.specs.declared.plain.FileName.{FileName}
use Rattle.tier_base.specs.declared.plain.FileName.TheVariants as file
use Rattle.tier_base.specs.Device.{Fate, Went}
use Rattle.tier_base.specs.Told.{bytes_in, replaced, NamesAllHeld}
use Rattle.disk_model.specs.Content.{Content, Lawful, Files, Image, Keeps, Changes, Swapped}
use Rattle.log_terms.specs.Log.{end_from, up_to}
use Rattle.epoch_line.specs.Line.{IsLine, cut_end}
use Rattle.epoch_line.proofs.Parts.{IsLine-filter}
use Rattle.log_manifest.specs.declared.manifest.Extent.{Extent}
use Rattle.log_manifest.specs.declared.manifest.Manifest.{Manifest}
use Rattle.log_manifest.specs.Rules.{AreSegments}
use Rattle.segment_file.specs.Growing.{Grown}
use Rattle.log_steps.specs.Fronts.{log_at, Each, Agrees}
use Rattle.log_steps.specs.Opens.{IsOpenedBy, Segments}
use Rattle.log_steps.specs.Reopens.{Reopens}
use Rattle.log_steps.specs.Rewrites.{Rewrites, IsUnlisted}
use Rattle.log_steps.specs.Stands.{ImagesHold}
use Rattle.log_steps.proofs.Lists.{each_map, each_both, each_left, each_right}
use Rattle.log_steps.proofs.Reading.{read_moved, held_opens, opens_like, stands_reopens}
use Rattle.log_steps.proofs.Opening.{next_files, next_sizes, next_was, next_stands}
use Rattle.local_log.specs.declared.opening.Plan.{Plan}
use Rattle.local_log.specs.declared.opening.Parts.{Parts}
use Rattle.local_log.specs.Stored.{all_batches, size_of, end_of, extent_of, AreChained, chain_end, IsStored}
use Rattle.local_log.specs.Listing.{IsLaidOut, AreSegmentsOf, AreListed}
use Rattle.local_log.specs.Inside.{DiskHasLog}
use Rattle.local_log.specs.Opening.{ListsFrom}
use Rattle.local_log.specs.Planning.{IsPlanOf, AreSegmentsRead, IsLogOpened, whole_of}
use Rattle.local_log.proofs.Pieces.{stored_segments, consecutive_segments, all_end, chain_snoc, up_to_all, stored_same, stored_end}
use Rattle.local_log.proofs.Lines.{cut_cut, placed_same}
use Rattle.local_log.proofs.Listed.{chain_up}
use Rattle.local_log.proofs.Listings.{listed_all}
use Rattle.local_log.proofs.Planned.{reading_next, plan_was, plan_lists}

-- a segment by a line that is cut past the log's end
stored_cut : (f : Files) (line : List (ℕ × ℕ)) (n : ℕ) (g : Grown) → IsLine line → end_of g ≤ n → IsStored f line g → IsStored f (cut_end line (n + 1)) g
stored_cut f line n g is le s = record {
  batches = s.batches;
  placed = s.placed;
  stands = record {
    long = s.stands.long;
    bytes = s.stands.bytes;
    placed = placed_same line (cut_end line (n + 1)) g.base n g.base s.batches is (IsLine-filter (λ e. nat_lt e.1 (n + 1)) line is) (cut_cut line (n + 1) n (omega arith))
        s.stands.consecutive (let end = stored_end f line g s in omega (arith, end, le)) s.stands.placed;
    consecutive = s.stands.consecutive;
  };
}

-- the entries that are left start at or below the log's end
within_cut : (line : List (ℕ × ℕ)) (n : ℕ) → Each (λ (e : ℕ × ℕ). e.1 ≤ n) (cut_end line (n + 1))
within_cut [] n = tt
within_cut (e ∷ line) n = elim (cases_lt e.1 (n + 1)) [
  | inl lt ↦ subst (Each (λ (x : ℕ × ℕ). x.1 ≤ n)) (sym (kept e line (n + 1) lt)) (omega (arith, lt), within_cut line n)
  | inr ge ↦ subst (Each (λ (x : ℕ × ℕ). x.1 ≤ n)) (sym (dropped e line (n + 1) ge)) (within_cut line n)
]
  where
    kept : (e : ℕ × ℕ) (line : List (ℕ × ℕ)) (n : ℕ) → e.1 < n → cut_end (e ∷ line) n ≡ e ∷ cut_end line n
    kept e line n lt = rw (lt-ltb e.1 n lt) refl

    dropped : (e : ℕ × ℕ) (line : List (ℕ × ℕ)) (n : ℕ) → n ≤ e.1 → cut_end (e ∷ line) n ≡ cut_end line n
    dropped e line n le = rw (le-ltb e.1 n le) refl

-- all but the last segment of a manifest hold a batch
closed_some : (closed : List Grown) (active : Grown) → AreSegments (map extent_of (closed ++ active ∷ [])) → Each (λ g. 0 < size_of g) closed
closed_some [] active h = tt
closed_some (g ∷ []) active h = (h.1, tt)
closed_some (g ∷ k ∷ gs) active h = (h.1, closed_some (k ∷ gs) active h.3)

unlisted : (b : ℕ) (gs : List Grown) → Each (λ (g : Grown). b ≢ g.base) gs → IsUnlisted (map extent_of gs) b
unlisted b [] h = tt
unlisted b (g ∷ gs) h = (h.0, unlisted b gs h.1)

-- segments that are stored have whole fronts
all_long : (f : Files) (line : List (ℕ × ℕ)) (gs : List Grown) → Each (IsStored f line) gs → Each (λ (e : Extent). e.len ≤ length (log_at f e)) (map extent_of gs)
all_long f line [] h = tt
all_long f line (g ∷ gs) h = (h.0.stands.long, all_long f line gs h.1)

module _ (d : Content) (plan : Plan) (p : IsPlanOf d plan)
    (names : List FileName) (named : IsTrue d.is_observable → NamesAllHeld d.files names) (fate : Fate) (went : fate ≡ Went) (d1 : Content)
    (rewrites : Rewrites plan.present plan.manifest.segments names fate d d1) (d2 : Content) (k : Keeps d1 d2)
    (M : Bool → Type 0) (d3 : Content) (laws3 : Lawful d3) (change : Changes file.Manifest (replaced plan.next.items) (Swapped plan.next.items) M d2 d3)
    (sure : (c : Files) → Image d3 c → c file.Manifest ≡ Some plan.next.items)
    (interval : ℕ) (parts : Parts) (read : AreSegmentsRead d1 plan.manifest.line interval plan.manifest.local_start plan.manifest.segments (parts.closed.items ++ parts.active ∷ []))
    (incarnation_is : parts.incarnation ≡ plan.manifest.incarnation) (start_is : parts.local_start ≡ plan.manifest.local_start)
    (line_is : parts.line ≡ cut_end plan.manifest.line (end_of parts.active + 1)) where
  abbrev m : Manifest
  m = plan.manifest

  abbrev segments : List Grown
  segments = parts.closed.items ++ parts.active ∷ []

  abbrev end : ℕ
  end = end_of parts.active

  tells_is : d3.is_observable ≡ d.is_observable
  tells_is = change.is_observable ∙ k.is_observable ∙ rewrites.is_observable

  told : IsTrue d3.is_observable → IsTrue d.is_observable
  told t = subst IsTrue tells_is t

  told1 : IsTrue d3.is_observable → IsTrue d1.is_observable
  told1 t = subst IsTrue (change.is_observable ∙ k.is_observable) t

  -- each listed file was read whole
  whole : IsTrue d1.is_observable → Each (λ (e : Extent). e.len ≤ length (log_at d1.files e)) m.segments
  whole t = subst (Each (λ (e : Extent). e.len ≤ length (log_at d1.files e))) read.are (all_long d1.files m.line segments (read.stored t))

  -- the files after it
  same_files : IsTrue d.is_observable → (b : ℕ) → d3.files (file.Log b) ≡ d1.files (file.Log b)
  same_files = next_files d d1 d2 d3 laws3 plan.present plan.next.items m.segments names fate went rewrites k M change whole

  sizes : IsTrue d.is_observable → Each (λ e. length (log_at d3.files e) ≡ e.len) m.segments
  sizes = next_sizes d d1 d2 d3 laws3 plan.present plan.next.items m.segments names fate went rewrites k M change whole

  fronts_before : IsTrue d.is_observable → Each (Agrees d.files d3.files) m.segments
  fronts_before = next_was d d1 d2 d3 laws3 plan.present plan.next.items m.segments names fate went rewrites k M change whole

  stands : ImagesHold d3 plan.next.items m.segments (map extent_of parts.closed.items)
  stands =
      next_stands d d1 d2 d3 laws3 plan.present plan.next.items m.segments names fate went rewrites k M change whole
      sure (map extent_of parts.closed.items)
      (λ c a. each_left (Agrees c d3.files) (map extent_of parts.closed.items) (map extent_of (parts.active ∷ []))
      (subst (Each (Agrees c d3.files)) (sym read.are ∙ map-append extent_of parts.closed.items (parts.active ∷ [])) a))

  -- the segments after it
  end_is : chain_end m.local_start segments ≡ end
  end_is = chain_snoc m.local_start parts.closed.items parts.active

  ends : Each (λ g. end_of g ≤ end) segments
  ends = each_map (λ g le. omega (arith, le, end_is)) segments (chain_up m.local_start segments read.chained read.laid)

  stored_there : IsTrue d3.is_observable → Each (IsStored d3.files m.line) segments
  stored_there t = each_map (λ g s. stored_same d1.files d3.files m.line g (ap bytes_in (same_files (told t) g.base)) s) segments (read.stored (told1 t))

  stored_now : IsTrue d3.is_observable → Each (IsStored d3.files parts.line) segments
  stored_now t =
      subst (λ (l : List (ℕ × ℕ)). Each (IsStored d3.files l) segments) (sym line_is)
      (each_both (λ g le s. stored_cut d3.files m.line end g p.is.rules.line le s) segments ends (stored_there t))

  batches_there : IsTrue d3.is_observable → Segments d3.files m.line m.local_start m.segments (all_batches d3.files segments)
  batches_there t =
      subst (λ (es : List Extent). Segments d3.files m.line m.local_start es (all_batches d3.files segments)) read.are
      (stored_segments d3.files m.line m.local_start segments read.chained (stored_there t))

  end_there : IsTrue d3.is_observable → end_from parts.local_start (all_batches d3.files segments) ≡ end
  end_there t = ap (λ (n : ℕ). end_from n (all_batches d3.files segments)) start_is ∙ all_end d3.files m.line m.local_start segments read.chained (stored_there t) ∙ end_is

  read_now : IsTrue d3.is_observable → IsOpenedBy m d3.files (whole_of d3.files parts)
  read_now t = record {
    incarnation = incarnation_is;
    local_start = start_is;
    batches = batches_there t;
    line = line_is ∙ ap (λ (n : ℕ). cut_end m.line (n + 1)) (sym (end_there t));
  }

  up_to_end : IsTrue d3.is_observable → all_batches d3.files segments ≡ up_to end (all_batches d3.files segments)
  up_to_end t =
      let c = consecutive_segments d3.files m.line m.local_start m.segments (all_batches d3.files segments) (batches_there t) in
      sym (ap (λ (n : ℕ). up_to n (all_batches d3.files segments)) (sym (all_end d3.files m.line m.local_start segments read.chained (stored_there t) ∙ end_is))
      ∙ up_to_all m.local_start (all_batches d3.files segments) c)

  are_segments : AreSegmentsOf parts.local_start parts.closed.items parts.active
  are_segments = record {
    chained = subst (λ (n : ℕ). AreChained n segments) (sym start_is) read.chained;
    laid = each_left IsLaidOut parts.closed.items (parts.active ∷ []) read.laid;
    some = closed_some parts.closed.items parts.active (subst AreSegments (sym read.are) p.is.rules.segments);
    active_laid = (each_right IsLaidOut parts.closed.items (parts.active ∷ []) read.laid).0;
    low = (let low = read.low in omega (arith, end_is, low));
    few = (let size = ap length read.are in let few = p.is.rules.few in omega (arith, size, few, length-map segments extent_of, length-append parts.closed.items (parts.active ∷ [])));
  }

  -- no other segment's file
  clear_now : IsTrue d3.is_observable → (b : ℕ) → Each (λ (g : Grown). b ≢ g.base) segments → d3.files (file.Log b) ≡ None
  clear_now t b other = same_files (told t) b ∙ go (d.files (file.Log b)) refl
    where
      not_listed : IsUnlisted m.segments b
      not_listed = subst (λ (es : List Extent). IsUnlisted es b) read.are (unlisted b segments other)

      go : (o : Option (List ℕ)) → d.files (file.Log b) ≡ o → d1.files (file.Log b) ≡ None
      go None is = rewrites.absent went (told t) b not_listed is
      go (Some bytes) is = rewrites.gone went (told t) b not_listed (((named (told t)).are (file.Log b)).0 (cc (is)))

  pub opened_has : DiskHasLog d3 parts.incarnation parts.local_start parts.closed.items parts.active parts.line end
  opened_has = record {
    listed = m;
    opened = whole_of d3.files parts;
    rules = p.is.rules;
    fits = p.is.fits;
    images = subst (λ (l : List ℕ). ImagesHold d3 l m.segments (map extent_of parts.closed.items)) p.is.next_is stands;
    read = read_now;
    incarnation_is = refl;
    start_is = refl;
    end_is = end_there;
    batches_are = up_to_end;
    line_is = refl;
    lists = subst (λ (es : List Extent). AreListed end es segments) read.are (listed_all end segments read.laid ends);
    stored = stored_now;
    exact = λ t. (
        let all = subst (Each (λ (e : Extent). length (log_at d3.files e) ≡ e.len)) (sym read.are ∙ map-append extent_of parts.closed.items (parts.active ∷ [])) (sizes (told t)) in
        (each_right (λ (e : Extent). length (log_at d3.files e) ≡ e.len) (map extent_of parts.closed.items) (extent_of parts.active ∷ []) all).0
        );
    clear = clear_now;
  }

  pub opened_log : IsLogOpened d d3 interval parts
  opened_log = record {
    is_observable = tells_is;
    segments = are_segments;
    intervals = read.intervals;
    opened = (let one = p.is.rules.opened in omega (arith, one, incarnation_is));
    fits = (let fits = p.is.fits in omega (arith, fits, incarnation_is));
    line = subst IsLine (sym line_is) (IsLine-filter (λ e. nat_lt e.1 (end + 1)) m.line p.is.rules.line);
    line_within = subst (Each (λ (entry : ℕ × ℕ). entry.1 ≤ end)) (sym line_is) (within_cut m.line end);
    has = opened_has;
    lists = λ t. plan_lists d plan p t segments read.are;
    was = λ t. (let t3 = subst IsTrue (sym tells_is) t in plan_was d plan p t (whole_of d3.files parts) (read_moved d.files d3.files m (whole_of d3.files parts) (fronts_before t) (read_now t3)));
    durable = λ c now. held_opens c d3.files plan.next.items m (map extent_of parts.closed.items) (whole_of d3.files parts) (reading_next d plan p) (stands c now) (read_now (laws3.told c now));
  }

  -- it can be opened again
  pub opened_again : Reopens d3
  opened_again = stands_reopens d3 laws3 plan.next.items m (map extent_of parts.closed.items) (whole_of d3.files parts) (reading_next d plan p) stands read_now

-- of the disk before a call that changed no file
pub opened_kept : (d m d' : Content) (interval : ℕ) (parts : Parts) → Keeps d m → IsLogOpened m d' interval parts → IsLogOpened d d' interval parts
opened_kept d m d' interval parts k o = record {
  is_observable = o.is_observable ∙ k.is_observable;
  segments = o.segments;
  intervals = o.intervals;
  opened = o.opened;
  fits = o.fits;
  line = o.line;
  line_within = o.line_within;
  has = o.has;
  lists = λ t. subst (λ (x : Option (List ℕ)). ListsFrom x (map extent_of (parts.closed.items ++ parts.active ∷ []))) (k.files file.Manifest) (o.lists (subst IsTrue (sym k.is_observable) t));
  was = λ t. (let w = o.was (subst IsTrue (sym k.is_observable) t) in (w.0, opens_like d.files m.files w.0 (λ n. sym (k.files n)) w.1, w.2));
  durable = o.durable;
}
