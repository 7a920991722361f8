-- Segments that are read from their files, one after another.
use Rattle.std.proofs.Common.{◌≡◌, ◌≢◌, ◌∙◌, ◌^◌, ap, sym, subst, refl, inl, inr, ⊎_elim, ℕ, ◌<◌, ◌≤◌, List, [], ◌∷◌, ◌++◌, length, take, drop, Option, Some, None, IsTrue, arith, append_assoc}
use Rattle.std.specs.Prelude.{option_map}
use Rattle.std.proofs.lemmas.List.{map-append}
use Rattle.tier_base.specs.declared.plain.FileName.TheVariants as file
use Rattle.tier_base.specs.Told.{bytes_in}
use Rattle.disk_model.specs.Content.{Content, Files, Keeps}
use Rattle.log_manifest.specs.declared.manifest.Extent.{Extent}
use Rattle.log_manifest.specs.declared.manifest.Manifest.{Manifest}
use Rattle.log_manifest.specs.Rules.{IsManifest, BeginsAt, AreSegments}
use Rattle.segment_file.specs.Growing.{Grown}
use Rattle.log_steps.specs.Fronts.{Each, log_at, Rising}
use Rattle.log_steps.specs.Opens.{Segment, Segments}
use Rattle.log_steps.proofs.Lists.{each_join}
use Rattle.local_log.specs.declared.refusal.OpenRefusal.{OpenRefusal}
use Rattle.local_log.specs.declared.refusal.OpenRefusal.TheVariants.{DiskFault, Damaged, LastIncarnation, NoMemory}
use Rattle.local_log.specs.Refusing.{IsSoundCause}
use Rattle.local_log.specs.Stored.{end_of, extent_of, all_batches, chain_end, IsStored}
use Rattle.local_log.specs.Listing.{IsLaidOut}
use Rattle.local_log.specs.Parsing.{IsParsed, ParseFails}
use Rattle.local_log.specs.Opening.{SegmentFails, ReadsTo, ReadFails, ReadFailsIn}
use Rattle.local_log.specs.Planning.{AreSegmentsRead, LastRead, IsSegmentRead}
use Rattle.local_log.proofs.Pieces.{chained_snoc, chain_snoc, stored_same, stored_segments, all_end}
use Rattle.local_log.proofs.Parsed.{parsed_extent, parsed_end, parsed_laid, parsed_low, parsed_stored}
use Rattle.local_log.proofs.OneReading.{no_miss, segments_next}

-- a read from the beginning gives all bytes
pub whole_file : (o p : Option (List ℕ)) → p ≡ option_map (drop 0) o → bytes_in p ≡ bytes_in o
whole_file None p is = ap bytes_in is
whole_file (Some bytes) p is = ap bytes_in is

pub read_of : (d : Content) (line : List (ℕ × ℕ)) (interval end : ℕ) (e : Extent) (bytes : List ℕ) (segment : Grown) → e.base ≤ 2 ^ 62 → e.len < 2 ^ 31 → e.base ≡ end
    → (IsTrue d.is_observable → bytes ≡ log_at d.files e) → IsParsed line interval e bytes segment → IsSegmentRead d line interval end e segment
read_of d line interval end e bytes segment low small begins told p = record {
  begins = begins;
  is = parsed_extent line interval e bytes segment p;
  laid = parsed_laid line interval e bytes segment p small;
  interval_is = ap (λ (g : Grown). g.interval) p.segment_is;
  low = parsed_low line interval e bytes segment p low;
  stored = λ t. parsed_stored line interval e bytes segment p d.files (told t);
}

-- where the file has the batches, bytes of it aren't the cause
pub parse_sound : (f : Files) (line : List (ℕ × ℕ)) (e : Extent) (bytes : List ℕ) (batches : List (List ℕ)) (why : OpenRefusal) → ParseFails line e bytes why → bytes ≡ log_at f e
    → Segment f line e batches → IsSoundCause why
parse_sound f line e bytes batches DiskFault fails is s = tt
parse_sound f line e bytes batches (Damaged name at) fails is s = no_miss f line e batches bytes at s is fails.1
parse_sound f line e bytes batches LastIncarnation fails is s = tt
parse_sound f line e bytes batches NoMemory fails is s = tt

-- the same files after a call that changes none
module _ (d m : Content) (k : Keeps d m) where
  pub same_bytes : (b : ℕ) → bytes_in (m.files (file.Log b)) ≡ bytes_in (d.files (file.Log b))
  same_bytes b = ap bytes_in (k.files (file.Log b))

  pub segment_kept : (line : List (ℕ × ℕ)) (e : Extent) (batches : List (List ℕ)) → Segment d.files line e batches → Segment m.files line e batches
  segment_kept line e batches s = record {
    long = subst (λ (l : List ℕ). e.len ≤ length l) (sym (same_bytes e.base)) s.long;
    bytes = ap (take e.len) (same_bytes e.base) ∙ s.bytes;
    placed = s.placed;
    consecutive = s.consecutive;
  }

  pub read_back : (line : List (ℕ × ℕ)) (interval end : ℕ) (e : Extent) (segment : Grown) → IsSegmentRead m line interval end e segment → IsSegmentRead d line interval end e segment
  read_back line interval end e segment r = record {
    begins = r.begins;
    is = r.is;
    laid = r.laid;
    interval_is = r.interval_is;
    low = r.low;
    stored = λ t. stored_same m.files d.files line segment (sym (same_bytes segment.base)) (r.stored (subst IsTrue (sym k.is_observable) t));
  }

-- what a manifest lists is as low and as small as segments are
pub segments_fit : (es : List Extent) → AreSegments es → Each (λ (e : Extent). (e.base ≤ 2 ^ 62) × (e.len < 2 ^ 31)) es
segments_fit [] h = tt
segments_fit (e ∷ []) h = (h, tt)
segments_fit (e ∷ f ∷ es) h =
    let rest = segments_fit (f ∷ es) h.3 in
    ((omega (arith, h.0, rest.0.0), h.2), rest)

pub segments_rise : (es : List Extent) → AreSegments es → Rising es
segments_rise [] h = tt
segments_rise (e ∷ []) h = tt
segments_rise (e ∷ f ∷ es) h = (h.0, segments_rise (f ∷ es) h.3)

pub start_low : (m : Manifest) → IsManifest m → m.local_start ≤ 2 ^ 62
start_low m rules = go m.segments rules.begins (segments_fit m.segments rules.segments)
  where
    go : (es : List Extent) → BeginsAt m.local_start es → Each (λ (e : Extent). (e.base ≤ 2 ^ 62) × (e.len < 2 ^ 31)) es → m.local_start ≤ 2 ^ 62
    go [] h fit = absurd h
    go (e ∷ es) h fit = omega (arith, h, fit.0.0)

-- no segment yet
pub none_read : (d : Content) (line : List (ℕ × ℕ)) (interval start : ℕ) → start ≤ 2 ^ 62 → AreSegmentsRead d line interval start [] []
none_read d line interval start low = record { are = refl; chained = tt; laid = tt; intervals = tt; low = low; stored = λ t. tt }

module _ (d : Content) (line : List (ℕ × ℕ)) (interval start : ℕ) (done : List Extent) (segments : List Grown) (r : AreSegmentsRead d line interval start done segments) (e : Extent) where
  -- a segment more
  pub more_read : (segment : Grown) → IsSegmentRead d line interval (chain_end start segments) e segment → AreSegmentsRead d line interval start (done ++ e ∷ []) (segments ++ segment ∷ [])
  more_read segment s = record {
    are = map-append extent_of segments (segment ∷ []) ∙ ap (λ (l : List Extent). l ++ extent_of segment ∷ []) r.are ∙ ap (λ (x : Extent). done ++ x ∷ []) s.is;
    chained = chained_snoc start segments segment r.chained (ap (λ (x : Extent). x.base) s.is ∙ s.begins);
    laid = each_join IsLaidOut segments (segment ∷ []) r.laid (s.laid, tt);
    intervals = each_join (λ (g : Grown). g.interval ≡ interval) segments (segment ∷ []) r.intervals (s.interval_is, tt);
    low = (let end = chain_snoc start segments segment in omega (arith, end, s.low));
    stored = λ t. each_join (IsStored d.files line) segments (segment ∷ []) (r.stored t) (s.stored t, tt);
  }

  -- where the files have all batches it is there
  pub next_stands : IsTrue d.is_observable → (rest : List Extent) (batches : List (List ℕ)) → Segments d.files line start (done ++ e ∷ rest) batches
      → (e.base ≡ chain_end start segments) × ((here : List (List ℕ)) × Segment d.files line e here)
  next_stands t rest batches s =
      segments_next d.files line start segments e rest batches r.chained (r.stored t) (subst (λ (x : List Extent). Segments d.files line start (x ++ e ∷ rest) batches) (sym r.are) s)

  -- where it isn't read, this is the first place of the manifest's segments that is invalid
  pub read_fails_in : (m : Manifest) (f : Files) (rest : List Extent) (why : OpenRefusal) → m.line ≡ line → m.local_start ≡ start → m.segments ≡ done ++ e ∷ rest → IsTrue d.is_observable → bytes_in (f (file.Log e.base)) ≡ log_at d.files e
      → SegmentFails line (chain_end start segments) e (log_at f e) why → ReadFailsIn d.files m why
  read_fails_in m f rest DiskFault lines starts parts t same fails = tt
  read_fails_in m f rest (Damaged name at) lines starts parts t same fails = record {
    before = done;
    extent = e;
    after = rest;
    batches = all_batches d.files segments;
    parts = parts;
    read = rw (lines, starts) (subst (λ (es : List Extent). Segments d.files line start es (all_batches d.files segments)) r.are (stored_segments d.files line start segments r.chained (r.stored t)));
    fails = rw (lines, starts) (subst (λ (n : ℕ). SegmentFails line n e (log_at d.files e) (Damaged name at)) (sym (all_end d.files line start segments r.chained (r.stored t)))
        (subst (λ (l : List ℕ). SegmentFails line (chain_end start segments) e l (Damaged name at)) same fails));
  }
  read_fails_in m f rest LastIncarnation lines starts parts t same fails = absurd fails
  read_fails_in m f rest NoMemory lines starts parts t same fails = tt

-- what isn't read as a segment
pub parse_fails : (line : List (ℕ × ℕ)) (end : ℕ) (e : Extent) (bytes : List ℕ) (why : OpenRefusal) → e.base ≡ end → ParseFails line e bytes why → SegmentFails line end e bytes why
parse_fails line end e bytes DiskFault is fails = absurd fails
parse_fails line end e bytes (Damaged name at) is fails = (fails.0, inr (is, fails.1))
parse_fails line end e bytes LastIncarnation is fails = absurd fails
parse_fails line end e bytes NoMemory is fails = tt

-- what was returned of a segment that was read
pub reads_to : (line : List (ℕ × ℕ)) (interval : ℕ) (e : Extent) (bytes : List ℕ) (segment : Grown) → IsParsed line interval e bytes segment → ReadsTo line e bytes (end_of segment)
reads_to line interval e bytes segment p = record { batches = p.batches; fronts = p.fronts; long = p.long; end_is = parsed_end line interval e bytes segment p }

-- a segment isn't read, after those that were
pub not_read : (m : Manifest) (done : List Extent) (e : Extent) (rest : List Extent) (end : ℕ) (before last_read : List ℕ) (why : OpenRefusal) → IsManifest m → m.segments ≡ done ++ e ∷ rest
    → LastRead m.line m.local_start done end before → (e.base ≢ end → last_read ≡ before) → SegmentFails m.line end e last_read why → ReadFails m last_read why
not_read m done e rest end before last_read DiskFault rules parts last early fails = tt
not_read m done e rest end before last_read (Damaged name at) rules parts last early fails = ⊎_elim gap (λ misses. inl (record { before = done; extent = e; after = rest; parts = parts; named = fails.0; misses = misses.1 })) fails.1
  where
    none : (e.base ≢ end) × (at ≡ 0) → (done ≡ []) × (end ≡ m.local_start) → ReadFails m last_read (Damaged name at)
    none x y =
        let all : m.segments ≡ e ∷ rest = parts ∙ ap (λ (l : List Extent). l ++ e ∷ rest) y.0 in
        let begins = subst (BeginsAt m.local_start) all rules.begins in
        absurd (x.0 (begins ∙ sym y.1))

    some : (e.base ≢ end) × (at ≡ 0) → (front : List Extent) × (f : Extent) × (done ≡ front ++ f ∷ []) × ReadsTo m.line f before end → ReadFails m last_read (Damaged name at)
    some x y = inr (record {
      before = y.0;
      extent = y.1;
      next = e;
      after = rest;
      parts = parts ∙ ap (λ (l : List Extent). l ++ e ∷ rest) y.2 ∙ append_assoc y.0 (y.1 ∷ []) (e ∷ rest);
      named = fails.0;
      end = end;
      reads = subst (λ (l : List ℕ). ReadsTo m.line y.1 l end) (sym (early x.0)) y.3;
      apart = x.0;
      place = x.1;
    })

    gap : (e.base ≢ end) × (at ≡ 0) → ReadFails m last_read (Damaged name at)
    gap x = ⊎_elim (none x) (some x) last
not_read m done e rest end before last_read LastIncarnation rules parts last early fails = absurd fails
not_read m done e rest end before last_read NoMemory rules parts last early fails = tt
