-- What a plan of an opening says of a disk, and of one that can be opened.
use Rattle.std.proofs.Common.{◌≡◌, ◌⊎◌, ◌∙◌, ◌^◌, ap, sym, subst, refl, inl, inr, ℕ, ◌+◌, ◌<◌, ⊎_elim, Bool, true, false, List, [], ◌∷◌, ◌++◌, length, take, drop, map, Option, Some, None, Ok, IsTrue, arith}
use Rattle.std.specs.Prelude.{◌↔◌, IsSome, option_map}
use Rattle.std.proofs.lemmas.List.{length-take, length-take-le, take-take}
use Rattle.tier_base.specs.declared.plain.FileName.{FileName}
use Rattle.tier_base.specs.declared.plain.FileName.TheVariants as file
use Rattle.tier_base.specs.Device.{Fate, Went}
use Rattle.tier_base.specs.Told.{replaced, NamesAllHeld, In, bytes_in}
use Rattle.disk_model.specs.Content.{Content, Lawful, Files, Image, Keeps, Changes, LeavesOnly, Swapped}
use Rattle.log_manifest.specs.declared.manifest.Extent.{Extent}
use Rattle.log_manifest.specs.declared.manifest.Manifest.{Manifest}
use Rattle.log_manifest.specs.Rules.{IsManifest}
use Rattle.log_manifest.specs.Reading.{manifest_in}
use Rattle.log_manifest.specs.Spelling.{manifest_bytes}
use Rattle.log_manifest.proofs.Again.{manifest_again}
use Rattle.log_steps.specs.Fronts.{log_at, front, Each, Agrees}
use Rattle.log_steps.specs.Opens.{Opened, IsOpenedBy, OpensFrom, Opens, Segments, nothing}
use Rattle.log_steps.specs.Reopens.{Reopens, raised, Opening}
use Rattle.log_steps.specs.Rewrites.{Rewrites}
use Rattle.log_steps.proofs.Lists.{each_both, each_left, each_right}
use Rattle.log_steps.proofs.Reading.{opens_by, opened_by, segments_like, segments_moved, segments_whole}
use Rattle.log_steps.proofs.Opening.{reopens_kept, rewrite_leaves, rewrite_reopens, read_leaves, next_leaves, next_reopens}
use Rattle.local_log.specs.declared.opening.Plan.{Plan}
use Rattle.log_terms.specs.Log.{end_from}
use Rattle.segment_file.specs.Growing.{Grown}
use Rattle.local_log.specs.declared.refusal.OpenRefusal.{OpenRefusal}
use Rattle.local_log.specs.declared.refusal.OpenRefusal.TheVariants.{DiskFault, Damaged, LastIncarnation, NoMemory}
use Rattle.local_log.specs.Refusing.{IsSoundCause}
use Rattle.local_log.specs.Stored.{extent_of}
use Rattle.local_log.specs.Parsing.{ParsesFront}
use Rattle.local_log.specs.Opening.{SegmentFails, MissesIn, ReadFailsIn, OpenFailsIn, ListsFrom, Lists}
use Rattle.local_log.specs.Planning.{first_manifest, PlansFrom, IsPlan, IsPlanOf, FileFails}
use Rattle.local_log.proofs.OneReading.{read_one}

-- the same bytes as far as a segment goes have the same places without a batch
fails_front : (line : List (ℕ × ℕ)) (end : ℕ) (e : Extent) (x y : List ℕ) (name : FileName) (at : ℕ) → take e.len x ≡ take e.len y → SegmentFails line end e x (Damaged name at) → SegmentFails line end e y (Damaged name at)
fails_front line end e x y name at same fails = (
  fails.0,
  ⊎_elim (λ gap. inl gap) (λ h. inr (
    h.0,
    record {
      batches = h.1.batches;
      rest = h.1.rest;
      fronts = subst (λ (l : List ℕ). ParsesFront line e.base l h.1.batches h.1.rest) same h.1.fronts;
      place = h.1.place;
      short = h.1.short;
      nothing = h.1.nothing;
    },
  )) fails.1,
)

-- why no plan is made of the manifest's file
pub plan_fails : (f : Files) (held : Option (List ℕ)) (why : OpenRefusal) → f file.Manifest ≡ held → FileFails held why → OpenFailsIn f why
plan_fails f None DiskFault is fails = absurd fails
plan_fails f None (Damaged name at) is fails = absurd fails
plan_fails f None LastIncarnation is fails = absurd fails
plan_fails f None NoMemory is fails = tt
plan_fails f (Some bytes) DiskFault is fails = absurd fails
plan_fails f (Some bytes) (Damaged name at) is fails = inl (record { named = fails.0; bytes = bytes; there = is; none = fails.1 })
plan_fails f (Some bytes) LastIncarnation is fails = (fails.0, record { bytes = bytes; there = is; reading = fails.1 }, fails.2)
plan_fails f (Some bytes) NoMemory is fails = tt

-- the same files fail alike
pub fails_like : (c d : Files) (why : OpenRefusal) → ((n : FileName) → c n ≡ d n) → OpenFailsIn c why → OpenFailsIn d why
fails_like c d DiskFault same h = tt
fails_like c d (Damaged name at) same h =
    ⊎_elim
    (λ m. inl (record { named = m.named; bytes = m.bytes; there = sym (same file.Manifest) ∙ m.there; none = m.none }))
    (λ m. inr (
      m.0,
      record { bytes = m.1.bytes; there = sym (same file.Manifest) ∙ m.1.there; reading = m.1.reading },
      record {
        before = m.2.before;
        extent = m.2.extent;
        after = m.2.after;
        batches = m.2.batches;
        parts = m.2.parts;
        read = segments_like d c (λ n. sym (same n)) m.0.line m.0.local_start m.2.before m.2.batches m.2.read;
        fails = subst (λ (l : List ℕ). SegmentFails m.0.line (end_from m.0.local_start m.2.batches) m.2.extent l (Damaged name at)) (ap bytes_in (same (file.Log m.2.extent.base))) m.2.fails;
      },
    ))
    h
fails_like c d LastIncarnation same h = (h.0, record { bytes = h.1.bytes; there = sym (same file.Manifest) ∙ h.1.there; reading = h.1.reading }, h.2)
fails_like c d NoMemory same h = tt

-- a file that is read from its beginning
pub whole_held : (o p : Option (List ℕ)) → p ≡ option_map (drop 0) o → o ≡ p
whole_held None p is = sym is
whole_held (Some bytes) p is = sym is

-- what a disk reads opens as this
record Seen (d : Content) : Type 0 where
  opened : Opened
  opens : IsTrue d.is_observable → Opens d.files opened

seen : (d : Content) → Lawful d → Reopens d → Seen d
seen d laws reopens = go d.is_observable refl
  where
    go : (b : Bool) → d.is_observable ≡ b → Seen d
    go true is = let h = reopens.opens d.files (laws.reads is) in record { opened = h.0; opens = λ t. h.1 }
    go false is = record { opened = nothing; opens = λ t. absurd (cc (t, is)) }

-- a plan, after a call that changes no file
pub plan_kept : (d m : Content) (plan : Plan) → Keeps d m → IsPlanOf d plan → IsPlanOf m plan
plan_kept d m plan k p = record { held = p.held; is = p.is; told = λ t. k.files file.Manifest ∙ p.told (subst IsTrue k.is_observable t) }

pub names_kept : (d m : Content) (names : List FileName) → Keeps d m → (IsTrue d.is_observable → NamesAllHeld d.files names) → IsTrue m.is_observable → NamesAllHeld m.files names
names_kept d m names k named t =
    let n = named (subst IsTrue k.is_observable t) in
    record { are = λ f. subst (λ (o : Option (List ℕ)). IsSome o ↔ In f names) (sym (k.files f)) (n.are f); once = n.once }

-- the same of the files that were meant
pub rewrites_same : (now now' : List ℕ) (es es' : List Extent) (names names' : List FileName) (fate : Fate) (d d1 : Content) → now ≡ now' → es ≡ es' → names ≡ names'
    → Rewrites now es names fate d d1 → Rewrites now' es' names' fate d d1
rewrites_same now now' es es' names names' fate d d1 a b c r =
    subst (λ (l : List ℕ). Rewrites l es' names' fate d d1) a
    (subst (λ (l : List Extent). Rewrites now l names' fate d d1) b
    (subst (λ (l : List FileName). Rewrites now es l fate d d1) c r))

-- the manifest as it is written first
abbrev pub present_of : Plan → ℕ → Manifest
present_of plan number = record plan.manifest { incarnation = number }

-- the bytes of the next manifest say it
pub reading_next : (d : Content) (plan : Plan) → IsPlanOf d plan → manifest_in plan.next.items ≡ Ok plan.manifest
reading_next d plan p = ap manifest_in p.is.next_is ∙ manifest_again plan.manifest p.is.rules p.is.fits

-- a manifest of one empty segment at 0 is read so on any files
read_first : (f : Files) → IsOpenedBy first_manifest f (raised nothing)
read_first f = record {
  incarnation = refl;
  local_start = refl;
  batches = ([], [], refl, refl, record { long = omega arith; bytes = refl; placed = tt; consecutive = tt }, refl);
  line = refl;
}

module _ (d : Content) (plan : Plan) (p : IsPlanOf d plan) (told : IsTrue d.is_observable) where
  -- what is read by the next manifest opened before, under the incarnation before
  pub plan_was : (o : Opened) → IsOpenedBy plan.manifest d.files o → (x : Opened) × Opens d.files x × (o ≡ raised x)
  plan_was o r = go p.held (p.told told) p.is.from
    where
      go : (held : Option (List ℕ)) → d.files file.Manifest ≡ held → PlansFrom held plan → (x : Opened) × Opens d.files x × (o ≡ raised x)
      go None is from = (
        nothing,
        subst (λ (y : Option (List ℕ)). OpensFrom y d.files nothing) (sym is) refl,
        read_one d.files first_manifest o (raised nothing) (subst (λ (m : Manifest). IsOpenedBy m d.files o) from.1 r) (read_first d.files),
      )
      go (Some bytes) is from =
          let number = from.1.0 in
          let x : Opened = record { incarnation = number; local_start = o.local_start; batches = o.batches; line = o.line } in
          let reads : IsOpenedBy (present_of plan number) d.files x = record { incarnation = refl; local_start = r.local_start; batches = r.batches; line = r.line } in
          let under : ℕ → Opened = λ n. record { incarnation = n; local_start = o.local_start; batches = o.batches; line = o.line } in
          (x, opens_by d.files bytes (present_of plan number) x is from.1.1 reads, ap under (r.incarnation ∙ from.1.2))

  -- the segments that the next manifest lists are those of the files' manifest
  pub plan_lists : (segments : List Grown) → map extent_of segments ≡ plan.manifest.segments → Lists d.files segments
  plan_lists segments are = go p.held (p.told told) p.is.from
    where
      go : (held : Option (List ℕ)) → d.files file.Manifest ≡ held → PlansFrom held plan → Lists d.files segments
      go None is from = subst (λ (o : Option (List ℕ)). ListsFrom o (map extent_of segments)) (sym is) (are ∙ ap (λ (m : Manifest). m.segments) from.1)
      go (Some bytes) is from = subst (λ (o : Option (List ℕ)). ListsFrom o (map extent_of segments)) (sym is) (present_of plan from.1.0, from.1.1, are)

  -- what opens has the segments that the next manifest lists
  pub plan_segments : (o : Opened) → Opens d.files o → (batches : List (List ℕ)) × Segments d.files plan.manifest.line plan.manifest.local_start plan.manifest.segments batches
  plan_segments o opens = go p.held (p.told told) p.is.from
    where
      go : (held : Option (List ℕ)) → d.files file.Manifest ≡ held → PlansFrom held plan → (batches : List (List ℕ)) × Segments d.files plan.manifest.line plan.manifest.local_start plan.manifest.segments batches
      go None is from = (nothing.batches, subst (λ (m : Manifest). Segments d.files m.line m.local_start m.segments nothing.batches) (sym from.1) (read_first d.files).batches)
      go (Some bytes) is from = (o.batches, (opened_by d.files bytes (present_of plan from.1.0) o is from.1.1 opens).batches)

  -- and has them still when the files are cut
  module _ (names : List FileName) (fate : Fate) (went : fate ≡ Went) (d1 : Content) (rewrites : Rewrites plan.present plan.manifest.segments names fate d d1) where
    agrees_cut : Each (Agrees d.files d.files) plan.manifest.segments → Each (Agrees d1.files d.files) plan.manifest.segments
    agrees_cut whole =
        each_both
        (λ e is a. record {
          long = (let size = ap length is ∙ length-take-le e.len (log_at d.files e) a.long in omega (arith, size));
          same = ap (take e.len) is ∙ take-take e.len e.len (log_at d.files e) (omega arith);
        })
        plan.manifest.segments (rewrites.files went told) whole

    pub plan_reads : (o : Opened) → Opens d.files o → (batches : List (List ℕ)) × Segments d1.files plan.manifest.line plan.manifest.local_start plan.manifest.segments batches
    plan_reads o opens =
        let m = plan.manifest in
        let s = plan_segments o opens in
        let whole = segments_whole d.files m.line m.local_start m.segments s.0 s.1 in
        (s.0, segments_moved d1.files d.files m.line m.local_start m.segments s.0 (agrees_cut whole) s.1)

    -- what isn't read of the files that are cut wasn't in those before
    agrees_whole : (es : List Extent) → Each (λ e. log_at d1.files e ≡ front d.files e) es → Each (Agrees d1.files d1.files) es → Each (Agrees d.files d1.files) es
    agrees_whole es cut whole =
        each_both
        (λ e is a. record {
          long = (let size = ap length is ∙ length-take e.len (log_at d.files e) in let long = a.long in omega (arith, size, long));
          same = sym (ap (take e.len) is ∙ take-take e.len e.len (log_at d.files e) (omega arith));
        })
        es cut whole

    pub plan_misses : (why : OpenRefusal) → ReadFailsIn d1.files plan.manifest why
        → ((batches : List (List ℕ)) → Segments d1.files plan.manifest.line plan.manifest.local_start plan.manifest.segments batches → IsSoundCause why) → OpenFailsIn d.files why
    plan_misses DiskFault h sound = tt
    plan_misses (Damaged name at) h sound = go p.held (p.told told) p.is.from
      where
        cut : Each (λ e. log_at d1.files e ≡ front d.files e) (h.before ++ h.extent ∷ h.after)
        cut = subst (Each (λ e. log_at d1.files e ≡ front d.files e)) h.parts (rewrites.files went told)

        here : log_at d1.files h.extent ≡ front d.files h.extent
        here = (each_right (λ e. log_at d1.files e ≡ front d.files e) h.before (h.extent ∷ h.after) cut).0

        moved : (n : ℕ) → MissesIn d.files (present_of plan n) name at
        moved n = record {
          before = h.before;
          extent = h.extent;
          after = h.after;
          batches = h.batches;
          parts = h.parts;
          read = segments_moved d.files d1.files plan.manifest.line plan.manifest.local_start h.before h.batches
              (agrees_whole h.before (each_left (λ e. log_at d1.files e ≡ front d.files e) h.before (h.extent ∷ h.after) cut)
              (segments_whole d1.files plan.manifest.line plan.manifest.local_start h.before h.batches h.read)) h.read;
          fails = fails_front plan.manifest.line (end_from plan.manifest.local_start h.batches) h.extent (log_at d1.files h.extent) (log_at d.files h.extent) name at
              (ap (take h.extent.len) here ∙ take-take h.extent.len h.extent.len (log_at d.files h.extent) (omega arith)) h.fails;
        }

        go : (held : Option (List ℕ)) → d.files file.Manifest ≡ held → PlansFrom held plan → OpenFailsIn d.files (Damaged name at)
        go None is from = let s = plan_reads nothing (subst (λ (o : Option (List ℕ)). OpensFrom o d.files nothing) (sym is) refl) in absurd (sound s.0 s.1)
        go (Some bytes) is from = inr (present_of plan from.1.0, record { bytes = bytes; there = is; reading = from.1.1 }, moved from.1.0)
    plan_misses LastIncarnation h sound = absurd h
    plan_misses NoMemory h sound = tt

-- what reads, by both manifests
pub record Way (d : Content) (plan : Plan) : Type 0 where
  pub number : ℕ
  pub first : Opened
  pub now : Opened
  pub reading : manifest_in plan.present ≡ Ok (present_of plan number)
  pub opens : IsTrue d.is_observable → Opens d.files first
  pub reads : IsTrue d.is_observable → IsOpenedBy (present_of plan number) d.files now
  pub reads_next : IsTrue d.is_observable → IsOpenedBy plan.manifest d.files (raised first)
  pub first_is : (now ≡ first) ⊎ (now ≡ raised first)
  pub agree : IsTrue d.is_observable → (c : Files) → Image d c → Each (Agrees c d.files) plan.manifest.segments

module _ (d : Content) (laws : Lawful d) (reopens : Reopens d) (plan : Plan) where
  way_again : (bytes : List ℕ) → (IsTrue d.is_observable → d.files file.Manifest ≡ Some bytes) → plan.present ≡ bytes → (number : ℕ) → manifest_in bytes ≡ Ok (present_of plan number)
      → plan.manifest.incarnation ≡ number + 1 → Way d plan
  way_again bytes told present number reading next =
      let s = seen d laws reopens in
      let reads : IsTrue d.is_observable → IsOpenedBy (present_of plan number) d.files s.opened = λ t. opened_by d.files bytes (present_of plan number) s.opened (told t) reading (s.opens t) in
      record {
        number = number;
        first = s.opened;
        now = s.opened;
        reading = ap manifest_in present ∙ reading;
        opens = s.opens;
        reads = reads;
        reads_next = λ t. (let r = reads t in record { incarnation = ap (λ (n : ℕ). n + 1) r.incarnation ∙ sym next; local_start = r.local_start; batches = r.batches; line = r.line });
        first_is = inl refl;
        agree = λ t c image. reopens.fronts c d.files (present_of plan number) image (laws.reads t) (record { bytes = bytes; there = told t; reading = reading });
      }

  way_first : (IsTrue d.is_observable → d.files file.Manifest ≡ None) → plan.present ≡ plan.next.items → plan.manifest ≡ first_manifest → plan.next.items ≡ manifest_bytes plan.manifest
      → IsManifest plan.manifest → plan.manifest.incarnation < 2 ^ 32 → Way d plan
  way_first told present is next rules fits = record {
    number = 1;
    first = nothing;
    now = raised nothing;
    reading = ap manifest_in (present ∙ next) ∙ manifest_again plan.manifest rules fits ∙ ap (λ (m : Manifest). Ok m) (subst (λ (m : Manifest). m ≡ record m { incarnation = 1 }) (sym is) refl);
    opens = λ t. subst (λ (x : Option (List ℕ)). OpensFrom x d.files nothing) (sym (told t)) refl;
    reads = λ t. subst (λ (m : Manifest). IsOpenedBy (record m { incarnation = 1 }) d.files (raised nothing)) (sym is) (read_first d.files);
    reads_next = λ t. subst (λ (m : Manifest). IsOpenedBy m d.files (raised nothing)) (sym is) (read_first d.files);
    first_is = inr refl;
    agree = λ t c image. subst (λ (m : Manifest). Each (Agrees c d.files) m.segments) (sym is) (record { long = omega arith; same = refl }, tt);
  }

  pub way : IsPlanOf d plan → Way d plan
  way p = go p.held p.told p.is
    where
      go : (held : Option (List ℕ)) → (IsTrue d.is_observable → d.files file.Manifest ≡ held) → IsPlan held plan → Way d plan
      go None told is = way_first told is.from.0 is.from.1 is.next_is is.rules is.fits
      go (Some bytes) told is = way_again bytes told is.from.0 is.from.1.0 is.from.1.1 is.from.1.2

  module _ (p : IsPlanOf d plan) where
    abbrev w : Way d plan
    w = way p

    -- the manifest is written again, and the files are cut
    module _ (names : List FileName) (fate : Fate) (d1 : Content) (laws1 : Lawful d1) (rewrites : Rewrites plan.present plan.manifest.segments names fate d d1) where
      pub plan_rewritten : LeavesOnly d d1 (Opening d)
      plan_rewritten = rewrite_leaves d laws reopens plan.present plan.next.items (present_of plan w.number) plan.manifest w.now (raised w.first) w.first w.reading (reading_next d plan p) refl w.opens w.reads w.reads_next w.first_is refl w.agree names fate d1 laws1 rewrites

      pub plan_reopens : Reopens d1
      plan_reopens = rewrite_reopens d laws reopens plan.present plan.next.items (present_of plan w.number) plan.manifest w.now (raised w.first) w.first w.reading (reading_next d plan p) refl w.opens w.reads w.reads_next w.first_is refl w.agree names fate d1 laws1 rewrites

      module _ (went : fate ≡ Went) where
        -- they are read
        module _ (d2 : Content) (k : Keeps d1 d2) where
          pub plan_read : LeavesOnly d d2 (Opening d)
          plan_read = read_leaves d laws reopens plan.present plan.next.items (present_of plan w.number) plan.manifest w.now (raised w.first) w.first w.reading (reading_next d plan p) refl w.opens w.reads w.reads_next w.first_is refl w.agree names fate d1 laws1 rewrites went d2 k

          pub plan_reopens_read : Reopens d2
          plan_reopens_read = reopens_kept d1 d2 k plan_reopens

          -- the next manifest is written
          module _ (M : Bool → Type 0) (d3 : Content) (laws3 : Lawful d3) (change : Changes file.Manifest (replaced plan.next.items) (Swapped plan.next.items) M d2 d3) where
            pub plan_written : LeavesOnly d d3 (Opening d)
            plan_written = next_leaves d laws reopens plan.present plan.next.items (present_of plan w.number) plan.manifest w.now (raised w.first) w.first w.reading (reading_next d plan p) refl w.opens w.reads w.reads_next w.first_is refl w.agree names fate d1 laws1 rewrites went d2 k M d3 laws3 change

            pub plan_reopens_written : Reopens d3
            plan_reopens_written = next_reopens d laws reopens plan.present plan.next.items (present_of plan w.number) plan.manifest w.now (raised w.first) w.first w.reading (reading_next d plan p) refl w.opens w.reads w.reads_next w.first_is refl w.agree names fate d1 laws1 rewrites went d2 k M d3 laws3 change
