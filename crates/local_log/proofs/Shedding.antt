-- The files after an end of a log at or past the flushed one are removed, and the last one is cut to it. No image opens
-- otherwise than before.
use Rattle.std.proofs.Common.{◌≡◌, ◌≢◌, ◌⊎◌, ℕ, ◌≤◌, ◌<◌, List, [], ◌∷◌, ◌++◌, length, take, map, Option, Some, None, refl, sym, ◌∙◌, ap, subst, inl, inr, ⊎_elim, arith, IsTrue}
use Rattle.std.proofs.lemmas.List.{map-append, take-take, take_all, length-take-le}
use Rattle.tier_base.specs.declared.plain.FileName.{FileName}
use Rattle.tier_base.specs.declared.plain.FileName.TheVariants as file
use Rattle.tier_base.specs.Device.{Fate, Went}
use Rattle.disk_model.proofs.Names.{cases_name}
use Rattle.tier_base.specs.Told.{In, bytes_in}
use Rattle.disk_model.specs.Content.{Content, Lawful, Files, Image, LeavesOnly, CutBack, cut_to}
use Rattle.log_terms.specs.Log.{up_to}
use Rattle.epoch_line.specs.Line.{IsLine, cut_end}
use Rattle.log_manifest.specs.declared.manifest.Extent.{Extent}
use Rattle.log_manifest.specs.Spelling.{manifest_bytes}
use Rattle.segment_file.specs.Growing.{Grown, AreBatchesLaid}
use Rattle.log_steps.specs.Fronts.{Each, Agrees, KeepsFront}
use Rattle.log_steps.specs.Reopens.{Reopens}
use Rattle.log_steps.proofs.Lists.{each_map, each_both, each_join, each_left, each_right}
use Rattle.log_steps.proofs.Moments.{leaves_weaker}
use Rattle.log_steps.proofs.Restored.{kept_same, cut_agrees, manifest_other, log_differs}
use Rattle.log_steps.proofs.Standing.{agrees_then, both_agree}
use Rattle.log_steps.proofs.Reading.{opens_as, opened_by, read_moved, reopens_two}
use Rattle.local_log.specs.Stored.{bytes_of, batches_of, all_batches, size_of, end_of, extent_of, IsStored}
use Rattle.local_log.specs.Listing.{AreSegmentsOf, AreListed, front_to}
use Rattle.local_log.specs.Inside.{DiskHasLog}
use Rattle.local_log.specs.Cutting.{closed_by, open_by, behind, cut_point, names_of, OpensAs, Trimmed, Trims}
use Rattle.local_log.proofs.Pieces.{stored_batches}
use Rattle.local_log.proofs.Lines.{cut_cut}
use Rattle.local_log.proofs.Parting.{parts, closed_front, front_less, ending_ending, front_below, last_low, last_laid, later_high}
use Rattle.local_log.proofs.Having.{reading}
use Rattle.local_log.proofs.Shortened.{short_stored, short_batches, up_to_up_to}
use Rattle.local_log.proofs.Settled.{agrees_none}

-- a front that the removals and the cut leave
abbrev pub IsSafe : ℕ → ℕ → Extent → Type 0
IsSafe base len e = (e.len ≡ 0) ⊎ ((e.base < base) ⊎ ((e.base ≡ base) × (e.len ≤ len)))

none_listed : (flushed_end n base len : ℕ) (es : List Extent) (later : List Grown) → flushed_end ≤ n → Each (λ g. n < g.base) later → AreListed flushed_end es later → Each (IsSafe base len) es
none_listed flushed_end n base len [] later up high l = tt
none_listed flushed_end n base len (e ∷ es) [] up high l = absurd l
none_listed flushed_end n base len (e ∷ es) (g ∷ later) up high l = absurd (omega (arith, up, high.0, l.0))

listed_safe : (flushed_end n : ℕ) (es : List Extent) (front : List Grown) (last : Grown) (later : List Grown) → AreBatchesLaid last.base 0 last.batches → flushed_end ≤ n → Each (λ g. g.base < last.base) front → Each (λ g. n < g.base) later
    → AreListed flushed_end es (front ++ last ∷ later) → Each (IsSafe last.base (size_of (front_to n last))) es
listed_safe flushed_end n [] front last later laid up below high l = tt
listed_safe flushed_end n (e ∷ es) [] last later laid up below high l = (
  inr (inr (ap (λ (x : Extent). x.base) l.1, (let len = ap (λ (x : Extent). x.len) l.1 in let less = front_less flushed_end n last laid up in omega (arith, len, less)))),
  none_listed flushed_end n last.base (size_of (front_to n last)) es later up high l.2,
)
listed_safe flushed_end n (e ∷ es) (g ∷ front) last later laid up below high l = (
  inr (inl (let base = ap (λ (x : Extent). x.base) l.1 in omega (arith, base, below.0))),
  listed_safe flushed_end n es front last later laid up below.1 high l.2,
)

-- the files of segments that begin past an offset
in_names : (name : FileName) (n : ℕ) (gs : List Grown) → Each (λ g. n < g.base) gs → In name (names_of gs) → (b : ℕ) × (name ≡ file.Log b) × (n < b)
in_names name n [] high named = absurd named
in_names name n (g ∷ gs) high (inl is) = (g.base, is, high.0)
in_names name n (g ∷ gs) high (inr rest) = in_names name n gs high.1 rest

pub in_or_out : (b : ℕ) (gs : List Grown) → In (file.Log b) (names_of gs) ⊎ Each (λ (g : Grown). b ≢ g.base) gs
in_or_out b [] = inr tt
in_or_out b (g ∷ gs) = elim (cases_name (file.Log b) (file.Log g.base)) [
  | inl is ↦ inl (inl is)
  | inr ne ↦ ⊎_elim (λ named. inl (inr named)) (λ out. inr (λ e. ne (ap file.Log e), out)) (in_or_out b gs)
]

-- the last segment isn't after the cut
pub last_apart : (base n : ℕ) (later : List Grown) → base ≤ n → Each (λ g. n < g.base) later → In (file.Log base) (names_of later) → ⊥
last_apart base n later le high named =
    let h = in_names (file.Log base) n later high named in
    let same : base ≡ h.0 = cc (h.1) in
    omega (arith, le, h.2, same)

module _ (base len n : ℕ) (later : List Grown) (le : base ≤ n) (high : Each (λ g. n < g.base) later) (x c : Files) (t : Trimmed (names_of later) base len x c) where
  pub trimmed_manifest : c file.Manifest ≡ x file.Manifest
  trimmed_manifest = ⊎_elim (λ same. same) (λ none. (let h = in_names file.Manifest n later high none.0 in let ne = manifest_other h.0 in absurd (ne h.1))) (t.others file.Manifest (manifest_other base))

  pub trimmed_kept : (e : Extent) → IsSafe base len e → KeepsFront x c e
  trimmed_kept e safe long = elim (cases_name (file.Log e.base) (file.Log base)) [
    | inl same ↦ (
        let is : e.base ≡ base = cc in
        let fits : e.len ≤ len = ⊎_elim (λ z. omega (arith, z)) (λ h. ⊎_elim (λ lt. absurd (omega (arith, lt, is))) (λ k. k.1) h) safe in
        cut_agrees (record { base = base; len = len }) e x c is fits (subst (λ (k : FileName). CutBack len (x k) (c k)) (sym same) t.last) long
        )
    | inr other ↦ ⊎_elim
        (λ same. kept_same x c e same long)
        (λ none. (
        let h = in_names (file.Log e.base) n later high none.0 in
        let is : e.base ≡ h.0 = cc (h.1) in
        let past = h.2 in
        agrees_none c x e (⊎_elim (λ z. z) (λ k. ⊎_elim (λ lt. absurd (omega (arith, lt, is, past, le))) (λ k. absurd (omega (arith, k.0, is, past, le))) k) safe)
        ))
        (t.others (file.Log e.base) other)
  ]

pub each_mapped : {X Y : Type 0} (P : Y → Type 0) (f : X → Y) (xs : List X) → Each (λ x. P (f x)) xs → Each P (map f xs)
each_mapped P f [] h = tt
each_mapped P f (x ∷ xs) h = (h.0, each_mapped P f xs h.1)

pub cut_bytes : (len : ℕ) (o : Option (List ℕ)) → bytes_in (cut_to len o) ≡ take len (bytes_in o)
cut_bytes len None = sym (take_all len [] (omega arith))
cut_bytes len (Some bytes) = refl

-- what has the fronts has the batches
pub moved_stored : (f h : Files) (line : List (ℕ × ℕ)) (g : Grown) → IsStored f line g → Agrees h f (extent_of g) → IsStored h line g
moved_stored f h line g s a = record {
  batches = s.batches;
  placed = s.placed;
  stands = record { long = a.long; bytes = a.same ∙ s.stands.bytes; placed = s.stands.placed; consecutive = s.stands.consecutive };
}

pub moved_all : (f h : Files) (line : List (ℕ × ℕ)) (gs : List Grown) → Each (IsStored f line) gs → Each (Agrees h f) (map extent_of gs) → Each (IsStored h line) gs
moved_all f h line [] s a = tt
moved_all f h line (g ∷ gs) s a = (moved_stored f h line g s.0 a.0, moved_all f h line gs s.1 a.1)

pub moved_batches : (f h : Files) (line : List (ℕ × ℕ)) (gs : List Grown) → Each (IsStored f line) gs → Each (Agrees h f) (map extent_of gs) → all_batches h gs ≡ all_batches f gs
unfolding moved_stored
moved_batches f h line [] s a = refl
moved_batches f h line (g ∷ gs) s a =
    ap (λ (l : List (List ℕ)). l ++ all_batches h gs) (stored_batches h line g (moved_stored f h line g s.0 a.0) ∙ sym (stored_batches f line g s.0))
    ∙ ap (λ (l : List (List ℕ)). batches_of f g ++ l) (moved_batches f h line gs s.1 a.1)

-- the flushed part is listed of what is left
listed_short : (flushed_end n : ℕ) (es : List Extent) (front : List Grown) (last : Grown) (later : List Grown) → flushed_end ≤ n → Each (λ g. n < g.base) later → AreListed flushed_end es (front ++ last ∷ later) → AreListed flushed_end es (front ++ front_to n last ∷ [])
listed_short flushed_end n [] front last later up high l =
    each_join (λ (g : Grown). flushed_end ≤ g.base) front (front_to n last ∷ [])
    (each_left (λ (g : Grown). flushed_end ≤ g.base) front (last ∷ later) l)
    ((each_right (λ (g : Grown). flushed_end ≤ g.base) front (last ∷ later) l).0, tt)
listed_short flushed_end n (e ∷ es) [] last later up high l =
    (l.0, l.1 ∙ ap (λ bs. extent_of (record last { batches = bs })) (sym (ending_ending flushed_end n last.batches up)), rest es later high l.2)
  where
    rest : (es : List Extent) (later : List Grown) → Each (λ g. n < g.base) later → AreListed flushed_end es later → AreListed flushed_end es []
    rest [] later high l = tt
    rest (e ∷ es) [] high l = l
    rest (e ∷ es) (g ∷ later) high l = absurd (omega (arith, up, high.0, l.0))
listed_short flushed_end n (e ∷ es) (g ∷ front) last later up high l = (l.0, l.1, listed_short flushed_end n es front last later up high l.2)

module _ (d : Content) (laws : Lawful d) (incarnation local_start : ℕ) (closed : List Grown) (active : Grown) (line : List (ℕ × ℕ)) (flushed_end : ℕ) (has : DiskHasLog d incarnation local_start closed active line flushed_end)
    (are : AreSegmentsOf local_start closed active) (is : IsLine line) (n : ℕ) (from : local_start ≤ n) (exact : cut_point n closed active ≡ n) (within : n ≤ end_of active) (up : flushed_end ≤ n)
    (d' : Content) (laws' : Lawful d') (fate : Fate) (change : Trims (names_of (behind n closed active)) (open_by n closed active).base (size_of (front_to n (open_by n closed active))) fate d d') where
  abbrev pub segments : List Grown
  segments = closed ++ active ∷ []

  abbrev pub front : List Grown
  front = closed_by n closed

  abbrev pub last : Grown
  last = open_by n closed active

  abbrev pub later : List Grown
  later = behind n closed active

  abbrev pub short : List Grown
  short = front ++ front_to n last ∷ []

  abbrev pub bytes : List ℕ
  bytes = manifest_bytes has.listed

  all_parts : segments ≡ front ++ last ∷ later
  all_parts = parts local_start n closed active are from

  low : last.base ≤ n
  low = last_low local_start n closed active are from

  high : Each (λ g. n < g.base) later
  high = later_high local_start n closed active are from

  below : Each (λ g. g.base < last.base) front
  below = front_below local_start n closed active are from

  listed_are_safe : Each (IsSafe last.base (size_of (front_to n last))) has.listed.segments
  listed_are_safe =
      listed_safe flushed_end n has.listed.segments front last later (last_laid local_start n closed active are from).laid up below high
      (subst (AreListed flushed_end has.listed.segments) all_parts has.lists)

  front_is_safe : Each (IsSafe last.base (size_of (front_to n last))) (map extent_of front)
  front_is_safe = each_mapped (IsSafe last.base (size_of (front_to n last))) extent_of front (each_map (λ g lt. inr (inl lt)) front below)

  closed_agree : (c : Files) → Each (Agrees c d.files) (map extent_of closed) → Each (Agrees c d.files) (map extent_of front)
  closed_agree c h =
      let f = closed_front n closed in
      each_left (Agrees c d.files) (map extent_of front) (map extent_of f.0)
      (subst (Each (Agrees c d.files)) (ap (λ (l : List Grown). map extent_of l) f.1 ∙ map-append extent_of front f.0) h)

  -- an image has the manifest, and the fronts that it lists
  shed_image : (c : Files) → (x : Files) × Image d x × Trimmed (names_of later) last.base (size_of (front_to n last)) x c
      → IsTrue d.is_observable × (c file.Manifest ≡ Some bytes) × Each (Agrees c d.files) has.listed.segments × Each (Agrees c d.files) (map extent_of front)
  shed_image c h =
      let was = has.images h.0 h.1 in
      let kept = λ (e : Extent) (s : IsSafe last.base (size_of (front_to n last)) e) (a : Agrees h.0 d.files e). agrees_then h.0 c d.files e (trimmed_kept last.base (size_of (front_to n last)) n later low high h.0 c h.2 e s) a in (
        laws.told h.0 h.1,
        trimmed_manifest last.base (size_of (front_to n last)) n later low high h.0 c h.2 ∙ was.manifest,
        each_both kept has.listed.segments listed_are_safe was.listed_fronts,
        each_both kept (map extent_of front) front_is_safe (closed_agree h.0 was.closed_fronts),
      )

  now_image : (c : Files) → Image d' c → IsTrue d.is_observable × (c file.Manifest ≡ Some bytes) × Each (Agrees c d.files) has.listed.segments × Each (Agrees c d.files) (map extent_of front)
  now_image c now = shed_image c (change.since.each c (laws'.earlier d.moment d'.moment c change.since.later now))

  pub shed_since : LeavesOnly d d' (OpensAs d)
  shed_since =
      leaves_weaker d d' _ (OpensAs d)
      (λ c h. (
        h.0,
        h.1,
        λ o opens. (
            let i = shed_image c h in
            let was = has.images h.0 h.1 in
            let r = opened_by h.0 bytes has.listed o was.manifest (reading d laws incarnation local_start closed active line flushed_end has) opens in
            opens_as c h.0 bytes has.listed o i.1 (reading d laws incarnation local_start closed active line flushed_end has)
            (each_both (both_agree c h.0 d.files) has.listed.segments i.2 was.listed_fronts) r
            ),
      ))
      change.since

  pub shed_reopens : Reopens d'
  shed_reopens =
      reopens_two d' d.files bytes bytes has.listed has.listed has.opened has.opened (reading d laws incarnation local_start closed active line flushed_end has) (reading d laws incarnation local_start closed active line flushed_end has)
      (λ c now. (let i = now_image c now in (inl i.1, i.2, i.2)))
      (λ c now. (let r = has.read (now_image c now).0 in (r, r)))

  module _ (went : fate ≡ Went) where
    told : IsTrue d'.is_observable → IsTrue d.is_observable
    told t = subst IsTrue change.is_observable t

    told' : IsTrue d.is_observable → IsTrue d'.is_observable
    told' t = subst IsTrue (sym change.is_observable) t

    last_bytes : IsTrue d.is_observable → bytes_of d'.files last ≡ take (size_of (front_to n last)) (bytes_of d.files last)
    last_bytes t = ap bytes_in (change.cut went t) ∙ cut_bytes (size_of (front_to n last)) (d.files (file.Log last.base))

    last_long : IsTrue d.is_observable → size_of (front_to n last) ≤ length (bytes_of d.files last)
    last_long t = (each_right (IsStored d.files (cut_end line n)) front (front_to n last ∷ []) (short_stored d incarnation local_start closed active line flushed_end has are is n from exact within t)).0.stands.long

    last_size : IsTrue d.is_observable → length (bytes_of d'.files last) ≡ size_of (front_to n last)
    last_size t = ap length (last_bytes t) ∙ length-take-le (size_of (front_to n last)) (bytes_of d.files last) (last_long t)

    files_agree : IsTrue d.is_observable → Each (Agrees d'.files d.files) has.listed.segments × Each (Agrees d'.files d.files) (map extent_of front)
    files_agree t = let i = now_image d'.files (laws'.reads (told' t)) in (i.2, i.3)

    short_agrees : IsTrue d.is_observable → Each (Agrees d'.files d.files) (map extent_of short)
    short_agrees t =
        let size = size_of (front_to n last) in
        subst (Each (Agrees d'.files d.files)) (sym (map-append extent_of front (front_to n last ∷ [])))
        (each_join (Agrees d'.files d.files) (map extent_of front) (extent_of (front_to n last) ∷ []) (files_agree t).1 (
          record {
            long = omega (arith, last_size t);
            same = ap (λ (l : List ℕ). take size l) (last_bytes t) ∙ take-take size size (bytes_of d.files last) (omega arith);
          },
          tt,
        ))

    stored_then : IsTrue d.is_observable → Each (IsStored d.files (cut_end line n)) short
    stored_then t = short_stored d incarnation local_start closed active line flushed_end has are is n from exact within t

    pub shed_batches : IsTrue d.is_observable → all_batches d'.files short ≡ up_to n (all_batches d.files segments)
    shed_batches t =
        moved_batches d.files d'.files (cut_end line n) short (stored_then t) (short_agrees t)
        ∙ short_batches d incarnation local_start closed active line flushed_end has are is n from exact within t

    shed_clear : IsTrue d.is_observable → (b : ℕ) → Each (λ (g : Grown). b ≢ g.base) short → d'.files (file.Log b) ≡ None
    shed_clear t b unlisted =
        let fronts = each_left (λ (g : Grown). b ≢ g.base) front (front_to n last ∷ []) unlisted in
        let ne = (each_right (λ (g : Grown). b ≢ g.base) front (front_to n last ∷ []) unlisted).0 in
        ⊎_elim
        (λ named. change.gone went t (file.Log b) named)
        (λ out. (
        let none = has.clear t b (subst (Each (λ (g : Grown). b ≢ g.base)) (sym all_parts) (each_join (λ (g : Grown). b ≢ g.base) front (last ∷ later) fronts (ne, out))) in
        ⊎_elim (λ same. same ∙ none) (λ gone. gone.1) (change.others t (file.Log b) (log_differs b last.base ne))
        ))
        (in_or_out b later)

    pub shed_has : DiskHasLog d' incarnation local_start front (front_to n last) (cut_end line n) flushed_end
    shed_has = record {
      listed = has.listed;
      opened = has.opened;
      rules = has.rules;
      fits = has.fits;
      images = λ c now. (
          let i = now_image c now in
          let f = files_agree i.0 in
          record {
            manifest = i.1;
            listed_fronts = each_both (both_agree c d'.files d.files) has.listed.segments i.2 f.0;
            closed_fronts = each_both (both_agree c d'.files d.files) (map extent_of front) i.3 f.1;
          }
          );
      read = λ t. read_moved d'.files d.files has.listed has.opened (files_agree (told t)).0 (has.read (told t));
      incarnation_is = has.incarnation_is;
      start_is = has.start_is;
      end_is = λ t. has.end_is (told t);
      batches_are = λ t. has.batches_are (told t) ∙ sym (up_to_up_to flushed_end n (all_batches d.files segments) up) ∙ ap (up_to flushed_end) (sym (shed_batches (told t)));
      line_is = has.line_is ∙ sym (cut_cut line n flushed_end up);
      lists = listed_short flushed_end n has.listed.segments front last later up high (subst (AreListed flushed_end has.listed.segments) all_parts has.lists);
      stored = λ t. moved_all d.files d'.files (cut_end line n) short (stored_then (told t)) (short_agrees (told t));
      exact = λ t. last_size (told t);
      clear = λ t b unlisted. shed_clear (told t) b unlisted;
    }
