-- What the images of an open log's disk have, call by call.
use Rattle.std.proofs.Common.{◌≡◌, ◌≢◌, ◌⊎◌, ℕ, ◌≤◌, Bool, true, false, cond, List, [], ◌∷◌, ◌++◌, length, take, Option, Some, None, refl, sym, ◌∙◌, ap, subst, inl, inr, ⊎_elim, arith, IsTrue}
use Rattle.std.proofs.lemmas.List.{take-append-le, length-append}
use Rattle.tier_base.specs.declared.plain.FileName.{FileName}
use Rattle.tier_base.specs.declared.plain.FileName.TheVariants.{Manifest, Log}
use Rattle.tier_base.specs.Device.{Fate, Went, Dry}
use Rattle.disk_model.proofs.Names.{cases_name}
use Rattle.tier_base.specs.Told.{OnlyAt, bytes_in}
use Rattle.disk_model.specs.Content.{Content, Lawful, Files, Image, Changes, Keeps, LeavesOnly, appended, HasGrown, BeginsWith}
use Rattle.log_manifest.specs.declared.manifest.Extent.{Extent}
use Rattle.log_steps.specs.Fronts.{log_at, front, Each, Agrees, KeepsFront}
use Rattle.log_steps.specs.Stands.{ImageHolds, ImagesHold}
use Rattle.log_steps.specs.Publishes.{IsLike, Between, Publishes}
use Rattle.log_steps.proofs.Lists.{each_map, each_both, each_join}
use Rattle.log_steps.proofs.Moments.{started, goes_on, leaves_weaker}
use Rattle.log_steps.proofs.Rewritten.{log_no_manifest}

-- an image that agrees with one that agrees with the files
pub agrees_then : (x c f : Files) (e : Extent) → KeepsFront x c e → Agrees x f e → Agrees c f e
agrees_then x c f e kept h = let y = kept h.long in record { long = y.long; same = y.same ∙ h.same }

-- two images that agree with a third
pub both_agree : (c x f : Files) (e : Extent) → Agrees c f e → Agrees x f e → Agrees c x e
both_agree c x f e h k = record { long = h.long; same = h.same ∙ sym k.same }

-- what agrees with the files agrees with those that have the same fronts
pub agrees_read : (c f g : Files) (e : Extent) → front g e ≡ front f e → Agrees c f e → Agrees c g e
agrees_read c f g e is h = record { long = h.long; same = h.same ∙ sym is }

pub holds_then : (x c f : Files) (bytes : List ℕ) (listed closed : List Extent) → c Manifest ≡ x Manifest → ((e : Extent) → KeepsFront x c e) → ImageHolds x f bytes listed closed → ImageHolds c f bytes listed closed
holds_then x c f bytes listed closed is kept h = record {
  manifest = is ∙ h.manifest;
  listed_fronts = each_map (λ e. agrees_then x c f e (kept e)) listed h.listed_fronts;
  closed_fronts = each_map (λ e. agrees_then x c f e (kept e)) closed h.closed_fronts;
}

-- with other files that agree with those as far as the fronts are whole
pub holds_read : (c f g : Files) (bytes : List ℕ) (listed closed : List Extent) → ((e : Extent) → KeepsFront f g e) → ImageHolds f f bytes listed closed → ImageHolds c f bytes listed closed → ImageHolds c g bytes listed closed
holds_read c f g bytes listed closed kept whole h = record {
  manifest = h.manifest;
  listed_fronts = each_both (λ e w a. agrees_read c f g e (kept e w.long).same a) listed whole.listed_fronts h.listed_fronts;
  closed_fronts = each_both (λ e w a. agrees_read c f g e (kept e w.long).same a) closed whole.closed_fronts h.closed_fronts;
}

grown_there : (d c : Files) (e : Extent) → HasGrown (d (Log e.base)) (c (Log e.base)) → KeepsFront d c e
grown_there d c e (inl is) long = record {
  long = subst (λ (o : Option (List ℕ)). e.len ≤ length (bytes_in o)) (sym is) long;
  same = ap (λ (o : Option (List ℕ)). take e.len (bytes_in o)) is;
}
grown_there d c e (inr more) long =
    let is : log_at c e ≡ log_at d e ++ more.0 = ap bytes_in more.1 in
    record {
      long = omega (arith, long, ap length is, length-append (log_at d e) more.0);
      same = ap (λ (l : List ℕ). take e.len l) is ∙ take-append-le e.len (log_at d e) more.0 long;
    }

-- a front that is there stays where a file grows
pub grown_kept : (n : FileName) (d c : Files) → OnlyAt n HasGrown d c → (e : Extent) → KeepsFront d c e
grown_kept n d c only e = elim (cases_name (Log e.base) n) [
  | inl same ↦ grown_there d c e (subst (λ (k : FileName). HasGrown (d k) (c k)) (sym same) only.there)
  | inr other ↦ grown_there d c e (inl (only.others (Log e.base) other))
]

pub grown_read : (n : FileName) (bytes : List ℕ) (done : Bool) (f g : Files) → OnlyAt n (λ before after. after ≡ cond done (appended bytes before) before) f g → OnlyAt n HasGrown f g
grown_read n bytes true f g h = record { there = inr (bytes, h.there); others = h.others }
grown_read n bytes false f g h = record { there = inl h.there; others = h.others }

-- the same files but for the manifest
pub same_kept : (d c : Files) → ((n : FileName) → n ≢ Manifest → c n ≡ d n) → (e : Extent) → KeepsFront d c e
same_kept d c others e = grown_there d c e (inl (others (Log e.base) (log_no_manifest e.base)))

begins_front : (o p : Option (List ℕ)) (n : ℕ) → n ≤ length (bytes_in o) → BeginsWith o p → (n ≤ length (bytes_in p)) × (take n (bytes_in p) ≡ take n (bytes_in o))
begins_front None p n long begins = let z : n ≡ 0 = omega (arith, long) in subst (λ (k : ℕ). (k ≤ length (bytes_in p)) × (take k (bytes_in p) ≡ take k [])) (sym z) (omega arith, refl)
begins_front (Some bytes) p n long begins =
    let x = begins refl in
    let is : bytes_in p ≡ bytes ++ x.0 = ap bytes_in x.1 in
    (omega (arith, ap length is, length-append bytes x.0, long), ap (λ (l : List ℕ). take n l) is ∙ take-append-le n bytes x.0 long)

-- what is synced begins each image
pub begins_agrees : (c f : Files) (e : Extent) → e.len ≤ length (log_at f e) → BeginsWith (f (Log e.base)) (c (Log e.base)) → Agrees c f e
begins_agrees c f e long begins = let x = begins_front (f (Log e.base)) (c (Log e.base)) e.len long begins in record { long = x.0; same = x.1 }

module _ (d d' : Content) (laws : Lawful d) (laws' : Lawful d') (bytes : List ℕ) (listed closed : List Extent) (stands : ImagesHold d bytes listed closed) where
  -- before a call
  pub stands_since : LeavesOnly d d (λ c. IsTrue d.is_observable × ImageHolds c d.files bytes listed closed)
  stands_since = started d (λ c. IsTrue d.is_observable × ImageHolds c d.files bytes listed closed) (λ c now. (laws.told c now, stands c now))

  -- an image as before
  pub like_fronts : (c : Files) → IsLike d c → IsTrue d.is_observable × ImageHolds c d.files bytes listed closed
  like_fronts c x = (laws.told x.image x.was, holds_then x.image c d.files bytes listed closed (x.same Manifest) (same_kept x.image c (λ n ne. x.same n)) (stands x.image x.was))

  -- a call that leaves the files and makes no image
  module _ (is_observable : d'.is_observable ≡ d.is_observable) (fewer : (c : Files) → Image d' c → Image d c) (same : IsTrue d.is_observable → (n : FileName) → d'.files n ≡ d.files n) where
    pub same_stands : ImagesHold d' bytes listed closed
    same_stands c now =
        let t = subst IsTrue is_observable (laws'.told c now) in
        holds_read c d.files d'.files bytes listed closed (same_kept d.files d'.files (λ n ne. same t n)) (stands d.files (laws.reads t)) (stands c (fewer c now))

  -- an append, done or not
  module _ (n : FileName) (ne : Manifest ≢ n) (more : List ℕ) (M : Bool → Type 0) (change : Changes n (appended more) HasGrown M d d') where
    pub files_grown : IsTrue d.is_observable → OnlyAt n HasGrown d.files d'.files
    files_grown t = let read = change.files t in grown_read n more read.0 d.files d'.files read.2

    image_held : (c : Files) → Image d' c → IsTrue d.is_observable × ImageHolds c d.files bytes listed closed
    image_held c now =
        let x = change.images c now in
        (laws.told x.0 x.1, holds_then x.0 c d.files bytes listed closed (x.2.others Manifest ne) (grown_kept n x.0 c x.2) (stands x.0 x.1))

    pub append_stands : ImagesHold d' bytes listed closed
    append_stands c now =
        let t = subst IsTrue change.is_observable (laws'.told c now) in
        holds_read c d.files d'.files bytes listed closed (grown_kept n d.files d'.files (files_grown t)) (stands d.files (laws.reads t)) (image_held c now).1

    pub append_since : LeavesOnly d d' (λ c. IsTrue d.is_observable × ImageHolds c d.files bytes listed closed)
    append_since = goes_on d d d' (λ c. IsTrue d.is_observable × ImageHolds c d.files bytes listed closed) stands_since change.time image_held

  -- a sync, or a read
  module _ (k : Keeps d d') where
    pub keeps_stands : ImagesHold d' bytes listed closed
    keeps_stands = same_stands k.is_observable k.images (λ t n. k.files n)

    pub keeps_since : LeavesOnly d d' (λ c. IsTrue d.is_observable × ImageHolds c d.files bytes listed closed)
    keeps_since =
        goes_on d d d' (λ c. IsTrue d.is_observable × ImageHolds c d.files bytes listed closed) stands_since k.time
        (λ c now. (let was = k.images c now in (laws.told c was, stands c was)))

    -- a sync of a segment that closes
    module _ (e : Extent) (long : IsTrue d.is_observable → e.len ≤ length (log_at d.files e)) (synced : (c : Files) → Image d' c → BeginsWith (d.files (Log e.base)) (c (Log e.base))) where
      pub sync_stands : ImagesHold d' bytes listed (closed ++ e ∷ [])
      sync_stands c now =
          let t = subst IsTrue k.is_observable (laws'.told c now) in
          let h = keeps_stands c now in
          let a = begins_agrees c d.files e (long t) (synced c now) in
          record {
            manifest = h.manifest;
            listed_fronts = h.listed_fronts;
            closed_fronts = each_join (Agrees c d'.files) closed (e ∷ []) h.closed_fronts (agrees_read c d.files d'.files e (ap (λ (o : Option (List ℕ)). take e.len (bytes_in o)) (k.files (Log e.base))) a, tt);
          }

  -- a new manifest
  module _ (last : Extent) (long : IsTrue d.is_observable → last.len ≤ length (log_at d.files last)) (next : List ℕ) (then : List Extent)
      (lists : (c : Files) → Each (Agrees c d.files) closed → Agrees c d.files last → Each (Agrees c d.files) then)
      (fate : Fate) (change : Publishes (Log last.base) next fate d d') where
    told_before : IsTrue d'.is_observable → IsTrue d.is_observable
    told_before t = subst IsTrue change.is_observable t

    pub of_image : (c : Files) → (b : Between (Log last.base) next d c) → Each (Agrees c d.files) listed × Each (Agrees c d.files) closed
    of_image c b =
        let h = stands b.image b.was in (
          each_map (λ e. agrees_then b.image c d.files e (same_kept b.image c b.others e)) listed h.listed_fronts,
          each_map (λ e. agrees_then b.image c d.files e (same_kept b.image c b.others e)) closed h.closed_fronts,
        )

    pub last_agrees : IsTrue d.is_observable → (c : Files) → BeginsWith (d.files (Log last.base)) (c (Log last.base)) → Agrees c d.files last
    last_agrees t c begins = begins_agrees c d.files last (long t) begins

    between : (c : Files) → Between (Log last.base) next d c → IsTrue d.is_observable × (ImageHolds c d.files bytes listed closed ⊎ ImageHolds c d.files next then closed)
    between c b =
        let h = stands b.image b.was in
        let fronts = of_image c b in (
          laws.told b.image b.was,
          ⊎_elim
              (λ is. inl (record { manifest = is ∙ h.manifest; listed_fronts = fronts.0; closed_fronts = fronts.1 }))
              (λ x. inr (record { manifest = x.0; listed_fronts = lists c fronts.1 (last_agrees (laws.told b.image b.was) c x.1); closed_fronts = fronts.1 }))
              b.manifest,
        )

    pub publish_since : LeavesOnly d d' (λ c. IsTrue d.is_observable × (ImageHolds c d.files bytes listed closed ⊎ ImageHolds c d.files next then closed))
    publish_since =
        leaves_weaker d d' (Between (Log last.base) next d) (λ c. IsTrue d.is_observable × (ImageHolds c d.files bytes listed closed ⊎ ImageHolds c d.files next then closed)) between change.since

    now_between : (c : Files) → Image d' c → Between (Log last.base) next d c
    now_between c now = change.since.each c (laws'.earlier d.moment d'.moment c change.since.later now)

    -- both fronts are whole where the segment is
    pub publish_whole : (c : Files) → Image d' c → BeginsWith (d.files (Log last.base)) (c (Log last.base))
        → ((c Manifest ≡ Some bytes) ⊎ (c Manifest ≡ Some next)) × Each (Agrees c d.files) listed × Each (Agrees c d.files) then
    publish_whole c now begins =
        let b = now_between c now in
        let fronts = of_image c b in
        let t = laws.told b.image b.was in
        (⊎_elim (λ is. inl (is ∙ (stands b.image b.was).manifest)) (λ x. inr x.0) b.manifest, fronts.0, lists c fronts.1 (last_agrees t c begins))

    pub publish_dry : fate ≡ Dry → ImagesHold d' bytes listed closed
    publish_dry is = same_stands change.is_observable (change.dry is) (change.dry_files is)

    pub publish_stands : fate ≡ Went → ImagesHold d' next then closed
    publish_stands went c now =
        let b = now_between c now in
        let t = laws.told b.image b.was in
        let fronts = of_image c b in
        let read = λ (e : Extent) (a : Agrees c d.files e). agrees_read c d.files d'.files e (ap (λ (o : Option (List ℕ)). take e.len (bytes_in o)) (change.files t (Log e.base) (log_no_manifest e.base))) a in
        record {
          manifest = change.durable went c now;
          listed_fronts = each_map read then (lists c fronts.1 (last_agrees t c (change.whole went c now)));
          closed_fronts = each_map read closed fronts.1;
        }
