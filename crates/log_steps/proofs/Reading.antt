-- How an image is read, by the manifest that it has.
use Rattle.std.proofs.Common.{◌≡◌, ◌⊎◌, ℕ, ◌≤◌, List, [], ◌∷◌, length, take, Option, Some, None, Result, Ok, Err, refl, sym, ◌∙◌, ap, subst, inl, ⊎_elim, IsTrue}
use Rattle.tier_base.specs.declared.plain.FileName.{FileName}
use Rattle.tier_base.specs.declared.plain.FileName.TheVariants.{Log}
use Rattle.tier_base.specs.declared.plain.FileName.TheVariants as file
use Rattle.tier_base.specs.Told.{bytes_in}
use Rattle.disk_model.specs.Content.{Content, Lawful, Files, Image}
use Rattle.log_terms.specs.Log.{end_from}
use Rattle.log_manifest.specs.declared.manifest.Extent.{Extent}
use Rattle.log_manifest.specs.declared.manifest.Manifest.{Manifest}
use Rattle.log_manifest.specs.declared.refusal.ManifestRefusal.{ManifestRefusal}
use Rattle.log_manifest.specs.Reading.{manifest_in}
use Rattle.log_steps.specs.Fronts.{front, Each, Agrees}
use Rattle.log_steps.specs.Opens.{Opened, Segment, Segments, IsOpenedBy, OpensBy, OpensFrom, Opens}
use Rattle.log_steps.specs.Reopens.{Says, Reopens}
use Rattle.log_steps.specs.Stands.{ImageHolds, ImagesHold}
use Rattle.log_steps.proofs.Lists.{each_both}
use Rattle.log_steps.proofs.Standing.{both_agree}

segment_moved : (c f : Files) (line : List (ℕ × ℕ)) (e : Extent) (batches : List (List ℕ)) → Agrees c f e → Segment f line e batches → Segment c line e batches
segment_moved c f line e batches h s = record { long = h.long; bytes = h.same ∙ s.bytes; placed = s.placed; consecutive = s.consecutive }

-- what has the fronts is read as the same batches
pub segments_moved : (c f : Files) (line : List (ℕ × ℕ)) (n : ℕ) (es : List Extent) (batches : List (List ℕ)) → Each (Agrees c f) es → Segments f line n es batches → Segments c line n es batches
segments_moved c f line n [] batches h s = s
segments_moved c f line n (e ∷ es) batches h s =
    (s.0, s.1, s.2, s.3, segment_moved c f line e s.0 h.0 s.4, segments_moved c f line (end_from n s.0) es s.1 h.1 s.5)

-- where they are read the fronts are whole
pub segments_whole : (c : Files) (line : List (ℕ × ℕ)) (n : ℕ) (es : List Extent) (batches : List (List ℕ)) → Segments c line n es batches → Each (Agrees c c) es
segments_whole c line n [] batches s = tt
segments_whole c line n (e ∷ es) batches s =
    (record { long = s.4.long; same = refl }, segments_whole c line (end_from n s.0) es s.1 s.5)

pub read_moved : (c f : Files) (m : Manifest) (o : Opened) → Each (Agrees c f) m.segments → IsOpenedBy m f o → IsOpenedBy m c o
read_moved c f m o h r = record {
  incarnation = r.incarnation;
  local_start = r.local_start;
  batches = segments_moved c f m.line m.local_start m.segments o.batches h r.batches;
  line = r.line;
}

-- an image with this manifest
pub opens_by : (c : Files) (bytes : List ℕ) (m : Manifest) (o : Opened) → c file.Manifest ≡ Some bytes → manifest_in bytes ≡ Ok m → IsOpenedBy m c o → Opens c o
opens_by c bytes m o there reading r =
    subst (λ (x : Option (List ℕ)). OpensFrom x c o) (sym there)
    (subst (λ (x : Result Manifest ManifestRefusal). OpensBy x c o) (sym reading) r)

pub opens_as : (c f : Files) (bytes : List ℕ) (m : Manifest) (o : Opened) → c file.Manifest ≡ Some bytes → manifest_in bytes ≡ Ok m → Each (Agrees c f) m.segments → IsOpenedBy m f o → Opens c o
opens_as c f bytes m o there reading h r = opens_by c bytes m o there reading (read_moved c f m o h r)

-- an image that holds what is listed opens as that
pub held_opens : (c f : Files) (bytes : List ℕ) (m : Manifest) (closed : List Extent) (o : Opened) → manifest_in bytes ≡ Ok m → ImageHolds c f bytes m.segments closed → IsOpenedBy m f o → Opens c o
held_opens c f bytes m closed o reading h r = opens_as c f bytes m o h.manifest reading h.listed_fronts r

-- how an image with this manifest was read
pub opened_by : (c : Files) (bytes : List ℕ) (m : Manifest) (o : Opened) → c file.Manifest ≡ Some bytes → manifest_in bytes ≡ Ok m → Opens c o → IsOpenedBy m c o
opened_by c bytes m o there reading h =
    subst (λ (x : Result Manifest ManifestRefusal). OpensBy x c o) reading
    (subst (λ (x : Option (List ℕ)). OpensFrom x c o) there h)

-- the same files open alike
fronts_like : (c d : Files) → ((n : FileName) → c n ≡ d n) → (e : Extent) → front d e ≡ front c e
fronts_like c d same e = ap (λ (o : Option (List ℕ)). take e.len (bytes_in o)) (sym (same (Log e.base)))

pub segments_like : (c d : Files) → ((n : FileName) → c n ≡ d n) → (line : List (ℕ × ℕ)) (n : ℕ) (es : List Extent) (batches : List (List ℕ)) → Segments d line n es batches → Segments c line n es batches
segments_like c d same line n [] batches s = s
segments_like c d same line n (e ∷ es) batches s = (
  s.0,
  s.1,
  s.2,
  s.3,
  record {
    long = subst (λ (o : Option (List ℕ)). e.len ≤ length (bytes_in o)) (sym (same (Log e.base))) s.4.long;
    bytes = ap (λ (o : Option (List ℕ)). take e.len (bytes_in o)) (same (Log e.base)) ∙ s.4.bytes;
    placed = s.4.placed;
    consecutive = s.4.consecutive;
  },
  segments_like c d same line (end_from n s.0) es s.1 s.5,
)

pub opens_like : (c d : Files) (o : Opened) → ((n : FileName) → c n ≡ d n) → Opens d o → Opens c o
opens_like c d o same h = subst (λ (x : Option (List ℕ)). OpensFrom x c o) (sym (same file.Manifest)) (by_file (d file.Manifest) h)
  where
    by_reading : (r : Result Manifest ManifestRefusal) → OpensBy r d o → OpensBy r c o
    by_reading (Ok m) r = record { incarnation = r.incarnation; local_start = r.local_start; batches = segments_like c d same m.line m.local_start m.segments o.batches r.batches; line = r.line }
    by_reading (Err why) r = r

    by_file : (x : Option (List ℕ)) → OpensFrom x d o → OpensFrom x c o
    by_file None h = h
    by_file (Some bytes) h = by_reading (manifest_in bytes) h

-- one manifest has one reading
pub says_is : (x : Files) (bytes : List ℕ) (m n : Manifest) → x file.Manifest ≡ Some bytes → manifest_in bytes ≡ Ok m → Says x n → m ≡ n
says_is x bytes m n there reading s =
    let same : bytes ≡ s.bytes = cc (there, s.there) in
    let read : Ok m ≡ Ok n = sym reading ∙ ap manifest_in same ∙ s.reading in
    cc

-- each image has one of two manifests, and the fronts of both
pub reopens_two : (d : Content) (f : Files) (a b : List ℕ) (m n : Manifest) (o p : Opened) → manifest_in a ≡ Ok m → manifest_in b ≡ Ok n
    → ((c : Files) → Image d c → ((c file.Manifest ≡ Some a) ⊎ (c file.Manifest ≡ Some b)) × Each (Agrees c f) m.segments × Each (Agrees c f) n.segments)
    → ((c : Files) → Image d c → IsOpenedBy m f o × IsOpenedBy n f p)
    → Reopens d
reopens_two d f a b m n o p reading reading' images reads = record {
  opens = λ c left. (
      let i = images c left in
      let r = reads c left in
      ⊎_elim
      (λ is. (o, opens_as c f a m o is reading i.1 r.0))
      (λ is. (p, opens_as c f b n p is reading' i.2 r.1))
      i.0
      );
  fronts = λ c x said left left' says. (
      let i = images c left in
      let j = images x left' in
      ⊎_elim
      (λ is. subst (λ (s : Manifest). Each (Agrees c x) s.segments) (says_is x a m said is reading says) (each_both (both_agree c x f) m.segments i.1 j.1))
      (λ is. subst (λ (s : Manifest). Each (Agrees c x) s.segments) (says_is x b n said is reading' says) (each_both (both_agree c x f) n.segments i.2 j.2))
      j.0
      );
}

-- a log's disk can be opened again
pub stands_reopens : (d : Content) (laws : Lawful d) (bytes : List ℕ) (m : Manifest) (closed : List Extent) (o : Opened) → manifest_in bytes ≡ Ok m → ImagesHold d bytes m.segments closed → (IsTrue d.is_observable → IsOpenedBy m d.files o) → Reopens d
stands_reopens d laws bytes m closed o reading stands read =
    reopens_two d d.files bytes bytes m m o o reading reading
    (λ c left. (let h = stands c left in (inl h.manifest, h.listed_fronts, h.listed_fronts)))
    (λ c left. (let r = read (laws.told c left) in (r, r)))
