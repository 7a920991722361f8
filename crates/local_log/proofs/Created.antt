-- A log that is made over a disk without files.
use Rattle.std.proofs.Common.{◌≡◌, ◌⊎◌, ℕ, Bool, List, [], length, take, Option, Some, None, Ok, refl, sym, ◌∙◌, ap, subst, inl, inr, ⊎_elim, arith, IsTrue}
use Rattle.tier_base.specs.declared.plain.FileName.{FileName}
use Rattle.tier_base.specs.declared.plain.FileName.TheVariants as file
use Rattle.disk_model.proofs.Names.{cases_name}
use Rattle.tier_base.specs.Told.{replaced, bytes_in}
use Rattle.disk_model.specs.Content.{Content, Lawful, Files, Image, Changes, LeavesOnly, Swapped}
use Rattle.log_manifest.specs.declared.manifest.Manifest.{Manifest}
use Rattle.log_manifest.specs.Reading.{manifest_in}
use Rattle.log_manifest.specs.Spelling.{manifest_bytes}
use Rattle.log_manifest.specs.Rules.{IsManifest}
use Rattle.log_manifest.proofs.Again.{manifest_again}
use Rattle.segment_file.specs.Growing.{Grown}
use Rattle.log_steps.specs.Fronts.{Each, Agrees}
use Rattle.log_steps.specs.Opens.{IsOpenedBy, Opens}
use Rattle.log_steps.specs.Reopens.{Reopens}
use Rattle.log_steps.specs.Publishes.{IsLike}
use Rattle.log_steps.proofs.Lists.{each_map}
use Rattle.log_steps.proofs.Moments.{started, goes_on}
use Rattle.log_steps.proofs.Rewritten.{log_no_manifest}
use Rattle.log_steps.proofs.Standing.{agrees_then, agrees_read, same_kept}
use Rattle.log_steps.proofs.Reading.{opens_by, opens_like, says_is}
use Rattle.local_log.specs.Log.{first_log, Creating}
use Rattle.local_log.specs.Listing.{AreSegmentsOf, manifest_of}
use Rattle.local_log.specs.Inside.{DiskHasLog}
use Rattle.local_log.proofs.Listed.{rules_of}

-- the first segment
abbrev pub first : ℕ → Grown
first interval = record { base = 0; interval = interval; batches = [] }

pub first_are : (interval : ℕ) → AreSegmentsOf 0 [] (first interval)
first_are interval = record {
  chained = (refl, tt);
  laid = tt;
  some = tt;
  active_laid = record { laid = tt; near = omega arith; small = omega arith };
  low = omega arith;
  few = omega arith;
}

-- the first manifest
abbrev pub first_manifest : ℕ → Manifest
first_manifest interval = manifest_of 1 0 [] (first interval) []

pub first_rules : (interval : ℕ) → IsManifest (first_manifest interval)
first_rules interval = rules_of 1 0 [] (first interval) [] (omega arith) (first_are interval) tt

pub first_reading : (interval : ℕ) → manifest_in (manifest_bytes (first_manifest interval)) ≡ Ok (first_manifest interval)
first_reading interval = manifest_again (first_manifest interval) (first_rules interval) (omega arith)

-- any files are read as nothing by it
pub first_read : (interval : ℕ) (c : Files) → IsOpenedBy (first_manifest interval) c first_log
first_read interval c = record {
  incarnation = refl;
  local_start = refl;
  batches = ([], [], refl, refl, record { long = omega arith; bytes = refl; placed = tt; consecutive = tt }, refl);
  line = refl;
}

pub first_opens : (interval : ℕ) (c : Files) → c file.Manifest ≡ Some (manifest_bytes (first_manifest interval)) → Opens c first_log
first_opens interval c is = opens_by c (manifest_bytes (first_manifest interval)) (first_manifest interval) first_log is (first_reading interval) (first_read interval c)

first_agrees : (c x : Files) (interval : ℕ) → Each (Agrees c x) (first_manifest interval).segments
first_agrees c x interval = (record { long = omega arith; same = refl }, tt)

module _ (d d' : Content) (interval : ℕ) (M : Bool → Type 0) (change : Changes file.Manifest (replaced (manifest_bytes (first_manifest interval))) (Swapped (manifest_bytes (first_manifest interval))) M d d') where
  abbrev pub bytes : List ℕ
  bytes = manifest_bytes (first_manifest interval)

  like_or_new : (c : Files) → Image d' c → IsLike d c ⊎ (c file.Manifest ≡ Some bytes)
  like_or_new c now =
      let x = change.images c now in
      ⊎_elim
      (λ is. inl (record {
        image = x.0;
        was = x.1;
        same = λ n. elim (cases_name n file.Manifest) [
          | inl e ↦ subst (λ (k : FileName). c k ≡ x.0 k) (sym e) is
          | inr ne ↦ x.2.others n ne
        ];
      }))
      (λ is. inr is)
      x.2.there

  creating : (c : Files) → Image d' c → Creating d c
  creating c now = ⊎_elim (λ like. inl like) (λ is. inr (first_opens interval c is)) (like_or_new c now)

  pub create_since : LeavesOnly d d' (Creating d)
  create_since = goes_on d d d' (Creating d) (started d (Creating d) (λ c now. inl (record { image = c; was = now; same = λ n. refl }))) change.time creating

  pub create_reopens : Reopens d → Reopens d'
  create_reopens r = record {
    opens = λ c now. ⊎_elim (λ like. (let h = r.opens like.image like.was in (h.0, opens_like c like.image h.0 like.same h.1))) (λ is. (first_log, first_opens interval c is)) (like_or_new c now);
    fronts = λ c x said now now' says. (
        let xc = change.images c now in
        let xx = change.images x now' in
        ⊎_elim
        (λ is. each_map
        (λ e h. agrees_read c xx.0 x e (ap (λ (y : Option (List ℕ)). take e.len (bytes_in y)) (xx.2.others (file.Log e.base) (log_no_manifest e.base))) (agrees_then xc.0 c xx.0 e (same_kept xc.0 c xc.2.others e) h))
        said.segments (r.fronts xc.0 xx.0 said xc.1 xx.1 (record { bytes = says.bytes; there = sym is ∙ says.there; reading = says.reading })))
        (λ is. subst (λ (s : Manifest). Each (Agrees c x) s.segments) (says_is x bytes (first_manifest interval) said is (first_reading interval) says) (first_agrees c x interval))
        xx.2.there
        );
  }

  module _ (laws' : Lawful d') (empty : IsTrue d.is_observable → (n : FileName) → d.files n ≡ None) (sure : (c : Files) → Image d' c → c file.Manifest ≡ Some bytes) where
    none_now : IsTrue d'.is_observable → (b : ℕ) → d'.files (file.Log b) ≡ None
    none_now t b = let told = subst IsTrue change.is_observable t in (change.files told).2.others (file.Log b) (log_no_manifest b) ∙ empty told (file.Log b)

    pub create_has : DiskHasLog d' 1 0 [] (first interval) [] 0
    create_has = record {
      listed = first_manifest interval;
      opened = first_log;
      rules = first_rules interval;
      fits = omega arith;
      images = λ c now. record { manifest = sure c now; listed_fronts = first_agrees c d'.files interval; closed_fronts = tt };
      read = λ t. first_read interval d'.files;
      incarnation_is = refl;
      start_is = refl;
      end_is = λ t. refl;
      batches_are = λ t. refl;
      line_is = refl;
      stored = λ t. (record { batches = []; placed = refl; stands = record { long = omega arith; bytes = refl; placed = tt; consecutive = tt } }, tt);
      exact = λ t. ap (λ (o : Option (List ℕ)). length (bytes_in o)) (none_now t 0);
      lists = (omega arith, refl, tt);
      clear = λ t b other. none_now t b;
    }

    pub create_opens : (c : Files) → Image d' c → Opens c first_log
    create_opens c now = first_opens interval c (sure c now)
