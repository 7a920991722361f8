-- A disk that has the files of one moment of a call is seen as the log before the call was, or as the one after it is.
use Rattle.std.proofs.Common.{◌≡◌, ◌∙◌, inl, inr, sym, subst, refl, ℕ, ◌≤◌, List, Option, Some, None, Result, Ok, Err, arith, IsTrue}
use Rattle.std.specs.Prelude.{IsSomeAnd}
use Rattle.tier_base.specs.declared.plain.FileName.{FileName}
use Rattle.tier_base.specs.declared.plain.FileName.TheVariants as file
use Rattle.disk_model.specs.Content.{Content, Files, Image}
use Rattle.log_manifest.specs.declared.manifest.Extent.{Extent}
use Rattle.log_manifest.specs.declared.manifest.Manifest.{Manifest}
use Rattle.log_manifest.specs.declared.refusal.ManifestRefusal.{ManifestRefusal}
use Rattle.log_manifest.specs.Reading.{manifest_in}
use Rattle.log_steps.specs.Fronts.{Each, Agrees}
use Rattle.log_steps.specs.Opens.{Opened, OpensBy, OpensFrom, Opens}
use Rattle.log_steps.specs.Reopens.{Reopens}
use Rattle.log_steps.proofs.Lists.{each_map}
use Rattle.log_steps.proofs.Reading.{segments_whole, read_moved}
use Rattle.log_steps.proofs.Restored.{kept_same}
use Rattle.local_log.specs.Log.{Log}
use Rattle.broker_log.specs.Seen.{LogSeen, Back, LogState, Up, Down, Away, ShowsOpen, ShowsClosed, OnDisk, OpensLater, OpensAfterStop, returning, returns}
use Rattle.broker_log.proofs.Local.{kept_stands}
use Rattle.cold_start.specs.Moments.{IsCutSince}
use Rattle.cold_start.proofs.StandLaw.{IsShownAs}

-- what is seen in one of two ways
some_and : {X : Type 0} (o : Option X) (P : X → Type 0) → IsSomeAnd o P → (x : X) × (o ≡ Some x) × P x
some_and (Some x) P p = (x, refl, p)
some_and None P p = absurd p

-- the same files agree
same_agrees : (files c : Files) → ((n : FileName) → c n ≡ files n) → (es : List Extent) → Each (Agrees files files) es → Each (Agrees c files) es
same_agrees files c same es h = each_map (λ e a. kept_same files c e (same (file.Log e.base)) a.long) es h

-- and open alike
pub same_opens : (files c : Files) → ((n : FileName) → c n ≡ files n) → (o : Opened) → Opens files o → Opens c o
same_opens files c same o h = subst (λ (x : Option (List ℕ)). OpensFrom x c o) (sym (same file.Manifest)) (by_file (files file.Manifest) h)
  where
    by_reading : (r : Result Manifest ManifestRefusal) → OpensBy r files o → OpensBy r c o
    by_reading (Ok m) read = read_moved c files m o (same_agrees files c same m.segments (segments_whole files m.line m.local_start m.segments o.batches read.batches)) read
    by_reading (Err why) read = absurd read

    by_file : (x : Option (List ℕ)) → OpensFrom x files o → OpensFrom x c o
    by_file None is = is
    by_file (Some bytes) is = by_reading (manifest_in bytes) is

-- what a manifest lists is there, where the files open
lists_whole : (files : Files) (m : Manifest) (bytes : List ℕ) (o : Opened) → files file.Manifest ≡ Some bytes → manifest_in bytes ≡ Ok m → Opens files o → Each (Agrees files files) m.segments
lists_whole files m bytes o there reading h =
    let from : OpensFrom (Some bytes) files o = subst (λ (x : Option (List ℕ)). OpensFrom x files o) there h in
    let read : OpensBy (Ok m) files o = subst (λ (r : Result Manifest ManifestRefusal). OpensBy r files o) reading from in
    segments_whole files m.line m.local_start m.segments o.batches read.batches

-- from a disk that has no files but these, which open, a log can be opened
pub one_reopens : (d : Content) (files : Files) (o : Opened) → ((c : Files) → Image d c → (n : FileName) → c n ≡ files n) → Opens files o → Reopens d
one_reopens d files o same h = record {
  opens = λ c now. (o, same_opens files c (same c now) o h);
  fronts = λ c x m now at says.
      let there : files file.Manifest ≡ Some says.bytes = sym (same x at file.Manifest) ∙ says.there in
      each_map
      (λ e a. (
      let one = kept_same files c e (same c now (file.Log e.base)) a.long in
      let two = kept_same files x e (same x at (file.Log e.base)) a.long in
      record { long = one.long; same = one.same ∙ sym two.same }
      ))
      m.segments (lists_whole files m says.bytes o there says.reading h);
}

module _ {D : Type 0} (content : D → Content) (old now d : D) (cut : IsCutSince (content old) (content now) (content d)) where
  -- what comes back from an image comes back from these files, perhaps under a later incarnation
  module _ (s : LogSeen) (c : Files) (i : ℕ) (most : s.incarnation ≤ i) (from : Files) (later : (o : Opened) → Opens from o → (j : ℕ) × (o.incarnation ≤ j) × Opens c (record o { incarnation = j })) where
    comes : OpensAfterStop i s from → (j : ℕ) × (s.incarnation ≤ j) × OpensAfterStop j s c
    comes (inl is) = let k = later (returns i s) is in (k.0, omega (arith, most, k.1), inl k.2)
    comes (inr is) =
        let other = some_and s.loose (λ back. Opens from (returning i s back)) is in
        let k = later (returning i s other.0) other.2 in
        (k.0, omega (arith, most, k.1), inr (subst (λ (x : Option Back). IsSomeAnd x (λ back. Opens c (returning k.0 s back))) (sym other.1) k.2))

  module _ (told : IsTrue (content old).is_observable) (e : D) (later : OpensLater (content e) cut.files) where
    -- each image of the disk opens as these files
    each : (s : LogSeen) (i : ℕ) → s.incarnation ≤ i → OpensAfterStop i s later.0 → (c : Files) → Image (content d) c → (j : ℕ) × (s.incarnation ≤ j) × OpensAfterStop j s c
    each s i most was c at =
        comes s c i most later.0
        (λ o is. (let k = later.2 o is in (k.0, k.1, same_opens cut.files c (cut.images c at) (record o { incarnation = k.0 }) k.2)))
        was

    again : (o : Opened) → Opens later.0 o → Reopens (content d)
    again o is = let k = later.2 o is in one_reopens (content d) cut.files (record o { incarnation = k.0 }) cut.images k.2

    -- of a log that was open
    pub shown_open : (log : Log D) → log.disk ≡ e → (s : LogSeen) → ShowsOpen content log s → ShowsClosed content d s
    shown_open log is s h =
        let at : Image (content log.disk) later.0 = subst (λ (k : D). Image (content k) later.0) (sym is) later.1 in
        record {
          told = cut.is_observable told;
          kept = kept_stands content log s h;
          images = each s log.incarnation (omega (arith, h.incarnation_is)) (inl (h.images later.0 at));
          again = again (returns log.incarnation s) (h.images later.0 at);
        }

    -- and of one that was closed
    pub shown_closed : (s : LogSeen) → ShowsClosed content e s → ShowsClosed content d s
    shown_closed s h =
        let was = h.images later.0 later.1 in
        let o = h.again.opens later.0 later.1 in
        record {
          told = cut.is_observable told;
          kept = h.kept;
          images = each s was.0 was.1 was.2;
          again = again o.0 o.1;
        }

-- the disk that a log is on
module _ {D : Type 0} (content : D → Content) (d : D) where
  -- it is seen as a log whose disk has an image that opens so
  pub shown_later : (k : LogState D) (old now : D) (cut : IsCutSince (content old) (content now) (content d)) → IsTrue (content old).is_observable → (e : D) → OnDisk k (λ x. x ≡ e) → OpensLater (content e) cut.files → IsShownAs content k d
  shown_later (Up log) old now cut told e is later s h = shown_open content old now d cut told e later log is s h
  shown_later (Down was disk) old now cut told e is later s h = shown_closed content old now d cut told e later s (subst (λ (x : D). ShowsClosed content x s) is h)
  shown_later Away old now cut told e is later s h = absurd h
