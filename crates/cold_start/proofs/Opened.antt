-- What an opening makes of what the devices represent.
use Rattle.std.proofs.Common.{◌≡◌, ◌∙◌, ◌⊎◌, inl, inr, sym, ap, subst, refl, ℕ, ◌<◌, ◌≤◌, List, [], length, Option, Some, None, arith}
use Rattle.std.specs.Prelude.{◌^◌, Ok, IsTrue, IsSomeAnd}
use Rattle.tier_base.specs.declared.names.PartitionId.{PartitionId}
use Rattle.tier_base.specs.declared.plain.FileName.TheVariants.{Registry as RegistryName}
use Rattle.disk_model.specs.Content.{Content, Files}
use Rattle.disk_model.specs.declared.disk.Disk.{Ghosts as DiskGhosts}
use Rattle.object_store.specs.declared.store.Store.{Ghosts as StoreGhosts}
use Rattle.segment_meta.specs.declared.note.Note.{Note}
use Rattle.meta_log.specs.declared.log.MetaLog.{Ghosts as MetaGhosts}
use Rattle.meta_log.specs.Content.{Left, LeavesTold, Keeps as KeepsNotes}
use Rattle.registry.specs.View.{IsView, view_of, registry_of}
use Rattle.registry.specs.declared.registry.Registry.{Registry}
use Rattle.registry.specs.declared.view.RegView.{RegView}
use Rattle.registry_file.specs.Reading.{view_in}
use Rattle.registry_disk.specs.Keeping.{registry_bytes, HasFile, Replaces}
use Rattle.plain_log.specs.declared.command.ActorList.{ActorList}
use Rattle.plain_log.specs.declared.command.Config.{Config}
use Rattle.plain_log.specs.declared.journal.JournalEntry.{JournalEntry}
use Rattle.plain_log.specs.declared.state.State.{State}
use Rattle.plain_log.specs.Runs.{replay}
use Rattle.partition_commands.specs.Fresh.{AllSeen}
use Rattle.partition_world.specs.Cold.{StandCold, AreCold}
use Rattle.partition_world.specs.Fresh.{IsFresh, IsSeenEmpty}
use Rattle.partition_world.specs.Left.{IsCentralLeft}
use Rattle.partition_world.specs.Whole.{Whole}
use Rattle.cold_state.specs.Cold.{cold_of}
use Rattle.cold_start.specs.ColdWorld.{IsCutLog, plain_in}
use Rattle.cold_start.specs.Stands.{StandsFor, IsBlank}
use Rattle.cold_start.specs.FileLaws.{FileLaws}
use Rattle.cold_start.specs.Opening.{GivesBack}
use Rattle.cold_start.specs.declared.refusal.ColdRefusal.{ColdRefusal}
use Rattle.cold_start.proofs.Leaving.{all_uncut, closed_cold}
use Rattle.cold_start.proofs.StandLaw.{keeps_cold}

-- what was read is the view of the registry that the file reads as
pub view_is : (files : Files) (bytes : List ℕ) (view : RegView) (r : Registry) → HasFile files r → files RegistryName ≡ Some bytes → view_in bytes ≡ Ok view → view ≡ view_of r
view_is files bytes view r has there read =
    let reads : view_in bytes ≡ Ok (view_of r) = subst (λ (o : Option (List ℕ)). IsSomeAnd o (λ b. view_in b ≡ Ok (view_of r))) there has in
    cc (read, reads)

pub registry_is : (laws : FileLaws) (view : RegView) (r : Registry) → view ≡ view_of r → registry_of view ≡ r
registry_is laws view r is = ap registry_of is ∙ laws.back r

-- the file of what was read reads as the same registry
pub read_again : (laws : FileLaws) (files : Files) (view : RegView) (r : Registry) → IsView view → view ≡ view_of r → files RegistryName ≡ Some (registry_bytes r) → HasFile files r
read_again laws files view r rules is file =
    subst (λ (o : Option (List ℕ)). IsSomeAnd o (λ b. view_in b ≡ Ok (view_of r))) (sym file) (laws.again (view_of r) (subst IsView is rules))

-- the file that was there, or that of what was read
pub replaced_has : (laws : FileLaws) (old new : Content) (view : RegView) (r k : Registry) → IsView view → view ≡ view_of r → k ≡ registry_of view → IsTrue old.is_observable → Replaces k old new → HasFile old.files r → HasFile new.files r
replaced_has laws old new view r k rules is of told rep has =
    elim (rep.reads told) [
      | inl same ↦ subst (λ (o : Option (List ℕ)). IsSomeAnd o (λ b. view_in b ≡ Ok (view_of r))) (sym same) has
      | inr file ↦ read_again laws new.files view r rules is (subst (λ (j : Registry). new.files RegistryName ≡ Some (registry_bytes j)) (of ∙ registry_is laws view r is) file)
    ]

module _ {D S M : Type 0} (disk : DiskGhosts D) (store : StoreGhosts S) (meta : MetaGhosts M) where
  cut_notes : (m n : M) → KeepsNotes (meta.content m) (meta.content n) → IsCutLog (meta.content m) (meta.content n)
  cut_notes m n k = record { is_observable = λ told. subst IsTrue (sym k.is_observable) told; left = k.left }

  -- it continues after the metadata events were read
  pub stand_recorded : (partition : PartitionId) (disks : List D) (s : S) (m n : M) (reg : D) (p : State) → StandsFor disk store meta partition disks s m reg p → KeepsNotes (meta.content m) (meta.content n)
      → (l : List Note) → Left (meta.content n) l → StandCold disk store meta partition p.registry disks s n p l
  stand_recorded partition disks s m n reg p h k =
      keeps_cold disk store meta partition p.registry disks disks s m s n p h.stand (all_uncut disk.content disks) (record { is_observable = λ yes. yes; objects = refl }) (cut_notes m n k)

  -- and so it does over a registry's disk whose file reads as the same
  pub still_stands : (partition : PartitionId) (disks : List D) (s : S) (m n : M) (reg r : D) (p : State) → StandsFor disk store meta partition disks s m reg p → KeepsNotes (meta.content m) (meta.content n)
      → IsTrue (disk.content r).is_observable → HasFile (disk.content r).files p.registry → StandsFor disk store meta partition disks s n r p
  still_stands partition disks s m n reg r p h k told file = record { file_tells = told; file = file; stand = stand_recorded partition disks s m n reg p h k }

  pub notes_told : (partition : PartitionId) (disks : List D) (s : S) (m : M) (reg : D) (p : State) → StandsFor disk store meta partition disks s m reg p → IsTrue (meta.content m).is_observable
  notes_told partition disks s m reg p h = (h.stand (meta.content m).notes (inl refl)).meta_tells

  -- the metadata events that were read are the only ones left, and can be counted
  pub cold_recorded : (partition : PartitionId) (disks : List D) (s : S) (m n : M) (reg : D) (p : State) (registry : Registry) → StandsFor disk store meta partition disks s m reg p → KeepsNotes (meta.content m) (meta.content n)
      → (IsTrue (meta.content m).is_observable → LeavesTold (meta.content n)) → (IsTrue (meta.content m).is_observable → length (meta.content n).notes ≤ 2 ^ 59) → registry ≡ p.registry
      → AreCold disk store meta partition registry disks s n p
  cold_recorded partition disks s m n reg p registry h k settled few is =
      let told = notes_told partition disks s m reg p h in
      record {
        stand = λ l at. subst (λ (r : Registry). StandCold disk store meta partition r disks s n p l) (sym is) (stand_recorded partition disks s m n reg p h k l at);
        few = λ l at.
            let low = few told in
            let small : length (meta.content n).notes < 2 ^ 63 = omega (arith, low) in
            subst (λ (x : List Note). length x < 2 ^ 63) (sym (settled told l at)) small;
      }

  -- devices that hold nothing, after the metadata events were read
  pub blank_recorded : (s : S) (m n : M) (reg : D) → IsBlank disk store meta s m reg → KeepsNotes (meta.content m) (meta.content n) → IsBlank disk store meta s n reg
  blank_recorded s m n reg b k = record {
    file_tells = b.file_tells;
    file = b.file;
    store_tells = b.store_tells;
    objects = b.objects;
    meta_tells = subst IsTrue (sym k.is_observable) b.meta_tells;
    notes = λ told. k.notes ∙ b.notes b.meta_tells;
  }

  -- and after they were armed
  blank_armed : (partition : PartitionId) (config : Config) (lists : List ActorList) (disks : List D) (s : S) (n : M) (reg r : D) (w : Whole D S M) → IsBlank disk store meta s n reg → IsFresh disk store meta partition config lists disks s n w
      → IsTrue (disk.content r).is_observable → (disk.content r).files RegistryName ≡ None → IsBlank disk store meta w.tier.store w.tier.meta r
  blank_armed partition config lists disks s n reg r w b f told file = record {
    file_tells = told;
    file = file;
    store_tells = subst IsTrue (sym f.tier.objects.is_observable) b.store_tells;
    objects = λ yes key. f.tier.objects.objects key ∙ b.objects b.store_tells key;
    meta_tells = subst IsTrue (sym f.tier.notes.is_observable) b.meta_tells;
    notes = λ yes. f.tier.notes.notes ∙ b.notes b.meta_tells;
  }

  -- a fresh world over such devices is seen, and empty
  pub seen_empty : (partition : PartitionId) (config : Config) (lists : List ActorList) (disks : List D) (s : S) (n : M) (reg : D) (w : Whole D S M) → IsBlank disk store meta s n reg → IsFresh disk store meta partition config lists disks s n w
      → AllSeen disk.content w.partition_state.nodes → IsSeenEmpty disk store meta w
  seen_empty partition config lists disks s n reg w b f seen =
      let armed = blank_armed partition config lists disks s n reg reg w b f b.file_tells b.file in
      record { logs = seen; store_tells = armed.store_tells; objects = armed.objects; meta_tells = armed.meta_tells; notes = armed.notes }

  -- and a power cut leaves no metadata events
  pub told_alone : (n t : M) → KeepsNotes (meta.content n) (meta.content t) → LeavesTold (meta.content n) → LeavesTold (meta.content t)
  told_alone n t k told l at = told l (k.left l at) ∙ sym k.notes

  -- a journal in which nothing has happened has come to where it began
  begun_at : (opening : State) (w : Whole D S M) (c : IsCentralLeft disk store meta opening w) → w.journal.items ≡ [] → plain_in disk store meta opening w c ≡ opening
  begun_at opening w c empty =
      let now = c (meta.content w.tier.meta).notes (inl refl) in
      let is : replay w.lists opening [] ≡ Some now.central.plain = subst (λ (j : List JournalEntry). replay w.lists opening j ≡ Some now.central.plain) empty now.central.replays in
      cc (is)

  -- a fresh world whose registry couldn't be written leaves devices that hold nothing, or represent what is left of the
  -- beginning
  pub begun_stands : (laws : FileLaws) (partition : PartitionId) (config : Config) (lists : List ActorList) (cleared : List D) (s : S) (n : M) (reg : D) (w : Whole D S M) (opening : State) (disks : List D) (t : S) (m : M) (r : D) (why : ColdRefusal)
      → IsBlank disk store meta s n reg → IsFresh disk store meta partition config lists cleared s n w → IsCentralLeft disk store meta opening w → GivesBack disk w reg disks t m r why
      → IsBlank disk store meta t m r ⊎ StandsFor disk store meta partition disks t m r (cold_of opening)
  begun_stands laws partition config lists cleared s n reg w opening disks t m r why b f c g =
      let told : IsTrue (disk.content r).is_observable = subst IsTrue (sym g.file.is_observable) b.file_tells in
      elim (g.file.reads b.file_tells) [
        | inl same ↦ inl (subst (λ (k : S). IsBlank disk store meta k m r) (sym g.store_is) (subst (λ (k : M). IsBlank disk store meta w.tier.store k r) (sym g.meta_is)
            (blank_armed partition config lists cleared s n reg r w b f told (same ∙ b.file))))
        | inr file ↦ inr (subst (λ (k : PartitionId). StandsFor disk store meta k disks t m r (cold_of opening)) f.partition_is
            (subst (λ (p : State). StandsFor disk store meta w.partition disks t m r (cold_of p)) (begun_at opening w c f.journal)
            (closed_cold laws disk store meta opening w c disks t m r g.disks_are g.again g.store_is g.meta_is told file g.some g.few)))
      ]
