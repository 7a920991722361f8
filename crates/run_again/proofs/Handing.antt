-- What a run left is what the environment provides next.
use Rattle.std.proofs.Common.{◌≡◌, inl, inr, ◌∙◌, sym, ap, subst, refl, ℕ, zero, suc, List, [], ◌∷◌, length, slice_get, Option, Some, None, IsTrue, arith}
use Rattle.std.specs.Prelude.{Ok, IsSomeAnd}
use Rattle.tier_base.specs.declared.names.PartitionId.{PartitionId}
use Rattle.tier_base.specs.declared.plain.FileName.TheVariants.{Registry}
use Rattle.disk_model.specs.Content as disk_content
use Rattle.disk_model.specs.declared.disk.Disk.{Ghosts as DiskGhosts}
use Rattle.object_store.specs.Content as store_content
use Rattle.object_store.specs.declared.store.Store.{Ghosts as StoreGhosts}
use Rattle.meta_log.specs.Content as log_content
use Rattle.meta_log.specs.declared.log.MetaLog.{Ghosts as MetaGhosts}
use Rattle.registry.specs.View.{view_of}
use Rattle.registry_file.specs.Reading.{view_in}
use Rattle.plain_log.specs.declared.command.Config.{Config}
use Rattle.plain_log.specs.declared.state.State.{State}
use Rattle.plain_log.specs.declared.journal.JournalEntry.{JournalEntry}
use Rattle.plain_log.specs.Fresh.{fresh}
use Rattle.device_yard.specs.declared.came.Came.{Came}
use Rattle.device_yard.specs.YardContent.{YardContent, HandsDisk, HandsStore, HandsLog, HoldsDisk}
use Rattle.partition_world.specs.declared.tier.Devices.{Devices}
use Rattle.script_lang.specs.declared.script.PartScript.{PartScript}
use Rattle.cold_state.specs.Cold.{cold_of}
use Rattle.cold_start.specs.ColdWorld.{IsCutDisk, AreCut}
use Rattle.cold_start.specs.Stands.{StandsFor}
use Rattle.cold_start.specs.Opening.{AllLast, IsPartitionOpened}
use Rattle.cold_start.specs.Running.{Running}
use Rattle.cold_start.proofs.StandLaw.{keeps_cold}
use Rattle.cold_start.proofs.SweptWorldLaw.{kept_cut}
use Rattle.plain_log.specs.declared.command.ActorList.{ActorList}
use Rattle.run_yard.specs.Opens.{MayBeginIn}
use Rattle.run_yard.specs.Runs.{IsRunOnDevices}
use Rattle.run_yard.specs.Yard.{HoldsAll}
use Rattle.run_again.specs.Again.{StandsIn, RunsFromState, RunsContinue}

module _ {D : Type 0} (content : D → disk_content.Content) where
  -- disks one by one
  are_cut : (disks nows : List D) → length nows ≡ length disks → ((i : ℕ) (d e : D) → slice_get disks i ≡ Some d → slice_get nows i ≡ Some e → IsCutDisk (content d) (content e)) → AreCut content disks nows
  are_cut [] [] long each = tt
  are_cut (d ∷ disks) (e ∷ nows) long each = (each zero d e refl refl, are_cut disks nows (omega (arith, long)) (λ i x y at now. each (suc i) x y at now))
  are_cut [] (e ∷ nows) long each = absurd (omega (arith, long))
  are_cut (d ∷ disks) [] long each = absurd (omega (arith, long))

  -- a disk that is provided with what was held
  handed_cut : (o : Option D) (d e : D) → o ≡ Some d → HandsDisk content o (content e) → IsCutDisk (content d) (content e)
  handed_cut o d e is hands =
      let k : disk_content.Keeps (content d) (content e) = subst (λ (p : Option D). HandsDisk content p (content e)) is hands in
      record { is_observable = λ t. subst IsTrue (sym k.is_observable) t; images = k.images }

  -- a registry's disk, which was held as another one with the same files
  handed_told : (o : Option D) (d e : D) → HoldsDisk content d o → HandsDisk content o (content e) → IsTrue (content d).is_observable → IsTrue (content e).is_observable
  handed_told None d e holds hands t = absurd holds
  handed_told (Some x) d e holds hands t = subst IsTrue (sym (hands.is_observable ∙ holds.is_observable)) t

  handed_file : (o : Option D) (d e : D) → HoldsDisk content d o → HandsDisk content o (content e) → (content e).files Registry ≡ (content d).files Registry
  handed_file None d e holds hands = absurd holds
  handed_file (Some x) d e holds hands = hands.files Registry ∙ holds.files Registry

module _ {D S M : Type 0} (disk : DiskGhosts D) (store : StoreGhosts S) (meta : MetaGhosts M) where
  -- what a run left represents a state, and so does what is provided next
  pub next_stands : (count : ℕ) (p : PartitionId) (held : YardContent D S M) (back : Devices D S M) (kept : D) (q : State) → length back.disks.items ≡ count → HoldsAll disk.content p back kept held
      → StandsFor disk store meta p back.disks.items back.store back.meta kept q → StandsIn disk store meta count held p q
  next_stands count p held back kept q many holds stands = λ devices registry so hands.
      let kept_store : store_content.Keeps (store.content back.store) (store.content devices.store) =
      subst (λ (o : Option S). HandsStore store.content o (store.content devices.store)) holds.others.store hands.objects in
      let kept_log : log_content.Keeps (meta.content back.meta) (meta.content devices.meta) =
      subst (λ (o : Option M). HandsLog meta.content o (meta.content devices.meta)) holds.others.log hands.notes in
      record {
        file_tells = handed_told disk.content (held.registries p) kept registry holds.file hands.file stands.file_tells;
        file = subst (λ (o : Option (List ℕ)). IsSomeAnd o (λ bytes. view_in bytes ≡ Ok (view_of q.registry)))
            (sym (handed_file disk.content (held.registries p) kept registry holds.file hands.file)) stands.file;
        stand = keeps_cold disk store meta p q.registry back.disks.items devices.disks.items back.store back.meta devices.store devices.meta q stands.stand
            (are_cut disk.content back.disks.items devices.disks.items (so ∙ sym many)
            (λ i d e at now. handed_cut disk.content (held.disks p (record { 0 = i })) d e (holds.others.disks (record { 0 = i }) d at) (hands.logs (record { 0 = i }) e now)))
            (kept_cut (store.content back.store) (store.content devices.store) kept_store)
            (record { is_observable = λ t. subst IsTrue (sym kept_log.is_observable) t; left = kept_log.left });
      }

  goes_on : (config : Config) (part : PartScript) (was held : YardContent D S M) (run : ℕ × List JournalEntry) (came : List Came) (is : IsRunOnDevices disk store meta config part was held run came) → IsTrue held.is_observable
      → length is.back.disks.items ≡ config.brokers → (q : State) → MayBeginIn disk store meta part.partition config is.devices is.registry q → RunsFromState disk store meta config part held run.1 q
  goes_on config part was held run came is now many q at = record {
    log_run = is.is.log_run q at;
    stand = next_stands config.brokers part.partition held is.back is.kept (cold_of (is.is.log_run q at).last) many (is.holds now) (is.is.stand q at);
  }

  -- as many disks were passed in
  last_long : (disks nows : List D) → AllLast disk.control disks nows → length nows ≡ length disks
  last_long [] [] last = refl
  last_long (d ∷ disks) (e ∷ nows) last = ap suc (last_long disks nows last.1)
  last_long [] (e ∷ nows) last = absurd last
  last_long (d ∷ disks) [] last = absurd last

  given_long : (partition : PartitionId) (config : Config) (lists : List ActorList) (disks : List D) (s : S) (m : M) (reg : D) (t : Running D S M) → IsPartitionOpened disk store meta partition config lists disks s m reg t → length disks ≡ config.brokers
  given_long partition config lists disks s m reg t (inl starts) = sym (last_long disks starts.cleared starts.disks_last) ∙ starts.fresh.count
  given_long partition config lists disks s m reg t (inr goes) = goes.reopened.count

  pub runs_continue : RunsContinue disk store meta
  runs_continue config part was held run came is told now = record {
    from = λ q stands. goes_on config part was held run came is now is.is.count q
        (inl (stands is.devices is.registry (given_long part.partition config part.lists is.devices.disks.items is.devices.store is.devices.meta is.registry is.is.first is.is.starts) (is.handed told)));
    begun = λ none. goes_on config part was held run came is now is.is.count (fresh config) (inr (is.begun told none));
  }
