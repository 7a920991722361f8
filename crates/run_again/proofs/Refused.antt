-- What a refused run left is what the environment provides next.
use Rattle.std.proofs.Common.{◌≡◌, ◌≢◌, inl, inr, ◌∙◌, sym, subst, refl, ℕ, ◌≤◌, List, [], length, Option, Some, None, IsTrue, arith}
use Rattle.std.specs.Prelude.{IsSome}
use Rattle.std.proofs.lemmas.Bool.{false≢true}
use Rattle.tier_base.specs.declared.names.PartitionId.{PartitionId}
use Rattle.tier_base.specs.declared.object_key.ObjectKey.{ObjectKey}
use Rattle.tier_base.specs.declared.plain.FileName.TheVariants.{Registry}
use Rattle.disk_model.specs.Content as disk_content
use Rattle.disk_model.specs.declared.disk.Disk.{Ghosts as DiskGhosts}
use Rattle.object_store.specs.Content as store_content
use Rattle.object_store.specs.declared.store.Store.{Ghosts as StoreGhosts}
use Rattle.meta_log.specs.Content as log_content
use Rattle.meta_log.specs.declared.log.MetaLog.{Ghosts as MetaGhosts}
use Rattle.plain_log.specs.declared.command.Config.{Config}
use Rattle.plain_log.specs.declared.state.State.{State}
use Rattle.plain_log.specs.Fresh.{fresh}
use Rattle.device_yard.specs.YardContent.{YardContent, IsThereWith, HandsDisk, HandsStore, HandsLog, HoldsDisk, HasTier}
use Rattle.partition_world.specs.declared.tier.Devices.{Devices}
use Rattle.script_lang.specs.declared.script.PartScript.{PartScript}
use Rattle.cold_state.specs.Cold.{cold_of}
use Rattle.cold_start.specs.Stands.{StandsFor, IsBlank}
use Rattle.run_yard.specs.Handed.{HandsDevices}
use Rattle.run_yard.specs.Reading.{file_in}
use Rattle.run_yard.specs.Stopped.{DiskRests, StoreRests, LogRests, RestsIn, IsLedFrom, IsStoppedIn}
use Rattle.run_yard.specs.Yard.{HoldsAll}
use Rattle.run_again.specs.Again.{StandsIn, IsLedOn, IsUnbegun, StaysOrIsLed, RefusalsContinue}
use Rattle.run_again.proofs.Handing.{next_stands}

-- two calls that change nothing
keeps_then : (a b c : disk_content.Content) → disk_content.Lawful a → disk_content.Keeps a b → disk_content.Keeps b c → disk_content.Keeps a c
keeps_then a b c lawful f g =
    let first = f.time.later in
    let second = g.time.later in
    record {
      is_observable = g.is_observable ∙ f.is_observable;
      files = λ n. g.files n ∙ f.files n;
      images = λ k at. f.images k (g.images k at);
      time = record {
        later = omega (arith, first, second);
        nothing_else = λ t k early at. elim (g.time.nothing_else t k (omega (arith, early, first)) at) [
          | inl mid ↦ elim (f.time.nothing_else t k early mid) [ inl old ↦ inl old | inr image ↦ inl (lawful.earlier t a.moment k early (f.images k image)) ]
          | inr now ↦ inr now
        ];
        keeps = λ t k early at. g.time.keeps t k (omega (arith, early, first)) (f.time.keeps t k early at);
      };
    }

none_some : {A : Type 0} (o : Option A) → o ≡ None → IsSome o → ⊥
none_some None is some = false≢true some
none_some (Some x) is some = absurd (let no : ◌≡◌ {A = Option _} (Some x) None = is in cc)

module _ {D S M : Type 0} (disk : DiskGhosts D) (store : StoreGhosts S) (meta : MetaGhosts M) where
  -- what is provided where all is as it was might have been provided before
  disk_still : ((d : D) → disk_content.Lawful (disk.content d)) → (a b : Option D) (e : D) → DiskRests disk.content a b → HandsDisk disk.content b (disk.content e) → HandsDisk disk.content a (disk.content e)
  disk_still lawful None None e rests hands = hands
  disk_still lawful None (Some x) e rests hands = record { is_observable = subst IsTrue (sym hands.is_observable) rests.is_observable; files = λ n. hands.files n ∙ rests.files n; images = λ c at n. rests.images c (hands.images c at) n }
  disk_still lawful (Some y) None e rests hands = absurd rests
  disk_still lawful (Some y) (Some x) e rests hands = keeps_then (disk.content y) (disk.content x) (disk.content e) (lawful y) rests hands

  store_still : (a b : Option S) (e : S) → StoreRests store.content a b → HandsStore store.content b (store.content e) → HandsStore store.content a (store.content e)
  store_still None None e rests hands = hands
  store_still None (Some x) e rests hands = record { is_observable = subst IsTrue (sym hands.is_observable) rests.is_observable; objects = λ k. hands.objects k ∙ rests.objects k }
  store_still (Some y) None e rests hands = absurd rests
  store_still (Some y) (Some x) e rests hands = record { is_observable = hands.is_observable ∙ rests.is_observable; objects = λ k. hands.objects k ∙ rests.objects k }

  log_still : (a b : Option M) (e : M) → LogRests meta.content a b → HandsLog meta.content b (meta.content e) → HandsLog meta.content a (meta.content e)
  log_still None None e rests hands = hands
  log_still None (Some x) e rests hands = record {
    is_observable = subst IsTrue (sym hands.is_observable) rests.is_observable;
    notes = hands.notes ∙ rests.notes;
    left = λ l at. rests.left l (hands.left l at) ∙ sym hands.notes;
  }
  log_still (Some y) None e rests hands = absurd rests
  log_still (Some y) (Some x) e rests hands = record { is_observable = hands.is_observable ∙ rests.is_observable; notes = hands.notes ∙ rests.notes; left = λ l at. rests.left l (hands.left l at) }

  hands_still : ((d : D) → disk_content.Lawful (disk.content d)) → (p : PartitionId) (devices : Devices D S M) (registry : D) (was held : YardContent D S M) → RestsIn disk store meta p was held
      → HandsDevices disk store meta p devices registry held → HandsDevices disk store meta p devices registry was
  hands_still lawful p devices registry was held rests hands = record {
    logs = λ b d at. disk_still lawful (was.disks p b) (held.disks p b) d (rests.disks b) (hands.logs b d at);
    objects = store_still (was.stores p) (held.stores p) devices.store rests.objects hands.objects;
    notes = log_still (was.logs p) (held.logs p) devices.meta rests.notes hands.notes;
    file = disk_still lawful (was.registries p) (held.registries p) registry rests.file hands.file;
  }

  -- where there was no registry there is none, and no tier where there was none
  no_file : (a b : Option D) → DiskRests disk.content a b → file_in disk.content a ≡ None → file_in disk.content b ≡ None
  no_file None None rests none = none
  no_file None (Some x) rests none = rests.files Registry
  no_file (Some y) None rests none = absurd rests
  no_file (Some y) (Some x) rests none = rests.files Registry ∙ none

  had_objects : (a b : Option S) → StoreRests store.content a b → IsThereWith (λ s. (k : ObjectKey) × IsSome ((store.content s).objects k)) b → IsThereWith (λ s. (k : ObjectKey) × IsSome ((store.content s).objects k)) a
  had_objects None None rests has = has
  had_objects None (Some x) rests has = absurd (none_some ((store.content x).objects has.0) (rests.objects has.0) has.1)
  had_objects (Some y) None rests has = absurd rests
  had_objects (Some y) (Some x) rests has = (has.0, subst (λ (o : Option (List ℕ)). IsSome o) (rests.objects has.0) has.1)

  had_notes : (a b : Option M) → LogRests meta.content a b → IsThereWith (λ m. (meta.content m).notes ≢ []) b → IsThereWith (λ m. (meta.content m).notes ≢ []) a
  had_notes None None rests has = has
  had_notes None (Some x) rests has = absurd (has rests.notes)
  had_notes (Some y) None rests has = absurd rests
  had_notes (Some y) (Some x) rests has = λ none. has (rests.notes ∙ none)

  unbegun_still : (p : PartitionId) (was held : YardContent D S M) → RestsIn disk store meta p was held → IsUnbegun disk store meta was p → IsUnbegun disk store meta held p
  unbegun_still p was held rests none = record {
    file = no_file (was.registries p) (held.registries p) rests.file none.file;
    tierless = λ tier. none.tierless (before tier);
  }
    where
      before : HasTier disk.content store.content meta.content held p → HasTier disk.content store.content meta.content was p
      before (inl objects) = inl (had_objects (was.stores p) (held.stores p) rests.objects objects)
      before (inr notes) = inr (had_notes (was.logs p) (held.logs p) rests.notes notes)

  -- devices that hold nothing came back
  blank_file : (kept : D) (o : Option D) → HoldsDisk disk.content kept o → (disk.content kept).files Registry ≡ None → file_in disk.content o ≡ None
  blank_file kept None holds none = absurd holds
  blank_file kept (Some x) holds none = holds.files Registry ∙ none

  unbegun_back : (p : PartitionId) (held : YardContent D S M) (back : Devices D S M) (kept : D) → HoldsAll disk.content p back kept held → IsBlank disk store meta back.store back.meta kept → IsUnbegun disk store meta held p
  unbegun_back p held back kept holds blank = record {
    file = blank_file kept (held.registries p) holds.file blank.file;
    tierless = none;
  }
    where
      none : HasTier disk.content store.content meta.content held p → ⊥
      none (inl objects) =
          let there : (k : ObjectKey) × IsSome ((store.content back.store).objects k) = subst (IsThereWith (λ s. (k : ObjectKey) × IsSome ((store.content s).objects k))) holds.others.store objects in
          none_some ((store.content back.store).objects there.0) (blank.objects blank.store_tells there.0) there.1
      none (inr notes) =
          let there : (meta.content back.meta).notes ≢ [] = subst (IsThereWith (λ m. (meta.content m).notes ≢ [])) holds.others.log notes in
          there (blank.notes blank.meta_tells)

  led_on : (config : Config) (part : PartScript) (held : YardContent D S M) (back : Devices D S M) (kept : D) (q : State) → length back.disks.items ≡ config.brokers → HoldsAll disk.content part.partition back kept held
      → IsLedFrom disk store meta part.partition part.lists back kept q → IsLedOn disk store meta config part held q
  led_on config part held back kept q many holds led = record {
    journal = led.journal;
    last = led.last;
    replays = led.replays;
    safe = led.safe;
    stand = next_stands disk store meta config.brokers part.partition held back kept (cold_of led.last) many holds led.stand;
  }

  stopped_on : (config : Config) (part : PartScript) (was held : YardContent D S M) → IsStoppedIn disk store meta config part was held → StaysOrIsLed disk store meta config part was held
  stopped_on config part was held is = record {
    from = λ q stands. elim (is.stopped.from q (stands is.devices is.registry is.given is.handed)) [
      | inl still ↦ inl (next_stands disk store meta config.brokers part.partition held is.back is.kept q is.count is.holds still)
      | inr led ↦ inr (led_on config part held is.back is.kept q is.count is.holds led)
    ];
    begun = λ unbegun.
        let opens = is.begun unbegun.file in
        elim (is.stopped.begun opens.disks_tell opens.blank) [
          | inl blank ↦ inl (unbegun_back part.partition held is.back is.kept is.holds blank)
          | inr led ↦ inr (led_on config part held is.back is.kept (fresh config) is.count is.holds led)
        ];
  }

  pub refusals_continue : ((d : D) → disk_content.Lawful (disk.content d)) → RefusalsContinue disk store meta
  refusals_continue lawful = record {
    stopped = stopped_on;
    rests = λ config part was held rests. record {
      from = λ q stands. inl (λ devices registry so hands. stands devices registry so (hands_still lawful part.partition devices registry was held rests hands));
      begun = λ unbegun. inl (unbegun_still part.partition was held rests unbegun);
    };
  }
