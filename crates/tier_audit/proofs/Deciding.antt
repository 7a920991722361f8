-- What an audit says, from what is found of keys and of copies.
use Rattle.std.proofs.Common.{◌≡◌, ◌≢◌, ap, refl, true, false, List, Option, Some, None, IsSome}
use Rattle.std.specs.Option.{option_map}
use Rattle.tier_base.specs.declared.plain.State.{State}
use Rattle.tier_base.specs.declared.plain.State.TheVariants.{DeleteFinished}
use Rattle.tier_base.specs.declared.object_key.ObjectKey.{ObjectKey}
use Rattle.tier_base.specs.Told.{In, NamesAllHeld}
use Rattle.segment_meta.specs.declared.note.Entry.{Entry}
use Rattle.object_store.specs.Content.{Objects}
use Rattle.remote_view.specs.Fold.{entry_of, state_of}
use Rattle.tier_sweep.specs.Rest.{AreNamed, NoneIsLeft}
use Rattle.tier_audit.specs.declared.verdict.Flaw.{Flaw}
use Rattle.tier_audit.specs.declared.verdict.Flaw.TheVariants.{NoEntry, Left, Custom, Missing, Wrong}
use Rattle.tier_audit.specs.Whole.{AreReadable, IsWholeTier}
use Rattle.tier_audit.specs.Flaws.{is_stray, IsFirstStray, IsFirstOfCopies, IsFirstFlaw}
use Rattle.tier_audit.specs.Strays.{goes, IsLeast, FindsStray}
use Rattle.tier_audit.specs.Copies.{IsFirstUnreadable}

-- an id whose object stays has an entry, and its deletion isn't finished
stays_named : (o : Option Entry) → is_stray (option_map (λ (entry : Entry). entry.state) o) ≡ false → IsSome o
stays_named None e = absurd (cc)
stays_named (Some entry) e = refl

stays_left : (o : Option State) → is_stray o ≡ false → o ≢ Some DeleteFinished
stays_left o e is = (let go : is_stray o ≡ true = ap is_stray is in cc)

module _ (objects : Objects) (entries : List Entry) (keys : List ObjectKey) (names : NamesAllHeld objects keys) where
  -- where no object is to go, each has an entry and none is left
  pub all_named : ((key : ObjectKey) → In key keys → goes entries key ≡ false) → AreNamed objects entries
  all_named none key there = stays_named (entry_of key.id entries) (none key ((names.are key).0 there))

  pub none_left : ((key : ObjectKey) → In key keys → goes entries key ≡ false) → NoneIsLeft objects entries
  none_left none key there = stays_left (state_of key.id entries) (none key ((names.are key).0 there))

  first_stray : (key : ObjectKey) → IsLeast entries keys key → IsFirstStray objects entries key
  first_stray key least = record { there = (names.are key).1 least.within; least = λ other there. least.least other ((names.are other).0 there) }

  -- an object that is to go
  pub stray_is_first : (flaw : Flaw) → FindsStray entries keys (Some flaw) → IsFirstFlaw objects entries flaw
  stray_is_first (NoEntry key) found = (first_stray key found.0, found.1)
  stray_is_first (Left key) found = (first_stray key found.0, found.1)
  stray_is_first (Custom id) found = absurd found
  stray_is_first (Missing key) found = absurd found
  stray_is_first (Wrong key at) found = absurd found

  of_copies : ((key : ObjectKey) → In key keys → goes entries key ≡ false) → (flaw : Flaw) → IsFirstUnreadable objects entries flaw → IsFirstOfCopies objects entries flaw
  of_copies none flaw u = record {
    named = all_named none;
    none_left = none_left none;
    before = u.before;
    entry = u.entry;
    more = u.more;
    parts = u.parts;
    readable = u.readable;
    finished = u.finished;
    flaw_is = u.flaw_is;
  }

  -- or else a copy that isn't readable
  pub copy_is_first : ((key : ObjectKey) → In key keys → goes entries key ≡ false) → (flaw : Flaw) → IsFirstUnreadable objects entries flaw → IsFirstFlaw objects entries flaw
  copy_is_first none (NoEntry key) u = absurd u.flaw_is
  copy_is_first none (Left key) u = absurd u.flaw_is
  copy_is_first none (Custom id) u = of_copies none (Custom id) u
  copy_is_first none (Missing key) u = of_copies none (Missing key) u
  copy_is_first none (Wrong key at) u = of_copies none (Wrong key at) u

  -- or all is right
  pub whole_is : ((key : ObjectKey) → In key keys → goes entries key ≡ false) → AreReadable objects entries → IsWholeTier objects entries
  whole_is none readable = record { named = all_named none; none_left = none_left none; readable = readable }
