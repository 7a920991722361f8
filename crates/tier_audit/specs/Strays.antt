-- The first object that is to go, as the keys are gone through.
use Rattle.std.specs.Prelude.{◌≡◌, ◌⊎◌, ℕ, Bool, true, false, List, Option, Some, None}
use Rattle.tier_base.specs.declared.plain.State.{State}
use Rattle.tier_base.specs.declared.plain.State.TheVariants.{DeleteFinished}
use Rattle.tier_base.specs.declared.object_key.ObjectKey.{ObjectKey}
use Rattle.tier_base.specs.Key.{key_text}
use Rattle.tier_base.specs.Told.{In}
use Rattle.segment_meta.specs.declared.note.Entry.{Entry}
use Rattle.remote_view.specs.Fold.{entry_of, state_of}
use Rattle.tier_audit.specs.declared.keys.Stray.{Stray}
use Rattle.tier_audit.specs.declared.verdict.Flaw.{Flaw}
use Rattle.tier_audit.specs.declared.verdict.Flaw.TheVariants.{NoEntry, Left}
use Rattle.tier_audit.specs.Flaws.{is_stray, IsTextUpTo}

-- an object under the key is to go
abbrev pub goes : List Entry → ObjectKey → Bool
goes entries key = is_stray (state_of key.id entries)

-- the key is in a list, and under none before it in the list an object is to go
pub record IsLeast (entries : List Entry) (keys : List ObjectKey) (key : ObjectKey) : Type 0 where
  pub within : In key keys
  pub least : (other : ObjectKey) → In other keys → goes entries other ≡ true
      → IsTextUpTo (key_text key) (key_text other)

-- the first of the keys so far under which an object is to go
abbrev pub IsFirstIn : List Entry → List ObjectKey → Option Stray → Type 0
IsFirstIn entries keys None = (key : ObjectKey) → In key keys → goes entries key ≡ false
IsFirstIn entries keys (Some stray) =
    IsLeast entries keys stray.key × (goes entries stray.key ≡ true) × (stray.text.items ≡ key_text stray.key)

-- the first one so far doesn't come after a text
abbrev pub ComesBehind : List ℕ → Option Stray → Type 0
ComesBehind text None = ⊥
ComesBehind text (Some stray) = IsTextUpTo stray.text.items text

-- what is reported of an object of an id in this state that is to go
abbrev pub flaw_of : Option State → ObjectKey → Flaw
flaw_of None key = NoEntry key
flaw_of (Some state) key = Left key

-- the first one is of this key
abbrev pub HasKey : ObjectKey → Option Stray → Type 0
HasKey key None = ⊥
HasKey key (Some stray) = (stray.key ≡ key) × (stray.text.items ≡ key_text key)

-- the key has become the first one, unless that doesn't come after it
abbrev pub Offers : ObjectKey → Option Stray → Option Stray → Type 0
Offers key old new =
    ((new ≡ old) × ComesBehind (key_text key) old) ⊎ (HasKey key new × (ComesBehind (key_text key) old → ⊥))

-- what is found of keys
abbrev pub FindsStray : List Entry → List ObjectKey → Option Flaw → Type 0
FindsStray entries keys None = (key : ObjectKey) → In key keys → goes entries key ≡ false
FindsStray entries keys (Some (NoEntry key)) = IsLeast entries keys key × (entry_of key.id entries ≡ None)
FindsStray entries keys (Some (Left key)) = IsLeast entries keys key × (state_of key.id entries ≡ Some DeleteFinished)
FindsStray entries keys (Some flaw) = ⊥
