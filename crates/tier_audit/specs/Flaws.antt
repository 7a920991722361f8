-- The first flaw of a remote tier at rest, and what an audit says.
--
-- Flaws have an order: first those of keys, by the keys' texts; then those of finished copies, in the order of their
-- entries. Of one copy the custom metadata comes first, and then its parts in their order. Of a part that isn't right
-- the place in its object is reported of the first batch, index entry or text line that can't exist: the front before
-- it can, and with it no longer. Where no single one breaks it, or something lacks, that is the object's end; so it is
-- where an index isn't cut into whole entries, and where the object ends before the part does. A batch has the epoch
-- that the entry's map has at its base offset, or it can't exist.
--
--   form                                 says
--   IsFirstBad spelled MayBeginLog b at     the first place in bytes at which an item can't exist
--   IsWrong objects entry part at        a part exists and isn't right, and this place is reported of it
--   IsFirstFlaw objects entries flaw     the first flaw
--   IsAuditVerdict objects entries verdict    what an audit says
use Rattle.std.specs.Prelude.{◌≡◌, ◌≢◌, ◌⊎◌, ℕ, ◌+◌, ◌≤◌, ◌%◌, ◌==◌, if◌then◌else◌, Bool, true, false}
use Rattle.std.specs.Prelude.{◌≤ℤ◌, List, [], ◌∷◌, ◌++◌, length, Option, Some, None, IsSome}
use Rattle.std.specs.List.{AllByRecursion, concat}
use Rattle.std.specs.Ordering.{nat_cmp, is_gt}
use Rattle.std.specs.Cmp.Lexicographic.{slice_cmp}
use Rattle.tier_base.specs.declared.plain.Part.{Part}
use Rattle.tier_base.specs.declared.plain.Part.TheVariants.{Log, Index, TimeIndex, Epochs, Pack}
use Rattle.tier_base.specs.declared.plain.State.{State}
use Rattle.tier_base.specs.declared.plain.State.TheVariants.{CopyFinished, DeleteFinished}
use Rattle.tier_base.specs.declared.object_key.ObjectKey.{ObjectKey}
use Rattle.tier_base.specs.Key.{key_text}
use Rattle.tier_base.specs.Told.{NamesAllHeld}
use Rattle.log_terms.specs.Batch.{base_of, epoch_of, max_ts_of}
use Rattle.log_terms.specs.Line.{epoch_at}
use Rattle.log_terms.specs.Log.{joined, end_from}
use Rattle.sparse_index.specs.Bytes.{bytes_of}
use Rattle.sparse_index.specs.Offsets.{entry_bytes}
use Rattle.sparse_index.specs.Times.{moment_bytes}
use Rattle.epoch_line.specs.Text.{CanBegin}
use Rattle.segment_file.specs.Segment.{IsSegment}
use Rattle.segment_meta.specs.declared.note.Entry.{Entry}
use Rattle.object_store.specs.Content.{Objects}
use Rattle.object_store.specs.declared.placing.Spot.{Spot}
use Rattle.object_store.specs.Place.{told_layout, all_of, short_of}
use Rattle.remote_view.specs.Fold.{entry_of, state_of}
use Rattle.tier_sweep.specs.Rest.{AreNamed, NoneIsLeft}
use Rattle.tier_audit.specs.declared.verdict.Flaw.{Flaw}
use Rattle.tier_audit.specs.declared.verdict.Flaw.TheVariants.{NoEntry, Left, Custom, Missing, Wrong}
use Rattle.tier_audit.specs.declared.verdict.Verdict.{Verdict}
use Rattle.tier_audit.specs.declared.verdict.Verdict.TheVariants.{Sound, Unsound}
use Rattle.tier_audit.specs.Whole.{Describes, AreMarks, AreHeights, place_of}
use Rattle.tier_audit.specs.Whole.{IsPartStored, PartsHold, AreReadable, IsWholeTier}

-- the items before a place may begin bytes, and with one more that is there they may not
pub record IsFirstBad {X : Type 0} (spelled : List X → List ℕ) (MayBeginLog : List X → Type 0) (bytes : List ℕ)
    (at : ℕ) : Type 0 where
  pub before : List X
  pub rest : List ℕ
  pub parts : bytes ≡ spelled before ++ rest
  pub place : at ≡ length (spelled before)
  pub begins : MayBeginLog before
  pub stops : (item : X) (more : List ℕ) → bytes ≡ spelled (before ++ item ∷ []) ++ more
      → MayBeginLog (before ++ item ∷ []) → ⊥

-- batches may begin the log of a copy: they end within it, each has the map's epoch at its base, and none is past its
-- greatest timestamp
pub record MayBeginLog (entry : Entry) (batches : List (List ℕ)) : Type 0 where
  pub is : IsSegment entry.start batches
  pub within : end_from entry.start batches ≤ entry.end + 1
  pub epochs : AllByRecursion (λ batch. epoch_at entry.map (base_of batch) ≡ Some (epoch_of batch)) batches
  pub times : AllByRecursion (λ batch. max_ts_of batch ≤ℤ entry.max_ts) batches

-- the place that is reported of entries of one width
abbrev pub IsEntryPlace : {X : Type 0} → ℕ → (List X → List ℕ) → (List X → Type 0) → List ℕ → ℕ → Type 0
IsEntryPlace width spelled MayBeginLog bytes at =
    ((length bytes % width ≢ 0) × (at ≡ length bytes))
    ⊎ ((length bytes % width ≡ 0) × IsFirstBad spelled MayBeginLog bytes at)

-- the batches of a copy's log, where that is right
pub record HasCopiedLog (objects : Objects) (entry : Entry) (batches : List (List ℕ)) : Type 0 where
  pub describes : Describes entry batches
  pub log : IsPartStored objects entry batches Log

-- the place that is reported of a part's bytes
abbrev pub IsFlawPlace : Objects → Entry → Part → List ℕ → ℕ → Type 0
IsFlawPlace objects entry Log bytes at = IsFirstBad joined (MayBeginLog entry) bytes at
IsFlawPlace objects entry Index bytes at =
    (batches : List (List ℕ)) → HasCopiedLog objects entry batches
    → IsEntryPlace 8 (bytes_of entry_bytes) (AreMarks entry.start batches) bytes at
IsFlawPlace objects entry TimeIndex bytes at =
    (batches : List (List ℕ)) → HasCopiedLog objects entry batches
    → IsEntryPlace 12 (bytes_of moment_bytes) (AreHeights entry.start batches) bytes at
IsFlawPlace objects entry Epochs bytes at = IsFirstBad concat CanBegin bytes at
IsFlawPlace objects entry Pack bytes at = ⊥

-- the same, by where the object ends before the part does: then it is the bytes' end
abbrev pub IsPlaceIn : Objects → Entry → Part → Option ℕ → List ℕ → ℕ → Type 0
IsPlaceIn objects entry part (Some end) bytes at = at ≡ length bytes
IsPlaceIn objects entry part None bytes at = IsFlawPlace objects entry part bytes at

-- a place in a part, reported as one in its object: the part's end as the object's
abbrev pub in_object : Spot → List ℕ → ℕ → ℕ
in_object spot object at = if at == length (all_of spot object) then length object else spot.at + at

-- the parts before one
abbrev pub parts_before : Part → List Part
parts_before Log = []
parts_before Index = Log ∷ []
parts_before TimeIndex = Log ∷ Index ∷ []
parts_before Epochs = Log ∷ Index ∷ TimeIndex ∷ []
parts_before Pack = []

-- the object of a part exists and the part isn't right, and this place in the object is reported of it
pub record IsWrong (objects : Objects) (entry : Entry) (part : Part) (spot : Spot) (at : ℕ) : Type 0 where
  pub object : List ℕ
  pub there : objects spot.key ≡ Some object
  pub wrong : PartsHold objects entry (parts_before part ++ part ∷ []) → ⊥
  pub within : ℕ
  pub place : IsPlaceIn objects entry part (short_of spot (all_of spot object)) (all_of spot object) within
  pub at_is : at ≡ in_object spot object within

-- the key is that of the object in which a part of the copy exists, and the parts before it are right
pub record IsAtPart (objects : Objects) (entry : Entry) (key : ObjectKey) : Type 0 where
  pub part : Part
  pub own : part ≢ Pack
  pub spot : Spot
  pub place : place_of entry part ≡ Some spot
  pub key_is : key ≡ spot.key
  pub before : PartsHold objects entry (parts_before part)

-- the first flaw of a finished copy
abbrev pub IsCopyFlaw : Objects → Entry → Flaw → Type 0
IsCopyFlaw objects entry (NoEntry key) = ⊥
IsCopyFlaw objects entry (Left key) = ⊥
IsCopyFlaw objects entry (Custom id) = (id ≡ entry.id) × (entry.packed ≡ true) × (told_layout entry.custom ≡ None)
IsCopyFlaw objects entry (Missing key) = IsAtPart objects entry key × (objects key ≡ None)
IsCopyFlaw objects entry (Wrong key at) =
    (here : IsAtPart objects entry key) × IsWrong objects entry here.part here.spot at

-- an object of an id in this state, or without an entry, is to go
abbrev pub is_stray : Option State → Bool
is_stray None = true
is_stray (Some DeleteFinished) = true
is_stray state = false

-- a text doesn't come after another
abbrev pub IsTextUpTo : List ℕ → List ℕ → Type 0
IsTextUpTo text other = is_gt (slice_cmp nat_cmp text other) ≡ false

-- an object is under this key, and under none before it one that is to go
pub record IsFirstStray (objects : Objects) (entries : List Entry) (key : ObjectKey) : Type 0 where
  pub there : IsSome (objects key)
  pub least : (other : ObjectKey) → IsSome (objects other) → is_stray (state_of other.id entries) ≡ true
      → IsTextUpTo (key_text key) (key_text other)

-- no object is to go, and this is the first flaw of the first finished copy that isn't readable
pub record IsFirstOfCopies (objects : Objects) (entries : List Entry) (flaw : Flaw) : Type 0 where
  pub named : AreNamed objects entries
  pub none_left : NoneIsLeft objects entries
  pub before : List Entry
  pub entry : Entry
  pub more : List Entry
  pub parts : entries ≡ before ++ entry ∷ more
  pub readable : AreReadable objects before
  pub finished : entry.state ≡ CopyFinished
  pub flaw_is : IsCopyFlaw objects entry flaw

-- the first flaw
abbrev pub IsFirstFlaw : Objects → List Entry → Flaw → Type 0
IsFirstFlaw objects entries (NoEntry key) = IsFirstStray objects entries key × (entry_of key.id entries ≡ None)
IsFirstFlaw objects entries (Left key) =
    IsFirstStray objects entries key × (state_of key.id entries ≡ Some DeleteFinished)
IsFirstFlaw objects entries flaw = IsFirstOfCopies objects entries flaw

-- what an audit says
abbrev pub IsAuditVerdict : Objects → List Entry → Verdict → Type 0
IsAuditVerdict objects entries (Sound count number) =
    IsWholeTier objects entries × (count ≡ length entries)
    × ((keys : List ObjectKey) × NamesAllHeld objects keys × (number ≡ length keys))
IsAuditVerdict objects entries (Unsound flaw) = IsFirstFlaw objects entries flaw
