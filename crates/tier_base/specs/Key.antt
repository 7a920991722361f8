-- The ids of remote segments, and the keys of what is in the remote store.
--
-- An id is a UUID of these bytes, big endian, without version bits:
--
--   at  size  field
--    0     2  partition
--    2     2  broker
--    4     4  incarnation: how often the broker's local log was opened
--    8     8  attempt: which copy of this incarnation
--
-- As text:
--
--   id  = 8 digits "-" 4 digits "-" 4 digits "-" 4 digits "-" 12 digits    of 0 to 9 and a to f
--   key = partition "/" id ( ".log" / ".index" / ".timeindex" / ".epochs" / ".pack" )
--
-- The partition is decimal, without a leading zero.
use Rattle.std.specs.Prelude.{◌≡◌, ◌≢◌, ℕ, ◌<◌, ◌^◌, List, ◌++◌, length, All, codes, decimal, Option, Some, None}
use Rattle.std.specs.Int.{w16, w32, w64, to_be_bytes}
use Rattle.uuid.specs.Text.{hyphenated_text, lower}
use Rattle.tier_base.specs.declared.names.SegmentId.{SegmentId}
use Rattle.tier_base.specs.declared.plain.Part.{Part}
use Rattle.tier_base.specs.declared.plain.Part.TheVariants.{Log, Index, TimeIndex, Epochs, Pack}
use Rattle.tier_base.specs.declared.object_key.ObjectKey.{ObjectKey}

-- the bytes of an id
unfoldable pub id_bytes : ℕ → ℕ → ℕ → ℕ → List ℕ
id_bytes partition broker incarnation attempt =
    to_be_bytes w16 partition ++ (to_be_bytes w16 broker ++ (to_be_bytes w32 incarnation ++ to_be_bytes w64 attempt))

-- different fields make different ids
abbrev pub IdsDiffer : Type 0
IdsDiffer = (p b i a q c j d : ℕ) → p < 2 ^ 16 → q < 2 ^ 16 → b < 2 ^ 16 → c < 2 ^ 16 → i < 2 ^ 32 → j < 2 ^ 32
    → a < 2 ^ 64 → d < 2 ^ 64
    → id_bytes p b i a ≡ id_bytes q c j d → (p ≡ q) × (b ≡ c) × (i ≡ j) × (a ≡ d)

-- sixteen bytes
pub record IsId (id : SegmentId) : Type 0 where
  pub size : length id.0 ≡ 16
  pub bytes : All (λ b. b < 256) id.0

-- the text of an id
unfoldable pub id_text : SegmentId → List ℕ
id_text id = hyphenated_text lower id.0

-- a key of a partition's number and an id
pub record IsKey (key : ObjectKey) : Type 0 where
  pub partition : key.partition.0 < 2 ^ 16
  pub id : IsId key.id

-- how an object's key ends
abbrev pub part_text : Part → List ℕ
part_text Log = codes ".log"
part_text Index = codes ".index"
part_text TimeIndex = codes ".timeindex"
part_text Epochs = codes ".epochs"
part_text Pack = codes ".pack"

-- the text of a key
unfoldable pub key_text : ObjectKey → List ℕ
key_text key = decimal key.partition.0 ++ (codes "/" ++ (id_text key.id ++ part_text key.part))

-- what the reader of an id answers: the one that is spelled so, or none where none is
abbrev pub ReadsId : List ℕ → Option SegmentId → Type 0
ReadsId text None = (id : SegmentId) → IsId id → id_text id ≢ text
ReadsId text (Some id) = IsId id × (id_text id ≡ text)

-- what the reader of a key's end answers
abbrev pub ReadsKeyEnd : List ℕ → Option Part → Type 0
ReadsKeyEnd text None = (part : Part) → part_text part ≢ text
ReadsKeyEnd text (Some part) = part_text part ≡ text

-- what the reader of a key answers: the one that is spelled so, or none where none is
abbrev pub ReadsKey : List ℕ → Option ObjectKey → Type 0
ReadsKey text None = (key : ObjectKey) → IsKey key → key_text key ≢ text
ReadsKey text (Some key) = IsKey key × (key_text key ≡ text)
