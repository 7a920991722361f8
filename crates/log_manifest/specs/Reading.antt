-- What bytes say as a manifest, or their first fault: each part as what it reads at the front of bytes, with what
-- follows it.
--
-- A fault is the place of the first field that is missing, is cut or breaks a rule, or of the first byte that follows
-- the last field. The places are those of the table in the module Spelling.
use Rattle.std.specs.Prelude.{◌≡◌, ℕ, zero, suc, ◌+◌, ◌*◌, ◌-◌, ◌^◌, ◌==◌, ◌&&◌, nat_le, nat_lt, min, Bool}
use Rattle.std.specs.Prelude.{if◌then◌else◌, List, [], ◌∷◌, length, take, drop, Option, Some, None, Result, Ok, Err}
use Rattle.std.specs.Int.{Width, w32, w64, byte_len, from_be_bytes}
use Rattle.log_manifest.specs.declared.manifest.Extent.{Extent}
use Rattle.log_manifest.specs.declared.manifest.Front.{Front}
use Rattle.log_manifest.specs.declared.manifest.Manifest.{Manifest}
use Rattle.log_manifest.specs.declared.refusal.ManifestRefusal.{ManifestRefusal}
use Rattle.log_manifest.specs.declared.refusal.ManifestRefusal.TheVariants.{Bad, NoMemory}
use Rattle.log_manifest.specs.Spelling.{magic}

-- what was read at the front, and what follows it
abbrev pub Read : Type 0 → Type 0
Read A = Result (A × List ℕ) ManifestRefusal

infixl 10 ◌>>=◌
-- the first fault ends it
abbrev pub ◌>>=◌ : {A B : Type 0} → Result A ManifestRefusal → (A → Result B ManifestRefusal) → Result B ManifestRefusal
(Ok x) >>= f = f x
(Err why) >>= f = Err why

-- a fault at a place; one past 4 GiB is reported as the last place of them
abbrev pub bad : ℕ → ManifestRefusal
bad at = Bad (min at (2 ^ 32 - 1))

-- what was read, where it passes a test
abbrev pub passing : {A : Type 0} → (A → Bool) → ManifestRefusal → Read A → Read A
passing test why (Ok x) = if test x.0 then Ok x else Err why
passing test why (Err fault) = Err fault

-- a field of so many bytes, at a place
abbrev pub cut_at : ℕ → ℕ → List ℕ → Read (List ℕ)
cut_at size at bytes = if nat_lt (length bytes) size then Err (bad at) else Ok (take size bytes, drop size bytes)

-- a number, at a place
unfoldable pub number_at : Width → ℕ → List ℕ → Read ℕ
number_at w at bytes = do
  field ← cut_at (byte_len w) at bytes
  Ok (from_be_bytes w field.0, field.1)

-- so many items of twelve bytes, from a place on: each is read by how many come after it, its place and the one before
abbrev pub items_at : {X : Type 0} → (ℕ → ℕ → Option X → List ℕ → Read X) → ℕ → ℕ → Option X → List ℕ → Read (List X)
items_at one zero at last bytes = Ok ([], bytes)
items_at one (suc behind) at last bytes = do
  item ← one behind at last bytes
  others ← items_at one behind (at + 12) (Some item.0) item.1
  Ok (item.0 ∷ others.0, others.1)

-- what precedes the segments
unfoldable pub front_at : List ℕ → Read Front
front_at bytes = do
  tag ← passing (λ n. n == magic) (bad 0) (number_at w32 0 bytes)
  incarnation ← passing (λ n. nat_lt 0 n) (bad 4) (number_at w32 4 tag.1)
  start ← passing (λ n. nat_le n (2 ^ 62)) (bad 8) (number_at w64 8 incarnation.1)
  count ← passing (λ n. nat_lt 0 n && nat_le n 4096) (bad 16) (number_at w32 16 start.1)
  Ok (record { incarnation = incarnation.0; local_start = start.0; count = count.0 }, count.1)

-- a base may follow the last segment, or where the log begins
abbrev pub base_may : ℕ → Option Extent → ℕ → Bool
base_may start None n = n == start
base_may start (Some last) n = nat_lt last.base n && nat_le n (2 ^ 62)

-- a length may precede so many segments
abbrev pub len_may : ℕ → ℕ → Bool
len_may zero n = nat_lt n (2 ^ 31)
len_may (suc behind) n = nat_lt 0 n && nat_lt n (2 ^ 31)

-- a segment of a log that begins at start
unfoldable pub segment_at : ℕ → ℕ → ℕ → Option Extent → List ℕ → Read Extent
segment_at start behind at last bytes = do
  base ← passing (base_may start last) (bad at) (number_at w64 at bytes)
  len ← passing (len_may behind) (bad (at + 8)) (number_at w32 (at + 8) base.1)
  Ok (record { base = base.0; len = len.0 }, len.1)

-- an epoch may follow the last one
abbrev pub epoch_may : Option (ℕ × ℕ) → ℕ → Bool
epoch_may None epoch = nat_lt epoch (2 ^ 31)
epoch_may (Some last) epoch = nat_lt epoch (2 ^ 31) && nat_lt last.0 epoch

-- a start may follow the last one
abbrev pub start_may : Option (ℕ × ℕ) → ℕ → Bool
start_may None start = nat_le start (2 ^ 62)
start_may (Some last) start = nat_le start (2 ^ 62) && nat_lt last.1 start

-- a line's entry
unfoldable pub entry_at : ℕ → ℕ → Option (ℕ × ℕ) → List ℕ → Read (ℕ × ℕ)
entry_at behind at last bytes = do
  epoch ← passing (epoch_may last) (bad at) (number_at w32 at bytes)
  start ← passing (start_may last) (bad (at + 4)) (number_at w64 (at + 4) epoch.1)
  Ok ((epoch.0, start.0), start.1)

-- nothing follows at this place
abbrev pub whole : {A : Type 0} → ℕ → A → List ℕ → Result A ManifestRefusal
whole at x [] = Ok x
whole at x (b ∷ bytes) = Err (bad at)

-- the manifest that bytes are, or their first fault
unfoldable pub manifest_in : List ℕ → Result Manifest ManifestRefusal
manifest_in bytes = do
  front ← front_at bytes
  segments ← items_at (segment_at front.0.local_start) front.0.count 20 None front.1
  count ← number_at w32 (20 + 12 * front.0.count) segments.1
  line ← items_at entry_at count.0 (24 + 12 * front.0.count) None count.1
  whole (24 + 12 * front.0.count + 12 * count.0) (
      record {
        incarnation = front.0.incarnation;
        local_start = front.0.local_start;
        segments = segments.0;
        line = line.0;
      }
      ) line.1

-- an answer, its value seen by view
abbrev pub seen : {X Y : Type 0} → (X → Y) → Result X ManifestRefusal → Result Y ManifestRefusal
seen view (Ok x) = Ok (view x)
seen view (Err why) = Err why

-- nothing is said where memory ran out
abbrev pub Refuses : {Y : Type 0} → ManifestRefusal → Result Y ManifestRefusal → Type 0
Refuses NoMemory read = Unit {0}
Refuses why read = read ≡ Err why

-- what a reader answers that takes memory
abbrev pub Answers : {X Y : Type 0} → (X → Y) → Result X ManifestRefusal → Result Y ManifestRefusal → Type 0
Answers view (Ok x) read = read ≡ Ok (view x)
Answers view (Err why) read = Refuses why read
