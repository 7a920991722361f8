-- What is reported of partitions, a line each.
--
-- line    = partition SP ( verdict / "swept" SP count ) LF
-- verdict = "sound" SP entries SP objects / "unsound" SP flaw
-- flaw    = ( "NoEntry" / "Left" / "Missing" ) SP key / "Custom" SP id / "Wrong" SP key SP at
--
-- Numbers are decimal. A key is spelled as tier_base's module Key has it, and so is an id.
use Rattle.std.specs.Prelude.{ℕ, List, [], ◌∷◌, ◌++◌, codes, decimal, Option, Some, None}
use Rattle.tier_base.specs.declared.names.PartitionId.{PartitionId}
use Rattle.tier_base.specs.Key.{id_text, key_text}
use Rattle.tier_audit.specs.declared.verdict.Flaw.{Flaw}
use Rattle.tier_audit.specs.declared.verdict.Flaw.TheVariants.{NoEntry, Left, Custom, Missing, Wrong}
use Rattle.tier_audit.specs.declared.verdict.Verdict.{Verdict}
use Rattle.tier_audit.specs.declared.verdict.Verdict.TheVariants.{Sound, Unsound}

-- a flaw's name, its key or id, and where its object is wrong
abbrev pub flaw_text : Flaw → List ℕ
flaw_text (NoEntry key) = codes "NoEntry " ++ key_text key
flaw_text (Left key) = codes "Left " ++ key_text key
flaw_text (Custom id) = codes "Custom " ++ id_text id
flaw_text (Missing key) = codes "Missing " ++ key_text key
flaw_text (Wrong key at) = codes "Wrong " ++ (key_text key ++ (codes " " ++ decimal at))

-- sound, with the number of entries and of objects, or what is wrong
abbrev pub verdict_text : Verdict → List ℕ
verdict_text (Sound entries objects) = codes "sound " ++ (decimal entries ++ (codes " " ++ decimal objects))
verdict_text (Unsound flaw) = codes "unsound " ++ flaw_text flaw

-- how many objects were taken away
abbrev pub swept_text : ℕ → List ℕ
swept_text count = codes "swept " ++ decimal count

-- a partition's line
abbrev pub line_of : PartitionId → List ℕ → List ℕ
line_of partition told = decimal partition.0 ++ (codes " " ++ (told ++ codes "\n"))

-- a line for each partition, of what was found of it
abbrev pub lines_of : {A : Type 0} → (A → List ℕ) → List (PartitionId × A) → List ℕ
lines_of told [] = []
lines_of told (found ∷ more) = line_of found.0 (told found.1) ++ lines_of told more

-- the first partition whose tier isn't sound, with one more audited
abbrev pub unsound_after : Option PartitionId → PartitionId → Verdict → Option PartitionId
unsound_after (Some first) partition verdict = Some first
unsound_after None partition (Sound entries objects) = None
unsound_after None partition (Unsound flaw) = Some partition

-- the first partition whose tier isn't sound, after one that there may be
abbrev pub first_unsound_from : Option PartitionId → List (PartitionId × Verdict) → Option PartitionId
first_unsound_from first [] = first
first_unsound_from first (found ∷ more) = first_unsound_from (unsound_after first found.0 found.1) more

-- the first partition whose tier isn't sound
abbrev pub first_unsound : List (PartitionId × Verdict) → Option PartitionId
first_unsound found = first_unsound_from None found
