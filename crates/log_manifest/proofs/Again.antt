-- What was written of a manifest is read as that manifest.
use Rattle.std.proofs.Common.{◌≡◌, refl, ℕ, suc, ◌+◌, ◌*◌, ◌^◌, ◌<◌, ◌≤◌, nat_lt, true, false, List, [], ◌∷◌, ◌++◌, length, Option, Some, None, Ok, arith, append_assoc, append-nil, length-append, eq-eqb, le-ltb}
use Rattle.std.specs.Int.{w32, w64, to_be_bytes}
use Rattle.std.proofs.lemmas.Bool.{lt-ltb, le-leb}
use Rattle.std.proofs.lemmas.List.{take_at, drop_at}
use Rattle.std.proofs.lemmas.Nat.{from_be_bytes-to_be_bytes_4, from_be_bytes-to_be_bytes_8}
use Rattle.epoch_line.specs.Line.{IsLine}
use Rattle.log_manifest.specs.declared.manifest.Extent.{Extent}
use Rattle.log_manifest.specs.declared.manifest.Manifest.{Manifest}
use Rattle.log_manifest.specs.Rules.{BeginsAt, AreSegments, IsManifest}
use Rattle.log_manifest.specs.Spelling.{magic, segment_bytes, entry_bytes, front_bytes, segments_bytes, entries_bytes, manifest_bytes}
use Rattle.log_manifest.specs.Reading.{cut_at, number_at, items_at, front_at, base_may, len_may, segment_at, epoch_may, start_may, entry_at, manifest_in}

-- a line has at most as many entries as there are epochs
line-fits : (p : ℕ × ℕ) (line : List (ℕ × ℕ)) → IsLine (p ∷ line) → p.0 + length line < 2 ^ 31
line-fits p [] rises = omega (arith, rises.0)
line-fits p (next ∷ line) rises =
    let more : next.0 + length line < 2 ^ 31 = line-fits next line rises.3 in
    omega (arith, more, rises.2.0)

pub line_few : (line : List (ℕ × ℕ)) → IsLine line → length line < 2 ^ 32
line_few [] rises = omega arith
line_few (p ∷ line) rises =
    let fits : p.0 + length line < 2 ^ 31 = line-fits p line rises in
    omega (arith, fits)

-- so many bytes are cut off again
cut-again : (size at : ℕ) (field rest : List ℕ) → length field ≡ size → cut_at size at (field ++ rest) ≡ Ok (field, rest)
cut-again size at field rest e =
    let fits : nat_lt (length (field ++ rest)) size ≡ false = le-ltb (length (field ++ rest)) size (grind (arith, length-append)) in
    rw (fits, take_at field rest size e, drop_at field rest size e) refl

-- a number is read again
u32-again : (at n : ℕ) (rest : List ℕ) → n < 2 ^ 32 → number_at w32 at (to_be_bytes w32 n ++ rest) ≡ Ok (n, rest)
unfolding number_at
u32-again at n rest h = rw (cut-again 4 at (to_be_bytes w32 n) rest refl, from_be_bytes-to_be_bytes_4 n h) refl

u64-again : (at n : ℕ) (rest : List ℕ) → n < 2 ^ 64 → number_at w64 at (to_be_bytes w64 n ++ rest) ≡ Ok (n, rest)
unfolding number_at
u64-again at n rest h = rw (cut-again 8 at (to_be_bytes w64 n) rest refl, from_be_bytes-to_be_bytes_8 n h) refl

-- what precedes the segments is read again
front-again : (incarnation start count : ℕ) (rest : List ℕ) → 1 ≤ incarnation → incarnation < 2 ^ 32 → start ≤ 2 ^ 62 → 0 < count → count ≤ 4096
    → front_at (front_bytes incarnation start count ++ rest)
    ≡ Ok (record { incarnation = incarnation; local_start = start; count = count }, rest)
unfolding front_at front_bytes
front-again incarnation start count rest opened fits low some few =
    let a = to_be_bytes w32 magic in
    let b = to_be_bytes w32 incarnation in
    let c = to_be_bytes w64 start in
    let d = to_be_bytes w32 count in
    rw (
      append_assoc (to_be_bytes w32 magic) (b ++ (c ++ d)) rest,
      append_assoc (to_be_bytes w32 incarnation) (c ++ d) rest,
      append_assoc (to_be_bytes w64 start) d rest,
      u32-again 0 magic (b ++ (c ++ (d ++ rest))) (omega arith),
      u32-again 4 incarnation (c ++ (d ++ rest)) fits,
      lt-ltb 0 incarnation (omega (arith, opened)),
      u64-again 8 start (d ++ rest) (omega (arith, low)),
      le-leb start (2 ^ 62) low,
      u32-again 16 count rest (omega (arith, few)),
      lt-ltb 0 count some,
      le-leb count 4096 few,
    ) refl

-- a segment is read again
segment-again : (start behind at : ℕ) (last : Option Extent) (s : Extent) (rest : List ℕ)
    → base_may start last s.base ≡ true → len_may behind s.len ≡ true → s.base ≤ 2 ^ 62 → s.len < 2 ^ 31
    → segment_at start behind at last (segment_bytes s ++ rest) ≡ Ok (s, rest)
unfolding segment_at segment_bytes
segment-again start behind at last s rest may may' high short =
    rw (
      append_assoc (to_be_bytes w64 s.base) (to_be_bytes w32 s.len) rest,
      u64-again at s.base (to_be_bytes w32 s.len ++ rest) (omega (arith, high)),
      may,
      u32-again (at + 8) s.len rest (omega (arith, short)),
      may',
    ) refl

-- the first base is at most 2^62
base-high : (s : Extent) (segments : List Extent) → AreSegments (s ∷ segments) → s.base ≤ 2 ^ 62
base-high s [] rules = rules.0
base-high s (next ∷ segments) rules =
    let more : next.base ≤ 2 ^ 62 = base-high next segments rules.3 in
    omega (arith, more, rules.0)

-- segments are read again
segments-again : (start at : ℕ) (last : Option Extent) (s : Extent) (segments : List Extent) (rest : List ℕ) → AreSegments (s ∷ segments)
    → base_may start last s.base ≡ true
    → items_at (segment_at start) (suc (length segments)) at last (segments_bytes (s ∷ segments) ++ rest) ≡ Ok (s ∷ segments, rest)
segments-again start at last s [] rest rules may =
    rw (
      append_assoc (segment_bytes s) [] rest,
      segment-again start 0 at last s rest may (lt-ltb s.len (2 ^ 31) rules.1) rules.0 rules.1,
    ) refl
segments-again start at last s (next ∷ segments) rest rules may =
    let high : next.base ≤ 2 ^ 62 = base-high next segments rules.3 in
    let may' : len_may (suc (length segments)) s.len ≡ true = rw (lt-ltb 0 s.len rules.1, lt-ltb s.len (2 ^ 31) rules.2) refl in
    let next-may : base_may start (Some s) next.base ≡ true = rw (lt-ltb s.base next.base rules.0, le-leb next.base (2 ^ 62) high) refl in
    rw (
      append_assoc (segment_bytes s) (segments_bytes (next ∷ segments)) rest,
      segment-again start (suc (length segments)) at last s (segments_bytes (next ∷ segments) ++ rest) may may' (base-high s (next ∷ segments) rules) rules.2,
      segments-again start (at + 12) (Some s) next segments rest rules.3 next-may,
    ) refl

all-segments : (start at : ℕ) (segments : List Extent) (rest : List ℕ) → BeginsAt start segments → AreSegments segments
    → items_at (segment_at start) (length segments) at None (segments_bytes segments ++ rest) ≡ Ok (segments, rest)
all-segments start at [] rest begins rules = absurd begins
all-segments start at (s ∷ segments) rest begins rules = segments-again start at None s segments rest rules (eq-eqb s.base start begins)

-- a log has a segment
segments-some : (start : ℕ) (segments : List Extent) → BeginsAt start segments → 0 < length segments
segments-some start [] begins = absurd begins
segments-some start (s ∷ segments) begins = omega arith

start-low : (start : ℕ) (segments : List Extent) → BeginsAt start segments → AreSegments segments → start ≤ 2 ^ 62
start-low start [] begins rules = absurd begins
start-low start (s ∷ segments) begins rules = rw (← begins) (base-high s segments rules)

-- an entry is read again
entry-again : (behind at : ℕ) (last : Option (ℕ × ℕ)) (p : ℕ × ℕ) (rest : List ℕ)
    → epoch_may last p.0 ≡ true → start_may last p.1 ≡ true → p.0 < 2 ^ 31 → p.1 ≤ 2 ^ 62
    → entry_at behind at last (entry_bytes p ++ rest) ≡ Ok (p, rest)
unfolding entry_at entry_bytes
entry-again behind at last p rest may may' fits high =
    rw (
      append_assoc (to_be_bytes w32 p.0) (to_be_bytes w64 p.1) rest,
      u32-again at p.0 (to_be_bytes w64 p.1 ++ rest) (omega (arith, fits)),
      may,
      u64-again (at + 4) p.1 rest (omega (arith, high)),
      may',
    ) refl

-- entries are read again
entries-again : (at : ℕ) (last : Option (ℕ × ℕ)) (p : ℕ × ℕ) (line : List (ℕ × ℕ)) (rest : List ℕ) → IsLine (p ∷ line)
    → epoch_may last p.0 ≡ true → start_may last p.1 ≡ true
    → items_at entry_at (suc (length line)) at last (entries_bytes (p ∷ line) ++ rest) ≡ Ok (p ∷ line, rest)
entries-again at last p [] rest rises may may' =
    rw (append_assoc (entry_bytes p) [] rest, entry-again 0 at last p rest may may' rises.0 rises.1) refl
entries-again at last p (next ∷ line) rest rises may may' =
    let epoch : epoch_may (Some p) next.0 ≡ true = rw (lt-ltb next.0 (2 ^ 31) rises.3.0, lt-ltb p.0 next.0 rises.2.0) refl in
    let start : start_may (Some p) next.1 ≡ true = rw (le-leb next.1 (2 ^ 62) rises.3.1, lt-ltb p.1 next.1 rises.2.1) refl in
    rw (
      append_assoc (entry_bytes p) (entries_bytes (next ∷ line)) rest,
      entry-again (suc (length line)) at last p (entries_bytes (next ∷ line) ++ rest) may may' rises.0 rises.1,
      entries-again (at + 12) (Some p) next line rest rises.3 epoch start,
    ) refl

all-entries : (at : ℕ) (line : List (ℕ × ℕ)) (rest : List ℕ) → IsLine line
    → items_at entry_at (length line) at None (entries_bytes line ++ rest) ≡ Ok (line, rest)
all-entries at [] rest rises = refl
all-entries at (p ∷ line) rest rises =
    entries-again at None p line rest rises (lt-ltb p.0 (2 ^ 31) rises.0) (le-leb p.1 (2 ^ 62) rises.1)

-- what was written of a manifest is read as that manifest
pub manifest_again : (manifest : Manifest) → IsManifest manifest → manifest.incarnation < 2 ^ 32
    → manifest_in (manifest_bytes manifest) ≡ Ok manifest
unfolding manifest_in manifest_bytes
manifest_again m rules fits =
    let n = length m.segments in
    let entries = to_be_bytes w32 (length m.line) ++ entries_bytes m.line in
    let last : entries_bytes m.line ++ [] ≡ entries_bytes m.line = append-nil (entries_bytes m.line) in
    rw (
      front-again m.incarnation m.local_start (length m.segments) (segments_bytes m.segments ++ entries) rules.opened fits
          (start-low m.local_start m.segments rules.begins rules.segments) (segments-some m.local_start m.segments rules.begins) rules.few,
      all-segments m.local_start 20 m.segments entries rules.begins rules.segments,
      u32-again (20 + 12 * n) (length m.line) (entries_bytes m.line) (line_few m.line rules.line),
      ← last,
      all-entries (24 + 12 * n) m.line [] rules.line,
    ) refl
