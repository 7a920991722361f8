-- What is read as a manifest keeps the rules, and is in the bytes as the manifest is spelled.
use Rattle.std.proofs.Common.{◌≡◌, ◌∙◌, ap, refl, ℕ, zero, suc, ◌+◌, ◌*◌, ◌^◌, ◌<◌, ◌≤◌, ◌==◌, ◌&&◌, nat_lt, nat_le, true, List, [], ◌∷◌, length, map, Option, Some, None, Result, Ok, Err, IfOk, arith, append-nil}
use Rattle.std.specs.List.{All, concat}
use Rattle.std.specs.Option.{ForSome}
use Rattle.std.specs.Int.{w32, w64, to_be_bytes}
use Rattle.std.proofs.lemmas.Bool.{eqb-true}
use Rattle.epoch_line.specs.Line.{IsLine}
use Rattle.log_manifest.specs.declared.manifest.Extent.{Extent}
use Rattle.log_manifest.specs.declared.manifest.Front.{Front}
use Rattle.log_manifest.specs.declared.manifest.Manifest.{Manifest}
use Rattle.log_manifest.specs.declared.refusal.ManifestRefusal.{ManifestRefusal}
use Rattle.log_manifest.specs.Rules.{BeginsAt, AreSegments, IsManifest}
use Rattle.log_manifest.specs.Spelling.{magic, segment_bytes, entry_bytes, front_bytes, manifest_bytes}
use Rattle.log_manifest.specs.Reading.{bad, passing, number_at, items_at, front_at, base_may, len_may, segment_at, epoch_may, start_may, entry_at, manifest_in, Answers}
use Rattle.log_manifest.proofs.Inverting.{peeled, ok_same, passed, whole_ok}
use Rattle.log_manifest.proofs.Items.{One}
use Rattle.log_manifest.proofs.Standing.{AreBytes, Stands, both, u32_stands, u64_stands}

-- what was read before the segments
record FrontRead (front : Front) (bytes rest : List ℕ) : Type 0 where
  opened : 1 ≤ front.incarnation
  low : front.local_start ≤ 2 ^ 62
  some : 0 < front.count
  few : front.count ≤ 4096
  stands : AreBytes bytes → Stands (front_bytes front.incarnation front.local_start front.count) bytes rest

front-read : (bytes : List ℕ) (front : Front) (rest : List ℕ) → front_at bytes ≡ Ok (front, rest) → FrontRead front bytes rest
unfolding front_at front_bytes
front-read bytes front rest e =
    let P = FrontRead front bytes rest in
    peeled P (passing (λ n. n == magic) (bad 0) (number_at w32 0 bytes)) _ (front, rest) e (λ tag e1 m1.
    peeled P (passing (λ n. nat_lt 0 n) (bad 4) (number_at w32 4 tag.1)) _ (front, rest) m1 (λ incarnation e2 m2.
    peeled P (passing (λ n. nat_le n (2 ^ 62)) (bad 8) (number_at w64 8 incarnation.1)) _ (front, rest) m2 (λ start e3 m3.
    peeled P (passing (λ n. nat_lt 0 n && nat_le n 4096) (bad 16) (number_at w32 16 start.1)) _ (front, rest) m3 (λ count e4 m4.
    let is1 = passed (λ n. n == magic) (bad 0) (number_at w32 0 bytes) tag e1 in
    let is2 = passed (λ n. nat_lt 0 n) (bad 4) (number_at w32 4 tag.1) incarnation e2 in
    let is3 = passed (λ n. nat_le n (2 ^ 62)) (bad 8) (number_at w64 8 incarnation.1) start e3 in
    let is4 = passed (λ n. nat_lt 0 n && nat_le n 4096) (bad 16) (number_at w32 16 start.1) count e4 in
    let tagged : tag.0 ≡ magic = eqb-true tag.0 magic is1.1 in
    let opened : 1 ≤ incarnation.0 = grind (arith, is2.1) in
    let low : start.0 ≤ 2 ^ 62 = grind (arith, is3.1) in
    let some : 0 < count.0 = grind (arith, is4.1) in
    let few : count.0 ≤ 4096 = grind (arith, is4.1) in
    let value = ap (λ (y : Front × List ℕ). y.0) (ok_same _ _ (front, rest) refl m4) in
    let back = ap (λ (y : Front × List ℕ). y.1) (ok_same _ _ (front, rest) refl m4) in record {
      opened = rw (← value) opened;
      low = rw (← value) low;
      some = rw (← value) some;
      few = rw (← value) few;
      stands = λ h.
          let tag-stands : Stands (to_be_bytes w32 tag.0) bytes tag.1 = (u32_stands 0 bytes tag.0 tag.1 h is1.0).stands in
          let s1 : Stands (to_be_bytes w32 magic) bytes tag.1 = rw tagged at tag-stands in
          let s2 = (u32_stands 4 tag.1 incarnation.0 incarnation.1 s1.left is2.0).stands in
          let s3 = (u64_stands 8 incarnation.1 start.0 start.1 s2.left is3.0).stands in
          let s4 = (u32_stands 16 start.1 count.0 count.1 s3.left is4.0).stands in
          rw (← value, ← back) (both s1 (both s2 (both s3 s4)));
    }))))

-- one item that was read: what it passed, and that it is there
record ItemRead {X : Type 0} (Test : ℕ → Option X → X → Type 0) (spell : X → List ℕ) (behind : ℕ) (last : Option X) (x : X) (bytes rest : List ℕ) : Type 0 where
  tests : Test behind last x
  stands : AreBytes bytes → Stands (spell x) bytes rest

-- each item passed by how many come after it and the one before
abbrev Chain : {X : Type 0} → (ℕ → Option X → X → Type 0) → Option X → List X → Type 0
Chain Test last [] = Unit {0}
Chain Test last (x ∷ items) = Test (length items) last x × Chain Test (Some x) items

record ItemsRead {X : Type 0} (Test : ℕ → Option X → X → Type 0) (spell : X → List ℕ) (count : ℕ) (last : Option X) (items : List X) (bytes rest : List ℕ) : Type 0 where
  long : length items ≡ count
  chain : Chain Test last items
  stands : AreBytes bytes → Stands (concat (map spell items)) bytes rest

-- what a reader of one item answers
abbrev Reads : {X : Type 0} → One X → (ℕ → Option X → X → Type 0) → (X → List ℕ) → Type 0
Reads {X} one Test spell =
    (behind at : ℕ) (last : Option X) (bytes : List ℕ) (x : X) (rest : List ℕ)
    → one behind at last bytes ≡ Ok (x, rest) → ItemRead Test spell behind last x bytes rest

items-read : {X : Type 0} (one : One X) (Test : ℕ → Option X → X → Type 0) (spell : X → List ℕ) → Reads one Test spell
    → (count at : ℕ) (last : Option X) (bytes : List ℕ) (items : List X) (rest : List ℕ)
    → items_at one count at last bytes ≡ Ok (items, rest) → ItemsRead Test spell count last items bytes rest
items-read {X} one Test spell law zero at last bytes items rest e =
    let same = ok_same _ ([], bytes) (items, rest) refl e in
    let value : [] ≡ items = ap (λ (y : List X × List ℕ). y.0) same in
    let back : bytes ≡ rest = ap (λ (y : List X × List ℕ). y.1) same in
    rw (← value, ← back) (record { long = refl; chain = tt; stands = λ h. record { parts = refl; left = h } })
items-read {X} one Test spell law (suc behind) at last bytes items rest e =
    let P = ItemsRead Test spell (suc behind) last items bytes rest in
    peeled P (one behind at last bytes) _ (items, rest) e (λ p e1 m1.
    peeled P (items_at one behind (at + 12) (Some p.0) p.1) _ (items, rest) m1 (λ others e2 m2.
    let same = ok_same _ (p.0 ∷ others.0, others.1) (items, rest) refl m2 in
    let value : p.0 ∷ others.0 ≡ items = ap (λ (y : List X × List ℕ). y.0) same in
    let back : others.1 ≡ rest = ap (λ (y : List X × List ℕ). y.1) same in
    let first = law behind at last bytes p.0 p.1 e1 in
    let more = items-read one Test spell law behind (at + 12) (Some p.0) p.1 others.0 others.1 e2 in
    let passed-it : Test (length others.0) last p.0 = rw (more.long) first.tests in
    rw (← value, ← back)
    (record {
      long = ap (λ n. suc n) more.long;
      chain = (passed-it, more.chain);
      stands = λ h. let s = first.stands h in both s (more.stands s.left);
    })))

-- a segment passed
abbrev SegmentPassed : ℕ → ℕ → Option Extent → Extent → Type 0
SegmentPassed start behind last s = (base_may start last s.base ≡ true) × (len_may behind s.len ≡ true)

segment-read : (start : ℕ) → Reads (segment_at start) (SegmentPassed start) segment_bytes
unfolding segment_at segment_bytes
segment-read start behind at last bytes s rest e =
    let P = ItemRead (SegmentPassed start) segment_bytes behind last s bytes rest in
    peeled P (passing (base_may start last) (bad at) (number_at w64 at bytes)) _ (s, rest) e (λ base e1 m1.
    peeled P (passing (len_may behind) (bad (at + 8)) (number_at w32 (at + 8) base.1)) _ (s, rest) m1 (λ len e2 m2.
    let is1 = passed (base_may start last) (bad at) (number_at w64 at bytes) base e1 in
    let is2 = passed (len_may behind) (bad (at + 8)) (number_at w32 (at + 8) base.1) len e2 in
    let same = ok_same _ (record { base = base.0; len = len.0 }, len.1) (s, rest) refl m2 in
    let value : record { base = base.0; len = len.0 } ≡ s = ap (λ (y : Extent × List ℕ). y.0) same in
    let back : len.1 ≡ rest = ap (λ (y : Extent × List ℕ). y.1) same in
    rw (← value, ← back)
    (record {
      tests = (is1.1, is2.1);
      stands = λ h.
          let s1 = (u64_stands at bytes base.0 base.1 h is1.0).stands in
          both s1 (u32_stands (at + 8) base.1 len.0 len.1 s1.left is2.0).stands;
    })))

-- an entry passed
abbrev EntryPassed : ℕ → Option (ℕ × ℕ) → ℕ × ℕ → Type 0
EntryPassed behind last p = (epoch_may last p.0 ≡ true) × (start_may last p.1 ≡ true)

entry-read : Reads entry_at EntryPassed entry_bytes
unfolding entry_at entry_bytes
entry-read behind at last bytes p rest e =
    let P = ItemRead EntryPassed entry_bytes behind last p bytes rest in
    peeled P (passing (epoch_may last) (bad at) (number_at w32 at bytes)) _ (p, rest) e (λ epoch e1 m1.
    peeled P (passing (start_may last) (bad (at + 4)) (number_at w64 (at + 4) epoch.1)) _ (p, rest) m1 (λ first e2 m2.
    let is1 = passed (epoch_may last) (bad at) (number_at w32 at bytes) epoch e1 in
    let is2 = passed (start_may last) (bad (at + 4)) (number_at w64 (at + 4) epoch.1) first e2 in
    let same = ok_same _ ((epoch.0, first.0), first.1) (p, rest) refl m2 in
    let value : (epoch.0, first.0) ≡ p = ap (λ (y : (ℕ × ℕ) × List ℕ). y.0) same in
    let back : first.1 ≡ rest = ap (λ (y : (ℕ × ℕ) × List ℕ). y.1) same in
    rw (← value, ← back)
    (record {
      tests = (is1.1, is2.1);
      stands = λ h.
          let s1 = (u32_stands at bytes epoch.0 epoch.1 h is1.0).stands in
          both s1 (u64_stands (at + 4) epoch.1 first.0 first.1 s1.left is2.0).stands;
    })))

-- an entry that passed lies above the last one
pub record Follows (last : Option (ℕ × ℕ)) (p : ℕ × ℕ) : Type 0 where
  pub epoch : p.0 < 2 ^ 31
  pub start : p.1 ≤ 2 ^ 62
  pub above : ForSome last (λ l. (l.0 < p.0) × (l.1 < p.1))

follows : (last : Option (ℕ × ℕ)) (p : ℕ × ℕ) → epoch_may last p.0 ≡ true → start_may last p.1 ≡ true → Follows last p
follows None p e s = record { epoch = grind arith; start = grind arith; above = λ l is. absurd (cc) }
follows (Some last) p e s =
    let both : (last.0 < p.0) × (last.1 < p.1) = (grind arith, grind arith) in record {
      epoch = grind arith;
      start = grind arith;
      above = λ l is. let same : last ≡ l = cc in rw (← same) both;
    }

pub entry_follows : (behind at : ℕ) (last : Option (ℕ × ℕ)) (bytes : List ℕ) (p : ℕ × ℕ) (rest : List ℕ)
    → entry_at behind at last bytes ≡ Ok (p, rest) → Follows last p
entry_follows behind at last bytes p rest e =
    let tests = (entry-read behind at last bytes p rest e).tests in
    follows last p tests.0 tests.1

-- segments that passed keep the rules
chain-segments : (start : ℕ) (last : Option Extent) (s : Extent) (segments : List Extent) → s.base ≤ 2 ^ 62
    → Chain (SegmentPassed start) last (s ∷ segments) → AreSegments (s ∷ segments)
chain-segments start last s [] high chain =
    let short : s.len < 2 ^ 31 = grind (arith, chain.0.1) in
    (high, short)
chain-segments start last s (next ∷ segments) high chain =
    let above : s.base < next.base = grind (arith, chain.1.0.0) in
    let high' : next.base ≤ 2 ^ 62 = grind (arith, chain.1.0.0) in
    let some : 0 < s.len = grind (arith, chain.0.1) in
    let short : s.len < 2 ^ 31 = grind (arith, chain.0.1) in
    (above, some, short, chain-segments start (Some s) next segments high' chain.1)

-- the first segment begins where the log does
record PartlyRead (start : ℕ) (segments : List Extent) : Type 0 where
  begins : BeginsAt start segments
  rules : AreSegments segments

snapshot : (start : ℕ) (segments : List Extent) → start ≤ 2 ^ 62 → 0 < length segments → Chain (SegmentPassed start) None segments → PartlyRead start segments
snapshot start [] low some chain = absurd (omega (arith, some))
snapshot start (s ∷ segments) low some chain =
    let same : s.base ≡ start = eqb-true s.base start chain.0.0 in record {
      begins = same;
      rules = chain-segments start None s segments (rw same low) chain;
    }

-- entries that passed rise
chain-line : (last : Option (ℕ × ℕ)) (line : List (ℕ × ℕ)) → Chain EntryPassed last line → IsLine line
chain-line last [] chain = tt
chain-line None (p ∷ []) chain =
    let epoch : p.0 < 2 ^ 31 = grind (arith, chain.0.0) in
    let start : p.1 ≤ 2 ^ 62 = grind (arith, chain.0.1) in
    (epoch, start, tt, tt)
chain-line (Some last) (p ∷ []) chain =
    let epoch : p.0 < 2 ^ 31 = grind (arith, chain.0.0) in
    let start : p.1 ≤ 2 ^ 62 = grind (arith, chain.0.1) in
    (epoch, start, tt, tt)
chain-line None (p ∷ next ∷ line) chain =
    let epoch : p.0 < 2 ^ 31 = grind (arith, chain.0.0) in
    let start : p.1 ≤ 2 ^ 62 = grind (arith, chain.0.1) in
    let above : (p.0 < next.0) × (p.1 < next.1) = (grind (arith, chain.1.0.0), grind (arith, chain.1.0.1)) in
    (epoch, start, above, chain-line (Some p) (next ∷ line) chain.1)
chain-line (Some last) (p ∷ next ∷ line) chain =
    let epoch : p.0 < 2 ^ 31 = grind (arith, chain.0.0) in
    let start : p.1 ≤ 2 ^ 62 = grind (arith, chain.0.1) in
    let above : (p.0 < next.0) × (p.1 < next.1) = (grind (arith, chain.1.0.0), grind (arith, chain.1.0.1)) in
    (epoch, start, above, chain-line (Some p) (next ∷ line) chain.1)

-- a manifest that was read
record ManifestRead (manifest : Manifest) (bytes : List ℕ) : Type 0 where
  rules : IsManifest manifest
  spelled : AreBytes bytes → bytes ≡ manifest_bytes manifest

manifest-read : (bytes : List ℕ) (manifest : Manifest) → manifest_in bytes ≡ Ok manifest → ManifestRead manifest bytes
unfolding manifest_in manifest_bytes
manifest-read bytes manifest e =
    let P = ManifestRead manifest bytes in
    peeled P (front_at bytes) _ manifest e (λ front e1 m1.
    peeled P (items_at (segment_at front.0.local_start) front.0.count 20 None front.1) _ manifest m1 (λ segments e2 m2.
    peeled P (number_at w32 (20 + 12 * front.0.count) segments.1) _ manifest m2 (λ count e3 m3.
    peeled P (items_at entry_at count.0 (24 + 12 * front.0.count) None count.1) _ manifest m3 (λ line e4 m4.
    let m : Manifest = record {
      incarnation = front.0.incarnation;
      local_start = front.0.local_start;
      segments = segments.0;
      line = line.0;
    } in
    let end = whole_ok (24 + 12 * front.0.count + 12 * count.0) m manifest line.1 m4 in
    let start = front.0.local_start in
    let head = front-read bytes front.0 front.1 e1 in
    let log = items-read (segment_at start) (SegmentPassed start) segment_bytes (segment-read start) front.0.count 20 None front.1 segments.0 segments.1 e2 in
    let epochs = items-read entry_at EntryPassed entry_bytes entry-read count.0 (24 + 12 * front.0.count) None count.1 line.0 line.1 e4 in
    let is = snapshot start segments.0 head.low (rw (log.long) head.some) log.chain in
    rw (← end.0)
    (record {
      rules = record {
        opened = head.opened;
        begins = is.begins;
        segments = is.rules;
        few = rw (log.long) head.few;
        line = chain-line None line.0 epochs.chain;
      };
      spelled = λ h.
          let s1 = head.stands h in
          let s2 = log.stands s1.left in
          let s3 = (u32_stands (20 + 12 * front.0.count) segments.1 count.0 count.1 s2.left e3).stands in
          let s4 = epochs.stands s3.left in
          let all = both s1 (both s2 (both s3 s4)) in
          all.parts ∙ (rw (end.1, log.long, epochs.long) (append-nil _));
    })))))

-- what was read keeps the rules, whatever memory there was
pub manifest_rules : (bytes : List ℕ) (r : Result Manifest ManifestRefusal) → Answers (λ (m : Manifest). m) r (manifest_in bytes) → IfOk r IsManifest
manifest_rules bytes (Ok manifest) h = (manifest-read bytes manifest h).rules
manifest_rules bytes (Err why) h = tt

-- what was read is in the bytes as it is spelled
pub one_spelling : (bytes : List ℕ) (manifest : Manifest) → All (λ b. b < 256) bytes → manifest_in bytes ≡ Ok manifest → bytes ≡ manifest_bytes manifest
one_spelling bytes manifest h e = (manifest-read bytes manifest e).spelled h
