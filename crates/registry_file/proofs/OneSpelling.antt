-- What is read as a view keeps the rules, and is in the bytes as the view is spelled.
use Rattle.std.proofs.Common.{◌≡◌, ◌∙◌, ap, sym, refl, ℕ, zero, suc, ◌+◌, ◌-◌, ◌*◌, ◌^◌, ◌<◌, ◌≤◌, ◌==◌, ◌↔◌, nat_lt, nat_le, true, List, [], ◌∷◌, length, take, drop, replicate, Result, Ok, Err, IfOk, arith, append-nil, length-append}
use Rattle.std.specs.List.{All}
use Rattle.std.specs.Int.{w16, w32, w64, to_be_bytes}
use Rattle.std.proofs.lemmas.Bool.{eqb-true, ltb-true, leb-true, and_parts}
use Rattle.std.proofs.lemmas.List.{take_at, drop_at, length-replicate}
use Rattle.std.proofs.lemmas.List.Elements.{All-append, All-replicate}
use Rattle.registry.specs.declared.view.RegView.{RegView}
use Rattle.registry.specs.View.{IsView, has_bit, eight}
use Rattle.registry_file.specs.declared.parts.Front.{Front}
use Rattle.registry_file.specs.declared.parts.Marks.{Marks}
use Rattle.registry_file.specs.declared.refusal.RegFileRefusal.{RegFileRefusal}
use Rattle.registry_file.specs.declared.refusal.RegFileRefusal.TheVariants.{Bad}
use Rattle.registry_file.specs.Spelling.{magic, front_bytes, marks_bytes, ends_bytes, view_bytes}
use Rattle.registry_file.specs.Reading.{passing, number_at, byte_at, count_may, sync_may, front_at, marks_at, end_at, ends_at, eight_at, joined, view_in}
use Rattle.registry_file.proofs.Inverting.{peeled, ok_same, passed, whole_ok}
use Rattle.registry_file.proofs.Standing.{AreBytes, Stands, both, u16_stands, u32_stands, u64_stands, byte_stands}
use Rattle.registry_file.proofs.Again.{view_again}

-- what was read before the marks
record FrontRead (front : Front) (bytes rest : List ℕ) : Type 0 where
  some : 1 ≤ front.brokers
  few : front.brokers ≤ 8
  epoch : front.epoch < 2 ^ 31
  leader : front.leader.0 < front.brokers
  stands : AreBytes bytes → Stands (front_bytes front.brokers front.epoch front.leader.0) bytes rest

front-read : (bytes : List ℕ) (front : Front) (rest : List ℕ) → front_at bytes ≡ Ok (front, rest) → FrontRead front bytes rest
unfolding front_at front_bytes
front-read bytes front rest e =
    let P = FrontRead front bytes rest in
    peeled P (passing (λ n. n == magic) (Bad 0) (number_at w32 0 bytes)) _ (front, rest) e (λ tag e1 m1.
    peeled P (passing count_may (Bad 4) (number_at w16 4 tag.1)) _ (front, rest) m1 (λ brokers e2 m2.
    peeled P (passing (λ n. nat_lt n (2 ^ 31)) (Bad 6) (number_at w32 6 brokers.1)) _ (front, rest) m2 (λ epoch e3 m3.
    peeled P (passing (λ n. nat_lt n brokers.0) (Bad 10) (number_at w16 10 epoch.1)) _ (front, rest) m3 (λ leader e4 m4.
    let is1 = passed (λ n. n == magic) (Bad 0) (number_at w32 0 bytes) tag e1 in
    let is2 = passed count_may (Bad 4) (number_at w16 4 tag.1) brokers e2 in
    let is3 = passed (λ n. nat_lt n (2 ^ 31)) (Bad 6) (number_at w32 6 brokers.1) epoch e3 in
    let is4 = passed (λ n. nat_lt n brokers.0) (Bad 10) (number_at w16 10 epoch.1) leader e4 in
    let tagged : tag.0 ≡ magic = eqb-true tag.0 magic is1.1 in
    let some : 1 ≤ brokers.0 = grind (arith, is2.1) in
    let few : brokers.0 ≤ 8 = grind (arith, is2.1) in
    let fits : epoch.0 < 2 ^ 31 = ltb-true epoch.0 (2 ^ 31) is3.1 in
    let one : leader.0 < brokers.0 = ltb-true leader.0 brokers.0 is4.1 in
    let same = ok_same _ (record { brokers = brokers.0; epoch = epoch.0; leader = record { 0 = leader.0 } }, leader.1) (front, rest) refl m4 in
    let value = ap (λ (y : Front × List ℕ). y.0) same in
    let back = ap (λ (y : Front × List ℕ). y.1) same in
    rw (← value, ← back)
    (record {
      some = some;
      few = few;
      epoch = fits;
      leader = one;
      stands = λ h.
          let tag-stands : Stands (to_be_bytes w32 tag.0) bytes tag.1 = u32_stands 0 bytes tag.0 tag.1 h is1.0 in
          let s1 : Stands (to_be_bytes w32 magic) bytes tag.1 = rw tagged at tag-stands in
          let s2 = u16_stands 4 tag.1 brokers.0 brokers.1 s1.left is2.0 in
          let s3 = u32_stands 6 brokers.1 epoch.0 epoch.1 s2.left is3.0 in
          let s4 = u16_stands 10 epoch.1 leader.0 leader.1 s3.left is4.0 in
          both s1 (both s2 (both s3 s4));
    })))))

-- the marks that were read
record MarksRead (brokers leader : ℕ) (marks : Marks) (bytes rest : List ℕ) : Type 0 where
  mark : marks.mark ≤ 2 ^ 62
  start : marks.start ≤ marks.mark
  within : marks.in_sync < 2 ^ brokers
  leads : has_bit marks.in_sync leader ≡ true
  stands : AreBytes bytes → Stands (marks_bytes marks.mark marks.start marks.in_sync) bytes rest

marks-read : (brokers leader : ℕ) (bytes : List ℕ) (marks : Marks) (rest : List ℕ) → marks_at brokers leader bytes ≡ Ok (marks, rest)
    → MarksRead brokers leader marks bytes rest
unfolding marks_at marks_bytes
marks-read brokers leader bytes marks rest e =
    let P = MarksRead brokers leader marks bytes rest in
    peeled P (passing (λ n. nat_le n (2 ^ 62)) (Bad 12) (number_at w64 12 bytes)) _ (marks, rest) e (λ mark e1 m1.
    peeled P (passing (λ n. nat_le n mark.0) (Bad 20) (number_at w64 20 mark.1)) _ (marks, rest) m1 (λ start e2 m2.
    peeled P (passing (sync_may brokers leader) (Bad 28) (byte_at 28 start.1)) _ (marks, rest) m2 (λ bits e3 m3.
    let is1 = passed (λ n. nat_le n (2 ^ 62)) (Bad 12) (number_at w64 12 bytes) mark e1 in
    let is2 = passed (λ n. nat_le n mark.0) (Bad 20) (number_at w64 20 mark.1) start e2 in
    let is3 = passed (sync_may brokers leader) (Bad 28) (byte_at 28 start.1) bits e3 in
    let tests = and_parts (nat_lt bits.0 (2 ^ brokers)) (has_bit bits.0 leader) is3.1 in
    let same = ok_same _ (record { mark = mark.0; start = start.0; in_sync = bits.0 }, bits.1) (marks, rest) refl m3 in
    let value = ap (λ (y : Marks × List ℕ). y.0) same in
    let back = ap (λ (y : Marks × List ℕ). y.1) same in
    rw (← value, ← back)
    (record {
      mark = leb-true mark.0 (2 ^ 62) is1.1;
      start = leb-true start.0 mark.0 is2.1;
      within = ltb-true bits.0 (2 ^ brokers) tests.0;
      leads = tests.1;
      stands = λ h.
          let s1 = u64_stands 12 bytes mark.0 mark.1 h is1.0 in
          let s2 = u64_stands 20 mark.1 start.0 start.1 s1.left is2.0 in
          both s1 (both s2 (byte_stands 28 start.1 bits.0 bits.1 s2.left is3.0));
    }))))

-- the ends that were read
record EndsRead (count : ℕ) (ends bytes rest : List ℕ) : Type 0 where
  long : length ends ≡ count
  high : All (λ end. end ≤ 2 ^ 62) ends
  stands : AreBytes bytes → Stands (ends_bytes ends) bytes rest

-- one more
all-more : (end : ℕ) (ends : List ℕ) → end ≤ 2 ^ 62 → All (λ n. n ≤ 2 ^ 62) ends → All (λ n. n ≤ 2 ^ 62) (end ∷ ends)
all-more end ends first more zero d l = first
all-more end ends first more (suc k) d l = more k d (omega (arith, l))

ends-read : (count at : ℕ) (bytes ends rest : List ℕ) → ends_at count at bytes ≡ Ok (ends, rest) → EndsRead count ends bytes rest
ends-read zero at bytes ends rest e =
    let same = ok_same _ ([], bytes) (ends, rest) refl e in
    let value : [] ≡ ends = ap (λ (y : List ℕ × List ℕ). y.0) same in
    let back : bytes ≡ rest = ap (λ (y : List ℕ × List ℕ). y.1) same in
    rw (← value, ← back)
    (record { long = refl; high = λ k d l. absurd (omega (arith, l)); stands = λ h. record { parts = refl; left = h } })
ends-read (suc more) at bytes ends rest e =
    let P = EndsRead (suc more) ends bytes rest in
    peeled P (end_at at bytes) _ (ends, rest) e (λ end e1 m1.
    peeled P (ends_at more (at + 8) end.1) _ (ends, rest) m1 (λ others e2 m2.
    let is = passed (λ n. nat_le n (2 ^ 62)) (Bad at) (number_at w64 at bytes) end e1 in
    let same = ok_same _ (end.0 ∷ others.0, others.1) (ends, rest) refl m2 in
    let value : end.0 ∷ others.0 ≡ ends = ap (λ (y : List ℕ × List ℕ). y.0) same in
    let back : others.1 ≡ rest = ap (λ (y : List ℕ × List ℕ). y.1) same in
    let read = ends-read more (at + 8) end.1 others.0 others.1 e2 in
    rw (← value, ← back)
    (record {
      long = ap (λ n. suc n) read.long;
      high = all-more end.0 others.0 (leb-true end.0 (2 ^ 62) is.1) read.high;
      stands = λ h. let s = u64_stands at bytes end.0 end.1 h is.0 in both s (read.stands s.left);
    })))

-- the ends of so many brokers in eight places
record Placed (count : ℕ) (acked ends : List ℕ) : Type 0 where
  front : take count acked ≡ ends
  past : drop count acked ≡ replicate (8 - count) 0
  places : length acked ≡ 8
  high : All (λ end. end ≤ 2 ^ 62) acked

placed : (count : ℕ) (ends : List ℕ) → count ≤ 8 → length ends ≡ count → All (λ end. end ≤ 2 ^ 62) ends → Placed count (eight ends) ends
placed count ends few long high =
    let zeros : List ℕ = replicate (8 - length ends) 0 in
    let none : All (λ end. end ≤ 2 ^ 62) zeros = All-replicate (λ end. end ≤ 2 ^ 62) (8 - length ends) 0 (omega arith) in
    let back : drop count (eight ends) ≡ replicate (8 - length ends) 0 = drop_at ends zeros count long in record {
      front = take_at ends zeros count long;
      past = back ∙ ap (λ (k : ℕ). replicate (8 - k) 0) long;
      places = grind (arith, length-append, length-replicate);
      high = All-append (λ end. end ≤ 2 ^ 62) ends zeros high none;
    }

-- a view that was read
record ViewRead (view : RegView) (bytes : List ℕ) : Type 0 where
  rules : IsView view
  spelled : AreBytes bytes → bytes ≡ view_bytes view

view-read : (bytes : List ℕ) (view : RegView) → view_in bytes ≡ Ok view → ViewRead view bytes
unfolding view_in view_bytes
view-read bytes view e =
    let P = ViewRead view bytes in
    peeled P (front_at bytes) _ view e (λ front e1 m1.
    peeled P (marks_at front.0.brokers front.0.leader.0 front.1) _ view m1 (λ marks e2 m2.
    peeled P (eight_at front.0.brokers marks.1) _ view m2 (λ acked e3 m3.
    peeled P (ends_at front.0.brokers 29 marks.1) _ acked e3 (λ ends e4 m4.
    let n = front.0.brokers in
    let same = ok_same _ (eight ends.0, ends.1) acked refl m4 in
    let value : eight ends.0 ≡ acked.0 = ap (λ (y : List ℕ × List ℕ). y.0) same in
    let back : ends.1 ≡ acked.1 = ap (λ (y : List ℕ × List ℕ). y.1) same in
    let end = whole_ok (29 + 8 * front.0.brokers) (joined front.0 marks.0 acked.0) view acked.1 m3 in
    let head = front-read bytes front.0 front.1 e1 in
    let middle = marks-read n front.0.leader.0 front.1 marks.0 marks.1 e2 in
    let tail = ends-read n 29 marks.1 ends.0 ends.1 e4 in
    let are : Placed front.0.brokers acked.0 ends.0 = rw value at (placed n ends.0 head.few tail.long tail.high) in
    let none : ends.1 ≡ [] = back ∙ end.1 in
    rw (← end.0)
    (record {
      rules = record {
        some = head.some;
        few = head.few;
        epoch = head.epoch;
        leader = head.leader;
        leads = middle.leads;
        within = middle.within;
        mark = middle.mark;
        start = middle.start;
        ends = are.high;
        places = are.places;
        past = are.past;
      };
      spelled = λ h.
          let s1 = head.stands h in
          let s2 = middle.stands s1.left in
          let all = both s1 (both s2 (tail.stands s2.left)) in
          all.parts ∙ (rw (none, are.front) (append-nil _));
    })))))

-- what was read keeps the rules
pub view_rules : (bytes : List ℕ) (r : Result RegView RegFileRefusal) → r ≡ view_in bytes → IfOk r IsView
view_rules bytes (Ok view) h = (view-read bytes view (sym h)).rules
view_rules bytes (Err why) h = tt

-- bytes are read as a view exactly where they are its spelling and it keeps the rules
pub one_spelling : (bytes : List ℕ) (view : RegView) → All (λ b. b < 256) bytes
    → (view_in bytes ≡ Ok view) ↔ (IsView view × (bytes ≡ view_bytes view))
one_spelling bytes view h =
    let there : view_in bytes ≡ Ok view → IsView view × (bytes ≡ view_bytes view) = λ e. ((view-read bytes view e).rules, (view-read bytes view e).spelled h) in
    let back : IsView view × (bytes ≡ view_bytes view) → view_in bytes ≡ Ok view = λ p. rw (p.1) (view_again view p.0) in
    (there, back)
