-- What was written of a view is read as that view.
use Rattle.std.proofs.Common.{◌≡◌, refl, ℕ, suc, ◌+◌, ◌^◌, ◌<◌, ◌≤◌, nat_lt, true, false, List, [], ◌∷◌, ◌++◌, length, take, Ok, arith, append_assoc, append-nil, length-append, length-take, le-ltb}
use Rattle.std.specs.List.{All}
use Rattle.std.specs.Int.{w16, w32, w64, to_be_bytes}
use Rattle.std.proofs.lemmas.Bool.{lt-ltb, le-leb}
use Rattle.std.proofs.lemmas.List.{take_at, drop_at}
use Rattle.std.proofs.lemmas.List.Elements.{All-take}
use Rattle.std.proofs.lemmas.Nat.{from_be_bytes-to_be_bytes_2, from_be_bytes-to_be_bytes_4, from_be_bytes-to_be_bytes_8}
use Rattle.registry.specs.declared.view.RegView.{RegView}
use Rattle.registry.specs.View.{IsView, has_bit, eight}
use Rattle.registry.proofs.Eight.{eight_taken}
use Rattle.registry_file.specs.Spelling.{magic, front_bytes, marks_bytes, ends_bytes, view_bytes}
use Rattle.registry_file.specs.Reading.{cut_at, number_at, front_at, marks_at, ends_at, view_in}

-- so many bytes are cut off again
pub cut_again : (size at : ℕ) (field rest : List ℕ) → length field ≡ size → cut_at size at (field ++ rest) ≡ Ok (field, rest)
cut_again size at field rest e =
    let fits : nat_lt (length (field ++ rest)) size ≡ false = le-ltb (length (field ++ rest)) size (grind (arith, length-append)) in
    rw (fits, take_at field rest size e, drop_at field rest size e) refl

-- a number is read again
pub u16_again : (at n : ℕ) (rest : List ℕ) → n < 2 ^ 16 → number_at w16 at (to_be_bytes w16 n ++ rest) ≡ Ok (n, rest)
unfolding number_at
u16_again at n rest h = rw (cut_again 2 at (to_be_bytes w16 n) rest refl, from_be_bytes-to_be_bytes_2 n h) refl

pub u32_again : (at n : ℕ) (rest : List ℕ) → n < 2 ^ 32 → number_at w32 at (to_be_bytes w32 n ++ rest) ≡ Ok (n, rest)
unfolding number_at
u32_again at n rest h = rw (cut_again 4 at (to_be_bytes w32 n) rest refl, from_be_bytes-to_be_bytes_4 n h) refl

pub u64_again : (at n : ℕ) (rest : List ℕ) → n < 2 ^ 64 → number_at w64 at (to_be_bytes w64 n ++ rest) ≡ Ok (n, rest)
unfolding number_at
u64_again at n rest h = rw (cut_again 8 at (to_be_bytes w64 n) rest refl, from_be_bytes-to_be_bytes_8 n h) refl

-- what precedes the marks is read again
front-again : (brokers epoch leader : ℕ) (rest : List ℕ) → 1 ≤ brokers → brokers ≤ 8 → epoch < 2 ^ 31 → leader < brokers
    → front_at (front_bytes brokers epoch leader ++ rest)
    ≡ Ok (record { brokers = brokers; epoch = epoch; leader = record { 0 = leader } }, rest)
unfolding front_at front_bytes
front-again brokers epoch leader rest some few fits one =
    let b = to_be_bytes w16 brokers in
    let c = to_be_bytes w32 epoch in
    let d = to_be_bytes w16 leader in
    rw (
      append_assoc (to_be_bytes w32 magic) (b ++ (c ++ d)) rest,
      append_assoc (to_be_bytes w16 brokers) (c ++ d) rest,
      append_assoc (to_be_bytes w32 epoch) d rest,
      u32_again 0 magic (b ++ (c ++ (d ++ rest))) (omega arith),
      u16_again 4 brokers (c ++ (d ++ rest)) (omega (arith, few)),
      lt-ltb 0 brokers (omega (arith, some)),
      le-leb brokers 8 few,
      u32_again 6 epoch (d ++ rest) (omega (arith, fits)),
      lt-ltb epoch (2 ^ 31) fits,
      u16_again 10 leader rest (omega (arith, few, one)),
      lt-ltb leader brokers one,
    ) refl

-- the marks are read again
marks-again : (brokers leader mark start bits : ℕ) (rest : List ℕ) → mark ≤ 2 ^ 62 → start ≤ mark → bits < 2 ^ brokers → has_bit bits leader ≡ true
    → marks_at brokers leader (marks_bytes mark start bits ++ rest)
    ≡ Ok (record { mark = mark; start = start; in_sync = bits }, rest)
unfolding marks_at marks_bytes
marks-again brokers leader mark start bits rest high low within leads =
    let b = to_be_bytes w64 start in
    let c : List ℕ = bits ∷ [] in
    rw (
      append_assoc (to_be_bytes w64 mark) (b ++ c) rest,
      append_assoc (to_be_bytes w64 start) c rest,
      u64_again 12 mark (b ++ (c ++ rest)) (omega (arith, high)),
      le-leb mark (2 ^ 62) high,
      u64_again 20 start (c ++ rest) (omega (arith, high, low)),
      le-leb start mark low,
      lt-ltb bits (2 ^ brokers) within,
      leads,
    ) refl

-- acknowledged ends are read again
ends-again : (at : ℕ) (ends rest : List ℕ) → All (λ end. end ≤ 2 ^ 62) ends → ends_at (length ends) at (ends_bytes ends ++ rest) ≡ Ok (ends, rest)
ends-again at [] rest high = refl
ends-again at (end ∷ ends) rest high =
    let first : end ≤ 2 ^ 62 = high 0 0 (omega arith) in
    rw (
      append_assoc (to_be_bytes w64 end) (ends_bytes ends) rest,
      u64_again at end (ends_bytes ends ++ rest) (omega (arith, first)),
      le-leb end (2 ^ 62) first,
      ends-again (at + 8) ends rest (λ k d l. high (suc k) d (omega (arith, l))),
    ) refl

-- what was written of a view is read as that view
pub view_again : (view : RegView) → IsView view → view_in (view_bytes view) ≡ Ok view
unfolding view_in view_bytes
view_again view rules =
    let ends = take view.brokers view.acked in
    let long : length (take view.brokers view.acked) ≡ view.brokers = grind (arith, length-take, rules.places, rules.few) in
    let none : ends_bytes (take view.brokers view.acked) ++ [] ≡ ends_bytes (take view.brokers view.acked) = append-nil (ends_bytes ends) in
    let read : ends_at view.brokers 29 (ends_bytes (take view.brokers view.acked) ++ []) ≡ Ok (take view.brokers view.acked, []) =
    rw long at (ends-again 29 ends [] (All-take (λ end. end ≤ 2 ^ 62) view.brokers view.acked rules.ends)) in
    let back : eight (take view.brokers view.acked) ≡ view.acked = eight_taken view.brokers view.acked rules.few rules.places rules.past in
    rw (
      front-again view.brokers view.epoch view.leader.0 (marks_bytes view.mark view.start view.in_sync ++ ends_bytes ends) rules.some rules.few rules.epoch rules.leader,
      marks-again view.brokers view.leader.0 view.mark view.start view.in_sync (ends_bytes ends) rules.mark rules.start rules.within rules.leads,
      ← none,
      read,
      back,
    ) refl
