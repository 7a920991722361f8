-- A map that is read epoch by epoch.
use Rattle.std.proofs.Common.{◌≡◌, ◌∙◌, ap, sym, refl, ℕ, zero, suc, ◌+◌, ◌-◌, ◌*◌, ◌^◌, ◌<◌, ◌≤◌, List, [], ◌∷◌, ◌++◌, Option, Some, None, Ok, Err, true, arith, append_assoc, append-nil}
use Rattle.std.specs.Int.{w32, w64}
use Rattle.std.specs.Option.{ForSome}
use Rattle.std.proofs.lemmas.Bool.{eqb-true}
use Rattle.epoch_line.specs.Line.{last_entry}
use Rattle.segment_meta.specs.declared.refusal.NoteRefusal.{NoteRefusal}
use Rattle.segment_meta.specs.declared.refusal.NoteRefusal.TheVariants.{Bad}
use Rattle.segment_meta.specs.Reading.{Read, passing, ◌>>=◌, number_at, epoch_may, start_may, pair_at, pairs_at}
use Rattle.segment_meta.proofs.Inverting.{bound, passed, ok_same}

-- epochs after those that were read before
abbrev pub glue : List (ℕ × ℕ) → Read (List (ℕ × ℕ)) → Read (List (ℕ × ℕ))
glue front (Ok x) = Ok (front ++ x.0, x.1)
glue front (Err why) = Err why

-- the entry that was put last
pub last_push : (front : List (ℕ × ℕ)) (p : ℕ × ℕ) → last_entry (front ++ p ∷ []) ≡ Some p
last_push [] p = refl
last_push (one ∷ []) p = refl
last_push (one ∷ two ∷ front) p = last_push (two ∷ front) p

-- nothing was read before
pub glue_none : (r : Read (List (ℕ × ℕ))) → glue [] r ≡ r
glue_none (Ok x) = refl
glue_none (Err why) = refl

-- an epoch that was read, and the others
others : (front : List (ℕ × ℕ)) (p : ℕ × ℕ) (r : Read (List (ℕ × ℕ)))
    → glue (front ++ p ∷ []) r ≡ glue front (r >>= λ x. Ok (p ∷ x.0, x.1))
others front p (Ok x) = ap (λ (t : List (ℕ × ℕ)). Ok (t, x.1)) (append_assoc front (p ∷ []) x.0)
others front p (Err why) = refl

-- one epoch is read
pub pair_taken : (start end count i : ℕ) (front : List (ℕ × ℕ)) (p : ℕ × ℕ) (rest behind : List ℕ) (all : Read (List (ℕ × ℕ)))
    → i < count → pair_at start end (63 + 12 * i) (last_entry front) rest ≡ Ok (p, behind)
    → glue front (pairs_at start end (count - i) (63 + 12 * i) (last_entry front) rest) ≡ all
    → glue (front ++ p ∷ []) (pairs_at start end (count - (i + 1)) (63 + 12 * (i + 1)) (last_entry (front ++ p ∷ [])) behind) ≡ all
pair_taken start end count i front p rest behind all below e whole =
    let left : count - i ≡ suc (count - (i + 1)) = omega arith in
    let place : 63 + 12 * (i + 1) ≡ 63 + 12 * i + 12 = omega arith in
    let now : glue front (pairs_at start end (suc (count - (i + 1))) (63 + 12 * i) (last_entry front) rest) ≡ all = rw left at whole in
    rw (place, last_push front p)
    (others front p (pairs_at start end (count - (i + 1)) (63 + 12 * i + 12) (Some p) behind) ∙ (rw e at now))

-- the first epoch that can't be read
pub pair_refused : (start end count i : ℕ) (front : List (ℕ × ℕ)) (why : NoteRefusal) (rest : List ℕ) (all : Read (List (ℕ × ℕ)))
    → i < count → pair_at start end (63 + 12 * i) (last_entry front) rest ≡ Err why
    → glue front (pairs_at start end (count - i) (63 + 12 * i) (last_entry front) rest) ≡ all
    → all ≡ Err why
pair_refused start end count i front why rest all below e whole =
    let left : count - i ≡ suc (count - (i + 1)) = omega arith in
    let now : glue front (pairs_at start end (suc (count - (i + 1))) (63 + 12 * i) (last_entry front) rest) ≡ all = rw left at whole in
    sym (rw e at now)

-- no epoch is left
pub map_whole : (start end count : ℕ) (front : List (ℕ × ℕ)) (rest : List ℕ) (all : Read (List (ℕ × ℕ)))
    → glue front (pairs_at start end (count - count) (63 + 12 * count) (last_entry front) rest) ≡ all
    → all ≡ Ok (front, rest)
map_whole start end count front rest all whole =
    let none : count - count ≡ zero = omega arith in
    let now : glue front (pairs_at start end zero (63 + 12 * count) (last_entry front) rest) ≡ all = rw none at whole in
    sym now ∙ ap (λ (t : List (ℕ × ℕ)). Ok (t, rest)) (append-nil front)

-- both numbers of an epoch that was read passed their tests
pub pair_tests : (start end at : ℕ) (last : Option (ℕ × ℕ)) (bytes : List ℕ) (p : ℕ × ℕ) (rest : List ℕ)
    → pair_at start end at last bytes ≡ Ok (p, rest) → (epoch_may last p.0 ≡ true) × (start_may start end last p.1 ≡ true)
unfolding pair_at
pair_tests start end at last bytes p rest e =
    let one = bound (passing (epoch_may last) (Bad at) (number_at w32 bytes)) _ (p, rest) e in
    let two = bound (passing (start_may start end last) (Bad (at + 4)) (number_at w64 one.0.1)) _ (p, rest) one.2 in
    let epoch = passed (epoch_may last) (Bad at) (number_at w32 bytes) one.0 one.1 in
    let first = passed (start_may start end last) (Bad (at + 4)) (number_at w64 one.0.1) two.0 two.1 in
    let same : (one.0.0, two.0.0) ≡ p = ap (λ (x : (ℕ × ℕ) × List ℕ). x.0) (ok_same _ ((one.0.0, two.0.0), two.0.1) (p, rest) refl two.2) in
    (rw (← same) epoch.1, rw (← same) first.1)

-- what the tests say of an epoch that may follow
pub record Follows (start end : ℕ) (last : Option (ℕ × ℕ)) (p : ℕ × ℕ) : Type 0 where
  pub epoch : p.0 < 2 ^ 31
  pub first : p.1 ≤ end
  pub above : ForSome last (λ l. (l.0 < p.0) × (l.1 < p.1))
  pub begins : last ≡ None → p.1 ≡ start

-- an entry that passed them lies above the last one
pub follows : (start end : ℕ) (last : Option (ℕ × ℕ)) (p : ℕ × ℕ) → start ≤ end
    → epoch_may last p.0 ≡ true → start_may start end last p.1 ≡ true → Follows start end last p
follows start end None p ordered e s = record {
  epoch = grind arith;
  first = grind arith;
  above = λ l is. absurd (cc);
  begins = λ none. eqb-true p.1 start s;
}
follows start end (Some last) p ordered e s =
    let both : (last.0 < p.0) × (last.1 < p.1) = (grind arith, grind arith) in record {
      epoch = grind arith;
      first = grind arith;
      above = λ l is. let same : last ≡ l = cc in rw (← same) both;
      begins = λ none. absurd (cc);
    }

-- and so does one that was read
pub pair_follows : (start end at : ℕ) (last : Option (ℕ × ℕ)) (bytes : List ℕ) (p : ℕ × ℕ) (rest : List ℕ) → start ≤ end
    → pair_at start end at last bytes ≡ Ok (p, rest) → Follows start end last p
pair_follows start end at last bytes p rest ordered e =
    let tests = pair_tests start end at last bytes p rest e in
    follows start end last p ordered tests.0 tests.1
