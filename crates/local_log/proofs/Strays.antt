-- Batches whose epochs the leader epochs give, and the first one whose epoch it doesn't.
use Rattle.std.proofs.Common.{◌≡◌, ◌≢◌, ◌∙◌, ap, sym, refl, subst, ℕ, ◌+◌, ◌^◌, ◌<◌, ◌≤◌, ◌==◌, nat_lt, nat_le, Bool, true, false, List, [], ◌∷◌, ◌++◌, length, drop, Option, Some, None, IsOk, Ok, arith, append_assoc, length-append}
use Rattle.std.specs.Prelude.{unwrap_or}
use Rattle.std.specs.List.{AllByRecursion}
use Rattle.std.proofs.lemmas.Bool.{leb-true, le-leb, ltb-false, ne_eqb, eq-eqb}
use Rattle.std.proofs.lemmas.List.{append-nil}
use Rattle.std.proofs.lemmas.Option.{same_Some}
use Rattle.log_terms.specs.Batch.{base_of, epoch_of}
use Rattle.log_terms.specs.Line.{epoch_at}
use Rattle.log_terms.specs.Log.{joined}
use Rattle.log_terms.proofs.Logs.{lt_true, lt_false}
use Rattle.record_batch.specs.declared.head.Head.{Head}
use Rattle.record_batch.specs.Check.{checked, headed}
use Rattle.record_batch.specs.Head.{head_of}
use Rattle.epoch_line.specs.Line.{IsLine, end_of}
use Rattle.segment_file.specs.Gathering.{HeadDescribes}
use Rattle.segment_file.specs.Segment.{IsSegment}
use Rattle.segment_file.proofs.Joining.{joined_same}
use Rattle.segment_file.proofs.Standing.{AreBytes, bytes_drop}
use Rattle.log_steps.specs.Fronts.{Each}
use Rattle.log_steps.specs.Opens.{IsPlaced}
use Rattle.log_steps.proofs.Lists.{each_join, each_right}
use Rattle.local_log.specs.Epochs.{IsOfLine, StraysAt, IsRow, ArePassed}
use Rattle.local_log.proofs.Heads.{headed_batch, front_tells, long_batch}
use Rattle.local_log.proofs.Pieces.{joined_append}

-- an epoch isn't below that of the first entry
pub epoch_low : (e st : ℕ) (line : List (ℕ × ℕ)) (o x : ℕ) → IsLine ((e, st) ∷ line) → epoch_at ((e, st) ∷ line) o ≡ Some x → (e ≤ x) × (x < 2 ^ 31)
epoch_low e st [] o x is found = go (nat_le st o) refl
  where
    go : (t : Bool) → nat_le st o ≡ t → (e ≤ x) × (x < 2 ^ 31)
    go true t = let same = same_Some e x (rw t at found) in (omega (arith, same), omega (arith, same, is.0))
    go false t = let none = rw t at found in absurd (cc (none))
epoch_low e st ((next, after) ∷ line) o x is found = go (nat_lt o st) refl (epoch_low next after line o x is.3)
  where
    second : (t : Bool) → nat_lt o st ≡ false → nat_lt o after ≡ t → (epoch_at ((next, after) ∷ line) o ≡ Some x → (next ≤ x) × (x < 2 ^ 31)) → (e ≤ x) × (x < 2 ^ 31)
    second true f t more = let same = same_Some e x (rw t at (rw f at found)) in (omega (arith, same), omega (arith, same, is.0))
    second false f t more = let h = more (rw t at (rw f at found)) in (omega (arith, h.0, is.2.0), h.1)

    go : (t : Bool) → nat_lt o st ≡ t → (epoch_at ((next, after) ∷ line) o ≡ Some x → (next ≤ x) × (x < 2 ^ 31)) → (e ≤ x) × (x < 2 ^ 31)
    go true t more = let none = rw t at found in absurd (cc (none))
    go false t more = second (nat_lt o after) t refl more

-- an epoch is given up to where it ends
given_up : (x st : ℕ) (line : List (ℕ × ℕ)) (a b e z top : ℕ) → IsLine ((x, st) ∷ line) → epoch_at ((x, st) ∷ line) a ≡ Some e → end_of ((x, st) ∷ line) e top ≡ Some z → a ≤ b → b < z → epoch_at ((x, st) ∷ line) b ≡ Some e
given_up x st [] a b e z top is one two le lt = go (nat_le st a) refl
  where
    go : (t : Bool) → nat_le st a ≡ t → epoch_at ((x, st) ∷ []) b ≡ Some e
    go true t = let from : st ≤ a = leb-true st a t in rw (le-leb st b (omega (arith, from, le))) (rw t at one)
    go false t = let none = rw t at one in absurd (cc (none))
given_up x st ((next, after) ∷ line) a b e z top is one two le lt = go (nat_lt a st) refl (given_up next after line a b e z top is.3)
  where
    second : (t : Bool) → nat_lt a st ≡ false → nat_lt a after ≡ t → (epoch_at ((next, after) ∷ line) a ≡ Some e → end_of ((next, after) ∷ line) e top ≡ Some z → a ≤ b → b < z → epoch_at ((next, after) ∷ line) b ≡ Some e)
        → epoch_at ((x, st) ∷ (next, after) ∷ line) b ≡ Some e
    second true f t more =
        let same : x ≡ e = same_Some x e (rw t at (rw f at one)) in
        let last : after ≡ z = same_Some after z (rw (eq-eqb x e same) at two) in
        let from : st ≤ a = ltb-false a st f in
        let f' : nat_lt b st ≡ false = lt_false b st (omega (arith, from, le)) in
        let t' : nat_lt b after ≡ true = lt_true b after (omega (arith, last, lt)) in
        rw (f', t') (ap (λ (n : ℕ). Some n) same)
    second false f t more =
        let here : epoch_at ((next, after) ∷ line) a ≡ Some e = rw t at (rw f at one) in
        let up = (epoch_low next after line a e is.3 here).0 in
        let other : (x == e) ≡ false = ne_eqb x e (λ same. omega (arith, same, up, is.2.0)) in
        let from : st ≤ a = ltb-false a st f in
        let past : after ≤ a = ltb-false a after t in
        let f' : nat_lt b st ≡ false = lt_false b st (omega (arith, from, le)) in
        let t' : nat_lt b after ≡ false = lt_false b after (omega (arith, past, le)) in
        rw (f', t') (more here (rw other at two) le lt)

    go : (t : Bool) → nat_lt a st ≡ t → (epoch_at ((next, after) ∷ line) a ≡ Some e → end_of ((next, after) ∷ line) e top ≡ Some z → a ≤ b → b < z → epoch_at ((next, after) ∷ line) b ≡ Some e)
        → epoch_at ((x, st) ∷ (next, after) ∷ line) b ≡ Some e
    go true t more = let none = rw t at one in absurd (cc (none))
    go false t more = second (nat_lt a after) t refl more

pub epoch_given : (line : List (ℕ × ℕ)) (a b e z top : ℕ) → IsLine line → epoch_at line a ≡ Some e → end_of line e top ≡ Some z → a ≤ b → b < z → epoch_at line b ≡ Some e
epoch_given [] a b e z top is one two le lt = absurd (cc (one))
epoch_given ((x, st) ∷ line) a b e z top is one two le lt = given_up x st line a b e z top is one two le lt

-- what is given at an offset is given up to where the epoch ends
pub stretch_gives : (line : List (ℕ × ℕ)) (a e top : ℕ) → IsLine line → epoch_at line a ≡ Some e → (o : ℕ) → a ≤ o → o < unwrap_or (end_of line e top) a → epoch_at line o ≡ Some e
stretch_gives line a e top is one o le lt = go (end_of line e top) refl
  where
    go : (r : Option ℕ) → end_of line e top ≡ r → epoch_at line o ≡ Some e
    go None none = let less = rw none at lt in absurd (omega (arith, less, le))
    go (Some z) two = epoch_given line a o e z top is one two le (rw two at lt)

-- batches that may be in a segment have the line's epochs
pub placed_given : (line : List (ℕ × ℕ)) (base : ℕ) (batches : List (List ℕ)) → Each (IsPlaced line base) batches → Each (IsOfLine line) batches
placed_given line base [] placed = tt
placed_given line base (b ∷ batches) placed = (placed.0.epoch, placed_given line base batches placed.1)

-- then none of them strays
pub none_strays : (line : List (ℕ × ℕ)) (batches : List (List ℕ)) (at : ℕ) → Each (IsOfLine line) batches → StraysAt line batches at → ⊥
none_strays line batches at given s = s.other (each_right (IsOfLine line) s.before (s.batch ∷ s.after) (subst (Each (IsOfLine line)) s.parts given)).0

pub stray_inside : (line : List (ℕ × ℕ)) (batches : List (List ℕ)) (at : ℕ) → StraysAt line batches at → at ≤ length (joined batches)
stray_inside line batches at s =
    let e = ap (λ (l : List (List ℕ)). length (joined l)) s.parts ∙ ap length (joined_append s.before (s.batch ∷ s.after)) ∙ length-append (joined s.before) (joined (s.batch ∷ s.after)) in
    let place = s.place in
    omega (arith, e, place)

all_ok : (batches : List (List ℕ)) → Each (λ (b : List ℕ). IsOk (checked b)) batches → AllByRecursion (λ (b : List ℕ). IsOk (checked b)) batches
all_ok [] are = tt
all_ok (b ∷ batches) are = (are.0, all_ok batches are.1)

pub each_ok : (batches : List (List ℕ)) → AllByRecursion (λ (b : List ℕ). IsOk (checked b)) batches → Each (λ (b : List ℕ). IsOk (checked b)) batches
each_ok [] are = tt
each_ok (b ∷ batches) are = (are.0, each_ok batches are.1)

-- a segment's bytes
abbrev pub segment_row : (base : ℕ) (bytes : List ℕ) (batches : List (List ℕ)) → IsSegment base batches → bytes ≡ joined batches → IsRow bytes
segment_row base bytes batches is are = record { batches = batches; bytes_are = are; are = each_ok batches is.checked }

-- the bytes are these batches alone
row_same : (bytes : List ℕ) (row : IsRow bytes) (batches : List (List ℕ)) → bytes ≡ joined batches → Each (λ (b : List ℕ). IsOk (checked b)) batches → batches ≡ row.batches
row_same bytes row batches is are = joined_same batches row.batches (all_ok batches are) (all_ok row.batches row.are) (sym is ∙ row.bytes_are)

drop_at : (xs ys : List ℕ) → drop (length xs) (xs ++ ys) ≡ ys
drop_at [] ys = refl
drop_at (x ∷ xs) ys = drop_at xs ys

pub nothing_passed : (line : List (ℕ × ℕ)) (bytes : List ℕ) → IsRow bytes → ArePassed line bytes 0
nothing_passed line bytes row = record { front = []; rest = row.batches; parts = row.bytes_are; are = row.are; given = tt; place = refl }

module _ (line : List (ℕ × ℕ)) (bytes : List ℕ) (at : ℕ) (p : ArePassed line bytes at) where
  all_of : bytes ≡ joined (p.front ++ p.rest)
  all_of = p.parts ∙ sym (joined_append p.front p.rest)

  size : length bytes ≡ at + length (joined p.rest)
  size = let e = ap length p.parts ∙ length-append (joined p.front) (joined p.rest) in let h = p.place in omega (arith, e, h)

  -- the batch that comes next
  pub record Coming : Type 0 where
    pub batch : List ℕ
    pub more : List (List ℕ)
    pub rest_is : p.rest ≡ batch ∷ more
    pub there : drop at bytes ≡ batch ++ joined more
    pub ok : IsOk (checked batch)
    pub inside : at + length batch ≤ length bytes

  pub coming : at < length bytes → Coming
  coming lt = go p.rest refl
    where
      behind : drop at bytes ≡ joined p.rest
      behind = ap (drop at) p.parts ∙ ap (λ (n : ℕ). drop n (joined p.front ++ joined p.rest)) p.place ∙ drop_at (joined p.front) (joined p.rest)

      go : (rest : List (List ℕ)) → p.rest ≡ rest → Coming
      go [] is = absurd (let e = ap (λ (l : List (List ℕ)). length (joined l)) is in omega (arith, lt, size, e))
      go (b ∷ more) is = record {
        batch = b;
        more = more;
        rest_is = is;
        there = behind ∙ ap joined is;
        ok = (subst (Each (λ (x : List ℕ). IsOk (checked x))) is (each_right (λ (x : List ℕ). IsOk (checked x)) p.front p.rest p.are)).0;
        inside = (let e = ap (λ (l : List (List ℕ)). length (joined l)) is in omega (arith, size, e, length-append b (joined more)));
      }

  pub coming_headed : (c : Coming) → headed (drop at bytes) ≡ Ok (head_of c.batch)
  coming_headed c = ap headed c.there ∙ headed_batch c.batch (joined c.more) c.ok

  pub coming_tells : (c : Coming) (head : Head) → AreBytes bytes → headed (drop at bytes) ≡ Ok head → HeadDescribes c.batch head
  coming_tells c head clean is = front_tells c.batch (joined c.more) head (subst AreBytes c.there (bytes_drop at bytes clean)) c.ok (sym (ap headed c.there) ∙ is)

  pub coming_some : (c : Coming) → 61 ≤ length c.batch
  coming_some c = long_batch c.batch c.ok

  -- it is passed too
  pub more_passed : (c : Coming) (to : ℕ) → to ≡ at + length c.batch → IsOfLine line c.batch → ArePassed line bytes to
  more_passed c to is given =
      let split : p.front ++ p.rest ≡ (p.front ++ c.batch ∷ []) ++ c.more = ap (λ (l : List (List ℕ)). p.front ++ l) c.rest_is ∙ sym (append_assoc p.front (c.batch ∷ []) c.more) in
      record {
        front = p.front ++ c.batch ∷ [];
        rest = c.more;
        parts = all_of ∙ ap joined split ∙ joined_append (p.front ++ c.batch ∷ []) c.more;
        are = subst (Each (λ (x : List ℕ). IsOk (checked x))) split p.are;
        given = each_join (IsOfLine line) p.front (c.batch ∷ []) p.given (given, tt);
        place = (
            let e = ap length (joined_append p.front (c.batch ∷ [])) ∙ length-append (joined p.front) (joined (c.batch ∷ [])) in
            let one = ap length (append-nil c.batch) in
            let h = p.place in
            omega (arith, e, one, h, is)
            );
      }

  -- or it is the first that strays
  pub strays_here : (c : Coming) → epoch_at line (base_of c.batch) ≢ Some (epoch_of c.batch) → (row : IsRow bytes) → StraysAt line row.batches at
  strays_here c other row = record {
    before = p.front;
    batch = c.batch;
    after = c.more;
    parts = sym (row_same bytes row (p.front ++ p.rest) all_of p.are) ∙ ap (λ (l : List (List ℕ)). p.front ++ l) c.rest_is;
    given = p.given;
    other = other;
    place = p.place;
  }

  -- all of them are passed
  pub all_passed : length bytes ≤ at → (row : IsRow bytes) → Each (IsOfLine line) row.batches
  all_passed le row = go p.rest refl
    where
      go : (rest : List (List ℕ)) → p.rest ≡ rest → Each (IsOfLine line) row.batches
      go [] is =
          let all : p.front ≡ row.batches = sym (append-nil p.front) ∙ ap (λ (l : List (List ℕ)). p.front ++ l) (sym is) ∙ row_same bytes row (p.front ++ p.rest) all_of p.are in
          subst (Each (IsOfLine line)) all p.given
      go (b ∷ more) is =
          let ok = (subst (Each (λ (x : List ℕ). IsOk (checked x))) is (each_right (λ (x : List ℕ). IsOk (checked x)) p.front p.rest p.are)).0 in
          let long = long_batch b ok in
          let e = ap (λ (l : List (List ℕ)). length (joined l)) is in
          absurd (omega (arith, size, e, length-append b (joined more), long, le))
