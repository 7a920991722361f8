-- Bytes that are batches, and those after the first of them.
use Rattle.std.proofs.Common.{◌≡◌, ◌≢◌, ◌∙◌, ap, sym, subst, refl, ℕ, ◌+◌, ◌^◌, ◌<◌, ◌≤◌, List, [], ◌∷◌, ◌++◌, length, drop, IsOk, arith, length-append}
use Rattle.std.specs.Prelude.{unwrap_or}
use Rattle.std.specs.List.{AllByRecursion}
use Rattle.std.proofs.lemmas.List.{append-nil}
use Rattle.log_terms.specs.Batch.{base_of, last_of, epoch_of}
use Rattle.log_terms.specs.Log.{joined, IsConsecutive}
use Rattle.record_batch.specs.declared.head.Head.{Head}
use Rattle.record_batch.specs.Check.{checked}
use Rattle.epoch_line.specs.Line.{last_epoch}
use Rattle.segment_file.specs.Walk.{size_in}
use Rattle.segment_file.specs.Gathering.{HeadDescribes}
use Rattle.segment_file.specs.Segment.{EpochsRise}
use Rattle.segment_file.proofs.Joining.{parts_same}
use Rattle.log_steps.specs.Fronts.{Each}
use Rattle.local_log.specs.declared.admitting.Spot.{Spot}
use Rattle.local_log.specs.Run.{IsRunFor}
use Rattle.local_log.specs.Admitting.{AreAdmitted, AreFrom, Meets, AdvancesTo, spot_after}
use Rattle.local_log.proofs.Heads.{long_batch}

-- none are taken
pub none_taken : (end epoch : ℕ) (bytes : List ℕ) → bytes ≡ [] → AreAdmitted end epoch bytes
none_taken end epoch bytes none = record { batches = []; bytes_are = none; are = tt; consecutive = tt; epochs = tt }

-- the first of them
pub record FirstTaken (end epoch : ℕ) (bytes : List ℕ) : Type 0 where
  pub batch : List ℕ
  pub more : List ℕ
  pub parts : bytes ≡ batch ++ more
  pub is : IsOk (checked batch)
  pub begins : base_of batch ≡ end
  pub rises : epoch ≤ epoch_of batch
  pub fits : epoch_of batch < 2 ^ 31
  pub rest : AreAdmitted (last_of batch + 1) (epoch_of batch) more

pub first_taken : (end epoch : ℕ) (bytes : List ℕ) → 0 < length bytes → AreAdmitted end epoch bytes → FirstTaken end epoch bytes
first_taken end epoch bytes some a = go a.batches a.bytes_are a.are a.consecutive a.epochs
  where
    go : (bs : List (List ℕ)) → bytes ≡ joined bs → Each (λ (b : List ℕ). IsOk (checked b)) bs → IsConsecutive end bs → EpochsRise epoch bs → FirstTaken end epoch bytes
    go [] is are c e = absurd (let n = ap length is in omega (arith, n, some))
    go (b ∷ bs) is are c e = record {
      batch = b;
      more = joined bs;
      parts = is;
      is = are.0;
      begins = c.0;
      rises = e.0;
      fits = e.1;
      rest = record { batches = bs; bytes_are = refl; are = are.1; consecutive = c.1; epochs = e.2 };
    }

pub by_recursion : (bs : List (List ℕ)) → Each (λ (b : List ℕ). IsOk (checked b)) bs → AllByRecursion (λ (b : List ℕ). IsOk (checked b)) bs
by_recursion [] h = tt
by_recursion (b ∷ bs) h = (h.0, by_recursion bs h.1)

-- what begins with a batch has it in front
pub front_taken : (end epoch : ℕ) (bytes batch rest : List ℕ) → bytes ≡ batch ++ rest → IsOk (checked batch) → (a : AreAdmitted end epoch bytes) → (more : List (List ℕ)) × (a.batches ≡ batch ∷ more) × (rest ≡ joined more)
front_taken end epoch bytes batch rest parts is a =
    parts_same (batch ∷ []) a.batches rest (is, tt) (by_recursion a.batches a.are) (sym a.bytes_are ∙ parts ∙ ap (λ (l : List ℕ). l ++ rest) (sym (append-nil batch)))

-- the head of the batch at a spot
module _ (run : List ℕ) (spot : Spot) (head : Head) (batch : List ℕ) (is : IsOk (checked batch)) (parts : drop spot.at run ≡ batch ++ drop (spot.at + size_in head) run) (t : HeadDescribes batch head) where
  abbrev pub next : Spot
  next = spot_after spot.at head

  ends : last_of batch + 1 ≡ next.base + next.more
  ends = omega (arith, t.base, t.delta)

  module _ (a : AreFrom run spot) where
    more : List (List ℕ)
    more = (front_taken (spot.base + spot.more) spot.epoch (drop spot.at run) batch (drop (spot.at + size_in head) run) parts is a).0

    all_are : a.batches ≡ batch ∷ more
    unfolding more
    all_are = (front_taken (spot.base + spot.more) spot.epoch (drop spot.at run) batch (drop (spot.at + size_in head) run) parts is a).1

    rest_is : drop (spot.at + size_in head) run ≡ joined more
    unfolding more
    rest_is = (front_taken (spot.base + spot.more) spot.epoch (drop spot.at run) batch (drop (spot.at + size_in head) run) parts is a).2

    follow : IsConsecutive (spot.base + spot.more) (batch ∷ more)
    follow = subst (IsConsecutive (spot.base + spot.more)) all_are a.consecutive

    rise : EpochsRise spot.epoch (batch ∷ more)
    rise = subst (EpochsRise spot.epoch) all_are a.epochs

    oks : Each (λ (b : List ℕ). IsOk (checked b)) (batch ∷ more)
    oks = subst (Each (λ (b : List ℕ). IsOk (checked b))) all_are a.are

    pub meets_first : Meets spot head
    meets_first = record {
      begins = t.base ∙ follow.0;
      rises = (let r = rise.0 in let e = t.epoch in omega (arith, r, e));
      fits = (let f = rise.1 in let e = t.epoch in omega (arith, f, e));
    }

    pub goes_first : AreFrom run next
    goes_first = record {
      batches = more;
      bytes_are = rest_is;
      are = oks.1;
      consecutive = subst (λ (n : ℕ). IsConsecutive n more) ends follow.1;
      epochs = subst (λ (n : ℕ). EpochsRise n more) (sym t.epoch) rise.2;
    }

module _ (run : List ℕ) (spot : Spot) (head : Head) (batch : List ℕ) (is : IsOk (checked batch)) (parts : drop spot.at run ≡ batch ++ drop (spot.at + size_in head) run) (t : HeadDescribes batch head) where
  abbrev pub after : Spot
  after = spot_after spot.at head

  ends_after : last_of batch + 1 ≡ after.base + after.more
  ends_after = omega (arith, t.base, t.delta)

  pub goes_back : Meets spot head → AreFrom run after → AreFrom run spot
  goes_back m a = record {
    batches = batch ∷ a.batches;
    bytes_are = parts ∙ ap (λ (l : List ℕ). batch ++ l) a.bytes_are;
    are = (is, a.are);
    consecutive = (sym t.base ∙ m.begins, subst (λ (n : ℕ). IsConsecutive n a.batches) (sym ends_after) a.consecutive);
    epochs = (
      (let e = t.epoch in let r = m.rises in omega (arith, e, r)),
      (let e = t.epoch in let f = m.fits in omega (arith, e, f)),
      subst (λ (n : ℕ). EpochsRise n a.batches) t.epoch a.epochs,
    );
  }

  pub goes_on : spot.at + size_in head ≤ length run → Meets spot head → AdvancesTo run spot after
  goes_on inside m =
      let long = long_batch batch is in
      record {
        further = (let s = t.size in omega (arith, s, long));
        inside = inside;
        same = (goes_first run spot head batch is parts t, goes_back m);
      }

-- a run is batches, and not none
pub run_taken : (end : ℕ) (line : List (ℕ × ℕ)) (run : List ℕ) → IsRunFor end line run → (0 < length run) × AreAdmitted end (unwrap_or (last_epoch line) 0) run
run_taken end line run r = (some r.batches r.some r.bytes r.are, record { batches = r.batches; bytes_are = r.bytes; are = r.are; consecutive = r.consecutive; epochs = r.epochs })
  where
    some : (bs : List (List ℕ)) → bs ≢ [] → run ≡ joined bs → Each (λ (b : List ℕ). IsOk (checked b)) bs → 0 < length run
    some [] not is are = absurd (not refl)
    some (b ∷ bs) not is are =
        let long = long_batch b are.0 in
        let size = ap length is ∙ length-append b (joined bs) in
        omega (arith, long, size)

pub taken_run : (end : ℕ) (line : List (ℕ × ℕ)) (run : List ℕ) → 0 < length run → AreAdmitted end (unwrap_or (last_epoch line) 0) run → IsRunFor end line run
taken_run end line run some a = record { batches = a.batches; bytes = a.bytes_are; some = λ none. (let n = ap length (a.bytes_are ∙ ap joined none) in omega (arith, n, some)); are = a.are; consecutive = a.consecutive; epochs = a.epochs }
