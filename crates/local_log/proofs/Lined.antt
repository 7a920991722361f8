-- The line with batches more.
use Rattle.std.proofs.Common.{◌≡◌, ◌≢◌, ◌^◌, ◌∙◌, ap, sym, subst, refl, ℕ, ◌+◌, ◌≤◌, ◌<◌, Bool, true, false, cond, List, [], ◌∷◌, Option, Some, None, arith, le-leb}
use Rattle.std.specs.Prelude.{unwrap_or}
use Rattle.std.specs.Option.{ForSome}
use Rattle.std.proofs.lemmas.Bool.Decides.{nat_tests}
use Rattle.log_terms.specs.Batch.{base_of, last_of, epoch_of}
use Rattle.log_terms.specs.Log.{IsConsecutive, end_from}
use Rattle.log_terms.specs.Line.{epoch_at}
use Rattle.log_terms.proofs.Logs.{end_above}
use Rattle.epoch_line.specs.Line.{IsLine, last_epoch, cut_end, assign}
use Rattle.epoch_line.proofs.Parts.{IsLine-assign}
use Rattle.epoch_line.proofs.Holding.{started, epoch_at-started}
use Rattle.segment_file.specs.Segment.{EpochsRise}
use Rattle.log_steps.specs.Fronts.{Each}
use Rattle.log_steps.proofs.Lists.{each_map}
use Rattle.local_log.specs.Run.{snapshot, lined, is_last}
use Rattle.local_log.proofs.Lines.{cut_cut, cut_assign, within_assign, epoch_same}
use Rattle.local_log.proofs.Gathered.{begun_last}

-- a line up to an offset, with an epoch that begins there or has begun
pub record IsBegun (line next : List (ℕ × ℕ)) (epoch n : ℕ) : Type 0 where
  pub is : IsLine next
  pub same : cut_end next n ≡ cut_end line n
  pub within : Each (λ (e : ℕ × ℕ). e.1 ≤ n) next

not_last : (o : Option ℕ) (epoch : ℕ) → is_last o epoch ≡ false → unwrap_or o 0 ≤ epoch → ForSome o (λ last. last < epoch)
not_last None epoch e le = λ n is. absurd (cc (is))
not_last (Some x) epoch e le = λ n is. (let same : x ≡ n = cc (is) in let ne : x ≢ epoch = grind (arith, nat_tests, e) in lt_of x n epoch same ne le)
  where
    lt_of : (x n epoch : ℕ) → x ≡ n → x ≢ epoch → x ≤ epoch → n < epoch
    lt_of x n epoch same ne le = grind (arith, same, ne, le)

pub is_begun : (line : List (ℕ × ℕ)) (epoch n : ℕ) → IsLine line → Each (λ (e : ℕ × ℕ). e.1 ≤ n) line → epoch < 2 ^ 31 → n ≤ 2 ^ 62 → unwrap_or (last_epoch line) 0 ≤ epoch → IsBegun line (snapshot line epoch n) epoch n
is_begun line epoch n is within fits low up = go (is_last (last_epoch line) epoch) refl
  where
    go : (t : Bool) → is_last (last_epoch line) epoch ≡ t → IsBegun line (cond t line (assign line epoch n)) epoch n
    go true e = record { is = is; same = refl; within = within }
    go false e = record {
      is = IsLine-assign line epoch n is fits low (not_last (last_epoch line) epoch e up);
      same = cut_assign line epoch n n (omega arith);
      within = within_assign line epoch n;
    }

started_all : (line : List (ℕ × ℕ)) (n : ℕ) → Each (λ (e : ℕ × ℕ). e.1 ≤ n) line → started n line ≡ line
started_all [] n h = refl
started_all (e ∷ line) n h = rw (le-leb e.1 n h.0) (ap (λ (l : List (ℕ × ℕ)). e ∷ l) (started_all line n h.1))

-- the epoch at the end of a line
epoch_end : (line : List (ℕ × ℕ)) (n : ℕ) → IsLine line → Each (λ (e : ℕ × ℕ). e.1 ≤ n) line → epoch_at line n ≡ last_epoch line
epoch_end line n is within = epoch_at-started line n is ∙ ap last_epoch (started_all line n within)

pub record IsLined (line next : List (ℕ × ℕ)) (n : ℕ) (batches : List (List ℕ)) : Type 0 where
  pub is : IsLine next
  pub same : cut_end next n ≡ cut_end line n
  pub within : Each (λ (e : ℕ × ℕ). e.1 ≤ end_from n batches) next
  pub epochs : Each (λ (b : List ℕ). epoch_at next (base_of b) ≡ Some (epoch_of b)) batches

pub is_lined : (line : List (ℕ × ℕ)) (n : ℕ) (bs : List (List ℕ)) → IsLine line → Each (λ (e : ℕ × ℕ). e.1 ≤ n) line → IsConsecutive n bs → EpochsRise (unwrap_or (last_epoch line) 0) bs → end_from n bs ≤ 2 ^ 62
    → IsLined line (lined line bs) n bs
is_lined line n [] is within c rise low = record { is = is; same = refl; within = within; epochs = tt }
is_lined line n (b ∷ bs) is within c rise low =
    let up = end_above (last_of b + 1) bs c.1 in
    let here = subst (λ (k : ℕ). IsBegun line (snapshot line (epoch_of b) k) (epoch_of b) k) (sym c.0)
    (is_begun line (epoch_of b) n is within rise.1 (omega (arith, up, c.0, low)) rise.0) in
    let last = begun_last line (epoch_of b) (base_of b) in
    let rest = is_lined (snapshot line (epoch_of b) (base_of b)) (last_of b + 1) bs here.is
    (each_map (λ e le. omega (arith, le)) (snapshot line (epoch_of b) (base_of b)) here.within) c.1
    (subst (λ (o : Option ℕ). EpochsRise (unwrap_or o 0) bs) (sym last) rise.2) low in
    record {
      is = rest.is;
      same =
          sym (cut_cut (lined (snapshot line (epoch_of b) (base_of b)) bs) (last_of b + 1) n (omega (arith, c.0)))
          ∙ ap (λ (l : List (ℕ × ℕ)). cut_end l n) rest.same
          ∙ cut_cut (snapshot line (epoch_of b) (base_of b)) (last_of b + 1) n (omega (arith, c.0))
          ∙ subst (λ (k : ℕ). cut_end (snapshot line (epoch_of b) (base_of b)) k ≡ cut_end line k) c.0 here.same;
      within = rest.within;
      epochs = (
        epoch_same (snapshot line (epoch_of b) (base_of b)) (lined (snapshot line (epoch_of b) (base_of b)) bs) (base_of b) (last_of b + 1) here.is rest.is rest.same (omega arith)
            ∙ epoch_end (snapshot line (epoch_of b) (base_of b)) (base_of b) here.is here.within ∙ last,
        rest.epochs,
      );
    }
