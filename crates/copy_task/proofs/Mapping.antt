-- The map of epochs that a copy's entry has.
use Rattle.std.proofs.Common.{◌≡◌, ◌≢◌, refl, sym, ap, subst, ℕ, ◌+◌, ◌*◌, ◌<◌, ◌≤◌, Bool, true, false, cond, List, [], ◌∷◌, length, Ok, Err, arith}
use Rattle.std.specs.Prelude.{◌==◌, ◌^◌, IsOk, Result}
use Rattle.std.specs.List.{AllByRecursion}
use Rattle.std.proofs.lemmas.List.{length-append}
use Rattle.log_terms.specs.Batch.{base_of, last_of, epoch_of}
use Rattle.log_terms.specs.Line.{line_of, line_after}
use Rattle.log_terms.specs.Log.{joined, end_from, IsConsecutive}
use Rattle.log_terms.proofs.Logs.{end_above}
use Rattle.record_batch.specs.Check.{Batch, checked}
use Rattle.record_batch.specs.declared.refusal.BatchRefusal.{BatchRefusal}
use Rattle.record_batch.proofs.Passing.{is_batch_of}
use Rattle.epoch_line.specs.Line.{IsLine}
use Rattle.segment_meta.specs.Rules.{IsMap, StartsAt}
use Rattle.copy_task.specs.Copying.{Copied, IsCopied}

-- starts lie below the batches' end
starts_after : (n epoch last : ℕ) (bs : List (List ℕ)) → IsConsecutive n bs → end_from n bs ≤ last + 1 → AllByRecursion (λ (pair : ℕ × ℕ). pair.1 ≤ last) (line_after epoch bs)
starts_after n epoch last [] c low = tt
starts_after n epoch last (b ∷ bs) c low =
    by (epoch_of b == epoch) (starts_after (last_of b + 1) epoch last bs c.1 low) (starts_after (last_of b + 1) (epoch_of b) last bs c.1 low)
  where
    by : (t : Bool) → AllByRecursion (λ (pair : ℕ × ℕ). pair.1 ≤ last) (line_after epoch bs)
        → AllByRecursion (λ (pair : ℕ × ℕ). pair.1 ≤ last) (line_after (epoch_of b) bs)
        → AllByRecursion (λ (pair : ℕ × ℕ). pair.1 ≤ last) (cond t (line_after epoch bs) ((epoch_of b, base_of b) ∷ line_after (epoch_of b) bs))
    by true same more = same
    by false same more = (let up = end_above (last_of b + 1) bs c.1 in omega (arith, up, low), more)

pub starts_within : (n last : ℕ) (bs : List (List ℕ)) → IsConsecutive n bs → end_from n bs ≤ last + 1 → AllByRecursion (λ (pair : ℕ × ℕ). pair.1 ≤ last) (line_of bs)
starts_within n last [] c low = tt
starts_within n last (b ∷ bs) c low =
    (let up = end_above (last_of b + 1) bs c.1 in omega (arith, up, low), starts_after (last_of b + 1) (epoch_of b) last bs c.1 low)

-- no more epochs than batches
few_after : (epoch : ℕ) (bs : List (List ℕ)) → length (line_after epoch bs) ≤ length bs
few_after epoch [] = omega arith
few_after epoch (b ∷ bs) = by (epoch_of b == epoch) (few_after epoch bs) (few_after (epoch_of b) bs)
  where
    by : (t : Bool) → length (line_after epoch bs) ≤ length bs → length (line_after (epoch_of b) bs) ≤ length bs
        → length (cond t (line_after epoch bs) ((epoch_of b, base_of b) ∷ line_after (epoch_of b) bs)) ≤ length (b ∷ bs)
    by true same more = omega (arith, same)
    by false same more = omega (arith, more)

few_epochs : (bs : List (List ℕ)) → length (line_of bs) ≤ length bs
few_epochs [] = omega arith
few_epochs (b ∷ bs) = let more = few_after (epoch_of b) bs in omega (arith, more)

long_batch : (batch : List ℕ) → IsOk (checked batch) → 61 ≤ length batch
long_batch batch ok = go (checked batch) refl ok
  where
    go : (r : Result Batch BatchRefusal) → checked batch ≡ r → IsOk r → 61 ≤ length batch
    go (Ok b) e ok = (is_batch_of batch b e).long
    go (Err why) e ok = absurd (cc)

-- a batch has 61 bytes at least
pub many_bytes : (bs : List (List ℕ)) → AllByRecursion (λ (batch : List ℕ). IsOk (checked batch)) bs → 61 * length bs ≤ length (joined bs)
many_bytes [] ok = omega arith
many_bytes (b ∷ bs) ok =
    let one = long_batch b ok.0 in
    let more = many_bytes bs ok.1 in
    let sum = length-append b (joined bs) in
    omega (arith, one, more, sum)

starts_at : (n : ℕ) (bs : List (List ℕ)) → bs ≢ [] → IsConsecutive n bs → StartsAt n (line_of bs)
starts_at n [] some c = absurd (some refl)
starts_at n (b ∷ bs) some c = c.0

past_base : (n : ℕ) (bs : List (List ℕ)) → bs ≢ [] → IsConsecutive n bs → n < end_from n bs
past_base n [] some c = absurd (some refl)
past_base n (b ∷ bs) some c = let up = end_above (last_of b + 1) bs c.1 in omega (arith, up, c.0)

module _ (copy : Copied) (is : IsCopied copy) where
  pub ordered : copy.segment.base ≤ copy.segment.last
  ordered = let past = past_base copy.segment.base is.batches is.some is.is.consecutive in omega (arith, past, is.last_is)

  pub bounded : copy.segment.last < 2 ^ 62
  bounded = omega (arith, is.last_is, is.is.low)

  pub small : length copy.segment.bytes < 2 ^ 31
  small = subst (λ (bytes : List ℕ). length bytes < 2 ^ 31) (sym is.bytes_are) is.is.small

  pub is_map : IsLine copy.segment.epochs → IsMap copy.segment.base copy.segment.last copy.segment.epochs
  is_map line = record {
    line = line;
    first = subst (StartsAt copy.segment.base) (sym is.epochs_are) (starts_at copy.segment.base is.batches is.some is.is.consecutive);
    within = subst (AllByRecursion (λ (pair : ℕ × ℕ). pair.1 ≤ copy.segment.last)) (sym is.epochs_are)
        (starts_within copy.segment.base copy.segment.last is.batches is.is.consecutive (omega (arith, is.last_is)));
    few = (
        let epochs = ap length is.epochs_are in
        let few = few_epochs is.batches in
        let many = many_bytes is.batches is.is.checked in
        omega (arith, epochs, few, many, is.is.small));
  }
