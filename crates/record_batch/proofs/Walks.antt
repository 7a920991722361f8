-- One record of a batch.
use Rattle.std.proofs.Common.{◌≡◌, ◌∙◌, sym, ap, refl, ℕ, suc, ◌-◌, ◌<◌, ◌+◌, ℤ, Bool, true, false, cond, List, ◌∷◌, length, Option, Some, None, Result, Ok, Err, arith}
use Rattle.std.specs.Option.{option_map}
use Rattle.record_batch.specs.Record.{DeltaRec, record_at}
use Rattle.record_batch.specs.Check.{records_from, with_number, is_number, ◌>>=◌}
use Rattle.record_batch.specs.Walk.{numbered, fault_in}

-- what a record's number says of the records from it on
abbrev pub fault_by : ℕ → ℕ → ℕ → Option (ℤ × List ℕ) → Option ℕ
fault_by n i left None = Some left
fault_by n i left (Some x) = cond (is_number x.0 i) (fault_in (records_from n (i + 1) x.1)) (Some left)

-- a fault of the others is the fault
kept : (r : DeltaRec) (o : Result (List DeltaRec) ℕ) → fault_in (o >>= λ others. Ok (r ∷ others)) ≡ fault_in o
kept r (Ok x) = refl
kept r (Err e) = refl

-- a first record whose number was looked at
tested : (n i left : ℕ) (t : Bool) (x : DeltaRec × List ℕ)
    → fault_in ((cond t (Ok x) (Err left)) >>= λ y. (records_from n (i + 1) y.1 >>= λ others. Ok (y.0 ∷ others)))
    ≡ cond t (fault_in (records_from n (i + 1) x.1)) (Some left)
tested n i left true x = kept x.0 (records_from n (i + 1) x.1)
tested n i left false x = refl

-- a first record, where it is valid
read : (n i left : ℕ) (o : Option (DeltaRec × List ℕ))
    → fault_in (with_number i left o >>= λ y. (records_from n (i + 1) y.1 >>= λ others. Ok (y.0 ∷ others))) ≡ fault_by n i left (option_map numbered o)
read n i left None = refl
read n i left (Some x) = tested n i left (is_number x.0.offset_delta i) x

-- one record, where some are to come
pub record-read : (count i : ℕ) (bytes : List ℕ) (o : Option (ℤ × List ℕ)) → i < count → o ≡ option_map numbered (record_at bytes)
    → fault_in (records_from (count - i) i bytes) ≡ fault_by (count - (i + 1)) i (length bytes) o
record-read count i bytes o below e =
    let left : count - i ≡ suc (count - (i + 1)) = omega arith in
    rw (left, e) (read (count - (i + 1)) i (length bytes) (record_at bytes))

-- a record that has its number
pub record-passed : (count i : ℕ) (bytes after : List ℕ) (z : ℤ) → i < count → Some (z, after) ≡ option_map numbered (record_at bytes) → is_number z i ≡ true
    → fault_in (records_from (count - (i + 1)) (i + 1) after) ≡ fault_in (records_from (count - i) i bytes)
record-passed count i bytes after z below e t =
    sym (record-read count i bytes (Some (z, after)) below e
    ∙ ap (λ (b : Bool). cond b (fault_in (records_from (count - (i + 1)) (i + 1) after)) (Some (length bytes))) t)
