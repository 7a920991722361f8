-- A stamped batch passes the tests that the batch passed, and has its records.
use Rattle.std.proofs.Common.{◌≡◌, ◌∙◌, sym, ap, refl, ℕ, ◌+◌, ◌≤◌, ℤ, List, length, drop, map, slice_index, Result, Ok, arith}
use Rattle.std.specs.Int.{w16, w32, w64, from_be_bytes, cast_signed}
use Rattle.std.proofs.Math.ListN.{get_or}
use Rattle.std.proofs.lemmas.List.{drop-drop, get_or-drop}
use Rattle.log_terms.specs.Batch.{field_at}
use Rattle.record_batch.specs.declared.rec.Rec.{Rec}
use Rattle.record_batch.specs.Head.{head_of}
use Rattle.record_batch.specs.Record.{DeltaRec}
use Rattle.record_batch.specs.Check.{Batch, head_refusal, sum_refusal, flag_refusal, records_from, rec_in, batch_of, checked}
use Rattle.record_batch.specs.Stamp.{stamped}
use Rattle.record_batch.proofs.StampLaws.{drop_16, later-field, kept-stamped, length_stamped}
use Rattle.record_batch.proofs.Passing.{Passes, passes, checked_lem, batch-parts, head_long}

-- what follows the leader epoch, from any place on
later-bytes : (n : ℕ) (batch : List ℕ) (base epoch : ℕ) → 16 ≤ length batch → drop (16 + n) (stamped batch base epoch) ≡ drop (16 + n) batch
later-bytes n batch base epoch long =
    sym (drop-drop n 16 (stamped batch base epoch)) ∙ (ap (λ (t : List ℕ). drop n t) (drop_16 batch base epoch long) ∙ drop-drop n 16 batch)

-- magic
magic-stamped : (batch : List ℕ) (base epoch : ℕ) → 16 ≤ length batch → slice_index (stamped batch base epoch) 16 ≡ slice_index batch 16
magic-stamped batch base epoch long =
    sym (get_or-drop 16 (stamped batch base epoch) 0 0) ∙ (ap (λ (t : List ℕ). get_or t 0 0) (drop_16 batch base epoch long) ∙ get_or-drop 16 batch 0 0)

-- batch_length
length-field : (batch : List ℕ) (base epoch : ℕ) → 16 ≤ length batch → field_at w32 8 (stamped batch base epoch) ≡ field_at w32 8 batch
unfolding field_at
length-field batch base epoch long = ap (λ (t : List ℕ). from_be_bytes w32 t) (kept-stamped batch base epoch long)

-- tests 1 to 3
head-kept : (batch : List ℕ) (base epoch : ℕ) → 16 ≤ length batch → head_refusal (stamped batch base epoch) ≡ head_refusal batch
unfolding head_refusal
head-kept batch base epoch long =
    rw (length_stamped batch base epoch long, magic-stamped batch base epoch long, length-field batch base epoch long) refl

-- tests 4 and 5
sum-kept : (batch : List ℕ) (base epoch : ℕ) → 16 ≤ length batch → sum_refusal (stamped batch base epoch) ≡ sum_refusal batch
unfolding sum_refusal
sum-kept batch base epoch long =
    rw (length_stamped batch base epoch long, length-field batch base epoch long, later-field w32 1 batch base epoch long, later-bytes 5 batch base epoch long) refl

-- a stamped batch passes the tests
stamped-passes : (batch : List ℕ) (base epoch : ℕ) → Passes batch → Passes (stamped batch base epoch)
stamped-passes batch base epoch p =
    let long : 16 ≤ length batch = omega (arith, head_long batch p.head) in record {
      head = head-kept batch base epoch long ∙ p.head;
      sum = sum-kept batch base epoch long ∙ p.sum;
      flags = ap flag_refusal (later-field w16 5 batch base epoch long) ∙ p.flags;
      count = rw (later-field w32 41 batch base epoch long, later-field w32 7 batch base epoch long) p.count;
    }

-- a record, by the three fields of a head that it depends on
abbrev pub rec_by : ℤ → ℤ → ℤ → DeltaRec → Rec
rec_by attributes max_ts base_ts r =
    rec_in (record {
      base_offset = base_ts;
      batch_length = base_ts;
      leader_epoch = base_ts;
      magic = base_ts;
      crc = 0;
      attributes = attributes;
      last_offset_delta = base_ts;
      base_ts = base_ts;
      max_ts = max_ts;
      producer_id = base_ts;
      producer_epoch = base_ts;
      base_sequence = base_ts;
      records_count = base_ts;
    }) r

-- a stamped batch has the same records
same-recs : (batch : List ℕ) (base epoch : ℕ) (rs : List DeltaRec) → 16 ≤ length batch
    → map (rec_in (head_of (stamped batch base epoch))) rs ≡ map (rec_in (head_of batch)) rs
unfolding head_of
same-recs batch base epoch rs long =
    let s = head_of (stamped batch base epoch) in
    let b = head_of batch in
    ap (λ (n : ℕ). map (rec_by (cast_signed w16 n) s.max_ts s.base_ts) rs) (later-field w16 5 batch base epoch long)
    ∙ (ap (λ (n : ℕ). map (rec_by b.attributes (cast_signed w64 n) s.base_ts) rs) (later-field w64 19 batch base epoch long)
    ∙ ap (λ (n : ℕ). map (rec_by b.attributes b.max_ts (cast_signed w64 n)) rs) (later-field w64 11 batch base epoch long))

-- a stamped batch is a batch of the same records
pub stamped_checked : (bytes : List ℕ) (batch : Batch) (base epoch : ℕ) → checked bytes ≡ Ok batch
    → checked (stamped bytes base epoch) ≡ Ok (record { head = head_of (stamped bytes base epoch); recs = batch.recs })
stamped_checked bytes batch base epoch e =
    let p : Passes bytes = passes bytes (rw e refl) in
    let long : 16 ≤ length bytes = omega (arith, head_long bytes p.head) in
    let parts = batch-parts (head_of bytes) (length bytes) (records_from (field_at w32 57 bytes) 0 (drop 61 bytes)) batch (sym (checked_lem bytes p) ∙ e) in
    let read : records_from (field_at w32 57 (stamped bytes base epoch)) 0 (drop 61 (stamped bytes base epoch)) ≡ Ok parts.0
    = rw (later-field w32 41 bytes base epoch long, later-bytes 45 bytes base epoch long) parts.1 in
    let recs : map (rec_in (head_of (stamped bytes base epoch))) parts.0 ≡ batch.recs
    = same-recs bytes base epoch parts.0 long ∙ ap (λ (b : Batch). b.recs) parts.2 in
    checked_lem (stamped bytes base epoch) (stamped-passes bytes base epoch p)
    ∙ (ap (λ (r : Result (List DeltaRec) ℕ). batch_of (head_of (stamped bytes base epoch)) (length (stamped bytes base epoch)) r) read
    ∙ ap (λ (rs : List Rec). Ok (record { head = head_of (stamped bytes base epoch); recs = rs })) recs)
