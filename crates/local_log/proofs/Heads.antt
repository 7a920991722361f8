-- The head at the front of bytes is that of the batch that is there.
use Rattle.std.proofs.Common.{◌≡◌, ◌≢◌, ◌^◌, ◌∙◌, ap, sym, subst, refl, ℕ, zero, suc, ◌+◌, ◌-◌, ◌≤◌, ◌<◌, List, [], ◌∷◌, ◌++◌, length, drop, slice_index, Result, Ok, Err, IsOk, arith}
use Rattle.std.specs.Int.{Width, w16, w32, w64, byte_len}
use Rattle.std.proofs.lemmas.List.{take-append-le}
use Rattle.log_terms.specs.Batch.{field_at, base_of, last_of, last_offset_delta_of}
use Rattle.record_batch.specs.declared.head.Head.{Head}
use Rattle.record_batch.specs.declared.refusal.BatchRefusal.{BatchRefusal}
use Rattle.record_batch.specs.Head.{head_of}
use Rattle.record_batch.specs.Check.{Batch, checked, headed}
use Rattle.record_batch.proofs.Passing.{is_batch_of}
use Rattle.segment_file.specs.Gathering.{HeadDescribes}
use Rattle.segment_file.proofs.Finding.{drop_append, length_drop, headed_front}
use Rattle.segment_file.proofs.Standing.{AreBytes, front_bytes}
use Rattle.segment_file.proofs.Telling.{is_observable}
use Rattle.log_terms.specs.Log.{joined, IsConsecutive}
use Rattle.log_steps.specs.Fronts.{Each}
use Rattle.local_log.specs.Run.{IsRunFor, first_size}
use Rattle.local_log.specs.Taking.{head_asks, AsksOf}

index_append : (n : ℕ) (xs ys : List ℕ) → n < length xs → slice_index (xs ++ ys) n ≡ slice_index xs n
index_append n [] ys h = absurd (omega (arith, h))
index_append zero (x ∷ xs) ys h = refl
index_append (suc n) (x ∷ xs) ys h = index_append n xs ys (omega (arith, h))

-- a field within the first bytes
pub field_front : (w : Width) (at : ℕ) (xs ys : List ℕ) → at + byte_len w ≤ length xs → field_at w at (xs ++ ys) ≡ field_at w at xs
unfolding field_at
field_front w at xs ys fits =
    let size : length (drop at xs) ≡ length xs - at = length_drop at xs (omega (arith, fits)) in
    rw (drop_append at xs ys (omega (arith, fits)), take-append-le (byte_len w) (drop at xs) ys (omega (arith, fits, size))) refl

pub head_front : (xs ys : List ℕ) → 61 ≤ length xs → head_of (xs ++ ys) ≡ head_of xs
unfolding head_of
head_front xs ys long =
    rw (
      field_front w64 0 xs ys (omega (arith, long)),
      field_front w32 8 xs ys (omega (arith, long)),
      field_front w32 12 xs ys (omega (arith, long)),
      index_append 16 xs ys (omega (arith, long)),
      field_front w32 17 xs ys (omega (arith, long)),
      field_front w16 21 xs ys (omega (arith, long)),
      field_front w32 23 xs ys (omega (arith, long)),
      field_front w64 27 xs ys (omega (arith, long)),
      field_front w64 35 xs ys (omega (arith, long)),
      field_front w64 43 xs ys (omega (arith, long)),
      field_front w16 51 xs ys (omega (arith, long)),
      field_front w32 53 xs ys (omega (arith, long)),
      field_front w32 57 xs ys (omega (arith, long)),
    ) refl

-- what `read_head` finds at the front of a batch
pub headed_batch : (batch more : List ℕ) → IsOk (checked batch) → headed (batch ++ more) ≡ Ok (head_of batch)
headed_batch batch more ok = go (checked batch) refl ok
  where
    go : (r : Result Batch BatchRefusal) → checked batch ≡ r → IsOk r → headed (batch ++ more) ≡ Ok (head_of batch)
    go (Ok b) e ok = headed_front batch more b e ∙ ap (λ (h : Head). Ok h) (head_front batch more (is_batch_of batch b e).long)
    go (Err why) e ok = absurd (cc)

-- the first batch's last offset and size are reported by the bytes that it begins
pub last_front : (batch more : List ℕ) → 61 ≤ length batch → last_of (batch ++ more) ≡ last_of batch
unfolding base_of last_offset_delta_of
last_front batch more long = rw (field_front w64 0 batch more (omega (arith, long)), field_front w32 23 batch more (omega (arith, long))) refl

-- the numbers that a log asks of the batch at the front of bytes
pub front_tells : (batch more : List ℕ) (head : Head) → AreBytes (batch ++ more) → IsOk (checked batch) → headed (batch ++ more) ≡ Ok head → HeadDescribes batch head
front_tells batch more head clean ok e =
    let same : head_of batch ≡ head = cc (headed_batch batch more ok, e) in
    subst (HeadDescribes batch) same (is_observable batch (front_bytes batch more clean) ok)

pub asks : (batch : List ℕ) (head : Head) → HeadDescribes batch head → AsksOf batch (head_asks head)
asks batch head t = record { base = t.base; last = rw (t.base, t.delta) refl; size = t.size; epoch = t.epoch }

pub long_batch : (batch : List ℕ) → IsOk (checked batch) → 61 ≤ length batch
long_batch batch ok = go (checked batch) refl ok
  where
    go : (r : Result Batch BatchRefusal) → checked batch ≡ r → IsOk r → 61 ≤ length batch
    go (Ok b) e ok = (is_batch_of batch b e).long
    go (Err why) e ok = absurd (cc)

pub short_batch : (batch : List ℕ) → IsOk (checked batch) → (length batch ≤ 1048576) × (last_offset_delta_of batch < 2 ^ 31) × (length batch ≡ 12 + field_at w32 8 batch)
short_batch batch ok = go (checked batch) refl ok
  where
    go : (r : Result Batch BatchRefusal) → checked batch ≡ r → IsOk r → (length batch ≤ 1048576) × (last_offset_delta_of batch < 2 ^ 31) × (length batch ≡ 12 + field_at w32 8 batch)
    go (Ok b) e ok = let is = is_batch_of batch b e in (is.short, is.few, is.size)
    go (Err why) e ok = absurd (cc)

-- the first batch of a run
pub record First (end : ℕ) (run : List ℕ) : Type 0 where
  pub batch : List ℕ
  pub more : List ℕ
  pub parts : run ≡ batch ++ more
  pub ok : IsOk (checked batch)
  pub base : base_of batch ≡ end

pub first_of : (end : ℕ) (line : List (ℕ × ℕ)) (run : List ℕ) → IsRunFor end line run → First end run
first_of end line run is = go is.batches is.some is.bytes is.are is.consecutive
  where
    go : (bs : List (List ℕ)) → bs ≢ [] → run ≡ joined bs → Each (λ (b : List ℕ). IsOk (checked b)) bs → IsConsecutive end bs → First end run
    go [] some bytes are c = absurd (some refl)
    go (b ∷ bs) some bytes are c = record { batch = b; more = joined bs; parts = bytes; ok = are.0; base = c.0 }

pub first_last : (end : ℕ) (run : List ℕ) (f : First end run) → last_of run ≡ last_of f.batch
first_last end run f = ap last_of f.parts ∙ last_front f.batch f.more (long_batch f.batch f.ok)

pub first_len : (end : ℕ) (run : List ℕ) (f : First end run) → first_size run ≡ length f.batch
first_len end run f =
    ap first_size f.parts
    ∙ ap (λ (n : ℕ). 12 + n) (field_front w32 8 f.batch f.more (let l = long_batch f.batch f.ok in omega (arith, l)))
    ∙ sym (short_batch f.batch f.ok).2
