-- A dump finds the batches that a walk finds.
use Rattle.std.proofs.Common.{◌≡◌, ◌∙◌, ap, sym, refl, subst, ℕ, ◌+◌, ◌==◌, ◌≤◌, nat_lt, Bool, true, false, List, [], ◌∷◌, ◌++◌, length, take, drop, None, Result, Ok, Err, IsOk, arith, length-append}
use Rattle.std.specs.List.{AllByRecursion}
use Rattle.std.proofs.lemmas.Bool.{ltb-false}
use Rattle.std.proofs.lemmas.List.{take-append-drop, length-take-le}
use Rattle.log_terms.specs.Log.{joined}
use Rattle.record_batch.specs.declared.head.Head.{Head}
use Rattle.record_batch.specs.declared.refusal.HeadRefusal.{HeadRefusal}
use Rattle.record_batch.specs.declared.refusal.HeadRefusal.TheVariants as cause
use Rattle.record_batch.specs.declared.refusal.BatchRefusal.{BatchRefusal}
use Rattle.record_batch.specs.Head.{head_of}
use Rattle.record_batch.specs.Check.{Batch, checked, headed}
use Rattle.record_batch.proofs.Passing.{is_batch_of}
use Rattle.segment_file.specs.Walk.{size_in, found_at}
use Rattle.segment_file.proofs.Finding.{batch_found, head_sized}
use Rattle.dump_lines.specs.declared.seeing.Shown.{Shown}
use Rattle.dump_lines.specs.declared.seeing.Ending.{Ending}
use Rattle.dump_lines.specs.declared.seeing.Ending.TheVariants as ending
use Rattle.dump_lines.specs.declared.seeing.Seen.TheVariants as seen
use Rattle.dump_lines.specs.Seen.{is_kind, shown_at, seen_at}
use Rattle.dump_lines.specs.Dump.{IsDump}
use Rattle.dump_lines.specs.Walked.{DumpAgrees, shown_from, ShowsAll}
use Rattle.dump_lines.proofs.Kept.{headed_kept, headed_is, size_long}
use Rattle.dump_lines.proofs.Lists.{drop_front}

-- the head of a batch's own bytes is that of the bytes it is in
own_head : (bytes : List ℕ) (head : Head) (batch : Batch) → headed bytes ≡ Ok head → size_in head ≤ length bytes
    → checked (take (size_in head) bytes) ≡ Ok batch → batch.head ≡ head
own_head bytes head batch h fits e =
    let long : 61 ≤ size_in head = size_long bytes head h in
    let len : length (take (size_in head) bytes) ≡ size_in head = length-take-le (size_in head) bytes fits in
    let far : 61 ≤ length (take (size_in head) bytes) = omega (arith, long, len) in
    let is = is_batch_of (take (size_in head) bytes) batch e in
    let heads : headed (take (size_in head) bytes) ≡ Ok head =
    sym (headed_kept (take (size_in head) bytes) (drop (size_in head) bytes) far) ∙ ap headed (take-append-drop (size_in head) bytes) ∙ h in
    is.head ∙ (headed_is (take (size_in head) bytes) head heads).1

pub agrees : (at : ℕ) (bytes : List ℕ) → DumpAgrees at (found_at at bytes) (seen_at at bytes)
unfolding found_at seen_at
agrees at bytes = go (length bytes == 0) refl
  where
    tests : (z : (length bytes == 0) ≡ false) (head : Head) (h : headed bytes ≡ Ok head) (u : nat_lt (length bytes) (size_in head) ≡ false)
        (r : Result Batch BatchRefusal) → checked (take (size_in head) bytes) ≡ r → DumpAgrees at (found_at at bytes) (seen_at at bytes)
    tests z head h u (Ok batch) e =
        let same : batch.head ≡ head = own_head bytes head batch h (ltb-false (length bytes) (size_in head) u) e in
        rw (z, h, u, e) (ap (λ (x : Head). shown_at at x None) (sym same))
    tests z head h u (Err why) e = kinds (is_kind why) refl
      where
        kinds : (t : Bool) → is_kind why ≡ t → DumpAgrees at (found_at at bytes) (seen_at at bytes)
        kinds true t = rw (z, h, u, e, t) (λ p. absurd (cc p))
        kinds false t = rw (z, h, u, e, t) tt

    sizes : (z : (length bytes == 0) ≡ false) (head : Head) (h : headed bytes ≡ Ok head) (t : Bool) → nat_lt (length bytes) (size_in head) ≡ t
        → DumpAgrees at (found_at at bytes) (seen_at at bytes)
    sizes z head h true u = rw (z, h, u) tt
    sizes z head h false u = tests z head h u (checked (take (size_in head) bytes)) refl

    heads : (z : (length bytes == 0) ≡ false) (r : Result Head HeadRefusal) → headed bytes ≡ r → DumpAgrees at (found_at at bytes) (seen_at at bytes)
    heads z (Ok head) h = sizes z head h (nat_lt (length bytes) (size_in head)) refl
    heads z (Err cause.Short) h = rw (z, h) tt
    heads z (Err cause.BadMagic) h = rw (z, h) tt
    heads z (Err cause.BadLength) h = rw (z, h) tt

    go : (t : Bool) → (length bytes == 0) ≡ t → DumpAgrees at (found_at at bytes) (seen_at at bytes)
    go true t = rw t refl
    go false t = heads t (headed bytes) refl

-- a batch that passes all tests is shown where it is
shown_front : (at : ℕ) (batch rest : List ℕ) → IsOk (checked batch) → seen_at at (batch ++ rest) ≡ shown_at at (head_of batch) None
shown_front at batch rest ok =
    subst (λ f. DumpAgrees at f (seen_at at (batch ++ rest))) (batch_found at batch rest ok) (agrees at (batch ++ rest))

nothing : (at : ℕ) (end : Ending) → seen_at at [] ≡ seen.Ends end → end ≡ ending.End at
unfolding seen_at
nothing at end e = cc e

no_batch : (at : ℕ) (one : Shown) → seen_at at [] ≡ seen.Batch one → ⊥
unfolding seen_at
no_batch at one e = absurd (cc e)

pub shows_all : (at : ℕ) (batches : List (List ℕ)) (shown : List Shown) (end : Ending) → AllByRecursion (λ (b : List ℕ). IsOk (checked b)) batches
    → IsDump at (joined batches) shown end → ShowsAll at batches shown end
shows_all at [] [] end all d = let last : end ≡ ending.End at = nothing at end d in record { each = refl; last = last ∙ ap ending.End (omega arith) }
shows_all at [] (one ∷ others) end all d = absurd (no_batch at one d.0)
shows_all at (batch ∷ batches) [] end all d = absurd (cc (sym (shown_front at batch (joined batches) all.0) ∙ d))
shows_all at (batch ∷ batches) (one ∷ others) end all d =
    let is : one ≡ record { position = at; head = head_of batch; refused = None } = cc (sym (shown_front at batch (joined batches) all.0) ∙ d.0) in
    let heads : one.head ≡ head_of batch = ap (λ (s : Shown). s.head) is in
    let size : size_in one.head ≡ length batch = ap size_in heads ∙ head_sized batch all.0 in
    let rest : drop (size_in one.head) (batch ++ joined batches) ≡ joined batches =
    ap (λ n. drop n (batch ++ joined batches)) size ∙ drop_front batch (joined batches) in
    let behind : IsDump (at + size_in one.head) (joined batches) others end =
    subst (λ (xs : List ℕ). IsDump (at + size_in one.head) xs others end) rest d.1 in
    let more = shows_all (at + size_in one.head) batches others end all.1 behind in
    let longer : length (batch ++ joined batches) ≡ length batch + length (joined batches) = length-append batch (joined batches) in
    record {
      each = ap (λ (s : Shown). s ∷ others) is
          ∙ ap (λ (ss : List Shown). (record { position = at; head = head_of batch; refused = None }) ∷ ss)
          (more.each ∙ ap (λ n. shown_from (at + n) batches) (ap size_in heads));
      last = more.last ∙ ap ending.End (omega (arith, size, longer));
    }
