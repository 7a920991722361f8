-- Bytes that are batches which were checked: what is read of a log is, and the head alone reports each batch of them.
use Rattle.std.proofs.Common.{◌≡◌, ◌∙◌, ap, sym, subst, refl, ℕ, ◌+◌, ◌<◌, ◌≤◌, List, [], ◌∷◌, ◌++◌, length, drop, Ok, IsOk, arith, length-append}
use Rattle.std.specs.List.{AllByRecursion}
use Rattle.std.proofs.lemmas.List.{length-drop, drop-drop, drop_at}
use Rattle.log_terms.specs.Log.{joined}
use Rattle.record_batch.specs.declared.head.Head.{Head}
use Rattle.record_batch.specs.Check.{checked, headed, AreChecked}
use Rattle.segment_file.specs.Walk.{size_in}
use Rattle.segment_file.specs.Gathering.{HeadDescribes}
use Rattle.segment_file.proofs.Standing.{AreBytes, bytes_drop}
use Rattle.local_log.specs.Epochs.{IsRow}
use Rattle.local_log.specs.Reading.{IsCutOut}
use Rattle.local_log.specs.declared.reading.RunOut.{RunOut}
use Rattle.local_log.proofs.Admitted.{by_recursion}
use Rattle.local_log.proofs.CutOut.{run_row}
use Rattle.local_log.proofs.Heads.{headed_batch, front_tells}

-- the first of them
pub record FirstChecked (bytes : List ℕ) : Type 0 where
  pub batch : List ℕ
  pub more : List ℕ
  pub parts : bytes ≡ batch ++ more
  pub is : IsOk (checked batch)
  pub rest : AreChecked more

pub first_checked : (bytes : List ℕ) → 0 < length bytes → AreChecked bytes → FirstChecked bytes
first_checked bytes some a = go a.batches a.are a.checked
  where
    go : (bs : List (List ℕ)) → bytes ≡ joined bs → AllByRecursion (λ (b : List ℕ). IsOk (checked b)) bs → FirstChecked bytes
    go [] is are = absurd (let n = ap length is in omega (arith, n, some))
    go (b ∷ bs) is are = record {
      batch = b;
      more = joined bs;
      parts = is;
      is = are.0;
      rest = record { batches = bs; are = refl; checked = are.1 };
    }

-- the one at a place, with its head
pub record CheckedAt (run : List ℕ) (at : ℕ) (head : Head) : Type 0 where
  pub batch : List ℕ
  pub is : IsOk (checked batch)
  pub parts : drop at run ≡ batch ++ drop (at + size_in head) run
  pub is_observable : HeadDescribes batch head
  pub inside : at + size_in head ≤ length run
  pub rest : AreChecked (drop (at + size_in head) run)

module _ (run : List ℕ) (at : ℕ) (inside : at < length run) (a : AreChecked (drop at run)) where
  abbrev first : FirstChecked (drop at run)
  first = first_checked (drop at run) (let n = length-drop at run in omega (arith, n, inside)) a

  -- a head is there
  pub head_stands : IsOk (headed (drop at run))
  head_stands = let is = ap headed first.parts ∙ headed_batch first.batch first.more first.is in rw is refl

  pub checked_at : (head : Head) → AreBytes run → headed (drop at run) ≡ Ok head → CheckedAt run at head
  checked_at head clean e =
      let t : HeadDescribes first.batch head = front_tells first.batch first.more head (subst AreBytes first.parts (bytes_drop at run clean)) first.is (ap headed (sym first.parts) ∙ e) in
      let behind : drop (at + size_in head) run ≡ first.more =
      sym (drop-drop (size_in head) at run) ∙ ap (λ (l : List ℕ). drop (size_in head) l) first.parts ∙ drop_at first.batch first.more (size_in head) (sym t.size) in
      let all = length-drop at run in
      let size = ap length first.parts ∙ length-append first.batch first.more in
      record {
        batch = first.batch;
        is = first.is;
        parts = first.parts ∙ ap (λ (l : List ℕ). first.batch ++ l) (sym behind);
        is_observable = t;
        inside = omega (arith, all, size, t.size, inside);
        rest = subst AreChecked (sym behind) first.rest;
      }

-- a run that was read is checked batches
pub cut_checked : (line : List (ℕ × ℕ)) (bytes : List ℕ) (offset limit mark piece : ℕ) (out : RunOut) → IsCutOut line bytes offset limit mark piece out → AreChecked out.bytes
cut_checked line bytes offset limit mark piece out c =
    let row : IsRow out.bytes = run_row bytes offset limit mark piece c.cut c.is out.bytes c.part in
    record { batches = row.batches; are = row.bytes_are; checked = by_recursion row.batches row.are }
