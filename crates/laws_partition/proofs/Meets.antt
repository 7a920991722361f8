-- Two logs that match meet where their leader epochs do: what they have in common ends there.
use Rattle.std.proofs.Common.{◌≡◌, ◌⊎◌, inl, inr, ◌∙◌, sym, ap, subst, refl, ℕ, ◌+◌, ◌-◌, ◌<◌, ◌≤◌, List, [], ◌∷◌, ◌++◌, Some, None, Option, min, arith}
use Rattle.std.proofs.lemmas.Bool.{lt-ltb, le-ltb, le-leb, lt-leb, cases_lt}
use mathlib.Core.List.{IsPrefix}
use Rattle.log_terms.specs.Batch.{base_of, epoch_of, last_of}
use Rattle.log_terms.specs.Line.{epoch_holding}
use Rattle.log_terms.specs.Log.{IsConsecutive, end_from, end_of, up_to}
use Rattle.log_terms.proofs.Lists.{prefix_trans}
use Rattle.log_terms.proofs.Logs.{end_append, consecutive_prefix, nested, prefix_end, up_to_is}
use Rattle.epoch_line.specs.Line.{IsLine}
use Rattle.epoch_line.specs.Meet.{SharesEpoch, MeetsAt, IsMeetBelow}
use Rattle.plain_log.specs.declared.state.Path.{Path}
use Rattle.plain_log.specs.State.{path_of}
use Rattle.plain_log.specs.Ends.{common}
use Rattle.plain_log.specs.Safe.{HasOnPath, LogSafe}
use Rattle.plain_log.proofs.Ends.{common_left, common_right, common_all}
use Rattle.laws_partition.specs.Log.{IsLineFor}
use Rattle.laws_partition.proofs.Lines.{line_at}

-- the batch that holds an offset, with all before it
pub record Holds (log : List (List ℕ)) (n offset e : ℕ) : Type 0 where
  pub front : List (List ℕ)
  pub batch : List ℕ
  pub begins : IsPrefix (front ++ batch ∷ []) log
  pub epoch : epoch_of batch ≡ e
  pub past : offset < end_from n (front ++ batch ∷ [])

-- a beginning of a list, both with one more in front
longer_both : (x : List ℕ) (ws xs : List (List ℕ)) → IsPrefix ws xs → IsPrefix (x ∷ ws) (x ∷ xs)
longer_both x ws xs p = (p.0, ap (λ (l : List (List ℕ)). x ∷ l) p.1)

-- an offset that has an epoch is held by a batch of it
pub holding : (n : ℕ) (log : List (List ℕ)) (offset e : ℕ) → epoch_holding log offset ≡ Some e → Holds log n offset e
holding n [] offset e h = absurd cc
holding n (x ∷ xs) offset e h = elim (cases_lt offset (base_of x)) [
  | inl below ↦ absurd (none (rw (lt-ltb offset (base_of x) below) at h))
  | inr above ↦ elim (cases_lt (last_of x) offset) [
    | inl past ↦
        let r = holding (last_of x + 1) xs offset e (rw (le-ltb offset (base_of x) above, lt-leb offset (last_of x) past) at h) in
        record {
          front = x ∷ r.front;
          batch = r.batch;
          begins = longer_both x (r.front ++ r.batch ∷ []) xs r.begins;
          epoch = r.epoch;
          past = r.past;
        }
    | inr in_it ↦
        let is : Some (epoch_of x) ≡ Some e = rw (le-ltb offset (base_of x) above, le-leb offset (last_of x) in_it) at h in
        record {
          front = [];
          batch = x;
          begins = (xs, refl);
          epoch = cc (is);
          past = omega (arith, in_it);
        }
  ]
]
  where
    none : ◌≡◌ {A = Option ℕ} None (Some e) → ⊥
    none is = absurd (cc (is))

-- the last offset of a beginning has its last batch's epoch
pub held_last : (n : ℕ) (front : List (List ℕ)) (batch : List ℕ) (log : List (List ℕ)) → IsConsecutive n log → IsPrefix (front ++ batch ∷ []) log
    → epoch_holding log (last_of batch) ≡ Some (epoch_of batch)
held_last n front batch [] c p = absurd (none front batch p.0 p.1)
  where
    none : (front : List (List ℕ)) (batch : List ℕ) (rest : List (List ℕ)) → (front ++ batch ∷ []) ++ rest ≡ [] → ⊥
    none [] batch rest e = absurd (cc (e))
    none (f ∷ front) batch rest e = absurd (cc (e))
held_last n [] batch (x ∷ xs) c p =
    let same : batch ≡ x = cc (p.1) in
    let here : epoch_holding (x ∷ xs) (last_of x) ≡ Some (epoch_of x) = rw (le-ltb (last_of x) (base_of x) (omega arith), le-leb (last_of x) (last_of x) (omega arith)) refl in
    subst (λ (b : List ℕ). epoch_holding (x ∷ xs) (last_of b) ≡ Some (epoch_of b)) (sym same) here
held_last n (f ∷ front) batch (x ∷ xs) c p =
    let q : IsPrefix (front ++ batch ∷ []) xs = (p.0, cc (p.1)) in
    let back = consecutive_prefix (last_of x + 1) (front ++ batch ∷ []) xs q c.1 in
    let low = last_above (last_of x + 1) front batch back in
    rw (le-ltb (last_of batch) (base_of x) (omega (arith, low)), lt-leb (last_of batch) (last_of x) (omega (arith, low))) (held_last (last_of x + 1) front batch xs c.1 q)
  where
    last_above : (n : ℕ) (front : List (List ℕ)) (batch : List ℕ) → IsConsecutive n (front ++ batch ∷ []) → n ≤ last_of batch
    last_above n [] batch c = omega (arith, c.0)
    last_above n (f ∷ front) batch c = let h = last_above (last_of f + 1) front batch c.1 in omega (arith, h, c.0)

-- the last batch of a list that has one
pub last_batch : (log : List (List ℕ)) → (log ≡ []) ⊎ ((front : List (List ℕ)) × (batch : List ℕ) × (log ≡ front ++ batch ∷ []))
last_batch [] = inl refl
last_batch (x ∷ xs) = elim (last_batch xs) [
  | inl none ↦ inr ([], x, ap (λ (l : List (List ℕ)). x ∷ l) none)
  | inr some ↦ inr (x ∷ some.0, some.1, ap (λ (l : List (List ℕ)). x ∷ l) some.2)
]

end_snoc : (n : ℕ) (front : List (List ℕ)) (batch : List ℕ) → end_from n (front ++ batch ∷ []) ≡ last_of batch + 1
end_snoc n front batch = end_append n front (batch ∷ [])

-- two lines, of logs that are consecutive
pub record Lines (mine theirs : List (ℕ × ℕ)) (xs ys : List (List ℕ)) : Type 0 where
  pub mine_for : IsLineFor mine xs
  pub mine_rises : IsLine mine
  pub theirs_for : IsLineFor theirs ys
  pub theirs_rises : IsLine theirs

-- what the logs have in common ends at an offset to which their leader epochs agree
common_meets : (mine theirs : List (ℕ × ℕ)) (xs ys : List (List ℕ)) → IsConsecutive 0 xs → IsConsecutive 0 ys → Lines mine theirs xs ys
    → MeetsAt mine theirs (end_of (common xs ys))
common_meets mine theirs xs ys cx cy l = elim (last_batch (common xs ys)) [
  | inl none ↦ inl (ap end_of none)
  | inr some ↦
      let front = some.0 in
      let batch = some.1 in
      let p : IsPrefix (front ++ batch ∷ []) xs = subst (λ (w : List (List ℕ)). IsPrefix w xs) some.2 (common_left xs ys) in
      let q : IsPrefix (front ++ batch ∷ []) ys = subst (λ (w : List (List ℕ)). IsPrefix w ys) some.2 (common_right xs ys) in
      let end : end_of (common xs ys) ≡ last_of batch + 1 = ap end_of some.2 ∙ end_snoc 0 front batch in
      let at : end_of (common xs ys) - 1 ≡ last_of batch = omega (arith, end) in
      let low = prefix_end (front ++ batch ∷ []) xs cx p in
      let high = prefix_end (front ++ batch ∷ []) ys cy q in
      let one = line_at mine xs (last_of batch) cx l.mine_for l.mine_rises (omega (arith, low, end_snoc 0 front batch)) ∙ held_last 0 front batch xs cx p in
      let two = line_at theirs ys (last_of batch) cy l.theirs_for l.theirs_rises (omega (arith, high, end_snoc 0 front batch)) ∙ held_last 0 front batch ys cy q in
      inr (subst (λ (n : ℕ). SharesEpoch mine theirs n) (sym at) (epoch_of batch, one, two))
]

-- the shorter of two beginnings that one path has is common to both logs
shared_begins : (xs ys us vs path : List (List ℕ)) (n : ℕ) → IsConsecutive 0 path → IsPrefix us path → IsPrefix vs path → IsPrefix us xs → IsPrefix vs ys
    → n < end_of us → n < end_of vs → (ws : List (List ℕ)) × IsPrefix ws xs × IsPrefix ws ys × (n < end_of ws)
shared_begins xs ys us vs path n c p q px qy a b = elim (cases_lt (end_of us) (end_of vs)) [
  | inl less ↦ (us, px, prefix_trans us vs ys (nested 0 us vs path c p q (omega (arith, less))) qy, a)
  | inr more ↦ (vs, prefix_trans vs us xs (nested 0 vs us path c q p more) px, qy, b)
]

-- an offset to which the lines agree is in what the logs have in common
meets_common : (paths : List Path) (mine theirs : List (ℕ × ℕ)) (xs ys : List (List ℕ)) (n : ℕ)
    → ((e : ℕ) (log : List (List ℕ)) → path_of paths e ≡ Some log → IsConsecutive 0 log) → LogSafe paths xs → LogSafe paths ys → Lines mine theirs xs ys
    → n ≤ end_of xs → n ≤ end_of ys → MeetsAt mine theirs n → n ≤ end_of (common xs ys)
meets_common paths mine theirs xs ys n ps sx sy l a b (inl zero_is) = omega (arith, zero_is)
meets_common paths mine theirs xs ys n ps sx sy l a b (inr h) = elim (cases_lt 0 n) [
  | inr none ↦ omega (arith, none)
  | inl some ↦
      let one = holding 0 xs (n - 1) h.0 (sym (line_at mine xs (n - 1) sx.consecutive l.mine_for l.mine_rises (omega (arith, some, a))) ∙ h.1) in
      let two = holding 0 ys (n - 1) h.0 (sym (line_at theirs ys (n - 1) sy.consecutive l.theirs_for l.theirs_rises (omega (arith, some, b))) ∙ h.2) in
      let p = subst (λ (e : ℕ). HasOnPath paths e (one.front ++ one.batch ∷ [])) one.epoch (sx.matching one.front one.batch one.begins) in
      let q = subst (λ (e : ℕ). HasOnPath paths e (two.front ++ two.batch ∷ [])) two.epoch (sy.matching two.front two.batch two.begins) in
      let same : q.0 ≡ p.0 = cc (q.1, p.1) in
      let s = shared_begins xs ys (one.front ++ one.batch ∷ []) (two.front ++ two.batch ∷ []) p.0 (n - 1) (ps h.0 p.0 p.1) p.2
      (subst (λ (w : List (List ℕ)). IsPrefix (two.front ++ two.batch ∷ []) w) same q.2) one.begins two.begins one.past two.past in
      let le = prefix_end s.0 (common xs ys) (consecutive_prefix 0 (common xs ys) xs (common_left xs ys) sx.consecutive) (common_all s.0 xs ys s.1 s.2) in
      omega (arith, le, s.3, some)
]

-- where the lines meet is where what the logs have in common ends
pub meet_common : (paths : List Path) (mine theirs : List (ℕ × ℕ)) (xs ys : List (List ℕ)) (n : ℕ)
    → ((e : ℕ) (log : List (List ℕ)) → path_of paths e ≡ Some log → IsConsecutive 0 log) → LogSafe paths xs → LogSafe paths ys → Lines mine theirs xs ys
    → IsMeetBelow mine theirs (min (end_of xs) (end_of ys)) n → (n ≡ end_of (common xs ys)) × (up_to n xs ≡ common xs ys)
meet_common paths mine theirs xs ys n ps sx sy l m =
    let low = meets_common paths mine theirs xs ys n ps sx sy l (omega (arith, m.within)) (omega (arith, m.within)) m.meets in
    let one = prefix_end (common xs ys) xs sx.consecutive (common_left xs ys) in
    let two = prefix_end (common xs ys) ys sy.consecutive (common_right xs ys) in
    let high = m.greatest (end_of (common xs ys)) (omega (arith, one, two)) (common_meets mine theirs xs ys sx.consecutive sy.consecutive l) in
    let is : n ≡ end_of (common xs ys) = omega (arith, low, high) in
    (is, up_to_is 0 n (common xs ys) xs sx.consecutive (common_left xs ys) (sym is))
