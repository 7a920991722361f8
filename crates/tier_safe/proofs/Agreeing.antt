-- Logs that have one epoch at an offset are one up to there, and what an entry says of is one.
use Rattle.std.proofs.Common.{◌≡◌, ◌≢◌, inl, inr, ◌∙◌, sym, ap, subst, refl, ℕ, ◌+◌, ◌<◌, ◌≤◌, List, [], ◌∷◌, ◌++◌, Some, None, Option, arith}
use Rattle.std.proofs.lemmas.Bool.{lt-ltb, le-ltb, le-leb, lt-leb, eq-eqb, ne_eqb, cases_lt}
use mathlib.Core.List.{IsPrefix}
use Rattle.log_terms.specs.Batch.{base_of, epoch_of, last_of}
use Rattle.log_terms.specs.Line.{line_of, line_after, epoch_at, epoch_holding}
use Rattle.log_terms.specs.Log.{IsConsecutive, end_from, end_of}
use Rattle.log_terms.proofs.Lists.{prefix_self, prefix_trans}
use Rattle.log_terms.proofs.Logs.{end_append, end_above, consecutive_prefix, nested, one_end, prefix_end}
use Rattle.plain_log.specs.declared.state.State.{State as Plain}
use Rattle.plain_log.specs.Safe.{HasOnPath, LogSafe, PlainSafe}
use Rattle.segment_meta.specs.declared.note.Entry.{Entry}
use Rattle.tier_safe.proofs.Basics.{nat_cases}
use Rattle.tier_safe.specs.Lineage.{DescribesPath}
use Rattle.tier_safe.specs.Kept.{Shares}
use Rattle.plain_log.proofs.Ends.{log_prefix}

-- the batch that holds an offset, with all before it
record Holds (log : List (List ℕ)) (n offset e : ℕ) : Type 0 where
  front : List (List ℕ)
  batch : List ℕ
  begins : IsPrefix (front ++ batch ∷ []) log
  epoch : epoch_of batch ≡ e
  past : offset < end_from n (front ++ batch ∷ [])

longer_both : (x : List ℕ) (ws xs : List (List ℕ)) → IsPrefix ws xs → IsPrefix (x ∷ ws) (x ∷ xs)
longer_both x ws xs p = (p.0, ap (λ (l : List (List ℕ)). x ∷ l) p.1)

holding : (n : ℕ) (log : List (List ℕ)) (offset e : ℕ) → epoch_holding log offset ≡ Some e → Holds log n offset e
holding n [] offset e h = absurd cc
holding n (x ∷ xs) offset e h = elim (cases_lt offset (base_of x)) [
  | inl below ↦ absurd (none (rw (lt-ltb offset (base_of x) below) at h))
  | inr above ↦ elim (cases_lt (last_of x) offset) [
    | inl past ↦
        let r = holding (last_of x + 1) xs offset e (rw (le-ltb offset (base_of x) above, lt-leb offset (last_of x) past) at h) in
        record {
          front = x ∷ r.front;
          batch = r.batch;
          begins = longer_both x (r.front ++ r.batch ∷ []) xs r.begins;
          epoch = r.epoch;
          past = r.past;
        }
    | inr in_it ↦
        let is : Some (epoch_of x) ≡ Some e = rw (le-ltb offset (base_of x) above, le-leb offset (last_of x) in_it) at h in
        record { front = []; batch = x; begins = (xs, refl); epoch = cc (is); past = omega (arith, in_it) }
  ]
]
  where
    none : ◌≡◌ {A = Option ℕ} None (Some e) → ⊥
    none is = absurd (cc (is))

-- the shorter of two beginnings that one path has is common to both logs
shared_begins : (xs ys us vs path : List (List ℕ)) (n : ℕ) → IsConsecutive 0 path → IsPrefix us path → IsPrefix vs path → IsPrefix us xs → IsPrefix vs ys
    → n < end_of us → n < end_of vs → (ws : List (List ℕ)) × IsPrefix ws xs × IsPrefix ws ys × (n < end_of ws)
shared_begins xs ys us vs path n c p q px qy a b = elim (cases_lt (end_of us) (end_of vs)) [
  | inl less ↦ (us, px, prefix_trans us vs ys (nested 0 us vs path c p q (omega (arith, less))) qy, a)
  | inr more ↦ (vs, prefix_trans vs us xs (nested 0 vs us path c q p more) px, qy, b)
]

-- two logs with one epoch at an offset are one up to there
pub agree : (p : Plain) (xs ys : List (List ℕ)) (o e : ℕ) → PlainSafe p → LogSafe p.paths xs → LogSafe p.paths ys
    → epoch_holding xs o ≡ Some e → epoch_holding ys o ≡ Some e → Shares xs ys o
agree p xs ys o e s sx sy hx hy =
    let one = holding 0 xs o e hx in
    let two = holding 0 ys o e hy in
    let a = subst (λ (k : ℕ). HasOnPath p.paths k (one.front ++ one.batch ∷ [])) one.epoch (sx.matching one.front one.batch one.begins) in
    let b = subst (λ (k : ℕ). HasOnPath p.paths k (two.front ++ two.batch ∷ [])) two.epoch (sy.matching two.front two.batch two.begins) in
    let same : b.0 ≡ a.0 = cc (a.1, b.1) in
    let r = shared_begins xs ys (one.front ++ one.batch ∷ []) (two.front ++ two.batch ∷ []) a.0 o (s.paths e a.0 a.1).log_safe.consecutive a.2
    (subst (λ (w : List (List ℕ)). IsPrefix (two.front ++ two.batch ∷ []) w) same b.2) one.begins two.begins one.past two.past in
    record { front = r.0; one = r.1; two = r.2; past = r.3 }

-- a beginning of a path is safe
pub has_safe : (p : Plain) (e : ℕ) (xs : List (List ℕ)) → PlainSafe p → HasOnPath p.paths e xs → LogSafe p.paths xs
has_safe p e xs s h = log_prefix p.paths xs h.0 h.2 (s.paths e h.0 h.1).log_safe

-- an offset after a beginning is held by what comes after it
pub back_at : (n : ℕ) (xs ys : List (List ℕ)) (o : ℕ) → IsConsecutive n (xs ++ ys) → end_from n xs ≤ o → epoch_holding (xs ++ ys) o ≡ epoch_holding ys o
back_at n [] ys o c le = refl
back_at n (x ∷ xs) ys o c le =
    let high = end_above (last_of x + 1) xs (consecutive_prefix (last_of x + 1) xs (xs ++ ys) (ys, refl) c.1) in
    rw (le-ltb o (base_of x) (omega (arith, high, le)), lt-leb o (last_of x) (omega (arith, high, le))) (back_at (last_of x + 1) xs ys o c.1 le)

-- the epochs of batches, by their leader epochs

-- a batch of the epoch before it makes no entry
after_same : (e : ℕ) (batch : List ℕ) (log : List (List ℕ)) → epoch_of batch ≡ e → line_after e (batch ∷ log) ≡ line_after e log
after_same e batch log same = rw (eq-eqb (epoch_of batch) e same) refl

-- one of another epoch does
after_other : (e : ℕ) (batch : List ℕ) (log : List (List ℕ)) → epoch_of batch ≢ e → line_after e (batch ∷ log) ≡ (epoch_of batch, base_of batch) ∷ line_after (epoch_of batch) log
after_other e batch log differs = rw (ne_eqb (epoch_of batch) e differs) refl

before_at : (e s n : ℕ) (log : List (List ℕ)) (offset : ℕ) → IsConsecutive n log → s ≤ offset → offset < n → epoch_at ((e, s) ∷ line_after e log) offset ≡ Some e
before_at e s n [] offset c low high = rw (le-leb s offset low) refl
before_at e s n (x ∷ xs) offset c low high = elim (nat_cases (epoch_of x) e) [
  | inl same ↦
      ap (λ (l : List (ℕ × ℕ)). epoch_at ((e, s) ∷ l) offset) (after_same e x xs same)
      ∙ before_at e s (last_of x + 1) xs offset c.1 low (omega (arith, c.0, high))
  | inr differs ↦
      let here : epoch_at ((e, s) ∷ (epoch_of x, base_of x) ∷ line_after (epoch_of x) xs) offset ≡ Some e =
      rw (le-ltb offset s low, lt-ltb offset (base_of x) (omega (arith, c.0, high))) refl in
      ap (λ (l : List (ℕ × ℕ)). epoch_at ((e, s) ∷ l) offset) (after_other e x xs differs) ∙ here
]

after_at : (e s n : ℕ) (log : List (List ℕ)) (offset : ℕ) → s ≤ n → IsConsecutive n log → n ≤ offset → offset < end_from n log
    → epoch_at ((e, s) ∷ line_after e log) offset ≡ epoch_holding log offset
after_at e s n [] offset le c low high = absurd (omega (arith, low, high))
after_at e s n (x ∷ xs) offset le c low high =
    let held = le-ltb offset (base_of x) (omega (arith, c.0, low)) in
    elim (nat_cases (epoch_of x) e) [
      | inl same ↦
          ap (λ (l : List (ℕ × ℕ)). epoch_at ((e, s) ∷ l) offset) (after_same e x xs same)
          ∙ elim (cases_lt (last_of x) offset) [
            | inl past ↦
                after_at e s (last_of x + 1) xs offset (omega (arith, le, c.0)) c.1 (omega (arith, past)) high
                ∙ rw (held, lt-leb offset (last_of x) past) refl
            | inr in_it ↦
                before_at e s (last_of x + 1) xs offset c.1 (omega (arith, le, low)) (omega (arith, in_it))
                ∙ rw (held, le-leb offset (last_of x) in_it) (ap (λ (k : ℕ). Some k) (sym same))
          ]
      | inr differs ↦
          let over : epoch_at ((e, s) ∷ (epoch_of x, base_of x) ∷ line_after (epoch_of x) xs) offset ≡ epoch_at ((epoch_of x, base_of x) ∷ line_after (epoch_of x) xs) offset =
          rw (le-ltb offset s (omega (arith, le, low)), held) refl in
          ap (λ (l : List (ℕ × ℕ)). epoch_at ((e, s) ∷ l) offset) (after_other e x xs differs)
          ∙ (over
          ∙ elim (cases_lt (last_of x) offset) [
            | inl past ↦
                after_at (epoch_of x) (base_of x) (last_of x + 1) xs offset (omega arith) c.1 (omega (arith, past)) high
                ∙ rw (held, lt-leb offset (last_of x) past) refl
            | inr in_it ↦
                before_at (epoch_of x) (base_of x) (last_of x + 1) xs offset c.1 (omega (arith, c.0, low)) (omega (arith, in_it))
                ∙ rw (held, le-leb offset (last_of x) in_it) refl
          ])
    ]

-- the line of batches says in which epoch each of their offsets is
pub map_at : (n : ℕ) (xs : List (List ℕ)) (o : ℕ) → IsConsecutive n xs → n ≤ o → o < end_from n xs → epoch_at (line_of xs) o ≡ epoch_holding xs o
map_at n [] o c low high = absurd (omega (arith, low, high))
map_at n (x ∷ xs) o c low high =
    let held = le-ltb o (base_of x) (omega (arith, c.0, low)) in
    elim (cases_lt (last_of x) o) [
      | inl past ↦
          after_at (epoch_of x) (base_of x) (last_of x + 1) xs o (omega arith) c.1 (omega (arith, past)) high
          ∙ rw (held, lt-leb o (last_of x) past) refl
      | inr in_it ↦
          before_at (epoch_of x) (base_of x) (last_of x + 1) xs o c.1 (omega (arith, c.0, low)) (omega (arith, in_it))
          ∙ rw (held, le-leb o (last_of x) in_it) refl
    ]

-- entries

-- an entry's map has the epochs of the path that its batches are a part of
pub entry_at : (p : Plain) (entry : Entry) (batches : List (List ℕ)) (line : List (ℕ × ℕ)) (o : ℕ) → PlainSafe p → (d : DescribesPath p.paths entry batches line)
    → entry.start ≤ o → o ≤ entry.end → epoch_at entry.map o ≡ epoch_holding (d.part.front ++ batches) o
entry_at p entry batches line o s d low high =
    let safe = has_safe p d.part.epoch (d.part.front ++ batches) s d.part.begins in
    ap (λ (l : List (ℕ × ℕ)). epoch_at l o) d.map_is
    ∙ (map_at entry.start batches o d.is.consecutive low (omega (arith, high, d.last_is))
    ∙ sym (back_at 0 d.part.front batches o safe.consecutive (omega (arith, low, d.part.ends))))

-- where a log has the epoch at an offset that an entry's map has, it is that path up to there
pub entry_agrees : (p : Plain) (entry : Entry) (batches : List (List ℕ)) (line : List (ℕ × ℕ)) (log : List (List ℕ)) (o e : ℕ) → PlainSafe p
    → (d : DescribesPath p.paths entry batches line) → LogSafe p.paths log → entry.start ≤ o → o ≤ entry.end
    → epoch_at entry.map o ≡ Some e → epoch_holding log o ≡ Some e → Shares (d.part.front ++ batches) log o
entry_agrees p entry batches line log o e s d safe low high map holds =
    agree p (d.part.front ++ batches) log o e s (has_safe p d.part.epoch (d.part.front ++ batches) s d.part.begins) safe
    (sym (entry_at p entry batches line o s d low high) ∙ map) holds

-- an offset of a log has an epoch
pub held_some : (n : ℕ) (log : List (List ℕ)) (o : ℕ) → IsConsecutive n log → n ≤ o → o < end_from n log → (e : ℕ) × (epoch_holding log o ≡ Some e)
held_some n [] o c low high = absurd (omega (arith, low, high))
held_some n (x ∷ xs) o c low high =
    let held = le-ltb o (base_of x) (omega (arith, c.0, low)) in
    elim (cases_lt (last_of x) o) [
      | inl past ↦ let r = held_some (last_of x + 1) xs o c.1 (omega (arith, past)) high in (r.0, rw (held, lt-leb o (last_of x) past) r.1)
      | inr in_it ↦ (epoch_of x, rw (held, le-leb o (last_of x) in_it) refl)
    ]

-- two lists that are one with one front in each
front_off : (xs ys zs : List (List ℕ)) → xs ++ ys ≡ xs ++ zs → ys ≡ zs
front_off [] ys zs e = e
front_off (x ∷ xs) ys zs e = front_off xs ys zs (cc (e))

-- an entry describes one list of batches
pub describes_one : (p : Plain) (entry : Entry) (xs ys : List (List ℕ)) (l m : List (ℕ × ℕ)) → PlainSafe p → DescribesPath p.paths entry xs l → DescribesPath p.paths entry ys m → xs ≡ ys
describes_one p entry xs ys l m s d f =
    let a = d.part.front ++ xs in
    let b = f.part.front ++ ys in
    let sa = has_safe p d.part.epoch a s d.part.begins in
    let sb = has_safe p f.part.epoch b s f.part.begins in
    let above = start_end xs d.some d.is.consecutive in
    let end_a : end_of a ≡ entry.end + 1 = end_append 0 d.part.front xs ∙ (ap (λ (n : ℕ). end_from n xs) d.part.ends ∙ sym d.last_is) in
    let end_b : end_of b ≡ entry.end + 1 = end_append 0 f.part.front ys ∙ (ap (λ (n : ℕ). end_from n ys) f.part.ends ∙ sym f.last_is) in
    let low : entry.start ≤ entry.end = omega (arith, above, d.last_is) in
    let e = held_some 0 a entry.end sa.consecutive (omega arith) (omega (arith, end_a)) in
    let map = entry_at p entry xs l entry.end s d low (omega arith) in
    let holds : epoch_holding b entry.end ≡ Some e.0 = sym (entry_at p entry ys m entry.end s f low (omega arith)) ∙ (map ∙ e.1) in
    let r = agree p a b entry.end e.0 s sa sb e.1 holds in
    let ra : r.front ≡ a = one_end 0 r.front a a sa.consecutive r.one (prefix_self a) (omega (arith, r.past, end_a, prefix_end r.front a sa.consecutive r.one)) in
    let rb : r.front ≡ b = one_end 0 r.front b b sb.consecutive r.two (prefix_self b) (omega (arith, r.past, end_b, prefix_end r.front b sb.consecutive r.two)) in
    let same : a ≡ b = sym ra ∙ rb in
    let fronts : d.part.front ≡ f.part.front =
    one_end 0 d.part.front f.part.front a sa.consecutive (xs, refl) (ys, sym same) (d.part.ends ∙ sym f.part.ends) in
    front_off f.part.front xs ys (ap (λ (w : List (List ℕ)). w ++ xs) (sym fronts) ∙ same)
  where
    start_end : (zs : List (List ℕ)) → zs ≢ [] → IsConsecutive entry.start zs → entry.start < end_from entry.start zs
    start_end [] some c = absurd (some refl)
    start_end (z ∷ zs) some c = let h = end_above (last_of z + 1) zs c.1 in omega (arith, h, c.0)
