-- The line of a log continues through all that is done to the log, and says in which epoch each of its offsets was
-- appended.
use Rattle.std.proofs.Common.{◌≡◌, ◌≢◌, ◌⊎◌, inl, inr, ◌∙◌, sym, ap, subst, refl, ℕ, ◌+◌, ◌^◌, ◌<◌, ◌≤◌, ◌==◌, List, [], ◌∷◌, ◌++◌, Some, None, Option, Bool, true, false, arith, append-nil, append_assoc}
use Rattle.std.specs.Prelude.{nat_lt}
use Rattle.std.specs.Option.{ForSome}
use Rattle.std.specs.List.{All, AllByRecursion}
use Rattle.std.proofs.lemmas.Bool.{lt-ltb, le-ltb, le-leb, lt-leb, eq-eqb, ne_eqb, cases_lt}
use Rattle.std.proofs.lemmas.Bool.Decides.{nat_tests}
use Rattle.std.proofs.lemmas.List.Elements.{filter-append, recursion_from_All}
use mathlib.Core.List.{IsPrefix}
use Rattle.log_terms.specs.Batch.{base_of, epoch_of, last_of}
use Rattle.log_terms.specs.Line.{line_of, line_after, epoch_at, epoch_holding}
use Rattle.log_terms.specs.Log.{EndsAt, IsConsecutive, end_from, end_of, up_to}
use Rattle.log_terms.proofs.Lists.{prefix_self}
use Rattle.log_terms.proofs.Logs.{end_above, end_append, consecutive_prefix, up_to_prefix, up_to_end, up_to_is, ends_below}
use Rattle.epoch_line.specs.Line.{IsLine, last_epoch, last_entry, assign, cut_end}
use Rattle.epoch_line.proofs.Parts.{IsLine-filter, IsLine-assign}
use Rattle.epoch_line.proofs.Diverging.{epoch_at-front}
use Rattle.laws_partition.specs.Log.{IsLineFor, MayTakeEpoch, entered}

-- the epoch of the last batch, or of the one before the list
abbrev pub epoch_after : ℕ → List (List ℕ) → ℕ
epoch_after e [] = e
epoch_after e (batch ∷ log) = epoch_after (epoch_of batch) log

-- two numbers are one or not
pub cases_eq : (a b : ℕ) → (a ≡ b) ⊎ (a ≢ b)
cases_eq a b = go (a == b) refl
  where
    go : (t : Bool) → (a == b) ≡ t → (a ≡ b) ⊎ (a ≢ b)
    go true t = inl (grind (arith, nat_tests, t))
    go false t = inr (grind (arith, nat_tests, t))

-- a batch of the epoch before it makes no entry
pub after_same : (e : ℕ) (batch : List ℕ) (log : List (List ℕ)) → epoch_of batch ≡ e → line_after e (batch ∷ log) ≡ line_after e log
after_same e batch log same = rw (eq-eqb (epoch_of batch) e same) refl

-- one of another epoch does
pub after_other : (e : ℕ) (batch : List ℕ) (log : List (List ℕ)) → epoch_of batch ≢ e → line_after e (batch ∷ log) ≡ (epoch_of batch, base_of batch) ∷ line_after (epoch_of batch) log
after_other e batch log differs = rw (ne_eqb (epoch_of batch) e differs) refl

-- the line continues where the log does
after_append : (e : ℕ) (xs ys : List (List ℕ)) → line_after e (xs ++ ys) ≡ line_after e xs ++ line_after (epoch_after e xs) ys
after_append e [] ys = refl
after_append e (x ∷ xs) ys = elim (cases_eq (epoch_of x) e) [
  | inl same ↦
      after_same e x (xs ++ ys) same
      ∙ (ap (λ (k : ℕ). line_after k (xs ++ ys)) (sym same)
      ∙ (after_append (epoch_of x) xs ys
      ∙ ap (λ (l : List (ℕ × ℕ)). l ++ line_after (epoch_after (epoch_of x) xs) ys) (ap (λ (k : ℕ). line_after k xs) same ∙ sym (after_same e x xs same))))
  | inr differs ↦
      after_other e x (xs ++ ys) differs
      ∙ (ap (λ (l : List (ℕ × ℕ)). (epoch_of x, base_of x) ∷ l) (after_append (epoch_of x) xs ys)
      ∙ ap (λ (l : List (ℕ × ℕ)). l ++ line_after (epoch_after (epoch_of x) xs) ys) (sym (after_other e x xs differs)))
]

-- batches of one epoch make no entry after it
after_none : (e : ℕ) (log : List (List ℕ)) → AllByRecursion (λ batch. epoch_of batch ≡ e) log → line_after e log ≡ []
after_none e [] all = refl
after_none e (x ∷ xs) all = after_same e x xs all.0 ∙ after_none e xs all.1

-- the last epoch of a log's leader epochs is its last batch's
pub last_after : (e s : ℕ) (log : List (List ℕ)) → last_epoch ((e, s) ∷ line_after e log) ≡ Some (epoch_after e log)
last_after e s [] = refl
last_after e s (x ∷ xs) = elim (cases_eq (epoch_of x) e) [
  | inl same ↦
      ap (λ (l : List (ℕ × ℕ)). last_epoch ((e, s) ∷ l)) (after_same e x xs same)
      ∙ (last_after e s xs ∙ ap (λ (k : ℕ). Some (epoch_after k xs)) (sym same))
  | inr differs ↦
      ap (λ (l : List (ℕ × ℕ)). last_epoch ((e, s) ∷ l)) (after_other e x xs differs)
      ∙ last_after (epoch_of x) (base_of x) xs
]

epoch_after_snoc : (e : ℕ) (xs : List (List ℕ)) (v : List ℕ) → epoch_after e (xs ++ v ∷ []) ≡ epoch_of v
epoch_after_snoc e [] v = refl
epoch_after_snoc e (x ∷ xs) v = epoch_after_snoc (epoch_of x) xs v

pub line_last : (xs : List (List ℕ)) (v : List ℕ) → last_epoch (line_of (xs ++ v ∷ [])) ≡ Some (epoch_of v)
line_last [] v = refl
line_last (x ∷ xs) v = last_after (epoch_of x) (base_of x) (xs ++ v ∷ []) ∙ ap (λ (k : ℕ). Some k) (epoch_after_snoc (epoch_of x) xs v)

-- a cut past the end takes nothing
cut_none : (e n m : ℕ) (log : List (List ℕ)) → IsConsecutive n log → end_from n log ≤ m → cut_end (line_after e log) m ≡ line_after e log
cut_none e n m [] c le = refl
cut_none e n m (x ∷ xs) c le =
    let above = end_above (last_of x + 1) xs c.1 in
    elim (cases_eq (epoch_of x) e) [
      | inl same ↦
          ap (λ (l : List (ℕ × ℕ)). cut_end l m) (after_same e x xs same)
          ∙ (cut_none e (last_of x + 1) m xs c.1 le ∙ sym (after_same e x xs same))
      | inr differs ↦
          let kept : cut_end ((epoch_of x, base_of x) ∷ line_after (epoch_of x) xs) m ≡ (epoch_of x, base_of x) ∷ line_after (epoch_of x) xs =
          rw (lt-ltb (base_of x) m (omega (arith, above, le))) (ap (λ (l : List (ℕ × ℕ)). (epoch_of x, base_of x) ∷ l) (cut_none (epoch_of x) (last_of x + 1) m xs c.1 le)) in
          ap (λ (l : List (ℕ × ℕ)). cut_end l m) (after_other e x xs differs) ∙ (kept ∙ sym (after_other e x xs differs))
    ]

-- a cut at or before the first batch takes all
cut_all : (e n m : ℕ) (log : List (List ℕ)) → IsConsecutive n log → m ≤ n → cut_end (line_after e log) m ≡ []
cut_all e n m [] c le = refl
cut_all e n m (x ∷ xs) c le = elim (cases_eq (epoch_of x) e) [
  | inl same ↦
      ap (λ (l : List (ℕ × ℕ)). cut_end l m) (after_same e x xs same)
      ∙ cut_all e (last_of x + 1) m xs c.1 (omega (arith, c.0, le))
  | inr differs ↦
      let gone : cut_end ((epoch_of x, base_of x) ∷ line_after (epoch_of x) xs) m ≡ [] =
      rw (le-ltb (base_of x) m (omega (arith, c.0, le))) (cut_all (epoch_of x) (last_of x + 1) m xs c.1 (omega (arith, c.0, le))) in
      ap (λ (l : List (ℕ × ℕ)). cut_end l m) (after_other e x xs differs) ∙ gone
]

-- what comes after a beginning is consecutive from its end
pub consecutive_back : (n : ℕ) (xs ys : List (List ℕ)) → IsConsecutive n (xs ++ ys) → IsConsecutive (end_from n xs) ys
consecutive_back n [] ys c = c
consecutive_back n (x ∷ xs) ys c = consecutive_back (last_of x + 1) xs ys c.1

-- the line of a beginning is what of the log's starts before its end
cut_front : (xs ys : List (List ℕ)) → IsConsecutive 0 (xs ++ ys) → cut_end (line_of (xs ++ ys)) (end_of xs) ≡ line_of xs
cut_front [] [] c = refl
cut_front [] (y ∷ ys) c =
    let none : cut_end ((epoch_of y, base_of y) ∷ line_after (epoch_of y) ys) 0 ≡ [] =
    rw (le-ltb (base_of y) 0 (omega arith)) (cut_all (epoch_of y) (last_of y + 1) 0 ys c.1 (omega arith)) in
    none
cut_front (x ∷ xs) ys c =
    let end = end_of (x ∷ xs) in
    let e = epoch_after (epoch_of x) xs in
    let front : IsConsecutive (last_of x + 1) xs = consecutive_prefix (last_of x + 1) xs (xs ++ ys) (ys, refl) c.1 in
    let above = end_above (last_of x + 1) xs front in
    let back : IsConsecutive end ys = consecutive_back (last_of x + 1) xs ys c.1 in
    let whole : cut_end (line_of (x ∷ xs)) end ≡ line_of (x ∷ xs) =
    rw (lt-ltb (base_of x) end (omega (arith, above))) (ap (λ (l : List (ℕ × ℕ)). (epoch_of x, base_of x) ∷ l) (cut_none (epoch_of x) (last_of x + 1) end xs front (omega arith))) in
    ap (λ (l : List (ℕ × ℕ)). cut_end ((epoch_of x, base_of x) ∷ l) end) (after_append (epoch_of x) xs ys)
    ∙ (filter-append (λ (entry : ℕ × ℕ). nat_lt entry.1 end) (line_of (x ∷ xs)) (line_after e ys)
    ∙ (ap (λ (l : List (ℕ × ℕ)). l ++ cut_end (line_after e ys) end) whole
    ∙ (ap (λ (l : List (ℕ × ℕ)). line_of (x ∷ xs) ++ l) (cut_all e end end ys back (omega arith))
    ∙ append-nil (line_of (x ∷ xs)))))

-- an entry that starts at or past a cut is gone
cut_past : (line : List (ℕ × ℕ)) (e start m : ℕ) → m ≤ start → cut_end (line ++ (e, start) ∷ []) m ≡ cut_end line m
cut_past line e start m le =
    let gone : cut_end ((e, start) ∷ []) m ≡ [] = rw (le-ltb start m le) refl in
    filter-append (λ (entry : ℕ × ℕ). nat_lt entry.1 m) line ((e, start) ∷ [])
    ∙ (ap (λ (l : List (ℕ × ℕ)). cut_end line m ++ l) gone ∙ append-nil (cut_end line m))

end_of_front : (xs ys : List (List ℕ)) → IsConsecutive 0 (xs ++ ys) → end_of xs ≤ end_of (xs ++ ys)
end_of_front xs ys c =
    let h = end_above (end_of xs) ys (consecutive_back 0 xs ys c) in
    omega (arith, h, end_append 0 xs ys)

cut_parts : (line : List (ℕ × ℕ)) (xs ys : List (List ℕ)) → IsConsecutive 0 (xs ++ ys) → IsLineFor line (xs ++ ys) → cut_end line (end_of xs) ≡ line_of xs
cut_parts line xs ys c (inl is) = ap (λ (l : List (ℕ × ℕ)). cut_end l (end_of xs)) is ∙ cut_front xs ys c
cut_parts line xs ys c (inr h) =
    ap (λ (l : List (ℕ × ℕ)). cut_end l (end_of xs)) h.1
    ∙ (cut_past (line_of (xs ++ ys)) h.0 (end_of (xs ++ ys)) (end_of xs) (end_of_front xs ys c) ∙ cut_front xs ys c)

-- the leader epochs of a log's beginning is what starts before its end
pub cut_line : (line : List (ℕ × ℕ)) (xs log : List (List ℕ)) → IsConsecutive 0 log → IsLineFor line log → IsPrefix xs log → cut_end line (end_of xs) ≡ line_of xs
cut_line line xs log c h p =
    cut_parts line xs p.0 (subst (λ (l : List (List ℕ)). IsConsecutive 0 l) (sym p.1) c) (subst (λ (l : List (List ℕ)). IsLineFor line l) (sym p.1) h)

-- a log that is cut keeps a line that is its own
pub cut_at_line : (line : List (ℕ × ℕ)) (log : List (List ℕ)) (n : ℕ) → IsConsecutive 0 log → IsLineFor line log → IsLine line
    → (cut_end line (end_of (up_to n log)) ≡ line_of (up_to n log)) × IsLine (cut_end line (end_of (up_to n log)))
cut_at_line line log n c h rises =
    (cut_line line (up_to n log) log c h (up_to_prefix n log), IsLine-filter (λ (entry : ℕ × ℕ). nat_lt entry.1 (end_of (up_to n log))) line rises)

-- a new epoch at the log's end is one entry more
pub assign_line : (line : List (ℕ × ℕ)) (log : List (List ℕ)) (e : ℕ) → IsConsecutive 0 log → IsLineFor line log
    → assign line e (end_of log) ≡ line_of log ++ (e, end_of log) ∷ []
assign_line line log e c h = ap (λ (l : List (ℕ × ℕ)). l ++ (e, end_of log) ∷ []) (cut_line line log log c h ([], append-nil log))

pub lead_line : (line : List (ℕ × ℕ)) (log : List (List ℕ)) (e : ℕ) → IsConsecutive 0 log → IsLineFor line log → IsLine line
    → e < 2 ^ 31 → end_of log ≤ 2 ^ 62 → ForSome (last_epoch line) (λ last. last < e)
    → IsLineFor (assign line e (end_of log)) log × IsLine (assign line e (end_of log))
lead_line line log e c h rises fits small above =
    (inr (e, assign_line line log e c h), IsLine-assign line e (end_of log) rises fits small above)

-- batches of the last epoch leave the line
line_same : (log : List (List ℕ)) (e : ℕ) (more : List (List ℕ)) → last_epoch (line_of log) ≡ Some e → AllByRecursion (λ batch. epoch_of batch ≡ e) more
    → line_of (log ++ more) ≡ line_of log
line_same [] e more last all = absurd cc
line_same (x ∷ xs) e more last all =
    let is : epoch_after (epoch_of x) xs ≡ e = cc (last, last_after (epoch_of x) (base_of x) xs) in
    let none : line_after (epoch_after (epoch_of x) xs) more ≡ [] = ap (λ (k : ℕ). line_after k more) is ∙ after_none e more all in
    ap (λ (l : List (ℕ × ℕ)). (epoch_of x, base_of x) ∷ l) (after_append (epoch_of x) xs more)
    ∙ (ap (λ (l : List (ℕ × ℕ)). line_of (x ∷ xs) ++ l) none ∙ append-nil (line_of (x ∷ xs)))

-- batches of another epoch are one entry more
line_more : (log : List (List ℕ)) (e : ℕ) (batch : List ℕ) (more : List (List ℕ)) → base_of batch ≡ end_of log → epoch_of batch ≡ e
    → AllByRecursion (λ b. epoch_of b ≡ e) more → (last_epoch (line_of log) ≡ Some e → ⊥) → line_of (log ++ batch ∷ more) ≡ line_of log ++ (e, end_of log) ∷ []
line_more [] e batch more base epoch all differs =
    let none : line_after (epoch_of batch) more ≡ [] = ap (λ (k : ℕ). line_after k more) epoch ∙ after_none e more all in
    ap (λ (l : List (ℕ × ℕ)). (epoch_of batch, base_of batch) ∷ l) none ∙ rw (epoch, base) refl
line_more (x ∷ xs) e batch more base epoch all differs =
    let last = epoch_after (epoch_of x) xs in
    let none : line_after (epoch_of batch) more ≡ [] = ap (λ (k : ℕ). line_after k more) epoch ∙ after_none e more all in
    let ne : epoch_of batch ≢ last = λ same. differs (last_after (epoch_of x) (base_of x) xs ∙ ap (λ (k : ℕ). Some k) (sym same ∙ epoch)) in
    let one : line_after last (batch ∷ more) ≡ (e, end_of (x ∷ xs)) ∷ [] =
    after_other last batch more ne ∙ (ap (λ (l : List (ℕ × ℕ)). (epoch_of batch, base_of batch) ∷ l) none ∙ rw (epoch, base) refl) in
    ap (λ (l : List (ℕ × ℕ)). (epoch_of x, base_of x) ∷ l) (after_append (epoch_of x) xs (batch ∷ more))
    ∙ ap (λ (l : List (ℕ × ℕ)). line_of (x ∷ xs) ++ l) one

-- the last epoch of what ends with an entry
pub last_of_push : (line : List (ℕ × ℕ)) (entry : ℕ × ℕ) → last_epoch (line ++ entry ∷ []) ≡ Some entry.0
last_of_push [] entry = refl
last_of_push (one ∷ []) entry = refl
last_of_push (one ∷ two ∷ line) entry = last_of_push (two ∷ line) entry

-- the epochs before the last entry are below it
last_below : (line : List (ℕ × ℕ)) (entry : ℕ × ℕ) → IsLine (line ++ entry ∷ []) → ForSome (last_epoch line) (λ last. last < entry.0)
last_below [] entry h = λ last e. absurd cc
last_below (one ∷ []) entry h = λ last e. let same : one.0 ≡ last = cc in omega (arith, same, h.2.0)
last_below (one ∷ two ∷ line) entry h = last_below (two ∷ line) entry h.3

entered_none : (line : List (ℕ × ℕ)) (e base : ℕ) → last_epoch line ≡ None → entered line e base ≡ assign line e base
entered_none line e base none = rw none refl

pub entered_same : (line : List (ℕ × ℕ)) (e base last : ℕ) → last_epoch line ≡ Some last → last ≡ e → entered line e base ≡ line
entered_same line e base last is same = rw (is, eq-eqb last e same) refl

entered_other : (line : List (ℕ × ℕ)) (e base last : ℕ) → last_epoch line ≡ Some last → last ≢ e → entered line e base ≡ assign line e base
entered_other line e base last is differs = rw (is, ne_eqb last e differs) refl

pub by_last : (line : List (ℕ × ℕ)) → (last_epoch line ≡ None) ⊎ ((last : ℕ) × (last_epoch line ≡ Some last))
by_last line = go (last_epoch line) refl
  where
    go : (o : Option ℕ) → last_epoch line ≡ o → (last_epoch line ≡ None) ⊎ ((last : ℕ) × (last_epoch line ≡ Some last))
    go None e = inl e
    go (Some last) e = inr (last, e)

-- a log that gains batches of an epoch keeps a line that is its own
entered_is : (line : List (ℕ × ℕ)) (log : List (List ℕ)) (e : ℕ) (batch : List ℕ) (more : List (List ℕ)) → IsConsecutive 0 log → IsLineFor line log → IsLine line → MayTakeEpoch line e
    → base_of batch ≡ end_of log → epoch_of batch ≡ e → AllByRecursion (λ b. epoch_of b ≡ e) more → entered line e (end_of log) ≡ line_of (log ++ batch ∷ more)
entered_is line log e batch more c (inl is) rises may base epoch all = elim (by_last line) [
  | inl none ↦
      let differs : last_epoch (line_of log) ≡ Some e → ⊥ = λ h. absurd (cc (h, none, is)) in
      entered_none line e (end_of log) none ∙ (assign_line line log e c (inl is) ∙ sym (line_more log e batch more base epoch all differs))
  | inr some ↦ elim (cases_eq some.0 e) [
    | inl same ↦
        let last : last_epoch (line_of log) ≡ Some e = ap last_epoch (sym is) ∙ (some.1 ∙ ap (λ (k : ℕ). Some k) same) in
        entered_same line e (end_of log) some.0 some.1 same ∙ (is ∙ sym (line_same log e (batch ∷ more) last (epoch, all)))
    | inr differs ↦
        let ne : last_epoch (line_of log) ≡ Some e → ⊥ = λ h. differs (cc (h, some.1, is)) in
        entered_other line e (end_of log) some.0 some.1 differs ∙ (assign_line line log e c (inl is) ∙ sym (line_more log e batch more base epoch all ne))
  ]
]
entered_is line log e batch more c (inr h) rises may base epoch all =
    let last : last_epoch line ≡ Some h.0 = ap last_epoch h.1 ∙ last_of_push (line_of log) (h.0, end_of log) in
    let below = last_below (line_of log) (h.0, end_of log) (subst IsLine h.1 rises) in
    elim (cases_eq h.0 e) [
      | inl same ↦
          let ne : last_epoch (line_of log) ≡ Some e → ⊥ = λ k. (let lt = below e k in omega (arith, lt, same)) in
          entered_same line e (end_of log) h.0 last same
          ∙ (h.1 ∙ (ap (λ (k : ℕ). line_of log ++ (k, end_of log) ∷ []) same ∙ sym (line_more log e batch more base epoch all ne)))
      | inr differs ↦
          let low = may h.0 last in
          let ne : last_epoch (line_of log) ≡ Some e → ⊥ = λ k. (let lt = below e k in omega (arith, lt, low)) in
          entered_other line e (end_of log) h.0 last differs ∙ (assign_line line log e c (inr h) ∙ sym (line_more log e batch more base epoch all ne))
    ]

-- and a line
entered_rises : (line : List (ℕ × ℕ)) (e start : ℕ) → IsLine line → MayTakeEpoch line e → e < 2 ^ 31 → start ≤ 2 ^ 62 → IsLine (entered line e start)
entered_rises line e start rises may fits small = elim (by_last line) [
  | inl none ↦ subst IsLine (sym (entered_none line e start none)) (IsLine-assign line e start rises fits small (λ last h. absurd (cc (h, none))))
  | inr some ↦ elim (cases_eq some.0 e) [
    | inl same ↦ subst IsLine (sym (entered_same line e start some.0 some.1 same)) rises
    | inr differs ↦
        let le = may some.0 some.1 in
        let lt : some.0 < e = below some.0 le differs in
        subst IsLine (sym (entered_other line e start some.0 some.1 differs)) (
        IsLine-assign line e start rises fits small (λ last h. (let same : last ≡ some.0 = cc (h, some.1) in omega (arith, same, lt)))
        )
  ]
]
  where
    below : (a : ℕ) → a ≤ e → a ≢ e → a < e
    below a le ne = elim (cases_lt a e) [
      | inl lt ↦ lt
      | inr ge ↦ absurd (ne (omega (arith, le, ge)))
    ]

-- a log with a batch at its end
pub with_batch_line : (line : List (ℕ × ℕ)) (log : List (List ℕ)) (batch : List ℕ) → IsConsecutive 0 log → IsLineFor line log → IsLine line → MayTakeEpoch line (epoch_of batch)
    → base_of batch ≡ end_of log → epoch_of batch < 2 ^ 31 → end_of log ≤ 2 ^ 62
    → (entered line (epoch_of batch) (end_of log) ≡ line_of (log ++ batch ∷ [])) × IsLine (entered line (epoch_of batch) (end_of log))
with_batch_line line log batch c h rises may base fits small =
    (entered_is line log (epoch_of batch) batch [] c h rises may base refl tt, entered_rises line (epoch_of batch) (end_of log) rises may fits small)

-- a log with batches of one epoch at its end
pub with_batches_line : (line : List (ℕ × ℕ)) (log : List (List ℕ)) (e : ℕ) (batch : List ℕ) (more : List (List ℕ)) → IsConsecutive 0 log → IsLineFor line log → IsLine line
    → MayTakeEpoch line e → base_of batch ≡ end_of log → All (λ b. epoch_of b ≡ e) (batch ∷ more) → e < 2 ^ 31 → end_of log ≤ 2 ^ 62
    → (entered line e (end_of log) ≡ line_of (log ++ batch ∷ more)) × IsLine (entered line e (end_of log))
with_batches_line line log e batch more c h rises may base all fits small =
    let each = recursion_from_All (λ (b : List ℕ). epoch_of b ≡ e) (batch ∷ more) all in
    (entered_is line log e batch more c h rises may base each.0 each.1, entered_rises line e (end_of log) rises may fits small)

-- before the next batch begins, the first entry's epoch exists
before_at : (e s n : ℕ) (log : List (List ℕ)) (offset : ℕ) → IsConsecutive n log → s ≤ offset → offset < n → epoch_at ((e, s) ∷ line_after e log) offset ≡ Some e
before_at e s n [] offset c low high = rw (le-leb s offset low) refl
before_at e s n (x ∷ xs) offset c low high = elim (cases_eq (epoch_of x) e) [
  | inl same ↦
      ap (λ (l : List (ℕ × ℕ)). epoch_at ((e, s) ∷ l) offset) (after_same e x xs same)
      ∙ before_at e s (last_of x + 1) xs offset c.1 low (omega (arith, c.0, high))
  | inr differs ↦
      let here : epoch_at ((e, s) ∷ (epoch_of x, base_of x) ∷ line_after (epoch_of x) xs) offset ≡ Some e =
      rw (le-ltb offset s low, lt-ltb offset (base_of x) (omega (arith, c.0, high))) refl in
      ap (λ (l : List (ℕ × ℕ)). epoch_at ((e, s) ∷ l) offset) (after_other e x xs differs) ∙ here
]

-- an offset's epoch is that of the batch that holds it
after_at : (e s n : ℕ) (log : List (List ℕ)) (offset : ℕ) → s ≤ n → IsConsecutive n log → n ≤ offset → offset < end_from n log
    → epoch_at ((e, s) ∷ line_after e log) offset ≡ epoch_holding log offset
after_at e s n [] offset le c low high = absurd (omega (arith, low, high))
after_at e s n (x ∷ xs) offset le c low high =
    let held = le-ltb offset (base_of x) (omega (arith, c.0, low)) in
    elim (cases_eq (epoch_of x) e) [
      | inl same ↦
          ap (λ (l : List (ℕ × ℕ)). epoch_at ((e, s) ∷ l) offset) (after_same e x xs same)
          ∙ elim (cases_lt (last_of x) offset) [
            | inl past ↦
                after_at e s (last_of x + 1) xs offset (omega (arith, le, c.0)) c.1 (omega (arith, past)) high
                ∙ rw (held, lt-leb offset (last_of x) past) refl
            | inr in_it ↦
                before_at e s (last_of x + 1) xs offset c.1 (omega (arith, le, low)) (omega (arith, in_it))
                ∙ rw (held, le-leb offset (last_of x) in_it) (ap (λ (k : ℕ). Some k) (sym same))
          ]
      | inr differs ↦
          let over : epoch_at ((e, s) ∷ (epoch_of x, base_of x) ∷ line_after (epoch_of x) xs) offset ≡ epoch_at ((epoch_of x, base_of x) ∷ line_after (epoch_of x) xs) offset =
          rw (le-ltb offset s (omega (arith, le, low)), held) refl in
          ap (λ (l : List (ℕ × ℕ)). epoch_at ((e, s) ∷ l) offset) (after_other e x xs differs)
          ∙ (over
          ∙ elim (cases_lt (last_of x) offset) [
            | inl past ↦
                after_at (epoch_of x) (base_of x) (last_of x + 1) xs offset (omega arith) c.1 (omega (arith, past)) high
                ∙ rw (held, lt-leb offset (last_of x) past) refl
            | inr in_it ↦
                before_at (epoch_of x) (base_of x) (last_of x + 1) xs offset c.1 (omega (arith, c.0, low)) (omega (arith, in_it))
                ∙ rw (held, le-leb offset (last_of x) in_it) refl
          ])
    ]

own_at : (log : List (List ℕ)) (offset : ℕ) → IsConsecutive 0 log → offset < end_of log → epoch_at (line_of log) offset ≡ epoch_holding log offset
own_at [] offset c high = absurd (omega (arith, high))
own_at (x ∷ xs) offset c high =
    let held = le-ltb offset (base_of x) (omega (arith, c.0)) in
    elim (cases_lt (last_of x) offset) [
      | inl past ↦
          after_at (epoch_of x) (base_of x) (last_of x + 1) xs offset (omega arith) c.1 (omega (arith, past)) high
          ∙ rw (held, lt-leb offset (last_of x) past) refl
      | inr in_it ↦
          before_at (epoch_of x) (base_of x) (last_of x + 1) xs offset c.1 (omega (arith, c.0)) (omega (arith, in_it))
          ∙ rw (held, le-leb offset (last_of x) in_it) refl
    ]

-- below the log's end its leader epochs say in which epoch an offset was appended
pub line_at : (line : List (ℕ × ℕ)) (log : List (List ℕ)) (offset : ℕ) → IsConsecutive 0 log → IsLineFor line log → IsLine line → offset < end_of log
    → epoch_at line offset ≡ epoch_holding log offset
line_at line log offset c (inl is) rises high = ap (λ (l : List (ℕ × ℕ)). epoch_at l offset) is ∙ own_at log offset c high
line_at line log offset c (inr h) rises high =
    ap (λ (l : List (ℕ × ℕ)). epoch_at l offset) h.1
    ∙ (epoch_at-front (line_of log) (h.0, end_of log) offset (subst IsLine h.1 rises) high ∙ own_at log offset c high)

-- a line that is cut twice

cut_less : (line : List (ℕ × ℕ)) (a b : ℕ) → b ≤ a → cut_end (cut_end line b) a ≡ cut_end line b
cut_less [] a b le = refl
cut_less (x ∷ xs) a b le = elim (cases_lt x.1 b) [
  | inl lt ↦ rw (lt-ltb x.1 b lt, lt-ltb x.1 a (omega (arith, lt, le))) (ap (λ (l : List (ℕ × ℕ)). x ∷ l) (cut_less xs a b le))
  | inr ge ↦ rw (le-ltb x.1 b ge) (cut_less xs a b le)
]

cut_more : (line : List (ℕ × ℕ)) (a b : ℕ) → b ≤ a → cut_end (cut_end line a) b ≡ cut_end line b
cut_more [] a b le = refl
cut_more (x ∷ xs) a b le = elim (cases_lt x.1 b) [
  | inl lt ↦ rw (lt-ltb x.1 a (omega (arith, lt, le)), lt-ltb x.1 b lt) (ap (λ (l : List (ℕ × ℕ)). x ∷ l) (cut_more xs a b le))
  | inr ge ↦ elim (cases_lt x.1 a) [
    | inl lt ↦ rw (lt-ltb x.1 a lt, le-ltb x.1 b ge) (cut_more xs a b le)
    | inr past ↦ rw (le-ltb x.1 a past, le-ltb x.1 b ge) (cut_more xs a b le)
  ]
]

-- the leader epochs of a log has what starts at its end or before
pub own_cut : (front : List (List ℕ)) → IsConsecutive 0 front → cut_end (line_of front) (end_of front + 1) ≡ line_of front
own_cut front c =
    let nil = append-nil front in
    let own : cut_end (line_of front) (end_of front) ≡ line_of front =
    ap (λ (l : List (List ℕ)). cut_end (line_of l) (end_of front)) (sym nil) ∙ cut_front front [] (subst (IsConsecutive 0) (sym nil) c) in
    ap (λ (l : List (ℕ × ℕ)). cut_end l (end_of front + 1)) (sym own) ∙ (cut_less (line_of front) (end_of front + 1) (end_of front) (omega arith) ∙ own)

-- an entry that starts there stays
pushed_cut : (line : List (ℕ × ℕ)) (e n : ℕ) → cut_end line (n + 1) ≡ line → cut_end (line ++ (e, n) ∷ []) (n + 1) ≡ line ++ (e, n) ∷ []
pushed_cut line e n is =
    filter-append (λ (entry : ℕ × ℕ). nat_lt entry.1 (n + 1)) line ((e, n) ∷ [])
    ∙ (ap (λ (l : List (ℕ × ℕ)). l ++ cut_end ((e, n) ∷ []) (n + 1)) is ∙ ap (λ (l : List (ℕ × ℕ)). line ++ l) (rw (lt-ltb n (n + 1) (omega arith)) refl))

-- one more batch, and what starts where it begins or before
next_cut : (front : List (List ℕ)) (b : List ℕ) → IsConsecutive 0 front → base_of b ≡ end_of front → IsLineFor (cut_end (line_of (front ++ b ∷ [])) (end_of front + 1)) front
next_cut front b c base = elim (by_last (line_of front)) [
  | inl none ↦ differs (λ h. absurd (cc (h, none)))
  | inr some ↦ elim (cases_eq some.0 (epoch_of b)) [
    | inl same ↦
        let last : last_epoch (line_of front) ≡ Some (epoch_of b) = some.1 ∙ ap (λ (k : ℕ). Some k) same in
        inl (ap (λ (l : List (ℕ × ℕ)). cut_end l (end_of front + 1)) (line_same front (epoch_of b) (b ∷ []) last (refl, tt)) ∙ own_cut front c)
    | inr other ↦ differs (λ h. other (cc (h, some.1)))
  ]
]
  where
    differs : (last_epoch (line_of front) ≡ Some (epoch_of b) → ⊥) → IsLineFor (cut_end (line_of (front ++ b ∷ [])) (end_of front + 1)) front
    differs ne = inr (
      epoch_of b,
      ap (λ (l : List (ℕ × ℕ)). cut_end l (end_of front + 1)) (line_more front (epoch_of b) b [] base refl tt ne) ∙ pushed_cut (line_of front) (epoch_of b) (end_of front) (own_cut front c),
    )

kept_own : (front rest : List (List ℕ)) → IsConsecutive 0 (front ++ rest) → IsLineFor (cut_end (line_of (front ++ rest)) (end_of front + 1)) front
kept_own front [] c =
    let nil = append-nil front in
    inl (ap (λ (l : List (List ℕ)). cut_end (line_of l) (end_of front + 1)) nil ∙ own_cut front (subst (IsConsecutive 0) nil c))
kept_own front (b ∷ more) c =
    let back = consecutive_back 0 front (b ∷ more) c in
    let one : (front ++ b ∷ []) ++ more ≡ front ++ b ∷ more = append_assoc front (b ∷ []) more in
    let end : end_of (front ++ b ∷ []) ≡ last_of b + 1 = end_append 0 front (b ∷ []) in
    let cut : cut_end (line_of (front ++ b ∷ more)) (end_of (front ++ b ∷ [])) ≡ line_of (front ++ b ∷ []) =
    ap (λ (l : List (List ℕ)). cut_end (line_of l) (end_of (front ++ b ∷ []))) (sym one) ∙ cut_front (front ++ b ∷ []) more (subst (IsConsecutive 0) (sym one) c) in
    let same : cut_end (line_of (front ++ b ∷ more)) (end_of front + 1) ≡ cut_end (line_of (front ++ b ∷ [])) (end_of front + 1) =
    sym (cut_more (line_of (front ++ b ∷ more)) (end_of (front ++ b ∷ [])) (end_of front + 1) (omega (arith, end, back.0)))
    ∙ ap (λ (l : List (ℕ × ℕ)). cut_end l (end_of front + 1)) cut in
    subst (λ (l : List (ℕ × ℕ)). IsLineFor l front) (sym same) (next_cut front b (consecutive_prefix 0 front (front ++ b ∷ more) (b ∷ more, refl) c) back.0)

-- the line of what is up to an end of the log, with an epoch that starts where that ends
pub kept_line_for : (line : List (ℕ × ℕ)) (log : List (List ℕ)) (n : ℕ) → IsConsecutive 0 log → IsLineFor line log → EndsAt n log → IsLineFor (cut_end line (n + 1)) (up_to n log)
kept_line_for line log n c h ends =
    let front = up_to n log in
    let p = up_to_prefix n log in
    let end : end_of front ≡ n = up_to_end n log c ends in
    let own : IsLineFor (cut_end (line_of log) (n + 1)) front =
    subst (λ (k : ℕ). IsLineFor (cut_end (line_of log) (k + 1)) front) end
    (subst (λ (l : List (List ℕ)). IsLineFor (cut_end (line_of l) (end_of front + 1)) front) p.1 (kept_own front p.0 (subst (IsConsecutive 0) (sym p.1) c))) in
    by h own
  where
    by : IsLineFor line log → IsLineFor (cut_end (line_of log) (n + 1)) (up_to n log) → IsLineFor (cut_end line (n + 1)) (up_to n log)
    by (inl is) own = subst (λ (l : List (ℕ × ℕ)). IsLineFor (cut_end l (n + 1)) (up_to n log)) (sym is) own
    by (inr k) own = elim (cases_lt n (end_of log)) [
      | inl below ↦
          subst (λ (l : List (ℕ × ℕ)). IsLineFor l (up_to n log)) (sym (ap (λ (l : List (ℕ × ℕ)). cut_end l (n + 1)) k.1 ∙ cut_past (line_of log) k.0 (end_of log) (n + 1) (omega (arith, below)))) own
      | inr past ↦
          let high = ends_below n log c ends in
          let is : end_of log ≡ n = omega (arith, past, high) in
          let all : up_to n log ≡ log = up_to_is 0 n log log c (prefix_self log) is in
          subst (λ (l : List (List ℕ)). IsLineFor (cut_end line (n + 1)) l) (sym all) (inr (
            k.0,
            ap (λ (l : List (ℕ × ℕ)). cut_end l (n + 1)) k.1
                ∙ (ap (λ (m : ℕ). cut_end (line_of log ++ (k.0, end_of log) ∷ []) (m + 1)) (sym is) ∙ pushed_cut (line_of log) k.0 (end_of log) (own_cut log c)),
          ))
    ]

-- a line whose last entry starts before an offset is whole there
last_above : (x : ℕ × ℕ) (line : List (ℕ × ℕ)) (entry : ℕ × ℕ) → IsLine (x ∷ line) → last_entry (x ∷ line) ≡ Some entry → x.1 ≤ entry.1
last_above x [] entry h is = let same : x ≡ entry = cc (is) in subst (λ (k : ℕ × ℕ). x.1 ≤ k.1) same (omega arith)
last_above x (y ∷ line) entry h is = let up = last_above y line entry h.3 is in omega (arith, up, h.2.1)

pub cut_whole : (line : List (ℕ × ℕ)) (entry : ℕ × ℕ) (n : ℕ) → IsLine line → last_entry line ≡ Some entry → entry.1 < n → cut_end line n ≡ line
cut_whole [] entry n h is lt = absurd (cc (is))
cut_whole (x ∷ []) entry n h is lt =
    let low = last_above x [] entry h is in
    rw (lt-ltb x.1 n (omega (arith, low, lt))) refl
cut_whole (x ∷ y ∷ line) entry n h is lt =
    let low = last_above x (y ∷ line) entry h is in
    rw (lt-ltb x.1 n (omega (arith, low, lt))) (ap (λ (l : List (ℕ × ℕ)). x ∷ l) (cut_whole (y ∷ line) entry n h.3 is lt))
