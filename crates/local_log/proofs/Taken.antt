-- What of a run was taken into a segment.
use Rattle.std.proofs.Common.{◌≡◌, ◌≢◌, ◌^◌, ◌∙◌, ap, sym, subst, refl, ℕ, ◌+◌, ◌≤◌, ◌<◌, Bool, true, false, cond, List, [], ◌∷◌, ◌++◌, length, take, Option, IsOk, arith, length-append}
use Rattle.std.specs.Prelude.{nat_le, ◌||◌, unwrap_or}
use Rattle.std.proofs.lemmas.List.{take_at}
use Rattle.std.proofs.lemmas.Bool.{lt-leb}
use Rattle.log_terms.specs.Batch.{last_of, epoch_of}
use Rattle.log_terms.specs.Log.{joined, IsConsecutive, end_from}
use Rattle.log_terms.proofs.Logs.{end_above}
use Rattle.record_batch.specs.Check.{checked}
use Rattle.epoch_line.specs.Line.{IsLine, last_epoch}
use Rattle.segment_file.specs.Index.{placed_from}
use Rattle.segment_file.specs.Growing.{Grown}
use Rattle.segment_file.specs.Segment.{EpochsRise}
use Rattle.segment_file.proofs.Joining.{consecutive_parts}
use Rattle.segment_file.proofs.Laying.{end_append}
use Rattle.log_steps.specs.Fronts.{Each}
use Rattle.log_steps.proofs.Lists.{each_left}
use Rattle.local_log.specs.Stored.{size_of, end_of}
use Rattle.local_log.specs.Run.{rolls_before, taking, lined, first_size}
use Rattle.local_log.specs.Taking.{HasFront, IsTakenIn}
use Rattle.local_log.specs.Listing.{IsLaidOut}
use Rattle.local_log.proofs.Pieces.{joined_append, end_placed}
use Rattle.local_log.proofs.Heads.{First, first_last, first_len}
use Rattle.local_log.proofs.Lined.{IsLined, is_lined}

-- what is taken is a front
pub taking_front : (most base size : ℕ) (bs : List (List ℕ)) → (rest : List (List ℕ)) × (bs ≡ taking most base size bs ++ rest)
taking_front most base size [] = ([], refl)
taking_front most base size (b ∷ bs) = go (rolls_before most base size (length b) (last_of b) || nat_le (2 ^ 62) (last_of b)) (taking_front most base (size + length b) bs)
  where
    go : (t : Bool) → (rest : List (List ℕ)) × (bs ≡ taking most base (size + length b) bs ++ rest) → (rest : List (List ℕ)) × (b ∷ bs ≡ cond t [] (b ∷ taking most base (size + length b) bs) ++ rest)
    go true h = (b ∷ bs, refl)
    go false h = (h.0, ap (λ (l : List (List ℕ)). b ∷ l) h.1)

rise_left : (epoch : ℕ) (xs ys : List (List ℕ)) → EpochsRise epoch (xs ++ ys) → EpochsRise epoch xs
rise_left epoch [] ys h = tt
rise_left epoch (x ∷ xs) ys h = (h.0, h.1, rise_left (epoch_of x) xs ys h.2)

-- the first batch is taken, unless it makes the log roll
taken_some : (end most base size : ℕ) (run : List ℕ) (bs : List (List ℕ)) → bs ≢ [] → run ≡ joined bs → IsConsecutive end bs → (f : (b : List ℕ) (more : List (List ℕ)) → bs ≡ b ∷ more → (rolls_before most base size (length b) (last_of b) || nat_le (2 ^ 62) (last_of b)) ≡ false)
    → end < end_from end (taking most base size bs)
taken_some end most base size run [] some bytes c f = absurd (some refl)
taken_some end most base size run (b ∷ bs) some bytes c f =
    let t = f b bs refl in
    let rest = consecutive_parts (last_of b + 1) (taking most base (size + length b) bs) (taking_front most base (size + length b) bs).0 (subst (IsConsecutive (last_of b + 1)) (taking_front most base (size + length b) bs).1 c.1) in
    let up = end_above (last_of b + 1) (taking most base (size + length b) bs) rest.0 in
    subst (λ (x : Bool). end < end_from end (cond x [] (b ∷ taking most base (size + length b) bs))) (sym t) (omega (arith, up, c.0))

module _ (old new : Grown) (line : List (ℕ × ℕ)) (run : List ℕ) (most : ℕ) (answer : ℕ × Option (List (ℕ × ℕ))) (t : IsTakenIn old new line run most answer) (is_line : IsLine line) (within : Each (λ (e : ℕ × ℕ). e.1 ≤ end_of old) line) where
  abbrev pub taken : List (List ℕ)
  taken = taking most old.base (size_of old) t.is.batches

  abbrev pub rest : List (List ℕ)
  rest = (taking_front most old.base (size_of old) t.is.batches).0

  parts : t.is.batches ≡ taken ++ rest
  parts = (taking_front most old.base (size_of old) t.is.batches).1

  bytes : run ≡ joined taken ++ joined rest
  bytes = t.is.bytes ∙ ap joined parts ∙ joined_append taken rest

  pub taken_fits : answer.0 ≤ length run
  taken_fits = (let e = ap length bytes ∙ length-append (joined taken) (joined rest) in omega (arith, e, t.len_is))

  pub taken_bytes : take answer.0 run ≡ joined taken
  taken_bytes = ap (take answer.0) bytes ∙ take_at (joined taken) (joined rest) answer.0 (sym t.len_is)

  pub taken_oks : Each (λ (b : List ℕ). IsOk (checked b)) taken
  taken_oks = each_left (λ (b : List ℕ). IsOk (checked b)) taken rest (subst (Each (λ (b : List ℕ). IsOk (checked b))) parts t.is.are)

  pub taken_follow : IsConsecutive (end_of old) taken
  taken_follow = (consecutive_parts (end_of old) taken rest (subst (IsConsecutive (end_of old)) parts t.is.consecutive)).0

  pub taken_end : end_of new ≡ end_from (end_of old) taken
  taken_end = ap end_of t.segment_is ∙ end_append old.base old.batches (placed_from (size_of old) taken) ∙ end_placed (end_of old) (size_of old) taken

  pub taken_lined : IsLined line (lined line taken) (end_of old) taken
  taken_lined =
      is_lined line (end_of old) taken is_line within taken_follow
      (rise_left (unwrap_or (last_epoch line) 0) taken rest (subst (EpochsRise (unwrap_or (last_epoch line) 0)) parts t.is.epochs))
      (omega (arith, taken_end, t.low))

  pub taken_grows : rolls_before most old.base (size_of old) (first_size run) (last_of run) ≡ false → last_of run < 2 ^ 62 → end_of old < end_of new
  taken_grows fits low =
      let h = taken_some (end_of old) most old.base (size_of old) run t.is.batches t.is.some t.is.bytes t.is.consecutive (λ b more is. first_fits b more is) in
      omega (arith, h, taken_end)
    where
      first_fits : (b : List ℕ) (more : List (List ℕ)) → t.is.batches ≡ b ∷ more → (rolls_before most old.base (size_of old) (length b) (last_of b) || nat_le (2 ^ 62) (last_of b)) ≡ false
      first_fits b more is =
          let oks = subst (Each (λ (x : List ℕ). IsOk (checked x))) is t.is.are in
          let c = subst (IsConsecutive (end_of old)) is t.is.consecutive in
          let f : First (end_of old) run = record { batch = b; more = joined more; parts = t.is.bytes ∙ ap joined is; ok = oks.0; base = c.0 } in
          let last = first_last (end_of old) run f in
          let len = first_len (end_of old) run f in
          let small = subst (λ (n : ℕ). nat_le (2 ^ 62) n ≡ false) last (lt-leb (2 ^ 62) (last_of run) low) in
          let both = subst (λ (n : ℕ). rolls_before most old.base (size_of old) (length b) n ≡ false) last (subst (λ (n : ℕ). rolls_before most old.base (size_of old) n (last_of run) ≡ false) len fits) in
          ap (λ (x : Bool). x || nat_le (2 ^ 62) (last_of b)) both ∙ small

  pub taken_up : end_of old ≤ end_of new
  taken_up = (let up = end_above (end_of old) taken taken_follow in omega (arith, up, taken_end))

  pub taken_front : HasFront old new
  taken_front = record {
    rest = placed_from (size_of old) taken;
    segment_is = t.segment_is;
    laid = (subst IsLaidOut t.segment_is t.laid).laid;
  }
