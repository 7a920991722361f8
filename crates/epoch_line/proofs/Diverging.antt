-- Where two lines meet, from their last entries on.
use Rattle.std.proofs.Common.{zero, suc, ◌≡◌, ◌∙◌, refl, ap, sym, ℕ, ◌+◌, ◌-◌, ◌<◌, ◌≤◌, List, [], ◌∷◌, ◌++◌, Some, length, arith, inl, inr, append-nil}
use Rattle.std.specs.Prelude.{nat_le}
use Rattle.std.specs.List.{AllByRecursion}
use Rattle.std.proofs.lemmas.List.Elements.{filter-append}
use Rattle.std.proofs.lemmas.Bool.{le-leb, lt-leb, cases_lt}
use Rattle.log_terms.specs.Line.{epoch_at}
use Rattle.epoch_line.specs.Line.{IsLine, last_epoch}
use Rattle.epoch_line.specs.Meet.{MeetsAt, IsMeetBelow}
use Rattle.epoch_line.proofs.Rising.{epochs_below}
use Rattle.epoch_line.proofs.Holding.{started, epoch_at-started}
use Rattle.epoch_line.proofs.Parts.{filter-all}

-- a line without its last entry is a line
pub IsLine-front : (line : List (ℕ × ℕ)) (last : ℕ × ℕ) → IsLine (line ++ last ∷ []) → IsLine line
IsLine-front [] last h = tt
IsLine-front (one ∷ []) last h = (h.0, h.1, tt, tt)
IsLine-front (one ∷ two ∷ line) last h = (h.0, h.1, h.2, IsLine-front (two ∷ line) last h.3)

-- the last of what ends with an entry
last_epoch-push : (line : List (ℕ × ℕ)) (last : ℕ × ℕ) → last_epoch (line ++ last ∷ []) ≡ Some last.0
last_epoch-push [] last = refl
last_epoch-push (one ∷ []) last = refl
last_epoch-push (one ∷ two ∷ line) last = last_epoch-push (two ∷ line) last

-- the last epoch is one of them
last_epoch-all : (line : List (ℕ × ℕ)) (bound epoch : ℕ) → AllByRecursion (λ e. e.0 < bound) line → last_epoch line ≡ Some epoch → epoch < bound
last_epoch-all [] bound epoch a h = absurd (cc)
last_epoch-all (one ∷ []) bound epoch a h = let e : one.0 ≡ epoch = cc in omega (arith, a.0, e)
last_epoch-all (one ∷ two ∷ line) bound epoch a h = last_epoch-all (two ∷ line) bound epoch a.1 h

-- below its start, the last entry plays no part
pub epoch_at-front : (line : List (ℕ × ℕ)) (last : ℕ × ℕ) (offset : ℕ) → IsLine (line ++ last ∷ []) → offset < last.1 → epoch_at (line ++ last ∷ []) offset ≡ epoch_at line offset
epoch_at-front line last offset h l =
    let none : started offset (last ∷ []) ≡ [] = rw (lt-leb last.1 offset l) refl in
    epoch_at-started (line ++ last ∷ []) offset h
    ∙ (ap last_epoch (filter-append (λ e. nat_le e.1 offset) line (last ∷ []) ∙ (ap (λ ys. started offset line ++ ys) none ∙ append-nil (started offset line)))
    ∙ sym (epoch_at-started line offset (IsLine-front line last h)))

-- from its start on, its epoch exists
pub epoch_at-last : (line : List (ℕ × ℕ)) (last : ℕ × ℕ) (offset : ℕ) → IsLine (line ++ last ∷ []) → last.1 ≤ offset → epoch_at (line ++ last ∷ []) offset ≡ Some last.0
epoch_at-last line last offset h l =
    let one : started offset (last ∷ []) ≡ last ∷ [] = rw (le-leb last.1 offset l) refl in
    epoch_at-started (line ++ last ∷ []) offset h
    ∙ (ap last_epoch (filter-append (λ e. nat_le e.1 offset) line (last ∷ []) ∙ ap (λ ys. started offset line ++ ys) one)
    ∙ last_epoch-push (started offset line) last)

-- no offset has an epoch above the last
pub epoch_at-le : (line : List (ℕ × ℕ)) (last : ℕ × ℕ) (offset epoch : ℕ) → IsLine (line ++ last ∷ []) → epoch_at (line ++ last ∷ []) offset ≡ Some epoch → epoch ≤ last.0
epoch_at-le line last offset epoch h e =
    let all = epochs_below (line ++ last ∷ []) (last.0 + 1) h (λ n k. let same : last.0 ≡ n = cc (last_epoch-push line last) in omega (arith, same)) in
    let below = last_epoch-all (started offset (line ++ last ∷ [])) (last.0 + 1) epoch (filter-all (λ x. nat_le x.1 offset) (λ x. x.0 < last.0 + 1) (λ x. x.0 < last.0 + 1) (λ x t a. a) (line ++ last ∷ []) all) (sym (epoch_at-started (line ++ last ∷ []) offset h) ∙ e) in
    omega (arith, below)

-- an empty line meets nothing
pub meet-none : (other : List (ℕ × ℕ)) (limit : ℕ) → IsMeetBelow [] other limit 0
meet-none other limit = record { within = omega arith; meets = inl refl; greatest = λ m l h. elim h [ inl zero-is ↦ omega (arith, zero-is) | inr shares ↦ absurd (let no = shares.1 in cc) ] }

swap-at : (own other : List (ℕ × ℕ)) (n : ℕ) → MeetsAt own other n → MeetsAt other own n
swap-at own other n (inl h) = inl h
swap-at own other n (inr h) = inr (h.0, h.2, h.1)

-- the other way round
pub meet-swap : (own other : List (ℕ × ℕ)) (limit n : ℕ) → IsMeetBelow own other limit n → IsMeetBelow other own limit n
meet-swap own other limit n h = record { within = h.within; meets = swap-at own other n h.meets; greatest = λ m l k. h.greatest m l (swap-at other own m k) }

meets-more : (own other : List (ℕ × ℕ)) (last : ℕ × ℕ) (n : ℕ) → IsLine (own ++ last ∷ []) → n ≤ last.1 → MeetsAt own other n → MeetsAt (own ++ last ∷ []) other n
meets-more own other last zero line l h = inl refl
meets-more own other last (suc n) line l (inl h) = absurd (omega (arith, h))
meets-more own other last (suc n) line l (inr h) = inr (h.0, epoch_at-front own last (suc n - 1) line (omega (arith, l)) ∙ h.1, h.2)

meets-less : (own other : List (ℕ × ℕ)) (last : ℕ × ℕ) (n : ℕ) → IsLine (own ++ last ∷ []) → n ≤ last.1 → MeetsAt (own ++ last ∷ []) other n → MeetsAt own other n
meets-less own other last zero line l h = inl refl
meets-less own other last (suc n) line l (inl h) = absurd (omega (arith, h))
meets-less own other last (suc n) line l (inr h) = inr (h.0, sym (epoch_at-front own last (suc n - 1) line (omega (arith, l))) ∙ h.1, h.2)

-- the last entry starts at or past the limit
pub meet-past : (own other : List (ℕ × ℕ)) (last : ℕ × ℕ) (limit n : ℕ) → IsLine (own ++ last ∷ []) → limit ≤ last.1 → IsMeetBelow own other limit n → IsMeetBelow (own ++ last ∷ []) other limit n
meet-past own other last limit n line l h = record {
  within = h.within;
  meets = meets-more own other last n line (omega (arith, l, h.within)) h.meets;
  greatest = λ m within meets. h.greatest m within (meets-less own other last m line (omega (arith, l, within)) meets);
}

apart : (own other : List (ℕ × ℕ)) (mine theirs : ℕ × ℕ) (m : ℕ) → IsLine (own ++ mine ∷ []) → IsLine (other ++ theirs ∷ []) → theirs.0 < mine.0 → mine.1 < m → MeetsAt (own ++ mine ∷ []) (other ++ theirs ∷ []) m → ⊥
apart own other mine theirs m line line' e l (inl h) = omega (arith, l, h)
apart own other mine theirs m line line' e l (inr h) =
    let same : mine.0 ≡ h.0 = cc (epoch_at-last own mine (m - 1) line (omega (arith, l)), h.1) in
    let low = epoch_at-le other theirs (m - 1) h.0 line' h.2 in
    omega (arith, e, same, low)

-- the last epoch is nowhere in the other line
pub meet-apart : (own other : List (ℕ × ℕ)) (mine theirs : ℕ × ℕ) (limit n : ℕ) → IsLine (own ++ mine ∷ []) → IsLine (other ++ theirs ∷ []) → theirs.0 < mine.0 → mine.1 ≤ limit
    → IsMeetBelow own (other ++ theirs ∷ []) mine.1 n → IsMeetBelow (own ++ mine ∷ []) (other ++ theirs ∷ []) limit n
meet-apart own other mine theirs limit n line line' e l h = record {
  within = omega (arith, l, h.within);
  meets = meets-more own (other ++ theirs ∷ []) mine n line h.within h.meets;
  greatest = λ m within meets. elim (cases_lt mine.1 m) [
    | inl past ↦ absurd (apart own other mine theirs m line line' e past meets)
    | inr below ↦ h.greatest m below (meets-less own (other ++ theirs ∷ []) mine m line below meets)
  ];
}

-- both last entries have the epoch, and start below the limit
pub meet-here : (own other : List (ℕ × ℕ)) (mine theirs : ℕ × ℕ) (limit : ℕ) → IsLine (own ++ mine ∷ []) → IsLine (other ++ theirs ∷ []) → mine.0 ≡ theirs.0 → mine.1 < limit → theirs.1 < limit
    → IsMeetBelow (own ++ mine ∷ []) (other ++ theirs ∷ []) limit limit
meet-here own other mine theirs limit line line' e l l' = record {
  within = omega arith;
  meets = inr (mine.0, epoch_at-last own mine (limit - 1) line (omega (arith, l)), epoch_at-last other theirs (limit - 1) line' (omega (arith, l')) ∙ ap (λ n. Some n) (sym e));
  greatest = λ m within meets. within;
}

-- the same steps of lists that end so

pub front-line : (own front : List (ℕ × ℕ)) (mine : ℕ × ℕ) → own ≡ front ++ mine ∷ [] → IsLine own → IsLine front
front-line own front mine e line = IsLine-front front mine (rw e at line)

pub step-past : (own front other : List (ℕ × ℕ)) (mine : ℕ × ℕ) (limit n : ℕ) → own ≡ front ++ mine ∷ [] → IsLine own → limit ≤ mine.1 → IsMeetBelow front other limit n → IsMeetBelow own other limit n
step-past own front other mine limit n e line l h = rw e (meet-past front other mine limit n (rw e at line) l h)

pub step-apart : (own front other rest : List (ℕ × ℕ)) (mine theirs : ℕ × ℕ) (limit n : ℕ) → own ≡ front ++ mine ∷ [] → other ≡ rest ++ theirs ∷ [] → IsLine own → IsLine other → theirs.0 < mine.0 → mine.1 ≤ limit
    → IsMeetBelow front other mine.1 n → IsMeetBelow own other limit n
step-apart own front other rest mine theirs limit n e f line line' above l h = rw (e, f) (meet-apart front rest mine theirs limit n (rw e at line) (rw f at line') above l (rw f at h))

pub step-here : (own front other rest : List (ℕ × ℕ)) (mine theirs : ℕ × ℕ) (limit : ℕ) → own ≡ front ++ mine ∷ [] → other ≡ rest ++ theirs ∷ [] → IsLine own → IsLine other → mine.0 ≡ theirs.0 → mine.1 < limit → theirs.1 < limit
    → IsMeetBelow own other limit limit
step-here own front other rest mine theirs limit e f line line' same l l' = rw (e, f) (meet-here front rest mine theirs limit (rw e at line) (rw f at line') same l l')

pub step-none : (own other : List (ℕ × ℕ)) (limit : ℕ) → length own ≡ 0 → IsMeetBelow own other limit 0
step-none [] other limit h = meet-none other limit
step-none (one ∷ own) other limit h = absurd (omega (arith, h))
