-- What stays a line: its front, and an entry more above all of it.
use Rattle.std.proofs.Common.{zero, suc, ◌≡◌, ◌∙◌, sym, ap, refl, ℕ, ◌+◌, ◌-◌, ◌^◌, ◌<◌, ◌≤◌, List, [], ◌∷◌, ◌++◌, Some, length, take, get_or, arith, add-one}
use Rattle.std.specs.Prelude.{slice_get}
use Rattle.std.specs.Option.{ForSome, option_map}
use Rattle.std.specs.List.{AllByRecursion}
use Rattle.std.specs.List.Sorted.{IsNonDecreasingBy}
use Rattle.std.proofs.lemmas.List.Sorted.{IsNonDecreasingBy-from_all_adjacent}
use Rattle.epoch_line.specs.Line.{IsBelow, IsLine, last_entry, last_epoch}

-- `last` of a slice
pub last_entry_get : (line : List (ℕ × ℕ)) → slice_get line (length line - 1) ≡ last_entry line
last_entry_get [] = refl
last_entry_get (one ∷ []) = refl
last_entry_get (one ∷ two ∷ line) =
    let same : suc (suc (length line)) - 1 ≡ suc (length line) = omega arith in
    let less : suc (length line) - 1 ≡ length line = omega arith in
    rw same (rw less at (last_entry_get (two ∷ line)))

-- an entry lies below the front of what it lies below
IsBelow-take : (k : ℕ) (entry : ℕ × ℕ) (line : List (ℕ × ℕ)) → IsBelow entry line → IsBelow entry (take k line)
IsBelow-take zero entry line h = tt
IsBelow-take (suc k) entry [] h = tt
IsBelow-take (suc k) entry (next ∷ line) h = h

-- the front of a line is a line
pub IsLine-take : (k : ℕ) (line : List (ℕ × ℕ)) → IsLine line → IsLine (take k line)
IsLine-take zero line h = tt
IsLine-take (suc k) [] h = tt
IsLine-take (suc k) (entry ∷ line) h = (h.0, h.1, IsBelow-take k entry line h.2, IsLine-take k line h.3)

-- so is a line with an entry more, which lies above all of it
pub IsLine-push : (line : List (ℕ × ℕ)) (entry : ℕ × ℕ) → IsLine line → entry.0 < 2 ^ 31 → entry.1 ≤ 2 ^ 62 → AllByRecursion (λ e. e.0 < entry.0) line → AllByRecursion (λ e. e.1 < entry.1) line → IsLine (line ++ entry ∷ [])
IsLine-push [] entry h fits fits' epochs starts = (fits, fits', tt, tt)
IsLine-push (one ∷ []) entry h fits fits' epochs starts = (h.0, h.1, (epochs.0, starts.0), (fits, fits', tt, tt))
IsLine-push (one ∷ two ∷ line) entry h fits fits' epochs starts = (h.0, h.1, h.2, IsLine-push (two ∷ line) entry h.3 fits fits' epochs.1 starts.1)

-- what lies above the last epoch lies above each
pub epochs_below : (line : List (ℕ × ℕ)) (epoch : ℕ) → IsLine line → ForSome (last_epoch line) (λ last. last < epoch) → AllByRecursion (λ e. e.0 < epoch) line
epochs_below [] epoch h last = tt
epochs_below (one ∷ []) epoch h last = (last _ refl, tt)
epochs_below (one ∷ two ∷ line) epoch h last = let rest = epochs_below (two ∷ line) epoch h.3 last in (omega (arith, h.2.0, rest.0), rest)

-- the same of starts
pub starts_below : (line : List (ℕ × ℕ)) (entry : ℕ × ℕ) → IsLine line → ForSome (last_entry line) (λ last. last.1 < entry.1) → AllByRecursion (λ e. e.1 < entry.1) line
starts_below [] entry h last = tt
starts_below (one ∷ []) entry h last = (last _ refl, tt)
starts_below (one ∷ two ∷ line) entry h last = let rest = starts_below (two ∷ line) entry h.3 last in (omega (arith, h.2.1, rest.0), rest)

-- a line has no more entries than there are epochs
count-within : (entry : ℕ × ℕ) (line : List (ℕ × ℕ)) → IsLine (entry ∷ line) → entry.0 + length line < 2 ^ 31
count-within entry [] h = omega (arith, h.0)
count-within entry (next ∷ line) h = omega (arith, h.2.0, count-within next line h.3)

pub length-line : (line : List (ℕ × ℕ)) → IsLine line → length line ≤ 2 ^ 31
length-line [] h = omega arith
length-line (entry ∷ line) h = omega (arith, count-within entry line h)

-- starts rise
starts-adjacent : (line : List (ℕ × ℕ)) (k : ℕ) (d : ℕ × ℕ) → IsLine line → suc k < length line → (get_or line k d).1 ≤ (get_or line (suc k) d).1
starts-adjacent [] k d h l = absurd (omega (arith, l))
starts-adjacent (one ∷ []) k d h l = absurd (omega (arith, l))
starts-adjacent (one ∷ two ∷ line) zero d h l = omega (arith, h.2.1)
starts-adjacent (one ∷ two ∷ line) (suc k) d h l = starts-adjacent (two ∷ line) k d h.3 (omega (arith, l))

pub starts-rise : (line : List (ℕ × ℕ)) → IsLine line → IsNonDecreasingBy (λ e. e.1) line
starts-rise line h = IsNonDecreasingBy-from_all_adjacent (λ e. e.1) line (λ k d l. rw add-one (starts-adjacent line k d h (omega (arith, l))))

-- epochs rise
epochs-adjacent : (line : List (ℕ × ℕ)) (k : ℕ) (d : ℕ × ℕ) → IsLine line → suc k < length line → (get_or line k d).0 ≤ (get_or line (suc k) d).0
epochs-adjacent [] k d h l = absurd (omega (arith, l))
epochs-adjacent (one ∷ []) k d h l = absurd (omega (arith, l))
epochs-adjacent (one ∷ two ∷ line) zero d h l = omega (arith, h.2.0)
epochs-adjacent (one ∷ two ∷ line) (suc k) d h l = epochs-adjacent (two ∷ line) k d h.3 (omega (arith, l))

pub epochs-rise : (line : List (ℕ × ℕ)) → IsLine line → IsNonDecreasingBy (λ e. e.0) line
epochs-rise line h = IsNonDecreasingBy-from_all_adjacent (λ e. e.0) line (λ k d l. rw add-one (epochs-adjacent line k d h (omega (arith, l))))

-- what may follow a line: an entry above its last one
pub line-follows : (line : List (ℕ × ℕ)) (last entry : ℕ × ℕ) → IsLine line → slice_get line (length line - 1) ≡ Some last → entry.0 < 2 ^ 31 → entry.1 ≤ 2 ^ 62 → last.0 < entry.0 → last.1 < entry.1 → IsLine (line ++ entry ∷ [])
line-follows line last entry h get fits fits' epochs starts =
    let is : last_entry line ≡ Some last = sym (last_entry_get line) ∙ get in
    IsLine-push line entry h fits fits'
    (epochs_below line entry.0 h (λ n e. let same : last.0 ≡ n = cc (ap (option_map (λ x. x.0)) is) in omega (arith, epochs, same)))
    (starts_below line entry h (λ n e. let same : last ≡ n = cc in rw (← same) starts))

-- what the last entry says of its epoch
last_epochs : (line : List (ℕ × ℕ)) (entry : ℕ × ℕ) → ForSome (last_entry line) (λ last. (last.0 < entry.0) × (last.1 < entry.1)) → ForSome (last_epoch line) (λ last. last < entry.0)
last_epochs [] entry above = λ n e. absurd (cc)
last_epochs (one ∷ []) entry above = λ n e. let same : one.0 ≡ n = cc in rw (← same) (above one refl).0
last_epochs (one ∷ two ∷ line) entry above = last_epochs (two ∷ line) entry above

-- the same, reported of the last entry
pub line_above : (line : List (ℕ × ℕ)) (entry : ℕ × ℕ) → IsLine line → entry.0 < 2 ^ 31 → entry.1 ≤ 2 ^ 62 → ForSome (last_entry line) (λ last. (last.0 < entry.0) × (last.1 < entry.1)) → IsLine (line ++ entry ∷ [])
line_above line entry h fits fits' above =
    IsLine-push line entry h fits fits'
    (epochs_below line entry.0 h (last_epochs line entry above))
    (starts_below line entry h (λ last e. (above last e).1))

-- and only that
above-last : (line : List (ℕ × ℕ)) (last entry : ℕ × ℕ) → last_entry line ≡ Some last → IsLine (line ++ entry ∷ []) → (last.0 < entry.0) × (last.1 < entry.1)
above-last [] last entry is h = absurd (cc)
above-last (one ∷ []) last entry is h = let same : one ≡ last = cc in rw (← same) h.2
above-last (one ∷ two ∷ line) last entry is h = above-last (two ∷ line) last entry is h.3

pub follows-above : (line : List (ℕ × ℕ)) (last entry : ℕ × ℕ) → slice_get line (length line - 1) ≡ Some last → IsLine (line ++ entry ∷ []) → (last.0 < entry.0) × (last.1 < entry.1)
follows-above line last entry get h = above-last line last entry (sym (last_entry_get line) ∙ get) h
