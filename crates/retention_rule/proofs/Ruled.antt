-- The rule by what it comes to, item by item as its definition goes.
use Rattle.std.proofs.Common.{◌≡◌, refl, ℕ, suc, ◌+◌, ◌<◌, ◌≤◌, ℤ, pos, Bool, true, false, cond, List, [], ◌∷◌, ◌++◌, length, ◌⊎◌, inl, inr, arith}
use Rattle.std.specs.Prelude.{int_le, int_lt, ◌-ℤ◌, ◌≤ℤ◌, ◌<ℤ◌}
use Rattle.std.proofs.lemmas.Bool.{and_parts, and_from, or_cases, or_left, or_right}
use Rattle.std.proofs.lemmas.Int.{ints}
use Rattle.tier_base.specs.declared.plain.Item.{Item}
use Rattle.tier_base.specs.declared.plain.Keep.{Keep}
use Rattle.retention_rule.specs.Due.{size_of, is_old, is_enough, is_due, start_due}
use Rattle.retention_rule.specs.Laws.{IsTooOld, ReachesLimit, IsWider, KeepsMore}

le-is : (a b : ℤ) → int_le a b ≡ true → a ≤ℤ b
le-is a b e = grind (arith, ints)

is-le : (a b : ℤ) → a ≤ℤ b → int_le a b ≡ true
is-le a b h = grind (arith, ints)

lt-is : (a b : ℤ) → int_lt a b ≡ true → a <ℤ b
lt-is a b e = grind (arith, ints)

is-lt : (a b : ℤ) → a <ℤ b → int_lt a b ≡ true
is-lt a b h = grind (arith, ints)

-- the tests, as what they find
old-is : (item : Item) (now : ℤ) (keep : Keep) → is_old item now keep ≡ true → IsTooOld item now keep
old-is item now keep e =
    let both = and_parts (int_le (pos 0) keep.ms) (int_lt keep.ms (now -ℤ item.max_ts)) e in
    (le-is _ _ both.0, lt-is _ _ both.1)

is-old : (item : Item) (now : ℤ) (keep : Keep) → IsTooOld item now keep → is_old item now keep ≡ true
is-old item now keep h = and_from _ _ (is-le _ _ h.0) (is-lt _ _ h.1)

enough-is : (left : ℕ) (keep : Keep) → is_enough left keep ≡ true → ReachesLimit left keep
enough-is left keep e =
    let both = and_parts (int_le (pos 0) keep.bytes) (int_le keep.bytes (pos left)) e in
    (le-is _ _ both.0, le-is _ _ both.1)

is-enough : (left : ℕ) (keep : Keep) → ReachesLimit left keep → is_enough left keep ≡ true
is-enough left keep h = and_from _ _ (is-le _ _ h.0) (is-le _ _ h.1)

-- an item that is due
due-is : (item : Item) (others : List Item) (rest : ℕ) (now : ℤ) (keep : Keep)
    → is_due item others rest now keep ≡ true
    → IsTooOld item now keep ⊎ ReachesLimit (rest + size_of others) keep
due-is item others rest now keep e = by_cause (or_cases (is_old item now keep) (is_enough (rest + size_of others) keep) e)
  where
    by_cause : (is_old item now keep ≡ true) ⊎ (is_enough (rest + size_of others) keep ≡ true)
        → IsTooOld item now keep ⊎ ReachesLimit (rest + size_of others) keep
    by_cause (inl old) = inl (old-is item now keep old)
    by_cause (inr enough) = inr (enough-is (rest + size_of others) keep enough)

-- the item after these
pub gone_due : (items others : List Item) (item : Item) (rest : ℕ) (now : ℤ) (keep : Keep)
    → length items < start_due (items ++ item ∷ others) rest now keep
    → IsTooOld item now keep ⊎ ReachesLimit (rest + size_of others) keep
gone_due [] others item rest now keep h = go (is_due item others rest now keep) refl h
  where
    go : (t : Bool) → is_due item others rest now keep ≡ t
        → 0 < cond t (start_due others rest now keep + 1) 0
        → IsTooOld item now keep ⊎ ReachesLimit (rest + size_of others) keep
    go true e h = due-is item others rest now keep e
    go false e h = absurd (omega (arith, h))
gone_due (x ∷ items) others item rest now keep h =
    gone_due items others item rest now keep (go (is_due x (items ++ item ∷ others) rest now keep) h)
  where
    go : (t : Bool)
        → suc (length items) < cond t (start_due (items ++ item ∷ others) rest now keep + 1) 0
        → length items < start_due (items ++ item ∷ others) rest now keep
    go true h = omega (arith, h)
    go false h = absurd (omega (arith, h))

first_not_due : (items others : List Item) (item : Item) (rest : ℕ) (now : ℤ) (keep : Keep)
    → start_due (items ++ item ∷ others) rest now keep ≡ length items
    → is_due item others rest now keep ≡ false
first_not_due [] others item rest now keep h = go (is_due item others rest now keep) h
  where
    go : (t : Bool) → cond t (start_due others rest now keep + 1) 0 ≡ 0 → t ≡ false
    go true h = absurd (omega (arith, h))
    go false h = refl
first_not_due (x ∷ items) others item rest now keep h =
    first_not_due items others item rest now keep (go (is_due x (items ++ item ∷ others) rest now keep) h)
  where
    go : (t : Bool) → cond t (start_due (items ++ item ∷ others) rest now keep + 1) 0 ≡ suc (length items)
        → start_due (items ++ item ∷ others) rest now keep ≡ length items
    go true h = omega (arith, h)
    go false h = absurd (omega (arith, h))

pub first_young : (items others : List Item) (item : Item) (rest : ℕ) (now : ℤ) (keep : Keep)
    → start_due (items ++ item ∷ others) rest now keep ≡ length items → IsTooOld item now keep → ⊥
first_young items others item rest now keep h old =
    let no = first_not_due items others item rest now keep h in
    let yes : is_due item others rest now keep ≡ true = or_left _ (is_enough (rest + size_of others) keep) (is-old item now keep old) in
    cc

pub first_wanted : (items others : List Item) (item : Item) (rest : ℕ) (now : ℤ) (keep : Keep)
    → start_due (items ++ item ∷ others) rest now keep ≡ length items
    → ReachesLimit (rest + size_of others) keep → ⊥
first_wanted items others item rest now keep h reached =
    let no = first_not_due items others item rest now keep h in
    let yes : is_due item others rest now keep ≡ true = or_right (is_old item now keep) _ (is-enough (rest + size_of others) keep reached) in
    cc

-- limits that are at least as large, a later time, and bytes that are no fewer
older : (limit wider now later ts : ℤ) → IsWider limit wider → now ≤ℤ later
    → (pos 0 ≤ℤ wider) × (wider <ℤ (now -ℤ ts)) → (pos 0 ≤ℤ limit) × (limit <ℤ (later -ℤ ts))
older limit wider now later ts w l h = (first (w h.0), second (w h.0) h.1)
  where
    first : (pos 0 ≤ℤ limit) × (limit ≤ℤ wider) → pos 0 ≤ℤ limit
    first both = both.0

    second : (pos 0 ≤ℤ limit) × (limit ≤ℤ wider) → wider <ℤ (now -ℤ ts) → limit <ℤ (later -ℤ ts)
    second both old = later_still limit wider now later ts both.1 l old
      where
        later_still : (limit wider now later ts : ℤ) → limit ≤ℤ wider → now ≤ℤ later → wider <ℤ (now -ℤ ts) → limit <ℤ (later -ℤ ts)
        later_still limit wider now later ts a b c = omega (arith, ints, a, b, c)

fuller : (limit wider : ℤ) (left more : ℕ) → IsWider limit wider → left ≤ more
    → (pos 0 ≤ℤ wider) × (wider ≤ℤ pos left) → (pos 0 ≤ℤ limit) × (limit ≤ℤ pos more)
fuller limit wider left more w l h = ((w h.0).0, fuller_still limit wider left more (w h.0).1 l h.1)
  where
    fuller_still : (limit wider : ℤ) (left more : ℕ) → limit ≤ℤ wider → left ≤ more → wider ≤ℤ pos left → limit ≤ℤ pos more
    fuller_still limit wider left more a b c = omega (arith, ints, a, b, c)

still_due : (item : Item) (others : List Item) (rest more : ℕ) (now later : ℤ) (keep wide : Keep)
    → KeepsMore keep wide → rest ≤ more → now ≤ℤ later
    → is_due item others rest now wide ≡ true → is_due item others more later keep ≡ true
still_due item others rest more now later keep wide w m l e =
    by_cause (or_cases (is_old item now wide) (is_enough (rest + size_of others) wide) e)
  where
    by_cause : (is_old item now wide ≡ true) ⊎ (is_enough (rest + size_of others) wide ≡ true)
        → is_due item others more later keep ≡ true
    by_cause (inl old) =
        or_left _ (is_enough (more + size_of others) keep)
        (is-old item later keep (older keep.ms wide.ms now later item.max_ts w.ms l (old-is item now wide old)))
    by_cause (inr enough) =
        or_right (is_old item later keep) _
        (is-enough (more + size_of others) keep
        (fuller keep.bytes wide.bytes (rest + size_of others) (more + size_of others) w.bytes (omega (arith, m))
        (enough-is (rest + size_of others) wide enough)))

no_fewer_by : (items : List Item) (rest more : ℕ) (now later : ℤ) (keep wide : Keep)
    → KeepsMore keep wide → rest ≤ more → now ≤ℤ later
    → start_due items rest now wide ≤ start_due items more later keep
no_fewer_by [] rest more now later keep wide w m l = omega arith
no_fewer_by (item ∷ items) rest more now later keep wide w m l =
    go (is_due item items rest now wide) (is_due item items more later keep)
    (still_due item items rest more now later keep wide w m l)
    (no_fewer_by items rest more now later keep wide w m l)
  where
    go : (t u : Bool) → (t ≡ true → u ≡ true)
        → start_due items rest now wide ≤ start_due items more later keep
        → cond t (start_due items rest now wide + 1) 0 ≤ cond u (start_due items more later keep + 1) 0
    go false u h k = omega arith
    go true true h k = omega (arith, k)
    go true false h k = absurd (let e = h refl in cc)

pub fewer : (items : List Item) (rest : ℕ) (now : ℤ) (keep more : Keep) → KeepsMore keep more
    → start_due items rest now more ≤ start_due items rest now keep
fewer items rest now keep more w = no_fewer_by items rest rest now now keep more w (omega arith) (same now)
  where
    same : (z : ℤ) → z ≤ℤ z
    same z = omega (arith, ints)

pub no_fewer : (items : List Item) (rest more : ℕ) (now later : ℤ) (keep : Keep) → rest ≤ more → now ≤ℤ later
    → start_due items rest now keep ≤ start_due items more later keep
no_fewer items rest more now later keep m l = no_fewer_by items rest more now later keep keep (same keep) m l
  where
    wide : (z : ℤ) → IsWider z z
    wide z h = (h, (let s : z ≤ℤ z = omega (arith, ints) in s))

    same : (keep : Keep) → KeepsMore keep keep
    same keep = record { ms = wide keep.ms; bytes = wide keep.bytes }
