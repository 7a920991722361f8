-- Whether bytes are those of batches, one after another.
use Rattle.std.proofs.Common.{◌≡◌, refl, ℕ, suc, ◌+◌, ◌<◌, ◌≤◌, List, [], ◌∷◌, ◌++◌, take, drop, length, Some, arith, Bool, true, false, ◌&&◌, length-append}
use Rattle.std.specs.Prelude.{bytes_eq, nat_eq, slice_get}
use Rattle.log_terms.specs.Log.{joined}
use Rattle.plain_executor.proofs.Parts.{drop_at}

-- bytes in two parts are compared part by part
pub eq_split : (a b c : List ℕ) → length a ≤ length c → bytes_eq (a ++ b) c ≡ bytes_eq a (take (length a) c) && bytes_eq b (drop (length a) c)
eq_split [] b c l = refl
eq_split (x ∷ a) b [] l = absurd (omega arith)
eq_split (x ∷ a) b (y ∷ c) l = go (nat_eq x y) refl (eq_split a b c (omega arith))
  where
    go : (t : Bool) → nat_eq x y ≡ t → bytes_eq (a ++ b) c ≡ bytes_eq a (take (length a) c) && bytes_eq b (drop (length a) c)
        → bytes_eq ((x ∷ a) ++ b) (y ∷ c) ≡ bytes_eq (x ∷ a) (take (suc (length a)) (y ∷ c)) && bytes_eq b (drop (suc (length a)) (y ∷ c))
    go true e r = rw e r
    go false e r = rw e refl

-- the batches from a place on, by the one that is there and those after it
pub joined_at : (log : List (List ℕ)) (i : ℕ) (batch rest : List ℕ) → slice_get log i ≡ Some batch → length batch ≤ length rest
    → bytes_eq (joined (drop i log)) rest
    ≡ bytes_eq batch (take (length batch) rest) && bytes_eq (joined (drop (i + 1) log)) (drop (length batch) rest)
joined_at log i batch rest is l =
    rw (drop_at log i batch is) (eq_split batch (joined (drop (i + 1) log)) rest l)

-- how many bytes those from a place on have
pub length_at : (log : List (List ℕ)) (i : ℕ) (batch : List ℕ) → slice_get log i ≡ Some batch
    → length (joined (drop i log)) ≡ length batch + length (joined (drop (i + 1) log))
length_at log i batch is = rw (drop_at log i batch is) (length-append batch (joined (drop (i + 1) log)))

-- where less is left than the batch that is there
pub joined_short : (log : List (List ℕ)) (i : ℕ) (batch rest : List ℕ) → slice_get log i ≡ Some batch
    → length rest < length batch → bytes_eq (joined (drop i log)) rest ≡ false
joined_short log i batch rest is l =
    rw (drop_at log i batch is) (eq_short batch (joined (drop (i + 1) log)) rest l)
  where
    eq_short : (a d c : List ℕ) → length c < length a → bytes_eq (a ++ d) c ≡ false
    eq_short [] d c l = absurd (omega arith)
    eq_short (x ∷ a) d [] l = refl
    eq_short (x ∷ a) d (y ∷ c) l = go (nat_eq x y) refl (eq_short a d c (omega arith))
      where
        go : (t : Bool) → nat_eq x y ≡ t → bytes_eq (a ++ d) c ≡ false → bytes_eq ((x ∷ a) ++ d) (y ∷ c) ≡ false
        go true e r = rw e r
        go false e r = rw e refl
