-- Counts of faults that continue: they never fall, and a rise stays.
use Rattle.std.proofs.Common.{ℕ, ◌≤◌, List, [], ◌∷◌, Bool, true, false, if◌then◌else◌, arith}
use Rattle.tier_base.specs.Counts.{counted, Rose}
use Rattle.device_yard.specs.declared.came.Came.{Came}
use Rattle.device_yard.specs.Control.{is_fault}
use Rattle.run_yard.specs.Yard.{faults_with}

pub goes_on : (a b c : ℕ) → counted a 0 ≤ b → counted b 0 ≤ c → counted a 0 ≤ c
goes_on a b c f g = omega (arith, f, g)

pub rose_before : (a b c : ℕ) → Rose a b → counted b 0 ≤ c → Rose a c
rose_before a b c f g = omega (arith, f, g)

pub rose_after : (a b c : ℕ) → counted a 0 ≤ b → Rose b c → Rose a c
rose_after a b c f g = omega (arith, f, g)

pub counts_one : (a : ℕ) → counted a 0 ≤ counted a 1
counts_one a = omega arith

-- devices that come back take no fault away
pub still : (came : List Came) (n : ℕ) → counted n 0 ≤ faults_with came n
still [] n = omega arith
still (c ∷ came) n = goes_on n (if is_fault c then counted n 1 else n) (faults_with came (if is_fault c then counted n 1 else n)) (one (is_fault c)) (still came (if is_fault c then counted n 1 else n))
  where
    one : (b : Bool) → counted n 0 ≤ (if b then counted n 1 else n)
    one true = counts_one n
    one false = omega arith
