-- What holds of a broker's log that is up.
use Rattle.std.proofs.Common.{◌≡◌, ℕ, List, [], true, refl}
use Rattle.std.specs.Prelude.{unwrap_or}
use Rattle.local_log.specs.Log.{Log}
use Rattle.broker_log.specs.Seen.{LogState, Up, Down, Away, WhileUp, is_up, end_in, line_in}

module _ {D : Type 0} where
  -- of its end and its leader epochs
  pub while_of : (P : ℕ → List (ℕ × ℕ) → Type 0) (kept : LogState D) → is_up kept ≡ true → P (unwrap_or (end_in kept) 0) (unwrap_or (line_in kept) []) → WhileUp kept (λ log. P log.end log.line)
  while_of P (Up log) up p = p
  while_of P (Down settings disk) up p = absurd cc
  while_of P Away up p = absurd cc

  pub of_while : (P : ℕ → List (ℕ × ℕ) → Type 0) (kept : LogState D) → WhileUp kept (λ log. P log.end log.line) → P (unwrap_or (end_in kept) 0) (unwrap_or (line_in kept) [])
  of_while P (Up log) p = p
  of_while P (Down settings disk) p = absurd p
  of_while P Away p = absurd p

  pub up_while : (P : Log D → Type 0) (kept : LogState D) → WhileUp kept P → is_up kept ≡ true
  up_while P (Up log) p = refl
  up_while P (Down settings disk) p = absurd p
  up_while P Away p = absurd p

  pub while_map : (P Q : Log D → Type 0) (kept : LogState D) → ((log : Log D) → P log → Q log) → WhileUp kept P → WhileUp kept Q
  while_map P Q (Up log) f p = f log p
  while_map P Q (Down settings disk) f p = absurd p
  while_map P Q Away f p = absurd p
