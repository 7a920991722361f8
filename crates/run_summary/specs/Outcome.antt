-- What a partition's journal comes to: its answers, the sizes of all runs that fetches returned, summed, and where it
-- ended.
use Rattle.std.specs.Prelude.{ℕ, List}
use Rattle.load_gen.specs.Summary.{Answered, Ended}

pub record Outcome : Type 0 where
  pub answers : List Answered
  pub bytes : ℕ
  pub end : Ended
