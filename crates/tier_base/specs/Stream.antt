-- What a source gave and what a sink took, over one or more calls.
--
-- `None` represents a stream that isn't observable: then nothing is said of them.
use Rattle.std.specs.Prelude.{◌≡◌, ℕ, ◌<◌, ◌≤◌, List, ◌++◌, length}
use Rattle.std.specs.declared.option.Option.{Option}
use Rattle.std.specs.Io.KnownBytes.{Consumes, IsAtEnd, Appends}
use Rattle.tier_base.specs.Counts.{counted}

-- the source gave these bytes, and nothing is left behind them
pub record ReadsWhole (old new : Option (List ℕ)) (bytes : List ℕ) : Type 0 where
  pub taken : Consumes old new bytes
  pub at_end : IsAtEnd new

-- the source gave so many bytes
pub record Gave (old new : Option (List ℕ)) (count : ℕ) : Type 0 where
  pub bytes : List ℕ
  pub taken : Consumes old new bytes
  pub many : length bytes ≡ count

-- the source gave at most so many bytes, and counted them
pub record GaveUpTo (old new : Option (List ℕ)) (before now most : ℕ) : Type 0 where
  pub bytes : List ℕ
  pub taken : Consumes old new bytes
  pub many : length bytes ≤ most
  pub count : now ≡ counted before (length bytes)

-- the sink took a front of the piece, and not all of it
pub record AppendsFront (old new : Option (List ℕ)) (piece : List ℕ) : Type 0 where
  pub front : List ℕ
  pub rest : List ℕ
  pub parts : front ++ rest ≡ piece
  pub short : length front < length piece
  pub written : Appends old new front
