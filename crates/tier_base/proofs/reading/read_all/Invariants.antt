use Rattle.std.proofs.Common.{◌≡◌, ◌+◌, ◌-◌, ◌≤◌, take, vec_len, is_some}
use Rattle.std.specs.Io.KnownBytes.{Consumes}
use Rattle.tier_base.specs.Counts.{counted}
use Rattle.tier_base.proofs.reading.read_all.Given as goal

abbrev pub invariant-pieces : goal.invariant-pieces
invariant-pieces g l = record {
  taken : Consumes (g.R.Source.left l.fn.source) (g.R.Source.left l.source) (take l.read l.bytes.items);
  is_observable : is_some (g.R.Source.left l.source) ≡ is_some (g.R.Source.left l.fn.source);
  count : g.R.Source.given l.source ≡ counted (g.R.Source.given l.fn.source) l.read;
  within : l.read ≤ vec_len l.bytes;
  bound : vec_len l.bytes ≤ l.limit + 1;
  below : l.read ≤ l.limit;
  later : g.R.Source.faults l.fn.source ≤ g.R.Source.faults l.source;
}

abbrev pub decreases-pieces : goal.decreases-pieces
decreases-pieces g l = l.limit + 1 - l.read
