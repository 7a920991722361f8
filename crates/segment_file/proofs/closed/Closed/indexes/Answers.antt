use Rattle.std.proofs.Common.{◌∙◌, arith}
use Rattle.segment_file.proofs.Joining.{consecutive_up}
use Rattle.segment_file.proofs.closed.Closed.indexes.Goals as goal

pub indexes_of-requires-clause-base_fits : goal.indexes_of-requires-clause-base_fits
indexes_of-requires-clause-base_fits c =
    let i = c.self.invariant in
    let up = consecutive_up c.self.inside.base i.batches i.is.consecutive in
    let low = i.is.low in
    omega (arith, up, low)

pub indexes_of-requires-clause-segment : goal.indexes_of-requires-clause-segment
indexes_of-requires-clause-segment c = record {
  batches = c.self.invariant.batches;
  bytes_are = c.as_slice.ensures ∙ c.self.invariant.bytes_are;
  is = c.self.invariant.is;
}
