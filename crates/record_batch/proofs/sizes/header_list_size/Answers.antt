use Rattle.std.proofs.Common.{arith}
use Rattle.record_batch.proofs.Counts.{headers_few}
use Rattle.record_batch.proofs.sizes.header_list_size.Goals as goal

pub overflow_cast-headers : goal.overflow_cast-headers
overflow_cast-headers c = omega (arith, headers_few c.args.headers.now, c.in_ok-size.ensures)

pub varint_size-requires : goal.varint_size-requires
varint_size-requires c = omega (arith, headers_few c.args.headers.now, c.in_ok-size.ensures)
