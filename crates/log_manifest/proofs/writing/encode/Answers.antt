use Rattle.std.proofs.Common.{◌<◌, ◌^◌, length, arith}
use Rattle.log_manifest.proofs.Again.{line_few}
use Rattle.log_manifest.proofs.writing.encode.Goals as goal

pub overflow_cast-entries : goal.overflow_cast-entries
overflow_cast-entries c =
    let few : length c.entries-entries.result.now < 2 ^ 32 =
    rw (c.entries-entries.ensures.entries) (line_few c.args.manifest.now.line c.entries-entries.ensures.line) in
    omega (arith, few)
