use Rattle.std.proofs.Common.{◌≡◌, drop}
use Rattle.plain_log.specs.State.{path_of}
use Rattle.plain_executor.proofs.paths.path.Given as goal

abbrev pub invariant-loop-path : goal.invariant-loop-path
invariant-loop-path l = path_of l.paths l.epoch ≡ path_of (drop l.path-index l.paths) l.epoch
