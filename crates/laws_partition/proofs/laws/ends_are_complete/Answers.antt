use Rattle.laws_partition.proofs.CompleteLaw.{ends_complete}
use Rattle.laws_partition.proofs.laws.ends_are_complete.Goals as goal

pub returns : goal.returns
returns c = ends_complete
