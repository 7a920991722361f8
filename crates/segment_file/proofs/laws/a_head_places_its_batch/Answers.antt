use Rattle.segment_file.proofs.Telling.{head_places}
use Rattle.segment_file.proofs.laws.a_head_places_its_batch.Goals as goal

pub returns : goal.returns
returns c = head_places
