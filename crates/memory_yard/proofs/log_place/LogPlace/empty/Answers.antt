use Rattle.memory_yard.proofs.log_place.LogPlace.empty.Goals as goal

pub of_disk-requires : goal.of_disk-requires
of_disk-requires c = (c.an_empty_disk_has_no_notes.ensures c.new-2.result c.new-2.ensures.content).0
