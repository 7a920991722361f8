use Rattle.std.proofs.Common.{sym, subst, refl}
use Rattle.disk_model.specs.contracts.memory_disk.MemoryDiskDisk.TheImpl as disk
use Rattle.meta_log.specs.Content as log
use Rattle.meta_log_file.specs.Told.{told_of}
use Rattle.memory_yard.specs.Log.{told}
use Rattle.memory_yard.proofs.Logs.{never_rose, log_then, has_by}
use Rattle.memory_yard.proofs.log_place.has_notes.Goals as goal

pub are_some-requires : goal.are_some-requires
are_some-requires c = λ fault.
    let said = c.read-found.ensures in
    never_rose _ _ c.in-Ok.ensures.faults (said.told_cause fault refl) (said.lasts.no_fault (c.in-Ok.ensures.stays_infallible c.requires.infallible))

pub returns-in-Ok-clause-keeps : goal.returns-in-Ok-clause-keeps
returns-in-Ok-clause-keeps c =
    subst (λ l. log.Keeps (told_of ((disk.ghosts).content c.args.disk)) (told l)) (sym c.of_log.ensures)
    (log_then _ _ _ c.in-Ok.ensures.keeps c.read-found.ensures.content)

pub returns-in-Ok-clause-has : goal.returns-in-Ok-clause-has
returns-in-Ok-clause-has c =
    has_by c.are_some.result c.read-found.result _ _ c.are_some.ensures.answer c.are_some.ensures.went (c.read-found.ensures.notes refl) c.in-Ok.ensures.keeps.notes
