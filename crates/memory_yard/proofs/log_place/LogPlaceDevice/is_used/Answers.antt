use Rattle.std.proofs.Common.{◌≢◌, ◌↔◌, ◌∙◌, [], ap, subst, IfOk, IsTrue}
use Rattle.disk_model.specs.contracts.memory_disk.MemoryDiskDisk.TheImpl as disk
use Rattle.meta_log.specs.Content as log
use Rattle.meta_log_file.specs.Told.{told_of}
use Rattle.memory_yard.specs.Log.{told}
use Rattle.memory_yard.proofs.Logs.{told_keeps, log_then}
use Rattle.memory_yard.proofs.log_place.LogPlaceDevice.is_used.Goals as goal

pub returns-clause-keeps : goal.returns-clause-keeps
returns-clause-keeps c =
    subst (λ d. log.Keeps (told_of ((disk.ghosts).content d)) (told c.has_notes-place.result.0)) c.take-disk.ensures.disk
    (log_then _ _ _ (told_keeps _ _ c.renew.ensures.content) c.has_notes-place.ensures.keeps)

pub returns-clause-used : goal.returns-clause-used
returns-clause-used c =
    subst (λ ns. IfOk c.has_notes-place.result.1 (λ answer. IsTrue answer ↔ (ns ≢ [])))
    ((told_keeps _ _ c.renew.ensures.content).notes ∙ ap (λ d. (told_of ((disk.ghosts).content d)).notes) c.take-disk.ensures.disk)
    c.has_notes-place.ensures.has
