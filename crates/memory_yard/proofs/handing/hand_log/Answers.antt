use Rattle.std.proofs.Common.{sym, subst}
use Rattle.disk_model.specs.contracts.memory_disk.MemoryDiskDisk.TheImpl as disk
use Rattle.meta_log.specs.Content as log
use Rattle.meta_log_file.specs.Told.{told_of}
use Rattle.device_yard.specs.YardContent.{HandsLog}
use Rattle.memory_yard.specs.Log.{told}
use Rattle.memory_yard.proofs.Logs.{told_keeps, log_then, reopens_kept, hands_empty, put_back, none_back}
use Rattle.memory_yard.proofs.handing.hand_log.Goals as goal

pub returns-in-Ok-clause-content : goal.returns-in-Ok-clause-content
returns-in-Ok-clause-content c =
    subst (λ o. HandsLog told o (told c.in-Ok.log)) c.in-Some.ensures.taken
    (subst (λ d. log.Keeps (told_of ((disk.ghosts).content d)) (told c.in-Ok.log)) c.into_disk-bare.ensures.disk
    (log_then _ _ _ (told_keeps _ _ c.renew.ensures.content) (log_then _ _ _ (told_keeps _ _ c.fused.ensures.content) c.in-Ok.ensures.keeps)))

pub returns-in-Some-clause-err : goal.returns-in-Some-clause-err
returns-in-Some-clause-err c =
    put_back c.args.logs.now.slots c.take.new.self.slots c.put.new.self.slots c.args.place c.in-Some.kept c.of_disk.result c.in-Some.ensures.taken c.in-Some.ensures.leaves c.put.ensures.leaves
    (subst (λ d. log.Keeps (told c.in-Some.kept) (told_of ((disk.ghosts).content d))) (sym c.of_disk.ensures)
    (subst (λ d. log.Keeps (told_of ((disk.ghosts).content d)) (told_of ((disk.ghosts).content c.in-Err.disk))) c.into_disk-bare.ensures.disk
    (log_then _ _ _ (told_keeps _ _ c.renew.ensures.content) (log_then _ _ _ (told_keeps _ _ c.fused.ensures.content) c.in-Err.ensures.keeps_err))))

pub open-requires-in-None-clause-reopens : goal.open-requires-in-None-clause-reopens
open-requires-in-None-clause-reopens c =
    reopens_kept _ _ c.fused-in-None.ensures.content (c.an_empty_disk_has_no_notes.ensures c.new-in-None-2.result c.new-in-None-2.ensures.content).0

pub returns-in-Ok-open-clause-content : goal.returns-in-Ok-open-clause-content
returns-in-Ok-open-clause-content c =
    subst (λ o. HandsLog told o (told c.in-Ok-open.log)) c.in-None.ensures.taken
    (hands_empty _ _ _ c.new-in-None-2.ensures.content (c.an_empty_disk_has_no_notes.ensures c.new-in-None-2.result c.new-in-None-2.ensures.content).1
    c.fused-in-None.ensures.content c.in-Ok-open.ensures.keeps)

pub returns-clause-err : goal.returns-clause-err
returns-clause-err c = none_back c.args.logs.now.slots c.take.new.self.slots c.args.place c.in-None.ensures.taken c.in-None.ensures.leaves
