use Rattle.disk_model.proofs.Steps.{crash_content}
use Rattle.disk_model.proofs.memory_disk.MemoryDisk.crash.Goals as goal

pub returns-clause-content : goal.returns-clause-content
returns-clause-content c = crash_content c.args.self.now.history.past c.crash.new.self.past c.crash.ensures.past
