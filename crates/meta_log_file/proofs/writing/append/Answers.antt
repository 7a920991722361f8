use Rattle.meta_log_file.specs.Told.{notes_told}
use Rattle.meta_log_file.proofs.Chaining.{appending_through}
use Rattle.meta_log_file.proofs.Fates.{err_not_went}
use Rattle.meta_log_file.proofs.Leaving.{like_left, grows_left, grows_behind}
use Rattle.meta_log_file.proofs.writing.append.Goals as goal

pub returns-clause-since : goal.returns-clause-since
returns-clause-since g c =
    let d = g.D.Disk.content c.args.disk.now in
    let m = g.D.Disk.content c.settle.new.disk in
    appending_through d m (g.D.Disk.content c.put.new.disk) (notes_told d) (notes_told m) c.args.note.now (g.met.D.Disk.lawful c.settle.new.disk) c.settle.ensures.notes c.settle.ensures.since c.put.ensures.since

pub returns-in_err-settle-clause-content : goal.returns-in_err-settle-clause-content
returns-in_err-settle-clause-content g c =
    let d = g.D.Disk.content c.args.disk.now in
    let m = g.D.Disk.content c.settle.new.disk in
    grows_left d m c.args.note.now _ (err_not_went c.from_residual.result search) c.settle.ensures.is_observable c.settle.ensures.notes (like_left d m (g.met.D.Disk.lawful c.settle.new.disk) c.settle.ensures.since c.settle.ensures.notes)

pub returns-clause-content : goal.returns-clause-content
returns-clause-content g c =
    let d = g.D.Disk.content c.args.disk.now in
    let m = g.D.Disk.content c.settle.new.disk in
    grows_behind d m (g.D.Disk.content c.put.new.disk) c.args.note.now _ c.settle.ensures.is_observable c.settle.ensures.notes
    (like_left d m (g.met.D.Disk.lawful c.settle.new.disk) c.settle.ensures.since c.settle.ensures.notes) c.put.ensures.content
