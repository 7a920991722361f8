use Rattle.meta_log_file.proofs.Written.{leaves_started, leaves_on, sure_all, cut_all, cut_exact}
use Rattle.meta_log_file.proofs.writing.shorten.Goals as goal

pub returns-clause-content : goal.returns-clause-content
returns-clause-content g c = λ notes stands sure is.
    let d = g.D.Disk.content c.args.disk.now in
    let m = g.D.Disk.content c.cut.new.self in
    let change = c.cut.ensures.content in
    let all = sure_all d notes c.args.tail stands sure in
    let all_now = cut_all d m notes c.args.end _ is all change in
    record {
      since = leaves_on d d m (g.met.D.Disk.lawful c.cut.new.self) notes change.is_observable (leaves_started d (g.met.D.Disk.lawful c.args.disk.now) notes all) change.time all_now;
      images = all_now;
      exact = λ went. cut_exact d m (g.met.D.Disk.lawful c.args.disk.now) notes c.args.end _ is all (λ done may. may.went went) change;
    }
