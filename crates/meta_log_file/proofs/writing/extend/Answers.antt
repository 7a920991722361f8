use Rattle.std.proofs.Common.{◌∙◌, refl}
use Rattle.meta_log_file.proofs.Fates.{err_not_went}
use Rattle.meta_log_file.proofs.Written.{leaves_on, keeps_all, append_all, synced_front, append_exact, ends_kept, extends_not}
use Rattle.meta_log_file.proofs.writing.extend.Goals as goal

pub returns-in_err-append-clause-content : goal.returns-in_err-append-clause-content
returns-in_err-append-clause-content g c = λ notes note stands sure is framed_is.
    let d = g.D.Disk.content c.args.disk.now in
    let m = g.D.Disk.content c.shorten.new.disk in
    let n = g.D.Disk.content c.append.new.self in
    let short = c.in_ok-shorten.ensures.content notes stands sure is in
    let change = c.append.ensures.content in
    let all = append_all m n notes c.args.bytes.now _ short.images change in
    extends_not notes note _ d n
    (leaves_on d m n (g.met.D.Disk.lawful c.append.new.self) notes (change.is_observable ∙ c.shorten.ensures.is_observable) short.since change.time all)
    all (err_not_went c.from_residual-in_err-append.result c.from_residual-in_err-append.ensures.0)

pub returns-in_err-sync_notes-clause-content : goal.returns-in_err-sync_notes-clause-content
returns-in_err-sync_notes-clause-content g c = λ notes note stands sure is framed_is.
    let d = g.D.Disk.content c.args.disk.now in
    let m = g.D.Disk.content c.shorten.new.disk in
    let n = g.D.Disk.content c.append.new.self in
    let s = g.D.Disk.content c.sync_notes.new.disk in
    let short = c.in_ok-shorten.ensures.content notes stands sure is in
    let change = c.append.ensures.content in
    let keeps = c.sync_notes.ensures.content in
    let all = append_all m n notes c.args.bytes.now _ short.images change in
    let all_now = keeps_all n s notes keeps all in
    extends_not notes note _ d s
    (leaves_on d n s (g.met.D.Disk.lawful c.sync_notes.new.disk) notes (keeps.is_observable ∙ change.is_observable ∙ c.shorten.ensures.is_observable)
    (leaves_on d m n (g.met.D.Disk.lawful c.append.new.self) notes (change.is_observable ∙ c.shorten.ensures.is_observable) short.since change.time all) keeps.time all_now)
    all_now (err_not_went c.from_residual-in_err-sync_notes.result c.from_residual-in_err-sync_notes.ensures.0)

pub returns-clause-content : goal.returns-clause-content
returns-clause-content g c = λ notes note stands sure is framed_is.
    let d = g.D.Disk.content c.args.disk.now in
    let m = g.D.Disk.content c.shorten.new.disk in
    let n = g.D.Disk.content c.append.new.self in
    let s = g.D.Disk.content c.sync_notes.new.disk in
    let short = c.in_ok-shorten.ensures.content notes stands sure is in
    let change = c.in_ok-append.ensures.content in
    let keeps = c.in_ok-sync_notes.ensures.content in
    let all = append_all m n notes c.args.bytes.now _ short.images change in
    let all_now = keeps_all n s notes keeps all in
    record {
      since = leaves_on d n s (g.met.D.Disk.lawful c.sync_notes.new.disk) notes (keeps.is_observable ∙ change.is_observable ∙ c.shorten.ensures.is_observable)
          (leaves_on d m n (g.met.D.Disk.lawful c.append.new.self) notes (change.is_observable ∙ c.shorten.ensures.is_observable) short.since change.time all) keeps.time all_now;
      images = all_now;
      stays = λ went. synced_front m n s (g.met.D.Disk.lawful c.sync_notes.new.disk) notes note c.args.bytes.now _ (short.exact refl) framed_is (λ done may. may.went refl) change keeps c.in_ok-sync_notes.ensures.durable;
      exact = λ went. ends_kept n s _ keeps (append_exact m n notes note c.args.bytes.now _ (short.exact refl) framed_is (λ done may. may.went refl) change);
    }
