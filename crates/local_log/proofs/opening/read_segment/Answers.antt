use Rattle.std.proofs.Common.{ℕ, List, sym, subst, ◌≡◌, IsTrue}
use Rattle.std.proofs.lemmas.Result.{IfOk-weaker, IfErr-weaker}
use Rattle.tier_base.specs.declared.plain.FileName.TheVariants as file
use Rattle.tier_base.specs.Told.{bytes_in}
use Rattle.log_steps.specs.Fronts.{log_at}
use Rattle.local_log.specs.Stored.{end_of}
use Rattle.local_log.specs.Opening.{SegmentFails, ReadsTo}
use Rattle.local_log.proofs.SegmentsRead.{reads_to, parse_fails, whole_file, read_of, parse_sound}
use Rattle.local_log.proofs.opening.read_segment.Goals as goal

pub returns-clause-read : goal.returns-clause-read
returns-clause-read g c =
    let d = g.D.Disk.content c.args.disk.now in
    let e = c.args.extent in
    let told : IsTrue d.is_observable → bytes_in c.in_ok-file.file ≡ log_at d.files e = λ t. whole_file (d.files (file.Log e.base)) c.in_ok-file.file (c.in_ok-file.ensures.bytes t) in
    IfOk-weaker c.parse_file.result _ _
    (λ segment p. read_of d c.args.line.now c.args.interval c.args.end e (bytes_in c.in_ok-file.file) segment c.requires.base c.requires.small c.if-extent-end.false told p)
    c.parse_file.ensures.ok

pub returns-clause-sound : goal.returns-clause-sound
returns-clause-sound g c =
    let d = g.D.Disk.content c.args.disk.now in
    let e = c.args.extent in
    let told : IsTrue d.is_observable → bytes_in c.in_ok-file.file ≡ log_at d.files e = λ t. whole_file (d.files (file.Log e.base)) c.in_ok-file.file (c.in_ok-file.ensures.bytes t) in
    IfErr-weaker c.parse_file.result _ _
    (λ why fails t begins batches s. parse_sound d.files c.args.line.now e (bytes_in c.in_ok-file.file) batches why fails (told t) s)
    c.parse_file.ensures.err

pub returns-clause-last_read : goal.returns-clause-last_read
returns-clause-last_read g c =
    let e = c.args.extent in
    let last_read = (g.D.Disk.control c.read.new.self).last_read in
    IfOk-weaker c.parse_file.result _ _
    (λ segment p. subst (λ (l : List ℕ). ReadsTo c.args.line.now e l (end_of segment)) (sym c.in_ok-file.ensures.last_read)
    (reads_to c.args.line.now c.args.interval e (bytes_in c.in_ok-file.file) segment p))
    c.parse_file.ensures.ok

pub returns-clause-err : goal.returns-clause-err
returns-clause-err g c =
    let e = c.args.extent in
    IfErr-weaker c.parse_file.result _ _
    (λ why fails. subst (λ (l : List ℕ). SegmentFails c.args.line.now c.args.end e l why) (sym c.in_ok-file.ensures.last_read)
    (parse_fails c.args.line.now c.args.end e (bytes_in c.in_ok-file.file) why c.if-extent-end.false fails))
    c.parse_file.ensures.err

pub returns-clause-place : goal.returns-clause-place
returns-clause-place g c =
    let d = g.D.Disk.content c.args.disk.now in
    let e = c.args.extent in
    let told : IsTrue d.is_observable → bytes_in c.in_ok-file.file ≡ log_at d.files e = λ t. whole_file (d.files (file.Log e.base)) c.in_ok-file.file (c.in_ok-file.ensures.bytes t) in
    IfErr-weaker c.parse_file.result _ _
    (λ why fails t. subst (λ (l : List ℕ). SegmentFails c.args.line.now c.args.end e l why) (told t)
    (parse_fails c.args.line.now c.args.end e (bytes_in c.in_ok-file.file) why c.if-extent-end.false fails))
    c.parse_file.ensures.err
