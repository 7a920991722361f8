use Rattle.std.proofs.Common.{◌∙◌, ap, subst, ℕ, List}
use Rattle.tier_base.specs.Told.{bytes_in}
use Rattle.meta_log_file.specs.Ends.{start_of}
use Rattle.meta_log_file.specs.Reading.{ReadsSpan}
use Rattle.meta_log_file.proofs.Spans.{span_of, span_notes, span_reads, told_rules}
use Rattle.meta_log_file.proofs.reading.read_from.Goals as goal

pub returns-in-Some-clause-notes : goal.returns-in-Some-clause-notes
returns-in-Some-clause-notes g c = λ is_observable.
    let d = g.D.Disk.content c.args.disk.now in
    let marks = c.args.marks.now in
    let at_is = c.start_of-at.ensures ∙ ap (λ (l : List ℕ). start_of l c.args.from) c.deref.ensures.value in
    let s = span_of d (g.met.D.Disk.lawful c.args.disk.now) marks.ends.items marks.tail c.requires.has c.args.from c.start_of-at.result c.end-end.result c.saturating_sub-size.result c.requires.sure is_observable c.requires.within at_is c.end-end.ensures c.saturating_sub-size.ensures in
    let read = subst (ReadsSpan c.saturating_sub-size.result (bytes_in c.in_ok-file.file)) c.in-Some.is c.in_ok-notes.ensures in
    span_notes d c.args.from c.start_of-at.result c.saturating_sub-size.result c.in_ok-file.file c.in-Some.notes s (c.in_ok-file.ensures.bytes is_observable) read

pub returns-in-Some-clause-rules : goal.returns-in-Some-clause-rules
returns-in-Some-clause-rules g c =
    let read = subst (ReadsSpan c.saturating_sub-size.result (bytes_in c.in_ok-file.file)) c.in-Some.is c.in_ok-notes.ensures in
    told_rules c.in-Some.notes read.0

pub returns-clause-told_cause : goal.returns-clause-told_cause
returns-clause-told_cause g c = λ fault is_observable.
    let d = g.D.Disk.content c.args.disk.now in
    let marks = c.args.marks.now in
    let at_is = c.start_of-at.ensures ∙ ap (λ (l : List ℕ). start_of l c.args.from) c.deref.ensures.value in
    let s = span_of d (g.met.D.Disk.lawful c.args.disk.now) marks.ends.items marks.tail c.requires.has c.args.from c.start_of-at.result c.end-end.result c.saturating_sub-size.result c.requires.sure is_observable c.requires.within at_is c.end-end.ensures c.saturating_sub-size.ensures in
    let read = subst (ReadsSpan c.saturating_sub-size.result (bytes_in c.in_ok-file.file)) c.in-None.is c.in_ok-notes.ensures in
    absurd (span_reads d c.args.from c.start_of-at.result c.saturating_sub-size.result c.in_ok-file.file s (c.in_ok-file.ensures.bytes is_observable) read)
