use Rattle.std.proofs.Common.{◌∙◌, sym, ap, subst, arith, drop, IsTrue}
use Rattle.meta_log_file.proofs.Spans.{none_from}
use Rattle.meta_log_file.proofs.reading.read.Goals as goal

pub returns-then-from-many-clause-notes : goal.returns-then-from-many-clause-notes
returns-then-from-many-clause-notes g c = λ is_observable.
    let m = g.D.Disk.content c.settle.new.disk in
    let marks = c.settle.new.marks in
    let none = none_from m (g.met.D.Disk.lawful c.settle.new.disk) marks.ends.items marks.tail c.settle.ensures.has c.args.from c.in_ok-settle.ensures.sure (subst IsTrue (sym c.settle.ensures.is_observable) is_observable) (omega (arith, c.if-from-many.true, c.len-many.ensures)) in
    c.new.ensures ∙ sym none ∙ ap (drop c.args.from) c.settle.ensures.notes
