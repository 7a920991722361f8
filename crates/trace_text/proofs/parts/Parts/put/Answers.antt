use Rattle.std.proofs.Common.{◌∙◌, ap, refl, List, ◌∷◌, [], ◌++◌, arith}
use Rattle.plain_log.specs.declared.journal.JournalEntry.{JournalEntry}
use Rattle.trace_text.proofs.Grown.{put-same, put-new, put-not}
use Rattle.trace_text.proofs.parts.Parts.put.Goals as goal

pub returns-then-line-last : goal.returns-then-line-last
returns-then-line-last c = put-not c.args.self.now c.args.line c.in-Some.last c.in-Some.is c.if-line-last.true

pub returns-then-line-last-2 : goal.returns-then-line-last-2
returns-then-line-last-2 c =
    put-same c.args.self.now _ c.args.line c.in-Some.last c.in-Some.is c.if-line-last-2.true refl refl
    (c.put.ensures.items ∙ ap (λ (t : List JournalEntry). t ++ c.args.line.entry ∷ []) c.reserve.ensures.items)

pub returns : goal.returns
returns c =
    put-new c.args.self.now c.begin-2.new.self c.args.line c.in-Some.last
    (record { partition = c.in-Some.last; journal = c.replace-journal.result }) c.in-Some.is
    (omega (arith, c.if-line-last.false, c.if-line-last-2.false))
    (rw c.replace-journal.ensures.value refl)
    (c.in_ok-begin-2.ensures.done ∙ c.in_ok-push.ensures.ok) c.in_ok-begin-2.ensures.last c.in_ok-begin-2.ensures.entries
