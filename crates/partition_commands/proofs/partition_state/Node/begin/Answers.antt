use Rattle.std.proofs.Common.{◌≡◌, ◌∙◌, ap, ℕ, List, []}
use Rattle.std.specs.Prelude.{Option, unwrap_or, Err}
use Rattle.epoch_line.specs.Line.{assign}
use Rattle.log_terms.specs.Log.{end_of}
use Rattle.broker_log.specs.Seen.{LogSeen}
use Rattle.broker_log.specs.Effects.{settled, loosened}
use Rattle.partition_commands.specs.Partition.{line_of}
use Rattle.partition_commands.proofs.FreshLeft.{empty_is, entered_is, loosened_is, enters_by}
use Rattle.partition_commands.proofs.partition_state.Node.begin.Goals as goal

pub returns-in-Ok-clause-leaves : goal.returns-in-Ok-clause-leaves
returns-in-Ok-clause-leaves g c = λ shows.
    let line : line_of c.args.self.now ≡ [] = ap (λ (o : Option (List (ℕ × ℕ))). unwrap_or o []) c.requires.line_is in
    let done = c.in-Ok.ensures.ok in
    enters_by g.D.Disk.content (λ s. settled s (assign s.line 0 (end_of s.batches))) c.args.self.now.log c.lead.new.self (line_of c.args.self.now) line shows done.seen entered_is done.between c.reopens.ensures c.reopens-in-Ok.ensures

pub returns-in-Err-Failed-clause-leaves : goal.returns-in-Err-Failed-clause-leaves
returns-in-Err-Failed-clause-leaves g c = λ shows.
    let line : line_of c.args.self.now ≡ [] = ap (λ (o : Option (List (ℕ × ℕ))). unwrap_or o []) c.requires.line_is in
    let broken = c.lead.ensures.fault (c.in-Err-Failed.is ∙ ap Err c.in-Err-Failed.field-0-is) in
    enters_by g.D.Disk.content (λ s. loosened s (end_of s.batches, assign s.line 0 (end_of s.batches), s.local)) c.args.self.now.log c.lead.new.self (line_of c.args.self.now) line shows broken.seen loosened_is broken.between c.reopens.ensures (λ up. absurd (let down = broken.down in cc))

pub returns-in-Err-NoMemory-clause-leaves : goal.returns-in-Err-NoMemory-clause-leaves
returns-in-Err-NoMemory-clause-leaves g c = λ shows.
    let line : line_of c.args.self.now ≡ [] = ap (λ (o : Option (List (ℕ × ℕ))). unwrap_or o []) c.requires.line_is in
    let stays = c.lead.ensures.no_memory (c.in-Err-NoMemory.is ∙ ap Err c.in-Err-NoMemory.field-0-is) in
    enters_by g.D.Disk.content (λ s. s) c.args.self.now.log c.lead.new.self (line_of c.args.self.now) line shows stays.seen empty_is stays.between c.reopens.ensures c.reopens-in-Err-NoMemory.ensures
