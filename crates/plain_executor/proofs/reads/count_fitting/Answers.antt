use Rattle.std.proofs.Common.{◌≡◌, ◌∙◌, ap, sym, ℕ, List, ◌+◌, ◌-◌, ◌++◌, take, drop, length, arith}
use Rattle.std.proofs.lemmas.List.{append-nil}
use Rattle.plain_log.specs.Fetch.{fitting}
use Rattle.plain_executor.proofs.Room.{fitting_none, fitting_more}
use Rattle.plain_executor.proofs.reads.count_fitting.Goals as goal

pub returns-then-left-size-clause-is : goal.returns-then-left-size-clause-is
returns-then-left-size-clause-is c =
    let log = c.args.log.now in
    let none = fitting_none c.loop-i.left log c.loop-i.i c.get.result.now c.get.ensures (omega arith) in
    c.loop-i.invariant
    ∙ (ap (λ (zs : List (List ℕ)). take c.loop-i.i log ++ zs) none ∙ append-nil (take c.loop-i.i log))

pub loop-i-preserved : goal.loop-i-preserved
loop-i-preserved c =
    let log = c.args.log.now in
    let size : c.len-size.result ≡ length c.get.result.now = omega arith in
    let more = fitting_more c.loop-i.left log c.loop-i.i c.get.result.now c.get.ensures (omega arith) in
    c.loop-i.invariant
    ∙ (more ∙ ap (λ (k : ℕ). take (c.loop-i.i + 1) log ++ fitting (c.loop-i.left - k) (drop (c.loop-i.i + 1) log)) (sym size))
