use Rattle.std.proofs.lemmas.Result.{IfErr-weaker}
use Rattle.tier_base.specs.declared.plain.FileName.TheVariants as file
use Rattle.local_log.proofs.Planned.{plan_fails, whole_held}
use Rattle.local_log.proofs.opening.plan_on.Goals as goal

pub returns-clause-place : goal.returns-clause-place
returns-clause-place g c =
    let d = g.D.Disk.content c.args.disk.now in
    IfErr-weaker c.plan_of.result _ _
    (λ why fails t. plan_fails d.files c.in_ok-file.file why (whole_held (d.files file.Manifest) c.in_ok-file.file (c.in_ok-file.ensures.bytes t)) fails)
    c.plan_of.ensures.err
