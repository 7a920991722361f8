use Rattle.std.proofs.Common.{◌≡◌, subst, true, refl, ℕ, length, arith}
use Rattle.partition_commands.proofs.FreshDisks.{AreArmed, armed_long, armed_step, armed_made, armed_laid, armed_seen}
use Rattle.partition_commands.proofs.ColdDisks.{armed_cold}
use Rattle.partition_commands.proofs.making.arm.Goals as goal

pub at_mut-requires : goal.at_mut-requires
at_mut-requires g c =
    let long = armed_long g.D.Disk.content g.D.Disk.control c.loop-i.i c.args.nodes.now c.loop-i.nodes c.loop-i.invariant in
    omega (arith, long, c.loop-i-test.true, c.len-i-end.ensures)

pub loop-i-preserved : goal.loop-i-preserved
loop-i-preserved g c =
    armed_step g.D.Disk.content g.D.Disk.control c.loop-i.i c.args.nodes.now c.loop-i.nodes c.at_mut.result.now _ c.loop-i.invariant c.at_mut.ensures.value
    (record { kept = c.arm.new.self; stays = c.arm.ensures.stays; arms = c.arm.ensures.control; is = refl })

pub returns-clause-nodes : goal.returns-clause-nodes
returns-clause-nodes g c = λ disks fresh made.
    let all : c.loop-i.i ≡ length c.args.nodes.now = omega (arith, c.len-i-end.ensures, c.loop-i-test.false, c.loop-i.auto.i-end) in
    armed_made g.D.Disk.content g.D.Disk.control true disks c.args.nodes.now c.loop-i.nodes (subst (λ (n : ℕ). AreArmed g.D.Disk.content g.D.Disk.control n c.args.nodes.now c.loop-i.nodes) all c.loop-i.invariant) fresh made

pub returns-clause-seen : goal.returns-clause-seen
returns-clause-seen g c = λ seen.
    let all : c.loop-i.i ≡ length c.args.nodes.now = omega (arith, c.len-i-end.ensures, c.loop-i-test.false, c.loop-i.auto.i-end) in
    armed_seen g.D.Disk.content g.D.Disk.control c.args.nodes.now c.loop-i.nodes (subst (λ (n : ℕ). AreArmed g.D.Disk.content g.D.Disk.control n c.args.nodes.now c.loop-i.nodes) all c.loop-i.invariant) seen

pub returns-clause-laid : goal.returns-clause-laid
returns-clause-laid g c = λ settings laid.
    let all : c.loop-i.i ≡ length c.args.nodes.now = omega (arith, c.len-i-end.ensures, c.loop-i-test.false, c.loop-i.auto.i-end) in
    armed_laid g.D.Disk.content g.D.Disk.control settings c.args.nodes.now c.loop-i.nodes (subst (λ (n : ℕ). AreArmed g.D.Disk.content g.D.Disk.control n c.args.nodes.now c.loop-i.nodes) all c.loop-i.invariant) laid

pub returns-clause-cold : goal.returns-clause-cold
returns-clause-cold g c = λ settings disks are.
    let all : c.loop-i.i ≡ length c.args.nodes.now = omega (arith, c.len-i-end.ensures, c.loop-i-test.false, c.loop-i.auto.i-end) in
    armed_cold g.D.Disk.content g.D.Disk.control settings disks c.args.nodes.now c.loop-i.nodes are (subst (λ (n : ℕ). AreArmed g.D.Disk.content g.D.Disk.control n c.args.nodes.now c.loop-i.nodes) all c.loop-i.invariant)
