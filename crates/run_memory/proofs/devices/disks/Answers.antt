use Rattle.std.proofs.Common.{◌≡◌, ◌∙◌, ap, sym, subst, ℕ, List, [], ◌∷◌, ◌++◌, length, arith}
use Rattle.disk_model.specs.declared.memory_disk.MemoryDisk.{MemoryDisk}
use Rattle.partition_commands.specs.Fresh.{AreFreshDisks, DisksTell}
use Rattle.partition_commands.proofs.FreshNodes.{length_more}
use Rattle.run_memory.specs.Plans.{disk_plan, ArePlanned}
use Rattle.run_memory.proofs.MemoryDevices.{content, control, fresh_more, tell_more, planned_more}
use Rattle.run_memory.proofs.devices.disks.Goals as goal

pub loop-broker-init : goal.loop-broker-init
loop-broker-init c =
    let none : c.new-disks.result.items ≡ [] = c.new-disks.ensures.items in
    record {
      count = ap (λ (l : List MemoryDisk). length l) none;
      fresh = subst (λ (l : List MemoryDisk). AreFreshDisks content control l) (sym none) tt;
      told = subst (λ (l : List MemoryDisk). DisksTell content l) (sym none) tt;
      planned = subst (λ (l : List MemoryDisk). ArePlanned control c.args.faults.now 0 l) (sym none) tt;
    }

pub loop-broker-preserved : goal.loop-broker-preserved
loop-broker-preserved c =
    let was = c.loop-broker.invariant in
    let disk : MemoryDisk = c.new.result in
    let made = c.new.ensures in
    let more : c.push.new.self.items ≡ c.loop-broker.disks.items ++ disk ∷ [] = c.in_ok-push.ensures.items in
    record {
      count = (let one = ap (λ (l : List MemoryDisk). length l) more ∙ length_more c.loop-broker.disks.items disk in omega (arith, one, was.count));
      fresh = subst (λ (l : List MemoryDisk). AreFreshDisks content control l) (sym more) (fresh_more c.loop-broker.disks.items disk was.fresh (record {
        empty = λ t n. made.content.files n;
        unarmed = made.fresh.armed;
        unmade = made.fresh.made;
      }));
      told = subst (λ (l : List MemoryDisk). DisksTell content l) (sym more) (tell_more c.loop-broker.disks.items disk was.told made.content.is_observable);
      planned = subst (λ (l : List MemoryDisk). ArePlanned control c.args.faults.now 0 l) (sym more) (planned_more c.args.faults.now 0 c.loop-broker.disks.items disk was.planned (record {
        fresh = made.fresh;
        plan_is = made.plan ∙ c.in_ok-plan.ensures ∙ ap (λ (b : ℕ). disk_plan b c.args.faults.now) (omega (arith, was.count));
        scripted = made.scripted;
        infallible = made.infallible;
      }));
    }

pub returns-clause-count : goal.returns-clause-count
returns-clause-count c = omega (arith, c.loop-broker.invariant.count, c.loop-broker.auto.broker-end, c.loop-broker-test.false)

pub returns-clause-fresh : goal.returns-clause-fresh
returns-clause-fresh c = c.loop-broker.invariant.fresh

pub returns-clause-planned : goal.returns-clause-planned
returns-clause-planned c = c.loop-broker.invariant.planned

pub returns-clause-told : goal.returns-clause-told
returns-clause-told c = c.loop-broker.invariant.told
