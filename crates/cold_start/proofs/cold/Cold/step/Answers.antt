use Rattle.std.proofs.Common.{◌≡◌, ◌∙◌, true, false, sym, ap, subst, refl}
use Rattle.std.specs.Prelude.{Err, IsTrue}
use Rattle.registry.specs.View.{view_of}
use Rattle.registry.specs.declared.registry.Registry.{Registry}
use Rattle.registry_disk.specs.Keeping.{KeepsFile, KeepsOneOf}
use Rattle.partition_world.specs.Later.{IsLater}
use Rattle.partition_world.proofs.LaterLaw.{step_later}
use Rattle.cold_start.specs.Running.{Running}
use Rattle.cold_start.specs.Moments.{LeavesDuring}
use Rattle.cold_start.specs.Stands.{LeavesOneOf}
use Rattle.cold_start.specs.Stepping.{Ends}
use Rattle.cold_start.specs.declared.refusal.ColdRefusal.{ColdRefusal}
use Rattle.cold_start.proofs.Causes.{registry_only, registry_failed, registry_dry}
use Rattle.cold_start.proofs.During.{during_quiet, during_replaced}
use Rattle.cold_start.proofs.Leaving.{left_cold, left_either}
use Rattle.cold_start.proofs.Stepping.{one_registry, one_of_two, dry_keeps, other_devices, as_many, some_few}
use Rattle.cold_start.proofs.cold.Cold.step.Goals as goal

pub returns-then-is_of-clause-later : goal.returns-then-is_of-clause-later
returns-then-is_of-clause-later g c =
    let P : Running g.row.D.Denot g.row.S.Denot g.row.M.Denot → Type 0 = λ t. IsLater g.D.Disk g.S.Store g.M.MetaLog t.world c.step-stepped.new.self in
    subst P c.self.view_is (step_later g.D.Disk g.S.Store g.M.MetaLog c.self.inside.world c.args.actor.0 c.step-stepped.result c.step-stepped.new.self c.step-stepped.ensures.steps c.step-stepped.ensures.central)

pub returns-in-Ok-clause-later : goal.returns-in-Ok-clause-later
returns-in-Ok-clause-later g c =
    let P : Running g.row.D.Denot g.row.S.Denot g.row.M.Denot → Type 0 = λ t. IsLater g.D.Disk g.S.Store g.M.MetaLog t.world c.step-stepped.new.self in
    subst P c.self.view_is (step_later g.D.Disk g.S.Store g.M.MetaLog c.self.inside.world c.args.actor.0 c.step-stepped.result c.step-stepped.new.self c.step-stepped.ensures.steps c.step-stepped.ensures.central)

pub returns-in-Err-clause-later : goal.returns-in-Err-clause-later
returns-in-Err-clause-later g c =
    let P : Running g.row.D.Denot g.row.S.Denot g.row.M.Denot → Type 0 = λ t. IsLater g.D.Disk g.S.Store g.M.MetaLog t.world c.step-stepped.new.self in
    subst P c.self.view_is (step_later g.D.Disk g.S.Store g.M.MetaLog c.self.inside.world c.args.actor.0 c.step-stepped.result c.step-stepped.new.self c.step-stepped.ensures.steps c.step-stepped.ensures.central)

pub returns-then-is_of-clause-cold : goal.returns-then-is_of-clause-cold
returns-then-is_of-clause-cold g c = λ told opening.
    let going : c.self.inside.ended ≡ false = ap (λ (t : Running g.row.D.Denot g.row.S.Denot g.row.M.Denot). t.ended) c.self.view_is ∙ c.requires in
    let views : view_of c.step-stepped.new.self.partition_state.registry ≡ view_of c.self.inside.world.partition_state.registry = ap view_of (sym c.registry-2.ensures) ∙ (c.is_of.ensures.0 c.if-is_of.true ∙ (c.get-before.ensures ∙ ap view_of c.registry.ensures)) in
    let same = one_registry c.file_laws.ensures c.self.inside.world.partition_state.registry c.step-stepped.new.self.partition_state.registry views in
    let kept = subst (λ (r : Registry). KeepsFile (g.D.Disk.content c.self.inside.reg) r) (sym same) (c.self.invariant.file going) in
    let same_count = as_many c.self.inside.world c.step-stepped.new.self (c.a_step_changes_the_registry_or_a_device.ensures c.self.inside.world c.args.actor.0 c.step-stepped.result c.step-stepped.new.self c.step-stepped.ensures.steps) in
    let many = some_few c.self.inside.world c.step-stepped.new.self same_count c.self.invariant.some c.self.invariant.few in
    left_cold c.file_laws.ensures g.D.Disk g.S.Store g.M.MetaLog g.met.D.Disk.lawful opening c.step-stepped.new.self c.self.inside.reg told kept many.0 many.1

pub returns-in-Ok-clause-cold : goal.returns-in-Ok-clause-cold
returns-in-Ok-clause-cold g c = λ told opening.
    let kept = subst (λ (r : Registry). KeepsFile (g.D.Disk.content c.keep_registry.new.disk) r) c.registry-3.ensures c.in-Ok.ensures.kept in
    let same_count = as_many c.self.inside.world c.step-stepped.new.self (c.a_step_changes_the_registry_or_a_device.ensures c.self.inside.world c.args.actor.0 c.step-stepped.result c.step-stepped.new.self c.step-stepped.ensures.steps) in
    let many = some_few c.self.inside.world c.step-stepped.new.self same_count c.self.invariant.some c.self.invariant.few in
    left_cold c.file_laws.ensures g.D.Disk g.S.Store g.M.MetaLog g.met.D.Disk.lawful opening c.step-stepped.new.self c.keep_registry.new.disk told kept many.0 many.1

pub returns-in-Err-clause-err : goal.returns-in-Err-clause-err
returns-in-Err-clause-err g c =
    let going : c.self.inside.ended ≡ false = ap (λ (t : Running g.row.D.Denot g.row.S.Denot g.row.M.Denot). t.ended) c.self.view_is ∙ c.requires in
    let other : (view_of c.step-stepped.new.self.partition_state.registry ≡ view_of c.self.inside.world.partition_state.registry → ⊥) = λ e. (let yes = c.is_of.ensures.1 (ap view_of c.registry-2.ensures ∙ (e ∙ sym (c.get-before.ensures ∙ ap view_of c.registry.ensures))) in let no = c.if-is_of.false in absurd (cc (yes, no))) in
    let devices = other_devices c.self.inside.world c.step-stepped.new.self (c.a_step_changes_the_registry_or_a_device.ensures c.self.inside.world c.args.actor.0 c.step-stepped.result c.step-stepped.new.self c.step-stepped.ensures.steps) other in
    let file = subst (λ (r : Registry). KeepsOneOf (g.D.Disk.content c.keep_registry.new.disk) c.self.inside.world.partition_state.registry r) c.registry-3.ensures
    (one_of_two (g.D.Disk.content c.self.inside.reg) (g.D.Disk.content c.keep_registry.new.disk) c.self.inside.world.partition_state.registry c.registry-3.result.now (c.self.invariant.file going) c.in-Err.ensures.content) in
    let P : Running g.row.D.Denot g.row.S.Denot g.row.M.Denot → ColdRefusal → Type 0 = λ t why. Ends g.D.Disk t.reg t.world (record { world = c.step-stepped.new.self; reg = c.keep_registry.new.disk; ended = true }) why in
    subst (λ (t : Running g.row.D.Denot g.row.S.Denot g.row.M.Denot). P t c.registry_refusal.result) c.self.view_is
    (subst (λ (why : ColdRefusal). P (record { world = c.self.inside.world; reg = c.self.inside.reg; ended = c.self.inside.ended }) why) (sym c.registry_refusal.ensures)
    (record {
      ended = refl;
      devices = devices;
      file = file;
      dry = λ is. dry_keeps (g.D.Disk.content c.self.inside.reg) (g.D.Disk.content c.keep_registry.new.disk) c.self.inside.world.partition_state.registry (c.self.invariant.file going) (c.in-Err.ensures.dry (ap Err (registry_dry c.in-Err.why is)));
      cause = λ is. c.in-Err.ensures.fault (ap Err (registry_failed c.in-Err.why is));
      only = registry_only c.in-Err.why;
    }))

pub returns-in-Err-clause-either : goal.returns-in-Err-clause-either
returns-in-Err-clause-either g c = λ told opening.
    let going : c.self.inside.ended ≡ false = ap (λ (t : Running g.row.D.Denot g.row.S.Denot g.row.M.Denot). t.ended) c.self.view_is ∙ c.requires in
    let other : (view_of c.step-stepped.new.self.partition_state.registry ≡ view_of c.self.inside.world.partition_state.registry → ⊥) = λ e. (let yes = c.is_of.ensures.1 (ap view_of c.registry-2.ensures ∙ (e ∙ sym (c.get-before.ensures ∙ ap view_of c.registry.ensures))) in let no = c.if-is_of.false in absurd (cc (yes, no))) in
    let devices = other_devices c.self.inside.world c.step-stepped.new.self (c.a_step_changes_the_registry_or_a_device.ensures c.self.inside.world c.args.actor.0 c.step-stepped.result c.step-stepped.new.self c.step-stepped.ensures.steps) other in
    let file = subst (λ (r : Registry). KeepsOneOf (g.D.Disk.content c.keep_registry.new.disk) c.self.inside.world.partition_state.registry r) c.registry-3.ensures
    (one_of_two (g.D.Disk.content c.self.inside.reg) (g.D.Disk.content c.keep_registry.new.disk) c.self.inside.world.partition_state.registry c.registry-3.result.now (c.self.invariant.file going) c.in-Err.ensures.content) in
    let later = step_later g.D.Disk g.S.Store g.M.MetaLog c.self.inside.world c.args.actor.0 c.step-stepped.result c.step-stepped.new.self c.step-stepped.ensures.steps c.step-stepped.ensures.central in
    let same_count = as_many c.self.inside.world c.step-stepped.new.self (c.a_step_changes_the_registry_or_a_device.ensures c.self.inside.world c.args.actor.0 c.step-stepped.result c.step-stepped.new.self c.step-stepped.ensures.steps) in
    let many = some_few c.self.inside.world c.step-stepped.new.self same_count c.self.invariant.some c.self.invariant.few in
    let P : Running g.row.D.Denot g.row.S.Denot g.row.M.Denot → Type 0 = λ t. LeavesOneOf g.D.Disk g.S.Store g.M.MetaLog opening t.world c.step-stepped.new.self c.keep_registry.new.disk in
    subst P c.self.view_is
    (left_either c.file_laws.ensures g.D.Disk g.S.Store g.M.MetaLog g.met.D.Disk.lawful opening c.self.inside.world c.step-stepped.new.self c.keep_registry.new.disk told file devices later.partition
    c.self.invariant.some c.self.invariant.few many.0 many.1)

pub returns-then-is_of-clause-during : goal.returns-then-is_of-clause-during
returns-then-is_of-clause-during g c = λ told opening.
    let content = g.D.Disk.content in
    let going : c.self.inside.ended ≡ false = ap (λ (t : Running g.row.D.Denot g.row.S.Denot g.row.M.Denot). t.ended) c.self.view_is ∙ c.requires in
    let views : view_of c.step-stepped.new.self.partition_state.registry ≡ view_of c.self.inside.world.partition_state.registry = ap view_of (sym c.registry-2.ensures) ∙ (c.is_of.ensures.0 c.if-is_of.true ∙ (c.get-before.ensures ∙ ap view_of c.registry.ensures)) in
    let same = one_registry c.file_laws.ensures c.self.inside.world.partition_state.registry c.step-stepped.new.self.partition_state.registry views in
    let later = step_later g.D.Disk g.S.Store g.M.MetaLog c.self.inside.world c.args.actor.0 c.step-stepped.result c.step-stepped.new.self c.step-stepped.ensures.steps c.step-stepped.ensures.central in
    let same_count = as_many c.self.inside.world c.step-stepped.new.self (c.a_step_changes_the_registry_or_a_device.ensures c.self.inside.world c.args.actor.0 c.step-stepped.result c.step-stepped.new.self c.step-stepped.ensures.steps) in
    let many = some_few c.self.inside.world c.step-stepped.new.self same_count c.self.invariant.some c.self.invariant.few in
    let works = c.a_step_works_on_one_device.ensures c.self.inside.world c.args.actor.0 c.step-stepped.result c.step-stepped.new.self c.step-stepped.ensures.steps in
    let P : Running g.row.D.Denot g.row.S.Denot g.row.M.Denot → Type 0 = λ t. IsTrue (content t.reg).is_observable → LeavesDuring g.D.Disk g.S.Store g.M.MetaLog opening t.world t.reg c.step-stepped.new.self c.self.inside.reg in
    subst P c.self.view_is
    (λ yes. during_quiet c.file_laws.ensures g.D.Disk g.S.Store g.M.MetaLog g.met.D.Disk.lawful opening c.self.inside.world c.step-stepped.new.self c.self.inside.reg c.self.inside.reg yes later.partition
    c.self.invariant.some c.self.invariant.few many.0 many.1 c.reopens.ensures.disks works same (c.self.invariant.file going) refl)
    told

pub returns-in-Ok-clause-during : goal.returns-in-Ok-clause-during
returns-in-Ok-clause-during g c = λ told opening.
    let content = g.D.Disk.content in
    let going : c.self.inside.ended ≡ false = ap (λ (t : Running g.row.D.Denot g.row.S.Denot g.row.M.Denot). t.ended) c.self.view_is ∙ c.requires in
    let other : (view_of c.step-stepped.new.self.partition_state.registry ≡ view_of c.self.inside.world.partition_state.registry → ⊥) = λ e. (let yes = c.is_of.ensures.1 (ap view_of c.registry-2.ensures ∙ (e ∙ sym (c.get-before.ensures ∙ ap view_of c.registry.ensures))) in let no = c.if-is_of.false in absurd (cc (yes, no))) in
    let devices = other_devices c.self.inside.world c.step-stepped.new.self (c.a_step_changes_the_registry_or_a_device.ensures c.self.inside.world c.args.actor.0 c.step-stepped.result c.step-stepped.new.self c.step-stepped.ensures.steps) other in
    let file = subst (λ (r : Registry). KeepsOneOf (content c.keep_registry.new.disk) c.self.inside.world.partition_state.registry r) c.registry-3.ensures
    (one_of_two (content c.self.inside.reg) (content c.keep_registry.new.disk) c.self.inside.world.partition_state.registry c.registry-3.result.now (c.self.invariant.file going) c.in-Ok.ensures.content) in
    let later = step_later g.D.Disk g.S.Store g.M.MetaLog c.self.inside.world c.args.actor.0 c.step-stepped.result c.step-stepped.new.self c.step-stepped.ensures.steps c.step-stepped.ensures.central in
    let same_count = as_many c.self.inside.world c.step-stepped.new.self (c.a_step_changes_the_registry_or_a_device.ensures c.self.inside.world c.args.actor.0 c.step-stepped.result c.step-stepped.new.self c.step-stepped.ensures.steps) in
    let many = some_few c.self.inside.world c.step-stepped.new.self same_count c.self.invariant.some c.self.invariant.few in
    let P : Running g.row.D.Denot g.row.S.Denot g.row.M.Denot → Type 0 = λ t. IsTrue (content t.reg).is_observable → LeavesDuring g.D.Disk g.S.Store g.M.MetaLog opening t.world t.reg c.step-stepped.new.self c.keep_registry.new.disk in
    subst P c.self.view_is
    (λ yes. during_replaced c.file_laws.ensures g.D.Disk g.S.Store g.M.MetaLog g.met.D.Disk.lawful opening c.self.inside.world c.step-stepped.new.self c.self.inside.reg c.keep_registry.new.disk yes later.partition
    c.self.invariant.some c.self.invariant.few many.0 many.1 devices (c.self.invariant.file going) file c.in-Ok.ensures.since)
    told

pub returns-in-Err-clause-during : goal.returns-in-Err-clause-during
returns-in-Err-clause-during g c = λ told opening.
    let content = g.D.Disk.content in
    let going : c.self.inside.ended ≡ false = ap (λ (t : Running g.row.D.Denot g.row.S.Denot g.row.M.Denot). t.ended) c.self.view_is ∙ c.requires in
    let other : (view_of c.step-stepped.new.self.partition_state.registry ≡ view_of c.self.inside.world.partition_state.registry → ⊥) = λ e. (let yes = c.is_of.ensures.1 (ap view_of c.registry-2.ensures ∙ (e ∙ sym (c.get-before.ensures ∙ ap view_of c.registry.ensures))) in let no = c.if-is_of.false in absurd (cc (yes, no))) in
    let devices = other_devices c.self.inside.world c.step-stepped.new.self (c.a_step_changes_the_registry_or_a_device.ensures c.self.inside.world c.args.actor.0 c.step-stepped.result c.step-stepped.new.self c.step-stepped.ensures.steps) other in
    let file = subst (λ (r : Registry). KeepsOneOf (content c.keep_registry.new.disk) c.self.inside.world.partition_state.registry r) c.registry-3.ensures
    (one_of_two (content c.self.inside.reg) (content c.keep_registry.new.disk) c.self.inside.world.partition_state.registry c.registry-3.result.now (c.self.invariant.file going) c.in-Err.ensures.content) in
    let later = step_later g.D.Disk g.S.Store g.M.MetaLog c.self.inside.world c.args.actor.0 c.step-stepped.result c.step-stepped.new.self c.step-stepped.ensures.steps c.step-stepped.ensures.central in
    let same_count = as_many c.self.inside.world c.step-stepped.new.self (c.a_step_changes_the_registry_or_a_device.ensures c.self.inside.world c.args.actor.0 c.step-stepped.result c.step-stepped.new.self c.step-stepped.ensures.steps) in
    let many = some_few c.self.inside.world c.step-stepped.new.self same_count c.self.invariant.some c.self.invariant.few in
    let P : Running g.row.D.Denot g.row.S.Denot g.row.M.Denot → Type 0 = λ t. IsTrue (content t.reg).is_observable → LeavesDuring g.D.Disk g.S.Store g.M.MetaLog opening t.world t.reg c.step-stepped.new.self c.keep_registry.new.disk in
    subst P c.self.view_is
    (λ yes. during_replaced c.file_laws.ensures g.D.Disk g.S.Store g.M.MetaLog g.met.D.Disk.lawful opening c.self.inside.world c.step-stepped.new.self c.self.inside.reg c.keep_registry.new.disk yes later.partition
    c.self.invariant.some c.self.invariant.few many.0 many.1 devices (c.self.invariant.file going) file c.in-Err.ensures.since)
    told
