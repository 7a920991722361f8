use Rattle.std.proofs.Common.{◌∙◌, sym, ap, subst}
use Rattle.std.specs.Prelude.{Err}
use Rattle.registry.specs.declared.registry.Registry.{Registry}
use Rattle.registry_disk.specs.Keeping.{KeepsFile, Replaces}
use Rattle.cold_start.specs.Opening.{GivesBack}
use Rattle.cold_start.specs.declared.refusal.ColdRefusal.{ColdRefusal}
use Rattle.cold_start.proofs.Causes.{registry_only, registry_failed}
use Rattle.cold_start.proofs.Leaving.{left_cold}
use Rattle.cold_start.proofs.cold.Cold.begun.Goals as goal

pub returns-in-Ok-clause-cold : goal.returns-in-Ok-clause-cold
returns-in-Ok-clause-cold g c = λ told opening.
    left_cold c.file_laws.ensures g.D.Disk g.S.Store g.M.MetaLog g.met.D.Disk.lawful opening c.args.world c.keep_registry.new.disk told
    (subst (λ (r : Registry). KeepsFile (g.D.Disk.content c.keep_registry.new.disk) r) c.registry.ensures c.in-Ok.ensures.kept) c.requires.some c.requires.few

pub invariant_of-result : goal.invariant_of-result
invariant_of-result g c = record {
  unarmed = c.keep_registry.ensures.control.armed ∙ c.requires.registry;
  some = c.requires.some;
  few = c.requires.few;
  file = λ going. subst (λ (r : Registry). KeepsFile (g.D.Disk.content c.keep_registry.new.disk) r) c.registry.ensures c.in-Ok.ensures.kept;
}

pub returns-in-Err-clause-err : goal.returns-in-Err-clause-err
returns-in-Err-clause-err g c =
    let P : ColdRefusal → Type 0 = λ why. GivesBack g.D.Disk c.args.world c.args.reg c.close.result.disks.items c.close.result.store c.close.result.meta c.keep_registry.new.disk why in
    subst P (sym c.registry_refusal.ensures)
    (record {
      disks_are = c.close.ensures.disks;
      again = c.close.ensures.again;
      store_is = c.close.ensures.store;
      meta_is = c.close.ensures.meta;
      count = c.close.ensures.count;
      some = c.requires.some;
      few = c.requires.few;
      file = subst (λ (r : Registry). Replaces r (g.D.Disk.content c.args.reg) (g.D.Disk.content c.keep_registry.new.disk)) c.registry.ensures c.in-Err.ensures.content;
      control = c.in-Err.ensures.control;
      cause = λ is. c.in-Err.ensures.fault (ap Err (registry_failed c.in-Err.why is));
      only = registry_only c.in-Err.why;
    })
