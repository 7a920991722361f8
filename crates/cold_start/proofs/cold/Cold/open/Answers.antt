use Rattle.std.proofs.Common.{◌∙◌, subst, Option, Some}
use Rattle.std.specs.Prelude.{Ok}
use Rattle.registry.specs.declared.view.RegView.{RegView}
use Rattle.registry_disk.specs.Keeping.{Finds}
use Rattle.cold_start.proofs.Causes.{if_ok_map, if_err_map, stands_read, blank_read, cause_read}
use Rattle.cold_start.proofs.cold.Cold.open.Goals as goal

pub returns-in-Ok-None-clause-blank : goal.returns-in-Ok-None-clause-blank
returns-in-Ok-None-clause-blank g c =
    if_ok_map c.start.result _ _ (λ t k tell blank. k tell (blank_read g.D.Disk g.S.Store g.M.MetaLog c.args.devices.store c.args.devices.meta c.args.reg c.find_registry.new.disk c.find_registry.ensures.content blank)) c.start.ensures.blank

pub returns-in-Ok-Some-clause-central : goal.returns-in-Ok-Some-clause-central
returns-in-Ok-Some-clause-central g c =
    if_ok_map c.go_on.result _ _ (λ t k p h. k p (stands_read g.D.Disk g.S.Store g.M.MetaLog c.args.partition c.args.devices.disks.items c.args.devices.store c.args.devices.meta c.args.reg c.find_registry.new.disk p c.find_registry.ensures.content h)) c.go_on.ensures.central

pub returns-in-Ok-Some-clause-cause : goal.returns-in-Ok-Some-clause-cause
returns-in-Ok-Some-clause-cause g c =
    if_err_map c.go_on.result _ _ (λ e k. cause_read g.D.Disk g.M.MetaLog c.args.config c.args.devices.disks.items c.args.devices.meta c.args.reg c.find_registry.new.disk e.0.disks.items e.0.meta e.1 e.2 c.find_registry.ensures.content c.find_registry.ensures.control k) c.go_on.ensures.cause

pub returns-in-Ok-None-clause-is_observable : goal.returns-in-Ok-None-clause-is_observable
returns-in-Ok-None-clause-is_observable g c = if_ok_map c.start.result _ _ (λ t k. k ∙ c.find_registry.ensures.content.is_observable) c.start.ensures.is_observable

pub returns-in-Ok-Some-clause-is_observable : goal.returns-in-Ok-Some-clause-is_observable
returns-in-Ok-Some-clause-is_observable g c = if_ok_map c.go_on.result _ _ (λ t k. k ∙ c.find_registry.ensures.content.is_observable) c.go_on.ensures.is_observable

pub returns-in-Ok-Some-clause-blank : goal.returns-in-Ok-Some-clause-blank
returns-in-Ok-Some-clause-blank g c =
    let P : Option RegView → Type 0 = λ o. Finds (g.D.Disk.content c.args.reg) (g.D.Disk.control c.args.reg) (g.D.Disk.control c.find_registry.new.disk) (Ok o) in
    let finds : P (Some c.in-Ok-Some.view) = subst P c.in-Ok-Some.field-0-is c.in-Ok-Some.ensures.finds in
    if_ok_map c.go_on.result _ _ (λ t k tell blank. let there = finds.2 blank.file_tells in let none = blank.file in absurd (cc (there, none))) c.go_on.ensures.going
