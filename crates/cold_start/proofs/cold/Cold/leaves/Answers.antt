use Rattle.std.proofs.Common.{◌≡◌, false, subst}
use Rattle.std.specs.Prelude.{IsTrue}
use Rattle.plain_log.specs.declared.state.State.{State}
use Rattle.registry_disk.specs.Keeping.{KeepsFile}
use Rattle.cold_start.specs.Running.{Running}
use Rattle.cold_start.specs.Stands.{LeavesCold}
use Rattle.cold_start.proofs.Leaving.{left_cold}
use Rattle.cold_start.proofs.cold.Cold.leaves.Goals as goal

pub returns-clause-file : goal.returns-clause-file
returns-clause-file g c =
    let P : Running g.row.D.Denot g.row.S.Denot g.row.M.Denot → Type 0 = λ t. t.ended ≡ false → KeepsFile (g.D.Disk.content t.reg) t.world.partition_state.registry in
    subst P c.self.view_is c.self.invariant.file

pub returns-clause-unarmed : goal.returns-clause-unarmed
returns-clause-unarmed g c =
    let P : Running g.row.D.Denot g.row.S.Denot g.row.M.Denot → Type 0 = λ t. (g.D.Disk.control t.reg).armed ≡ false in
    subst P c.self.view_is c.self.invariant.unarmed

pub returns-clause-cold : goal.returns-clause-cold
returns-clause-cold g c =
    let P : Running g.row.D.Denot g.row.S.Denot g.row.M.Denot → Type 0 = λ t. t.ended ≡ false → IsTrue (g.D.Disk.content t.reg).is_observable → (opening : State) → LeavesCold g.D.Disk g.S.Store g.M.MetaLog opening t.world t.reg in
    subst P c.self.view_is
    (λ going told opening. left_cold c.file_laws.ensures g.D.Disk g.S.Store g.M.MetaLog g.met.D.Disk.lawful opening c.self.inside.world c.self.inside.reg told (c.self.invariant.file going) c.self.invariant.some c.self.invariant.few)
