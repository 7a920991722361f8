use Rattle.std.proofs.Common.{◌≡◌, false, subst}
use Rattle.std.specs.Prelude.{IsTrue}
use Rattle.plain_log.specs.declared.state.State.{State}
use Rattle.partition_commands.specs.Cold.{DisksReopen}
use Rattle.partition_world.specs.Left.{IsCentralLeft}
use Rattle.cold_state.specs.Cold.{cold_of}
use Rattle.cold_start.specs.ColdWorld.{plain_in}
use Rattle.cold_start.specs.Running.{Running}
use Rattle.cold_start.specs.Stands.{StandsFor}
use Rattle.cold_start.proofs.Leaving.{closed_cold}
use Rattle.cold_start.proofs.cold.Cold.close.Goals as goal

pub returns-clause-cold : goal.returns-clause-cold
returns-clause-cold g c =
    let P : Running g.row.D.Denot g.row.S.Denot g.row.M.Denot → Type 0 = λ t. t.ended ≡ false → IsTrue (g.D.Disk.content t.reg).is_observable → (opening : State) (k : IsCentralLeft g.D.Disk g.S.Store g.M.MetaLog opening t.world)
    → StandsFor g.D.Disk g.S.Store g.M.MetaLog t.world.partition c.close.result.disks.items c.close.result.store c.close.result.meta c.self.inside.reg (cold_of (plain_in g.D.Disk g.S.Store g.M.MetaLog opening t.world k)) in
    subst P c.self.view_is
    (λ going told opening k.
    closed_cold c.file_laws.ensures g.D.Disk g.S.Store g.M.MetaLog opening c.self.inside.world k c.close.result.disks.items c.close.result.store c.close.result.meta c.self.inside.reg c.close.ensures.disks c.close.ensures.again
    c.close.ensures.store c.close.ensures.meta told
    (c.self.invariant.file going (g.D.Disk.content c.self.inside.reg).files ((g.met.D.Disk.lawful c.self.inside.reg).reads told)) c.self.invariant.some c.self.invariant.few)

pub returns-clause-again : goal.returns-clause-again
returns-clause-again g c =
    let P : Running g.row.D.Denot g.row.S.Denot g.row.M.Denot → Type 0 = λ t. DisksReopen g.D.Disk.content t.world.partition_state.nodes c.close.result.disks.items in
    subst P c.self.view_is c.close.ensures.again
