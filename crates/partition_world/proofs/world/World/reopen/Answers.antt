use Rattle.partition_commands.proofs.Writes.{ok_more}
use Rattle.partition_world.proofs.LastingRuns.{reopened_new}
use Rattle.partition_world.proofs.world.World.reopen.Goals as goal

pub returns-clause-new : goal.returns-clause-new
returns-clause-new g c =
    ok_more _ _ c.made_anew.result (λ w f. reopened_new g.D.Disk g.S.Store g.M.MetaLog c.args.partition c.args.config c.args.lists c.args.registry c.args.devices.disks.items c.args.devices.store c.args.devices.meta w f) c.made_anew.ensures.reopened

pub returns-clause-central : goal.returns-clause-central
returns-clause-central g c =
    ok_more _ _ c.made_anew.result (λ w f p cold. c.reopens_central.ensures c.args.partition c.args.config c.args.lists c.args.registry c.args.devices.disks.items c.args.devices.store c.args.devices.meta w p c.requires.fit f cold)
    c.made_anew.ensures.reopened
