use Rattle.std.proofs.lemmas.Result.{IfErr-weaker}
use Rattle.partition_commands.proofs.FreshDisks.{refuses_infallible}
use Rattle.partition_commands.proofs.Writes.{ok_more}
use Rattle.partition_world.proofs.LastingRuns.{fresh_new}
use Rattle.partition_world.proofs.world.World.fresh.Goals as goal

pub returns-clause-new : goal.returns-clause-new
returns-clause-new g c =
    ok_more _ _ c.made.result (λ w f. fresh_new g.D.Disk g.S.Store g.M.MetaLog c.args.partition c.args.config c.args.lists c.args.devices.disks.items c.args.devices.store c.args.devices.meta w f) c.made.ensures.fresh

pub returns-clause-central : goal.returns-clause-central
returns-clause-central g c =
    ok_more _ _ c.made.result (λ w f seen. c.fresh_is_central.ensures c.args.partition c.args.config c.args.lists c.args.devices.disks.items c.args.devices.store c.args.devices.meta w c.requires.brokers c.requires.fit f seen) c.made.ensures.fresh

pub returns-clause-central_left : goal.returns-clause-central_left
returns-clause-central_left g c =
    ok_more _ _ c.made.result (λ w f seen told. c.fresh_is_central_left.ensures c.args.partition c.args.config c.args.lists c.args.devices.disks.items c.args.devices.store c.args.devices.meta w c.requires.brokers c.requires.fit f seen told) c.made.ensures.fresh

pub returns-clause-memory : goal.returns-clause-memory
returns-clause-memory g c = λ infallible.
    IfErr-weaker c.made.result _ _ (λ e refused. refuses_infallible g.D.Disk.content g.D.Disk.control c.args.devices.disks.items e.0.disks.items e.1 infallible refused) c.made.ensures.err
