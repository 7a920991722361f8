use Rattle.std.proofs.Common.{◌∙◌, ap, refl, length, List, [], arith}
use Rattle.plain_log.specs.declared.command.ActorList.{ActorList}
use Rattle.laws_partition.specs.Sound.{turns_left}
use Rattle.laws_partition.proofs.FreshSound.{length_replicate}
use Rattle.partition_commands.proofs.FreshDisks.{refuses_same}
use Rattle.partition_commands.proofs.FreshSound.{fresh_sound}
use Rattle.partition_commands.proofs.Unstopped.{fresh_stops}
use Rattle.partition_world.specs.declared.tier.BrokerTierState.{BrokerTierState}
use Rattle.partition_world.specs.Fresh.{fresh_broker_tier}
use Rattle.partition_world.proofs.Rooms.{few_entries}
use Rattle.partition_world.proofs.WorldFresh.{fresh_actor_states, fresh_in_progress, fresh_left, fresh_counted}
use Rattle.partition_world.proofs.world.World.made.Goals as goal

pub returns-in_default-clause-err : goal.returns-in_default-clause-err
returns-in_default-clause-err g c = refuses_same g.D.Disk.content g.D.Disk.control c.args.devices.disks.items _ refl c.requires.disks

pub returns-in_default-fresh_broker_tiers-clause-err : goal.returns-in_default-fresh_broker_tiers-clause-err
returns-in_default-fresh_broker_tiers-clause-err g c = refuses_same g.D.Disk.content g.D.Disk.control c.args.devices.disks.items _ refl c.requires.disks

pub fresh_books-requires : goal.fresh_books-requires
fresh_books-requires g c = omega (arith, few_entries c.args.config c.args.lists c.requires.fit, ap (λ (k : List ActorList). turns_left k []) c.as_slice.ensures)

pub invariant_of-result : goal.invariant_of-result
invariant_of-result g c =
    let books = c.in-Ok.ensures in
    let same = c.as_slice.ensures in
    let count = length c.as_slice.result.now in
    let disks = c.args.devices.disks.ok in (
      record {
        config_fits = c.requires.brokers;
        fit = c.requires.fit;
        partition_state = fresh_sound g.D.Disk.control c.args.config.brokers c.args.devices.disks.items c.in-Ok-fresh.partition_state c.requires.count c.in-Ok-fresh.ensures.partition_state;
        sided = ap (λ (k : List BrokerTierState). length k) (c.arm.ensures.broker_tiers ∙ c.in-Ok-fresh_broker_tiers.ensures) ∙ length_replicate c.args.config.brokers fresh_broker_tier;
        actor_states = fresh_actor_states c.args.lists count c.in-Ok.desk (ap (λ (k : List ActorList). length k) same) books.desk_is;
        works = fresh_in_progress c.args.lists count c.in-Ok.desk books.desk_is;
        room = omega (arith, fresh_left c.args.lists count c.in-Ok.desk books.desk_is, books.room, ap (λ (k : List ActorList). turns_left k []) same);
      },
      c.in-Ok-fresh.ensures.none,
      omega (arith, disks.0, disks.1, c.requires.count, c.fresh.ensures.room),
      fresh_counted c.args.config c.args.lists c.in-Ok-fresh.partition_state c.arm.new.self.broker_tiers c.in-Ok.desk (length c.in-Ok.journal.items) count c.args.config.brokers c.requires.fit
          (fresh_stops g.D.Disk.control c.args.devices.disks.items c.in-Ok-fresh.partition_state c.in-Ok-fresh.ensures.partition_state)
          (c.arm.ensures.broker_tiers ∙ c.in-Ok-fresh_broker_tiers.ensures) books.desk_is (ap (λ k. length k) books.empty),
    )
