use Rattle.std.proofs.Common.{◌∙◌, subst, List}
use Rattle.plain_log.specs.declared.command.Pace.{Pace}
use Rattle.partition_world.specs.Reaches.{Reaches}
use Rattle.script_lang.specs.declared.fault.Fault.{Fault}
use Rattle.run_memory.specs.Run.{StartsWith}
use Rattle.run_memory.proofs.MemoryDevices.{disk, store, meta}
use Rattle.run_memory.proofs.Running.{is_run_of}
use Rattle.run_memory.proofs.partition.run_partition.Goals as goal

pub returns : goal.returns
returns c =
    let first = c.in_ok-world.world in
    let last = c.run_in_order.new.world in
    let starts : StartsWith disk store meta c.args.part.partition c.args.config c.args.part.lists c.args.part.faults first =
    subst (λ (l : List Fault). StartsWith disk store meta c.args.part.partition c.args.config c.args.part.lists l first) c.as_slice.ensures c.in_ok-world.ensures.fresh in
    let reaches : Reaches disk store meta first c.args.part.schedule last =
    subst (λ (k : List Pace). Reaches disk store meta first k last) c.as_slice-2.ensures c.in_ok-run_in_order.ensures.reaches in
    record {
      run = is_run_of disk store meta c.args.config c.args.part first last c.ends_are_complete.ensures c.reaches_later.ensures c.reaches_in_turn.ensures
          c.fresh_is_safe.ensures c.replays_keep_safe.ensures c.runs_meet_no_damage.ensures c.reaches_by_plan.ensures
          c.requires.config c.requires.fit c.requires.ends starts c.in_ok-world.ensures.central reaches;
      lists = (c.reaches_later.ensures first c.args.part.schedule last reaches).lists ∙ starts.fresh.lists_are;
    }
