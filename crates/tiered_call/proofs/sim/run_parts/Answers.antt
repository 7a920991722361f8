use Rattle.std.proofs.Common.{◌≡◌, sym, subst, All, []}
use Rattle.plain_log.specs.Orders.{AreListsFor}
use Rattle.script_lang.specs.Fit.{StepsToEnds}
use Rattle.script_lang.specs.declared.script.PartScript.{PartScript}
use Rattle.tiered_call.proofs.Running.{goes_on}
use Rattle.run_memory.proofs.MemoryDevices.{disk, store, meta}
use Rattle.tiered_call.proofs.sim.run_parts.Goals as goal

pub loop-part-preserved : goal.loop-part-preserved
loop-part-preserved c = goes_on disk store meta c.args.config c.args.parts c.loop-part.part-iterator.rest.items c.next.new.self.rest.items c.in-Some.part c.loop-part.text.items c.in_ok-text.text.items c.in-Some.ensures.steps.0 c.loop-part.invariant c.in_ok-text.ensures

pub loop-part-init : goal.loop-part-init
loop-part-init c =
    let rest : c.into_iter-part-iterator.result.rest.items ≡ c.args.parts = cc in
    record {
      run = [];
      all = rest;
      text_is = record { runs = []; are = tt; spelled = c.new-text.ensures.items };
      fit = subst (All (λ (part : PartScript). AreListsFor c.args.config part.lists)) (sym rest) c.requires.fit;
      ends = subst (All StepsToEnds) (sym rest) c.requires.ends;
    }
