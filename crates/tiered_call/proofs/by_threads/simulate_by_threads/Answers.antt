use Rattle.std.proofs.Common.{◌≡◌, ◌∙◌, ap, sym, Err}
use Rattle.script_lang.specs.Script.{script_in}
use Rattle.run_memory.proofs.MemoryDevices.{disk, store, meta}
use Rattle.tiered_call.specs.Headline.{IsTraceByThreads}
use Rattle.tiered_call.proofs.Refusing.{refuses}
use Rattle.tiered_call.proofs.by_threads.simulate_by_threads.Goals as goal

pub returns-in-Err-Bad : goal.returns-in-Err-Bad
returns-in-Err-Bad g c =
    let bytes = c.in-Ok.bytes.items in
    let bad : script_in bytes ≡ Err (c.in-Err-Bad.line, c.in-Err-Bad.why) = ap script_in (sym c.in-Ok-from_vec.ensures.ok) ∙ c.in-Err-Bad.ensures.bad c.in-Err-Bad.line c.in-Err-Bad.why (cc c.in-Err-Bad.field-0-is) in
    refuses (IsTraceByThreads disk store meta) g.R.Source g.W.Sink c.args.script.now c.read_all.new.source c.args.out.now bytes c.in-Err-Bad.line c.in-Err-Bad.why c.in-Ok.ensures.read c.in-Ok.ensures.count c.in-Ok.ensures.within bad
