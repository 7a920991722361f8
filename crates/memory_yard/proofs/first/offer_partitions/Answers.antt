use Rattle.std.proofs.Common.{◌∙◌, ◌<◌, ap, sym, map, Some, arith, length}
use Rattle.std.proofs.lemmas.Option.{slice_get-get_or}
use Rattle.memory_yard.specs.First.{name_of}
use Rattle.memory_yard.proofs.Firsts.{name_at, names_none, names_more, names_all}
use Rattle.memory_yard.proofs.first.offer_partitions.Goals as goal

pub loop-partition-init : goal.loop-partition-init
loop-partition-init c = names_none (map name_of c.args.partitions.now) c.args.first.now

pub loop-partition-preserved : goal.loop-partition-preserved
loop-partition-preserved c =
    let list = c.args.partitions.now in
    let i = c.loop-partition.partition-index in
    let below : i < length list = omega arith in
    names_more (map name_of list) i c.as_bytes.result.now _ _ _
    (name_at list i _ (slice_get-get_or list i _ below) ∙ ap Some (sym (c.as_bytes.ensures.value ∙ c.in_ok-name.ensures)))
    c.loop-partition.invariant c.in_ok-offer.ensures

pub returns : goal.returns
returns c = names_all c.args.partitions.now c.loop-partition.partition-index _ _ c.loop-partition-test.false c.loop-partition.invariant
