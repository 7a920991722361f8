use Rattle.std.proofs.Common.{◌≡◌, ◌∙◌, sym, [], ◌∷◌, ◌++◌, length, arith}
use Rattle.std.specs.Prelude.{vec_len}
use Rattle.std.proofs.lemmas.List.{length-append}
use Rattle.tiered_call.proofs.Threaded.{part_behind, all_behind}
use Rattle.tiered_call.proofs.by_threads.all_begun.Goals as goal

pub begun-requires : goal.begun-requires
begun-requires c =
    let all = c.loop-part.invariant in
    let same : c.in_ok-clone.field-0 ≡ c.args.bytes.now = c.in_ok-clone.ensures.cases in
    let place : c.len-place.result ≡ length all.0 = c.len-place.ensures ∙ sym all.2 in
    part_behind c.args.bytes.now c.in_ok-clone.field-0 c.args.script all.0 c.next.new.self.rest.items c.loop-part.part-iterator.rest.items c.in-Some.part c.len-place.result c.requires.reads c.requires.fit same c.in-Some.ensures.steps.0 all.1 place

pub loop-part-preserved : goal.loop-part-preserved
loop-part-preserved c =
    let all = c.loop-part.invariant in
    let more : length (all.0 ++ c.in-Some.part ∷ []) ≡ vec_len c.push.new.self = omega (arith, length-append all.0 (c.in-Some.part ∷ []), all.2, c.in_ok-push.ensures.len) in
    (all.0 ++ c.in-Some.part ∷ [], all_behind all.0 c.next.new.self.rest.items c.loop-part.part-iterator.rest.items c.args.script.parts c.in-Some.part c.in-Some.ensures.steps.0 all.1, more)
