use Rattle.std.proofs.Common.{◌≡◌, ◌∙◌, sym, subst, ap, ◌+◌, length, List, [], ◌∷◌, ◌++◌, map, take, slice_set, arith}
use Rattle.std.proofs.lemmas.List.{take_more}
use Rattle.log_terms.proofs.Lists.{length-slice_set}
use Rattle.script_lang.specs.declared.script.PartScript.{PartScript}
use Rattle.trace_text.specs.Read.{told}
use Rattle.run_story.specs.declared.run.Story.{Story}
use Rattle.run_story.specs.Stories.{IsPartStory, AreStories}
use Rattle.run_story.proofs.Stories.{one_story}
use Rattle.run_story.proofs.run.tell_parts.Goals as goal

pub loop-at-preserved : goal.loop-at-preserved
loop-at-preserved c =
    let config = c.args.script.now.config in
    let before = c.args.states.now in
    let js = map told c.args.journals.now in
    let part = c.part-item.result in
    let parts = c.as_slice-part-items.result.now in
    let place = c.loop-at.at in
    let same : length (slice_set c.reach.new.states place c.cool.new.self) ≡ length c.reach.new.states =
    length-slice_set c.reach.new.states place c.cool.new.self in
    let within = c.in_ok-reach.ensures.within in
    let more : take (place + 1) parts ≡ take place parts ++ part ∷ [] =
    take_more parts place part c.loop-at-test.true ∙ ap (λ (x : PartScript). take place parts ++ x ∷ []) (sym c.part-item.is) in
    let its : IsPartStory config before js part c.in_ok-story.story = record {
      partition = c.in_ok-story.ensures.partition;
      p = c.at_mut-tracked.result.now.plain;
      q = c.tell_part.new.tracked.plain;
      begins = λ none. c.in_ok-reach.ensures.fresh (c.loop-at.invariant.first none) c.at_mut-tracked.result.now c.at_mut-tracked.ensures.value;
      is = c.in_ok-story.ensures.story;
    } in
    let told_more = one_story config before js (take place parts) c.loop-at.stories part c.in_ok-story.story c.loop-at.invariant.are its in
    record {
      near = omega (arith, same, within);
      first = λ none. same ∙ c.in_ok-reach.ensures.count (c.loop-at.invariant.first none);
      are = subst (λ (l : List PartScript). AreStories config before js l c.push.new.self) (sym more)
          (subst (λ (l : List Story). AreStories config before js (take place parts ++ part ∷ []) l) (sym c.in_ok-push.ensures.ok) told_more);
    }
