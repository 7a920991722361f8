use Rattle.std.proofs.Common.{◌≡◌, ◌≤◌, [], length, take, map}
use Rattle.trace_text.specs.Read.{told}
use Rattle.run_story.specs.Stories.{AreStories}
use Rattle.run_story.proofs.run.tell_parts.Given as goal

abbrev pub invariant-loop-at : goal.invariant-loop-at
invariant-loop-at l = record {
  near : l.at ≤ length l.states;
  first : l.fn.states ≡ [] → length l.states ≡ l.at;
  are : AreStories l.script.config l.fn.states (map told l.journals) (take l.at l.part-items) l.stories;
}
