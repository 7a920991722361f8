use Rattle.std.proofs.Common.{subst, sym, List, arith}
use Rattle.plain_log.specs.declared.command.ActorList.{ActorList}
use Rattle.plain_executor.specs.Fits.{AreFor}
use Rattle.plain_executor.specs.Traces.{IsRefusedAt}
use Rattle.run_story.specs.Moments.{IsStory}
use Rattle.run_story.proofs.Told.{fits, goes_on, refused_there, told_all}
use Rattle.run_story.proofs.telling.tell.Goals as goal

pub advance-requires : goal.advance-requires
advance-requires c = subst AreFor (sym c.as_slice-lists.ensures) (fits c.args.config.now c.args.part.now.lists c.requires)

pub returns-in-Ok-None : goal.returns-in-Ok-None
returns-in-Ok-None c =
    subst (λ (l : List ActorList). IsRefusedAt l c.args.tracked.now.plain c.args.journal.now c.advance.new.self.plain c.loop-place.place) c.as_slice-lists.ensures
    (refused_there c.as_slice-lists.result.now c.args.tracked.now.plain c.loop-place.tracked.plain c.advance.new.self.plain c.args.journal.now c.loop-place.place
    c.index-journal-place.result c.loop-place.moments c.in-Ok-None.field-0 c.loop-place-test.true c.index-journal-place.is c.loop-place.invariant c.in-Ok-None.field-0-is
    c.in-Ok-None.ensures)

pub loop-place-preserved : goal.loop-place-preserved
loop-place-preserved c =
    goes_on c.as_slice-lists.result.now c.args.tracked.now.plain c.loop-place.tracked.plain c.advance.new.self.plain c.args.journal.now c.loop-place.place
    c.index-journal-place.result c.loop-place.moments c.push.new.self c.in-Ok-Some.moment c.in-Ok-Some.field-0 c.loop-place-test.true c.index-journal-place.is
    c.loop-place.invariant c.in-Ok-Some.field-0-is c.in-Ok-Some.ensures c.in-Ok.ensures.ok

pub returns : goal.returns
returns c =
    subst (λ (l : List ActorList). IsStory l c.args.tracked.now.plain c.args.journal.now c.loop-place.tracked.plain c.loop-place.moments) c.as_slice-lists.ensures
    (told_all c.as_slice-lists.result.now c.args.tracked.now.plain c.loop-place.tracked.plain c.args.journal.now c.loop-place.place c.loop-place.moments
    (let done = c.loop-place-test.false in omega (arith, done)) c.loop-place.invariant)
