use Rattle.std.proofs.Common.{inl}
use Rattle.script_help.proofs.Fronts.{word_begins}
use Rattle.script_help.proofs.place.place_of.Goals as goal

pub returns-then-number-heads : goal.returns-then-number-heads
returns-then-number-heads c =
    inl (word_begins c.args.text.now _ _ (c.requires c.args.number _ c.if-number-heads.true) c.last_word_at.ensures.within c.last_word_at.ensures.place)
