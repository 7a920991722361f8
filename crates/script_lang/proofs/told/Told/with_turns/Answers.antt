use Rattle.script_lang.proofs.Sound.{sound-turns}
use Rattle.script_lang.proofs.told.Told.with_turns.Goals as goal

pub invariant_of-told : goal.invariant_of-told
invariant_of-told c = rw (c.in_ok-put_pace.ensures) (sound-turns _ c.args.self c.args.counts c.args.actor c.args.turns _ c.told.view_is c.told.invariant c.requires.counts)
