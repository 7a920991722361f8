use Rattle.std.proofs.lemmas.Bool.{false≢true}
use Rattle.folder_yard.proofs.Names.{no_base}
use Rattle.folder_yard.proofs.name.read_base.Goals as goal

pub returns-else-are_digits_of : goal.returns-else-are_digits_of
returns-else-are_digits_of c base small is = no_base c.args.digits.now c.value-base.result base c.requires small is c.value-base.ensures (λ spelled. false≢true (c.if-are_digits_of.ensures.1 spelled))
