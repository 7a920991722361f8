use Rattle.std.proofs.Common.{◌∙◌, ap, length}
use Rattle.tier_base.proofs.Keys.{id-length}
use Rattle.folder_yard.proofs.object_name.id_of.Goals as goal

pub returns-clause-len : goal.returns-clause-len
returns-clause-len c = ap length c.write_text.ensures ∙ id-length c.args.key.now.id
