use Rattle.std.proofs.Common.{◌≡◌, ◌++◌, map}
use Rattle.std.specs.BTreeMap.{keys}
use Rattle.tier_base.specs.declared.plain.FileName.TheVariants.{Log}
use Rattle.disk_model.proofs.shelf.log_names.Given as goal

-- the names so far and those of the keys that are left
abbrev pub invariant-loop-base : goal.invariant-loop-base
invariant-loop-base l = l.names ++ map Log l.base-iterator ≡ map Log (keys l.logs)
