use Rattle.std.proofs.Common.{rules, ◌≢◌}
use Rattle.std.proofs.lemmas.Fn.{All-from_retain}
use Rattle.folder_yard.proofs.kept.KeptFiles.close.Goals as goal

pub returns : goal.returns
returns g c = All-from_retain _ (λ k. k.name ≢ c.args.name) _ (λ x b f called. search rules) _ _ c.retain.ensures.filtered
