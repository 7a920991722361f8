use Rattle.script_lang.proofs.Fitting.{script-fits}
use Rattle.script_lang.proofs.told.Told.into_script.Goals as goal

pub returns-clause-fit : goal.returns-clause-fit
returns-clause-fit c = rw (c.in_ok-parts.ensures, c.config-config.ensures, c.unwrap_or-count.ensures) (script-fits _ c.self.invariant)
