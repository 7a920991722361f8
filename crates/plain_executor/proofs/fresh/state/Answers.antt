use Rattle.std.proofs.Common.{◌≡◌, ◌∙◌, refl, ap, sym, suc, ◌-◌, arith}
use Rattle.registry.specs.Registry.{fresh_registry}
use Rattle.plain_executor.proofs.fresh.state.Goals as goal

pub returns : goal.returns
returns c =
    let whole : suc (c.args.config.now.brokers - 1) ≡ c.args.config.now.brokers = omega (arith, c.requires.some) in
    let registry : c.in_ok-registry.registry ≡ fresh_registry (suc (c.args.config.now.brokers - 1)) = c.in_ok-registry.ensures ∙ ap fresh_registry (sym whole) in
    rw (registry, c.in_ok-brokers.ensures, c.in_ok-paths.ensures, c.new.ensures, c.new-2.ensures, c.new-3.ensures) refl
