-- The first turn of a fetch below its broker's local start is a change of the tier.
use Rattle.std.proofs.Common.{subst, refl}
use Rattle.plain_log.specs.declared.state.Role.{Role}
use Rattle.plain_log.specs.Safe.{RoleSafe}
use Rattle.tier_fetch.specs.declared.turn.FetchStep.TheVariants.{Refresh}
use Rattle.tier_safe.specs.Changes.{Asks, Moves}
use Rattle.tier_safe.proofs.Turning.{one_change}
use Rattle.laws_tier_fetch.specs.Seeking.{sought_of}
use Rattle.laws_tier_fetch.specs.Turns.{AskChanges}

pub ask_changes : AskChanges
ask_changes c p a b tier_view x stops epoch offset s actor_state tier_view_is x_is leads below =
    one_change c p (Moves a (Asks (sought_of b stops epoch offset Refresh))) (
      refl,
      record {
        actor_state = actor_state;
        unread = (refl, refl);
        tier_view = tier_view;
        tier_view_is = tier_view_is;
        x = x;
        broker_is = x_is;
        leads = leads;
        path = (subst (λ (r : Role). RoleSafe p.paths p.registry.epoch r x.log) leads.role (s.brokers b x x_is).role).1;
        below = below;
      },
    )
