-- Each change keeps the tier safe, and so do several.
use Rattle.tier_safe.proofs.Rules.{notes_kept}
use Rattle.std.proofs.Common.{◌≡◌, sym, subst, List, [], ◌∷◌}
use Rattle.plain_log.specs.declared.state.State.{State as Plain}
use Rattle.plain_log.specs.Safe.{PlainSafe}
use Rattle.tier_safe.specs.Scene.{Scene, BrokerTierView}
use Rattle.tier_safe.specs.Changes.{Change, Steps, Moves, Chooses, Tells, Stores, Sees, Caches, Drops, effect, effects}
use Rattle.tier_safe.specs.Safe.{TierSafe, BothSafe}
use Rattle.tier_safe.specs.May.{MayAlter, May, Mays}
use Rattle.tier_safe.proofs.Steps.{StepGoes, step_goes}
use Rattle.plain_log.proofs.StepLaw.{step_safe}
use Rattle.tier_safe.proofs.Partition.{partition_kept}
use Rattle.tier_safe.proofs.Named.{named_kept}
use Rattle.tier_safe.proofs.Finished.{finished_kept, finished_stepped}
use Rattle.tier_safe.proofs.Copies.{copies_kept, copies_stepped}
use Rattle.tier_safe.proofs.IdsLaw.{ids_kept, ids_stepped}
use Rattle.tier_safe.proofs.Deletions.{deletions_kept, deletions_stepped}
use Rattle.tier_safe.proofs.BrokerTiersLaw.{views_kept, views_stepped, tier_views_kept, tier_views_stepped}
use Rattle.tier_safe.proofs.Covering.{covered_kept, covered_stepped}
use Rattle.tier_safe.proofs.Rebuilding.{rebuilds_kept, rebuilds_stepped}
use Rattle.tier_safe.proofs.Caching.{caches_kept, caches_stepped}
use Rattle.tier_safe.proofs.Fetching.{fetches_kept, fetches_stepped}

altered : (change : Change) (c : Scene) (p : Plain) → MayAlter change c p → PlainSafe p → TierSafe c p → TierSafe (effect change c) p
altered change c p m safe h = record {
  views = views_kept change c p m h;
  tier_views = tier_views_kept change c p m h;
  finished = finished_kept change c p m h;
  named = named_kept change c p m h;
  copies = copies_kept change c p m h;
  ids = ids_kept change c p m h;
  deletions = deletions_kept change c p m h;
  covered = covered_kept change c p m safe h;
  rebuilds = rebuilds_kept change c p m h;
  caches = caches_kept change c p m h;
  fetches = fetches_kept change c p m h;
  notes = notes_kept change c p m h;
  partition = partition_kept change c p m h;
}

stepped : (tier_views : List BrokerTierView) (c : Scene) (p q : Plain) → StepGoes tier_views c p q → TierSafe c p → TierSafe (effect (Steps tier_views) c) q
stepped tier_views c p q m h = record {
  views = views_stepped tier_views c p q m h;
  tier_views = tier_views_stepped tier_views c p q m h;
  finished = finished_stepped tier_views c p q m h;
  named = h.named;
  partition = h.partition;
  copies = copies_stepped tier_views c p q m h;
  ids = ids_stepped tier_views c p q m h;
  deletions = deletions_stepped tier_views c p q m h;
  covered = covered_stepped tier_views c p q m h;
  rebuilds = rebuilds_stepped tier_views c p q m h;
  caches = caches_stepped tier_views c p q m h;
  fetches = fetches_stepped tier_views c p q m h;
  notes = h.notes;
}

-- a change that the plain log has no part in
same_plain : (change : Change) (c : Scene) (p q : Plain) → (q ≡ p) × MayAlter change c p → PlainSafe p → TierSafe c p → TierSafe (effect change c) q
same_plain change c p q m safe h = subst (λ (r : Plain). TierSafe (effect change c) r) (sym m.0) (altered change c p m.1 safe h)

pub kept : (change : Change) (c : Scene) (p q : Plain) → May change c p q → PlainSafe p → TierSafe c p → TierSafe (effect change c) q
kept (Steps tier_views) c p q m safe h =
    stepped tier_views c p q (step_goes tier_views c p q m safe) h
kept (Moves a move) c p q m safe h = same_plain (Moves a move) c p q m safe h
kept (Chooses a b tier_view copy) c p q m safe h = same_plain (Chooses a b tier_view copy) c p q m safe h
kept (Tells a telling origin) c p q m safe h = same_plain (Tells a telling origin) c p q m safe h
kept (Stores a storing objects) c p q m safe h = same_plain (Stores a storing objects) c p q m safe h
kept (Sees b tier_view view) c p q m safe h = same_plain (Sees b tier_view view) c p q m safe h
kept (Caches b tier_view cache) c p q m safe h = same_plain (Caches b tier_view cache) c p q m safe h
kept (Drops b tier_view start dropping) c p q m safe h = same_plain (Drops b tier_view start dropping) c p q m safe h

-- the plain log's rules continue with it
still_safe : (change : Change) (c : Scene) (p q : Plain) → May change c p q → PlainSafe p → PlainSafe q
still_safe (Steps tier_views) c p q m safe = step_safe p m.order m.entry q m.is safe
still_safe (Moves a move) c p q m safe = subst PlainSafe (sym m.0) safe
still_safe (Chooses a b tier_view copy) c p q m safe = subst PlainSafe (sym m.0) safe
still_safe (Tells a telling origin) c p q m safe = subst PlainSafe (sym m.0) safe
still_safe (Stores a storing objects) c p q m safe = subst PlainSafe (sym m.0) safe
still_safe (Sees b tier_view view) c p q m safe = subst PlainSafe (sym m.0) safe
still_safe (Caches b tier_view cache) c p q m safe = subst PlainSafe (sym m.0) safe
still_safe (Drops b tier_view start dropping) c p q m safe = subst PlainSafe (sym m.0) safe

pub all_kept : (changes : List Change) (c : Scene) (p q : Plain) → Mays changes c p q → BothSafe c p → BothSafe (effects changes c) q
all_kept [] c p q m h = subst (λ (r : Plain). BothSafe c r) (sym m) h
all_kept (change ∷ changes) c p q m h =
    all_kept changes (effect change c) m.0 q m.2 (record { plain = still_safe change c p m.0 m.1 h.plain; tier = kept change c p m.0 m.1 h.plain h.tier })
