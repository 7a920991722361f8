-- The tier's safety: what holds of the remote tier between any two turns, part by part.
--
--   Views      metadata events, views, the one partition, and ids
--   Copies     finished copies, objects, and copies in progress
--   Starts     local starts, deletions, what local logs lack, and rebuilds
--   Fetches    fetches from the tier, and cached indexes
use Rattle.plain_log.specs.declared.state.State.{State as Plain}
use Rattle.plain_log.specs.Safe.{PlainSafe}
use Rattle.remote_view.specs.Fold.{fold}
use Rattle.tier_safe.specs.Scene.{Scene}
use Rattle.tier_safe.specs.Views.{NotesStand, ViewsStand, AreOfPartition, IdsStand}
use Rattle.tier_safe.specs.Copies.{FinishedStand, ObjectsNamed, CopiesStand}
use Rattle.tier_safe.specs.Starts.{BrokerTiersMatch, DeletionsStand, CoveredStands, RebuildsStand}
use Rattle.tier_safe.specs.Fetches.{FetchesStand, CachesStand}

-- the rules of the tier, beside a state of the plain log
pub record TierSafe (c : Scene) (p : Plain) : Type 0 where
  pub notes : NotesStand c.notes c.desk
  pub views : ViewsStand c.notes c.tier_views
  pub partition : AreOfPartition c.partition c.objects (fold c.notes) c.desk
  pub ids : IdsStand (fold c.notes) c.tier_views c.desk
  pub finished : FinishedStand c.objects p.paths (fold c.notes)
  pub named : ObjectsNamed c.objects (fold c.notes)
  pub copies : CopiesStand c.objects p.paths (fold c.notes) c.desk
  pub tier_views : BrokerTiersMatch c.tier_views p.brokers
  pub deletions : DeletionsStand c.notes p.registry.start c.desk
  pub covered : CoveredStands (fold c.notes) p.registry.start c.tier_views p.brokers
  pub rebuilds : RebuildsStand p.paths c.notes p.registry.start c.tier_views c.desk
  pub fetches : FetchesStand p.paths c.notes p.registry.start c.tier_views p.brokers c.desk
  pub caches : CachesStand p.paths c.notes c.tier_views

-- the rules of the plain log and those of the tier
pub record BothSafe (c : Scene) (p : Plain) : Type 0 where
  pub plain : PlainSafe p
  pub tier : TierSafe c p
