use Rattle.std.proofs.Common.{◌≡◌, ◌∙◌, ap, refl, suc, List, [], ◌∷◌, length}
use Rattle.partition_commands.specs.declared.partition_state.Node.{Node}
use Rattle.partition_commands.specs.Fresh.{AreDisksOf}
use Rattle.partition_world.specs.Whole.{Whole}
use Rattle.partition_world.proofs.world.World.close.Goals as goal

pub returns-clause-count : goal.returns-clause-count
returns-clause-count g c =
    long c.self.inside.partition_state.nodes c.close-disks.result.items c.close-disks.ensures.disks
    ∙ (c.self.invariant.0.partition_state.count ∙ ap (λ (w : Whole g.row.D.Denot g.row.S.Denot g.row.M.Denot). w.config.brokers) c.self.view_is)
  where
    long : (xs : List (Node g.row.D.Denot)) (disks : List g.row.D.Denot) → AreDisksOf xs disks → length disks ≡ length xs
    long [] [] are = refl
    long (x ∷ xs) (disk ∷ disks) are = ap suc (long xs disks are.1)
    long [] (disk ∷ disks) are = absurd are
    long (x ∷ xs) [] are = absurd are

pub returns-clause-again : goal.returns-clause-again
returns-clause-again g c = rw (← c.self.view_is) c.close-disks.ensures.again
