-- Places that are one are equal.
use Rattle.std.specs.Prelude.{◌≡◌, ℕ, ◌==◌}
use Rattle.std.proofs.Common.{Decides, ap, ◌∙◌}
use Rattle.std.proofs.lemmas.Bool.Decides.{Decides-eqb, Decides-and}
use Rattle.tier_base.specs.declared.names.PartitionId.{PartitionId}
use Rattle.memory_yard.specs.declared.place.DiskPlace.{DiskPlace}
use Rattle.memory_yard.specs.Place.{same_partition, same_disk}

pub partitions_decide : (a b : PartitionId) → Decides (same_partition a b) (a ≡ b)
partitions_decide a b =
    let id : ℕ → PartitionId = λ n. record { 0 = n } in
    (λ e. ap id ((Decides-eqb a.0 b.0).0 e), λ e. (Decides-eqb a.0 b.0).1 (ap (λ p. p.0) e))

pub disks_decide : (a b : DiskPlace) → Decides (same_disk a b) (a ≡ b)
disks_decide a b =
    let both : Decides (same_disk a b) ((a.partition.0 ≡ b.partition.0) × (a.broker.0 ≡ b.broker.0)) =
    Decides-and (a.partition.0 == b.partition.0) (a.broker.0 == b.broker.0) (Decides-eqb a.partition.0 b.partition.0)
    (Decides-eqb a.broker.0 b.broker.0) in
    let id : ℕ → ℕ → DiskPlace = λ p q. record { partition = record { 0 = p }; broker = record { 0 = q } } in (
      λ e. let h = both.0 e in ap (λ n. id n a.broker.0) h.0 ∙ ap (id b.partition.0) h.1,
      λ e. both.1 (ap (λ p. p.partition.0) e, ap (λ p. p.broker.0) e),
    )
