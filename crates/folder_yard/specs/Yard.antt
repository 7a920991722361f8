-- an environment that isn't observable.
use Rattle.std.specs.Prelude.{false, [], None}
use Rattle.device_yard.specs.YardContent.{YardContent}

-- nothing is reported
abbrev pub nothing_held : {D S M : Type 0} → YardContent D S M
nothing_held = record {
  is_observable = false;
  strays = [];
  disks = λ p
      b. None;
  stores = λ p. None;
  logs = λ p. None;
  registries = λ p. None;
}
