-- A store that isn't observable.
use Rattle.std.specs.Prelude.{false, None}
use Rattle.object_store.specs.Content.{Content}

-- nothing is reported
abbrev pub nothing_told : Content
nothing_told = record { is_observable = false; objects = λ k. None }
