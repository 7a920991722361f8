-- A disk that isn't observable.
use Rattle.std.specs.Prelude.{false, None}
use Rattle.std.proofs.lemmas.Bool.{false≢true}
use Rattle.disk_model.specs.Content.{Content, Lawful}

-- nothing is reported, and no image is claimed
abbrev pub nothing_told : Content
nothing_told = record { is_observable = false; files = λ n. None; moment = 0; left = λ t c. ⊥ }

-- the laws of a disk hold of it
pub deaf_lawful : Lawful nothing_told
deaf_lawful = record {
  reads = λ told. absurd (false≢true told);
  told = λ c left. absurd left;
  earlier = λ t u c le left. left;
}
