-- A read without a limit: no file has as many bytes.
use Rattle.std.proofs.Common.{◌≡◌, ◌<◌, ◌∙◌, ℕ, List, Option, None, Some, length, take, drop, ap, refl, arith, length-take}
use Rattle.std.proofs.lemmas.List.{take_all}
use Rattle.std.specs.Prelude.{option_map}
use Rattle.disk_model.specs.Content.{part_of}

-- what was found, as far as the limit, is all from there on
pub whole_from : (at most : ℕ) (file : Option (List ℕ)) (bytes : List ℕ) → Some bytes ≡ option_map (part_of at most) file → length bytes < most → Some bytes ≡ option_map (drop at) file
whole_from at most None bytes is small = cc
whole_from at most (Some all) bytes is small =
    let same : bytes ≡ take most (drop at all) = cc in
    let n : length (drop at all) < most = omega (arith, small, ap (length {A = ℕ}) same, length-take most (drop at all)) in
    ap Some (same ∙ take_all most (drop at all) (omega (arith, n)))

-- where nothing was found, nothing is there
pub none_from : (at most : ℕ) (file : Option (List ℕ)) → None ≡ option_map (part_of at most) file → None ≡ option_map (drop at) file
none_from at most None is = refl
none_from at most (Some all) is = cc
