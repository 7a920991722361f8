-- A load is a valid script.
use Rattle.std.specs.Prelude.{◌≡◌, ℕ, Ok}
use Rattle.load_gen.specs.Script.{script_of}
use Rattle.script_lang.specs.declared.script.Script.{Script}
use Rattle.script_lang.specs.Script.{script_in}

-- the script of each number has a meaning: no line of it is invalid
abbrev pub LoadsAreValid : Type 0
LoadsAreValid = (number : ℕ) → (script : Script) × (script_in (script_of number) ≡ Ok script)
