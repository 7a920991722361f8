-- A file that replaces another one, as what differs: its first 32 bytes, how many bytes after them are those of the
-- other one, and what follows these.
use Rattle.std.specs.Prelude.{ℕ, List, ◌++◌, take, drop}
use Rattle.disk_model.specs.declared.patch.Patch.{Patch}

-- the file
abbrev pub patched : Patch → List ℕ → List ℕ
patched patch old = take 32 patch.fresh ++ take patch.same (drop 32 old) ++ drop 32 patch.fresh
