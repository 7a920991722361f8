-- How often the brokers of a partition have stopped.
use Rattle.std.specs.Prelude.{◌≡◌, ◌≤◌, ℕ, List, Some, slice_get}
use Rattle.partition_commands.specs.declared.partition_state.Node.{Node}

-- each broker has stopped so often at most
abbrev pub HaveStopped : {D : Type 0} → ℕ → List (Node D) → Type 0
HaveStopped {D} n nodes = (b : ℕ) (x : Node D) → slice_get nodes b ≡ Some x → x.stops ≤ n
