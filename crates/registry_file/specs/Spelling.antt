-- The bytes of a registry's file: big endian, and nothing follows. There are n brokers.
--
--     at  size  field
--      0     4  TLR1
--      4     2  n, the count of brokers, 1 to 8
--      6     4  leader epoch, below 2^31
--     10     2  leader: one of the brokers
--     12     8  high watermark, at most 2^62
--     20     8  log start offset, at most the high watermark
--     28     1  brokers in sync: bit b is set where broker b is. The leader's is set, and none from bit n on
--     29    8n  the acknowledged end of each broker, at most 2^62
use Rattle.std.specs.Prelude.{ℕ, List, [], ◌∷◌, ◌++◌, map, take}
use Rattle.std.specs.Int.{w16, w32, w64, to_be_bytes}
use Rattle.std.specs.List.{concat}
use Rattle.registry.specs.declared.view.RegView.{RegView}

-- TLR1, as a number
abbrev pub magic : ℕ
magic = 0x544C5231

-- what precedes the marks
unfoldable pub front_bytes : ℕ → ℕ → ℕ → List ℕ
front_bytes brokers epoch leader =
    to_be_bytes w32 magic ++ (to_be_bytes w16 brokers ++ (to_be_bytes w32 epoch ++ to_be_bytes w16 leader))

-- the high watermark, the log start offset, and who is in sync
unfoldable pub marks_bytes : ℕ → ℕ → ℕ → List ℕ
marks_bytes mark start in_sync = to_be_bytes w64 mark ++ (to_be_bytes w64 start ++ in_sync ∷ [])

-- acknowledged ends, one after another
abbrev pub ends_bytes : List ℕ → List ℕ
ends_bytes ends = concat (map (to_be_bytes w64) ends)

-- a view
unfoldable pub view_bytes : RegView → List ℕ
view_bytes view =
    front_bytes view.brokers view.epoch view.leader.0
    ++ (marks_bytes view.mark view.start view.in_sync ++ ends_bytes (take view.brokers view.acked))
