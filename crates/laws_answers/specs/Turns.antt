-- How many turns a command takes at most, and how many are left.
--
--   command  turns  turn      comes                                            at most so many are left, with it
--   copy     13     second    once a broker's view is refreshed                12
--                   Start     once the segment is chosen                       11
--                   Put n     once the copy has started, n objects are put     10 - n
--                   Finish    once all are put                                 6
--                   Check     once the copy is whole                           5
--                   Delete n  where it was overtaken, n objects are taken away 4 - n
--   expire   8      second    once the view is refreshed                       7
--                   Start     once a segment is taken up                       6
--                   Delete n  once its deletion has started, n are taken away  5 - n
--                   Finish    once all are taken away                          1
--   fetch    4      Refresh   once the offset is found below the local log     3
--                   Index     once the piece is chosen                         2
--                   Log       once the index is there                          1
--   join     4      second    once the logs have met below the local log       3
--                   Epochs    once the view is refreshed                       2
--                   Restart   once the line is read                            1
--   trim     2      second    once the view is refreshed                       1
--   offset   2      second    once the view is refreshed, for the remote tier  1
--   search          second    once the view is refreshed                       1 + 4 * 2^64
--                   Seek      once its cursor has come to an offset            1 + 4 * (2^64 - offset)
--                   Times     once a piece is found there                      one less
--                   Index     once the time index is read                      two less
--                   Log       once the offset index is there                   three less
--   follow   2      second    once a run of the leader's log is read           1
--   others   1
--
-- A segment has four objects, or one where it is packed: then its copy and its expiry take fewer turns.
--
-- A search is a question for the offset of a timestamp. Its cursor rises by an offset at least where it has no piece:
-- after each piece, after each run of the local log that it reads, and where it only passes over segments. So it takes
-- 4 turns for each piece at most and 1 for each such run; how many of them there are is the log's, which may grow while
-- it continues. It ends once its cursor has come to the high watermark that its broker knows: so where that never
-- passes a mark, the high watermark represents 2^64 in the table.
use Rattle.std.specs.Prelude.{ℕ, ◌+◌, ◌-◌, ◌*◌, ◌^◌}
use Rattle.copy_task.specs.declared.turn.CopyStep.{CopyStep as Copying}
use Rattle.copy_task.specs.declared.turn.CopyStep.TheVariants as copying
use Rattle.expiry_task.specs.declared.turn.DeletionStep.{DeletionStep as Deletion}
use Rattle.expiry_task.specs.declared.turn.DeletionStep.TheVariants as deletion
use Rattle.rebuild_task.specs.declared.turn.RebuildStep.{RebuildStep as Rebuild}
use Rattle.rebuild_task.specs.declared.turn.RebuildStep.TheVariants.{Epochs, Restart}
use Rattle.tier_fetch.specs.declared.turn.FetchStep.{FetchStep as Search}
use Rattle.tier_fetch.specs.declared.turn.FetchStep.TheVariants.{Refresh, Index, Log}
use Rattle.time_find.specs.declared.turn.SearchStep.{SearchStep as Dating}
use Rattle.time_find.specs.declared.turn.SearchStep.TheVariants as dating
use Rattle.plain_log.specs.declared.command.Command.{Command}
use Rattle.plain_log.specs.declared.command.Command.TheVariants.{Copy, Expire, Fetch, Join, Trim, Follow, Offset}
use Rattle.plain_log.specs.declared.command.Which.TheVariants.{LatestTiered, At}
use Rattle.partition_world.specs.declared.actor_state.InProgress.{InProgress}
use Rattle.partition_world.specs.declared.actor_state.InProgress.TheVariants.{Idle, Noted, Copies, Seeks}
use Rattle.partition_world.specs.declared.actor_state.InProgress.TheVariants.{Dates, Expires, Rebuilds}

-- of a command
abbrev pub turns_of : Command → ℕ
turns_of Copy = 13
turns_of Expire = 8
turns_of (Fetch offset limit) = 4
turns_of Join = 4
turns_of Trim = 2
turns_of (Follow limit) = 2
turns_of (Offset LatestTiered) = 2
turns_of (Offset (At ts)) = 2 + 4 * 2 ^ 64
turns_of other = 1

-- left of one after its first turn
abbrev pub second_left : Command → ℕ
second_left Copy = 12
second_left Expire = 7
second_left (Fetch offset limit) = 3
second_left Join = 3
second_left (Offset (At ts)) = 1 + 4 * 2 ^ 64
second_left other = 1

-- of a copy that does this next
abbrev pub copying_left : Copying → ℕ
copying_left copying.Start = 11
copying_left (copying.Put n) = 7 + (3 - n)
copying_left copying.Finish = 6
copying_left copying.Check = 5
copying_left (copying.Delete n) = 1 + (3 - n)

-- of an expiry
abbrev pub deleting_left : Deletion → ℕ
deleting_left deletion.Start = 6
deleting_left (deletion.Delete n) = 2 + (3 - n)
deleting_left deletion.Finish = 1

-- of a fetch
abbrev pub seeking_left : Search → ℕ
seeking_left Refresh = 3
seeking_left (Index piece) = 2
seeking_left (Log piece span) = 1

-- how many turns a search has taken at its cursor
abbrev pub dated_here : Dating → ℕ
dated_here dating.Seek = 0
dated_here (dating.Times piece) = 1
dated_here (dating.Index piece from) = 2
dated_here (dating.Log piece from span) = 3

-- of a search that ends at a mark
abbrev pub dating_left_to : ℕ → ℕ → Dating → ℕ
dating_left_to mark cursor next = 1 + (4 * (mark - cursor) - dated_here next)

-- of any search: an offset has 64 bits
abbrev pub dating_left : ℕ → Dating → ℕ
dating_left cursor next = dating_left_to (2 ^ 64) cursor next

-- of a join
abbrev pub rebuilding_left : Rebuild → ℕ
rebuilding_left Epochs = 2
rebuilding_left (Restart line) = 1

-- of a command of which so much is kept
abbrev pub turns_left : Command → InProgress → ℕ
turns_left command Idle = turns_of command
turns_left command (Noted g) = second_left command
turns_left command (Copies g copy next) = copying_left next
turns_left command (Seeks g next) = seeking_left next
turns_left command (Dates g cursor next) = dating_left cursor next
turns_left command (Expires g expired_segment next) = deleting_left next
turns_left command (Rebuilds g next) = rebuilding_left next

-- of a search of which so much is kept, whose broker knows no high watermark past a mark
abbrev pub search_left : ℕ → InProgress → ℕ
search_left mark Idle = 2 + 4 * mark
search_left mark (Noted g) = 1 + 4 * mark
search_left mark (Dates g cursor next) = dating_left_to mark cursor next
search_left mark other = 1
