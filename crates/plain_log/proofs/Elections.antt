-- The definitions, tried on scripts with stops, elections and followers, whose answers are known from elsewhere.
use Rattle.std.proofs.Common.{◌≡◌, ℕ, List, [], ◌∷◌, ◌++◌, Option, Some, None, Bool, true, false, refl}
use Rattle.std.specs.Prelude.{is_some, pos}
use Rattle.log_terms.specs.Batch.{field_at, base_of, epoch_of, last_offset_delta_of}
use Rattle.batch_prims.specs.Crc.{step as crc_step, crc32c}
use Rattle.batch_prims.specs.Varint.{shortest, varint_bytes, varlong_bytes}
use Rattle.record_batch.specs.Record.{blob_bytes, optional_bytes, header_bytes, header_list_bytes, body_bytes, record_bytes}
use Rattle.record_batch.specs.Build.{all_bytes, u32_bytes, ts_bytes, no_producer, late_head, early_head, sealed, built}
use Rattle.record_batch.specs.Stamp.{stamped}
use Rattle.plain_log.specs.declared.answer.Answer.{Answer}
use Rattle.plain_log.specs.declared.answer.Answer.TheVariants as answers
use Rattle.plain_log.specs.declared.command.Command.{Command}
use Rattle.plain_log.specs.declared.command.Command.TheVariants.{Append, Flush, Roll, Elect, Unclean, Learn, Join, Follow, Ack, Shrink, Trim, Raise, Stop, Up, Fetch}
use Rattle.plain_log.specs.declared.command.Order.{Order}
use Rattle.plain_log.specs.declared.command.ActorList.{ActorList}
use Rattle.plain_log.specs.declared.journal.Event.TheVariants.{Begins, Answers}
use Rattle.plain_log.specs.declared.journal.JournalEntry.{JournalEntry}
use Rattle.plain_log.specs.Runs.{replay}
use Rattle.plain_log.specs.Fresh.{fresh_state}

-- a record of time 1000 with one byte
abbrev append : ℕ → Command
append letter = Append (record { ts = pos 1000; key = None; value = Some (letter ∷ []); headers = [] } ∷ [])

-- actor a's orders, all to broker a
abbrev orders_to : ℕ → List Command → List Order
orders_to a [] = []
orders_to a (command ∷ commands) = record { broker = record { 0 = a }; command = command } ∷ orders_to a commands

abbrev list_of : ℕ → List Command → ActorList
list_of a commands = record { actor = record { 0 = a }; orders = orders_to a commands }

abbrev answered : ℕ → ℕ → Answer → JournalEntry
answered a number answer = record { actor = record { 0 = a }; number = number; event = Answers answer }

abbrev snapshot : ℕ → ℕ → Option ℕ → JournalEntry
snapshot a number cut = record { actor = record { 0 = a }; number = number; event = Begins cut }

-- a leader that lost a batch in a stop: it can't lead its old epoch again, and the follower cuts what it had of it

abbrev lists : List ActorList
lists =
    list_of 0 (append 97 ∷ append 98 ∷ Flush ∷ append 99 ∷ Stop ∷ Up ∷ Learn ∷ Elect ∷ Learn ∷ append 100 ∷ [])
    ∷ list_of 1 (Follow 1000 ∷ Learn ∷ Join ∷ Follow 1000 ∷ []) ∷ []

-- up to the restart
abbrev before : List JournalEntry
before =
    answered 0 0 (answers.OkSpan 0 0 0) ∷ answered 0 1 (answers.OkSpan 1 1 0) ∷ answered 0 2 (answers.OkAt 2) ∷ answered 0 3 (answers.OkSpan 2 2 0)
    ∷ snapshot 1 0 None ∷ answered 1 0 (answers.Copied 3) ∷ answered 0 4 answers.Ok ∷ answered 0 5 (answers.Up 2) ∷ []

-- the election, and the follower's cut
abbrev after : List JournalEntry
after =
    answered 0 6 (answers.NeedsElection 0) ∷ answered 0 7 (answers.OkAt 1) ∷ answered 0 8 (answers.Leads 1) ∷ answered 0 9 (answers.OkSpan 2 2 1)
    ∷ answered 1 1 (answers.Follows 1) ∷ answered 1 2 (answers.Cut 2) ∷ snapshot 1 3 None ∷ answered 1 3 (answers.Copied 3) ∷ []

allowed : is_some (replay lists (fresh_state 1) (before ++ after)) ≡ true
unfolding field_at base_of epoch_of last_offset_delta_of crc_step crc32c shortest varint_bytes varlong_bytes blob_bytes optional_bytes header_bytes header_list_bytes body_bytes record_bytes all_bytes u32_bytes ts_bytes no_producer late_head early_head sealed built stamped
allowed = refl

-- it doesn't lead epoch 0 again
refused_lead : is_some (replay lists (fresh_state 1) (before ++ answered 0 6 (answers.Leads 0) ∷ [])) ≡ false
unfolding field_at base_of epoch_of last_offset_delta_of crc_step crc32c shortest varint_bytes varlong_bytes blob_bytes optional_bytes header_bytes header_list_bytes body_bytes record_bytes all_bytes u32_bytes ts_bytes no_producer late_head early_head sealed built stamped
refused_lead = refl

-- a log start that passed a follower: its log restarts at the leader's local start

abbrev dropped : List ActorList
dropped =
    list_of 0 (append 97 ∷ append 98 ∷ append 99 ∷ Flush ∷ Ack ∷ Raise 2 ∷ Trim ∷ [])
    ∷ list_of 1 (Shrink ∷ Follow 1000 ∷ Join ∷ Follow 1000 ∷ []) ∷ []

abbrev dropping : List JournalEntry
dropping =
    answered 1 0 answers.Ok ∷ answered 0 0 (answers.OkSpan 0 0 0) ∷ answered 0 1 (answers.OkSpan 1 1 0) ∷ answered 0 2 (answers.OkSpan 2 2 0)
    ∷ answered 0 3 (answers.OkAt 3) ∷ answered 0 4 (answers.OkAt 3) ∷ answered 0 5 (answers.OkAt 2) ∷ snapshot 0 6 None
    ∷ answered 0 6 (answers.Dropped 0 1) ∷ answered 1 1 (answers.Moved 2) ∷ snapshot 1 2 (Some 0) ∷ []

begins_anew : is_some (replay dropped (fresh_state 1) (dropping ++ answered 1 2 (answers.Rebuilt 2) ∷ snapshot 1 3 None ∷ answered 1 3 (answers.Copied 3) ∷ [])) ≡ true
unfolding field_at base_of epoch_of last_offset_delta_of crc_step crc32c shortest varint_bytes varlong_bytes blob_bytes optional_bytes header_bytes header_list_bytes body_bytes record_bytes all_bytes u32_bytes ts_bytes no_producer late_head early_head sealed built stamped
begins_anew = refl

-- not past the leader's log
refused_anew : is_some (replay dropped (fresh_state 1) (dropping ++ answered 1 2 (answers.Rebuilt 4) ∷ [])) ≡ false
unfolding field_at base_of epoch_of last_offset_delta_of crc_step crc32c shortest varint_bytes varlong_bytes blob_bytes optional_bytes header_bytes header_list_bytes body_bytes record_bytes all_bytes u32_bytes ts_bytes no_producer late_head early_head sealed built stamped
refused_anew = refl

-- stops, and an election of the one broker

abbrev alone : List ActorList
alone = list_of 0 (Stop ∷ Stop ∷ Fetch 0 1 ∷ Up ∷ Up ∷ Learn ∷ Elect ∷ Learn ∷ Learn ∷ Roll ∷ []) ∷ []

abbrev restart : List JournalEntry
restart =
    answered 0 0 answers.Ok ∷ answered 0 1 answers.Down ∷ answered 0 2 answers.Down ∷ answered 0 3 (answers.Up 0) ∷ answered 0 4 answers.IsUp
    ∷ answered 0 5 (answers.NeedsElection 0) ∷ answered 0 6 (answers.OkAt 1) ∷ answered 0 7 (answers.Leads 1) ∷ answered 0 8 answers.Known
    ∷ answered 0 9 answers.EmptySegment ∷ []

restarts : is_some (replay alone (fresh_state 0) restart) ≡ true
restarts = refl

-- an unclean election: the high watermark falls to what the new leader has flushed

abbrev lossy : List ActorList
lossy =
    list_of 0 (append 97 ∷ append 98 ∷ append 99 ∷ append 100 ∷ append 101 ∷ append 102 ∷ Flush ∷ Ack ∷ [])
    ∷ list_of 1 (Follow 207 ∷ Flush ∷ Shrink ∷ Unclean ∷ Learn ∷ Roll ∷ append 103 ∷ Flush ∷ Ack ∷ []) ∷ []

abbrev losing : List JournalEntry
losing =
    answered 0 0 (answers.OkSpan 0 0 0) ∷ answered 0 1 (answers.OkSpan 1 1 0) ∷ answered 0 2 (answers.OkSpan 2 2 0) ∷ answered 0 3 (answers.OkSpan 3 3 0)
    ∷ answered 0 4 (answers.OkSpan 4 4 0) ∷ answered 0 5 (answers.OkSpan 5 5 0) ∷ snapshot 1 0 None ∷ answered 1 0 (answers.Copied 3) ∷ answered 1 1 (answers.OkAt 3)
    ∷ answered 1 2 answers.Ok ∷ answered 0 6 (answers.OkAt 6) ∷ answered 0 7 (answers.OkAt 6) ∷ answered 1 3 (answers.OkAt 1) ∷ answered 1 4 (answers.Leads 1)
    ∷ answered 1 5 (answers.OkAt 3) ∷ answered 1 6 (answers.OkSpan 3 3 1) ∷ answered 1 7 (answers.OkAt 4) ∷ []

loses : is_some (replay lossy (fresh_state 1) (losing ++ answered 1 8 (answers.OkAt 4) ∷ [])) ≡ true
unfolding field_at base_of epoch_of last_offset_delta_of crc_step crc32c shortest varint_bytes varlong_bytes blob_bytes optional_bytes header_bytes header_list_bytes body_bytes record_bytes all_bytes u32_bytes ts_bytes no_producer late_head early_head sealed built stamped
loses = refl

-- the old high watermark is gone
refused_mark : is_some (replay lossy (fresh_state 1) (losing ++ answered 1 8 (answers.OkAt 6) ∷ [])) ≡ false
unfolding field_at base_of epoch_of last_offset_delta_of crc_step crc32c shortest varint_bytes varlong_bytes blob_bytes optional_bytes header_bytes header_list_bytes body_bytes record_bytes all_bytes u32_bytes ts_bytes no_producer late_head early_head sealed built stamped
refused_mark = refl

-- what a stop in the middle of a write may leave: what is flushed, or more, but not less

abbrev broken : List ActorList
broken = list_of 0 (append 97 ∷ Flush ∷ append 98 ∷ Flush ∷ Up ∷ []) ∷ []

abbrev breaking : List JournalEntry
breaking =
    answered 0 0 (answers.OkSpan 0 0 0) ∷ answered 0 1 (answers.OkAt 1) ∷ answered 0 2 (answers.OkSpan 1 1 0) ∷ answered 0 3 answers.DiskFault ∷ []

-- the journal continues so
abbrev goes_on : List ActorList → ℕ → List JournalEntry → Bool
goes_on lists others journal = is_some (replay lists (fresh_state others) journal)

opens : (goes_on broken 0 (breaking ++ answered 0 4 (answers.Up 2) ∷ []) ≡ true) × (goes_on broken 0 (breaking ++ answered 0 4 (answers.Up 1) ∷ []) ≡ true)
    × (goes_on broken 0 (breaking ++ answered 0 4 (answers.Up 0) ∷ []) ≡ false)
unfolding field_at base_of epoch_of last_offset_delta_of crc_step crc32c shortest varint_bytes varlong_bytes blob_bytes optional_bytes header_bytes header_list_bytes body_bytes record_bytes all_bytes u32_bytes ts_bytes no_producer late_head early_head sealed built stamped
opens = (refl, refl, refl)

-- what a newer epoch fences: an acknowledgement and a log restarted; and a replica out of sync isn't elected

abbrev fenced : List ActorList
fenced =
    list_of 0 (append 97 ∷ append 98 ∷ append 99 ∷ Flush ∷ Ack ∷ Raise 2 ∷ Trim ∷ Elect ∷ []) ∷ list_of 1 (Shrink ∷ Follow 1000 ∷ Join ∷ Ack ∷ Elect ∷ []) ∷ []

fences : (goes_on fenced 1 (dropping ++ answered 0 7 (answers.OkAt 1) ∷ answered 1 2 (answers.Rebuilt 2) ∷ []) ≡ false)
    × (goes_on fenced 1 (dropping ++ answered 0 7 (answers.OkAt 1) ∷ answered 1 2 (answers.StaleEpoch 1) ∷ answered 1 3 (answers.StaleEpoch 1) ∷ []) ≡ true)
    × (goes_on fenced 1 (dropping ++ answered 0 7 (answers.OkAt 1) ∷ answered 1 2 (answers.StaleEpoch 1) ∷ answered 1 3 (answers.OkAt 3) ∷ []) ≡ false)
    × (goes_on fenced 1 (dropping ++ answered 1 2 (answers.Rebuilt 2) ∷ answered 1 3 (answers.OkAt 3) ∷ answered 1 4 (answers.OkAt 1) ∷ []) ≡ false)
    × (goes_on fenced 1 (dropping ++ answered 1 2 (answers.Rebuilt 2) ∷ answered 1 3 (answers.OkAt 3) ∷ answered 1 4 answers.NotInSync ∷ []) ≡ true)
unfolding field_at base_of epoch_of last_offset_delta_of crc_step crc32c shortest varint_bytes varlong_bytes blob_bytes optional_bytes header_bytes header_list_bytes body_bytes record_bytes all_bytes u32_bytes ts_bytes no_producer late_head early_head sealed built stamped
fences = (refl, refl, refl, refl, refl)
