-- The definitions, tried on a script whose bytes are known from elsewhere: two appends, a flush, an acknowledgement
-- and a fetch.
use Rattle.std.proofs.Common.{◌≡◌, ℕ, List, [], ◌∷◌, ◌++◌, Some, None, true, false, refl}
use Rattle.std.specs.Prelude.{is_some, pos}
use Rattle.tier_base.specs.declared.plain.Stop.TheVariants.{Mark, Limit}
use Rattle.log_terms.specs.Batch.{field_at, base_of, epoch_of, last_offset_delta_of}
use Rattle.batch_prims.specs.Crc.{step as crc_step, crc32c}
use Rattle.batch_prims.specs.Varint.{shortest, varint_bytes, varlong_bytes}
use Rattle.record_batch.specs.declared.rec.Rec.{Rec}
use Rattle.record_batch.specs.Record.{blob_bytes, optional_bytes, header_bytes, header_list_bytes, body_bytes, record_bytes}
use Rattle.record_batch.specs.Build.{all_bytes, u32_bytes, ts_bytes, no_producer, late_head, early_head, sealed, built}
use Rattle.record_batch.specs.Stamp.{stamped}
use Rattle.plain_log.specs.declared.answer.Tier.TheVariants.{Local}
use Rattle.plain_log.specs.declared.answer.Answer.{Answer}
use Rattle.plain_log.specs.declared.answer.Answer.TheVariants.{OkAt, OkSpan, Empty, Run}
use Rattle.plain_log.specs.declared.command.Command.{Command}
use Rattle.plain_log.specs.declared.command.Command.TheVariants.{Append, Flush, Ack, Fetch}
use Rattle.plain_log.specs.declared.command.Order.{Order}
use Rattle.plain_log.specs.declared.command.ActorList.{ActorList}
use Rattle.plain_log.specs.declared.journal.Event.TheVariants.{Answers}
use Rattle.plain_log.specs.declared.journal.JournalEntry.{JournalEntry}
use Rattle.plain_log.specs.Runs.{replay}
use Rattle.plain_log.specs.Fresh.{fresh_state}

-- a record of time 1000 with one byte
abbrev rec_of : ℕ → Rec
rec_of letter = record { ts = pos 1000; key = None; value = Some (letter ∷ []); headers = [] }

-- the record `a` at base offset 0
abbrev first_batch : List ℕ
first_batch =
    0 ∷ 0 ∷ 0 ∷ 0 ∷ 0 ∷ 0 ∷ 0 ∷ 0 ∷ 0 ∷ 0 ∷ 0 ∷ 57 ∷ 0 ∷ 0 ∷ 0 ∷ 0 ∷ 2 ∷ 235 ∷ 241 ∷ 136 ∷ 75 ∷ 0 ∷ 0 ∷ 0 ∷ 0 ∷ 0
    ∷ 0 ∷ 0 ∷ 0 ∷ 0 ∷ 0 ∷ 0 ∷ 0 ∷ 3 ∷ 232 ∷ 0 ∷ 0 ∷ 0 ∷ 0 ∷ 0 ∷ 0 ∷ 3 ∷ 232 ∷ 255 ∷ 255 ∷ 255 ∷ 255 ∷ 255 ∷ 255 ∷
    255 ∷ 255 ∷ 255 ∷ 255 ∷ 255 ∷ 255 ∷ 255 ∷ 255 ∷ 0 ∷ 0 ∷ 0 ∷ 1 ∷ 14 ∷ 0 ∷ 0 ∷ 0 ∷ 1 ∷ 2 ∷ 97 ∷ 0 ∷ []

-- the record `b` at base offset 1
abbrev second_batch : List ℕ
second_batch =
    0 ∷ 0 ∷ 0 ∷ 0 ∷ 0 ∷ 0 ∷ 0 ∷ 1 ∷ 0 ∷ 0 ∷ 0 ∷ 57 ∷ 0 ∷ 0 ∷ 0 ∷ 0 ∷ 2 ∷ 223 ∷ 22 ∷ 32 ∷ 210 ∷ 0 ∷ 0 ∷ 0 ∷ 0 ∷ 0 ∷
    0 ∷ 0 ∷ 0 ∷ 0 ∷ 0 ∷ 0 ∷ 0 ∷ 3 ∷ 232 ∷ 0 ∷ 0 ∷ 0 ∷ 0 ∷ 0 ∷ 0 ∷ 3 ∷ 232 ∷ 255 ∷ 255 ∷ 255 ∷ 255 ∷ 255 ∷ 255 ∷
    255 ∷ 255 ∷ 255 ∷ 255 ∷ 255 ∷ 255 ∷ 255 ∷ 255 ∷ 0 ∷ 0 ∷ 0 ∷ 1 ∷ 14 ∷ 0 ∷ 0 ∷ 0 ∷ 1 ∷ 2 ∷ 98 ∷ 0 ∷ []

abbrev to_leader : Command → Order
to_leader command = record { broker = record { 0 = 0 }; command = command }

abbrev lists : List ActorList
lists = record {
  actor = record { 0 = 0 };
  orders = to_leader (Append (rec_of 97 ∷ [])) ∷ to_leader (Append (rec_of 98 ∷ [])) ∷ to_leader Flush ∷ to_leader Ack ∷ to_leader (Fetch 0 1000) ∷ [];
} ∷ []

abbrev entry : ℕ → Answer → JournalEntry
entry number answer = record { actor = record { 0 = 0 }; number = number; event = Answers answer }

-- the first four answers
abbrev snapshot : List JournalEntry
snapshot = entry 0 (OkSpan 0 0 0) ∷ entry 1 (OkSpan 1 1 0) ∷ entry 2 (OkAt 2) ∷ entry 3 (OkAt 2) ∷ []

-- the fetch is answered by both batches
allowed : is_some (replay lists (fresh_state 0) (snapshot ++ entry 4 (Run (Local 0) 138 Mark (first_batch ++ second_batch)) ∷ [])) ≡ true
unfolding field_at base_of epoch_of last_offset_delta_of crc_step crc32c shortest varint_bytes varlong_bytes blob_bytes optional_bytes header_bytes header_list_bytes body_bytes record_bytes all_bytes u32_bytes ts_bytes no_producer late_head early_head sealed built stamped
allowed = refl

-- not by the first alone, whose next batch would fit the limit
refused_short : is_some (replay lists (fresh_state 0) (snapshot ++ entry 4 (Run (Local 0) 69 Limit first_batch) ∷ [])) ≡ false
unfolding field_at base_of epoch_of last_offset_delta_of crc_step crc32c shortest varint_bytes varlong_bytes blob_bytes optional_bytes header_bytes header_list_bytes body_bytes record_bytes all_bytes u32_bytes ts_bytes no_producer late_head early_head sealed built stamped
refused_short = refl

-- nor by nothing
refused_empty : is_some (replay lists (fresh_state 0) (snapshot ++ entry 4 Empty ∷ [])) ≡ false
unfolding field_at base_of epoch_of last_offset_delta_of crc_step crc32c shortest varint_bytes varlong_bytes blob_bytes optional_bytes header_bytes header_list_bytes body_bytes record_bytes all_bytes u32_bytes ts_bytes no_producer late_head early_head sealed built stamped
refused_empty = refl
