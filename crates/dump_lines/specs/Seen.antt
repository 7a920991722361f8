-- What a dump finds at a position of a log segment.
--
--   a valid batch                                               it is shown, and the dump continues after it
--   a batch whose checksum is right, and which is compressed,
--   part of a transaction or a control batch                    the same, from its head
--   no byte                                                     the end
--   fewer bytes than a head has, or than the head says,
--   another magic or length, or a batch that fails a test       no batch: the dump ends there, with the first cause
use Rattle.std.specs.Prelude.{◌≡◌, ◌≤◌, ℕ, ◌==◌, nat_lt, Bool, true, false, if◌then◌else◌}
use Rattle.std.specs.Prelude.{List, length, take, Option, Some, None, Result, Ok, Err, IsOk}
use Rattle.record_batch.specs.declared.head.Head.{Head}
use Rattle.record_batch.specs.declared.refusal.HeadRefusal.{HeadRefusal}
use Rattle.record_batch.specs.declared.refusal.BatchRefusal.{BatchRefusal}
use Rattle.record_batch.specs.declared.refusal.BatchRefusal.TheVariants.{Short, Compressed, Transactional, Control}
use Rattle.record_batch.specs.Check.{head_in, checked, headed, of_head}
use Rattle.segment_file.specs.Walk.{size_in}
use Rattle.dump_lines.specs.declared.seeing.Ending.{Ending}
use Rattle.dump_lines.specs.declared.seeing.Ending.TheVariants as ending
use Rattle.dump_lines.specs.declared.seeing.Seen.{Seen}
use Rattle.dump_lines.specs.declared.seeing.Seen.TheVariants.{Batch, Ends}

-- the log refuses the batch only for its kind; its checksum is right
abbrev pub is_kind : BatchRefusal → Bool
is_kind Compressed = true
is_kind Transactional = true
is_kind Control = true
is_kind why = false

-- a batch that is shown
abbrev pub shown_at : ℕ → Head → Option BatchRefusal → Seen
shown_at at head refused = Batch (record { position = at; head = head; refused = refused })

-- a position without a valid batch
abbrev pub broken_at : ℕ → Option Head → BatchRefusal → Seen
broken_at at head why = Ends (ending.NoBatch (record { position = at; head = head; why = why }))

-- what the tests say of the batch of this head
abbrev pub judged_at : ℕ → Head → Result Head BatchRefusal → Seen
judged_at at head (Ok same) = shown_at at head None
judged_at at head (Err why) = if is_kind why then shown_at at head (Some why) else broken_at at (Some head) why

-- what follows a head
abbrev pub behind_at : ℕ → List ℕ → Result Head HeadRefusal → Seen
behind_at at bytes (Ok head) =
    if nat_lt (length bytes) (size_in head) then broken_at at None Short
    else judged_at at head (head_in (checked (take (size_in head) bytes)))
behind_at at bytes (Err why) = broken_at at None (of_head why)

-- what the bytes at a position begin with
unfoldable pub seen_at : ℕ → List ℕ → Seen
seen_at at bytes = if length bytes == 0 then Ends (ending.End at) else behind_at at bytes (headed bytes)

-- a batch that is shown is as long as its head says, at least a head, and within these bytes
abbrev pub IsBatchWithin : List ℕ → Seen → Type 0
IsBatchWithin bytes (Batch one) = size_in one.head ≤ length bytes
IsBatchWithin bytes (Ends ending) = Unit {0}

-- where a dump ends
abbrev pub place_of : Ending → ℕ
place_of (ending.End position) = position
place_of (ending.NoBatch broken) = broken.position

-- what is found at a position has that position
abbrev pub HasPosition : ℕ → Seen → Type 0
HasPosition at (Batch one) = one.position ≡ at
HasPosition at (Ends end) = place_of end ≡ at

-- a batch that is shown has this head
abbrev pub HasHead : Head → Seen → Type 0
HasHead head (Batch one) = one.head ≡ head
HasHead head (Ends end) = Unit {0}

-- a batch that isn't refused passes the tests of one
abbrev pub IsChecked : List ℕ → Seen → Type 0
IsChecked batch (Batch one) = one.refused ≡ None → IsOk (checked batch)
IsChecked batch (Ends end) = Unit {0}

-- the same, of a batch at the front of bytes
abbrev pub IsCheckedFront : List ℕ → Seen → Type 0
IsCheckedFront bytes (Batch one) = one.refused ≡ None → IsOk (checked (take (size_in one.head) bytes))
IsCheckedFront bytes (Ends end) = Unit {0}
