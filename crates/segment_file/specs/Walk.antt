-- What is at a place of a log segment's bytes: batches, one after another, and nothing else.
--
--   a whole batch that passes the tests of one                          Batch, with its head
--   nothing                                                             End
--   fewer bytes than a head has, or than the head there tells           Cut
--   another magic or length, or bytes that pass not all of the tests    Bad
use Rattle.std.specs.Prelude.{ℕ, ◌+◌, ◌==◌, nat_lt, if◌then◌else◌, List, length, take, Result, Ok, Err}
use Rattle.std.specs.Int.{w32, cast_unsigned}
use Rattle.record_batch.specs.declared.head.Head.{Head}
use Rattle.record_batch.specs.declared.refusal.HeadRefusal.{HeadRefusal}
use Rattle.record_batch.specs.declared.refusal.HeadRefusal.TheVariants.{Short, BadMagic, BadLength}
use Rattle.record_batch.specs.declared.refusal.BatchRefusal.{BatchRefusal}
use Rattle.record_batch.specs.Check.{head_in, checked, headed}
use Rattle.segment_file.specs.declared.walking.Found.{Found}
use Rattle.segment_file.specs.declared.walking.Found.TheVariants.{Batch, End, Cut, Bad}

-- the bytes of the batch that a head gives: its batch_length counts from byte 12 on
abbrev pub size_in : Head → ℕ
size_in head = 12 + cast_unsigned w32 head.batch_length

-- what a batch's tests say of it
abbrev pub tested_at : ℕ → Result Head BatchRefusal → Found
tested_at at (Ok head) = Batch head
tested_at at (Err why) = Bad at

-- what follows a head
abbrev pub behind_at : ℕ → List ℕ → Result Head HeadRefusal → Found
behind_at at bytes (Ok head) =
    if nat_lt (length bytes) (size_in head) then Cut at
    else tested_at at (head_in (checked (take (size_in head) bytes)))
behind_at at bytes (Err Short) = Cut at
behind_at at bytes (Err BadMagic) = Bad at
behind_at at bytes (Err BadLength) = Bad at

-- what these bytes begin with, which are at a place
unfoldable pub found_at : ℕ → List ℕ → Found
found_at at bytes = if length bytes == 0 then End else behind_at at bytes (headed bytes)
