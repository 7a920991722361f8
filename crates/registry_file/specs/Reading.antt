-- What bytes say as a registry's file, or their first fault: each part as what it reads at the front of bytes, with
-- what follows it.
--
-- A fault is the place of the first field that is missing, is cut or breaks a rule, or of the first byte that follows
-- the last field. A rule on two fields is broken at the later of them. The places are those of the table in the module
-- Spelling.
use Rattle.std.specs.Prelude.{ℕ, zero, suc, ◌+◌, ◌*◌, ◌^◌, ◌==◌, ◌&&◌, nat_le, nat_lt, Bool}
use Rattle.std.specs.Prelude.{if◌then◌else◌, List, [], ◌∷◌, length, take, drop, Result, Ok, Err}
use Rattle.std.specs.Int.{Width, w16, w32, w64, byte_len, from_be_bytes}
use Rattle.registry.specs.declared.view.RegView.{RegView}
use Rattle.registry.specs.View.{has_bit, eight}
use Rattle.registry_file.specs.declared.refusal.RegFileRefusal.{RegFileRefusal}
use Rattle.registry_file.specs.declared.refusal.RegFileRefusal.TheVariants.{Bad}
use Rattle.registry_file.specs.declared.parts.Front.{Front}
use Rattle.registry_file.specs.declared.parts.Marks.{Marks}
use Rattle.registry_file.specs.Spelling.{magic}

-- what was read at the front, and what follows it
abbrev pub Read : Type 0 → Type 0
Read A = Result (A × List ℕ) RegFileRefusal

infixl 10 ◌>>=◌
-- the first fault ends it
abbrev pub ◌>>=◌ : {A B : Type 0} → Result A RegFileRefusal → (A → Result B RegFileRefusal) → Result B RegFileRefusal
(Ok x) >>= f = f x
(Err why) >>= f = Err why

-- what was read, where it passes a test
abbrev pub passing : {A : Type 0} → (A → Bool) → RegFileRefusal → Read A → Read A
passing test why (Ok x) = if test x.0 then Ok x else Err why
passing test why (Err fault) = Err fault

-- a field of so many bytes, at a place
abbrev pub cut_at : ℕ → ℕ → List ℕ → Read (List ℕ)
cut_at size at bytes = if nat_lt (length bytes) size then Err (Bad at) else Ok (take size bytes, drop size bytes)

-- a number, at a place
unfoldable pub number_at : Width → ℕ → List ℕ → Read ℕ
number_at w at bytes = do
  field ← cut_at (byte_len w) at bytes
  Ok (from_be_bytes w field.0, field.1)

-- a byte, at a place
abbrev pub byte_at : ℕ → List ℕ → Read ℕ
byte_at at [] = Err (Bad at)
byte_at at (b ∷ bytes) = Ok (b, bytes)

-- a count of brokers
abbrev pub count_may : ℕ → Bool
count_may n = nat_lt 0 n && nat_le n 8

-- the brokers in sync, of so many, may be these under this leader
abbrev pub sync_may : ℕ → ℕ → ℕ → Bool
sync_may brokers leader bits = nat_lt bits (2 ^ brokers) && has_bit bits leader

-- what precedes the marks
unfoldable pub front_at : List ℕ → Read Front
front_at bytes = do
  tag ← passing (λ n. n == magic) (Bad 0) (number_at w32 0 bytes)
  brokers ← passing count_may (Bad 4) (number_at w16 4 tag.1)
  epoch ← passing (λ n. nat_lt n (2 ^ 31)) (Bad 6) (number_at w32 6 brokers.1)
  leader ← passing (λ n. nat_lt n brokers.0) (Bad 10) (number_at w16 10 epoch.1)
  Ok (record { brokers = brokers.0; epoch = epoch.0; leader = record { 0 = leader.0 } }, leader.1)

-- the marks, and who is in sync of so many brokers under this leader
unfoldable pub marks_at : ℕ → ℕ → List ℕ → Read Marks
marks_at brokers leader bytes = do
  mark ← passing (λ n. nat_le n (2 ^ 62)) (Bad 12) (number_at w64 12 bytes)
  start ← passing (λ n. nat_le n mark.0) (Bad 20) (number_at w64 20 mark.1)
  in_sync ← passing (sync_may brokers leader) (Bad 28) (byte_at 28 start.1)
  Ok (record { mark = mark.0; start = start.0; in_sync = in_sync.0 }, in_sync.1)

-- an acknowledged end, at a place
abbrev pub end_at : ℕ → List ℕ → Read ℕ
end_at at bytes = passing (λ n. nat_le n (2 ^ 62)) (Bad at) (number_at w64 at bytes)

-- so many acknowledged ends, from a place on
abbrev pub ends_at : ℕ → ℕ → List ℕ → Read (List ℕ)
ends_at zero at bytes = Ok ([], bytes)
ends_at (suc more) at bytes = do
  end ← end_at at bytes
  others ← ends_at more (at + 8) end.1
  Ok (end.0 ∷ others.0, others.1)

-- so many acknowledged ends, in eight places
abbrev pub eight_at : ℕ → List ℕ → Read (List ℕ)
eight_at count bytes = do
  ends ← ends_at count 29 bytes
  Ok (eight ends.0, ends.1)

-- nothing follows at this place
abbrev pub whole : {A : Type 0} → ℕ → A → List ℕ → Result A RegFileRefusal
whole at x [] = Ok x
whole at x (b ∷ bytes) = Err (Bad at)

-- a view out of its parts
abbrev pub joined : Front → Marks → List ℕ → RegView
joined front marks acked = record {
  brokers = front.brokers;
  epoch = front.epoch;
  leader = front.leader;
  in_sync = marks.in_sync;
  acked = acked;
  mark = marks.mark;
  start = marks.start;
}

-- the view that bytes are, or their first fault
unfoldable pub view_in : List ℕ → Result RegView RegFileRefusal
view_in bytes = do
  front ← front_at bytes
  marks ← marks_at front.0.brokers front.0.leader.0 front.1
  acked ← eight_at front.0.brokers marks.1
  whole (29 + 8 * front.0.brokers) (joined front.0 marks.0 acked.0) acked.1

-- an answer, its value seen by view
abbrev pub seen : {X Y : Type 0} → (X → Y) → Result X RegFileRefusal → Result Y RegFileRefusal
seen view (Ok x) = Ok (view x)
seen view (Err why) = Err why
