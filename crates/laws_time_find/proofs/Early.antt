-- What a search passes over is too early: segments by their entries, and what is in front of the batch that a time index shows.
use Rattle.std.proofs.Common.{◌≡◌, inl, inr, ◌∙◌, sym, ap, subst, refl, ℕ, ◌<◌, ◌≤◌, max, true, List, [], ◌∷◌, Some, None, Option, slice_get, arith}
use Rattle.std.specs.Prelude.{ℤ, ◌<ℤ◌, ◌≤ℤ◌, int_lt}
use Rattle.std.specs.Int.{int_max}
use Rattle.std.proofs.lemmas.Bool.{cases_lt}
use Rattle.std.proofs.lemmas.Int.{ints}
use Rattle.tier_base.specs.Told.{In}
use Rattle.log_terms.specs.Batch.{last_of, max_ts_of}
use Rattle.log_terms.specs.Log.{IsConsecutive, end_of}
use Rattle.log_terms.proofs.Logs.{consecutive_prefix, prefix_end}
use Rattle.segment_file.specs.Segment.{greatest_from, greatest_ts}
use Rattle.segment_meta.specs.declared.note.Entry.{Entry}
use Rattle.plain_log.specs.declared.state.State.{State as Plain}
use Rattle.plain_log.specs.declared.state.Broker.{Broker}
use Rattle.plain_log.specs.Safe.{PlainSafe}
use Rattle.remote_view.specs.Fold.{EntriesSeen, entry_of, fold}
use Rattle.remote_find.specs.declared.piece.Piece.{Piece}
use Rattle.remote_find.specs.Pieces.{piece_at}
use Rattle.tier_safe.specs.Scene.{Scene}
use Rattle.tier_safe.specs.Views.{IsViewOf}
use Rattle.tier_safe.specs.Fetches.{PieceStands}
use Rattle.tier_safe.specs.Safe.{TierSafe}
use Rattle.tier_safe.specs.Kept.{whole_of}
use Rattle.tier_safe.specs.Reads.{IsRightView, TellsEpochs}
use Rattle.tier_safe.proofs.Agreeing.{has_safe}
use Rattle.tier_safe.proofs.Basics.{one_some}
use Rattle.tier_safe.proofs.Entries.{prefix_goes}
use Rattle.tier_safe.proofs.Lookups.{found_stands}
use Rattle.tier_safe.proofs.Serving.{FetchReads, piece_reads}
use Rattle.time_find.specs.declared.turn.Asked.{Asked}
use Rattle.time_find.specs.Passing.{is_early, Passes, Stays, Over}
use Rattle.laws_time_find.specs.Passed.{HasPassed}
use Rattle.laws_time_find.proofs.Dates.{in_front, in_beginning, in_rest, each_early, early_each}

-- the greatest timestamp

left_max : (a b : ℤ) → a ≤ℤ int_max a b
left_max a b = grind (arith, ints)

right_max : (a b : ℤ) → b ≤ℤ int_max a b
right_max a b = grind (arith, ints)

le_self : (a : ℤ) → a ≤ℤ a
le_self a = grind (arith, ints)

le_then : (a b c : ℤ) → a ≤ℤ b → b ≤ℤ c → a ≤ℤ c
le_then a b c h k = grind (arith, ints)

lt_then : (a b c : ℤ) → a ≤ℤ b → int_lt b c ≡ true → a <ℤ c
lt_then a b c h k = grind (arith, ints)

from_least : (ts : ℤ) (xs : List (List ℕ)) → ts ≤ℤ greatest_from ts xs
from_least ts [] = le_self ts
from_least ts (x ∷ xs) = le_then ts (int_max ts (max_ts_of x)) (greatest_from (int_max ts (max_ts_of x)) xs) (left_max ts (max_ts_of x)) (from_least (int_max ts (max_ts_of x)) xs)

in_from_greatest : (ts : ℤ) (xs : List (List ℕ)) (b : List ℕ) → In b xs → max_ts_of b ≤ℤ greatest_from ts xs
in_from_greatest ts [] b there = absurd there
in_from_greatest ts (x ∷ xs) b (inl here) =
    le_then (max_ts_of b) (int_max ts (max_ts_of x)) (greatest_from (int_max ts (max_ts_of x)) xs)
    (subst (λ (c : List ℕ). max_ts_of c ≤ℤ int_max ts (max_ts_of x)) (sym here) (right_max ts (max_ts_of x)))
    (from_least (int_max ts (max_ts_of x)) xs)
in_from_greatest ts (x ∷ xs) b (inr there) = in_from_greatest (int_max ts (max_ts_of x)) xs b there

in_greatest : (xs : List (List ℕ)) (b : List ℕ) → In b xs → max_ts_of b ≤ℤ greatest_ts xs
in_greatest [] b there = absurd there
in_greatest (x ∷ xs) b (inl here) = subst (λ (c : List ℕ). max_ts_of c ≤ℤ greatest_from (max_ts_of x) xs) (sym here) (from_least (max_ts_of x) xs)
in_greatest (x ∷ xs) b (inr there) = in_from_greatest (max_ts_of x) xs b there

-- so a segment whose entry's is too early has no later batch
pub copy_early : (c : Scene) (p : Plain) (x : Broker) (piece : Piece) (ts : ℤ) → (r : FetchReads c p x piece) → int_lt r.entry.max_ts ts ≡ true → (b : List ℕ) → In b r.stored_whole.batches → max_ts_of b <ℤ ts
copy_early c p x piece ts r early b there =
    lt_then (max_ts_of b) r.entry.max_ts ts
    (subst (λ (t : ℤ). max_ts_of b ≤ℤ t) (sym r.stored_whole.describes.max_ts_is) (in_greatest r.stored_whole.batches b there)) early

-- pieces

-- a batch of the log that ends in a piece is one of its copy
pub of_piece : (c : Scene) (p : Plain) (n : ℕ) (x : Broker) (piece : Piece) → PlainSafe p → slice_get p.brokers n ≡ Some x → (r : FetchReads c p x piece) → (b : List ℕ) → In b x.log
    → piece.from ≤ last_of b → last_of b < piece.to → In b r.stored_whole.batches
of_piece c p n x piece s bx r b there low high =
    let part = r.stored_whole.describes.part in
    let safe = has_safe p part.epoch (whole_of r.stored_whole) s part.begins in
    let own = consecutive_prefix 0 part.front (whole_of r.stored_whole) (r.stored_whole.batches, refl) safe.consecutive in
    let shares = r.shares in
    let past = shares.past in
    let within = r.within in
    let ends = part.ends in
    let log = (s.brokers n x bx).log.consecutive in
    let first = in_beginning 0 shares.front shares.two.0 b (subst (IsConsecutive 0) (sym shares.two.1) log) (subst (λ (l : List (List ℕ)). In b l) (sym shares.two.1) there) (omega (arith, past, high)) in
    let whole : In b (whole_of r.stored_whole) = subst (λ (l : List (List ℕ)). In b l) shares.one.1 (in_front b shares.front shares.one.0 first) in
    in_rest 0 part.front r.stored_whole.batches b own whole (omega (arith, ends, within.0, low))

-- a piece ends within the log
pub piece_within : (c : Scene) (p : Plain) (n : ℕ) (x : Broker) (piece : Piece) → PlainSafe p → slice_get p.brokers n ≡ Some x → FetchReads c p x piece → piece.to ≤ end_of x.log
piece_within c p n x piece s bx r =
    let shares = r.shares in
    let past = shares.past in
    let below = prefix_end shares.front x.log (s.brokers n x bx).log.consecutive shares.two in
    omega (arith, past, below)

-- continuing

-- a search that has gone through up to one offset has up to another, where what ends between them is too early
pub passed_more : (ts : ℤ) (start from to : ℕ) (log : List (List ℕ)) → IsConsecutive 0 log → HasPassed ts start log from → to ≤ end_of log
    → ((b : List ℕ) → In b log → from ≤ last_of b → last_of b < to → max_ts_of b <ℤ ts) → HasPassed ts start log to
passed_more ts start from to log c h within more =
    let each = each_early ts start from log c h.early in
    record {
      within = inside to start (end_of log) within;
      early = early_each ts start to log c (λ b there low high. elim (cases_lt (last_of b) from) [
        | inl before ↦ each b there low before
        | inr behind ↦ more b there behind high
      ]);
    }
  where
    inside : (t s e : ℕ) → t ≤ e → t ≤ max s e
    inside t s e h = omega (arith, h)

-- and up to one before it
pub passed_less : (ts : ℤ) (start from to : ℕ) (log : List (List ℕ)) → IsConsecutive 0 log → HasPassed ts start log from → to ≤ from → HasPassed ts start log to
passed_less ts start from to log c h le =
    let each = each_early ts start from log c h.early in
    record {
      within = below to from (max start (end_of log)) le h.within;
      early = early_each ts start to log c (λ b there low high. each b there low (omega (arith, high, le)));
    }
  where
    below : (t f m : ℕ) → t ≤ f → f ≤ m → t ≤ m
    below t f m h k = omega (arith, h, k)

-- segments that are passed over

-- the entry that is too early
record Early (ts : ℤ) (found : Option Entry) : Type 0 where
  pub entry : Entry
  pub there : found ≡ Some entry
  pub is : int_lt entry.max_ts ts ≡ true

early_is : (ts : ℤ) (found : Option Entry) → is_early ts found ≡ true → Early ts found
early_is ts None is = absurd (cc (is))
early_is ts (Some entry) is = record { entry = entry; there = refl; is = is }

-- one piece
pub over_piece : (c : Scene) (p : Plain) (n : ℕ) (x : Broker) (view : EntriesSeen) (ts : ℤ) (at : ℕ) (piece : Piece) → PlainSafe p → TierSafe c p → slice_get p.brokers n ≡ Some x → IsViewOf c.notes view
    → PieceStands c.notes x.log at piece → p.registry.start ≤ at → is_early ts (entry_of piece.id view.entries) ≡ true → HasPassed ts p.registry.start x.log at
    → HasPassed ts p.registry.start x.log piece.to
over_piece c p n x view ts at piece s h bx v k past is passed =
    let r = piece_reads at n piece c p x s h bx k past in
    let e = early_is ts (entry_of piece.id view.entries) is in
    let there : entry_of piece.id (fold v.before) ≡ Some e.entry = subst (λ (w : EntriesSeen). entry_of piece.id w.entries ≡ Some e.entry) v.is e.there in
    let y = prefix_goes v.before c.notes piece.id e.entry v.begins there in
    let same : y.0 ≡ r.entry = one_some (entry_of piece.id (fold c.notes)) y.0 r.entry y.1 r.there in
    let ts_is : r.entry.max_ts ≡ e.entry.max_ts = sym (ap (λ (z : Entry). z.max_ts) same) ∙ y.2.max_ts in
    let early : int_lt r.entry.max_ts ts ≡ true = ap (λ (t : ℤ). int_lt t ts) ts_is ∙ e.is in
    let holds = k.holds in
    passed_more ts p.registry.start at piece.to x.log (s.brokers n x bx).log.consecutive passed (piece_within c p n x piece s bx r)
    (λ b log low high. copy_early c p x piece ts r early b (of_piece c p n x piece s bx r b log (omega (arith, holds.0, low)) high))

-- all of them
pub over_all : (c : Scene) (p : Plain) (n : ℕ) (x : Broker) (view : EntriesSeen) (asked : Asked) (line : List (ℕ × ℕ)) → PlainSafe p → TierSafe c p → slice_get p.brokers n ≡ Some x
    → IsViewOf c.notes view → IsRightView view → TellsEpochs line x.log → asked.log_end ≡ end_of x.log → (cursor at : ℕ) → Passes asked line view.entries cursor at → p.registry.start ≤ cursor
    → HasPassed asked.ts p.registry.start x.log cursor → (cursor ≤ at) × HasPassed asked.ts p.registry.start x.log at
over_all c p n x view asked line s h bx v right is_observable end cursor at (Stays m) past passed = (omega arith, passed)
over_all c p n x view asked line s h bx v right is_observable end cursor at (Over m k piece inner below found is) past passed =
    let r = over_all c p n x view asked line s h bx v right is_observable end m k inner past passed in
    let made : piece_at view.entries line (end_of x.log) k ≡ Some piece = subst (λ (e : ℕ). piece_at view.entries line e k ≡ Some piece) end found in
    let stands = found_stands c.notes view line x.log k piece v right is_observable made in
    let up = r.0 in
    let holds = stands.holds in
    (omega (arith, up, holds.1), over_piece c p n x view asked.ts k piece s h bx v stands (omega (arith, past, up)) is r.1)
