-- What a fetch and a rebuild on the desk read is of the log that they are for.
use Rattle.std.proofs.Common.{◌≡◌, ◌∙◌, sym, ap, subst, refl, ℕ, ◌+◌, ◌-◌, ◌<◌, ◌≤◌, List, ◌∷◌, ◌++◌, Some, slice_get, arith}
use mathlib.Core.List.{IsPrefix}
use Rattle.tier_base.specs.declared.plain.State.TheVariants.{CopyFinished}
use Rattle.log_terms.specs.Line.{epoch_at}
use Rattle.log_terms.specs.Log.{IsConsecutive, end_of, from_offset}
use Rattle.log_terms.proofs.Lists.{prefix_self}
use Rattle.log_terms.proofs.Logs.{one_end, prefix_end, consecutive_prefix}
use Rattle.sparse_index.specs.Offsets.{OffsetTable, find}
use Rattle.segment_file.specs.Index.{placed_from, index_of}
use Rattle.segment_meta.specs.declared.note.Entry.{Entry}
use Rattle.plain_log.specs.declared.state.Broker.{Broker}
use Rattle.plain_log.specs.declared.state.State.{State as Plain}
use Rattle.plain_log.specs.Safe.{PlainSafe}
use Rattle.remote_view.specs.Fold.{EntriesSeen, entry_of, fold}
use Rattle.remote_find.specs.declared.piece.Piece.{Piece}
use Rattle.tier_safe.specs.Scene.{BrokerTierView, Sought, Seeks, Scene}
use Rattle.tier_safe.specs.Lineage.{IsStoredWhole}
use Rattle.tier_safe.specs.Fetches.{StillLeads, PieceStands}
use Rattle.tier_safe.specs.Safe.{TierSafe}
use Rattle.tier_safe.specs.Kept.{Shares, whole_of}
use Rattle.tier_safe.specs.Reads.{FetchesAreServed, RebuildsAreServed}
use Rattle.tier_safe.proofs.Entries.{prefix_goes}
use Rattle.tier_safe.proofs.Covering.{holding_same, covers_is, finished_stays}
use Rattle.tier_safe.proofs.Agreeing.{has_safe, map_at, entry_agrees, describes_one}
use Rattle.tier_safe.proofs.Runs.{runs_same, next_same, from_back}

-- a fetch

-- the piece's copy is finished, its objects exist, and its batches are the log's up to the piece's end
pub record FetchReads (c : Scene) (p : Plain) (x : Broker) (piece : Piece) : Type 0 where
  pub entry : Entry
  pub there : entry_of piece.id (fold c.notes) ≡ Some entry
  pub finished : entry.state ≡ CopyFinished
  pub stored_whole : IsStoredWhole c.objects p.paths entry
  pub within : (entry.start ≤ piece.from) × (piece.to ≤ entry.end + 1)
  pub shares : Shares (whole_of stored_whole) x.log (piece.to - 1)

-- a piece that represents a log has such a copy, while the log start offset isn't above its offset
pub piece_reads : (offset b : ℕ) (piece : Piece) (c : Scene) (p : Plain) (x : Broker) → PlainSafe p → TierSafe c p → slice_get p.brokers b ≡ Some x
    → PieceStands c.notes x.log offset piece → p.registry.start ≤ offset → FetchReads c p x piece
piece_reads offset b piece c p x s h x_is k past =
    let y = prefix_goes k.before c.notes piece.id k.entry k.begins k.there in
    let holds = k.holds in
    let within = k.within in
    let high : offset ≤ k.entry.end = omega (arith, holds.1, within.1) in
    let done = finished_stays c.notes c.notes k.before p.registry.start offset piece.id k.entry y.0 h.deletions.ended k.begins (prefix_self c.notes) k.there k.finished past high y.1 y.2 in
    let stored_whole = h.finished piece.id y.0 y.1 done in
    let low : piece.from ≤ piece.to - 1 = omega (arith, holds.0, holds.1) in
    let last : piece.to - 1 < piece.to = omega (arith, holds.1) in
    let map : epoch_at y.0.map (piece.to - 1) ≡ Some k.epoch = ap (λ (l : List (ℕ × ℕ)). epoch_at l (piece.to - 1)) y.2.map ∙ k.of_copy (piece.to - 1) low last in
    record {
      entry = y.0;
      there = y.1;
      finished = done;
      stored_whole = stored_whole;
      within = (omega (arith, within.0, y.2.start), omega (arith, within.1, y.2.end));
      shares = entry_agrees p y.0 stored_whole.batches stored_whole.line x.log (piece.to - 1) k.epoch s stored_whole.describes (s.brokers b x x_is).log
          (omega (arith, within.0, y.2.start, low)) (omega (arith, within.1, y.2.end, holds.1)) map (k.of_log (piece.to - 1) low last);
    }

-- so does that of a fetch on the desk
pub fetch_reads : (a : ℕ) (sought : Sought) (piece : Piece) (c : Scene) (p : Plain) (tier_view : BrokerTierView) (x : Broker) → PlainSafe p → TierSafe c p
    → slice_get c.desk a ≡ Some (Seeks sought) → slice_get c.tier_views sought.broker ≡ Some tier_view → slice_get p.brokers sought.broker ≡ Some x
    → sought.piece ≡ Some piece → StillLeads sought x → p.registry.start ≤ sought.offset → FetchReads c p x piece
fetch_reads a sought piece c p tier_view x s h actor_state tier_view_is x_is is leads past =
    piece_reads sought.offset sought.broker piece c p x s h x_is ((h.fetches a sought tier_view x actor_state tier_view_is x_is).piece piece is leads past) past

-- its position is the one that the index of the same batches gives
pub fetch_from : (a : ℕ) (sought : Sought) (piece : Piece) (from : ℕ) (c : Scene) (p : Plain) (tier_view : BrokerTierView) (x : Broker) → PlainSafe p → TierSafe c p
    → slice_get c.desk a ≡ Some (Seeks sought) → slice_get c.tier_views sought.broker ≡ Some tier_view → slice_get p.brokers sought.broker ≡ Some x
    → sought.piece ≡ Some piece → sought.from ≡ Some from → StillLeads sought x → p.registry.start ≤ sought.offset
    → (r : FetchReads c p x piece)
    → (interval : ℕ) × (from ≡ (find (index_of r.entry.start interval (placed_from 0 r.stored_whole.batches)) sought.offset).1)
fetch_from a sought piece from c p tier_view x s h actor_state tier_view_is x_is is read leads past r =
    let i = (h.fetches a sought tier_view x actor_state tier_view_is x_is).from piece from is read leads past r.entry r.there r.finished in
    let k = i.1 in
    let one = describes_one p r.entry k.batches r.stored_whole.batches k.line r.stored_whole.line s k.describes r.stored_whole.describes in
    let same = k.is ∙ ap (λ (b : List (List ℕ)). index_of r.entry.start k.interval (placed_from 0 b)) one in
    (k.interval, i.2 ∙ ap (λ (t : OffsetTable). (find t sought.offset).1) same)

pub fetch_runs : (c : Scene) (p : Plain) (x : Broker) (piece : Piece) (offset : ℕ) (run : List (List ℕ)) → PlainSafe p → (r : FetchReads c p x piece)
    → piece.from ≤ offset → offset < piece.to → IsPrefix run (from_offset offset r.stored_whole.batches) → end_of run ≤ piece.to → IsPrefix run (from_offset offset x.log)
fetch_runs c p x piece offset run s r low high pre below =
    let part = r.stored_whole.describes.part in
    let safe = has_safe p part.epoch (whole_of r.stored_whole) s part.begins in
    let front = consecutive_prefix 0 part.front (whole_of r.stored_whole) (r.stored_whole.batches, refl) safe.consecutive in
    let back = from_back 0 offset part.front r.stored_whole.batches front (omega (arith, part.ends, r.within.0, low)) in
    runs_same (whole_of r.stored_whole) x.log run offset (piece.to - 1) r.shares safe.consecutive (omega (arith, high))
    (subst (λ (l : List (List ℕ)). IsPrefix run l) (sym back) pre) (omega (arith, below, high))

-- and the batch after them, where they end before the piece does
pub fetch_next : (c : Scene) (p : Plain) (x : Broker) (piece : Piece) (offset : ℕ) (first batch : List ℕ) (run rest : List (List ℕ)) → PlainSafe p → (r : FetchReads c p x piece)
    → piece.from ≤ offset → offset < piece.to → from_offset offset r.stored_whole.batches ≡ (first ∷ run) ++ batch ∷ rest → end_of (first ∷ run) < piece.to
    → (more : List (List ℕ)) × (from_offset offset x.log ≡ (first ∷ run) ++ batch ∷ more)
fetch_next c p x piece offset first batch run rest s r low high is below =
    let part = r.stored_whole.describes.part in
    let safe = has_safe p part.epoch (whole_of r.stored_whole) s part.begins in
    let front = consecutive_prefix 0 part.front (whole_of r.stored_whole) (r.stored_whole.batches, refl) safe.consecutive in
    let back = from_back 0 offset part.front r.stored_whole.batches front (omega (arith, part.ends, r.within.0, low)) in
    next_same (whole_of r.stored_whole) x.log run first batch rest offset (piece.to - 1) r.shares safe.consecutive (omega (arith, high)) (back ∙ is) (omega (arith, below, high))

-- what a fetch reads is its log's
pub fetches_served : FetchesAreServed
fetches_served c p a sought piece tier_view x both actor_state tier_view_is x_is is leads past =
    let r = fetch_reads a sought piece c p tier_view x both.plain both.tier actor_state tier_view_is x_is is leads past in
    let k = (both.tier.fetches a sought tier_view x actor_state tier_view_is x_is).piece piece is leads past in
    record {
      entry = r.entry;
      there = r.there;
      partition = both.tier.partition.told piece.id r.entry r.there;
      finished = r.finished;
      stored_whole = r.stored_whole;
      runs = λ run pre below. fetch_runs c p x piece sought.offset run both.plain r k.holds.0 k.holds.1 pre below;
      from = λ from read. fetch_from a sought piece from c p tier_view x both.plain both.tier actor_state tier_view_is x_is is read leads past r;
    }

-- a rebuild

-- what a log and a beginning of it share, past the beginning's last offset, is all of the beginning
shares_all : (whole front : List (List ℕ)) (n : ℕ) → IsConsecutive 0 front → end_of front ≡ n → 0 < n → Shares whole front (n - 1) → IsPrefix front whole
shares_all whole front n c ends some m =
    let le = prefix_end m.front front c m.two in
    let all : m.front ≡ front = one_end 0 m.front front front c m.two (prefix_self front) (omega (arith, ends, m.past, le, some)) in
    subst (λ (w : List (List ℕ)). IsPrefix w whole) all m.one

-- what a rebuild reads is the path's
pub rebuilds_served : RebuildsAreServed
rebuilds_served c p a r tier_view id x e both actor_state tier_view_is below found gives holds =
    let s = both.plain in
    let h = both.tier in
    let k = h.rebuilds a r actor_state in
    let v = h.views r.broker tier_view tier_view_is in
    let t = covers_is e (r.wanted - 1) x gives in
    let there : entry_of id (fold v.before) ≡ Some x = subst (λ (w : EntriesSeen). entry_of id w.entries ≡ Some x) v.is found in
    let y = prefix_goes v.before c.notes id x v.begins there in
    let done = finished_stays c.notes c.notes v.before p.registry.start (r.wanted - 1) id x y.0 h.deletions.ended v.begins (prefix_self c.notes) there t.finished (omega (arith, below)) t.to y.1 y.2 in
    let stored_whole = h.finished id y.0 y.1 done in
    let map : epoch_at y.0.map (r.wanted - 1) ≡ Some e = ap (λ (l : List (ℕ × ℕ)). epoch_at l (r.wanted - 1)) y.2.map ∙ t.gives in
    let sf = has_safe p r.epoch k.front s k.begins in
    let sa = has_safe p stored_whole.describes.part.epoch (whole_of stored_whole) s stored_whole.describes.part.begins in
    let m = entry_agrees p y.0 stored_whole.batches stored_whole.line k.front (r.wanted - 1) e s stored_whole.describes sf (omega (arith, t.from, y.2.start)) (omega (arith, t.to, y.2.end)) map holds in
    let ends = k.ends in
    let begins = shares_all (whole_of stored_whole) k.front r.wanted sf.consecutive ends (omega (arith, below)) m in
    let high = prefix_end k.front (whole_of stored_whole) sa.consecutive begins in
    record {
      entry = y.0;
      there = y.1;
      partition = h.partition.told id y.0 y.1;
      stored_whole = stored_whole;
      begins = begins;
      says = λ o low.
          map_at 0 (whole_of stored_whole) o sa.consecutive (omega arith) (omega (arith, low, ends, high))
          ∙ holding_same 0 k.front (whole_of stored_whole) o begins (omega arith) (omega (arith, low, ends));
    }
