-- How far retention lets a log start rise.
--
-- The items are the pieces of remote segments from the log start offset on, one after another, as long as they end at
-- or below the known high watermark. Each counts the whole of its remote segment. Where segments aren't copied any
-- more, and the local log continues where the pieces end, its closed segments from there on are items too, as long as
-- they end at or below the known high watermark. After all of them the local segments count that end past the last one.
-- The log start offset comes to the end of the last item that is due.
--
-- Source: Kafka's retention.ms and retention.bytes, which count the remote log and what of the local log isn't
-- copied. A segment that is still to be copied never goes by them (KIP-405); where copying is disabled (KIP-950)
-- nothing is.
use Rattle.std.specs.Prelude.{ℕ, zero, suc, ◌-◌, ◌&&◌, ◌||◌, Bool, nat_lt, nat_le, if◌then◌else◌}
use Rattle.std.specs.Prelude.{List, [], ◌∷◌, ◌++◌, map, filter, sum, Option, Some, None}
use Rattle.std.specs.Prelude.{slice_get, ℤ, pos}
use Rattle.tier_base.specs.declared.plain.Item.{Item}
use Rattle.tier_base.specs.declared.plain.Keep.{Keep}
use Rattle.tier_base.specs.Counts.{counted}
use Rattle.segment_file.specs.Growing.{Grown, latest_ts}
use Rattle.local_log.specs.Stored.{end_of, size_of}
use Rattle.segment_meta.specs.declared.note.Entry.{Entry}
use Rattle.remote_view.specs.Fold.{entry_of}
use Rattle.remote_find.specs.declared.piece.Piece.{Piece}
use Rattle.retention_rule.specs.Due.{start_due}
use Rattle.expiry_task.specs.declared.rule.Uncopied.{Uncopied}

-- what retention asks about a piece of a remote segment that there may be
abbrev pub item_of : Piece → Option Entry → Item
item_of piece None = record { last = piece.to - 1; size = 0; max_ts = pos 0 }
item_of piece (Some entry) = record { last = piece.to - 1; size = entry.size; max_ts = entry.max_ts }

-- about each of these pieces
abbrev pub items_of : List Entry → List Piece → List Item
items_of entries [] = []
items_of entries (piece ∷ pieces) = item_of piece (entry_of piece.id entries) ∷ items_of entries pieces

-- where the last piece ends, or a start where there is none
abbrev pub end_from : ℕ → List Piece → ℕ
end_from start [] = start
end_from start (piece ∷ pieces) = end_from piece.to pieces

-- what retention asks about a closed segment, and where it ends
abbrev pub uncopied_of : Grown → Uncopied
uncopied_of segment = record {
  item = record { last = end_of segment - 1; size = size_of segment; max_ts = latest_ts segment.batches };
  end = end_of segment;
}

-- a segment ends past an offset, and at or below the known high watermark
abbrev pub is_within : ℕ → ℕ → Grown → Bool
is_within offset known segment = nat_lt offset (end_of segment) && nat_le (end_of segment) known

-- the closed segments that count with pieces that end at an offset: none where segments are copied, or where the
-- local log begins past it
abbrev pub uncopied : Bool → ℕ → ℕ → ℕ → List Grown → List Uncopied
uncopied copying local offset known closed =
    if copying || nat_lt offset local then [] else map uncopied_of (filter (is_within offset known) closed)

-- where the last of these ends, or an offset where there is none
abbrev pub end_behind : ℕ → List Uncopied → ℕ
end_behind offset [] = offset
end_behind offset (one ∷ more) = end_behind one.end more

-- the bytes of the segments that end past an offset
abbrev pub bytes_past : ℕ → List Grown → ℕ
bytes_past offset segments = sum (map size_of (filter (λ segment. nat_lt offset (end_of segment)) segments))

-- the bytes of the local log after an offset: of the closed segments, and of an open one that ends at the log's end; a
-- sum past 2^64 - 1 is there
abbrev pub rest_behind : ℕ → List Grown → ℕ → ℕ → ℕ
rest_behind offset closed open_size log_end =
    counted (if nat_lt offset log_end then open_size else 0) (bytes_past offset closed)

-- where so many items end, of which each ends here
abbrev pub end_of_first : ℕ → List ℕ → Option ℕ
end_of_first zero ends = None
end_of_first (suc count) ends = slice_get ends count

-- what retention asks about pieces and closed segments, and where each ends
abbrev pub all_items : List Entry → List Piece → List Uncopied → List Item
all_items entries pieces own = items_of entries pieces ++ map (λ one. one.item) own

abbrev pub all_ends : List Piece → List Uncopied → List ℕ
all_ends pieces own = map (λ piece. piece.to) pieces ++ map (λ one. one.end) own

-- where the log start offset comes to, where it rises
abbrev pub raised_to : List Entry → List Piece → List Uncopied → ℕ → ℤ → Keep → Option ℕ
raised_to entries pieces own rest now keep =
    end_of_first (start_due (all_items entries pieces own) rest now keep) (all_ends pieces own)
