-- A view's entries, found by their ids.
use Rattle.std.proofs.Common.{◌≡◌, List, [], ◌∷◌, Bool, true, false, cond, Some, subst}
use Rattle.std.specs.Str.{bytes_eq}
use Rattle.std.proofs.lemmas.Option.{same_Some}
use Rattle.tier_base.specs.declared.names.SegmentId.{SegmentId}
use Rattle.segment_meta.specs.declared.note.Entry.{Entry}
use Rattle.remote_view.specs.Fold.{IsEntryValid, AreEntriesValid, entry_of}

-- the entry of an id was kept
pub entry_kept : (id : SegmentId) (entries : List Entry) (entry : Entry) → AreEntriesValid entries → entry_of id entries ≡ Some entry → IsEntryValid entry
entry_kept id [] entry all e = absurd (cc)
entry_kept id (x ∷ entries) entry all e = by (bytes_eq x.id.0 id.0) (λ rest. entry_kept id entries entry all.1 rest) e
  where
    by : (t : Bool) → (entry_of id entries ≡ Some entry → IsEntryValid entry) → cond t (Some x) (entry_of id entries) ≡ Some entry → IsEntryValid entry
    by true behind e = subst IsEntryValid (same_Some x entry e) all.0
    by false behind e = behind e
