-- Each finished copy of a safe tier is readable.
use Rattle.std.proofs.Common.{◌≡◌, ◌∙◌, inl, refl, ap, sym, subst, ℕ, Bool, true, false, List, [], ◌∷◌, Some, None, arith, FitsSigned, cond}
use Rattle.std.specs.Prelude.{ℤ, int_lt}
use Rattle.std.specs.Int.{w64, int_max, cast_signed}
use Rattle.std.specs.Str.{bytes_eq}
use Rattle.std.specs.List.{AllByRecursion}
use Rattle.std.proofs.lemmas.Int.{ints}
use Rattle.tier_base.specs.declared.names.SegmentId.{SegmentId}
use Rattle.tier_base.specs.declared.plain.Part.TheVariants.{Epochs}
use Rattle.tier_base.specs.declared.object_key.ObjectKey.{ObjectKey}
use Rattle.log_terms.specs.Batch.{field_at, max_ts_of}
use Rattle.log_terms.specs.Line.{line_of}
use Rattle.log_terms.specs.Log.{end_of, end_from}
use Rattle.log_terms.proofs.Lists.{prefix_self}
use Rattle.log_terms.proofs.Logs.{end_append}
use Rattle.epoch_line.specs.Line.{cut_end, within}
use Rattle.epoch_line.specs.Text.{text_of}
use Rattle.segment_file.specs.Segment.{greatest_from, greatest_ts}
use Rattle.segment_bundle.specs.Parts.{Parts, first_offset, parts_of, part_in}
use Rattle.segment_meta.specs.declared.note.Entry.{Entry}
use Rattle.object_store.specs.Content.{Objects}
use Rattle.plain_log.specs.declared.state.State.{State as Plain}
use Rattle.plain_log.specs.Safe.{PlainSafe}
use Rattle.laws_partition.proofs.Lines.{cut_line}
use Rattle.remote_view.specs.Fold.{entry_of, AreDistinct}
use Rattle.remote_view.proofs.Ids.{same_id, bytes_self}
use Rattle.tier_safe.specs.Lineage.{IsStoredWhole}
use Rattle.tier_safe.specs.Kept.{whole_of}
use Rattle.tier_safe.proofs.Agreeing.{has_safe}
use Rattle.tier_safe.proofs.Basics.{key_is}
use Rattle.laws_tier_fetch.proofs.Reading.{first_is}
use Rattle.laws_rebuild.proofs.Lines.{whole_rises, epochs_are}
use Rattle.tier_audit.specs.Whole.{Describes, IsReadable, ArePut}
use Rattle.tier_audit.proofs.Putting.{copy_readable}
use Rattle.laws_audit.proofs.Within.{within_whole}

-- timestamps

read_fits : (n : ℕ) → FitsSigned w64 (cast_signed w64 n)
read_fits n = grind (arith, ints)

max_fits : (batch : List ℕ) → FitsSigned w64 (max_ts_of batch)
unfolding max_ts_of
max_fits batch = read_fits (field_at w64 35 batch)

greater_fits : (a b : ℤ) → FitsSigned w64 a → FitsSigned w64 b → FitsSigned w64 (int_max a b)
greater_fits a b h k = by (int_lt b a)
  where
    by : (t : Bool) → FitsSigned w64 (cond t a b)
    by true = h
    by false = k

from_fits : (ts : ℤ) (batches : List (List ℕ)) → FitsSigned w64 ts → FitsSigned w64 (greatest_from ts batches)
from_fits ts [] h = h
from_fits ts (batch ∷ batches) h = from_fits (int_max ts (max_ts_of batch)) batches (greater_fits ts (max_ts_of batch) h (max_fits batch))

-- the greatest timestamp of batches fits
greatest_fits : (batches : List (List ℕ)) → FitsSigned w64 (greatest_ts batches)
greatest_fits [] = grind (arith, ints)
greatest_fits (batch ∷ batches) = from_fits (max_ts_of batch) batches (max_fits batch)

-- what a finished copy holds

module _ (objects kept : Objects) (p : Plain) (entry : Entry) (s : PlainSafe p) (h : IsStoredWhole kept p.paths entry)
    (same : (key : ObjectKey) → key.id ≡ entry.id → objects key ≡ kept key) where
  described : Describes entry h.batches
  described =
      let d = h.describes in
      record { some = d.some; is = d.is; last_is = d.last_is; map_is = d.map_is; max_ts_is = d.max_ts_is; size_is = d.size_is }

  -- its epochs are those of its path up to its end
  abbrev line : List (ℕ × ℕ)
  line = line_of (whole_of h)

  -- the parts that it has
  abbrev own : Parts
  own = parts_of h.batches h.line h.interval

  epochs_same : part_in own Epochs ≡ part_in (parts_of h.batches line h.interval) Epochs
  epochs_same =
      let d = h.describes in
      let all = whole_of h in
      let safe = has_safe p d.part.epoch all s d.part.begins in
      let end : end_of all ≡ end_from (first_offset h.batches) h.batches =
      end_append 0 d.part.front h.batches ∙ ap (λ (n : ℕ). end_from n h.batches) (d.part.ends ∙ sym (first_is entry.start h.batches d.some d.is.consecutive)) in
      let cut : cut_end line (end_from (first_offset h.batches) h.batches) ≡ line =
      ap (cut_end line) (sym end) ∙ cut_line line all all safe.consecutive (inl refl) (prefix_self all) in
      epochs_are kept p entry h ∙ ap text_of (sym cut)

  -- and so are all its parts
  parts_same : own ≡ parts_of h.batches line h.interval
  parts_same = ap (λ (bytes : List ℕ). (let parts : Parts = record own { epochs = bytes } in parts)) epochs_same

  -- its objects hold them
  put : ArePut objects entry own
  put = record {
    stand = λ n key at. same key (ap (λ (k : ObjectKey). k.id) (key_is entry.partition entry.id entry.packed n key at)) ∙ h.stand n key at;
    custom = λ packed. (let told = h.custom packed in (told.is, told.fits));
  }

  map_within : within line entry.start entry.end ≡ entry.map
  map_within =
      let d = h.describes in
      let safe = has_safe p d.part.epoch (whole_of h) s d.part.begins in
      within_whole d.part.front h.batches entry.start entry.end d.some safe.consecutive d.is.consecutive d.part.ends d.last_is ∙ sym d.map_is

  -- so it is readable, wherever its objects exist
  pub stored_whole_readable : IsReadable objects entry
  stored_whole_readable =
      copy_readable objects entry h.batches line h.interval described
      (subst (λ (ts : ℤ). FitsSigned w64 ts) (sym h.describes.max_ts_is) (greatest_fits h.batches))
      (whole_rises kept p entry s h) map_within
      (subst (ArePut objects entry) parts_same put)

-- what holds of each entry that an id has holds of all
pub each_has : (P : Entry → Type 0) (entries : List Entry) → AreDistinct entries
    → ((id : SegmentId) (entry : Entry) → entry_of id entries ≡ Some entry → P entry) → AllByRecursion P entries
each_has P [] apart h = tt
each_has P (e ∷ es) apart h = (h e.id e (rw (bytes_self e.id.0) refl), each_has P es apart.1 (λ id entry there. h id entry (behind id entry there)))
  where
    behind : (id : SegmentId) (entry : Entry) → entry_of id es ≡ Some entry → entry_of id (e ∷ es) ≡ Some entry
    behind id entry there = by (bytes_eq e.id.0 id.0) refl
      where
        by : (t : Bool) → bytes_eq e.id.0 id.0 ≡ t → cond t (Some e) (entry_of id es) ≡ Some entry
        by false is = there
        by true is = absurd (let none : entry_of id es ≡ None = ap (λ (k : SegmentId). entry_of k es) (sym (same_id e.id id is)) ∙ apart.0 in cc (none, there))
