use Rattle.std.proofs.Common.{inl, inr, ◌≡◌, ◌∙◌, ◌+◌, ◌<◌, ◌≤◌, ◌^◌, ◌++◌, ◌∷◌, ℕ, List, [], length, take, drop, get_or, sym, ap, subst, refl, arith, IsTrue, take-append-drop}
use Rattle.std.proofs.lemmas.List.{take_more, drop_more}
use Rattle.disk_model.specs.Content.{Lawful}
use Rattle.log_manifest.specs.declared.manifest.Extent.{Extent}
use Rattle.segment_file.specs.Growing.{Grown}
use Rattle.log_steps.specs.Fronts.{Each, log_at}
use Rattle.log_steps.specs.Opens.{Segments}
use Rattle.log_steps.proofs.Lasting.{lasts_then}
use Rattle.log_steps.proofs.Lists.{each_right}
use Rattle.local_log.specs.Stored.{chain_end}
use Rattle.local_log.specs.Opening.{SegmentFails, ReadsTo}
use Rattle.local_log.specs.Planning.{AreSegmentsRead, IsSegmentRead}
use Rattle.local_log.proofs.Pieces.{chain_snoc}
use Rattle.local_log.proofs.Keeping.{keeps_none, lasts_none, keeps_then}
use Rattle.local_log.specs.Refusing.{IsSoundCause}
use Rattle.local_log.proofs.RunsTold.{err_on}
use Rattle.local_log.proofs.HandedOn.{handed_on, cause_of}
use Rattle.local_log.proofs.SegmentsRead.{segments_fit, start_low, none_read, more_read, not_read, next_stands, read_fails_in, same_bytes, segment_kept, read_back}
use Rattle.local_log.proofs.opening.read_segments.Goals as goal

abbrev none : Extent
none = record { base = 0; len = 0 }

split_at : (es : List Extent) (i : ℕ) → i < length es → es ≡ take i es ++ get_or es i none ∷ drop (i + 1) es
split_at es i lt = sym (take-append-drop i es) ∙ ap (λ (l : List Extent). take i es ++ l) (drop_more es i none lt)

fits_at : (P : Extent → Type 0) (es : List Extent) (i : ℕ) → i < length es → Each P es → P (get_or es i none)
fits_at P es i lt h = (each_right P (take i es) (get_or es i none ∷ drop (i + 1) es) (subst (Each P) (split_at es i lt) h)).0

pub loop-extent-init : goal.loop-extent-init
loop-extent-init g c =
    let content = g.D.Disk.content in
    let manifest = c.args.manifest.now in
    record {
      keeps = keeps_none (content c.args.disk.now);
      read = subst (AreSegmentsRead (content c.args.disk.now) manifest.line c.args.interval manifest.local_start []) (sym c.new-segments.ensures.items)
          (none_read (content c.args.disk.now) manifest.line c.args.interval manifest.local_start (start_low manifest c.requires));
      end_is = ap (chain_end manifest.local_start) (sym c.new-segments.ensures.items);
      last = inl (refl, refl);
      control = lasts_none (g.D.Disk.control c.args.disk.now);
      quiet = refl;
    }

pub read_segment-requires-clause-base : goal.read_segment-requires-clause-base
read_segment-requires-clause-base g c =
    let es = c.as_slice-extents.result.now in
    let fit = subst (Each (λ (e : Extent). (e.base ≤ 2 ^ 62) × (e.len < 2 ^ 31))) (sym c.as_slice-extents.ensures) (segments_fit c.args.manifest.now.segments c.requires.segments) in
    (fits_at (λ (e : Extent). (e.base ≤ 2 ^ 62) × (e.len < 2 ^ 31)) es c.loop-extent.extent-index (omega arith) fit).0

pub read_segment-requires-clause-small : goal.read_segment-requires-clause-small
read_segment-requires-clause-small g c =
    let es = c.as_slice-extents.result.now in
    let fit = subst (Each (λ (e : Extent). (e.base ≤ 2 ^ 62) × (e.len < 2 ^ 31))) (sym c.as_slice-extents.ensures) (segments_fit c.args.manifest.now.segments c.requires.segments) in
    (fits_at (λ (e : Extent). (e.base ≤ 2 ^ 62) × (e.len < 2 ^ 31)) es c.loop-extent.extent-index (omega arith) fit).1

pub returns-in_err-segment-clause-err : goal.returns-in_err-segment-clause-err
returns-in_err-segment-clause-err g c =
    let content = g.D.Disk.content in
    let manifest = c.args.manifest.now in
    let es = c.as_slice-extents.result.now in
    let i = c.loop-extent.extent-index in
    let lt : i < length es = omega arith in
    let d = content c.args.disk.now in
    let m = content c.loop-extent.disk in
    let inv = c.loop-extent.invariant in
    let parts : manifest.segments ≡ take i es ++ get_or es i none ∷ drop (i + 1) es = sym c.as_slice-extents.ensures ∙ split_at es i lt in
    let before = (g.D.Disk.control c.loop-extent.disk).last_read in
    let last_read = (g.D.Disk.control c.read_segment.new.disk).last_read in
    err_on _ _ c.from_residual-in_err-segment.result
    (λ e is.
    not_read manifest (take i es) (get_or es i none) (drop (i + 1) es) c.loop-extent.end before last_read e c.requires parts inv.last c.read_segment.ensures.early
    (subst (SegmentFails manifest.line c.loop-extent.end (get_or es i none) last_read) (sym is) c.in_err-segment.ensures.err))
    c.from_residual-in_err-segment.ensures.1

pub returns-in_err-segment-clause-sound : goal.returns-in_err-segment-clause-sound
returns-in_err-segment-clause-sound g c =
    let content = g.D.Disk.content in
    let manifest = c.args.manifest.now in
    let es = c.as_slice-extents.result.now in
    let i = c.loop-extent.extent-index in
    let lt : i < length es = omega arith in
    let d = content c.args.disk.now in
    let m = content c.loop-extent.disk in
    let inv = c.loop-extent.invariant in
    let parts : manifest.segments ≡ take i es ++ get_or es i none ∷ drop (i + 1) es = sym c.as_slice-extents.ensures ∙ split_at es i lt in
    err_on _ _ c.from_residual-in_err-segment.result
    (λ e is t batches all. (
    let next = next_stands d manifest.line c.args.interval manifest.local_start (take i es) c.loop-extent.segments.items inv.read (get_or es i none) t (drop (i + 1) es) batches
    (subst (λ (l : List Extent). Segments d.files manifest.line manifest.local_start l batches) parts all) in
    subst IsSoundCause (sym is)
    (c.in_err-segment.ensures.sound (subst IsTrue (sym inv.keeps.is_observable) t) (next.0 ∙ sym inv.end_is) next.1.0
    (segment_kept d m inv.keeps manifest.line (get_or es i none) next.1.0 next.1.1))
    )) c.from_residual-in_err-segment.ensures.1

pub returns-in_err-segment-clause-place : goal.returns-in_err-segment-clause-place
returns-in_err-segment-clause-place g c =
    let content = g.D.Disk.content in
    let manifest = c.args.manifest.now in
    let es = c.as_slice-extents.result.now in
    let i = c.loop-extent.extent-index in
    let lt : i < length es = omega arith in
    let d = content c.args.disk.now in
    let m = content c.loop-extent.disk in
    let inv = c.loop-extent.invariant in
    let e = get_or es i none in
    let parts : manifest.segments ≡ take i es ++ e ∷ drop (i + 1) es = sym c.as_slice-extents.ensures ∙ split_at es i lt in
    err_on _ _ c.from_residual-in_err-segment.result
    (λ why is t.
    read_fails_in d manifest.line c.args.interval manifest.local_start (take i es) c.loop-extent.segments.items inv.read e manifest m.files (drop (i + 1) es) why refl refl parts t
    (same_bytes d m inv.keeps e.base)
    (subst (λ (n : ℕ). SegmentFails manifest.line n e (log_at m.files e) why) inv.end_is
    (subst (SegmentFails manifest.line c.loop-extent.end e (log_at m.files e)) (sym is) (c.in_err-segment.ensures.place (subst IsTrue (sym inv.keeps.is_observable) t)))))
    c.from_residual-in_err-segment.ensures.1

pub returns-in_err-segment-clause-quiet : goal.returns-in_err-segment-clause-quiet
returns-in_err-segment-clause-quiet g c not =
    c.read_segment.ensures.quiet
    (λ fault. not (handed_on c.from_residual-in_err-segment.result _ _ c.from_residual-in_err-segment.ensures.1 (cause_of c.read_segment.result _ _ c.in_err-segment.was fault)))
    ∙ c.loop-extent.invariant.quiet

pub loop-extent-preserved : goal.loop-extent-preserved
loop-extent-preserved g c =
    let content = g.D.Disk.content in
    let manifest = c.args.manifest.now in
    let es = c.as_slice-extents.result.now in
    let i = c.loop-extent.extent-index in
    let lt : i < length es = omega arith in
    let d = content c.args.disk.now in
    let m = content c.loop-extent.disk in
    let laws : Lawful d = g.met.D.Disk.lawful c.args.disk.now in
    let inv = c.loop-extent.invariant in
    let segment = c.in_ok-segment.segment in
    let items : c.push_reserved.new.self.items ≡ c.loop-extent.segments.items ++ segment ∷ [] = c.push_reserved.ensures.items ∙ ap (λ (l : List Grown). l ++ segment ∷ []) c.in_ok-reserve.ensures.items in
    let one : IsSegmentRead d manifest.line c.args.interval (chain_end manifest.local_start c.loop-extent.segments.items) (get_or es i none) segment =
    subst (λ (n : ℕ). IsSegmentRead d manifest.line c.args.interval n (get_or es i none) segment) inv.end_is
    (read_back d m inv.keeps manifest.line c.args.interval c.loop-extent.end (get_or es i none) segment c.in_ok-segment.ensures.read) in
    record {
      keeps = keeps_then d m (content c.read_segment.new.disk) laws inv.keeps c.read_segment.ensures.content;
      read = subst (AreSegmentsRead d manifest.line c.args.interval manifest.local_start (take (i + 1) es)) (sym items)
          (subst (λ (l : List Extent). AreSegmentsRead d manifest.line c.args.interval manifest.local_start l (c.loop-extent.segments.items ++ segment ∷ [])) (sym (take_more es i none lt))
          (more_read d manifest.line c.args.interval manifest.local_start (take i es) c.loop-extent.segments.items inv.read (get_or es i none) segment one));
      end_is = c.end-end.ensures ∙ sym (ap (chain_end manifest.local_start) items ∙ chain_snoc manifest.local_start c.loop-extent.segments.items segment);
      last = inr (take i es, get_or es i none, take_more es i none lt, subst (ReadsTo manifest.line (get_or es i none) (g.D.Disk.control c.read_segment.new.disk).last_read) (sym c.end-end.ensures) c.in_ok-segment.ensures.last_read);
      control = lasts_then _ _ _ inv.control c.read_segment.ensures.control;
      quiet = c.read_segment.ensures.quiet (λ fault. cc (fault, c.in_ok-segment.was)) ∙ inv.quiet;
    }
