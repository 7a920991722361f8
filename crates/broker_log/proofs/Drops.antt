-- How a log is seen whose first closed segment was dropped.
use Rattle.std.proofs.Common.{◌≡◌, ◌∙◌, ap, sym, subst, refl, ℕ, ◌+◌, ◌≤◌, false, List, [], ◌∷◌, ◌++◌, Some, IsTrue, arith}
use Rattle.disk_model.specs.Content.{Content, Files, Image, Lawful, LeavesOnly}
use Rattle.log_terms.specs.Log.{EndsAt, up_to, from_offset, end_from, end_of}
use Rattle.log_terms.proofs.Logs.{end_above, end_append, consecutive_prefix, up_to_prefix}
use Rattle.epoch_line.specs.Line.{cut_end}
use Rattle.segment_file.specs.Growing.{Grown}
use Rattle.log_steps.specs.Opens.{Opens}
use Rattle.log_steps.specs.Reopens.{Reopens}
use Rattle.local_log.specs.Log.{Log, LogBecomes, flushed_log}
use Rattle.local_log.specs.Coheres.{Coheres}
use Rattle.local_log.specs.Cutting.{OpensAsOr}
use Rattle.local_log.specs.Dropping.{start_behind, IsFirstFlushed, SpansFirst, dropped as dropped_log}
use Rattle.local_log.specs.Stored.{end_of as end_of_segment}
use Rattle.broker_log.specs.Seen.{LogSeen, Up, Down, OpensBetween, layout_of, returning, ShowsOpen}
use Rattle.broker_log.specs.Effects.{dropped, kept_line}
use Rattle.broker_log.specs.Failure.{DropBreaks}
use Rattle.broker_log.specs.Write.{DropsFirst}
use Rattle.broker_log.proofs.Breaking.{most, loosened_kept, image_or}
use Rattle.broker_log.proofs.Local.{opened_as, from_up, parts_at, from_local, up_whole, kept_stands}

-- the first closed segment ends with a batch, and what ends there is flushed
record IsStart {D : Type 0} (log : Log D) : Type 0 where
  from : log.local_start ≤ start_behind log.local_start log.closed
  flushed_end : start_behind log.local_start log.closed ≤ log.flushed_end
  ends : end_from log.local_start (up_to (start_behind log.local_start log.closed) log.batches) ≡ start_behind log.local_start log.closed

start_is : {D : Type 0} (log : Log D) → Coheres log → IsFirstFlushed log.flushed_end log.closed → IsStart log
start_is log c some = go log.closed refl some
  where
    go : (closed : List Grown) → log.closed ≡ closed → IsFirstFlushed log.flushed_end closed → IsStart log
    go [] is some = absurd some
    go (g ∷ rest) is some =
        let k = c.first g rest is in
        let at : start_behind log.local_start log.closed ≡ end_of_segment g = ap (start_behind log.local_start) is in
        let low = end_above log.local_start (up_to (end_of_segment g) log.batches) (consecutive_prefix log.local_start (up_to (end_of_segment g) log.batches) log.batches (up_to_prefix (end_of_segment g) log.batches) c.consecutive) in
        let edge = k.1 in
        record {
          from = omega (arith, at, low, edge);
          flushed_end = omega (arith, at, some);
          ends = ap (λ (n : ℕ). end_from log.local_start (up_to n log.batches)) at ∙ edge ∙ sym at;
        }

module _ {D : Type 0} (content : D → Content) (old : Log D) (some : IsFirstFlushed old.flushed_end old.closed) (coheres : IsTrue (content old.disk).is_observable → Coheres old) where
  abbrev pub start : ℕ
  start = start_behind old.local_start old.closed

  module _ (s : LogSeen) (h : ShowsOpen content old s) where
    k : IsStart old
    k = start_is old (coheres h.told) some

    from : s.local ≤ start
    from = let le = k.from in let same = h.local_is in omega (arith, le, same)

    pub within : start ≤ s.flushed_end
    within = let le = k.flushed_end in let same = h.flushed_end_is in omega (arith, le, same)

    -- what is below it then
    abbrev pub below : List (List ℕ)
    below = h.below ++ up_to start old.batches

    below_is : up_to start s.batches ≡ below
    below_is = up_whole content old s h start from

    pub below_ends : end_of below ≡ start
    below_ends = end_append 0 h.below (up_to start old.batches) ∙ ap (λ (n : ℕ). end_from n (up_to start old.batches)) h.begins ∙ k.ends

    parts : s.batches ≡ below ++ from_offset start old.batches
    parts = parts_at start s.batches ∙ ap (λ (l : List (List ℕ)). l ++ from_offset start s.batches) below_is ∙ ap (λ (l : List (List ℕ)). below ++ l) (from_local content old s h start from)

    pub ends : EndsAt start s.batches
    ends = (below, (from_offset start old.batches, sym parts), below_ends)

    -- what an image opens as that has no more of it
    pub opens_dropped : flushed_log (dropped_log old) ≡ returning old.incarnation s (s.flushed_end, kept_line s, start)
    opens_dropped =
        opened_as (flushed_log (dropped_log old)) old.incarnation start (from_offset start (up_to s.flushed_end s.batches)) (kept_line s)
        refl
        refl
        (ap (λ (n : ℕ). up_to n (from_offset start old.batches)) (sym h.flushed_end_is) ∙ ap (up_to s.flushed_end) (sym (from_local content old s h start from)) ∙ sym (from_up start s.flushed_end s.batches within))
        (ap (λ (l : List (ℕ × ℕ)). cut_end l (old.flushed_end + 1)) (sym h.line_is) ∙ ap (λ (n : ℕ). cut_end s.line (n + 1)) (sym h.flushed_end_is))

  -- the write failed
  pub drop_breaks : (new : Log D) → (content new.disk).is_observable ≡ (content old.disk).is_observable → Lawful (content new.disk) → Reopens (content new.disk) → LeavesOnly (content old.disk) (content new.disk) (OpensAsOr (content old.disk) (flushed_log (dropped_log old)))
      → OpensBetween (content old.disk) (content new.disk) → DropBreaks content (Up old) (Down old.settings new.disk)
  drop_breaks new is_observable laws again opens between = record {
    between = between;
    down = refl;
    settings = refl;
    seen = λ s h. (
      start,
      ends s h,
      within s h,
      record {
        told = is_observable ∙ h.told;
        kept = loosened_kept s (s.flushed_end, kept_line s, start) (kept_stands content old s h) (record { begins = ends s h; within = within s h });
        images = λ c now. (
          old.incarnation,
          most h.incarnation_is,
          image_or content old new laws (flushed_log (dropped_log old)) opens s h (returning old.incarnation s (s.flushed_end, kept_line s, start)) (opens_dropped s h) c now,
        );
        again = again;
      },
      ap (λ (n : ℕ). start_behind n old.closed) (sym h.local_is),
      from s h,
    );
  }

  -- the segment is gone
  pub drops_by : (new : Log D) → old.broken ≡ false → (answer : ℕ × ℕ) → SpansFirst old.closed answer → LogBecomes content (dropped_log old) new
      → ((c : Files) → Image (content new.disk) c → Opens c (flushed_log (dropped_log old)))
      → (new.broken ≡ false → IsTrue (content new.disk).is_observable → Coheres new) → OpensBetween (content old.disk) (content new.disk) → DropsFirst content (Up old) (Up new) answer
  drops_by new unbroken answer spans b durable whole between =
      record {
        between = between;
        spans = spans;
        local_is = ap Some (local ∙ sym last);
        end_is = ap (λ (l : Log D). Some l.end) b.fields;
        flushed_end_is = ap (λ (l : Log D). Some l.flushed_end) b.fields;
        line_is = ap (λ (l : Log D). Some l.line) b.fields;
        layout = ap (λ (l : Log D). Some (layout_of l)) b.fields;
        ends = λ s h. (base s h, subst (λ (n : ℕ). EndsAt n s.batches) (sym last) (ends s h), subst (λ (n : ℕ). n ≤ s.flushed_end) (sym last) (within s h), subst (λ (n : ℕ). s.local ≤ n) (sym last) (from s h));
        seen = λ s h. (dropped s (answer.1 + 1), subst (λ (n : ℕ). ShowsOpen content new (dropped s n)) (sym last) (shows s h), refl);
      }
    where
      local : new.local_start ≡ start
      local = ap (λ (l : Log D). l.local_start) b.fields

      last : answer.1 + 1 ≡ start
      last = go old.closed spans
        where
          go : (closed : List Grown) → SpansFirst closed answer → answer.1 + 1 ≡ start_behind old.local_start closed
          go [] spans = absurd spans
          go (g ∷ rest) spans = spans.1

      base : (s : LogSeen) → ShowsOpen content old s → answer.0 ≡ s.local
      base s h = go old.closed refl spans
        where
          go : (closed : List Grown) → old.closed ≡ closed → SpansFirst closed answer → answer.0 ≡ s.local
          go [] is spans = absurd spans
          go (g ∷ rest) is spans = spans.0 ∙ ((coheres h.told).first g rest is).0 ∙ sym h.local_is

      shows : (s : LogSeen) → ShowsOpen content old s → ShowsOpen content new (dropped s start)
      shows s h =
          let inc : new.incarnation ≡ old.incarnation = ap (λ (l : Log D). l.incarnation) b.fields in
          record {
            told = b.is_observable ∙ h.told;
            unbroken = ap (λ (l : Log D). l.broken) b.fields ∙ unbroken;
            below = below s h;
            batches_are = parts s h ∙ ap (λ (l : List (List ℕ)). below s h ++ l) (sym (b.batches h.told));
            begins = below_ends s h ∙ sym local;
            consecutive = h.consecutive;
            local_is = sym local;
            within = within s h;
            line_is = h.line_is ∙ sym (ap (λ (l : Log D). l.line) b.fields);
            flushed_end_is = h.flushed_end_is ∙ sym (ap (λ (l : Log D). l.flushed_end) b.fields);
            ends = h.ends ∙ sym (ap (λ (l : Log D). l.end) b.fields);
            tight = h.tight;
            images = λ c now. subst (Opens c) (opens_dropped s h ∙ ap (λ (i : ℕ). returning i s (s.flushed_end, kept_line s, start)) (sym inc)) (durable c now);
            incarnation_is = h.incarnation_is ∙ sym inc;
            segments = (whole (ap (λ (l : Log D). l.broken) b.fields ∙ unbroken) (b.is_observable ∙ h.told)).segments;
          }
