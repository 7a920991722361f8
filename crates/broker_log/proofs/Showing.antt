-- How a log is seen after a call.
use Rattle.std.proofs.Common.{◌∷◌, ◌≡◌, ◌∙◌, ap, sym, subst, refl, ℕ, ◌+◌, ◌≤◌, Bool, true, false, List, [], ◌++◌, Some, IsTrue, arith, append_assoc}
use Rattle.std.specs.List.{AllByRecursion}
use Rattle.disk_model.specs.Content.{Content, Files, Image, Lawful, LeavesOnly}
use Rattle.std.proofs.Common.{◌≢◌, cond, IsOk}
use Rattle.log_terms.specs.Log.{up_to, from_offset, end_from, end_of, joined, IsConsecutive}
use Rattle.log_terms.proofs.Logs.{end_append}
use Rattle.record_batch.specs.Check.{checked}
use Rattle.segment_file.proofs.Joining.{consecutive_parts, joined_same}
use Rattle.log_steps.specs.Fronts.{Each}
use Rattle.local_log.specs.Stored.{size_of}
use Rattle.local_log.specs.Run.{taking, lined, rolled, is_due, open_for, with_batches as gaining, IsAppendedTo, IsAppended}
use Rattle.local_log.proofs.Taken.{taking_front}
use Rattle.local_log.proofs.Appended.{up_to_more}
use Rattle.local_log.proofs.Pieces.{consecutive_append}
use Rattle.epoch_line.specs.Line.{cut_end, assign}
use Rattle.local_log.proofs.Lines.{cut_within, within_assign}
use Rattle.log_steps.specs.Opens.{Opens}
use Rattle.local_log.specs.Log.{Log, LogBecomes, committed, flushed_log}
use Rattle.local_log.specs.Coheres.{Coheres, SegmentsHold}
use Rattle.local_log.specs.Cutting.{OpensAs}
use Rattle.broker_log.specs.Seen.{LogSeen, Up, LogStays, OpensBetween, layout_of, returns, ShowsOpen}
use Rattle.broker_log.specs.Effects.{settled, with_batches}
use Rattle.broker_log.specs.Write.{Appends, Settles, Rolls, first_in}
use Rattle.broker_log.proofs.Between.{between_as}
use Rattle.broker_log.proofs.Local.{opened_as, local_low, up_local}

-- an epoch that starts at the end is within it
pub assigned_within : (line : List (ℕ × ℕ)) (epoch end : ℕ) → cut_end (assign line epoch end) (end + 1) ≡ assign line epoch end
assigned_within line epoch end = cut_within (assign line epoch end) end (within_assign line epoch end)

by_recursion : (bs : List (List ℕ)) → Each (λ (b : List ℕ). IsOk (checked b)) bs → AllByRecursion (λ (b : List ℕ). IsOk (checked b)) bs
by_recursion [] h = tt
by_recursion (b ∷ bs) h = (h.0, by_recursion bs h.1)

-- bytes are checked batches in one way
same_batches : (xs ys : List (List ℕ)) → Each (λ (b : List ℕ). IsOk (checked b)) xs → Each (λ (b : List ℕ). IsOk (checked b)) ys → joined xs ≡ joined ys → xs ≡ ys
same_batches xs ys okx oky e = joined_same xs ys (by_recursion xs okx) (by_recursion ys oky) e

-- an image by now opens as one of before
pub image_as : (old new : Content) → Lawful new → LeavesOnly old new (OpensAs old) → (c : Files) → Image new c → OpensAs old c
image_as old new laws opens c now = opens.each c (laws.earlier old.moment new.moment c opens.later now)

-- segments hold the same batches of the same log
pub hold_same : {D : Type 0} (old new : Log D) → new.local_start ≡ old.local_start → new.closed ≡ old.closed → new.active ≡ old.active → new.batches ≡ old.batches
    → SegmentsHold old.local_start (old.closed ++ old.active ∷ []) old.batches → SegmentsHold new.local_start (new.closed ++ new.active ∷ []) new.batches
hold_same old new start closed active batches hold = rw (start, closed, active, batches) hold

module _ {D : Type 0} (content : D → Content) (old new : Log D) where
  -- the log is the same, and so is what each image opens as
  pub stays_by : LogBecomes content old new → ((c : Files) → Image (content new.disk) c → OpensAs (content old.disk) c) → OpensBetween (content old.disk) (content new.disk) → LogStays content (Up old) (Up new)
  stays_by b opens between = record {
    between = between;
    up = refl;
    end = ap (λ (l : Log D). Some l.end) b.fields;
    flushed_end = ap (λ (l : Log D). Some l.flushed_end) b.fields;
    line = ap (λ (l : Log D). Some l.line) b.fields;
    local = ap (λ (l : Log D). Some l.local_start) b.fields;
    layout = ap (λ (l : Log D). Some (layout_of l)) b.fields;
    settings = ap (λ (l : Log D). Some l.settings) b.fields;
    seen = λ s h. (
      s,
      record {
        told = b.is_observable ∙ h.told;
        unbroken = ap (λ (l : Log D). l.broken) b.fields ∙ h.unbroken;
        below = h.below;
        batches_are = h.batches_are ∙ ap (λ (l : List (List ℕ)). h.below ++ l) (sym (b.batches h.told));
        begins = h.begins ∙ sym (ap (λ (l : Log D). l.local_start) b.fields);
        consecutive = h.consecutive;
        local_is = h.local_is ∙ sym (ap (λ (l : Log D). l.local_start) b.fields);
        within = h.within;
        line_is = h.line_is ∙ sym (ap (λ (l : Log D). l.line) b.fields);
        flushed_end_is = h.flushed_end_is ∙ sym (ap (λ (l : Log D). l.flushed_end) b.fields);
        ends = h.ends ∙ sym (ap (λ (l : Log D). l.end) b.fields);
        tight = h.tight;
        images = λ c now. (let was = opens c now in
            subst (λ (i : ℕ). Opens c (returns i s)) (sym (ap (λ (l : Log D). l.incarnation) b.fields)) (was.2 (returns old.incarnation s) (h.images was.0 was.1)));
        incarnation_is = h.incarnation_is ∙ sym (ap (λ (l : Log D). l.incarnation) b.fields);
        segments = hold_same old new (ap (λ (l : Log D). l.local_start) b.fields) (ap (λ (l : Log D). l.closed) b.fields) (ap (λ (l : Log D). l.active) b.fields) (b.batches h.told) h.segments;
      },
      refl,
    );
  }

  -- a new segment is begun
  pub rolls_by : LogBecomes content (rolled old) new → ((c : Files) → Image (content new.disk) c → OpensAs (content old.disk) c)
      → (new.broken ≡ false → IsTrue (content new.disk).is_observable → Coheres new) → OpensBetween (content old.disk) (content new.disk) → Rolls content (Up old) (Up new)
  rolls_by b opens coheres between = record {
    between = between;
    layout = ap (λ (l : Log D). Some (layout_of l)) b.fields;
    up = refl;
    end = ap (λ (l : Log D). Some l.end) b.fields;
    flushed_end = ap (λ (l : Log D). Some l.flushed_end) b.fields;
    line = ap (λ (l : Log D). Some l.line) b.fields;
    seen = λ s h. (
      s,
      record {
        told = b.is_observable ∙ h.told;
        unbroken = ap (λ (l : Log D). l.broken) b.fields ∙ h.unbroken;
        below = h.below;
        batches_are = h.batches_are ∙ ap (λ (l : List (List ℕ)). h.below ++ l) (sym (b.batches h.told));
        begins = h.begins ∙ sym (ap (λ (l : Log D). l.local_start) b.fields);
        consecutive = h.consecutive;
        local_is = h.local_is ∙ sym (ap (λ (l : Log D). l.local_start) b.fields);
        within = h.within;
        line_is = h.line_is ∙ sym (ap (λ (l : Log D). l.line) b.fields);
        flushed_end_is = h.flushed_end_is ∙ sym (ap (λ (l : Log D). l.flushed_end) b.fields);
        ends = h.ends ∙ sym (ap (λ (l : Log D). l.end) b.fields);
        tight = h.tight;
        images = λ c now. (let was = opens c now in
            subst (λ (i : ℕ). Opens c (returns i s)) (sym (ap (λ (l : Log D). l.incarnation) b.fields)) (was.2 (returns old.incarnation s) (h.images was.0 was.1)));
        incarnation_is = h.incarnation_is ∙ sym (ap (λ (l : Log D). l.incarnation) b.fields);
        segments = (coheres (ap (λ (l : Log D). l.broken) b.fields ∙ h.unbroken) (b.is_observable ∙ h.told)).segments;
      },
      refl,
    );
  }

  -- all of the log is flushed
  pub settles_by : (f : List (ℕ × ℕ) → ℕ → List (ℕ × ℕ)) → (old.broken ≡ false) → (IsTrue (content old.disk).is_observable → cut_end (f old.line old.end) (old.end + 1) ≡ f old.line old.end)
      → LogBecomes content (committed old (f old.line old.end)) new → ((c : Files) → Image (content new.disk) c → Opens c (flushed_log new)) → OpensBetween (content old.disk) (content new.disk) → Settles content (Up old) (Up new) f old.end
  settles_by f unbroken within b durable between =
      record {
        between = between;
        base_is = refl;
        end_is = ap Some end;
        flushed_end_is = ap Some flushed_end;
        line_is = ap Some line;
        layout = ap (λ (l : Log D). Some (layout_of l)) b.fields;
        seen = λ s h. (
          settled s (f s.line (end_of s.batches)),
          record {
            told = b.is_observable ∙ h.told;
            unbroken = ap (λ (l : Log D). l.broken) b.fields ∙ unbroken;
            below = h.below;
            batches_are = h.batches_are ∙ ap (λ (l : List (List ℕ)). h.below ++ l) (sym (b.batches h.told));
            begins = h.begins ∙ sym local_start;
            consecutive = h.consecutive;
            local_is = h.local_is ∙ sym local_start;
            within = local_low content old s h;
            line_is = line_told s h;
            flushed_end_is = h.ends ∙ sym flushed_end;
            ends = h.ends ∙ sym end;
            tight = h.tight;
            images = λ c now. subst (Opens c) (opened s h) (durable c now);
            incarnation_is = h.incarnation_is ∙ sym (ap (λ (l : Log D). l.incarnation) b.fields);
            segments = hold_same old new local_start (ap (λ (l : Log D). l.closed) b.fields) (ap (λ (l : Log D). l.active) b.fields) (b.batches h.told) h.segments;
          },
          refl,
        );
      }
    where
      end : new.end ≡ old.end
      end = ap (λ (l : Log D). l.end) b.fields

      flushed_end : new.flushed_end ≡ old.end
      flushed_end = ap (λ (l : Log D). l.flushed_end) b.fields

      line : new.line ≡ f old.line old.end
      line = ap (λ (l : Log D). l.line) b.fields

      local_start : new.local_start ≡ old.local_start
      local_start = ap (λ (l : Log D). l.local_start) b.fields

      line_told : (s : LogSeen) → ShowsOpen content old s → f s.line (end_of s.batches) ≡ new.line
      line_told s h = ap (λ (l : List (ℕ × ℕ)). f l (end_of s.batches)) h.line_is ∙ ap (f old.line) h.ends ∙ sym line

      opened : (s : LogSeen) → ShowsOpen content old s → flushed_log new ≡ returns new.incarnation (settled s (f s.line (end_of s.batches)))
      opened s h =
          opened_as (flushed_log new) new.incarnation s.local (from_offset s.local (up_to (end_of s.batches) s.batches)) (f s.line (end_of s.batches))
          refl
          (local_start ∙ sym h.local_is)
          (ap (λ (n : ℕ). up_to n new.batches) (flushed_end ∙ sym h.ends) ∙ ap (up_to (end_of s.batches)) (b.batches h.told) ∙ sym (up_local content old s h (end_of s.batches) (local_low content old s h)))
          (ap (λ (n : ℕ). cut_end new.line (n + 1)) flushed_end ∙ ap (λ (l : List (ℕ × ℕ)). cut_end l (old.end + 1)) line ∙ within h.told ∙ sym line ∙ sym (line_told s h))

-- what was taken of a run is at the end
module _ {D : Type 0} (content : D → Content) where
  -- what is seen of a log in which a new segment was perhaps begun
  pub record SameSeen (old base : Log D) : Type 0 where
    pub disk : base.disk ≡ old.disk
    pub incarnation : base.incarnation ≡ old.incarnation
    pub local_start : base.local_start ≡ old.local_start
    pub batches : base.batches ≡ old.batches
    pub end : base.end ≡ old.end
    pub flushed_end : base.flushed_end ≡ old.flushed_end
    pub line : base.line ≡ old.line
    pub broken : base.broken ≡ old.broken

  perhaps_rolled : (b : Bool) (old : Log D) → SameSeen old (cond b (rolled old) old)
  perhaps_rolled true old = record { disk = refl; incarnation = refl; local_start = refl; batches = refl; end = refl; flushed_end = refl; line = refl; broken = refl }
  perhaps_rolled false old = record { disk = refl; incarnation = refl; local_start = refl; batches = refl; end = refl; flushed_end = refl; line = refl; broken = refl }

  module _ (old base new : Log D) (same : SameSeen old base) (laws : Lawful (content new.disk)) (coheres : IsTrue (content old.disk).is_observable → Coheres old)
      (run : List ℕ) (answer : ℕ × ℕ) (a : IsAppendedTo content old base new run answer) (up : answer.0 ≤ answer.1) (opens : LeavesOnly (content old.disk) (content new.disk) (OpensAs (content old.disk)))
      (whole : new.broken ≡ false → IsTrue (content new.disk).is_observable → Coheres new) where
    abbrev pub front : List (List ℕ)
    front = taking base.settings.segment_bytes base.active.base (size_of base.active) a.is.batches

    abbrev pub rest : List (List ℕ)
    rest = (taking_front base.settings.segment_bytes base.active.base (size_of base.active) a.is.batches).0

    parts : a.is.batches ≡ front ++ rest
    parts = (taking_front base.settings.segment_bytes base.active.base (size_of base.active) a.is.batches).1

    follow : IsConsecutive old.end front
    follow = (consecutive_parts old.end front rest (subst (IsConsecutive old.end) parts a.is.consecutive)).0

    new_end : new.end ≡ end_from old.end front
    new_end = ap (λ (l : Log D). l.end) a.becomes.fields ∙ ap (λ (n : ℕ). end_from n front) same.end

    new_line : new.line ≡ lined old.line front
    new_line = ap (λ (l : Log D). l.line) a.becomes.fields ∙ ap (λ (l : List (ℕ × ℕ)). lined l front) same.line

    new_flushed_end : new.flushed_end ≡ old.flushed_end
    new_flushed_end = ap (λ (l : Log D). l.flushed_end) a.becomes.fields ∙ same.flushed_end

    is_observable : (content new.disk).is_observable ≡ (content old.disk).is_observable
    is_observable = a.becomes.is_observable ∙ ap (λ (d : D). (content d).is_observable) same.disk

    new_batches : IsTrue (content old.disk).is_observable → new.batches ≡ old.batches ++ front
    new_batches t = a.becomes.batches (subst (λ (d : D). IsTrue (content d).is_observable) (sym same.disk) t) ∙ ap (λ (l : List (List ℕ)). l ++ front) same.batches

    some : front ≢ []
    some none =
        let same_end = new_end ∙ ap (end_from old.end) none in
        omega (arith, same_end, a.base_is, a.last_is, up)

    shows : (s : LogSeen) → ShowsOpen content old s → ShowsOpen content new (with_batches s front)
    shows s h =
        let c = coheres h.told in
        let ends : end_from 0 s.batches ≡ old.end = h.ends in
        let all : IsConsecutive 0 (s.batches ++ front) =
        consecutive_append 0 s.batches front
        h.consecutive
        (subst (λ (n : ℕ). IsConsecutive n front) (sym ends) follow) in
        let low : s.flushed_end ≤ end_from 0 s.batches = omega (arith, h.flushed_end_is, ends, c.flushed_end_within) in
        let kept : up_to s.flushed_end (s.batches ++ front) ≡ up_to s.flushed_end s.batches = up_to_more 0 s.flushed_end s.batches front all low in
        let inc : new.incarnation ≡ old.incarnation = ap (λ (l : Log D). l.incarnation) a.becomes.fields ∙ same.incarnation in
        let local : new.local_start ≡ old.local_start = ap (λ (l : Log D). l.local_start) a.becomes.fields ∙ same.local_start in
        record {
          told = is_observable ∙ h.told;
          unbroken = ap (λ (l : Log D). l.broken) a.becomes.fields ∙ same.broken ∙ h.unbroken;
          below = h.below;
          batches_are = ap (λ (l : List (List ℕ)). l ++ front) h.batches_are ∙ append_assoc h.below old.batches front
              ∙ ap (λ (l : List (List ℕ)). h.below ++ l) (sym (new_batches h.told));
          begins = h.begins ∙ sym local;
          consecutive = all;
          local_is = h.local_is ∙ sym local;
          within = h.within;
          line_is = ap (λ (l : List (ℕ × ℕ)). lined l front) h.line_is ∙ sym new_line;
          flushed_end_is = h.flushed_end_is ∙ sym new_flushed_end;
          ends = end_append 0 s.batches front ∙ ap (λ (n : ℕ). end_from n front) ends ∙ sym new_end;
          tight = h.tight;
          images = λ f now. (
              let was = image_as (content old.disk) (content new.disk) laws opens f now in
              let o = was.2 (returns old.incarnation s) (h.images was.0 was.1) in
              subst (Opens f) (ap (λ (i : ℕ). returns i s) (sym inc) ∙ ap (λ (l : List (List ℕ)). record { incarnation = new.incarnation; local_start = s.local; batches = from_offset s.local l; line = s.saved }) (sym kept)) o
              );
          incarnation_is = h.incarnation_is ∙ sym inc;
          segments = (whole (ap (λ (l : Log D). l.broken) a.becomes.fields ∙ same.broken ∙ h.unbroken) (is_observable ∙ h.told)).segments;
        }

    pub appends_to : base ≡ open_for old run → Appends content (Up old) (Up new) run answer
    appends_to opened = record {
      between = between_as (content old.disk) (content new.disk) opens;
      front = front;
      rest = rest;
      some = some;
      most = subst (λ (log : Log D). front ≡ first_in log (front ++ rest)) opened (ap (first_in base) parts);
      bytes = a.is.bytes ∙ ap joined parts;
      are = subst (Each (λ (b : List ℕ). IsOk (checked b))) parts a.is.are;
      those = λ bs ok is. same_batches bs (front ++ rest) ok (subst (Each (λ (b : List ℕ). IsOk (checked b))) parts a.is.are) (sym is ∙ (a.is.bytes ∙ ap joined parts));
      consecutive = subst (λ (n : ℕ). IsConsecutive n (front ++ rest)) (sym a.base_is) (subst (IsConsecutive old.end) parts a.is.consecutive);
      base_is = ap Some (sym a.base_is);
      end_is = ap Some (sym a.last_is);
      last_is = a.last_is ∙ new_end ∙ ap (λ (n : ℕ). end_from n front) (sym a.base_is);
      flushed_end_is = ap Some new_flushed_end;
      line_is = ap Some new_line;
      layout = subst (λ (log : Log D). Some (layout_of new) ≡ Some (layout_of (gaining log front))) opened (ap (λ (l : Log D). Some (layout_of l)) a.becomes.fields);
      seen = λ s h. (with_batches s front, shows s h, refl);
    }

  pub appends_by : (old new : Log D) → Lawful (content new.disk) → (IsTrue (content old.disk).is_observable → Coheres old) → (run : List ℕ) (answer : ℕ × ℕ) → IsAppended content old new run answer → answer.0 ≤ answer.1
      → LeavesOnly (content old.disk) (content new.disk) (OpensAs (content old.disk)) → (new.broken ≡ false → IsTrue (content new.disk).is_observable → Coheres new) → Appends content (Up old) (Up new) run answer
  appends_by old new laws coheres run answer a up opens whole =
      appends_to old (open_for old run) new (perhaps_rolled (is_due old run) old) laws coheres run answer a up opens whole refl

  -- it can be appended to as before
  pub appended_whole : (old new : Log D) (run : List ℕ) (answer : ℕ × ℕ) → IsAppended content old new run answer → new.broken ≡ old.broken
  appended_whole old new run answer a = ap (λ (l : Log D). l.broken) a.becomes.fields ∙ (perhaps_rolled (is_due old run) old).broken
