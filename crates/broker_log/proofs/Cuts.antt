-- How a log is seen after a cut.
use Rattle.std.proofs.Common.{◌≡◌, ◌∙◌, ap, sym, subst, refl, inl, inr, ⊎_elim, ℕ, ◌≤◌, ◌<◌, false, List, ◌++◌, Some, IsTrue, min, arith, lt-ltb, le-ltb, append-nil}
use Rattle.std.proofs.lemmas.Bool.{cases_lt}
use Rattle.disk_model.specs.Content.{Content, Files, Image, Lawful, LeavesOnly}
use Rattle.log_terms.specs.Log.{EndsAt, up_to, from_offset, end_of, IsConsecutive}
use Rattle.log_terms.proofs.Logs.{end_above, up_to_prefix, up_to_end, up_to_is, consecutive_prefix}
use Rattle.epoch_line.specs.Line.{cut_end}
use Rattle.log_steps.specs.Opens.{Opens}
use Rattle.log_steps.specs.Reopens.{Reopens}
use Rattle.local_log.specs.Log.{Log, LogBecomes}
use Rattle.local_log.specs.Coheres.{Coheres}
use Rattle.local_log.specs.Cutting.{cut, cut_at, cut_point, restarted, all_of, OpensAsOr}
use Rattle.local_log.proofs.Pieces.{up_to_all}
use Rattle.broker_log.specs.Seen.{LogSeen, Up, Down, OpensBetween, layout_of, IsBack, returning, ShowsOpen}
use Rattle.broker_log.specs.Effects.{MayCutLog, cut_to, cut_back, torn}
use Rattle.broker_log.specs.Failure.{BreaksIf}
use Rattle.broker_log.specs.Write.{CutsLog, cut_end_at}
use Rattle.broker_log.specs.Read.{IsEndUpTo}
use Rattle.broker_log.proofs.Breaking.{most, torn_back, torn_most, torn_kept, image_or}
use Rattle.broker_log.proofs.Local.{opened_as, from_rest, begins_at, up_whole, up_end, kept_stands}

-- what a log is cut to, at its local start or past it, and below
cut_above : {D : Type 0} (log : Log D) (end : ℕ) → log.local_start ≤ end → cut_at log end ≡ cut log (cut_point end log.closed log.active)
cut_above log end le = rw (le-ltb end log.local_start le) refl

cut_below : {D : Type 0} (log : Log D) (end : ℕ) → end < log.local_start → cut_at log end ≡ restarted log end (cut_end log.line end)
cut_below log end lt = rw (lt-ltb end log.local_start lt) refl

pub end_above_it : {D : Type 0} (log : Log D) (end : ℕ) → log.local_start ≤ end → cut_end_at log end ≡ cut_point end log.closed log.active
end_above_it log end le = rw (le-ltb end log.local_start le) refl

pub end_below_it : {D : Type 0} (log : Log D) (end : ℕ) → end < log.local_start → cut_end_at log end ≡ end
end_below_it log end lt = rw (lt-ltb end log.local_start lt) refl

-- the log after a cut, whatever is seen
pub record IsCutTo {D : Type 0} (log cut : Log D) (end now : ℕ) : Type 0 where
  pub end_is : cut.end ≡ now
  pub flushed_end_is : cut.flushed_end ≡ now
  pub line_is : cut.line ≡ cut_end log.line now
  pub local_is : cut.local_start ≡ min log.local_start end

pub cut_told : {D : Type 0} (old : Log D) (end : ℕ) → IsCutTo old (cut_at old end) end (cut_end_at old end)
cut_told {D = D} old end = elim (cases_lt end old.local_start) [
  | inl lt ↦
      subst (λ (l : Log D). IsCutTo old l end (cut_end_at old end)) (sym (cut_below old end lt))
      (subst (λ (n : ℕ). IsCutTo old (restarted old end (cut_end old.line end)) end n) (sym (end_below_it old end lt))
      (record { end_is = refl; flushed_end_is = refl; line_is = refl; local_is = omega (arith, lt) }))
  | inr ge ↦
      subst (λ (l : Log D). IsCutTo old l end (cut_end_at old end)) (sym (cut_above old end ge))
      (subst (λ (n : ℕ). IsCutTo old (cut old (cut_point end old.closed old.active)) end n) (sym (end_above_it old end ge))
      (record { end_is = refl; flushed_end_is = refl; line_is = refl; local_is = omega (arith, ge) }))
]

-- and where it is seen
pub record IsSeenCut {D : Type 0} (cut : Log D) (s : LogSeen) (end now : ℕ) : Type 0 where
  pub end_is : now ≡ end_of (up_to end s.batches)
  pub below : List (List ℕ)
  pub parts : up_to end s.batches ≡ below ++ cut.batches
  pub begins : end_of below ≡ cut.local_start
  pub local_is : cut.local_start ≡ min s.local now

module _ {D : Type 0} (content : D → Content) (old : Log D) (end : ℕ) (coheres : IsTrue (content old.disk).is_observable → Coheres old) where
  module _ (s : LogSeen) (h : ShowsOpen content old s) where
    low : old.local_start ≤ end → old.local_start ≤ cut_point end old.closed old.active
    low le =
        let c = coheres h.told in
        let up = end_above old.local_start (up_to end old.batches) (consecutive_prefix old.local_start (up_to end old.batches) old.batches (up_to_prefix end old.batches) c.consecutive) in
        let is = c.cuts end le in
        omega (arith, up, is)

    -- at the local start or past it
    seen_above : old.local_start ≤ end → IsSeenCut (cut old (cut_point end old.closed old.active)) s end (cut_point end old.closed old.active)
    seen_above le =
        let c = coheres h.told in
        let from : s.local ≤ end = let same = h.local_is in omega (arith, le, same) in
        let front : up_to (cut_point end old.closed old.active) old.batches ≡ up_to end old.batches =
        up_to_is old.local_start (cut_point end old.closed old.active) (up_to end old.batches) old.batches c.consecutive (up_to_prefix end old.batches) (sym (c.cuts end le)) in
        record {
          end_is = c.cuts end le ∙ sym (up_end content old s h end from);
          below = h.below;
          parts = up_whole content old s h end from ∙ ap (λ (l : List (List ℕ)). h.below ++ l) (sym front);
          begins = h.begins;
          local_is = (let up = low le in let same = h.local_is in omega (arith, up, same));
        }

    -- below it, at an end of what is seen
    seen_below : end < old.local_start → EndsAt end s.batches → IsSeenCut (restarted old end (cut_end old.line end)) s end end
    seen_below lt ends =
        let at = up_to_end end s.batches h.consecutive ends in
        record {
          end_is = sym at;
          below = up_to end s.batches;
          parts = sym (append-nil (up_to end s.batches));
          begins = at;
          local_is = (let same = h.local_is in omega (arith, lt, same));
        }

    -- whichever
    pub seen_cut : MayCutLog end s → IsSeenCut (cut_at old end) s end (cut_end_at old end)
    seen_cut may = elim (cases_lt end old.local_start) [
      | inl lt ↦
          let ends : EndsAt end s.batches = ⊎_elim (λ le. (let same = h.local_is in absurd (omega (arith, lt, le, same)))) (λ ends. ends) may in
          subst (λ (l : Log D). IsSeenCut l s end (cut_end_at old end)) (sym (cut_below old end lt))
          (subst (λ (n : ℕ). IsSeenCut (restarted old end (cut_end old.line end)) s end n) (sym (end_below_it old end lt)) (seen_below lt ends))
      | inr ge ↦
          subst (λ (l : Log D). IsSeenCut l s end (cut_end_at old end)) (sym (cut_above old end ge))
          (subst (λ (n : ℕ). IsSeenCut (cut old (cut_point end old.closed old.active)) s end n) (sym (end_above_it old end ge)) (seen_above ge))
    ]

    -- what an image opens as that has all of it
    pub opens_cut : MayCutLog end s → all_of (cut_at old end) ≡ returning (cut_at old end).incarnation s (cut_back s end)
    opens_cut may =
        let k = seen_cut may in
        let t = cut_told old end in
        let e = end_of (up_to end s.batches) in
        let follow : IsConsecutive 0 (up_to end s.batches) = consecutive_prefix 0 (up_to end s.batches) s.batches (up_to_prefix end s.batches) h.consecutive in
        let start : (cut_at old end).local_start ≡ min s.local e = k.local_is ∙ ap (λ (n : ℕ). min s.local n) k.end_is in
        let same : up_to e s.batches ≡ up_to end s.batches = up_to_is 0 e (up_to end s.batches) s.batches h.consecutive (up_to_prefix end s.batches) refl in
        opened_as (all_of (cut_at old end)) (cut_at old end).incarnation (min s.local e) (from_offset (min s.local e) (up_to e s.batches)) (cut_end s.line e)
        refl
        start
        (sym (ap (from_offset (min s.local e)) (same ∙ k.parts)
        ∙ from_rest (min s.local e) k.below (cut_at old end).batches (subst (IsConsecutive 0) k.parts follow) (k.begins ∙ start)))
        (t.line_is ∙ ap (cut_end old.line) k.end_is ∙ ap (λ (l : List (ℕ × ℕ)). cut_end l e) (sym h.line_is))

    -- and what comes back of what is seen then
    pub back_cut : IsBack s (cut_back s end)
    back_cut = record { begins = least; within = omega arith }
      where
        least : EndsAt (min s.local (end_of (up_to end s.batches))) s.batches
        least = elim (cases_lt s.local (end_of (up_to end s.batches))) [
          | inl less ↦ subst (λ (n : ℕ). EndsAt n s.batches) (omega (arith, less)) (h.below, (old.batches, sym h.batches_are), begins_at content old s h)
          | inr more ↦ subst (λ (n : ℕ). EndsAt n s.batches) (omega (arith, more)) (up_to end s.batches, up_to_prefix end s.batches, refl)
        ]

  -- where it would end
  pub ends_to : (now : ℕ) → now ≡ cut_end_at old end → IsEndUpTo content (Up old) end now
  ends_to now is = record { point = is; is = λ s h may. is ∙ (seen_cut s h may).end_is }

  module _ (new : Log D) where
    -- the cut may be done
    pub cut_breaks : (content new.disk).is_observable ≡ (content old.disk).is_observable → Lawful (content new.disk) → Reopens (content new.disk) → LeavesOnly (content old.disk) (content new.disk) (OpensAsOr (content old.disk) (all_of (cut_at old end)))
        → (cut_at old end).incarnation ≡ old.incarnation → OpensBetween (content old.disk) (content new.disk) → BreaksIf content (Up old) (Down old.settings new.disk) (MayCutLog end) (λ s. torn s (cut_back s end))
    cut_breaks is_observable laws again opens inc between = record {
      between = between;
      down = refl;
      settings = refl;
      seen = λ s h may. (
        torn s (cut_back s end),
        record {
          told = is_observable ∙ h.told;
          kept = torn_kept s (cut_back s end) (kept_stands content old s h) (back_cut s h);
          images = λ c now. (
            old.incarnation,
            torn_most old.incarnation s (cut_back s end) (most h.incarnation_is),
            torn_back old.incarnation s (cut_back s end) c
                (image_or content old new laws (all_of (cut_at old end)) opens s h (returning old.incarnation s (cut_back s end))
                (opens_cut s h may ∙ ap (λ (i : ℕ). returning i s (cut_back s end)) inc) c now),
          );
          again = again;
        },
        refl,
      );
    }

    -- the cut is done
    module _ (unbroken : old.broken ≡ false) (b : LogBecomes content (cut_at old end) new) (durable : (c : Files) → Image (content new.disk) c → Opens c (all_of (cut_at old end)))
        (same : (cut_at old end).disk ≡ old.disk) (again : (cut_at old end).incarnation ≡ old.incarnation) (whole : (cut_at old end).broken ≡ old.broken)
        (coheres' : new.broken ≡ false → IsTrue (content new.disk).is_observable → Coheres new) (between : OpensBetween (content old.disk) (content new.disk)) where
      t : IsCutTo old (cut_at old end) end (cut_end_at old end)
      t = cut_told old end

      told_then : (s : LogSeen) → ShowsOpen content old s → IsTrue (content (cut_at old end).disk).is_observable
      told_then s h = ap (λ (d : D). (content d).is_observable) same ∙ h.told

      end_now : new.end ≡ cut_end_at old end
      end_now = ap (λ (l : Log D). l.end) b.fields ∙ t.end_is

      flushed_end_now : new.flushed_end ≡ cut_end_at old end
      flushed_end_now = ap (λ (l : Log D). l.flushed_end) b.fields ∙ t.flushed_end_is

      line_now : new.line ≡ cut_end old.line (cut_end_at old end)
      line_now = ap (λ (l : Log D). l.line) b.fields ∙ t.line_is

      local_now : new.local_start ≡ min old.local_start end
      local_now = ap (λ (l : Log D). l.local_start) b.fields ∙ t.local_is

      shows : (s : LogSeen) → ShowsOpen content old s → MayCutLog end s → ShowsOpen content new (cut_to s end)
      shows s h may =
          let k = seen_cut s h may in
          let e = end_of (up_to end s.batches) in
          let follow : IsConsecutive 0 (up_to end s.batches) = consecutive_prefix 0 (up_to end s.batches) s.batches (up_to_prefix end s.batches) h.consecutive in
          let inc : new.incarnation ≡ (cut_at old end).incarnation = ap (λ (l : Log D). l.incarnation) b.fields in
          record {
            told = b.is_observable ∙ told_then s h;
            unbroken = ap (λ (l : Log D). l.broken) b.fields ∙ whole ∙ unbroken;
            below = k.below;
            batches_are = k.parts ∙ ap (λ (l : List (List ℕ)). k.below ++ l) (sym (b.batches (told_then s h)));
            begins = k.begins ∙ sym (ap (λ (l : Log D). l.local_start) b.fields);
            consecutive = follow;
            local_is = ap (λ (n : ℕ). min s.local n) (sym k.end_is) ∙ sym k.local_is ∙ sym (ap (λ (l : Log D). l.local_start) b.fields);
            within = omega arith;
            line_is = ap (λ (l : List (ℕ × ℕ)). cut_end l e) h.line_is ∙ ap (cut_end old.line) (sym k.end_is) ∙ sym line_now;
            flushed_end_is = sym k.end_is ∙ sym flushed_end_now;
            ends = sym k.end_is ∙ sym end_now;
            tight = h.tight;
            images = λ c now. subst (Opens c)
                (opens_cut s h may ∙ ap (λ (i : ℕ). returning i s (cut_back s end)) (sym inc) ∙ anew s e follow (up_to_is 0 e (up_to end s.batches) s.batches h.consecutive (up_to_prefix end s.batches) refl) refl new.incarnation)
                (durable c now);
            incarnation_is = h.incarnation_is ∙ sym again ∙ sym inc;
            segments = (coheres' (ap (λ (l : Log D). l.broken) b.fields ∙ whole ∙ unbroken) (b.is_observable ∙ told_then s h)).segments;
          }
        where
          anew : (s : LogSeen) (e : ℕ) → IsConsecutive 0 (up_to end s.batches) → up_to e s.batches ≡ up_to end s.batches → e ≡ end_of (up_to end s.batches) → (i : ℕ)
              → returning i s (e, cut_end s.line e, min s.local e) ≡ returning i (cut_to s end) (e, cut_end s.line e, min s.local e)
          anew s e follow same is i =
              ap (λ (l : List (List ℕ)). record { incarnation = i; local_start = min s.local e; batches = from_offset (min s.local e) l; line = cut_end s.line e })
              (same ∙ sym (ap (λ (n : ℕ). up_to n (up_to end s.batches)) is ∙ up_to_all 0 (up_to end s.batches) follow))

      pub cuts_by : CutsLog content (Up old) (Up new) end new.end
      cuts_by = record {
        between = between;
        end_is = refl;
        flushed_end_is = ap Some (flushed_end_now ∙ sym end_now);
        line_is = ap Some (line_now ∙ ap (cut_end old.line) (sym end_now));
        local_is = ap Some local_now;
        point = end_now;
        layout = ap (λ (l : Log D). Some (layout_of l)) b.fields;
        seen = λ s h may. (cut_to s end, shows s h may, (refl, end_now ∙ (seen_cut s h may).end_is));
      }

-- a cut leaves the disk, and how often the log was opened
pub cut_same : {D : Type 0} (log : Log D) (end : ℕ) → ((cut_at log end).disk ≡ log.disk) × ((cut_at log end).incarnation ≡ log.incarnation) × ((cut_at log end).broken ≡ log.broken)
cut_same log end = elim (cases_lt end log.local_start) [
  | inl lt ↦ rw (lt-ltb end log.local_start lt) (refl, refl, refl)
  | inr ge ↦ rw (le-ltb end log.local_start ge) (refl, refl, refl)
]
