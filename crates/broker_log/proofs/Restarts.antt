-- How a log is seen that was restarted: whatever batches lead up to there.
use Rattle.std.proofs.Common.{◌≡◌, ◌∙◌, ap, sym, subst, refl, inl, inr, ⊎_elim, ℕ, false, List, ◌++◌, Some, IsTrue, arith, append-nil}
use Rattle.disk_model.specs.Content.{Content, Files, Image, Lawful, LeavesOnly}
use Rattle.log_terms.specs.Log.{EndsAt, up_to, from_offset, end_of}
use Rattle.log_terms.proofs.Logs.{up_to_prefix, up_to_end}
use Rattle.log_terms.proofs.Lists.{prefix_self}
use Rattle.log_steps.specs.Opens.{Opens}
use Rattle.log_steps.specs.Reopens.{Reopens}
use Rattle.local_log.specs.Log.{Log, LogBecomes}
use Rattle.local_log.specs.Coheres.{Coheres}
use Rattle.local_log.specs.Cutting.{restarted as restarted_log, all_of, OpensAsOr}
use Rattle.broker_log.specs.Seen.{LogSeen, Back, Up, Down, OpensBetween, layout_of, IsBack, returning, ShowsOpen}
use Rattle.broker_log.specs.Effects.{LeadsTo, restarted, unbuilt}
use Rattle.broker_log.specs.Failure.{RestartBreaks}
use Rattle.broker_log.specs.Write.{Restarts}
use Rattle.broker_log.proofs.Breaking.{most, image_or}
use Rattle.broker_log.proofs.Local.{opened_as, from_end, up_up, local_ends}

module _ {D : Type 0} (content : D → Content) (old : Log D) (n : ℕ) (line : List (ℕ × ℕ)) where
  -- what an image opens as that has no more of it
  opens_restarted : (s : LogSeen) (whole : List (List ℕ)) → LeadsTo whole n → all_of (restarted_log old n line) ≡ returning old.incarnation (restarted s whole line n) (n, line, n)
  opens_restarted s whole w =
      opened_as (all_of (restarted_log old n line)) old.incarnation n (from_offset n (up_to n whole)) line refl refl (sym (from_end n whole w.consecutive w.ends)) refl

  pub restarts_by : (new : Log D) → old.broken ≡ false → LogBecomes content (restarted_log old n line) new → ((c : Files) → Image (content new.disk) c → Opens c (all_of (restarted_log old n line)))
      → (new.broken ≡ false → IsTrue (content new.disk).is_observable → Coheres new) → OpensBetween (content old.disk) (content new.disk) → Restarts content (Up old) (Up new) n line
  restarts_by new unbroken b durable coheres between = record {
    between = between;
    end_is = ap (λ (l : Log D). Some l.end) b.fields;
    flushed_end_is = ap (λ (l : Log D). Some l.flushed_end) b.fields;
    local_is = ap (λ (l : Log D). Some l.local_start) b.fields;
    line_is = ap (λ (l : Log D). Some l.line) b.fields;
    layout = ap (λ (l : Log D). Some (layout_of l)) b.fields;
    seen = λ s h whole w.
        let inc : new.incarnation ≡ old.incarnation = ap (λ (l : Log D). l.incarnation) b.fields in
        record {
          told = b.is_observable ∙ h.told;
          unbroken = ap (λ (l : Log D). l.broken) b.fields ∙ unbroken;
          below = whole;
          batches_are = sym (append-nil whole) ∙ ap (λ (l : List (List ℕ)). whole ++ l) (sym (b.batches h.told));
          begins = w.ends ∙ sym (ap (λ (l : Log D). l.local_start) b.fields);
          consecutive = w.consecutive;
          local_is = sym (ap (λ (l : Log D). l.local_start) b.fields);
          within = omega arith;
          line_is = sym (ap (λ (l : Log D). l.line) b.fields);
          flushed_end_is = sym (ap (λ (l : Log D). l.flushed_end) b.fields);
          ends = w.ends ∙ sym (ap (λ (l : Log D). l.end) b.fields);
          tight = h.tight;
          images = λ c now. subst (Opens c) (opens_restarted s whole w ∙ ap (λ (i : ℕ). returning i (restarted s whole line n) (n, line, n)) (sym inc)) (durable c now);
          incarnation_is = h.incarnation_is ∙ sym inc;
          segments = (coheres (ap (λ (l : Log D). l.broken) b.fields ∙ unbroken) (b.is_observable ∙ h.told)).segments;
        };
  }

  -- an end of what is flushed is one of batches that have it
  ends_then : (s : LogSeen) (whole : List (List ℕ)) → ShowsOpen content old s → LeadsTo whole n → up_to s.flushed_end whole ≡ up_to s.flushed_end s.batches → EndsAt s.local whole
  ends_then s whole h w same =
      let at = up_to_end s.local s.batches h.consecutive (local_ends content old s h) in
      let here : up_to s.local whole ≡ up_to s.local s.batches =
      sym (up_up s.local s.flushed_end whole h.within) ∙ ap (up_to s.local) same ∙ up_up s.local s.flushed_end s.batches h.within in
      (up_to s.local whole, up_to_prefix s.local whole, ap end_of here ∙ at)

  pub restart_breaks : (new : Log D) → (content new.disk).is_observable ≡ (content old.disk).is_observable → Lawful (content new.disk) → Reopens (content new.disk)
      → LeavesOnly (content old.disk) (content new.disk) (OpensAsOr (content old.disk) (all_of (restarted_log old n line))) → OpensBetween (content old.disk) (content new.disk) → RestartBreaks content (Up old) (Down old.settings new.disk) n line
  restart_breaks new is_observable laws again opens between = record {
    between = between;
    down = refl;
    settings = refl;
    seen = λ s h whole w same.
        record {
          told = is_observable ∙ h.told;
          kept = record {
            consecutive = w.consecutive;
            back = record { begins = ends_then s whole h w same; within = h.within };
            loose = λ other e. (let is : (n, line, n) ≡ other = cc (e) in subst (λ (o : Back). IsBack (unbuilt s whole line n) o) is (record { begins = (whole, prefix_self whole, w.ends); within = omega arith }));
          };
          images = λ c now. (
            old.incarnation,
            most h.incarnation_is,
            ⊎_elim
                (λ was. inl (subst (Opens c) (ap (λ (l : List (List ℕ)). record { incarnation = old.incarnation; local_start = s.local; batches = from_offset s.local l; line = s.saved }) (sym same)) was))
                (λ made. inr made)
                (image_or content old new laws (all_of (restarted_log old n line)) opens s h (returning old.incarnation (unbuilt s whole line n) (n, line, n)) (opens_restarted s whole w) c now),
          );
          again = again;
        };
  }
