-- How a log is seen of which the disk alone is left. After a write that failed, a crash leaves the log of before or the one
-- that was to be.
use Rattle.std.proofs.Common.{◌≡◌, ◌⊎◌, ◌∙◌, ap, sym, subst, refl, inl, inr, ⊎_elim, ℕ, ◌+◌, ◌≤◌, arith, Bool, true, false, List, IsTrue}
use Rattle.std.specs.Prelude.{nat_lt, if◌then◌else◌, Some}
use Rattle.disk_model.specs.Content.{Content, Files, Image, Lawful, LeavesOnly}
use Rattle.log_terms.specs.Log.{end_of, up_to, from_offset}
use Rattle.epoch_line.specs.Line.{cut_end}
use Rattle.log_steps.specs.Opens.{Opened, Opens}
use Rattle.log_steps.specs.Reopens.{Reopens}
use Rattle.local_log.specs.Log.{Log, committed, flushed_log}
use Rattle.local_log.specs.Cutting.{OpensAs, OpensAsOr}
use Rattle.broker_log.specs.Seen.{LogSeen, Back, Up, Down, OpensBetween, back_of, returning, returns, OpensAfterStop, IsBack, IsSeenSound, ShowsOpen}
use Rattle.broker_log.specs.Effects.{loosened, torn}
use Rattle.broker_log.specs.Failure.{Breaks, BreaksUnsaved}
use Rattle.broker_log.specs.Open.{StopsBroker}
use Rattle.broker_log.proofs.Between.{between_as, between_same}
use Rattle.broker_log.proofs.Showing.{image_as}
use Rattle.broker_log.proofs.Local.{opened_as, local_low, local_ends, up_local, back_stands, kept_stands}

-- the cut log or that of before, whichever ends first
pub torn_back : (i : ℕ) (s : LogSeen) (back : Back) (c : Files) → Opens c (returns i s) ⊎ Opens c (returning i s back) → OpensAfterStop i (torn s back) c
torn_back i s back c = go (nat_lt back.0 s.flushed_end)
  where
    go : (b : Bool) → Opens c (returns i s) ⊎ Opens c (returning i s back)
        → OpensAfterStop i (if b then record s { flushed_end = back.0; saved = back.1; local = back.2; loose = Some (back_of s) } else loosened s back) c
    go true (inl was) = inr was
    go true (inr made) = inl made
    go false (inl was) = inl was
    go false (inr made) = inr made

-- it was opened as often
pub torn_most : (i : ℕ) (s : LogSeen) (back : Back) → s.incarnation ≤ i → (torn s back).incarnation ≤ i
torn_most i s back le = go (nat_lt back.0 s.flushed_end)
  where
    go : (b : Bool) → (if b then record s { flushed_end = back.0; saved = back.1; local = back.2; loose = Some (back_of s) } else loosened s back).incarnation ≤ i
    go true = le
    go false = le

-- what is kept then
pub loosened_kept : (s : LogSeen) (back : Back) → IsSeenSound s → IsBack s back → IsSeenSound (loosened s back)
loosened_kept s back k is = record {
  consecutive = k.consecutive;
  back = record { begins = k.back.begins; within = k.back.within };
  loose = λ other e. (let same : back ≡ other = cc (e) in subst (λ (o : Back). IsBack (loosened s back) o) same (record { begins = is.begins; within = is.within }));
}

pub torn_kept : (s : LogSeen) (back : Back) → IsSeenSound s → IsBack s back → IsSeenSound (torn s back)
torn_kept s back k is = go (nat_lt back.0 s.flushed_end)
  where
    low : LogSeen
    low = record s { flushed_end = back.0; saved = back.1; local = back.2; loose = Some (back_of s) }

    go : (b : Bool) → IsSeenSound (if b then record s { flushed_end = back.0; saved = back.1; local = back.2; loose = Some (back_of s) } else loosened s back)
    go true = record {
      consecutive = k.consecutive;
      back = record { begins = is.begins; within = is.within };
      loose = λ other e. (let same : back_of s ≡ other = cc (e) in subst (λ (o : Back). IsBack low o) same (record { begins = k.back.begins; within = k.back.within }));
    }
    go false = loosened_kept s back k is

-- what is the same is no less
pub most : {m n : ℕ} → m ≡ n → m ≤ n
most is = omega (arith, is)

-- a log that is closed comes back as it is
pub stops_by : {D : Type 0} (content : D → Content) (log : Log D) → Reopens (content log.disk) → StopsBroker content (Up log) (Down log.settings log.disk)
stops_by content log again = record {
  between = between_same (content log.disk);
  down = refl;
  settings = refl;
  seen = λ s h. (s, record { told = h.told; kept = kept_stands content log s h; images = λ c now. (log.incarnation, most h.incarnation_is, inl (h.images c now)); again = again }, refl);
}

module _ {D : Type 0} (content : D → Content) (old new : Log D) where
  pub breaks_by : (after : LogSeen → LogSeen) → (content new.disk).is_observable ≡ (content old.disk).is_observable → Reopens (content new.disk)
      → ((s : LogSeen) → ShowsOpen content old s → IsSeenSound (after s))
      → ((s : LogSeen) → ShowsOpen content old s → (c : Files) → Image (content new.disk) c → (i : ℕ) × ((after s).incarnation ≤ i) × OpensAfterStop i (after s) c)
      → OpensBetween (content old.disk) (content new.disk) → Breaks content (Up old) (Down old.settings new.disk) after
  breaks_by after is_observable again kept images between = record {
    between = between;
    down = refl;
    settings = refl;
    seen = λ s h. (after s, record { told = is_observable ∙ h.told; kept = kept s h; images = images s h; again = again }, refl);
  }

  module _ (laws : Lawful (content new.disk)) where
    -- as before, or as what was to be
    pub image_or : (o : Opened) → LeavesOnly (content old.disk) (content new.disk) (OpensAsOr (content old.disk) o)
        → (s : LogSeen) → ShowsOpen content old s → (p : Opened) → o ≡ p
        → (c : Files) → Image (content new.disk) c → Opens c (returns old.incarnation s) ⊎ Opens c p
    image_or o opens s h p is c now =
        ⊎_elim
        (λ was. inl (was.2 (returns old.incarnation s) (h.images was.0 was.1)))
        (λ made. inr (subst (Opens c) is made))
        (opens.each c (laws.earlier (content old.disk).moment (content new.disk).moment c opens.later now))

    module _ (again : Reopens (content new.disk)) where
      -- each image opens as before
      pub breaks_unsaved : (content new.disk).is_observable ≡ (content old.disk).is_observable → LeavesOnly (content old.disk) (content new.disk) (OpensAs (content old.disk)) → BreaksUnsaved content (Up old) (Down old.settings new.disk)
      breaks_unsaved is_observable opens =
          breaks_by _ is_observable again
          (λ s h. loosened_kept s (back_of s) (kept_stands content old s h) (back_stands content old s h))
          (λ s h c now. (let was = image_as (content old.disk) (content new.disk) laws opens c now in (old.incarnation, most h.incarnation_is, inl (was.2 (returns old.incarnation s) (h.images was.0 was.1)))))
          (between_as (content old.disk) (content new.disk) opens)

      -- all of the log was to be flushed
      pub breaks_settling : (f : List (ℕ × ℕ) → ℕ → List (ℕ × ℕ)) → (IsTrue (content old.disk).is_observable → cut_end (f old.line old.end) (old.end + 1) ≡ f old.line old.end)
          → (content new.disk).is_observable ≡ (content old.disk).is_observable → LeavesOnly (content old.disk) (content new.disk) (OpensAsOr (content old.disk) (flushed_log (committed old (f old.line old.end))))
          → OpensBetween (content old.disk) (content new.disk) → Breaks content (Up old) (Down old.settings new.disk) (λ s. loosened s (end_of s.batches, f s.line (end_of s.batches), s.local))
      breaks_settling f within is_observable opens between =
          breaks_by _ is_observable again
          (λ s h. loosened_kept s (end_of s.batches, f s.line (end_of s.batches), s.local) (kept_stands content old s h) (record { begins = local_ends content old s h; within = local_low content old s h }))
          (λ s h c now. (old.incarnation, most h.incarnation_is, image_or (flushed_log (committed old (f old.line old.end))) opens s h (returning old.incarnation s (end_of s.batches, f s.line (end_of s.batches), s.local)) (made s h) c now))
          between
        where
          made : (s : LogSeen) → ShowsOpen content old s → flushed_log (committed old (f old.line old.end)) ≡ returning old.incarnation s (end_of s.batches, f s.line (end_of s.batches), s.local)
          made s h =
              opened_as (flushed_log (committed old (f old.line old.end))) old.incarnation s.local (from_offset s.local (up_to (end_of s.batches) s.batches)) (f s.line (end_of s.batches))
              refl
              (sym h.local_is)
              (ap (λ (n : ℕ). up_to n old.batches) (sym h.ends) ∙ sym (up_local content old s h (end_of s.batches) (local_low content old s h)))
              (within h.told ∙ ap (f old.line) (sym h.ends) ∙ ap (λ (l : List (ℕ × ℕ)). f l (end_of s.batches)) (sym h.line_is))
