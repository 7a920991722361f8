-- How a log is seen when it is opened again, or couldn't be.
use Rattle.std.proofs.Common.{◌≡◌, ◌∙◌, ap, sym, subst, refl, inl, inr, ℕ, ◌+◌, ◌≤◌, ◌<◌, List, [], ◌∷◌, ◌++◌, arith, Option, Some, None, IsSomeAnd, IsTrue, false}
use Rattle.tier_base.specs.declared.plain.FileName.{FileName}
use Rattle.tier_base.specs.declared.plain.Settings.{Settings}
use Rattle.tier_base.specs.Device.{Control}
use Rattle.disk_model.specs.Call.{call_code}
use Rattle.disk_model.specs.Content.{Content, Files, Image, Lawful, LeavesOnly}
use Rattle.log_terms.specs.Log.{up_to, from_offset, end_from, end_of, IsConsecutive}
use Rattle.log_steps.specs.Opens.{Opened, Opens}
use Rattle.log_steps.specs.Reopens.{Reopens, raised, Opening}
use Rattle.local_log.specs.Log.{Log}
use Rattle.local_log.specs.Coheres.{Coheres}
use Rattle.local_log.specs.Cutting.{whole_log}
use Rattle.segment_file.specs.Growing.{Grown}
use Rattle.log_steps.specs.Fronts.{Each}
use Rattle.local_log.specs.Opening.{IsLogOf, IsOpenLog, OpenFails, OpenFailsIn}
use Rattle.local_log.proofs.Pieces.{up_to_all, consecutive_append}
use Rattle.broker_log.specs.Seen.{LogSeen, Back, Up, Down, ChangesSeen, LogStays, back_of, IsBack, returning, returns, OpensAfterStop, ShowsOpen, ShowsClosed}
use Rattle.local_log.specs.declared.refusal.OpenRefusal.TheVariants.{Damaged}
use Rattle.local_log.specs.Refusing.{IsSoundCause}
use Rattle.local_log.specs.declared.refusal.OpenRefusal.{OpenRefusal}
use Rattle.broker_log.specs.Effects.{opened, OpensWith, ComesBackAs as ComesAt, LeadsTo}
use Rattle.broker_log.specs.Open.{read_behind, Unopened}
use Rattle.broker_log.proofs.Between.{between_opening}
use Rattle.broker_log.proofs.Local.{opened_as, parts_at, up_up, from_rest}
use Rattle.log_terms.proofs.Logs.{end_append, consecutive_prefix, prefix_end, up_to_prefix, up_to_end}
use Rattle.local_log.proofs.OneWay.{opens_once}

-- what is seen in one of two ways
some_and : {X : Type 0} (o : Option X) (P : X → Type 0) → IsSomeAnd o P → (x : X) × (o ≡ Some x) × P x
some_and (Some x) P p = (x, refl, p)
some_and None P p = absurd p

-- what comes back from one image comes back from another, where that opens alike
back_as : (i j : ℕ) (s : LogSeen) (d c : Files) → ((back : Back) → Opens d (returning i s back) → Opens c (returning j s back)) → OpensAfterStop i s d → OpensAfterStop j s c
back_as i j s d c f (inl is) = inl (f (back_of s) is)
back_as i j s d c f (inr is) =
    let other = some_and s.loose (λ back. Opens d (returning i s back)) is in
    inr (subst (λ (o : Option Back). IsSomeAnd o (λ back. Opens c (returning j s back))) (sym other.1) (f other.0 other.2))

module _ {D : Type 0} (content : D → Content) (settings : Settings) (disk : D) (laws : Lawful (content disk)) where
  -- what reads is one of the images
  pub reads : (s : LogSeen) (h : ShowsClosed content disk s) → (i : ℕ) × (s.incarnation ≤ i) × OpensAfterStop i s (content disk).files
  reads s h = h.images (content disk).files (laws.reads h.told)

  module _ (log : Log D) (is_observable : (content log.disk).is_observable ≡ (content disk).is_observable) (flushed_end : log.flushed_end ≡ log.end) (unbroken : log.broken ≡ false)
      (is_of : IsTrue (content disk).is_observable → (o : Opened) × Opens (content disk).files o × IsLogOf o log) (coheres : IsTrue (content log.disk).is_observable → Coheres log)
      (durable : (c : Files) → Image (content log.disk) c → Opens c (whole_log log)) where
    -- what was read is seen, after whatever leads up to it
    module _ (told : IsTrue (content log.disk).is_observable) (o : Opened) (is : IsLogOf o log) (below : List (List ℕ)) (leads : LeadsTo below o.local_start) where
      c : Coheres log
      c = coheres told

      all : IsConsecutive 0 (below ++ o.batches)
      all = consecutive_append 0 below o.batches leads.consecutive
          (subst (λ (n : ℕ). IsConsecutive n o.batches) (is.local_start ∙ sym leads.ends) (subst (IsConsecutive log.local_start) is.batches c.consecutive))

      ends : end_of (below ++ o.batches) ≡ log.end
      ends =
          end_append 0 below o.batches
          ∙ ap (λ (n : ℕ). end_from n o.batches) (leads.ends ∙ sym is.local_start)
          ∙ ap (end_from log.local_start) (sym is.batches)
          ∙ c.ends

      whole_is : whole_log log ≡ returns log.incarnation (read_behind o below)
      whole_is =
          opened_as (whole_log log) log.incarnation o.local_start (from_offset o.local_start (up_to (end_of (below ++ o.batches)) (below ++ o.batches))) o.line
          refl
          is.local_start
          (is.batches ∙ sym (ap (from_offset o.local_start) (up_to_all 0 (below ++ o.batches) all) ∙ from_rest o.local_start below o.batches all leads.ends))
          (c.line_within ∙ is.line)

      pub seen_behind : ShowsOpen content log (read_behind o below)
      seen_behind = record {
        told = told;
        unbroken = unbroken;
        below = below;
        batches_are = ap (λ (l : List (List ℕ)). below ++ l) (sym is.batches);
        begins = leads.ends ∙ sym is.local_start;
        consecutive = all;
        local_is = sym is.local_start;
        within = (let low = prefix_end below (below ++ o.batches) all (o.batches, refl) in omega (arith, low, leads.ends));
        line_is = sym is.line;
        flushed_end_is = ends ∙ sym flushed_end;
        ends = ends;
        tight = refl;
        images = λ f now. subst (Opens f) whole_is (durable f now);
        incarnation_is = sym is.incarnation;
        segments = c.segments;
      }

    pub read_by : IsTrue (content disk).is_observable → (o : Opened) × Opens (content disk).files o × ((below : List (List ℕ)) → LeadsTo below o.local_start → ShowsOpen content log (read_behind o below))
    read_by t = (let x = is_of t in (x.0, x.1, seen_behind (subst IsTrue (sym is_observable) t) x.0 x.2))

    -- what came back
    module _ (s : LogSeen) (h : ShowsClosed content disk s) (i : ℕ) (back : Back) (from : IsBack s back) (is : Opens (content disk).files (returning i s back)) where
      read_is : (is_of h.told).0 ≡ returning i s back
      read_is = opens_once (content disk).files (is_of h.told).0 (returning i s back) (is_of h.told).1 is

      is_back : IsLogOf (returning i s back) log
      is_back = subst (λ (o : Opened). IsLogOf o log) read_is (is_of h.told).2

      abbrev below : List (List ℕ)
      below = up_to back.2 s.batches

      leads : LeadsTo below back.2
      leads = record {
        consecutive = consecutive_prefix 0 below s.batches (up_to_prefix back.2 s.batches) h.kept.consecutive;
        ends = up_to_end back.2 s.batches h.kept.consecutive from.begins;
      }

      parts : below ++ from_offset back.2 (up_to back.0 s.batches) ≡ up_to back.0 s.batches
      parts =
          ap (λ (l : List (List ℕ)). l ++ from_offset back.2 (up_to back.0 s.batches)) (sym (up_up back.2 back.0 s.batches from.within))
          ∙ sym (parts_at back.2 (up_to back.0 s.batches))

      -- as it came back, with these batches
      abbrev whole : List (List ℕ) → ℕ → LogSeen
      whole batches n = record { batches = batches; line = back.1; flushed_end = end_of batches; saved = back.1; local = back.2; loose = None; incarnation = n }

      pub comes_back : ShowsOpen content log (opened s back log.incarnation)
      comes_back =
          subst (ShowsOpen content log) (ap (λ (l : List (List ℕ)). whole l (i + 1)) parts ∙ ap (whole (up_to back.0 s.batches)) (sym is_back.incarnation))
          (seen_behind (is_observable ∙ h.told) (returning i s back) is_back below leads)

      pub opens_at : s.incarnation ≤ i → (s' : LogSeen) × ShowsOpen content log s' × OpensWith log.end s s' back × (s.incarnation < s'.incarnation)
      opens_at least = (opened s back log.incarnation, comes_back, (refl, sym comes_back.ends), (let next = is_back.incarnation in omega (arith, least, next)))

    pub opens_by : ChangesSeen content (Down settings disk) (Up log) (λ s s'. ComesAt log.end s s' × (s.incarnation < s'.incarnation))
    opens_by s h = go (reads s h).2
      where
        go : OpensAfterStop (reads s h).0 s (content disk).files → (s' : LogSeen) × ShowsOpen content log s' × (ComesAt log.end s s' × (s.incarnation < s'.incarnation))
        go (inl is) = let x = opens_at s h (reads s h).0 (back_of s) h.kept.back is (reads s h).1 in (x.0, x.1, (inl x.2, x.3))
        go (inr is) =
            let other = some_and s.loose (λ back. Opens (content disk).files (returning (reads s h).0 s back)) is in
            let x = opens_at s h (reads s h).0 other.0 (h.kept.loose other.0 other.1) other.2 (reads s h).1 in (
              x.0,
              x.1,
              (inr (subst (λ (o : Option Back). IsSomeAnd o (λ back. OpensWith log.end s x.0 back)) (sym other.1) x.2), x.3),
            )

  -- it couldn't be opened, or was closed again
  module _ (disk' : D) (laws' : Lawful (content disk')) (is_observable : (content disk').is_observable ≡ (content disk).is_observable)
      (leaves : Reopens (content disk) → LeavesOnly (content disk) (content disk') (Opening (content disk))) (again : Reopens (content disk) → Reopens (content disk')) where
    still : (s : LogSeen) (h : ShowsClosed content disk s) (c : Files) → Opening (content disk) c → (i : ℕ) × (s.incarnation ≤ i) × OpensAfterStop i s c
    still s h c (inl like) =
        let was = h.images like.0 like.1 in
        (was.0, was.1, back_as was.0 was.0 s like.0 c (λ back is. subst (Opens c) (opens_once like.0 like.2.0 (returning was.0 s back) like.2.1 is) like.2.2) was.2)
    still s h c (inr (o, reading, inl now)) =
        let was = reads s h in
        (was.0, was.1, back_as was.0 was.0 s (content disk).files c (λ back is. subst (Opens c) (opens_once (content disk).files o (returning was.0 s back) reading is) now) was.2)
    still s h c (inr (o, reading, inr next)) =
        let was = reads s h in
        (was.0 + 1, (let least = was.1 in omega (arith, least)), back_as was.0 (was.0 + 1) s (content disk).files c (λ back is. subst (λ (p : Opened). Opens c (raised p)) (opens_once (content disk).files o (returning was.0 s back) reading is) next) was.2)

    pub stays_closed : ChangesSeen content (Down settings disk) (Down settings disk') (λ s s'. s' ≡ s)
    stays_closed s h = (
      s,
      record {
        told = is_observable ∙ h.told;
        kept = h.kept;
        images = λ c now. (let l = leaves h.again in still s h c (l.each c (laws'.earlier (content disk).moment (content disk').moment c l.later now)));
        again = again h.again;
      },
      refl,
    )

    -- so is the log
    pub stays_by_closing : LogStays content (Down settings disk) (Down settings disk')
    stays_by_closing = record { up = refl; end = refl; flushed_end = refl; line = refl; local = refl; layout = refl; settings = refl; seen = stays_closed; between = between_opening (content disk) (content disk') laws leaves }

    -- what was returned is invalid, so nothing was seen of the log
    pub unopened : (control : D → Control call_code) (why : OpenRefusal) (name : FileName) (at : ℕ) → why ≡ Damaged name at → OpenFails (control disk').last_read why
        → (IsTrue (content disk).is_observable → OpenFailsIn (content disk).files why) → (IsTrue (content disk).is_observable → (o : Opened) → Opens (content disk).files o → IsSoundCause why) → Unopened content control (Down settings disk) (Down settings disk') name at
    unopened control why name at is fails place sound = record {
      stays = stays_by_closing;
      cause = subst (OpenFails (control disk').last_read) is fails;
      place = λ t. subst (OpenFailsIn (content disk).files) is (place t);
      unread = λ t o opens. subst IsSoundCause is (sound t o opens);
      unseen = λ s h. (let o = h.again.opens (content disk).files (laws.reads h.told) in subst IsSoundCause is (sound h.told o.0 o.1));
    }

-- its segments' indexes have the interval of its settings
pub intervals_of : {D : Type 0} (settings : Settings) (log : Log D) → IsOpenLog settings log → Each (λ (segment : Grown). segment.interval ≡ log.settings.index_interval) (log.closed ++ log.active ∷ [])
intervals_of settings log is = subst (λ (s : Settings). Each (λ (segment : Grown). segment.interval ≡ s.index_interval) (log.closed ++ log.active ∷ [])) (sym is.settings_are) is.intervals
