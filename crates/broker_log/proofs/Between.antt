-- What a crash leaves in the course of a call of a log: the log of before it, or that of after it.
use Rattle.std.proofs.Common.{◌≡◌, ◌∙◌, refl, ◌⊎◌, inl, inr, ⊎_elim, ℕ, ◌+◌, ◌≤◌, subst, arith, IsTrue}
use Rattle.disk_model.specs.Content.{Content, Files, Image, Lawful, Keeps, LeavesOnly}
use Rattle.log_steps.specs.Opens.{Opened, Opens}
use Rattle.log_steps.specs.Reopens.{Reopens, raised, OpensLike, Opening}
use Rattle.log_steps.proofs.Moments.{leaves_weaker}
use Rattle.local_log.specs.Cutting.{OpensAs, OpensBeforeOrNow, LeavesBeforeOrNow}
use Rattle.local_log.proofs.OneWay.{opens_once}
use Rattle.local_log.proofs.Sides.{before_either, kept_either, start_either}
use Rattle.tier_base.specs.declared.plain.Settings.{Settings}
use Rattle.broker_log.specs.Seen.{OpensLater, OpensBetween, Down, LogStays}

-- it opens as that image does
pub later_as : (d : Content) (c : Files) → OpensAs d c → OpensLater d c
later_as d c h = (h.0, h.1, λ o is. (o.incarnation, omega arith, h.2 o is))

pub between_by : (d d' : Content) → LeavesBeforeOrNow d d' → OpensBetween d d'
between_by d d' h told again =
    leaves_weaker d d' (OpensBeforeOrNow d d') (λ c. OpensLater d c ⊎ OpensLater d' c)
    (λ c i. ⊎_elim (λ was. inl (later_as d c was)) (λ now. inr (later_as d' c now)) i) h

pub between_as : (d d' : Content) → LeavesOnly d d' (OpensAs d) → OpensBetween d d'
between_as d d' h = between_by d d' (before_either d d' h)

pub between_kept : (d d' : Content) → Keeps d d' → OpensBetween d d'
between_kept d d' k = between_by d d' (kept_either d d' k)

pub between_same : (d : Content) → OpensBetween d d
between_same d = between_by d d (start_either d)

-- what is opened in the course of an opening was there before, perhaps under an earlier incarnation
pub between_opening : (d d' : Content) → Lawful d → (Reopens d → LeavesOnly d d' (Opening d)) → OpensBetween d d'
between_opening d d' laws h told again = leaves_weaker d d' (Opening d) (λ c. OpensLater d c ⊎ OpensLater d' c) (λ c i. inl (was c i)) (h again)
  where
    like : (c x : Files) (o : Opened) (i : ℕ) → Image d x → Opens x o → o.incarnation ≤ i → Opens c (record o { incarnation = i }) → OpensLater d c
    like c x o i at is le opens = (
      x,
      at,
      λ p by. (
        i,
        subst (λ (q : Opened). q.incarnation ≤ i) (opens_once x o p is by) le,
        subst (λ (q : Opened). Opens c (record q { incarnation = i })) (opens_once x o p is by) opens,
      ),
    )

    was : (c : Files) → Opening d c → OpensLater d c
    was c (inl k) = like c k.0 k.2.0 k.2.0.incarnation k.1 k.2.1 (omega arith) k.2.2
    was c (inr (o, reading, inl now)) = like c d.files o o.incarnation (laws.reads told) reading (omega arith) now
    was c (inr (o, reading, inr next)) = like c d.files o (o.incarnation + 1) (laws.reads told) reading (omega arith) next

-- a closed log whose disk was called without a change
pub stays_closed_kept : {D : Type 0} (content : D → Content) (settings : Settings) (d d' : D) → Keeps (content d) (content d') → LogStays content (Down settings d) (Down settings d')
stays_closed_kept content settings d d' k = record {
  up = refl;
  end = refl;
  flushed_end = refl;
  line = refl;
  local = refl;
  layout = refl;
  settings = refl;
  seen = λ s h. (
    s,
    record {
      told = k.is_observable ∙ h.told;
      kept = h.kept;
      images = λ c now. h.images c (k.images c now);
      again = record { opens = λ c now. h.again.opens c (k.images c now); fronts = λ c x m now at says. h.again.fronts c x m (k.images c now) (k.images x at) says };
    },
    refl,
  );
  between = between_kept (content d) (content d') k;
}
