-- What the making of a broker leaves of its disk.
use Rattle.std.proofs.Common.{◌≡◌, ◌∙◌, ◌⊎◌, inl, inr, ⊎_elim, sym, ap, subst, refl, ℕ, ◌≤◌, Bool, true, false, List, [], ◌∷◌, arith}
use Rattle.std.proofs.Math.Dec.{eqb-suc-zero}
use Rattle.tier_base.specs.Counts.{counted}
use Rattle.tier_base.specs.Device.{Control, Lasts}
use Rattle.tier_base.proofs.Lasting.{lasts_then}
use Rattle.disk_model.specs.Call.{call_code}
use Rattle.std.specs.Prelude.{IsTrue, ◌==◌, length, Result, Err}
use Rattle.disk_model.specs.Content.{Content, Files, Image, LeavesOnly}
use Rattle.log_steps.specs.Opens.{Opened, Opens}
use Rattle.log_steps.specs.Publishes.{IsLike}
use Rattle.log_steps.specs.Reopens.{Reopens}
use Rattle.log_steps.proofs.Moments.{started, leaves_weaker, leaves_then}
use Rattle.local_log.specs.Log.{Creating}
use Rattle.broker_log.specs.Seen.{LogState, Up, Down, Away, LogSeen, ShowsSeen, ChangesSeen, OnDisk, is_up, OpensLater, OpensAfterStop, LeavesBetween, Lasting, NoFault, OneFault}
use Rattle.broker_log.specs.Effects.{settled, loosened}
use Rattle.partition_commands.specs.declared.partition_state.Node.{Node}
use Rattle.partition_commands.specs.declared.refusal.WorldRefusal.{WorldRefusal}
use Rattle.partition_commands.specs.declared.refusal.WorldRefusal.TheVariants.{DiskFault, NoMemory}
use Rattle.partition_commands.specs.Partition.{line_of}
use Rattle.partition_commands.specs.Fresh.{OpensEmpty, LeavesBeginning, LeavesEntering, IsFreshNode, IsMadeOver, RefusesOver, empty_log, empty_seen, is_first}

-- what is seen of a log all of whose images are empty logs
abbrev pub IsEmptySeen : LogSeen → Type 0
IsEmptySeen s = (1 ≤ s.incarnation) × ((i : ℕ) (c : Files) → 1 ≤ i → OpensAfterStop i s c → OpensEmpty true c)

pub empty_is : IsEmptySeen (empty_seen [])
empty_is = (omega arith, λ i c le opens. by i c le opens)
  where
    by : (i : ℕ) (c : Files) → 1 ≤ i → OpensAfterStop i (empty_seen []) c → OpensEmpty true c
    by i c le (inl opens) = (i, le, inl opens)
    by i c le (inr bad) = absurd bad

pub entered_is : IsEmptySeen (settled (empty_seen []) ((0, 0) ∷ []))
entered_is = (omega arith, λ i c le opens. by i c le opens)
  where
    by : (i : ℕ) (c : Files) → 1 ≤ i → OpensAfterStop i (settled (empty_seen []) ((0, 0) ∷ [])) c → OpensEmpty true c
    by i c le (inl opens) = (i, le, inr (refl, opens))
    by i c le (inr bad) = absurd bad

pub loosened_is : IsEmptySeen (loosened (empty_seen []) (0, (0, 0) ∷ [], 0))
loosened_is = (omega arith, λ i c le opens. by i c le opens)
  where
    by : (i : ℕ) (c : Files) → 1 ≤ i → OpensAfterStop i (loosened (empty_seen []) (0, (0, 0) ∷ [], 0)) c → OpensEmpty true c
    by i c le (inl opens) = (i, le, inl opens)
    by i c le (inr opens) = (i, le, inr (refl, opens))

-- opened more often, it is an empty log still
later_empty : (d : Content) (c : Files) → ((x : Files) → Image d x → OpensEmpty true x) → OpensLater d c → OpensEmpty true c
later_empty d c images (x, at, later) = by (images x at)
  where
    by : OpensEmpty true x → OpensEmpty true c
    by (i, le, inl opens) = let t = later (empty_log i false) opens in (t.0, omega (arith, le, t.1), inl t.2)
    by (i, le, inr (leads, opens)) = let t = later (empty_log i true) opens in (t.0, omega (arith, le, t.1), inr (refl, t.2))

-- the disk of a log that was closed
pub on_closed : {D : Type 0} (P : D → Type 0) (kept : LogState D) (now : D) → OnDisk kept P → OnDisk kept (λ d. now ≡ d) → P now
on_closed P (Up log) now p is = subst P (sym is) p
on_closed P (Down settings d) now p is = subst P (sym is) p
on_closed P Away now p is = absurd is

module _ {D : Type 0} (content : D → Content) where
  images_empty : (kept : LogState D) (s : LogSeen) → ShowsSeen content kept s → IsEmptySeen s → OnDisk kept (λ d. (x : Files) → Image (content d) x → OpensEmpty true x)
  images_empty (Up log) s shows e = λ x at. e.1 log.incarnation x (let up = shows.incarnation_is in let some = e.0 in omega (arith, up, some)) (inl (shows.images x at))
  images_empty (Down settings d) s shows e = λ x at. (let t = shows.images x at in e.1 t.0 x (let some = e.0 in let le = t.1 in omega (arith, some, le)) t.2)
  images_empty Away s shows e = absurd shows

  again_of : (kept : LogState D) (s : LogSeen) → ShowsSeen content kept s → (IsTrue (is_up kept) → OnDisk kept (λ d. Reopens (content d))) → OnDisk kept (λ d. Reopens (content d))
  again_of (Up log) s shows up = up refl
  again_of (Down settings d) s shows up = shows.again
  again_of Away s shows up = absurd shows

  entering : (d d' : D) → IsTrue (content d).is_observable → Reopens (content d) → (IsTrue (content d).is_observable → Reopens (content d) → LeavesOnly (content d) (content d') (λ c. OpensLater (content d) c ⊎ OpensLater (content d') c))
      → ((x : Files) → Image (content d) x → OpensEmpty true x) → ((x : Files) → Image (content d') x → OpensEmpty true x) → Reopens (content d') → LeavesEntering content d d'
  entering d d' told again between was is now = record {
    moments = leaves_weaker (content d) (content d') (λ c. OpensLater (content d) c ⊎ OpensLater (content d') c) (OpensEmpty true)
        (λ c o. ⊎_elim (later_empty (content d) c was) (later_empty (content d') c is) o) (between told again);
    again = now;
  }

  enters : (old new : LogState D) (s s' : LogSeen) → ShowsSeen content old s → IsEmptySeen s → ShowsSeen content new s' → IsEmptySeen s' → LeavesBetween content old new → OnDisk old (λ d. Reopens (content d)) → OnDisk new (λ d. Reopens (content d))
      → OnDisk old (λ d. OnDisk new (LeavesEntering content d))
  enters Away new s s' shows e shows' e' between again now = absurd shows
  enters (Up log) (Up log') s s' shows e shows' e' between again now =
      entering log.disk log'.disk shows.told again between (images_empty (Up log) s shows e) (images_empty (Up log') s' shows' e') now
  enters (Up log) (Down k d') s s' shows e shows' e' between again now =
      entering log.disk d' shows.told again between (images_empty (Up log) s shows e) (images_empty (Down k d') s' shows' e') now
  enters (Up log) Away s s' shows e shows' e' between again now = absurd shows'
  enters (Down j d) (Up log') s s' shows e shows' e' between again now =
      entering d log'.disk shows.told again between (images_empty (Down j d) s shows e) (images_empty (Up log') s' shows' e') now
  enters (Down j d) (Down k d') s s' shows e shows' e' between again now =
      entering d d' shows.told again between (images_empty (Down j d) s shows e) (images_empty (Down k d') s' shows' e') now
  enters (Down j d) Away s s' shows e shows' e' between again now = absurd shows'

  -- a leader enters epoch 0, or a call that it makes for that fails
  pub enters_by : (f : LogSeen → LogSeen) (old new : LogState D) (line : List (ℕ × ℕ)) → line ≡ [] → ShowsSeen content old (empty_seen line) → ChangesSeen content old new (λ s s'. s' ≡ f s) → IsEmptySeen (f (empty_seen [])) → LeavesBetween content old new
      → (IsTrue (is_up old) → OnDisk old (λ d. Reopens (content d))) → (IsTrue (is_up new) → OnDisk new (λ d. Reopens (content d))) → OnDisk old (λ d. OnDisk new (LeavesEntering content d))
  enters_by f old new line none shows changes empty between up up' =
      let s = subst (λ (l : List (ℕ × ℕ)). ShowsSeen content old (empty_seen l)) none shows in
      let t = changes (empty_seen []) s in
      enters old new (empty_seen []) t.0 s empty_is t.1 (subst IsEmptySeen (sym t.2) empty) between (again_of old (empty_seen []) s up) (again_of new t.0 t.1 up')

  -- a follower's broker may be a leader's
  wider : (leads : Bool) (c : Files) → OpensEmpty false c → OpensEmpty leads c
  wider leads c (i, le, inl opens) = (i, le, inl opens)
  wider leads c (i, le, inr (bad, opens)) = absurd (let clash : false ≡ true = bad in cc)

  pub leaves_wider : (leads : Bool) (disk now : D) → LeavesBeginning content false disk now → LeavesBeginning content leads disk now
  leaves_wider leads disk now l = record {
    moments = leaves_weaker (content disk) (content now) (λ c. IsLike (content disk) c ⊎ OpensEmpty false c) (λ c. IsLike (content disk) c ⊎ OpensEmpty leads c)
        (λ c o. ⊎_elim (λ was. inl was) (λ e. inr (wider leads c e)) o) l.moments;
    again = l.again;
  }

  -- the log was created, or not
  pub leaves_creating : (disk now : D) → LeavesOnly (content disk) (content now) (Creating (content disk)) → (Reopens (content disk) → Reopens (content now)) → LeavesBeginning content false disk now
  leaves_creating disk now l again = record {
    moments = leaves_weaker (content disk) (content now) (Creating (content disk)) (λ c. IsLike (content disk) c ⊎ OpensEmpty false c) (λ c o. ⊎_elim (λ was. inl was) (λ opens. inr (1, omega arith, inl opens)) o) l;
    again = again;
  }

  -- and epoch 0 was entered then, or not
  pub leaves_entering : (disk mid now : D) → LeavesBeginning content false disk mid → LeavesEntering content mid now → LeavesBeginning content true disk now
  leaves_entering disk mid now l e = record {
    moments = leaves_then (content disk) (content mid) (content now) (λ c. IsLike (content disk) c ⊎ OpensEmpty true c) (leaves_wider true disk mid l).moments
        (leaves_weaker (content mid) (content now) (OpensEmpty true) (λ c. IsLike (content disk) c ⊎ OpensEmpty true c) (λ c o. inr o) e.moments);
    again = λ was. e.again;
  }

  -- a disk that wasn't asked
  pub leaves_same : (leads : Bool) (disk : D) → LeavesBeginning content leads disk disk
  leaves_same leads disk = record {
    moments = started (content disk) (λ c. IsLike (content disk) c ⊎ OpensEmpty leads c) (λ c image. inl (record { image = c; was = image; same = λ n. refl }));
    again = λ was. was;
  }

-- a broker that enters epoch 0

-- what holds of the old disk, and of the old and the new one, comes to what holds of the new one
pub on_then : {D : Type 0} (P : D → Type 0) (Q : D → D → Type 0) (R : D → Type 0) → ((d e : D) → P d → Q d e → R e) → (old new : LogState D) → OnDisk old P → OnDisk old (λ d. OnDisk new (Q d)) → OnDisk new R
on_then P Q R f (Up log) (Up log') p q = f log.disk log'.disk p q
on_then P Q R f (Up log) (Down k e) p q = f log.disk e p q
on_then P Q R f (Up log) Away p q = absurd q
on_then P Q R f (Down j d) (Up log') p q = f d log'.disk p q
on_then P Q R f (Down j d) (Down k e) p q = f d e p q
on_then P Q R f (Down j d) Away p q = absurd q
on_then P Q R f Away new p q = absurd p

module _ {D : Type 0} (content : D → Content) (control : D → Control call_code) (disk : D) (old new : LogState D) (lasts : OnDisk old (λ d. Lasts (control disk) (control d)))
    (no_fault : OnDisk old (λ d. (control d).faults ≡ (control disk).faults)) (leaves : IsTrue (content disk).is_observable → OnDisk old (LeavesBeginning content false disk))
    (shows : IsTrue (content disk).is_observable → OnDisk old (λ d. OnDisk new (LeavesEntering content d))) (goes_on : Lasting control old new) where
  entered_lasts : OnDisk new (λ d. Lasts (control disk) (control d))
  entered_lasts = on_then (λ d. Lasts (control disk) (control d)) (λ d e. Lasts (control d) (control e)) (λ e. Lasts (control disk) (control e)) (λ d e p q. lasts_then (control disk) (control d) (control e) p q) old new lasts goes_on

  entered_leaves : IsTrue (content disk).is_observable → OnDisk new (LeavesBeginning content true disk)
  entered_leaves told = on_then (LeavesBeginning content false disk) (LeavesEntering content) (LeavesBeginning content true disk) (λ d e p q. leaves_entering content disk d e p q) old new (leaves told) (shows told)

  entered_quiet : NoFault control old new → OnDisk new (λ d. (control d).faults ≡ (control disk).faults)
  entered_quiet q = on_then (λ d. (control d).faults ≡ (control disk).faults) (λ d e. (control e).faults ≡ (control d).faults) (λ e. (control e).faults ≡ (control disk).faults) (λ d e p q. q ∙ p) old new no_fault q

  entered_once : OneFault control old new → OnDisk new (λ d. (control d).faults ≡ counted (control disk).faults 1)
  entered_once q = on_then (λ d. (control d).faults ≡ (control disk).faults) (λ d e. (control e).faults ≡ counted (control d).faults 1) (λ e. (control e).faults ≡ counted (control disk).faults 1)
      (λ d e p q. q ∙ ap (λ (n : ℕ). counted n 1) p) old new no_fault q

  pub entered_over : (y : Node D) → y.log ≡ new → IsFreshNode true y → NoFault control old new → IsMadeOver control content true disk y
  entered_over y is fresh q = record {
    node = fresh;
    lasts = subst (λ (k : LogState D). OnDisk k (λ d. Lasts (control disk) (control d))) (sym is) entered_lasts;
    no_fault = subst (λ (k : LogState D). OnDisk k (λ d. (control d).faults ≡ (control disk).faults)) (sym is) (entered_quiet q);
    leaves = λ told. subst (λ (k : LogState D). OnDisk k (LeavesBeginning content true disk)) (sym is) (entered_leaves told);
  }

  pub refused_over : (now : D) (why : WorldRefusal) → (why ≡ DiskFault → OneFault control old new) → ((why ≡ DiskFault → ⊥) → NoFault control old new) → OnDisk new (λ d. now ≡ d) → RefusesOver control content true disk now why
  refused_over now why once quiet is = record {
    lasts = on_closed (λ d. Lasts (control disk) (control d)) new now entered_lasts is;
    once = λ fault. on_closed (λ d. (control d).faults ≡ counted (control disk).faults 1) new now (entered_once (once fault)) is;
    no_fault = λ memory. on_closed (λ d. (control d).faults ≡ (control disk).faults) new now (entered_quiet (quiet (λ fault. other why memory fault))) is;
    leaves = λ told. on_closed (LeavesBeginning content true disk) new now (entered_leaves told) is;
  }
    where
      other : (why : WorldRefusal) → why ≡ NoMemory → why ≡ DiskFault → ⊥
      other why memory fault = let no : ◌≡◌ {A = WorldRefusal} NoMemory DiskFault = sym memory ∙ fault in cc

-- the disk of a broker that was made and can't be kept
pub refused_made : {D : Type 0} (content : D → Content) (control : D → Control call_code) (leads : Bool) (disk now : D) (x : Node D) → IsMadeOver control content leads disk x → OnDisk x.log (λ d. now ≡ d) → RefusesOver control content leads disk now NoMemory
refused_made content control leads disk now x m is = record {
  lasts = on_closed (λ d. Lasts (control disk) (control d)) x.log now m.lasts is;
  once = λ fault. absurd (let no : ◌≡◌ {A = WorldRefusal} NoMemory DiskFault = fault in cc);
  no_fault = λ memory. on_closed (λ d. (control d).faults ≡ (control disk).faults) x.log now m.no_fault is;
  leaves = λ told. on_closed (LeavesBeginning content leads disk) x.log now (m.leaves told) is;
}

-- the first of the brokers leads
pub first_is : {D : Type 0} (xs : List (Node D)) (leads : Bool) (n : ℕ) → n ≡ length xs → leads ≡ (n == 0) → leads ≡ is_first xs
first_is [] leads n long is = is ∙ ap (λ (k : ℕ). k == 0) long
first_is (x ∷ xs) leads n long is = is ∙ (ap (λ (k : ℕ). k == 0) long ∙ eqb-suc-zero (length xs))

pub refusal_is : {T : Type 0} (a b : WorldRefusal) → ◌≡◌ {A = Result T WorldRefusal} (Err a) (Err b) → a ≡ b
refusal_is a b is = cc (is)

-- a follower's refusal may be a leader's
pub refused_wider : {D : Type 0} (content : D → Content) (control : D → Control call_code) (leads : Bool) (disk now : D) (why : WorldRefusal) → RefusesOver control content false disk now why → RefusesOver control content leads disk now why
refused_wider content control leads disk now why r = record { lasts = r.lasts; once = r.once; no_fault = r.no_fault; leaves = λ told. leaves_wider content leads disk now (r.leaves told) }
