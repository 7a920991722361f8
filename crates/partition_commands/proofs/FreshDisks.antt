-- The disks of brokers that are made, that come back where one can't be, and whose plans are put in force.
use Rattle.std.proofs.Common.{◌≡◌, ◌∙◌, inl, inr, sym, ap, subst, refl, ℕ, zero, suc, ◌+◌, ◌-◌, ◌^◌, ◌<◌, Bool, true, false, List, [], ◌∷◌, ◌++◌, length, slice_get, slice_set, Some, arith}
use Rattle.std.specs.Prelude.{IsTrue}
use Rattle.tier_base.specs.Counts.{counted, Rose}
use Rattle.tier_base.specs.declared.plain.Settings.{Settings}
use Rattle.tier_base.specs.Device.{Control, Lasts, Arms}
use Rattle.tier_base.proofs.Lasting.{lasts_same}
use Rattle.disk_model.specs.Call.{call_code}
use Rattle.disk_model.specs.Content.{Content}
use Rattle.broker_log.specs.Seen.{LogState, Up, Down, Away, ShowsSeen, LogStays, OnDisk}
use Rattle.partition_commands.specs.declared.partition_state.Node.{Node}
use Rattle.partition_commands.specs.declared.refusal.WorldRefusal.{WorldRefusal}
use Rattle.partition_commands.specs.declared.refusal.WorldRefusal.TheVariants.{DiskFault, NoMemory}
use Rattle.partition_commands.specs.Partition.{line_of}
use Rattle.partition_commands.specs.Fresh.{IsFreshDisk, AreFreshDisks, DisksTell, IsFreshOver, AreFreshFrom, IsMadeOver, AreMadeFrom, AllSeen, AddsNode, AreDisksOf, LeavesBeginning, AllLeaveBeginning, ComeBack, OneFailed, NoneFailed, FailedOnce, RefusesDisks, RefusesOver, AreInfallibleDisks, empty_seen, IsNodeLaid, AreNodesLaid, is_first}
use Rattle.partition_commands.proofs.FreshLeft.{leaves_same, on_closed}
use Rattle.partition_commands.proofs.FreshNodes.{armed_on, made_more, seen_more, stays_fresh, stays_seen}

module _ {D : Type 0} where
  pub disks_more : (xs : List (Node D)) (disks : List D) (x : Node D) (disk : D) → AreDisksOf xs disks → OnDisk x.log (λ d. disk ≡ d) → AreDisksOf (xs ++ x ∷ []) (disks ++ disk ∷ [])
  disks_more [] [] x disk a is = (is, tt)
  disks_more [] (d ∷ disks) x disk a is = absurd a
  disks_more (y ∷ xs) [] x disk a is = absurd a
  disks_more (y ∷ xs) (d ∷ disks) x disk a is = (a.0, disks_more xs disks x disk a.1 is)

  -- as many disks as brokers
  pub as_many_of : (xs : List (Node D)) (disks : List D) → AreDisksOf xs disks → length disks ≡ length xs
  as_many_of [] [] a = refl
  as_many_of [] (d ∷ disks) a = absurd a
  as_many_of (x ∷ xs) [] a = absurd a
  as_many_of (x ∷ xs) (d ∷ disks) a = ap suc (as_many_of xs disks a.1)

module _ {D : Type 0} (content : D → Content) (control : D → Control call_code) where
  pub as_many_made : (leads : Bool) (disks : List D) (xs : List (Node D)) → AreMadeFrom control content leads disks xs → length xs ≡ length disks
  as_many_made leads [] [] f = refl
  as_many_made leads [] (y ∷ xs) f = absurd f
  as_many_made leads (d ∷ disks) [] f = absurd f
  as_many_made leads (d ∷ disks) (y ∷ xs) f = ap suc (as_many_made false disks xs f.1)

module _ {D : Type 0} (control : D → Control call_code) where
  -- as many as came back
  pub as_many_disks : (disks nows : List D) → ComeBack control disks nows → length nows ≡ length disks
  as_many_disks [] [] c = refl
  as_many_disks [] (n ∷ nows) c = absurd c
  as_many_disks (d ∷ disks) [] c = absurd c
  as_many_disks (d ∷ disks) (n ∷ nows) c = ap suc (as_many_disks disks nows c.2)

module _ {D : Type 0} (content : D → Content) (control : D → Control call_code) where
  -- one disk more
  pub fresh_split : (disks : List D) (disk : D) → AreFreshDisks content control (disks ++ disk ∷ []) → AreFreshDisks content control disks × IsFreshDisk content control disk
  fresh_split [] disk f = (tt, f.0)
  fresh_split (d ∷ disks) disk f = let rest = fresh_split disks disk f.1 in ((f.0, rest.0), rest.1)

  pub tell_split : (disks : List D) (disk : D) → DisksTell content (disks ++ disk ∷ []) → DisksTell content disks × IsTrue (content disk).is_observable
  tell_split [] disk t = (tt, t.0)
  tell_split (d ∷ disks) disk t = let rest = tell_split disks disk t.1 in ((t.0, rest.0), rest.1)

  -- disks that weren't asked, or some calls
  come_same : (disks : List D) → AreFreshDisks content control disks → ComeBack control disks disks
  come_same [] f = tt
  come_same (d ∷ disks) f = (lasts_same (control d), f.0.unarmed, come_same disks f.1)

  come_more : (disks nows : List D) (disk now : D) → ComeBack control disks nows → IsFreshDisk content control disk → Lasts (control disk) (control now) → ComeBack control (disks ++ disk ∷ []) (nows ++ now ∷ [])
  come_more [] [] disk now c f l = (l, l.armed ∙ f.unarmed, tt)
  come_more [] (n ∷ nows) disk now c f l = absurd c
  come_more (d ∷ disks) [] disk now c f l = absurd c
  come_more (d ∷ disks) (n ∷ nows) disk now c f l = (c.0, c.1, come_more disks nows disk now c.2 f l)

  -- no call of them has failed, or one
  none_same : (disks : List D) → NoneFailed control disks disks
  none_same [] = tt
  none_same (d ∷ disks) = (refl, none_same disks)

  none_more : (disks nows : List D) (disk now : D) → NoneFailed control disks nows → (control now).faults ≡ (control disk).faults → NoneFailed control (disks ++ disk ∷ []) (nows ++ now ∷ [])
  none_more [] [] disk now n is = (is, tt)
  none_more [] (m ∷ nows) disk now n is = absurd n
  none_more (d ∷ disks) [] disk now n is = absurd n
  none_more (d ∷ disks) (m ∷ nows) disk now n is = (n.0, none_more disks nows disk now n.1 is)

  once_more : (disks nows : List D) (disk : D) → FailedOnce control disks nows → FailedOnce control (disks ++ disk ∷ []) (nows ++ disk ∷ [])
  once_more [] nows disk o = absurd o
  once_more (d ∷ disks) [] disk o = absurd o
  once_more (d ∷ disks) (n ∷ nows) disk (inl (one, none)) = inl (one, none_more disks nows disk disk none refl)
  once_more (d ∷ disks) (n ∷ nows) disk (inr (same, o)) = inr (same, once_more disks nows disk o)

  once_last : (disks nows : List D) (disk now : D) → NoneFailed control disks nows → (control now).faults ≡ counted (control disk).faults 1 → FailedOnce control (disks ++ disk ∷ []) (nows ++ now ∷ [])
  once_last [] [] disk now n one = inl (one, tt)
  once_last [] (m ∷ nows) disk now n one = absurd n
  once_last (d ∷ disks) [] disk now n one = absurd n
  once_last (d ∷ disks) (m ∷ nows) disk now n one = inr (n.0, once_last disks nows disk now n.1 one)

  pub failed_any : (disks nows : List D) → FailedOnce control disks nows → OneFailed control disks nows
  failed_any [] nows o = absurd o
  failed_any (d ∷ disks) [] o = absurd o
  failed_any (d ∷ disks) (n ∷ nows) (inl (one, none)) = inl (omega (arith, one))
  failed_any (d ∷ disks) (n ∷ nows) (inr (same, o)) = inr (failed_any disks nows o)

  -- what is left of them
  left_same : (leads : Bool) (disks : List D) → AllLeaveBeginning content leads disks disks
  left_same leads [] = tt
  left_same leads (d ∷ disks) = (λ told. leaves_same content leads d, left_same false disks)

  left_later : (disks nows : List D) (disk now : D) → AllLeaveBeginning content false disks nows → (IsTrue (content disk).is_observable → LeavesBeginning content false disk now)
      → AllLeaveBeginning content false (disks ++ disk ∷ []) (nows ++ now ∷ [])
  left_later [] [] disk now a l = (l, tt)
  left_later [] (n ∷ nows) disk now a l = absurd a
  left_later (d ∷ disks) [] disk now a l = absurd a
  left_later (d ∷ disks) (n ∷ nows) disk now a l = (a.0, left_later disks nows disk now a.1 l)

  left_same_more : (disks nows : List D) (disk : D) → AllLeaveBeginning content true disks nows → AllLeaveBeginning content true (disks ++ disk ∷ []) (nows ++ disk ∷ [])
  left_same_more [] [] disk a = (λ told. leaves_same content true disk, tt)
  left_same_more [] (n ∷ nows) disk a = absurd a
  left_same_more (d ∷ disks) [] disk a = absurd a
  left_same_more (d ∷ disks) (n ∷ nows) disk a = (a.0, left_later disks nows disk disk a.1 (λ told. leaves_same content false disk))

  left_last : (disks : List D) (xs : List (Node D)) (nows : List D) (disk now : D) → AreMadeFrom control content true disks xs → AllLeaveBeginning content true disks nows
      → (IsTrue (content disk).is_observable → LeavesBeginning content (is_first xs) disk now) → AllLeaveBeginning content true (disks ++ disk ∷ []) (nows ++ now ∷ [])
  left_last [] [] [] disk now m a l = (l, tt)
  left_last [] [] (n ∷ nows) disk now m a l = absurd a
  left_last [] (x ∷ xs) nows disk now m a l = absurd m
  left_last (d ∷ disks) [] nows disk now m a l = absurd m
  left_last (d ∷ disks) (x ∷ xs) [] disk now m a l = absurd a
  left_last (d ∷ disks) (x ∷ xs) (n ∷ nows) disk now m a l = (a.0, left_later disks nows disk now a.1 l)

  -- the disks of brokers that were made
  made_come : (leads : Bool) (disks : List D) (xs : List (Node D)) (nows : List D) → AreMadeFrom control content leads disks xs → AreDisksOf xs nows → AreFreshDisks content control disks → ComeBack control disks nows
  made_come leads [] [] [] m o f = tt
  made_come leads [] [] (n ∷ nows) m o f = absurd o
  made_come leads [] (x ∷ xs) nows m o f = absurd m
  made_come leads (d ∷ disks) [] nows m o f = absurd m
  made_come leads (d ∷ disks) (x ∷ xs) [] m o f = absurd o
  made_come leads (d ∷ disks) (x ∷ xs) (n ∷ nows) m o f =
      let lasts = on_closed (λ e. Lasts (control d) (control e)) x.log n m.0.lasts o.0 in
      (lasts, lasts.armed ∙ f.0.unarmed, made_come false disks xs nows m.1 o.1 f.1)

  made_none : (leads : Bool) (disks : List D) (xs : List (Node D)) (nows : List D) → AreMadeFrom control content leads disks xs → AreDisksOf xs nows → NoneFailed control disks nows
  made_none leads [] [] [] m o = tt
  made_none leads [] [] (n ∷ nows) m o = absurd o
  made_none leads [] (x ∷ xs) nows m o = absurd m
  made_none leads (d ∷ disks) [] nows m o = absurd m
  made_none leads (d ∷ disks) (x ∷ xs) [] m o = absurd o
  made_none leads (d ∷ disks) (x ∷ xs) (n ∷ nows) m o =
      (on_closed (λ e. (control e).faults ≡ (control d).faults) x.log n m.0.no_fault o.0, made_none false disks xs nows m.1 o.1)

  made_left : (leads : Bool) (disks : List D) (xs : List (Node D)) (nows : List D) → AreMadeFrom control content leads disks xs → AreDisksOf xs nows → AllLeaveBeginning content leads disks nows
  made_left leads [] [] [] m o = tt
  made_left leads [] [] (n ∷ nows) m o = absurd o
  made_left leads [] (x ∷ xs) nows m o = absurd m
  made_left leads (d ∷ disks) [] nows m o = absurd m
  made_left leads (d ∷ disks) (x ∷ xs) [] m o = absurd o
  made_left leads (d ∷ disks) (x ∷ xs) (n ∷ nows) m o =
      (λ told. on_closed (LeavesBeginning content leads d) x.log n (m.0.leaves told) o.0, made_left false disks xs nows m.1 o.1)

  -- refusals
  pub refuses_same : (disks : List D) (why : WorldRefusal) → why ≡ NoMemory → AreFreshDisks content control disks → RefusesDisks control content disks disks why
  refuses_same disks why is f = record {
    back = come_same disks f;
    leaves = left_same true disks;
    once = λ fault. absurd (let no : ◌≡◌ {A = WorldRefusal} NoMemory DiskFault = sym is ∙ fault in cc);
    no_fault = λ memory. none_same disks;
  }

  pub refuses_more : (disks nows : List D) (disk : D) (why : WorldRefusal) → RefusesDisks control content disks nows why → IsFreshDisk content control disk → RefusesDisks control content (disks ++ disk ∷ []) (nows ++ disk ∷ []) why
  refuses_more disks nows disk why r f = record {
    back = come_more disks nows disk disk r.back f (lasts_same (control disk));
    leaves = left_same_more disks nows disk r.leaves;
    once = λ fault. once_more disks nows disk (r.once fault);
    no_fault = λ memory. none_more disks nows disk disk (r.no_fault memory) refl;
  }

  pub refuses_last : (disks : List D) (xs : List (Node D)) (nows : List D) (disk now : D) (why : WorldRefusal) → AreMadeFrom control content true disks xs → AreDisksOf xs nows → AreFreshDisks content control disks → IsFreshDisk content control disk
      → RefusesOver control content (is_first xs) disk now why → RefusesDisks control content (disks ++ disk ∷ []) (nows ++ now ∷ []) why
  refuses_last disks xs nows disk now why m o f g r = record {
    back = come_more disks nows disk now (made_come true disks xs nows m o f) g r.lasts;
    leaves = left_last disks xs nows disk now m (made_left true disks xs nows m o) r.leaves;
    once = λ fault. once_last disks nows disk now (made_none true disks xs nows m o) (r.once fault);
    no_fault = λ memory. none_more disks nows disk now (made_none true disks xs nows m o) (r.no_fault memory);
  }

  -- of disks of which no call can fail none has
  rose : (before now : ℕ) → now ≡ before → before < 2 ^ 64 - 1 → Rose before now → ⊥
  rose before now same few up = omega (arith, same, few, up)

  unfailed : (disks nows : List D) → AreInfallibleDisks control disks → ComeBack control disks nows → OneFailed control disks nows → ⊥
  unfailed [] nows c b o = o
  unfailed (d ∷ disks) [] c b o = o
  unfailed (d ∷ disks) (n ∷ nows) c b (inl up) = rose (control d).faults (control n).faults (b.0.no_fault c.0.infallible) c.0.few up
  unfailed (d ∷ disks) (n ∷ nows) c b (inr o) = unfailed disks nows c.1 b.2 o

  pub refuses_infallible : (disks nows : List D) (why : WorldRefusal) → AreInfallibleDisks control disks → RefusesDisks control content disks nows why → why ≡ NoMemory
  refuses_infallible disks nows NoMemory c r = refl
  refuses_infallible disks nows DiskFault c r = absurd (unfailed disks nows c r.back (failed_any disks nows (r.once refl)))

  -- one broker more
  pub adds_made : (disks : List D) (xs new : List (Node D)) (disk : D) → AreMadeFrom control content true disks xs → AddsNode control content xs disk new → AreMadeFrom control content true (disks ++ disk ∷ []) new
  adds_made disks xs new disk m a = subst (AreMadeFrom control content true (disks ++ disk ∷ [])) (sym a.after) (made_more content control disks xs disk a.node m a.made)

  pub adds_seen : (disks : List D) (xs new : List (Node D)) (disk : D) → (DisksTell content disks → AllSeen content xs) → AddsNode control content xs disk new → DisksTell content (disks ++ disk ∷ []) → AllSeen content new
  adds_seen disks xs new disk s a t =
      let told = tell_split disks disk t in
      subst (AllSeen content) (sym a.after) (seen_more content xs a.node (s told.0) (a.seen told.1))

  -- brokers' disks that are armed one after the other

  -- the node's disk is armed, and nothing else changes
  pub record Armed (x y : Node D) : Type 0 where
    pub kept : LogState D
    pub stays : LogStays content x.log kept
    pub arms : OnDisk x.log (λ d. OnDisk kept (λ d'. Arms (control d) (control d')))
    pub is : y ≡ record x { log = kept }

  -- the first so many are
  abbrev pub AreArmed : ℕ → List (Node D) → List (Node D) → Type 0
  AreArmed zero xs ys = ys ≡ xs
  AreArmed (suc n) (x ∷ xs) (y ∷ ys) = Armed x y × AreArmed n xs ys
  AreArmed (suc n) xs ys = ⊥

  armed_next : (n : ℕ) (xs ys : List (Node D)) (y z : Node D) → AreArmed n xs ys → slice_get ys n ≡ Some y → Armed y z → AreArmed (suc n) xs (slice_set ys n z)
  armed_next zero [] [] y z a at r = absurd cc
  armed_next zero [] (k ∷ ys) y z a at r = absurd cc
  armed_next zero (x ∷ xs) [] y z a at r = absurd cc
  armed_next zero (x ∷ xs) (k ∷ ys) y z a at r =
      let same : y ≡ x = cc (at, a) in
      let rest : ys ≡ xs = cc (a) in
      (subst (λ (w : Node D). Armed w z) same r, rest)
  armed_next (suc n) (x ∷ xs) (k ∷ ys) y z a at r = (a.0, armed_next n xs ys y z a.1 at r)
  armed_next (suc n) [] ys y z a at r = absurd a
  armed_next (suc n) (x ∷ xs) [] y z a at r = absurd a

  pub armed_step : (n : ℕ) (xs ys : List (Node D)) (y z : Node D) → AreArmed n xs ys → slice_get ys n ≡ Some y → Armed y z → AreArmed (n + 1) xs (slice_set ys n z)
  armed_step n xs ys y z a at r =
      let up : suc n ≡ n + 1 = omega arith in
      subst (λ (k : ℕ). AreArmed k xs (slice_set ys n z)) up (armed_next n xs ys y z a at r)

  pub armed_long : (n : ℕ) (xs ys : List (Node D)) → AreArmed n xs ys → length ys ≡ length xs
  armed_long zero xs ys a = ap (λ (l : List (Node D)). length l) a
  armed_long (suc n) (x ∷ xs) (y ∷ ys) a = ap suc (armed_long n xs ys a.1)
  armed_long (suc n) [] ys a = absurd a
  armed_long (suc n) (x ∷ xs) [] a = absurd a

  armed_over : (leads : Bool) (disk : D) (x y : Node D) → IsFreshDisk content control disk → IsMadeOver control content leads disk x → Armed x y → IsFreshOver control leads disk y
  armed_over leads disk x y f m a =
      subst (IsFreshOver control leads disk) (sym a.is) (record { node = stays_fresh content leads x a.kept m.node a.stays; armed = armed_on control disk x.log a.kept f.unarmed f.unmade m.lasts m.no_fault a.arms })

  pub armed_made : (leads : Bool) (disks : List D) (xs ys : List (Node D)) → AreArmed (length xs) xs ys → AreFreshDisks content control disks → AreMadeFrom control content leads disks xs → AreFreshFrom control leads disks ys
  armed_made leads [] [] ys a f m = rw a tt
  armed_made leads [] (x ∷ xs) ys a f m = absurd m
  armed_made leads (d ∷ disks) [] ys a f m = absurd m
  armed_made leads (d ∷ disks) (x ∷ xs) [] a f m = absurd a
  armed_made leads (d ∷ disks) (x ∷ xs) (y ∷ ys) a f m = (armed_over leads d x y f.0 m.0 a.0, armed_made false disks xs ys a.1 f.1 m.1)

  -- their logs are in segments as before
  pub armed_laid : (settings : Settings) (xs ys : List (Node D)) → AreArmed (length xs) xs ys → AreNodesLaid settings xs → AreNodesLaid settings ys
  armed_laid settings [] ys a l = rw a tt
  armed_laid settings (x ∷ xs) [] a l = absurd a
  armed_laid settings (x ∷ xs) (y ∷ ys) a l = (subst (IsNodeLaid settings) (sym a.0.is) (a.0.stays.layout ∙ l.0), armed_laid settings xs ys a.1 l.1)

  pub armed_seen : (xs ys : List (Node D)) → AreArmed (length xs) xs ys → AllSeen content xs → AllSeen content ys
  armed_seen [] ys a s = rw a tt
  armed_seen (x ∷ xs) [] a s = absurd a
  armed_seen (x ∷ xs) (y ∷ ys) a s =
      (subst (λ (z : Node D). ShowsSeen content z.log (empty_seen (line_of z))) (sym a.0.is) (stays_seen content x a.0.kept a.0.stays s.0), armed_seen xs ys a.1 s.1)

-- one log more
pub laid_more : {D : Type 0} (settings : Settings) (xs : List (Node D)) (x : Node D) → AreNodesLaid settings xs → IsNodeLaid settings x → AreNodesLaid settings (xs ++ x ∷ [])
laid_more settings [] x all l = (l, tt)
laid_more settings (y ∷ xs) x all l = (all.0, laid_more settings xs x all.1 l)
