-- The brokers of a fresh partition, in their row.
use Rattle.std.proofs.Common.{◌≡◌, ◌∙◌, sym, ap, subst, refl, ◌+◌, Bool, true, false, List, [], ◌∷◌, ◌++◌, length, arith}
use Rattle.std.specs.Prelude.{ℕ, Option, unwrap_or}
use Rattle.tier_base.specs.Device.{Control, Lasts, Arms}
use Rattle.tier_base.proofs.Lasting.{lasts_then}
use Rattle.disk_model.specs.Call.{call_code}
use Rattle.disk_model.specs.declared.call.DiskCall.{DiskCall}
use Rattle.disk_model.specs.Content.{Content}
use Rattle.broker_log.specs.Seen.{LogState, Up, Down, Away, ShowsSeen, LogStays, OnDisk}
use Rattle.broker_log.specs.Seen as log
use Rattle.partition_commands.specs.declared.partition_state.Node.{Node}
use Rattle.partition_commands.specs.Partition.{line_of}
use Rattle.partition_commands.specs.Fresh.{IsArmed, IsFreshNode, AreFreshFrom, IsMadeOver, AreMadeFrom, AllSeen, is_first, empty_seen}

pub length_more : {A : Type 0} (xs : List A) (x : A) → length (xs ++ x ∷ []) ≡ length xs + 1
length_more [] x = refl
length_more (y ∷ xs) x = let rest = length_more xs x in omega (arith, rest)

module _ {D : Type 0} (content : D → Content) (control : D → Control call_code) where
  -- one broker more
  later_more : (disks : List D) (xs : List (Node D)) (disk : D) (x : Node D) → AreMadeFrom control content false disks xs → IsMadeOver control content false disk x → AreMadeFrom control content false (disks ++ disk ∷ []) (xs ++ x ∷ [])
  later_more [] [] disk x f n = (n, tt)
  later_more [] (y ∷ xs) disk x f n = absurd f
  later_more (d ∷ disks) [] disk x f n = absurd f
  later_more (d ∷ disks) (y ∷ xs) disk x f n = (f.0, later_more disks xs disk x f.1 n)

  pub made_more : (disks : List D) (xs : List (Node D)) (disk : D) (x : Node D) → AreMadeFrom control content true disks xs → IsMadeOver control content (is_first xs) disk x → AreMadeFrom control content true (disks ++ disk ∷ []) (xs ++ x ∷ [])
  made_more [] [] disk x f n = (n, tt)
  made_more [] (y ∷ xs) disk x f n = absurd f
  made_more (d ∷ disks) [] disk x f n = absurd f
  made_more (d ∷ disks) (y ∷ xs) disk x f n = (f.0, later_more disks xs disk x f.1 n)

module _ {D : Type 0} (control : D → Control call_code) where
  pub as_many : (leads : Bool) (disks : List D) (xs : List (Node D)) → AreFreshFrom control leads disks xs → length xs ≡ length disks
  as_many leads [] [] f = refl
  as_many leads [] (y ∷ xs) f = absurd f
  as_many leads (d ∷ disks) [] f = absurd f
  as_many leads (d ∷ disks) (y ∷ xs) f = (let rest = as_many false disks xs f.1 in omega (arith, rest))

  -- a disk that was asked, and then armed
  pub armed_after : (given middle now : Control call_code) → given.armed ≡ false → ((kind : DiskCall) → given.made kind ≡ 0) → Lasts given middle → middle.faults ≡ given.faults → Arms middle now → IsArmed given now
  armed_after given middle now off none l quiet a = record {
    plan = a.plan ∙ l.plan;
    armed = a.armed;
    scripted = a.scripted ∙ l.scripted;
    unmade = λ kind. a.made kind ∙ (l.unmade off kind ∙ none kind);
    no_fault = a.faults ∙ quiet;
    still_infallible = λ infallible scripted empty. a.still_infallible (l.scripted ∙ scripted) (l.stays_infallible infallible) (l.plan ∙ empty);
  }

  pub armed_on : (disk : D) (middle now : LogState D) → (control disk).armed ≡ false → ((kind : DiskCall) → (control disk).made kind ≡ 0) → OnDisk middle (λ d. Lasts (control disk) (control d))
      → OnDisk middle (λ d. (control d).faults ≡ (control disk).faults) → OnDisk middle (λ d. OnDisk now (λ d'. Arms (control d) (control d'))) → OnDisk now (λ d. IsArmed (control disk) (control d))
  armed_on disk (Up m) now off none l q a = go now a
    where
      go : (now : LogState D) → OnDisk now (λ d'. Arms (control m.disk) (control d')) → OnDisk now (λ d. IsArmed (control disk) (control d))
      go (Up n) a = armed_after (control disk) (control m.disk) (control n.disk) off none l q a
      go (Down i d) a = armed_after (control disk) (control m.disk) (control d) off none l q a
      go Away a = absurd a
  armed_on disk (Down j m) now off none l q a = go now a
    where
      go : (now : LogState D) → OnDisk now (λ d'. Arms (control m) (control d')) → OnDisk now (λ d. IsArmed (control disk) (control d))
      go (Up n) a = armed_after (control disk) (control m) (control n.disk) off none l q a
      go (Down i d) a = armed_after (control disk) (control m) (control d) off none l q a
      go Away a = absurd a
  armed_on disk Away now off none l q a = absurd l

  pub lasts_on : (disk : D) (old new : LogState D) → OnDisk old (λ d. Lasts (control disk) (control d)) → log.Lasting control old new → OnDisk new (λ d. Lasts (control disk) (control d))
  lasts_on disk (Up m) (Up n) l k = lasts_then (control disk) (control m.disk) (control n.disk) l k
  lasts_on disk (Up m) (Down i d) l k = lasts_then (control disk) (control m.disk) (control d) l k
  lasts_on disk (Up m) Away l k = absurd k
  lasts_on disk (Down j m) (Up n) l k = lasts_then (control disk) (control m) (control n.disk) l k
  lasts_on disk (Down j m) (Down i d) l k = lasts_then (control disk) (control m) (control d) l k
  lasts_on disk (Down j m) Away l k = absurd k
  lasts_on disk Away new l k = absurd l

-- a log that stays as it was
pub stays_fresh : {D : Type 0} (content : D → Content) (leads : Bool) (x : Node D) (kept : LogState D) → IsFreshNode leads x → LogStays content x.log kept → IsFreshNode leads (record x { log = kept })
stays_fresh content leads x kept f s = record {
  stops = f.stops;
  role_is = f.role_is;
  known_high_watermark = f.known_high_watermark;
  up = s.up ∙ f.up;
  end = s.end ∙ f.end;
  flushed_end = s.flushed_end ∙ f.flushed_end;
  line_is = s.line ∙ f.line_is;
}

module _ {D : Type 0} (content : D → Content) where
  -- the logs are seen with one broker more
  pub seen_more : (xs : List (Node D)) (x : Node D) → AllSeen content xs → ShowsSeen content x.log (empty_seen (line_of x)) → AllSeen content (xs ++ x ∷ [])
  seen_more [] x s n = (n, tt)
  seen_more (y ∷ xs) x s n = (s.0, seen_more xs x s.1 n)

  -- and so is one that stays as it was
  pub stays_seen : (x : Node D) (kept : LogState D) → LogStays content x.log kept → ShowsSeen content x.log (empty_seen (line_of x)) → ShowsSeen content kept (empty_seen (line_of (record x { log = kept })))
  stays_seen x kept s shows =
      let t = s.seen (empty_seen (line_of x)) shows in
      subst (λ (l : List (ℕ × ℕ)). ShowsSeen content kept (empty_seen l)) (ap (λ (o : Option (List (ℕ × ℕ))). unwrap_or o []) (sym s.line)) (subst (ShowsSeen content kept) t.2 t.1)
