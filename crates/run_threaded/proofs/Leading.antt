-- A turn more still leads, and a run that came to its end is one of its part.
use Rattle.std.proofs.Common.{◌≡◌, ◌≢◌, ◌∙◌, sym, ap, subst, refl, ℕ, List, [], ◌∷◌, ◌++◌, slice_get, Some}
use Rattle.std.specs.Prelude.{All}
use Rattle.std.proofs.lemmas.Option.{get_or_from_slice_get, slice_get_within}
use Rattle.tier_base.specs.declared.names.ActorId.{ActorId}
use Rattle.tier_base.specs.declared.names.PartitionId.{PartitionId}
use Rattle.disk_model.specs.declared.disk.Disk.{Ghosts as DiskGhosts}
use Rattle.object_store.specs.declared.store.Store.{Ghosts as StoreGhosts}
use Rattle.meta_log.specs.declared.log.MetaLog.{Ghosts as MetaGhosts}
use Rattle.plain_log.specs.declared.command.Config.{Config}
use Rattle.plain_log.specs.declared.command.Pace.{Pace}
use Rattle.plain_log.specs.declared.command.Pace.TheVariants.{Times}
use Rattle.plain_log.specs.Orders.{AreListsFor, IsConfig}
use Rattle.plain_log.specs.Laws.{FreshIsSafe, ReplaysKeepSafe}
use Rattle.laws_answers.specs.LawsOfDamage.{RunsMeetNoDamage}
use Rattle.laws_answers.specs.LawsOfFaults.{ReachesByPlan}
use Rattle.laws_partition.specs.declared.actor_progress.Stepped.{Stepped}
use Rattle.laws_partition.specs.declared.actor_progress.Stepped.TheVariants.{NoMemory}
use Rattle.partition_world.specs.Laws.{EndsAreComplete, ReachesLater, ReachesInTurn}
use Rattle.partition_world.specs.Reaches.{TakesTurn, Paces, Reaches}
use Rattle.partition_world.specs.Turn.{IsAtEnd, Steps}
use Rattle.partition_world.specs.Whole.{Whole}
use Rattle.partition_world.proofs.Chains.{step_goes}
use Rattle.script_lang.specs.declared.script.PartScript.{PartScript}
use Rattle.run_memory.specs.Run.{IsJournalOf}
use Rattle.run_memory.proofs.Running.{ended_is_run_of}
use Rattle.run_threaded.specs.Traced.{Trace, IsSamePart, LeadsFrom, IsThreadedRun, one_by_one, by_schedule}

-- one actor more
one_more : (turns : List ActorId) (a : ActorId) → one_by_one (turns ++ a ∷ []) ≡ one_by_one turns ++ Times a 1 ∷ []
one_more [] a = refl
one_more (b ∷ turns) a = ap (λ (k : List Pace). Times b 1 ∷ k) (one_more turns a)

-- what holds of all holds of the one that is at a place
all_at : {A : Type 0} (P : A → Type 0) (xs : List A) (i : ℕ) (x : A) → All P xs → slice_get xs i ≡ Some x → P x
all_at P xs i x h at = subst P (get_or_from_slice_get xs i x x at) (h i x (slice_get_within xs i x at))

module _ {D S M : Type 0} where
  pub same_more : (t u v : Trace D S M) → IsSamePart t u → IsSamePart u v → IsSamePart t v
  same_more t u v a b = record { script = b.script ∙ a.script; place = b.place ∙ a.place; partition = b.partition ∙ a.partition }

module _ {D S M : Type 0} (disk : DiskGhosts D) (store : StoreGhosts S) (meta : MetaGhosts M) where
  -- a schedule with one item more
  reaches_snoc : (w : Whole D S M) (schedule : List Pace) (pace : Pace) (v w' : Whole D S M) → Reaches disk store meta w schedule v → Paces disk store meta v pace w'
      → Reaches disk store meta w (schedule ++ pace ∷ []) w'
  reaches_snoc w [] pace v w' r p = (w', subst (λ (k : Whole D S M). Paces disk store meta k pace w') r p, refl)
  reaches_snoc w (first ∷ schedule) pace v w' r p = (r.0, r.1, reaches_snoc r.0 schedule pace v w' r.2 p)

  -- a turn more
  pub leads_more : (script : List ℕ) (place : ℕ) (partition : PartitionId) (turns turns' : List ActorId) (a : ActorId) (w : Whole D S M) (stepped : Stepped) (w' : Whole D S M)
      → LeadsFrom disk store meta script place partition turns w → turns' ≡ turns ++ a ∷ [] → stepped ≢ NoMemory → Steps disk store meta w a.0 stepped w'
      → LeadsFrom disk store meta script place partition turns' w'
  leads_more script place partition turns turns' a w stepped w' h more there s =
      let goes : TakesTurn disk store meta w a.0 w' = step_goes disk store meta w a.0 stepped w' s there in
      let paces : Paces disk store meta w (Times a 1) w' = (w', goes, refl) in
      let is : one_by_one turns' ≡ one_by_one turns ++ Times a 1 ∷ [] = ap one_by_one more ∙ one_more turns a in
      record {
        config = h.config;
        part = h.part;
        is_part = h.is_part;
        numbered = h.numbered;
        first = h.first;
        starts = h.starts;
        central = h.central;
        reaches = subst (λ (k : List Pace). Reaches disk store meta h.first k w') (sym is) (reaches_snoc h.first (one_by_one turns) (Times a 1) w w' h.reaches paces);
      }

  -- where each actor is at its end, the journal is that of a run of the part, by these turns
  pub ends_run : (script : List ℕ) (place : ℕ) (partition : PartitionId) (turns : List ActorId) (w : Whole D S M) → EndsAreComplete disk store meta → ReachesLater disk store meta → ReachesInTurn disk store meta → FreshIsSafe → ReplaysKeepSafe → RunsMeetNoDamage disk store meta → ReachesByPlan disk store meta
      → LeadsFrom disk store meta script place partition turns w → ((a : ℕ) → IsAtEnd w a) → IsThreadedRun disk store meta script place (partition.0, w.journal.items)
  ends_run script place partition turns w law goes in_turn opens keeps undamaged by_plan h ended =
      let part' : PartScript = by_schedule (one_by_one turns) h.part in
      let fits : IsConfig h.config = subst IsConfig h.is_part.config_is h.is_part.fit.config in
      let lists : AreListsFor h.config h.part.lists =
      subst (λ (k : Config). AreListsFor k h.part.lists) h.is_part.config_is
      (all_at (λ (p : PartScript). AreListsFor h.is_part.read.config p.lists) h.is_part.read.parts place h.part h.is_part.fit.lists h.is_part.at) in
      record {
        config = h.config;
        part = h.part;
        is_part = h.is_part;
        is = (
          one_by_one turns,
          subst (λ (k : PartitionId). IsJournalOf disk store meta h.config part' (k.0, w.journal.items)) h.numbered
              (ended_is_run_of disk store meta h.config part' h.first w law goes in_turn opens keeps undamaged by_plan fits lists h.starts h.central h.reaches ended),
        );
      }
