-- Turns one after another are what a schedule asks for.
use Rattle.std.proofs.Common.{◌≡◌, ◌≢◌, inl, inr, ◌∙◌, sym, ap, subst, refl, ℕ, zero, suc, ◌+◌, ◌-◌, ◌<◌, ◌≤◌, List, [], ◌∷◌, ◌++◌, length, take, get_or, arith}
use Rattle.std.proofs.lemmas.List.{take_more, take_all}
use Rattle.plain_log.specs.declared.command.Pace.{Pace}
use Rattle.partition_world.specs.declared.actor_state.Outcome.TheVariants.{Answers}
use Rattle.laws_partition.specs.declared.actor_progress.Stepped.{Stepped}
use Rattle.laws_partition.specs.declared.actor_progress.Stepped.TheVariants.{Ran, Done, Nothing, NoMemory}
use Rattle.disk_model.specs.declared.disk.Disk.{Ghosts as DiskGhosts}
use Rattle.object_store.specs.declared.store.Store.{Ghosts as StoreGhosts}
use Rattle.meta_log.specs.declared.log.MetaLog.{Ghosts as MetaGhosts}
use Rattle.partition_world.specs.Whole.{Whole}
use Rattle.partition_world.specs.Turn.{IsAtEnd, Steps}
use Rattle.partition_world.specs.Reaches.{HasAnswered, TakesTurn, GoesTimes, GoesUntil, Paces, Reaches}

module _ {D S M : Type 0} (disk : DiskGhosts D) (store : StoreGhosts S) (meta : MetaGhosts M) where
  -- a step is a turn, or none at the end
  pub step_goes : (w : Whole D S M) (a : ℕ) (stepped : Stepped) (w' : Whole D S M) → Steps disk store meta w a stepped w' → stepped ≢ NoMemory → TakesTurn disk store meta w a w'
  step_goes w a Ran w' s n = inl (s.0, s.2)
  step_goes w a Done w' s n = inl (Answers s.0, s.1)
  step_goes w a Nothing w' s n = inr s
  step_goes w a NoMemory w' s n = absurd (n refl)

  -- who is at the end has answered
  pub end_answered : (w : Whole D S M) (a number : ℕ) → IsAtEnd w a → HasAnswered w a number
  end_answered w a number e = λ place l actor_state s. inr (e place l actor_state s)

  -- who hasn't answered has a turn
  pub step_turns : (w : Whole D S M) (a number : ℕ) (stepped : Stepped) (w' : Whole D S M) → Steps disk store meta w a stepped w' → (HasAnswered w a number → ⊥) → stepped ≢ Nothing
  step_turns w a number Ran w' s not e = absurd (cc (e))
  step_turns w a number Done w' s not e = absurd (cc (e))
  step_turns w a number Nothing w' s not e = not (end_answered w a number s.0)
  step_turns w a number NoMemory w' s not e = absurd (cc (e))

  -- at the end no turn changes anything
  pub times_ended : (w : Whole D S M) (a turns : ℕ) → IsAtEnd w a → GoesTimes disk store meta w a turns w
  times_ended w a zero e = refl
  times_ended w a (suc turns) e = (w, inr (e, refl), times_ended w a turns e)

  -- so many turns from one world on are so many more from another
  abbrev pub AddsTimes : Whole D S M → ℕ → ℕ → Whole D S M → Type 0
  AddsTimes w a taken v = (turns : ℕ) (u : Whole D S M) → GoesTimes disk store meta v a turns u → GoesTimes disk store meta w a (taken + turns) u

  pub times_none : (w : Whole D S M) (a : ℕ) → AddsTimes w a 0 w
  times_none w a = λ turns u g. subst (λ (k : ℕ). GoesTimes disk store meta w a k u) (omega arith) g

  pub times_more : (w : Whole D S M) (a taken : ℕ) (v u : Whole D S M) → AddsTimes w a taken v → TakesTurn disk store meta v a u → AddsTimes w a (taken + 1) u
  times_more w a taken v u adds goes = λ turns k g. subst (λ (n : ℕ). GoesTimes disk store meta w a n k) (omega arith) (adds (suc turns) k (u, goes, g))

  pub times_all : (w : Whole D S M) (a taken turns : ℕ) (v : Whole D S M) → AddsTimes w a taken v → taken ≡ turns → GoesTimes disk store meta w a turns v
  times_all w a taken turns v adds all = subst (λ (n : ℕ). GoesTimes disk store meta w a n v) (omega (arith, all)) (adds 0 v refl)

  pub times_end : (w : Whole D S M) (a taken turns : ℕ) (v u : Whole D S M) → AddsTimes w a taken v → taken ≤ turns → IsAtEnd v a × (u ≡ v) → GoesTimes disk store meta w a turns u
  times_end w a taken turns v u adds le e =
      subst (λ (k : Whole D S M). GoesTimes disk store meta w a turns k) (sym e.1) (subst (λ (n : ℕ). GoesTimes disk store meta w a n v) (omega (arith, le)) (adds (turns - taken) v (times_ended v a (turns - taken) e.0)))

  -- what still leads from one world still leads from another
  abbrev pub LeadsOn : Whole D S M → ℕ → ℕ → Whole D S M → Type 0
  LeadsOn w a number v = (turns : ℕ) (u : Whole D S M) → GoesUntil disk store meta v a number turns u → (more : ℕ) × GoesUntil disk store meta w a number more u

  pub until_none : (w : Whole D S M) (a number : ℕ) → LeadsOn w a number w
  until_none w a number = λ turns u g. (turns, g)

  pub until_more : (w : Whole D S M) (a number : ℕ) (v u : Whole D S M) → LeadsOn w a number v → (HasAnswered v a number → ⊥) → TakesTurn disk store meta v a u → LeadsOn w a number u
  until_more w a number v u leads not goes = λ turns k g. leads (suc turns) k (not, (u, goes, g))

  pub until_all : (w : Whole D S M) (a number : ℕ) (v : Whole D S M) → LeadsOn w a number v → HasAnswered v a number → (turns : ℕ) × GoesUntil disk store meta w a number turns v
  until_all w a number v leads answered = leads 0 v (answered, refl)

  -- a schedule's items one after another
  abbrev pub LeadsTo : Whole D S M → List Pace → Whole D S M → Type 0
  LeadsTo w done v = (rest : List Pace) (u : Whole D S M) → Reaches disk store meta v rest u → Reaches disk store meta w (done ++ rest) u

  pub reaches_none : (w : Whole D S M) → LeadsTo w [] w
  reaches_none w = λ rest u r. r

  append_one : (done : List Pace) (pace : Pace) (rest : List Pace) → done ++ pace ∷ rest ≡ (done ++ pace ∷ []) ++ rest
  append_one [] pace rest = refl
  append_one (first ∷ done) pace rest = ap (λ (l : List Pace). first ∷ l) (append_one done pace rest)

  append_none : (done : List Pace) → done ++ [] ≡ done
  append_none [] = refl
  append_none (first ∷ done) = ap (λ (l : List Pace). first ∷ l) (append_none done)

  pub reaches_more : (w : Whole D S M) (done : List Pace) (pace : Pace) (v u : Whole D S M) → LeadsTo w done v → Paces disk store meta v pace u → LeadsTo w (done ++ pace ∷ []) u
  reaches_more w done pace v u leads paces = λ rest k r. subst (λ (l : List Pace). Reaches disk store meta w l k) (append_one done pace rest) (leads (pace ∷ rest) k (u, paces, r))

  pub reaches_all : (w : Whole D S M) (done : List Pace) (v : Whole D S M) → LeadsTo w done v → Reaches disk store meta w done v
  reaches_all w done v leads = subst (λ (l : List Pace). Reaches disk store meta w l v) (append_none done) (leads [] v refl)

  -- one item more of a schedule
  pub reaches_next : (w : Whole D S M) (schedule : List Pace) (i : ℕ) (pace : Pace) (v u : Whole D S M) → LeadsTo w (take i schedule) v → i < length schedule → pace ≡ get_or schedule i pace → Paces disk store meta v pace u
      → LeadsTo w (take (i + 1) schedule) u
  reaches_next w schedule i pace v u leads lt is paces =
      let more : take (i + 1) schedule ≡ take i schedule ++ pace ∷ [] = take_more schedule i pace lt ∙ ap (λ (p : Pace). take i schedule ++ p ∷ []) (sym is) in
      subst (λ (l : List Pace). LeadsTo w l u) (sym more) (reaches_more w (take i schedule) pace v u leads paces)

  -- a whole schedule
  pub reaches_end : (w : Whole D S M) (schedule : List Pace) (i : ℕ) (v : Whole D S M) → LeadsTo w (take i schedule) v → length schedule ≤ i → Reaches disk store meta w schedule v
  reaches_end w schedule i v leads all = subst (λ (l : List Pace). Reaches disk store meta w l v) (take_all i schedule all) (reaches_all w (take i schedule) v leads)
