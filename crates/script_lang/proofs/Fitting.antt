-- A script that was read is fit to be run.
use Rattle.std.proofs.Common.{◌≡◌, ◌∙◌, sym, ap, refl, ℕ, zero, suc, ◌+◌, ◌<◌, ◌≤◌, min, List, [], ◌∷◌, ◌++◌, length, arith, take, append_assoc}
use Rattle.std.specs.Prelude.{All, Option, Some, None}
use Rattle.std.proofs.lemmas.List.{length-take}
use Rattle.std.proofs.lemmas.List.Elements.{All-nil, All-head, All-tail, All-push, All-weaker, All-take}
use Rattle.log_terms.proofs.Lists.{length-slice_set}
use Rattle.tier_base.specs.declared.names.ActorId.{ActorId}
use Rattle.tier_base.specs.declared.names.PartitionId.{PartitionId}
use Rattle.plain_log.specs.declared.command.ActorList.{ActorList}
use Rattle.plain_log.specs.declared.command.Config.{Config}
use Rattle.plain_log.specs.declared.command.Order.{Order}
use Rattle.plain_log.specs.declared.command.Pace.{Pace}
use Rattle.plain_log.specs.declared.command.Pace.TheVariants.{Until}
use Rattle.plain_log.specs.Orders.{IsOrderFor, IsListFor, AreRising, AreListsFor}
use Rattle.script_lang.specs.declared.actors.Slot.{Slot}
use Rattle.script_lang.specs.declared.script.PartScript.{PartScript}
use Rattle.script_lang.specs.Forms.{partitions_of}
use Rattle.script_lang.specs.Script.{Told, slot_at, empty_part, part_with, parts_with_list, parts_with_lists, config_of, script_of}
use Rattle.script_lang.specs.Fit.{AreNumbered, StepsTo, StepsToEnds, IsScriptSound, IsFit}
use Rattle.script_lang.proofs.Sound.{all-set-with, numbered-set}

-- lists that can be run, of actors below this one, and each is stepped to its end
record AreBelow (config : Config) (actor : ℕ) (part : PartScript) : Type 0 where
  fit : AreListsFor config part.lists
  below : All (λ (l : ActorList). l.actor.0 < actor) part.lists
  ends : StepsToEnds part

-- lists that can be run, and each is stepped to its end
record AreStepped (config : Config) (part : PartScript) : Type 0 where
  fit : AreListsFor config part.lists
  ends : StepsToEnds part

steps-more : (schedule : List Pace) (pace : Pace) (actor : ActorId) (number : ℕ) → StepsTo schedule actor number → StepsTo (schedule ++ pace ∷ []) actor number
steps-more schedule pace actor number s = record {
  before = s.before;
  after = s.after ++ pace ∷ [];
  parts = ap (λ (k : List Pace). k ++ pace ∷ []) s.parts ∙ append_assoc s.before (Until actor number ∷ s.after) (pace ∷ []);
}

-- an actor's orders can be run
record IsRunnable (config : Config) (orders : List Order) : Type 0 where
  few : length orders ≤ 65536
  each : All (IsOrderFor config) orders

rising-more : (lists : List ActorList) (l : ActorList) → AreRising lists → All (λ (m : ActorList). m.actor.0 < l.actor.0) lists → AreRising (lists ++ l ∷ [])
rising-more [] l rising below = tt
rising-more (m ∷ []) l rising below = (All-head (λ (m : ActorList). m.actor.0 < l.actor.0) m [] below, tt)
rising-more (m ∷ k ∷ lists) l rising below = (rising.0, rising-more (k ∷ lists) l rising.1 (All-tail (λ (m : ActorList). m.actor.0 < l.actor.0) m (k ∷ lists) below))

below-more : (config : Config) (actor : ℕ) (part : PartScript) → AreBelow config actor part → AreBelow config (actor + 1) part
below-more config actor part h = record {
  fit = h.fit;
  below = All-weaker (λ (l : ActorList). l.actor.0 < actor) (λ (l : ActorList). l.actor.0 < actor + 1) (λ l lt. omega (arith, lt)) part.lists h.below;
  ends = h.ends;
}

part-more : (config : Config) (actor : ℕ) (orders : List Order) → actor < 64 → IsRunnable config orders → (part : PartScript) → AreBelow config actor part → AreBelow config (actor + 1) (part_with part actor orders)
part-more config actor orders lt runs part h =
    let l : ActorList = record { actor = record { 0 = actor }; orders = orders } in
    let pace : Pace = Until l.actor (length orders) in
    let after : List Pace = part.schedule ++ pace ∷ [] in
    let old : All (λ (m : ActorList). StepsTo after m.actor (length m.orders)) part.lists =
    All-weaker (λ (m : ActorList). StepsTo part.schedule m.actor (length m.orders)) (λ (m : ActorList). StepsTo after m.actor (length m.orders))
    (λ m s. steps-more part.schedule pace m.actor (length m.orders) s) part.lists h.ends in
    record {
      fit = record {
        rising = rising-more part.lists l h.fit.rising h.below;
        each = All-push (IsListFor config) part.lists l h.fit.each (record { actor = lt; few = omega (arith, runs.few); orders = runs.each });
      };
      below = All-push (λ (m : ActorList). m.actor.0 < actor + 1) part.lists l (below-more config actor part h).below (omega arith);
      ends = All-push (λ (m : ActorList). StepsTo after m.actor (length m.orders)) part.lists l old (record { before = part.schedule; after = []; parts = refl });
    }

list-more : (config : Config) (actor : ℕ) (partition : Option PartitionId) (orders : List Order) → actor < 64 → IsRunnable config orders → (parts : List PartScript) → All (AreBelow config actor) parts
    → All (AreBelow config (actor + 1)) (parts_with_list parts actor partition orders)
list-more config actor None orders lt runs parts h = All-weaker (AreBelow config actor) (AreBelow config (actor + 1)) (below-more config actor) parts h
list-more config actor (Some partition) orders lt runs parts h =
    all-set-with (AreBelow config actor) (AreBelow config (actor + 1)) (λ (part : PartScript). part_with part actor orders) (below-more config actor) (part-more config actor orders lt runs) parts partition.0 (empty_part partition.0) h

lists-more : (config : Config) (slots : List Slot) (actor : ℕ) → actor + length slots ≤ 64 → ((a : ℕ) → IsRunnable config (slot_at slots a).orders) → (parts : List PartScript) → All (AreBelow config actor) parts
    → All (AreStepped config) (parts_with_lists parts actor slots)
lists-more config [] actor lt runs parts h = All-weaker (AreBelow config actor) (AreStepped config) (λ part below. record { fit = below.fit; ends = below.ends }) parts h
lists-more config (slot ∷ slots) actor lt runs parts h =
    lists-more config slots (actor + 1) (omega (arith, lt)) (λ a. runs (suc a)) (parts_with_list parts actor slot.partition slot.orders) (list-more config actor slot.partition slot.orders (omega (arith, lt)) (runs 0) parts h)

list-numbered : (parts : List PartScript) (actor : ℕ) (partition : Option PartitionId) (orders : List Order) → AreNumbered 0 parts → AreNumbered 0 (parts_with_list parts actor partition orders)
list-numbered parts actor None orders h = h
list-numbered parts actor (Some partition) orders h = numbered-set (λ (part : PartScript). part_with part actor orders) (λ part. refl) 0 partition.0 (empty_part partition.0) parts h

lists-numbered : (slots : List Slot) (parts : List PartScript) (actor : ℕ) → AreNumbered 0 parts → AreNumbered 0 (parts_with_lists parts actor slots)
lists-numbered [] parts actor h = h
lists-numbered (slot ∷ slots) parts actor h = lists-numbered slots (parts_with_list parts actor slot.partition slot.orders) (actor + 1) (list-numbered parts actor slot.partition slot.orders h)

list-count : (parts : List PartScript) (actor : ℕ) (partition : Option PartitionId) (orders : List Order) → length (parts_with_list parts actor partition orders) ≡ length parts
list-count parts actor None orders = refl
list-count parts actor (Some partition) orders = length-slice_set parts partition.0 _

lists-count : (slots : List Slot) (parts : List PartScript) (actor : ℕ) → length (parts_with_lists parts actor slots) ≡ length parts
lists-count [] parts actor = refl
lists-count (slot ∷ slots) parts actor = lists-count slots (parts_with_list parts actor slot.partition slot.orders) (actor + 1) ∙ list-count parts actor slot.partition slot.orders

numbered-take : (k n : ℕ) (parts : List PartScript) → AreNumbered n parts → AreNumbered n (take k parts)
numbered-take zero n parts h = tt
numbered-take (suc k) n [] h = tt
numbered-take (suc k) n (part ∷ parts) h = (h.0, numbered-take k (n + 1) parts h.1)

no-lists : (config : Config) (part : PartScript) → part.lists ≡ [] → AreBelow config 0 part
no-lists config part is = record {
  fit = record { rising = rw is tt; each = rw is (All-nil (IsListFor config)) };
  below = rw is (All-nil (λ (l : ActorList). l.actor.0 < 0));
  ends = rw is (All-nil (λ (l : ActorList). StepsTo part.schedule l.actor (length l.orders)));
}

few-rest : (slots rest : List Slot) (slot : Slot) → slots ≡ slot ∷ rest → ((a : ℕ) → length (slot_at slots a).orders ≤ 65536) → (a : ℕ) → length (slot_at rest a).orders ≤ 65536
few-rest [] rest slot is few a = absurd (cc)
few-rest (s ∷ slots) rest slot is few a = let same : slots ≡ rest = cc in rw (← same) (few (suc a))

-- one list more
pub lists-step : (parts next : List PartScript) (actor after : ℕ) (slots rest : List Slot) (slot : Slot) (all : List PartScript) → slots ≡ slot ∷ rest → next ≡ parts_with_list parts actor slot.partition slot.orders
    → after ≡ min (actor + 1) 65535 → actor + length slots ≡ 64 → ((a : ℕ) → length (slot_at slots a).orders ≤ 65536) → parts_with_lists parts actor slots ≡ all
    → (after + length rest ≡ 64) × ((a : ℕ) → length (slot_at rest a).orders ≤ 65536) × (parts_with_lists next after rest ≡ all)
lists-step parts next actor after slots rest slot all is put steps count few read =
    let long : length slots ≡ length rest + 1 = omega (arith, ap (λ (ss : List Slot). length ss) is) in
    let more : after ≡ actor + 1 = omega (arith, steps, count, long) in (
      omega (arith, more, count, long),
      few-rest slots rest slot is few,
      rw (more, put) (sym (ap (parts_with_lists parts actor) is) ∙ read),
    )

-- the script of lines of which this holds
pub script-fits : (t : Told) → IsScriptSound t → IsFit (script_of t)
script-fits t h =
    let config = config_of t.options in
    let count = partitions_of t.options in
    let parts = parts_with_lists t.parts 0 t.actors in
    let stepped : All (AreStepped config) parts =
    lists-more config t.actors 0 (omega (arith, h.actors)) (λ a. record { few = omega (arith, h.few a, h.small.commands); each = h.orders a }) t.parts
    (All-weaker (λ (part : PartScript). part.lists ≡ []) (AreBelow config 0) (no-lists config) t.parts h.empty) in
    let some : All (AreStepped config) (take count parts) = All-take (AreStepped config) count parts stepped in
    let long : length (take count parts) ≡ min count (length parts) = length-take count parts in
    let all : length parts ≡ 64 = lists-count t.actors t.parts 0 ∙ h.parts in
    record {
      config = record {
        some = h.options.brokers.0;
        few = h.options.brokers.1;
        segment_low = h.options.segment.0;
        segment_high = h.options.segment.1;
        interval_high = h.options.interval;
      };
      some = omega (arith, long, all, h.options.partitions.0);
      few = omega (arith, long, all);
      numbered = numbered-take count 0 parts (lists-numbered t.actors t.parts 0 h.numbered);
      lists = All-weaker (AreStepped config) (λ (part : PartScript). AreListsFor config part.lists) (λ part s. s.fit) (take count parts) some;
      ends = All-weaker (AreStepped config) StepsToEnds (λ part s. s.ends) (take count parts) some;
    }
