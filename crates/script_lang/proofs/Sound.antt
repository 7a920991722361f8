-- What holds of the lines so far holds with one form more.
use Rattle.std.proofs.Common.{◌≡◌, ◌∙◌, ap, refl, ℕ, zero, suc, ◌+◌, ◌≤◌, List, [], ◌∷◌, ◌++◌, Bool, true, false, length, length-append, arith, replicate, add-one}
use Rattle.std.specs.Prelude.{All, slice_set, slice_index_or}
use Rattle.std.proofs.lemmas.List.Elements.{All-nil, All-cons, All-head, All-tail, All-push, All-weaker}
use Rattle.log_terms.proofs.Lists.{length-slice_set}
use Rattle.tier_base.specs.declared.names.ActorId.{ActorId}
use Rattle.tier_base.specs.declared.names.PartitionId.{PartitionId}
use Rattle.plain_log.specs.declared.command.Command.{Command}
use Rattle.plain_log.specs.declared.command.Command.TheVariants.{Append, Raw, Flush, Roll, Elect, Unclean, Learn, Join, Follow, Ack, Shrink, Expand, Copy, Trim, Expire, Raise, Clock, Stop, Up, Fetch, Pack, Copying, Offset}
use Rattle.plain_log.specs.declared.command.Order.{Order}
use Rattle.plain_log.specs.declared.command.Pace.{Pace}
use Rattle.plain_log.specs.declared.command.Pace.TheVariants.{Times}
use Rattle.plain_log.specs.Orders.{IsInRange, IsOrderFor}
use Rattle.script_lang.specs.declared.actors.Slot.{Slot}
use Rattle.script_lang.specs.declared.counting.Counts.{Counts}
use Rattle.script_lang.specs.declared.fault.Fault.{Fault}
use Rattle.script_lang.specs.declared.form.Form.TheVariants.{Placed, Turn}
use Rattle.script_lang.specs.declared.options.Options.{Options}
use Rattle.script_lang.specs.declared.script.PartScript.{PartScript}
use Rattle.script_lang.specs.Forms.{brokers_of}
use Rattle.script_lang.specs.Limits.{AreSmall, size_of, none_so_far}
use Rattle.script_lang.specs.Script.{Told, idle, slot_at, with_order, with_pace, with_fault, parts_stepped, empty_part, empty_parts, config_of, nothing_told}
use Rattle.script_lang.specs.Fit.{AreNumbered, IsCommandInRange, IsSaidTo, IsFormInRange, FitsBatch, AreCountsWith, IsScriptSound}

-- what holds of all items holds, or what follows from it, when one is changed
pub all-set-with : {X : Type 0} (P Q : X → Type 0) (f : X → X) → ((x : X) → P x → Q x) → ((x : X) → P x → Q (f x)) → (xs : List X) (i : ℕ) (d : X) → All P xs → All Q (slice_set xs i (f (slice_index_or xs i d)))
all-set-with P Q f keeps does [] i d h = All-nil Q
all-set-with P Q f keeps does (x ∷ xs) zero d h = All-cons Q (f x) xs (does x (All-head P x xs h)) (All-weaker P Q keeps xs (All-tail P x xs h))
all-set-with P Q f keeps does (x ∷ xs) (suc i) d h = All-cons Q x (slice_set xs i (f (slice_index_or xs i d))) (keeps x (All-head P x xs h)) (all-set-with P Q f keeps does xs i d (All-tail P x xs h))

-- numbers stay where one partition is changed in other things
pub numbered-set : (f : PartScript → PartScript) → ((part : PartScript) → (f part).partition ≡ part.partition) → (n i : ℕ) (d : PartScript) (parts : List PartScript) → AreNumbered n parts → AreNumbered n (slice_set parts i (f (slice_index_or parts i d)))
numbered-set f keeps n i d [] h = tt
numbered-set f keeps n zero d (part ∷ parts) h = (ap (λ (p : PartitionId). p.0) (keeps part) ∙ h.0, h.1)
numbered-set f keeps n (suc i) d (part ∷ parts) h = (h.0, numbered-set f keeps (n + 1) i d parts h.1)

-- partitions whose lists are empty
record AreEmpty (parts : List PartScript) : Type 0 where
  numbered : AreNumbered 0 parts
  empty : All (λ (part : PartScript). part.lists ≡ []) parts
  count : length parts ≡ 64

set-empty : (f : PartScript → PartScript) → ((part : PartScript) → (f part).partition ≡ part.partition) → ((part : PartScript) → (f part).lists ≡ part.lists) → (i : ℕ) (d : PartScript) (parts : List PartScript) → AreEmpty parts
    → AreEmpty (slice_set parts i (f (slice_index_or parts i d)))
set-empty f same keeps i d parts h = record {
  numbered = numbered-set f same 0 i d parts h.numbered;
  empty = all-set-with (λ (part : PartScript). part.lists ≡ []) (λ (part : PartScript). part.lists ≡ []) f (λ part is. is) (λ part is. keeps part ∙ is) parts i d h.empty;
  count = length-slice_set parts i (f (slice_index_or parts i d)) ∙ h.count;
}

pace-empty : (parts : List PartScript) (partition : ℕ) (pace : Pace) → AreEmpty parts → AreEmpty (with_pace parts partition pace)
pace-empty parts partition pace h = set-empty (λ (part : PartScript). record part { schedule = part.schedule ++ pace ∷ [] }) (λ part. refl) (λ part. refl) partition (empty_part partition) parts h

fault-empty : (parts : List PartScript) (partition : ℕ) (fault : Fault) → AreEmpty parts → AreEmpty (with_fault parts partition fault)
fault-empty parts partition fault h = set-empty (λ (part : PartScript). record part { faults = part.faults ++ fault ∷ [] }) (λ part. refl) (λ part. refl) partition (empty_part partition) parts h

stepped-empty : (parts : List PartScript) (at_once : Bool) (actor : ActorId) (number partition : ℕ) → AreEmpty parts → AreEmpty (parts_stepped parts at_once actor number partition)
stepped-empty parts false actor number partition h = h
stepped-empty parts true actor number partition h = pace-empty parts partition _ h

empty-of : (t : Told) → IsScriptSound t → AreEmpty t.parts
empty-of t h = record { numbered = h.numbered; empty = h.empty; count = h.parts }

one-more : (orders : List Order) (order : Order) (n : ℕ) → length orders ≤ n → length (orders ++ order ∷ []) ≤ n + 1
one-more orders order n h = omega (arith, length-append orders (order ∷ []), h)

few-order : (actors : List Slot) (actor n : ℕ) (p : PartitionId) (o : Order) → ((a : ℕ) → length (slot_at actors a).orders ≤ n) → (a : ℕ) → length (slot_at (with_order actors actor p o) a).orders ≤ n + 1
few-order [] actor n p o h a = omega arith
few-order (s ∷ ss) zero n p o h zero = one-more s.orders o n (h 0)
few-order (s ∷ ss) zero n p o h (suc a) = omega (arith, h (suc a))
few-order (s ∷ ss) (suc k) n p o h zero = omega (arith, h 0)
few-order (s ∷ ss) (suc k) n p o h (suc a) = few-order ss k n p o (λ b. h (suc b)) a

orders-order : (P : Order → Type 0) (actors : List Slot) (actor : ℕ) (p : PartitionId) (o : Order) → P o → ((a : ℕ) → All P (slot_at actors a).orders) → (a : ℕ) → All P (slot_at (with_order actors actor p o) a).orders
orders-order P [] actor p o is h a = All-nil P
orders-order P (s ∷ ss) zero p o is h zero = All-push P s.orders o (h 0) is
orders-order P (s ∷ ss) zero p o is h (suc a) = h (suc a)
orders-order P (s ∷ ss) (suc k) p o is h zero = h 0
orders-order P (s ∷ ss) (suc k) p o is h (suc a) = orders-order P ss k p o is (λ b. h (suc b)) a

in-range : (command : Command) → IsCommandInRange command → size_of command ≤ 1048576 → IsInRange command
in-range (Append recs) said fits = record { some = said; fits = fits }
in-range (Raw bytes) said fits = fits
in-range Flush said fits = tt
in-range Roll said fits = tt
in-range Elect said fits = tt
in-range Unclean said fits = tt
in-range Learn said fits = tt
in-range Join said fits = tt
in-range (Follow limit) said fits = said
in-range Ack said fits = tt
in-range Shrink said fits = tt
in-range Expand said fits = tt
in-range Copy said fits = tt
in-range Trim said fits = tt
in-range Expire said fits = tt
in-range (Raise start) said fits = said
in-range (Clock ms) said fits = said
in-range Stop said fits = tt
in-range Up said fits = tt
in-range (Fetch offset limit) said fits = said
in-range (Pack on) said fits = tt
in-range (Copying on) said fits = tt
in-range (Offset which) said fits = tt

order-for : (options : Options) (order : Order) → IsSaidTo (brokers_of options) order → size_of order.command ≤ 1048576 → IsOrderFor (config_of options) order
order-for options order said fits = record { broker = said.broker; command = in-range order.command said.command fits }

-- with an order
pub sound-order : (t self : Told) (counts : Counts) (actor : ActorId) (partition : PartitionId) (order : Order) (at_once : Bool) (number : ℕ) → t ≡ self → IsScriptSound t
    → IsFormInRange self.options (Placed actor partition order at_once) → AreCountsWith self.sums (Placed actor partition order at_once) counts → FitsBatch (Placed actor partition order at_once)
    → IsScriptSound (record { options = t.options; begun = true; sums = counts; actors = with_order t.actors actor.0 partition order; parts = parts_stepped t.parts at_once actor number partition.0 })
sound-order t self counts actor partition order at_once number is h range with fits =
    let said : IsSaidTo (brokers_of t.options) order = rw is (range.1) in
    let count : counts.commands ≡ t.sums.commands + 1 = rw is (with.commands) in
    let empty = stepped-empty t.parts at_once actor number partition.0 (empty-of t h) in
    record {
      options = h.options;
      small = with.small;
      few = λ a. omega (arith, few-order t.actors actor.0 t.sums.commands partition order h.few a, count);
      orders = orders-order (IsOrderFor (config_of t.options)) t.actors actor.0 partition order (order-for t.options order said fits) h.orders;
      unbegun = λ e. absurd (cc);
      actors = length-slice_set t.actors actor.0 _ ∙ h.actors;
      numbered = empty.numbered;
      empty = empty.empty;
      parts = empty.count;
    }

-- with turns
pub sound-turns : (t self : Told) (counts : Counts) (actor : ActorId) (turns partition : ℕ) → t ≡ self → IsScriptSound t → AreCountsWith self.sums (Turn actor turns) counts
    → IsScriptSound (record { options = t.options; begun = true; sums = counts; actors = t.actors; parts = with_pace t.parts partition (Times actor turns) })
sound-turns t self counts actor turns partition is h with =
    let count : counts.commands ≡ t.sums.commands + 0 = rw is (with.commands) in
    let empty = pace-empty t.parts partition (Times actor turns) (empty-of t h) in
    record {
      options = h.options;
      small = with.small;
      few = λ a. omega (arith, h.few a, count);
      orders = h.orders;
      unbegun = λ e. absurd (cc);
      actors = h.actors;
      numbered = empty.numbered;
      empty = empty.empty;
      parts = empty.count;
    }

-- with a fault
pub sound-fault : (t : Told) (partition : ℕ) (fault : Fault) → IsScriptSound t
    → IsScriptSound (record { options = t.options; begun = true; sums = t.sums; actors = t.actors; parts = with_fault t.parts partition fault })
sound-fault t partition fault h =
    let empty = fault-empty t.parts partition fault (empty-of t h) in
    record {
      options = h.options;
      small = h.small;
      few = h.few;
      orders = h.orders;
      unbegun = λ e. absurd (cc);
      actors = h.actors;
      numbered = empty.numbered;
      empty = empty.empty;
      parts = empty.count;
    }

no-orders : (n a : ℕ) → (slot_at (replicate n idle) a).orders ≡ []
no-orders zero a = refl
no-orders (suc n) zero = refl
no-orders (suc n) (suc a) = no-orders n a

numbered-empty : (n count : ℕ) → AreNumbered n (empty_parts n count)
numbered-empty n zero = tt
numbered-empty n (suc count) = (refl, numbered-empty (n + 1) count)

lists-empty : (n count : ℕ) → All (λ (part : PartScript). part.lists ≡ []) (empty_parts n count)
lists-empty n zero = All-nil (λ (part : PartScript). part.lists ≡ [])
lists-empty n (suc count) = All-cons (λ (part : PartScript). part.lists ≡ []) (empty_part n) (empty_parts (n + 1) count) refl (lists-empty (n + 1) count)

-- with no line
pub sound-new : AreSmall none_so_far → IsScriptSound nothing_told
sound-new small = record {
  options = record {
    brokers = (omega arith, omega arith);
    partitions = (omega arith, omega arith);
    segment = (omega arith, omega arith);
    interval = omega arith;
  };
  small = small;
  few = λ a. rw (no-orders 64 a) (omega arith);
  orders = λ a. rw (no-orders 64 a) (All-nil (IsOrderFor (config_of nothing_told.options)));
  unbegun = λ e a. no-orders 64 a;
  actors = refl;
  numbered = numbered-empty 0 64;
  empty = lists-empty 0 64;
  parts = refl;
}

parts-more : (n count : ℕ) → empty_parts n (suc count) ≡ empty_parts n count ++ empty_part (n + count) ∷ []
parts-more n zero = ap (λ (k : ℕ). empty_part k ∷ []) (omega arith)
parts-more n (suc count) = ap (λ (parts : List PartScript). empty_part n ∷ parts) (parts-more (n + 1) count ∙ ap (λ (k : ℕ). empty_parts (n + 1) count ++ empty_part k ∷ []) (omega arith))

-- one partition more
pub empty-more : (count : ℕ) → empty_parts 0 (count + 1) ≡ empty_parts 0 count ++ empty_part count ∷ []
empty-more count = ap (empty_parts 0) (add-one count) ∙ (parts-more 0 count ∙ ap (λ (k : ℕ). empty_parts 0 count ++ empty_part k ∷ []) (omega arith))
