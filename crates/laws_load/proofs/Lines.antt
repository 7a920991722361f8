-- One line of a load after the lines so far.
use Rattle.std.proofs.Common.{◌≡◌, ◌∙◌, sym, ap, subst, refl, ℕ, zero, suc, ◌+◌, ◌*◌, ◌/◌, ◌≤◌, true, List, [], ◌∷◌, ◌++◌, arith, get_or, replicate}
use Rattle.std.specs.Prelude.{pos, Option, Some, None, Ok}
use Rattle.std.specs.List.{list_all, slice_set}
use Rattle.std.proofs.lemmas.Bool.{eq-eqb}
use Rattle.tier_base.specs.declared.names.PartitionId.{PartitionId}
use Rattle.plain_log.specs.declared.command.Order.{Order}
use Rattle.script_lang.specs.declared.actors.Slot.{Slot}
use Rattle.script_lang.specs.declared.counting.Counts.{Counts}
use Rattle.script_lang.specs.declared.form.Form.{Form}
use Rattle.script_lang.specs.declared.form.Form.TheVariants.{Placed}
use Rattle.script_lang.specs.declared.options.Options.{Options}
use Rattle.script_lang.specs.Words.{words_of}
use Rattle.script_lang.specs.Lines.{lines_of, is_text_byte}
use Rattle.script_lang.specs.Forms.{form_in}
use Rattle.script_lang.specs.Limits.{size_of, fetches_of, limit_of, copies_of, with_command}
use Rattle.script_lang.specs.Script.{Told, idle, slot_at, same_partition, segment_bytes_of, told_with, form_behind, line_behind, lines_behind}
use Rattle.script_lang.specs.Spelling.{line_of, is_common, IsBroker, IsSpellable}
use Rattle.script_lang.proofs.Spelled.{line-read}
use Rattle.laws_load.proofs.Texts.{lines_front, text_read}
use Rattle.laws_load.proofs.Counted.{counts_within}

-- a line that is read
pub line_goes : (t : Told) (number : ℕ) (text rest : List ℕ) (form : Form) (next : Told) → list_all is_text_byte text ≡ true → form_in t.options (words_of text) ≡ Ok form → form_behind t form ≡ Ok next
    → lines_behind t number (lines_of (text ++ 10 ∷ rest)) ≡ lines_behind next (number + 1) (lines_of rest)
unfolding line_behind
line_goes t number text rest form next h f b = rw (lines_front text rest h, text_read text h, f, b) refl

-- the options of a load
abbrev pub load_options : Options
load_options = record {
  brokers = Some 3;
  partitions = Some 4;
  segment_bytes = Some 4096;
  index_interval_bytes = None;
  retention_ms = None;
  retention_bytes = Some (pos 65536);
  local_retention_ms = None;
  local_retention_bytes = Some (pos 8192);
}

-- four actors belong to a partition
abbrev pub IsOwn : ℕ → Option PartitionId → Type 0
IsOwn a None = Unit {0}
IsOwn a (Some p) = p.0 ≡ a / 4

-- the lines so far of a load, of which so many commands are left, and so many fetches or copies at most
pub record Under (m f : ℕ) (t : Told) : Type 0 where
  pub options_are : t.options ≡ load_options
  pub actors_are : (a : ℕ) → IsOwn a (slot_at t.actors a).partition
  pub commands : t.sums.commands + m ≤ 40000
  pub largest : t.sums.largest ≤ 9325
  pub fetches : t.sums.fetches + f ≤ 20000
  pub limits : t.sums.limits ≤ 4096 * t.sums.fetches
  pub copies : t.sums.copies + f ≤ 20000

pub resized : (m f m' f' : ℕ) (t : Told) → m' ≤ m → f' ≤ f → Under m f t → Under m' f' t
resized m f m' f' t le lf u = record {
  options_are = u.options_are;
  actors_are = u.actors_are;
  commands = (let c = u.commands in omega (arith, c, le));
  largest = u.largest;
  fetches = (let c = u.fetches in omega (arith, c, lf));
  limits = u.limits;
  copies = (let c = u.copies in omega (arith, c, lf));
}

-- an order of a load, and whether it is a fetch or a copy
pub record IsLoadOrder (actor partition : ℕ) (order : Order) (e : ℕ) : Type 0 where
  pub actor_low : actor ≤ 63
  pub own : partition ≡ actor / 4
  pub low : partition ≤ 3
  pub broker : IsBroker 3 (is_common order.command) order.broker.0
  pub spellable : IsSpellable order.command
  pub text : list_all is_text_byte (line_of actor partition order) ≡ true
  pub size : size_of order.command ≤ 9325
  pub limit : limit_of order.command ≤ 4096 * fetches_of order.command
  pub fetches : fetches_of order.command ≤ e
  pub copies : copies_of order.command ≤ e

own_same : (o : Option PartitionId) (a p : ℕ) → IsOwn a o → p ≡ a / 4 → same_partition o (record { 0 = p }) ≡ Ok tt
own_same None a p own is = refl
own_same (Some other) a p own is = rw (eq-eqb other.0 p (own ∙ sym is)) refl

-- what holds of each actor holds with another list in one place
each_set : (Q : ℕ → Slot → Type 0) (xs : List Slot) (i : ℕ) (v : Slot) → ((a : ℕ) → Q a (get_or xs a idle)) → Q i v → (a : ℕ) → Q a (get_or (slice_set xs i v) a idle)
each_set Q [] i v h q a = h a
each_set Q (x ∷ xs) zero v h q zero = q
each_set Q (x ∷ xs) zero v h q (suc a) = h (suc a)
each_set Q (x ∷ xs) (suc i) v h q zero = h zero
each_set Q (x ∷ xs) (suc i) v h q (suc a) = each_set (λ n. Q (suc n)) xs i v (λ n. h (suc n)) q a

pub idle_own : (n a : ℕ) → IsOwn a (get_or (replicate n idle) a idle).partition
idle_own zero a = tt
idle_own (suc n) zero = tt
idle_own (suc n) (suc a) = idle_at n a
  where
    idle_at : (n a : ℕ) → IsOwn (suc a) (get_or (replicate n idle) a idle).partition
    idle_at n a = subst (λ (s : Slot). IsOwn (suc a) s.partition) (sym (still n a)) tt
      where
        still : (n a : ℕ) → get_or (replicate n idle) a idle ≡ idle
        still zero a = refl
        still (suc n) zero = refl
        still (suc n) (suc a) = still n a

-- an order of a load after the lines so far
pub order_goes : (t : Told) (number m f e actor partition : ℕ) (order : Order) (rest : List ℕ) → Under (m + 1) (f + e) t → IsLoadOrder actor partition order e
    → (next : Told) × (lines_behind t number (lines_of (line_of actor partition order ++ 10 ∷ rest)) ≡ lines_behind next (number + 1) (lines_of rest)) × Under m f next
unfolding form_behind
order_goes t number m f e actor partition order rest u is = (next, line_goes t number (line_of actor partition order) rest form next is.text read behind, under)
  where
    form : Form
    form = Placed (record { 0 = actor }) (record { 0 = partition }) order true

    sums : Counts
    sums = with_command t.sums order.command

    next : Told
    next = told_with t sums form

    read : form_in t.options (words_of (line_of actor partition order)) ≡ Ok form
    read = subst (λ (o : Options). form_in o (words_of (line_of actor partition order)) ≡ Ok form) (sym u.options_are)
        (line-read load_options actor partition order is.actor_low is.low (let low = is.low in omega (arith, low)) is.broker is.spellable)

    commands : sums.commands + m ≤ 40000
    commands = let c = u.commands in omega (arith, c)

    largest : sums.largest ≤ 9325
    largest = let c = u.largest in let d = is.size in omega (arith, c, d)

    fetches : sums.fetches + f ≤ 20000
    fetches = let c = u.fetches in let d = is.fetches in omega (arith, c, d)

    limits : sums.limits ≤ 4096 * sums.fetches
    limits = let c = u.limits in let d = is.limit in omega (arith, c, d)

    copies : sums.copies + f ≤ 20000
    copies = let c = u.copies in let d = is.copies in omega (arith, c, d)

    behind : form_behind t form ≡ Ok next
    behind =
        rw (
          own_same (slot_at t.actors actor).partition actor partition (u.actors_are actor) is.own,
          counts_within (segment_bytes_of t.options) sums (size_of order.command) (let s = ap segment_bytes_of u.options_are in omega (arith, s)) (omega (arith, commands)) is.size largest (omega (arith, fetches)) limits (omega (arith, copies)),
        )
        refl

    under : Under m f next
    under = record {
      options_are = u.options_are;
      actors_are = each_set (λ a s. IsOwn a s.partition) t.actors actor (record { partition = Some (record { 0 = partition }); orders = (slot_at t.actors actor).orders ++ order ∷ [] }) u.actors_are is.own;
      commands = commands;
      largest = largest;
      fetches = fetches;
      limits = limits;
      copies = copies;
    }
