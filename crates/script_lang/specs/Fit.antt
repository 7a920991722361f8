-- What holds of every parsed script: a world can be made of it, and can run its lists.
use Rattle.std.specs.Prelude.{◌≡◌, ℕ, ◌<◌, ◌≤◌, ◌≤ℤ◌, ◌<ℤ◌, pos, ◌^◌, ◌+◌, false, List, [], ◌∷◌, ◌++◌, length, All}
use Rattle.tier_base.specs.declared.names.ActorId.{ActorId}
use Rattle.plain_log.specs.declared.command.ActorList.{ActorList}
use Rattle.plain_log.specs.declared.command.Command.{Command}
use Rattle.plain_log.specs.declared.command.Command.TheVariants.{Append, Follow, Raise, Clock, Fetch}
use Rattle.plain_log.specs.declared.command.Order.{Order}
use Rattle.plain_log.specs.declared.command.Pace.{Pace}
use Rattle.plain_log.specs.declared.command.Pace.TheVariants.{Until}
use Rattle.plain_log.specs.Orders.{AreListsFor, IsConfig, IsOrderFor}
use Rattle.script_lang.specs.declared.counting.Counts.{Counts}
use Rattle.script_lang.specs.declared.form.Form.{Form}
use Rattle.script_lang.specs.declared.form.Form.TheVariants.{Blank, Given, Placed, Turn, Faulty}
use Rattle.script_lang.specs.declared.options.Options.{Options}
use Rattle.script_lang.specs.declared.options.OptionLine.{OptionLine}
use Rattle.script_lang.specs.declared.options.OptionLine.TheVariants.{Brokers, Partitions, SegmentBytes}
use Rattle.script_lang.specs.declared.options.OptionLine.TheVariants.{IndexIntervalBytes}
use Rattle.script_lang.specs.declared.script.PartScript.{PartScript}
use Rattle.script_lang.specs.declared.script.Script.{Script}
use Rattle.script_lang.specs.Forms.{brokers_of, partitions_of}
use Rattle.script_lang.specs.Limits.{AreSmall, size_of}
use Rattle.script_lang.specs.Script.{Told, slot_at, segment_bytes_of, index_interval_of, config_of}

-- partitions that are numbered from this number on
abbrev pub AreNumbered : ℕ → List PartScript → Type 0
AreNumbered n [] = Unit {0}
AreNumbered n (part ∷ parts) = (part.partition.0 ≡ n) × AreNumbered (n + 1) parts

-- the schedule steps the actor until it has answered so many of its commands
pub record StepsTo (schedule : List Pace) (actor : ActorId) (number : ℕ) : Type 0 where
  pub before : List Pace
  pub after : List Pace
  pub parts : schedule ≡ before ++ Until actor number ∷ after

-- the schedule steps the actor of each list to the end of it
abbrev pub StepsToEnds : PartScript → Type 0
StepsToEnds part = All (λ (l : ActorList). StepsTo part.schedule l.actor (length l.orders)) part.lists

-- a world can be made of each partition's part, and can run its lists
pub record IsFit (script : Script) : Type 0 where
  pub config : IsConfig script.config
  pub some : 1 ≤ length script.parts
  pub few : length script.parts ≤ 64
  pub numbered : AreNumbered 0 script.parts
  pub lists : All (λ (part : PartScript). AreListsFor script.config part.lists) script.parts
  pub ends : All StepsToEnds script.parts

-- a command's numbers are in range, and an append has records
abbrev pub IsCommandInRange : Command → Type 0
IsCommandInRange (Append recs) = 0 < length recs
IsCommandInRange (Follow limit) = limit ≤ 2147483647
IsCommandInRange (Raise start) = start ≤ 4611686018427387904
IsCommandInRange (Clock ms) = (pos 0 ≤ℤ ms) × (ms <ℤ pos (2 ^ 63))
IsCommandInRange (Fetch offset limit) = (offset ≤ 4611686018427387904) × (limit ≤ 2147483647)
IsCommandInRange other = Unit {0}

-- the order is to a broker that there is
pub record IsSaidTo (brokers : ℕ) (order : Order) : Type 0 where
  pub broker : order.broker.0 < brokers
  pub command : IsCommandInRange order.command

-- an option that worlds are made with is in its range
abbrev pub IsOptionInRange : OptionLine → Type 0
IsOptionInRange (Brokers n) = (1 ≤ n) × (n ≤ 8)
IsOptionInRange (Partitions n) = (1 ≤ n) × (n ≤ 64)
IsOptionInRange (SegmentBytes n) = (100 ≤ n) × (n ≤ 16777216)
IsOptionInRange (IndexIntervalBytes n) = n ≤ 16777216
IsOptionInRange other = Unit {0}

-- a form with these options is in range
abbrev pub IsFormInRange : Options → Form → Type 0
IsFormInRange options Blank = Unit {0}
IsFormInRange options (Given option) = IsOptionInRange option
IsFormInRange options (Placed actor partition order at_once) = (actor.0 < 64) × IsSaidTo (brokers_of options) order
IsFormInRange options (Turn actor turns) = actor.0 < 64
IsFormInRange options (Faulty partition fault) = Unit {0}

-- the commands of a form
abbrev pub commands_of : Form → ℕ
commands_of (Placed actor partition order at_once) = 1
commands_of other = 0

-- the batch of a form isn't too large
abbrev pub FitsBatch : Form → Type 0
FitsBatch (Placed actor partition order at_once) = size_of order.command ≤ 1048576
FitsBatch other = Unit {0}

-- counts after these, with a form
pub record AreCountsWith (before : Counts) (form : Form) (counts : Counts) : Type 0 where
  pub small : AreSmall counts
  pub commands : counts.commands ≡ before.commands + commands_of form

-- the counts of brokers and partitions, and the sizes of segments and intervals, are in their ranges
pub record AreInRange (options : Options) : Type 0 where
  pub brokers : (1 ≤ brokers_of options) × (brokers_of options ≤ 8)
  pub partitions : (1 ≤ partitions_of options) × (partitions_of options ≤ 64)
  pub segment : (100 ≤ segment_bytes_of options) × (segment_bytes_of options ≤ 16777216)
  pub interval : index_interval_of options ≤ 16777216

-- what holds of the lines so far
pub record IsScriptSound (t : Told) : Type 0 where
  pub options : AreInRange t.options
  pub small : AreSmall t.sums
  pub few : (a : ℕ) → length (slot_at t.actors a).orders ≤ t.sums.commands
  pub orders : (a : ℕ) → All (IsOrderFor (config_of t.options)) (slot_at t.actors a).orders
  pub unbegun : t.begun ≡ false → (a : ℕ) → (slot_at t.actors a).orders ≡ []
  pub actors : length t.actors ≡ 64
  pub numbered : AreNumbered 0 t.parts
  pub empty : All (λ (part : PartScript). part.lists ≡ []) t.parts
  pub parts : length t.parts ≡ 64
