-- The stories of a run: one for each partition of the script, in their order.
use Rattle.std.specs.Prelude.{◌≡◌, ℕ, List, [], ◌∷◌, Ok}
use Rattle.plain_log.specs.declared.command.Config.{Config}
use Rattle.plain_log.specs.declared.journal.JournalEntry.{JournalEntry}
use Rattle.plain_log.specs.declared.state.State.{State}
use Rattle.plain_log.specs.Fresh.{fresh}
use Rattle.script_lang.specs.declared.script.PartScript.{PartScript}
use Rattle.script_lang.specs.declared.script.Script.{Script}
use Rattle.script_lang.specs.Script.{script_in}
use Rattle.trace_text.specs.Read.{AreParts}
use Rattle.trace_text.specs.Trace.{trace_of}
use Rattle.run_story.specs.declared.run.Story.{Story}
use Rattle.run_story.specs.declared.tracked.Tracked.{Tracked}
use Rattle.run_story.specs.Moments.{IsStory, journal_of}

-- the story of a partition: of its journal, over its lists, and in a first run from the fresh state
pub record IsPartStory (config : Config) (before : List Tracked) (journals : List (ℕ × List JournalEntry))
    (part : PartScript) (story : Story) : Type 0 where
  pub partition : story.partition ≡ part.partition
  pub p : State
  pub q : State
  pub begins : before ≡ [] → p ≡ fresh config
  pub is : IsStory part.lists p (journal_of journals part.partition.0) q story.moments

-- a story for each of these partitions
abbrev pub AreStories : Config → List Tracked → List (ℕ × List JournalEntry) → List PartScript → List Story → Type 0
AreStories config before journals [] [] = Unit {0}
AreStories config before journals (part ∷ parts) (story ∷ stories) =
    IsPartStory config before journals part story × AreStories config before journals parts stories
AreStories config before journals [] (story ∷ stories) = ⊥
AreStories config before journals (part ∷ parts) [] = ⊥

-- the script says this, the trace is the text of these journals, and these are the stories
pub record HasStories (script trace : List ℕ) (before : List Tracked) (stories : List Story) : Type 0 where
  pub said : Script
  pub journals : List (ℕ × List JournalEntry)
  pub script_is : script_in script ≡ Ok said
  pub parts : AreParts journals
  pub trace_is : trace ≡ trace_of journals
  pub are : AreStories said.config before journals said.parts stories
