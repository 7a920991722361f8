-- The stories of partitions, one after another.
use Rattle.std.proofs.Common.{ℕ, List, [], ◌∷◌, ◌++◌}
use Rattle.plain_log.specs.declared.command.Config.{Config}
use Rattle.plain_log.specs.declared.journal.JournalEntry.{JournalEntry}
use Rattle.script_lang.specs.declared.script.PartScript.{PartScript}
use Rattle.run_story.specs.declared.run.Story.{Story}
use Rattle.run_story.specs.declared.tracked.Tracked.{Tracked}
use Rattle.run_story.specs.Stories.{IsPartStory, AreStories}

-- one more story
pub one_story : (config : Config) (before : List Tracked) (journals : List (ℕ × List JournalEntry)) (parts : List PartScript) (stories : List Story) (part : PartScript) (story : Story)
    → AreStories config before journals parts stories → IsPartStory config before journals part story
    → AreStories config before journals (parts ++ part ∷ []) (stories ++ story ∷ [])
one_story config before journals [] [] part story are is = (is, tt)
one_story config before journals (r ∷ parts) (s ∷ stories) part story are is = (are.0, one_story config before journals parts stories part story are.1 is)
one_story config before journals [] (s ∷ stories) part story are is = absurd are
one_story config before journals (r ∷ parts) [] part story are is = absurd are
