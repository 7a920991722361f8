-- What a metadata log in memory reports.
use Rattle.std.specs.Prelude.{true, List}
use Rattle.segment_meta.specs.declared.note.Note.{Note}
use Rattle.meta_log.specs.Content.{Content}

-- these events, and a power cut leaves them
abbrev pub content_of : List Note → Content
content_of notes = record { is_observable = true; notes = notes; besides = λ l. ⊥ }
