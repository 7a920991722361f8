-- The laws of the tier's safety.
use Rattle.std.specs.Prelude.{◌≡◌, ◌≤◌, ◌<◌, ℕ, List, ◌++◌, Some, slice_get}
use mathlib.Core.List.{IsPrefix}
use Rattle.tier_base.specs.declared.names.SegmentId.{SegmentId}
use Rattle.tier_base.specs.declared.plain.State.TheVariants.{CopyFinished}
use Rattle.log_terms.specs.Line.{line_of}
use Rattle.log_terms.specs.Log.{end_of}
use Rattle.epoch_line.specs.Line.{cut_end}
use Rattle.copy_task.specs.Copying.{Copied, IsCopied}
use Rattle.segment_meta.specs.declared.note.Note.{Note}
use Rattle.segment_meta.specs.declared.note.Entry.{Entry}
use Rattle.plain_log.specs.declared.state.State.{State as Plain}
use Rattle.plain_log.specs.declared.state.Broker.{Broker}
use Rattle.plain_log.specs.declared.command.Config.{Config}
use Rattle.plain_log.specs.declared.command.Order.{Order}
use Rattle.plain_log.specs.declared.journal.JournalEntry.{JournalEntry}
use Rattle.plain_log.specs.declared.state.Role.TheVariants.{Leads}
use Rattle.plain_log.specs.Step.{step}
use Rattle.plain_log.specs.Safe.{PlainSafe}
use Rattle.plain_log.specs.Fresh.{fresh}
use Rattle.remote_view.specs.Fold.{entry_of, fold}
use Rattle.tier_safe.specs.Scene.{BrokerTierView, Scene}
use Rattle.tier_safe.specs.Changes.{Change, effects}
use Rattle.tier_safe.specs.Lineage.{IsStoredWhole, IsSource}
use Rattle.tier_safe.specs.May.{Mays, IsChanged}
use Rattle.tier_safe.specs.Safe.{BothSafe}
use Rattle.tier_safe.specs.Fresh.{IsFreshScene}
use Rattle.tier_safe.specs.Kept.{IsKeptAt}

-- changes keep the rules
abbrev pub ChangesKeepSafe : Type 0
ChangesKeepSafe = (changes : List Change) (c : Scene) (p q : Plain) → Mays changes c p q → BothSafe c p
    → BothSafe (effects changes c) q

-- so does a turn that is answered: changes, and then a step of the plain log that changes no broker
abbrev pub AnswersKeepSafe : Type 0
AnswersKeepSafe = (c d : Scene) (p q : Plain) (order : Order) (entry : JournalEntry) → IsChanged c p d
    → step p order entry ≡ Some q → q.brokers ≡ p.brokers → BothSafe c p → BothSafe d q

-- a closed segment of a leader's log, with the log's epochs up to its end, may be copied
abbrev pub SegmentsAreSources : Type 0
SegmentsAreSources =
    (p : Plain) (b : ℕ) (x : Broker) (e : ℕ) (copy : Copied) (is : IsCopied copy) (front rest : List (List ℕ))
    → PlainSafe p → slice_get p.brokers b ≡ Some x → x.role ≡ Leads e → (front ++ is.batches) ++ rest ≡ x.log
    → end_of front ≡ copy.segment.base → cut_end copy.line (end_of (front ++ is.batches))
    ≡ line_of (front ++ is.batches)
    → IsSource p.paths copy

-- the rules hold where nothing has happened yet
abbrev pub FreshIsSafe : Type 0
FreshIsSafe =
    (config : Config) (actor_states : ℕ) (c : Scene) → 1 ≤ config.brokers → IsFreshScene config.brokers actor_states c
    → BothSafe c (fresh config)

-- what a broker's local log lacks, from the log start offset on, is kept
abbrev pub DroppedIsKept : Type 0
DroppedIsKept = (b : ℕ) (tier_view : BrokerTierView) (x : Broker) (o : ℕ) (c : Scene) (p : Plain) → BothSafe c p
    → slice_get c.tier_views b ≡ Some tier_view → slice_get p.brokers b ≡ Some x → p.registry.start ≤ o
    → o < tier_view.start
    → IsKeptAt c p x.log o

-- what was finished once, after the first so many metadata events, is finished and exists, unless it ends below the log
-- start offset
abbrev pub FinishedIsKept : Type 0
FinishedIsKept = (c : Scene) (p : Plain) (before : List Note) (id : SegmentId) (then : Entry) → BothSafe c p
    → IsPrefix before c.notes → entry_of id (fold before) ≡ Some then → then.state ≡ CopyFinished
    → p.registry.start ≤ then.end
    → (now : Entry) × (entry_of id (fold c.notes) ≡ Some now) × (now.state ≡ CopyFinished)
    × IsStoredWhole c.objects p.paths now
