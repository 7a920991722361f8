-- What a round over the tiers of an environment reports.
use Rattle.std.specs.Prelude.{◌≡◌, ℕ, List}
use Rattle.tier_base.specs.declared.names.PartitionId.{PartitionId}
use Rattle.disk_model.specs.Content as disk
use Rattle.object_store.specs.Content as store
use Rattle.meta_log.specs.Content as log
use Rattle.device_yard.specs.YardContent.{YardContent}
use Rattle.tier_audit.specs.declared.verdict.Verdict.{Verdict}
use Rattle.yard_audit.specs.declared.auditing.Audited.{Audited}
use Rattle.yard_audit.specs.Lines.{verdict_text, swept_text, lines_of, first_unsound}
use Rattle.yard_audit.specs.Rounds.{AreAudited, AreSwept}

-- these verdicts are what is reported
pub record ReportsVerdicts (found : List (PartitionId × Verdict)) (told : Audited) : Type 0 where
  pub text_is : told.text.items ≡ lines_of verdict_text found
  pub unsound_is : told.unsound ≡ first_unsound found

module _ {D S M : Type 0} (files : D → disk.Content) (objects : S → store.Content) (notes : M → log.Content) where
  -- what an audit of each tier found is reported
  pub record TellsAudit (held : YardContent D S M) (told : Audited) : Type 0 where
    pub found : List (PartitionId × Verdict)
    pub are : AreAudited files objects notes held found
    pub is_observable : ReportsVerdicts found told

  -- what a sweep of each tier took away is reported
  pub record TellsSweep (old new : YardContent D S M) (text : List ℕ) : Type 0 where
    pub found : List (PartitionId × ℕ)
    pub are : AreSwept files objects notes old new found
    pub text_is : text ≡ lines_of swept_text found
