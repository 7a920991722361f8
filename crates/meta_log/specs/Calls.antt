-- A call of a metadata log that ended so.
use Rattle.tier_base.specs.Device.{Control, RanQuietly, MayBeDone, Fate}
use Rattle.segment_meta.specs.declared.note.Note.{Note}
use Rattle.meta_log.specs.declared.call.MetaCall.TheVariants.{Append}
use Rattle.meta_log.specs.Call.{call_code}
use Rattle.meta_log.specs.Content.{Content, AppendsNote}

module _ {M : Type 0} (notes : M → Content) (calls : M → Control call_code) where
  -- an event was appended
  pub record AppendsToMetaLog (note : Note) (fate : Fate) (old new : M) : Type 0 where
    pub control : RanQuietly Append fate (calls old) (calls new)
    pub content : AppendsNote note (MayBeDone Append fate (calls old)) (notes old) (notes new)
