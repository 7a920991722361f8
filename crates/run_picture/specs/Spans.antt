-- What is drawn of a local log: batches of one leader epoch, flushed or not.
use Rattle.std.specs.Prelude.{◌≡◌, ◌≤◌, ◌<◌, true, false}
use Rattle.run_story.specs.declared.log_state.LogState.{LogState}
use Rattle.run_picture.specs.declared.spans.Span.{Span}

-- offsets of the local log, all of them below the flushed end or none
pub record IsSpanOf (log : LogState) (span : Span) : Type 0 where
  pub some : span.start < span.end
  pub local_start : log.local_start ≤ span.start
  pub end : span.end ≤ log.end
  pub flushed : span.is_flushed ≡ true → span.end ≤ log.flushed_end
  pub unflushed : span.is_flushed ≡ false → log.flushed_end ≤ span.start
