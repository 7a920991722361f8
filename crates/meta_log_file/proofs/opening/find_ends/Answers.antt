use Rattle.std.proofs.Common.{subst, ℕ, List, take}
use Rattle.tier_base.specs.declared.plain.FileName.TheVariants as file
use Rattle.tier_base.specs.Told.{bytes_in}
use Rattle.meta_log_file.specs.Reading.{BreakAt}
use Rattle.meta_log_file.proofs.Fates.{if_ok, if_err}
use Rattle.meta_log_file.proofs.Spans.{front_bytes}
use Rattle.meta_log_file.proofs.Confirmed.{ends_read}
use Rattle.meta_log_file.proofs.opening.find_ends.Goals as goal

pub returns-clause-ends : goal.returns-clause-ends
returns-clause-ends g c =
    let d = g.D.Disk.content c.args.disk.now in
    let gate = c.args.gate in
    let part = c.in_ok-file.file in
    if_ok c.ends_of_file.result _ _ (λ ends e. ends_read d gate ends.items (take gate (bytes_in part)) e (λ is_observable. front_bytes gate (d.files file.Notes) part (c.in_ok-file.ensures.bytes is_observable))) c.ends_of_file.ensures.ends

pub returns-clause-sound : goal.returns-clause-sound
returns-clause-sound g c =
    let d = g.D.Disk.content c.args.disk.now in
    let gate = c.args.gate in
    let part = c.in_ok-file.file in
    if_err c.ends_of_file.result _ _ (λ why broken at is is_observable. subst (λ (b : List ℕ). BreakAt gate b at) (front_bytes gate (d.files file.Notes) part (c.in_ok-file.ensures.bytes is_observable)) (broken at is)) c.ends_of_file.ensures.damaged
