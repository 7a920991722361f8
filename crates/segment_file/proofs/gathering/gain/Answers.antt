use Rattle.std.proofs.Common.{◌≡◌, ◌+◌, ◌∙◌, ap, rules, to_z, of_z, w32, w64}
use Rattle.std.specs.Int.{cast_unsigned}
use Rattle.segment_file.specs.Gathering.{later_ts, with_epoch}
use Rattle.segment_file.proofs.Gaining.{gathered_same}
use Rattle.segment_file.proofs.gathering.gain.Goals as goal

pub returns : goal.returns
returns c =
    let front = c.args.front.now in
    let head = c.args.head.now in
    let delta : c.cast_unsigned.result ≡ cast_unsigned w32 head.last_offset_delta = search rules in
    let epoch : c.cast_unsigned-epoch.result ≡ cast_unsigned w32 head.leader_epoch = search rules in
    let out : to_z w64 (of_z w64 c.later_ts-front.result) ≡ c.later_ts-front.result = search rules in
    let ts : to_z w64 (of_z w64 front.max_ts) ≡ front.max_ts = search rules in
    let own : to_z w64 (of_z w64 head.max_ts) ≡ head.max_ts = search rules in
    gathered_same _ _
    (ap (λ n. front.at + n) c.size_in.ensures)
    (ap (λ n. front.end + n + 1) delta)
    epoch
    (out ∙ (c.later_ts-front.ensures ∙ (ap (λ z. later_ts front.at z (to_z w64 (of_z w64 head.max_ts))) ts ∙ ap (later_ts front.at front.max_ts) own)))
    (c.in_ok-begin_epoch.ensures ∙ ap (λ n. with_epoch front.epochs n front.end) epoch)
