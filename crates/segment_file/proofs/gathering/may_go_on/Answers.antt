use Rattle.std.proofs.Common.{◌≡◌, ◌∙◌, sym, rules, arith}
use Rattle.std.specs.Int.{w32, w64, cast_unsigned}
use Rattle.std.proofs.lemmas.Bool.{ltb-true, lt-ltb}
use Rattle.segment_file.proofs.gathering.may_go_on.Goals as goal

pub returns : goal.returns
returns c =
    let head = c.args.head.now in
    let base : c.cast_unsigned.result ≡ cast_unsigned w64 head.base_offset = search rules in
    let delta : c.cast_unsigned-delta.result ≡ cast_unsigned w32 head.last_offset_delta = search rules in
    let epoch : c.cast_unsigned-epoch.result ≡ cast_unsigned w32 head.leader_epoch = search rules in
    let last = c.if-last-min.false in
    let min = c.min.ensures in
    let size = c.size_in.ensures in (
      λ t. record {
        begins = sym base ∙ c.if-cast_unsigned-front.false;
        near = omega (arith, last, min, delta);
        low = omega (arith, last, min, delta);
        epoch_rises = omega (arith, c.if-epoch-front.false, epoch);
        epoch_fits = omega (arith, c.if-epoch-ge-EPOCHS.false, epoch);
        small = (let l = ltb-true _ _ t in omega (arith, l, size));
      },
      λ m. lt-ltb _ _ (let s = m.small in omega (arith, s, size)),
    )
