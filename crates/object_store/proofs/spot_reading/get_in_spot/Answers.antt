use Rattle.std.proofs.Common.{ap, ◌∙◌, unwrap_or}
use Rattle.object_store.proofs.Pieces.{piece_given}
use Rattle.object_store.proofs.spot_reading.get_in_spot.Goals as goal

pub returns : goal.returns
returns g c =
    let spot = c.args.spot.now in
    record {
      control = c.get_part.ensures.control;
      last_read = c.get_part.ensures.last_read;
      content = c.get_part.ensures.content;
      bytes = λ is_observable. piece_given spot c.args.from c.args.most c.unwrap_or.result c.get_part.result _ (c.unwrap_or.ensures ∙ ap (λ o. unwrap_or o c.args.most) c.owed.ensures) (c.get_part.ensures.bytes is_observable);
    }
