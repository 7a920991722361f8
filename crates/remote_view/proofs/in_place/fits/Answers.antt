use Rattle.std.proofs.Common.{sym, ◌∙◌}
use Rattle.remote_view.proofs.Overlay.{fits_behind, negated}
use Rattle.remote_view.proofs.in_place.fits.Goals as goal

pub returns-then-last-from : goal.returns-then-last-from
returns-then-last-from c t =
    fits_behind c.args.stair.now c.in-Some.last.now c.args.from c.args.id.now c.requires (sym c.in-Some.ensures.value) c.if-last-from.true (sym c.is_same.ensures ∙ negated _ t)
