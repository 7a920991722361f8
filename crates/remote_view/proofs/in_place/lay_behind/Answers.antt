use Rattle.std.proofs.Common.{◌∙◌, sym}
use Rattle.remote_view.proofs.InPlace.{laid_behind}
use Rattle.remote_view.proofs.in_place.lay_behind.Goals as goal

pub returns-clause-ok : goal.returns-clause-ok
returns-clause-ok c = (
  sym c.is_readable.ensures ∙ c.if-not-is_readable.false,
  λ entries epoch.
      laid_behind entries c.args.entry.now c.in-Some.epoch c.in-Some.from c.args.stairs.now c.push.new.self c.requires.kept (sym c.entries.ensures.entries ∙ c.in-Some.ensures) c.requires.rises
      (rw c.stair.ensures at (c.fits.ensures c.if-not-fits.false)) c.in_ok-push.ensures.there c.in_ok-push.ensures.others epoch,
)
