use Rattle.std.proofs.Common.{◌∙◌, sym}
use Rattle.remote_view.proofs.Changes.{viewed_add, viewed_either, not_there}
use Rattle.remote_view.proofs.Spreading.{spread_either}
use Rattle.remote_view.proofs.view.View.add.Goals as goal

pub invariant_of-self : goal.invariant_of-self
invariant_of-self c =
    let es = c.self.inside.known in
    let new = c.args.entry in
    let none = not_there c.get.result _ c.get.ensures (sym c.is_some.ensures ∙ c.if-is_some.false) in (
      viewed_either es c.add.new.self c.self.inside.stairs new c.add.result c.add.ensures.ok c.add.ensures.err c.self.invariant.0
          (viewed_add es c.self.inside.stairs new c.self.invariant.0 c.requires c.has_id.ensures none),
      spread_either c.self.inside.spread es c.add.new.self new c.add.result c.add.ensures.ok c.add.ensures.err c.requires c.self.invariant.1,
    )
