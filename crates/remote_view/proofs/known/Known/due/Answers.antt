use Rattle.std.proofs.Common.{◌∙◌, ap}
use Rattle.remote_view.specs.Lookup.{due}
use Rattle.remote_view.proofs.Gone.{gone_within, due_behind}
use Rattle.remote_view.proofs.known.Known.due.Goals as goal

pub split_at-requires : goal.split_at-requires
split_at-requires c = rw c.as_slice.ensures.value (gone_within c.self.inside.gone c.self.inside.entries.items c.self.invariant.begins)

pub returns : goal.returns
returns c =
    rw (← c.self.view_is)
    (c.due_in.ensures ∙ (ap (due c.args.start) c.split_at.ensures.back ∙ (rw c.as_slice.ensures.value (due_behind c.args.start c.self.inside.gone c.self.inside.entries.items c.self.invariant.begins))))
