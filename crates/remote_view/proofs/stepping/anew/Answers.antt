use Rattle.std.proofs.Common.{◌∙◌, sym}
use Rattle.remote_view.specs.Storing.{stair_on}
use Rattle.remote_view.proofs.Keeping.{kept_found, finishing, finish_right, gone_right, if_ok}
use Rattle.remote_view.proofs.stepping.anew.Goals as goal

pub lay_in-requires-clause-kept : goal.lay_in-requires-clause-kept
lay_in-requires-clause-kept c = kept_found c.args.entry.now.id c.args.known.now c.args.entry.now c.requires.kept c.requires.here

pub returns-in_ok-stair : goal.returns-in_ok-stair
returns-in_ok-stair c =
    let into = sym c.is_readable.ensures ∙ c.if-is_readable.true in
    if_ok c.lay_in.result c.lay_in.ensures (λ laid h broker event_ts custom.
    finish_right broker event_ts c.args.state custom c.args.known.now c.args.entry.now c.args.epoch (stair_on c.args.stairs.now c.args.epoch) laid c.requires.distinct c.requires.kept c.requires.here
    (finishing c.args.entry.now.state c.args.state c.requires.step into) into c.requires.stair
    (rw c.in_ok-stair.ensures at h))

pub returns-else-is_readable : goal.returns-else-is_readable
returns-else-is_readable c =
    let out = sym c.is_readable.ensures ∙ c.if-is_readable.false in
    if_ok c.bared.result c.bared.ensures (λ laid h broker event_ts custom.
    gone_right broker event_ts c.args.state custom c.args.known.now c.args.entry.now.id c.args.epoch laid c.requires.distinct out h)
