use Rattle.local_log.proofs.Listed.{rules_of}
use Rattle.local_log.proofs.listing.listing.Goals as goal

pub encode-requires : goal.encode-requires
encode-requires c =
    rw (c.in_ok-extents.ensures, c.in_ok-copy.ensures)
    (rules_of c.args.incarnation c.args.local_start c.args.closed.now c.args.active.now c.args.line.now c.requires.opened c.requires.segments c.requires.line)
