use Rattle.local_log.specs.Listing.{front_to}
use Rattle.local_log.specs.Cutting.{closed_by, open_by}
use Rattle.local_log.proofs.Listed.{rules_of}
use Rattle.local_log.proofs.trimming.listing_to.Goals as goal

pub encode-requires : goal.encode-requires
encode-requires c =
    rw (c.in_ok-extents_to.ensures, c.in_ok-copy.ensures)
    (rules_of c.args.incarnation c.args.local_start (closed_by c.args.end c.args.closed.now) (front_to c.args.end (open_by c.args.end c.args.closed.now c.args.active.now)) c.args.line.now c.requires.opened c.requires.segments c.requires.line)
