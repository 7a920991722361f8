use Rattle.std.proofs.Common.{◌≡◌, ◌∙◌, false, ap, arith}
use Rattle.disk_model.specs.Content.{Lawful}
use Rattle.segment_file.proofs.Laying.{end_up}
use Rattle.local_log.specs.Log.{Log}
use Rattle.local_log.specs.Stored.{end_of}
use Rattle.local_log.proofs.Having.{start_since}
use Rattle.local_log.proofs.Heads.{first_of, first_last, first_len, short_batch}
use Rattle.local_log.proofs.Retold.{start_opens}
use Rattle.local_log.proofs.log.LocalLog.append.Goals as goal

pub first_asked-first-requires : goal.first_asked-first-requires
first_asked-first-requires g c =
    let s = c.self.inside in
    let end_is : end_of s.active ≡ c.args.self.now.end = ap (λ (l : Log g.row.D.Denot). l.end) c.self.view_is in
    (c.args.self.now.end, c.args.self.now.line, omega (arith, end_is, c.self.invariant.segments.low), c.requires.run)

pub rolls_before-requires-clause-from_base : goal.rolls_before-requires-clause-from_base
rolls_before-requires-clause-from_base g c =
    let s = c.self.inside in
    let end_is : end_of s.active ≡ c.args.self.now.end = ap (λ (l : Log g.row.D.Denot). l.end) c.self.view_is in
    let f = first_of c.args.self.now.end c.args.self.now.line c.args.run.now c.requires.run in
    let last = first_last c.args.self.now.end c.args.run.now f in
    let up = end_up s.active.base 0 s.active.batches c.self.invariant.segments.active_laid.laid in
    omega (arith, c.base-base.ensures, c.first_asked-first.ensures.last, last, f.base, end_is, up)

pub rolls_before-requires-clause-small : goal.rolls_before-requires-clause-small
rolls_before-requires-clause-small g c =
    let s = c.self.inside in
    let f = first_of c.args.self.now.end c.args.self.now.line c.args.run.now c.requires.run in
    let len = first_len c.args.self.now.end c.args.run.now f in
    let short = (short_batch f.batch f.ok).0 in
    let small = c.self.invariant.segments.active_laid.small in
    omega (arith, c.size-size.ensures, c.first_asked-first.ensures.size, len, short, small)

pub returns-then-first-ge-OFFSET_LIMIT-clause-any_moment : goal.returns-then-first-ge-OFFSET_LIMIT-clause-any_moment
returns-then-first-ge-OFFSET_LIMIT-clause-any_moment g c =
    let s = c.self.inside in
    let d = g.D.Disk.content s.disk in
    let laws : Lawful d = g.met.D.Disk.lawful s.disk in
    let unbroken : s.broken ≡ false = ap (λ (l : Log g.row.D.Denot). l.broken) c.self.view_is ∙ c.requires.unbroken in
    rw (← c.self.view_is) (start_since d laws s.incarnation s.local_start s.closed.items s.active s.line s.flushed_end (c.self.invariant.has unbroken))

pub returns-then-first-ge-OFFSET_LIMIT-clause-opens : goal.returns-then-first-ge-OFFSET_LIMIT-clause-opens
returns-then-first-ge-OFFSET_LIMIT-clause-opens g c =
    let s = c.self.inside in
    let d = g.D.Disk.content s.disk in
    let laws : Lawful d = g.met.D.Disk.lawful s.disk in
    let unbroken : s.broken ≡ false = ap (λ (l : Log g.row.D.Denot). l.broken) c.self.view_is ∙ c.requires.unbroken in
    rw (← c.self.view_is) (start_opens d)

pub returns-then-len-ge-MOST_SEGMENTS-clause-any_moment : goal.returns-then-len-ge-MOST_SEGMENTS-clause-any_moment
returns-then-len-ge-MOST_SEGMENTS-clause-any_moment g c =
    let s = c.self.inside in
    let d = g.D.Disk.content s.disk in
    let laws : Lawful d = g.met.D.Disk.lawful s.disk in
    let unbroken : s.broken ≡ false = ap (λ (l : Log g.row.D.Denot). l.broken) c.self.view_is ∙ c.requires.unbroken in
    rw (← c.self.view_is) (start_since d laws s.incarnation s.local_start s.closed.items s.active s.line s.flushed_end (c.self.invariant.has unbroken))

pub returns-then-len-ge-MOST_SEGMENTS-clause-opens : goal.returns-then-len-ge-MOST_SEGMENTS-clause-opens
returns-then-len-ge-MOST_SEGMENTS-clause-opens g c =
    let s = c.self.inside in
    let d = g.D.Disk.content s.disk in
    let laws : Lawful d = g.met.D.Disk.lawful s.disk in
    let unbroken : s.broken ≡ false = ap (λ (l : Log g.row.D.Denot). l.broken) c.self.view_is ∙ c.requires.unbroken in
    rw (← c.self.view_is) (start_opens d)
