use Rattle.std.proofs.Common.{◌≡◌, ◌∙◌, ◌≤◌, false, sym, ap, subst}
use Rattle.local_log.specs.Log.{Log}
use Rattle.local_log.specs.Stored.{end_of}
use Rattle.local_log.specs.Cutting.{cut_point}
use Rattle.local_log.proofs.Shortened.{short_are}
use Rattle.local_log.proofs.log.LocalLog.listing_cut.Goals as goal

pub listing_to-requires-clause-segments : goal.listing_to-requires-clause-segments
listing_to-requires-clause-segments g c =
    let s = c.self.inside in
    let n = c.args.end in
    let d = g.D.Disk.content s.disk in
    let unbroken : s.broken ≡ false = ap (λ (l : Log g.row.D.Denot). l.broken) c.self.view_is ∙ c.requires.unbroken in
    let has = c.self.invariant.has unbroken in
    let from : s.local_start ≤ n = subst (λ (l : Log g.row.D.Denot). l.local_start ≤ n) (sym c.self.view_is) c.requires.from in
    let within : n ≤ end_of s.active = subst (λ (l : Log g.row.D.Denot). n ≤ l.end) (sym c.self.view_is) c.requires.within in
    let exact : cut_point n s.closed.items s.active ≡ n = subst (λ (l : Log g.row.D.Denot). cut_point n l.closed l.active ≡ n) (sym c.self.view_is) c.requires.exact in
    rw c.deref.ensures.value (short_are d s.incarnation s.local_start s.closed.items s.active s.line s.flushed_end has c.self.invariant.segments c.self.invariant.line n from exact within)
