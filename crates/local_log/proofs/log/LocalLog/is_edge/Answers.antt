use Rattle.std.proofs.Common.{◌≡◌, ◌∙◌, ◌≤◌, false, List, sym, ap, subst, eq-eqb, IsTrue}
use Rattle.std.specs.Prelude.{unwrap_or}
use Rattle.segment_file.specs.Growing.{Grown}
use Rattle.local_log.specs.Log.{Log}
use Rattle.local_log.specs.Reading.{first_past, begin_of, is_edge, IsEdge}
use Rattle.local_log.proofs.Edges.{holder, edge_is}
use Rattle.local_log.proofs.RunsTold.{edge_told}
use Rattle.local_log.proofs.log.LocalLog.is_edge.Goals as goal

pub returns-clause-told : goal.returns-clause-told
returns-clause-told g c whole there start =
    let s = c.self.inside in
    let content = g.D.Disk.content in
    let n = c.args.offset in
    let unbroken : s.broken ≡ false = ap (λ (l : Log g.row.D.Denot). l.broken) c.self.view_is ∙ whole in
    let t : IsTrue (content s.disk).is_observable = subst (λ (l : Log g.row.D.Denot). IsTrue (content l.disk).is_observable) (sym c.self.view_is) there in
    let from : s.local_start ≤ n = subst (λ (l : Log g.row.D.Denot). l.local_start ≤ n) (sym c.self.view_is) start in
    let x = holder n s.closed.items s.active in
    let is : c.is_edge.result ≡ is_edge x n =
    c.is_edge.ensures ∙ ap (λ (y : Grown). is_edge y n) (c.segment_at-segment.ensures ∙ ap (λ (l : List Grown). unwrap_or (first_past n l) s.active) c.as_slice.ensures.value) in
    let ends = edge_told content s c.self.invariant unbroken t n from in (
      λ yes. subst (λ (l : Log g.row.D.Denot). IsEdge l n) c.self.view_is (ends ∙ edge_is x n (sym is ∙ yes)),
      λ edge. is ∙ eq-eqb (begin_of x n) n (sym ends ∙ subst (λ (l : Log g.row.D.Denot). IsEdge l n) (sym c.self.view_is) edge),
    )
