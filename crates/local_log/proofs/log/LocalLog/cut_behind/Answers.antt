use Rattle.std.proofs.Common.{◌≡◌, ◌∙◌, ◌≤◌, ℕ, List, [], ◌∷◌, ◌++◌, false, sym, ap, subst, arith, IsTrue}
use Rattle.std.proofs.lemmas.Result.{on_ok_weaker}
use Rattle.log_terms.specs.Log.{up_to, end_from}
use Rattle.segment_file.specs.Growing.{Grown}
use Rattle.local_log.specs.Stored.{all_batches, end_of}
use Rattle.local_log.specs.Log.{Log, LogBecomes}
use Rattle.local_log.specs.Cutting.{cut_point, cut, IsLeftUpTo}
use Rattle.local_log.proofs.CutPoints.{point_is, point_again, told_end, told_batches}
use Rattle.local_log.proofs.log.LocalLog.cut_behind.Goals as goal

pub cut_within-requires-clause-from : goal.cut_within-requires-clause-from
cut_within-requires-clause-from g c =
    let s = c.self.inside in
    let x = c.args.self.now in
    let end = c.args.end in
    let are = c.self.invariant.segments in
    let from : s.local_start ≤ end = subst (λ (l : Log g.row.D.Denot). l.local_start ≤ end) (sym c.self.view_is) c.requires.from in
    let within : end ≤ end_of s.active = subst (λ (l : Log g.row.D.Denot). end ≤ l.end) (sym c.self.view_is) c.requires.within in
    let is : c.end_by-point.result ≡ cut_point end s.closed.items s.active = c.end_by-point.ensures ∙ ap (λ (gs : List Grown). cut_point end gs s.active) c.deref.ensures.value in
    let point = point_is s.local_start end s.closed.items s.active are from in
    let up = point.from in
    subst (λ (l : Log g.row.D.Denot). l.local_start ≤ c.end_by-point.result) c.self.view_is (omega (arith, is, up))

pub cut_within-requires-clause-within : goal.cut_within-requires-clause-within
cut_within-requires-clause-within g c =
    let s = c.self.inside in
    let x = c.args.self.now in
    let end = c.args.end in
    let are = c.self.invariant.segments in
    let from : s.local_start ≤ end = subst (λ (l : Log g.row.D.Denot). l.local_start ≤ end) (sym c.self.view_is) c.requires.from in
    let within : end ≤ end_of s.active = subst (λ (l : Log g.row.D.Denot). end ≤ l.end) (sym c.self.view_is) c.requires.within in
    let is : c.end_by-point.result ≡ cut_point end s.closed.items s.active = c.end_by-point.ensures ∙ ap (λ (gs : List Grown). cut_point end gs s.active) c.deref.ensures.value in
    let point = point_is s.local_start end s.closed.items s.active are from in
    let low = point.below in
    subst (λ (l : Log g.row.D.Denot). c.end_by-point.result ≤ l.end) c.self.view_is (omega (arith, is, low, within))

pub cut_within-requires-clause-exact : goal.cut_within-requires-clause-exact
cut_within-requires-clause-exact g c =
    let s = c.self.inside in
    let x = c.args.self.now in
    let end = c.args.end in
    let are = c.self.invariant.segments in
    let from : s.local_start ≤ end = subst (λ (l : Log g.row.D.Denot). l.local_start ≤ end) (sym c.self.view_is) c.requires.from in
    let within : end ≤ end_of s.active = subst (λ (l : Log g.row.D.Denot). end ≤ l.end) (sym c.self.view_is) c.requires.within in
    let is : c.end_by-point.result ≡ cut_point end s.closed.items s.active = c.end_by-point.ensures ∙ ap (λ (gs : List Grown). cut_point end gs s.active) c.deref.ensures.value in
    let point = point_is s.local_start end s.closed.items s.active are from in
    let again = point_again s.local_start end s.closed.items s.active are from in
    subst (λ (l : Log g.row.D.Denot). cut_point c.end_by-point.result l.closed l.active ≡ c.end_by-point.result) c.self.view_is
    (subst (λ (n : ℕ). cut_point n s.closed.items s.active ≡ n) (sym is) again)

pub returns-clause-told : goal.returns-clause-told
returns-clause-told g c told =
    let s = c.self.inside in
    let x = c.args.self.now in
    let z = c.cut_within.new.self in
    let end = c.args.end in
    let are = c.self.invariant.segments in
    let content = g.D.Disk.content in
    let f = (content s.disk).files in
    let from : s.local_start ≤ end = subst (λ (l : Log g.row.D.Denot). l.local_start ≤ end) (sym c.self.view_is) c.requires.from in
    let unbroken : s.broken ≡ false = ap (λ (l : Log g.row.D.Denot). l.broken) c.self.view_is ∙ c.requires.unbroken in
    let t : IsTrue (content s.disk).is_observable = subst (λ (l : Log g.row.D.Denot). IsTrue (content l.disk).is_observable) (sym c.self.view_is) told in
    let is : c.end_by-point.result ≡ cut_point end s.closed.items s.active = c.end_by-point.ensures ∙ ap (λ (gs : List Grown). cut_point end gs s.active) c.deref.ensures.value in
    let stored = (c.self.invariant.has unbroken).stored t in
    let ends : end_from x.local_start (up_to end x.batches) ≡ c.end_by-point.result =
    subst (λ (l : Log g.row.D.Denot). end_from l.local_start (up_to end l.batches) ≡ c.end_by-point.result) c.self.view_is (told_end f s.line s.local_start end s.closed.items s.active are.chained stored from ∙ sym is) in
    let batches : up_to c.end_by-point.result x.batches ≡ up_to end x.batches =
    subst (λ (l : Log g.row.D.Denot). up_to c.end_by-point.result l.batches ≡ up_to end l.batches) c.self.view_is (ap (λ (n : ℕ). up_to n (all_batches f (s.closed.items ++ s.active ∷ []))) is ∙ told_batches f s.line s.local_start end s.closed.items s.active are.chained stored from) in
    on_ok_weaker {P = LogBecomes content (cut x c.end_by-point.result) z} {Q = IsLeftUpTo x end z} c.cut_within.result
    (λ h. record {
      batches_are = h.batches told ∙ batches;
      end_is = ap (λ (l : Log g.row.D.Denot). l.end) h.fields ∙ sym ends;
    })
    c.cut_within.ensures.ok
