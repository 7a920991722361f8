use Rattle.std.proofs.Common.{◌≡◌, ◌∙◌, ℕ, List, false, Some, sym, ap, subst, arith, IsTrue, take, option_map}
use Rattle.tier_base.specs.declared.plain.FileName.TheVariants as file
use Rattle.tier_base.specs.Told.{bytes_in}
use Rattle.disk_model.specs.Content.{Lawful, part_of}
use Rattle.segment_file.specs.Growing.{Grown}
use Rattle.local_log.specs.Log.{Log}
use Rattle.local_log.specs.Stored.{bytes_of, size_of}
use Rattle.local_log.specs.Reading.{first_past, IsSegmentFront, FrontFails, IsPartOf, IsOfDevice}
use Rattle.local_log.proofs.Having.{start_since}
use Rattle.local_log.proofs.RunsTold.{part_bytes, err_on}
use Rattle.local_log.proofs.ClosedTold.{holder_low, found_some, found_holder, front_told, part_told}
use Rattle.local_log.proofs.log.LocalLog.closed_from.Goals as goal

pub returns-in_default-clause-any_moment : goal.returns-in_default-clause-any_moment
returns-in_default-clause-any_moment g c =
    let s = c.self.inside in
    let d = g.D.Disk.content s.disk in
    let laws : Lawful d = g.met.D.Disk.lawful s.disk in
    let unbroken : s.broken ≡ false = ap (λ (l : Log g.row.D.Denot). l.broken) c.self.view_is ∙ c.requires in
    rw (← c.self.view_is) (start_since d laws s.incarnation s.local_start s.closed.items s.active s.line s.flushed_end (c.self.invariant.has unbroken))

pub closed_in-requires-clause-base : goal.closed_in-requires-clause-base
closed_in-requires-clause-base g c =
    let s = c.self.inside in
    let content = g.D.Disk.content in
    let are = c.self.invariant.segments in
    let found : first_past c.args.offset s.closed.items ≡ Some c.in-Some.segment.now =
    sym (ap (first_past c.args.offset) c.as_slice.ensures.value) ∙ sym c.first_past.ensures ∙ ap (λ o. option_map (λ x. x.now) o) c.in-Some.is in
    let low = (holder_low s.local_start c.args.offset s.closed.items s.active are.chained are.laid are.active_laid).1 in
    let base = ap (λ (x : Grown). x.base) (found_holder c.args.offset s.closed.items s.active c.in-Some.segment.now found) in
    omega (arith, low, base, are.low, c.base-base.ensures)

pub closed_in-requires-clause-some : goal.closed_in-requires-clause-some
closed_in-requires-clause-some g c =
    let s = c.self.inside in
    let content = g.D.Disk.content in
    let are = c.self.invariant.segments in
    let found : first_past c.args.offset s.closed.items ≡ Some c.in-Some.segment.now =
    sym (ap (first_past c.args.offset) c.as_slice.ensures.value) ∙ sym c.first_past.ensures ∙ ap (λ o. option_map (λ x. x.now) o) c.in-Some.is in
    let some = found_some c.args.offset s.closed.items c.in-Some.segment.now found are.some in
    omega (arith, some, c.size-size.ensures)

pub returns-in_err-closed-clause-whole : goal.returns-in_err-closed-clause-whole
returns-in_err-closed-clause-whole g c =
    err_on _ _ c.from_residual-in_err-closed.result (λ e is there. (
    let s = c.self.inside in
    let content = g.D.Disk.content in
    let are = c.self.invariant.segments in
    let found : first_past c.args.offset s.closed.items ≡ Some c.in-Some.segment.now =
    sym (ap (first_past c.args.offset) c.as_slice.ensures.value) ∙ sym c.first_past.ensures ∙ ap (λ o. option_map (λ x. x.now) o) c.in-Some.is in
    let unbroken : s.broken ≡ false = ap (λ (l : Log g.row.D.Denot). l.broken) c.self.view_is ∙ c.requires in
    let t : IsTrue (content s.disk).is_observable = subst (λ (l : Log g.row.D.Denot). IsTrue (content l.disk).is_observable) (sym c.self.view_is) there in
    let file_is = subst (λ (l : Log g.row.D.Denot). c.in_ok-part.part ≡ option_map (part_of 0 c.size-size.result) ((content l.disk).files (file.Log c.base-base.result))) (sym c.self.view_is) (c.in_ok-part.ensures.file there) in
    let same : bytes_in c.in_ok-part.part ≡ take (size_of c.in-Some.segment.now) (bytes_of (content s.disk).files c.in-Some.segment.now) =
    ap bytes_in file_is ∙ part_bytes 0 c.size-size.result ((content s.disk).files (file.Log c.base-base.result))
    ∙ ap (λ (b : ℕ). take c.size-size.result (bytes_in ((content s.disk).files (file.Log b)))) c.base-base.ensures
    ∙ ap (λ (n : ℕ). take n (bytes_of (content s.disk).files c.in-Some.segment.now)) c.size-size.ensures in
    let line_is : c.self-2.inside.line ≡ s.line =
    ap (λ (l : Log g.row.D.Denot). l.line) (c.self-2.view_is ∙ c.read_part.ensures.log.fields) ∙ sym (ap (λ (l : Log g.row.D.Denot). l.line) c.self.view_is) in
    let fails = subst (λ (l : List (ℕ × ℕ)). FrontFails l c.base-base.result c.size-size.result (bytes_in c.in_ok-part.part) c.in_err-closed.field-0.0) line_is c.in_err-closed.ensures.err in
    let why = front_told content s c.self.invariant unbroken t c.args.offset c.in-Some.segment.now found c.base-base.result c.size-size.result (bytes_in c.in_ok-part.part) c.in_err-closed.field-0.0 c.base-base.ensures c.size-size.ensures same fails in
    subst IsOfDevice (sym is) why
    )) c.from_residual-in_err-closed.ensures.1

pub returns-clause-part : goal.returns-clause-part
returns-clause-part g c there =
    let s = c.self.inside in
    let content = g.D.Disk.content in
    let are = c.self.invariant.segments in
    let found : first_past c.args.offset s.closed.items ≡ Some c.in-Some.segment.now =
    sym (ap (first_past c.args.offset) c.as_slice.ensures.value) ∙ sym c.first_past.ensures ∙ ap (λ o. option_map (λ x. x.now) o) c.in-Some.is in
    let unbroken : s.broken ≡ false = ap (λ (l : Log g.row.D.Denot). l.broken) c.self.view_is ∙ c.requires in
    let t : IsTrue (content s.disk).is_observable = subst (λ (l : Log g.row.D.Denot). IsTrue (content l.disk).is_observable) (sym c.self.view_is) there in
    let file_is = subst (λ (l : Log g.row.D.Denot). c.in_ok-part.part ≡ option_map (part_of 0 c.size-size.result) ((content l.disk).files (file.Log c.base-base.result))) (sym c.self.view_is) (c.in_ok-part.ensures.file there) in
    let same : bytes_in c.in_ok-part.part ≡ take (size_of c.in-Some.segment.now) (bytes_of (content s.disk).files c.in-Some.segment.now) =
    ap bytes_in file_is ∙ part_bytes 0 c.size-size.result ((content s.disk).files (file.Log c.base-base.result))
    ∙ ap (λ (b : ℕ). take c.size-size.result (bytes_in ((content s.disk).files (file.Log b)))) c.base-base.ensures
    ∙ ap (λ (n : ℕ). take n (bytes_of (content s.disk).files c.in-Some.segment.now)) c.size-size.ensures in
    let line_is : c.self-2.inside.line ≡ s.line =
    ap (λ (l : Log g.row.D.Denot). l.line) (c.self-2.view_is ∙ c.read_part.ensures.log.fields) ∙ sym (ap (λ (l : Log g.row.D.Denot). l.line) c.self.view_is) in
    let lined = subst (λ (l : List (ℕ × ℕ)). IsSegmentFront l c.base-base.result c.size-size.result (bytes_in c.in_ok-part.part) c.in_ok-closed.closed) line_is c.in_ok-closed.ensures.ok in
    let front = subst (λ (n : ℕ). IsSegmentFront s.line n (size_of c.in-Some.segment.now) (bytes_in c.in_ok-part.part) c.in_ok-closed.closed) c.base-base.ensures
    (subst (λ (n : ℕ). IsSegmentFront s.line c.base-base.result n (bytes_in c.in_ok-part.part) c.in_ok-closed.closed) c.size-size.ensures lined) in
    subst (λ (l : Log g.row.D.Denot). IsPartOf l c.in_ok-closed.closed) c.self.view_is
    (part_told content s c.self.invariant unbroken t c.args.offset c.in-Some.segment.now found (bytes_in c.in_ok-part.part) c.in_ok-closed.closed same front)
