use Rattle.std.proofs.Common.{◌≡◌, ◌∙◌, ◌+◌, ◌≤◌, ℕ, false, List, [], ◌∷◌, sym, ap, subst, arith, eq-eqb, IsTrue, min, option_map}
use Rattle.std.specs.Prelude.{unwrap_or}
use Rattle.tier_base.specs.declared.plain.FileName.TheVariants as file
use Rattle.tier_base.specs.Told.{bytes_in}
use Rattle.disk_model.specs.Content.{Lawful, part_of}
use Rattle.segment_file.specs.Growing.{Grown}
use Rattle.segment_file.specs.Reach.{reach_at}
use Rattle.log_steps.proofs.Lists.{each_join}
use Rattle.local_log.specs.Log.{Log}
use Rattle.local_log.specs.Listing.{IsLaidOut}
use Rattle.local_log.specs.Reading.{first_past, begin_of, position_of, piece_end, IsEdge, IsCutOut, IsRunOf, CutFails}
use Rattle.local_log.proofs.Having.{start_since}
use Rattle.local_log.proofs.Edges.{holder, holder_each}
use Rattle.local_log.proofs.RunsTold.{ok_more, err_more, part_bytes, piece_past, edge_told, fails_told, run_told}
use Rattle.local_log.proofs.log.LocalLog.read_run.Goals as goal

pub returns-then-end-mark-clause-any_moment : goal.returns-then-end-mark-clause-any_moment
returns-then-end-mark-clause-any_moment g c =
    let s = c.self.inside in
    let d = g.D.Disk.content s.disk in
    let laws : Lawful d = g.met.D.Disk.lawful s.disk in
    let unbroken : s.broken ≡ false = ap (λ (l : Log g.row.D.Denot). l.broken) c.self.view_is ∙ c.requires.unbroken in
    rw (← c.self.view_is) (start_since d laws s.incarnation s.local_start s.closed.items s.active s.line s.flushed_end (c.self.invariant.has unbroken))

pub returns-then-end-mark-clause-whole : goal.returns-then-end-mark-clause-whole
returns-then-end-mark-clause-whole g c there edge =
    let s = c.self.inside in
    let content = g.D.Disk.content in
    let are = c.self.invariant.segments in
    let marked_is : c.segment_at-marked.result.now ≡ holder c.args.mark s.closed.items s.active =
    c.segment_at-marked.ensures ∙ ap (λ (l : List Grown). unwrap_or (first_past c.args.mark l) s.active) c.as_slice.ensures.value in
    let unbroken : s.broken ≡ false = ap (λ (l : Log g.row.D.Denot). l.broken) c.self.view_is ∙ c.requires.unbroken in
    let start : s.local_start ≤ c.args.offset = subst (λ (l : Log g.row.D.Denot). l.local_start ≤ c.args.offset) (sym c.self.view_is) c.requires.start in
    let t : IsTrue (content s.disk).is_observable = subst (λ (l : Log g.row.D.Denot). IsTrue (content l.disk).is_observable) (sym c.self.view_is) there in
    let on = subst (λ (l : Log g.row.D.Denot). IsEdge l c.args.mark) (sym c.self.view_is) edge in
    let is = edge_told content s c.self.invariant unbroken t c.args.mark (omega (arith, start, c.requires.below)) in
    let same : c.place_of-end.result.0 ≡ c.args.mark = c.place_of-end.ensures.offset ∙ ap (λ (x : Grown). begin_of x c.args.mark) marked_is ∙ sym is ∙ on in
    absurd (c.if-end-mark.true same)

pub piece_at-piece-requires-clause-laid : goal.piece_at-piece-requires-clause-laid
piece_at-piece-requires-clause-laid g c =
    let s = c.self.inside in
    let are = c.self.invariant.segments in
    let seg_is : c.segment_at-segment.result.now ≡ holder c.args.offset s.closed.items s.active =
    c.segment_at-segment.ensures ∙ ap (λ (l : List Grown). unwrap_or (first_past c.args.offset l) s.active) c.as_slice-2.ensures.value in
    subst IsLaidOut (sym seg_is) (holder_each IsLaidOut c.args.offset s.closed.items s.active (each_join IsLaidOut s.closed.items (s.active ∷ []) are.laid (are.active_laid, tt)))

pub run_in-requires-clause-inside : goal.run_in-requires-clause-inside
run_in-requires-clause-inside g c =
    let s = c.self.inside in
    let content = g.D.Disk.content in
    let are = c.self.invariant.segments in
    let marked_is : c.segment_at-marked.result.now ≡ holder c.args.mark s.closed.items s.active =
    c.segment_at-marked.ensures ∙ ap (λ (l : List Grown). unwrap_or (first_past c.args.mark l) s.active) c.as_slice.ensures.value in
    let begins : begin_of (holder c.args.mark s.closed.items s.active) c.args.mark ≡ c.args.mark =
    sym (c.place_of-end.ensures.offset ∙ ap (λ (x : Grown). begin_of x c.args.mark) marked_is) ∙ omega (arith, c.if-end-mark.false) in
    let edge = eq-eqb (begin_of (holder c.args.mark s.closed.items s.active) c.args.mark) c.args.mark begins in
    let seg_is : c.segment_at-segment.result.now ≡ holder c.args.offset s.closed.items s.active =
    c.segment_at-segment.ensures ∙ ap (λ (l : List Grown). unwrap_or (first_past c.args.offset l) s.active) c.as_slice-2.ensures.value in
    let end_is : c.piece_at-piece.result.end ≡ piece_end s.line (holder c.args.offset s.closed.items s.active) c.args.offset =
    c.piece_at-piece.ensures.end
    ∙ ap (λ (x : Grown). piece_end c.entries.result.now x c.args.offset) seg_is
    ∙ ap (λ (l : List (ℕ × ℕ)). piece_end l (holder c.args.offset s.closed.items s.active) c.args.offset) c.entries.ensures.entries in
    let past = (piece_past s.local_start s.closed.items s.active s.line c.args.offset c.args.mark are c.requires.below edge).above in
    omega (arith, end_is, past)

pub returns-clause-run : goal.returns-clause-run
returns-clause-run g c =
    let s = c.self.inside in
    let content = g.D.Disk.content in
    let are = c.self.invariant.segments in
    let marked_is : c.segment_at-marked.result.now ≡ holder c.args.mark s.closed.items s.active =
    c.segment_at-marked.ensures ∙ ap (λ (l : List Grown). unwrap_or (first_past c.args.mark l) s.active) c.as_slice.ensures.value in
    let begins : begin_of (holder c.args.mark s.closed.items s.active) c.args.mark ≡ c.args.mark =
    sym (c.place_of-end.ensures.offset ∙ ap (λ (x : Grown). begin_of x c.args.mark) marked_is) ∙ omega (arith, c.if-end-mark.false) in
    let edge = eq-eqb (begin_of (holder c.args.mark s.closed.items s.active) c.args.mark) c.args.mark begins in
    let seg_is : c.segment_at-segment.result.now ≡ holder c.args.offset s.closed.items s.active =
    c.segment_at-segment.ensures ∙ ap (λ (l : List Grown). unwrap_or (first_past c.args.offset l) s.active) c.as_slice-2.ensures.value in
    let end_is : c.piece_at-piece.result.end ≡ piece_end s.line (holder c.args.offset s.closed.items s.active) c.args.offset =
    c.piece_at-piece.ensures.end
    ∙ ap (λ (x : Grown). piece_end c.entries.result.now x c.args.offset) seg_is
    ∙ ap (λ (l : List (ℕ × ℕ)). piece_end l (holder c.args.offset s.closed.items s.active) c.args.offset) c.entries.ensures.entries in
    let unbroken : s.broken ≡ false = ap (λ (l : Log g.row.D.Denot). l.broken) c.self.view_is ∙ c.requires.unbroken in
    let start : s.local_start ≤ c.args.offset = subst (λ (l : Log g.row.D.Denot). l.local_start ≤ c.args.offset) (sym c.self.view_is) c.requires.start in
    let from = c.piece_at-piece.result.from in
    let most = c.piece_at-piece.result.most in
    let top = min (from + c.args.limit) 18446744073709551615 in
    let from_is : from ≡ position_of (holder c.args.offset s.closed.items s.active) c.args.offset = c.piece_at-piece.ensures.from ∙ ap (λ (x : Grown). position_of x c.args.offset) seg_is in
    let reach_is : from + most ≡ reach_at (min c.args.mark (piece_end s.line (holder c.args.offset s.closed.items s.active) c.args.offset)) top c.args.offset (holder c.args.offset s.closed.items s.active).batches =
    c.piece_at-piece.ensures.most
    ∙ ap (λ (n : ℕ). reach_at (min c.args.mark n) top c.args.offset c.segment_at-segment.result.now.batches) end_is
    ∙ ap (λ (x : Grown). reach_at (min c.args.mark (piece_end s.line (holder c.args.offset s.closed.items s.active) c.args.offset)) top c.args.offset x.batches) seg_is in
    let line_is : c.self-2.inside.line ≡ s.line =
    ap (λ (l : Log g.row.D.Denot). l.line) (c.self-2.view_is ∙ c.read_part.ensures.log.fields) ∙ sym (ap (λ (l : Log g.row.D.Denot). l.line) c.self.view_is) in
    ok_more _ _ c.run_in.result (λ out cut there. (
    let t : IsTrue (content s.disk).is_observable = subst (λ (l : Log g.row.D.Denot). IsTrue (content l.disk).is_observable) (sym c.self.view_is) there in
    let file_is = subst (λ (l : Log g.row.D.Denot). c.in_ok-part.part ≡ option_map (part_of from most) ((content l.disk).files (file.Log c.piece_at-piece.result.base))) (sym c.self.view_is) (c.in_ok-part.ensures.file there) in
    let bytes_are = ap bytes_in file_is ∙ part_bytes from most ((content s.disk).files (file.Log c.piece_at-piece.result.base)) ∙ ap (λ (b : ℕ). part_of from most (bytes_in ((content s.disk).files (file.Log b)))) (c.piece_at-piece.ensures.base ∙ ap (λ (x : Grown). x.base) seg_is) in
    let whole = subst (λ (l : List (ℕ × ℕ)). IsCutOut l (bytes_in c.in_ok-part.part) c.args.offset c.args.limit c.args.mark c.piece_at-piece.result.end out) line_is cut in
    let ended = subst (λ (n : ℕ). IsCutOut s.line (bytes_in c.in_ok-part.part) c.args.offset c.args.limit c.args.mark n out) end_is whole in
    subst (λ (l : Log g.row.D.Denot). IsRunOf l c.args.offset c.args.limit c.args.mark out) c.self.view_is
    (run_told content s c.self.invariant unbroken t c.args.offset c.args.limit c.args.mark from most start c.requires.below edge from_is reach_is (bytes_in c.in_ok-part.part) out bytes_are ended)
    )) c.run_in.ensures.ok

pub returns-clause-whole : goal.returns-clause-whole
returns-clause-whole g c =
    let s = c.self.inside in
    let content = g.D.Disk.content in
    let are = c.self.invariant.segments in
    let marked_is : c.segment_at-marked.result.now ≡ holder c.args.mark s.closed.items s.active =
    c.segment_at-marked.ensures ∙ ap (λ (l : List Grown). unwrap_or (first_past c.args.mark l) s.active) c.as_slice.ensures.value in
    let begins : begin_of (holder c.args.mark s.closed.items s.active) c.args.mark ≡ c.args.mark =
    sym (c.place_of-end.ensures.offset ∙ ap (λ (x : Grown). begin_of x c.args.mark) marked_is) ∙ omega (arith, c.if-end-mark.false) in
    let edge = eq-eqb (begin_of (holder c.args.mark s.closed.items s.active) c.args.mark) c.args.mark begins in
    let seg_is : c.segment_at-segment.result.now ≡ holder c.args.offset s.closed.items s.active =
    c.segment_at-segment.ensures ∙ ap (λ (l : List Grown). unwrap_or (first_past c.args.offset l) s.active) c.as_slice-2.ensures.value in
    let end_is : c.piece_at-piece.result.end ≡ piece_end s.line (holder c.args.offset s.closed.items s.active) c.args.offset =
    c.piece_at-piece.ensures.end
    ∙ ap (λ (x : Grown). piece_end c.entries.result.now x c.args.offset) seg_is
    ∙ ap (λ (l : List (ℕ × ℕ)). piece_end l (holder c.args.offset s.closed.items s.active) c.args.offset) c.entries.ensures.entries in
    let unbroken : s.broken ≡ false = ap (λ (l : Log g.row.D.Denot). l.broken) c.self.view_is ∙ c.requires.unbroken in
    let start : s.local_start ≤ c.args.offset = subst (λ (l : Log g.row.D.Denot). l.local_start ≤ c.args.offset) (sym c.self.view_is) c.requires.start in
    let from = c.piece_at-piece.result.from in
    let most = c.piece_at-piece.result.most in
    let top = min (from + c.args.limit) 18446744073709551615 in
    let from_is : from ≡ position_of (holder c.args.offset s.closed.items s.active) c.args.offset = c.piece_at-piece.ensures.from ∙ ap (λ (x : Grown). position_of x c.args.offset) seg_is in
    let reach_is : from + most ≡ reach_at (min c.args.mark (piece_end s.line (holder c.args.offset s.closed.items s.active) c.args.offset)) top c.args.offset (holder c.args.offset s.closed.items s.active).batches =
    c.piece_at-piece.ensures.most
    ∙ ap (λ (n : ℕ). reach_at (min c.args.mark n) top c.args.offset c.segment_at-segment.result.now.batches) end_is
    ∙ ap (λ (x : Grown). reach_at (min c.args.mark (piece_end s.line (holder c.args.offset s.closed.items s.active) c.args.offset)) top c.args.offset x.batches) seg_is in
    let line_is : c.self-2.inside.line ≡ s.line =
    ap (λ (l : Log g.row.D.Denot). l.line) (c.self-2.view_is ∙ c.read_part.ensures.log.fields) ∙ sym (ap (λ (l : Log g.row.D.Denot). l.line) c.self.view_is) in
    err_more _ _ c.run_in.result (λ e fails there at_edge. (
    let t : IsTrue (content s.disk).is_observable = subst (λ (l : Log g.row.D.Denot). IsTrue (content l.disk).is_observable) (sym c.self.view_is) there in
    let file_is = subst (λ (l : Log g.row.D.Denot). c.in_ok-part.part ≡ option_map (part_of from most) ((content l.disk).files (file.Log c.piece_at-piece.result.base))) (sym c.self.view_is) (c.in_ok-part.ensures.file there) in
    let bytes_are = ap bytes_in file_is ∙ part_bytes from most ((content s.disk).files (file.Log c.piece_at-piece.result.base)) ∙ ap (λ (b : ℕ). part_of from most (bytes_in ((content s.disk).files (file.Log b)))) (c.piece_at-piece.ensures.base ∙ ap (λ (x : Grown). x.base) seg_is) in
    let whole = subst (λ (l : List (ℕ × ℕ)). CutFails l c.piece_at-piece.result.base from (bytes_in c.in_ok-part.part) c.args.offset c.args.limit c.args.mark c.piece_at-piece.result.end e) line_is fails in
    let ended = subst (λ (n : ℕ). CutFails s.line c.piece_at-piece.result.base from (bytes_in c.in_ok-part.part) c.args.offset c.args.limit c.args.mark n e) end_is whole in
    fails_told content s c.self.invariant unbroken t c.args.offset c.args.limit c.args.mark from most start c.requires.below edge from_is reach_is c.piece_at-piece.result.base (bytes_in c.in_ok-part.part) e bytes_are ended
    )) c.run_in.ensures.err
