use Rattle.std.specs.Prelude.{IfOk}
use Rattle.std.proofs.Common.{◌≡◌, ◌≤◌, ◌-◌, List, ℕ, length, ap, sym, subst, ◌∙◌, arith, take, drop}
use Rattle.disk_model.specs.declared.pieces.Chunk.{Chunk}
use Rattle.disk_model.specs.Pieces.{joined}
use Rattle.disk_model.proofs.Joined.{part-in, stands}
use Rattle.disk_model.proofs.pieces.Pieces.part.Goals as goal

pub overflow_sub-piece : goal.overflow_sub-piece
overflow_sub-piece c =
    let there = stands c.self.inside.items.items c.as_slice.result.now c.deref.result.now c.count_passed-passed.result c.args.at c.in-Some.piece.now c.in-Some.behind.now c.self.invariant.ends c.as_slice.ensures.value c.deref.ensures.value c.in-Some.ensures.cases.0 c.count_passed-passed.ensures.next in
    omega (arith, there.1.1)

pub read_in-requires : goal.read_in-requires
read_in-requires c =
    let items : List Chunk = c.self.inside.items.items in
    let i : ℕ = c.count_passed-passed.result in
    let there = stands items c.as_slice.result.now c.deref.result.now i c.args.at c.in-Some.piece.now c.in-Some.behind.now c.self.invariant.ends c.as_slice.ensures.value c.deref.ensures.value c.in-Some.ensures.cases.0 c.count_passed-passed.ensures.next in
    let passed : length (joined (take i items)) ≤ c.args.at = subst (λ (l : List Chunk). length (joined (take i l)) ≤ c.args.at) c.as_slice.ensures.value c.count_passed-passed.ensures.passed in
    omega (arith, there.1.0, passed)

pub returns-in-Some : goal.returns-in-Some
returns-in-Some c =
    let items : List Chunk = c.self.inside.items.items in
    let i : ℕ = c.count_passed-passed.result in
    let at : ℕ = c.args.at in
    let piece : Chunk = c.in-Some.piece.now in
    let there = stands items c.as_slice.result.now c.deref.result.now i at piece c.in-Some.behind.now c.self.invariant.ends c.as_slice.ensures.value c.deref.ensures.value c.in-Some.ensures.cases.0 c.count_passed-passed.ensures.next in
    let passed : length (joined (take i items)) ≤ at = subst (λ (l : List Chunk). length (joined (take i l)) ≤ at) c.as_slice.ensures.value c.count_passed-passed.ensures.passed in
    let is = part-in (take i items) c.in-Some.behind.now piece at (piece.end - at) c.args.most passed (omega (arith, there.1.0, there.1.1))
    ∙ ap (λ (xs : List Chunk). take c.args.most (drop at (joined xs))) (sym there.0)
    ∙ ap (λ (xs : List ℕ). take c.args.most (drop at xs)) c.self.view_is in
    subst (λ (rest : List ℕ). IfOk c.read_in.result (λ bytes. bytes ≡ rest)) is c.read_in.ensures
