use Rattle.std.proofs.Common.{◌≡◌, ◌+◌, ◌++◌, List, ℕ, length, ap, ◌∙◌, arith, length-append}
use Rattle.disk_model.specs.declared.pieces.Chunk.{Chunk}
use Rattle.disk_model.specs.Pieces.{joined}
use Rattle.disk_model.proofs.Joined.{joined-push, ended-push}
use Rattle.disk_model.proofs.pieces.Pieces.push.Goals as goal

pub invariant_of-self-2 : goal.invariant_of-self-2
invariant_of-self-2 c =
    let items : List Chunk = c.self.inside.items.items in
    let last : Chunk = record { bytes = c.args.bytes; end = c.self.inside.len + c.len.result } in
    let is : joined c.push.new.self.items ≡ joined items ++ c.args.bytes =
    ap joined c.in_ok-push.ensures.items ∙ joined-push items last in
    record {
      len = omega (arith, ap length is, length-append (joined items) c.args.bytes, c.self.invariant.len, c.len.ensures.value);
      small = omega (arith, c.if-end-gt-MOST.false);
      ends = rw c.in_ok-push.ensures.items (ended-push 0 items last c.self.invariant.ends (omega (arith, c.self.invariant.len, c.len.ensures.value)));
    }

pub returns-clause-ok : goal.returns-clause-ok
returns-clause-ok c =
    ap joined c.in_ok-push.ensures.items ∙ joined-push c.self.inside.items.items (record { bytes = c.args.bytes; end = c.self.inside.len + c.len.result })
    ∙ ap (λ (bytes : List ℕ). bytes ++ c.args.bytes) c.self.view_is
