use Rattle.std.proofs.Common.{◌≡◌, ◌<◌, ◌-◌, ◌++◌, ◌∷◌, [], cond, Bool, List, ℕ, ap, subst, sym, refl, ◌∙◌, arith, length, length-take, vec_len, vec_capacity}
use Rattle.disk_model.specs.declared.pieces.Chunk.{Chunk}
use Rattle.disk_model.specs.Pieces.{joined, AreEnded}
use Rattle.disk_model.proofs.Joined.{drops_part, drops_whole, ended-append, ended-push}
use Rattle.disk_model.proofs.pieces.drop_last.Goals as goal

pub loop-last-init : goal.loop-last-init
loop-last-init c = (refl, c.requires)

pub overflow_sub-last : goal.overflow_sub-last
overflow_sub-last c =
    let ends = ended-append 0 c.pop.new.self.items (c.in-Some.last ∷ []) (subst (AreEnded 0) c.in-Some.ensures.items c.loop-last.invariant.1) in
    omega (arith, ends.1.0, c.len-len.ensures.value, c.if-count-len.true)

pub returns-then-count-len : goal.returns-then-count-len
returns-then-count-len c =
    let front : List Chunk = c.pop.new.self.items in
    let last : Chunk = c.in-Some.last in
    let cut : Chunk = record { bytes = c.truncate.new.self; end = last.end - c.loop-last.count } in
    let ends = ended-append 0 front (last ∷ []) (subst (AreEnded 0) c.in-Some.ensures.items c.loop-last.invariant.1) in
    let room : vec_len c.pop.new.self < vec_capacity c.pop.new.self = omega (arith, c.loop-last.pieces.ok.1, c.in-Some.ensures.cases, c.in-Some.ensures.capacity) in
    let pushed : c.push.new.self.items ≡ front ++ cut ∷ [] =
    c.push.ensures.items ∙ ap (λ (b : Bool). cond b (front ++ cut ∷ []) front) (c.push.ensures.succeeds room) in
    record {
      bytes = ap joined pushed
          ∙ drops_part c.loop-last.pieces.items front last cut c.len-len.result c.loop-last.count c.in-Some.ensures.items c.len-len.ensures.value c.if-count-len.true c.truncate.ensures
          ∙ c.loop-last.invariant.0;
      ends = subst (AreEnded 0) (sym pushed) (ended-push 0 front cut ends.0 (omega (arith, ends.1.0, c.len-len.ensures.value, c.if-count-len.true, ap (length {A = ℕ}) c.truncate.ensures, length-take (c.len-len.result - c.loop-last.count) last.bytes)));
    }

pub loop-last-preserved-else-count-len : goal.loop-last-preserved-else-count-len
loop-last-preserved-else-count-len c = (
  drops_whole c.loop-last.pieces.items c.pop.new.self.items c.in-Some.last c.len-len.result c.loop-last.count c.in-Some.ensures.items c.len-len.ensures.value c.if-count-len.false ∙ c.loop-last.invariant.0,
  (ended-append 0 c.pop.new.self.items (c.in-Some.last ∷ []) (subst (AreEnded 0) c.in-Some.ensures.items c.loop-last.invariant.1)).0,
)

pub loop-last-preserved : goal.loop-last-preserved
loop-last-preserved c = (
  drops_whole c.loop-last.pieces.items c.pop.new.self.items c.in-Some.last c.len-len.result c.loop-last.count c.in-Some.ensures.items c.len-len.ensures.value c.if-count-len.false ∙ c.loop-last.invariant.0,
  (ended-append 0 c.pop.new.self.items (c.in-Some.last ∷ []) (subst (AreEnded 0) c.in-Some.ensures.items c.loop-last.invariant.1)).0,
)
