use Rattle.std.proofs.Common.{◌≡◌, ◌∙◌, sym, subst, drop, arith, true}
use Rattle.record_batch.specs.Head.{head_of}
use Rattle.segment_file.specs.Walk.{found_at}
use Rattle.segment_file.specs.Gathering.{MayComeNext, HeadDescribes}
use Rattle.segment_file.specs.declared.walking.Found.TheVariants as found
use Rattle.segment_file.proofs.Finding.{batch_found}
use Rattle.segment_file.proofs.Standing.{AreBytes, standing, same_head, bytes_drop, front_bytes}
use Rattle.segment_file.proofs.Telling.{is_observable}
use Rattle.segment_file.proofs.gathering.next_head.Goals as goal

pub returns-in_default : goal.returns-in_default
returns-in_default c = record {
  some = tt;
  none = λ same batch more parts is may.
      let there : found_at c.args.front.now.at (drop c.args.front.now.at c.args.bytes.now) ≡ found.Batch (head_of batch) = rw parts (batch_found c.args.front.now.at batch more is) in
      c.in_default.not-Batch (head_of batch) (c.walk.ensures ∙ there);
}

pub returns-then-may_go_on-clause-some : goal.returns-then-may_go_on-clause-some
returns-then-may_go_on-clause-some c =
    let bytes = c.args.bytes.now in
    let at = c.args.front.now.at in
    let head = c.in-Batch.head in
    let clean : AreBytes bytes = λ i. let b = c.type_inv.bytes i in omega (arith, b) in
    let s = standing at bytes head clean c.requires.front.inside (sym c.walk.ensures ∙ c.in-Batch.is) in
    let clean' : AreBytes s.batch = front_bytes s.batch _ (subst AreBytes s.parts (bytes_drop at bytes clean)) in record {
      batch = s.batch;
      is = s.is;
      parts = s.parts;
      is_observable = subst (HeadDescribes s.batch) (sym s.head_is) (is_observable s.batch clean' s.is);
      may = c.may_go_on.ensures.0 c.if-may_go_on.true;
      inside = s.inside;
    }

pub returns-else-may_go_on-clause-none : goal.returns-else-may_go_on-clause-none
returns-else-may_go_on-clause-none c =
    λ none batch more parts is may.
    let there : found_at c.args.front.now.at (drop c.args.front.now.at c.args.bytes.now) ≡ found.Batch (head_of batch) = rw parts (batch_found c.args.front.now.at batch more is) in
    let same : head_of batch ≡ c.in-Batch.head = same_head (head_of batch) c.in-Batch.head (sym there ∙ (sym c.walk.ensures ∙ c.in-Batch.is)) in
    let sure : c.may_go_on.result ≡ true = c.may_go_on.ensures.1 (subst (MayComeNext c.args.base c.args.front.now.at c.args.front.now.end c.args.front.now.epoch) same may) in
    cc (sure, c.if-may_go_on.false)
