use Rattle.std.proofs.Common.{◌≡◌, ◌∙◌, sym, subst, drop, arith, true}
use Rattle.record_batch.specs.Head.{head_of}
use Rattle.segment_file.specs.Walk.{found_at}
use Rattle.segment_file.specs.Gathering.{HeadDescribes}
use Rattle.segment_file.specs.declared.walking.Found.TheVariants as found
use Rattle.segment_file.proofs.Finding.{batch_found}
use Rattle.segment_file.proofs.Standing.{AreBytes, standing, same_head, bytes_drop, front_bytes}
use Rattle.segment_file.proofs.Telling.{is_observable}
use Rattle.local_log.specs.Parsing.{MayStand}
use Rattle.local_log.proofs.Parsed.{stands_next, stand_of}
use Rattle.local_log.proofs.parsing.next_head.Goals as goal

pub returns-in_default : goal.returns-in_default
returns-in_default c = record {
  some = tt;
  none = λ same batch more parts placed begins.
      let there : found_at c.args.at (drop c.args.at c.args.bytes.now) ≡ found.Batch (head_of batch) = rw parts (batch_found c.args.at batch more placed.is) in
      c.in_default.not-Batch (head_of batch) (c.walk.ensures ∙ there);
}

pub returns-then-may_stand-clause-some : goal.returns-then-may_stand-clause-some
returns-then-may_stand-clause-some c =
    let bytes = c.args.bytes.now in
    let at = c.args.at in
    let head = c.in-Batch.head in
    let clean : AreBytes bytes = λ i. let b = c.type_inv.bytes i in omega (arith, b) in
    let s = standing at bytes head clean c.requires.inside (sym c.walk.ensures ∙ c.in-Batch.is) in
    let clean' : AreBytes s.batch = front_bytes s.batch _ (subst AreBytes s.parts (bytes_drop at bytes clean)) in
    stands_next c.args.line.now c.args.base c.args.end bytes at head s.batch s.is s.parts
    (subst (HeadDescribes s.batch) (sym s.head_is) (is_observable s.batch clean' s.is)) s.inside (c.may_stand.ensures.0 c.if-may_stand.true)

pub returns-else-may_stand-clause-none : goal.returns-else-may_stand-clause-none
returns-else-may_stand-clause-none c =
    λ none batch more parts placed begins.
    let clean : AreBytes c.args.bytes.now = λ i. let b = c.type_inv.bytes i in omega (arith, b) in
    let clean' : AreBytes batch = front_bytes batch more (subst AreBytes parts (bytes_drop c.args.at c.args.bytes.now clean)) in
    let there : found_at c.args.at (drop c.args.at c.args.bytes.now) ≡ found.Batch (head_of batch) = rw parts (batch_found c.args.at batch more placed.is) in
    let same : head_of batch ≡ c.in-Batch.head = same_head (head_of batch) c.in-Batch.head (sym there ∙ (sym c.walk.ensures ∙ c.in-Batch.is)) in
    let may = stand_of c.args.line.now c.args.base c.args.end batch (head_of batch) (is_observable batch clean' placed.is) placed begins in
    let sure : c.may_stand.result ≡ true = c.may_stand.ensures.1 (subst (MayStand c.args.line.now c.args.base c.args.end) same may) in
    cc (sure, c.if-may_stand.false)
