use Rattle.std.proofs.Common.{◌≡◌, ◌∙◌, ◌+◌, sym, subst, ap, drop, arith, true}
use Rattle.record_batch.specs.Head.{head_of}
use Rattle.segment_file.specs.Walk.{found_at}
use Rattle.segment_file.specs.Gathering.{HeadDescribes}
use Rattle.segment_file.specs.declared.walking.Found.TheVariants as found
use Rattle.segment_file.proofs.Finding.{batch_found}
use Rattle.segment_file.proofs.Standing.{AreBytes, standing, bytes_drop, front_bytes}
use Rattle.segment_file.proofs.Telling.{is_observable}
use Rattle.std.proofs.lemmas.List.{length-drop}
use Rattle.local_log.specs.Admitting.{AdvancesTo}
use Rattle.local_log.proofs.Admitted.{first_taken, meets_first, goes_on}
use Rattle.local_log.proofs.admitting.next_spot.Goals as goal

pub returns-in_default : goal.returns-in_default
returns-in_default c = record {
  some = tt;
  none = λ same a.
      let size = length-drop c.args.spot.at c.args.run.now in
      let f = first_taken (c.args.spot.base + c.args.spot.more) c.args.spot.epoch (drop c.args.spot.at c.args.run.now) (omega (arith, size, c.requires)) a in
      let there : found_at c.args.spot.at (drop c.args.spot.at c.args.run.now) ≡ found.Batch (head_of f.batch) = ap (found_at c.args.spot.at) f.parts ∙ batch_found c.args.spot.at f.batch f.more f.is in
      c.in_default.not-Batch (head_of f.batch) (c.walk.ensures ∙ there);
}

pub returns-then-meets-clause-some : goal.returns-then-meets-clause-some
returns-then-meets-clause-some c =
    let run = c.args.run.now in
    let head = c.in-Batch.head in
    let clean : AreBytes run = λ i. let b = c.type_inv.run i in omega (arith, b) in
    let s = standing c.args.spot.at run head clean (omega (arith, c.requires)) (sym c.walk.ensures ∙ c.in-Batch.is) in
    let clean' : AreBytes s.batch = front_bytes s.batch _ (subst AreBytes s.parts (bytes_drop c.args.spot.at run clean)) in
    let t : HeadDescribes s.batch head = subst (HeadDescribes s.batch) (sym s.head_is) (is_observable s.batch clean' s.is) in
    subst (AdvancesTo run c.args.spot) (sym c.spot_after.ensures) (goes_on run c.args.spot head s.batch s.is s.parts t s.inside (c.meets.ensures.0 c.if-meets.true))

pub returns-else-meets-clause-none : goal.returns-else-meets-clause-none
returns-else-meets-clause-none c =
    λ none a.
    let run = c.args.run.now in
    let head = c.in-Batch.head in
    let clean : AreBytes run = λ i. let b = c.type_inv.run i in omega (arith, b) in
    let s = standing c.args.spot.at run head clean (omega (arith, c.requires)) (sym c.walk.ensures ∙ c.in-Batch.is) in
    let clean' : AreBytes s.batch = front_bytes s.batch _ (subst AreBytes s.parts (bytes_drop c.args.spot.at run clean)) in
    let t : HeadDescribes s.batch head = subst (HeadDescribes s.batch) (sym s.head_is) (is_observable s.batch clean' s.is) in
    let sure : c.meets.result ≡ true = c.meets.ensures.1 (meets_first run c.args.spot head s.batch s.is s.parts t a) in
    cc (sure, c.if-meets.false)
