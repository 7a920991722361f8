use Rattle.std.proofs.Common.{◌≡◌, ◌+◌, ◌<◌, ◌≤◌, sym, ◌∙◌, refl, drop, arith}
use Rattle.log_terms.specs.Batch.{base_of, last_offset_delta_of, last_of}
use Rattle.record_batch.specs.Head.{head_of}
use Rattle.segment_file.specs.Run.{MayBeginAt}
use Rattle.segment_file.specs.Walk.{found_at}
use Rattle.segment_file.specs.declared.walking.Found.TheVariants as found
use Rattle.segment_file.proofs.Finding.{batch_found}
use Rattle.segment_file.proofs.Standing.{AreBytes, standing, numbers}
use Rattle.segment_file.proofs.Runs.{begins_low}
use Rattle.segment_file.proofs.taking.follower.Goals as goal

pub returns-in_default : goal.returns-in_default
returns-in_default c = record {
  some = tt;
  none = λ same batch more parts follows.
      let there : found_at c.args.at (drop c.args.at c.args.bytes.now) ≡ found.Batch (head_of batch) = rw parts (batch_found c.args.at batch more follows.is) in
      c.in_default.not-Batch (head_of batch) (c.walk.ensures ∙ there);
}

pub returns-then-not-begins-clause-none : goal.returns-then-not-begins-clause-none
returns-then-not-begins-clause-none c =
    λ same batch more parts follows.
    let clean : AreBytes c.args.bytes.now = λ i. let b = c.type_inv.bytes i in omega (arith, b) in
    let n = numbers c.args.at c.args.bytes.now c.in-Batch.head batch more clean (sym c.walk.ensures ∙ c.in-Batch.is) parts follows.is in
    let base : c.cast_unsigned-base.result ≡ base_of batch = c.cast_unsigned-base.ensures ∙ n.base in
    let may : MayBeginAt c.args.last c.args.offset c.cast_unsigned-base.result = rw base follows.begins in
    absurd (cc (c.begins.ensures.1 may, c.if-not-begins.true))

pub overflow_sub-bound : goal.overflow_sub-bound
overflow_sub-bound c =
    let may : MayBeginAt c.args.last c.args.offset c.cast_unsigned-base.result = c.begins.ensures.0 (cc (c.if-not-begins.false)) in
    let low : c.cast_unsigned-base.result < c.args.bound = begins_low c.args.last c.args.offset c.args.bound _ c.requires.below c.requires.low may in
    omega (arith, low)

pub returns-then-bound-base-clause-none : goal.returns-then-bound-base-clause-none
returns-then-bound-base-clause-none c =
    λ same batch more parts follows.
    let clean : AreBytes c.args.bytes.now = λ i. let b = c.type_inv.bytes i in omega (arith, b) in
    let n = numbers c.args.at c.args.bytes.now c.in-Batch.head batch more clean (sym c.walk.ensures ∙ c.in-Batch.is) parts follows.is in
    let base : c.cast_unsigned-base.result ≡ base_of batch = c.cast_unsigned-base.ensures ∙ n.base in
    let delta : c.cast_unsigned-delta.result ≡ last_offset_delta_of batch = c.cast_unsigned-delta.ensures ∙ n.delta in
    let below : last_of batch + 1 ≤ c.args.bound = follows.below in
    absurd (omega (arith, base, delta, below, c.if-bound-base.true))

pub returns-clause-some : goal.returns-clause-some
returns-clause-some c =
    let clean : AreBytes c.args.bytes.now = λ i. let b = c.type_inv.bytes i in omega (arith, b) in
    let s = standing c.args.at c.args.bytes.now c.in-Batch.head clean c.requires.inside (sym c.walk.ensures ∙ c.in-Batch.is) in
    let base : c.cast_unsigned-base.result ≡ base_of s.batch = c.cast_unsigned-base.ensures ∙ s.base in
    let delta : c.cast_unsigned-delta.result ≡ last_offset_delta_of s.batch = c.cast_unsigned-delta.ensures ∙ s.delta in
    let may : MayBeginAt c.args.last c.args.offset c.cast_unsigned-base.result = c.begins.ensures.0 (cc (c.if-not-begins.false)) in record {
      batch = s.batch;
      follows = record { is = s.is; begins = rw (← base) may; below = omega (arith, base, delta, c.if-bound-base.false) };
      parts = rw c.size_in.ensures s.parts;
      place = rw (c.size_in.ensures, s.size) refl;
      some = s.some;
      inside = rw c.size_in.ensures s.inside;
      end_is = omega (arith, base, delta);
    }
