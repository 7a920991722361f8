use Rattle.std.proofs.Common.{◌≡◌, ◌≤◌, ◌∙◌, ap, sym, refl, rules, subst, length, drop, arith, true, Some, ℕ, List, w32}
use Rattle.std.specs.Int.{cast_unsigned}
use Rattle.log_terms.specs.Batch.{epoch_of}
use Rattle.log_terms.specs.Line.{epoch_at}
use Rattle.record_batch.specs.Head.{head_of}
use Rattle.segment_file.specs.Walk.{found_at}
use Rattle.segment_file.specs.Gathering.{HeadDescribes}
use Rattle.segment_file.specs.declared.walking.Found.TheVariants as found
use Rattle.segment_file.proofs.Finding.{batch_found}
use Rattle.segment_file.proofs.Standing.{AreBytes, same_head, bytes_drop, front_bytes}
use Rattle.segment_file.proofs.Telling.{is_observable}
use Rattle.tier_audit.specs.Logs.{BeginsMore}
use Rattle.tier_audit.proofs.Fronts.{near_by, comes_next}
use Rattle.tier_audit.proofs.log_part.next_batch.Goals as goal

pub returns-in_default : goal.returns-in_default
returns-in_default c = record {
  some = tt;
  none = λ same batch more parts is may.
      let there : found_at c.args.front.now.at (drop c.args.front.now.at c.args.bytes.now) ≡ found.Batch (head_of batch) = rw parts (batch_found c.args.front.now.at batch more is) in
      c.in_default.not-Batch (head_of batch) (c.walk.ensures ∙ there);
}

pub returns-then-not-is_near-clause-none : goal.returns-then-not-is_near-clause-none
returns-then-not-is_near-clause-none c =
    λ none batch more parts is may.
    let bytes = c.args.bytes.now in
    let at = c.args.front.now.at in
    let there : found_at at (drop at bytes) ≡ found.Batch (head_of batch) = rw parts (batch_found at batch more is) in
    let same : head_of batch ≡ c.in-Batch.head = same_head (head_of batch) c.in-Batch.head (sym there ∙ (sym c.walk.ensures ∙ c.in-Batch.is)) in
    let clean : AreBytes bytes = λ i. let b = c.type_inv.bytes i in omega (arith, b) in
    let clean' : AreBytes batch = front_bytes batch more (subst AreBytes parts (bytes_drop at bytes clean)) in
    let near = near_by c.args.entry.now c.args.front.now batch c.in-Batch.head (subst (HeadDescribes batch) same (is_observable batch clean' is)) may in
    let sure : c.is_near.result ≡ true = c.is_near.ensures.1 near in
    cc (sure, c.if-not-is_near.true)

pub returns-clause-some : goal.returns-clause-some
returns-clause-some c =
    let bytes = c.args.bytes.now in
    let clean : AreBytes bytes = λ i. let b = c.type_inv.bytes i in omega (arith, b) in
    let head = c.in-Batch.head in
    let map = c.args.entry.now.map in
    let yes : c.is_near.result ≡ true = search rules in
    let epoch : c.cast_unsigned-epoch.result ≡ cast_unsigned w32 head.leader_epoch = search rules in
    let own : c.has_epoch.result ≡ true = search rules in
    let has : epoch_at map c.args.front.now.end ≡ Some c.cast_unsigned-epoch.result = c.has_epoch.ensures.0 own in
    let snapshot = subst (λ (xs : List (ℕ × ℕ)). BeginsMore xs c.args.front.now.snapshot c.cast_unsigned-epoch.result c.args.front.now.end c.begun_after-snapshot.result) c.entries.ensures.entries c.begun_after-snapshot.ensures in
    comes_next c.args.entry.now bytes c.args.front.now head c.place.result c.begun_after-snapshot.result clean c.requires.front.inside (sym c.walk.ensures ∙ c.in-Batch.is)
    (c.is_near.ensures.0 yes) c.place.ensures (has ∙ ap (λ (n : ℕ). Some n) epoch)
    (subst (λ (n : ℕ). BeginsMore map c.args.front.now.snapshot n c.args.front.now.end c.begun_after-snapshot.result) epoch snapshot)

pub returns-then-not-has_epoch-clause-none : goal.returns-then-not-has_epoch-clause-none
returns-then-not-has_epoch-clause-none c =
    λ none batch more parts is may.
    let bytes = c.args.bytes.now in
    let at = c.args.front.now.at in
    let map = c.args.entry.now.map in
    let head = c.in-Batch.head in
    let there : found_at at (drop at bytes) ≡ found.Batch (head_of batch) = rw parts (batch_found at batch more is) in
    let same : head_of batch ≡ head = same_head (head_of batch) head (sym there ∙ (sym c.walk.ensures ∙ c.in-Batch.is)) in
    let clean : AreBytes bytes = λ i. let b = c.type_inv.bytes i in omega (arith, b) in
    let clean' : AreBytes batch = front_bytes batch more (subst AreBytes parts (bytes_drop at bytes clean)) in
    let t : HeadDescribes batch head = subst (HeadDescribes batch) same (is_observable batch clean' is) in
    let epoch : c.cast_unsigned-epoch.result ≡ cast_unsigned w32 head.leader_epoch = search rules in
    let told : epoch_of batch ≡ c.cast_unsigned-epoch.result = sym t.epoch ∙ sym epoch in
    let own : epoch_at map c.args.front.now.end ≡ Some c.cast_unsigned-epoch.result = ap (epoch_at map) (sym may.begins) ∙ may.epochs ∙ ap (λ (n : ℕ). Some n) told in
    let sure : c.has_epoch.result ≡ true = c.has_epoch.ensures.1 own in
    cc (sure, c.if-not-has_epoch.true)
