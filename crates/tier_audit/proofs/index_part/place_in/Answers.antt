use Rattle.std.proofs.Common.{◌≡◌, refl, inl, inr, ℕ, ◌++◌, arith}
use Rattle.std.specs.Option.{IsNone}
use Rattle.sparse_index.specs.Offsets.{FitsEntry, Rises, entry_bytes}
use Rattle.sparse_index.proofs.BytesLaws.{cut-front}
use Rattle.sparse_index.proofs.OffsetLaws.{IsWide, entry-long, entry-same, whole-entries}
use Rattle.tier_audit.proofs.Among.{read_more, none_are, first_bad, none_read}
use Rattle.tier_audit.proofs.index_part.place_in.Goals as goal

along : (x y z : ℕ × ℕ) → Rises x y → Rises y z → Rises x z
along x y z h k = (omega (arith, h.0, k.0), omega (arith, h.1, k.1))

never : (x : ℕ × ℕ) → Rises x x → ⊥
never x h = omega (arith, h.0)

wide : (x : ℕ × ℕ) → FitsEntry x → IsWide x
wide x fits = (omega (arith, fits.0), omega (arith, fits.1))

pub returns-then-bytes-ne0 : goal.returns-then-bytes-ne0
returns-then-bytes-ne0 c = (λ entries are e. c.if-bytes-ne0.true (whole-entries c.args.bytes.now entries e), inl (c.if-bytes-ne0.true, refl))

pub loop-rest-init : goal.loop-rest-init
loop-rest-init c = none_read FitsEntry Rises along never entry_bytes 8 (omega arith) entry-long IsWide entry-same wide c.args.marks.now c.args.bytes.now c.if-bytes-ne0.false

pub returns-in-None : goal.returns-in-None
returns-in-None c =
    let entry = c.read_entry.result in
    let rest : c.loop-rest.rest.now ≡ entry_bytes entry ++ c.split_at.result.1.now = cut-front 8 c.loop-rest.rest.now c.split_at.result.0.now c.split_at.result.1.now (entry_bytes entry) c.split_at.ensures.front c.split_at.ensures.back c.read_entry.ensures.spelled in
    let none : IsNone c.find_behind.result = rw c.in-None.is refl in (
      none_are FitsEntry Rises along never entry_bytes 8 (omega arith) entry-long IsWide entry-same wide c.args.marks.now c.args.bytes.now c.loop-rest.rest.now c.split_at.result.1.now c.loop-rest.left.now entry c.requires c.loop-rest.invariant rest c.read_entry.ensures.wide (c.find_behind.ensures.none none),
      inr (
        c.if-bytes-ne0.false,
        first_bad FitsEntry Rises along never entry_bytes 8 (omega arith) entry-long IsWide entry-same wide c.args.marks.now c.args.bytes.now c.loop-rest.rest.now c.split_at.result.1.now c.loop-rest.left.now entry _ c.requires c.loop-rest.invariant rest c.read_entry.ensures.wide (c.find_behind.ensures.none none) refl,
      ),
    )

pub loop-rest-preserved : goal.loop-rest-preserved
loop-rest-preserved c =
    let entry = c.read_entry.result in
    let rest : c.loop-rest.rest.now ≡ entry_bytes entry ++ c.split_at.result.1.now = cut-front 8 c.loop-rest.rest.now c.split_at.result.0.now c.split_at.result.1.now (entry_bytes entry) c.split_at.ensures.front c.split_at.ensures.back c.read_entry.ensures.spelled in
    let even = c.loop-rest.invariant.even in
    read_more FitsEntry Rises along never entry_bytes 8 (omega arith) entry-long IsWide entry-same wide c.args.marks.now c.args.bytes.now c.loop-rest.rest.now c.split_at.result.1.now c.loop-rest.left.now c.in-Some.more.now entry c.requires c.loop-rest.invariant rest c.in-Some.ensures.some (omega (arith, even, c.split_at.ensures.back_len))
