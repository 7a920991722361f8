use Rattle.std.proofs.Common.{◌≡◌, ◌∙◌, ap, sym, arith, length, ◌++◌, false, append_assoc}
use Rattle.std.proofs.lemmas.List.{length_push}
use Rattle.sparse_index.specs.Bytes.{bytes_of}
use Rattle.sparse_index.specs.Entries.{last_of}
use Rattle.sparse_index.specs.Offsets.{OffsetTable, entry_bytes, may_follow}
use Rattle.sparse_index.proofs.BytesLaws.{bytes-push, cut-front}
use Rattle.sparse_index.proofs.OffsetLaws.{whole-entries, offsets-unread, follows, falls}
use Rattle.sparse_index.proofs.offset_index.OffsetIndex.from_bytes.Goals as goal

pub returns-then-bytes-ne0 : goal.returns-then-bytes-ne0
returns-then-bytes-ne0 c = (c.if-bytes-ne0.true, λ entries h e. c.if-bytes-ne0.true (whole-entries c.args.bytes.now entries e))

pub returns-then-not-may_follow : goal.returns-then-not-may_follow
returns-then-not-may_follow c =
    let entry = c.read_entry-entry.result in
    let entries = c.loop-rest.index.entries in
    let test : may_follow (last_of entries) entry ≡ false = ap (λ l. may_follow l entry) (sym c.last.ensures.last) ∙ sym c.if-not-may_follow.ensures in
    let rest : c.loop-rest.rest.now ≡ entry_bytes entry ++ c.split_at.result.1.now = cut-front 8 c.loop-rest.rest.now c.split_at.result.0.now c.split_at.result.1.now (entry_bytes entry) c.split_at.ensures.front c.split_at.ensures.back c.read_entry-entry.ensures.spelled in
    let parts : c.args.bytes.now ≡ bytes_of entry_bytes entries ++ (entry_bytes entry ++ c.split_at.result.1.now) = c.loop-rest.invariant.parts ∙ ap (λ bs. bytes_of entry_bytes entries ++ bs) rest in (
      c.if-bytes-ne0.false,
      record {
        before = entries;
        entry = entry;
        more = c.split_at.result.1.now;
        parts = parts;
        stands = c.last.ensures.stand;
        falls = falls entries entry test;
        counted = c.loop-rest.invariant.counted;
        unread = offsets-unread c.args.bytes.now c.split_at.result.1.now entries entry c.read_entry-entry.ensures.wide c.last.ensures.stand (falls entries entry test) parts;
      },
    )

pub add-requires : goal.add-requires
add-requires c =
    let entry = c.read_entry-entry.result in
    follows c.loop-rest.index.entries entry c.last.ensures.stand (ap (λ l. may_follow l entry) (sym c.last.ensures.last) ∙ sym c.if-not-may_follow.ensures)

pub loop-rest-preserved : goal.loop-rest-preserved
loop-rest-preserved c =
    let entry = c.read_entry-entry.result in
    let entries = c.loop-rest.index.entries in
    let rest : c.loop-rest.rest.now ≡ entry_bytes entry ++ c.split_at.result.1.now = cut-front 8 c.loop-rest.rest.now c.split_at.result.0.now c.split_at.result.1.now (entry_bytes entry) c.split_at.ensures.front c.split_at.ensures.back c.read_entry-entry.ensures.spelled in
    record {
      base = ap (λ (t : OffsetTable). t.base) c.in-Ok.ensures.ok ∙ c.loop-rest.invariant.base;
      parts = c.loop-rest.invariant.parts ∙ (ap (λ bs. bytes_of entry_bytes entries ++ bs) rest ∙ (sym (append_assoc (bytes_of entry_bytes entries) (entry_bytes entry) c.split_at.result.1.now) ∙ ap (λ bs. bs ++ c.split_at.result.1.now) (sym (bytes-push entry_bytes entries entry)))) ∙ ap (λ (t : OffsetTable). bytes_of entry_bytes t.entries ++ c.split_at.result.1.now) (sym c.in-Ok.ensures.ok);
      even = omega (arith, c.loop-rest.invariant.even, c.split_at.ensures.back_len);
      counted = (let long = ap (λ (t : OffsetTable). length t.entries) c.in-Ok.ensures.ok ∙ length_push entries entry in omega (arith, long, c.loop-rest.invariant.counted, c.saturating_add-at.ensures));
    }
