use Rattle.std.proofs.Common.{◌≡◌, ◌∙◌, ℕ, List, ◌++◌, append_assoc}
use Rattle.std.specs.Int.{w16, w64, to_be_bytes}
use Rattle.segment_meta.specs.Spelling.{span_bytes}
use Rattle.segment_meta.proofs.writing.push_span.Goals as goal

-- four parts written one after another
four : (o w x y z a b c d : List ℕ) → w ≡ o ++ a → x ≡ w ++ b → y ≡ x ++ c → z ≡ y ++ d → z ≡ o ++ (a ++ (b ++ (c ++ d)))
four o w x y z a b c d p q r s =
    rw (s, r, q, p) (append_assoc ((o ++ a) ++ b) c d ∙ (append_assoc (o ++ a) b (c ++ d) ∙ append_assoc o a (b ++ (c ++ d))))

pub returns : goal.returns
unfolding span_bytes
returns c =
    let entry = c.args.entry.now in
    four c.args.out.now.items _ _ _ _ entry.id.0 (to_be_bytes w16 entry.partition.0) (to_be_bytes w64 entry.start) (to_be_bytes w64 entry.end)
    c.in_ok-push_id.ensures c.in_ok-push_u16.ensures c.in_ok-push_u64.ensures c.in_ok-push_u64-2.ensures
