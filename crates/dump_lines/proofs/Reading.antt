-- What reads put after the bytes of a window.
use Rattle.std.proofs.Common.{◌≡◌, ◌∙◌, ap, sym, ℕ, ◌+◌, ◌-◌, ◌<◌, ◌≤◌, List, [], ◌++◌, length, take, drop, append_assoc, append-nil, arith, inl, inr}
use Rattle.std.specs.declared.option.Option.{Option}
use Rattle.std.specs.Io.KnownBytes.{Consumes, IsAtEnd}
use Rattle.std.proofs.KnownBytes.{Consumes-nil, Consumes-trans}
use Rattle.std.proofs.lemmas.List.{length-take-le}
use Rattle.std.proofs.Math.Seq.{take-add}
use Rattle.segment_file.proofs.Finding.{length_drop}
use Rattle.dump_lines.proofs.Lists.{take_all, take_front}
use Rattle.dump_lines.specs.Dump.{AppendsRead, HasAppended, Fills}

-- room after the bytes that were there leaves them
pub roomy : (held more : ℕ) (xs ys : List ℕ) → held ≡ length xs → take held (take (held + more) xs ++ ys) ≡ xs
roomy held more xs ys len =
    rw (take_all (held + more) xs (omega (arith, len)), len) (take_front xs ys)

-- one read of so many bytes after those that were there
pub piece : (old new : Option (List ℕ)) (before after : List ℕ) (held count : ℕ) → take held after ≡ before → held < length after
    → held + count ≤ length after → Consumes old new (take count (drop held after)) → (count ≡ 0 → 0 < length (drop held after) → IsAtEnd new)
    → AppendsRead old new before (take (held + count) after) count
piece old new before after held count same room fits taken ends =
    let back : length (drop held after) ≡ length after - held = length_drop held after (omega (arith, fits)) in
    record {
      more = take count (drop held after);
      taken = taken;
      joined = take-add held count after ∙ ap (λ (xs : List ℕ). xs ++ take count (drop held after)) same;
      many = length-take-le count (drop held after) (omega (arith, fits, back));
      ends = λ none. ends none (omega (arith, room, back));
    }

pub none_yet : (s : Option (List ℕ)) (bytes : List ℕ) → HasAppended s s bytes bytes
none_yet s bytes = record { more = []; taken = Consumes-nil s; joined = sym (append-nil bytes) }

pub one_more : (old mid new : Option (List ℕ)) (first before after : List ℕ) (count : ℕ) → HasAppended old mid first before → AppendsRead mid new before after count
    → HasAppended old new first after
one_more old mid new first before after count g p = record {
  more = g.more ++ p.more;
  taken = Consumes-trans old mid new g.more p.more g.taken p.taken;
  joined = p.joined ∙ ap (λ (xs : List ℕ). xs ++ p.more) g.joined ∙ append_assoc first g.more p.more;
}

pub ended : (old new : Option (List ℕ)) (before after : List ℕ) → HasAppended old new before after → IsAtEnd new → Fills old new before after
ended old new before after g e = record { more = g.more; taken = g.taken; joined = g.joined; enough = inl e }

pub full : (old new : Option (List ℕ)) (before after : List ℕ) → HasAppended old new before after → 1048576 ≤ length after → Fills old new before after
full old new before after g l = record { more = g.more; taken = g.taken; joined = g.joined; enough = inr l }
