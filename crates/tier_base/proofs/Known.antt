-- What is known of a stream's bytes over two calls.
use Rattle.std.proofs.Common.{◌≡◌, ℕ, ◌+◌, ◌<◌, ◌≤◌, List, [], length, take, drop, None, Some, sym, ◌∙◌, ap, append-nil, arith}
use Rattle.std.specs.declared.option.Option.{Option}
use Rattle.std.specs.Io.KnownBytes.{Consumes, Keeps, Appends}
use Rattle.std.proofs.KnownBytes.{Consumes-trans, Appends-trans, Appends-kept}
use Rattle.std.proofs.lemmas.List.{take-append-drop, length-take, length-take-le}
use Rattle.std.proofs.Math.Seq.{take-add}
use Rattle.std.proofs.Math.Nat.{min-le_left}
use Rattle.tier_base.specs.Counts.{counted}
use Rattle.tier_base.specs.Stream.{Gave, GaveUpTo, AppendsFront}

-- the source gave what was read, and then the next count bytes after it
pub Consumes-piece : (old mid new : Option (List ℕ)) (read count : ℕ) (before after : List ℕ)
    → Consumes old mid (take read before) → take read after ≡ take read before
    → Consumes mid new (take count (drop read after))
    → Consumes old new (take (read + count) after)
Consumes-piece old mid new read count before after first same second =
    rw (take-add read count after, same)
    (Consumes-trans old mid new (take read before) (take count (drop read after)) first second)

-- so many were given, where the vector holds them
pub Gave-piece : (old new : Option (List ℕ)) (count most : ℕ) (bytes : List ℕ)
    → Consumes old new (take count bytes) → count ≤ length bytes → count ≡ most → Gave old new most
Gave-piece old new count most bytes taken held exact = record {
  bytes = take count bytes;
  taken = taken;
  many = length-take-le count bytes held ∙ exact;
}

-- so many were given and counted, where the vector holds them
pub GaveUpTo-piece : (old new : Option (List ℕ)) (before now count most : ℕ) (bytes : List ℕ)
    → Consumes old new (take count bytes) → count ≤ length bytes → count ≤ most → now ≡ counted before count
    → GaveUpTo old new before now most
GaveUpTo-piece old new before now count most bytes taken held below count_is = record {
  bytes = take count bytes;
  taken = taken;
  many = rw (length-take-le count bytes held) below;
  count = count_is ∙ ap (counted before) (sym (length-take-le count bytes held));
}

-- the sink took what was done, and then the next count bytes of the piece
pub Appends-piece : (old mid new : Option (List ℕ)) (done count : ℕ) (piece : List ℕ)
    → Appends old mid (take done piece) → Appends mid new (take count (drop done piece))
    → Appends old new (take (done + count) piece)
Appends-piece old mid new done count piece first second =
    rw (take-add done count piece)
    (Appends-trans old mid new (take done piece) (take count (drop done piece)) first second)

-- what was done is a front of the piece, where a byte of it is left
pub AppendsFront-take : (old mid new : Option (List ℕ)) (done : ℕ) (piece : List ℕ)
    → done < length piece → Appends old mid (take done piece) → Keeps mid new → AppendsFront old new piece
AppendsFront-take old mid new done piece below first kept = record {
  front = take done piece;
  rest = drop done piece;
  parts = take-append-drop done piece;
  short = rw (length-take done piece) (omega (arith, below, min-le_left done (length piece)));
  written = Appends-kept old mid new (take done piece) first kept;
}

-- a stream that took nothing holds what it held
pub Keeps-nil : (old new : Option (List ℕ)) → Appends old new [] → Keeps old new
Keeps-nil None new p = tt
Keeps-nil (Some xs) None p = p
Keeps-nil (Some xs) (Some ys) p = p ∙ append-nil xs

-- the same, of a count that is 0
pub Keeps-nothing : (old new : Option (List ℕ)) (count : ℕ) (piece : List ℕ)
    → count ≡ 0 → Appends old new (take count piece) → Keeps old new
Keeps-nothing old new count piece none p = Keeps-nil old new (rw none at p)
