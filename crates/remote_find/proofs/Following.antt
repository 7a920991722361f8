-- Pieces that are followed one by one.
use Rattle.std.proofs.Common.{◌≡◌, ◌∙◌, sym, ℕ, zero, suc, ◌+◌, ◌-◌, ◌<◌, ◌≤◌, nat_le, true, false, List, [], ◌∷◌, ◌++◌, Some, None, arith, append_assoc, append-nil}
use Rattle.std.proofs.lemmas.Bool.{le-leb}
use Rattle.remote_find.specs.declared.piece.Piece.{Piece}
use Rattle.remote_find.specs.Pieces.{Pieces, reached, chained}

one-left : (n i : ℕ) → i < n → n - i ≡ suc (n - (i + 1))
one-left n i below = omega arith

-- no piece is left
pub reached_none : (pieces : Pieces) (n i at all : ℕ) → i < n → pieces at ≡ None → reached pieces (n - i) at ≡ all → at ≡ all
reached_none pieces n i at all below none e =
    let now : reached pieces (suc (n - (i + 1))) at ≡ all = rw (one-left n i below) at e in
    rw none at now

-- one piece is passed
pub reached_some : (pieces : Pieces) (n i at all : ℕ) (piece : Piece) → i < n → pieces at ≡ Some piece → reached pieces (n - i) at ≡ all
    → reached pieces (n - (i + 1)) piece.to ≡ all
reached_some pieces n i at all piece below some e =
    let now : reached pieces (suc (n - (i + 1))) at ≡ all = rw (one-left n i below) at e in
    rw some at now

-- as many were passed as there may be
pub reached_all : (pieces : Pieces) (n i at all : ℕ) → n ≤ i → reached pieces (n - i) at ≡ all → at ≡ all
reached_all pieces n i at all passed e = let none : n - i ≡ zero = omega (arith, passed) in rw none at e

-- no piece is left for the chain
pub chained_none : (pieces : Pieces) (top n i at : ℕ) (front all : List Piece) → i < n → pieces at ≡ None
    → front ++ chained pieces top (n - i) at ≡ all → front ≡ all
chained_none pieces top n i at front all below none e =
    let now : front ++ chained pieces top (suc (n - (i + 1))) at ≡ all = rw (one-left n i below) at e in
    let then : front ++ [] ≡ all = rw none at now in
    sym (append-nil front) ∙ then

-- the piece ends past the top
pub chained_past : (pieces : Pieces) (top n i at : ℕ) (piece : Piece) (front all : List Piece) → i < n → pieces at ≡ Some piece → top < piece.to
    → front ++ chained pieces top (n - i) at ≡ all → front ≡ all
chained_past pieces top n i at piece front all below some past e =
    let now : front ++ chained pieces top (suc (n - (i + 1))) at ≡ all = rw (one-left n i below) at e in
    let not : nat_le piece.to top ≡ false = grind arith in
    let then : front ++ [] ≡ all = rw (some, not) at now in
    sym (append-nil front) ∙ then

-- the piece joins the chain
pub chained_more : (pieces : Pieces) (top n i at : ℕ) (piece : Piece) (front all : List Piece) → i < n → pieces at ≡ Some piece → piece.to ≤ top
    → front ++ chained pieces top (n - i) at ≡ all → (front ++ piece ∷ []) ++ chained pieces top (n - (i + 1)) piece.to ≡ all
chained_more pieces top n i at piece front all below some within e =
    let now : front ++ chained pieces top (suc (n - (i + 1))) at ≡ all = rw (one-left n i below) at e in
    let yes : nat_le piece.to top ≡ true = le-leb piece.to top within in
    let then : front ++ piece ∷ chained pieces top (n - (i + 1)) piece.to ≡ all = rw (some, yes) at now in
    append_assoc front (piece ∷ []) (chained pieces top (n - (i + 1)) piece.to) ∙ then

-- as many joined it as there may be
pub chained_all : (pieces : Pieces) (top n i at : ℕ) (front all : List Piece) → n ≤ i
    → front ++ chained pieces top (n - i) at ≡ all → front ≡ all
chained_all pieces top n i at front all passed e =
    let none : n - i ≡ zero = omega (arith, passed) in
    let then : front ++ [] ≡ all = rw none at e in
    sym (append-nil front) ∙ then
