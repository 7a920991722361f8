-- Texts that grow at their end.
use Rattle.std.proofs.Common.{◌≡◌, ◌∙◌, sym, ℕ, suc, ◌+◌, ◌-◌, ◌/◌, ◌%◌, ◌<◌, ◌≤◌, List, [], ◌∷◌, ◌++◌, append_assoc, append-nil, add-one, arith}
use Rattle.load_gen.specs.Script.{hex_digit, hex_run, turn, after_turn, turns}

-- two digits more
hex_more : (text : List ℕ) (count k byte : ℕ) → k < count
    → ((text ++ hex_digit (byte / 16) ∷ []) ++ hex_digit (byte % 16) ∷ []) ++ hex_run (count - (k + 1)) byte
    ≡ text ++ hex_run (count - k) byte
hex_more text count k byte more =
    let left : count - k ≡ suc (count - (k + 1)) = omega arith in
    rw left
    (append_assoc (text ++ hex_digit (byte / 16) ∷ []) (hex_digit (byte % 16) ∷ []) (hex_run (count - (k + 1)) byte)
    ∙ append_assoc text (hex_digit (byte / 16) ∷ []) (hex_digit (byte % 16) ∷ hex_run (count - (k + 1)) byte))

-- the text after both digits of a byte
pub hex_pushed : (old mid new whole : List ℕ) (count k byte high low : ℕ) → k < count
    → high ≡ hex_digit (byte / 16)
    → low ≡ hex_digit (byte % 16)
    → mid ≡ old ++ high ∷ []
    → new ≡ mid ++ low ∷ []
    → old ++ hex_run (count - k) byte ≡ whole
    → new ++ hex_run (count - (k + 1)) byte ≡ whole
hex_pushed old mid new whole count k byte high low more h l first second so_far =
    rw (second, first, h, l) (hex_more old count k byte more ∙ so_far)

-- one turn more
pub turns_more : (old new whole : List ℕ) (count i x y : ℕ) → i < count
    → new ≡ old ++ turn i x
    → y ≡ after_turn x
    → old ++ turns (count - i) i x ≡ whole
    → new ++ turns (count - (i + 1)) (i + 1) y ≡ whole
unfolding turns
turns_more old new whole count i x y more text state so_far =
    let left : count - i ≡ suc (count - suc i) = omega arith in
    rw (text, state, add-one) (append_assoc old (turn i x) (turns (count - suc i) (suc i) (after_turn x)) ∙ (rw left at so_far))

-- no turn is left
pub turns_done : (text whole : List ℕ) (count i x : ℕ) → count ≤ i → text ++ turns (count - i) i x ≡ whole → text ≡ whole
unfolding turns
turns_done text whole count i x end so_far =
    let none : count - i ≡ 0 = omega arith in
    sym (append-nil text) ∙ (rw none at so_far)
