-- A dump on its way: what was read, how much of it was passed, and which batches were shown.
use Rattle.std.proofs.Common.{◌≡◌, ◌∙◌, ap, sym, refl, subst, inl, inr, ℕ, ◌+◌, ◌≤◌, List, [], ◌∷◌, ◌++◌, length, take, drop, append_assoc, append-nil, length-append, arith}
use Rattle.std.specs.Prelude.{◌⊎◌}
use Rattle.std.specs.declared.option.Option.{Option}
use Rattle.std.specs.Io.KnownBytes.{Consumes, IsAtEnd}
use Rattle.std.proofs.KnownBytes.{Consumes-nil, Consumes-trans}
use Rattle.std.proofs.lemmas.List.{take-append-drop, length-take-le}
use Rattle.segment_file.specs.Walk.{size_in}
use Rattle.dump_lines.specs.declared.seeing.Shown.{Shown}
use Rattle.dump_lines.specs.declared.seeing.Ending.{Ending}
use Rattle.dump_lines.specs.declared.seeing.Seen.TheVariants.{Batch, Ends}
use Rattle.dump_lines.specs.Seen.{seen_at, place_of}
use Rattle.dump_lines.specs.Dump.{IsDump, Dumps, Fills}
use Rattle.dump_lines.proofs.Kept.{seen_kept}
use Rattle.dump_lines.proofs.Lists.{drop_front}

-- what comes after is shown after what was shown
abbrev pub GoesOn : ℕ → List ℕ → List Shown → Type 0
GoesOn at passed batches = (behind : List ℕ) (others : List Shown) (end : Ending) → IsDump at behind others end → IsDump 0 (passed ++ behind) (batches ++ others) end

pub record Going (old now : Option (List ℕ)) (before after : List Shown → Type 0) (at : ℕ) (window : List ℕ) : Type 0 where
  pub bytes : List ℕ
  pub read : Consumes old now bytes
  pub passed : List ℕ
  pub parts : bytes ≡ passed ++ window
  pub place : at ≡ length passed
  pub batches : List Shown
  pub shown : (earlier : List Shown) → before earlier → after (earlier ++ batches)
  pub front : GoesOn at passed batches

-- nothing was read yet
pub begins : (s : Option (List ℕ)) (told : List Shown → Type 0) → Going s s told told 0 []
begins s told = record {
  bytes = [];
  read = Consumes-nil s;
  passed = [];
  parts = refl;
  place = refl;
  batches = [];
  shown = λ earlier t. subst told (sym (append-nil earlier)) t;
  front = λ behind others end d. d;
}

-- the window was filled
pub filled : (old mid new : Option (List ℕ)) (before after : List Shown → Type 0) (at : ℕ) (window more : List ℕ)
    → Going old mid before after at window → Fills mid new window more → Going old new before after at more
filled old mid new before after at window more g f = record {
  bytes = g.bytes ++ f.more;
  read = Consumes-trans old mid new g.bytes f.more g.read f.taken;
  passed = g.passed;
  parts = ap (λ (xs : List ℕ). xs ++ f.more) g.parts ∙ append_assoc g.passed window f.more ∙ ap (λ (xs : List ℕ). g.passed ++ xs) (sym f.joined);
  place = g.place;
  batches = g.batches;
  shown = g.shown;
  front = g.front;
}

-- a batch was shown and passed
pub passes : (old now : Option (List ℕ)) (before mid after : List Shown → Type 0) (at : ℕ) (window : List ℕ) (one : Shown)
    → Going old now before mid at window → seen_at at window ≡ Batch one → size_in one.head ≤ length window
    → ((batches : List Shown) → mid batches → after (batches ++ one ∷ []))
    → Going old now before after (at + size_in one.head) (drop (size_in one.head) window)
passes old now before mid after at window one g seen within shows =
    let len : length (take (size_in one.head) window) ≡ size_in one.head = length-take-le (size_in one.head) window within in
    let longer : length (g.passed ++ take (size_in one.head) window) ≡ length g.passed + length (take (size_in one.head) window) = length-append g.passed (take (size_in one.head) window) in
    let place : at ≡ length g.passed = g.place in
    record {
      bytes = g.bytes;
      read = g.read;
      passed = g.passed ++ take (size_in one.head) window;
      parts = g.parts ∙ ap (λ (xs : List ℕ). g.passed ++ xs) (sym (take-append-drop (size_in one.head) window))
          ∙ sym (append_assoc g.passed (take (size_in one.head) window) (drop (size_in one.head) window));
      place = omega (arith, len, longer, place);
      batches = g.batches ++ one ∷ [];
      shown = λ earlier t. subst after (append_assoc earlier g.batches (one ∷ [])) (shows (earlier ++ g.batches) (g.shown earlier t));
      front = λ behind others end d.
          (let behind_is : drop (size_in one.head) (take (size_in one.head) window ++ behind) ≡ behind =
          subst (λ (n : ℕ). drop n (take (size_in one.head) window ++ behind) ≡ behind) len (drop_front (take (size_in one.head) window) behind) in
          let others_are : IsDump (at + size_in one.head) (drop (size_in one.head) (take (size_in one.head) window ++ behind)) others end =
          subst (λ (xs : List ℕ). IsDump (at + size_in one.head) xs others end) (sym behind_is) d in
          let all : IsDump 0 (g.passed ++ (take (size_in one.head) window ++ behind)) (g.batches ++ one ∷ others) end =
          g.front (take (size_in one.head) window ++ behind) (one ∷ others) end (seen_kept at window behind one seen, others_are) in
          subst (λ (xs : List ℕ). IsDump 0 xs ((g.batches ++ one ∷ []) ++ others) end) (sym (append_assoc g.passed (take (size_in one.head) window) behind))
          (subst (λ (bs : List Shown). IsDump 0 (g.passed ++ (take (size_in one.head) window ++ behind)) bs end) (sym (append_assoc g.batches (one ∷ []) others)) all));
    }

-- nothing more is shown
pub ends : (old now : Option (List ℕ)) (before after : List Shown → Type 0) (at : ℕ) (window : List ℕ) (end : Ending)
    → Going old now before after at window → seen_at at window ≡ Ends end → place_of end ≡ at → IsAtEnd now ⊎ (1048576 ≤ length window)
    → Dumps old now before after end
ends old now before after at window end g seen place far = record {
  bytes = g.bytes;
  read = g.read;
  batches = g.batches;
  shown = g.shown;
  are = subst (λ (xs : List ℕ). IsDump 0 xs g.batches end) (sym g.parts)
      (subst (λ (bs : List Shown). IsDump 0 (g.passed ++ window) bs end) (append-nil g.batches) (g.front window [] end seen));
  far = reach far;
}
  where
    longer : length (g.passed ++ window) ≡ length g.passed + length window
    longer = length-append g.passed window

    reach : IsAtEnd now ⊎ (1048576 ≤ length window) → IsAtEnd now ⊎ (place_of end + 1048576 ≤ length g.bytes)
    reach (inl e) = inl e
    reach (inr l) = inr (let n = ap length g.parts in let p = g.place in omega (arith, n, longer, l, p, place))
