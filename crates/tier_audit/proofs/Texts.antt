-- The texts of leader epochs: where their leader epochs begin, and that a text has one leader epochs.
use Rattle.std.proofs.Common.{◌≡◌, ◌∙◌, ap, sym, refl, subst, ℕ, zero, suc, ◌+◌, ◌-◌, ◌^◌, ◌==◌, ◌&&◌, ◌<◌, ◌≤◌, Bool, true, false, List, [], ◌∷◌, ◌++◌, length, map, drop, arith, append_assoc, append-nil, length-append}
use Rattle.std.specs.List.{AllByRecursion, concat}
use Rattle.std.specs.Fmt.{decimal}
use Rattle.std.specs.Char.{is_ascii_digit}
use Rattle.std.specs.Str.{all_ascii_digits}
use Rattle.std.proofs.lemmas.Bool.{eqb-true, eq-eqb, ne_eqb, and_parts, and_from}
use Rattle.std.proofs.lemmas.Fmt.{digits_decimal}
use Rattle.tier_base.specs.Number.{number_text}
use Rattle.tier_base.proofs.Digits.{own, number-unique}
use Rattle.epoch_line.specs.Line.{IsLine, within}
use Rattle.epoch_line.specs.Text.{version_line, count_line, entry_line, text_of, AreEntries, CanBegin}
use Rattle.epoch_line.specs.Text as text
use Rattle.epoch_line.proofs.Rising.{length-line}
use Rattle.epoch_line.proofs.Spelling.{longer-text, one-more}
use Rattle.sparse_index.proofs.BytesLaws.{pieces-same}
use Rattle.segment_meta.specs.declared.note.Entry.{Entry}
use Rattle.tier_audit.specs.Flaws.{IsFirstBad}
use Rattle.tier_audit.specs.Texts.{HasMap, place_behind}

-- no byte is a line feed
abbrev NoFeed : List ℕ → Type 0
NoFeed bytes = AllByRecursion (λ b. (b == 10) ≡ false) bytes

-- a line of a text: its only line feed ends it
record IsTextLine (line : List ℕ) : Type 0 where
  front : List ℕ
  is : line ≡ front ++ 10 ∷ []
  none : NoFeed front

no_feed_append : (xs ys : List ℕ) → NoFeed xs → NoFeed ys → NoFeed (xs ++ ys)
no_feed_append [] ys h k = k
no_feed_append (x ∷ xs) ys h k = (h.0, no_feed_append xs ys h.1 k)

digit_other : (d : ℕ) → is_ascii_digit d ≡ true → (d == 10) ≡ false
digit_other d is = go (d == 10) refl
  where
    go : (t : Bool) → (d == 10) ≡ t → (d == 10) ≡ false
    go false e = e
    go true e =
        let ten : d ≡ 10 = eqb-true d 10 e in
        let no : is_ascii_digit 10 ≡ true = subst (λ n. is_ascii_digit n ≡ true) ten is in
        absurd (cc)

digits_other : (ds : List ℕ) → all_ascii_digits ds ≡ true → NoFeed ds
digits_other [] all = tt
digits_other (d ∷ ds) all =
    let parts = and_parts (is_ascii_digit d) (all_ascii_digits ds) all in
    (digit_other d parts.0, digits_other ds parts.1)

decimal_other : (n : ℕ) → n < 2 ^ 64 → NoFeed (decimal n)
decimal_other n small = digits_other (decimal n) (digits_decimal own n small)

count_is : (n : ℕ) → n ≤ 2 ^ 31 → IsTextLine (count_line n)
count_is n few = record { front = decimal n; is = refl; none = decimal_other n (omega (arith, few)) }

entry_is : (entry : ℕ × ℕ) → entry.0 < 2 ^ 31 → entry.1 ≤ 2 ^ 62 → IsTextLine (entry_line entry)
entry_is entry low fits = record {
  front = decimal entry.0 ++ 32 ∷ [] ++ decimal entry.1;
  is = refl;
  none = no_feed_append (decimal entry.0 ++ 32 ∷ []) (decimal entry.1) (no_feed_append (decimal entry.0) (32 ∷ []) (decimal_other entry.0 (omega (arith, low))) (refl, tt)) (decimal_other entry.1 (omega (arith, fits)));
}

entries_are : (line : List (ℕ × ℕ)) → IsLine line → AllByRecursion IsTextLine (map entry_line line)
entries_are [] is = tt
entries_are (entry ∷ line) is = (entry_is entry is.0 is.1, entries_are line is.3)

-- what can begin a text are lines
lines_are : (lines : List (List ℕ)) → CanBegin lines → AllByRecursion IsTextLine lines
lines_are [] can = tt
lines_are (version ∷ []) can = (subst IsTextLine (sym can) (record { front = 48 ∷ []; is = refl; none = (refl, tt) }), tt)
lines_are (version ∷ count ∷ entries) can = (
  subst IsTextLine (sym can.0) (record { front = 48 ∷ []; is = refl; none = (refl, tt) }),
  (subst IsTextLine (sym can.1.2) (count_is can.1.0 can.1.1), subst (AllByRecursion IsTextLine) (sym can.1.3.spelled) (entries_are can.1.3.line can.1.3.rises)),
)

-- the place after a line
behind_line : (front : List ℕ) (lines : ℕ) (rest : List ℕ) → NoFeed front → place_behind (suc lines) ((front ++ 10 ∷ []) ++ rest) ≡ length (front ++ 10 ∷ []) + place_behind lines rest
behind_line [] lines rest none = omega arith
behind_line (b ∷ front) lines rest none = rw none.0 (let more = behind_line front lines rest none.1 in omega (arith, more))

-- after so many lines
behind_lines : (lines : List (List ℕ)) (rest : List ℕ) → AllByRecursion IsTextLine lines → place_behind (length lines) (concat lines ++ rest) ≡ length (concat lines)
behind_lines [] rest are = refl
behind_lines (line ∷ lines) rest are =
    let one = are.0 in
    let more = behind_lines lines rest are.1 in
    let size = length-append line (concat lines) in
    let here : place_behind (suc (length lines)) (line ++ (concat lines ++ rest)) ≡ length line + place_behind (length lines) (concat lines ++ rest) =
    subst (λ (l : List ℕ). place_behind (suc (length lines)) (l ++ (concat lines ++ rest)) ≡ length l + place_behind (length lines) (concat lines ++ rest)) (sym one.is)
    (behind_line one.front (length lines) (concat lines ++ rest) one.none) in
    ap (place_behind (suc (length lines))) (append_assoc line (concat lines) rest) ∙ (here ∙ (omega (arith, more, size)))

concat_push : (lines : List (List ℕ)) (line : List ℕ) → concat (lines ++ line ∷ []) ≡ concat lines ++ line
concat_push [] line = append-nil line
concat_push (x ∷ lines) line = ap (λ t. x ++ t) (concat_push lines line) ∙ sym (append_assoc x (concat lines) line)

-- a text that other read: it is wrong, and the place is reported
pub bad_text : (entry : Entry) (bytes : List ℕ) (number at : ℕ) → text.IsFirstBadLine bytes number → at ≡ place_behind (number - 1) bytes
    → ((line : List (ℕ × ℕ)) → HasMap entry bytes line → ⊥) × IsFirstBad concat CanBegin bytes at
bad_text entry bytes number at bad is =
    let counted = bad.counted in
    let lines : number - 1 ≡ length bad.before = omega (arith, counted) in (
      λ line h. bad.unread line h.is h.bytes_are,
      record {
        before = bad.before;
        rest = bad.rest;
        parts = bad.parts;
        place = is ∙ (ap (λ n. place_behind n bytes) lines ∙ (ap (place_behind (length bad.before)) bad.parts ∙ behind_lines bad.before bad.rest (lines_are bad.before bad.stands)));
        begins = bad.stands;
        stops = λ line more e can.
            let whole : concat bad.before ++ bad.rest ≡ concat bad.before ++ (line ++ more) = sym bad.parts ∙ (e ∙ (ap (λ t. t ++ more) (concat_push bad.before line) ∙ append_assoc (concat bad.before) line more)) in
            bad.stops line more (pieces-same (concat bad.before) (concat bad.before) bad.rest (line ++ more) refl whole).1 can;
      },
    )

count_text : (n : ℕ) (rest : List ℕ) → count_line n ++ rest ≡ number_text 10 n rest
count_text n rest = append_assoc (decimal n) (10 ∷ []) rest

text_parts : (line : List (ℕ × ℕ)) → text_of line ≡ version_line ++ (count_line (length line) ++ concat (map entry_line line))
text_parts line = append_assoc version_line (count_line (length line)) (concat (map entry_line line))

-- a text has one leader epochs
pub text_same : (one other : List (ℕ × ℕ)) → IsLine one → IsLine other → text_of one ≡ text_of other → one ≡ other
text_same one other h k e =
    let whole : version_line ++ (count_line (length one) ++ concat (map entry_line one)) ≡ version_line ++ (count_line (length other) ++ concat (map entry_line other)) = sym (text_parts one) ∙ (e ∙ text_parts other) in
    let behind = (pieces-same version_line version_line (count_line (length one) ++ concat (map entry_line one)) (count_line (length other) ++ concat (map entry_line other)) refl whole).1 in
    let few = length-line one h in
    let few' = length-line other k in
    let both = number-unique (length one) (length other) 10 (concat (map entry_line one)) (concat (map entry_line other)) (omega (arith, few)) (omega (arith, few')) refl
    (sym (count_text (length one) (concat (map entry_line one))) ∙ (behind ∙ count_text (length other) (concat (map entry_line other)))) in
    let l = longer-text one other [] h k (omega (arith, both.0)) (sym both.1 ∙ sym (append-nil (concat (map entry_line one)))) in
    go l.more l.is both.0
  where
    go : (more : List (ℕ × ℕ)) → other ≡ one ++ more → length one ≡ length other → one ≡ other
    go [] is same = sym (is ∙ append-nil one)
    go (x ∷ more) is same = absurd (let size = ap length is ∙ length-append one (x ∷ more) in omega (arith, size, same))

-- a text that is read, and whose line hasn't the map, ends where it breaks
pub whole_text : (bytes : List ℕ) (line : List (ℕ × ℕ)) → IsLine line → bytes ≡ text_of line → IsFirstBad concat CanBegin bytes (length bytes)
whole_text bytes line h e = record {
  before = version_line ∷ count_line (length line) ∷ map entry_line line;
  rest = [];
  parts = e ∙ (text_parts line ∙ sym (append-nil (concat (version_line ∷ count_line (length line) ∷ map entry_line line))));
  place = ap length (e ∙ text_parts line);
  begins = (refl, (length line, length-line line h, refl, record { line = line; rises = h; few = omega arith; spelled = refl }));
  stops = λ one more is can.
      let last = one-more line can.1.3.line one h can.1.3.rises can.1.3.spelled in
      let some = ap length last.text ∙ long last.entry in
      let size = ap length (is ∙ ap (λ t. t ++ more) (concat_push (version_line ∷ count_line (length line) ∷ map entry_line line) one)) in
      let parts = length-append (concat (version_line ∷ count_line (length line) ∷ map entry_line line) ++ one) more in
      let first = length-append (concat (version_line ∷ count_line (length line) ∷ map entry_line line)) one in
      let same = ap length (e ∙ text_parts line) in
      omega (arith, some, size, parts, first, same);
}
  where
    long : (entry : ℕ × ℕ) → length (entry_line entry) ≡ length (decimal entry.0 ++ 32 ∷ [] ++ decimal entry.1) + 1
    long entry = length-append (decimal entry.0 ++ 32 ∷ [] ++ decimal entry.1) (10 ∷ [])

-- a line that is read and hasn't the map is wrong
pub other_map : (entry : Entry) (bytes : List ℕ) (line : List (ℕ × ℕ)) → IsLine line → bytes ≡ text_of line → (within line entry.start entry.end ≡ entry.map → ⊥) → (other : List (ℕ × ℕ)) → HasMap entry bytes other → ⊥
other_map entry bytes line h e none other m =
    let same : line ≡ other = text_same line other h m.is (sym e ∙ m.bytes_are) in
    none (ap (λ (l : List (ℕ × ℕ)). within l entry.start entry.end) same ∙ m.map_is)

-- one byte on
pub step_on : (left lines at b : ℕ) (rest : List ℕ) (total : ℕ) → 0 < left → at + place_behind left (b ∷ rest) ≡ total
    → (b ≡ 10 → (at + 1) + place_behind (left - 1) rest ≡ total) × ((b ≡ 10 → ⊥) → (at + 1) + place_behind left rest ≡ total)
step_on zero lines at b rest total some e = absurd (omega (arith, some))
step_on (suc left) lines at b rest total some e =
    let less : suc left - 1 ≡ left = omega arith in (
      λ is. (let yes : (b == 10) ≡ true = eq-eqb b 10 is in let here : at + (1 + place_behind left rest) ≡ total = rw yes at e in rw less (omega (arith, here))),
      λ other. (let no : (b == 10) ≡ false = ne_eqb b 10 other in let here : at + (1 + place_behind (suc left) rest) ≡ total = rw no at e in omega (arith, here)),
    )

-- no byte is left
pub none_on : (left at total : ℕ) (bytes : List ℕ) → length bytes ≤ at → at + place_behind left (drop at bytes) ≡ total → at ≡ total
none_on left at total bytes all e = by left (drop at bytes) (short at bytes all) e
  where
    short : (n : ℕ) (xs : List ℕ) → length xs ≤ n → drop n xs ≡ []
    short zero [] l = refl
    short zero (x ∷ xs) l = absurd (omega (arith, l))
    short (suc n) [] l = refl
    short (suc n) (x ∷ xs) l = short n xs (omega (arith, l))

    by : (left : ℕ) (rest : List ℕ) → rest ≡ [] → at + place_behind left rest ≡ total → at ≡ total
    by zero rest none e = omega (arith, e)
    by (suc left) [] none e = omega (arith, e)
    by (suc left) (x ∷ rest) none e = absurd (cc)

-- pairs that a test distinguishes
pub pair_decides : (x y : ℕ × ℕ) → ((x.0 == y.0) && (x.1 == y.1) ≡ true → x ≡ y) × (x ≡ y → (x.0 == y.0) && (x.1 == y.1) ≡ true)
pair_decides x y = (
  λ t. (let both = and_parts (x.0 == y.0) (x.1 == y.1) t in ap (λ n. (n, x.1)) (eqb-true x.0 y.0 both.0) ∙ ap (λ n. (y.0, n)) (eqb-true x.1 y.1 both.1)),
  λ e. and_from (x.0 == y.0) (x.1 == y.1) (eq-eqb x.0 y.0 (ap (λ (p : ℕ × ℕ). p.0) e)) (eq-eqb x.1 y.1 (ap (λ (p : ℕ × ℕ). p.1) e)),
)
