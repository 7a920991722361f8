-- The first line that can't exist.
use Rattle.std.proofs.Common.{◌≡◌, ◌≢◌, ◌∙◌, sym, ap, refl, subst, ℕ, ◌+◌, ◌^◌, ◌<◌, ◌≤◌, List, [], ◌∷◌, ◌++◌, length, map, arith, append_assoc, append-nil, true, false}
use Rattle.std.specs.Prelude.{◌==◌}
use Rattle.std.specs.List.{concat}
use Rattle.std.specs.Fmt.{decimal}
use Rattle.std.proofs.lemmas.Fmt.{decimal_digit}
use Rattle.std.proofs.lemmas.List.{length-map, length-append, length_push}
use Rattle.epoch_line.specs.Line.{IsLine}
use Rattle.tier_base.specs.Number.{number_text}
use Rattle.epoch_line.specs.Text.{version_line, count_line, entry_line, entry_text, text_of, CanBegin, IsFirstBadLine}
use Rattle.epoch_line.proofs.Rising.{length-line}
use Rattle.tier_base.proofs.Digits.{number-unique}
use Rattle.epoch_line.proofs.Spelling.{line-front, longer-text, one-more}

-- the number 0 and its line feed are the version's line
pub version-number : (rest : List ℕ) → number_text 10 0 rest ≡ version_line ++ rest
version-number rest = rw (decimal_digit 0 (omega arith)) refl

count-text : (n : ℕ) (rest : List ℕ) → count_line n ++ rest ≡ number_text 10 n rest
count-text n rest = append_assoc (decimal n) (10 ∷ []) rest

-- a front has one count
count-unique : (n m : ℕ) (r s : List ℕ) → n ≤ 2 ^ 31 → m ≤ 2 ^ 31 → count_line n ++ r ≡ count_line m ++ s → (n ≡ m) × (r ≡ s)
count-unique n m r s a b e = number-unique n m 10 r s (omega (arith, a)) (omega (arith, b)) refl (sym (count-text n r) ∙ (e ∙ count-text m s))

-- the parts of a text
text-parts : (line : List (ℕ × ℕ)) → text_of line ≡ version_line ++ (count_line (length line) ++ concat (map entry_line line))
text-parts line = append_assoc version_line (count_line (length line)) (concat (map entry_line line))

-- no version is there
pub bad-version : (bytes : List ℕ) → ((n : ℕ) (rest : List ℕ) → n ≤ 0 → bytes ≢ number_text 10 n rest) → IsFirstBadLine bytes 1
bad-version bytes none = record {
  before = [];
  rest = bytes;
  parts = refl;
  stands = tt;
  counted = refl;
  stops = λ line more e can. none 0 more (omega arith) (e ∙ (ap (λ v. v ++ more) can ∙ sym (version-number more)));
  unread = λ line h e. none 0 (count_line (length line) ++ concat (map entry_line line)) (omega arith) (e ∙ (text-parts line ∙ sym (version-number _)));
}

-- no count is there
pub bad-count : (bytes rest : List ℕ) → bytes ≡ version_line ++ rest → ((n : ℕ) (more : List ℕ) → n ≤ 2 ^ 31 → rest ≢ number_text 10 n more) → IsFirstBadLine bytes 2
bad-count bytes rest is none = record {
  before = version_line ∷ [];
  rest = rest;
  parts = is;
  stands = refl;
  counted = refl;
  stops = λ line more e can. none can.1.0 more can.1.1 (e ∙ (ap (λ c. c ++ more) can.1.2 ∙ count-text can.1.0 more));
  unread = λ line h e. none (length line) (concat (map entry_line line)) (length-line line h)
      (let same : version_line ++ rest ≡ version_line ++ (count_line (length line) ++ concat (map entry_line line)) = sym is ∙ (e ∙ text-parts line) in
      let behind : rest ≡ count_line (length line) ++ concat (map entry_line line) = cc in
      behind ∙ count-text (length line) (concat (map entry_line line)));
}

-- the bytes begin with these entries of a text, of so many
pub record BeginsWith (bytes : List ℕ) (n : ℕ) (line : List (ℕ × ℕ)) (rest : List ℕ) : Type 0 where
  pub few : n ≤ 2 ^ 31
  pub rises : IsLine line
  pub within : length line ≤ n
  pub parts : bytes ≡ version_line ++ (count_line n ++ (concat (map entry_line line) ++ rest))

begins-parts : (bytes : List ℕ) (n : ℕ) (line : List (ℕ × ℕ)) (rest : List ℕ) → BeginsWith bytes n line rest → bytes ≡ concat (version_line ∷ count_line n ∷ map entry_line line) ++ rest
begins-parts bytes n line rest b = b.parts ∙ simp append_assoc

begins-can : (bytes : List ℕ) (n : ℕ) (line : List (ℕ × ℕ)) (rest : List ℕ) → BeginsWith bytes n line rest → CanBegin (version_line ∷ count_line n ∷ map entry_line line)
begins-can bytes n line rest b = (refl, (n, b.few, refl, record { line = line; rises = b.rises; few = b.within; spelled = refl }))

-- no entry is there that may follow, or more than the last entry
pub record IsStuck (n : ℕ) (line : List (ℕ × ℕ)) (rest : List ℕ) : Type 0 where
  pub none : (entry : ℕ × ℕ) (more : List ℕ) → IsLine (line ++ entry ∷ []) → length line < n → rest ≢ entry_text entry more
  pub full : length line ≡ n → rest ≢ []

stuck-stops : (n m : ℕ) (line longer : List (ℕ × ℕ)) (rest one more : List ℕ) → n ≤ 2 ^ 31 → m ≤ 2 ^ 31 → IsLine line → IsLine longer → length longer ≤ m → IsStuck n line rest
    → count_line n ≡ count_line m → map entry_line line ++ one ∷ [] ≡ map entry_line longer → rest ≡ one ++ more → ⊥
stuck-stops n m line longer rest one more few few' h h' l stuck counts spelled e =
    let same = count-unique n m [] [] few few' (ap (λ t. t ++ []) counts) in
    let last = one-more line longer one h h' spelled in
    let long : length longer ≡ length line + 1 = ap length last.is ∙ length_push line last.entry in
    stuck.none last.entry more (subst IsLine last.is h') (omega (arith, long, l, same.0)) (e ∙ ap (λ t. t ++ more) last.text)

stuck-more : (n : ℕ) (line longer more : List (ℕ × ℕ)) (rest : List ℕ) → IsLine longer → IsStuck n line rest → n ≡ length longer → longer ≡ line ++ more → rest ≡ concat (map entry_line more) → ⊥
stuck-more n line longer [] rest h stuck many is text = stuck.full (let long : length longer ≡ length line = ap length (is ∙ append-nil line) in omega (arith, long, many)) text
stuck-more n line longer (one ∷ more) rest h stuck many is text =
    let parts : longer ≡ (line ++ one ∷ []) ++ more = is ∙ sym (append_assoc line (one ∷ []) more) in
    let long : length longer ≡ length line + length (one ∷ more) = ap length is ∙ length-append line (one ∷ more) in
    stuck.none one (concat (map entry_line more)) (line-front (line ++ one ∷ []) more (subst IsLine parts h)) (omega (arith, long, many)) text

stuck-unread : (bytes : List ℕ) (n : ℕ) (line longer : List (ℕ × ℕ)) (rest : List ℕ) → BeginsWith bytes n line rest → IsStuck n line rest → IsLine longer → bytes ≡ text_of longer → ⊥
stuck-unread bytes n line longer rest b stuck h e =
    let same : version_line ++ (count_line n ++ (concat (map entry_line line) ++ rest)) ≡ version_line ++ (count_line (length longer) ++ concat (map entry_line longer)) = sym b.parts ∙ (e ∙ text-parts longer) in
    let counts : count_line n ++ (concat (map entry_line line) ++ rest) ≡ count_line (length longer) ++ concat (map entry_line longer) = cc in
    let both = count-unique n (length longer) _ _ b.few (length-line longer h) counts in
    let within = b.within in
    let behind = longer-text line longer rest b.rises h (omega (arith, within, both.0)) (sym both.1) in
    stuck-more n line longer behind.more rest h stuck both.0 behind.is behind.text

-- the entries exist, and no line after them can
pub bad-line : (bytes : List ℕ) (n : ℕ) (line : List (ℕ × ℕ)) (rest : List ℕ) → BeginsWith bytes n line rest → IsStuck n line rest → IsFirstBadLine bytes (length line + 3)
bad-line bytes n line rest b stuck = record {
  before = version_line ∷ count_line n ∷ map entry_line line;
  rest = rest;
  parts = begins-parts bytes n line rest b;
  stands = begins-can bytes n line rest b;
  counted = omega (arith, length-map line entry_line);
  stops = λ one more e can. stuck-stops n can.1.0 line can.1.3.line rest one more b.few can.1.1 b.rises can.1.3.rises can.1.3.few stuck can.1.2 can.1.3.spelled e;
  unread = λ longer h e. stuck-unread bytes n line longer rest b stuck h e;
}

-- the version that was read
pub version-read : (n : ℕ) (bytes rest : List ℕ) → n ≤ 0 → bytes ≡ number_text 10 n rest → bytes ≡ version_line ++ rest
version-read n bytes rest l e = let none : n ≡ 0 = omega (arith, l) in e ∙ (ap (λ m. number_text 10 m rest) none ∙ version-number rest)

-- the head that was read
pub head-read : (n : ℕ) (bytes behind rest : List ℕ) → bytes ≡ version_line ++ behind → behind ≡ number_text 10 n rest → bytes ≡ version_line ++ count_line n ++ rest
head-read n bytes behind rest e f = e ∙ ap (λ b. version_line ++ b) (f ∙ sym (count-text n rest))

-- one entry more was read
pub begins-more : (bytes : List ℕ) (n : ℕ) (line : List (ℕ × ℕ)) (rest : List ℕ) (entry : ℕ × ℕ) (behind : List ℕ) → BeginsWith bytes n line rest → length line < n → IsLine (line ++ entry ∷ []) → rest ≡ entry_text entry behind → BeginsWith bytes n (line ++ entry ∷ []) behind
begins-more bytes n line rest entry behind b l h e = record {
  few = b.few;
  rises = h;
  within = omega (arith, length_push line entry, l);
  parts = b.parts ∙ ap (λ t. version_line ++ (count_line n ++ t)) (ap (λ t. concat (map entry_line line) ++ t) e ∙ (sym (append_assoc (concat (map entry_line line)) (entry_line entry) behind) ∙ ap (λ t. t ++ behind) (sym (concat-push line entry))));
}
  where
    concat-push : (line : List (ℕ × ℕ)) (entry : ℕ × ℕ) → concat (map entry_line (line ++ entry ∷ [])) ≡ concat (map entry_line line) ++ entry_line entry
    concat-push [] entry = append-nil (entry_line entry)
    concat-push (one ∷ line) entry = ap (λ t. entry_line one ++ t) (concat-push line entry) ∙ sym (append_assoc (entry_line one) (concat (map entry_line line)) (entry_line entry))

-- all of the entries were read, and nothing follows
pub begins-whole : (bytes : List ℕ) (n : ℕ) (line : List (ℕ × ℕ)) (rest : List ℕ) → BeginsWith bytes n line rest → length line ≡ n → rest ≡ [] → bytes ≡ text_of line
begins-whole bytes n line rest b many none =
    b.parts
    ∙ (ap (λ t. version_line ++ (count_line n ++ (concat (map entry_line line) ++ t))) none
    ∙ (ap (λ t. version_line ++ (count_line n ++ t)) (append-nil (concat (map entry_line line)))
    ∙ (ap (λ m. version_line ++ (count_line m ++ concat (map entry_line line))) (sym many) ∙ sym (text-parts line))))

-- the same at the number of entries that were read
pub bad-at : (bytes : List ℕ) (n k : ℕ) (line : List (ℕ × ℕ)) (rest : List ℕ) → BeginsWith bytes n line rest → IsStuck n line rest → length line ≡ k → IsFirstBadLine bytes (k + 3)
bad-at bytes n k line rest b stuck e = subst (λ (m : ℕ). IsFirstBadLine bytes (m + 3)) e (bad-line bytes n line rest b stuck)

-- a test says that something is there
pub some-rest : (rest : List ℕ) → false ≡ (length rest == 0) → rest ≢ []
some-rest [] h e = let no : false ≡ true = h in cc
some-rest (one ∷ rest) h e = cc
