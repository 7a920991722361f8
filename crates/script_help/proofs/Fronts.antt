-- Fronts of a text that end with a word, and parts of a text.
use Rattle.std.proofs.Common.{◌≡◌, ◌≤◌, ◌<◌, ◌-◌, ◌++◌, ◌∙◌, ap, sym, inl, inr, ℕ, ◌+◌, true, false, List, length, length-append, take, drop, get_or, append_assoc, arith}
use Rattle.std.proofs.lemmas.List.{take-append-drop, length-take-le, get_or-take, get_or_append_left}
use Rattle.std.proofs.lemmas.Bool.{cases_lt}
use Rattle.std.specs.List.{IsAfterLastMatch}
use Rattle.script_lang.specs.Words.{is_blank}
use Rattle.script_help.specs.Places.{IsHead, IsPartOf, BeginsWord}

pub head_at : (text : List ℕ) (i : ℕ) → 0 < i → i ≤ length text → is_blank (get_or text (i - 1) 32) ≡ false → IsHead text (take i text)
head_at text i some within last =
    let long : length (take i text) ≡ i = length-take-le i text within in
    record {
      rest = drop i text;
      parts = take-append-drop i text;
      some = rw long some;
      last = rw long (ap is_blank (get_or-take i text (i - 1) 32 (omega arith)) ∙ last);
    }

pub part_behind : (part rest all : List ℕ) (i : ℕ) → rest ≡ drop i all → IsPartOf part rest → IsPartOf part all
part_behind part rest all i is h = record {
  left = take i all ++ h.left;
  right = h.right;
  parts = ap (λ x. x ++ h.right) (append_assoc (take i all) h.left part) ∙ append_assoc (take i all) (h.left ++ part) h.right
      ∙ ap (λ x. take i all ++ x) (h.parts ∙ is) ∙ take-append-drop i all;
}

pub cut_twice : (all left rest part right : List ℕ) (i j : ℕ) → left ≡ take i all → rest ≡ drop i all → part ≡ take j rest → right ≡ drop j rest
    → left ++ part ++ right ≡ all
cut_twice all left rest part right i j l r p q =
    append_assoc left part right ∙ ap (λ x. left ++ (x ++ right)) p ∙ ap (λ x. left ++ (take j rest ++ x)) q ∙ ap (λ x. left ++ x) (take-append-drop j rest ∙ r)
    ∙ ap (λ x. x ++ drop i all) l ∙ take-append-drop i all

-- a last word isn't empty
word_within : (text head : List ℕ) (at : ℕ) → IsHead text head → at ≤ length head → IsAfterLastMatch is_blank head at → at < length head
word_within text head at h within place = elim (cases_lt at (length head)) [
  | inl below ↦ below
  | inr past ↦
      let is : length head ≡ at = omega (arith, past, within) in
      let blank : is_blank (get_or head (length head - 1) 32) ≡ true =
      ap (λ n. is_blank (get_or head (n - 1) 32)) is ∙ place.1 (omega (arith, is, h.some)) 32 in
      let never : true ≡ false = sym blank ∙ h.last in
      absurd cc
]

pub word_begins : (text head : List ℕ) (at : ℕ) → IsHead text head → at ≤ length head → IsAfterLastMatch is_blank head at → BeginsWord text at
word_begins text head at h within place =
    let inside : at < length head = word_within text head at h within place in
    let long : length text ≡ length head + length h.rest = ap length (sym h.parts) ∙ length-append head h.rest in
    let same : (i : ℕ) → i < length head → get_or text i 32 ≡ get_or head i 32 =
    λ i below. ap (λ t. get_or t i 32) (sym h.parts) ∙ get_or_append_left head h.rest 32 i below in
    record {
      within = omega (arith, inside, long);
      own = ap is_blank (same at inside) ∙ place.0 at 32 (omega arith) inside;
      before = λ i is.
          let here : i ≡ at - 1 = omega (arith, is) in
          ap is_blank (same i (omega (arith, is, inside))) ∙ ap (λ n. is_blank (get_or head n 32)) here ∙ place.1 (omega (arith, is)) 32;
    }
