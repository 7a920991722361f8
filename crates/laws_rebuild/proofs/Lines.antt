-- A line is identified by its text, and the epochs that are beside a remote segment are a path's.
use Rattle.std.proofs.Common.{◌≡◌, ◌∙◌, sym, ap, subst, refl, ℕ, ◌≤◌, ◌^◌, List, [], ◌∷◌, ◌++◌, length, map, arith, append_assoc, append-nil}
use Rattle.std.specs.Prelude.{decimal}
use Rattle.std.specs.List.{concat}
use mathlib.Core.List.{IsPrefix}
use Rattle.tier_base.specs.Number.{number_text}
use Rattle.tier_base.specs.declared.plain.Part.TheVariants.{Epochs}
use Rattle.tier_base.proofs.Digits.{number-unique}
use Rattle.log_terms.specs.Batch.{epoch_of}
use Rattle.log_terms.specs.Line.{line_of}
use Rattle.log_terms.specs.Log.{end_of, end_from}
use Rattle.log_terms.proofs.Lists.{prefix_trans}
use Rattle.log_terms.proofs.Logs.{end_append}
use Rattle.epoch_line.specs.Line.{IsLine, cut_end}
use Rattle.epoch_line.specs.Text.{version_line, count_line, entry_line, text_of}
use Rattle.epoch_line.proofs.Rising.{length-line}
use Rattle.epoch_line.proofs.Spelling.{longer-text}
use Rattle.segment_file.specs.Segment.{EpochsRise}
use Rattle.segment_meta.specs.declared.note.Entry.{Entry}
use Rattle.segment_bundle.specs.Parts.{parts_of, part_in}
use Rattle.object_store.specs.Content.{Objects}
use Rattle.plain_log.specs.declared.state.State.{State as Plain}
use Rattle.plain_log.specs.Safe.{LogSafe, PlainSafe}
use Rattle.tier_safe.specs.Lineage.{IsStoredWhole}
use Rattle.tier_safe.specs.Kept.{whole_of}
use Rattle.tier_safe.proofs.Agreeing.{has_safe}
use Rattle.tier_safe.proofs.Rules.{line_rises}
use Rattle.laws_tier_fetch.proofs.Reading.{first_is}

-- a line has one text

count_text : (n : ℕ) (rest : List ℕ) → count_line n ++ rest ≡ number_text 10 n rest
count_text n rest = append_assoc (decimal n) (10 ∷ []) rest

pub one_text : (line other : List (ℕ × ℕ)) → IsLine line → IsLine other → text_of line ≡ text_of other → line ≡ other
one_text line other h k e =
    let parts = λ (l : List (ℕ × ℕ)). append_assoc version_line (count_line (length l)) (concat (map entry_line l)) in
    let whole : version_line ++ (count_line (length line) ++ concat (map entry_line line)) ≡ version_line ++ (count_line (length other) ++ concat (map entry_line other)) = sym (parts line) ∙ (e ∙ parts other) in
    let behind : count_line (length line) ++ concat (map entry_line line) ≡ count_line (length other) ++ concat (map entry_line other) = cc (whole) in
    let a = length-line line h in
    let b = length-line other k in
    let both = number-unique (length line) (length other) 10 (concat (map entry_line line)) (concat (map entry_line other)) (omega (arith, a)) (omega (arith, b)) refl
    (sym (count_text (length line) _) ∙ (behind ∙ count_text (length other) _)) in
    let more = longer-text line other [] h k (omega (arith, both.0)) (sym both.1 ∙ sym (append-nil (concat (map entry_line line)))) in
    none line other more.more more.is (omega (arith, both.0))
  where
    longer : (xs : List (ℕ × ℕ)) (x : ℕ × ℕ) (ys : List (ℕ × ℕ)) → length (xs ++ x ∷ ys) ≤ length xs → ⊥
    longer [] x ys le = omega (arith, le)
    longer (w ∷ xs) x ys le = longer xs x ys (omega (arith, le))

    none : (l m more : List (ℕ × ℕ)) → m ≡ l ++ more → length m ≤ length l → l ≡ m
    none l m [] is le = sym (is ∙ append-nil l)
    none l m (one ∷ more) is le = absurd (longer l one more (subst (λ (k : List (ℕ × ℕ)). length k ≤ length l) is le))

-- the line of a safe log

-- epochs never fall along it, and are below 2^31
epochs_rise : (p : Plain) (log : List (List ℕ)) → PlainSafe p → LogSafe p.paths log → EpochsRise 0 log
epochs_rise p log s safe = go 0 [] log refl (λ b pre. omega arith)
  where
    go : (e : ℕ) (front bs : List (List ℕ)) → front ++ bs ≡ log → ((b : List ℕ) → IsPrefix (front ++ b ∷ []) log → e ≤ epoch_of b) → EpochsRise e bs
    go e front [] is low = tt
    go e front (b ∷ bs) is low =
        let next : (front ++ b ∷ []) ++ bs ≡ log = append_assoc front (b ∷ []) bs ∙ is in
        let here = safe.matching front b (bs, next) in
        let below = (s.paths (epoch_of b) here.0 here.1).below in
        let limit = s.marks.epoch in (
          low b (bs, next),
          omega (arith, below, limit),
          go (epoch_of b) (front ++ b ∷ []) bs next (λ d pre.
              let m = safe.matching (front ++ b ∷ []) d pre in
              (s.paths (epoch_of d) m.0 m.1).epochs front b (prefix_trans (front ++ b ∷ []) ((front ++ b ∷ []) ++ d ∷ []) m.0 (d ∷ [], refl) m.2)),
        )

pub safe_rises : (p : Plain) (log : List (List ℕ)) → PlainSafe p → LogSafe p.paths log → end_of log ≤ 2 ^ 62 → IsLine (line_of log)
safe_rises p log s safe low = line_rises 0 log safe.consecutive (epochs_rise p log s safe) low

-- what a finished copy holds, with what its path has before

pub whole_rises : (objects : Objects) (p : Plain) (entry : Entry) → PlainSafe p → (h : IsStoredWhole objects p.paths entry) → IsLine (line_of (whole_of h))
whole_rises objects p entry s h =
    let safe = has_safe p h.describes.part.epoch (whole_of h) s h.describes.part.begins in
    let end : end_of (whole_of h) ≡ end_from entry.start h.batches = end_append 0 h.describes.part.front h.batches ∙ ap (λ (n : ℕ). end_from n h.batches) h.describes.part.ends in
    safe_rises p (whole_of h) s safe (omega (arith, end, h.describes.is.low))

-- the epochs that are beside it are those of all of that
pub epochs_are : (objects : Objects) (p : Plain) (entry : Entry) → (h : IsStoredWhole objects p.paths entry)
    → part_in (parts_of h.batches h.line h.interval) Epochs ≡ text_of (line_of (whole_of h))
epochs_are objects p entry h =
    let d = h.describes in
    let first = first_is entry.start h.batches d.some d.is.consecutive in
    ap (λ (n : ℕ). text_of (cut_end h.line (end_from n h.batches))) first ∙ ap text_of d.part.line_is
