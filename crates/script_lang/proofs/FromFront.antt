-- A script from its front.
use Rattle.std.proofs.Common.{◌≡◌, ◌∙◌, sym, ap, refl, ℕ, ◌+◌, ◌<◌, List, [], ◌∷◌, Bool, true, false, cond, length, arith, take, drop, add-one}
use Rattle.std.specs.Prelude.{◌==◌, Result, Ok, Err}
use Rattle.script_lang.specs.declared.refusal.Why.{Why}
use Rattle.script_lang.specs.Lines.{lines_of, before_first}
use Rattle.script_lang.specs.declared.refusal.ScriptRefusal.{ScriptRefusal}
use Rattle.script_lang.specs.declared.refusal.ScriptRefusal.TheVariants.{Bad, NoMemory}
use Rattle.script_lang.specs.Reading.{line_len, ReadsLine}
use Rattle.script_lang.specs.Script.{Told, go_on, lines_behind, line_behind, ReadsScript}

first-cases : (t : Bool) (b : ℕ) (bs : List ℕ) → (0 < length bs → lines_of bs ≡ take (line_len bs) bs ∷ lines_of (drop (line_len bs) bs))
    → cond t ((b ∷ []) ∷ lines_of bs) (before_first b (lines_of bs)) ≡ take (cond t 1 (line_len bs + 1)) (b ∷ bs) ∷ lines_of (drop (cond t 1 (line_len bs + 1)) (b ∷ bs))
first-cases true b bs ih = refl
first-cases false b [] ih = refl
first-cases false b (c ∷ cs) ih = let h : lines_of (c ∷ cs) ≡ take (line_len (c ∷ cs)) (c ∷ cs) ∷ lines_of (drop (line_len (c ∷ cs)) (c ∷ cs)) = ih (omega arith) in rw (h, add-one (line_len (c ∷ cs))) refl

-- the first line, and those of the rest
lines_of-first : (bs : List ℕ) → 0 < length bs → lines_of bs ≡ take (line_len bs) bs ∷ lines_of (drop (line_len bs) bs)
lines_of-first [] h = absurd (omega arith)
lines_of-first (b ∷ bs) h = first-cases (b == 10) b bs (lines_of-first bs)

reading-first : (t : Told) (n : ℕ) (bs : List ℕ) (found : Result Told Why) → 0 < length bs → line_behind t (take (line_len bs) bs) ≡ found
    → lines_behind t n (lines_of bs) ≡ go_on found n (λ next. lines_behind next (n + 1) (lines_of (drop (line_len bs) bs)))
reading-first t n bs found h is =
    ap (λ (ls : List (List ℕ)). lines_behind t n ls) (lines_of-first bs h)
    ∙ ap (λ (r : Result Told Why). go_on r n (λ next. lines_behind next (n + 1) (lines_of (drop (line_len bs) bs)))) is

-- one line more
pub line-more : (t next : Told) (n : ℕ) (bs : List ℕ) (all : Result Told (ℕ × Why)) → 0 < length bs → line_behind t (take (line_len bs) bs) ≡ Ok next
    → lines_behind t n (lines_of bs) ≡ all → lines_behind next (n + 1) (lines_of (drop (line_len bs) bs)) ≡ all
line-more t next n bs all some is read = sym (reading-first t n bs (Ok next) some is) ∙ read

-- no line more
pub line-none : (t : Told) (n : ℕ) (bs : List ℕ) (why : Why) (all : Result Told (ℕ × Why)) → 0 < length bs → line_behind t (take (line_len bs) bs) ≡ Err why
    → lines_behind t n (lines_of bs) ≡ all → all ≡ Err (n, why)
line-none t n bs why all some is read = sym read ∙ reading-first t n bs (Err why) some is

-- no line more, as the reader of a line reports it
pub line-refused : (t : Told) (n : ℕ) (bs line : List ℕ) (refusal : ScriptRefusal) (all : Result Told (ℕ × Why)) → 0 < length bs → line ≡ take (line_len bs) bs
    → ReadsLine n (Err refusal) (line_behind t line) → lines_behind t n (lines_of bs) ≡ all → ReadsScript (Err refusal) all
line-refused t n bs line (Bad number why) all some is reads read = rw (reads.0) (line-none t n bs why all some (ap (line_behind t) (sym is) ∙ reads.1) read)
line-refused t n bs line NoMemory all some is reads read = tt

-- what isn't empty has bytes
pub nonempty : (bs : List ℕ) → (length bs == 0) ≡ false → 0 < length bs
nonempty [] h = cc
nonempty (b ∷ bs) h = omega arith
