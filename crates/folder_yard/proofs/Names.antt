-- A file has one name, and a name is that of one file.
use Rattle.std.proofs.Common.{◌≡◌, ◌≢◌, ◌∙◌, sym, ap, refl, ℕ, ◌<◌, ◌^◌, Option, Some, None, List, ◌++◌, length, take, drop, subst, arith, length-append}
use Rattle.std.specs.Prelude.{codes}
use Rattle.std.proofs.lemmas.List.{take_at, drop_at, take-append-drop}
use Rattle.tier_base.specs.declared.plain.FileName.{FileName}
use Rattle.tier_base.specs.declared.plain.FileName.TheVariants.{Manifest, Log, Notes, Gate, Registry}
use Rattle.folder_yard.specs.Name.{digits_of, base_text, file_text, IsNameInRange, IsNotFixed, ReadsBase, ReadsLogName}

-- digits that aren't those of their value are those of no base offset
pub no_base : (digits : List ℕ) (value base : ℕ) → length digits ≡ 20 → base < 2 ^ 64 → base_text base ≡ digits
    → ((n : ℕ) → n < 2 ^ 64 → n < 10 ^ length digits → digits ≡ digits_of (length digits) n → value ≡ n) → (digits ≡ digits_of (length digits) value → ⊥) → ⊥
unfolding base_text
no_base digits value base len small is valued not =
    let spelled : digits ≡ digits_of (length digits) base = subst (λ (w : ℕ). digits ≡ digits_of w base) (sym len) (sym is) in
    let fits : base < 10 ^ length digits = subst (λ (w : ℕ). base < 10 ^ w) (sym len) (omega (arith, small)) in
    not (subst (λ (n : ℕ). digits ≡ digits_of (length digits) n) (sym (valued base small fits spelled)) spelled)

-- a base offset has twenty digits
pub base_text-length : (base : ℕ) → length (base_text base) ≡ 20
unfolding base_text
base_text-length base = refl

-- a log segment's name has 24 letters
pub log_text-length : (base : ℕ) (text : List ℕ) → base_text base ++ codes ".log" ≡ text → length text ≡ 24
log_text-length base text is = let long = ap length is in omega (arith, long, length-append (base_text base) (codes ".log"), base_text-length base)

-- the base offset precedes it
pub log_text-base : (base : ℕ) (text front : List ℕ) → base_text base ++ codes ".log" ≡ text → front ≡ take 20 text → base_text base ≡ front
log_text-base base text front is f = sym (f ∙ (ap (take 20) (sym is) ∙ take_at (base_text base) (codes ".log") 20 (base_text-length base)))

-- and the ending after it
pub log_text-end : (base : ℕ) (text back : List ℕ) → base_text base ++ codes ".log" ≡ text → back ≡ drop 20 text → codes ".log" ≡ back
log_text-end base text back is b = sym (b ∙ (ap (drop 20) (sym is) ∙ drop_at (base_text base) (codes ".log") 20 (base_text-length base)))

-- a log segment's name is read as its base offset is
pub log_reads : (text front back : List ℕ) (r : Option ℕ) → ReadsBase front r → front ≡ take 20 text → back ≡ drop 20 text → back ≡ codes ".log" → ReadsLogName text r
log_reads text front back None none f b end = λ base small is. none base small (log_text-base base text front is f)
log_reads text front back (Some base) found f b end = (found.0, ap (λ (d : List ℕ). d ++ codes ".log") (found.1 ∙ f) ∙ (ap (λ (e : List ℕ). take 20 text ++ e) (sym end ∙ b) ∙ take-append-drop 20 text))

-- a name is that of a log segment or another
pub no_name : (text : List ℕ) → ((base : ℕ) → base < 2 ^ 64 → file_text (Log base) ≢ text) → IsNotFixed text → (name : FileName) → IsNameInRange name → file_text name ≢ text
no_name text log other Manifest is = other.manifest
no_name text log other (Log base) is = log base is
no_name text log other Notes is = other.notes
no_name text log other Gate is = other.gate
no_name text log other Registry is = other.registry
