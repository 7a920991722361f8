-- What an invalid script comes to.
use Rattle.std.proofs.Common.{◌≡◌, ◌∙◌, sym, ap, subst, refl, ℕ, ◌<◌, ◌≤◌, List, length, Some, None, Err, Option, ◌++◌, append-nil, arith}
use Rattle.std.specs.Prelude.{IsOk}
use Rattle.tier_base.specs.Counts.{counted}
use Rattle.tier_base.specs.Stream.{ReadsWhole}
use Rattle.tier_base.specs.declared.stream.Source.{Ghosts as SourceGhosts}
use Rattle.tier_base.specs.declared.stream.Sink.{Ghosts as SinkGhosts}
use Rattle.script_lang.specs.declared.refusal.Why.{Why}
use Rattle.script_lang.specs.Script.{script_in}
use Rattle.tiered_call.specs.declared.status.Status.TheVariants.{BadScript}
use Rattle.tiered_call.specs.Endings.{Simulates, script_limit}

-- a source that was read whole gave all that it had
whole : (old new : Option (List ℕ)) (bytes b : List ℕ) → ReadsWhole old new bytes → old ≡ Some b → b ≡ bytes
whole (Some xs) (Some ys) bytes b r e =
    let same : xs ≡ b = cc e in
    let end : bytes ++ ys ≡ bytes = ap (λ (k : List ℕ). bytes ++ k) r.at_end ∙ append-nil bytes in
    sym same ∙ (r.taken ∙ end)
whole (Some xs) None bytes b r e = elim r.taken [ ]
whole None new bytes b r e = absurd (cc e)

none_ok : (bytes b : List ℕ) (line : ℕ) (why : Why) → script_in bytes ≡ Err (line, why) → b ≡ bytes → IsOk (script_in b) → ⊥
none_ok bytes b line why bad same ok = absurd (cc (ok, ap script_in same ∙ bad))

one_refusal : (bytes b : List ℕ) (line n : ℕ) (why w : Why) → script_in bytes ≡ Err (line, why) → b ≡ bytes → script_in b ≡ Err (n, w) → (line ≡ n) × (why ≡ w)
one_refusal bytes b line n why w bad same is =
    let both : Err (line, why) ≡ Err (n, w) = sym bad ∙ (ap script_in (sym same) ∙ is) in
    let pair : (line, why) ≡ (n, w) = cc both in
    (ap (λ (p : ℕ × Why). p.0) pair, ap (λ (p : ℕ × Why). p.1) pair)

-- nor more than was read
not_over : (bytes b : List ℕ) → b ≡ bytes → length bytes ≤ script_limit → script_limit < length b → ⊥
not_over bytes b same within more = let lengths : length b ≡ length bytes = ap length same in omega (arith, lengths, within, more)

module _ {R W : Type 0} (Traces : List ℕ → List ℕ → Type 0) (source : SourceGhosts R) (sink : SinkGhosts W) where
  -- the source was read whole, and what it gave is invalid
  pub refuses : (script script' : R) (out : W) (bytes : List ℕ) (line : ℕ) (why : Why) → ReadsWhole (source.left script) (source.left script') bytes
      → source.given script' ≡ counted (source.given script) (length bytes) → length bytes ≤ script_limit → script_in bytes ≡ Err (line, why)
      → Simulates Traces source sink script script' out out (BadScript line why)
  refuses script script' out bytes line why read count within bad = record {
    trace = λ e. absurd (cc e);
    own = record {};
    read_fault = λ e. absurd (cc e);
    long = λ e. absurd (cc e);
    long_bytes = λ e. absurd (cc e);
    not_long = λ n. grind (arith, count, within);
    bad = λ l w e.
        let line_is : line ≡ l = cc e in
        let why_is : why ≡ w = cc e in
        record { script = bytes; read = read; refused = subst (λ (n : ℕ). script_in bytes ≡ Err (n, w)) line_is (subst (λ (k : Why). script_in bytes ≡ Err (line, k)) why_is bad) };
    write_fault = λ e. absurd (cc e);
    front = λ e. absurd (cc e);
    complete = λ infallible quiet b left few ok. absurd (none_ok bytes b line why bad (whole (source.left script) (source.left script') bytes b read left) ok);
    refused = λ infallible b n w left few is. one_refusal bytes b line n why w bad (whole (source.left script) (source.left script') bytes b read left) is;
    over = λ infallible b left more. not_over bytes b (whole (source.left script) (source.left script') bytes b read left) within more;
    unwritten = λ no there. refl;
  }
