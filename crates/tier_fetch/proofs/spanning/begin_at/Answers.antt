use Rattle.std.proofs.Common.{◌≡◌, ◌∙◌, ◌+◌, ℕ, ap}
use Rattle.sparse_index.specs.Offsets.{find}
use Rattle.tier_fetch.specs.Span.{capped}
use Rattle.tier_fetch.proofs.Past.{base_found}
use Rattle.tier_fetch.proofs.spanning.begin_at.Goals as goal

pub returns-in-Some : goal.returns-in-Some
returns-in-Some c =
    let index = c.args.index.now in
    let base : c.find-base.result.0 ≡ index.base = ap (λ (found : ℕ × ℕ). found.0) c.find-base.ensures ∙ base_found index in
    let place : c.saturating_add.result ≡ capped (index.base + c.in-Some.last.now) = c.saturating_add.ensures ∙ ap (λ n. capped (n + c.in-Some.last.now)) base in
    let found : c.find.result.1 ≡ (find index (capped (index.base + c.in-Some.last.now))).1 =
    ap (λ (found : ℕ × ℕ). found.1) c.find.ensures ∙ ap (λ n. (find index n).1) place in
    rw c.in-Some.is found
