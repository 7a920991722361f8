use Rattle.std.proofs.Common.{◌≡◌, ◌∙◌, sym, ap, List, ℕ, true≢false}
use Rattle.std.proofs.lemmas.Slice.Eq.{bytes_eq-Decides}
use Rattle.tier_base.specs.Key.{id_text}
use Rattle.tier_base.proofs.Keys.{id-parsed, same-id}
use Rattle.tier_base.proofs.names.SegmentId.from_text.Goals as goal

pub returns-in_default : goal.returns-in_default
returns-in_default c id is e =
    c.in_default.not-Ok id.0 (id-parsed c.try_parse_ascii.result id c.args.text.now is e c.try_parse_ascii.ensures.ok c.try_parse_ascii.ensures.bytes)

pub returns-then-eq : goal.returns-then-eq
returns-then-eq c = (
  c.as_bytes.ensures.fits,
  sym c.write_text.ensures ∙ (sym c.as_bytes-2.ensures.value ∙ (bytes_eq-Decides c.as_bytes-2.result.now c.args.text.now).0 (sym c.if-eq.ensures)),
)

pub returns-else-eq : goal.returns-else-eq
returns-else-eq c id is e =
    let parsed = id-parsed c.try_parse_ascii.result id c.args.text.now is e c.try_parse_ascii.ensures.ok c.try_parse_ascii.ensures.bytes in
    let same : c.in-Ok.id ≡ id.0 = same-id (sym c.in-Ok.is ∙ parsed) in
    true≢false ((sym ((bytes_eq-Decides c.as_bytes-2.result.now c.args.text.now).1 (c.as_bytes-2.ensures.value ∙ (c.write_text.ensures ∙ (ap (λ (b : List ℕ). id_text (record { 0 = b })) same ∙ e)))) ∙ sym c.if-eq.ensures))
