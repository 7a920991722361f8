use Rattle.std.proofs.Common.{◌≡◌, ◌∙◌, ◌-◌, ap, sym, subst, true, Err}
use Rattle.epoch_line.specs.declared.refusal.TextRefusal.{TextRefusal}
use Rattle.epoch_line.specs.declared.refusal.TextRefusal.TheVariants.{BadText}
use Rattle.epoch_line.specs.Text.{ReadsText}
use Rattle.epoch_line.specs.Line.{IsLine}
use Rattle.tier_audit.specs.Texts.{place_behind}
use Rattle.tier_audit.proofs.Texts.{bad_text, whole_text, other_map}
use Rattle.tier_audit.proofs.epochs_part.read_epochs.Goals as goal

pub returns-in-Ok : goal.returns-in-Ok
returns-in-Ok c =
    let rises : IsLine c.in-Ok.line = subst IsLine c.line.view_is c.line.invariant in (
      other_map c.args.entry.now c.args.bytes.now c.in-Ok.line rises c.in-Ok.ensures
          (λ same. let yes : c.are_same.result ≡ true = c.are_same.ensures.1 (c.entries.ensures.entries ∙ (c.in_ok-part-in-Ok.ensures.part ∙ (same ∙ sym c.entries-in-Ok.ensures.entries))) in cc (yes, c.if-are_same.false)),
      whole_text c.args.bytes.now c.in-Ok.line rises c.in-Ok.ensures,
    )

pub returns-in-Err-BadText : goal.returns-in-Err-BadText
returns-in-Err-BadText c =
    let told : ReadsText c.args.bytes.now (Err (BadText c.in-Err-BadText.line)) = subst (λ (e : TextRefusal). ReadsText c.args.bytes.now (Err e)) c.in-Err-BadText.field-0-is c.in-Err-BadText.ensures in
    bad_text c.args.entry.now c.args.bytes.now c.in-Err-BadText.line c.place_behind.result told (c.place_behind.ensures ∙ ap (λ n. place_behind (n - 1) c.args.bytes.now) c.in-Err-BadText.line-is)
