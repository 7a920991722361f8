use Rattle.std.proofs.Common.{◌≡◌, ℕ, ◌∙◌, sym, ap, arith, List, take, drop, length, ◌++◌}
use Rattle.std.proofs.lemmas.Bool.{false≢true}
use Rattle.segment_meta.specs.Reading.{note_in}
use Rattle.meta_log_file.specs.Notes.{framed}
use Rattle.meta_log_file.specs.Told.{size_in}
use Rattle.meta_log_file.proofs.Firsts.{none_short, none_cut, none_bad, refused, some_first, all_bytes}
use Rattle.meta_log_file.proofs.framing.first.Goals as goal

pub returns-then-bytes-lt-SIZE_BYTES : goal.returns-then-bytes-lt-SIZE_BYTES
returns-then-bytes-lt-SIZE_BYTES c = none_short c.args.bytes.now (omega arith)

pub returns-then-rest-size : goal.returns-then-rest-size
returns-then-rest-size c =
    let rest = ap length c.split_at.ensures.back in
    none_cut c.args.bytes.now c.if-bytes-lt-SIZE_BYTES.false (omega (arith, rest, c.if-rest-size.true, c.size_of-size.ensures))

pub returns-in-Ok : goal.returns-in-Ok
returns-in-Ok c =
    let bytes = c.args.bytes.now in
    let rest = ap length c.split_at.ensures.back in
    let body : c.split_at-2.result.0.now ≡ take (size_in bytes) (drop 4 bytes) =
    c.split_at-2.ensures.front ∙ ap (λ (n : ℕ). take n c.split_at.result.1.now) c.size_of-size.ensures ∙ ap (take (size_in bytes)) c.split_at.ensures.back in
    let behind : c.split_at-2.result.1.now ≡ drop (size_in bytes) (drop 4 bytes) =
    c.split_at-2.ensures.back ∙ ap (λ (n : ℕ). drop n c.split_at.result.1.now) c.size_of-size.ensures ∙ ap (drop (size_in bytes)) c.split_at.ensures.back in
    let read = sym (ap note_in body) ∙ c.in-Ok.ensures.exact in
    (c.tell.ensures, some_first bytes c.in-Ok.note (all_bytes bytes c.type_inv.bytes) c.if-bytes-lt-SIZE_BYTES.false (omega (arith, rest, c.if-rest-size.false, c.size_of-size.ensures)) read ∙ ap (λ (b : List ℕ). framed c.in-Ok.note ++ b) (sym behind))

pub returns-else-is_dry : goal.returns-else-is_dry
returns-else-is_dry c =
    let bytes = c.args.bytes.now in
    let body : c.split_at-2.result.0.now ≡ take (size_in bytes) (drop 4 bytes) =
    c.split_at-2.ensures.front ∙ ap (λ (n : ℕ). take n c.split_at.result.1.now) c.size_of-size.ensures ∙ ap (take (size_in bytes)) c.split_at.ensures.back in
    let why = c.in-Err.why in
    let bad = refused why c.split_at-2.result.0.now (λ e. false≢true (c.if-is_dry.ensures.1 e)) c.in-Err.ensures.exact in
    none_bad bytes why (sym (ap note_in body) ∙ bad)
