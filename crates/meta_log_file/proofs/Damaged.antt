-- Files that give no log, and the place that is reported of them.
use Rattle.std.proofs.Common.{◌≡◌, ◌∙◌, sym, ap, subst, refl, ⊎_elim, inl, inr, ℕ, ◌<◌, List, [], ◌∷◌, ◌++◌, length, take, Option, Some, None, IsTrue, arith, append_assoc}
use Rattle.tier_base.specs.declared.plain.FileName.TheVariants as file
use Rattle.tier_base.specs.Told.{bytes_in}
use Rattle.disk_model.specs.Content.{Content, Files, Keeps}
use Rattle.segment_meta.specs.declared.note.Note.{Note}
use Rattle.meta_log_file.specs.Notes.{framed, frames, gate_bytes, AreWritable, GateAt, OpensWithNotes}
use Rattle.meta_log_file.specs.Reading.{NoNote, BreakAt}
use Rattle.meta_log_file.specs.Damage.{IsBroken, IsDamage}
use Rattle.meta_log_file.proofs.Frames.{framed_once}
use Rattle.meta_log_file.proofs.Confirmed.{gate_same, opens_gate, opens_unbroken}

-- damaged files open with nothing
pub damage_closes : (c : Files) (at : ℕ) (notes : List Note) → IsDamage c at → OpensWithNotes c notes → ⊥
damage_closes c at notes damage o = ⊎_elim (λ none. opens_gate c notes o none.0) (λ broken. opens_unbroken c notes broken.gate at o broken.stands broken.breaks) damage

-- events that no further one follows are as many as any that no further one follows
rest_once : (a b : List Note) (x y : List ℕ) → AreWritable a → AreWritable b → NoNote x → NoNote y → frames a ++ x ≡ frames b ++ y → a ≡ b
rest_once [] [] x y ta tb nx ny is = refl
rest_once [] (m ∷ b) x y ta tb nx ny is = absurd (nx m (frames b ++ y) tb.0 (is ∙ append_assoc (framed m) (frames b) y))
rest_once (n ∷ a) [] x y ta tb nx ny is = absurd (ny n (frames a ++ x) ta.0 (sym is ∙ append_assoc (framed n) (frames a) x))
rest_once (n ∷ a) (m ∷ b) x y ta tb nx ny is =
    let one = framed_once n m (frames a ++ x) (frames b ++ y) ta.0 tb.0 (sym (append_assoc (framed n) (frames a) x) ∙ is ∙ append_assoc (framed m) (frames b) y) in
    ap (λ (l : List Note). n ∷ l) (rest_once a b x y ta.1 tb.1 nx ny one.behind) ∙ ap (λ (note : Note). note ∷ b) one.note

-- bytes break off at one place
break_once : (gate : ℕ) (bytes : List ℕ) (a b : ℕ) → BreakAt gate bytes a → BreakAt gate bytes b → a ≡ b
break_once gate bytes a b p q =
    p.at_is ∙ ap (λ (l : List Note). length (frames l)) (rest_once p.notes q.notes p.rest q.rest p.told q.told p.none q.none (sym p.bytes_are ∙ q.bytes_are)) ∙ sym q.at_is

broken_once : (c : Files) (a b : ℕ) → IsBroken c a → IsBroken c b → a ≡ b
broken_once c a b p q =
    let same = gate_same (c file.Gate) p.gate q.gate p.stands q.stands in
    break_once q.gate (take q.gate (bytes_in (c file.Notes))) a b (subst (λ (g : ℕ). BreakAt g (take g (bytes_in (c file.Notes))) a) same p.breaks) q.breaks

-- damage has one place
pub damage_once : (c : Files) (a b : ℕ) → IsDamage c a → IsDamage c b → a ≡ b
damage_once c a b p q =
    ⊎_elim
    (λ none. ⊎_elim (λ too. none.1 ∙ sym too.1) (λ broken. absurd (none.0 broken.gate broken.stands)) q)
    (λ broken. ⊎_elim (λ none. absurd (none.0 broken.gate broken.stands)) (λ too. broken_once c a b broken too) q)
    p

-- a gate that was returned, where it isn't at 0
pub gate_handed : (held : Option (List ℕ)) (gate : ℕ) → GateAt held gate → 0 < gate → bytes_in held ≡ gate_bytes gate
gate_handed None gate at above = absurd (omega (arith, at, above))
gate_handed (Some bytes) gate at above = at.1

-- a disk that keeps its files has no gate now where it had none
pub kept_damage : (d m : Content) (at : ℕ) → Keeps d m → IsTrue d.is_observable → (IsTrue m.is_observable → ((end : ℕ) → GateAt (m.files file.Gate) end → ⊥) × (at ≡ 0)) → IsDamage d.files at
kept_damage d m at keeps is_observable none =
    let no = none (subst IsTrue (sym keeps.is_observable) is_observable) in
    inl (λ end here. no.0 end (subst (λ (held : Option (List ℕ)). GateAt held end) (sym (keeps.files file.Gate)) here), no.1)

-- events that break off before the gate that was read
pub read_damage : (d r m : Content) (gate at : ℕ) → Keeps d r → Keeps r m → (IsTrue r.is_observable → GateAt (r.files file.Gate) gate) → (IsTrue m.is_observable → BreakAt gate (take gate (bytes_in (m.files file.Notes))) at) → IsTrue d.is_observable → IsDamage d.files at
read_damage d r m gate at first second here broken is_observable =
    let tells_r = subst IsTrue (sym first.is_observable) is_observable in
    let tells_m = subst IsTrue (sym second.is_observable) tells_r in
    inr (record {
      gate = gate;
      stands = subst (λ (held : Option (List ℕ)). GateAt held gate) (first.files file.Gate) (here tells_r);
      breaks = subst (λ (held : Option (List ℕ)). BreakAt gate (take gate (bytes_in held)) at) (second.files file.Notes ∙ first.files file.Notes) (broken tells_m);
    })
