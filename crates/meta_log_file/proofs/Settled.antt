-- Making sure of the gate.
use Rattle.std.proofs.Common.{◌≡◌, ◌≢◌, ◌∙◌, sym, ap, subst, refl, inl, inr, ⊎_elim, ◌⊎◌, ℕ, Bool, true, false, cond, List, [], ◌∷◌, ◌++◌, length, Option, Some, None, IsTrue, arith, zero-add}
use Rattle.std.proofs.lemmas.Bool.{cases_eq}
use Rattle.tier_base.specs.declared.plain.FileName.TheVariants as file
use Rattle.tier_base.specs.Told.{bytes_in, replaced}
use Rattle.disk_model.specs.Content.{Content, Files, Image, Lawful, Keeps, Changes, Swapped, LeavesOnly}
use Rattle.meta_log_file.specs.declared.marks.Tail.TheVariants.{Loose, Unsure}
use Rattle.meta_log_file.specs.Notes.{frames, gate_bytes, GateAt, HasFront}
use Rattle.meta_log_file.specs.Ends.{ends_from, start_of}
use Rattle.meta_log_file.specs.Reading.{IsGateOf, IsNoGateOf}
use Rattle.meta_log_file.specs.Crash.{OpensLike}
use Rattle.meta_log_file.specs.Stands.{GatedBy, HasNotes}
use Rattle.meta_log_file.specs.Told.{notes_of, notes_told}
use Rattle.meta_log_file.proofs.Frames.{told_append}
use Rattle.meta_log_file.proofs.Walks.{ends_more}
use Rattle.meta_log_file.proofs.Moments.{goes_on}
use Rattle.meta_log_file.proofs.Holding.{notes_not_gate, or_holds, like_of, told_same, notes_same, last_end}
use Rattle.meta_log_file.proofs.Gating.{InDoubt, in_doubt, keeps_since, Regated, regated, regated_or, gate_reads}

-- a gate that was read as one of the two is one of theirs
gate_one : (d : Content) (ends : List ℕ) (next : Option ℕ) (end : ℕ) (h : HasNotes d ends (Unsure next)) → IsGateOf (start_of ends (length ends)) next end
    → (let doubt = in_doubt d ends (Unsure next) h in (gate_bytes end ≡ gate_bytes (length (frames doubt.notes))) ⊎ (gate_bytes end ≡ gate_bytes (length (frames doubt.more))))
gate_one d ends None end h (inl is) = inl (ap gate_bytes (is ∙ last_end ends h.notes h.ends_are))
gate_one d ends None end h (inr is) = absurd (cc)
gate_one d ends (Some e) end h (inl is) = inl (ap gate_bytes (is ∙ last_end ends h.notes h.ends_are))
gate_one d ends (Some e) end h (inr is) = (let same : e ≡ end = cc in inr (ap gate_bytes (sym same ∙ h.stands.end_is)))

-- after the replacement, whether it went well or not
pub unsure_still : (d m n : Content) (ends : List ℕ) (next : Option ℕ) (end : ℕ) (M : Bool → Type 0) → HasNotes d ends (Unsure next) → IsGateOf (start_of ends (length ends)) next end
    → Keeps d m → Changes file.Gate (replaced (gate_bytes end)) (Swapped (gate_bytes end)) M m n → HasNotes n ends (Unsure next)
unsure_still d m n ends None end M h of keeps change = record {
  notes = h.notes;
  told = h.told;
  ends_are = h.ends_are;
  low = h.low;
  stands = λ c image. or_holds h.notes c (regated_or h.notes h.notes d n (gate_bytes end) c (in_doubt d ends (Unsure None) h).gated.images (gate_one d ends None end h of) (regated d m n (gate_bytes end) M keeps change c image));
}
unsure_still d m n ends (Some e) end M h of keeps change = record {
  notes = h.notes;
  told = h.told;
  ends_are = h.ends_are;
  low = h.low;
  stands = record {
    note = h.stands.note;
    told = h.stands.told;
    low = h.stands.low;
    end_is = h.stands.end_is;
    images = λ c image. regated_or h.notes (h.notes ++ h.stands.note ∷ []) d n (gate_bytes end) c h.stands.images (gate_one d ends (Some e) end h of) (regated d m n (gate_bytes end) M keeps change c image);
  };
}

-- the gate stays where it was
pub sure_here : (d m n : Content) (ends : List ℕ) (next : Option ℕ) (end : ℕ) (M : Bool → Type 0) → HasNotes d ends (Unsure next) → end ≡ start_of ends (length ends)
    → Keeps d m → Changes file.Gate (replaced (gate_bytes end)) (Swapped (gate_bytes end)) M m n → ((c : Files) → Image n c → c file.Gate ≡ Some (gate_bytes end)) → HasNotes n ends Loose
sure_here d m n ends next end M h here keeps change durable =
    let doubt = in_doubt d ends (Unsure next) h in
    record {
      notes = h.notes;
      told = h.told;
      ends_are = h.ends_are;
      low = h.low;
      stands = λ c image. record {
        gate = durable c image ∙ ap (λ (p : ℕ). Some (gate_bytes p)) (here ∙ last_end ends h.notes h.ends_are);
        front = front_of next h c (regated d m n (gate_bytes end) M keeps change c image);
      };
    }
  where
    front_of : (next : Option ℕ) (h : HasNotes d ends (Unsure next)) (c : Files) → Regated d n (gate_bytes end) c → HasFront (frames h.notes) (c file.Notes)
    front_of None h c r = subst (HasFront (frames h.notes)) (sym r.notes) (h.stands r.image r.was).front
    front_of (Some e) h c r = subst (HasFront (frames h.notes)) (sym r.notes) ((in_doubt d ends (Unsure (Some e)) h).gated.choice.front (r.image file.Notes) (h.stands.images r.image r.was).front)

-- the gate is where the next event ends
pub sure_next : (d m n : Content) (ends : List ℕ) (next : Option ℕ) (end : ℕ) (M : Bool → Type 0) → HasNotes d ends (Unsure next) → next ≡ Some end
    → Keeps d m → Changes file.Gate (replaced (gate_bytes end)) (Swapped (gate_bytes end)) M m n → ((c : Files) → Image n c → c file.Gate ≡ Some (gate_bytes end)) → HasNotes n (ends ++ end ∷ []) Loose
sure_next d m n ends None end M h is keeps change durable = absurd (cc)
sure_next d m n ends (Some e) end M h is keeps change durable =
    let same : e ≡ end = cc in
    let s = h.stands in
    let end_is : end ≡ length (frames (h.notes ++ s.note ∷ [])) = sym same ∙ s.end_is in
    record {
      notes = h.notes ++ s.note ∷ [];
      told = told_append h.notes (s.note ∷ []) h.told (s.told, tt);
      ends_are = ap (λ (l : List ℕ). l ++ end ∷ []) h.ends_are ∙ ap (λ (p : ℕ). ends_from 0 h.notes ++ p ∷ []) (end_is ∙ sym (zero-add (length (frames (h.notes ++ s.note ∷ []))))) ∙ sym (ends_more 0 h.notes s.note);
      low = omega (arith, s.end_is, s.low);
      stands = λ c image. record {
        gate = durable c image ∙ ap (λ (p : ℕ). Some (gate_bytes p)) end_is;
        front = (let r = regated d m n (gate_bytes end) M keeps change c image in subst (HasFront (frames (h.notes ++ s.note ∷ []))) (sym r.notes) (s.images r.image r.was).front);
      };
    }

-- a crash leaves what opens as before
pub settle_since : (d m n : Content) (laws : Lawful d) (laws_after : Lawful n) (ends : List ℕ) (next : Option ℕ) (end : ℕ) (M : Bool → Type 0) → HasNotes d ends (Unsure next) → IsGateOf (start_of ends (length ends)) next end
    → (IsTrue d.is_observable → GateAt (d.files file.Gate) end) → Keeps d m → Changes file.Gate (replaced (gate_bytes end)) (Swapped (gate_bytes end)) M m n → LeavesOnly d n (OpensLike d)
settle_since d m n laws laws_after ends next end M h of reads keeps change =
    goes_on d m n (OpensLike d) (keeps_since d m ends (Unsure next) keeps h) change.time here
  where
    doubt : InDoubt d ends (Unsure next)
    doubt = in_doubt d ends (Unsure next) h

    here : (c : Files) → Image n c → OpensLike d c
    here c image =
        let r = regated d m n (gate_bytes end) M keeps change c image in
        let hc = regated_or doubt.notes doubt.more d n (gate_bytes end) c doubt.gated.images (gate_one d ends next end h of) r in
        let is_observable : IsTrue d.is_observable = subst IsTrue (change.is_observable ∙ keeps.is_observable) (laws_after.told c image) in
        let now = laws.reads is_observable in
        let hd = doubt.gated.images d.files now in
        let gate = gate_reads doubt.notes doubt.more d.files end doubt.gated.choice hd (reads is_observable) in
        ⊎_elim
        (λ same. like_of doubt.notes doubt.more d c r.image doubt.gated.choice hc (doubt.gated.images r.image r.was) r.was same)
        (λ is. like_of doubt.notes doubt.more d c d.files doubt.gated.choice hc hd now (is ∙ sym gate.0))
        r.gate

-- and the log reports what it reported
pub settle_told : (d m n : Content) (laws : Lawful d) (ends : List ℕ) (next : Option ℕ) (end : ℕ) (M : Bool → Type 0) → HasNotes d ends (Unsure next)
    → (IsTrue d.is_observable → GateAt (d.files file.Gate) end) → Keeps d m → Changes file.Gate (replaced (gate_bytes end)) (Swapped (gate_bytes end)) M m n → notes_told n ≡ notes_told d
settle_told d m n laws ends next end M h reads keeps change = told_same d n (change.is_observable ∙ keeps.is_observable) here
  where
    doubt : InDoubt d ends (Unsure next)
    doubt = in_doubt d ends (Unsure next) h

    swapped : (done : Bool) → d.files file.Gate ≡ Some (gate_bytes end) → m.files file.Gate ≡ d.files file.Gate → n.files file.Gate ≡ cond done (Some (gate_bytes end)) (m.files file.Gate) → n.files file.Gate ≡ d.files file.Gate
    swapped true was mid is = is ∙ sym was
    swapped false was mid is = is ∙ mid

    here : IsTrue d.is_observable → notes_of n.files ≡ notes_of d.files
    here is_observable =
        let hd = doubt.gated.images d.files (laws.reads is_observable) in
        let gate = gate_reads doubt.notes doubt.more d.files end doubt.gated.choice hd (reads is_observable) in
        let x = change.files (subst IsTrue (sym keeps.is_observable) is_observable) in
        notes_same n.files d.files (swapped x.0 gate.0 (keeps.files file.Gate) x.2.there) (x.2.others file.Notes notes_not_gate ∙ keeps.files file.Notes)

-- an observable disk returns a gate of the log
pub no_strange_gate : (d : Content) (laws : Lawful d) (ends : List ℕ) (next : Option ℕ) → HasNotes d ends (Unsure next) → IsTrue d.is_observable → IsNoGateOf (start_of ends (length ends)) next (bytes_in (d.files file.Gate)) → ⊥
no_strange_gate d laws ends None h is_observable strange =
    let hd = h.stands d.files (laws.reads is_observable) in
    strange (length (frames h.notes)) (inl (sym (last_end ends h.notes h.ends_are))) h.low (ap bytes_in hd.gate)
no_strange_gate d laws ends (Some e) h is_observable strange =
    let s = h.stands in
    let hd = s.images d.files (laws.reads is_observable) in
    ⊎_elim
    (λ (g : GatedBy d.files h.notes). strange (length (frames h.notes)) (inl (sym (last_end ends h.notes h.ends_are))) h.low (ap bytes_in g))
    (λ (g : GatedBy d.files (h.notes ++ s.note ∷ [])). strange e (inr refl) s.low (ap bytes_in g ∙ ap gate_bytes (sym s.end_is)))
    hd.gate

-- the gate is sure
pub sure_after : (d m n : Content) (ends : List ℕ) (next : Option ℕ) (end : ℕ) (M : Bool → Type 0) (here : ℕ) (now : List ℕ) → HasNotes d ends (Unsure next) → IsGateOf (start_of ends (length ends)) next end
    → here ≡ start_of ends (length ends) → Keeps d m → Changes file.Gate (replaced (gate_bytes end)) (Swapped (gate_bytes end)) M m n → ((c : Files) → Image n c → c file.Gate ≡ Some (gate_bytes end))
    → (end ≡ here → now ≡ ends) → (end ≢ here → now ≡ ends ++ end ∷ []) → HasNotes n now Loose
sure_after d m n ends next end M here now h of here_is keeps change durable stays grows = ⊎_elim
    (λ is. subst (λ (l : List ℕ). HasNotes n l Loose) (sym (stays is)) (sure_here d m n ends next end M h (is ∙ here_is) keeps change durable))
    (λ not. subst (λ (l : List ℕ). HasNotes n l Loose) (sym (grows not)) (sure_next d m n ends next end M h (⊎_elim (λ is. absurd (not (is ∙ sym here_is))) (λ is. is) of) keeps change durable))
    (cases_eq end here)
