-- Events reported one by one.
use Rattle.std.proofs.Common.{◌≡◌, ◌∙◌, refl, sym, ap, ℕ, ◌+◌, ◌<◌, Bool, true, false, cond, List, [], ◌∷◌, ◌++◌, length, take, drop, get_or, append_assoc, Result, Ok, Err}
use Rattle.std.specs.Prelude.{map, filter, IsErr}
use Rattle.std.proofs.lemmas.List.{take_more, drop_more, take-append-drop, append-nil}
use Rattle.tier_base.specs.declared.plain.State.{State}
use Rattle.segment_meta.specs.declared.note.Entry.{Entry}
use Rattle.segment_meta.specs.declared.note.Note.{Note}
use Rattle.tier_sweep.specs.declared.refusal.SweepRefusal.{SweepRefusal}
use Rattle.tier_sweep.specs.Sweeping.{note_of, notes_of, IsTelling}
use Rattle.tier_sweep.specs.Parts.{AppendsNotes}

regroup : (a t r d : List Note) → (a ++ t) ++ (r ++ d) ≡ a ++ ((t ++ r) ++ d)
regroup a t r d = simp append_assoc

joined : (a b c : List Note) → (a ++ b) ++ c ≡ a ++ (b ++ c)
joined a b c = simp append_assoc

module _ (passes : State → Bool) (state : State) where
  -- what is reported of one entry before others
  pub told_one : (e : Entry) (es : List Entry) → passes e.state ≡ true → notes_of passes state (e ∷ es) ≡ note_of state e ∷ notes_of passes state es
  told_one e es does = rw does refl

  pub told_none : (e : Entry) (es : List Entry) → passes e.state ≡ false → notes_of passes state (e ∷ es) ≡ notes_of passes state es
  told_none e es fails = rw fails refl

  -- what is reported of two lists, one after the other
  notes_append : (xs ys : List Entry) → notes_of passes state (xs ++ ys) ≡ notes_of passes state xs ++ notes_of passes state ys
  notes_append [] ys = refl
  notes_append (x ∷ xs) ys = by (passes x.state) (notes_append xs ys)
    where
      by : (t : Bool) → notes_of passes state (xs ++ ys) ≡ notes_of passes state xs ++ notes_of passes state ys
          → map (note_of state) (cond t (x ∷ filter (λ (e : Entry). passes e.state) (xs ++ ys)) (filter (λ (e : Entry). passes e.state) (xs ++ ys)))
          ≡ map (note_of state) (cond t (x ∷ filter (λ (e : Entry). passes e.state) xs) (filter (λ (e : Entry). passes e.state) xs)) ++ notes_of passes state ys
      by true rest = ap (λ (ns : List Note). note_of state x ∷ ns) rest
      by false rest = rest

  -- one entry more
  more_passes : (es : List Entry) (i : ℕ) (e : Entry) → i < length es → e ≡ get_or es i e → passes e.state ≡ true
      → notes_of passes state (take (i + 1) es) ≡ notes_of passes state (take i es) ++ note_of state e ∷ []
  more_passes es i e low is does =
      ap (notes_of passes state) (take_more es i e low ∙ ap (λ (x : Entry). take i es ++ x ∷ []) (sym is))
      ∙ (notes_append (take i es) (e ∷ []) ∙ ap (λ (ns : List Note). notes_of passes state (take i es) ++ ns) (told_one e [] does))

  -- an entry that doesn't pass
  pub passed_over : (es : List Entry) (i : ℕ) (e : Entry) → i < length es → e ≡ get_or es i e → passes e.state ≡ false
      → notes_of passes state (take i es) ≡ notes_of passes state (take (i + 1) es)
  passed_over es i e low is fails =
      sym (ap (notes_of passes state) (take_more es i e low ∙ ap (λ (x : Entry). take i es ++ x ∷ []) (sym is))
      ∙ (notes_append (take i es) (e ∷ []) ∙ (ap (λ (ns : List Note). notes_of passes state (take i es) ++ ns) (told_none e [] fails) ∙ append-nil (notes_of passes state (take i es)))))

  -- one event more
  pub tells_next : (es : List Entry) (i : ℕ) (e : Entry) (old mid new : List Note) → i < length es → e ≡ get_or es i e → passes e.state ≡ true
      → mid ≡ old ++ notes_of passes state (take i es) → new ≡ mid ++ note_of state e ∷ [] → new ≡ old ++ notes_of passes state (take (i + 1) es)
  tells_next es i e old mid new low is does was now =
      now ∙ (ap (λ (ns : List Note). ns ++ note_of state e ∷ []) was
      ∙ (joined old (notes_of passes state (take i es)) (note_of state e ∷ []) ∙ ap (λ (ns : List Note). old ++ ns) (sym (more_passes es i e low is does))))

  -- an event that may be appended
  pub tells_some : (es : List Entry) (i : ℕ) (e : Entry) (old mid new : List Note) → i < length es → e ≡ get_or es i e → passes e.state ≡ true
      → mid ≡ old ++ notes_of passes state (take i es) → IsTelling (note_of state e ∷ []) mid new → IsTelling (notes_of passes state es) old new
  tells_some es i e old mid new low is does was h =
      let split : es ≡ take i es ++ e ∷ drop (i + 1) es =
      sym (take-append-drop i es) ∙ ap (λ (l : List Entry). take i es ++ l) (drop_more es i e low ∙ ap (λ (x : Entry). x ∷ drop (i + 1) es) (sym is)) in
      let behind = notes_of passes state (drop (i + 1) es) in
      let front = notes_of passes state (take i es) in
      record {
        told = front ++ h.told;
        rest = h.rest ++ behind;
        are = regroup front h.told h.rest behind
            ∙ (ap (λ (ns : List Note). front ++ (ns ++ behind)) h.are
            ∙ (ap (λ (ns : List Note). front ++ ns) (sym (told_one e (drop (i + 1) es) does))
            ∙ (sym (notes_append (take i es) (e ∷ drop (i + 1) es)) ∙ ap (notes_of passes state) (sym split))));
        now = h.now ∙ (ap (λ (ns : List Note). ns ++ h.told) was ∙ joined old front h.told);
      }

-- a refusal, by whatever call
pub tells_err : {T : Type 0} (notes old new : List Note) (result : Result T SweepRefusal) → IsErr result → IsTelling notes old new → AppendsNotes notes result old new
tells_err notes old new (Ok x) is h = absurd (cc (is))
tells_err notes old new (Err why) is h = h
