-- Views that take in further events.
use Rattle.std.proofs.Common.{◌≡◌, ◌∙◌, refl, sym, ap, ℕ, ◌+◌, ◌<◌, ◌≤◌, List, [], ◌∷◌, ◌++◌, length, take, drop, Result, Ok, Err, arith}
use Rattle.std.specs.Prelude.{IsTrue, ◌^◌, OnErr}
use Rattle.std.proofs.Math.Seq.{take-append_seam}
use Rattle.std.proofs.lemmas.List.{append_assoc, append-nil, take-append-drop, length-take-le, length-append}
use Rattle.std.proofs.lemmas.List.Elements.{All-nil, All-head, All-tail, All-take}
use Rattle.tier_base.specs.declared.fault.Trouble.{Trouble}
use Rattle.tier_base.specs.declared.fault.Trouble.TheVariants.{Failed, NoMemory}
use Rattle.segment_meta.specs.Rules.{IsNote}
use Rattle.segment_meta.specs.declared.note.Entry.{Entry}
use Rattle.segment_meta.specs.declared.note.Note.{Note}
use Rattle.meta_log.specs.Content.{Content, AreNotes}
use Rattle.tier_base.specs.Counts.{counted}
use Rattle.remote_view.specs.Fold.{EntriesSeen, fed, view_of, fold, folded_from, recorded}
use Rattle.view_refresh.specs.Refreshing.{fed_all, Refreshes, Advances, RefreshMakes}

-- entries and count of a view that is fed
fed_entries : (view : EntriesSeen) (notes : List Note) → (fed_all view notes).entries ≡ folded_from view.entries notes
fed_entries view [] = refl
fed_entries view (note ∷ notes) = fed_entries (fed view note) notes

fed_notes : (view : EntriesSeen) (notes : List Note) → view.notes + length notes < 2 ^ 64 → (fed_all view notes).notes ≡ view.notes + length notes
fed_notes view [] low = omega arith
fed_notes view (note ∷ notes) low =
    let one : (fed view note).notes ≡ view.notes + 1 = omega (arith, low) in
    let more = fed_notes (fed view note) notes (omega (arith, low, one)) in
    omega (arith, more, one)

folded_append : (entries : _) (xs ys : List Note) → folded_from entries (xs ++ ys) ≡ folded_from (folded_from entries xs) ys
folded_append entries [] ys = refl
folded_append entries (x ∷ xs) ys = folded_append (recorded entries x) xs ys

-- a view of the first k events, fed all others
fed_rest : (notes : List Note) (k : ℕ) → length notes < 2 ^ 64 → k ≤ length notes → fed_all (view_of (take k notes)) (drop k notes) ≡ view_of notes
fed_rest notes k low within =
    let first = length-take-le k notes within in
    let others : k + length (drop k notes) ≡ length notes =
    ap (λ (n : ℕ). n + length (drop k notes)) (sym first) ∙ sym (length-append (take k notes) (drop k notes)) ∙ ap length (take-append-drop k notes) in
    let seen : (view_of (take k notes)).notes ≡ k = omega (arith, first, low, within) in
    let entries : (fed_all (view_of (take k notes)) (drop k notes)).entries ≡ fold notes =
    fed_entries (view_of (take k notes)) (drop k notes) ∙ sym (folded_append [] (take k notes) (drop k notes)) ∙ ap fold (take-append-drop k notes) in
    let count : (fed_all (view_of (take k notes)) (drop k notes)).notes ≡ counted 0 (length notes) =
    fed_notes (view_of (take k notes)) (drop k notes) (omega (arith, seen, others, low)) ∙ (omega (arith, seen, others, low)) in
    ap (λ (es : List Entry). (let v : EntriesSeen = record { entries = es; notes = (fed_all (view_of (take k notes)) (drop k notes)).notes } in v)) entries
    ∙ ap (λ (n : ℕ). (let v : EntriesSeen = record { entries = fold notes; notes = n } in v)) count

pub refreshed : (log : Content) (old new : EntriesSeen) (k : ℕ) → IsTrue log.is_observable → length log.notes < 2 ^ 64 → k ≤ length log.notes
    → old ≡ view_of (take k log.notes) → Refreshes log old new → new ≡ view_of log.notes
refreshed log old new k is_observable low within old_is r =
    let first = length-take-le k log.notes within in
    let seen : old.notes ≡ k = ap (λ (v : EntriesSeen). v.notes) old_is ∙ omega (arith, first, low, within) in
    let further : r.notes ≡ drop k log.notes = r.further is_observable ∙ ap (λ (n : ℕ). drop n log.notes) seen in
    r.view ∙ ap (λ (ns : List Note). fed_all old ns) further ∙ ap (λ (v : EntriesSeen). fed_all v (drop k log.notes)) old_is ∙ fed_rest log.notes k low within

fed_push : (view : EntriesSeen) (notes : List Note) (note : Note) → fed_all view (notes ++ note ∷ []) ≡ fed (fed_all view notes) note
fed_push view [] note = refl
fed_push view (first ∷ notes) note = fed_push (fed view first) notes note

-- a view has the first of some events, and others are left
pub record IsFed (old : EntriesSeen) (notes : List Note) (new : EntriesSeen) (rest : List Note) : Type 0 where
  pub front : List Note
  pub parts : front ++ rest ≡ notes
  pub are : AreNotes rest
  pub view : new ≡ fed_all old front

-- none yet
pub fed_none : (old new : EntriesSeen) (notes rest : List Note) → new ≡ old → rest ≡ notes → AreNotes notes → IsFed old notes new rest
fed_none old new notes rest same all are = rw (same, all) (record { front = []; parts = refl; are = are; view = refl })

-- one event more
pub fed_one : (old mid new : EntriesSeen) (notes all rest : List Note) (note : Note) → all ≡ note ∷ rest → new ≡ fed mid note → IsFed old notes mid all → IsFed old notes new rest
fed_one old mid new notes all rest note is next h = record {
  front = h.front ++ note ∷ [];
  parts = append_assoc h.front (note ∷ []) rest ∙ (ap (λ (more : List Note). h.front ++ more) (sym is) ∙ h.parts);
  are = All-tail IsNote note rest (rw is at h.are);
  view = next ∙ (ap (λ (v : EntriesSeen). fed v note) h.view ∙ sym (fed_push old h.front note));
}

-- the next one keeps the rules
pub fed_rules : (old mid : EntriesSeen) (notes all rest : List Note) (note : Note) → all ≡ note ∷ rest → IsFed old notes mid all → IsNote note
fed_rules old mid notes all rest note is h = All-head IsNote note rest (rw is at h.are)

-- all of them, or the first of them
pub fed_whole : (old new : EntriesSeen) (notes rest : List Note) → rest ≡ [] → IsFed old notes new rest → new ≡ fed_all old notes
fed_whole old new notes rest none h = h.view ∙ ap (fed_all old) (sym (append-nil h.front) ∙ (ap (λ (more : List Note). h.front ++ more) (sym none) ∙ h.parts))

pub fed_some : (old new : EntriesSeen) (notes rest : List Note) → IsFed old notes new rest → (k : ℕ) × (new ≡ fed_all old (take k notes))
fed_some old new notes rest h = (length h.front, h.view ∙ ap (fed_all old) (sym (ap (take (length h.front)) (sym h.parts) ∙ take-append_seam h.front rest)))

pub on_err : {A E P : Type 0} (answer : Result A E) → P → OnErr answer P
on_err (Ok x) p = tt
on_err (Err e) p = p

-- a read that failed, or that found no memory, leaves the view
pub failed_takes : (T : Type 0) (why : Trouble) (log : Content) (view : EntriesSeen) → RefreshMakes {T = T} (Err why) log view view
failed_takes T Failed log view = refl
failed_takes T NoMemory log view = record { notes = []; rest = drop view.notes log.notes; are = All-nil IsNote; further = λ _. refl; view = refl }

-- a feed that finds no memory leaves it with the first of the events
pub stopped_advances : (log : Content) (old new : EntriesSeen) (notes : List Note) → AreNotes notes → (IsTrue log.is_observable → notes ≡ drop old.notes log.notes)
    → (k : ℕ) × (new ≡ fed_all old (take k notes)) → Advances log old new
stopped_advances log old new notes are further (k, is) = record {
  notes = take k notes;
  rest = drop k notes;
  are = All-take IsNote k notes are;
  further = λ t. take-append-drop k notes ∙ further t;
  view = is;
}
