-- An opening makes what it read stay.
use Rattle.std.proofs.Common.{◌≡◌, ◌∙◌, sym, ap, subst, refl, ⊎_elim, ℕ, Bool, true, false, cond, List, [], ◌∷◌, ◌++◌, length, take, drop, Option, Some, None, IsTrue, arith, append_assoc, take-append-drop}
use Rattle.std.proofs.lemmas.List.{take_at}
use Rattle.tier_base.specs.declared.plain.FileName.TheVariants as file
use Rattle.tier_base.specs.Device.{Fate, Went}
use Rattle.tier_base.specs.Told.{bytes_in, replaced, OnlyAt}
use Rattle.disk_model.specs.Content.{Content, Files, Image, Lawful, Keeps, Changes, Swapped, BeginsWith, LeavesOnly}
use Rattle.segment_meta.specs.declared.note.Note.{Note}
use Rattle.meta_log_file.specs.declared.marks.Tail.{Tail}
use Rattle.meta_log_file.specs.declared.marks.Tail.TheVariants.{Loose}
use Rattle.meta_log_file.specs.Notes.{frames, gate_bytes, GateAt, HasFront, OpensWithNotes}
use Rattle.meta_log_file.specs.Reading.{EndAt, BreakAt}
use Rattle.meta_log_file.specs.Opening.{HasEnds, IsGateRead}
use Rattle.meta_log_file.specs.Crash.{Reopens, OpensLike}
use Rattle.meta_log_file.specs.Stands.{AllHold, HasNotes, IsSure}
use Rattle.meta_log_file.specs.Told.{notes_told}
use Rattle.meta_log_file.specs.Writing.{Confirms}
use Rattle.meta_log_file.proofs.Frames.{gate_once}
use Rattle.meta_log_file.proofs.Walks.{found_no}
use Rattle.meta_log_file.proofs.Moments.{started, goes_on, leaves_weaker, leaves_then}
use Rattle.meta_log_file.proofs.Chaining.{like_through}
use Rattle.meta_log_file.proofs.Written.{sure_all}
use Rattle.meta_log_file.proofs.Telling.{opens_same, disk_told}
use Rattle.meta_log_file.proofs.Holding.{notes_not_gate, holds_opens}

nothing_front : (a b : List ℕ) → [] ≡ a ++ b → a ≡ []
nothing_front [] b is = refl
nothing_front (x ∷ a) b is = cc

-- a file that begins with what reads has the events that read
begun_front : (notes : List Note) (held after : Option (List ℕ)) → HasFront (frames notes) held → BeginsWith held after → HasFront (frames notes) after
begun_front notes None after f begins = record { behind = bytes_in after; is = ap (λ (b : List ℕ). b ++ bytes_in after) (sym (nothing_front (frames notes) f.behind f.is)) }
begun_front notes (Some bytes) after f begins =
    let b = begins refl in
    record { behind = f.behind ++ b.0; is = ap bytes_in b.1 ∙ ap (λ (x : List ℕ). x ++ b.0) f.is ∙ append_assoc (frames notes) f.behind b.0 }

-- what was read opens
pub read_opens : (d : Content) (gate : ℕ) (ends : List ℕ) (read : IsGateRead d gate ends) → IsTrue d.is_observable → OpensWithNotes d.files read.has.notes
read_opens d gate ends read is_observable = record {
  told = read.has.told;
  gate = subst (GateAt (d.files file.Gate)) read.has.gate_is (read.at is_observable);
  front = read.has.front is_observable;
}

-- a gate is at one place
pub gate_same : (held : Option (List ℕ)) (a b : ℕ) → GateAt held a → GateAt held b → a ≡ b
gate_same None a b p q = p ∙ sym q
gate_same (Some bytes) a b p q = gate_once a b p.0 q.0 (sym p.1 ∙ q.1)

-- what opens still does
pub kept_opens : (d m : Content) → Keeps d m → (l : List Note) → OpensWithNotes d.files l → OpensWithNotes m.files l
kept_opens d m keeps l o = opens_same m.files d.files l (keeps.files file.Gate) (keeps.files file.Notes) o

pub confirmed : (d m n : Content) (laws : Lawful d) (laws_m : Lawful m) (gate : ℕ) (ends : List ℕ) (read : IsGateRead d gate ends) (fate : Fate) (M : Bool → Type 0) → Keeps d m → ((c : Files) → Image m c → BeginsWith (d.files file.Notes) (c file.Notes))
    → Changes file.Gate (replaced (gate_bytes gate)) (Swapped (gate_bytes gate)) M m n → (fate ≡ Went → (c : Files) → Image n c → c file.Gate ≡ Some (gate_bytes gate)) → Confirms read.has.notes fate d n
confirmed d m n laws laws_m gate ends read fate M keeps synced change durable = record {
  is_observable = change.is_observable ∙ keeps.is_observable;
  since = λ reopens. goes_on d m n (OpensLike d) (goes_on d d m (OpensLike d) (started d (OpensLike d) (itself reopens)) keeps.time (λ c image. itself reopens c (keeps.images c image))) change.time (after reopens);
  same = stays;
  done = λ went c image. record { gate = durable went c image ∙ ap (λ (p : ℕ). Some (gate_bytes p)) read.has.gate_is; front = front c image };
}
  where
    itself : Reopens d → (c : Files) → Image d c → OpensLike d c
    itself reopens c image = (let o = reopens c image in (c, image, (o.0, o.1, o.1)))

    notes : List Note
    notes = read.has.notes

    stays : IsTrue d.is_observable → (l : List Note) → OpensWithNotes d.files l → OpensWithNotes n.files l
    stays is_observable l o = by_done made.0 made.2.there
      where
        made : (done : Bool) × M done × OnlyAt file.Gate (λ before after. after ≡ cond done (Some (gate_bytes gate)) before) m.files n.files
        made = change.files (subst IsTrue (sym keeps.is_observable) is_observable)

        bytes : n.files file.Notes ≡ d.files file.Notes
        bytes = made.2.others file.Notes notes_not_gate ∙ keeps.files file.Notes

        by_done : (done : Bool) → n.files file.Gate ≡ cond done (Some (gate_bytes gate)) (m.files file.Gate) → OpensWithNotes n.files l
        by_done true is =
            let same : length (frames l) ≡ gate = gate_same (d.files file.Gate) (length (frames l)) gate o.gate (read.at is_observable) in
            record {
              told = o.told;
              gate = subst (λ (held : Option (List ℕ)). GateAt held (length (frames l))) (sym is) (omega (arith, same, read.low), ap gate_bytes (sym same));
              front = subst (HasFront (frames l)) (sym bytes) o.front;
            }
        by_done false is = opens_same n.files d.files l (is ∙ keeps.files file.Gate) bytes o

    tells_of : (c : Files) → Image m c → IsTrue d.is_observable
    tells_of c image = subst IsTrue keeps.is_observable (laws_m.told c image)

    kept_front : (c : Files) → Image m c → HasFront (frames read.has.notes) (c file.Notes)
    kept_front c image = begun_front read.has.notes (d.files file.Notes) (c file.Notes) (read.has.front (tells_of c image)) (synced c image)

    front : (c : Files) → Image n c → HasFront (frames read.has.notes) (c file.Notes)
    front c image = (let x = change.images c image in subst (HasFront (frames read.has.notes)) (sym (x.2.others file.Notes notes_not_gate)) (kept_front x.0 x.1))

    after : Reopens d → (c : Files) → Image n c → OpensLike d c
    after reopens c image =
        let x = change.images c image in
        let is_observable = tells_of x.0 x.1 in
        let was = keeps.images x.0 x.1 in
        let o = reopens x.0 was in
        ⊎_elim
        (λ same. (x.0, was, (o.0, o.1, opens_same c x.0 o.0 same (x.2.others file.Notes notes_not_gate) o.1)))
        (λ is. (
          d.files,
          laws.reads is_observable,
          (
            read.has.notes,
            read_opens d gate ends read is_observable,
            record {
              told = read.has.told;
              gate = subst (λ (held : Option (List ℕ)). GateAt held (length (frames read.has.notes))) (sym is) (subst (GateAt (Some (gate_bytes gate))) read.has.gate_is (read.low, refl));
              front = front c image;
            },
          ),
        ))
        x.2.there

-- an opened log has the events
pub opened_has : (d n : Content) (gate : ℕ) (ends : List ℕ) (read : IsGateRead d gate ends) → AllHold n read.has.notes → HasNotes n ends Loose
opened_has d n gate ends read all = record { notes = read.has.notes; told = read.has.told; ends_are = read.has.ends_are; low = omega (arith, read.low, read.has.gate_is); stands = all }

-- where the files open, their gate is valid
pub opens_gate : (c : Files) (notes : List Note) → OpensWithNotes c notes → ((end : ℕ) → GateAt (c file.Gate) end → ⊥) → ⊥
opens_gate c notes o nowhere = nowhere (length (frames notes)) o.gate

-- and what is up to it is events
pub opens_unbroken : (c : Files) (notes : List Note) (gate at : ℕ) → OpensWithNotes c notes → GateAt (c file.Gate) gate → BreakAt gate (take gate (bytes_in (c file.Notes))) at → ⊥
opens_unbroken c notes gate at o here broken =
    let same = gate_same (c file.Gate) (length (frames notes)) gate o.gate here in
    let bytes : take gate (bytes_in (c file.Notes)) ≡ frames notes = ap (take gate) o.front.is ∙ take_at (frames notes) o.front.behind gate same in
    let no = found_no broken.notes notes broken.rest broken.told o.told broken.none (sym bytes ∙ broken.bytes_are) in
    let long = ap (λ (l : List Note). length (frames l)) no.0 in
    absurd (omega (arith, same, long, broken.at_is, broken.before))

-- the ends of what was read
pub ends_read : (d : Content) (gate : ℕ) (ends bytes : List ℕ) → EndAt gate bytes ends → (IsTrue d.is_observable → bytes ≡ take gate (bytes_in (d.files file.Notes))) → HasEnds d gate ends
ends_read d gate ends bytes e is = record {
  notes = e.notes;
  told = e.told;
  gate_is = e.gate_is;
  ends_are = e.ends_are;
  front = λ is_observable. record { behind = drop gate (bytes_in (d.files file.Notes)); is = sym (take-append-drop gate (bytes_in (d.files file.Notes))) ∙ ap (λ (b : List ℕ). b ++ drop gate (bytes_in (d.files file.Notes))) (sym (is is_observable) ∙ e.bytes_are) };
}

-- what was read of a disk that keeps its files
abbrev pub read_kept : (d m : Content) (gate : ℕ) (ends : List ℕ) → Keeps d m → IsGateRead d gate ends → IsGateRead m gate ends
read_kept d m gate ends keeps read = record {
  at = λ is_observable. subst (λ (held : Option (List ℕ)). GateAt held gate) (sym (keeps.files file.Gate)) (read.at (subst IsTrue keeps.is_observable is_observable));
  low = read.low;
  has = record {
    notes = read.has.notes;
    told = read.has.told;
    gate_is = read.has.gate_is;
    ends_are = read.has.ends_are;
    front = λ is_observable. subst (HasFront (frames read.has.notes)) (sym (keeps.files file.Notes)) (read.has.front (subst IsTrue keeps.is_observable is_observable));
  };
}

-- the reading and what follows it
pub open_since : (d m n : Content) (laws_m : Lawful m) → Keeps d m → (Reopens m → LeavesOnly m n (OpensLike m)) → Reopens d → LeavesOnly d n (OpensLike d)
open_since d m n laws_m keeps then reopens =
    let first = goes_on d d m (OpensLike d) (started d (OpensLike d) (itself)) keeps.time (λ c image. itself c (keeps.images c image)) in
    let second = then (λ c image. reopens c (keeps.images c image)) in
    leaves_then d m n (OpensLike d) first (leaves_weaker m n (OpensLike m) (OpensLike d) (like_through d m laws_m first) second)
  where
    itself : (c : Files) → Image d c → OpensLike d c
    itself c image = (let o = reopens c image in (c, image, (o.0, o.1, o.1)))

-- both before and after the events are those that were read
pub opened_both : (d n : Content) (laws_n : Lawful n) (gate : ℕ) (ends : List ℕ) (read : IsGateRead d gate ends) → n.is_observable ≡ d.is_observable → AllHold n read.has.notes → IsTrue d.is_observable → (notes : List Note) × OpensWithNotes d.files notes × OpensWithNotes n.files notes
opened_both d n laws_n gate ends read same all is_observable =
    let now = laws_n.reads (subst IsTrue (sym same) is_observable) in
    (read.has.notes, read_opens d gate ends read is_observable, holds_opens read.has.notes n.files read.has.told (omega (arith, read.low, read.has.gate_is)) (all n.files now))

-- where the gate is sure, each image opens with what is reported
pub sure_durable : (d : Content) (laws : Lawful d) (ends : List ℕ) (tail : Tail) (h : HasNotes d ends tail) → IsSure tail → (c : Files) → Image d c → OpensWithNotes c (notes_told d)
sure_durable d laws ends tail h sure c image =
    let all = sure_all d h.notes tail h.stands sure in
    let is_observable = laws.told c image in
    let is = disk_told d h.notes is_observable (holds_opens h.notes d.files h.told h.low (all d.files (laws.reads is_observable))) in
    subst (OpensWithNotes c) (sym is) (holds_opens h.notes c h.told h.low (all c image))

-- the events with which the files opened are reported
pub opened_told : (d n : Content) (notes : List Note) → n.is_observable ≡ d.is_observable → IsTrue d.is_observable → OpensWithNotes d.files notes → OpensWithNotes n.files notes → OpensWithNotes d.files (notes_told n)
opened_told d n notes same is_observable before now = subst (OpensWithNotes d.files) (sym (disk_told n notes (subst IsTrue (sym same) is_observable) now)) before
