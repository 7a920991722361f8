-- Metadata logs over disks: what they report as calls of the disk change nothing, and as they go from and to a shelf.
use Rattle.std.specs.Prelude.{◌≡◌, ◌≢◌, ◌⊎◌, ◌↔◌, ℕ, Bool, true, false, cond, List, [], drop, Option, Some, None, Result, Ok, Err, IfOk, OnOk, IsTrue, refl}
use Rattle.std.proofs.Common.{◌∙◌, sym, ap, subst, inl, inr, ⊎_elim, arith}
use Rattle.std.specs.declared.alloc.AllocError.{AllocError}
use Rattle.tier_base.specs.Counts.{counted}
use Rattle.tier_base.specs.Device.{Went, fate_of}
use Rattle.tier_base.specs.declared.fault.Trouble.{Trouble}
use Rattle.tier_base.specs.declared.fault.Trouble.TheVariants as trouble
use Rattle.tier_base.specs.declared.names.PartitionId.{PartitionId}
use Rattle.segment_meta.specs.declared.note.Note.{Note}
use Rattle.disk_model.specs.declared.memory_disk.MemoryDisk.{MemoryDisk}
use Rattle.disk_model.specs.Content as disk
use Rattle.disk_model.specs.Memory.{IsEmptyDisk}
use Rattle.meta_log.specs.Content as log
use Rattle.meta_log_file.specs.Crash.{Reopens}
use Rattle.meta_log_file.specs.Log.{NoteLog}
use Rattle.meta_log_file.specs.Told.{notes_of, notes_told, told_of}
use Rattle.device_yard.specs.YardContent.{Both, IsEmptyLog}
use Rattle.memory_yard.specs.declared.slot.Slot.{Slot}
use Rattle.memory_yard.specs.Keeping.{log_keeps_itself}
use Rattle.memory_yard.specs.Log.{told}
use Rattle.memory_yard.specs.Place.{same_partition}
use Rattle.memory_yard.specs.Places.{partitions_decide}
use Rattle.memory_yard.specs.Shelf.{at, LeavesPlace}

-- a count that stays none hasn't risen
pub never_rose : (a b : ℕ) → a ≡ 0 → b ≡ counted a 1 → b ≡ a → ⊥
never_rose a b none once same = omega (arith, none, once, same)

-- a log reports the same where its disk is observable
pub told_keeps : (d e : disk.Content) → disk.Keeps d e → log.Keeps (told_of d) (told_of e)
told_keeps d e k =
    let files : e.files ≡ d.files = λ i n. k.files n i in
    let notes : notes_told e ≡ notes_told d = ap (λ t. cond t (notes_of e.files) []) k.is_observable ∙ ap (λ (f : disk.Files). cond d.is_observable (notes_of f) []) files in
    record {
      is_observable = k.is_observable;
      notes = notes;
      left = λ l at. ⊎_elim (λ is. inl (is ∙ notes)) (λ one. inr (one.0, k.images one.0 one.1, one.2)) at;
    }

pub reopens_kept : (d e : disk.Content) → disk.Keeps d e → Reopens d → Reopens e
reopens_kept d e k reopens c image = reopens c (k.images c image)

pub log_then : (a b c : log.Content) → log.Keeps a b → log.Keeps b c → log.Keeps a c
log_then a b c f g = record { is_observable = g.is_observable ∙ f.is_observable; notes = g.notes ∙ f.notes; left = λ l at. f.left l (g.left l at) }

-- a log over an empty disk is empty
pub hands_empty : (d e : disk.Content) (c : log.Content) → IsEmptyDisk d → (notes_told d ≡ []) × log.LeavesTold (told_of d) → disk.Keeps d e → log.Keeps (told_of e) c → IsEmptyLog c
hands_empty d e c empty none kept opened =
    let all = log_then (told_of d) (told_of e) c (told_keeps d e kept) opened in
    record {
      is_observable = subst IsTrue (sym all.is_observable) empty.is_observable;
      notes = all.notes ∙ none.0;
      left = λ l at. none.1 l (all.left l at) ∙ sym all.notes;
    }

went_wrong : (why : Trouble) → fate_of {T = List Note} (Err why) ≡ Went → ⊥
went_wrong trouble.Failed is = cc
went_wrong trouble.NoMemory is = cc

-- what a read of all metadata events reports
pub has_by : (r : Result Bool AllocError) (found : Result (List Note) Trouble) (held notes : List Note) → IfOk r (λ answer. IfOk found (λ ns. IsTrue answer ↔ (ns ≢ [])))
    → OnOk r (fate_of found ≡ Went) → IfOk found (λ ns. ns ≡ drop 0 held) → held ≡ notes → IfOk r (λ answer. IsTrue answer ↔ (notes ≢ []))
has_by (Err e) found held notes says went read same = tt
has_by (Ok answer) (Err why) held notes says went read same = absurd (went_wrong why went)
has_by (Ok answer) (Ok ns) held notes says went read same = subst (λ (l : List Note). IsTrue answer ↔ (l ≢ [])) (read ∙ same) says

bool_cases : (b : Bool) → (b ≡ true) ⊎ (b ≡ false)
bool_cases true = inl refl
bool_cases false = inr refl

is_or_not : (p q : PartitionId) → (p ≡ q) ⊎ (p ≢ q)
is_or_not p q =
    ⊎_elim
    (λ yes. inl ((partitions_decide p q).0 yes))
    (λ no. inr (λ is. (let yes : same_partition p q ≡ true = (partitions_decide p q).1 is in let both : true ≡ false = sym yes ∙ no in cc)))
    (bool_cases (same_partition p q))

abbrev keeps : NoteLog MemoryDisk → NoteLog MemoryDisk → Type 0
keeps m n = log.Keeps (told m) (told n)

itself : (o : Option (NoteLog MemoryDisk)) → Both keeps o o
itself None = tt
itself (Some m) = log_keeps_itself (told m)

-- a log that was taken and came back with what it reports
pub put_back : (old mid new : List (Slot PartitionId (NoteLog MemoryDisk))) (p : PartitionId) (m n : NoteLog MemoryDisk) → Some m ≡ at same_partition p old
    → LeavesPlace same_partition p None old mid → LeavesPlace same_partition p (Some n) mid new → log.Keeps (told m) (told n)
    → (q : PartitionId) → Both (λ a b. log.Keeps (told a) (told b)) (at same_partition q old) (at same_partition q new)
put_back old mid new p m n was taken put kept q =
    ⊎_elim
    (λ same.
    subst (λ r. Both keeps (at same_partition r old) (at same_partition r new)) (sym same)
    (subst (λ o. Both keeps o (at same_partition p new)) was (subst (λ o. Both keeps (Some m) o) (sym put.there) kept)))
    (λ other. subst (λ o. Both keeps (at same_partition q old) o) (sym (put.others q other ∙ taken.others q other)) (itself (at same_partition q old)))
    (is_or_not q p)

-- none was there to take
pub none_back : (old new : List (Slot PartitionId (NoteLog MemoryDisk))) (p : PartitionId) → None ≡ at same_partition p old → LeavesPlace same_partition p None old new
    → (q : PartitionId) → Both (λ a b. log.Keeps (told a) (told b)) (at same_partition q old) (at same_partition q new)
none_back old new p was taken q =
    ⊎_elim
    (λ same.
    subst (λ r. Both keeps (at same_partition r old) (at same_partition r new)) (sym same)
    (subst (λ o. Both keeps o (at same_partition p new)) was (subst (λ o. Both keeps None o) (sym taken.there) tt)))
    (λ other. subst (λ o. Both keeps (at same_partition q old) o) (sym (taken.others q other)) (itself (at same_partition q old)))
    (is_or_not q p)
