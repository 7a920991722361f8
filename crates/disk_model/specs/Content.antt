-- What a disk holds, and what a crash may leave of it.
--
--   form                              says
--   Image d c                         a crash now may leave the files c
--   Changes name made crash may o n   a call that changes one file
--   Keeps old new                     a call that changes none
--   Elapses old new                   what a crash at some moment of the past might have left
--   LeavesOnly old new P              a crash at any moment between leaves files that have P
--   Lawful d                          what holds of every disk
--
--   call      of the file makes      a crash then may leave
--   append    appended bytes         Grown: as before, or what was there with any bytes after
--   sync      itself                 and after `Ok` it Begins with what reads
--   cut       cut_to len             CutBack: as before, or the front of what was there with any bytes after
--   replace   replaced bytes         Swapped: the old or the new file, and after `Ok` the new one
--   remove    removed                Gone: as before, or none
--
-- The bytes that are synced stay: each image after a call is one of before with that file changed so.
use Rattle.std.specs.Prelude.{◌≡◌, ◌⊎◌, ℕ, ◌≤◌, Bool, true, List, ◌++◌, take, drop}
use Rattle.std.specs.Prelude.{if◌then◌else◌, Option, Some, None, option_map, IsTrue, IsSome}
use Rattle.tier_base.specs.declared.plain.FileName.{FileName}
use Rattle.tier_base.specs.Told.{OnlyAt, bytes_in}

-- the files by name
abbrev pub Files : Type 0
Files = FileName → Option (List ℕ)

-- Of a disk that isn't observable, `files` means nothing and no image is claimed.
pub record Content : Type 1 where
  pub is_observable : Bool
  pub files : Files
  -- a number that doesn't fall
  pub moment : ℕ
  -- what a crash at some moment from that one on might have left
  pub left : ℕ → Files → Type 0

-- what a crash now may leave
abbrev pub Image : Content → Files → Type 0
Image d c = d.left d.moment c

-- A disk as it reads is one of its images, an earlier moment has more of them, and only one that reports has any.
pub record Lawful (d : Content) : Type 0 where
  pub reads : IsTrue d.is_observable → Image d d.files
  pub told : (c : Files) → Image d c → IsTrue d.is_observable
  pub earlier : (t u : ℕ) (c : Files) → t ≤ u → d.left u c → d.left t c

-- Time continues: a crash since t might have left what it might have left before, or what it may leave now.
pub record Elapses (old new : Content) : Type 0 where
  pub later : old.moment ≤ new.moment
  pub nothing_else : (t : ℕ) (c : Files) → t ≤ old.moment → new.left t c → old.left t c ⊎ Image new c
  pub keeps : (t : ℕ) (c : Files) → t ≤ old.moment → old.left t c → new.left t c

-- A crash at any moment since old leaves files that have P.
pub record LeavesOnly (old new : Content) (P : Files → Type 0) : Type 0 where
  pub later : old.moment ≤ new.moment
  pub each : (c : Files) → new.left old.moment c → P c
  -- for a run that began earlier
  pub before : (t : ℕ) (c : Files) → t ≤ old.moment → new.left t c → old.left t c ⊎ P c

-- a call that changes one file: what it makes of it where it was done, and what a crash may make of it
pub record Changes (name : FileName) (made : Option (List ℕ) → Option (List ℕ))
    (crash : Option (List ℕ) → Option (List ℕ) → Type 0) (may_be_done : Bool → Type 0)
    (old new : Content) : Type 0 where
  pub is_observable : new.is_observable ≡ old.is_observable
  pub files : IsTrue old.is_observable
      → (done : Bool) × may_be_done done
      × OnlyAt name (λ before after. after ≡ (if done then made before else before)) old.files new.files
  pub images : (c : Files) → Image new c → (d : Files) × Image old d × OnlyAt name crash d c
  pub undone : (may_be_done true → ⊥) → (c : Files) → Image new c → Image old c
  pub time : Elapses old new

-- a call that changes no file
pub record Keeps (old new : Content) : Type 0 where
  pub is_observable : new.is_observable ≡ old.is_observable
  pub files : (n : FileName) → new.files n ≡ old.files n
  pub images : (c : Files) → Image new c → Image old c
  pub time : Elapses old new

-- `read_part`: so many bytes of a file from a place on, fewer where it ends
abbrev pub part_of : ℕ → ℕ → List ℕ → List ℕ
part_of at most bytes = take most (drop at bytes)

-- `append`: until a sync, any bytes after what was there
abbrev pub appended : List ℕ → Option (List ℕ) → Option (List ℕ)
appended bytes file = Some (bytes_in file ++ bytes)

-- as before, or what was there with any bytes after
abbrev pub HasGrown : Option (List ℕ) → Option (List ℕ) → Type 0
HasGrown before after = (after ≡ before) ⊎ ((behind : List ℕ) × (after ≡ Some (bytes_in before ++ behind)))

-- `cut`: the file's front
abbrev pub cut_to : ℕ → Option (List ℕ) → Option (List ℕ)
cut_to len file = option_map (take len) file

-- the file whole, or its front with any bytes after
abbrev pub CutBack : ℕ → Option (List ℕ) → Option (List ℕ) → Type 0
CutBack len before after =
    (after ≡ before)
    ⊎ (IsSome before × ((behind : List ℕ) × (after ≡ Some (take len (bytes_in before) ++ behind))))

-- the old or the new file whole
abbrev pub Swapped : List ℕ → Option (List ℕ) → Option (List ℕ) → Type 0
Swapped bytes before after = (after ≡ before) ⊎ (after ≡ Some bytes)

-- as before, or none
abbrev pub Gone : Option (List ℕ) → Option (List ℕ) → Type 0
Gone before after = (after ≡ before) ⊎ (after ≡ None)

-- after a sync a crash leaves what reads, with any bytes after
abbrev pub BeginsWith : Option (List ℕ) → Option (List ℕ) → Type 0
BeginsWith read after = IsSome read → (behind : List ℕ) × (after ≡ Some (bytes_in read ++ behind))
