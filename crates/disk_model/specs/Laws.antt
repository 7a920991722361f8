-- A disk in memory is a disk: as it reads it is one of its images, and so is what its crash leaves.
use Rattle.std.specs.Prelude.{◌≡◌, ℕ, ◌≤◌, Bool, true, false, List, [], ◌∷◌, length, take}
use Rattle.std.specs.Prelude.{Option, Some, None, refl, if◌then◌else◌, MatchBool}
use Rattle.std.proofs.Common.{sym, ap, inl, inr}
use Rattle.std.proofs.Math.Nat.{le_trans}
use Rattle.std.proofs.lemmas.List.{append-nil}
use Rattle.std.proofs.lemmas.Bool.{false≢true}
use Rattle.std.specs.Bool.{OnTrue}
use Rattle.tier_base.specs.declared.plain.FileName.{FileName}
use Rattle.tier_base.specs.Told.{bytes_in}
use Rattle.disk_model.specs.Content.{Lawful, Files, Image, appended, HasGrown, cut_to}
use Rattle.disk_model.specs.Content.{CutBack, Swapped, Gone, BeginsWith}
use Rattle.disk_model.specs.Steps.{Step, Append, Sync, Cut, Replace, Remove, Crash, same_name}
use Rattle.disk_model.specs.Steps.{reads, safe, LeftOf, LeftAfter, LeftSince, content_of}

-- what the last step left may be left by a crash now
pub now_left : (past : List Step) (c : Files) → LeftAfter past c → LeftSince past (length past) c
now_left [] c now = now
now_left (s ∷ past) c now = inl now

-- an earlier moment has all that a later one has
pub since_earlier : (past : List Step) (t u : ℕ) (c : Files) → t ≤ u → LeftSince past u c → LeftSince past t c
since_earlier [] t u c le left = left
since_earlier (s ∷ past) t u c le (inl now) = inl now
since_earlier (s ∷ past) t u c le (inr earlier) = inr (le_trans le earlier.0, since_earlier past t u c le earlier.1)

-- what an append makes is something grown
pub grown_by : (bytes : List ℕ) (file : Option (List ℕ)) → HasGrown file (appended bytes file)
grown_by bytes file = inr (bytes, refl)

-- what a cut makes is something cut
pub cut_back : (len : ℕ) (file : Option (List ℕ)) → CutBack len file (cut_to len file)
cut_back len None = inl refl
cut_back len (Some bytes) = inr (refl, ([], ap Some (sym (append-nil (take len bytes)))))

-- a file begins with itself
pub begins : (file : Option (List ℕ)) → BeginsWith file file
begins None some = absurd (false≢true some)
begins (Some bytes) some = ([], ap Some (sym (append-nil bytes)))

-- a file that is named or another, with what a crash may leave of it
pub named_keeps : (b : Bool) (P : Option (List ℕ) → Type 0) (R : Option (List ℕ) → Option (List ℕ)
    → Type 0) (r o : Option (List ℕ)) → P r → R r o
    → MatchBool b ((p : Option (List ℕ)) × (P p × R p (if b then o else r))) (P (if b then o else r))
named_keeps true P R r o p keeps = (r, (p, keeps))
named_keeps false P R r o p keeps = p

-- what holds anyway holds where b does
pub on_true_any : (b : Bool) (P : Type 0) → P → OnTrue b P
on_true_any true P p = p
on_true_any false P p = tt

-- an unsynced append leaves what was there
pub safe_grown : (file : Option (List ℕ)) → HasGrown file (Some (bytes_in file))
safe_grown file = inr ([], ap Some (sym (append-nil (bytes_in file))))

-- a sync leaves what reads, or another file as it was
pub sync_keeps : (b : Bool) (P : Option (List ℕ) → Type 0) (read kept : Option (List ℕ)) → P read → P kept
    → P (if b then read else kept) × OnTrue b (BeginsWith read (if b then read else kept))
sync_keeps true P read kept p q = (p, begins read)
sync_keeps false P read kept p q = (q, tt)

mutual
  -- what reads is one of the images
  pub left_as_read : (past : List Step) (n : FileName) → LeftOf past n (reads past n)
  left_as_read [] n = refl
  left_as_read (Append name bytes ∷ past) n =
      named_keeps (same_name n name) (LeftOf past n) HasGrown (reads past n) (appended bytes (reads past n))
      (left_as_read past n) (grown_by bytes (reads past n))
  left_as_read (Sync name ∷ past) n = (
    left_as_read past n,
    on_true_any (same_name n name) (BeginsWith (reads past n) (reads past n))
        (begins (reads past n)),
  )
  left_as_read (Cut name len ∷ past) n =
      named_keeps (same_name n name) (LeftOf past n) (CutBack len) (reads past n) (cut_to len (reads past n))
      (left_as_read past n) (cut_back len (reads past n))
  left_as_read (Replace name bytes true ∷ past) n =
      named_keeps (same_name n name) (LeftOf past n) (λ before after. after ≡ Some bytes) (reads past n) (Some bytes)
      (left_as_read past n) refl
  left_as_read (Replace name bytes false ∷ past) n =
      named_keeps (same_name n name) (LeftOf past n) (Swapped bytes) (reads past n) (Some bytes) (left_as_read past n)
      (inr refl)
  left_as_read (Remove name ∷ past) n =
      named_keeps (same_name n name) (LeftOf past n) Gone (reads past n) None (left_as_read past n) (inr refl)
  left_as_read (Crash ∷ past) n = left_safe past n

  -- what the crash of this disk leaves is one of the images
  pub left_safe : (past : List Step) (n : FileName) → LeftOf past n (safe past n)
  left_safe [] n = refl
  left_safe (Append name bytes ∷ past) n =
      named_keeps (same_name n name) (LeftOf past n) HasGrown (safe past n) (Some (bytes_in (safe past n)))
      (left_safe past n) (safe_grown (safe past n))
  left_safe (Sync name ∷ past) n =
      sync_keeps (same_name n name) (LeftOf past n) (reads past n) (safe past n) (left_as_read past n)
      (left_safe past n)
  left_safe (Cut name len ∷ past) n =
      named_keeps (same_name n name) (LeftOf past n) (CutBack len) (safe past n) (cut_to len (safe past n))
      (left_safe past n) (cut_back len (safe past n))
  left_safe (Replace name bytes true ∷ past) n =
      named_keeps (same_name n name) (LeftOf past n) (λ before after. after ≡ Some bytes) (safe past n) (Some bytes)
      (left_safe past n) refl
  left_safe (Replace name bytes false ∷ past) n =
      named_keeps (same_name n name) (LeftOf past n) (Swapped bytes) (safe past n) (Some bytes) (left_safe past n)
      (inr refl)
  left_safe (Remove name ∷ past) n =
      named_keeps (same_name n name) (LeftOf past n) Gone (safe past n) None (left_safe past n) (inr refl)
  left_safe (Crash ∷ past) n = left_safe past n

-- as it reads it is one of its images
pub reads_as_image : (past : List Step) → Image (content_of past) (reads past)
reads_as_image past = now_left past (reads past) (left_as_read past)

-- the laws of a disk
pub lawful_at : (past : List Step) → Lawful (content_of past)
lawful_at past = record { reads = λ told. reads_as_image past; told = λ c left. refl; earlier = since_earlier past }
