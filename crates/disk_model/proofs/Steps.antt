-- What a step more does to the files and to the images.
use Rattle.std.specs.Prelude.{◌≡◌, ◌≢◌, ℕ, Bool, true, false, List, [], ◌∷◌, length, Option, refl, if◌then◌else◌}
use Rattle.std.proofs.Common.{sym, ◌∙◌, ap, subst, inl, inr, arith, ⊎_elim}
use Rattle.std.proofs.lemmas.Bool.{MatchBool-at_true, MatchBool-at_false}
use Rattle.std.specs.Bool.{OnTrue}
use Rattle.tier_base.specs.declared.plain.FileName.{FileName}
use Rattle.disk_model.specs.Content.{Files, Elapses, Keeps, Changes, BeginsWith}
use Rattle.disk_model.specs.Steps.{Step, Sync, Crash, same_name, reads, safe, changed, Named, After, LeftAfter, LeftSince, content_of}
use Rattle.disk_model.specs.Kept.{DropsUnsynced}
use Rattle.disk_model.specs.Laws.{now_left, left_safe, reads_as_image}
use Rattle.disk_model.specs.Memory.{Crashes}
use Rattle.disk_model.proofs.Names.{changed_there, changed_other, same_name_refl, same_name_other, cases_name}

-- a crash now leaves what the last step left
pub left_now : (past : List Step) (c : Files) → LeftSince past (length past) c → LeftAfter past c
left_now [] c left = left
left_now (s ∷ past) c (inl now) = now
left_now (s ∷ past) c (inr earlier) = absurd (omega (arith, earlier.0))

-- no step
pub rests : (past : List Step) → Keeps (content_of past) (content_of past)
rests past = record {
  is_observable = refl;
  files = λ n. refl;
  images = λ c left. left;
  time = record { later = omega arith; nothing_else = λ t c le left. inl left; keeps = λ t c le left. left };
}

-- a step
pub elapses : (s : Step) (past : List Step) → Elapses (content_of past) (content_of (s ∷ past))
elapses s past = record {
  later = omega arith;
  nothing_else = λ t c le left. ⊎_elim (λ now. inr (inl now)) (λ earlier. inl earlier.1) left;
  keeps = λ t c le left. inr (le, left);
}

-- the sync of a file
pub synced : (name : FileName) (past : List Step) → Keeps (content_of past) (content_of (Sync name ∷ past))
synced name past = record {
  is_observable = refl;
  files = λ n. refl;
  images = λ c left. now_left past c (λ n. (left_now (Sync name ∷ past) c left n).0);
  time = elapses (Sync name) past;
}

-- after a sync each image begins with what reads
pub synced_begins : (past : List Step) (name : FileName) (c : Files) → LeftAfter (Sync name ∷ past) c → BeginsWith (reads past name) (c name)
synced_begins past name c left = at_true (same_name name name) (BeginsWith (reads past name) (c name)) (same_name_refl name) (left name).1 where
  at_true : (b : Bool) (P : Type 0) → b ≡ true → OnTrue b P → P
  at_true true P is h = h
  at_true false P is h = cc

-- one file has changed by R, and the others are those of an image of before
pub after_only : (P : FileName → Option (List ℕ) → Type 0) (name : FileName) (R : Option (List ℕ) → Option (List ℕ) → Type 0) (c : Files) → ((n : FileName) → Named n name (P n) R (c n)) → After (λ d. (n : FileName) → P n (d n)) name R c
after_only P name R c h =
    let x = MatchBool-at_true ((p : Option (List ℕ)) × (P name p × R p (c name))) (P name (c name)) (same_name_refl name) (h name) in
    let d : Files = λ n. (if same_name n name then x.0 else c n) in
    let there : d name ≡ x.0 = ap (λ (b : Bool). if b then x.0 else c name) (same_name_refl name) in
    let others : (n : FileName) → n ≢ name → d n ≡ c n = λ n ne. ap (λ (b : Bool). if b then x.0 else c n) (same_name_other n name ne) in (
      d,
      λ n. elim (cases_name n name) [
        | inl e ↦ subst (λ (m : FileName). P m (d m)) (sym e) (subst (P name) (sym there) x.1.0)
        | inr ne ↦ subst (P n) (sym (others n ne)) (MatchBool-at_false ((p : Option (List ℕ)) × (P n p × R p (c n))) (P n (c n)) (same_name_other n name ne) (h n))
      ],
      record { there = subst (λ (o : Option (List ℕ)). R o (c name)) (sym there) x.1.1; others = λ n ne. sym (others n ne) },
    )

-- a call that was done or not, and changes one file
pub attempted : (past : List Step) (s : Step) (done : Bool) (name : FileName) (make : Option (List ℕ) → Option (List ℕ)) (R : Option (List ℕ) → Option (List ℕ) → Type 0) (M : Bool → Type 0) → M done
    → ((n : FileName) → reads (s ∷ past) n ≡ changed name make (reads past) n) → ((c : Files) → LeftAfter (s ∷ past) c → After (LeftAfter past) name R c) → ((file : Option (List ℕ)) → R file file)
    → Changes name make R M (content_of past) (content_of (if done then s ∷ past else past))
attempted past s true name make R M m read left same = record {
  is_observable = refl;
  files = λ told. (
    true,
    m,
    record {
      there = read name ∙ changed_there name make (reads past);
      others = λ n ne. read n ∙ changed_other name make (reads past) n ne;
    },
  );
  images = λ c now. (let from = left c (left_now (s ∷ past) c now) in (from.0, now_left past from.0 from.1, from.2));
  undone = λ not c now. absurd (not m);
  time = elapses s past;
}
attempted past s false name make R M m read left same = record {
  is_observable = refl;
  files = λ told. (false, m, record { there = refl; others = λ n ne. refl });
  images = λ c now. (c, now, record { there = same (c name); others = λ n ne. refl });
  undone = λ not c now. now;
  time = (rests past).time;
}

-- a sync that was done or not
pub sync_attempted : (past : List Step) (done : Bool) (name : FileName) → Keeps (content_of past) (content_of (if done then Sync name ∷ past else past))
sync_attempted past true name = synced name past
sync_attempted past false name = rests past

-- the crash leaves an image, and no new one
crash_step : (past : List Step) → Crashes (content_of past) (content_of (Crash ∷ past))
crash_step past = record {
  is_observable = refl;
  image = now_left past (safe past) (left_safe past);
  fewer = λ c left. now_left past c (left_now (Crash ∷ past) c left);
  time = elapses Crash past;
}

-- where there was one right before, nothing has changed
crash_again : (past : List Step) → Crashes (content_of past) (content_of past)
crash_again past = record {
  is_observable = refl;
  image = reads_as_image past;
  fewer = λ c left. left;
  time = (rests past).time;
}

-- what a crash does
pub crash_content : (old new : List Step) → DropsUnsynced old new → Crashes (content_of old) (content_of new)
crash_content old new (inl is) = subst (λ (l : List Step). Crashes (content_of old) (content_of l)) (sym is) (crash_step old)
crash_content old new (inr same) = subst (λ (l : List Step). Crashes (content_of old) (content_of l)) (sym same.0) (crash_again old)
