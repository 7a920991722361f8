-- What counts of answers say of a journal.
use Rattle.std.proofs.Common.{◌≡◌, ◌≢◌, ◌⊎◌, inl, inr, refl, ap, sym, subst, ◌∙◌, ℕ, zero, suc, ◌+◌, ◌<◌, ◌≤◌, ◌==◌, List, [], ◌∷◌, ◌++◌, length, Bool, true, false, ◌↔◌, take, drop, get_or, arith}
use Rattle.std.specs.Prelude.{slice_index, slice_set, bytes_eq, IsTrue}
use Rattle.std.proofs.lemmas.Slice.Eq.{bytes_eq-Decides}
use Rattle.std.proofs.lemmas.Bool.Decides.{nat_tests}
use Rattle.std.proofs.lemmas.List.{append-nil, ext_get_or, get_or_past, drop_more, take-append-drop, get_or-set_same, get_or-set_other}
use Rattle.plain_log.specs.declared.command.ActorList.{ActorList}
use Rattle.plain_log.specs.declared.journal.Event.{Event}
use Rattle.plain_log.specs.declared.journal.Event.TheVariants.{Begins, Answers}
use Rattle.plain_log.specs.declared.journal.JournalEntry.{JournalEntry}
use Rattle.plain_log.specs.declared.answer.Answer.{Answer}
use Rattle.plain_log.specs.Runs.{answered, numbers_from, IsComplete}
use Rattle.plain_executor.specs.Complete.{AreAnswered, AreCounts}

-- numbers in a row

pub numbers_length : (m n : ℕ) → length (numbers_from m n) ≡ n
numbers_length m zero = refl
numbers_length m (suc n) = ap suc (numbers_length (m + 1) n)

-- with the next one
pub numbers_more : (m n x : ℕ) → x ≡ m + n → numbers_from m n ++ x ∷ [] ≡ numbers_from m (suc n)
numbers_more m zero x e = ap (λ (k : ℕ). k ∷ []) (let z : x ≡ m = omega (arith, e) in z)
numbers_more m (suc n) x e = ap (λ (ns : List ℕ). m ∷ ns) (numbers_more (m + 1) n x (omega (arith, e)))

-- after the first of them comes the next
pub numbers_next : (m n k x : ℕ) (rest : List ℕ) → numbers_from m n ++ x ∷ rest ≡ numbers_from m k → x ≡ m + n
numbers_next m zero zero x rest e = absurd cc
numbers_next m zero (suc k) x rest e = let h : x ≡ m = cc in omega (arith, h)
numbers_next m (suc n) zero x rest e = absurd cc
numbers_next m (suc n) (suc k) x rest e =
    let t : numbers_from (m + 1) n ++ x ∷ rest ≡ numbers_from (m + 1) k = cc in
    let h = numbers_next (m + 1) n k x rest t in
    omega (arith, h)

-- numbers that are answered

pub answered_more : (a : ℕ) (xs ys : List JournalEntry) → answered a (xs ++ ys) ≡ answered a xs ++ answered a ys
answered_more a [] ys = refl
answered_more a (entry ∷ xs) ys = go (answered_more a xs ys) (entry.actor.0 == a) refl entry.event refl
  where
    go : answered a (xs ++ ys) ≡ answered a xs ++ answered a ys → (t : Bool) → (entry.actor.0 == a) ≡ t → (event : Event) → entry.event ≡ event
        → answered a ((entry ∷ xs) ++ ys) ≡ answered a (entry ∷ xs) ++ answered a ys
    go h true t (Begins cut) e = rw (t, e) h
    go h true t (Answers answer) e = rw (t, e) (ap (λ (ns : List ℕ). entry.number ∷ ns) h)
    go h false t event e = rw t h

-- an entry of another actor, or one that begins a command, answers nothing
pub answered_other : (a : ℕ) (entry : JournalEntry) (more : List JournalEntry) → entry.actor.0 ≢ a → answered a (entry ∷ more) ≡ answered a more
answered_other a entry more ne = let t : (entry.actor.0 == a) ≡ false = grind (arith, nat_tests, ne) in rw t refl

pub answered_begin : (a : ℕ) (entry : JournalEntry) (cut : _) (more : List JournalEntry) → entry.event ≡ Begins cut
    → answered a (entry ∷ more) ≡ answered a more
answered_begin a entry cut more e = go (entry.actor.0 == a) refl
  where
    go : (t : Bool) → (entry.actor.0 == a) ≡ t → answered a (entry ∷ more) ≡ answered a more
    go true t = rw (t, e) refl
    go false t = rw t refl

-- an answer of the actor has its number
pub answered_own : (a : ℕ) (entry : JournalEntry) (answer : Answer) (more : List JournalEntry) → entry.event ≡ Answers answer → entry.actor.0 ≡ a
    → answered a (entry ∷ more) ≡ entry.number ∷ answered a more
answered_own a entry answer more e is = let t : (entry.actor.0 == a) ≡ true = grind (arith, nat_tests, is) in rw (t, e) refl

-- counts continue

-- by an entry that begins a command
pub count_begin : (journal : List JournalEntry) (counts : List ℕ) (entry : JournalEntry) (cut : _) → entry.event ≡ Begins cut
    → AreAnswered journal counts → AreAnswered (journal ++ entry ∷ []) counts
count_begin journal counts entry cut e h = λ a.
    answered_more a journal (entry ∷ []) ∙ (ap (λ (ns : List ℕ). answered a journal ++ ns) (answered_begin a entry cut [] e)
    ∙ (append-nil (answered a journal) ∙ h a))

-- by an answer to the next command
pub count_answer : (journal : List JournalEntry) (counts : List ℕ) (entry : JournalEntry) (answer : Answer) → entry.event ≡ Answers answer
    → entry.actor.0 < length counts → entry.number ≡ slice_index counts entry.actor.0 → AreAnswered journal counts
    → AreAnswered (journal ++ entry ∷ []) (slice_set counts entry.actor.0 (slice_index counts entry.actor.0 + 1))
count_answer journal counts entry answer e within next h = λ a. go a (entry.actor.0 == a) refl
  where
    go : (a : ℕ) (t : Bool) → (entry.actor.0 == a) ≡ t
        → answered a (journal ++ entry ∷ []) ≡ numbers_from 0 (slice_index (slice_set counts entry.actor.0 (slice_index counts entry.actor.0 + 1)) a)
    go a true t =
        let is : entry.actor.0 ≡ a = grind (arith, nat_tests, t) in
        let at : slice_index (slice_set counts entry.actor.0 (slice_index counts entry.actor.0 + 1)) a ≡ slice_index counts entry.actor.0 + 1 =
        subst (λ (k : ℕ). slice_index (slice_set counts entry.actor.0 (slice_index counts entry.actor.0 + 1)) k ≡ slice_index counts entry.actor.0 + 1) is
        (get_or-set_same counts entry.actor.0 (slice_index counts entry.actor.0 + 1) 0 within) in
        let was : answered a journal ≡ numbers_from 0 (slice_index counts entry.actor.0) =
        h a ∙ ap (λ (k : ℕ). numbers_from 0 (slice_index counts k)) (sym is) in
        answered_more a journal (entry ∷ []) ∙ (ap (λ (ns : List ℕ). answered a journal ++ ns) (answered_own a entry answer [] e is)
        ∙ (ap (λ (ns : List ℕ). ns ++ entry.number ∷ []) was
        ∙ (numbers_more 0 (slice_index counts entry.actor.0) entry.number (omega (arith, next))
        ∙ ap (numbers_from 0) (let one : suc (slice_index counts entry.actor.0) ≡ slice_index counts entry.actor.0 + 1 = omega arith in one ∙ sym at))))
    go a false t =
        let ne : entry.actor.0 ≢ a = grind (arith, nat_tests, t) in
        let at : slice_index (slice_set counts entry.actor.0 (slice_index counts entry.actor.0 + 1)) a ≡ slice_index counts a =
        get_or-set_other counts entry.actor.0 a (slice_index counts entry.actor.0 + 1) 0 (λ is. ne (sym is)) in
        answered_more a journal (entry ∷ []) ∙ (ap (λ (ns : List ℕ). answered a journal ++ ns) (answered_other a entry [] ne)
        ∙ (append-nil (answered a journal) ∙ (h a ∙ ap (numbers_from 0) (sym at))))

-- by no other answer
pub count_other : (journal more : List JournalEntry) (counts wanted : List ℕ) (entry : JournalEntry) (answer : Answer) → entry.event ≡ Answers answer
    → (length counts ≤ entry.actor.0) ⊎ (slice_index counts entry.actor.0 ≢ entry.number) → AreAnswered journal counts
    → length wanted ≡ length counts → AreAnswered (journal ++ entry ∷ more) wanted → ⊥
count_other journal more counts wanted entry answer e not h same all =
    let a = entry.actor.0 in
    let told : numbers_from 0 (slice_index counts a) ++ entry.number ∷ answered a more ≡ numbers_from 0 (slice_index wanted a) =
    ap (λ (ns : List ℕ). ns ++ entry.number ∷ answered a more) (sym (h a))
    ∙ (ap (λ (ns : List ℕ). answered a journal ++ ns) (sym (answered_own a entry answer more e refl))
    ∙ (sym (answered_more a journal (entry ∷ more)) ∙ all a)) in
    elim not [
      | inl past ↦
          let none : slice_index wanted a ≡ 0 = get_or_past wanted a 0 (omega (arith, past, same)) in
          let zero_is : slice_index counts a ≡ 0 = get_or_past counts a 0 past in
          let lengths = ap (λ (ns : List ℕ). length ns) told in
          absurd (let bad : entry.number ∷ answered a more ≡ [] =
          ap (λ (k : ℕ). numbers_from 0 k ++ entry.number ∷ answered a more) (sym zero_is) ∙ (told ∙ ap (numbers_from 0) none) in cc)
      | inr other ↦
          let next = numbers_next 0 (slice_index counts a) (slice_index wanted a) entry.number (answered a more) told in
          other (omega (arith, next))
    ]

-- two lists of counts of one journal are one
pub counts_same : (journal : List JournalEntry) (counts wanted : List ℕ) → AreAnswered journal counts → length counts ≡ length wanted
    → AreAnswered journal wanted → counts ≡ wanted
counts_same journal counts wanted h same all = ext_get_or 0 counts wanted same (λ a below.
    let e : numbers_from 0 (slice_index counts a) ≡ numbers_from 0 (slice_index wanted a) = sym (h a) ∙ all a in
    sym (numbers_length 0 (slice_index counts a)) ∙ (ap (λ (ns : List ℕ). length ns) e ∙ numbers_length 0 (slice_index wanted a)))

-- a journal is complete exactly where it answers as many as there are orders
pub complete_counts : (lists : List ActorList) (journal : List JournalEntry) (counts : List ℕ) → AreCounts lists counts
    → AreAnswered journal counts ↔ IsComplete lists journal
complete_counts lists journal counts are = (
  λ h a. h a ∙ ap (numbers_from 0) (are a),
  λ h a. h a ∙ ap (numbers_from 0) (sym (are a)),
)

-- so is a test of it
pub complete_tells : (lists : List ActorList) (journal : List JournalEntry) (counts : List ℕ) (r : Bool) → AreCounts lists counts
    → IsTrue r ↔ AreAnswered journal counts → IsTrue r ↔ IsComplete lists journal
complete_tells lists journal counts r are h =
    let d = complete_counts lists journal counts are in (λ t. d.0 (h.0 t), λ all. h.1 (d.1 all))

-- a test that two lists of counts are one
pub counts_tell : (journal : List JournalEntry) (counts wanted : List ℕ) (r : Bool) → AreAnswered journal counts → length counts ≡ length wanted
    → (read : List ℕ) → read ≡ counts → r ≡ bytes_eq read wanted → IsTrue r ↔ AreAnswered journal wanted
counts_tell journal counts wanted r h same read is e =
    let d = bytes_eq-Decides read wanted in (
      λ t. (let one : read ≡ wanted = d.0 (sym e ∙ t) in subst (AreAnswered journal) (sym is ∙ one) h),
      λ all. e ∙ d.1 (is ∙ counts_same journal counts wanted h same all),
    )

-- an entry that counts refuse, in its journal
pub not_answered : (journal : List JournalEntry) (i : ℕ) (entry : JournalEntry) (wanted : List ℕ) → i < length journal → entry ≡ get_or journal i entry
    → ((more : List JournalEntry) → AreAnswered (take i journal ++ entry ∷ more) wanted → ⊥) → AreAnswered journal wanted → ⊥
not_answered journal i entry wanted below is refused all =
    let whole : take i journal ++ entry ∷ drop (i + 1) journal ≡ journal =
    ap (λ (e : JournalEntry). take i journal ++ e ∷ drop (i + 1) journal) is
    ∙ (ap (λ (l : List JournalEntry). take i journal ++ l) (sym (drop_more journal i entry below)) ∙ take-append-drop i journal) in
    refused (drop (i + 1) journal) (subst (λ (l : List JournalEntry). AreAnswered l wanted) (sym whole) all)
