-- The first object that is to go, as the keys are gone through.
use Rattle.std.proofs.Common.{◌≡◌, ◌∙◌, ap, sym, refl, subst, inl, inr, ℕ, ◌+◌, ◌<◌, ◌≤◌, true, false, List, [], ◌∷◌, ◌++◌, length, take, get_or, Option, Some, None}
use Rattle.std.specs.Option.{option_map}
use Rattle.std.specs.Ordering.{nat_cmp, is_gt, ordering_reverse}
use Rattle.std.specs.Cmp.Lexicographic.{slice_cmp}
use Rattle.std.specs.declared.cmp.Ordering.{Ordering}
use Rattle.std.specs.declared.cmp.Ordering.TheVariants.{Less, Equal, Greater}
use Rattle.std.proofs.lemmas.Cmp.{upto, tied_itself, nat_list_cmp_total}
use Rattle.std.proofs.lemmas.List.{take_more, take_all}
use Rattle.tier_base.specs.declared.plain.State.{State}
use Rattle.tier_base.specs.declared.plain.State.TheVariants.{CopyStarted, CopyFinished, DeleteStarted, DeleteFinished}
use Rattle.tier_base.specs.declared.object_key.ObjectKey.{ObjectKey}
use Rattle.tier_base.specs.Key.{key_text}
use Rattle.tier_base.specs.Told.{In}
use Rattle.segment_meta.specs.declared.note.Entry.{Entry}
use Rattle.remote_view.specs.Fold.{entry_of, state_of}
use Rattle.tier_audit.specs.declared.keys.Stray.{Stray}
use Rattle.tier_audit.specs.Flaws.{is_stray, IsTextUpTo}
use Rattle.tier_audit.specs.Strays.{goes, IsFirstIn, ComesBehind, Offers, flaw_of, FindsStray}
use Rattle.tier_audit.proofs.Among.{in_front, in_parts}

-- a text doesn't come after itself
itself : (text : List ℕ) → IsTextUpTo text text
itself text = ap is_gt (tied_itself nat_list_cmp_total text)

along : (a b c : List ℕ) → IsTextUpTo a b → IsTextUpTo b c → IsTextUpTo a c
along = upto nat_list_cmp_total

-- of two texts one doesn't come after the other
either : (a b : List ℕ) → (IsTextUpTo a b → ⊥) → IsTextUpTo b a
either a b none = go (slice_cmp nat_cmp a b) refl
  where
    go : (o : Ordering) → slice_cmp nat_cmp a b ≡ o → IsTextUpTo b a
    go Less e = absurd (none (ap is_gt e))
    go Equal e = absurd (none (ap is_gt e))
    go Greater e = ap is_gt (nat_list_cmp_total.antisymm b a ∙ ap ordering_reverse e)

-- the last of a list
is_last : {X : Type 0} (x y : X) → In x (y ∷ []) → x ≡ y
is_last x y (inl e) = e
is_last x y (inr h) = absurd h

-- a key more that stays
pub first_passed : (entries : List Entry) (keys : List ObjectKey) (key : ObjectKey) (first : Option Stray) → goes entries key ≡ false → IsFirstIn entries keys first → IsFirstIn entries (keys ++ key ∷ []) first
first_passed entries keys key None stays h = λ k there. elim (in_parts k keys (key ∷ []) there) [
  | inl old ↦ h k old
  | inr new ↦ subst (λ (x : ObjectKey). goes entries x ≡ false) (sym (is_last k key new)) stays
]
first_passed entries keys key (Some stray) stays h = (
  record {
    within = in_front stray.key keys (key ∷ []) h.0.within;
    least = λ other there go. elim (in_parts other keys (key ∷ []) there) [
      | inl old ↦ h.0.least other old go
      | inr new ↦ absurd (let no : goes entries other ≡ false = subst (λ (x : ObjectKey). goes entries x ≡ false) (sym (is_last other key new)) stays in cc)
    ];
  },
  h.1,
  h.2,
)

-- a key more, whose object is to go
pub first_offered : (entries : List Entry) (keys : List ObjectKey) (key : ObjectKey) (old new : Option Stray) → goes entries key ≡ true → IsFirstIn entries keys old → Offers key old new → IsFirstIn entries (keys ++ key ∷ []) new
first_offered entries keys key old new go h (inl kept) = subst (IsFirstIn entries (keys ++ key ∷ [])) (sym kept.0) (by old h kept.1)
  where
    by : (old : Option Stray) → IsFirstIn entries keys old → ComesBehind (key_text key) old → IsFirstIn entries (keys ++ key ∷ []) old
    by None h behind = absurd behind
    by (Some stray) h behind = (
      record {
        within = in_front stray.key keys (key ∷ []) h.0.within;
        least = λ other there goes-too. elim (in_parts other keys (key ∷ []) there) [
          | inl was ↦ h.0.least other was goes-too
          | inr is ↦ subst (λ (x : ObjectKey). IsTextUpTo (key_text stray.key) (key_text x)) (sym (is_last other key is)) (subst (λ (t : List ℕ). IsTextUpTo t (key_text key)) h.2 behind)
        ];
      },
      h.1,
      h.2,
    )
first_offered entries keys key old (None) go h (inr taken) = absurd taken.0
first_offered entries keys key old (Some stray) go h (inr taken) =
    let is : stray.key ≡ key = taken.0.0 in (
      record {
        within = subst (λ (x : ObjectKey). In x (keys ++ key ∷ [])) (sym is) (in_last key keys);
        least = λ other there goes-too. subst (λ (x : ObjectKey). IsTextUpTo (key_text x) (key_text other)) (sym is) (elim (in_parts other keys (key ∷ []) there) [
          | inl was ↦ by old h taken.1 other was goes-too
          | inr new ↦ subst (λ (x : ObjectKey). IsTextUpTo (key_text key) (key_text x)) (sym (is_last other key new)) (itself (key_text key))
        ]);
      },
      subst (λ (x : ObjectKey). goes entries x ≡ true) (sym is) go,
      taken.0.1 ∙ ap key_text (sym is),
    )
  where
    in_last : (key : ObjectKey) (keys : List ObjectKey) → In key (keys ++ key ∷ [])
    in_last key [] = inl refl
    in_last key (x ∷ keys) = inr (in_last key keys)

    by : (old : Option Stray) → IsFirstIn entries keys old → (ComesBehind (key_text key) old → ⊥) → (other : ObjectKey) → In other keys → goes entries other ≡ true → IsTextUpTo (key_text key) (key_text other)
    by None h none other was goes-too = absurd (let no : goes entries other ≡ false = h other was in cc)
    by (Some first) h none other was goes-too =
        let before : IsTextUpTo (key_text key) (key_text first.key) = subst (IsTextUpTo (key_text key)) h.2 (either first.text.items (key_text key) none) in
        along (key_text key) (key_text first.key) (key_text other) before (h.0.least other was goes-too)

-- one key on
pub first_more : (entries : List Entry) (keys : List ObjectKey) (i : ℕ) (none : ObjectKey) (first : Option Stray) → i < length keys → IsFirstIn entries (take i keys ++ get_or keys i none ∷ []) first → IsFirstIn entries (take (i + 1) keys) first
first_more entries keys i none first within h = subst (λ (ks : List ObjectKey). IsFirstIn entries ks first) (sym (take_more keys i none within)) h

pub first_all : (entries : List Entry) (keys : List ObjectKey) (i : ℕ) (first : Option Stray) → length keys ≤ i → IsFirstIn entries (take i keys) first → IsFirstIn entries keys first
first_all entries keys i first all h = subst (λ (ks : List ObjectKey). IsFirstIn entries ks first) (take_all i keys all) h

-- what is reported of the first one
pub stray_found : (entries : List Entry) (keys : List ObjectKey) (stray : Stray) → IsFirstIn entries keys (Some stray) → FindsStray entries keys (Some (flaw_of (state_of stray.key.id entries) stray.key))
stray_found entries keys stray h = by (entry_of stray.key.id entries) refl h.1
  where
    by : (o : Option Entry) → entry_of stray.key.id entries ≡ o → is_stray (option_map (λ (entry : Entry). entry.state) o) ≡ true
        → FindsStray entries keys (Some (flaw_of (option_map (λ (entry : Entry). entry.state) (entry_of stray.key.id entries)) stray.key))
    by None e go = rw e (h.0, e)
    by (Some entry) e go = in_state entry.state refl
      where
        in_state : (s : State) → entry.state ≡ s → FindsStray entries keys (Some (flaw_of (option_map (λ (entry : Entry). entry.state) (entry_of stray.key.id entries)) stray.key))
        in_state DeleteFinished is = rw e (h.0, rw e (ap Some is))
        in_state CopyStarted is = absurd (let no : is_stray (Some entry.state) ≡ false = ap (λ s. is_stray (Some s)) is in cc)
        in_state CopyFinished is = absurd (let no : is_stray (Some entry.state) ≡ false = ap (λ s. is_stray (Some s)) is in cc)
        in_state DeleteStarted is = absurd (let no : is_stray (Some entry.state) ≡ false = ap (λ s. is_stray (Some s)) is in cc)
