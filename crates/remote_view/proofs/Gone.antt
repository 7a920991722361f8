-- Entries in front whose objects are gone.
use Rattle.std.proofs.Common.{zero, suc, ◌≡◌, refl, ℕ, ◌+◌, ◌<◌, ◌≤◌, Bool, true, false, cond, List, [], ◌∷◌, ◌++◌, Option, Some, length, drop, get_or, arith, add-one}
use Rattle.std.specs.Prelude.{nat_lt, not, is_some, ◌&&◌, IfSome}
use Rattle.std.specs.Str.{bytes_eq}
use Rattle.std.proofs.lemmas.Bool.{both_ways}
use Rattle.tier_base.specs.declared.names.SegmentId.{SegmentId}
use Rattle.tier_base.specs.declared.plain.State.{State}
use Rattle.tier_base.specs.declared.plain.State.TheVariants.{CopyStarted, CopyFinished, DeleteStarted, DeleteFinished}
use Rattle.segment_meta.specs.declared.note.Entry.{Entry}
use Rattle.segment_meta.specs.Steps.{next_state}
use Rattle.remote_view.specs.Fold.{entry_of, changed}
use Rattle.remote_view.specs.Lookup.{is_gone, due}
use Rattle.remote_view.specs.Places.{BeginsGone}

pub gone_within : (n : ℕ) (es : List Entry) → BeginsGone n es → n ≤ length es
gone_within zero es h = omega arith
gone_within (suc n) [] h = absurd h
gone_within (suc n) (e ∷ es) h = let rest = gone_within n es h.1 in omega (arith, rest)

-- none of them is due
pub due_behind : (start n : ℕ) (es : List Entry) → BeginsGone n es → due start (drop n es) ≡ due start es
due_behind start zero es h = refl
due_behind start (suc n) [] h = absurd h
due_behind start (suc n) (e ∷ es) h = rw (never (nat_lt e.end start)) (due_behind start n es h.1)
  where
    never : (t : Bool) → (t && not (is_gone e.state)) ≡ false
    never true = rw h.0 refl
    never false = refl

-- one entry more, after all
pub gone_push : (n : ℕ) (es : List Entry) (e : Entry) → BeginsGone n es → BeginsGone n (es ++ e ∷ [])
gone_push zero es e h = tt
gone_push (suc n) [] e h = absurd h
gone_push (suc n) (x ∷ es) e h = (h.0, gone_push n es e h.1)

-- one more of them is gone
gone_suc : (n : ℕ) (es : List Entry) (d : Entry) → BeginsGone n es → n < length es → is_gone (get_or es n d).state ≡ true → BeginsGone (suc n) es
gone_suc n [] d h below is = absurd (omega (arith, below))
gone_suc zero (e ∷ es) d h below is = (is, tt)
gone_suc (suc n) (e ∷ es) d h below is = (h.0, gone_suc n es d h.1 (omega (arith, below)) is)

pub gone_more : (n : ℕ) (es : List Entry) (d : Entry) → BeginsGone n es → n < length es → is_gone (get_or es n d).state ≡ true → BeginsGone (n + 1) es
gone_more n es d h below is = rw add-one (gone_suc n es d h below is)

-- another one is changed
pub gone_changed : (n : ℕ) (id : SegmentId) (f : Entry → Entry) (es : List Entry) → BeginsGone n es → IfSome (entry_of id es) (λ e. is_gone e.state ≡ false) → BeginsGone n (changed id f es)
gone_changed zero id f es h stands = tt
gone_changed (suc n) id f [] h stands = absurd h
gone_changed (suc n) id f (e ∷ es) h stands = by (bytes_eq e.id.0 id.0) stands (λ rest. gone_changed n id f es h.1 rest)
  where
    by : (t : Bool) → IfSome (cond t (Some e) (entry_of id es)) (λ (x : Entry). is_gone x.state ≡ false) → (IfSome (entry_of id es) (λ (x : Entry). is_gone x.state ≡ false) → BeginsGone n (changed id f es))
        → BeginsGone (suc n) (cond t (f e ∷ es) (e ∷ changed id f es))
    by true stands more = absurd (both_ways (is_gone e.state) stands h.0)
    by false stands more = (h.0, more stands)

-- what makes a step isn't gone
steps_stand : (old new : State) → is_some (next_state (Some old) new) ≡ true → is_gone old ≡ false
steps_stand CopyStarted new h = refl
steps_stand CopyFinished new h = refl
steps_stand DeleteStarted new h = refl
steps_stand DeleteFinished CopyStarted h = absurd (cc)
steps_stand DeleteFinished CopyFinished h = absurd (cc)
steps_stand DeleteFinished DeleteStarted h = absurd (cc)
steps_stand DeleteFinished DeleteFinished h = absurd (cc)

pub found_stands : (found : Option Entry) (e : Entry) (new : State) → found ≡ Some e → is_some (next_state (Some e.state) new) ≡ true → IfSome found (λ x. is_gone x.state ≡ false)
found_stands found e new is step = rw is (steps_stand e.state new step)
