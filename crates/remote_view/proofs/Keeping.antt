-- A stair stays right when an entry more can be read, and when one can't be read any more.
use Rattle.std.proofs.Common.{zero, suc, ◌≡◌, ◌∙◌, refl, sym, ap, ℕ, ◌+◌, ◌<◌, ◌≤◌, ℤ, Bool, true, false, cond, List, [], ◌∷◌, ◌++◌, Option, Some, None, Result, Ok, Err, length, take, get_or, arith, inl, inr}
use Rattle.std.specs.Prelude.{option_map, not, is_some, IfSome, IfOk}
use Rattle.std.specs.Str.{bytes_eq}
use Rattle.std.proofs.lemmas.List.Elements.{filter_more}
use Rattle.tier_base.specs.declared.names.BrokerId.{BrokerId}
use Rattle.tier_base.specs.declared.names.SegmentId.{SegmentId}
use Rattle.tier_base.specs.declared.plain.State.{State}
use Rattle.tier_base.specs.declared.plain.State.TheVariants.{CopyStarted, CopyFinished, DeleteStarted, DeleteFinished}
use Rattle.segment_meta.specs.declared.note.Entry.{Entry}
use Rattle.segment_meta.specs.Rules.{IsMap}
use Rattle.segment_meta.specs.Steps.{next_state}
use Rattle.remote_view.specs.declared.spans.Span.{Span}
use Rattle.remote_view.specs.declared.tread.Tread.{Tread}
use Rattle.remote_view.specs.Fold.{entry_of, changed, updated, IsEntryValid, AreEntriesValid, AreDistinct, others}
use Rattle.remote_view.specs.Lookup.{is_readable, covers, is_better, better_of, best_from, finished}
use Rattle.remote_view.specs.Stairs.{span_of, id_at, RisesAlong, IsStair}
use Rattle.remote_view.specs.Laying.{held, gives, IsSegmentLaid, IsLaidIn}
use Rattle.remote_view.proofs.Lying.{in_span, IsSpanIn, span_bounds, map_lies}
use Rattle.remote_view.proofs.Best.{Among, among_filter, held_found, readable_covers, finished_push, finish_best, same_filter, gone_filter}

-- where an epoch lies in an entry that was kept
pub kept_span : (entry : Entry) (epoch : ℕ) → IsEntryValid entry → IfSome (span_of entry.map epoch (entry.end + 1)) (IsSpanIn entry.start entry.end)
kept_span entry epoch kept = by entry.map kept.map
  where
    by : (map : List (ℕ × ℕ)) → IsMap entry.start entry.end map → IfSome (span_of map epoch (entry.end + 1)) (IsSpanIn entry.start entry.end)
    by [] h = absurd h.first
    by (pair ∷ line) h = rw (← h.first) (span_bounds pair line epoch entry.end h.line h.within)

pub span_ordered : (entry : Entry) (epoch : ℕ) (span : Span) → IsEntryValid entry → span_of entry.map epoch (entry.end + 1) ≡ Some span → span.from ≤ span.to
span_ordered entry epoch span kept is = let bounds : IsSpanIn entry.start entry.end span = rw is at (kept_span entry epoch kept) in omega (arith, bounds.some)

-- laid over where its epoch lies
pub laid_in : (es : List Entry) (entry : Entry) (epoch : ℕ) (span : Span) (old new : List Tread) → IsEntryValid entry → span_of entry.map epoch (entry.end + 1) ≡ Some span
    → IsSegmentLaid es entry span old new → IsLaidIn es entry epoch old new
laid_in es entry epoch span old new kept is laid = record {
  rises = laid.rises;
  says = λ o.
      laid.says o
      ∙ ap (λ (t : Bool). cond t (Some (better_of (held es (id_at old o)) entry).id) (id_at old o))
      (sym (map_lies entry.start entry.end entry.map epoch o kept.map ∙ ap (λ (s : Option Span). in_span s o) is));
}

-- or nowhere
pub laid_nowhere : (es : List Entry) (entry : Entry) (epoch : ℕ) (old : List Tread) → IsEntryValid entry → span_of entry.map epoch (entry.end + 1) ≡ None → RisesAlong old → IsLaidIn es entry epoch old old
laid_nowhere es entry epoch old kept is rises = record {
  rises = rises;
  says = λ o.
      ap (λ (t : Bool). cond t (Some (better_of (held es (id_at old o)) entry).id) (id_at old o))
      (sym (map_lies entry.start entry.end entry.map epoch o kept.map ∙ ap (λ (s : Option Span). in_span s o) is));
}

-- what a stair gives with an entry laid in it
laid_says : (es sub : List Entry) (x : Entry) (q : ℕ) (stair laid : List Tread) (o : ℕ) → AreDistinct es → ((b : Entry) → Among b sub → Among b es) → IsStair sub q stair
    → IsLaidIn es x q stair laid → id_at laid o ≡ cond (gives q o x) (Some (better_of (finished q o sub) x).id) (option_map (λ e. e.id) (finished q o sub))
laid_says es sub x q stair laid o distinct within right h =
    h.says o
    ∙ (ap (λ (id : Option SegmentId). cond (gives q o x) (Some (better_of (held es id) x).id) id) (right.best o)
    ∙ ap (λ (b : Option Entry). cond (gives q o x) (Some (better_of b x).id) (option_map (λ e. e.id) (finished q o sub))) (held_found es sub q o distinct within))

-- the better of two has one id, however its state has changed
better_id : (broker : BrokerId) (event_ts : ℤ) (state : State) (custom : Option (List ℕ)) (best : Option Entry) (x : Entry) → (better_of best (updated broker event_ts state custom x)).id ≡ (better_of best x).id
better_id broker event_ts state custom None x = refl
better_id broker event_ts state custom (Some b) x = by (is_better x b)
  where
    by : (t : Bool) → (cond t (updated broker event_ts state custom x) b).id ≡ (cond t x b).id
    by true = refl
    by false = refl

pub id_of : (t : Bool) (better : Entry) (best : Option Entry) → option_map (λ e. e.id) (cond t (Some better) best) ≡ cond t (Some better.id) (option_map (λ e. e.id) best)
id_of true better best = refl
id_of false better best = refl

-- a copy that finishes
pub finish_right : (broker : BrokerId) (event_ts : ℤ) (state : State) (custom : Option (List ℕ)) (es : List Entry) (x : Entry) (q : ℕ) (stair laid : List Tread) → AreDistinct es → AreEntriesValid es → entry_of x.id es ≡ Some x
    → is_readable x.state ≡ false → is_readable state ≡ true → IsStair es q stair → IsLaidIn es x q stair laid → IsStair (changed x.id (updated broker event_ts state custom) es) q laid
finish_right broker event_ts state custom es x q stair laid distinct kept here out into right h = record {
  rises = h.rises;
  best = λ o.
      laid_says es es x q stair laid o distinct (λ b among. among) right h
      ∙ (ap (λ (id : SegmentId). cond (gives q o x) (Some id) (option_map (λ e. e.id) (finished q o es))) (sym (better_id broker event_ts state custom (finished q o es) x))
      ∙ (sym (id_of (gives q o x) (better_of (finished q o es) (updated broker event_ts state custom x)) (finished q o es))
      ∙ ap (option_map (λ e. e.id)) (sym (finish_best broker event_ts state custom (covers q o) x None es distinct kept here (readable_covers q o x false out)
      ∙ ap (λ (t : Bool). cond t (Some (better_of (finished q o es) (updated broker event_ts state custom x))) (finished q o es)) (readable_covers q o (updated broker event_ts state custom x) true into)))));
}

-- a stair over other entries that give the same
pub same_right : (es new : List Entry) (q : ℕ) (stair : List Tread) → ((o : ℕ) → finished q o new ≡ finished q o es) → IsStair es q stair → IsStair new q stair
same_right es new q stair same right = record { rises = right.rises; best = λ o. right.best o ∙ ap (option_map (λ e. e.id)) (sym (same o)) }

-- an entry more that can't be read
pub skip_right : (sub : List Entry) (x : Entry) (q : ℕ) (stair : List Tread) → is_readable x.state ≡ false → IsStair sub q stair → IsStair (sub ++ x ∷ []) q stair
skip_right sub x q stair out right =
    same_right sub (sub ++ x ∷ []) q stair
    (λ o. finished_push q o sub x ∙ ap (λ (t : Bool). cond t (Some (better_of (finished q o sub) x)) (finished q o sub)) (readable_covers q o x false out)) right

among_take : (n : ℕ) (es : List Entry) (b : Entry) → Among b (take n es) → Among b es
among_take zero es b h = absurd h
among_take (suc n) [] b h = absurd h
among_take (suc n) (e ∷ es) b (inl same) = inl same
among_take (suc n) (e ∷ es) b (inr more) = inr (among_take n es b more)

pub among_others : (id : SegmentId) (n : ℕ) (es : List Entry) (b : Entry) → Among b (others id (take n es)) → Among b es
among_others id n es b h = among_take n es b (among_filter (λ e. not (bytes_eq e.id.0 id.0)) (take n es) b h).1

-- the others of one entry more
pub others_more : (id : SegmentId) (es : List Entry) (i : ℕ) (x : Entry) → i < length es → x ≡ get_or es i x
    → others id (take (i + 1) es) ≡ others id (take i es) ++ cond (not (bytes_eq x.id.0 id.0)) (x ∷ []) []
others_more id es i x below is =
    filter_more (λ e. not (bytes_eq e.id.0 id.0)) es i x below
    ∙ ap (λ (y : Entry). others id (take i es) ++ cond (not (bytes_eq y.id.0 id.0)) (y ∷ []) []) (sym is)

-- an entry that can't be read any more
pub gone_right : (broker : BrokerId) (event_ts : ℤ) (state : State) (custom : Option (List ℕ)) (es : List Entry) (id : SegmentId) (q : ℕ) (stair : List Tread) → AreDistinct es → is_readable state ≡ false
    → IsStair (others id es) q stair → IsStair (changed id (updated broker event_ts state custom) es) q stair
gone_right broker event_ts state custom es id q stair distinct out right =
    same_right (others id es) (changed id (updated broker event_ts state custom) es) q stair
    (λ o. ap (best_from None) (gone_filter broker event_ts state custom (covers q o) id es distinct (λ e. readable_covers q o (updated broker event_ts state custom e) false out))) right

-- a change of an entry that gives the epoch neither before nor after it
pub untouched : (broker : BrokerId) (event_ts : ℤ) (state : State) (custom : Option (List ℕ)) (es : List Entry) (x : Entry) (q : ℕ) (stair : List Tread) → entry_of x.id es ≡ Some x
    → ((o : ℕ) → covers q o x ≡ false) → ((o : ℕ) → covers q o (updated broker event_ts state custom x) ≡ false) → IsStair es q stair
    → IsStair (changed x.id (updated broker event_ts state custom) es) q stair
untouched broker event_ts state custom es x q stair here before after right =
    same_right es (changed x.id (updated broker event_ts state custom) es) q stair
    (λ o. ap (best_from None) (same_filter broker event_ts state custom (covers q o) x es here (before o) (after o))) right

-- an entry that is found was kept
pub kept_found : (id : SegmentId) (es : List Entry) (x : Entry) → AreEntriesValid es → entry_of id es ≡ Some x → IsEntryValid x
kept_found id [] x kept here = absurd (cc)
kept_found id (e ∷ es) x kept here = by (bytes_eq e.id.0 id.0) here (λ there. kept_found id es x kept.1 there)
  where
    by : (t : Bool) → cond t (Some e) (entry_of id es) ≡ Some x → (entry_of id es ≡ Some x → IsEntryValid x) → IsEntryValid x
    by true is more = let same : e ≡ x = cc in rw same at kept.0
    by false is more = more is

-- an epoch that a map doesn't have is given nowhere
pub given_nowhere : (x : Entry) (q o : ℕ) → IsEntryValid x → span_of x.map q (x.end + 1) ≡ None → gives q o x ≡ false
given_nowhere x q o kept none = map_lies x.start x.end x.map q o kept.map ∙ ap (λ (s : Option Span). in_span s o) none

-- what holds of an answer
pub if_ok : {A E : Type 0} {P Q : A → Type 0} (answer : Result A E) → IfOk answer P → ((x : A) → P x → Q x) → IfOk answer Q
if_ok (Ok x) h f = f x h
if_ok (Err e) h f = tt

-- what steps to a state that can be read can't be read before
pub finishing : (old new : State) → is_some (next_state (Some old) new) ≡ true → is_readable new ≡ true → is_readable old ≡ false
finishing CopyStarted new h readable = refl
finishing CopyFinished CopyFinished h readable = absurd (cc)
finishing CopyFinished CopyStarted h readable = absurd (cc)
finishing CopyFinished DeleteStarted h readable = absurd (cc)
finishing CopyFinished DeleteFinished h readable = absurd (cc)
finishing DeleteStarted new h readable = refl
finishing DeleteFinished new h readable = refl
