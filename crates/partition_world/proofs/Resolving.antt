-- A turn, and metadata events that a power cut may leave after it, give metadata events that one might have left
-- before, and the same turn over the metadata log beside these.
use Rattle.std.proofs.Common.{◌≡◌, ◌∙◌, ◌⊎◌, inl, inr, sym, ap, subst, refl, Bool, true, false, List, [], ◌∷◌, ◌++◌, drop, Option, Some, None, IsTrue}
use Rattle.std.specs.Prelude.{IsSomeAnd}
use Rattle.std.proofs.lemmas.List.Elements.{All-nil}
use Rattle.tier_base.specs.Device.{Fate, MayBeDone}
use Rattle.segment_meta.specs.declared.note.Note.{Note}
use Rattle.segment_meta.specs.Rules.{IsNote}
use Rattle.meta_log.specs.declared.log.MetaLog.{Ghosts as MetaGhosts}
use Rattle.meta_log.specs.declared.call.MetaCall.TheVariants.{Append}
use Rattle.meta_log.specs.Calls.{AppendsToMetaLog}
use Rattle.meta_log.specs.Content.{Left, appended_if}
use Rattle.remote_view.specs.Fold.{EntriesSeen}
use Rattle.view_refresh.specs.Refreshing.{Refreshed, Unread, Halted, Advances}
use Rattle.partition_world.specs.Left.{resolved}

-- what holds of one that is there holds of it with such metadata events
pub with_some : {A : Type 0} (o : Option A) (P : A → Type 0) (L : List Note → Type 0) (Q : A → List Note → Type 0) → IsSomeAnd o P
    → ((x : A) → P x → (l : List Note) × L l × Q x l) → (l : List Note) × L l × IsSomeAnd o (λ x. Q x l)
with_some (Some x) P L Q is f = f x is
with_some None P L Q is f = absurd is

module _ {M : Type 0} (meta : MetaGhosts M) where
  -- metadata events that a power cut might have left of a log, which have this
  abbrev pub Before : M → (List Note → Type 0) → Type 0
  Before m Q = (l : List Note) × Left (meta.content m) l × Q l

  -- the log reports
  abbrev pub Tells : M → Type 0
  Tells m = IsTrue (meta.content m).is_observable

  -- a metadata event was appended
  pub appends_with : (note : Note) (fate : Fate) (old new : M) (k : AppendsToMetaLog meta.content meta.control note fate old new) → Tells old → (l' : List Note)
      → Left (meta.content new) l' → Before old (λ l. AppendsToMetaLog (resolved meta).content (resolved meta).control note fate (old, l) (new, l'))
  appends_with note fate old new k is_observable l' left = from (k.content.left is_observable l' left)
    where
      may : Bool → Type 0
      may = MayBeDone Append fate (meta.control old)

      grown : (l : List Note) (done : Bool) → may done → l' ≡ appended_if done note l → (x : List Note) → Left ((resolved meta).content (new, l')) x
          → (may false × Left ((resolved meta).content (old, l)) x) ⊎ (may true × (x ≡ l ++ note ∷ []))
      grown l true m is x (inl same) = inr (m, same ∙ is)
      grown l false m is x (inl same) = inl (m, inl (same ∙ is))
      grown l done m is x (inr none) = absurd none

      made : (l : List Note) (done : Bool) → may done → l' ≡ appended_if done note l → AppendsToMetaLog (resolved meta).content (resolved meta).control note fate (old, l) (new, l')
      made l done m is = record { control = k.control; content = record { is_observable = k.content.is_observable; notes = λ t. (done, m, is); left = λ t x at. grown l done m is x at } }

      from : (may false × Left (meta.content old) l') ⊎ (may true × (l' ≡ (meta.content old).notes ++ note ∷ []))
          → Before old (λ l. AppendsToMetaLog (resolved meta).content (resolved meta).control note fate (old, l) (new, l'))
      from (inl (m, before)) = (l', before, made l' false m refl)
      from (inr (m, is)) = ((meta.content old).notes, inl refl, made (meta.content old).notes true m is)

  -- a power cut leaves what is reported beside it
  told_with : (m : M) (l x : List Note) → Left ((resolved meta).content (m, l)) x → x ≡ l
  told_with m l x (inl same) = same
  told_with m l x (inr none) = absurd none

  -- a view was refreshed
  pub refreshed_with : (before after : EntriesSeen) (old new : M) (k : Refreshed meta.content meta.control before after old new) → Tells old → (l' : List Note)
      → Left (meta.content new) l' → Before old (λ l. Refreshed (resolved meta).content (resolved meta).control before after (old, l) (new, l'))
  refreshed_with before after old new k is_observable l' left =
      let same : l' ≡ (meta.content old).notes = k.told is_observable l' left ∙ k.content.notes in (
        l',
        inl same,
        record {
          view = record { notes = k.view.notes; are = k.view.are; view = k.view.view; further = λ t. k.view.further is_observable ∙ ap (drop before.notes) (sym same) };
          control = k.control;
          content = record { is_observable = k.content.is_observable; notes = refl; left = λ x at. at };
          told = λ t x at. told_with new l' x at;
        },
      )

  -- a read failed
  pub unread_with : (before after : EntriesSeen) (old new : M) (k : Unread meta.content meta.control before after old new) → (l' : List Note)
      → Left (meta.content new) l' → Before old (λ l. Unread (resolved meta).content (resolved meta).control before after (old, l) (new, l'))
  unread_with before after old new k l' left = (
    l',
    k.content.left l' left,
    record { view = k.view; control = k.control; content = record { is_observable = k.content.is_observable; notes = refl; left = λ x at. at } },
  )

  -- memory ran out
  pub halted_with : (before after : EntriesSeen) (old new : M) (k : Halted meta.content meta.control before after old new) → Tells old → (l' : List Note)
      → Left (meta.content new) l' → Before old (λ l. Halted (resolved meta).content (resolved meta).control before after (old, l) (new, l'))
  halted_with before after old new k is_observable l' left = (l', k.content.left l' left, record { view = view k.moved; control = k.control; once = k.once; content = record { is_observable = k.content.is_observable; notes = refl; left = λ x at. at }; moved = inr (λ t x at. told_with new l' x at) })
    where
      view : (after ≡ before) ⊎ (IsTrue (meta.content old).is_observable → (l : List Note) → Left (meta.content new) l → l ≡ (meta.content new).notes)
          → Advances ((resolved meta).content (old, l')) before after
      view (inl same) = record { notes = []; rest = drop before.notes l'; are = All-nil IsNote; further = λ t. refl; view = same }
      view (inr told) =
          let same : l' ≡ (meta.content old).notes = told is_observable l' left ∙ k.content.notes in
          record { notes = k.view.notes; rest = k.view.rest; are = k.view.are; view = k.view.view; further = λ t. k.view.further is_observable ∙ ap (drop before.notes) (sym same) }

  -- the log is as it was
  pub same_with : (old new : M) → new ≡ old → (l' : List Note) → Left (meta.content new) l' → Before old (λ l. ◌≡◌ {A = M × List Note} (new, l') (old, l))
  same_with old new same l' left = (l', subst (λ (m : M). Left (meta.content m) l') same left, ap (λ (m : M). (let pair : M × List Note = (m, l') in pair)) same)
