-- A tier that is whole has no first flaw.
use Rattle.std.proofs.Common.{◌≡◌, ◌≢◌, ◌∙◌, ap, sym, refl, subst, true, List, [], ◌∷◌, ◌++◌, Option, Some, None, IsSome}
use Rattle.std.specs.List.{AllByRecursion}
use Rattle.std.proofs.lemmas.Option.{same_Some}
use Rattle.tier_base.specs.declared.plain.Part.{Part}
use Rattle.tier_base.specs.declared.plain.Part.TheVariants.{Log, Index, TimeIndex, Epochs, Pack}
use Rattle.segment_file.proofs.Joining.{all_parts as parted}
use Rattle.segment_meta.specs.declared.note.Entry.{Entry}
use Rattle.object_store.specs.Content.{Objects}
use Rattle.object_store.specs.declared.placing.Spot.{Spot}
use Rattle.object_store.specs.Place.{told_layout}
use Rattle.tier_audit.specs.declared.verdict.Flaw.{Flaw}
use Rattle.tier_audit.specs.declared.verdict.Flaw.TheVariants.{NoEntry, Left, Custom, Missing, Wrong}
use Rattle.tier_audit.specs.Whole.{place_of, IsPartStored, PartsHold, all_parts, IsReadable, IsWholeTier}
use Rattle.tier_audit.specs.Flaws.{parts_before, IsCopyFlaw, IsFirstOfCopies, IsFirstFlaw}

no_entry : {X : Type 0} (o : Option X) → IsSome o → o ≡ None → ⊥
no_entry None some e = cc
no_entry (Some x) some e = cc

-- each part of a readable copy exists, beside those before it
holds_to : (objects : Objects) (entry : Entry) (part : Part) → part ≢ Pack → PartsHold objects entry all_parts → PartsHold objects entry (parts_before part ++ part ∷ [])
holds_to objects entry Log own h = (h.0, h.1, (h.2.0, tt))
holds_to objects entry Index own h = (h.0, h.1, (h.2.0, (h.2.1.0, tt)))
holds_to objects entry TimeIndex own h = (h.0, h.1, (h.2.0, (h.2.1.0, (h.2.1.1.0, tt))))
holds_to objects entry Epochs own h = h
holds_to objects entry Pack own h = absurd (own refl)

stands_at : (objects : Objects) (entry : Entry) (part : Part) → part ≢ Pack → (h : PartsHold objects entry all_parts) → IsPartStored objects entry h.0 part
stands_at objects entry Log own h = h.2.0
stands_at objects entry Index own h = h.2.1.0
stands_at objects entry TimeIndex own h = h.2.1.1.0
stands_at objects entry Epochs own h = h.2.1.1.1.0
stands_at objects entry Pack own h = absurd (own refl)

-- a part that has a place isn't of a segment whose custom metadata is no layout
no_custom : (entry : Entry) (spot : Spot) → place_of entry Log ≡ Some spot → entry.packed ≡ true → told_layout entry.custom ≡ None → ⊥
no_custom entry spot place packed none = (let gone : place_of entry Log ≡ None = rw (packed, none) refl in cc (gone, place))

-- a readable copy has no flaw
no_copy_flaw : (objects : Objects) (entry : Entry) (flaw : Flaw) → PartsHold objects entry all_parts → IsCopyFlaw objects entry flaw → ⊥
no_copy_flaw objects entry (NoEntry key) h f = f
no_copy_flaw objects entry (Left key) h f = f
no_copy_flaw objects entry (Custom id) h f = no_custom entry h.2.0.spot h.2.0.place f.1 f.2
no_copy_flaw objects entry (Missing key) h f =
    let s = stands_at objects entry f.0.part f.0.own h in
    let same : s.spot ≡ f.0.spot = same_Some s.spot f.0.spot (sym s.place ∙ f.0.place) in
    let there : objects key ≡ Some s.object = ap objects (f.0.key_is ∙ ap (λ (q : Spot). q.key) (sym same)) ∙ s.there in
    let none : objects key ≡ None = f.1 in
    absurd (cc)
no_copy_flaw objects entry (Wrong key at) h f = f.1.wrong (holds_to objects entry f.0.part f.0.own h)

no_copies : (objects : Objects) (entries : List Entry) (flaw : Flaw) → IsWholeTier objects entries → IsFirstOfCopies objects entries flaw → ⊥
no_copies objects entries flaw w f =
    let all = subst (AllByRecursion (IsReadable objects)) f.parts w.readable in
    no_copy_flaw objects f.entry flaw ((parted (IsReadable objects) f.before (f.entry ∷ f.more) all).1.0 f.finished) f.flaw_is

pub one_thing : (objects : Objects) (entries : List Entry) (flaw : Flaw) → IsWholeTier objects entries → IsFirstFlaw objects entries flaw → ⊥
one_thing objects entries (NoEntry key) w f = no_entry _ (w.named key f.0.there) f.1
one_thing objects entries (Left key) w f = w.none_left key f.0.there f.1
one_thing objects entries (Custom id) w f = no_copies objects entries (Custom id) w f
one_thing objects entries (Missing key) w f = no_copies objects entries (Missing key) w f
one_thing objects entries (Wrong key at) w f = no_copies objects entries (Wrong key at) w f
