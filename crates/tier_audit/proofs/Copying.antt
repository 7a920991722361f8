-- Copies whose parts are asked for one after the other.
use Rattle.std.proofs.Common.{◌≡◌, ◌≢◌, ◌∙◌, ap, sym, refl, subst, ℕ, ◌+◌, ◌<◌, ◌≤◌, ◌==◌, Bool, true, false, cond, List, [], ◌∷◌, ◌++◌, length, take, drop, get_or, Option, Some, None, Result, Ok, Err, IfOk, IsTrue, arith}
use Rattle.std.specs.Prelude.{nat_lt, option_map}
use Rattle.std.proofs.lemmas.Bool.Decides.{nat_tests}
use Rattle.std.specs.List.{AllByRecursion}
use Rattle.std.proofs.lemmas.Option.{same_Some}
use Rattle.std.proofs.lemmas.List.{take_more, drop_more, take_all, take-append-drop, length-take, length-drop}
use Rattle.tier_base.specs.declared.fault.Trouble.{Trouble}
use Rattle.tier_base.specs.declared.plain.Part.{Part}
use Rattle.tier_base.specs.declared.plain.Part.TheVariants.{Log, Index, TimeIndex, Epochs, Pack}
use Rattle.tier_base.specs.declared.layout.Layout.{Layout}
use Rattle.tier_base.specs.declared.object_key.ObjectKey.{ObjectKey}
use Rattle.tier_base.specs.Device.{Control, Fate, Went}
use Rattle.tier_base.proofs.Lasting.{lasts_same, lasts_then}
use Rattle.sparse_index.specs.Bytes.{bytes_of}
use Rattle.sparse_index.specs.Offsets.{entry_bytes}
use Rattle.sparse_index.specs.Times.{moment_bytes}
use Rattle.segment_file.proofs.Joining.{all_parts, segment_same}
use Rattle.segment_meta.specs.declared.note.Entry.{Entry}
use Rattle.object_store.specs.Call.{call_code}
use Rattle.object_store.specs.Content.{Objects, Content, Keeps}
use Rattle.object_store.specs.declared.placing.Spot.{Spot}
use Rattle.object_store.specs.Place.{key_of, whole, at_in, length_in, part_of, told_layout, spot_of, capped, all_of, short_at, short_of}
use Rattle.tier_audit.specs.declared.verdict.Flaw.{Flaw}
use Rattle.tier_audit.specs.declared.verdict.Flaw.TheVariants.{NoEntry, Left, Custom, Missing, Wrong}
use Rattle.tier_audit.specs.declared.log_part.LogPart.TheVariants as log_part
use Rattle.tier_audit.specs.Asking.{OnlyAsks}
use Rattle.tier_audit.specs.Whole.{Describes, AreMarks, AreHeights, IsPartRight, place_of, IsPartStored, PartsHold, IsReadable, AreReadable}
use Rattle.tier_audit.specs.Flaws.{IsEntryPlace, HasCopiedLog, IsFlawPlace, IsPlaceIn, in_object, parts_before, IsWrong, IsAtPart, IsCopyFlaw}
use Rattle.tier_audit.specs.Copies.{IsPlaceBeside, ReadsSpot, ReadsLogSpot, from_rest, IsWrongBeside, FindsAt, FindsPart, FindsParts, FindsCopy, IsFirstUnreadable}

-- a store that was asked holds the same
pub objects_same : (old new : Content) → Keeps old new → new.objects ≡ old.objects
objects_same old new keeps = λ i key. keeps.objects key i

keeps_then : (old mid new : Content) → Keeps old mid → Keeps mid new → Keeps old new
keeps_then old mid new first second = record { is_observable = second.is_observable ∙ first.is_observable; objects = λ k. second.objects k ∙ first.objects k }

pub tells_on : (old new : Content) → Keeps old new → IsTrue old.is_observable → IsTrue new.is_observable
tells_on old new keeps is_observable = keeps.is_observable ∙ is_observable

module _ {S : Type 0} (objects : S → Content) (calls : S → Control call_code) where
  -- it wasn't asked
  pub asks_none : (store : S) → OnlyAsks objects calls Went store store
  asks_none store = record { control = lasts_same (calls store); cause = λ e. absurd (cc); content = record { is_observable = refl; objects = λ k. refl } }

  -- it was asked, and then again
  pub asks_then : (fate : Fate) (old mid new : S) → OnlyAsks objects calls Went old mid → OnlyAsks objects calls fate mid new → OnlyAsks objects calls fate old new
  asks_then fate old mid new first second = record {
    control = lasts_then (calls old) (calls mid) (calls new) first.control second.control;
    cause = λ e. (let later = first.control.never_falls in let rose = second.cause e in omega (arith, later, rose));
    content = keeps_then (objects old) (objects mid) (objects new) first.content second.content;
  }

-- where a part has no place its segment is packed, and its custom metadata is no layout
no_place : (entry : Entry) (part : Part) → place_of entry part ≡ None → (entry.packed ≡ true) × (told_layout entry.custom ≡ None)
no_place entry part none = by entry.packed refl none
  where
    told : (o : Option Layout) → option_map (λ (l : Layout). part_of (key_of entry.partition entry.id Pack) l part) o ≡ None → o ≡ None
    told None e = refl
    told (Some l) e = absurd (cc)

    by : (packed : Bool) → entry.packed ≡ packed → spot_of entry.partition entry.id packed entry.custom part ≡ None → (entry.packed ≡ true) × (told_layout entry.custom ≡ None)
    by false is e = absurd (cc)
    by true is e = (is, told (told_layout entry.custom) e)

-- how far an object reaches of which a part is whole
enough : (at owed got : ℕ) → short_at at (Some owed) got ≡ None → owed ≤ got
enough at owed got none = by (nat_lt got owed) refl none
  where
    by : (t : Bool) → nat_lt got owed ≡ t → cond t (Some (at + got)) None ≡ None → owed ≤ got
    by true is e = absurd (cc)
    by false is e = grind (arith, nat_tests, is)

reaches : (at owed : ℕ) (object : List ℕ) → owed ≤ length (take owed (drop at object)) → at ≤ length object → at + owed ≤ length object
reaches at owed object some from =
    let taken = length-take owed (drop at object) in
    let dropped = length-drop at object in
    grind (arith, taken, dropped, some, from)

module _ (objects : Objects) (entry : Entry) (batches : List (List ℕ)) where
  -- a part that is has one object
  same_spot : (part : Part) (s : IsPartStored objects entry batches part) (spot : Spot) → place_of entry part ≡ Some spot → s.spot ≡ spot
  same_spot part s spot place = same_Some s.spot spot (sym s.place ∙ place)

  same_object : (part : Part) (s : IsPartStored objects entry batches part) (spot : Spot) (object : List ℕ) → place_of entry part ≡ Some spot → objects spot.key ≡ Some object → s.object ≡ object
  same_object part s spot object place there =
      same_Some s.object object (sym s.there ∙ (ap (λ (q : Spot). objects q.key) (same_spot part s spot place) ∙ there))

  -- and so the same bytes
  pub stands_so : (part : Part) (s : IsPartStored objects entry batches part) (spot : Spot) (object : List ℕ) → place_of entry part ≡ Some spot → objects spot.key ≡ Some object
      → (short_of spot (all_of spot object) ≡ None) × IsPartRight entry batches part (all_of spot object)
  stands_so part s spot object place there =
      subst (λ (o : List ℕ). (short_of spot (all_of spot o) ≡ None) × IsPartRight entry batches part (all_of spot o)) (same_object part s spot object place there)
      (subst (λ (q : Spot). (short_of q (all_of q s.object) ≡ None) × IsPartRight entry batches part (all_of q s.object)) (same_spot part s spot place) (s.whole, s.right))

  -- the parts before one that is in the same object reach up to it
  module _ (l : Layout) (packed : entry.packed ≡ true) (told : told_layout entry.custom ≡ Some l) (object : List ℕ) (there : objects (key_of entry.partition entry.id Pack) ≡ Some object) where
    placed : (part : Part) → place_of entry part ≡ Some (part_of (key_of entry.partition entry.id Pack) l part)
    placed part = rw (packed, told) refl

    over : (part : Part) → IsPartStored objects entry batches part → at_in l part ≤ length object → at_in l part + length_in l part ≤ length object
    over part s from =
        let so = stands_so part s (part_of (key_of entry.partition entry.id Pack) l part) object (placed part) there in
        reaches (at_in l part) (length_in l part) object (enough (at_in l part) (length_in l part) (length (take (length_in l part) (drop (at_in l part) object))) so.0) from

  -- the object of a part begins before it, where the parts before are
  from_part : (part : Part) → ((l : Layout) (object : List ℕ) → entry.packed ≡ true → told_layout entry.custom ≡ Some l → objects (key_of entry.partition entry.id Pack) ≡ Some object → at_in l part ≤ length object)
      → (spot : Spot) (object : List ℕ) → place_of entry part ≡ Some spot → objects spot.key ≡ Some object → spot.at ≤ length object
  from_part part far spot object place there = by entry.packed refl place
    where
      told : (o : Option Layout) → told_layout entry.custom ≡ o → entry.packed ≡ true → option_map (λ (l : Layout). part_of (key_of entry.partition entry.id Pack) l part) o ≡ Some spot → spot.at ≤ length object
      told None is packed e = absurd (cc)
      told (Some l) is packed e =
          let same : part_of (key_of entry.partition entry.id Pack) l part ≡ spot = same_Some (part_of (key_of entry.partition entry.id Pack) l part) spot e in
          let here : objects (key_of entry.partition entry.id Pack) ≡ Some object = ap (λ (q : Spot). objects q.key) same ∙ there in
          subst (λ (q : Spot). q.at ≤ length object) same (far l object packed is here)

      by : (packed : Bool) → entry.packed ≡ packed → spot_of entry.partition entry.id packed entry.custom part ≡ Some spot → spot.at ≤ length object
      by false is e = subst (λ (q : Spot). q.at ≤ length object) (same_Some (whole (key_of entry.partition entry.id part)) spot e) (omega arith)
      by true is e = told (told_layout entry.custom) refl is e

  -- so its end is reported as the object's
  end_told : (spot : Spot) (object : List ℕ) (within : ℕ) → spot.at ≤ length object → from_rest spot (drop spot.at object) within ≡ in_object spot object within
  end_told spot object within from = by (within == length (all_of spot object))
    where
      by : (t : Bool) → spot.at + cond t (length (drop spot.at object)) within ≡ cond t (length object) (spot.at + within)
      by true = let dropped = length-drop spot.at object in omega (arith, dropped, from)
      by false = refl

-- what is found of a log
module _ (objects : Objects) (entry : Entry) (spot : Spot) (place : place_of entry Log ≡ Some spot) where
  abbrev at_log : IsAtPart objects entry spot.key
  at_log = record { part = Log; own = λ e. absurd (cc (e)); spot = spot; place = place; key_is = refl; before = tt }

  module _ (object : List ℕ) (there : objects spot.key ≡ Some object) where
    pub log_wrong : (within : ℕ) → ReadsLogSpot entry (short_of spot (all_of spot object)) (all_of spot object) (log_part.Wrong within)
        → IsCopyFlaw objects entry (Wrong spot.key (from_rest spot (drop spot.at object) within))
    log_wrong within reads = by (short_of spot (all_of spot object)) refl reads
      where
        from : spot.at ≤ length object
        from = from_part objects entry [] Log (λ l object packed told there. omega arith) spot object place there

        found : ((batches : List (List ℕ)) → Describes entry batches → IsPartStored objects entry batches Log → ⊥) → IsPlaceIn objects entry Log (short_of spot (all_of spot object)) (all_of spot object) within
            → IsCopyFlaw objects entry (Wrong spot.key (from_rest spot (drop spot.at object) within))
        found wrong p = (
          at_log,
          record {
            object = object;
            there = there;
            wrong = λ h. wrong h.0 h.1 h.2.0;
            within = within;
            place = p;
            at_is = end_told objects entry [] spot object within from;
          },
        )

        wrong_of : (at : ℕ) → log_part.Wrong at ≡ log_part.Wrong within → within ≡ at
        wrong_of at e = cc (e)

        by : (short : Option ℕ) → short_of spot (all_of spot object) ≡ short → ReadsLogSpot entry short (all_of spot object) (log_part.Wrong within) → IsCopyFlaw objects entry (Wrong spot.key (from_rest spot (drop spot.at object) within))
        by (Some end) is e = found
            (λ batches d s. (let so = stands_so objects entry batches Log s spot object place there in let none = so.0 in absurd (cc (is, none))))
            (subst (λ (short : Option ℕ). IsPlaceIn objects entry Log short (all_of spot object) within) (sym is) (wrong_of (length (all_of spot object)) (sym e)))
        by None is r = found
            (λ batches d s. (let so = stands_so objects entry batches Log s spot object place there in r.0 batches d so.1))
            (subst (λ (short : Option ℕ). IsPlaceIn objects entry Log short (all_of spot object) within) (sym is) r.1)

-- what follows a place in an object that was given
given_of : (at : ℕ) (rest : List ℕ) (o : Option (List ℕ)) → Some rest ≡ option_map (drop at) o → (object : List ℕ) × (o ≡ Some object) × (rest ≡ drop at object)
given_of at rest None e = absurd (cc (e))
given_of at rest (Some object) e = (object, refl, same_Some rest (drop at object) e)

-- what a log's bytes are found to be, as the store gave them
pub log_told : (objects : Objects) (entry : Entry) (spot : Spot) (rest : List ℕ) (within : ℕ) → place_of entry Log ≡ Some spot → Some rest ≡ option_map (drop spot.at) (objects spot.key)
    → ReadsLogSpot entry (short_of spot (capped spot.len rest)) (capped spot.len rest) (log_part.Wrong within) → IsCopyFlaw objects entry (Wrong spot.key (from_rest spot rest within))
log_told objects entry spot rest within place given reads =
    let g = given_of spot.at rest (objects spot.key) given in
    subst (λ (bytes : List ℕ). IsCopyFlaw objects entry (Wrong spot.key (from_rest spot bytes within))) (sym g.2)
    (log_wrong objects entry spot place g.0 g.1 within
    (subst (λ (bytes : List ℕ). ReadsLogSpot entry (short_of spot (capped spot.len bytes)) (capped spot.len bytes) (log_part.Wrong within)) g.2 reads))

-- what is found of a part
module _ (objects : Objects) (entry : Entry) (log : List (List ℕ)) (part : Part) (spot : Spot) (place : place_of entry part ≡ Some spot) (object : List ℕ) (there : objects spot.key ≡ Some object) where
  pub part_wrong : (within : ℕ) → ReadsSpot entry log part (short_of spot (all_of spot object)) (all_of spot object) (Some within)
      → FindsPart objects entry log part (Some (Wrong spot.key (from_rest spot (drop spot.at object) within)))
  part_wrong within reads = rw place (refl, record { object = object; there = there; within = within; reads = reads; at_is = refl })

-- what a part's bytes are found to be, as the store gave them
pub part_told : (objects : Objects) (entry : Entry) (log : List (List ℕ)) (part : Part) (spot : Spot) (rest : List ℕ) (within : ℕ) → place_of entry part ≡ Some spot → Some rest ≡ option_map (drop spot.at) (objects spot.key)
    → ReadsSpot entry log part (short_of spot (capped spot.len rest)) (capped spot.len rest) (Some within) → FindsPart objects entry log part (Some (Wrong spot.key (from_rest spot rest within)))
part_told objects entry log part spot rest within place given reads =
    let g = given_of spot.at rest (objects spot.key) given in
    subst (λ (bytes : List ℕ). FindsPart objects entry log part (Some (Wrong spot.key (from_rest spot bytes within)))) (sym g.2)
    (part_wrong objects entry log part spot place g.0 g.1 within
    (subst (λ (bytes : List ℕ). ReadsSpot entry log part (short_of spot (capped spot.len bytes)) (capped spot.len bytes) (Some within)) g.2 reads))

module _ (objects : Objects) (entry : Entry) (log : List (List ℕ)) (has : HasCopiedLog objects entry log) where
  -- no other batches are the log
  same_log : (batches : List (List ℕ)) → HasCopiedLog objects entry batches → batches ≡ log
  same_log batches h =
      let other = stands_so objects entry log Log has.log h.log.spot h.log.object h.log.place h.log.there in
      segment_same entry.start entry.start batches log h.describes.is has.describes.is (sym h.log.right ∙ other.1)

  all_same : (parts : List Part) → PartsHold objects entry (Log ∷ parts) → AllByRecursion (IsPartStored objects entry log) (Log ∷ parts)
  all_same parts h =
      subst (λ (bs : List (List ℕ)). AllByRecursion (IsPartStored objects entry bs) (Log ∷ parts)) (same_log h.0 (record { describes = h.1; log = h.2.0 })) h.2

  place_beside : (part : Part) (bytes : List ℕ) (at : ℕ) → IsPlaceBeside entry log part bytes at → IsFlawPlace objects entry part bytes at
  place_beside Log bytes at p = p
  place_beside Index bytes at p = λ batches h. subst (λ (bs : List (List ℕ)). IsEntryPlace 8 (bytes_of entry_bytes) (AreMarks entry.start bs) bytes at) (sym (same_log batches h)) p
  place_beside TimeIndex bytes at p = λ batches h. subst (λ (bs : List (List ℕ)). IsEntryPlace 12 (bytes_of moment_bytes) (AreHeights entry.start bs) bytes at) (sym (same_log batches h)) p
  place_beside Epochs bytes at p = p
  place_beside Pack bytes at p = p

  last_stands : (part : Part) (front : List Part) → PartsHold objects entry (Log ∷ front ++ part ∷ []) → IsPartStored objects entry log part
  last_stands part front h =
      let all = all_same (front ++ part ∷ []) h in
      (all_parts (IsPartStored objects entry log) front (part ∷ []) all.1).1.0

  hold_all : (front : List Part) → AllByRecursion (IsPartStored objects entry log) (Log ∷ front) → PartsHold objects entry (Log ∷ front)
  hold_all front all = (log, has.describes, all)

  -- a flaw of a part is the copy's, where the parts before it are
  module _ (part : Part) (own : part ≢ Pack) (front : List Part) (is : parts_before part ≡ Log ∷ front) (all : AllByRecursion (IsPartStored objects entry log) (Log ∷ front))
      (far : (l : Layout) (object : List ℕ) → entry.packed ≡ true → told_layout entry.custom ≡ Some l → objects (key_of entry.partition entry.id Pack) ≡ Some object → at_in l part ≤ length object) where
    abbrev at_part : (spot : Spot) → place_of entry part ≡ Some spot → IsAtPart objects entry spot.key
    at_part spot place = record { part = part; own = own; spot = spot; place = place; key_is = refl; before = subst (PartsHold objects entry) (sym is) (hold_all front all) }

    wrong_at : (spot : Spot) (at : ℕ) → place_of entry part ≡ Some spot → IsWrongBeside objects entry log part spot at → IsWrong objects entry part spot at
    wrong_at spot at place w = by (short_of spot (all_of spot w.object)) refl w.reads
      where
        told : at ≡ in_object spot w.object w.within
        told = w.at_is ∙ end_told objects entry log spot w.object w.within (from_part objects entry log part far spot w.object place w.there)

        found : (IsPartStored objects entry log part → ⊥) → IsPlaceIn objects entry part (short_of spot (all_of spot w.object)) (all_of spot w.object) w.within → IsWrong objects entry part spot at
        found wrong p = record {
          object = w.object;
          there = w.there;
          wrong = λ h. wrong (last_stands part front (subst (λ (parts : List Part). PartsHold objects entry (parts ++ part ∷ [])) is h));
          within = w.within;
          place = p;
          at_is = told;
        }

        by : (short : Option ℕ) → short_of spot (all_of spot w.object) ≡ short → ReadsSpot entry log part short (all_of spot w.object) (Some w.within) → IsWrong objects entry part spot at
        by (Some end) short e = found
            (λ s. (let so = stands_so objects entry log part s spot w.object place w.there in let none = so.0 in absurd (cc (short, none))))
            (subst (λ (o : Option ℕ). IsPlaceIn objects entry part o (all_of spot w.object) w.within) (sym short) (same_Some w.within (length (all_of spot w.object)) e))
        by None short r = found
            (λ s. (let so = stands_so objects entry log part s spot w.object place w.there in r.0 so.1))
            (subst (λ (o : Option ℕ). IsPlaceIn objects entry part o (all_of spot w.object) w.within) (sym short) (place_beside part (all_of spot w.object) w.within r.1))

    flaw_at : (o : Option Spot) → place_of entry part ≡ o → (flaw : Flaw) → FindsAt objects entry log part o (Some flaw) → IsCopyFlaw objects entry flaw
    flaw_at None place (NoEntry key) found = absurd found
    flaw_at None place (Left key) found = absurd found
    flaw_at None place (Custom id) found = let none = no_place entry part place in (found, none.0, none.1)
    flaw_at None place (Missing key) found = absurd found
    flaw_at None place (Wrong key at) found = absurd found
    flaw_at (Some spot) place (NoEntry key) found = absurd found
    flaw_at (Some spot) place (Left key) found = absurd found
    flaw_at (Some spot) place (Custom id) found = absurd found
    flaw_at (Some spot) place (Missing key) found =
        subst (λ (k : ObjectKey). IsCopyFlaw objects entry (Missing k)) (sym found.0) (at_part spot place, ap objects (sym found.0) ∙ found.1)
    flaw_at (Some spot) place (Wrong key at) found =
        subst (λ (k : ObjectKey). IsCopyFlaw objects entry (Wrong k at)) (sym found.0) (at_part spot place, wrong_at spot at place found.1)

    pub part_flaw : (flaw : Flaw) → FindsPart objects entry log part (Some flaw) → IsCopyFlaw objects entry flaw
    part_flaw = flaw_at (place_of entry part) refl

  -- where the parts begin in one object
  index_from : (l : Layout) (object : List ℕ) → entry.packed ≡ true → told_layout entry.custom ≡ Some l → objects (key_of entry.partition entry.id Pack) ≡ Some object → l.log ≤ length object
  index_from l object packed told there = (let up : 0 + l.log ≤ length object = over objects entry log l packed told object there Log has.log (omega arith) in omega (arith, up))

  times_from : IsPartStored objects entry log Index → (l : Layout) (object : List ℕ) → entry.packed ≡ true → told_layout entry.custom ≡ Some l → objects (key_of entry.partition entry.id Pack) ≡ Some object
      → l.log + l.index ≤ length object
  times_from index l object packed told there = over objects entry log l packed told object there Index index (index_from l object packed told there)

  epochs_from : IsPartStored objects entry log Index → IsPartStored objects entry log TimeIndex → (l : Layout) (object : List ℕ) → entry.packed ≡ true → told_layout entry.custom ≡ Some l
      → objects (key_of entry.partition entry.id Pack) ≡ Some object → l.log + l.index + l.times ≤ length object
  epochs_from index times l object packed told there = over objects entry log l packed told object there TimeIndex times (times_from index l object packed told there)

  pub index_flaw : (flaw : Flaw) → FindsPart objects entry log Index (Some flaw) → IsCopyFlaw objects entry flaw
  index_flaw = part_flaw Index (λ e. absurd (cc (e))) [] refl (has.log, tt) index_from

  pub times_flaw : IsPartStored objects entry log Index → (flaw : Flaw) → FindsPart objects entry log TimeIndex (Some flaw) → IsCopyFlaw objects entry flaw
  times_flaw index = part_flaw TimeIndex (λ e. absurd (cc (e))) (Index ∷ []) refl (has.log, (index, tt)) (times_from index)

  -- what is found of the last part
  pub last_found : IsPartStored objects entry log Index → IsPartStored objects entry log TimeIndex → (r : Result (Option Flaw) Trouble) → IfOk r (λ found. FindsPart objects entry log Epochs found) → IfOk r (λ found. FindsParts objects entry found)
  last_found index times (Ok None) epochs = hold_all (Index ∷ TimeIndex ∷ Epochs ∷ []) (has.log, (index, (times, (epochs, tt))))
  last_found index times (Ok (Some flaw)) found = part_flaw Epochs (λ e. absurd (cc (e))) (Index ∷ TimeIndex ∷ []) refl (has.log, (index, (times, tt))) (epochs_from index times) flaw found
  last_found index times (Err e) found = found

all_push : {X : Type 0} (P : X → Type 0) (xs : List X) (x : X) → AllByRecursion P xs → P x → AllByRecursion P (xs ++ x ∷ [])
all_push P [] x all one = (one, tt)
all_push P (y ∷ xs) x all one = (all.0, all_push P xs x all.1 one)

-- one entry more is readable
pub readable_more : (objects : Objects) (entries : List Entry) (i : ℕ) (none : Entry) → i < length entries → AreReadable objects (take i entries) → IsReadable objects (get_or entries i none) → AreReadable objects (take (i + 1) entries)
readable_more objects entries i none within front one =
    subst (AreReadable objects) (sym (take_more entries i none within)) (all_push (IsReadable objects) (take i entries) (get_or entries i none) front one)

-- the first one that isn't
pub first_unreadable : (objects : Objects) (entries : List Entry) (i : ℕ) (none entry : Entry) (flaw : Flaw) → i < length entries → entry ≡ get_or entries i none → AreReadable objects (take i entries)
    → FindsCopy objects entry (Some flaw) → IsFirstUnreadable objects entries flaw
first_unreadable objects entries i none entry flaw within is front found = record {
  before = take i entries;
  entry = entry;
  more = drop (i + 1) entries;
  parts = sym (take-append-drop i entries) ∙ (ap (λ xs. take i entries ++ xs) (drop_more entries i none within) ∙ ap (λ (e : Entry). take i entries ++ (e ∷ drop (i + 1) entries)) (sym is));
  readable = front;
  finished = found.0;
  flaw_is = found.1;
}

pub readable_all : (objects : Objects) (entries : List Entry) (i : ℕ) → length entries ≤ i → AreReadable objects (take i entries) → AreReadable objects entries
readable_all objects entries i all front = subst (AreReadable objects) (take_all i entries all) front
