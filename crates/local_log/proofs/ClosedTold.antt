-- A closed segment over an observable disk is a part of the log.
use Rattle.std.proofs.Common.{◌≡◌, ◌≢◌, ◌⊎◌, ◌∙◌, ap, sym, refl, subst, inl, inr, ℕ, ◌+◌, ◌^◌, ◌<◌, ◌≤◌, nat_lt, nat_le, Bool, true, false, List, [], ◌∷◌, ◌++◌, length, take, Option, Some, IsOk, IsTrue, arith, append_assoc}
use Rattle.std.specs.List.{AllByRecursion}
use Rattle.std.specs.Prelude.{unwrap_or}
use Rattle.std.proofs.lemmas.Bool.{ltb-false}
use Rattle.std.proofs.lemmas.List.{length-take-le, take-take}
use Rattle.std.proofs.lemmas.Option.{same_Some}
use Rattle.disk_model.specs.Content.{Content, Files}
use Rattle.log_terms.specs.Batch.{base_of, last_of, epoch_of}
use Rattle.log_terms.specs.Log.{joined, IsConsecutive, end_from}
use Rattle.log_terms.specs.Line.{epoch_at}
use Rattle.log_terms.proofs.Logs.{end_append, lt_false}
use Rattle.record_batch.specs.Check.{checked}
use Rattle.epoch_line.specs.Line.{IsLine}
use Rattle.segment_file.specs.Growing.{Grown}
use Rattle.segment_file.specs.Segment.{EpochsRise, IsSegment}
use Rattle.segment_file.specs.Closed.{ClosedSegment, IsBadPlace}
use Rattle.segment_file.proofs.Joining.{segment_same}
use Rattle.segment_file.proofs.Laying.{end_up}
use Rattle.log_steps.specs.Fronts.{Each}
use Rattle.log_steps.specs.Opens.{IsPlaced}
use Rattle.log_steps.proofs.Lists.{each_join}
use Rattle.local_log.specs.declared.log.LocalLog.TheInside.{Inside}
use Rattle.local_log.specs.declared.refusal.ReadRefusal.{ReadRefusal}
use Rattle.local_log.specs.declared.refusal.ReadRefusal.TheVariants as refusal
use Rattle.local_log.specs.Stored.{bytes_of, batches_of, all_batches, size_of, end_of, AreChained, IsStored}
use Rattle.local_log.specs.Listing.{IsLaidOut}
use Rattle.local_log.specs.Epochs.{IsOfLine}
use Rattle.local_log.specs.Inside.{log_in, IsLogSound}
use Rattle.local_log.specs.Reading.{first_past, IsSegmentFront, HasStray, HasNoSegment, FrontFails, IsPartOf, IsOfDevice}
use Rattle.local_log.proofs.Pieces.{stored_batches, stored_end, size_placed}
use Rattle.local_log.proofs.Edges.{holder, holder_each}
use Rattle.local_log.proofs.Strays.{epoch_low, placed_given, none_strays}

-- epochs don't fall
epochs_up : (e st : ℕ) (line : List (ℕ × ℕ)) (a b x y : ℕ) → IsLine ((e, st) ∷ line) → a ≤ b → epoch_at ((e, st) ∷ line) a ≡ Some x → epoch_at ((e, st) ∷ line) b ≡ Some y → x ≤ y
epochs_up e st [] a b x y is le one two = go (nat_le st a) refl
  where
    go : (t : Bool) → nat_le st a ≡ t → x ≤ y
    go true t = let same = same_Some e x (rw t at one) in let h = epoch_low e st [] b y is two in omega (arith, same, h.0)
    go false t = let none = rw t at one in absurd (cc (none))
epochs_up e st ((next, after) ∷ line) a b x y is le one two = go (nat_lt a st) refl (epochs_up next after line a b x y is.3 le)
  where
    second : (t : Bool) → nat_lt a st ≡ false → nat_lt a after ≡ t → (epoch_at ((next, after) ∷ line) a ≡ Some x → epoch_at ((next, after) ∷ line) b ≡ Some y → x ≤ y) → x ≤ y
    second true f t more = let same = same_Some e x (rw t at (rw f at one)) in let h = epoch_low e st ((next, after) ∷ line) b y is two in omega (arith, same, h.0)
    second false f t more =
        let from : st ≤ a = ltb-false a st f in
        let past : after ≤ a = ltb-false a after t in
        let f' : nat_lt b st ≡ false = lt_false b st (omega (arith, from, le)) in
        let t' : nat_lt b after ≡ false = lt_false b after (omega (arith, past, le)) in
        more (rw t at (rw f at one)) (rw t' at (rw f' at two))

    go : (t : Bool) → nat_lt a st ≡ t → (epoch_at ((next, after) ∷ line) a ≡ Some x → epoch_at ((next, after) ∷ line) b ≡ Some y → x ≤ y) → x ≤ y
    go true t more = let none = rw t at one in absurd (cc (none))
    go false t more = second (nat_lt a after) t refl more

line_up : (line : List (ℕ × ℕ)) (a b x y : ℕ) → IsLine line → a ≤ b → epoch_at line a ≡ Some x → epoch_at line b ≡ Some y → x ≤ y
line_up [] a b x y is le one two = absurd (cc (one))
line_up ((e, st) ∷ line) a b x y is le one two = epochs_up e st line a b x y is le one two

line_fits : (line : List (ℕ × ℕ)) (a x : ℕ) → IsLine line → epoch_at line a ≡ Some x → x < 2 ^ 31
line_fits [] a x is one = absurd (cc (one))
line_fits ((e, st) ∷ line) a x is one = (epoch_low e st line a x is one).1

-- so the epochs of placed batches don't fall
epochs_rise : (line : List (ℕ × ℕ)) (base n o epoch : ℕ) (batches : List (List ℕ)) → IsLine line → epoch_at line o ≡ Some epoch → o ≤ n → IsConsecutive n batches → Each (IsPlaced line base) batches → EpochsRise epoch batches
epochs_rise line base n o epoch [] is at_o le c placed = tt
epochs_rise line base n o epoch (b ∷ batches) is at_o le c placed =
    let here = placed.0.epoch in (
      line_up line o (base_of b) epoch (epoch_of b) is (omega (arith, le, c.0)) at_o here,
      line_fits line (base_of b) (epoch_of b) is here,
      epochs_rise line base (last_of b + 1) (base_of b) (epoch_of b) batches is here (omega arith) c.1 placed.1,
    )

rise_from : (line : List (ℕ × ℕ)) (base n : ℕ) (batches : List (List ℕ)) → IsLine line → IsConsecutive n batches → Each (IsPlaced line base) batches → EpochsRise 0 batches
rise_from line base n [] is c placed = tt
rise_from line base n (b ∷ batches) is c placed =
    let here = placed.0.epoch in (
      omega arith,
      line_fits line (base_of b) (epoch_of b) is here,
      epochs_rise line base (last_of b + 1) (base_of b) (epoch_of b) batches is here (omega arith) c.1 placed.1,
    )

checked_placed : (line : List (ℕ × ℕ)) (base : ℕ) (batches : List (List ℕ)) → Each (IsPlaced line base) batches → AllByRecursion (λ (b : List ℕ). IsOk (checked b)) batches
checked_placed line base [] placed = tt
checked_placed line base (b ∷ batches) placed = (placed.0.is, checked_placed line base batches placed.1)

low_end : (line : List (ℕ × ℕ)) (base n : ℕ) (batches : List (List ℕ)) → n ≤ 2 ^ 62 → Each (IsPlaced line base) batches → end_from n batches ≤ 2 ^ 62
low_end line base n [] le placed = le
low_end line base n (b ∷ batches) le placed = let h = placed.0.low in low_end line base (last_of b + 1) batches (omega (arith, h)) placed.1

-- the batches of a stored segment are those of a segment
pub stored_is : (f : Files) (line : List (ℕ × ℕ)) (g : Grown) (s : IsStored f line g) → IsLine line → IsLaidOut g → g.base ≤ 2 ^ 62 → IsSegment g.base s.batches
stored_is f line g s is laid low =
    let end = stored_end f line g s in
    let size : size_of g ≡ 0 + length (joined s.batches) = ap (λ l. size_of (record g { batches = l })) s.placed ∙ size_placed 0 s.batches in
    record {
      checked = checked_placed line g.base s.batches s.stands.placed;
      consecutive = s.stands.consecutive;
      epochs = rise_from line g.base g.base s.batches is s.stands.consecutive s.stands.placed;
      near = (let h = laid.near in omega (arith, end, h));
      low = low_end line g.base g.base s.batches low s.stands.placed;
      small = (let h = laid.small in omega (arith, size, h));
    }

-- a log's segments begin at or below its end
pub holder_low : (first offset : ℕ) (closed : List Grown) (active : Grown) → AreChained first (closed ++ active ∷ []) → Each IsLaidOut closed → IsLaidOut active → (first ≤ end_of active) × ((holder offset closed active).base ≤ end_of active)
holder_low first offset [] active chained laid last = let up = end_up active.base 0 active.batches last.laid in (omega (arith, up, chained.0), up)
holder_low first offset (s ∷ closed) active chained laid last = go (nat_lt offset (end_of s)) refl (holder_low (end_of s) offset closed active chained.1 laid.1 last)
  where
    up : s.base ≤ end_of s
    up = end_up s.base 0 s.batches laid.0.laid

    go : (t : Bool) → nat_lt offset (end_of s) ≡ t → ((end_of s ≤ end_of active) × ((holder offset closed active).base ≤ end_of active)) → (first ≤ end_of active) × ((holder offset (s ∷ closed) active).base ≤ end_of active)
    go true t h = (omega (arith, up, h.0, chained.0), rw t (omega (arith, up, h.0)))
    go false t h = (omega (arith, up, h.0, chained.0), rw t h.1)

-- where a segment's batches are in the log
pub record StandsAt (f : Files) (first : ℕ) (closed : List Grown) (active g : Grown) : Type 0 where
  pub before : List (List ℕ)
  pub after : List (List ℕ)
  pub parts : all_batches f (closed ++ active ∷ []) ≡ before ++ (batches_of f g ++ after)
  pub begins : end_from first before ≡ g.base

pub holder_stands : (f : Files) (line : List (ℕ × ℕ)) (first offset : ℕ) (closed : List Grown) (active : Grown) → AreChained first (closed ++ active ∷ []) → Each (IsStored f line) (closed ++ active ∷ []) → StandsAt f first closed active (holder offset closed active)
holder_stands f line first offset [] active chained each = record { before = []; after = []; parts = refl; begins = sym chained.0 }
holder_stands f line first offset (s ∷ closed) active chained each = go (nat_lt offset (end_of s)) refl (holder_stands f line (end_of s) offset closed active chained.1 each.1)
  where
    k : IsStored f line s
    k = each.0

    end : end_from first (batches_of f s) ≡ end_of s
    end = ap (end_from first) (stored_batches f line s k) ∙ ap (λ (n : ℕ). end_from n k.batches) (sym chained.0) ∙ sym (stored_end f line s k)

    go : (t : Bool) → nat_lt offset (end_of s) ≡ t → StandsAt f (end_of s) closed active (holder offset closed active) → StandsAt f first (s ∷ closed) active (holder offset (s ∷ closed) active)
    go true t h = rw t (record { before = []; after = all_batches f (closed ++ active ∷ []); parts = refl; begins = sym chained.0 })
    go false t h = rw t (record {
      before = batches_of f s ++ h.before;
      after = h.after;
      parts = ap (λ (l : List (List ℕ)). batches_of f s ++ l) h.parts ∙ sym (append_assoc (batches_of f s) h.before (batches_of f (holder offset closed active) ++ h.after));
      begins = end_append first (batches_of f s) h.before ∙ ap (λ (n : ℕ). end_from n h.before) end ∙ h.begins;
    })

-- a closed segment that is found isn't empty
pub found_some : (offset : ℕ) (closed : List Grown) (g : Grown) → first_past offset closed ≡ Some g → Each (λ (x : Grown). 0 < size_of x) closed → 0 < size_of g
found_some offset [] g found some = absurd (cc (found))
found_some offset (s ∷ closed) g found some = go (nat_lt offset (end_of s)) refl (λ h. found_some offset closed g h some.1)
  where
    go : (t : Bool) → nat_lt offset (end_of s) ≡ t → (first_past offset closed ≡ Some g → 0 < size_of g) → 0 < size_of g
    go true t more = subst (λ (x : Grown). 0 < size_of x) (same_Some s g (rw t at found)) some.0
    go false t more = more (rw t at found)

pub found_holder : (offset : ℕ) (closed : List Grown) (active g : Grown) → first_past offset closed ≡ Some g → holder offset closed active ≡ g
found_holder offset closed active g found = ap (λ (o : Option Grown). unwrap_or o active) found

not_none : (batches : List (List ℕ)) → 0 < length (joined batches) → batches ≢ []
not_none batches some e = let n = ap (λ (l : List (List ℕ)). length (joined l)) e in omega (arith, n, some)

module _ {D : Type 0} (content : D → Content) (s : Inside D) (sound : IsLogSound content s) (unbroken : s.broken ≡ false) (t : IsTrue (content s.disk).is_observable) (offset : ℕ) (found : Grown) (is : first_past offset s.closed.items ≡ Some found) where
  abbrev pub f : Files
  f = (content s.disk).files

  abbrev pub closed : List Grown
  closed = s.closed.items

  at_holder : holder offset closed s.active ≡ found
  at_holder = found_holder offset closed s.active found is

  k : IsStored f s.line found
  k = subst (IsStored f s.line) at_holder (holder_each (IsStored f s.line) offset closed s.active ((sound.has unbroken).stored t))

  laid : IsLaidOut found
  laid = subst IsLaidOut at_holder (holder_each IsLaidOut offset closed s.active (each_join IsLaidOut closed (s.active ∷ []) sound.segments.laid (sound.segments.active_laid, tt)))

  low : found.base ≤ 2 ^ 62
  low =
      let h = (holder_low s.local_start offset closed s.active sound.segments.chained sound.segments.laid sound.segments.active_laid).1 in
      let b = ap (λ (x : Grown). x.base) at_holder in
      let top = sound.segments.low in
      omega (arith, h, b, top)

  segment : IsSegment found.base k.batches
  segment = stored_is f s.line found k sound.line laid low

  bytes : take (size_of found) (bytes_of f found) ≡ joined k.batches
  bytes = k.stands.bytes

  again : take (size_of found) (take (size_of found) (bytes_of f found)) ≡ take (size_of found) (bytes_of f found)
  again = take-take (size_of found) (size_of found) (bytes_of f found) (omega arith)

  none_empty : k.batches ≢ []
  none_empty =
      let some = found_some offset closed found is sound.segments.some in
      let size : size_of found ≡ 0 + length (joined k.batches) = ap (λ l. size_of (record found { batches = l })) k.placed ∙ size_placed 0 k.batches in
      not_none k.batches (omega (arith, some, size))

  given : Each (IsOfLine s.line) k.batches
  given = placed_given s.line found.base k.batches k.stands.placed

  no_stray : (at : ℕ) → HasStray s.line found.base (size_of found) (take (size_of found) (bytes_of f found)) at → ⊥
  no_stray at h =
      let mine : h.batches ≡ k.batches = segment_same found.base found.base h.batches k.batches h.is segment (sym h.bytes_are ∙ (again ∙ bytes)) in
      none_strays s.line h.batches at (subst (Each (IsOfLine s.line)) (sym mine) given) h.strays

  pub no_bad_segment : (read : List ℕ) (at : ℕ) → read ≡ take (size_of found) (bytes_of f found) → HasNoSegment s.line found.base (size_of found) read at → ⊥
  no_bad_segment read at same none = go (subst (λ (b : List ℕ). HasNoSegment s.line found.base (size_of found) b at) same none).bad
    where
      part : List ℕ
      part = take (size_of found) (bytes_of f found)

      short : at ≡ length part → at < size_of found → ⊥
      short e lt = let long = k.stands.long in let len = length-take-le (size_of found) (bytes_of f found) long in omega (arith, long, e, lt, len)

      go : IsBadPlace found.base (take (size_of found) part) at ⊎ (((at ≡ length part) × (at < size_of found)) ⊎ HasStray s.line found.base (size_of found) part at) → ⊥
      go (inl bad) = bad.unread k.batches none_empty segment (again ∙ bytes)
      go (inr (inl cut)) = short cut.0 cut.1
      go (inr (inr stray)) = no_stray at stray

  pub front_told : (b size : ℕ) (read : List ℕ) (e : ReadRefusal) → b ≡ found.base → size ≡ size_of found → read ≡ take (size_of found) (bytes_of f found) → FrontFails s.line b size read e → IsOfDevice e
  front_told b size read (refusal.Damaged name at) at_b at_size same why = no_bad_segment read at same (subst (λ (n : ℕ). HasNoSegment s.line found.base n read at) at_size (subst (λ (n : ℕ). HasNoSegment s.line n size read at) at_b why.1))
  front_told b size read refusal.DiskFault at_b at_size same why = absurd why
  front_told b size read refusal.NoMemory at_b at_size same why = why

  pub part_told : (read : List ℕ) (whole : ClosedSegment) → read ≡ take (size_of found) (bytes_of f found) → IsSegmentFront s.line found.base (size_of found) read whole → IsPartOf (log_in content s) whole
  part_told read whole same front =
      let w = front.whole in
      let stands = subst (StandsAt f s.local_start closed s.active) at_holder (holder_stands f s.line s.local_start offset closed s.active sound.segments.chained ((sound.has unbroken).stored t)) in
      let read_is : whole.bytes ≡ joined k.batches = front.bytes_are ∙ ap (take (size_of found)) same ∙ again ∙ bytes in
      let mine : w.batches ≡ k.batches = segment_same whole.base found.base w.batches k.batches w.is segment (sym w.bytes_are ∙ read_is) in
      record {
        before = stands.before;
        batches = k.batches;
        after = stands.after;
        parts = stands.parts ∙ ap (λ (l : List (List ℕ)). stands.before ++ (l ++ stands.after)) (stored_batches f s.line found k);
        begins = stands.begins ∙ sym front.base_is;
        bytes_are = read_is;
        ends = ap (end_from whole.base) (sym mine) ∙ sym w.last_is;
      }
