-- A segment's batches, out of its file's bytes.
use Rattle.std.proofs.Common.{◌≡◌, ◌^◌, ◌∙◌, ap, sym, subst, refl, ℕ, ◌+◌, ◌≤◌, ◌<◌, List, [], ◌∷◌, ◌++◌, length, take, drop, Option, Some, None, true, IsOk, arith, append_assoc, length-append}
use Rattle.std.specs.Option.{option_eq}
use lib.Dec.{eqb}
use Rattle.std.proofs.lemmas.Bool.{eqb-true, eq-eqb}
use Rattle.std.proofs.lemmas.List.{append-nil, length-take}
use Rattle.std.proofs.lemmas.List.{nil_from_length}
use Rattle.log_terms.specs.Batch.{base_of, last_of}
use Rattle.log_terms.specs.Log.{joined, IsConsecutive, end_from}
use Rattle.log_terms.specs.Line.{epoch_at}
use Rattle.log_terms.proofs.Logs.{end_above, consecutive_snoc}
use Rattle.record_batch.specs.declared.head.Head.{Head}
use Rattle.record_batch.specs.Check.{checked}
use Rattle.disk_model.specs.Content.{Files}
use Rattle.log_manifest.specs.declared.manifest.Extent.{Extent}
use Rattle.segment_file.specs.declared.placed.Placed.{Placed}
use Rattle.segment_file.specs.Walk.{size_in}
use Rattle.segment_file.specs.Gathering.{HeadDescribes}
use Rattle.segment_file.specs.Index.{placed, placed_in, placed_from}
use Rattle.segment_file.specs.Growing.{Grown, AreBatchesLaid, MayPush, with_batch}
use Rattle.segment_file.proofs.Telling.{placed_same}
use Rattle.segment_file.proofs.Laying.{size_append}
use Rattle.segment_file.proofs.Placing.{placed_push}
use Rattle.segment_file.proofs.Joining.{consecutive_parts}
use Rattle.log_steps.specs.Fronts.{Each, log_at, front}
use Rattle.log_steps.specs.Opens.{IsPlaced, Segment}
use Rattle.log_steps.proofs.Lists.{each_join}
use Rattle.local_log.specs.Stored.{size_of, end_of, extent_of, IsStored}
use Rattle.local_log.specs.Listing.{IsLaidOut}
use Rattle.local_log.specs.Parsing.{ParsesFront, IsParsed, HasNoBatchAt, IsParsing, MayStand, StandsNext, NoBatchNext}
use Rattle.local_log.proofs.Pieces.{joined_append, size_placed, end_placed}
use Rattle.local_log.proofs.Heads.{long_batch}

drop_at : (xs ys : List ℕ) → drop (length xs) (xs ++ ys) ≡ ys
drop_at [] ys = refl
drop_at (x ∷ xs) ys = drop_at xs ys

pub same_some : (o : Option ℕ) (n : ℕ) → option_eq eqb o (Some n) ≡ true → o ≡ Some n
same_some None n e = absurd (cc (e))
same_some (Some m) n e = ap (λ (k : ℕ). Some k) (eqb-true m n e)

pub some_same : (o : Option ℕ) (n : ℕ) → o ≡ Some n → option_eq eqb o (Some n) ≡ true
some_same o n e = ap (λ (x : Option ℕ). option_eq eqb x (Some n)) e ∙ eq-eqb n n refl

-- batches that may be in a segment are laid one after another
pub laid_placed : (line : List (ℕ × ℕ)) (base n at : ℕ) (bs : List (List ℕ)) → Each (IsPlaced line base) bs → IsConsecutive n bs → AreBatchesLaid n at (placed_from at bs)
laid_placed line base n at [] h c = tt
laid_placed line base n at (b ∷ bs) h c =
    let long = long_batch b h.0.is in
    (omega (arith, c.0), omega (arith, long), laid_placed line base (last_of b + 1) (at + length b) bs h.1 c.1)

-- they end as near to the base as the segment reaches
pub end_near : (line : List (ℕ × ℕ)) (base n : ℕ) (bs : List (List ℕ)) → Each (IsPlaced line base) bs → n ≤ base + 2 ^ 31 → end_from n bs ≤ base + 2 ^ 31
end_near line base n [] h le = le
end_near line base n (b ∷ bs) h le = end_near line base (last_of b + 1) bs h.1 (omega (arith, h.0.near))

pub end_low : (line : List (ℕ × ℕ)) (base n : ℕ) (bs : List (List ℕ)) → Each (IsPlaced line base) bs → n ≤ 2 ^ 62 → end_from n bs ≤ 2 ^ 62
end_low line base n [] h le = le
end_low line base n (b ∷ bs) h le = end_low line base (last_of b + 1) bs h.1 (omega (arith, h.0.low))

-- on the way
module _ (line : List (ℕ × ℕ)) (interval base : ℕ) (front : List ℕ) (segment : Grown) (p : IsParsing line interval base front segment) where
  pub parsing_size : size_of segment ≡ length (joined p.batches)
  parsing_size = ap size_of p.segment_is ∙ size_placed 0 p.batches ∙ (let z : 0 + length (joined p.batches) ≡ length (joined p.batches) = omega arith in z)

  pub parsing_end : end_of segment ≡ end_from base p.batches
  parsing_end = ap end_of p.segment_is ∙ end_placed base 0 p.batches

  pub parsing_base : segment.base ≡ base
  parsing_base = ap (λ (s : Grown). s.base) p.segment_is

  pub parsing_above : base ≤ end_of segment
  parsing_above = let up = end_above base p.batches p.fronts.consecutive in omega (arith, up, parsing_end)

  pub parsing_low : base ≤ 2 ^ 62 → end_of segment ≤ 2 ^ 62
  parsing_low le = let low = end_low line base base p.batches p.fronts.placed le in omega (arith, low, parsing_end)

  pub parsing_inside : size_of segment ≤ length front
  parsing_inside = let l = ap length p.fronts.parts ∙ length-append (joined p.batches) p.rest in omega (arith, l, parsing_size)

  parsing_rest : drop (size_of segment) front ≡ p.rest
  parsing_rest = ap (λ (n : ℕ). drop n front) parsing_size ∙ ap (drop (length (joined p.batches))) p.fronts.parts ∙ drop_at (joined p.batches) p.rest

  -- what comes next goes in
  module _ (head : Head) (n : StandsNext line base front (size_of segment) (end_of segment) head) where
    pub parsing_push : length front < 2 ^ 31 → MayPush segment head
    parsing_push few = record {
      begins = n.is_observable.base ∙ n.begins;
      near = omega (arith, n.is_observable.base, n.is_observable.delta, n.placed.near, parsing_base);
      small = omega (arith, n.inside, few);
    }

    pub parsing_more : (new : Grown) → new ≡ with_batch segment (placed_in (size_of segment) head) → IsParsing line interval base front new
    parsing_more new is = record {
      batches = p.batches ++ n.batch ∷ [];
      rest = drop (size_of segment + size_in head) front;
      fronts = record {
        parts =
            p.fronts.parts
            ∙ ap (λ (l : List ℕ). joined p.batches ++ l) (sym parsing_rest ∙ n.parts)
            ∙ sym (append_assoc (joined p.batches) n.batch (drop (size_of segment + size_in head) front))
            ∙ ap (λ (l : List ℕ). (joined p.batches ++ l) ++ drop (size_of segment + size_in head) front) (sym (append-nil n.batch))
            ∙ ap (λ (l : List ℕ). l ++ drop (size_of segment + size_in head) front) (sym (joined_append p.batches (n.batch ∷ [])));
        placed = each_join (IsPlaced line base) p.batches (n.batch ∷ []) p.fronts.placed (n.placed, tt);
        consecutive = consecutive_snoc base p.batches n.batch p.fronts.consecutive (n.begins ∙ parsing_end);
      };
      segment_is =
          is
          ∙ ap (with_batch segment) (placed_same (size_of segment) n.batch head n.is_observable)
          ∙ ap (λ (s : Grown). with_batch s (placed (size_of segment) n.batch)) p.segment_is
          ∙ ap (λ (k : ℕ). record { base = base; interval = interval; batches = placed_from 0 p.batches ++ placed k n.batch ∷ [] }) (parsing_size ∙ (let z : length (joined p.batches) ≡ 0 + length (joined p.batches) = omega arith in z))
          ∙ ap (λ (l : List Placed). record { base = base; interval = interval; batches = l }) (sym (placed_push 0 p.batches n.batch));
    }

    pub parsing_grows : (new : Grown) → new ≡ with_batch segment (placed_in (size_of segment) head) → size_of segment < size_of new
    parsing_grows new is =
        let q = parsing_more new is in
        let long = long_batch n.batch n.placed.is in
        let size = ap size_of is ∙ size_append 0 segment.batches (placed_in (size_of segment) head ∷ []) in
        omega (arith, size, n.is_observable.size, long)

-- before the first
pub parsing_none : (line : List (ℕ × ℕ)) (interval base : ℕ) (front : List ℕ) → IsParsing line interval base front (record { base = base; interval = interval; batches = [] })
parsing_none line interval base front = record {
  batches = [];
  rest = front;
  fronts = record { parts = refl; placed = tt; consecutive = tt };
  segment_is = refl;
}

module _ (line : List (ℕ × ℕ)) (interval : ℕ) (e : Extent) (bytes : List ℕ) (segment : Grown) (p : IsParsing line interval e.base (take e.len bytes) segment) where
  -- all of it is in the segment
  pub parsed_all : e.len ≤ size_of segment → IsParsed line interval e bytes segment
  parsed_all all =
      let l = ap length p.fronts.parts ∙ length-append (joined p.batches) p.rest in
      let size = parsing_size line interval e.base (take e.len bytes) segment p in
      let few = length-take e.len bytes in
      let none : p.rest ≡ [] = nil_from_length p.rest (omega (arith, l, size, few, all)) in
      record {
        batches = p.batches;
        fronts = subst (ParsesFront line e.base (take e.len bytes) p.batches) none p.fronts;
        long = omega (arith, l, size, few, all);
        segment_is = p.segment_is;
      }

  -- nothing comes next
  pub parsed_not : size_of segment < e.len → NoBatchNext line e.base (take e.len bytes) (size_of segment) (end_of segment) → HasNoBatchAt line e bytes (size_of segment)
  parsed_not short none = record {
    batches = p.batches;
    rest = p.rest;
    fronts = p.fronts;
    place = parsing_size line interval e.base (take e.len bytes) segment p;
    short = short;
    nothing = λ batch more parts placed consecutive.
        none batch more (parsing_rest line interval e.base (take e.len bytes) segment p ∙ parts) placed
        ((consecutive_parts e.base p.batches (batch ∷ []) consecutive).1.0 ∙ sym (parsing_end line interval e.base (take e.len bytes) segment p));
  }

-- what a head says of whether its batch may exist
module _ (line : List (ℕ × ℕ)) (base end : ℕ) where
  pub stands_next : (bytes : List ℕ) (at : ℕ) (head : Head) (batch : List ℕ) → IsOk (checked batch) → drop at bytes ≡ batch ++ drop (at + size_in head) bytes → HeadDescribes batch head
      → at + size_in head ≤ length bytes → MayStand line base end head → StandsNext line base bytes at end head
  stands_next bytes at head batch ok parts t inside may = record {
    batch = batch;
    parts = parts;
    placed = record {
      is = ok;
      near = omega (arith, t.base, t.delta, may.begins, may.near);
      low = omega (arith, t.base, t.delta, may.begins, may.low);
      epoch = ap (epoch_at line) (sym t.base ∙ may.begins) ∙ may.epoch ∙ ap (λ (n : ℕ). Some n) t.epoch;
    };
    begins = sym t.base ∙ may.begins;
    is_observable = t;
    inside = inside;
  }

  pub stand_of : (batch : List ℕ) (head : Head) → HeadDescribes batch head → IsPlaced line base batch → base_of batch ≡ end → MayStand line base end head
  stand_of batch head t placed begins = record {
    begins = t.base ∙ begins;
    near = omega (arith, t.delta, begins, placed.near);
    low = omega (arith, t.delta, begins, placed.low);
    epoch = ap (epoch_at line) (sym begins) ∙ placed.epoch ∙ ap (λ (n : ℕ). Some n) (sym t.epoch);
  }

-- a segment that was read
module _ (line : List (ℕ × ℕ)) (interval : ℕ) (e : Extent) (bytes : List ℕ) (segment : Grown) (p : IsParsed line interval e bytes segment) where
  parsed_len : length (joined p.batches) ≡ e.len
  parsed_len =
      let l = ap length (p.fronts.parts ∙ append-nil (joined p.batches)) in
      let few = length-take e.len bytes in
      omega (arith, l, few, p.long)

  pub parsed_extent : extent_of segment ≡ e
  parsed_extent =
      ap extent_of p.segment_is
      ∙ ap (λ (n : ℕ). extent_by n) (size_placed 0 p.batches ∙ (let z : 0 + length (joined p.batches) ≡ length (joined p.batches) = omega arith in z) ∙ parsed_len)
    where
      extent_by : ℕ → Extent
      extent_by n = record { base = e.base; len = n }

  pub parsed_end : end_of segment ≡ end_from e.base p.batches
  parsed_end = ap end_of p.segment_is ∙ end_placed e.base 0 p.batches

  pub parsed_laid : e.len < 2 ^ 31 → IsLaidOut segment
  parsed_laid small =
      let size = ap (λ (x : Extent). x.len) parsed_extent in
      subst IsLaidOut (sym p.segment_is) (record {
        laid = laid_placed line e.base e.base 0 p.batches p.fronts.placed p.fronts.consecutive;
        near = (let near = end_near line e.base e.base p.batches p.fronts.placed (omega arith) in let end = end_placed e.base 0 p.batches in omega (arith, near, end));
        small = (let s = ap size_of p.segment_is in omega (arith, s, size, small));
      })

  pub parsed_low : e.base ≤ 2 ^ 62 → end_of segment ≤ 2 ^ 62
  parsed_low le = let low = end_low line e.base e.base p.batches p.fronts.placed le in omega (arith, low, parsed_end)

  pub parsed_stored : (f : Files) → bytes ≡ log_at f e → IsStored f line segment
  parsed_stored f is = record {
    batches = p.batches;
    placed = ap (λ (s : Grown). s.batches) p.segment_is;
    stands = subst (λ (x : Extent). Segment f line x p.batches) (sym parsed_extent) (record {
      long = subst (λ (l : List ℕ). e.len ≤ length l) is p.long;
      bytes = ap (take e.len) (sym is) ∙ p.fronts.parts ∙ append-nil (joined p.batches);
      placed = p.fronts.placed;
      consecutive = p.fronts.consecutive;
    });
  }
