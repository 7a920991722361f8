-- A run over an observable disk is a part of the log.
use Rattle.std.proofs.lemmas.List.{take-append-drop}
use Rattle.std.proofs.Common.{◌≡◌, ◌∙◌, ap, sym, refl, subst, ℕ, zero, suc, ◌+◌, ◌<◌, ◌≤◌, min, true, false, List, [], ◌∷◌, ◌++◌, length, take, drop, nat_lt, inl, inr, length-append, Option, Some, None, option_map, Result, Ok, Err, IfOk, IfErr, IsErrAnd, IsOk, IsTrue, arith}
use Rattle.tier_base.specs.Told.{bytes_in}
use Rattle.disk_model.specs.Content.{Content, Files, part_of}
use Rattle.log_terms.specs.Batch.{last_of}
use Rattle.log_terms.specs.Log.{joined, IsConsecutive, up_to, end_from, from_offset}
use Rattle.record_batch.specs.Check.{checked}
use Rattle.segment_file.specs.Growing.{Grown, BeginsSearch, ending_by}
use Rattle.segment_file.specs.Index.{placed, placed_from}
use Rattle.segment_file.specs.Reach.{reach_from, reach_at}
use Rattle.segment_file.specs.declared.taking.Cutout.{Cutout}
use Rattle.segment_file.specs.Run.{Fits, IsRunCutAt}
use Rattle.log_steps.specs.Fronts.{Each}
use Rattle.log_steps.proofs.Lists.{each_join, each_left, each_right}
use Rattle.local_log.specs.declared.log.LocalLog.TheInside.{Inside}
use Rattle.local_log.specs.declared.reading.RunOut.{RunOut}
use Rattle.local_log.specs.declared.refusal.ReadRefusal.{ReadRefusal}
use Rattle.local_log.specs.declared.refusal.ReadRefusal.TheVariants as refusal
use Rattle.local_log.specs.Stored.{bytes_of, all_batches, size_of, IsStored}
use Rattle.local_log.specs.Listing.{AreSegmentsOf, IsLaidOut}
use Rattle.local_log.specs.Inside.{log_in, IsLogSound}
use Rattle.local_log.specs.Reading.{begin_of, position_of, is_edge, piece_end, IsCutOut, IsStray, HasNoLocalRun, IsRunOf, CutFails, IsOfDevice}
use Rattle.local_log.specs.Epochs.{IsOfLine}
use Rattle.local_log.proofs.Strays.{placed_given, none_strays}
use Rattle.local_log.proofs.Heads.{long_batch}
use Rattle.local_log.proofs.Pieces.{stored_batches, size_placed, joined_append}
use Rattle.local_log.proofs.Edges.{holder, IsPieceEnd, piece_ends, holder_each, holder_base, holder_end, bound_ends, holder_from, log_begin, Ends}
use Rattle.local_log.proofs.Reached.{begins_there, first_holds, Enough, enough, take_long}
use Rattle.local_log.proofs.CutOut.{AreChecked, parted, n as start_of, row as row_of, oks as oks_of, tail, bytes_are, from_parts, never_bad, told}

pub ok_more : {T E : Type 0} (P Q : T → Type 0) (r : Result T E) → ((x : T) → P x → Q x) → IfOk r P → IfOk r Q
ok_more P Q (Ok x) f h = f x h
ok_more P Q (Err e) f h = tt

pub err_more : {T E : Type 0} (P Q : E → Type 0) (r : Result T E) → ((e : E) → P e → Q e) → IfErr r P → IfErr r Q
err_more P Q (Ok x) f h = tt
err_more P Q (Err e) f h = f e h

-- an error that is passed on
pub err_on : {T E : Type 0} (P Q : E → Type 0) (r : Result T E) → ((e : E) → P e → Q e) → IsErrAnd r P → IfErr r Q
err_on P Q (Ok x) f h = tt
err_on P Q (Err e) f h = f e h

nothing_dropped : (n : ℕ) → drop {A = ℕ} n [] ≡ []
nothing_dropped zero = refl
nothing_dropped (suc n) = refl

nothing_taken : (n : ℕ) → take {A = ℕ} n [] ≡ []
nothing_taken zero = refl
nothing_taken (suc n) = refl

-- the bytes of a part of a file
pub part_bytes : (from most : ℕ) (o : Option (List ℕ)) → bytes_in (option_map (part_of from most) o) ≡ part_of from most (bytes_in o)
part_bytes from most None = sym (ap (take most) (nothing_dropped from) ∙ nothing_taken most)
part_bytes from most (Some bytes) = refl

-- an offset below an edge has a piece that ends past it
pub piece_past : (local_start : ℕ) (closed : List Grown) (active : Grown) (line : List (ℕ × ℕ)) (offset mark : ℕ) → AreSegmentsOf local_start closed active → offset < mark → is_edge (holder mark closed active) mark ≡ true
    → IsPieceEnd (holder offset closed active) offset (piece_end line (holder offset closed active) offset)
piece_past local_start closed active line offset mark are under edge =
    let laid = holder_each IsLaidOut offset closed active (each_join IsLaidOut closed (active ∷ []) are.laid (are.active_laid, tt)) in
    piece_ends line (holder offset closed active) offset laid (holder_end offset mark closed active are.active_laid under edge)

module _ {D : Type 0} (content : D → Content) (s : Inside D) (sound : IsLogSound content s) (unbroken : s.broken ≡ false) (t : IsTrue (content s.disk).is_observable) where
  abbrev pub f : Files
  f = (content s.disk).files

  abbrev pub closed : List Grown
  closed = s.closed.items

  each : Each (IsStored f s.line) (closed ++ s.active ∷ [])
  each = (sound.has unbroken).stored t

  -- an edge of the log is one in memory
  pub edge_told : (mark : ℕ) → s.local_start ≤ mark → end_from s.local_start (up_to mark (all_batches f (closed ++ s.active ∷ []))) ≡ begin_of (holder mark closed s.active) mark
  edge_told mark le = log_begin f s.line s.local_start mark closed s.active sound.segments.chained each le

  module _ (offset limit mark position most : ℕ) (start : s.local_start ≤ offset) (under : offset < mark) (edge : is_edge (holder mark closed s.active) mark ≡ true)
      (there : position ≡ position_of (holder offset closed s.active) offset)
      (reach : position + most ≡ reach_at (min mark (piece_end s.line (holder offset closed s.active) offset)) (min (position + limit) 18446744073709551615) offset (holder offset closed s.active).batches) where
    abbrev pub g : Grown
    g = holder offset closed s.active

    abbrev pub search : BeginsSearch g.base g.batches offset position
    search = begins_there g offset position there

    pub k : IsStored f s.line g
    k = holder_each (IsStored f s.line) offset closed s.active each

    abbrev pub piece : ℕ
    piece = piece_end s.line g offset

    pub p : IsPieceEnd g offset piece
    p = piece_past s.local_start closed s.active s.line offset mark sound.segments under edge

    pub base : g.base ≤ offset
    base = holder_base s.local_start offset closed s.active sound.segments.chained start

    pub ends : Ends g.base k.batches (min mark piece)
    ends = bound_ends f s.line offset mark piece closed s.active k (omega (arith, under)) edge p

    -- what is read
    abbrev pub part : List ℕ
    part = part_of position most (bytes_of f g)

    abbrev pub unread : List ℕ
    unread = drop most (drop position (bytes_of f g))

    read : drop position (bytes_of f g) ≡ part ++ unread
    read = sym (take-append-drop most (drop position (bytes_of f g)))

    -- the segment's batches from the position on
    abbrev pub latter : List (List ℕ)
    latter = (parted f s.line g k offset limit mark piece position search base under p.above ends p.below).latter

    former_size : position ≡ length (joined (parted f s.line g k offset limit mark piece position search base under p.above ends p.below).former)
    former_size = let e = (parted f s.line g k offset limit mark piece position search base under p.above ends p.below).size in let h = search.place in omega (arith, e, h)

    placed_latter : drop (length (ending_by offset g.batches)) g.batches ≡ placed_from position latter
    placed_latter =
        let cut = parted f s.line g k offset limit mark piece position search base under p.above ends p.below in
        let at : 0 + length (joined cut.former) ≡ position = omega (arith, former_size) in
        sym cut.rest_is ∙ ap (λ (n : ℕ). placed_from n latter) at

    -- they are no more than the segment
    small : position + length (joined latter) < 18446744073709551615
    small =
        let cut = parted f s.line g k offset limit mark piece position search base under p.above ends p.below in
        let laid = holder_each IsLaidOut offset closed s.active (each_join IsLaidOut closed (s.active ∷ []) sound.segments.laid (sound.segments.active_laid, tt)) in
        let size : size_of g ≡ 0 + length (joined k.batches) = ap (λ l. size_of (record g { batches = l })) k.placed ∙ size_placed 0 k.batches in
        let both : length (joined k.batches) ≡ length (joined cut.former) + length (joined latter) =
        ap (λ (l : List (List ℕ)). length (joined l)) cut.parts ∙ ap length (joined_append cut.former latter) ∙ length-append (joined cut.former) (joined latter) in
        omega (arith, laid.small, size, both, former_size)

    holds : (b : List ℕ) (more : List (List ℕ)) → latter ≡ b ∷ more → nat_lt (last_of b) offset ≡ false
    holds b more e = first_holds offset g.batches (placed position b) (placed_from (position + length b) more) (placed_latter ∙ ap (placed_from position) e)

    enough_read : (xs : List (List ℕ)) (m : List ℕ) (ms : List (List ℕ)) → latter ≡ xs ++ m ∷ ms → end_from (start_of f s.line g k offset limit mark piece position search base under p.above ends p.below) xs < min mark piece → last_of m + 1 ≤ min mark piece → Fits limit xs → Enough limit xs m (length part)
    enough_read xs m ms parts lt le fits = go (enough (min mark piece) (min (position + limit) 18446744073709551615) limit n position most latter xs m ms parts row lt le fits refl small to)
      where
        n : ℕ
        n = start_of f s.line g k offset limit mark piece position search base under p.above ends p.below

        row : IsConsecutive n latter
        row = row_of f s.line g k offset limit mark piece position search base under p.above ends p.below

        to : position + most ≡ reach_from (min mark piece) (min (position + limit) 18446744073709551615) position (placed_from position latter)
        to =
            reach
            ∙ ap (λ (n : ℕ). reach_from (min mark piece) (min (position + limit) 18446744073709551615) n (drop (length (ending_by offset g.batches)) g.batches)) (sym there)
            ∙ ap (reach_from (min mark piece) (min (position + limit) 18446744073709551615) position) placed_latter

        all : length (drop position (bytes_of f g)) ≡ length (joined latter) + length (tail f s.line g k offset limit mark piece position search base under p.above ends p.below)
        all = ap length (bytes_are f s.line g k offset limit mark piece position search base under p.above ends p.below) ∙ length-append (joined latter) (tail f s.line g k offset limit mark piece position search base under p.above ends p.below)

        long : length (joined latter) ≡ length (joined xs) + (length m + length (joined ms))
        long = ap (λ (l : List (List ℕ)). length (joined l)) parts ∙ ap length (joined_append xs (m ∷ ms)) ∙ length-append (joined xs) (m ++ joined ms) ∙ ap (λ (n : ℕ). length (joined xs) + n) (length-append m (joined ms))

        big : 61 ≤ length m
        big = long_batch m (each_right (λ (b : List ℕ). IsOk (checked b)) xs (m ∷ ms) (subst AreChecked parts (oks_of f s.line g k offset limit mark piece position search base under p.above ends p.below))).0

        go : Enough limit xs m most → Enough limit xs m (length part)
        go (inl whole) = inl (take_long (length (joined xs) + length m) most (drop position (bytes_of f g)) whole (omega (arith, all, long)))
        go (inr head) = inr (head.0, head.1, take_long (length (joined xs) + 61) most (drop position (bytes_of f g)) head.2 (omega (arith, all, long, big)))

    -- the batches of a run are the segment's
    run_given : (cut : Cutout) (r : IsRunCutAt part offset limit mark piece cut) → Each (IsOfLine s.line) (r.first ∷ r.others)
    run_given cut r =
        let t = told f s.line g k offset limit mark piece position search base under p.above ends p.below part unread read cut r [] in
        let all = each_join (IsOfLine s.line) k.batches [] (placed_given s.line g.base k.batches k.stands.placed) tt in
        let skipped = from_parts offset (k.batches ++ []) in
        let rest = each_right (IsOfLine s.line) skipped.0 (from_offset offset (k.batches ++ [])) (subst (Each (IsOfLine s.line)) skipped.1 all) in
        each_left (IsOfLine s.line) (r.first ∷ r.others) t.rest (subst (Each (IsOfLine s.line)) t.parts rest)

    no_stray : (at : ℕ) → IsStray s.line part offset limit mark piece at → ⊥
    no_stray at h = none_strays s.line (h.is.first ∷ h.is.others) h.behind (run_given h.cut h.is) h.strays

    pub no_bad : (bytes : List ℕ) (at : ℕ) → bytes ≡ part → HasNoLocalRun s.line bytes offset limit mark piece position at → ⊥
    no_bad bytes at is none =
        let here = subst (λ (b : List ℕ). HasNoLocalRun s.line b offset limit mark piece position at) is none in
        elim here.bad [
          | inl bad ↦ never_bad f s.line g k offset limit mark piece position search base under p.above ends p.below part unread read holds enough_read here.found bad
          | inr stray ↦ no_stray here.found stray
        ]

    pub fails_told : (b : ℕ) (bytes : List ℕ) (e : ReadRefusal) → bytes ≡ part → CutFails s.line b position bytes offset limit mark piece e → IsOfDevice e
    fails_told b bytes (refusal.Damaged name at) is why = no_bad bytes at is why.1
    fails_told b bytes refusal.DiskFault is why = tt
    fails_told b bytes refusal.NoMemory is why = tt

    pub run_told : (bytes : List ℕ) (out : RunOut) → bytes ≡ part → IsCutOut s.line bytes offset limit mark piece out → IsRunOf (log_in content s) offset limit mark out
    run_told bytes out is there =
        let here = subst (λ (b : List ℕ). IsCutOut s.line b offset limit mark piece out) is there in
        let more = holder_from f s.line offset closed s.active each in
        let r = told f s.line g k offset limit mark piece position search base under p.above ends p.below part unread read here.cut here.is more.0 in
        let cut_is = here.part ∙ r.bytes in
        let next = here.next_is in
        record {
          first = here.is.first;
          others = here.is.others;
          rest = r.rest;
          parts = more.1 ∙ ap (λ (l : List (List ℕ)). from_offset offset (l ++ more.0)) (stored_batches f s.line g k) ∙ r.parts;
          bytes_are = cut_is;
          fits = here.is.fits;
          next_is = next ∙ r.next;
          below = (let h = r.below in omega (arith, next, h));
          within = (let h = r.below in omega (arith, next, h));
          stop_is = rw (here.stop_is, next, cut_is) r.stop;
        }
