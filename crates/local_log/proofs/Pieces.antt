-- The batches of segments, as memory and the disk's files have them.
use Rattle.std.proofs.Common.{◌≡◌, ℕ, ◌+◌, ◌-◌, ◌≤◌, List, [], ◌∷◌, ◌++◌, length, take, drop, map, refl, sym, ◌∙◌, ap, subst, arith, append_assoc, length-append}
use Rattle.std.proofs.lemmas.List.{take_at, take-append-drop}
use Rattle.disk_model.specs.Content.{Files}
use Rattle.log_terms.specs.Batch.{last_of}
use Rattle.log_terms.specs.Log.{joined, IsConsecutive, end_from, up_to}
use Rattle.log_terms.proofs.Logs.{end_append, up_to_is}
use Rattle.log_terms.proofs.Lists.{prefix_self}
use Rattle.segment_file.specs.declared.placed.Placed.{Placed}
use Rattle.segment_file.specs.Index.{placed, placed_from}
use Rattle.segment_file.specs.Growing.{Grown, end_after, size_after}
use Rattle.log_manifest.specs.declared.manifest.Extent.{Extent}
use Rattle.log_steps.specs.Fronts.{Each, KeepsFront}
use Rattle.log_steps.specs.Opens.{Segments}
use Rattle.local_log.specs.Stored.{bytes_of, pieces, batches_of, all_batches, size_of, end_of, extent_of, AreChained, chain_end, IsStored}

drop_at : (xs ys : List ℕ) → drop (length xs) (xs ++ ys) ≡ ys
drop_at [] ys = refl
drop_at (x ∷ xs) ys = drop_at xs ys

-- bytes are cut into the batches that they are
pub pieces_placed : (at : ℕ) (batches : List (List ℕ)) (rest : List ℕ) → pieces at (placed_from at batches) (joined batches ++ rest) ≡ batches
pieces_placed at [] rest = refl
pieces_placed at (b ∷ bs) rest =
    let size : (at + length b) - at ≡ length b = omega arith in
    let bytes : (b ++ joined bs) ++ rest ≡ b ++ (joined bs ++ rest) = append_assoc b (joined bs) rest in
    rw (bytes, size, take_at b (joined bs ++ rest) (length b) refl, drop_at b (joined bs ++ rest)) (ap (λ (l : List (List ℕ)). b ∷ l) (pieces_placed (at + length b) bs rest))

pub size_placed : (at : ℕ) (batches : List (List ℕ)) → size_after at (placed_from at batches) ≡ at + length (joined batches)
size_placed at [] = omega arith
size_placed at (b ∷ bs) = let h = size_placed (at + length b) bs in omega (arith, h, length-append b (joined bs))

pub end_placed : (n at : ℕ) (batches : List (List ℕ)) → end_after n (placed_from at batches) ≡ end_from n batches
end_placed n at [] = refl
end_placed n at (b ∷ bs) = end_placed (last_of b + 1) (at + length b) bs

pub placed_append : (at : ℕ) (bs cs : List (List ℕ)) → placed_from at (bs ++ cs) ≡ placed_from at bs ++ placed_from (at + length (joined bs)) cs
placed_append at [] cs = let z : at + 0 ≡ at = omega arith in rw z refl
placed_append at (b ∷ bs) cs =
    let n : at + length b + length (joined bs) ≡ at + length (b ++ joined bs) = omega (arith, length-append b (joined bs)) in
    ap (λ (l : List Placed). placed at b ∷ l) (placed_append (at + length b) bs cs ∙ ap (λ (k : ℕ). placed_from (at + length b) bs ++ placed_from k cs) n)

pub joined_append : (bs cs : List (List ℕ)) → joined (bs ++ cs) ≡ joined bs ++ joined cs
joined_append [] cs = refl
joined_append (b ∷ bs) cs = ap (λ (l : List ℕ). b ++ l) (joined_append bs cs) ∙ sym (append_assoc b (joined bs) (joined cs))

-- the batches of a segment that is stored
pub stored_batches : (f : Files) (line : List (ℕ × ℕ)) (g : Grown) (s : IsStored f line g) → batches_of f g ≡ s.batches
stored_batches f line g s =
    let bytes : bytes_of f g ≡ joined s.batches ++ drop (size_of g) (bytes_of f g) =
    sym (take-append-drop (size_of g) (bytes_of f g)) ∙ ap (λ (l : List ℕ). l ++ drop (size_of g) (bytes_of f g)) s.stands.bytes in
    ap (λ (l : List Placed). pieces 0 l (bytes_of f g)) s.placed
    ∙ ap (λ (l : List ℕ). pieces 0 (placed_from 0 s.batches) l) bytes
    ∙ pieces_placed 0 s.batches (drop (size_of g) (bytes_of f g))

pub stored_end : (f : Files) (line : List (ℕ × ℕ)) (g : Grown) (s : IsStored f line g) → end_of g ≡ end_from g.base s.batches
stored_end f line g s = ap (λ (l : List Placed). end_after g.base l) s.placed ∙ end_placed g.base 0 s.batches

-- the segments are read as their batches
pub stored_segments : (f : Files) (line : List (ℕ × ℕ)) (n : ℕ) (gs : List Grown) → AreChained n gs → Each (IsStored f line) gs → Segments f line n (map extent_of gs) (all_batches f gs)
stored_segments f line n [] chained stored = refl
stored_segments f line n (g ∷ gs) chained stored =
    let s = stored.0 in
    let end : end_of g ≡ end_from n s.batches = stored_end f line g s ∙ ap (λ (k : ℕ). end_from k s.batches) chained.0 in (
      s.batches,
      all_batches f gs,
      ap (λ (l : List (List ℕ)). l ++ all_batches f gs) (stored_batches f line g s),
      chained.0,
      s.stands,
      subst (λ (k : ℕ). Segments f line k (map extent_of gs) (all_batches f gs)) end (stored_segments f line (end_of g) gs chained.1 stored.1),
    )

pub consecutive_append : (n : ℕ) (xs ys : List (List ℕ)) → IsConsecutive n xs → IsConsecutive (end_from n xs) ys → IsConsecutive n (xs ++ ys)
consecutive_append n [] ys c d = d
consecutive_append n (x ∷ xs) ys c d = (c.0, consecutive_append (last_of x + 1) xs ys c.1 d)

pub consecutive_segments : (f : Files) (line : List (ℕ × ℕ)) (n : ℕ) (es : List Extent) (batches : List (List ℕ)) → Segments f line n es batches → IsConsecutive n batches
consecutive_segments f line n [] batches s = subst (IsConsecutive n) (sym s) tt
consecutive_segments f line n (e ∷ es) batches s =
    subst (IsConsecutive n) (sym s.2) (consecutive_append n s.0 s.1 (subst (λ (k : ℕ). IsConsecutive k s.0) s.3 s.4.consecutive) (consecutive_segments f line (end_from n s.0) es s.1 s.5))

pub all_end : (f : Files) (line : List (ℕ × ℕ)) (n : ℕ) (gs : List Grown) → AreChained n gs → Each (IsStored f line) gs → end_from n (all_batches f gs) ≡ chain_end n gs
all_end f line n [] chained stored = refl
all_end f line n (g ∷ gs) chained stored =
    let s = stored.0 in
    let end : end_from n s.batches ≡ end_of g = sym (stored_end f line g s ∙ ap (λ (k : ℕ). end_from k s.batches) chained.0) in
    ap (λ (l : List (List ℕ)). end_from n (l ++ all_batches f gs)) (stored_batches f line g s)
    ∙ end_append n s.batches (all_batches f gs)
    ∙ ap (λ (k : ℕ). end_from k (all_batches f gs)) end
    ∙ all_end f line (end_of g) gs chained.1 stored.1

pub chain_snoc : (n : ℕ) (gs : List Grown) (g : Grown) → chain_end n (gs ++ g ∷ []) ≡ end_of g
chain_snoc n [] g = refl
chain_snoc n (x ∷ gs) g = chain_snoc (end_of x) gs g

pub chained_snoc : (n : ℕ) (gs : List Grown) (g : Grown) → AreChained n gs → g.base ≡ chain_end n gs → AreChained n (gs ++ g ∷ [])
chained_snoc n [] g c is = (is, tt)
chained_snoc n (x ∷ gs) g c is = (c.0, chained_snoc (end_of x) gs g c.1 is)

-- all of them end at or below the end
pub up_to_all : (n : ℕ) (xs : List (List ℕ)) → IsConsecutive n xs → up_to (end_from n xs) xs ≡ xs
up_to_all n xs c = up_to_is n (end_from n xs) xs xs c (prefix_self xs) refl

pub all_append : (f : Files) (gs hs : List Grown) → all_batches f (gs ++ hs) ≡ all_batches f gs ++ all_batches f hs
all_append f [] hs = refl
all_append f (g ∷ gs) hs = ap (λ (l : List (List ℕ)). batches_of f g ++ l) (all_append f gs hs) ∙ sym (append_assoc (batches_of f g) (all_batches f gs) (all_batches f hs))

-- the same files of segments
pub all_same : (f h : Files) (gs : List Grown) → ((g : Grown) → bytes_of h g ≡ bytes_of f g) → all_batches h gs ≡ all_batches f gs
all_same f h [] same = refl
all_same f h (g ∷ gs) same = ap (λ (l : List ℕ). pieces 0 g.batches l ++ all_batches h gs) (same g) ∙ ap (λ (l : List (List ℕ)). batches_of f g ++ l) (all_same f h gs same)

pub stored_same : (f h : Files) (line : List (ℕ × ℕ)) (g : Grown) → bytes_of h g ≡ bytes_of f g → IsStored f line g → IsStored h line g
stored_same f h line g same s = record {
  batches = s.batches;
  placed = s.placed;
  stands = record {
    long = subst (λ (l : List ℕ). size_of g ≤ length l) (sym same) s.stands.long;
    bytes = ap (λ (l : List ℕ). take (size_of g) l) same ∙ s.stands.bytes;
    placed = s.stands.placed;
    consecutive = s.stands.consecutive;
  };
}

pub all_each : (f h : Files) (gs : List Grown) → Each (λ (g : Grown). bytes_of h g ≡ bytes_of f g) gs → all_batches h gs ≡ all_batches f gs
all_each f h [] same = refl
all_each f h (g ∷ gs) same = ap (λ (l : List ℕ). pieces 0 g.batches l ++ all_batches h gs) same.0 ∙ ap (λ (l : List (List ℕ)). batches_of f g ++ l) (all_each f h gs same.1)

-- where the fronts are whole still, the batches are the same
stored_kept : (f h : Files) (line : List (ℕ × ℕ)) (g : Grown) → KeepsFront f h (extent_of g) → (s : IsStored f line g) → batches_of h g ≡ s.batches
stored_kept f h line g kept s =
    let a = kept s.stands.long in
    let t : IsStored h line g = record {
      batches = s.batches;
      placed = s.placed;
      stands = record { long = a.long; bytes = a.same ∙ s.stands.bytes; placed = s.stands.placed; consecutive = s.stands.consecutive };
    } in
    stored_batches h line g t

pub all_kept : (f h : Files) (line : List (ℕ × ℕ)) (gs : List Grown) → ((e : Extent) → KeepsFront f h e) → Each (IsStored f line) gs → all_batches h gs ≡ all_batches f gs
all_kept f h line [] kept s = refl
all_kept f h line (g ∷ gs) kept s =
    ap (λ (l : List (List ℕ)). l ++ all_batches h gs) (stored_kept f h line g (kept (extent_of g)) s.0 ∙ sym (stored_batches f line g s.0))
    ∙ ap (λ (l : List (List ℕ)). batches_of f g ++ l) (all_kept f h line gs kept s.1)
