-- An open log's batches follow one another up to its end, and a cut ends with one of them.
use Rattle.std.proofs.Common.{◌≡◌, ◌∙◌, ap, sym, subst, refl, ℕ, false, List, [], ◌∷◌, ◌++◌, map, inl, inr, IsTrue, lt-ltb, le-ltb, le-leb}
use Rattle.std.proofs.lemmas.Bool.{cases_lt, lt-leb}
use Rattle.disk_model.specs.Content.{Content, Files}
use Rattle.log_terms.specs.Log.{end_from, up_to}
use Rattle.segment_file.specs.Growing.{Grown}
use Rattle.log_steps.specs.Fronts.{Each}
use Rattle.local_log.specs.declared.log.LocalLog.TheInside.{Inside}
use mathlib.Core.List.{IsPrefix}
use Rattle.log_terms.proofs.Logs.{up_to_is}
use Rattle.local_log.specs.Stored.{all_batches, end_of, extent_of, AreChained, IsStored}
use Rattle.local_log.specs.Inside.{log_in, IsLogSound}
use Rattle.local_log.specs.Reading.{begin_of}
use Rattle.local_log.specs.Cutting.{open_by}
use Rattle.local_log.specs.Coheres.{Coheres, SegmentsHold}
use Rattle.local_log.proofs.Pieces.{all_end, chain_snoc, consecutive_segments, stored_batches, stored_end, stored_segments}
use Rattle.local_log.proofs.Lines.{cut_within}
use Rattle.local_log.proofs.Edges.{holder}
use Rattle.local_log.proofs.RunsTold.{edge_told}
use Rattle.local_log.proofs.PieceStarts.{stored_checked, piece_before}

-- the segment that is open after a cut is the one that holds the offset
pub open_holds : (n : ℕ) (closed : List Grown) (active : Grown) → open_by n closed active ≡ holder n closed active
open_holds n [] active = refl
open_holds n (g ∷ closed) active = elim (cases_lt n (end_of g)) [
  | inl lt ↦ rw (lt-ltb n (end_of g) lt, lt-leb (end_of g) n lt) refl
  | inr ge ↦ rw (le-ltb n (end_of g) ge, le-leb (end_of g) n ge) (open_holds n closed active)
]

-- the first closed segment begins where the log does, and ends where a batch does
first_edge : (f : Files) (line : List (ℕ × ℕ)) (start : ℕ) (closed : List Grown) (active : Grown) → AreChained start (closed ++ active ∷ []) → Each (IsStored f line) (closed ++ active ∷ [])
    → (g : Grown) (rest : List Grown) → closed ≡ g ∷ rest → (g.base ≡ start) × (end_from start (up_to (end_of g) (all_batches f (closed ++ active ∷ []))) ≡ end_of g)
first_edge f line start [] active chained each g rest is = absurd cc
first_edge f line start (h ∷ hs) active chained each g rest is =
    let same : h ≡ g = cc (is) in
    let all = all_batches f (h ∷ hs ++ active ∷ []) in
    let c = consecutive_segments f line start (map extent_of (h ∷ hs ++ active ∷ [])) all (stored_segments f line start (h ∷ hs ++ active ∷ []) chained each) in
    let s = each.0 in
    let front : IsPrefix s.batches all = (all_batches f (hs ++ active ∷ []), ap (λ (l : List (List ℕ)). l ++ all_batches f (hs ++ active ∷ [])) (sym (stored_batches f line h s))) in
    let end : end_from start s.batches ≡ end_of h = ap (λ (n : ℕ). end_from n s.batches) (sym chained.0) ∙ sym (stored_end f line h s) in
    subst (λ (k : Grown). (k.base ≡ start) × (end_from start (up_to (end_of k) all) ≡ end_of k)) same
    (chained.0, ap (end_from start) (up_to_is start (end_of h) s.batches all c front end) ∙ end)

-- stored segments hold their batches
held : (f : Files) (line : List (ℕ × ℕ)) (start : ℕ) (segments : List Grown) → AreChained start segments → Each (IsStored f line) segments → SegmentsHold start segments (all_batches f segments)
held f line start [] chained each = refl
held f line start (g ∷ segments) chained each =
    let s = each.0 in
    (s.batches, all_batches f segments, ap (λ (l : List (List ℕ)). l ++ all_batches f segments) (stored_batches f line g s), chained.0, s.placed, held f line (end_of g) segments chained.1 each.1)

module _ {D : Type 0} (content : D → Content) (s : Inside D) (sound : IsLogSound content s) (unbroken : s.broken ≡ false) (t : IsTrue (content s.disk).is_observable) where
  abbrev pub segments : List Grown
  segments = s.closed.items ++ s.active ∷ []

  each : Each (IsStored (content s.disk).files s.line) segments
  each = (sound.has unbroken).stored t

  pub log_coheres : Coheres (log_in content s)
  log_coheres =
      let f = (content s.disk).files in
      let are = sound.segments in
      record {
        consecutive = consecutive_segments f s.line s.local_start (map extent_of segments) (all_batches f segments) (stored_segments f s.line s.local_start segments are.chained each);
        ends = all_end f s.line s.local_start segments are.chained each ∙ chain_snoc s.local_start s.closed.items s.active;
        flushed_end_within = sound.flushed_end_within;
        line_within = cut_within s.line (end_of s.active) sound.line_within;
        cuts = λ n le. ap (λ (g : Grown). begin_of g n) (open_holds n s.closed.items s.active) ∙ sym (edge_told content s sound unbroken t n le);
        segments = held f s.line s.local_start segments are.chained each;
        first = λ g rest is. first_edge f s.line s.local_start s.closed.items s.active are.chained each g rest is;
        are = stored_checked f s.line segments each;
        pieces = piece_before content s sound unbroken t;
      }
