-- No log ends past the greatest log end offset: each is the beginning of a path.
use Rattle.std.proofs.Common.{◌≡◌, ◌∙◌, sym, refl, ◌+◌, ℕ, ◌≤◌, List, [], ◌∷◌, ◌++◌, Some, slice_get, subst, arith, append_assoc}
use Rattle.std.proofs.lemmas.List.{append-nil}
use Rattle.log_terms.specs.Batch.{base_of, epoch_of, last_offset_delta_of}
use Rattle.log_terms.specs.Log.{end_of}
use Rattle.log_terms.proofs.Logs.{end_append, prefix_end}
use Rattle.plain_log.specs.declared.state.State.{State}
use Rattle.plain_log.specs.declared.state.Broker.{Broker}
use Rattle.plain_log.specs.RowsOfLog.{offset_limit}
use Rattle.plain_log.specs.Safe.{HasOnPath, LogSafe, PlainSafe}

-- what begins a path ends within the offsets
pub has_within : (p : State) (e : ℕ) (front : List (List ℕ)) → PlainSafe p → HasOnPath p.paths e front → end_of front ≤ offset_limit
has_within p e front s h =
    let k = s.paths e h.0 h.1 in
    omega (arith, prefix_end front h.0 k.log_safe.consecutive h.2, k.ends)

-- so does what follows it in a log, batch by batch
from_front : (p : State) (log front rest : List (List ℕ)) → PlainSafe p → LogSafe p.paths log → front ++ rest ≡ log → end_of front ≤ offset_limit
    → end_of log ≤ offset_limit
from_front p log front [] s h is le = subst (λ (l : List (List ℕ)). end_of l ≤ offset_limit) (sym (append-nil front) ∙ is) le
from_front p log front (v ∷ rest) s h is le =
    let more : (front ++ v ∷ []) ++ rest ≡ log = append_assoc front (v ∷ []) rest ∙ is in
    from_front p log (front ++ v ∷ []) rest s h more (has_within p (epoch_of v) (front ++ v ∷ []) s (h.matching front v (rest, more)))

pub log_within : (p : State) (log : List (List ℕ)) → PlainSafe p → LogSafe p.paths log → end_of log ≤ offset_limit
log_within p log s h = from_front p log [] log s h refl (omega arith)

-- the log of each broker
pub broker_within : (p : State) (b : ℕ) (x : Broker) → PlainSafe p → slice_get p.brokers b ≡ Some x → end_of x.log ≤ offset_limit
broker_within p b x s at = log_within p x.log s (s.brokers b x at).log

-- a log with a batch more at its end ends after that batch
pub end_snoc : (log : List (List ℕ)) (v : List ℕ) → base_of v ≡ end_of log → end_of (log ++ v ∷ []) ≡ end_of log + last_offset_delta_of v + 1
end_snoc log v is = let e = end_append 0 log (v ∷ []) in omega (arith, e, is)
