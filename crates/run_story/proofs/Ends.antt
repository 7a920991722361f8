-- The ends of logs, broker by broker.
use Rattle.std.proofs.Common.{◌≡◌, ap, sym, ◌∙◌, ℕ, ◌+◌, ◌<◌, List, [], ◌∷◌, ◌++◌, length, take, get_or, slice_get, map, Some, arith}
use Rattle.std.proofs.lemmas.List.{take_more, map-append}
use Rattle.std.proofs.lemmas.Option.{slice_get-get_or}
use Rattle.log_terms.specs.Log.{end_of}
use Rattle.plain_log.specs.declared.state.Broker.{Broker}
use Rattle.run_story.specs.declared.log_state.LogState.{LogState}

-- where a broker's log ends
abbrev pub model_end : Broker → ℕ
model_end x = end_of x.log

-- where a drawn log ends
abbrev pub drawn_end : LogState → ℕ
drawn_end log = log.end

-- one more broker
pub one_broker : (bs : List Broker) (i n : ℕ) → i < length bs → ((x : Broker) → slice_get bs i ≡ Some x → n ≡ end_of x.log)
    → map model_end (take (i + 1) bs) ≡ map model_end (take i bs) ++ n ∷ []
one_broker [] i n below is = absurd (omega (arith, below))
one_broker (b ∷ bs) i n below is =
    ap (map model_end) (take_more (b ∷ bs) i b below) ∙ map-append model_end (take i (b ∷ bs)) (get_or (b ∷ bs) i b ∷ [])
    ∙ ap (λ (z : ℕ). map model_end (take i (b ∷ bs)) ++ z ∷ []) (sym (is (get_or (b ∷ bs) i b) (slice_get-get_or (b ∷ bs) i b below)))

-- one more log
pub one_log : (logs more : List LogState) (log : LogState) (bs : List Broker) (i : ℕ) → map drawn_end logs ≡ map model_end (take i bs)
    → more ≡ logs ++ log ∷ [] → i < length bs → ((x : Broker) → slice_get bs i ≡ Some x → log.end ≡ end_of x.log)
    → map drawn_end more ≡ map model_end (take (i + 1) bs)
one_log logs more log bs i so_far is below its =
    ap (map drawn_end) is ∙ map-append drawn_end logs (log ∷ []) ∙ ap (λ (l : List ℕ). l ++ log.end ∷ []) so_far ∙ sym (one_broker bs i log.end below its)
