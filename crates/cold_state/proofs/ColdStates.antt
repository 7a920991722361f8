-- What a power cut leaves is safe.
use Rattle.std.proofs.Common.{◌≡◌, ◌∙◌, sym, ap, subst, refl, ℕ, List, [], slice_get, Some, None, Option}
use Rattle.std.specs.Prelude.{map, option_map}
use Rattle.std.proofs.lemmas.Option.{slice_get-map}
use Rattle.std.proofs.lemmas.List.{length-map}
use Rattle.log_terms.proofs.Logs.{ends_at_zero}
use Rattle.registry.specs.declared.registry.Replica.{Replica}
use Rattle.plain_log.specs.declared.state.Broker.{Broker}
use Rattle.plain_log.specs.declared.state.State.{State}
use Rattle.plain_log.specs.Safe.{PlainSafe, BrokerSafe, KnownSafe, AckSafe, SharedTo, current}
use Rattle.cold_state.specs.Cold.{cold_broker, cold_of}

-- what is in such a list was made of what was there
pub record Made {A B : Type 0} (f : A → B) (xs : List A) (k : ℕ) (y : B) : Type 0 where
  pub x : A
  pub there : slice_get xs k ≡ Some x
  pub is : y ≡ f x

pub made : {A B : Type 0} (f : A → B) (xs : List A) (k : ℕ) (y : B) → slice_get (map f xs) k ≡ Some y → Made f xs k y
made f xs k y at = from (slice_get xs k) refl (sym (slice_get-map f xs k) ∙ at)
  where
    from : (o : Option _) → slice_get xs k ≡ o → option_map f o ≡ Some y → Made f xs k y
    from (Some x) is e = record { x = x; there = is; is = cc }
    from None is e = absurd cc

-- nothing of a log is shared with anything
shared_none : (log batches : List (List ℕ)) → SharedTo 0 log batches
shared_none log batches = ([], (log, refl), refl, (batches, refl))

pub cold_safe : (p : State) → PlainSafe p → PlainSafe (cold_of p)
cold_safe p s = record {
  marks = s.marks;
  paths = s.paths;
  brokers = brokers;
  known_high_watermark = known;
  one_leader = λ b c x y e at to leads other. absurd (let m = made cold_broker p.brokers b x at in let none = ap (λ (k : Broker). k.role) m.is in cc);
  acks = acks;
  leader = s.leader;
  leader_within = s.leader_within;
  same_count = s.same_count ∙ sym (length-map p.brokers cold_broker);
  broken = s.broken;
  recorded = λ a n x snapshot at. absurd cc;
}
  where
    brokers : (b : ℕ) (x : Broker) → slice_get (map cold_broker p.brokers) b ≡ Some x → BrokerSafe p.paths p.registry.epoch x
    brokers b x at =
        let m = made cold_broker p.brokers b x at in
        let k = s.brokers b m.x m.there in
        subst (BrokerSafe p.paths p.registry.epoch) (sym m.is) (record { log = k.log; role = tt; flushed_end = k.flushed_end; known_high_watermark = ends_at_zero m.x.log; down = λ down. (refl, refl) })

    known : (b : ℕ) (x : Broker) → slice_get (map cold_broker p.brokers) b ≡ Some x → KnownSafe p.unclean p.registry.epoch p.registry.mark p.committed x
    known b x at =
        let m = made cold_broker p.brokers b x at in
        subst (KnownSafe p.unclean p.registry.epoch p.registry.mark p.committed) (sym m.is) (record { shared = λ clean. shared_none m.x.log p.committed; leader = λ leads. absurd cc })

    acks : (b : ℕ) (x : Broker) (r : Replica) → slice_get (map cold_broker p.brokers) b ≡ Some x → slice_get p.registry.replicas b ≡ Some r
        → AckSafe (current p.paths p.registry.epoch p.committed) p.registry.mark x r
    acks b x r at to =
        let m = made cold_broker p.brokers b x at in
        let k = s.acks b m.x r m.there to in
        subst (λ (y : Broker). AckSafe (current p.paths p.registry.epoch p.committed) p.registry.mark y r) (sym m.is) (record { flushed_end = k.flushed_end; shared = k.shared; in_sync = k.in_sync })
