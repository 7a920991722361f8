-- The safety rules hold where nothing has happened yet.
use Rattle.std.proofs.Common.{◌≡◌, ◌≢◌, ◌⊎◌, inl, inr, subst, ℕ, zero, suc, ◌==◌, List, [], ◌∷◌, ◌++◌, length, Some, slice_get, Bool, true, false, refl, ap, sym, ◌∙◌, arith}
use Rattle.std.specs.Prelude.{replicate}
use Rattle.std.proofs.lemmas.Bool.Decides.{nat_tests}
use Rattle.log_terms.proofs.Logs.{ends_at_zero}
use Rattle.registry.specs.declared.registry.Replica.{Replica}
use Rattle.plain_log.specs.declared.state.Path.{Path}
use Rattle.plain_log.specs.declared.state.Broker.{Broker}
use Rattle.plain_log.specs.declared.state.Role.TheVariants.{Leads, Joined}
use Rattle.plain_log.specs.State.{path_of}
use Rattle.registry.specs.Replicas.{fresh_replica}
use Rattle.plain_log.specs.Fresh.{fresh_broker, fresh_state}
use Rattle.plain_log.specs.Safe.{LogSafe, PathSafe, BrokerSafe, AckSafe, KnownSafe, PlainSafe}

replicate_get : {A : Type 0} (a : A) (n c : ℕ) (x : A) → slice_get (replicate n a) c ≡ Some x → x ≡ a
replicate_get a zero c x e = absurd cc
replicate_get a (suc n) zero x e = cc
replicate_get a (suc n) (suc c) x e = replicate_get a n c x e

replicate_length : {A B : Type 0} (a : A) (b : B) (n : ℕ) → length (replicate n a) ≡ length (replicate n b)
replicate_length a b zero = refl
replicate_length a b (suc n) = ap suc (replicate_length a b n)

-- no list begins the empty one and has a batch
no_batch : (front : List (List ℕ)) (batch : List ℕ) (rest : List (List ℕ)) → (front ++ batch ∷ []) ++ rest ≢ []
no_batch [] batch rest = λ e. absurd cc
no_batch (first ∷ front) batch rest = λ e. absurd cc

-- the one path, of epoch 0
abbrev paths : List Path
paths = record { epoch = 0; log = [] } ∷ []

-- the epoch and the log of a path that there is
path_is : (e : ℕ) (log : List (List ℕ)) → path_of paths e ≡ Some log → (e ≡ 0) × (log ≡ [])
path_is e log is = go (0 == e) refl is
  where
    go : (t : Bool) → (0 == e) ≡ t → path_of paths e ≡ Some log → (e ≡ 0) × (log ≡ [])
    go true t i =
        let same : 0 ≡ e = grind (arith, nat_tests, t) in
        let k : Some [] ≡ Some log = (rw t at i) in
        (sym same, cc (k))
    go false t i = absurd (cc (rw t at i))

empty_safe : LogSafe paths []
empty_safe = record { consecutive = tt; matching = λ front batch p. absurd (no_batch front batch p.0 p.1) }

path_safe : PathSafe paths 0 0 []
path_safe = record { log_safe = empty_safe; ends = omega arith; epochs = λ front batch p. absurd (no_batch front batch p.0 p.1); below = omega arith }

leader_safe : BrokerSafe paths 0 (fresh_broker (Leads 0))
leader_safe = record { log = empty_safe; role = (omega arith, refl); flushed_end = ends_at_zero []; known_high_watermark = ends_at_zero []; down = λ d. absurd cc }

follower_safe : BrokerSafe paths 0 (fresh_broker (Joined 0))
follower_safe = record { log = empty_safe; role = (omega arith, ([], refl, ([], refl))); flushed_end = ends_at_zero []; known_high_watermark = ends_at_zero []; down = λ d. absurd cc }

-- a broker of the fresh state
broker_is : (n c : ℕ) (x : Broker) → slice_get ((fresh_state n).brokers) c ≡ Some x → ((c ≡ 0) × (x ≡ fresh_broker (Leads 0))) ⊎ (x ≡ fresh_broker (Joined 0))
broker_is n zero x e = inl (refl, cc)
broker_is n (suc c) x e = inr (replicate_get (fresh_broker (Joined 0)) n c x e)

-- a replica of the fresh state
replica_is : (n c : ℕ) (r : Replica) → slice_get ((fresh_state n).registry.replicas) c ≡ Some r → r ≡ fresh_replica
replica_is n zero r e = cc
replica_is n (suc c) r e = replicate_get fresh_replica n c r e

follower_leads : (x : Broker) (e : ℕ) → x ≡ fresh_broker (Joined 0) → x.role ≢ Leads e
follower_leads x e is = λ l. let k : Joined 0 ≡ Leads e = sym (ap (λ (z : Broker). z.role) is) ∙ l in absurd (cc (k))

pub fresh_safe : (n : ℕ) → PlainSafe (fresh_state n)
fresh_safe n = record {
  marks = record { start = omega arith; consecutive = tt; ends = refl; begins = ([], refl); epoch = omega arith };
  paths = λ e log i.
      let is = path_is e log i in
      subst (λ (k : ℕ). PathSafe paths 0 k log) (sym is.0) (subst (λ (k : List (List ℕ)). PathSafe paths 0 0 k) (sym is.1) path_safe);
  brokers = λ c x e.
      elim (broker_is n c x e) [
        | inl i ↦ subst (λ (k : Broker). BrokerSafe paths 0 k) (sym i.1) leader_safe
        | inr i ↦ subst (λ (k : Broker). BrokerSafe paths 0 k) (sym i) follower_safe
      ];
  known_high_watermark = λ c x e.
      elim (broker_is n c x e) [
        | inl i ↦ subst (λ (k : Broker). KnownSafe false 0 0 [] k) (sym i.1) (record { shared = λ _. ([], ([], refl), refl, ([], refl)); leader = λ _. omega arith })
        | inr i ↦ subst (λ (k : Broker). KnownSafe false 0 0 [] k) (sym i) (record { shared = λ _. ([], ([], refl), refl, ([], refl)); leader = λ _. omega arith })
      ];
  one_leader = λ c d x y e cx dy lx ly.
      elim (broker_is n c x cx) [
        | inl i ↦ elim (broker_is n d y dy) [
          | inl j ↦ i.0 ∙ sym j.0
          | inr j ↦ absurd (follower_leads y e j ly)
        ]
        | inr i ↦ absurd (follower_leads x e i lx)
      ];
  acks = λ c x r cx cr.
      subst (λ (k : Replica). AckSafe [] 0 x k) (sym (replica_is n c r cr))
      (record { flushed_end = omega arith; shared = ([], (x.log, refl), refl, ([], refl)); in_sync = λ _. omega arith });
  leader = λ r e. ap (λ (k : Replica). k.in_sync) (replica_is n 0 r e);
  leader_within = omega arith;
  same_count = ap suc (replicate_length fresh_replica (fresh_broker (Joined 0)) n);
  broken = λ m i. absurd cc;
  recorded = λ a m x bg e. absurd cc;
}
