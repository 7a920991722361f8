-- Paths that only grew: what was safe over them is safe.
use Rattle.std.proofs.Common.{◌≡◌, ℕ, List, [], ◌∷◌, ◌++◌, Some, refl}
use Rattle.log_terms.specs.Batch.{epoch_of}
use Rattle.log_terms.proofs.Lists.{prefix_self, prefix_trans}
use Rattle.plain_log.specs.declared.state.Path.{Path}
use Rattle.plain_log.specs.declared.state.Broker.{Broker}
use Rattle.plain_log.specs.declared.state.PlainSnapshot.{PlainSnapshot}
use Rattle.plain_log.specs.declared.state.Role.{Role}
use Rattle.plain_log.specs.declared.state.Role.TheVariants.{Idle, Leads, Follows, Joined}
use Rattle.plain_log.specs.State.{path_of}
use Rattle.plain_log.specs.Safe.{HasOnPath, LogSafe, RoleSafe, BrokerSafe, SnapshotIsSafe}

-- each path is the beginning of one
abbrev pub Wider : List Path → List Path → Type 0
Wider ps qs = (e : ℕ) (log : List (List ℕ)) → path_of ps e ≡ Some log → HasOnPath qs e log

-- paths are beginnings of themselves
pub wider_self : (ps : List Path) → Wider ps ps
wider_self ps e log is = (log, is, prefix_self log)

-- and of what grew twice
pub wider_trans : (ps qs rs : List Path) → Wider ps qs → Wider qs rs → Wider ps rs
wider_trans ps qs rs v w e log is =
    let k = v e log is in
    let m = w e k.0 k.1 in
    (m.0, m.1, prefix_trans log k.0 m.0 k.2 m.2)

pub has_wider : (ps qs : List Path) (e : ℕ) (front : List (List ℕ)) → Wider ps qs → HasOnPath ps e front → HasOnPath qs e front
has_wider ps qs e front w h = let k = w e h.0 h.1 in (k.0, k.1, prefix_trans front h.0 k.0 h.2 k.2)

pub log_wider : (ps qs : List Path) (log : List (List ℕ)) → Wider ps qs → LogSafe ps log → LogSafe qs log
log_wider ps qs log w h = record {
  consecutive = h.consecutive;
  matching = λ front batch p. has_wider ps qs (epoch_of batch) (front ++ batch ∷ []) w (h.matching front batch p);
}

pub recorded_wider : (ps qs : List Path) (epoch : ℕ) (n : PlainSnapshot) (x : Broker) → Wider ps qs → SnapshotIsSafe ps epoch n x → SnapshotIsSafe qs epoch n x
recorded_wider ps qs epoch n x w h = record {
  stops = h.stops;
  up = h.up;
  joined = h.joined;
  leads = λ c. let k = h.leads c in let m = w k.0 k.1 k.3 in (k.0, m.0, k.2, m.1);
}

pub role_wider : (ps qs : List Path) (epoch : ℕ) (r : Role) (log : List (List ℕ)) → Wider ps qs
    → ((e : ℕ) → r ≡ Leads e → path_of ps e ≡ Some log → path_of qs e ≡ Some log) → RoleSafe ps epoch r log → RoleSafe qs epoch r log
role_wider ps qs epoch Idle log w f h = tt
role_wider ps qs epoch (Leads e) log w f h = (h.0, f e refl h.1)
role_wider ps qs epoch (Follows e) log w f h = h
role_wider ps qs epoch (Joined e) log w f h = (h.0, has_wider ps qs e log w h.1)

-- a broker's rules continue, where the path of a leader is its log still
pub broker_wider : (ps qs : List Path) (epoch : ℕ) (x : Broker) → Wider ps qs
    → ((e : ℕ) → x.role ≡ Leads e → path_of ps e ≡ Some x.log → path_of qs e ≡ Some x.log) → BrokerSafe ps epoch x → BrokerSafe qs epoch x
broker_wider ps qs epoch x w f h = record {
  log = log_wider ps qs x.log w h.log;
  role = role_wider ps qs epoch x.role x.log w f h.role;
  flushed_end = h.flushed_end;
  known_high_watermark = h.known_high_watermark;
  down = h.down;
}
