-- A follower's log: cut to where it meets the path, and grown along it.
use Rattle.std.proofs.Common.{◌≡◌, subst, ℕ, ◌≤◌, ◌<◌, ◌==◌, min, List, Some, Bool, true, false, ◌&&◌, refl, ap, sym, ◌∙◌, arith}
use Rattle.std.specs.Prelude.{nat_lt, nat_le}
use Rattle.std.proofs.lemmas.Bool.Decides.{nat_tests}
use mathlib.Core.List.{IsPrefix}
use Rattle.log_terms.specs.Log.{IsConsecutive, end_of, up_to, EndsAt}
use Rattle.log_terms.proofs.Lists.{and_then_some, prefix_self, prefix_trans}
use Rattle.log_terms.proofs.Logs.{nested, consecutive_prefix, up_to_prefix, up_to_end, in_up_to, ends_more, prefix_end}
use Rattle.plain_log.specs.declared.state.State.{State}
use Rattle.plain_log.specs.declared.state.Path.{Path}
use Rattle.plain_log.specs.declared.state.Broker.{Broker}
use Rattle.plain_log.specs.declared.state.Role.{Role}
use Rattle.plain_log.specs.declared.state.Role.TheVariants.{Idle, Leads, Follows, Joined}
use Rattle.plain_log.specs.Ends.{is_end, common}
use Rattle.plain_log.specs.State.{path_of, followed}
use Rattle.plain_log.specs.RowsOfFollowers.{cut_to, extended}
use Rattle.plain_log.specs.Safe.{HasOnPath, LogSafe, RoleSafe, BrokerSafe, SharedTo, current, KnownSafe}
use Rattle.plain_log.proofs.Options.{when_some, both}
use Rattle.plain_log.proofs.Ends.{log_prefix, is_end_ends, common_left, common_right, common_all}
use Rattle.plain_log.proofs.Swaps.{Swap, role_as, current_is}

-- a follower's epoch isn't above the registry's
pub followed_below : (paths : List Path) (epoch : ℕ) (r : Role) (log : List (List ℕ)) (e : ℕ) → followed r ≡ Some e → RoleSafe paths epoch r log → e ≤ epoch
followed_below paths epoch Idle log e is h = absurd cc
followed_below paths epoch (Leads f) log e is h = absurd cc
followed_below paths epoch (Follows f) log e is h = let same : f ≡ e = cc in omega (arith, same, h)
followed_below paths epoch (Joined f) log e is h = let same : f ≡ e = cc in omega (arith, same, h.0)

-- where less of a log is left, as much of what is shared is
pub shared_cut : (k n : ℕ) (log cut base : List (List ℕ)) → IsConsecutive 0 log → IsPrefix cut log → end_of cut ≡ n → SharedTo k log base → SharedTo (min k n) cut base
shared_cut k n log cut base c p e h = go (nat_le k n) refl
  where
    go : (t : Bool) → nat_le k n ≡ t → SharedTo (min k n) cut base
    go true t =
        let le : k ≤ n = grind (arith, nat_tests, t) in
        (h.0, nested 0 h.0 cut log c h.1 p (omega (arith, le, h.2, e)), omega (arith, h.2, le), h.3)
    go false t =
        let le : n < k = grind (arith, nat_tests, t) in
        (cut, prefix_self cut, omega (arith, e, le), prefix_trans cut h.0 base (nested 0 cut h.0 log c p h.1 (omega (arith, le, h.2, e))) h.3)

-- the broker is up, and the epoch that it follows isn't stale
abbrev pub MayCut : State → Broker → Type 0
MayCut p x = (x.up ≡ true) × ((e : ℕ) → followed x.role ≡ Some e → p.registry.epoch ≤ e)

-- a join cuts the log to what it has in common with the path
pub swap_cut : (p : State) (x : Broker) (n : ℕ) (y : Broker) → MayCut p x → cut_to p x n ≡ Some y → BrokerSafe p.paths p.registry.epoch x → KnownSafe p.unclean p.registry.epoch p.registry.mark p.committed x → Swap p x y
swap_cut p x n y may is h k =
    let f = and_then_some _ (followed x.role) y is in
    let g = and_then_some _ (path_of p.paths f.0) y f.2 in
    let w = when_some _ _ y g.2 in
    go f.0 g.0 f.1 g.1 w.0 w.1
  where
    go : (e : ℕ) (l : List (List ℕ)) → followed x.role ≡ Some e → path_of p.paths e ≡ Some l
        → (n == end_of (common x.log l)) ≡ true
        → record x { role = Joined e; log = common x.log l; flushed_end = n; known_high_watermark = min x.known_high_watermark n } ≡ y → Swap p x y
    go e l fo pa t same =
        let up = may.0 in
        let fresh = may.1 e fo in
        let ends : end_of (common x.log l) ≡ n = grind (arith, nat_tests, t) in
        let below = followed_below p.paths p.registry.epoch x.role x.log e fo h.role in
        let now : e ≡ p.registry.epoch = omega (arith, fresh, below) in
        let left = common_left x.log l in
        let base : current p.paths p.registry.epoch p.committed ≡ l = current_is p.paths p.registry.epoch p.committed l (sym (ap (path_of p.paths) now) ∙ pa) in
        let known : SharedTo (min x.known_high_watermark n) (common x.log l) x.log = shared_cut x.known_high_watermark n x.log (common x.log l) x.log h.log.consecutive left ends (h.known_high_watermark.0, h.known_high_watermark.1, h.known_high_watermark.2, h.known_high_watermark.1) in
        subst (λ (z : Broker). Swap p x z) same (record {
          broker = record {
            log = log_prefix p.paths (common x.log l) x.log left h.log;
            role = (below, (l, pa, common_right x.log l));
            flushed_end = (common x.log l, prefix_self (common x.log l), ends);
            known_high_watermark = (known.0, known.1, known.2);
            down = λ d. absurd (cc (up, d));
          };
          known_high_watermark = record {
            shared = λ u. shared_cut x.known_high_watermark n x.log (common x.log l) p.committed h.log.consecutive left ends (k.shared u);
            leader = λ i. absurd cc;
          };
          leads = λ f i. absurd cc;
          acks = λ s a.
              let sh = a.shared in
              let on : IsPrefix sh.0 l = subst (λ (z : List (List ℕ)). IsPrefix sh.0 z) base sh.3 in
              let kept = common_all sh.0 x.log l sh.1 on in
              record {
                flushed_end = omega (arith, prefix_end sh.0 (common x.log l) (consecutive_prefix 0 (common x.log l) x.log left h.log.consecutive) kept, sh.2, ends);
                shared = (sh.0, kept, sh.2, sh.3);
                in_sync = a.in_sync;
              };
          recorded = λ m a. record {
            stops = a.stops;
            up = a.up;
            leads = a.leads;
            joined = λ c.
                let j = a.joined c in (
                  j.0,
                  j.1,
                  λ i le.
                      let role : x.role ≡ Joined j.0 = j.2 i le ∙ j.1 in
                      let one : Some j.0 ≡ Some e = sym (ap followed role) ∙ fo in
                      let two : e ≡ j.0 = cc (one) in
                      ap Joined two ∙ sym j.1,
                );
          };
        })

-- the log of a joined broker becomes more of the path
pub swap_extended : (p : State) (x : Broker) (n e : ℕ) (y : Broker) → extended p x n ≡ Some y → x.role ≡ Joined e
    → ((f : ℕ) (l : List (List ℕ)) → path_of p.paths f ≡ Some l → LogSafe p.paths l)
    → BrokerSafe p.paths p.registry.epoch x → KnownSafe p.unclean p.registry.epoch p.registry.mark p.committed x → Swap p x y
swap_extended p x n e y is role paths h k =
    let f = and_then_some _ (followed x.role) y is in
    let g = and_then_some _ (path_of p.paths f.0) y f.2 in
    let w = when_some (is_end n g.0 && nat_lt (end_of x.log) n) (record x { log = up_to n g.0 }) y g.2 in
    let one : Some e ≡ Some f.0 = sym (ap followed role) ∙ f.1 in
    let two : f.0 ≡ e = cc (one) in
    go g.0 (sym (ap (path_of p.paths) two) ∙ g.1) w.0 w.1
  where
    go : (l : List (List ℕ)) → path_of p.paths e ≡ Some l → is_end n l && nat_lt (end_of x.log) n ≡ true → record x { log = up_to n l } ≡ y → Swap p x y
    go l pa t same =
        let tt2 = both (is_end n l) (nat_lt (end_of x.log) n) t in
        let ends = is_end_ends n l tt2.0 in
        let more : end_of x.log < n = grind (arith, nat_tests, tt2.1) in
        let r = role_as p.paths p.registry.epoch x.role (Joined e) x.log role h.role in
        let has : HasOnPath p.paths e x.log = r.1 in
        let safe = paths e l pa in
        let one : Some has.0 ≡ Some l = sym has.1 ∙ pa in
        let two : has.0 ≡ l = cc (one) in
        let on : IsPrefix x.log l = subst (λ (z : List (List ℕ)). IsPrefix x.log z) two has.2 in
        let grows : IsPrefix x.log (up_to n l) = in_up_to n x.log l safe.consecutive on ends (omega (arith, more)) in
        subst (λ (z : Broker). Swap p x z) same (record {
          broker = record {
            log = log_prefix p.paths (up_to n l) l (up_to_prefix n l) safe;
            role = role_as p.paths p.registry.epoch (Joined e) x.role (up_to n l) (sym role) (r.0, (l, pa, up_to_prefix n l));
            flushed_end = ends_more x.flushed_end x.log (up_to n l) h.flushed_end grows;
            known_high_watermark = ends_more x.known_high_watermark x.log (up_to n l) h.known_high_watermark grows;
            down = h.down;
          };
          known_high_watermark = record {
            shared = λ u. let c = k.shared u in (c.0, prefix_trans c.0 x.log (up_to n l) c.1 grows, c.2, c.3);
            leader = k.leader;
          };
          leads = λ f i. i;
          acks = λ s a. record {
            flushed_end = a.flushed_end;
            shared = (let c = a.shared in (c.0, prefix_trans c.0 x.log (up_to n l) c.1 grows, c.2, c.3));
            in_sync = a.in_sync;
          };
          recorded = λ m a. record { stops = a.stops; up = a.up; leads = a.leads; joined = a.joined };
        })

-- what extended gives ends at n
pub extended_ends : (p : State) (x : Broker) (n : ℕ) (y : Broker) → extended p x n ≡ Some y
    → ((f : ℕ) (l : List (List ℕ)) → path_of p.paths f ≡ Some l → IsConsecutive 0 l)
    → EndsAt n y.log × (y.flushed_end ≡ x.flushed_end) × (end_of x.log < n)
extended_ends p x n y is paths =
    let f = and_then_some _ (followed x.role) y is in
    let g = and_then_some _ (path_of p.paths f.0) y f.2 in
    let w = when_some _ _ y g.2 in
    let t = both (is_end n g.0) (nat_lt (end_of x.log) n) w.0 in
    let ends = is_end_ends n g.0 t.0 in
    let c = paths f.0 g.0 g.1 in
    let here : EndsAt n (up_to n g.0) = (up_to n g.0, prefix_self (up_to n g.0), up_to_end n g.0 c ends) in
    (subst (λ (z : Broker). EndsAt n z.log) w.1 here, ap (λ (z : Broker). z.flushed_end) (sym w.1), grind (arith, nat_tests, t.1))
