-- Of whatever moment of a call a crash is, what it leaves opens as before the call or as after it.
use Rattle.std.proofs.Common.{◌≡◌, ◌⊎◌, inl, inr, ⊎_elim, sym, subst, IsTrue}
use Rattle.disk_model.specs.Content.{Content, Lawful, Files, Image, Keeps, LeavesOnly}
use Rattle.log_steps.specs.Opens.{Opened, Opens}
use Rattle.log_steps.specs.Publishes.{LeavesEither}
use Rattle.log_steps.proofs.Moments.{leaves_weaker, leaves_then}
use Rattle.local_log.specs.Cutting.{OpensAs, OpensBeforeOrNow, LeavesBeforeOrNow}
use Rattle.local_log.proofs.OneWay.{opens_once}
use Rattle.local_log.proofs.Retold.{start_opens, kept_opens}

pub either_opens : (d new : Content) → LeavesEither d new → LeavesBeforeOrNow d new
either_opens d new h =
    leaves_weaker d new (λ c. Image d c ⊎ Image new c) (OpensBeforeOrNow d new)
    (λ c i. ⊎_elim (λ was. inl (c, was, λ o opens. opens)) (λ now. inr (c, now, λ o opens. opens)) i) h

-- a call that changes nothing that opens
pub before_either : (d new : Content) → LeavesOnly d new (OpensAs d) → LeavesBeforeOrNow d new
before_either d new h = leaves_weaker d new (OpensAs d) (OpensBeforeOrNow d new) (λ c i. inl i) h

pub start_either : (d : Content) → LeavesBeforeOrNow d d
start_either d = before_either d d (start_opens d)

pub kept_either : (d m : Content) → Keeps d m → LeavesBeforeOrNow d m
kept_either d m k = before_either d m (kept_opens d m k)

-- a call after others that changed nothing that opens
pub either_last : (d m new : Content) → Lawful m → LeavesOnly d m (OpensAs d) → LeavesBeforeOrNow m new → LeavesBeforeOrNow d new
either_last d m new laws-m h k =
    leaves_then d m new (OpensBeforeOrNow d new)
    (leaves_weaker d m (OpensAs d) (OpensBeforeOrNow d new) (λ c i. inl i) h)
    (leaves_weaker m new (OpensBeforeOrNow m new) (OpensBeforeOrNow d new) (λ c i. ⊎_elim
    (λ like. (let was = h.each like.0 (laws-m.earlier d.moment m.moment like.0 h.later like.1) in inl (was.0, was.1, λ p opens. like.2 p (was.2 p opens))))
    (λ now. inr now)
    i) k)

pub either_kept : (d m new : Content) → Lawful m → Keeps d m → LeavesBeforeOrNow m new → LeavesBeforeOrNow d new
either_kept d m new laws-m k h = either_last d m new laws-m (kept_opens d m k) h

pub either_published : (d m new : Content) → Lawful m → Keeps d m → LeavesEither m new → LeavesBeforeOrNow d new
either_published d m new laws-m k h = either_kept d m new laws-m k (either_opens m new h)

-- a call after which each image opens so, and then others that change nothing that opens
pub either_settled : (d m new : Content) (o : Opened) → Lawful m → Lawful new → new.is_observable ≡ m.is_observable → LeavesBeforeOrNow d m → ((c : Files) → Image m c → Opens c o) → LeavesOnly m new (OpensAs m) → LeavesBeforeOrNow d new
either_settled d m new o laws-m laws is_observable h sure k =
    leaves_then d m new (OpensBeforeOrNow d new)
    (leaves_weaker d m (OpensBeforeOrNow d m) (OpensBeforeOrNow d new) (λ c i. ⊎_elim (λ was. inl was) (λ like. inr (as_new c like)) i) h)
    (leaves_weaker m new (OpensAs m) (OpensBeforeOrNow d new) (λ c like. inr (as_new c like)) k)
  where
    as_new : (c : Files) → OpensAs m c → OpensAs new c
    as_new c like =
        let now : Image new new.files = laws.reads (subst IsTrue (sym is_observable) (laws-m.told like.0 like.1)) in
        let like-new = k.each new.files (laws.earlier m.moment new.moment new.files k.later now) in
        let is : Opens new.files o = like-new.2 o (sure like-new.0 like-new.1) in
        (new.files, now, λ p by. subst (Opens c) (opens_once new.files o p is by) (like.2 o (sure like.0 like.1)))
