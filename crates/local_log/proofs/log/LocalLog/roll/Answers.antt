use Rattle.std.proofs.Common.{◌≡◌, ◌∙◌, ◌<◌, ◌+◌, ℕ, List, [], ◌∷◌, ◌++◌, length, false, refl, sym, ap, subst, arith, ◌≤◌}
use Rattle.tier_base.specs.declared.plain.FileName.TheVariants as file
use Rattle.disk_model.specs.Content.{Lawful, Files, Image, BeginsWith}
use Rattle.segment_file.specs.Growing.{Grown}
use Rattle.local_log.specs.Log.{Log}
use Rattle.log_steps.specs.Fronts.{Each}
use Rattle.local_log.specs.Stored.{size_of, end_of, all_batches}
use Rattle.local_log.specs.Listing.{AreSegmentsOf}
use Rattle.local_log.specs.Inside.{DiskHasLog}
use Rattle.local_log.proofs.Having.{start_since, kept_since, has_kept, has_reopens}
use Rattle.local_log.proofs.Listed.{are_rolled}
use Rattle.local_log.proofs.Becoming.{becomes_by}
use Rattle.local_log.proofs.Rolling.{twice_since, roll_has, roll_batches}
use Rattle.local_log.proofs.Retold.{start_opens, kept_opens, twice_opens}
use Rattle.local_log.proofs.log.LocalLog.roll.Goals as goal

pub returns-then-size-eq0-clause-any_moment : goal.returns-then-size-eq0-clause-any_moment
returns-then-size-eq0-clause-any_moment g c =
    let s = c.self.inside in
    let d = g.D.Disk.content s.disk in
    let laws : Lawful d = g.met.D.Disk.lawful s.disk in
    let unbroken : s.broken ≡ false = ap (λ (l : Log g.row.D.Denot). l.broken) c.self.view_is ∙ c.requires in
    rw (← c.self.view_is) (start_since d laws s.incarnation s.local_start s.closed.items s.active s.line s.flushed_end (c.self.invariant.has unbroken))

pub returns-then-size-eq0-clause-opens : goal.returns-then-size-eq0-clause-opens
returns-then-size-eq0-clause-opens g c =
    let s = c.self.inside in
    let d = g.D.Disk.content s.disk in
    rw (← c.self.view_is) (start_opens d)

pub returns-then-len-ge-MOST_SEGMENTS-clause-any_moment : goal.returns-then-len-ge-MOST_SEGMENTS-clause-any_moment
returns-then-len-ge-MOST_SEGMENTS-clause-any_moment g c =
    let s = c.self.inside in
    let d = g.D.Disk.content s.disk in
    let laws : Lawful d = g.met.D.Disk.lawful s.disk in
    let unbroken : s.broken ≡ false = ap (λ (l : Log g.row.D.Denot). l.broken) c.self.view_is ∙ c.requires in
    rw (← c.self.view_is) (start_since d laws s.incarnation s.local_start s.closed.items s.active s.line s.flushed_end (c.self.invariant.has unbroken))

pub returns-then-len-ge-MOST_SEGMENTS-clause-opens : goal.returns-then-len-ge-MOST_SEGMENTS-clause-opens
returns-then-len-ge-MOST_SEGMENTS-clause-opens g c =
    let s = c.self.inside in
    let d = g.D.Disk.content s.disk in
    rw (← c.self.view_is) (start_opens d)

pub returns-in_err-reserve-clause-any_moment : goal.returns-in_err-reserve-clause-any_moment
returns-in_err-reserve-clause-any_moment g c =
    let s = c.self.inside in
    let d = g.D.Disk.content s.disk in
    let laws : Lawful d = g.met.D.Disk.lawful s.disk in
    let unbroken : s.broken ≡ false = ap (λ (l : Log g.row.D.Denot). l.broken) c.self.view_is ∙ c.requires in
    rw (← c.self.view_is) (start_since d laws s.incarnation s.local_start s.closed.items s.active s.line s.flushed_end (c.self.invariant.has unbroken))

pub returns-in_err-reserve-clause-opens : goal.returns-in_err-reserve-clause-opens
returns-in_err-reserve-clause-opens g c =
    let s = c.self.inside in
    let d = g.D.Disk.content s.disk in
    rw (← c.self.view_is) (start_opens d)

pub invariant_of-self-in_err-reserve-2 : goal.invariant_of-self-in_err-reserve-2
invariant_of-self-in_err-reserve-2 g c =
    let s = c.self.inside in
    let d = g.D.Disk.content s.disk in
    let m = g.D.Disk.content c.reserve-2.new.self in
    let laws : Lawful d = g.met.D.Disk.lawful s.disk in
    let laws-m : Lawful m = g.met.D.Disk.lawful c.reserve-2.new.self in
    let unbroken : s.broken ≡ false = ap (λ (l : Log g.row.D.Denot). l.broken) c.self.view_is ∙ c.requires in
    let has = has_kept d laws s.incarnation s.local_start s.closed.items s.active s.line s.flushed_end (c.self.invariant.has unbroken) m laws-m c.reserve-2.ensures.content in
    record {
      segments = subst (λ (l : List Grown). AreSegmentsOf s.local_start l s.active) (sym c.reserve.ensures.items) c.self.invariant.segments;
      settings = c.self.invariant.settings;
      opened = c.self.invariant.opened;
      fits = c.self.invariant.fits;
      line = c.self.invariant.line;
      line_within = c.self.invariant.line_within;
      flushed_end_within = c.self.invariant.flushed_end_within;
      has = λ whole. subst (λ (l : List Grown). DiskHasLog m s.incarnation s.local_start l s.active s.line s.flushed_end) (sym c.reserve.ensures.items) has;
      reopens = has_reopens m laws-m s.incarnation s.local_start s.closed.items s.active s.line s.flushed_end has;
    }

pub returns-in_err-reserve-2-clause-any_moment : goal.returns-in_err-reserve-2-clause-any_moment
returns-in_err-reserve-2-clause-any_moment g c =
    let s = c.self.inside in
    let d = g.D.Disk.content s.disk in
    let m = g.D.Disk.content c.reserve-2.new.self in
    let laws : Lawful d = g.met.D.Disk.lawful s.disk in
    let laws-m : Lawful m = g.met.D.Disk.lawful c.reserve-2.new.self in
    let unbroken : s.broken ≡ false = ap (λ (l : Log g.row.D.Denot). l.broken) c.self.view_is ∙ c.requires in
    rw (← c.self.view_is) (kept_since d laws s.incarnation s.local_start s.closed.items s.active s.line s.flushed_end (c.self.invariant.has unbroken) m laws-m c.reserve-2.ensures.content)

pub returns-in_err-reserve-2-clause-opens : goal.returns-in_err-reserve-2-clause-opens
returns-in_err-reserve-2-clause-opens g c =
    let s = c.self.inside in
    let d = g.D.Disk.content s.disk in
    let m = g.D.Disk.content c.reserve-2.new.self in
    rw (← c.self.view_is) (kept_opens d m c.reserve-2.ensures.content)

pub invariant_of-self-in-Ok : goal.invariant_of-self-in-Ok
invariant_of-self-in-Ok g c =
    let s = c.self.inside in
    let d = g.D.Disk.content s.disk in
    let m = g.D.Disk.content c.reserve-2.new.self in
    let d' = g.D.Disk.content c.sync.new.self in
    let laws : Lawful d = g.met.D.Disk.lawful s.disk in
    let laws-m : Lawful m = g.met.D.Disk.lawful c.reserve-2.new.self in
    let laws' : Lawful d' = g.met.D.Disk.lawful c.sync.new.self in
    let unbroken : s.broken ≡ false = ap (λ (l : Log g.row.D.Denot). l.broken) c.self.view_is ∙ c.requires in
    let are = c.self.invariant.segments in
    let some : 0 < size_of s.active = omega (arith, c.size.ensures, c.if-size-eq0.false) in
    let few : length s.closed.items + 1 < 4096 = omega (arith, c.len.ensures, c.if-len-ge-MOST_SEGMENTS.false) in
    let base_is : c.base.result ≡ s.active.base = c.base.ensures in
    let items_are : c.push_reserved.new.self.items ≡ s.closed.items ++ s.active ∷ [] =
    c.push_reserved.ensures.items
    ∙ ap (λ (l : List Grown). l ++ c.replace-full.result ∷ []) c.reserve.ensures.items
    ∙ ap (λ (x : Grown). s.closed.items ++ x ∷ []) c.replace-full.ensures.value in
    let active_is : c.replace-full.new.dest ≡ record { base = end_of s.active; interval = s.settings.index_interval; batches = [] } =
    c.replace-full.ensures.after ∙ c.new-next.ensures ∙ ap (λ (n : ℕ). record { base = n; interval = s.settings.index_interval; batches = [] }) c.end-end.ensures in
    let synced = subst (λ (b : ℕ). (f : Files) → Image d' f → BeginsWith (m.files (file.Log b)) (f (file.Log b))) base_is c.in-Ok.ensures.durable in
    let has = roll_has d m d' laws laws-m laws' s.incarnation s.local_start s.closed.items s.active s.line s.flushed_end (c.self.invariant.has unbroken) c.reserve-2.ensures.content c.sync.ensures.content s.settings.index_interval are some c.self.invariant.flushed_end_within synced in
    let next : Grown = (record { base = end_of s.active; interval = s.settings.index_interval; batches = [] }) in
    let end_is : end_of c.replace-full.new.dest ≡ end_of s.active = ap (λ (x : Grown). end_of x) active_is in
    record {
      segments = subst (λ (x : Grown). AreSegmentsOf s.local_start c.push_reserved.new.self.items x) (sym active_is) (subst (λ (l : List Grown). AreSegmentsOf s.local_start l next) (sym items_are) (are_rolled s.local_start s.settings.index_interval s.closed.items s.active are some few));
      settings = c.self.invariant.settings;
      opened = c.self.invariant.opened;
      fits = c.self.invariant.fits;
      line = c.self.invariant.line;
      line_within = subst (λ (n : ℕ). Each (λ (e : ℕ × ℕ). e.1 ≤ n) s.line) (sym end_is) c.self.invariant.line_within;
      flushed_end_within = omega (arith, end_is, c.self.invariant.flushed_end_within);
      has = λ whole. subst (λ (x : Grown). DiskHasLog d' s.incarnation s.local_start c.push_reserved.new.self.items x s.line s.flushed_end) (sym active_is) (subst (λ (l : List Grown). DiskHasLog d' s.incarnation s.local_start l next s.line s.flushed_end) (sym items_are) has);
      reopens = has_reopens d' laws' s.incarnation s.local_start (s.closed.items ++ s.active ∷ []) next s.line s.flushed_end has;
    }

pub returns-in-Ok-clause-ok : goal.returns-in-Ok-clause-ok
returns-in-Ok-clause-ok g c =
    let s = c.self.inside in
    let d = g.D.Disk.content s.disk in
    let m = g.D.Disk.content c.reserve-2.new.self in
    let d' = g.D.Disk.content c.sync.new.self in
    let laws : Lawful d = g.met.D.Disk.lawful s.disk in
    let laws-m : Lawful m = g.met.D.Disk.lawful c.reserve-2.new.self in
    let laws' : Lawful d' = g.met.D.Disk.lawful c.sync.new.self in
    let unbroken : s.broken ≡ false = ap (λ (l : Log g.row.D.Denot). l.broken) c.self.view_is ∙ c.requires in
    let are = c.self.invariant.segments in
    let some : 0 < size_of s.active = omega (arith, c.size.ensures, c.if-size-eq0.false) in
    let base_is : c.base.result ≡ s.active.base = c.base.ensures in
    let items_are : c.push_reserved.new.self.items ≡ s.closed.items ++ s.active ∷ [] =
    c.push_reserved.ensures.items
    ∙ ap (λ (l : List Grown). l ++ c.replace-full.result ∷ []) c.reserve.ensures.items
    ∙ ap (λ (x : Grown). s.closed.items ++ x ∷ []) c.replace-full.ensures.value in
    let active_is : c.replace-full.new.dest ≡ record { base = end_of s.active; interval = s.settings.index_interval; batches = [] } =
    c.replace-full.ensures.after ∙ c.new-next.ensures ∙ ap (λ (n : ℕ). record { base = n; interval = s.settings.index_interval; batches = [] }) c.end-end.ensures in
    let synced = subst (λ (b : ℕ). (f : Files) → Image d' f → BeginsWith (m.files (file.Log b)) (f (file.Log b))) base_is c.in-Ok.ensures.durable in
    let next : Grown = (record { base = end_of s.active; interval = s.settings.index_interval; batches = [] }) in
    let end_is : end_of c.replace-full.new.dest ≡ end_of s.active = ap (λ (x : Grown). end_of x) active_is in
    let batches_are : all_batches d'.files (c.push_reserved.new.self.items ++ c.replace-full.new.dest ∷ []) ≡ all_batches d'.files ((s.closed.items ++ s.active ∷ []) ++ next ∷ []) =
    ap (λ (l : List Grown). all_batches d'.files (l ++ c.replace-full.new.dest ∷ [])) items_are ∙ ap (λ (x : Grown). all_batches d'.files ((s.closed.items ++ s.active ∷ []) ++ x ∷ [])) active_is in
    rw (← c.self.view_is) (becomes_by g.D.Disk.content _ _ refl refl refl end_is refl refl items_are active_is refl
    (c.sync.ensures.content.is_observable ∙ c.reserve-2.ensures.content.is_observable)
    (λ t. batches_are ∙ roll_batches d m d' laws laws-m laws' s.incarnation s.local_start s.closed.items s.active s.line s.flushed_end (c.self.invariant.has unbroken) c.reserve-2.ensures.content c.sync.ensures.content s.settings.index_interval are some c.self.invariant.flushed_end_within synced))

pub returns-in-Ok-clause-any_moment : goal.returns-in-Ok-clause-any_moment
returns-in-Ok-clause-any_moment g c =
    let s = c.self.inside in
    let d = g.D.Disk.content s.disk in
    let m = g.D.Disk.content c.reserve-2.new.self in
    let d' = g.D.Disk.content c.sync.new.self in
    let laws : Lawful d = g.met.D.Disk.lawful s.disk in
    let laws-m : Lawful m = g.met.D.Disk.lawful c.reserve-2.new.self in
    let laws' : Lawful d' = g.met.D.Disk.lawful c.sync.new.self in
    let unbroken : s.broken ≡ false = ap (λ (l : Log g.row.D.Denot). l.broken) c.self.view_is ∙ c.requires in
    rw (← c.self.view_is) (twice_since d m d' laws laws-m laws' s.incarnation s.local_start s.closed.items s.active s.line s.flushed_end (c.self.invariant.has unbroken) c.reserve-2.ensures.content c.sync.ensures.content)

pub returns-in-Ok-clause-opens : goal.returns-in-Ok-clause-opens
returns-in-Ok-clause-opens g c =
    let s = c.self.inside in
    let d = g.D.Disk.content s.disk in
    let m = g.D.Disk.content c.reserve-2.new.self in
    let d' = g.D.Disk.content c.sync.new.self in
    let laws-m : Lawful m = g.met.D.Disk.lawful c.reserve-2.new.self in
    rw (← c.self.view_is) (twice_opens d m d' laws-m c.reserve-2.ensures.content c.sync.ensures.content)

pub returns-in-Err-clause-any_moment : goal.returns-in-Err-clause-any_moment
returns-in-Err-clause-any_moment g c =
    let s = c.self.inside in
    let d = g.D.Disk.content s.disk in
    let m = g.D.Disk.content c.reserve-2.new.self in
    let d' = g.D.Disk.content c.sync.new.self in
    let laws : Lawful d = g.met.D.Disk.lawful s.disk in
    let laws-m : Lawful m = g.met.D.Disk.lawful c.reserve-2.new.self in
    let laws' : Lawful d' = g.met.D.Disk.lawful c.sync.new.self in
    let unbroken : s.broken ≡ false = ap (λ (l : Log g.row.D.Denot). l.broken) c.self.view_is ∙ c.requires in
    rw (← c.self.view_is) (twice_since d m d' laws laws-m laws' s.incarnation s.local_start s.closed.items s.active s.line s.flushed_end (c.self.invariant.has unbroken) c.reserve-2.ensures.content c.sync.ensures.content)

pub returns-in-Err-clause-opens : goal.returns-in-Err-clause-opens
returns-in-Err-clause-opens g c =
    let s = c.self.inside in
    let d = g.D.Disk.content s.disk in
    let m = g.D.Disk.content c.reserve-2.new.self in
    let d' = g.D.Disk.content c.sync.new.self in
    let laws-m : Lawful m = g.met.D.Disk.lawful c.reserve-2.new.self in
    rw (← c.self.view_is) (twice_opens d m d' laws-m c.reserve-2.ensures.content c.sync.ensures.content)
