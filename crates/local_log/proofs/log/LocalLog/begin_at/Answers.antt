use Rattle.std.proofs.Common.{◌≡◌, ◌∙◌, ℕ, List, [], ◌∷◌, ◌++◌, false, sym, ap, subst, arith}
use Rattle.tier_base.specs.Device.{fate_of, fate_of_trouble, Went}
use Rattle.disk_model.specs.Content.{Lawful}
use Rattle.epoch_line.specs.Line.{IsLine}
use Rattle.log_manifest.specs.Spelling.{manifest_bytes}
use Rattle.segment_file.specs.Growing.{Grown}
use Rattle.local_log.specs.Log.{Log}
use Rattle.log_steps.proofs.Lists.{each_map}
use Rattle.local_log.specs.Stored.{end_of}
use Rattle.local_log.specs.Listing.{AreSegmentsOf, manifest_of}
use Rattle.local_log.specs.Inside.{DiskHasLog}
use Rattle.local_log.specs.Cutting.{names_of}
use Rattle.local_log.specs.Renewing.{Renews}
use Rattle.local_log.proofs.Refused.{not_broken}
use Rattle.local_log.proofs.Restarted.{fresh, fresh_are, restart_since, restart_as, restart_either, restart_reopens, restart_dry, restart_opens, restart_has}
use Rattle.local_log.proofs.log.LocalLog.begin_at.Goals as goal

pub invariant_of-self : goal.invariant_of-self
invariant_of-self g c =
    let s = c.self.inside in
    let L = c.args.line in
    let a = c.args.active in
    let d = g.D.Disk.content s.disk in
    let d' = g.D.Disk.content c.renew.new.disk in
    let laws : Lawful d = g.met.D.Disk.lawful s.disk in
    let laws' : Lawful d' = g.met.D.Disk.lawful c.renew.new.disk in
    let unbroken : s.broken ≡ false = ap (λ (l : Log g.row.D.Denot). l.broken) c.self.view_is ∙ c.requires.unbroken in
    let has = c.self.invariant.has unbroken in
    let interval_is = subst (λ (l : Log g.row.D.Denot). a ≡ record { base = a.base; interval = l.settings.index_interval; batches = [] }) (sym c.self.view_is) c.requires.fresh in
    let bytes_are : c.args.bytes.now ≡ manifest_bytes (manifest_of s.incarnation a.base [] (fresh a.base s.settings.index_interval) L) =
    subst (λ (l : Log g.row.D.Denot). c.args.bytes.now ≡ manifest_bytes (manifest_of l.incarnation a.base [] a L)) (sym c.self.view_is) c.requires.bytes
    ∙ ap (λ (x : Grown). manifest_bytes (manifest_of s.incarnation a.base [] x L)) interval_is in
    let named = subst (λ (gs : List Grown). Renews c.args.bytes.now (names_of (gs ++ s.active ∷ [])) (fate_of c.renew.result) d d') c.deref.ensures.value c.renew.ensures.content in
    let change = subst (λ (b : List ℕ). Renews b (names_of (s.closed.items ++ s.active ∷ [])) (fate_of c.renew.result) d d') bytes_are named in
    let went : fate_of c.renew.result ≡ Went = ap fate_of c.in-Ok.is in
    let closed = c.clear.new.self.items in
    let start_is = c.base-start.ensures in
    let none_is = c.clear.ensures.items in
    let empty = ap (λ (x : Grown). end_of x) interval_is in
    let are = subst (λ (x : Grown). AreSegmentsOf a.base [] x) (sym interval_is) (fresh_are a.base s.settings.index_interval c.requires.low) in
    let log = subst (λ (x : Grown). DiskHasLog d' s.incarnation a.base [] x L a.base) (sym interval_is) (restart_has d laws s.incarnation s.local_start s.closed.items s.active s.line s.flushed_end has c.self.invariant.opened c.self.invariant.fits a.base s.settings.index_interval c.requires.low L c.requires.line c.requires.within d' laws' (fate_of c.renew.result) change went) in
    record {
      segments = subst (λ (n : ℕ). AreSegmentsOf n closed a) (sym start_is) (subst (λ (gs : List Grown). AreSegmentsOf a.base gs a) (sym none_is) are);
      settings = c.self.invariant.settings;
      opened = c.self.invariant.opened;
      fits = c.self.invariant.fits;
      line = c.requires.line;
      line_within = each_map (λ e le. omega (arith, le, empty)) L c.requires.within;
      flushed_end_within = omega (arith, start_is, empty);
      has = λ whole. subst (λ (n : ℕ). DiskHasLog d' s.incarnation n closed a L n) (sym start_is) (subst (λ (gs : List Grown). DiskHasLog d' s.incarnation a.base gs a L a.base) (sym none_is) log);
      reopens = restart_reopens d laws s.incarnation s.local_start s.closed.items s.active s.line s.flushed_end has c.self.invariant.opened c.self.invariant.fits a.base s.settings.index_interval c.requires.low L c.requires.line c.requires.within d' laws' (fate_of c.renew.result) change;
    }

pub invariant_of-self-in-Err-1 : goal.invariant_of-self-in-Err-1
invariant_of-self-in-Err-1 g c =
    let s = c.self.inside in
    let L = c.args.line in
    let a = c.args.active in
    let d = g.D.Disk.content s.disk in
    let d' = g.D.Disk.content c.renew.new.disk in
    let laws : Lawful d = g.met.D.Disk.lawful s.disk in
    let laws' : Lawful d' = g.met.D.Disk.lawful c.renew.new.disk in
    let unbroken : s.broken ≡ false = ap (λ (l : Log g.row.D.Denot). l.broken) c.self.view_is ∙ c.requires.unbroken in
    let has = c.self.invariant.has unbroken in
    let interval_is = subst (λ (l : Log g.row.D.Denot). a ≡ record { base = a.base; interval = l.settings.index_interval; batches = [] }) (sym c.self.view_is) c.requires.fresh in
    let bytes_are : c.args.bytes.now ≡ manifest_bytes (manifest_of s.incarnation a.base [] (fresh a.base s.settings.index_interval) L) =
    subst (λ (l : Log g.row.D.Denot). c.args.bytes.now ≡ manifest_bytes (manifest_of l.incarnation a.base [] a L)) (sym c.self.view_is) c.requires.bytes
    ∙ ap (λ (x : Grown). manifest_bytes (manifest_of s.incarnation a.base [] x L)) interval_is in
    let named = subst (λ (gs : List Grown). Renews c.args.bytes.now (names_of (gs ++ s.active ∷ [])) (fate_of c.renew.result) d d') c.deref.ensures.value c.renew.ensures.content in
    let change = subst (λ (b : List ℕ). Renews b (names_of (s.closed.items ++ s.active ∷ [])) (fate_of c.renew.result) d d') bytes_are named in
    let line_is : IsLine L = c.requires.line in
    record {
      segments = c.self.invariant.segments;
      settings = c.self.invariant.settings;
      opened = c.self.invariant.opened;
      fits = c.self.invariant.fits;
      line = c.self.invariant.line;
      line_within = c.self.invariant.line_within;
      flushed_end_within = c.self.invariant.flushed_end_within;
      has = λ whole. restart_dry d laws s.incarnation s.local_start s.closed.items s.active s.line s.flushed_end has c.self.invariant.opened c.self.invariant.fits a.base s.settings.index_interval c.requires.low L line_is c.requires.within d' laws' (fate_of c.renew.result) change (ap fate_of c.in-Err.is ∙ ap fate_of_trouble (not_broken c.in-Err.trouble c.refused.result c.refused.new.broken c.refused.ensures.fault whole));
      reopens = restart_reopens d laws s.incarnation s.local_start s.closed.items s.active s.line s.flushed_end has c.self.invariant.opened c.self.invariant.fits a.base s.settings.index_interval c.requires.low L line_is c.requires.within d' laws' (fate_of c.renew.result) change;
    }

pub returns-in-Ok-clause-durable : goal.returns-in-Ok-clause-durable
returns-in-Ok-clause-durable g c =
    let s = c.self.inside in
    let L = c.args.line in
    let a = c.args.active in
    let d = g.D.Disk.content s.disk in
    let d' = g.D.Disk.content c.renew.new.disk in
    let laws : Lawful d = g.met.D.Disk.lawful s.disk in
    let laws' : Lawful d' = g.met.D.Disk.lawful c.renew.new.disk in
    let unbroken : s.broken ≡ false = ap (λ (l : Log g.row.D.Denot). l.broken) c.self.view_is ∙ c.requires.unbroken in
    let has = c.self.invariant.has unbroken in
    let interval_is = subst (λ (l : Log g.row.D.Denot). a ≡ record { base = a.base; interval = l.settings.index_interval; batches = [] }) (sym c.self.view_is) c.requires.fresh in
    let bytes_are : c.args.bytes.now ≡ manifest_bytes (manifest_of s.incarnation a.base [] (fresh a.base s.settings.index_interval) L) =
    subst (λ (l : Log g.row.D.Denot). c.args.bytes.now ≡ manifest_bytes (manifest_of l.incarnation a.base [] a L)) (sym c.self.view_is) c.requires.bytes
    ∙ ap (λ (x : Grown). manifest_bytes (manifest_of s.incarnation a.base [] x L)) interval_is in
    let named = subst (λ (gs : List Grown). Renews c.args.bytes.now (names_of (gs ++ s.active ∷ [])) (fate_of c.renew.result) d d') c.deref.ensures.value c.renew.ensures.content in
    let change = subst (λ (b : List ℕ). Renews b (names_of (s.closed.items ++ s.active ∷ [])) (fate_of c.renew.result) d d') bytes_are named in
    let went : fate_of c.renew.result ≡ Went = ap fate_of c.in-Ok.is in
    let line_is : IsLine L = c.requires.line in
    rw (← c.self.view_is) (restart_opens d laws s.incarnation s.local_start s.closed.items s.active s.line s.flushed_end has c.self.invariant.opened c.self.invariant.fits a.base s.settings.index_interval c.requires.low L line_is c.requires.within d' laws' (fate_of c.renew.result) change went)

pub returns-in-Ok-clause-any_moment : goal.returns-in-Ok-clause-any_moment
returns-in-Ok-clause-any_moment g c =
    let s = c.self.inside in
    let L = c.args.line in
    let a = c.args.active in
    let d = g.D.Disk.content s.disk in
    let d' = g.D.Disk.content c.renew.new.disk in
    let laws : Lawful d = g.met.D.Disk.lawful s.disk in
    let laws' : Lawful d' = g.met.D.Disk.lawful c.renew.new.disk in
    let unbroken : s.broken ≡ false = ap (λ (l : Log g.row.D.Denot). l.broken) c.self.view_is ∙ c.requires.unbroken in
    let has = c.self.invariant.has unbroken in
    let interval_is = subst (λ (l : Log g.row.D.Denot). a ≡ record { base = a.base; interval = l.settings.index_interval; batches = [] }) (sym c.self.view_is) c.requires.fresh in
    let bytes_are : c.args.bytes.now ≡ manifest_bytes (manifest_of s.incarnation a.base [] (fresh a.base s.settings.index_interval) L) =
    subst (λ (l : Log g.row.D.Denot). c.args.bytes.now ≡ manifest_bytes (manifest_of l.incarnation a.base [] a L)) (sym c.self.view_is) c.requires.bytes
    ∙ ap (λ (x : Grown). manifest_bytes (manifest_of s.incarnation a.base [] x L)) interval_is in
    let named = subst (λ (gs : List Grown). Renews c.args.bytes.now (names_of (gs ++ s.active ∷ [])) (fate_of c.renew.result) d d') c.deref.ensures.value c.renew.ensures.content in
    let change = subst (λ (b : List ℕ). Renews b (names_of (s.closed.items ++ s.active ∷ [])) (fate_of c.renew.result) d d') bytes_are named in
    let line_is : IsLine L = c.requires.line in
    rw (← c.self.view_is) (restart_since d laws s.incarnation s.local_start s.closed.items s.active s.line s.flushed_end has c.self.invariant.opened c.self.invariant.fits a.base s.settings.index_interval c.requires.low L line_is c.requires.within d' laws' (fate_of c.renew.result) change)

pub returns-in-Ok-clause-opens : goal.returns-in-Ok-clause-opens
returns-in-Ok-clause-opens g c =
    let s = c.self.inside in
    let L = c.args.line in
    let a = c.args.active in
    let d = g.D.Disk.content s.disk in
    let d' = g.D.Disk.content c.renew.new.disk in
    let laws : Lawful d = g.met.D.Disk.lawful s.disk in
    let laws' : Lawful d' = g.met.D.Disk.lawful c.renew.new.disk in
    let unbroken : s.broken ≡ false = ap (λ (l : Log g.row.D.Denot). l.broken) c.self.view_is ∙ c.requires.unbroken in
    let has = c.self.invariant.has unbroken in
    let interval_is = subst (λ (l : Log g.row.D.Denot). a ≡ record { base = a.base; interval = l.settings.index_interval; batches = [] }) (sym c.self.view_is) c.requires.fresh in
    let bytes_are : c.args.bytes.now ≡ manifest_bytes (manifest_of s.incarnation a.base [] (fresh a.base s.settings.index_interval) L) =
    subst (λ (l : Log g.row.D.Denot). c.args.bytes.now ≡ manifest_bytes (manifest_of l.incarnation a.base [] a L)) (sym c.self.view_is) c.requires.bytes
    ∙ ap (λ (x : Grown). manifest_bytes (manifest_of s.incarnation a.base [] x L)) interval_is in
    let named = subst (λ (gs : List Grown). Renews c.args.bytes.now (names_of (gs ++ s.active ∷ [])) (fate_of c.renew.result) d d') c.deref.ensures.value c.renew.ensures.content in
    let change = subst (λ (b : List ℕ). Renews b (names_of (s.closed.items ++ s.active ∷ [])) (fate_of c.renew.result) d d') bytes_are named in
    let line_is : IsLine L = c.requires.line in
    rw (← c.self.view_is) (restart_as d laws s.incarnation s.local_start s.closed.items s.active s.line s.flushed_end has c.self.invariant.opened c.self.invariant.fits a.base s.settings.index_interval c.requires.low L line_is c.requires.within d' laws' (fate_of c.renew.result) change)

pub returns-in-Ok-clause-is_observable : goal.returns-in-Ok-clause-is_observable
returns-in-Ok-clause-is_observable g c = rw (← c.self.view_is) c.renew.ensures.content.is_observable

pub returns-in-Err-clause-any_moment : goal.returns-in-Err-clause-any_moment
returns-in-Err-clause-any_moment g c =
    let s = c.self.inside in
    let L = c.args.line in
    let a = c.args.active in
    let d = g.D.Disk.content s.disk in
    let d' = g.D.Disk.content c.renew.new.disk in
    let laws : Lawful d = g.met.D.Disk.lawful s.disk in
    let laws' : Lawful d' = g.met.D.Disk.lawful c.renew.new.disk in
    let unbroken : s.broken ≡ false = ap (λ (l : Log g.row.D.Denot). l.broken) c.self.view_is ∙ c.requires.unbroken in
    let has = c.self.invariant.has unbroken in
    let interval_is = subst (λ (l : Log g.row.D.Denot). a ≡ record { base = a.base; interval = l.settings.index_interval; batches = [] }) (sym c.self.view_is) c.requires.fresh in
    let bytes_are : c.args.bytes.now ≡ manifest_bytes (manifest_of s.incarnation a.base [] (fresh a.base s.settings.index_interval) L) =
    subst (λ (l : Log g.row.D.Denot). c.args.bytes.now ≡ manifest_bytes (manifest_of l.incarnation a.base [] a L)) (sym c.self.view_is) c.requires.bytes
    ∙ ap (λ (x : Grown). manifest_bytes (manifest_of s.incarnation a.base [] x L)) interval_is in
    let named = subst (λ (gs : List Grown). Renews c.args.bytes.now (names_of (gs ++ s.active ∷ [])) (fate_of c.renew.result) d d') c.deref.ensures.value c.renew.ensures.content in
    let change = subst (λ (b : List ℕ). Renews b (names_of (s.closed.items ++ s.active ∷ [])) (fate_of c.renew.result) d d') bytes_are named in
    let line_is : IsLine L = c.requires.line in
    rw (← c.self.view_is) (restart_since d laws s.incarnation s.local_start s.closed.items s.active s.line s.flushed_end has c.self.invariant.opened c.self.invariant.fits a.base s.settings.index_interval c.requires.low L line_is c.requires.within d' laws' (fate_of c.renew.result) change)

pub returns-in-Err-clause-opens : goal.returns-in-Err-clause-opens
returns-in-Err-clause-opens g c =
    let s = c.self.inside in
    let L = c.args.line in
    let a = c.args.active in
    let d = g.D.Disk.content s.disk in
    let d' = g.D.Disk.content c.renew.new.disk in
    let laws : Lawful d = g.met.D.Disk.lawful s.disk in
    let laws' : Lawful d' = g.met.D.Disk.lawful c.renew.new.disk in
    let unbroken : s.broken ≡ false = ap (λ (l : Log g.row.D.Denot). l.broken) c.self.view_is ∙ c.requires.unbroken in
    let has = c.self.invariant.has unbroken in
    let interval_is = subst (λ (l : Log g.row.D.Denot). a ≡ record { base = a.base; interval = l.settings.index_interval; batches = [] }) (sym c.self.view_is) c.requires.fresh in
    let bytes_are : c.args.bytes.now ≡ manifest_bytes (manifest_of s.incarnation a.base [] (fresh a.base s.settings.index_interval) L) =
    subst (λ (l : Log g.row.D.Denot). c.args.bytes.now ≡ manifest_bytes (manifest_of l.incarnation a.base [] a L)) (sym c.self.view_is) c.requires.bytes
    ∙ ap (λ (x : Grown). manifest_bytes (manifest_of s.incarnation a.base [] x L)) interval_is in
    let named = subst (λ (gs : List Grown). Renews c.args.bytes.now (names_of (gs ++ s.active ∷ [])) (fate_of c.renew.result) d d') c.deref.ensures.value c.renew.ensures.content in
    let change = subst (λ (b : List ℕ). Renews b (names_of (s.closed.items ++ s.active ∷ [])) (fate_of c.renew.result) d d') bytes_are named in
    let line_is : IsLine L = c.requires.line in
    rw (← c.self.view_is) (restart_as d laws s.incarnation s.local_start s.closed.items s.active s.line s.flushed_end has c.self.invariant.opened c.self.invariant.fits a.base s.settings.index_interval c.requires.low L line_is c.requires.within d' laws' (fate_of c.renew.result) change)

pub returns-in-Err-clause-is_observable : goal.returns-in-Err-clause-is_observable
returns-in-Err-clause-is_observable g c = rw (← c.self.view_is) c.renew.ensures.content.is_observable

pub returns-in-Ok-clause-either : goal.returns-in-Ok-clause-either
returns-in-Ok-clause-either g c =
    let s = c.self.inside in
    let L = c.args.line in
    let a = c.args.active in
    let d = g.D.Disk.content s.disk in
    let d' = g.D.Disk.content c.renew.new.disk in
    let laws : Lawful d = g.met.D.Disk.lawful s.disk in
    let laws' : Lawful d' = g.met.D.Disk.lawful c.renew.new.disk in
    let unbroken : s.broken ≡ false = ap (λ (l : Log g.row.D.Denot). l.broken) c.self.view_is ∙ c.requires.unbroken in
    let has = c.self.invariant.has unbroken in
    let interval_is = subst (λ (l : Log g.row.D.Denot). a ≡ record { base = a.base; interval = l.settings.index_interval; batches = [] }) (sym c.self.view_is) c.requires.fresh in
    let bytes_are : c.args.bytes.now ≡ manifest_bytes (manifest_of s.incarnation a.base [] (fresh a.base s.settings.index_interval) L) =
    subst (λ (l : Log g.row.D.Denot). c.args.bytes.now ≡ manifest_bytes (manifest_of l.incarnation a.base [] a L)) (sym c.self.view_is) c.requires.bytes
    ∙ ap (λ (x : Grown). manifest_bytes (manifest_of s.incarnation a.base [] x L)) interval_is in
    let named = subst (λ (gs : List Grown). Renews c.args.bytes.now (names_of (gs ++ s.active ∷ [])) (fate_of c.renew.result) d d') c.deref.ensures.value c.renew.ensures.content in
    let change = subst (λ (b : List ℕ). Renews b (names_of (s.closed.items ++ s.active ∷ [])) (fate_of c.renew.result) d d') bytes_are named in
    let line_is : IsLine L = c.requires.line in
    rw (← c.self.view_is) (restart_either d laws s.incarnation s.local_start s.closed.items s.active s.line s.flushed_end has c.self.invariant.opened c.self.invariant.fits a.base s.settings.index_interval c.requires.low L line_is c.requires.within d' laws' (fate_of c.renew.result) change)

pub returns-in-Err-clause-either : goal.returns-in-Err-clause-either
returns-in-Err-clause-either g c =
    let s = c.self.inside in
    let L = c.args.line in
    let a = c.args.active in
    let d = g.D.Disk.content s.disk in
    let d' = g.D.Disk.content c.renew.new.disk in
    let laws : Lawful d = g.met.D.Disk.lawful s.disk in
    let laws' : Lawful d' = g.met.D.Disk.lawful c.renew.new.disk in
    let unbroken : s.broken ≡ false = ap (λ (l : Log g.row.D.Denot). l.broken) c.self.view_is ∙ c.requires.unbroken in
    let has = c.self.invariant.has unbroken in
    let interval_is = subst (λ (l : Log g.row.D.Denot). a ≡ record { base = a.base; interval = l.settings.index_interval; batches = [] }) (sym c.self.view_is) c.requires.fresh in
    let bytes_are : c.args.bytes.now ≡ manifest_bytes (manifest_of s.incarnation a.base [] (fresh a.base s.settings.index_interval) L) =
    subst (λ (l : Log g.row.D.Denot). c.args.bytes.now ≡ manifest_bytes (manifest_of l.incarnation a.base [] a L)) (sym c.self.view_is) c.requires.bytes
    ∙ ap (λ (x : Grown). manifest_bytes (manifest_of s.incarnation a.base [] x L)) interval_is in
    let named = subst (λ (gs : List Grown). Renews c.args.bytes.now (names_of (gs ++ s.active ∷ [])) (fate_of c.renew.result) d d') c.deref.ensures.value c.renew.ensures.content in
    let change = subst (λ (b : List ℕ). Renews b (names_of (s.closed.items ++ s.active ∷ [])) (fate_of c.renew.result) d d') bytes_are named in
    let line_is : IsLine L = c.requires.line in
    rw (← c.self.view_is) (restart_either d laws s.incarnation s.local_start s.closed.items s.active s.line s.flushed_end has c.self.invariant.opened c.self.invariant.fits a.base s.settings.index_interval c.requires.low L line_is c.requires.within d' laws' (fate_of c.renew.result) change)
