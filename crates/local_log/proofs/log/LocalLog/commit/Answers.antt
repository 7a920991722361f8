use Rattle.std.proofs.Common.{◌≡◌, ◌∙◌, ◌≤◌, ℕ, List, true, false, refl, sym, ap, subst, arith}
use Rattle.tier_base.specs.declared.plain.FileName.TheVariants as file
use Rattle.tier_base.specs.Device.{fate_of, fate_of_trouble, Went}
use Rattle.disk_model.specs.Content.{Lawful}
use Rattle.log_manifest.specs.Spelling.{manifest_bytes}
use Rattle.log_steps.specs.Publishes.{Publishes}
use Rattle.epoch_line.specs.Line.{cut_end}
use Rattle.segment_file.specs.Growing.{Grown}
use Rattle.local_log.specs.Log.{Log}
use Rattle.local_log.specs.Inside.{DiskHasLog}
use Rattle.log_steps.specs.Fronts.{Each}
use Rattle.local_log.specs.Listing.{manifest_of}
use Rattle.local_log.specs.Stored.{end_of}
use Rattle.local_log.proofs.Refused.{not_broken, breaks}
use Rattle.local_log.proofs.Committed.{room_has, room_since, room_reopens, commit_since, commit_as, commit_tells, commit_batches, commit_has, commit_dry, commit_reopens, commit_opens}
use Rattle.local_log.proofs.Retold.{kept_or}
use Rattle.local_log.proofs.Sides.{kept_either, either_published}
use Rattle.local_log.proofs.log.LocalLog.commit.Goals as goal

pub invariant_of-self : goal.invariant_of-self
invariant_of-self g c =
    let s = c.self.inside in
    let d = g.D.Disk.content s.disk in
    let m = g.D.Disk.content c.reserve.new.self in
    let laws : Lawful d = g.met.D.Disk.lawful s.disk in
    let laws-m : Lawful m = g.met.D.Disk.lawful c.reserve.new.self in
    let unbroken : s.broken ≡ false = ap (λ (l : Log g.row.D.Denot). l.broken) c.self.view_is ∙ c.requires.unbroken in
    let has = c.self.invariant.has unbroken in
    record {
      segments = c.self.invariant.segments;
      settings = c.self.invariant.settings;
      opened = c.self.invariant.opened;
      fits = c.self.invariant.fits;
      line = c.self.invariant.line;
      line_within = c.self.invariant.line_within;
      flushed_end_within = c.self.invariant.flushed_end_within;
      has = λ whole. room_has d m laws laws-m s.incarnation s.local_start s.closed.items s.active s.line s.flushed_end has c.reserve.ensures.content;
      reopens = room_reopens d m laws laws-m s.incarnation s.local_start s.closed.items s.active s.line s.flushed_end has c.reserve.ensures.content;
    }

pub returns-in_err-reserve-clause-any_moment : goal.returns-in_err-reserve-clause-any_moment
returns-in_err-reserve-clause-any_moment g c =
    let s = c.self.inside in
    let d = g.D.Disk.content s.disk in
    let m = g.D.Disk.content c.reserve.new.self in
    let laws : Lawful d = g.met.D.Disk.lawful s.disk in
    let laws-m : Lawful m = g.met.D.Disk.lawful c.reserve.new.self in
    let unbroken : s.broken ≡ false = ap (λ (l : Log g.row.D.Denot). l.broken) c.self.view_is ∙ c.requires.unbroken in
    let has = c.self.invariant.has unbroken in
    rw (← c.self.view_is) (room_since d m laws laws-m s.incarnation s.local_start s.closed.items s.active s.line s.flushed_end has c.reserve.ensures.content c.args.line)

pub returns-in_err-reserve-clause-opens : goal.returns-in_err-reserve-clause-opens
returns-in_err-reserve-clause-opens g c =
    let s = c.self.inside in
    let d = g.D.Disk.content s.disk in
    let m = g.D.Disk.content c.reserve.new.self in
    rw (← c.self.view_is) (kept_or d m _ c.reserve.ensures.content)

pub invariant_of-self-in_err-bytes : goal.invariant_of-self-in_err-bytes
invariant_of-self-in_err-bytes g c =
    let s = c.self.inside in
    let d = g.D.Disk.content s.disk in
    let m = g.D.Disk.content c.reserve.new.self in
    let laws : Lawful d = g.met.D.Disk.lawful s.disk in
    let laws-m : Lawful m = g.met.D.Disk.lawful c.reserve.new.self in
    let unbroken : s.broken ≡ false = ap (λ (l : Log g.row.D.Denot). l.broken) c.self.view_is ∙ c.requires.unbroken in
    let has = c.self.invariant.has unbroken in
    record {
      segments = c.self.invariant.segments;
      settings = c.self.invariant.settings;
      opened = c.self.invariant.opened;
      fits = c.self.invariant.fits;
      line = c.self.invariant.line;
      line_within = c.self.invariant.line_within;
      flushed_end_within = c.self.invariant.flushed_end_within;
      has = λ whole. room_has d m laws laws-m s.incarnation s.local_start s.closed.items s.active s.line s.flushed_end has c.reserve.ensures.content;
      reopens = room_reopens d m laws laws-m s.incarnation s.local_start s.closed.items s.active s.line s.flushed_end has c.reserve.ensures.content;
    }

pub returns-in_err-bytes-clause-any_moment : goal.returns-in_err-bytes-clause-any_moment
returns-in_err-bytes-clause-any_moment g c =
    let s = c.self.inside in
    let d = g.D.Disk.content s.disk in
    let m = g.D.Disk.content c.reserve.new.self in
    let laws : Lawful d = g.met.D.Disk.lawful s.disk in
    let laws-m : Lawful m = g.met.D.Disk.lawful c.reserve.new.self in
    let unbroken : s.broken ≡ false = ap (λ (l : Log g.row.D.Denot). l.broken) c.self.view_is ∙ c.requires.unbroken in
    let has = c.self.invariant.has unbroken in
    rw (← c.self.view_is) (room_since d m laws laws-m s.incarnation s.local_start s.closed.items s.active s.line s.flushed_end has c.reserve.ensures.content c.args.line)

pub returns-in_err-bytes-clause-opens : goal.returns-in_err-bytes-clause-opens
returns-in_err-bytes-clause-opens g c =
    let s = c.self.inside in
    let d = g.D.Disk.content s.disk in
    let m = g.D.Disk.content c.reserve.new.self in
    rw (← c.self.view_is) (kept_or d m _ c.reserve.ensures.content)

pub invariant_of-self-in-Ok-1 : goal.invariant_of-self-in-Ok-1
invariant_of-self-in-Ok-1 g c =
    let s = c.self.inside in
    let d = g.D.Disk.content s.disk in
    let m = g.D.Disk.content c.reserve.new.self in
    let laws : Lawful d = g.met.D.Disk.lawful s.disk in
    let laws-m : Lawful m = g.met.D.Disk.lawful c.reserve.new.self in
    let unbroken : s.broken ≡ false = ap (λ (l : Log g.row.D.Denot). l.broken) c.self.view_is ∙ c.requires.unbroken in
    let has = c.self.invariant.has unbroken in
    let d' = g.D.Disk.content c.publish.new.disk in
    let laws' : Lawful d' = g.met.D.Disk.lawful c.publish.new.disk in
    let end_is : end_of s.active ≡ c.args.self.now.end = ap (λ (l : Log g.row.D.Denot). l.end) c.self.view_is in
    let line_is : s.line ≡ c.args.self.now.line = ap (λ (l : Log g.row.D.Denot). l.line) c.self.view_is in
    let same_line : cut_end c.args.line (end_of s.active) ≡ cut_end s.line (end_of s.active) = rw (end_is, line_is) c.requires.same in
    let bytes_are = c.deref-2.ensures.value ∙ c.in_ok-bytes.ensures ∙ ap (λ (l : List Grown). manifest_bytes (manifest_of s.incarnation s.local_start l s.active c.args.line)) c.deref.ensures.value in
    let named = subst (λ (b : ℕ). Publishes (file.Log b) c.deref-2.result.now (fate_of c.publish.result) m d') c.base.ensures c.publish.ensures.content in
    let change = subst (λ (b : List ℕ). Publishes (file.Log s.active.base) b (fate_of c.publish.result) m d') bytes_are named in
    let went : fate_of c.publish.result ≡ Went = ap fate_of c.in-Ok.is in
    record {
      segments = c.self.invariant.segments;
      settings = c.self.invariant.settings;
      opened = c.self.invariant.opened;
      fits = c.self.invariant.fits;
      line = c.requires.line;
      line_within = subst (λ (n : ℕ). Each (λ (e : ℕ × ℕ). e.1 ≤ n) c.args.line) (sym end_is) c.requires.within;
      flushed_end_within = omega (arith, c.end-self-inside.ensures);
      has = λ whole. subst (DiskHasLog d' s.incarnation s.local_start s.closed.items s.active c.args.line) (sym c.end-self-inside.ensures) (commit_has d m laws laws-m s.incarnation s.local_start s.closed.items s.active s.line s.flushed_end has c.reserve.ensures.content d' laws' c.self.invariant.segments c.self.invariant.opened c.self.invariant.fits c.args.line c.self.invariant.line c.requires.line same_line (fate_of c.publish.result) change went);
      reopens = commit_reopens d m laws laws-m s.incarnation s.local_start s.closed.items s.active s.line s.flushed_end has c.reserve.ensures.content d' laws' c.self.invariant.segments c.self.invariant.opened c.self.invariant.fits c.args.line c.self.invariant.line c.requires.line same_line (fate_of c.publish.result) change;
    }

pub invariant_of-self-in-Err-1 : goal.invariant_of-self-in-Err-1
invariant_of-self-in-Err-1 g c =
    let s = c.self.inside in
    let d = g.D.Disk.content s.disk in
    let m = g.D.Disk.content c.reserve.new.self in
    let laws : Lawful d = g.met.D.Disk.lawful s.disk in
    let laws-m : Lawful m = g.met.D.Disk.lawful c.reserve.new.self in
    let unbroken : s.broken ≡ false = ap (λ (l : Log g.row.D.Denot). l.broken) c.self.view_is ∙ c.requires.unbroken in
    let has = c.self.invariant.has unbroken in
    let d' = g.D.Disk.content c.publish.new.disk in
    let laws' : Lawful d' = g.met.D.Disk.lawful c.publish.new.disk in
    let end_is : end_of s.active ≡ c.args.self.now.end = ap (λ (l : Log g.row.D.Denot). l.end) c.self.view_is in
    let line_is : s.line ≡ c.args.self.now.line = ap (λ (l : Log g.row.D.Denot). l.line) c.self.view_is in
    let same_line : cut_end c.args.line (end_of s.active) ≡ cut_end s.line (end_of s.active) = rw (end_is, line_is) c.requires.same in
    let bytes_are = c.deref-2.ensures.value ∙ c.in_ok-bytes.ensures ∙ ap (λ (l : List Grown). manifest_bytes (manifest_of s.incarnation s.local_start l s.active c.args.line)) c.deref.ensures.value in
    let named = subst (λ (b : ℕ). Publishes (file.Log b) c.deref-2.result.now (fate_of c.publish.result) m d') c.base.ensures c.publish.ensures.content in
    let change = subst (λ (b : List ℕ). Publishes (file.Log s.active.base) b (fate_of c.publish.result) m d') bytes_are named in
    record {
      segments = c.self.invariant.segments;
      settings = c.self.invariant.settings;
      opened = c.self.invariant.opened;
      fits = c.self.invariant.fits;
      line = c.self.invariant.line;
      line_within = c.self.invariant.line_within;
      flushed_end_within = c.self.invariant.flushed_end_within;
      has = λ whole. commit_dry d m laws laws-m s.incarnation s.local_start s.closed.items s.active s.line s.flushed_end has c.reserve.ensures.content d' laws' c.self.invariant.segments c.self.invariant.opened c.self.invariant.fits c.args.line c.self.invariant.line c.requires.line same_line (fate_of c.publish.result) change (ap fate_of c.in-Err.is ∙ ap fate_of_trouble (not_broken c.in-Err.trouble c.refused.result c.refused.new.broken c.refused.ensures.fault whole));
      reopens = commit_reopens d m laws laws-m s.incarnation s.local_start s.closed.items s.active s.line s.flushed_end has c.reserve.ensures.content d' laws' c.self.invariant.segments c.self.invariant.opened c.self.invariant.fits c.args.line c.self.invariant.line c.requires.line same_line (fate_of c.publish.result) change;
    }

pub returns-in-Ok-clause-ok : goal.returns-in-Ok-clause-ok
returns-in-Ok-clause-ok g c =
    let s = c.self.inside in
    let d = g.D.Disk.content s.disk in
    let m = g.D.Disk.content c.reserve.new.self in
    let laws : Lawful d = g.met.D.Disk.lawful s.disk in
    let laws-m : Lawful m = g.met.D.Disk.lawful c.reserve.new.self in
    let unbroken : s.broken ≡ false = ap (λ (l : Log g.row.D.Denot). l.broken) c.self.view_is ∙ c.requires.unbroken in
    let has = c.self.invariant.has unbroken in
    let d' = g.D.Disk.content c.publish.new.disk in
    let laws' : Lawful d' = g.met.D.Disk.lawful c.publish.new.disk in
    let end_is : end_of s.active ≡ c.args.self.now.end = ap (λ (l : Log g.row.D.Denot). l.end) c.self.view_is in
    let line_is : s.line ≡ c.args.self.now.line = ap (λ (l : Log g.row.D.Denot). l.line) c.self.view_is in
    let same_line : cut_end c.args.line (end_of s.active) ≡ cut_end s.line (end_of s.active) = rw (end_is, line_is) c.requires.same in
    let bytes_are = c.deref-2.ensures.value ∙ c.in_ok-bytes.ensures ∙ ap (λ (l : List Grown). manifest_bytes (manifest_of s.incarnation s.local_start l s.active c.args.line)) c.deref.ensures.value in
    let named = subst (λ (b : ℕ). Publishes (file.Log b) c.deref-2.result.now (fate_of c.publish.result) m d') c.base.ensures c.publish.ensures.content in
    let change = subst (λ (b : List ℕ). Publishes (file.Log s.active.base) b (fate_of c.publish.result) m d') bytes_are named in
    rw (← c.self.view_is) (record {
      fields = rw c.end-self-inside.ensures refl;
      is_observable = commit_tells d m laws laws-m s.incarnation s.local_start s.closed.items s.active s.line s.flushed_end has c.reserve.ensures.content d' laws' c.self.invariant.segments c.self.invariant.opened c.self.invariant.fits c.args.line c.self.invariant.line c.requires.line same_line (fate_of c.publish.result) change;
      batches = commit_batches d m laws laws-m s.incarnation s.local_start s.closed.items s.active s.line s.flushed_end has c.reserve.ensures.content d' laws' c.self.invariant.segments c.self.invariant.opened c.self.invariant.fits c.args.line c.self.invariant.line c.requires.line same_line (fate_of c.publish.result) change;
    })

pub returns-in-Ok-clause-durable : goal.returns-in-Ok-clause-durable
returns-in-Ok-clause-durable g c =
    let s = c.self.inside in
    let d = g.D.Disk.content s.disk in
    let m = g.D.Disk.content c.reserve.new.self in
    let laws : Lawful d = g.met.D.Disk.lawful s.disk in
    let laws-m : Lawful m = g.met.D.Disk.lawful c.reserve.new.self in
    let unbroken : s.broken ≡ false = ap (λ (l : Log g.row.D.Denot). l.broken) c.self.view_is ∙ c.requires.unbroken in
    let has = c.self.invariant.has unbroken in
    let d' = g.D.Disk.content c.publish.new.disk in
    let laws' : Lawful d' = g.met.D.Disk.lawful c.publish.new.disk in
    let end_is : end_of s.active ≡ c.args.self.now.end = ap (λ (l : Log g.row.D.Denot). l.end) c.self.view_is in
    let line_is : s.line ≡ c.args.self.now.line = ap (λ (l : Log g.row.D.Denot). l.line) c.self.view_is in
    let same_line : cut_end c.args.line (end_of s.active) ≡ cut_end s.line (end_of s.active) = rw (end_is, line_is) c.requires.same in
    let bytes_are = c.deref-2.ensures.value ∙ c.in_ok-bytes.ensures ∙ ap (λ (l : List Grown). manifest_bytes (manifest_of s.incarnation s.local_start l s.active c.args.line)) c.deref.ensures.value in
    let named = subst (λ (b : ℕ). Publishes (file.Log b) c.deref-2.result.now (fate_of c.publish.result) m d') c.base.ensures c.publish.ensures.content in
    let change = subst (λ (b : List ℕ). Publishes (file.Log s.active.base) b (fate_of c.publish.result) m d') bytes_are named in
    let went : fate_of c.publish.result ≡ Went = ap fate_of c.in-Ok.is in
    λ f now. rw c.end-self-inside.ensures (commit_opens d m laws laws-m s.incarnation s.local_start s.closed.items s.active s.line s.flushed_end has c.reserve.ensures.content d' laws' c.self.invariant.segments c.self.invariant.opened c.self.invariant.fits c.args.line c.self.invariant.line c.requires.line same_line (fate_of c.publish.result) change went f now)

pub returns-in-Ok-clause-any_moment : goal.returns-in-Ok-clause-any_moment
returns-in-Ok-clause-any_moment g c =
    let s = c.self.inside in
    let d = g.D.Disk.content s.disk in
    let m = g.D.Disk.content c.reserve.new.self in
    let laws : Lawful d = g.met.D.Disk.lawful s.disk in
    let laws-m : Lawful m = g.met.D.Disk.lawful c.reserve.new.self in
    let unbroken : s.broken ≡ false = ap (λ (l : Log g.row.D.Denot). l.broken) c.self.view_is ∙ c.requires.unbroken in
    let has = c.self.invariant.has unbroken in
    let d' = g.D.Disk.content c.publish.new.disk in
    let laws' : Lawful d' = g.met.D.Disk.lawful c.publish.new.disk in
    let end_is : end_of s.active ≡ c.args.self.now.end = ap (λ (l : Log g.row.D.Denot). l.end) c.self.view_is in
    let line_is : s.line ≡ c.args.self.now.line = ap (λ (l : Log g.row.D.Denot). l.line) c.self.view_is in
    let same_line : cut_end c.args.line (end_of s.active) ≡ cut_end s.line (end_of s.active) = rw (end_is, line_is) c.requires.same in
    let bytes_are = c.deref-2.ensures.value ∙ c.in_ok-bytes.ensures ∙ ap (λ (l : List Grown). manifest_bytes (manifest_of s.incarnation s.local_start l s.active c.args.line)) c.deref.ensures.value in
    let named = subst (λ (b : ℕ). Publishes (file.Log b) c.deref-2.result.now (fate_of c.publish.result) m d') c.base.ensures c.publish.ensures.content in
    let change = subst (λ (b : List ℕ). Publishes (file.Log s.active.base) b (fate_of c.publish.result) m d') bytes_are named in
    rw (← c.self.view_is) (commit_since d m laws laws-m s.incarnation s.local_start s.closed.items s.active s.line s.flushed_end has c.reserve.ensures.content d' laws' c.self.invariant.segments c.self.invariant.opened c.self.invariant.fits c.args.line c.self.invariant.line c.requires.line same_line (fate_of c.publish.result) change)

pub returns-in-Ok-clause-opens : goal.returns-in-Ok-clause-opens
returns-in-Ok-clause-opens g c =
    let s = c.self.inside in
    let d = g.D.Disk.content s.disk in
    let m = g.D.Disk.content c.reserve.new.self in
    let laws : Lawful d = g.met.D.Disk.lawful s.disk in
    let laws-m : Lawful m = g.met.D.Disk.lawful c.reserve.new.self in
    let unbroken : s.broken ≡ false = ap (λ (l : Log g.row.D.Denot). l.broken) c.self.view_is ∙ c.requires.unbroken in
    let has = c.self.invariant.has unbroken in
    let d' = g.D.Disk.content c.publish.new.disk in
    let laws' : Lawful d' = g.met.D.Disk.lawful c.publish.new.disk in
    let end_is : end_of s.active ≡ c.args.self.now.end = ap (λ (l : Log g.row.D.Denot). l.end) c.self.view_is in
    let line_is : s.line ≡ c.args.self.now.line = ap (λ (l : Log g.row.D.Denot). l.line) c.self.view_is in
    let same_line : cut_end c.args.line (end_of s.active) ≡ cut_end s.line (end_of s.active) = rw (end_is, line_is) c.requires.same in
    let bytes_are = c.deref-2.ensures.value ∙ c.in_ok-bytes.ensures ∙ ap (λ (l : List Grown). manifest_bytes (manifest_of s.incarnation s.local_start l s.active c.args.line)) c.deref.ensures.value in
    let named = subst (λ (b : ℕ). Publishes (file.Log b) c.deref-2.result.now (fate_of c.publish.result) m d') c.base.ensures c.publish.ensures.content in
    let change = subst (λ (b : List ℕ). Publishes (file.Log s.active.base) b (fate_of c.publish.result) m d') bytes_are named in
    rw (← c.self.view_is) (commit_as d m laws laws-m s.incarnation s.local_start s.closed.items s.active s.line s.flushed_end has c.reserve.ensures.content d' laws' c.self.invariant.segments c.self.invariant.opened c.self.invariant.fits c.args.line c.self.invariant.line c.requires.line same_line (fate_of c.publish.result) change)

pub returns-in-Err-clause-any_moment : goal.returns-in-Err-clause-any_moment
returns-in-Err-clause-any_moment g c =
    let s = c.self.inside in
    let d = g.D.Disk.content s.disk in
    let m = g.D.Disk.content c.reserve.new.self in
    let laws : Lawful d = g.met.D.Disk.lawful s.disk in
    let laws-m : Lawful m = g.met.D.Disk.lawful c.reserve.new.self in
    let unbroken : s.broken ≡ false = ap (λ (l : Log g.row.D.Denot). l.broken) c.self.view_is ∙ c.requires.unbroken in
    let has = c.self.invariant.has unbroken in
    let d' = g.D.Disk.content c.publish.new.disk in
    let laws' : Lawful d' = g.met.D.Disk.lawful c.publish.new.disk in
    let end_is : end_of s.active ≡ c.args.self.now.end = ap (λ (l : Log g.row.D.Denot). l.end) c.self.view_is in
    let line_is : s.line ≡ c.args.self.now.line = ap (λ (l : Log g.row.D.Denot). l.line) c.self.view_is in
    let same_line : cut_end c.args.line (end_of s.active) ≡ cut_end s.line (end_of s.active) = rw (end_is, line_is) c.requires.same in
    let bytes_are = c.deref-2.ensures.value ∙ c.in_ok-bytes.ensures ∙ ap (λ (l : List Grown). manifest_bytes (manifest_of s.incarnation s.local_start l s.active c.args.line)) c.deref.ensures.value in
    let named = subst (λ (b : ℕ). Publishes (file.Log b) c.deref-2.result.now (fate_of c.publish.result) m d') c.base.ensures c.publish.ensures.content in
    let change = subst (λ (b : List ℕ). Publishes (file.Log s.active.base) b (fate_of c.publish.result) m d') bytes_are named in
    rw (← c.self.view_is) (commit_since d m laws laws-m s.incarnation s.local_start s.closed.items s.active s.line s.flushed_end has c.reserve.ensures.content d' laws' c.self.invariant.segments c.self.invariant.opened c.self.invariant.fits c.args.line c.self.invariant.line c.requires.line same_line (fate_of c.publish.result) change)

pub returns-in-Err-clause-opens : goal.returns-in-Err-clause-opens
returns-in-Err-clause-opens g c =
    let s = c.self.inside in
    let d = g.D.Disk.content s.disk in
    let m = g.D.Disk.content c.reserve.new.self in
    let laws : Lawful d = g.met.D.Disk.lawful s.disk in
    let laws-m : Lawful m = g.met.D.Disk.lawful c.reserve.new.self in
    let unbroken : s.broken ≡ false = ap (λ (l : Log g.row.D.Denot). l.broken) c.self.view_is ∙ c.requires.unbroken in
    let has = c.self.invariant.has unbroken in
    let d' = g.D.Disk.content c.publish.new.disk in
    let laws' : Lawful d' = g.met.D.Disk.lawful c.publish.new.disk in
    let end_is : end_of s.active ≡ c.args.self.now.end = ap (λ (l : Log g.row.D.Denot). l.end) c.self.view_is in
    let line_is : s.line ≡ c.args.self.now.line = ap (λ (l : Log g.row.D.Denot). l.line) c.self.view_is in
    let same_line : cut_end c.args.line (end_of s.active) ≡ cut_end s.line (end_of s.active) = rw (end_is, line_is) c.requires.same in
    let bytes_are = c.deref-2.ensures.value ∙ c.in_ok-bytes.ensures ∙ ap (λ (l : List Grown). manifest_bytes (manifest_of s.incarnation s.local_start l s.active c.args.line)) c.deref.ensures.value in
    let named = subst (λ (b : ℕ). Publishes (file.Log b) c.deref-2.result.now (fate_of c.publish.result) m d') c.base.ensures c.publish.ensures.content in
    let change = subst (λ (b : List ℕ). Publishes (file.Log s.active.base) b (fate_of c.publish.result) m d') bytes_are named in
    rw (← c.self.view_is) (commit_as d m laws laws-m s.incarnation s.local_start s.closed.items s.active s.line s.flushed_end has c.reserve.ensures.content d' laws' c.self.invariant.segments c.self.invariant.opened c.self.invariant.fits c.args.line c.self.invariant.line c.requires.line same_line (fate_of c.publish.result) change)

pub returns-in-Err-clause-broken : goal.returns-in-Err-clause-broken
returns-in-Err-clause-broken g c =
    let s = c.self.inside in
    let d = g.D.Disk.content s.disk in
    let m = g.D.Disk.content c.reserve.new.self in
    let laws : Lawful d = g.met.D.Disk.lawful s.disk in
    let laws-m : Lawful m = g.met.D.Disk.lawful c.reserve.new.self in
    let unbroken : s.broken ≡ false = ap (λ (l : Log g.row.D.Denot). l.broken) c.self.view_is ∙ c.requires.unbroken in
    let has = c.self.invariant.has unbroken in
    let d' = g.D.Disk.content c.publish.new.disk in
    let laws' : Lawful d' = g.met.D.Disk.lawful c.publish.new.disk in
    let end_is : end_of s.active ≡ c.args.self.now.end = ap (λ (l : Log g.row.D.Denot). l.end) c.self.view_is in
    let line_is : s.line ≡ c.args.self.now.line = ap (λ (l : Log g.row.D.Denot). l.line) c.self.view_is in
    let same_line : cut_end c.args.line (end_of s.active) ≡ cut_end s.line (end_of s.active) = rw (end_is, line_is) c.requires.same in
    let bytes_are = c.deref-2.ensures.value ∙ c.in_ok-bytes.ensures ∙ ap (λ (l : List Grown). manifest_bytes (manifest_of s.incarnation s.local_start l s.active c.args.line)) c.deref.ensures.value in
    let named = subst (λ (b : ℕ). Publishes (file.Log b) c.deref-2.result.now (fate_of c.publish.result) m d') c.base.ensures c.publish.ensures.content in
    let change = subst (λ (b : List ℕ). Publishes (file.Log s.active.base) b (fate_of c.publish.result) m d') bytes_are named in
    λ is.
    let broken : c.refused.new.broken ≡ true = breaks c.in-Err.trouble c.refused.result c.refused.new.broken s.broken c.refused.ensures.fault c.refused.ensures.memory (cc is) in
    rw (← c.self.view_is) (record {
      fields = rw broken refl;
      is_observable = commit_tells d m laws laws-m s.incarnation s.local_start s.closed.items s.active s.line s.flushed_end has c.reserve.ensures.content d' laws' c.self.invariant.segments c.self.invariant.opened c.self.invariant.fits c.args.line c.self.invariant.line c.requires.line same_line (fate_of c.publish.result) change;
      batches = commit_batches d m laws laws-m s.incarnation s.local_start s.closed.items s.active s.line s.flushed_end has c.reserve.ensures.content d' laws' c.self.invariant.segments c.self.invariant.opened c.self.invariant.fits c.args.line c.self.invariant.line c.requires.line same_line (fate_of c.publish.result) change;
    })

pub returns-in_err-reserve-clause-either : goal.returns-in_err-reserve-clause-either
returns-in_err-reserve-clause-either g c =
    let s = c.self.inside in
    let d = g.D.Disk.content s.disk in
    let m = g.D.Disk.content c.reserve.new.self in
    rw (← c.self.view_is) (kept_either d m c.reserve.ensures.content)

pub returns-in_err-bytes-clause-either : goal.returns-in_err-bytes-clause-either
returns-in_err-bytes-clause-either g c =
    let s = c.self.inside in
    let d = g.D.Disk.content s.disk in
    let m = g.D.Disk.content c.reserve.new.self in
    rw (← c.self.view_is) (kept_either d m c.reserve.ensures.content)

pub returns-in-Ok-clause-either : goal.returns-in-Ok-clause-either
returns-in-Ok-clause-either g c =
    let s = c.self.inside in
    let d = g.D.Disk.content s.disk in
    let m = g.D.Disk.content c.reserve.new.self in
    let d' = g.D.Disk.content c.publish.new.disk in
    rw (← c.self.view_is) (either_published d m d' (g.met.D.Disk.lawful c.reserve.new.self) c.reserve.ensures.content c.publish.ensures.either)

pub returns-in-Err-clause-either : goal.returns-in-Err-clause-either
returns-in-Err-clause-either g c =
    let s = c.self.inside in
    let d = g.D.Disk.content s.disk in
    let m = g.D.Disk.content c.reserve.new.self in
    let d' = g.D.Disk.content c.publish.new.disk in
    rw (← c.self.view_is) (either_published d m d' (g.met.D.Disk.lawful c.reserve.new.self) c.reserve.ensures.content c.publish.ensures.either)
