use Rattle.std.proofs.Common.{◌≡◌, ◌∙◌, ℕ, ◌-◌, List, [], ◌∷◌, ◌++◌, false, sym, ap, subst, arith}
use Rattle.tier_base.specs.Device.{fate_of, fate_of_trouble, Went}
use Rattle.disk_model.specs.Content.{Lawful}
use Rattle.log_manifest.specs.Spelling.{manifest_bytes}
use Rattle.segment_file.specs.Growing.{Grown}
use Rattle.local_log.specs.Stored.{all_batches}
use Rattle.local_log.specs.Log.{Log}
use Rattle.local_log.specs.Listing.{AreSegmentsOf}
use Rattle.local_log.specs.Inside.{DiskHasLog, log_in}
use Rattle.local_log.specs.Cutting.{names_of}
use Rattle.local_log.specs.Renewing.{Renews}
use Rattle.local_log.specs.Dropping.{first_of, rest_of, start_behind, IsFirstFlushed, SpansFirst}
use Rattle.local_log.proofs.Refused.{not_broken}
use Rattle.local_log.proofs.Dropped.{first_at, first_end, first_pos, first_spans, drop_one, rest_are, manifest_behind, drops}
use Rattle.local_log.proofs.log.LocalLog.drop_listed.Goals as goal

pub overflow_sub-result : goal.overflow_sub-result
overflow_sub-result g c =
    let s = c.self.inside in
    let one = c.index-first.result.now in
    let some : IsFirstFlushed s.flushed_end s.closed.items = subst (λ (l : Log g.row.D.Denot). IsFirstFlushed l.flushed_end l.closed) (sym c.self.view_is) c.requires.first in
    let pos = first_pos s.local_start s.flushed_end s.closed.items s.active one some c.self.invariant.segments c.index-first.ensures in
    omega (arith, pos, c.end-end.ensures)

pub invariant_of-self : goal.invariant_of-self
invariant_of-self g c =
    let s = c.self.inside in
    let one = c.index-first.result.now in
    let d = g.D.Disk.content s.disk in
    let d' = g.D.Disk.content c.renew.new.disk in
    let laws : Lawful d = g.met.D.Disk.lawful s.disk in
    let laws' : Lawful d' = g.met.D.Disk.lawful c.renew.new.disk in
    let unbroken : s.broken ≡ false = ap (λ (l : Log g.row.D.Denot). l.broken) c.self.view_is ∙ c.requires.unbroken in
    let has = c.self.invariant.has unbroken in
    let some : IsFirstFlushed s.flushed_end s.closed.items = subst (λ (l : Log g.row.D.Denot). IsFirstFlushed l.flushed_end l.closed) (sym c.self.view_is) c.requires.first in
    let bytes_are : c.args.bytes.now ≡ manifest_bytes (manifest_behind s.incarnation s.local_start s.closed.items s.active s.line s.flushed_end) =
    subst (λ (l : Log g.row.D.Denot). c.args.bytes.now ≡ manifest_bytes (manifest_behind l.incarnation l.local_start l.closed l.active l.line l.flushed_end)) (sym c.self.view_is) c.requires.bytes in
    let named = subst (λ (gs : List Grown). Renews c.args.bytes.now (names_of gs) (fate_of c.renew.result) d d') (first_at s.flushed_end s.closed.items one some c.index-first.ensures) c.renew.ensures.content in
    let change = subst (λ (b : List ℕ). Renews b (names_of (first_of s.closed.items)) (fate_of c.renew.result) d d') bytes_are named in
    let h = drops d laws s.incarnation s.local_start s.closed.items s.active s.line s.flushed_end has c.self.invariant.segments c.self.invariant.line some c.self.invariant.flushed_end_within c.self.invariant.opened c.self.invariant.fits d' laws' (fate_of c.renew.result) change in
    let went : fate_of c.renew.result ≡ Went = ap fate_of c.in-Ok.is in
    let start = start_behind s.local_start s.closed.items in
    let left = c.remove.new.self.items in
    let end_is : c.end-end.result ≡ start = c.end-end.ensures ∙ first_end s.local_start s.flushed_end s.closed.items one some c.index-first.ensures in
    let rest_is : left ≡ rest_of s.closed.items = c.remove.ensures.by_index.2 ∙ drop_one s.closed.items in
    record {
      segments = subst (λ (n : ℕ). AreSegmentsOf n left s.active) (sym end_is) (subst (λ (gs : List Grown). AreSegmentsOf start gs s.active) (sym rest_is) (rest_are s.local_start s.flushed_end s.closed.items s.active some c.self.invariant.segments));
      settings = c.self.invariant.settings;
      opened = c.self.invariant.opened;
      fits = c.self.invariant.fits;
      line = c.self.invariant.line;
      line_within = c.self.invariant.line_within;
      flushed_end_within = c.self.invariant.flushed_end_within;
      has = λ whole. subst (λ (n : ℕ). DiskHasLog d' s.incarnation n left s.active s.line s.flushed_end) (sym end_is) (subst (λ (gs : List Grown). DiskHasLog d' s.incarnation start gs s.active s.line s.flushed_end) (sym rest_is) (h.has went));
      reopens = h.reopens;
    }

pub invariant_of-self-in-Err : goal.invariant_of-self-in-Err
invariant_of-self-in-Err g c =
    let s = c.self.inside in
    let one = c.index-first.result.now in
    let d = g.D.Disk.content s.disk in
    let d' = g.D.Disk.content c.renew.new.disk in
    let laws : Lawful d = g.met.D.Disk.lawful s.disk in
    let laws' : Lawful d' = g.met.D.Disk.lawful c.renew.new.disk in
    let unbroken : s.broken ≡ false = ap (λ (l : Log g.row.D.Denot). l.broken) c.self.view_is ∙ c.requires.unbroken in
    let has = c.self.invariant.has unbroken in
    let some : IsFirstFlushed s.flushed_end s.closed.items = subst (λ (l : Log g.row.D.Denot). IsFirstFlushed l.flushed_end l.closed) (sym c.self.view_is) c.requires.first in
    let bytes_are : c.args.bytes.now ≡ manifest_bytes (manifest_behind s.incarnation s.local_start s.closed.items s.active s.line s.flushed_end) =
    subst (λ (l : Log g.row.D.Denot). c.args.bytes.now ≡ manifest_bytes (manifest_behind l.incarnation l.local_start l.closed l.active l.line l.flushed_end)) (sym c.self.view_is) c.requires.bytes in
    let named = subst (λ (gs : List Grown). Renews c.args.bytes.now (names_of gs) (fate_of c.renew.result) d d') (first_at s.flushed_end s.closed.items one some c.index-first.ensures) c.renew.ensures.content in
    let change = subst (λ (b : List ℕ). Renews b (names_of (first_of s.closed.items)) (fate_of c.renew.result) d d') bytes_are named in
    let h = drops d laws s.incarnation s.local_start s.closed.items s.active s.line s.flushed_end has c.self.invariant.segments c.self.invariant.line some c.self.invariant.flushed_end_within c.self.invariant.opened c.self.invariant.fits d' laws' (fate_of c.renew.result) change in
    record {
      segments = c.self.invariant.segments;
      settings = c.self.invariant.settings;
      opened = c.self.invariant.opened;
      fits = c.self.invariant.fits;
      line = c.self.invariant.line;
      line_within = c.self.invariant.line_within;
      flushed_end_within = c.self.invariant.flushed_end_within;
      has = λ whole. h.dry (ap fate_of c.in-Err.is ∙ ap fate_of_trouble (not_broken c.in-Err.trouble c.refused.result c.refused.new.broken c.refused.ensures.fault whole));
      reopens = h.reopens;
    }

pub returns-in-Ok-clause-answer : goal.returns-in-Ok-clause-answer
returns-in-Ok-clause-answer g c =
    let s = c.self.inside in
    let one = c.index-first.result.now in
    let some : IsFirstFlushed s.flushed_end s.closed.items = subst (λ (l : Log g.row.D.Denot). IsFirstFlushed l.flushed_end l.closed) (sym c.self.view_is) c.requires.first in
    let pos = first_pos s.local_start s.flushed_end s.closed.items s.active one some c.self.invariant.segments c.index-first.ensures in
    subst (λ (l : Log g.row.D.Denot). SpansFirst l.closed (c.base-base.result, c.end-end.result - 1)) c.self.view_is
    (first_spans s.flushed_end s.closed.items one (c.base-base.result, c.end-end.result - 1) some c.index-first.ensures c.base-base.ensures (omega (arith, pos, c.end-end.ensures)))

pub returns-in-Ok-clause-ok : goal.returns-in-Ok-clause-ok
returns-in-Ok-clause-ok g c =
    let s = c.self.inside in
    let one = c.index-first.result.now in
    let d = g.D.Disk.content s.disk in
    let d' = g.D.Disk.content c.renew.new.disk in
    let laws : Lawful d = g.met.D.Disk.lawful s.disk in
    let laws' : Lawful d' = g.met.D.Disk.lawful c.renew.new.disk in
    let unbroken : s.broken ≡ false = ap (λ (l : Log g.row.D.Denot). l.broken) c.self.view_is ∙ c.requires.unbroken in
    let has = c.self.invariant.has unbroken in
    let some : IsFirstFlushed s.flushed_end s.closed.items = subst (λ (l : Log g.row.D.Denot). IsFirstFlushed l.flushed_end l.closed) (sym c.self.view_is) c.requires.first in
    let bytes_are : c.args.bytes.now ≡ manifest_bytes (manifest_behind s.incarnation s.local_start s.closed.items s.active s.line s.flushed_end) =
    subst (λ (l : Log g.row.D.Denot). c.args.bytes.now ≡ manifest_bytes (manifest_behind l.incarnation l.local_start l.closed l.active l.line l.flushed_end)) (sym c.self.view_is) c.requires.bytes in
    let named = subst (λ (gs : List Grown). Renews c.args.bytes.now (names_of gs) (fate_of c.renew.result) d d') (first_at s.flushed_end s.closed.items one some c.index-first.ensures) c.renew.ensures.content in
    let change = subst (λ (b : List ℕ). Renews b (names_of (first_of s.closed.items)) (fate_of c.renew.result) d d') bytes_are named in
    let h = drops d laws s.incarnation s.local_start s.closed.items s.active s.line s.flushed_end has c.self.invariant.segments c.self.invariant.line some c.self.invariant.flushed_end_within c.self.invariant.opened c.self.invariant.fits d' laws' (fate_of c.renew.result) change in
    let went : fate_of c.renew.result ≡ Went = ap fate_of c.in-Ok.is in
    let start = start_behind s.local_start s.closed.items in
    let left = c.remove.new.self.items in
    let end_is : c.end-end.result ≡ start = c.end-end.ensures ∙ first_end s.local_start s.flushed_end s.closed.items one some c.index-first.ensures in
    let rest_is : left ≡ rest_of s.closed.items = c.remove.ensures.by_index.2 ∙ drop_one s.closed.items in
    let x = log_in g.D.Disk.content s in
    let batches = all_batches d'.files (left ++ s.active ∷ []) in
    rw (← c.self.view_is) (
    record {
      fields =
          ap (λ (n : ℕ). record x { disk = c.renew.new.disk; local_start = n; batches = batches; closed = left }) end_is
          ∙ ap (λ (gs : List Grown). record x { disk = c.renew.new.disk; local_start = start; batches = batches; closed = gs }) rest_is;
      is_observable = change.is_observable;
      batches = λ t. ap (λ (gs : List Grown). all_batches d'.files (gs ++ s.active ∷ [])) rest_is ∙ h.batches went t;
    }
    )

pub returns-in-Ok-clause-durable : goal.returns-in-Ok-clause-durable
returns-in-Ok-clause-durable g c =
    let s = c.self.inside in
    let one = c.index-first.result.now in
    let d = g.D.Disk.content s.disk in
    let d' = g.D.Disk.content c.renew.new.disk in
    let laws : Lawful d = g.met.D.Disk.lawful s.disk in
    let laws' : Lawful d' = g.met.D.Disk.lawful c.renew.new.disk in
    let unbroken : s.broken ≡ false = ap (λ (l : Log g.row.D.Denot). l.broken) c.self.view_is ∙ c.requires.unbroken in
    let has = c.self.invariant.has unbroken in
    let some : IsFirstFlushed s.flushed_end s.closed.items = subst (λ (l : Log g.row.D.Denot). IsFirstFlushed l.flushed_end l.closed) (sym c.self.view_is) c.requires.first in
    let bytes_are : c.args.bytes.now ≡ manifest_bytes (manifest_behind s.incarnation s.local_start s.closed.items s.active s.line s.flushed_end) =
    subst (λ (l : Log g.row.D.Denot). c.args.bytes.now ≡ manifest_bytes (manifest_behind l.incarnation l.local_start l.closed l.active l.line l.flushed_end)) (sym c.self.view_is) c.requires.bytes in
    let named = subst (λ (gs : List Grown). Renews c.args.bytes.now (names_of gs) (fate_of c.renew.result) d d') (first_at s.flushed_end s.closed.items one some c.index-first.ensures) c.renew.ensures.content in
    let change = subst (λ (b : List ℕ). Renews b (names_of (first_of s.closed.items)) (fate_of c.renew.result) d d') bytes_are named in
    let h = drops d laws s.incarnation s.local_start s.closed.items s.active s.line s.flushed_end has c.self.invariant.segments c.self.invariant.line some c.self.invariant.flushed_end_within c.self.invariant.opened c.self.invariant.fits d' laws' (fate_of c.renew.result) change in
    rw (← c.self.view_is) (h.opens (ap fate_of c.in-Ok.is))

pub returns-in-Ok-clause-any_moment : goal.returns-in-Ok-clause-any_moment
returns-in-Ok-clause-any_moment g c =
    let s = c.self.inside in
    let one = c.index-first.result.now in
    let d = g.D.Disk.content s.disk in
    let d' = g.D.Disk.content c.renew.new.disk in
    let laws : Lawful d = g.met.D.Disk.lawful s.disk in
    let laws' : Lawful d' = g.met.D.Disk.lawful c.renew.new.disk in
    let unbroken : s.broken ≡ false = ap (λ (l : Log g.row.D.Denot). l.broken) c.self.view_is ∙ c.requires.unbroken in
    let has = c.self.invariant.has unbroken in
    let some : IsFirstFlushed s.flushed_end s.closed.items = subst (λ (l : Log g.row.D.Denot). IsFirstFlushed l.flushed_end l.closed) (sym c.self.view_is) c.requires.first in
    let bytes_are : c.args.bytes.now ≡ manifest_bytes (manifest_behind s.incarnation s.local_start s.closed.items s.active s.line s.flushed_end) =
    subst (λ (l : Log g.row.D.Denot). c.args.bytes.now ≡ manifest_bytes (manifest_behind l.incarnation l.local_start l.closed l.active l.line l.flushed_end)) (sym c.self.view_is) c.requires.bytes in
    let named = subst (λ (gs : List Grown). Renews c.args.bytes.now (names_of gs) (fate_of c.renew.result) d d') (first_at s.flushed_end s.closed.items one some c.index-first.ensures) c.renew.ensures.content in
    let change = subst (λ (b : List ℕ). Renews b (names_of (first_of s.closed.items)) (fate_of c.renew.result) d d') bytes_are named in
    let h = drops d laws s.incarnation s.local_start s.closed.items s.active s.line s.flushed_end has c.self.invariant.segments c.self.invariant.line some c.self.invariant.flushed_end_within c.self.invariant.opened c.self.invariant.fits d' laws' (fate_of c.renew.result) change in
    rw (← c.self.view_is) h.since

pub returns-in-Err-clause-any_moment : goal.returns-in-Err-clause-any_moment
returns-in-Err-clause-any_moment g c =
    let s = c.self.inside in
    let one = c.index-first.result.now in
    let d = g.D.Disk.content s.disk in
    let d' = g.D.Disk.content c.renew.new.disk in
    let laws : Lawful d = g.met.D.Disk.lawful s.disk in
    let laws' : Lawful d' = g.met.D.Disk.lawful c.renew.new.disk in
    let unbroken : s.broken ≡ false = ap (λ (l : Log g.row.D.Denot). l.broken) c.self.view_is ∙ c.requires.unbroken in
    let has = c.self.invariant.has unbroken in
    let some : IsFirstFlushed s.flushed_end s.closed.items = subst (λ (l : Log g.row.D.Denot). IsFirstFlushed l.flushed_end l.closed) (sym c.self.view_is) c.requires.first in
    let bytes_are : c.args.bytes.now ≡ manifest_bytes (manifest_behind s.incarnation s.local_start s.closed.items s.active s.line s.flushed_end) =
    subst (λ (l : Log g.row.D.Denot). c.args.bytes.now ≡ manifest_bytes (manifest_behind l.incarnation l.local_start l.closed l.active l.line l.flushed_end)) (sym c.self.view_is) c.requires.bytes in
    let named = subst (λ (gs : List Grown). Renews c.args.bytes.now (names_of gs) (fate_of c.renew.result) d d') (first_at s.flushed_end s.closed.items one some c.index-first.ensures) c.renew.ensures.content in
    let change = subst (λ (b : List ℕ). Renews b (names_of (first_of s.closed.items)) (fate_of c.renew.result) d d') bytes_are named in
    let h = drops d laws s.incarnation s.local_start s.closed.items s.active s.line s.flushed_end has c.self.invariant.segments c.self.invariant.line some c.self.invariant.flushed_end_within c.self.invariant.opened c.self.invariant.fits d' laws' (fate_of c.renew.result) change in
    rw (← c.self.view_is) h.since

pub returns-in-Ok-clause-opens : goal.returns-in-Ok-clause-opens
returns-in-Ok-clause-opens g c =
    let s = c.self.inside in
    let one = c.index-first.result.now in
    let d = g.D.Disk.content s.disk in
    let d' = g.D.Disk.content c.renew.new.disk in
    let laws : Lawful d = g.met.D.Disk.lawful s.disk in
    let laws' : Lawful d' = g.met.D.Disk.lawful c.renew.new.disk in
    let unbroken : s.broken ≡ false = ap (λ (l : Log g.row.D.Denot). l.broken) c.self.view_is ∙ c.requires.unbroken in
    let has = c.self.invariant.has unbroken in
    let some : IsFirstFlushed s.flushed_end s.closed.items = subst (λ (l : Log g.row.D.Denot). IsFirstFlushed l.flushed_end l.closed) (sym c.self.view_is) c.requires.first in
    let bytes_are : c.args.bytes.now ≡ manifest_bytes (manifest_behind s.incarnation s.local_start s.closed.items s.active s.line s.flushed_end) =
    subst (λ (l : Log g.row.D.Denot). c.args.bytes.now ≡ manifest_bytes (manifest_behind l.incarnation l.local_start l.closed l.active l.line l.flushed_end)) (sym c.self.view_is) c.requires.bytes in
    let named = subst (λ (gs : List Grown). Renews c.args.bytes.now (names_of gs) (fate_of c.renew.result) d d') (first_at s.flushed_end s.closed.items one some c.index-first.ensures) c.renew.ensures.content in
    let change = subst (λ (b : List ℕ). Renews b (names_of (first_of s.closed.items)) (fate_of c.renew.result) d d') bytes_are named in
    let h = drops d laws s.incarnation s.local_start s.closed.items s.active s.line s.flushed_end has c.self.invariant.segments c.self.invariant.line some c.self.invariant.flushed_end_within c.self.invariant.opened c.self.invariant.fits d' laws' (fate_of c.renew.result) change in
    rw (← c.self.view_is) h.opens_as

pub returns-in-Ok-clause-is_observable : goal.returns-in-Ok-clause-is_observable
returns-in-Ok-clause-is_observable g c = rw (← c.self.view_is) c.renew.ensures.content.is_observable

pub returns-in-Err-clause-opens : goal.returns-in-Err-clause-opens
returns-in-Err-clause-opens g c =
    let s = c.self.inside in
    let one = c.index-first.result.now in
    let d = g.D.Disk.content s.disk in
    let d' = g.D.Disk.content c.renew.new.disk in
    let laws : Lawful d = g.met.D.Disk.lawful s.disk in
    let laws' : Lawful d' = g.met.D.Disk.lawful c.renew.new.disk in
    let unbroken : s.broken ≡ false = ap (λ (l : Log g.row.D.Denot). l.broken) c.self.view_is ∙ c.requires.unbroken in
    let has = c.self.invariant.has unbroken in
    let some : IsFirstFlushed s.flushed_end s.closed.items = subst (λ (l : Log g.row.D.Denot). IsFirstFlushed l.flushed_end l.closed) (sym c.self.view_is) c.requires.first in
    let bytes_are : c.args.bytes.now ≡ manifest_bytes (manifest_behind s.incarnation s.local_start s.closed.items s.active s.line s.flushed_end) =
    subst (λ (l : Log g.row.D.Denot). c.args.bytes.now ≡ manifest_bytes (manifest_behind l.incarnation l.local_start l.closed l.active l.line l.flushed_end)) (sym c.self.view_is) c.requires.bytes in
    let named = subst (λ (gs : List Grown). Renews c.args.bytes.now (names_of gs) (fate_of c.renew.result) d d') (first_at s.flushed_end s.closed.items one some c.index-first.ensures) c.renew.ensures.content in
    let change = subst (λ (b : List ℕ). Renews b (names_of (first_of s.closed.items)) (fate_of c.renew.result) d d') bytes_are named in
    let h = drops d laws s.incarnation s.local_start s.closed.items s.active s.line s.flushed_end has c.self.invariant.segments c.self.invariant.line some c.self.invariant.flushed_end_within c.self.invariant.opened c.self.invariant.fits d' laws' (fate_of c.renew.result) change in
    rw (← c.self.view_is) h.opens_as

pub returns-in-Err-clause-is_observable : goal.returns-in-Err-clause-is_observable
returns-in-Err-clause-is_observable g c = rw (← c.self.view_is) c.renew.ensures.content.is_observable

pub returns-in-Ok-clause-either : goal.returns-in-Ok-clause-either
returns-in-Ok-clause-either g c =
    let s = c.self.inside in
    let one = c.index-first.result.now in
    let d = g.D.Disk.content s.disk in
    let d' = g.D.Disk.content c.renew.new.disk in
    let laws : Lawful d = g.met.D.Disk.lawful s.disk in
    let laws' : Lawful d' = g.met.D.Disk.lawful c.renew.new.disk in
    let unbroken : s.broken ≡ false = ap (λ (l : Log g.row.D.Denot). l.broken) c.self.view_is ∙ c.requires.unbroken in
    let has = c.self.invariant.has unbroken in
    let some : IsFirstFlushed s.flushed_end s.closed.items = subst (λ (l : Log g.row.D.Denot). IsFirstFlushed l.flushed_end l.closed) (sym c.self.view_is) c.requires.first in
    let bytes_are : c.args.bytes.now ≡ manifest_bytes (manifest_behind s.incarnation s.local_start s.closed.items s.active s.line s.flushed_end) =
    subst (λ (l : Log g.row.D.Denot). c.args.bytes.now ≡ manifest_bytes (manifest_behind l.incarnation l.local_start l.closed l.active l.line l.flushed_end)) (sym c.self.view_is) c.requires.bytes in
    let named = subst (λ (gs : List Grown). Renews c.args.bytes.now (names_of gs) (fate_of c.renew.result) d d') (first_at s.flushed_end s.closed.items one some c.index-first.ensures) c.renew.ensures.content in
    let change = subst (λ (b : List ℕ). Renews b (names_of (first_of s.closed.items)) (fate_of c.renew.result) d d') bytes_are named in
    let h = drops d laws s.incarnation s.local_start s.closed.items s.active s.line s.flushed_end has c.self.invariant.segments c.self.invariant.line some c.self.invariant.flushed_end_within c.self.invariant.opened c.self.invariant.fits d' laws' (fate_of c.renew.result) change in
    rw (← c.self.view_is) h.either

pub returns-in-Err-clause-either : goal.returns-in-Err-clause-either
returns-in-Err-clause-either g c =
    let s = c.self.inside in
    let one = c.index-first.result.now in
    let d = g.D.Disk.content s.disk in
    let d' = g.D.Disk.content c.renew.new.disk in
    let laws : Lawful d = g.met.D.Disk.lawful s.disk in
    let laws' : Lawful d' = g.met.D.Disk.lawful c.renew.new.disk in
    let unbroken : s.broken ≡ false = ap (λ (l : Log g.row.D.Denot). l.broken) c.self.view_is ∙ c.requires.unbroken in
    let has = c.self.invariant.has unbroken in
    let some : IsFirstFlushed s.flushed_end s.closed.items = subst (λ (l : Log g.row.D.Denot). IsFirstFlushed l.flushed_end l.closed) (sym c.self.view_is) c.requires.first in
    let bytes_are : c.args.bytes.now ≡ manifest_bytes (manifest_behind s.incarnation s.local_start s.closed.items s.active s.line s.flushed_end) =
    subst (λ (l : Log g.row.D.Denot). c.args.bytes.now ≡ manifest_bytes (manifest_behind l.incarnation l.local_start l.closed l.active l.line l.flushed_end)) (sym c.self.view_is) c.requires.bytes in
    let named = subst (λ (gs : List Grown). Renews c.args.bytes.now (names_of gs) (fate_of c.renew.result) d d') (first_at s.flushed_end s.closed.items one some c.index-first.ensures) c.renew.ensures.content in
    let change = subst (λ (b : List ℕ). Renews b (names_of (first_of s.closed.items)) (fate_of c.renew.result) d d') bytes_are named in
    let h = drops d laws s.incarnation s.local_start s.closed.items s.active s.line s.flushed_end has c.self.invariant.segments c.self.invariant.line some c.self.invariant.flushed_end_within c.self.invariant.opened c.self.invariant.fits d' laws' (fate_of c.renew.result) change in
    rw (← c.self.view_is) h.either
