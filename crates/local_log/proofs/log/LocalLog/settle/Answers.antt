use Rattle.std.proofs.Common.{◌≡◌, ◌∙◌, ◌≤◌, ℕ, List, false, refl, sym, ap, subst, ◌++◌, ◌∷◌, []}
use Rattle.tier_base.specs.declared.plain.FileName.TheVariants as file
use Rattle.tier_base.specs.Device.{fate_of, fate_of_trouble, Went}
use Rattle.disk_model.specs.Content.{Lawful}
use Rattle.epoch_line.specs.Line.{cut_end}
use Rattle.log_manifest.specs.declared.manifest.Extent.{Extent}
use Rattle.log_manifest.specs.Spelling.{manifest_bytes}
use Rattle.segment_file.specs.Growing.{Grown}
use Rattle.log_steps.specs.Publishes.{Publishes}
use Rattle.local_log.specs.Log.{Log}
use Rattle.local_log.specs.Stored.{end_of}
use Rattle.local_log.specs.Listing.{manifest_of, front_to}
use Rattle.local_log.specs.Cutting.{closed_by, open_by, cut_point}
use Rattle.local_log.proofs.Refused.{not_broken}
use Rattle.local_log.proofs.Settled.{settle_since, settle_as, settle_reopens, settle_dry, settle_batches, settled_opens, settled_has}
use Rattle.local_log.proofs.Sides.{either_opens}
use Rattle.local_log.proofs.log.LocalLog.settle.Goals as goal

pub invariant_of-self : goal.invariant_of-self
invariant_of-self g c =
    let s = c.self.inside in
    let n = c.args.end in
    let d = g.D.Disk.content s.disk in
    let d' = g.D.Disk.content c.publish.new.disk in
    let laws : Lawful d = g.met.D.Disk.lawful s.disk in
    let laws' : Lawful d' = g.met.D.Disk.lawful c.publish.new.disk in
    let unbroken : s.broken ≡ false = ap (λ (l : Log g.row.D.Denot). l.broken) c.self.view_is ∙ c.requires.unbroken in
    let has = c.self.invariant.has unbroken in
    let from : s.local_start ≤ n = subst (λ (l : Log g.row.D.Denot). l.local_start ≤ n) (sym c.self.view_is) c.requires.from in
    let within : n ≤ end_of s.active = subst (λ (l : Log g.row.D.Denot). n ≤ l.end) (sym c.self.view_is) c.requires.within in
    let exact : cut_point n s.closed.items s.active ≡ n = subst (λ (l : Log g.row.D.Denot). cut_point n l.closed l.active ≡ n) (sym c.self.view_is) c.requires.exact in
    let bytes_are : c.args.bytes.now ≡ manifest_bytes (manifest_of s.incarnation s.local_start (closed_by n s.closed.items) (front_to n (open_by n s.closed.items s.active)) (cut_end s.line n)) =
    subst (λ (l : Log g.row.D.Denot). c.args.bytes.now ≡ manifest_bytes (manifest_of l.incarnation l.local_start (closed_by n l.closed) (front_to n (open_by n l.closed l.active)) (cut_end l.line n))) (sym c.self.view_is) c.requires.bytes in
    let base_is : c.open_front-last.result.base ≡ (open_by n s.closed.items s.active).base = ap (λ (e : Extent). e.base) c.open_front-last.ensures ∙ ap (λ (l : List Grown). (open_by n l s.active).base) c.deref.ensures.value in
    let named = subst (λ (b : ℕ). Publishes (file.Log b) c.args.bytes.now (fate_of c.publish.result) d d') base_is c.publish.ensures.content in
    let change = subst (λ (b : List ℕ). Publishes (file.Log (open_by n s.closed.items s.active).base) b (fate_of c.publish.result) d d') bytes_are named in
    let went : fate_of c.publish.result ≡ Went = ap fate_of c.in-Ok.is in
    record {
      segments = c.self.invariant.segments;
      settings = c.self.invariant.settings;
      opened = c.self.invariant.opened;
      fits = c.self.invariant.fits;
      line = c.self.invariant.line;
      line_within = c.self.invariant.line_within;
      flushed_end_within = within;
      has = λ whole. settled_has d laws s.incarnation s.local_start s.closed.items s.active s.line s.flushed_end has c.self.invariant.segments c.self.invariant.line n from exact within c.self.invariant.opened c.self.invariant.fits d' laws' (fate_of c.publish.result) change went;
      reopens = settle_reopens d laws s.incarnation s.local_start s.closed.items s.active s.line s.flushed_end has c.self.invariant.segments c.self.invariant.line n from exact within c.self.invariant.opened c.self.invariant.fits d' laws' (fate_of c.publish.result) change;
    }

pub invariant_of-self-in-Err : goal.invariant_of-self-in-Err
invariant_of-self-in-Err g c =
    let s = c.self.inside in
    let n = c.args.end in
    let d = g.D.Disk.content s.disk in
    let d' = g.D.Disk.content c.publish.new.disk in
    let laws : Lawful d = g.met.D.Disk.lawful s.disk in
    let laws' : Lawful d' = g.met.D.Disk.lawful c.publish.new.disk in
    let unbroken : s.broken ≡ false = ap (λ (l : Log g.row.D.Denot). l.broken) c.self.view_is ∙ c.requires.unbroken in
    let has = c.self.invariant.has unbroken in
    let from : s.local_start ≤ n = subst (λ (l : Log g.row.D.Denot). l.local_start ≤ n) (sym c.self.view_is) c.requires.from in
    let within : n ≤ end_of s.active = subst (λ (l : Log g.row.D.Denot). n ≤ l.end) (sym c.self.view_is) c.requires.within in
    let exact : cut_point n s.closed.items s.active ≡ n = subst (λ (l : Log g.row.D.Denot). cut_point n l.closed l.active ≡ n) (sym c.self.view_is) c.requires.exact in
    let bytes_are : c.args.bytes.now ≡ manifest_bytes (manifest_of s.incarnation s.local_start (closed_by n s.closed.items) (front_to n (open_by n s.closed.items s.active)) (cut_end s.line n)) =
    subst (λ (l : Log g.row.D.Denot). c.args.bytes.now ≡ manifest_bytes (manifest_of l.incarnation l.local_start (closed_by n l.closed) (front_to n (open_by n l.closed l.active)) (cut_end l.line n))) (sym c.self.view_is) c.requires.bytes in
    let base_is : c.open_front-last.result.base ≡ (open_by n s.closed.items s.active).base = ap (λ (e : Extent). e.base) c.open_front-last.ensures ∙ ap (λ (l : List Grown). (open_by n l s.active).base) c.deref.ensures.value in
    let named = subst (λ (b : ℕ). Publishes (file.Log b) c.args.bytes.now (fate_of c.publish.result) d d') base_is c.publish.ensures.content in
    let change = subst (λ (b : List ℕ). Publishes (file.Log (open_by n s.closed.items s.active).base) b (fate_of c.publish.result) d d') bytes_are named in
    record {
      segments = c.self.invariant.segments;
      settings = c.self.invariant.settings;
      opened = c.self.invariant.opened;
      fits = c.self.invariant.fits;
      line = c.self.invariant.line;
      line_within = c.self.invariant.line_within;
      flushed_end_within = c.self.invariant.flushed_end_within;
      has = λ whole. settle_dry d laws s.incarnation s.local_start s.closed.items s.active s.line s.flushed_end has c.self.invariant.segments c.self.invariant.line n from exact within c.self.invariant.opened c.self.invariant.fits d' laws' (fate_of c.publish.result) change (ap fate_of c.in-Err.is ∙ ap fate_of_trouble (not_broken c.in-Err.trouble c.refused.result c.refused.new.broken c.refused.ensures.fault whole));
      reopens = settle_reopens d laws s.incarnation s.local_start s.closed.items s.active s.line s.flushed_end has c.self.invariant.segments c.self.invariant.line n from exact within c.self.invariant.opened c.self.invariant.fits d' laws' (fate_of c.publish.result) change;
    }

pub returns-in-Ok-clause-ok : goal.returns-in-Ok-clause-ok
returns-in-Ok-clause-ok g c =
    let s = c.self.inside in
    let n = c.args.end in
    let d = g.D.Disk.content s.disk in
    let d' = g.D.Disk.content c.publish.new.disk in
    let laws : Lawful d = g.met.D.Disk.lawful s.disk in
    let laws' : Lawful d' = g.met.D.Disk.lawful c.publish.new.disk in
    let unbroken : s.broken ≡ false = ap (λ (l : Log g.row.D.Denot). l.broken) c.self.view_is ∙ c.requires.unbroken in
    let has = c.self.invariant.has unbroken in
    let from : s.local_start ≤ n = subst (λ (l : Log g.row.D.Denot). l.local_start ≤ n) (sym c.self.view_is) c.requires.from in
    let within : n ≤ end_of s.active = subst (λ (l : Log g.row.D.Denot). n ≤ l.end) (sym c.self.view_is) c.requires.within in
    let exact : cut_point n s.closed.items s.active ≡ n = subst (λ (l : Log g.row.D.Denot). cut_point n l.closed l.active ≡ n) (sym c.self.view_is) c.requires.exact in
    let bytes_are : c.args.bytes.now ≡ manifest_bytes (manifest_of s.incarnation s.local_start (closed_by n s.closed.items) (front_to n (open_by n s.closed.items s.active)) (cut_end s.line n)) =
    subst (λ (l : Log g.row.D.Denot). c.args.bytes.now ≡ manifest_bytes (manifest_of l.incarnation l.local_start (closed_by n l.closed) (front_to n (open_by n l.closed l.active)) (cut_end l.line n))) (sym c.self.view_is) c.requires.bytes in
    let base_is : c.open_front-last.result.base ≡ (open_by n s.closed.items s.active).base = ap (λ (e : Extent). e.base) c.open_front-last.ensures ∙ ap (λ (l : List Grown). (open_by n l s.active).base) c.deref.ensures.value in
    let named = subst (λ (b : ℕ). Publishes (file.Log b) c.args.bytes.now (fate_of c.publish.result) d d') base_is c.publish.ensures.content in
    let change = subst (λ (b : List ℕ). Publishes (file.Log (open_by n s.closed.items s.active).base) b (fate_of c.publish.result) d d') bytes_are named in
    rw (← c.self.view_is) (record { fields = refl; is_observable = change.is_observable; batches = λ t. settle_batches d laws s.incarnation s.local_start s.closed.items s.active s.line s.flushed_end has c.self.invariant.segments c.self.invariant.line n from exact within c.self.invariant.opened c.self.invariant.fits d' laws' (fate_of c.publish.result) change t (s.closed.items ++ s.active ∷ []) })

pub returns-in-Ok-clause-durable : goal.returns-in-Ok-clause-durable
returns-in-Ok-clause-durable g c =
    let s = c.self.inside in
    let n = c.args.end in
    let d = g.D.Disk.content s.disk in
    let d' = g.D.Disk.content c.publish.new.disk in
    let laws : Lawful d = g.met.D.Disk.lawful s.disk in
    let laws' : Lawful d' = g.met.D.Disk.lawful c.publish.new.disk in
    let unbroken : s.broken ≡ false = ap (λ (l : Log g.row.D.Denot). l.broken) c.self.view_is ∙ c.requires.unbroken in
    let has = c.self.invariant.has unbroken in
    let from : s.local_start ≤ n = subst (λ (l : Log g.row.D.Denot). l.local_start ≤ n) (sym c.self.view_is) c.requires.from in
    let within : n ≤ end_of s.active = subst (λ (l : Log g.row.D.Denot). n ≤ l.end) (sym c.self.view_is) c.requires.within in
    let exact : cut_point n s.closed.items s.active ≡ n = subst (λ (l : Log g.row.D.Denot). cut_point n l.closed l.active ≡ n) (sym c.self.view_is) c.requires.exact in
    let bytes_are : c.args.bytes.now ≡ manifest_bytes (manifest_of s.incarnation s.local_start (closed_by n s.closed.items) (front_to n (open_by n s.closed.items s.active)) (cut_end s.line n)) =
    subst (λ (l : Log g.row.D.Denot). c.args.bytes.now ≡ manifest_bytes (manifest_of l.incarnation l.local_start (closed_by n l.closed) (front_to n (open_by n l.closed l.active)) (cut_end l.line n))) (sym c.self.view_is) c.requires.bytes in
    let base_is : c.open_front-last.result.base ≡ (open_by n s.closed.items s.active).base = ap (λ (e : Extent). e.base) c.open_front-last.ensures ∙ ap (λ (l : List Grown). (open_by n l s.active).base) c.deref.ensures.value in
    let named = subst (λ (b : ℕ). Publishes (file.Log b) c.args.bytes.now (fate_of c.publish.result) d d') base_is c.publish.ensures.content in
    let change = subst (λ (b : List ℕ). Publishes (file.Log (open_by n s.closed.items s.active).base) b (fate_of c.publish.result) d d') bytes_are named in
    let went : fate_of c.publish.result ≡ Went = ap fate_of c.in-Ok.is in
    rw (← c.self.view_is) (settled_opens d laws s.incarnation s.local_start s.closed.items s.active s.line s.flushed_end has c.self.invariant.segments c.self.invariant.line n from exact within c.self.invariant.opened c.self.invariant.fits d' laws' (fate_of c.publish.result) change went)

pub returns-in-Ok-clause-any_moment : goal.returns-in-Ok-clause-any_moment
returns-in-Ok-clause-any_moment g c =
    let s = c.self.inside in
    let n = c.args.end in
    let d = g.D.Disk.content s.disk in
    let d' = g.D.Disk.content c.publish.new.disk in
    let laws : Lawful d = g.met.D.Disk.lawful s.disk in
    let laws' : Lawful d' = g.met.D.Disk.lawful c.publish.new.disk in
    let unbroken : s.broken ≡ false = ap (λ (l : Log g.row.D.Denot). l.broken) c.self.view_is ∙ c.requires.unbroken in
    let has = c.self.invariant.has unbroken in
    let from : s.local_start ≤ n = subst (λ (l : Log g.row.D.Denot). l.local_start ≤ n) (sym c.self.view_is) c.requires.from in
    let within : n ≤ end_of s.active = subst (λ (l : Log g.row.D.Denot). n ≤ l.end) (sym c.self.view_is) c.requires.within in
    let exact : cut_point n s.closed.items s.active ≡ n = subst (λ (l : Log g.row.D.Denot). cut_point n l.closed l.active ≡ n) (sym c.self.view_is) c.requires.exact in
    let bytes_are : c.args.bytes.now ≡ manifest_bytes (manifest_of s.incarnation s.local_start (closed_by n s.closed.items) (front_to n (open_by n s.closed.items s.active)) (cut_end s.line n)) =
    subst (λ (l : Log g.row.D.Denot). c.args.bytes.now ≡ manifest_bytes (manifest_of l.incarnation l.local_start (closed_by n l.closed) (front_to n (open_by n l.closed l.active)) (cut_end l.line n))) (sym c.self.view_is) c.requires.bytes in
    let base_is : c.open_front-last.result.base ≡ (open_by n s.closed.items s.active).base = ap (λ (e : Extent). e.base) c.open_front-last.ensures ∙ ap (λ (l : List Grown). (open_by n l s.active).base) c.deref.ensures.value in
    let named = subst (λ (b : ℕ). Publishes (file.Log b) c.args.bytes.now (fate_of c.publish.result) d d') base_is c.publish.ensures.content in
    let change = subst (λ (b : List ℕ). Publishes (file.Log (open_by n s.closed.items s.active).base) b (fate_of c.publish.result) d d') bytes_are named in
    rw (← c.self.view_is) (settle_since d laws s.incarnation s.local_start s.closed.items s.active s.line s.flushed_end has c.self.invariant.segments c.self.invariant.line n from exact within c.self.invariant.opened c.self.invariant.fits d' laws' (fate_of c.publish.result) change)

pub returns-in-Ok-clause-opens : goal.returns-in-Ok-clause-opens
returns-in-Ok-clause-opens g c =
    let s = c.self.inside in
    let n = c.args.end in
    let d = g.D.Disk.content s.disk in
    let d' = g.D.Disk.content c.publish.new.disk in
    let laws : Lawful d = g.met.D.Disk.lawful s.disk in
    let laws' : Lawful d' = g.met.D.Disk.lawful c.publish.new.disk in
    let unbroken : s.broken ≡ false = ap (λ (l : Log g.row.D.Denot). l.broken) c.self.view_is ∙ c.requires.unbroken in
    let has = c.self.invariant.has unbroken in
    let from : s.local_start ≤ n = subst (λ (l : Log g.row.D.Denot). l.local_start ≤ n) (sym c.self.view_is) c.requires.from in
    let within : n ≤ end_of s.active = subst (λ (l : Log g.row.D.Denot). n ≤ l.end) (sym c.self.view_is) c.requires.within in
    let exact : cut_point n s.closed.items s.active ≡ n = subst (λ (l : Log g.row.D.Denot). cut_point n l.closed l.active ≡ n) (sym c.self.view_is) c.requires.exact in
    let bytes_are : c.args.bytes.now ≡ manifest_bytes (manifest_of s.incarnation s.local_start (closed_by n s.closed.items) (front_to n (open_by n s.closed.items s.active)) (cut_end s.line n)) =
    subst (λ (l : Log g.row.D.Denot). c.args.bytes.now ≡ manifest_bytes (manifest_of l.incarnation l.local_start (closed_by n l.closed) (front_to n (open_by n l.closed l.active)) (cut_end l.line n))) (sym c.self.view_is) c.requires.bytes in
    let base_is : c.open_front-last.result.base ≡ (open_by n s.closed.items s.active).base = ap (λ (e : Extent). e.base) c.open_front-last.ensures ∙ ap (λ (l : List Grown). (open_by n l s.active).base) c.deref.ensures.value in
    let named = subst (λ (b : ℕ). Publishes (file.Log b) c.args.bytes.now (fate_of c.publish.result) d d') base_is c.publish.ensures.content in
    let change = subst (λ (b : List ℕ). Publishes (file.Log (open_by n s.closed.items s.active).base) b (fate_of c.publish.result) d d') bytes_are named in
    rw (← c.self.view_is) (settle_as d laws s.incarnation s.local_start s.closed.items s.active s.line s.flushed_end has c.self.invariant.segments c.self.invariant.line n from exact within c.self.invariant.opened c.self.invariant.fits d' laws' (fate_of c.publish.result) change)

pub returns-in-Ok-clause-is_observable : goal.returns-in-Ok-clause-is_observable
returns-in-Ok-clause-is_observable g c = rw (← c.self.view_is) c.publish.ensures.content.is_observable

pub returns-in-Err-clause-any_moment : goal.returns-in-Err-clause-any_moment
returns-in-Err-clause-any_moment g c =
    let s = c.self.inside in
    let n = c.args.end in
    let d = g.D.Disk.content s.disk in
    let d' = g.D.Disk.content c.publish.new.disk in
    let laws : Lawful d = g.met.D.Disk.lawful s.disk in
    let laws' : Lawful d' = g.met.D.Disk.lawful c.publish.new.disk in
    let unbroken : s.broken ≡ false = ap (λ (l : Log g.row.D.Denot). l.broken) c.self.view_is ∙ c.requires.unbroken in
    let has = c.self.invariant.has unbroken in
    let from : s.local_start ≤ n = subst (λ (l : Log g.row.D.Denot). l.local_start ≤ n) (sym c.self.view_is) c.requires.from in
    let within : n ≤ end_of s.active = subst (λ (l : Log g.row.D.Denot). n ≤ l.end) (sym c.self.view_is) c.requires.within in
    let exact : cut_point n s.closed.items s.active ≡ n = subst (λ (l : Log g.row.D.Denot). cut_point n l.closed l.active ≡ n) (sym c.self.view_is) c.requires.exact in
    let bytes_are : c.args.bytes.now ≡ manifest_bytes (manifest_of s.incarnation s.local_start (closed_by n s.closed.items) (front_to n (open_by n s.closed.items s.active)) (cut_end s.line n)) =
    subst (λ (l : Log g.row.D.Denot). c.args.bytes.now ≡ manifest_bytes (manifest_of l.incarnation l.local_start (closed_by n l.closed) (front_to n (open_by n l.closed l.active)) (cut_end l.line n))) (sym c.self.view_is) c.requires.bytes in
    let base_is : c.open_front-last.result.base ≡ (open_by n s.closed.items s.active).base = ap (λ (e : Extent). e.base) c.open_front-last.ensures ∙ ap (λ (l : List Grown). (open_by n l s.active).base) c.deref.ensures.value in
    let named = subst (λ (b : ℕ). Publishes (file.Log b) c.args.bytes.now (fate_of c.publish.result) d d') base_is c.publish.ensures.content in
    let change = subst (λ (b : List ℕ). Publishes (file.Log (open_by n s.closed.items s.active).base) b (fate_of c.publish.result) d d') bytes_are named in
    rw (← c.self.view_is) (settle_since d laws s.incarnation s.local_start s.closed.items s.active s.line s.flushed_end has c.self.invariant.segments c.self.invariant.line n from exact within c.self.invariant.opened c.self.invariant.fits d' laws' (fate_of c.publish.result) change)

pub returns-in-Err-clause-opens : goal.returns-in-Err-clause-opens
returns-in-Err-clause-opens g c =
    let s = c.self.inside in
    let n = c.args.end in
    let d = g.D.Disk.content s.disk in
    let d' = g.D.Disk.content c.publish.new.disk in
    let laws : Lawful d = g.met.D.Disk.lawful s.disk in
    let laws' : Lawful d' = g.met.D.Disk.lawful c.publish.new.disk in
    let unbroken : s.broken ≡ false = ap (λ (l : Log g.row.D.Denot). l.broken) c.self.view_is ∙ c.requires.unbroken in
    let has = c.self.invariant.has unbroken in
    let from : s.local_start ≤ n = subst (λ (l : Log g.row.D.Denot). l.local_start ≤ n) (sym c.self.view_is) c.requires.from in
    let within : n ≤ end_of s.active = subst (λ (l : Log g.row.D.Denot). n ≤ l.end) (sym c.self.view_is) c.requires.within in
    let exact : cut_point n s.closed.items s.active ≡ n = subst (λ (l : Log g.row.D.Denot). cut_point n l.closed l.active ≡ n) (sym c.self.view_is) c.requires.exact in
    let bytes_are : c.args.bytes.now ≡ manifest_bytes (manifest_of s.incarnation s.local_start (closed_by n s.closed.items) (front_to n (open_by n s.closed.items s.active)) (cut_end s.line n)) =
    subst (λ (l : Log g.row.D.Denot). c.args.bytes.now ≡ manifest_bytes (manifest_of l.incarnation l.local_start (closed_by n l.closed) (front_to n (open_by n l.closed l.active)) (cut_end l.line n))) (sym c.self.view_is) c.requires.bytes in
    let base_is : c.open_front-last.result.base ≡ (open_by n s.closed.items s.active).base = ap (λ (e : Extent). e.base) c.open_front-last.ensures ∙ ap (λ (l : List Grown). (open_by n l s.active).base) c.deref.ensures.value in
    let named = subst (λ (b : ℕ). Publishes (file.Log b) c.args.bytes.now (fate_of c.publish.result) d d') base_is c.publish.ensures.content in
    let change = subst (λ (b : List ℕ). Publishes (file.Log (open_by n s.closed.items s.active).base) b (fate_of c.publish.result) d d') bytes_are named in
    rw (← c.self.view_is) (settle_as d laws s.incarnation s.local_start s.closed.items s.active s.line s.flushed_end has c.self.invariant.segments c.self.invariant.line n from exact within c.self.invariant.opened c.self.invariant.fits d' laws' (fate_of c.publish.result) change)

pub returns-in-Err-clause-is_observable : goal.returns-in-Err-clause-is_observable
returns-in-Err-clause-is_observable g c = rw (← c.self.view_is) c.publish.ensures.content.is_observable

pub returns-in-Ok-clause-either : goal.returns-in-Ok-clause-either
returns-in-Ok-clause-either g c = rw (← c.self.view_is) (either_opens (g.D.Disk.content c.self.inside.disk) (g.D.Disk.content c.publish.new.disk) c.publish.ensures.either)

pub returns-in-Err-clause-either : goal.returns-in-Err-clause-either
returns-in-Err-clause-either g c = rw (← c.self.view_is) (either_opens (g.D.Disk.content c.self.inside.disk) (g.D.Disk.content c.publish.new.disk) c.publish.ensures.either)
