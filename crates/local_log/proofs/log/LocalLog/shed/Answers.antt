use Rattle.std.proofs.Common.{◌≡◌, ◌∙◌, ◌≤◌, ℕ, List, false, refl, sym, ap, subst, arith, ◌++◌, ◌∷◌, []}
use Rattle.std.proofs.lemmas.Bool.{true≢false}
use Rattle.tier_base.specs.Device.{failing, Went}
use Rattle.disk_model.specs.Content.{Lawful}
use Rattle.epoch_line.specs.Line.{cut_end, IsLine}
use Rattle.segment_file.specs.Growing.{Grown}
use Rattle.log_steps.specs.Fronts.{Each}
use Rattle.local_log.specs.Log.{Log}
use Rattle.local_log.specs.Stored.{end_of, size_of, all_batches}
use Rattle.local_log.specs.Listing.{front_to, AreSegmentsOf}
use Rattle.local_log.specs.Inside.{DiskHasLog}
use Rattle.local_log.specs.Cutting.{closed_by, open_by, behind, names_of, cut_point, Trims}
use Rattle.local_log.proofs.Becoming.{becomes_by}
use Rattle.local_log.proofs.Lines.{below_cut}
use Rattle.local_log.proofs.Parting.{last_low, later_high}
use Rattle.local_log.proofs.Shortened.{short_are, short_line}
use Rattle.local_log.proofs.Shedding.{last_apart, shed_since, shed_reopens, shed_batches, shed_has}
use Rattle.local_log.proofs.log.LocalLog.shed.Goals as goal

pub trim-requires-clause-apart : goal.trim-requires-clause-apart
trim-requires-clause-apart g c =
    let s = c.self.inside in
    let n = c.args.end in
    let from : s.local_start ≤ n = subst (λ (l : Log g.row.D.Denot). l.local_start ≤ n) (sym c.self.view_is) c.requires.from in
    rw c.deref.ensures.value (last_apart (open_by n s.closed.items s.active).base n (behind n s.closed.items s.active) (last_low s.local_start n s.closed.items s.active c.self.invariant.segments from) (later_high s.local_start n s.closed.items s.active c.self.invariant.segments from))

pub invariant_of-self : goal.invariant_of-self
invariant_of-self g c =
    let s = c.self.inside in
    let n = c.args.end in
    let d = g.D.Disk.content s.disk in
    let d' = g.D.Disk.content c.trim.new.disk in
    let laws : Lawful d = g.met.D.Disk.lawful s.disk in
    let laws' : Lawful d' = g.met.D.Disk.lawful c.trim.new.disk in
    let unbroken : s.broken ≡ false = ap (λ (l : Log g.row.D.Denot). l.broken) c.self.view_is ∙ c.requires.unbroken in
    let has = c.self.invariant.has unbroken in
    let from : s.local_start ≤ n = subst (λ (l : Log g.row.D.Denot). l.local_start ≤ n) (sym c.self.view_is) c.requires.from in
    let up : s.flushed_end ≤ n = subst (λ (l : Log g.row.D.Denot). l.flushed_end ≤ n) (sym c.self.view_is) c.requires.above in
    let within : n ≤ end_of s.active = subst (λ (l : Log g.row.D.Denot). n ≤ l.end) (sym c.self.view_is) c.requires.within in
    let exact : cut_point n s.closed.items s.active ≡ n = subst (λ (l : Log g.row.D.Denot). cut_point n l.closed l.active ≡ n) (sym c.self.view_is) c.requires.exact in
    let change = subst (λ (l : List Grown). Trims (names_of (behind n l s.active)) (open_by n l s.active).base (size_of (front_to n (open_by n l s.active))) (failing c.trim.result) d d') c.deref.ensures.value c.trim.ensures.content in
    let closed_new : c.cut_segments.new.closed.items ≡ closed_by n s.closed.items = c.cut_segments.ensures.closed in
    let active_new : c.cut_segments.new.active ≡ front_to n (open_by n s.closed.items s.active) = c.cut_segments.ensures.active in
    let line_new : c.cut_end.new.self ≡ cut_end s.line n = c.cut_end.ensures in
    let end_is : end_of c.cut_segments.new.active ≡ n = ap end_of active_new ∙ exact in
    let went : failing c.trim.result ≡ Went = ap failing c.in-Ok.is in
    record {
      segments = subst (λ (x : Grown). AreSegmentsOf s.local_start c.cut_segments.new.closed.items x) (sym active_new) (subst (λ (l : List Grown). AreSegmentsOf s.local_start l (front_to n (open_by n s.closed.items s.active))) (sym closed_new) (short_are d s.incarnation s.local_start s.closed.items s.active s.line s.flushed_end has c.self.invariant.segments c.self.invariant.line n from exact within));
      settings = c.self.invariant.settings;
      opened = c.self.invariant.opened;
      fits = c.self.invariant.fits;
      line = subst IsLine (sym line_new) (short_line d s.incarnation s.local_start s.closed.items s.active s.line s.flushed_end has c.self.invariant.segments c.self.invariant.line n from exact within);
      line_within = subst (λ (k : ℕ). Each (λ (e : ℕ × ℕ). e.1 ≤ k) c.cut_end.new.self) (sym end_is) (subst (Each (λ (e : ℕ × ℕ). e.1 ≤ n)) (sym line_new) (below_cut s.line n));
      flushed_end_within = omega (arith, end_is, up);
      has = λ whole. subst (λ (x : Grown). DiskHasLog d' s.incarnation s.local_start c.cut_segments.new.closed.items x c.cut_end.new.self s.flushed_end) (sym active_new)
          (subst (λ (l : List Grown). DiskHasLog d' s.incarnation s.local_start l (front_to n (open_by n s.closed.items s.active)) c.cut_end.new.self s.flushed_end) (sym closed_new)
          (subst (λ (l : List (ℕ × ℕ)). DiskHasLog d' s.incarnation s.local_start (closed_by n s.closed.items) (front_to n (open_by n s.closed.items s.active)) l s.flushed_end) (sym line_new)
          (shed_has d laws s.incarnation s.local_start s.closed.items s.active s.line s.flushed_end has c.self.invariant.segments c.self.invariant.line n from exact within up d' laws' (failing c.trim.result) change went)));
      reopens = shed_reopens d laws s.incarnation s.local_start s.closed.items s.active s.line s.flushed_end has c.self.invariant.segments c.self.invariant.line n from exact within up d' laws' (failing c.trim.result) change;
    }

pub invariant_of-self-in-Err : goal.invariant_of-self-in-Err
invariant_of-self-in-Err g c =
    let s = c.self.inside in
    let n = c.args.end in
    let d = g.D.Disk.content s.disk in
    let d' = g.D.Disk.content c.trim.new.disk in
    let laws : Lawful d = g.met.D.Disk.lawful s.disk in
    let laws' : Lawful d' = g.met.D.Disk.lawful c.trim.new.disk in
    let unbroken : s.broken ≡ false = ap (λ (l : Log g.row.D.Denot). l.broken) c.self.view_is ∙ c.requires.unbroken in
    let has = c.self.invariant.has unbroken in
    let from : s.local_start ≤ n = subst (λ (l : Log g.row.D.Denot). l.local_start ≤ n) (sym c.self.view_is) c.requires.from in
    let up : s.flushed_end ≤ n = subst (λ (l : Log g.row.D.Denot). l.flushed_end ≤ n) (sym c.self.view_is) c.requires.above in
    let within : n ≤ end_of s.active = subst (λ (l : Log g.row.D.Denot). n ≤ l.end) (sym c.self.view_is) c.requires.within in
    let exact : cut_point n s.closed.items s.active ≡ n = subst (λ (l : Log g.row.D.Denot). cut_point n l.closed l.active ≡ n) (sym c.self.view_is) c.requires.exact in
    let change = subst (λ (l : List Grown). Trims (names_of (behind n l s.active)) (open_by n l s.active).base (size_of (front_to n (open_by n l s.active))) (failing c.trim.result) d d') c.deref.ensures.value c.trim.ensures.content in
    record {
      segments = c.self.invariant.segments;
      settings = c.self.invariant.settings;
      opened = c.self.invariant.opened;
      fits = c.self.invariant.fits;
      line = c.self.invariant.line;
      line_within = c.self.invariant.line_within;
      flushed_end_within = c.self.invariant.flushed_end_within;
      has = λ whole. absurd (true≢false whole);
      reopens = shed_reopens d laws s.incarnation s.local_start s.closed.items s.active s.line s.flushed_end has c.self.invariant.segments c.self.invariant.line n from exact within up d' laws' (failing c.trim.result) change;
    }

pub returns-in-Ok-clause-ok : goal.returns-in-Ok-clause-ok
returns-in-Ok-clause-ok g c =
    let s = c.self.inside in
    let n = c.args.end in
    let d = g.D.Disk.content s.disk in
    let d' = g.D.Disk.content c.trim.new.disk in
    let laws : Lawful d = g.met.D.Disk.lawful s.disk in
    let laws' : Lawful d' = g.met.D.Disk.lawful c.trim.new.disk in
    let unbroken : s.broken ≡ false = ap (λ (l : Log g.row.D.Denot). l.broken) c.self.view_is ∙ c.requires.unbroken in
    let has = c.self.invariant.has unbroken in
    let from : s.local_start ≤ n = subst (λ (l : Log g.row.D.Denot). l.local_start ≤ n) (sym c.self.view_is) c.requires.from in
    let up : s.flushed_end ≤ n = subst (λ (l : Log g.row.D.Denot). l.flushed_end ≤ n) (sym c.self.view_is) c.requires.above in
    let within : n ≤ end_of s.active = subst (λ (l : Log g.row.D.Denot). n ≤ l.end) (sym c.self.view_is) c.requires.within in
    let exact : cut_point n s.closed.items s.active ≡ n = subst (λ (l : Log g.row.D.Denot). cut_point n l.closed l.active ≡ n) (sym c.self.view_is) c.requires.exact in
    let change = subst (λ (l : List Grown). Trims (names_of (behind n l s.active)) (open_by n l s.active).base (size_of (front_to n (open_by n l s.active))) (failing c.trim.result) d d') c.deref.ensures.value c.trim.ensures.content in
    let closed_new : c.cut_segments.new.closed.items ≡ closed_by n s.closed.items = c.cut_segments.ensures.closed in
    let active_new : c.cut_segments.new.active ≡ front_to n (open_by n s.closed.items s.active) = c.cut_segments.ensures.active in
    let line_new : c.cut_end.new.self ≡ cut_end s.line n = c.cut_end.ensures in
    let end_is : end_of c.cut_segments.new.active ≡ n = ap end_of active_new ∙ exact in
    let went : failing c.trim.result ≡ Went = ap failing c.in-Ok.is in
    let batches_are : all_batches d'.files (c.cut_segments.new.closed.items ++ c.cut_segments.new.active ∷ []) ≡ all_batches d'.files (closed_by n s.closed.items ++ front_to n (open_by n s.closed.items s.active) ∷ []) =
    ap (λ (l : List Grown). all_batches d'.files (l ++ c.cut_segments.new.active ∷ [])) closed_new ∙ ap (λ (x : Grown). all_batches d'.files (closed_by n s.closed.items ++ x ∷ [])) active_new in
    rw (← c.self.view_is) (becomes_by g.D.Disk.content _ _ refl refl refl end_is refl line_new closed_new active_new refl change.is_observable (λ t. batches_are ∙ shed_batches d laws s.incarnation s.local_start s.closed.items s.active s.line s.flushed_end has c.self.invariant.segments c.self.invariant.line n from exact within up d' laws' (failing c.trim.result) change went t))

pub returns-in-Ok-clause-any_moment : goal.returns-in-Ok-clause-any_moment
returns-in-Ok-clause-any_moment g c =
    let s = c.self.inside in
    let n = c.args.end in
    let d = g.D.Disk.content s.disk in
    let d' = g.D.Disk.content c.trim.new.disk in
    let laws : Lawful d = g.met.D.Disk.lawful s.disk in
    let laws' : Lawful d' = g.met.D.Disk.lawful c.trim.new.disk in
    let unbroken : s.broken ≡ false = ap (λ (l : Log g.row.D.Denot). l.broken) c.self.view_is ∙ c.requires.unbroken in
    let has = c.self.invariant.has unbroken in
    let from : s.local_start ≤ n = subst (λ (l : Log g.row.D.Denot). l.local_start ≤ n) (sym c.self.view_is) c.requires.from in
    let up : s.flushed_end ≤ n = subst (λ (l : Log g.row.D.Denot). l.flushed_end ≤ n) (sym c.self.view_is) c.requires.above in
    let within : n ≤ end_of s.active = subst (λ (l : Log g.row.D.Denot). n ≤ l.end) (sym c.self.view_is) c.requires.within in
    let exact : cut_point n s.closed.items s.active ≡ n = subst (λ (l : Log g.row.D.Denot). cut_point n l.closed l.active ≡ n) (sym c.self.view_is) c.requires.exact in
    let change = subst (λ (l : List Grown). Trims (names_of (behind n l s.active)) (open_by n l s.active).base (size_of (front_to n (open_by n l s.active))) (failing c.trim.result) d d') c.deref.ensures.value c.trim.ensures.content in
    rw (← c.self.view_is) (shed_since d laws s.incarnation s.local_start s.closed.items s.active s.line s.flushed_end has c.self.invariant.segments c.self.invariant.line n from exact within up d' laws' (failing c.trim.result) change)

pub returns-in-Ok-clause-is_observable : goal.returns-in-Ok-clause-is_observable
returns-in-Ok-clause-is_observable g c = rw (← c.self.view_is) c.trim.ensures.content.is_observable

pub returns-in-Err-clause-any_moment : goal.returns-in-Err-clause-any_moment
returns-in-Err-clause-any_moment g c =
    let s = c.self.inside in
    let n = c.args.end in
    let d = g.D.Disk.content s.disk in
    let d' = g.D.Disk.content c.trim.new.disk in
    let laws : Lawful d = g.met.D.Disk.lawful s.disk in
    let laws' : Lawful d' = g.met.D.Disk.lawful c.trim.new.disk in
    let unbroken : s.broken ≡ false = ap (λ (l : Log g.row.D.Denot). l.broken) c.self.view_is ∙ c.requires.unbroken in
    let has = c.self.invariant.has unbroken in
    let from : s.local_start ≤ n = subst (λ (l : Log g.row.D.Denot). l.local_start ≤ n) (sym c.self.view_is) c.requires.from in
    let up : s.flushed_end ≤ n = subst (λ (l : Log g.row.D.Denot). l.flushed_end ≤ n) (sym c.self.view_is) c.requires.above in
    let within : n ≤ end_of s.active = subst (λ (l : Log g.row.D.Denot). n ≤ l.end) (sym c.self.view_is) c.requires.within in
    let exact : cut_point n s.closed.items s.active ≡ n = subst (λ (l : Log g.row.D.Denot). cut_point n l.closed l.active ≡ n) (sym c.self.view_is) c.requires.exact in
    let change = subst (λ (l : List Grown). Trims (names_of (behind n l s.active)) (open_by n l s.active).base (size_of (front_to n (open_by n l s.active))) (failing c.trim.result) d d') c.deref.ensures.value c.trim.ensures.content in
    rw (← c.self.view_is) (shed_since d laws s.incarnation s.local_start s.closed.items s.active s.line s.flushed_end has c.self.invariant.segments c.self.invariant.line n from exact within up d' laws' (failing c.trim.result) change)

pub returns-in-Err-clause-is_observable : goal.returns-in-Err-clause-is_observable
returns-in-Err-clause-is_observable g c = rw (← c.self.view_is) c.trim.ensures.content.is_observable
