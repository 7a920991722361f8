use Rattle.std.proofs.Common.{◌≡◌, ◌∙◌, ◌≤◌, ◌^◌, ℕ, List, [], ◌∷◌, ◌++◌, Bool, true, false, refl, sym, ap, subst, arith, IsTrue, IsFalse}
use Rattle.std.proofs.lemmas.Bool.{true≢false}
use Rattle.std.specs.Prelude.{is_ok}
use Rattle.tier_base.specs.declared.plain.FileName.TheVariants as file
use Rattle.tier_base.specs.Device.{fate_of, fate_of_trouble, MayBeDone, Dry}
use Rattle.disk_model.specs.declared.call.DiskCall.TheVariants as call
use Rattle.disk_model.specs.Content.{Lawful, Changes, appended, HasGrown as MayGrow}
use Rattle.log_terms.specs.Log.{joined}
use Rattle.segment_file.specs.Growing.{Grown}
use Rattle.epoch_line.specs.Line.{IsLine}
use Rattle.log_steps.specs.Fronts.{Each}
use Rattle.local_log.specs.Log.{Log}
use Rattle.local_log.specs.Listing.{IsLaidOut, AreSegmentsOf}
use Rattle.local_log.specs.Inside.{DiskHasLog}
use Rattle.local_log.specs.Stored.{end_of, all_batches}
use Rattle.local_log.specs.Run.{lined, is_due}
use Rattle.local_log.specs.Taking.{IsTakenIn, grown_by}
use Rattle.local_log.proofs.Becoming.{becomes_by}
use Rattle.local_log.proofs.Cutting.{cut_back}
use Rattle.local_log.proofs.Refused.{not_broken, breaks, stays}
use Rattle.local_log.proofs.Having.{start_since}
use Rattle.local_log.proofs.Appended.{appended_since, appended_reopens, appended_dry, appended_kept, appended_has, appended_batches, appended_are}
use Rattle.local_log.proofs.Taken.{taken, taken_fits, taken_bytes, taken_oks, taken_follow, taken_end, taken_lined, taken_grows, taken_up, taken_front}
use Rattle.local_log.proofs.Retold.{start_opens, appended_opens}
use Rattle.local_log.proofs.log.LocalLog.append_here.Goals as goal

pub returns-in_err-len-clause-any_moment : goal.returns-in_err-len-clause-any_moment
returns-in_err-len-clause-any_moment g c =
    let s = c.self.inside in
    let d = g.D.Disk.content s.disk in
    let laws : Lawful d = g.met.D.Disk.lawful s.disk in
    let unbroken : s.broken ≡ false = ap (λ (l : Log g.row.D.Denot). l.broken) c.self.view_is ∙ c.requires.unbroken in
    let has = c.self.invariant.has unbroken in
    rw (← c.self.view_is) (start_since d laws s.incarnation s.local_start s.closed.items s.active s.line s.flushed_end has)

pub returns-in_err-len-clause-opens : goal.returns-in_err-len-clause-opens
returns-in_err-len-clause-opens g c =
    let s = c.self.inside in
    let d = g.D.Disk.content s.disk in
    rw (← c.self.view_is) (start_opens d)

pub split_at-requires : goal.split_at-requires
split_at-requires g c =
    let s = c.self.inside in
    let t : IsTakenIn s.active c.take_in.new.segment s.line c.args.run.now s.settings.segment_bytes (c.in_ok-len.len, c.in_ok-len.line) = c.in_ok-len.ensures.ok in
    taken_fits s.active c.take_in.new.segment s.line c.args.run.now s.settings.segment_bytes (c.in_ok-len.len, c.in_ok-len.line) t c.self.invariant.line c.self.invariant.line_within

pub overflow_sub-result : goal.overflow_sub-result
overflow_sub-result g c =
    let s = c.self.inside in
    let t : IsTakenIn s.active c.take_in.new.segment s.line c.args.run.now s.settings.segment_bytes (c.in_ok-len.len, c.in_ok-len.line) = c.in_ok-len.ensures.ok in
    let fits = subst (λ (l : Log g.row.D.Denot). is_due l c.args.run.now ≡ false) (sym c.self.view_is) c.requires.fits in
    let more = taken_grows s.active c.take_in.new.segment s.line c.args.run.now s.settings.segment_bytes (c.in_ok-len.len, c.in_ok-len.line) t c.self.invariant.line c.self.invariant.line_within fits c.requires.low in
    omega (arith, c.end.ensures, more)

pub invariant_of-self-in-Ok : goal.invariant_of-self-in-Ok
invariant_of-self-in-Ok g c =
    let s = c.self.inside in
    let d = g.D.Disk.content s.disk in
    let laws : Lawful d = g.met.D.Disk.lawful s.disk in
    let unbroken : s.broken ≡ false = ap (λ (l : Log g.row.D.Denot). l.broken) c.self.view_is ∙ c.requires.unbroken in
    let has = c.self.invariant.has unbroken in
    let t : IsTakenIn s.active c.take_in.new.segment s.line c.args.run.now s.settings.segment_bytes (c.in_ok-len.len, c.in_ok-len.line) = c.in_ok-len.ensures.ok in
    let d' = g.D.Disk.content c.append-outcome.new.self in
    let laws' : Lawful d' = g.met.D.Disk.lawful c.append-outcome.new.self in
    let base_is : c.base.result ≡ s.active.base = c.base.ensures ∙ ap (λ (x : Grown). x.base) t.segment_is in
    let bytes_is : c.split_at.result.0.now ≡ joined (taken s.active c.take_in.new.segment s.line c.args.run.now s.settings.segment_bytes (c.in_ok-len.len, c.in_ok-len.line) t c.self.invariant.line c.self.invariant.line_within) = c.split_at.ensures.front ∙ taken_bytes s.active c.take_in.new.segment s.line c.args.run.now s.settings.segment_bytes (c.in_ok-len.len, c.in_ok-len.line) t c.self.invariant.line c.self.invariant.line_within in
    let M = MayBeDone call.Append (fate_of c.append-outcome.result) (g.D.Disk.control s.disk) in
    let change = subst (λ (b : ℕ). Changes (file.Log b) (appended c.split_at.result.0.now) MayGrow M d d') base_is c.append-outcome.ensures.content in
    let done : (b : Bool) → M b → IsTrue b = λ b m. m.went (ap fate_of c.in-Ok.is) in
    let laid : IsLaidOut (grown_by s.active (taken s.active c.take_in.new.segment s.line c.args.run.now s.settings.segment_bytes (c.in_ok-len.len, c.in_ok-len.line) t c.self.invariant.line c.self.invariant.line_within)) = subst IsLaidOut t.segment_is t.laid in
    let low : end_of (grown_by s.active (taken s.active c.take_in.new.segment s.line c.args.run.now s.settings.segment_bytes (c.in_ok-len.len, c.in_ok-len.line) t c.self.invariant.line c.self.invariant.line_within)) ≤ 2 ^ 62 = subst (λ (x : Grown). end_of x ≤ 2 ^ 62) t.segment_is t.low in
    let counts : IsTrue c.is_ok.result = c.is_ok.ensures.value ∙ ap is_ok c.in-Ok.is in
    let line_is : c.replace_if.new.line ≡ lined s.line (taken s.active c.take_in.new.segment s.line c.args.run.now s.settings.segment_bytes (c.in_ok-len.len, c.in_ok-len.line) t c.self.invariant.line c.self.invariant.line_within) = c.replace_if.ensures.counts counts ∙ t.line_is in
    let has' = appended_has d d' laws laws' s.incarnation s.local_start s.closed.items s.active s.line s.flushed_end has c.split_at.result.0.now M change done (taken s.active c.take_in.new.segment s.line c.args.run.now s.settings.segment_bytes (c.in_ok-len.len, c.in_ok-len.line) t c.self.invariant.line c.self.invariant.line_within) bytes_is (taken_oks s.active c.take_in.new.segment s.line c.args.run.now s.settings.segment_bytes (c.in_ok-len.len, c.in_ok-len.line) t c.self.invariant.line c.self.invariant.line_within) (taken_follow s.active c.take_in.new.segment s.line c.args.run.now s.settings.segment_bytes (c.in_ok-len.len, c.in_ok-len.line) t c.self.invariant.line c.self.invariant.line_within) c.self.invariant.segments c.self.invariant.flushed_end_within c.self.invariant.line (taken_lined s.active c.take_in.new.segment s.line c.args.run.now s.settings.segment_bytes (c.in_ok-len.len, c.in_ok-len.line) t c.self.invariant.line c.self.invariant.line_within) laid low in
    record {
      segments = subst (λ (x : Grown). AreSegmentsOf s.local_start s.closed.items x) (sym t.segment_is) (appended_are d d' laws laws' s.incarnation s.local_start s.closed.items s.active s.line s.flushed_end has c.split_at.result.0.now M change done (taken s.active c.take_in.new.segment s.line c.args.run.now s.settings.segment_bytes (c.in_ok-len.len, c.in_ok-len.line) t c.self.invariant.line c.self.invariant.line_within) bytes_is (taken_oks s.active c.take_in.new.segment s.line c.args.run.now s.settings.segment_bytes (c.in_ok-len.len, c.in_ok-len.line) t c.self.invariant.line c.self.invariant.line_within) (taken_follow s.active c.take_in.new.segment s.line c.args.run.now s.settings.segment_bytes (c.in_ok-len.len, c.in_ok-len.line) t c.self.invariant.line c.self.invariant.line_within) c.self.invariant.segments c.self.invariant.flushed_end_within c.self.invariant.line (taken_lined s.active c.take_in.new.segment s.line c.args.run.now s.settings.segment_bytes (c.in_ok-len.len, c.in_ok-len.line) t c.self.invariant.line c.self.invariant.line_within) laid low);
      settings = c.self.invariant.settings;
      opened = c.self.invariant.opened;
      fits = c.self.invariant.fits;
      line = subst IsLine (sym line_is) (taken_lined s.active c.take_in.new.segment s.line c.args.run.now s.settings.segment_bytes (c.in_ok-len.len, c.in_ok-len.line) t c.self.invariant.line c.self.invariant.line_within).is;
      line_within = subst (λ (l : List (ℕ × ℕ)). Each (λ (e : ℕ × ℕ). e.1 ≤ end_of c.take_in.new.segment) l) (sym line_is)
          (subst (λ (n : ℕ). Each (λ (e : ℕ × ℕ). e.1 ≤ n) (lined s.line (taken s.active c.take_in.new.segment s.line c.args.run.now s.settings.segment_bytes (c.in_ok-len.len, c.in_ok-len.line) t c.self.invariant.line c.self.invariant.line_within))) (sym (taken_end s.active c.take_in.new.segment s.line c.args.run.now s.settings.segment_bytes (c.in_ok-len.len, c.in_ok-len.line) t c.self.invariant.line c.self.invariant.line_within)) (taken_lined s.active c.take_in.new.segment s.line c.args.run.now s.settings.segment_bytes (c.in_ok-len.len, c.in_ok-len.line) t c.self.invariant.line c.self.invariant.line_within).within);
      flushed_end_within = (let up = taken_up s.active c.take_in.new.segment s.line c.args.run.now s.settings.segment_bytes (c.in_ok-len.len, c.in_ok-len.line) t c.self.invariant.line c.self.invariant.line_within in omega (arith, up, c.self.invariant.flushed_end_within));
      has = λ whole. subst (λ (l : List (ℕ × ℕ)). DiskHasLog d' s.incarnation s.local_start s.closed.items c.take_in.new.segment l s.flushed_end) (sym line_is)
          (subst (λ (x : Grown). DiskHasLog d' s.incarnation s.local_start s.closed.items x (lined s.line (taken s.active c.take_in.new.segment s.line c.args.run.now s.settings.segment_bytes (c.in_ok-len.len, c.in_ok-len.line) t c.self.invariant.line c.self.invariant.line_within)) s.flushed_end) (sym t.segment_is) has');
      reopens = appended_reopens d d' laws laws' s.incarnation s.local_start s.closed.items s.active s.line s.flushed_end has c.split_at.result.0.now M change;
    }

pub returns-in-Ok-clause-ok : goal.returns-in-Ok-clause-ok
returns-in-Ok-clause-ok g c =
    let s = c.self.inside in
    let d = g.D.Disk.content s.disk in
    let laws : Lawful d = g.met.D.Disk.lawful s.disk in
    let unbroken : s.broken ≡ false = ap (λ (l : Log g.row.D.Denot). l.broken) c.self.view_is ∙ c.requires.unbroken in
    let has = c.self.invariant.has unbroken in
    let t : IsTakenIn s.active c.take_in.new.segment s.line c.args.run.now s.settings.segment_bytes (c.in_ok-len.len, c.in_ok-len.line) = c.in_ok-len.ensures.ok in
    let d' = g.D.Disk.content c.append-outcome.new.self in
    let laws' : Lawful d' = g.met.D.Disk.lawful c.append-outcome.new.self in
    let base_is : c.base.result ≡ s.active.base = c.base.ensures ∙ ap (λ (x : Grown). x.base) t.segment_is in
    let bytes_is : c.split_at.result.0.now ≡ joined (taken s.active c.take_in.new.segment s.line c.args.run.now s.settings.segment_bytes (c.in_ok-len.len, c.in_ok-len.line) t c.self.invariant.line c.self.invariant.line_within) = c.split_at.ensures.front ∙ taken_bytes s.active c.take_in.new.segment s.line c.args.run.now s.settings.segment_bytes (c.in_ok-len.len, c.in_ok-len.line) t c.self.invariant.line c.self.invariant.line_within in
    let M = MayBeDone call.Append (fate_of c.append-outcome.result) (g.D.Disk.control s.disk) in
    let change = subst (λ (b : ℕ). Changes (file.Log b) (appended c.split_at.result.0.now) MayGrow M d d') base_is c.append-outcome.ensures.content in
    let done : (b : Bool) → M b → IsTrue b = λ b m. m.went (ap fate_of c.in-Ok.is) in
    let laid : IsLaidOut (grown_by s.active (taken s.active c.take_in.new.segment s.line c.args.run.now s.settings.segment_bytes (c.in_ok-len.len, c.in_ok-len.line) t c.self.invariant.line c.self.invariant.line_within)) = subst IsLaidOut t.segment_is t.laid in
    let low : end_of (grown_by s.active (taken s.active c.take_in.new.segment s.line c.args.run.now s.settings.segment_bytes (c.in_ok-len.len, c.in_ok-len.line) t c.self.invariant.line c.self.invariant.line_within)) ≤ 2 ^ 62 = subst (λ (x : Grown). end_of x ≤ 2 ^ 62) t.segment_is t.low in
    let counts : IsTrue c.is_ok.result = c.is_ok.ensures.value ∙ ap is_ok c.in-Ok.is in
    let line_is : c.replace_if.new.line ≡ lined s.line (taken s.active c.take_in.new.segment s.line c.args.run.now s.settings.segment_bytes (c.in_ok-len.len, c.in_ok-len.line) t c.self.invariant.line c.self.invariant.line_within) = c.replace_if.ensures.counts counts ∙ t.line_is in
    let fits = subst (λ (l : Log g.row.D.Denot). is_due l c.args.run.now ≡ false) (sym c.self.view_is) c.requires.fits in
    let more = taken_grows s.active c.take_in.new.segment s.line c.args.run.now s.settings.segment_bytes (c.in_ok-len.len, c.in_ok-len.line) t c.self.invariant.line c.self.invariant.line_within fits c.requires.low in
    let end_is : c.end.result ≡ end_of c.take_in.new.segment = c.end.ensures in
    let batches_are = ap (λ (x : Grown). all_batches d'.files (s.closed.items ++ x ∷ [])) t.segment_is in
    rw (← c.self.view_is) (record {
      is = t.is;
      becomes = becomes_by g.D.Disk.content _ _ refl refl refl (taken_end s.active c.take_in.new.segment s.line c.args.run.now s.settings.segment_bytes (c.in_ok-len.len, c.in_ok-len.line) t c.self.invariant.line c.self.invariant.line_within) refl line_is refl t.segment_is refl change.is_observable (λ told. batches_are ∙ appended_batches d d' laws laws' s.incarnation s.local_start s.closed.items s.active s.line s.flushed_end has c.split_at.result.0.now M change done (taken s.active c.take_in.new.segment s.line c.args.run.now s.settings.segment_bytes (c.in_ok-len.len, c.in_ok-len.line) t c.self.invariant.line c.self.invariant.line_within) bytes_is (taken_oks s.active c.take_in.new.segment s.line c.args.run.now s.settings.segment_bytes (c.in_ok-len.len, c.in_ok-len.line) t c.self.invariant.line c.self.invariant.line_within) (taken_follow s.active c.take_in.new.segment s.line c.args.run.now s.settings.segment_bytes (c.in_ok-len.len, c.in_ok-len.line) t c.self.invariant.line c.self.invariant.line_within) c.self.invariant.segments c.self.invariant.flushed_end_within c.self.invariant.line (taken_lined s.active c.take_in.new.segment s.line c.args.run.now s.settings.segment_bytes (c.in_ok-len.len, c.in_ok-len.line) t c.self.invariant.line c.self.invariant.line_within) laid low told);
      base_is = c.end-end.ensures;
      last_is = omega (arith, more, end_is);
    })

pub returns-in-Ok-clause-any_moment : goal.returns-in-Ok-clause-any_moment
returns-in-Ok-clause-any_moment g c =
    let s = c.self.inside in
    let d = g.D.Disk.content s.disk in
    let laws : Lawful d = g.met.D.Disk.lawful s.disk in
    let unbroken : s.broken ≡ false = ap (λ (l : Log g.row.D.Denot). l.broken) c.self.view_is ∙ c.requires.unbroken in
    let has = c.self.invariant.has unbroken in
    let t : IsTakenIn s.active c.take_in.new.segment s.line c.args.run.now s.settings.segment_bytes (c.in_ok-len.len, c.in_ok-len.line) = c.in_ok-len.ensures.ok in
    let d' = g.D.Disk.content c.append-outcome.new.self in
    let laws' : Lawful d' = g.met.D.Disk.lawful c.append-outcome.new.self in
    let base_is : c.base.result ≡ s.active.base = c.base.ensures ∙ ap (λ (x : Grown). x.base) t.segment_is in
    let M = MayBeDone call.Append (fate_of c.append-outcome.result) (g.D.Disk.control s.disk) in
    let change = subst (λ (b : ℕ). Changes (file.Log b) (appended c.split_at.result.0.now) MayGrow M d d') base_is c.append-outcome.ensures.content in
    rw (← c.self.view_is) (appended_since d d' laws laws' s.incarnation s.local_start s.closed.items s.active s.line s.flushed_end has c.split_at.result.0.now M change)

pub returns-in-Ok-clause-opens : goal.returns-in-Ok-clause-opens
returns-in-Ok-clause-opens g c =
    let s = c.self.inside in
    let d = g.D.Disk.content s.disk in
    let laws : Lawful d = g.met.D.Disk.lawful s.disk in
    let unbroken : s.broken ≡ false = ap (λ (l : Log g.row.D.Denot). l.broken) c.self.view_is ∙ c.requires.unbroken in
    let has = c.self.invariant.has unbroken in
    let t : IsTakenIn s.active c.take_in.new.segment s.line c.args.run.now s.settings.segment_bytes (c.in_ok-len.len, c.in_ok-len.line) = c.in_ok-len.ensures.ok in
    let d' = g.D.Disk.content c.append-outcome.new.self in
    let laws' : Lawful d' = g.met.D.Disk.lawful c.append-outcome.new.self in
    let base_is : c.base.result ≡ s.active.base = c.base.ensures ∙ ap (λ (x : Grown). x.base) t.segment_is in
    let M = MayBeDone call.Append (fate_of c.append-outcome.result) (g.D.Disk.control s.disk) in
    let change = subst (λ (b : ℕ). Changes (file.Log b) (appended c.split_at.result.0.now) MayGrow M d d') base_is c.append-outcome.ensures.content in
    rw (← c.self.view_is) (appended_opens d laws s.incarnation s.local_start s.closed.items s.active s.line s.flushed_end has d' laws' c.split_at.result.0.now M change)

pub invariant_of-self-in-Err : goal.invariant_of-self-in-Err
invariant_of-self-in-Err g c =
    let s = c.self.inside in
    let d = g.D.Disk.content s.disk in
    let laws : Lawful d = g.met.D.Disk.lawful s.disk in
    let unbroken : s.broken ≡ false = ap (λ (l : Log g.row.D.Denot). l.broken) c.self.view_is ∙ c.requires.unbroken in
    let has = c.self.invariant.has unbroken in
    let t : IsTakenIn s.active c.take_in.new.segment s.line c.args.run.now s.settings.segment_bytes (c.in_ok-len.len, c.in_ok-len.line) = c.in_ok-len.ensures.ok in
    let d' = g.D.Disk.content c.append-outcome.new.self in
    let laws' : Lawful d' = g.met.D.Disk.lawful c.append-outcome.new.self in
    let base_is : c.base.result ≡ s.active.base = c.base.ensures ∙ ap (λ (x : Grown). x.base) t.segment_is in
    let M = MayBeDone call.Append (fate_of c.append-outcome.result) (g.D.Disk.control s.disk) in
    let change = subst (λ (b : ℕ). Changes (file.Log b) (appended c.split_at.result.0.now) MayGrow M d d') base_is c.append-outcome.ensures.content in
    let cut_is : c.cut_to.new.self ≡ s.active = c.cut_to.ensures ∙ cut_back s.active c.take_in.new.segment c.end-end.result c.end-end.ensures (taken_front s.active c.take_in.new.segment s.line c.args.run.now s.settings.segment_bytes (c.in_ok-len.len, c.in_ok-len.line) t c.self.invariant.line c.self.invariant.line_within) in
    let fails : IsFalse c.is_ok.result = c.is_ok.ensures.value ∙ ap is_ok c.in-Err.is in
    let line_is : c.replace_if.new.line ≡ s.line = c.replace_if.ensures.not fails in
    record {
      segments = subst (λ (x : Grown). AreSegmentsOf s.local_start s.closed.items x) (sym cut_is) c.self.invariant.segments;
      settings = c.self.invariant.settings;
      opened = c.self.invariant.opened;
      fits = c.self.invariant.fits;
      line = subst IsLine (sym line_is) c.self.invariant.line;
      line_within = subst (λ (x : Grown). Each (λ (e : ℕ × ℕ). e.1 ≤ end_of x) c.replace_if.new.line) (sym cut_is)
          (subst (λ (l : List (ℕ × ℕ)). Each (λ (e : ℕ × ℕ). e.1 ≤ end_of s.active) l) (sym line_is) c.self.invariant.line_within);
      flushed_end_within = subst (λ (x : Grown). s.flushed_end ≤ end_of x) (sym cut_is) c.self.invariant.flushed_end_within;
      has = λ whole. (
          let dry : fate_of c.append-outcome.result ≡ Dry = ap fate_of c.in-Err.is ∙ ap fate_of_trouble (not_broken c.in-Err.trouble c.refused.result c.refused.new.broken c.refused.ensures.fault whole) in
          let same = appended_dry d d' laws laws' s.incarnation s.local_start s.closed.items s.active s.line s.flushed_end has c.split_at.result.0.now M change (λ m. true≢false (m.dry dry)) in
          subst (λ (l : List (ℕ × ℕ)). DiskHasLog d' s.incarnation s.local_start s.closed.items c.cut_to.new.self l s.flushed_end) (sym line_is)
          (subst (λ (x : Grown). DiskHasLog d' s.incarnation s.local_start s.closed.items x s.line s.flushed_end) (sym cut_is) same)
          );
      reopens = appended_reopens d d' laws laws' s.incarnation s.local_start s.closed.items s.active s.line s.flushed_end has c.split_at.result.0.now M change;
    }

pub returns-in-Err-clause-any_moment : goal.returns-in-Err-clause-any_moment
returns-in-Err-clause-any_moment g c =
    let s = c.self.inside in
    let d = g.D.Disk.content s.disk in
    let laws : Lawful d = g.met.D.Disk.lawful s.disk in
    let unbroken : s.broken ≡ false = ap (λ (l : Log g.row.D.Denot). l.broken) c.self.view_is ∙ c.requires.unbroken in
    let has = c.self.invariant.has unbroken in
    let t : IsTakenIn s.active c.take_in.new.segment s.line c.args.run.now s.settings.segment_bytes (c.in_ok-len.len, c.in_ok-len.line) = c.in_ok-len.ensures.ok in
    let d' = g.D.Disk.content c.append-outcome.new.self in
    let laws' : Lawful d' = g.met.D.Disk.lawful c.append-outcome.new.self in
    let base_is : c.base.result ≡ s.active.base = c.base.ensures ∙ ap (λ (x : Grown). x.base) t.segment_is in
    let M = MayBeDone call.Append (fate_of c.append-outcome.result) (g.D.Disk.control s.disk) in
    let change = subst (λ (b : ℕ). Changes (file.Log b) (appended c.split_at.result.0.now) MayGrow M d d') base_is c.append-outcome.ensures.content in
    rw (← c.self.view_is) (appended_since d d' laws laws' s.incarnation s.local_start s.closed.items s.active s.line s.flushed_end has c.split_at.result.0.now M change)

pub returns-in-Err-clause-opens : goal.returns-in-Err-clause-opens
returns-in-Err-clause-opens g c =
    let s = c.self.inside in
    let d = g.D.Disk.content s.disk in
    let laws : Lawful d = g.met.D.Disk.lawful s.disk in
    let unbroken : s.broken ≡ false = ap (λ (l : Log g.row.D.Denot). l.broken) c.self.view_is ∙ c.requires.unbroken in
    let has = c.self.invariant.has unbroken in
    let t : IsTakenIn s.active c.take_in.new.segment s.line c.args.run.now s.settings.segment_bytes (c.in_ok-len.len, c.in_ok-len.line) = c.in_ok-len.ensures.ok in
    let d' = g.D.Disk.content c.append-outcome.new.self in
    let laws' : Lawful d' = g.met.D.Disk.lawful c.append-outcome.new.self in
    let base_is : c.base.result ≡ s.active.base = c.base.ensures ∙ ap (λ (x : Grown). x.base) t.segment_is in
    let M = MayBeDone call.Append (fate_of c.append-outcome.result) (g.D.Disk.control s.disk) in
    let change = subst (λ (b : ℕ). Changes (file.Log b) (appended c.split_at.result.0.now) MayGrow M d d') base_is c.append-outcome.ensures.content in
    rw (← c.self.view_is) (appended_opens d laws s.incarnation s.local_start s.closed.items s.active s.line s.flushed_end has d' laws' c.split_at.result.0.now M change)

pub returns-in-Err-clause-no_memory : goal.returns-in-Err-clause-no_memory
returns-in-Err-clause-no_memory g c =
    let s = c.self.inside in
    let d = g.D.Disk.content s.disk in
    let laws : Lawful d = g.met.D.Disk.lawful s.disk in
    let unbroken : s.broken ≡ false = ap (λ (l : Log g.row.D.Denot). l.broken) c.self.view_is ∙ c.requires.unbroken in
    let has = c.self.invariant.has unbroken in
    let t : IsTakenIn s.active c.take_in.new.segment s.line c.args.run.now s.settings.segment_bytes (c.in_ok-len.len, c.in_ok-len.line) = c.in_ok-len.ensures.ok in
    let d' = g.D.Disk.content c.append-outcome.new.self in
    let laws' : Lawful d' = g.met.D.Disk.lawful c.append-outcome.new.self in
    let base_is : c.base.result ≡ s.active.base = c.base.ensures ∙ ap (λ (x : Grown). x.base) t.segment_is in
    let M = MayBeDone call.Append (fate_of c.append-outcome.result) (g.D.Disk.control s.disk) in
    let change = subst (λ (b : ℕ). Changes (file.Log b) (appended c.split_at.result.0.now) MayGrow M d d') base_is c.append-outcome.ensures.content in
    let cut_is : c.cut_to.new.self ≡ s.active = c.cut_to.ensures ∙ cut_back s.active c.take_in.new.segment c.end-end.result c.end-end.ensures (taken_front s.active c.take_in.new.segment s.line c.args.run.now s.settings.segment_bytes (c.in_ok-len.len, c.in_ok-len.line) t c.self.invariant.line c.self.invariant.line_within) in
    let fails : IsFalse c.is_ok.result = c.is_ok.ensures.value ∙ ap is_ok c.in-Err.is in
    let line_is : c.replace_if.new.line ≡ s.line = c.replace_if.ensures.not fails in
    let end_is = ap end_of cut_is in
    let batches_are = ap (λ (x : Grown). all_batches d'.files (s.closed.items ++ x ∷ [])) cut_is in
    λ is.
    let broken_is : c.refused.new.broken ≡ s.broken = stays c.in-Err.trouble c.refused.result c.refused.new.broken s.broken c.refused.ensures.fault c.refused.ensures.memory (cc is) in
    rw (← c.self.view_is) (becomes_by g.D.Disk.content _ _ refl refl refl end_is refl line_is refl cut_is broken_is change.is_observable (λ told. batches_are ∙ appended_kept d d' laws laws' s.incarnation s.local_start s.closed.items s.active s.line s.flushed_end has c.split_at.result.0.now M change told))

pub returns-in-Err-clause-broken : goal.returns-in-Err-clause-broken
returns-in-Err-clause-broken g c =
    let s = c.self.inside in
    let d = g.D.Disk.content s.disk in
    let laws : Lawful d = g.met.D.Disk.lawful s.disk in
    let unbroken : s.broken ≡ false = ap (λ (l : Log g.row.D.Denot). l.broken) c.self.view_is ∙ c.requires.unbroken in
    let has = c.self.invariant.has unbroken in
    let t : IsTakenIn s.active c.take_in.new.segment s.line c.args.run.now s.settings.segment_bytes (c.in_ok-len.len, c.in_ok-len.line) = c.in_ok-len.ensures.ok in
    let d' = g.D.Disk.content c.append-outcome.new.self in
    let laws' : Lawful d' = g.met.D.Disk.lawful c.append-outcome.new.self in
    let base_is : c.base.result ≡ s.active.base = c.base.ensures ∙ ap (λ (x : Grown). x.base) t.segment_is in
    let M = MayBeDone call.Append (fate_of c.append-outcome.result) (g.D.Disk.control s.disk) in
    let change = subst (λ (b : ℕ). Changes (file.Log b) (appended c.split_at.result.0.now) MayGrow M d d') base_is c.append-outcome.ensures.content in
    let cut_is : c.cut_to.new.self ≡ s.active = c.cut_to.ensures ∙ cut_back s.active c.take_in.new.segment c.end-end.result c.end-end.ensures (taken_front s.active c.take_in.new.segment s.line c.args.run.now s.settings.segment_bytes (c.in_ok-len.len, c.in_ok-len.line) t c.self.invariant.line c.self.invariant.line_within) in
    let fails : IsFalse c.is_ok.result = c.is_ok.ensures.value ∙ ap is_ok c.in-Err.is in
    let line_is : c.replace_if.new.line ≡ s.line = c.replace_if.ensures.not fails in
    let end_is = ap end_of cut_is in
    let batches_are = ap (λ (x : Grown). all_batches d'.files (s.closed.items ++ x ∷ [])) cut_is in
    λ is.
    let broken_is : c.refused.new.broken ≡ true = breaks c.in-Err.trouble c.refused.result c.refused.new.broken s.broken c.refused.ensures.fault c.refused.ensures.memory (cc is) in
    rw (← c.self.view_is) (becomes_by g.D.Disk.content _ _ refl refl refl end_is refl line_is refl cut_is broken_is change.is_observable (λ told. batches_are ∙ appended_kept d d' laws laws' s.incarnation s.local_start s.closed.items s.active s.line s.flushed_end has c.split_at.result.0.now M change told))

pub returns-in-Ok-clause-some : goal.returns-in-Ok-clause-some
returns-in-Ok-clause-some g c =
    let s = c.self.inside in
    let t : IsTakenIn s.active c.take_in.new.segment s.line c.args.run.now s.settings.segment_bytes (c.in_ok-len.len, c.in_ok-len.line) = c.in_ok-len.ensures.ok in
    let fits = subst (λ (l : Log g.row.D.Denot). is_due l c.args.run.now ≡ false) (sym c.self.view_is) c.requires.fits in
    let more = taken_grows s.active c.take_in.new.segment s.line c.args.run.now s.settings.segment_bytes (c.in_ok-len.len, c.in_ok-len.line) t c.self.invariant.line c.self.invariant.line_within fits c.requires.low in
    omega (arith, c.end.ensures, c.end-end.ensures, more)
