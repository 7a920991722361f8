use Rattle.std.proofs.Common.{◌≡◌, ◌∙◌, ◌<◌, ◌≤◌, ◌+◌, ◌^◌, ℕ, List, [], ◌∷◌, ◌++◌, length, Bool, true, false, refl, sym, ap, subst, arith, IsTrue, IsFalse}
use Rattle.std.specs.Prelude.{is_ok}
use Rattle.std.proofs.lemmas.Bool.{true≢false}
use Rattle.tier_base.specs.declared.plain.FileName.TheVariants as file
use Rattle.tier_base.specs.Device.{fate_of, fate_of_trouble, MayBeDone, Dry}
use Rattle.disk_model.specs.declared.call.DiskCall.TheVariants as call
use Rattle.disk_model.specs.Content.{Lawful, Files, Image, BeginsWith, Changes, appended, HasGrown as MayGrow}
use Rattle.log_terms.specs.Log.{joined, end_from}
use Rattle.segment_file.specs.Growing.{Grown}
use Rattle.epoch_line.specs.Line.{IsLine}
use Rattle.log_steps.specs.Fronts.{Each}
use Rattle.local_log.specs.Log.{Log}
use Rattle.local_log.specs.Listing.{IsLaidOut, AreSegmentsOf}
use Rattle.local_log.specs.Inside.{DiskHasLog}
use Rattle.local_log.specs.Stored.{end_of, size_of, all_batches}
use Rattle.local_log.specs.Run.{lined}
use Rattle.local_log.specs.Taking.{IsTakenIn, grown_by}
use Rattle.local_log.proofs.Becoming.{becomes_by}
use Rattle.local_log.proofs.Refused.{not_broken, breaks, stays}
use Rattle.local_log.proofs.Listed.{are_rolled}
use Rattle.local_log.proofs.Having.{start_since, kept_since, has_kept, has_reopens}
use Rattle.local_log.proofs.Rolling.{twice_since, roll_batches}
use Rattle.local_log.proofs.Behind.{still, rolled_has, behind_since, behind_reopens, behind_tells, behind_kept, behind_dry}
use Rattle.local_log.proofs.Appended.{appended_has, appended_batches, appended_are}
use Rattle.local_log.proofs.Taken.{taken, taken_fits, taken_bytes, taken_oks, taken_follow, taken_end, taken_lined, taken_grows, taken_up}
use Rattle.local_log.proofs.Retold.{start_opens, kept_opens, twice_opens, behind_opens}
use Rattle.local_log.proofs.log.LocalLog.append_behind.Goals as goal

pub returns-in_err-reserve-clause-any_moment : goal.returns-in_err-reserve-clause-any_moment
returns-in_err-reserve-clause-any_moment g c =
    let s = c.self.inside in
    let d = g.D.Disk.content s.disk in
    let laws : Lawful d = g.met.D.Disk.lawful s.disk in
    let unbroken : s.broken ≡ false = ap (λ (l : Log g.row.D.Denot). l.broken) c.self.view_is ∙ c.requires.unbroken in
    let has = c.self.invariant.has unbroken in
    rw (← c.self.view_is) (start_since d laws s.incarnation s.local_start s.closed.items s.active s.line s.flushed_end has)

pub returns-in_err-reserve-clause-opens : goal.returns-in_err-reserve-clause-opens
returns-in_err-reserve-clause-opens g c =
    let s = c.self.inside in
    let d = g.D.Disk.content s.disk in
    rw (← c.self.view_is) (start_opens d)

pub invariant_of-self-in_err-reserve-2 : goal.invariant_of-self-in_err-reserve-2
invariant_of-self-in_err-reserve-2 g c =
    let s = c.self.inside in
    let d = g.D.Disk.content s.disk in
    let laws : Lawful d = g.met.D.Disk.lawful s.disk in
    let unbroken : s.broken ≡ false = ap (λ (l : Log g.row.D.Denot). l.broken) c.self.view_is ∙ c.requires.unbroken in
    let has = c.self.invariant.has unbroken in
    let m = g.D.Disk.content c.reserve-2.new.self in
    let laws-m : Lawful m = g.met.D.Disk.lawful c.reserve-2.new.self in
    let k = c.reserve-2.ensures.content in
    let has' = has_kept d laws s.incarnation s.local_start s.closed.items s.active s.line s.flushed_end has m laws-m k in
    record {
      segments = subst (λ (l : List Grown). AreSegmentsOf s.local_start l s.active) (sym c.reserve.ensures.items) c.self.invariant.segments;
      settings = c.self.invariant.settings;
      opened = c.self.invariant.opened;
      fits = c.self.invariant.fits;
      line = c.self.invariant.line;
      line_within = c.self.invariant.line_within;
      flushed_end_within = c.self.invariant.flushed_end_within;
      has = λ whole. subst (λ (l : List Grown). DiskHasLog m s.incarnation s.local_start l s.active s.line s.flushed_end) (sym c.reserve.ensures.items) has';
      reopens = has_reopens m laws-m s.incarnation s.local_start s.closed.items s.active s.line s.flushed_end has';
    }

pub returns-in_err-reserve-2-clause-any_moment : goal.returns-in_err-reserve-2-clause-any_moment
returns-in_err-reserve-2-clause-any_moment g c =
    let s = c.self.inside in
    let d = g.D.Disk.content s.disk in
    let laws : Lawful d = g.met.D.Disk.lawful s.disk in
    let unbroken : s.broken ≡ false = ap (λ (l : Log g.row.D.Denot). l.broken) c.self.view_is ∙ c.requires.unbroken in
    let has = c.self.invariant.has unbroken in
    let m = g.D.Disk.content c.reserve-2.new.self in
    let laws-m : Lawful m = g.met.D.Disk.lawful c.reserve-2.new.self in
    let k = c.reserve-2.ensures.content in
    rw (← c.self.view_is) (kept_since d laws s.incarnation s.local_start s.closed.items s.active s.line s.flushed_end has m laws-m k)

pub returns-in_err-reserve-2-clause-opens : goal.returns-in_err-reserve-2-clause-opens
returns-in_err-reserve-2-clause-opens g c =
    let s = c.self.inside in
    let d = g.D.Disk.content s.disk in
    let m = g.D.Disk.content c.reserve-2.new.self in
    let k = c.reserve-2.ensures.content in
    rw (← c.self.view_is) (kept_opens d m k)

pub returns-in-Err-clause-any_moment : goal.returns-in-Err-clause-any_moment
returns-in-Err-clause-any_moment g c =
    let s = c.self.inside in
    let d = g.D.Disk.content s.disk in
    let laws : Lawful d = g.met.D.Disk.lawful s.disk in
    let unbroken : s.broken ≡ false = ap (λ (l : Log g.row.D.Denot). l.broken) c.self.view_is ∙ c.requires.unbroken in
    let has = c.self.invariant.has unbroken in
    let m = g.D.Disk.content c.reserve-2.new.self in
    let laws-m : Lawful m = g.met.D.Disk.lawful c.reserve-2.new.self in
    let k = c.reserve-2.ensures.content in
    let m2 = g.D.Disk.content c.sync.new.self in
    let laws2 : Lawful m2 = g.met.D.Disk.lawful c.sync.new.self in
    let k2 = c.sync.ensures.content in
    rw (← c.self.view_is) (twice_since d m m2 laws laws-m laws2 s.incarnation s.local_start s.closed.items s.active s.line s.flushed_end has k k2)

pub returns-in-Err-clause-opens : goal.returns-in-Err-clause-opens
returns-in-Err-clause-opens g c =
    let s = c.self.inside in
    let d = g.D.Disk.content s.disk in
    let m = g.D.Disk.content c.reserve-2.new.self in
    let laws-m : Lawful m = g.met.D.Disk.lawful c.reserve-2.new.self in
    let k = c.reserve-2.ensures.content in
    let m2 = g.D.Disk.content c.sync.new.self in
    let k2 = c.sync.ensures.content in
    rw (← c.self.view_is) (twice_opens d m m2 laws-m k k2)

pub invariant_of-self-in_err-len : goal.invariant_of-self-in_err-len
invariant_of-self-in_err-len g c =
    let s = c.self.inside in
    let d = g.D.Disk.content s.disk in
    let laws : Lawful d = g.met.D.Disk.lawful s.disk in
    let unbroken : s.broken ≡ false = ap (λ (l : Log g.row.D.Denot). l.broken) c.self.view_is ∙ c.requires.unbroken in
    let has = c.self.invariant.has unbroken in
    let m = g.D.Disk.content c.reserve-2.new.self in
    let laws-m : Lawful m = g.met.D.Disk.lawful c.reserve-2.new.self in
    let k = c.reserve-2.ensures.content in
    let m2 = g.D.Disk.content c.sync.new.self in
    let laws2 : Lawful m2 = g.met.D.Disk.lawful c.sync.new.self in
    let k2 = c.sync.ensures.content in
    let has' = still d m m2 laws laws-m laws2 s.incarnation s.local_start s.closed.items s.active s.line s.flushed_end has k k2 in
    record {
      segments = subst (λ (l : List Grown). AreSegmentsOf s.local_start l s.active) (sym c.reserve.ensures.items) c.self.invariant.segments;
      settings = c.self.invariant.settings;
      opened = c.self.invariant.opened;
      fits = c.self.invariant.fits;
      line = c.self.invariant.line;
      line_within = c.self.invariant.line_within;
      flushed_end_within = c.self.invariant.flushed_end_within;
      has = λ whole. subst (λ (l : List Grown). DiskHasLog m2 s.incarnation s.local_start l s.active s.line s.flushed_end) (sym c.reserve.ensures.items) has';
      reopens = has_reopens m2 laws2 s.incarnation s.local_start s.closed.items s.active s.line s.flushed_end has';
    }

pub returns-in_err-len-clause-any_moment : goal.returns-in_err-len-clause-any_moment
returns-in_err-len-clause-any_moment g c =
    let s = c.self.inside in
    let d = g.D.Disk.content s.disk in
    let laws : Lawful d = g.met.D.Disk.lawful s.disk in
    let unbroken : s.broken ≡ false = ap (λ (l : Log g.row.D.Denot). l.broken) c.self.view_is ∙ c.requires.unbroken in
    let has = c.self.invariant.has unbroken in
    let m = g.D.Disk.content c.reserve-2.new.self in
    let laws-m : Lawful m = g.met.D.Disk.lawful c.reserve-2.new.self in
    let k = c.reserve-2.ensures.content in
    let m2 = g.D.Disk.content c.sync.new.self in
    let laws2 : Lawful m2 = g.met.D.Disk.lawful c.sync.new.self in
    let k2 = c.sync.ensures.content in
    rw (← c.self.view_is) (twice_since d m m2 laws laws-m laws2 s.incarnation s.local_start s.closed.items s.active s.line s.flushed_end has k k2)

pub returns-in_err-len-clause-opens : goal.returns-in_err-len-clause-opens
returns-in_err-len-clause-opens g c =
    let s = c.self.inside in
    let d = g.D.Disk.content s.disk in
    let m = g.D.Disk.content c.reserve-2.new.self in
    let laws-m : Lawful m = g.met.D.Disk.lawful c.reserve-2.new.self in
    let k = c.reserve-2.ensures.content in
    let m2 = g.D.Disk.content c.sync.new.self in
    let k2 = c.sync.ensures.content in
    rw (← c.self.view_is) (twice_opens d m m2 laws-m k k2)

pub split_at-requires : goal.split_at-requires
split_at-requires g c =
    let s = c.self.inside in
    let nx : Grown = record { base = end_of s.active; interval = s.settings.index_interval; batches = [] } in
    let next_is : c.new-next.result ≡ nx = c.new-next.ensures ∙ ap (λ (n : ℕ). record { base = n; interval = s.settings.index_interval; batches = [] }) c.end-end.ensures in
    let t : IsTakenIn nx c.take_in.new.segment s.line c.args.run.now s.settings.segment_bytes (c.in_ok-len.len, c.in_ok-len.line) =
    subst (λ (x : Grown). IsTakenIn x c.take_in.new.segment s.line c.args.run.now s.settings.segment_bytes (c.in_ok-len.len, c.in_ok-len.line)) next_is c.in_ok-len.ensures.ok in
    taken_fits nx c.take_in.new.segment s.line c.args.run.now s.settings.segment_bytes (c.in_ok-len.len, c.in_ok-len.line) t c.self.invariant.line c.self.invariant.line_within

pub overflow_sub-result : goal.overflow_sub-result
overflow_sub-result g c =
    let s = c.self.inside in
    let nx : Grown = record { base = end_of s.active; interval = s.settings.index_interval; batches = [] } in
    let next_is : c.new-next.result ≡ nx = c.new-next.ensures ∙ ap (λ (n : ℕ). record { base = n; interval = s.settings.index_interval; batches = [] }) c.end-end.ensures in
    let t : IsTakenIn nx c.take_in.new.segment s.line c.args.run.now s.settings.segment_bytes (c.in_ok-len.len, c.in_ok-len.line) =
    subst (λ (x : Grown). IsTakenIn x c.take_in.new.segment s.line c.args.run.now s.settings.segment_bytes (c.in_ok-len.len, c.in_ok-len.line)) next_is c.in_ok-len.ensures.ok in
    let more = taken_grows nx c.take_in.new.segment s.line c.args.run.now s.settings.segment_bytes (c.in_ok-len.len, c.in_ok-len.line) t c.self.invariant.line c.self.invariant.line_within refl c.requires.low in
    let end_is = ap end_of c.replace-full.ensures.after in
    omega (arith, c.end.ensures, end_is, more)

pub invariant_of-self-in-Ok-outcome : goal.invariant_of-self-in-Ok-outcome
invariant_of-self-in-Ok-outcome g c =
    let s = c.self.inside in
    let d = g.D.Disk.content s.disk in
    let laws : Lawful d = g.met.D.Disk.lawful s.disk in
    let unbroken : s.broken ≡ false = ap (λ (l : Log g.row.D.Denot). l.broken) c.self.view_is ∙ c.requires.unbroken in
    let has = c.self.invariant.has unbroken in
    let m = g.D.Disk.content c.reserve-2.new.self in
    let laws-m : Lawful m = g.met.D.Disk.lawful c.reserve-2.new.self in
    let k = c.reserve-2.ensures.content in
    let m2 = g.D.Disk.content c.sync.new.self in
    let laws2 : Lawful m2 = g.met.D.Disk.lawful c.sync.new.self in
    let k2 = c.sync.ensures.content in
    let are = c.self.invariant.segments in
    let some : 0 < size_of s.active = subst (λ (l : Log g.row.D.Denot). 0 < size_of l.active) (sym c.self.view_is) c.requires.some in
    let few : length s.closed.items + 1 < 4096 = (let h = subst (λ (l : Log g.row.D.Denot). length l.closed < 4095) (sym c.self.view_is) c.requires.few in omega (arith, h)) in
    let synced = subst (λ (b : ℕ). (f : Files) → Image m2 f → BeginsWith (m.files (file.Log b)) (f (file.Log b))) c.base.ensures c.in-Ok.ensures.durable in
    let nx : Grown = record { base = end_of s.active; interval = s.settings.index_interval; batches = [] } in
    let next_is : c.new-next.result ≡ nx = c.new-next.ensures ∙ ap (λ (n : ℕ). record { base = n; interval = s.settings.index_interval; batches = [] }) c.end-end.ensures in
    let t : IsTakenIn nx c.take_in.new.segment s.line c.args.run.now s.settings.segment_bytes (c.in_ok-len.len, c.in_ok-len.line) =
    subst (λ (x : Grown). IsTakenIn x c.take_in.new.segment s.line c.args.run.now s.settings.segment_bytes (c.in_ok-len.len, c.in_ok-len.line)) next_is c.in_ok-len.ensures.ok in
    let d' = g.D.Disk.content c.append-outcome.new.self in
    let laws' : Lawful d' = g.met.D.Disk.lawful c.append-outcome.new.self in
    let bytes_is : c.split_at.result.0.now ≡ joined (taken nx c.take_in.new.segment s.line c.args.run.now s.settings.segment_bytes (c.in_ok-len.len, c.in_ok-len.line) t c.self.invariant.line c.self.invariant.line_within) = c.split_at.ensures.front ∙ taken_bytes nx c.take_in.new.segment s.line c.args.run.now s.settings.segment_bytes (c.in_ok-len.len, c.in_ok-len.line) t c.self.invariant.line c.self.invariant.line_within in
    let M = MayBeDone call.Append (fate_of c.append-outcome.result) (g.D.Disk.control c.sync.new.self) in
    let change = subst (λ (b : ℕ). Changes (file.Log b) (appended c.split_at.result.0.now) MayGrow M m2 d') c.end-end.ensures c.append-outcome.ensures.content in
    let done : (b : Bool) → M b → IsTrue b = λ b m. m.went (ap fate_of c.in-Ok-outcome.is) in
    let laid : IsLaidOut (grown_by nx (taken nx c.take_in.new.segment s.line c.args.run.now s.settings.segment_bytes (c.in_ok-len.len, c.in_ok-len.line) t c.self.invariant.line c.self.invariant.line_within)) = subst IsLaidOut t.segment_is t.laid in
    let low : end_of (grown_by nx (taken nx c.take_in.new.segment s.line c.args.run.now s.settings.segment_bytes (c.in_ok-len.len, c.in_ok-len.line) t c.self.invariant.line c.self.invariant.line_within)) ≤ 2 ^ 62 = subst (λ (x : Grown). end_of x ≤ 2 ^ 62) t.segment_is t.low in
    let counts : IsTrue c.is_ok.result = c.is_ok.ensures.value ∙ ap is_ok c.in-Ok-outcome.is in
    let line_is : c.replace_if.new.line ≡ lined s.line (taken nx c.take_in.new.segment s.line c.args.run.now s.settings.segment_bytes (c.in_ok-len.len, c.in_ok-len.line) t c.self.invariant.line c.self.invariant.line_within) = c.replace_if.ensures.counts counts ∙ t.line_is in
    let are' = are_rolled s.local_start s.settings.index_interval s.closed.items s.active are some few in
    let items_are : c.push_reserved.new.self.items ≡ s.closed.items ++ s.active ∷ [] =
    c.push_reserved.ensures.items
    ∙ ap (λ (l : List Grown). l ++ c.replace-full.result ∷ []) c.reserve.ensures.items
    ∙ ap (λ (x : Grown). s.closed.items ++ x ∷ []) c.replace-full.ensures.value in
    let active_is : c.replace-full.new.dest ≡ grown_by nx (taken nx c.take_in.new.segment s.line c.args.run.now s.settings.segment_bytes (c.in_ok-len.len, c.in_ok-len.line) t c.self.invariant.line c.self.invariant.line_within) = c.replace-full.ensures.after ∙ t.segment_is in
    let end_is : end_of c.replace-full.new.dest ≡ end_from (end_of s.active) (taken nx c.take_in.new.segment s.line c.args.run.now s.settings.segment_bytes (c.in_ok-len.len, c.in_ok-len.line) t c.self.invariant.line c.self.invariant.line_within) = ap end_of c.replace-full.ensures.after ∙ taken_end nx c.take_in.new.segment s.line c.args.run.now s.settings.segment_bytes (c.in_ok-len.len, c.in_ok-len.line) t c.self.invariant.line c.self.invariant.line_within in
    let has' = appended_has m2 d' laws2 laws' s.incarnation s.local_start (s.closed.items ++ s.active ∷ []) nx s.line s.flushed_end (rolled_has d m m2 laws laws-m laws2 s.incarnation s.local_start s.closed.items s.active s.line s.flushed_end has k k2 s.settings.index_interval are some c.self.invariant.flushed_end_within synced) c.split_at.result.0.now M change done (taken nx c.take_in.new.segment s.line c.args.run.now s.settings.segment_bytes (c.in_ok-len.len, c.in_ok-len.line) t c.self.invariant.line c.self.invariant.line_within) bytes_is (taken_oks nx c.take_in.new.segment s.line c.args.run.now s.settings.segment_bytes (c.in_ok-len.len, c.in_ok-len.line) t c.self.invariant.line c.self.invariant.line_within) (taken_follow nx c.take_in.new.segment s.line c.args.run.now s.settings.segment_bytes (c.in_ok-len.len, c.in_ok-len.line) t c.self.invariant.line c.self.invariant.line_within) are' c.self.invariant.flushed_end_within c.self.invariant.line (taken_lined nx c.take_in.new.segment s.line c.args.run.now s.settings.segment_bytes (c.in_ok-len.len, c.in_ok-len.line) t c.self.invariant.line c.self.invariant.line_within) laid low in
    record {
      segments = subst (λ (x : Grown). AreSegmentsOf s.local_start c.push_reserved.new.self.items x) (sym active_is)
          (subst (λ (l : List Grown). AreSegmentsOf s.local_start l (grown_by nx (taken nx c.take_in.new.segment s.line c.args.run.now s.settings.segment_bytes (c.in_ok-len.len, c.in_ok-len.line) t c.self.invariant.line c.self.invariant.line_within))) (sym items_are) (appended_are m2 d' laws2 laws' s.incarnation s.local_start (s.closed.items ++ s.active ∷ []) nx s.line s.flushed_end (rolled_has d m m2 laws laws-m laws2 s.incarnation s.local_start s.closed.items s.active s.line s.flushed_end has k k2 s.settings.index_interval are some c.self.invariant.flushed_end_within synced) c.split_at.result.0.now M change done (taken nx c.take_in.new.segment s.line c.args.run.now s.settings.segment_bytes (c.in_ok-len.len, c.in_ok-len.line) t c.self.invariant.line c.self.invariant.line_within) bytes_is (taken_oks nx c.take_in.new.segment s.line c.args.run.now s.settings.segment_bytes (c.in_ok-len.len, c.in_ok-len.line) t c.self.invariant.line c.self.invariant.line_within) (taken_follow nx c.take_in.new.segment s.line c.args.run.now s.settings.segment_bytes (c.in_ok-len.len, c.in_ok-len.line) t c.self.invariant.line c.self.invariant.line_within) are' c.self.invariant.flushed_end_within c.self.invariant.line (taken_lined nx c.take_in.new.segment s.line c.args.run.now s.settings.segment_bytes (c.in_ok-len.len, c.in_ok-len.line) t c.self.invariant.line c.self.invariant.line_within) laid low));
      settings = c.self.invariant.settings;
      opened = c.self.invariant.opened;
      fits = c.self.invariant.fits;
      line = subst IsLine (sym line_is) (taken_lined nx c.take_in.new.segment s.line c.args.run.now s.settings.segment_bytes (c.in_ok-len.len, c.in_ok-len.line) t c.self.invariant.line c.self.invariant.line_within).is;
      line_within = subst (λ (n : ℕ). Each (λ (e : ℕ × ℕ). e.1 ≤ n) c.replace_if.new.line) (sym end_is)
          (subst (λ (l : List (ℕ × ℕ)). Each (λ (e : ℕ × ℕ). e.1 ≤ end_from (end_of s.active) (taken nx c.take_in.new.segment s.line c.args.run.now s.settings.segment_bytes (c.in_ok-len.len, c.in_ok-len.line) t c.self.invariant.line c.self.invariant.line_within)) l) (sym line_is) (taken_lined nx c.take_in.new.segment s.line c.args.run.now s.settings.segment_bytes (c.in_ok-len.len, c.in_ok-len.line) t c.self.invariant.line c.self.invariant.line_within).within);
      flushed_end_within = (let up = taken_up nx c.take_in.new.segment s.line c.args.run.now s.settings.segment_bytes (c.in_ok-len.len, c.in_ok-len.line) t c.self.invariant.line c.self.invariant.line_within in let e = ap end_of c.replace-full.ensures.after in omega (arith, up, e, c.self.invariant.flushed_end_within));
      has = λ whole. subst (λ (l : List (ℕ × ℕ)). DiskHasLog d' s.incarnation s.local_start c.push_reserved.new.self.items c.replace-full.new.dest l s.flushed_end) (sym line_is)
          (subst (λ (x : Grown). DiskHasLog d' s.incarnation s.local_start c.push_reserved.new.self.items x (lined s.line (taken nx c.take_in.new.segment s.line c.args.run.now s.settings.segment_bytes (c.in_ok-len.len, c.in_ok-len.line) t c.self.invariant.line c.self.invariant.line_within)) s.flushed_end) (sym active_is)
          (subst (λ (l : List Grown). DiskHasLog d' s.incarnation s.local_start l (grown_by nx (taken nx c.take_in.new.segment s.line c.args.run.now s.settings.segment_bytes (c.in_ok-len.len, c.in_ok-len.line) t c.self.invariant.line c.self.invariant.line_within)) (lined s.line (taken nx c.take_in.new.segment s.line c.args.run.now s.settings.segment_bytes (c.in_ok-len.len, c.in_ok-len.line) t c.self.invariant.line c.self.invariant.line_within)) s.flushed_end) (sym items_are) has'));
      reopens = behind_reopens d m m2 laws laws-m laws2 s.incarnation s.local_start s.closed.items s.active s.line s.flushed_end has k k2 s.settings.index_interval are some c.self.invariant.flushed_end_within synced d' laws' c.split_at.result.0.now M change;
    }

pub invariant_of-self-in-Err-outcome : goal.invariant_of-self-in-Err-outcome
invariant_of-self-in-Err-outcome g c =
    let s = c.self.inside in
    let d = g.D.Disk.content s.disk in
    let laws : Lawful d = g.met.D.Disk.lawful s.disk in
    let unbroken : s.broken ≡ false = ap (λ (l : Log g.row.D.Denot). l.broken) c.self.view_is ∙ c.requires.unbroken in
    let has = c.self.invariant.has unbroken in
    let m = g.D.Disk.content c.reserve-2.new.self in
    let laws-m : Lawful m = g.met.D.Disk.lawful c.reserve-2.new.self in
    let k = c.reserve-2.ensures.content in
    let m2 = g.D.Disk.content c.sync.new.self in
    let laws2 : Lawful m2 = g.met.D.Disk.lawful c.sync.new.self in
    let k2 = c.sync.ensures.content in
    let are = c.self.invariant.segments in
    let some : 0 < size_of s.active = subst (λ (l : Log g.row.D.Denot). 0 < size_of l.active) (sym c.self.view_is) c.requires.some in
    let synced = subst (λ (b : ℕ). (f : Files) → Image m2 f → BeginsWith (m.files (file.Log b)) (f (file.Log b))) c.base.ensures c.in-Ok.ensures.durable in
    let d' = g.D.Disk.content c.append-outcome.new.self in
    let laws' : Lawful d' = g.met.D.Disk.lawful c.append-outcome.new.self in
    let M = MayBeDone call.Append (fate_of c.append-outcome.result) (g.D.Disk.control c.sync.new.self) in
    let change = subst (λ (b : ℕ). Changes (file.Log b) (appended c.split_at.result.0.now) MayGrow M m2 d') c.end-end.ensures c.append-outcome.ensures.content in
    let fails : IsFalse c.is_ok.result = c.is_ok.ensures.value ∙ ap is_ok c.in-Err-outcome.is in
    let line_is : c.replace_if.new.line ≡ s.line = c.replace_if.ensures.not fails in
    let items_are = c.reserve.ensures.items in
    record {
      segments = subst (λ (l : List Grown). AreSegmentsOf s.local_start l s.active) (sym items_are) c.self.invariant.segments;
      settings = c.self.invariant.settings;
      opened = c.self.invariant.opened;
      fits = c.self.invariant.fits;
      line = subst IsLine (sym line_is) c.self.invariant.line;
      line_within = subst (λ (l : List (ℕ × ℕ)). Each (λ (e : ℕ × ℕ). e.1 ≤ end_of s.active) l) (sym line_is) c.self.invariant.line_within;
      flushed_end_within = c.self.invariant.flushed_end_within;
      has = λ whole. (
          let dry : fate_of c.append-outcome.result ≡ Dry = ap fate_of c.in-Err-outcome.is ∙ ap fate_of_trouble (not_broken c.in-Err-outcome.trouble c.refused.result c.refused.new.broken c.refused.ensures.fault whole) in
          let same = behind_dry d m m2 laws laws-m laws2 s.incarnation s.local_start s.closed.items s.active s.line s.flushed_end has k k2 s.settings.index_interval are some c.self.invariant.flushed_end_within synced d' laws' c.split_at.result.0.now M change (λ m. true≢false (m.dry dry)) in
          subst (λ (l : List (ℕ × ℕ)). DiskHasLog d' s.incarnation s.local_start c.reserve.new.self.items s.active l s.flushed_end) (sym line_is)
          (subst (λ (l : List Grown). DiskHasLog d' s.incarnation s.local_start l s.active s.line s.flushed_end) (sym items_are) same)
          );
      reopens = behind_reopens d m m2 laws laws-m laws2 s.incarnation s.local_start s.closed.items s.active s.line s.flushed_end has k k2 s.settings.index_interval are some c.self.invariant.flushed_end_within synced d' laws' c.split_at.result.0.now M change;
    }

pub returns-in-Ok-outcome-clause-ok : goal.returns-in-Ok-outcome-clause-ok
returns-in-Ok-outcome-clause-ok g c =
    let s = c.self.inside in
    let d = g.D.Disk.content s.disk in
    let laws : Lawful d = g.met.D.Disk.lawful s.disk in
    let unbroken : s.broken ≡ false = ap (λ (l : Log g.row.D.Denot). l.broken) c.self.view_is ∙ c.requires.unbroken in
    let has = c.self.invariant.has unbroken in
    let m = g.D.Disk.content c.reserve-2.new.self in
    let laws-m : Lawful m = g.met.D.Disk.lawful c.reserve-2.new.self in
    let k = c.reserve-2.ensures.content in
    let m2 = g.D.Disk.content c.sync.new.self in
    let laws2 : Lawful m2 = g.met.D.Disk.lawful c.sync.new.self in
    let k2 = c.sync.ensures.content in
    let are = c.self.invariant.segments in
    let some : 0 < size_of s.active = subst (λ (l : Log g.row.D.Denot). 0 < size_of l.active) (sym c.self.view_is) c.requires.some in
    let few : length s.closed.items + 1 < 4096 = (let h = subst (λ (l : Log g.row.D.Denot). length l.closed < 4095) (sym c.self.view_is) c.requires.few in omega (arith, h)) in
    let synced = subst (λ (b : ℕ). (f : Files) → Image m2 f → BeginsWith (m.files (file.Log b)) (f (file.Log b))) c.base.ensures c.in-Ok.ensures.durable in
    let nx : Grown = record { base = end_of s.active; interval = s.settings.index_interval; batches = [] } in
    let next_is : c.new-next.result ≡ nx = c.new-next.ensures ∙ ap (λ (n : ℕ). record { base = n; interval = s.settings.index_interval; batches = [] }) c.end-end.ensures in
    let t : IsTakenIn nx c.take_in.new.segment s.line c.args.run.now s.settings.segment_bytes (c.in_ok-len.len, c.in_ok-len.line) =
    subst (λ (x : Grown). IsTakenIn x c.take_in.new.segment s.line c.args.run.now s.settings.segment_bytes (c.in_ok-len.len, c.in_ok-len.line)) next_is c.in_ok-len.ensures.ok in
    let d' = g.D.Disk.content c.append-outcome.new.self in
    let laws' : Lawful d' = g.met.D.Disk.lawful c.append-outcome.new.self in
    let bytes_is : c.split_at.result.0.now ≡ joined (taken nx c.take_in.new.segment s.line c.args.run.now s.settings.segment_bytes (c.in_ok-len.len, c.in_ok-len.line) t c.self.invariant.line c.self.invariant.line_within) = c.split_at.ensures.front ∙ taken_bytes nx c.take_in.new.segment s.line c.args.run.now s.settings.segment_bytes (c.in_ok-len.len, c.in_ok-len.line) t c.self.invariant.line c.self.invariant.line_within in
    let M = MayBeDone call.Append (fate_of c.append-outcome.result) (g.D.Disk.control c.sync.new.self) in
    let change = subst (λ (b : ℕ). Changes (file.Log b) (appended c.split_at.result.0.now) MayGrow M m2 d') c.end-end.ensures c.append-outcome.ensures.content in
    let done : (b : Bool) → M b → IsTrue b = λ b m. m.went (ap fate_of c.in-Ok-outcome.is) in
    let laid : IsLaidOut (grown_by nx (taken nx c.take_in.new.segment s.line c.args.run.now s.settings.segment_bytes (c.in_ok-len.len, c.in_ok-len.line) t c.self.invariant.line c.self.invariant.line_within)) = subst IsLaidOut t.segment_is t.laid in
    let low : end_of (grown_by nx (taken nx c.take_in.new.segment s.line c.args.run.now s.settings.segment_bytes (c.in_ok-len.len, c.in_ok-len.line) t c.self.invariant.line c.self.invariant.line_within)) ≤ 2 ^ 62 = subst (λ (x : Grown). end_of x ≤ 2 ^ 62) t.segment_is t.low in
    let counts : IsTrue c.is_ok.result = c.is_ok.ensures.value ∙ ap is_ok c.in-Ok-outcome.is in
    let line_is : c.replace_if.new.line ≡ lined s.line (taken nx c.take_in.new.segment s.line c.args.run.now s.settings.segment_bytes (c.in_ok-len.len, c.in_ok-len.line) t c.self.invariant.line c.self.invariant.line_within) = c.replace_if.ensures.counts counts ∙ t.line_is in
    let are' = are_rolled s.local_start s.settings.index_interval s.closed.items s.active are some few in
    let items_are : c.push_reserved.new.self.items ≡ s.closed.items ++ s.active ∷ [] =
    c.push_reserved.ensures.items
    ∙ ap (λ (l : List Grown). l ++ c.replace-full.result ∷ []) c.reserve.ensures.items
    ∙ ap (λ (x : Grown). s.closed.items ++ x ∷ []) c.replace-full.ensures.value in
    let active_is : c.replace-full.new.dest ≡ grown_by nx (taken nx c.take_in.new.segment s.line c.args.run.now s.settings.segment_bytes (c.in_ok-len.len, c.in_ok-len.line) t c.self.invariant.line c.self.invariant.line_within) = c.replace-full.ensures.after ∙ t.segment_is in
    let end_is : end_of c.replace-full.new.dest ≡ end_from (end_of s.active) (taken nx c.take_in.new.segment s.line c.args.run.now s.settings.segment_bytes (c.in_ok-len.len, c.in_ok-len.line) t c.self.invariant.line c.self.invariant.line_within) = ap end_of c.replace-full.ensures.after ∙ taken_end nx c.take_in.new.segment s.line c.args.run.now s.settings.segment_bytes (c.in_ok-len.len, c.in_ok-len.line) t c.self.invariant.line c.self.invariant.line_within in
    let more = taken_grows nx c.take_in.new.segment s.line c.args.run.now s.settings.segment_bytes (c.in_ok-len.len, c.in_ok-len.line) t c.self.invariant.line c.self.invariant.line_within refl c.requires.low in
    let e = ap end_of c.replace-full.ensures.after in
    let batches_are =
    ap (λ (l : List Grown). all_batches d'.files (l ++ c.replace-full.new.dest ∷ [])) items_are
    ∙ ap (λ (x : Grown). all_batches d'.files ((s.closed.items ++ s.active ∷ []) ++ x ∷ [])) active_is in
    rw (← c.self.view_is) (record {
      is = t.is;
      becomes = becomes_by g.D.Disk.content _ _ refl refl refl end_is refl line_is items_are active_is refl (behind_tells d m m2 laws laws-m laws2 s.incarnation s.local_start s.closed.items s.active s.line s.flushed_end has k k2 s.settings.index_interval are some c.self.invariant.flushed_end_within synced d' laws' c.split_at.result.0.now M change)
          (λ told. (let told2 = subst IsTrue (sym (k2.is_observable ∙ k.is_observable)) told in
          batches_are ∙ appended_batches m2 d' laws2 laws' s.incarnation s.local_start (s.closed.items ++ s.active ∷ []) nx s.line s.flushed_end (rolled_has d m m2 laws laws-m laws2 s.incarnation s.local_start s.closed.items s.active s.line s.flushed_end has k k2 s.settings.index_interval are some c.self.invariant.flushed_end_within synced) c.split_at.result.0.now M change done (taken nx c.take_in.new.segment s.line c.args.run.now s.settings.segment_bytes (c.in_ok-len.len, c.in_ok-len.line) t c.self.invariant.line c.self.invariant.line_within) bytes_is (taken_oks nx c.take_in.new.segment s.line c.args.run.now s.settings.segment_bytes (c.in_ok-len.len, c.in_ok-len.line) t c.self.invariant.line c.self.invariant.line_within) (taken_follow nx c.take_in.new.segment s.line c.args.run.now s.settings.segment_bytes (c.in_ok-len.len, c.in_ok-len.line) t c.self.invariant.line c.self.invariant.line_within) are' c.self.invariant.flushed_end_within c.self.invariant.line (taken_lined nx c.take_in.new.segment s.line c.args.run.now s.settings.segment_bytes (c.in_ok-len.len, c.in_ok-len.line) t c.self.invariant.line c.self.invariant.line_within) laid low told2 ∙ ap (λ (l : List (List ℕ)). l ++ taken nx c.take_in.new.segment s.line c.args.run.now s.settings.segment_bytes (c.in_ok-len.len, c.in_ok-len.line) t c.self.invariant.line c.self.invariant.line_within) (roll_batches d m m2 laws laws-m laws2 s.incarnation s.local_start s.closed.items s.active s.line s.flushed_end has k k2 s.settings.index_interval are some c.self.invariant.flushed_end_within synced)));
      base_is = c.end-end.ensures;
      last_is = omega (arith, more, c.end.ensures, e);
    })

pub returns-in-Ok-outcome-clause-any_moment : goal.returns-in-Ok-outcome-clause-any_moment
returns-in-Ok-outcome-clause-any_moment g c =
    let s = c.self.inside in
    let d = g.D.Disk.content s.disk in
    let laws : Lawful d = g.met.D.Disk.lawful s.disk in
    let unbroken : s.broken ≡ false = ap (λ (l : Log g.row.D.Denot). l.broken) c.self.view_is ∙ c.requires.unbroken in
    let has = c.self.invariant.has unbroken in
    let m = g.D.Disk.content c.reserve-2.new.self in
    let laws-m : Lawful m = g.met.D.Disk.lawful c.reserve-2.new.self in
    let k = c.reserve-2.ensures.content in
    let m2 = g.D.Disk.content c.sync.new.self in
    let laws2 : Lawful m2 = g.met.D.Disk.lawful c.sync.new.self in
    let k2 = c.sync.ensures.content in
    let are = c.self.invariant.segments in
    let some : 0 < size_of s.active = subst (λ (l : Log g.row.D.Denot). 0 < size_of l.active) (sym c.self.view_is) c.requires.some in
    let synced = subst (λ (b : ℕ). (f : Files) → Image m2 f → BeginsWith (m.files (file.Log b)) (f (file.Log b))) c.base.ensures c.in-Ok.ensures.durable in
    let d' = g.D.Disk.content c.append-outcome.new.self in
    let laws' : Lawful d' = g.met.D.Disk.lawful c.append-outcome.new.self in
    let M = MayBeDone call.Append (fate_of c.append-outcome.result) (g.D.Disk.control c.sync.new.self) in
    let change = subst (λ (b : ℕ). Changes (file.Log b) (appended c.split_at.result.0.now) MayGrow M m2 d') c.end-end.ensures c.append-outcome.ensures.content in
    rw (← c.self.view_is) (behind_since d m m2 laws laws-m laws2 s.incarnation s.local_start s.closed.items s.active s.line s.flushed_end has k k2 s.settings.index_interval are some c.self.invariant.flushed_end_within synced d' laws' c.split_at.result.0.now M change)

pub returns-in-Ok-outcome-clause-opens : goal.returns-in-Ok-outcome-clause-opens
returns-in-Ok-outcome-clause-opens g c =
    let s = c.self.inside in
    let d = g.D.Disk.content s.disk in
    let laws : Lawful d = g.met.D.Disk.lawful s.disk in
    let unbroken : s.broken ≡ false = ap (λ (l : Log g.row.D.Denot). l.broken) c.self.view_is ∙ c.requires.unbroken in
    let has = c.self.invariant.has unbroken in
    let m = g.D.Disk.content c.reserve-2.new.self in
    let laws-m : Lawful m = g.met.D.Disk.lawful c.reserve-2.new.self in
    let k = c.reserve-2.ensures.content in
    let m2 = g.D.Disk.content c.sync.new.self in
    let laws2 : Lawful m2 = g.met.D.Disk.lawful c.sync.new.self in
    let k2 = c.sync.ensures.content in
    let are = c.self.invariant.segments in
    let some : 0 < size_of s.active = subst (λ (l : Log g.row.D.Denot). 0 < size_of l.active) (sym c.self.view_is) c.requires.some in
    let synced = subst (λ (b : ℕ). (f : Files) → Image m2 f → BeginsWith (m.files (file.Log b)) (f (file.Log b))) c.base.ensures c.in-Ok.ensures.durable in
    let d' = g.D.Disk.content c.append-outcome.new.self in
    let laws' : Lawful d' = g.met.D.Disk.lawful c.append-outcome.new.self in
    let M = MayBeDone call.Append (fate_of c.append-outcome.result) (g.D.Disk.control c.sync.new.self) in
    let change = subst (λ (b : ℕ). Changes (file.Log b) (appended c.split_at.result.0.now) MayGrow M m2 d') c.end-end.ensures c.append-outcome.ensures.content in
    rw (← c.self.view_is) (behind_opens d m m2 laws laws-m laws2 s.incarnation s.local_start s.closed.items s.active s.line s.flushed_end has k k2 s.settings.index_interval are some c.self.invariant.flushed_end_within synced d' laws' c.split_at.result.0.now M change)

pub returns-in-Err-outcome-clause-any_moment : goal.returns-in-Err-outcome-clause-any_moment
returns-in-Err-outcome-clause-any_moment g c =
    let s = c.self.inside in
    let d = g.D.Disk.content s.disk in
    let laws : Lawful d = g.met.D.Disk.lawful s.disk in
    let unbroken : s.broken ≡ false = ap (λ (l : Log g.row.D.Denot). l.broken) c.self.view_is ∙ c.requires.unbroken in
    let has = c.self.invariant.has unbroken in
    let m = g.D.Disk.content c.reserve-2.new.self in
    let laws-m : Lawful m = g.met.D.Disk.lawful c.reserve-2.new.self in
    let k = c.reserve-2.ensures.content in
    let m2 = g.D.Disk.content c.sync.new.self in
    let laws2 : Lawful m2 = g.met.D.Disk.lawful c.sync.new.self in
    let k2 = c.sync.ensures.content in
    let are = c.self.invariant.segments in
    let some : 0 < size_of s.active = subst (λ (l : Log g.row.D.Denot). 0 < size_of l.active) (sym c.self.view_is) c.requires.some in
    let synced = subst (λ (b : ℕ). (f : Files) → Image m2 f → BeginsWith (m.files (file.Log b)) (f (file.Log b))) c.base.ensures c.in-Ok.ensures.durable in
    let d' = g.D.Disk.content c.append-outcome.new.self in
    let laws' : Lawful d' = g.met.D.Disk.lawful c.append-outcome.new.self in
    let M = MayBeDone call.Append (fate_of c.append-outcome.result) (g.D.Disk.control c.sync.new.self) in
    let change = subst (λ (b : ℕ). Changes (file.Log b) (appended c.split_at.result.0.now) MayGrow M m2 d') c.end-end.ensures c.append-outcome.ensures.content in
    rw (← c.self.view_is) (behind_since d m m2 laws laws-m laws2 s.incarnation s.local_start s.closed.items s.active s.line s.flushed_end has k k2 s.settings.index_interval are some c.self.invariant.flushed_end_within synced d' laws' c.split_at.result.0.now M change)

pub returns-in-Err-outcome-clause-opens : goal.returns-in-Err-outcome-clause-opens
returns-in-Err-outcome-clause-opens g c =
    let s = c.self.inside in
    let d = g.D.Disk.content s.disk in
    let laws : Lawful d = g.met.D.Disk.lawful s.disk in
    let unbroken : s.broken ≡ false = ap (λ (l : Log g.row.D.Denot). l.broken) c.self.view_is ∙ c.requires.unbroken in
    let has = c.self.invariant.has unbroken in
    let m = g.D.Disk.content c.reserve-2.new.self in
    let laws-m : Lawful m = g.met.D.Disk.lawful c.reserve-2.new.self in
    let k = c.reserve-2.ensures.content in
    let m2 = g.D.Disk.content c.sync.new.self in
    let laws2 : Lawful m2 = g.met.D.Disk.lawful c.sync.new.self in
    let k2 = c.sync.ensures.content in
    let are = c.self.invariant.segments in
    let some : 0 < size_of s.active = subst (λ (l : Log g.row.D.Denot). 0 < size_of l.active) (sym c.self.view_is) c.requires.some in
    let synced = subst (λ (b : ℕ). (f : Files) → Image m2 f → BeginsWith (m.files (file.Log b)) (f (file.Log b))) c.base.ensures c.in-Ok.ensures.durable in
    let d' = g.D.Disk.content c.append-outcome.new.self in
    let laws' : Lawful d' = g.met.D.Disk.lawful c.append-outcome.new.self in
    let M = MayBeDone call.Append (fate_of c.append-outcome.result) (g.D.Disk.control c.sync.new.self) in
    let change = subst (λ (b : ℕ). Changes (file.Log b) (appended c.split_at.result.0.now) MayGrow M m2 d') c.end-end.ensures c.append-outcome.ensures.content in
    rw (← c.self.view_is) (behind_opens d m m2 laws laws-m laws2 s.incarnation s.local_start s.closed.items s.active s.line s.flushed_end has k k2 s.settings.index_interval are some c.self.invariant.flushed_end_within synced d' laws' c.split_at.result.0.now M change)

pub returns-in-Err-outcome-clause-no_memory : goal.returns-in-Err-outcome-clause-no_memory
returns-in-Err-outcome-clause-no_memory g c =
    let s = c.self.inside in
    let d = g.D.Disk.content s.disk in
    let laws : Lawful d = g.met.D.Disk.lawful s.disk in
    let unbroken : s.broken ≡ false = ap (λ (l : Log g.row.D.Denot). l.broken) c.self.view_is ∙ c.requires.unbroken in
    let has = c.self.invariant.has unbroken in
    let m = g.D.Disk.content c.reserve-2.new.self in
    let laws-m : Lawful m = g.met.D.Disk.lawful c.reserve-2.new.self in
    let k = c.reserve-2.ensures.content in
    let m2 = g.D.Disk.content c.sync.new.self in
    let laws2 : Lawful m2 = g.met.D.Disk.lawful c.sync.new.self in
    let k2 = c.sync.ensures.content in
    let are = c.self.invariant.segments in
    let some : 0 < size_of s.active = subst (λ (l : Log g.row.D.Denot). 0 < size_of l.active) (sym c.self.view_is) c.requires.some in
    let synced = subst (λ (b : ℕ). (f : Files) → Image m2 f → BeginsWith (m.files (file.Log b)) (f (file.Log b))) c.base.ensures c.in-Ok.ensures.durable in
    let d' = g.D.Disk.content c.append-outcome.new.self in
    let laws' : Lawful d' = g.met.D.Disk.lawful c.append-outcome.new.self in
    let M = MayBeDone call.Append (fate_of c.append-outcome.result) (g.D.Disk.control c.sync.new.self) in
    let change = subst (λ (b : ℕ). Changes (file.Log b) (appended c.split_at.result.0.now) MayGrow M m2 d') c.end-end.ensures c.append-outcome.ensures.content in
    let fails : IsFalse c.is_ok.result = c.is_ok.ensures.value ∙ ap is_ok c.in-Err-outcome.is in
    let line_is : c.replace_if.new.line ≡ s.line = c.replace_if.ensures.not fails in
    let items_are = c.reserve.ensures.items in
    let batches_are = ap (λ (l : List Grown). all_batches d'.files (l ++ s.active ∷ [])) items_are in
    λ is.
    let broken_is : c.refused.new.broken ≡ s.broken = stays c.in-Err-outcome.trouble c.refused.result c.refused.new.broken s.broken c.refused.ensures.fault c.refused.ensures.memory (cc is) in
    rw (← c.self.view_is) (becomes_by g.D.Disk.content _ _ refl refl refl refl refl line_is items_are refl broken_is (behind_tells d m m2 laws laws-m laws2 s.incarnation s.local_start s.closed.items s.active s.line s.flushed_end has k k2 s.settings.index_interval are some c.self.invariant.flushed_end_within synced d' laws' c.split_at.result.0.now M change) (λ told. batches_are ∙ behind_kept d m m2 laws laws-m laws2 s.incarnation s.local_start s.closed.items s.active s.line s.flushed_end has k k2 s.settings.index_interval are some c.self.invariant.flushed_end_within synced d' laws' c.split_at.result.0.now M change told))

pub returns-in-Err-outcome-clause-broken : goal.returns-in-Err-outcome-clause-broken
returns-in-Err-outcome-clause-broken g c =
    let s = c.self.inside in
    let d = g.D.Disk.content s.disk in
    let laws : Lawful d = g.met.D.Disk.lawful s.disk in
    let unbroken : s.broken ≡ false = ap (λ (l : Log g.row.D.Denot). l.broken) c.self.view_is ∙ c.requires.unbroken in
    let has = c.self.invariant.has unbroken in
    let m = g.D.Disk.content c.reserve-2.new.self in
    let laws-m : Lawful m = g.met.D.Disk.lawful c.reserve-2.new.self in
    let k = c.reserve-2.ensures.content in
    let m2 = g.D.Disk.content c.sync.new.self in
    let laws2 : Lawful m2 = g.met.D.Disk.lawful c.sync.new.self in
    let k2 = c.sync.ensures.content in
    let are = c.self.invariant.segments in
    let some : 0 < size_of s.active = subst (λ (l : Log g.row.D.Denot). 0 < size_of l.active) (sym c.self.view_is) c.requires.some in
    let synced = subst (λ (b : ℕ). (f : Files) → Image m2 f → BeginsWith (m.files (file.Log b)) (f (file.Log b))) c.base.ensures c.in-Ok.ensures.durable in
    let d' = g.D.Disk.content c.append-outcome.new.self in
    let laws' : Lawful d' = g.met.D.Disk.lawful c.append-outcome.new.self in
    let M = MayBeDone call.Append (fate_of c.append-outcome.result) (g.D.Disk.control c.sync.new.self) in
    let change = subst (λ (b : ℕ). Changes (file.Log b) (appended c.split_at.result.0.now) MayGrow M m2 d') c.end-end.ensures c.append-outcome.ensures.content in
    let fails : IsFalse c.is_ok.result = c.is_ok.ensures.value ∙ ap is_ok c.in-Err-outcome.is in
    let line_is : c.replace_if.new.line ≡ s.line = c.replace_if.ensures.not fails in
    let items_are = c.reserve.ensures.items in
    let batches_are = ap (λ (l : List Grown). all_batches d'.files (l ++ s.active ∷ [])) items_are in
    λ is.
    let broken_is : c.refused.new.broken ≡ true = breaks c.in-Err-outcome.trouble c.refused.result c.refused.new.broken s.broken c.refused.ensures.fault c.refused.ensures.memory (cc is) in
    rw (← c.self.view_is) (becomes_by g.D.Disk.content _ _ refl refl refl refl refl line_is items_are refl broken_is (behind_tells d m m2 laws laws-m laws2 s.incarnation s.local_start s.closed.items s.active s.line s.flushed_end has k k2 s.settings.index_interval are some c.self.invariant.flushed_end_within synced d' laws' c.split_at.result.0.now M change) (λ told. batches_are ∙ behind_kept d m m2 laws laws-m laws2 s.incarnation s.local_start s.closed.items s.active s.line s.flushed_end has k k2 s.settings.index_interval are some c.self.invariant.flushed_end_within synced d' laws' c.split_at.result.0.now M change told))

pub returns-in-Ok-outcome-clause-some : goal.returns-in-Ok-outcome-clause-some
returns-in-Ok-outcome-clause-some g c =
    let s = c.self.inside in
    let nx : Grown = record { base = end_of s.active; interval = s.settings.index_interval; batches = [] } in
    let next_is : c.new-next.result ≡ nx = c.new-next.ensures ∙ ap (λ (n : ℕ). record { base = n; interval = s.settings.index_interval; batches = [] }) c.end-end.ensures in
    let t : IsTakenIn nx c.take_in.new.segment s.line c.args.run.now s.settings.segment_bytes (c.in_ok-len.len, c.in_ok-len.line) =
    subst (λ (x : Grown). IsTakenIn x c.take_in.new.segment s.line c.args.run.now s.settings.segment_bytes (c.in_ok-len.len, c.in_ok-len.line)) next_is c.in_ok-len.ensures.ok in
    let more = taken_grows nx c.take_in.new.segment s.line c.args.run.now s.settings.segment_bytes (c.in_ok-len.len, c.in_ok-len.line) t c.self.invariant.line c.self.invariant.line_within refl c.requires.low in
    let end_is = ap end_of c.replace-full.ensures.after in
    omega (arith, c.end.ensures, c.end-end.ensures, end_is, more)
