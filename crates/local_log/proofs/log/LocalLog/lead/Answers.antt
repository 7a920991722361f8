use Rattle.std.proofs.Common.{◌≡◌, ◌∙◌, ◌≤◌, ◌^◌, ℕ, List, false, sym, ap, subst, inl, arith}
use Rattle.disk_model.specs.Content.{Lawful}
use Rattle.epoch_line.specs.Line.{IsLine, cut_end, assign}
use Rattle.epoch_line.proofs.Parts.{IsLine-assign}
use Rattle.log_steps.specs.Fronts.{Each}
use Rattle.log_steps.proofs.Moments.{leaves_weaker}
use Rattle.local_log.specs.Log.{Log}
use Rattle.local_log.specs.Stored.{end_of}
use Rattle.local_log.proofs.Having.{start_since}
use Rattle.local_log.proofs.Lines.{cut_assign, within_assign}
use Rattle.local_log.proofs.Retold.{start_or}
use Rattle.local_log.proofs.Sides.{start_either}
use Rattle.local_log.proofs.log.LocalLog.lead.Goals as goal

pub returns-in_err-line-clause-any_moment : goal.returns-in_err-line-clause-any_moment
returns-in_err-line-clause-any_moment g c =
    let s = c.self.inside in
    let d = g.D.Disk.content s.disk in
    let laws : Lawful d = g.met.D.Disk.lawful s.disk in
    let unbroken : s.broken ≡ false = ap (λ (l : Log g.row.D.Denot). l.broken) c.self.view_is ∙ c.requires.unbroken in
    rw (← c.self.view_is) (leaves_weaker d d _ _ (λ f h. inl h) (start_since d laws s.incarnation s.local_start s.closed.items s.active s.line s.flushed_end (c.self.invariant.has unbroken)))

pub returns-in_err-line-clause-opens : goal.returns-in_err-line-clause-opens
returns-in_err-line-clause-opens g c =
    let s = c.self.inside in
    let d = g.D.Disk.content s.disk in
    rw (← c.self.view_is) (start_or d _)

pub returns-in_err-assign-clause-any_moment : goal.returns-in_err-assign-clause-any_moment
returns-in_err-assign-clause-any_moment g c =
    let s = c.self.inside in
    let d = g.D.Disk.content s.disk in
    let laws : Lawful d = g.met.D.Disk.lawful s.disk in
    let unbroken : s.broken ≡ false = ap (λ (l : Log g.row.D.Denot). l.broken) c.self.view_is ∙ c.requires.unbroken in
    rw (← c.self.view_is) (leaves_weaker d d _ _ (λ f h. inl h) (start_since d laws s.incarnation s.local_start s.closed.items s.active s.line s.flushed_end (c.self.invariant.has unbroken)))

pub returns-in_err-assign-clause-opens : goal.returns-in_err-assign-clause-opens
returns-in_err-assign-clause-opens g c =
    let s = c.self.inside in
    let d = g.D.Disk.content s.disk in
    rw (← c.self.view_is) (start_or d _)

pub commit-requires-clause-line : goal.commit-requires-clause-line
commit-requires-clause-line g c =
    let s = c.self.inside in
    let now = c.args.self.now in
    let end_is : end_of s.active ≡ now.end = ap (λ (l : Log g.row.D.Denot). l.end) c.self.view_is in
    let line_is : s.line ≡ now.line = ap (λ (l : Log g.row.D.Denot). l.line) c.self.view_is in
    let assigned : c.assign.new.self ≡ assign now.line c.args.epoch now.end =
    c.in_ok-assign.ensures.ok
    ∙ ap (λ (l : List (ℕ × ℕ)). assign l c.args.epoch c.end.result) (c.in_ok-line.ensures ∙ line_is)
    ∙ ap (λ (n : ℕ). assign now.line c.args.epoch n) (c.end.ensures ∙ end_is) in
    let is : IsLine now.line = subst IsLine line_is c.self.invariant.line in
    let low : now.end ≤ 2 ^ 62 = omega (arith, end_is, c.self.invariant.segments.low) in
    subst IsLine (sym assigned) (IsLine-assign now.line c.args.epoch now.end is c.requires.fits low c.requires.above)

pub commit-requires-clause-same : goal.commit-requires-clause-same
commit-requires-clause-same g c =
    let s = c.self.inside in
    let now = c.args.self.now in
    let end_is : end_of s.active ≡ now.end = ap (λ (l : Log g.row.D.Denot). l.end) c.self.view_is in
    let line_is : s.line ≡ now.line = ap (λ (l : Log g.row.D.Denot). l.line) c.self.view_is in
    let assigned : c.assign.new.self ≡ assign now.line c.args.epoch now.end =
    c.in_ok-assign.ensures.ok
    ∙ ap (λ (l : List (ℕ × ℕ)). assign l c.args.epoch c.end.result) (c.in_ok-line.ensures ∙ line_is)
    ∙ ap (λ (n : ℕ). assign now.line c.args.epoch n) (c.end.ensures ∙ end_is) in
    ap (λ (l : List (ℕ × ℕ)). cut_end l now.end) assigned ∙ cut_assign now.line c.args.epoch now.end now.end (omega arith)

pub commit-requires-clause-within : goal.commit-requires-clause-within
commit-requires-clause-within g c =
    let s = c.self.inside in
    let now = c.args.self.now in
    let end_is : end_of s.active ≡ now.end = ap (λ (l : Log g.row.D.Denot). l.end) c.self.view_is in
    let line_is : s.line ≡ now.line = ap (λ (l : Log g.row.D.Denot). l.line) c.self.view_is in
    let assigned : c.assign.new.self ≡ assign now.line c.args.epoch now.end =
    c.in_ok-assign.ensures.ok
    ∙ ap (λ (l : List (ℕ × ℕ)). assign l c.args.epoch c.end.result) (c.in_ok-line.ensures ∙ line_is)
    ∙ ap (λ (n : ℕ). assign now.line c.args.epoch n) (c.end.ensures ∙ end_is) in
    subst (λ (l : List (ℕ × ℕ)). Each (λ (e : ℕ × ℕ). e.1 ≤ now.end) l) (sym assigned) (within_assign now.line c.args.epoch now.end)

pub returns-in_err-line-clause-either : goal.returns-in_err-line-clause-either
returns-in_err-line-clause-either g c = rw (← c.self.view_is) (start_either (g.D.Disk.content c.self.inside.disk))

pub returns-in_err-assign-clause-either : goal.returns-in_err-assign-clause-either
returns-in_err-assign-clause-either g c = rw (← c.self.view_is) (start_either (g.D.Disk.content c.self.inside.disk))
