-- A closed segment of a leader's log is a part of the leader's path.
use Rattle.std.proofs.Common.{◌≡◌, ◌∙◌, sym, ap, subst, refl, ℕ, List, Some}
use Rattle.log_terms.proofs.Logs.{end_append}
use Rattle.epoch_line.specs.Line.{cut_end}
use Rattle.plain_log.specs.declared.state.Path.{Path}
use Rattle.plain_log.specs.declared.state.Role.{Role}
use Rattle.plain_log.specs.declared.state.Role.TheVariants.{Leads}
use Rattle.plain_log.specs.State.{path_of}
use Rattle.plain_log.specs.Safe.{RoleSafe}
use Rattle.tier_safe.specs.Lineage.{IsPathPart}
use Rattle.tier_safe.specs.Laws.{SegmentsAreSources}

leads_path : (paths : List Path) (epoch : ℕ) (r : Role) (e : ℕ) (log : List (List ℕ)) → r ≡ Leads e → RoleSafe paths epoch r log → path_of paths e ≡ Some log
leads_path paths epoch r e log is h = (subst (λ (k : Role). RoleSafe paths epoch k log) is h).1

pub segments_are_sources : SegmentsAreSources
segments_are_sources p b x e copy k front rest safe at role parts base line = record {
  copied = k;
  part = subst (λ (n : ℕ). IsPathPart p.paths n k.batches copy.line) base (record {
    epoch = e;
    front = front;
    ends = refl;
    begins = (x.log, leads_path p.paths p.registry.epoch x.role e x.log role (safe.brokers b x at).role, (rest, parts));
    line_is = ap (cut_end copy.line) (sym (end_append 0 front k.batches)) ∙ line;
  });
}
