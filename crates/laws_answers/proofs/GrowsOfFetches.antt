-- Each turn lets paths grow and appends metadata events, so what fetches have found continues to exist.
use Rattle.std.proofs.Common.{◌≡◌, ◌∙◌, sym, ap, subst, ℕ, List, [], ◌∷◌, ◌++◌, Some}
use mathlib.Core.List.{IsPrefix}
use Rattle.disk_model.specs.declared.disk.Disk.{Ghosts as DiskGhosts}
use Rattle.object_store.specs.declared.store.Store.{Ghosts as StoreGhosts}
use Rattle.meta_log.specs.declared.log.MetaLog.{Ghosts as MetaGhosts}
use Rattle.log_terms.proofs.Lists.{and_then_some, prefix_trans}
use Rattle.segment_meta.specs.declared.note.Note.{Note}
use Rattle.remote_find.specs.declared.piece.Piece.{Piece}
use Rattle.tier_fetch.specs.declared.turn.FetchStep.{FetchStep}
use Rattle.tier_fetch.specs.declared.turn.FetchStep.TheVariants.{Refresh, Index, Log}
use Rattle.tier_fetch.specs.declared.turn.Span.{Span}
use Rattle.plain_log.specs.declared.command.ActorList.{ActorList}
use Rattle.plain_log.specs.declared.command.Order.{Order}
use Rattle.plain_log.specs.declared.journal.JournalEntry.{JournalEntry}
use Rattle.plain_log.specs.declared.state.Path.{Path}
use Rattle.plain_log.specs.declared.state.State.{State}
use Rattle.plain_log.specs.Grows.{PathsGrow}
use Rattle.plain_log.specs.Runs.{order_of, entry_step, replay}
use Rattle.plain_log.specs.Safe.{PlainSafe}
use Rattle.plain_log.specs.Step.{step}
use Rattle.plain_log.proofs.StepLaw.{step_safe}
use Rattle.plain_log.proofs.StepsGrow.{steps_grow}
use Rattle.plain_log.proofs.Wider.{wider_self, wider_trans, has_wider}
use Rattle.tier_safe.proofs.Lineage.{index_grows}
use Rattle.partition_world.specs.declared.actor_state.Outcome.{Outcome}
use Rattle.partition_world.specs.Central.{IsCentral}
use Rattle.partition_world.specs.ActorStates.{told_of}
use Rattle.partition_world.specs.Turn.{IsTurn}
use Rattle.partition_world.specs.Whole.{Whole}
use Rattle.laws_answers.specs.Found.{PieceEnds, SpanIsOf, FetchHasFound}

-- what was found exists over paths that grow and with more metadata events
pub ends_grow : (ps qs : List Path) (epoch : ℕ) (piece : Piece) → PathsGrow ps qs → PieceEnds ps epoch piece → PieceEnds qs epoch piece
ends_grow ps qs epoch piece w e = record { front = e.front; begins = has_wider ps qs epoch e.front w e.begins; ends = e.ends }

pub span_grows : (ps qs : List Path) (notes more : List Note) (offset limit : ℕ) (piece : Piece) (span : Span) → PathsGrow ps qs → IsPrefix notes more → SpanIsOf ps notes offset limit piece span
    → SpanIsOf qs more offset limit piece span
span_grows ps qs notes more offset limit piece span w pre s = record {
  before = s.before;
  begins = prefix_trans s.before notes more s.begins pre;
  entry = s.entry;
  there = s.there;
  finished = s.finished;
  index = s.index;
  is = index_grows ps qs s.entry s.index w s.is;
  span_is = s.span_is;
}

pub found_grows : (ps qs : List Path) (notes more : List Note) (epoch offset limit : ℕ) (next : FetchStep) → PathsGrow ps qs → IsPrefix notes more → FetchHasFound ps notes epoch offset limit next
    → FetchHasFound qs more epoch offset limit next
found_grows ps qs notes more epoch offset limit Refresh w pre f = tt
found_grows ps qs notes more epoch offset limit (Index piece) w pre f = ends_grow ps qs epoch piece w f
found_grows ps qs notes more epoch offset limit (Log piece span) w pre f = (ends_grow ps qs epoch piece w f.0, span_grows ps qs notes more offset limit piece span w pre f.1)

-- paths

replay_from : (lists : List ActorList) (p : State) (journal more : List JournalEntry) (q : State) → replay lists p journal ≡ Some q → replay lists p (journal ++ more) ≡ replay lists q more
replay_from lists p [] more q e = let is : p ≡ q = cc (e) in ap (λ (k : State). replay lists k more) is
replay_from lists p (entry ∷ journal) more q e =
    let m = and_then_some (λ (w : State). replay lists w journal) (entry_step lists p entry) q e in
    rw m.1 (replay_from lists m.0 journal more q m.2)

paths_grow : (lists : List ActorList) (p : State) (more : List JournalEntry) (q : State) → replay lists p more ≡ Some q → PlainSafe p → PathsGrow p.paths q.paths
paths_grow lists p [] q e s = let is : p ≡ q = cc (e) in subst (λ (k : State). PathsGrow p.paths k.paths) is (wider_self p.paths)
paths_grow lists p (entry ∷ more) q e s =
    let m = and_then_some (λ (w : State). replay lists w more) (entry_step lists p entry) q e in
    let o = and_then_some (λ (w : Order). step p w entry) (order_of lists entry) m.0 m.1 in
    let one = (steps_grow p o.0 entry m.0 o.2 s).paths in
    let rest = paths_grow lists m.0 more q m.2 (step_safe p o.0 entry m.0 o.2 s) in
    wider_trans p.paths m.0.paths q.paths one rest

module _ {D S M : Type 0} (disk : DiskGhosts D) (store : StoreGhosts S) (meta : MetaGhosts M) where
  pub paths_later : (opening : State) (w : Whole D S M) (a : ℕ) (outcome : Outcome) (w' : Whole D S M) (q : State) → IsTurn disk store meta w a outcome w' → (c : IsCentral disk store meta opening w)
      → replay w'.lists opening w'.journal.items ≡ Some q → PathsGrow c.central.plain.paths q.paths
  paths_later opening w a outcome w' q t c is =
      let more = told_of t.list.actor t.actor_state.number t.order.command outcome in
      let p = c.central.plain in
      let on : replay w.lists p more ≡ Some q =
      sym (replay_from w.lists opening w.journal.items more p c.central.replays)
      ∙ (ap (λ (items : List JournalEntry). replay w.lists opening items) (sym t.entered) ∙ (ap (λ (lists : List ActorList). replay lists opening w'.journal.items) (sym t.lists) ∙ is)) in
      paths_grow w.lists p more q on c.central.safe
