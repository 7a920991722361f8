-- A batch that the leader puts at the end of its log is a run of it.
use Rattle.std.proofs.Common.{◌≡◌, ◌∙◌, ap, sym, subst, refl, ℕ, ◌+◌, ◌-◌, ◌^◌, ◌≤◌, List, [], ◌∷◌, Option, Some, Ok, Err, arith, append-nil}
use Rattle.std.specs.Prelude.{IsOk, unwrap_or, slice_get, IsSomeAnd, true}
use Rattle.tier_base.specs.Device.{Control}
use Rattle.disk_model.specs.Call.{call_code}
use Rattle.disk_model.specs.Content.{Content}
use Rattle.log_terms.specs.Batch.{base_of, epoch_of, last_offset_delta_of}
use Rattle.epoch_line.specs.Line.{last_epoch}
use Rattle.std.specs.declared.result.Result.{Result}
use Rattle.record_batch.specs.Head.{head_of}
use Rattle.record_batch.specs.declared.refusal.BatchRefusal.{BatchRefusal}
use Rattle.record_batch.specs.Check.{Batch, checked}
use Rattle.record_batch.specs.Stamp.{stamped}
use Rattle.local_log.specs.Run.{IsRunFor}
use Rattle.plain_log.specs.RowsOfLog.{offset_limit}
use Rattle.plain_log.specs.declared.answer.Answer.{Answer}
use Rattle.plain_log.specs.declared.answer.Answer.TheVariants.{OkSpan, TooManySegments, DiskFault}
use Rattle.plain_log.specs.declared.state.Role.{Role}
use Rattle.plain_log.specs.declared.state.Role.TheVariants.{Idle, Leads, Follows, Joined}
use Rattle.plain_log.specs.State.{leading}
use Rattle.broker_log.specs.Seen.{WhileUp}
use Rattle.registry.specs.declared.registry.Registry.{Registry}
use Rattle.partition_commands.specs.declared.partition_state.Node.{Node}
use Rattle.partition_commands.specs.declared.partition_state.PartitionState.{PartitionState}
use Rattle.partition_commands.specs.Partition.{AtNode, is_up, end_of, line_of, IsFull}
use Rattle.partition_commands.specs.Sound.{LeaderSound}
use Rattle.partition_commands.specs.TurnsOfLog.{end_with, MayPut, NodeGains, PutBatchRow, AppendRow}
use Rattle.partition_commands.proofs.Open.{while_of}

-- the epoch that a role leads
pub leads_role : (r : Role) (e : ℕ) → leading r ≡ Some e → r ≡ Leads e
leads_role Idle e is = absurd cc
leads_role (Leads f) e is = cc
leads_role (Follows f) e is = absurd cc
leads_role (Joined f) e is = absurd cc

-- bytes that pass the checks, by another name
pub is_ok_of : (batch bytes : List ℕ) (b : Batch) → batch ≡ bytes → checked bytes ≡ Ok b → IsOk (checked batch)
is_ok_of batch bytes b is ok = rw (is, ok) refl

pub ok_of : (batch bytes : List ℕ) → batch ≡ bytes → IsOk (checked bytes) → IsOk (checked batch)
ok_of batch bytes is ok = rw is ok

-- bytes that pass the checks pass them when they are stamped
pub stamped_ok : ((bytes : List ℕ) (batch : Batch) (base epoch : ℕ) → checked bytes ≡ Ok batch → checked (stamped bytes base epoch) ≡ Ok (record { head = head_of (stamped bytes base epoch); recs = batch.recs }))
    → (bytes : List ℕ) (base epoch : ℕ) → IsOk (checked bytes) → IsOk (checked (stamped bytes base epoch))
stamped_ok law bytes base epoch ok = go (checked bytes) refl ok
  where
    go : (r : Result Batch BatchRefusal) → checked bytes ≡ r → IsOk r → IsOk (checked (stamped bytes base epoch))
    go (Ok batch) is ok = rw (law bytes batch base epoch is) refl
    go (Err why) is ok = absurd cc

module _ {D : Type 0} where
  -- what is said of the node at a place holds of it
  pub of_node : (h : PartitionState D) (b : ℕ) (x : Node D) (P : Node D → Type 0) → slice_get h.nodes b ≡ Some x → AtNode h b P → P x
  of_node h b x P there at = subst (λ (o : Option (Node D)). IsSomeAnd o P) there at

  pub may_put : {r : Registry} (x : Node D) (batch : List ℕ) (base end e n : ℕ) → LeaderSound r x → x.role ≡ Leads e → end_of x ≡ base → IsOk (checked batch) → base_of batch ≡ base → epoch_of batch ≡ e
      → last_offset_delta_of batch + 1 ≡ n → end ≡ base + n → end ≤ 2 ^ 62 → MayPut x batch base (end - 1) e
  may_put x batch base end e n s role at is base_is epoch_is delta ends low = record {
    up = s.up e role;
    end = at;
    is = is;
    base_is = base_is;
    last_is = omega (arith, base_is, delta, ends);
    low = omega (arith, delta, ends, low);
    epoch_is = epoch_is;
    few = s.fits e role;
    leads = s.leads e role;
  }

  pub one_run : (x : Node D) (batch : List ℕ) (base last e : ℕ) → MayPut x batch base last e → WhileUp x.log (λ log. IsRunFor log.end log.line batch)
  one_run x batch base last e m = while_of (λ end line. IsRunFor end line batch) x.log m.up (record {
    batches = batch ∷ [];
    bytes = sym (append-nil batch);
    some = λ none. absurd (cc none);
    are = (m.is, tt);
    consecutive = (m.base_is ∙ sym m.end, tt);
    epochs = (
      (let last_is : unwrap_or (last_epoch (line_of x)) 0 ≡ e = ap (λ (o : Option ℕ). unwrap_or o 0) m.leads in
          let of_batch = m.epoch_is in omega (arith, last_is, of_batch)),
      (let few = m.few in let of_batch = m.epoch_is in omega (arith, few, of_batch)),
      tt,
    );
  })

module _ {D : Type 0} (content : D → Content) (control : D → Control call_code) where
  -- what comes of a batch that was placed comes of its append
  pub put_append : (h : PartitionState D) (b : ℕ) (x : Node D) (batch placed : List ℕ) (base last epoch : ℕ) (answer : Answer) (h' : PartitionState D) → is_up x ≡ true → x.role ≡ Leads epoch → end_with x batch ≤ offset_limit → base ≡ end_of x
      → last ≡ base + last_offset_delta_of batch → placed ≡ stamped batch base epoch → PutBatchRow content control h b x placed base last epoch answer h' → AppendRow content control h b x batch answer h'
  put_append h b x batch placed base last epoch TooManySegments h' up role fits at ends is w =
      (up, rw role refl, fits, (epoch, role, subst (IsFull x) (is ∙ ap (λ (n : ℕ). stamped batch n epoch) at) w.0), w.1)
  put_append h b x batch placed base last epoch DiskFault h' up role fits at ends is w = (
    up,
    rw role refl,
    fits,
    λ none.
        let same : none.0 ≡ epoch = one none.0 epoch (sym none.1 ∙ role) in
        w.0 (subst (IsFull x) (sym (is ∙ ap (λ (n : ℕ). stamped batch n epoch) at)) (subst (λ (k : ℕ). IsFull x (stamped batch (end_of x) k)) same none.2)),
    w.1,
  )
    where
      one : (e f : ℕ) → Leads e ≡ Leads f → e ≡ f
      one e f is = cc (is)
  put_append h b x batch placed base last epoch (OkSpan from to e) h' up role fits at ends is w = (
    up,
    role ∙ ap Leads (sym w.2),
    fits,
    w.0 ∙ at,
    w.1 ∙ (ends ∙ ap (λ (n : ℕ). n + last_offset_delta_of batch) (sym w.0)),
    subst (λ (l : List ℕ). IsFull x l → ⊥) (is ∙ (ap (λ (n : ℕ). stamped batch n epoch) (sym w.0) ∙ ap (λ (n : ℕ). stamped batch from n) (sym w.2))) w.3,
    subst (λ (l : List ℕ). NodeGains content control h b x l h') (is ∙ (ap (λ (n : ℕ). stamped batch n epoch) (sym w.0) ∙ ap (λ (n : ℕ). stamped batch from n) (sym w.2))) w.4,
  )
  put_append h b x batch placed base last epoch other h' up role fits at ends is w = elim w [ ]
