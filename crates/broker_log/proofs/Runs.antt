-- A run of an open log, as it is seen.
use Rattle.std.proofs.Common.{◌≡◌, ◌∙◌, ap, sym, subst, refl, ℕ, ◌+◌, ◌≤◌, ◌<◌, Bool, true, false, List, [], ◌∷◌, ◌++◌, length, arith, append_assoc, ltb-true}
use Rattle.std.specs.Prelude.{nat_lt, IsOk, Option, Some, None, IfSome, Result, Ok, Err, IfOk, IfErr, IsErrOf, IsTrue}
use Rattle.tier_base.specs.declared.plain.Stop.{Stop}
use Rattle.tier_base.specs.declared.plain.Stop.TheVariants.{Mark, Piece, Limit}
use Rattle.tier_base.specs.Device.{Control, Went, Ran}
use Rattle.disk_model.specs.declared.call.DiskCall.TheVariants.{Read}
use Rattle.tier_base.specs.declared.plain.FileName.{FileName}
use Rattle.disk_model.specs.Call.{call_code}
use Rattle.disk_model.specs.Content.{Content, Keeps}
use Rattle.log_terms.specs.Batch.{last_of}
use Rattle.log_terms.specs.Log.{from_offset, end_of, end_from, joined, EndsAt}
use Rattle.log_terms.proofs.Logs.{up_to_end, ends_below}
use Rattle.record_batch.specs.Check.{checked}
use Rattle.segment_file.specs.Run.{StopIs as StopsIn}
use Rattle.log_steps.specs.Fronts.{Each}
use Rattle.log_steps.proofs.Lists.{each_map, each_left, each_right}
use Rattle.local_log.specs.declared.reading.RunOut.{RunOut}
use Rattle.local_log.specs.Log.{Log, LogBecomes}
use Rattle.local_log.specs.Coheres.{Coheres}
use Rattle.local_log.specs.declared.refusal.ReadRefusal.{ReadRefusal}
use Rattle.local_log.specs.declared.refusal.ReadRefusal.TheVariants.{Damaged}
use Rattle.local_log.specs.Reading.{segment_at, IsRunOf, IsEdge, IsCutOut, RunFails, IsOfDevice, ReadOnce, piece_of, passes}
use Rattle.broker_log.specs.Seen.{LogSeen, Up, LogStays, ShowsOpen}
use Rattle.broker_log.specs.Read.{IsRunInLog, IsSegmentOf, ReadsRun, Misreads, StopIs}
use Rattle.broker_log.proofs.Between.{between_kept}
use Rattle.broker_log.proofs.Showing.{stays_by}
use Rattle.broker_log.proofs.Local.{from_local, up_end}
use Rattle.segment_file.specs.Closed.{ClosedSegment}
use Rattle.local_log.specs.Reading.{IsPartOf}
use Rattle.log_terms.proofs.Logs.{end_append}

module _ {D : Type 0} (content : D → Content) (log : Log D) (s : LogSeen) (h : ShowsOpen content log s) where
  pub edge_at : (mark : ℕ) → log.local_start ≤ mark → EndsAt mark s.batches → IsEdge log mark
  edge_at mark from ends =
      sym (up_end content log s h mark (let same = h.local_is in omega (arith, from, same))) ∙ up_to_end mark s.batches h.consecutive ends

-- batches that pass every test
abbrev ArePassing : List (List ℕ) → Type 0
ArePassing batches = Each (λ (batch : List ℕ). IsOk (checked batch)) batches

-- a closed segment of an open log
pub segment_of : {D : Type 0} (content : D → Content) (log : Log D) (s : LogSeen) → ShowsOpen content log s → ArePassing log.batches → (whole : ClosedSegment)
    → IsPartOf log whole → IsSegmentOf s whole
segment_of content log s h are whole k = record {
  before = h.below ++ k.before;
  batches = k.batches;
  after = k.after;
  parts = h.batches_are ∙ ap (λ (l : List (List ℕ)). h.below ++ l) k.parts ∙ sym (append_assoc h.below k.before (k.batches ++ k.after));
  begins = end_append 0 h.below k.before ∙ ap (λ (n : ℕ). end_from n k.before) h.begins ∙ k.begins;
  bytes_are = k.bytes_are;
  ends = k.ends;
  are = each_left _ k.batches k.after (each_right _ k.before (k.batches ++ k.after) (subst ArePassing k.parts are));
}

pub some_more : {X : Type 0} (P Q : X → Type 0) (o : Option X) → ((x : X) → P x → Q x) → IfSome o P → IfSome o Q
some_more P Q None f h = tt
some_more P Q (Some x) f h = f x h

-- what holds of all batches holds of those from an offset on
each_from : (P : List ℕ → Type 0) (offset : ℕ) (batches : List (List ℕ)) → Each P batches → Each P (from_offset offset batches)
each_from P offset [] each = tt
each_from P offset (batch ∷ batches) each = go (nat_lt (last_of batch) offset) refl (each_from P offset batches each.1)
  where
    go : (t : Bool) → nat_lt (last_of batch) offset ≡ t → Each P (from_offset offset batches) → Each P (from_offset offset (batch ∷ batches))
    go true e more = rw e more
    go false e more = rw e each

-- why a run ends, without the piece
stops : (stop : Stop) (next mark piece limit : ℕ) (run rest : List (List ℕ)) (bytes : List ℕ) → bytes ≡ joined run → StopsIn stop next mark piece (passes limit (length bytes) rest) → StopIs stop run rest next limit mark
stops Mark next mark piece limit run rest bytes is s = s
stops Piece next mark piece limit run rest bytes is s = s.0
stops Limit next mark piece limit run [] bytes is s = absurd (cc (s.2))
stops Limit next mark piece limit run (batch ∷ rest) bytes is s = (s.0, subst (λ (b : List ℕ). limit < length b + length batch) is (ltb-true limit (length bytes + length batch) s.2))

module _ {D : Type 0} (content : D → Content) (log : Log D) (s : LogSeen) (h : ShowsOpen content log s) (c : Coheres log) where
  -- a run that was read up to an end of the log's batches
  pub run_in : (offset limit mark : ℕ) (out : RunOut) → log.local_start ≤ offset → offset < mark → EndsAt mark s.batches → IsRunOf log offset limit mark out → IsRunInLog (Up log) s offset limit mark out
  run_in offset limit mark out from below ends r =
      let run = r.first ∷ r.others in
      let high : mark ≤ end_of s.batches = ends_below mark s.batches h.consecutive ends in
      let ends_is = h.ends in
      let within : offset < log.end = omega (arith, below, high, ends_is) in
      let same = h.local_is in
      let of_local : from_offset offset s.batches ≡ from_offset offset log.batches = from_local content log s h offset (omega (arith, from, same)) in
      let those = subst (Each (λ (batch : List ℕ). IsOk (checked batch))) r.parts (each_from (λ (batch : List ℕ). IsOk (checked batch)) offset log.batches c.are) in
      let inner = r.within in
      let starts = each_map {Q = λ (entry : ℕ × ℕ). offset < entry.1 → EndsAt entry.1 s.batches → out.next ≤ entry.1}
      (λ entry piece past end. (let at = piece past (edge_at content log s h entry.1 (omega (arith, from, past)) end) in omega (arith, at, inner)))
      log.line (c.pieces offset from within) in
      record {
        run = run;
        rest = r.rest;
        some = λ none. absurd (cc none);
        parts = of_local ∙ r.parts;
        bytes = r.bytes_are;
        fits = r.fits;
        are = each_left (λ (batch : List ℕ). IsOk (checked batch)) run r.rest those;
        next_is = r.next_is;
        below = r.below;
        before = subst (Each (λ (entry : ℕ × ℕ). offset < entry.1 → EndsAt entry.1 s.batches → out.next ≤ entry.1)) (sym h.line_is) starts;
        stop_is = stops out.stop out.next mark (piece_of log offset) limit run r.rest out.bytes r.bytes_are r.stop_is;
        piece = (r.within, r.stop_is);
      }

-- four facts of an answer make one
pub ok_four : {T E : Type 0} (P Q R S U : T → Type 0) (r : Result T E) → ((x : T) → P x → Q x → R x → S x → U x) → IfOk r P → IfOk r Q → IfOk r R → IfOk r S → IfOk r U
ok_four P Q R S U (Ok x) f p q h k = f x p q h k
ok_four P Q R S U (Err e) f p q h k = tt

-- the read of a call that went well did so
pub ran_ok : {T : Type 0} (P : Type 0) (r : Result T ReadRefusal) (old new : Control call_code) → (IsOk r → P) → (P → ReadOnce r old new) → IfOk r (λ x. Ran Read Went old new)
ran_ok P (Ok x) old new ok ran = ran (ok refl)
ran_ok P (Err e) old new ok ran = tt

-- what a refusal reports
pub err_told : {T : Type 0} (P Q : ReadRefusal → Type 0) (r : Result T ReadRefusal) (cause : ReadRefusal) → IfErr r P → IfErr r Q → IsErrOf r cause → P cause × Q cause
err_told P Q (Ok x) cause p q is = absurd (cc is)
err_told P Q (Err e) cause p q is = let same : e ≡ cause = cc is in (subst P same p, subst Q same q)

module _ {D : Type 0} (content : D → Content) (old new : Log D) (b : LogBecomes content old new) (keeps : Keeps (content old.disk) (content new.disk)) where
  -- a log that was read is as it was
  pub reading_stays : LogStays content (Up old) (Up new)
  reading_stays = stays_by content old new b (λ c now. (c, keeps.images c now, λ o is. is)) (between_kept (content old.disk) (content new.disk) keeps)

  module _ (control : D → Control call_code) (offset limit mark : ℕ) (from : old.local_start ≤ offset) (below : offset < mark) where
    -- the run that was read
    pub reads_by : (IsTrue (content old.disk).is_observable → Coheres old) → (out : RunOut) → (IsTrue (content old.disk).is_observable → IsRunOf old offset limit mark out) → out.base ≡ (segment_at old offset).base
        → IsCutOut old.line (control new.disk).last_read offset limit mark (piece_of old offset) out → Ran Read Went (control old.disk) (control new.disk) → ReadsRun content control (Up old) (Up new) offset limit mark out
    reads_by coheres out run base part ran = record {
      stays = reading_stays;
      base = base;
      ran = ran;
      part = part;
      run = λ s h ends. run_in content old s h (coheres h.told) offset limit mark out from below ends (run h.told);
    }

    -- what was damaged
    pub misreads_by : (name : FileName) (at : ℕ) → RunFails old offset limit mark (control new.disk).last_read (Damaged name at) → (IsTrue (content old.disk).is_observable → IsEdge old mark → IsOfDevice (Damaged name at))
        → Misreads content control (Up old) (Up new) offset limit mark name at
    misreads_by name at fails whole = record {
      stays = reading_stays;
      cause = fails;
      unmarked = λ s h ends. whole h.told (edge_at content old s h mark (omega (arith, from, below)) ends);
    }

-- a log whose disk was armed
pub armed_stays : {D : Type 0} (content : D → Content) (old new : Log D) → new ≡ record old { disk = new.disk } → Keeps (content old.disk) (content new.disk) → LogStays content (Up old) (Up new)
armed_stays {D = D} content old new is k =
    reading_stays content old new
    (record {
      fields = is ∙ ap (λ (b : List (List ℕ)). (let l : Log D = record old { disk = new.disk; batches = b } in l)) (sym (ap (λ (l : Log D). l.batches) is));
      is_observable = k.is_observable;
      batches = λ t. ap (λ (l : Log D). l.batches) is;
    })
    k
