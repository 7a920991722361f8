-- What a node keeps, after each change of it.
use Rattle.std.proofs.Common.{◌≡◌, ◌∙◌, inl, inr, sym, ap, subst, refl, ℕ, ◌+◌, ◌^◌, ◌<◌, ◌≤◌, nat_lt, List, [], ◌∷◌, ◌++◌, length, Option, None, Some, Bool, true, false, min, arith}
use Rattle.std.specs.Prelude.{IsSome}
use Rattle.std.specs.List.{All, AllByRecursion}
use Rattle.std.proofs.lemmas.Bool.{cases_lt, lt-ltb, le-ltb}
use Rattle.std.proofs.lemmas.List.Elements.{All-from_recursion, recursion_from_All}
use mathlib.Core.List.{IsPrefix}
use Rattle.log_terms.specs.Batch.{base_of, epoch_of, last_of}
use Rattle.log_terms.specs.Line.{line_of}
use Rattle.log_terms.specs.Log.{IsConsecutive, end_from, end_of, up_to, EndsAt}
use Rattle.log_terms.proofs.Lists.{prefix_self, prefix_trans}
use Rattle.log_terms.proofs.Logs.{end_above, end_append, consecutive_prefix, consecutive_snoc, nested, prefix_end, up_to_end, up_to_is, up_to_prefix, ends_more, ends_at_zero, ends_at_end, ends_below}
use Rattle.epoch_line.specs.Line.{IsLine, last_epoch, assign, cut_end}
use Rattle.epoch_line.proofs.Parts.{IsLine-filter}
use Rattle.plain_log.specs.declared.state.Role.{Role}
use Rattle.plain_log.specs.declared.state.Role.TheVariants.{Idle, Leads, Follows, Joined}
use Rattle.plain_log.specs.State.{joined}
use Rattle.laws_partition.specs.declared.start_snapshot.StartSnapshot.{StartSnapshot}
use Rattle.laws_partition.specs.Seen.{Back, Node, SeenPartition}
use Rattle.laws_partition.specs.Partition.{back_of, kept_line, stopped, broken, torn}
use Rattle.laws_partition.specs.Log.{IsLineFor, MayTakeEpoch, cut_at, with_batch, epoch_in}
use Rattle.laws_partition.specs.RowsOfElections.{IsNew, led}
use Rattle.laws_partition.specs.RowsOfLog.{MayStartAt}
use Rattle.laws_partition.specs.RowsOfFollowers.{cut_node, cut_back, CanExtend, extended, rebuilt, unbuilt}
use Rattle.laws_partition.specs.Rows.{MayComeBack, opened}
use Rattle.laws_partition.specs.Sound.{IsBack, NodeSound}
use Rattle.laws_partition.proofs.Lines.{consecutive_back, kept_line_for, cut_at_line, lead_line, with_batch_line, with_batches_line, last_of_push, entered_same}

-- what a role says of itself
pub joined_is : (r : Role) (e : ℕ) → joined r ≡ Some e → r ≡ Joined e
joined_is Idle e h = absurd cc
joined_is (Leads f) e h = absurd cc
joined_is (Follows f) e h = absurd cc
joined_is (Joined f) e h = cc

-- one that has joined doesn't lead
joined_only : (r : Role) (f : ℕ) → IsSome (joined r) → r ≡ Leads f → ⊥
joined_only Idle f j is = absurd cc
joined_only (Leads m) f j is = absurd cc
joined_only (Follows m) f j is = absurd cc
joined_only (Joined m) f j is = absurd cc

-- a node that is up isn't down
up_down : {A : Type 0} (b : Bool) → b ≡ true → b ≡ false → A
up_down true u d = absurd cc
up_down false u d = absurd cc

-- a node with a role is up
pub role_up : (x : Node) → NodeSound x → (x.role ≡ Idle → ⊥) → x.up ≡ true
role_up x s busy = go x.up refl
  where
    go : (t : Bool) → x.up ≡ t → x.up ≡ true
    go true is = is
    go false is = absurd (busy (s.down is).0)

leads_up : (x : Node) (e : ℕ) → NodeSound x → x.role ≡ Leads e → x.up ≡ true
leads_up x e s is = role_up x s (λ idle. (let no : Idle ≡ Leads e = sym idle ∙ is in absurd cc))

pub joined_up : (x : Node) → NodeSound x → IsSome (joined x.role) → x.up ≡ true
joined_up x s j = role_up x s (λ idle. idle_joined x.role idle j)
  where
    idle_joined : (r : Role) → r ≡ Idle → IsSome (joined r) → ⊥
    idle_joined Idle is j = absurd cc
    idle_joined (Leads f) is j = absurd cc
    idle_joined (Follows f) is j = absurd cc
    idle_joined (Joined f) is j = absurd cc

-- no other end may come back of a node that is up
pub none_back : (x : Node) (back : Back) → NodeSound x → x.up ≡ true → x.loose ≡ Some back → ⊥
none_back x back s up is = let no : ◌≡◌ {A = Option Back} None (Some back) = sym (s.tight up) ∙ is in absurd cc

-- the last epoch of a line fits
pub last_fits : (line : List (ℕ × ℕ)) (e : ℕ) → IsLine line → last_epoch line ≡ Some e → e < 2 ^ 31
last_fits [] e h is = absurd cc
last_fits (one ∷ []) e h is = let same : one.0 ≡ e = cc in omega (arith, same, h.0)
last_fits (one ∷ two ∷ line) e h is = last_fits (two ∷ line) e h.3 is

-- what continues from a list's end
consecutive_append : (n : ℕ) (xs ys : List (List ℕ)) → IsConsecutive n xs → IsConsecutive (end_from n xs) ys → IsConsecutive n (xs ++ ys)
consecutive_append n [] ys c d = d
consecutive_append n (x ∷ xs) ys c d = (c.0, consecutive_append (last_of x + 1) xs ys c.1 d)

-- an end of a log, or the end of a beginning where that is smaller, is an end of the beginning
ends_cut : (k n : ℕ) (log : List (List ℕ)) → IsConsecutive 0 log → EndsAt k log → EndsAt (min k (end_of (up_to n log))) (up_to n log)
ends_cut k n log c h = elim (cases_lt k (end_of (up_to n log))) [
  | inl less ↦ (h.0, nested 0 h.0 (up_to n log) log c h.1 (up_to_prefix n log) (omega (arith, h.2, less)), omega (arith, h.2, less))
  | inr more ↦ subst (λ (m : ℕ). EndsAt m (up_to n log)) (omega (arith, more)) (ends_at_end (up_to n log))
]

-- all of a log is up to its end
up_to_all : (log : List (List ℕ)) → IsConsecutive 0 log → up_to (end_of log) log ≡ log
up_to_all log c = up_to_is 0 (end_of log) log log c (prefix_self log) refl

-- the batches up to an end of the log are the same in a longer one
up_to_more : (n : ℕ) (log more : List (List ℕ)) → IsConsecutive 0 (log ++ more) → EndsAt n log → up_to n (log ++ more) ≡ up_to n log
up_to_more n log more c h =
    up_to_is 0 n h.0 (log ++ more) c (prefix_trans h.0 log (log ++ more) h.1 (more, refl)) h.2
    ∙ sym (up_to_is 0 n h.0 log (consecutive_prefix 0 log (log ++ more) (more, refl) c) h.1 h.2)

-- the saved line of a log that gains batches
saved_more : (x : Node) (more : List (List ℕ)) → NodeSound x → IsConsecutive 0 (x.log.batches ++ more) → IsLineFor x.saved (up_to x.flushed_end (x.log.batches ++ more))
saved_more x more s c = subst (λ (log : List (List ℕ)). IsLineFor x.saved log) (sym (up_to_more x.flushed_end x.log.batches more c s.flushed_end)) s.saved

-- and of one that is all flushed
saved_all : (line : List (ℕ × ℕ)) (log : List (List ℕ)) → IsConsecutive 0 log → IsLineFor line log → IsLineFor line (up_to (end_of log) log)
saved_all line log c h = subst (λ (kept : List (List ℕ)). IsLineFor line kept) (sym (up_to_all log c)) h

-- an append
pub node_appended : (x : Node) (placed : List ℕ) (e : ℕ) → NodeSound x → x.role ≡ Leads e → base_of placed ≡ end_of x.log.batches → epoch_of placed ≡ e
    → last_of placed + 1 ≤ 4611686018427387904
    → NodeSound (record x { log = with_batch x.log placed }) × ((with_batch x.log placed).line ≡ line_of (with_batch x.log placed).batches)
node_appended x placed e s leads base epoch small =
    let last : last_epoch x.log.line ≡ Some e = s.leads e leads in
    let may : MayTakeEpoch x.log.line (epoch_of placed) = λ l is. (let same : l ≡ e = cc (is, last) in omega (arith, same, epoch)) in
    let low : end_of x.log.batches ≤ 2 ^ 62 = omega (arith, s.log.small) in
    let h = with_batch_line x.log.line x.log.batches placed s.log.consecutive s.log.line_is s.log.rises may base (subst (λ (k : ℕ). k < 2 ^ 31) (sym epoch) (last_fits x.log.line e s.log.rises last)) low in
    let follow = consecutive_snoc 0 x.log.batches placed s.log.consecutive base in
    let end : end_of (x.log.batches ++ placed ∷ []) ≡ last_of placed + 1 = end_append 0 x.log.batches (placed ∷ []) in (
      record {
        log = record {
          consecutive = follow;
          line_is = inl h.0;
          rises = h.1;
          ends = refl;
          small = omega (arith, end, small);
        };
        flushed_end = ends_more x.flushed_end x.log.batches (x.log.batches ++ placed ∷ []) s.flushed_end (placed ∷ [], refl);
        known_high_watermark = ends_more x.known_high_watermark x.log.batches (x.log.batches ++ placed ∷ []) s.known_high_watermark (placed ∷ [], refl);
        saved = saved_more x (placed ∷ []) s follow;
        saved_rises = s.saved_rises;
        begins = ends_more x.local x.log.batches (x.log.batches ++ placed ∷ []) s.begins (placed ∷ [], refl);
        within = s.within;
        back = λ back is. absurd (none_back x back s (leads_up x e s leads) is);
        tight = s.tight;
        leads = λ f is.
            let one : e ≡ f = cc (leads, is) in
            ap last_epoch (entered_same x.log.line (epoch_of placed) (end_of x.log.batches) e last (sym epoch)) ∙ (last ∙ ap (λ (k : ℕ). Some k) one);
        down = s.down;
      },
      h.0,
    )

-- a flush
pub node_flushed : (x : Node) (n : ℕ) → NodeSound x → x.up ≡ true → n ≡ end_of x.log.batches → NodeSound (record x { flushed_end = n; saved = x.log.line })
node_flushed x n s up is = record {
  log = s.log;
  flushed_end = subst (λ (m : ℕ). EndsAt m x.log.batches) (sym is) (ends_at_end x.log.batches);
  known_high_watermark = s.known_high_watermark;
  saved = subst (λ (m : ℕ). IsLineFor x.log.line (up_to m x.log.batches)) (sym is) (saved_all x.log.line x.log.batches s.log.consecutive s.log.line_is);
  saved_rises = s.log.rises;
  begins = s.begins;
  within = (let high = ends_below x.flushed_end x.log.batches s.log.consecutive s.flushed_end in omega (arith, s.within, high, is));
  back = λ back b. absurd (none_back x back s up b);
  tight = s.tight;
  leads = s.leads;
  down = s.down;
}

-- the high watermark, as far as the log goes
pub node_told : (x : Node) (known : ℕ) → NodeSound x → x.up ≡ true → EndsAt known x.log.batches → NodeSound (record x { known_high_watermark = known })
node_told x known s up ends = record {
  log = s.log;
  flushed_end = s.flushed_end;
  known_high_watermark = ends;
  saved = s.saved;
  saved_rises = s.saved_rises;
  begins = s.begins;
  within = s.within;
  back = λ back is. absurd (none_back x back s up is);
  tight = s.tight;
  leads = s.leads;
  down = λ d. up_down x.up up d;
}

-- a new epoch to follow
pub node_follows : (x : Node) (n : ℕ) → NodeSound x → x.up ≡ true → NodeSound (record x { role = Follows n })
node_follows x n s up = record {
  log = s.log;
  flushed_end = s.flushed_end;
  known_high_watermark = s.known_high_watermark;
  saved = s.saved;
  saved_rises = s.saved_rises;
  begins = s.begins;
  within = s.within;
  back = λ back is. absurd (none_back x back s up is);
  tight = s.tight;
  leads = λ e is. absurd cc;
  down = λ d. up_down x.up up d;
}

-- a new epoch to lead
pub node_led : (h : SeenPartition) (x : Node) (n : ℕ) → NodeSound x → x.up ≡ true → IsNew x n → n < 2 ^ 31 → EndsAt (led h x n).known_high_watermark x.log.batches → NodeSound (led h x n)
node_led h x n s up new fits ends =
    let k = lead_line x.log.line x.log.batches n s.log.consecutive s.log.line_is s.log.rises fits (omega (arith, s.log.small)) new in
    record {
      log = record { consecutive = s.log.consecutive; line_is = k.0; rises = k.1; ends = refl; small = s.log.small };
      flushed_end = ends_at_end x.log.batches;
      known_high_watermark = ends;
      saved = saved_all (led h x n).saved x.log.batches s.log.consecutive k.0;
      saved_rises = k.1;
      begins = s.begins;
      within = (let high = ends_below x.flushed_end x.log.batches s.log.consecutive s.flushed_end in omega (arith, s.within, high));
      back = λ back is. absurd (none_back x back s up is);
      tight = s.tight;
      leads = λ e is. last_of_push (cut_end x.log.line (end_of x.log.batches)) (n, end_of x.log.batches) ∙ ap (λ (m : ℕ). Some m) (cc (is));
      down = λ d. up_down x.up up d;
    }

-- a cut
pub node_cut : (x : Node) (e n : ℕ) → NodeSound x → x.up ≡ true → NodeSound (cut_node x e n) × ((cut_node x e n).log.line ≡ line_of (cut_node x e n).log.batches)
node_cut x e n s up =
    let k = cut_at_line x.log.line x.log.batches n s.log.consecutive s.log.line_is s.log.rises in
    let low = prefix_end (up_to n x.log.batches) x.log.batches s.log.consecutive (up_to_prefix n x.log.batches) in
    let follow = consecutive_prefix 0 (up_to n x.log.batches) x.log.batches (up_to_prefix n x.log.batches) s.log.consecutive in (
      record {
        log = record {
          consecutive = follow;
          line_is = inl k.0;
          rises = k.1;
          ends = refl;
          small = omega (arith, low, s.log.small);
        };
        flushed_end = ends_at_end (up_to n x.log.batches);
        known_high_watermark = ends_cut x.known_high_watermark n x.log.batches s.log.consecutive s.known_high_watermark;
        saved = saved_all (cut_node x e n).saved (up_to n x.log.batches) follow (inl k.0);
        saved_rises = k.1;
        begins = ends_cut x.local n x.log.batches s.log.consecutive s.begins;
        within = omega arith;
        back = λ back is. absurd (none_back x back s up is);
        tight = s.tight;
        leads = λ f is. absurd cc;
        down = λ d. up_down x.up up d;
      },
      k.0,
    )

-- the first of what can extend a log: batches of an epoch that the line takes
record Fronts (x : Node) (front : List (List ℕ)) (e : ℕ) : Type 0 where
  follow : IsConsecutive (end_of x.log.batches) front
  each : All (λ batch. epoch_of batch ≡ e) front
  small : end_from (end_of x.log.batches) front ≤ 4611686018427387904
  may : MayTakeEpoch x.log.line e
  fits : e < 2 ^ 31

all_front : (P : List ℕ → Type 0) (front rest : List (List ℕ)) → AllByRecursion P (front ++ rest) → AllByRecursion P front
all_front P [] rest all = tt
all_front P (batch ∷ front) rest all = (all.0, all_front P front rest all.1)

fronts : (x : Node) (g : StartSnapshot) (front rest : List (List ℕ)) (e : ℕ) → CanExtend x g → epoch_in g.batches ≡ Some e → g.batches ≡ front ++ rest → Fronts x front e
fronts x g front rest e w first parts =
    let one : w.epoch ≡ e = cc (w.first, first) in
    let each : All (λ batch. epoch_of batch ≡ e) g.batches = λ k d lt. (let same = w.same k d lt in cc (same, first)) in
    let follow : IsConsecutive (end_of x.log.batches) (front ++ rest) = subst (λ (n : ℕ). IsConsecutive n (front ++ rest)) w.end (subst (λ (run : List (List ℕ)). IsConsecutive g.end run) parts w.follow) in
    let above = end_above (end_from (end_of x.log.batches) front) rest (consecutive_back (end_of x.log.batches) front rest follow) in
    let end : end_from g.end g.batches ≡ end_from (end_of x.log.batches) (front ++ rest) = ap (λ (n : ℕ). end_from n g.batches) w.end ∙ ap (λ (run : List (List ℕ)). end_from (end_of x.log.batches) run) parts in
    record {
      follow = consecutive_prefix (end_of x.log.batches) front (front ++ rest) (rest, refl) follow;
      each = All-from_recursion _ front (all_front (λ (batch : List ℕ). epoch_of batch ≡ e) front rest (subst (λ (run : List (List ℕ)). AllByRecursion (λ batch. epoch_of batch ≡ e) run) parts (recursion_from_All (λ (batch : List ℕ). epoch_of batch ≡ e) g.batches each)));
      small = omega (arith, above, end, end_append (end_of x.log.batches) front rest, w.small);
      may = subst (λ (n : ℕ). MayTakeEpoch x.log.line n) one w.may;
      fits = omega (arith, one, w.fits);
    }

-- more batches at the end
pub node_extended : (x : Node) (g : StartSnapshot) (front rest : List (List ℕ)) (e : ℕ) → NodeSound x → CanExtend x g → epoch_in g.batches ≡ Some e → g.batches ≡ front ++ rest → 0 < length front
    → NodeSound (extended x front e) × ((extended x front e).log.line ≡ line_of (extended x front e).log.batches)
node_extended x g [] rest e s w first parts some = absurd (omega (arith, some))
node_extended x g (b ∷ more) rest e s w first parts some =
    let f = fronts x g (b ∷ more) rest e w first parts in
    let k = with_batches_line x.log.line x.log.batches e b more s.log.consecutive s.log.line_is s.log.rises f.may f.follow.0 f.each f.fits (omega (arith, s.log.small)) in
    let follow = consecutive_append 0 x.log.batches (b ∷ more) s.log.consecutive f.follow in
    let end : end_of (x.log.batches ++ b ∷ more) ≡ end_from (end_of x.log.batches) (b ∷ more) = end_append 0 x.log.batches (b ∷ more) in (
      record {
        log = record {
          consecutive = follow;
          line_is = inl k.0;
          rises = k.1;
          ends = refl;
          small = omega (arith, end, f.small);
        };
        flushed_end = ends_more x.flushed_end x.log.batches (x.log.batches ++ b ∷ more) s.flushed_end (b ∷ more, refl);
        known_high_watermark = ends_more x.known_high_watermark x.log.batches (x.log.batches ++ b ∷ more) s.known_high_watermark (b ∷ more, refl);
        saved = saved_more x (b ∷ more) s follow;
        saved_rises = s.saved_rises;
        begins = ends_more x.local x.log.batches (x.log.batches ++ b ∷ more) s.begins (b ∷ more, refl);
        within = s.within;
        back = λ back is. absurd (none_back x back s (joined_up x s w.joined) is);
        tight = s.tight;
        leads = λ n is. absurd (joined_only x.role n w.joined is);
        down = s.down;
      },
      k.0,
    )

-- a stop
pub node_stopped : (x : Node) → NodeSound x → NodeSound (stopped x)
node_stopped x s = record {
  log = s.log;
  flushed_end = s.flushed_end;
  known_high_watermark = ends_at_zero x.log.batches;
  saved = s.saved;
  saved_rises = s.saved_rises;
  begins = s.begins;
  within = s.within;
  back = λ back is. (let k = s.back back is in record { above = k.above; ends = k.ends; line = k.line; rises = k.rises; begins = k.begins; within = k.within });
  tight = λ up. absurd cc;
  leads = λ e is. absurd cc;
  down = λ d. (refl, refl);
}

-- what a write that fails was to leave

-- what is flushed
pub flushed_end_back : (x : Node) → NodeSound x → IsBack x (back_of x)
flushed_end_back x s = record { above = omega arith; ends = s.flushed_end; line = s.saved; rises = s.saved_rises; begins = s.begins; within = s.within }

-- all of the log
pub flush_back : (x : Node) → NodeSound x → IsBack x (end_of x.log.batches, x.log.line, x.local)
flush_back x s = record {
  above = ends_below x.flushed_end x.log.batches s.log.consecutive s.flushed_end;
  ends = ends_at_end x.log.batches;
  line = saved_all x.log.line x.log.batches s.log.consecutive s.log.line_is;
  rises = s.log.rises;
  begins = s.begins;
  within = (let high = ends_below x.flushed_end x.log.batches s.log.consecutive s.flushed_end in omega (arith, s.within, high));
}

-- all of the log, with an epoch to lead
pub lead_back : (x : Node) (n : ℕ) → NodeSound x → IsNew x n → n < 2 ^ 31 → IsBack x (end_of x.log.batches, assign x.log.line n (end_of x.log.batches), x.local)
lead_back x n s new fits =
    let k = lead_line x.log.line x.log.batches n s.log.consecutive s.log.line_is s.log.rises fits (omega (arith, s.log.small)) new in
    record {
      above = ends_below x.flushed_end x.log.batches s.log.consecutive s.flushed_end;
      ends = ends_at_end x.log.batches;
      line = saved_all (assign x.log.line n (end_of x.log.batches)) x.log.batches s.log.consecutive k.0;
      rises = k.1;
      begins = s.begins;
      within = (let high = ends_below x.flushed_end x.log.batches s.log.consecutive s.flushed_end in omega (arith, s.within, high));
    }

-- a local log that begins further on
pub trim_back : (x : Node) (start : ℕ) → NodeSound x → MayStartAt x start → IsBack x (x.flushed_end, kept_line x, start)
trim_back x start s may = record {
  above = omega arith;
  ends = s.flushed_end;
  line = kept_line_for x.log.line x.log.batches x.flushed_end s.log.consecutive s.log.line_is s.flushed_end;
  rises = IsLine-filter (λ (entry : ℕ × ℕ). nat_lt entry.1 (x.flushed_end + 1)) x.log.line s.log.rises;
  begins = may.ends;
  within = may.flushed_end;
}

pub node_trimmed : (x : Node) (start : ℕ) → NodeSound x → x.up ≡ true → MayStartAt x start → NodeSound (record x { local = start; saved = kept_line x })
node_trimmed x start s up may = record {
  log = s.log;
  flushed_end = s.flushed_end;
  known_high_watermark = s.known_high_watermark;
  saved = kept_line_for x.log.line x.log.batches x.flushed_end s.log.consecutive s.log.line_is s.flushed_end;
  saved_rises = IsLine-filter (λ (entry : ℕ × ℕ). nat_lt entry.1 (x.flushed_end + 1)) x.log.line s.log.rises;
  begins = may.ends;
  within = may.flushed_end;
  back = λ back is. absurd (none_back x back s up is);
  tight = s.tight;
  leads = s.leads;
  down = s.down;
}

-- a write that failed
pub node_broken : (x : Node) (back : Back) → NodeSound x → IsBack x back → NodeSound (broken x back)
node_broken x back s k = record {
  log = s.log;
  flushed_end = s.flushed_end;
  known_high_watermark = ends_at_zero x.log.batches;
  saved = s.saved;
  saved_rises = s.saved_rises;
  begins = s.begins;
  within = s.within;
  back = λ other is.
      let same : back ≡ other = cc (is) in
      subst (λ (b : Back). IsBack (broken x back) b) same (record { above = k.above; ends = k.ends; line = k.line; rises = k.rises; begins = k.begins; within = k.within });
  tight = λ up. absurd cc;
  leads = λ e is. absurd cc;
  down = λ d. (refl, refl);
}

-- a node after a cut that failed, where the cut was below the flushed end
abbrev pub torn_low : Node → Back → Node
torn_low x back = record (stopped x) { flushed_end = back.0; saved = back.1; local = back.2; loose = Some (back_of x) }

pub torn_below : (x : Node) (back : Back) → nat_lt back.0 x.flushed_end ≡ true → torn x back ≡ torn_low x back
torn_below x back t = rw t refl

pub torn_above : (x : Node) (back : Back) → nat_lt back.0 x.flushed_end ≡ false → torn x back ≡ broken x back
torn_above x back t = rw t refl

-- the log up to an offset is the log up to where that ends
up_to_end_of : (m n : ℕ) (log : List (List ℕ)) → IsConsecutive 0 log → n ≡ end_of (up_to m log) → up_to n log ≡ up_to m log
up_to_end_of m n log c is = up_to_is 0 n (up_to m log) log c (up_to_prefix m log) (sym is)

-- the smaller of two ends of a log is one
ends_min : (a b : ℕ) (log : List (List ℕ)) → EndsAt a log → EndsAt b log → EndsAt (min a b) log
ends_min a b log one two = elim (cases_lt a b) [
  | inl less ↦ subst (λ (m : ℕ). EndsAt m log) (omega (arith, less)) one
  | inr more ↦ subst (λ (m : ℕ). EndsAt m log) (omega (arith, more)) two
]

-- a cut that failed
pub node_torn : (x : Node) (m : ℕ) → NodeSound x → NodeSound (torn x (cut_back x m))
node_torn x m s = elim (cases_lt n x.flushed_end) [
  | inl less ↦ subst NodeSound (sym (torn_below x (cut_back x m) (lt-ltb n x.flushed_end less))) (record {
    log = s.log;
    flushed_end = ends;
    known_high_watermark = ends_at_zero x.log.batches;
    saved = line_is;
    saved_rises = k.1;
    begins = begins;
    within = omega arith;
    back = λ back b.
        let same : back_of x ≡ back = cc (b) in
        subst (λ (b : Back). IsBack (torn_low x (cut_back x m)) b) same (record { above = omega (arith, less); ends = s.flushed_end; line = s.saved; rises = s.saved_rises; begins = s.begins; within = s.within });
    tight = λ up. absurd cc;
    leads = λ e is. absurd cc;
    down = λ d. (refl, refl);
  })
  | inr more ↦ subst NodeSound (sym (torn_above x (cut_back x m) (le-ltb n x.flushed_end more)))
      (node_broken x (cut_back x m) s (record { above = more; ends = ends; line = line_is; rises = k.1; begins = begins; within = omega arith }))
]
  where
    n : ℕ
    n = end_of (up_to m x.log.batches)

    line : List (ℕ × ℕ)
    line = (cut_at x.log m).line

    k : (line ≡ line_of (up_to m x.log.batches)) × IsLine line
    k = cut_at_line x.log.line x.log.batches m s.log.consecutive s.log.line_is s.log.rises

    ends : EndsAt n x.log.batches
    ends = (up_to m x.log.batches, up_to_prefix m x.log.batches, refl)

    begins : EndsAt (min x.local n) x.log.batches
    begins = ends_min x.local n x.log.batches s.begins ends

    line_is : IsLineFor line (up_to n x.log.batches)
    line_is = inl (k.0 ∙ ap line_of (sym (up_to_end_of m n x.log.batches s.log.consecutive refl)))

-- a log that is restarted: batches that it begins, and that end further on
pub record IsWhole (x : Node) (whole : List (List ℕ)) (n : ℕ) : Type 0 where
  pub consecutive : IsConsecutive 0 whole
  pub begins : IsPrefix x.log.batches whole
  pub ends : end_of whole ≡ n
  pub above : end_of x.log.batches < n
  pub rises : IsLine (line_of whole)
  pub small : n ≤ 4611686018427387904

pub node_rebuilt : (x : Node) (whole : List (List ℕ)) (n : ℕ) → NodeSound x → x.up ≡ true → IsSome (joined x.role) → IsWhole x whole n → NodeSound (rebuilt x whole n)
node_rebuilt x whole n s up j w =
    let end : EndsAt n whole = (whole, prefix_self whole, w.ends) in
    record {
      log = record { consecutive = w.consecutive; line_is = inl refl; rises = w.rises; ends = refl; small = omega (arith, w.ends, w.small) };
      flushed_end = end;
      known_high_watermark = ends_more x.known_high_watermark x.log.batches whole s.known_high_watermark w.begins;
      saved = subst (λ (m : ℕ). IsLineFor (line_of whole) (up_to m whole)) w.ends (saved_all (line_of whole) whole w.consecutive (inl refl));
      saved_rises = w.rises;
      begins = end;
      within = omega arith;
      back = λ back is. absurd (none_back x back s up is);
      tight = s.tight;
      leads = λ e is. absurd (joined_only x.role e j is);
      down = λ d. up_down x.up up d;
    }

-- a rebuild that failed
pub node_unbuilt : (x : Node) (whole : List (List ℕ)) (n : ℕ) → NodeSound x → IsWhole x whole n → NodeSound (unbuilt x whole n)
node_unbuilt x whole n s w =
    let end : EndsAt n whole = (whole, prefix_self whole, w.ends) in
    let high = ends_below x.flushed_end x.log.batches s.log.consecutive s.flushed_end in
    let all : IsConsecutive 0 (x.log.batches ++ w.begins.0) = subst (IsConsecutive 0) (sym w.begins.1) w.consecutive in
    let made : IsBack (unbuilt x whole n) (n, line_of whole, n) = record {
      above = omega (arith, high, w.above);
      ends = end;
      line = subst (λ (m : ℕ). IsLineFor (line_of whole) (up_to m whole)) w.ends (saved_all (line_of whole) whole w.consecutive (inl refl));
      rises = w.rises;
      begins = end;
      within = omega arith;
    } in
    record {
      log = record { consecutive = w.consecutive; line_is = inl refl; rises = w.rises; ends = refl; small = omega (arith, w.ends, w.small) };
      flushed_end = ends_more x.flushed_end x.log.batches whole s.flushed_end w.begins;
      known_high_watermark = ends_at_zero whole;
      saved = subst (λ (log : List (List ℕ)). IsLineFor x.saved (up_to x.flushed_end log)) w.begins.1 (saved_more x w.begins.0 s all);
      saved_rises = s.saved_rises;
      begins = ends_more x.local x.log.batches whole s.begins w.begins;
      within = s.within;
      back = λ other is. (let same : (n, line_of whole, n) ≡ other = cc (is) in subst (λ (b : Back). IsBack (unbuilt x whole n) b) same made);
      tight = λ up. absurd cc;
      leads = λ e is. absurd cc;
      down = λ d. (refl, refl);
    }

-- what may come back is an end of the log, with a line of what ends there
pub may_back : (x : Node) (back : Back) → NodeSound x → MayComeBack x back → IsBack x back
may_back x back s (inl is) = subst (λ (b : Back). IsBack x b) (sym is) (flushed_end_back x s)
may_back x back s (inr is) = s.back back is

-- an end of a log at or below another is an end of what ends there
ends_within : (a b : ℕ) (log : List (List ℕ)) → IsConsecutive 0 log → EndsAt a log → EndsAt b log → a ≤ b → EndsAt a (up_to b log)
ends_within a b log c one two le =
    let at = up_to_end b log c two in
    subst (λ (m : ℕ). EndsAt m (up_to b log)) (omega (arith, at, le)) (ends_cut a b log c one)

-- a node that starts
pub node_opened : (x : Node) (back : Back) (i : ℕ) → NodeSound x → x.up ≡ false → MayComeBack x back → NodeSound (opened x back i)
node_opened x back i s off may =
    let k = may_back x back s may in
    let low = prefix_end (up_to back.0 x.log.batches) x.log.batches s.log.consecutive (up_to_prefix back.0 x.log.batches) in
    let follow = consecutive_prefix 0 (up_to back.0 x.log.batches) x.log.batches (up_to_prefix back.0 x.log.batches) s.log.consecutive in
    let none = s.down off in
    record {
      log = record { consecutive = follow; line_is = k.line; rises = k.rises; ends = refl; small = omega (arith, low, s.log.small) };
      flushed_end = ends_at_end (up_to back.0 x.log.batches);
      known_high_watermark = subst (λ (n : ℕ). EndsAt n (up_to back.0 x.log.batches)) (sym none.1) (ends_at_zero (up_to back.0 x.log.batches));
      saved = saved_all back.1 (up_to back.0 x.log.batches) follow k.line;
      saved_rises = k.rises;
      begins = ends_within back.2 back.0 x.log.batches s.log.consecutive k.begins k.ends k.within;
      within = (let at = up_to_end back.0 x.log.batches s.log.consecutive k.ends in omega (arith, at, k.within));
      back = λ other is. absurd cc;
      tight = λ up. refl;
      leads = λ e is. (let idle : Idle ≡ Leads e = sym none.0 ∙ is in absurd cc);
      down = λ d. absurd cc;
    }
