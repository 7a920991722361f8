use Rattle.std.proofs.Common.{◌≡◌, inl, inr, sym, ap, subst, IsTrue, ℕ, arith}
use Rattle.tier_base.specs.declared.names.PartitionId.{PartitionId}
use Rattle.run_yard.specs.Reading.{Suits}
use Rattle.laws_partition.proofs.Lines.{cases_eq}
use Rattle.run_yard.proofs.Looks.{number_or, suits_still, suits_read, read_then, refused_then, more_then}
use Rattle.run_yard.proofs.UsesOf.{used_both}
use Rattle.run_yard.proofs.checking.check_all.Goals as goal

pub check_one-requires : goal.check_one-requires
check_one-requires g c =
    let at = c.loop-part.invariant in
    let here : c.part-item.result.partition.0 ≡ c.loop-part.part-index = cc (c.part-item.is, number_or c.args.parts.now c.loop-part.part-index c.part-item.result c.requires.numbered c.loop-part-test.true) in
    record {
      before = λ t q below.
          let t' : IsTrue (g.Y.Yard.held c.args.yard.now).is_observable = subst IsTrue at.is_observable t in
          suits_still g.Y.D.Disk.content g.Y.S.Store.content g.Y.M.MetaLog.content c.args.asked q (g.Y.Yard.held c.args.yard.now) (g.Y.Yard.held c.loop-part.yard) (at.read t') (at.suit t' q (omega (arith, below, here)));
    }

pub returns-in-Err-clause-refused : goal.returns-in-Err-clause-refused
returns-in-Err-clause-refused g c =
    let at = c.loop-part.invariant in
    refused_then g.Y.D.Disk.content g.Y.S.Store.content g.Y.M.MetaLog.content c.args.asked (g.Y.Yard.held c.args.yard.now) (g.Y.Yard.held c.loop-part.yard) (g.Y.Yard.held c.check_one.new.yard)
    (g.Y.Yard.control c.args.yard.now) (g.Y.Yard.control c.loop-part.yard) (g.Y.Yard.control c.check_one.new.yard) c.in-Err.why at.is_observable at.read at.more at.used.uses.never_falls c.in-Err.ensures.refused

pub returns-in-Err-clause-read : goal.returns-in-Err-clause-read
returns-in-Err-clause-read g c = λ t.
    let at = c.loop-part.invariant in
    read_then g.Y.D.Disk.content g.Y.S.Store.content g.Y.M.MetaLog.content (g.Y.Yard.held c.args.yard.now) (g.Y.Yard.held c.loop-part.yard) (g.Y.Yard.held c.check_one.new.yard) (at.read t) (c.in-Err.ensures.read (subst IsTrue (sym at.is_observable) t))

pub loop-part-preserved : goal.loop-part-preserved
loop-part-preserved g c =
    let at = c.loop-part.invariant in
    let h0 = g.Y.Yard.held c.args.yard.now in
    let h = g.Y.Yard.held c.loop-part.yard in
    let h' = g.Y.Yard.held c.check_one.new.yard in
    let here : c.part-item.result.partition.0 ≡ c.loop-part.part-index = cc (c.part-item.is, number_or c.args.parts.now c.loop-part.part-index c.part-item.result c.requires.numbered c.loop-part-test.true) in
    record {
      read = λ t. read_then g.Y.D.Disk.content g.Y.S.Store.content g.Y.M.MetaLog.content h0 h h' (at.read t) (c.in-Ok.ensures.read (subst IsTrue (sym at.is_observable) t));
      is_observable = cc (at.is_observable, c.in-Ok.ensures.is_observable);
      used = used_both (g.Y.Yard.control c.args.yard.now) (g.Y.Yard.control c.loop-part.yard) (g.Y.Yard.control c.check_one.new.yard) at.used c.in-Ok.ensures.used;
      more = more_then (g.Y.Yard.control c.args.yard.now) (g.Y.Yard.control c.loop-part.yard) (g.Y.Yard.control c.check_one.new.yard) at.more c.in-Ok.ensures.more;
      suit = λ t q below. elim (cases_eq q.0 c.loop-part.part-index) [
        | inl same ↦
            let one : c.part-item.result.partition ≡ q = ap (λ (n : ℕ). record { 0 = n }) (cc (here, same)) in
            subst (λ (r : PartitionId). Suits g.Y.D.Disk.content g.Y.S.Store.content g.Y.M.MetaLog.content c.args.asked h0 r) one
            (suits_read g.Y.D.Disk.content g.Y.S.Store.content g.Y.M.MetaLog.content c.args.asked c.part-item.result.partition h0 h (at.read t) (c.in-Ok.ensures.suits (subst IsTrue (sym at.is_observable) t)))
        | inr other ↦ at.suit t q (omega (arith, below, other))
      ];
    }

pub returns-clause-suit : goal.returns-clause-suit
returns-clause-suit g c = λ t k d within.
    let here = number_or c.args.parts.now k d c.requires.numbered within in
    let done = c.loop-part-test.false in
    c.loop-part.invariant.suit t _ (omega (arith, here, within, done))
