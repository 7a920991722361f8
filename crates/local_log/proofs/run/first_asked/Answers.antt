use Rattle.std.proofs.Common.{◌∙◌, sym, ap, subst, refl, arith}
use Rattle.record_batch.specs.Check.{headed}
use Rattle.segment_file.proofs.Standing.{AreBytes}
use Rattle.local_log.proofs.Heads.{first_of, first_last, first_len, front_tells, asks, headed_batch, short_batch}
use Rattle.local_log.proofs.run.first_asked.Goals as goal

pub head_at-requires-clause-stands : goal.head_at-requires-clause-stands
head_at-requires-clause-stands c =
    let f = first_of c.requires.0 c.requires.1 c.args.run.now c.requires.3 in
    let is = ap headed f.parts ∙ headed_batch f.batch f.more f.ok in
    rw is refl

pub asked_of-requires : goal.asked_of-requires
asked_of-requires c =
    let f = first_of c.requires.0 c.requires.1 c.args.run.now c.requires.3 in
    let clean : AreBytes c.args.run.now = λ i. let b = c.type_inv.run i in omega (arith, b) in
    let t = front_tells f.batch f.more c.head_at.result (subst AreBytes f.parts clean) f.ok (ap headed (sym f.parts) ∙ c.head_at.ensures) in
    let few = (short_batch f.batch f.ok).1 in
    omega (arith, t.base, t.delta, f.base, few, c.requires.2)

pub returns-clause-last : goal.returns-clause-last
returns-clause-last c =
    let f = first_of c.requires.0 c.requires.1 c.args.run.now c.requires.3 in
    let clean : AreBytes c.args.run.now = λ i. let b = c.type_inv.run i in omega (arith, b) in
    let t = front_tells f.batch f.more c.head_at.result (subst AreBytes f.parts clean) f.ok (ap headed (sym f.parts) ∙ c.head_at.ensures) in
    ap (λ a. a.last) c.asked_of.ensures ∙ (asks f.batch c.head_at.result t).last ∙ sym (first_last c.requires.0 c.args.run.now f)

pub returns-clause-size : goal.returns-clause-size
returns-clause-size c =
    let f = first_of c.requires.0 c.requires.1 c.args.run.now c.requires.3 in
    let clean : AreBytes c.args.run.now = λ i. let b = c.type_inv.run i in omega (arith, b) in
    let t = front_tells f.batch f.more c.head_at.result (subst AreBytes f.parts clean) f.ok (ap headed (sym f.parts) ∙ c.head_at.ensures) in
    ap (λ a. a.size) c.asked_of.ensures ∙ (asks f.batch c.head_at.result t).size ∙ sym (first_len c.requires.0 c.args.run.now f)
