use Rattle.std.proofs.Common.{subst, sym, ◌-◌, ◌++◌, ◌∷◌, []}
use Rattle.std.proofs.lemmas.Int.{to_z-of_z}
use mir.Syntax.{w64}
use Rattle.sparse_index.specs.Times.{TimeTable, AreMoments}
use Rattle.sparse_index.proofs.TimeLaws.{moments-push}
use Rattle.sparse_index.proofs.time_index.TimeIndex.push.Goals as goal

pub add-requires : goal.add-requires
add-requires c =
    let stand = subst (λ (t : TimeTable). AreMoments t.entries) c.self.view_is c.self.invariant.entries in
    let more = moments-push c.args.self.now.entries (c.args.ts, c.args.last - c.args.self.now.base) stand (c.ranges.ts, c.requires.not_negative, c.requires.near) c.requires.above in
    rw (to_z-of_z w64 c.args.ts c.ranges.ts) (subst (λ (t : TimeTable). AreMoments (c.args.self.now.entries ++ (c.args.ts, c.args.last - t.base) ∷ [])) (sym c.self.view_is) more)
