-- What a crash leaves of one call and of the next.
use Rattle.std.proofs.Common.{◌≡◌, subst, inl, inr, ⊎_elim, List, [], ◌∷◌, ◌++◌}
use Rattle.disk_model.specs.Content.{Content, Files, Lawful, LeavesOnly}
use Rattle.segment_meta.specs.declared.note.Note.{Note}
use Rattle.meta_log_file.specs.Notes.{OpensWithNotes}
use Rattle.meta_log_file.specs.Crash.{Reopens, OpensLike, Appending}
use Rattle.meta_log_file.proofs.Moments.{leaves_weaker, leaves_then}
use Rattle.meta_log_file.proofs.Telling.{opens_once}

-- what opens like an image between opens like one of before
pub like_through : (d m : Content) → Lawful m → LeavesOnly d m (OpensLike d) → (c : Files) → OpensLike m c → OpensLike d c
like_through d m laws since c (x, image, (notes, ox, oc)) =
    let y = since.each x (laws.earlier d.moment m.moment x since.later image) in
    let same = opens_once x y.2.0 notes y.2.2 ox in
    (y.0, y.1, (notes, subst (OpensWithNotes y.0) same y.2.1, oc))

pub appending_through : (d m n : Content) (notes told : List Note) (note : Note) → Lawful m → told ≡ notes → LeavesOnly d m (OpensLike d) → LeavesOnly m n (Appending m told note) → LeavesOnly d n (Appending d notes note)
appending_through d m n notes told note laws same first then =
    leaves_then d m n (Appending d notes note) (leaves_weaker d m (OpensLike d) (Appending d notes note) (λ c o. inl o) first)
    (leaves_weaker m n (Appending m told note) (Appending d notes note)
    (λ c. ⊎_elim (λ o. inl (like_through d m laws first c o)) (λ o. inr (subst (λ (l : List Note). OpensWithNotes c (l ++ note ∷ [])) same o))) then)

-- a disk whose images opened can be opened again
pub reopens_after : (d n : Content) → Lawful n → LeavesOnly d n (OpensLike d) → Reopens n
reopens_after d n laws since c image = (let o = since.each c (laws.earlier d.moment n.moment c since.later image) in (o.2.0, o.2.2))
