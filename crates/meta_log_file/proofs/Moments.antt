-- How a run of disk calls continues.
use Rattle.std.proofs.Common.{inl, inr, ⊎_elim, arith}
use Rattle.disk_model.specs.Content.{Content, Files, Image, Elapses, LeavesOnly}

-- before the first call
pub started : (d : Content) (P : Files → Type 0) → ((c : Files) → Image d c → P c) → LeavesOnly d d P
started d P here = record { later = omega arith; each = here; before = λ t c le left. inl left }

-- one call more, after which a crash leaves what has P
pub goes_on : (old mid new : Content) (P : Files → Type 0) → LeavesOnly old mid P → Elapses mid new → ((c : Files) → Image new c → P c) → LeavesOnly old new P
goes_on old mid new P so_far time here = record {
  later = omega (arith, so_far.later, time.later);
  each = λ c left. ⊎_elim (so_far.each c) (here c) (time.nothing_else old.moment c so_far.later left);
  before = λ t c le left. ⊎_elim (so_far.before t c le) (λ now. inr (here c now)) (time.nothing_else t c (omega (arith, le, so_far.later)) left);
}

pub leaves_weaker : (old new : Content) (P Q : Files → Type 0) → ((c : Files) → P c → Q c) → LeavesOnly old new P → LeavesOnly old new Q
leaves_weaker old new P Q f h = record { later = h.later; each = λ c left. f c (h.each c left); before = λ t c le left. ⊎_elim (λ was. inl was) (λ p. inr (f c p)) (h.before t c le left) }

pub leaves_then : (old mid new : Content) (P : Files → Type 0) → LeavesOnly old mid P → LeavesOnly mid new P → LeavesOnly old new P
leaves_then old mid new P h k = record {
  later = omega (arith, h.later, k.later);
  each = λ c left. ⊎_elim (h.each c) (λ p. p) (k.before old.moment c h.later left);
  before = λ t c le left. ⊎_elim (h.before t c le) (λ p. inr p) (k.before t c (omega (arith, le, h.later)) left);
}
