-- Calls that change no file, one after another.
use Rattle.std.proofs.Common.{◌∙◌, refl, inl, inr, ⊎_elim, arith}
use Rattle.tier_base.specs.Device.{Control, Lasts}
use Rattle.disk_model.specs.Call.{call_code}
use Rattle.disk_model.specs.Content.{Content, Lawful, Keeps}

-- none of them
pub keeps_none : (d : Content) → Keeps d d
keeps_none d = record {
  is_observable = refl;
  files = λ n. refl;
  images = λ f left. left;
  time = record { later = omega arith; nothing_else = λ t f le left. inl left; keeps = λ t f le left. left };
}

pub lasts_none : (c : Control call_code) → Lasts c c
lasts_none c = record { plan = refl; armed = refl; scripted = refl; never_falls = omega arith; stays_infallible = λ t. t; no_fault = λ t. refl; unmade = λ off kind. refl }

-- one call after others
pub keeps_then : (a b c : Content) → Lawful a → Keeps a b → Keeps b c → Keeps a c
keeps_then a b c laws h k = record {
  is_observable = k.is_observable ∙ h.is_observable;
  files = λ n. k.files n ∙ h.files n;
  images = λ f left. h.images f (k.images f left);
  time = record {
    later = omega (arith, h.time.later, k.time.later);
    nothing_else = λ t f le left.
        ⊎_elim
        (λ was. ⊎_elim (λ x. inl x) (λ now. inl (laws.earlier t a.moment f le (h.images f now))) (h.time.nothing_else t f le was))
        (λ now. inr now)
        (k.time.nothing_else t f (omega (arith, le, h.time.later)) left);
    keeps = λ t f le left. k.time.keeps t f (omega (arith, le, h.time.later)) (h.time.keeps t f le left);
  };
}
