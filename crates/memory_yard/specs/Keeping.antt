-- A call that changes nothing, and no call at all.
use Rattle.std.specs.Prelude.{refl}
use Rattle.std.proofs.Common.{inl}
use Rattle.std.proofs.Math.Nat.{le_refl}
use Rattle.disk_model.specs.Content as disk
use Rattle.object_store.specs.Content as store
use Rattle.meta_log.specs.Content as log

pub disk_keeps_itself : (d : disk.Content) → disk.Keeps d d
disk_keeps_itself d = record {
  is_observable = refl;
  files = λ n. refl;
  images = λ f left. left;
  time = record { later = le_refl d.moment; nothing_else = λ t f le left. inl left; keeps = λ t f le left. left };
}

pub store_keeps_itself : (s : store.Content) → store.Keeps s s
store_keeps_itself s = record { is_observable = refl; objects = λ k. refl }

pub log_keeps_itself : (m : log.Content) → log.Keeps m m
log_keeps_itself m = record { is_observable = refl; notes = refl; left = λ l at. at }
