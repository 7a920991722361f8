use Rattle.std.proofs.Common.{◌≡◌, Bool, true, false, cond, List, [], ◌∷◌, Option, Some, ap, ◌∙◌, subst, rules}
use Rattle.std.specs.Option.{option_map}
use Rattle.std.specs.Ordering.{nat_cmp}
use Rattle.std.specs.BTreeMap.{is_at}
use Rattle.std.specs.Map.{lookup}
use Rattle.std.specs.Map.Calls.{RetainsPairs}
use Rattle.disk_model.specs.FileBytes.{all_of, safe_of}
use Rattle.disk_model.proofs.shelf.crash_all.Goals as goal

both : {X Y : Type 0} (b : Bool) (new old : X → Y) (w v : X) → new w ≡ old v → (o p : Option X) → option_map new o ≡ option_map old p → option_map new (cond b (Some w) o) ≡ option_map old (cond b (Some v) p)
both true new old w v is o p h = ap Some is
both false new old w v is o p h = h

-- what a lookup sees of values that were written in a `retain` that keeps all
written : {F K X Y : Type 0} (T : F → K → X → Bool → X → F → Type 0) (f : F) (new old : X → Y) → ((k : K) (v : X) (b : Bool) (w : X) (f' : F) → T f k v b w f' → (b ≡ true) × (new w ≡ old v) × (f' ≡ f)) → (t : K → Bool) (es kept : List (K × X)) → RetainsPairs T f es kept → option_map new (lookup t kept) ≡ option_map old (lookup t es)
written T f new old says t [] kept h = ap (λ l. option_map new (lookup t l)) h
written {K} {X} T f new old says t (e ∷ es) kept h =
    let s = says e.0 e.1 h.0 h.1 h.2 h.4 in
    let is : kept ≡ (e.0, h.1) ∷ h.3 = h.6 ∙ ap (λ (b : Bool). cond b ((e.0, h.1) ∷ h.3) h.3) s.0 in
    let rest = written T f new old says t es h.3 (subst (λ g. RetainsPairs T g es h.3) s.2 h.5) in
    ap (λ (l : List (K × X)). option_map new (lookup t l)) is ∙ both (t e.0) new old h.1 e.1 s.1 (lookup t h.3) (lookup t es) rest

pub returns-clause-bytes : goal.returns-clause-bytes
returns-clause-bytes c q = written _ _ all_of safe_of (λ k v b w f' t. search rules) (is_at (nat_cmp q)) c.args.logs.now.entries c.retain.new.self.entries c.retain.ensures.filtered

pub returns-clause-safe : goal.returns-clause-safe
returns-clause-safe c q = written _ _ safe_of safe_of (λ k v b w f' t. search rules) (is_at (nat_cmp q)) c.args.logs.now.entries c.retain.new.self.entries c.retain.ensures.filtered
