use Rattle.std.proofs.Common.{◌∙◌, sym, ap, subst, [], ◌∷◌, ◌++◌, List, IsTrue}
use Rattle.device_yard.specs.declared.read_registry.ReadRegistry.{ReadRegistry}
use Rattle.run_yard.specs.Reading.{IsRefusedSo}
use Rattle.run_yard.specs.declared.refusal.YardRefusal.{YardRefusal}
use Rattle.run_yard.proofs.Looks.{registry_read, refused_so, last_one, file_handed, one_risen}
use Rattle.run_yard.proofs.checking.check_one.Goals as goal

pub returns-in-Ok-judge-clause-read : goal.returns-in-Ok-judge-clause-read
returns-in-Ok-judge-clause-read g c = λ t.
    registry_read g.Y.D.Disk.content g.Y.S.Store.content g.Y.M.MetaLog.content c.args.partition (g.Y.Yard.held c.args.yard.now) (g.Y.Yard.held c.registry.new.self) (g.Y.Yard.held c.keep_registry.new.self)
    c.in-Ok.disk c.find_registry-found.new.disk t c.in-Ok.ensures.is_observable c.in-Ok.ensures.out c.keep_registry.ensures.is_observable c.keep_registry.ensures.held c.in-Ok.ensures.content c.find_registry-found.ensures.content

pub returns-in-Err-judge-clause-read : goal.returns-in-Err-judge-clause-read
returns-in-Err-judge-clause-read g c = λ t.
    registry_read g.Y.D.Disk.content g.Y.S.Store.content g.Y.M.MetaLog.content c.args.partition (g.Y.Yard.held c.args.yard.now) (g.Y.Yard.held c.registry.new.self) (g.Y.Yard.held c.keep_registry.new.self)
    c.in-Ok.disk c.find_registry-found.new.disk t c.in-Ok.ensures.is_observable c.in-Ok.ensures.out c.keep_registry.ensures.is_observable c.keep_registry.ensures.held c.in-Ok.ensures.content c.find_registry-found.ensures.content

pub returns-in-Err-judge-clause-refused : goal.returns-in-Err-judge-clause-refused
returns-in-Err-judge-clause-refused g c =
    let p = c.args.partition in
    let h = g.Y.Yard.held c.args.yard.now in
    let h2 = g.Y.Yard.held c.keep_registry.new.self in
    let c0 = g.Y.Yard.control c.args.yard.now in
    let c1 = g.Y.Yard.control c.registry.new.self in
    let c2 = g.Y.Yard.control c.keep_registry.new.self in
    let d = c.in-Ok.disk in
    let e = c.find_registry-found.new.disk in
    let k = g.Y.D.Disk.control d in
    let k' = g.Y.D.Disk.control e in
    subst (λ (r : YardRefusal). IsRefusedSo g.Y.D.Disk.content g.Y.S.Store.content g.Y.M.MetaLog.content c.args.asked h h2 c0 c2 r) (sym c.refused.ensures)
    (refused_so g.Y.D.Disk.content g.Y.S.Store.content g.Y.M.MetaLog.content p c.args.asked h h2 c0 c2 d k k' c.find_registry-found.result c.in-Err-judge.why (sym c.judge.ensures ∙ c.in-Err-judge.is) c.find_registry-found.ensures.finds
    (record {
      read = last_one p k'.last_read c0 c2
          (c.keep_registry.ensures.control.registries ∙ ap (λ (l : List ReadRegistry). l ++ record { partition = p; last_read = k'.last_read } ∷ []) c.in-Ok.ensures.control.registries);
      there = λ t. file_handed g.Y.D.Disk.content (h.registries p) d (c.in-Ok.ensures.content t);
      told = λ t. subst IsTrue (sym c.in-Ok.ensures.told) t;
      first = c.requires.before;
      unchanged = λ t. registry_read g.Y.D.Disk.content g.Y.S.Store.content g.Y.M.MetaLog.content p h (g.Y.Yard.held c.registry.new.self) h2 d e t c.in-Ok.ensures.is_observable c.in-Ok.ensures.out
          c.keep_registry.ensures.is_observable c.keep_registry.ensures.held c.in-Ok.ensures.content c.find_registry-found.ensures.content;
    })
    (λ rose. one_risen k k' _ c0 c1 c2 c.in-Ok.ensures.fresh c.find_registry-found.ensures.control c.in-Ok.ensures.control c.keep_registry.ensures.control rose))
