use Rattle.std.proofs.Common.{◌∙◌, ap, ◌+◌, ◌%◌, List, Bool, ltb, w8}
use Rattle.std.specs.Prelude.{replicate}
use Rattle.std.proofs.lemmas.Simd.{tops_compared}
use lib.Lanes.{zip2, sel_l}
use Rattle.trace_text.proofs.Weaving.{chosen}
use Rattle.trace_text.proofs.digits.letters.Goals as goal

pub returns : goal.returns
returns c =
    let xs = c.args.numbers in
    ap (λ (k : List Bool). zip2 (λ a b. (a + b) % 256) xs (sel_l k (replicate 64 87) (replicate 64 48))) (tops_compared w8 ltb (replicate 64 9) xs)
    ∙ chosen 64 xs c.requires
