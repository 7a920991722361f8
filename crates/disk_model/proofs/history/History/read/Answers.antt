use Rattle.std.proofs.Common.{◌≡◌, ◌^◌, ◌-◌, arith, None, Some}
use Rattle.std.specs.Prelude.{option_map}
use Rattle.disk_model.specs.Content.{part_of}
use Rattle.disk_model.specs.Steps.{reads}
use Rattle.disk_model.proofs.Whole.{whole_from, none_from}
use Rattle.disk_model.proofs.history.History.read.Goals as goal

pub returns-in-None-clause-bytes : goal.returns-in-None-clause-bytes
returns-in-None-clause-bytes c =
    let found = c.in_ok-read_part.ensures.bytes in
    let is = c.in-None.is in
    let none : None ≡ option_map (part_of c.args.at (2 ^ 64 - 1)) (reads c.args.self.now.past c.args.name) = cc in
    none_from c.args.at (2 ^ 64 - 1) (reads c.args.self.now.past c.args.name) none

pub returns-in-Some-clause-bytes : goal.returns-in-Some-clause-bytes
returns-in-Some-clause-bytes c =
    let found = c.in_ok-read_part.ensures.bytes in
    let is = c.in-Some.is in
    let some : Some c.in-Some.bytes ≡ option_map (part_of c.args.at (2 ^ 64 - 1)) (reads c.args.self.now.past c.args.name) = cc in
    whole_from c.args.at (2 ^ 64 - 1) (reads c.args.self.now.past c.args.name) c.in-Some.bytes some (omega (arith, c.len-len.ensures.bound))
