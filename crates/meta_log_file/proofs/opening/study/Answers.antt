use Rattle.std.proofs.Common.{inr, arith}
use Rattle.meta_log_file.proofs.Damaged.{read_damage}
use Rattle.meta_log_file.proofs.opening.study.Goals as goal

pub returns-in-Err-clause-damaged : goal.returns-in-Err-clause-damaged
returns-in-Err-clause-damaged g c = λ at is.
    read_damage (g.D.Disk.content c.args.disk.now) (g.D.Disk.content c.reserve.new.self) (g.D.Disk.content c.find_gate.new.disk) c.in_ok-gate.gate at
    c.reserve.ensures.content c.find_gate.ensures.content c.in_ok-gate.ensures.gate (c.in-Err.ensures.sound at is)

pub returns-in-Err-clause-last_read : goal.returns-in-Err-clause-last_read
returns-in-Err-clause-last_read g c = λ at is.
    let breaks = c.in-Err.ensures.damaged at is in
    inr (record {
      gate = c.in_ok-gate.gate;
      before = c.find_gate.new.disk;
      last_read = c.in_ok-gate.ensures.last_read (let before = breaks.before in omega (arith, before));
      next = c.in-Err.ensures.next at is;
      breaks = breaks;
    })
