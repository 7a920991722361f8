use Rattle.registry_file.proofs.FirstFault.{first_fault}
use Rattle.registry_file.proofs.laws.a_refusal_tells_the_first_fault.Goals as goal

pub returns : goal.returns
returns c = first_fault
