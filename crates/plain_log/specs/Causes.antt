-- Why bytes are no batch: when two causes are one, with the numbers that they report.
use Rattle.std.specs.Prelude.{◌==◌, ◌&&◌, Bool, true, false}
use Rattle.record_batch.specs.declared.refusal.BatchRefusal.{BatchRefusal}
use Rattle.record_batch.specs.declared.refusal.BatchRefusal.TheVariants.{Short, BadMagic, BadLength, BadCrc, Compressed}
use Rattle.record_batch.specs.declared.refusal.BatchRefusal.TheVariants.{Transactional, Control, BadRecords}

-- two causes are one
abbrev pub same_cause : BatchRefusal → BatchRefusal → Bool
same_cause Short Short = true
same_cause BadMagic BadMagic = true
same_cause BadLength BadLength = true
same_cause (BadCrc kept computed) (BadCrc held found) = (kept == held) && (computed == found)
same_cause Compressed Compressed = true
same_cause Transactional Transactional = true
same_cause Control Control = true
same_cause (BadRecords at) (BadRecords place) = at == place
same_cause cause other = false
