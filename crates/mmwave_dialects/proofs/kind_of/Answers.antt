-- One arm for each dialect.
use mathlib.Core.Path.{sym, ap}
use Rattle.mmwave.specs.declared.PacketDialect.{PacketDialect}
use Rattle.mmwave.specs.Dialects.{profile_of}
use Rattle.mmwave.specs.MmWave.{mm_wave}
use Rattle.mmwave.specs.VitalSigns.{vital_signs}
use borrow.Author.Rules.{rules}
use Rattle.mmwave_dialects.proofs.kind_of.Goals as goal

pub enum_told-1 : goal.enum_told-1
enum_told-1 c = search rules

pub returns-in-MmWave : goal.returns-in-MmWave
unfolding profile_of mm_wave
returns-in-MmWave c = ap (λ (d : PacketDialect). (profile_of d).kind) (sym c.in-MmWave.is)

pub returns-in-VitalSigns : goal.returns-in-VitalSigns
unfolding profile_of vital_signs
returns-in-VitalSigns c = ap (λ (d : PacketDialect). (profile_of d).kind) (sym c.in-VitalSigns.is)
