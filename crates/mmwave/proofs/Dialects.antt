-- Every packet dialect has a sound profile that says the papers' sentences.
use Prim.Native.Nat.{ℕ, ◌≤◌}
use native.Mathlib.Omega.{arith}
use Rattle.mmwave.specs.declared.PacketDialect.{PacketDialect}
use Rattle.mmwave.specs.declared.PacketDialect.TheVariants.{MmWave, VitalSigns}
use Rattle.mmwave.specs.Profile.{Sound}
use Rattle.mmwave.specs.Dialects.{profile_of, sentences_of}
use Rattle.mmwave.proofs.MmWaveSound.{mm_wave_sound}
use Rattle.mmwave.proofs.VitalSound.{vital_sound}
use Rattle.mmwave.proofs.Paper.{Says}
use Rattle.mmwave.proofs.MmWaveSays.{mm_wave_says_lem}
use Rattle.mmwave.proofs.VitalSays.{vital_says_lem}

-- the profile of each dialect is sound
pub sound_of : (d : PacketDialect) → Sound (profile_of d)
unfolding profile_of
sound_of MmWave = mm_wave_sound
sound_of VitalSigns = vital_sound

-- and says its sentences
pub says_of : (d : PacketDialect) → Says (profile_of d) (sentences_of d)
unfolding profile_of sentences_of
says_of MmWave = mm_wave_says_lem
says_of VitalSigns = vital_says_lem

-- the header fits in the least L of each
pub least_of : (d : PacketDialect) (l : ℕ) → (sentences_of d).least ≤ l → 40 ≤ l
unfolding sentences_of
least_of MmWave l h = omega arith
least_of VitalSigns l h = h
