-- The header word and its fields, both directions. Fields at different bits are told apart by dividing in steps.
use Rattle.std.proofs.Common.{◌≡◌, refl, Bool, true, false, ℕ, zero, suc, ◌+◌, ◌-◌, ◌*◌, ◌/◌, ◌^◌, ◌<◌, ◌≤◌, arith, eq-eqb, ne_eqb, eqb}
use Rattle.std.proofs.Common.{shr-shr}
use Rattle.demorad.specs.Image.{flag_bit, header_word}
use Rattle.demorad.specs.Reading.{bits, rd_of, rest_of, length_of, code_of}

-- -- From the values to the header and back

module _ (code count : ℕ) (c : code < 65536) (n : count ≤ 30) where
  small_at : (f : ℕ) → f ≤ 1 → f * 2 ^ 31 + (count + 1) * 2 ^ 16 + code < 2 ^ 32
  small_at f h = omega arith

  rd_at : (f : ℕ) → f ≤ 1 → bits 31 1 (f * 2 ^ 31 + (count + 1) * 2 ^ 16 + code) ≡ f
  rd_at f h = omega arith

  rest_at : (f : ℕ) → f ≤ 1 → rest_of (f * 2 ^ 31 + (count + 1) * 2 ^ 16 + code) ≡ 0
  rest_at f h = omega arith

  length_at : (f : ℕ) → f ≤ 1 → length_of (f * 2 ^ 31 + (count + 1) * 2 ^ 16 + code) ≡ count + 1
  length_at f h = omega arith

  code_at : (f : ℕ) → f ≤ 1 → code_of (f * 2 ^ 31 + (count + 1) * 2 ^ 16 + code) ≡ code
  code_at f h = omega arith

  flag_small : (rd : Bool) → flag_bit rd ≤ 1
  flag_small true = omega arith
  flag_small false = omega arith

  -- the header is a 32-bit number
  pub header_small : (rd : Bool) → header_word rd code count < 2 ^ 32
  unfolding header_word
  header_small rd = small_at (flag_bit rd) (flag_small rd)

  -- RD
  pub header_rd : (rd : Bool) → rd_of (header_word rd code count) ≡ rd
  unfolding header_word
  header_rd true = eq-eqb (bits 31 1 (1 * 2 ^ 31 + (count + 1) * 2 ^ 16 + code)) 1 (rd_at 1 (omega arith))
  header_rd false = ne_eqb (bits 31 1 (0 * 2 ^ 31 + (count + 1) * 2 ^ 16 + code)) 1 (λ z. let e = rd_at 0 (omega arith) in omega arith)

  -- the rest bits are 0
  pub header_rest : (rd : Bool) → rest_of (header_word rd code count) ≡ 0
  unfolding header_word
  header_rest rd = rest_at (flag_bit rd) (flag_small rd)

  -- the length counts the header
  pub header_length : (rd : Bool) → length_of (header_word rd code count) ≡ count + 1
  unfolding header_word
  header_length rd = length_at (flag_bit rd) (flag_small rd)

  -- the code
  pub header_code : (rd : Bool) → code_of (header_word rd code count) ≡ code
  unfolding header_word
  header_code rd = code_at (flag_bit rd) (flag_small rd)

-- -- From a header to the values and back

flag_of : (b : ℕ) → b ≤ 1 → flag_bit (eqb b 1) ≡ b
flag_of zero h = refl
flag_of (suc zero) h = refl
flag_of (suc (suc b)) h = absurd (omega arith)

-- a header whose rest bits are 0 is made of its fields
pub header_again : (h : ℕ) → h < 2 ^ 32 → rest_of h ≡ 0 → 1 ≤ length_of h → header_word (rd_of h) (code_of h) (length_of h - 1) ≡ h
unfolding header_word
header_again h small rest some =
    let e : h / 2 ^ 16 / 2 ^ 5 ≡ h / 2 ^ 21 = shr-shr h 16 5 in
    let f : h / 2 ^ 21 / 2 ^ 10 ≡ h / 2 ^ 31 = shr-shr h 21 10 in
    rw (flag_of (bits 31 1 h) (omega arith)) (omega arith)
