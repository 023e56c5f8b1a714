-- A writer's answer by the check of its values and its room (`stores::with_room`).
use Rattle.std.proofs.Common.{◌≡◌, ℕ, ◌≤◌, List, length, ap, sym, ◌∙◌, Result, Ok, Err}
use Rattle.refusals.specs.declared.Refusal.{Refusal}
use Rattle.refusals.specs.Numbers.{refusal_number}
use Rattle.refusals.proofs.NumberLaws.{number_ne0}
use Rattle.digits.specs.Stores.{stored, writer_refusal, written_of, Writes}
use Rattle.digits.proofs.RefusalLaws.{none_refused, all_written, refused_written}

-- a writer of n bytes, whose values are refused with u (0: not refused), and whose values and room gave v
module _ (refusal : ℕ) (bytes out : List ℕ) (n : ℕ) (size : length bytes ≡ n) {A : Type 0} {u : ℕ} {v : Result A Refusal}
    (values : u ≡ refusal) (room : refusal_number v ≡ writer_refusal u n (length out)) where
  pub answer_refused : {e : Refusal} → v ≡ Err e → Writes refusal bytes out (written_of (Err e)) out
  answer_refused {e} h = refused_written refusal bytes out n size values (ap refusal_number (sym h) ∙ room) (number_ne0 e)

  pub answer_fits : {x : A} → v ≡ Ok x → (refusal ≡ 0) × (n ≤ length out)
  answer_fits h = none_refused refusal bytes out n size values room (ap refusal_number h)

  pub answer_stored : {x : A} {after : List ℕ} → v ≡ Ok x → after ≡ stored out 0 bytes
      → Writes refusal bytes out (written_of (Ok n)) after
  answer_stored h w = all_written refusal bytes out n size values room (ap refusal_number h) w
