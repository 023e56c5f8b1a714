-- The writer's pieces: the payload loop (what is stored, then the words that are left) and the whole command.
use Rattle.std.proofs.Common.{◌≡◌, sym, ap, ◌∙◌, Bool, List, [], ◌∷◌, ℕ, ◌+◌, ◌*◌, ◌<◌, ◌≤◌, arith, length, take, drop, get_or}
use Rattle.std.proofs.Common.{drop_of_length-le, length-take-le}
use Rattle.refusals.specs.Numbers.{refusal_number}
use Rattle.digits.specs.LittleEndian.{to_little}
use Rattle.digits.specs.Stores.{stored, word_stored, Writes}
use Rattle.digits.proofs.Lists.{drop_one}
use Rattle.digits.proofs.LittleEndianLaws.{length_little}
use Rattle.digits.proofs.StoreLaws.{stored_append, stored_nil, word_fits, then, short, done}
use Rattle.demorad.specs.Image.{header_word, word_bytes, command_bytes}
use Rattle.demorad.specs.Rules.{legality}
use Rattle.demorad.proofs.RuleLaws.{Legal, legal_is}
use Rattle.demorad.proofs.WordLaws.{length_bytes}

-- -- The payload loop

-- a turn
pub put_turns : (i : ℕ) (words out out' all : List ℕ) → i < length words → 4 + 4 * i + 4 ≤ length out
    → out' ≡ word_stored out (4 + 4 * i) (get_or words i 0)
    → stored out (4 + 4 * i) (word_bytes (drop i words)) ≡ all → stored out' (4 + 4 * (i + 1)) (word_bytes (drop (i + 1) words)) ≡ all
unfolding word_bytes
put_turns i words out out' all h l e inv =
    let at = 4 + 4 * i in
    let a : 4 + 4 * (i + 1) ≡ at + 4 = omega arith in
    let w = get_or words i 0 in
    let later = word_bytes (drop (i + 1) words) in
    let s : stored out at (word_bytes (drop i words)) ≡ stored (stored out at (to_little 4 w)) (at + 4) later =
    rw (drop_one words i h, stored_append out at (to_little 4 w) later, length_little 4 w) in
    rw (a, e, word_fits out at w l) (sym s ∙ inv)

-- the end
pub put_ends : (i at : ℕ) (words out all : List ℕ) → length words ≤ i → stored out at (word_bytes (drop i words)) ≡ all → out ≡ all
unfolding word_bytes
put_ends i at words out all h inv =
    let d : drop i words ≡ [] = drop_of_length-le words {i = i} h in
    sym (stored_nil out at) ∙ (rw d at inv)

-- -- The command

-- the bytes of a command: four for the header and for each counted word
pub length_command : (rd : Bool) (code count : ℕ) (words : List ℕ) → count ≤ length words
    → length (command_bytes rd code count words) ≡ 4 * (count + 1)
unfolding command_bytes
length_command rd code count words h =
    let t = length-take-le count words h in
    length_bytes (header_word rd code count ∷ take count words) ∙ omega arith

-- the header, then the payload behind it, is the command
pub put_command : (rd : Bool) (code count header : ℕ) (words out out' out'' : List ℕ) → 4 ≤ length out → header ≡ header_word rd code count
    → out' ≡ word_stored out 0 header → out'' ≡ stored out' 4 (word_bytes (take count words))
    → out'' ≡ stored out 0 (command_bytes rd code count words)
unfolding command_bytes word_bytes
put_command rd code count header words out out' out'' l e p q =
    then out out' out'' 0 4 (to_little 4 (header_word rd code count)) (word_bytes (take count words))
    (p ∙ rw e (word_fits out 0 (header_word rd code count) (omega arith)))
    (length_little 4 (header_word rd code count))
    q

-- a legal command
module _ (rd : Bool) (code count : ℕ) (words out : List ℕ) (legal : Legal code count words) (thirty : length words ≡ 30) where
  bytes : List ℕ
  bytes = command_bytes rd code count words

  command_size : length bytes ≡ 4 * (count + 1)
  unfolding bytes
  command_size = let f = legal.few in length_command rd code count words (omega arith)

  fine : legality code count words ≡ 0
  fine = ap refusal_number (legal_is code count words legal)

  -- the output too short
  pub write_short : length out < 4 * (count + 1)
      → Writes (legality code count words) (command_bytes rd code count words) out (record { refusal = 51; size = 0 }) out
  unfolding bytes
  write_short l = let s = command_size in short _ (command_bytes rd code count words) out fine (omega arith)

  -- the header, then the payload behind it
  pub write_done : (header : ℕ) (out' out'' : List ℕ) → 4 * (count + 1) ≤ length out → header ≡ header_word rd code count
      → out' ≡ word_stored out 0 header → out'' ≡ stored out' 4 (word_bytes (take count words))
      → Writes (legality code count words) (command_bytes rd code count words) out (record { refusal = 0; size = 4 * (count + 1) }) out''
  unfolding bytes
  write_done header out' out'' l e p q =
      done _ (command_bytes rd code count words) out out'' _ fine command_size l
      (put_command rd code count header words out out' out'' (omega arith) e p q)
