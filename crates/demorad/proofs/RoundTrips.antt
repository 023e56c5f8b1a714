-- A command written reads back as what went in, and a command read and written again is the same bytes.
use Rattle.std.proofs.Common.{◌≡◌, sym, ap, ◌∙◌, Bool, cond, List, [], ◌∷◌, ◌++◌, append-nil, ℕ, suc, ◌+◌, ◌-◌, ◌*◌, ◌^◌, ◌<◌, ◌≤◌, arith}
use Rattle.std.proofs.Common.{eqb, length, take, drop, length-take-le, refl, Result, Ok, Err}
use Rattle.std.specs.Prelude.{⊤}
use Rattle.std.specs.Result.{result_and}
use Rattle.refusals.specs.Numbers.{refusal_number}
use Rattle.refusals.specs.declared.Refusal.{Refusal}
use Rattle.digits.specs.Bytes.{Below, Bytes}
use Rattle.digits.specs.LittleEndian.{to_little}
use Rattle.digits.specs.Stores.{Writes}
use Rattle.digits.specs.declared.Written.{Written}
use Rattle.digits.proofs.Lists.{below_take}
use Rattle.digits.proofs.LittleEndianLaws.{from_to_little, word_there, little_at_below}
use Rattle.digits.proofs.StoreLaws.{left_holds, left_again}
use Rattle.demorad.specs.Rules.{checked, legality}
use Rattle.demorad.specs.Image.{header_word, word_bytes, command_bytes}
use Rattle.demorad.specs.Reading.{rd_of, rest_of, length_of, code_of, header_of, count_of, words_of}
use Rattle.demorad.specs.Reading.{payload_of, padded, framed, read_refusal, command, read_command, answer_numbers, refused_command}
use Rattle.demorad.specs.declared.Command.{Command}
use Rattle.demorad.proofs.RuleLaws.{Legal, is_legal, legal_checked, legal_take}
use Rattle.demorad.proofs.WordLaws.{words_bytes, bytes_words, length_words, take_padded}
use Rattle.demorad.proofs.HeaderLaws.{header_small, header_rd, header_rest, header_length, header_code, header_again}
use Rattle.demorad.proofs.ReadingLaws.{Framing, short, rest, empty, size, whole, framing_view, framing_fine, is_framed, checked_padded}
use Rattle.demorad.proofs.WritingLaws.{length_command}

-- -- Written, then read

module _
    (rd : Bool) (code count : ℕ) (words : List ℕ)
    (ok : legality code count words ≡ 0) (small : Below (2 ^ 32) words) (thirty : length words ≡ 30)
  where
    image : List ℕ
    image = command_bytes rd code count words

    legal : Legal code count words
    legal = is_legal code count words ok

    image_size : length image ≡ 4 * (count + 1)
    unfolding image
    image_size = let b = legal.few in length_command rd code count words (omega arith)

    head : header_of image ≡ header_word rd code count
    unfolding image command_bytes word_bytes to_little
    head =
        word_there image 0 (let s = image_size in omega arith)
        ∙ from_to_little 4 (header_word rd code count) (header_small code count legal.small legal.few rd)

    counts : count_of image ≡ count
    counts = ap (λ (h : ℕ). length_of h - 1) head ∙ (let e = header_length code count legal.small legal.few rd in omega arith)

    pays : payload_of image ≡ take count words
    unfolding image command_bytes word_bytes to_little
    pays =
        let b = legal.few in
        let t = length-take-le count words (omega arith) in
        let w = words_bytes (take count words) [] (below_take (2 ^ 32) count words small) in
        rw counts (rw (t, append-nil (word_bytes (take count words))) at w)

    frames : framed image ≡ Ok tt
    frames =
        let e = header_length code count legal.small legal.few rd in
        let s = image_size in
        framing_fine image (omega arith) (ap rest_of head ∙ header_rest code count legal.small legal.few rd)
        (λ z. let y = sym (ap length_of head) ∙ z in omega arith)
        (rw (head, e) image_size)

    unrefused : checked (code_of (header_of image)) (count_of image) (payload_of image) ≡ Ok tt
    unrefused =
        rw (pays, counts, head, header_code code count legal.small legal.few rd)
        (legal_checked code count (take count words) (legal_take code count words ok))

    -- what is written reads back: RD, the code, the count and the counted words, the rest 0
    pub written_reads_back : read_command (command_bytes rd code count words) ≡ Ok (command rd code count (padded (take count words)))
    unfolding image read_command
    written_reads_back =
        rw (
          frames,
          unrefused,
          pays,
          counts,
          head,
          header_rd code count legal.small legal.few rd,
          header_code code count legal.small legal.few rd,
        )

-- -- Read, then written

-- the answer's number is the refusal
pub refusal_read : (bs : List ℕ) → refusal_number (read_command bs) ≡ read_refusal bs
unfolding read_command read_refusal
refusal_read bs = by_framing (framing_view bs) (checked (code_of (header_of bs)) (count_of bs) (payload_of bs)) _
  where
    by_legality : (v : Result ⊤ Refusal) (c : Command) → refusal_number (result_and v (Ok c)) ≡ refusal_number v
    by_legality (Ok u) c = refl
    by_legality (Err r) c = refl

    by_framing : {f : Result ⊤ Refusal} → Framing bs f → (v : Result ⊤ Refusal) (c : Command)
        → refusal_number (result_and f (result_and v (Ok c))) ≡ cond (eqb (refusal_number f) 0) (refusal_number v) (refusal_number f)
    by_framing (short l) v c = refl
    by_framing (rest l r) v c = refl
    by_framing (empty l r n) v c = refl
    by_framing (size l r n s) v c = refl
    by_framing (whole l r n s) v c = by_legality v c

-- a refusal answers its number, and every other number is 0
pub refused_zero : (bs : List ℕ) → (refusal_number (read_command bs) ≡ 0 → ⊥)
    → answer_numbers (read_command bs) ≡ refused_command (refusal_number (read_command bs))
refused_zero bs h = go (read_command bs) h
  where
    go : (a : Result Command Refusal) → (refusal_number a ≡ 0 → ⊥) → answer_numbers a ≡ refused_command (refusal_number a)
    go (Ok c) h = absurd (h refl)
    go (Err r) h = refl

-- two answers and a command behind them are that command where neither refuses
no_refusal : (f v : Result ⊤ Refusal) (d c : Command) → result_and f (result_and v (Ok d)) ≡ Ok c
    → (f ≡ Ok tt) × (v ≡ Ok tt) × (c ≡ d)
no_refusal (Ok u) (Ok w) d c e = (refl, refl, cc)
no_refusal (Ok u) (Err r) d c e = cc
no_refusal (Err r) v d c e = cc

module _ (bs : List ℕ) (bytes : Bytes bs) (c : Command) (ok : read_command bs ≡ Ok c) where
  found : (framed bs ≡ Ok tt) × (checked (code_of (header_of bs)) (count_of bs) (payload_of bs) ≡ Ok tt)
      × (c ≡ command (rd_of (header_of bs)) (code_of (header_of bs)) (count_of bs) (padded (payload_of bs)))
  unfolding read_command
  found = no_refusal _ _ _ c ok

  header_below : header_of bs < 2 ^ 32
  header_below =
      let f = is_framed bs found.0 in
      rw (word_there bs 0 (omega arith)) (little_at_below 4 0 bs bytes)

  all_words : (n : ℕ) → 4 ≤ length bs → length bs ≡ 4 * suc n → word_bytes (header_of bs ∷ words_of n (drop 4 bs)) ≡ bs
  unfolding words_of
  all_words n l e = rw (word_there bs 0 l) (bytes_words (suc n) bs bytes e)

  same_bytes : command_bytes (rd_of (header_of bs)) (code_of (header_of bs)) (count_of bs) (padded (payload_of bs)) ≡ bs
  unfolding command_bytes
  same_bytes =
      let f = is_framed bs found.0 in
      let h = header_again (header_of bs) header_below f.rest f.some in
      let t = take_padded (count_of bs) (payload_of bs) (length_words (count_of bs) (drop 4 bs)) in
      let w : word_bytes (header_of bs ∷ payload_of bs) ≡ bs =
      all_words (count_of bs) f.there (f.size ∙ (let s = f.some in omega arith)) in
      rw (h, t) w

  -- what is read can be written, and gives the same bytes throughout
  pub read_writes_back : (legality c.code c.count c.words ≡ 0) × (command_bytes c.rd c.code c.count c.words ≡ bs)
  read_writes_back =
      rw found.2
      (ap refusal_number (checked_padded (code_of (header_of bs)) (count_of bs) (payload_of bs) ∙ found.1), same_bytes)

-- -- The same through the lent buffer

-- what a write that is not refused left at the buffer's start reads back as what went in
pub buffer_reads_back : (rd : Bool) (code count : ℕ) (words out : List ℕ) (r : Written) (after : List ℕ) → Below (2 ^ 32) words
    → length words ≡ 30
    → Writes (legality code count words) (command_bytes rd code count words) out r after → r.refusal ≡ 0
    → read_command (take r.size after) ≡ Ok (command rd code count (padded (take count words)))
buffer_reads_back rd code count words out r after small thirty =
    left_holds (λ (bs : List ℕ). read_command bs ≡ Ok (command rd code count (padded (take count words)))) (legality code count words)
    (command_bytes rd code count words) out r after (λ ok. written_reads_back rd code count words ok small thirty)

-- a command read and written into a buffer with room is there again, and all behind it stays
pub buffer_writes_back : (bs out : List ℕ) (r : Written) (after : List ℕ) → Bytes bs → (c : Command) → read_command bs ≡ Ok c
    → length bs ≤ length out
    → Writes (legality c.code c.count c.words) (command_bytes c.rd c.code c.count c.words) out r after
    → (r.refusal ≡ 0) × (after ≡ bs ++ drop (length bs) out)
buffer_writes_back bs out r after bytes c ok room w =
    let b = read_writes_back bs bytes c ok in
    left_again _ _ bs out r after b.0 b.1 room w
