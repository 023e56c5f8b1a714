-- Words and their bytes: both directions, and the thirty words by value.
use Rattle.std.proofs.Common.{◌≡◌, refl, ap, ◌∙◌, List, [], ◌∷◌, ◌++◌, ℕ, zero, suc, ◌+◌, ◌-◌, ◌*◌, ◌^◌, ◌≤◌, zero-add, arith, length, take}
use Rattle.std.proofs.Common.{drop, get_or, replicate, length-append, drop-drop, take_at}
use native.Mathlib.Nat.{suc-sub-suc, sub-zero, zero-sub}
use lib.Seq.{sets, sets-eq}
use Rattle.digits.specs.Bytes.{Below, Bytes}
use Rattle.digits.specs.LittleEndian.{to_little, word_at}
use Rattle.digits.proofs.LittleEndianLaws.{from_to_little, to_from_little, length_little, word_there}
use Rattle.demorad.specs.Image.{word_bytes}
use Rattle.demorad.specs.Reading.{words_of, padded}

-- -- Lengths

-- n words are read
pub length_words : (n : ℕ) (bs : List ℕ) → length (words_of n bs) ≡ n
unfolding words_of
length_words zero bs = refl
length_words (suc n) bs = ap suc (length_words n (drop 4 bs))

-- four bytes a word
pub length_bytes : (ws : List ℕ) → length (word_bytes ws) ≡ 4 * length ws
unfolding word_bytes
length_bytes [] = refl
length_bytes (w ∷ ws) = simp (length-append, length_little 4 w, length_bytes ws) (omega arith)

-- -- Both directions

-- words written and read are the same, whatever follows them
pub words_bytes : (ws rest : List ℕ) → Below (2 ^ 32) ws → words_of (length ws) (word_bytes ws ++ rest) ≡ ws
unfolding words_of word_bytes Below to_little
words_bytes [] rest h = refl
words_bytes (w ∷ ws) rest (h, hs) = λ i. from_to_little 4 w h i ∷ words_bytes ws rest hs i

-- bytes read as words and written are the same
pub bytes_words : (n : ℕ) (bs : List ℕ) → Bytes bs → length bs ≡ 4 * n → word_bytes (words_of n bs) ≡ bs
unfolding words_of word_bytes Below
bytes_words zero [] h e = refl
bytes_words zero (b ∷ bs) h e = absurd (omega arith)
bytes_words (suc n) [] h e = absurd (omega arith)
bytes_words (suc n) (a ∷ []) h e = absurd (omega arith)
bytes_words (suc n) (a ∷ b ∷ []) h e = absurd (omega arith)
bytes_words (suc n) (a ∷ b ∷ c ∷ []) h e = absurd (omega arith)
bytes_words (suc n) (a ∷ b ∷ c ∷ d ∷ bs) (p, (q, (r, (s, hs)))) e =
    rw (to_from_little (a ∷ b ∷ c ∷ d ∷ []) (p, (q, (r, (s, tt)))), bytes_words n bs hs (omega arith))

-- the next word at an offset
pub words_more : (n at : ℕ) (bs : List ℕ) → at + 4 ≤ length bs → words_of (suc n) (drop at bs)
    ≡ word_at bs at ∷ words_of n (drop (at + 4) bs)
unfolding words_of
words_more n at bs h = rw (word_there bs at h, drop-drop 4 at bs)

-- -- Thirty words

drop_replicate : (m n a : ℕ) → drop m (replicate n a) ≡ replicate (n - m) a
drop_replicate zero n a = rw sub-zero
drop_replicate (suc m) zero a = rw zero-sub
drop_replicate (suc m) (suc n) a = rw suc-sub-suc (drop_replicate m n a)

-- words stored over thirty zeros
pub padded_sets : (ws : List ℕ) → length ws ≤ 30 → sets (replicate 30 0) 0 ws ≡ padded ws
unfolding padded
padded_sets ws h = sets-eq ws (replicate 30 0) 0 (omega arith) ∙ rw (zero-add (length ws), drop_replicate (length ws) 30 0)

-- the counted words are the first
pub take_padded : (n : ℕ) (ws : List ℕ) → length ws ≡ n → take n (padded ws) ≡ ws
unfolding padded
take_padded n ws e = take_at ws (replicate (30 - length ws) 0) n e

get_d_zeros : (n i : ℕ) → ◌≡◌ {A = ℕ} (get_or (replicate n 0) i 0) 0
get_d_zeros zero i = refl
get_d_zeros (suc n) zero = refl
get_d_zeros (suc n) (suc i) = get_d_zeros n i

get_d_append_zeros : (ws : List ℕ) (n i : ℕ) → get_or (ws ++ replicate n 0) i 0 ≡ get_or ws i 0
get_d_append_zeros [] n i = get_d_zeros n i
get_d_append_zeros (w ∷ ws) n zero = refl
get_d_append_zeros (w ∷ ws) n (suc i) = get_d_append_zeros ws n i

-- the word at any index is the same, 0 behind the count
pub get_d_padded : (ws : List ℕ) (i : ℕ) → get_or (padded ws) i 0 ≡ get_or ws i 0
unfolding padded
get_d_padded ws i = get_d_append_zeros ws (30 - length ws) i
