-- The round trips of each frame: corollaries of those of any row, with the numbers as fields.
use mathlib.Core.Path.{◌≡◌, refl, sym, ap, ◌∙◌}
use mathlib.Core.Bool.{Bool, true, false, cond, ◌&&◌}
use mathlib.Core.List.{List, [], ◌∷◌}
use Prim.Native.Nat.{ℕ, zero, suc, ◌+◌, ◌<◌, ◌≤◌}
use native.Mathlib.Omega.{arith}
use borrow.Author.Tests.{le-leb, leb-true}
use lib.Dec.{ltb, leb}
use lib.ListN.{length, take, drop, get_or, length-drop}
use lib.Seq.{drop-drop, length-take-le}
use Rattle.digits.specs.Bytes.{is_character}
use Rattle.digits.specs.Hex.{hex_value, hex_at}
use Rattle.digits.proofs.Choices.{and_right}
use Rattle.digits.proofs.HexLaws.{hex_at_below}
use Rattle.form.specs.declared.Judgement.TheVariants.{Whole}
use Rattle.form.specs.Form.{judge}
use Rattle.units.specs.Units.{Edition, ties_of}
use Rattle.units.proofs.Theorems.{edition_exactly}
use Rattle.sirad.specs.Sirad.{sirad}
use Rattle.sirad.specs.Table.{identifier}
use Rattle.sirad.specs.Rows.{blocks, characters, r_pieces, t_pieces, u_pieces, e_pieces, row_of}
use Rattle.sirad_fields.specs.declared.Target.{Target}
use Rattle.sirad_fields.specs.Values.{values, written, fit, distinct}
use Rattle.sirad_fields.specs.Frames.{frame_kind, numbers_in, frame_of, ReadsBack, WritesBack}
use Rattle.sirad_fields.specs.Fields.{is_data, data_start, read_data, part_of, data_numbers, data_refusal, data_bytes}
use Rattle.sirad_fields.specs.Fields.{Phases, block_numbers, all_carried, read_targets, target_numbers, unencoded, unwritable}
use Rattle.sirad_fields.specs.Fields.{targets_refusal, targets_bytes, status_fields, status_read, read_status, status_numbers, sent_numbers}
use Rattle.sirad_fields.specs.Fields.{status_refusal, status_bytes, read_error, error_refusal, error_bytes}
use Rattle.sirad_fields.proofs.FrameLaws.{data_range, frame_kind_lem, kind_length, Writable, numbers_back, size_back}
use Rattle.sirad_fields.proofs.FrameLaws.{written_judged, written_kind, written_again, numbers_fit, numbers_differ}
use Rattle.sirad_fields.proofs.ReadsExactly.{error_kind, status_kind, status_edition, targets_kind, data_found, data_read}
use Rattle.sirad_fields.proofs.PhaseLaws.{numbers_targets, targets_numbers}

-- values that are not refused fit
pub not_refused : (fits : Bool) → unencoded fits ≡ 0 → fits ≡ true
not_refused true h = refl
not_refused false h = absurd (omega arith)

-- targets that are not refused fit, and none would be written as an empty block
pub distinct_not_refused : (fits differs : Bool) → unwritable fits differs ≡ 0 → (fits ≡ true) × (differs ≡ true)
distinct_not_refused true true h = (refl, refl)
distinct_not_refused true false h = absurd (omega arith)
distinct_not_refused false differs h = absurd (omega arith)

-- a frame without a size field, whatever its numbers
unsized : (k : ℕ) (vs : List ℕ) → 3 < k → k ≤ 6 → fit (row_of k 0) vs ≡ true → distinct (row_of k 0) vs ≡ true → Writable k 0 vs
unsized k vs big most fits differs =
    record { some = omega arith; most = most; sizes = λ l. absurd (omega arith); fits = fits; differs = differs }

-- -- Error flags

-- flags that are written are read back
pub error_written_reads_back : (flags : ℕ) → error_refusal flags ≡ 0
    → ReadsBack 6 (error_bytes flags) read_error (record { refusal = 0; flags = flags })
unfolding read_error distinct
error_written_reads_back flags h =
    let vs = flags ∷ [] in
    let w = unsized 6 vs (omega arith) (omega arith) (not_refused (fit e_pieces vs) h) refl in
    record { judged = written_judged 6 0 vs w; reads = rw (written_kind 6 0 vs w, numbers_back 6 0 vs w) }

-- flags that are read and written again are the same frame
pub error_read_writes_back : (bs : List ℕ) → (read_error bs).refusal ≡ 0
    → WritesBack 6 (error_refusal (read_error bs).flags) (error_bytes (read_error bs).flags) bs
unfolding read_error values
error_read_writes_back bs h =
    let k = error_kind bs h in
    let p : 0 < 6 = omega arith in
    record { fits = rw (k, numbers_fit 6 bs p k); same = rw k (written_again 6 bs p k) }

-- -- Status

-- a status that is written is read back, with its accuracy in millimetres too
pub status_written_reads_back : (edition format gain accuracy range ramp bandwidth time : ℕ) → Edition edition
    → status_refusal (status_numbers format gain accuracy range ramp bandwidth time) ≡ 0
    → ReadsBack 5 (status_bytes (status_numbers format gain accuracy range ramp bandwidth time)) (read_status edition)
    (status_fields (ties_of edition) (status_numbers format gain accuracy range ramp bandwidth time))
unfolding read_status status_read distinct
status_written_reads_back edition format gain accuracy range ramp bandwidth time known h =
    let vs = status_numbers format gain accuracy range ramp bandwidth time in
    let w = unsized 5 vs (omega arith) (omega arith) (not_refused (fit u_pieces vs) h) refl in
    let t = (edition_exactly edition).1 known in
    record { judged = written_judged 5 0 vs w; reads = rw (written_kind 5 0 vs w, t, numbers_back 5 0 vs w) }

-- a status that is read and written again is the same frame
pub status_read_writes_back : (edition : ℕ) (bs : List ℕ) → (read_status edition bs).refusal ≡ 0
    → WritesBack 5 (status_refusal (sent_numbers (read_status edition bs))) (status_bytes (sent_numbers (read_status edition bs))) bs
unfolding read_status status_read values
status_read_writes_back edition bs h =
    let k = status_kind edition bs h in
    let t = status_edition edition bs h in
    let p : 0 < 5 = omega arith in
    record { fits = rw (k, t, numbers_fit 5 bs p k); same = rw (k, t) (written_again 5 bs p k) }

-- -- Targets

-- targets that are written are read back, and empty blocks as empty
pub targets_written_read_back : (format gain : ℕ) (ts : List Target) → Phases ts → targets_refusal format gain ts ≡ 0
    → ReadsBack 4 (targets_bytes format gain ts) read_targets (record {
      refusal = 0;
      format = format;
      gain = gain;
      targets = all_carried ts;
    })
unfolding read_targets target_numbers fit
targets_written_read_back format gain ts p h =
    let vs = target_numbers format gain ts in
    let f = distinct_not_refused (fit t_pieces vs) (distinct t_pieces vs) h in
    let r : fit (blocks 16) (block_numbers ts) ≡ true =
    and_right (is_character gain) (fit (blocks 16) (block_numbers ts))
    (and_right (ltb format 16) (is_character gain && fit (blocks 16) (block_numbers ts)) f.0) in
    let w = unsized 4 vs (omega arith) (omega arith) f.0 f.1 in
    record { judged = written_judged 4 0 vs w; reads = rw (written_kind 4 0 vs w, numbers_back 4 0 vs w, targets_numbers 16 ts p r) }

-- the numbers of what a reader gives are those of the frame
target_numbers_lem : (bs : List ℕ) → frame_kind bs ≡ 4 → fit t_pieces (values t_pieces (drop 2 bs)) ≡ true
    → target_numbers (read_targets bs).format (read_targets bs).gain (read_targets bs).targets ≡ values t_pieces (drop 2 bs)
unfolding read_targets target_numbers values fit
target_numbers_lem bs k h =
    let format = hex_value (take 1 (drop 2 bs)) in
    let gain = get_or (drop 1 (drop 2 bs)) 0 0 in
    let vs = values (blocks 16) (drop 1 (drop 1 (drop 2 bs))) in
    let r = and_right (is_character gain) (fit (blocks 16) vs) (and_right (ltb format 16) (is_character gain && fit (blocks 16) vs) h) in
    rw (k, numbers_targets 16 vs r)

-- targets that are read and written again are the same frame but for reserved bytes and blocks of value 0
pub targets_read_write_back : (bs : List ℕ) → (read_targets bs).refusal ≡ 0
    → WritesBack 4 (targets_refusal (read_targets bs).format (read_targets bs).gain (read_targets bs).targets)
    (targets_bytes (read_targets bs).format (read_targets bs).gain (read_targets bs).targets) bs
targets_read_write_back bs h =
    let k = targets_kind bs h in
    let p : 0 < 4 = omega arith in
    let e = target_numbers_lem bs k (numbers_fit 4 bs p k) in
    record { fits = rw (e, numbers_fit 4 bs p k, numbers_differ 4 bs p k); same = rw e (written_again 4 bs p k) }

-- -- Data frames

-- the numbers of n characters are the characters
character_values : (n : ℕ) (xs : List ℕ) → n ≤ length xs → values (characters n) xs ≡ take n xs
unfolding values characters
character_values zero xs h = refl
character_values (suc n) [] h = absurd (omega arith)
character_values (suc n) (x ∷ xs) h = ap (λ (l : List ℕ). x ∷ l) (character_values n xs (omega arith))

-- what a data frame is: 16 + n bytes, and its characters are n bytes from its start on
pub record DataOf (n : ℕ) (bs : List ℕ) : Type 0 where
  pub total : length bs ≡ 16 + n
  pub count : length (take n (drop data_start bs)) ≡ n
  pub numbers : values (r_pieces n) (drop 2 bs) ≡ data_numbers (take n (drop data_start bs))

twelve_on : (xs : List ℕ) → drop 1 (drop 1 (drop 1 (drop 1 (drop 1 (drop 1 (drop 1 (drop 1 (drop 4 (drop 2 xs))))))))) ≡ drop data_start xs
twelve_on xs = simp drop-drop

-- a frame of kinds 1 to 3 is one
pub data_of : (k : ℕ) (bs : List ℕ) → 1 ≤ k → k ≤ 3 → frame_kind bs ≡ k → DataOf (hex_at 4 2 bs) bs
unfolding values
data_of k bs l u h =
    let n = hex_at 4 2 bs in
    let all : length bs ≡ 16 + n = rw (le-leb k 3 u) at (kind_length k bs l h) in
    let long : n ≤ length (drop data_start bs) = simp length-drop (omega arith) in
    let count : length (take n (drop data_start bs)) ≡ n = length-take-le n (drop data_start bs) long in
    record { total = all; count = count; numbers = rw (twelve_on bs, character_values n (drop data_start bs) long, count) }

-- what data that is not refused is
pub record DataFits (k : ℕ) (cs : List ℕ) : Type 0 where
  pub kinds : is_data k ≡ true
  pub count : length cs ≤ 65535
  pub fits : fit (r_pieces (length cs)) (data_numbers cs) ≡ true

-- and what follows from it
pub data_fits : (k : ℕ) (cs : List ℕ) → data_refusal k cs ≡ 0 → DataFits k cs
unfolding data_refusal
data_fits k cs h = go (is_data k) (leb (length cs) 65535) (fit (r_pieces (length cs)) (data_numbers cs)) refl refl refl h
  where
    go : (a b c : Bool) → is_data k ≡ a → leb (length cs) 65535 ≡ b → fit (r_pieces (length cs)) (data_numbers cs) ≡ c
        → ◌≡◌ {A = ℕ} (cond a (cond b (cond c 0 50) 52) 53) 0 → DataFits k cs
    go true true true x y z e = record { kinds = x; count = leb-true (length cs) 65535 y; fits = z }
    go true true false x y z e = absurd (omega arith)
    go true false c x y z e = absurd (omega arith)
    go false b c x y z e = absurd (omega arith)

characters_distinct : (n : ℕ) (vs : List ℕ) → distinct (characters n) vs ≡ true
unfolding distinct characters
characters_distinct zero vs = refl
characters_distinct (suc n) vs = characters_distinct n (drop 1 vs)

data_distinct : (n : ℕ) (vs : List ℕ) → distinct (r_pieces n) vs ≡ true
unfolding distinct
data_distinct n vs = characters_distinct n (drop 1 vs)

-- a data frame as a frame of its kind's row
module _ (k : ℕ) (cs : List ℕ) (d : DataFits k cs) where
  low : 1 ≤ k
  low = (data_range k d.kinds).0

  high : k ≤ 3
  high = (data_range k d.kinds).1

  writable : Writable k (length cs) (data_numbers cs)
  writable = record {
    some = low;
    most = omega (arith, high);
    sizes = λ l. refl;
    fits = rw (le-leb k 3 high) d.fits;
    differs = rw (le-leb k 3 high) (data_distinct (length cs) (data_numbers cs));
  }

  data_judged : judge sirad 0 (data_bytes k cs) ≡ Whole k (length (data_bytes k cs))
  unfolding data_bytes
  data_judged = rw (le-leb k 3 high) at (written_judged k (length cs) (data_numbers cs) writable)

  data_kind : frame_kind (data_bytes k cs) ≡ k
  data_kind = frame_kind_lem k (data_bytes k cs) data_judged

  data_size : hex_at 4 2 (data_bytes k cs) ≡ length cs
  unfolding data_bytes
  data_size = rw (le-leb k 3 high) at (size_back k (length cs) (data_numbers cs) writable high)

  data_numbers_lem : values (r_pieces (length cs)) (drop 2 (data_bytes k cs)) ≡ data_numbers cs
  unfolding data_bytes
  data_numbers_lem = rw (le-leb k 3 high) at (numbers_back k (length cs) (data_numbers cs) writable)

  data_part : take (length cs) (drop data_start (data_bytes k cs)) ≡ cs
  data_part =
      let g = data_of k (data_bytes k cs) low high data_kind in
      let e : values (r_pieces (length cs)) (drop 2 (data_bytes k cs))
      ≡ data_numbers (take (length cs) (drop data_start (data_bytes k cs))) =
      rw data_size at g.numbers in
      ap (drop 1) (sym e ∙ data_numbers_lem)

-- data that is written is read back: its kind, and its characters as a part of the frame
pub data_written_reads_back : (k : ℕ) (cs : List ℕ) → data_refusal k cs ≡ 0
    → ReadsBack k (data_bytes k cs) read_data (record {
      refusal =
          0;
      kind = k;
      start = data_start;
      size = length cs;
    }) × (take (length cs) (drop data_start (data_bytes k cs)) ≡ cs)
unfolding read_data
data_written_reads_back k cs h =
    let d = data_fits k cs h in
    (record { judged = data_judged k cs d; reads = rw (data_kind k cs d, d.kinds, data_size k cs d) }, data_part k cs d)

data_again : (k : ℕ) (bs cs : List ℕ) → is_data k ≡ true → frame_kind bs ≡ k → length cs ≡ hex_at 4 2 bs
    → values (r_pieces (hex_at 4 2 bs)) (drop 2 bs) ≡ data_numbers cs
    → WritesBack k (data_refusal k cs) (data_bytes k cs) bs
unfolding data_refusal data_bytes
data_again k bs cs h f c v =
    let low = (data_range k h).0 in
    let high = (data_range k h).1 in
    let few : length cs ≤ 65535 = omega (arith, hex_at_below 4 2 bs) in
    let fits₀ : fit (r_pieces (hex_at 4 2 bs)) (values (r_pieces (hex_at 4 2 bs)) (drop 2 bs)) ≡ true =
    rw (le-leb k 3 high) at (numbers_fit k bs low f) in
    let fits₁ : fit (r_pieces (length cs)) (data_numbers cs) ≡ true = rw (← v, c) fits₀ in
    let bytes : 33 ∷ identifier k ∷ written (r_pieces (length cs)) (data_numbers cs) ≡ frame_of k (hex_at 4 2 bs) (numbers_in k bs) =
    rw (← v, c, le-leb k 3 high) in
    record { fits = rw (h, le-leb (length cs) 65535 few, fits₁); same = bytes ∙ written_again k bs low f }

-- data that is read and written again is the same frame but for reserved bytes
pub data_read_writes_back : (bs : List ℕ) → (read_data bs).refusal ≡ 0
    → WritesBack (read_data bs).kind (data_refusal (read_data bs).kind (part_of (read_data bs) bs))
    (data_bytes (read_data bs).kind (part_of (read_data bs) bs)) bs
data_read_writes_back bs h = rw (data_read bs (data_found bs h)) (go (data_range (frame_kind bs) (data_found bs h)))
  where
    go : (1 ≤ frame_kind bs) × (frame_kind bs ≤ 3)
        → WritesBack (frame_kind bs) (data_refusal (frame_kind bs) (take (hex_at 4 2 bs) (drop data_start bs)))
        (data_bytes (frame_kind bs) (take (hex_at 4 2 bs) (drop data_start bs))) bs
    go (low, high) =
        let k = frame_kind bs in
        let g = data_of k bs low high refl in
        data_again k bs (take (hex_at 4 2 bs) (drop data_start bs)) (data_found bs h) refl g.count g.numbers
