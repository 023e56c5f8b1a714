-- The round trips of each frame through the lent buffer: those of its bytes, with what a writer's promise says of the buffer at exit.
use mathlib.Core.Path.{◌≡◌}
use mathlib.Core.List.{List, ◌++◌}
use Prim.Native.Nat.{ℕ, ◌<◌, ◌≤◌}
use native.Mathlib.Omega.{arith}
use lib.ListN.{length, take, drop, length-append, length-drop}
use lib.Seq.{length-take-le}
use Rattle.digits.specs.Hex.{hex_at}
use Rattle.digits.specs.Stores.{Writes}
use Rattle.digits.specs.declared.Written.{Written}
use Rattle.digits.proofs.StoreLaws.{left_holds, left_again}
use Rattle.units.specs.Units.{Edition, ties_of}
use Rattle.sirad.proofs.TableLaws.{total_least}
use Rattle.sirad_fields.specs.declared.DataFrame.{DataFrame}
use Rattle.sirad_fields.specs.declared.Target.{Target}
use Rattle.sirad_fields.specs.Frames.{frame_kind, row_in, blank_frame, ReadsBack, WritesBack}
use Rattle.sirad_fields.specs.Fields.{data_start, read_data, part_of, data_refusal, data_bytes}
use Rattle.sirad_fields.specs.Fields.{Phases, all_carried, read_targets, targets_refusal, targets_bytes}
use Rattle.sirad_fields.specs.Fields.{status_fields, read_status, status_numbers, sent_numbers, status_refusal, status_bytes}
use Rattle.sirad_fields.specs.Fields.{read_error, error_refusal, error_bytes}
use Rattle.sirad_fields.proofs.ValueLaws.{length_blank}
use Rattle.sirad_fields.proofs.FrameLaws.{data_range, kind_row, kind_length}
use Rattle.sirad_fields.proofs.ReadsExactly.{error_kind, status_kind, targets_kind, data_found, data_kind}
use Rattle.sirad_fields.proofs.RoundTrips.{error_written_reads_back, error_read_writes_back}
use Rattle.sirad_fields.proofs.RoundTrips.{status_written_reads_back, status_read_writes_back}
use Rattle.sirad_fields.proofs.RoundTrips.{targets_written_read_back, targets_read_write_back}
use Rattle.sirad_fields.proofs.RoundTrips.{data_written_reads_back, data_read_writes_back}

-- -- Written, then read

-- the flags that a write left at the buffer's start read back as those that went in
pub error_buffer_reads_back : (flags : ℕ) (out : List ℕ) (r : Written) (after : List ℕ)
    → Writes (error_refusal flags) (error_bytes flags) out r after
    → r.refusal ≡ 0 → ReadsBack 6 (take r.size after) read_error (record { refusal = 0; flags = flags })
error_buffer_reads_back flags out r after =
    left_holds (λ (bs : List ℕ). ReadsBack 6 bs read_error (record {
      refusal =
          0;
      flags = flags;
    })) _ _ out r after (error_written_reads_back flags)

-- a status likewise, with its accuracy in millimetres too
pub status_buffer_reads_back : (edition : ℕ) → Edition edition → (format gain accuracy range ramp bandwidth time : ℕ)
    (out : List ℕ) (r : Written) (after : List ℕ)
    → Writes (status_refusal (status_numbers format gain accuracy range ramp bandwidth time))
    (status_bytes (status_numbers format gain accuracy range ramp bandwidth time)) out r after
    → r.refusal ≡ 0
    → ReadsBack 5 (take r.size after) (read_status edition)
    (status_fields (ties_of edition) (status_numbers format gain accuracy range ramp bandwidth time))
status_buffer_reads_back edition known format gain accuracy range ramp bandwidth time out r after =
    let vs = status_numbers format gain accuracy range ramp bandwidth time in
    left_holds (λ (bs : List ℕ). ReadsBack 5 bs (read_status edition) (status_fields (ties_of edition) vs)) _ _ out r after
    (status_written_reads_back edition format gain accuracy range ramp bandwidth time known)

-- targets likewise, and empty blocks as empty
pub targets_buffer_read_back : (format gain : ℕ) (ts : List Target) (out : List ℕ) (r : Written) (after : List ℕ) → Phases ts
    → Writes (targets_refusal format gain ts) (targets_bytes format gain ts) out r after → r.refusal ≡ 0
    → ReadsBack 4 (take r.size after) read_targets (record { refusal = 0; format = format; gain = gain; targets = all_carried ts })
targets_buffer_read_back format gain ts out r after p =
    left_holds (λ (bs : List ℕ). ReadsBack 4 bs read_targets (record {
      refusal =
          0;
      format = format;
      gain = gain;
      targets = all_carried ts;
    })) _ _ out r after
    (targets_written_read_back format gain ts p)

-- data likewise: its kind, and its characters as a part of the frame
pub data_buffer_reads_back : (k : ℕ) (cs out : List ℕ) (r : Written) (after : List ℕ)
    → Writes (data_refusal k cs) (data_bytes k cs) out r after → r.refusal ≡ 0
    → ReadsBack k (take r.size after) read_data (record { refusal = 0; kind = k; start = data_start; size = length cs })
    × (take (length cs) (drop data_start (take r.size after)) ≡ cs)
data_buffer_reads_back k cs out r after =
    let fields : DataFrame = record { refusal = 0; kind = k; start = data_start; size = length cs } in
    left_holds (λ (bs : List ℕ). ReadsBack k bs read_data fields × (take (length cs) (drop data_start bs) ≡ cs)) _ _ out r after
    (data_written_reads_back k cs)

-- -- Read, then written

-- a frame with its reserved bytes and blocks of value 0 as `0` is as long as before
pub length_blank_frame : (k : ℕ) (bs : List ℕ) → 0 < k → frame_kind bs ≡ k → length (blank_frame k bs) ≡ length bs
length_blank_frame k bs p h =
    let e = length_blank (row_in k bs) (drop 2 bs) (kind_row k bs p h).passes in
    let long : 2 ≤ length bs = omega (arith, kind_length k bs p h, total_least k (hex_at 4 2 bs)) in
    simp (length-append, e, length-take-le 2 bs long, length-drop 2 bs) (omega arith)

-- a frame that is read and written into a buffer with room is there again but for reserved bytes and blocks of value 0, now `0`, and all
-- behind it stays
pub record BufferWritesBack (kind : ℕ) (frame out : List ℕ) (r : Written) (after : List ℕ) : Type 0 where
  pub accepted : r.refusal ≡ 0
  pub leaves : after ≡ blank_frame kind frame ++ drop (length frame) out

-- the same for every kind, from its bytes
buffer_back : (k refusal : ℕ) (bytes bs out : List ℕ) (r : Written) (after : List ℕ) → 0 < k → frame_kind bs ≡ k
    → WritesBack k refusal bytes bs
    → length bs ≤ length out → Writes refusal bytes out r after → BufferWritesBack k bs out r after
buffer_back k refusal bytes bs out r after p h b room w =
    let e = length_blank_frame k bs p h in
    let l = left_again refusal bytes (blank_frame k bs) out r after b.fits b.same (omega arith) w in
    record { accepted = l.0; leaves = rw (← e) l.1 }

-- flags
pub error_buffer_writes_back : (bs out : List ℕ) (r : Written) (after : List ℕ) → (read_error bs).refusal ≡ 0 → length bs ≤ length out
    → Writes (error_refusal (read_error bs).flags) (error_bytes (read_error bs).flags) out r after → BufferWritesBack 6 bs out r after
error_buffer_writes_back bs out r after h = buffer_back 6 _ _ bs out r after (omega arith) (error_kind bs h) (error_read_writes_back bs h)

-- a status
pub status_buffer_writes_back : (edition : ℕ) (bs out : List ℕ) (r : Written) (after : List ℕ) → (read_status edition bs).refusal ≡ 0
    → length bs ≤ length out
    → Writes (status_refusal (sent_numbers (read_status edition bs))) (status_bytes (sent_numbers (read_status edition bs))) out r after
    → BufferWritesBack 5 bs out r after
status_buffer_writes_back edition bs out r after h =
    buffer_back 5 _ _ bs out r after (omega arith) (status_kind edition bs h) (status_read_writes_back edition bs h)

-- targets
pub targets_buffer_write_back : (bs out : List ℕ) (r : Written) (after : List ℕ) → (read_targets bs).refusal ≡ 0 → length bs ≤ length out
    → Writes (targets_refusal (read_targets bs).format (read_targets bs).gain (read_targets bs).targets)
    (targets_bytes (read_targets bs).format (read_targets bs).gain (read_targets bs).targets) out r after
    → BufferWritesBack 4 bs out r after
targets_buffer_write_back bs out r after h =
    buffer_back 4 _ _ bs out r after (omega arith) (targets_kind bs h) (targets_read_write_back bs h)

-- data
pub data_buffer_writes_back : (bs out : List ℕ) (r : Written) (after : List ℕ) → (read_data bs).refusal ≡ 0 → length bs ≤ length out
    → Writes (data_refusal (read_data bs).kind (part_of (read_data bs) bs))
    (data_bytes (read_data bs).kind (part_of (read_data bs) bs)) out r after
    → BufferWritesBack (read_data bs).kind bs out r after
data_buffer_writes_back bs out r after h =
    let k = data_kind bs h in
    let some : 0 < (read_data bs).kind = rw (← k) (data_range (frame_kind bs) (data_found bs h)).0 in
    buffer_back (read_data bs).kind _ _ bs out r after some k (data_read_writes_back bs h)
