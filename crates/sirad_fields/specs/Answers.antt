-- What the readers answer, and the numbers that this is for a host in C (paper 01, "Fields" and "Refusal numbers").
use Rattle.std.specs.Prelude.{cond, List, ℕ, eqb, Result, Ok, Err}
use Rattle.refusals.specs.declared.Refusal.{Refusal}
use Rattle.refusals.specs.declared.Refusal.TheVariants.{NotOneFrame, UnknownKind}
use Rattle.refusals.specs.Numbers.{number}
use Rattle.sirad_fields.specs.declared.DataKind.{DataKind}
use Rattle.sirad_fields.specs.declared.DataKind.TheVariants.{Range, Phase, Cfar}
use Rattle.sirad_fields.specs.declared.Data.{Data}
use Rattle.sirad_fields.specs.declared.DataFrame.{DataFrame}
use Rattle.sirad_fields.specs.declared.Targets.{Targets}
use Rattle.sirad_fields.specs.declared.TargetFrame.{TargetFrame}
use Rattle.sirad_fields.specs.declared.StatusValues.{StatusValues}
use Rattle.sirad_fields.specs.declared.Status.{Status}
use Rattle.sirad_fields.specs.declared.StatusFrame.{StatusFrame}
use Rattle.sirad_fields.specs.declared.ErrorFrame.{ErrorFrame}
use Rattle.sirad_fields.specs.Frames.{frame_kind}
use Rattle.sirad_fields.specs.Fields.{no_data, no_targets, no_status, no_error, status_numbers}

-- the kind of the frame that the bytes are from first to last; 5 if they are not exactly one whole frame (paper 01, "Refusal numbers")
unfoldable pub whole_frame : List ℕ → Result ℕ Refusal
whole_frame bs = cond (eqb (frame_kind bs) 0) (Err NotOneFrame) (Ok (frame_kind bs))

-- a data kind's number among the kinds of frames (paper 01, "SiRad")
abbrev pub kind_number : DataKind → ℕ
kind_number Range = 1
kind_number Phase = 2
kind_number Cfar = 3

-- the data kind of this number; 53 if there is none (paper 01, "Refusal numbers")
abbrev pub data_kind : ℕ → Result DataKind Refusal
data_kind n = cond (eqb n 1) (Ok Range) (cond (eqb n 2) (Ok Phase) (cond (eqb n 3) (Ok Cfar) (Err UnknownKind)))

-- a data frame's fields, or its refusal
abbrev pub data_frame_of : Result Data Refusal → DataFrame
data_frame_of (Ok d) = record { refusal = 0; kind = kind_number d.kind; start = d.start; size = d.size }
data_frame_of (Err r) = no_data (number r)

-- a T frame's fields, or its refusal
abbrev pub target_frame_of : Result Targets Refusal → TargetFrame
target_frame_of (Ok t) = record { refusal = 0; format = t.format; gain = t.gain; targets = t.targets }
target_frame_of (Err r) = no_targets (number r)

-- the numbers that these values are sent as in a U frame
abbrev pub values_sent : StatusValues → List ℕ
values_sent v = status_numbers v.format v.gain v.accuracy v.max_range v.ramp_time v.bandwidth v.time_difference

-- a U frame's fields, or its refusal
abbrev pub status_frame_of : Result Status Refusal → StatusFrame
status_frame_of (Ok s) =
    record {
      refusal = 0;
      format = s.sent.format;
      gain = s.sent.gain;
      accuracy = s.sent.accuracy;
      accuracy_mm = s.accuracy_mm;
      max_range = s.sent.max_range;
      ramp_time = s.sent.ramp_time;
      bandwidth = s.sent.bandwidth;
      time_difference = s.sent.time_difference;
    }
status_frame_of (Err r) = no_status (number r)

-- an E frame's flags, or their refusal
abbrev pub error_frame_of : Result ℕ Refusal → ErrorFrame
error_frame_of (Ok flags) = record { refusal = 0; flags = flags }
error_frame_of (Err r) = no_error (number r)
