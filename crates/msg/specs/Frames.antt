-- Frames as plain data.
use Rattle.std.specs.Prelude.{ℕ}
use Rattle.msg.specs.declared.body.Body.{Body}
use Rattle.msg.specs.declared.frame.Ack.{Ack}
use Rattle.msg.specs.declared.frame.Data.{Data}
use Rattle.msg.specs.declared.frame.DataRef.{DataRef}
use Rattle.msg.specs.declared.frame.Frame.{Frame}
use Rattle.msg.specs.declared.frame.FrameRef.{FrameRef}
use Rattle.msg.specs.declared.frame.FrameRef.TheVariants as frame_ref
use Rattle.msg.specs.declared.frame.Frame.TheVariants as frame

-- a frame without the proof that it is within the limits
pub data Plain : Type 0 where
  -- from, to, number, stamp and body
  data_frame : ℕ → ℕ → ℕ → ℕ → Body → Plain
  -- by, of and number
  ack_frame : ℕ → ℕ → ℕ → Plain

abbrev pub plain_data : Data → Plain
plain_data d = data_frame d.from d.to d.number d.stamp d.body

abbrev pub plain_ack : Ack → Plain
plain_ack a = ack_frame a.by a.of a.number

abbrev pub plain : Frame → Plain
plain (frame.Data d) = plain_data d
plain (frame.Ack a) = plain_ack a

-- the same of frames whose bodies are borrowed
abbrev pub plain_data_ref : DataRef → Plain
plain_data_ref d = data_frame d.from d.to d.number d.stamp d.body.now

abbrev pub plain_ref : FrameRef → Plain
plain_ref (frame_ref.Data d) = plain_data_ref d
plain_ref (frame_ref.Ack a) = plain_ack a
