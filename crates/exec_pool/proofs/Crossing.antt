-- A job may go to another thread, and so may a worker.
use denote.RattleType.{RattleType}
use denote.Param.Send.{IsSend, recorded_send, sendable, struct_send, view_send}
use denote.Struct.Declared.{shape}
use Rattle.std.proofs.Crossing.{Arc-send, crosses}
use Rattle.std.specs.contracts.option.Option as Option
use Rattle.atomic_table.proofs.owned.Table.TheSendSync as table
use Rattle.atomic_table.proofs.shared.Seat.TheSendSync as seat
use Rattle.exec_pool.specs.contracts.handoff.Worker as Worker
use Rattle.exec_pool.specs.contracts.handoff.Worker.TheInside as inside
use Rattle.exec_pool.specs.contracts.job.Job as Job
use Rattle.exec_stream.proofs.Crossing.{Runner-field_send, StreamedRound-send, StreamedRound-sync}
use Rattle.exec_stream.specs.contracts.streaming.StreamedRound as StreamedRound

pub Job-send : IsSend Job.the_row
Job-send = recorded_send Job.the_field.row _ _ Job.the_type.to_one (struct_send (shape Job.the_type) (Arc-send StreamedRound.the_row StreamedRound-send StreamedRound-sync, (Runner-field_send, (search (sendable, crosses) depth 20, tt))))

-- an option may, where its value may
option_send : (R : RattleType) → IsSend R → IsSend (Option.the_row R)
option_send R s = search sendable depth 12

-- the fields of a worker: the table that it shares with its caller, and its seat
worker_fields : IsSend inside.the_row
worker_fields =
    recorded_send inside.the_field.row _ _ inside.the_type.to_one (struct_send (shape inside.the_type) (
      search (sendable, crosses, table.the_field_send, table.the_field_sync, option_send, Job-send) depth 24,
      (search (sendable, crosses, seat.the_send, option_send, Job-send) depth 24, tt),
    ))

pub Worker-send : IsSend Worker.the_row
Worker-send = view_send inside.the_row _ _ _ _ worker_fields
