-- A runner may go to another thread, and threads may share a stream.
use denote.Param.Send.{IsSend, IsSync, recorded_send, recorded_sync, sendable, struct_send, struct_sync}
use denote.Struct.Declared.{shape}
use Rattle.std.proofs.Crossing.{crosses}
use Rattle.crossbeam_queue.proofs.array_queue.Slotted.TheSendSync as slotted
use Rattle.exec_board.proofs.Crossing.{Board-send, Board-sync, Pass-send}
use Rattle.exec_lane.proofs.outcome.Outcome.TheSendSync as outcome
use Rattle.exec_stream.proofs.sending.Sender.TheSendSync as sender
use Rattle.exec_stream.specs.contracts.streaming.StreamedRound as StreamedRound
use Rattle.exec_stream.specs.contracts.streaming.Runner as Runner

pub Runner-field_send : IsSend Runner.the_field.row
Runner-field_send = struct_send (shape Runner.the_type) (Pass-send, (sender.the_send, tt))

pub Runner-send : IsSend Runner.the_row
Runner-send = recorded_send Runner.the_field.row _ _ Runner.the_type.to_one Runner-field_send

pub StreamedRound-sync : IsSync StreamedRound.the_row
StreamedRound-sync = recorded_sync StreamedRound.the_field.row _ _ StreamedRound.the_type.to_one
    (struct_sync (shape StreamedRound.the_type) (Board-sync, (search (sendable, crosses, slotted.the_field_sync, outcome.the_send) depth 24, (search sendable, (search sendable, (search (sendable, crosses) depth 20, tt))))))

pub StreamedRound-send : IsSend StreamedRound.the_row
StreamedRound-send = recorded_send StreamedRound.the_field.row _ _ StreamedRound.the_type.to_one
    (struct_send (shape StreamedRound.the_type) (Board-send, (search (sendable, crosses, slotted.the_field_send, outcome.the_send) depth 24, (search sendable, (search sendable, (search (sendable, crosses) depth 20, tt))))))
