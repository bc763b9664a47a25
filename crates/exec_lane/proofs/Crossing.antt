-- A lane may go to another thread.
use denote.Param.Send.{IsSend, sendable, recorded_send, struct_send, view_send}
use denote.Struct.Declared.{shape}
use Rattle.std.proofs.Crossing.{Arc-send, Box-send, Vec-send, Vec-sync, crosses}
use Rattle.std.proofs.alloc.Global.TheSendSync as heap
use Rattle.exec_lane.specs.contracts.lane_box.LaneBox as LaneBox
use Rattle.exec_lane.specs.contracts.lane_box.LaneBox.TheInside as inside
use Rattle.exec_rules.proofs.ready.Ready.TheSendSync as ready
use Rattle.exec_rules.specs.contracts.ready.Ready as Ready
use Rattle.exec_world.proofs.lane_buffer.LaneBuffer.TheSendSync as buffer
use Rattle.exec_world.specs.contracts.lane_buffer.LaneBuffer as LaneBuffer

-- its fields may, one by one
fields_send : IsSend inside.the_row
fields_send =
    recorded_send inside.the_field.row _ _ inside.the_type.to_one (
    struct_send (shape inside.the_type) (
      heap.the_field_send,
      (
        Arc-send _ (Vec-send Ready.the_row ready.the_send) (Vec-sync Ready.the_row ready.the_sync),
        (search crosses, (Box-send LaneBuffer.the_row buffer.the_send, (search sendable, tt))),
      ),
    )
    )

pub LaneBox-send : IsSend LaneBox.the_row
LaneBox-send = view_send inside.the_row _ _ _ _ fields_send
