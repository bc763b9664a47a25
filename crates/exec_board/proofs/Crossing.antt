-- A pass may go to another thread, and threads may share a board.
use denote.RattleType.{RattleType}
use denote.Param.Send.{Frees, IsSend, IsSync, part_keyless, recorded_send, recorded_sync, sendable, struct_send, struct_sync, view_send, view_sync}
use denote.Struct.Declared.{shape}
use denote.Struct.Owning.{shape as owning_shape}
use denote.Struct.Struct.{Struct}
use Rattle.std.proofs.Crossing.{crosses}
use Rattle.std.specs.declared.alloc.Allocator as alloc
use Rattle.std.specs.contracts.option.Option as Option
use Rattle.atomic_table.proofs.owned.Table.TheSendSync as table
use Rattle.atomic_table.proofs.Rights.{right_send}
use Rattle.atomic_table.proofs.Sent.{seat_keyless, shares_keyless}
use Rattle.atomic_table.specs.declared.shared.TableRule.{Ghosts}
use Rattle.atomic_table.specs.contracts.send_lease.SendLease as SendLease
use Rattle.atomic_table.specs.contracts.shared.Shared as Shared
use Rattle.atomic_table.specs.contracts.shared.Seat as Seat
use Rattle.exec_lane.proofs.Crossing.{LaneBox-send}
use Rattle.exec_lane.specs.contracts.lane_box.LaneBox as LaneBox
use Rattle.exec_board.specs.contracts.rule.BoardView as BoardView
use Rattle.exec_board.specs.contracts.board.Board as Board
use Rattle.exec_board.specs.contracts.board.Board.TheInside as board_inside
use Rattle.exec_board.specs.contracts.pass.Pass as Pass
use Rattle.exec_board.specs.contracts.pass.Pass.TheInside as pass_inside

-- a seat may, where what a slot holds may
Seat-send : (S V : RattleType) → IsSend S → IsSend (Seat.the_row S V)
Seat-send S V s = record { owned = λ d vs. ((λ vss. (tt, ((λ uss. (tt, tt)), tt))), seat_keyless S s V.coded.code d.table_id d.id d.me); leaving = λ k f vs. tt }

-- and so may an option, where its value may
option_send : (R : RattleType) → IsSend R → IsSend (Option.the_row R)
option_send R s = search sendable depth 12

pass_fields : IsSend pass_inside.the_row
pass_fields = recorded_send pass_inside.the_field.row _ _ pass_inside.the_type.to_one (struct_send (shape pass_inside.the_type) (Seat-send (Option.the_row LaneBox.the_row) BoardView.the_row (option_send LaneBox.the_row LaneBox-send), (search sendable, (search sendable, tt))))

pub Pass-send : IsSend Pass.the_row
Pass-send = view_send pass_inside.the_row _ _ _ _ pass_fields

-- ---- a board

-- what threads share of a table they may, where what a slot holds may go to another
Shared-sync : (S V K P : RattleType) (g : Ghosts P.Denot S.Denot V.Denot K.Denot) → IsSend S → IsSync (Shared.the_row S V K P g)
Shared-sync S V K P g s =
    let fields : IsSync (Struct (owning_shape (Shared.the_type S V K P g))) = search sendable depth 20 in
    record { shared = λ d b o ν. (fields.shared (d.words, (d.slots, (tt, tt))) b o ν, shares_keyless S s V.coded.code d.table_id (g.holds d.key) d.words d.slots ν) }

Lease-sync : (T A : RattleType) (g : alloc.Ghosts A.Denot) → Frees g g.dealloc_token → IsSync (SendLease.the_row T A g)
Lease-sync T A g f = record { shared = λ d b o ν q. part_keyless (SendLease.the_row T A g) (right_send T A g f) q d b o }

board_fields : IsSync board_inside.the_row
board_fields = recorded_sync board_inside.the_field.row _ _ board_inside.the_type.to_one (struct_sync (shape board_inside.the_type) (search (sendable, crosses, Shared-sync, Lease-sync, option_send, LaneBox-send) depth 20, tt))

pub Board-sync : IsSync Board.the_row
Board-sync = view_sync board_inside.the_row _ _ _ _ board_fields

board_parts : IsSend board_inside.the_row
board_parts = recorded_send board_inside.the_field.row _ _ board_inside.the_type.to_one (struct_send (shape board_inside.the_type) (search (sendable, crosses, table.the_field_send, option_send, LaneBox-send) depth 20, tt))

pub Board-send : IsSend Board.the_row
Board-send = view_send board_inside.the_row _ _ _ _ board_parts
