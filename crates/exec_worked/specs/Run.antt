-- Worked cases: run.
use Rattle.std.specs.Prelude.{ℕ, List, [], ◌∷◌, ◌++◌, codes}

-- cases/run/a_call_and_its_reply.json
abbrev pub a_call_and_its_reply_document : List ℕ
a_call_and_its_reply_document =
    codes "{\"version\":1,\"nodes\":[{\"name\":\"n\",\"timers\":[{\"name\":\"t\",\"period\":5,\"script\":[[\"call\",\"c\",4]]}],\"serv" ++
    codes "ices\":[{\"name\":\"add\",\"script\":[[\"set\",\"r0\",\"mul\",\"in\",2],[\"reply\",\"r0\"]]}],\"clients\":[{\"name\":\"c\",\"s" ++
    codes "ervice\":\"add\",\"script\":[[\"log\",\"in\"]]}]}],\"moments\":[5,6,7]}" ++ 10 ∷
    []

abbrev pub a_call_and_its_reply_transcript : List ℕ
a_call_and_its_reply_transcript =
    codes "round 1 5" ++ 10 ∷
    codes "run t timer 5 0" ++ 10 ∷
    codes "call c 1 4" ++ 10 ∷
    codes "round 2 6" ++ 10 ∷
    codes "run add request 4 0" ++ 10 ∷
    codes "reply add 8" ++ 10 ∷
    codes "round 3 7" ++ 10 ∷
    codes "run c reply 8 1" ++ 10 ∷
    codes "log c 8" ++ 10 ∷
    codes "end 3" ++ 10 ∷
    []

-- cases/run/a_message_is_taken_a_round_later.json
abbrev pub a_message_is_taken_a_round_later_document : List ℕ
a_message_is_taken_a_round_later_document =
    codes "{\"version\":1,\"topics\":[\"x\"],\"nodes\":[{\"name\":\"n\",\"subscriptions\":[{\"name\":\"s\",\"topic\":\"x\",\"script\":[" ++
    codes "[\"pub\",\"x\",\"in\"]]}]}],\"moments\":[1,2,3],\"feed\":[{\"round\":1,\"topic\":\"x\",\"value\":7}]}" ++ 10 ∷
    []

abbrev pub a_message_is_taken_a_round_later_transcript : List ℕ
a_message_is_taken_a_round_later_transcript =
    codes "round 1 1" ++ 10 ∷
    codes "run s message 7 0" ++ 10 ∷
    codes "pub x 7" ++ 10 ∷
    codes "round 2 2" ++ 10 ∷
    codes "run s message 7 0" ++ 10 ∷
    codes "pub x 7" ++ 10 ∷
    codes "round 3 3" ++ 10 ∷
    codes "run s message 7 0" ++ 10 ∷
    codes "pub x 7" ++ 10 ∷
    codes "end 3" ++ 10 ∷
    []

-- cases/run/a_service_without_a_script.json
abbrev pub a_service_without_a_script_document : List ℕ
a_service_without_a_script_document =
    codes "{\"version\":1,\"nodes\":[{\"name\":\"n\",\"timers\":[{\"name\":\"t\",\"period\":5,\"script\":[[\"call\",\"c\",4]]}],\"serv" ++
    codes "ices\":[{\"name\":\"add\"}],\"clients\":[{\"name\":\"c\",\"service\":\"add\",\"script\":[[\"log\",\"in\"]]}]}],\"moments\":" ++
    codes "[5,6,7]}" ++ 10 ∷
    []

abbrev pub a_service_without_a_script_transcript : List ℕ
a_service_without_a_script_transcript =
    codes "round 1 5" ++ 10 ∷
    codes "run t timer 5 0" ++ 10 ∷
    codes "call c 1 4" ++ 10 ∷
    codes "round 2 6" ++ 10 ∷
    codes "run add request 4 0" ++ 10 ∷
    codes "reply add 0" ++ 10 ∷
    codes "round 3 7" ++ 10 ∷
    codes "run c reply 0 1" ++ 10 ∷
    codes "log c 0" ++ 10 ∷
    codes "end 3" ++ 10 ∷
    []

-- cases/run/action_client.json
abbrev pub action_client_document : List ℕ
action_client_document =
    codes "{\"version\":1,\"nodes\":[{\"name\":\"n\",\"actions\":[{\"name\":\"a\"}],\"action_clients\":[{\"name\":\"c\",\"action\":\"a" ++
    codes "\"}]}]}" ++
    []

abbrev pub action_client_transcript : List ℕ
action_client_transcript =
    codes "end 0" ++ 10 ∷
    []

-- cases/run/cancel_by_identifier_or_stamp.json
abbrev pub cancel_by_identifier_or_stamp_document : List ℕ
cancel_by_identifier_or_stamp_document =
    codes "{\"version\":1,\"nodes\":[{\"name\":\"n\",\"actions\":[{\"name\":\"a\",\"on_goal\":[[\"decide\",3]],\"on_cancel\":[[\"dec" ++
    codes "ide\",2]],\"script\":[[\"yield\"]]}]}],\"moments\":[10,20,30,40],\"feed\":[{\"round\":1,\"action\":\"a\",\"goal\":\"00" ++
    codes "000000-0000-0000-0000-000000000001\",\"value\":5},{\"round\":2,\"action\":\"a\",\"goal\":\"00000000-0000-0000-00" ++
    codes "00-000000000002\",\"value\":5},{\"round\":3,\"action\":\"a\",\"goal\":\"00000000-0000-0000-0000-000000000003\",\"v" ++
    codes "alue\":5},{\"round\":4,\"action\":\"a\",\"cancel\":\"00000000-0000-0000-0000-000000000003\",\"stamp\":20}]}" ++ 10 ∷
    []

abbrev pub cancel_by_identifier_or_stamp_transcript : List ℕ
cancel_by_identifier_or_stamp_transcript =
    codes "round 1 10" ++ 10 ∷
    codes "run a goal 5 0 00000000-0000-0000-0000-000000000001" ++ 10 ∷
    codes "decide a 00000000-0000-0000-0000-000000000001 3" ++ 10 ∷
    codes "state a 00000000-0000-0000-0000-000000000001 1" ++ 10 ∷
    codes "round 2 20" ++ 10 ∷
    codes "run a goal 5 0 00000000-0000-0000-0000-000000000002" ++ 10 ∷
    codes "decide a 00000000-0000-0000-0000-000000000002 3" ++ 10 ∷
    codes "state a 00000000-0000-0000-0000-000000000002 1" ++ 10 ∷
    codes "round 3 30" ++ 10 ∷
    codes "run a goal 5 0 00000000-0000-0000-0000-000000000003" ++ 10 ∷
    codes "decide a 00000000-0000-0000-0000-000000000003 3" ++ 10 ∷
    codes "state a 00000000-0000-0000-0000-000000000003 1" ++ 10 ∷
    codes "round 4 40" ++ 10 ∷
    codes "run a cancel 20 3 00000000-0000-0000-0000-000000000003" ++ 10 ∷
    codes "state a 00000000-0000-0000-0000-000000000001 3" ++ 10 ∷
    codes "state a 00000000-0000-0000-0000-000000000002 3" ++ 10 ∷
    codes "state a 00000000-0000-0000-0000-000000000003 3" ++ 10 ∷
    codes "code a 0 3" ++ 10 ∷
    codes "end 4" ++ 10 ∷
    []

-- cases/run/cancel_handler_that_reads_the_state.json
abbrev pub cancel_handler_that_reads_the_state_document : List ℕ
cancel_handler_that_reads_the_state_document =
    codes "{\"version\":1,\"nodes\":[{\"name\":\"n\",\"actions\":[{\"name\":\"a\",\"on_goal\":[[\"decide\",\"in\"]],\"on_cancel\":[[\"" ++
    codes "log\",\"aux\"],[\"decide\",\"aux\"]],\"script\":[[\"wait\",100]]}]}],\"moments\":[0,1,2],\"feed\":[{\"round\":1,\"goal" ++
    codes "\":\"00000000-0000-0000-0000-000000000001\",\"action\":\"a\",\"value\":2},{\"round\":2,\"goal\":\"00000000-0000-00" ++
    codes "00-0000-000000000002\",\"action\":\"a\",\"value\":3},{\"round\":3,\"cancel\":\"00000000-0000-0000-0000-000000000" ++
    codes "000\",\"action\":\"a\"}]}" ++ 10 ∷
    []

abbrev pub cancel_handler_that_reads_the_state_transcript : List ℕ
cancel_handler_that_reads_the_state_transcript =
    codes "round 1 0" ++ 10 ∷
    codes "run a goal 2 0 00000000-0000-0000-0000-000000000001" ++ 10 ∷
    codes "decide a 00000000-0000-0000-0000-000000000001 2" ++ 10 ∷
    codes "state a 00000000-0000-0000-0000-000000000001 1" ++ 10 ∷
    codes "state a 00000000-0000-0000-0000-000000000001 2" ++ 10 ∷
    codes "round 2 1" ++ 10 ∷
    codes "run a goal 3 0 00000000-0000-0000-0000-000000000002" ++ 10 ∷
    codes "decide a 00000000-0000-0000-0000-000000000002 3" ++ 10 ∷
    codes "state a 00000000-0000-0000-0000-000000000002 1" ++ 10 ∷
    codes "run a poll 2 0 00000000-0000-0000-0000-000000000001" ++ 10 ∷
    codes "round 3 2" ++ 10 ∷
    codes "run a cancel 0 2 00000000-0000-0000-0000-000000000000" ++ 10 ∷
    codes "log a 2" ++ 10 ∷
    codes "log a 1" ++ 10 ∷
    codes "state a 00000000-0000-0000-0000-000000000001 3" ++ 10 ∷
    codes "code a 0 1" ++ 10 ∷
    codes "end 3" ++ 10 ∷
    []

-- cases/run/cancel_of_a_goal_that_ended.json
abbrev pub cancel_of_a_goal_that_ended_document : List ℕ
cancel_of_a_goal_that_ended_document =
    codes "{\"version\":1,\"nodes\":[{\"name\":\"n\",\"actions\":[{\"name\":\"a\",\"on_goal\":[[\"decide\",2]],\"on_cancel\":[[\"dec" ++
    codes "ide\",2]],\"script\":[[\"succeed\",\"in\"]]}]}],\"moments\":[10,20,30],\"feed\":[{\"round\":1,\"action\":\"a\",\"goal\"" ++
    codes ":\"00000000-0000-0000-0000-000000000001\",\"value\":5},{\"round\":3,\"action\":\"a\",\"cancel\":\"00000000-0000-0" ++
    codes "000-0000-000000000001\",\"stamp\":0}]}" ++ 10 ∷
    []

abbrev pub cancel_of_a_goal_that_ended_transcript : List ℕ
cancel_of_a_goal_that_ended_transcript =
    codes "round 1 10" ++ 10 ∷
    codes "run a goal 5 0 00000000-0000-0000-0000-000000000001" ++ 10 ∷
    codes "decide a 00000000-0000-0000-0000-000000000001 2" ++ 10 ∷
    codes "state a 00000000-0000-0000-0000-000000000001 1" ++ 10 ∷
    codes "state a 00000000-0000-0000-0000-000000000001 2" ++ 10 ∷
    codes "round 2 20" ++ 10 ∷
    codes "run a poll 5 0 00000000-0000-0000-0000-000000000001" ++ 10 ∷
    codes "state a 00000000-0000-0000-0000-000000000001 4" ++ 10 ∷
    codes "round 3 30" ++ 10 ∷
    codes "run a cancel 0 0 00000000-0000-0000-0000-000000000001" ++ 10 ∷
    codes "code a 3 0" ++ 10 ∷
    codes "end 3" ++ 10 ∷
    []

-- cases/run/cancel_of_a_goal_that_is_canceling.json
abbrev pub cancel_of_a_goal_that_is_canceling_document : List ℕ
cancel_of_a_goal_that_is_canceling_document =
    codes "{\"version\":1,\"nodes\":[{\"name\":\"n\",\"actions\":[{\"name\":\"a\",\"on_goal\":[[\"decide\",3]],\"on_cancel\":[[\"dec" ++
    codes "ide\",2]],\"script\":[[\"yield\"]]}]}],\"moments\":[10,20,30],\"feed\":[{\"round\":1,\"action\":\"a\",\"goal\":\"00000" ++
    codes "000-0000-0000-0000-000000000001\",\"value\":5},{\"round\":2,\"action\":\"a\",\"cancel\":\"00000000-0000-0000-000" ++
    codes "0-000000000001\",\"stamp\":0},{\"round\":3,\"action\":\"a\",\"cancel\":\"00000000-0000-0000-0000-000000000001\",\"" ++
    codes "stamp\":0}]}" ++ 10 ∷
    []

abbrev pub cancel_of_a_goal_that_is_canceling_transcript : List ℕ
cancel_of_a_goal_that_is_canceling_transcript =
    codes "round 1 10" ++ 10 ∷
    codes "run a goal 5 0 00000000-0000-0000-0000-000000000001" ++ 10 ∷
    codes "decide a 00000000-0000-0000-0000-000000000001 3" ++ 10 ∷
    codes "state a 00000000-0000-0000-0000-000000000001 1" ++ 10 ∷
    codes "round 2 20" ++ 10 ∷
    codes "run a cancel 0 1 00000000-0000-0000-0000-000000000001" ++ 10 ∷
    codes "state a 00000000-0000-0000-0000-000000000001 3" ++ 10 ∷
    codes "code a 0 1" ++ 10 ∷
    codes "round 3 30" ++ 10 ∷
    codes "run a cancel 0 0 00000000-0000-0000-0000-000000000001" ++ 10 ∷
    codes "code a 1 0" ++ 10 ∷
    codes "run a poll 5 1 00000000-0000-0000-0000-000000000001" ++ 10 ∷
    codes "end 3" ++ 10 ∷
    []

-- cases/run/cancel_of_all_goals.json
abbrev pub cancel_of_all_goals_document : List ℕ
cancel_of_all_goals_document =
    codes "{\"version\":1,\"nodes\":[{\"name\":\"n\",\"actions\":[{\"name\":\"a\",\"on_goal\":[[\"decide\",3]],\"on_cancel\":[[\"dec" ++
    codes "ide\",2]],\"script\":[[\"yield\"]]}]}],\"moments\":[10,20,30,40],\"feed\":[{\"round\":1,\"action\":\"a\",\"goal\":\"00" ++
    codes "000000-0000-0000-0000-000000000001\",\"value\":5},{\"round\":2,\"action\":\"a\",\"goal\":\"00000000-0000-0000-00" ++
    codes "00-000000000002\",\"value\":5},{\"round\":3,\"action\":\"a\",\"goal\":\"00000000-0000-0000-0000-000000000003\",\"v" ++
    codes "alue\":5},{\"round\":4,\"action\":\"a\",\"cancel\":\"00000000-0000-0000-0000-000000000000\",\"stamp\":0}]}" ++ 10 ∷
    []

abbrev pub cancel_of_all_goals_transcript : List ℕ
cancel_of_all_goals_transcript =
    codes "round 1 10" ++ 10 ∷
    codes "run a goal 5 0 00000000-0000-0000-0000-000000000001" ++ 10 ∷
    codes "decide a 00000000-0000-0000-0000-000000000001 3" ++ 10 ∷
    codes "state a 00000000-0000-0000-0000-000000000001 1" ++ 10 ∷
    codes "round 2 20" ++ 10 ∷
    codes "run a goal 5 0 00000000-0000-0000-0000-000000000002" ++ 10 ∷
    codes "decide a 00000000-0000-0000-0000-000000000002 3" ++ 10 ∷
    codes "state a 00000000-0000-0000-0000-000000000002 1" ++ 10 ∷
    codes "round 3 30" ++ 10 ∷
    codes "run a goal 5 0 00000000-0000-0000-0000-000000000003" ++ 10 ∷
    codes "decide a 00000000-0000-0000-0000-000000000003 3" ++ 10 ∷
    codes "state a 00000000-0000-0000-0000-000000000003 1" ++ 10 ∷
    codes "round 4 40" ++ 10 ∷
    codes "run a cancel 0 3 00000000-0000-0000-0000-000000000000" ++ 10 ∷
    codes "state a 00000000-0000-0000-0000-000000000001 3" ++ 10 ∷
    codes "state a 00000000-0000-0000-0000-000000000002 3" ++ 10 ∷
    codes "state a 00000000-0000-0000-0000-000000000003 3" ++ 10 ∷
    codes "code a 0 3" ++ 10 ∷
    codes "end 4" ++ 10 ∷
    []

-- cases/run/cancel_of_an_unknown_goal.json
abbrev pub cancel_of_an_unknown_goal_document : List ℕ
cancel_of_an_unknown_goal_document =
    codes "{\"version\":1,\"nodes\":[{\"name\":\"n\",\"actions\":[{\"name\":\"a\",\"on_goal\":[[\"decide\",3]],\"on_cancel\":[[\"dec" ++
    codes "ide\",2]],\"script\":[[\"yield\"]]}]}],\"moments\":[10,20,30,40],\"feed\":[{\"round\":1,\"action\":\"a\",\"goal\":\"00" ++
    codes "000000-0000-0000-0000-000000000001\",\"value\":5},{\"round\":2,\"action\":\"a\",\"goal\":\"00000000-0000-0000-00" ++
    codes "00-000000000002\",\"value\":5},{\"round\":3,\"action\":\"a\",\"goal\":\"00000000-0000-0000-0000-000000000003\",\"v" ++
    codes "alue\":5},{\"round\":4,\"action\":\"a\",\"cancel\":\"00000000-0000-0000-0000-000000000009\",\"stamp\":0}]}" ++ 10 ∷
    []

abbrev pub cancel_of_an_unknown_goal_transcript : List ℕ
cancel_of_an_unknown_goal_transcript =
    codes "round 1 10" ++ 10 ∷
    codes "run a goal 5 0 00000000-0000-0000-0000-000000000001" ++ 10 ∷
    codes "decide a 00000000-0000-0000-0000-000000000001 3" ++ 10 ∷
    codes "state a 00000000-0000-0000-0000-000000000001 1" ++ 10 ∷
    codes "round 2 20" ++ 10 ∷
    codes "run a goal 5 0 00000000-0000-0000-0000-000000000002" ++ 10 ∷
    codes "decide a 00000000-0000-0000-0000-000000000002 3" ++ 10 ∷
    codes "state a 00000000-0000-0000-0000-000000000002 1" ++ 10 ∷
    codes "round 3 30" ++ 10 ∷
    codes "run a goal 5 0 00000000-0000-0000-0000-000000000003" ++ 10 ∷
    codes "decide a 00000000-0000-0000-0000-000000000003 3" ++ 10 ∷
    codes "state a 00000000-0000-0000-0000-000000000003 1" ++ 10 ∷
    codes "round 4 40" ++ 10 ∷
    codes "run a cancel 0 0 00000000-0000-0000-0000-000000000009" ++ 10 ∷
    codes "code a 2 0" ++ 10 ∷
    codes "end 4" ++ 10 ∷
    []

-- cases/run/cancel_requests_beyond_a_depth_of_1.json
abbrev pub cancel_requests_beyond_a_depth_of_1_document : List ℕ
cancel_requests_beyond_a_depth_of_1_document =
    codes "{\"version\":1,\"nodes\":[{\"name\":\"n\",\"timers\":[{\"name\":\"t\",\"period\":2,\"script\":[[\"cancel\",\"k1\",\"all\"],[" ++
    codes "\"cancel\",\"k2\",\"before\",\"now\"],[\"cancel\",\"k1\",\"goal-before\",1,3]]}],\"actions\":[{\"name\":\"a\",\"depth\":1," ++
    codes "\"on_goal\":[[\"decide\",2]],\"on_cancel\":[[\"decide\",2]],\"script\":[[\"yield\"]]}],\"action_clients\":[{\"name\"" ++
    codes ":\"k1\",\"action\":\"a\",\"depth\":1,\"on_code\":[[\"log\",\"aux\"]]},{\"name\":\"k2\",\"action\":\"a\",\"depth\":1,\"on_code" ++
    codes "\":[[\"log\",\"in\"]]}]}],\"moments\":[1,2,3,4,5],\"feed\":[{\"round\":1,\"action\":\"a\",\"goal\":\"00000000000000000" ++
    codes "000000000000001\",\"value\":1},{\"round\":2,\"action\":\"a\",\"goal\":\"{00000000-0000-0001-0000-000000000001}\"," ++
    codes "\"value\":2},{\"round\":3,\"action\":\"a\",\"goal\":\"urn:uuid:00000000-0000-0000-0000-000000000003\",\"value\":3}" ++
    codes "]}" ++ 10 ∷
    []

abbrev pub cancel_requests_beyond_a_depth_of_1_transcript : List ℕ
cancel_requests_beyond_a_depth_of_1_transcript =
    codes "round 1 1" ++ 10 ∷
    codes "run a goal 1 0 00000000-0000-0000-0000-000000000001" ++ 10 ∷
    codes "decide a 00000000-0000-0000-0000-000000000001 2" ++ 10 ∷
    codes "state a 00000000-0000-0000-0000-000000000001 1" ++ 10 ∷
    codes "state a 00000000-0000-0000-0000-000000000001 2" ++ 10 ∷
    codes "round 2 2" ++ 10 ∷
    codes "run t timer 2 0" ++ 10 ∷
    codes "cancel k1 00000000-0000-0000-0000-000000000000 0" ++ 10 ∷
    codes "cancel k2 00000000-0000-0000-0000-000000000000 2" ++ 10 ∷
    codes "drop a cancel 0" ++ 10 ∷
    codes "cancel k1 00000000-0000-0001-0000-000000000001 3" ++ 10 ∷
    codes "drop a cancel 2" ++ 10 ∷
    codes "run a goal 2 0 00000000-0000-0001-0000-000000000001" ++ 10 ∷
    codes "decide a 00000000-0000-0001-0000-000000000001 2" ++ 10 ∷
    codes "state a 00000000-0000-0001-0000-000000000001 1" ++ 10 ∷
    codes "state a 00000000-0000-0001-0000-000000000001 2" ++ 10 ∷
    codes "run a poll 1 0 00000000-0000-0000-0000-000000000001" ++ 10 ∷
    codes "round 3 3" ++ 10 ∷
    codes "run a goal 3 0 00000000-0000-0000-0000-000000000003" ++ 10 ∷
    codes "decide a 00000000-0000-0000-0000-000000000003 2" ++ 10 ∷
    codes "state a 00000000-0000-0000-0000-000000000003 1" ++ 10 ∷
    codes "state a 00000000-0000-0000-0000-000000000003 2" ++ 10 ∷
    codes "run a cancel 3 2 00000000-0000-0001-0000-000000000001" ++ 10 ∷
    codes "state a 00000000-0000-0000-0000-000000000001 3" ++ 10 ∷
    codes "state a 00000000-0000-0001-0000-000000000001 3" ++ 10 ∷
    codes "code a 0 2" ++ 10 ∷
    codes "run a poll 1 0 00000000-0000-0000-0000-000000000001" ++ 10 ∷
    codes "run a poll 2 0 00000000-0000-0001-0000-000000000001" ++ 10 ∷
    codes "round 4 4" ++ 10 ∷
    codes "run t timer 4 0" ++ 10 ∷
    codes "cancel k1 00000000-0000-0000-0000-000000000000 0" ++ 10 ∷
    codes "cancel k2 00000000-0000-0000-0000-000000000000 4" ++ 10 ∷
    codes "drop a cancel 0" ++ 10 ∷
    codes "cancel k1 00000000-0000-0001-0000-000000000001 3" ++ 10 ∷
    codes "drop a cancel 4" ++ 10 ∷
    codes "run a poll 1 1 00000000-0000-0000-0000-000000000001" ++ 10 ∷
    codes "run a poll 2 1 00000000-0000-0001-0000-000000000001" ++ 10 ∷
    codes "run a poll 3 0 00000000-0000-0000-0000-000000000003" ++ 10 ∷
    codes "run k1 code 0 2" ++ 10 ∷
    codes "log k1 2" ++ 10 ∷
    codes "round 5 5" ++ 10 ∷
    codes "run a cancel 3 1 00000000-0000-0001-0000-000000000001" ++ 10 ∷
    codes "state a 00000000-0000-0000-0000-000000000003 3" ++ 10 ∷
    codes "code a 0 1" ++ 10 ∷
    codes "run a poll 1 1 00000000-0000-0000-0000-000000000001" ++ 10 ∷
    codes "run a poll 2 1 00000000-0000-0001-0000-000000000001" ++ 10 ∷
    codes "run a poll 3 0 00000000-0000-0000-0000-000000000003" ++ 10 ∷
    codes "end 5" ++ 10 ∷
    []

-- cases/run/cancel_requests_of_each_form.json
abbrev pub cancel_requests_of_each_form_document : List ℕ
cancel_requests_of_each_form_document =
    codes "{\"version\":1,\"nodes\":[{\"name\":\"n\",\"timers\":[{\"name\":\"t\",\"period\":1,\"script\":[[\"goal\",\"k\",1]]},{\"name" ++
    codes "\":\"u\",\"period\":3,\"script\":[[\"cancel\",\"k\",\"goal-before\",3,2],[\"cancel\",\"k\",\"goal\",2],[\"cancel\",\"k\",\"b" ++
    codes "efore\",3],[\"cancel\",\"k\",\"all\"]]}],\"actions\":[{\"name\":\"a\",\"on_goal\":[[\"set\",\"g1\",\"add\",\"g1\",1],[\"set\"" ++
    codes ",\"g2\",\"lt\",\"g1\",3],[\"decide\",3],[\"skip\",\"g2\",1],[\"decide\",2]],\"on_cancel\":[[\"set\",\"r0\",\"eq\",\"aux\",1]" ++
    codes ",[\"skip\",\"r0\",1],[\"decide\",2]]}],\"action_clients\":[{\"name\":\"k\",\"action\":\"a\",\"on_code\":[[\"log\",\"aux\"]" ++
    codes ",[\"log\",\"in\"]]}]}],\"moments\":[1,2,3,4,5,6,6,7]}" ++ 10 ∷
    []

abbrev pub cancel_requests_of_each_form_transcript : List ℕ
cancel_requests_of_each_form_transcript =
    codes "round 1 1" ++ 10 ∷
    codes "run t timer 1 0" ++ 10 ∷
    codes "goal k 00000000-0000-0001-0000-000000000001 1" ++ 10 ∷
    codes "round 2 2" ++ 10 ∷
    codes "run t timer 2 0" ++ 10 ∷
    codes "goal k 00000000-0000-0001-0000-000000000002 1" ++ 10 ∷
    codes "run a goal 1 0 00000000-0000-0001-0000-000000000001" ++ 10 ∷
    codes "decide a 00000000-0000-0001-0000-000000000001 3" ++ 10 ∷
    codes "state a 00000000-0000-0001-0000-000000000001 1" ++ 10 ∷
    codes "round 3 3" ++ 10 ∷
    codes "run t timer 3 0" ++ 10 ∷
    codes "goal k 00000000-0000-0001-0000-000000000003 1" ++ 10 ∷
    codes "run u timer 3 0" ++ 10 ∷
    codes "cancel k 00000000-0000-0001-0000-000000000003 2" ++ 10 ∷
    codes "cancel k 00000000-0000-0001-0000-000000000002 0" ++ 10 ∷
    codes "cancel k 00000000-0000-0000-0000-000000000000 3" ++ 10 ∷
    codes "cancel k 00000000-0000-0000-0000-000000000000 0" ++ 10 ∷
    codes "run a goal 1 0 00000000-0000-0001-0000-000000000002" ++ 10 ∷
    codes "decide a 00000000-0000-0001-0000-000000000002 3" ++ 10 ∷
    codes "state a 00000000-0000-0001-0000-000000000002 1" ++ 10 ∷
    codes "run k response 1 1 00000000-0000-0001-0000-000000000001" ++ 10 ∷
    codes "round 4 4" ++ 10 ∷
    codes "run t timer 4 0" ++ 10 ∷
    codes "goal k 00000000-0000-0001-0000-000000000004 1" ++ 10 ∷
    codes "run a goal 1 0 00000000-0000-0001-0000-000000000003" ++ 10 ∷
    codes "decide a 00000000-0000-0001-0000-000000000003 2" ++ 10 ∷
    codes "state a 00000000-0000-0001-0000-000000000003 1" ++ 10 ∷
    codes "state a 00000000-0000-0001-0000-000000000003 2" ++ 10 ∷
    codes "run a cancel 2 1 00000000-0000-0001-0000-000000000003" ++ 10 ∷
    codes "code a 1 0" ++ 10 ∷
    codes "run k response 1 2 00000000-0000-0001-0000-000000000002" ++ 10 ∷
    codes "round 5 5" ++ 10 ∷
    codes "run t timer 5 0" ++ 10 ∷
    codes "goal k 00000000-0000-0001-0000-000000000005 1" ++ 10 ∷
    codes "run a goal 1 0 00000000-0000-0001-0000-000000000004" ++ 10 ∷
    codes "decide a 00000000-0000-0001-0000-000000000004 2" ++ 10 ∷
    codes "state a 00000000-0000-0001-0000-000000000004 1" ++ 10 ∷
    codes "state a 00000000-0000-0001-0000-000000000004 2" ++ 10 ∷
    codes "run a cancel 0 1 00000000-0000-0001-0000-000000000002" ++ 10 ∷
    codes "code a 1 0" ++ 10 ∷
    codes "run a poll 1 0 00000000-0000-0001-0000-000000000003" ++ 10 ∷
    codes "run k response 1 3 00000000-0000-0001-0000-000000000003" ++ 10 ∷
    codes "run k code 1 0" ++ 10 ∷
    codes "log k 0" ++ 10 ∷
    codes "log k 1" ++ 10 ∷
    codes "round 6 6" ++ 10 ∷
    codes "run t timer 6 0" ++ 10 ∷
    codes "goal k 00000000-0000-0001-0000-000000000006 1" ++ 10 ∷
    codes "run u timer 6 0" ++ 10 ∷
    codes "cancel k 00000000-0000-0001-0000-000000000003 2" ++ 10 ∷
    codes "cancel k 00000000-0000-0001-0000-000000000002 0" ++ 10 ∷
    codes "cancel k 00000000-0000-0000-0000-000000000000 3" ++ 10 ∷
    codes "cancel k 00000000-0000-0000-0000-000000000000 0" ++ 10 ∷
    codes "run a goal 1 0 00000000-0000-0001-0000-000000000005" ++ 10 ∷
    codes "decide a 00000000-0000-0001-0000-000000000005 2" ++ 10 ∷
    codes "state a 00000000-0000-0001-0000-000000000005 1" ++ 10 ∷
    codes "state a 00000000-0000-0001-0000-000000000005 2" ++ 10 ∷
    codes "run a cancel 3 2 00000000-0000-0000-0000-000000000000" ++ 10 ∷
    codes "code a 1 0" ++ 10 ∷
    codes "run a poll 1 0 00000000-0000-0001-0000-000000000003" ++ 10 ∷
    codes "run a poll 1 0 00000000-0000-0001-0000-000000000004" ++ 10 ∷
    codes "run k response 1 4 00000000-0000-0001-0000-000000000004" ++ 10 ∷
    codes "run k code 1 0" ++ 10 ∷
    codes "log k 0" ++ 10 ∷
    codes "log k 1" ++ 10 ∷
    codes "round 7 6" ++ 10 ∷
    codes "run a goal 1 0 00000000-0000-0001-0000-000000000006" ++ 10 ∷
    codes "decide a 00000000-0000-0001-0000-000000000006 2" ++ 10 ∷
    codes "state a 00000000-0000-0001-0000-000000000006 1" ++ 10 ∷
    codes "state a 00000000-0000-0001-0000-000000000006 2" ++ 10 ∷
    codes "run a cancel 0 5 00000000-0000-0000-0000-000000000000" ++ 10 ∷
    codes "state a 00000000-0000-0001-0000-000000000003 3" ++ 10 ∷
    codes "state a 00000000-0000-0001-0000-000000000004 3" ++ 10 ∷
    codes "state a 00000000-0000-0001-0000-000000000005 3" ++ 10 ∷
    codes "code a 0 3" ++ 10 ∷
    codes "run a poll 1 0 00000000-0000-0001-0000-000000000003" ++ 10 ∷
    codes "run a poll 1 0 00000000-0000-0001-0000-000000000004" ++ 10 ∷
    codes "run a poll 1 0 00000000-0000-0001-0000-000000000005" ++ 10 ∷
    codes "run k response 1 5 00000000-0000-0001-0000-000000000005" ++ 10 ∷
    codes "run k code 1 0" ++ 10 ∷
    codes "log k 0" ++ 10 ∷
    codes "log k 1" ++ 10 ∷
    codes "round 8 7" ++ 10 ∷
    codes "run t timer 7 0" ++ 10 ∷
    codes "goal k 00000000-0000-0001-0000-000000000007 1" ++ 10 ∷
    codes "run a cancel 2 1 00000000-0000-0001-0000-000000000003" ++ 10 ∷
    codes "code a 1 0" ++ 10 ∷
    codes "run a poll 1 1 00000000-0000-0001-0000-000000000003" ++ 10 ∷
    codes "run a poll 1 1 00000000-0000-0001-0000-000000000004" ++ 10 ∷
    codes "run a poll 1 1 00000000-0000-0001-0000-000000000005" ++ 10 ∷
    codes "run a poll 1 0 00000000-0000-0001-0000-000000000006" ++ 10 ∷
    codes "run k response 1 6 00000000-0000-0001-0000-000000000006" ++ 10 ∷
    codes "run k code 0 3" ++ 10 ∷
    codes "log k 3" ++ 10 ∷
    codes "log k 0" ++ 10 ∷
    codes "end 8" ++ 10 ∷
    []

-- cases/run/cancel_that_is_rejected.json
abbrev pub cancel_that_is_rejected_document : List ℕ
cancel_that_is_rejected_document =
    codes "{\"version\":1,\"nodes\":[{\"name\":\"n\",\"actions\":[{\"name\":\"a\",\"on_goal\":[[\"decide\",3]],\"on_cancel\":[[\"dec" ++
    codes "ide\",1]],\"script\":[]}]}],\"moments\":[10,20],\"feed\":[{\"round\":1,\"action\":\"a\",\"goal\":\"00000000-0000-000" ++
    codes "0-0000-000000000001\",\"value\":5},{\"round\":2,\"action\":\"a\",\"cancel\":\"00000000-0000-0000-0000-0000000000" ++
    codes "01\",\"stamp\":0}]}" ++ 10 ∷
    []

abbrev pub cancel_that_is_rejected_transcript : List ℕ
cancel_that_is_rejected_transcript =
    codes "round 1 10" ++ 10 ∷
    codes "run a goal 5 0 00000000-0000-0000-0000-000000000001" ++ 10 ∷
    codes "decide a 00000000-0000-0000-0000-000000000001 3" ++ 10 ∷
    codes "state a 00000000-0000-0000-0000-000000000001 1" ++ 10 ∷
    codes "round 2 20" ++ 10 ∷
    codes "run a cancel 0 1 00000000-0000-0000-0000-000000000001" ++ 10 ∷
    codes "code a 1 0" ++ 10 ∷
    codes "end 2" ++ 10 ∷
    []

-- cases/run/cancel_that_meets_a_success.json
abbrev pub cancel_that_meets_a_success_document : List ℕ
cancel_that_meets_a_success_document =
    codes "{\"version\":1,\"nodes\":[{\"name\":\"n\",\"timers\":[{\"name\":\"t\",\"period\":10,\"script\":[[\"goal\",\"ac\",5]]}],\"ac" ++
    codes "tions\":[{\"name\":\"a\",\"on_goal\":[[\"decide\",2]],\"on_cancel\":[[\"decide\",2]],\"script\":[[\"succeed\",9]]}],\"" ++
    codes "action_clients\":[{\"name\":\"ac\",\"action\":\"a\",\"on_result\":[[\"log\",\"in\"]]}]}],\"moments\":[10,11,12,13,14]" ++
    codes ",\"feed\":[{\"round\":3,\"action\":\"a\",\"cancel\":\"00000000-0000-0001-0000-000000000001\",\"stamp\":0}]}" ++ 10 ∷
    []

abbrev pub cancel_that_meets_a_success_transcript : List ℕ
cancel_that_meets_a_success_transcript =
    codes "round 1 10" ++ 10 ∷
    codes "run t timer 10 0" ++ 10 ∷
    codes "goal ac 00000000-0000-0001-0000-000000000001 5" ++ 10 ∷
    codes "round 2 11" ++ 10 ∷
    codes "run a goal 5 0 00000000-0000-0001-0000-000000000001" ++ 10 ∷
    codes "decide a 00000000-0000-0001-0000-000000000001 2" ++ 10 ∷
    codes "state a 00000000-0000-0001-0000-000000000001 1" ++ 10 ∷
    codes "state a 00000000-0000-0001-0000-000000000001 2" ++ 10 ∷
    codes "round 3 12" ++ 10 ∷
    codes "run a cancel 0 1 00000000-0000-0001-0000-000000000001" ++ 10 ∷
    codes "state a 00000000-0000-0001-0000-000000000001 3" ++ 10 ∷
    codes "code a 0 1" ++ 10 ∷
    codes "run a poll 5 0 00000000-0000-0001-0000-000000000001" ++ 10 ∷
    codes "state a 00000000-0000-0001-0000-000000000001 4" ++ 10 ∷
    codes "run ac response 1 1 00000000-0000-0001-0000-000000000001" ++ 10 ∷
    codes "ask ac 00000000-0000-0001-0000-000000000001" ++ 10 ∷
    codes "round 4 13" ++ 10 ∷
    codes "run a ask 0 0 00000000-0000-0001-0000-000000000001" ++ 10 ∷
    codes "result a 00000000-0000-0001-0000-000000000001 4 9" ++ 10 ∷
    codes "round 5 14" ++ 10 ∷
    codes "run ac result 9 4 00000000-0000-0001-0000-000000000001" ++ 10 ∷
    codes "log ac 9" ++ 10 ∷
    codes "end 5" ++ 10 ∷
    []

-- cases/run/cancel_up_to_a_stamp.json
abbrev pub cancel_up_to_a_stamp_document : List ℕ
cancel_up_to_a_stamp_document =
    codes "{\"version\":1,\"nodes\":[{\"name\":\"n\",\"actions\":[{\"name\":\"a\",\"on_goal\":[[\"decide\",3]],\"on_cancel\":[[\"dec" ++
    codes "ide\",2]],\"script\":[[\"yield\"]]}]}],\"moments\":[10,20,30,40],\"feed\":[{\"round\":1,\"action\":\"a\",\"goal\":\"00" ++
    codes "000000-0000-0000-0000-000000000001\",\"value\":5},{\"round\":2,\"action\":\"a\",\"goal\":\"00000000-0000-0000-00" ++
    codes "00-000000000002\",\"value\":5},{\"round\":3,\"action\":\"a\",\"goal\":\"00000000-0000-0000-0000-000000000003\",\"v" ++
    codes "alue\":5},{\"round\":4,\"action\":\"a\",\"cancel\":\"00000000-0000-0000-0000-000000000000\",\"stamp\":20}]}" ++ 10 ∷
    []

abbrev pub cancel_up_to_a_stamp_transcript : List ℕ
cancel_up_to_a_stamp_transcript =
    codes "round 1 10" ++ 10 ∷
    codes "run a goal 5 0 00000000-0000-0000-0000-000000000001" ++ 10 ∷
    codes "decide a 00000000-0000-0000-0000-000000000001 3" ++ 10 ∷
    codes "state a 00000000-0000-0000-0000-000000000001 1" ++ 10 ∷
    codes "round 2 20" ++ 10 ∷
    codes "run a goal 5 0 00000000-0000-0000-0000-000000000002" ++ 10 ∷
    codes "decide a 00000000-0000-0000-0000-000000000002 3" ++ 10 ∷
    codes "state a 00000000-0000-0000-0000-000000000002 1" ++ 10 ∷
    codes "round 3 30" ++ 10 ∷
    codes "run a goal 5 0 00000000-0000-0000-0000-000000000003" ++ 10 ∷
    codes "decide a 00000000-0000-0000-0000-000000000003 3" ++ 10 ∷
    codes "state a 00000000-0000-0000-0000-000000000003 1" ++ 10 ∷
    codes "round 4 40" ++ 10 ∷
    codes "run a cancel 20 2 00000000-0000-0000-0000-000000000000" ++ 10 ∷
    codes "state a 00000000-0000-0000-0000-000000000001 3" ++ 10 ∷
    codes "state a 00000000-0000-0000-0000-000000000002 3" ++ 10 ∷
    codes "code a 0 2" ++ 10 ∷
    codes "end 4" ++ 10 ∷
    []

-- cases/run/cancel_up_to_a_stamp_that_is_rejected.json
abbrev pub cancel_up_to_a_stamp_that_is_rejected_document : List ℕ
cancel_up_to_a_stamp_that_is_rejected_document =
    codes "{\"version\":1,\"nodes\":[{\"name\":\"n\",\"actions\":[{\"name\":\"a\",\"on_goal\":[[\"decide\",3]],\"on_cancel\":[[\"dec" ++
    codes "ide\",1]],\"script\":[]}]}],\"moments\":[10,20],\"feed\":[{\"round\":1,\"action\":\"a\",\"goal\":\"00000000-0000-000" ++
    codes "0-0000-000000000001\",\"value\":5},{\"round\":2,\"action\":\"a\",\"cancel\":\"00000000-0000-0000-0000-0000000000" ++
    codes "09\",\"stamp\":20}]}" ++ 10 ∷
    []

abbrev pub cancel_up_to_a_stamp_that_is_rejected_transcript : List ℕ
cancel_up_to_a_stamp_that_is_rejected_transcript =
    codes "round 1 10" ++ 10 ∷
    codes "run a goal 5 0 00000000-0000-0000-0000-000000000001" ++ 10 ∷
    codes "decide a 00000000-0000-0000-0000-000000000001 3" ++ 10 ∷
    codes "state a 00000000-0000-0000-0000-000000000001 1" ++ 10 ∷
    codes "round 2 20" ++ 10 ∷
    codes "run a cancel 20 1 00000000-0000-0000-0000-000000000009" ++ 10 ∷
    codes "code a 1 0" ++ 10 ∷
    codes "end 2" ++ 10 ∷
    []

-- cases/run/canceled_that_nobody_asked_for.json
abbrev pub canceled_that_nobody_asked_for_document : List ℕ
canceled_that_nobody_asked_for_document =
    codes "{\"version\":1,\"nodes\":[{\"name\":\"n\",\"actions\":[{\"name\":\"a\",\"on_goal\":[[\"decide\",2]],\"on_cancel\":[[\"dec" ++
    codes "ide\",2]],\"script\":[[\"canceled\",7]]}]}],\"moments\":[10,20],\"feed\":[{\"round\":1,\"action\":\"a\",\"goal\":\"000" ++
    codes "00000-0000-0000-0000-000000000001\",\"value\":5}]}" ++ 10 ∷
    []

abbrev pub canceled_that_nobody_asked_for_transcript : List ℕ
canceled_that_nobody_asked_for_transcript =
    codes "round 1 10" ++ 10 ∷
    codes "run a goal 5 0 00000000-0000-0000-0000-000000000001" ++ 10 ∷
    codes "decide a 00000000-0000-0000-0000-000000000001 2" ++ 10 ∷
    codes "state a 00000000-0000-0000-0000-000000000001 1" ++ 10 ∷
    codes "state a 00000000-0000-0000-0000-000000000001 2" ++ 10 ∷
    codes "round 2 20" ++ 10 ∷
    codes "run a poll 5 0 00000000-0000-0000-0000-000000000001" ++ 10 ∷
    codes "state a 00000000-0000-0000-0000-000000000001 6" ++ 10 ∷
    codes "end 2" ++ 10 ∷
    []

-- cases/run/client.json
abbrev pub client_document : List ℕ
client_document =
    codes "{\"version\":1,\"nodes\":[{\"name\":\"n\",\"services\":[{\"name\":\"s\"}],\"clients\":[{\"name\":\"c\",\"service\":\"s\"}]}]" ++
    codes "}" ++
    []

abbrev pub client_transcript : List ℕ
client_transcript =
    codes "end 0" ++ 10 ∷
    []

-- cases/run/client_that_cancels_its_goals.json
abbrev pub client_that_cancels_its_goals_document : List ℕ
client_that_cancels_its_goals_document =
    codes "{\"version\":1,\"nodes\":[{\"name\":\"n\",\"timers\":[{\"name\":\"t\",\"period\":10,\"script\":[[\"goal\",\"ac\",5]]}],\"ac" ++
    codes "tions\":[{\"name\":\"a\",\"on_goal\":[[\"decide\",3]],\"on_cancel\":[[\"decide\",2]],\"script\":[[\"yield\"]]}],\"acti" ++
    codes "on_clients\":[{\"name\":\"ac\",\"action\":\"a\",\"on_response\":[[\"cancel\",\"ac\",\"all\"]],\"on_code\":[[\"log\",\"aux\"" ++
    codes "]]}]}],\"moments\":[10,11,12,13,14],\"feed\":[]}" ++ 10 ∷
    []

abbrev pub client_that_cancels_its_goals_transcript : List ℕ
client_that_cancels_its_goals_transcript =
    codes "round 1 10" ++ 10 ∷
    codes "run t timer 10 0" ++ 10 ∷
    codes "goal ac 00000000-0000-0001-0000-000000000001 5" ++ 10 ∷
    codes "round 2 11" ++ 10 ∷
    codes "run a goal 5 0 00000000-0000-0001-0000-000000000001" ++ 10 ∷
    codes "decide a 00000000-0000-0001-0000-000000000001 3" ++ 10 ∷
    codes "state a 00000000-0000-0001-0000-000000000001 1" ++ 10 ∷
    codes "round 3 12" ++ 10 ∷
    codes "run ac response 1 1 00000000-0000-0001-0000-000000000001" ++ 10 ∷
    codes "cancel ac 00000000-0000-0000-0000-000000000000 0" ++ 10 ∷
    codes "round 4 13" ++ 10 ∷
    codes "run a cancel 0 1 00000000-0000-0000-0000-000000000000" ++ 10 ∷
    codes "state a 00000000-0000-0001-0000-000000000001 3" ++ 10 ∷
    codes "code a 0 1" ++ 10 ∷
    codes "round 5 14" ++ 10 ∷
    codes "run a poll 5 1 00000000-0000-0001-0000-000000000001" ++ 10 ∷
    codes "run ac code 0 1" ++ 10 ∷
    codes "log ac 1" ++ 10 ∷
    codes "end 5" ++ 10 ∷
    []

-- cases/run/deferred_goal_that_is_executed.json
abbrev pub deferred_goal_that_is_executed_document : List ℕ
deferred_goal_that_is_executed_document =
    codes "{\"version\":1,\"nodes\":[{\"name\":\"n\",\"actions\":[{\"name\":\"a\",\"on_goal\":[[\"decide\",3]],\"on_cancel\":[[\"dec" ++
    codes "ide\",2]],\"script\":[[\"succeed\",1]]}],\"timers\":[{\"name\":\"e\",\"period\":20,\"script\":[[\"execute\",\"a\"]]}]}]" ++
    codes ",\"moments\":[10,20,30],\"feed\":[{\"round\":1,\"action\":\"a\",\"goal\":\"00000000-0000-0000-0000-000000000001\"," ++
    codes "\"value\":5}]}" ++ 10 ∷
    []

abbrev pub deferred_goal_that_is_executed_transcript : List ℕ
deferred_goal_that_is_executed_transcript =
    codes "round 1 10" ++ 10 ∷
    codes "run a goal 5 0 00000000-0000-0000-0000-000000000001" ++ 10 ∷
    codes "decide a 00000000-0000-0000-0000-000000000001 3" ++ 10 ∷
    codes "state a 00000000-0000-0000-0000-000000000001 1" ++ 10 ∷
    codes "round 2 20" ++ 10 ∷
    codes "run e timer 20 0" ++ 10 ∷
    codes "state a 00000000-0000-0000-0000-000000000001 2" ++ 10 ∷
    codes "round 3 30" ++ 10 ∷
    codes "run a poll 5 0 00000000-0000-0000-0000-000000000001" ++ 10 ∷
    codes "state a 00000000-0000-0000-0000-000000000001 4" ++ 10 ∷
    codes "end 3" ++ 10 ∷
    []

-- cases/run/eleven_messages_without_a_depth.json
abbrev pub eleven_messages_without_a_depth_document : List ℕ
eleven_messages_without_a_depth_document =
    codes "{\"version\":1,\"topics\":[\"x\"],\"nodes\":[{\"name\":\"n\",\"timers\":[{\"name\":\"t\",\"period\":10,\"script\":[[\"pub\"," ++
    codes "\"x\",1],[\"pub\",\"x\",2],[\"pub\",\"x\",3],[\"pub\",\"x\",4],[\"pub\",\"x\",5],[\"pub\",\"x\",6],[\"pub\",\"x\",7],[\"pub\",\"x" ++
    codes "\",8],[\"pub\",\"x\",9],[\"pub\",\"x\",10],[\"pub\",\"x\",11]]}],\"subscriptions\":[{\"name\":\"s\",\"topic\":\"x\",\"script" ++
    codes "\":[[\"log\",\"in\"]]}]}],\"moments\":[10,11]}" ++ 10 ∷
    []

abbrev pub eleven_messages_without_a_depth_transcript : List ℕ
eleven_messages_without_a_depth_transcript =
    codes "round 1 10" ++ 10 ∷
    codes "run t timer 10 0" ++ 10 ∷
    codes "pub x 1" ++ 10 ∷
    codes "pub x 2" ++ 10 ∷
    codes "pub x 3" ++ 10 ∷
    codes "pub x 4" ++ 10 ∷
    codes "pub x 5" ++ 10 ∷
    codes "pub x 6" ++ 10 ∷
    codes "pub x 7" ++ 10 ∷
    codes "pub x 8" ++ 10 ∷
    codes "pub x 9" ++ 10 ∷
    codes "pub x 10" ++ 10 ∷
    codes "pub x 11" ++ 10 ∷
    codes "drop s message 1" ++ 10 ∷
    codes "round 2 11" ++ 10 ∷
    codes "run s message 2 0" ++ 10 ∷
    codes "log s 2" ++ 10 ∷
    codes "end 2" ++ 10 ∷
    []

-- cases/run/expiry_before_what_is_fed.json
abbrev pub expiry_before_what_is_fed_document : List ℕ
expiry_before_what_is_fed_document =
    codes "{\"version\":1,\"topics\":[\"x\"],\"nodes\":[{\"name\":\"n\",\"subscriptions\":[{\"name\":\"s\",\"topic\":\"x\",\"depth\":1}" ++
    codes "],\"actions\":[{\"name\":\"a\",\"result_timeout\":5,\"on_goal\":[[\"decide\",2]],\"script\":[[\"succeed\",\"in\"]]}]}]" ++
    codes ",\"moments\":[0,1,6],\"feed\":[{\"round\":1,\"goal\":\"00000000-0000-0000-0000-000000000001\",\"action\":\"a\",\"va" ++
    codes "lue\":3},{\"round\":3,\"topic\":\"x\",\"value\":1},{\"round\":3,\"topic\":\"x\",\"value\":2}]}" ++ 10 ∷
    []

abbrev pub expiry_before_what_is_fed_transcript : List ℕ
expiry_before_what_is_fed_transcript =
    codes "round 1 0" ++ 10 ∷
    codes "run a goal 3 0 00000000-0000-0000-0000-000000000001" ++ 10 ∷
    codes "decide a 00000000-0000-0000-0000-000000000001 2" ++ 10 ∷
    codes "state a 00000000-0000-0000-0000-000000000001 1" ++ 10 ∷
    codes "state a 00000000-0000-0000-0000-000000000001 2" ++ 10 ∷
    codes "round 2 1" ++ 10 ∷
    codes "run a poll 3 0 00000000-0000-0000-0000-000000000001" ++ 10 ∷
    codes "state a 00000000-0000-0000-0000-000000000001 4" ++ 10 ∷
    codes "round 3 6" ++ 10 ∷
    codes "expire a 00000000-0000-0000-0000-000000000001" ++ 10 ∷
    codes "drop s message 1" ++ 10 ∷
    codes "run s message 2 0" ++ 10 ∷
    codes "end 3" ++ 10 ∷
    []

-- cases/run/feedback_and_a_result.json
abbrev pub feedback_and_a_result_document : List ℕ
feedback_and_a_result_document =
    codes "{\"version\":1,\"nodes\":[{\"name\":\"n\",\"timers\":[{\"name\":\"t\",\"period\":10,\"script\":[[\"goal\",\"ac\",5]]}],\"ac" ++
    codes "tions\":[{\"name\":\"a\",\"on_goal\":[[\"decide\",2]],\"on_cancel\":[[\"decide\",2]],\"script\":[[\"feedback\",3],[\"s" ++
    codes "ucceed\",9]]}],\"action_clients\":[{\"name\":\"ac\",\"action\":\"a\",\"on_feedback\":[[\"log\",\"in\"]],\"on_result\":[" ++
    codes "]}]}],\"moments\":[10,11,12,13,14],\"feed\":[]}" ++ 10 ∷
    []

abbrev pub feedback_and_a_result_transcript : List ℕ
feedback_and_a_result_transcript =
    codes "round 1 10" ++ 10 ∷
    codes "run t timer 10 0" ++ 10 ∷
    codes "goal ac 00000000-0000-0001-0000-000000000001 5" ++ 10 ∷
    codes "round 2 11" ++ 10 ∷
    codes "run a goal 5 0 00000000-0000-0001-0000-000000000001" ++ 10 ∷
    codes "decide a 00000000-0000-0001-0000-000000000001 2" ++ 10 ∷
    codes "state a 00000000-0000-0001-0000-000000000001 1" ++ 10 ∷
    codes "state a 00000000-0000-0001-0000-000000000001 2" ++ 10 ∷
    codes "round 3 12" ++ 10 ∷
    codes "run a poll 5 0 00000000-0000-0001-0000-000000000001" ++ 10 ∷
    codes "feedback a 00000000-0000-0001-0000-000000000001 3" ++ 10 ∷
    codes "state a 00000000-0000-0001-0000-000000000001 4" ++ 10 ∷
    codes "run ac response 1 1 00000000-0000-0001-0000-000000000001" ++ 10 ∷
    codes "ask ac 00000000-0000-0001-0000-000000000001" ++ 10 ∷
    codes "round 4 13" ++ 10 ∷
    codes "run a ask 0 0 00000000-0000-0001-0000-000000000001" ++ 10 ∷
    codes "result a 00000000-0000-0001-0000-000000000001 4 9" ++ 10 ∷
    codes "run ac feedback 3 1 00000000-0000-0001-0000-000000000001" ++ 10 ∷
    codes "log ac 3" ++ 10 ∷
    codes "round 5 14" ++ 10 ∷
    codes "run ac result 9 4 00000000-0000-0001-0000-000000000001" ++ 10 ∷
    codes "end 5" ++ 10 ∷
    []

-- cases/run/feedback_beyond_a_depth_of_1.json
abbrev pub feedback_beyond_a_depth_of_1_document : List ℕ
feedback_beyond_a_depth_of_1_document =
    codes "{\"version\":1,\"nodes\":[{\"name\":\"n\",\"timers\":[{\"name\":\"t\",\"period\":9,\"script\":[[\"goal\",\"k1\",1],[\"goal\"" ++
    codes ",\"k1\",2],[\"goal\",\"k2\",3]]}],\"actions\":[{\"name\":\"a\",\"on_goal\":[[\"decide\",2]],\"on_cancel\":[[\"decide\",2" ++
    codes "]],\"script\":[[\"feedback\",\"in\"],[\"feedback\",\"now\"],[\"yield\"],[\"feedback\",3],[\"succeed\",\"in\"]]}],\"acti" ++
    codes "on_clients\":[{\"name\":\"k1\",\"action\":\"a\",\"depth\":1,\"on_feedback\":[[\"log\",\"aux\"]]},{\"name\":\"k2\",\"action" ++
    codes "\":\"a\",\"depth\":1,\"on_feedback\":[[\"log\",\"in\"]]}]}],\"moments\":[9,10,11,12,13,14]}" ++ 10 ∷
    []

abbrev pub feedback_beyond_a_depth_of_1_transcript : List ℕ
feedback_beyond_a_depth_of_1_transcript =
    codes "round 1 9" ++ 10 ∷
    codes "run t timer 9 0" ++ 10 ∷
    codes "goal k1 00000000-0000-0001-0000-000000000001 1" ++ 10 ∷
    codes "goal k1 00000000-0000-0001-0000-000000000002 2" ++ 10 ∷
    codes "goal k2 00000000-0000-0002-0000-000000000001 3" ++ 10 ∷
    codes "round 2 10" ++ 10 ∷
    codes "run a goal 1 0 00000000-0000-0001-0000-000000000001" ++ 10 ∷
    codes "decide a 00000000-0000-0001-0000-000000000001 2" ++ 10 ∷
    codes "state a 00000000-0000-0001-0000-000000000001 1" ++ 10 ∷
    codes "state a 00000000-0000-0001-0000-000000000001 2" ++ 10 ∷
    codes "round 3 11" ++ 10 ∷
    codes "run a goal 2 0 00000000-0000-0001-0000-000000000002" ++ 10 ∷
    codes "decide a 00000000-0000-0001-0000-000000000002 2" ++ 10 ∷
    codes "state a 00000000-0000-0001-0000-000000000002 1" ++ 10 ∷
    codes "state a 00000000-0000-0001-0000-000000000002 2" ++ 10 ∷
    codes "run a poll 1 0 00000000-0000-0001-0000-000000000001" ++ 10 ∷
    codes "feedback a 00000000-0000-0001-0000-000000000001 1" ++ 10 ∷
    codes "feedback a 00000000-0000-0001-0000-000000000001 11" ++ 10 ∷
    codes "drop k1 feedback 1" ++ 10 ∷
    codes "run k1 response 1 1 00000000-0000-0001-0000-000000000001" ++ 10 ∷
    codes "round 4 12" ++ 10 ∷
    codes "run a goal 3 0 00000000-0000-0002-0000-000000000001" ++ 10 ∷
    codes "decide a 00000000-0000-0002-0000-000000000001 2" ++ 10 ∷
    codes "state a 00000000-0000-0002-0000-000000000001 1" ++ 10 ∷
    codes "state a 00000000-0000-0002-0000-000000000001 2" ++ 10 ∷
    codes "run a poll 1 0 00000000-0000-0001-0000-000000000001" ++ 10 ∷
    codes "feedback a 00000000-0000-0001-0000-000000000001 3" ++ 10 ∷
    codes "state a 00000000-0000-0001-0000-000000000001 4" ++ 10 ∷
    codes "run a poll 2 0 00000000-0000-0001-0000-000000000002" ++ 10 ∷
    codes "feedback a 00000000-0000-0001-0000-000000000002 2" ++ 10 ∷
    codes "drop k1 feedback 3" ++ 10 ∷
    codes "feedback a 00000000-0000-0001-0000-000000000002 12" ++ 10 ∷
    codes "drop k1 feedback 2" ++ 10 ∷
    codes "run k1 response 1 2 00000000-0000-0001-0000-000000000002" ++ 10 ∷
    codes "run k1 feedback 11 1 00000000-0000-0001-0000-000000000001" ++ 10 ∷
    codes "log k1 1" ++ 10 ∷
    codes "round 5 13" ++ 10 ∷
    codes "run a poll 2 0 00000000-0000-0001-0000-000000000002" ++ 10 ∷
    codes "feedback a 00000000-0000-0001-0000-000000000002 3" ++ 10 ∷
    codes "state a 00000000-0000-0001-0000-000000000002 4" ++ 10 ∷
    codes "run a poll 3 0 00000000-0000-0002-0000-000000000001" ++ 10 ∷
    codes "feedback a 00000000-0000-0002-0000-000000000001 3" ++ 10 ∷
    codes "feedback a 00000000-0000-0002-0000-000000000001 13" ++ 10 ∷
    codes "drop k2 feedback 3" ++ 10 ∷
    codes "run k2 response 1 1 00000000-0000-0002-0000-000000000001" ++ 10 ∷
    codes "run k1 feedback 12 2 00000000-0000-0001-0000-000000000002" ++ 10 ∷
    codes "log k1 2" ++ 10 ∷
    codes "round 6 14" ++ 10 ∷
    codes "run a poll 3 0 00000000-0000-0002-0000-000000000001" ++ 10 ∷
    codes "feedback a 00000000-0000-0002-0000-000000000001 3" ++ 10 ∷
    codes "state a 00000000-0000-0002-0000-000000000001 4" ++ 10 ∷
    codes "run k1 feedback 3 2 00000000-0000-0001-0000-000000000002" ++ 10 ∷
    codes "log k1 2" ++ 10 ∷
    codes "run k2 feedback 13 1 00000000-0000-0002-0000-000000000001" ++ 10 ∷
    codes "log k2 13" ++ 10 ∷
    codes "end 6" ++ 10 ∷
    []

-- cases/run/four_groups_of_two_timers.json
abbrev pub four_groups_of_two_timers_document : List ℕ
four_groups_of_two_timers_document =
    codes "{\"version\":1,\"nodes\":[{\"name\":\"n\",\"groups\":[{\"name\":\"g1\",\"kind\":\"exclusive\"},{\"name\":\"g2\",\"kind\":\"ex" ++
    codes "clusive\"},{\"name\":\"g3\",\"kind\":\"exclusive\"},{\"name\":\"g4\",\"kind\":\"exclusive\"}],\"timers\":[{\"name\":\"t1\"," ++
    codes "\"period\":1,\"group\":\"g1\",\"script\":[[\"log\",\"now\"]]},{\"name\":\"t2\",\"period\":1,\"group\":\"g2\",\"script\":[[\"l" ++
    codes "og\",\"now\"]]},{\"name\":\"t3\",\"period\":1,\"group\":\"g3\",\"script\":[[\"log\",\"now\"]]},{\"name\":\"t4\",\"period\":1," ++
    codes "\"group\":\"g4\",\"script\":[[\"log\",\"now\"]]},{\"name\":\"t5\",\"period\":1,\"group\":\"g1\",\"script\":[[\"log\",\"now\"]]" ++
    codes "},{\"name\":\"t6\",\"period\":1,\"group\":\"g2\",\"script\":[[\"log\",\"now\"]]},{\"name\":\"t7\",\"period\":1,\"group\":\"g3" ++
    codes "\",\"script\":[[\"log\",\"now\"]]},{\"name\":\"t8\",\"period\":1,\"group\":\"g4\",\"script\":[[\"log\",\"now\"]]}]}],\"momen" ++
    codes "ts\":[1]}" ++ 10 ∷
    []

abbrev pub four_groups_of_two_timers_transcript : List ℕ
four_groups_of_two_timers_transcript =
    codes "round 1 1" ++ 10 ∷
    codes "run t1 timer 1 0" ++ 10 ∷
    codes "log t1 1" ++ 10 ∷
    codes "run t2 timer 1 0" ++ 10 ∷
    codes "log t2 1" ++ 10 ∷
    codes "run t3 timer 1 0" ++ 10 ∷
    codes "log t3 1" ++ 10 ∷
    codes "run t4 timer 1 0" ++ 10 ∷
    codes "log t4 1" ++ 10 ∷
    codes "run t5 timer 1 0" ++ 10 ∷
    codes "log t5 1" ++ 10 ∷
    codes "run t6 timer 1 0" ++ 10 ∷
    codes "log t6 1" ++ 10 ∷
    codes "run t7 timer 1 0" ++ 10 ∷
    codes "log t7 1" ++ 10 ∷
    codes "run t8 timer 1 0" ++ 10 ∷
    codes "log t8 1" ++ 10 ∷
    codes "end 1" ++ 10 ∷
    []

-- cases/run/goal_requests_beyond_a_depth_of_1.json
abbrev pub goal_requests_beyond_a_depth_of_1_document : List ℕ
goal_requests_beyond_a_depth_of_1_document =
    codes "{\"version\":1,\"nodes\":[{\"name\":\"n\",\"timers\":[{\"name\":\"t\",\"period\":1,\"script\":[[\"goal\",\"k1\",1],[\"goal\"" ++
    codes ",\"k2\",2],[\"goal\",\"k1\",3]]}],\"actions\":[{\"name\":\"a\",\"depth\":1,\"on_goal\":[[\"decide\",2]],\"on_cancel\":[[" ++
    codes "\"decide\",2]],\"script\":[[\"yield\"]]}],\"action_clients\":[{\"name\":\"k1\",\"action\":\"a\",\"depth\":1,\"on_respon" ++
    codes "se\":[[\"log\",\"aux\"]]},{\"name\":\"k2\",\"action\":\"a\",\"depth\":1,\"on_response\":[[\"log\",\"in\"]]}]}],\"moments\":" ++
    codes "[0,1,1,2,2,3]}" ++ 10 ∷
    []

abbrev pub goal_requests_beyond_a_depth_of_1_transcript : List ℕ
goal_requests_beyond_a_depth_of_1_transcript =
    codes "round 1 0" ++ 10 ∷
    codes "round 2 1" ++ 10 ∷
    codes "run t timer 1 0" ++ 10 ∷
    codes "goal k1 00000000-0000-0001-0000-000000000001 1" ++ 10 ∷
    codes "goal k2 00000000-0000-0002-0000-000000000001 2" ++ 10 ∷
    codes "drop a goal 1" ++ 10 ∷
    codes "goal k1 00000000-0000-0001-0000-000000000002 3" ++ 10 ∷
    codes "drop a goal 2" ++ 10 ∷
    codes "round 3 1" ++ 10 ∷
    codes "run a goal 3 0 00000000-0000-0001-0000-000000000002" ++ 10 ∷
    codes "decide a 00000000-0000-0001-0000-000000000002 2" ++ 10 ∷
    codes "state a 00000000-0000-0001-0000-000000000002 1" ++ 10 ∷
    codes "state a 00000000-0000-0001-0000-000000000002 2" ++ 10 ∷
    codes "round 4 2" ++ 10 ∷
    codes "run t timer 2 0" ++ 10 ∷
    codes "goal k1 00000000-0000-0001-0000-000000000003 1" ++ 10 ∷
    codes "goal k2 00000000-0000-0002-0000-000000000002 2" ++ 10 ∷
    codes "drop a goal 1" ++ 10 ∷
    codes "goal k1 00000000-0000-0001-0000-000000000004 3" ++ 10 ∷
    codes "drop a goal 2" ++ 10 ∷
    codes "run a poll 3 0 00000000-0000-0001-0000-000000000002" ++ 10 ∷
    codes "run k1 response 1 2 00000000-0000-0001-0000-000000000002" ++ 10 ∷
    codes "log k1 2" ++ 10 ∷
    codes "round 5 2" ++ 10 ∷
    codes "run a goal 3 0 00000000-0000-0001-0000-000000000004" ++ 10 ∷
    codes "decide a 00000000-0000-0001-0000-000000000004 2" ++ 10 ∷
    codes "state a 00000000-0000-0001-0000-000000000004 1" ++ 10 ∷
    codes "state a 00000000-0000-0001-0000-000000000004 2" ++ 10 ∷
    codes "run a poll 3 0 00000000-0000-0001-0000-000000000002" ++ 10 ∷
    codes "round 6 3" ++ 10 ∷
    codes "run t timer 3 0" ++ 10 ∷
    codes "goal k1 00000000-0000-0001-0000-000000000005 1" ++ 10 ∷
    codes "goal k2 00000000-0000-0002-0000-000000000003 2" ++ 10 ∷
    codes "drop a goal 1" ++ 10 ∷
    codes "goal k1 00000000-0000-0001-0000-000000000006 3" ++ 10 ∷
    codes "drop a goal 2" ++ 10 ∷
    codes "run a poll 3 0 00000000-0000-0001-0000-000000000002" ++ 10 ∷
    codes "run a poll 3 0 00000000-0000-0001-0000-000000000004" ++ 10 ∷
    codes "run k1 response 1 4 00000000-0000-0001-0000-000000000004" ++ 10 ∷
    codes "log k1 4" ++ 10 ∷
    codes "end 6" ++ 10 ∷
    []

-- cases/run/goal_that_ends_as_canceled.json
abbrev pub goal_that_ends_as_canceled_document : List ℕ
goal_that_ends_as_canceled_document =
    codes "{\"version\":1,\"nodes\":[{\"name\":\"n\",\"actions\":[{\"name\":\"a\",\"on_goal\":[[\"decide\",3]],\"on_cancel\":[[\"dec" ++
    codes "ide\",2]],\"script\":[[\"skip\",\"aux\",1],[\"yield\"],[\"canceled\",\"in\"]]}]}],\"moments\":[10,20,30],\"feed\":[{\"" ++
    codes "round\":1,\"action\":\"a\",\"goal\":\"00000000-0000-0000-0000-000000000001\",\"value\":5},{\"round\":2,\"action\":\"" ++
    codes "a\",\"cancel\":\"00000000-0000-0000-0000-000000000001\",\"stamp\":0}]}" ++ 10 ∷
    []

abbrev pub goal_that_ends_as_canceled_transcript : List ℕ
goal_that_ends_as_canceled_transcript =
    codes "round 1 10" ++ 10 ∷
    codes "run a goal 5 0 00000000-0000-0000-0000-000000000001" ++ 10 ∷
    codes "decide a 00000000-0000-0000-0000-000000000001 3" ++ 10 ∷
    codes "state a 00000000-0000-0000-0000-000000000001 1" ++ 10 ∷
    codes "round 2 20" ++ 10 ∷
    codes "run a cancel 0 1 00000000-0000-0000-0000-000000000001" ++ 10 ∷
    codes "state a 00000000-0000-0000-0000-000000000001 3" ++ 10 ∷
    codes "code a 0 1" ++ 10 ∷
    codes "round 3 30" ++ 10 ∷
    codes "run a poll 5 1 00000000-0000-0000-0000-000000000001" ++ 10 ∷
    codes "state a 00000000-0000-0000-0000-000000000001 5" ++ 10 ∷
    codes "end 3" ++ 10 ∷
    []

-- cases/run/goal_that_its_handler_rejects.json
abbrev pub goal_that_its_handler_rejects_document : List ℕ
goal_that_its_handler_rejects_document =
    codes "{\"version\":1,\"nodes\":[{\"name\":\"n\",\"timers\":[{\"name\":\"t\",\"period\":10,\"script\":[[\"goal\",\"c\",7]]}],\"act" ++
    codes "ions\":[{\"name\":\"a\",\"on_goal\":[[\"decide\",1]]}],\"action_clients\":[{\"name\":\"c\",\"action\":\"a\",\"on_respons" ++
    codes "e\":[[\"log\",\"in\"]],\"on_result\":[[\"log\",\"in\"]]}]}],\"moments\":[10,11,12]}" ++ 10 ∷
    []

abbrev pub goal_that_its_handler_rejects_transcript : List ℕ
goal_that_its_handler_rejects_transcript =
    codes "round 1 10" ++ 10 ∷
    codes "run t timer 10 0" ++ 10 ∷
    codes "goal c 00000000-0000-0001-0000-000000000001 7" ++ 10 ∷
    codes "round 2 11" ++ 10 ∷
    codes "run a goal 7 0 00000000-0000-0001-0000-000000000001" ++ 10 ∷
    codes "decide a 00000000-0000-0001-0000-000000000001 1" ++ 10 ∷
    codes "round 3 12" ++ 10 ∷
    codes "run c response 0 1 00000000-0000-0001-0000-000000000001" ++ 10 ∷
    codes "log c 0" ++ 10 ∷
    codes "end 3" ++ 10 ∷
    []

-- cases/run/goals_that_expire_together.json
abbrev pub goals_that_expire_together_document : List ℕ
goals_that_expire_together_document =
    codes "{\"version\":1,\"nodes\":[{\"name\":\"n\",\"actions\":[{\"name\":\"a\",\"result_timeout\":5,\"on_goal\":[[\"decide\",2]]" ++
    codes ",\"on_cancel\":[[\"decide\",2]],\"script\":[[\"wait\",\"in\"],[\"succeed\",\"in\"]]}]}],\"moments\":[1,2,3,5,6,20],\"" ++
    codes "feed\":[{\"round\":1,\"action\":\"a\",\"goal\":\"00000000-0000-0000-0000-000000000001\",\"value\":1},{\"round\":2,\"" ++
    codes "action\":\"a\",\"goal\":\"00000000-0000-0000-0000-000000000002\",\"value\":50},{\"round\":3,\"action\":\"a\",\"goal\"" ++
    codes ":\"00000000-0000-0000-0000-000000000003\",\"value\":1}]}" ++ 10 ∷
    []

abbrev pub goals_that_expire_together_transcript : List ℕ
goals_that_expire_together_transcript =
    codes "round 1 1" ++ 10 ∷
    codes "run a goal 1 0 00000000-0000-0000-0000-000000000001" ++ 10 ∷
    codes "decide a 00000000-0000-0000-0000-000000000001 2" ++ 10 ∷
    codes "state a 00000000-0000-0000-0000-000000000001 1" ++ 10 ∷
    codes "state a 00000000-0000-0000-0000-000000000001 2" ++ 10 ∷
    codes "round 2 2" ++ 10 ∷
    codes "run a goal 50 0 00000000-0000-0000-0000-000000000002" ++ 10 ∷
    codes "decide a 00000000-0000-0000-0000-000000000002 2" ++ 10 ∷
    codes "state a 00000000-0000-0000-0000-000000000002 1" ++ 10 ∷
    codes "state a 00000000-0000-0000-0000-000000000002 2" ++ 10 ∷
    codes "run a poll 1 0 00000000-0000-0000-0000-000000000001" ++ 10 ∷
    codes "round 3 3" ++ 10 ∷
    codes "run a goal 1 0 00000000-0000-0000-0000-000000000003" ++ 10 ∷
    codes "decide a 00000000-0000-0000-0000-000000000003 2" ++ 10 ∷
    codes "state a 00000000-0000-0000-0000-000000000003 1" ++ 10 ∷
    codes "state a 00000000-0000-0000-0000-000000000003 2" ++ 10 ∷
    codes "run a poll 1 0 00000000-0000-0000-0000-000000000001" ++ 10 ∷
    codes "state a 00000000-0000-0000-0000-000000000001 4" ++ 10 ∷
    codes "run a poll 50 0 00000000-0000-0000-0000-000000000002" ++ 10 ∷
    codes "round 4 5" ++ 10 ∷
    codes "run a poll 1 0 00000000-0000-0000-0000-000000000003" ++ 10 ∷
    codes "round 5 6" ++ 10 ∷
    codes "run a poll 1 0 00000000-0000-0000-0000-000000000003" ++ 10 ∷
    codes "state a 00000000-0000-0000-0000-000000000003 4" ++ 10 ∷
    codes "round 6 20" ++ 10 ∷
    codes "expire a 00000000-0000-0000-0000-000000000001" ++ 10 ∷
    codes "expire a 00000000-0000-0000-0000-000000000003" ++ 10 ∷
    codes "end 6" ++ 10 ∷
    []

-- cases/run/groups_of_both_kinds.json
abbrev pub groups_of_both_kinds_document : List ℕ
groups_of_both_kinds_document =
    codes "{\"version\":1,\"nodes\":[{\"name\":\"n\",\"groups\":[{\"name\":\"r\",\"kind\":\"reentrant\"},{\"name\":\"w\",\"kind\":\"excl" ++
    codes "usive\"}],\"timers\":[{\"name\":\"a\",\"period\":2,\"group\":\"r\",\"script\":[[\"set\",\"r0\",\"add\",\"r0\",3],[\"log\",\"r0" ++
    codes "\"]]},{\"name\":\"b\",\"period\":1,\"group\":\"w\",\"script\":[[\"set\",\"g7\",\"sub\",\"g7\",1],[\"log\",\"g7\"]]}]},{\"name\"" ++
    codes ":\"m\",\"groups\":[{\"name\":\"w\",\"kind\":\"exclusive\"}],\"timers\":[{\"name\":\"c\",\"period\":1,\"group\":\"w\",\"script" ++
    codes "\":[[\"set\",\"g7\",\"add\",\"g7\",\"now\"],[\"log\",\"g7\"]]},{\"name\":\"d\",\"period\":1,\"script\":[[\"log\",\"g7\"]]}]}],\"" ++
    codes "moments\":[1,2]}" ++
    []

abbrev pub groups_of_both_kinds_transcript : List ℕ
groups_of_both_kinds_transcript =
    codes "round 1 1" ++ 10 ∷
    codes "run b timer 1 0" ++ 10 ∷
    codes "log b -1" ++ 10 ∷
    codes "run c timer 1 0" ++ 10 ∷
    codes "log c 1" ++ 10 ∷
    codes "run d timer 1 0" ++ 10 ∷
    codes "log d 0" ++ 10 ∷
    codes "round 2 2" ++ 10 ∷
    codes "run a timer 2 0" ++ 10 ∷
    codes "log a 3" ++ 10 ∷
    codes "run b timer 2 0" ++ 10 ∷
    codes "log b -2" ++ 10 ∷
    codes "run c timer 2 0" ++ 10 ∷
    codes "log c 3" ++ 10 ∷
    codes "run d timer 2 0" ++ 10 ∷
    codes "log d 0" ++ 10 ∷
    codes "end 2" ++ 10 ∷
    []

-- cases/run/identifier_that_is_accepted_anew.json
abbrev pub identifier_that_is_accepted_anew_document : List ℕ
identifier_that_is_accepted_anew_document =
    codes "{\"version\":1,\"nodes\":[{\"name\":\"n\",\"actions\":[{\"name\":\"a\",\"result_timeout\":1,\"on_goal\":[[\"decide\",2]]" ++
    codes ",\"on_cancel\":[[\"decide\",2]],\"script\":[[\"succeed\",\"in\"]]}]}],\"moments\":[1,2,3,3,4,5],\"feed\":[{\"round\"" ++
    codes ":1,\"action\":\"a\",\"goal\":\"00000000-0000-0000-0000-000000000001\",\"value\":1},{\"round\":3,\"action\":\"a\",\"go" ++
    codes "al\":\"00000000-0000-0000-0000-000000000001\",\"value\":2},{\"round\":2,\"action\":\"a\",\"goal\":\"00000000-0000-" ++
    codes "0000-0000-000000000002\",\"value\":9},{\"round\":4,\"action\":\"a\",\"goal\":\"00000000-0000-0000-0000-000000000" ++
    codes "001\",\"value\":3},{\"round\":5,\"action\":\"a\",\"cancel\":\"00000000-0000-0000-0000-000000000001\"},{\"round\":6," ++
    codes "\"action\":\"a\",\"cancel\":\"00000000-0000-0000-0000-000000000001\"}]}" ++ 10 ∷
    []

abbrev pub identifier_that_is_accepted_anew_transcript : List ℕ
identifier_that_is_accepted_anew_transcript =
    codes "round 1 1" ++ 10 ∷
    codes "run a goal 1 0 00000000-0000-0000-0000-000000000001" ++ 10 ∷
    codes "decide a 00000000-0000-0000-0000-000000000001 2" ++ 10 ∷
    codes "state a 00000000-0000-0000-0000-000000000001 1" ++ 10 ∷
    codes "state a 00000000-0000-0000-0000-000000000001 2" ++ 10 ∷
    codes "round 2 2" ++ 10 ∷
    codes "run a goal 9 0 00000000-0000-0000-0000-000000000002" ++ 10 ∷
    codes "decide a 00000000-0000-0000-0000-000000000002 2" ++ 10 ∷
    codes "state a 00000000-0000-0000-0000-000000000002 1" ++ 10 ∷
    codes "state a 00000000-0000-0000-0000-000000000002 2" ++ 10 ∷
    codes "run a poll 1 0 00000000-0000-0000-0000-000000000001" ++ 10 ∷
    codes "state a 00000000-0000-0000-0000-000000000001 4" ++ 10 ∷
    codes "round 3 3" ++ 10 ∷
    codes "expire a 00000000-0000-0000-0000-000000000001" ++ 10 ∷
    codes "run a goal 2 0 00000000-0000-0000-0000-000000000001" ++ 10 ∷
    codes "decide a 00000000-0000-0000-0000-000000000001 2" ++ 10 ∷
    codes "state a 00000000-0000-0000-0000-000000000001 1" ++ 10 ∷
    codes "state a 00000000-0000-0000-0000-000000000001 2" ++ 10 ∷
    codes "run a poll 9 0 00000000-0000-0000-0000-000000000002" ++ 10 ∷
    codes "state a 00000000-0000-0000-0000-000000000002 4" ++ 10 ∷
    codes "round 4 3" ++ 10 ∷
    codes "run a goal 3 0 00000000-0000-0000-0000-000000000001" ++ 10 ∷
    codes "decide a 00000000-0000-0000-0000-000000000001 1" ++ 10 ∷
    codes "run a poll 2 0 00000000-0000-0000-0000-000000000001" ++ 10 ∷
    codes "state a 00000000-0000-0000-0000-000000000001 4" ++ 10 ∷
    codes "round 5 4" ++ 10 ∷
    codes "expire a 00000000-0000-0000-0000-000000000002" ++ 10 ∷
    codes "expire a 00000000-0000-0000-0000-000000000001" ++ 10 ∷
    codes "run a cancel 0 0 00000000-0000-0000-0000-000000000001" ++ 10 ∷
    codes "code a 2 0" ++ 10 ∷
    codes "round 6 5" ++ 10 ∷
    codes "run a cancel 0 0 00000000-0000-0000-0000-000000000001" ++ 10 ∷
    codes "code a 2 0" ++ 10 ∷
    codes "end 6" ++ 10 ∷
    []

-- cases/run/identifier_that_is_held.json
abbrev pub identifier_that_is_held_document : List ℕ
identifier_that_is_held_document =
    codes "{\"version\":1,\"nodes\":[{\"name\":\"n\",\"actions\":[{\"name\":\"a\",\"on_goal\":[[\"decide\",3]],\"on_cancel\":[[\"dec" ++
    codes "ide\",2]],\"script\":[]}]}],\"moments\":[10,20],\"feed\":[{\"round\":1,\"action\":\"a\",\"goal\":\"00000000-0000-000" ++
    codes "0-0000-000000000001\",\"value\":5},{\"round\":2,\"action\":\"a\",\"goal\":\"00000000-0000-0000-0000-000000000001" ++
    codes "\",\"value\":6}]}" ++ 10 ∷
    []

abbrev pub identifier_that_is_held_transcript : List ℕ
identifier_that_is_held_transcript =
    codes "round 1 10" ++ 10 ∷
    codes "run a goal 5 0 00000000-0000-0000-0000-000000000001" ++ 10 ∷
    codes "decide a 00000000-0000-0000-0000-000000000001 3" ++ 10 ∷
    codes "state a 00000000-0000-0000-0000-000000000001 1" ++ 10 ∷
    codes "round 2 20" ++ 10 ∷
    codes "run a goal 6 0 00000000-0000-0000-0000-000000000001" ++ 10 ∷
    codes "decide a 00000000-0000-0000-0000-000000000001 1" ++ 10 ∷
    codes "end 2" ++ 10 ∷
    []

-- cases/run/lanes_of_three_groups.json
abbrev pub lanes_of_three_groups_document : List ℕ
lanes_of_three_groups_document =
    codes "{\"version\":1,\"nodes\":[{\"name\":\"n\",\"groups\":[{\"name\":\"A\",\"kind\":\"exclusive\"},{\"name\":\"B\",\"kind\":\"excl" ++
    codes "usive\"},{\"name\":\"R\",\"kind\":\"reentrant\"}],\"timers\":[{\"name\":\"ta\",\"period\":20,\"group\":\"A\",\"script\":[[\"" ++
    codes "log\",\"now\"]]},{\"name\":\"tb1\",\"period\":20,\"group\":\"B\",\"script\":[[\"set\",\"g0\",\"add\",\"g0\",3],[\"log\",\"g0\"]" ++
    codes "]},{\"name\":\"tb2\",\"period\":20,\"group\":\"B\",\"script\":[[\"set\",\"g0\",\"mul\",\"g0\",2],[\"log\",\"g0\"]]}],\"action" ++
    codes "s\":[{\"name\":\"a\",\"group\":\"R\",\"on_goal\":[[\"decide\",2]],\"script\":[[\"set\",\"r0\",\"sub\",20,\"now\"],[\"wait\",\"" ++
    codes "r0\"],[\"succeed\",\"in\"]]}]}],\"moments\":[1, 2, 3, 4, 5, 6, 7, 8, 9, 10, 11, 12, 13, 14, 15, 16, 17, 18," ++
    codes " 19, 20],\"feed\":[{\"round\":1,\"action\":\"a\",\"goal\":\"00000000-0000-0000-0000-000000000001\",\"value\":1},{\"" ++
    codes "round\":2,\"action\":\"a\",\"goal\":\"00000000-0000-0000-0000-000000000002\",\"value\":2},{\"round\":3,\"action\":\"" ++
    codes "a\",\"goal\":\"00000000-0000-0000-0000-000000000003\",\"value\":3},{\"round\":4,\"action\":\"a\",\"goal\":\"00000000" ++
    codes "-0000-0000-0000-000000000004\",\"value\":4},{\"round\":5,\"action\":\"a\",\"goal\":\"00000000-0000-0000-0000-000" ++
    codes "000000005\",\"value\":5},{\"round\":6,\"action\":\"a\",\"goal\":\"00000000-0000-0000-0000-000000000006\",\"value\":" ++
    codes "6},{\"round\":7,\"action\":\"a\",\"goal\":\"00000000-0000-0000-0000-000000000007\",\"value\":7},{\"round\":8,\"acti" ++
    codes "on\":\"a\",\"goal\":\"00000000-0000-0000-0000-000000000008\",\"value\":8},{\"round\":9,\"action\":\"a\",\"goal\":\"000" ++
    codes "00000-0000-0000-0000-000000000009\",\"value\":9},{\"round\":10,\"action\":\"a\",\"goal\":\"00000000-0000-0000-00" ++
    codes "00-000000000010\",\"value\":10},{\"round\":11,\"action\":\"a\",\"goal\":\"00000000-0000-0000-0000-000000000011\"," ++
    codes "\"value\":11},{\"round\":12,\"action\":\"a\",\"goal\":\"00000000-0000-0000-0000-000000000012\",\"value\":12},{\"rou" ++
    codes "nd\":13,\"action\":\"a\",\"goal\":\"00000000-0000-0000-0000-000000000013\",\"value\":13},{\"round\":14,\"action\":\"" ++
    codes "a\",\"goal\":\"00000000-0000-0000-0000-000000000014\",\"value\":14},{\"round\":15,\"action\":\"a\",\"goal\":\"000000" ++
    codes "00-0000-0000-0000-000000000015\",\"value\":15},{\"round\":16,\"action\":\"a\",\"goal\":\"00000000-0000-0000-0000" ++
    codes "-000000000016\",\"value\":16}]}" ++ 10 ∷
    []

abbrev pub lanes_of_three_groups_transcript : List ℕ
lanes_of_three_groups_transcript =
    codes "round 1 1" ++ 10 ∷
    codes "run a goal 1 0 00000000-0000-0000-0000-000000000001" ++ 10 ∷
    codes "decide a 00000000-0000-0000-0000-000000000001 2" ++ 10 ∷
    codes "state a 00000000-0000-0000-0000-000000000001 1" ++ 10 ∷
    codes "state a 00000000-0000-0000-0000-000000000001 2" ++ 10 ∷
    codes "round 2 2" ++ 10 ∷
    codes "run a goal 2 0 00000000-0000-0000-0000-000000000002" ++ 10 ∷
    codes "decide a 00000000-0000-0000-0000-000000000002 2" ++ 10 ∷
    codes "state a 00000000-0000-0000-0000-000000000002 1" ++ 10 ∷
    codes "state a 00000000-0000-0000-0000-000000000002 2" ++ 10 ∷
    codes "run a poll 1 0 00000000-0000-0000-0000-000000000001" ++ 10 ∷
    codes "round 3 3" ++ 10 ∷
    codes "run a goal 3 0 00000000-0000-0000-0000-000000000003" ++ 10 ∷
    codes "decide a 00000000-0000-0000-0000-000000000003 2" ++ 10 ∷
    codes "state a 00000000-0000-0000-0000-000000000003 1" ++ 10 ∷
    codes "state a 00000000-0000-0000-0000-000000000003 2" ++ 10 ∷
    codes "run a poll 2 0 00000000-0000-0000-0000-000000000002" ++ 10 ∷
    codes "round 4 4" ++ 10 ∷
    codes "run a goal 4 0 00000000-0000-0000-0000-000000000004" ++ 10 ∷
    codes "decide a 00000000-0000-0000-0000-000000000004 2" ++ 10 ∷
    codes "state a 00000000-0000-0000-0000-000000000004 1" ++ 10 ∷
    codes "state a 00000000-0000-0000-0000-000000000004 2" ++ 10 ∷
    codes "run a poll 3 0 00000000-0000-0000-0000-000000000003" ++ 10 ∷
    codes "round 5 5" ++ 10 ∷
    codes "run a goal 5 0 00000000-0000-0000-0000-000000000005" ++ 10 ∷
    codes "decide a 00000000-0000-0000-0000-000000000005 2" ++ 10 ∷
    codes "state a 00000000-0000-0000-0000-000000000005 1" ++ 10 ∷
    codes "state a 00000000-0000-0000-0000-000000000005 2" ++ 10 ∷
    codes "run a poll 4 0 00000000-0000-0000-0000-000000000004" ++ 10 ∷
    codes "round 6 6" ++ 10 ∷
    codes "run a goal 6 0 00000000-0000-0000-0000-000000000006" ++ 10 ∷
    codes "decide a 00000000-0000-0000-0000-000000000006 2" ++ 10 ∷
    codes "state a 00000000-0000-0000-0000-000000000006 1" ++ 10 ∷
    codes "state a 00000000-0000-0000-0000-000000000006 2" ++ 10 ∷
    codes "run a poll 5 0 00000000-0000-0000-0000-000000000005" ++ 10 ∷
    codes "round 7 7" ++ 10 ∷
    codes "run a goal 7 0 00000000-0000-0000-0000-000000000007" ++ 10 ∷
    codes "decide a 00000000-0000-0000-0000-000000000007 2" ++ 10 ∷
    codes "state a 00000000-0000-0000-0000-000000000007 1" ++ 10 ∷
    codes "state a 00000000-0000-0000-0000-000000000007 2" ++ 10 ∷
    codes "run a poll 6 0 00000000-0000-0000-0000-000000000006" ++ 10 ∷
    codes "round 8 8" ++ 10 ∷
    codes "run a goal 8 0 00000000-0000-0000-0000-000000000008" ++ 10 ∷
    codes "decide a 00000000-0000-0000-0000-000000000008 2" ++ 10 ∷
    codes "state a 00000000-0000-0000-0000-000000000008 1" ++ 10 ∷
    codes "state a 00000000-0000-0000-0000-000000000008 2" ++ 10 ∷
    codes "run a poll 7 0 00000000-0000-0000-0000-000000000007" ++ 10 ∷
    codes "round 9 9" ++ 10 ∷
    codes "run a goal 9 0 00000000-0000-0000-0000-000000000009" ++ 10 ∷
    codes "decide a 00000000-0000-0000-0000-000000000009 2" ++ 10 ∷
    codes "state a 00000000-0000-0000-0000-000000000009 1" ++ 10 ∷
    codes "state a 00000000-0000-0000-0000-000000000009 2" ++ 10 ∷
    codes "run a poll 8 0 00000000-0000-0000-0000-000000000008" ++ 10 ∷
    codes "round 10 10" ++ 10 ∷
    codes "run a goal 10 0 00000000-0000-0000-0000-000000000010" ++ 10 ∷
    codes "decide a 00000000-0000-0000-0000-000000000010 2" ++ 10 ∷
    codes "state a 00000000-0000-0000-0000-000000000010 1" ++ 10 ∷
    codes "state a 00000000-0000-0000-0000-000000000010 2" ++ 10 ∷
    codes "run a poll 9 0 00000000-0000-0000-0000-000000000009" ++ 10 ∷
    codes "round 11 11" ++ 10 ∷
    codes "run a goal 11 0 00000000-0000-0000-0000-000000000011" ++ 10 ∷
    codes "decide a 00000000-0000-0000-0000-000000000011 2" ++ 10 ∷
    codes "state a 00000000-0000-0000-0000-000000000011 1" ++ 10 ∷
    codes "state a 00000000-0000-0000-0000-000000000011 2" ++ 10 ∷
    codes "run a poll 10 0 00000000-0000-0000-0000-000000000010" ++ 10 ∷
    codes "round 12 12" ++ 10 ∷
    codes "run a goal 12 0 00000000-0000-0000-0000-000000000012" ++ 10 ∷
    codes "decide a 00000000-0000-0000-0000-000000000012 2" ++ 10 ∷
    codes "state a 00000000-0000-0000-0000-000000000012 1" ++ 10 ∷
    codes "state a 00000000-0000-0000-0000-000000000012 2" ++ 10 ∷
    codes "run a poll 11 0 00000000-0000-0000-0000-000000000011" ++ 10 ∷
    codes "round 13 13" ++ 10 ∷
    codes "run a goal 13 0 00000000-0000-0000-0000-000000000013" ++ 10 ∷
    codes "decide a 00000000-0000-0000-0000-000000000013 2" ++ 10 ∷
    codes "state a 00000000-0000-0000-0000-000000000013 1" ++ 10 ∷
    codes "state a 00000000-0000-0000-0000-000000000013 2" ++ 10 ∷
    codes "run a poll 12 0 00000000-0000-0000-0000-000000000012" ++ 10 ∷
    codes "round 14 14" ++ 10 ∷
    codes "run a goal 14 0 00000000-0000-0000-0000-000000000014" ++ 10 ∷
    codes "decide a 00000000-0000-0000-0000-000000000014 2" ++ 10 ∷
    codes "state a 00000000-0000-0000-0000-000000000014 1" ++ 10 ∷
    codes "state a 00000000-0000-0000-0000-000000000014 2" ++ 10 ∷
    codes "run a poll 13 0 00000000-0000-0000-0000-000000000013" ++ 10 ∷
    codes "round 15 15" ++ 10 ∷
    codes "run a goal 15 0 00000000-0000-0000-0000-000000000015" ++ 10 ∷
    codes "decide a 00000000-0000-0000-0000-000000000015 2" ++ 10 ∷
    codes "state a 00000000-0000-0000-0000-000000000015 1" ++ 10 ∷
    codes "state a 00000000-0000-0000-0000-000000000015 2" ++ 10 ∷
    codes "run a poll 14 0 00000000-0000-0000-0000-000000000014" ++ 10 ∷
    codes "round 16 16" ++ 10 ∷
    codes "run a goal 16 0 00000000-0000-0000-0000-000000000016" ++ 10 ∷
    codes "decide a 00000000-0000-0000-0000-000000000016 2" ++ 10 ∷
    codes "state a 00000000-0000-0000-0000-000000000016 1" ++ 10 ∷
    codes "state a 00000000-0000-0000-0000-000000000016 2" ++ 10 ∷
    codes "run a poll 15 0 00000000-0000-0000-0000-000000000015" ++ 10 ∷
    codes "round 17 17" ++ 10 ∷
    codes "run a poll 16 0 00000000-0000-0000-0000-000000000016" ++ 10 ∷
    codes "round 18 18" ++ 10 ∷
    codes "round 19 19" ++ 10 ∷
    codes "round 20 20" ++ 10 ∷
    codes "run ta timer 20 0" ++ 10 ∷
    codes "log ta 20" ++ 10 ∷
    codes "run tb1 timer 20 0" ++ 10 ∷
    codes "log tb1 3" ++ 10 ∷
    codes "run tb2 timer 20 0" ++ 10 ∷
    codes "log tb2 6" ++ 10 ∷
    codes "run a poll 1 0 00000000-0000-0000-0000-000000000001" ++ 10 ∷
    codes "state a 00000000-0000-0000-0000-000000000001 4" ++ 10 ∷
    codes "run a poll 2 0 00000000-0000-0000-0000-000000000002" ++ 10 ∷
    codes "state a 00000000-0000-0000-0000-000000000002 4" ++ 10 ∷
    codes "run a poll 3 0 00000000-0000-0000-0000-000000000003" ++ 10 ∷
    codes "state a 00000000-0000-0000-0000-000000000003 4" ++ 10 ∷
    codes "run a poll 4 0 00000000-0000-0000-0000-000000000004" ++ 10 ∷
    codes "state a 00000000-0000-0000-0000-000000000004 4" ++ 10 ∷
    codes "run a poll 5 0 00000000-0000-0000-0000-000000000005" ++ 10 ∷
    codes "state a 00000000-0000-0000-0000-000000000005 4" ++ 10 ∷
    codes "run a poll 6 0 00000000-0000-0000-0000-000000000006" ++ 10 ∷
    codes "state a 00000000-0000-0000-0000-000000000006 4" ++ 10 ∷
    codes "run a poll 7 0 00000000-0000-0000-0000-000000000007" ++ 10 ∷
    codes "state a 00000000-0000-0000-0000-000000000007 4" ++ 10 ∷
    codes "run a poll 8 0 00000000-0000-0000-0000-000000000008" ++ 10 ∷
    codes "state a 00000000-0000-0000-0000-000000000008 4" ++ 10 ∷
    codes "run a poll 9 0 00000000-0000-0000-0000-000000000009" ++ 10 ∷
    codes "state a 00000000-0000-0000-0000-000000000009 4" ++ 10 ∷
    codes "run a poll 10 0 00000000-0000-0000-0000-000000000010" ++ 10 ∷
    codes "state a 00000000-0000-0000-0000-000000000010 4" ++ 10 ∷
    codes "run a poll 11 0 00000000-0000-0000-0000-000000000011" ++ 10 ∷
    codes "state a 00000000-0000-0000-0000-000000000011 4" ++ 10 ∷
    codes "run a poll 12 0 00000000-0000-0000-0000-000000000012" ++ 10 ∷
    codes "state a 00000000-0000-0000-0000-000000000012 4" ++ 10 ∷
    codes "run a poll 13 0 00000000-0000-0000-0000-000000000013" ++ 10 ∷
    codes "state a 00000000-0000-0000-0000-000000000013 4" ++ 10 ∷
    codes "run a poll 14 0 00000000-0000-0000-0000-000000000014" ++ 10 ∷
    codes "state a 00000000-0000-0000-0000-000000000014 4" ++ 10 ∷
    codes "run a poll 15 0 00000000-0000-0000-0000-000000000015" ++ 10 ∷
    codes "state a 00000000-0000-0000-0000-000000000015 4" ++ 10 ∷
    codes "run a poll 16 0 00000000-0000-0000-0000-000000000016" ++ 10 ∷
    codes "state a 00000000-0000-0000-0000-000000000016 4" ++ 10 ∷
    codes "end 20" ++ 10 ∷
    []

-- cases/run/many_goals_that_expire_together.json
abbrev pub many_goals_that_expire_together_document : List ℕ
many_goals_that_expire_together_document =
    codes "{\"version\":1,\"nodes\":[{\"name\":\"n\",\"actions\":[{\"name\":\"a\",\"result_timeout\":20,\"on_goal\":[[\"decide\",2]" ++
    codes "],\"on_cancel\":[[\"decide\",2]],\"script\":[[\"wait\",\"in\"],[\"succeed\",\"in\"]]}]}],\"moments\":[1,2,3,4,5,6,7," ++
    codes "8,9,10,11,40,41,60,61],\"feed\":[{\"round\":1,\"action\":\"a\",\"goal\":\"00000000-0000-0000-0000-000000000001\"" ++
    codes ",\"value\":1},{\"round\":2,\"action\":\"a\",\"goal\":\"00000000-0000-0000-0000-000000000002\",\"value\":50},{\"roun" ++
    codes "d\":3,\"action\":\"a\",\"goal\":\"00000000-0000-0000-0000-000000000003\",\"value\":1},{\"round\":4,\"action\":\"a\",\"" ++
    codes "goal\":\"00000000-0000-0000-0000-000000000004\",\"value\":1},{\"round\":5,\"action\":\"a\",\"goal\":\"00000000-000" ++
    codes "0-0000-0000-000000000005\",\"value\":50},{\"round\":6,\"action\":\"a\",\"goal\":\"00000000-0000-0000-0000-000000" ++
    codes "000006\",\"value\":1},{\"round\":7,\"action\":\"a\",\"goal\":\"00000000-0000-0000-0000-000000000007\",\"value\":1}," ++
    codes "{\"round\":8,\"action\":\"a\",\"goal\":\"00000000-0000-0000-0000-000000000008\",\"value\":1},{\"round\":9,\"action\"" ++
    codes ":\"a\",\"goal\":\"00000000-0000-0000-0000-000000000009\",\"value\":1},{\"round\":12,\"action\":\"a\",\"goal\":\"00000" ++
    codes "000-0000-0000-0000-000000000005\",\"value\":2},{\"round\":13,\"action\":\"a\",\"goal\":\"00000000-0000-0000-0000" ++
    codes "-000000000007\",\"value\":2}]}" ++ 10 ∷
    []

abbrev pub many_goals_that_expire_together_transcript : List ℕ
many_goals_that_expire_together_transcript =
    codes "round 1 1" ++ 10 ∷
    codes "run a goal 1 0 00000000-0000-0000-0000-000000000001" ++ 10 ∷
    codes "decide a 00000000-0000-0000-0000-000000000001 2" ++ 10 ∷
    codes "state a 00000000-0000-0000-0000-000000000001 1" ++ 10 ∷
    codes "state a 00000000-0000-0000-0000-000000000001 2" ++ 10 ∷
    codes "round 2 2" ++ 10 ∷
    codes "run a goal 50 0 00000000-0000-0000-0000-000000000002" ++ 10 ∷
    codes "decide a 00000000-0000-0000-0000-000000000002 2" ++ 10 ∷
    codes "state a 00000000-0000-0000-0000-000000000002 1" ++ 10 ∷
    codes "state a 00000000-0000-0000-0000-000000000002 2" ++ 10 ∷
    codes "run a poll 1 0 00000000-0000-0000-0000-000000000001" ++ 10 ∷
    codes "round 3 3" ++ 10 ∷
    codes "run a goal 1 0 00000000-0000-0000-0000-000000000003" ++ 10 ∷
    codes "decide a 00000000-0000-0000-0000-000000000003 2" ++ 10 ∷
    codes "state a 00000000-0000-0000-0000-000000000003 1" ++ 10 ∷
    codes "state a 00000000-0000-0000-0000-000000000003 2" ++ 10 ∷
    codes "run a poll 1 0 00000000-0000-0000-0000-000000000001" ++ 10 ∷
    codes "state a 00000000-0000-0000-0000-000000000001 4" ++ 10 ∷
    codes "run a poll 50 0 00000000-0000-0000-0000-000000000002" ++ 10 ∷
    codes "round 4 4" ++ 10 ∷
    codes "run a goal 1 0 00000000-0000-0000-0000-000000000004" ++ 10 ∷
    codes "decide a 00000000-0000-0000-0000-000000000004 2" ++ 10 ∷
    codes "state a 00000000-0000-0000-0000-000000000004 1" ++ 10 ∷
    codes "state a 00000000-0000-0000-0000-000000000004 2" ++ 10 ∷
    codes "run a poll 1 0 00000000-0000-0000-0000-000000000003" ++ 10 ∷
    codes "round 5 5" ++ 10 ∷
    codes "run a goal 50 0 00000000-0000-0000-0000-000000000005" ++ 10 ∷
    codes "decide a 00000000-0000-0000-0000-000000000005 2" ++ 10 ∷
    codes "state a 00000000-0000-0000-0000-000000000005 1" ++ 10 ∷
    codes "state a 00000000-0000-0000-0000-000000000005 2" ++ 10 ∷
    codes "run a poll 1 0 00000000-0000-0000-0000-000000000003" ++ 10 ∷
    codes "state a 00000000-0000-0000-0000-000000000003 4" ++ 10 ∷
    codes "run a poll 1 0 00000000-0000-0000-0000-000000000004" ++ 10 ∷
    codes "round 6 6" ++ 10 ∷
    codes "run a goal 1 0 00000000-0000-0000-0000-000000000006" ++ 10 ∷
    codes "decide a 00000000-0000-0000-0000-000000000006 2" ++ 10 ∷
    codes "state a 00000000-0000-0000-0000-000000000006 1" ++ 10 ∷
    codes "state a 00000000-0000-0000-0000-000000000006 2" ++ 10 ∷
    codes "run a poll 1 0 00000000-0000-0000-0000-000000000004" ++ 10 ∷
    codes "state a 00000000-0000-0000-0000-000000000004 4" ++ 10 ∷
    codes "run a poll 50 0 00000000-0000-0000-0000-000000000005" ++ 10 ∷
    codes "round 7 7" ++ 10 ∷
    codes "run a goal 1 0 00000000-0000-0000-0000-000000000007" ++ 10 ∷
    codes "decide a 00000000-0000-0000-0000-000000000007 2" ++ 10 ∷
    codes "state a 00000000-0000-0000-0000-000000000007 1" ++ 10 ∷
    codes "state a 00000000-0000-0000-0000-000000000007 2" ++ 10 ∷
    codes "run a poll 1 0 00000000-0000-0000-0000-000000000006" ++ 10 ∷
    codes "round 8 8" ++ 10 ∷
    codes "run a goal 1 0 00000000-0000-0000-0000-000000000008" ++ 10 ∷
    codes "decide a 00000000-0000-0000-0000-000000000008 2" ++ 10 ∷
    codes "state a 00000000-0000-0000-0000-000000000008 1" ++ 10 ∷
    codes "state a 00000000-0000-0000-0000-000000000008 2" ++ 10 ∷
    codes "run a poll 1 0 00000000-0000-0000-0000-000000000006" ++ 10 ∷
    codes "state a 00000000-0000-0000-0000-000000000006 4" ++ 10 ∷
    codes "run a poll 1 0 00000000-0000-0000-0000-000000000007" ++ 10 ∷
    codes "round 9 9" ++ 10 ∷
    codes "run a goal 1 0 00000000-0000-0000-0000-000000000009" ++ 10 ∷
    codes "decide a 00000000-0000-0000-0000-000000000009 2" ++ 10 ∷
    codes "state a 00000000-0000-0000-0000-000000000009 1" ++ 10 ∷
    codes "state a 00000000-0000-0000-0000-000000000009 2" ++ 10 ∷
    codes "run a poll 1 0 00000000-0000-0000-0000-000000000007" ++ 10 ∷
    codes "state a 00000000-0000-0000-0000-000000000007 4" ++ 10 ∷
    codes "run a poll 1 0 00000000-0000-0000-0000-000000000008" ++ 10 ∷
    codes "round 10 10" ++ 10 ∷
    codes "run a poll 1 0 00000000-0000-0000-0000-000000000008" ++ 10 ∷
    codes "state a 00000000-0000-0000-0000-000000000008 4" ++ 10 ∷
    codes "run a poll 1 0 00000000-0000-0000-0000-000000000009" ++ 10 ∷
    codes "round 11 11" ++ 10 ∷
    codes "run a poll 1 0 00000000-0000-0000-0000-000000000009" ++ 10 ∷
    codes "state a 00000000-0000-0000-0000-000000000009 4" ++ 10 ∷
    codes "round 12 40" ++ 10 ∷
    codes "expire a 00000000-0000-0000-0000-000000000001" ++ 10 ∷
    codes "expire a 00000000-0000-0000-0000-000000000003" ++ 10 ∷
    codes "expire a 00000000-0000-0000-0000-000000000004" ++ 10 ∷
    codes "expire a 00000000-0000-0000-0000-000000000006" ++ 10 ∷
    codes "expire a 00000000-0000-0000-0000-000000000007" ++ 10 ∷
    codes "expire a 00000000-0000-0000-0000-000000000008" ++ 10 ∷
    codes "expire a 00000000-0000-0000-0000-000000000009" ++ 10 ∷
    codes "run a goal 2 0 00000000-0000-0000-0000-000000000005" ++ 10 ∷
    codes "decide a 00000000-0000-0000-0000-000000000005 1" ++ 10 ∷
    codes "round 13 41" ++ 10 ∷
    codes "run a goal 2 0 00000000-0000-0000-0000-000000000007" ++ 10 ∷
    codes "decide a 00000000-0000-0000-0000-000000000007 2" ++ 10 ∷
    codes "state a 00000000-0000-0000-0000-000000000007 1" ++ 10 ∷
    codes "state a 00000000-0000-0000-0000-000000000007 2" ++ 10 ∷
    codes "round 14 60" ++ 10 ∷
    codes "run a poll 50 0 00000000-0000-0000-0000-000000000002" ++ 10 ∷
    codes "state a 00000000-0000-0000-0000-000000000002 4" ++ 10 ∷
    codes "run a poll 50 0 00000000-0000-0000-0000-000000000005" ++ 10 ∷
    codes "state a 00000000-0000-0000-0000-000000000005 4" ++ 10 ∷
    codes "run a poll 2 0 00000000-0000-0000-0000-000000000007" ++ 10 ∷
    codes "round 15 61" ++ 10 ∷
    codes "end 15" ++ 10 ∷
    []

-- cases/run/result_that_expires_before_it_is_asked_for.json
abbrev pub result_that_expires_before_it_is_asked_for_document : List ℕ
result_that_expires_before_it_is_asked_for_document =
    codes "{\"version\":1,\"nodes\":[{\"name\":\"n\",\"timers\":[{\"name\":\"t\",\"period\":10,\"script\":[[\"goal\",\"ac\",5]]}],\"ac" ++
    codes "tions\":[{\"name\":\"a\",\"on_goal\":[[\"decide\",2]],\"on_cancel\":[[\"decide\",2]],\"script\":[[\"succeed\",9]],\"re" ++
    codes "sult_timeout\":0}],\"action_clients\":[{\"name\":\"ac\",\"action\":\"a\",\"on_result\":[[\"log\",\"in\"]]}]}],\"moment" ++
    codes "s\":[10,11,12,13,14,15],\"feed\":[]}" ++ 10 ∷
    []

abbrev pub result_that_expires_before_it_is_asked_for_transcript : List ℕ
result_that_expires_before_it_is_asked_for_transcript =
    codes "round 1 10" ++ 10 ∷
    codes "run t timer 10 0" ++ 10 ∷
    codes "goal ac 00000000-0000-0001-0000-000000000001 5" ++ 10 ∷
    codes "round 2 11" ++ 10 ∷
    codes "run a goal 5 0 00000000-0000-0001-0000-000000000001" ++ 10 ∷
    codes "decide a 00000000-0000-0001-0000-000000000001 2" ++ 10 ∷
    codes "state a 00000000-0000-0001-0000-000000000001 1" ++ 10 ∷
    codes "state a 00000000-0000-0001-0000-000000000001 2" ++ 10 ∷
    codes "round 3 12" ++ 10 ∷
    codes "run a poll 5 0 00000000-0000-0001-0000-000000000001" ++ 10 ∷
    codes "state a 00000000-0000-0001-0000-000000000001 4" ++ 10 ∷
    codes "run ac response 1 1 00000000-0000-0001-0000-000000000001" ++ 10 ∷
    codes "ask ac 00000000-0000-0001-0000-000000000001" ++ 10 ∷
    codes "round 4 13" ++ 10 ∷
    codes "expire a 00000000-0000-0001-0000-000000000001" ++ 10 ∷
    codes "run a ask 0 0 00000000-0000-0001-0000-000000000001" ++ 10 ∷
    codes "result a 00000000-0000-0001-0000-000000000001 0 0" ++ 10 ∷
    codes "round 5 14" ++ 10 ∷
    codes "run ac result 0 0 00000000-0000-0001-0000-000000000001" ++ 10 ∷
    codes "log ac 0" ++ 10 ∷
    codes "round 6 15" ++ 10 ∷
    codes "end 6" ++ 10 ∷
    []

-- cases/run/result_that_is_told_before_it_expires.json
abbrev pub result_that_is_told_before_it_expires_document : List ℕ
result_that_is_told_before_it_expires_document =
    codes "{\"version\":1,\"nodes\":[{\"name\":\"n\",\"timers\":[{\"name\":\"t\",\"period\":10,\"script\":[[\"goal\",\"ac\",5]]}],\"ac" ++
    codes "tions\":[{\"name\":\"a\",\"on_goal\":[[\"decide\",2]],\"on_cancel\":[[\"decide\",2]],\"script\":[[\"wait\",2],[\"succe" ++
    codes "ed\",9]],\"result_timeout\":0}],\"action_clients\":[{\"name\":\"ac\",\"action\":\"a\",\"on_result\":[[\"log\",\"in\"]]}" ++
    codes "]}],\"moments\":[10,11,12,13,14,15],\"feed\":[]}" ++ 10 ∷
    []

abbrev pub result_that_is_told_before_it_expires_transcript : List ℕ
result_that_is_told_before_it_expires_transcript =
    codes "round 1 10" ++ 10 ∷
    codes "run t timer 10 0" ++ 10 ∷
    codes "goal ac 00000000-0000-0001-0000-000000000001 5" ++ 10 ∷
    codes "round 2 11" ++ 10 ∷
    codes "run a goal 5 0 00000000-0000-0001-0000-000000000001" ++ 10 ∷
    codes "decide a 00000000-0000-0001-0000-000000000001 2" ++ 10 ∷
    codes "state a 00000000-0000-0001-0000-000000000001 1" ++ 10 ∷
    codes "state a 00000000-0000-0001-0000-000000000001 2" ++ 10 ∷
    codes "round 3 12" ++ 10 ∷
    codes "run a poll 5 0 00000000-0000-0001-0000-000000000001" ++ 10 ∷
    codes "run ac response 1 1 00000000-0000-0001-0000-000000000001" ++ 10 ∷
    codes "ask ac 00000000-0000-0001-0000-000000000001" ++ 10 ∷
    codes "round 4 13" ++ 10 ∷
    codes "run a ask 0 0 00000000-0000-0001-0000-000000000001" ++ 10 ∷
    codes "round 5 14" ++ 10 ∷
    codes "run a poll 5 0 00000000-0000-0001-0000-000000000001" ++ 10 ∷
    codes "state a 00000000-0000-0001-0000-000000000001 4" ++ 10 ∷
    codes "result a 00000000-0000-0001-0000-000000000001 4 9" ++ 10 ∷
    codes "round 6 15" ++ 10 ∷
    codes "expire a 00000000-0000-0001-0000-000000000001" ++ 10 ∷
    codes "run ac result 9 4 00000000-0000-0001-0000-000000000001" ++ 10 ∷
    codes "log ac 9" ++ 10 ∷
    codes "end 6" ++ 10 ∷
    []

-- cases/run/results_beyond_a_depth_of_1.json
abbrev pub results_beyond_a_depth_of_1_document : List ℕ
results_beyond_a_depth_of_1_document =
    codes "{\"version\":1,\"nodes\":[{\"name\":\"n\",\"timers\":[{\"name\":\"t\",\"period\":9,\"script\":[[\"goal\",\"k1\",1],[\"goal\"" ++
    codes ",\"k1\",2],[\"goal\",\"k1\",3],[\"goal\",\"k2\",4]]}],\"actions\":[{\"name\":\"a\",\"depth\":4,\"on_goal\":[[\"decide\",2]" ++
    codes "],\"on_cancel\":[[\"decide\",2]],\"script\":[[\"set\",\"r0\",\"sub\",15,\"now\"],[\"wait\",\"r0\"],[\"succeed\",\"in\"]]}]" ++
    codes ",\"action_clients\":[{\"name\":\"k1\",\"action\":\"a\",\"depth\":1,\"on_result\":[[\"log\",\"aux\"]]},{\"name\":\"k2\",\"ac" ++
    codes "tion\":\"a\",\"depth\":1,\"on_result\":[[\"log\",\"in\"]]}]}],\"moments\":[9,10,11,12,13,14,15,16,17]}" ++
    []

abbrev pub results_beyond_a_depth_of_1_transcript : List ℕ
results_beyond_a_depth_of_1_transcript =
    codes "round 1 9" ++ 10 ∷
    codes "run t timer 9 0" ++ 10 ∷
    codes "goal k1 00000000-0000-0001-0000-000000000001 1" ++ 10 ∷
    codes "goal k1 00000000-0000-0001-0000-000000000002 2" ++ 10 ∷
    codes "goal k1 00000000-0000-0001-0000-000000000003 3" ++ 10 ∷
    codes "goal k2 00000000-0000-0002-0000-000000000001 4" ++ 10 ∷
    codes "round 2 10" ++ 10 ∷
    codes "run a goal 1 0 00000000-0000-0001-0000-000000000001" ++ 10 ∷
    codes "decide a 00000000-0000-0001-0000-000000000001 2" ++ 10 ∷
    codes "state a 00000000-0000-0001-0000-000000000001 1" ++ 10 ∷
    codes "state a 00000000-0000-0001-0000-000000000001 2" ++ 10 ∷
    codes "round 3 11" ++ 10 ∷
    codes "run a goal 2 0 00000000-0000-0001-0000-000000000002" ++ 10 ∷
    codes "decide a 00000000-0000-0001-0000-000000000002 2" ++ 10 ∷
    codes "state a 00000000-0000-0001-0000-000000000002 1" ++ 10 ∷
    codes "state a 00000000-0000-0001-0000-000000000002 2" ++ 10 ∷
    codes "run a poll 1 0 00000000-0000-0001-0000-000000000001" ++ 10 ∷
    codes "run k1 response 1 1 00000000-0000-0001-0000-000000000001" ++ 10 ∷
    codes "ask k1 00000000-0000-0001-0000-000000000001" ++ 10 ∷
    codes "round 4 12" ++ 10 ∷
    codes "run a goal 3 0 00000000-0000-0001-0000-000000000003" ++ 10 ∷
    codes "decide a 00000000-0000-0001-0000-000000000003 2" ++ 10 ∷
    codes "state a 00000000-0000-0001-0000-000000000003 1" ++ 10 ∷
    codes "state a 00000000-0000-0001-0000-000000000003 2" ++ 10 ∷
    codes "run a ask 0 0 00000000-0000-0001-0000-000000000001" ++ 10 ∷
    codes "run a poll 2 0 00000000-0000-0001-0000-000000000002" ++ 10 ∷
    codes "run k1 response 1 2 00000000-0000-0001-0000-000000000002" ++ 10 ∷
    codes "ask k1 00000000-0000-0001-0000-000000000002" ++ 10 ∷
    codes "round 5 13" ++ 10 ∷
    codes "run a goal 4 0 00000000-0000-0002-0000-000000000001" ++ 10 ∷
    codes "decide a 00000000-0000-0002-0000-000000000001 2" ++ 10 ∷
    codes "state a 00000000-0000-0002-0000-000000000001 1" ++ 10 ∷
    codes "state a 00000000-0000-0002-0000-000000000001 2" ++ 10 ∷
    codes "run a ask 0 0 00000000-0000-0001-0000-000000000002" ++ 10 ∷
    codes "run a poll 3 0 00000000-0000-0001-0000-000000000003" ++ 10 ∷
    codes "run k1 response 1 3 00000000-0000-0001-0000-000000000003" ++ 10 ∷
    codes "ask k1 00000000-0000-0001-0000-000000000003" ++ 10 ∷
    codes "round 6 14" ++ 10 ∷
    codes "run a ask 0 0 00000000-0000-0001-0000-000000000003" ++ 10 ∷
    codes "run a poll 4 0 00000000-0000-0002-0000-000000000001" ++ 10 ∷
    codes "run k2 response 1 1 00000000-0000-0002-0000-000000000001" ++ 10 ∷
    codes "ask k2 00000000-0000-0002-0000-000000000001" ++ 10 ∷
    codes "round 7 15" ++ 10 ∷
    codes "run a ask 0 0 00000000-0000-0002-0000-000000000001" ++ 10 ∷
    codes "run a poll 1 0 00000000-0000-0001-0000-000000000001" ++ 10 ∷
    codes "state a 00000000-0000-0001-0000-000000000001 4" ++ 10 ∷
    codes "result a 00000000-0000-0001-0000-000000000001 4 1" ++ 10 ∷
    codes "run a poll 2 0 00000000-0000-0001-0000-000000000002" ++ 10 ∷
    codes "state a 00000000-0000-0001-0000-000000000002 4" ++ 10 ∷
    codes "result a 00000000-0000-0001-0000-000000000002 4 2" ++ 10 ∷
    codes "drop k1 result 1" ++ 10 ∷
    codes "run a poll 3 0 00000000-0000-0001-0000-000000000003" ++ 10 ∷
    codes "state a 00000000-0000-0001-0000-000000000003 4" ++ 10 ∷
    codes "result a 00000000-0000-0001-0000-000000000003 4 3" ++ 10 ∷
    codes "drop k1 result 2" ++ 10 ∷
    codes "run a poll 4 0 00000000-0000-0002-0000-000000000001" ++ 10 ∷
    codes "state a 00000000-0000-0002-0000-000000000001 4" ++ 10 ∷
    codes "result a 00000000-0000-0002-0000-000000000001 4 4" ++ 10 ∷
    codes "round 8 16" ++ 10 ∷
    codes "run k1 result 3 4 00000000-0000-0001-0000-000000000003" ++ 10 ∷
    codes "log k1 4" ++ 10 ∷
    codes "run k2 result 4 4 00000000-0000-0002-0000-000000000001" ++ 10 ∷
    codes "log k2 4" ++ 10 ∷
    codes "round 9 17" ++ 10 ∷
    codes "end 9" ++ 10 ∷
    []

-- cases/run/server.json
abbrev pub server_document : List ℕ
server_document =
    codes "{\"version\":1,\"nodes\":[{\"name\":\"n\",\"actions\":[{\"name\":\"a\"}]}]}" ++
    []

abbrev pub server_transcript : List ℕ
server_transcript =
    codes "end 0" ++ 10 ∷
    []

-- cases/run/service.json
abbrev pub service_document : List ℕ
service_document =
    codes "{\"version\":1,\"nodes\":[{\"name\":\"n\",\"services\":[{\"name\":\"s\"}]}]}" ++
    []

abbrev pub service_transcript : List ℕ
service_transcript =
    codes "end 0" ++ 10 ∷
    []

-- cases/run/sixty_five_polls_in_a_round.json
abbrev pub sixty_five_polls_in_a_round_document : List ℕ
sixty_five_polls_in_a_round_document =
    codes "{\"version\":1,\"nodes\":[{\"name\":\"n\",\"groups\":[{\"name\":\"R\",\"kind\":\"reentrant\"}],\"actions\":[{\"name\":\"a\"," ++
    codes "\"group\":\"R\",\"on_goal\":[[\"decide\",2]],\"script\":[[\"set\",\"r0\",\"sub\",34,\"now\"],[\"wait\",\"r0\"],[\"succeed\"," ++
    codes "\"in\"]]},{\"name\":\"b\",\"group\":\"R\",\"on_goal\":[[\"decide\",2]],\"script\":[[\"set\",\"r0\",\"sub\",34,\"now\"],[\"wai" ++
    codes "t\",\"r0\"],[\"succeed\",\"in\"]]}]}],\"moments\":[1,2,3,4,5,6,7,8,9,10,11,12,13,14,15,16,17,18,19,20,21,22,2" ++
    codes "3,24,25,26,27,28,29,30,31,32,33,34],\"topics\":[\"x\"],\"feed\":[{\"round\":1,\"topic\":\"x\",\"value\":0},{\"round" ++
    codes "\":1,\"action\":\"a\",\"goal\":\"00000000-0000-0000-0000-000000000001\",\"value\":1},{\"round\":2,\"action\":\"a\",\"g" ++
    codes "oal\":\"00000000-0000-0000-0000-000000000002\",\"value\":2},{\"round\":3,\"action\":\"a\",\"goal\":\"00000000-0000" ++
    codes "-0000-0000-000000000003\",\"value\":3},{\"round\":4,\"action\":\"a\",\"goal\":\"00000000-0000-0000-0000-00000000" ++
    codes "0004\",\"value\":4},{\"round\":5,\"action\":\"a\",\"goal\":\"00000000-0000-0000-0000-000000000005\",\"value\":5},{\"" ++
    codes "round\":6,\"action\":\"a\",\"goal\":\"00000000-0000-0000-0000-000000000006\",\"value\":6},{\"round\":7,\"action\":\"" ++
    codes "a\",\"goal\":\"00000000-0000-0000-0000-000000000007\",\"value\":7},{\"round\":8,\"action\":\"a\",\"goal\":\"00000000" ++
    codes "-0000-0000-0000-000000000008\",\"value\":8},{\"round\":9,\"action\":\"a\",\"goal\":\"00000000-0000-0000-0000-000" ++
    codes "000000009\",\"value\":9},{\"round\":10,\"action\":\"a\",\"goal\":\"00000000-0000-0000-0000-000000000010\",\"value\"" ++
    codes ":10},{\"round\":11,\"action\":\"a\",\"goal\":\"00000000-0000-0000-0000-000000000011\",\"value\":11},{\"round\":12," ++
    codes "\"action\":\"a\",\"goal\":\"00000000-0000-0000-0000-000000000012\",\"value\":12},{\"round\":13,\"action\":\"a\",\"goa" ++
    codes "l\":\"00000000-0000-0000-0000-000000000013\",\"value\":13},{\"round\":14,\"action\":\"a\",\"goal\":\"00000000-0000" ++
    codes "-0000-0000-000000000014\",\"value\":14},{\"round\":15,\"action\":\"a\",\"goal\":\"00000000-0000-0000-0000-000000" ++
    codes "000015\",\"value\":15},{\"round\":16,\"action\":\"a\",\"goal\":\"00000000-0000-0000-0000-000000000016\",\"value\":1" ++
    codes "6},{\"round\":17,\"action\":\"a\",\"goal\":\"00000000-0000-0000-0000-000000000017\",\"value\":17},{\"round\":18,\"a" ++
    codes "ction\":\"a\",\"goal\":\"00000000-0000-0000-0000-000000000018\",\"value\":18},{\"round\":19,\"action\":\"a\",\"goal\"" ++
    codes ":\"00000000-0000-0000-0000-000000000019\",\"value\":19},{\"round\":20,\"action\":\"a\",\"goal\":\"00000000-0000-0" ++
    codes "000-0000-000000000020\",\"value\":20},{\"round\":21,\"action\":\"a\",\"goal\":\"00000000-0000-0000-0000-00000000" ++
    codes "0021\",\"value\":21},{\"round\":22,\"action\":\"a\",\"goal\":\"00000000-0000-0000-0000-000000000022\",\"value\":22}" ++
    codes ",{\"round\":23,\"action\":\"a\",\"goal\":\"00000000-0000-0000-0000-000000000023\",\"value\":23},{\"round\":24,\"act" ++
    codes "ion\":\"a\",\"goal\":\"00000000-0000-0000-0000-000000000024\",\"value\":24},{\"round\":25,\"action\":\"a\",\"goal\":\"" ++
    codes "00000000-0000-0000-0000-000000000025\",\"value\":25},{\"round\":26,\"action\":\"a\",\"goal\":\"00000000-0000-000" ++
    codes "0-0000-000000000026\",\"value\":26},{\"round\":27,\"action\":\"a\",\"goal\":\"00000000-0000-0000-0000-0000000000" ++
    codes "27\",\"value\":27},{\"round\":28,\"action\":\"a\",\"goal\":\"00000000-0000-0000-0000-000000000028\",\"value\":28},{" ++
    codes "\"round\":29,\"action\":\"a\",\"goal\":\"00000000-0000-0000-0000-000000000029\",\"value\":29},{\"round\":30,\"actio" ++
    codes "n\":\"a\",\"goal\":\"00000000-0000-0000-0000-000000000030\",\"value\":30},{\"round\":31,\"action\":\"a\",\"goal\":\"00" ++
    codes "000000-0000-0000-0000-000000000031\",\"value\":31},{\"round\":32,\"action\":\"a\",\"goal\":\"00000000-0000-0000-" ++
    codes "0000-000000000032\",\"value\":32},{\"round\":33,\"action\":\"a\",\"goal\":\"00000000-0000-0000-0000-000000000033" ++
    codes "\",\"value\":33},{\"round\":1,\"action\":\"b\",\"goal\":\"00000000-0000-0000-0000-000000000001\",\"value\":1},{\"rou" ++
    codes "nd\":2,\"action\":\"b\",\"goal\":\"00000000-0000-0000-0000-000000000002\",\"value\":2},{\"round\":3,\"action\":\"b\"," ++
    codes "\"goal\":\"00000000-0000-0000-0000-000000000003\",\"value\":3},{\"round\":4,\"action\":\"b\",\"goal\":\"00000000-00" ++
    codes "00-0000-0000-000000000004\",\"value\":4},{\"round\":5,\"action\":\"b\",\"goal\":\"00000000-0000-0000-0000-000000" ++
    codes "000005\",\"value\":5},{\"round\":6,\"action\":\"b\",\"goal\":\"00000000-0000-0000-0000-000000000006\",\"value\":6}," ++
    codes "{\"round\":7,\"action\":\"b\",\"goal\":\"00000000-0000-0000-0000-000000000007\",\"value\":7},{\"round\":8,\"action\"" ++
    codes ":\"b\",\"goal\":\"00000000-0000-0000-0000-000000000008\",\"value\":8},{\"round\":9,\"action\":\"b\",\"goal\":\"000000" ++
    codes "00-0000-0000-0000-000000000009\",\"value\":9},{\"round\":10,\"action\":\"b\",\"goal\":\"00000000-0000-0000-0000-" ++
    codes "000000000010\",\"value\":10},{\"round\":11,\"action\":\"b\",\"goal\":\"00000000-0000-0000-0000-000000000011\",\"va" ++
    codes "lue\":11},{\"round\":12,\"action\":\"b\",\"goal\":\"00000000-0000-0000-0000-000000000012\",\"value\":12},{\"round\"" ++
    codes ":13,\"action\":\"b\",\"goal\":\"00000000-0000-0000-0000-000000000013\",\"value\":13},{\"round\":14,\"action\":\"b\"," ++
    codes "\"goal\":\"00000000-0000-0000-0000-000000000014\",\"value\":14},{\"round\":15,\"action\":\"b\",\"goal\":\"00000000-" ++
    codes "0000-0000-0000-000000000015\",\"value\":15},{\"round\":16,\"action\":\"b\",\"goal\":\"00000000-0000-0000-0000-00" ++
    codes "0000000016\",\"value\":16},{\"round\":17,\"action\":\"b\",\"goal\":\"00000000-0000-0000-0000-000000000017\",\"valu" ++
    codes "e\":17},{\"round\":18,\"action\":\"b\",\"goal\":\"00000000-0000-0000-0000-000000000018\",\"value\":18},{\"round\":1" ++
    codes "9,\"action\":\"b\",\"goal\":\"00000000-0000-0000-0000-000000000019\",\"value\":19},{\"round\":20,\"action\":\"b\",\"g" ++
    codes "oal\":\"00000000-0000-0000-0000-000000000020\",\"value\":20},{\"round\":21,\"action\":\"b\",\"goal\":\"00000000-00" ++
    codes "00-0000-0000-000000000021\",\"value\":21},{\"round\":22,\"action\":\"b\",\"goal\":\"00000000-0000-0000-0000-0000" ++
    codes "00000022\",\"value\":22},{\"round\":23,\"action\":\"b\",\"goal\":\"00000000-0000-0000-0000-000000000023\",\"value\"" ++
    codes ":23},{\"round\":24,\"action\":\"b\",\"goal\":\"00000000-0000-0000-0000-000000000024\",\"value\":24},{\"round\":25," ++
    codes "\"action\":\"b\",\"goal\":\"00000000-0000-0000-0000-000000000025\",\"value\":25},{\"round\":26,\"action\":\"b\",\"goa" ++
    codes "l\":\"00000000-0000-0000-0000-000000000026\",\"value\":26},{\"round\":27,\"action\":\"b\",\"goal\":\"00000000-0000" ++
    codes "-0000-0000-000000000027\",\"value\":27},{\"round\":28,\"action\":\"b\",\"goal\":\"00000000-0000-0000-0000-000000" ++
    codes "000028\",\"value\":28},{\"round\":29,\"action\":\"b\",\"goal\":\"00000000-0000-0000-0000-000000000029\",\"value\":2" ++
    codes "9},{\"round\":30,\"action\":\"b\",\"goal\":\"00000000-0000-0000-0000-000000000030\",\"value\":30},{\"round\":31,\"a" ++
    codes "ction\":\"b\",\"goal\":\"00000000-0000-0000-0000-000000000031\",\"value\":31},{\"round\":32,\"action\":\"b\",\"goal\"" ++
    codes ":\"00000000-0000-0000-0000-000000000032\",\"value\":32}]}" ++
    []

abbrev pub sixty_five_polls_in_a_round_transcript : List ℕ
sixty_five_polls_in_a_round_transcript =
    codes "round 1 1" ++ 10 ∷
    codes "run a goal 1 0 00000000-0000-0000-0000-000000000001" ++ 10 ∷
    codes "decide a 00000000-0000-0000-0000-000000000001 2" ++ 10 ∷
    codes "state a 00000000-0000-0000-0000-000000000001 1" ++ 10 ∷
    codes "state a 00000000-0000-0000-0000-000000000001 2" ++ 10 ∷
    codes "run b goal 1 0 00000000-0000-0000-0000-000000000001" ++ 10 ∷
    codes "decide b 00000000-0000-0000-0000-000000000001 2" ++ 10 ∷
    codes "state b 00000000-0000-0000-0000-000000000001 1" ++ 10 ∷
    codes "state b 00000000-0000-0000-0000-000000000001 2" ++ 10 ∷
    codes "round 2 2" ++ 10 ∷
    codes "run a goal 2 0 00000000-0000-0000-0000-000000000002" ++ 10 ∷
    codes "decide a 00000000-0000-0000-0000-000000000002 2" ++ 10 ∷
    codes "state a 00000000-0000-0000-0000-000000000002 1" ++ 10 ∷
    codes "state a 00000000-0000-0000-0000-000000000002 2" ++ 10 ∷
    codes "run b goal 2 0 00000000-0000-0000-0000-000000000002" ++ 10 ∷
    codes "decide b 00000000-0000-0000-0000-000000000002 2" ++ 10 ∷
    codes "state b 00000000-0000-0000-0000-000000000002 1" ++ 10 ∷
    codes "state b 00000000-0000-0000-0000-000000000002 2" ++ 10 ∷
    codes "run a poll 1 0 00000000-0000-0000-0000-000000000001" ++ 10 ∷
    codes "run b poll 1 0 00000000-0000-0000-0000-000000000001" ++ 10 ∷
    codes "round 3 3" ++ 10 ∷
    codes "run a goal 3 0 00000000-0000-0000-0000-000000000003" ++ 10 ∷
    codes "decide a 00000000-0000-0000-0000-000000000003 2" ++ 10 ∷
    codes "state a 00000000-0000-0000-0000-000000000003 1" ++ 10 ∷
    codes "state a 00000000-0000-0000-0000-000000000003 2" ++ 10 ∷
    codes "run b goal 3 0 00000000-0000-0000-0000-000000000003" ++ 10 ∷
    codes "decide b 00000000-0000-0000-0000-000000000003 2" ++ 10 ∷
    codes "state b 00000000-0000-0000-0000-000000000003 1" ++ 10 ∷
    codes "state b 00000000-0000-0000-0000-000000000003 2" ++ 10 ∷
    codes "run a poll 2 0 00000000-0000-0000-0000-000000000002" ++ 10 ∷
    codes "run b poll 2 0 00000000-0000-0000-0000-000000000002" ++ 10 ∷
    codes "round 4 4" ++ 10 ∷
    codes "run a goal 4 0 00000000-0000-0000-0000-000000000004" ++ 10 ∷
    codes "decide a 00000000-0000-0000-0000-000000000004 2" ++ 10 ∷
    codes "state a 00000000-0000-0000-0000-000000000004 1" ++ 10 ∷
    codes "state a 00000000-0000-0000-0000-000000000004 2" ++ 10 ∷
    codes "run b goal 4 0 00000000-0000-0000-0000-000000000004" ++ 10 ∷
    codes "decide b 00000000-0000-0000-0000-000000000004 2" ++ 10 ∷
    codes "state b 00000000-0000-0000-0000-000000000004 1" ++ 10 ∷
    codes "state b 00000000-0000-0000-0000-000000000004 2" ++ 10 ∷
    codes "run a poll 3 0 00000000-0000-0000-0000-000000000003" ++ 10 ∷
    codes "run b poll 3 0 00000000-0000-0000-0000-000000000003" ++ 10 ∷
    codes "round 5 5" ++ 10 ∷
    codes "run a goal 5 0 00000000-0000-0000-0000-000000000005" ++ 10 ∷
    codes "decide a 00000000-0000-0000-0000-000000000005 2" ++ 10 ∷
    codes "state a 00000000-0000-0000-0000-000000000005 1" ++ 10 ∷
    codes "state a 00000000-0000-0000-0000-000000000005 2" ++ 10 ∷
    codes "run b goal 5 0 00000000-0000-0000-0000-000000000005" ++ 10 ∷
    codes "decide b 00000000-0000-0000-0000-000000000005 2" ++ 10 ∷
    codes "state b 00000000-0000-0000-0000-000000000005 1" ++ 10 ∷
    codes "state b 00000000-0000-0000-0000-000000000005 2" ++ 10 ∷
    codes "run a poll 4 0 00000000-0000-0000-0000-000000000004" ++ 10 ∷
    codes "run b poll 4 0 00000000-0000-0000-0000-000000000004" ++ 10 ∷
    codes "round 6 6" ++ 10 ∷
    codes "run a goal 6 0 00000000-0000-0000-0000-000000000006" ++ 10 ∷
    codes "decide a 00000000-0000-0000-0000-000000000006 2" ++ 10 ∷
    codes "state a 00000000-0000-0000-0000-000000000006 1" ++ 10 ∷
    codes "state a 00000000-0000-0000-0000-000000000006 2" ++ 10 ∷
    codes "run b goal 6 0 00000000-0000-0000-0000-000000000006" ++ 10 ∷
    codes "decide b 00000000-0000-0000-0000-000000000006 2" ++ 10 ∷
    codes "state b 00000000-0000-0000-0000-000000000006 1" ++ 10 ∷
    codes "state b 00000000-0000-0000-0000-000000000006 2" ++ 10 ∷
    codes "run a poll 5 0 00000000-0000-0000-0000-000000000005" ++ 10 ∷
    codes "run b poll 5 0 00000000-0000-0000-0000-000000000005" ++ 10 ∷
    codes "round 7 7" ++ 10 ∷
    codes "run a goal 7 0 00000000-0000-0000-0000-000000000007" ++ 10 ∷
    codes "decide a 00000000-0000-0000-0000-000000000007 2" ++ 10 ∷
    codes "state a 00000000-0000-0000-0000-000000000007 1" ++ 10 ∷
    codes "state a 00000000-0000-0000-0000-000000000007 2" ++ 10 ∷
    codes "run b goal 7 0 00000000-0000-0000-0000-000000000007" ++ 10 ∷
    codes "decide b 00000000-0000-0000-0000-000000000007 2" ++ 10 ∷
    codes "state b 00000000-0000-0000-0000-000000000007 1" ++ 10 ∷
    codes "state b 00000000-0000-0000-0000-000000000007 2" ++ 10 ∷
    codes "run a poll 6 0 00000000-0000-0000-0000-000000000006" ++ 10 ∷
    codes "run b poll 6 0 00000000-0000-0000-0000-000000000006" ++ 10 ∷
    codes "round 8 8" ++ 10 ∷
    codes "run a goal 8 0 00000000-0000-0000-0000-000000000008" ++ 10 ∷
    codes "decide a 00000000-0000-0000-0000-000000000008 2" ++ 10 ∷
    codes "state a 00000000-0000-0000-0000-000000000008 1" ++ 10 ∷
    codes "state a 00000000-0000-0000-0000-000000000008 2" ++ 10 ∷
    codes "run b goal 8 0 00000000-0000-0000-0000-000000000008" ++ 10 ∷
    codes "decide b 00000000-0000-0000-0000-000000000008 2" ++ 10 ∷
    codes "state b 00000000-0000-0000-0000-000000000008 1" ++ 10 ∷
    codes "state b 00000000-0000-0000-0000-000000000008 2" ++ 10 ∷
    codes "run a poll 7 0 00000000-0000-0000-0000-000000000007" ++ 10 ∷
    codes "run b poll 7 0 00000000-0000-0000-0000-000000000007" ++ 10 ∷
    codes "round 9 9" ++ 10 ∷
    codes "run a goal 9 0 00000000-0000-0000-0000-000000000009" ++ 10 ∷
    codes "decide a 00000000-0000-0000-0000-000000000009 2" ++ 10 ∷
    codes "state a 00000000-0000-0000-0000-000000000009 1" ++ 10 ∷
    codes "state a 00000000-0000-0000-0000-000000000009 2" ++ 10 ∷
    codes "run b goal 9 0 00000000-0000-0000-0000-000000000009" ++ 10 ∷
    codes "decide b 00000000-0000-0000-0000-000000000009 2" ++ 10 ∷
    codes "state b 00000000-0000-0000-0000-000000000009 1" ++ 10 ∷
    codes "state b 00000000-0000-0000-0000-000000000009 2" ++ 10 ∷
    codes "run a poll 8 0 00000000-0000-0000-0000-000000000008" ++ 10 ∷
    codes "run b poll 8 0 00000000-0000-0000-0000-000000000008" ++ 10 ∷
    codes "round 10 10" ++ 10 ∷
    codes "run a goal 10 0 00000000-0000-0000-0000-000000000010" ++ 10 ∷
    codes "decide a 00000000-0000-0000-0000-000000000010 2" ++ 10 ∷
    codes "state a 00000000-0000-0000-0000-000000000010 1" ++ 10 ∷
    codes "state a 00000000-0000-0000-0000-000000000010 2" ++ 10 ∷
    codes "run b goal 10 0 00000000-0000-0000-0000-000000000010" ++ 10 ∷
    codes "decide b 00000000-0000-0000-0000-000000000010 2" ++ 10 ∷
    codes "state b 00000000-0000-0000-0000-000000000010 1" ++ 10 ∷
    codes "state b 00000000-0000-0000-0000-000000000010 2" ++ 10 ∷
    codes "run a poll 9 0 00000000-0000-0000-0000-000000000009" ++ 10 ∷
    codes "run b poll 9 0 00000000-0000-0000-0000-000000000009" ++ 10 ∷
    codes "round 11 11" ++ 10 ∷
    codes "run a goal 11 0 00000000-0000-0000-0000-000000000011" ++ 10 ∷
    codes "decide a 00000000-0000-0000-0000-000000000011 2" ++ 10 ∷
    codes "state a 00000000-0000-0000-0000-000000000011 1" ++ 10 ∷
    codes "state a 00000000-0000-0000-0000-000000000011 2" ++ 10 ∷
    codes "run b goal 11 0 00000000-0000-0000-0000-000000000011" ++ 10 ∷
    codes "decide b 00000000-0000-0000-0000-000000000011 2" ++ 10 ∷
    codes "state b 00000000-0000-0000-0000-000000000011 1" ++ 10 ∷
    codes "state b 00000000-0000-0000-0000-000000000011 2" ++ 10 ∷
    codes "run a poll 10 0 00000000-0000-0000-0000-000000000010" ++ 10 ∷
    codes "run b poll 10 0 00000000-0000-0000-0000-000000000010" ++ 10 ∷
    codes "round 12 12" ++ 10 ∷
    codes "run a goal 12 0 00000000-0000-0000-0000-000000000012" ++ 10 ∷
    codes "decide a 00000000-0000-0000-0000-000000000012 2" ++ 10 ∷
    codes "state a 00000000-0000-0000-0000-000000000012 1" ++ 10 ∷
    codes "state a 00000000-0000-0000-0000-000000000012 2" ++ 10 ∷
    codes "run b goal 12 0 00000000-0000-0000-0000-000000000012" ++ 10 ∷
    codes "decide b 00000000-0000-0000-0000-000000000012 2" ++ 10 ∷
    codes "state b 00000000-0000-0000-0000-000000000012 1" ++ 10 ∷
    codes "state b 00000000-0000-0000-0000-000000000012 2" ++ 10 ∷
    codes "run a poll 11 0 00000000-0000-0000-0000-000000000011" ++ 10 ∷
    codes "run b poll 11 0 00000000-0000-0000-0000-000000000011" ++ 10 ∷
    codes "round 13 13" ++ 10 ∷
    codes "run a goal 13 0 00000000-0000-0000-0000-000000000013" ++ 10 ∷
    codes "decide a 00000000-0000-0000-0000-000000000013 2" ++ 10 ∷
    codes "state a 00000000-0000-0000-0000-000000000013 1" ++ 10 ∷
    codes "state a 00000000-0000-0000-0000-000000000013 2" ++ 10 ∷
    codes "run b goal 13 0 00000000-0000-0000-0000-000000000013" ++ 10 ∷
    codes "decide b 00000000-0000-0000-0000-000000000013 2" ++ 10 ∷
    codes "state b 00000000-0000-0000-0000-000000000013 1" ++ 10 ∷
    codes "state b 00000000-0000-0000-0000-000000000013 2" ++ 10 ∷
    codes "run a poll 12 0 00000000-0000-0000-0000-000000000012" ++ 10 ∷
    codes "run b poll 12 0 00000000-0000-0000-0000-000000000012" ++ 10 ∷
    codes "round 14 14" ++ 10 ∷
    codes "run a goal 14 0 00000000-0000-0000-0000-000000000014" ++ 10 ∷
    codes "decide a 00000000-0000-0000-0000-000000000014 2" ++ 10 ∷
    codes "state a 00000000-0000-0000-0000-000000000014 1" ++ 10 ∷
    codes "state a 00000000-0000-0000-0000-000000000014 2" ++ 10 ∷
    codes "run b goal 14 0 00000000-0000-0000-0000-000000000014" ++ 10 ∷
    codes "decide b 00000000-0000-0000-0000-000000000014 2" ++ 10 ∷
    codes "state b 00000000-0000-0000-0000-000000000014 1" ++ 10 ∷
    codes "state b 00000000-0000-0000-0000-000000000014 2" ++ 10 ∷
    codes "run a poll 13 0 00000000-0000-0000-0000-000000000013" ++ 10 ∷
    codes "run b poll 13 0 00000000-0000-0000-0000-000000000013" ++ 10 ∷
    codes "round 15 15" ++ 10 ∷
    codes "run a goal 15 0 00000000-0000-0000-0000-000000000015" ++ 10 ∷
    codes "decide a 00000000-0000-0000-0000-000000000015 2" ++ 10 ∷
    codes "state a 00000000-0000-0000-0000-000000000015 1" ++ 10 ∷
    codes "state a 00000000-0000-0000-0000-000000000015 2" ++ 10 ∷
    codes "run b goal 15 0 00000000-0000-0000-0000-000000000015" ++ 10 ∷
    codes "decide b 00000000-0000-0000-0000-000000000015 2" ++ 10 ∷
    codes "state b 00000000-0000-0000-0000-000000000015 1" ++ 10 ∷
    codes "state b 00000000-0000-0000-0000-000000000015 2" ++ 10 ∷
    codes "run a poll 14 0 00000000-0000-0000-0000-000000000014" ++ 10 ∷
    codes "run b poll 14 0 00000000-0000-0000-0000-000000000014" ++ 10 ∷
    codes "round 16 16" ++ 10 ∷
    codes "run a goal 16 0 00000000-0000-0000-0000-000000000016" ++ 10 ∷
    codes "decide a 00000000-0000-0000-0000-000000000016 2" ++ 10 ∷
    codes "state a 00000000-0000-0000-0000-000000000016 1" ++ 10 ∷
    codes "state a 00000000-0000-0000-0000-000000000016 2" ++ 10 ∷
    codes "run b goal 16 0 00000000-0000-0000-0000-000000000016" ++ 10 ∷
    codes "decide b 00000000-0000-0000-0000-000000000016 2" ++ 10 ∷
    codes "state b 00000000-0000-0000-0000-000000000016 1" ++ 10 ∷
    codes "state b 00000000-0000-0000-0000-000000000016 2" ++ 10 ∷
    codes "run a poll 15 0 00000000-0000-0000-0000-000000000015" ++ 10 ∷
    codes "run b poll 15 0 00000000-0000-0000-0000-000000000015" ++ 10 ∷
    codes "round 17 17" ++ 10 ∷
    codes "run a goal 17 0 00000000-0000-0000-0000-000000000017" ++ 10 ∷
    codes "decide a 00000000-0000-0000-0000-000000000017 2" ++ 10 ∷
    codes "state a 00000000-0000-0000-0000-000000000017 1" ++ 10 ∷
    codes "state a 00000000-0000-0000-0000-000000000017 2" ++ 10 ∷
    codes "run b goal 17 0 00000000-0000-0000-0000-000000000017" ++ 10 ∷
    codes "decide b 00000000-0000-0000-0000-000000000017 2" ++ 10 ∷
    codes "state b 00000000-0000-0000-0000-000000000017 1" ++ 10 ∷
    codes "state b 00000000-0000-0000-0000-000000000017 2" ++ 10 ∷
    codes "run a poll 16 0 00000000-0000-0000-0000-000000000016" ++ 10 ∷
    codes "run b poll 16 0 00000000-0000-0000-0000-000000000016" ++ 10 ∷
    codes "round 18 18" ++ 10 ∷
    codes "run a goal 18 0 00000000-0000-0000-0000-000000000018" ++ 10 ∷
    codes "decide a 00000000-0000-0000-0000-000000000018 2" ++ 10 ∷
    codes "state a 00000000-0000-0000-0000-000000000018 1" ++ 10 ∷
    codes "state a 00000000-0000-0000-0000-000000000018 2" ++ 10 ∷
    codes "run b goal 18 0 00000000-0000-0000-0000-000000000018" ++ 10 ∷
    codes "decide b 00000000-0000-0000-0000-000000000018 2" ++ 10 ∷
    codes "state b 00000000-0000-0000-0000-000000000018 1" ++ 10 ∷
    codes "state b 00000000-0000-0000-0000-000000000018 2" ++ 10 ∷
    codes "run a poll 17 0 00000000-0000-0000-0000-000000000017" ++ 10 ∷
    codes "run b poll 17 0 00000000-0000-0000-0000-000000000017" ++ 10 ∷
    codes "round 19 19" ++ 10 ∷
    codes "run a goal 19 0 00000000-0000-0000-0000-000000000019" ++ 10 ∷
    codes "decide a 00000000-0000-0000-0000-000000000019 2" ++ 10 ∷
    codes "state a 00000000-0000-0000-0000-000000000019 1" ++ 10 ∷
    codes "state a 00000000-0000-0000-0000-000000000019 2" ++ 10 ∷
    codes "run b goal 19 0 00000000-0000-0000-0000-000000000019" ++ 10 ∷
    codes "decide b 00000000-0000-0000-0000-000000000019 2" ++ 10 ∷
    codes "state b 00000000-0000-0000-0000-000000000019 1" ++ 10 ∷
    codes "state b 00000000-0000-0000-0000-000000000019 2" ++ 10 ∷
    codes "run a poll 18 0 00000000-0000-0000-0000-000000000018" ++ 10 ∷
    codes "run b poll 18 0 00000000-0000-0000-0000-000000000018" ++ 10 ∷
    codes "round 20 20" ++ 10 ∷
    codes "run a goal 20 0 00000000-0000-0000-0000-000000000020" ++ 10 ∷
    codes "decide a 00000000-0000-0000-0000-000000000020 2" ++ 10 ∷
    codes "state a 00000000-0000-0000-0000-000000000020 1" ++ 10 ∷
    codes "state a 00000000-0000-0000-0000-000000000020 2" ++ 10 ∷
    codes "run b goal 20 0 00000000-0000-0000-0000-000000000020" ++ 10 ∷
    codes "decide b 00000000-0000-0000-0000-000000000020 2" ++ 10 ∷
    codes "state b 00000000-0000-0000-0000-000000000020 1" ++ 10 ∷
    codes "state b 00000000-0000-0000-0000-000000000020 2" ++ 10 ∷
    codes "run a poll 19 0 00000000-0000-0000-0000-000000000019" ++ 10 ∷
    codes "run b poll 19 0 00000000-0000-0000-0000-000000000019" ++ 10 ∷
    codes "round 21 21" ++ 10 ∷
    codes "run a goal 21 0 00000000-0000-0000-0000-000000000021" ++ 10 ∷
    codes "decide a 00000000-0000-0000-0000-000000000021 2" ++ 10 ∷
    codes "state a 00000000-0000-0000-0000-000000000021 1" ++ 10 ∷
    codes "state a 00000000-0000-0000-0000-000000000021 2" ++ 10 ∷
    codes "run b goal 21 0 00000000-0000-0000-0000-000000000021" ++ 10 ∷
    codes "decide b 00000000-0000-0000-0000-000000000021 2" ++ 10 ∷
    codes "state b 00000000-0000-0000-0000-000000000021 1" ++ 10 ∷
    codes "state b 00000000-0000-0000-0000-000000000021 2" ++ 10 ∷
    codes "run a poll 20 0 00000000-0000-0000-0000-000000000020" ++ 10 ∷
    codes "run b poll 20 0 00000000-0000-0000-0000-000000000020" ++ 10 ∷
    codes "round 22 22" ++ 10 ∷
    codes "run a goal 22 0 00000000-0000-0000-0000-000000000022" ++ 10 ∷
    codes "decide a 00000000-0000-0000-0000-000000000022 2" ++ 10 ∷
    codes "state a 00000000-0000-0000-0000-000000000022 1" ++ 10 ∷
    codes "state a 00000000-0000-0000-0000-000000000022 2" ++ 10 ∷
    codes "run b goal 22 0 00000000-0000-0000-0000-000000000022" ++ 10 ∷
    codes "decide b 00000000-0000-0000-0000-000000000022 2" ++ 10 ∷
    codes "state b 00000000-0000-0000-0000-000000000022 1" ++ 10 ∷
    codes "state b 00000000-0000-0000-0000-000000000022 2" ++ 10 ∷
    codes "run a poll 21 0 00000000-0000-0000-0000-000000000021" ++ 10 ∷
    codes "run b poll 21 0 00000000-0000-0000-0000-000000000021" ++ 10 ∷
    codes "round 23 23" ++ 10 ∷
    codes "run a goal 23 0 00000000-0000-0000-0000-000000000023" ++ 10 ∷
    codes "decide a 00000000-0000-0000-0000-000000000023 2" ++ 10 ∷
    codes "state a 00000000-0000-0000-0000-000000000023 1" ++ 10 ∷
    codes "state a 00000000-0000-0000-0000-000000000023 2" ++ 10 ∷
    codes "run b goal 23 0 00000000-0000-0000-0000-000000000023" ++ 10 ∷
    codes "decide b 00000000-0000-0000-0000-000000000023 2" ++ 10 ∷
    codes "state b 00000000-0000-0000-0000-000000000023 1" ++ 10 ∷
    codes "state b 00000000-0000-0000-0000-000000000023 2" ++ 10 ∷
    codes "run a poll 22 0 00000000-0000-0000-0000-000000000022" ++ 10 ∷
    codes "run b poll 22 0 00000000-0000-0000-0000-000000000022" ++ 10 ∷
    codes "round 24 24" ++ 10 ∷
    codes "run a goal 24 0 00000000-0000-0000-0000-000000000024" ++ 10 ∷
    codes "decide a 00000000-0000-0000-0000-000000000024 2" ++ 10 ∷
    codes "state a 00000000-0000-0000-0000-000000000024 1" ++ 10 ∷
    codes "state a 00000000-0000-0000-0000-000000000024 2" ++ 10 ∷
    codes "run b goal 24 0 00000000-0000-0000-0000-000000000024" ++ 10 ∷
    codes "decide b 00000000-0000-0000-0000-000000000024 2" ++ 10 ∷
    codes "state b 00000000-0000-0000-0000-000000000024 1" ++ 10 ∷
    codes "state b 00000000-0000-0000-0000-000000000024 2" ++ 10 ∷
    codes "run a poll 23 0 00000000-0000-0000-0000-000000000023" ++ 10 ∷
    codes "run b poll 23 0 00000000-0000-0000-0000-000000000023" ++ 10 ∷
    codes "round 25 25" ++ 10 ∷
    codes "run a goal 25 0 00000000-0000-0000-0000-000000000025" ++ 10 ∷
    codes "decide a 00000000-0000-0000-0000-000000000025 2" ++ 10 ∷
    codes "state a 00000000-0000-0000-0000-000000000025 1" ++ 10 ∷
    codes "state a 00000000-0000-0000-0000-000000000025 2" ++ 10 ∷
    codes "run b goal 25 0 00000000-0000-0000-0000-000000000025" ++ 10 ∷
    codes "decide b 00000000-0000-0000-0000-000000000025 2" ++ 10 ∷
    codes "state b 00000000-0000-0000-0000-000000000025 1" ++ 10 ∷
    codes "state b 00000000-0000-0000-0000-000000000025 2" ++ 10 ∷
    codes "run a poll 24 0 00000000-0000-0000-0000-000000000024" ++ 10 ∷
    codes "run b poll 24 0 00000000-0000-0000-0000-000000000024" ++ 10 ∷
    codes "round 26 26" ++ 10 ∷
    codes "run a goal 26 0 00000000-0000-0000-0000-000000000026" ++ 10 ∷
    codes "decide a 00000000-0000-0000-0000-000000000026 2" ++ 10 ∷
    codes "state a 00000000-0000-0000-0000-000000000026 1" ++ 10 ∷
    codes "state a 00000000-0000-0000-0000-000000000026 2" ++ 10 ∷
    codes "run b goal 26 0 00000000-0000-0000-0000-000000000026" ++ 10 ∷
    codes "decide b 00000000-0000-0000-0000-000000000026 2" ++ 10 ∷
    codes "state b 00000000-0000-0000-0000-000000000026 1" ++ 10 ∷
    codes "state b 00000000-0000-0000-0000-000000000026 2" ++ 10 ∷
    codes "run a poll 25 0 00000000-0000-0000-0000-000000000025" ++ 10 ∷
    codes "run b poll 25 0 00000000-0000-0000-0000-000000000025" ++ 10 ∷
    codes "round 27 27" ++ 10 ∷
    codes "run a goal 27 0 00000000-0000-0000-0000-000000000027" ++ 10 ∷
    codes "decide a 00000000-0000-0000-0000-000000000027 2" ++ 10 ∷
    codes "state a 00000000-0000-0000-0000-000000000027 1" ++ 10 ∷
    codes "state a 00000000-0000-0000-0000-000000000027 2" ++ 10 ∷
    codes "run b goal 27 0 00000000-0000-0000-0000-000000000027" ++ 10 ∷
    codes "decide b 00000000-0000-0000-0000-000000000027 2" ++ 10 ∷
    codes "state b 00000000-0000-0000-0000-000000000027 1" ++ 10 ∷
    codes "state b 00000000-0000-0000-0000-000000000027 2" ++ 10 ∷
    codes "run a poll 26 0 00000000-0000-0000-0000-000000000026" ++ 10 ∷
    codes "run b poll 26 0 00000000-0000-0000-0000-000000000026" ++ 10 ∷
    codes "round 28 28" ++ 10 ∷
    codes "run a goal 28 0 00000000-0000-0000-0000-000000000028" ++ 10 ∷
    codes "decide a 00000000-0000-0000-0000-000000000028 2" ++ 10 ∷
    codes "state a 00000000-0000-0000-0000-000000000028 1" ++ 10 ∷
    codes "state a 00000000-0000-0000-0000-000000000028 2" ++ 10 ∷
    codes "run b goal 28 0 00000000-0000-0000-0000-000000000028" ++ 10 ∷
    codes "decide b 00000000-0000-0000-0000-000000000028 2" ++ 10 ∷
    codes "state b 00000000-0000-0000-0000-000000000028 1" ++ 10 ∷
    codes "state b 00000000-0000-0000-0000-000000000028 2" ++ 10 ∷
    codes "run a poll 27 0 00000000-0000-0000-0000-000000000027" ++ 10 ∷
    codes "run b poll 27 0 00000000-0000-0000-0000-000000000027" ++ 10 ∷
    codes "round 29 29" ++ 10 ∷
    codes "run a goal 29 0 00000000-0000-0000-0000-000000000029" ++ 10 ∷
    codes "decide a 00000000-0000-0000-0000-000000000029 2" ++ 10 ∷
    codes "state a 00000000-0000-0000-0000-000000000029 1" ++ 10 ∷
    codes "state a 00000000-0000-0000-0000-000000000029 2" ++ 10 ∷
    codes "run b goal 29 0 00000000-0000-0000-0000-000000000029" ++ 10 ∷
    codes "decide b 00000000-0000-0000-0000-000000000029 2" ++ 10 ∷
    codes "state b 00000000-0000-0000-0000-000000000029 1" ++ 10 ∷
    codes "state b 00000000-0000-0000-0000-000000000029 2" ++ 10 ∷
    codes "run a poll 28 0 00000000-0000-0000-0000-000000000028" ++ 10 ∷
    codes "run b poll 28 0 00000000-0000-0000-0000-000000000028" ++ 10 ∷
    codes "round 30 30" ++ 10 ∷
    codes "run a goal 30 0 00000000-0000-0000-0000-000000000030" ++ 10 ∷
    codes "decide a 00000000-0000-0000-0000-000000000030 2" ++ 10 ∷
    codes "state a 00000000-0000-0000-0000-000000000030 1" ++ 10 ∷
    codes "state a 00000000-0000-0000-0000-000000000030 2" ++ 10 ∷
    codes "run b goal 30 0 00000000-0000-0000-0000-000000000030" ++ 10 ∷
    codes "decide b 00000000-0000-0000-0000-000000000030 2" ++ 10 ∷
    codes "state b 00000000-0000-0000-0000-000000000030 1" ++ 10 ∷
    codes "state b 00000000-0000-0000-0000-000000000030 2" ++ 10 ∷
    codes "run a poll 29 0 00000000-0000-0000-0000-000000000029" ++ 10 ∷
    codes "run b poll 29 0 00000000-0000-0000-0000-000000000029" ++ 10 ∷
    codes "round 31 31" ++ 10 ∷
    codes "run a goal 31 0 00000000-0000-0000-0000-000000000031" ++ 10 ∷
    codes "decide a 00000000-0000-0000-0000-000000000031 2" ++ 10 ∷
    codes "state a 00000000-0000-0000-0000-000000000031 1" ++ 10 ∷
    codes "state a 00000000-0000-0000-0000-000000000031 2" ++ 10 ∷
    codes "run b goal 31 0 00000000-0000-0000-0000-000000000031" ++ 10 ∷
    codes "decide b 00000000-0000-0000-0000-000000000031 2" ++ 10 ∷
    codes "state b 00000000-0000-0000-0000-000000000031 1" ++ 10 ∷
    codes "state b 00000000-0000-0000-0000-000000000031 2" ++ 10 ∷
    codes "run a poll 30 0 00000000-0000-0000-0000-000000000030" ++ 10 ∷
    codes "run b poll 30 0 00000000-0000-0000-0000-000000000030" ++ 10 ∷
    codes "round 32 32" ++ 10 ∷
    codes "run a goal 32 0 00000000-0000-0000-0000-000000000032" ++ 10 ∷
    codes "decide a 00000000-0000-0000-0000-000000000032 2" ++ 10 ∷
    codes "state a 00000000-0000-0000-0000-000000000032 1" ++ 10 ∷
    codes "state a 00000000-0000-0000-0000-000000000032 2" ++ 10 ∷
    codes "run b goal 32 0 00000000-0000-0000-0000-000000000032" ++ 10 ∷
    codes "decide b 00000000-0000-0000-0000-000000000032 2" ++ 10 ∷
    codes "state b 00000000-0000-0000-0000-000000000032 1" ++ 10 ∷
    codes "state b 00000000-0000-0000-0000-000000000032 2" ++ 10 ∷
    codes "run a poll 31 0 00000000-0000-0000-0000-000000000031" ++ 10 ∷
    codes "run b poll 31 0 00000000-0000-0000-0000-000000000031" ++ 10 ∷
    codes "round 33 33" ++ 10 ∷
    codes "run a goal 33 0 00000000-0000-0000-0000-000000000033" ++ 10 ∷
    codes "decide a 00000000-0000-0000-0000-000000000033 2" ++ 10 ∷
    codes "state a 00000000-0000-0000-0000-000000000033 1" ++ 10 ∷
    codes "state a 00000000-0000-0000-0000-000000000033 2" ++ 10 ∷
    codes "run a poll 32 0 00000000-0000-0000-0000-000000000032" ++ 10 ∷
    codes "run b poll 32 0 00000000-0000-0000-0000-000000000032" ++ 10 ∷
    codes "round 34 34" ++ 10 ∷
    codes "run a poll 1 0 00000000-0000-0000-0000-000000000001" ++ 10 ∷
    codes "state a 00000000-0000-0000-0000-000000000001 4" ++ 10 ∷
    codes "run a poll 2 0 00000000-0000-0000-0000-000000000002" ++ 10 ∷
    codes "state a 00000000-0000-0000-0000-000000000002 4" ++ 10 ∷
    codes "run a poll 3 0 00000000-0000-0000-0000-000000000003" ++ 10 ∷
    codes "state a 00000000-0000-0000-0000-000000000003 4" ++ 10 ∷
    codes "run a poll 4 0 00000000-0000-0000-0000-000000000004" ++ 10 ∷
    codes "state a 00000000-0000-0000-0000-000000000004 4" ++ 10 ∷
    codes "run a poll 5 0 00000000-0000-0000-0000-000000000005" ++ 10 ∷
    codes "state a 00000000-0000-0000-0000-000000000005 4" ++ 10 ∷
    codes "run a poll 6 0 00000000-0000-0000-0000-000000000006" ++ 10 ∷
    codes "state a 00000000-0000-0000-0000-000000000006 4" ++ 10 ∷
    codes "run a poll 7 0 00000000-0000-0000-0000-000000000007" ++ 10 ∷
    codes "state a 00000000-0000-0000-0000-000000000007 4" ++ 10 ∷
    codes "run a poll 8 0 00000000-0000-0000-0000-000000000008" ++ 10 ∷
    codes "state a 00000000-0000-0000-0000-000000000008 4" ++ 10 ∷
    codes "run a poll 9 0 00000000-0000-0000-0000-000000000009" ++ 10 ∷
    codes "state a 00000000-0000-0000-0000-000000000009 4" ++ 10 ∷
    codes "run a poll 10 0 00000000-0000-0000-0000-000000000010" ++ 10 ∷
    codes "state a 00000000-0000-0000-0000-000000000010 4" ++ 10 ∷
    codes "run a poll 11 0 00000000-0000-0000-0000-000000000011" ++ 10 ∷
    codes "state a 00000000-0000-0000-0000-000000000011 4" ++ 10 ∷
    codes "run a poll 12 0 00000000-0000-0000-0000-000000000012" ++ 10 ∷
    codes "state a 00000000-0000-0000-0000-000000000012 4" ++ 10 ∷
    codes "run a poll 13 0 00000000-0000-0000-0000-000000000013" ++ 10 ∷
    codes "state a 00000000-0000-0000-0000-000000000013 4" ++ 10 ∷
    codes "run a poll 14 0 00000000-0000-0000-0000-000000000014" ++ 10 ∷
    codes "state a 00000000-0000-0000-0000-000000000014 4" ++ 10 ∷
    codes "run a poll 15 0 00000000-0000-0000-0000-000000000015" ++ 10 ∷
    codes "state a 00000000-0000-0000-0000-000000000015 4" ++ 10 ∷
    codes "run a poll 16 0 00000000-0000-0000-0000-000000000016" ++ 10 ∷
    codes "state a 00000000-0000-0000-0000-000000000016 4" ++ 10 ∷
    codes "run a poll 17 0 00000000-0000-0000-0000-000000000017" ++ 10 ∷
    codes "state a 00000000-0000-0000-0000-000000000017 4" ++ 10 ∷
    codes "run a poll 18 0 00000000-0000-0000-0000-000000000018" ++ 10 ∷
    codes "state a 00000000-0000-0000-0000-000000000018 4" ++ 10 ∷
    codes "run a poll 19 0 00000000-0000-0000-0000-000000000019" ++ 10 ∷
    codes "state a 00000000-0000-0000-0000-000000000019 4" ++ 10 ∷
    codes "run a poll 20 0 00000000-0000-0000-0000-000000000020" ++ 10 ∷
    codes "state a 00000000-0000-0000-0000-000000000020 4" ++ 10 ∷
    codes "run a poll 21 0 00000000-0000-0000-0000-000000000021" ++ 10 ∷
    codes "state a 00000000-0000-0000-0000-000000000021 4" ++ 10 ∷
    codes "run a poll 22 0 00000000-0000-0000-0000-000000000022" ++ 10 ∷
    codes "state a 00000000-0000-0000-0000-000000000022 4" ++ 10 ∷
    codes "run a poll 23 0 00000000-0000-0000-0000-000000000023" ++ 10 ∷
    codes "state a 00000000-0000-0000-0000-000000000023 4" ++ 10 ∷
    codes "run a poll 24 0 00000000-0000-0000-0000-000000000024" ++ 10 ∷
    codes "state a 00000000-0000-0000-0000-000000000024 4" ++ 10 ∷
    codes "run a poll 25 0 00000000-0000-0000-0000-000000000025" ++ 10 ∷
    codes "state a 00000000-0000-0000-0000-000000000025 4" ++ 10 ∷
    codes "run a poll 26 0 00000000-0000-0000-0000-000000000026" ++ 10 ∷
    codes "state a 00000000-0000-0000-0000-000000000026 4" ++ 10 ∷
    codes "run a poll 27 0 00000000-0000-0000-0000-000000000027" ++ 10 ∷
    codes "state a 00000000-0000-0000-0000-000000000027 4" ++ 10 ∷
    codes "run a poll 28 0 00000000-0000-0000-0000-000000000028" ++ 10 ∷
    codes "state a 00000000-0000-0000-0000-000000000028 4" ++ 10 ∷
    codes "run a poll 29 0 00000000-0000-0000-0000-000000000029" ++ 10 ∷
    codes "state a 00000000-0000-0000-0000-000000000029 4" ++ 10 ∷
    codes "run a poll 30 0 00000000-0000-0000-0000-000000000030" ++ 10 ∷
    codes "state a 00000000-0000-0000-0000-000000000030 4" ++ 10 ∷
    codes "run a poll 31 0 00000000-0000-0000-0000-000000000031" ++ 10 ∷
    codes "state a 00000000-0000-0000-0000-000000000031 4" ++ 10 ∷
    codes "run a poll 32 0 00000000-0000-0000-0000-000000000032" ++ 10 ∷
    codes "state a 00000000-0000-0000-0000-000000000032 4" ++ 10 ∷
    codes "run a poll 33 0 00000000-0000-0000-0000-000000000033" ++ 10 ∷
    codes "run b poll 1 0 00000000-0000-0000-0000-000000000001" ++ 10 ∷
    codes "state b 00000000-0000-0000-0000-000000000001 4" ++ 10 ∷
    codes "run b poll 2 0 00000000-0000-0000-0000-000000000002" ++ 10 ∷
    codes "state b 00000000-0000-0000-0000-000000000002 4" ++ 10 ∷
    codes "run b poll 3 0 00000000-0000-0000-0000-000000000003" ++ 10 ∷
    codes "state b 00000000-0000-0000-0000-000000000003 4" ++ 10 ∷
    codes "run b poll 4 0 00000000-0000-0000-0000-000000000004" ++ 10 ∷
    codes "state b 00000000-0000-0000-0000-000000000004 4" ++ 10 ∷
    codes "run b poll 5 0 00000000-0000-0000-0000-000000000005" ++ 10 ∷
    codes "state b 00000000-0000-0000-0000-000000000005 4" ++ 10 ∷
    codes "run b poll 6 0 00000000-0000-0000-0000-000000000006" ++ 10 ∷
    codes "state b 00000000-0000-0000-0000-000000000006 4" ++ 10 ∷
    codes "run b poll 7 0 00000000-0000-0000-0000-000000000007" ++ 10 ∷
    codes "state b 00000000-0000-0000-0000-000000000007 4" ++ 10 ∷
    codes "run b poll 8 0 00000000-0000-0000-0000-000000000008" ++ 10 ∷
    codes "state b 00000000-0000-0000-0000-000000000008 4" ++ 10 ∷
    codes "run b poll 9 0 00000000-0000-0000-0000-000000000009" ++ 10 ∷
    codes "state b 00000000-0000-0000-0000-000000000009 4" ++ 10 ∷
    codes "run b poll 10 0 00000000-0000-0000-0000-000000000010" ++ 10 ∷
    codes "state b 00000000-0000-0000-0000-000000000010 4" ++ 10 ∷
    codes "run b poll 11 0 00000000-0000-0000-0000-000000000011" ++ 10 ∷
    codes "state b 00000000-0000-0000-0000-000000000011 4" ++ 10 ∷
    codes "run b poll 12 0 00000000-0000-0000-0000-000000000012" ++ 10 ∷
    codes "state b 00000000-0000-0000-0000-000000000012 4" ++ 10 ∷
    codes "run b poll 13 0 00000000-0000-0000-0000-000000000013" ++ 10 ∷
    codes "state b 00000000-0000-0000-0000-000000000013 4" ++ 10 ∷
    codes "run b poll 14 0 00000000-0000-0000-0000-000000000014" ++ 10 ∷
    codes "state b 00000000-0000-0000-0000-000000000014 4" ++ 10 ∷
    codes "run b poll 15 0 00000000-0000-0000-0000-000000000015" ++ 10 ∷
    codes "state b 00000000-0000-0000-0000-000000000015 4" ++ 10 ∷
    codes "run b poll 16 0 00000000-0000-0000-0000-000000000016" ++ 10 ∷
    codes "state b 00000000-0000-0000-0000-000000000016 4" ++ 10 ∷
    codes "run b poll 17 0 00000000-0000-0000-0000-000000000017" ++ 10 ∷
    codes "state b 00000000-0000-0000-0000-000000000017 4" ++ 10 ∷
    codes "run b poll 18 0 00000000-0000-0000-0000-000000000018" ++ 10 ∷
    codes "state b 00000000-0000-0000-0000-000000000018 4" ++ 10 ∷
    codes "run b poll 19 0 00000000-0000-0000-0000-000000000019" ++ 10 ∷
    codes "state b 00000000-0000-0000-0000-000000000019 4" ++ 10 ∷
    codes "run b poll 20 0 00000000-0000-0000-0000-000000000020" ++ 10 ∷
    codes "state b 00000000-0000-0000-0000-000000000020 4" ++ 10 ∷
    codes "run b poll 21 0 00000000-0000-0000-0000-000000000021" ++ 10 ∷
    codes "state b 00000000-0000-0000-0000-000000000021 4" ++ 10 ∷
    codes "run b poll 22 0 00000000-0000-0000-0000-000000000022" ++ 10 ∷
    codes "state b 00000000-0000-0000-0000-000000000022 4" ++ 10 ∷
    codes "run b poll 23 0 00000000-0000-0000-0000-000000000023" ++ 10 ∷
    codes "state b 00000000-0000-0000-0000-000000000023 4" ++ 10 ∷
    codes "run b poll 24 0 00000000-0000-0000-0000-000000000024" ++ 10 ∷
    codes "state b 00000000-0000-0000-0000-000000000024 4" ++ 10 ∷
    codes "run b poll 25 0 00000000-0000-0000-0000-000000000025" ++ 10 ∷
    codes "state b 00000000-0000-0000-0000-000000000025 4" ++ 10 ∷
    codes "run b poll 26 0 00000000-0000-0000-0000-000000000026" ++ 10 ∷
    codes "state b 00000000-0000-0000-0000-000000000026 4" ++ 10 ∷
    codes "run b poll 27 0 00000000-0000-0000-0000-000000000027" ++ 10 ∷
    codes "state b 00000000-0000-0000-0000-000000000027 4" ++ 10 ∷
    codes "run b poll 28 0 00000000-0000-0000-0000-000000000028" ++ 10 ∷
    codes "state b 00000000-0000-0000-0000-000000000028 4" ++ 10 ∷
    codes "run b poll 29 0 00000000-0000-0000-0000-000000000029" ++ 10 ∷
    codes "state b 00000000-0000-0000-0000-000000000029 4" ++ 10 ∷
    codes "run b poll 30 0 00000000-0000-0000-0000-000000000030" ++ 10 ∷
    codes "state b 00000000-0000-0000-0000-000000000030 4" ++ 10 ∷
    codes "run b poll 31 0 00000000-0000-0000-0000-000000000031" ++ 10 ∷
    codes "state b 00000000-0000-0000-0000-000000000031 4" ++ 10 ∷
    codes "run b poll 32 0 00000000-0000-0000-0000-000000000032" ++ 10 ∷
    codes "state b 00000000-0000-0000-0000-000000000032 4" ++ 10 ∷
    codes "end 34" ++ 10 ∷
    []

-- cases/run/subscription.json
abbrev pub subscription_document : List ℕ
subscription_document =
    codes "{\"version\":1,\"topics\":[\"x\"],\"nodes\":[{\"name\":\"n\",\"timers\":[{\"name\":\"t\",\"period\":1,\"script\":[[\"pub\",\"" ++
    codes "x\",\"now\"]]}],\"subscriptions\":[{\"name\":\"s\",\"topic\":\"x\",\"script\":[[\"log\",\"in\"]]}]}],\"moments\":[1],\"fee" ++
    codes "d\":[{\"round\":1,\"topic\":\"x\",\"value\":2}]}" ++
    []

abbrev pub subscription_transcript : List ℕ
subscription_transcript =
    codes "round 1 1" ++ 10 ∷
    codes "run t timer 1 0" ++ 10 ∷
    codes "pub x 1" ++ 10 ∷
    codes "run s message 2 0" ++ 10 ∷
    codes "log s 2" ++ 10 ∷
    codes "end 1" ++ 10 ∷
    []

-- cases/run/three_exclusive_groups.json
abbrev pub three_exclusive_groups_document : List ℕ
three_exclusive_groups_document =
    codes "{\"version\":1,\"nodes\":[{\"name\":\"n\",\"groups\":[{\"name\":\"g1\",\"kind\":\"exclusive\"},{\"name\":\"g2\",\"kind\":\"ex" ++
    codes "clusive\"},{\"name\":\"g3\",\"kind\":\"exclusive\"}],\"timers\":[{\"name\":\"t1\",\"period\":1,\"group\":\"g1\",\"script\":" ++
    codes "[[\"log\",\"now\"]]},{\"name\":\"t2\",\"period\":1,\"group\":\"g2\",\"script\":[[\"log\",\"now\"]]},{\"name\":\"t3\",\"period" ++
    codes "\":1,\"group\":\"g3\",\"script\":[[\"log\",\"now\"]]}]}],\"moments\":[1]}" ++ 10 ∷
    []

abbrev pub three_exclusive_groups_transcript : List ℕ
three_exclusive_groups_transcript =
    codes "round 1 1" ++ 10 ∷
    codes "run t1 timer 1 0" ++ 10 ∷
    codes "log t1 1" ++ 10 ∷
    codes "run t2 timer 1 0" ++ 10 ∷
    codes "log t2 1" ++ 10 ∷
    codes "run t3 timer 1 0" ++ 10 ∷
    codes "log t3 1" ++ 10 ∷
    codes "end 1" ++ 10 ∷
    []

-- cases/run/three_messages_into_a_depth_of_2.json
abbrev pub three_messages_into_a_depth_of_2_document : List ℕ
three_messages_into_a_depth_of_2_document =
    codes "{\"version\":1,\"nodes\":[{\"name\":\"n\",\"timers\":[{\"name\":\"t\",\"period\":10,\"script\":[[\"pub\",\"x\",1],[\"pub\",\"" ++
    codes "x\",2],[\"pub\",\"x\",3]]}],\"subscriptions\":[{\"name\":\"s\",\"topic\":\"x\",\"depth\":2}]}],\"moments\":[10,11,12,13" ++
    codes "],\"topics\":[\"x\"]}" ++ 10 ∷
    []

abbrev pub three_messages_into_a_depth_of_2_transcript : List ℕ
three_messages_into_a_depth_of_2_transcript =
    codes "round 1 10" ++ 10 ∷
    codes "run t timer 10 0" ++ 10 ∷
    codes "pub x 1" ++ 10 ∷
    codes "pub x 2" ++ 10 ∷
    codes "pub x 3" ++ 10 ∷
    codes "drop s message 1" ++ 10 ∷
    codes "round 2 11" ++ 10 ∷
    codes "run s message 2 0" ++ 10 ∷
    codes "round 3 12" ++ 10 ∷
    codes "run s message 3 0" ++ 10 ∷
    codes "round 4 13" ++ 10 ∷
    codes "end 4" ++ 10 ∷
    []

-- cases/run/timers_at_their_times.json
abbrev pub timers_at_their_times_document : List ℕ
timers_at_their_times_document =
    codes "{\"version\":1,\"nodes\":[{\"name\":\"n\",\"timers\":[{\"name\":\"t\",\"period\":2},{\"name\":\"u\",\"period\":3,\"script\":" ++
    codes "[[\"set\",\"r0\",\"add\",\"r0\",1],[\"log\",\"r0\"]]}]}],\"moments\":[2,3,4,6]}" ++
    []

abbrev pub timers_at_their_times_transcript : List ℕ
timers_at_their_times_transcript =
    codes "round 1 2" ++ 10 ∷
    codes "run t timer 2 0" ++ 10 ∷
    codes "round 2 3" ++ 10 ∷
    codes "run u timer 3 0" ++ 10 ∷
    codes "log u 1" ++ 10 ∷
    codes "round 3 4" ++ 10 ∷
    codes "run t timer 4 0" ++ 10 ∷
    codes "round 4 6" ++ 10 ∷
    codes "run t timer 6 0" ++ 10 ∷
    codes "run u timer 6 0" ++ 10 ∷
    codes "log u 1" ++ 10 ∷
    codes "end 4" ++ 10 ∷
    []

-- cases/run/topic.json
abbrev pub topic_document : List ℕ
topic_document =
    codes "{\"version\":1,\"topics\":[\"t\"]}" ++
    []

abbrev pub topic_transcript : List ℕ
topic_transcript =
    codes "end 0" ++ 10 ∷
    []

-- cases/run/two_calls_into_a_depth_of_1.json
abbrev pub two_calls_into_a_depth_of_1_document : List ℕ
two_calls_into_a_depth_of_1_document =
    codes "{\"version\":1,\"nodes\":[{\"name\":\"n\",\"timers\":[{\"name\":\"t\",\"period\":5,\"script\":[[\"call\",\"c1\",1],[\"call\"" ++
    codes ",\"c2\",2]]}],\"services\":[{\"name\":\"s\",\"depth\":1,\"script\":[[\"reply\",\"in\"]]}],\"clients\":[{\"name\":\"c1\",\"s" ++
    codes "ervice\":\"s\"},{\"name\":\"c2\",\"service\":\"s\"}]}],\"moments\":[5,6,7]}" ++ 10 ∷
    []

abbrev pub two_calls_into_a_depth_of_1_transcript : List ℕ
two_calls_into_a_depth_of_1_transcript =
    codes "round 1 5" ++ 10 ∷
    codes "run t timer 5 0" ++ 10 ∷
    codes "call c1 1 1" ++ 10 ∷
    codes "call c2 1 2" ++ 10 ∷
    codes "drop s request 1" ++ 10 ∷
    codes "round 2 6" ++ 10 ∷
    codes "run s request 2 0" ++ 10 ∷
    codes "reply s 2" ++ 10 ∷
    codes "round 3 7" ++ 10 ∷
    codes "run c2 reply 2 1" ++ 10 ∷
    codes "pending c1 1" ++ 10 ∷
    codes "end 3" ++ 10 ∷
    []

-- cases/run/two_clients_of_a_server.json
abbrev pub two_clients_of_a_server_document : List ℕ
two_clients_of_a_server_document =
    codes "{\"version\":1,\"nodes\":[{\"name\":\"m\",\"timers\":[{\"name\":\"t1\",\"period\":2,\"script\":[[\"goal\",\"j\",1],[\"goal\"" ++
    codes ",\"i\",2]]}],\"action_clients\":[{\"name\":\"j\",\"action\":\"a\",\"on_response\":[[\"log\",\"aux\"]],\"on_code\":[[\"log" ++
    codes "\",\"aux\"]],\"on_feedback\":[[\"cancel\",\"j\",\"goal\",\"aux\"]],\"on_result\":[[\"log\",\"aux\"]]},{\"name\":\"i\",\"acti" ++
    codes "on\":\"a\",\"on_result\":[]}]},{\"name\":\"n\",\"timers\":[{\"name\":\"t2\",\"period\":2,\"script\":[[\"goal\",\"k\",3],[\"c" ++
    codes "ancel\",\"k\",\"goal\",1]]}],\"actions\":[{\"name\":\"a\",\"on_goal\":[[\"decide\",2]],\"on_cancel\":[[\"decide\",2]],\"" ++
    codes "script\":[[\"feedback\",\"in\"],[\"wait\",3],[\"skip\",\"aux\",1],[\"succeed\",4],[\"canceled\",5]]}],\"action_clien" ++
    codes "ts\":[{\"name\":\"k\",\"action\":\"a\",\"on_code\":[[\"log\",\"in\"]],\"on_result\":[[\"log\",\"in\"]]}]}],\"moments\":[2,3" ++
    codes ",4,5,6,6,7,8]}" ++ 10 ∷
    []

abbrev pub two_clients_of_a_server_transcript : List ℕ
two_clients_of_a_server_transcript =
    codes "round 1 2" ++ 10 ∷
    codes "run t1 timer 2 0" ++ 10 ∷
    codes "goal j 00000000-0000-0001-0000-000000000001 1" ++ 10 ∷
    codes "goal i 00000000-0000-0002-0000-000000000001 2" ++ 10 ∷
    codes "run t2 timer 2 0" ++ 10 ∷
    codes "goal k 00000000-0000-0003-0000-000000000001 3" ++ 10 ∷
    codes "cancel k 00000000-0000-0003-0000-000000000001 0" ++ 10 ∷
    codes "round 2 3" ++ 10 ∷
    codes "run a goal 1 0 00000000-0000-0001-0000-000000000001" ++ 10 ∷
    codes "decide a 00000000-0000-0001-0000-000000000001 2" ++ 10 ∷
    codes "state a 00000000-0000-0001-0000-000000000001 1" ++ 10 ∷
    codes "state a 00000000-0000-0001-0000-000000000001 2" ++ 10 ∷
    codes "run a cancel 0 0 00000000-0000-0003-0000-000000000001" ++ 10 ∷
    codes "code a 2 0" ++ 10 ∷
    codes "round 3 4" ++ 10 ∷
    codes "run t1 timer 4 0" ++ 10 ∷
    codes "goal j 00000000-0000-0001-0000-000000000002 1" ++ 10 ∷
    codes "goal i 00000000-0000-0002-0000-000000000002 2" ++ 10 ∷
    codes "run t2 timer 4 0" ++ 10 ∷
    codes "goal k 00000000-0000-0003-0000-000000000002 3" ++ 10 ∷
    codes "cancel k 00000000-0000-0003-0000-000000000001 0" ++ 10 ∷
    codes "run a goal 2 0 00000000-0000-0002-0000-000000000001" ++ 10 ∷
    codes "decide a 00000000-0000-0002-0000-000000000001 2" ++ 10 ∷
    codes "state a 00000000-0000-0002-0000-000000000001 1" ++ 10 ∷
    codes "state a 00000000-0000-0002-0000-000000000001 2" ++ 10 ∷
    codes "run a poll 1 0 00000000-0000-0001-0000-000000000001" ++ 10 ∷
    codes "feedback a 00000000-0000-0001-0000-000000000001 1" ++ 10 ∷
    codes "run j response 1 1 00000000-0000-0001-0000-000000000001" ++ 10 ∷
    codes "log j 1" ++ 10 ∷
    codes "ask j 00000000-0000-0001-0000-000000000001" ++ 10 ∷
    codes "run k code 2 0" ++ 10 ∷
    codes "log k 2" ++ 10 ∷
    codes "round 4 5" ++ 10 ∷
    codes "run a goal 3 0 00000000-0000-0003-0000-000000000001" ++ 10 ∷
    codes "decide a 00000000-0000-0003-0000-000000000001 2" ++ 10 ∷
    codes "state a 00000000-0000-0003-0000-000000000001 1" ++ 10 ∷
    codes "state a 00000000-0000-0003-0000-000000000001 2" ++ 10 ∷
    codes "run a cancel 0 0 00000000-0000-0003-0000-000000000001" ++ 10 ∷
    codes "code a 1 0" ++ 10 ∷
    codes "run a ask 0 0 00000000-0000-0001-0000-000000000001" ++ 10 ∷
    codes "run a poll 2 0 00000000-0000-0002-0000-000000000001" ++ 10 ∷
    codes "feedback a 00000000-0000-0002-0000-000000000001 2" ++ 10 ∷
    codes "run i response 1 1 00000000-0000-0002-0000-000000000001" ++ 10 ∷
    codes "ask i 00000000-0000-0002-0000-000000000001" ++ 10 ∷
    codes "run j feedback 1 1 00000000-0000-0001-0000-000000000001" ++ 10 ∷
    codes "cancel j 00000000-0000-0001-0000-000000000001 0" ++ 10 ∷
    codes "round 5 6" ++ 10 ∷
    codes "run t1 timer 6 0" ++ 10 ∷
    codes "goal j 00000000-0000-0001-0000-000000000003 1" ++ 10 ∷
    codes "goal i 00000000-0000-0002-0000-000000000003 2" ++ 10 ∷
    codes "run t2 timer 6 0" ++ 10 ∷
    codes "goal k 00000000-0000-0003-0000-000000000003 3" ++ 10 ∷
    codes "cancel k 00000000-0000-0003-0000-000000000001 0" ++ 10 ∷
    codes "run a goal 1 0 00000000-0000-0001-0000-000000000002" ++ 10 ∷
    codes "decide a 00000000-0000-0001-0000-000000000002 2" ++ 10 ∷
    codes "state a 00000000-0000-0001-0000-000000000002 1" ++ 10 ∷
    codes "state a 00000000-0000-0001-0000-000000000002 2" ++ 10 ∷
    codes "run a cancel 0 1 00000000-0000-0001-0000-000000000001" ++ 10 ∷
    codes "state a 00000000-0000-0001-0000-000000000001 3" ++ 10 ∷
    codes "code a 0 1" ++ 10 ∷
    codes "run a ask 0 0 00000000-0000-0002-0000-000000000001" ++ 10 ∷
    codes "run a poll 3 0 00000000-0000-0003-0000-000000000001" ++ 10 ∷
    codes "feedback a 00000000-0000-0003-0000-000000000001 3" ++ 10 ∷
    codes "run k response 1 1 00000000-0000-0003-0000-000000000001" ++ 10 ∷
    codes "ask k 00000000-0000-0003-0000-000000000001" ++ 10 ∷
    codes "run k code 1 0" ++ 10 ∷
    codes "log k 1" ++ 10 ∷
    codes "run i feedback 2 1 00000000-0000-0002-0000-000000000001" ++ 10 ∷
    codes "round 6 6" ++ 10 ∷
    codes "run a goal 2 0 00000000-0000-0002-0000-000000000002" ++ 10 ∷
    codes "decide a 00000000-0000-0002-0000-000000000002 2" ++ 10 ∷
    codes "state a 00000000-0000-0002-0000-000000000002 1" ++ 10 ∷
    codes "state a 00000000-0000-0002-0000-000000000002 2" ++ 10 ∷
    codes "run a cancel 0 1 00000000-0000-0003-0000-000000000001" ++ 10 ∷
    codes "state a 00000000-0000-0003-0000-000000000001 3" ++ 10 ∷
    codes "code a 0 1" ++ 10 ∷
    codes "run a ask 0 0 00000000-0000-0003-0000-000000000001" ++ 10 ∷
    codes "run a poll 1 1 00000000-0000-0001-0000-000000000001" ++ 10 ∷
    codes "state a 00000000-0000-0001-0000-000000000001 5" ++ 10 ∷
    codes "result a 00000000-0000-0001-0000-000000000001 5 5" ++ 10 ∷
    codes "run a poll 1 0 00000000-0000-0001-0000-000000000002" ++ 10 ∷
    codes "feedback a 00000000-0000-0001-0000-000000000002 1" ++ 10 ∷
    codes "run j response 1 2 00000000-0000-0001-0000-000000000002" ++ 10 ∷
    codes "log j 2" ++ 10 ∷
    codes "ask j 00000000-0000-0001-0000-000000000002" ++ 10 ∷
    codes "run j code 0 1" ++ 10 ∷
    codes "log j 1" ++ 10 ∷
    codes "run k feedback 3 1 00000000-0000-0003-0000-000000000001" ++ 10 ∷
    codes "round 7 7" ++ 10 ∷
    codes "run a goal 3 0 00000000-0000-0003-0000-000000000002" ++ 10 ∷
    codes "decide a 00000000-0000-0003-0000-000000000002 2" ++ 10 ∷
    codes "state a 00000000-0000-0003-0000-000000000002 1" ++ 10 ∷
    codes "state a 00000000-0000-0003-0000-000000000002 2" ++ 10 ∷
    codes "run a ask 0 0 00000000-0000-0001-0000-000000000002" ++ 10 ∷
    codes "run a poll 3 1 00000000-0000-0003-0000-000000000001" ++ 10 ∷
    codes "state a 00000000-0000-0003-0000-000000000001 5" ++ 10 ∷
    codes "result a 00000000-0000-0003-0000-000000000001 5 5" ++ 10 ∷
    codes "run a poll 2 0 00000000-0000-0002-0000-000000000002" ++ 10 ∷
    codes "feedback a 00000000-0000-0002-0000-000000000002 2" ++ 10 ∷
    codes "run i response 1 2 00000000-0000-0002-0000-000000000002" ++ 10 ∷
    codes "ask i 00000000-0000-0002-0000-000000000002" ++ 10 ∷
    codes "run k code 0 1" ++ 10 ∷
    codes "log k 0" ++ 10 ∷
    codes "run j feedback 1 2 00000000-0000-0001-0000-000000000002" ++ 10 ∷
    codes "cancel j 00000000-0000-0001-0000-000000000002 0" ++ 10 ∷
    codes "run j result 5 5 00000000-0000-0001-0000-000000000001" ++ 10 ∷
    codes "log j 5" ++ 10 ∷
    codes "round 8 8" ++ 10 ∷
    codes "run t1 timer 8 0" ++ 10 ∷
    codes "goal j 00000000-0000-0001-0000-000000000004 1" ++ 10 ∷
    codes "goal i 00000000-0000-0002-0000-000000000004 2" ++ 10 ∷
    codes "run t2 timer 8 0" ++ 10 ∷
    codes "goal k 00000000-0000-0003-0000-000000000004 3" ++ 10 ∷
    codes "cancel k 00000000-0000-0003-0000-000000000001 0" ++ 10 ∷
    codes "run a goal 1 0 00000000-0000-0001-0000-000000000003" ++ 10 ∷
    codes "decide a 00000000-0000-0001-0000-000000000003 2" ++ 10 ∷
    codes "state a 00000000-0000-0001-0000-000000000003 1" ++ 10 ∷
    codes "state a 00000000-0000-0001-0000-000000000003 2" ++ 10 ∷
    codes "run a cancel 0 1 00000000-0000-0001-0000-000000000002" ++ 10 ∷
    codes "state a 00000000-0000-0001-0000-000000000002 3" ++ 10 ∷
    codes "code a 0 1" ++ 10 ∷
    codes "run a ask 0 0 00000000-0000-0002-0000-000000000002" ++ 10 ∷
    codes "run a poll 2 0 00000000-0000-0002-0000-000000000001" ++ 10 ∷
    codes "state a 00000000-0000-0002-0000-000000000001 4" ++ 10 ∷
    codes "result a 00000000-0000-0002-0000-000000000001 4 4" ++ 10 ∷
    codes "run a poll 3 0 00000000-0000-0003-0000-000000000002" ++ 10 ∷
    codes "feedback a 00000000-0000-0003-0000-000000000002 3" ++ 10 ∷
    codes "run k response 1 2 00000000-0000-0003-0000-000000000002" ++ 10 ∷
    codes "ask k 00000000-0000-0003-0000-000000000002" ++ 10 ∷
    codes "run i feedback 2 2 00000000-0000-0002-0000-000000000002" ++ 10 ∷
    codes "run k result 5 5 00000000-0000-0003-0000-000000000001" ++ 10 ∷
    codes "log k 5" ++ 10 ∷
    codes "end 8" ++ 10 ∷
    []

-- cases/run/two_exclusive_groups.json
abbrev pub two_exclusive_groups_document : List ℕ
two_exclusive_groups_document =
    codes "{\"version\":1,\"nodes\":[{\"name\":\"n\",\"groups\":[{\"name\":\"g1\",\"kind\":\"exclusive\"},{\"name\":\"g2\",\"kind\":\"ex" ++
    codes "clusive\"}],\"timers\":[{\"name\":\"t1\",\"period\":1,\"group\":\"g1\",\"script\":[[\"log\",\"now\"]]},{\"name\":\"t2\",\"pe" ++
    codes "riod\":1,\"group\":\"g2\",\"script\":[[\"log\",\"now\"]]}]}],\"moments\":[1]}" ++ 10 ∷
    []

abbrev pub two_exclusive_groups_transcript : List ℕ
two_exclusive_groups_transcript =
    codes "round 1 1" ++ 10 ∷
    codes "run t1 timer 1 0" ++ 10 ∷
    codes "log t1 1" ++ 10 ∷
    codes "run t2 timer 1 0" ++ 10 ∷
    codes "log t2 1" ++ 10 ∷
    codes "end 1" ++ 10 ∷
    []

-- cases/run/wait_that_a_cancel_ends.json
abbrev pub wait_that_a_cancel_ends_document : List ℕ
wait_that_a_cancel_ends_document =
    codes "{\"version\":1,\"nodes\":[{\"name\":\"n\",\"actions\":[{\"name\":\"a\",\"on_goal\":[[\"decide\",2]],\"on_cancel\":[[\"dec" ++
    codes "ide\",2]],\"script\":[[\"wait\",100],[\"skip\",\"aux\",1],[\"succeed\",1],[\"canceled\",2]]}]}],\"moments\":[10,20," ++
    codes "30,40],\"feed\":[{\"round\":1,\"action\":\"a\",\"goal\":\"00000000-0000-0000-0000-000000000001\",\"value\":5},{\"ro" ++
    codes "und\":3,\"action\":\"a\",\"cancel\":\"00000000-0000-0000-0000-000000000001\",\"stamp\":0}]}" ++ 10 ∷
    []

abbrev pub wait_that_a_cancel_ends_transcript : List ℕ
wait_that_a_cancel_ends_transcript =
    codes "round 1 10" ++ 10 ∷
    codes "run a goal 5 0 00000000-0000-0000-0000-000000000001" ++ 10 ∷
    codes "decide a 00000000-0000-0000-0000-000000000001 2" ++ 10 ∷
    codes "state a 00000000-0000-0000-0000-000000000001 1" ++ 10 ∷
    codes "state a 00000000-0000-0000-0000-000000000001 2" ++ 10 ∷
    codes "round 2 20" ++ 10 ∷
    codes "run a poll 5 0 00000000-0000-0000-0000-000000000001" ++ 10 ∷
    codes "round 3 30" ++ 10 ∷
    codes "run a cancel 0 1 00000000-0000-0000-0000-000000000001" ++ 10 ∷
    codes "state a 00000000-0000-0000-0000-000000000001 3" ++ 10 ∷
    codes "code a 0 1" ++ 10 ∷
    codes "round 4 40" ++ 10 ∷
    codes "run a poll 5 1 00000000-0000-0000-0000-000000000001" ++ 10 ∷
    codes "state a 00000000-0000-0000-0000-000000000001 5" ++ 10 ∷
    codes "end 4" ++ 10 ∷
    []

-- cases/run/yield_at_moments_alike.json
abbrev pub yield_at_moments_alike_document : List ℕ
yield_at_moments_alike_document =
    codes "{\"version\":1,\"nodes\":[{\"name\":\"n\",\"actions\":[{\"name\":\"a\",\"on_goal\":[[\"decide\",2]],\"script\":[[\"yield\"" ++
    codes "],[\"wait\",1],[\"succeed\",\"in\"]]}]}],\"moments\":[0,5,5,5,6],\"feed\":[{\"round\":1,\"goal\":\"00000000-0000-00" ++
    codes "00-0000-000000000001\",\"action\":\"a\",\"value\":3}]}" ++ 10 ∷
    []

abbrev pub yield_at_moments_alike_transcript : List ℕ
yield_at_moments_alike_transcript =
    codes "round 1 0" ++ 10 ∷
    codes "run a goal 3 0 00000000-0000-0000-0000-000000000001" ++ 10 ∷
    codes "decide a 00000000-0000-0000-0000-000000000001 2" ++ 10 ∷
    codes "state a 00000000-0000-0000-0000-000000000001 1" ++ 10 ∷
    codes "state a 00000000-0000-0000-0000-000000000001 2" ++ 10 ∷
    codes "round 2 5" ++ 10 ∷
    codes "run a poll 3 0 00000000-0000-0000-0000-000000000001" ++ 10 ∷
    codes "round 3 5" ++ 10 ∷
    codes "run a poll 3 0 00000000-0000-0000-0000-000000000001" ++ 10 ∷
    codes "round 4 5" ++ 10 ∷
    codes "round 5 6" ++ 10 ∷
    codes "run a poll 3 0 00000000-0000-0000-0000-000000000001" ++ 10 ∷
    codes "state a 00000000-0000-0000-0000-000000000001 4" ++ 10 ∷
    codes "end 5" ++ 10 ∷
    []
