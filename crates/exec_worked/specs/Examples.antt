-- Worked cases: examples.
use Rattle.std.specs.Prelude.{ℕ, List, [], ◌∷◌, ◌++◌, codes}

-- examples/action.json
abbrev pub action_document : List ℕ
action_document =
    codes "{\"version\":1," ++ 10 ∷
    codes " \"nodes\":[" ++ 10 ∷
    codes "  {\"name\":\"base\",\"actions\":[{\"name\":\"drive\",\"on_goal\":[[\"decide\",2]],\"result_timeout\":2," ++ 10 ∷
    codes "    \"script\":[[\"set\",\"r0\",\"add\",\"r0\",1],[\"feedback\",\"r0\"],[\"set\",\"r1\",\"lt\",\"r0\",\"in\"],[\"skip\",\"r1\",1" ++
    codes "],[\"succeed\",\"r0\"],[\"yield\"]]}]}," ++ 10 ∷
    codes "  {\"name\":\"mission\"," ++ 10 ∷
    codes "   \"timers\":[{\"name\":\"start\",\"period\":10,\"script\":[[\"goal\",\"driver\",2]]}]," ++ 10 ∷
    codes "   \"action_clients\":[{\"name\":\"driver\",\"action\":\"drive\"," ++ 10 ∷
    codes "     \"on_feedback\":[[\"log\",\"in\"]]," ++ 10 ∷
    codes "     \"on_result\":[[\"log\",\"in\"]]}]}]," ++ 10 ∷
    codes " \"moments\":[10,11,12,13,14,15]}" ++ 10 ∷
    []

abbrev pub action_transcript : List ℕ
action_transcript =
    codes "round 1 10" ++ 10 ∷
    codes "run start timer 10 0" ++ 10 ∷
    codes "goal driver 00000000-0000-0001-0000-000000000001 2" ++ 10 ∷
    codes "round 2 11" ++ 10 ∷
    codes "run drive goal 2 0 00000000-0000-0001-0000-000000000001" ++ 10 ∷
    codes "decide drive 00000000-0000-0001-0000-000000000001 2" ++ 10 ∷
    codes "state drive 00000000-0000-0001-0000-000000000001 1" ++ 10 ∷
    codes "state drive 00000000-0000-0001-0000-000000000001 2" ++ 10 ∷
    codes "round 3 12" ++ 10 ∷
    codes "run drive poll 2 0 00000000-0000-0001-0000-000000000001" ++ 10 ∷
    codes "feedback drive 00000000-0000-0001-0000-000000000001 1" ++ 10 ∷
    codes "run driver response 1 1 00000000-0000-0001-0000-000000000001" ++ 10 ∷
    codes "ask driver 00000000-0000-0001-0000-000000000001" ++ 10 ∷
    codes "round 4 13" ++ 10 ∷
    codes "run drive ask 0 0 00000000-0000-0001-0000-000000000001" ++ 10 ∷
    codes "run drive poll 2 0 00000000-0000-0001-0000-000000000001" ++ 10 ∷
    codes "run driver feedback 1 1 00000000-0000-0001-0000-000000000001" ++ 10 ∷
    codes "log driver 1" ++ 10 ∷
    codes "round 5 14" ++ 10 ∷
    codes "run drive poll 2 0 00000000-0000-0001-0000-000000000001" ++ 10 ∷
    codes "feedback drive 00000000-0000-0001-0000-000000000001 2" ++ 10 ∷
    codes "state drive 00000000-0000-0001-0000-000000000001 4" ++ 10 ∷
    codes "result drive 00000000-0000-0001-0000-000000000001 4 2" ++ 10 ∷
    codes "round 6 15" ++ 10 ∷
    codes "run driver feedback 2 1 00000000-0000-0001-0000-000000000001" ++ 10 ∷
    codes "log driver 2" ++ 10 ∷
    codes "run driver result 2 4 00000000-0000-0001-0000-000000000001" ++ 10 ∷
    codes "log driver 2" ++ 10 ∷
    codes "end 6" ++ 10 ∷
    []

-- examples/cancel.json
abbrev pub cancel_document : List ℕ
cancel_document =
    codes "{\"version\":1," ++ 10 ∷
    codes " \"nodes\":[" ++ 10 ∷
    codes "  {\"name\":\"base\",\"actions\":[{\"name\":\"drive\",\"on_goal\":[[\"decide\",2]],\"on_cancel\":[[\"decide\",2]]," ++ 10 ∷
    codes "    \"script\":[[\"wait\",100],[\"canceled\",7]]}]}," ++ 10 ∷
    codes "  {\"name\":\"mission\"," ++ 10 ∷
    codes "   \"timers\":[{\"name\":\"start\",\"period\":10,\"script\":[[\"goal\",\"driver\",5]]}]," ++ 10 ∷
    codes "   \"action_clients\":[{\"name\":\"driver\",\"action\":\"drive\"," ++ 10 ∷
    codes "     \"on_response\":[[\"cancel\",\"driver\",\"all\"]]," ++ 10 ∷
    codes "     \"on_code\":[[\"log\",\"aux\"]]," ++ 10 ∷
    codes "     \"on_result\":[[\"log\",\"aux\"]]}]}]," ++ 10 ∷
    codes " \"moments\":[10,11,12,13,14,15]}" ++ 10 ∷
    []

abbrev pub cancel_transcript : List ℕ
cancel_transcript =
    codes "round 1 10" ++ 10 ∷
    codes "run start timer 10 0" ++ 10 ∷
    codes "goal driver 00000000-0000-0001-0000-000000000001 5" ++ 10 ∷
    codes "round 2 11" ++ 10 ∷
    codes "run drive goal 5 0 00000000-0000-0001-0000-000000000001" ++ 10 ∷
    codes "decide drive 00000000-0000-0001-0000-000000000001 2" ++ 10 ∷
    codes "state drive 00000000-0000-0001-0000-000000000001 1" ++ 10 ∷
    codes "state drive 00000000-0000-0001-0000-000000000001 2" ++ 10 ∷
    codes "round 3 12" ++ 10 ∷
    codes "run drive poll 5 0 00000000-0000-0001-0000-000000000001" ++ 10 ∷
    codes "run driver response 1 1 00000000-0000-0001-0000-000000000001" ++ 10 ∷
    codes "cancel driver 00000000-0000-0000-0000-000000000000 0" ++ 10 ∷
    codes "ask driver 00000000-0000-0001-0000-000000000001" ++ 10 ∷
    codes "round 4 13" ++ 10 ∷
    codes "run drive cancel 0 1 00000000-0000-0000-0000-000000000000" ++ 10 ∷
    codes "state drive 00000000-0000-0001-0000-000000000001 3" ++ 10 ∷
    codes "code drive 0 1" ++ 10 ∷
    codes "run drive ask 0 0 00000000-0000-0001-0000-000000000001" ++ 10 ∷
    codes "round 5 14" ++ 10 ∷
    codes "run drive poll 5 1 00000000-0000-0001-0000-000000000001" ++ 10 ∷
    codes "state drive 00000000-0000-0001-0000-000000000001 5" ++ 10 ∷
    codes "result drive 00000000-0000-0001-0000-000000000001 5 7" ++ 10 ∷
    codes "run driver code 0 1" ++ 10 ∷
    codes "log driver 1" ++ 10 ∷
    codes "round 6 15" ++ 10 ∷
    codes "run driver result 7 5 00000000-0000-0001-0000-000000000001" ++ 10 ∷
    codes "log driver 5" ++ 10 ∷
    codes "end 6" ++ 10 ∷
    []

-- examples/cancel_after_success.json
abbrev pub cancel_after_success_document : List ℕ
cancel_after_success_document =
    codes "{\"version\":2," ++ 10 ∷
    codes " \"order\":\"arrival\"," ++ 10 ∷
    codes " \"nodes\":[{\"name\":\"base\"," ++ 10 ∷
    codes "   \"actions\":[{\"name\":\"drive\"," ++ 10 ∷
    codes "     \"on_goal\":[[\"decide\",2]]," ++ 10 ∷
    codes "     \"on_cancel\":[[\"decide\",2]]," ++ 10 ∷
    codes "     \"script\":[[\"wait\",3],[\"skip\",\"aux\",1],[\"succeed\",1],[\"canceled\",2]]}]}]," ++ 10 ∷
    codes " \"moments\":[0,1,2,3,4,5,6,7,8,9,10,11,12]," ++ 10 ∷
    codes " \"feed\":[{\"round\":2,\"action\":\"drive\",\"goal\":\"00000000-0000-0000-0000-000000000001\",\"value\":5}," ++ 10 ∷
    codes "  {\"round\":6,\"action\":\"drive\",\"cancel\":\"00000000-0000-0000-0000-000000000001\"}," ++ 10 ∷
    codes "  {\"round\":7,\"action\":\"drive\",\"goal\":\"00000000-0000-0000-0000-000000000002\",\"value\":5}," ++ 10 ∷
    codes "  {\"round\":10,\"action\":\"drive\",\"cancel\":\"00000000-0000-0000-0000-000000000002\"}]}" ++ 10 ∷
    []

abbrev pub cancel_after_success_transcript : List ℕ
cancel_after_success_transcript =
    codes "round 1 0" ++ 10 ∷
    codes "round 2 1" ++ 10 ∷
    codes "run drive goal 5 0 00000000-0000-0000-0000-000000000001" ++ 10 ∷
    codes "decide drive 00000000-0000-0000-0000-000000000001 2" ++ 10 ∷
    codes "state drive 00000000-0000-0000-0000-000000000001 1" ++ 10 ∷
    codes "state drive 00000000-0000-0000-0000-000000000001 2" ++ 10 ∷
    codes "round 3 2" ++ 10 ∷
    codes "run drive poll 5 0 00000000-0000-0000-0000-000000000001" ++ 10 ∷
    codes "round 4 3" ++ 10 ∷
    codes "round 5 4" ++ 10 ∷
    codes "round 6 5" ++ 10 ∷
    codes "run drive poll 5 0 00000000-0000-0000-0000-000000000001" ++ 10 ∷
    codes "state drive 00000000-0000-0000-0000-000000000001 4" ++ 10 ∷
    codes "run drive cancel 0 1 00000000-0000-0000-0000-000000000001" ++ 10 ∷
    codes "code drive 3 0" ++ 10 ∷
    codes "round 7 6" ++ 10 ∷
    codes "run drive goal 5 0 00000000-0000-0000-0000-000000000002" ++ 10 ∷
    codes "decide drive 00000000-0000-0000-0000-000000000002 2" ++ 10 ∷
    codes "state drive 00000000-0000-0000-0000-000000000002 1" ++ 10 ∷
    codes "state drive 00000000-0000-0000-0000-000000000002 2" ++ 10 ∷
    codes "round 8 7" ++ 10 ∷
    codes "run drive poll 5 0 00000000-0000-0000-0000-000000000002" ++ 10 ∷
    codes "round 9 8" ++ 10 ∷
    codes "round 10 9" ++ 10 ∷
    codes "run drive cancel 0 1 00000000-0000-0000-0000-000000000002" ++ 10 ∷
    codes "state drive 00000000-0000-0000-0000-000000000002 3" ++ 10 ∷
    codes "code drive 0 1" ++ 10 ∷
    codes "round 11 10" ++ 10 ∷
    codes "run drive poll 5 1 00000000-0000-0000-0000-000000000002" ++ 10 ∷
    codes "state drive 00000000-0000-0000-0000-000000000002 5" ++ 10 ∷
    codes "round 12 11" ++ 10 ∷
    codes "round 13 12" ++ 10 ∷
    codes "end 13" ++ 10 ∷
    []

-- examples/cancel_and_success.json
abbrev pub cancel_and_success_document : List ℕ
cancel_and_success_document =
    codes "{\"version\":1," ++ 10 ∷
    codes " \"nodes\":[{\"name\":\"base\"," ++ 10 ∷
    codes "   \"actions\":[{\"name\":\"drive\"," ++ 10 ∷
    codes "     \"on_goal\":[[\"decide\",2]]," ++ 10 ∷
    codes "     \"on_cancel\":[[\"decide\",2]]," ++ 10 ∷
    codes "     \"script\":[[\"wait\",3],[\"skip\",\"aux\",1],[\"succeed\",1],[\"canceled\",2]]}]}]," ++ 10 ∷
    codes " \"moments\":[0,1,2,3,4,5,6,7,8,9,10,11,12]," ++ 10 ∷
    codes " \"feed\":[{\"round\":2,\"action\":\"drive\",\"goal\":\"00000000-0000-0000-0000-000000000001\",\"value\":5}," ++ 10 ∷
    codes "  {\"round\":6,\"action\":\"drive\",\"cancel\":\"00000000-0000-0000-0000-000000000001\"}," ++ 10 ∷
    codes "  {\"round\":7,\"action\":\"drive\",\"goal\":\"00000000-0000-0000-0000-000000000002\",\"value\":5}," ++ 10 ∷
    codes "  {\"round\":10,\"action\":\"drive\",\"cancel\":\"00000000-0000-0000-0000-000000000002\"}]}" ++ 10 ∷
    []

abbrev pub cancel_and_success_transcript : List ℕ
cancel_and_success_transcript =
    codes "round 1 0" ++ 10 ∷
    codes "round 2 1" ++ 10 ∷
    codes "run drive goal 5 0 00000000-0000-0000-0000-000000000001" ++ 10 ∷
    codes "decide drive 00000000-0000-0000-0000-000000000001 2" ++ 10 ∷
    codes "state drive 00000000-0000-0000-0000-000000000001 1" ++ 10 ∷
    codes "state drive 00000000-0000-0000-0000-000000000001 2" ++ 10 ∷
    codes "round 3 2" ++ 10 ∷
    codes "run drive poll 5 0 00000000-0000-0000-0000-000000000001" ++ 10 ∷
    codes "round 4 3" ++ 10 ∷
    codes "round 5 4" ++ 10 ∷
    codes "round 6 5" ++ 10 ∷
    codes "run drive cancel 0 1 00000000-0000-0000-0000-000000000001" ++ 10 ∷
    codes "state drive 00000000-0000-0000-0000-000000000001 3" ++ 10 ∷
    codes "code drive 0 1" ++ 10 ∷
    codes "run drive poll 5 0 00000000-0000-0000-0000-000000000001" ++ 10 ∷
    codes "state drive 00000000-0000-0000-0000-000000000001 4" ++ 10 ∷
    codes "round 7 6" ++ 10 ∷
    codes "run drive goal 5 0 00000000-0000-0000-0000-000000000002" ++ 10 ∷
    codes "decide drive 00000000-0000-0000-0000-000000000002 2" ++ 10 ∷
    codes "state drive 00000000-0000-0000-0000-000000000002 1" ++ 10 ∷
    codes "state drive 00000000-0000-0000-0000-000000000002 2" ++ 10 ∷
    codes "round 8 7" ++ 10 ∷
    codes "run drive poll 5 0 00000000-0000-0000-0000-000000000002" ++ 10 ∷
    codes "round 9 8" ++ 10 ∷
    codes "round 10 9" ++ 10 ∷
    codes "run drive cancel 0 1 00000000-0000-0000-0000-000000000002" ++ 10 ∷
    codes "state drive 00000000-0000-0000-0000-000000000002 3" ++ 10 ∷
    codes "code drive 0 1" ++ 10 ∷
    codes "round 11 10" ++ 10 ∷
    codes "run drive poll 5 1 00000000-0000-0000-0000-000000000002" ++ 10 ∷
    codes "state drive 00000000-0000-0000-0000-000000000002 5" ++ 10 ∷
    codes "round 12 11" ++ 10 ∷
    codes "round 13 12" ++ 10 ∷
    codes "end 13" ++ 10 ∷
    []

-- examples/cancel_by_identifier.json
abbrev pub cancel_by_identifier_document : List ℕ
cancel_by_identifier_document =
    codes "{\"version\":1," ++ 10 ∷
    codes " \"nodes\":[{\"name\":\"base\"," ++ 10 ∷
    codes "   \"actions\":[{\"name\":\"drive\",\"on_goal\":[[\"decide\",2]],\"on_cancel\":[[\"decide\",2]],\"script\":[[\"wait\"," ++
    codes "100],[\"canceled\",7]]}]}," ++ 10 ∷
    codes "  {\"name\":\"mission\"," ++ 10 ∷
    codes "   \"timers\":[{\"name\":\"start\",\"period\":10,\"script\":[[\"goal\",\"driver\",1],[\"goal\",\"driver\",2],[\"goal\",\"" ++
    codes "driver\",3]]}," ++ 10 ∷
    codes "    {\"name\":\"change_of_mind\",\"period\":14,\"script\":[[\"cancel\",\"driver\",\"goal\",2]]}]," ++ 10 ∷
    codes "   \"action_clients\":[{\"name\":\"driver\",\"action\":\"drive\",\"on_code\":[[\"log\",\"aux\"]],\"on_result\":[[\"log\"" ++
    codes ",\"aux\"]]}]}]," ++ 10 ∷
    codes " \"moments\":[10,11,12,13,14,15,16,17,18]}" ++ 10 ∷
    []

abbrev pub cancel_by_identifier_transcript : List ℕ
cancel_by_identifier_transcript =
    codes "round 1 10" ++ 10 ∷
    codes "run start timer 10 0" ++ 10 ∷
    codes "goal driver 00000000-0000-0001-0000-000000000001 1" ++ 10 ∷
    codes "goal driver 00000000-0000-0001-0000-000000000002 2" ++ 10 ∷
    codes "goal driver 00000000-0000-0001-0000-000000000003 3" ++ 10 ∷
    codes "round 2 11" ++ 10 ∷
    codes "run drive goal 1 0 00000000-0000-0001-0000-000000000001" ++ 10 ∷
    codes "decide drive 00000000-0000-0001-0000-000000000001 2" ++ 10 ∷
    codes "state drive 00000000-0000-0001-0000-000000000001 1" ++ 10 ∷
    codes "state drive 00000000-0000-0001-0000-000000000001 2" ++ 10 ∷
    codes "round 3 12" ++ 10 ∷
    codes "run drive goal 2 0 00000000-0000-0001-0000-000000000002" ++ 10 ∷
    codes "decide drive 00000000-0000-0001-0000-000000000002 2" ++ 10 ∷
    codes "state drive 00000000-0000-0001-0000-000000000002 1" ++ 10 ∷
    codes "state drive 00000000-0000-0001-0000-000000000002 2" ++ 10 ∷
    codes "run drive poll 1 0 00000000-0000-0001-0000-000000000001" ++ 10 ∷
    codes "run driver response 1 1 00000000-0000-0001-0000-000000000001" ++ 10 ∷
    codes "ask driver 00000000-0000-0001-0000-000000000001" ++ 10 ∷
    codes "round 4 13" ++ 10 ∷
    codes "run drive goal 3 0 00000000-0000-0001-0000-000000000003" ++ 10 ∷
    codes "decide drive 00000000-0000-0001-0000-000000000003 2" ++ 10 ∷
    codes "state drive 00000000-0000-0001-0000-000000000003 1" ++ 10 ∷
    codes "state drive 00000000-0000-0001-0000-000000000003 2" ++ 10 ∷
    codes "run drive ask 0 0 00000000-0000-0001-0000-000000000001" ++ 10 ∷
    codes "run drive poll 2 0 00000000-0000-0001-0000-000000000002" ++ 10 ∷
    codes "run driver response 1 2 00000000-0000-0001-0000-000000000002" ++ 10 ∷
    codes "ask driver 00000000-0000-0001-0000-000000000002" ++ 10 ∷
    codes "round 5 14" ++ 10 ∷
    codes "run change_of_mind timer 14 0" ++ 10 ∷
    codes "cancel driver 00000000-0000-0001-0000-000000000002 0" ++ 10 ∷
    codes "run drive ask 0 0 00000000-0000-0001-0000-000000000002" ++ 10 ∷
    codes "run drive poll 3 0 00000000-0000-0001-0000-000000000003" ++ 10 ∷
    codes "run driver response 1 3 00000000-0000-0001-0000-000000000003" ++ 10 ∷
    codes "ask driver 00000000-0000-0001-0000-000000000003" ++ 10 ∷
    codes "round 6 15" ++ 10 ∷
    codes "run drive cancel 0 1 00000000-0000-0001-0000-000000000002" ++ 10 ∷
    codes "state drive 00000000-0000-0001-0000-000000000002 3" ++ 10 ∷
    codes "code drive 0 1" ++ 10 ∷
    codes "run drive ask 0 0 00000000-0000-0001-0000-000000000003" ++ 10 ∷
    codes "round 7 16" ++ 10 ∷
    codes "run drive poll 2 1 00000000-0000-0001-0000-000000000002" ++ 10 ∷
    codes "state drive 00000000-0000-0001-0000-000000000002 5" ++ 10 ∷
    codes "result drive 00000000-0000-0001-0000-000000000002 5 7" ++ 10 ∷
    codes "run driver code 0 1" ++ 10 ∷
    codes "log driver 1" ++ 10 ∷
    codes "round 8 17" ++ 10 ∷
    codes "run driver result 7 5 00000000-0000-0001-0000-000000000002" ++ 10 ∷
    codes "log driver 5" ++ 10 ∷
    codes "round 9 18" ++ 10 ∷
    codes "end 9" ++ 10 ∷
    []

-- examples/cancel_by_stamp.json
abbrev pub cancel_by_stamp_document : List ℕ
cancel_by_stamp_document =
    codes "{\"version\":1," ++ 10 ∷
    codes " \"nodes\":[{\"name\":\"base\"," ++ 10 ∷
    codes "   \"actions\":[{\"name\":\"drive\"," ++ 10 ∷
    codes "     \"on_goal\":[[\"decide\",2]]," ++ 10 ∷
    codes "     \"on_cancel\":[[\"decide\",2]]," ++ 10 ∷
    codes "     \"script\":[[\"skip\",\"aux\",1],[\"skip\",1,1],[\"canceled\",0]]}]}," ++ 10 ∷
    codes "  {\"name\":\"mission\"," ++ 10 ∷
    codes "   \"timers\":[{\"name\":\"every_two\",\"period\":2,\"script\":[[\"goal\",\"driver\",\"now\"]]}," ++ 10 ∷
    codes "    {\"name\":\"change_of_mind\",\"period\":7,\"script\":[[\"cancel\",\"driver\",\"before\",5]]}]," ++ 10 ∷
    codes "   \"action_clients\":[{\"name\":\"driver\",\"action\":\"drive\",\"on_code\":[[\"log\",\"aux\"]],\"on_result\":[[\"log\"" ++
    codes ",\"aux\"]]}]}]," ++ 10 ∷
    codes " \"moments\":[2,3,4,5,6,7,8,9,10]}" ++ 10 ∷
    []

abbrev pub cancel_by_stamp_transcript : List ℕ
cancel_by_stamp_transcript =
    codes "round 1 2" ++ 10 ∷
    codes "run every_two timer 2 0" ++ 10 ∷
    codes "goal driver 00000000-0000-0001-0000-000000000001 2" ++ 10 ∷
    codes "round 2 3" ++ 10 ∷
    codes "run drive goal 2 0 00000000-0000-0001-0000-000000000001" ++ 10 ∷
    codes "decide drive 00000000-0000-0001-0000-000000000001 2" ++ 10 ∷
    codes "state drive 00000000-0000-0001-0000-000000000001 1" ++ 10 ∷
    codes "state drive 00000000-0000-0001-0000-000000000001 2" ++ 10 ∷
    codes "round 3 4" ++ 10 ∷
    codes "run every_two timer 4 0" ++ 10 ∷
    codes "goal driver 00000000-0000-0001-0000-000000000002 4" ++ 10 ∷
    codes "run drive poll 2 0 00000000-0000-0001-0000-000000000001" ++ 10 ∷
    codes "run driver response 1 1 00000000-0000-0001-0000-000000000001" ++ 10 ∷
    codes "ask driver 00000000-0000-0001-0000-000000000001" ++ 10 ∷
    codes "round 4 5" ++ 10 ∷
    codes "run drive goal 4 0 00000000-0000-0001-0000-000000000002" ++ 10 ∷
    codes "decide drive 00000000-0000-0001-0000-000000000002 2" ++ 10 ∷
    codes "state drive 00000000-0000-0001-0000-000000000002 1" ++ 10 ∷
    codes "state drive 00000000-0000-0001-0000-000000000002 2" ++ 10 ∷
    codes "run drive ask 0 0 00000000-0000-0001-0000-000000000001" ++ 10 ∷
    codes "run drive poll 2 0 00000000-0000-0001-0000-000000000001" ++ 10 ∷
    codes "round 5 6" ++ 10 ∷
    codes "run every_two timer 6 0" ++ 10 ∷
    codes "goal driver 00000000-0000-0001-0000-000000000003 6" ++ 10 ∷
    codes "run drive poll 2 0 00000000-0000-0001-0000-000000000001" ++ 10 ∷
    codes "run drive poll 4 0 00000000-0000-0001-0000-000000000002" ++ 10 ∷
    codes "run driver response 1 2 00000000-0000-0001-0000-000000000002" ++ 10 ∷
    codes "ask driver 00000000-0000-0001-0000-000000000002" ++ 10 ∷
    codes "round 6 7" ++ 10 ∷
    codes "run change_of_mind timer 7 0" ++ 10 ∷
    codes "cancel driver 00000000-0000-0000-0000-000000000000 5" ++ 10 ∷
    codes "run drive goal 6 0 00000000-0000-0001-0000-000000000003" ++ 10 ∷
    codes "decide drive 00000000-0000-0001-0000-000000000003 2" ++ 10 ∷
    codes "state drive 00000000-0000-0001-0000-000000000003 1" ++ 10 ∷
    codes "state drive 00000000-0000-0001-0000-000000000003 2" ++ 10 ∷
    codes "run drive ask 0 0 00000000-0000-0001-0000-000000000002" ++ 10 ∷
    codes "run drive poll 2 0 00000000-0000-0001-0000-000000000001" ++ 10 ∷
    codes "run drive poll 4 0 00000000-0000-0001-0000-000000000002" ++ 10 ∷
    codes "round 7 8" ++ 10 ∷
    codes "run every_two timer 8 0" ++ 10 ∷
    codes "goal driver 00000000-0000-0001-0000-000000000004 8" ++ 10 ∷
    codes "run drive cancel 5 2 00000000-0000-0000-0000-000000000000" ++ 10 ∷
    codes "state drive 00000000-0000-0001-0000-000000000001 3" ++ 10 ∷
    codes "state drive 00000000-0000-0001-0000-000000000002 3" ++ 10 ∷
    codes "code drive 0 2" ++ 10 ∷
    codes "run drive poll 2 0 00000000-0000-0001-0000-000000000001" ++ 10 ∷
    codes "run drive poll 4 0 00000000-0000-0001-0000-000000000002" ++ 10 ∷
    codes "run drive poll 6 0 00000000-0000-0001-0000-000000000003" ++ 10 ∷
    codes "run driver response 1 3 00000000-0000-0001-0000-000000000003" ++ 10 ∷
    codes "ask driver 00000000-0000-0001-0000-000000000003" ++ 10 ∷
    codes "round 8 9" ++ 10 ∷
    codes "run drive goal 8 0 00000000-0000-0001-0000-000000000004" ++ 10 ∷
    codes "decide drive 00000000-0000-0001-0000-000000000004 2" ++ 10 ∷
    codes "state drive 00000000-0000-0001-0000-000000000004 1" ++ 10 ∷
    codes "state drive 00000000-0000-0001-0000-000000000004 2" ++ 10 ∷
    codes "run drive ask 0 0 00000000-0000-0001-0000-000000000003" ++ 10 ∷
    codes "run drive poll 2 1 00000000-0000-0001-0000-000000000001" ++ 10 ∷
    codes "state drive 00000000-0000-0001-0000-000000000001 5" ++ 10 ∷
    codes "result drive 00000000-0000-0001-0000-000000000001 5 0" ++ 10 ∷
    codes "run drive poll 4 1 00000000-0000-0001-0000-000000000002" ++ 10 ∷
    codes "state drive 00000000-0000-0001-0000-000000000002 5" ++ 10 ∷
    codes "result drive 00000000-0000-0001-0000-000000000002 5 0" ++ 10 ∷
    codes "run drive poll 6 0 00000000-0000-0001-0000-000000000003" ++ 10 ∷
    codes "run driver code 0 2" ++ 10 ∷
    codes "log driver 2" ++ 10 ∷
    codes "round 9 10" ++ 10 ∷
    codes "run every_two timer 10 0" ++ 10 ∷
    codes "goal driver 00000000-0000-0001-0000-000000000005 10" ++ 10 ∷
    codes "run drive poll 6 0 00000000-0000-0001-0000-000000000003" ++ 10 ∷
    codes "run drive poll 8 0 00000000-0000-0001-0000-000000000004" ++ 10 ∷
    codes "run driver response 1 4 00000000-0000-0001-0000-000000000004" ++ 10 ∷
    codes "ask driver 00000000-0000-0001-0000-000000000004" ++ 10 ∷
    codes "run driver result 0 5 00000000-0000-0001-0000-000000000001" ++ 10 ∷
    codes "log driver 5" ++ 10 ∷
    codes "end 9" ++ 10 ∷
    []

-- examples/cancel_while_waiting.json
abbrev pub cancel_while_waiting_document : List ℕ
cancel_while_waiting_document =
    codes "{\"version\":1," ++ 10 ∷
    codes " \"nodes\":[{\"name\":\"base\"," ++ 10 ∷
    codes "   \"actions\":[{\"name\":\"patient\"," ++ 10 ∷
    codes "     \"on_goal\":[[\"decide\",2]]," ++ 10 ∷
    codes "     \"on_cancel\":[[\"decide\",2]]," ++ 10 ∷
    codes "     \"script\":[[\"wait\",1000],[\"skip\",\"aux\",1],[\"succeed\",1],[\"canceled\",2]]}," ++ 10 ∷
    codes "    {\"name\":\"stubborn\",\"on_goal\":[[\"decide\",2]],\"on_cancel\":[[\"decide\",1]],\"script\":[[\"wait\",5],[\"su" ++
    codes "cceed\",1]]}]}]," ++ 10 ∷
    codes " \"moments\":[0,1,2,3,4,5,6,7,8]," ++ 10 ∷
    codes " \"feed\":[{\"round\":2,\"action\":\"patient\",\"goal\":\"00000000-0000-0000-0000-000000000001\",\"value\":5}," ++ 10 ∷
    codes "  {\"round\":2,\"action\":\"stubborn\",\"goal\":\"00000000-0000-0000-0000-000000000002\",\"value\":5}," ++ 10 ∷
    codes "  {\"round\":5,\"action\":\"patient\",\"cancel\":\"00000000-0000-0000-0000-000000000000\"}," ++ 10 ∷
    codes "  {\"round\":5,\"action\":\"stubborn\",\"cancel\":\"00000000-0000-0000-0000-000000000000\"}]}" ++ 10 ∷
    []

abbrev pub cancel_while_waiting_transcript : List ℕ
cancel_while_waiting_transcript =
    codes "round 1 0" ++ 10 ∷
    codes "round 2 1" ++ 10 ∷
    codes "run patient goal 5 0 00000000-0000-0000-0000-000000000001" ++ 10 ∷
    codes "decide patient 00000000-0000-0000-0000-000000000001 2" ++ 10 ∷
    codes "state patient 00000000-0000-0000-0000-000000000001 1" ++ 10 ∷
    codes "state patient 00000000-0000-0000-0000-000000000001 2" ++ 10 ∷
    codes "run stubborn goal 5 0 00000000-0000-0000-0000-000000000002" ++ 10 ∷
    codes "decide stubborn 00000000-0000-0000-0000-000000000002 2" ++ 10 ∷
    codes "state stubborn 00000000-0000-0000-0000-000000000002 1" ++ 10 ∷
    codes "state stubborn 00000000-0000-0000-0000-000000000002 2" ++ 10 ∷
    codes "round 3 2" ++ 10 ∷
    codes "run patient poll 5 0 00000000-0000-0000-0000-000000000001" ++ 10 ∷
    codes "run stubborn poll 5 0 00000000-0000-0000-0000-000000000002" ++ 10 ∷
    codes "round 4 3" ++ 10 ∷
    codes "round 5 4" ++ 10 ∷
    codes "run patient cancel 0 1 00000000-0000-0000-0000-000000000000" ++ 10 ∷
    codes "state patient 00000000-0000-0000-0000-000000000001 3" ++ 10 ∷
    codes "code patient 0 1" ++ 10 ∷
    codes "run stubborn cancel 0 1 00000000-0000-0000-0000-000000000000" ++ 10 ∷
    codes "code stubborn 1 0" ++ 10 ∷
    codes "round 6 5" ++ 10 ∷
    codes "run patient poll 5 1 00000000-0000-0000-0000-000000000001" ++ 10 ∷
    codes "state patient 00000000-0000-0000-0000-000000000001 5" ++ 10 ∷
    codes "round 7 6" ++ 10 ∷
    codes "round 8 7" ++ 10 ∷
    codes "run stubborn poll 5 0 00000000-0000-0000-0000-000000000002" ++ 10 ∷
    codes "state stubborn 00000000-0000-0000-0000-000000000002 4" ++ 10 ∷
    codes "round 9 8" ++ 10 ∷
    codes "end 9" ++ 10 ∷
    []

-- examples/deferred.json
abbrev pub deferred_document : List ℕ
deferred_document =
    codes "{\"version\":1," ++ 10 ∷
    codes " \"topics\":[\"ready\"]," ++ 10 ∷
    codes " \"nodes\":[{\"name\":\"dock\"," ++ 10 ∷
    codes "   \"groups\":[{\"name\":\"gate\",\"kind\":\"reentrant\"}]," ++ 10 ∷
    codes "   \"actions\":[{\"name\":\"load\",\"group\":\"gate\",\"on_goal\":[[\"decide\",3]],\"script\":[[\"feedback\",\"now\"],[\"" ++
    codes "succeed\",\"in\"]]}]," ++ 10 ∷
    codes "   \"subscriptions\":[{\"name\":\"open_gate\",\"group\":\"gate\",\"topic\":\"ready\",\"script\":[[\"execute\",\"load\"]]" ++
    codes "}]}]," ++ 10 ∷
    codes " \"moments\":[0,1,2,3,4,5]," ++ 10 ∷
    codes " \"feed\":[{\"round\":1,\"action\":\"load\",\"goal\":\"00000000-0000-0000-0000-000000000001\",\"value\":10}," ++ 10 ∷
    codes "  {\"round\":2,\"action\":\"load\",\"goal\":\"00000000-0000-0000-0000-000000000002\",\"value\":20}," ++ 10 ∷
    codes "  {\"round\":4,\"topic\":\"ready\",\"value\":1}," ++ 10 ∷
    codes "  {\"round\":5,\"topic\":\"ready\",\"value\":1}]}" ++ 10 ∷
    []

abbrev pub deferred_transcript : List ℕ
deferred_transcript =
    codes "round 1 0" ++ 10 ∷
    codes "run load goal 10 0 00000000-0000-0000-0000-000000000001" ++ 10 ∷
    codes "decide load 00000000-0000-0000-0000-000000000001 3" ++ 10 ∷
    codes "state load 00000000-0000-0000-0000-000000000001 1" ++ 10 ∷
    codes "round 2 1" ++ 10 ∷
    codes "run load goal 20 0 00000000-0000-0000-0000-000000000002" ++ 10 ∷
    codes "decide load 00000000-0000-0000-0000-000000000002 3" ++ 10 ∷
    codes "state load 00000000-0000-0000-0000-000000000002 1" ++ 10 ∷
    codes "round 3 2" ++ 10 ∷
    codes "round 4 3" ++ 10 ∷
    codes "run open_gate message 1 0" ++ 10 ∷
    codes "state load 00000000-0000-0000-0000-000000000001 2" ++ 10 ∷
    codes "round 5 4" ++ 10 ∷
    codes "run open_gate message 1 0" ++ 10 ∷
    codes "state load 00000000-0000-0000-0000-000000000002 2" ++ 10 ∷
    codes "run load poll 10 0 00000000-0000-0000-0000-000000000001" ++ 10 ∷
    codes "feedback load 00000000-0000-0000-0000-000000000001 4" ++ 10 ∷
    codes "state load 00000000-0000-0000-0000-000000000001 4" ++ 10 ∷
    codes "round 6 5" ++ 10 ∷
    codes "run load poll 20 0 00000000-0000-0000-0000-000000000002" ++ 10 ∷
    codes "feedback load 00000000-0000-0000-0000-000000000002 5" ++ 10 ∷
    codes "state load 00000000-0000-0000-0000-000000000002 4" ++ 10 ∷
    codes "end 6" ++ 10 ∷
    []

-- examples/empty.json
abbrev pub empty_document : List ℕ
empty_document =
    codes "{\"version\":1}" ++ 10 ∷
    []

abbrev pub empty_transcript : List ℕ
empty_transcript =
    codes "end 0" ++ 10 ∷
    []

-- examples/groups.json
abbrev pub groups_document : List ℕ
groups_document =
    codes "{\"version\":1,\"nodes\":[" ++ 10 ∷
    codes " {\"name\":\"drive\",\"groups\":[{\"name\":\"wheels\",\"kind\":\"exclusive\"},{\"name\":\"lights\",\"kind\":\"reentrant\"}" ++
    codes "]," ++ 10 ∷
    codes "  \"timers\":[" ++ 10 ∷
    codes "   {\"name\":\"left\",\"period\":2,\"group\":\"wheels\",\"script\":[[\"set\",\"g0\",\"add\",\"g0\",1],[\"log\",\"g0\"]]}," ++ 10 ∷
    codes "   {\"name\":\"right\",\"period\":3,\"group\":\"wheels\",\"script\":[[\"set\",\"g0\",\"add\",\"g0\",10],[\"log\",\"g0\"]]}," ++ 10 ∷
    codes "   {\"name\":\"watch\",\"period\":2,\"script\":[[\"set\",\"g0\",\"add\",\"g0\",100],[\"log\",\"g0\"]]}," ++ 10 ∷
    codes "   {\"name\":\"blink\",\"period\":4,\"group\":\"lights\",\"script\":[[\"log\",\"now\"]]}]}," ++ 10 ∷
    codes " {\"name\":\"arm\",\"groups\":[{\"name\":\"wheels\",\"kind\":\"exclusive\"}]," ++ 10 ∷
    codes "  \"timers\":[{\"name\":\"grip\",\"period\":3,\"group\":\"wheels\",\"script\":[[\"set\",\"g0\",\"sub\",\"g0\",1],[\"log\",\"g" ++
    codes "0\"]]}]}]," ++ 10 ∷
    codes " \"moments\":[2,3,4,9]}" ++ 10 ∷
    []

abbrev pub groups_transcript : List ℕ
groups_transcript =
    codes "round 1 2" ++ 10 ∷
    codes "run left timer 2 0" ++ 10 ∷
    codes "log left 1" ++ 10 ∷
    codes "run watch timer 2 0" ++ 10 ∷
    codes "log watch 100" ++ 10 ∷
    codes "round 2 3" ++ 10 ∷
    codes "run right timer 3 0" ++ 10 ∷
    codes "log right 11" ++ 10 ∷
    codes "run grip timer 3 0" ++ 10 ∷
    codes "log grip -1" ++ 10 ∷
    codes "round 3 4" ++ 10 ∷
    codes "run left timer 4 0" ++ 10 ∷
    codes "log left 12" ++ 10 ∷
    codes "run watch timer 4 0" ++ 10 ∷
    codes "log watch 200" ++ 10 ∷
    codes "run blink timer 4 0" ++ 10 ∷
    codes "log blink 4" ++ 10 ∷
    codes "round 4 9" ++ 10 ∷
    codes "run left timer 9 0" ++ 10 ∷
    codes "log left 13" ++ 10 ∷
    codes "run right timer 9 0" ++ 10 ∷
    codes "log right 23" ++ 10 ∷
    codes "run watch timer 9 0" ++ 10 ∷
    codes "log watch 300" ++ 10 ∷
    codes "run blink timer 9 0" ++ 10 ∷
    codes "log blink 9" ++ 10 ∷
    codes "run grip timer 9 0" ++ 10 ∷
    codes "log grip -2" ++ 10 ∷
    codes "end 4" ++ 10 ∷
    []

-- examples/keep_last.json
abbrev pub keep_last_document : List ℕ
keep_last_document =
    codes "{\"version\":1," ++ 10 ∷
    codes " \"topics\":[\"frames\"]," ++ 10 ∷
    codes " \"nodes\":[{\"name\":\"camera\"," ++ 10 ∷
    codes "   \"timers\":[{\"name\":\"burst\",\"period\":10,\"script\":[[\"pub\",\"frames\",1],[\"pub\",\"frames\",2],[\"pub\",\"fra" ++
    codes "mes\",3],[\"pub\",\"frames\",4]]}]}," ++ 10 ∷
    codes "  {\"name\":\"viewers\"," ++ 10 ∷
    codes "   \"subscriptions\":[{\"name\":\"latest\",\"topic\":\"frames\",\"depth\":1,\"script\":[[\"log\",\"in\"]]}," ++ 10 ∷
    codes "    {\"name\":\"last_two\",\"topic\":\"frames\",\"depth\":2,\"script\":[[\"log\",\"in\"]]}," ++ 10 ∷
    codes "    {\"name\":\"all\",\"topic\":\"frames\",\"script\":[[\"log\",\"in\"]]}]}]," ++ 10 ∷
    codes " \"moments\":[10,11,12,13,14]}" ++ 10 ∷
    []

abbrev pub keep_last_transcript : List ℕ
keep_last_transcript =
    codes "round 1 10" ++ 10 ∷
    codes "run burst timer 10 0" ++ 10 ∷
    codes "pub frames 1" ++ 10 ∷
    codes "pub frames 2" ++ 10 ∷
    codes "drop latest message 1" ++ 10 ∷
    codes "pub frames 3" ++ 10 ∷
    codes "drop latest message 2" ++ 10 ∷
    codes "drop last_two message 1" ++ 10 ∷
    codes "pub frames 4" ++ 10 ∷
    codes "drop latest message 3" ++ 10 ∷
    codes "drop last_two message 2" ++ 10 ∷
    codes "round 2 11" ++ 10 ∷
    codes "run latest message 4 0" ++ 10 ∷
    codes "log latest 4" ++ 10 ∷
    codes "run last_two message 3 0" ++ 10 ∷
    codes "log last_two 3" ++ 10 ∷
    codes "run all message 1 0" ++ 10 ∷
    codes "log all 1" ++ 10 ∷
    codes "round 3 12" ++ 10 ∷
    codes "run last_two message 4 0" ++ 10 ∷
    codes "log last_two 4" ++ 10 ∷
    codes "run all message 2 0" ++ 10 ∷
    codes "log all 2" ++ 10 ∷
    codes "round 4 13" ++ 10 ∷
    codes "run all message 3 0" ++ 10 ∷
    codes "log all 3" ++ 10 ∷
    codes "round 5 14" ++ 10 ∷
    codes "run all message 4 0" ++ 10 ∷
    codes "log all 4" ++ 10 ∷
    codes "end 5" ++ 10 ∷
    []

-- examples/navigation.json
abbrev pub navigation_document : List ℕ
navigation_document =
    codes "{\"version\":1," ++ 10 ∷
    codes " \"topics\":[\"scan\",\"battery\",\"cmd_vel\"]," ++ 10 ∷
    codes " \"nodes\":[{\"name\":\"planner\",\"services\":[{\"name\":\"plan_path\",\"script\":[[\"set\",\"r0\",\"add\",\"in\",2],[\"re" ++
    codes "ply\",\"r0\"]]}]}," ++ 10 ∷
    codes "  {\"name\":\"navigator\"," ++ 10 ∷
    codes "   \"groups\":[{\"name\":\"driving\",\"kind\":\"exclusive\"}]," ++ 10 ∷
    codes "   \"subscriptions\":[{\"name\":\"watch_scan\",\"group\":\"driving\",\"topic\":\"scan\",\"depth\":1," ++ 10 ∷
    codes "     \"script\":[[\"set\",\"g0\",\"add\",\"in\",0],[\"set\",\"g1\",\"add\",\"now\",0]]}]," ++ 10 ∷
    codes "   \"clients\":[{\"name\":\"ask_path\",\"group\":\"driving\",\"service\":\"plan_path\",\"script\":[[\"set\",\"g2\",\"add\"" ++
    codes ",\"in\",0]]}]," ++ 10 ∷
    codes "   \"actions\":[{\"name\":\"navigate\",\"group\":\"driving\",\"result_timeout\":500," ++ 10 ∷
    codes "     \"on_goal\":[[\"skip\",\"g3\",2],[\"set\",\"g3\",\"add\",1,0],[\"decide\",2]]," ++ 10 ∷
    codes "     \"on_cancel\":[[\"decide\",2]]," ++ 10 ∷
    codes "     \"script\":[[\"skip\",\"aux\",31]," ++ 10 ∷
    codes "      [\"skip\",\"r6\",4]," ++ 10 ∷
    codes "      [\"set\",\"r6\",\"add\",1,0]," ++ 10 ∷
    codes "      [\"set\",\"g2\",\"add\",0,0]," ++ 10 ∷
    codes "      [\"set\",\"g1\",\"add\",\"now\",0]," ++ 10 ∷
    codes "      [\"call\",\"ask_path\",\"in\"]," ++ 10 ∷
    codes "      [\"set\",\"r0\",\"sub\",\"now\",\"g1\"]," ++ 10 ∷
    codes "      [\"set\",\"r7\",\"lt\",25,\"r0\"]," ++ 10 ∷
    codes "      [\"skip\",\"r7\",20]," ++ 10 ∷
    codes "      [\"set\",\"r7\",\"eq\",\"g2\",0]," ++ 10 ∷
    codes "      [\"skip\",\"r7\",12]," ++ 10 ∷
    codes "      [\"set\",\"r7\",\"lt\",\"r5\",\"g2\"]," ++ 10 ∷
    codes "      [\"set\",\"r7\",\"eq\",\"r7\",0]," ++ 10 ∷
    codes "      [\"skip\",\"r7\",12]," ++ 10 ∷
    codes "      [\"set\",\"r5\",\"add\",\"r5\",1]," ++ 10 ∷
    codes "      [\"set\",\"r1\",\"sub\",\"g2\",\"r5\"]," ++ 10 ∷
    codes "      [\"feedback\",\"r1\"]," ++ 10 ∷
    codes "      [\"set\",\"r2\",\"add\",30,0]," ++ 10 ∷
    codes "      [\"set\",\"r7\",\"lt\",\"g0\",100]," ++ 10 ∷
    codes "      [\"set\",\"r7\",\"eq\",\"r7\",0]," ++ 10 ∷
    codes "      [\"skip\",\"r7\",1]," ++ 10 ∷
    codes "      [\"set\",\"r2\",\"add\",10,0]," ++ 10 ∷
    codes "      [\"pub\",\"cmd_vel\",\"r2\"]," ++ 10 ∷
    codes "      [\"wait\",4]," ++ 10 ∷
    codes "      [\"skip\",\"aux\",7]," ++ 10 ∷
    codes "      [\"skip\",1,9]," ++ 10 ∷
    codes "      [\"pub\",\"cmd_vel\",0]," ++ 10 ∷
    codes "      [\"set\",\"g3\",\"add\",0,0]," ++ 10 ∷
    codes "      [\"succeed\",\"r5\"]," ++ 10 ∷
    codes "      [\"pub\",\"cmd_vel\",0]," ++ 10 ∷
    codes "      [\"set\",\"g3\",\"add\",0,0]," ++ 10 ∷
    codes "      [\"abort\",\"r5\"]," ++ 10 ∷
    codes "      [\"pub\",\"cmd_vel\",0]," ++ 10 ∷
    codes "      [\"set\",\"g3\",\"add\",0,0]," ++ 10 ∷
    codes "      [\"canceled\",\"r5\"]]}]}," ++ 10 ∷
    codes "  {\"name\":\"base\",\"subscriptions\":[{\"name\":\"motor\",\"topic\":\"cmd_vel\",\"depth\":1,\"script\":[[\"log\",\"in\"]" ++
    codes "]}]}," ++ 10 ∷
    codes "  {\"name\":\"mission\"," ++ 10 ∷
    codes "   \"timers\":[{\"name\":\"start\",\"period\":50,\"script\":[[\"skip\",\"g0\",2],[\"set\",\"g0\",\"add\",1,0],[\"goal\",\"g" ++
    codes "o\",30]]}]," ++ 10 ∷
    codes "   \"subscriptions\":[{\"name\":\"watch_battery\",\"topic\":\"battery\",\"depth\":1," ++ 10 ∷
    codes "     \"script\":[[\"set\",\"r7\",\"lt\",\"in\",20],[\"set\",\"r7\",\"eq\",\"r7\",0],[\"skip\",\"r7\",1],[\"cancel\",\"go\",\"go" ++
    codes "al\",1]]}]," ++ 10 ∷
    codes "   \"action_clients\":[{\"name\":\"go\",\"action\":\"navigate\"," ++ 10 ∷
    codes "     \"on_response\":[[\"log\",\"in\"]]," ++ 10 ∷
    codes "     \"on_feedback\":[[\"log\",\"in\"]]," ++ 10 ∷
    codes "     \"on_result\":[[\"log\",\"aux\"]]}]}]," ++ 10 ∷
    codes " \"moments\":[0,1,2,3,4,5,6,7,8,9,10,11,12,13,14,15,16,17,18,19,20,21,22,23,24,25,26,27,28,29,30,31,32" ++
    codes ",33,34,35,36,37,38,39,40,41,42," ++ 10 ∷
    codes "  43,44,45,46,47,48,49,50,51,52,53,54,55,56,57,58,59,60,61,62,63,64,65,66,67,68,69,70,71,72,73,74,75" ++
    codes ",76,77,78,79,80,81," ++ 10 ∷
    codes "  82,83,84,85,86,87,88,89,90,91,92,93,94,95,96,97,98,99,100,101,102,103,104,105,106,107,108,109,110," ++
    codes "111,112,113,114,115," ++ 10 ∷
    codes "  116,117,118,119,120,121,122,123,124,125,126,127,128,129,130,131,132,133,134,135,136,137,138,139,14" ++
    codes "0,141,142,143,144," ++ 10 ∷
    codes "  145,146,147,148,149,150,151,152,153,154,155,156,157,158,159,160,161,162,163,164,165,166,167,168,16" ++
    codes "9,170,171,172,173," ++ 10 ∷
    codes "  174,175,176,177,178,179,180,181,182,183,184,185,186,187,188,189,190,191,192,193,194,195,196,197,19" ++
    codes "8,199,200,201,202," ++ 10 ∷
    codes "  203,204,205,206,207,208,209,210,211,212,213,214,215,216,217,218,219,220,221,222,223,224,225,226,22" ++
    codes "7,228,229,230,231," ++ 10 ∷
    codes "  232,233,234,235,236,237,238,239,240,241,242,243,244,245,246,247,248,249,250]," ++ 10 ∷
    codes " \"feed\":[{\"round\":1,\"topic\":\"scan\",\"value\":300}," ++ 10 ∷
    codes "  {\"round\":4,\"topic\":\"battery\",\"value\":80}," ++ 10 ∷
    codes "  {\"round\":11,\"topic\":\"scan\",\"value\":290}," ++ 10 ∷
    codes "  {\"round\":21,\"topic\":\"scan\",\"value\":280}," ++ 10 ∷
    codes "  {\"round\":31,\"topic\":\"scan\",\"value\":270}," ++ 10 ∷
    codes "  {\"round\":41,\"topic\":\"scan\",\"value\":260}," ++ 10 ∷
    codes "  {\"round\":51,\"topic\":\"scan\",\"value\":250}," ++ 10 ∷
    codes "  {\"round\":54,\"topic\":\"battery\",\"value\":80}," ++ 10 ∷
    codes "  {\"round\":61,\"topic\":\"scan\",\"value\":240}," ++ 10 ∷
    codes "  {\"round\":71,\"topic\":\"scan\",\"value\":230}," ++ 10 ∷
    codes "  {\"round\":81,\"topic\":\"scan\",\"value\":220}," ++ 10 ∷
    codes "  {\"round\":91,\"topic\":\"scan\",\"value\":210}," ++ 10 ∷
    codes "  {\"round\":101,\"topic\":\"scan\",\"value\":200}," ++ 10 ∷
    codes "  {\"round\":104,\"topic\":\"battery\",\"value\":80}," ++ 10 ∷
    codes "  {\"round\":111,\"topic\":\"scan\",\"value\":190}," ++ 10 ∷
    codes "  {\"round\":121,\"topic\":\"scan\",\"value\":180}," ++ 10 ∷
    codes "  {\"round\":131,\"topic\":\"scan\",\"value\":170}," ++ 10 ∷
    codes "  {\"round\":141,\"topic\":\"scan\",\"value\":160}," ++ 10 ∷
    codes "  {\"round\":151,\"topic\":\"scan\",\"value\":150}," ++ 10 ∷
    codes "  {\"round\":154,\"topic\":\"battery\",\"value\":15}," ++ 10 ∷
    codes "  {\"round\":161,\"topic\":\"scan\",\"value\":140}," ++ 10 ∷
    codes "  {\"round\":171,\"topic\":\"scan\",\"value\":130}," ++ 10 ∷
    codes "  {\"round\":181,\"topic\":\"scan\",\"value\":120}," ++ 10 ∷
    codes "  {\"round\":191,\"topic\":\"scan\",\"value\":110}," ++ 10 ∷
    codes "  {\"round\":201,\"topic\":\"scan\",\"value\":100}," ++ 10 ∷
    codes "  {\"round\":204,\"topic\":\"battery\",\"value\":15}," ++ 10 ∷
    codes "  {\"round\":211,\"topic\":\"scan\",\"value\":90}," ++ 10 ∷
    codes "  {\"round\":221,\"topic\":\"scan\",\"value\":80}," ++ 10 ∷
    codes "  {\"round\":231,\"topic\":\"scan\",\"value\":70}," ++ 10 ∷
    codes "  {\"round\":241,\"topic\":\"scan\",\"value\":60}]}" ++ 10 ∷
    []

abbrev pub navigation_transcript : List ℕ
navigation_transcript =
    codes "round 1 0" ++ 10 ∷
    codes "run watch_scan message 300 0" ++ 10 ∷
    codes "round 2 1" ++ 10 ∷
    codes "round 3 2" ++ 10 ∷
    codes "round 4 3" ++ 10 ∷
    codes "run watch_battery message 80 0" ++ 10 ∷
    codes "round 5 4" ++ 10 ∷
    codes "round 6 5" ++ 10 ∷
    codes "round 7 6" ++ 10 ∷
    codes "round 8 7" ++ 10 ∷
    codes "round 9 8" ++ 10 ∷
    codes "round 10 9" ++ 10 ∷
    codes "round 11 10" ++ 10 ∷
    codes "run watch_scan message 290 0" ++ 10 ∷
    codes "round 12 11" ++ 10 ∷
    codes "round 13 12" ++ 10 ∷
    codes "round 14 13" ++ 10 ∷
    codes "round 15 14" ++ 10 ∷
    codes "round 16 15" ++ 10 ∷
    codes "round 17 16" ++ 10 ∷
    codes "round 18 17" ++ 10 ∷
    codes "round 19 18" ++ 10 ∷
    codes "round 20 19" ++ 10 ∷
    codes "round 21 20" ++ 10 ∷
    codes "run watch_scan message 280 0" ++ 10 ∷
    codes "round 22 21" ++ 10 ∷
    codes "round 23 22" ++ 10 ∷
    codes "round 24 23" ++ 10 ∷
    codes "round 25 24" ++ 10 ∷
    codes "round 26 25" ++ 10 ∷
    codes "round 27 26" ++ 10 ∷
    codes "round 28 27" ++ 10 ∷
    codes "round 29 28" ++ 10 ∷
    codes "round 30 29" ++ 10 ∷
    codes "round 31 30" ++ 10 ∷
    codes "run watch_scan message 270 0" ++ 10 ∷
    codes "round 32 31" ++ 10 ∷
    codes "round 33 32" ++ 10 ∷
    codes "round 34 33" ++ 10 ∷
    codes "round 35 34" ++ 10 ∷
    codes "round 36 35" ++ 10 ∷
    codes "round 37 36" ++ 10 ∷
    codes "round 38 37" ++ 10 ∷
    codes "round 39 38" ++ 10 ∷
    codes "round 40 39" ++ 10 ∷
    codes "round 41 40" ++ 10 ∷
    codes "run watch_scan message 260 0" ++ 10 ∷
    codes "round 42 41" ++ 10 ∷
    codes "round 43 42" ++ 10 ∷
    codes "round 44 43" ++ 10 ∷
    codes "round 45 44" ++ 10 ∷
    codes "round 46 45" ++ 10 ∷
    codes "round 47 46" ++ 10 ∷
    codes "round 48 47" ++ 10 ∷
    codes "round 49 48" ++ 10 ∷
    codes "round 50 49" ++ 10 ∷
    codes "round 51 50" ++ 10 ∷
    codes "run start timer 50 0" ++ 10 ∷
    codes "goal go 00000000-0000-0001-0000-000000000001 30" ++ 10 ∷
    codes "run watch_scan message 250 0" ++ 10 ∷
    codes "round 52 51" ++ 10 ∷
    codes "run navigate goal 30 0 00000000-0000-0001-0000-000000000001" ++ 10 ∷
    codes "decide navigate 00000000-0000-0001-0000-000000000001 2" ++ 10 ∷
    codes "state navigate 00000000-0000-0001-0000-000000000001 1" ++ 10 ∷
    codes "state navigate 00000000-0000-0001-0000-000000000001 2" ++ 10 ∷
    codes "round 53 52" ++ 10 ∷
    codes "run navigate poll 30 0 00000000-0000-0001-0000-000000000001" ++ 10 ∷
    codes "call ask_path 1 30" ++ 10 ∷
    codes "run go response 1 1 00000000-0000-0001-0000-000000000001" ++ 10 ∷
    codes "log go 1" ++ 10 ∷
    codes "ask go 00000000-0000-0001-0000-000000000001" ++ 10 ∷
    codes "round 54 53" ++ 10 ∷
    codes "run watch_battery message 80 0" ++ 10 ∷
    codes "run plan_path request 30 0" ++ 10 ∷
    codes "reply plan_path 32" ++ 10 ∷
    codes "run navigate ask 0 0 00000000-0000-0001-0000-000000000001" ++ 10 ∷
    codes "round 55 54" ++ 10 ∷
    codes "run ask_path reply 32 1" ++ 10 ∷
    codes "round 56 55" ++ 10 ∷
    codes "round 57 56" ++ 10 ∷
    codes "run navigate poll 30 0 00000000-0000-0001-0000-000000000001" ++ 10 ∷
    codes "round 58 57" ++ 10 ∷
    codes "run navigate poll 30 0 00000000-0000-0001-0000-000000000001" ++ 10 ∷
    codes "feedback navigate 00000000-0000-0001-0000-000000000001 31" ++ 10 ∷
    codes "pub cmd_vel 30" ++ 10 ∷
    codes "round 59 58" ++ 10 ∷
    codes "run motor message 30 0" ++ 10 ∷
    codes "log motor 30" ++ 10 ∷
    codes "run go feedback 31 1 00000000-0000-0001-0000-000000000001" ++ 10 ∷
    codes "log go 31" ++ 10 ∷
    codes "round 60 59" ++ 10 ∷
    codes "round 61 60" ++ 10 ∷
    codes "run watch_scan message 240 0" ++ 10 ∷
    codes "round 62 61" ++ 10 ∷
    codes "run navigate poll 30 0 00000000-0000-0001-0000-000000000001" ++ 10 ∷
    codes "round 63 62" ++ 10 ∷
    codes "run navigate poll 30 0 00000000-0000-0001-0000-000000000001" ++ 10 ∷
    codes "feedback navigate 00000000-0000-0001-0000-000000000001 30" ++ 10 ∷
    codes "pub cmd_vel 30" ++ 10 ∷
    codes "round 64 63" ++ 10 ∷
    codes "run motor message 30 0" ++ 10 ∷
    codes "log motor 30" ++ 10 ∷
    codes "run go feedback 30 1 00000000-0000-0001-0000-000000000001" ++ 10 ∷
    codes "log go 30" ++ 10 ∷
    codes "round 65 64" ++ 10 ∷
    codes "round 66 65" ++ 10 ∷
    codes "round 67 66" ++ 10 ∷
    codes "run navigate poll 30 0 00000000-0000-0001-0000-000000000001" ++ 10 ∷
    codes "round 68 67" ++ 10 ∷
    codes "run navigate poll 30 0 00000000-0000-0001-0000-000000000001" ++ 10 ∷
    codes "feedback navigate 00000000-0000-0001-0000-000000000001 29" ++ 10 ∷
    codes "pub cmd_vel 30" ++ 10 ∷
    codes "round 69 68" ++ 10 ∷
    codes "run motor message 30 0" ++ 10 ∷
    codes "log motor 30" ++ 10 ∷
    codes "run go feedback 29 1 00000000-0000-0001-0000-000000000001" ++ 10 ∷
    codes "log go 29" ++ 10 ∷
    codes "round 70 69" ++ 10 ∷
    codes "round 71 70" ++ 10 ∷
    codes "run watch_scan message 230 0" ++ 10 ∷
    codes "round 72 71" ++ 10 ∷
    codes "run navigate poll 30 0 00000000-0000-0001-0000-000000000001" ++ 10 ∷
    codes "round 73 72" ++ 10 ∷
    codes "run navigate poll 30 0 00000000-0000-0001-0000-000000000001" ++ 10 ∷
    codes "feedback navigate 00000000-0000-0001-0000-000000000001 28" ++ 10 ∷
    codes "pub cmd_vel 30" ++ 10 ∷
    codes "round 74 73" ++ 10 ∷
    codes "run motor message 30 0" ++ 10 ∷
    codes "log motor 30" ++ 10 ∷
    codes "run go feedback 28 1 00000000-0000-0001-0000-000000000001" ++ 10 ∷
    codes "log go 28" ++ 10 ∷
    codes "round 75 74" ++ 10 ∷
    codes "round 76 75" ++ 10 ∷
    codes "round 77 76" ++ 10 ∷
    codes "run navigate poll 30 0 00000000-0000-0001-0000-000000000001" ++ 10 ∷
    codes "round 78 77" ++ 10 ∷
    codes "run navigate poll 30 0 00000000-0000-0001-0000-000000000001" ++ 10 ∷
    codes "feedback navigate 00000000-0000-0001-0000-000000000001 27" ++ 10 ∷
    codes "pub cmd_vel 30" ++ 10 ∷
    codes "round 79 78" ++ 10 ∷
    codes "run motor message 30 0" ++ 10 ∷
    codes "log motor 30" ++ 10 ∷
    codes "run go feedback 27 1 00000000-0000-0001-0000-000000000001" ++ 10 ∷
    codes "log go 27" ++ 10 ∷
    codes "round 80 79" ++ 10 ∷
    codes "round 81 80" ++ 10 ∷
    codes "run watch_scan message 220 0" ++ 10 ∷
    codes "round 82 81" ++ 10 ∷
    codes "run navigate poll 30 0 00000000-0000-0001-0000-000000000001" ++ 10 ∷
    codes "round 83 82" ++ 10 ∷
    codes "run navigate poll 30 0 00000000-0000-0001-0000-000000000001" ++ 10 ∷
    codes "feedback navigate 00000000-0000-0001-0000-000000000001 26" ++ 10 ∷
    codes "pub cmd_vel 30" ++ 10 ∷
    codes "round 84 83" ++ 10 ∷
    codes "run motor message 30 0" ++ 10 ∷
    codes "log motor 30" ++ 10 ∷
    codes "run go feedback 26 1 00000000-0000-0001-0000-000000000001" ++ 10 ∷
    codes "log go 26" ++ 10 ∷
    codes "round 85 84" ++ 10 ∷
    codes "round 86 85" ++ 10 ∷
    codes "round 87 86" ++ 10 ∷
    codes "run navigate poll 30 0 00000000-0000-0001-0000-000000000001" ++ 10 ∷
    codes "round 88 87" ++ 10 ∷
    codes "run navigate poll 30 0 00000000-0000-0001-0000-000000000001" ++ 10 ∷
    codes "feedback navigate 00000000-0000-0001-0000-000000000001 25" ++ 10 ∷
    codes "pub cmd_vel 30" ++ 10 ∷
    codes "round 89 88" ++ 10 ∷
    codes "run motor message 30 0" ++ 10 ∷
    codes "log motor 30" ++ 10 ∷
    codes "run go feedback 25 1 00000000-0000-0001-0000-000000000001" ++ 10 ∷
    codes "log go 25" ++ 10 ∷
    codes "round 90 89" ++ 10 ∷
    codes "round 91 90" ++ 10 ∷
    codes "run watch_scan message 210 0" ++ 10 ∷
    codes "round 92 91" ++ 10 ∷
    codes "run navigate poll 30 0 00000000-0000-0001-0000-000000000001" ++ 10 ∷
    codes "round 93 92" ++ 10 ∷
    codes "run navigate poll 30 0 00000000-0000-0001-0000-000000000001" ++ 10 ∷
    codes "feedback navigate 00000000-0000-0001-0000-000000000001 24" ++ 10 ∷
    codes "pub cmd_vel 30" ++ 10 ∷
    codes "round 94 93" ++ 10 ∷
    codes "run motor message 30 0" ++ 10 ∷
    codes "log motor 30" ++ 10 ∷
    codes "run go feedback 24 1 00000000-0000-0001-0000-000000000001" ++ 10 ∷
    codes "log go 24" ++ 10 ∷
    codes "round 95 94" ++ 10 ∷
    codes "round 96 95" ++ 10 ∷
    codes "round 97 96" ++ 10 ∷
    codes "run navigate poll 30 0 00000000-0000-0001-0000-000000000001" ++ 10 ∷
    codes "round 98 97" ++ 10 ∷
    codes "run navigate poll 30 0 00000000-0000-0001-0000-000000000001" ++ 10 ∷
    codes "feedback navigate 00000000-0000-0001-0000-000000000001 23" ++ 10 ∷
    codes "pub cmd_vel 30" ++ 10 ∷
    codes "round 99 98" ++ 10 ∷
    codes "run motor message 30 0" ++ 10 ∷
    codes "log motor 30" ++ 10 ∷
    codes "run go feedback 23 1 00000000-0000-0001-0000-000000000001" ++ 10 ∷
    codes "log go 23" ++ 10 ∷
    codes "round 100 99" ++ 10 ∷
    codes "round 101 100" ++ 10 ∷
    codes "run start timer 100 0" ++ 10 ∷
    codes "run watch_scan message 200 0" ++ 10 ∷
    codes "round 102 101" ++ 10 ∷
    codes "run navigate poll 30 0 00000000-0000-0001-0000-000000000001" ++ 10 ∷
    codes "round 103 102" ++ 10 ∷
    codes "run navigate poll 30 0 00000000-0000-0001-0000-000000000001" ++ 10 ∷
    codes "feedback navigate 00000000-0000-0001-0000-000000000001 22" ++ 10 ∷
    codes "pub cmd_vel 30" ++ 10 ∷
    codes "round 104 103" ++ 10 ∷
    codes "run motor message 30 0" ++ 10 ∷
    codes "log motor 30" ++ 10 ∷
    codes "run watch_battery message 80 0" ++ 10 ∷
    codes "run go feedback 22 1 00000000-0000-0001-0000-000000000001" ++ 10 ∷
    codes "log go 22" ++ 10 ∷
    codes "round 105 104" ++ 10 ∷
    codes "round 106 105" ++ 10 ∷
    codes "round 107 106" ++ 10 ∷
    codes "run navigate poll 30 0 00000000-0000-0001-0000-000000000001" ++ 10 ∷
    codes "round 108 107" ++ 10 ∷
    codes "run navigate poll 30 0 00000000-0000-0001-0000-000000000001" ++ 10 ∷
    codes "feedback navigate 00000000-0000-0001-0000-000000000001 21" ++ 10 ∷
    codes "pub cmd_vel 30" ++ 10 ∷
    codes "round 109 108" ++ 10 ∷
    codes "run motor message 30 0" ++ 10 ∷
    codes "log motor 30" ++ 10 ∷
    codes "run go feedback 21 1 00000000-0000-0001-0000-000000000001" ++ 10 ∷
    codes "log go 21" ++ 10 ∷
    codes "round 110 109" ++ 10 ∷
    codes "round 111 110" ++ 10 ∷
    codes "run watch_scan message 190 0" ++ 10 ∷
    codes "round 112 111" ++ 10 ∷
    codes "run navigate poll 30 0 00000000-0000-0001-0000-000000000001" ++ 10 ∷
    codes "round 113 112" ++ 10 ∷
    codes "run navigate poll 30 0 00000000-0000-0001-0000-000000000001" ++ 10 ∷
    codes "feedback navigate 00000000-0000-0001-0000-000000000001 20" ++ 10 ∷
    codes "pub cmd_vel 30" ++ 10 ∷
    codes "round 114 113" ++ 10 ∷
    codes "run motor message 30 0" ++ 10 ∷
    codes "log motor 30" ++ 10 ∷
    codes "run go feedback 20 1 00000000-0000-0001-0000-000000000001" ++ 10 ∷
    codes "log go 20" ++ 10 ∷
    codes "round 115 114" ++ 10 ∷
    codes "round 116 115" ++ 10 ∷
    codes "round 117 116" ++ 10 ∷
    codes "run navigate poll 30 0 00000000-0000-0001-0000-000000000001" ++ 10 ∷
    codes "round 118 117" ++ 10 ∷
    codes "run navigate poll 30 0 00000000-0000-0001-0000-000000000001" ++ 10 ∷
    codes "feedback navigate 00000000-0000-0001-0000-000000000001 19" ++ 10 ∷
    codes "pub cmd_vel 30" ++ 10 ∷
    codes "round 119 118" ++ 10 ∷
    codes "run motor message 30 0" ++ 10 ∷
    codes "log motor 30" ++ 10 ∷
    codes "run go feedback 19 1 00000000-0000-0001-0000-000000000001" ++ 10 ∷
    codes "log go 19" ++ 10 ∷
    codes "round 120 119" ++ 10 ∷
    codes "round 121 120" ++ 10 ∷
    codes "run watch_scan message 180 0" ++ 10 ∷
    codes "round 122 121" ++ 10 ∷
    codes "run navigate poll 30 0 00000000-0000-0001-0000-000000000001" ++ 10 ∷
    codes "round 123 122" ++ 10 ∷
    codes "run navigate poll 30 0 00000000-0000-0001-0000-000000000001" ++ 10 ∷
    codes "feedback navigate 00000000-0000-0001-0000-000000000001 18" ++ 10 ∷
    codes "pub cmd_vel 30" ++ 10 ∷
    codes "round 124 123" ++ 10 ∷
    codes "run motor message 30 0" ++ 10 ∷
    codes "log motor 30" ++ 10 ∷
    codes "run go feedback 18 1 00000000-0000-0001-0000-000000000001" ++ 10 ∷
    codes "log go 18" ++ 10 ∷
    codes "round 125 124" ++ 10 ∷
    codes "round 126 125" ++ 10 ∷
    codes "round 127 126" ++ 10 ∷
    codes "run navigate poll 30 0 00000000-0000-0001-0000-000000000001" ++ 10 ∷
    codes "round 128 127" ++ 10 ∷
    codes "run navigate poll 30 0 00000000-0000-0001-0000-000000000001" ++ 10 ∷
    codes "feedback navigate 00000000-0000-0001-0000-000000000001 17" ++ 10 ∷
    codes "pub cmd_vel 30" ++ 10 ∷
    codes "round 129 128" ++ 10 ∷
    codes "run motor message 30 0" ++ 10 ∷
    codes "log motor 30" ++ 10 ∷
    codes "run go feedback 17 1 00000000-0000-0001-0000-000000000001" ++ 10 ∷
    codes "log go 17" ++ 10 ∷
    codes "round 130 129" ++ 10 ∷
    codes "round 131 130" ++ 10 ∷
    codes "run watch_scan message 170 0" ++ 10 ∷
    codes "round 132 131" ++ 10 ∷
    codes "run navigate poll 30 0 00000000-0000-0001-0000-000000000001" ++ 10 ∷
    codes "round 133 132" ++ 10 ∷
    codes "run navigate poll 30 0 00000000-0000-0001-0000-000000000001" ++ 10 ∷
    codes "feedback navigate 00000000-0000-0001-0000-000000000001 16" ++ 10 ∷
    codes "pub cmd_vel 30" ++ 10 ∷
    codes "round 134 133" ++ 10 ∷
    codes "run motor message 30 0" ++ 10 ∷
    codes "log motor 30" ++ 10 ∷
    codes "run go feedback 16 1 00000000-0000-0001-0000-000000000001" ++ 10 ∷
    codes "log go 16" ++ 10 ∷
    codes "round 135 134" ++ 10 ∷
    codes "round 136 135" ++ 10 ∷
    codes "round 137 136" ++ 10 ∷
    codes "run navigate poll 30 0 00000000-0000-0001-0000-000000000001" ++ 10 ∷
    codes "round 138 137" ++ 10 ∷
    codes "run navigate poll 30 0 00000000-0000-0001-0000-000000000001" ++ 10 ∷
    codes "feedback navigate 00000000-0000-0001-0000-000000000001 15" ++ 10 ∷
    codes "pub cmd_vel 30" ++ 10 ∷
    codes "round 139 138" ++ 10 ∷
    codes "run motor message 30 0" ++ 10 ∷
    codes "log motor 30" ++ 10 ∷
    codes "run go feedback 15 1 00000000-0000-0001-0000-000000000001" ++ 10 ∷
    codes "log go 15" ++ 10 ∷
    codes "round 140 139" ++ 10 ∷
    codes "round 141 140" ++ 10 ∷
    codes "run watch_scan message 160 0" ++ 10 ∷
    codes "round 142 141" ++ 10 ∷
    codes "run navigate poll 30 0 00000000-0000-0001-0000-000000000001" ++ 10 ∷
    codes "round 143 142" ++ 10 ∷
    codes "run navigate poll 30 0 00000000-0000-0001-0000-000000000001" ++ 10 ∷
    codes "feedback navigate 00000000-0000-0001-0000-000000000001 14" ++ 10 ∷
    codes "pub cmd_vel 30" ++ 10 ∷
    codes "round 144 143" ++ 10 ∷
    codes "run motor message 30 0" ++ 10 ∷
    codes "log motor 30" ++ 10 ∷
    codes "run go feedback 14 1 00000000-0000-0001-0000-000000000001" ++ 10 ∷
    codes "log go 14" ++ 10 ∷
    codes "round 145 144" ++ 10 ∷
    codes "round 146 145" ++ 10 ∷
    codes "round 147 146" ++ 10 ∷
    codes "run navigate poll 30 0 00000000-0000-0001-0000-000000000001" ++ 10 ∷
    codes "round 148 147" ++ 10 ∷
    codes "run navigate poll 30 0 00000000-0000-0001-0000-000000000001" ++ 10 ∷
    codes "feedback navigate 00000000-0000-0001-0000-000000000001 13" ++ 10 ∷
    codes "pub cmd_vel 30" ++ 10 ∷
    codes "round 149 148" ++ 10 ∷
    codes "run motor message 30 0" ++ 10 ∷
    codes "log motor 30" ++ 10 ∷
    codes "run go feedback 13 1 00000000-0000-0001-0000-000000000001" ++ 10 ∷
    codes "log go 13" ++ 10 ∷
    codes "round 150 149" ++ 10 ∷
    codes "round 151 150" ++ 10 ∷
    codes "run start timer 150 0" ++ 10 ∷
    codes "run watch_scan message 150 0" ++ 10 ∷
    codes "round 152 151" ++ 10 ∷
    codes "run navigate poll 30 0 00000000-0000-0001-0000-000000000001" ++ 10 ∷
    codes "round 153 152" ++ 10 ∷
    codes "run navigate poll 30 0 00000000-0000-0001-0000-000000000001" ++ 10 ∷
    codes "feedback navigate 00000000-0000-0001-0000-000000000001 12" ++ 10 ∷
    codes "pub cmd_vel 30" ++ 10 ∷
    codes "round 154 153" ++ 10 ∷
    codes "run motor message 30 0" ++ 10 ∷
    codes "log motor 30" ++ 10 ∷
    codes "run watch_battery message 15 0" ++ 10 ∷
    codes "cancel go 00000000-0000-0001-0000-000000000001 0" ++ 10 ∷
    codes "run go feedback 12 1 00000000-0000-0001-0000-000000000001" ++ 10 ∷
    codes "log go 12" ++ 10 ∷
    codes "round 155 154" ++ 10 ∷
    codes "run navigate cancel 0 1 00000000-0000-0001-0000-000000000001" ++ 10 ∷
    codes "state navigate 00000000-0000-0001-0000-000000000001 3" ++ 10 ∷
    codes "code navigate 0 1" ++ 10 ∷
    codes "round 156 155" ++ 10 ∷
    codes "run navigate poll 30 1 00000000-0000-0001-0000-000000000001" ++ 10 ∷
    codes "pub cmd_vel 0" ++ 10 ∷
    codes "state navigate 00000000-0000-0001-0000-000000000001 5" ++ 10 ∷
    codes "result navigate 00000000-0000-0001-0000-000000000001 5 20" ++ 10 ∷
    codes "run go code 0 1" ++ 10 ∷
    codes "round 157 156" ++ 10 ∷
    codes "run motor message 0 0" ++ 10 ∷
    codes "log motor 0" ++ 10 ∷
    codes "run go result 20 5 00000000-0000-0001-0000-000000000001" ++ 10 ∷
    codes "log go 5" ++ 10 ∷
    codes "round 158 157" ++ 10 ∷
    codes "round 159 158" ++ 10 ∷
    codes "round 160 159" ++ 10 ∷
    codes "round 161 160" ++ 10 ∷
    codes "run watch_scan message 140 0" ++ 10 ∷
    codes "round 162 161" ++ 10 ∷
    codes "round 163 162" ++ 10 ∷
    codes "round 164 163" ++ 10 ∷
    codes "round 165 164" ++ 10 ∷
    codes "round 166 165" ++ 10 ∷
    codes "round 167 166" ++ 10 ∷
    codes "round 168 167" ++ 10 ∷
    codes "round 169 168" ++ 10 ∷
    codes "round 170 169" ++ 10 ∷
    codes "round 171 170" ++ 10 ∷
    codes "run watch_scan message 130 0" ++ 10 ∷
    codes "round 172 171" ++ 10 ∷
    codes "round 173 172" ++ 10 ∷
    codes "round 174 173" ++ 10 ∷
    codes "round 175 174" ++ 10 ∷
    codes "round 176 175" ++ 10 ∷
    codes "round 177 176" ++ 10 ∷
    codes "round 178 177" ++ 10 ∷
    codes "round 179 178" ++ 10 ∷
    codes "round 180 179" ++ 10 ∷
    codes "round 181 180" ++ 10 ∷
    codes "run watch_scan message 120 0" ++ 10 ∷
    codes "round 182 181" ++ 10 ∷
    codes "round 183 182" ++ 10 ∷
    codes "round 184 183" ++ 10 ∷
    codes "round 185 184" ++ 10 ∷
    codes "round 186 185" ++ 10 ∷
    codes "round 187 186" ++ 10 ∷
    codes "round 188 187" ++ 10 ∷
    codes "round 189 188" ++ 10 ∷
    codes "round 190 189" ++ 10 ∷
    codes "round 191 190" ++ 10 ∷
    codes "run watch_scan message 110 0" ++ 10 ∷
    codes "round 192 191" ++ 10 ∷
    codes "round 193 192" ++ 10 ∷
    codes "round 194 193" ++ 10 ∷
    codes "round 195 194" ++ 10 ∷
    codes "round 196 195" ++ 10 ∷
    codes "round 197 196" ++ 10 ∷
    codes "round 198 197" ++ 10 ∷
    codes "round 199 198" ++ 10 ∷
    codes "round 200 199" ++ 10 ∷
    codes "round 201 200" ++ 10 ∷
    codes "run start timer 200 0" ++ 10 ∷
    codes "run watch_scan message 100 0" ++ 10 ∷
    codes "round 202 201" ++ 10 ∷
    codes "round 203 202" ++ 10 ∷
    codes "round 204 203" ++ 10 ∷
    codes "run watch_battery message 15 0" ++ 10 ∷
    codes "cancel go 00000000-0000-0001-0000-000000000001 0" ++ 10 ∷
    codes "round 205 204" ++ 10 ∷
    codes "run navigate cancel 0 0 00000000-0000-0001-0000-000000000001" ++ 10 ∷
    codes "code navigate 3 0" ++ 10 ∷
    codes "round 206 205" ++ 10 ∷
    codes "run go code 3 0" ++ 10 ∷
    codes "round 207 206" ++ 10 ∷
    codes "round 208 207" ++ 10 ∷
    codes "round 209 208" ++ 10 ∷
    codes "round 210 209" ++ 10 ∷
    codes "round 211 210" ++ 10 ∷
    codes "run watch_scan message 90 0" ++ 10 ∷
    codes "round 212 211" ++ 10 ∷
    codes "round 213 212" ++ 10 ∷
    codes "round 214 213" ++ 10 ∷
    codes "round 215 214" ++ 10 ∷
    codes "round 216 215" ++ 10 ∷
    codes "round 217 216" ++ 10 ∷
    codes "round 218 217" ++ 10 ∷
    codes "round 219 218" ++ 10 ∷
    codes "round 220 219" ++ 10 ∷
    codes "round 221 220" ++ 10 ∷
    codes "run watch_scan message 80 0" ++ 10 ∷
    codes "round 222 221" ++ 10 ∷
    codes "round 223 222" ++ 10 ∷
    codes "round 224 223" ++ 10 ∷
    codes "round 225 224" ++ 10 ∷
    codes "round 226 225" ++ 10 ∷
    codes "round 227 226" ++ 10 ∷
    codes "round 228 227" ++ 10 ∷
    codes "round 229 228" ++ 10 ∷
    codes "round 230 229" ++ 10 ∷
    codes "round 231 230" ++ 10 ∷
    codes "run watch_scan message 70 0" ++ 10 ∷
    codes "round 232 231" ++ 10 ∷
    codes "round 233 232" ++ 10 ∷
    codes "round 234 233" ++ 10 ∷
    codes "round 235 234" ++ 10 ∷
    codes "round 236 235" ++ 10 ∷
    codes "round 237 236" ++ 10 ∷
    codes "round 238 237" ++ 10 ∷
    codes "round 239 238" ++ 10 ∷
    codes "round 240 239" ++ 10 ∷
    codes "round 241 240" ++ 10 ∷
    codes "run watch_scan message 60 0" ++ 10 ∷
    codes "round 242 241" ++ 10 ∷
    codes "round 243 242" ++ 10 ∷
    codes "round 244 243" ++ 10 ∷
    codes "round 245 244" ++ 10 ∷
    codes "round 246 245" ++ 10 ∷
    codes "round 247 246" ++ 10 ∷
    codes "round 248 247" ++ 10 ∷
    codes "round 249 248" ++ 10 ∷
    codes "round 250 249" ++ 10 ∷
    codes "round 251 250" ++ 10 ∷
    codes "run start timer 250 0" ++ 10 ∷
    codes "end 251" ++ 10 ∷
    []

-- examples/repeated_moment.json
abbrev pub repeated_moment_document : List ℕ
repeated_moment_document =
    codes "{\"version\":1,\"nodes\":[{\"name\":\"n\",\"timers\":[{\"name\":\"t\",\"period\":10,\"script\":[[\"log\",\"now\"]]}]}],\"mo" ++
    codes "ments\":[30,30,30]}" ++ 10 ∷
    []

abbrev pub repeated_moment_transcript : List ℕ
repeated_moment_transcript =
    codes "round 1 30" ++ 10 ∷
    codes "run t timer 30 0" ++ 10 ∷
    codes "log t 30" ++ 10 ∷
    codes "round 2 30" ++ 10 ∷
    codes "run t timer 30 0" ++ 10 ∷
    codes "log t 30" ++ 10 ∷
    codes "round 3 30" ++ 10 ∷
    codes "end 3" ++ 10 ∷
    []

-- examples/result_expires.json
abbrev pub result_expires_document : List ℕ
result_expires_document =
    codes "{\"version\":1," ++ 10 ∷
    codes " \"nodes\":[{\"name\":\"base\",\"actions\":[{\"name\":\"drive\",\"result_timeout\":3,\"on_goal\":[[\"decide\",2]],\"scr" ++
    codes "ipt\":[[\"succeed\",\"in\"]]}]}," ++ 10 ∷
    codes "  {\"name\":\"late\"," ++ 10 ∷
    codes "   \"timers\":[{\"name\":\"start\",\"period\":1,\"script\":[[\"skip\",\"g0\",2],[\"set\",\"g0\",\"add\",1,0],[\"goal\",\"dr" ++
    codes "iver\",5]]}]," ++ 10 ∷
    codes "   \"action_clients\":[{\"name\":\"driver\",\"action\":\"drive\",\"on_response\":[[\"log\",\"in\"]],\"on_result\":[[\"l" ++
    codes "og\",\"aux\"]]}]}]," ++ 10 ∷
    codes " \"moments\":[1,2,3,4,5,8,9,10]," ++ 10 ∷
    codes " \"feed\":[{\"round\":4,\"action\":\"drive\",\"goal\":\"00000000-0000-0000-0000-000000000001\",\"value\":6}," ++ 10 ∷
    codes "  {\"round\":5,\"action\":\"drive\",\"goal\":\"00000000-0000-0000-0000-000000000001\",\"value\":7}," ++ 10 ∷
    codes "  {\"round\":7,\"action\":\"drive\",\"goal\":\"00000000-0000-0000-0000-000000000001\",\"value\":8}]}" ++ 10 ∷
    []

abbrev pub result_expires_transcript : List ℕ
result_expires_transcript =
    codes "round 1 1" ++ 10 ∷
    codes "run start timer 1 0" ++ 10 ∷
    codes "goal driver 00000000-0000-0001-0000-000000000001 5" ++ 10 ∷
    codes "round 2 2" ++ 10 ∷
    codes "run start timer 2 0" ++ 10 ∷
    codes "run drive goal 5 0 00000000-0000-0001-0000-000000000001" ++ 10 ∷
    codes "decide drive 00000000-0000-0001-0000-000000000001 2" ++ 10 ∷
    codes "state drive 00000000-0000-0001-0000-000000000001 1" ++ 10 ∷
    codes "state drive 00000000-0000-0001-0000-000000000001 2" ++ 10 ∷
    codes "round 3 3" ++ 10 ∷
    codes "run start timer 3 0" ++ 10 ∷
    codes "run drive poll 5 0 00000000-0000-0001-0000-000000000001" ++ 10 ∷
    codes "state drive 00000000-0000-0001-0000-000000000001 4" ++ 10 ∷
    codes "run driver response 1 1 00000000-0000-0001-0000-000000000001" ++ 10 ∷
    codes "log driver 1" ++ 10 ∷
    codes "ask driver 00000000-0000-0001-0000-000000000001" ++ 10 ∷
    codes "round 4 4" ++ 10 ∷
    codes "run start timer 4 0" ++ 10 ∷
    codes "run drive goal 6 0 00000000-0000-0000-0000-000000000001" ++ 10 ∷
    codes "decide drive 00000000-0000-0000-0000-000000000001 2" ++ 10 ∷
    codes "state drive 00000000-0000-0000-0000-000000000001 1" ++ 10 ∷
    codes "state drive 00000000-0000-0000-0000-000000000001 2" ++ 10 ∷
    codes "run drive ask 0 0 00000000-0000-0001-0000-000000000001" ++ 10 ∷
    codes "result drive 00000000-0000-0001-0000-000000000001 4 5" ++ 10 ∷
    codes "round 5 5" ++ 10 ∷
    codes "run start timer 5 0" ++ 10 ∷
    codes "run drive goal 7 0 00000000-0000-0000-0000-000000000001" ++ 10 ∷
    codes "decide drive 00000000-0000-0000-0000-000000000001 1" ++ 10 ∷
    codes "run drive poll 6 0 00000000-0000-0000-0000-000000000001" ++ 10 ∷
    codes "state drive 00000000-0000-0000-0000-000000000001 4" ++ 10 ∷
    codes "run driver result 5 4 00000000-0000-0001-0000-000000000001" ++ 10 ∷
    codes "log driver 4" ++ 10 ∷
    codes "round 6 8" ++ 10 ∷
    codes "expire drive 00000000-0000-0001-0000-000000000001" ++ 10 ∷
    codes "expire drive 00000000-0000-0000-0000-000000000001" ++ 10 ∷
    codes "run start timer 8 0" ++ 10 ∷
    codes "round 7 9" ++ 10 ∷
    codes "run start timer 9 0" ++ 10 ∷
    codes "run drive goal 8 0 00000000-0000-0000-0000-000000000001" ++ 10 ∷
    codes "decide drive 00000000-0000-0000-0000-000000000001 2" ++ 10 ∷
    codes "state drive 00000000-0000-0000-0000-000000000001 1" ++ 10 ∷
    codes "state drive 00000000-0000-0000-0000-000000000001 2" ++ 10 ∷
    codes "round 8 10" ++ 10 ∷
    codes "run start timer 10 0" ++ 10 ∷
    codes "run drive poll 8 0 00000000-0000-0000-0000-000000000001" ++ 10 ∷
    codes "state drive 00000000-0000-0000-0000-000000000001 4" ++ 10 ∷
    codes "end 8" ++ 10 ∷
    []

-- examples/robot.json
abbrev pub robot_document : List ℕ
robot_document =
    codes "{\"version\":1," ++ 10 ∷
    codes " \"topics\":[\"range\",\"odometry\",\"obstacle\",\"base_cmd\",\"e_stop\"]," ++ 10 ∷
    codes " \"nodes\":[{\"name\":\"sensors\"," ++ 10 ∷
    codes "   \"timers\":[{\"name\":\"laser\",\"period\":4," ++ 10 ∷
    codes "     \"script\":[[\"set\",\"g0\",\"add\",\"g0\",1],[\"set\",\"r0\",\"sub\",9,\"g0\"],[\"set\",\"r0\",\"max\",\"r0\",0],[\"pub\"," ++
    codes "\"range\",\"r0\"]]}," ++ 10 ∷
    codes "    {\"name\":\"wheels\",\"period\":2,\"script\":[[\"set\",\"g1\",\"add\",\"g1\",1],[\"pub\",\"odometry\",\"g1\"]]}]}," ++ 10 ∷
    codes "  {\"name\":\"fusion\"," ++ 10 ∷
    codes "   \"groups\":[{\"name\":\"state\",\"kind\":\"exclusive\"}]," ++ 10 ∷
    codes "   \"subscriptions\":[{\"name\":\"ranges\",\"group\":\"state\",\"topic\":\"range\",\"depth\":1," ++ 10 ∷
    codes "     \"script\":[[\"set\",\"g0\",\"add\",\"in\",0],[\"set\",\"r0\",\"lt\",\"in\",7],[\"skip\",\"r0\",1],[\"skip\",1,1],[\"pub" ++
    codes "\",\"obstacle\",\"in\"]]}," ++ 10 ∷
    codes "    {\"name\":\"ticks\",\"group\":\"state\",\"topic\":\"odometry\",\"depth\":4,\"script\":[[\"log\",\"g0\"]]}]}," ++ 10 ∷
    codes "  {\"name\":\"planner\"," ++ 10 ∷
    codes "   \"timers\":[{\"name\":\"mission\",\"period\":5,\"script\":[[\"skip\",\"g7\",2],[\"set\",\"g7\",\"add\",1,0],[\"goal\",\"" ++
    codes "navigator\",9]]}]," ++ 10 ∷
    codes "   \"subscriptions\":[{\"name\":\"bumper\",\"topic\":\"obstacle\",\"script\":[[\"call\",\"slow_down\",\"in\"]]}," ++ 10 ∷
    codes "    {\"name\":\"button\",\"topic\":\"e_stop\",\"script\":[[\"cancel\",\"navigator\",\"all\"]]}]," ++ 10 ∷
    codes "   \"clients\":[{\"name\":\"slow_down\",\"service\":\"speed_limit\",\"script\":[[\"log\",\"in\"]]}]," ++ 10 ∷
    codes "   \"action_clients\":[{\"name\":\"navigator\",\"action\":\"navigate\"," ++ 10 ∷
    codes "     \"on_response\":[[\"log\",\"in\"]]," ++ 10 ∷
    codes "     \"on_feedback\":[[\"log\",\"in\"]]," ++ 10 ∷
    codes "     \"on_result\":[[\"log\",\"aux\"]]}]}," ++ 10 ∷
    codes "  {\"name\":\"driver\"," ++ 10 ∷
    codes "   \"groups\":[{\"name\":\"motion\",\"kind\":\"exclusive\"}]," ++ 10 ∷
    codes "   \"services\":[{\"name\":\"speed_limit\",\"group\":\"motion\",\"script\":[[\"set\",\"g0\",\"min\",\"in\",3],[\"reply\",\"" ++
    codes "g0\"]]}]," ++ 10 ∷
    codes "   \"actions\":[{\"name\":\"navigate\",\"group\":\"motion\",\"result_timeout\":20," ++ 10 ∷
    codes "     \"on_goal\":[[\"decide\",2]]," ++ 10 ∷
    codes "     \"on_cancel\":[[\"decide\",2]]," ++ 10 ∷
    codes "     \"script\":[[\"skip\",\"aux\",6]," ++ 10 ∷
    codes "      [\"set\",\"r0\",\"add\",\"r0\",1]," ++ 10 ∷
    codes "      [\"feedback\",\"r0\"]," ++ 10 ∷
    codes "      [\"pub\",\"base_cmd\",\"r0\"]," ++ 10 ∷
    codes "      [\"set\",\"r1\",\"lt\",\"r0\",\"in\"]," ++ 10 ∷
    codes "      [\"skip\",\"r1\",3]," ++ 10 ∷
    codes "      [\"succeed\",\"r0\"]," ++ 10 ∷
    codes "      [\"pub\",\"base_cmd\",0]," ++ 10 ∷
    codes "      [\"canceled\",\"r0\"]]}]," ++ 10 ∷
    codes "   \"subscriptions\":[{\"name\":\"motor\",\"topic\":\"base_cmd\",\"depth\":1,\"script\":[[\"log\",\"in\"]]}]}]," ++ 10 ∷
    codes " \"moments\":[4,5,6,7,8,9,10,11,12,13,14,15,16,17,18,19,20,21,22,23,24]," ++ 10 ∷
    codes " \"feed\":[{\"round\":8,\"topic\":\"e_stop\",\"value\":1}]}" ++ 10 ∷
    []

abbrev pub robot_transcript : List ℕ
robot_transcript =
    codes "round 1 4" ++ 10 ∷
    codes "run laser timer 4 0" ++ 10 ∷
    codes "pub range 8" ++ 10 ∷
    codes "run wheels timer 4 0" ++ 10 ∷
    codes "pub odometry 1" ++ 10 ∷
    codes "round 2 5" ++ 10 ∷
    codes "run wheels timer 5 0" ++ 10 ∷
    codes "pub odometry 2" ++ 10 ∷
    codes "run mission timer 5 0" ++ 10 ∷
    codes "goal navigator 00000000-0000-0001-0000-000000000001 9" ++ 10 ∷
    codes "run ranges message 8 0" ++ 10 ∷
    codes "run ticks message 1 0" ++ 10 ∷
    codes "log ticks 8" ++ 10 ∷
    codes "round 3 6" ++ 10 ∷
    codes "run wheels timer 6 0" ++ 10 ∷
    codes "pub odometry 3" ++ 10 ∷
    codes "run ticks message 2 0" ++ 10 ∷
    codes "log ticks 8" ++ 10 ∷
    codes "run navigate goal 9 0 00000000-0000-0001-0000-000000000001" ++ 10 ∷
    codes "decide navigate 00000000-0000-0001-0000-000000000001 2" ++ 10 ∷
    codes "state navigate 00000000-0000-0001-0000-000000000001 1" ++ 10 ∷
    codes "state navigate 00000000-0000-0001-0000-000000000001 2" ++ 10 ∷
    codes "round 4 7" ++ 10 ∷
    codes "run ticks message 3 0" ++ 10 ∷
    codes "log ticks 8" ++ 10 ∷
    codes "run navigate poll 9 0 00000000-0000-0001-0000-000000000001" ++ 10 ∷
    codes "feedback navigate 00000000-0000-0001-0000-000000000001 1" ++ 10 ∷
    codes "pub base_cmd 1" ++ 10 ∷
    codes "run navigator response 1 1 00000000-0000-0001-0000-000000000001" ++ 10 ∷
    codes "log navigator 1" ++ 10 ∷
    codes "ask navigator 00000000-0000-0001-0000-000000000001" ++ 10 ∷
    codes "round 5 8" ++ 10 ∷
    codes "run laser timer 8 0" ++ 10 ∷
    codes "pub range 7" ++ 10 ∷
    codes "run wheels timer 8 0" ++ 10 ∷
    codes "pub odometry 4" ++ 10 ∷
    codes "run motor message 1 0" ++ 10 ∷
    codes "log motor 1" ++ 10 ∷
    codes "run navigate ask 0 0 00000000-0000-0001-0000-000000000001" ++ 10 ∷
    codes "run navigate poll 9 0 00000000-0000-0001-0000-000000000001" ++ 10 ∷
    codes "feedback navigate 00000000-0000-0001-0000-000000000001 2" ++ 10 ∷
    codes "pub base_cmd 2" ++ 10 ∷
    codes "run navigator feedback 1 1 00000000-0000-0001-0000-000000000001" ++ 10 ∷
    codes "log navigator 1" ++ 10 ∷
    codes "round 6 9" ++ 10 ∷
    codes "run ranges message 7 0" ++ 10 ∷
    codes "run ticks message 4 0" ++ 10 ∷
    codes "log ticks 7" ++ 10 ∷
    codes "run motor message 2 0" ++ 10 ∷
    codes "log motor 2" ++ 10 ∷
    codes "run navigate poll 9 0 00000000-0000-0001-0000-000000000001" ++ 10 ∷
    codes "feedback navigate 00000000-0000-0001-0000-000000000001 3" ++ 10 ∷
    codes "pub base_cmd 3" ++ 10 ∷
    codes "run navigator feedback 2 1 00000000-0000-0001-0000-000000000001" ++ 10 ∷
    codes "log navigator 2" ++ 10 ∷
    codes "round 7 10" ++ 10 ∷
    codes "run wheels timer 10 0" ++ 10 ∷
    codes "pub odometry 5" ++ 10 ∷
    codes "run mission timer 10 0" ++ 10 ∷
    codes "run motor message 3 0" ++ 10 ∷
    codes "log motor 3" ++ 10 ∷
    codes "run navigate poll 9 0 00000000-0000-0001-0000-000000000001" ++ 10 ∷
    codes "feedback navigate 00000000-0000-0001-0000-000000000001 4" ++ 10 ∷
    codes "pub base_cmd 4" ++ 10 ∷
    codes "run navigator feedback 3 1 00000000-0000-0001-0000-000000000001" ++ 10 ∷
    codes "log navigator 3" ++ 10 ∷
    codes "round 8 11" ++ 10 ∷
    codes "run ticks message 5 0" ++ 10 ∷
    codes "log ticks 7" ++ 10 ∷
    codes "run button message 1 0" ++ 10 ∷
    codes "cancel navigator 00000000-0000-0000-0000-000000000000 0" ++ 10 ∷
    codes "run motor message 4 0" ++ 10 ∷
    codes "log motor 4" ++ 10 ∷
    codes "run navigate poll 9 0 00000000-0000-0001-0000-000000000001" ++ 10 ∷
    codes "feedback navigate 00000000-0000-0001-0000-000000000001 5" ++ 10 ∷
    codes "pub base_cmd 5" ++ 10 ∷
    codes "run navigator feedback 4 1 00000000-0000-0001-0000-000000000001" ++ 10 ∷
    codes "log navigator 4" ++ 10 ∷
    codes "round 9 12" ++ 10 ∷
    codes "run laser timer 12 0" ++ 10 ∷
    codes "pub range 6" ++ 10 ∷
    codes "run wheels timer 12 0" ++ 10 ∷
    codes "pub odometry 6" ++ 10 ∷
    codes "run motor message 5 0" ++ 10 ∷
    codes "log motor 5" ++ 10 ∷
    codes "run navigate cancel 0 1 00000000-0000-0000-0000-000000000000" ++ 10 ∷
    codes "state navigate 00000000-0000-0001-0000-000000000001 3" ++ 10 ∷
    codes "code navigate 0 1" ++ 10 ∷
    codes "run navigate poll 9 0 00000000-0000-0001-0000-000000000001" ++ 10 ∷
    codes "feedback navigate 00000000-0000-0001-0000-000000000001 6" ++ 10 ∷
    codes "pub base_cmd 6" ++ 10 ∷
    codes "run navigator feedback 5 1 00000000-0000-0001-0000-000000000001" ++ 10 ∷
    codes "log navigator 5" ++ 10 ∷
    codes "round 10 13" ++ 10 ∷
    codes "run ranges message 6 0" ++ 10 ∷
    codes "pub obstacle 6" ++ 10 ∷
    codes "run ticks message 6 0" ++ 10 ∷
    codes "log ticks 6" ++ 10 ∷
    codes "run motor message 6 0" ++ 10 ∷
    codes "log motor 6" ++ 10 ∷
    codes "run navigate poll 9 1 00000000-0000-0001-0000-000000000001" ++ 10 ∷
    codes "pub base_cmd 0" ++ 10 ∷
    codes "state navigate 00000000-0000-0001-0000-000000000001 5" ++ 10 ∷
    codes "result navigate 00000000-0000-0001-0000-000000000001 5 6" ++ 10 ∷
    codes "run navigator code 0 1" ++ 10 ∷
    codes "run navigator feedback 6 1 00000000-0000-0001-0000-000000000001" ++ 10 ∷
    codes "log navigator 6" ++ 10 ∷
    codes "round 11 14" ++ 10 ∷
    codes "run wheels timer 14 0" ++ 10 ∷
    codes "pub odometry 7" ++ 10 ∷
    codes "run bumper message 6 0" ++ 10 ∷
    codes "call slow_down 1 6" ++ 10 ∷
    codes "run motor message 0 0" ++ 10 ∷
    codes "log motor 0" ++ 10 ∷
    codes "run navigator result 6 5 00000000-0000-0001-0000-000000000001" ++ 10 ∷
    codes "log navigator 5" ++ 10 ∷
    codes "round 12 15" ++ 10 ∷
    codes "run mission timer 15 0" ++ 10 ∷
    codes "run ticks message 7 0" ++ 10 ∷
    codes "log ticks 6" ++ 10 ∷
    codes "run speed_limit request 6 0" ++ 10 ∷
    codes "reply speed_limit 3" ++ 10 ∷
    codes "round 13 16" ++ 10 ∷
    codes "run laser timer 16 0" ++ 10 ∷
    codes "pub range 5" ++ 10 ∷
    codes "run wheels timer 16 0" ++ 10 ∷
    codes "pub odometry 8" ++ 10 ∷
    codes "run slow_down reply 3 1" ++ 10 ∷
    codes "log slow_down 3" ++ 10 ∷
    codes "round 14 17" ++ 10 ∷
    codes "run ranges message 5 0" ++ 10 ∷
    codes "pub obstacle 5" ++ 10 ∷
    codes "run ticks message 8 0" ++ 10 ∷
    codes "log ticks 5" ++ 10 ∷
    codes "round 15 18" ++ 10 ∷
    codes "run wheels timer 18 0" ++ 10 ∷
    codes "pub odometry 9" ++ 10 ∷
    codes "run bumper message 5 0" ++ 10 ∷
    codes "call slow_down 2 5" ++ 10 ∷
    codes "round 16 19" ++ 10 ∷
    codes "run ticks message 9 0" ++ 10 ∷
    codes "log ticks 5" ++ 10 ∷
    codes "run speed_limit request 5 0" ++ 10 ∷
    codes "reply speed_limit 3" ++ 10 ∷
    codes "round 17 20" ++ 10 ∷
    codes "run laser timer 20 0" ++ 10 ∷
    codes "pub range 4" ++ 10 ∷
    codes "run wheels timer 20 0" ++ 10 ∷
    codes "pub odometry 10" ++ 10 ∷
    codes "run mission timer 20 0" ++ 10 ∷
    codes "run slow_down reply 3 2" ++ 10 ∷
    codes "log slow_down 3" ++ 10 ∷
    codes "round 18 21" ++ 10 ∷
    codes "run ranges message 4 0" ++ 10 ∷
    codes "pub obstacle 4" ++ 10 ∷
    codes "run ticks message 10 0" ++ 10 ∷
    codes "log ticks 4" ++ 10 ∷
    codes "round 19 22" ++ 10 ∷
    codes "run wheels timer 22 0" ++ 10 ∷
    codes "pub odometry 11" ++ 10 ∷
    codes "run bumper message 4 0" ++ 10 ∷
    codes "call slow_down 3 4" ++ 10 ∷
    codes "round 20 23" ++ 10 ∷
    codes "run ticks message 11 0" ++ 10 ∷
    codes "log ticks 4" ++ 10 ∷
    codes "run speed_limit request 4 0" ++ 10 ∷
    codes "reply speed_limit 3" ++ 10 ∷
    codes "round 21 24" ++ 10 ∷
    codes "run laser timer 24 0" ++ 10 ∷
    codes "pub range 3" ++ 10 ∷
    codes "run wheels timer 24 0" ++ 10 ∷
    codes "pub odometry 12" ++ 10 ∷
    codes "run slow_down reply 3 3" ++ 10 ∷
    codes "log slow_down 3" ++ 10 ∷
    codes "end 21" ++ 10 ∷
    []

-- examples/service.json
abbrev pub service_document : List ℕ
service_document =
    codes "{\"version\":1," ++ 10 ∷
    codes " \"nodes\":[" ++ 10 ∷
    codes "  {\"name\":\"map\",\"services\":[{\"name\":\"square\",\"script\":[[\"set\",\"r0\",\"mul\",\"in\",\"in\"],[\"reply\",\"r0\"]]}" ++
    codes "]}," ++ 10 ∷
    codes "  {\"name\":\"planner\"," ++ 10 ∷
    codes "   \"timers\":[{\"name\":\"ask\",\"period\":4,\"script\":[[\"call\",\"area\",\"now\"]]}]," ++ 10 ∷
    codes "   \"clients\":[{\"name\":\"area\",\"service\":\"square\",\"script\":[[\"log\",\"in\"]]}]}]," ++ 10 ∷
    codes " \"moments\":[4,5,6,8]}" ++ 10 ∷
    []

abbrev pub service_transcript : List ℕ
service_transcript =
    codes "round 1 4" ++ 10 ∷
    codes "run ask timer 4 0" ++ 10 ∷
    codes "call area 1 4" ++ 10 ∷
    codes "round 2 5" ++ 10 ∷
    codes "run square request 4 0" ++ 10 ∷
    codes "reply square 16" ++ 10 ∷
    codes "round 3 6" ++ 10 ∷
    codes "run area reply 16 1" ++ 10 ∷
    codes "log area 16" ++ 10 ∷
    codes "round 4 8" ++ 10 ∷
    codes "run ask timer 8 0" ++ 10 ∷
    codes "call area 2 8" ++ 10 ∷
    codes "pending area 1" ++ 10 ∷
    codes "end 4" ++ 10 ∷
    []

-- examples/stop_by_arrival.json
abbrev pub stop_by_arrival_document : List ℕ
stop_by_arrival_document =
    codes "{\"version\":2," ++ 10 ∷
    codes " \"order\":\"arrival\"," ++ 10 ∷
    codes " \"topics\":[\"button\",\"scan\",\"cmd_vel\",\"motor\"]," ++ 10 ∷
    codes " \"nodes\":[{\"name\":\"base\"," ++ 10 ∷
    codes "   \"subscriptions\":[{\"name\":\"drive\",\"topic\":\"cmd_vel\",\"script\":[[\"skip\",\"g0\",1],[\"pub\",\"motor\",\"in\"]" ++
    codes "]}]," ++ 10 ∷
    codes "   \"services\":[{\"name\":\"stop\",\"script\":[[\"set\",\"g0\",\"add\",\"in\",0],[\"pub\",\"motor\",0],[\"reply\",1]]}]}," ++ 10 ∷
    codes "  {\"name\":\"wheels\"," ++ 10 ∷
    codes "   \"subscriptions\":[{\"name\":\"turn\",\"topic\":\"motor\",\"script\":[[\"log\",\"in\"]]}]}," ++ 10 ∷
    codes "  {\"name\":\"operator\"," ++ 10 ∷
    codes "   \"subscriptions\":[{\"name\":\"press\",\"topic\":\"button\",\"script\":[[\"call\",\"halt\",\"in\"]]}]," ++ 10 ∷
    codes "   \"clients\":[{\"name\":\"halt\",\"service\":\"stop\"}]}," ++ 10 ∷
    codes "  {\"name\":\"planner\"," ++ 10 ∷
    codes "   \"subscriptions\":[{\"name\":\"steer\",\"topic\":\"scan\",\"script\":[[\"pub\",\"cmd_vel\",\"in\"]]}]}]," ++ 10 ∷
    codes " \"moments\":[1,2,3,4,5,6]," ++ 10 ∷
    codes " \"feed\":[{\"round\":1,\"topic\":\"scan\",\"value\":40}," ++ 10 ∷
    codes "  {\"round\":3,\"topic\":\"button\",\"value\":1}," ++ 10 ∷
    codes "  {\"round\":3,\"topic\":\"scan\",\"value\":30}]}" ++ 10 ∷
    []

abbrev pub stop_by_arrival_transcript : List ℕ
stop_by_arrival_transcript =
    codes "round 1 1" ++ 10 ∷
    codes "run steer message 40 0" ++ 10 ∷
    codes "pub cmd_vel 40" ++ 10 ∷
    codes "round 2 2" ++ 10 ∷
    codes "run drive message 40 0" ++ 10 ∷
    codes "pub motor 40" ++ 10 ∷
    codes "round 3 3" ++ 10 ∷
    codes "run turn message 40 0" ++ 10 ∷
    codes "log turn 40" ++ 10 ∷
    codes "run press message 1 0" ++ 10 ∷
    codes "call halt 1 1" ++ 10 ∷
    codes "run steer message 30 0" ++ 10 ∷
    codes "pub cmd_vel 30" ++ 10 ∷
    codes "round 4 4" ++ 10 ∷
    codes "run stop request 1 0" ++ 10 ∷
    codes "pub motor 0" ++ 10 ∷
    codes "reply stop 1" ++ 10 ∷
    codes "run drive message 30 0" ++ 10 ∷
    codes "round 5 5" ++ 10 ∷
    codes "run turn message 0 0" ++ 10 ∷
    codes "log turn 0" ++ 10 ∷
    codes "run halt reply 1 1" ++ 10 ∷
    codes "round 6 6" ++ 10 ∷
    codes "end 6" ++ 10 ∷
    []

-- examples/stop_by_kind.json
abbrev pub stop_by_kind_document : List ℕ
stop_by_kind_document =
    codes "{\"version\":2," ++ 10 ∷
    codes " \"order\":\"kind\"," ++ 10 ∷
    codes " \"topics\":[\"button\",\"scan\",\"cmd_vel\",\"motor\"]," ++ 10 ∷
    codes " \"nodes\":[{\"name\":\"base\"," ++ 10 ∷
    codes "   \"subscriptions\":[{\"name\":\"drive\",\"topic\":\"cmd_vel\",\"script\":[[\"skip\",\"g0\",1],[\"pub\",\"motor\",\"in\"]" ++
    codes "]}]," ++ 10 ∷
    codes "   \"services\":[{\"name\":\"stop\",\"script\":[[\"set\",\"g0\",\"add\",\"in\",0],[\"pub\",\"motor\",0],[\"reply\",1]]}]}," ++ 10 ∷
    codes "  {\"name\":\"wheels\"," ++ 10 ∷
    codes "   \"subscriptions\":[{\"name\":\"turn\",\"topic\":\"motor\",\"script\":[[\"log\",\"in\"]]}]}," ++ 10 ∷
    codes "  {\"name\":\"operator\"," ++ 10 ∷
    codes "   \"subscriptions\":[{\"name\":\"press\",\"topic\":\"button\",\"script\":[[\"call\",\"halt\",\"in\"]]}]," ++ 10 ∷
    codes "   \"clients\":[{\"name\":\"halt\",\"service\":\"stop\"}]}," ++ 10 ∷
    codes "  {\"name\":\"planner\"," ++ 10 ∷
    codes "   \"subscriptions\":[{\"name\":\"steer\",\"topic\":\"scan\",\"script\":[[\"pub\",\"cmd_vel\",\"in\"]]}]}]," ++ 10 ∷
    codes " \"moments\":[1,2,3,4,5,6]," ++ 10 ∷
    codes " \"feed\":[{\"round\":1,\"topic\":\"scan\",\"value\":40}," ++ 10 ∷
    codes "  {\"round\":3,\"topic\":\"button\",\"value\":1}," ++ 10 ∷
    codes "  {\"round\":3,\"topic\":\"scan\",\"value\":30}]}" ++ 10 ∷
    []

abbrev pub stop_by_kind_transcript : List ℕ
stop_by_kind_transcript =
    codes "round 1 1" ++ 10 ∷
    codes "run steer message 40 0" ++ 10 ∷
    codes "pub cmd_vel 40" ++ 10 ∷
    codes "round 2 2" ++ 10 ∷
    codes "run drive message 40 0" ++ 10 ∷
    codes "pub motor 40" ++ 10 ∷
    codes "round 3 3" ++ 10 ∷
    codes "run turn message 40 0" ++ 10 ∷
    codes "log turn 40" ++ 10 ∷
    codes "run press message 1 0" ++ 10 ∷
    codes "call halt 1 1" ++ 10 ∷
    codes "run steer message 30 0" ++ 10 ∷
    codes "pub cmd_vel 30" ++ 10 ∷
    codes "round 4 4" ++ 10 ∷
    codes "run drive message 30 0" ++ 10 ∷
    codes "pub motor 30" ++ 10 ∷
    codes "run stop request 1 0" ++ 10 ∷
    codes "pub motor 0" ++ 10 ∷
    codes "reply stop 1" ++ 10 ∷
    codes "round 5 5" ++ 10 ∷
    codes "run turn message 30 0" ++ 10 ∷
    codes "log turn 30" ++ 10 ∷
    codes "run halt reply 1 1" ++ 10 ∷
    codes "round 6 6" ++ 10 ∷
    codes "run turn message 0 0" ++ 10 ∷
    codes "log turn 0" ++ 10 ∷
    codes "end 6" ++ 10 ∷
    []

-- examples/timer.json
abbrev pub timer_document : List ℕ
timer_document =
    codes "{\"version\":1,\"nodes\":[{\"name\":\"n\",\"timers\":[{\"name\":\"t\",\"period\":10,\"script\":[[\"log\",\"now\"]]}]}],\"mo" ++
    codes "ments\":[0,10,35,40]}" ++ 10 ∷
    []

abbrev pub timer_transcript : List ℕ
timer_transcript =
    codes "round 1 0" ++ 10 ∷
    codes "round 2 10" ++ 10 ∷
    codes "run t timer 10 0" ++ 10 ∷
    codes "log t 10" ++ 10 ∷
    codes "round 3 35" ++ 10 ∷
    codes "run t timer 35 0" ++ 10 ∷
    codes "log t 35" ++ 10 ∷
    codes "round 4 40" ++ 10 ∷
    codes "run t timer 40 0" ++ 10 ∷
    codes "log t 40" ++ 10 ∷
    codes "end 4" ++ 10 ∷
    []

-- examples/topic.json
abbrev pub topic_document : List ℕ
topic_document =
    codes "{\"version\":1," ++ 10 ∷
    codes " \"topics\":[\"frames\"]," ++ 10 ∷
    codes " \"nodes\":[" ++ 10 ∷
    codes "  {\"name\":\"camera\",\"timers\":[{\"name\":\"shutter\",\"period\":5,\"script\":[[\"set\",\"g0\",\"add\",\"g0\",1],[\"pub\"" ++
    codes ",\"frames\",\"g0\"]]}]}," ++ 10 ∷
    codes "  {\"name\":\"viewer\",\"subscriptions\":[{\"name\":\"screen\",\"topic\":\"frames\",\"depth\":1,\"script\":[[\"log\",\"in" ++
    codes "\"]]}]}]," ++ 10 ∷
    codes " \"moments\":[5,10,12]," ++ 10 ∷
    codes " \"feed\":[{\"round\":2,\"topic\":\"frames\",\"value\":99}]}" ++ 10 ∷
    []

abbrev pub topic_transcript : List ℕ
topic_transcript =
    codes "round 1 5" ++ 10 ∷
    codes "run shutter timer 5 0" ++ 10 ∷
    codes "pub frames 1" ++ 10 ∷
    codes "round 2 10" ++ 10 ∷
    codes "drop screen message 1" ++ 10 ∷
    codes "run shutter timer 10 0" ++ 10 ∷
    codes "pub frames 2" ++ 10 ∷
    codes "run screen message 99 0" ++ 10 ∷
    codes "log screen 99" ++ 10 ∷
    codes "round 3 12" ++ 10 ∷
    codes "run screen message 2 0" ++ 10 ∷
    codes "log screen 2" ++ 10 ∷
    codes "end 3" ++ 10 ∷
    []

-- examples/topic_chain.json
abbrev pub topic_chain_document : List ℕ
topic_chain_document =
    codes "{\"version\":1," ++ 10 ∷
    codes " \"topics\":[\"raw\",\"smooth\",\"shown\"]," ++ 10 ∷
    codes " \"nodes\":[{\"name\":\"camera\",\"timers\":[{\"name\":\"shutter\",\"period\":10,\"script\":[[\"set\",\"g0\",\"add\",\"g0\"," ++
    codes "1],[\"pub\",\"raw\",\"g0\"]]}]}," ++ 10 ∷
    codes "  {\"name\":\"filter\"," ++ 10 ∷
    codes "   \"subscriptions\":[{\"name\":\"blur\",\"topic\":\"raw\",\"script\":[[\"set\",\"r0\",\"mul\",\"in\",100],[\"pub\",\"smoot" ++
    codes "h\",\"r0\"]]}]}," ++ 10 ∷
    codes "  {\"name\":\"painter\"," ++ 10 ∷
    codes "   \"subscriptions\":[{\"name\":\"frame\",\"topic\":\"smooth\",\"script\":[[\"set\",\"r0\",\"add\",\"in\",7],[\"pub\",\"sho" ++
    codes "wn\",\"r0\"]]}]}," ++ 10 ∷
    codes "  {\"name\":\"viewer\"," ++ 10 ∷
    codes "   \"subscriptions\":[{\"name\":\"screen\",\"topic\":\"shown\",\"script\":[[\"log\",\"in\"]]}," ++ 10 ∷
    codes "    {\"name\":\"recorder\",\"topic\":\"smooth\",\"script\":[[\"log\",\"now\"]]}]}]," ++ 10 ∷
    codes " \"moments\":[10,11,12,13,20,21,22,23]}" ++ 10 ∷
    []

abbrev pub topic_chain_transcript : List ℕ
topic_chain_transcript =
    codes "round 1 10" ++ 10 ∷
    codes "run shutter timer 10 0" ++ 10 ∷
    codes "pub raw 1" ++ 10 ∷
    codes "round 2 11" ++ 10 ∷
    codes "run blur message 1 0" ++ 10 ∷
    codes "pub smooth 100" ++ 10 ∷
    codes "round 3 12" ++ 10 ∷
    codes "run frame message 100 0" ++ 10 ∷
    codes "pub shown 107" ++ 10 ∷
    codes "run recorder message 100 0" ++ 10 ∷
    codes "log recorder 12" ++ 10 ∷
    codes "round 4 13" ++ 10 ∷
    codes "run screen message 107 0" ++ 10 ∷
    codes "log screen 107" ++ 10 ∷
    codes "round 5 20" ++ 10 ∷
    codes "run shutter timer 20 0" ++ 10 ∷
    codes "pub raw 2" ++ 10 ∷
    codes "round 6 21" ++ 10 ∷
    codes "run blur message 2 0" ++ 10 ∷
    codes "pub smooth 200" ++ 10 ∷
    codes "round 7 22" ++ 10 ∷
    codes "run frame message 200 0" ++ 10 ∷
    codes "pub shown 207" ++ 10 ∷
    codes "run recorder message 200 0" ++ 10 ∷
    codes "log recorder 22" ++ 10 ∷
    codes "round 8 23" ++ 10 ∷
    codes "run screen message 207 0" ++ 10 ∷
    codes "log screen 207" ++ 10 ∷
    codes "end 8" ++ 10 ∷
    []

-- examples/two_clients.json
abbrev pub two_clients_document : List ℕ
two_clients_document =
    codes "{\"version\":1," ++ 10 ∷
    codes " \"nodes\":[{\"name\":\"store\",\"services\":[{\"name\":\"stock\",\"depth\":4,\"script\":[[\"set\",\"g0\",\"add\",\"g0\",\"in" ++
    codes "\"],[\"reply\",\"g0\"]]}]}," ++ 10 ∷
    codes "  {\"name\":\"left\"," ++ 10 ∷
    codes "   \"timers\":[{\"name\":\"left_orders\",\"period\":10,\"script\":[[\"call\",\"left_arm\",1]]}]," ++ 10 ∷
    codes "   \"clients\":[{\"name\":\"left_arm\",\"service\":\"stock\",\"script\":[[\"log\",\"in\"]]}]}," ++ 10 ∷
    codes "  {\"name\":\"right\"," ++ 10 ∷
    codes "   \"timers\":[{\"name\":\"right_orders\",\"period\":10,\"script\":[[\"call\",\"right_arm\",10]]}]," ++ 10 ∷
    codes "   \"clients\":[{\"name\":\"right_arm\",\"service\":\"stock\",\"script\":[[\"log\",\"in\"]]}]}]," ++ 10 ∷
    codes " \"moments\":[10,11,12,13,14,20,21,22]}" ++ 10 ∷
    []

abbrev pub two_clients_transcript : List ℕ
two_clients_transcript =
    codes "round 1 10" ++ 10 ∷
    codes "run left_orders timer 10 0" ++ 10 ∷
    codes "call left_arm 1 1" ++ 10 ∷
    codes "run right_orders timer 10 0" ++ 10 ∷
    codes "call right_arm 1 10" ++ 10 ∷
    codes "round 2 11" ++ 10 ∷
    codes "run stock request 1 0" ++ 10 ∷
    codes "reply stock 1" ++ 10 ∷
    codes "round 3 12" ++ 10 ∷
    codes "run stock request 10 0" ++ 10 ∷
    codes "reply stock 11" ++ 10 ∷
    codes "run left_arm reply 1 1" ++ 10 ∷
    codes "log left_arm 1" ++ 10 ∷
    codes "round 4 13" ++ 10 ∷
    codes "run right_arm reply 11 1" ++ 10 ∷
    codes "log right_arm 11" ++ 10 ∷
    codes "round 5 14" ++ 10 ∷
    codes "round 6 20" ++ 10 ∷
    codes "run left_orders timer 20 0" ++ 10 ∷
    codes "call left_arm 2 1" ++ 10 ∷
    codes "run right_orders timer 20 0" ++ 10 ∷
    codes "call right_arm 2 10" ++ 10 ∷
    codes "round 7 21" ++ 10 ∷
    codes "run stock request 1 0" ++ 10 ∷
    codes "reply stock 12" ++ 10 ∷
    codes "round 8 22" ++ 10 ∷
    codes "run stock request 10 0" ++ 10 ∷
    codes "reply stock 22" ++ 10 ∷
    codes "run left_arm reply 12 2" ++ 10 ∷
    codes "log left_arm 12" ++ 10 ∷
    codes "pending right_arm 1" ++ 10 ∷
    codes "end 8" ++ 10 ∷
    []

-- examples/two_timers.json
abbrev pub two_timers_document : List ℕ
two_timers_document =
    codes "{\"version\":1,\"nodes\":[{\"name\":\"n\",\"timers\":[{\"name\":\"t1\",\"period\":1,\"script\":[[\"set\",\"g0\",\"mul\",\"g0\"" ++
    codes ",2],[\"log\",\"g0\"]]},{\"name\":\"t2\",\"period\":1,\"script\":[[\"set\",\"g0\",\"add\",\"g0\",1],[\"log\",\"g0\"]]}]}],\"mo" ++
    codes "ments\":[1,2,3]}" ++ 10 ∷
    []

abbrev pub two_timers_transcript : List ℕ
two_timers_transcript =
    codes "round 1 1" ++ 10 ∷
    codes "run t1 timer 1 0" ++ 10 ∷
    codes "log t1 0" ++ 10 ∷
    codes "run t2 timer 1 0" ++ 10 ∷
    codes "log t2 1" ++ 10 ∷
    codes "round 2 2" ++ 10 ∷
    codes "run t1 timer 2 0" ++ 10 ∷
    codes "log t1 2" ++ 10 ∷
    codes "run t2 timer 2 0" ++ 10 ∷
    codes "log t2 3" ++ 10 ∷
    codes "round 3 3" ++ 10 ∷
    codes "run t1 timer 3 0" ++ 10 ∷
    codes "log t1 6" ++ 10 ∷
    codes "run t2 timer 3 0" ++ 10 ∷
    codes "log t2 7" ++ 10 ∷
    codes "end 3" ++ 10 ∷
    []

-- examples/warehouse.json
abbrev pub warehouse_document : List ℕ
warehouse_document =
    codes "{\"version\":1," ++ 10 ∷
    codes " \"topics\":[\"order\",\"scale\",\"halt\",\"lift\",\"cmd_vel\"]," ++ 10 ∷
    codes " \"nodes\":[{\"name\":\"desk\"," ++ 10 ∷
    codes "   \"subscriptions\":[{\"name\":\"take_order\",\"topic\":\"order\",\"script\":[[\"goal\",\"carrier\",\"in\"]]}]," ++ 10 ∷
    codes "   \"timers\":[{\"name\":\"again\",\"period\":1," ++ 10 ∷
    codes "     \"script\":[[\"set\",\"r7\",\"eq\",\"g0\",0]," ++ 10 ∷
    codes "      [\"skip\",\"r7\",4]," ++ 10 ∷
    codes "      [\"set\",\"r7\",\"lt\",\"now\",\"g0\"]," ++ 10 ∷
    codes "      [\"skip\",\"r7\",2]," ++ 10 ∷
    codes "      [\"set\",\"g0\",\"add\",0,0]," ++ 10 ∷
    codes "      [\"goal\",\"carrier\",\"g1\"]]}]," ++ 10 ∷
    codes "   \"action_clients\":[{\"name\":\"carrier\",\"action\":\"carry\"," ++ 10 ∷
    codes "     \"on_response\":[[\"log\",\"in\"]]," ++ 10 ∷
    codes "     \"on_result\":[[\"set\",\"r7\",\"eq\",\"aux\",6]," ++ 10 ∷
    codes "      [\"set\",\"r7\",\"eq\",\"r7\",0]," ++ 10 ∷
    codes "      [\"skip\",\"r7\",2]," ++ 10 ∷
    codes "      [\"set\",\"g1\",\"add\",\"in\",0]," ++ 10 ∷
    codes "      [\"set\",\"g0\",\"add\",\"now\",30]]}]}," ++ 10 ∷
    codes "  {\"name\":\"fetcher\"," ++ 10 ∷
    codes "   \"groups\":[{\"name\":\"work\",\"kind\":\"exclusive\"}]," ++ 10 ∷
    codes "   \"subscriptions\":[{\"name\":\"weigh\",\"group\":\"work\",\"topic\":\"scale\",\"script\":[[\"set\",\"g1\",\"add\",\"in\"," ++
    codes "0]]}," ++ 10 ∷
    codes "    {\"name\":\"watch_halt\",\"group\":\"work\",\"topic\":\"halt\",\"script\":[[\"set\",\"g3\",\"add\",\"in\",0]]}]," ++ 10 ∷
    codes "   \"clients\":[{\"name\":\"ask_door\",\"group\":\"work\",\"service\":\"door\",\"script\":[[\"set\",\"g2\",\"add\",1,0]]}]" ++
    codes "," ++ 10 ∷
    codes "   \"actions\":[{\"name\":\"carry\",\"group\":\"work\"," ++ 10 ∷
    codes "     \"on_goal\":[[\"skip\",\"g0\",2],[\"set\",\"g0\",\"add\",1,0],[\"decide\",2]]," ++ 10 ∷
    codes "     \"script\":[[\"skip\",\"r1\",14]," ++ 10 ∷
    codes "      [\"skip\",\"r0\",4]," ++ 10 ∷
    codes "      [\"set\",\"r0\",\"add\",\"now\",0]," ++ 10 ∷
    codes "      [\"set\",\"g2\",\"add\",0,0]," ++ 10 ∷
    codes "      [\"set\",\"g1\",\"add\",0,0]," ++ 10 ∷
    codes "      [\"call\",\"ask_door\",\"in\"]," ++ 10 ∷
    codes "      [\"set\",\"r2\",\"sub\",\"now\",\"r0\"]," ++ 10 ∷
    codes "      [\"set\",\"r7\",\"lt\",40,\"r2\"]," ++ 10 ∷
    codes "      [\"skip\",\"r7\",13]," ++ 10 ∷
    codes "      [\"skip\",\"g1\",1]," ++ 10 ∷
    codes "      [\"skip\",1,16]," ++ 10 ∷
    codes "      [\"skip\",\"g2\",1]," ++ 10 ∷
    codes "      [\"skip\",1,14]," ++ 10 ∷
    codes "      [\"pub\",\"lift\",\"g1\"]," ++ 10 ∷
    codes "      [\"set\",\"r1\",\"add\",1,0]," ++ 10 ∷
    codes "      [\"skip\",\"g3\",11]," ++ 10 ∷
    codes "      [\"set\",\"r7\",\"lt\",4,\"r1\"]," ++ 10 ∷
    codes "      [\"skip\",\"r7\",6]," ++ 10 ∷
    codes "      [\"set\",\"r1\",\"add\",\"r1\",1]," ++ 10 ∷
    codes "      [\"pub\",\"cmd_vel\",30]," ++ 10 ∷
    codes "      [\"wait\",4]," ++ 10 ∷
    codes "      [\"skip\",1,5]," ++ 10 ∷
    codes "      [\"set\",\"g0\",\"add\",0,0]," ++ 10 ∷
    codes "      [\"abort\",\"in\"]," ++ 10 ∷
    codes "      [\"pub\",\"cmd_vel\",0]," ++ 10 ∷
    codes "      [\"set\",\"g0\",\"add\",0,0]," ++ 10 ∷
    codes "      [\"succeed\",\"in\"]]}]}," ++ 10 ∷
    codes "  {\"name\":\"arm\",\"subscriptions\":[{\"name\":\"lifter\",\"topic\":\"lift\",\"script\":[[\"log\",\"in\"]]}]}," ++ 10 ∷
    codes "  {\"name\":\"base\"," ++ 10 ∷
    codes "   \"groups\":[{\"name\":\"halted\",\"kind\":\"exclusive\"}]," ++ 10 ∷
    codes "   \"subscriptions\":[{\"name\":\"brake\",\"group\":\"halted\",\"topic\":\"halt\",\"script\":[[\"set\",\"g0\",\"add\",\"in\"" ++
    codes ",0]]}," ++ 10 ∷
    codes "    {\"name\":\"motor\",\"group\":\"halted\",\"topic\":\"cmd_vel\",\"script\":[[\"skip\",\"g0\",1],[\"log\",\"in\"]]}]}," ++ 10 ∷
    codes "  {\"name\":\"gate\",\"services\":[{\"name\":\"door\",\"depth\":10,\"script\":[[\"reply\",\"in\"]]}]}," ++ 10 ∷
    codes "  {\"name\":\"sweeper\"," ++ 10 ∷
    codes "   \"clients\":[{\"name\":\"ask_to_sweep\",\"service\":\"door\",\"script\":[[\"log\",\"in\"]]}]," ++ 10 ∷
    codes "   \"timers\":[{\"name\":\"sweep\",\"period\":26,\"script\":[[\"call\",\"ask_to_sweep\",0]]}]}]," ++ 10 ∷
    codes " \"moments\":[0,1,2,3,4,5,6,7,8,9,10,11,12,13,14,15,16,17,18,19,20,21,22,23,24,25,26,27,28,29,30,31,32" ++
    codes ",33,34,35,36,37,38,39,40,41,42," ++ 10 ∷
    codes "  43,44,45,46,47,48,49,50,51,52,53,54,55,56,57,58,59,60,61,62,63,64,65,66,67,68,69,70,71,72,73,74,75" ++
    codes ",76,77,78,79,80,81," ++ 10 ∷
    codes "  82,83,84,85,86,87,88,89,90,91,92,93,94,95,96,97,98,99,100,101,102,103,104,105,106,107,108,109,110," ++
    codes "111,112,113,114,115," ++ 10 ∷
    codes "  116,117,118,119,120,121,122,123,124,125,126,127,128,129,130,131,132,133,134,135,136,137,138,139,14" ++
    codes "0,141,142,143,144," ++ 10 ∷
    codes "  145,146,147,148,149,150,151,152,153,154,155,156,157,158,159,160,161,162,163,164,165,166,167,168,16" ++
    codes "9,170,171,172,173," ++ 10 ∷
    codes "  174,175,176,177,178,179,180,181,182,183,184,185,186,187,188,189,190,191,192,193,194,195,196,197,19" ++
    codes "8,199,200,201,202," ++ 10 ∷
    codes "  203,204,205,206,207,208,209,210,211,212,213,214,215,216,217,218,219,220,221,222,223,224,225,226,22" ++
    codes "7,228,229,230,231," ++ 10 ∷
    codes "  232,233,234,235,236,237,238,239,240,241,242,243,244,245,246,247,248,249,250,251,252,253,254,255,25" ++
    codes "6,257,258,259,260," ++ 10 ∷
    codes "  261,262,263,264,265,266,267,268,269,270,271,272,273,274,275,276,277,278,279,280]," ++ 10 ∷
    codes " \"feed\":[{\"round\":11,\"topic\":\"order\",\"value\":1}," ++ 10 ∷
    codes "  {\"round\":14,\"topic\":\"scale\",\"value\":51}," ++ 10 ∷
    codes "  {\"round\":101,\"topic\":\"order\",\"value\":2}," ++ 10 ∷
    codes "  {\"round\":104,\"topic\":\"scale\",\"value\":52}," ++ 10 ∷
    codes "  {\"round\":146,\"topic\":\"halt\",\"value\":1}," ++ 10 ∷
    codes "  {\"round\":156,\"topic\":\"halt\",\"value\":0}," ++ 10 ∷
    codes "  {\"round\":191,\"topic\":\"order\",\"value\":3}," ++ 10 ∷
    codes "  {\"round\":194,\"topic\":\"scale\",\"value\":53}]}" ++ 10 ∷
    []

abbrev pub warehouse_transcript : List ℕ
warehouse_transcript =
    codes "round 1 0" ++ 10 ∷
    codes "round 2 1" ++ 10 ∷
    codes "run again timer 1 0" ++ 10 ∷
    codes "round 3 2" ++ 10 ∷
    codes "run again timer 2 0" ++ 10 ∷
    codes "round 4 3" ++ 10 ∷
    codes "run again timer 3 0" ++ 10 ∷
    codes "round 5 4" ++ 10 ∷
    codes "run again timer 4 0" ++ 10 ∷
    codes "round 6 5" ++ 10 ∷
    codes "run again timer 5 0" ++ 10 ∷
    codes "round 7 6" ++ 10 ∷
    codes "run again timer 6 0" ++ 10 ∷
    codes "round 8 7" ++ 10 ∷
    codes "run again timer 7 0" ++ 10 ∷
    codes "round 9 8" ++ 10 ∷
    codes "run again timer 8 0" ++ 10 ∷
    codes "round 10 9" ++ 10 ∷
    codes "run again timer 9 0" ++ 10 ∷
    codes "round 11 10" ++ 10 ∷
    codes "run again timer 10 0" ++ 10 ∷
    codes "run take_order message 1 0" ++ 10 ∷
    codes "goal carrier 00000000-0000-0001-0000-000000000001 1" ++ 10 ∷
    codes "round 12 11" ++ 10 ∷
    codes "run again timer 11 0" ++ 10 ∷
    codes "run carry goal 1 0 00000000-0000-0001-0000-000000000001" ++ 10 ∷
    codes "decide carry 00000000-0000-0001-0000-000000000001 2" ++ 10 ∷
    codes "state carry 00000000-0000-0001-0000-000000000001 1" ++ 10 ∷
    codes "state carry 00000000-0000-0001-0000-000000000001 2" ++ 10 ∷
    codes "round 13 12" ++ 10 ∷
    codes "run again timer 12 0" ++ 10 ∷
    codes "run carry poll 1 0 00000000-0000-0001-0000-000000000001" ++ 10 ∷
    codes "call ask_door 1 1" ++ 10 ∷
    codes "run carrier response 1 1 00000000-0000-0001-0000-000000000001" ++ 10 ∷
    codes "log carrier 1" ++ 10 ∷
    codes "ask carrier 00000000-0000-0001-0000-000000000001" ++ 10 ∷
    codes "round 14 13" ++ 10 ∷
    codes "run again timer 13 0" ++ 10 ∷
    codes "run weigh message 51 0" ++ 10 ∷
    codes "run door request 1 0" ++ 10 ∷
    codes "reply door 1" ++ 10 ∷
    codes "run carry ask 0 0 00000000-0000-0001-0000-000000000001" ++ 10 ∷
    codes "run carry poll 1 0 00000000-0000-0001-0000-000000000001" ++ 10 ∷
    codes "round 15 14" ++ 10 ∷
    codes "run again timer 14 0" ++ 10 ∷
    codes "run ask_door reply 1 1" ++ 10 ∷
    codes "run carry poll 1 0 00000000-0000-0001-0000-000000000001" ++ 10 ∷
    codes "pub lift 51" ++ 10 ∷
    codes "pub cmd_vel 30" ++ 10 ∷
    codes "round 16 15" ++ 10 ∷
    codes "run again timer 15 0" ++ 10 ∷
    codes "run lifter message 51 0" ++ 10 ∷
    codes "log lifter 51" ++ 10 ∷
    codes "run motor message 30 0" ++ 10 ∷
    codes "log motor 30" ++ 10 ∷
    codes "round 17 16" ++ 10 ∷
    codes "run again timer 16 0" ++ 10 ∷
    codes "round 18 17" ++ 10 ∷
    codes "run again timer 17 0" ++ 10 ∷
    codes "round 19 18" ++ 10 ∷
    codes "run again timer 18 0" ++ 10 ∷
    codes "run carry poll 1 0 00000000-0000-0001-0000-000000000001" ++ 10 ∷
    codes "round 20 19" ++ 10 ∷
    codes "run again timer 19 0" ++ 10 ∷
    codes "run carry poll 1 0 00000000-0000-0001-0000-000000000001" ++ 10 ∷
    codes "pub cmd_vel 30" ++ 10 ∷
    codes "round 21 20" ++ 10 ∷
    codes "run again timer 20 0" ++ 10 ∷
    codes "run motor message 30 0" ++ 10 ∷
    codes "log motor 30" ++ 10 ∷
    codes "round 22 21" ++ 10 ∷
    codes "run again timer 21 0" ++ 10 ∷
    codes "round 23 22" ++ 10 ∷
    codes "run again timer 22 0" ++ 10 ∷
    codes "round 24 23" ++ 10 ∷
    codes "run again timer 23 0" ++ 10 ∷
    codes "run carry poll 1 0 00000000-0000-0001-0000-000000000001" ++ 10 ∷
    codes "round 25 24" ++ 10 ∷
    codes "run again timer 24 0" ++ 10 ∷
    codes "run carry poll 1 0 00000000-0000-0001-0000-000000000001" ++ 10 ∷
    codes "pub cmd_vel 30" ++ 10 ∷
    codes "round 26 25" ++ 10 ∷
    codes "run again timer 25 0" ++ 10 ∷
    codes "run motor message 30 0" ++ 10 ∷
    codes "log motor 30" ++ 10 ∷
    codes "round 27 26" ++ 10 ∷
    codes "run again timer 26 0" ++ 10 ∷
    codes "run sweep timer 26 0" ++ 10 ∷
    codes "call ask_to_sweep 1 0" ++ 10 ∷
    codes "round 28 27" ++ 10 ∷
    codes "run again timer 27 0" ++ 10 ∷
    codes "run door request 0 0" ++ 10 ∷
    codes "reply door 0" ++ 10 ∷
    codes "round 29 28" ++ 10 ∷
    codes "run again timer 28 0" ++ 10 ∷
    codes "run ask_to_sweep reply 0 1" ++ 10 ∷
    codes "log ask_to_sweep 0" ++ 10 ∷
    codes "run carry poll 1 0 00000000-0000-0001-0000-000000000001" ++ 10 ∷
    codes "round 30 29" ++ 10 ∷
    codes "run again timer 29 0" ++ 10 ∷
    codes "run carry poll 1 0 00000000-0000-0001-0000-000000000001" ++ 10 ∷
    codes "pub cmd_vel 30" ++ 10 ∷
    codes "round 31 30" ++ 10 ∷
    codes "run again timer 30 0" ++ 10 ∷
    codes "run motor message 30 0" ++ 10 ∷
    codes "log motor 30" ++ 10 ∷
    codes "round 32 31" ++ 10 ∷
    codes "run again timer 31 0" ++ 10 ∷
    codes "round 33 32" ++ 10 ∷
    codes "run again timer 32 0" ++ 10 ∷
    codes "round 34 33" ++ 10 ∷
    codes "run again timer 33 0" ++ 10 ∷
    codes "run carry poll 1 0 00000000-0000-0001-0000-000000000001" ++ 10 ∷
    codes "round 35 34" ++ 10 ∷
    codes "run again timer 34 0" ++ 10 ∷
    codes "run carry poll 1 0 00000000-0000-0001-0000-000000000001" ++ 10 ∷
    codes "pub cmd_vel 0" ++ 10 ∷
    codes "state carry 00000000-0000-0001-0000-000000000001 4" ++ 10 ∷
    codes "result carry 00000000-0000-0001-0000-000000000001 4 1" ++ 10 ∷
    codes "round 36 35" ++ 10 ∷
    codes "run again timer 35 0" ++ 10 ∷
    codes "run motor message 0 0" ++ 10 ∷
    codes "log motor 0" ++ 10 ∷
    codes "run carrier result 1 4 00000000-0000-0001-0000-000000000001" ++ 10 ∷
    codes "round 37 36" ++ 10 ∷
    codes "run again timer 36 0" ++ 10 ∷
    codes "round 38 37" ++ 10 ∷
    codes "run again timer 37 0" ++ 10 ∷
    codes "round 39 38" ++ 10 ∷
    codes "run again timer 38 0" ++ 10 ∷
    codes "round 40 39" ++ 10 ∷
    codes "run again timer 39 0" ++ 10 ∷
    codes "round 41 40" ++ 10 ∷
    codes "run again timer 40 0" ++ 10 ∷
    codes "round 42 41" ++ 10 ∷
    codes "run again timer 41 0" ++ 10 ∷
    codes "round 43 42" ++ 10 ∷
    codes "run again timer 42 0" ++ 10 ∷
    codes "round 44 43" ++ 10 ∷
    codes "run again timer 43 0" ++ 10 ∷
    codes "round 45 44" ++ 10 ∷
    codes "run again timer 44 0" ++ 10 ∷
    codes "round 46 45" ++ 10 ∷
    codes "run again timer 45 0" ++ 10 ∷
    codes "round 47 46" ++ 10 ∷
    codes "run again timer 46 0" ++ 10 ∷
    codes "round 48 47" ++ 10 ∷
    codes "run again timer 47 0" ++ 10 ∷
    codes "round 49 48" ++ 10 ∷
    codes "run again timer 48 0" ++ 10 ∷
    codes "round 50 49" ++ 10 ∷
    codes "run again timer 49 0" ++ 10 ∷
    codes "round 51 50" ++ 10 ∷
    codes "run again timer 50 0" ++ 10 ∷
    codes "round 52 51" ++ 10 ∷
    codes "run again timer 51 0" ++ 10 ∷
    codes "round 53 52" ++ 10 ∷
    codes "run again timer 52 0" ++ 10 ∷
    codes "run sweep timer 52 0" ++ 10 ∷
    codes "call ask_to_sweep 2 0" ++ 10 ∷
    codes "round 54 53" ++ 10 ∷
    codes "run again timer 53 0" ++ 10 ∷
    codes "run door request 0 0" ++ 10 ∷
    codes "reply door 0" ++ 10 ∷
    codes "round 55 54" ++ 10 ∷
    codes "run again timer 54 0" ++ 10 ∷
    codes "run ask_to_sweep reply 0 2" ++ 10 ∷
    codes "log ask_to_sweep 0" ++ 10 ∷
    codes "round 56 55" ++ 10 ∷
    codes "run again timer 55 0" ++ 10 ∷
    codes "round 57 56" ++ 10 ∷
    codes "run again timer 56 0" ++ 10 ∷
    codes "round 58 57" ++ 10 ∷
    codes "run again timer 57 0" ++ 10 ∷
    codes "round 59 58" ++ 10 ∷
    codes "run again timer 58 0" ++ 10 ∷
    codes "round 60 59" ++ 10 ∷
    codes "run again timer 59 0" ++ 10 ∷
    codes "round 61 60" ++ 10 ∷
    codes "run again timer 60 0" ++ 10 ∷
    codes "round 62 61" ++ 10 ∷
    codes "run again timer 61 0" ++ 10 ∷
    codes "round 63 62" ++ 10 ∷
    codes "run again timer 62 0" ++ 10 ∷
    codes "round 64 63" ++ 10 ∷
    codes "run again timer 63 0" ++ 10 ∷
    codes "round 65 64" ++ 10 ∷
    codes "run again timer 64 0" ++ 10 ∷
    codes "round 66 65" ++ 10 ∷
    codes "run again timer 65 0" ++ 10 ∷
    codes "round 67 66" ++ 10 ∷
    codes "run again timer 66 0" ++ 10 ∷
    codes "round 68 67" ++ 10 ∷
    codes "run again timer 67 0" ++ 10 ∷
    codes "round 69 68" ++ 10 ∷
    codes "run again timer 68 0" ++ 10 ∷
    codes "round 70 69" ++ 10 ∷
    codes "run again timer 69 0" ++ 10 ∷
    codes "round 71 70" ++ 10 ∷
    codes "run again timer 70 0" ++ 10 ∷
    codes "round 72 71" ++ 10 ∷
    codes "run again timer 71 0" ++ 10 ∷
    codes "round 73 72" ++ 10 ∷
    codes "run again timer 72 0" ++ 10 ∷
    codes "round 74 73" ++ 10 ∷
    codes "run again timer 73 0" ++ 10 ∷
    codes "round 75 74" ++ 10 ∷
    codes "run again timer 74 0" ++ 10 ∷
    codes "round 76 75" ++ 10 ∷
    codes "run again timer 75 0" ++ 10 ∷
    codes "round 77 76" ++ 10 ∷
    codes "run again timer 76 0" ++ 10 ∷
    codes "round 78 77" ++ 10 ∷
    codes "run again timer 77 0" ++ 10 ∷
    codes "round 79 78" ++ 10 ∷
    codes "run again timer 78 0" ++ 10 ∷
    codes "run sweep timer 78 0" ++ 10 ∷
    codes "call ask_to_sweep 3 0" ++ 10 ∷
    codes "round 80 79" ++ 10 ∷
    codes "run again timer 79 0" ++ 10 ∷
    codes "run door request 0 0" ++ 10 ∷
    codes "reply door 0" ++ 10 ∷
    codes "round 81 80" ++ 10 ∷
    codes "run again timer 80 0" ++ 10 ∷
    codes "run ask_to_sweep reply 0 3" ++ 10 ∷
    codes "log ask_to_sweep 0" ++ 10 ∷
    codes "round 82 81" ++ 10 ∷
    codes "run again timer 81 0" ++ 10 ∷
    codes "round 83 82" ++ 10 ∷
    codes "run again timer 82 0" ++ 10 ∷
    codes "round 84 83" ++ 10 ∷
    codes "run again timer 83 0" ++ 10 ∷
    codes "round 85 84" ++ 10 ∷
    codes "run again timer 84 0" ++ 10 ∷
    codes "round 86 85" ++ 10 ∷
    codes "run again timer 85 0" ++ 10 ∷
    codes "round 87 86" ++ 10 ∷
    codes "run again timer 86 0" ++ 10 ∷
    codes "round 88 87" ++ 10 ∷
    codes "run again timer 87 0" ++ 10 ∷
    codes "round 89 88" ++ 10 ∷
    codes "run again timer 88 0" ++ 10 ∷
    codes "round 90 89" ++ 10 ∷
    codes "run again timer 89 0" ++ 10 ∷
    codes "round 91 90" ++ 10 ∷
    codes "run again timer 90 0" ++ 10 ∷
    codes "round 92 91" ++ 10 ∷
    codes "run again timer 91 0" ++ 10 ∷
    codes "round 93 92" ++ 10 ∷
    codes "run again timer 92 0" ++ 10 ∷
    codes "round 94 93" ++ 10 ∷
    codes "run again timer 93 0" ++ 10 ∷
    codes "round 95 94" ++ 10 ∷
    codes "run again timer 94 0" ++ 10 ∷
    codes "round 96 95" ++ 10 ∷
    codes "run again timer 95 0" ++ 10 ∷
    codes "round 97 96" ++ 10 ∷
    codes "run again timer 96 0" ++ 10 ∷
    codes "round 98 97" ++ 10 ∷
    codes "run again timer 97 0" ++ 10 ∷
    codes "round 99 98" ++ 10 ∷
    codes "run again timer 98 0" ++ 10 ∷
    codes "round 100 99" ++ 10 ∷
    codes "run again timer 99 0" ++ 10 ∷
    codes "round 101 100" ++ 10 ∷
    codes "run again timer 100 0" ++ 10 ∷
    codes "run take_order message 2 0" ++ 10 ∷
    codes "goal carrier 00000000-0000-0001-0000-000000000002 2" ++ 10 ∷
    codes "round 102 101" ++ 10 ∷
    codes "run again timer 101 0" ++ 10 ∷
    codes "run carry goal 2 0 00000000-0000-0001-0000-000000000002" ++ 10 ∷
    codes "decide carry 00000000-0000-0001-0000-000000000002 2" ++ 10 ∷
    codes "state carry 00000000-0000-0001-0000-000000000002 1" ++ 10 ∷
    codes "state carry 00000000-0000-0001-0000-000000000002 2" ++ 10 ∷
    codes "round 103 102" ++ 10 ∷
    codes "run again timer 102 0" ++ 10 ∷
    codes "run carry poll 2 0 00000000-0000-0001-0000-000000000002" ++ 10 ∷
    codes "call ask_door 2 2" ++ 10 ∷
    codes "run carrier response 1 2 00000000-0000-0001-0000-000000000002" ++ 10 ∷
    codes "log carrier 1" ++ 10 ∷
    codes "ask carrier 00000000-0000-0001-0000-000000000002" ++ 10 ∷
    codes "round 104 103" ++ 10 ∷
    codes "run again timer 103 0" ++ 10 ∷
    codes "run weigh message 52 0" ++ 10 ∷
    codes "run door request 2 0" ++ 10 ∷
    codes "reply door 2" ++ 10 ∷
    codes "run carry ask 0 0 00000000-0000-0001-0000-000000000002" ++ 10 ∷
    codes "run carry poll 2 0 00000000-0000-0001-0000-000000000002" ++ 10 ∷
    codes "round 105 104" ++ 10 ∷
    codes "run again timer 104 0" ++ 10 ∷
    codes "run sweep timer 104 0" ++ 10 ∷
    codes "call ask_to_sweep 4 0" ++ 10 ∷
    codes "run ask_door reply 2 2" ++ 10 ∷
    codes "run carry poll 2 0 00000000-0000-0001-0000-000000000002" ++ 10 ∷
    codes "pub lift 52" ++ 10 ∷
    codes "pub cmd_vel 30" ++ 10 ∷
    codes "round 106 105" ++ 10 ∷
    codes "run again timer 105 0" ++ 10 ∷
    codes "run lifter message 52 0" ++ 10 ∷
    codes "log lifter 52" ++ 10 ∷
    codes "run motor message 30 0" ++ 10 ∷
    codes "log motor 30" ++ 10 ∷
    codes "run door request 0 0" ++ 10 ∷
    codes "reply door 0" ++ 10 ∷
    codes "round 107 106" ++ 10 ∷
    codes "run again timer 106 0" ++ 10 ∷
    codes "run ask_to_sweep reply 0 4" ++ 10 ∷
    codes "log ask_to_sweep 0" ++ 10 ∷
    codes "round 108 107" ++ 10 ∷
    codes "run again timer 107 0" ++ 10 ∷
    codes "round 109 108" ++ 10 ∷
    codes "run again timer 108 0" ++ 10 ∷
    codes "run carry poll 2 0 00000000-0000-0001-0000-000000000002" ++ 10 ∷
    codes "round 110 109" ++ 10 ∷
    codes "run again timer 109 0" ++ 10 ∷
    codes "run carry poll 2 0 00000000-0000-0001-0000-000000000002" ++ 10 ∷
    codes "pub cmd_vel 30" ++ 10 ∷
    codes "round 111 110" ++ 10 ∷
    codes "run again timer 110 0" ++ 10 ∷
    codes "run motor message 30 0" ++ 10 ∷
    codes "log motor 30" ++ 10 ∷
    codes "round 112 111" ++ 10 ∷
    codes "run again timer 111 0" ++ 10 ∷
    codes "round 113 112" ++ 10 ∷
    codes "run again timer 112 0" ++ 10 ∷
    codes "round 114 113" ++ 10 ∷
    codes "run again timer 113 0" ++ 10 ∷
    codes "run carry poll 2 0 00000000-0000-0001-0000-000000000002" ++ 10 ∷
    codes "round 115 114" ++ 10 ∷
    codes "run again timer 114 0" ++ 10 ∷
    codes "run carry poll 2 0 00000000-0000-0001-0000-000000000002" ++ 10 ∷
    codes "pub cmd_vel 30" ++ 10 ∷
    codes "round 116 115" ++ 10 ∷
    codes "run again timer 115 0" ++ 10 ∷
    codes "run motor message 30 0" ++ 10 ∷
    codes "log motor 30" ++ 10 ∷
    codes "round 117 116" ++ 10 ∷
    codes "run again timer 116 0" ++ 10 ∷
    codes "round 118 117" ++ 10 ∷
    codes "run again timer 117 0" ++ 10 ∷
    codes "round 119 118" ++ 10 ∷
    codes "run again timer 118 0" ++ 10 ∷
    codes "run carry poll 2 0 00000000-0000-0001-0000-000000000002" ++ 10 ∷
    codes "round 120 119" ++ 10 ∷
    codes "run again timer 119 0" ++ 10 ∷
    codes "run carry poll 2 0 00000000-0000-0001-0000-000000000002" ++ 10 ∷
    codes "pub cmd_vel 30" ++ 10 ∷
    codes "round 121 120" ++ 10 ∷
    codes "run again timer 120 0" ++ 10 ∷
    codes "run motor message 30 0" ++ 10 ∷
    codes "log motor 30" ++ 10 ∷
    codes "round 122 121" ++ 10 ∷
    codes "run again timer 121 0" ++ 10 ∷
    codes "round 123 122" ++ 10 ∷
    codes "run again timer 122 0" ++ 10 ∷
    codes "round 124 123" ++ 10 ∷
    codes "run again timer 123 0" ++ 10 ∷
    codes "run carry poll 2 0 00000000-0000-0001-0000-000000000002" ++ 10 ∷
    codes "round 125 124" ++ 10 ∷
    codes "run again timer 124 0" ++ 10 ∷
    codes "run carry poll 2 0 00000000-0000-0001-0000-000000000002" ++ 10 ∷
    codes "pub cmd_vel 0" ++ 10 ∷
    codes "state carry 00000000-0000-0001-0000-000000000002 4" ++ 10 ∷
    codes "result carry 00000000-0000-0001-0000-000000000002 4 2" ++ 10 ∷
    codes "round 126 125" ++ 10 ∷
    codes "run again timer 125 0" ++ 10 ∷
    codes "run motor message 0 0" ++ 10 ∷
    codes "log motor 0" ++ 10 ∷
    codes "run carrier result 2 4 00000000-0000-0001-0000-000000000002" ++ 10 ∷
    codes "round 127 126" ++ 10 ∷
    codes "run again timer 126 0" ++ 10 ∷
    codes "round 128 127" ++ 10 ∷
    codes "run again timer 127 0" ++ 10 ∷
    codes "round 129 128" ++ 10 ∷
    codes "run again timer 128 0" ++ 10 ∷
    codes "round 130 129" ++ 10 ∷
    codes "run again timer 129 0" ++ 10 ∷
    codes "round 131 130" ++ 10 ∷
    codes "run again timer 130 0" ++ 10 ∷
    codes "run sweep timer 130 0" ++ 10 ∷
    codes "call ask_to_sweep 5 0" ++ 10 ∷
    codes "round 132 131" ++ 10 ∷
    codes "run again timer 131 0" ++ 10 ∷
    codes "run door request 0 0" ++ 10 ∷
    codes "reply door 0" ++ 10 ∷
    codes "round 133 132" ++ 10 ∷
    codes "run again timer 132 0" ++ 10 ∷
    codes "run ask_to_sweep reply 0 5" ++ 10 ∷
    codes "log ask_to_sweep 0" ++ 10 ∷
    codes "round 134 133" ++ 10 ∷
    codes "run again timer 133 0" ++ 10 ∷
    codes "round 135 134" ++ 10 ∷
    codes "run again timer 134 0" ++ 10 ∷
    codes "round 136 135" ++ 10 ∷
    codes "run again timer 135 0" ++ 10 ∷
    codes "round 137 136" ++ 10 ∷
    codes "run again timer 136 0" ++ 10 ∷
    codes "round 138 137" ++ 10 ∷
    codes "run again timer 137 0" ++ 10 ∷
    codes "round 139 138" ++ 10 ∷
    codes "run again timer 138 0" ++ 10 ∷
    codes "round 140 139" ++ 10 ∷
    codes "run again timer 139 0" ++ 10 ∷
    codes "round 141 140" ++ 10 ∷
    codes "run again timer 140 0" ++ 10 ∷
    codes "round 142 141" ++ 10 ∷
    codes "run again timer 141 0" ++ 10 ∷
    codes "round 143 142" ++ 10 ∷
    codes "run again timer 142 0" ++ 10 ∷
    codes "round 144 143" ++ 10 ∷
    codes "run again timer 143 0" ++ 10 ∷
    codes "round 145 144" ++ 10 ∷
    codes "run again timer 144 0" ++ 10 ∷
    codes "round 146 145" ++ 10 ∷
    codes "run again timer 145 0" ++ 10 ∷
    codes "run watch_halt message 1 0" ++ 10 ∷
    codes "run brake message 1 0" ++ 10 ∷
    codes "round 147 146" ++ 10 ∷
    codes "run again timer 146 0" ++ 10 ∷
    codes "round 148 147" ++ 10 ∷
    codes "run again timer 147 0" ++ 10 ∷
    codes "round 149 148" ++ 10 ∷
    codes "run again timer 148 0" ++ 10 ∷
    codes "round 150 149" ++ 10 ∷
    codes "run again timer 149 0" ++ 10 ∷
    codes "round 151 150" ++ 10 ∷
    codes "run again timer 150 0" ++ 10 ∷
    codes "round 152 151" ++ 10 ∷
    codes "run again timer 151 0" ++ 10 ∷
    codes "round 153 152" ++ 10 ∷
    codes "run again timer 152 0" ++ 10 ∷
    codes "round 154 153" ++ 10 ∷
    codes "run again timer 153 0" ++ 10 ∷
    codes "round 155 154" ++ 10 ∷
    codes "run again timer 154 0" ++ 10 ∷
    codes "round 156 155" ++ 10 ∷
    codes "run again timer 155 0" ++ 10 ∷
    codes "run watch_halt message 0 0" ++ 10 ∷
    codes "run brake message 0 0" ++ 10 ∷
    codes "round 157 156" ++ 10 ∷
    codes "run again timer 156 0" ++ 10 ∷
    codes "run sweep timer 156 0" ++ 10 ∷
    codes "call ask_to_sweep 6 0" ++ 10 ∷
    codes "round 158 157" ++ 10 ∷
    codes "run again timer 157 0" ++ 10 ∷
    codes "run door request 0 0" ++ 10 ∷
    codes "reply door 0" ++ 10 ∷
    codes "round 159 158" ++ 10 ∷
    codes "run again timer 158 0" ++ 10 ∷
    codes "run ask_to_sweep reply 0 6" ++ 10 ∷
    codes "log ask_to_sweep 0" ++ 10 ∷
    codes "round 160 159" ++ 10 ∷
    codes "run again timer 159 0" ++ 10 ∷
    codes "round 161 160" ++ 10 ∷
    codes "run again timer 160 0" ++ 10 ∷
    codes "round 162 161" ++ 10 ∷
    codes "run again timer 161 0" ++ 10 ∷
    codes "round 163 162" ++ 10 ∷
    codes "run again timer 162 0" ++ 10 ∷
    codes "round 164 163" ++ 10 ∷
    codes "run again timer 163 0" ++ 10 ∷
    codes "round 165 164" ++ 10 ∷
    codes "run again timer 164 0" ++ 10 ∷
    codes "round 166 165" ++ 10 ∷
    codes "run again timer 165 0" ++ 10 ∷
    codes "round 167 166" ++ 10 ∷
    codes "run again timer 166 0" ++ 10 ∷
    codes "round 168 167" ++ 10 ∷
    codes "run again timer 167 0" ++ 10 ∷
    codes "round 169 168" ++ 10 ∷
    codes "run again timer 168 0" ++ 10 ∷
    codes "round 170 169" ++ 10 ∷
    codes "run again timer 169 0" ++ 10 ∷
    codes "round 171 170" ++ 10 ∷
    codes "run again timer 170 0" ++ 10 ∷
    codes "round 172 171" ++ 10 ∷
    codes "run again timer 171 0" ++ 10 ∷
    codes "round 173 172" ++ 10 ∷
    codes "run again timer 172 0" ++ 10 ∷
    codes "round 174 173" ++ 10 ∷
    codes "run again timer 173 0" ++ 10 ∷
    codes "round 175 174" ++ 10 ∷
    codes "run again timer 174 0" ++ 10 ∷
    codes "round 176 175" ++ 10 ∷
    codes "run again timer 175 0" ++ 10 ∷
    codes "round 177 176" ++ 10 ∷
    codes "run again timer 176 0" ++ 10 ∷
    codes "round 178 177" ++ 10 ∷
    codes "run again timer 177 0" ++ 10 ∷
    codes "round 179 178" ++ 10 ∷
    codes "run again timer 178 0" ++ 10 ∷
    codes "round 180 179" ++ 10 ∷
    codes "run again timer 179 0" ++ 10 ∷
    codes "round 181 180" ++ 10 ∷
    codes "run again timer 180 0" ++ 10 ∷
    codes "round 182 181" ++ 10 ∷
    codes "run again timer 181 0" ++ 10 ∷
    codes "round 183 182" ++ 10 ∷
    codes "run again timer 182 0" ++ 10 ∷
    codes "run sweep timer 182 0" ++ 10 ∷
    codes "call ask_to_sweep 7 0" ++ 10 ∷
    codes "round 184 183" ++ 10 ∷
    codes "run again timer 183 0" ++ 10 ∷
    codes "run door request 0 0" ++ 10 ∷
    codes "reply door 0" ++ 10 ∷
    codes "round 185 184" ++ 10 ∷
    codes "run again timer 184 0" ++ 10 ∷
    codes "run ask_to_sweep reply 0 7" ++ 10 ∷
    codes "log ask_to_sweep 0" ++ 10 ∷
    codes "round 186 185" ++ 10 ∷
    codes "run again timer 185 0" ++ 10 ∷
    codes "round 187 186" ++ 10 ∷
    codes "run again timer 186 0" ++ 10 ∷
    codes "round 188 187" ++ 10 ∷
    codes "run again timer 187 0" ++ 10 ∷
    codes "round 189 188" ++ 10 ∷
    codes "run again timer 188 0" ++ 10 ∷
    codes "round 190 189" ++ 10 ∷
    codes "run again timer 189 0" ++ 10 ∷
    codes "round 191 190" ++ 10 ∷
    codes "run again timer 190 0" ++ 10 ∷
    codes "run take_order message 3 0" ++ 10 ∷
    codes "goal carrier 00000000-0000-0001-0000-000000000003 3" ++ 10 ∷
    codes "round 192 191" ++ 10 ∷
    codes "run again timer 191 0" ++ 10 ∷
    codes "run carry goal 3 0 00000000-0000-0001-0000-000000000003" ++ 10 ∷
    codes "decide carry 00000000-0000-0001-0000-000000000003 2" ++ 10 ∷
    codes "state carry 00000000-0000-0001-0000-000000000003 1" ++ 10 ∷
    codes "state carry 00000000-0000-0001-0000-000000000003 2" ++ 10 ∷
    codes "round 193 192" ++ 10 ∷
    codes "run again timer 192 0" ++ 10 ∷
    codes "run carry poll 3 0 00000000-0000-0001-0000-000000000003" ++ 10 ∷
    codes "call ask_door 3 3" ++ 10 ∷
    codes "run carrier response 1 3 00000000-0000-0001-0000-000000000003" ++ 10 ∷
    codes "log carrier 1" ++ 10 ∷
    codes "ask carrier 00000000-0000-0001-0000-000000000003" ++ 10 ∷
    codes "round 194 193" ++ 10 ∷
    codes "run again timer 193 0" ++ 10 ∷
    codes "run weigh message 53 0" ++ 10 ∷
    codes "run door request 3 0" ++ 10 ∷
    codes "reply door 3" ++ 10 ∷
    codes "run carry ask 0 0 00000000-0000-0001-0000-000000000003" ++ 10 ∷
    codes "run carry poll 3 0 00000000-0000-0001-0000-000000000003" ++ 10 ∷
    codes "round 195 194" ++ 10 ∷
    codes "run again timer 194 0" ++ 10 ∷
    codes "run ask_door reply 3 3" ++ 10 ∷
    codes "run carry poll 3 0 00000000-0000-0001-0000-000000000003" ++ 10 ∷
    codes "pub lift 53" ++ 10 ∷
    codes "pub cmd_vel 30" ++ 10 ∷
    codes "round 196 195" ++ 10 ∷
    codes "run again timer 195 0" ++ 10 ∷
    codes "run lifter message 53 0" ++ 10 ∷
    codes "log lifter 53" ++ 10 ∷
    codes "run motor message 30 0" ++ 10 ∷
    codes "log motor 30" ++ 10 ∷
    codes "round 197 196" ++ 10 ∷
    codes "run again timer 196 0" ++ 10 ∷
    codes "round 198 197" ++ 10 ∷
    codes "run again timer 197 0" ++ 10 ∷
    codes "round 199 198" ++ 10 ∷
    codes "run again timer 198 0" ++ 10 ∷
    codes "run carry poll 3 0 00000000-0000-0001-0000-000000000003" ++ 10 ∷
    codes "round 200 199" ++ 10 ∷
    codes "run again timer 199 0" ++ 10 ∷
    codes "run carry poll 3 0 00000000-0000-0001-0000-000000000003" ++ 10 ∷
    codes "pub cmd_vel 30" ++ 10 ∷
    codes "round 201 200" ++ 10 ∷
    codes "run again timer 200 0" ++ 10 ∷
    codes "run motor message 30 0" ++ 10 ∷
    codes "log motor 30" ++ 10 ∷
    codes "round 202 201" ++ 10 ∷
    codes "run again timer 201 0" ++ 10 ∷
    codes "round 203 202" ++ 10 ∷
    codes "run again timer 202 0" ++ 10 ∷
    codes "round 204 203" ++ 10 ∷
    codes "run again timer 203 0" ++ 10 ∷
    codes "run carry poll 3 0 00000000-0000-0001-0000-000000000003" ++ 10 ∷
    codes "round 205 204" ++ 10 ∷
    codes "run again timer 204 0" ++ 10 ∷
    codes "run carry poll 3 0 00000000-0000-0001-0000-000000000003" ++ 10 ∷
    codes "pub cmd_vel 30" ++ 10 ∷
    codes "round 206 205" ++ 10 ∷
    codes "run again timer 205 0" ++ 10 ∷
    codes "run motor message 30 0" ++ 10 ∷
    codes "log motor 30" ++ 10 ∷
    codes "round 207 206" ++ 10 ∷
    codes "run again timer 206 0" ++ 10 ∷
    codes "round 208 207" ++ 10 ∷
    codes "run again timer 207 0" ++ 10 ∷
    codes "round 209 208" ++ 10 ∷
    codes "run again timer 208 0" ++ 10 ∷
    codes "run sweep timer 208 0" ++ 10 ∷
    codes "call ask_to_sweep 8 0" ++ 10 ∷
    codes "run carry poll 3 0 00000000-0000-0001-0000-000000000003" ++ 10 ∷
    codes "round 210 209" ++ 10 ∷
    codes "run again timer 209 0" ++ 10 ∷
    codes "run door request 0 0" ++ 10 ∷
    codes "reply door 0" ++ 10 ∷
    codes "run carry poll 3 0 00000000-0000-0001-0000-000000000003" ++ 10 ∷
    codes "pub cmd_vel 30" ++ 10 ∷
    codes "round 211 210" ++ 10 ∷
    codes "run again timer 210 0" ++ 10 ∷
    codes "run motor message 30 0" ++ 10 ∷
    codes "log motor 30" ++ 10 ∷
    codes "run ask_to_sweep reply 0 8" ++ 10 ∷
    codes "log ask_to_sweep 0" ++ 10 ∷
    codes "round 212 211" ++ 10 ∷
    codes "run again timer 211 0" ++ 10 ∷
    codes "round 213 212" ++ 10 ∷
    codes "run again timer 212 0" ++ 10 ∷
    codes "round 214 213" ++ 10 ∷
    codes "run again timer 213 0" ++ 10 ∷
    codes "run carry poll 3 0 00000000-0000-0001-0000-000000000003" ++ 10 ∷
    codes "round 215 214" ++ 10 ∷
    codes "run again timer 214 0" ++ 10 ∷
    codes "run carry poll 3 0 00000000-0000-0001-0000-000000000003" ++ 10 ∷
    codes "pub cmd_vel 0" ++ 10 ∷
    codes "state carry 00000000-0000-0001-0000-000000000003 4" ++ 10 ∷
    codes "result carry 00000000-0000-0001-0000-000000000003 4 3" ++ 10 ∷
    codes "round 216 215" ++ 10 ∷
    codes "run again timer 215 0" ++ 10 ∷
    codes "run motor message 0 0" ++ 10 ∷
    codes "log motor 0" ++ 10 ∷
    codes "run carrier result 3 4 00000000-0000-0001-0000-000000000003" ++ 10 ∷
    codes "round 217 216" ++ 10 ∷
    codes "run again timer 216 0" ++ 10 ∷
    codes "round 218 217" ++ 10 ∷
    codes "run again timer 217 0" ++ 10 ∷
    codes "round 219 218" ++ 10 ∷
    codes "run again timer 218 0" ++ 10 ∷
    codes "round 220 219" ++ 10 ∷
    codes "run again timer 219 0" ++ 10 ∷
    codes "round 221 220" ++ 10 ∷
    codes "run again timer 220 0" ++ 10 ∷
    codes "round 222 221" ++ 10 ∷
    codes "run again timer 221 0" ++ 10 ∷
    codes "round 223 222" ++ 10 ∷
    codes "run again timer 222 0" ++ 10 ∷
    codes "round 224 223" ++ 10 ∷
    codes "run again timer 223 0" ++ 10 ∷
    codes "round 225 224" ++ 10 ∷
    codes "run again timer 224 0" ++ 10 ∷
    codes "round 226 225" ++ 10 ∷
    codes "run again timer 225 0" ++ 10 ∷
    codes "round 227 226" ++ 10 ∷
    codes "run again timer 226 0" ++ 10 ∷
    codes "round 228 227" ++ 10 ∷
    codes "run again timer 227 0" ++ 10 ∷
    codes "round 229 228" ++ 10 ∷
    codes "run again timer 228 0" ++ 10 ∷
    codes "round 230 229" ++ 10 ∷
    codes "run again timer 229 0" ++ 10 ∷
    codes "round 231 230" ++ 10 ∷
    codes "run again timer 230 0" ++ 10 ∷
    codes "round 232 231" ++ 10 ∷
    codes "run again timer 231 0" ++ 10 ∷
    codes "round 233 232" ++ 10 ∷
    codes "run again timer 232 0" ++ 10 ∷
    codes "round 234 233" ++ 10 ∷
    codes "run again timer 233 0" ++ 10 ∷
    codes "round 235 234" ++ 10 ∷
    codes "run again timer 234 0" ++ 10 ∷
    codes "run sweep timer 234 0" ++ 10 ∷
    codes "call ask_to_sweep 9 0" ++ 10 ∷
    codes "round 236 235" ++ 10 ∷
    codes "run again timer 235 0" ++ 10 ∷
    codes "run door request 0 0" ++ 10 ∷
    codes "reply door 0" ++ 10 ∷
    codes "round 237 236" ++ 10 ∷
    codes "run again timer 236 0" ++ 10 ∷
    codes "run ask_to_sweep reply 0 9" ++ 10 ∷
    codes "log ask_to_sweep 0" ++ 10 ∷
    codes "round 238 237" ++ 10 ∷
    codes "run again timer 237 0" ++ 10 ∷
    codes "round 239 238" ++ 10 ∷
    codes "run again timer 238 0" ++ 10 ∷
    codes "round 240 239" ++ 10 ∷
    codes "run again timer 239 0" ++ 10 ∷
    codes "round 241 240" ++ 10 ∷
    codes "run again timer 240 0" ++ 10 ∷
    codes "round 242 241" ++ 10 ∷
    codes "run again timer 241 0" ++ 10 ∷
    codes "round 243 242" ++ 10 ∷
    codes "run again timer 242 0" ++ 10 ∷
    codes "round 244 243" ++ 10 ∷
    codes "run again timer 243 0" ++ 10 ∷
    codes "round 245 244" ++ 10 ∷
    codes "run again timer 244 0" ++ 10 ∷
    codes "round 246 245" ++ 10 ∷
    codes "run again timer 245 0" ++ 10 ∷
    codes "round 247 246" ++ 10 ∷
    codes "run again timer 246 0" ++ 10 ∷
    codes "round 248 247" ++ 10 ∷
    codes "run again timer 247 0" ++ 10 ∷
    codes "round 249 248" ++ 10 ∷
    codes "run again timer 248 0" ++ 10 ∷
    codes "round 250 249" ++ 10 ∷
    codes "run again timer 249 0" ++ 10 ∷
    codes "round 251 250" ++ 10 ∷
    codes "run again timer 250 0" ++ 10 ∷
    codes "round 252 251" ++ 10 ∷
    codes "run again timer 251 0" ++ 10 ∷
    codes "round 253 252" ++ 10 ∷
    codes "run again timer 252 0" ++ 10 ∷
    codes "round 254 253" ++ 10 ∷
    codes "run again timer 253 0" ++ 10 ∷
    codes "round 255 254" ++ 10 ∷
    codes "run again timer 254 0" ++ 10 ∷
    codes "round 256 255" ++ 10 ∷
    codes "run again timer 255 0" ++ 10 ∷
    codes "round 257 256" ++ 10 ∷
    codes "run again timer 256 0" ++ 10 ∷
    codes "round 258 257" ++ 10 ∷
    codes "run again timer 257 0" ++ 10 ∷
    codes "round 259 258" ++ 10 ∷
    codes "run again timer 258 0" ++ 10 ∷
    codes "round 260 259" ++ 10 ∷
    codes "run again timer 259 0" ++ 10 ∷
    codes "round 261 260" ++ 10 ∷
    codes "run again timer 260 0" ++ 10 ∷
    codes "run sweep timer 260 0" ++ 10 ∷
    codes "call ask_to_sweep 10 0" ++ 10 ∷
    codes "round 262 261" ++ 10 ∷
    codes "run again timer 261 0" ++ 10 ∷
    codes "run door request 0 0" ++ 10 ∷
    codes "reply door 0" ++ 10 ∷
    codes "round 263 262" ++ 10 ∷
    codes "run again timer 262 0" ++ 10 ∷
    codes "run ask_to_sweep reply 0 10" ++ 10 ∷
    codes "log ask_to_sweep 0" ++ 10 ∷
    codes "round 264 263" ++ 10 ∷
    codes "run again timer 263 0" ++ 10 ∷
    codes "round 265 264" ++ 10 ∷
    codes "run again timer 264 0" ++ 10 ∷
    codes "round 266 265" ++ 10 ∷
    codes "run again timer 265 0" ++ 10 ∷
    codes "round 267 266" ++ 10 ∷
    codes "run again timer 266 0" ++ 10 ∷
    codes "round 268 267" ++ 10 ∷
    codes "run again timer 267 0" ++ 10 ∷
    codes "round 269 268" ++ 10 ∷
    codes "run again timer 268 0" ++ 10 ∷
    codes "round 270 269" ++ 10 ∷
    codes "run again timer 269 0" ++ 10 ∷
    codes "round 271 270" ++ 10 ∷
    codes "run again timer 270 0" ++ 10 ∷
    codes "round 272 271" ++ 10 ∷
    codes "run again timer 271 0" ++ 10 ∷
    codes "round 273 272" ++ 10 ∷
    codes "run again timer 272 0" ++ 10 ∷
    codes "round 274 273" ++ 10 ∷
    codes "run again timer 273 0" ++ 10 ∷
    codes "round 275 274" ++ 10 ∷
    codes "run again timer 274 0" ++ 10 ∷
    codes "round 276 275" ++ 10 ∷
    codes "run again timer 275 0" ++ 10 ∷
    codes "round 277 276" ++ 10 ∷
    codes "run again timer 276 0" ++ 10 ∷
    codes "round 278 277" ++ 10 ∷
    codes "run again timer 277 0" ++ 10 ∷
    codes "round 279 278" ++ 10 ∷
    codes "run again timer 278 0" ++ 10 ∷
    codes "round 280 279" ++ 10 ∷
    codes "run again timer 279 0" ++ 10 ∷
    codes "round 281 280" ++ 10 ∷
    codes "run again timer 280 0" ++ 10 ∷
    codes "end 281" ++ 10 ∷
    []

-- examples/wrapping.json
abbrev pub wrapping_document : List ℕ
wrapping_document =
    codes "{\"version\":1,\"nodes\":[{\"name\":\"n\",\"timers\":[{\"name\":\"t\",\"period\":1,\"script\":[[\"set\",\"r0\",\"add\",92233" ++
    codes "72036854775807,1],[\"log\",\"r0\"]]}]}],\"moments\":[1]}" ++ 10 ∷
    []

abbrev pub wrapping_transcript : List ℕ
wrapping_transcript =
    codes "round 1 1" ++ 10 ∷
    codes "run t timer 1 0" ++ 10 ∷
    codes "log t -9223372036854775808" ++ 10 ∷
    codes "end 1" ++ 10 ∷
    []
