-- Worked cases: arrival.
use Rattle.std.specs.Prelude.{ℕ, List, [], ◌∷◌, ◌++◌, codes}

-- cases/arrival/before_its_version.json
abbrev pub before_its_version_document : List ℕ
before_its_version_document =
    codes "{\"order\":\"arrival\",\"topics\":[\"x\",\"y\"],\"nodes\":[{\"name\":\"n\",\"subscriptions\":[{\"name\":\"s1\",\"topic\":\"x\"" ++
    codes "},{\"name\":\"s2\",\"topic\":\"y\"}]}],\"moments\":[1],\"feed\":[{\"round\":1,\"topic\":\"y\",\"value\":7},{\"round\":1,\"t" ++
    codes "opic\":\"x\",\"value\":8}],\"version\":2}" ++ 10 ∷
    []

abbrev pub before_its_version_transcript : List ℕ
before_its_version_transcript =
    codes "round 1 1" ++ 10 ∷
    codes "run s2 message 7 0" ++ 10 ∷
    codes "run s1 message 8 0" ++ 10 ∷
    codes "end 1" ++ 10 ∷
    []

-- cases/arrival/in_version_1.json
abbrev pub in_version_1_document : List ℕ
in_version_1_document =
    codes "{\"version\":1,\"order\":\"arrival\",\"topics\":[\"x\",\"y\"],\"nodes\":[{\"name\":\"n\",\"subscriptions\":[{\"name\":\"s1\"" ++
    codes ",\"topic\":\"x\"},{\"name\":\"s2\",\"topic\":\"y\"}]}],\"moments\":[1],\"feed\":[{\"round\":1,\"topic\":\"y\",\"value\":7},{" ++
    codes "\"round\":1,\"topic\":\"x\",\"value\":8}]}" ++ 10 ∷
    []

abbrev pub in_version_1_transcript : List ℕ
in_version_1_transcript =
    codes "round 1 1" ++ 10 ∷
    codes "run s1 message 8 0" ++ 10 ∷
    codes "run s2 message 7 0" ++ 10 ∷
    codes "end 1" ++ 10 ∷
    []

-- cases/arrival/of_a_cancel_after_a_poll_that_waits.json
abbrev pub of_a_cancel_after_a_poll_that_waits_document : List ℕ
of_a_cancel_after_a_poll_that_waits_document =
    codes "{\"version\":2,\"order\":\"arrival\",\"nodes\":[{\"name\":\"n\",\"actions\":[{\"name\":\"a\",\"on_goal\":[[\"decide\",2]]," ++
    codes "\"on_cancel\":[[\"decide\",2]],\"script\":[[\"wait\",50],[\"canceled\",\"aux\"]]}]}],\"moments\":[1,2,3],\"feed\":[{" ++
    codes "\"round\":1,\"action\":\"a\",\"goal\":\"00000000-0000-0000-0000-000000000001\",\"value\":5},{\"round\":2,\"action\":" ++
    codes "\"a\",\"cancel\":\"00000000-0000-0000-0000-000000000001\"}]}" ++ 10 ∷
    []

abbrev pub of_a_cancel_after_a_poll_that_waits_transcript : List ℕ
of_a_cancel_after_a_poll_that_waits_transcript =
    codes "round 1 1" ++ 10 ∷
    codes "run a goal 5 0 00000000-0000-0000-0000-000000000001" ++ 10 ∷
    codes "decide a 00000000-0000-0000-0000-000000000001 2" ++ 10 ∷
    codes "state a 00000000-0000-0000-0000-000000000001 1" ++ 10 ∷
    codes "state a 00000000-0000-0000-0000-000000000001 2" ++ 10 ∷
    codes "round 2 2" ++ 10 ∷
    codes "run a poll 5 0 00000000-0000-0000-0000-000000000001" ++ 10 ∷
    codes "run a cancel 0 1 00000000-0000-0000-0000-000000000001" ++ 10 ∷
    codes "state a 00000000-0000-0000-0000-000000000001 3" ++ 10 ∷
    codes "code a 0 1" ++ 10 ∷
    codes "round 3 3" ++ 10 ∷
    codes "run a poll 5 1 00000000-0000-0000-0000-000000000001" ++ 10 ∷
    codes "state a 00000000-0000-0000-0000-000000000001 5" ++ 10 ∷
    codes "end 3" ++ 10 ∷
    []

-- cases/arrival/of_a_cancel_after_a_success.json
abbrev pub of_a_cancel_after_a_success_document : List ℕ
of_a_cancel_after_a_success_document =
    codes "{\"version\":2,\"order\":\"arrival\",\"nodes\":[{\"name\":\"n\",\"timers\":[{\"name\":\"t\",\"period\":10,\"script\":[[\"go" ++
    codes "al\",\"ac\",5]]}],\"actions\":[{\"name\":\"a\",\"on_goal\":[[\"decide\",2]],\"on_cancel\":[[\"decide\",2]],\"script\":[" ++
    codes "[\"succeed\",9]]}],\"action_clients\":[{\"name\":\"ac\",\"action\":\"a\",\"on_result\":[[\"log\",\"in\"]]}]}],\"moments" ++
    codes "\":[10,11,12,13,14],\"feed\":[{\"round\":3,\"action\":\"a\",\"cancel\":\"00000000-0000-0001-0000-000000000001\",\"" ++
    codes "stamp\":0}]}" ++ 10 ∷
    []

abbrev pub of_a_cancel_after_a_success_transcript : List ℕ
of_a_cancel_after_a_success_transcript =
    codes "round 1 10" ++ 10 ∷
    codes "run t timer 10 0" ++ 10 ∷
    codes "goal ac 00000000-0000-0001-0000-000000000001 5" ++ 10 ∷
    codes "round 2 11" ++ 10 ∷
    codes "run a goal 5 0 00000000-0000-0001-0000-000000000001" ++ 10 ∷
    codes "decide a 00000000-0000-0001-0000-000000000001 2" ++ 10 ∷
    codes "state a 00000000-0000-0001-0000-000000000001 1" ++ 10 ∷
    codes "state a 00000000-0000-0001-0000-000000000001 2" ++ 10 ∷
    codes "round 3 12" ++ 10 ∷
    codes "run a poll 5 0 00000000-0000-0001-0000-000000000001" ++ 10 ∷
    codes "state a 00000000-0000-0001-0000-000000000001 4" ++ 10 ∷
    codes "run ac response 1 1 00000000-0000-0001-0000-000000000001" ++ 10 ∷
    codes "ask ac 00000000-0000-0001-0000-000000000001" ++ 10 ∷
    codes "run a cancel 0 1 00000000-0000-0001-0000-000000000001" ++ 10 ∷
    codes "code a 3 0" ++ 10 ∷
    codes "round 4 13" ++ 10 ∷
    codes "run a ask 0 0 00000000-0000-0001-0000-000000000001" ++ 10 ∷
    codes "result a 00000000-0000-0001-0000-000000000001 4 9" ++ 10 ∷
    codes "round 5 14" ++ 10 ∷
    codes "run ac result 9 4 00000000-0000-0001-0000-000000000001" ++ 10 ∷
    codes "log ac 9" ++ 10 ∷
    codes "end 5" ++ 10 ∷
    []

-- cases/arrival/of_a_cancel_by_a_stamp_after_a_success.json
abbrev pub of_a_cancel_by_a_stamp_after_a_success_document : List ℕ
of_a_cancel_by_a_stamp_after_a_success_document =
    codes "{\"version\":2,\"order\":\"arrival\",\"nodes\":[{\"name\":\"n\",\"actions\":[{\"name\":\"a\",\"on_goal\":[[\"decide\",2]]," ++
    codes "\"on_cancel\":[[\"decide\",2]],\"script\":[[\"succeed\",9]]}]}],\"moments\":[1,2],\"feed\":[{\"round\":1,\"action\":" ++
    codes "\"a\",\"goal\":\"00000000-0000-0000-0000-000000000001\",\"value\":5},{\"round\":2,\"action\":\"a\",\"cancel\":\"00000" ++
    codes "000-0000-0000-0000-000000000000\",\"stamp\":1}]}" ++ 10 ∷
    []

abbrev pub of_a_cancel_by_a_stamp_after_a_success_transcript : List ℕ
of_a_cancel_by_a_stamp_after_a_success_transcript =
    codes "round 1 1" ++ 10 ∷
    codes "run a goal 5 0 00000000-0000-0000-0000-000000000001" ++ 10 ∷
    codes "decide a 00000000-0000-0000-0000-000000000001 2" ++ 10 ∷
    codes "state a 00000000-0000-0000-0000-000000000001 1" ++ 10 ∷
    codes "state a 00000000-0000-0000-0000-000000000001 2" ++ 10 ∷
    codes "round 2 2" ++ 10 ∷
    codes "run a poll 5 0 00000000-0000-0000-0000-000000000001" ++ 10 ∷
    codes "state a 00000000-0000-0000-0000-000000000001 4" ++ 10 ∷
    codes "run a cancel 1 1 00000000-0000-0000-0000-000000000000" ++ 10 ∷
    codes "code a 1 0" ++ 10 ∷
    codes "end 2" ++ 10 ∷
    []

-- cases/arrival/of_a_cancel_of_another_goal_after_a_success.json
abbrev pub of_a_cancel_of_another_goal_after_a_success_document : List ℕ
of_a_cancel_of_another_goal_after_a_success_document =
    codes "{\"version\":2,\"order\":\"arrival\",\"nodes\":[{\"name\":\"n\",\"actions\":[{\"name\":\"a\",\"on_goal\":[[\"decide\",2]]," ++
    codes "\"on_cancel\":[[\"decide\",2]],\"script\":[[\"succeed\",9]]}]}],\"moments\":[1,2],\"feed\":[{\"round\":1,\"action\":" ++
    codes "\"a\",\"goal\":\"00000000-0000-0000-0000-000000000001\",\"value\":5},{\"round\":2,\"action\":\"a\",\"cancel\":\"00000" ++
    codes "000-0000-0000-0000-000000000002\",\"stamp\":1}]}" ++ 10 ∷
    []

abbrev pub of_a_cancel_of_another_goal_after_a_success_transcript : List ℕ
of_a_cancel_of_another_goal_after_a_success_transcript =
    codes "round 1 1" ++ 10 ∷
    codes "run a goal 5 0 00000000-0000-0000-0000-000000000001" ++ 10 ∷
    codes "decide a 00000000-0000-0000-0000-000000000001 2" ++ 10 ∷
    codes "state a 00000000-0000-0000-0000-000000000001 1" ++ 10 ∷
    codes "state a 00000000-0000-0000-0000-000000000001 2" ++ 10 ∷
    codes "round 2 2" ++ 10 ∷
    codes "run a poll 5 0 00000000-0000-0000-0000-000000000001" ++ 10 ∷
    codes "state a 00000000-0000-0000-0000-000000000001 4" ++ 10 ∷
    codes "run a cancel 1 1 00000000-0000-0000-0000-000000000002" ++ 10 ∷
    codes "code a 2 0" ++ 10 ∷
    codes "end 2" ++ 10 ∷
    []

-- cases/arrival/of_a_cancel_of_two_goals_of_which_one_ends.json
abbrev pub of_a_cancel_of_two_goals_of_which_one_ends_document : List ℕ
of_a_cancel_of_two_goals_of_which_one_ends_document =
    codes "{\"version\":2,\"order\":\"arrival\",\"nodes\":[{\"name\":\"n\",\"actions\":[{\"name\":\"a\",\"on_goal\":[[\"decide\",2]]," ++
    codes "\"on_cancel\":[[\"decide\",2]],\"script\":[[\"skip\",\"in\",1],[\"wait\",50],[\"succeed\",9]],\"depth\":2}]}],\"momen" ++
    codes "ts\":[1,2,3,4],\"feed\":[{\"round\":1,\"action\":\"a\",\"goal\":\"00000000-0000-0000-0000-000000000001\",\"value\":" ++
    codes "0},{\"round\":1,\"action\":\"a\",\"goal\":\"00000000-0000-0000-0000-000000000002\",\"value\":1},{\"round\":3,\"acti" ++
    codes "on\":\"a\",\"cancel\":\"00000000-0000-0000-0000-000000000000\"}]}" ++ 10 ∷
    []

abbrev pub of_a_cancel_of_two_goals_of_which_one_ends_transcript : List ℕ
of_a_cancel_of_two_goals_of_which_one_ends_transcript =
    codes "round 1 1" ++ 10 ∷
    codes "run a goal 0 0 00000000-0000-0000-0000-000000000001" ++ 10 ∷
    codes "decide a 00000000-0000-0000-0000-000000000001 2" ++ 10 ∷
    codes "state a 00000000-0000-0000-0000-000000000001 1" ++ 10 ∷
    codes "state a 00000000-0000-0000-0000-000000000001 2" ++ 10 ∷
    codes "round 2 2" ++ 10 ∷
    codes "run a goal 1 0 00000000-0000-0000-0000-000000000002" ++ 10 ∷
    codes "decide a 00000000-0000-0000-0000-000000000002 2" ++ 10 ∷
    codes "state a 00000000-0000-0000-0000-000000000002 1" ++ 10 ∷
    codes "state a 00000000-0000-0000-0000-000000000002 2" ++ 10 ∷
    codes "run a poll 0 0 00000000-0000-0000-0000-000000000001" ++ 10 ∷
    codes "round 3 3" ++ 10 ∷
    codes "run a poll 1 0 00000000-0000-0000-0000-000000000002" ++ 10 ∷
    codes "state a 00000000-0000-0000-0000-000000000002 4" ++ 10 ∷
    codes "run a cancel 0 2 00000000-0000-0000-0000-000000000000" ++ 10 ∷
    codes "state a 00000000-0000-0000-0000-000000000001 3" ++ 10 ∷
    codes "code a 0 1" ++ 10 ∷
    codes "round 4 4" ++ 10 ∷
    codes "run a poll 0 1 00000000-0000-0000-0000-000000000001" ++ 10 ∷
    codes "state a 00000000-0000-0000-0000-000000000001 4" ++ 10 ∷
    codes "end 4" ++ 10 ∷
    []

-- cases/arrival/of_a_cancel_that_is_refused_after_a_success.json
abbrev pub of_a_cancel_that_is_refused_after_a_success_document : List ℕ
of_a_cancel_that_is_refused_after_a_success_document =
    codes "{\"version\":2,\"order\":\"arrival\",\"nodes\":[{\"name\":\"n\",\"actions\":[{\"name\":\"a\",\"on_goal\":[[\"decide\",2]]," ++
    codes "\"on_cancel\":[[\"decide\",1]],\"script\":[[\"succeed\",9]]}]}],\"moments\":[1,2],\"feed\":[{\"round\":1,\"action\":" ++
    codes "\"a\",\"goal\":\"00000000-0000-0000-0000-000000000001\",\"value\":5},{\"round\":2,\"action\":\"a\",\"cancel\":\"00000" ++
    codes "000-0000-0000-0000-000000000001\"}]}" ++ 10 ∷
    []

abbrev pub of_a_cancel_that_is_refused_after_a_success_transcript : List ℕ
of_a_cancel_that_is_refused_after_a_success_transcript =
    codes "round 1 1" ++ 10 ∷
    codes "run a goal 5 0 00000000-0000-0000-0000-000000000001" ++ 10 ∷
    codes "decide a 00000000-0000-0000-0000-000000000001 2" ++ 10 ∷
    codes "state a 00000000-0000-0000-0000-000000000001 1" ++ 10 ∷
    codes "state a 00000000-0000-0000-0000-000000000001 2" ++ 10 ∷
    codes "round 2 2" ++ 10 ∷
    codes "run a poll 5 0 00000000-0000-0000-0000-000000000001" ++ 10 ∷
    codes "state a 00000000-0000-0000-0000-000000000001 4" ++ 10 ∷
    codes "run a cancel 0 1 00000000-0000-0000-0000-000000000001" ++ 10 ∷
    codes "code a 1 0" ++ 10 ∷
    codes "end 2" ++ 10 ∷
    []

-- cases/arrival/of_a_cancel_that_waited_before_a_poll.json
abbrev pub of_a_cancel_that_waited_before_a_poll_document : List ℕ
of_a_cancel_that_waited_before_a_poll_document =
    codes "{\"version\":2,\"order\":\"arrival\",\"nodes\":[{\"name\":\"n\",\"actions\":[{\"name\":\"a\",\"on_goal\":[[\"decide\",2]]," ++
    codes "\"on_cancel\":[[\"decide\",2]],\"script\":[[\"yield\"],[\"yield\"],[\"canceled\",9]]}]}],\"moments\":[1,2,3,4],\"fe" ++
    codes "ed\":[{\"round\":1,\"action\":\"a\",\"goal\":\"00000000-0000-0000-0000-000000000001\",\"value\":5},{\"round\":2,\"ac" ++
    codes "tion\":\"a\",\"cancel\":\"00000000-0000-0000-0000-000000000002\"},{\"round\":2,\"action\":\"a\",\"cancel\":\"0000000" ++
    codes "0-0000-0000-0000-000000000001\"}]}" ++ 10 ∷
    []

abbrev pub of_a_cancel_that_waited_before_a_poll_transcript : List ℕ
of_a_cancel_that_waited_before_a_poll_transcript =
    codes "round 1 1" ++ 10 ∷
    codes "run a goal 5 0 00000000-0000-0000-0000-000000000001" ++ 10 ∷
    codes "decide a 00000000-0000-0000-0000-000000000001 2" ++ 10 ∷
    codes "state a 00000000-0000-0000-0000-000000000001 1" ++ 10 ∷
    codes "state a 00000000-0000-0000-0000-000000000001 2" ++ 10 ∷
    codes "round 2 2" ++ 10 ∷
    codes "run a poll 5 0 00000000-0000-0000-0000-000000000001" ++ 10 ∷
    codes "run a cancel 0 0 00000000-0000-0000-0000-000000000002" ++ 10 ∷
    codes "code a 2 0" ++ 10 ∷
    codes "round 3 3" ++ 10 ∷
    codes "run a cancel 0 1 00000000-0000-0000-0000-000000000001" ++ 10 ∷
    codes "state a 00000000-0000-0000-0000-000000000001 3" ++ 10 ∷
    codes "code a 0 1" ++ 10 ∷
    codes "run a poll 5 0 00000000-0000-0000-0000-000000000001" ++ 10 ∷
    codes "round 4 4" ++ 10 ∷
    codes "run a poll 5 1 00000000-0000-0000-0000-000000000001" ++ 10 ∷
    codes "state a 00000000-0000-0000-0000-000000000001 5" ++ 10 ∷
    codes "end 4" ++ 10 ∷
    []

-- cases/arrival/of_a_canceled_goal_before_a_message.json
abbrev pub of_a_canceled_goal_before_a_message_document : List ℕ
of_a_canceled_goal_before_a_message_document =
    codes "{\"version\":2,\"order\":\"arrival\",\"topics\":[\"x\"],\"nodes\":[{\"name\":\"n\",\"subscriptions\":[{\"name\":\"s\",\"top" ++
    codes "ic\":\"x\"}],\"actions\":[{\"name\":\"a\",\"on_goal\":[[\"decide\",2]],\"on_cancel\":[[\"pub\",\"x\",1],[\"decide\",2]],\"" ++
    codes "script\":[[\"wait\",50],[\"canceled\",9]]}]}],\"moments\":[1,2,3,4],\"feed\":[{\"round\":1,\"action\":\"a\",\"goal\":" ++
    codes "\"00000000-0000-0000-0000-000000000001\",\"value\":5},{\"round\":3,\"action\":\"a\",\"cancel\":\"00000000-0000-00" ++
    codes "00-0000-000000000001\"}]}" ++ 10 ∷
    []

abbrev pub of_a_canceled_goal_before_a_message_transcript : List ℕ
of_a_canceled_goal_before_a_message_transcript =
    codes "round 1 1" ++ 10 ∷
    codes "run a goal 5 0 00000000-0000-0000-0000-000000000001" ++ 10 ∷
    codes "decide a 00000000-0000-0000-0000-000000000001 2" ++ 10 ∷
    codes "state a 00000000-0000-0000-0000-000000000001 1" ++ 10 ∷
    codes "state a 00000000-0000-0000-0000-000000000001 2" ++ 10 ∷
    codes "round 2 2" ++ 10 ∷
    codes "run a poll 5 0 00000000-0000-0000-0000-000000000001" ++ 10 ∷
    codes "round 3 3" ++ 10 ∷
    codes "run a cancel 0 1 00000000-0000-0000-0000-000000000001" ++ 10 ∷
    codes "pub x 1" ++ 10 ∷
    codes "state a 00000000-0000-0000-0000-000000000001 3" ++ 10 ∷
    codes "code a 0 1" ++ 10 ∷
    codes "round 4 4" ++ 10 ∷
    codes "run a poll 5 1 00000000-0000-0000-0000-000000000001" ++ 10 ∷
    codes "state a 00000000-0000-0000-0000-000000000001 5" ++ 10 ∷
    codes "run s message 1 0" ++ 10 ∷
    codes "end 4" ++ 10 ∷
    []

-- cases/arrival/of_a_deferred_goal_before_a_message.json
abbrev pub of_a_deferred_goal_before_a_message_document : List ℕ
of_a_deferred_goal_before_a_message_document =
    codes "{\"version\":2,\"order\":\"arrival\",\"topics\":[\"x\"],\"nodes\":[{\"name\":\"n\",\"timers\":[{\"name\":\"t\",\"period\":2," ++
    codes "\"script\":[[\"pub\",\"x\",1],[\"execute\",\"a\"]]}],\"subscriptions\":[{\"name\":\"s\",\"topic\":\"x\"}],\"actions\":[{\"n" ++
    codes "ame\":\"a\",\"on_goal\":[[\"decide\",3]],\"script\":[[\"succeed\",9]]}]}],\"moments\":[1,2,3],\"feed\":[{\"round\":1," ++
    codes "\"action\":\"a\",\"goal\":\"00000000-0000-0000-0000-000000000001\",\"value\":5}]}" ++ 10 ∷
    []

abbrev pub of_a_deferred_goal_before_a_message_transcript : List ℕ
of_a_deferred_goal_before_a_message_transcript =
    codes "round 1 1" ++ 10 ∷
    codes "run a goal 5 0 00000000-0000-0000-0000-000000000001" ++ 10 ∷
    codes "decide a 00000000-0000-0000-0000-000000000001 3" ++ 10 ∷
    codes "state a 00000000-0000-0000-0000-000000000001 1" ++ 10 ∷
    codes "round 2 2" ++ 10 ∷
    codes "run t timer 2 0" ++ 10 ∷
    codes "pub x 1" ++ 10 ∷
    codes "state a 00000000-0000-0000-0000-000000000001 2" ++ 10 ∷
    codes "round 3 3" ++ 10 ∷
    codes "run a poll 5 0 00000000-0000-0000-0000-000000000001" ++ 10 ∷
    codes "state a 00000000-0000-0000-0000-000000000001 4" ++ 10 ∷
    codes "run s message 1 0" ++ 10 ∷
    codes "end 3" ++ 10 ∷
    []

-- cases/arrival/of_a_message_at_two_nodes.json
abbrev pub of_a_message_at_two_nodes_document : List ℕ
of_a_message_at_two_nodes_document =
    codes "{\"version\":2,\"order\":\"arrival\",\"topics\":[\"y\",\"x\"],\"nodes\":[{\"name\":\"m\",\"subscriptions\":[{\"name\":\"s\"," ++
    codes "\"topic\":\"x\"},{\"name\":\"u\",\"topic\":\"y\"}]},{\"name\":\"n\",\"timers\":[{\"name\":\"t\",\"period\":1,\"script\":[[\"pub" ++
    codes "\",\"x\",1],[\"pub\",\"y\",2]]},{\"name\":\"p\",\"period\":1}],\"subscriptions\":[{\"name\":\"w\",\"topic\":\"x\"}]}],\"mome" ++
    codes "nts\":[1,2]}" ++ 10 ∷
    []

abbrev pub of_a_message_at_two_nodes_transcript : List ℕ
of_a_message_at_two_nodes_transcript =
    codes "round 1 1" ++ 10 ∷
    codes "run t timer 1 0" ++ 10 ∷
    codes "pub x 1" ++ 10 ∷
    codes "pub y 2" ++ 10 ∷
    codes "run p timer 1 0" ++ 10 ∷
    codes "round 2 2" ++ 10 ∷
    codes "run t timer 2 0" ++ 10 ∷
    codes "pub x 1" ++ 10 ∷
    codes "pub y 2" ++ 10 ∷
    codes "run p timer 2 0" ++ 10 ∷
    codes "run s message 1 0" ++ 10 ∷
    codes "run w message 1 0" ++ 10 ∷
    codes "run u message 2 0" ++ 10 ∷
    codes "end 2" ++ 10 ∷
    []

-- cases/arrival/of_a_message_that_displaces_another.json
abbrev pub of_a_message_that_displaces_another_document : List ℕ
of_a_message_that_displaces_another_document =
    codes "{\"version\":2,\"order\":\"arrival\",\"topics\":[\"x\",\"y\"],\"nodes\":[{\"name\":\"n\",\"subscriptions\":[{\"name\":\"s\"," ++
    codes "\"topic\":\"x\",\"depth\":1},{\"name\":\"u\",\"topic\":\"y\"}]}],\"moments\":[1],\"feed\":[{\"round\":1,\"topic\":\"x\",\"val" ++
    codes "ue\":1},{\"round\":1,\"topic\":\"y\",\"value\":2},{\"round\":1,\"topic\":\"x\",\"value\":3}]}" ++ 10 ∷
    []

abbrev pub of_a_message_that_displaces_another_transcript : List ℕ
of_a_message_that_displaces_another_transcript =
    codes "round 1 1" ++ 10 ∷
    codes "drop s message 1" ++ 10 ∷
    codes "run u message 2 0" ++ 10 ∷
    codes "run s message 3 0" ++ 10 ∷
    codes "end 1" ++ 10 ∷
    []

-- cases/arrival/of_a_poll_after_a_message.json
abbrev pub of_a_poll_after_a_message_document : List ℕ
of_a_poll_after_a_message_document =
    codes "{\"version\":2,\"order\":\"arrival\",\"topics\":[\"x\"],\"nodes\":[{\"name\":\"n\",\"timers\":[{\"name\":\"t\",\"period\":2," ++
    codes "\"script\":[[\"pub\",\"x\",\"now\"]]}],\"subscriptions\":[{\"name\":\"s\",\"topic\":\"x\"}],\"actions\":[{\"name\":\"a\",\"on" ++
    codes "_goal\":[[\"decide\",2]],\"script\":[[\"yield\"],[\"succeed\",9]]}]}],\"moments\":[1,2,3],\"feed\":[{\"round\":1,\"a" ++
    codes "ction\":\"a\",\"goal\":\"00000000-0000-0000-0000-000000000001\",\"value\":5}]}" ++ 10 ∷
    []

abbrev pub of_a_poll_after_a_message_transcript : List ℕ
of_a_poll_after_a_message_transcript =
    codes "round 1 1" ++ 10 ∷
    codes "run a goal 5 0 00000000-0000-0000-0000-000000000001" ++ 10 ∷
    codes "decide a 00000000-0000-0000-0000-000000000001 2" ++ 10 ∷
    codes "state a 00000000-0000-0000-0000-000000000001 1" ++ 10 ∷
    codes "state a 00000000-0000-0000-0000-000000000001 2" ++ 10 ∷
    codes "round 2 2" ++ 10 ∷
    codes "run t timer 2 0" ++ 10 ∷
    codes "pub x 2" ++ 10 ∷
    codes "run a poll 5 0 00000000-0000-0000-0000-000000000001" ++ 10 ∷
    codes "round 3 3" ++ 10 ∷
    codes "run s message 2 0" ++ 10 ∷
    codes "run a poll 5 0 00000000-0000-0000-0000-000000000001" ++ 10 ∷
    codes "state a 00000000-0000-0000-0000-000000000001 4" ++ 10 ∷
    codes "end 3" ++ 10 ∷
    []

-- cases/arrival/of_all_kinds.json
abbrev pub of_all_kinds_document : List ℕ
of_all_kinds_document =
    codes "{\"version\":2,\"order\":\"arrival\",\"topics\":[\"x\"],\"nodes\":[{\"name\":\"n\",\"timers\":[{\"name\":\"t\",\"period\":10" ++
    codes ",\"script\":[[\"goal\",\"k\",5],[\"call\",\"c\",3],[\"pub\",\"x\",1]]}],\"subscriptions\":[{\"name\":\"s\",\"topic\":\"x\",\"" ++
    codes "script\":[[\"log\",\"in\"]]}],\"services\":[{\"name\":\"v\",\"script\":[[\"pub\",\"x\",2],[\"reply\",\"in\"]]}],\"clients\"" ++
    codes ":[{\"name\":\"c\",\"service\":\"v\",\"script\":[[\"cancel\",\"k\",\"all\"],[\"log\",\"in\"]]}],\"actions\":[{\"name\":\"a\",\"o" ++
    codes "n_goal\":[[\"decide\",2]],\"on_cancel\":[[\"decide\",2]],\"script\":[[\"feedback\",1],[\"yield\"],[\"canceled\",8]]" ++
    codes "}],\"action_clients\":[{\"name\":\"k\",\"action\":\"a\",\"on_response\":[[\"pub\",\"x\",3]],\"on_code\":[[\"log\",\"in\"]]" ++
    codes ",\"on_feedback\":[[\"log\",\"in\"]],\"on_result\":[[\"log\",\"in\"]]}]}],\"moments\":[10,11,12,13,14,15,16]}" ++ 10 ∷
    []

abbrev pub of_all_kinds_transcript : List ℕ
of_all_kinds_transcript =
    codes "round 1 10" ++ 10 ∷
    codes "run t timer 10 0" ++ 10 ∷
    codes "goal k 00000000-0000-0001-0000-000000000001 5" ++ 10 ∷
    codes "call c 1 3" ++ 10 ∷
    codes "pub x 1" ++ 10 ∷
    codes "round 2 11" ++ 10 ∷
    codes "run a goal 5 0 00000000-0000-0001-0000-000000000001" ++ 10 ∷
    codes "decide a 00000000-0000-0001-0000-000000000001 2" ++ 10 ∷
    codes "state a 00000000-0000-0001-0000-000000000001 1" ++ 10 ∷
    codes "state a 00000000-0000-0001-0000-000000000001 2" ++ 10 ∷
    codes "run v request 3 0" ++ 10 ∷
    codes "pub x 2" ++ 10 ∷
    codes "reply v 3" ++ 10 ∷
    codes "run s message 1 0" ++ 10 ∷
    codes "log s 1" ++ 10 ∷
    codes "round 3 12" ++ 10 ∷
    codes "run a poll 5 0 00000000-0000-0001-0000-000000000001" ++ 10 ∷
    codes "feedback a 00000000-0000-0001-0000-000000000001 1" ++ 10 ∷
    codes "run k response 1 1 00000000-0000-0001-0000-000000000001" ++ 10 ∷
    codes "pub x 3" ++ 10 ∷
    codes "ask k 00000000-0000-0001-0000-000000000001" ++ 10 ∷
    codes "run s message 2 0" ++ 10 ∷
    codes "log s 2" ++ 10 ∷
    codes "run c reply 3 1" ++ 10 ∷
    codes "cancel k 00000000-0000-0000-0000-000000000000 0" ++ 10 ∷
    codes "log c 3" ++ 10 ∷
    codes "round 4 13" ++ 10 ∷
    codes "run k feedback 1 1 00000000-0000-0001-0000-000000000001" ++ 10 ∷
    codes "log k 1" ++ 10 ∷
    codes "run a poll 5 0 00000000-0000-0001-0000-000000000001" ++ 10 ∷
    codes "state a 00000000-0000-0001-0000-000000000001 6" ++ 10 ∷
    codes "run s message 3 0" ++ 10 ∷
    codes "log s 3" ++ 10 ∷
    codes "run a ask 0 0 00000000-0000-0001-0000-000000000001" ++ 10 ∷
    codes "result a 00000000-0000-0001-0000-000000000001 6 8" ++ 10 ∷
    codes "run a cancel 0 1 00000000-0000-0000-0000-000000000000" ++ 10 ∷
    codes "code a 1 0" ++ 10 ∷
    codes "round 5 14" ++ 10 ∷
    codes "run k result 8 6 00000000-0000-0001-0000-000000000001" ++ 10 ∷
    codes "log k 8" ++ 10 ∷
    codes "run k code 1 0" ++ 10 ∷
    codes "log k 1" ++ 10 ∷
    codes "round 6 15" ++ 10 ∷
    codes "round 7 16" ++ 10 ∷
    codes "end 7" ++ 10 ∷
    []

-- cases/arrival/of_feedback_before_the_next_poll.json
abbrev pub of_feedback_before_the_next_poll_document : List ℕ
of_feedback_before_the_next_poll_document =
    codes "{\"version\":2,\"order\":\"arrival\",\"nodes\":[{\"name\":\"n\",\"timers\":[{\"name\":\"t\",\"period\":10,\"script\":[[\"go" ++
    codes "al\",\"k\",5]]}],\"actions\":[{\"name\":\"a\",\"on_goal\":[[\"decide\",2]],\"script\":[[\"feedback\",1],[\"yield\"],[\"f" ++
    codes "eedback\",2],[\"succeed\",9]]}],\"action_clients\":[{\"name\":\"k\",\"action\":\"a\",\"on_feedback\":[[\"log\",\"in\"]]" ++
    codes "}]}],\"moments\":[10,11,12,13,14]}" ++ 10 ∷
    []

abbrev pub of_feedback_before_the_next_poll_transcript : List ℕ
of_feedback_before_the_next_poll_transcript =
    codes "round 1 10" ++ 10 ∷
    codes "run t timer 10 0" ++ 10 ∷
    codes "goal k 00000000-0000-0001-0000-000000000001 5" ++ 10 ∷
    codes "round 2 11" ++ 10 ∷
    codes "run a goal 5 0 00000000-0000-0001-0000-000000000001" ++ 10 ∷
    codes "decide a 00000000-0000-0001-0000-000000000001 2" ++ 10 ∷
    codes "state a 00000000-0000-0001-0000-000000000001 1" ++ 10 ∷
    codes "state a 00000000-0000-0001-0000-000000000001 2" ++ 10 ∷
    codes "round 3 12" ++ 10 ∷
    codes "run a poll 5 0 00000000-0000-0001-0000-000000000001" ++ 10 ∷
    codes "feedback a 00000000-0000-0001-0000-000000000001 1" ++ 10 ∷
    codes "run k response 1 1 00000000-0000-0001-0000-000000000001" ++ 10 ∷
    codes "round 4 13" ++ 10 ∷
    codes "run k feedback 1 1 00000000-0000-0001-0000-000000000001" ++ 10 ∷
    codes "log k 1" ++ 10 ∷
    codes "run a poll 5 0 00000000-0000-0001-0000-000000000001" ++ 10 ∷
    codes "feedback a 00000000-0000-0001-0000-000000000001 2" ++ 10 ∷
    codes "state a 00000000-0000-0001-0000-000000000001 4" ++ 10 ∷
    codes "round 5 14" ++ 10 ∷
    codes "run k feedback 2 1 00000000-0000-0001-0000-000000000001" ++ 10 ∷
    codes "log k 2" ++ 10 ∷
    codes "end 5" ++ 10 ∷
    []

-- cases/arrival/of_messages_that_waited.json
abbrev pub of_messages_that_waited_document : List ℕ
of_messages_that_waited_document =
    codes "{\"version\":2,\"order\":\"arrival\",\"topics\":[\"x\",\"y\"],\"nodes\":[{\"name\":\"n\",\"subscriptions\":[{\"name\":\"s\"," ++
    codes "\"topic\":\"x\"},{\"name\":\"u\",\"topic\":\"y\"}]}],\"moments\":[1,2,3],\"feed\":[{\"round\":1,\"topic\":\"y\",\"value\":1}" ++
    codes ",{\"round\":1,\"topic\":\"y\",\"value\":2},{\"round\":1,\"topic\":\"y\",\"value\":3},{\"round\":2,\"topic\":\"x\",\"value\":" ++
    codes "4},{\"round\":3,\"topic\":\"x\",\"value\":5}]}" ++ 10 ∷
    []

abbrev pub of_messages_that_waited_transcript : List ℕ
of_messages_that_waited_transcript =
    codes "round 1 1" ++ 10 ∷
    codes "run u message 1 0" ++ 10 ∷
    codes "round 2 2" ++ 10 ∷
    codes "run u message 2 0" ++ 10 ∷
    codes "run s message 4 0" ++ 10 ∷
    codes "round 3 3" ++ 10 ∷
    codes "run u message 3 0" ++ 10 ∷
    codes "run s message 5 0" ++ 10 ∷
    codes "end 3" ++ 10 ∷
    []

-- cases/arrival/of_two_messages.json
abbrev pub of_two_messages_document : List ℕ
of_two_messages_document =
    codes "{\"version\":2,\"order\":\"arrival\",\"topics\":[\"x\",\"y\"],\"nodes\":[{\"name\":\"n\",\"subscriptions\":[{\"name\":\"s1\"" ++
    codes ",\"topic\":\"x\"},{\"name\":\"s2\",\"topic\":\"y\"}]}],\"moments\":[1],\"feed\":[{\"round\":1,\"topic\":\"y\",\"value\":7},{" ++
    codes "\"round\":1,\"topic\":\"x\",\"value\":8}]}" ++ 10 ∷
    []

abbrev pub of_two_messages_transcript : List ℕ
of_two_messages_transcript =
    codes "round 1 1" ++ 10 ∷
    codes "run s2 message 7 0" ++ 10 ∷
    codes "run s1 message 8 0" ++ 10 ∷
    codes "end 1" ++ 10 ∷
    []
