-- Worked cases: order.
use Rattle.std.specs.Prelude.{ℕ, List, [], ◌∷◌, ◌++◌, codes}

-- cases/order/age.json
abbrev pub age_document : List ℕ
age_document =
    codes "{\"version\":2,\"order\":\"age\"}" ++
    []

-- cases/order/and_moments_that_go_back.json
abbrev pub and_moments_that_go_back_document : List ℕ
and_moments_that_go_back_document =
    codes "{\"version\":2,\"order\":\"age\",\"moments\":[5,4]}" ++ 10 ∷
    []

-- cases/order/by_kind_of_a_cancel_that_meets_a_success.json
abbrev pub by_kind_of_a_cancel_that_meets_a_success_document : List ℕ
by_kind_of_a_cancel_that_meets_a_success_document =
    codes "{\"version\":2,\"order\":\"kind\",\"nodes\":[{\"name\":\"n\",\"timers\":[{\"name\":\"t\",\"period\":10,\"script\":[[\"goal\"" ++
    codes ",\"ac\",5]]}],\"actions\":[{\"name\":\"a\",\"on_goal\":[[\"decide\",2]],\"on_cancel\":[[\"decide\",2]],\"script\":[[\"s" ++
    codes "ucceed\",9]]}],\"action_clients\":[{\"name\":\"ac\",\"action\":\"a\",\"on_result\":[[\"log\",\"in\"]]}]}],\"moments\":[" ++
    codes "10,11,12,13,14],\"feed\":[{\"round\":3,\"action\":\"a\",\"cancel\":\"00000000-0000-0001-0000-000000000001\",\"sta" ++
    codes "mp\":0}]}" ++ 10 ∷
    []

abbrev pub by_kind_of_a_cancel_that_meets_a_success_transcript : List ℕ
by_kind_of_a_cancel_that_meets_a_success_transcript =
    codes "round 1 10" ++ 10 ∷
    codes "run t timer 10 0" ++ 10 ∷
    codes "goal ac 00000000-0000-0001-0000-000000000001 5" ++ 10 ∷
    codes "round 2 11" ++ 10 ∷
    codes "run a goal 5 0 00000000-0000-0001-0000-000000000001" ++ 10 ∷
    codes "decide a 00000000-0000-0001-0000-000000000001 2" ++ 10 ∷
    codes "state a 00000000-0000-0001-0000-000000000001 1" ++ 10 ∷
    codes "state a 00000000-0000-0001-0000-000000000001 2" ++ 10 ∷
    codes "round 3 12" ++ 10 ∷
    codes "run a cancel 0 1 00000000-0000-0001-0000-000000000001" ++ 10 ∷
    codes "state a 00000000-0000-0001-0000-000000000001 3" ++ 10 ∷
    codes "code a 0 1" ++ 10 ∷
    codes "run a poll 5 0 00000000-0000-0001-0000-000000000001" ++ 10 ∷
    codes "state a 00000000-0000-0001-0000-000000000001 4" ++ 10 ∷
    codes "run ac response 1 1 00000000-0000-0001-0000-000000000001" ++ 10 ∷
    codes "ask ac 00000000-0000-0001-0000-000000000001" ++ 10 ∷
    codes "round 4 13" ++ 10 ∷
    codes "run a ask 0 0 00000000-0000-0001-0000-000000000001" ++ 10 ∷
    codes "result a 00000000-0000-0001-0000-000000000001 4 9" ++ 10 ∷
    codes "round 5 14" ++ 10 ∷
    codes "run ac result 9 4 00000000-0000-0001-0000-000000000001" ++ 10 ∷
    codes "log ac 9" ++ 10 ∷
    codes "end 5" ++ 10 ∷
    []

-- cases/order/by_kind_of_two_messages.json
abbrev pub by_kind_of_two_messages_document : List ℕ
by_kind_of_two_messages_document =
    codes "{\"version\":2,\"order\":\"kind\",\"topics\":[\"x\",\"y\"],\"nodes\":[{\"name\":\"n\",\"subscriptions\":[{\"name\":\"s1\",\"t" ++
    codes "opic\":\"x\"},{\"name\":\"s2\",\"topic\":\"y\"}]}],\"moments\":[1],\"feed\":[{\"round\":1,\"topic\":\"y\",\"value\":7},{\"ro" ++
    codes "und\":1,\"topic\":\"x\",\"value\":8}]}" ++ 10 ∷
    []

abbrev pub by_kind_of_two_messages_transcript : List ℕ
by_kind_of_two_messages_transcript =
    codes "round 1 1" ++ 10 ∷
    codes "run s1 message 8 0" ++ 10 ∷
    codes "run s2 message 7 0" ++ 10 ∷
    codes "end 1" ++ 10 ∷
    []

-- cases/order/in_a_list.json
abbrev pub in_a_list_document : List ℕ
in_a_list_document =
    codes "{\"version\":2,\"order\":[\"kind\"]}" ++ 10 ∷
    []

-- cases/order/in_capitals.json
abbrev pub in_capitals_document : List ℕ
in_capitals_document =
    codes "{\"version\":2,\"order\":\"Kind\"}" ++ 10 ∷
    []

-- cases/order/of_a_node.json
abbrev pub of_a_node_document : List ℕ
of_a_node_document =
    codes "{\"version\":2,\"nodes\":[{\"name\":\"n\",\"order\":7}]}" ++ 10 ∷
    []

abbrev pub of_a_node_transcript : List ℕ
of_a_node_transcript =
    codes "end 0" ++ 10 ∷
    []

-- cases/order/of_a_number.json
abbrev pub of_a_number_document : List ℕ
of_a_number_document =
    codes "{\"version\":2,\"order\":7}" ++ 10 ∷
    []

-- cases/order/of_null.json
abbrev pub of_null_document : List ℕ
of_null_document =
    codes "{\"version\":2,\"order\":null}" ++ 10 ∷
    []

-- cases/order/of_the_last_of_two_versions.json
abbrev pub of_the_last_of_two_versions_document : List ℕ
of_the_last_of_two_versions_document =
    codes "{\"version\":2,\"order\":\"age\",\"version\":1}" ++ 10 ∷
    []

abbrev pub of_the_last_of_two_versions_transcript : List ℕ
of_the_last_of_two_versions_transcript =
    codes "end 0" ++ 10 ∷
    []

-- cases/order/of_version_1.json
abbrev pub of_version_1_document : List ℕ
of_version_1_document =
    codes "{\"version\":1,\"order\":7}" ++ 10 ∷
    []

abbrev pub of_version_1_transcript : List ℕ
of_version_1_transcript =
    codes "end 0" ++ 10 ∷
    []

-- cases/order/of_version_3.json
abbrev pub of_version_3_document : List ℕ
of_version_3_document =
    codes "{\"version\":3,\"order\":7}" ++ 10 ∷
    []

-- cases/order/that_is_right_the_last_time.json
abbrev pub that_is_right_the_last_time_document : List ℕ
that_is_right_the_last_time_document =
    codes "{\"version\":2,\"order\":\"age\",\"order\":\"kind\"}" ++ 10 ∷
    []

abbrev pub that_is_right_the_last_time_transcript : List ℕ
that_is_right_the_last_time_transcript =
    codes "end 0" ++ 10 ∷
    []

-- cases/order/that_is_wrong_the_last_time.json
abbrev pub that_is_wrong_the_last_time_document : List ℕ
that_is_wrong_the_last_time_document =
    codes "{\"version\":2,\"order\":\"kind\",\"order\":\"age\"}" ++ 10 ∷
    []

-- cases/order/without_a_version.json
abbrev pub without_a_version_document : List ℕ
without_a_version_document =
    codes "{\"order\":\"kind\"}" ++ 10 ∷
    []
