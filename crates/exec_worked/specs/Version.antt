-- Worked cases: version.
use Rattle.std.specs.Prelude.{ℕ, List, [], ◌∷◌, ◌++◌, codes}

-- cases/version/0.json
abbrev pub version_0_document : List ℕ
version_0_document =
    codes "{\"version\":0}" ++ 10 ∷
    []

-- cases/version/2.json
abbrev pub version_2_document : List ℕ
version_2_document =
    codes "{\"version\":2}" ++ 10 ∷
    []

abbrev pub version_2_transcript : List ℕ
version_2_transcript =
    codes "end 0" ++ 10 ∷
    []

-- cases/version/2_and_moments_that_go_back.json
abbrev pub version_2_and_moments_that_go_back_document : List ℕ
version_2_and_moments_that_go_back_document =
    codes "{\"version\":2,\"order\":\"arrival\",\"moments\":[5,4]}" ++ 10 ∷
    []

-- cases/version/2_without_an_order.json
abbrev pub version_2_without_an_order_document : List ℕ
version_2_without_an_order_document =
    codes "{\"version\":2,\"nodes\":[{\"name\":\"n\",\"timers\":[{\"name\":\"t\",\"period\":10,\"script\":[[\"goal\",\"ac\",5]]}],\"ac" ++
    codes "tions\":[{\"name\":\"a\",\"on_goal\":[[\"decide\",2]],\"on_cancel\":[[\"decide\",2]],\"script\":[[\"succeed\",9]]}],\"" ++
    codes "action_clients\":[{\"name\":\"ac\",\"action\":\"a\",\"on_result\":[[\"log\",\"in\"]]}]}],\"moments\":[10,11,12,13,14]" ++
    codes ",\"feed\":[{\"round\":3,\"action\":\"a\",\"cancel\":\"00000000-0000-0001-0000-000000000001\",\"stamp\":0}]}" ++ 10 ∷
    []

abbrev pub version_2_without_an_order_transcript : List ℕ
version_2_without_an_order_transcript =
    codes "round 1 10" ++ 10 ∷
    codes "run t timer 10 0" ++ 10 ∷
    codes "goal ac 00000000-0000-0001-0000-000000000001 5" ++ 10 ∷
    codes "round 2 11" ++ 10 ∷
    codes "run a goal 5 0 00000000-0000-0001-0000-000000000001" ++ 10 ∷
    codes "decide a 00000000-0000-0001-0000-000000000001 2" ++ 10 ∷
    codes "state a 00000000-0000-0001-0000-000000000001 1" ++ 10 ∷
    codes "state a 00000000-0000-0001-0000-000000000001 2" ++ 10 ∷
    codes "round 3 12" ++ 10 ∷
    codes "run a cancel 0 1 00000000-0000-0001-0000-000000000001" ++ 10 ∷
    codes "state a 00000000-0000-0001-0000-000000000001 3" ++ 10 ∷
    codes "code a 0 1" ++ 10 ∷
    codes "run a poll 5 0 00000000-0000-0001-0000-000000000001" ++ 10 ∷
    codes "state a 00000000-0000-0001-0000-000000000001 4" ++ 10 ∷
    codes "run ac response 1 1 00000000-0000-0001-0000-000000000001" ++ 10 ∷
    codes "ask ac 00000000-0000-0001-0000-000000000001" ++ 10 ∷
    codes "round 4 13" ++ 10 ∷
    codes "run a ask 0 0 00000000-0000-0001-0000-000000000001" ++ 10 ∷
    codes "result a 00000000-0000-0001-0000-000000000001 4 9" ++ 10 ∷
    codes "round 5 14" ++ 10 ∷
    codes "run ac result 9 4 00000000-0000-0001-0000-000000000001" ++ 10 ∷
    codes "log ac 9" ++ 10 ∷
    codes "end 5" ++ 10 ∷
    []

-- cases/version/3.json
abbrev pub version_3_document : List ℕ
version_3_document =
    codes "{\"version\":3}" ++
    []

-- cases/version/3_and_a_topic_twice.json
abbrev pub version_3_and_a_topic_twice_document : List ℕ
version_3_and_a_topic_twice_document =
    codes "{\"topics\":[\"x\",\"x\"],\"version\":3}" ++ 10 ∷
    []

-- cases/version/3_and_moments_that_go_back.json
abbrev pub version_3_and_moments_that_go_back_document : List ℕ
version_3_and_moments_that_go_back_document =
    codes "{\"version\":3,\"moments\":[5,4]}" ++ 10 ∷
    []

-- cases/version/written_twice.json
abbrev pub written_twice_document : List ℕ
written_twice_document =
    codes "{\"version\":\"x\",\"version\":1,\"order\":7}" ++
    []

abbrev pub written_twice_transcript : List ℕ
written_twice_transcript =
    codes "end 0" ++ 10 ∷
    []
