-- Worked cases: variables.
use Rattle.std.specs.Prelude.{ℕ, List, [], ◌∷◌, ◌++◌, codes}

-- cases/variables/a_topic_of_that_name.json
abbrev pub a_topic_of_that_name_document : List ℕ
a_topic_of_that_name_document =
    codes "{\"version\":1,\"topics\":[\"g0\"],\"nodes\":[{\"name\":\"n\",\"groups\":[{\"name\":\"r\",\"kind\":\"reentrant\"}],\"timers" ++
    codes "\":[{\"name\":\"t\",\"period\":1,\"group\":\"r\",\"script\":[[\"pub\",\"g0\",1]]}]}]}" ++ 10 ∷
    []

abbrev pub a_topic_of_that_name_transcript : List ℕ
a_topic_of_that_name_transcript =
    codes "end 0" ++ 10 ∷
    []

-- cases/variables/and_moments_that_go_back.json
abbrev pub and_moments_that_go_back_document : List ℕ
and_moments_that_go_back_document =
    codes "{\"moments\":[2,1],\"version\":1,\"nodes\":[{\"name\":\"n\",\"groups\":[{\"name\":\"r\",\"kind\":\"reentrant\"}],\"timers" ++
    codes "\":[{\"name\":\"t\",\"period\":1,\"group\":\"r\",\"script\":[[\"log\",\"g0\"]]}]}]}" ++ 10 ∷
    []

-- cases/variables/in_on_goal.json
abbrev pub in_on_goal_document : List ℕ
in_on_goal_document =
    codes "{\"version\":1,\"nodes\":[{\"name\":\"n\",\"groups\":[{\"name\":\"r\",\"kind\":\"reentrant\"}],\"actions\":[{\"name\":\"a\"," ++
    codes "\"group\":\"r\",\"on_goal\":[[\"decide\",\"g0\"]]}]}]}" ++ 10 ∷
    []

-- cases/variables/of_two_groups.json
abbrev pub of_two_groups_document : List ℕ
of_two_groups_document =
    codes "{\"version\":1,\"nodes\":[{\"name\":\"n\",\"groups\":[{\"name\":\"g\",\"kind\":\"exclusive\"}],\"timers\":[{\"name\":\"a\",\"" ++
    codes "period\":1,\"script\":[[\"set\",\"g0\",\"add\",\"g0\",1],[\"log\",\"g0\"]]},{\"name\":\"b\",\"period\":1,\"group\":\"g\",\"scr" ++
    codes "ipt\":[[\"set\",\"g0\",\"add\",\"g0\",5],[\"log\",\"g0\"]]},{\"name\":\"c\",\"period\":1,\"group\":\"g\",\"script\":[[\"set\",\"" ++
    codes "g0\",\"mul\",\"g0\",2],[\"log\",\"g0\"]]}]}],\"moments\":[1,2]}" ++
    []

abbrev pub of_two_groups_transcript : List ℕ
of_two_groups_transcript =
    codes "round 1 1" ++ 10 ∷
    codes "run a timer 1 0" ++ 10 ∷
    codes "log a 1" ++ 10 ∷
    codes "run b timer 1 0" ++ 10 ∷
    codes "log b 5" ++ 10 ∷
    codes "run c timer 1 0" ++ 10 ∷
    codes "log c 10" ++ 10 ∷
    codes "round 2 2" ++ 10 ∷
    codes "run a timer 2 0" ++ 10 ∷
    codes "log a 2" ++ 10 ∷
    codes "run b timer 2 0" ++ 10 ∷
    codes "log b 15" ++ 10 ∷
    codes "run c timer 2 0" ++ 10 ∷
    codes "log c 30" ++ 10 ∷
    codes "end 2" ++ 10 ∷
    []

-- cases/variables/of_two_nodes.json
abbrev pub of_two_nodes_document : List ℕ
of_two_nodes_document =
    codes "{\"version\":1,\"nodes\":[{\"name\":\"a\",\"timers\":[{\"name\":\"x\",\"period\":1,\"script\":[[\"set\",\"g0\",\"add\",\"g0\"," ++
    codes "1],[\"log\",\"g0\"]]}]},{\"name\":\"b\",\"timers\":[{\"name\":\"y\",\"period\":1,\"script\":[[\"set\",\"g0\",\"add\",\"g0\",5]" ++
    codes ",[\"log\",\"g0\"]]}]}],\"moments\":[1,2]}" ++
    []

abbrev pub of_two_nodes_transcript : List ℕ
of_two_nodes_transcript =
    codes "round 1 1" ++ 10 ∷
    codes "run x timer 1 0" ++ 10 ∷
    codes "log x 1" ++ 10 ∷
    codes "run y timer 1 0" ++ 10 ∷
    codes "log y 5" ++ 10 ∷
    codes "round 2 2" ++ 10 ∷
    codes "run x timer 2 0" ++ 10 ∷
    codes "log x 2" ++ 10 ∷
    codes "run y timer 2 0" ++ 10 ∷
    codes "log y 10" ++ 10 ∷
    codes "end 2" ++ 10 ∷
    []

-- cases/variables/read_in_a_reentrant_group.json
abbrev pub read_in_a_reentrant_group_document : List ℕ
read_in_a_reentrant_group_document =
    codes "{\"version\":1,\"nodes\":[{\"name\":\"n\",\"groups\":[{\"name\":\"r\",\"kind\":\"reentrant\"}],\"timers\":[{\"name\":\"t\",\"" ++
    codes "period\":1,\"group\":\"r\",\"script\":[[\"log\",\"g0\"]]}]}]}" ++ 10 ∷
    []

-- cases/variables/written_in_a_reentrant_group.json
abbrev pub written_in_a_reentrant_group_document : List ℕ
written_in_a_reentrant_group_document =
    codes "{\"version\":1,\"nodes\":[{\"name\":\"n\",\"groups\":[{\"name\":\"r\",\"kind\":\"reentrant\"}],\"timers\":[{\"name\":\"t\",\"" ++
    codes "period\":1,\"group\":\"r\",\"script\":[[\"set\",\"g7\",\"add\",1,1]]}]}]}" ++ 10 ∷
    []
