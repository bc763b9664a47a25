-- Worked cases: scripts.
use Rattle.std.specs.Prelude.{ℕ, List, [], ◌∷◌, ◌++◌, codes}

-- cases/scripts/a_client_of_another_node.json
abbrev pub a_client_of_another_node_document : List ℕ
a_client_of_another_node_document =
    codes "{\"version\":1,\"nodes\":[{\"name\":\"n\",\"timers\":[{\"name\":\"t\",\"period\":1,\"script\":[[\"call\",\"c\",1]]}]},{\"na" ++
    codes "me\":\"m\",\"services\":[{\"name\":\"s\"}],\"clients\":[{\"name\":\"c\",\"service\":\"s\"}]}]}" ++ 10 ∷
    []

-- cases/scripts/a_destination_that_is_read_only.json
abbrev pub a_destination_that_is_read_only_document : List ℕ
a_destination_that_is_read_only_document =
    codes "{\"version\":1,\"nodes\":[{\"name\":\"n\",\"timers\":[{\"name\":\"t\",\"period\":1,\"script\":[[\"set\",\"in\",\"add\",1,1]]" ++
    codes "}]}]}" ++ 10 ∷
    []

-- cases/scripts/a_fault_behind_a_group_variable.json
abbrev pub a_fault_behind_a_group_variable_document : List ℕ
a_fault_behind_a_group_variable_document =
    codes "{\"version\":1,\"nodes\":[{\"name\":\"n\",\"groups\":[{\"name\":\"r\",\"kind\":\"reentrant\"}],\"timers\":[{\"name\":\"t\",\"" ++
    codes "period\":1,\"group\":\"r\",\"script\":[[\"log\",\"g0\"]]},{\"name\":\"u\",\"period\":1,\"script\":[[\"reply\",0]]}]}]}" ++ 10 ∷
    []

-- cases/scripts/a_form_of_cancel_that_is_none.json
abbrev pub a_form_of_cancel_that_is_none_document : List ℕ
a_form_of_cancel_that_is_none_document =
    codes "{\"version\":1,\"nodes\":[{\"name\":\"n\",\"actions\":[{\"name\":\"a\"}],\"action_clients\":[{\"name\":\"c\",\"action\":\"a" ++
    codes "\",\"on_code\":[[\"cancel\",\"c\",\"none\",1,2]]}]}]}" ++ 10 ∷
    []

-- cases/scripts/a_number_for_a_word.json
abbrev pub a_number_for_a_word_document : List ℕ
a_number_for_a_word_document =
    codes "{\"version\":1,\"nodes\":[{\"name\":\"n\",\"timers\":[{\"name\":\"t\",\"period\":1,\"script\":[[5]]}]}]}" ++ 10 ∷
    []

-- cases/scripts/a_register_8.json
abbrev pub a_register_8_document : List ℕ
a_register_8_document =
    codes "{\"version\":1,\"nodes\":[{\"name\":\"n\",\"timers\":[{\"name\":\"t\",\"period\":1,\"script\":[[\"log\",\"r8\"]]}]}]}" ++ 10 ∷
    []

-- cases/scripts/a_reply_of_a_timer.json
abbrev pub a_reply_of_a_timer_document : List ℕ
a_reply_of_a_timer_document =
    codes "{\"version\":1,\"nodes\":[{\"name\":\"n\",\"timers\":[{\"name\":\"t\",\"period\":1,\"script\":[[\"reply\",1]]}]}]}" ++ 10 ∷
    []

-- cases/scripts/a_skip_beyond_the_end.json
abbrev pub a_skip_beyond_the_end_document : List ℕ
a_skip_beyond_the_end_document =
    codes "{\"version\":1,\"nodes\":[{\"name\":\"n\",\"timers\":[{\"name\":\"t\",\"period\":1,\"script\":[[\"log\",1],[\"skip\",1,1]]" ++
    codes "}]}]}" ++ 10 ∷
    []

-- cases/scripts/a_skip_by_0.json
abbrev pub a_skip_by_0_document : List ℕ
a_skip_by_0_document =
    codes "{\"version\":1,\"nodes\":[{\"name\":\"n\",\"timers\":[{\"name\":\"t\",\"period\":1,\"script\":[[\"skip\",1,0],[\"log\",1]]" ++
    codes "}]}]}" ++ 10 ∷
    []

-- cases/scripts/a_skip_by_a_register.json
abbrev pub a_skip_by_a_register_document : List ℕ
a_skip_by_a_register_document =
    codes "{\"version\":1,\"nodes\":[{\"name\":\"n\",\"timers\":[{\"name\":\"t\",\"period\":1,\"script\":[[\"skip\",1,\"r0\"],[\"log\"," ++
    codes "1]]}]}]}" ++ 10 ∷
    []

-- cases/scripts/a_skip_to_the_end.json
abbrev pub a_skip_to_the_end_document : List ℕ
a_skip_to_the_end_document =
    codes "{\"version\":1,\"nodes\":[{\"name\":\"n\",\"timers\":[{\"name\":\"t\",\"period\":1,\"script\":[[\"skip\",1,1],[\"log\",1]]" ++
    codes "}]}]}" ++ 10 ∷
    []

abbrev pub a_skip_to_the_end_transcript : List ℕ
a_skip_to_the_end_transcript =
    codes "end 0" ++ 10 ∷
    []

-- cases/scripts/a_topic_that_is_not_there.json
abbrev pub a_topic_that_is_not_there_document : List ℕ
a_topic_that_is_not_there_document =
    codes "{\"version\":1,\"nodes\":[{\"name\":\"n\",\"timers\":[{\"name\":\"t\",\"period\":1,\"script\":[[\"pub\",\"x\",1]]}]}]}" ++ 10 ∷
    []

-- cases/scripts/a_word_in_capitals.json
abbrev pub a_word_in_capitals_document : List ℕ
a_word_in_capitals_document =
    codes "{\"version\":1,\"nodes\":[{\"name\":\"n\",\"timers\":[{\"name\":\"t\",\"period\":1,\"script\":[[\"Log\",1]]}]}]}" ++ 10 ∷
    []

-- cases/scripts/a_yield_of_a_timer.json
abbrev pub a_yield_of_a_timer_document : List ℕ
a_yield_of_a_timer_document =
    codes "{\"version\":1,\"nodes\":[{\"name\":\"n\",\"timers\":[{\"name\":\"t\",\"period\":1,\"script\":[[\"yield\"]]}]}]}" ++ 10 ∷
    []

-- cases/scripts/an_empty_instruction.json
abbrev pub an_empty_instruction_document : List ℕ
an_empty_instruction_document =
    codes "{\"version\":1,\"nodes\":[{\"name\":\"n\",\"timers\":[{\"name\":\"t\",\"period\":1,\"script\":[[]]}]}]}" ++ 10 ∷
    []

-- cases/scripts/an_operation_that_is_none.json
abbrev pub an_operation_that_is_none_document : List ℕ
an_operation_that_is_none_document =
    codes "{\"version\":1,\"nodes\":[{\"name\":\"n\",\"timers\":[{\"name\":\"t\",\"period\":1,\"script\":[[\"set\",\"r0\",\"div\",1,1]]" ++
    codes "}]}]}" ++ 10 ∷
    []

-- cases/scripts/comparisons.json
abbrev pub comparisons_document : List ℕ
comparisons_document =
    codes "{\"version\":1,\"nodes\":[{\"name\":\"n\",\"timers\":[{\"name\":\"t\",\"period\":1,\"script\":[[\"set\",\"r0\",\"min\",-5,3]" ++
    codes ",[\"log\",\"r0\"],[\"set\",\"r1\",\"max\",-5,\"aux\"],[\"log\",\"r1\"],[\"set\",\"r2\",\"lt\",-5,3],[\"log\",\"r2\"],[\"set\",\"r" ++
    codes "3\",\"lt\",3,3],[\"log\",\"r3\"],[\"set\",\"r4\",\"eq\",\"in\",1],[\"log\",\"r4\"],[\"set\",\"r5\",\"sub\",\"r0\",\"r4\"],[\"log\"," ++
    codes "\"r5\"],[\"set\",\"r6\",\"mul\",-9223372036854775808,-1],[\"log\",\"r6\"]]}]}],\"moments\":[1]}" ++
    []

abbrev pub comparisons_transcript : List ℕ
comparisons_transcript =
    codes "round 1 1" ++ 10 ∷
    codes "run t timer 1 0" ++ 10 ∷
    codes "log t -5" ++ 10 ∷
    codes "log t 0" ++ 10 ∷
    codes "log t 1" ++ 10 ∷
    codes "log t 0" ++ 10 ∷
    codes "log t 1" ++ 10 ∷
    codes "log t -6" ++ 10 ∷
    codes "log t -9223372036854775808" ++ 10 ∷
    codes "end 1" ++ 10 ∷
    []

-- cases/scripts/decide_in_a_goal.json
abbrev pub decide_in_a_goal_document : List ℕ
decide_in_a_goal_document =
    codes "{\"version\":1,\"nodes\":[{\"name\":\"n\",\"actions\":[{\"name\":\"a\",\"script\":[[\"decide\",2]]}]}],\"moments\":[],\"f" ++
    codes "eed\":[]}" ++ 10 ∷
    []

-- cases/scripts/execute_of_another_node.json
abbrev pub execute_of_another_node_document : List ℕ
execute_of_another_node_document =
    codes "{\"version\":1,\"nodes\":[{\"name\":\"n\",\"actions\":[{\"name\":\"a\"}]},{\"name\":\"m\",\"timers\":[{\"name\":\"t\",\"perio" ++
    codes "d\":1,\"script\":[[\"execute\",\"a\"]]}]}]}" ++ 10 ∷
    []

-- cases/scripts/pub_to_a_timer.json
abbrev pub pub_to_a_timer_document : List ℕ
pub_to_a_timer_document =
    codes "{\"version\":1,\"nodes\":[{\"name\":\"n\",\"timers\":[{\"name\":\"t\",\"period\":1,\"script\":[[\"pub\",\"t\",1]]}]}]}" ++
    []

-- cases/scripts/pub_to_an_unknown_topic.json
abbrev pub pub_to_an_unknown_topic_document : List ℕ
pub_to_an_unknown_topic_document =
    codes "{\"version\":1,\"nodes\":[{\"name\":\"n\",\"timers\":[{\"name\":\"t\",\"period\":1,\"script\":[[\"pub\",\"x\",1]]}]}],\"mom" ++
    codes "ents\":[]}" ++
    []

-- cases/scripts/results_at_the_edges.json
abbrev pub results_at_the_edges_document : List ℕ
results_at_the_edges_document =
    codes "{\"version\":1,\"nodes\":[{\"name\":\"n\",\"timers\":[{\"name\":\"t\",\"period\":1,\"script\":[[\"set\",\"r0\",\"add\",92233" ++
    codes "72036854775807,9223372036854775807],[\"log\",\"r0\"],[\"set\",\"r0\",\"add\",-9223372036854775808,-1],[\"log\",\"" ++
    codes "r0\"],[\"set\",\"r0\",\"add\",-9223372036854775808,1],[\"log\",\"r0\"],[\"set\",\"r0\",\"add\",0,0],[\"log\",\"r0\"],[\"se" ++
    codes "t\",\"r0\",\"sub\",9223372036854775807,9223372036854775807],[\"log\",\"r0\"],[\"set\",\"r0\",\"sub\",-9223372036854" ++
    codes "775808,-1],[\"log\",\"r0\"],[\"set\",\"r0\",\"sub\",-9223372036854775808,1],[\"log\",\"r0\"],[\"set\",\"r0\",\"sub\",0,0" ++
    codes "],[\"log\",\"r0\"],[\"set\",\"r0\",\"mul\",9223372036854775807,9223372036854775807],[\"log\",\"r0\"],[\"set\",\"r0\",\"" ++
    codes "mul\",-9223372036854775808,-1],[\"log\",\"r0\"],[\"set\",\"r0\",\"mul\",-9223372036854775808,1],[\"log\",\"r0\"],[\"" ++
    codes "set\",\"r0\",\"mul\",0,0],[\"log\",\"r0\"],[\"set\",\"r0\",\"min\",9223372036854775807,9223372036854775807],[\"log\"," ++
    codes "\"r0\"],[\"set\",\"r0\",\"min\",-9223372036854775808,-1],[\"log\",\"r0\"],[\"set\",\"r0\",\"min\",-9223372036854775808" ++
    codes ",1],[\"log\",\"r0\"],[\"set\",\"r0\",\"min\",0,0],[\"log\",\"r0\"],[\"set\",\"r0\",\"max\",9223372036854775807,922337203" ++
    codes "6854775807],[\"log\",\"r0\"],[\"set\",\"r0\",\"max\",-9223372036854775808,-1],[\"log\",\"r0\"],[\"set\",\"r0\",\"max\",-" ++
    codes "9223372036854775808,1],[\"log\",\"r0\"],[\"set\",\"r0\",\"max\",0,0],[\"log\",\"r0\"],[\"set\",\"r0\",\"lt\",92233720368" ++
    codes "54775807,9223372036854775807],[\"log\",\"r0\"],[\"set\",\"r0\",\"lt\",-9223372036854775808,-1],[\"log\",\"r0\"],[\"" ++
    codes "set\",\"r0\",\"lt\",-9223372036854775808,1],[\"log\",\"r0\"],[\"set\",\"r0\",\"lt\",0,0],[\"log\",\"r0\"],[\"set\",\"r0\",\"" ++
    codes "eq\",9223372036854775807,9223372036854775807],[\"log\",\"r0\"],[\"set\",\"r0\",\"eq\",-9223372036854775808,-1]," ++
    codes "[\"log\",\"r0\"],[\"set\",\"r0\",\"eq\",-9223372036854775808,1],[\"log\",\"r0\"],[\"set\",\"r0\",\"eq\",0,0],[\"log\",\"r0\"" ++
    codes "]]}]}],\"moments\":[1]}" ++ 10 ∷
    []

abbrev pub results_at_the_edges_transcript : List ℕ
results_at_the_edges_transcript =
    codes "round 1 1" ++ 10 ∷
    codes "run t timer 1 0" ++ 10 ∷
    codes "log t -2" ++ 10 ∷
    codes "log t 9223372036854775807" ++ 10 ∷
    codes "log t -9223372036854775807" ++ 10 ∷
    codes "log t 0" ++ 10 ∷
    codes "log t 0" ++ 10 ∷
    codes "log t -9223372036854775807" ++ 10 ∷
    codes "log t 9223372036854775807" ++ 10 ∷
    codes "log t 0" ++ 10 ∷
    codes "log t 1" ++ 10 ∷
    codes "log t -9223372036854775808" ++ 10 ∷
    codes "log t -9223372036854775808" ++ 10 ∷
    codes "log t 0" ++ 10 ∷
    codes "log t 9223372036854775807" ++ 10 ∷
    codes "log t -9223372036854775808" ++ 10 ∷
    codes "log t -9223372036854775808" ++ 10 ∷
    codes "log t 0" ++ 10 ∷
    codes "log t 9223372036854775807" ++ 10 ∷
    codes "log t -1" ++ 10 ∷
    codes "log t 1" ++ 10 ∷
    codes "log t 0" ++ 10 ∷
    codes "log t 0" ++ 10 ∷
    codes "log t 1" ++ 10 ∷
    codes "log t 1" ++ 10 ∷
    codes "log t 0" ++ 10 ∷
    codes "log t 1" ++ 10 ∷
    codes "log t 0" ++ 10 ∷
    codes "log t 0" ++ 10 ∷
    codes "log t 1" ++ 10 ∷
    codes "end 1" ++ 10 ∷
    []

-- cases/scripts/set_of_in.json
abbrev pub set_of_in_document : List ℕ
set_of_in_document =
    codes "{\"version\":1,\"nodes\":[{\"name\":\"n\",\"timers\":[{\"name\":\"t\",\"period\":1,\"script\":[[\"set\",\"in\",\"add\",1,2]]" ++
    codes "}]}]}" ++
    []

-- cases/scripts/skip_beyond_the_end.json
abbrev pub skip_beyond_the_end_document : List ℕ
skip_beyond_the_end_document =
    codes "{\"version\":1,\"nodes\":[{\"name\":\"n\",\"timers\":[{\"name\":\"t\",\"period\":1,\"script\":[[\"skip\",1,1]]}]}]}" ++
    []

-- cases/scripts/skips.json
abbrev pub skips_document : List ℕ
skips_document =
    codes "{\"version\":1,\"nodes\":[{\"name\":\"n\",\"timers\":[{\"name\":\"t\",\"period\":1,\"script\":[[\"skip\",0,1],[\"log\",1]," ++
    codes "[\"skip\",\"now\",2],[\"log\",2],[\"log\",3],[\"log\",4],[\"skip\",-1,1],[\"log\",5]]}]}],\"moments\":[1]}" ++
    []

abbrev pub skips_transcript : List ℕ
skips_transcript =
    codes "round 1 1" ++ 10 ∷
    codes "run t timer 1 0" ++ 10 ∷
    codes "log t 1" ++ 10 ∷
    codes "log t 4" ++ 10 ∷
    codes "end 1" ++ 10 ∷
    []

-- cases/scripts/too_few_items.json
abbrev pub too_few_items_document : List ℕ
too_few_items_document =
    codes "{\"version\":1,\"nodes\":[{\"name\":\"n\",\"timers\":[{\"name\":\"t\",\"period\":1,\"script\":[[\"log\"]]}]}]}" ++ 10 ∷
    []

-- cases/scripts/too_many_items.json
abbrev pub too_many_items_document : List ℕ
too_many_items_document =
    codes "{\"version\":1,\"nodes\":[{\"name\":\"n\",\"timers\":[{\"name\":\"t\",\"period\":1,\"script\":[[\"log\",1,2]]}]}]}" ++ 10 ∷
    []

-- cases/scripts/unknown_operation.json
abbrev pub unknown_operation_document : List ℕ
unknown_operation_document =
    codes "{\"version\":1,\"nodes\":[{\"name\":\"n\",\"timers\":[{\"name\":\"t\",\"period\":1,\"script\":[[\"set\",\"r0\",\"div\",1,2]]" ++
    codes "}]}]}" ++
    []

-- cases/scripts/unknown_word.json
abbrev pub unknown_word_document : List ℕ
unknown_word_document =
    codes "{\"version\":1,\"nodes\":[{\"name\":\"n\",\"timers\":[{\"name\":\"t\",\"period\":1,\"script\":[[\"halt\"]]}]}]}" ++
    []
