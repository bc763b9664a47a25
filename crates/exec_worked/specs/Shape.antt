-- Worked cases: shape.
use Rattle.std.specs.Prelude.{ℕ, List, [], ◌∷◌, ◌++◌, codes}

-- cases/shape/a_fraction_in_an_instruction.json
abbrev pub a_fraction_in_an_instruction_document : List ℕ
a_fraction_in_an_instruction_document =
    codes "{\"version\":1,\"nodes\":[{\"name\":\"n\",\"timers\":[{\"name\":\"t\",\"period\":1,\"script\":[[\"log\",1.5]]}]}]}" ++ 10 ∷
    []

-- cases/shape/a_goal_request_without_an_action.json
abbrev pub a_goal_request_without_an_action_document : List ℕ
a_goal_request_without_an_action_document =
    codes "{\"version\":1,\"topics\":[\"x\"],\"nodes\":[{\"name\":\"n\",\"actions\":[{\"name\":\"a\"}]}],\"moments\":[1,2],\"feed\":[" ++
    codes "{\"round\":1,\"value\":1,\"goal\":\"00000000-0000-0000-0000-000000000001\"}]}" ++ 10 ∷
    []

-- cases/shape/a_kind_of_group_that_is_none.json
abbrev pub a_kind_of_group_that_is_none_document : List ℕ
a_kind_of_group_that_is_none_document =
    codes "{\"version\":1,\"nodes\":[{\"name\":\"n\",\"groups\":[{\"name\":\"g\",\"kind\":\"both\"}]}]}" ++ 10 ∷
    []

-- cases/shape/a_list.json
abbrev pub a_list_document : List ℕ
a_list_document =
    codes "[]" ++ 10 ∷
    []

-- cases/shape/a_message_without_a_value.json
abbrev pub a_message_without_a_value_document : List ℕ
a_message_without_a_value_document =
    codes "{\"version\":1,\"topics\":[\"x\"],\"nodes\":[{\"name\":\"n\",\"actions\":[{\"name\":\"a\"}]}],\"moments\":[1,2],\"feed\":[" ++
    codes "{\"round\":1,\"topic\":\"x\"}]}" ++ 10 ∷
    []

-- cases/shape/a_moment_below_0.json
abbrev pub a_moment_below_0_document : List ℕ
a_moment_below_0_document =
    codes "{\"version\":1,\"moments\":[-1]}" ++ 10 ∷
    []

-- cases/shape/a_moment_beyond_64_bits.json
abbrev pub a_moment_beyond_64_bits_document : List ℕ
a_moment_beyond_64_bits_document =
    codes "{\"version\":1,\"moments\":[18446744073709551616]}" ++ 10 ∷
    []

-- cases/shape/a_moment_of_minus_0.json
abbrev pub a_moment_of_minus_0_document : List ℕ
a_moment_of_minus_0_document =
    codes "{\"version\":1,\"moments\":[-0]}" ++ 10 ∷
    []

-- cases/shape/a_moment_of_null_and_version_3.json
abbrev pub a_moment_of_null_and_version_3_document : List ℕ
a_moment_of_null_and_version_3_document =
    codes "{\"version\":3,\"moments\":[null]}" ++ 10 ∷
    []

-- cases/shape/a_node_without_a_name.json
abbrev pub a_node_without_a_name_document : List ℕ
a_node_without_a_name_document =
    codes "{\"version\":1,\"nodes\":[{}]}" ++ 10 ∷
    []

-- cases/shape/a_timer_without_a_period.json
abbrev pub a_timer_without_a_period_document : List ℕ
a_timer_without_a_period_document =
    codes "{\"version\":1,\"nodes\":[{\"name\":\"n\",\"timers\":[{\"name\":\"t\"}]}]}" ++ 10 ∷
    []

-- cases/shape/a_topic_that_is_a_number.json
abbrev pub a_topic_that_is_a_number_document : List ℕ
a_topic_that_is_a_number_document =
    codes "{\"version\":1,\"topics\":[1]}" ++ 10 ∷
    []

-- cases/shape/a_value_beyond_64_bits.json
abbrev pub a_value_beyond_64_bits_document : List ℕ
a_value_beyond_64_bits_document =
    codes "{\"version\":1,\"nodes\":[{\"name\":\"n\",\"timers\":[{\"name\":\"t\",\"period\":1,\"script\":[[\"log\",9223372036854775" ++
    codes "808]]}]}]}" ++ 10 ∷
    []

-- cases/shape/a_version_in_quotes.json
abbrev pub a_version_in_quotes_document : List ℕ
a_version_in_quotes_document =
    codes "{\"version\":\"1\"}" ++ 10 ∷
    []

-- cases/shape/a_version_with_a_fraction.json
abbrev pub a_version_with_a_fraction_document : List ℕ
a_version_with_a_fraction_document =
    codes "{\"version\":1.0}" ++ 10 ∷
    []

-- cases/shape/an_entry_of_a_topic_and_a_goal_of_null.json
abbrev pub an_entry_of_a_topic_and_a_goal_of_null_document : List ℕ
an_entry_of_a_topic_and_a_goal_of_null_document =
    codes "{\"version\":1,\"feed\":[{\"round\":1,\"topic\":\"x\",\"goal\":null,\"value\":1}]}" ++ 10 ∷
    []

-- cases/shape/an_entry_of_a_topic_of_null.json
abbrev pub an_entry_of_a_topic_of_null_document : List ℕ
an_entry_of_a_topic_of_null_document =
    codes "{\"version\":1,\"feed\":[{\"round\":1,\"topic\":null,\"value\":1}]}" ++ 10 ∷
    []

-- cases/shape/an_entry_of_two_forms.json
abbrev pub an_entry_of_two_forms_document : List ℕ
an_entry_of_two_forms_document =
    codes "{\"version\":1,\"topics\":[\"x\"],\"nodes\":[{\"name\":\"n\",\"actions\":[{\"name\":\"a\"}]}],\"moments\":[1,2],\"feed\":[" ++
    codes "{\"round\":1,\"topic\":\"x\",\"value\":1,\"goal\":\"00000000-0000-0000-0000-000000000001\"}]}" ++ 10 ∷
    []

-- cases/shape/an_entry_that_feeds_nothing.json
abbrev pub an_entry_that_feeds_nothing_document : List ℕ
an_entry_that_feeds_nothing_document =
    codes "{\"version\":1,\"topics\":[\"x\"],\"nodes\":[{\"name\":\"n\",\"actions\":[{\"name\":\"a\"}]}],\"moments\":[1,2],\"feed\":[" ++
    codes "{\"round\":1,\"value\":1}]}" ++ 10 ∷
    []

-- cases/shape/an_instruction_that_is_a_text.json
abbrev pub an_instruction_that_is_a_text_document : List ℕ
an_instruction_that_is_a_text_document =
    codes "{\"version\":1,\"nodes\":[{\"name\":\"n\",\"timers\":[{\"name\":\"t\",\"period\":1,\"script\":[\"log\"]}]}]}" ++ 10 ∷
    []

-- cases/shape/boolean_in_an_instruction.json
abbrev pub boolean_in_an_instruction_document : List ℕ
boolean_in_an_instruction_document =
    codes "{\"version\":1,\"nodes\":[{\"name\":\"n\",\"timers\":[{\"name\":\"t\",\"period\":1,\"script\":[[\"log\",true]]}]}]}" ++
    []

-- cases/shape/empty_lists_and_unknown_fields.json
abbrev pub empty_lists_and_unknown_fields_document : List ℕ
empty_lists_and_unknown_fields_document =
    codes "{\"version\":1,\"topics\":[],\"feed\":[],\"nodes\":[{\"name\":\"n\",\"group\":5,\"groups\":[],\"timers\":[],\"subscript" ++
    codes "ions\":[],\"services\":[],\"clients\":[],\"actions\":[],\"action_clients\":[]}],\"moments\":[],\"more\":{\"a\":[nul" ++
    codes "l]}}" ++
    []

abbrev pub empty_lists_and_unknown_fields_transcript : List ℕ
empty_lists_and_unknown_fields_transcript =
    codes "end 0" ++ 10 ∷
    []

-- cases/shape/feed_entry_as_number.json
abbrev pub feed_entry_as_number_document : List ℕ
feed_entry_as_number_document =
    codes "{\"version\":1,\"feed\":[5]}" ++
    []

-- cases/shape/feed_null.json
abbrev pub feed_null_document : List ℕ
feed_null_document =
    codes "{\"version\":1,\"feed\":null}" ++
    []

-- cases/shape/group_of_another_kind.json
abbrev pub group_of_another_kind_document : List ℕ
group_of_another_kind_document =
    codes "{\"version\":1,\"nodes\":[{\"name\":\"n\",\"groups\":[{\"name\":\"g\",\"kind\":\"shared\"}]}]}" ++
    []

-- cases/shape/groups_null.json
abbrev pub groups_null_document : List ℕ
groups_null_document =
    codes "{\"version\":1,\"nodes\":[{\"name\":\"n\",\"groups\":null}]}" ++
    []

-- cases/shape/ignored_fields.json
abbrev pub ignored_fields_document : List ℕ
ignored_fields_document =
    codes "{\"version\":1,\"order\":null,\"nodes\":[{\"name\":\"n\",\"group\":5,\"timers\":[{\"name\":\"t\",\"period\":1,\"depth\":\"d" ++
    codes "eep\",\"on_goal\":7}]}]}" ++ 10 ∷
    []

abbrev pub ignored_fields_transcript : List ℕ
ignored_fields_transcript =
    codes "end 0" ++ 10 ∷
    []

-- cases/shape/instruction_as_number.json
abbrev pub instruction_as_number_document : List ℕ
instruction_as_number_document =
    codes "{\"version\":1,\"nodes\":[{\"name\":\"n\",\"timers\":[{\"name\":\"t\",\"period\":1,\"script\":[5]}]}]}" ++
    []

-- cases/shape/instruction_null.json
abbrev pub instruction_null_document : List ℕ
instruction_null_document =
    codes "{\"version\":1,\"nodes\":[{\"name\":\"n\",\"timers\":[{\"name\":\"t\",\"period\":1,\"script\":[null]}]}]}" ++
    []

-- cases/shape/minus_0_as_the_version.json
abbrev pub minus_0_as_the_version_document : List ℕ
minus_0_as_the_version_document =
    codes "{\"version\":-0}" ++ 10 ∷
    []

-- cases/shape/moment_as_text.json
abbrev pub moment_as_text_document : List ℕ
moment_as_text_document =
    codes "{\"version\":1,\"moments\":[\"1\"]}" ++
    []

-- cases/shape/moment_null.json
abbrev pub moment_null_document : List ℕ
moment_null_document =
    codes "{\"version\":1,\"moments\":[null]}" ++
    []

-- cases/shape/moment_with_fraction.json
abbrev pub moment_with_fraction_document : List ℕ
moment_with_fraction_document =
    codes "{\"version\":1,\"moments\":[1.5]}" ++
    []

-- cases/shape/moments_as_object.json
abbrev pub moments_as_object_document : List ℕ
moments_as_object_document =
    codes "{\"version\":1,\"moments\":{}}" ++
    []

-- cases/shape/moments_null.json
abbrev pub moments_null_document : List ℕ
moments_null_document =
    codes "{\"version\":1,\"moments\":null}" ++
    []

-- cases/shape/node_as_number.json
abbrev pub node_as_number_document : List ℕ
node_as_number_document =
    codes "{\"version\":1,\"nodes\":[5]}" ++
    []

-- cases/shape/node_name_as_number.json
abbrev pub node_name_as_number_document : List ℕ
node_name_as_number_document =
    codes "{\"version\":1,\"nodes\":[{\"name\":5}]}" ++
    []

-- cases/shape/node_name_null.json
abbrev pub node_name_null_document : List ℕ
node_name_null_document =
    codes "{\"version\":1,\"nodes\":[{\"name\":null}]}" ++
    []

-- cases/shape/nodes_as_object.json
abbrev pub nodes_as_object_document : List ℕ
nodes_as_object_document =
    codes "{\"version\":1,\"nodes\":{}}" ++
    []

-- cases/shape/nodes_null.json
abbrev pub nodes_null_document : List ℕ
nodes_null_document =
    codes "{\"version\":1,\"nodes\":null}" ++
    []

-- cases/shape/null.json
abbrev pub null_document : List ℕ
null_document =
    codes "null" ++
    []

-- cases/shape/null_beside_a_topic.json
abbrev pub null_beside_a_topic_document : List ℕ
null_beside_a_topic_document =
    codes "{\"version\":1,\"topics\":[\"x\"],\"nodes\":[{\"name\":\"n\",\"actions\":[{\"name\":\"a\"}]}],\"moments\":[1,2],\"feed\":[" ++
    codes "{\"round\":1,\"topic\":\"x\",\"value\":1,\"cancel\":null}]}" ++ 10 ∷
    []

-- cases/shape/null_for_a_group.json
abbrev pub null_for_a_group_document : List ℕ
null_for_a_group_document =
    codes "{\"version\":1,\"nodes\":[{\"name\":\"n\",\"services\":[{\"name\":\"s\",\"group\":null}]}]}" ++ 10 ∷
    []

-- cases/shape/null_for_a_script.json
abbrev pub null_for_a_script_document : List ℕ
null_for_a_script_document =
    codes "{\"version\":1,\"nodes\":[{\"name\":\"n\",\"timers\":[{\"name\":\"t\",\"period\":1,\"script\":null}]}]}" ++ 10 ∷
    []

-- cases/shape/null_for_topics.json
abbrev pub null_for_topics_document : List ℕ
null_for_topics_document =
    codes "{\"version\":1,\"topics\":null}" ++ 10 ∷
    []

-- cases/shape/null_in_an_instruction.json
abbrev pub null_in_an_instruction_document : List ℕ
null_in_an_instruction_document =
    codes "{\"version\":1,\"nodes\":[{\"name\":\"n\",\"timers\":[{\"name\":\"t\",\"period\":1,\"script\":[[\"log\",null]]}]}]}" ++ 10 ∷
    []

-- cases/shape/number.json
abbrev pub number_document : List ℕ
number_document =
    codes "5" ++
    []

-- cases/shape/one_of_each_object.json
abbrev pub one_of_each_object_document : List ℕ
one_of_each_object_document =
    codes "{\"version\":2,\"order\":\"arrival\",\"topics\":[\"x\"],\"depth\":1e3,\"nodes\":[{\"name\":\"n\",\"topics\":[],\"groups\":" ++
    codes "[{\"name\":\"g\",\"kind\":\"reentrant\",\"period\":-0}],\"timers\":[{\"name\":\"t\",\"period\":1,\"group\":\"g\",\"depth\":0" ++
    codes ".5}],\"subscriptions\":[{\"name\":\"s\",\"topic\":\"x\",\"depth\":2,\"period\":null}],\"services\":[{\"name\":\"v\",\"scr" ++
    codes "ipt\":[],\"topic\":7}],\"clients\":[{\"name\":\"c\",\"service\":\"v\",\"action\":{}}],\"actions\":[{\"name\":\"a\",\"resul" ++
    codes "t_timeout\":5,\"on_goal\":[[\"decide\",2]],\"on_result\":true}],\"action_clients\":[{\"name\":\"k\",\"action\":\"a\"," ++
    codes "\"on_result\":[],\"script\":1}]}],\"moments\":[1],\"feed\":[{\"round\":1,\"topic\":\"x\",\"value\":-3,\"action\":[],\"s" ++
    codes "tamp\":4},{\"round\":1,\"action\":\"a\",\"goal\":\"00000000-0000-0000-0000-00000000000A\",\"value\":5,\"stamp\":nul" ++
    codes "l},{\"round\":1,\"action\":\"a\",\"cancel\":\"00000000-0000-0000-0000-000000000000\",\"stamp\":6,\"value\":\"\"}]}" ++ 10 ∷
    []

abbrev pub one_of_each_object_transcript : List ℕ
one_of_each_object_transcript =
    codes "round 1 1" ++ 10 ∷
    codes "run t timer 1 0" ++ 10 ∷
    codes "run s message -3 0" ++ 10 ∷
    codes "run a goal 5 0 00000000-0000-0000-0000-00000000000a" ++ 10 ∷
    codes "decide a 00000000-0000-0000-0000-00000000000a 2" ++ 10 ∷
    codes "state a 00000000-0000-0000-0000-00000000000a 1" ++ 10 ∷
    codes "state a 00000000-0000-0000-0000-00000000000a 2" ++ 10 ∷
    codes "run a cancel 6 0 00000000-0000-0000-0000-000000000000" ++ 10 ∷
    codes "code a 1 0" ++ 10 ∷
    codes "end 1" ++ 10 ∷
    []

-- cases/shape/period_as_text.json
abbrev pub period_as_text_document : List ℕ
period_as_text_document =
    codes "{\"version\":1,\"nodes\":[{\"name\":\"n\",\"timers\":[{\"name\":\"t\",\"period\":\"1\"}]}]}" ++
    []

-- cases/shape/period_below_0.json
abbrev pub period_below_0_document : List ℕ
period_below_0_document =
    codes "{\"version\":1,\"nodes\":[{\"name\":\"n\",\"timers\":[{\"name\":\"t\",\"period\":-1}]}]}" ++
    []

-- cases/shape/period_beyond_64_bits.json
abbrev pub period_beyond_64_bits_document : List ℕ
period_beyond_64_bits_document =
    codes "{\"version\":1,\"nodes\":[{\"name\":\"n\",\"timers\":[{\"name\":\"t\",\"period\":18446744073709551616}]}]}" ++
    []

-- cases/shape/period_null.json
abbrev pub period_null_document : List ℕ
period_null_document =
    codes "{\"version\":1,\"nodes\":[{\"name\":\"n\",\"timers\":[{\"name\":\"t\",\"period\":null}]}]}" ++
    []

-- cases/shape/period_with_fraction.json
abbrev pub period_with_fraction_document : List ℕ
period_with_fraction_document =
    codes "{\"version\":1,\"nodes\":[{\"name\":\"n\",\"timers\":[{\"name\":\"t\",\"period\":1.5}]}]}" ++
    []

-- cases/shape/script_as_object.json
abbrev pub script_as_object_document : List ℕ
script_as_object_document =
    codes "{\"version\":1,\"nodes\":[{\"name\":\"n\",\"timers\":[{\"name\":\"t\",\"period\":1,\"script\":{}}]}]}" ++
    []

-- cases/shape/text.json
abbrev pub text_document : List ℕ
text_document =
    codes "\"x\"" ++
    []

-- cases/shape/timer_as_number.json
abbrev pub timer_as_number_document : List ℕ
timer_as_number_document =
    codes "{\"version\":1,\"nodes\":[{\"name\":\"n\",\"timers\":[5]}]}" ++
    []

-- cases/shape/timer_without_name.json
abbrev pub timer_without_name_document : List ℕ
timer_without_name_document =
    codes "{\"version\":1,\"nodes\":[{\"name\":\"n\",\"timers\":[{\"period\":1}]}]}" ++
    []

-- cases/shape/timer_without_name_and_period.json
abbrev pub timer_without_name_and_period_document : List ℕ
timer_without_name_and_period_document =
    codes "{\"version\":1,\"nodes\":[{\"name\":\"n\",\"timers\":[{}]}]}" ++
    []

-- cases/shape/timers_as_object.json
abbrev pub timers_as_object_document : List ℕ
timers_as_object_document =
    codes "{\"version\":1,\"nodes\":[{\"name\":\"n\",\"timers\":{}}]}" ++
    []

-- cases/shape/timers_null.json
abbrev pub timers_null_document : List ℕ
timers_null_document =
    codes "{\"version\":1,\"nodes\":[{\"name\":\"n\",\"timers\":null}]}" ++
    []

-- cases/shape/unknown_fields_of_all_objects.json
abbrev pub unknown_fields_of_all_objects_document : List ℕ
unknown_fields_of_all_objects_document =
    codes "{\"version\":2,\"order\":null,\"version\":1,\"nodes\":[{\"name\":\"n\",\"group\":7,\"depth\":1.5,\"timers\":[{\"name\":\"" ++
    codes "t\",\"period\":1,\"depth\":-0,\"topic\":{}}]}],\"moments\":[1],\"topics\":[\"x\"],\"feed\":[{\"round\":1,\"topic\":\"x\"," ++
    codes "\"value\":-9223372036854775808,\"action\":null,\"stamp\":[]}]}" ++ 10 ∷
    []

abbrev pub unknown_fields_of_all_objects_transcript : List ℕ
unknown_fields_of_all_objects_transcript =
    codes "round 1 1" ++ 10 ∷
    codes "run t timer 1 0" ++ 10 ∷
    codes "end 1" ++ 10 ∷
    []

-- cases/shape/version_as_list.json
abbrev pub version_as_list_document : List ℕ
version_as_list_document =
    codes "{\"version\":[1]}" ++
    []

-- cases/shape/version_below_0.json
abbrev pub version_below_0_document : List ℕ
version_below_0_document =
    codes "{\"version\":-1}" ++
    []

-- cases/shape/version_null.json
abbrev pub version_null_document : List ℕ
version_null_document =
    codes "{\"version\":null}" ++
    []

-- cases/shape/without_version.json
abbrev pub without_version_document : List ℕ
without_version_document =
    codes "{}" ++
    []
