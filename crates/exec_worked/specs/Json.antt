-- Worked cases: json.
use Rattle.std.specs.Prelude.{ℕ, List, [], ◌∷◌, ◌++◌, codes}

-- cases/json/127_levels.json
abbrev pub json_127_levels_document : List ℕ
json_127_levels_document =
    codes "{\"version\":1,\"x\":[[[[[[[[[[[[[[[[[[[[[[[[[[[[[[[[[[[[[[[[[[[[[[[[[[[[[[[[[[[[[[[[[[[[[[[[[[[[[[[[[[[" ++
    codes "[[[[[[[[[[[[[[[[[[[[[[[[[[[[[[[[[[[[[[[[[[[]]]]]]]]]]]]]]]]]]]]]]]]]]]]]]]]]]]]]]]]]]]]]]]]]]]]]]]]]" ++
    codes "]]]]]]]]]]]]]]]]]]]]]]]]]]]]]]]]]]]]]]]]]]]]]]]]]]]]]]]]]]]]]]]]]]]]]}" ++
    []

abbrev pub json_127_levels_transcript : List ℕ
json_127_levels_transcript =
    codes "end 0" ++ 10 ∷
    []

-- cases/json/128_levels.json
abbrev pub json_128_levels_document : List ℕ
json_128_levels_document =
    codes "{\"version\":1,\"x\":[[[[[[[[[[[[[[[[[[[[[[[[[[[[[[[[[[[[[[[[[[[[[[[[[[[[[[[[[[[[[[[[[[[[[[[[[[[[[[[[[[[" ++
    codes "[[[[[[[[[[[[[[[[[[[[[[[[[[[[[[[[[[[[[[[[[[[[]]]]]]]]]]]]]]]]]]]]]]]]]]]]]]]]]]]]]]]]]]]]]]]]]]]]]]]]" ++
    codes "]]]]]]]]]]]]]]]]]]]]]]]]]]]]]]]]]]]]]]]]]]]]]]]]]]]]]]]]]]]]]]]]]]]]]]]}" ++
    []

-- cases/json/a_brace_too_many.json
abbrev pub a_brace_too_many_document : List ℕ
a_brace_too_many_document =
    codes "{\"version\":1}}" ++
    []

-- cases/json/a_byte_255_in_a_name.json
abbrev pub a_byte_255_in_a_name_document : List ℕ
a_byte_255_in_a_name_document =
    codes "{\"version\":1,\"nodes\":[{\"name\":\"n" ++
    255 ∷
    codes "\"}]}" ++ 10 ∷
    []

-- cases/json/a_byte_order_mark.json
abbrev pub a_byte_order_mark_document : List ℕ
a_byte_order_mark_document =
    239 ∷
    187 ∷
    191 ∷
    codes "{\"version\":1}" ++
    []

-- cases/json/a_comma_at_the_end.json
abbrev pub a_comma_at_the_end_document : List ℕ
a_comma_at_the_end_document =
    codes "{\"version\":1,}" ++
    []

-- cases/json/a_comment.json
abbrev pub a_comment_document : List ℕ
a_comment_document =
    codes "// one" ++ 10 ∷
    codes "{\"version\":1}" ++
    []

-- cases/json/a_line_feed_in_a_text.json
abbrev pub a_line_feed_in_a_text_document : List ℕ
a_line_feed_in_a_text_document =
    codes "{\"version\":1,\"x\":\"a" ++ 10 ∷
    codes "b\"}" ++
    []

-- cases/json/a_number_beyond_floats.json
abbrev pub a_number_beyond_floats_document : List ℕ
a_number_beyond_floats_document =
    codes "{\"version\":1,\"x\":1e400}" ++
    []

-- cases/json/a_number_that_begins_with_0.json
abbrev pub a_number_that_begins_with_0_document : List ℕ
a_number_that_begins_with_0_document =
    codes "{\"version\":01}" ++
    []

-- cases/json/bytes_that_are_no_text.json
abbrev pub bytes_that_are_no_text_document : List ℕ
bytes_that_are_no_text_document =
    codes "{\"version\":1,\"x\":\"" ++
    255 ∷
    codes "\"}" ++
    []

-- cases/json/cut_off.json
abbrev pub cut_off_document : List ℕ
cut_off_document =
    codes "{\"version\":1" ++
    []

-- cases/json/deep_lists_in_an_unknown_field.json
abbrev pub deep_lists_in_an_unknown_field_document : List ℕ
deep_lists_in_an_unknown_field_document =
    codes "{\"version\":1,\"x\":[[[[[[[[[[[[[[[[[[[[[[[[[[[[[[[[[[[[[[[[[[[[[[[[[[[[[[[[[[[[[[[[[[[[[[[[[[[[[[[[[[[" ++
    codes "[[[[[[[[[[[[[[[[[[[[[[[[[[[[[[[[[[[[[[[[[[[[[[[[[[[[[[[[[[[[[[[[[[[[[[[[[[[[[[[[[[[[[[[[[[[[[[[[[[[[" ++
    codes "[[[[[[[[[[[[[[[[[]]]]]]]]]]]]]]]]]]]]]]]]]]]]]]]]]]]]]]]]]]]]]]]]]]]]]]]]]]]]]]]]]]]]]]]]]]]]]]]]]]]" ++
    codes "]]]]]]]]]]]]]]]]]]]]]]]]]]]]]]]]]]]]]]]]]]]]]]]]]]]]]]]]]]]]]]]]]]]]]]]]]]]]]]]]]]]]]]]]]]]]]]]]]]]]" ++
    codes "]]]]]]]]]]]]]]]]]}" ++
    []

-- cases/json/half_of_a_surrogate_pair.json
abbrev pub half_of_a_surrogate_pair_document : List ℕ
half_of_a_surrogate_pair_document =
    codes "{\"version\":1,\"x\":\"\\ud800\"}" ++
    []

-- cases/json/nothing.json
abbrev pub nothing_document : List ℕ
nothing_document =
    []

-- cases/json/single_quotes.json
abbrev pub single_quotes_document : List ℕ
single_quotes_document =
    codes "{'version':1}" ++
    []

-- cases/json/spaces_round_it.json
abbrev pub spaces_round_it_document : List ℕ
spaces_round_it_document =
    codes " " ++
    9 ∷
    13 ∷
    10 ∷
    codes "{ \"version\" : 1 } " ++ 10 ∷
    []

abbrev pub spaces_round_it_transcript : List ℕ
spaces_round_it_transcript =
    codes "end 0" ++ 10 ∷
    []

-- cases/json/the_last_of_two_versions.json
abbrev pub the_last_of_two_versions_document : List ℕ
the_last_of_two_versions_document =
    codes "{\"version\":2,\"version\":1}" ++
    []

abbrev pub the_last_of_two_versions_transcript : List ℕ
the_last_of_two_versions_transcript =
    codes "end 0" ++ 10 ∷
    []

-- cases/json/two_documents.json
abbrev pub two_documents_document : List ℕ
two_documents_document =
    codes "{\"version\":1}{\"version\":1}" ++
    []

-- cases/json/with_text_behind_it.json
abbrev pub with_text_behind_it_document : List ℕ
with_text_behind_it_document =
    codes "{\"version\":1}x" ++
    []
