-- Worked cases: ids.
use Rattle.std.specs.Prelude.{ℕ, List, [], ◌∷◌, ◌++◌, codes}

-- cases/ids/32_digits_in_braces.json
abbrev pub ids_32_digits_in_braces_document : List ℕ
ids_32_digits_in_braces_document =
    codes "{\"version\":1,\"topics\":[\"x\"],\"nodes\":[{\"name\":\"n\",\"actions\":[{\"name\":\"a\"}]}],\"moments\":[1,2],\"feed\":[" ++
    codes "{\"round\":1,\"action\":\"a\",\"value\":5,\"goal\":\"{00000000000000000000000000000001}\"}]}" ++ 10 ∷
    []

-- cases/ids/a_cancel_of_zeros.json
abbrev pub a_cancel_of_zeros_document : List ℕ
a_cancel_of_zeros_document =
    codes "{\"version\":1,\"nodes\":[{\"name\":\"n\",\"actions\":[{\"name\":\"a\"}]}],\"moments\":[10],\"feed\":[{\"round\":1,\"acti" ++
    codes "on\":\"a\",\"cancel\":\"00000000-0000-0000-0000-000000000000\"}]}" ++ 10 ∷
    []

abbrev pub a_cancel_of_zeros_transcript : List ℕ
a_cancel_of_zeros_transcript =
    codes "round 1 10" ++ 10 ∷
    codes "run a cancel 0 0 00000000-0000-0000-0000-000000000000" ++ 10 ∷
    codes "code a 1 0" ++ 10 ∷
    codes "end 1" ++ 10 ∷
    []

-- cases/ids/a_goal_of_zeros.json
abbrev pub a_goal_of_zeros_document : List ℕ
a_goal_of_zeros_document =
    codes "{\"version\":1,\"topics\":[\"x\"],\"nodes\":[{\"name\":\"n\",\"actions\":[{\"name\":\"a\"}]}],\"moments\":[1,2],\"feed\":[" ++
    codes "{\"round\":1,\"action\":\"a\",\"value\":5,\"goal\":\"00000000-0000-0000-0000-000000000000\"}]}" ++ 10 ∷
    []

-- cases/ids/a_goal_of_zeros_behind_the_prefix.json
abbrev pub a_goal_of_zeros_behind_the_prefix_document : List ℕ
a_goal_of_zeros_behind_the_prefix_document =
    codes "{\"version\":1,\"nodes\":[{\"name\":\"n\",\"actions\":[{\"name\":\"a\"}]}],\"moments\":[10],\"feed\":[{\"round\":1,\"acti" ++
    codes "on\":\"a\",\"goal\":\"urn:uuid:00000000-0000-0000-0000-000000000000\",\"value\":1}]}" ++ 10 ∷
    []

-- cases/ids/a_goal_of_zeros_in_braces.json
abbrev pub a_goal_of_zeros_in_braces_document : List ℕ
a_goal_of_zeros_in_braces_document =
    codes "{\"version\":1,\"topics\":[\"x\"],\"nodes\":[{\"name\":\"n\",\"actions\":[{\"name\":\"a\"}]}],\"moments\":[1,2],\"feed\":[" ++
    codes "{\"round\":1,\"action\":\"a\",\"value\":5,\"goal\":\"{00000000-0000-0000-0000-000000000000}\"}]}" ++ 10 ∷
    []

-- cases/ids/a_hyphen_in_another_place.json
abbrev pub a_hyphen_in_another_place_document : List ℕ
a_hyphen_in_another_place_document =
    codes "{\"version\":1,\"topics\":[\"x\"],\"nodes\":[{\"name\":\"n\",\"actions\":[{\"name\":\"a\"}]}],\"moments\":[1,2],\"feed\":[" ++
    codes "{\"round\":1,\"action\":\"a\",\"cancel\":\"0000000-00000-0000-0000-000000000001\"}]}" ++ 10 ∷
    []

-- cases/ids/a_prefix_before_32_digits.json
abbrev pub a_prefix_before_32_digits_document : List ℕ
a_prefix_before_32_digits_document =
    codes "{\"version\":1,\"topics\":[\"x\"],\"nodes\":[{\"name\":\"n\",\"actions\":[{\"name\":\"a\"}]}],\"moments\":[1,2],\"feed\":[" ++
    codes "{\"round\":1,\"action\":\"a\",\"cancel\":\"urn:uuid:00000000000000000000000000000001\"}]}" ++ 10 ∷
    []

-- cases/ids/a_text_that_is_none.json
abbrev pub a_text_that_is_none_document : List ℕ
a_text_that_is_none_document =
    codes "{\"version\":1,\"topics\":[\"x\"],\"nodes\":[{\"name\":\"n\",\"actions\":[{\"name\":\"a\"}]}],\"moments\":[1,2],\"feed\":[" ++
    codes "{\"round\":1,\"action\":\"a\",\"goal\":\"1\",\"value\":5}]}" ++ 10 ∷
    []

-- cases/ids/an_empty_text.json
abbrev pub an_empty_text_document : List ℕ
an_empty_text_document =
    codes "{\"version\":1,\"topics\":[\"x\"],\"nodes\":[{\"name\":\"n\",\"actions\":[{\"name\":\"a\"}]}],\"moments\":[1,2],\"feed\":[" ++
    codes "{\"round\":1,\"action\":\"a\",\"cancel\":\"\"}]}" ++ 10 ∷
    []

-- cases/ids/behind_the_prefix.json
abbrev pub behind_the_prefix_document : List ℕ
behind_the_prefix_document =
    codes "{\"version\":1,\"nodes\":[{\"name\":\"n\",\"actions\":[{\"name\":\"a\"}]}],\"moments\":[10],\"feed\":[{\"round\":1,\"acti" ++
    codes "on\":\"a\",\"cancel\":\"URN:uuid:00000000-0000-0000-0000-000000000000\"}]}" ++ 10 ∷
    []

abbrev pub behind_the_prefix_transcript : List ℕ
behind_the_prefix_transcript =
    codes "round 1 10" ++ 10 ∷
    codes "run a cancel 0 0 00000000-0000-0000-0000-000000000000" ++ 10 ∷
    codes "code a 1 0" ++ 10 ∷
    codes "end 1" ++ 10 ∷
    []

-- cases/ids/in_braces.json
abbrev pub in_braces_document : List ℕ
in_braces_document =
    codes "{\"version\":1,\"nodes\":[{\"name\":\"n\",\"actions\":[{\"name\":\"a\"}]}],\"moments\":[10],\"feed\":[{\"round\":1,\"acti" ++
    codes "on\":\"a\",\"cancel\":\"{00000000-0000-0000-0000-000000000000}\"}]}" ++ 10 ∷
    []

abbrev pub in_braces_transcript : List ℕ
in_braces_transcript =
    codes "round 1 10" ++ 10 ∷
    codes "run a cancel 0 0 00000000-0000-0000-0000-000000000000" ++ 10 ∷
    codes "code a 1 0" ++ 10 ∷
    codes "end 1" ++ 10 ∷
    []

-- cases/ids/of_32_digits.json
abbrev pub of_32_digits_document : List ℕ
of_32_digits_document =
    codes "{\"version\":1,\"nodes\":[{\"name\":\"n\",\"actions\":[{\"name\":\"a\"}]}],\"moments\":[10],\"feed\":[{\"round\":1,\"acti" ++
    codes "on\":\"a\",\"goal\":\"0000000000000000000000000000000A\",\"value\":5}]}" ++ 10 ∷
    []

abbrev pub of_32_digits_transcript : List ℕ
of_32_digits_transcript =
    codes "round 1 10" ++ 10 ∷
    codes "run a goal 5 0 00000000-0000-0000-0000-00000000000a" ++ 10 ∷
    codes "decide a 00000000-0000-0000-0000-00000000000a 1" ++ 10 ∷
    codes "end 1" ++ 10 ∷
    []

-- cases/ids/of_zeros.json
abbrev pub of_zeros_document : List ℕ
of_zeros_document =
    codes "{\"version\":1,\"nodes\":[{\"name\":\"n\",\"actions\":[{\"name\":\"a\",\"on_goal\":[[\"decide\",3]],\"on_cancel\":[[\"dec" ++
    codes "ide\",2]],\"script\":[]}]}],\"moments\":[10],\"feed\":[{\"round\":1,\"action\":\"a\",\"goal\":\"00000000-0000-0000-0" ++
    codes "000-000000000000\",\"value\":5}]}" ++
    []
