-- Worked cases: clock.
use Rattle.std.specs.Prelude.{ℕ, List, [], ◌∷◌, ◌++◌, codes}

-- cases/clock/a_moment_that_goes_back.json
abbrev pub a_moment_that_goes_back_document : List ℕ
a_moment_that_goes_back_document =
    codes "{\"version\":1,\"moments\":[5,4]}" ++ 10 ∷
    []

-- cases/clock/a_round_0.json
abbrev pub a_round_0_document : List ℕ
a_round_0_document =
    codes "{\"version\":1,\"topics\":[\"x\"],\"nodes\":[{\"name\":\"n\",\"actions\":[{\"name\":\"a\"}]}],\"moments\":[1,2],\"feed\":[" ++
    codes "{\"round\":0,\"topic\":\"x\",\"value\":1}]}" ++ 10 ∷
    []

-- cases/clock/a_round_beyond_the_moments.json
abbrev pub a_round_beyond_the_moments_document : List ℕ
a_round_beyond_the_moments_document =
    codes "{\"version\":1,\"topics\":[\"x\"],\"nodes\":[{\"name\":\"n\",\"actions\":[{\"name\":\"a\"}]}],\"moments\":[1,2],\"feed\":[" ++
    codes "{\"round\":3,\"topic\":\"x\",\"value\":1}]}" ++ 10 ∷
    []

-- cases/clock/and_no_identifier.json
abbrev pub and_no_identifier_document : List ℕ
and_no_identifier_document =
    codes "{\"version\":1,\"topics\":[\"x\"],\"nodes\":[{\"name\":\"n\",\"actions\":[{\"name\":\"a\"}]}],\"moments\":[1,2],\"feed\":[" ++
    codes "{\"round\":3,\"action\":\"a\",\"goal\":\"no\",\"value\":1}]}" ++ 10 ∷
    []

-- cases/clock/feed_beyond_the_rounds.json
abbrev pub feed_beyond_the_rounds_document : List ℕ
feed_beyond_the_rounds_document =
    codes "{\"version\":1,\"moments\":[1],\"topics\":[\"x\"],\"feed\":[{\"round\":2,\"topic\":\"x\",\"value\":1}]}" ++
    []

-- cases/clock/moments_alike.json
abbrev pub moments_alike_document : List ℕ
moments_alike_document =
    codes "{\"version\":1,\"nodes\":[{\"name\":\"n\",\"timers\":[{\"name\":\"t\",\"period\":1}]}],\"moments\":[0,5,5,5]}" ++
    []

abbrev pub moments_alike_transcript : List ℕ
moments_alike_transcript =
    codes "round 1 0" ++ 10 ∷
    codes "round 2 5" ++ 10 ∷
    codes "run t timer 5 0" ++ 10 ∷
    codes "round 3 5" ++ 10 ∷
    codes "run t timer 5 0" ++ 10 ∷
    codes "round 4 5" ++ 10 ∷
    codes "end 4" ++ 10 ∷
    []

-- cases/clock/the_greatest_round.json
abbrev pub the_greatest_round_document : List ℕ
the_greatest_round_document =
    codes "{\"version\":1,\"topics\":[\"x\"],\"nodes\":[{\"name\":\"n\",\"actions\":[{\"name\":\"a\"}]}],\"moments\":[1,2],\"feed\":[" ++
    codes "{\"round\":18446744073709551615,\"topic\":\"x\",\"value\":1}]}" ++ 10 ∷
    []
