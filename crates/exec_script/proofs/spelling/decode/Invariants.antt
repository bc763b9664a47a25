use Rattle.std.proofs.Common.{◌≡◌, ◌++◌, map, drop, Ok}
use Rattle.exec_script.specs.Spelling.{◌>>=◌, script_of}
use Rattle.exec_script.proofs.spelling.decode.Given as goal

-- what is decoded so far, and then what is left, is the whole script
abbrev pub invariant-loop-words : goal.invariant-loop-words
invariant-loop-words g l =
    (script_of (g.S.Scope.names l.scope) (map g.W.Spelling.words (drop l.words-index l.spelled)) >>= (λ rest. Ok (l.script.items ++ rest)))
    ≡ script_of (g.S.Scope.names l.scope) (map g.W.Spelling.words l.spelled)
