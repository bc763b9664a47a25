-- Words of the laws on requests.
use Rattle.std.specs.Prelude.{◌≢◌, ℕ, ◌≤◌, List, ◌++◌, length}
use Rattle.exec_msg.specs.declared.limits.TheConstants.{DOCUMENT}
use Rattle.exec_serve.specs.Serving.{Exchange, request_bytes}

-- a document may be asked for: it has a lawful size
abbrev pub IsAsked : Exchange → Type 0
IsAsked exchange = length exchange.document ≤ DOCUMENT

-- bytes don't begin with a whole request
abbrev pub BeginWithNoRequest : List ℕ → Type 0
BeginWithNoRequest bytes = (one : Exchange) (rest : List ℕ) → IsAsked one → bytes ≢ request_bytes one ++ rest
