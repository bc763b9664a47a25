-- What an answer unfolds to compute the plan of a literal document, and the text of its upgrade.
use Rattle.std.specs.Prelude.{⊤}
use Rattle.std.specs.Fmt.{digits}
use Rattle.std.specs.Str.{chars, is_utf8}
use Rattle.serde_json.proofs.OnLiterals.{serde_json_on_literals}
use Rattle.uuid.proofs.OnLiterals.{uuid_on_literals}

unfoldable pub document_on_literals : ⊤
unfolding chars is_utf8 serde_json_on_literals uuid_on_literals
document_on_literals = tt

unfoldable pub upgrade_on_literals : ⊤
unfolding document_on_literals digits
upgrade_on_literals = tt
