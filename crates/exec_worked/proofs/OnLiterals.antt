-- What an answer unfolds to compute the transcript of a literal document.
use Rattle.std.specs.Prelude.{⊤}
use Rattle.std.specs.Fmt.{digits}
use Rattle.exec_msg.specs.Line.{id_text}
use Rattle.exec_doc.proofs.OnLiterals.{document_on_literals}

unfoldable pub transcript_on_literals : ⊤
unfolding document_on_literals digits id_text
transcript_on_literals = tt
