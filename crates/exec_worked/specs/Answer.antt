-- What a document is answered by the definitions.
use Rattle.std.specs.Prelude.{ℕ, List, Option}
use Rattle.std.specs.Option.{option_map}
use Rattle.exec_doc.specs.Document.{document_of}
use Rattle.exec_rules.specs.Transcript.{text_of}

-- the transcript of the plan that bytes say, if they say one
abbrev pub transcript_of : List ℕ → Option (List ℕ)
transcript_of bytes = option_map text_of (document_of bytes)
