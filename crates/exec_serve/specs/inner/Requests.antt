-- What a reader of documents takes.
use Rattle.std.specs.Prelude.{◌≡◌, ◌⊎◌, ℕ, ◌<◌, ◌≤◌, List, [], ◌++◌, length, true, ⊤}
use Rattle.std.specs.Io.KnownBytes.{Consumes, IsAtEnd}
use Rattle.exec_msg.specs.declared.limits.TheConstants.{DOCUMENT}
use Rattle.exec_io.specs.Streams.{ReaderState}
use Rattle.exec_serve.specs.declared.requests.Request.{Request}
use Rattle.exec_serve.specs.declared.requests.Request.TheVariants as request
use Rattle.exec_serve.specs.Serving.{IsCutOff, length_bytes}

-- a reader took these bytes
abbrev pub Takes : ReaderState → ReaderState → List ℕ → Type 0
Takes before after bytes = Consumes before.remaining after.remaining bytes

-- bytes that were read are given as a document, or memory was refused for them
abbrev pub IsRead : List ℕ → Request → Type 0
IsRead bytes request.End = ⊥
IsRead bytes (request.Document document) = document.items ≡ bytes
IsRead bytes request.NoMemory = ⊤

-- a reader found the end, or took a document behind its length
abbrev pub HasTaken : ReaderState → ReaderState → Request → Type 0
HasTaken before after request.End = Takes before after [] × IsAtEnd after.remaining
HasTaken before after (request.Document document) = (length document.items ≤ DOCUMENT) × Takes before after (length_bytes document.items ++ document.items)
HasTaken before after request.NoMemory = (document : List ℕ) × (length document ≤ DOCUMENT) × Takes before after (length_bytes document ++ document)

-- a read failed, or the reader ended, before this many bytes came
abbrev pub IsShort : ReaderState → ReaderState → ℕ → Type 0
IsShort before after size = ((after.failed ≡ true) ⊎ IsAtEnd after.remaining) × ((bytes : List ℕ) × (length bytes < size) × Takes before after bytes)

-- no request follows
abbrev pub HasEnded : ReaderState → ReaderState → Type 0
HasEnded before after = (taken : List ℕ) × Takes before after taken × IsCutOff after.failed after.remaining taken
