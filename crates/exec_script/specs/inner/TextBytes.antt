-- The text that a word holds.
use Rattle.std.specs.Prelude.{ℕ, List, string_bytes}
use Rattle.exec_script.specs.declared.word.TextBytes.{TextBytes}
use Rattle.exec_script.specs.declared.word.TextBytes.TheVariants.{Short, Long}

-- its bytes, which stand in the word or elsewhere
abbrev pub bytes_held : TextBytes → List ℕ
bytes_held (Short text) = text.bytes
bytes_held (Long text) = string_bytes text
