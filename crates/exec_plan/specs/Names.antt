-- Names of nodes, callback groups, topics and entities.
use Rattle.std.specs.Prelude.{ℕ, List, [], ◌∷◌, length, Bool, true, not, ◌&&◌, ◌||◌, ◌==◌, nat_le}
use Rattle.std.specs.List.{list_all, list_any}
use Rattle.std.specs.Str.{bytes_eq}
use Rattle.exec_msg.specs.declared.limits.TheConstants.{NAME_LENGTH}

-- `A-Z a-z 0-9 _ /`
abbrev pub is_name_byte : ℕ → Bool
is_name_byte byte =
    (nat_le 65 byte && nat_le byte 90) || (nat_le 97 byte && nat_le byte 122) || (nat_le 48 byte && nat_le byte 57)
    || (byte == 95) || (byte == 47)

-- a name has 1 to 64 of these characters
abbrev pub is_name : List ℕ → Bool
is_name text = nat_le 1 (length text) && nat_le (length text) NAME_LENGTH && list_all is_name_byte text

-- no two texts are the same
abbrev pub are_distinct : List (List ℕ) → Bool
are_distinct [] = true
are_distinct (text ∷ texts) = not (list_any (λ other. bytes_eq other text) texts) && are_distinct texts
