-- Which calls of service clients pend.
use Rattle.std.specs.Prelude.{ℕ, List, ◌==◌, Bool, false, find}
use Rattle.std.specs.List.{list_any}
use Rattle.std.specs.Option.{option_map_or}
use Rattle.exec_msg.specs.Numbers.{EntityNo}
use Rattle.exec_rules.specs.World.{ClientEntry, is_client_at}

-- whether a service client's call of a number pends
abbrev pub has_pending : ℕ → ClientEntry → Bool
has_pending number client = list_any (λ call. call == number) client.pending

-- whether that call pends at the service client of an entity. If there is no such client, no call pends
abbrev pub is_pending_in : EntityNo → ℕ → List ClientEntry → Bool
is_pending_in client number clients = option_map_or (has_pending number) (find (is_client_at client) clients) false
