-- The host of a URL, as a connection is made to it.
use Rattle.std.specs.Prelude.{ℕ, ◌-◌, ◌==◌, ◌&&◌, nat_le, List, length, take, drop, get_or, Option, option_map, if◌then◌else◌}
use Rattle.url.specs.Host.{host_text}
use Rattle.url.specs.Parts.{Parts, nonempty_host}

-- a host without the brackets round it, if it has them
abbrev pub without_brackets : List ℕ → List ℕ
without_brackets host =
    if nat_le 2 (length host) && get_or host 0 0 == 91 && get_or host (length host - 1) 0 == 93
    then take (length host - 2) (drop 1 host)
    else host

-- none where the URL has none, or an empty one
abbrev pub host_of : Parts → Option (List ℕ)
host_of url = option_map (λ host. without_brackets (host_text host)) (nonempty_host url)
