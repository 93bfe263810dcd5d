-- What a text stands for: an address, or a filter.
use Rattle.std.specs.Prelude.{ℕ, ◌+◌, ◌==◌, nat_le, not, ◌&&◌, Bool, List, [], ◌∷◌, ◌++◌, length, take, drop, codes, if◌then◌else◌, position, Option, Some, None, option_map, option_and_then, is_some, ℤ, pos}
use Rattle.std.specs.Option.{option_to_list}
use Rattle.std.specs.List.{list_all}
use Rattle.std.specs.Str.{bytes_eq, all_ascii_digits}
use Rattle.std.specs.Str.Parse.{digits_value}
use Rattle.virtual_cluster.specs.Limits.{is_in_range}
use Rattle.virtual_cluster.specs.declared.address.Address.{Address}
use Rattle.virtual_cluster.specs.declared.filter_plan.FilterPlan.{FilterPlan}
use Rattle.virtual_cluster.specs.declared.filter_plan.FilterPlan.TheVariants.{ProduceAll, TopicDeny, ApiBlock, TopicPolicy, TopicExists, GroupLive}

-- a number of 1 to 5 digits, at most `most`
unfoldable pub short_number : ℕ → List ℕ → Option ℕ
short_number most word =
    if is_in_range 1 5 (length word) && (all_ascii_digits word && nat_le (digits_value 10 word) most)
    then Some (digits_value 10 word) else None

-- a host of 1 to 255 bytes, and a port that isn't 0
abbrev pub address_at : List ℕ → Option ℕ → Option Address
address_at host None = None
address_at host (Some port) = if is_in_range 1 255 (length host) && nat_le 1 port then Some (record { host = host; port = port }) else None

-- `HOST:PORT`, where the first colon ends the host
unfoldable pub address_of : List ℕ → Option Address
address_of text =
    option_and_then (λ i. address_at (take i text) (short_number 65535 (drop (i + 1) text))) (position (λ c. c == 58) text)

-- the byte before the first of the parts
abbrev pub longer_first : ℕ → List (List ℕ) → List (List ℕ)
longer_first c [] = []
longer_first c (part ∷ parts) = (c ∷ part) ∷ parts

-- the parts between the commas
abbrev pub comma_parts : List ℕ → List (List ℕ)
comma_parts [] = [] ∷ []
comma_parts (c ∷ cs) = if c == 44 then [] ∷ comma_parts cs else longer_first c (comma_parts cs)

-- one name or more, none of them empty
unfoldable pub denied_topics : List ℕ → Option (List (List ℕ))
denied_topics text = if list_all (λ part. nat_le 1 (length part)) (comma_parts text) then Some (comma_parts text) else None

-- the API keys among the parts: 1 to 5 digits, at most 32,767
abbrev pub keys_in : List (List ℕ) → List ℤ
keys_in [] = []
keys_in (part ∷ parts) = option_to_list (option_map pos (short_number 32767 part)) ++ keys_in parts

-- one API key or more, and nothing else
unfoldable pub blocked_keys : List ℕ → Option (List ℤ)
blocked_keys text =
    if list_all (λ part. is_some (short_number 32767 part)) (comma_parts text)
    then Some (keys_in (comma_parts text)) else None

-- what stands behind a front
abbrev pub behind : List ℕ → List ℕ → Option (List ℕ)
behind front text = if bytes_eq (take (length front) text) front then Some (drop (length front) text) else None

-- a filter with a list behind its word
abbrev pub listed_filter : Option (List ℕ) → Option (List ℕ) → Option FilterPlan
listed_filter (Some topics) keys = option_map TopicDeny (denied_topics topics)
listed_filter None (Some keys) = option_map ApiBlock (blocked_keys keys)
listed_filter None None = None

-- the filter that a text asks for
unfoldable pub filter_of : List ℕ → Option FilterPlan
filter_of text =
    if bytes_eq text (codes "produce-all") then Some ProduceAll
    else if bytes_eq text (codes "topic-policy") then Some TopicPolicy
    else if bytes_eq text (codes "topic-exists") then Some TopicExists
    else if bytes_eq text (codes "group-live") then Some GroupLive
    else listed_filter (behind (codes "topic-deny:") text) (behind (codes "api-block:") text)
