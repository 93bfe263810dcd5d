-- What the value of a key stands for, or what is amiss with it.
use Rattle.std.specs.Prelude.{◌≡◌, ℕ, ◌+◌, ◌^◌, ◌==◌, nat_le, nat_lt, Bool, true, false, ◌&&◌, ℤ, pos, negsuc, List, [], ◌∷◌, ◌++◌, if◌then◌else◌, Option, Some, None, unwrap_or, is_some, Result, Ok, Err}
use Rattle.std.specs.Option.{option_to_list}
use Rattle.toml.specs.Data.{Data, string, integer, float, boolean, datetime, array, table, Items, no_items, item, Members, no_members, member, get_member, as_str, as_table}
use Rattle.virtual_cluster.specs.Limits.{is_in_range}
use Rattle.virtual_cluster.specs.declared.address.Address.{Address}
use Rattle.virtual_cluster.specs.declared.filter_plan.FilterPlan.{FilterPlan}
use Rattle.proxy_config.specs.Texts.{address_of, filter_of}
use Rattle.proxy_config.specs.declared.fault.ConfigFault.{ConfigFault}
use Rattle.proxy_config.specs.declared.fault.ConfigFault.TheVariants.{Missing, WrongType, BadValue, UnknownFilter}
use Rattle.proxy_config.specs.declared.fault.Place.{Place}

-- a value of that type, or what is amiss
abbrev pub Given : Type 0 → Type 0
Given A = Result A ConfigFault

-- a string
abbrev pub text_value : Place → Data → Given (List ℕ)
text_value p (string s) = Ok s
text_value p _ = Err (WrongType p)

-- a string that may be missing
abbrev pub some_text_in : Place → Data → Given (Option (List ℕ))
some_text_in p (string s) = Ok (Some s)
some_text_in p _ = Err (WrongType p)

-- an integer from 0 to `most`
abbrev pub natural_in : ℕ → Place → Data → Given ℕ
natural_in most p (integer (pos n)) = if nat_le n most then Ok n else Err (BadValue p)
natural_in most p (integer (negsuc n)) = Err (BadValue p)
natural_in most p _ = Err (WrongType p)

-- an integer of 32 bits
abbrev pub is_int32 : ℤ → Bool
is_int32 (pos n) = nat_lt n (2 ^ 31)
is_int32 (negsuc n) = nat_lt n (2 ^ 31)

abbrev pub int32_value : Place → Data → Given ℤ
int32_value p (integer z) = if is_int32 z then Ok z else Err (BadValue p)
int32_value p _ = Err (WrongType p)

-- the version of this format, which is 1
abbrev pub version_in : Place → Data → Given ℕ
version_in p (integer (pos n)) = if n == 1 then Ok 1 else Err (BadValue p)
version_in p (integer (negsuc n)) = Err (BadValue p)
version_in p _ = Err (WrongType p)

-- an address
abbrev pub address_or : Place → Option Address → Given Address
address_or p None = Err (BadValue p)
address_or p (Some address) = Ok address

abbrev pub address_in : Place → Data → Given Address
address_in p (string s) = address_or p (address_of s)
address_in p _ = Err (WrongType p)

-- a string as it stands in a list
abbrev pub text_of : Data → List ℕ
text_of d = unwrap_or (as_str d) []

abbrev pub are_texts : Items → Bool
are_texts no_items = true
are_texts (item d ds) = is_some (as_str d) && are_texts ds

abbrev pub texts : Items → List (List ℕ)
texts no_items = []
texts (item d ds) = text_of d ∷ texts ds

-- strings
abbrev pub texts_in : Place → Data → Given (List (List ℕ))
texts_in p (array ds) = if are_texts ds then Ok (texts ds) else Err (WrongType p)
texts_in p _ = Err (WrongType p)

abbrev pub are_addresses : Items → Bool
are_addresses no_items = true
are_addresses (item d ds) = is_some (address_of (text_of d)) && are_addresses ds

abbrev pub address_list : Items → List Address
address_list no_items = []
address_list (item d ds) = option_to_list (address_of (text_of d)) ++ address_list ds

-- addresses: first each has to be a string
abbrev pub addresses_in : Place → Data → Given (List Address)
addresses_in p (array ds) =
    if are_texts ds then (if are_addresses ds then Ok (address_list ds) else Err (BadValue p)) else Err (WrongType p)
addresses_in p _ = Err (WrongType p)

-- the first text that asks for no filter
abbrev pub first_strange : Items → Option (List ℕ)
first_strange no_items = None
first_strange (item d ds) = if is_some (filter_of (text_of d)) then first_strange ds else Some (text_of d)

abbrev pub filters : Items → List FilterPlan
filters no_items = []
filters (item d ds) = option_to_list (filter_of (text_of d)) ++ filters ds

-- filters: first each has to be a string. A text that asks for none is named in place of the key.
abbrev pub filters_or : Place → Option (List ℕ) → List FilterPlan → Given (List FilterPlan)
filters_or p None all = Ok all
filters_or p (Some text) all = Err (UnknownFilter (record { cluster = p.cluster; key = text }))

abbrev pub filters_in : Place → Data → Given (List FilterPlan)
filters_in p (array ds) = if are_texts ds then filters_or p (first_strange ds) (filters ds) else Err (WrongType p)
filters_in p _ = Err (WrongType p)

abbrev pub are_tables : Items → Bool
are_tables no_items = true
are_tables (item d ds) = is_some (as_table d) && are_tables ds

abbrev pub items_count : Items → ℕ
items_count no_items = 0
items_count (item d ds) = 1 + items_count ds

-- 1 to 64 tables
abbrev pub tables_in : Place → Data → Given Items
tables_in p (array ds) =
    if are_tables ds then (if is_in_range 1 64 (items_count ds) then Ok ds else Err (BadValue p)) else Err (WrongType p)
tables_in p _ = Err (WrongType p)

-- what the key of a place gives, where the key has to be there, and where it may be missing
abbrev pub required_at : {A : Type 0} → (Place → Data → Given A) → Place → Option Data → Given A
required_at read p None = Err (Missing p)
required_at read p (Some d) = read p d

abbrev pub optional_at : {A : Type 0} → A → (Place → Data → Given A) → Place → Option Data → Given A
optional_at default read p None = Ok default
optional_at default read p (Some d) = read p d

unfoldable pub required : {A : Type 0} → (Place → Data → Given A) → Place → Members → Given A
required read p t = required_at read p (get_member p.key t)

unfoldable pub optional : {A : Type 0} → A → (Place → Data → Given A) → Place → Members → Given A
optional default read p t = optional_at default read p (get_member p.key t)
