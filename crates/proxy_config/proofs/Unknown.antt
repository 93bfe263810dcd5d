-- The first key of a table that isn't known.
use Rattle.std.proofs.Common.{◌≡◌, ℕ, List, refl, ap, sym, Option, Some, None, Ok, Err, ◌⊎◌, inl, inr}
use Rattle.toml.specs.Data.{Members}
use Rattle.proxy_config.specs.Meant.{first_unknown, keys_of, key_place, unknown_key, unless}
use Rattle.proxy_config.specs.Steps.{IsFault}
use Rattle.proxy_config.specs.declared.fault.ConfigFault.{ConfigFault}
use Rattle.proxy_config.specs.declared.fault.ConfigFault.TheVariants.{UnknownKey, NoMemory}

pub all_known : (cluster : Option ℕ) (t : Members) → first_unknown (keys_of cluster) t ≡ None → unless (unknown_key cluster t) (tt {0}) ≡ Ok (tt {0})
unfolding unknown_key
all_known cluster t none = rw none refl

pub one_unknown : (cluster : Option ℕ) (t : Members) (k : List ℕ) (e : ConfigFault) → first_unknown (keys_of cluster) t ≡ Some k → IsFault e (UnknownKey (key_place cluster k))
    → (e ≡ NoMemory) ⊎ (unless (unknown_key cluster t) (tt {0}) ≡ Err e)
unfolding unknown_key
one_unknown cluster t k e found (inl memory) = inl memory
one_unknown cluster t k e found (inr same) = inr (rw found (ap Err (sym same)))
