use Rattle.std.proofs.Common.{◌≡◌, ◌∷◌, [], false, Some, None, sym, ◌∙◌, refl, arith, string_bytes}
use Rattle.std.specs.List.{list_any}
use Rattle.std.specs.Str.{bytes_eq}
use Rattle.std.proofs.lemmas.Grind.{common_steps}
use Rattle.toml.proofs.Views.{Entry}
use Rattle.toml.specs.View.{members_view}
use Rattle.proxy_config.specs.Meant.{first_unknown, keys_of}
use Rattle.proxy_config.proofs.Unknown.{all_known, one_unknown}
use Rattle.proxy_config.proofs.keys.only_known.Goals as goal

pub returns-then-not-is_known : goal.returns-then-not-is_known
returns-then-not-is_known c =
    let (can, finite, same) = c.loop-key.invariant in
    let e : Entry = (c.in-Some.key.now, c.in-Some._value.now) in
    let iter : c.loop-key.key-iterator ≡ e ∷ c.next.new.self = grind (arith, common_steps) in
    let strange : list_any (bytes_eq (string_bytes e.0)) (keys_of c.args.cluster) ≡ false = grind (arith, common_steps) in
    let found : first_unknown (keys_of c.args.cluster) (members_view c.args.table.now.entries) ≡ Some (string_bytes e.0) = sym same ∙ rw (iter, strange) refl in
    one_unknown c.args.cluster (members_view c.args.table.now.entries) (string_bytes e.0) c.refuse.result found (rw c.as_bytes-then-not-is_known.ensures.value at c.refuse.ensures)

pub returns : goal.returns
returns c =
    let (can, finite, same) = c.loop-key.invariant in
    let none : c.loop-key.key-iterator ≡ [] = grind (arith, common_steps) in
    all_known c.args.cluster (members_view c.args.table.now.entries) (sym same ∙ rw none refl)
