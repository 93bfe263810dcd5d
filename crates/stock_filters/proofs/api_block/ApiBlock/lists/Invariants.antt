use Rattle.std.proofs.Common.{◌≡◌, drop}
use Rattle.stock_filters.specs.ApiBlock.{is_blocked}
use Rattle.stock_filters.proofs.api_block.ApiBlock.lists.Given as goal

abbrev pub invariant-loop-listed : goal.invariant-loop-listed
invariant-loop-listed l = is_blocked (drop l.listed-index l.self.keys.items) l.key ≡ is_blocked l.self.keys.items l.key
