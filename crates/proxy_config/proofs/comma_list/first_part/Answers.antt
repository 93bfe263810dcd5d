use Rattle.std.proofs.Common.{◌≡◌, ◌+◌, sym}
use Rattle.std.proofs.lemmas.List.{take_rest}
use Rattle.proxy_config.proofs.Commas.{part_before, one_part}
use Rattle.proxy_config.proofs.comma_list.first_part.Goals as goal

pub returns-in-Some-clause-parts : goal.returns-in-Some-clause-parts
returns-in-Some-clause-parts c =
    rw (take_rest c.args.text.now (c.in-Some.comma + 1)) (part_before c.args.text.now c.in-Some.comma (sym c.in-Some.ensures.first))

pub returns-in-None-clause-parts : goal.returns-in-None-clause-parts
returns-in-None-clause-parts c = one_part c.args.text.now (sym c.in-None.ensures.first)
