use Rattle.std.proofs.Common.{◌∙◌, ap}
use Rattle.tree_spelling.specs.declared.primitive.Primitive.TheVariants.{Count}
use Rattle.tree_spelling.specs.Shape.{nest}
use Rattle.tree_codec.proofs.Retaining.{if_ok, array_copied}
use Rattle.tree_codec.proofs.retain.retain_entries.Goals as goal

pub returns-clause-ok : goal.returns-clause-ok
returns-clause-ok c =
    if_ok _ _ c.copy_flagged.result (λ left copied. array_copied (nest c.args.fields.now c.args.depth) c.args.rest.now c.in-Some.first.now c.in-Some.behind.now c.in-Some-entries.count c.flag_count.result c.args.keep.now c.args.out.now c.push.new.out c.copy_flagged.new.out left.now c.in-Some.ensures.cases.0 (c.in-Count.is ∙ ap (λ z. Count z) c.in-Some-entries.is) c.flag_count.ensures c.in_ok-push.ensures.ok copied) c.copy_flagged.ensures.ok
