use Rattle.std.proofs.Common.{◌≡◌, ◌≤◌, ℕ, List, ◌∷◌, [], ◌++◌, length, sym, ap, ◌∙◌, subst, arith}
use Rattle.tree_spelling.specs.declared.primitive.Primitive.{Primitive}
use Rattle.std.proofs.lemmas.Result.{err_from_is_err_and}
use Rattle.tree_spelling.specs.Shape.{nest}
use Rattle.tree_codec.specs.Found.{primitive_of, EndsAtPlace}
use Rattle.tree_codec.specs.Decoding.{IsReaderOf}
use Rattle.tree_codec.proofs.Parts.{ends_there}
use Rattle.tree_codec.proofs.Progress.{items_decoded, fault_decoded}
use Rattle.tree_codec.proofs.decoder.read_items.Goals as goal

pub keep-requires : goal.keep-requires
keep-requires c =
    let i = c.loop-items.invariant in
    let more = c.in_ok-found.ensures.ok (nest c.args.fields.now 0) c.args.bytes.now c.loop-items.items.items i in
    let one = rw c.in-Some.is at more in
    let reads = rw c.in-Some.is at c.in_ok-found.ensures.reads in
    let within : c.next.new.self.reader.at ≤ length c.args.bytes.now = omega (arith, c.at.ensures.at, c.at.ensures.within, ap length one.frame) in
    let ends = subst (λ n. EndsAtPlace c.args.bytes.now n c.in-Some.found) (sym c.at.ensures.at) (ends_there c.in-Some.found c.args.bytes.now c.loop-items.reader.reader c.next.new.self.reader reads i.frame within) in
    subst (λ (frame : List ℕ). EndsAtPlace frame c.at.result c.in-Some.found) (sym c.requires) ends

pub loop-items-preserved : goal.loop-items-preserved
loop-items-preserved c =
    let i = c.loop-items.invariant in
    let more = c.in_ok-found.ensures.ok (nest c.args.fields.now 0) c.args.bytes.now c.loop-items.items.items i in
    let one = rw c.in-Some.is at more in
    let pushed : c.push.new.self.items ≡ c.loop-items.items.items ++ (primitive_of c.in-Some.found ∷ []) = c.in_ok-push.ensures.items ∙ ap (λ x. c.loop-items.items.items ++ (x ∷ [])) c.in_ok-keep.ensures in
    subst (λ (xs : List Primitive). IsReaderOf (nest c.args.fields.now 0) c.args.bytes.now xs c.next.new.self) (sym pushed) one

pub returns-in_err-found-clause-decoded : goal.returns-in_err-found-clause-decoded
returns-in_err-found-clause-decoded c =
    let i = c.loop-items.invariant in
    let p = err_from_is_err_and c.from_residual.result c.from_residual.ensures.1 in
    rw (p.1, p.2) (fault_decoded (nest c.args.fields.now 0) c.args.bytes.now c.in_err-found.field-0.0 (λ n. (c.type_inv.bytes n).fits) (c.in_err-found.ensures.err (nest c.args.fields.now 0) c.args.bytes.now c.loop-items.items.items i))

pub returns-clause-decoded : goal.returns-clause-decoded
returns-clause-decoded c =
    let i = c.loop-items.invariant in
    items_decoded (nest c.args.fields.now 0) c.args.bytes.now c.loop-items.items.items (λ n. (c.type_inv.bytes n).fits) (rw c.in_default.is at c.in_ok-found.ensures.ok (nest c.args.fields.now 0) c.args.bytes.now c.loop-items.items.items i)
