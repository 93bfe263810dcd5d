use Rattle.std.proofs.Common.{◌≡◌, ◌∙◌, drop, Ok, IfOk, sym, ap, subst, refl}
use Rattle.std.proofs.lemmas.Iterator.{items_from_collect}
use Rattle.std.proofs.lemmas.Iterator.Adapters.{YieldsList-from_vec}
use Rattle.std.specs.Vec.Iter.{into_iter_items}
use Rattle.std.specs.declared.alloc.AllocError.{AllocError}
use Rattle.kproxy.proofs.words_of.Goals as goal

pub returns-in_ok-collect-in-Ok-clause-behind_name :
    goal.returns-in_ok-collect-in-Ok-clause-behind_name
returns-in_ok-collect-in-Ok-clause-behind_name c =
    let all = c.in-Ok.all in
    let whole = YieldsList-from_vec (into_iter_items all) refl all.rest.ok.0 in
    let filled = items_from_collect {E = AllocError} (Ok c.in_ok-collect-in-Ok.field-0) c.in_ok-collect-in-Ok.ensures.ran whole in
    let kept = c.behind_name.ensures ∙ ap (λ words. drop 1 words) filled in
    subst (λ r. IfOk r (λ all. c.behind_name.result.items ≡ drop 1 (into_iter_items all))) (sym c.in-Ok.is) kept
