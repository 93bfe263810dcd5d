use Rattle.std.proofs.Common.{refl, ◌++◌, take, drop, ◌∙◌, ap, sym, append_assoc}
use Rattle.std.proofs.lemmas.List.{take-append-drop}
use Rattle.proxy_main.proofs.Outputs.{Appends-more}
use Rattle.proxy_main.proofs.output.write_all.Goals as goal

pub loop-rest-preserved : goal.loop-rest-preserved
loop-rest-preserved g c =
    let inv = c.loop-rest.invariant in
    let n = c.in_ok-taken.taken in
    let rest = c.loop-rest.rest.now in
    record {
      front = inv.front ++ take n rest;
      parts = inv.parts ∙ ap (λ r. inv.front ++ r) (sym (take-append-drop n rest)) ∙ sym (append_assoc inv.front (take n rest) (drop n rest)) ∙ ap (λ r. inv.front ++ take n rest ++ r) (sym c.split_at.ensures.back);
      appends = Appends-more _ _ _ _ _ inv.appends c.in_ok-taken.ensures.bytes;
      same = c.in_ok-taken.ensures.cause.kept refl ∙ inv.same;
    }
