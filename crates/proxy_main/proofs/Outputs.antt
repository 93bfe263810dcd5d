-- What a sink took in several writes.
use Rattle.std.proofs.Common.{◌≡◌, List, ℕ, ◌++◌, Option, Some, subst, append_assoc}
use Rattle.std.specs.Prelude.{IfSome}
use Rattle.proxy_main.specs.Output.{Appends}

-- a piece more behind what was taken
pub Appends-more : (before between after : Option (List ℕ)) (front piece : List ℕ) → Appends before front between → IfSome between (λ xs. after ≡ Some (xs ++ piece)) → Appends before (front ++ piece) after
Appends-more before between after front piece first then_more taken e =
    let both : after ≡ Some ((taken ++ front) ++ piece) = subst (λ o. IfSome o (λ xs. after ≡ Some (xs ++ piece))) (first taken e) then_more in
    rw append_assoc at both
