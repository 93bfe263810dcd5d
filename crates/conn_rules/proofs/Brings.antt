-- Calls of a connection, one after another.
use Rattle.std.proofs.Common.{◌∙◌, List, [], ◌∷◌, ◌++◌, subst, refl}
use Rattle.conn_rules.specs.Meaning.{Meaning}
use Rattle.conn_rules.specs.State.{State}
use Rattle.conn_rules.specs.History.{Entry, LeadsTo}
use Rattle.conn_rules.specs.Connections.{Follows, Brings}

pub leads_then : (M : Meaning) (s t u : State) (hs ks : List Entry) → LeadsTo M s hs t → LeadsTo M t ks u → LeadsTo M s (hs ++ ks) u
leads_then M s t u [] ks run more = subst (λ x. LeadsTo M x ks u) run more
leads_then M s t u (h ∷ hs) ks run more = (run.0, run.1, leads_then M run.0 t u hs ks run.2 more)

module _ {C : Type 0} (meaning : C → Meaning) (stands : C → State → Type 0) where
  -- one call
  pub brings_one : (old new : C) (h : Entry) → Follows meaning stands old h.event h.reply new → Brings meaning stands old (h ∷ []) new
  brings_one old new h follows =
      (follows.0, λ s is. let f = follows.1 s is in (f.0, (f.0, f.1, refl), f.2))
